use Rattle.std.proofs.Common.{◌∷◌, [], Some, take}
use Rattle.std.specs.Prelude.{codes}
use Rattle.std.specs.List.{filter_map}
use Rattle.csv.specs.declared.writer.QuoteStyle.TheVariants as style
use Rattle.trace_csv.specs.Columns.{title_of}
use Rattle.trace_csv.specs.Writers.{HasFields}
use Rattle.trace_csv.proofs.header.header_text.Given as goal

abbrev pub invariant-loop-column : goal.invariant-loop-column
invariant-loop-column l =
    HasFields (λ v. Some v.items) style.Never [] l.line (codes "time" ∷ codes "index" ∷ filter_map (title_of l.checked) (take l.column-index l.columns))
