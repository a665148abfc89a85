use Rattle.std.proofs.Common.{◌≢◌, ◌∙◌, ◌+◌, ◌-◌, ◌^◌, min, ap}
use Rattle.csv.specs.declared.writer.QuoteStyle.TheVariants as style
use Rattle.csv.specs.Writing.{writer_setup}
use Rattle.trace_csv.proofs.LineLaws.{count_more, field_more}
use Rattle.trace_csv.proofs.line.put_field.Goals as goal
use Rattle.trace_csv.proofs.line.put_field.Goals.{in-Ok, in-Err}

pub returns : goal.returns
returns c =
    λ quoting before fields has bare.
    elim c.match-write_field.branch [
      | in-Ok w ↦
          let e = w.in-Ok.ensures in
          let plain : (writer_setup c.args.line.now).style ≢ style.NonNumeric = rw has.setup has.quotes in
          rw w.result-is (record {
            setup = e.same ∙ has.setup;
            quotes = has.quotes;
            count = e.count ∙ ap (λ n. min (n + 1) (2 ^ 64 - 1)) has.count ∙ count_more fields c.args.field.now;
            text = field_more quoting before _ _ _ _ fields has.text has.count bare (rw has.setup at (e.text plain));
          })
      | in-Err w ↦ rw w.result-is tt
    ]
