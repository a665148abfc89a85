use Rattle.std.proofs.Common.{◌++◌, List, ℕ, ap, ◌∙◌}
use Rattle.unit_tree.specs.Canonical.{canonical_text}
use Rattle.unit_print.proofs.PrintableLaws.{refused, decided}
use Rattle.unit_print.proofs.printable.is_printable.Goals as goal

pub returns-then-not-parts_fit : goal.returns-then-not-parts_fit
returns-then-not-parts_fit c = refused c.args.system.now c.parts_fit.result c.parts_fit.ensures c.if-not-parts_fit.true

pub returns : goal.returns
returns c =
    decided c.args.system.now c.parts_fit.result c.text_fits.result c.as_slice.result.now c.parts_fit.ensures c.if-not-parts_fit.false
    (c.as_slice.ensures.value ∙ c.in_ok-print_system.ensures.ok ∙ ap (λ
    (old : List ℕ). old ++ canonical_text c.args.system.now) c.new-text.ensures.items) c.text_fits.ensures
