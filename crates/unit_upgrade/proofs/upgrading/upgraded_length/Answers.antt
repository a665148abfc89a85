use Rattle.std.proofs.Common.{◌≡◌, ◌+◌, ◌++◌, length, ap, sym, ◌∙◌, arith}
use Rattle.unit_tree.specs.Canonical.{canonical_text}
use Rattle.unit_tree.specs.Compositions.{default_rows}
use Rattle.unit_upgrade.specs.Added.{lines_text, rows_added, zeros_added}
use Rattle.unit_upgrade.proofs.AddedLengths.{grown, rows_few, zeros_few}
use Rattle.unit_upgrade.proofs.upgrading.upgraded_length.Goals as goal

pub overflow_add-result : goal.overflow_add-result
overflow_add-result c =
    let system = c.args.system.now in
    let text : length c.print_system.new.out.items ≡ length (canonical_text system) =
    ap length (c.in_ok-print_system.ensures.ok ∙ ap (λ front. front ++ canonical_text system) c.new-text.ensures.items) in
    omega (arith, c.requires.printable.text, text, c.len.ensures, c.zeros_length.ensures, zeros_few system.zero)

pub overflow_add-result-2 : goal.overflow_add-result-2
overflow_add-result-2 c =
    let system = c.args.system.now in
    let text : length c.print_system.new.out.items ≡ length (canonical_text system) =
    ap length (c.in_ok-print_system.ensures.ok ∙ ap (λ front. front ++ canonical_text system) c.new-text.ensures.items) in
    omega (
      arith,
      c.requires.printable.text,
      text,
      c.len.ensures,
      c.zeros_length.ensures,
      zeros_few system.zero,
      c.rows_length.ensures,
      rows_few system.rows (default_rows 1 (length system.instances)) (omega arith),
    )

pub returns : goal.returns
returns c =
    let system = c.args.system.now in
    let text : length c.print_system.new.out.items ≡ length (canonical_text system) =
    ap length (c.in_ok-print_system.ensures.ok ∙ ap (λ front. front ++ canonical_text system) c.new-text.ensures.items) in
    let sum : c.len.result + c.zeros_length.result + c.rows_length.result
    ≡ length (canonical_text system) + length (lines_text (zeros_added system)) + length (lines_text (rows_added system)) =
    omega (arith, text, c.len.ensures, c.zeros_length.ensures, c.rows_length.ensures) in
    sum ∙ sym (grown system c.requires.version)
