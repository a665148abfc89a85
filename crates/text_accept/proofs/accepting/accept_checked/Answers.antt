use Rattle.std.proofs.Common.{◌≤◌, refl, sym, subst, length, ℕ, List}
use Rattle.text_accept.proofs.Acceptance.{output_inside}
use Rattle.text_accept.proofs.SourceCycles.{without_cycle}
use Rattle.text_accept.proofs.accepting.accept_checked.Goals as goal

pub returns-in-Ok : goal.returns-in-Ok
returns-in-Ok c = record {
  checked = refl;
  same_lines = refl;
  order = c.in-Ok.ensures.ordered;
  well_formed = c.system.ensures.well_formed;
  ordered = without_cycle c.args.checked c.system.ensures.ranged c.system.ensures.well_formed c.in-Ok.order.places c.in-Ok.ensures.ordered.places;
}

pub at_source-requires-clause-first : goal.at_source-requires-clause-first
at_source-requires-clause-first c =
    let line = c.in-Ok-line_of_cycle.ensures in
    (output_inside c.args.checked c.args.lines line.port c.in-Ok-line_of_cycle.item c.requires line.declared).0

pub at_source-requires-clause-last : goal.at_source-requires-clause-last
at_source-requires-clause-last c =
    let line = c.in-Ok-line_of_cycle.ensures in
    subst (λ (lines : List ℕ). c.in-Ok-line_of_cycle.item ≤ length lines) (sym c.as_slice.ensures)
    (output_inside c.args.checked c.args.lines line.port c.in-Ok-line_of_cycle.item c.requires line.declared).1
