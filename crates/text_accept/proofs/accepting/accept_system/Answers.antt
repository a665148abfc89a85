use Rattle.std.proofs.Common.{◌≤◌, sym, subst, length, ℕ, List}
use Rattle.unit_check.specs.Rules.{IsFaultOf}
use Rattle.text_accept.proofs.Acceptance.{refusal_inside}
use Rattle.text_accept.proofs.accepting.accept_system.Goals as goal

pub at_source-requires-clause-first : goal.at_source-requires-clause-first
at_source-requires-clause-first c =
    let told = subst (IsFaultOf c.args.system) c.in-Err-Line.field-0-is c.in-Err-Line.ensures.refused in
    let inside = refusal_inside c.args.system c.args.lines (record { by = c.in-Err-Line.rule; at = c.in-Err-Line.item }) c.requires.one_for_one told in
    subst (λ n. 1 ≤ n) (sym c.in-Err-Line.item-is) inside.0

pub at_source-requires-clause-last : goal.at_source-requires-clause-last
at_source-requires-clause-last c =
    let told = subst (IsFaultOf c.args.system) c.in-Err-Line.field-0-is c.in-Err-Line.ensures.refused in
    let inside = refusal_inside c.args.system c.args.lines (record { by = c.in-Err-Line.rule; at = c.in-Err-Line.item }) c.requires.one_for_one told in
    subst (λ n. n ≤ length c.as_slice.result.now) (sym c.in-Err-Line.item-is)
    (subst (λ (lines : List ℕ). c.in-Err-Line.item ≤ length lines) (sym c.as_slice.ensures) inside.1)
