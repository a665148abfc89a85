-- A run of two nodes, from its parts.
use Rattle.std.proofs.Common.{◌≡◌, ◌∙◌, ℕ, List, [], ◌++◌, Option, Result, Ok, Err, sym, ap, ap₂, subst}
use Rattle.std.specs.Io.KnownBytes.{Appends}
use Rattle.std.proofs.KnownBytes.{Appends-trans}
use Rattle.cosim_io.specs.Pieces.{AppendsPrefix}
use Rattle.cosim_io.proofs.PieceLemmas.{AppendsPrefix-after, AppendsPrefix-longer, AppendsPrefix-nil}
use Rattle.link_laws.specs.Pairs.{Pair}
use Rattle.link_nodes.specs.Exchanges.{IsOpened, RoundsCome, exchange_rule, pair_of, rule_by_turns}
use Rattle.link_nodes.specs.Rounds.{after_rounds, pair_after}
use Rattle.link_nodes.specs.ShownRows.{ComesTo, IsJudged}
use Rattle.link_nodes.specs.Shown.{BeginsRounds, ShowsRounds, lines_shown, told_of}
use Rattle.link_nodes.specs.declared.exchange.Exchange.{Exchange}
use Rattle.link_nodes.specs.declared.run.Nodes.{Nodes}
use Rattle.run_laws.proofs.RunTraces.{one_trace}
use Rattle.trace_plan.specs.Plans.{Planned}
use Rattle.trace_rows.specs.Lines.{header_of}
use Rattle.trace_rows.specs.declared.fault.CrewFault.{CrewFault}
use Rattle.trace_rows.proofs.RowLaws.{no_lines}
use Rattle.unit_tree.specs.Trace.{Stand}

-- Nothing was written, or a prefix of the header.
pub begins_none : (plan : Planned) (seed rounds : ℕ) (held : Option (List ℕ)) → BeginsRounds plan seed rounds held held
begins_none plan seed rounds held = record {
  begins = λ stands ending trace. AppendsPrefix-nil held
      (header_of plan.system ++ lines_shown plan (pair_after plan.run seed rounds).first stands);
}

pub begins_header : (plan : Planned) (seed rounds : ℕ) (held held' : Option (List ℕ)) → AppendsPrefix held held' (header_of plan.system)
    → BeginsRounds plan seed rounds held held'
begins_header plan seed rounds held held' front = record {
  begins = λ stands ending trace. AppendsPrefix-longer held held' (header_of plan.system)
      (lines_shown plan (pair_after plan.run seed rounds).first stands) front;
}

module _ (plan : Planned) (seed rounds : ℕ) (exchange : Exchange) (opened : IsOpened plan exchange) (held0 held1 held2 : Option (List ℕ))
    (header : Appends held0 held1 (header_of plan.system)) where
  target_is : after_rounds (exchange_rule exchange) seed rounds (pair_of exchange) ≡ pair_after plan.run seed rounds
  target_is = ap₂ (λ (p : Planned) both. after_rounds (rule_by_turns p.run) seed rounds both) opened.plan' opened.pair

  start_is : (stands : List Stand) → lines_shown plan exchange.first.progress stands ≡ []
  start_is stands = ap (λ (p : Pair). lines_shown plan p.first stands) opened.pair ∙ no_lines plan.system

  module _ (next : Exchange) (faults1 faults2 : ℕ) where
    abbrev Gone : Result (Unit {0}) CrewFault → Type 0
    Gone result = RoundsCome exchange (after_rounds (exchange_rule exchange) seed rounds (pair_of exchange)) next held1 held2 faults1 faults2 result

    at_plan : (result : Result (Unit {0}) CrewFault) → Gone result
        → ComesTo plan exchange.first.progress (pair_after plan.run seed rounds).first next.first.progress held1 held2 faults1 faults2 result
    at_plan result gone =
        subst (λ (p : Pair). ComesTo plan exchange.first.progress p.first next.first.progress held1 held2 faults1 faults2 result) target_is
        (subst (λ (p : Planned). ComesTo p exchange.first.progress
        (after_rounds (exchange_rule exchange) seed rounds (pair_of exchange)).first next.first.progress held1 held2 faults1 faults2 result) opened.plan' gone.comes)

    pub begins_rounds : (fault : CrewFault) → Gone (Err fault) → BeginsRounds plan seed rounds held0 held2
    begins_rounds fault gone = record {
      begins = λ stands ending trace.
          let past = (at_plan (Err fault) gone).past.grows stands ending trace in
          let piece : past.piece ≡ lines_shown plan (pair_after plan.run seed rounds).first stands =
          sym (past.is ∙ ap (λ text. text ++ past.piece) (start_is stands)) in
          subst (λ all. AppendsPrefix held0 held2 (header_of plan.system ++ all)) piece
          (AppendsPrefix-after held0 held1 held2 (header_of plan.system) past.piece header past.put);
    }

    pub shows_rounds : (judged : IsJudged plan) (nodes : Nodes) → Gone (Ok tt) → nodes ≡ told_of (pair_of next) → ShowsRounds plan seed rounds held0 held2 nodes
    shows_rounds judged nodes gone told =
        let one = one_trace plan.run judged.order judged.members judged.is_order in
        let grows = (at_plan (Ok tt) gone).shown.grows one.stands one.ending one.is_trace in
        let piece : grows.piece ≡ lines_shown plan (pair_after plan.run seed rounds).first one.stands =
        sym (grows.is ∙ ap (λ text. text ++ grows.piece) (start_is one.stands)) in
        record {
          stands = one.stands;
          ending = one.ending;
          trace = one.is_trace;
          out = subst (λ all. Appends held0 held2 (header_of plan.system ++ all)) piece
              (Appends-trans held0 held1 held2 (header_of plan.system) grows.piece header grows.put);
          told = told ∙ gone.told ∙ ap told_of target_is;
        }
