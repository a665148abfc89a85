-- Both nodes at work, part by part.
use Rattle.std.proofs.Common.{◌≡◌, ◌∙◌, ℕ, suc, ◌+◌, ◌-◌, ◌<◌, List, [], ◌∷◌, length, map, Option, Result, Ok, Err, refl, sym, ap, ap₂, subst, arith}
use Rattle.std.specs.Prelude.{◌==◌, ◌||◌, not, is_some, if◌then◌else◌, true, OnOk, reverse}
use Rattle.link_laws.specs.Making.{rule_of}
use Rattle.link_core.specs.NodeStates.{IsSameNode, NodeState}
use Rattle.link_laws.specs.Boards.{row_of}
use Rattle.link_laws.specs.Nodes.{Progress, Rule, by_turns, has, knowing, taken, worked}
use Rattle.link_laws.specs.Pairs.{Pair, after_events}
use Rattle.link_laws.specs.declared.fact.Fact.{Fact}
use Rattle.link_laws.specs.declared.taken.Taken.TheVariants.{Dropped}
use Rattle.link_laws.specs.declared.pair_event.PairEvent.TheVariants.{Work}
use Rattle.link_core.proofs.OwnerLaws.{as_many_owners}
use Rattle.link_nodes.proofs.ArrivalLaws.{fact_of, first_told, second_told}
use Rattle.link_nodes.proofs.GrowLaws.{all_more, still_noted}
use Rattle.link_nodes.proofs.LaterLaws.{IsLater, same_later}
use Rattle.link_nodes.proofs.PairsLater.{first_later, kept_first, rest_later, rounds_later, second_first, told_later}
use Rattle.link_nodes.proofs.ShownRowLaws.{Done, comes_none, comes_not, comes_on, comes_short}
use Rattle.link_nodes.specs.Exchanges.{ExchangeComes, IsExchange, exchange_rule, pair_of, rule_by_turns}
use Rattle.link_nodes.specs.Rounds.{after_round, after_rounds, closing_events, numbered_sent, to_first, to_second}
use Rattle.link_nodes.specs.ShownRows.{ComesTo, IsNoted, taken_all}
use Rattle.link_nodes.specs.declared.exchange.Exchange.{Exchange}
use Rattle.trace_plan.specs.Plans.{Planned}
use Rattle.trace_rows.specs.declared.fault.CrewFault.{CrewFault}
use Rattle.trace_rows.specs.declared.fault.CrewFault.TheVariants.{NoMemory}

pub same_node : (node : NodeState) → IsSameNode node node
same_node node = record { plan = refl; owners = refl; me = refl }

-- A call that was given up.
pub exchange_up : {B : Type 0} (exchange : Exchange) (target : Pair) (next : Exchange) (old new : Option (List ℕ)) (faults faults' : ℕ) (fault : CrewFault)
    (result : Result B CrewFault) → next.plan.value ≡ exchange.plan.value
    → ComesTo exchange.plan.value exchange.first.progress target.first next.first.progress old new faults faults' result → result ≡ Err fault
    → ExchangeComes exchange target next old new faults faults' result
exchange_up {B} exchange target next old new faults faults' fault result plan comes is = record {
  plan = plan;
  is_exchange = subst (λ (one : Result B CrewFault). OnOk one (IsExchange next)) (sym is) tt;
  second = subst (λ (one : Result B CrewFault). OnOk one (next.second.progress ≡ target.second)) (sym is) tt;
  comes = comes;
}

-- There are as many owners of an exchange's nodes as members.
pub first_owned : (exchange : Exchange) → IsExchange exchange → length exchange.first.owners ≡ length exchange.plan.value.run.members
first_owned exchange is = ap length is.first_owners ∙ as_many_owners (length exchange.plan.value.run.members)

pub second_owned : (exchange : Exchange) → IsExchange exchange → length exchange.second.owners ≡ length exchange.plan.value.run.members
second_owned exchange is = ap length is.second_owners ∙ as_many_owners (length exchange.plan.value.run.members)

-- The nodes are still those of the plan.
pub same_exchange : (exchange next : Exchange) → IsExchange exchange → next.plan.value ≡ exchange.plan.value → IsSameNode exchange.first next.first → IsSameNode exchange.second next.second
    → IsNoted next.first_spans next.first.progress.facts → IsNoted next.second_spans next.second.progress.facts → next.transit.items ≡ [] → IsExchange next
same_exchange exchange next is plan first second first_noted second_noted empty =
    let turns = ap (λ (p : Planned). by_turns (length p.run.members)) plan in
    record {
      first_plan = first.plan ∙ is.first_plan ∙ sym plan;
      second_plan = second.plan ∙ is.second_plan ∙ sym plan;
      first_owners = first.owners ∙ is.first_owners ∙ sym turns;
      second_owners = second.owners ∙ is.second_owners ∙ sym turns;
      first_is = first.me ∙ is.first_is;
      second_is = second.me ∙ is.second_is;
      first_noted = first_noted;
      second_noted = second_noted;
      empty = empty;
    }

-- ---- One part after another

-- The first was given up.
pub exchange_short : (exchange : Exchange) (two three : Pair) (next : Exchange) (old new : Option (List ℕ)) (faults faults' : ℕ) (fault : CrewFault) (result : Done)
    → ExchangeComes {T = Unit {0}} exchange two next old new faults faults' (Err fault) → IsLater two.first three.first → result ≡ Err fault
    → ExchangeComes exchange three next old new faults faults' result
exchange_short exchange two three next old new faults faults' fault result first later is =
    exchange_up exchange three next old new faults faults' fault result first.plan
    (comes_short exchange.plan.value exchange.first.progress two.first three.first next.first.progress next.first.progress old new faults faults' fault result
    first.comes later is) is

-- The exchange came to its end.
pub pair_there : (exchange : Exchange) (two : Pair) (next : Exchange) (old new : Option (List ℕ)) (faults faults' : ℕ)
    → ExchangeComes {T = Unit {0}} exchange two next old new faults faults' (Ok tt) → pair_of next ≡ two
pair_there exchange two next old new faults faults' first = ap₂ (λ (a b : Progress). record { first = a; second = b }) first.comes.there first.second

pub exchange_on : (exchange : Exchange) (two three three' : Pair) (mid next : Exchange) (held0 held1 held2 : Option (List ℕ)) (faults0 faults1 faults2 : ℕ) (result : Done)
    → ExchangeComes {T = Unit {0}} exchange two mid held0 held1 faults0 faults1 (Ok tt) → ExchangeComes mid three' next held1 held2 faults1 faults2 result → three' ≡ three
    → ExchangeComes exchange three next held0 held2 faults0 faults2 result
exchange_on exchange two three three' mid next held0 held1 held2 faults0 faults1 faults2 result first second is = record {
  plan = second.plan ∙ first.plan;
  is_exchange = second.is_exchange;
  second = subst (λ (p : Pair). OnOk result (next.second.progress ≡ p.second)) is second.second;
  comes =
      comes_on exchange.plan.value exchange.first.progress two.first mid.first.progress three.first three'.first next.first.progress held0 held1 held2 faults0 faults1
      faults2 result
      first.comes
      (subst (λ (p : Planned). ComesTo p mid.first.progress three'.first next.first.progress held1 held2 faults1 faults2 result) first.plan second.comes)
      (ap (λ (p : Pair). p.first) is);
}

-- ---- Parts of a round

on_all : {T E P : Type 0} (result : Result T E) → P → OnOk result P
on_all (Ok done) p = p
on_all (Err fault) p = tt

pub first_worked : (exchange : Exchange) → IsExchange exchange → (node : Progress)
    → worked (rule_of exchange.plan.value.run exchange.first.owners) 0 node ≡ worked (exchange_rule exchange) 0 node
first_worked exchange is node = ap (λ os. worked (rule_of exchange.plan.value.run os) 0 node) is.first_owners

pub second_worked : (exchange : Exchange) → IsExchange exchange → (node : Progress)
    → worked (rule_of exchange.second.plan.run exchange.second.owners) exchange.second.me node ≡ worked (exchange_rule exchange) 1 node
second_worked exchange is node =
    ap₂ (λ (p : Planned) os. worked (rule_of p.run os) exchange.second.me node) is.second_plan is.second_owners
    ∙ ap (λ m. worked (exchange_rule exchange) m node) is.second_is

-- Facts arrived at the first.
pub first_part : (exchange next : Exchange) (seed k : ℕ) (transit : List Fact) (old new : Option (List ℕ)) (faults faults' : ℕ) (result : Done) → IsExchange exchange
    → next.plan.value ≡ exchange.plan.value → transit ≡ map fact_of (numbered_sent seed k exchange.first.progress.at.number exchange.second.progress.facts)
    → ComesTo exchange.plan.value exchange.first.progress (taken_all (exchange_rule exchange) 0 exchange.first.progress
    (reverse transit)) next.first.progress old new faults faults' result
    → IsSameNode exchange.first next.first → next.second ≡ exchange.second → next.first_spans ≡ exchange.first_spans → IsNoted next.second_spans exchange.second.progress.facts
    → OnOk result (next.transit.items ≡ []) → ExchangeComes exchange (to_first (exchange_rule exchange) seed k (pair_of exchange)) next old new faults faults' result
first_part exchange next seed k transit old new faults faults' result is plan transit_is comes first second spans noted empty =
    let told = first_told (exchange_rule exchange) seed k (pair_of exchange) transit transit_is in
    record {
      plan = plan;
      is_exchange = by_result result comes.there empty;
      second = on_all result (ap (λ (n : NodeState). n.progress) second ∙ sym (ap (λ (p : Pair). p.second) told));
      comes =
          subst (λ (p : Pair). ComesTo exchange.plan.value exchange.first.progress p.first next.first.progress old new faults faults' result) (sym told) comes;
    }
  where
    by_result : (one : Done) → OnOk one (next.first.progress ≡ taken_all (exchange_rule exchange) 0 exchange.first.progress (reverse transit))
        → OnOk one (next.transit.items ≡ [])
        → OnOk one (IsExchange next)
    by_result (Err fault) there none = tt
    by_result (Ok done) there none =
        let more = all_more (exchange_rule exchange) 0 exchange.first.progress (reverse transit) in
        let first_noted = still_noted exchange.first_spans exchange.first.progress
        (taken_all (exchange_rule exchange) 0 exchange.first.progress (reverse transit)) more is.first_noted in
        same_exchange exchange next is plan first (subst (IsSameNode exchange.second) (sym second) (same_node exchange.second))
        (subst (λ spans. IsNoted spans next.first.progress.facts) (sym spans)
        (subst (λ (p : Progress). IsNoted exchange.first_spans p.facts) (sym there) first_noted))
        (subst (λ (n : NodeState). IsNoted next.second_spans n.progress.facts) (sym second) noted) none

-- Facts arrived at the second.
pub second_part : (exchange next : Exchange) (seed k : ℕ) (transit : List Fact) (held : Option (List ℕ)) (faults : ℕ) → IsExchange exchange → next.plan.value ≡ exchange.plan.value
    → transit ≡ map fact_of (numbered_sent seed k exchange.second.progress.at.number exchange.first.progress.facts)
    → next.second.progress ≡ taken_all (exchange_rule exchange) 1 exchange.second.progress (reverse transit) → IsSameNode exchange.second next.second → next.first ≡ exchange.first
    → next.second_spans ≡ exchange.second_spans → IsNoted next.first_spans exchange.first.progress.facts → next.transit.items ≡ []
    → ExchangeComes {T = Unit {0}} exchange (to_second (exchange_rule exchange) seed k (pair_of exchange)) next held held faults faults (Ok tt)
second_part exchange next seed k transit held faults is plan transit_is came second first spans noted empty =
    let told = second_told (exchange_rule exchange) seed k (pair_of exchange) transit transit_is in
    let none = comes_none exchange.plan.value exchange.first.progress held faults in
    let more = all_more (exchange_rule exchange) 1 exchange.second.progress (reverse transit) in
    let second_noted = still_noted exchange.second_spans exchange.second.progress
    (taken_all (exchange_rule exchange) 1 exchange.second.progress (reverse transit)) more is.second_noted in
    record {
      plan = plan;
      is_exchange =
          same_exchange exchange next is plan (subst (IsSameNode exchange.first) (sym first) (same_node exchange.first)) second
          (subst (λ (n : NodeState). IsNoted next.first_spans n.progress.facts) (sym first) noted)
          (subst (λ one. IsNoted one next.second.progress.facts) (sym spans)
          (subst (λ (p : Progress). IsNoted exchange.second_spans p.facts) (sym came) second_noted)) empty;
      second = came ∙ sym (ap (λ (p : Pair). p.second) told);
      comes =
          subst (λ (n : NodeState). ComesTo {T = Unit {0}} exchange.plan.value exchange.first.progress (to_second (exchange_rule exchange) seed k (pair_of exchange)).first
          n.progress held held faults faults (Ok tt)) (sym first)
          (subst (λ (p : Progress). ComesTo {T = Unit {0}} exchange.plan.value exchange.first.progress p exchange.first.progress held held faults faults (Ok tt))
          (sym (second_first (exchange_rule exchange) seed k (pair_of exchange))) none);
    }

-- A node that has ended takes nothing.
dropped : (rule : Rule) (me : ℕ) (node : Progress) (fact : Fact) → is_some node.ended ≡ true → (taken rule me node fact).0 ≡ node
dropped rule me node fact ended =
    ap (λ drop. (if drop then (node, Dropped) else worked rule me (knowing node fact)).0)
    (ap (λ told. told || (not (row_of fact == node.at.number) || (not (rule.is_of (1 - me) fact) || has node.known fact))) ended)

stays : (rule : Rule) (me : ℕ) (node : Progress) (facts : List Fact) → is_some node.ended ≡ true → taken_all rule me node facts ≡ node
stays rule me node [] ended = refl
stays rule me node (fact ∷ facts) ended =
    ap (λ one. taken_all rule me one facts)
    (ap (λ one. (taken rule me one fact).0) (dropped rule me node fact ended) ∙ dropped rule me node fact ended)
    ∙ stays rule me node facts ended

pub first_stays : (exchange : Exchange) (seed k : ℕ) (held : Option (List ℕ)) (faults : ℕ) → IsExchange exchange → is_some exchange.first.progress.ended ≡ true
    → ExchangeComes {T = Unit {0}} exchange (to_first (exchange_rule exchange) seed k (pair_of exchange)) exchange held held faults faults (Ok tt)
first_stays exchange seed k held faults is ended =
    let transit = map fact_of (numbered_sent seed k exchange.first.progress.at.number exchange.second.progress.facts) in
    first_part exchange exchange seed k transit held held faults faults (Ok tt) is refl refl
    (subst (λ (p : Progress). ComesTo {T = Unit {0}} exchange.plan.value exchange.first.progress p exchange.first.progress held held faults faults (Ok tt))
    (sym (stays (exchange_rule exchange) 0 exchange.first.progress (reverse transit) ended)) (comes_none exchange.plan.value exchange.first.progress held faults))
    (same_node exchange.first) refl refl is.second_noted is.empty

pub second_stays : (exchange : Exchange) (seed k : ℕ) (held : Option (List ℕ)) (faults : ℕ) → IsExchange exchange → is_some exchange.second.progress.ended ≡ true
    → ExchangeComes {T = Unit {0}} exchange (to_second (exchange_rule exchange) seed k (pair_of exchange)) exchange held held faults faults (Ok tt)
second_stays exchange seed k held faults is ended =
    let transit = map fact_of (numbered_sent seed k exchange.second.progress.at.number exchange.first.progress.facts) in
    second_part exchange exchange seed k transit held faults is refl refl
    (sym (stays (exchange_rule exchange) 1 exchange.second.progress (reverse transit) ended)) (same_node exchange.second) refl refl is.first_noted is.empty

-- There was no memory for facts at the first, or at the second.
pub first_dry : (exchange next : Exchange) (seed k : ℕ) (held : Option (List ℕ)) (faults : ℕ) (result : Done) → next.plan.value ≡ exchange.plan.value
    → result ≡ Err NoMemory
    → ExchangeComes exchange (to_first (exchange_rule exchange) seed k (pair_of exchange)) next held held faults faults result
first_dry exchange next seed k held faults result plan is =
    exchange_up exchange (to_first (exchange_rule exchange) seed k (pair_of exchange)) next held held faults faults NoMemory result plan
    (comes_not exchange.plan.value exchange.first.progress (to_first (exchange_rule exchange) seed k (pair_of exchange)).first next.first.progress held faults result
    (first_later exchange.plan.value.run (by_turns (length exchange.plan.value.run.members)) seed k (pair_of exchange)) is) is

pub second_dry : (exchange next : Exchange) (seed k : ℕ) (held : Option (List ℕ)) (faults : ℕ) (result : Done) → next.plan.value ≡ exchange.plan.value
    → result ≡ Err NoMemory
    → ExchangeComes exchange (to_second (exchange_rule exchange) seed k (pair_of exchange)) next held held faults faults result
second_dry exchange next seed k held faults result plan is =
    exchange_up exchange (to_second (exchange_rule exchange) seed k (pair_of exchange)) next held held faults faults NoMemory result plan
    (comes_not exchange.plan.value exchange.first.progress (to_second (exchange_rule exchange) seed k (pair_of exchange)).first next.first.progress held faults result
    (subst (IsLater exchange.first.progress) (sym (second_first (exchange_rule exchange) seed k (pair_of exchange))) (same_later exchange.first.progress)) is) is

-- ---- A round

module _ (exchange one two three : Exchange) (seed k : ℕ) (held0 held1 held2 held3 : Option (List ℕ)) (faults0 faults1 faults2 faults3 : ℕ) where
  abbrev rule : Rule
  rule = exchange_rule exchange

  abbrev A : Pair
  A = after_events rule (pair_of exchange) (Work 0 ∷ Work 1 ∷ [])

  abbrev B : Pair
  B = to_first rule seed k A

  abbrev C : Pair
  C = to_second rule seed k B

  abbrev D : Pair
  D = after_round rule seed k (pair_of exchange)

  pub works_short : (fault : CrewFault) (result : Done) → ExchangeComes {T = Unit {0}} exchange A one held0 held1 faults0 faults1 (Err fault) → result ≡ Err fault
      → ExchangeComes exchange D one held0 held1 faults0 faults1 result
  works_short fault result first is = exchange_short exchange A D one held0 held1 faults0 faults1 fault result first
      (told_later exchange.plan.value.run (by_turns (length exchange.plan.value.run.members)) seed k A) is

  -- The pair of the next part, from where the part before ended.
  next_first : (mid : Exchange) (pair : Pair) (held held' : Option (List ℕ)) (faults faults' : ℕ)
      → ExchangeComes {T = Unit {0}} exchange pair mid held held' faults faults' (Ok tt) → to_first (exchange_rule mid) seed k (pair_of mid) ≡ to_first rule seed k pair
  next_first mid pair held held' faults faults' so =
      ap₂ (λ (p : Planned) both. to_first (rule_by_turns p.run) seed k both) so.plan (pair_there exchange pair mid held held' faults faults' so)

  next_second : (mid : Exchange) (pair : Pair) (held held' : Option (List ℕ)) (faults faults' : ℕ)
      → ExchangeComes {T = Unit {0}} exchange pair mid held held' faults faults' (Ok tt) → to_second (exchange_rule mid) seed k (pair_of mid) ≡ to_second rule seed k pair
  next_second mid pair held held' faults faults' so =
      ap₂ (λ (p : Planned) both. to_second (rule_by_turns p.run) seed k both) so.plan (pair_there exchange pair mid held held' faults faults' so)

  module _ (works : ExchangeComes {T = Unit {0}} exchange A one held0 held1 faults0 faults1 (Ok tt)) where
    firsts : (result : Done) → ExchangeComes {T = Unit {0}} one (to_first (exchange_rule one) seed k (pair_of one)) two held1 held2 faults1 faults2 result
        → ExchangeComes exchange B two held0 held2 faults0 faults2 result
    firsts result told = exchange_on exchange A B (to_first (exchange_rule one) seed k (pair_of one)) one two held0 held1 held2 faults0 faults1 faults2 result works told
        (next_first one A held0 held1 faults0 faults1 works)

    pub firsts_short : (fault : CrewFault) (result : Done)
        → ExchangeComes {T = Unit {0}} one (to_first (exchange_rule one) seed k (pair_of one)) two held1 held2 faults1 faults2 (Err fault) → result ≡ Err fault
        → ExchangeComes exchange D two held0 held2 faults0 faults2 result
    firsts_short fault result told is = exchange_short exchange B D two held0 held2 faults0 faults2 fault result (firsts (Err fault) told)
        (rest_later exchange.plan.value.run (by_turns (length exchange.plan.value.run.members)) seed k B) is

    module _ (told_first : ExchangeComes {T = Unit {0}} one (to_first (exchange_rule one) seed k (pair_of one)) two held1 held2 faults1 faults2 (Ok tt)) where
      seconds : (result : Done) → ExchangeComes {T = Unit {0}} two (to_second (exchange_rule two) seed k (pair_of two)) three held2 held3 faults2 faults3 result
          → ExchangeComes exchange C three held0 held3 faults0 faults3 result
      seconds result told =
          exchange_on exchange B C (to_second (exchange_rule two) seed k (pair_of two)) two three held0 held2 held3 faults0 faults2 faults3 result
          (firsts (Ok tt) told_first) told
          (next_second two B held0 held2 faults0 faults2 (firsts (Ok tt) told_first))

      pub seconds_short : (fault : CrewFault) (result : Done)
          → ExchangeComes {T = Unit {0}} two (to_second (exchange_rule two) seed k (pair_of two)) three held2 held3 faults2 faults3 (Err fault) → result ≡ Err fault
          → ExchangeComes exchange D three held0 held3 faults0 faults3 result
      seconds_short fault result told is =
          exchange_short exchange C D three held0 held3 faults0 faults3 fault result (seconds (Err fault) told)
          (subst (IsLater C.first) (sym (kept_first rule C k)) (same_later C.first)) is

      -- Node 1 kept its position, or started again.
      pub round_comes : (next : Exchange) → ExchangeComes {T = Unit {0}} two (to_second (exchange_rule two) seed k (pair_of two)) three held2 held3 faults2 faults3 (Ok tt)
          → IsExchange next → next.plan.value ≡ three.plan.value → pair_of next ≡ after_events (exchange_rule three) (pair_of three) (closing_events k)
          → ExchangeComes {T = Unit {0}} exchange D next held0 held3 faults0 faults3 (Ok tt)
      round_comes next told is_exchange plan pair =
          let so = seconds (Ok tt) told in
          let there : pair_of next ≡ D =
          pair ∙ ap₂ (λ (p : Planned) both. after_events (rule_by_turns p.run) both (closing_events k)) so.plan
          (pair_there exchange C three held0 held3 faults0 faults3 so) in
          let first : C.first ≡ D.first = sym (kept_first rule C k) in
          let comes = subst (λ (p : Progress). ComesTo {T = Unit {0}} exchange.plan.value exchange.first.progress p p held0 held3 faults0 faults3 (Ok tt)) first
          (subst (λ (p : Progress). ComesTo {T = Unit {0}} exchange.plan.value exchange.first.progress C.first p held0 held3 faults0 faults3
          (Ok tt)) so.comes.there so.comes) in
          record {
            plan = plan ∙ so.plan;
            is_exchange = is_exchange;
            second = ap (λ (p : Pair). p.second) there;
            comes = subst (λ (p : Pair). ComesTo {T = Unit {0}} exchange.plan.value exchange.first.progress D.first p.first held0 held3 faults0 faults3 (Ok tt))
                (sym there) comes;
          }

-- ---- Rounds

-- No round yet.
pub none_gone : (exchange : Exchange) (held : Option (List ℕ)) (faults : ℕ) → IsExchange exchange
    → ExchangeComes {T = Unit {0}} exchange (pair_of exchange) exchange held held faults faults (Ok tt)
none_gone exchange held faults is = record { plan = refl; is_exchange = is; second = refl; comes = comes_none exchange.plan.value exchange.first.progress held faults }

module _ (exchange mid next : Exchange) (seed number : ℕ) (held0 held1 held2 : Option (List ℕ)) (faults0 faults1 faults2 : ℕ)
    (gone : ExchangeComes {T = Unit {0}} exchange (after_rounds (exchange_rule exchange) seed number (pair_of exchange)) mid held0 held1 faults0 faults1 (Ok tt)) where
  one_more : (result : Done) → ExchangeComes {T = Unit {0}} mid
      (after_round (exchange_rule mid) seed (number + 1) (pair_of mid)) next held1 held2 faults1 faults2 result
      → ExchangeComes exchange (after_rounds (exchange_rule exchange) seed (suc number) (pair_of exchange)) next held0 held2 faults0 faults2 result
  one_more result told =
      let more : number + 1 ≡ suc number = omega arith in
      exchange_on exchange (after_rounds (exchange_rule exchange) seed number (pair_of exchange)) (after_rounds (exchange_rule exchange) seed (suc number) (pair_of exchange))
      (after_round (exchange_rule mid) seed (number + 1) (pair_of mid)) mid next
      held0 held1 held2 faults0 faults1 faults2 result gone told
      (ap₂ (λ (p : Planned) both. after_round (rule_by_turns p.run) seed (number + 1) both) gone.plan
      (pair_there exchange (after_rounds (exchange_rule exchange) seed number (pair_of exchange)) mid held0 held1 faults0 faults1 gone)
      ∙ ap (λ n. after_round (exchange_rule exchange) seed n (after_rounds (exchange_rule exchange) seed number (pair_of exchange))) more)

  pub rounds_on : ExchangeComes {T = Unit {0}} mid (after_round (exchange_rule mid) seed (number + 1) (pair_of mid)) next held1 held2 faults1 faults2 (Ok tt)
      → ExchangeComes {T = Unit {0}} exchange (after_rounds (exchange_rule exchange) seed (number + 1) (pair_of exchange)) next held0 held2 faults0 faults2 (Ok tt)
  rounds_on told =
      let more : suc number ≡ number + 1 = omega arith in
      subst (λ n. ExchangeComes {T = Unit {0}} exchange (after_rounds (exchange_rule exchange) seed n (pair_of exchange)) next held0 held2 faults0 faults2 (Ok tt)) more
      (one_more (Ok tt) told)

  pub rounds_short : (all : ℕ) (fault : CrewFault) (result : Done) → number < all
      → ExchangeComes {T = Unit {0}} mid (after_round (exchange_rule mid) seed (number + 1) (pair_of mid)) next held1 held2 faults1 faults2 (Err fault)
      → result ≡ Err fault
      → ExchangeComes exchange (after_rounds (exchange_rule exchange) seed all (pair_of exchange)) next held0 held2 faults0 faults2 result
  rounds_short all fault result within told is =
      let sum : (all - suc number) + suc number ≡ all = omega (arith, within) in
      let later = subst (λ n. IsLater (after_rounds (exchange_rule exchange) seed (suc number) (pair_of exchange)).first
      (after_rounds (exchange_rule exchange) seed n (pair_of exchange)).first) sum
      (rounds_later exchange.plan.value.run (by_turns (length exchange.plan.value.run.members)) seed (suc number) (all - suc number) (pair_of exchange)) in
      exchange_short exchange (after_rounds (exchange_rule exchange) seed (suc number) (pair_of exchange))
      (after_rounds (exchange_rule exchange) seed all (pair_of exchange)) next held0 held2 faults0 faults2 fault result (one_more (Err fault) told) later is
