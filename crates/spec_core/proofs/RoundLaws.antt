-- Rounds are determined: the same events have the same replies, and the world determines what is served.
use Rattle.std.proofs.Common.{◌≡◌, ◌∙◌, ℕ, zero, suc, true, List, [], ◌∷◌, ◌++◌, length, refl, sym, ap, subst}
use Rattle.list_laws.proofs.Lists.{same_first, same_rest}
use Rattle.list_laws.proofs.Truths.{true_is_false}
use Rattle.spec_core.specs.Events.{Happens}
use Rattle.spec_core.specs.Interleavings.{Done, Leads}
use Rattle.spec_core.specs.Replays.{AreRounds, AreServed, IsRound, IsServed, events_of}
use Rattle.spec_core.specs.Worlds.{WorldState}
use Rattle.spec_core.specs.declared.event.Event.{Event}
use Rattle.spec_core.specs.declared.event.Event.TheVariants as event
use Rattle.spec_core.specs.declared.event.Reply.TheVariants as reply
use Rattle.spec_core.proofs.GoingLaws.{keeps_reply}
use Rattle.spec_core.proofs.HappenLaws.{happens_once}
use Rattle.spec_core.proofs.ReplyLaws.{CanReply}
use Rattle.trace_core.specs.Runs.{is_ended}

-- ---- The same events

-- An event of a world has only one effect.
done_once : (from : WorldState) (one other : Done) → CanReply from → one.event ≡ other.event → one.before ≡ from → other.before ≡ from
    → Happens one.before one.event one.reply one.after → Happens other.before other.event other.reply other.after → one ≡ other
done_once from one other can same is is_other happens happens_other =
    let here : Happens from other.event one.reply one.after =
    subst (λ what. Happens from what one.reply one.after) same (subst (λ w. Happens w one.event one.reply one.after) is happens) in
    let there : Happens from other.event other.reply other.after = subst (λ w. Happens w other.event other.reply other.after) is_other happens_other in
    let both = happens_once from one.after other.after other.event one.reply other.reply can.can_go_on.is_ordered here there in
    let before = is ∙ sym is_other in
    λ i. record { before = before i; event = same i; reply = both.0 i; after = both.1 i }

-- A world that can reply can reply after an event, and after all of them.
one_keeps : (from : WorldState) (one : Done) → CanReply from → one.before ≡ from → Happens one.before one.event one.reply one.after → CanReply one.after
one_keeps from one can is happens =
    keeps_reply one.before one.after one.event one.reply (subst CanReply (sym is) can) happens

pub all_keep : (from : WorldState) (past : List Done) (to : WorldState) → CanReply from → Leads from past to → CanReply to
all_keep from [] to can leads = subst CanReply leads can
all_keep from (one ∷ others) to can leads = all_keep one.after others to (one_keeps from one can leads.0 leads.1) leads.2

-- The same list of events leads to the same world.
abbrev pub SameDone : List Done → List Done → WorldState → WorldState → Type 0
SameDone past other to end = (past ≡ other) × (to ≡ end)

pub leads_once : (from : WorldState) (past other : List Done) (to end : WorldState) → CanReply from → events_of past ≡ events_of other
    → Leads from past to → Leads from other end → SameDone past other to end
leads_once from [] [] to end can same leads leads_too = (refl, sym leads ∙ leads_too)
leads_once from [] (two ∷ more) to end can same leads leads_too = absurd (cc)
leads_once from (one ∷ others) [] to end can same leads leads_too = absurd (cc)
leads_once from (one ∷ others) (two ∷ more) to end can same leads leads_too =
    let first : one ≡ two =
    done_once from one two can (same_first one.event two.event (events_of others) (events_of more) same) leads.0 leads_too.0 leads.1 leads_too.1 in
    let rest =
    leads_once two.after others more to end (one_keeps from two can leads_too.0 leads_too.1)
    (same_rest one.event two.event (events_of others) (events_of more) same)
    (subst (λ (done : Done). Leads done.after others to) first leads.2) leads_too.2 in
    (λ i. first i ∷ rest.0 i, rest.1)

-- ---- What is served

-- A find in a world is not both answered and missed.
not_both : (from : WorldState) (instance : ℕ) (one other : Done) → CanReply from → one.event ≡ event.Find instance → other.event ≡ event.Find instance
    → one.reply ≡ reply.Found → other.reply ≡ reply.Missed → one.before ≡ from → other.before ≡ from
    → Happens one.before one.event one.reply one.after → Happens other.before other.event other.reply other.after → ⊥
not_both from instance one other can finds finds_too found missed is is_other happens happens_other =
    let same = done_once from one other can (finds ∙ sym finds_too) is is_other happens happens_other in
    apart (sym found ∙ ap (λ (done : Done). done.reply) same ∙ missed)
  where
    apart : reply.Found ≡ reply.Missed → ⊥
    apart is = cc

served_events : (from : WorldState) (instance : ℕ) (first other : List Done) (to end : WorldState) → CanReply from → IsServed from.run instance first
    → IsServed from.run instance other → Leads from first to → Leads from other end → events_of first ≡ events_of other
served_events from instance [] [] to end can one two leads leads_too = refl
served_events from instance [] (g ∷ []) to end can one two leads leads_too = absurd (one two.0)
served_events from instance [] (g ∷ d ∷ []) to end can one two leads leads_too = absurd (one two.0)
served_events from instance [] (g ∷ d ∷ e ∷ more) to end can one two leads leads_too = absurd two
served_events from instance (f ∷ []) [] to end can one two leads leads_too = absurd (two one.0)
served_events from instance (f ∷ []) (g ∷ []) to end can one two leads leads_too = ap (λ (what : Event). what ∷ []) (one.1 ∙ sym two.1)
served_events from instance (f ∷ []) (g ∷ d ∷ []) to end can one two leads leads_too =
    absurd (not_both from instance f g can one.1 two.1 one.2 two.2 leads.0 leads_too.0 leads.1 leads_too.1)
served_events from instance (f ∷ []) (g ∷ d ∷ e ∷ more) to end can one two leads leads_too = absurd two
served_events from instance (f ∷ c ∷ []) [] to end can one two leads leads_too = absurd (two one.0)
served_events from instance (f ∷ c ∷ []) (g ∷ []) to end can one two leads leads_too =
    absurd (not_both from instance g f can two.1 one.1 two.2 one.2 leads_too.0 leads.0 leads_too.1 leads.1)
served_events from instance (f ∷ c ∷ []) (g ∷ d ∷ []) to end can one two leads leads_too =
    let finds = one.1 ∙ sym two.1 in
    let computes = one.3 ∙ sym two.3 in
    λ i. finds i ∷ computes i ∷ []
served_events from instance (f ∷ c ∷ []) (g ∷ d ∷ e ∷ more) to end can one two leads leads_too = absurd two
served_events from instance (f ∷ c ∷ b ∷ more) other to end can one two leads leads_too = absurd one

pub served_keep : (from : WorldState) (instance count : ℕ) (past : List Done) (to : WorldState) → CanReply from → AreServed from instance count past to
    → CanReply to
served_keep from instance zero past to can served = subst CanReply served.1 can
served_keep from instance (suc count) past to can served =
    served_keep served.1 (suc instance) count served.2 to (all_keep from served.0 served.1 can served.5) served.6

served_once : (from : WorldState) (instance count : ℕ) (past other : List Done) (to end : WorldState) → CanReply from
    → AreServed from instance count past to → AreServed from instance count other end → SameDone past other to end
served_once from instance zero past other to end can one two = (one.0 ∙ sym two.0, sym one.1 ∙ two.1)
served_once from instance (suc count) past other to end can one two =
    let events = served_events from instance one.0 two.0 one.1 two.1 can one.4 two.4 one.5 two.5 in
    let first = leads_once from one.0 two.0 one.1 two.1 can events one.5 two.5 in
    let rest =
    served_once two.1 (suc instance) count one.2 two.2 to end (all_keep from two.0 two.1 can two.5)
    (subst (λ w. AreServed w (suc instance) count one.2 to) first.1 one.6) two.6 in
    (one.3 ∙ (λ i. first.0 i ++ rest.0 i) ∙ sym two.3, rest.1)

-- ---- Rounds

module _ (seed workers : ℕ) where
  pub round_keeps : (number : ℕ) (from : WorldState) (past : List Done) (to : WorldState) → CanReply from → IsRound seed workers number from past to
      → CanReply to
  round_keeps number from past to can is =
      let lined = all_keep from is.published is.lined can is.leads_lined in
      let worked = all_keep is.lined is.drawn is.worked lined is.leads_worked in
      let filled = served_keep is.worked 0 (length from.lanes) is.served is.filled worked is.serves in
      all_keep is.filled (is.settle ∷ []) to filled is.leads_settled

  round_once : (number : ℕ) (from : WorldState) (past other : List Done) (to end : WorldState) → CanReply from → IsRound seed workers number from past to
      → IsRound seed workers number from other end → SameDone past other to end
  round_once number from past other to end can one two =
      let published =
      leads_once from one.published two.published one.lined two.lined can (one.publishes ∙ sym two.publishes) one.leads_lined two.leads_lined in
      let lined = all_keep from two.published two.lined can two.leads_lined in
      let drawn =
      leads_once two.lined one.drawn two.drawn one.worked two.worked lined (one.draws ∙ sym two.draws)
      (subst (λ w. Leads w one.drawn one.worked) published.1 one.leads_worked) two.leads_worked in
      let worked = all_keep two.lined two.drawn two.worked lined two.leads_worked in
      let served =
      served_once two.worked 0 (length from.lanes) one.served two.served one.filled two.filled worked
      (subst (λ w. AreServed w 0 (length from.lanes) one.served one.filled) drawn.1 one.serves) two.serves in
      let filled = served_keep two.worked 0 (length from.lanes) two.served two.filled worked two.serves in
      let settled =
      leads_once two.filled (one.settle ∷ []) (two.settle ∷ []) to end filled (ap (λ (what : Event). what ∷ []) (one.settles ∙ sym two.settles))
      (subst (λ w. Leads w (one.settle ∷ []) to) served.1 one.leads_settled) two.leads_settled in
      (one.is ∙ (λ i. published.0 i ++ (drawn.0 i ++ (served.0 i ++ settled.0 i))) ∙ sym two.is, settled.1)

  pub rounds_once : (number : ℕ) (from : WorldState) (rounds others : List (List Done)) (to end : WorldState) → CanReply from
      → AreRounds seed workers number from rounds to → AreRounds seed workers number from others end → (rounds ≡ others) × (to ≡ end)
  rounds_once number from [] [] to end can one two = (refl, sym one.1 ∙ two.1)
  rounds_once number from [] (round ∷ others) to end can one two = true_is_false (is_ended from.run.phase) one.0 two.0
  rounds_once number from (round ∷ rounds) [] to end can one two = true_is_false (is_ended from.run.phase) two.0 one.0
  rounds_once number from (round ∷ rounds) (other ∷ others) to end can one two =
      let first = round_once number from round other one.1 two.1 can one.2 two.2 in
      let rest =
      rounds_once (suc number) two.1 rounds others to end (round_keeps number from other two.1 can two.2)
      (subst (λ w. AreRounds seed workers (suc number) w rounds to) first.1 one.3) two.3 in
      (λ i. first.0 i ∷ rest.0 i, rest.1)

  -- The run has ended after them.
  pub rounds_end : (number : ℕ) (from : WorldState) (rounds : List (List Done)) (to : WorldState) → AreRounds seed workers number from rounds to
      → is_ended to.run.phase ≡ true
  rounds_end number from [] to are = ap (λ (w : WorldState). is_ended w.run.phase) (sym are.1) ∙ are.0
  rounds_end number from (round ∷ rounds) to are = rounds_end (suc number) are.1 rounds to are.3
