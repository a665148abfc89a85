-- The facts of a run are short.
use Rattle.std.proofs.Common.{◌≡◌, ℕ, zero, suc, ◌+◌, ◌-◌, ◌^◌, ◌<◌, ◌≤◌, Bool, true, false, List, [], ◌∷◌, map, length, Option, Some, None}
use Rattle.std.proofs.Common.{Result, Ok, Err, ℤ, sym}
use Rattle.std.proofs.Common.{ap₂, subst, arith}
use Rattle.std.proofs.lemmas.Bool.{lt-ltb}
use Rattle.std.specs.List.{AllByRecursion, AllZip}
use Rattle.std.specs.Prelude.{⊤, IfSome, nat_lt, zip, ◌&&◌}
use Rattle.fixed_words.specs.declared.types.Fault.{Fault}
use Rattle.fixed_words.specs.declared.types.Ty.{Ty}
use Rattle.link_laws.specs.Boards.{IsOn, asked_of, before_limits, before_redo, before_trial, board_of, entry, row_of, said_where}
use Rattle.link_laws.specs.Keeping.{IsPlace, IsTrueFact}
use Rattle.link_laws.specs.Lengths.{AreOfWords, IsOfWords, is_short}
use Rattle.link_laws.specs.declared.fact.Asked.{Asked}
use Rattle.link_laws.specs.declared.fact.Asked.TheVariants.{Fault as MaxFault, Free, Max as AtMost}
use Rattle.link_laws.specs.declared.fact.Fact.{Fact}
use Rattle.link_laws.specs.declared.fact.Fact.TheVariants.{Limit, Reply, Word}
use Rattle.link_laws.specs.declared.fact.Said.{Said}
use Rattle.link_laws.specs.declared.fact.Said.TheVariants.{Accepted, Fault as StepFault}
use Rattle.link_laws.proofs.LengthLaws.{ArePortsWords, IsShortLimit, IsShortStep, max_short, ports_fit, step_short}
use Rattle.link_laws.proofs.PlaceLaws.{place_within}
use Rattle.link_laws.proofs.RuleLaws.{place_at_most, place_stands, place_words}
use Rattle.port_solve.specs.Sound.{IsSound, IsSoundMember, types_of_places}
use Rattle.run_laws.proofs.StepLaws.{least_below}
use Rattle.trace_plan.specs.Plans.{IsBounded}
use Rattle.unit_tree.specs.Components.{Moved}
use Rattle.unit_tree.specs.Compositions.{AreMembers, Composition, IsMember, Member}
use Rattle.unit_tree.specs.Negotiation.{max_at, step_at}
use Rattle.unit_tree.specs.Ports.{IsPlaceOrder, Ports}
use Rattle.unit_tree.specs.Successor.{agreed, limits, proposed, when}
use Rattle.unit_tree.specs.Trace.{AreWordsOf, Stand}

abbrev IsShortAsked : Asked → Type 0
IsShortAsked (AtMost local) = local < 2 ^ 63
IsShortAsked _ = ⊤

abbrev IsShortSaid : Said → Type 0
IsShortSaid (Accepted accepted) = accepted < 2 ^ 63
IsShortSaid (StepFault fault) = ⊤

-- ---- Entries of a board

entry_is : {A : Type 0} (P : A → Type 0) (entries : List (Option A)) (place : ℕ) (one : A) → AllByRecursion (λ found. IfSome found P) entries
    → entry entries place ≡ Some one → P one
entry_is P [] place one are is = absurd (cc)
entry_is P (None ∷ entries) zero one are is = absurd (cc)
entry_is P (Some other ∷ entries) zero one are is = let same : other ≡ one = cc in subst P same are.0
entry_is P (found ∷ entries) (suc place) one are is = entry_is P entries place one are.1 is

asked_short : (so : Bool) (told : Result (Option ℕ) Fault) → IsShortLimit told → IfSome (when so (asked_of told)) IsShortAsked
asked_short false told short = tt
asked_short true (Ok None) short = tt
asked_short true (Ok (Some local)) short = short
asked_short true (Err fault) short = tt

said_short : (there : Bool) (step : Option (Result Moved Fault)) → IsShortStep step → IfSome (said_where there step) IsShortSaid
said_short false step short = tt
said_short true None short = tt
said_short true (Some (Ok moved)) short = short
said_short true (Some (Err fault)) short = tt

abbrev Words : Member → List ℤ → Type 0
Words member state = AreWordsOf member.component.unit.states state

module _ (t : ℕ) (ports : Ports) where
  limits_short : (types : List Ty) (so : Bool) (members : List Member) (states : List (List ℤ)) → t ≤ 10 ^ 15 → ArePortsWords ports
      → AllByRecursion IsMember members → AllByRecursion (IsSoundMember types) members
      → AllByRecursion IsOfWords members → AllZip Words members states
      → AllByRecursion (λ found. IfSome found IsShortAsked) (map (λ standing. when so (asked_of (max_at t ports standing))) (zip members states))
  limits_short types so [] states small seen are sound words have = tt
  limits_short types so (member ∷ members) [] small seen are sound words have = absurd have
  limits_short types so (member ∷ members) (state ∷ states) small seen are sound words have = (
    asked_short so (max_at t ports (member, state)) (max_short types member sound.0 words.0 state have.0 ports seen t small are.0.factor),
    limits_short types so members states small seen are.1 sound.1 words.1 have.1,
  )

  steps_short : (there : Bool) (h : ℕ) (members : List Member) (states : List (List ℤ)) → t + h ≤ 10 ^ 15 → AllByRecursion IsMember members
      → AllZip Words members states
      → AllByRecursion (λ found. IfSome found IsShortSaid) (map (said_where there) (map (step_at t h ports) (zip members states)))
  steps_short there h [] states small are have = tt
  steps_short there h (member ∷ members) [] small are have = absurd have
  steps_short there h (member ∷ members) (state ∷ states) small are have = (
    said_short there (step_at t h ports (member, state)) (step_short t h ports member state small are.0 have.0),
    steps_short there h members states small are.1 have.1,
  )

-- ---- Facts

row_short : (row : ℕ) → row < 100000 → nat_lt row 100000 ≡ true
row_short row below = lt-ltb row 100000 below

length_short : (row length : ℕ) → row < 100000 → length < 2 ^ 63 → (nat_lt row 100000 && nat_lt length (2 ^ 63)) ≡ true
length_short row length below short = ap₂ (λ one other. one && other) (row_short row below) (lt-ltb length (2 ^ 63) short)

limit_is_short : (row instance : ℕ) (asked : Asked) → row < 100000 → IsShortAsked asked → is_short (Limit row instance asked) ≡ true
limit_is_short row instance Free below short = row_short row below
limit_is_short row instance (AtMost local) below short = length_short row local below short
limit_is_short row instance (MaxFault fault) below short = row_short row below

reply_is_short : (row instance : ℕ) (redo : Bool) (said : Said) → row < 100000 → IsShortSaid said → is_short (Reply row instance redo said) ≡ true
reply_is_short row instance redo (Accepted accepted) below short = length_short row accepted below short
reply_is_short row instance redo (StepFault fault) below short = row_short row below

module _ (run : Composition) (order : List ℕ) (is_order : IsPlaceOrder run order) (are : AreMembers run) (sound : IsSound run)
    (bounded : IsBounded run) (words : AreOfWords run) where
  module _ (stand : Stand) (place : IsPlace run stand) where
    abbrev t : ℕ
    t = stand.at.point.t

    below : stand.at.number < 100000
    below =
        let rows = (place_within run order are is_order stand bounded.some_row place).1 in
        let most = bounded.rows in
        omega (arith, rows, most)

    small_trial : t + proposed run stand.at stand.ports ≤ 10 ^ 15
    small_trial =
        let within = (place_within run order are is_order stand bounded.some_row place).0.stop in
        let most = bounded.stop in
        let least = (least_below (run.stop - t) (run.longest ∷ limits run stand.at stand.ports)).0 in
        omega (arith, within, most, least)

    small_redo : t + agreed run stand.at stand.ports ≤ 10 ^ 15
    small_redo = omega (arith, small_trial, place_at_most run order are is_order stand place)

    on_short : (fact : Fact) → row_of fact < 100000 → IsOn (board_of run stand) fact → is_short fact ≡ true
    on_short (Word row at seen) row_is on = row_short row row_is
    on_short (Limit row instance asked) row_is on =
        limit_is_short row instance asked row_is
        (entry_is IsShortAsked (board_of run stand).limits instance asked
        (limits_short t stand.ports (types_of_places run) (before_limits run stand) run.members stand.at.states (omega (arith, small_trial))
        (ports_fit run stand.at.states stand.ports (place_stands run order are is_order stand place)) are sound words
        (place_words run order are is_order stand place)) on)
    on_short (Reply row instance true said) row_is on =
        reply_is_short row instance true said row_is
        (entry_is IsShortSaid (board_of run stand).redos instance said
        (steps_short t stand.ports (before_redo run stand) (agreed run stand.at stand.ports) run.members stand.at.states small_redo are
        (place_words run order are is_order stand place)) on)
    on_short (Reply row instance false said) row_is on =
        reply_is_short row instance false said row_is
        (entry_is IsShortSaid (board_of run stand).replies instance said
        (steps_short t stand.ports (before_trial run stand) (proposed run stand.at stand.ports) run.members stand.at.states small_trial are
        (place_words run order are is_order stand place)) on)

  pub fact_is_short : (fact : Fact) → IsTrueFact run fact → is_short fact ≡ true
  fact_is_short fact so =
      on_short so.stand so.place fact (subst (λ row. row < 100000) (sym so.row) (below so.stand so.place)) so.on
