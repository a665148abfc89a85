-- A run that has passed some stands of the rest of the position at which it was opened.
use Rattle.std.proofs.Common.{◌≡◌, ℕ, List, [], ◌∷◌, ◌++◌, refl, sym, ap, subst, ◌∙◌, append_assoc}
use Rattle.std.specs.Prelude.{Option}
use Rattle.std.specs.List.{flat_map}
use Rattle.std.specs.Io.KnownBytes.{Appends}
use Rattle.std.proofs.lemmas.List.Elements.{filter_map-append}
use Rattle.std.proofs.lemmas.Grind.{flat_map-append}
use Rattle.std.proofs.lemmas.Slice.Zip.{AllZip-long}
use Rattle.cosim_io.specs.Pieces.{AppendsPrefix}
use Rattle.cosim_io.proofs.PieceLemmas.{AppendsPrefix-after, AppendsPrefix-longer}
use Rattle.unit_tree.specs.Compositions.{Composition}
use Rattle.unit_tree.specs.Ports.{IsAssignment, IsPlaceOrder}
use Rattle.unit_tree.specs.Successor.{Position, goes, ends, successor}
use Rattle.unit_tree.specs.Trace.{Stand, IsStand, Goes, Follows, GoesOnFrom, Row, row_at, rows_of, last_point, HasWords, AreWordsOf}
use Rattle.unit_tree.specs.declared.ending.Ending.{Ending}
use Rattle.run_laws.proofs.AssignmentLaws.{one_assignment}

-- ---- Where a rest is passed

-- The stands of a rest are the passed ones, the one here, and those that follow it.
pub record Onward (run : Composition) (passed : List Stand) (here : Stand) (stands : List Stand) (ending : Ending) : Type 0 where
  pub later : List Stand
  pub split : stands ≡ passed ++ (here ∷ later)
  pub follows : Follows run here later ending

-- Every rest of the position continues from here.
abbrev pub Walked : Composition → Position → List Stand → Stand → Type 0
Walked run from passed here = (stands : List Stand) (ending : Ending) → GoesOnFrom run from stands ending → Onward run passed here stands ending

-- Two stands at one position are equal.
one_stand : (run : Composition) (order : List ℕ) (one other : Stand) → IsPlaceOrder run order → HasWords run one.at → IsStand run one → IsStand run other
    → other.at ≡ one.at → other ≡ one
one_stand run order one other ordered words is_one is_other same =
    let as_many = AllZip-long (λ member state. AreWordsOf member.component.unit.states state) run.members one.at.states words in
    let only = one_assignment run order one.at.states ordered as_many in
    let assigned : IsAssignment run one.at.states other.ports = subst (λ (at : Position). IsAssignment run at.states other.ports) same is_other in
    ap (λ at. record { at = at; ports = other.ports }) same
    ∙ ap (λ ports. record { at = one.at; ports = ports }) (only.is_only other.ports assigned ∙ sym (only.is_only one.ports is_one))

pub walked_first : (run : Composition) (order : List ℕ) (from : Position) (first : Stand) → IsPlaceOrder run order → HasWords run first.at
    → IsStand run first → first.at ≡ from → Walked run from [] first
walked_first run order from first ordered words is_stand is [] ending rest = absurd rest
walked_first run order from first ordered words is_stand is (stand ∷ others) ending rest =
    let same = one_stand run order first stand ordered words is_stand rest.1 (rest.0 ∙ sym is) in
    record { later = others; split = ap (λ (s : Stand). s ∷ others) same; follows = subst (λ s. Follows run s others ending) same rest.2 }

on_from : (run : Composition) (order : List ℕ) (passed : List Stand) (here next : Stand) (stands : List Stand) (ending : Ending) (later : List Stand)
    → IsPlaceOrder run order → HasWords run next.at → Goes run here next → stands ≡ passed ++ (here ∷ later) → Follows run here later ending
    → Onward run (passed ++ (here ∷ [])) next stands ending
on_from run order passed here next stands ending [] ordered words to_next split follows = absurd (differ (sym to_next.0 ∙ follows))
  where
    differ : goes next.at ≡ ends ending → ⊥
    differ e = cc
on_from run order passed here next stands ending (stand ∷ later) ordered words to_next split follows =
    let same = one_stand run order next stand ordered words to_next.1 follows.0.1 (position (sym follows.0.0 ∙ to_next.0)) in
    record {
      later = later;
      split = split ∙ ap (λ s. passed ++ (here ∷ (s ∷ later))) same ∙ sym (append_assoc passed (here ∷ []) (next ∷ later));
      follows = subst (λ s. Follows run s later ending) same follows.1;
    }
  where
    position : goes stand.at ≡ goes next.at → stand.at ≡ next.at
    position e = cc

pub walked_on : (run : Composition) (order : List ℕ) (from : Position) (passed : List Stand) (here next : Stand) → IsPlaceOrder run order
    → HasWords run next.at → Goes run here next → Walked run from passed here → Walked run from (passed ++ (here ∷ [])) next
walked_on run order from passed here next ordered words to_next walked stands ending rest =
    let on = walked stands ending rest in
    on_from run order passed here next stands ending on.later ordered words to_next on.split on.follows

-- Where the run ends, the rest ends.
end_from : (run : Composition) (passed : List Stand) (here : Stand) (stands : List Stand) (end ending : Ending) (later : List Stand)
    → successor run here.at here.ports ≡ ends ending → stands ≡ passed ++ (here ∷ later) → Follows run here later end
    → (stands ≡ passed ++ (here ∷ [])) × (end ≡ ending)
end_from run passed here stands end ending [] is split follows = (split, same (sym follows ∙ is))
  where
    same : ends end ≡ ends ending → end ≡ ending
    same e = cc
end_from run passed here stands end ending (stand ∷ later) is split follows = absurd (differ (sym follows.0.0 ∙ is))
  where
    differ : goes stand.at ≡ ends ending → ⊥
    differ e = cc

pub walked_end : (run : Composition) (from : Position) (passed : List Stand) (here : Stand) (stands : List Stand) (end ending : Ending)
    → Walked run from passed here → successor run here.at here.ports ≡ ends ending → GoesOnFrom run from stands end
    → (stands ≡ passed ++ (here ∷ [])) × (end ≡ ending)
walked_end run from passed here stands end ending walked is rest =
    let on = walked stands end rest in
    end_from run passed here stands end ending on.later is on.split on.follows

pub last_is : (passed : List Stand) (here : Stand) → last_point (passed ++ (here ∷ [])) ≡ here.at.point
last_is [] here = refl
last_is (stand ∷ []) here = refl
last_is (stand ∷ (later ∷ others)) here = last_is (later ∷ others) here

-- ---- Text along stands

-- The text of the rows of stands.
abbrev pub text_along : Composition → (Row → List ℕ) → List Stand → List ℕ
text_along run line stands = flat_map line (rows_of run stands)

pub text_along-append : (run : Composition) (line : Row → List ℕ) (passed later : List Stand)
    → text_along run line (passed ++ later) ≡ text_along run line passed ++ text_along run line later
text_along-append run line passed later = ap (flat_map line) (filter_map-append (row_at run) passed later)
    ∙ flat_map-append line (rows_of run passed) (rows_of run later)

-- What was written up to here, and a prefix of the row here, is a prefix of the text of every rest.
pub front_along : (run : Composition) (line : Row → List ℕ) (from : Position) (passed : List Stand) (here : Stand) (held0 held held' : Option (List ℕ))
    → Walked run from passed here → Appends held0 held (text_along run line passed) → AppendsPrefix held held' (text_along run line (here ∷ []))
    → (stands : List Stand) (ending : Ending) → GoesOnFrom run from stands ending → AppendsPrefix held0 held' (text_along run line stands)
front_along run line from passed here held0 held held' walked put front stands ending rest =
    let on = walked stands ending rest in
    let text : text_along run line passed ++ (text_along run line (here ∷ []) ++ text_along run line on.later) ≡ text_along run line stands =
    ap (λ t. text_along run line passed ++ t) (sym (text_along-append run line (here ∷ []) on.later))
    ∙ sym (text_along-append run line passed (here ∷ on.later)) ∙ ap (text_along run line) (sym on.split) in
    subst (AppendsPrefix held0 held') text
    (AppendsPrefix-after held0 held held' (text_along run line passed) (text_along run line (here ∷ []) ++ text_along run line on.later) put
    (AppendsPrefix-longer held held' (text_along run line (here ∷ [])) (text_along run line on.later) front))
