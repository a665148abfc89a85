-- How many words the states of a position have, and positions that are saved.
use Rattle.std.proofs.Common.{◌≡◌, ℕ, ◌+◌, ◌<◌, ◌≤◌, true, ℤ, List, [], ◌∷◌, ◌++◌, map, length, take, get_or, Some, refl, sym, ap, ap₂, ◌∙◌, arith}
use Rattle.std.proofs.lemmas.List.{length-map, map-append, take_all, take_more}
use Rattle.std.proofs.lemmas.Option.{get_or_from_slice_get, slice_get-map, slice_get_within}
use Rattle.std.proofs.lemmas.Slice.Zip.{AllZip-long}
use Rattle.std.specs.Prelude.{Bool, IsTrue, ◌==◌, slice_get, suc}
use Rattle.std.proofs.lemmas.Bool.Decides.{nat_tests}
use Rattle.std.specs.Str.{bytes_eq}
use Rattle.std.proofs.lemmas.Bool.{and_from, and_parts}
use Rattle.std.proofs.lemmas.Slice.Eq.{bytes_eq-Decides}
use Rattle.std.specs.Option.{option_map}
use Rattle.save_point.specs.Reading.{same_names}
use Rattle.save_point.specs.Saving.{FitsNone, IsOpenedBy}
use Rattle.save_point.specs.declared.reading.Saved.{Saved}
use Rattle.trace_core.specs.OpenedAt.{IsOpenedAt}
use Rattle.trace_core.specs.Runs.{RunState, Stands}
use Rattle.trace_core.proofs.FitLaws.{fits_once}
use Rattle.trace_plan.specs.Plans.{Planned}
use Rattle.unit_tree.specs.Successor.{Position}
use Rattle.unit_tree.specs.Trace.{AreWordsOf}
use Rattle.unit_tree.specs.declared.system.Instance.{Instance}

pub states_long : (r : RunState) → Stands r → length r.stand.at.states ≡ length r.plan.run.members
states_long r stands =
    AllZip-long (λ member state. AreWordsOf member.component.unit.states state) r.plan.run.members r.stand.at.states stands.words

-- ---- Names

some_there : (count : ℕ) → (suc count == 0) ≡ true → ⊥
some_there count is = grind (arith, nat_tests)

names_told : (names : List (List ℕ)) (instances : List Instance) → same_names names instances ≡ true → names ≡ map (λ instance. instance.name) instances
names_told [] [] is = refl
names_told [] (instance ∷ instances) is = absurd (some_there (length instances) is)
names_told (name ∷ names) [] is = absurd (cc)
names_told (name ∷ names) (instance ∷ others) is =
    let both = and_parts (bytes_eq name instance.name) (same_names names others) is in
    ap₂ (λ one rest. one ∷ rest) ((bytes_eq-Decides name instance.name).0 both.0) (names_told names others both.1)

names_asked : (instances : List Instance) → same_names (map (λ instance. instance.name) instances) instances ≡ true
names_asked [] = refl
names_asked (instance ∷ others) =
    and_from (bytes_eq instance.name instance.name) (same_names (map (λ one. one.name) others) others)
    ((bytes_eq-Decides instance.name instance.name).1 refl) (names_asked others)

pub names_decide : (names : List (List ℕ)) (instances : List Instance) (told : Bool) → told ≡ same_names names instances
    → (IsTrue told → names ≡ map (λ instance. instance.name) instances) × (names ≡ map (λ instance. instance.name) instances → IsTrue told)
names_decide names instances told is = (
  λ yes. names_told names instances (sym is ∙ yes),
  λ same. is ∙ ap (λ all. same_names all instances) same ∙ names_asked instances,
)

-- ---- Counts in turn

pub counts_next : (counts : List ℕ) (states : List (List ℤ)) (place : ℕ) (words : List ℤ) → place < length counts
    → take place counts ≡ map length (take place states) → slice_get states place ≡ Some words → length words ≡ get_or counts place 0
    → take (place + 1) counts ≡ map length (take (place + 1) states)
counts_next counts states place words within kept there same =
    take_more counts place 0 within ∙ ap (λ front. front ++ (get_or counts place 0 ∷ [])) kept
    ∙ ap (λ count. map length (take place states) ++ (count ∷ [])) (sym same)
    ∙ sym (map-append {B = ℕ} length (take place states) (words ∷ []))
    ∙ ap (λ state. map length (take place states ++ (state ∷ []))) (sym (get_or_from_slice_get states place words [] there))
    ∙ ap (map length) (sym (take_more states place [] (slice_get_within states place words there)))

pub counts_all : (counts : List ℕ) (states : List (List ℤ)) (place : ℕ) → length counts ≤ place → length states ≤ place
    → take place counts ≡ map length (take place states) → counts ≡ map length states
counts_all counts states place past all kept = sym (take_all place counts past) ∙ kept ∙ ap (map length) (take_all place states all)

-- Where all counts are right, the one at a place is the length of the state there.
pub counts_differ : (counts : List ℕ) (states : List (List ℤ)) (place : ℕ) (words : List ℤ) → slice_get states place ≡ Some words
    → counts ≡ map length states → get_or counts place 0 ≡ length words
counts_differ counts states place words there same =
    get_or_from_slice_get counts place (length words) 0 (ap (λ all. slice_get all place) same ∙ at_mapped states place words there)
  where
    at_mapped : (states : List (List ℤ)) (place : ℕ) (words : List ℤ) → slice_get states place ≡ Some words
        → slice_get (map length states) place ≡ Some (length words)
    at_mapped states place words there = slice_get-map length states place ∙ ap (option_map length) there

-- As many counts as members.
pub as_many : (r : RunState) (counts : List ℕ) (instances : ℕ) → Stands r → instances ≡ length r.plan.run.members → counts ≡ map length r.stand.at.states
    → length counts ≡ instances
as_many r counts instances stands is same =
    ap length same ∙ length-map r.stand.at.states (λ (state : List ℤ). length state) ∙ states_long r stands ∙ sym is

-- ---- A run at a saved position

stands_there : (plan : Planned) (saved : Saved) (r : RunState) → IsOpenedAt plan saved.row saved.point saved.states r → r.stand.at ≡ r.opened
stands_there plan saved r opened = ap (λ (s : RunState). s.stand.at) opened.opened.is

pub opened_by : (plan : Planned) (saved : Saved) (r : RunState) → IsOpenedAt plan saved.row saved.point saved.states r
    → saved.names ≡ map (λ instance. instance.name) plan.system.instances → saved.counts ≡ map length r.stand.at.states → IsOpenedBy plan saved r
opened_by plan saved r opened names counts = record {
  fits = record {
    position = opened.fits;
    names_are = names;
    counts_are = counts ∙ ap (λ (at : Position). map length at.states) (stands_there plan saved r opened);
  };
  opened = opened.opened;
}

pub counts_misfit : (plan : Planned) (saved : Saved) (r : RunState) → IsOpenedAt plan saved.row saved.point saved.states r
    → (saved.counts ≡ map length r.stand.at.states → ⊥) → FitsNone plan saved
counts_misfit plan saved r opened differ at fits =
    let same = fits_once plan.run saved.row saved.point saved.states at r.opened fits.position opened.fits in
    differ (fits.counts_are ∙ ap (λ (p : Position). map length p.states) (same ∙ sym (stands_there plan saved r opened)))
