-- States that are saved and restored, unit by unit.
use Rattle.std.proofs.Common.{◌≡◌, ◌∙◌, ℕ, ◌+◌, ◌<◌, ℤ, List, [], length, map, get_or, set, Some, None, Vec, Global, sym, ap, ap₂, subst, arith}
use Rattle.std.proofs.lemmas.List.{map-set}
use Rattle.std.proofs.lemmas.Option.{get_or_from_slice_get}
use Rattle.std.proofs.lemmas.Slice.Zip.{AllZip-long}
use Rattle.std.specs.Prelude.{slice_get, slice_index_or}
use Rattle.std.specs.Vec.{with_items}
use Rattle.list_laws.proofs.Vectors.{items_put}
use Rattle.link_laws.specs.Making.{nothing_known, rule_of}
use Rattle.link_laws.specs.Nodes.{Making, restarted}
use Rattle.std.proofs.lemmas.List.{length-map}
use Rattle.link_core.specs.Noted.{AreNotes, forgotten, making_in, part_at}
use Rattle.link_core.specs.Ready.{kept_in, progress_in, shown_in}
use Rattle.link_core.specs.declared.course.NodePosition.{NodePosition}
use Rattle.link_core.specs.declared.course.Kept.{Kept}
use Rattle.link_core.specs.declared.notes.Notes.{Notes}
use Rattle.link_core.proofs.NextRows.{known_is}
use Rattle.link_core.proofs.LoopLaws.{Made, none_made, one_made}
use Rattle.link_core.proofs.RoomLaws.{room_for, room_set, words_in}
use Rattle.step_rule.proofs.AlongLaws.{mapped_at}
use Rattle.list_laws.proofs.Members.{read_at}
use Rattle.list_laws.proofs.Pairs.{zip_set}
use Rattle.port_solve.specs.Solved.{HaveStates}
use Rattle.trace_units.specs.Fleets.{Fleet, with_state}
use Rattle.unit_tree.specs.Compositions.{Composition, Member}

-- Lists of the right lengths, before any state is copied.
pub none_kept : (run : Composition) (made states : List (List ℤ)) → HaveStates run made → HaveStates run states → Made made 0 states
none_kept run made states have had = none_made made states (AllZip-long _ run.members made have ∙ sym (AllZip-long _ run.members states had))

-- ---- Keeping

module _ (run : Composition) (room : List (Vec ℤ Global)) (k : ℕ) (one : Vec ℤ Global) (within : k < length run.members) (many : k < length room)
    (have : HaveStates run (map words_in room)) (read : one ≡ get_or room k one)
    (states : List (List ℤ)) (had : HaveStates run states) (state : List ℤ) (is : slice_get states k ≡ Some state) where
  pub as_long : length one.items ≡ length state
  as_long = room_for run room k one within many have read states had ∙ ap length (get_or_from_slice_get states k state [] is)

  pub record Keeping (next : List (Vec ℤ Global)) : Type 0 where
    pub long : HaveStates run (map words_in next)
    pub made : Made (map words_in next) (k + 1) states

  pub kept_next : (new : List ℤ) → new ≡ state → Made (map words_in room) k states → Keeping (set room k (with_items one new))
  kept_next new same so =
      let long : length new ≡ length one.items = ap length same ∙ sym as_long in
      let put : (with_items one new).items ≡ state = items_put one new long ∙ same in
      let there : get_or states k (with_items one new).items ≡ (with_items one new).items = get_or_from_slice_get states k state (with_items one new).items is
      ∙ sym put in
      let below : k < length states = omega (arith, within, AllZip-long _ run.members states had) in
      record {
        long = room_set run room k one within many have read new long;
        made = subst (λ items. Made items (k + 1) states) (sym (map-set words_in room k (with_items one new)))
            (one_made (map words_in room) states k (with_items one new).items below there so);
      }

-- ---- Giving back

module _ (run : Composition) (kept : List (Vec ℤ Global)) (k : ℕ) (one : Vec ℤ Global) (within : k < length run.members)
    (have : HaveStates run (map words_in kept)) (read : one ≡ get_or kept k one)
    (now : Fleet) (had : HaveStates run now.states) (state : List ℤ) (is : state ≡ one.items) where
  many : k < length kept
  many = let long = AllZip-long _ run.members (map words_in kept) have in let same = length-map kept words_in in omega (arith, within, long, same)

  pub fits : length state ≡ length (slice_index_or now.states k [])
  fits = ap length is ∙ room_for run kept k one within many have read now.states had

  pub record Restoring (next : Fleet) : Type 0 where
    pub made : Made next.states (k + 1) (map words_in kept)
    pub long : HaveStates run next.states
    pub plan : next.plan ≡ now.plan
    pub inputs : next.inputs ≡ now.inputs

  pub restored_next : (next : Fleet) → next ≡ with_state now k state → Made now.states k (map words_in kept) → Restoring next
  restored_next next made so =
      let found : slice_get (map words_in kept) k ≡ Some one.items = mapped_at words_in kept k one (read_at kept k one many read) in
      let there : get_or (map words_in kept) k state ≡ state = get_or_from_slice_get (map words_in kept) k one.items state found ∙ sym is in
      let below : k < length (map words_in kept) = omega (arith, within, AllZip-long _ run.members (map words_in kept) have) in
      record {
        made = subst (λ (f : Fleet). Made f.states (k + 1) (map words_in kept)) (sym made) (one_made now.states (map words_in kept) k state below there so);
        long = subst (λ (f : Fleet). HaveStates run f.states) (sym made)
            (zip_set (λ (member : Member) words. length words ≡ length member.component.unit.states) run.members now.states k [] state had
            (λ member same. fits ∙ same));
        plan = ap (λ (f : Fleet). f.plan) made;
        inputs = ap (λ (f : Fleet). f.inputs) made;
      }

-- ---- A node that starts again

pub restarted_is : (run : Composition) (owners : List ℕ) (me : ℕ) (old new : List (List ℤ)) (notes cleared : Notes) (course again : NodePosition) (kept : Kept)
    → AreNotes run notes → making_in cleared ≡ forgotten (making_in notes)
    → new ≡ map words_in kept.states.items → again.point ≡ kept.point → again.number ≡ kept.number → again.ended ≡ None → shown_in again.shown ≡ None
    → progress_in owners me new cleared again kept ≡ restarted (rule_of run owners) (progress_in owners me old notes course kept)
restarted_is run owners me old new notes cleared course again kept noted notes_are states point number ended shown =
    ap₂ (λ p n. record {
      at = part_at owners me p n new;
      known = (making_in cleared).known;
      ended = again.ended;
      kept = kept_in owners me kept;
      facts = cleared.facts.items;
      row = shown_in again.shown;
    }) point number
    ∙ ap₂ (λ e r. record {
      at = part_at owners me kept.point kept.number new;
      known = (making_in cleared).known;
      ended = e;
      kept = kept_in owners me kept;
      facts = cleared.facts.items;
      row = r;
    }) ended shown
    ∙ ap₂ (λ all board. record {
      at = part_at owners me kept.point kept.number all;
      known = board;
      ended = None;
      kept = kept_in owners me kept;
      facts = cleared.facts.items;
      row = None;
    }) states (known_is run notes cleared noted notes_are)
    ∙ ap (λ facts. record { at = kept_in owners me kept; known = nothing_known run; ended = None; kept = kept_in owners me kept; facts = facts; row = None })
    (ap (λ (making : Making). making.facts) notes_are)
