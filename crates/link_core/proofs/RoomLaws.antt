-- Memory for the states of all instances.
use Rattle.std.proofs.Common.{◌≡◌, ◌∙◌, ℕ, ◌<◌, ℤ, List, [], length, map, get_or, set, Some, Vec, Global, sym, ap, subst}
use Rattle.std.proofs.lemmas.List.{map-set}
use Rattle.std.proofs.lemmas.Option.{same_Some, get_or_from_slice_get}
use Rattle.std.specs.Prelude.{slice_get, slice_index_or}
use Rattle.std.specs.Vec.{with_items}
use Rattle.list_laws.proofs.Vectors.{items_put}
use Rattle.step_rule.proofs.AlongLaws.{mapped_at}
use Rattle.link_core.proofs.TriedSteps.{state_long}
use Rattle.list_laws.proofs.Members.{at_place, read_at}
use Rattle.list_laws.proofs.Pairs.{zip_at, zip_set}
use Rattle.port_solve.specs.Solved.{HaveStates}
use Rattle.unit_tree.specs.Compositions.{Composition, Member}

abbrev pub words_in : Vec ℤ Global → List ℤ
words_in one = one.items

module _ (run : Composition) (room : List (Vec ℤ Global)) (k : ℕ) (one : Vec ℤ Global) (within : k < length run.members) (many : k < length room)
    (have : HaveStates run (map words_in room)) (read : one ≡ get_or room k one) where
  there : slice_get (map words_in room) k ≡ Some one.items
  there = mapped_at words_in room k one (read_at room k one many read)

  pub room_at : (member : Member) → slice_get run.members k ≡ Some member → length one.items ≡ length member.component.unit.states
  room_at member is =
      let beside = zip_at _ run.members (map words_in room) k member have is in
      ap length (same_Some one.items beside.other (sym there ∙ beside.is)) ∙ beside.related

  -- It is as long as the state.
  pub room_for : (states : List (List ℤ)) → HaveStates run states → length one.items ≡ length (slice_index_or states k [])
  room_for states had =
      let member = at_place run.members k within in
      room_at member.0 member.1 ∙ sym (state_long run states k member.0 had member.1)

  pub room_set : (new : List ℤ) → length new ≡ length one.items → HaveStates run (map words_in (set room k (with_items one new)))
  room_set new long =
      subst (HaveStates run) (sym (map-set words_in room k (with_items one new)))
      (zip_set (λ (member : Member) words. length words ≡ length member.component.unit.states) run.members (map words_in room) k one.items
      (with_items one new).items have
      (λ member is. ap length (items_put one new long) ∙ long ∙ ap length (sym (get_or_from_slice_get (map words_in room) k one.items one.items there)) ∙ is))
