-- Preparing seats for a step leaves their snapshots and the inputs at the row before unchanged. It determines their cells.
use Rattle.std.proofs.Common.{◌≡◌, ◌∙◌, ℕ, zero, suc, ◌<◌, Bool, true, false, ℤ, List, [], ◌∷◌, map, zip, length, get_or, set, Some, refl, sym, ap, subst}
use Rattle.std.proofs.Common.{arith}
use Rattle.std.proofs.lemmas.List.{length-map}
use Rattle.std.proofs.lemmas.Option.{same_Some}
use Rattle.std.specs.Prelude.{slice_get, unwrap_or, if◌then◌else◌}
use Rattle.std.specs.List.{AllZip}
use Rattle.snap_store.specs.Store.{Store, words_of}
use Rattle.trace_core.specs.Arriving.{AreBegunIn}
use Rattle.trace_core.specs.Keeping.{cells_seen, inputs_before}
use Rattle.trace_core.specs.Runs.{Held, Empty, cell_of, cells_of}
use Rattle.trace_core.specs.Seats.{IsBegun, AreBegun, cell_in, cells_in, fresh_slot, AreSaved, saved, HaveOwnIds}
use Rattle.trace_core.specs.declared.phase.Phase.{Phase}
use Rattle.trace_core.specs.declared.phase.Phase.TheVariants.{Trial, Redo, Ended}
use Rattle.trace_core.specs.declared.seat.Seat.{Seat}
use Rattle.step_rule.specs.declared.steps.Slot.TheVariants as slot
use Rattle.unit_tree.specs.Compositions.{Member, Composition}
use Rattle.unit_tree.specs.Negotiation.{is_held}

-- ---- Seats with the same snapshots

abbrev pub ids_of : List Seat → List ℕ
ids_of seats = map (λ seat. seat.id) seats

-- Snapshots and the inputs before are the same.
pub record AreKept (old new : List Seat) : Type 0 where
  pub ids : ids_of new ≡ ids_of old
  pub before : inputs_before new ≡ inputs_before old

id_at : (default : Seat) (seats : List Seat) (k : ℕ) → get_or (ids_of seats) k default.id ≡ (get_or seats k default).id
id_at default [] k = refl
id_at default (seat ∷ seats) ℕ.zero = refl
id_at default (seat ∷ seats) (ℕ.suc k) = id_at default seats k

pub as_many_kept : (old new : List Seat) → ids_of new ≡ ids_of old → length new ≡ length old
as_many_kept old new same = sym (length-map new (λ (seat : Seat). seat.id)) ∙ ap length same ∙ length-map old (λ (seat : Seat). seat.id)

pub own_kept : (old new : List Seat) → ids_of new ≡ ids_of old → HaveOwnIds old → HaveOwnIds new
own_kept old new same own default one other before within =
    let there : (k : ℕ) → (get_or new k default).id ≡ (get_or old k default).id =
    λ (k : ℕ). sym (id_at default new k) ∙ ap (λ ids. get_or ids k default.id) same ∙ id_at default old k in
    λ equal. own default one other before (subst (λ count. other < count) (as_many_kept old new same) within) (sym (there one) ∙ equal ∙ there other)

pub saved_kept : (store : Store) (old new : List Seat) → ids_of new ≡ ids_of old → saved store new ≡ saved store old
saved_kept store [] [] same = refl
saved_kept store [] (seat ∷ new) same = absurd (cc)
saved_kept store (seat ∷ old) [] same = absurd (cc)
saved_kept store (had ∷ old) (seat ∷ new) same =
    let first : seat.id ≡ had.id = cc in
    let others : ids_of new ≡ ids_of old = cc in
    ap (λ id. unwrap_or (words_of store id) [] ∷ saved store new) first
    ∙ ap (λ rest. unwrap_or (words_of store had.id) [] ∷ rest) (saved_kept store old new others)

pub are_saved_kept : (store : Store) (old new : List Seat) (states : List (List ℤ)) → ids_of new ≡ ids_of old → AreSaved store old states
    → AreSaved store new states
are_saved_kept store [] [] states same are = are
are_saved_kept store [] (seat ∷ new) states same are = absurd (cc)
are_saved_kept store (seat ∷ old) [] states same are = absurd (cc)
are_saved_kept store (had ∷ old) (seat ∷ new) [] same are = absurd are
are_saved_kept store (had ∷ old) (seat ∷ new) (state ∷ states) same are =
    let first : seat.id ≡ had.id = cc in
    let others : ids_of new ≡ ids_of old = cc in
    (ap (words_of store) first ∙ are.0, are_saved_kept store old new states others are.1)

-- ---- What contracts see of seats

pub cells_long : (seats : List Seat) (states : List (List ℤ)) → length (cells_in seats states) ≡ length seats
cells_long [] states = refl
cells_long (seat ∷ seats) [] = ap suc (cells_long seats [])
cells_long (seat ∷ seats) (state ∷ states) = ap suc (cells_long seats states)

pub cell_there : (seats : List Seat) (states : List (List ℤ)) (instance : ℕ) (seat : Seat) → slice_get seats instance ≡ Some seat
    → slice_get (cells_in seats states) instance ≡ Some (cell_in seat.slot (get_or states instance []))
cell_there [] states instance seat is = absurd (cc)
cell_there (first ∷ seats) [] zero seat is = ap (λ (one : Seat). Some (cell_in one.slot [])) (same_Some first seat is)
cell_there (first ∷ seats) [] (suc instance) seat is = cell_there seats [] instance seat is
cell_there (first ∷ seats) (state ∷ states) zero seat is = ap (λ (one : Seat). Some (cell_in one.slot state)) (same_Some first seat is)
cell_there (first ∷ seats) (state ∷ states) (suc instance) seat is = cell_there seats states instance seat is

pub cells_set : (seats : List Seat) (states : List (List ℤ)) (instance : ℕ) (seat : Seat) (state : List ℤ) → length states ≡ length seats
    → cells_in (set seats instance seat) (set states instance state) ≡ set (cells_in seats states) instance (cell_in seat.slot state)
cells_set [] [] instance seat state long = refl
cells_set [] (had ∷ states) instance seat state long = absurd (omega (arith, long))
cells_set (first ∷ seats) [] instance seat state long = absurd (omega (arith, long))
cells_set (first ∷ seats) (had ∷ states) zero seat state long = refl
cells_set (first ∷ seats) (had ∷ states) (suc instance) seat state long =
    ap (λ rest. cell_in first.slot had ∷ rest) (cells_set seats states instance seat state (omega (arith, long)))

-- ---- Seats that are prepared

cell_by : (held : Bool) (state : List ℤ) → cell_in (if held then slot.Held else slot.Empty) state ≡ (if held then Held else Empty)
cell_by true state = refl
cell_by false state = refl

-- Fresh slots are fresh cells, for any states of the units.
cells_fresh : (t h : ℕ) (members : List Member) (seats : List Seat) (states : List (List ℤ))
    → map (λ seat. seat.slot) seats ≡ map (λ member. fresh_slot t h member.factor) members
    → cells_in seats states ≡ map (cell_of t h) members
cells_fresh t h [] [] states fresh = refl
cells_fresh t h [] (seat ∷ seats) states fresh = absurd (cc)
cells_fresh t h (member ∷ members) [] states fresh = absurd (cc)
cells_fresh t h (member ∷ members) (seat ∷ seats) [] fresh =
    let first : seat.slot ≡ fresh_slot t h member.factor = cc in
    let others : map (λ (one : Seat). one.slot) seats ≡ map (λ (one : Member). fresh_slot t h one.factor) members = cc in
    ap (λ made. cell_in made [] ∷ cells_in seats []) first
    ∙ ap (λ cell. cell ∷ cells_in seats []) (cell_by (is_held member.factor t h) [])
    ∙ ap (λ rest. cell_of t h member ∷ rest) (cells_fresh t h members seats [] others)
cells_fresh t h (member ∷ members) (seat ∷ seats) (state ∷ states) fresh =
    let first : seat.slot ≡ fresh_slot t h member.factor = cc in
    let others : map (λ (one : Seat). one.slot) seats ≡ map (λ (one : Member). fresh_slot t h one.factor) members = cc in
    ap (λ made. cell_in made state ∷ cells_in seats states) first
    ∙ ap (λ cell. cell ∷ cells_in seats states) (cell_by (is_held member.factor t h) state)
    ∙ ap (λ rest. cell_of t h member ∷ rest) (cells_fresh t h members seats states others)

abbrev Begun : ℕ → ℕ → Member → Seat × Seat → Type 0
Begun t h member pair = IsBegun t h member.factor pair.0 pair.1

slots_in : (t h : ℕ) (members : List Member) (pairs : List (Seat × Seat)) → AllZip (Begun t h) members pairs
    → map (λ (pair : Seat × Seat). pair.1.slot) pairs ≡ map (λ (member : Member). fresh_slot t h member.factor) members
slots_in t h [] [] begun = refl
slots_in t h [] (pair ∷ pairs) begun = absurd begun
slots_in t h (member ∷ members) [] begun = absurd begun
slots_in t h (member ∷ members) (pair ∷ pairs) begun =
    ap (λ made. made ∷ map (λ (one : Seat × Seat). one.1.slot) pairs) begun.0.slot
    ∙ ap (λ rest. fresh_slot t h member.factor ∷ rest) (slots_in t h members pairs begun.1)

ids_in : (t h : ℕ) (members : List Member) (pairs : List (Seat × Seat)) → AllZip (Begun t h) members pairs
    → map (λ (pair : Seat × Seat). pair.1.id) pairs ≡ map (λ (pair : Seat × Seat). pair.0.id) pairs
ids_in t h [] [] begun = refl
ids_in t h [] (pair ∷ pairs) begun = absurd begun
ids_in t h (member ∷ members) [] begun = absurd begun
ids_in t h (member ∷ members) (pair ∷ pairs) begun =
    ap (λ id. id ∷ map (λ (one : Seat × Seat). one.1.id) pairs) begun.0.id ∙ ap (λ rest. pair.0.id ∷ rest) (ids_in t h members pairs begun.1)

before_in : (t h : ℕ) (members : List Member) (pairs : List (Seat × Seat)) → AllZip (Begun t h) members pairs
    → map (λ (pair : Seat × Seat). pair.1.before.items) pairs ≡ map (λ (pair : Seat × Seat). pair.0.before.items) pairs
before_in t h [] [] begun = refl
before_in t h [] (pair ∷ pairs) begun = absurd begun
before_in t h (member ∷ members) [] begun = absurd begun
before_in t h (member ∷ members) (pair ∷ pairs) begun =
    ap (λ had. had.items ∷ map (λ (one : Seat × Seat). one.1.before.items) pairs) begun.0.before
    ∙ ap (λ rest. pair.0.before.items ∷ rest) (before_in t h members pairs begun.1)

first_mapped : {A : Type 0} (f : Seat → A) (olds news : List Seat) → length news ≡ length olds
    → map (λ (pair : Seat × Seat). f pair.0) (zip olds news) ≡ map f olds
first_mapped f [] [] long = refl
first_mapped f [] (seat ∷ news) long = absurd (omega (arith, long))
first_mapped f (seat ∷ olds) [] long = absurd (omega (arith, long))
first_mapped f (had ∷ olds) (seat ∷ news) long = ap (λ rest. f had ∷ rest) (first_mapped f olds news (omega (arith, long)))

second_mapped : {A : Type 0} (f : Seat → A) (olds news : List Seat) → length news ≡ length olds
    → map (λ (pair : Seat × Seat). f pair.1) (zip olds news) ≡ map f news
second_mapped f [] [] long = refl
second_mapped f [] (seat ∷ news) long = absurd (omega (arith, long))
second_mapped f (seat ∷ olds) [] long = absurd (omega (arith, long))
second_mapped f (had ∷ olds) (seat ∷ news) long = ap (λ rest. f seat ∷ rest) (second_mapped f olds news (omega (arith, long)))

module _ (t h : ℕ) (members : List Member) (old new : List Seat) (begun : AreBegun t h members old new) where
  pub seen_begun : (states : List (List ℤ)) → cells_in new states ≡ map (cell_of t h) members
  seen_begun states =
      cells_fresh t h members new states
      (sym (second_mapped (λ (seat : Seat). seat.slot) old new begun.as_many) ∙ slots_in t h members (zip old new) begun.each)

  pub kept_begun : AreKept old new
  kept_begun = record {
    ids =
        sym (second_mapped (λ (seat : Seat). seat.id) old new begun.as_many)
        ∙ ids_in t h members (zip old new) begun.each
        ∙ first_mapped (λ (seat : Seat). seat.id) old new begun.as_many;
    before =
        sym (second_mapped (λ (seat : Seat). seat.before.items) old new begun.as_many)
        ∙ before_in t h members (zip old new) begun.each
        ∙ first_mapped (λ (seat : Seat). seat.before.items) old new begun.as_many;
  }

-- In the phase that is begun.
pub seen_in_phase : (run : Composition) (t : ℕ) (phase : Phase) (old new : List Seat) (states : List (List ℤ)) → AreBegunIn t phase run.members old new
    → cells_seen phase new states ≡ cells_of run t phase
seen_in_phase run t (Trial h) old new states begun = seen_begun t h run.members old new begun states
seen_in_phase run t (Redo h) old new states begun = seen_begun t h run.members old new begun states
seen_in_phase run t (Ended ending) old new states begun = refl

pub kept_in_phase : (members : List Member) (t : ℕ) (phase : Phase) (old new : List Seat) → AreBegunIn t phase members old new → AreKept old new
kept_in_phase members t (Trial h) old new begun = kept_begun t h members old new begun
kept_in_phase members t (Redo h) old new begun = kept_begun t h members old new begun
kept_in_phase members t (Ended ending) old new begun = record { ids = ap ids_of begun; before = ap inputs_before begun }
