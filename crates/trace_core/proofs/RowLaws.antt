-- Rows and states as they are lent.
use Rattle.std.proofs.Common.{◌≡◌, ◌∙◌, ℕ, Bool, true, false, ℤ, List, [], ◌∷◌, length, Option, Some, refl, sym, ap, subst, arith}
use Rattle.std.proofs.lemmas.Option.{slice_get-map}
use Rattle.std.specs.Prelude.{slice_get, unwrap_or, IsSome}
use Rattle.std.specs.List.{list_all, filter_map}
use Rattle.std.specs.Option.{option_map}
use Rattle.port_solve.specs.Solved.{ports_told}
use Rattle.snap_store.specs.Store.{Store, words_of, IsLive}
use Rattle.super_time.specs.declared.point.Point.{Point}
use Rattle.trace_core.specs.Runs.{ArePortsKnown}
use Rattle.trace_core.specs.Seats.{AreSaved, saved}
use Rattle.trace_core.specs.declared.seat.Seat.{Seat}
use Rattle.unit_tree.specs.Compositions.{Composition}
use Rattle.unit_tree.specs.Trace.{Stand, Row, row_at, row_unless}
use Rattle.list_laws.proofs.Pairs.{zip_at}

-- ---- The words of all outputs

words_known : (known : List Bool) (words : List ℤ) → length known ≡ length words → list_all (λ told. told) known ≡ true
    → filter_map (λ word. word) (ports_told known words) ≡ words
words_known [] [] long all = refl
words_known [] (word ∷ words) long all = absurd (omega (arith, long))
words_known (told ∷ known) [] long all = absurd (omega (arith, long))
words_known (true ∷ known) (word ∷ words) long all = ap (λ rest. word ∷ rest) (words_known known words (omega (arith, long)) all)
words_known (false ∷ known) (word ∷ words) long all = absurd (cc)

pub row_there : (run : Composition) (stand : Stand) (known : List Bool) (words : List ℤ) → ArePortsKnown run stand → stand.ports ≡ ports_told known words
    → length known ≡ length words → list_all (λ told. told) known ≡ true → row_at run stand ≡ Some (record { point = stand.at.point; words = words })
row_there run stand known words there ports long all =
    ap (λ fault. row_unless fault stand.at.point stand.ports) there
    ∙ ap (λ some. Some (record { point = stand.at.point; words = filter_map (λ word. word) some })) ports
    ∙ ap (λ some. Some (record { point = stand.at.point; words = some })) (words_known known words long all)

abbrev pub as_row : Point → List ℤ → Option Row
as_row point words = Some (record { point = point; words = words })

-- ---- Committed states

pub live_seat : (store : Store) (seats : List Seat) (states : List (List ℤ)) (instance : ℕ) (seat : Seat) → AreSaved store seats states
    → slice_get seats instance ≡ Some seat → IsLive store seat.id
live_seat store seats states instance seat are is =
    let beside = zip_at (λ (s : Seat) state. words_of store s.id ≡ Some state) seats states instance seat are is in
    subst IsSome (sym beside.related) refl

pub saved_words : (store : Store) (seats : List Seat) (instance : ℕ) (seat : Seat) (words : List ℤ) → slice_get seats instance ≡ Some seat
    → words_of store seat.id ≡ Some words → slice_get (saved store seats) instance ≡ Some words
saved_words store seats instance seat words is held =
    slice_get-map (λ (s : Seat). unwrap_or (words_of store s.id) []) seats instance
    ∙ ap (option_map (λ (s : Seat). unwrap_or (words_of store s.id) [])) is
    ∙ ap (λ found. Some (unwrap_or found [])) held
