-- A node at its start.
use Rattle.std.proofs.Common.{◌≡◌, ◌∙◌, ℕ, zero, suc, ◌+◌, ◌++◌, false, ℤ, List, [], ◌∷◌, length, map, None, Vec, Global, refl, sym, ap, ap₂, subst, arith}
use Rattle.std.specs.Prelude.{replicate}
use Rattle.link_laws.specs.Making.{names_of, nothing_known, part_of, ports_in, rule_of}
use Rattle.link_laws.specs.Nodes.{Making, opened}
use Rattle.std.proofs.lemmas.List.{length-map}
use Rattle.link_core.specs.Noted.{AreNotes, is_defined, making_in, part_at}
use Rattle.link_laws.specs.Boards.{are_nothing}
use Rattle.link_core.specs.Ready.{progress_in, shown_in}
use Rattle.link_core.specs.declared.course.NodePosition.{NodePosition}
use Rattle.link_core.specs.declared.notes.Notes.{Notes}
use Rattle.link_core.proofs.CountLaws.{none_defined}
use Rattle.link_laws.proofs.PlaceLaws.{nothing_fed}
use Rattle.link_core.proofs.RoomLaws.{words_in}
use Rattle.link_core.proofs.StageItems.{names_count}
use Rattle.port_solve.specs.Solved.{HaveTheirWords}
use Rattle.super_time.specs.declared.point.Point.{Point}
use Rattle.unit_tree.specs.Compositions.{Composition}
use Rattle.unit_tree.specs.Routes.{routes_of}
use Rattle.unit_tree.specs.Successor.{first_position}

each_value : {A B : Type 0} (n : ℕ) (xs : List A) (value : B) → n ≡ length xs → replicate n value ≡ map (λ x. value) xs
each_value zero [] value is = refl
each_value zero (x ∷ xs) value is = absurd (omega (arith, is))
each_value (suc n) [] value is = absurd (omega (arith, is))
each_value (suc n) (x ∷ xs) value is = ap (λ rest. value ∷ rest) (each_value n xs value (omega (arith, is)))

values_long : {A B : Type 0} (n : ℕ) (xs : List A) (value : B) → n ≡ length xs → length (replicate n value) ≡ length xs
values_long n xs value is = ap length (each_value n xs value is) ∙ length-map xs (λ x. value)

value_behind : {A : Type 0} (n : ℕ) (value : A) → replicate n value ++ (value ∷ []) ≡ replicate (suc n) value
value_behind zero value = refl
value_behind (suc n) value = ap (λ rest. value ∷ rest) (value_behind n value)

pub one_more_value : {A : Type 0} (n : ℕ) (value : A) → replicate n value ++ (value ∷ []) ≡ replicate (n + 1) value
one_more_value n value =
    let same : suc n ≡ n + 1 = omega arith in
    value_behind n value ∙ ap (λ count. replicate count value) same

abbrev blank : ℕ → ℕ → Making
blank places instances = record {
  known = record { words = replicate places None; limits = replicate instances None; replies = replicate instances None; redos = replicate instances None };
  facts = [];
}

module _ (run : Composition) (places instances : ℕ) (many : places ≡ length (routes_of run).outputs) (members : instances ≡ length run.members)
    (notes : Notes) (made : making_in notes ≡ blank places instances) where
  words_long : length notes.words.items ≡ length (routes_of run).outputs
  words_long =
      ap (λ (m : Making). length m.known.words) made
      ∙ ap length (each_value places (names_of run) None (many ∙ sym (names_count run)))
      ∙ length-map (names_of run) (λ name. None) ∙ names_count run

  nothing_is : are_nothing notes.words.items ≡ notes.words.items
  nothing_is = sym (each_value places notes.words.items None (many ∙ sym words_long)) ∙ sym (ap (λ (m : Making). m.known.words) made)

  pub are_notes : notes.defined.items ≡ replicate places false → AreNotes run notes
  are_notes defined =
      record {
        words = words_long;
        limits = ap (λ (m : Making). length m.known.limits) made ∙ values_long instances run.members None members;
        replies = ap (λ (m : Making). length m.known.replies) made ∙ values_long instances run.members None members;
        redos = ap (λ (m : Making). length m.known.redos) made ∙ values_long instances run.members None members;
        defined = defined ∙ each_value places notes.words.items false (many ∙ sym words_long) ∙ none_defined notes.words.items ∙ ap (map is_defined) nothing_is;
      }

  pub start_fed : (inputs : List (List ℤ)) → HaveTheirWords run [] inputs → HaveTheirWords run (ports_in notes.words.items) inputs
  start_fed inputs have = subst (λ all. HaveTheirWords run (ports_in all) inputs) nothing_is (nothing_fed run [] notes.words.items inputs have)

  blank_known : (blank places instances).known ≡ nothing_known run
  blank_known =
      ap₂ (λ w l. record { words = w; limits = l; replies = replicate instances None; redos = replicate instances None })
      (each_value places (names_of run) None (many ∙ sym (names_count run))) (each_value instances run.members None members)
      ∙ ap (λ all. record { words = (nothing_known run).words; limits = (nothing_known run).limits; replies = all; redos = all })
      (each_value instances run.members None members)

  pub opened_is : (owners : List ℕ) (me : ℕ) (states : List (List ℤ)) (course : NodePosition) (kept : Vec (Vec ℤ Global) Global)
      → states ≡ (first_position run).states → map words_in kept.items ≡ (first_position run).states
      → course.point ≡ record { t = 0; n = 0 } → course.number ≡ 0 → course.ended ≡ None → shown_in course.shown ≡ None
      → progress_in owners me states notes course (record { point = record { t = 0; n = 0 }; number = 0; states = kept }) ≡ opened (rule_of run owners) me
      (first_position run)
  opened_is owners me states course kept states_are kept_are point number ended shown =
      let start : Point = record { t = 0; n = 0 } in
      ap₂ (λ p n. record {
        at = part_at owners me p n states;
        known = (making_in notes).known;
        ended = course.ended;
        kept = part_at owners me start 0 (map words_in kept.items);
        facts = notes.facts.items;
        row = shown_in course.shown;
      }) point number
      ∙ ap₂ (λ e r. record {
        at = part_at owners me start 0 states;
        known = (making_in notes).known;
        ended = e;
        kept = part_at owners me start 0 (map words_in kept.items);
        facts = notes.facts.items;
        row = r;
      }) ended shown
      ∙ ap (λ (m : Making). record {
        at = part_at owners me start 0 states;
        known = m.known;
        ended = None;
        kept = part_at owners me start 0
            (map words_in kept.items);
        facts = m.facts;
        row = None;
      }) made
      ∙ ap₂ (λ all other. record {
        at = part_at owners me start 0 all;
        known = (blank places instances).known;
        ended = None;
        kept = part_at owners me start 0 other;
        facts = [];
        row = None;
      }) states_are kept_are
      ∙ ap (λ board. record {
        at = part_of owners me (first_position run);
        known = board;
        ended = None;
        kept = part_of owners me (first_position run);
        facts = [];
        row = None;
      }) blank_known
