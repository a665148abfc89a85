use Rattle.std.proofs.Common.{ℕ, zero, suc, ◌<◌, [], ◌∷◌, inl, inr, refl, arith}
use Rattle.unit_tree.specs.Ports.{IsAmong}
use Rattle.language_laws.proofs.MeaningLemmas.{meaning_laws}
use Rattle.worked_facts.proofs.runs.runs_are_worked.Goals as goal

b_is_not_a : IsAmong (1 ∷ []) 0 → ⊥
b_is_not_a (inl same) = omega (arith, same)
b_is_not_a (inr none) = none

all_placed : (place : ℕ) → place < 2 → IsAmong (1 ∷ 0 ∷ []) place
all_placed zero within = inr (inl refl)
all_placed (suc zero) within = inl refl
all_placed (suc (suc place)) within = absurd (omega (arith, within))

pub returns-clause-counters : goal.returns-clause-counters
returns-clause-counters c = record {
  three = (
    refl,
    simp meaning_laws refl,
    (
      (simp meaning_laws refl, simp meaning_laws refl),
      ((simp meaning_laws refl, simp meaning_laws refl), ((simp meaning_laws refl, simp meaning_laws refl), simp meaning_laws refl)),
    ),
  );
  none = (refl, simp meaning_laws refl, simp meaning_laws refl);
  two_rows = (refl, simp meaning_laws refl, ((simp meaning_laws refl, simp meaning_laws refl), simp meaning_laws refl));
  four_rows = (
    refl,
    simp meaning_laws refl,
    (
      (simp meaning_laws refl, simp meaning_laws refl),
      ((simp meaning_laws refl, simp meaning_laws refl), ((simp meaning_laws refl, simp meaning_laws refl), simp meaning_laws refl)),
    ),
  );
  waits = (
    refl,
    simp meaning_laws refl,
    (
      (simp meaning_laws refl, simp meaning_laws refl),
      ((simp meaning_laws refl, simp meaning_laws refl), ((simp meaning_laws refl, simp meaning_laws refl), simp meaning_laws refl)),
    ),
  );
  beyond_type = (refl, simp meaning_laws refl, ((simp meaning_laws refl, simp meaning_laws refl), simp meaning_laws refl));
  beyond_words = (refl, simp meaning_laws refl, simp meaning_laws refl);
  negative_max = (refl, simp meaning_laws refl, simp meaning_laws refl);
}

pub returns-clause-ports : goal.returns-clause-ports
returns-clause-ports c = record {
  order = record { ordered = (omega arith, (λ none. none), _, (omega arith, b_is_not_a, (inl refl, _), _)); all = all_placed };
  routes = refl;
  around = (
    refl,
    simp meaning_laws refl,
    ((simp meaning_laws refl, simp meaning_laws refl), ((simp meaning_laws refl, simp meaning_laws refl), simp meaning_laws refl)),
  );
  first_fault = (refl, simp meaning_laws refl, simp meaning_laws refl);
  no_row = simp meaning_laws refl;
  along = (
    refl,
    simp meaning_laws refl,
    (
      (simp meaning_laws refl, simp meaning_laws refl),
      ((simp meaning_laws refl, simp meaning_laws refl), ((simp meaning_laws refl, simp meaning_laws refl), simp meaning_laws refl)),
    ),
  );
}

pub returns-clause-steps : goal.returns-clause-steps
returns-clause-steps c = record {
  pulse = (
    refl,
    simp meaning_laws refl,
    (
      (simp meaning_laws refl, simp meaning_laws refl),
      (
        (simp meaning_laws refl, simp meaning_laws refl),
        ((simp meaning_laws refl, simp meaning_laws refl), ((simp meaning_laws refl, simp meaning_laws refl), simp meaning_laws refl)),
      ),
    ),
  );
  redo_fault = (refl, simp meaning_laws refl, simp meaning_laws refl);
  redo_cells = simp meaning_laws refl;
  redo_zero = (refl, simp meaning_laws refl, simp meaning_laws refl);
  zero_cells = simp meaning_laws refl;
  defaults = (refl, refl);
  shorter = (
    refl,
    simp meaning_laws refl,
    (
      (simp meaning_laws refl, simp meaning_laws refl),
      ((simp meaning_laws refl, simp meaning_laws refl), ((simp meaning_laws refl, simp meaning_laws refl), simp meaning_laws refl)),
    ),
  );
  shorter_cells = simp meaning_laws refl;
  refused = (refl, simp meaning_laws refl, simp meaning_laws refl);
  held = (
    refl,
    simp meaning_laws refl,
    (
      (simp meaning_laws refl, simp meaning_laws refl),
      ((simp meaning_laws refl, simp meaning_laws refl), ((simp meaning_laws refl, simp meaning_laws refl), simp meaning_laws refl)),
    ),
  );
  held_cells = simp meaning_laws refl;
  zero_first = (
    refl,
    simp meaning_laws refl,
    (
      (simp meaning_laws refl, simp meaning_laws refl),
      ((simp meaning_laws refl, simp meaning_laws refl), ((simp meaning_laws refl, simp meaning_laws refl), simp meaning_laws refl)),
    ),
  );
}

pub returns-clause-heater : goal.returns-clause-heater
returns-clause-heater c = record {
  start = refl;
  start_ports = simp meaning_laws refl;
  cools = (simp meaning_laws refl, simp meaning_laws refl);
  is_lit = (simp meaning_laws refl, simp meaning_laws refl);
  warms = (simp meaning_laws refl, simp meaning_laws refl);
}
