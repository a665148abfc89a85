use Rattle.std.proofs.Common.{◌≡◌, ℕ, ◌+◌, ◌<◌, ◌≤◌, ℤ, pos, List, [], ◌∷◌, ◌++◌, map, length, get_or, refl, sym, ap, ◌∙◌, arith, rules}
use Rattle.std.specs.Prelude.{codes}
use Rattle.std.specs.Fmt.{digits}
use Rattle.std.proofs.lemmas.Bool.{leb-true}
use Rattle.list_laws.proofs.Truths.{true_is_false}
use Rattle.event_runs.specs.EventRuns.{event_run_of}
use Rattle.event_runs.specs.EventTrace.{EventFollows, IsEventStand, IsEventTrace, event_rows_of}
use Rattle.event_runs.specs.Events.{Occurs, Absent}
use Rattle.fixed_words.specs.Types.{is_word_of}
use Rattle.unit_tree.specs.declared.ending.Ending.TheVariants.{Completed}
use Rattle.fixed_words.specs.declared.types.Ty.TheVariants as types
use Rattle.super_time.specs.declared.point.Point.{Point}
use Rattle.unit_tree.specs.Parts.{joined}
use Rattle.unit_tree.specs.Successor.{Position}
use Rattle.unit_tree.specs.declared.expr.Expr.{the_lemmas as expr_lemmas}
use Rattle.unit_tree.specs.declared.line.Line.{the_lemmas as line_lemmas}
use Rattle.save_point.specs.SavedTexts.{AreNumbers, IsSaved, NamedState, number_limit, saved_text}
use Rattle.save_point.specs.declared.reading.Saved.{Saved}
use Rattle.cosim_answers.specs.SavedAnswers.{FitsSystem}
use Rattle.worked_answers.specs.WorkedPositions.{first_stands, latched, later_rows, later_stands, saved_with, position_lines, latched_position, position_saved, stand_at}
use Rattle.worked_answers.proofs.EventMeaning.{event_meaning}
use Rattle.worked_answers.proofs.SavedLines.{lines_save, saved_from, shaped}
use Rattle.worked_answers.proofs.answers.saved_positions_are_worked.Goals as goal

-- ---- Lines and their states

abbrev pulse : List ℤ → NamedState
pulse words = record { name = codes "p"; words = words }

abbrev latch : List ℤ → NamedState
latch words = record { name = codes "c"; words = words }

abbrev both : List NamedState
both = pulse (pos 2 ∷ []) ∷ latch (pos 10 ∷ pos 1 ∷ []) ∷ []

abbrev tick : ℕ → ℕ → Point
tick t n = record { t = t; n = n }

small : (row t n : ℕ) → row + t + n ≤ 10 → AreNumbers row (tick t n)
small row t n sum =
    let ten = leb-true 10 number_limit refl in
    record {
      row_within = omega (arith, sum, ten);
      point_within = record { ticks = omega (arith, sum, ten); steps = omega (arith, sum, ten) };
    }

position_saves : IsSaved (saved_with position_lines) position_saved
unfolding digits
position_saves =
    lines_save 2 (tick 2 0) both (small 2 2 0 (omega arith)) (search rules) (search rules)

position_fits : FitsSystem latched position_saved latched_position
position_fits = record {
  number = refl;
  there = refl;
  states = refl;
  names_are = refl;
  counts_are = refl;
  has_words = ((refl, _), ((refl, (refl, _)), _));
  stop = omega arith;
  zeros = omega arith;
  rows = omega arith;
}

-- The position with the greatest numbers and the greatest word.
abbrev greatest_states : List NamedState
greatest_states = pulse (pos 2 ∷ []) ∷ latch (pos 127 ∷ pos 0 ∷ []) ∷ []

-- ---- The trace

later_follow : EventFollows (event_run_of latched) (stand_at 2 Absent 10 1) (stand_at 3 (Occurs (pos 30)) 10 0 ∷ stand_at 4 Absent 30 1 ∷ []) Completed
later_follow = (
  simp event_meaning refl,
  simp event_meaning refl,
  (simp event_meaning refl, simp event_meaning refl, simp event_meaning refl),
)

there_is : IsEventStand (event_run_of latched) (stand_at 2 Absent 10 1)
there_is = simp event_meaning refl

trace_is : IsEventTrace (event_run_of latched) (first_stands ++ later_stands) Completed
trace_is = (
  refl,
  simp event_meaning refl,
  (simp event_meaning refl, simp event_meaning refl, (simp event_meaning refl, there_is, later_follow)),
)

rows_are : event_rows_of (event_run_of latched) later_stands ≡ later_rows
rows_are = simp event_meaning refl

-- ---- Positions that don't fit

-- The words of states that fit are those that are saved.
words_are : (saved : Saved) (at : Position) (fits : FitsSystem latched saved at)
    → (shaped at.states fits.has_words).count ∷ (shaped at.states fits.has_words).last ∷ (shaped at.states fits.has_words).on ∷ [] ≡ saved.states
words_are saved at fits = sym (ap joined (shaped at.states fits.has_words).is) ∙ fits.states

pub returns : goal.returns
unfolding digits saved_text
returns c = record {
  trace = trace_is;
  position = record {
    before = first_stands;
    here = stand_at 2 Absent 10 1;
    later = stand_at 3 (Occurs (pos 30)) 10 0 ∷ stand_at 4 Absent 30 1 ∷ [];
    ending = Completed;
    trace = trace_is;
    place = refl;
    is = refl;
  };
  rest = record { stands = later_stands; goes_on = (refl, there_is, later_follow); rows_are = sym rows_are; last_is = refl };
  lines = refl;
  text = simp (line_lemmas, expr_lemmas) refl;
  saves = position_saves;
  fits = position_fits;
  greatest = record {
    saved = saved_from 4 (tick 4 2) greatest_states;
    saves = lines_save 4 (tick 4 2) greatest_states (small 4 4 2 (omega arith)) (search rules) (search rules);
    fits = record {
      number = refl;
      there = refl;
      states = refl;
      names_are = refl;
      counts_are = refl;
      has_words = ((refl, _), ((refl, (refl, _)), _));
      stop = omega arith;
      zeros = omega arith;
      rows = omega arith;
    };
  };
  other_order = record {
    saved = saved_from 2 (tick 2 0) (latch (pos 10 ∷ pos 1 ∷ []) ∷ pulse (pos 2 ∷ []) ∷ []);
    saves = lines_save 2 (tick 2 0) (latch (pos 10 ∷ pos 1 ∷ []) ∷ pulse (pos 2 ∷ []) ∷ []) (small 2 2 0 (omega arith)) (search rules) (search rules);
    none = λ at fits. let same : 99 ≡ 112 = ap (λ names. get_or (get_or names 0 []) 0 0) fits.names_are in omega (arith, same);
  };
  one_instance = record {
    saved = saved_from 2 (tick 2 0) (pulse (pos 2 ∷ []) ∷ []);
    saves = lines_save 2 (tick 2 0) (pulse (pos 2 ∷ []) ∷ []) (small 2 2 0 (omega arith)) (search rules) (search rules);
    none = λ at fits. let same : 1 ≡ 2 = ap length fits.names_are in omega (arith, same);
  };
  other_counts = record {
    saved = saved_from 2 (tick 2 0) (pulse (pos 2 ∷ pos 10 ∷ []) ∷ latch (pos 1 ∷ []) ∷ []);
    saves = lines_save 2 (tick 2 0) (pulse (pos 2 ∷ pos 10 ∷ []) ∷ latch (pos 1 ∷ []) ∷ []) (small 2 2 0 (omega arith)) (search rules) (search rules);
    none = λ at fits.
        let same : 2 ≡ 1 = ap (λ counts. get_or counts 0 0) (fits.counts_are ∙ ap (map length) (shaped at.states fits.has_words).is) in
        omega (arith, same);
  };
  large_word = record {
    saved = saved_from 2 (tick 2 0) (pulse (pos 2 ∷ []) ∷ latch (pos 128 ∷ pos 1 ∷ []) ∷ []);
    saves = lines_save 2 (tick 2 0) (pulse (pos 2 ∷ []) ∷ latch (pos 128 ∷ pos 1 ∷ []) ∷ []) (small 2 2 0 (omega arith)) (search rules) (search rules);
    none = λ at fits.
        let word = ap (λ words. is_word_of types.Int8 (get_or words 1 (pos 0))) (words_are _ at fits) in
        true_is_false (is_word_of types.Int8 (shaped at.states fits.has_words).last) (shaped at.states fits.has_words).small word;
  };
  no_truth = record {
    saved = saved_from 2 (tick 2 0) (pulse (pos 2 ∷ []) ∷ latch (pos 10 ∷ pos 2 ∷ []) ∷ []);
    saves = lines_save 2 (tick 2 0) (pulse (pos 2 ∷ []) ∷ latch (pos 10 ∷ pos 2 ∷ []) ∷ []) (small 2 2 0 (omega arith)) (search rules) (search rules);
    none = λ at fits.
        let word = ap (λ words. is_word_of types.Bool (get_or words 2 (pos 0))) (words_are _ at fits) in
        true_is_false (is_word_of types.Bool (shaped at.states fits.has_words).on) (shaped at.states fits.has_words).truth word;
  };
  past_stop = record {
    saved = saved_from 2 (tick 5 0) both;
    saves = lines_save 2 (tick 5 0) both (small 2 5 0 (omega arith)) (search rules) (search rules);
    none = λ at fits.
        let there : at.point.t ≡ 5 = ap (λ point. point.t) fits.there in
        let bound : at.point.t ≤ 4 = fits.stop in
        omega (arith, there, bound);
  };
  past_zeros = record {
    saved = saved_from 2 (tick 2 3) both;
    saves = lines_save 2 (tick 2 3) both (small 2 2 3 (omega arith)) (search rules) (search rules);
    none = λ at fits.
        let there : at.point.n ≡ 3 = ap (λ point. point.n) fits.there in
        let bound : at.point.n ≤ 2 = fits.zeros in
        omega (arith, there, bound);
  };
  past_rows = record {
    saved = saved_from 5 (tick 2 0) both;
    saves = lines_save 5 (tick 2 0) both (small 5 2 0 (omega arith)) (search rules) (search rules);
    none = λ at fits.
        let bound : at.number < 5 = fits.rows in
        omega (arith, fits.number, bound);
  };
}
