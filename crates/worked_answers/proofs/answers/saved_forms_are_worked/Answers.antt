use Rattle.std.proofs.Common.{ℕ, ◌≤◌, pos, true, List, [], ◌∷◌, ◌++◌, inl, inr, refl, ap, arith}
use Rattle.std.specs.Prelude.{codes}
use Rattle.std.specs.Fmt.{digits}
use Rattle.std.specs.Str.{bytes_eq}
use Rattle.std.proofs.lemmas.Bool.{leb-true}
use Rattle.std.proofs.lemmas.List.{append_cancel_left}
use Rattle.list_laws.proofs.Truths.{true_is_false}
use Rattle.super_time.specs.declared.point.Point.{Point}
use Rattle.save_point.specs.Reading.{word_in}
use Rattle.save_point.specs.SavedTexts.{BreaksState, IsRowLine, IsTitleLine, LacksPoint, LacksRow, NamedState, number_limit}
use Rattle.save_point.proofs.LineLaws.{lacks_all, lacks_this}
use Rattle.save_point.proofs.ReadStates.{no_state}
use Rattle.worked_answers.specs.WorkedTables.{text_of}
use Rattle.worked_answers.proofs.FirstLines.{first_line}
use Rattle.worked_answers.proofs.NeedlessZeros.{no_needless_zero}
use Rattle.worked_answers.proofs.answers.saved_forms_are_worked.Goals as goal

-- What follows the title, the row and the point, in the texts of which these lines have their form.
abbrev wrong_row : List ℕ
wrong_row = text_of (codes "row 02" ∷ codes "at 2 0" ∷ codes "state a 2" ∷ [])

abbrev of_states : List ℕ
of_states = text_of (codes "state a 2" ∷ codes "state b  3" ∷ codes "cosim 1" ∷ [])

abbrev of_wrong_state : List ℕ
of_wrong_state = text_of (codes "state b  3" ∷ codes "cosim 1" ∷ [])

abbrev second_point : Point
second_point = record { t = 2; n = 0 }

abbrev state_a : NamedState
state_a = record { name = codes "a"; words = pos 2 ∷ [] }

no_title : IsTitleLine (codes "saved 2") → ⊥
no_title same = true_is_false true refl (ap (λ line. bytes_eq line (codes "saved 2")) same)

no_row : (row : ℕ) → IsRowLine (codes "row 02") row → ⊥
no_row row is = no_needless_zero row 50 (omega (arith, is.0)) (append_cancel_left (codes "row ") (codes "02") _ is.1)

lacks_row : LacksRow (codes "saved 1" ++ 10 ∷ wrong_row)
lacks_row = record {
  rest = wrong_row;
  begins = (wrong_row, first_line (codes "saved 1") wrong_row refl refl, refl);
  lacks = lacks_this (λ line. (row : ℕ) × IsRowLine line row) wrong_row (codes "row 02") (text_of (codes "at 2 0" ∷ codes "state a 2" ∷ []))
      (first_line (codes "row 02") (text_of (codes "at 2 0" ∷ codes "state a 2" ∷ [])) refl refl) (λ form. no_row form.0 form.1);
}

two_within : 2 ≤ number_limit
two_within = leb-true 2 number_limit refl

lacks_point : LacksPoint (text_of (codes "saved 1" ∷ codes "row 2" ∷ []))
unfolding digits
lacks_point = record {
  row = 2;
  rest = [];
  begins = (
    text_of (codes "row 2" ∷ []),
    first_line (codes "saved 1") (text_of (codes "row 2" ∷ [])) refl refl,
    ([], first_line (codes "row 2") [] refl refl, refl),
  );
  row_within = two_within;
  lacks = lacks_all _ [] refl;
}

breaks_state : BreaksState (text_of (codes "saved 1" ∷ codes "row 2" ∷ codes "at 2 0" ∷ codes "state a 2" ∷ codes "state b  3" ∷ codes "cosim 1" ∷ [])) 5
unfolding digits word_in
breaks_state = record {
  row = 2;
  point = second_point;
  states = state_a ∷ [];
  rest = of_wrong_state;
  line = codes "state b  3";
  behind = text_of (codes "cosim 1" ∷ []);
  begins = (
    text_of (codes "row 2" ∷ codes "at 2 0" ∷ codes "state a 2" ∷ codes "state b  3" ∷ codes "cosim 1" ∷ []),
    first_line (codes "saved 1") (text_of (codes "row 2" ∷ codes "at 2 0" ∷ codes "state a 2" ∷ codes "state b  3" ∷ codes "cosim 1" ∷ [])) refl refl,
    (
      text_of (codes "at 2 0" ∷ codes "state a 2" ∷ codes "state b  3" ∷ codes "cosim 1" ∷ []),
      first_line (codes "row 2") (text_of (codes "at 2 0" ∷ codes "state a 2" ∷ codes "state b  3" ∷ codes "cosim 1" ∷ [])) refl refl,
      (
        of_states,
        first_line (codes "at 2 0") of_states refl refl,
        (of_wrong_state, first_line (codes "state a 2") of_wrong_state refl refl, refl),
      ),
    ),
  );
  numbers = record { row_within = two_within; point_within = record { ticks = two_within; steps = leb-true 0 number_limit refl } };
  are_states = (record { name_is = (refl, refl, omega arith); words_fit = (refl, _) }, _);
  first = first_line (codes "state b  3") (text_of (codes "cosim 1" ∷ [])) refl refl;
  may_be = (codes "b  3", refl);
  is_none = no_state (codes "b  3") refl;
  place = refl;
}

pub returns : goal.returns
returns c = record {
  empty = inl (refl, lacks_all IsTitleLine [] refl);
  other_version = inl (
    refl,
    lacks_this IsTitleLine (text_of (codes "saved 2" ∷ codes "row 2" ∷ [])) (codes "saved 2") (text_of (codes "row 2" ∷ []))
        (first_line (codes "saved 2") (text_of (codes "row 2" ∷ [])) refl refl) no_title,
  );
  needless_zero = inr (inl (refl, lacks_row));
  no_point = inr (inr (inl (refl, lacks_point)));
  two_spaces = inr (inr (inr breaks_state));
}
