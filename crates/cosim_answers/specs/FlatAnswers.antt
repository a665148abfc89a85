-- The answers of `flatten`, and the rules by which it refuses a text: rules 2 and 26 and those of the reader on the nested text, and 27
-- to 30 on its groups. Then come those of the language on the flat system, at the lines of its canonical text.
use Rattle.std.specs.Prelude.{◌≡◌, ◌⊎◌, ℕ, List}
use Rattle.nest_text.specs.Nests.{IsNestOf, RefusesNest}
use Rattle.nest_text.specs.declared.nest.Nest.{Nest}
use Rattle.nest_names.specs.Flattening.{flat_of}
use Rattle.sub_flat.specs.NestRules.{BreaksNest, IsRefusedNest}
use Rattle.text_accept.specs.Accepting.{IsAcceptedAs, IsRefusedAt}
use Rattle.unit_tree.specs.declared.system.System.{System}
use Rattle.cosim_call.specs.Answers.{Answer, piece_answer}
use Rattle.cosim_answers.specs.Accepted.{printed_text}

-- The text has a nest, which keeps the rules of groups, and this is the canonical text of its flat system.
pub record FlattensTo (text flat : List ℕ) : Type 0 where
  pub nest : Nest
  pub says : IsNestOf text nest
  pub kept : (line rule : ℕ) → BreaksNest nest line rule → ⊥
  pub is : flat ≡ printed_text (flat_of nest)

-- The answer is that text, which keeps all rules of the language.
pub record AnswersFlatten (text : List ℕ) (answer : Answer) : Type 0 where
  pub flat : List ℕ
  pub flattens : FlattensTo text flat
  pub system : System
  pub lines : List ℕ
  pub accepted : IsAcceptedAs flat system lines
  pub is : answer ≡ piece_answer flat

-- The text has a nest, which breaks a rule of groups.
pub record BreaksGroups (text : List ℕ) (line rule : ℕ) : Type 0 where
  pub nest : Nest
  pub says : IsNestOf text nest
  pub refused : IsRefusedNest nest line rule

-- The canonical text of its flat system is refused.
pub record RefusesFlat (text : List ℕ) (line rule : ℕ) : Type 0 where
  pub flat : List ℕ
  pub flattens : FlattensTo text flat
  pub refused : IsRefusedAt flat line rule

abbrev pub FlattenRefuses : List ℕ → ℕ → ℕ → Type 0
FlattenRefuses text line rule = RefusesNest text line rule ⊎ BreaksGroups text line rule ⊎ RefusesFlat text line rule
