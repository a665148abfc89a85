use Rattle.std.proofs.Common.{◌≡◌, ℕ, true, List, [], ◌∷◌, inl, inr, refl}
use Rattle.std.specs.Prelude.{codes, nat_le}
use Rattle.std.proofs.lemmas.Bool.{leb-true}
use Rattle.model_rules.specs.Limits.{text_limit}
use Rattle.text_tokens.specs.Scanning.{keyword_of, symbol_of, word_at, number_at, symbol_at, number_token, bounded_number, token_at}
use Rattle.text_tokens.proofs.Spelled.{spells, tokens_in}
use Rattle.unit_tree.specs.Lines.{code_of, size_of, without_return}
use Rattle.unit_tree.specs.Tokens.{Spells}
use Rattle.unit_tree.specs.declared.token.Keyword.TheVariants as word
use Rattle.unit_tree.specs.declared.token.Symbol.TheVariants as sign
use Rattle.unit_tree.specs.declared.token.Token.{Token}
use Rattle.unit_tree.specs.declared.token.Token.TheVariants as token
use Rattle.nest_text.specs.NestLines.{IsLine, SourceLine}
use Rattle.nest_text.specs.Nests.{BreaksParts, RefusesNest}
use Rattle.nest_text.specs.Reading.{kind_of}
use Rattle.nest_text.proofs.KindLaws.{kind_spelled}
use Rattle.worked_answers.specs.WorkedTables.{text_of}
use Rattle.worked_answers.proofs.answers.parts_are_worked.Goals as goal

-- ---- The lines, by their tokens

-- A line of this number, and its kind by its tokens.
abbrev line_with : ℕ → List ℕ → List Token → SourceLine
line_with number bytes tokens = record { number = number; bytes = bytes; kind = kind_of tokens }

is_line : (number : ℕ) (bytes : List ℕ) (tokens : List Token) → Spells tokens (code_of (without_return bytes))
    → IsLine (number, bytes) (line_with number bytes tokens)
is_line number bytes tokens spelled = record { number = refl; bytes = refl; kind = kind_spelled (without_return bytes) tokens spelled }

abbrev comment_tokens : List Token
comment_tokens = []

abbrev comment : ℕ → SourceLine
comment number = line_with number (codes "# a model") comment_tokens

comment_is : (number : ℕ) → IsLine (number, codes "# a model") (comment number)
unfolding tokens_in keyword_of symbol_of word_at number_at symbol_at number_token bounded_number token_at
comment_is number = is_line number (codes "# a model") comment_tokens (spells 9 (code_of (codes "# a model")) comment_tokens refl)

abbrev header_tokens : List Token
header_tokens = token.Keyword word.Cosim ∷ token.Number 1 0 ∷ []

abbrev header : ℕ → SourceLine
header number = line_with number (codes "cosim 1") header_tokens

header_is : (number : ℕ) → IsLine (number, codes "cosim 1") (header number)
unfolding tokens_in keyword_of symbol_of word_at number_at symbol_at number_token bounded_number token_at
header_is number = is_line number (codes "cosim 1") header_tokens (spells 9 (code_of (codes "cosim 1")) header_tokens refl)

abbrev group_tokens : List Token
group_tokens = token.Name (codes "group") ∷ token.Name (codes "G") ∷ []

abbrev group : ℕ → SourceLine
group number = line_with number (codes "group G") group_tokens

group_is : (number : ℕ) → IsLine (number, codes "group G") (group number)
unfolding tokens_in keyword_of symbol_of word_at number_at symbol_at number_token bounded_number token_at
group_is number = is_line number (codes "group G") group_tokens (spells 9 (code_of (codes "group G")) group_tokens refl)

abbrev main_tokens : List Token
main_tokens = token.Name (codes "main") ∷ []

abbrev main : ℕ → SourceLine
main number = line_with number (codes "main") main_tokens

main_is : (number : ℕ) → IsLine (number, codes "main") (main number)
unfolding tokens_in keyword_of symbol_of word_at number_at symbol_at number_token bounded_number token_at
main_is number = is_line number (codes "main") main_tokens (spells 9 (code_of (codes "main")) main_tokens refl)

abbrev stop_tokens : List Token
stop_tokens = token.Keyword word.Stop ∷ token.Number 3 0 ∷ []

abbrev stop : ℕ → SourceLine
stop number = line_with number (codes "stop 3") stop_tokens

stop_is : (number : ℕ) → IsLine (number, codes "stop 3") (stop number)
unfolding tokens_in keyword_of symbol_of word_at number_at symbol_at number_token bounded_number token_at
stop_is number = is_line number (codes "stop 3") stop_tokens (spells 9 (code_of (codes "stop 3")) stop_tokens refl)

abbrev stop_inside_tokens : List Token
stop_inside_tokens = token.Keyword word.Stop ∷ token.Number 3 0 ∷ []

abbrev stop_inside : ℕ → SourceLine
stop_inside number = line_with number (codes "  stop 3") stop_inside_tokens

stop_inside_is : (number : ℕ) → IsLine (number, codes "  stop 3") (stop_inside number)
unfolding tokens_in keyword_of symbol_of word_at number_at symbol_at number_token bounded_number token_at
stop_inside_is number = is_line number (codes "  stop 3") stop_inside_tokens (spells 9 (code_of (codes "  stop 3")) stop_inside_tokens refl)

abbrev instance_tokens : List Token
instance_tokens = token.Keyword word.Instance ∷ token.Name (codes "k") ∷ token.Symbol sign.Colon ∷ token.Name (codes "Next") ∷ []

abbrev instance : ℕ → SourceLine
instance number = line_with number (codes "instance k : Next") instance_tokens

instance_is : (number : ℕ) → IsLine (number, codes "instance k : Next") (instance number)
unfolding tokens_in keyword_of symbol_of word_at number_at symbol_at number_token bounded_number token_at
instance_is number = is_line number (codes "instance k : Next") instance_tokens (spells 9 (code_of (codes "instance k : Next")) instance_tokens refl)

abbrev input_tokens : List Token
input_tokens = token.Name (codes "in") ∷ token.Name (codes "x") ∷ token.Symbol sign.Arrow ∷ token.Name (codes "k") ∷ token.Symbol sign.Point ∷ token.Name (codes "x") ∷ []

abbrev input : ℕ → SourceLine
input number = line_with number (codes "in x -> k.x") input_tokens

input_is : (number : ℕ) → IsLine (number, codes "in x -> k.x") (input number)
unfolding tokens_in keyword_of symbol_of word_at number_at symbol_at number_token bounded_number token_at
input_is number = is_line number (codes "in x -> k.x") input_tokens (spells 9 (code_of (codes "in x -> k.x")) input_tokens refl)

abbrev other_input_tokens : List Token
other_input_tokens = token.Name (codes "in") ∷ token.Name (codes "x") ∷ token.Symbol sign.Is ∷ token.Name (codes "k") ∷ token.Symbol sign.Point ∷ token.Name (codes "x") ∷ []

abbrev other_input : ℕ → SourceLine
other_input number = line_with number (codes "in x = k.x") other_input_tokens

other_input_is : (number : ℕ) → IsLine (number, codes "in x = k.x") (other_input number)
unfolding tokens_in keyword_of symbol_of word_at number_at symbol_at number_token bounded_number token_at
other_input_is number = is_line number (codes "in x = k.x") other_input_tokens (spells 9 (code_of (codes "in x = k.x")) other_input_tokens refl)

abbrev end_tokens : List Token
end_tokens = token.Keyword word.End ∷ []

abbrev end : ℕ → SourceLine
end number = line_with number (codes "end") end_tokens

end_is : (number : ℕ) → IsLine (number, codes "end") (end number)
unfolding tokens_in keyword_of symbol_of word_at number_at symbol_at number_token bounded_number token_at
end_is number = is_line number (codes "end") end_tokens (spells 9 (code_of (codes "end")) end_tokens refl)

-- ---- The texts

before_groups_is : BreaksParts (text_of (codes "# a model" ∷ codes "cosim 1" ∷ codes "group G" ∷ codes "main" ∷ [])) 2
before_groups_is = record {
  lines = comment 1 ∷ header 2 ∷ group 3 ∷ main 4 ∷ [];
  are_lines = (comment_is 1, (header_is 2, (group_is 3, (main_is 4, _))));
  breaks = inr (
    refl,
    record {
      before = comment 1 ∷ [];
      line = header 2;
      later = group 3 ∷ main 4 ∷ [];
      cut = refl;
      before_placed = refl;
      stray = refl;
      is_number = refl;
    },
  );
}

stop_in_group_is : BreaksParts (text_of (codes "group G" ∷ codes "  stop 3" ∷ codes "main" ∷ codes "stop 3" ∷ [])) 2
stop_in_group_is = record {
  lines = group 1 ∷ stop_inside 2 ∷ main 3 ∷ stop 4 ∷ [];
  are_lines = (group_is 1, (stop_inside_is 2, (main_is 3, (stop_is 4, _))));
  breaks = inr (
    refl,
    record {
      before = group 1 ∷ [];
      line = stop_inside 2;
      later = main 3 ∷ stop 4 ∷ [];
      cut = refl;
      before_placed = refl;
      stray = refl;
      is_number = refl;
    },
  );
}

in_a_block_is : BreaksParts (text_of (codes "group G" ∷ codes "instance k : Next" ∷ codes "in x -> k.x" ∷ codes "end" ∷ codes "main" ∷ [])) 3
in_a_block_is = record {
  lines = group 1 ∷ instance 2 ∷ input 3 ∷ end 4 ∷ main 5 ∷ [];
  are_lines = (group_is 1, (instance_is 2, (input_is 3, (end_is 4, (main_is 5, _)))));
  breaks = inr (
    refl,
    record {
      before = group 1 ∷ instance 2 ∷ [];
      line = input 3;
      later = end 4 ∷ main 5 ∷ [];
      cut = refl;
      before_placed = refl;
      stray = refl;
      is_number = refl;
    },
  );
}

other_sign_is : BreaksParts (text_of (codes "group G" ∷ codes "instance k : Next" ∷ codes "end" ∷ codes "in x -> k.x" ∷ codes "in x = k.x" ∷ codes "main" ∷ [])) 5
other_sign_is = record {
  lines = group 1 ∷ instance 2 ∷ end 3 ∷ input 4 ∷ other_input 5 ∷ main 6 ∷ [];
  are_lines = (group_is 1, (instance_is 2, (end_is 3, (input_is 4, (other_input_is 5, (main_is 6, _))))));
  breaks = inr (
    refl,
    record {
      before = group 1 ∷ instance 2 ∷ end 3 ∷ input 4 ∷ [];
      line = other_input 5;
      later = main 6 ∷ [];
      cut = refl;
      before_placed = refl;
      stray = refl;
      is_number = refl;
    },
  );
}

second_main_is : BreaksParts (text_of (codes "group G" ∷ codes "main" ∷ codes "stop 3" ∷ codes "main" ∷ [])) 4
second_main_is = record {
  lines = group 1 ∷ main 2 ∷ stop 3 ∷ main 4 ∷ [];
  are_lines = (group_is 1, (main_is 2, (stop_is 3, (main_is 4, _))));
  breaks = inr (
    refl,
    record {
      before = group 1 ∷ main 2 ∷ stop 3 ∷ [];
      line = main 4;
      later = [];
      cut = refl;
      before_placed = refl;
      stray = refl;
      is_number = refl;
    },
  );
}

no_main_is : BreaksParts (text_of (codes "group G" ∷ codes "stop 3" ∷ [])) 1
no_main_is = record { lines = group 1 ∷ stop 2 ∷ []; are_lines = (group_is 1, (stop_is 2, _)); breaks = inl (refl, refl) }

-- A short text that breaks rule 26 is refused by it.
refused : (text : List ℕ) (number : ℕ) → nat_le (size_of text) text_limit ≡ true → BreaksParts text number → RefusesNest text number 26
refused text number short breaks = inr (leb-true (size_of text) text_limit short, inl (refl, breaks))

pub returns : goal.returns
returns c = record {
  before_groups = refused _ _ refl before_groups_is;
  stop_in_group = refused _ _ refl stop_in_group_is;
  in_a_block = refused _ _ refl in_a_block_is;
  other_sign = refused _ _ refl other_sign_is;
  second_main = refused _ _ refl second_main_is;
  no_main = refused _ _ refl no_main_is;
}
