use Rattle.std.proofs.Common.{refl}
use Rattle.std.specs.Fmt.{digits}
use Rattle.unit_tree.specs.declared.expr.Expr.{the_lemmas}
use Rattle.worked_facts.proofs.language.phrases_are_worked.Goals as goal

pub returns : goal.returns
unfolding digits
returns c = record {
  product_first = record { text_is = refl; grammatical = refl; shortest_is = simp the_lemmas refl };
  sum_in_parens = record { text_is = refl; grammatical = refl; shortest_is = simp the_lemmas refl };
  needless_parens = record { text_is = refl; grammatical = refl; shortest_is = simp the_lemmas refl };
  right_operand = record { text_is = refl; grammatical = refl; shortest_is = simp the_lemmas refl };
  words_between = record { text_is = refl; grammatical = refl; shortest_is = simp the_lemmas refl };
  no_sum_in_product = record { text_is = refl; ungrammatical = refl };
  and_first = record { text_is = refl; grammatical = refl; shortest_is = simp the_lemmas refl };
  or_in_parens = record { text_is = refl; grammatical = refl; shortest_is = simp the_lemmas refl };
  not_of_comparison = record { text_is = refl; grammatical = refl; shortest_is = simp the_lemmas refl };
  no_chain = record { text_is = refl; ungrammatical = refl };
  minus_first = record { text_is = refl; grammatical = refl; shortest_is = simp the_lemmas refl };
  minus_of_minus = record { text_is = refl; grammatical = refl; shortest_is = simp the_lemmas refl };
  minus_of_not = record { text_is = refl; ungrammatical = refl };
  choice_in_sum = record { text_is = refl; grammatical = refl; shortest_is = simp the_lemmas refl };
  no_choice_in_sum = record { text_is = refl; ungrammatical = refl };
  calls = record { text_is = refl; grammatical = refl; shortest_is = simp the_lemmas refl };
  scaled = record { text_is = refl; grammatical = refl; shortest_is = simp the_lemmas refl };
  scaled_too_far = record { text_is = refl; ungrammatical = refl };
  clocks = record { text_is = refl; grammatical = refl; shortest_is = simp the_lemmas refl };
  decimals = record { text_is = refl; grammatical = refl; shortest_is = simp the_lemmas refl };
  greatest = record { text_is = refl; grammatical = refl; shortest_is = simp the_lemmas refl };
  too_great = record { text_is = refl; ungrammatical = refl };
  level_64 = refl;
  level_65 = refl;
  level_64_of_name = refl;
  not_not = record { text_is = refl; grammatical = refl; shortest_is = simp the_lemmas refl };
  not_on_the_right = record { text_is = refl; grammatical = refl; shortest_is = simp the_lemmas refl };
  minus_on_the_right = record { text_is = refl; grammatical = refl; shortest_is = simp the_lemmas refl };
  minus_of_product = record { text_is = refl; grammatical = refl; shortest_is = simp the_lemmas refl };
  product_from_the_left = record { text_is = refl; grammatical = refl; shortest_is = simp the_lemmas refl };
  if_between_words = record { text_is = refl; grammatical = refl; shortest_is = simp the_lemmas refl };
  or_on_the_right = record { text_is = refl; grammatical = refl; shortest_is = simp the_lemmas refl };
  comparisons = record { text_is = refl; grammatical = refl; shortest_is = simp the_lemmas refl };
  least = record { text_is = refl; grammatical = refl; shortest_is = simp the_lemmas refl };
  zero_decimals = record { text_is = refl; grammatical = refl; shortest_is = simp the_lemmas refl };
  no_ten_decimals = record { text_is = refl; ungrammatical = refl };
  nested_sum = refl;
  nested_call = refl;
  nested_clamp = refl;
  nested_if = refl;
  nested_scaling = refl;
}
