-- Words in parts, each the words of one option.
use Rattle.std.proofs.Common.{◌≡◌, ℕ, Bool, true, false, List, [], ◌∷◌, ◌++◌, map, Option, Some, None, refl, sym, ap, ◌∙◌}
use Rattle.std.specs.Prelude.{codes, cond, IsPermutation}
use Rattle.std.specs.List.{All, AllByRecursion}
use Rattle.std.specs.Option.{option_map}
use Rattle.std.specs.Str.{bytes_eq}
use Rattle.std.proofs.lemmas.Iterator.Adapters.{option_map_id}
use Rattle.std.proofs.lemmas.List.Elements.{recursion_from_All}
use Rattle.std.proofs.lemmas.List.Sorted.{All-permutation, IsPermutation-map}
use Rattle.std.proofs.lemmas.Option.{cond_some, none-some, same_Some}
use Rattle.command_line.specs.Commands.{command_with}
use Rattle.command_line.specs.Laws.{IsOneOption, OtherWordsHaveNoForm, PartsHaveNoOrder, joined_parts}
use Rattle.command_line.specs.Options.{◌>>=◌, given_by, given_of, option_of, options_of}
use Rattle.command_line.specs.declared.options.CommandOption.{CommandOption}
use Rattle.command_line.specs.declared.options.CommandOption.TheVariants.{Report}
use Rattle.command_line.proofs.OptionLaws.{report_read}
use Rattle.command_line.proofs.OptionOrders.{no_order}

-- ---- Words after others

-- Options with one more before others.
first_before : (first : CommandOption) (read joined tail : Option (List CommandOption)) (options : List CommandOption)
    → option_map (λ more. first ∷ more) read ≡ Some options
    → ((more : List CommandOption) → read ≡ Some more → joined ≡ option_map (λ others. more ++ others) tail)
    → option_map (λ more. first ∷ more) joined ≡ option_map (λ others. options ++ others) tail
first_before first None joined tail options is again = absurd (none-some options is)
first_before first (Some more) joined tail options is again =
    ap (option_map (λ more. first ∷ more)) (again more refl)
    ∙ regrouped tail
    ∙ ap (λ (front : List CommandOption). option_map (λ others. front ++ others) tail) (same_Some (first ∷ more) options is)
  where
    regrouped : (tail : Option (List CommandOption))
        → option_map (λ more. first ∷ more) (option_map (λ others. more ++ others) tail) ≡ option_map (λ others. (first ∷ more) ++ others) tail
    regrouped None = refl
    regrouped (Some others) = refl

-- Two words or more, by the first of them.
words_before : (is_report : Bool) (first : Option CommandOption) (alone valued alone' valued' tail : Option (List CommandOption))
    (options : List CommandOption)
    → cond is_report (option_map (λ more. Report ∷ more) alone) (first >>= λ first. option_map (λ more. first ∷ more) valued) ≡ Some options
    → ((more : List CommandOption) → alone ≡ Some more → alone' ≡ option_map (λ others. more ++ others) tail)
    → ((more : List CommandOption) → valued ≡ Some more → valued' ≡ option_map (λ others. more ++ others) tail)
    → cond is_report (option_map (λ more. Report ∷ more) alone') (first >>= λ first. option_map (λ more. first ∷ more) valued')
    ≡ option_map (λ others. options ++ others) tail
words_before true first alone valued alone' valued' tail options is alone_again valued_again = first_before Report alone alone' tail options is alone_again
words_before false None alone valued alone' valued' tail options is alone_again valued_again = absurd (none-some options is)
words_before false (Some first) alone valued alone' valued' tail options is alone_again valued_again =
    first_before first valued valued' tail options is valued_again

-- Words that are options, and others after them.
part_read : (part rest : List (List ℕ)) (options : List CommandOption) → options_of part ≡ Some options
    → options_of (part ++ rest) ≡ option_map (λ others. options ++ others) (options_of rest)
part_read [] rest options is =
    sym (option_map_id (options_of rest))
    ∙ ap (λ (front : List CommandOption). option_map (λ others. front ++ others) (options_of rest)) (same_Some [] options is)
part_read (flag ∷ []) rest options is =
    let found = cond_some (bytes_eq flag (codes "--report")) (Report ∷ []) options is in
    sym (report_read flag rest found.0)
    ∙ ap (λ (front : List CommandOption). option_map (λ others. front ++ others) (options_of rest)) found.1
part_read (flag ∷ word ∷ words) rest options is =
    words_before (bytes_eq flag (codes "--report")) (option_of flag word) (options_of (word ∷ words)) (options_of words) (options_of (word ∷ (words ++ rest)))
    (options_of (words ++ rest)) (options_of rest) options is (λ more so. part_read (word ∷ words) rest more so) (λ more so. part_read words rest more so)

-- ---- Parts

-- The option of words that are one.
abbrev first_said : Option (List CommandOption) → CommandOption
first_said (Some (option ∷ rest)) = option
first_said _ = Report

abbrev option_said : List (List ℕ) → CommandOption
option_said part = first_said (options_of part)

parts_read : (parts : List (List (List ℕ))) → AllByRecursion IsOneOption parts → options_of (joined_parts parts) ≡ Some (map option_said parts)
parts_read [] all = refl
parts_read (part ∷ parts) all =
    part_read part (joined_parts parts) (all.0.0 ∷ []) all.0.1
    ∙ ap (option_map (λ others. (all.0.0 ∷ []) ++ others)) (parts_read parts all.1)
    ∙ ap (λ read. Some (first_said read ∷ map option_said parts)) (sym all.0.1)

parts_same : (parts reordered : List (List (List ℕ))) → All IsOneOption parts → IsPermutation parts reordered
    → given_by (joined_parts parts) ≡ given_by (joined_parts reordered)
parts_same parts reordered all moves =
    no_order (joined_parts parts) (joined_parts reordered) (map option_said parts) (map option_said reordered)
    (parts_read parts (recursion_from_All IsOneOption parts all))
    (parts_read reordered (recursion_from_All IsOneOption reordered (All-permutation IsOneOption parts reordered moves all)))
    (IsPermutation-map option_said parts reordered moves)

pub parts_have_no_order : PartsHaveNoOrder
parts_have_no_order word parts reordered all moves = ap (λ given. given >>= command_with word) (parts_same parts reordered all moves)

pub others_have_no_form : OtherWordsHaveNoForm
others_have_no_form word words is = ap (λ read. (read >>= given_of) >>= command_with word) is
