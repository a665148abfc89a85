-- Lists of what is known, compared with what is true.
use Rattle.fixed_words.specs.Operations.{Outcome}
use Rattle.fixed_words.specs.declared.types.Fault.{Fault}
use Rattle.link_laws.specs.Boards.{Board, IsAlike, IsKnown, IsOn, IsSo, asked_of, entry, said_of, said_where, seen_of}
use Rattle.link_laws.specs.Making.{made, name_of}
use Rattle.link_laws.specs.Nodes.{moved}
use Rattle.link_laws.specs.Stages.{is_answered, limit_in, max_by, moved_by, over_or, step_in, word_end}
use Rattle.link_laws.specs.declared.fact.Fact.{Fact}
use Rattle.link_laws.specs.declared.fact.Fact.TheVariants.{Limit, Reply, Word}
use Rattle.link_laws.specs.declared.fact.Said.{Said}
use Rattle.link_laws.specs.declared.stage.Stage.{Stage}
use Rattle.link_laws.specs.declared.stage.Stage.TheVariants.{Over}
use Rattle.std.proofs.Common.{Err, Ok, Result, ap, ap₂, refl, subst, sym, ◌+◌, ◌∙◌}
use Rattle.std.proofs.lemmas.Bool.{and_parts}
use Rattle.std.specs.List.{AllZip, cons_option, enumerate_from, filter_map, list_all}
use Rattle.std.specs.Option.{option_and_then, option_map}
use Rattle.std.specs.Prelude.{Bool, List, None, Option, Some, [], false, if◌then◌else◌, is_some, map, true, zip, ℕ, ℤ, ◌&&◌, ◌++◌, ◌∷◌, ◌≡◌}
use Rattle.std.specs.Result.{result_err}
use Rattle.list_laws.proofs.Options.{some_same}
use Rattle.super_time.specs.LocalTime.{local_step, local_time}
use Rattle.unit_tree.specs.Components.{Moved, step_of}
use Rattle.unit_tree.specs.Compositions.{Member}
use Rattle.unit_tree.specs.Negotiation.{inputs_at, is_held, limit_at, limit_told, max_at, reply_at, step_at}
use Rattle.unit_tree.specs.Ports.{Outlet, Ports, Standing, fault_at, first_some, given_at}
use Rattle.unit_tree.specs.Successor.{redo_end_of, standings, step_end_of}
use Rattle.unit_tree.specs.declared.ending.Ending.{Ending}
use Rattle.unit_tree.specs.declared.ending.Ending.TheVariants.{UnitFault}
use Rattle.unit_tree.specs.declared.ending.Place.TheVariants as place

-- ---- Facts are functional

pub one_fact : (board : Board) (one other : Fact) → IsOn board one → IsOn board other → IsAlike one other → one ≡ other
one_fact board (Word row at' seen) (Word other place told) on there alike =
    ap₂ (λ r p. Word r p seen) alike.0 alike.1 ∙ ap (Word other place)
    (some_same (entry board.words place) seen told (subst (λ p. entry board.words p ≡ Some seen) alike.1 on) there)
one_fact board (Limit row at' asked) (Limit other place told) on there alike =
    ap₂ (λ r p. Limit r p asked) alike.0 alike.1 ∙ ap (Limit other place)
    (some_same (entry board.limits place) asked told (subst (λ p. entry board.limits p ≡ Some asked) alike.1 on) there)
one_fact board (Reply row at' true said) (Reply other place true told) on there alike =
    ap₂ (λ r p. Reply r p true said) alike.0 alike.1 ∙ ap (Reply other place true)
    (some_same (entry board.redos place) said told (subst (λ p. entry board.redos p ≡ Some said) alike.1 on) there)
one_fact board (Reply row at' false said) (Reply other place false told) on there alike =
    ap₂ (λ r p. Reply r p false said) alike.0 alike.1
    ∙ ap (Reply other place false) (some_same (entry board.replies place) said told (subst (λ p. entry board.replies p ≡ Some said) alike.1 on) there)
one_fact board (Reply row at' true said) (Reply other place false told) on there alike = absurd (cc)
one_fact board (Reply row at' false said) (Reply other place true told) on there alike = absurd (cc)
one_fact board (Word row at' seen) (Limit other place told) on there alike = absurd alike
one_fact board (Word row at' seen) (Reply other place redo told) on there alike = absurd alike
one_fact board (Limit row at' asked) (Word other place told) on there alike = absurd alike
one_fact board (Limit row at' asked) (Reply other place redo told) on there alike = absurd alike
one_fact board (Reply row at' redo said) (Word other place told) on there alike = absurd alike
one_fact board (Reply row at' redo said) (Limit other place told) on there alike = absurd alike

-- ---- Cases

pub if_is : (P : Stage → Type 0) (test : Bool) (one other : Stage) → (test ≡ true → P one) → (test ≡ false → P other) → P (if test then one else other)
if_is P true one other so not_so = so refl
if_is P false one other so not_so = not_so refl

pub over_is : (P : Stage → Type 0) (found : Option Ending) (stage : Stage) → ((ending : Ending) → found ≡ Some ending → P (Over ending))
    → (found ≡ None → P stage) → P (over_or found stage)
over_is P (Some ending) stage ended goes_on = ended ending refl
over_is P None stage ended goes_on = goes_on refl

-- ---- The first of several ends

pub front_ends : (front rest : List (Option Ending)) (ending : Ending) → first_some front ≡ Some ending → first_some (front ++ rest) ≡ Some ending
front_ends [] rest ending is = absurd (cc)
front_ends (Some one ∷ front) rest ending is = is
front_ends (None ∷ front) rest ending is = front_ends front rest ending is

pub rest_ends : (front rest : List (Option Ending)) → first_some front ≡ None → first_some (front ++ rest) ≡ first_some rest
rest_ends [] rest none = refl
rest_ends (Some one ∷ front) rest none = absurd (cc)
rest_ends (None ∷ front) rest none = rest_ends front rest none

pub or_first : (one other : Option Ending) (rest last : List (Option Ending)) → one ≡ other → first_some rest ≡ first_some last
    → first_some (one ∷ rest) ≡ first_some (other ∷ last)
or_first (Some one) other rest last same later = ap (λ first. first_some (first ∷ last)) same
or_first None other rest last same later = later ∙ ap (λ first. first_some (first ∷ last)) same

-- ---- Where all items have facts

pub whole_is : {A B : Type 0} (f : A → B) (xs : List A) (known : List (Option B)) → AllZip IsSo (map (λ x. Some (f x)) xs) known
    → list_all is_some known ≡ true → known ≡ map (λ x. Some (f x)) xs
whole_is f [] [] are whole = refl
whole_is f [] (one ∷ known) are whole = absurd are
whole_is f (x ∷ xs) [] are whole = absurd are
whole_is f (x ∷ xs) (None ∷ known) are whole = absurd (cc)
whole_is f (x ∷ xs) (Some one ∷ known) are whole = ap₂ (λ first rest. Some first ∷ rest) are.0 (whole_is f xs known are.1 whole)

pub known_whole : {A B : Type 0} (f : A → B) (xs : List A) (known : List (Option B)) → AllZip IsKnown (map (λ x. Some (f x)) xs) known
    → list_all is_some known ≡ true
known_whole f [] [] are = refl
known_whole f [] (one ∷ known) are = absurd are
known_whole f (x ∷ xs) [] are = absurd are
known_whole f (x ∷ xs) (None ∷ known) are = absurd (cc (are.0))
known_whole f (x ∷ xs) (Some one ∷ known) are = known_whole f xs known are.1

pub known_all : {A B : Type 0} (f : A → B) (xs : List A) (known : List (Option B)) → AllZip IsKnown (map (λ x. Some (f x)) xs) known
    → known ≡ map (λ x. Some (f x)) xs
known_all f [] [] are = refl
known_all f [] (one ∷ known) are = absurd are
known_all f (x ∷ xs) [] are = absurd are
known_all f (x ∷ xs) (one ∷ known) are = ap₂ (λ first rest. first ∷ rest) are.0 (known_all f xs known are.1)

pub covered : {A B : Type 0} (f : A → B) (xs : List A) (known : List (Option B)) → known ≡ map (λ x. Some (f x)) xs
    → AllZip IsKnown (map (λ x. Some (f x)) xs) known
covered {A} {B} f xs known is = subst (AllZip IsKnown (map (λ x. Some (f x)) xs)) (sym is) (all_there xs)
  where
    all_there : (ys : List A) → AllZip IsKnown (map (λ x. Some (f x)) ys) (map (λ x. Some (f x)) ys)
    all_there [] = tt
    all_there (y ∷ ys) = (refl, all_there ys)

-- Where no item has a fact.
pub nothing : {A B : Type 0} (g : A → Option B) (xs : List A) (known : List (Option B)) → ((x : A) → g x ≡ None) → AllZip IsSo (map g xs) known
    → AllZip IsKnown (map g xs) known
nothing g [] [] none are = tt
nothing g [] (one ∷ known) none are = absurd are
nothing g (x ∷ xs) [] none are = absurd are
nothing g (x ∷ xs) (one ∷ known) none are = (subst (λ so. IsKnown so one) (sym (none x)) tt, nothing g xs known none are.1)

-- ---- Words

word_end_is : (instance number : ℕ) (given : Option Outcome)
    → word_end ((instance, number), Some (seen_of given)) ≡ option_map (UnitFault instance (place.Output number)) (option_and_then result_err given)
word_end_is instance number None = refl
word_end_is instance number (Some (Ok word)) = refl
word_end_is instance number (Some (Err fault)) = refl

pub words_end : (ports : Ports) (outs : List Outlet)
    → first_some (map word_end (zip (map name_of outs) (map (λ outlet. Some (seen_of (given_at ports outlet))) outs))) ≡ first_some (map (fault_at ports) outs)
words_end ports [] = refl
words_end ports (one ∷ outs) =
    or_first (word_end (name_of one, Some (seen_of (given_at ports one)))) (fault_at ports one)
    (map word_end (zip (map name_of outs) (map (λ outlet. Some (seen_of (given_at ports outlet))) outs))) (map (fault_at ports) outs)
    (word_end_is one.instance one.number (given_at ports one)) (words_end ports outs)

-- ---- Limits

max_by_is : (told : Result (Option ℕ) Fault) → max_by (Some (asked_of told)) ≡ told
max_by_is (Ok None) = refl
max_by_is (Ok (Some local)) = refl
max_by_is (Err fault) = refl

pub maxes_are : (t : ℕ) (ports : Ports) (standings : List Standing)
    → map max_by (map (λ standing. Some (asked_of (max_at t ports standing))) standings) ≡ map (max_at t ports) standings
maxes_are t ports [] = refl
maxes_are t ports (one ∷ standings) = ap₂ (λ first rest. first ∷ rest) (max_by_is (max_at t ports one)) (maxes_are t ports standings)

abbrev pub members_in : List Standing → List Member
members_in standings = map (λ standing. standing.0) standings

pub limits_are : (t : ℕ) (ports : Ports) (standings : List Standing)
    → filter_map (limit_in t) (zip (members_in standings) (map (λ standing. Some (asked_of (max_at t ports standing))) standings)) ≡ filter_map
    (limit_at t ports) standings
limits_are t ports [] = refl
limits_are t ports ((member, state) ∷ standings) =
    ap₂ (λ first rest. cons_option first rest) (ap (limit_told member.factor t) (max_by_is (max_at t ports (member, state)))) (limits_are t ports standings)

-- ---- Steps

abbrev pub bare : Result Moved Fault → Result Moved Fault
bare (Ok moved) = Ok (record { state = []; accepted = moved.accepted })
bare (Err fault) = Err fault

bare_is : (made : Result Moved Fault) → moved_by (said_of made) ≡ bare made
bare_is (Ok moved) = refl
bare_is (Err fault) = refl

one_answered : (held : Bool) (made : Result Moved Fault) (said : Option Said) → IsSo (option_map said_of (if held then None else Some made)) said
    → (if held then true else is_some said) ≡ true → (if held then None else option_map moved_by said) ≡ option_map bare (if held then None else Some made)
one_answered true made said so told = refl
one_answered false made None so told = absurd (cc)
one_answered false made (Some one) so told = ap (λ other. Some (moved_by other)) so ∙ ap (λ step. Some step) (bare_is made)

one_covered : (held : Bool) (made : Result Moved Fault) (said : Option Said) → IsSo (option_map said_of (if held then None else Some made)) said
    → (if held then true else is_some said) ≡ true → IsKnown (option_map said_of (if held then None else Some made)) said
one_covered true made said so told = tt
one_covered false made None so told = absurd (cc)
one_covered false made (Some one) so told = ap (λ other. Some other) so

one_known : (held : Bool) (made : Result Moved Fault) (said : Option Said) → IsKnown (option_map said_of (if held then None else Some made)) said
    → (if held then true else is_some said) ≡ true
one_known true made said known = refl
one_known false made None known = absurd (cc (known))
one_known false made (Some one) known = refl

module _ (t h : ℕ) (ports : Ports) where
  abbrev made_of : Member → List ℤ → Result Moved Fault
  made_of member state = step_of member.component state (inputs_at ports member) (local_time member.factor t) (local_step member.factor t h)

  abbrev pub steps : List Standing → List (Option (Result Moved Fault))
  steps standings = map (step_at t h ports) standings

  pub steps_are : (standings : List Standing) (known : List (Option Said)) → AllZip IsSo (map (said_where true) (steps standings)) known
      → list_all (is_answered t h) (zip (members_in standings) known) ≡ true
      → map (step_in t h) (zip (members_in standings) known) ≡ map (option_map bare) (steps standings)
  steps_are [] [] are told = refl
  steps_are [] (one ∷ known) are told = absurd are
  steps_are (standing ∷ standings) [] are told = absurd are
  steps_are ((member, state) ∷ standings) (one ∷ known) are told =
      let both = and_parts (is_answered t h (member, one)) (list_all (is_answered t h) (zip (members_in standings) known)) told in
      ap₂ (λ first rest. first ∷ rest) (one_answered (is_held member.factor t h) (made_of member state) one are.0 both.0)
      (steps_are standings known are.1 both.1)

  pub steps_covered : (standings : List Standing) (known : List (Option Said)) → AllZip IsSo (map (said_where true) (steps standings)) known
      → list_all (is_answered t h) (zip (members_in standings) known) ≡ true → AllZip IsKnown (map (said_where true) (steps standings)) known
  steps_covered [] [] are told = tt
  steps_covered [] (one ∷ known) are told = absurd are
  steps_covered (standing ∷ standings) [] are told = absurd are
  steps_covered ((member, state) ∷ standings) (one ∷ known) are told =
      let both = and_parts (is_answered t h (member, one)) (list_all (is_answered t h) (zip (members_in standings) known)) told in
      (one_covered (is_held member.factor t h) (made_of member state) one are.0 both.0, steps_covered standings known are.1 both.1)

  pub steps_known : (standings : List Standing) (known : List (Option Said)) → AllZip IsKnown (map (said_where true) (steps standings)) known
      → list_all (is_answered t h) (zip (members_in standings) known) ≡ true
  steps_known [] [] are = refl
  steps_known [] (one ∷ known) are = absurd are
  steps_known (standing ∷ standings) [] are = absurd are
  steps_known ((member, state) ∷ standings) (one ∷ known) are =
      ap₂ (λ first rest. first && rest) (one_known (is_held member.factor t h) (made_of member state) one are.0) (steps_known standings known are.1)

-- ---- A step without its state has the same fact

bare_end : (instance : ℕ) (step : Option (Result Moved Fault)) → step_end_of (instance, option_map bare step) ≡ step_end_of (instance, step)
bare_end instance None = refl
bare_end instance (Some (Ok moved)) = refl
bare_end instance (Some (Err fault)) = refl

bare_redo : (t h instance : ℕ) (member : Member) (step : Option (Result Moved Fault))
    → redo_end_of t h (instance, (member, option_map bare step)) ≡ redo_end_of t h (instance, (member, step))
bare_redo t h instance member None = refl
bare_redo t h instance member (Some (Ok moved)) = refl
bare_redo t h instance member (Some (Err fault)) = refl

bare_reply : (t h : ℕ) (member : Member) (step : Option (Result Moved Fault)) → reply_at t h (member, option_map bare step) ≡ reply_at t h (member, step)
bare_reply t h member None = refl
bare_reply t h member (Some (Ok moved)) = refl
bare_reply t h member (Some (Err fault)) = refl

pub bare_ends : (first : ℕ) (steps : List (Option (Result Moved Fault)))
    → first_some (map step_end_of (enumerate_from first (map (option_map bare) steps))) ≡ first_some (map step_end_of (enumerate_from first steps))
bare_ends first [] = refl
bare_ends first (step ∷ steps) =
    or_first (step_end_of (first, option_map bare step)) (step_end_of (first, step))
    (map step_end_of (enumerate_from (first + 1) (map (option_map bare) steps))) (map step_end_of (enumerate_from (first + 1) steps))
    (bare_end first step) (bare_ends (first + 1) steps)

pub bare_redos : (t h first : ℕ) (members : List Member) (steps : List (Option (Result Moved Fault)))
    → first_some (map (redo_end_of t h) (enumerate_from first (zip members (map (option_map bare) steps)))) ≡ first_some
    (map (redo_end_of t h) (enumerate_from first (zip members steps)))
bare_redos t h first [] steps = refl
bare_redos t h first (member ∷ members) [] = refl
bare_redos t h first (member ∷ members) (step ∷ steps) =
    or_first (redo_end_of t h (first, (member, option_map bare step))) (redo_end_of t h (first, (member, step)))
    (map (redo_end_of t h) (enumerate_from (first + 1) (zip members (map (option_map bare) steps))))
    (map (redo_end_of t h) (enumerate_from (first + 1) (zip members steps)))
    (bare_redo t h first member step) (bare_redos t h (first + 1) members steps)

pub bare_replies : (t h : ℕ) (members : List Member) (steps : List (Option (Result Moved Fault)))
    → map (reply_at t h) (zip members (map (option_map bare) steps)) ≡ map (reply_at t h) (zip members steps)
bare_replies t h [] steps = refl
bare_replies t h (member ∷ members) [] = refl
bare_replies t h (member ∷ members) (step ∷ steps) = ap₂ (λ first rest. first ∷ rest) (bare_reply t h member step) (bare_replies t h members steps)
