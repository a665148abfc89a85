-- Words with exactly one for each state, and words that are divided by the states of members.
use Rattle.std.proofs.Common.{◌≡◌, ◌∙◌, ℕ, suc, ◌+◌, ◌<◌, ◌==◌, cond, Bool, true, false, ℤ, List, [], ◌∷◌, ◌++◌, length, take, drop, get_or, Option, Some, None}
use Rattle.std.proofs.Common.{refl, ap, ap₂, sym, arith, length-append, length-drop, take-append-drop}
use Rattle.std.proofs.lemmas.Bool.Decides.{nat_tests}
use Rattle.std.proofs.lemmas.List.{drop_more, nil_from_length}
use Rattle.std.proofs.lemmas.Option.{same_Some}
use Rattle.std.proofs.lemmas.Slice.Zip.{AllZip-long}
use Rattle.std.specs.Prelude.{IsTrue}
use Rattle.std.specs.List.{AllZip, cons_option, filter_map, flat_map}
use Rattle.std.specs.Option.{option_and_then}
use Rattle.fixed_words.specs.Types.{is_word_of}
use Rattle.list_laws.proofs.Pairs.{zip_append}
use Rattle.trace_core.specs.StateWords.{instance_states, parted, states_had, states_in, system_states, words_behind}
use Rattle.trace_plan.specs.Plans.{Planned}
use Rattle.unit_tree.specs.Compositions.{Composition, Member, member_with, run_of}
use Rattle.unit_tree.specs.Names.{unit_of_instance}
use Rattle.unit_tree.specs.Parts.{joined}
use Rattle.unit_tree.specs.Plain.{plain_form}
use Rattle.unit_tree.specs.Trace.{AreWordsOf}
use Rattle.unit_tree.specs.declared.system.Instance.{Instance}
use Rattle.unit_tree.specs.declared.system.System.{System}
use Rattle.unit_tree.specs.declared.unit.State.{State}
use Rattle.unit_tree.specs.declared.unit.Unit.{Unit}

-- ---- One word after the other

-- After the words of two lists of states.
behind_by : (fits : Bool) (others : List State) (both one : Option (List ℤ)) → both ≡ option_and_then (words_behind others) one
    → cond fits both None ≡ option_and_then (words_behind others) (cond fits one None)
behind_by true others both one is = is
behind_by false others both one is = refl

pub behind_both : (ones others : List State) (words : List ℤ)
    → words_behind (ones ++ others) words ≡ option_and_then (words_behind others) (words_behind ones words)
behind_both [] others words = refl
behind_both (state ∷ ones) others [] = refl
behind_both (state ∷ ones) others (word ∷ words) =
    behind_by (is_word_of state.ty word) others (words_behind (ones ++ others) words) (words_behind ones words) (behind_both ones others words)

-- Where no words are left, each was of its type.
each_by : (fits : Bool) (state : State) (states : List State) (word : ℤ) (words : List ℤ) → is_word_of state.ty word ≡ fits
    → (words_behind states words ≡ Some [] → AreWordsOf states words) → cond fits (words_behind states words) None ≡ Some []
    → AreWordsOf (state ∷ states) (word ∷ words)
each_by true state states word words told others none = (told, others none)
each_by false state states word words told others none = absurd (cc)

pub each_word : (states : List State) (words : List ℤ) → words_behind states words ≡ Some [] → AreWordsOf states words
each_word [] [] none = tt
each_word [] (word ∷ words) none = absurd (cc)
each_word (state ∷ states) [] none = absurd (cc)
each_word (state ∷ states) (word ∷ words) none =
    each_by (is_word_of state.ty word) state states word words refl (λ rest. each_word states words rest) none

pub none_behind : (states : List State) (words : List ℤ) → AreWordsOf states words → words_behind states words ≡ Some []
none_behind [] [] each = refl
none_behind [] (word ∷ words) each = absurd each
none_behind (state ∷ states) [] each = absurd each
none_behind (state ∷ states) (word ∷ words) each =
    ap (λ fits. cond fits (words_behind states words) None) each.0 ∙ none_behind states words each.1

-- ---- The states of a system are those of its members

declared_by : (system : System) (instance : Instance) (unit : Option Unit) (members : List Member)
    → states_in (cons_option (member_with system instance unit) members) ≡ states_had unit ++ states_in members
declared_by system instance None members = refl
declared_by system instance (Some unit) members = refl

pub states_declared : (system : System) (instances : List Instance)
    → states_in (filter_map (λ instance. member_with system instance (unit_of_instance system instance)) instances)
    ≡ flat_map (instance_states system) instances
states_declared system [] = refl
states_declared system (instance ∷ instances) =
    declared_by system instance (unit_of_instance system instance)
    (filter_map (λ instance. member_with system instance (unit_of_instance system instance)) instances)
    ∙ ap (λ others. instance_states system instance ++ others) (states_declared system instances)

pub states_of_plan : (plan : Planned) (checked system : System) → plan.run ≡ run_of plan.system → checked ≡ plan.system → system ≡ plain_form checked
    → states_in plan.run.members ≡ system_states system
states_of_plan plan checked system composed is plain =
    ap (λ (run : Composition). states_in run.members) composed
    ∙ states_declared (plain_form plan.system) (plain_form plan.system).instances
    ∙ ap system_states (sym (plain ∙ ap plain_form is))

-- From an instance on, its own states come first.
pub instance_behind : (system : System) (instances : List Instance) (place : ℕ) (instance : Instance) (words : List ℤ) → place < length instances
    → instance ≡ get_or instances place instance
    → words_behind (flat_map (instance_states system) (drop place instances)) words
    ≡ option_and_then (words_behind (flat_map (instance_states system) (drop (place + 1) instances))) (words_behind (instance_states system instance) words)
instance_behind system instances place instance words within is =
    let here : drop place instances ≡ instance ∷ drop (place + 1) instances =
    drop_more instances place instance within ∙ ap (λ first. first ∷ drop (place + 1) instances) (sym is) in
    ap (λ some. words_behind (flat_map (instance_states system) some) words) here
    ∙ behind_both (instance_states system instance) (flat_map (instance_states system) (drop (place + 1) instances)) words

-- ---- What is left after the last state

pub is_last : (states : List State) (words left : List ℤ) (empty : Bool) → words_behind states words ≡ Some left → empty ≡ (length left == 0)
    → (IsTrue empty → AreWordsOf states words) × (AreWordsOf states words → IsTrue empty)
is_last states words left empty is told = (
  λ so. each_word states words (is ∙ ap (λ some. Some some) (nil_from_length left (none_by so))),
  λ each. some_by (ap length (same_Some left [] (sym is ∙ none_behind states words each))),
)
  where
    none_by : IsTrue empty → length left ≡ 0
    none_by so = grind (arith, nat_tests)

    some_by : length left ≡ 0 → IsTrue empty
    some_by none = grind (arith, nat_tests)

pub some_missing : (states : List State) (words : List ℤ) → words_behind states words ≡ None → AreWordsOf states words → ⊥
some_missing states words is each = apart (sym is ∙ none_behind states words each)
  where
    apart : ◌≡◌ {A = Option (List ℤ)} None (Some []) → ⊥
    apart same = cc

-- ---- Words that are divided among members

abbrev pub Words : Member → List ℤ → Type 0
Words member state = AreWordsOf member.component.unit.states state

zip_cut : {A B : Type 0} (R : A → B → Type 0) (xs ys : List A) (zs : List B) → AllZip R (xs ++ ys) zs
    → AllZip R xs (take (length xs) zs) × AllZip R ys (drop (length xs) zs)
zip_cut R [] ys zs all = (tt, all)
zip_cut R (x ∷ xs) ys [] all = absurd all
zip_cut R (x ∷ xs) ys (z ∷ zs) all = let others = zip_cut R xs ys zs all.1 in ((all.0, others.0), others.1)

pub parted_words : (members : List Member) (words : List ℤ) → AreWordsOf (states_in members) words → AllZip Words members (parted members words)
parted_words [] words each = tt
parted_words (member ∷ members) words each =
    let cut = zip_cut (λ (state : State) word. is_word_of state.ty word ≡ true) member.component.unit.states (states_in members) words each in
    (cut.0, parted_words members (drop (length member.component.unit.states) words) cut.1)

-- What is left after the words of the first member.
pub others_long : (member : Member) (members : List Member) (words : List ℤ) → length words ≡ length (states_in (member ∷ members))
    → length words ≡ length member.component.unit.states + length (states_in members)
others_long member members words long = long ∙ length-append member.component.unit.states (states_in members)

pub joined_parted : (members : List Member) (words : List ℤ) → length words ≡ length (states_in members) → joined (parted members words) ≡ words
joined_parted [] words long = sym (nil_from_length words long)
joined_parted (member ∷ members) words long =
    let count = length member.component.unit.states in
    let split = others_long member members words long in
    let left : length (drop count words) ≡ length (states_in members) = omega (arith, length-drop count words, split) in
    ap (λ behind. take count words ++ behind) (joined_parted members (drop count words) left) ∙ take-append-drop count words

pub length_parted : (members : List Member) (words : List ℤ) → length (parted members words) ≡ length members
length_parted [] words = refl
length_parted (member ∷ members) words = ap suc (length_parted members (drop (length member.component.unit.states) words))

pub words_long : (states : List State) (words : List ℤ) → AreWordsOf states words → length words ≡ length states
words_long states words each = AllZip-long (λ (state : State) word. is_word_of state.ty word ≡ true) states words each

-- ---- Words that are joined

pub joined_words : (members : List Member) (states : List (List ℤ)) → AllZip Words members states → AreWordsOf (states_in members) (joined states)
joined_words [] [] each = tt
joined_words [] (state ∷ states) each = absurd each
joined_words (member ∷ members) [] each = absurd each
joined_words (member ∷ members) (state ∷ states) each =
    zip_append (λ (state : State) word. is_word_of state.ty word ≡ true) member.component.unit.states (states_in members) state (joined states) each.0
    (joined_words members states each.1)

split_same : (a b c d : List ℤ) → length a ≡ length b → a ++ c ≡ b ++ d → (a ≡ b) × (c ≡ d)
split_same [] [] c d long same = (refl, same)
split_same [] (y ∷ b) c d long same = absurd (omega (arith, long))
split_same (x ∷ a) [] c d long same = absurd (omega (arith, long))
split_same (x ∷ a) (y ∷ b) c d long same =
    let head : x ≡ y = cc in
    let tail : a ++ c ≡ b ++ d = cc in
    let others = split_same a b c d (omega (arith, long)) tail in
    (ap₂ (λ z zs. z ∷ zs) head others.0, others.1)

-- They are of at most one list of states.
pub parted_once : (members : List Member) (ones others : List (List ℤ)) → AllZip Words members ones → AllZip Words members others
    → joined ones ≡ joined others → ones ≡ others
parted_once [] [] [] is also same = refl
parted_once [] [] (other ∷ others) is also same = absurd also
parted_once [] (one ∷ ones) others is also same = absurd is
parted_once (member ∷ members) [] others is also same = absurd is
parted_once (member ∷ members) (one ∷ ones) [] is also same = absurd also
parted_once (member ∷ members) (one ∷ ones) (other ∷ others) is also same =
    let states = member.component.unit.states in
    let cut = split_same one other (joined ones) (joined others) (words_long states one is.0 ∙ sym (words_long states other also.0)) same in
    ap₂ (λ state all. state ∷ all) cut.0 (parted_once members ones others is.1 also.1 cut.1)
