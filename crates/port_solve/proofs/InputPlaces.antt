-- Inputs by instance and number: the source of each, and those that one output feeds.
use Rattle.std.proofs.Common.{◌≡◌, ◌∙◌, ℕ, zero, suc, ◌+◌, Bool, true, false, cond, ℤ, List, [], ◌∷◌, Option, Some, None, inl, inr, refl, ap, sym, arith}
use Rattle.std.proofs.lemmas.Map.Views.{exact_unsigned_eq}
use Rattle.std.proofs.lemmas.Bool.{eq-eqb}
use Rattle.std.specs.Prelude.{slice_get, ◌==◌}
use Rattle.std.specs.List.{enumerate_from, filter_map, cons_option}
use Rattle.std.specs.Option.{option_and_then}
use Rattle.unit_tree.specs.Compositions.{InputSource, Start, AtPlace, Member, Composition}
use Rattle.unit_tree.specs.Routes.{inputs_in, inputs_of, fed_from, feeds_of, starts_at, routes_of}
use Rattle.unit_tree.specs.declared.order.InputAt.{InputAt}
use Rattle.unit_tree.specs.declared.order.StartWord.{StartWord}
use Rattle.language_laws.proofs.PlainNames.{has_flat, flat_has, map_has}
use Rattle.list_laws.proofs.Members.{Has, has_map}

-- ---- Lists

pub record Counted {A : Type 0} (from : ℕ) (xs : List A) (number : ℕ) (x : A) : Type 0 where
  pub k : ℕ
  pub number_is : number ≡ from + k
  pub is : slice_get xs k ≡ Some x

pub counted : {A : Type 0} (from : ℕ) (xs : List A) (number : ℕ) (x : A) → Has (enumerate_from from xs) (number, x) → Counted from xs number x
counted from [] number x has = absurd has
counted from (first ∷ xs) number x (inl is) =
    let number_is : number ≡ from + 0 = sym (ap (λ (p : ℕ × _). p.0) is) ∙ omega arith in
    record { k = 0; number_is = number_is; is = ap (λ (p : ℕ × _). Some p.1) is }
counted from (first ∷ xs) number x (inr has) =
    let later = counted (from + 1) xs number x has in
    record { k = suc later.k; number_is = later.number_is ∙ omega arith; is = later.is }

pub has_counted : {A : Type 0} (from : ℕ) (xs : List A) (k number : ℕ) (x : A) → number ≡ from + k → slice_get xs k ≡ Some x
    → Has (enumerate_from from xs) (number, x)
has_counted from [] k number x number_is is = absurd (cc)
has_counted from (first ∷ xs) zero number x number_is is =
    let same : first ≡ x = cc in
    let first_is : from ≡ number = omega (arith, number_is) in
    inl (ap (λ n. (n, first)) first_is ∙ ap (λ y. (number, y)) same)
has_counted from (first ∷ xs) (suc k) number x number_is is = inr (has_counted (from + 1) xs k number x (omega (arith, number_is)) is)

kept_by : {B : Type 0} (told : Option B) (y : B) (rest : List B) → told ≡ Some y → Has (cons_option told rest) y
kept_by None y rest is = absurd (cc)
kept_by (Some z) y rest is = inl (cc)

kept_later : {B : Type 0} (told : Option B) (y : B) (rest : List B) → Has rest y → Has (cons_option told rest) y
kept_later None y rest has = has
kept_later (Some z) y rest has = inr has

pub has_kept : {A B : Type 0} (f : A → Option B) (xs : List A) (x : A) (y : B) → Has xs x → f x ≡ Some y → Has (filter_map f xs) y
has_kept f [] x y has is = absurd has
has_kept f (first ∷ xs) x y (inl same) is = kept_by (f first) y (filter_map f xs) (ap f same ∙ is)
has_kept f (first ∷ xs) x y (inr has) is = kept_later (f first) y (filter_map f xs) (has_kept f xs x y has is)

pub record Kept {A B : Type 0} (f : A → Option B) (xs : List A) (y : B) : Type 0 where
  pub one : A
  pub has : Has xs one
  pub is : f one ≡ Some y

kept_of : {A B : Type 0} (f : A → Option B) (first : A) (xs : List A) (y : B) (told : Option B) → f first ≡ told → (Has (filter_map f xs) y → Kept f xs y)
    → Has (cons_option told (filter_map f xs)) y → Kept f (first ∷ xs) y
kept_of f first xs y None told later has = let from = later has in record { one = from.one; has = inr from.has; is = from.is }
kept_of f first xs y (Some z) told later (inl same) = record { one = first; has = inl refl; is = told ∙ ap Some same }
kept_of f first xs y (Some z) told later (inr has) = let from = later has in record { one = from.one; has = inr from.has; is = from.is }

pub kept : {A B : Type 0} (f : A → Option B) (xs : List A) (y : B) → Has (filter_map f xs) y → Kept f xs y
kept f [] y has = absurd has
kept f (first ∷ xs) y has = kept_of f first xs y (f first) refl (kept f xs y) has

-- ---- The source of an input

abbrev pub input_at : ℕ → ℕ → InputAt
input_at instance number = record { instance = instance; input = number }

abbrev pub source_at : Composition → InputAt → Option InputSource
source_at run at = option_and_then (λ member. slice_get member.sources at.input) (slice_get run.members at.instance)

abbrev pair_as : ℕ → ℕ × InputSource → InputAt × InputSource
pair_as instance numbered = (input_at instance numbered.0, numbered.1)

-- The inputs of a composition are those that have a source.
pub source_is : (run : Composition) (at : InputAt) (source : InputSource) → Has (inputs_of run) (at, source) → source_at run at ≡ Some source
source_is run at source has =
    let from = flat_has inputs_in (enumerate_from 0 run.members) (at, source) has in
    of_member from.one.0 from.one.1 (counted 0 run.members from.one.0 from.one.1 from.has) from.inside
  where
    of_pair : (instance : ℕ) (member : Member) (numbered : ℕ × InputSource) → slice_get run.members instance ≡ Some member
        → slice_get member.sources numbered.0 ≡ Some numbered.1 → pair_as instance numbered ≡ (at, source) → source_at run at ≡ Some source
    of_pair instance member numbered member_is there is =
        ap (source_at run) (sym (ap (λ (p : InputAt × InputSource). p.0) is))
        ∙ ap (option_and_then (λ (m : Member). slice_get m.sources numbered.0)) member_is
        ∙ there
        ∙ ap (λ (p : InputAt × InputSource). Some p.1) is

    of_member : (instance : ℕ) (member : Member) → Counted 0 run.members instance member → Has (inputs_in (instance, member)) (at, source)
        → source_at run at ≡ Some source
    of_member instance member found inside =
        let pair = map_has (pair_as instance) (enumerate_from 0 member.sources) (at, source) inside in
        let there = counted 0 member.sources pair.one.0 pair.one.1 pair.has in
        let member_is : slice_get run.members instance ≡ Some member = ap (slice_get run.members) (omega (arith, found.number_is)) ∙ found.is in
        let source_there : slice_get member.sources pair.one.0 ≡ Some pair.one.1 = ap (slice_get member.sources) (omega (arith, there.number_is)) ∙ there.is in
        of_pair instance member pair.one member_is source_there pair.is

has_source_by : (run : Composition) (at : InputAt) (source : InputSource) (found : Option Member) → slice_get run.members at.instance ≡ found
    → option_and_then (λ (member : Member). slice_get member.sources at.input) found ≡ Some source → Has (inputs_of run) (at, source)
has_source_by run at source None found is = absurd (cc)
has_source_by run at source (Some member) found is =
    has_flat inputs_in (enumerate_from 0 run.members) (at.instance, member) (at, source)
    (has_counted 0 run.members at.instance at.instance member (omega arith) found)
    (has_map (pair_as at.instance) (enumerate_from 0 member.sources) (at.input, source)
    (has_counted 0 member.sources at.input at.input source (omega arith) is))

pub has_source : (run : Composition) (at : InputAt) (source : InputSource) → source_at run at ≡ Some source → Has (inputs_of run) (at, source)
has_source run at source is = has_source_by run at source (slice_get run.members at.instance) refl is

-- ---- The inputs that an output feeds, and those without a connection

fed_by : (told : Bool) (at other : InputAt) (place p : ℕ) → (p == place) ≡ told → cond told (Some at) None ≡ Some other → (at ≡ other) × (p ≡ place)
fed_by true at other place p is fed = (cc fed, exact_unsigned_eq p place is)
fed_by false at other place p is fed = absurd (cc)

fed_is : (place : ℕ) (at other : InputAt) (source : InputSource) → fed_from place (at, source) ≡ Some other → (at ≡ other) × (source ≡ AtPlace place)
fed_is place at other (Start word) fed = absurd (cc)
fed_is place at other (AtPlace p) fed = let both = fed_by (p == place) at other place p refl fed in (both.0, ap AtPlace both.1)

pub feed_is : (run : Composition) (place : ℕ) (at : InputAt) → Has (feeds_of run place) at → source_at run at ≡ Some (AtPlace place)
feed_is run place at has =
    let from = kept (fed_from place) (inputs_of run) at has in
    let both = fed_is place from.one.0 at from.one.1 from.is in
    ap (source_at run) (sym both.0) ∙ source_is run from.one.0 from.one.1 from.has ∙ ap Some both.1

pub has_feed : (run : Composition) (place : ℕ) (at : InputAt) → source_at run at ≡ Some (AtPlace place) → Has (feeds_of run place) at
has_feed run place at is =
    has_kept (fed_from place) (inputs_of run) (at, AtPlace place) at (has_source run at (AtPlace place) is)
    (ap (λ told. cond told (Some at) None) (eq-eqb place place refl))

start_is_by : (source : InputSource) (at : InputAt) (start : StartWord) → starts_at (at, source) ≡ Some start → (at ≡ start.at) × (source ≡ Start start.word)
start_is_by (Start word) at start is =
    let same : record { at = at; word = word } ≡ start = cc in (ap (λ (s : StartWord). s.at) same, ap (λ (s : StartWord). Start s.word) same)
start_is_by (AtPlace place) at start is = absurd (cc)

pub start_is : (run : Composition) (start : StartWord) → Has (routes_of run).starts start → source_at run start.at ≡ Some (Start start.word)
start_is run start has =
    let from = kept starts_at (inputs_of run) start has in
    let both = start_is_by from.one.1 from.one.0 start from.is in
    ap (source_at run) (sym both.0) ∙ source_is run from.one.0 from.one.1 from.has ∙ ap Some both.1

pub has_start : (run : Composition) (at : InputAt) (word : ℤ) → source_at run at ≡ Some (Start word)
    → Has (routes_of run).starts (record { at = at; word = word })
has_start run at word is = has_kept starts_at (inputs_of run) (at, Start word) (record { at = at; word = word }) (has_source run at (Start word) is) refl
