-- The tests of names, numbers and tails agree with the rules.
use Rattle.std.proofs.Common.{◌≡◌, ◌≤◌, ℕ, Bool, true, false, List, [], ◌∷◌, length, refl, ap, ◌∙◌}
use Rattle.std.specs.Prelude.{not, nat_le, nat_lt, ◌&&◌, ◌||◌, ◌==◌}
use Rattle.std.specs.List.{AllByRecursion, list_all, list_any}
use Rattle.std.specs.Str.{bytes_eq}
use Rattle.std.proofs.lemmas.Bool.{and_parts, and_from}
use Rattle.std.proofs.lemmas.Slice.Eq.{bytes_eq-Decides}
use Rattle.list_laws.proofs.Truths.{le_told, true_is_false, le_asked, lt_told, lt_asked, not_true}
use Rattle.fixed_words.specs.Types.{AreDecimals}
use Rattle.fixed_words.specs.declared.types.Literal.TheVariants as literal
use Rattle.fixed_words.specs.declared.types.Ty.{Ty}
use Rattle.fixed_words.specs.declared.types.Ty.TheVariants as types
use Rattle.unit_tree.specs.LineForms.{Tail, Nothing, OfLiteral, OfSeconds, OfExpression, AreCountsInRange, tail_speaks_of_events}
use Rattle.unit_tree.specs.Names.{expression_in}
use Rattle.unit_tree.specs.Printable.{IsTailInRange, is_writable, names_on_expression}
use Rattle.unit_tree.specs.Tokens.{is_letter, is_word_byte, keyword_text, IsWord, IsReserved, IsName}
use Rattle.unit_tree.specs.declared.line_form.LineForm.{LineForm}
use Rattle.unit_tree.specs.declared.line_form.LineForm.TheVariants as form
use Rattle.unit_tree.specs.declared.token.Keyword.{Keyword}
use Rattle.unit_tree.specs.declared.token.Keyword.TheVariants as word
use Rattle.unit_print.specs.Fitting.{is_word, is_reserved, reserved_words, is_name, are_decimals, expression_fits, counts_fit, tail_fits}

-- ---- Tests

-- ---- Names

pub is_word_told : (text : List ℕ) → is_word text ≡ true → IsWord text
is_word_told [] is = absurd (cc)
is_word_told (first ∷ others) is =
    let parts = and_parts (is_letter first) (list_all is_word_byte others && nat_lt (length others) 32) is in
    let rest = and_parts (list_all is_word_byte others) (nat_lt (length others) 32) parts.1 in
    (parts.0, rest.0, lt_told (length others) 32 rest.1)

pub is_word_asked : (text : List ℕ) → IsWord text → is_word text ≡ true
is_word_asked [] word = absurd word
is_word_asked (first ∷ others) word =
    and_from (is_letter first) (list_all is_word_byte others && nat_lt (length others) 32) word.0 (and_from (list_all is_word_byte others) (nat_lt
    (length others) 32) word.1 (lt_asked (length others) 32 word.2))

-- Each reserved word is found.
reserved_is : (keyword : Keyword) → is_reserved (keyword_text keyword) ≡ true
unfolding is_reserved
reserved_is word.Cosim = refl
reserved_is word.Unit = refl
reserved_is word.Resolution = refl
reserved_is word.Param = refl
reserved_is word.State = refl
reserved_is word.Local = refl
reserved_is word.Input = refl
reserved_is word.Output = refl
reserved_is word.Needs = refl
reserved_is word.Max = refl
reserved_is word.Step = refl
reserved_is word.Repeat = refl
reserved_is word.Accept = refl
reserved_is word.End = refl
reserved_is word.Instance = refl
reserved_is word.Connect = refl
reserved_is word.Stop = refl
reserved_is word.Longest = refl
reserved_is word.Zero = refl
reserved_is word.Rows = refl
reserved_is word.Sample = refl
reserved_is word.If = refl
reserved_is word.Then = refl
reserved_is word.Else = refl
reserved_is word.And = refl
reserved_is word.Or = refl
reserved_is word.Not = refl
reserved_is word.Div = refl
reserved_is word.Mod = refl
reserved_is word.Abs = refl
reserved_is word.Min = refl
reserved_is word.Clamp = refl
reserved_is word.Int = refl
reserved_is word.Fix = refl
reserved_is word.True = refl
reserved_is word.False = refl
reserved_is word.Time = refl
reserved_is word.Length = refl
reserved_is word.Event = refl
reserved_is word.Present = refl
reserved_is word.Absent = refl

some_reserved : (text : List ℕ) (here : Bool) (keyword : Keyword) (others : List Keyword) → bytes_eq text (keyword_text keyword) ≡ here
    → (list_any (λ reserved. bytes_eq text (keyword_text reserved)) others ≡ true → IsReserved text)
    → (here || list_any (λ reserved. bytes_eq text (keyword_text reserved)) others) ≡ true → IsReserved text
some_reserved text true keyword others is later found = (keyword, (bytes_eq-Decides text (keyword_text keyword)).0 is)
some_reserved text false keyword others is later found = later found

reserved_among : (text : List ℕ) (keywords : List Keyword) → list_any (λ reserved. bytes_eq text (keyword_text reserved)) keywords ≡ true → IsReserved text
reserved_among text [] found = absurd (cc)
reserved_among text (keyword ∷ others) found = some_reserved text (bytes_eq text (keyword_text keyword)) keyword others refl
    (reserved_among text others) found

reserved_told : (text : List ℕ) → is_reserved text ≡ true → IsReserved text
unfolding is_reserved
reserved_told text found = reserved_among text reserved_words found

pub name_told : (text : List ℕ) → is_name text ≡ true → IsName text
unfolding is_name
name_told text is =
    let parts = and_parts (is_word text) (not (is_reserved text)) is in (
      is_word_told text parts.0,
      λ reserved. true_is_false (is_reserved text) (ap is_reserved reserved.1 ∙ reserved_is reserved.0) (not_true
          (is_reserved text) parts.1),
    )

free_asked : (text : List ℕ) (found : Bool) → is_reserved text ≡ found → (IsReserved text → ⊥) → not found ≡ true
free_asked text false is free = refl
free_asked text true is free = absurd (free (reserved_told text is))

pub name_asked : (text : List ℕ) → IsName text → is_name text ≡ true
unfolding is_name
name_asked text name = and_from (is_word text) (not (is_reserved text)) (is_word_asked text name.0) (free_asked text (is_reserved text) refl name.1)

pub names_told : (names : List (List ℕ)) → list_all is_name names ≡ true → AllByRecursion IsName names
names_told [] is = _
names_told (name ∷ names) is =
    let parts = and_parts (is_name name) (list_all is_name names) is in
    (name_told name parts.0, names_told names parts.1)

pub names_asked : (names : List (List ℕ)) → AllByRecursion IsName names → list_all is_name names ≡ true
names_asked [] all = refl
names_asked (name ∷ names) all = and_from (is_name name) (list_all is_name names) (name_asked name all.0) (names_asked names all.1)

-- ---- Counts

decimals_told : (ty : Ty) → are_decimals ty ≡ true → AreDecimals ty
decimals_told (types.Fixed decimals) is = le_told decimals 9 is
decimals_told _ is = _

decimals_asked : (ty : Ty) → AreDecimals ty → are_decimals ty ≡ true
decimals_asked (types.Fixed decimals) is = le_asked decimals 9 is
decimals_asked _ is = refl

both_told : (low number high : ℕ) → (nat_le low number && nat_le number high) ≡ true → (low ≤ number) × (number ≤ high)
both_told low number high is =
    let parts = and_parts (nat_le low number) (nat_le number high) is in
    (le_told low number parts.0, le_told number high parts.1)

both_asked : (low number high : ℕ) → (low ≤ number) × (number ≤ high) → (nat_le low number && nat_le number high) ≡ true
both_asked low number high is = and_from (nat_le low number) (nat_le number high) (le_asked low number is.0) (le_asked number high is.1)

pub counts_told : (some : LineForm) → counts_fit some ≡ true → AreCountsInRange some
counts_told (form.Header version) is = both_told 1 version 2 is
counts_told (form.Resolution decimals) is = le_told decimals 9 is
counts_told (form.Param param) is = decimals_told param.ty is
counts_told (form.State state) is = decimals_told state.ty is
counts_told (form.Local local) is = decimals_told local.ty is
counts_told (form.Input input) is = decimals_told input.ty is
counts_told (form.EventInput event) is = decimals_told event.ty is
counts_told (form.Output output) is = decimals_told output.ty is
counts_told (form.EventOutput event) is = decimals_told event.ty is
counts_told (form.Repeat count) is = both_told 1 count 1000 is
counts_told (form.Zero count) is = le_told count 10000 is
counts_told (form.Rows count) is = both_told 1 count 100000 is
counts_told _ is = _

pub counts_asked : (some : LineForm) → AreCountsInRange some → counts_fit some ≡ true
counts_asked (form.Header version) is = both_asked 1 version 2 is
counts_asked (form.Resolution decimals) is = le_asked decimals 9 is
counts_asked (form.Param param) is = decimals_asked param.ty is
counts_asked (form.State state) is = decimals_asked state.ty is
counts_asked (form.Local local) is = decimals_asked local.ty is
counts_asked (form.Input input) is = decimals_asked input.ty is
counts_asked (form.EventInput event) is = decimals_asked event.ty is
counts_asked (form.Output output) is = decimals_asked output.ty is
counts_asked (form.EventOutput event) is = decimals_asked event.ty is
counts_asked (form.Repeat count) is = both_asked 1 count 1000 is
counts_asked (form.Zero count) is = le_asked count 10000 is
counts_asked (form.Rows count) is = both_asked 1 count 100000 is
counts_asked _ is = refl

-- ---- Tails

-- What is known of a tail that is allowed in a text of the version.
pub record TailFits (version : ℕ) (tail : Tail) : Type 0 where
  pub names : list_all is_name (names_on_expression (expression_in tail)) ≡ true
  pub in_range : IsTailInRange tail
  pub writable : is_writable tail ≡ true
  pub of_version : (not (tail_speaks_of_events tail) || (version == 2)) ≡ true

pub tail_told : (version : ℕ) (tail : Tail) → tail_fits version tail ≡ true → TailFits version tail
unfolding expression_fits
tail_told version Nothing is = record { names = refl; in_range = _; writable = refl; of_version = refl }
tail_told version (OfLiteral (literal.Truth told)) is = record { names = refl; in_range = _; writable = refl; of_version = refl }
tail_told version (OfLiteral (literal.Number number decimals)) is =
    let parts = and_parts (nat_le decimals 9) _ is in
    record { names = refl; in_range = le_told decimals 9 parts.0; writable = parts.1; of_version = refl }
tail_told version (OfSeconds (literal.Truth told)) is = absurd (cc)
tail_told version (OfSeconds (literal.Number number decimals)) is =
    let parts = and_parts (nat_le decimals 9) _ is in
    record { names = refl; in_range = le_told decimals 9 parts.0; writable = parts.1; of_version = refl }
tail_told version (OfExpression value) is =
    let names = and_parts _ _ is in
    let ranged = and_parts _ _ names.1 in
    let unsigned = and_parts _ _ ranged.1 in
    let nested = and_parts _ _ unsigned.1 in
    record { names = names.0; in_range = ranged.0; writable = and_from _ _ unsigned.0 nested.0; of_version = nested.1 }

pub tail_asked : (version : ℕ) (tail : Tail) → TailFits version tail → tail_fits version tail ≡ true
unfolding expression_fits
tail_asked version Nothing fits = refl
tail_asked version (OfLiteral (literal.Truth told)) fits = refl
tail_asked version (OfLiteral (literal.Number number decimals)) fits = and_from _ _ (le_asked decimals 9 fits.in_range) fits.writable
tail_asked version (OfSeconds (literal.Truth told)) fits = fits.writable
tail_asked version (OfSeconds (literal.Number number decimals)) fits = and_from _ _ (le_asked decimals 9 fits.in_range) fits.writable
tail_asked version (OfExpression value) fits =
    let parts = and_parts _ _ fits.writable in
    and_from _ _ fits.names (and_from _ _ fits.in_range (and_from _ _ parts.0 (and_from _ _ parts.1 fits.of_version)))
