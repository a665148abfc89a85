-- The form that tokens write is the one that is read from them: what is written is read again.
use Rattle.std.proofs.Common.{◌≡◌, ℕ, ◌≤◌, ◌^◌, Bool, true, false, ℤ, pos, nat_le, nat_lt, List, [], ◌∷◌, ◌++◌, append_assoc, Option, Some, None, Result, Ok}
use Rattle.std.proofs.Common.{Err, refl, ap, sym, subst, ◌∙◌, arith}
use Rattle.std.proofs.lemmas.Bool.{cond-true}
use Rattle.std.proofs.lemmas.Bool.Decides.{nat_tests}
use Rattle.std.proofs.lemmas.List.{append-nil}
use Rattle.fixed_words.specs.Literals.{with_sign}
use Rattle.fixed_words.specs.Types.{AreDecimals, is_word_of}
use Rattle.fixed_words.specs.declared.types.Literal.{Literal}
use Rattle.fixed_words.specs.declared.types.Literal.TheVariants as literal
use Rattle.fixed_words.specs.declared.types.Ty.{Ty}
use Rattle.fixed_words.specs.declared.types.Ty.TheVariants as types
use Rattle.unit_tree.specs.LineForms.{type_tokens, names_tokens, needs_tokens, equals, front_tokens, tail_of, sign_tokens, WritesNumber, WritesLiteral}
use Rattle.unit_tree.specs.LineForms.{WritesSeconds, WritesTail, AreCountsInRange, WritesForm}
use Rattle.unit_tree.specs.Phrases.{keyword, symbol, whole, Writes}
use Rattle.unit_tree.specs.declared.line_form.LineForm.{LineForm}
use Rattle.unit_tree.specs.declared.line_form.LineForm.TheVariants as form
use Rattle.unit_tree.specs.declared.token.Keyword.TheVariants as word
use Rattle.unit_tree.specs.declared.token.Symbol.TheVariants as sign
use Rattle.unit_tree.specs.declared.token.Token.{Token}
use Rattle.unit_tree.specs.declared.token.Token.TheVariants as token
use Rattle.unit_tree.specs.declared.unit.Output.{Output}
use Rattle.unit_tree.specs.declared.unit.Param.{Param}
use Rattle.text_tokens.specs.Scanning.{Gives, ReadsAs}
use Rattle.text_tokens.specs.declared.fault.Unread.{Unread}
use Rattle.text_tokens.specs.declared.fault.Unread.TheVariants as unread
use Rattle.text_lines.specs.Expressions.{decimals_at}
use Rattle.text_lines.specs.LineReading.{FormIs, count_at, named_type, type_at, declaration_at, more_names, needs_at, literal_of, seconds_of, started_of}
use Rattle.text_lines.specs.LineReading.{output_of, header_form, unit_form, resolution_form, param_form, state_form, local_form, input_form, event_input_form}
use Rattle.text_lines.specs.LineReading.{output_form, event_output_form, max_form, if_form, accept_form, repeat_form, instance_form, connect_form, stop_form}
use Rattle.text_lines.specs.LineReading.{longest_form, zero_form, rows_form, sample_form, assign_form, setting_form, port_at, read_form}
use Rattle.text_lines.proofs.WrittenLines.{written_form}
use Rattle.text_lines.proofs.WrittenTrees.{read_written}

-- ---- Parts of a line

-- A whole number within a range, and the decimals of a type.
count_again : (low high count : ℕ) (rest : List Token) → low ≤ count → count ≤ high → count_at low high (whole count ∷ rest) ≡ Some (count, rest)
count_again low high count rest least most =
    let first : nat_le low count ≡ true = grind (arith, nat_tests) in
    let second : nat_le count high ≡ true = grind (arith, nat_tests) in
    rw (first, second) refl

decimals_again : (decimals : ℕ) (rest : List Token) → decimals ≤ 9 → decimals_at (whole decimals ∷ rest) ≡ Some (decimals, rest)
decimals_again decimals rest few =
    let test : nat_le decimals 9 ≡ true = grind (arith, nat_tests) in
    rw test refl

-- A type.
type_again : (ty : Ty) (rest : List Token) → AreDecimals ty → type_at (type_tokens ty ++ rest) ≡ Some (ty, rest)
unfolding type_at named_type
type_again types.Int8 rest few = refl
type_again types.UInt8 rest few = refl
type_again types.Int16 rest few = refl
type_again types.UInt16 rest few = refl
type_again types.Int32 rest few = refl
type_again types.UInt32 rest few = refl
type_again types.Int64 rest few = refl
type_again types.Bool rest few = refl
type_again (types.Fixed decimals) rest few =
    let test : nat_le decimals 9 ≡ true = grind (arith, nat_tests) in
    rw test refl

-- `p : T`
declaration_again : (name : List ℕ) (ty : Ty) (rest : List Token) → AreDecimals ty
    → declaration_at (token.Name name ∷ symbol sign.Colon ∷ (type_tokens ty ++ rest)) ≡ Some (record { name = name; ty = ty }, rest)
unfolding declaration_at
declaration_again name ty rest few = rw (type_again ty rest few) refl

-- The names after the first, each after a comma.
abbrev behind_first : List (List ℕ) → List Token
behind_first [] = []
behind_first (name ∷ names) = symbol sign.Comma ∷ token.Name name ∷ behind_first names

names_are : (first : List ℕ) (names : List (List ℕ)) → names_tokens (first ∷ names) ≡ token.Name first ∷ behind_first names
names_are first [] = refl
names_are first (second ∷ names) = ap (λ all. token.Name first ∷ symbol sign.Comma ∷ all) (names_are second names)

names_again : (before names : List (List ℕ)) (rest : List Token)
    → more_names before (behind_first names ++ (symbol sign.Is ∷ rest)) ≡ Some (before ++ names, symbol sign.Is ∷ rest)
names_again before [] rest = ap (λ all. Some (all, symbol sign.Is ∷ rest)) (sym (append-nil before))
names_again before (name ∷ names) rest =
    names_again (before ++ (name ∷ [])) names rest ∙ ap (λ all. Some (all, symbol sign.Is ∷ rest)) (append_assoc before (name ∷ []) names)

-- `needs u, v`, or nothing.
needs_again : (names : List (List ℕ)) (rest : List Token) → needs_at (needs_tokens names ++ (symbol sign.Is ∷ rest)) ≡ Some (names, symbol sign.Is ∷ rest)
needs_again [] rest = refl
needs_again (first ∷ names) rest =
    ap (λ all. needs_at (keyword word.Needs ∷ all ++ (symbol sign.Is ∷ rest))) (names_are first names) ∙ names_again (first ∷ []) names rest

-- ---- Ends of a line

number_again : (negative : Bool) (digits decimals : ℕ) → is_word_of types.Int64 (with_sign negative digits) ≡ true
    → literal_of (sign_tokens negative ++ (token.Number digits decimals ∷ [])) ≡ Some (literal.Number (with_sign negative digits) decimals)
number_again true digits decimals fits =
    cond-true (is_word_of types.Int64 (with_sign true digits)) (Some (literal.Number (with_sign true digits) decimals)) None fits
number_again false digits decimals fits =
    cond-true (is_word_of types.Int64 (with_sign false digits)) (Some (literal.Number (with_sign false digits) decimals)) None fits

signed_again : (number : ℤ) (decimals : ℕ) (tokens : List Token) → WritesNumber number decimals tokens
    → literal_of tokens ≡ Some (literal.Number number decimals)
signed_again number decimals tokens is =
    ap literal_of is.spelled
    ∙ number_again is.negative is.digits decimals (subst (λ word. is_word_of types.Int64 word ≡ true) (sym is.value) is.fits)
    ∙ ap (λ word. Some (literal.Number word decimals)) is.value

literal_again : (value : Literal) (tokens : List Token) → WritesLiteral value tokens → literal_of tokens ≡ Some value
literal_again (literal.Truth true) tokens is = ap literal_of is
literal_again (literal.Truth false) tokens is = ap literal_of is
literal_again (literal.Number number decimals) tokens is = signed_again number decimals tokens is

seconds_again : (seconds : Literal) (tokens : List Token) → WritesSeconds seconds tokens → seconds_of tokens ≡ Some seconds
seconds_again (literal.Truth told) tokens is = absurd is
seconds_again (literal.Number number decimals) tokens (digits, below, value, spelled) =
    ap seconds_of spelled
    ∙ cond-true (nat_lt digits (2 ^ 63)) (Some (literal.Number (pos digits) decimals)) None (grind (arith, nat_tests))
    ∙ ap (λ word. Some (literal.Number word decimals)) (sym value)

-- `p : T = L`
started_again : (param : Param) (tail : List Token) → WritesLiteral param.start tail → AreDecimals param.ty
    → started_of (token.Name param.name ∷ symbol sign.Colon ∷ (type_tokens param.ty ++ equals) ++ tail) ≡ Some param
unfolding started_of
started_again param tail start few =
    rw (
      append_assoc (type_tokens param.ty) equals tail,
      declaration_again param.name param.ty (symbol sign.Is ∷ tail) few,
      literal_again param.start tail start,
    ) refl

-- `y : T = e`, or `y : T needs u, v = e`
output_again : (output : Output) (tail : List Token) → Writes output.value tail → AreDecimals output.ty
    → output_of (token.Name output.name ∷ symbol sign.Colon ∷ (type_tokens output.ty ++ needs_tokens output.needs ++ equals) ++ tail) ≡ Some output
unfolding output_of
output_again output tail value few =
    rw (
      append_assoc (type_tokens output.ty ++ needs_tokens output.needs) equals tail,
      append_assoc (type_tokens output.ty) (needs_tokens output.needs) (symbol sign.Is ∷ tail),
      declaration_again output.name output.ty (needs_tokens output.needs ++ (symbol sign.Is ∷ tail)) few,
      needs_again output.needs tail,
      read_written output.value tail value,
    ) refl

-- ---- Lines

-- The tokens of each form are read as it, whatever its end is.
pub form_again : (some : LineForm) (tail : List Token) → WritesTail (tail_of some) tail → AreCountsInRange some
    → read_form (front_tokens some ++ tail) ≡ Some some
unfolding read_form header_form unit_form resolution_form param_form state_form local_form input_form event_input_form output_form event_output_form max_form
    if_form accept_form repeat_form instance_form connect_form stop_form longest_form zero_form rows_form sample_form assign_form setting_form port_at
form_again (form.Header version) tail is counts = rw (is, count_again 1 2 version [] counts.0 counts.1) refl
form_again (form.Unit name) tail is counts = rw is refl
form_again (form.Resolution decimals) tail is counts = rw (is, decimals_again decimals [] counts) refl
form_again (form.Param param) tail is counts = rw (started_again param tail is counts) refl
form_again (form.State state) tail is counts = rw (started_again (record { name = state.name; ty = state.ty; start = state.start }) tail is counts) refl
form_again (form.Local local) tail is counts = rw (is, declaration_again local.name local.ty [] counts) refl
form_again (form.Input input) tail is counts = rw (started_again (record { name = input.name; ty = input.ty; start = input.start }) tail is counts) refl
form_again (form.EventInput event) tail is counts = rw (is, declaration_again event.name event.ty [] counts) refl
form_again (form.Output output) tail is counts = rw (output_again output tail is counts) refl
form_again (form.EventOutput event) tail is counts =
    rw (output_again (record { name = event.name; ty = event.ty; needs = event.needs; value = event.value }) tail is counts) refl
form_again (form.Max value) tail is counts = rw (read_written value tail is) refl
form_again form.Step tail is counts = rw is refl
form_again form.End tail is counts = rw is refl
form_again (form.Assign target value) tail is counts = rw (read_written value tail is) refl
form_again (form.If condition) tail is counts = rw (read_written condition tail is) refl
form_again form.Else tail is counts = rw is refl
form_again (form.Repeat count) tail is counts = rw (is, count_again 1 1000 count [] counts.0 counts.1) refl
form_again (form.Accept value) tail is counts = rw (read_written value tail is) refl
form_again (form.Instance name unit) tail is counts = rw is refl
form_again (form.Setting setting) tail is counts = rw (literal_again setting.value tail is) refl
form_again (form.Connect wire) tail is counts = rw is refl
form_again (form.Stop seconds) tail is counts = rw (seconds_again seconds tail is) refl
form_again (form.Longest seconds) tail is counts = rw (seconds_again seconds tail is) refl
form_again (form.Zero count) tail is counts = rw (is, count_again 0 10000 count [] (omega arith) counts) refl
form_again (form.Rows count) tail is counts = rw (is, count_again 1 100000 count [] counts.0 counts.1) refl
form_again (form.Sample port) tail is counts = rw is refl

-- What the tokens write is read from them.
pub form_written : (some : LineForm) (tokens : List Token) → WritesForm some tokens → read_form tokens ≡ Some some
form_written some tokens is = ap read_form is.spelled ∙ form_again some is.tail is.tail_is is.counts

-- The result of the definition of reading states what the tokens write.
pub form_said : (tokens : List Token) (found : Option LineForm) → read_form tokens ≡ found → FormIs tokens found
form_said tokens (Some some) same = written_form some tokens same
form_said tokens None same = λ some written. let is = form_written some tokens written in absurd (cc)

-- The result of reading states what the tokens write.
pub reads_as : (tokens : List Token) (result : Result LineForm Unread) → Gives result (read_form tokens) → ReadsAs result (FormIs tokens)
reads_as tokens (Ok some) gives = form_said tokens (Some some) gives
reads_as tokens (Err unread.NoForm) gives = form_said tokens None gives
reads_as tokens (Err unread.NoMemory) gives = tt
