-- The form that is read from tokens is the one that they write: what is read is written.
use Rattle.std.proofs.Common.{◌≡◌, ℕ, ◌≤◌, ◌^◌, Bool, true, false, cond, ◌&&◌, ◌==◌, pos, nat_le, nat_lt, List, [], ◌∷◌, ◌++◌, append_assoc, codes, Option}
use Rattle.std.proofs.Common.{Some, None, refl, ap, sym, subst, ◌∙◌, arith}
use Rattle.std.specs.Prelude.{IfSome}
use Rattle.std.specs.Str.{bytes_eq}
use Rattle.std.proofs.lemmas.Bool.{and_parts, eqb-true}
use Rattle.std.proofs.lemmas.Bool.Decides.{nat_tests}
use Rattle.std.proofs.lemmas.Slice.Eq.{bytes_eq-Decides}
use Rattle.fixed_words.specs.Literals.{with_sign}
use Rattle.fixed_words.specs.Types.{AreDecimals, is_word_of}
use Rattle.fixed_words.specs.declared.types.Literal.TheVariants as literal
use Rattle.fixed_words.specs.declared.types.Ty.{Ty}
use Rattle.fixed_words.specs.declared.types.Ty.TheVariants as types
use Rattle.unit_tree.specs.LineForms.{type_tokens, port_tokens, names_tokens, needs_tokens, equals, front_tokens, Nothing, tail_of, sign_tokens, WritesLiteral}
use Rattle.unit_tree.specs.LineForms.{WritesSeconds, WritesTail, AreCountsInRange, WritesForm}
use Rattle.unit_tree.specs.Phrases.{keyword, symbol, whole, Writes}
use Rattle.unit_tree.specs.declared.line_form.LineForm.{LineForm}
use Rattle.unit_tree.specs.declared.line_form.LineForm.TheVariants as form
use Rattle.unit_tree.specs.declared.system.PortName.{PortName}
use Rattle.unit_tree.specs.declared.token.Keyword.{Keyword}
use Rattle.unit_tree.specs.declared.token.Keyword.TheVariants as word
use Rattle.unit_tree.specs.declared.token.Symbol.TheVariants as sign
use Rattle.unit_tree.specs.declared.token.Token.{Token}
use Rattle.unit_tree.specs.declared.token.Token.TheVariants as token
use Rattle.unit_tree.specs.declared.unit.Local.{Local}
use Rattle.unit_tree.specs.declared.unit.Output.{Output}
use Rattle.unit_tree.specs.declared.unit.Param.{Param}
use Rattle.text_lines.specs.Expressions.{after_symbol, name_at, decimals_at, read_expression}
use Rattle.text_lines.specs.LineReading.{count_at, unsigned_type, plain_type, named_type, type_at, declaration_at, port_at, more_names, needs_at}
use Rattle.text_lines.specs.LineReading.{number_literal, literal_of, seconds_of, last, started_of, output_of, header_form, unit_form, resolution_form}
use Rattle.text_lines.specs.LineReading.{param_form, state_form, local_form, input_form, event_input_form, output_form, event_output_form, event_form, max_form}
use Rattle.text_lines.specs.LineReading.{if_form, accept_form, repeat_form, instance_form, connect_form, stop_form, longest_form, zero_form, rows_form}
use Rattle.text_lines.specs.LineReading.{sample_form, assign_form, setting_form, keyword_form, name_form, read_form}
use Rattle.text_lines.proofs.ReadExpressions.{then_holds, if_holds, after_symbol_is, name_at_is, decimals_at_is}
use Rattle.text_lines.proofs.WrittenTrees.{written_read}

-- ---- Parts of a line

-- A property of both cases of a test is one of the reading with this test.
either_holds : {B : Type 0} (test : Bool) (one other : Option B) (Q : B → Type 0) → (test ≡ true → IfSome one Q) → IfSome other Q
    → IfSome (cond test one other) Q
either_holds true one other Q first second = first refl
either_holds false one other Q first second = second

-- A property of all that may be found is one of what is found.
if_found : {A : Type 0} (found : Option A) (Q : A → Type 0) → ((x : A) → found ≡ Some x → Q x) → IfSome found Q
if_found None Q is = tt
if_found (Some x) Q is = is x refl

-- A whole number within a range.
abbrev IsCount : ℕ → ℕ → List Token → ℕ × List Token → Type 0
IsCount low high tokens found = (whole found.0 ∷ found.1 ≡ tokens) × (low ≤ found.0) × (found.0 ≤ high)

count_at_is : (low high : ℕ) (tokens : List Token) → IfSome (count_at low high tokens) (IsCount low high tokens)
count_at_is low high [] = tt
count_at_is low high (token.Number digits decimals ∷ rest) =
    if_holds ((decimals == 0) && (nat_le low digits && nat_le digits high)) (Some (digits, rest)) (IsCount low high (token.Number digits decimals ∷ rest))
    (λ all.
    let parts = and_parts (decimals == 0) (nat_le low digits && nat_le digits high) all in
    let bounds = and_parts (nat_le low digits) (nat_le digits high) parts.1 in
    (ap (λ d. token.Number digits d ∷ rest) (sym (eqb-true decimals 0 parts.0)), grind (arith, nat_tests, bounds.0), grind (arith, nat_tests, bounds.1)))
count_at_is low high (_ ∷ rest) = tt

-- A type by its name.
abbrev IsPlain : List ℕ → Ty → Type 0
IsPlain name ty = (type_tokens ty ≡ token.Name name ∷ []) × AreDecimals ty

by_name : (name text : List ℕ) → bytes_eq name text ≡ true → token.Name text ∷ [] ≡ token.Name name ∷ []
by_name name text same = ap (λ n. token.Name n ∷ []) (sym ((bytes_eq-Decides name text).0 same))

unsigned_type_is : (name : List ℕ) → IfSome (unsigned_type name) (IsPlain name)
unsigned_type_is name =
    either_holds (bytes_eq name (codes "UInt8")) _ _ (IsPlain name) (λ same. (by_name name (codes "UInt8") same, tt)) (
    either_holds (bytes_eq name (codes "UInt16")) _ _ (IsPlain name) (λ same. (by_name name (codes "UInt16") same, tt)) (
    either_holds (bytes_eq name (codes "UInt32")) _ _ (IsPlain name) (λ same. (by_name name (codes "UInt32") same, tt)) tt))

plain_type_is : (name : List ℕ) → IfSome (plain_type name) (IsPlain name)
plain_type_is name =
    either_holds (bytes_eq name (codes "Int8")) _ _ (IsPlain name) (λ same. (by_name name (codes "Int8") same, tt)) (
    either_holds (bytes_eq name (codes "Int16")) _ _ (IsPlain name) (λ same. (by_name name (codes "Int16") same, tt)) (
    either_holds (bytes_eq name (codes "Int32")) _ _ (IsPlain name) (λ same. (by_name name (codes "Int32") same, tt)) (
    either_holds (bytes_eq name (codes "Int64")) _ _ (IsPlain name) (λ same. (by_name name (codes "Int64") same, tt)) (
    either_holds (bytes_eq name (codes "Bool")) _ _ (IsPlain name) (λ same. (by_name name (codes "Bool") same, tt)) (unsigned_type_is name)))))

-- A type.
abbrev IsType : List Token → Ty × List Token → Type 0
IsType tokens found = (type_tokens found.0 ++ found.1 ≡ tokens) × AreDecimals found.0

named_type_is : (name : List ℕ) (rest : List Token) → IfSome (named_type name rest) (IsType (token.Name name ∷ rest))
unfolding named_type
named_type_is name rest =
    either_holds (bytes_eq name (codes "Fixed")) _ _ (IsType (token.Name name ∷ rest)) (λ same.
    then_holds (decimals_at rest) _ _ (IsType (token.Name name ∷ rest)) (decimals_at_is rest) (λ found is.
    let few = is.1 in (
      ap (λ all. token.Name (codes "Fixed") ∷ all) is.0
          ∙ ap (λ n. token.Name n ∷ rest) (sym ((bytes_eq-Decides name (codes "Fixed")).0 same)),
      grind (arith, nat_tests),
    )))
    (
    then_holds (plain_type name) _ _ (IsType (token.Name name ∷ rest)) (plain_type_is name) (λ ty is.
    (ap (λ all. all ++ rest) is.0, is.1)))

type_at_is : (tokens : List Token) → IfSome (type_at tokens) (IsType tokens)
unfolding type_at
type_at_is tokens =
    then_holds (name_at tokens) _ _ (IsType tokens) (name_at_is tokens) (λ name is.
    subst (λ all. IfSome (named_type name.0 name.1) (IsType all)) is (named_type_is name.0 name.1))

-- `p : T`
abbrev IsDeclaration : List Token → Local × List Token → Type 0
IsDeclaration tokens found =
    (token.Name found.0.name ∷ symbol sign.Colon ∷ type_tokens found.0.ty ++ found.1 ≡ tokens) × AreDecimals found.0.ty

declaration_at_is : (tokens : List Token) → IfSome (declaration_at tokens) (IsDeclaration tokens)
unfolding declaration_at
declaration_at_is tokens =
    then_holds (name_at tokens) _ _ (IsDeclaration tokens) (name_at_is tokens) (λ name named.
    then_holds (after_symbol sign.Colon name.1) _ _ (IsDeclaration tokens) (after_symbol_is sign.Colon name.1) (λ behind colon.
    then_holds (type_at behind) _ _ (IsDeclaration tokens) (type_at_is behind) (λ ty is.
    (ap (λ all. token.Name name.0 ∷ symbol sign.Colon ∷ all) is.0 ∙ ap (λ all. token.Name name.0 ∷ all) colon ∙ named, is.1))))

-- `a.y`
abbrev IsPort : List Token → PortName × List Token → Type 0
IsPort tokens found = port_tokens found.0 ++ found.1 ≡ tokens

port_at_is : (tokens : List Token) → IfSome (port_at tokens) (IsPort tokens)
unfolding port_at
port_at_is tokens =
    then_holds (name_at tokens) _ _ (IsPort tokens) (name_at_is tokens) (λ instance named.
    then_holds (after_symbol sign.Point instance.1) _ _ (IsPort tokens) (after_symbol_is sign.Point instance.1) (λ behind point.
    then_holds (name_at behind) _ _ (IsPort tokens) (name_at_is behind) (λ port is.
    ap (λ all. token.Name instance.0 ∷ symbol sign.Point ∷ all) is ∙ ap (λ all. token.Name instance.0 ∷ all) point ∙ named)))

-- One more name comes after a comma.
names_and_one : (first next : List ℕ) (names : List (List ℕ))
    → names_tokens (first ∷ names ++ (next ∷ [])) ≡ names_tokens (first ∷ names) ++ (symbol sign.Comma ∷ token.Name next ∷ [])
names_and_one first next [] = refl
names_and_one first next (second ∷ names) = ap (λ all. token.Name first ∷ symbol sign.Comma ∷ all) (names_and_one second next names)

-- `needs u, v`, or nothing.
abbrev AreNeeds : List Token → List (List ℕ) × List Token → Type 0
AreNeeds tokens found = needs_tokens found.0 ++ found.1 ≡ tokens

more_names_is : (first : List ℕ) (names : List (List ℕ)) (tokens : List Token)
    → IfSome (more_names (first ∷ names) tokens) (AreNeeds (needs_tokens (first ∷ names) ++ tokens))
more_names_is first names (token.Symbol sign.Comma ∷ token.Name next ∷ rest) =
    subst (λ all. IfSome (more_names (first ∷ names ++ (next ∷ [])) rest) (AreNeeds all))
    (ap (λ all. keyword word.Needs ∷ all ++ rest) (names_and_one first next names)
    ∙ ap (λ all. keyword word.Needs ∷ all) (append_assoc (names_tokens (first ∷ names)) (symbol sign.Comma ∷ token.Name next ∷ []) rest))
    (more_names_is first (names ++ (next ∷ [])) rest)
more_names_is first names (token.Symbol sign.Comma ∷ rest) = tt
more_names_is first names _ = refl

needs_at_is : (tokens : List Token) → IfSome (needs_at tokens) (AreNeeds tokens)
needs_at_is (token.Keyword word.Needs ∷ token.Name name ∷ rest) = more_names_is name [] rest
needs_at_is (token.Keyword word.Needs ∷ rest) = tt
needs_at_is rest = refl

-- ---- Ends of a line

number_literal_is : (negative : Bool) (digits decimals : ℕ)
    → IfSome (number_literal negative digits decimals) (λ value. WritesLiteral value (sign_tokens negative ++ (token.Number digits decimals ∷ [])))
number_literal_is negative digits decimals =
    if_holds (is_word_of types.Int64 (with_sign negative digits)) (Some (literal.Number (with_sign negative digits) decimals))
    (λ value. WritesLiteral value (sign_tokens negative ++ (token.Number digits decimals ∷ []))) (λ fits.
    record {
      negative = negative;
      digits = digits;
      spelled = refl;
      value = refl;
      fits = fits;
    })

literal_of_is : (tokens : List Token) → IfSome (literal_of tokens) (λ value. WritesLiteral value tokens)
literal_of_is (token.Keyword word.True ∷ []) = refl
literal_of_is (token.Keyword word.False ∷ []) = refl
literal_of_is (token.Number digits decimals ∷ []) = number_literal_is false digits decimals
literal_of_is (token.Symbol sign.Minus ∷ token.Number digits decimals ∷ []) = number_literal_is true digits decimals
literal_of_is _ = tt

seconds_of_is : (tokens : List Token) → IfSome (seconds_of tokens) (λ seconds. WritesSeconds seconds tokens)
seconds_of_is (token.Number digits decimals ∷ []) =
    if_holds (nat_lt digits (2 ^ 63)) (Some (literal.Number (pos digits) decimals)) (λ seconds. WritesSeconds seconds (token.Number digits decimals ∷ []))
    (λ below. (digits, grind (arith, nat_tests), refl, refl))
seconds_of_is _ = tt

expression_is : (tokens : List Token) → IfSome (read_expression tokens) (λ value. Writes value tokens)
expression_is tokens = if_found (read_expression tokens) (λ value. Writes value tokens) (λ value same. written_read value tokens same)

-- The tokens write what is read.
abbrev Written : List Token → LineForm → Type 0
Written tokens some = WritesForm some tokens

-- A form that has no literal and no expression at its end is written by its first tokens alone.
last_is : (some : LineForm) (rest tokens : List Token) → tail_of some ≡ Nothing → front_tokens some ++ rest ≡ tokens → AreCountsInRange some
    → IfSome (last some rest) (Written tokens)
last_is some [] tokens none spelled counts = record {
  tail = [];
  spelled = sym spelled;
  tail_is = subst (λ tail. WritesTail tail []) (sym none) refl;
  counts = counts;
}
last_is some (first ∷ rest) tokens none spelled counts = tt

-- `p : T = L`
record IsStarted (tokens : List Token) (param : Param) : Type 0 where
  tail : List Token
  spelled : tokens ≡ token.Name param.name ∷ symbol sign.Colon ∷ (type_tokens param.ty ++ equals) ++ tail
  tail_is : WritesLiteral param.start tail
  counts : AreDecimals param.ty

started_of_is : (tokens : List Token) → IfSome (started_of tokens) (IsStarted tokens)
unfolding started_of
started_of_is tokens =
    then_holds (declaration_at tokens) _ _ (IsStarted tokens) (declaration_at_is tokens) (λ declared is.
    then_holds (after_symbol sign.Is declared.1) _ _ (IsStarted tokens) (after_symbol_is sign.Is declared.1) (λ behind behind_is.
    then_holds (literal_of behind) _ _ (IsStarted tokens) (literal_of_is behind) (λ start start_is.
    record {
      tail = behind;
      spelled = sym (
          ap (λ all. token.Name declared.0.name ∷ symbol sign.Colon ∷ all)
          (append_assoc (type_tokens declared.0.ty) equals behind ∙ ap (λ all. type_tokens declared.0.ty ++ all) behind_is)
          ∙ is.0);
      tail_is = start_is;
      counts = is.1;
    })))

-- `y : T = e`, or `y : T needs u, v = e`
record IsOutput (tokens : List Token) (output : Output) : Type 0 where
  tail : List Token
  spelled : tokens ≡ token.Name output.name ∷ symbol sign.Colon ∷ (type_tokens output.ty ++ needs_tokens output.needs ++ equals) ++ tail
  tail_is : Writes output.value tail
  counts : AreDecimals output.ty

output_of_is : (tokens : List Token) → IfSome (output_of tokens) (IsOutput tokens)
unfolding output_of
output_of_is tokens =
    then_holds (declaration_at tokens) _ _ (IsOutput tokens) (declaration_at_is tokens) (λ declared is.
    then_holds (needs_at declared.1) _ _ (IsOutput tokens) (needs_at_is declared.1) (λ needed needed_is.
    then_holds (after_symbol sign.Is needed.1) _ _ (IsOutput tokens) (after_symbol_is sign.Is needed.1) (λ behind behind_is.
    then_holds (read_expression behind) _ _ (IsOutput tokens) (expression_is behind) (λ value value_is.
    record {
      tail = behind;
      spelled = sym (
          ap (λ all. token.Name declared.0.name ∷ symbol sign.Colon ∷ all) (append_assoc (type_tokens declared.0.ty ++ needs_tokens needed.0) equals behind
          ∙ ap (λ all. (type_tokens declared.0.ty ++ needs_tokens needed.0) ++ all) behind_is
          ∙ append_assoc (type_tokens declared.0.ty) (needs_tokens needed.0) needed.1
          ∙ ap (λ all. type_tokens declared.0.ty ++ all) needed_is) ∙ is.0);
      tail_is = value_is;
      counts = is.1;
    }))))

-- ---- Lines that begin with a keyword

header_is : (tokens : List Token) → IfSome (header_form tokens) (Written (keyword word.Cosim ∷ tokens))
unfolding header_form
header_is tokens =
    then_holds (count_at 1 2 tokens) _ _ (Written (keyword word.Cosim ∷ tokens)) (count_at_is 1 2 tokens) (λ version is.
    last_is (form.Header version.0) version.1 _ refl (ap (λ all. keyword word.Cosim ∷ all) is.0) (is.1, is.2))

unit_is : (tokens : List Token) → IfSome (unit_form tokens) (Written (keyword word.Unit ∷ tokens))
unfolding unit_form
unit_is tokens =
    then_holds (name_at tokens) _ _ (Written (keyword word.Unit ∷ tokens)) (name_at_is tokens) (λ name is.
    last_is (form.Unit name.0) name.1 _ refl (ap (λ all. keyword word.Unit ∷ all) is) tt)

resolution_is : (tokens : List Token) → IfSome (resolution_form tokens) (Written (keyword word.Resolution ∷ tokens))
unfolding resolution_form
resolution_is tokens =
    then_holds (decimals_at tokens) _ _ (Written (keyword word.Resolution ∷ tokens)) (decimals_at_is tokens) (λ decimals is.
    let few = is.1 in
    last_is (form.Resolution decimals.0) decimals.1 _ refl (ap (λ all. keyword word.Resolution ∷ all) is.0) (grind (arith, nat_tests)))

param_is : (tokens : List Token) → IfSome (param_form tokens) (Written (keyword word.Param ∷ tokens))
unfolding param_form
param_is tokens =
    then_holds (started_of tokens) _ _ (Written (keyword word.Param ∷ tokens)) (started_of_is tokens) (λ param is.
    record { tail = is.tail; spelled = ap (λ all. keyword word.Param ∷ all) is.spelled; tail_is = is.tail_is; counts = is.counts })

state_is : (tokens : List Token) → IfSome (state_form tokens) (Written (keyword word.State ∷ tokens))
unfolding state_form
state_is tokens =
    then_holds (started_of tokens) _ _ (Written (keyword word.State ∷ tokens)) (started_of_is tokens) (λ state is.
    record { tail = is.tail; spelled = ap (λ all. keyword word.State ∷ all) is.spelled; tail_is = is.tail_is; counts = is.counts })

input_is : (tokens : List Token) → IfSome (input_form tokens) (Written (keyword word.Input ∷ tokens))
unfolding input_form
input_is tokens =
    then_holds (started_of tokens) _ _ (Written (keyword word.Input ∷ tokens)) (started_of_is tokens) (λ input is.
    record { tail = is.tail; spelled = ap (λ all. keyword word.Input ∷ all) is.spelled; tail_is = is.tail_is; counts = is.counts })

local_is : (tokens : List Token) → IfSome (local_form tokens) (Written (keyword word.Local ∷ tokens))
unfolding local_form
local_is tokens =
    then_holds (declaration_at tokens) _ _ (Written (keyword word.Local ∷ tokens)) (declaration_at_is tokens) (λ local is.
    last_is (form.Local local.0) local.1 _ refl (ap (λ all. keyword word.Local ∷ all) is.0) is.1)

event_input_is : (tokens : List Token) → IfSome (event_input_form tokens) (Written (keyword word.Event ∷ keyword word.Input ∷ tokens))
unfolding event_input_form
event_input_is tokens =
    then_holds (declaration_at tokens) _ _ (Written (keyword word.Event ∷ keyword word.Input ∷ tokens)) (declaration_at_is tokens) (λ event is.
    last_is (form.EventInput (record { name = event.0.name; ty = event.0.ty })) event.1 _ refl
    (ap (λ all. keyword word.Event ∷ keyword word.Input ∷ all) is.0) is.1)

output_is : (tokens : List Token) → IfSome (output_form tokens) (Written (keyword word.Output ∷ tokens))
unfolding output_form
output_is tokens =
    then_holds (output_of tokens) _ _ (Written (keyword word.Output ∷ tokens)) (output_of_is tokens) (λ output is.
    record { tail = is.tail; spelled = ap (λ all. keyword word.Output ∷ all) is.spelled; tail_is = is.tail_is; counts = is.counts })

event_output_is : (tokens : List Token) → IfSome (event_output_form tokens) (Written (keyword word.Event ∷ keyword word.Output ∷ tokens))
unfolding event_output_form
event_output_is tokens =
    then_holds (output_of tokens) _ _ (Written (keyword word.Event ∷ keyword word.Output ∷ tokens)) (output_of_is tokens) (λ event is.
    record { tail = is.tail; spelled = ap (λ all. keyword word.Event ∷ keyword word.Output ∷ all) is.spelled; tail_is = is.tail_is; counts = is.counts })

event_is : (tokens : List Token) → IfSome (event_form tokens) (Written (keyword word.Event ∷ tokens))
event_is (token.Keyword word.Input ∷ rest) = event_input_is rest
event_is (token.Keyword word.Output ∷ rest) = event_output_is rest
event_is _ = tt

max_is : (tokens : List Token) → IfSome (max_form tokens) (Written (keyword word.Max ∷ tokens))
unfolding max_form
max_is tokens =
    then_holds (read_expression tokens) _ _ (Written (keyword word.Max ∷ tokens)) (expression_is tokens) (λ value is.
    record { tail = tokens; spelled = refl; tail_is = is; counts = tt })

if_is : (tokens : List Token) → IfSome (if_form tokens) (Written (keyword word.If ∷ tokens))
unfolding if_form
if_is tokens =
    then_holds (read_expression tokens) _ _ (Written (keyword word.If ∷ tokens)) (expression_is tokens) (λ value is.
    record { tail = tokens; spelled = refl; tail_is = is; counts = tt })

accept_is : (tokens : List Token) → IfSome (accept_form tokens) (Written (keyword word.Accept ∷ tokens))
unfolding accept_form
accept_is tokens =
    then_holds (read_expression tokens) _ _ (Written (keyword word.Accept ∷ tokens)) (expression_is tokens) (λ value is.
    record { tail = tokens; spelled = refl; tail_is = is; counts = tt })

repeat_is : (tokens : List Token) → IfSome (repeat_form tokens) (Written (keyword word.Repeat ∷ tokens))
unfolding repeat_form
repeat_is tokens =
    then_holds (count_at 1 1000 tokens) _ _ (Written (keyword word.Repeat ∷ tokens)) (count_at_is 1 1000 tokens) (λ count is.
    last_is (form.Repeat count.0) count.1 _ refl (ap (λ all. keyword word.Repeat ∷ all) is.0) (is.1, is.2))

instance_is : (tokens : List Token) → IfSome (instance_form tokens) (Written (keyword word.Instance ∷ tokens))
unfolding instance_form
instance_is tokens =
    then_holds (name_at tokens) _ _ (Written (keyword word.Instance ∷ tokens)) (name_at_is tokens) (λ name named.
    then_holds (after_symbol sign.Colon name.1) _ _ (Written (keyword word.Instance ∷ tokens)) (after_symbol_is sign.Colon name.1) (λ behind colon.
    then_holds (name_at behind) _ _ (Written (keyword word.Instance ∷ tokens)) (name_at_is behind) (λ unit is.
    last_is (form.Instance name.0 unit.0) unit.1 _ refl (
    ap (λ all. keyword word.Instance ∷ token.Name name.0 ∷ symbol sign.Colon ∷ all) is
    ∙ ap (λ all. keyword word.Instance ∷ token.Name name.0 ∷ all) colon
    ∙ ap (λ all. keyword word.Instance ∷ all) named) tt)))

connect_is : (tokens : List Token) → IfSome (connect_form tokens) (Written (keyword word.Connect ∷ tokens))
unfolding connect_form
connect_is tokens =
    then_holds (port_at tokens) _ _ (Written (keyword word.Connect ∷ tokens)) (port_at_is tokens) (λ from from_is.
    then_holds (after_symbol sign.Arrow from.1) _ _ (Written (keyword word.Connect ∷ tokens)) (after_symbol_is sign.Arrow from.1) (λ behind arrow.
    then_holds (port_at behind) _ _ (Written (keyword word.Connect ∷ tokens)) (port_at_is behind) (λ to to_is.
    last_is (form.Connect (record { from = from.0; to = to.0 })) to.1 _ refl (
    ap (λ all. keyword word.Connect ∷ port_tokens from.0 ++ (symbol sign.Arrow ∷ all)) to_is
    ∙ ap (λ all. keyword word.Connect ∷ port_tokens from.0 ++ all) arrow
    ∙ ap (λ all. keyword word.Connect ∷ all) from_is) tt)))

stop_is : (tokens : List Token) → IfSome (stop_form tokens) (Written (keyword word.Stop ∷ tokens))
unfolding stop_form
stop_is tokens =
    then_holds (seconds_of tokens) _ _ (Written (keyword word.Stop ∷ tokens)) (seconds_of_is tokens) (λ seconds is.
    record { tail = tokens; spelled = refl; tail_is = is; counts = tt })

longest_is : (tokens : List Token) → IfSome (longest_form tokens) (Written (keyword word.Longest ∷ tokens))
unfolding longest_form
longest_is tokens =
    then_holds (seconds_of tokens) _ _ (Written (keyword word.Longest ∷ tokens)) (seconds_of_is tokens) (λ seconds is.
    record { tail = tokens; spelled = refl; tail_is = is; counts = tt })

zero_is : (tokens : List Token) → IfSome (zero_form tokens) (Written (keyword word.Zero ∷ tokens))
unfolding zero_form
zero_is tokens =
    then_holds (count_at 0 10000 tokens) _ _ (Written (keyword word.Zero ∷ tokens)) (count_at_is 0 10000 tokens) (λ count is.
    last_is (form.Zero count.0) count.1 _ refl (ap (λ all. keyword word.Zero ∷ all) is.0) is.2)

rows_is : (tokens : List Token) → IfSome (rows_form tokens) (Written (keyword word.Rows ∷ tokens))
unfolding rows_form
rows_is tokens =
    then_holds (count_at 1 100000 tokens) _ _ (Written (keyword word.Rows ∷ tokens)) (count_at_is 1 100000 tokens) (λ count is.
    last_is (form.Rows count.0) count.1 _ refl (ap (λ all. keyword word.Rows ∷ all) is.0) (is.1, is.2))

sample_is : (tokens : List Token) → IfSome (sample_form tokens) (Written (keyword word.Sample ∷ tokens))
unfolding sample_form
sample_is tokens =
    then_holds (port_at tokens) _ _ (Written (keyword word.Sample ∷ tokens)) (port_at_is tokens) (λ port is.
    last_is (form.Sample port.0) port.1 _ refl (ap (λ all. keyword word.Sample ∷ all) is) tt)

keyword_is : (first : Keyword) (rest : List Token) → IfSome (keyword_form first rest) (Written (keyword first ∷ rest))
keyword_is word.Cosim rest = header_is rest
keyword_is word.Unit rest = unit_is rest
keyword_is word.Resolution rest = resolution_is rest
keyword_is word.Param rest = param_is rest
keyword_is word.State rest = state_is rest
keyword_is word.Local rest = local_is rest
keyword_is word.Input rest = input_is rest
keyword_is word.Output rest = output_is rest
keyword_is word.Event rest = event_is rest
keyword_is word.Max rest = max_is rest
keyword_is word.Step rest = last_is form.Step rest _ refl refl tt
keyword_is word.End rest = last_is form.End rest _ refl refl tt
keyword_is word.If rest = if_is rest
keyword_is word.Else rest = last_is form.Else rest _ refl refl tt
keyword_is word.Repeat rest = repeat_is rest
keyword_is word.Accept rest = accept_is rest
keyword_is word.Instance rest = instance_is rest
keyword_is word.Connect rest = connect_is rest
keyword_is word.Stop rest = stop_is rest
keyword_is word.Longest rest = longest_is rest
keyword_is word.Zero rest = zero_is rest
keyword_is word.Rows rest = rows_is rest
keyword_is word.Sample rest = sample_is rest
keyword_is _ rest = tt

-- ---- Lines that begin with a name

assign_is : (target : List ℕ) (tokens : List Token) → IfSome (assign_form target tokens) (Written (token.Name target ∷ symbol sign.Assign ∷ tokens))
unfolding assign_form
assign_is target tokens =
    then_holds (read_expression tokens) _ _ (Written (token.Name target ∷ symbol sign.Assign ∷ tokens)) (expression_is tokens) (λ value is.
    record { tail = tokens; spelled = refl; tail_is = is; counts = tt })

setting_is : (name : List ℕ) (tokens : List Token) → IfSome (setting_form name tokens) (Written (token.Name name ∷ symbol sign.Is ∷ tokens))
unfolding setting_form
setting_is name tokens =
    then_holds (literal_of tokens) _ _ (Written (token.Name name ∷ symbol sign.Is ∷ tokens)) (literal_of_is tokens) (λ value is.
    record { tail = tokens; spelled = refl; tail_is = is; counts = tt })

name_is : (name : List ℕ) (rest : List Token) → IfSome (name_form name rest) (Written (token.Name name ∷ rest))
name_is name (token.Symbol sign.Assign ∷ rest) = assign_is name rest
name_is name (token.Symbol sign.Is ∷ rest) = setting_is name rest
name_is name _ = tt

-- ---- Lines

-- What is read from the tokens is what they write.
pub form_is : (tokens : List Token) → IfSome (read_form tokens) (Written tokens)
unfolding read_form
form_is (token.Keyword first ∷ rest) = keyword_is first rest
form_is (token.Name name ∷ rest) = name_is name rest
form_is _ = tt

pub written_form : (some : LineForm) (tokens : List Token) → read_form tokens ≡ Some some → WritesForm some tokens
written_form some tokens same = subst (λ found. IfSome found (Written tokens)) same (form_is tokens)
