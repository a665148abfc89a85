-- Reading of a line from its tokens: what its result states, and how it is read.
use Rattle.std.specs.Prelude.{ℕ, ◌^◌, pos, Bool, true, false, ◌&&◌, ◌==◌, nat_le, nat_lt, List, [], ◌∷◌, ◌++◌, codes, Option, Some, None, if◌then◌else◌}
use Rattle.std.specs.Str.{bytes_eq}
use Rattle.model_rules.specs.Limits.{rows_limit, turn_limit, zero_limit}
use Rattle.fixed_words.specs.Literals.{with_sign}
use Rattle.fixed_words.specs.Types.{is_word_of}
use Rattle.fixed_words.specs.declared.types.Literal.{Literal}
use Rattle.fixed_words.specs.declared.types.Literal.TheVariants as literal
use Rattle.fixed_words.specs.declared.types.Ty.{Ty}
use Rattle.fixed_words.specs.declared.types.Ty.TheVariants as types
use Rattle.unit_tree.specs.LineForms.{WritesForm, HasForm}
use Rattle.unit_tree.specs.declared.line_form.LineForm.{LineForm}
use Rattle.unit_tree.specs.declared.line_form.LineForm.TheVariants as form
use Rattle.unit_tree.specs.declared.system.PortName.{PortName}
use Rattle.unit_tree.specs.declared.token.Keyword.{Keyword}
use Rattle.unit_tree.specs.declared.token.Keyword.TheVariants as word
use Rattle.unit_tree.specs.declared.token.Symbol.TheVariants as sign
use Rattle.unit_tree.specs.declared.token.Token.{Token}
use Rattle.unit_tree.specs.declared.token.Token.TheVariants as token
use Rattle.unit_tree.specs.declared.unit.Local.{Local}
use Rattle.unit_tree.specs.declared.unit.Output.{Output}
use Rattle.unit_tree.specs.declared.unit.Param.{Param}
use Rattle.text_lines.specs.Expressions.{◌>>=◌, after_symbol, name_at, decimals_at, read_expression}

-- The tokens write the form; `None` states that they write none.
abbrev pub FormIs : List Token → Option LineForm → Type 0
FormIs tokens (Some some) = WritesForm some tokens
FormIs tokens None = (some : LineForm) → WritesForm some tokens → ⊥

-- The line has the form; `None` states that it has none.
abbrev pub LineHas : List ℕ → Option LineForm → Type 0
LineHas line (Some some) = HasForm some line
LineHas line None = (some : LineForm) → HasForm some line → ⊥

-- ---- Parts of a line: what the first tokens are read as, with the tokens after them

-- A whole number within a range.
abbrev pub count_at : ℕ → ℕ → List Token → Option (ℕ × List Token)
count_at low high [] = None
count_at low high (token.Number digits decimals ∷ rest) =
    if (decimals == 0) && (nat_le low digits && nat_le digits high) then Some (digits, rest) else None
count_at low high (_ ∷ rest) = None

-- The unsigned integer type with the name.
abbrev pub unsigned_type : List ℕ → Option Ty
unsigned_type name =
    if bytes_eq name (codes "UInt8") then Some types.UInt8 else (
    if bytes_eq name (codes "UInt16") then Some types.UInt16 else (
    if bytes_eq name (codes "UInt32") then Some types.UInt32 else None))

-- The type with the name, where it has no decimals.
abbrev pub plain_type : List ℕ → Option Ty
plain_type name =
    if bytes_eq name (codes "Int8") then Some types.Int8 else (
    if bytes_eq name (codes "Int16") then Some types.Int16 else (
    if bytes_eq name (codes "Int32") then Some types.Int32 else (
    if bytes_eq name (codes "Int64") then Some types.Int64 else (
    if bytes_eq name (codes "Bool") then Some types.Bool else unsigned_type name))))

-- The type with the name, with the decimals after it if it has them.
unfoldable pub named_type : List ℕ → List Token → Option (Ty × List Token)
named_type name rest =
    if bytes_eq name (codes "Fixed") then (decimals_at rest >>= λ decimals. Some (types.Fixed decimals.0, decimals.1)) else
    (plain_type name >>= λ ty. Some (ty, rest))

-- A type.
unfoldable pub type_at : List Token → Option (Ty × List Token)
type_at tokens = do
  name ← name_at tokens
  named_type name.0 name.1

-- `p : T`
unfoldable pub declaration_at : List Token → Option (Local × List Token)
declaration_at tokens = do
  name ← name_at tokens
  behind ← after_symbol sign.Colon name.1
  ty ← type_at behind
  Some (record { name = name.0; ty = ty.0 }, ty.1)

-- `a.y`
unfoldable pub port_at : List Token → Option (PortName × List Token)
port_at tokens = do
  instance ← name_at tokens
  behind ← after_symbol sign.Point instance.1
  port ← name_at behind
  Some (record { instance = instance.0; port = port.0 }, port.1)

-- The names and those that follow them, each after a comma.
abbrev pub more_names : List (List ℕ) → List Token → Option (List (List ℕ) × List Token)
more_names names (token.Symbol sign.Comma ∷ token.Name name ∷ rest) = more_names (names ++ (name ∷ [])) rest
more_names names (token.Symbol sign.Comma ∷ rest) = None
more_names names rest = Some (names, rest)

-- `needs u, v`, or nothing. The first name is read like one after a comma.
abbrev pub needs_at : List Token → Option (List (List ℕ) × List Token)
needs_at (token.Keyword word.Needs ∷ rest) = more_names [] (token.Symbol sign.Comma ∷ rest)
needs_at rest = Some ([], rest)

-- ---- Ends of a line: what all of the tokens are read as

-- The literal of a number with or without a sign, where its word fits 64 bits.
abbrev pub number_literal : Bool → ℕ → ℕ → Option Literal
number_literal negative digits decimals =
    if is_word_of types.Int64 (with_sign negative digits) then Some (literal.Number (with_sign negative digits) decimals) else None

-- A literal.
abbrev pub literal_of : List Token → Option Literal
literal_of (token.Keyword word.True ∷ []) = Some (literal.Truth true)
literal_of (token.Keyword word.False ∷ []) = Some (literal.Truth false)
literal_of (token.Number digits decimals ∷ []) = number_literal false digits decimals
literal_of (token.Symbol sign.Minus ∷ token.Number digits decimals ∷ []) = number_literal true digits decimals
literal_of _ = None

-- A number of seconds, which has no sign.
abbrev pub seconds_of : List Token → Option Literal
seconds_of (token.Number digits decimals ∷ []) = if nat_lt digits (2 ^ 63) then Some (literal.Number (pos digits) decimals) else None
seconds_of _ = None

-- The form, if no token is left.
abbrev pub last : LineForm → List Token → Option LineForm
last whole [] = Some whole
last whole (first ∷ rest) = None

-- `p : T = L`
unfoldable pub started_of : List Token → Option Param
started_of tokens = do
  declared ← declaration_at tokens
  behind ← after_symbol sign.Is declared.1
  start ← literal_of behind
  Some (record { name = declared.0.name; ty = declared.0.ty; start = start })

-- `y : T = e`, or `y : T needs u, v = e`
unfoldable pub output_of : List Token → Option Output
output_of tokens = do
  declared ← declaration_at tokens
  needed ← needs_at declared.1
  behind ← after_symbol sign.Is needed.1
  value ← read_expression behind
  Some (record { name = declared.0.name; ty = declared.0.ty; needs = needed.0; value = value })

-- ---- Lines, after their first token

unfoldable pub header_form : List Token → Option LineForm
header_form tokens = do
  version ← count_at 1 2 tokens
  last (form.Header version.0) version.1

unfoldable pub unit_form : List Token → Option LineForm
unit_form tokens = do
  name ← name_at tokens
  last (form.Unit name.0) name.1

unfoldable pub resolution_form : List Token → Option LineForm
resolution_form tokens = do
  decimals ← decimals_at tokens
  last (form.Resolution decimals.0) decimals.1

unfoldable pub param_form : List Token → Option LineForm
param_form tokens = do
  param ← started_of tokens
  Some (form.Param param)

unfoldable pub state_form : List Token → Option LineForm
state_form tokens = do
  state ← started_of tokens
  Some (form.State (record { name = state.name; ty = state.ty; start = state.start }))

unfoldable pub local_form : List Token → Option LineForm
local_form tokens = do
  local ← declaration_at tokens
  last (form.Local local.0) local.1

unfoldable pub input_form : List Token → Option LineForm
input_form tokens = do
  input ← started_of tokens
  Some (form.Input (record { name = input.name; ty = input.ty; start = input.start }))

unfoldable pub event_input_form : List Token → Option LineForm
event_input_form tokens = do
  event ← declaration_at tokens
  last (form.EventInput (record { name = event.0.name; ty = event.0.ty })) event.1

unfoldable pub output_form : List Token → Option LineForm
output_form tokens = do
  output ← output_of tokens
  Some (form.Output output)

unfoldable pub event_output_form : List Token → Option LineForm
event_output_form tokens = do
  event ← output_of tokens
  Some (form.EventOutput (record { name = event.name; ty = event.ty; needs = event.needs; value = event.value }))

-- A line of an event port, after `event`.
abbrev pub event_form : List Token → Option LineForm
event_form (token.Keyword word.Input ∷ rest) = event_input_form rest
event_form (token.Keyword word.Output ∷ rest) = event_output_form rest
event_form _ = None

unfoldable pub max_form : List Token → Option LineForm
max_form tokens = do
  value ← read_expression tokens
  Some (form.Max value)

unfoldable pub if_form : List Token → Option LineForm
if_form tokens = do
  condition ← read_expression tokens
  Some (form.If condition)

unfoldable pub accept_form : List Token → Option LineForm
accept_form tokens = do
  value ← read_expression tokens
  Some (form.Accept value)

unfoldable pub repeat_form : List Token → Option LineForm
repeat_form tokens = do
  count ← count_at 1 turn_limit tokens
  last (form.Repeat count.0) count.1

unfoldable pub instance_form : List Token → Option LineForm
instance_form tokens = do
  name ← name_at tokens
  behind ← after_symbol sign.Colon name.1
  unit ← name_at behind
  last (form.Instance name.0 unit.0) unit.1

unfoldable pub connect_form : List Token → Option LineForm
connect_form tokens = do
  from ← port_at tokens
  behind ← after_symbol sign.Arrow from.1
  to ← port_at behind
  last (form.Connect (record { from = from.0; to = to.0 })) to.1

unfoldable pub stop_form : List Token → Option LineForm
stop_form tokens = do
  seconds ← seconds_of tokens
  Some (form.Stop seconds)

unfoldable pub longest_form : List Token → Option LineForm
longest_form tokens = do
  seconds ← seconds_of tokens
  Some (form.Longest seconds)

unfoldable pub zero_form : List Token → Option LineForm
zero_form tokens = do
  count ← count_at 0 zero_limit tokens
  last (form.Zero count.0) count.1

unfoldable pub rows_form : List Token → Option LineForm
rows_form tokens = do
  count ← count_at 1 rows_limit tokens
  last (form.Rows count.0) count.1

unfoldable pub sample_form : List Token → Option LineForm
sample_form tokens = do
  port ← port_at tokens
  last (form.Sample port.0) port.1

unfoldable pub assign_form : List ℕ → List Token → Option LineForm
assign_form target tokens = do
  value ← read_expression tokens
  Some (form.Assign target value)

unfoldable pub setting_form : List ℕ → List Token → Option LineForm
setting_form name tokens = do
  value ← literal_of tokens
  Some (form.Setting (record { name = name; value = value }))

-- ---- Lines

-- A line that begins with the keyword, from the tokens after it.
abbrev pub keyword_form : Keyword → List Token → Option LineForm
keyword_form word.Cosim rest = header_form rest
keyword_form word.Unit rest = unit_form rest
keyword_form word.Resolution rest = resolution_form rest
keyword_form word.Param rest = param_form rest
keyword_form word.State rest = state_form rest
keyword_form word.Local rest = local_form rest
keyword_form word.Input rest = input_form rest
keyword_form word.Output rest = output_form rest
keyword_form word.Event rest = event_form rest
keyword_form word.Max rest = max_form rest
keyword_form word.Step rest = last form.Step rest
keyword_form word.End rest = last form.End rest
keyword_form word.If rest = if_form rest
keyword_form word.Else rest = last form.Else rest
keyword_form word.Repeat rest = repeat_form rest
keyword_form word.Accept rest = accept_form rest
keyword_form word.Instance rest = instance_form rest
keyword_form word.Connect rest = connect_form rest
keyword_form word.Stop rest = stop_form rest
keyword_form word.Longest rest = longest_form rest
keyword_form word.Zero rest = zero_form rest
keyword_form word.Rows rest = rows_form rest
keyword_form word.Sample rest = sample_form rest
keyword_form _ rest = None

-- A line that begins with the name, from the tokens after it: an assignment or a setting.
abbrev pub name_form : List ℕ → List Token → Option LineForm
name_form name (token.Symbol sign.Assign ∷ rest) = assign_form name rest
name_form name (token.Symbol sign.Is ∷ rest) = setting_form name rest
name_form name _ = None

-- The form that the tokens write, or `None`.
unfoldable pub read_form : List Token → Option LineForm
read_form (token.Keyword keyword ∷ rest) = keyword_form keyword rest
read_form (token.Name name ∷ rest) = name_form name rest
read_form _ = None
