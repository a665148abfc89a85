-- A text that grows at its end is the text that is joined from the last piece on.
use Rattle.std.proofs.Common.{◌≡◌, ℕ, ◌-◌, Bool, true, false, List, [], ◌∷◌, ◌++◌, length, Option, Some, None, refl, sym, ap, ◌∙◌, append_assoc, arith, suc}
use Rattle.std.proofs.Common.{zero, ◌<◌, ◌^◌, ◌+◌, take, drop, replicate, decimal, if◌then◌else◌}
use Rattle.std.specs.Prelude.{IsTrue, IsFalse, slice_get, map, ◌&&◌}
use Rattle.std.specs.List.{last_or, flat_map, list_all}
use Rattle.std.proofs.lemmas.List.{append-nil, length-append, length-replicate}
use Rattle.std.proofs.lemmas.Bool.{or_right}
use Rattle.fixed_words.specs.Digits.{pointed}
use Rattle.fixed_words.specs.Texts.{fixed_text, padded}
use Rattle.fixed_words.proofs.Numbers.{decimal_is, zeros_before}
use Rattle.unit_tree.specs.Canonical.{spaced, ends_in_word, token_text, tokens_text, form_tokens, line_text, optional, unit_parts, canonical_parts}
use Rattle.unit_tree.specs.Canonical.{canonical_forms, canonical_text}
use Rattle.unit_tree.specs.LineForms.{names_tokens}
use Rattle.unit_tree.specs.Parts as parts
use Rattle.unit_tree.specs.Parts.{Part, UnitPart, part_forms, unit_part_forms, joined, line_forms}
use Rattle.unit_tree.specs.Phrases.{binary_tokens, call_of_two, operation, symbol}
use Rattle.unit_tree.specs.Tokens.{is_word_byte, is_letter, is_digit, begins_with}
use Rattle.unit_tree.specs.declared.expr.BinOp.{BinOp}
use Rattle.unit_tree.specs.declared.expr.BinOp.TheVariants as by
use Rattle.unit_tree.specs.declared.line.Line.{Line}
use Rattle.unit_tree.specs.declared.line_form.LineForm.{LineForm}
use Rattle.unit_tree.specs.declared.line_form.LineForm.TheVariants as form
use Rattle.unit_tree.specs.declared.system.Setting.{Setting}
use Rattle.unit_tree.specs.declared.system.System.{System}
use Rattle.unit_tree.specs.declared.unit.Unit.{Unit}
use Rattle.unit_tree.specs.declared.token.Symbol.TheVariants as sign
use Rattle.unit_tree.specs.declared.token.Token.{Token}
use Rattle.unit_tree.specs.declared.token.Token.TheVariants as token
use Rattle.unit_print.specs.Growing.{with_token, with_tokens, with_lines, with_unit_parts, with_parts, with_step_lines, with_settings, others_tokens}
use Rattle.unit_print.specs.Calls.{is_call}
use Rattle.list_laws.proofs.Truths.{and_first}

-- ---- The last byte

last_is : (x : ℕ) (xs : List ℕ) → slice_get (x ∷ xs) (length xs) ≡ last_or (Some x) xs
last_is x [] = refl
last_is x (y ∷ ys) = last_is y ys

pub ends_by_last : (text : List ℕ) (last : ℕ) → slice_get text (length text - 1) ≡ Some last → ends_in_word text ≡ is_word_byte last
ends_by_last [] last is = absurd cc
ends_by_last (x ∷ xs) last is =
    let place : length (x ∷ xs) - 1 ≡ length xs = omega arith in
    rw (sym (last_is x xs) ∙ (ap (slice_get (x ∷ xs)) (sym place) ∙ is)) refl

-- ---- Numbers

begins_in_word : (place : ℕ) (digits rest : List ℕ) → 0 < place → 0 < length digits → IsTrue (list_all is_digit digits)
    → begins_with is_word_byte (take place digits ++ rest) ≡ true
begins_in_word zero digits rest far long all = absurd (omega arith)
begins_in_word (suc place) [] rest far long all = absurd (omega arith)
begins_in_word (suc place) (digit ∷ digits) rest far long all =
    or_right (is_letter digit) (is_digit digit) (and_first (is_digit digit) (list_all is_digit digits) all)

number_begins : (decimals all : ℕ) → all < 2 ^ 64 → begins_with is_word_byte (fixed_text decimals all) ≡ true
number_begins decimals all fits =
    let digits = padded decimals (decimal all) in
    let longer : decimals < length digits =
    omega (
      arith,
      length-append (replicate (decimals + 1 - length (decimal all)) 48) (decimal all),
      length-replicate {A = ℕ} (decimals + 1 - length (decimal all)) 48,
    ) in
    let far : 0 < length digits - decimals = omega arith in
    let some : 0 < length digits = omega arith in
    begins_in_word (length digits - decimals) digits (pointed (drop (length digits - decimals) digits)) far some
    ((zeros_before (decimals + 1 - length (decimal all)) all (decimal all) (decimal_is all fits)).0)

where_it_begins : (ends begins : Bool) (text others : List ℕ) → begins ≡ true
    → (if ends && begins then text ++ (32 ∷ others) else text ++ others) ≡ (if ends then text ++ (32 ∷ []) else text) ++ others
where_it_begins true begins text others is = rw is (sym (append_assoc text (32 ∷ []) others))
where_it_begins false begins text others is = refl

pub number_behind : (text : List ℕ) (decimals all : ℕ) → all < 2 ^ 64
    → spaced text (fixed_text decimals all) ≡ (if ends_in_word text then text ++ (32 ∷ []) else text) ++ fixed_text decimals all
number_behind text decimals all fits =
    where_it_begins (ends_in_word text) (begins_with is_word_byte (fixed_text decimals all)) text (fixed_text decimals all) (number_begins decimals all fits)

-- ---- Growing by lists

pub tokens_append : (text : List ℕ) (first others : List Token) → with_tokens text (first ++ others) ≡ with_tokens (with_tokens text first) others
tokens_append text [] others = refl
tokens_append text (token ∷ first) others = tokens_append (with_token text token) first others

pub lines_append : (text : List ℕ) (first others : List LineForm) → with_lines text (first ++ others) ≡ with_lines (with_lines text first) others
lines_append text [] others = refl
lines_append text (line ∷ first) others = lines_append (with_tokens text (form_tokens line) ++ (10 ∷ [])) first others

pub unit_parts_append : (text : List ℕ) (first others : List UnitPart)
    → with_unit_parts text (first ++ others) ≡ with_unit_parts (with_unit_parts text first) others
unit_parts_append text [] others = refl
unit_parts_append text (part ∷ first) others = unit_parts_append (with_lines text (unit_part_forms part)) first others

pub parts_append : (text : List ℕ) (first others : List Part) → with_parts text (first ++ others) ≡ with_parts (with_parts text first) others
parts_append text [] others = refl
parts_append text (part ∷ first) others = parts_append (with_lines text (part_forms part)) first others

pub unit_parts_are : (text : List ℕ) (parts : List UnitPart) → with_lines text (flat_map unit_part_forms parts) ≡ with_unit_parts text parts
unit_parts_are text [] = refl
unit_parts_are text (part ∷ parts) = lines_append text (unit_part_forms part) (flat_map unit_part_forms parts)
    ∙ unit_parts_are (with_lines text (unit_part_forms part)) parts

pub parts_are : (text : List ℕ) (parts : List Part) → with_lines text (flat_map part_forms parts) ≡ with_parts text parts
parts_are text [] = refl
parts_are text (part ∷ parts) = lines_append text (part_forms part) (flat_map part_forms parts) ∙ parts_are (with_lines text (part_forms part)) parts

-- ---- Operations

pub infix_tokens : (op : BinOp) (left right : List Token) → IsFalse (is_call op) → binary_tokens op left right ≡ left ++ (operation op ∷ right)
infix_tokens by.Min left right is = absurd cc
infix_tokens by.Max left right is = absurd cc
infix_tokens by.Add left right is = refl
infix_tokens by.Sub left right is = refl
infix_tokens by.Mul left right is = refl
infix_tokens by.Slash left right is = refl
infix_tokens by.Div left right is = refl
infix_tokens by.Mod left right is = refl
infix_tokens by.Eq left right is = refl
infix_tokens by.Ne left right is = refl
infix_tokens by.Lt left right is = refl
infix_tokens by.Le left right is = refl
infix_tokens by.Gt left right is = refl
infix_tokens by.Ge left right is = refl
infix_tokens by.And left right is = refl
infix_tokens by.Or left right is = refl

pub call_tokens : (op : BinOp) (left right : List Token) → IsTrue (is_call op) → binary_tokens op left right ≡ call_of_two (operation op) left right
call_tokens by.Min left right is = refl
call_tokens by.Max left right is = refl
call_tokens by.Add left right is = absurd cc
call_tokens by.Sub left right is = absurd cc
call_tokens by.Mul left right is = absurd cc
call_tokens by.Slash left right is = absurd cc
call_tokens by.Div left right is = absurd cc
call_tokens by.Mod left right is = absurd cc
call_tokens by.Eq left right is = absurd cc
call_tokens by.Ne left right is = absurd cc
call_tokens by.Lt left right is = absurd cc
call_tokens by.Le left right is = absurd cc
call_tokens by.Gt left right is = absurd cc
call_tokens by.Ge left right is = absurd cc
call_tokens by.And left right is = absurd cc
call_tokens by.Or left right is = absurd cc

-- ---- Names and lines

pub names_are : (first : List ℕ) (others : List (List ℕ)) → names_tokens (first ∷ others) ≡ token.Name first ∷ others_tokens others
names_are first [] = refl
names_are first (next ∷ others) = ap (λ tokens. token.Name first ∷ symbol sign.Comma ∷ tokens) (names_are next others)

pub step_lines_are : (text : List ℕ) (lines : List Line) → with_lines text (flat_map line_forms lines) ≡ with_step_lines text lines
step_lines_are text [] = refl
step_lines_are text (line ∷ lines) = lines_append text (line_forms line) (flat_map line_forms lines) ∙ step_lines_are (with_lines text (line_forms line)) lines

pub joined_are : (text : List ℕ) (lines : List Line) → with_lines text (joined (map line_forms lines)) ≡ with_step_lines text lines
joined_are text [] = refl
joined_are text (line ∷ lines) = lines_append text (line_forms line) (joined (map line_forms lines)) ∙ joined_are (with_lines text (line_forms line)) lines

pub settings_are : (text : List ℕ) (settings : List Setting) → with_lines text (map form.Setting settings) ≡ with_settings text settings
settings_are text [] = refl
settings_are text (setting ∷ settings) = settings_are (with_lines text (form.Setting setting ∷ [])) settings

-- ---- Blocks

-- A block: its head, the lines in it, and its end.
pub block_is : (text : List ℕ) (head : LineForm) (body : List LineForm)
    → with_lines text (head ∷ body ++ (form.End ∷ [])) ≡ with_lines (with_lines (with_lines text (head ∷ [])) body) (form.End ∷ [])
block_is text head body = lines_append (with_lines text (head ∷ [])) body (form.End ∷ [])

pub unit_is : (text : List ℕ) (unit : Unit) → with_unit_parts text (unit_parts unit)
    ≡ with_unit_parts
    (with_unit_parts
    (with_unit_parts (with_unit_parts (with_unit_parts (with_unit_parts (with_unit_parts (with_unit_parts (with_unit_parts (with_unit_parts text
    (optional parts.Resolution unit.resolution)) (map parts.HasParam unit.params)) (map parts.HasState unit.states)) (map parts.HasLocal unit.locals))
    (map parts.HasInput unit.inputs)) (map parts.HasEventIn unit.events_in)) (map parts.HasOutput unit.outputs)) (map parts.HasEventOut unit.events_out))
    (optional parts.Max unit.max)) (optional parts.Step unit.step)
unit_is text unit = simp unit_parts_append refl

-- ---- The whole text

nothing_behind : (text : List ℕ) → spaced text [] ≡ text
nothing_behind text = pick (ends_in_word text) text
  where
    pick : (ends : Bool) (text : List ℕ) → (if ends && false then text ++ (32 ∷ []) else text ++ []) ≡ text
    pick true text = append-nil text
    pick false text = append-nil text

last_behind : (before : Option ℕ) (text : List ℕ) (byte : ℕ) (bytes : List ℕ) → last_or before (text ++ (byte ∷ bytes)) ≡ last_or None (byte ∷ bytes)
last_behind before [] byte bytes = refl
last_behind before (x ∷ xs) byte bytes = last_behind (Some x) xs byte bytes

ends_behind : (text : List ℕ) (byte : ℕ) (bytes : List ℕ) → ends_in_word (text ++ (byte ∷ bytes)) ≡ ends_in_word (byte ∷ bytes)
ends_behind text byte bytes = rw (last_behind None text byte bytes) refl

-- Joining is associative.
choice_front : (both : Bool) (front one other : List ℕ) → (if both then front ++ one else front ++ other) ≡ front ++ (if both then one else other)
choice_front true front one other = refl
choice_front false front one other = refl

begins_on : (byte : ℕ) (bytes others : List ℕ) → begins_with is_word_byte (spaced (byte ∷ bytes) others) ≡ is_word_byte byte
begins_on byte bytes others = pick (ends_in_word (byte ∷ bytes) && begins_with is_word_byte others)
  where
    pick : (both : Bool) → begins_with is_word_byte (if both then (byte ∷ bytes) ++ (32 ∷ others) else (byte ∷ bytes) ++ others) ≡ is_word_byte byte
    pick true = refl
    pick false = refl

pub spaced_front : (front : List ℕ) (byte : ℕ) (bytes others : List ℕ) → spaced (front ++ (byte ∷ bytes)) others ≡ front ++ spaced (byte ∷ bytes) others
spaced_front front byte bytes others =
    rw (ends_behind front byte bytes, append_assoc front (byte ∷ bytes) (32 ∷ others), append_assoc front (byte ∷ bytes) others)
    (choice_front (ends_in_word (byte ∷ bytes) && begins_with is_word_byte others) front ((byte ∷ bytes) ++ (32 ∷ others)) ((byte ∷ bytes) ++ others))

pub spaced_assoc : (text middle others : List ℕ) → spaced (spaced text middle) others ≡ spaced text (spaced middle others)
spaced_assoc text [] others = ap (λ front. spaced front others) (nothing_behind text)
spaced_assoc text (byte ∷ bytes) others =
    pick (ends_in_word text && is_word_byte byte) refl
  where
    whole : (both : Bool) → both ≡ (ends_in_word text && is_word_byte byte)
        → spaced text (spaced (byte ∷ bytes) others) ≡ (if both then text ++ (32 ∷ spaced (byte ∷ bytes) others) else text ++ spaced (byte ∷ bytes) others)
    whole both is = rw (begins_on byte bytes others, sym is) refl

    pick : (both : Bool) → both ≡ (ends_in_word text && is_word_byte byte)
        → spaced (spaced text (byte ∷ bytes)) others ≡ spaced text (spaced (byte ∷ bytes) others)
    pick true is =
        let left : spaced text (byte ∷ bytes) ≡ (text ++ (32 ∷ [])) ++ (byte ∷ bytes) = rw (sym is) (sym (append_assoc text (32 ∷ []) (byte ∷ bytes))) in
        ap (λ front. spaced front others) left ∙ spaced_front (text ++ (32 ∷ [])) byte bytes others
        ∙ append_assoc text (32 ∷ []) (spaced (byte ∷ bytes) others) ∙ sym (whole true is)
    pick false is =
        let left : spaced text (byte ∷ bytes) ≡ text ++ (byte ∷ bytes) = rw (sym is) refl in
        ap (λ front. spaced front others) left ∙ spaced_front text byte bytes others ∙ sym (whole false is)

tokens_are : (text : List ℕ) (tokens : List Token) → with_tokens text tokens ≡ spaced text (tokens_text tokens)
unfolding with_token
tokens_are text [] = sym (nothing_behind text)
tokens_are text (token ∷ tokens) = tokens_are (spaced text (token_text token)) tokens ∙ spaced_assoc text (token_text token) (tokens_text tokens)

starts : (text others : List ℕ) → ends_in_word text ≡ false → spaced text others ≡ text ++ others
starts text others is = rw is refl

lines_are : (text : List ℕ) (lines : List LineForm) → ends_in_word text ≡ false
    → with_lines text lines ≡ text ++ flat_map (λ some. line_text some ++ (10 ∷ [])) lines
lines_are text [] is = sym (append-nil text)
lines_are text (line ∷ lines) is =
    let first : with_tokens text (form_tokens line) ++ (10 ∷ []) ≡ (text ++ line_text line) ++ (10 ∷ []) =
    ap (λ front. front ++ (10 ∷ [])) (tokens_are text (form_tokens line) ∙ starts text (line_text line) is) in
    ap (λ front. with_lines front lines) first
    ∙ lines_are ((text ++ line_text line) ++ (10 ∷ [])) lines (ends_behind (text ++ line_text line) 10 [])
    ∙ ap (λ front. front ++ flat_map (λ some. line_text some ++ (10 ∷ [])) lines) (append_assoc text (line_text line) (10 ∷ []))
    ∙ append_assoc text (line_text line ++ (10 ∷ [])) (flat_map (λ some. line_text some ++ (10 ∷ [])) lines)

pub system_is : (old : List ℕ) (system : System) → old ≡ []
    → with_parts (with_parts (with_parts (with_parts (with_parts (with_parts (with_parts (with_parts (with_lines old (form.Header system.version ∷ []))
    (map (λ unit. parts.HasUnit unit.name (unit_parts unit)) system.units)) (map parts.HasInstance system.instances)) (map parts.Connects system.wires))
    (optional parts.Stop system.stop)) (optional parts.Longest system.longest)) (optional parts.Zero system.zero))
    (optional parts.Rows system.rows)) (map parts.Samples system.samples)
    ≡ canonical_text system
system_is old system is =
    sym (system_parts (with_lines old (form.Header system.version ∷ [])))
    ∙ sym (parts_are (with_lines old (form.Header system.version ∷ [])) (canonical_parts system))
    ∙ ap (λ text. with_lines text (canonical_forms system)) is
    ∙ lines_are [] (canonical_forms system) refl
  where
    system_parts : (text : List ℕ) → with_parts text (canonical_parts system)
        ≡ with_parts (with_parts (with_parts (with_parts (with_parts (with_parts (with_parts (with_parts text
        (map (λ unit. parts.HasUnit unit.name (unit_parts unit)) system.units)) (map parts.HasInstance system.instances)) (map parts.Connects system.wires))
        (optional parts.Stop system.stop)) (optional parts.Longest system.longest)) (optional parts.Zero system.zero))
        (optional parts.Rows system.rows)) (map parts.Samples system.samples)
    system_parts text = simp parts_append refl
