-- Each line has one kind.
use Rattle.std.proofs.Common.{◌≡◌, ℕ, Bool, true, false, List, [], ◌∷◌, ◌++◌, inl, inr, Option, Some, None, refl, sym, ap, subst, ◌∙◌, append-nil}
use Rattle.std.specs.Prelude.{◌⊎◌, codes, if◌then◌else◌}
use Rattle.std.specs.Str.{bytes_eq}
use Rattle.std.proofs.lemmas.Slice.Eq.{bytes_eq-Decides}
use Rattle.text_tokens.specs.Scanning.{TokensAre}
use Rattle.text_tokens.proofs.TokenLemmas.{spells_one, tokens_decided}
use Rattle.unit_tree.specs.LineForms.{WritesForm, front_tokens}
use Rattle.unit_tree.specs.Lines.{code_of}
use Rattle.unit_tree.specs.Tokens.{Spells}
use Rattle.unit_tree.specs.declared.line_form.LineForm.{LineForm}
use Rattle.unit_tree.specs.declared.line_form.LineForm.TheVariants as form
use Rattle.unit_tree.specs.declared.token.Keyword.{Keyword}
use Rattle.unit_tree.specs.declared.token.Keyword.TheVariants as word
use Rattle.unit_tree.specs.declared.token.Symbol.TheVariants as sign
use Rattle.unit_tree.specs.declared.token.Token.{Token}
use Rattle.unit_tree.specs.declared.token.Token.TheVariants as token
use Rattle.nest_text.specs.NestLines.{HasKind, IsKind, group_tokens, in_tokens, main_tokens, out_tokens}
use Rattle.nest_text.specs.Reading.{connects, ends, group_kind, in_kind, keyword_kind, kind_of, main_kind, named_kind, opens, out_kind}
use Rattle.nest_text.specs.declared.kind.LineKind.{LineKind}
use Rattle.nest_text.specs.declared.kind.LineKind.TheVariants as kinds

-- A line has the kind, unless the kind is `Other`.
abbrev Told : List ℕ → LineKind → Type 0
Told line kind = HasKind line kind ⊎ (kind ≡ kinds.Other)

-- The line spells the tokens.
abbrev Spelled : List ℕ → List Token → Type 0
Spelled line tokens = Spells tokens (code_of line)

-- ---- The kind that tokens give

group_told : (line : List ℕ) (rest : List Token) → Spelled line (token.Name (codes "group") ∷ rest) → Told line (group_kind rest)
group_told line (token.Name name ∷ []) spelled = inl spelled
group_told line _ spelled = inr refl

main_told : (line : List ℕ) (rest : List Token) → Spelled line (token.Name (codes "main") ∷ rest) → Told line (main_kind rest)
main_told line [] spelled = inl spelled
main_told line (one ∷ rest) spelled = inr refl

in_told : (line : List ℕ) (rest : List Token) → Spelled line (token.Name (codes "in") ∷ rest) → Told line (in_kind rest)
in_told line (token.Name port ∷ token.Symbol sign.Arrow ∷ token.Name instance ∷ token.Symbol sign.Point ∷ token.Name inner ∷ []) spelled = inl spelled
in_told line _ spelled = inr refl

out_told : (line : List ℕ) (rest : List Token) → Spelled line (token.Name (codes "out") ∷ rest) → Told line (out_kind rest)
out_told line (token.Name port ∷ token.Symbol sign.Is ∷ token.Name instance ∷ token.Symbol sign.Point ∷ token.Name inner ∷ []) spelled = inl spelled
out_told line _ spelled = inr refl

either_told : (line : List ℕ) (test : Bool) (one other : LineKind) → (test ≡ true → Told line one) → Told line other → Told line (if test then one else other)
either_told line true one second if_so if_not = if_so refl
either_told line false one second if_so if_not = if_not

named_told : (line : List ℕ) (text : List ℕ) (rest : List Token) → Spelled line (token.Name text ∷ rest) → Told line (named_kind text rest)
named_told line text rest spelled =
    let spelled_so = λ (name : List ℕ) (is : bytes_eq text name ≡ true). subst (λ one. Spelled line (token.Name one ∷ rest)) ((bytes_eq-Decides text name).0 is) spelled in
    either_told line (bytes_eq text (codes "group")) (group_kind rest)
    (if bytes_eq text (codes "main") then main_kind rest else (if bytes_eq text (codes "in") then in_kind rest else (if bytes_eq text (codes "out") then out_kind rest else kinds.Other)))
    (λ is. group_told line rest (spelled_so (codes "group") is))
    (either_told line (bytes_eq text (codes "main")) (main_kind rest)
    (if bytes_eq text (codes "in") then in_kind rest else (if bytes_eq text (codes "out") then out_kind rest else kinds.Other))
    (λ is. main_told line rest (spelled_so (codes "main") is))
    (either_told line (bytes_eq text (codes "in")) (in_kind rest) (if bytes_eq text (codes "out") then out_kind rest else kinds.Other)
    (λ is. in_told line rest (spelled_so (codes "in") is))
    (either_told line (bytes_eq text (codes "out")) (out_kind rest) kinds.Other (λ is. out_told line rest (spelled_so (codes "out") is)) (inr refl))))

end_told : (line : List ℕ) (rest : List Token) → Spelled line (token.Keyword word.End ∷ rest) → Told line (ends rest)
end_told line [] spelled = inl (record { tokens = token.Keyword word.End ∷ []; spelled = spelled; written = record { tail = []; spelled = refl; tail_is = refl; counts = tt } })
end_told line (one ∷ rest) spelled = inr refl

instance_told : (line : List ℕ) (rest : List Token) → Spelled line (token.Keyword word.Instance ∷ rest) → Told line (opens rest)
instance_told line (token.Name name ∷ token.Symbol sign.Colon ∷ token.Name unit ∷ []) spelled = inl (
  name,
  unit,
  record {
    tokens = token.Keyword word.Instance ∷ token.Name name ∷ token.Symbol sign.Colon ∷ token.Name unit ∷ [];
    spelled = spelled;
    written = record { tail = []; spelled = refl; tail_is = refl; counts = tt };
  },
)
instance_told line _ spelled = inr refl

connect_told : (line : List ℕ) (rest : List Token) → Spelled line (token.Keyword word.Connect ∷ rest) → Told line (connects rest)
connect_told line (token.Name a ∷ token.Symbol sign.Point ∷ token.Name y ∷ token.Symbol sign.Arrow ∷ token.Name b ∷ token.Symbol sign.Point ∷ token.Name u ∷ [])
    spelled = inl (
      record { from = record { instance = a; port = y }; to = record { instance = b; port = u } },
      record {
        tokens =
            token.Keyword word.Connect ∷ token.Name a ∷ token.Symbol sign.Point ∷ token.Name y ∷ token.Symbol sign.Arrow ∷ token.Name b ∷ token.Symbol sign.Point
            ∷ token.Name u ∷ [];
        spelled = spelled;
        written = record { tail = []; spelled = refl; tail_is = refl; counts = tt };
      },
    )
connect_told line _ spelled = inr refl

keyword_told : (line : List ℕ) (keyword : Keyword) (rest : List Token) → Spelled line (token.Keyword keyword ∷ rest) → Told line (keyword_kind keyword rest)
keyword_told line word.End rest spelled = end_told line rest spelled
keyword_told line word.Instance rest spelled = instance_told line rest spelled
keyword_told line word.Connect rest spelled = connect_told line rest spelled
keyword_told line _ rest spelled = inr refl

kind_told : (line : List ℕ) (tokens : List Token) → Spelled line tokens → Told line (kind_of tokens)
kind_told line [] spelled = inl spelled
kind_told line (token.Keyword keyword ∷ rest) spelled = keyword_told line keyword rest spelled
kind_told line (token.Name name ∷ rest) spelled = named_told line name rest spelled
kind_told line (token.Number digits decimals ∷ rest) spelled = inr refl
kind_told line (token.Symbol symbol ∷ rest) spelled = inr refl

-- ---- What a kind requires of tokens

written_bare : (some : LineForm) (tokens : List Token) (written : WritesForm some tokens) → written.tail ≡ [] → tokens ≡ front_tokens some
written_bare some tokens written none = written.spelled ∙ ap (λ tail. front_tokens some ++ tail) none ∙ append-nil (front_tokens some)

-- A line of a kind spells tokens that give the kind.
record Tells (line : List ℕ) (kind : LineKind) : Type 0 where
  tokens : List Token
  spelled : Spelled line tokens
  told : kind_of tokens ≡ kind

tells : (line : List ℕ) (kind : LineKind) → HasKind line kind → Tells line kind
tells line (kinds.Begins name) has = record { tokens = group_tokens name; spelled = has; told = refl }
tells line kinds.Main has = record { tokens = main_tokens; spelled = has; told = refl }
tells line (kinds.In bind) has = record { tokens = in_tokens bind; spelled = has; told = refl }
tells line (kinds.Out bind) has = record { tokens = out_tokens bind; spelled = has; told = refl }
tells line kinds.Opens (name, unit, has) =
    record { tokens = has.tokens; spelled = has.spelled; told = ap kind_of (written_bare (form.Instance name unit) has.tokens has.written has.written.tail_is) }
tells line kinds.Ends has =
    record { tokens = has.tokens; spelled = has.spelled; told = ap kind_of (written_bare form.End has.tokens has.written has.written.tail_is) }
tells line kinds.Connects (wire, has) =
    record { tokens = has.tokens; spelled = has.spelled; told = ap kind_of (written_bare (form.Connect wire) has.tokens has.written has.written.tail_is) }
tells line kinds.Blank has = record { tokens = []; spelled = has; told = refl }
tells line kinds.Other has = absurd has

kind_only : (line : List ℕ) (kind : LineKind) (tokens : List Token) → Spelled line tokens → HasKind line kind → kind_of tokens ≡ kind
kind_only line kind tokens spelled has =
    let told = tells line kind has in
    ap kind_of (spells_one tokens told.tokens (code_of line) spelled told.spelled) ∙ told.told

-- ---- The kind of a line

kind_by : (line : List ℕ) (tokens : List Token) → Spelled line tokens → Told line (kind_of tokens) → IsKind line (kind_of tokens)
kind_by line tokens spelled (inl has) = inl has
kind_by line tokens spelled (inr is) = inr (is, λ some has. subst (HasKind line) (sym (kind_only line some tokens spelled has) ∙ is) has)

-- the kind of the tokens of a line
pub kind_spelled : (line : List ℕ) (tokens : List Token) → Spells tokens (code_of line) → IsKind line (kind_of tokens)
kind_spelled line tokens spelled = kind_by line tokens spelled (kind_told line tokens spelled)

-- a line that spells no tokens
pub kind_unspelled : (line : List ℕ) → ((tokens : List Token) → Spells tokens (code_of line) → ⊥) → IsKind line kinds.Other
kind_unspelled line none = inr (refl, λ some has. let told = tells line some has in none told.tokens told.spelled)

pub kind_once : (line : List ℕ) (one other : LineKind) → IsKind line one → IsKind line other → one ≡ other
kind_once line one second (inl a) (inl b) =
    let told = tells line one a in
    sym told.told ∙ kind_only line second told.tokens told.spelled b
kind_once line one second (inl a) (inr (is, none)) = absurd (none one a)
kind_once line one second (inr (is, none)) (inl b) = absurd (none second b)
kind_once line one second (inr (is, none)) (inr (are, nothing)) = is ∙ sym are

kind_found : (line : List ℕ) (found : Option (List Token)) → TokensAre (code_of line) found → (kind : LineKind) × IsKind line kind
kind_found line None none = (kinds.Other, kind_unspelled line none)
kind_found line (Some tokens) spelled = (kind_of tokens, kind_spelled line tokens spelled)

pub kind_there : (line : List ℕ) → (kind : LineKind) × IsKind line kind
kind_there line =
    let found = tokens_decided (code_of line) in
    kind_found line found.0 found.1
