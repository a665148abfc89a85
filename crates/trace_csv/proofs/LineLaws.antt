-- Fields that are written one after the other, none of them quoted, are joined by commas.
use Rattle.std.proofs.Common.{◌≡◌, ◌∙◌, ◌≤◌, ◌<◌, ◌+◌, ◌-◌, ◌^◌, ◌++◌, ◌∷◌, [], ℕ, List, Bool, true, false, min, length, refl, sym, ap, subst, append_assoc}
use Rattle.std.proofs.Common.{Some, arith, length-append, cond, Result, Ok, Err, Option, map, take, drop, get_or}
use Rattle.std.proofs.Math.Seq.{drop-append_seam}
use Rattle.std.proofs.lemmas.Bool.{ne_eqb}
use Rattle.std.proofs.lemmas.List.{take_more, map-append}
use Rattle.std.proofs.lemmas.List.Elements.{filter_map-append}
use Rattle.std.specs.Prelude.{is_ok, OnOk}
use Rattle.std.specs.List.{join_with_byte, filter_map, cons_option}
use Rattle.csv.specs.Writing.{next_sep, field_text, tail_text}
use Rattle.csv.specs.declared.writer.QuoteStyle.{QuoteStyle}
use Rattle.trace_csv.specs.Lines.{line_of}
use Rattle.trace_csv.specs.Writers.{IsBare, quoting_in}

-- So many fields, as the writer counts them.
abbrev pub counted : ℕ → ℕ
counted count = min count (2 ^ 64 - 1)

pub count_more : (fields : List (List ℕ)) (field : List ℕ) → counted (counted (length fields) + 1) ≡ counted (length (fields ++ field ∷ []))
count_more fields field = omega (arith, length-append fields (field ∷ []))

separated : (first : List ℕ) (fields : List (List ℕ)) (field : List ℕ)
    → join_with_byte 44 ((first ∷ fields) ++ field ∷ []) ≡ join_with_byte 44 (first ∷ fields) ++ (44 ∷ field)
separated first [] field = refl
separated first (next ∷ fields) field =
    ap (λ joined. first ++ (44 ∷ joined)) (separated next fields field) ∙ sym (append_assoc first (44 ∷ join_with_byte 44 (next ∷ fields)) (44 ∷ field))

sep_is : (quoting : QuoteStyle) (count : ℕ) → 1 ≤ count → next_sep (quoting_in quoting) count ≡ 44 ∷ []
sep_is quoting count some = rw (ne_eqb count 0 (λ e. omega (arith, e))) refl

joined : (quoting : QuoteStyle) (fields : List (List ℕ)) (field : List ℕ)
    → join_with_byte 44 (fields ++ field ∷ []) ≡ join_with_byte 44 fields ++ (next_sep (quoting_in quoting) (counted (length fields)) ++ field)
joined quoting [] field = refl
joined quoting (first ∷ fields) field =
    separated first fields field
    ∙ ap (λ sep. join_with_byte 44 (first ∷ fields) ++ (sep ++ field)) (sym (sep_is quoting (counted (length (first ∷ fields))) (omega arith)))

-- One more field, after a text and so many fields.
pub field_more : (quoting : QuoteStyle) (front before after field : List ℕ) (count : ℕ) (fields : List (List ℕ))
    → Some before ≡ Some (front ++ join_with_byte 44 fields) → count ≡ counted (length fields) → IsBare quoting field
    → after ≡ before ++ (next_sep (quoting_in quoting) count ++ field_text (quoting_in quoting) field)
    → Some after ≡ Some (front ++ join_with_byte 44 (fields ++ field ∷ []))
field_more quoting front before after field count fields was many bare is =
    let body : before ≡ front ++ join_with_byte 44 fields = cc was in
    let all : after ≡ front ++ join_with_byte 44 (fields ++ field ∷ []) =
    is
    ∙ ap (λ text. before ++ (next_sep (quoting_in quoting) count ++ text)) bare
    ∙ ap (λ text. text ++ (next_sep (quoting_in quoting) count ++ field)) body
    ∙ ap (λ n. (front ++ join_with_byte 44 fields) ++ (next_sep (quoting_in quoting) n ++ field)) many
    ∙ append_assoc front (join_with_byte 44 fields) (next_sep (quoting_in quoting) (counted (length fields)) ++ field)
    ∙ ap (λ text. front ++ text) (sym (joined quoting fields field)) in
    ap (λ text. Some text) all

-- A line of two fields or more gets no quotes at its end.
pub tail_is : (quoting : QuoteStyle) (wrote : Bool) (count : ℕ) → 2 ≤ count → tail_text (quoting_in quoting) wrote count ≡ 10 ∷ []
tail_is quoting true count many = refl
tail_is quoting false count many = rw (ne_eqb count 0 (λ e. omega (arith, e)), ne_eqb count 1 (λ e. omega (arith, e))) refl

pub line_ends : (front before after : List ℕ) (fields : List (List ℕ)) → Some before ≡ Some (front ++ join_with_byte 44 fields) → after ≡ before ++ 10 ∷ []
    → after ≡ front ++ line_of fields
line_ends front before after fields was is =
    let body : before ≡ front ++ join_with_byte 44 fields = cc was in
    is ∙ ap (λ text. text ++ 10 ∷ []) body ∙ append_assoc front (join_with_byte 44 fields) (10 ∷ [])

-- What comes after some text.
pub behind_is : (whole front line : List ℕ) (from : ℕ) → whole ≡ front ++ line → from ≡ length front → drop from whole ≡ line
behind_is whole front line from is many = ap (λ n. drop n whole) many ∙ ap (drop (length front)) is ∙ drop-append_seam front line

-- What is appended to an empty vector is all that it has.
pub all_put : {E : Type 0} (result : Result (Unit {0}) E) (old text new line : List ℕ) → new ≡ cond (is_ok result) (old ++ text) old → old ≡ [] → text ≡ line
    → OnOk result (new ≡ line)
all_put (Ok done) old text new line is empty same = is ∙ ap (λ front. front ++ text) empty ∙ same
all_put (Err fault) old text new line is empty same = tt

-- Each of two facts about a correct result.
pub first_on : {T E : Type 0} (A B : Type 0) (result : Result T E) → OnOk result (A × B) → OnOk result A
first_on A B (Ok done) both = both.0
first_on A B (Err fault) both = tt

pub second_on : {T E : Type 0} (P : List ℕ → Type 0) (now whole : List ℕ) (result : Result T E) → OnOk result ((now ≡ whole) × P whole) → OnOk result (P now)
second_on P now whole (Ok done) both = subst P (sym both.0) both.1
second_on P now whole (Err fault) both = tt

-- ---- One more column

pub titles_more : {A B : Type 0} (title : A → Option B) (columns : List A) (place : ℕ) (default : A) (name : B) → place < length columns
    → title (get_or columns place default) ≡ Some name
    → filter_map title (take place columns) ++ name ∷ [] ≡ filter_map title (take (place + 1) columns)
titles_more title columns place default name within is =
    let one : filter_map title (get_or columns place default ∷ []) ≡ name ∷ [] = ap (λ told. cons_option told []) is in
    ap (λ last. filter_map title (take place columns) ++ last) (sym one)
    ∙ sym (filter_map-append title (take place columns) (get_or columns place default ∷ []))
    ∙ ap (filter_map title) (sym (take_more columns place default within))

pub fields_more : {A B : Type 0} (field : A → B) (columns : List A) (place : ℕ) (default : A) → place < length columns
    → map field (take place columns) ++ field (get_or columns place default) ∷ [] ≡ map field (take (place + 1) columns)
fields_more field columns place default within =
    sym (map-append field (take place columns) (get_or columns place default ∷ [])) ∙ ap (map field) (sym (take_more columns place default within))
