-- Worked texts are refused.
use Rattle.std.proofs.Common.{◌≡◌, ℕ, zero, suc, ◌+◌, List, [], ◌∷◌, ◌++◌, length, inl, inr, refl, ap, sym, subst, ◌∙◌, ◌&&◌, arith, true, false, ◌<◌, ◌≤◌}
use Rattle.std.specs.Prelude.{codes}
use Rattle.std.proofs.lemmas.Bool.{leb-true, ltb-true}
use Rattle.std.specs.List.{AllZip, list_all, sum_by}
use Rattle.unit_tree.specs.Blocks.{no_lines, and_lines, may_stand}
use Rattle.unit_tree.specs.LineForms.{HasForm, WritesForm, AreCountsInRange, is_of_version_2}
use Rattle.unit_tree.specs.Lines.{lines_of, size_of, code_of, is_blank_line, has_forbidden_byte}
use Rattle.model_rules.specs.Limits.{line_limit, text_limit}
use Rattle.unit_tree.specs.Texts.{BeginsVersion2, HasFormIn, HaveForms, HasNoForm, IsMisplaced, LineBreaks, IsFirstBroken, IsRefused}
use Rattle.unit_tree.specs.Tokens.{Spells}
use Rattle.unit_tree.specs.declared.line_form.LineForm.{LineForm}
use Rattle.unit_tree.specs.declared.line_form.LineForm.TheVariants as form
use Rattle.unit_tree.specs.declared.token.Keyword.TheVariants as word
use Rattle.unit_tree.specs.declared.token.Symbol.TheVariants as sign
use Rattle.unit_tree.specs.declared.token.Token.{Token}
use Rattle.unit_tree.specs.declared.token.Token.TheVariants as token
use Rattle.text_tokens.specs.Scanning.{keyword_of, symbol_of, word_at, number_at, symbol_at, number_token, bounded_number, token_at}
use Rattle.language_laws.proofs.FirstVersion.{old_form}
use Rattle.worked_facts.specs.WorkedTexts.{text_of, returned, letters}
use Rattle.text_laws.proofs.FirstTokens.{no_tokens, name_alone, number_first, after_cosim, after_end, after_unit, after_event}
use Rattle.text_laws.proofs.RefusalSteps.{IsUnbroken, unbroken, least, first_broken, no_break, all_blank}
use Rattle.text_tokens.proofs.Spelled.{spells, tokens_in}
use Rattle.text_tokens.proofs.TokenLemmas.{spells_one, tokens_none}
use Rattle.worked_facts.proofs.WorkedForms.{plain_header, header_2, unit_a, end_line}

-- ---- The forms that some lines may have

-- The form of a line whose tokens are known.
written_with : (some : LineForm) (line : List ℕ) (tokens : List Token) → Spells tokens (code_of line) → HasForm some line → WritesForm some tokens
written_with some line tokens spelled has = subst (WritesForm some) (spells_one has.tokens tokens (code_of line) has.spelled spelled) has.written

header_only : (some : LineForm) → HasForm some (codes "cosim 1") → some ≡ form.Header 1
unfolding tokens_in keyword_of symbol_of word_at number_at symbol_at number_token bounded_number token_at
header_only some has =
    let only =
    after_cosim some (token.Number 1 0 ∷ [])
    (written_with some (codes "cosim 1") (token.Keyword word.Cosim ∷ token.Number 1 0 ∷ [])
    (spells 9 (codes "cosim 1") (token.Keyword word.Cosim ∷ token.Number 1 0 ∷ []) refl) has) in
    let first : only.0 ≡ 1 = cc (only.1.1) in
    only.1.0 ∙ ap form.Header first

unit_only : (some : LineForm) → HasForm some (codes "unit A") → some ≡ form.Unit (codes "A")
unfolding tokens_in keyword_of symbol_of word_at number_at symbol_at number_token bounded_number token_at
unit_only some has =
    after_unit some (codes "A")
    (written_with some (codes "unit A") (token.Keyword word.Unit ∷ token.Name (codes "A") ∷ [])
    (spells 9 (codes "unit A") (token.Keyword word.Unit ∷ token.Name (codes "A") ∷ []) refl) has)

blank_has_none : (some : LineForm) (line : List ℕ) → Spells [] (code_of line) → HasForm some line → ⊥
blank_has_none some line spelled has = no_tokens some (written_with some line [] spelled has)

hello_has_none : (some : LineForm) → HasForm some (codes "hello") → ⊥
unfolding tokens_in keyword_of symbol_of word_at number_at symbol_at number_token bounded_number token_at
hello_has_none some has =
    name_alone some (codes "hello")
    (written_with some (codes "hello") (token.Name (codes "hello") ∷ []) (spells 9 (codes "hello") (token.Name (codes "hello") ∷ []) refl) has)

ends_have_none : (some : LineForm) → HasForm some (codes "end end") → ⊥
unfolding tokens_in keyword_of symbol_of word_at number_at symbol_at number_token bounded_number token_at
ends_have_none some has =
    let rest =
    after_end some (token.Keyword word.End ∷ [])
    (written_with some (codes "end end") (token.Keyword word.End ∷ token.Keyword word.End ∷ [])
    (spells 9 (codes "end end") (token.Keyword word.End ∷ token.Keyword word.End ∷ []) refl) has) in
    absurd (cc rest)

decimals_have_none : (some : LineForm) → HasForm some (codes "cosim 1.0") → ⊥
unfolding tokens_in keyword_of symbol_of word_at number_at symbol_at number_token bounded_number token_at
decimals_have_none some has =
    let only =
    after_cosim some (token.Number 10 1 ∷ [])
    (written_with some (codes "cosim 1.0") (token.Keyword word.Cosim ∷ token.Number 10 1 ∷ [])
    (spells 9 (codes "cosim 1.0") (token.Keyword word.Cosim ∷ token.Number 10 1 ∷ []) refl) has) in
    absurd (cc only.1.1)

word_has_none : (some : LineForm) → HasForm some (codes "1a") → ⊥
unfolding keyword_of symbol_of word_at number_at symbol_at number_token bounded_number token_at
word_has_none some has = tokens_none (codes "1a") (omega arith) refl has.tokens has.spelled

-- ---- Lines that keep the rules

-- Where no lines are left, there are no forms.
no_forms : (text : List (List ℕ)) (forms : List LineForm) → HaveForms text forms [] → forms ≡ []
no_forms text [] have = refl
no_forms text (some ∷ forms) have = absurd have

-- One line has only one form, where all its forms are equal.
one_form : (text : List (List ℕ)) (line : List ℕ) (is : LineForm) → ((some : LineForm) → HasForm some line → some ≡ is) → (forms : List LineForm)
    → AllZip (HasFormIn text) forms (line ∷ []) → forms ≡ is ∷ []
one_form text line is only [] have = absurd have
one_form text line is only (some ∷ forms) have = rw (only some have.0.has_form, no_forms text forms have.1) refl

placed : (text before : List (List ℕ)) (line : List ℕ) (forms : List LineForm) (is : LineForm)
    → ((found : List LineForm) → HaveForms text found before → found ≡ forms) → ((some : LineForm) → HasForm some line → some ≡ is)
    → may_stand (and_lines no_lines forms) is ≡ true → IsMisplaced text before line → ⊥
placed text before line forms is all only may off =
    let told : may_stand (and_lines no_lines forms) is ≡ false =
    subst (λ f. may_stand (and_lines no_lines f) is ≡ false) (all off.forms off.lines)
    (subst (λ f. may_stand (and_lines no_lines off.forms) f ≡ false) (only off.some off.has_form.has_form) off.misplaced) in
    absurd (cc (told, may))

blank_kept : (text before : List (List ℕ)) (line : List ℕ) → is_blank_line line ≡ true → Spells [] (code_of line) → has_forbidden_byte line ≡ false
    → length line ≤ line_limit → IsUnbroken text before line
blank_kept text before line blank spelled allowed short =
    unbroken text before line allowed short (λ none. absurd (cc (none.0, blank))) (λ off. blank_has_none off.some line spelled off.has_form.has_form)
    (λ lacks. absurd (cc (lacks.is_first, blank)))

header_kept : (text : List (List ℕ)) → IsUnbroken text [] (codes "cosim 1")
header_kept text =
    unbroken text [] (codes "cosim 1") refl (omega arith) (λ none. none.1 (form.Header 1) (old_form text (codes "cosim 1") (form.Header 1) plain_header refl))
    (placed text [] (codes "cosim 1") [] (form.Header 1) (no_forms text) header_only refl)
    (λ lacks. lacks.is_other 1 plain_header)

unit_kept : (text : List (List ℕ)) → IsUnbroken text (codes "cosim 1" ∷ []) (codes "unit A")
unit_kept text =
    unbroken text (codes "cosim 1" ∷ []) (codes "unit A") refl (omega arith)
    (λ none. none.1 (form.Unit (codes "A")) (old_form text (codes "unit A") (form.Unit (codes "A")) unit_a refl))
    (placed text (codes "cosim 1" ∷ []) (codes "unit A") (form.Header 1 ∷ []) (form.Unit (codes "A"))
    (one_form text (codes "cosim 1") (form.Header 1) header_only) unit_only refl)
    (λ lacks. absurd (cc (lacks.before_is_blank)))

at_first : (line : List ℕ) (rule : ℕ) → LineBreaks (line ∷ []) rule [] line → (1 < rule → has_forbidden_byte line ≡ false)
    → (3 < rule → length line ≤ line_limit) → (4 < rule → HasNoForm (line ∷ []) line → ⊥) → rule ≤ 5 → is_blank_line line ≡ false
    → IsFirstBroken (line ∷ []) 1 rule
at_first line rule broken allowed short formed known not_blank =
    first_broken [] line [] rule _ broken (least (line ∷ []) rule [] line (omega arith) allowed short formed (λ less. absurd (omega arith))) (rw not_blank refl)

pub empty_is : IsRefused [] 1 7
empty_is = inr (leb-true 0 text_limit refl, inl (all_blank [] _ refl))

pub blank_is : IsRefused (text_of ([] ∷ codes "# nothing" ∷ [])) 1 7
blank_is =
    inr (
      leb-true (size_of (text_of ([] ∷ codes "# nothing" ∷ []))) text_limit refl,
      inl (all_blank ([] ∷ codes "# nothing" ∷ []) (
        blank_kept ([] ∷ codes "# nothing" ∷ []) [] [] refl refl refl (omega arith),
        (blank_kept ([] ∷ codes "# nothing" ∷ []) ([] ∷ []) (codes "# nothing") refl refl refl (omega arith), _),
      ) refl),
    )

pub forbidden_is : IsRefused (200 ∷ []) 1 1
forbidden_is =
    inr (
      leb-true (size_of (200 ∷ [])) text_limit refl,
      inl (at_first (200 ∷ []) 1 (inl (refl, refl)) (λ less. absurd (omega arith)) (λ less. absurd (omega arith)) (λ less. absurd (omega arith))
          (omega arith) refl),
    )

pub two_returns_are : IsRefused (text_of (returned (returned (codes "cosim 1")) ∷ [])) 1 1
two_returns_are =
    inr (
      leb-true (size_of (text_of (returned (returned (codes "cosim 1")) ∷ []))) text_limit refl,
      inl (at_first (returned (codes "cosim 1")) 1 (inl (refl, refl)) (λ less. absurd (omega arith)) (λ less. absurd (omega arith))
          (λ less. absurd (omega arith)) (omega arith) refl),
    )

pub hello_is : IsRefused (codes "hello") 1 4
hello_is =
    inr (
      leb-true (size_of (codes "hello")) text_limit refl,
      inl (at_first (codes "hello") 4 (inr (inr (inl (refl, (refl, λ some has. hello_has_none some has.has_form))))) (λ less. refl) (λ less. omega arith)
          (λ less. absurd (omega arith)) (omega arith) refl),
    )

pub two_ends_are : IsRefused (codes "end end") 1 4
two_ends_are =
    inr (
      leb-true (size_of (codes "end end")) text_limit refl,
      inl (at_first (codes "end end") 4 (inr (inr (inl (refl, (refl, λ some has. ends_have_none some has.has_form))))) (λ less. refl) (λ less. omega arith)
          (λ less. absurd (omega arith)) (omega arith) refl),
    )

pub number_word_is : IsRefused (codes "1a") 1 4
number_word_is =
    inr (
      leb-true (size_of (codes "1a")) text_limit refl,
      inl (at_first (codes "1a") 4 (inr (inr (inl (refl, (refl, λ some has. word_has_none some has.has_form))))) (λ less. refl) (λ less. omega arith)
          (λ less. absurd (omega arith)) (omega arith) refl),
    )

pub decimal_header_is : IsRefused (codes "cosim 1.0") 1 4
decimal_header_is =
    inr (
      leb-true (size_of (codes "cosim 1.0")) text_limit refl,
      inl (at_first (codes "cosim 1.0") 4 (inr (inr (inl (refl, (refl, λ some has. decimals_have_none some has.has_form))))) (λ less. refl)
          (λ less. omega arith) (λ less. absurd (omega arith)) (omega arith) refl),
    )

pub stray_end_is : IsRefused (codes "end") 1 5
stray_end_is =
    inr (
      leb-true (size_of (codes "end")) text_limit refl,
      inl (at_first (codes "end") 5
          (inr (inr
          (inr (inl (
            refl,
            record {
              forms = [];
              some = form.End;
              lines = _;
              has_form = old_form (codes "end" ∷ []) (codes "end") form.End end_line refl;
              misplaced =
                  refl;
            },
          )))))
          (λ less. refl) (λ less. omega arith) (λ less none. none.1 form.End (old_form (codes "end" ∷ []) (codes "end") form.End end_line refl))
          (omega arith) refl),
    )

abbrev two_headers : List (List ℕ)
two_headers = codes "cosim 1" ∷ codes "cosim 1" ∷ []

headed : HasFormIn two_headers (form.Header 1) (codes "cosim 1")
headed = old_form two_headers (codes "cosim 1") (form.Header 1) plain_header refl

pub second_header_is : IsRefused (text_of two_headers) 2 5
second_header_is =
    inr (
      leb-true (size_of (text_of two_headers)) text_limit refl,
      inl (first_broken (codes "cosim 1" ∷ []) (codes "cosim 1") [] 5 (header_kept two_headers, _)
          (inr (inr (inr (inl (refl, record { forms = form.Header 1 ∷ []; some = form.Header 1; lines = (headed, _); has_form = headed; misplaced = refl })))))
          (least two_headers 5 (codes "cosim 1" ∷ []) (codes "cosim 1") (omega arith) (λ less. refl) (λ less. omega arith)
          (λ less none. none.1 (form.Header 1) headed) (λ less. absurd (omega arith))) refl),
    )

not_header : (version : ℕ) → HasForm (form.Header version) (codes "unit A") → ⊥
not_header version has = let same : form.Header version ≡ form.Unit (codes "A") = unit_only (form.Header version) has in absurd (cc same)

abbrev headless : List (List ℕ)
headless = [] ∷ codes "unit A" ∷ []

pub no_header_is : IsRefused (text_of headless) 2 7
no_header_is =
    inr (
      leb-true (size_of (text_of headless)) text_limit refl,
      inl (first_broken ([] ∷ []) (codes "unit A") [] 7 (blank_kept headless [] [] refl refl refl (omega arith), _)
          (inr (inr (inr (inr (refl, record { before_is_blank = refl; is_first = refl; is_other = not_header })))))
          (least headless 7 ([] ∷ []) (codes "unit A") (omega arith) (λ less. refl) (λ less. omega arith)
          (λ less none. none.1 (form.Unit (codes "A")) (old_form headless (codes "unit A") (form.Unit (codes "A")) unit_a refl))
          (λ less. placed headless ([] ∷ []) (codes "unit A") [] (form.Unit (codes "A")) (no_forms headless) unit_only refl)) refl),
    )

abbrev open_lines : List (List ℕ)
open_lines = codes "cosim 1" ∷ codes "unit A" ∷ [] ∷ []

pub unended_is : IsRefused (text_of open_lines) 3 6
unended_is =
    inr (
      leb-true (size_of (text_of open_lines)) text_limit refl,
      inr (record {
        forms = form.Header 1 ∷ form.Unit (codes "A") ∷ [];
        have_forms = (
          old_form open_lines (codes "cosim 1") (form.Header 1) plain_header refl,
          (old_form open_lines (codes "unit A") (form.Unit (codes "A")) unit_a refl, _),
        );
        is_open = λ none. absurd (cc none);
        unbroken =
            no_break open_lines (
              header_kept open_lines,
              (unit_kept open_lines, (blank_kept open_lines (codes "cosim 1" ∷ codes "unit A" ∷ []) [] refl refl refl (omega arith), _)),
            ) refl;
        is_rule = refl;
        is_last = refl;
      }),
    )

-- ---- Versions

-- A text whose first line that is not blank is `cosim 1` is not of version 2.
not_version_2 : (later : List (List ℕ)) → BeginsVersion2 (codes "cosim 1" ∷ later) → ⊥
not_version_2 later begins = by_cut begins.before begins.line begins.later begins.cut begins.before_is_blank begins.is_header
  where
    other : HasForm (form.Header 2) (codes "cosim 1") → ⊥
    other has = let same : form.Header 2 ≡ form.Header 1 = header_only (form.Header 2) has in absurd (cc same)

    by_cut : (before : List (List ℕ)) (line : List ℕ) (rest : List (List ℕ)) → codes "cosim 1" ∷ later ≡ before ++ (line ∷ rest)
        → list_all is_blank_line before ≡ true → HasForm (form.Header 2) line → ⊥
    by_cut [] line rest cut blank has = let here : line ≡ codes "cosim 1" = cc in other (subst (HasForm (form.Header 2)) here has)
    by_cut (first ∷ before) line rest cut blank has =
        let here : first ≡ codes "cosim 1" = cc in
        let told : (is_blank_line (codes "cosim 1") && list_all is_blank_line before) ≡ true =
        subst (λ l. (is_blank_line l && list_all is_blank_line before) ≡ true) here blank in
        absurd (cc told)

-- No line of such a text has a form that only version 2 has.
no_new_form : (later : List (List ℕ)) (line : List ℕ) (is : LineForm) → ((some : LineForm) → HasForm some line → some ≡ is) → is_of_version_2 is ≡ true
    → (some : LineForm) → HasFormIn (codes "cosim 1" ∷ later) some line → ⊥
no_new_form later line is only new some has = not_version_2 later (has.of_version (subst (λ f. is_of_version_2 f ≡ true) (sym (only some has.has_form)) new))

header_2_only : (some : LineForm) → HasForm some (codes "cosim 2") → some ≡ form.Header 2
unfolding tokens_in keyword_of symbol_of word_at number_at symbol_at number_token bounded_number token_at
header_2_only some has =
    let only =
    after_cosim some (token.Number 2 0 ∷ [])
    (written_with some (codes "cosim 2") (token.Keyword word.Cosim ∷ token.Number 2 0 ∷ [])
    (spells 9 (codes "cosim 2") (token.Keyword word.Cosim ∷ token.Number 2 0 ∷ []) refl) has) in
    let second : only.0 ≡ 2 = cc (only.1.1) in
    only.1.0 ∙ ap form.Header second

abbrev one_then_two : List (List ℕ)
one_then_two = codes "cosim 1" ∷ codes "cosim 2" ∷ []

pub later_version_is : IsRefused (text_of one_then_two) 2 4
later_version_is =
    inr (
      leb-true (size_of (text_of one_then_two)) text_limit refl,
      inl (first_broken (codes "cosim 1" ∷ []) (codes "cosim 2") [] 4 (header_kept one_then_two, _)
          (inr (inr (inl (refl, (refl, no_new_form (codes "cosim 2" ∷ []) (codes "cosim 2") (form.Header 2) header_2_only refl)))))
          (least one_then_two 4 (codes "cosim 1" ∷ []) (codes "cosim 2") (omega arith) (λ less. refl) (λ less. omega arith) (λ less. absurd (omega arith))
          (λ less. absurd (omega arith))) refl),
    )

event_only : (some : LineForm) → HasForm some (codes "event input e : Int64") → is_of_version_2 some ≡ true
unfolding tokens_in keyword_of symbol_of word_at number_at symbol_at number_token bounded_number token_at
event_only some has =
    after_event some (token.Keyword word.Input ∷ token.Name (codes "e") ∷ token.Symbol sign.Colon ∷ token.Name (codes "Int64") ∷ [])
    (written_with some (codes "event input e : Int64")
    (token.Keyword word.Event ∷ token.Keyword word.Input ∷ token.Name (codes "e") ∷ token.Symbol sign.Colon ∷ token.Name (codes "Int64") ∷ [])
    (spells 9 (codes "event input e : Int64")
    (token.Keyword word.Event ∷ token.Keyword word.Input ∷ token.Name (codes "e") ∷ token.Symbol sign.Colon ∷ token.Name (codes "Int64") ∷ []) refl) has)

abbrev old_event : List (List ℕ)
old_event = codes "cosim 1" ∷ codes "unit A" ∷ codes "event input e : Int64" ∷ codes "end" ∷ []

pub event_of_version_1_is : IsRefused (text_of old_event) 3 4
event_of_version_1_is =
    inr (
      leb-true (size_of (text_of old_event)) text_limit refl,
      inl (first_broken (codes "cosim 1" ∷ codes "unit A" ∷ []) (codes "event input e : Int64") (codes "end" ∷ []) 4
          (header_kept old_event, (unit_kept old_event, _))
          (inr (inr (inl (refl, (refl, λ some has. not_version_2 _ (has.of_version (event_only some has.has_form)))))))
          (least old_event 4 (codes "cosim 1" ∷ codes "unit A" ∷ []) (codes "event input e : Int64") (omega arith) (λ less. refl) (λ less. omega arith)
          (λ less. absurd (omega arith)) (λ less. absurd (omega arith))) refl),
    )

third_has_none : (some : LineForm) → HasForm some (codes "cosim 3") → ⊥
unfolding tokens_in keyword_of symbol_of word_at number_at symbol_at number_token bounded_number token_at
third_has_none some has =
    let written =
    written_with some (codes "cosim 3") (token.Keyword word.Cosim ∷ token.Number 3 0 ∷ [])
    (spells 9 (codes "cosim 3") (token.Keyword word.Cosim ∷ token.Number 3 0 ∷ []) refl) has in
    let only = after_cosim some (token.Number 3 0 ∷ []) written in
    let third : only.0 ≡ 3 = cc (only.1.1) in
    let counts : AreCountsInRange (form.Header 3) = subst AreCountsInRange (only.1.0 ∙ ap form.Header third) written.counts in
    omega (arith, counts.1)

pub third_version_is : IsRefused (codes "cosim 3") 1 4
third_version_is =
    inr (
      leb-true (size_of (codes "cosim 3")) text_limit refl,
      inl (at_first (codes "cosim 3") 4 (inr (inr (inl (refl, (refl, λ some has. third_has_none some has.has_form))))) (λ less. refl) (λ less. omega arith)
          (λ less. absurd (omega arith)) (omega arith) refl),
    )

abbrev two_then_one : List (List ℕ)
two_then_one = codes "cosim 2" ∷ codes "cosim 1" ∷ []

begins_with_two : BeginsVersion2 two_then_one
begins_with_two = record { before = []; line = codes "cosim 2"; later = codes "cosim 1" ∷ []; cut = refl; before_is_blank = refl; is_header = header_2 }

headed_2 : HasFormIn two_then_one (form.Header 2) (codes "cosim 2")
headed_2 = record { has_form = header_2; of_version = λ told. begins_with_two }

header_2_kept : IsUnbroken two_then_one [] (codes "cosim 2")
header_2_kept =
    unbroken two_then_one [] (codes "cosim 2") refl (omega arith) (λ none. none.1 (form.Header 2) headed_2)
    (placed two_then_one [] (codes "cosim 2") [] (form.Header 2) (no_forms two_then_one) header_2_only refl)
    (λ lacks. lacks.is_other 2 header_2)

pub earlier_version_is : IsRefused (text_of two_then_one) 2 5
earlier_version_is =
    inr (
      leb-true (size_of (text_of two_then_one)) text_limit refl,
      inl (first_broken (codes "cosim 2" ∷ []) (codes "cosim 1") [] 5 (header_2_kept, _)
          (inr (inr
          (inr (inl (
            refl,
            record {
              forms = form.Header 2 ∷ [];
              some = form.Header 1;
              lines = (headed_2, _);
              has_form =
                  old_form two_then_one (codes "cosim 1") (form.Header 1) plain_header refl;
              misplaced = refl;
            },
          )))))
          (least two_then_one 5 (codes "cosim 2" ∷ []) (codes "cosim 1") (omega arith) (λ less. refl) (λ less. omega arith)
          (λ less none. none.1 (form.Header 1) (old_form two_then_one (codes "cosim 1") (form.Header 1) plain_header refl))
          (λ less. absurd (omega arith))) refl),
    )

-- ---- Texts and lines that are too long

one_line : (count : ℕ) → lines_of (letters (suc count)) ≡ letters (suc count) ∷ []
one_line zero = refl
one_line (suc count) = rw (one_line count) refl

so_many : (count : ℕ) → length (letters count) ≡ count
so_many zero = refl
so_many (suc count) = ap suc (so_many count)

size_of_letters : (count : ℕ) → size_of (letters (suc count)) ≡ suc (suc count)
size_of_letters count = ap (λ lines. sum_by (λ line. length line + 1) lines) (one_line count) ∙ omega (arith, so_many (suc count))

too_long_by : (count : ℕ) → text_limit ≤ suc count → text_limit < size_of (letters (suc count))
too_long_by count long = omega (arith, size_of_letters count)

pub long_text_is : IsRefused (letters (suc 1048575)) 1 2
long_text_is = inl (too_long_by 1048575 (omega arith), refl, refl)

pub long_line_is : IsRefused (text_of ((codes "cosim 1#" ++ letters 993) ∷ [])) 1 3
long_line_is =
    inr (
      leb-true (size_of (text_of ((codes "cosim 1#" ++ letters 993) ∷ []))) text_limit refl,
      inl (at_first (codes "cosim 1#" ++ letters 993) 3 (inr (inl (refl, ltb-true line_limit (length (codes "cosim 1#" ++ letters 993)) refl))) (λ less. refl)
          (λ less. absurd (omega arith)) (λ less. absurd (omega arith)) (omega arith) refl),
    )

ten_decimals_have_none : (some : LineForm) → HasForm some (codes "0.0000000001") → ⊥
unfolding keyword_of symbol_of word_at number_at symbol_at number_token bounded_number token_at
ten_decimals_have_none some has = tokens_none (codes "0.0000000001") (omega arith) refl has.tokens has.spelled

pub ten_decimals_is : IsRefused (codes "0.0000000001") 1 4
ten_decimals_is =
    inr (
      leb-true (size_of (codes "0.0000000001")) text_limit refl,
      inl (at_first (codes "0.0000000001") 4 (inr (inr (inl (refl, (refl, λ some has. ten_decimals_have_none some has.has_form))))) (λ less. refl)
          (λ less. omega arith) (λ less. absurd (omega arith)) (omega arith) refl),
    )

above_all_numbers_have_none : (some : LineForm) → HasForm some (codes "9223372036854775809") → ⊥
unfolding keyword_of symbol_of word_at number_at symbol_at number_token bounded_number token_at
above_all_numbers_have_none some has = tokens_none (codes "9223372036854775809") (omega arith) refl has.tokens has.spelled

pub above_all_numbers_is : IsRefused (codes "9223372036854775809") 1 4
above_all_numbers_is =
    inr (
      leb-true (size_of (codes "9223372036854775809")) text_limit refl,
      inl (at_first (codes "9223372036854775809") 4 (inr (inr (inl (refl, (refl, λ some has. above_all_numbers_have_none some has.has_form))))) (λ less. refl)
          (λ less. omega arith) (λ less. absurd (omega arith)) (omega arith) refl),
    )

long_word_has_none : (some : LineForm) → HasForm some (letters 33) → ⊥
unfolding keyword_of symbol_of word_at number_at symbol_at number_token bounded_number token_at
long_word_has_none some has = tokens_none (letters 33) (omega arith) refl has.tokens has.spelled

pub long_word_is : IsRefused (letters 33) 1 4
long_word_is =
    inr (
      leb-true (size_of (letters 33)) text_limit refl,
      inl (at_first (letters 33) 4 (inr (inr (inl (refl, (refl, λ some has. long_word_has_none some has.has_form))))) (λ less. refl) (λ less. omega arith)
          (λ less. absurd (omega arith)) (omega arith) refl),
    )

point_has_none : (some : LineForm) → HasForm some (codes "1.") → ⊥
unfolding tokens_in keyword_of symbol_of word_at number_at symbol_at number_token bounded_number token_at
point_has_none some has =
    number_first some 1 0 (token.Symbol sign.Point ∷ [])
    (written_with some (codes "1.") (token.Number 1 0 ∷ token.Symbol sign.Point ∷ [])
    (spells 9 (codes "1.") (token.Number 1 0 ∷ token.Symbol sign.Point ∷ []) refl) has)

pub bare_point_is : IsRefused (codes "1.") 1 4
bare_point_is =
    inr (
      leb-true (size_of (codes "1.")) text_limit refl,
      inl (at_first (codes "1.") 4 (inr (inr (inl (refl, (refl, λ some has. point_has_none some has.has_form))))) (λ less. refl) (λ less. omega arith)
          (λ less. absurd (omega arith)) (omega arith) refl),
    )
