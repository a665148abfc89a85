use Rattle.std.proofs.Common.{◌≡◌, false, true, List, ℕ, None, Some, ap, sym, ◌∙◌}
use Rattle.std.specs.Prelude.{codes, string_bytes}
use Rattle.std.specs.Str.{bytes_eq}
use Rattle.command_line.specs.Options.{option_of}
use Rattle.command_line.proofs.OptionLaws.{option_first, report_first}
use Rattle.command_line.proofs.options.+given_behind.Goals as goal

pub returns-in_err-with-in-len1-up : goal.returns-in_err-with-in-len1-up
returns-in_err-with-in-len1-up t c =
    let test : bytes_eq (string_bytes c.flag-item.result) (codes "--report") ≡ true =
    ap (λ (b : List ℕ). bytes_eq b (codes "--report")) (sym c.as_str.ensures.value) ∙ sym c.eq.ensures ∙ c.if-eq.true in
    c.from_residual.ensures
    ∙ report_first c.args.words.now c.flag-item.result c.args.given None c.in-len1-up.len_at_least c.flag-item.is test
    (sym c.in_err-with-in-len1-up.ensures)

pub returns-in_ok-with-in-len1-up : goal.returns-in_ok-with-in-len1-up
returns-in_ok-with-in-len1-up t c =
    let test : bytes_eq (string_bytes c.flag-item.result) (codes "--report") ≡ true =
    ap (λ (b : List ℕ). bytes_eq b (codes "--report")) (sym c.as_str.ensures.value) ∙ sym c.eq.ensures ∙ c.if-eq.true in
    c.given_behind.ensures
    ∙ report_first c.args.words.now c.flag-item.result c.args.given (Some c.in_ok-with-in-len1-up.field-0) c.in-len1-up.len_at_least c.flag-item.is test
    (sym c.in_ok-with-in-len1-up.ensures)

pub returns-in_err-with-in-len2-up : goal.returns-in_err-with-in-len2-up
returns-in_err-with-in-len2-up t c =
    let test : bytes_eq (string_bytes c.flag-item.result) (codes "--report") ≡ false =
    ap (λ (b : List ℕ). bytes_eq b (codes "--report")) (sym c.as_str.ensures.value) ∙ sym c.eq.ensures ∙ c.if-eq.false in
    let reads : option_of (string_bytes c.flag-item-2.result) (string_bytes c.word-item.result) ≡ Some c.in_ok-option_of-in-len2-up.field-0 =
    ap (λ (b : List ℕ). option_of b (string_bytes c.word-item.result)) (sym c.as_str-in-len2-up.ensures.value)
    ∙ ap (option_of c.as_str-in-len2-up.result.now) (sym c.as_str-in-len2-up-2.ensures.value)
    ∙ sym c.option_of.ensures ∙ c.in_ok-option_of-in-len2-up.was in
    c.from_residual-in_err-with-in-len2-up.ensures
    ∙ option_first c.args.words.now c.flag-item.result c.flag-item-2.result c.word-item.result c.in_ok-option_of-in-len2-up.field-0 c.args.given None
    c.in-len2-up.len_at_least c.flag-item.is c.flag-item-2.is c.word-item.is test reads (sym c.in_err-with-in-len2-up.ensures)

pub returns-in_ok-with-in-len2-up : goal.returns-in_ok-with-in-len2-up
returns-in_ok-with-in-len2-up t c =
    let test : bytes_eq (string_bytes c.flag-item.result) (codes "--report") ≡ false =
    ap (λ (b : List ℕ). bytes_eq b (codes "--report")) (sym c.as_str.ensures.value) ∙ sym c.eq.ensures ∙ c.if-eq.false in
    let reads : option_of (string_bytes c.flag-item-2.result) (string_bytes c.word-item.result) ≡ Some c.in_ok-option_of-in-len2-up.field-0 =
    ap (λ (b : List ℕ). option_of b (string_bytes c.word-item.result)) (sym c.as_str-in-len2-up.ensures.value)
    ∙ ap (option_of c.as_str-in-len2-up.result.now) (sym c.as_str-in-len2-up-2.ensures.value)
    ∙ sym c.option_of.ensures ∙ c.in_ok-option_of-in-len2-up.was in
    c.given_behind-in-len2-up.ensures
    ∙ option_first c.args.words.now c.flag-item.result c.flag-item-2.result c.word-item.result c.in_ok-option_of-in-len2-up.field-0 c.args.given
    (Some c.in_ok-with-in-len2-up.field-0) c.in-len2-up.len_at_least c.flag-item.is c.flag-item-2.is c.word-item.is test reads
    (sym c.in_ok-with-in-len2-up.ensures)
