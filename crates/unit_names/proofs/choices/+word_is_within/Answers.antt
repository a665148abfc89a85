use Rattle.std.proofs.Common.{◌≡◌, ◌+◌, nat_le, ap, sym, ◌∙◌, arith}
use Rattle.unit_tree.specs.Names.{depth_of}
use Rattle.unit_tree.specs.Plain.{with_choices, zero_of}
use Rattle.unit_names.proofs.EventOutputs.{choice_is_within, word_other}
use Rattle.unit_names.proofs.choices.+word_is_within.Goals as goal

pub returns-in-Some : goal.returns-in-Some
returns-in-Some t c =
    let less = c.in-Some.less in
    let one : c.is_within.result ≡ nat_le (depth_of c.in-Choose.cond) less = c.is_within.ensures ∙ ap (λ v. nat_le (depth_of v) less) c.get.ensures in
    let two : c.word_is_within.result ≡ nat_le (depth_of (with_choices (zero_of c.args.ty) (λ other. other) c.in-Choose.yes)) less = c.word_is_within.ensures
    ∙ ap (λ v. nat_le (depth_of (with_choices (zero_of c.args.ty) (λ other. other) v)) less) c.get-in-Some.ensures in
    let three : c.word_is_within-in-Some.result ≡ nat_le (depth_of (with_choices (zero_of c.args.ty) (λ other. other) c.in-Choose.no)) less =
    c.word_is_within-in-Some.ensures
    ∙ ap (λ v. nat_le (depth_of (with_choices (zero_of c.args.ty) (λ other. other) v)) less) c.get-in-Some-2.ensures in
    let one_less : less + 1 ≡ c.args.depth = grind (arith) in
    choice_is_within (zero_of c.args.ty)
    (λ other. other) c.args.expr.now c.in-Choose.cond c.in-Choose.yes c.in-Choose.no _ _ _ _ _ _ c.in-Choose.is one_less c.all_hold.ensures one two three

pub returns-in_default : goal.returns-in_default
returns-in_default t c = c.is_within-in_default.ensures
    ∙ ap (λ v. nat_le (depth_of v) c.args.depth) (sym (word_other c.args.ty c.args.expr.now c.in_default.not-Choose c.in_default.not-Absent))
