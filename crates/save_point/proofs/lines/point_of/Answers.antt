use Rattle.std.proofs.Common.{◌≡◌, ◌∙◌, ℕ, Bor, List, None, Some, ap, sym, subst, rules}
use Rattle.std.specs.Option.{option_map}
use Rattle.save_point.specs.Reading.{IsNumberText, IsPointText}
use Rattle.save_point.proofs.PartTexts.{no_space, no_steps, no_ticks, point_is}
use Rattle.save_point.proofs.lines.point_of.Goals as goal
use Rattle.text_tokens.specs.Results.{Tells}

pub returns-in_err-t : goal.returns-in_err-t
returns-in_err-t c =
    let is : c.from_residual.result ≡ None = search rules in
    let none : c.number_in.result ≡ None = search rules in
    let told = subst (λ told. Tells told (IsNumberText c.cut_part.result.0.now)) none c.number_in.ensures in
    subst (λ told. Tells told (IsPointText c.args.numbers.now)) (sym is)
    (no_ticks c.args.numbers.now (λ t text. told t (text.0, c.cut_part.ensures.first ∙ text.1)))

pub returns-in_err-steps : goal.returns-in_err-steps
returns-in_err-steps c =
    let is : c.from_residual-in_err-steps.result ≡ None = search rules in
    let none : c.cut_part.result.1 ≡ None = search rules in
    subst (λ told. Tells told (IsPointText c.args.numbers.now)) (sym is)
    (no_space c.args.numbers.now (sym c.cut_part.ensures.others ∙ ap (option_map (λ (b : Bor (List ℕ)). b.now)) none))

pub returns-in_err-n : goal.returns-in_err-n
returns-in_err-n c =
    let is : c.from_residual-in_err-n.result ≡ None = search rules in
    let none : c.number_in-2.result ≡ None = search rules in
    let some : c.cut_part.result.1 ≡ Some c.in_ok-steps.field-0 = search rules in
    let told = subst (λ told. Tells told (IsNumberText c.in_ok-steps.field-0.now)) none c.number_in-2.ensures in
    subst (λ told. Tells told (IsPointText c.args.numbers.now)) (sym is)
    (no_steps c.args.numbers.now c.in_ok-steps.field-0.now
    (sym c.cut_part.ensures.others ∙ ap (option_map (λ (b : Bor (List ℕ)). b.now)) some) told)

pub returns : goal.returns
returns c =
    let some : c.cut_part.result.1 ≡ Some c.in_ok-steps.field-0 = search rules in
    let first : c.number_in.result ≡ Some c.in_ok-t.t = search rules in
    let second : c.number_in-2.result ≡ Some c.in_ok-n.n = search rules in
    let ticks = subst (λ told. Tells told (IsNumberText c.cut_part.result.0.now)) first c.number_in.ensures in
    let steps = subst (λ told. Tells told (IsNumberText c.in_ok-steps.field-0.now)) second c.number_in-2.ensures in
    point_is c.args.numbers.now c.in_ok-steps.field-0.now c.in_ok-t.t c.in_ok-n.n
    (sym c.cut_part.ensures.others ∙ ap (option_map (λ (b : Bor (List ℕ)). b.now)) some)
    (ticks.0, sym c.cut_part.ensures.first ∙ ticks.1) steps
