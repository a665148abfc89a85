use Rattle.std.proofs.Common.{◌≡◌, ◌∙◌, ℕ, List, [], ◌∷◌, ◌++◌, ap}
use Rattle.std.specs.Fmt.{decimal}
use Rattle.std.specs.Prelude.{nat_lt}
use Rattle.step_log.proofs.LineText.{ended, whole_line}
use Rattle.fixed_words.specs.Texts.{truth_text}
use Rattle.step_log.specs.Lines.{accepted_text, limiter_text, shortener_text, step_line}
use Rattle.super_time.specs.Seconds.{seconds_text_of}
use Rattle.trace_csv.specs.Lines.{line_of}
use Rattle.step_log.proofs.text.write_line.Goals as goal

pub returns : goal.returns
returns c =
    let step = c.args.step in
    let seconds : ℕ → List ℕ = seconds_text_of c.args.resolution in
    let index : c.as_bytes.result.now ≡ decimal step.point.n = c.as_bytes.ensures.value ∙ c.format.ensures.text in
    let held : c.as_bytes-2.result.now ≡ decimal step.held = c.as_bytes-2.ensures.value ∙ c.format-2.ensures.text in
    let time : c.seconds_text.new.out.items ≡ seconds step.point.t = c.in_ok-seconds_text.ensures.ok ∙ ap (λ x. x ++ seconds step.point.t) c.clear.ensures.items in
    let point : c.append_all.new.out.items ≡ seconds step.point.t ++ 44 ∷ (decimal step.point.n ++ 44 ∷ []) =
    c.in_ok-append_all.ensures ∙ ap (λ x. x ++ 44 ∷ (c.as_bytes.result.now ++ 44 ∷ [])) time
    ∙ ap (λ n. seconds step.point.t ++ 44 ∷ (n ++ 44 ∷ [])) index in
    let proposed = c.in_ok-seconds_text-2.ensures.ok ∙ ap (λ x. x ++ seconds step.proposed) point in
    let limited =
    c.in_ok-append_all-2.ensures ∙ ap (λ x. x ++ 44 ∷ (c.limiter_text.result.now ++ 44 ∷ [])) proposed
    ∙ ap (λ l. ((seconds step.point.t ++ 44 ∷ (decimal step.point.n ++ 44 ∷ [])) ++ seconds step.proposed) ++ 44 ∷ (l ++ 44 ∷ [])) c.limiter_text.ensures in
    let agreed = c.in_ok-seconds_text-3.ensures.ok ∙ ap (λ x. x ++ seconds step.agreed) limited in
    let shortened =
    c.in_ok-put_shortening.ensures
    ∙ ap (λ x. x ++ (44 ∷ (shortener_text c.args.system.now step.shortening ++ 44 ∷ (accepted_text step.shortening ++ 44 ∷ [])))) agreed in
    ended c.append_all-3.result c.put_shortening.new.line.items c.append_all-3.new.out.items
    (c.truth_text-redone.result.now ++ 44 ∷ (c.as_bytes-2.result.now ++ 10 ∷ [])) (step_line c.args.system.now step) c.append_all-3.ensures
    (ap (λ x. x ++ (c.truth_text-redone.result.now ++ 44 ∷ (c.as_bytes-2.result.now ++ 10 ∷ []))) shortened
    ∙ whole_line (seconds step.point.t) (decimal step.point.n) (seconds step.proposed) (limiter_text c.args.system.now step.limiter) (seconds step.agreed)
    (shortener_text c.args.system.now step.shortening) (accepted_text step.shortening) c.truth_text-redone.result.now c.as_bytes-2.result.now
    ∙ ap
    (λ r. line_of
    (seconds step.point.t
    ∷ decimal step.point.n
    ∷ seconds step.proposed
    ∷ limiter_text c.args.system.now step.limiter
    ∷ seconds step.agreed
    ∷ shortener_text c.args.system.now step.shortening
    ∷ accepted_text step.shortening
    ∷ r
    ∷ c.as_bytes-2.result.now
    ∷ [])) c.truth_text-redone.ensures
    ∙ ap
    (λ d. line_of
    (seconds step.point.t
    ∷ decimal step.point.n
    ∷ seconds step.proposed
    ∷ limiter_text c.args.system.now step.limiter
    ∷ seconds step.agreed
    ∷ shortener_text c.args.system.now step.shortening
    ∷ accepted_text step.shortening
    ∷ truth_text (nat_lt step.agreed step.proposed)
    ∷ d
    ∷ [])) held
    ∙ ap
    (λ r. line_of
    (seconds_text_of r step.point.t
    ∷ decimal step.point.n
    ∷ seconds_text_of r step.proposed
    ∷ limiter_text c.args.system.now step.limiter
    ∷ seconds_text_of r step.agreed
    ∷ shortener_text c.args.system.now step.shortening
    ∷ accepted_text step.shortening
    ∷ truth_text (nat_lt step.agreed step.proposed)
    ∷ decimal step.held
    ∷ [])) c.requires.resolution)
