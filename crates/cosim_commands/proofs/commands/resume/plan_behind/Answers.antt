use Rattle.std.proofs.Common.{◌≡◌, ◌-◌, ℕ, List, length, take, arith, subst}
use Rattle.std.proofs.lemmas.List.{length-drop, take_all}
use Rattle.cosim_answers.proofs.RefusedLines.{refused_low}
use Rattle.cosim_answers.specs.SavedAnswers.{text_behind}
use Rattle.cosim_answers.specs.Serving.{IsUnaccepted}
use Rattle.save_point.proofs.SavedLines.{saved_lines_few}
use Rattle.text_accept.specs.Accepting.{IsRefusedAt}
use Rattle.cosim_commands.proofs.commands.resume.plan_behind.Goals as goal

pub line_in_whole-requires : goal.line_in_whole-requires
line_in_whole-requires c =
    let behind = text_behind c.args.text.now c.args.saved.now in
    let whole : take (length c.args.text.now - c.args.saved.now.rest) behind ≡ behind =
    take_all (length c.args.text.now - c.args.saved.now.rest) behind (let long = length-drop c.args.saved.now.rest c.args.text.now in omega (arith, long)) in
    let refused : IsRefusedAt behind c.in-Err-Refused.line c.in-Err-Refused.rule =
    subst (λ (text : List ℕ). IsRefusedAt text c.in-Err-Refused.line c.in-Err-Refused.rule) whole
    (subst (IsUnaccepted (take (length c.args.text.now - c.args.saved.now.rest) behind)) c.in-Err-Refused.field-0-is c.in-Err-Refused.ensures.refused) in
    let before = saved_lines_few c.args.text.now c.args.saved.now c.requires.saved in
    let line = refused_low behind c.in-Err-Refused.line c.in-Err-Refused.rule refused in
    omega (arith, before, line, c.requires.within)

pub returns-in-Err-Refused-clause-refused : goal.returns-in-Err-Refused-clause-refused
returns-in-Err-Refused-clause-refused c =
    let behind = text_behind c.args.text.now c.args.saved.now in
    let whole : take (length c.args.text.now - c.args.saved.now.rest) behind ≡ behind =
    take_all (length c.args.text.now - c.args.saved.now.rest) behind (let long = length-drop c.args.saved.now.rest c.args.text.now in omega (arith, long)) in
    let refused : IsRefusedAt behind c.in-Err-Refused.line c.in-Err-Refused.rule =
    subst (λ (text : List ℕ). IsRefusedAt text c.in-Err-Refused.line c.in-Err-Refused.rule) whole
    (subst (IsUnaccepted (take (length c.args.text.now - c.args.saved.now.rest) behind)) c.in-Err-Refused.field-0-is c.in-Err-Refused.ensures.refused) in
    (c.in-Err-Refused.line, refused, c.line_in_whole.ensures)
