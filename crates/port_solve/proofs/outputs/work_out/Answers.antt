use Rattle.std.proofs.Common.{◌∙◌, set, ap, rules, w64, FitsSigned}
use Rattle.std.proofs.lemmas.Int.{to_z-of_z}
use Rattle.std.specs.Option.{option_and_then}
use Rattle.std.specs.Result.{result_ok}
use Rattle.port_solve.specs.Solved.{ports_told}
use Rattle.port_solve.proofs.InputsSet.{told_known, told_unknown}
use Rattle.port_solve.proofs.outputs.work_out.Goals as goal

pub set_all-requires : goal.set_all-requires
set_all-requires g c =
    let fits : FitsSigned w64 c.in-Some-Ok.word = search rules in
    let is = rw c.in-Some-Ok.field-0-is at c.in-Some-Ok.ensures.outcome in
    let all = rw (← ap (option_and_then result_ok) is) at c.requires.fits in
    rw (to_z-of_z w64 _ fits, c.as_slice.ensures, c.outcome.ensures.system) all

pub returns-in-Some-Ok-clause-told : goal.returns-in-Some-Ok-clause-told
returns-in-Some-Ok-clause-told g c =
    let fits : FitsSigned w64 c.in-Some-Ok.word = search rules in
    let is = rw c.in-Some-Ok.field-0-is at c.in-Some-Ok.ensures.outcome in
    let told = told_known c.args.known.now c.args.ports.now c.args.place c.in-Some-Ok.word c.requires.same_length c.requires.place in
    rw (to_z-of_z w64 _ fits) (told ∙ ap (λ word. set (ports_told c.args.known.now c.args.ports.now) c.args.place word) (ap (option_and_then result_ok) is))

pub returns-in-Some-Err-clause-told : goal.returns-in-Some-Err-clause-told
returns-in-Some-Err-clause-told g c =
    let is = rw c.in-Some-Err.field-0-is at c.in-Some-Err.ensures.outcome in
    told_unknown c.args.known.now c.args.ports.now c.args.place c.requires.same_length c.requires.place
    ∙ ap (λ word. set (ports_told c.args.known.now c.args.ports.now) c.args.place word) (ap (option_and_then result_ok) is)

pub returns-in-None-clause-told : goal.returns-in-None-clause-told
returns-in-None-clause-told g c =
    told_unknown c.args.known.now c.args.ports.now c.args.place c.requires.same_length c.requires.place
    ∙ ap (λ word. set (ports_told c.args.known.now c.args.ports.now) c.args.place word) (ap (option_and_then result_ok) c.in-None.ensures.outcome)
