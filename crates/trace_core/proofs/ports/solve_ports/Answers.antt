use Rattle.std.proofs.Common.{◌≡◌, ◌∙◌, ap, sym, subst}
use Rattle.port_solve.specs.Solved.{HaveInputs}
use Rattle.trace_core.proofs.LengthLaws.{inputs_as_long}
use Rattle.unit_tree.specs.Compositions.{Composition, run_of}
use Rattle.trace_core.proofs.ports.solve_ports.Goals as goal

pub returns-in-Ok-clause-as_long : goal.returns-in-Ok-clause-as_long
returns-in-Ok-clause-as_long c =
    let same : c.solve-solved.new.gets.plan.run ≡ c.args.units.now.plan.run =
    c.count-2.ensures.run ∙ ap run_of c.solve-solved.ensures.system ∙ sym c.count.ensures.run in
    inputs_as_long c.args.units.now.plan.run c.args.units.now.inputs c.solve-solved.new.gets.inputs c.count.ensures.inputs
    (subst (λ (run : Composition). HaveInputs run c.solve-solved.new.gets.inputs) same c.count-2.ensures.inputs)

pub returns-in-Err-clause-as_long : goal.returns-in-Err-clause-as_long
returns-in-Err-clause-as_long c =
    let same : c.solve-solved.new.gets.plan.run ≡ c.args.units.now.plan.run =
    c.count-2.ensures.run ∙ ap run_of c.solve-solved.ensures.system ∙ sym c.count.ensures.run in
    inputs_as_long c.args.units.now.plan.run c.args.units.now.inputs c.solve-solved.new.gets.inputs c.count.ensures.inputs
    (subst (λ (run : Composition). HaveInputs run c.solve-solved.new.gets.inputs) same c.count-2.ensures.inputs)
