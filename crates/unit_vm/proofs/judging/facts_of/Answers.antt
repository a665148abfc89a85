use Rattle.std.proofs.Common.{List, map, sym, ◌∙◌, subst}
use Rattle.unit_vm.specs.declared.instruction.Instruction.{Instruction}
use Rattle.unit_vm.specs.Programs.{output_part, with_limit}
use Rattle.unit_vm.specs.Judged.{AreJudged, AreNoParts, step_part}
use Rattle.unit_vm.proofs.Judgements.{some_of, none_of}
use Rattle.unit_vm.proofs.ProgramFacts.{has_facts, no_outputs, no_others}
use Rattle.unit_vm.proofs.judging.facts_of.Goals as goal

pub returns-in-None-clause-none : goal.returns-in-None-clause-none
returns-in-None-clause-none c =
    no_outputs c.args.program.now
    (subst (λ (outputs : List (List Instruction)). AreNoParts c.args.program.now.sizes (map output_part outputs)) c.as_slice.ensures
    (none_of (AreNoParts c.args.program.now.sizes (map output_part c.as_slice.result.now)) _ c.in_ok-facts.ensures.none c.in-None.is))

pub returns-in-None-2-clause-none : goal.returns-in-None-2-clause-none
returns-in-None-2-clause-none c =
    no_others c.args.program.now
    (subst (λ (step : List Instruction). AreNoParts c.args.program.now.sizes (with_limit c.args.program.now.limit (step_part step)))
    c.as_slice-2.ensures
    (none_of (AreNoParts c.args.program.now.sizes (with_limit c.args.program.now.limit (step_part c.as_slice-2.result.now)))
    _ c.in_ok-facts-2.ensures.none c.in-None-2.is))

pub returns-clause-some : goal.returns-clause-some
returns-clause-some c =
    has_facts c.args.program.now c.in-Some.facts c.in-Some-2.facts c.merge-all.result c.slots.result
    (sym c.is_sized.ensures ∙ c.if-not-is_sized.false)
    (subst (λ (outputs : List (List Instruction)). AreJudged c.args.program.now.sizes (map output_part outputs) c.in-Some.facts)
    c.as_slice.ensures
    (some_of (AreJudged c.args.program.now.sizes (map output_part c.as_slice.result.now)) _ _ c.in_ok-facts.ensures.some c.in-Some.is))
    (subst (λ (step : List Instruction). AreJudged c.args.program.now.sizes (with_limit c.args.program.now.limit (step_part step)) c.in-Some-2.facts)
    c.as_slice-2.ensures
    (some_of (AreJudged c.args.program.now.sizes (with_limit c.args.program.now.limit (step_part c.as_slice-2.result.now)))
    _ _ c.in_ok-facts-2.ensures.some c.in-Some-2.is))
    c.merge-all.ensures c.slots.ensures
