-- Lists of the agreed steps of stands, and how many steps of instances a run made.
use Rattle.std.proofs.Common.{◌≡◌, ◌∙◌, true, false, List, [], ◌∷◌, ◌++◌, inl, inr, refl, ap, sym, arith}
use Rattle.std.proofs.lemmas.List.Elements.{filter_map-append}
use Rattle.std.specs.List.{cons_option}
use Rattle.step_log.specs.Reports.{plain_step, plain_steps}
use Rattle.trace_core.specs.Runs.{RunState, is_ended}
use Rattle.trace_core.specs.Settling.{Settled}
use Rattle.trace_core.specs.declared.phase.Phase.TheVariants.{Ended}
use Rattle.trace_core.specs.declared.phase.Settle.{Settle}
use Rattle.trace_core.specs.declared.phase.Settle.TheVariants as settle
use Rattle.trace_plan.specs.Plans.{Planned}
use Rattle.trace_rows.proofs.RunEnds.{IsFinished}
use Rattle.unit_tree.specs.Compositions.{Composition}
use Rattle.unit_tree.specs.Successor.{Position}
use Rattle.unit_tree.specs.Trace.{Stand, cells_of}
use Rattle.unit_tree.specs.declared.ending.Ending.{Ending}

pub not_ended : (r : RunState) → is_ended r.phase ≡ false → (ending : Ending) → r.phase ≡ Ended ending → ⊥
not_ended r going ending is = let both : true ≡ false = ap is_ended (sym is) ∙ going in absurd (cc)

-- ---- Steps

pub steps-append : (run : Composition) (passed later : List Stand) → plain_steps run (passed ++ later) ≡ plain_steps run passed ++ plain_steps run later
unfolding plain_steps
steps-append run passed later = filter_map-append (plain_step run) passed later

pub step_of_one : (run : Composition) (here : Stand) → plain_steps run (here ∷ []) ≡ cons_option (plain_step run here) []
unfolding plain_steps
step_of_one run here = refl

pub no_steps : (run : Composition) → plain_steps run [] ≡ []
unfolding plain_steps
no_steps run = refl

-- ---- Steps of instances

-- Settling takes no answers.
pub settled_alone : (old new : RunState) (told : Settle) → Settled old new told → new.found ≡ old.found
settled_alone old new settle.Redo (due, is) = ap (λ (r : RunState). r.found) is
settled_alone old new settle.Row (moves, known) = ap (λ (r : RunState). r.found) moves.is
settled_alone old new settle.Ended (inl (moves, unknown)) = ap (λ (r : RunState). r.found) moves.is
settled_alone old new settle.Ended (inr ends) = ap (λ (r : RunState). r.found) ends.is

-- A run that took no answers made all steps of its stands itself.
pub own_is : (plan : Planned) (from : Position) (passed : List Stand) (r : RunState) → IsFinished plan from passed r → r.found ≡ 0
    → r.own ≡ cells_of plan.run (passed ++ (r.stand ∷ []))
own_is plan from passed r over alone = let filled = over.filled in omega (arith, alone, filled)
