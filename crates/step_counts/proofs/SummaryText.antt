-- The text of a summary, from its two parts.
use Rattle.std.proofs.Common.{◌≡◌, ◌∙◌, ℕ, List, ◌++◌, Option, length, append_assoc, ap, subst}
use Rattle.std.specs.Prelude.{if◌then◌else◌, is_some}
use Rattle.std.specs.List.{count_by}
use Rattle.step_counts.specs.Counts.{IsCountOf, is_longest, is_redone, is_stop}
use Rattle.step_counts.specs.Summaries.{faulted_by, instance_lines, summary_of, totals}
use Rattle.step_counts.specs.declared.counts.InstanceCounts.{InstanceCounts}
use Rattle.step_counts.specs.declared.counts.StepCounts.{StepCounts}
use Rattle.step_counts.specs.declared.step.AgreedStep.{AgreedStep}
use Rattle.unit_tree.specs.declared.ending.Ending.{Ending}
use Rattle.unit_tree.specs.declared.system.System.{System}

-- The summary by the counts.
text_of : (system : System) (steps : List AgreedStep) (ending : Ending) (counts : StepCounts) → IsCountOf (length system.instances) steps counts
    → totals system (if is_some (faulted_by ending) then 1 else 0) counts.steps counts.redone counts.to_stop counts.longest
    ++ instance_lines system (faulted_by ending) counts.instances.items
    ≡ summary_of system steps ending
text_of system steps ending counts is =
    let faults : ℕ = if is_some (faulted_by ending) then 1 else 0 in
    let lines : List InstanceCounts → List ℕ = instance_lines system (faulted_by ending) in
    ap (λ n. totals system faults n counts.redone counts.to_stop counts.longest ++ lines counts.instances.items) is.steps
    ∙ ap (λ n. totals system faults (length steps) n counts.to_stop counts.longest ++ lines counts.instances.items) is.redone
    ∙ ap (λ n. totals system faults (length steps) (count_by is_redone steps) n counts.longest ++ lines counts.instances.items) is.to_stop
    ∙ ap
    (λ n. totals system faults (length steps) (count_by is_redone steps) (count_by (λ step. is_stop step.limiter) steps) n
    ++ lines counts.instances.items) is.longest
    ∙ ap
    (λ all. totals system faults (length steps) (count_by is_redone steps) (count_by (λ step. is_stop step.limiter) steps)
    (count_by (λ step. is_longest step.limiter) steps)
    ++ lines all) is.instances

pub summed : (system : System) (steps : List AgreedStep) (ending : Ending) (counts : StepCounts) (faulted : Option ℕ) (faults : ℕ)
    (before now after : List ℕ) → IsCountOf (length system.instances) steps counts → faulted ≡ faulted_by ending
    → faults ≡ (if is_some faulted then 1 else 0)
    → now ≡ before ++ totals system faults counts.steps counts.redone counts.to_stop counts.longest
    → after ≡ now ++ instance_lines system faulted counts.instances.items → after ≡ before ++ summary_of system steps ending
summed system steps ending counts faulted faults before now after is faulted_is faults_is first rest =
    let faults_so : faults ≡ (if is_some (faulted_by ending) then 1 else 0) = subst (λ f. faults ≡ (if is_some f then 1 else 0)) faulted_is faults_is in
    rest
    ∙ ap (λ text. text ++ instance_lines system faulted counts.instances.items) first
    ∙ append_assoc before (totals system faults counts.steps counts.redone counts.to_stop counts.longest)
    (instance_lines system faulted counts.instances.items)
    ∙ ap
    (λ n. before
    ++ (totals system n counts.steps counts.redone counts.to_stop counts.longest ++ instance_lines system faulted counts.instances.items)) faults_so
    ∙ ap
    (λ f. before
    ++ (totals system (if is_some (faulted_by ending) then 1 else 0) counts.steps counts.redone counts.to_stop counts.longest
    ++ instance_lines system f counts.instances.items)) faulted_is
    ∙ ap (λ text. before ++ text) (text_of system steps ending counts is)
