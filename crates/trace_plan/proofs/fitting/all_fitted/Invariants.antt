use Rattle.trace_plan.specs.Fitting.{AreImagesOf}
use Rattle.trace_plan.proofs.FittingLaws.{IsFront}
use Rattle.unit_tree.specs.Plain.{plain_form}
use Rattle.trace_plan.proofs.fitting.all_fitted.Given as goal

abbrev pub invariant-loop-instance : goal.invariant-loop-instance
invariant-loop-instance l = record {
  front : IsFront (plain_form l.checked) l.instance-items l.instance-index l.all.items;
  made : AreImagesOf l.checked l.made.items;
}
