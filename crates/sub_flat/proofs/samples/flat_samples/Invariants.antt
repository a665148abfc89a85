use Rattle.std.proofs.Common.{◌≡◌, ◌++◌, drop, map}
use Rattle.nest_names.specs.Flattening.{flat_sample}
use Rattle.sub_flat.proofs.samples.flat_samples.Given as goal

abbrev pub invariant-loop-sample : goal.invariant-loop-sample
invariant-loop-sample l = l.made ++ map (flat_sample l.names) (drop l.sample-index l.samples) ≡ map (flat_sample l.names) l.samples
