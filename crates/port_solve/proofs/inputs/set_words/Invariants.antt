use Rattle.std.proofs.Common.{◌≡◌, drop}
use Rattle.std.specs.List.{AllByRecursion}
use Rattle.port_solve.specs.Solved.{with_words}
use Rattle.unit_tree.specs.Compositions.{run_of}
use Rattle.unit_tree.specs.Given.{IsInputWord}
use Rattle.port_solve.proofs.inputs.set_words.Given as goal

abbrev pub invariant-loop-start : goal.invariant-loop-start
invariant-loop-start g l = record {
  inputs : with_words (g.G.Gets.inputs l.gets) (drop l.start-index l.starts) ≡ with_words (g.G.Gets.inputs l.initial.gets) l.starts;
  fits : AllByRecursion (λ start. IsInputWord (run_of (g.G.Gets.system l.gets)) start.at.instance start.at.input start.word) (drop l.start-index l.starts);
  states : g.G.Gets.states l.gets ≡ g.G.Gets.states l.initial.gets;
  system : g.G.Gets.system l.gets ≡ g.G.Gets.system l.initial.gets;
}
