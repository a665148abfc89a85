use Rattle.std.proofs.Common.{◌≡◌, drop}
use Rattle.std.specs.List.{AllByRecursion}
use Rattle.port_solve.specs.Solved.{with_words, all_with}
use Rattle.unit_tree.specs.Compositions.{run_of}
use Rattle.unit_tree.specs.Given.{IsInputWord}
use Rattle.port_solve.proofs.inputs.set_all.Given as goal

abbrev pub invariant-loop-at : goal.invariant-loop-at
invariant-loop-at g l = record {
  inputs : with_words (g.G.Gets.inputs l.gets) (all_with l.word (drop l.at-index l.feeds))
      ≡ with_words (g.G.Gets.inputs l.initial.gets) (all_with l.word l.feeds);
  fits : AllByRecursion (λ at. IsInputWord (run_of (g.G.Gets.system l.gets)) at.instance at.input l.word) (drop l.at-index l.feeds);
  states : g.G.Gets.states l.gets ≡ g.G.Gets.states l.initial.gets;
  system : g.G.Gets.system l.gets ≡ g.G.Gets.system l.initial.gets;
}
