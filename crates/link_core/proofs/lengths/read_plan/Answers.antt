use Rattle.std.proofs.Common.{◌≡◌, ◌∙◌, ap, subst, sym}
use Rattle.std.specs.List.{AllByRecursion}
use Rattle.link_laws.specs.Lengths.{AreOfWords, LimitHasWords}
use Rattle.link_laws.proofs.LengthLaws.{systems_are_of_words}
use Rattle.link_core.proofs.lengths.read_plan.Goals as goal
use Rattle.unit_tree.specs.Compositions.{run_of}
use Rattle.unit_tree.specs.Plain.{plain_form}
use Rattle.unit_tree.specs.declared.system.System.{System}

pub returns : goal.returns
returns c =
    let same : c.args.plan.now.run ≡ run_of c.checked.result.now = c.checked.ensures.run ∙ ap run_of (sym c.checked.ensures.system) in
    let have = subst (λ (system : System). AllByRecursion LimitHasWords system.units) c.system.ensures.plain
    (subst (AllByRecursion LimitHasWords) c.as_slice.ensures c.read_limits.ensures) in
    subst AreOfWords (sym same) (systems_are_of_words (plain_form c.checked.result.now) have)
