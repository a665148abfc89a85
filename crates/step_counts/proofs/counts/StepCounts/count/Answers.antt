use Rattle.std.proofs.Common.{rules, ◌∙◌, length, map, ap}
use Rattle.std.proofs.lemmas.List.{length-map}
use Rattle.list_laws.proofs.Vectors.{items_put}
use Rattle.step_counts.proofs.CountLaws.{count_more}
use Rattle.step_counts.specs.Counting.{with_step}
use Rattle.step_counts.proofs.counts.StepCounts.count.Goals as goal

pub returns : goal.returns
returns c = λ instances steps is.
    let value = c.as_mut_slice.ensures.value in
    let each = c.count_for_each.ensures ∙ ap (map (λ counts. with_step counts c.args.step)) value in
    count_more instances steps c.args.step c.args.self.now _ (search rules) (search rules) (search rules) (search rules)
    (items_put c.args.self.now.instances c.count_for_each.new.instances
    (ap length each ∙ length-map c.args.self.now.instances.items _)
    ∙ each) is
