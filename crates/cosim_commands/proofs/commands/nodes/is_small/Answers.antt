use Rattle.std.proofs.Common.{◌≡◌, ◌⊎◌, ◌*◌, ◌<◌, ◌≤◌, ℕ, true, false, length, max, inl, inr, sym, ap, ◌∙◌, arith}
use Rattle.std.proofs.lemmas.Bool.Decides.{leb_tells}
use Rattle.std.specs.Prelude.{nat_le}
use Rattle.unit_tree.specs.Compositions.{Composition, run_of}
use Rattle.unit_tree.specs.Routes.{routes_of}
use Rattle.unit_tree.specs.declared.order.Routes.{Routes}
use Rattle.cosim_answers.specs.NodesAnswers.{nodes_limit, outputs_run, size_for_nodes}
use Rattle.cosim_answers.proofs.NodesLaws.{outputs_counted}
use Rattle.cosim_commands.proofs.commands.nodes.is_small.Goals as goal

-- The product is the size.
size_as : (run : Composition) (rows widest outputs instances : ℕ) (routes : Routes) → rows ≡ run.row_budget → widest ≡ max outputs instances
    → outputs ≡ length routes.outputs → routes ≡ routes_of run → instances ≡ length run.members → rows * widest ≡ size_for_nodes run
size_as run rows widest outputs instances routes are_rows is_widest are_outputs are_routes are_instances =
    ap (λ n. n * widest) are_rows
    ∙ ap (λ n. run.row_budget * n)
    (is_widest
    ∙ ap (λ n. max n instances) (are_outputs ∙ ap (λ (r : Routes). length r.outputs) are_routes ∙ outputs_counted run)
    ∙ ap (λ n. max (length (outputs_run run)) n) are_instances)

pub returns-in-Some : goal.returns-in-Some
returns-in-Some c =
    ap (λ size. nat_le size nodes_limit)
    (c.in-Some.ensures.1
    ∙ size_as (run_of c.args.read.now.checked) c.row_limit_of.result c.max.result c.len-outputs.result c.from-instances.result c.routes.result.now
    c.row_limit_of.ensures c.max.ensures c.len-outputs.ensures (c.routes.ensures.routes ∙ c.requires.routes)
    (c.from-instances.ensures ∙ c.instances_of.ensures))

-- A product that does not fit a word is more than the limit.
above : (product size : ℕ) → (product < 18446744073709551616 → ⊥) → product ≡ size → false ≡ nat_le size nodes_limit
above product size large is = by (leb_tells size nodes_limit)
  where
    by : ((nat_le size nodes_limit ≡ true) × (size ≤ nodes_limit)) ⊎ ((nat_le size nodes_limit ≡ false) × (nodes_limit < size)) → false ≡ nat_le size nodes_limit
    by (inl (told, small)) = absurd (large (omega (arith, is, small)))
    by (inr (told, more)) = sym told

pub returns-in-None : goal.returns-in-None
returns-in-None c =
    above (c.row_limit_of.result * c.max.result) (size_for_nodes (run_of c.args.read.now.checked)) c.in-None.ensures
    (size_as (run_of c.args.read.now.checked) c.row_limit_of.result c.max.result c.len-outputs.result c.from-instances.result c.routes.result.now
    c.row_limit_of.ensures c.max.ensures c.len-outputs.ensures (c.routes.ensures.routes ∙ c.requires.routes)
    (c.from-instances.ensures ∙ c.instances_of.ensures))
