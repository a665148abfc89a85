use Rattle.std.proofs.Common.{◌≡◌, ◌∙◌, ℕ, List, bytes_eq, subst}
use Rattle.std.specs.List.{filter}
use Rattle.nest_names.specs.Tables.{items_at, places_of}
use Rattle.nest_names.proofs.names.GroupNames.new.Goals as goal

pub invariant_of-result : goal.invariant_of-result
invariant_of-result c = (
  c.in_ok-instances.ensures ∙ c.as_slice.ensures,
  c.in_ok-ins.ensures ∙ c.as_slice-2.ensures,
  c.in_ok-outs.ensures ∙ c.as_slice-3.ensures,
  subst (λ binds. (q : List ℕ) → items_at binds (places_of c.in_ok-lines.lines q) ≡ filter (λ bind. bytes_eq bind.port q) binds) c.as_slice-4.ensures
      c.in_ok-lines.ensures,
)
