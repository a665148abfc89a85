use Rattle.std.proofs.Common.{◌≡◌, ◌∙◌, ap, inr, length, sym, true}
use Rattle.std.specs.Prelude.{nat_lt}
use Rattle.std.specs.List.{list_any}
use Rattle.unit_tree.specs.declared.system.Instance.{Instance}
use Rattle.nest_names.specs.Flattening.{flat_of}
use Rattle.sub_flat.proofs.LongNames.{long_names}
use Rattle.sub_flat.proofs.flat.named_instances.Goals as goal

pub returns-then-has_long_name : goal.returns-then-has_long_name
returns-then-has_long_name c =
    let flat = flat_of c.args.names.now in
    let told : list_any (λ (instance : Instance). nat_lt 32 (length instance.name)) flat.instances ≡ true =
    sym (c.has_long_name.ensures
    ∙ ap (list_any (λ (instance : Instance). nat_lt 32 (length instance.name))) (c.as_slice.ensures ∙ c.in_ok-instances.ensures.0))
    ∙ c.if-has_long_name.true in inr (inr (long_names flat told))
