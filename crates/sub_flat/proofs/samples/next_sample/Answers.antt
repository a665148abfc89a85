use Rattle.std.proofs.Common.{◌≡◌, ◌∙◌, ap}
use Rattle.std.specs.Option.{option_map}
use Rattle.nest_names.specs.Flattening.{flat_sample}
use Rattle.unit_tree.specs.declared.system.PortName.{PortName}
use Rattle.nest_ways.proofs.WalkLaws.{ok_more}
use Rattle.sub_flat.proofs.samples.next_sample.Goals as goal

pub returns-in-Some-made_at : goal.returns-in-Some-made_at
returns-in-Some-made_at c =
    let flat = flat_sample c.args.names.now in
    let found = c.in-Some-made_at.one.now in
    ok_more (λ (made : PortName). made ≡ found) (λ (made : PortName). made ≡ flat c.args.sample.now) c.copied_port.result c.copied_port.ensures
    (λ made is. is ∙ c.made_at.ensures flat c.requires.0 found c.requires.1 (ap (option_map (λ one. one.now)) c.in-Some-made_at.is))
