use Rattle.std.proofs.Common.{option_copied, sym, ap, ◌∙◌}
use Rattle.unit_exec.proofs.ImageLaws.{checked_fits}
use Rattle.unit_exec.proofs.image.compile.Goals as goal

pub image_of-requires : goal.image_of-requires
image_of-requires c =
    checked_fits c.args.checked.now c.system-system.result.now c.args.unit c.unwrap-unit.result.now c.args.params.now c.system-system.ensures.ranged
    c.system-system.ensures.well_formed c.system-system.ensures.plain
    (sym c.get.ensures.value ∙ ap option_copied c.unwrap-unit.ensures) c.requires.one_each
