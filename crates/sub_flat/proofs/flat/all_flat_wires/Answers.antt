use Rattle.std.proofs.Common.{List, [], arith, subst}
use Rattle.nest_text.proofs.NestAnswers.{handed_on}
use Rattle.nest_names.specs.Flattening.{flat_wires, levels, top}
use Rattle.sub_flat.specs.FlatReading.{MadeOver, MadeWithin, PutsOver}
use Rattle.sub_flat.specs.declared.fault.Unflat.{Unflat}
use Rattle.sub_flat.specs.declared.fault.Unflat.TheVariants as unflat
use Rattle.unit_tree.specs.declared.system.Wire.{Wire}
use Rattle.sub_flat.proofs.flat.all_flat_wires.Goals as goal

made_over : (all : List Wire) (why : Unflat) → PutsOver 2048 [] all why → MadeOver 2048 all why
made_over all unflat.TooLarge over = omega (arith, over)
made_over all unflat.NoMemory over = over

pub returns-in_err-put_wires : goal.returns-in_err-put_wires
returns-in_err-put_wires c =
    let nest = c.args.names.now in
    let all = flat_wires nest levels top in
    let why = c.in_err-put_wires.field-0.0 in
    handed_on c.from_residual-in_err-put_wires.result why (MadeWithin 2048 all) c.from_residual-in_err-put_wires.ensures.1
    (made_over all why
    (subst (λ (old : List Wire). PutsOver 2048 old all why) c.new-wires.ensures
    (subst (λ scope. PutsOver 2048 c.new-wires.result (flat_wires nest levels scope) why) c.top.ensures c.in_err-put_wires.ensures)))
