use Rattle.std.proofs.Common.{◌≡◌, ◌∙◌, ap, arith, get_or, length, pos, rules, set, w64, SFits}
use Rattle.std.proofs.lemmas.Int.{to_z-of_z}
use Rattle.unit_exec.proofs.SlotLaws.{put_more, put_single}
use Rattle.unit_exec.proofs.calls.put.Goals as goal

pub loop-place-preserved : goal.loop-place-preserved
loop-place-preserved c = grind (arith, to_z-of_z, put_more c.args.slots.now c.args.words.now c.loop-place.slots c.args.first c.loop-place.place)

pub returns-in-len1 : goal.returns-in-len1
returns-in-len1 c =
    let one : length c.args.words.now ≡ 1 = omega (arith, c.in-len1.len_at_least, c.in-len1.len_below) in
    let fits : SFits w64 (get_or c.args.words.now 0 (pos 0)) = search rules in
    ap (set c.args.slots.now c.args.first) (to_z-of_z w64 (get_or c.args.words.now 0 (pos 0)) fits)
    ∙ put_single c.args.slots.now c.args.first c.args.words.now one (let room = c.requires in omega (arith, room, one))
