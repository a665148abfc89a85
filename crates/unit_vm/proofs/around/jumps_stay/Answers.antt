use Rattle.std.proofs.Common.{◌≡◌, length, refl, subst, arith, pos}
use Rattle.std.proofs.lemmas.Option.{slice_get-get_or}
use Rattle.unit_vm.specs.declared.instruction.Instruction.TheVariants.{Push}
use Rattle.unit_vm.proofs.RunProgress.{read_at}
use Rattle.unit_vm.proofs.JumpsStaying.{stay_more, all_stay, one_leaves, stays_told, StayBelow}
use Rattle.unit_vm.proofs.around.jumps_stay.Goals as goal

pub returns-then-not-stays : goal.returns-then-not-stays
returns-then-not-stays c = (
  λ bad. absurd (cc),
  λ h. absurd (one_leaves c.args.code.now c.args.table.now c.requires c.loop-place.place (read_at c.args.code.now c.loop-place.place)
      (slice_get-get_or c.args.code.now c.loop-place.place (Push (pos 0)) c.loop-place-test.true)
      (stays_told _ _ _ _ _ _ _ c.stays.ensures c.flow.ensures c.as_slice.ensures c.if-not-stays.true) h),
)

pub loop-place-preserved : goal.loop-place-preserved
loop-place-preserved c =
    stay_more c.args.code.now c.args.table.now c.requires c.loop-place.place (read_at c.args.code.now c.loop-place.place)
    (slice_get-get_or c.args.code.now c.loop-place.place (Push (pos 0)) c.loop-place-test.true)
    (stays_told _ _ _ _ _ _ _ c.stays.ensures c.flow.ensures c.as_slice.ensures c.if-not-stays.false) c.loop-place.invariant

pub returns : goal.returns
returns c =
    let end : c.loop-place.place ≡ length c.args.code.now = omega arith in (
      λ fine. all_stay c.args.code.now c.args.table.now c.requires (subst (StayBelow c.args.code.now c.args.table.now c.requires) end c.loop-place.invariant),
      λ h. refl,
    )
