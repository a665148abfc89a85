use Rattle.std.proofs.Common.{ℕ, sym, ◌∙◌, ap}
use Rattle.unit_vm.specs.Valid.{greatest}
use Rattle.unit_vm.specs.Tables.{heights_in, IsLoopTable, HasHeights, IsReached}
use Rattle.std.specs.Prelude.{Vec, Option}
use Rattle.std.specs.declared.alloc.Global.{Global}
use Rattle.unit_vm.proofs.Judgements.{allowed_told, not_allowed, counts, aheads, part_from, jumps_in, some_of}
use Rattle.unit_vm.proofs.judging.judge_part.Goals as goal

pub returns-then-not-are_allowed-clause-none : goal.returns-then-not-are_allowed-clause-none
returns-then-not-are_allowed-clause-none c =
    not_allowed c.args.sizes c.args.role c.args.code.now c.are_allowed.result c.are_allowed.ensures c.if-not-are_allowed.true

pub loop_table-requires : goal.loop_table-requires
loop_table-requires c =
    counts c.args.sizes c.args.code.now
    (allowed_told c.args.sizes c.args.role c.args.code.now (sym c.are_allowed.ensures ∙ c.if-not-are_allowed.false)).arguments

pub returns-then-not-jumps_stay-clause-none : goal.returns-then-not-jumps_stay-clause-none
returns-then-not-jumps_stay-clause-none c =
    λ heights v.
    absurd (let bad = c.jumps_stay.ensures.1 (jumps_in c.args.sizes c.args.role c.args.code.now heights v) in let e = c.if-not-jumps_stay.true in cc)

pub height_table-requires : goal.height_table-requires
height_table-requires c =
    aheads c.args.sizes c.args.code.now
    (allowed_told c.args.sizes c.args.role c.args.code.now (sym c.are_allowed.ensures ∙ c.if-not-are_allowed.false)).arguments

pub returns-in-Some-2-clause-some : goal.returns-in-Some-2-clause-some
returns-in-Some-2-clause-some c =
    let allowed = allowed_told c.args.sizes c.args.role c.args.code.now (sym c.are_allowed.ensures ∙ c.if-not-are_allowed.false) in
    let table = some_of (λ table. IsLoopTable c.args.code.now table) _ _ c.in_ok-table.ensures.some c.in-Some.is in
    let found =
    some_of (λ (table : Vec (Option ℕ) Global). HasHeights c.args.code.now (heights_in table.items)
    × IsReached c.args.code.now) _ _ c.in_ok-heights.ensures.some c.in-Some-2.is in
    record {
      heights = heights_in c.in-Some-2.heights.items;
      valid = part_from c.args.sizes c.args.role c.args.code.now (heights_in c.in-Some-2.heights.items) allowed table.loops
          (c.jumps_stay.ensures.0 c.if-not-jumps_stay.false) found.0 found.1;
      stack = c.tallest.ensures ∙ ap (λ items. greatest (heights_in items)) c.as_slice.ensures.value;
      loops = table.deepest;
      cost = table.cost;
    }
