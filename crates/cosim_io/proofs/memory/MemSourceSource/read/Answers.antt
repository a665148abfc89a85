use Rattle.std.proofs.Common.{◌≡◌, drop, ap}
use Rattle.cosim_io.specs.Scripted.{ScriptedSource}
use Rattle.cosim_io.proofs.MemoryLemmas.{left_slice, taken_front}
use Rattle.cosim_io.proofs.memory.MemSourceSource.read.Goals as goal

pub returns-clause-taken : goal.returns-clause-taken
returns-clause-taken c =
    let bytes = c.self.inside.bytes.items in
    let taken = c.self.inside.taken in
    let left : drop taken bytes ≡ c.args.self.now.left = ap (λ (s : ScriptedSource). s.left) c.self.view_is in
    let slice = left_slice bytes c.deref-2.result.now taken c.deref-2.ensures.value in
    rw (← left)
    (taken_front bytes _ c.args.into.now c.copy_front-count.new.into taken c.copy_front-count.result slice c.copy_front-count.ensures.count
    c.copy_front-count.ensures.copied)
