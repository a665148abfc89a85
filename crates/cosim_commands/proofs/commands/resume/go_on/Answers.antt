use Rattle.std.proofs.Common.{Err, ap}
use Rattle.trace_rows.specs.declared.fault.CrewFault.{CrewFault}
use Rattle.cosim_commands.proofs.commands.resume.go_on.Goals as goal

pub returns-in-Ok : goal.returns-in-Ok
returns-in-Ok g c = (c.in-Ok.ensures.whole, c.in-Ok.ensures.cause.same (λ e. absurd (cc)))

pub returns-in-Err-WriteFault : goal.returns-in-Err-WriteFault
returns-in-Err-WriteFault g c =
    (c.in-Err-WriteFault.ensures.front, c.in-Err-WriteFault.ensures.cause.failed (ap (λ (e : CrewFault). Err e) c.in-Err-WriteFault.field-0-is))

pub returns-in-Err-NoMemory : goal.returns-in-Err-NoMemory
returns-in-Err-NoMemory g c = (c.in-Err-NoMemory.ensures.front, c.in-Err-NoMemory.ensures.cause.same (λ e. absurd (cc)))
