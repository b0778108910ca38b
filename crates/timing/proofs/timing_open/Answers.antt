use Rattle.std.proofs.Common.{Ok, Err, refl}
use Rattle.timing.proofs.timing_open.Goals as goal

pub returns-in-Ok : goal.returns-in-Ok
returns-in-Ok c = record { answer = Ok tt; verdict = c.in-Ok.ensures.0.verdict; number = refl }

pub returns-in-Err : goal.returns-in-Err
returns-in-Err c = record { answer = Err c.in-Err.fault; verdict = c.in-Err.ensures.verdict; number = c.number.ensures }
