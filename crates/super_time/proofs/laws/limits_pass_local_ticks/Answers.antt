use Rattle.super_time.proofs.LimitLaws.{passes, is_least}
use Rattle.super_time.proofs.laws.limits_pass_local_ticks.Goals as goal

pub returns : goal.returns
returns c = λ factor t local some. (passes factor t local some, λ h. is_least factor t local h some)
