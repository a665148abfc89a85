use Rattle.std.proofs.Common.{◌≡◌, ◌++◌, drop}
use Rattle.sub_flat.proofs.flat.copied_settings.Given as goal

abbrev pub invariant-loop-setting : goal.invariant-loop-setting
invariant-loop-setting l = l.made ++ drop l.setting-index l.settings ≡ l.settings
