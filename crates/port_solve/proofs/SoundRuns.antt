-- The plain form of a judged system is sound.
use Rattle.std.proofs.Common.{inl, inr, sym, subst}
use Rattle.std.specs.Prelude.{◌==◌, if◌then◌else◌}
use Rattle.port_solve.specs.Sound.{IsSound, RunsAreSound}
use Rattle.unit_tree.specs.Compositions.{composition_of}
use Rattle.run_laws.proofs.EventLaws.{version_1_without_events, plain_form_1, plain_of_without_events}
use Rattle.run_laws.proofs.PlainOrders.{plain_of}
use Rattle.port_solve.proofs.LinkedSystems.{is_sound}
use Rattle.port_solve.proofs.PlainLinks.{links_without_events, plain_links}
use Rattle.list_laws.proofs.Truths.{one_or_two}

pub runs_are_sound : RunsAreSound
runs_are_sound system ranged kept = elim (one_or_two system.version ranged.version.0 ranged.version.1) [
  | inl first ↦
      subst (λ run. IsSound (composition_of run)) (sym (plain_form_1 system first))
      (is_sound system (version_1_without_events system ranged first) (links_without_events system ranged kept))
  | inr second ↦
      subst (λ version. IsSound (composition_of (if version == 2 then plain_of system else system))) (sym second)
      (is_sound (plain_of system) (plain_of_without_events system) (plain_links system ranged kept))
]
