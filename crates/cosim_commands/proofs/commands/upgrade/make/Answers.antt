use Rattle.std.proofs.Common.{Err, sym, subst, inl, inr, refl, ap, ◌∙◌, length, ◌≤◌}
use Rattle.cosim_call.specs.Coming.{Makes}
use Rattle.cosim_call.specs.declared.coming.Stopped.TheVariants as stopped
use Rattle.unit_tree.specs.Printable.{IsPrintable}
use Rattle.model_rules.specs.Limits.{text_limit}
use Rattle.unit_tree.specs.WellFormed.{IsWellFormed}
use Rattle.unit_tree.specs.declared.system.System.{System}
use Rattle.unit_upgrade.specs.Upgrades.{upgraded}
use Rattle.cosim_answers.specs.Accepted.{printed_text}
use Rattle.cosim_answers.specs.Answer.{Answers}
use Rattle.cosim_answers.specs.Serving.{Upgrades}
use Rattle.command_line.specs.declared.commands.Command.TheVariants.{Upgrade}
use Rattle.cosim_answers.proofs.MakingLaws.{handed_on, made, not_accepted}
use Rattle.cosim_answers.proofs.UpgradeLaws.{accepted_is_printable, not_upgraded}
use Rattle.cosim_commands.proofs.commands.upgrade.make.Goals as goal

pub upgraded-requires : goal.upgraded-requires
upgraded-requires c = record {
  printable = subst IsPrintable (sym c.source.ensures)
      (accepted_is_printable c.args.text.now c.in_ok-read.read.checked c.in_ok-read.read.lines c.in_ok-read.ensures.0);
  well_formed = subst IsWellFormed (sym c.source.ensures) c.in_ok-read.ensures.0.well_formed;
}

pub returns-in_err-read : goal.returns-in_err-read
returns-in_err-read c =
    handed_on (Makes (Answers Upgrade c.args.text.now)) c.from_residual.result c.in_err-read.field-0.0 c.from_residual.ensures.1
    (not_accepted Upgrade c.args.text.now c.in_err-read.field-0.0 (λ line rule refused. inl refused) c.in_err-read.ensures)

pub returns-in_err-made : goal.returns-in_err-made
returns-in_err-made c =
    handed_on (Makes (Answers Upgrade c.args.text.now)) c.from_residual-in_err-made.result c.in_err-made.field-0.0
    c.from_residual-in_err-made.ensures.1
    (not_upgraded c.args.text.now c.in_ok-read.read.checked c.in_ok-read.read.lines c.in_ok-read.ensures.0 c.in_err-made.field-0.0
    (subst (λ (s : System). Upgrades s (Err c.in_err-made.field-0.0)) c.source.ensures c.in_err-made.ensures))

pub returns-in_err-canonical : goal.returns-in_err-canonical
returns-in_err-canonical c =
    handed_on (Makes (Answers Upgrade c.args.text.now)) c.from_residual-in_err-canonical.result stopped.NoMemory
    c.from_residual-in_err-canonical.ensures.1 tt

pub returns : goal.returns
returns c =
    let same = c.source.ensures in
    made (Answers Upgrade c.args.text.now) (printed_text (upgraded c.in_ok-read.read.checked)) c.in_ok-canonical.field-0
    (c.in_ok-canonical.ensures ∙ ap printed_text (c.in_ok-made.ensures.0 ∙ ap upgraded same))
    (inr (record {
      system = c.in_ok-read.read.checked;
      lines = c.in_ok-read.read.lines;
      accepted = c.in_ok-read.ensures.0;
      is = record {
        fits = subst (λ (s : System). length (printed_text (upgraded s)) ≤ text_limit) same c.in_ok-made.ensures.1;
        is = refl;
      };
    }))
