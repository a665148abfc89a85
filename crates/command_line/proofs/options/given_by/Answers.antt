use Rattle.std.proofs.Common.{◌∙◌}
use Rattle.command_line.specs.Options.{options_of}
use Rattle.command_line.specs.Words.{bytes_of}
use Rattle.command_line.proofs.OptionLaws.{all_given}
use Rattle.command_line.proofs.options.given_by.Goals as goal

pub returns : goal.returns
returns c = c.given_behind.ensures ∙ all_given (options_of (bytes_of c.args.words.now))
