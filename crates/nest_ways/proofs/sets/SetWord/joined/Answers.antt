use Rattle.nest_ways.proofs.SetLaws.{either_word, word_either}
use Rattle.nest_ways.proofs.sets.SetWord.joined.Goals as goal

pub returns : goal.returns
returns c number = (word_either c.args.self c.args.other number, either_word c.args.self c.args.other number)
