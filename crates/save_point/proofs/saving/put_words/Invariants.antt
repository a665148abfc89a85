use Rattle.std.proofs.Common.{◌≡◌, ◌++◌, take}
use Rattle.save_point.specs.SavedTexts.{spaced_words}
use Rattle.save_point.proofs.saving.put_words.Given as goal

abbrev pub invariant-loop-word : goal.invariant-loop-word
invariant-loop-word l = l.text.items ≡ l.initial.text.items ++ spaced_words (take l.word-index l.words)
