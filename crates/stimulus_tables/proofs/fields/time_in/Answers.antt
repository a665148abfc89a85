use Rattle.std.proofs.Common.{◌≡◌, None, arith, rules}
use Rattle.std.proofs.lemmas.Int.{ints}
use Rattle.stimulus_tables.proofs.WordTexts.{time_other, time_unread}
use Rattle.stimulus_tables.proofs.fields.time_in.Goals as goal
use Rattle.stimulus_tables.proofs.fields.time_in.Goals.{else-word-ge0-via-then-word-ge0+else-word-le-LAST_TIME, else-word-ge0-via-else-word-ge0}

pub returns-in_err-word : goal.returns-in_err-word
returns-in_err-word c =
    let none : c.word_in.result ≡ None = search rules in
    let is : c.from_residual.result ≡ None = search rules in
    time_unread c.args.bytes.now c.word_in.result c.from_residual.result c.word_in.ensures none is

pub returns-else-word-ge0 : goal.returns-else-word-ge0
returns-else-word-ge0 c =
    time_other c.args.bytes.now c.in_ok-word.word c.in_ok-word.ensures
    (λ time small is. elim c.else-word-ge0.branch [
      | else-word-ge0-via-then-word-ge0+else-word-le-LAST_TIME w ↦ let test = w.if-word-le-LAST_TIME.false in grind (arith, ints)
      | else-word-ge0-via-else-word-ge0 w ↦ let test = w.if-word-ge0.false in grind (arith, ints)
    ])
