use Rattle.std.proofs.Common.{rules, w64, SFits}
use Rattle.std.proofs.lemmas.Int.{to_z-of_z}
use Rattle.stimulus_tables.proofs.WordTexts.{entry_other, too_high, too_low}
use Rattle.stimulus_tables.proofs.fields.entry_in.Goals as goal
use Rattle.stimulus_tables.proofs.fields.entry_in.Goals.{else-word-via-then-word+else-word-le-LARGEST_WORD, else-word-via-else-word}

pub returns-else-word : goal.returns-else-word
returns-else-word c =
    let word = c.in_ok-word.word in
    let fits : SFits w64 word = search rules in
    let same = to_z-of_z w64 word fits in
    entry_other c.args.bytes.now word c.in_ok-word.ensures
    (elim c.else-word.branch [
      | else-word-via-then-word+else-word-le-LARGEST_WORD w ↦ too_high word (rw same at w.if-word-le-LARGEST_WORD.false)
      | else-word-via-else-word w ↦ too_low word (rw same at w.if-word.false)
    ])
