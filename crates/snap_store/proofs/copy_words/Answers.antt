use Rattle.std.proofs.Common.{◌∙◌, ap, get_or, pos, set, rules, w64, SFits}
use Rattle.std.proofs.lemmas.Int.{to_z-of_z}
use Rattle.snap_store.proofs.ViewLemmas.{one_word}
use Rattle.snap_store.proofs.copy_words.Goals as goal

pub returns-then-words-eq1 : goal.returns-then-words-eq1
returns-then-words-eq1 c =
    let fits : SFits w64 (get_or c.args.words.now 0 (pos 0)) = search rules in
    ap (set c.args.into.now 0) (to_z-of_z w64 (get_or c.args.words.now 0 (pos 0)) fits) ∙ one_word c.args.into.now c.args.words.now (search rules) c.requires
