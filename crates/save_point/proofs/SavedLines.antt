-- How many lines a saved text has before the text of its system.
use Rattle.std.proofs.Common.{ℕ, ◌+◌, ◌≤◌, List, length, ap, ◌∙◌, arith}
use Rattle.std.proofs.lemmas.List.{length-map}
use Rattle.save_point.proofs.LineLaws.{begins_within}
use Rattle.save_point.specs.SavedTexts.{IsSaved, NamedState, saved_lines, state_line}
use Rattle.save_point.specs.declared.reading.Saved.{Saved}

-- They are at most as many as the text has bytes.
pub saved_lines_few : (text : List ℕ) (saved : Saved) → IsSaved text saved → 3 + length saved.names ≤ length text
saved_lines_few text saved is =
    let all = begins_within text is.behind (saved_lines saved.row saved.point is.states) is.begins in
    let names = ap length is.names_are ∙ length-map is.states (λ (state : NamedState). state.name) in
    let lines = length-map is.states state_line in
    omega (arith, all, names, lines)
