-- The lines of a text that begins with a line and its end.
use Rattle.std.proofs.Common.{◌≡◌, ℕ, List, [], ◌∷◌, ◌++◌, refl, ap, ◌∙◌}
use Rattle.std.specs.Prelude.{◌==◌, not, if◌then◌else◌, IsTrue}
use Rattle.std.specs.List.{list_all, onto_first}
use Rattle.std.proofs.lemmas.Bool.{and_parts}
use Rattle.list_laws.proofs.Truths.{not_true}
use Rattle.unit_tree.specs.Lines.{lines_of}

pub line_more : (line rest : List ℕ) → IsTrue (list_all (λ byte. not (byte == 10)) line) → lines_of (line ++ 10 ∷ rest) ≡ line ∷ lines_of rest
line_more [] rest whole = refl
line_more (byte ∷ line) rest whole =
    let both = and_parts (not (byte == 10)) (list_all (λ byte. not (byte == 10)) line) whole in
    ap (λ test. if test then [] ∷ lines_of (line ++ 10 ∷ rest) else onto_first byte (lines_of (line ++ 10 ∷ rest))) (not_true (byte == 10) both.0)
    ∙ ap (onto_first byte) (line_more line rest both.1)
