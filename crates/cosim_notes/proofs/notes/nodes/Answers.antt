use Rattle.std.proofs.Common.{◌≡◌, ℕ, List, ◌++◌, sym, ap, ◌∙◌, append_assoc}
use Rattle.std.specs.Fmt.{decimal}
use Rattle.std.specs.Prelude.{codes}
use Rattle.cosim_call.specs.Notes.{line_end}
use Rattle.cosim_answers.specs.Notes.{nodes_text}
use Rattle.cosim_notes.proofs.notes.nodes.Goals as goal

-- The pieces, one after the other.
abbrev pieces : List ℕ → List ℕ → List ℕ
pieces one other = codes "cosim: node 0 row " ++ (one ++ (codes ", node 1 row " ++ (other ++ line_end)))

-- The pieces are the line.
line_is : (first second : ℕ) → pieces (decimal first) (decimal second) ≡ nodes_text first second
line_is first second =
    ap (λ rest. codes "cosim: node 0 row " ++ rest)
    (sym (append_assoc (decimal first) (codes ", node 1 row ") (decimal second ++ line_end))
    ∙ sym (append_assoc (decimal first ++ codes ", node 1 row ") (decimal second) line_end))

pub returns : goal.returns
returns c =
    c.in_ok-append_all.ensures
    ∙ ap (λ front. front ++ pieces c.as_bytes.result.now c.as_bytes-2.result.now) c.new-note.ensures.items
    ∙ ap (λ one. pieces one c.as_bytes-2.result.now) (c.as_bytes.ensures.value ∙ c.format.ensures.text)
    ∙ ap (λ other. pieces (decimal c.args.first) other) (c.as_bytes-2.ensures.value ∙ c.format-2.ensures.text)
    ∙ line_is c.args.first c.args.second
