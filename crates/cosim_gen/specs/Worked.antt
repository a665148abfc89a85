-- A generated system that was worked out by hand: two components from the seed 0, for three rows.
use Rattle.std.specs.Prelude.{◌≡◌, ℕ, List, [], ◌∷◌, map, codes}
use Rattle.unit_tree.specs.Canonical.{canonical_forms, line_text}
use Rattle.cosim_gen.specs.Generated.{generated}

abbrev pub worked_lines : List (List ℕ)
worked_lines =
    codes "cosim 1"
    ∷ codes "unit src"
    ∷ codes "param k:Int64=1"
    ∷ codes "state n:Int64=0"
    ∷ codes "output y:Int64=n"
    ∷ codes "step"
    ∷ codes "n:=(n*5+k)mod 1000"
    ∷ codes "end"
    ∷ codes "end"
    ∷ codes "unit mix"
    ∷ codes "param k:Int64=1"
    ∷ codes "state n:Int64=0"
    ∷ codes "input u:Int64=0"
    ∷ codes "output y:Int64=n"
    ∷ codes "step"
    ∷ codes "n:=(n*3+u+k)mod 1000"
    ∷ codes "end"
    ∷ codes "end"
    ∷ codes "instance i0:src"
    ∷ codes "k=271"
    ∷ codes "end"
    ∷ codes "instance i1:mix"
    ∷ codes "k=794"
    ∷ codes "end"
    ∷ codes "connect i0.y->i1.u"
    ∷ codes "stop 2"
    ∷ codes "longest 1"
    ∷ codes "rows 3"
    ∷ []

-- Its canonical lines.
abbrev pub GeneratedIsWorked : Type 0
GeneratedIsWorked = map line_text (canonical_forms (generated 0 2 3)) ≡ worked_lines
