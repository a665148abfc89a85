-- Lines that are written to the notes one after the other.
use Rattle.std.proofs.Common.{◌≡◌, ℕ, ◌≤◌, ◌-◌, List, [], ◌∷◌, ◌++◌, length, take, drop, get_or, Option, Result, Ok, Err, subst, arith}
use Rattle.std.proofs.lemmas.List.{take_all}
use Rattle.std.specs.Prelude.{OnErr}
use Rattle.std.specs.Io.KnownBytes.{Appends}
use Rattle.cosim_io.specs.Pieces.{AppendsPrefix}
use Rattle.cosim_io.proofs.PieceLemmas.{AppendsPrefix-after}
use Rattle.cosim_call.specs.Notes.{whole}

-- A line that was written, and then some of the others.
pub front_after : {T E : Type 0} (a b c : Option (List ℕ)) (first : List ℕ) (rest : List (List ℕ)) (result : Result T E) → Appends a b first
    → OnErr result (AppendsPrefix b c (whole rest)) → OnErr result (AppendsPrefix a c (first ++ whole rest))
front_after a b c first rest (Ok value) told front = tt
front_after a b c first rest (Err why) told front = AppendsPrefix-after a b c first (whole rest) told front

pub front_cons : {T E : Type 0} (a b c : Option (List ℕ)) (lines : List (List ℕ)) (line : List ℕ) (result : Result T E) → 1 ≤ length lines
    → line ≡ get_or lines 0 line → Appends a b line → OnErr result (AppendsPrefix b c (whole (take (length lines - 1) (drop 1 lines))))
    → OnErr result (AppendsPrefix a c (whole lines))
front_cons a b c [] line result some is told front = absurd (omega arith)
front_cons {T} {E} a b c (first ∷ rest) line result some is told front =
    front_after a b c first rest result (subst (Appends a b) is told)
    (subst (λ (others : List (List ℕ)). OnErr result (AppendsPrefix b c (whole others))) (take_all (length (first ∷ rest) - 1) rest (omega arith)) front)
