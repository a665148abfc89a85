-- How much of its piece a loop over `write` has written.
use Rattle.std.proofs.Common.{◌≡◌, ℕ, ◌-◌, List, ◌++◌, length, take, drop, sym, ◌∙◌, ap, subst, arith, append_assoc, take-append-drop, length-drop}
use Rattle.std.proofs.lemmas.List.{take_all}
use Rattle.std.proofs.KnownBytes.{Appends-trans, Appends-kept}
use Rattle.std.specs.Io.KnownBytes.{Appends, Keeps}
use Rattle.std.specs.declared.option.Option.{Option}
use Rattle.cosim_io.specs.Pieces.{AppendsPrefix}
use Rattle.cosim_io.proofs.PieceLemmas.{AppendsPrefix-whole, AppendsPrefix-longer}

-- so far a prefix of the piece was appended, and `rest` is what is left of it
pub record Written (old new : Option (List ℕ)) (piece rest : List ℕ) : Type 0 where
  pub done : List ℕ
  pub parts : done ++ rest ≡ piece
  pub appended : Appends old new done

pub Written-more : (a b c : Option (List ℕ)) (piece rest : List ℕ) (n : ℕ) → Written a b piece rest → Appends b c (take n rest)
    → Written a c piece (drop n rest)
Written-more a b c piece rest n so_far more = record {
  done = so_far.done ++ take n rest;
  parts = append_assoc so_far.done (take n rest) (drop n rest) ∙ ap (λ (l : List ℕ). so_far.done ++ l) (take-append-drop n rest) ∙ so_far.parts;
  appended = Appends-trans a b c so_far.done (take n rest) so_far.appended more;
}

-- the rest, as the slice that the code takes
pub Written-slice : (a b c : Option (List ℕ)) (piece rest : List ℕ) (n : ℕ) → Written a b piece rest → Appends b c (take n rest)
    → Written a c piece (take (length rest - n) (drop n rest))
Written-slice a b c piece rest n so_far more =
    subst (Written a c piece) (sym (take_all (length rest - n) (drop n rest) (omega (arith, length-drop n rest)))) (Written-more a b c piece rest n so_far more)

pub Written-kept : (a b c : Option (List ℕ)) (piece rest : List ℕ) → Written a b piece rest → Keeps b c → Written a c piece rest
Written-kept a b c piece rest so_far kept =
    record { done = so_far.done; parts = so_far.parts; appended = Appends-kept a b c so_far.done so_far.appended kept }

pub Written-front : (a b : Option (List ℕ)) (piece rest : List ℕ) → Written a b piece rest → AppendsPrefix a b piece
Written-front a b piece rest so_far =
    subst (AppendsPrefix a b) so_far.parts (AppendsPrefix-longer a b so_far.done rest (AppendsPrefix-whole a b so_far.done so_far.appended))
