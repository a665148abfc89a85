-- Laws of bytes that are taken and appended, for a caller that reads or writes several times. For
-- one piece after another there are `Appends-trans` and `Consumes-trans` of
-- `Rattle.std.proofs.KnownBytes`.
use Rattle.std.proofs.Common.{◌≡◌, ℕ, ◌+◌, List, ◌++◌, length, take, drop, sym, ◌∙◌, ap, subst, arith, append_assoc, take-append-drop}
use Rattle.std.proofs.Math.Seq.{take-append_seam, take-append-add}
use Rattle.std.proofs.lemmas.List.{take_all}
use Rattle.std.proofs.KnownBytes.{Appends-nil, Appends-trans}
use Rattle.std.specs.Io.KnownBytes.{Appends}
use Rattle.std.specs.declared.option.Option.{Option}
use Rattle.cosim_io.specs.Pieces.{AppendsPrefix}

-- where nothing is appended, a prefix of any piece is
pub AppendsPrefix-nil : (a : Option (List ℕ)) (piece : List ℕ) → AppendsPrefix a a piece
AppendsPrefix-nil a piece = record { count = 0; appended = Appends-nil a }

-- where the whole piece is appended, a prefix of it is
pub AppendsPrefix-whole : (a b : Option (List ℕ)) (piece : List ℕ) → Appends a b piece → AppendsPrefix a b piece
AppendsPrefix-whole a b piece whole =
    record { count = length piece; appended = subst (Appends a b) (sym (take_all (length piece) piece (omega arith))) whole }

-- a whole piece and then a prefix of the next is a prefix of both pieces together
pub AppendsPrefix-after : (a b c : Option (List ℕ)) (first second : List ℕ) → Appends a b first → AppendsPrefix b c second → AppendsPrefix a c (first ++ second)
AppendsPrefix-after a b c first second whole front = record {
  count = length first + front.count;
  appended = subst (Appends a c) (sym (take-append-add first second front.count)) (Appends-trans a b c first (take front.count second) whole front.appended);
}

-- a prefix of the first piece is a prefix of both pieces together, by its own length
front_of : (n : ℕ) (first second : List ℕ) → take (length (take n first)) (first ++ second) ≡ take n first
front_of n first second =
    ap (λ (l : List ℕ). take (length (take n first)) (l ++ second)) (sym (take-append-drop n first))
    ∙ ap (take (length (take n first))) (append_assoc (take n first) (drop n first) second)
    ∙ take-append_seam (take n first) (drop n first ++ second)

-- a prefix of the first piece is a prefix of both pieces together
pub AppendsPrefix-longer : (a b : Option (List ℕ)) (first second : List ℕ) → AppendsPrefix a b first → AppendsPrefix a b (first ++ second)
AppendsPrefix-longer a b first second front = record {
  count = length (take front.count first);
  appended = subst (Appends a b) (sym (front_of front.count first second)) front.appended;
}

-- these laws and those of whole pieces, for `using(..)` on a function that writes several times
pub ruleset piece_laws = (Appends-nil, Appends-trans, AppendsPrefix-nil, AppendsPrefix-whole, AppendsPrefix-after, AppendsPrefix-longer)
