-- The laws of the writer's stores and of a reader's reads.
use Rattle.std.proofs.Common.{◌≡◌, false, true, List, [], ◌∷◌, sym, ap, ◌∙◌, subst, le_refl, le_trans, ⊎_elim, arith}
use Rattle.std.specs.Prelude.{All, AllPairs, IsTrue}
use Rattle.std.proofs.lemmas.List.Elements.{All-nil, All-cons, All-weaker}
use Rattle.std.proofs.lemmas.List.Kept.{AllPairs-cons}
use Rattle.front_cell.specs.Front.{opening, closed_at, IsBehind}
use Rattle.front_cell.specs.Laws.{Steps, IsAdvance, IsStore, IsKept, IsWriterForward, IsReaderForward}
use Rattle.front_cell.specs.declared.front.Front.{Front}
use Rattle.front_cell.proofs.Rules.{behind-trans}

-- A transitive relation holds between each contents and all later ones, where it holds at each step.
module _ (R step : Front → Front → Type 0) (one : (x y : Front) → step x y → R x y) (trans : (x y z : Front) → R x y → R y z → R x z) where
  from_first : (x : Front) (fronts : List Front) → Steps step x fronts → All (R x) fronts
  from_first x [] s = All-nil (R x)
  from_first x (y ∷ later) s =
      let first : R x y = one x y s.0 in
      All-cons (R x) y later first (All-weaker (R y) (R x) (λ z. trans x y z first) later (from_first y later s.1))

  pub between_all : (x : Front) (fronts : List Front) → Steps step x fronts → AllPairs R (x ∷ fronts)
  between_all x [] s = AllPairs-cons R x [] (All-nil (R x)) (λ i j d less within. absurd (omega arith))
  between_all x (y ∷ later) s = AllPairs-cons R x (y ∷ later) (from_first x (y ∷ later) s) (between_all y later s.1)

kept-advance : (x y : Front) → IsAdvance x y → IsKept x y
kept-advance x y a = record { rows = a.forward; closed = λ c. let no : false ≡ true = sym a.still_open ∙ c in cc }

kept-close : (x y : Front) → y ≡ closed_at x → IsKept x y
kept-close x y is = subst (λ z. IsKept x z) (sym is) (record { rows = le_refl x.rows; closed = λ c. ap (λ b. record { rows = x.rows; closed = b }) (sym c) })

kept-one : (x y : Front) → IsStore x y → IsKept x y
kept-one x y s = ⊎_elim (kept-advance x y) (kept-close x y) s

kept-trans : (x y z : Front) → IsKept x y → IsKept y z → IsKept x z
kept-trans x y z before after = record {
  rows = le_trans before.rows after.rows;
  closed = λ c. let same : y ≡ x = before.closed c in after.closed (subst (λ (f : Front). IsTrue f.closed) (sym same) c) ∙ same;
}

pub writer_forward : IsWriterForward
writer_forward stores s = between_all IsKept IsStore kept-one kept-trans opening stores s

pub reader_forward : IsReaderForward
reader_forward split fronts s = between_all IsBehind IsBehind (λ x y b. b) behind-trans split fronts s
