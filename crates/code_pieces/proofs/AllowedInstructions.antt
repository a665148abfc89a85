-- Each instruction of a piece is allowed in a part for any use.
use Rattle.std.proofs.Common.{◌≡◌, ℕ, ◌+◌, List, [], ◌∷◌, ◌++◌, length, refl, sym, ◌∙◌, arith}
use Rattle.std.proofs.lemmas.List.Elements.{All-nil, All-cons, All-append}
use Rattle.std.specs.Prelude.{nat_le, IsTrue}
use Rattle.std.proofs.lemmas.Bool.{and_from}
use Rattle.unit_vm.specs.declared.instruction.Instruction.{Instruction}
use Rattle.unit_vm.specs.declared.instruction.Instruction.TheVariants.{Jump, JumpFalse, Loop, Next, Give, Limit, Done}
use Rattle.unit_vm.specs.declared.instruction.Flow.TheVariants as flow
use Rattle.unit_vm.specs.declared.program.Role.{Role}
use Rattle.unit_vm.specs.declared.program.Role.TheVariants as role
use Rattle.unit_vm.specs.declared.program.Sizes.{Sizes}
use Rattle.unit_vm.specs.Instructions.{flow_of, is_argued, fits_role}
use Rattle.unit_vm.specs.Judged.{AreAllowed}
use Rattle.code_pieces.specs.Pieces.{Piece, Nothing, One, Then, Choice, When, Turns, flat}
use Rattle.code_pieces.proofs.PieceShapes.{Made}
use Rattle.list_laws.proofs.Truths.{le_asked}

-- An instruction that ends no run is allowed for every use.
fits : (use_of : Role) (i : Instruction) → (flow_of i ≡ flow.End → ⊥) → IsTrue (fits_role use_of i)
fits role.Output (Give ty) h = absurd (h refl)
fits role.Output Limit h = absurd (h refl)
fits role.Output Done h = absurd (h refl)
fits role.Output _ h = refl
fits role.Limit (Give ty) h = absurd (h refl)
fits role.Limit Limit h = absurd (h refl)
fits role.Limit Done h = absurd (h refl)
fits role.Limit _ h = refl
fits role.Step (Give ty) h = absurd (h refl)
fits role.Step Limit h = absurd (h refl)
fits role.Step Done h = absurd (h refl)
fits role.Step _ h = refl

-- A branch ends no run.
no_end : (d : ℕ) → flow.Branch d ≡ flow.End → ⊥
no_end d e = cc

module _ (sizes : Sizes) (use_of : Role) where
  none : AreAllowed sizes use_of []
  none = record { arguments = All-nil (λ i. IsTrue (is_argued sizes i)); endings = All-nil (λ i. IsTrue (fits_role use_of i)) }

  pub allowed_more : (i : Instruction) (is : List Instruction) → IsTrue (is_argued sizes i) → IsTrue (fits_role use_of i) → AreAllowed sizes use_of is
      → AreAllowed sizes use_of (i ∷ is)
  allowed_more i is a f rest = record {
    arguments = All-cons (λ i. IsTrue (is_argued sizes i)) i is a rest.arguments;
    endings = All-cons (λ i. IsTrue (fits_role use_of i)) i is f rest.endings;
  }

  pub allowed_both : (one other : List Instruction) → AreAllowed sizes use_of one → AreAllowed sizes use_of other → AreAllowed sizes use_of (one ++ other)
  allowed_both one other a b = record {
    arguments = All-append (λ i. IsTrue (is_argued sizes i)) one other a.arguments b.arguments;
    endings = All-append (λ i. IsTrue (fits_role use_of i)) one other a.endings b.endings;
  }

  pub allowed_end : (finish : Instruction) → IsTrue (is_argued sizes finish) → IsTrue (fits_role use_of finish) → AreAllowed sizes use_of (finish ∷ [])
  allowed_end finish a f = allowed_more finish [] a f none

  pub allowed : (piece : Piece) → Made sizes piece → AreAllowed sizes use_of (flat piece)
  allowed Nothing m = none
  allowed (One instruction) m = allowed_more instruction [] m.1 (fits use_of instruction (λ e. apart (sym m.0 ∙ e))) none
    where
      apart : flow.On ≡ flow.End → ⊥
      apart e = cc
  allowed (Then first second) m = allowed_both (flat first) (flat second) (allowed first m.0) (allowed second m.1)
  allowed (Choice first second) m =
      let skips = length (flat first) + 2 in
      let over = length (flat second) + 1 in
      allowed_more (JumpFalse skips) _ (le_asked 1 skips (omega arith)) (fits use_of (JumpFalse skips) (λ e. no_end skips e))
      (allowed_both (flat first) (Jump over ∷ flat second) (allowed first m.0)
      (allowed_more (Jump over) (flat second) (le_asked 1 over (omega arith)) (fits use_of (Jump over) (λ e. apart_too over e)) (allowed second m.1)))
    where
      apart_too : (d : ℕ) → flow.Ahead d ≡ flow.End → ⊥
      apart_too d e = cc
  allowed (When body) m =
      let over = length (flat body) + 1 in
      allowed_more (JumpFalse over) (flat body) (le_asked 1 over (omega arith)) (fits use_of (JumpFalse over) (λ e. no_end over e)) (allowed body m)
  allowed (Turns count body) m =
      allowed_more (Loop count) _ (and_from (nat_le 1 count) (nat_le count 1000) (le_asked 1 count m.0) (le_asked count 1000 m.1))
      (fits use_of (Loop count) (λ e. apart e))
      (allowed_both (flat body) (Next (length (flat body)) ∷ []) (allowed body m.2)
      (allowed_end (Next (length (flat body))) refl (fits use_of (Next (length (flat body))) (λ e. apart_too (length (flat body)) e))))
    where
      apart : flow.Open count ≡ flow.End → ⊥
      apart e = cc

      apart_too : (d : ℕ) → flow.Back d ≡ flow.End → ⊥
      apart_too d e = cc
