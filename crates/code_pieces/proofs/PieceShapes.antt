-- What a well-made piece means, as facts by cases.
use Rattle.std.proofs.Common.{◌≡◌, ◌≤◌, Bool, true, false, ◌&&◌, refl}
use Rattle.std.specs.Prelude.{nat_le, IsTrue, ⊤}
use Rattle.unit_vm.specs.declared.instruction.Flow.{Flow}
use Rattle.unit_vm.specs.declared.instruction.Flow.TheVariants as flow
use Rattle.unit_vm.specs.declared.program.Sizes.{Sizes}
use Rattle.unit_vm.specs.Instructions.{flow_of, is_argued}
use Rattle.code_pieces.specs.Pieces.{Piece, Nothing, One, Then, Choice, When, Turns, is_on, is_made}
use Rattle.list_laws.proofs.Truths.{le_told}

abbrev pub Made : Sizes → Piece → Type 0
Made sizes Nothing = ⊤
Made sizes (One instruction) = (flow_of instruction ≡ flow.On) × IsTrue (is_argued sizes instruction)
Made sizes (Then first second) = Made sizes first × Made sizes second
Made sizes (Choice first second) = Made sizes first × Made sizes second
Made sizes (When body) = Made sizes body
Made sizes (Turns count body) = (1 ≤ count) × (count ≤ 1000) × Made sizes body

both : (a b : Bool) → IsTrue (a && b) → IsTrue a × IsTrue b
both true b h = (refl, h)
both false b h = absurd (cc)

on_told : (f : Flow) → IsTrue (is_on f) → f ≡ flow.On
on_told flow.On h = refl
on_told (flow.Ahead d) h = absurd (cc)
on_told (flow.Branch d) h = absurd (cc)
on_told (flow.Open k) h = absurd (cc)
on_told (flow.Back d) h = absurd (cc)
on_told flow.End h = absurd (cc)

pub made : (sizes : Sizes) (piece : Piece) → IsTrue (is_made sizes piece) → Made sizes piece
made sizes Nothing h = tt
made sizes (One instruction) h = let b = both (is_on (flow_of instruction)) (is_argued sizes instruction) h in (on_told (flow_of instruction) b.0, b.1)
made sizes (Then first second) h = let b = both (is_made sizes first) (is_made sizes second) h in (made sizes first b.0, made sizes second b.1)
made sizes (Choice first second) h = let b = both (is_made sizes first) (is_made sizes second) h in (made sizes first b.0, made sizes second b.1)
made sizes (When body) h = made sizes body h
made sizes (Turns count body) h =
    let b = both (nat_le 1 count && nat_le count 1000) (is_made sizes body) h in
    let c = both (nat_le 1 count) (nat_le count 1000) b.0 in
    (le_told 1 count c.0, le_told count 1000 c.1, made sizes body b.1)
