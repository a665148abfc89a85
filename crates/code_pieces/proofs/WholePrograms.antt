-- A program made of pieces is valid, part by part.
use Rattle.std.proofs.Common.{◌≡◌, ℕ, suc, List, [], ◌∷◌, ◌++◌, map, Option, Some, None, refl, sym, subst}
use Rattle.std.specs.Prelude.{slice_get}
use Rattle.unit_vm.specs.declared.instruction.Instruction.{Instruction}
use Rattle.unit_vm.specs.declared.program.CodeFacts.{CodeFacts}
use Rattle.unit_vm.specs.declared.program.Entry.TheVariants as entry
use Rattle.unit_vm.specs.declared.program.Role.{Role}
use Rattle.unit_vm.specs.declared.program.Role.TheVariants as role
use Rattle.unit_vm.specs.declared.program.Sizes.{Sizes}
use Rattle.unit_vm.specs.Instructions.{slots_of}
use Rattle.unit_vm.specs.Programs.{CodePart, output_part, with_limit, parts_of}
use Rattle.unit_vm.specs.Loops.{cost_of}
use Rattle.unit_vm.specs.Valid.{AreParts, greatest, deepest_of, HasFacts}
use Rattle.code_pieces.specs.Laws.{IsPieceCode, PieceProgramsHaveFacts}
use Rattle.code_pieces.proofs.PieceParts.{piece_parts_are_valid_lem}

-- Parts are valid, with heights for each.
abbrev Valid : Sizes → List CodePart → Type 0
Valid sizes parts = (marks : List (List ℕ)) × AreParts sizes parts marks

abbrev as_part : Role → List Instruction → CodePart
as_part use_of code = record { role = use_of; code = code }

valid_more : (sizes : Sizes) (use_of : Role) (code : List Instruction) (parts : List CodePart) → IsPieceCode sizes use_of code → Valid sizes parts
    → Valid sizes (as_part use_of code ∷ parts)
valid_more sizes use_of code parts h rest =
    let one = piece_parts_are_valid_lem sizes use_of h.piece h.finish h.fits in
    subst (λ (is : List Instruction). Valid sizes (as_part use_of is ∷ parts)) (sym h.is) (one.heights ∷ rest.0, (one.valid, rest.1))

valid_outputs : (sizes : Sizes) (outputs : List (List Instruction)) (parts : List CodePart)
    → ((number : ℕ) (code : List Instruction) → slice_get outputs number ≡ Some code → IsPieceCode sizes role.Output code) → Valid sizes parts
    → Valid sizes (map output_part outputs ++ parts)
valid_outputs sizes [] parts h rest = rest
valid_outputs sizes (code ∷ outputs) parts h rest =
    valid_more sizes role.Output code (map output_part outputs ++ parts) (h 0 code refl) (valid_outputs sizes outputs parts (λ number. h (suc number)) rest)

valid_others : (sizes : Sizes) (limit : Option (List Instruction)) (step : List Instruction)
    → ((code : List Instruction) → limit ≡ Some code → IsPieceCode sizes role.Limit code) → IsPieceCode sizes role.Step step
    → Valid sizes (with_limit limit (as_part role.Step step))
valid_others sizes None step h last = valid_more sizes role.Step step [] last ([], tt)
valid_others sizes (Some code) step h last =
    valid_more sizes role.Limit code (as_part role.Step step ∷ []) (h code refl) (valid_more sizes role.Step step [] last ([], tt))

pub piece_programs_have_facts_lem : PieceProgramsHaveFacts
piece_programs_have_facts_lem program h =
    let parts = parts_of program in
    let others = valid_others program.sizes program.limit program.step (h.parts entry.Limit) (h.parts entry.Step program.step refl) in
    let all =
    valid_outputs program.sizes program.outputs (with_limit program.limit (as_part role.Step program.step)) (λ number. h.parts (entry.Output number)) others in
    let facts : CodeFacts = record {
      stack = greatest (map greatest all.0);
      loops = greatest (map (λ (part : CodePart). deepest_of part.code) parts);
      cost = greatest (map (λ (part : CodePart). cost_of part.code) parts);
      slots = slots_of program.sizes;
    } in
    let has : HasFacts program facts = record {
      outputs = h.outputs;
      states = h.states;
      inputs = h.inputs;
      locals = h.locals;
      marks = all.0;
      parts = all.1;
      stack = refl;
      loops = refl;
      cost = refl;
      slots = refl;
    } in
    (facts, has)
