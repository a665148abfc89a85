use Rattle.std.proofs.Common.{◌≡◌, ℕ, ℤ, ◌%◌, ◌≤◌, arith, get_or, ap, ◌∙◌, rules, to_z, of_z, w64}
use Rattle.std.proofs.lemmas.Int.{to_z-of_z}
use Rattle.std.specs.Prelude.{unwrap_or, option_copied}
use Rattle.fixed_words.specs.declared.types.Ty.{Ty}
use Rattle.unit_vm.specs.declared.instruction.Instruction.TheVariants.{Done}
use Rattle.unit_vm.specs.Reading.{small, type_at, with_argument}
use Rattle.unit_vm.proofs.reading.instruction_in.Goals as goal

listed : (w v : ℤ) (n m : ℕ) (ty uy : Ty) (k j : ℕ) → w ≡ v → n ≡ m → ty ≡ uy → k ≡ j
    → get_or (with_argument w n ty) k Done ≡ get_or (with_argument v m uy) j Done
listed w v n m ty uy k j a b t e =
    ap (λ w. get_or (with_argument w n ty) k Done) a
    ∙ (ap (λ n. get_or (with_argument v n ty) k Done) b
    ∙ (ap (λ ty. get_or (with_argument v m ty) k Done) t ∙ ap (λ k. get_or (with_argument v m uy) k Done) e))

pub returns : goal.returns
returns c =
    let given : to_z w64 (of_z w64 c.args.argument) ≡ c.args.argument = search (rules, to_z-of_z) in
    let first : to_z w64 (of_z w64 c.args.operation) ≡ c.args.operation = search (rules, to_z-of_z) in
    let number = c.small-number.ensures ∙ ap small given in
    let low : c.small.result ≤ c.small.result = omega arith in
    let read : unwrap_or (option_copied c.get.result) Done
    ≡ get_or (with_argument (to_z w64 (of_z w64 c.args.argument)) c.small-number.result c.type_at-ty.result) c.small.result Done =
    c.get.ensures.lookup.4 low Done in
    (c.unwrap_or.ensures ∙ ap (λ o. unwrap_or o Done) c.copied.ensures)
    ∙ (read ∙ listed _ _ _ _ _ _ _ _ given number (c.type_at-ty.ensures ∙ ap (λ n. type_at (n % 32)) number) (c.small.ensures ∙ ap small first))
