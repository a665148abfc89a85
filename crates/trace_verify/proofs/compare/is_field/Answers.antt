use Rattle.std.proofs.Common.{◌≡◌, ◌∙◌, Bor, List, ℕ, Some, None, ap, sym}
use Rattle.std.specs.Option.{option_map}
use Rattle.csv.specs.Records.{fields_of}
use Rattle.trace_verify.proofs.FieldLaws.{next_by}
use Rattle.trace_verify.proofs.compare.is_field.Goals as goal

pub returns-in-Some : goal.returns-in-Some
returns-in-Some c =
    let now = option_map (λ (b : Bor (List ℕ)). b.now) in
    let found : now c.get.result ≡ Some c.in-Some.field.now = ap now c.in-Some.is in
    c.eq.ensures ∙ next_by (fields_of c.args.fields.now) c.args.place c.args.piece.now (Some c.in-Some.field.now) (sym found ∙ c.get.ensures.value)

pub returns-in-None : goal.returns-in-None
returns-in-None c =
    let now = option_map (λ (b : Bor (List ℕ)). b.now) in
    let found : now c.get.result ≡ None = ap now c.in-None.is in
    next_by (fields_of c.args.fields.now) c.args.place c.args.piece.now None (sym found ∙ c.get.ensures.value)
