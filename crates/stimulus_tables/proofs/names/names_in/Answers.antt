use Rattle.std.proofs.Common.{◌∙◌, ◌++◌, ◌∷◌, [], Bor, List, ℕ, ap, sym, subst, arith}
use Rattle.std.specs.Option.{option_map}
use Rattle.csv.specs.Records.{fields_of}
use Rattle.stimulus_tables.specs.TableFields.{IsNextName}
use Rattle.stimulus_tables.proofs.MomentLaws.{field_within}
use Rattle.stimulus_tables.proofs.NameLaws.{NamesTo, apart_told, names_all, names_more, names_other, no_first, no_names, other_first, some_names}
use Rattle.list_laws.proofs.Truths.{true_is_false}
use Rattle.stimulus_tables.proofs.names.names_in.Goals as goal
use Rattle.text_tokens.specs.Results.{Decides}

pub returns-in_default : goal.returns-in_default
returns-in_default c =
    let now = option_map (λ (b : Bor (List ℕ)). b.now) in
    no_first (fields_of c.args.fields.now) (sym c.get.ensures.value ∙ ap now c.in_default.is)

pub returns-then-not-branch : goal.returns-then-not-branch
returns-then-not-branch c =
    let now = option_map (λ (b : Bor (List ℕ)). b.now) in
    names_other (fields_of c.args.fields.now) c.loop-name.place c.loop-name.names c.in-Some-get.name.now c.loop-name.invariant
    (sym c.get-in-loop-name.ensures.value ∙ ap now c.in-Some-get.is)
    (subst (λ told. Decides told (IsNextName c.loop-name.names c.in-Some-get.name.now)) c.if-not-branch.true
    (subst (λ before. Decides c.in_ok-is_next_name.field-0 (IsNextName before c.in-Some-get.name.now)) c.as_slice-in-Some-get.ensures c.in_ok-is_next_name.ensures))

pub loop-name-smaller : goal.loop-name-smaller
loop-name-smaller c =
    let now = option_map (λ (b : Bor (List ℕ)). b.now) in
    let within = field_within (fields_of c.args.fields.now) c.loop-name.place c.in-Some-get.name.now (sym c.get-in-loop-name.ensures.value ∙ ap now c.in-Some-get.is) in
    omega (arith, within)

pub loop-name-preserved : goal.loop-name-preserved
loop-name-preserved c =
    let now = option_map (λ (b : Bor (List ℕ)). b.now) in
    let next = subst (λ told. Decides told (IsNextName c.loop-name.names c.in-Some-get.name.now)) c.if-not-branch.false
    (subst (λ before. Decides c.in_ok-is_next_name.field-0 (IsNextName before c.in-Some-get.name.now)) c.as_slice-in-Some-get.ensures c.in_ok-is_next_name.ensures) in
    names_more (fields_of c.args.fields.now) c.loop-name.place c.loop-name.names c.push.new.self c.in-Some-get.name.now c.loop-name.invariant
    (sym c.get-in-loop-name.ensures.value ∙ ap now c.in-Some-get.is) next
    (c.in_ok-push.ensures.ok ∙ ap (λ name. c.loop-name.names ++ (name ∷ [])) c.in_ok-from_slice.ensures)

pub returns-then-ne : goal.returns-then-ne
returns-then-ne c =
    let now = option_map (λ (b : Bor (List ℕ)). b.now) in
    other_first (fields_of c.args.fields.now) c.in-Some.first.now (sym c.get.ensures.value ∙ ap now c.in-Some.is)
    (λ same. apart_told c.in-Some.first.now c.as_slice.result.now c.ne.result c.ne.ensures c.if-ne.true (same ∙ sym c.as_slice.ensures))

pub returns-then-is_empty : goal.returns-then-is_empty
returns-then-is_empty c =
    let now = option_map (λ (b : Bor (List ℕ)). b.now) in
    no_names (fields_of c.args.fields.now) c.loop-name.place
    (subst (NamesTo (fields_of c.args.fields.now) c.loop-name.place) (c.is_empty.ensures.0 c.if-is_empty.true) c.loop-name.invariant)
    (sym c.get-in-loop-name.ensures.value ∙ ap now c.in_default-get.is)

pub returns : goal.returns
returns c =
    let now = option_map (λ (b : Bor (List ℕ)). b.now) in
    names_all (fields_of c.args.fields.now) c.loop-name.place c.loop-name.names c.loop-name.invariant
    (sym c.get-in-loop-name.ensures.value ∙ ap now c.in_default-get.is)
    (some_names c.loop-name.names (λ empty. true_is_false c.is_empty.result (c.is_empty.ensures.1 empty) c.if-is_empty.false))
