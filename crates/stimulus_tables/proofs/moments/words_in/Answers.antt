use Rattle.std.proofs.Common.{◌≡◌, ◌∙◌, ◌++◌, ◌∷◌, [], Bor, List, ℕ, ap, sym, subst, arith, rules, w64, SFits}
use Rattle.std.specs.Option.{option_map}
use Rattle.std.proofs.lemmas.Int.{to_z-of_z}
use Rattle.csv.specs.Records.{fields_of}
use Rattle.stimulus_tables.specs.TableFields.{IsEntryText}
use Rattle.stimulus_tables.proofs.MomentLaws.{field_within, read_all, read_more, read_other}
use Rattle.stimulus_tables.proofs.moments.words_in.Goals as goal
use Rattle.text_tokens.specs.Results.{Tells}

pub returns-in_default-entry_in : goal.returns-in_default-entry_in
returns-in_default-entry_in c =
    let now = option_map (λ (b : Bor (List ℕ)). b.now) in
    read_other (fields_of c.args.fields.now) c.loop-field.place c.loop-field.words c.in-Some.field.now c.loop-field.invariant (sym c.get.ensures.value ∙ ap now c.in-Some.is)
    (subst (λ told. Tells told (IsEntryText c.in-Some.field.now)) c.in_default-entry_in.is c.entry_in.ensures)

pub loop-field-smaller : goal.loop-field-smaller
loop-field-smaller c =
    let now = option_map (λ (b : Bor (List ℕ)). b.now) in
    let within = field_within (fields_of c.args.fields.now) c.loop-field.place c.in-Some.field.now (sym c.get.ensures.value ∙ ap now c.in-Some.is) in
    omega (arith, within)

pub loop-field-preserved : goal.loop-field-preserved
loop-field-preserved c =
    let now = option_map (λ (b : Bor (List ℕ)). b.now) in
    let fits : SFits w64 c.in-Some-entry_in.word = search rules in
    let pushed : c.push.new.self ≡ c.loop-field.words ++ (c.in-Some-entry_in.word ∷ []) =
    c.in_ok-push.ensures.ok ∙ ap (λ word. c.loop-field.words ++ (word ∷ [])) (to_z-of_z w64 c.in-Some-entry_in.word fits) in
    read_more (fields_of c.args.fields.now) c.loop-field.place c.loop-field.words c.push.new.self c.in-Some.field.now c.in-Some-entry_in.word c.loop-field.invariant
    (sym c.get.ensures.value ∙ ap now c.in-Some.is) c.in-Some-entry_in.ensures pushed

pub returns : goal.returns
returns c =
    let now = option_map (λ (b : Bor (List ℕ)). b.now) in
    read_all (fields_of c.args.fields.now) c.loop-field.place c.loop-field.words c.loop-field.invariant (sym c.get.ensures.value ∙ ap now c.in_default.is)
