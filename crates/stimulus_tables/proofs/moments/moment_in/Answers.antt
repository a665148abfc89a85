use Rattle.std.proofs.Common.{◌≡◌, ◌∙◌, Bor, List, ℕ, drop, length, ap, sym, subst}
use Rattle.std.specs.Option.{option_map}
use Rattle.csv.specs.Records.{fields_of}
use Rattle.stimulus_tables.specs.TableFields.{AreEntries, IsTimeText}
use Rattle.stimulus_tables.proofs.MomentLaws.{moment_there, no_time, nothing_there}
use Rattle.stimulus_tables.proofs.moments.moment_in.Goals as goal
use Rattle.text_tokens.specs.Results.{Tells}

pub returns-in_default : goal.returns-in_default
returns-in_default c =
    let now = option_map (λ (b : Bor (List ℕ)). b.now) in
    nothing_there c.args.count (fields_of c.args.fields.now) (sym c.get.ensures.value ∙ ap now c.in_default.is)

pub returns-in_default-time_in : goal.returns-in_default-time_in
returns-in_default-time_in c =
    let now = option_map (λ (b : Bor (List ℕ)). b.now) in
    no_time c.args.count (fields_of c.args.fields.now) c.in-Some.first.now (sym c.get.ensures.value ∙ ap now c.in-Some.is)
    (subst (λ told. Tells told (IsTimeText c.in-Some.first.now)) c.in_default-time_in.is c.time_in.ensures)

pub returns-then-len-count : goal.returns-then-len-count
returns-then-len-count c =
    let now = option_map (λ (b : Bor (List ℕ)). b.now) in
    let entries = subst (λ told. Tells told (AreEntries (drop 1 (fields_of c.args.fields.now)))) c.in-Some-2.is c.in_ok-words.ensures in
    let many : length c.in-Some-2.words ≡ c.args.count = sym c.len.ensures ∙ c.if-len-count.true in
    moment_there c.args.count (fields_of c.args.fields.now) c.in-Some.first.now c.in-Some-time_in.time c.in-Some-2.words (sym c.get.ensures.value ∙ ap now c.in-Some.is)
    c.in-Some-time_in.ensures entries many
