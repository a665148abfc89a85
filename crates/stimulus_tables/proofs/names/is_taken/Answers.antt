use Rattle.std.proofs.Common.{◌∙◌, Bor, List, ℕ, ap, sym}
use Rattle.std.specs.Option.{option_map}
use Rattle.stimulus_tables.proofs.NameLaws.{taken_told}
use Rattle.stimulus_tables.proofs.names.is_taken.Goals as goal

pub returns-in-Some-time_in : goal.returns-in-Some-time_in
returns-in-Some-time_in c =
    let now = option_map (λ (b : Bor (List ℕ)). b.now) in
    taken_told c.args.name.now c.in-Some.digits.now c.in-Some-time_in.number (sym c.behind_s.ensures ∙ ap now c.in-Some.is) c.in-Some-time_in.ensures
