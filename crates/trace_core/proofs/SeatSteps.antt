-- The steps of seats, one by one.
use Rattle.std.proofs.Common.{◌≡◌, ◌∙◌, ℕ, ◌<◌, List, length, get_or, Some, sym, ap, arith}
use Rattle.std.proofs.lemmas.List.{length-map}
use Rattle.std.proofs.lemmas.Option.{slice_get-get_or}
use Rattle.std.proofs.lemmas.Slice.Zip.{length-zip}
use Rattle.std.specs.Prelude.{slice_get, zip}
use Rattle.list_laws.proofs.Members.{at_place}
use Rattle.list_laws.proofs.Pairs.{zip_there}
use Rattle.step_rule.proofs.AlongLaws.{mapped_at}
use Rattle.trace_core.specs.Seats.{seat_step, seat_steps}
use Rattle.trace_core.specs.declared.seat.Seat.{Seat}
use Rattle.trace_plan.specs.Plans.{ForMember}
use Rattle.unit_tree.specs.Compositions.{Composition, Member}

pub steps_long : (members : List Member) (seats : List Seat) → length seats ≡ length members → length (seat_steps members seats) ≡ length members
steps_long members seats as_many = omega (arith, length-map (zip members seats) seat_step, length-zip members seats, as_many)

pub step_there : (run : Composition) (seats : List Seat) (place factor : ℕ) (seat : Seat) → place < length run.members → place < length seats
    → ForMember run place (λ member. factor ≡ member.factor) → seat ≡ get_or seats place seat
    → slice_get (seat_steps run.members seats) place ≡ Some (record { factor = factor; asked = seat.step; slot = seat.slot })
step_there run seats place factor seat in_members in_seats factors is =
    let member = at_place run.members place in_members in
    mapped_at seat_step (zip run.members seats) place (member.0, seat)
    (zip_there run.members seats place member.0 seat member.1 (slice_get-get_or seats place seat in_seats ∙ ap (λ one. Some one) (sym is)))
    ∙ ap (λ same. Some (record { factor = same; asked = seat.step; slot = seat.slot })) (sym (factors member.0 member.1))
