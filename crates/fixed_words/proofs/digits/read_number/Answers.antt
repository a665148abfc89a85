use Rattle.std.proofs.Common.{inl, inr, refl, sym, ◌∙◌, arith}
use Rattle.fixed_words.proofs.Numbers.{place_within, parts_at, number_from_parts}
use Rattle.fixed_words.proofs.digits.read_number.Goals as goal

pub fraction_behind-requires : goal.fraction_behind-requires
fraction_behind-requires c = place_within c.args.text.now _ c.point_place-point.ensures

pub returns-in_err-fraction-clause-only : goal.returns-in_err-fraction-clause-only
returns-in_err-fraction-clause-only c = λ digits decimals number.
    let parts = parts_at digits decimals c.args.text.now _ c.point_place-point.result c.point_place-point.ensures refl number in
    absurd (parts.1.not_last c.in_err-fraction.ensures.none)

pub returns-then-point-eq0-clause-only : goal.returns-then-point-eq0-clause-only
returns-then-point-eq0-clause-only c = λ digits decimals number.
    let parts =
    parts_at digits decimals c.args.text.now c.in_ok-fraction.fraction.now c.point_place-point.result c.point_place-point.ensures
    c.in_ok-fraction.ensures.some number in
    let some = parts.1.some in
    let few = parts.1.few in
    let are = parts.2 in
    elim c.then-point-eq0.either [ inl none ↦ absurd (omega arith) | inr many ↦ absurd (omega (arith, many.1)) ]

pub returns-in_err-read_digits-clause-only : goal.returns-in_err-read_digits-clause-only
returns-in_err-read_digits-clause-only c = λ digits decimals number.
    let parts =
    parts_at digits decimals c.args.text.now c.in_ok-fraction.fraction.now c.point_place-point.result c.point_place-point.ensures
    c.in_ok-fraction.ensures.some number in
    let first_read = parts.1.first_read in
    let none = sym c.in_err-read_digits.was in
    cc (first_read, none, c.read_digits.ensures)

pub returns-in_err-digits-clause-only : goal.returns-in_err-digits-clause-only
returns-in_err-digits-clause-only c = λ digits decimals number.
    let parts =
    parts_at digits decimals c.args.text.now c.in_ok-fraction.fraction.now c.point_place-point.result c.point_place-point.ensures
    c.in_ok-fraction.ensures.some number in
    let first_read = parts.1.first_read in
    let then_read = parts.3 in
    let whole = sym c.in_ok-read_digits.was in
    let none = sym c.in_err-digits.was in
    cc (first_read, then_read, whole, none, c.read_digits.ensures, c.read_digits-2.ensures)

pub returns-clause-some : goal.returns-clause-some
returns-clause-some c =
    let first_read = sym c.read_digits.ensures ∙ c.in_ok-read_digits.was in
    let then_read = sym c.read_digits-2.ensures ∙ c.in_ok-digits.was in
    number_from_parts c.args.text.now c.in_ok-fraction.fraction.now c.point_place-point.result c.in_ok-read_digits.field-0 c.in_ok-digits.digits
    c.point_place-point.ensures c.in_ok-fraction.ensures.some c.in_ok-fraction.ensures.not_empty (omega arith)
    (place_within c.args.text.now _ c.point_place-point.ensures) (omega arith) first_read then_read

pub returns-clause-only : goal.returns-clause-only
returns-clause-only c = λ digits decimals number.
    let parts =
    parts_at digits decimals c.args.text.now c.in_ok-fraction.fraction.now c.point_place-point.result c.point_place-point.ensures
    c.in_ok-fraction.ensures.some number in
    let first_read = parts.1.first_read in
    let then_read = parts.3 in
    let whole = sym c.in_ok-read_digits.was in
    let all = sym c.in_ok-digits.was in
    let are = parts.2 in
    cc (first_read, then_read, whole, all, are, c.read_digits.ensures, c.read_digits-2.ensures)
