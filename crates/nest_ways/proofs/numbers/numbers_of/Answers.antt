use Rattle.std.proofs.Common.{◌≡◌, ◌∙◌, ◌++◌, [], ℕ, Some, ap, append-nil, append_assoc, arith, get_or, length, length-append, slice_get, subst, sym}
use Rattle.std.proofs.lemmas.Option.{same_Some, slice_get-get_or, slice_get_within}
use Rattle.nest_ways.specs.Sets.{HasAll, HasNumber, HasOnly, IsTrimmed}
use Rattle.nest_ways.specs.declared.ends.End.{End}
use Rattle.nest_ways.proofs.SetLaws.{all_same, numbered_next, numbered_on, numbered_only, only_same}
use Rattle.nest_ways.proofs.numbers.numbers_of.Goals as goal

pub loop-end-init : goal.loop-end-init
loop-end-init c = (
  λ place end less at. absurd (omega (arith, less)),
  λ number has. absurd (c.new-set.ensures.none number has),
  ([], sym (append-nil c.args.numbered.now)),
  c.requires,
  c.new-set.ensures.room,
)

pub loop-end-preserved : goal.loop-end-preserved
loop-end-preserved c =
    let none : End = record { scope = 0; line = 0 } in
    let kept = c.args.kept.now in
    let index = c.loop-end.end-index in
    let end = get_or kept index none in
    let number = c.in-Some.number in
    let before = c.loop-end.numbered in
    let old = c.loop-end.set in
    let new = c.put.new.self in
    let more = numbered_on before c.number_end.new.numbered end c.in_ok-number.ensures.once in
    let here : slice_get kept index ≡ Some end = slice_get-get_or kept index none c.loop-end-test.true in
    let there : slice_get (before ++ more.0) number ≡ Some end =
    ap (λ those. slice_get those number) (sym more.1) ∙ (c.in_ok-number.ensures.found number c.in-Some.is).1 in
    let has : HasNumber new number = c.in_ok-put.ensures.there in
    let long = ap length more.1 in
    let parts = length-append before more.0 in
    let least = c.loop-end.invariant.3 in
    let rest = c.loop-end.invariant.2 in (
      λ place one less at.
          subst (λ those. (n : ℕ) × HasNumber new n × (slice_get those n ≡ Some one)) (sym more.1)
          (numbered_next kept before more.0 old new index number end here there has c.in_ok-put.ensures.still c.loop-end.invariant.0 place one less at),
      subst (λ those. HasOnly those new kept) (sym more.1)
          (numbered_only kept before more.0 old new index number end here there c.in_ok-put.ensures.only c.loop-end.invariant.1),
      (rest.0 ++ more.0, more.1 ∙ ap (λ those. those ++ more.0) rest.1 ∙ append_assoc c.args.numbered.now rest.0 more.0),
      omega (arith, long, parts, least),
      λ n from. c.in_ok-put.ensures.room n (c.loop-end.invariant.4 n from),
    )

pub put-requires : goal.put-requires
put-requires c = c.loop-end.invariant.4 c.in-Some.number (c.in_ok-number.ensures.found c.in-Some.number c.in-Some.is).0

pub returns-clause-first : goal.returns-clause-first
returns-clause-first c set is = subst IsTrimmed (same_Some c.in_ok-trimmed.field-0 set is) c.in_ok-trimmed.ensures.first

pub returns-clause-has : goal.returns-clause-has
returns-clause-has c set is =
    let numbered = c.loop-end.numbered in
    let own = c.loop-end.set in
    let made = c.in_ok-trimmed.field-0 in
    let kept = c.args.kept.now in
    let last = c.loop-end-test.false in
    let all : HasAll numbered own kept =
    λ end among.
    let within = slice_get_within kept among.0 end among.1 in c.loop-end.invariant.0 among.0 end (omega (arith, within, last)) among.1 in
    subst (λ each. HasAll numbered each kept × HasOnly numbered each kept) (same_Some made set is)
    (all_same numbered own made kept c.in_ok-trimmed.ensures.same all, only_same numbered own made kept c.in_ok-trimmed.ensures.same c.loop-end.invariant.1)
