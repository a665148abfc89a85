use Rattle.std.proofs.Common.{◌≡◌, ◌∙◌, ◌+◌, ◌-◌, ap, arith, drop, length, refl, subst, sym, Some}
use Rattle.std.specs.Prelude.{slice_get}
use Rattle.std.proofs.lemmas.List.{length-drop, take_all}
use Rattle.nest_ways.specs.Sets.{HasAt, IsEmpty}
use Rattle.nest_ways.specs.declared.sets.NumberSet.{NumberSet}
use Rattle.nest_ways.specs.declared.sets.SetWord.{SetWord}
use Rattle.nest_ways.proofs.SetLaws.{trimmed_first, trimmed_same}
use Rattle.nest_ways.proofs.sets.NumberSet.trimmed.Goals.{In_ok-words}
use Rattle.nest_ways.proofs.sets.NumberSet.trimmed.Goals as goal

-- The words that are left.
left : (c : In_ok-words) → c.in_ok-words.words.items ≡ drop c.min-empty.result c.args.self.now.words.items
left c =
    let empty = c.min-empty.result in
    let words = c.as_slice-2.result.now in
    let rest = drop empty words in
    let long = length-drop empty words in
    let same : length words - empty ≡ length rest = omega (arith, long) in
    c.in_ok-words.ensures.ok ∙ take_all (length words - empty) rest (omega (arith, same)) ∙ ap (drop empty) c.as_slice-2.ensures

pub returns-clause-same : goal.returns-clause-same
returns-clause-same c =
    let one = c.args.self.now in
    let empty = c.min-empty.result in
    let new : NumberSet = record { start = one.start + empty; words = c.in_ok-words.words } in
    trimmed_same one.words.items one new empty refl refl (left c)
    (λ place bit has.
    let low = c.empty_before.ensures.least place bit (subst (λ those. HasAt those place bit) (sym c.as_slice.ensures) has) in
    let least = c.min-empty.ensures in omega (arith, low, least))

pub returns-clause-first : goal.returns-clause-first
returns-clause-first c word at below =
    let words = c.args.self.now.words.items in
    let least = c.min-empty.ensures in
    let all : c.empty_before.result ≡ c.min-empty.result = omega (arith, least, below) in
    trimmed_first words c.in_ok-words.words.items c.min-empty.result (left c)
    (subst (λ k. (one : SetWord) → slice_get words k ≡ Some one → IsEmpty one → ⊥) all
    (subst (λ those. (one : SetWord) → slice_get those c.empty_before.result ≡ Some one → IsEmpty one → ⊥) c.as_slice.ensures
    c.empty_before.ensures.first)) word at
