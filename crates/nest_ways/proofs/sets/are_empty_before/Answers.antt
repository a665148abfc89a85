use Rattle.std.proofs.Common.{◌<◌, ◌≤◌, ◌≡◌, ◌⊎◌, ℕ, List, arith, inl, inr, length, tests}
use Rattle.std.proofs.lemmas.Bool.{cases_lt}
use Rattle.nest_ways.specs.Sets.{HasAt}
use Rattle.nest_ways.specs.declared.sets.SetWord.{SetWord}
use Rattle.nest_ways.proofs.SetLaws.{all_before, first_before}
use Rattle.nest_ways.proofs.sets.are_empty_before.Goals as goal

pub returns-then-empty-place : goal.returns-then-empty-place
returns-then-empty-place c =
    let enough = c.if-empty-place.true in (
      λ told at bit has. let low = c.empty_before-empty.ensures.least at bit has in omega (arith, low, enough),
      λ before. grind (arith, tests, enough),
    )

pub returns-else-empty-place : goal.returns-else-empty-place
returns-else-empty-place c = (
  λ told. all_before words empty place c.empty_before-empty.ensures.least (grind (arith, tests, told)),
  λ before. let same = end before (cases_lt empty (length words)) in grind (arith, tests, same),
)
  where
    words : List SetWord
    words = c.args.words.now

    empty : ℕ
    empty = c.empty_before-empty.result

    place : ℕ
    place = c.args.place

    end : ((at bit : ℕ) → HasAt words at bit → place ≤ at) → (empty < length words) ⊎ (length words ≤ empty) → empty ≡ length words
    end before (inl within) =
        let enough = first_before words empty place c.empty_before-empty.ensures.first within before in
        let less = c.if-empty-place.false in absurd (omega (arith, enough, less))
    end before (inr enough) = let least = c.empty_before-empty.ensures.within in omega (arith, enough, least)
