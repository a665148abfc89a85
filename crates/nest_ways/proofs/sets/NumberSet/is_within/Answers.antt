use Rattle.std.proofs.Common.{◌≡◌, ◌∙◌, ap, drop, subst, sym}
use Rattle.nest_ways.specs.Sets.{HasAt}
use Rattle.nest_ways.proofs.SetLaws.{set_within, within_dropped, within_empty}
use Rattle.nest_ways.proofs.sets.NumberSet.is_within.Goals as goal

pub returns-then-not-are_empty_before : goal.returns-then-not-are_empty_before
returns-then-not-are_empty_before c = (
  λ no. absurd (cc),
  λ all.
      let empty =
      c.are_empty_before.ensures.1
      (λ place bit has.
      within_empty c.args.self.now c.args.other.now c.saturating_sub-before.result c.saturating_sub-before.ensures all place bit
      (subst (λ those. HasAt those place bit) c.as_slice-words.ensures has)) in
      let not = c.if-not-are_empty_before.true in absurd (cc),
)

pub returns : goal.returns
returns c =
    let one = c.args.self.now in
    let other = c.args.other.now in
    let before = c.saturating_sub-before.result in
    let ahead = c.saturating_sub-ahead.result in
    let before_is = c.saturating_sub-before.ensures in
    let ahead_is = c.saturating_sub-ahead.ensures in
    let ones : c.words_from.result.now ≡ drop before one.words.items = c.words_from.ensures ∙ ap (drop before) c.as_slice-words.ensures in
    let others : c.words_from-2.result.now ≡ drop ahead other.words.items = c.words_from-2.ensures ∙ ap (drop ahead) c.as_slice.ensures in (
      λ told.
          set_within one other before ahead before_is ahead_is
          (λ place bit has.
          c.are_empty_before.ensures.0 c.if-not-are_empty_before.false place bit
          (subst (λ those. HasAt those place bit) (sym c.as_slice-words.ensures) has))
          (λ place bit has.
          subst (λ those. HasAt those place bit) others
          (c.are_within.ensures.0 told place bit (subst (λ those. HasAt those place bit) (sym ones) has))),
      λ all.
          c.are_within.ensures.1
          (λ place bit has.
          subst (λ those. HasAt those place bit) (sym others)
          (within_dropped one other before ahead before_is ahead_is all place bit (subst (λ those. HasAt those place bit) ones has))),
    )
