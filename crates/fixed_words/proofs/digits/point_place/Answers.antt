use Rattle.std.proofs.Common.{◌≡◌, ◌==◌, rules, tests, ◌∙◌, length}
use Rattle.std.specs.List.{position, position_or_len}
use Rattle.std.proofs.lemmas.Iterator.{YieldsList-from_slice}
use Rattle.std.proofs.lemmas.Iterator.Search.{position_from_yields_List}
use Rattle.std.proofs.lemmas.List.Sums.{prefix_len-le-length}
use Rattle.fixed_words.proofs.Numbers.{place_from_position}
use Rattle.fixed_words.proofs.digits.point_place.Goals as goal

pub returns : goal.returns
returns c =
    let text = c.args.text.now in
    let found : c.position.result ≡ position (λ byte. byte == 46) text =
    position_from_yields_List (λ byte. byte == 46) _ _ c.position.result c.position.ensures.ran (YieldsList-from_slice text cc)
    (λ x b q k. search (rules, tests)) in
    c.unwrap_or.ensures ∙ place_from_position c.position.result (position_or_len (λ byte. byte == 46) text) (length text) (prefix_len-le-length _ text) found
