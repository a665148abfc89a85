use Rattle.std.proofs.Common.{◌≡◌, ◌∙◌, ◌+◌, ◌∷◌, ◌<◌, ℕ, Bor, List, Some, ap, sym, subst, ◌++◌, [], SFits, w64, rules}
use Rattle.std.specs.Option.{option_map}
use Rattle.std.proofs.lemmas.Int.{to_z-of_z}
use Rattle.save_point.specs.Reading.{parts_in}
use Rattle.save_point.proofs.PartTexts.{cut_left, no_some}
use Rattle.save_point.proofs.ReadStates.{PutSoFar, bytes_left, fewer_left, put_next, put_stops}
use Rattle.save_point.proofs.reading.put_words.Goals as goal

pub returns-in_default-word_in-clause-none : goal.returns-in_default-word_in-clause-none
returns-in_default-word_in-clause-none c = λ _.
    let now = option_map (λ (b : Bor (List ℕ)). b.now) in
    let left_is : parts_in (now c.loop-rest.rest) ≡ c.cut_part.result.0.now ∷ parts_in (now c.cut_part.result.1) =
    ap (λ rest. parts_in (now rest)) c.in-Some.is
    ∙ cut_left c.in-Some.bytes.now c.cut_part.result.0.now (now c.cut_part.result.1) c.cut_part.ensures.first c.cut_part.ensures.others in
    put_stops (parts_in (now c.args.parts)) (parts_in (now c.loop-rest.rest)) (parts_in (now c.cut_part.result.1)) c.cut_part.result.0.now c.args.words.now
    c.loop-rest.words c.loop-rest.count c.loop-rest.invariant left_is
    (sym c.word_in.ensures ∙ no_some c.word_in.result c.in_default-word_in.not-Some)

pub loop-rest-smaller : goal.loop-rest-smaller
loop-rest-smaller c =
    let now = option_map (λ (b : Bor (List ℕ)). b.now) in
    subst (λ rest. bytes_left (now c.cut_part.result.1) < bytes_left (now rest)) (sym c.in-Some.is)
    (fewer_left c.in-Some.bytes.now (now c.cut_part.result.1) (sym c.cut_part.ensures.others))

pub loop-rest-preserved : goal.loop-rest-preserved
loop-rest-preserved c =
    let now = option_map (λ (b : Bor (List ℕ)). b.now) in
    let fits : SFits w64 c.in-Some-word_in.word = search rules in
    let more : c.in-Some-checked_add.more ≡ c.loop-rest.count + 1 = search rules in
    let some : c.word_in.result ≡ Some c.in-Some-word_in.word = search rules in
    let next : c.push.new.self ≡ c.loop-rest.words ++ (c.in-Some-word_in.word ∷ []) =
    c.in_ok-push.ensures.ok ∙ ap (λ word. c.loop-rest.words ++ (word ∷ [])) (to_z-of_z w64 c.in-Some-word_in.word fits) in
    let left_is : parts_in (now c.loop-rest.rest) ≡ c.cut_part.result.0.now ∷ parts_in (now c.cut_part.result.1) =
    ap (λ rest. parts_in (now rest)) c.in-Some.is
    ∙ cut_left c.in-Some.bytes.now c.cut_part.result.0.now (now c.cut_part.result.1) c.cut_part.ensures.first c.cut_part.ensures.others in
    subst (PutSoFar (parts_in (now c.args.parts)) (parts_in (now c.cut_part.result.1)) c.args.words.now c.push.new.self) (sym more)
    (put_next (parts_in (now c.args.parts)) (parts_in (now c.loop-rest.rest)) (parts_in (now c.cut_part.result.1)) c.cut_part.result.0.now c.args.words.now
    c.loop-rest.words c.push.new.self c.loop-rest.count c.in-Some-word_in.word c.loop-rest.invariant left_is (sym c.word_in.ensures ∙ some) next)
