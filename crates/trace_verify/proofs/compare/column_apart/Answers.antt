use Rattle.std.proofs.Common.{◌≡◌, ◌∙◌, ◌+◌, ◌<◌, ◌∷◌, Bor, List, ℕ, drop, length, ap, sym, subst, arith}
use Rattle.std.specs.Option.{option_map}
use Rattle.csv.specs.Records.{fields_of}
use Rattle.trace_verify.specs.Verdicts.{column_from}
use Rattle.trace_verify.proofs.FieldLaws.{cut_left, fields_left, left_over, length_left, one_dropped, others_shorter, piece_apart, piece_same}
use Rattle.trace_verify.proofs.compare.column_apart.Goals as goal

pub returns-then-not-is_field : goal.returns-then-not-is_field
returns-then-not-is_field c =
    let now = option_map (λ (b : Bor (List ℕ)). b.now) in
    let fields = fields_of c.args.fields.now in
    let place = c.loop-rest.place in
    let piece = c.cut_field.result.0.now in
    let others = now c.cut_field.result.1 in
    let left_is : fields_left (now c.loop-rest.rest) ≡ piece ∷ fields_left others =
    ap (λ rest. fields_left (now rest)) c.in-Some.is ∙ cut_left c.in-Some.bytes.now piece others c.cut_field.ensures.first c.cut_field.ensures.others in
    sym (c.loop-rest.invariant.same ∙ ap (λ left. column_from (place + 1) left (drop place fields)) left_is
    ∙ piece_apart (place + 1) piece (fields_left others) (drop place fields) (sym c.is_field.ensures ∙ c.if-not-is_field.true))

pub loop-rest-smaller : goal.loop-rest-smaller
loop-rest-smaller c =
    let now = option_map (λ (b : Bor (List ℕ)). b.now) in
    let shorter = others_shorter c.in-Some.bytes.now (now c.cut_field.result.1) c.cut_field.ensures.others in
    subst (λ rest. length_left (now c.cut_field.result.1) < length_left (now rest)) (sym c.in-Some.is) (omega (arith, shorter))

pub loop-rest-preserved : goal.loop-rest-preserved
loop-rest-preserved c =
    let now = option_map (λ (b : Bor (List ℕ)). b.now) in
    let fields = fields_of c.args.fields.now in
    let place = c.loop-rest.place in
    let piece = c.cut_field.result.0.now in
    let others = now c.cut_field.result.1 in
    let left_is : fields_left (now c.loop-rest.rest) ≡ piece ∷ fields_left others =
    ap (λ rest. fields_left (now rest)) c.in-Some.is ∙ cut_left c.in-Some.bytes.now piece others c.cut_field.ensures.first c.cut_field.ensures.others in
    let shorter = others_shorter c.in-Some.bytes.now others c.cut_field.ensures.others in
    let long = ap (λ rest. length_left (now rest)) c.in-Some.is in
    record {
      counted = omega (arith, shorter, long, c.loop-rest.invariant.counted);
      same =
          c.loop-rest.invariant.same ∙ ap (λ left. column_from (place + 1) left (drop place fields)) left_is
          ∙ piece_same (place + 1) piece (fields_left others) (drop place fields) (sym c.is_field.ensures ∙ c.if-not-is_field.false)
          ∙ ap (column_from (place + 1 + 1) (fields_left others)) (one_dropped place fields);
    }

pub returns-then-place-len : goal.returns-then-place-len
returns-then-place-len c =
    let now = option_map (λ (b : Bor (List ℕ)). b.now) in
    let fields = fields_of c.args.fields.now in
    let place = c.loop-rest.place in
    let less : place < length fields = subst (λ n. place < n) c.len.ensures c.if-place-len.true in
    sym (c.loop-rest.invariant.same ∙ ap (λ rest. column_from (place + 1) (fields_left (now rest)) (drop place fields)) c.in_default.is
    ∙ left_over (place + 1) place fields less)
