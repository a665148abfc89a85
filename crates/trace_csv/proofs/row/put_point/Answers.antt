use Rattle.std.proofs.Common.{◌≡◌, ◌∙◌, ◌∷◌, [], sym, subst, rules, ◌<◌, ◌^◌}
use Rattle.std.specs.Fmt.{decimal}
use Rattle.csv.specs.declared.writer.QuoteStyle.TheVariants as style
use Rattle.super_time.specs.Seconds.{seconds_text_of}
use Rattle.trace_csv.specs.Writers.{IsBare}
use Rattle.trace_csv.proofs.BareTexts.{time_bare, index_bare}
use Rattle.trace_csv.proofs.row.put_point.Goals as goal

pub returns : goal.returns
returns c =
    λ before has.
    let ticks : c.args.point.t < 2 ^ 64 = search rules in
    let steps : c.args.point.n < 2 ^ 64 = search rules in
    let added : c.seconds_text.new.out.items ≡ seconds_text_of c.args.resolution c.args.point.t = rw c.clear.ensures.items at c.in_ok-seconds_text.ensures.ok in
    let time : c.as_slice.result.now ≡ seconds_text_of c.args.resolution c.args.point.t = c.as_slice.ensures.value ∙ added in
    let index : c.as_bytes.result.now ≡ decimal c.args.point.n = c.as_bytes.ensures.value ∙ c.format.ensures.text in
    let one =
    rw time at
    (c.in_ok-put_field.ensures style.Necessary before [] has (subst (IsBare style.Necessary) (sym time) (time_bare c.args.resolution c.args.point.t ticks))) in
    rw index at
    (c.put_field-2.ensures style.Necessary before (seconds_text_of c.args.resolution c.args.point.t ∷ []) one
    (subst (IsBare style.Necessary) (sym index) (index_bare c.args.point.n steps)))
