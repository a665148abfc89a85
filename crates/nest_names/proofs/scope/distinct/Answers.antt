use Rattle.std.proofs.Common.{◌≡◌, ◌∙◌, ◌++◌, ◌∷◌, [], ap, bytes_eq, sym}
use Rattle.std.specs.List.{filter, list_any}
use Rattle.list_laws.proofs.Members.{read_at}
use Rattle.nest_names.specs.Flattening.{distinct, same_spot}
use Rattle.nest_names.specs.Tables.{items_at, places_of}
use Rattle.nest_names.specs.declared.scope.Spot.{Spot}
use Rattle.nest_names.proofs.FlatLaws.{distinct_kept, distinct_new, kept_told}
use Rattle.nest_names.proofs.NamedLists.{listed_more, one_if}
use Rattle.nest_names.proofs.scope.distinct.Goals as goal

pub loop-place-preserved-then-is_kept : goal.loop-place-preserved-then-is_kept
loop-place-preserved-then-is_kept c =
    let spots = c.args.spots.now in
    let one = c.index-spots-place.result in
    let named = c.named.ensures ∙ ap (places_of c.loop-place.places) c.as_slice-port.ensures in
    let told : c.is_kept.result ≡ list_any (same_spot one) c.loop-place.kept =
    kept_told one spots c.loop-place.kept c.named.result.now c.is_kept.result c.is_kept.ensures
    (ap (items_at spots) named ∙ c.loop-place.invariant.2 one.port.port) in (
      distinct_kept c.loop-place.kept spots (distinct [] spots) c.loop-place.place one c.loop-place-test.true c.index-spots-place.is
          (sym told ∙ c.if-is_kept.true) c.loop-place.invariant.0,
      c.loop-place.invariant.1,
      c.loop-place.invariant.2,
    )

pub loop-place-preserved : goal.loop-place-preserved
loop-place-preserved c =
    let spots = c.args.spots.now in
    let one = c.index-spots-place.result in
    let place = c.loop-place.place in
    let named = c.named.ensures ∙ ap (places_of c.loop-place.places) c.as_slice-port.ensures in
    let told : c.is_kept.result ≡ list_any (same_spot one) c.loop-place.kept =
    kept_told one spots c.loop-place.kept c.named.result.now c.is_kept.result c.is_kept.ensures
    (ap (items_at spots) named ∙ c.loop-place.invariant.2 one.port.port) in
    let more : c.push.new.self ≡ c.loop-place.kept ++ one ∷ [] =
    c.in_ok-push.ensures.ok ∙ ap (λ (copy : Spot). c.loop-place.kept ++ copy ∷ []) c.in_ok-copy.ensures in (
      distinct_new c.loop-place.kept c.push.new.self spots (distinct [] spots) place one c.loop-place-test.true c.index-spots-place.is
          (sym told ∙ c.if-is_kept.false) more c.loop-place.invariant.0,
      c.in_ok-add.ensures.numbered,
      λ q.
          listed_more (λ (spot : Spot). spot.port.port) spots c.loop-place.kept (places_of c.loop-place.places) (places_of c.add.new.self) place one
          (read_at spots place one c.loop-place-test.true c.index-spots-place.is) c.loop-place.invariant.2
          (λ r. c.in_ok-add.ensures.places r ∙ ap (λ port. places_of c.loop-place.places r ++ one_if (bytes_eq r port) place) c.as_slice-port.ensures) q
          ∙ ap (filter (λ (spot : Spot). bytes_eq spot.port.port q)) (sym more),
    )
