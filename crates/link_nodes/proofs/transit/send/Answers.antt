use Rattle.std.proofs.Common.{◌≡◌, ◌∙◌, true, ◌+◌, ◌<◌, ◌++◌, Vec, Global, length, ap, sym, subst, append-nil, arith}
use Rattle.std.proofs.lemmas.Option.{slice_get-get_or}
use Rattle.link_laws.specs.Lengths.{is_short}
use Rattle.link_laws.specs.declared.fact.Fact.{Fact}
use Rattle.link_laws.proofs.PairLaws.{found_is}
use Rattle.link_nodes.proofs.SendLaws.{Sending, end_left, left, loses, sends, start_left}
use Rattle.link_nodes.proofs.transit.send.Goals as goal
use Rattle.link_nodes.proofs.transit.send.Goals.{then-is_sent+in_ok-push, else-is_sent}

pub loop-place-init : goal.loop-place-init
loop-place-init c =
    let r = c.args.round in
    record {
      sending = record {
        all =
            ap (λ transit. transit ++ left r.seed r.number c.args.row c.args.facts.now c.args.span.first) c.requires.empty
            ∙ start_left r.seed r.number c.args.row c.args.facts.now c.args.span.first c.args.span.end c.requires.others;
      };
    }

pub carried-requires : goal.carried-requires
carried-requires c =
    let within : c.loop-place.place < length c.args.facts.now = omega (arith, c.loop-place-test.true, c.requires.end) in
    found_is (λ fact. is_short fact ≡ true) c.args.facts.now c.loop-place.place _ c.requires.short
    (slice_get-get_or c.args.facts.now c.loop-place.place _ within)

pub loop-place-preserved : goal.loop-place-preserved
loop-place-preserved c =
    let r = c.args.round in
    let facts = c.args.facts.now in
    let place = c.loop-place.place in
    let within : place < length facts = omega (arith, c.loop-place-test.true, c.requires.end) in
    record {
      sending = elim c.if-is_sent.branch [
        | then-is_sent+in_ok-push w ↦ sends r.seed r.number c.args.row facts place _ w.carried.result c.loop-place.transit.items
            c.if-is_sent.transit.items (slice_get-get_or facts place _ within) (sym c.is_sent.ensures ∙ w.if-is_sent.true)
            (ap (λ (v : Vec Fact Global). v.items) w.transit-is ∙ w.in_ok-push.ensures.items) w.carried.ensures c.loop-place.invariant.sending
        | else-is_sent w ↦ subst (λ (v : Vec Fact Global). Sending r.seed r.number c.args.row facts v.items (place + 1)) (sym w.transit-is)
            (loses r.seed r.number c.args.row facts place _ c.loop-place.transit.items (slice_get-get_or facts place _ within)
            (sym c.is_sent.ensures ∙ w.if-is_sent.false) c.loop-place.invariant.sending)
      ];
    }

pub returns : goal.returns
returns c =
    let r = c.args.round in
    sym (append-nil c.loop-place.transit.items)
    ∙ ap (λ rest. c.loop-place.transit.items ++ rest) (sym
    (end_left r.seed r.number c.args.row c.args.facts.now c.args.span.first c.args.span.end c.requires.others c.loop-place.place
    (omega (arith, c.loop-place-test.false))))
    ∙ c.loop-place.invariant.sending.all
