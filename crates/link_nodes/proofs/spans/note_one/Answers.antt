use Rattle.std.proofs.Common.{◌+◌, ◌++◌, ◌∷◌, [], set, subst}
use Rattle.link_nodes.specs.ShownRows.{AreNoted}
use Rattle.link_nodes.proofs.SpanLaws.{noted_next}
use Rattle.link_nodes.proofs.spans.note_one.Goals as goal
use Rattle.list_laws.proofs.Members.{read_at}

pub returns : goal.returns
returns c = λ facts fact many of are.
    let rows = c.grow.new.rows.items in
    let old = c.index_mut.result.now in
    let there = read_at rows c.args.row old c.in_ok-grow.ensures.long c.index_mut.ensures.value in
    subst (λ place. AreNoted (set rows c.args.row (record { first = old.first; end = place + 1 })) (facts ++ fact ∷ [])) many
    (noted_next rows c.args.row old there facts fact of (c.in_ok-grow.ensures.noted facts many are))
