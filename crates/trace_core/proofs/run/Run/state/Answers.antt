use Rattle.std.proofs.Common.{◌∙◌, ◌<◌, length, ap, sym, subst}
use Rattle.std.specs.Prelude.{slice_get}
use Rattle.list_laws.proofs.Members.{read_at}
use Rattle.trace_core.specs.Runs.{RunState}
use Rattle.trace_core.specs.Seats.{saved}
use Rattle.trace_core.proofs.RowLaws.{live_seat, saved_words}
use Rattle.trace_core.proofs.run.Run.state.Goals as goal

pub words-requires : goal.words-requires
words-requires c =
    let r = c.self.inside in
    let among = subst (λ (s : RunState). c.args.instance < length s.plan.run.members) (sym c.self.view_is) c.requires in
    let within = subst (λ count. c.args.instance < count) (sym c.self.invariant.room.seats) among in
    let there = read_at r.seats.items c.args.instance c.index.result.now within c.index.ensures in
    record { live = live_seat r.snaps r.seats.items (saved r.snaps r.seats.items) c.args.instance c.index.result.now c.self.invariant.saved there }

pub returns : goal.returns
returns c =
    let r = c.self.inside in
    let among = subst (λ (s : RunState). c.args.instance < length s.plan.run.members) (sym c.self.view_is) c.requires in
    let within = subst (λ count. c.args.instance < count) (sym c.self.invariant.room.seats) among in
    let there = read_at r.seats.items c.args.instance c.index.result.now within c.index.ensures in
    ap (λ (s : RunState). slice_get s.stand.at.states c.args.instance) (sym c.self.view_is)
    ∙ saved_words r.snaps r.seats.items c.args.instance c.index.result.now c.words.result.now there c.words.ensures.words
