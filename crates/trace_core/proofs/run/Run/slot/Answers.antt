use Rattle.std.proofs.Common.{◌∙◌, ◌<◌, length, ap, sym, subst}
use Rattle.std.specs.Prelude.{slice_get}
use Rattle.std.specs.Option.{option_map}
use Rattle.list_laws.proofs.Members.{read_at}
use Rattle.trace_core.specs.Runs.{RunState}
use Rattle.trace_core.specs.Slots.{slot_seen}
use Rattle.trace_core.proofs.AskingLaws.{seated, slot_is_seen}
use Rattle.trace_core.proofs.run.Run.slot.Goals as goal

pub index-requires : goal.index-requires
index-requires c =
    let r = c.self.inside in
    let within = subst (λ (s : RunState). c.args.instance < length s.cells) (sym c.self.view_is) c.requires in
    subst (λ count. c.args.instance < count) (sym r.seats.ok.0) (seated r c.args.instance within).0

pub returns : goal.returns
returns c =
    let r = c.self.inside in
    let within = subst (λ (s : RunState). c.args.instance < length s.cells) (sym c.self.view_is) c.requires in
    let at = seated r c.args.instance within in
    let there = read_at r.seats.items c.args.instance c.index.result.now at.0 c.index.ensures in
    ap (λ (s : RunState). option_map slot_seen (slice_get s.cells c.args.instance)) (sym c.self.view_is)
    ∙ slot_is_seen r c.args.instance c.index.result.now at.1 there
