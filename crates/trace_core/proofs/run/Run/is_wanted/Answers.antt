use Rattle.std.proofs.Common.{◌≡◌, subst}
use Rattle.std.proofs.lemmas.Option.{slice_get_past}
use Rattle.std.specs.Prelude.{slice_get, Some, None}
use Rattle.list_laws.proofs.Members.{read_at}
use Rattle.trace_core.proofs.FillLaws.{not_ended, wanted_exactly, none_wanted}
use Rattle.trace_core.proofs.run.Run.is_wanted.Goals as goal

pub returns-in-Some : goal.returns-in-Some
returns-in-Some c =
    let r = c.self.inside in
    let seat = c.in-Some.seat.now in
    let looked = c.in-Some.ensures.lookup in
    let there = read_at c.deref.result.now c.args.instance seat looked.3.0 looked.1 in
    let seated : slice_get r.seats.items c.args.instance ≡ Some seat = subst (λ all. slice_get all c.args.instance ≡ Some seat) c.deref.ensures.value there in
    let going = not_ended r.phase c.in_default.not-Ended in
    wanted_exactly r c.args.self.now c.args.instance seat c.is_empty.result c.self.view_is going seated c.is_empty.ensures

pub returns-in-None : goal.returns-in-None
returns-in-None c =
    let r = c.self.inside in
    let past = slice_get_past c.deref.result.now c.args.instance c.in-None.ensures.lookup.3 in
    let none : slice_get r.seats.items c.args.instance ≡ None = subst (λ all. slice_get all c.args.instance ≡ None) c.deref.ensures.value past in
    none_wanted r c.args.self.now c.args.instance c.self.view_is none
