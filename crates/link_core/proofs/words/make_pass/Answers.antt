use Rattle.std.proofs.Common.{◌∙◌, ◌<◌, length, refl, subst, arith}
use Rattle.std.proofs.lemmas.Slice.Zip.{AllZip-long}
use Rattle.link_laws.specs.Making.{held, own_states, with_word}
use Rattle.link_core.specs.Noted.{making_in}
use Rattle.link_core.proofs.PassBodies.{gone, items_count, pass_step}
use Rattle.link_core.proofs.words.make_pass.Goals as goal
use Rattle.link_core.proofs.words.make_pass.Goals.{then-make_word, else-make_word}
use Rattle.port_solve.specs.Solved.{HaveStates}
use Rattle.trace_plan.specs.Plans.{Planned}
use Rattle.unit_tree.specs.Routes.{routes_of}

pub loop-place-preserved : goal.loop-place-preserved
loop-place-preserved c =
    let run = c.args.plan.now.run in
    let states = c.args.units.now.states in
    let have = subst (λ (plan : Planned). HaveStates plan.run states) c.requires.tied c.count.ensures.states in
    let long = AllZip-long _ run.members states have in
    let within : c.loop-place.place < length (routes_of run).outputs = omega (arith, c.loop-place-test.true, c.len-place-end.ensures, c.requires.notes.words) in
    record {
      going = pass_step run c.args.owners.now c.args.me states c.requires.owners long c.args.row c.loop-place.place c.loop-place.place c.owner_at.result
          c.loop-place.units.states (making_in c.args.notes.now) (making_in c.loop-place.notes) (making_in c.make_word.new.notes)
          refl c.loop-place.invariant.states within c.owner_at.ensures c.make_word.ensures.made c.loop-place.invariant.going;
      none = λ is. elim c.if-make_word.branch [
        | then-make_word w ↦ absurd (cc (is, w.made-is))
        | else-make_word w ↦ c.make_word.ensures.none w.if-make_word.false ∙ c.loop-place.invariant.none (cc (is, w.made-is))
      ];
      notes = c.make_word.ensures.notes;
      room = c.make_word.ensures.room;
      words = c.make_word.ensures.words;
      states = c.make_word.ensures.states ∙ c.loop-place.invariant.states;
      plan = c.make_word.ensures.plan ∙ c.loop-place.invariant.plan;
    }

pub returns-clause-made : goal.returns-clause-made
returns-clause-made c =
    let run = c.args.plan.now.run in
    let states = c.args.units.now.states in
    let have = subst (λ (plan : Planned). HaveStates plan.run states) c.requires.tied c.count.ensures.states in
    let long = AllZip-long _ run.members states have in
    let count = items_count run c.args.owners.now c.args.me states c.requires.owners long in
    gone (with_word c.args.me c.args.row) (held run c.args.owners.now (own_states c.args.owners.now c.args.me states)) (making_in c.args.notes.now)
    (making_in c.loop-place.notes) c.loop-place.place
    (omega (arith, count, c.loop-place-test.false, c.len-place-end.ensures, c.requires.notes.words)) c.loop-place.invariant.going
