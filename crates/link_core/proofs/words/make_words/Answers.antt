use Rattle.std.proofs.Common.{◌≡◌, ◌∙◌, length, subst, arith}
use Rattle.std.proofs.lemmas.Slice.Zip.{AllZip-long}
use Rattle.std.specs.List.{enumerate_from}
use Rattle.link_laws.specs.Making.{each, held, own_states, with_word}
use Rattle.link_core.specs.Noted.{making_in}
use Rattle.link_core.proofs.PassBodies.{items_count, stopped, turned, turns_on}
use Rattle.link_core.proofs.words.make_words.Goals as goal
use Rattle.port_solve.specs.Solved.{HaveStates}
use Rattle.trace_plan.specs.Plans.{Planned}

pub make_pass-requires-clause-tied : goal.make_pass-requires-clause-tied
make_pass-requires-clause-tied c = c.loop-turn.invariant.plan ∙ c.requires.tied

pub make_pass-requires-clause-notes : goal.make_pass-requires-clause-notes
make_pass-requires-clause-notes c = c.loop-turn.invariant.notes

pub make_pass-requires-clause-room : goal.make_pass-requires-clause-room
make_pass-requires-clause-room c = c.loop-turn.invariant.room

pub make_pass-requires-clause-words : goal.make_pass-requires-clause-words
make_pass-requires-clause-words c = c.loop-turn.invariant.words

pub loop-turn-preserved : goal.loop-turn-preserved
loop-turn-preserved c =
    let run = c.args.plan.now.run in
    let owners = c.args.owners.now in
    let me = c.args.me in
    let outs = enumerate_from 0 (held run owners (own_states owners me c.args.units.now.states)) in
    let made : making_in c.make_pass.new.notes ≡ each (with_word me c.args.row) (making_in c.loop-turn.notes) outs =
    subst (λ states. making_in c.make_pass.new.notes ≡ each (with_word me c.args.row) (making_in c.loop-turn.notes)
    (enumerate_from 0 (held run owners (own_states owners me states)))) c.loop-turn.invariant.states c.make_pass.ensures.made in
    record {
      turning = turns_on me c.args.row outs (length (held run owners (own_states owners me c.args.units.now.states))) (making_in c.args.notes.now)
          (making_in c.loop-turn.notes) (making_in c.make_pass.new.notes) c.loop-turn._turn made c.loop-turn.invariant.turning;
      notes = c.make_pass.ensures.notes;
      room = c.make_pass.ensures.room;
      words = c.make_pass.ensures.words;
      states = c.make_pass.ensures.states ∙ c.loop-turn.invariant.states;
      plan = c.make_pass.ensures.plan ∙ c.loop-turn.invariant.plan;
    }

pub returns-after-loop-turn-clause-made : goal.returns-after-loop-turn-clause-made
returns-after-loop-turn-clause-made c = λ point.
    let run = c.args.plan.now.run in
    let states = c.args.units.now.states in
    let have = subst (λ (plan : Planned). HaveStates plan.run states) c.requires.tied c.count.ensures.states in
    let long = AllZip-long _ run.members states have in
    let all = held run c.args.owners.now (own_states c.args.owners.now c.args.me states) in
    let count : length all ≡ c.len-turn-end.result = omega
    (arith, items_count run c.args.owners.now c.args.me states c.requires.owners long, c.requires.notes.words, c.len-turn-end.ensures) in
    turned c.args.me c.args.row (enumerate_from 0 all) (length all) (making_in c.args.notes.now) (making_in c.loop-turn.notes) c.loop-turn._turn
    (omega (arith, count, c.loop-turn-test.false)) (omega (arith, count, c.loop-turn.auto._turn-end)) c.loop-turn.invariant.turning

pub returns-then-not-make_pass-clause-made : goal.returns-then-not-make_pass-clause-made
returns-then-not-make_pass-clause-made c = λ point.
    let run = c.args.plan.now.run in
    let states = c.args.units.now.states in
    let have = subst (λ (plan : Planned). HaveStates plan.run states) c.requires.tied c.count.ensures.states in
    let long = AllZip-long _ run.members states have in
    let all = held run c.args.owners.now (own_states c.args.owners.now c.args.me states) in
    let count : length all ≡ c.len-turn-end.result = omega
    (arith, items_count run c.args.owners.now c.args.me states c.requires.owners long, c.requires.notes.words, c.len-turn-end.ensures) in
    let made : making_in c.make_pass.new.notes ≡ each (with_word c.args.me c.args.row) (making_in c.loop-turn.notes) (enumerate_from 0 all) =
    subst (λ one. making_in c.make_pass.new.notes ≡ each (with_word c.args.me c.args.row) (making_in c.loop-turn.notes)
    (enumerate_from 0 (held run c.args.owners.now (own_states c.args.owners.now c.args.me one)))) c.loop-turn.invariant.states c.make_pass.ensures.made in
    stopped c.args.me c.args.row (enumerate_from 0 all) (length all) (making_in c.args.notes.now) (making_in c.loop-turn.notes)
    (making_in c.make_pass.new.notes) c.loop-turn._turn
    (omega (arith, count, c.loop-turn.auto._turn-end)) made (c.make_pass.ensures.none c.if-not-make_pass.true) c.loop-turn.invariant.turning
