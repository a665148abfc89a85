use Rattle.std.proofs.Common.{◌≡◌, ◌∙◌, ℕ, ℤ, List, ap, refl, subst, sym}
use Rattle.link_laws.specs.Boards.{Board}
use Rattle.link_laws.specs.Making.{limits_by, ports_in, redos_by, replies_by}
use Rattle.link_core.specs.Noted.{IsTrue, making_in, part_at}
use Rattle.link_core.specs.Ready.{all_made}
use Rattle.link_core.proofs.MakingAll.{fed_here, made_all, true_four, true_one, true_three, true_two, words_four, words_three, words_two}
use Rattle.link_core.proofs.working.make_all.Goals.{After-find_stage-wanted, After-find_stage-wanted-2, After-find_stage-wanted-3, After-make_redos_wanted}
use Rattle.link_core.proofs.working.make_all.Goals as goal
use Rattle.port_solve.specs.Solved.{HaveInputs, HaveStates, HaveTheirWords}
use Rattle.trace_plan.specs.Plans.{Planned}
use Rattle.trace_units.specs.Fleets.{Fleet}
use Rattle.super_time.specs.declared.point.Point.{Point}
use Rattle.unit_tree.specs.Compositions.{Composition}

-- ---- What is known and true, one stage after the other

-- The words are made: what is known is true, and the inputs have the words.
record Stands (run : Composition) (owners : List ℕ) (me : ℕ) (point : Point) (row : ℕ) (states : List (List ℤ)) (known : Board) (units : Fleet) : Type 0 where
  truth : IsTrue run owners me point row states known
  same : units.states ≡ states
  shape : HaveInputs run units.inputs
  words : HaveTheirWords run (ports_in known.words) units.inputs

-- The units stay, and so do the words.
stands_on : (run : Composition) (owners : List ℕ) (me : ℕ) (point : Point) (row : ℕ) (states : List (List ℤ)) (known next : Board) (units then : Fleet)
    → Stands run owners me point row states known units → IsTrue run owners me point row states next → next.words ≡ known.words → then ≡ units
    → Stands run owners me point row states next then
stands_on run owners me point row states known next units then so truth words_are kept = record {
  truth = truth;
  same = ap (λ (f : Fleet). f.states) kept ∙ so.same;
  shape = subst (λ (f : Fleet). HaveInputs run f.inputs) (sym kept) so.shape;
  words = subst (λ ports. HaveTheirWords run ports then.inputs) (ap ports_in (sym words_are))
      (subst (λ (f : Fleet). HaveTheirWords run (ports_in known.words) f.inputs) (sym kept) so.words);
}

first : (c : After-find_stage-wanted)
    → Stands c.args.plan.now.run c.args.owners.now c.args.me c.args.point c.args.row c.args.units.now.states (making_in c.make_words.new.notes).known c.make_words.new.units
first c =
    let run = c.args.plan.now.run in
    let owners = c.args.owners.now in
    let me = c.args.me in
    let point = c.args.point in
    let row = c.args.row in
    let states = c.args.units.now.states in
    let start = making_in c.args.notes.now in
    let one = making_in c.make_words.new.notes in
    let wanted = c.find_stage-wanted.result in
    let plan_is = c.make_words.ensures.plan ∙ c.requires.ready.tied in
    record {
      truth = true_one run c.judged.ensures owners me c.requires.ready.owned point row states start one (limits_by run owners me (part_at owners me point row states) wanted one) one one
          wanted wanted wanted c.requires.ready.truth (c.make_words.ensures.made point) c.find_stage-wanted.ensures.stage refl;
      same = c.make_words.ensures.states;
      shape = subst (λ (plan : Planned). HaveInputs plan.run c.make_words.new.units.inputs) plan_is c.count.ensures.inputs;
      words = c.make_words.ensures.words;
    }

second : (c : After-find_stage-wanted-2)
    → Stands c.args.plan.now.run c.args.owners.now c.args.me c.args.point c.args.row c.args.units.now.states (making_in c.make_words.new.notes).known c.make_words.new.units
    → Stands c.args.plan.now.run c.args.owners.now c.args.me c.args.point c.args.row c.args.units.now.states (making_in c.make_limits_wanted.new.notes).known c.make_limits_wanted.new.units
    × (making_in c.make_limits_wanted.new.notes ≡ limits_by c.args.plan.now.run c.args.owners.now c.args.me
    (part_at c.args.owners.now c.args.me c.args.point c.args.row c.args.units.now.states) c.find_stage-wanted.result (making_in c.make_words.new.notes))
second c so =
    let run = c.args.plan.now.run in
    let owners = c.args.owners.now in
    let me = c.args.me in
    let point = c.args.point in
    let row = c.args.row in
    let states = c.args.units.now.states in
    let start = making_in c.args.notes.now in
    let one = making_in c.make_words.new.notes in
    let two = making_in c.make_limits_wanted.new.notes in
    let wanted = c.find_stage-wanted.result in
    let two_is : two ≡ limits_by run owners me (part_at owners me point row states) wanted one =
    subst (λ all. two ≡ limits_by run owners me (part_at owners me point row all) wanted one) so.same c.make_limits_wanted.ensures.made in
    let truth = true_two run c.judged.ensures owners me c.requires.ready.owned point row states start one two two two wanted wanted wanted c.requires.ready.truth
    (c.make_words.ensures.made point) c.find_stage-wanted.ensures.stage two_is in
    let words_are = words_two run c.judged.ensures owners me c.requires.ready.owned point row states start one two two two wanted wanted wanted c.requires.ready.truth
    (c.make_words.ensures.made point) c.find_stage-wanted.ensures.stage two_is in (
      stands_on run owners me point row states one.known two.known c.make_words.new.units c.make_limits_wanted.new.units so truth words_are
          c.make_limits_wanted.ensures.kept,
      two_is,
    )

third : (c : After-find_stage-wanted-3)
    → Stands c.args.plan.now.run c.args.owners.now c.args.me c.args.point c.args.row c.args.units.now.states (making_in c.make_limits_wanted.new.notes).known c.make_limits_wanted.new.units
    × (making_in c.make_limits_wanted.new.notes ≡ limits_by c.args.plan.now.run c.args.owners.now c.args.me
    (part_at c.args.owners.now c.args.me c.args.point c.args.row c.args.units.now.states) c.find_stage-wanted.result (making_in c.make_words.new.notes))
    → Stands c.args.plan.now.run c.args.owners.now c.args.me c.args.point c.args.row c.args.units.now.states (making_in c.make_replies_wanted.new.notes).known c.make_replies_wanted.new.units
    × (making_in c.make_replies_wanted.new.notes ≡ replies_by c.args.plan.now.run c.args.owners.now c.args.me
    (part_at c.args.owners.now c.args.me c.args.point c.args.row c.args.units.now.states) c.find_stage-wanted-2.result (making_in c.make_limits_wanted.new.notes))
third c so =
    let run = c.args.plan.now.run in
    let owners = c.args.owners.now in
    let me = c.args.me in
    let point = c.args.point in
    let row = c.args.row in
    let states = c.args.units.now.states in
    let start = making_in c.args.notes.now in
    let one = making_in c.make_words.new.notes in
    let two = making_in c.make_limits_wanted.new.notes in
    let three = making_in c.make_replies_wanted.new.notes in
    let wanted = c.find_stage-wanted-2.result in
    let three_is : three ≡ replies_by run owners me (part_at owners me point row states) wanted two =
    subst (λ all. three ≡ replies_by run owners me (part_at owners me point row all) wanted two) so.0.same c.make_replies_wanted.ensures.made in
    let truth = true_three run c.judged.ensures owners me c.requires.ready.owned point row states start one two three three c.find_stage-wanted.result wanted wanted
    c.requires.ready.truth (c.make_words.ensures.made point) c.find_stage-wanted.ensures.stage so.1 c.find_stage-wanted-2.ensures.stage three_is in
    let words_are = words_three run c.judged.ensures owners me c.requires.ready.owned point row states start one two three three c.find_stage-wanted.result wanted wanted
    c.requires.ready.truth (c.make_words.ensures.made point) c.find_stage-wanted.ensures.stage so.1 c.find_stage-wanted-2.ensures.stage three_is in (
      stands_on run owners me point row states two.known three.known c.make_limits_wanted.new.units c.make_replies_wanted.new.units so.0 truth words_are
          c.make_replies_wanted.ensures.kept,
      three_is,
    )

-- The last facts are made: all of them are those that a node makes.
record Made (c : After-make_redos_wanted) : Type 0 where
  all : making_in c.make_redos_wanted.new.notes ≡ all_made c.args.plan.now.run c.args.owners.now c.args.me
      (part_at c.args.owners.now c.args.me c.args.point c.args.row c.args.units.now.states) (making_in c.args.notes.now)
  stands : Stands c.args.plan.now.run c.args.owners.now c.args.me c.args.point c.args.row c.args.units.now.states
      (making_in c.make_redos_wanted.new.notes).known c.make_redos_wanted.new.units

fourth : (c : After-make_redos_wanted)
    → (making_in c.make_limits_wanted.new.notes ≡ limits_by c.args.plan.now.run c.args.owners.now c.args.me
    (part_at c.args.owners.now c.args.me c.args.point c.args.row c.args.units.now.states) c.find_stage-wanted.result (making_in c.make_words.new.notes))
    → Stands c.args.plan.now.run c.args.owners.now c.args.me c.args.point c.args.row c.args.units.now.states (making_in c.make_replies_wanted.new.notes).known c.make_replies_wanted.new.units
    × (making_in c.make_replies_wanted.new.notes ≡ replies_by c.args.plan.now.run c.args.owners.now c.args.me
    (part_at c.args.owners.now c.args.me c.args.point c.args.row c.args.units.now.states) c.find_stage-wanted-2.result (making_in c.make_limits_wanted.new.notes))
    → Made c
fourth c two_is so =
    let run = c.args.plan.now.run in
    let owners = c.args.owners.now in
    let me = c.args.me in
    let point = c.args.point in
    let row = c.args.row in
    let states = c.args.units.now.states in
    let start = making_in c.args.notes.now in
    let one = making_in c.make_words.new.notes in
    let two = making_in c.make_limits_wanted.new.notes in
    let three = making_in c.make_replies_wanted.new.notes in
    let four = making_in c.make_redos_wanted.new.notes in
    let wanted = c.find_stage-wanted-3.result in
    let four_is : four ≡ redos_by run owners me (part_at owners me point row states) wanted three =
    subst (λ all. four ≡ redos_by run owners me (part_at owners me point row all) wanted three) so.0.same c.make_redos_wanted.ensures.made in
    let truth = true_four run c.judged.ensures owners me c.requires.ready.owned point row states start one two three four c.find_stage-wanted.result
    c.find_stage-wanted-2.result wanted c.requires.ready.truth (c.make_words.ensures.made point) c.find_stage-wanted.ensures.stage two_is
    c.find_stage-wanted-2.ensures.stage so.1 c.find_stage-wanted-3.ensures.stage four_is in
    let words_are = words_four run c.judged.ensures owners me c.requires.ready.owned point row states start one two three four c.find_stage-wanted.result
    c.find_stage-wanted-2.result wanted c.requires.ready.truth (c.make_words.ensures.made point) c.find_stage-wanted.ensures.stage two_is
    c.find_stage-wanted-2.ensures.stage so.1 c.find_stage-wanted-3.ensures.stage four_is in
    record {
      all = made_all run c.judged.ensures owners me c.requires.ready.owned point row states start one two three four c.find_stage-wanted.result
          c.find_stage-wanted-2.result wanted c.requires.ready.truth (c.make_words.ensures.made point) c.find_stage-wanted.ensures.stage two_is
          c.find_stage-wanted-2.ensures.stage so.1 c.find_stage-wanted-3.ensures.stage four_is;
      stands = stands_on run owners me point row states three.known four.known c.make_replies_wanted.new.units c.make_redos_wanted.new.units so.0
          truth words_are c.make_redos_wanted.ensures.kept;
    }

-- The states have the lengths that the plan requires.
have_states : (c : After-find_stage-wanted) → HaveStates c.args.plan.now.run c.args.units.now.states
have_states c = subst (HaveStates c.args.plan.now.run) c.make_words.ensures.states
    (subst (λ (plan : Planned). HaveStates plan.run c.make_words.new.units.states) (c.make_words.ensures.plan ∙ c.requires.ready.tied) c.count.ensures.states)

-- ---- The goals

pub make_limits_wanted-requires-clause-fed : goal.make_limits_wanted-requires-clause-fed
make_limits_wanted-requires-clause-fed c =
    let at = goal.at.make_limits_wanted-requires-clause-fed c in
    let so = first at.After-find_stage-wanted in
    fed_here c.args.plan.now.run c.judged.ensures c.args.owners.now c.args.me c.requires.ready.owned c.args.point c.args.row c.args.units.now.states
    (making_in c.make_words.new.notes).known c.find_stage-wanted.result c.make_words.new.units.inputs so.truth c.find_stage-wanted.ensures.stage
    (have_states at.After-find_stage-wanted) so.shape so.words c.make_words.ensures.notes.words

pub make_replies_wanted-requires-clause-fed : goal.make_replies_wanted-requires-clause-fed
make_replies_wanted-requires-clause-fed c =
    let at = goal.at.make_replies_wanted-requires-clause-fed c in
    let so = second at.After-find_stage-wanted-2 (first at.After-find_stage-wanted) in
    fed_here c.args.plan.now.run c.judged.ensures c.args.owners.now c.args.me c.requires.ready.owned c.args.point c.args.row c.args.units.now.states
    (making_in c.make_limits_wanted.new.notes).known c.find_stage-wanted-2.result c.make_limits_wanted.new.units.inputs so.0.truth c.find_stage-wanted-2.ensures.stage
    (have_states at.After-find_stage-wanted) so.0.shape so.0.words c.make_limits_wanted.ensures.notes.words

pub make_redos_wanted-requires-clause-fed : goal.make_redos_wanted-requires-clause-fed
make_redos_wanted-requires-clause-fed c =
    let at = goal.at.make_redos_wanted-requires-clause-fed c in
    let so = third at.After-find_stage-wanted-3 (second at.After-find_stage-wanted-2 (first at.After-find_stage-wanted)) in
    fed_here c.args.plan.now.run c.judged.ensures c.args.owners.now c.args.me c.requires.ready.owned c.args.point c.args.row c.args.units.now.states
    (making_in c.make_replies_wanted.new.notes).known c.find_stage-wanted-3.result c.make_replies_wanted.new.units.inputs so.0.truth c.find_stage-wanted-3.ensures.stage
    (have_states at.After-find_stage-wanted) so.0.shape so.0.words c.make_replies_wanted.ensures.notes.words

pub returns-clause-made : goal.returns-clause-made
returns-clause-made c =
    let at = goal.at.returns-clause-made c in
    let second_is = second at.After-find_stage-wanted-2 (first at.After-find_stage-wanted) in
    (fourth at.After-make_redos_wanted second_is.1 (third at.After-find_stage-wanted-3 second_is)).all

pub returns-clause-ready : goal.returns-clause-ready
returns-clause-ready c =
    let at = goal.at.returns-clause-ready c in
    let second_is = second at.After-find_stage-wanted-2 (first at.After-find_stage-wanted) in
    let last = (fourth at.After-make_redos_wanted second_is.1 (third at.After-find_stage-wanted-3 second_is)).stands in
    record {
      tied = ap (λ (f : Fleet). f.plan) (c.make_redos_wanted.ensures.kept ∙ c.make_replies_wanted.ensures.kept ∙ c.make_limits_wanted.ensures.kept)
          ∙ c.make_words.ensures.plan ∙ c.requires.ready.tied;
      owned = c.requires.ready.owned;
      few = c.requires.ready.few;
      noted = c.make_redos_wanted.ensures.notes;
      words = last.words;
      truth =
          subst (λ all. IsTrue c.args.plan.now.run c.args.owners.now c.args.me c.args.point c.args.row all (making_in c.make_redos_wanted.new.notes).known)
          (sym last.same) last.truth;
    }
