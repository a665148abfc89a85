use Rattle.std.proofs.Common.{◌≡◌, ◌∙◌, ◌⊎◌, ◌<◌, ◌≤◌, ℕ, List, Bool, true, false, ap, inl, inr, refl, subst, sym, Err}
use Rattle.std.proofs.lemmas.Bool.Decides.{leb_tells}
use Rattle.std.specs.Prelude.{nat_le}
use Rattle.trace_plan.specs.Plans.{Planned}
use Rattle.cosim_call.specs.Calls.{stream}
use Rattle.cosim_call.specs.Coming.{Serves}
use Rattle.cosim_call.specs.declared.coming.Stopped.TheVariants as stopped
use Rattle.command_line.specs.declared.commands.Command.TheVariants.{Nodes}
use Rattle.unit_tree.specs.Compositions.{run_of}
use Rattle.unit_tree.specs.declared.system.System.{System}
use Rattle.cosim_answers.specs.Accepted.{planned}
use Rattle.cosim_answers.specs.Answer.{Answers}
use Rattle.cosim_answers.specs.NodesAnswers.{nodes_limit, size_for_nodes}
use Rattle.cosim_answers.specs.Serving.{IsAccepted, TellsRounds}
use Rattle.cosim_answers.proofs.MakingLaws.{handed_on}
use Rattle.cosim_answers.proofs.NodesLaws.{nodes_stop, rounds_given_up, rounds_told, too_large_refused}
use Rattle.cosim_commands.proofs.commands.nodes.serve.Goals as goal

-- A number is at most another one, or above it, as the test says.
module _ (size limit : ℕ) {told : Bool} (is : told ≡ nat_le size limit) where
  above : told ≡ false → limit < size
  above isnt = by (leb_tells size limit)
    where
      by : ((nat_le size limit ≡ true) × (size ≤ limit)) ⊎ ((nat_le size limit ≡ false) × (limit < size)) → limit < size
      by (inl (is_so, small)) = absurd (cc)
      by (inr (also, large)) = large

  within : told ≡ true → size ≤ limit
  within so = by (leb_tells size limit)
    where
      by : ((nat_le size limit ≡ true) × (size ≤ limit)) ⊎ ((nat_le size limit ≡ false) × (limit < size)) → size ≤ limit
      by (inl (also, small)) = small
      by (inr (is_not, large)) = absurd (cc)

pub returns-in_err-read : goal.returns-in_err-read
returns-in_err-read g c =
    let out = stream (g.O.Sink.held c.args.out.now) (g.O.Sink.faults c.args.out.now) in
    handed_on (Serves (Answers (Nodes c.args.asked) c.args.text.now) out out) c.from_residual.result c.in_err-read.field-0.0
    c.from_residual.ensures.1
    (nodes_stop c.args.asked c.args.text.now out c.in_err-read.field-0.0 c.in_err-read.ensures)

pub returns-then-not-is_small : goal.returns-then-not-is_small
returns-then-not-is_small g c =
    let out = stream (g.O.Sink.held c.args.out.now) (g.O.Sink.faults c.args.out.now) in
    let read = c.in_ok-read.read in
    subst (λ rule. Serves (Answers (Nodes c.args.asked) c.args.text.now) out out (Err (stopped.Refused 1 rule))) (sym c.number.ensures)
    (too_large_refused c.args.asked c.args.text.now (planned read.checked) (read.lines, c.in_ok-read.ensures.0) refl out
    (above (size_for_nodes (run_of read.checked)) nodes_limit c.is_small.ensures c.if-not-is_small.true))

pub returns-in_err-plan : goal.returns-in_err-plan
returns-in_err-plan g c =
    let out = stream (g.O.Sink.held c.args.out.now) (g.O.Sink.faults c.args.out.now) in
    handed_on (Serves (Answers (Nodes c.args.asked) c.args.text.now) out out) c.from_residual-in_err-plan.result stopped.NoMemory
    c.from_residual-in_err-plan.ensures.1
    (nodes_stop c.args.asked c.args.text.now out stopped.NoMemory tt)

-- The plan of the system that the text was accepted as.
module _ (text : List ℕ) (system : System) (accepted : IsAccepted text system) (plan : Planned) (is : plan ≡ planned system)
    (small : size_for_nodes (run_of system) ≤ nodes_limit) where
  same_system : plan.system ≡ system
  same_system = ap (λ (p : Planned). p.system) is

  own : IsAccepted text plan.system
  own = subst (IsAccepted text) (sym same_system) accepted

  whole : plan ≡ planned plan.system
  whole = is ∙ ap planned (sym same_system)

  fits : size_for_nodes plan.run ≤ nodes_limit
  fits = subst (λ (p : Planned). size_for_nodes p.run ≤ nodes_limit) (sym is) small

pub returns-in_err-nodes : goal.returns-in_err-nodes
returns-in_err-nodes g c =
    let out = stream (g.O.Sink.held c.args.out.now) (g.O.Sink.faults c.args.out.now) in
    let out' = stream (g.O.Sink.held c.run_pair.new.out) (g.O.Sink.faults c.run_pair.new.out) in
    let read = c.in_ok-read.read in
    let plan = c.in_ok-plan.plan.value in
    let text = c.args.text.now in
    let accepted : IsAccepted text read.checked = (read.lines, c.in_ok-read.ensures.0) in
    let small = within (size_for_nodes (run_of read.checked)) nodes_limit c.is_small.ensures c.if-not-is_small.false in
    handed_on (Serves (Answers (Nodes c.args.asked) text) out out') c.from_residual-in_err-nodes.result c.in_err-nodes.field-0.0
    c.from_residual-in_err-nodes.ensures.1
    (rounds_given_up c.args.asked text plan (own text read.checked accepted plan c.in_ok-plan.ensures small)
    (whole text read.checked accepted plan c.in_ok-plan.ensures small) (fits text read.checked accepted plan c.in_ok-plan.ensures small)
    out out' c.in_err-nodes.field-0.0 c.in_err-nodes.ensures)

pub returns : goal.returns
returns g c =
    let out = stream (g.O.Sink.held c.args.out.now) (g.O.Sink.faults c.args.out.now) in
    let out' = stream (g.O.Sink.held c.run_pair.new.out) (g.O.Sink.faults c.run_pair.new.out) in
    let read = c.in_ok-read.read in
    let plan = c.in_ok-plan.plan.value in
    let text = c.args.text.now in
    let accepted : IsAccepted text read.checked = (read.lines, c.in_ok-read.ensures.0) in
    let small = within (size_for_nodes (run_of read.checked)) nodes_limit c.is_small.ensures c.if-not-is_small.false in
    rounds_told c.args.asked text plan (own text read.checked accepted plan c.in_ok-plan.ensures small)
    (whole text read.checked accepted plan c.in_ok-plan.ensures small) (fits text read.checked accepted plan c.in_ok-plan.ensures small)
    out out' c.in_ok-nodes.nodes c.told.result c.in_ok-nodes.ensures
    (subst (λ (p : Planned). TellsRounds p.system c.in_ok-nodes.nodes c.told.result) c.deref.ensures c.told.ensures)
