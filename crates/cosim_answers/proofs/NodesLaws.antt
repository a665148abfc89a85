-- What holds of the answers of `nodes`, and the result of the command, as an answer for its text.
use Rattle.std.specs.Io.KnownBytes.{Appends}
use Rattle.std.proofs.Common.{◌≡◌, ◌⊎◌, ◌+◌, ◌<◌, ◌≤◌, ℕ, List, [], ◌∷◌, ◌++◌, map, length, Option, Some, None, Result, Ok, Err, refl, sym, ap, subst, ◌∙◌, inl, inr}
use Rattle.std.proofs.Common.{arith, length-append, zero, suc, take, Bool, true, false, if◌then◌else◌}
use Rattle.std.specs.Prelude.{is_some}
use Rattle.std.proofs.lemmas.List.{take_all}
use Rattle.event_csv.specs.EventText.{event_text}
use Rattle.event_runs.specs.EventRests.{IsReadFrom}
use Rattle.event_runs.specs.EventRuns.{event_members_of, event_run_of}
use Rattle.event_runs.specs.EventTrace.{EventStand, IsEventTrace, event_rows_of}
use Rattle.event_runs.specs.Readings.{read_end, read_stand}
use Rattle.event_runs.proofs.RestLaws.{stands_told}
use Rattle.link_laws.specs.Nodes.{Progress}
use Rattle.link_laws.specs.Pairs.{Pair}
use Rattle.std.proofs.lemmas.List.{length-map}
use Rattle.std.specs.List.{flat_map}
use Rattle.cosim_io.specs.Pieces.{AppendsPrefix}
use Rattle.cosim_io.proofs.PieceLemmas.{AppendsPrefix-whole}
use Rattle.link_nodes.specs.Rounds.{pair_after}
use Rattle.link_nodes.specs.Shown.{BeginsRounds, ShowsRounds, lines_shown, told_of}
use Rattle.link_nodes.specs.declared.run.Nodes.{Nodes as Told}
use Rattle.trace_plan.specs.Plans.{Planned}
use Rattle.trace_rows.specs.Lines.{header_of, lines_of}
use Rattle.unit_tree.specs.Compositions.{Composition, Member, run_of}
use Rattle.unit_tree.specs.Ports.{places_needed}
use Rattle.unit_tree.specs.Routes.{routes_of}
use Rattle.unit_tree.specs.Trace.{IsTrace, Stand, rows_of}
use Rattle.unit_tree.specs.declared.ending.Ending.{Ending}
use Rattle.unit_tree.specs.declared.system.System.{System}
use Rattle.unit_tree.specs.declared.unit.Output.{Output}
use Rattle.unit_tree.proofs.RouteLaws.{count_is}
use Rattle.command_line.specs.declared.commands.Command.TheVariants.{Nodes}
use Rattle.command_line.specs.declared.splitting.Splitting.{Splitting}
use Rattle.cosim_call.specs.Answers.{Answer, IsEndOfWork}
use Rattle.cosim_call.specs.Calls.{Stream}
use Rattle.cosim_call.specs.Coming.{Begins, Serves}
use Rattle.cosim_call.specs.declared.coming.Served.{Served}
use Rattle.cosim_call.specs.declared.coming.Stopped.{Stopped}
use Rattle.cosim_call.specs.declared.coming.Stopped.TheVariants as stopped
use Rattle.cosim_answers.specs.Accepted.{planned, status_of}
use Rattle.cosim_answers.specs.Answer.{Answers}
use Rattle.cosim_answers.specs.NodesAnswers.{IsTooLargeForNodes, TellsNodes, node_status, nodes_answer, nodes_limit, outputs_run, size_for_nodes, told_notes}
use Rattle.cosim_answers.specs.Serving.{IsAccepted, IsUnaccepted, RunsNodes, TellsRounds}
use Rattle.cosim_answers.proofs.Lawful.{AnswersOrBreaks, agree_as_same, at_most_or_above}
use Rattle.cosim_answers.proofs.PlainRests.{text_shown}
use Rattle.cosim_answers.proofs.SavedLaws.{has_one_trace}
use Rattle.cosim_answers.proofs.TraceLaws.{IsWhole, is_end, whole_of}

-- ---- How large a system is

abbrev needs_in : Member → List (List ℕ)
needs_in member = map (places_needed member) member.component.unit.outputs

abbrev outputs_in : Member → List Output
outputs_in member = member.component.unit.outputs

as_many : (members : List Member) → length (flat_map needs_in members) ≡ length (flat_map outputs_in members)
as_many [] = refl
as_many (member ∷ members) =
    length-append (needs_in member) (flat_map needs_in members)
    ∙ ap (λ n. n + length (flat_map needs_in members)) (length-map (outputs_in member) (places_needed member))
    ∙ ap (λ n. length (outputs_in member) + n) (as_many members)
    ∙ sym (length-append (outputs_in member) (flat_map outputs_in members))

-- There are as many routes as outputs.
pub outputs_counted : (run : Composition) → length (routes_of run).outputs ≡ length (outputs_run run)
outputs_counted run = count_is run ∙ as_many run.members

-- ---- The answer by the stands of the plain form

-- The header and the rows of these stands of the plain form that node 0 has committed, and the progress of both nodes.
abbrev pub plain_nodes : System → Pair → List Stand → Answer
plain_nodes system pair stands = record {
  out = header_of system ++ lines_shown (planned system) pair.first stands;
  notes = told_notes system (told_of pair);
  status = node_status pair.first.ended;
}

module _ (system : System) (whole : IsWhole system) (stands : List Stand) (ending : Ending) (trace : IsTrace (run_of system) stands ending) where
  read_from : IsReadFrom system stands ending
  read_from = stands_told system whole.ranged whole.well_formed whole.ordered stands ending trace

  abbrev read : List Stand → List EventStand
  read = map (read_stand (event_members_of system))

  text_of : (count : ℕ) → header_of system ++ lines_of system (rows_of (run_of system) (take count stands))
      ≡ event_text system (event_rows_of (event_run_of system) (read (take count stands)))
  text_of count =
      text_shown system whole (rows_of (run_of system) (take count stands)) (read_from.shape count) ∙ ap (event_text system) (sym (read_from.rows count))

  take_read : (count : ℕ) (some : List Stand) → read (take count some) ≡ take count (read some)
  take_read zero some = refl
  take_read (suc count) [] = refl
  take_read (suc count) (one ∷ some) = ap (λ rest. read_stand (event_members_of system) one ∷ rest) (take_read count some)

  text_committed : (node : Progress) (all : Bool)
      → header_of system ++ lines_of system (rows_of (run_of system) (if all then stands else take node.at.number stands))
      ≡ event_text system (event_rows_of (event_run_of system) (if all then read stands else take node.at.number (read stands)))
  text_committed node true =
      subst (λ (some : List Stand). header_of system ++ lines_of system (rows_of (run_of system) some)
      ≡ event_text system (event_rows_of (event_run_of system) (read some))) (take_all (length stands) stands (omega arith)) (text_of (length stands))
  text_committed node false =
      text_of node.at.number ∙ ap (λ (some : List EventStand). event_text system (event_rows_of (event_run_of system) some)) (take_read node.at.number stands)

  -- It is the answer by the stands of the system.
  pub nodes_are : (pair : Pair) → plain_nodes system pair stands ≡ nodes_answer system pair (read stands)
  nodes_are pair =
      ap (λ out. record { out = out; notes = told_notes system (told_of pair); status = node_status pair.first.ended })
      (text_committed pair.first (is_some pair.first.ended))

  -- The stands of the system are read from those of the plain form.
  pub stands_are : (others : List EventStand) (end : Ending) → IsEventTrace (event_run_of system) others end → others ≡ read stands
  stands_are others end is = (read_from.is_only others end is).0

-- ---- Each system has one answer, or is too large

pub nodes_same : (asked : Splitting) (system : System) → IsWhole system → (one other : Answer) → TellsNodes asked system one → TellsNodes asked system other
    → one ≡ other
nodes_same asked system whole one other a b =
    let trace = has_one_trace system whole in
    a.is
    ∙ ap (nodes_answer system (pair_after (run_of system) asked.seed asked.rounds))
    (stands_are system whole trace.stands trace.ending trace.is_trace a.stands a.ending a.trace
    ∙ sym (stands_are system whole trace.stands trace.ending trace.is_trace b.stands b.ending b.trace))
    ∙ sym b.is

node_ends : (ended : Option Ending) → IsEndOfWork (node_status ended)
node_ends None = tt
node_ends (Some ending) = is_end ending (status_of ending) refl

pub nodes_answer_systems : (asked : Splitting) → AnswersOrBreaks (TellsNodes asked) IsTooLargeForNodes
nodes_answer_systems asked = record {
  some = λ system whole. by system whole (at_most_or_above (size_for_nodes (run_of system)) nodes_limit);
  not_both = λ system answer tells large. never tells.fits large;
  agree = λ system whole one other a b. agree_as_same one other (nodes_same asked system whole one other a b);
  ends = λ system answer tells.
      subst (λ (a : Answer). IsEndOfWork a.status) (sym tells.is) (node_ends (pair_after (run_of system) asked.seed asked.rounds).first.ended);
}
  where
    never : {size : ℕ} → size ≤ nodes_limit → nodes_limit < size → ⊥
    never fits large = absurd (omega (arith, fits, large))

    by : (system : System) → IsWhole system → (size_for_nodes (run_of system) ≤ nodes_limit) ⊎ IsTooLargeForNodes system
        → ((answer : Answer) × TellsNodes asked system answer) ⊎ IsTooLargeForNodes system
    by system whole (inl fits) =
        let trace = has_one_trace system whole in
        let told = stands_told system whole.ranged whole.well_formed whole.ordered trace.stands trace.ending trace.is_trace in
        let stands = map (read_stand (event_members_of system)) trace.stands in
        inl (
          nodes_answer system (pair_after (run_of system) asked.seed asked.rounds) stands,
          record { fits = fits; stands = stands; ending = read_end system trace.ending; trace = told.trace; is = refl },
        )
    by system whole (inr large) = inr large

-- ---- The result of the command

abbrev Owes : Splitting → List ℕ → Stream → Stream → Result Served Stopped → Type 0
Owes asked text = Serves (Answers (Nodes asked) text)

-- A text that is not run.
pub nodes_stop : (asked : Splitting) (text : List ℕ) (out : Stream) (why : Stopped) → IsUnaccepted text why → Owes asked text out out (Err why)
nodes_stop asked text out (stopped.Refused line rule) refused = (inl (record { line = line; rule = rule; refused = inl refused; is = refl }), refl)
nodes_stop asked text out stopped.NoMemory refused = (inl refl, refl)
nodes_stop asked text out stopped.ReadFault refused = absurd refused
nodes_stop asked text out stopped.WriteFault refused = absurd refused

module _ (asked : Splitting) (text : List ℕ) (plan : Planned) (accepted : IsAccepted text plan.system) (whole : plan ≡ planned plan.system) where
  composed : plan.run ≡ run_of plan.system
  composed = ap (λ (p : Planned). p.run) whole

  -- A system that is too large.
  pub too_large_refused : (out : Stream) → nodes_limit < size_for_nodes plan.run → Owes asked text out out (Err (stopped.Refused 1 34))
  too_large_refused out large = (
    inl (record {
      line = 1;
      rule = 34;
      refused = inr (record {
        system = plan.system;
        lines = accepted.0;
        accepted = accepted.1;
        breaks = subst (λ run. nodes_limit < size_for_nodes run) composed large;
        at = refl;
        by = refl;
      });
      is = refl;
    }),
    refl,
  )

  module _ (fits : size_for_nodes plan.run ≤ nodes_limit) where
    is_whole : IsWhole plan.system
    is_whole = whole_of text plan.system accepted.0 accepted.1

    -- The answer by these stands of the plain form.
    by_stands : (stands : List Stand) (ending : Ending) → IsTrace (run_of plan.system) stands ending
        → Answers (Nodes asked) text (plain_nodes plan.system (pair_after (run_of plan.system) asked.seed asked.rounds) stands)
    by_stands stands ending trace =
        inr (record {
          system = plan.system;
          lines = accepted.0;
          accepted = accepted.1;
          is = record {
            fits = subst (λ run. size_for_nodes run ≤ nodes_limit) composed fits;
            stands = map (read_stand (event_members_of plan.system)) stands;
            ending = read_end plan.system ending;
            trace = (stands_told plan.system is_whole.ranged is_whole.well_formed is_whole.ordered stands ending trace).trace;
            is = nodes_are plan.system is_whole stands ending trace (pair_after (run_of plan.system) asked.seed asked.rounds);
          };
        })

    abbrev shown : Planned → List Stand → List ℕ
    shown p stands = header_of p.system ++ lines_shown p (pair_after p.run asked.seed asked.rounds).first stands

    shown_is : (stands : List Stand) → shown plan stands ≡ shown (planned plan.system) stands
    shown_is stands = ap (λ (run : _). shown (record { system = plan.system; run = run }) stands) composed

    begins_answer : (out out' : Stream) → BeginsRounds plan asked.seed asked.rounds out.bytes out'.bytes → Begins (Answers (Nodes asked) text) out out'
    begins_answer out out' begins =
        let trace = has_one_trace plan.system (whole_of text plan.system accepted.0 accepted.1) in
        inr (
          plain_nodes plan.system (pair_after (run_of plan.system) asked.seed asked.rounds) trace.stands,
          by_stands trace.stands trace.ending trace.is_trace,
          subst (AppendsPrefix out.bytes out'.bytes) (shown_is trace.stands)
              (begins.begins trace.stands trace.ending
              (subst (λ run. IsTrace run trace.stands trace.ending) (sym composed) trace.is_trace)),
        )

    -- Rounds that were given up.
    pub rounds_given_up : (out out' : Stream) (why : Stopped) → RunsNodes plan asked out out' (Err why) → Owes asked text out out' (Err why)
    rounds_given_up out out' stopped.WriteFault (begins, rose) = (begins_answer out out' begins, rose)
    rounds_given_up out out' stopped.NoMemory (begins, same) = (begins_answer out out' begins, same)
    rounds_given_up out out' stopped.ReadFault runs = absurd runs
    rounds_given_up out out' (stopped.Refused line rule) runs = absurd runs

    module _ (out out' : Stream) (nodes : Told) (shows : ShowsRounds plan asked.seed asked.rounds out.bytes out'.bytes nodes) where
      abbrev answer : Answer
      answer = plain_nodes plan.system (pair_after (run_of plan.system) asked.seed asked.rounds) shows.stands

      is_answer : Answers (Nodes asked) text answer
      is_answer = by_stands shows.stands shows.ending (subst (λ run. IsTrace run shows.stands shows.ending) composed shows.trace)

      put : Appends out.bytes out'.bytes answer.out
      put = subst (Appends out.bytes out'.bytes) (shown_is shows.stands) shows.out

      told_is : nodes ≡ told_of (pair_after (run_of plan.system) asked.seed asked.rounds)
      told_is = shows.told ∙ ap (λ run. told_of (pair_after run asked.seed asked.rounds)) composed

    -- Rounds that were made, and are reported.
    pub rounds_told : (out out' : Stream) (nodes : Told) (came : Result Served Stopped) → RunsNodes plan asked out out' (Ok nodes)
        → TellsRounds plan.system nodes came → Owes asked text out out' came
    rounds_told out out' nodes (Ok served) (shows, same) (status_is, notes_is) =
        let status = status_is ∙ ap (λ (n : Told). node_status n.outcome) (told_is out out' nodes shows) in (
          record {
            answer = answer out out' nodes shows;
            is = is_answer out out' nodes shows;
            put = put out out' nodes shows;
            notes = notes_is ∙ ap (told_notes plan.system) (told_is out out' nodes shows);
            status = status;
            ends = subst IsEndOfWork (sym status) (node_ends (pair_after (run_of plan.system) asked.seed asked.rounds).first.ended);
          },
          same,
        )
    rounds_told out out' nodes (Err why) (shows, same) is =
        subst (λ (one : Stopped). Owes asked text out out' (Err one)) (sym is) (
          inr (
            answer out out' nodes shows,
            is_answer out out' nodes shows,
            AppendsPrefix-whole out.bytes out'.bytes (answer out out' nodes shows).out (put out out' nodes shows),
          ),
          same,
        )
