-- What holds of the answers of `verify` and `stimulus`, and the results of the commands, as answers for their input.
use Rattle.std.specs.Prelude.{Vec}
use Rattle.std.specs.declared.alloc.Global.{Global}
use Rattle.std.proofs.Common.{◌≡◌, ◌⊎◌, ◌≤◌, ℕ, List, length, Ok, Err, refl, sym, ap, subst, ◌∙◌, inl, inr}
use Rattle.event_runs.specs.EventTrace.{EventRow}
use Rattle.event_runs.specs.Readings.{read_end, read_rows}
use Rattle.stimulus_tables.specs.TableSystems.{table_system}
use Rattle.stimulus_tables.specs.Tables.{IsTable, LeavesForm}
use Rattle.stimulus_tables.specs.declared.moment.Moment.{Moment}
use Rattle.stimulus_tables.proofs.OneTable.{judged_once as records_judged_once}
use Rattle.text_accept.specs.Accepting.{IsRefusedAt}
use Rattle.text_accept.proofs.Acceptance.{judged_once}
use Rattle.trace_verify.specs.Parting.{IsParted, LacksTrace}
use Rattle.stimulus_tables.specs.Stimuli.{IsSystemOf}
use Rattle.trace_verify.specs.Verdicts.{verdict_of}
use Rattle.stimulus_tables.specs.Records.{records_of}
use Rattle.trace_verify.specs.Verifying.{IsVerdictOn}
use Rattle.trace_verify.specs.declared.verdict.Verdict.{Verdict}
use Rattle.trace_verify.proofs.PartingLaws.{parted_once}
use Rattle.unit_tree.specs.declared.system.System.{System}
use Rattle.command_line.specs.Commands.{stimulus_limit, verify_limit}
use Rattle.command_line.specs.declared.commands.Command.TheVariants.{Stimulus, Verify}
use Rattle.cosim_call.specs.Answers.{Answer, IsEndOfWork, piece_answer}
use Rattle.cosim_call.specs.Coming.{Makes}
use Rattle.cosim_call.specs.declared.coming.Stopped.{Stopped}
use Rattle.cosim_call.specs.declared.coming.Stopped.TheVariants as stopped
use Rattle.cosim_answers.specs.Accepted.{OnAccepted, printed_answer, printed_text, traced_text}
use Rattle.cosim_answers.specs.Answer.{Answers}
use Rattle.cosim_answers.specs.Serving.{FindsParts, FindsTable, IsAccepted, IsUnaccepted}
use Rattle.cosim_answers.specs.TableAnswers.{AnswersTable, LeavesTable, PlaysTable, RefusesTable, TellsVerdict, verdict_text}
use Rattle.cosim_answers.proofs.Lawful.{AnswersSystems, HasNoOther, IsLawful, agree_as_same, determined_on_accepted, lawful_on_accepted}
use Rattle.cosim_answers.proofs.MakingLaws.{made}
use Rattle.cosim_answers.proofs.RunLaws.{text_is, told}
use Rattle.cosim_answers.proofs.TraceLaws.{IsWhole, one_outcome, plain_outcome, whole_of}

-- ---- Verdicts on the trace of a system

abbrev verdict_answer : List ℕ → System → List EventRow → Answer
verdict_answer table system rows = piece_answer (verdict_text (verdict_of (records_of (traced_text system rows)) (records_of table)))

verdicts_same : (table : List ℕ) (system : System) → IsWhole system → (one other : Answer) → TellsVerdict table system one
    → TellsVerdict table system other → one ≡ other
verdicts_same table system whole one other a b =
    let outcome = one_outcome system whole in
    a.is
    ∙ ap (verdict_answer table system)
    ((outcome.is_only a.rows a.last a.ending a.trace).0 ∙ sym (outcome.is_only b.rows b.last b.ending b.trace).0)
    ∙ sym b.is

verdicts_answer : (table : List ℕ) → AnswersSystems (TellsVerdict table)
verdicts_answer table = record {
  some = λ system whole.
      let outcome = one_outcome system whole in (
        verdict_answer table system outcome.rows,
        record { rows = outcome.rows; last = outcome.last; ending = outcome.ending; trace = outcome.is_trace; is = refl },
      );
  agree = λ system whole one other a b. agree_as_same one other (verdicts_same table system whole one other a b);
  ends = λ system answer tells. subst (λ (a : Answer). IsEndOfWork a.status) (sym tells.is) tt;
}

-- ---- `verify`, of inputs of any length

abbrev JudgedTable : List ℕ → Type 0
JudgedTable input = ((line : ℕ) × (rule : ℕ) × RefusesTable input line rule) ⊎ ((answer : Answer) × AnswersTable input answer)

module _ (input : List ℕ) where
  by_front : (front table : List ℕ) → IsParted input front table
      → ((line : ℕ) × (rule : ℕ) × IsRefusedAt front line rule) ⊎ ((answer : Answer) × OnAccepted (TellsVerdict table) front answer)
      → JudgedTable input
  by_front front table parted (inl (line, rule, refused)) =
      inl (line, rule, inr (record { model = front; table = table; parted = parted; refused = refused }))
  by_front front table parted (inr (answer, told)) = inr (answer, record { model = front; table = table; parted = parted; told = told })

  by_parts : ((front : List ℕ) × (table : List ℕ) × IsParted input front table) ⊎ LacksTrace input → JudgedTable input
  by_parts (inl (front, table, parted)) =
      by_front front table parted ((lawful_on_accepted (TellsVerdict table) (verdicts_answer table)).judged front)
  by_parts (inr none) = inl (1, 35, inl (record { none = none; at = refl; by = refl }))

  one_front : (front other table also : List ℕ) → IsParted input front table → IsParted input other also → front ≡ other
  one_front front other table also a b = ((parted_once input).only front other table also a b).0

  once : (line rule other third : ℕ) → RefusesTable input line rule → RefusesTable input other third → (line ≡ other) × (rule ≡ third)
  once line rule other third (inl a) (inl b) = (a.at ∙ sym b.at, a.by ∙ sym b.by)
  once line rule other third (inl a) (inr b) = absurd ((parted_once input).not_both b.model b.table b.parted a.none)
  once line rule other third (inr a) (inl b) = absurd ((parted_once input).not_both a.model a.table a.parted b.none)
  once line rule other third (inr a) (inr b) =
      (judged_once b.model).one_refusal line rule other third
      (subst (λ f. IsRefusedAt f line rule) (one_front a.model b.model a.table b.table a.parted b.parted) a.refused) b.refused

  never_both : (line rule : ℕ) (answer : Answer) → RefusesTable input line rule → AnswersTable input answer → ⊥
  never_both line rule answer (inl a) answers = (parted_once input).not_both answers.model answers.table answers.parted a.none
  never_both line rule answer (inr a) answers =
      (judged_once answers.model).not_both answers.told.system answers.told.lines line rule answers.told.accepted
      (subst (λ f. IsRefusedAt f line rule) (one_front a.model answers.model a.table answers.table a.parted answers.parted) a.refused)

  answers_once : (one other : Answer) → AnswersTable input one → AnswersTable input other → one ≡ other
  answers_once one other a b =
      let same = (parted_once input).only a.model b.model a.table b.table a.parted b.parted in
      determined_on_accepted (TellsVerdict b.table) (verdicts_same b.table) b.model one other
      (subst (λ t. OnAccepted (TellsVerdict t) b.model one) same.1 (subst (λ f. OnAccepted (TellsVerdict a.table) f one) same.0 a.told)) b.told

pub verdicts_once : HasNoOther AnswersTable
verdicts_once input one other a b = answers_once input one other a b

pub verify_lawful : IsLawful RefusesTable AnswersTable
verify_lawful = record {
  judged = λ input. by_parts input (parted_once input).some;
  one_refusal = λ input line by other rule. once input line by other rule;
  not_both = λ input line rule answer. never_both input line rule answer;
  agree = λ input one other a b. agree_as_same one other (answers_once input one other a b);
  ends = λ input answer answers. (verdicts_answer answers.table).ends answers.told.system answer answers.told.is;
}

-- ---- `stimulus`, of inputs of any length

abbrev JudgedForm : List ℕ → Type 0
JudgedForm input = ((line : ℕ) × (rule : ℕ) × LeavesTable input line rule) ⊎ ((answer : Answer) × PlaysTable input answer)

by_records : (input : List ℕ)
    → ((names : List (List ℕ)) × (first : Moment) × (later : List Moment) × IsTable (records_of input) names first later)
    ⊎ ((number : ℕ) × LeavesForm (records_of input) number) → JudgedForm input
by_records input (inl (names, first, later, is_table)) =
    inr (
      printed_answer (table_system names first later),
      record {
        system = table_system names first later;
        plays = record { names = names; first = first; later = later; is_table = is_table; is = refl };
        is = refl;
      },
    )
by_records input (inr (number, leaves)) = inl (number, 36, record { leaves = leaves; by = refl })

one_system : (records : List (List (List ℕ))) (one other : System) → IsSystemOf records one → IsSystemOf records other → one ≡ other
one_system records one other a b =
    let same = (records_judged_once records).one_table a.names b.names a.first b.first a.later b.later a.is_table b.is_table in
    a.is
    ∙ ap (λ names. table_system names a.first a.later) (sym same.0)
    ∙ ap (λ first. table_system b.names first a.later) (sym same.1)
    ∙ ap (table_system b.names b.first) (sym same.2)
    ∙ sym b.is

pub plays_once : HasNoOther PlaysTable
plays_once input one other a b = a.is ∙ ap printed_answer (one_system (records_of input) a.system b.system a.plays b.plays) ∙ sym b.is

pub stimulus_lawful : IsLawful LeavesTable PlaysTable
stimulus_lawful = record {
  judged = λ input. by_records input (records_judged_once (records_of input)).some;
  one_refusal = λ input line by other rule a b.
      ((records_judged_once (records_of input)).one_number line other a.leaves b.leaves, a.by ∙ sym b.by);
  not_both = λ input line rule answer leaves plays.
      (records_judged_once (records_of input)).not_both plays.plays.names plays.plays.first plays.plays.later line plays.plays.is_table leaves.leaves;
  agree = λ input one other a b. agree_as_same one other (plays_once input one other a b);
  ends = λ input answer plays. subst (λ (a : Answer). IsEndOfWork a.status) (sym plays.is) tt;
}

-- ---- The result of `stimulus`

pub table_made : (input : List ℕ) (system : System) (bytes : Vec ℕ Global) → length input ≤ stimulus_limit → IsSystemOf (records_of input) system
    → bytes.items ≡ printed_text system → Makes (Answers Stimulus input) (Ok bytes)
table_made input system bytes within plays same =
    made (Answers Stimulus input) (printed_text system) bytes same
    (inr (record { within = within; serves = record { system = system; plays = plays; is = refl } }))

pub table_not_made : (input : List ℕ) (why : Stopped) → length input ≤ stimulus_limit → FindsTable input (Err why)
    → Makes (Answers Stimulus input) (Err why)
table_not_made input (stopped.Refused line rule) within leaves =
    inl (record { line = line; rule = rule; refused = inr (record { within = within; refused = leaves }); is = refl })
table_not_made input stopped.NoMemory within leaves = tt
table_not_made input stopped.ReadFault within leaves = absurd leaves
table_not_made input stopped.WriteFault within leaves = absurd leaves

-- ---- The result of `verify`

-- An input without a line between a text and a table.
pub never_parted : (input : List ℕ) (why : Stopped) → length input ≤ verify_limit → FindsParts input (Err why) → Makes (Answers Verify input) (Err why)
never_parted input (stopped.Refused line rule) within lacks =
    inl (record { line = line; rule = rule; refused = inr (record { within = within; refused = inl lacks }); is = refl })
never_parted input stopped.NoMemory within lacks = absurd lacks
never_parted input stopped.ReadFault within lacks = absurd lacks
never_parted input stopped.WriteFault within lacks = absurd lacks

module _ (input front table : List ℕ) (within : length input ≤ verify_limit) (parted : IsParted input front table) where
  -- A text that is not accepted.
  pub front_refused : (why : Stopped) → IsUnaccepted front why → Makes (Answers Verify input) (Err why)
  front_refused (stopped.Refused line rule) refused =
      inl (record {
        line = line;
        rule = rule;
        refused = inr (record { within = within; refused = inr (record { model = front; table = table; parted = parted; refused = refused }) });
        is = refl;
      })
  front_refused stopped.NoMemory refused = tt
  front_refused stopped.ReadFault refused = absurd refused
  front_refused stopped.WriteFault refused = absurd refused

  -- A verdict is one on the trace of the system.
  tells_verdict : (system : System) → IsWhole system → (verdict : Verdict) → IsVerdictOn system table verdict
      → TellsVerdict table system (piece_answer (verdict_text verdict))
  tells_verdict system whole verdict is_verdict =
      let one = plain_outcome system whole in
      let text = text_is system whole one.rows one.last one.ending one.is_trace in
      record {
        rows = read_rows system one.rows;
        last = one.last;
        ending = read_end system one.ending;
        trace = told system whole one.rows one.last one.ending one.is_trace;
        is = ap (λ v. piece_answer (verdict_text v)) (is_verdict.is one.rows one.last one.ending one.is_trace)
            ∙ ap (λ t. piece_answer (verdict_text (verdict_of (records_of t) (records_of table)))) text;
      }

  pub verdict_made : (system : System) → IsAccepted front system → (verdict : Verdict) → IsVerdictOn system table verdict → (bytes : Vec ℕ Global)
      → bytes.items ≡ verdict_text verdict → Makes (Answers Verify input) (Ok bytes)
  verdict_made system (lines, accepted) verdict is_verdict bytes same =
      made (Answers Verify input) (verdict_text verdict) bytes same
      (inr (record {
        within = within;
        serves = record {
          model = front;
          table = table;
          parted = parted;
          told = record { system = system; lines = lines; accepted = accepted; is = tells_verdict system (whole_of front system lines accepted) verdict is_verdict };
        };
      }))
