-- What holds of each command's answers: there is exactly one for each text.
use Rattle.std.proofs.Common.{◌≡◌, ℕ, ◌+◌, ◌<◌, ◌≤◌, ◌⊎◌, Bool, true, false, if◌then◌else◌, List, [], ◌∷◌, ◌++◌, length, Option, Some, None, Ok, refl, sym, ap}
use Rattle.std.proofs.Common.{subst, ◌∙◌, inl, inr, arith}
use Rattle.std.specs.Prelude.{IfSome, Vec}
use Rattle.std.specs.declared.alloc.Global.{Global}
use Rattle.std.proofs.lemmas.Option.{same_Some}
use Rattle.guess_board.specs.declared.guesses.Policy.TheVariants.{Hold}
use Rattle.spec_core.proofs.ReplayLaws.{counted_once_lem}
use Rattle.text_accept.specs.Accepting.{IsRefusedAt}
use Rattle.text_accept.proofs.Acceptance.{judged_once}
use Rattle.text_tokens.proofs.LineLemmas.{length_le_size_of}
use Rattle.unit_text.proofs.ReadingLaws.{long_refused}
use Rattle.unit_tree.specs.Lines.{size_of}
use Rattle.model_rules.specs.Limits.{text_limit}
use Rattle.unit_tree.specs.declared.system.System.{System}
use Rattle.unit_upgrade.specs.Upgrades.{upgraded}
use Rattle.cosim_call.specs.Answers.{Answer, IsEndOfWork, refused_answer, usage_answer}
use Rattle.cosim_call.specs.Coming.{IsInLimit}
use Rattle.cosim_call.proofs.ComingLaws.{IsAnswered}
use Rattle.cosim_call.specs.declared.status.Status.{Status}
use Rattle.cosim_call.specs.declared.status.Status.TheVariants as status
use Rattle.cosim_answers.specs.Accepted.{OnAccepted, TellsTrace}
use Rattle.cosim_answers.specs.Answer.{Answers, AnswersBench, AnswersGen, AnswersOf, AnswersRefusal, RefusedBy, ServedBy}
use Rattle.cosim_answers.specs.Accepted.{planned, printed_answer, printed_text}
use Rattle.cosim_answers.specs.Answer.{CanReport, TellsReplay, TellsReported, accepted_text, figures_answer}
use Rattle.cosim_answers.specs.Accepted.{run_answer}
use Rattle.cosim_answers.specs.Answer.{report_lines, with_counts, with_report}
use Rattle.cosim_answers.specs.Answer.{IsTooLongInVersion2, TellsUpgrade}
use Rattle.cosim_answers.specs.NodesAnswers.{IsTooLargeForNodes, TellsNodes}
use Rattle.cosim_answers.specs.SavedAnswers.{LacksPosition, TellsPosition}
use Rattle.cosim_answers.specs.TableAnswers.{AnswersTable, LeavesTable, PlaysTable, RefusesTable}
use Rattle.command_line.specs.Commands.{KeepsRanges, command_of, input_of, saved_limit, stimulus_limit, verify_limit}
use Rattle.cosim_answers.specs.Usage.{UsageClause}
use Rattle.command_line.specs.Generations.{Asked, CanGive, system_asked}
use Rattle.cosim_answers.specs.Notes.{report_text}
use Rattle.cosim_answers.specs.Laws.{AnswersAgree, EndsAreServed, EveryCallIsAnswered, IsDetermined, IsNoted, NoCallIsAnsweredTwice, NotesAgree, RefusalsAreOfRules}
use Rattle.cosim_answers.specs.Laws.{RunsAgree}
use Rattle.command_line.specs.declared.commands.Command.{Command}
use Rattle.command_line.specs.declared.commands.Command.TheVariants.{Run, Check, Print, Upgrade, Replay, Gen, Bench, Save, Resume, Verify, Stimulus, Flatten}
use Rattle.command_line.specs.declared.commands.Command.TheVariants.{Nodes}
use Rattle.command_line.proofs.RangeLaws.{ranges_kept}
use Rattle.cosim_answers.proofs.Lawful.{Agree, AnswersOrBreaks, AnswersSystems, HasNoOther, HasOneAnswer, IsLawful, agree_as_same, at_most_or_above}
use Rattle.cosim_answers.proofs.Lawful.{determined_on_accepted, determined_piece, determined_unread, determined_within, lawful_on_accepted, lawful_piece}
use Rattle.cosim_answers.proofs.Lawful.{lawful_unread, lawful_with_rule, lawful_within, longer}
use Rattle.cosim_answers.proofs.FlatLaws.{flat_once, flatten_lawful, too_long_nest}
use Rattle.cosim_answers.proofs.TableLaws.{plays_once, stimulus_lawful, verdicts_once, verify_lawful}
use Rattle.cosim_answers.proofs.NodesLaws.{nodes_answer_systems, nodes_same}
use Rattle.cosim_answers.proofs.SavedLaws.{resume_lawful, resumes_same, saves_answer, saves_same}
use Rattle.cosim_answers.proofs.TraceLaws.{IsWhole, is_end, one_outcome, plain_outcome, whole_asked, whole_of}
use Rattle.cosim_answers.proofs.ReplayLaws.{can_replay_of, counts_there}
use Rattle.command_line.specs.declared.replaying.Replaying.{Replaying}
use Rattle.command_line.specs.declared.running.Running.{Running}
use Rattle.cosim_answers.proofs.RunLaws.{alone_can, alone_report}
use Rattle.trace_rows.specs.declared.report.Report.{Report}

-- ---- Commands that read nothing

gen_answer : (asked : Asked) → HasOneAnswer (AnswersGen asked)
gen_answer asked = record { answer = printed_answer (system_asked asked); is = refl; only = λ other is. is; ends = tt }

bench_answer : (asked : Asked) → CanGive asked → HasOneAnswer (AnswersBench asked)
bench_answer asked can =
    let outcome = plain_outcome (system_asked asked) (whole_asked asked can) in
    record {
      answer = figures_answer asked outcome.rows outcome.last;
      is = record { rows = outcome.rows; last = outcome.last; ending = outcome.ending; trace = outcome.is_trace; is = refl };
      only = λ other tells.
          let same = outcome.is_only tells.rows tells.last tells.ending tells.trace in
          tells.is ∙ ap (λ rows. figures_answer asked rows tells.last) same.0 ∙ ap (figures_answer asked outcome.rows) same.1;
      ends = tt;
    }

-- ---- Each command, where its numbers are in their ranges

-- Two runs of a system have the same answer.
pub traces_same : (system : System) → IsWhole system → (one other : Answer) → TellsTrace system one → TellsTrace system other → one ≡ other
traces_same system whole one other a b =
    let outcome = one_outcome system whole in
    let first = outcome.is_only a.rows a.last a.ending a.trace in
    let second = outcome.is_only b.rows b.last b.ending b.trace in
    a.is
    ∙ ap (λ rows. run_answer system rows a.last a.ending) (first.0 ∙ sym second.0)
    ∙ ap (λ last. run_answer system b.rows last a.ending) (first.1 ∙ sym second.1)
    ∙ ap (run_answer system b.rows b.last) (first.2 ∙ sym second.2)
    ∙ sym b.is

traces_answer : AnswersSystems TellsTrace
traces_answer = record {
  some = λ system whole.
      let outcome = one_outcome system whole in (
        run_answer system outcome.rows outcome.last outcome.ending,
        record { rows = outcome.rows; last = outcome.last; ending = outcome.ending; trace = outcome.is_trace; is = refl },
      );
  agree = λ system whole one other a b. agree_as_same one other (traces_same system whole one other a b);
  ends = λ system answer tells. is_end tells.ending answer.status (ap (λ (a : Answer). a.status) tells.is);
}

-- Two replays of a system have the same answer.
replays_same : (asked : Replaying) (system : System) → IsWhole system → (one other : Answer) → TellsReplay asked system one → TellsReplay asked system other
    → one ≡ other
replays_same asked system whole one other a b =
    a.is
    ∙ ap (λ counts. with_counts counts a.run)
    (counted_once_lem (planned system) 4 Hold asked.seed asked.workers a.counts b.counts (can_replay_of system whole) a.replayed b.replayed)
    ∙ ap (with_counts b.counts) (traces_same system whole a.run b.run a.tells b.tells)
    ∙ sym b.is

-- The rows of two answers for a system are equal.
rows_same : (system : System) → IsWhole system → (one other : Answer) (a : TellsTrace system one) (b : TellsTrace system other) → a.rows ≡ b.rows
rows_same system whole one other a b =
    let outcome = one_outcome system whole in
    (outcome.is_only a.rows a.last a.ending a.trace).0 ∙ sym (outcome.is_only b.rows b.last b.ending b.trace).0

-- Reports of runs without workers have the same line.
lines_alone : (system : System) → IsWhole system → (rows : ℕ) (one other : Report) → CanReport 0 system rows one → CanReport 0 system rows other
    → report_text one ≡ report_text other
lines_alone system whole rows one other a b =
    let cells = (plain_outcome system whole).is_only_count in
    let counts = cells (one.found + one.own) a.cells ∙ sym (cells (other.found + other.own) b.cells) in
    let mine = a.alone refl in
    let yours = b.alone refl in
    let own : one.own ≡ other.own = omega (arith, counts, mine.found, yours.found) in
    rw (
      a.rows_counted,
      b.rows_counted,
      mine.found,
      yours.found,
      own,
      mine.tickets,
      yours.tickets,
      mine.posted,
      yours.posted,
      mine.back,
      yours.back,
      mine.lapsed,
      yours.lapsed,
    ) refl

-- For two runs with the same options, without workers where there is a report, the reports have the same lines.
lines_same : (asked : Running) → (asked.report ≡ true → asked.workers ≡ 0) → (system : System) → IsWhole system → (rows : ℕ) (one other : Report)
    → CanReport asked.workers system rows one → CanReport asked.workers system rows other → report_lines asked one ≡ report_lines asked other
lines_same asked settled system whole rows one other a b = by asked.report refl
  where
    by : (flag : Bool) → asked.report ≡ flag → (if flag then report_text one ∷ [] else []) ≡ (if flag then report_text other ∷ [] else [])
    by false is = refl
    by true is =
        ap (λ line. line ∷ [])
        (lines_alone system whole rows one other (subst (λ workers. CanReport workers system rows one) (settled is) a)
        (subst (λ workers. CanReport workers system rows other) (settled is) b))

-- So two such runs of a system have the same answer.
reported_same : (asked : Running) → (asked.report ≡ true → asked.workers ≡ 0) → (system : System) → IsWhole system → (one other : Answer)
    → TellsReported asked system one → TellsReported asked system other → one ≡ other
reported_same asked settled system whole one other a b =
    let rows = rows_same system whole a.trace b.trace a.tells b.tells in
    a.is
    ∙ ap (λ lines. record a.trace { notes = a.trace.notes ++ lines })
    (lines_same asked settled system whole (length b.tells.rows) a.report b.report
    (subst (λ rows. CanReport asked.workers system (length rows) a.report) rows a.can) b.can)
    ∙ ap (with_report asked b.report) (traces_same system whole a.trace b.trace a.tells b.tells)
    ∙ sym b.is

-- Any two runs write the same and have one status.
reported_agree : (asked also : Running) (system : System) → IsWhole system → (one other : Answer) → TellsReported asked system one
    → TellsReported also system other → Agree one other
reported_agree asked also system whole one other a b =
    let same = traces_same system whole a.trace b.trace a.tells b.tells in (
      ap (λ (x : Answer). x.out) a.is ∙ ap (λ (x : Answer). x.out) same ∙ sym (ap (λ (x : Answer). x.out) b.is),
      ap (λ (x : Answer). x.status) a.is ∙ ap (λ (x : Answer). x.status) same ∙ sym (ap (λ (x : Answer). x.status) b.is),
    )

-- They also have the same notes, each with the lines of its own report after them.
reported_noted : (asked also : Running) (system : System) → IsWhole system → (one other : Answer) → TellsReported asked system one
    → TellsReported also system other → (notes : List (List ℕ)) × IsNoted asked notes one × IsNoted also notes other
reported_noted asked also system whole one other a b =
    let same = traces_same system whole a.trace b.trace a.tells b.tells in (
      b.trace.notes,
      inr (a.report, ap (λ (x : Answer). x.notes) a.is ∙ ap (λ (x : Answer). x.notes ++ report_lines asked a.report) same),
      inr (b.report, ap (λ (x : Answer). x.notes) b.is),
    )

reported_answer : (asked : Running) → AnswersSystems (TellsReported asked)
reported_answer asked = record {
  some = λ system whole.
      let trace = traces_answer.some system whole in
      let one = plain_outcome system whole in
      let report = alone_report (length trace.1.rows) one.cells one.ending one.last in (
        with_report asked report trace.0,
        record {
          trace = trace.0;
          tells = trace.1;
          report = report;
          can = alone_can asked.workers system (length trace.1.rows) one.cells one.ending one.last one.has_cells;
          is = refl;
        },
      );
  agree = λ system whole one other a b. reported_agree asked asked system whole one other a b;
  ends = λ system answer tells.
      is_end tells.tells.ending answer.status (ap (λ (a : Answer). a.status) tells.is ∙ ap (λ (a : Answer). a.status) tells.tells.is);
}

replays_answer : (asked : Replaying) → AnswersSystems (TellsReplay asked)
replays_answer asked = record {
  some = λ system whole.
      let run = traces_answer.some system whole in
      let counts = counts_there asked system whole in
      (with_counts counts.0 run.0, record { run = run.0; tells = run.1; counts = counts.0; replayed = counts.1; is = refl });
  agree = λ system whole one other a b. agree_as_same one other (replays_same asked system whole one other a b);
  ends = λ system answer tells.
      is_end tells.tells.ending answer.status (ap (λ (a : Answer). a.status) tells.is ∙ ap (λ (a : Answer). a.status) tells.tells.is);
}

upgrades_answer : AnswersOrBreaks TellsUpgrade IsTooLongInVersion2
upgrades_answer = record {
  some = λ system whole. by system (at_most_or_above (length (printed_text (upgraded system))) text_limit);
  not_both = λ system answer tells long. above_is_not (length (printed_text (upgraded system))) tells.fits long;
  agree = λ system whole one other a b. agree_as_same one other (a.is ∙ sym b.is);
  ends = λ system answer tells. subst (λ (a : Answer). IsEndOfWork a.status) (sym tells.is) tt;
}
  where
    above_is_not : (n : ℕ) → n ≤ text_limit → text_limit < n → ⊥
    above_is_not n most above = absurd (omega (arith, most, above))

    by : (system : System) → (length (printed_text (upgraded system)) ≤ text_limit) ⊎ IsTooLongInVersion2 system
        → ((answer : Answer) × TellsUpgrade system answer) ⊎ IsTooLongInVersion2 system
    by system (inl fits) = inl (printed_answer (upgraded system), record { fits = fits; is = refl })
    by system (inr long) = inr long

lawful : (command : Command) → KeepsRanges command → IsLawful (RefusedBy command) (ServedBy command)
lawful (Run asked) keeps = lawful_on_accepted (TellsReported asked) (reported_answer asked)
lawful Check keeps = lawful_piece (λ system. accepted_text)
lawful Print keeps = lawful_piece printed_text
lawful Upgrade keeps = lawful_with_rule TellsUpgrade IsTooLongInVersion2 37 upgrades_answer
lawful (Replay asked) keeps = lawful_on_accepted (TellsReplay asked) (replays_answer asked)
lawful (Gen asked) keeps = lawful_unread (AnswersGen asked) (gen_answer asked)
lawful (Bench asked) keeps = lawful_unread (AnswersBench asked) (bench_answer asked keeps)
lawful (Save asked) keeps = lawful_with_rule (TellsPosition asked.row) (LacksPosition asked.row) 31 (saves_answer asked.row)
lawful Resume keeps = resume_lawful
lawful Verify keeps = lawful_within verify_limit RefusesTable AnswersTable verify_lawful
lawful Stimulus keeps = lawful_within stimulus_limit LeavesTable PlaysTable stimulus_lawful
lawful Flatten keeps = flatten_lawful
lawful (Nodes asked) keeps = lawful_with_rule (TellsNodes asked) IsTooLargeForNodes 34 (nodes_answer_systems asked)

determined : (command : Command) → KeepsRanges command → IsDetermined (Some command) → HasNoOther (ServedBy command)
determined (Run asked) keeps settled = determined_on_accepted (TellsReported asked) (reported_same asked settled)
determined Check keeps settled = determined_piece (λ system. accepted_text)
determined Print keeps settled = determined_piece printed_text
determined Upgrade keeps settled = determined_on_accepted TellsUpgrade (λ system whole one other a b. a.is ∙ sym b.is)
determined (Replay asked) keeps settled = determined_on_accepted (TellsReplay asked) (replays_same asked)
determined (Gen asked) keeps settled = determined_unread (AnswersGen asked) (gen_answer asked)
determined (Bench asked) keeps settled = determined_unread (AnswersBench asked) (bench_answer asked keeps)
determined (Save asked) keeps settled = determined_on_accepted (TellsPosition asked.row) (saves_same asked.row)
determined Resume keeps settled = resumes_same
determined Verify keeps settled = determined_within verify_limit AnswersTable verdicts_once
determined Stimulus keeps settled = determined_within stimulus_limit PlaysTable plays_once
determined Flatten keeps settled = flat_once
determined (Nodes asked) keeps settled = determined_on_accepted (TellsNodes asked) (nodes_same asked)

-- An input that was read is not longer than a command may read.
pub in_limit : (input : Option ℕ) (read : Vec ℕ Global) (text : List ℕ) → text ≡ read.items → IsInLimit input (Ok read)
    → IfSome input (λ limit. length text ≤ limit)
in_limit None read text is within = tt
in_limit (Some limit) read text is within =
    subst (λ (bytes : List ℕ). length bytes ≤ limit) (sym is) (subst (λ n. n ≤ limit) read.ok.0 within)

-- An input that is too long breaks the rule of its length.
pub too_long : (limit : ℕ) (text : List ℕ) → Some text_limit ≡ Some limit → limit < length text → IsRefusedAt text 1 2
too_long limit text is long = inl (long_refused text (more (same_Some text_limit limit is) (length_le_size_of text) long))
  where
    more : text_limit ≡ limit → length text ≤ size_of text → limit < length text → text_limit < size_of text
    more is size long = omega (arith, is, size, long)

long_by : (command : Command) (limit : ℕ) (text : List ℕ) → input_of command ≡ Some limit → limit < length text → RefusedBy command text 1 2
long_by (Run asked) limit text is long = too_long limit text is long
long_by Check limit text is long = too_long limit text is long
long_by Print limit text is long = too_long limit text is long
long_by Upgrade limit text is long = inl (too_long limit text is long)
long_by (Replay asked) limit text is long = too_long limit text is long
long_by (Gen asked) limit text is long = absurd (cc)
long_by (Bench asked) limit text is long = absurd (cc)
long_by (Save asked) limit text is long = inl (too_long limit text is long)
long_by Resume limit text is long =
    inl (record { long = subst (λ most. most < length text) (sym (same_Some saved_limit limit is)) long; at = refl; by = refl })
long_by Verify limit text is long = longer verify_limit limit RefusesTable text is long
long_by Stimulus limit text is long = longer stimulus_limit limit LeavesTable text is long
long_by Flatten limit text is long = inl (too_long_nest limit text is long)
long_by (Nodes asked) limit text is long = inl (too_long limit text is long)

-- A command that reads nothing has the same answers for all inputs.
free_by : (command : Command) → input_of command ≡ None → (one other : List ℕ) (answer : Answer) → Answers command one answer
    → Answers command other answer
free_by (Run asked) is one other answer answers = absurd (cc)
free_by Check is one other answer answers = absurd (cc)
free_by Print is one other answer answers = absurd (cc)
free_by Upgrade is one other answer answers = absurd (cc)
free_by (Replay asked) is one other answer answers = absurd (cc)
free_by (Gen asked) is one other answer (inl refusal) = absurd refusal.refused
free_by (Gen asked) is one other answer (inr serves) = inr serves
free_by (Save asked) is one other answer answers = absurd (cc)
free_by Resume is one other answer answers = absurd (cc)
free_by Verify is one other answer answers = absurd (cc)
free_by Stimulus is one other answer answers = absurd (cc)
free_by Flatten is one other answer answers = absurd (cc)
free_by (Nodes asked) is one other answer answers = absurd (cc)
free_by (Bench asked) is one other answer (inl refusal) = absurd refusal.refused
free_by (Bench asked) is one other answer (inr serves) = inr serves

-- ---- All commands

-- The answer for a text that is refused is the refusal. The answers for any other text are those that serve it.
answered : (command : Command) → KeepsRanges command → (text : List ℕ) → (answer : Answer) × Answers command text answer
answered command keeps text = by ((lawful command keeps).judged text)
  where
    by : ((line : ℕ) × (rule : ℕ) × RefusedBy command text line rule) ⊎ ((answer : Answer) × ServedBy command text answer)
        → (answer : Answer) × Answers command text answer
    by (inl (line, rule, refused)) = (refused_answer line rule, inl (record { line = line; rule = rule; refused = refused; is = refl }))
    by (inr (answer, serves)) = (answer, inr serves)

pub is_answered : (command : Command) → KeepsRanges command → IsAnswered (input_of command) (Answers command)
is_answered command keeps = record {
  some = answered command keeps;
  long = λ limit text is long. inl (record { line = 1; rule = 2; refused = long_by command limit text is long; is = refl });
  free = free_by command;
}

module _ (command : Command) (keeps : KeepsRanges command) (text : List ℕ) where
  refused_once : (one other : Answer) → AnswersRefusal command text one → AnswersRefusal command text other → one ≡ other
  refused_once one other a b =
      let same = (lawful command keeps).one_refusal text a.line a.rule b.line b.rule a.refused b.refused in
      a.is ∙ ap (λ line. refused_answer line a.rule) same.0 ∙ ap (refused_answer b.line) same.1 ∙ sym b.is

  never_both : (refused served : Answer) → AnswersRefusal command text refused → ServedBy command text served → ⊥
  never_both refused served a b = (lawful command keeps).not_both text a.line a.rule served a.refused b

  answers_same : IsDetermined (Some command) → (one other : Answer) → Answers command text one → Answers command text other → one ≡ other
  answers_same settled one other (inl a) (inl b) = refused_once one other a b
  answers_same settled one other (inl a) (inr b) = absurd (never_both one other a b)
  answers_same settled one other (inr a) (inl b) = absurd (never_both other one b a)
  answers_same settled one other (inr a) (inr b) = determined command keeps settled text one other a b

  answers_agree_by : (one other : Answer) → Answers command text one → Answers command text other → Agree one other
  answers_agree_by one other (inl a) (inl b) = agree_as_same one other (refused_once one other a b)
  answers_agree_by one other (inl a) (inr b) = absurd (never_both one other a b)
  answers_agree_by one other (inr a) (inl b) = absurd (never_both other one b a)
  answers_agree_by one other (inr a) (inr b) = (lawful command keeps).agree text one other a b

answered_by : (command : Option Command) → IfSome command KeepsRanges → (text : List ℕ) → (answer : Answer) × AnswersOf command text answer
answered_by (Some command) keeps text = answered command keeps text
answered_by None keeps text = (usage_answer, refl)

pub every_call_is_answered : EveryCallIsAnswered
every_call_is_answered words text = answered_by (command_of words) (ranges_kept words) text

same_by : (command : Option Command) → IfSome command KeepsRanges → IsDetermined command → (text : List ℕ) (one other : Answer)
    → AnswersOf command text one → AnswersOf command text other → one ≡ other
same_by (Some command) keeps settled text one other a b = answers_same command keeps text settled one other a b
same_by None keeps settled text one other a b = a ∙ sym b

pub no_call_is_answered_twice : NoCallIsAnsweredTwice
no_call_is_answered_twice words text one other settled a b = same_by (command_of words) (ranges_kept words) settled text one other a b

module _ (asked also : Running) (text : List ℕ) (one other : Answer) where
  refused_alike : AnswersRefusal (Run asked) text one → AnswersRefusal (Run also) text other → one ≡ other
  refused_alike a b =
      let same = (judged_once text).one_refusal a.line a.rule b.line b.rule a.refused b.refused in
      a.is ∙ ap (λ line. refused_answer line a.rule) same.0 ∙ ap (refused_answer b.line) same.1 ∙ sym b.is

  on_other_system : (a : OnAccepted (TellsReported asked) text one) (b : OnAccepted (TellsReported also) text other) → TellsReported asked b.system one
  on_other_system a b =
      subst (λ (s : System). TellsReported asked s one)
      ((judged_once text).one_system a.system b.system a.lines b.lines a.accepted b.accepted).0 a.is

pub runs_agree : RunsAgree
runs_agree asked also text one other (inl a) (inl b) = agree_as_same one other (refused_alike asked also text one other a b)
runs_agree asked also text one other (inl a) (inr b) = absurd ((judged_once text).not_both b.system b.lines a.line a.rule b.accepted a.refused)
runs_agree asked also text one other (inr a) (inl b) = absurd ((judged_once text).not_both a.system a.lines b.line b.rule a.accepted b.refused)
runs_agree asked also text one other (inr a) (inr b) =
    reported_agree asked also b.system (whole_of text b.system b.lines b.accepted) one other (on_other_system asked also text one other a b) b.is

pub notes_agree : NotesAgree
notes_agree asked also text one other (inl a) (inl b) = (
  one.notes,
  inl (ap (λ (x : Answer). x.status) a.is, refl),
  inl (ap (λ (x : Answer). x.status) b.is, sym (ap (λ (x : Answer). x.notes) (refused_alike asked also text one other a b))),
)
notes_agree asked also text one other (inl a) (inr b) = absurd ((judged_once text).not_both b.system b.lines a.line a.rule b.accepted a.refused)
notes_agree asked also text one other (inr a) (inl b) = absurd ((judged_once text).not_both a.system a.lines b.line b.rule a.accepted b.refused)
notes_agree asked also text one other (inr a) (inr b) =
    reported_noted asked also b.system (whole_of text b.system b.lines b.accepted) one other (on_other_system asked also text one other a b) b.is

agree_by : (command : Option Command) → IfSome command KeepsRanges → (text : List ℕ) (one other : Answer) → AnswersOf command text one
    → AnswersOf command text other → (one.out ≡ other.out) × (one.status ≡ other.status)
agree_by (Some command) keeps text one other a b = answers_agree_by command keeps text one other a b
agree_by None keeps text one other a b = agree_as_same one other (a ∙ sym b)

pub answers_agree : AnswersAgree
answers_agree words text one other a b = agree_by (command_of words) (ranges_kept words) text one other a b

-- ---- The consequences of a status

no_refusal : status.Usage ≡ status.Refused → ⊥
no_refusal is = cc

refusal_by : (found : Option Command) → IfSome found KeepsRanges → (text : List ℕ) (answer : Answer) → AnswersOf found text answer
    → answer.status ≡ status.Refused → (command : Command) × (Some command ≡ found) × AnswersRefusal command text answer
refusal_by (Some command) keeps text answer (inl refusal) is = (command, refl, refusal)
refusal_by (Some command) keeps text answer (inr serves) is = absurd (subst IsEndOfWork is ((lawful command keeps).ends text answer serves))
refusal_by None keeps text answer usage is = absurd (no_refusal (sym (ap (λ (a : Answer). a.status) usage) ∙ is))

pub refusals_are_of_rules : RefusalsAreOfRules
refusals_are_of_rules words text answer is refused = refusal_by (command_of words) (ranges_kept words) text answer is refused

served_by : (found : Option Command) (text : List ℕ) (answer : Answer) → AnswersOf found text answer → IsEndOfWork answer.status
    → (command : Command) × (Some command ≡ found) × ServedBy command text answer
served_by (Some command) text answer (inl refusal) end = absurd (subst (λ (a : Answer). IsEndOfWork a.status) refusal.is end)
served_by (Some command) text answer (inr serves) end = (command, refl, serves)
served_by None text answer usage end = absurd (subst (λ (a : Answer). IsEndOfWork a.status) usage end)

pub ends_are_served : EndsAreServed
ends_are_served words text answer is end = served_by (command_of words) text answer is end

-- ---- Words with a form and without one

pub has_form : (words : List (List ℕ)) (command : Command) (given : Status) → Some command ≡ command_of words → (given ≡ status.Usage → ⊥)
    → UsageClause words given
has_form words command given is never = record { only = λ usage. absurd (never usage); due = λ none. absurd (some_is_none (is ∙ none)) }
  where
    some_is_none : Some command ≡ None → ⊥
    some_is_none is = cc

pub has_no_form : (words : List (List ℕ)) (given : Status) → None ≡ command_of words → (given ≡ status.Usage) ⊎ (given ≡ status.WriteFault)
    → UsageClause words given
has_no_form words given is due = record { only = λ _. sym is; due = λ _. due }
