-- The results of `save` and `resume`, as the answers for their text.
use Rattle.std.specs.Io.KnownBytes.{Appends}
use Rattle.std.specs.Prelude.{Vec}
use Rattle.std.specs.declared.alloc.Global.{Global}
use Rattle.std.proofs.Common.{◌≡◌, ℕ, ◌≤◌, List, length, Result, Ok, Err, refl, sym, ap, subst, ◌∙◌, inl, inr}
use Rattle.cosim_io.specs.Pieces.{AppendsPrefix}
use Rattle.cosim_io.proofs.PieceLemmas.{AppendsPrefix-whole}
use Rattle.command_line.specs.Commands.{saved_limit}
use Rattle.command_line.specs.declared.commands.Command.TheVariants.{Resume, Save}
use Rattle.command_line.specs.declared.saving.Saving.{Saving}
use Rattle.cosim_call.specs.Answers.{Answer}
use Rattle.cosim_call.specs.Calls.{Stream}
use Rattle.cosim_call.specs.Coming.{Begins, Makes, Serves}
use Rattle.cosim_call.specs.declared.coming.Served.{Served}
use Rattle.cosim_call.specs.declared.coming.Stopped.{Stopped}
use Rattle.cosim_call.specs.declared.coming.Stopped.TheVariants as stopped
use Rattle.save_point.specs.SavedTexts.{IsSaved, saved_text}
use Rattle.save_point.specs.Saving.{FitsNone, FitsSaved, HasNoPosition, IsOpenedBy}
use Rattle.save_point.specs.declared.reading.Saved.{Saved}
use Rattle.trace_core.specs.Runs.{RunState}
use Rattle.trace_plan.specs.Plans.{Planned}
use Rattle.trace_rows.specs.Lines.{lines_of}
use Rattle.trace_rows.specs.Reports.{AppendsRestPrefix, ReportsRest}
use Rattle.trace_rows.specs.declared.report.Report.{Report}
use Rattle.unit_tree.specs.Compositions.{run_of}
use Rattle.unit_tree.specs.Trace.{GoesOnFrom, IsPositionOf, Row, Stand, rows_of}
use Rattle.unit_tree.specs.declared.ending.Ending.{Ending}
use Rattle.cosim_answers.specs.Accepted.{planned}
use Rattle.cosim_answers.specs.Answer.{Answers}
use Rattle.cosim_answers.specs.SavedAnswers.{ResumeRefuses, SavesIn, TellsRest, text_behind}
use Rattle.cosim_answers.specs.Serving.{FindsSaved, GoesOn, IsAccepted, IsRefusedBehind, MakesSaved, OpensSaved, TellsResumed}
use Rattle.cosim_answers.proofs.MakingLaws.{made}
use Rattle.cosim_answers.proofs.PlainFits.{fits_plain, fits_read}
use Rattle.cosim_answers.proofs.PlainRests.{plain_answer, plain_position, position_told, rest_told}
use Rattle.cosim_answers.proofs.SavedLaws.{rest_there}
use Rattle.cosim_answers.proofs.TraceLaws.{IsWhole, is_end, whole_of}

-- ---- The result of `resume`

abbrev Owes : List ℕ → Stream → Stream → Result Served Stopped → Type 0
Owes text = Serves (Answers Resume text)

refused_by : (text : List ℕ) (out : Stream) (line rule : ℕ) → ResumeRefuses text line rule → Owes text out out (Err (stopped.Refused line rule))
refused_by text out line rule refused = (inl (record { line = line; rule = rule; refused = refused; is = refl }), refl)

-- A text that saves no position.
pub saves_no_position : (text : List ℕ) (out : Stream) (why : Stopped) → length text ≤ saved_limit → FindsSaved text (Err why)
    → Owes text out out (Err why)
saves_no_position text out (stopped.Refused line rule) within (breaks, is) =
    refused_by text out line rule (inr (inl (record { within = within; breaks = breaks; by = is })))
saves_no_position text out stopped.NoMemory within found = (inl refl, refl)
saves_no_position text out stopped.ReadFault within found = absurd found
saves_no_position text out stopped.WriteFault within found = absurd found

-- A text whose system is refused.
pub refuses_behind : (text : List ℕ) (saved : Saved) (out : Stream) (why : Stopped) → length text ≤ saved_limit → IsSaved text saved
    → IsRefusedBehind text saved why → Owes text out out (Err why)
refuses_behind text saved out (stopped.Refused line rule) within saves (behind, refused, is) =
    refused_by text out line rule
    (inr (inr (inl (record { within = within; saved = saved; saves = saves; behind = behind; refused = refused; at = is }))))
refuses_behind text saved out stopped.NoMemory within saves refused = (inl refl, refl)
refuses_behind text saved out stopped.ReadFault within saves refused = absurd refused
refuses_behind text saved out stopped.WriteFault within saves refused = absurd refused

module _ (text : List ℕ) (saved : Saved) (plan : Planned) (within : length text ≤ saved_limit) (saves : IsSaved text saved)
    (accepted : IsAccepted (text_behind text saved) plan.system) (whole : plan ≡ planned plan.system) where
  in_text : SavesIn text saved plan.system
  in_text = record { within = within; saves = saves; lines = accepted.0; accepted = accepted.1 }

  is_whole : IsWhole plan.system
  is_whole = whole_of (text_behind text saved) plan.system accepted.0 accepted.1

  -- A trace without such a position.
  pub fits_nowhere : (out : Stream) (why : Stopped) → OpensSaved plan saved (Err why) → Owes text out out (Err why)
  fits_nowhere out (stopped.Refused line rule) (at, by, none) =
      refused_by text out line rule
      (inr (inr (inr (record {
        saved = saved;
        system = plan.system;
        saves = in_text;
        none = λ at fits. subst (λ p. FitsNone p saved) whole none at (fits_plain plan.system is_whole saved at fits);
        at = at;
        by = by;
      }))))
  fits_nowhere out stopped.NoMemory opens = (inl refl, refl)
  fits_nowhere out stopped.ReadFault opens = absurd opens
  fits_nowhere out stopped.WriteFault opens = absurd opens

  module _ (r : RunState) (opened : IsOpenedBy plan saved r) where
    fits : FitsSaved (planned plan.system) saved r.opened
    fits = subst (λ p. FitsSaved p saved r.opened) whole opened.fits

    composed : plan.run ≡ run_of plan.system
    composed = ap (λ (p : Planned). p.run) whole

    goes_on_from : (stands : List Stand) (ending : Ending) → GoesOnFrom (run_of plan.system) r.opened stands ending
        → GoesOnFrom plan.run r.opened stands ending
    goes_on_from stands ending goes = subst (λ run. GoesOnFrom run r.opened stands ending) (sym composed) goes

    -- The answer by a rest.
    by_rest : (answer : Answer) → TellsRest plan.system r.opened answer → Answers Resume text answer
    by_rest answer tells =
        inr (record {
          saved = saved;
          system = plan.system;
          saves = in_text;
          at = r.opened;
          fits = fits_read plan.system is_whole saved r.opened fits;
          tells = tells;
        })

    begins_rest : (out out' : Stream) → AppendsRestPrefix plan r.opened out.bytes out'.bytes → Begins (Answers Resume text) out out'
    begins_rest out out' front =
        let rest = rest_there plan.system saved r.opened is_whole fits in
        let stands = rest.1.rest.stands in
        inr (
          rest.0,
          by_rest rest.0 (rest_told plan.system is_whole r.opened fits.position.has_words rest.0 rest.1),
          subst (AppendsPrefix out.bytes out'.bytes)
              (ap (λ run. lines_of plan.system (rows_of run stands)) composed
              ∙ ap (lines_of plan.system) (sym rest.1.rest.rows_are)
              ∙ ap (λ (a : Answer). a.out) (sym rest.1.is))
              (front.begins stands rest.1.ending (goes_on_from stands rest.1.ending rest.1.rest.goes_on)),
        )

    -- A run that was given up.
    pub rest_given_up : (out out' : Stream) (why : Stopped) → GoesOn plan r.opened out out' (Err why) → Owes text out out' (Err why)
    rest_given_up out out' stopped.WriteFault (front, rose) = (begins_rest out out' front, rose)
    rest_given_up out out' stopped.NoMemory (front, same) = (begins_rest out out' front, same)
    rest_given_up out out' stopped.ReadFault goes = absurd goes
    rest_given_up out out' (stopped.Refused line rule) goes = absurd goes

    -- The answer by the rest that was written and reported.
    module _ (out out' : Stream) (report : Report) (reports : ReportsRest plan r.opened out.bytes out'.bytes report) where
      abbrev rows : List Row
      rows = rows_of (run_of plan.system) reports.stands

      abbrev answer : Answer
      answer = plain_answer plan.system rows report.last report.outcome

      tells : TellsRest plan.system r.opened answer
      tells = rest_told plan.system is_whole r.opened fits.position.has_words answer (record {
        rows = rows;
        last = report.last;
        ending = report.outcome;
        rest = record {
          stands = reports.stands;
          goes_on = subst (λ run. GoesOnFrom run r.opened reports.stands report.outcome) composed reports.goes_on;
          rows_are = refl;
          last_is = reports.last;
        };
        is = refl;
      })

      put : Appends out.bytes out'.bytes answer.out
      put =
          subst (λ run. Appends out.bytes out'.bytes (lines_of plan.system (rows_of run reports.stands))) composed reports.out

    -- A run that came to its end, and is reported.
    pub rest_answered : (out out' : Stream) (report : Report) (came : Result Served Stopped) → GoesOn plan r.opened out out' (Ok report)
        → TellsResumed plan.system report came → Owes text out out' came
    rest_answered out out' report (Ok served) (reports, same) (status_is, notes_is) = (
      record {
        answer = answer out out' report reports;
        is = by_rest (answer out out' report reports) (tells out out' report reports);
        put = put out out' report reports;
        notes = notes_is;
        status = status_is;
        ends = is_end report.outcome served.status status_is;
      },
      same,
    )
    rest_answered out out' report (Err why) (reports, same) is =
        subst (λ (one : Stopped). Owes text out out' (Err one)) (sym is) (
          inr (
            answer out out' report reports,
            by_rest (answer out out' report reports) (tells out out' report reports),
            AppendsPrefix-whole out.bytes out'.bytes (answer out out' report reports).out (put out out' report reports),
          ),
          same,
        )

-- ---- The result of `save`

pub saved_made : (row : ℕ) (text : List ℕ) (plan : Planned) → IsAccepted text plan.system → plan ≡ planned plan.system → (asked : Saving) → asked.row ≡ row
    → (result : Result (Vec ℕ Global) Stopped) → MakesSaved plan row result → Makes (Answers (Save asked) text) result
saved_made row text plan accepted whole asked is (Ok bytes) (at, of, same) =
    made (Answers (Save asked) text) (saved_text plan.system at) bytes same
    (inr (record {
      system = plan.system;
      lines = accepted.0;
      accepted = accepted.1;
      is = record {
        at = at;
        is_position = position_told plan.system (whole_of text plan.system accepted.0 accepted.1) asked.row at
            (subst (λ (p : Planned). IsPositionOf p.run asked.row at) whole (subst (λ n. IsPositionOf plan.run n at) (sym is) of));
        is = refl;
      };
    }))
saved_made row text plan accepted whole asked is (Err (stopped.Refused line rule)) (at, by, none) =
    inl (record {
      line = line;
      rule = rule;
      refused = inr (record {
        system = plan.system;
        lines = accepted.0;
        accepted = accepted.1;
        breaks = λ place of. subst (λ (p : Planned). HasNoPosition p.run asked.row) whole (subst (HasNoPosition plan.run) (sym is) none) place
            (plain_position plan.system (whole_of text plan.system accepted.0 accepted.1) asked.row place of);
        at = at;
        by = by;
      });
      is = refl;
    })
saved_made row text plan accepted whole asked is (Err stopped.NoMemory) makes = tt
saved_made row text plan accepted whole asked is (Err stopped.ReadFault) makes = absurd makes
saved_made row text plan accepted whole asked is (Err stopped.WriteFault) makes = absurd makes
