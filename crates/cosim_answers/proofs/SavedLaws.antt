-- What holds of the answers of `save` and `resume`: there is exactly one for each text.
use Rattle.std.proofs.Common.{◌≡◌, ℕ, ◌+◌, ◌<◌, ◌≤◌, ◌⊎◌, List, length, refl, sym, ap, subst, ◌∙◌, inl, inr, arith}
use Rattle.text_accept.specs.Accepting.{IsAcceptedAs, IsRefusedAt}
use Rattle.text_accept.proofs.Acceptance.{judged_once}
use Rattle.run_laws.proofs.PositionLaws.{system_has_members}
use Rattle.run_laws.proofs.RunOrders.{runs_have_orders}
use Rattle.run_laws.proofs.RunTraces.{one_rest, one_trace}
use Rattle.run_laws.specs.RestLaws.{HasOneRest}
use Rattle.run_laws.specs.RunLaws.{HasOneTrace}
use Rattle.save_point.specs.SavedTexts.{BreaksAtLine, IsSaved, saved_text}
use Rattle.save_point.specs.Saving.{FitsNone, FitsSaved}
use Rattle.save_point.specs.declared.reading.Saved.{Saved}
use Rattle.save_point.proofs.PositionsOnce.{fits_one_or_none, one_position}
use Rattle.save_point.proofs.SavedOnce.{saves_or_breaks}
use Rattle.unit_tree.specs.Compositions.{run_of}
use Rattle.unit_tree.specs.Plain.{plain_form}
use Rattle.unit_tree.specs.Successor.{Position}
use Rattle.unit_tree.specs.Trace.{IsPositionOf, last_point, rows_of}
use Rattle.unit_tree.specs.declared.system.System.{System}
use Rattle.cosim_call.specs.Answers.{Answer, IsEndOfWork, piece_answer}
use Rattle.command_line.specs.Commands.{saved_limit}
use Rattle.cosim_answers.specs.Accepted.{planned}
use Rattle.cosim_answers.specs.SavedAnswers.{AnswersResume, FitsSystem, LacksMatch, LacksPosition, RefusesBehind, ResumeRefuses, SavesIn, SavesNone, TellsPosition, TellsRest}
use Rattle.cosim_answers.specs.SavedAnswers.{lines_before, text_behind}
use Rattle.cosim_answers.proofs.Lawful.{AnswersOrBreaks, HasNoOther, IsLawful, agree_as_same, at_most_or_above}
use Rattle.cosim_answers.proofs.PlainFits.{fits_plain, fits_read}
use Rattle.cosim_answers.proofs.PlainRests.{TellsPlainRest, plain_answer, plain_position, position_told, rest_plain, rest_told}
use Rattle.cosim_answers.proofs.TraceLaws.{IsWhole, is_end, whole_of}

-- ---- Runs of accepted systems

pub has_one_trace : (system : System) → IsWhole system → HasOneTrace (run_of system)
has_one_trace system whole =
    let order = runs_have_orders system whole.ranged whole.well_formed whole.ordered in
    one_trace (run_of system) order.0 (system_has_members (plain_form system)) order.1

pub has_one_rest : (system : System) (saved : Saved) (at : Position) → IsWhole system → FitsSaved (planned system) saved at → HasOneRest (run_of system) at
has_one_rest system saved at whole fits =
    let order = runs_have_orders system whole.ranged whole.well_formed whole.ordered in
    one_rest (run_of system) order.0 (system_has_members (plain_form system)) order.1 at fits.position.has_words fits.position.in_bounds

-- ---- `save`

pub saves_same : (row : ℕ) (system : System) → IsWhole system → (one other : Answer) → TellsPosition row system one → TellsPosition row system other
    → one ≡ other
saves_same row system whole one other a b =
    let same = (one_position (run_of system) row (has_one_trace system whole)).once a.at b.at (plain_position system whole row a.at a.is_position)
    (plain_position system whole row b.at b.is_position) in
    a.is ∙ ap (λ at. piece_answer (saved_text system at)) same ∙ sym b.is

pub saves_answer : (row : ℕ) → AnswersOrBreaks (TellsPosition row) (LacksPosition row)
saves_answer row = record {
  some = λ system whole. by system whole (one_position (run_of system) row (has_one_trace system whole)).some;
  not_both = λ system answer tells none. none tells.at tells.is_position;
  agree = λ system whole one other a b. agree_as_same one other (saves_same row system whole one other a b);
  ends = λ system answer tells. subst (λ (a : Answer). IsEndOfWork a.status) (sym tells.is) tt;
}
  where
    by : (system : System) → IsWhole system
        → ((at : Position) × IsPositionOf (run_of system) row at) ⊎ ((at : Position) → IsPositionOf (run_of system) row at → ⊥)
        → ((answer : Answer) × TellsPosition row system answer) ⊎ LacksPosition row system
    by system whole (inl (at, is)) =
        inl (piece_answer (saved_text system at), record { at = at; is_position = position_told system whole row at is; is = refl })
    by system whole (inr none) = inr (λ at of. none at (plain_position system whole row at of))

-- ---- `resume`

-- The rest of the plain form that exists, as an answer.
pub rest_there : (system : System) (saved : Saved) (at : Position) → IsWhole system → FitsSaved (planned system) saved at
    → (answer : Answer) × TellsPlainRest system at answer
rest_there system saved at whole fits =
    let one = has_one_rest system saved at whole fits in
    let rows = rows_of (run_of system) one.stands in
    let last = last_point one.stands in (
      plain_answer system rows last one.ending,
      record {
        rows = rows;
        last = last;
        ending = one.ending;
        rest = record { stands = one.stands; goes_on = one.goes_on; rows_are = refl; last_is = refl };
        is = refl;
      },
    )

-- It is the rest of the system.
pub own_rest_there : (system : System) (saved : Saved) (at : Position) → IsWhole system → FitsSaved (planned system) saved at
    → (answer : Answer) × TellsRest system at answer
own_rest_there system saved at whole fits =
    let rest = rest_there system saved at whole fits in (rest.0, rest_told system whole at fits.position.has_words rest.0 rest.1)

-- Each rest of the system is that of the plain form.
pub as_plain : (system : System) (saved : Saved) (at : Position) → IsWhole system → FitsSaved (planned system) saved at → (answer : Answer)
    → TellsRest system at answer → TellsPlainRest system at answer
as_plain system saved at whole fits answer tells =
    let rest = rest_there system saved at whole fits in rest_plain system whole at fits.position.has_words rest.0 rest.1 answer tells

plain_same : (system : System) (saved : Saved) (at : Position) → IsWhole system → FitsSaved (planned system) saved at → (one other : Answer)
    → TellsPlainRest system at one → TellsPlainRest system at other → one ≡ other
plain_same system saved at whole fits one other a b =
    let only = (has_one_rest system saved at whole fits).is_only in
    let first = only a.rest.stands a.ending a.rest.goes_on in
    let second = only b.rest.stands b.ending b.rest.goes_on in
    let stands = first.0 ∙ sym second.0 in
    a.is
    ∙ ap (λ rows. plain_answer system rows a.last a.ending)
    (a.rest.rows_are ∙ ap (rows_of (run_of system)) stands ∙ sym b.rest.rows_are)
    ∙ ap (λ last. plain_answer system b.rows last a.ending) (a.rest.last_is ∙ ap last_point stands ∙ sym b.rest.last_is)
    ∙ ap (plain_answer system b.rows b.last) (first.1 ∙ sym second.1)
    ∙ sym b.is

rests_same : (system : System) (saved : Saved) (at : Position) → IsWhole system → FitsSaved (planned system) saved at → (one other : Answer)
    → TellsRest system at one → TellsRest system at other → one ≡ other
rests_same system saved at whole fits one other a b =
    plain_same system saved at whole fits one other (as_plain system saved at whole fits one a) (as_plain system saved at whole fits other b)

module _ (text : List ℕ) where
  same_saved : (one other : Saved) → IsSaved text one → IsSaved text other → one ≡ other
  same_saved = (saves_or_breaks text).saved_once

  -- The text after the saved position.
  abbrev Behind : Saved → List ℕ
  Behind = text_behind text

  same_system : (one other : Saved) (system also : System) → SavesIn text one system → SavesIn text other also → system ≡ also
  same_system one other system also a b =
      ((judged_once (Behind other)).one_system system also a.lines b.lines
      (subst (λ s. IsAcceptedAs (Behind s) system a.lines) (same_saved one other a.saves b.saves) a.accepted) b.accepted).0

  never_refused : (saved refusing : Saved) (system : System) (behind rule : ℕ) → SavesIn text saved system → IsSaved text refusing
      → IsRefusedAt (Behind refusing) behind rule → ⊥
  never_refused saved refusing system behind rule in_text saves refused =
      (judged_once (Behind saved)).not_both system in_text.lines behind rule in_text.accepted
      (subst (λ s. IsRefusedAt (Behind s) behind rule) (same_saved refusing saved saves in_text.saves) refused)

  never_fits : (saved other : Saved) (system also : System) (at : Position) → SavesIn text saved system → SavesIn text other also
      → FitsSystem system saved at → ((at : Position) → FitsSystem also other at → ⊥) → ⊥
  never_fits saved other system also at a b fits none =
      none at
      (subst (λ s. FitsSystem also s at) (same_saved saved other a.saves b.saves)
      (subst (λ s. FitsSystem s saved at) (same_system saved other system also a b) fits))

  whole_in : (saved : Saved) (system : System) → SavesIn text saved system → IsWhole system
  whole_in saved system in_text = whole_of (Behind saved) system in_text.lines in_text.accepted

  -- ---- One refusal, or an answer

  abbrev Judged : Type 0
  Judged = ((line : ℕ) × (rule : ℕ) × ResumeRefuses text line rule) ⊎ ((answer : Answer) × AnswersResume text answer)

  by_fit : (saved : Saved) (system : System) → SavesIn text saved system
      → ((at : Position) × FitsSaved (planned system) saved at) ⊎ FitsNone (planned system) saved → Judged
  by_fit saved system in_text (inl (at, fits)) =
      let whole = whole_in saved system in_text in
      let rest = own_rest_there system saved at whole fits in
      inr (rest.0, record { saved = saved; system = system; saves = in_text; at = at; fits = fits_read system whole saved at fits; tells = rest.1 })
  by_fit saved system in_text (inr none) =
      inl (
        1,
        33,
        inr (inr (inr (record {
          saved = saved;
          system = system;
          saves = in_text;
          none = λ at fits. none at (fits_plain system (whole_in saved system in_text) saved at fits);
          at = refl;
          by = refl;
        }))),
      )

  by_text : (saved : Saved) → length text ≤ saved_limit → IsSaved text saved
      → ((system : System) × (lines : List ℕ) × IsAcceptedAs (Behind saved) system lines)
      ⊎ ((line : ℕ) × (rule : ℕ) × IsRefusedAt (Behind saved) line rule) → Judged
  by_text saved within saves (inl (system, lines, accepted)) =
      by_fit saved system (record { within = within; saves = saves; lines = lines; accepted = accepted }) (fits_one_or_none (planned system) saved).some
  by_text saved within saves (inr (behind, rule, refused)) =
      inl (
        lines_before saved + behind,
        rule,
        inr (inr (inl (record { within = within; saved = saved; saves = saves; behind = behind; refused = refused; at = refl }))),
      )

  by_lines : length text ≤ saved_limit → ((saved : Saved) × IsSaved text saved) ⊎ ((number : ℕ) × BreaksAtLine text number) → Judged
  by_lines within (inl (saved, saves)) = by_text saved within saves (judged_once (Behind saved)).judged
  by_lines within (inr (line, breaks)) = inl (line, 32, inr (inl (record { within = within; breaks = breaks; by = refl })))

  by_length : (length text ≤ saved_limit) ⊎ (saved_limit < length text) → Judged
  by_length (inl within) = by_lines within (saves_or_breaks text).some
  by_length (inr long) = inl (1, 2, inl (record { long = long; at = refl; by = refl }))

  -- ---- And only one

  module _ (line rule other third : ℕ) where
    abbrev Same : Type 0
    Same = (line ≡ other) × (rule ≡ third)

    never_long : length text ≤ saved_limit → saved_limit < length text → Same
    never_long within long = absurd (omega (arith, within, long))

    within_in : {l r : ℕ} → SavesNone text l r ⊎ RefusesBehind text l r ⊎ LacksMatch text l r → length text ≤ saved_limit
    within_in (inl none) = none.within
    within_in (inr (inl refuses)) = refuses.within
    within_in (inr (inr lacks)) = lacks.saves.within

    saved_in : {l r : ℕ} → RefusesBehind text l r ⊎ LacksMatch text l r → (saved : Saved) × IsSaved text saved
    saved_in (inl refuses) = (refuses.saved, refuses.saves)
    saved_in (inr lacks) = (lacks.saved, lacks.saves.saves)

    never_breaks : {l r k s : ℕ} → SavesNone text l r → RefusesBehind text k s ⊎ LacksMatch text k s → Same
    never_breaks {l} none others =
        let found = saved_in others in
        absurd ((saves_or_breaks text).not_both found.0 l found.1 none.breaks)

    once_behind : RefusesBehind text line rule ⊎ LacksMatch text line rule → RefusesBehind text other third ⊎ LacksMatch text other third → Same
    once_behind (inl a) (inl b) =
        let same = same_saved a.saved b.saved a.saves b.saves in
        let told =
        (judged_once (Behind b.saved)).one_refusal a.behind rule b.behind third (subst (λ s. IsRefusedAt (Behind s) a.behind rule) same a.refused) b.refused in
        (a.at ∙ ap (λ s. lines_before s + a.behind) same ∙ ap (λ n. lines_before b.saved + n) told.0 ∙ sym b.at, told.1)
    once_behind (inl a) (inr b) = absurd (never_refused b.saved a.saved b.system a.behind rule b.saves a.saves a.refused)
    once_behind (inr a) (inl b) = absurd (never_refused a.saved b.saved a.system b.behind third a.saves b.saves b.refused)
    once_behind (inr a) (inr b) = (a.at ∙ sym b.at, a.by ∙ sym b.by)

    once_in : SavesNone text line rule ⊎ RefusesBehind text line rule ⊎ LacksMatch text line rule
        → SavesNone text other third ⊎ RefusesBehind text other third ⊎ LacksMatch text other third → Same
    once_in (inl a) (inl b) = ((saves_or_breaks text).breaks_once line other a.breaks b.breaks, a.by ∙ sym b.by)
    once_in (inl a) (inr b) = never_breaks a b
    once_in (inr a) (inl b) = never_breaks b a
    once_in (inr a) (inr b) = once_behind a b

    once : ResumeRefuses text line rule → ResumeRefuses text other third → Same
    once (inl a) (inl b) = (a.at ∙ sym b.at, a.by ∙ sym b.by)
    once (inl a) (inr b) = never_long (within_in b) a.long
    once (inr a) (inl b) = never_long (within_in a) b.long
    once (inr a) (inr b) = once_in a b

  never_both : (line rule : ℕ) (answer : Answer) → ResumeRefuses text line rule → AnswersResume text answer → ⊥
  never_both line rule answer (inl a) serves = let within = serves.saves.within in let long = a.long in absurd (omega (arith, within, long))
  never_both line rule answer (inr (inl a)) serves = (saves_or_breaks text).not_both serves.saved line serves.saves.saves a.breaks
  never_both line rule answer (inr (inr (inl a))) serves = never_refused serves.saved a.saved serves.system a.behind rule serves.saves a.saves a.refused
  never_both line rule answer (inr (inr (inr a))) serves =
      never_fits serves.saved a.saved serves.system a.system serves.at serves.saves a.saves serves.fits a.none

  resumed_same : (one other : Answer) → AnswersResume text one → AnswersResume text other → one ≡ other
  resumed_same one other a b =
      let saved = same_saved a.saved b.saved a.saves.saves b.saves.saves in
      let system = same_system a.saved b.saved a.system b.system a.saves b.saves in
      let whole = whole_in b.saved b.system b.saves in
      let fits =
      subst (λ s. FitsSystem b.system s a.at) saved (subst (λ s. FitsSystem s a.saved a.at) system a.fits) in
      let plain = fits_plain b.system whole b.saved b.at b.fits in
      let at = (fits_one_or_none (planned b.system) b.saved).once a.at b.at (fits_plain b.system whole b.saved a.at fits) plain in
      rests_same b.system b.saved b.at whole plain one other
      (subst (λ p. TellsRest b.system p one) at (subst (λ s. TellsRest s a.at one) system a.tells)) b.tells

pub resumes_same : HasNoOther AnswersResume
resumes_same text one other a b = resumed_same text one other a b

pub resume_lawful : IsLawful ResumeRefuses AnswersResume
resume_lawful = record {
  judged = λ text. by_length text (at_most_or_above (length text) saved_limit);
  one_refusal = λ text line by other rule. once text line by other rule;
  not_both = λ text line rule answer. never_both text line rule answer;
  agree = λ text one other a b. agree_as_same one other (resumes_same text one other a b);
  ends = λ text answer serves. is_end serves.tells.ending answer.status (ap (λ (a : Answer). a.status) serves.tells.is);
}
