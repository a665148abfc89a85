-- A position fits a system as it is written exactly where it fits its plain form.
use Rattle.std.proofs.Common.{◌≡◌, ℤ, ◌<◌, ◌≤◌, List, [], ◌∷◌, map, refl, subst, sym}
use Rattle.std.specs.List.{AllZip, flat_map}
use Rattle.event_runs.specs.EventPorts.{EventMember}
use Rattle.event_runs.specs.EventRuns.{event_members_of, event_run_of}
use Rattle.event_runs.specs.Laws.{IsPlainRun}
use Rattle.event_runs.specs.Offers.{Pace}
use Rattle.event_runs.specs.Readings.{pace_of, plain_member, shape_of}
use Rattle.event_runs.proofs.SystemTraces.{system_pace, system_plain}
use Rattle.save_point.specs.Saving.{FitsSaved}
use Rattle.save_point.specs.declared.reading.Saved.{Saved}
use Rattle.unit_tree.specs.Compositions.{Member, run_of}
use Rattle.unit_tree.specs.Successor.{Position}
use Rattle.unit_tree.specs.Trace.{AreWordsOf}
use Rattle.unit_tree.specs.declared.system.System.{System}
use Rattle.cosim_answers.specs.Accepted.{planned}
use Rattle.cosim_answers.specs.Laws.{SavedPositionsAreRead}
use Rattle.cosim_answers.specs.SavedAnswers.{FitsSystem}
use Rattle.cosim_answers.proofs.TraceLaws.{IsWhole}

-- The words of states are those of members and of their plain forms alike, which have the same states.
module _ (plain : EventMember → Member) (same : (one : EventMember) → (plain one).component.unit.states ≡ one.member.component.unit.states) where
  abbrev Own : List EventMember → List (List ℤ) → Type 0
  Own = AllZip (λ one state. AreWordsOf one.member.component.unit.states state)

  abbrev Plain : List Member → List (List ℤ) → Type 0
  Plain = AllZip (λ member state. AreWordsOf member.component.unit.states state)

  words_read : (members : List EventMember) (states : List (List ℤ)) → Plain (map plain members) states → Own members states
  words_read [] [] all = tt
  words_read [] (state ∷ states) all = absurd all
  words_read (one ∷ members) [] all = absurd all
  words_read (one ∷ members) (state ∷ states) all = (
    subst (λ declared. AreWordsOf declared state) (same one) all.0,
    words_read members states all.1,
  )

  words_plain : (members : List EventMember) (states : List (List ℤ)) → Own members states → Plain (map plain members) states
  words_plain [] [] all = tt
  words_plain [] (state ∷ states) all = absurd all
  words_plain (one ∷ members) [] all = absurd all
  words_plain (one ∷ members) (state ∷ states) all = (
    subst (λ declared. AreWordsOf declared state) (sym (same one)) all.0,
    words_plain members states all.1,
  )

module _ (system : System) (whole : IsWhole system) (saved : Saved) (at : Position) where
  plain : IsPlainRun (event_members_of system) (run_of system)
  plain = system_plain system whole.ranged whole.well_formed whole.ordered

  abbrev own_plain : EventMember → Member
  own_plain = plain_member (flat_map shape_of (event_members_of system))

  same_pace : pace_of (run_of system) ≡ (event_run_of system).pace
  same_pace = system_pace system whole.ranged whole.well_formed whole.ordered

  pub fits_read : FitsSaved (planned system) saved at → FitsSystem system saved at
  fits_read fits = record {
    number = fits.position.number;
    there = fits.position.there;
    states = fits.position.states;
    names_are = fits.names_are;
    counts_are = fits.counts_are;
    has_words = words_read own_plain (λ one. refl) (event_members_of system) at.states
        (subst (λ members. AllZip (λ member state. AreWordsOf member.component.unit.states state) members at.states) plain.members_are fits.position.has_words);
    stop = subst (λ (pace : Pace). at.point.t ≤ pace.stop) same_pace fits.position.in_bounds.stop;
    zeros = subst (λ (pace : Pace). at.point.n ≤ pace.zero_budget) same_pace fits.position.in_bounds.zeros;
    rows = subst (λ (pace : Pace). at.number < pace.row_budget) same_pace fits.position.in_rows;
  }

  pub fits_plain : FitsSystem system saved at → FitsSaved (planned system) saved at
  fits_plain fits = record {
    position = record {
      number = fits.number;
      there = fits.there;
      states = fits.states;
      has_words = subst (λ members. AllZip (λ member state. AreWordsOf member.component.unit.states state) members at.states) (sym plain.members_are)
          (words_plain own_plain (λ one. refl) (event_members_of system) at.states fits.has_words);
      in_bounds = record {
        stop = subst (λ (pace : Pace). at.point.t ≤ pace.stop) (sym same_pace) fits.stop;
        zeros = subst (λ (pace : Pace). at.point.n ≤ pace.zero_budget) (sym same_pace) fits.zeros;
      };
      in_rows = subst (λ (pace : Pace). at.number < pace.row_budget) (sym same_pace) fits.rows;
    };
    names_are = fits.names_are;
    counts_are = fits.counts_are;
  }

pub saved_positions_are_read : SavedPositionsAreRead
saved_positions_are_read system ranged well_formed ordered saved at =
    let whole : IsWhole system = record { ranged = ranged; well_formed = well_formed; ordered = ordered } in
    (fits_plain system whole saved at, fits_read system whole saved at)
