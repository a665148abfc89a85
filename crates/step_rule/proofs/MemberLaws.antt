-- The steps of members, by their results, lead where the negotiation of a system's components leads.
use Rattle.std.proofs.Common.{◌≡◌, ℕ, ◌+◌, List, [], ◌∷◌, length, map, zip, Option, Some, None, Result, Ok, Err, refl, ap, ap₂, arith}
use Rattle.std.specs.List.{enumerate_from}
use Rattle.fixed_words.specs.declared.types.Fault.{Fault}
use Rattle.step_rule.specs.Steps.{AreAsked, ending_or, ends_redo, redo_result, reply_by, member_step, member_steps, ends_trial, trial_result}
use Rattle.unit_tree.specs.Components.{Moved}
use Rattle.unit_tree.specs.Compositions.{Member}
use Rattle.unit_tree.specs.Negotiation.{least_of, reply_at}
use Rattle.unit_tree.specs.Ports.{first_some}
use Rattle.unit_tree.specs.Successor.{first_told, redo_end_of, step_end_of}

module _ (t h : ℕ) where
  -- ---- One member

  trial_end_is : (instance : ℕ) (member : Member) (result : Option (Result Moved Fault))
      → ends_trial (instance, member_step t h (member, result)) ≡ step_end_of (instance, result)
  trial_end_is instance member None = refl
  trial_end_is instance member (Some (Ok moved)) = refl
  trial_end_is instance member (Some (Err fault)) = refl

  redo_end_is : (instance : ℕ) (member : Member) (result : Option (Result Moved Fault))
      → ends_redo (instance, member_step t h (member, result)) ≡ redo_end_of t h (instance, (member, result))
  redo_end_is instance member None = refl
  redo_end_is instance member (Some (Ok moved)) = refl
  redo_end_is instance member (Some (Err fault)) = refl

  reply_is : (member : Member) (result : Option (Result Moved Fault)) → reply_by t h (member_step t h (member, result)) ≡ reply_at t h (member, result)
  reply_is member None = refl
  reply_is member (Some (Ok moved)) = refl
  reply_is member (Some (Err fault)) = refl

  -- ---- All members

  trial_ends_are : (from : ℕ) (members : List Member) (results : List (Option (Result Moved Fault))) → length results ≡ length members
      → map ends_trial (enumerate_from from (member_steps t h members results)) ≡ map step_end_of (enumerate_from from results)
  trial_ends_are from [] [] long = refl
  trial_ends_are from [] (result ∷ results) long = absurd (omega (arith, long))
  trial_ends_are from (member ∷ members) [] long = absurd (omega (arith, long))
  trial_ends_are from (member ∷ members) (result ∷ results) long =
      ap₂ (λ end ends. end ∷ ends) (trial_end_is from member result) (trial_ends_are (from + 1) members results (omega (arith, long)))

  redo_ends_are : (from : ℕ) (pairs : List (Member × Option (Result Moved Fault)))
      → map ends_redo (enumerate_from from (map (member_step t h) pairs)) ≡ map (redo_end_of t h) (enumerate_from from pairs)
  redo_ends_are from [] = refl
  redo_ends_are from (pair ∷ pairs) = ap₂ (λ end ends. end ∷ ends) (redo_end_is from pair.0 pair.1) (redo_ends_are (from + 1) pairs)

  replies_are : (pairs : List (Member × Option (Result Moved Fault))) → map (reply_by t h) (map (member_step t h) pairs) ≡ map (reply_at t h) pairs
  replies_are [] = refl
  replies_are (pair ∷ pairs) = ap₂ (λ reply replies. reply ∷ replies) (reply_is pair.0 pair.1) (replies_are pairs)

  -- What follows from a trial, by the results of the members' steps.
  pub trial_by_results : (members : List Member) (results : List (Option (Result Moved Fault))) → length results ≡ length members
      → trial_result t h (member_steps t h members results)
      ≡ ending_or (first_told step_end_of results) (least_of h (map (reply_at t h) (zip members results)))
  trial_by_results members results long =
      ap₂ (λ ends replies. ending_or (first_some ends) (least_of h replies)) (trial_ends_are 0 members results long) (replies_are (zip members results))

  -- How a redo ends the run, by the results of the members' steps.
  pub redo_by_results : (members : List Member) (results : List (Option (Result Moved Fault)))
      → redo_result (member_steps t h members results) ≡ first_told (redo_end_of t h) (zip members results)
  redo_by_results members results = ap first_some (redo_ends_are 0 (zip members results))

  -- A member is asked for its local step.
  pub are_asked : (pairs : List (Member × Option (Result Moved Fault))) → AreAsked t h (map (member_step t h) pairs)
  are_asked [] = tt
  are_asked (pair ∷ pairs) = (refl, are_asked pairs)
