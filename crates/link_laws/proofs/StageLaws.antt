-- The stage of a row is the right one: a row that lacks nothing goes where the successor leads.
use Rattle.fixed_words.specs.declared.types.Fault.{Fault}
use Rattle.link_laws.proofs.BoardLaws.{bare, bare_ends, bare_redos, bare_replies, covered, front_ends, if_is, known_whole, limits_are, maxes_are, members_in}
use Rattle.link_laws.proofs.BoardLaws.{nothing, over_is, rest_ends, steps_are, steps_covered, steps_known, whole_is, words_end}
use Rattle.link_laws.specs.Boards.{Agrees, Board, IsKnown, IsSo, LacksNone, asked_of, before_limits, before_redo, before_trial, board_of, said_where, seen_of}
use Rattle.link_laws.specs.Laws.{IsRightStage}
use Rattle.link_laws.specs.Making.{name_of}
use Rattle.link_laws.specs.Stages.{are_answered, least_in, limit_in, max_by, over_or, stage_by, stage_of, stage_of_limits, stage_of_redo, stage_of_trial}
use Rattle.link_laws.specs.Stages.{stage_on, steps_in, word_end}
use Rattle.link_laws.specs.declared.stage.Stage.{Stage}
use Rattle.link_laws.specs.declared.stage.Stage.TheVariants.{Limits, On, Over, Redo, Trial, Words}
use Rattle.step_rule.proofs.AlongLaws.{least_agreed}
use Rattle.std.proofs.Common.{◌≤◌, arith, Result, ap, ap₂, refl, subst, sym, true≢false, ◌∙◌}
use Rattle.std.proofs.lemmas.Slice.Zip.{firsts-zip}
use Rattle.std.specs.List.{AllZip, filter_map, list_all}
use Rattle.std.specs.Option.{option_map}
use Rattle.std.specs.Prelude.{Bool, List, None, Option, Some, [], false, if◌then◌else◌, is_none, is_some, length, map, nat_lt, true, zip, ℕ, ◌&&◌, ◌++◌, ◌==◌}
use Rattle.std.specs.Prelude.{◌∷◌, ◌≡◌}
use Rattle.unit_tree.specs.Components.{Moved}
use Rattle.unit_tree.specs.Compositions.{Composition}
use Rattle.unit_tree.specs.Negotiation.{agreed_step, least_of, max_at, proposal_of, reply_at}
use Rattle.unit_tree.specs.Ports.{Outlet, first_some, given_at, outlets, port_fault}
use Rattle.unit_tree.specs.Successor.{after, agreed, ends, ends_or, first_told, is_redone, max_end, max_end_of, proposed, redo_end, redo_end_by, redo_end_of}
use Rattle.unit_tree.specs.Successor.{replies_to, row_end, standings, step_end_of, steps_by, stop_end, successor, trial, trial_end, when, zero_end}
use Rattle.unit_tree.specs.Trace.{Stand}
use Rattle.unit_tree.specs.declared.ending.Ending.{Ending}
use Rattle.unit_tree.specs.declared.ending.Ending.TheVariants.{ZeroBudget}

module _ (run : Composition) (stand : Stand) (known : Board) (long : length stand.at.states ≡ length run.members)
    (at_most : agreed run stand.at stand.ports ≤ proposed run stand.at stand.ports) (so : Agrees (board_of run stand) known) where
  abbrev Right : Stage → Type 0
  Right stage = IsRightStage run stand known stage

  abbrev outs : List Outlet
  outs = outlets run stand.at.states

  abbrev fault : Option Ending
  fault = port_fault run stand.at.states stand.ports

  abbrev three : List (Option Ending)
  three = fault ∷ stop_end run stand.at ∷ row_end run stand.at ∷ []

  abbrev rest : List (Option Ending)
  rest = trial_end run stand.at stand.ports ∷ redo_end run stand.at stand.ports ∷ zero_end run stand.at stand.ports ∷ []

  abbrev Ends : Ending → Type 0
  Ends ending = successor run stand.at stand.ports ≡ ends ending

  abbrev following : Option Ending → Type 0
  following found = successor run stand.at stand.ports ≡ ends_or found (after run stand.at stand.ports)

  members_are : members_in (standings run stand.at) ≡ run.members
  members_are = firsts-zip run.members stand.at.states long

  -- ---- Which facts there are

  unasked : before_limits run stand ≡ false → AllZip IsKnown (board_of run stand).limits known.limits
  unasked none = nothing (λ standing. when (before_limits run stand) (asked_of (max_at stand.at.point.t stand.ports standing)))
      (standings run stand.at) known.limits (λ standing. ap (λ there. when there (asked_of (max_at stand.at.point.t stand.ports standing))) none) so.limits

  untried : before_trial run stand ≡ false → AllZip IsKnown (board_of run stand).replies known.replies
  untried none = nothing (said_where (before_trial run stand)) (trial run stand.at stand.ports) known.replies
      (λ step. ap (λ there. said_where there step) none) so.replies

  unredone : before_redo run stand ≡ false → AllZip IsKnown (board_of run stand).redos known.redos
  unredone none = nothing (said_where (before_redo run stand)) (steps_by run stand.at stand.ports (agreed run stand.at stand.ports)) known.redos
      (λ step. ap (λ there. said_where there step) none) so.redos

  no_trial : before_limits run stand ≡ false → before_trial run stand ≡ false
  no_trial none = ap (λ there. there && is_none (max_end run stand.at stand.ports)) none

  no_redo : before_trial run stand ≡ false → before_redo run stand ≡ false
  no_redo none = ap (λ there. there && (is_none (trial_end run stand.at stand.ports) && is_redone run stand.at stand.ports)) none

  -- ---- The end of the row, where all is known

  abbrev spent : Bool
  spent = (agreed run stand.at stand.ports == 0) && (stand.at.point.n == run.zero_budget)

  finished : LacksNone (board_of run stand) known → first_some
      (three ++ max_end run stand.at stand.ports ∷ trial_end run stand.at stand.ports ∷ redo_end run stand.at stand.ports ∷ []) ≡ None
      → Right (stage_on run stand.at (agreed run stand.at stand.ports))
  finished none before =
      if_is Right spent (Over ZeroBudget) (On (agreed run stand.at stand.ports))
      (λ is. (none, ends_by (Some ZeroBudget) (ap (λ test. when test ZeroBudget) is)))
      (λ is. (none, refl, ends_by None (ap (λ test. when test ZeroBudget) is)))
    where
      single : (found : Option Ending) → first_some (found ∷ []) ≡ found
      single None = refl
      single (Some ending) = refl

      ends_by : (found : Option Ending) → zero_end run stand.at stand.ports ≡ found → following found
      ends_by found is =
          ap (λ end. ends_or end (after run stand.at stand.ports))
          (rest_ends (three ++ max_end run stand.at stand.ports ∷ trial_end run stand.at stand.ports ∷ redo_end run stand.at stand.ports ∷ [])
          (zero_end run stand.at stand.ports ∷ []) before ∙ single (zero_end run stand.at stand.ports) ∙ is)

  module _ (words_whole : list_all is_some known.words ≡ true) where
    words_are : known.words ≡ map (λ outlet. Some (seen_of (given_at stand.ports outlet))) outs
    words_are = whole_is (λ outlet. seen_of (given_at stand.ports outlet)) outs known.words so.words words_whole

    words_there : AllZip IsKnown (board_of run stand).words known.words
    words_there = covered (λ outlet. seen_of (given_at stand.ports outlet)) outs known.words words_are

    fault_is : first_some (map word_end (zip (map name_of outs) known.words)) ≡ fault
    fault_is = ap (λ words. first_some (map word_end (zip (map name_of outs) words))) words_are ∙ words_end stand.ports outs

    three_are : first_some (first_some (map word_end (zip
        (map name_of outs) known.words)) ∷ stop_end run stand.at ∷ row_end run stand.at ∷ []) ≡ first_some three
    three_are = ap (λ end. first_some (end ∷ stop_end run stand.at ∷ row_end run stand.at ∷ [])) fault_is

    at_first : (ending : Ending) → first_some three ≡ Some ending → Right (Over ending)
    at_first ending is =
        let none : before_limits run stand ≡ false = ap is_none is in (
          record { words = words_there; limits = unasked none; replies = untried (no_trial none); redos = unredone (no_redo (no_trial none)) },
          ap (λ end. ends_or end (after run stand.at stand.ports)) (front_ends three (max_end run stand.at stand.ports ∷ rest) ending is),
        )

    module _ (first_none : first_some three ≡ None) where
      asks : before_limits run stand ≡ true
      asks = ap is_none first_none

      limits_so : AllZip IsSo (map (λ standing. Some (asked_of (max_at stand.at.point.t stand.ports standing))) (standings run stand.at)) known.limits
      limits_so = subst (λ there. AllZip IsSo (map (λ standing. when there (asked_of (max_at stand.at.point.t stand.ports standing)))
          (standings run stand.at)) known.limits) asks so.limits

      limits_known : AllZip IsKnown (board_of run stand).limits known.limits
          → AllZip IsKnown (map (λ standing. Some (asked_of (max_at stand.at.point.t stand.ports standing))) (standings run stand.at)) known.limits
      limits_known = subst (λ there. AllZip IsKnown (map (λ standing. when there (asked_of (max_at stand.at.point.t stand.ports standing)))
          (standings run stand.at)) known.limits) asks

      known_limits : AllZip IsKnown (map (λ standing. Some (asked_of (max_at stand.at.point.t stand.ports standing))) (standings run stand.at)) known.limits
          → AllZip IsKnown (board_of run stand).limits known.limits
      known_limits = subst (λ there. AllZip IsKnown (map (λ standing. when there (asked_of (max_at stand.at.point.t stand.ports standing)))
          (standings run stand.at)) known.limits) (sym asks)

      module _ (limits_whole : list_all is_some known.limits ≡ true) where
        limits_were : known.limits ≡ map (λ standing. Some (asked_of (max_at stand.at.point.t stand.ports standing))) (standings run stand.at)
        limits_were = whole_is (λ standing. asked_of (max_at stand.at.point.t stand.ports standing))
            (standings run stand.at) known.limits limits_so limits_whole

        limits_there : AllZip IsKnown (board_of run stand).limits known.limits
        limits_there = known_limits (covered (λ standing. asked_of (max_at stand.at.point.t stand.ports standing))
            (standings run stand.at) known.limits limits_were)

        max_is : first_told max_end_of (map max_by known.limits) ≡ max_end run stand.at stand.ports
        max_is = ap (λ limits. first_told max_end_of (map max_by limits)) limits_were
            ∙ ap (first_told max_end_of) (maxes_are stand.at.point.t stand.ports (standings run stand.at))

        abbrev proposed_in : ℕ
        proposed_in = proposal_of run.stop run.longest stand.at.point.t (filter_map (limit_in stand.at.point.t) (zip run.members known.limits))

        pub proposed_is : proposed_in ≡ proposed run stand.at stand.ports
        proposed_is =
            ap (proposal_of run.stop run.longest stand.at.point.t)
            (ap₂ (λ members limits. filter_map (limit_in stand.at.point.t) (zip members limits)) (sym members_are) limits_were
            ∙ limits_are stand.at.point.t stand.ports (standings run stand.at))

        at_max : (ending : Ending) → max_end run stand.at stand.ports ≡ Some ending → Right (Over ending)
        at_max ending is =
            let none : before_trial run stand ≡ false = ap₂ (λ there end. there && is_none end) asks is in (
              record { words = words_there; limits = limits_there; replies = untried none; redos = unredone (no_redo none) },
              ap (λ end. ends_or end (after run stand.at stand.ports))
                  (rest_ends three (max_end run stand.at stand.ports ∷ rest) first_none
                  ∙ front_ends (max_end run stand.at stand.ports ∷ []) rest ending (ap (λ end. first_some (end ∷ [])) is)),
            )

        module _ (max_none : max_end run stand.at stand.ports ≡ None) where
          tries : before_trial run stand ≡ true
          tries = ap₂ (λ there end. there && is_none end) asks max_none

          four_none : first_some (three ++ max_end run stand.at stand.ports ∷ []) ≡ None
          four_none = rest_ends three (max_end run stand.at stand.ports ∷ []) first_none ∙ ap (λ end. first_some (end ∷ [])) max_none

          abbrev t : ℕ
          t = stand.at.point.t

          abbrev h : ℕ
          h = proposed run stand.at stand.ports

          replies_so : AllZip IsSo (map (said_where true) (trial run stand.at stand.ports)) known.replies
          replies_so = subst (λ there. AllZip IsSo (map (said_where there) (trial run stand.at stand.ports)) known.replies) tries so.replies

          steps_told : are_answered t h run.members known.replies ≡ true
              → steps_in t h run.members known.replies ≡ map (option_map bare) (trial run stand.at stand.ports)
          steps_told told =
              ap (λ members. steps_in t h members known.replies) (sym members_are)
              ∙ steps_are t h stand.ports (standings run stand.at) known.replies replies_so
              (subst (λ members. are_answered t h members known.replies ≡ true) (sym members_are) told)

          replies_there : are_answered t h run.members known.replies ≡ true → AllZip IsKnown (board_of run stand).replies known.replies
          replies_there told =
              subst (λ there. AllZip IsKnown (map (said_where there) (trial run stand.at stand.ports)) known.replies) (sym tries)
              (steps_covered t h stand.ports (standings run stand.at) known.replies replies_so
              (subst (λ members. are_answered t h members known.replies ≡ true) (sym members_are) told))

          replies_lack : are_answered t h run.members known.replies ≡ false → LacksNone (board_of run stand) known → ⊥
          replies_lack lacks none =
              let told = steps_known t h stand.ports (standings run stand.at) known.replies
              (subst (λ there. AllZip IsKnown (map (said_where there) (trial run stand.at stand.ports)) known.replies) tries none.replies) in
              true≢false (sym (subst (λ members. are_answered t h members known.replies ≡ true) members_are told) ∙ lacks)

          trial_is : are_answered t h run.members known.replies ≡ true
              → first_told step_end_of (steps_in t h run.members known.replies) ≡ trial_end run stand.at stand.ports
          trial_is told = ap (first_told step_end_of) (steps_told told) ∙ bare_ends 0 (trial run stand.at stand.ports)

          least_is : are_answered t h run.members known.replies ≡ true → least_in run stand.at known.replies h ≡ agreed run stand.at stand.ports
          least_is told =
              ap (least_of h) (ap (λ steps. map (reply_at t h) (zip run.members steps)) (steps_told told)
              ∙ bare_replies t h run.members (trial run stand.at stand.ports))
              ∙ least_agreed h (replies_to run stand.at stand.ports h) at_most

          module _ (replied : are_answered t h run.members known.replies ≡ true) where
            at_trial : (ending : Ending) → trial_end run stand.at stand.ports ≡ Some ending → Right (Over ending)
            at_trial ending is =
                let none : before_redo run stand ≡ false = ap₂ (λ there end. there && (is_none end && is_redone run stand.at stand.ports)) tries is in (
                  record { words = words_there; limits = limits_there; replies = replies_there replied; redos = unredone none },
                  ap (λ end. ends_or end (after run stand.at stand.ports))
                      (rest_ends (three ++ max_end run stand.at stand.ports ∷ []) rest four_none
                      ∙ front_ends (trial_end run stand.at stand.ports ∷ [])
                      (redo_end run stand.at stand.ports ∷ zero_end run stand.at stand.ports ∷ []) ending (ap (λ end. first_some (end ∷ [])) is)),
                )

            module _ (trial_none : trial_end run stand.at stand.ports ≡ None) where
              five_none : first_some (three ++ max_end run stand.at stand.ports ∷ trial_end run stand.at stand.ports ∷ []) ≡ None
              five_none = rest_ends (three ++ max_end run stand.at stand.ports ∷ []) (trial_end run stand.at stand.ports ∷ []) four_none
                  ∙ ap (λ end. first_some (end ∷ [])) trial_none

              abbrev again : ℕ
              again = agreed run stand.at stand.ports

              abbrev redone : List (Option (Result Moved Fault))
              redone = steps_by run stand.at stand.ports again

              not_redone : is_redone run stand.at stand.ports ≡ false → Right (stage_on run stand.at again)
              not_redone whole =
                  let none : before_redo run stand ≡ false = ap₂ (λ there end. there && (is_none end && is_redone run stand.at stand.ports)) tries trial_none
                  ∙ whole in
                  let redo_none : redo_end run stand.at stand.ports ≡ None =
                  ap (λ test. if test then redo_end_by run stand.at stand.ports again else None) whole in
                  finished (record { words = words_there; limits = limits_there; replies = replies_there replied; redos = unredone none })
                  (rest_ends (three ++ max_end run stand.at stand.ports ∷ trial_end run stand.at stand.ports ∷ [])
                  (redo_end run stand.at stand.ports ∷ []) five_none ∙ ap (λ end. first_some (end ∷ [])) redo_none)

              module _ (shorter : is_redone run stand.at stand.ports ≡ true) where
                redoes : before_redo run stand ≡ true
                redoes = ap₂ (λ there end. there && (is_none end && is_redone run stand.at stand.ports)) tries trial_none ∙ shorter

                redo_is : redo_end run stand.at stand.ports ≡ redo_end_by run stand.at stand.ports again
                redo_is = ap (λ test. if test then redo_end_by run stand.at stand.ports again else None) shorter

                redos_so : AllZip IsSo (map (said_where true) redone) known.redos
                redos_so = subst (λ there. AllZip IsSo (map (said_where there) redone) known.redos) redoes so.redos

                redos_lack : are_answered t again run.members known.redos ≡ false → LacksNone (board_of run stand) known → ⊥
                redos_lack lacks none =
                    let told = steps_known t again stand.ports (standings run stand.at) known.redos
                    (subst (λ there. AllZip IsKnown (map (said_where there) redone) known.redos) redoes none.redos) in
                    true≢false (sym (subst (λ members. are_answered t again members known.redos ≡ true) members_are told) ∙ lacks)

                module _ (told : are_answered t again run.members known.redos ≡ true) where
                  steps_anew : steps_in t again run.members known.redos ≡ map (option_map bare) redone
                  steps_anew =
                      ap (λ members. steps_in t again members known.redos) (sym members_are)
                      ∙ steps_are t again stand.ports (standings run stand.at) known.redos redos_so
                      (subst (λ members. are_answered t again members known.redos ≡ true) (sym members_are) told)

                  redos_there : AllZip IsKnown (board_of run stand).redos known.redos
                  redos_there =
                      subst (λ there. AllZip IsKnown (map (said_where there) redone) known.redos) (sym redoes)
                      (steps_covered t again stand.ports (standings run stand.at) known.redos redos_so
                      (subst (λ members. are_answered t again members known.redos ≡ true) (sym members_are) told))

                  redo_told : first_told (redo_end_of t again) (zip run.members (steps_in t again run.members known.redos)) ≡ redo_end run stand.at stand.ports
                  redo_told = ap (λ steps. first_told (redo_end_of t again) (zip run.members steps)) steps_anew ∙ bare_redos t again 0 run.members redone
                      ∙ sym redo_is

                  all_there : LacksNone (board_of run stand) known
                  all_there = record { words = words_there; limits = limits_there; replies = replies_there replied; redos = redos_there }

                  at_redo : (ending : Ending) → redo_end run stand.at stand.ports ≡ Some ending → Right (Over ending)
                  at_redo ending is = (
                    all_there,
                    ap (λ end. ends_or end (after run stand.at stand.ports))
                        (rest_ends (three ++ max_end run stand.at stand.ports ∷ trial_end run stand.at stand.ports ∷ [])
                        (redo_end run stand.at stand.ports ∷ zero_end run stand.at stand.ports ∷ []) five_none
                        ∙ front_ends (redo_end run stand.at stand.ports ∷ []) (zero_end run stand.at stand.ports ∷ []) ending
                        (ap (λ end. first_some (end ∷ [])) is)),
                  )

                  past_redo : redo_end run stand.at stand.ports ≡ None → Right (stage_on run stand.at again)
                  past_redo is =
                      finished all_there
                      (rest_ends (three ++ max_end run stand.at stand.ports ∷ trial_end run stand.at stand.ports ∷ [])
                      (redo_end run stand.at stand.ports ∷ []) five_none ∙ ap (λ end. first_some (end ∷ [])) is)

                redo_right : Right (stage_of_redo run stand.at known.redos again)
                redo_right =
                    if_is Right (are_answered t again run.members known.redos)
                    (over_or (first_told (redo_end_of t again) (zip run.members (steps_in t again run.members known.redos))) (stage_on run stand.at again))
                    (Redo again)
                    (λ told. over_is Right (first_told (redo_end_of t again) (zip run.members (steps_in t again run.members known.redos)))
                    (stage_on run stand.at again)
                    (λ ending is. at_redo told ending (sym (redo_told told) ∙ is)) (λ is. past_redo told (sym (redo_told told) ∙ is)))
                    (λ lacks. (redos_lack lacks, words_there, redoes, refl))

              by_agreed : Right (stage_by run stand.at known.redos h again)
              by_agreed = if_is Right (nat_lt again h) (stage_of_redo run stand.at known.redos again) (stage_on run stand.at again) redo_right not_redone

              by_least : Right (stage_by run stand.at known.redos h (least_in run stand.at known.replies h))
              by_least = subst (λ least. Right (stage_by run stand.at known.redos h least)) (sym (least_is replied)) by_agreed

          trial_right : Right (stage_of_trial run stand.at known.replies known.redos h)
          trial_right =
              if_is Right (are_answered t h run.members known.replies)
              (over_or (first_told step_end_of (steps_in t h run.members known.replies))
              (stage_by run stand.at known.redos h (least_in run stand.at known.replies h))) (Trial h)
              (λ told. over_is Right (first_told step_end_of (steps_in t h run.members known.replies))
              (stage_by run stand.at known.redos h (least_in run stand.at known.replies h))
              (λ ending is. at_trial told ending (sym (trial_is told) ∙ is)) (λ is. by_least told (sym (trial_is told) ∙ is)))
              (λ lacks. (replies_lack lacks, words_there, tries, refl))

        tried : max_end run stand.at stand.ports ≡ None → Right (stage_of_trial run stand.at known.replies known.redos proposed_in)
        tried none = subst (λ step. Right (stage_of_trial run stand.at known.replies known.redos step)) (sym proposed_is) (trial_right none)

      limits_right : Right (stage_of_limits run stand.at known)
      limits_right =
          if_is Right (list_all is_some known.limits)
          (over_or (first_told max_end_of (map max_by known.limits))
          (stage_of_trial run stand.at known.replies known.redos
          (proposal_of run.stop run.longest stand.at.point.t (filter_map (limit_in stand.at.point.t) (zip run.members known.limits))))) Limits
          (λ whole. over_is Right (first_told max_end_of (map max_by known.limits))
          (stage_of_trial run stand.at known.replies known.redos
          (proposal_of run.stop run.longest stand.at.point.t (filter_map (limit_in stand.at.point.t) (zip run.members known.limits))))
          (λ ending is. at_max whole ending (sym (max_is whole) ∙ is)) (λ is. tried whole (sym (max_is whole) ∙ is)))
          (λ lacks. (
            (λ none. true≢false (sym (known_whole (λ standing. asked_of (max_at stand.at.point.t stand.ports standing))
                (standings run stand.at) known.limits (limits_known none.limits)) ∙ lacks)),
            words_there,
            asks,
          ))

  pub stage_is_right : Right (stage_of run (map name_of outs) stand.at known)
  stage_is_right =
      if_is Right (list_all is_some known.words)
      (over_or (first_some (first_some (map word_end (zip (map name_of outs) known.words)) ∷ stop_end run stand.at ∷ row_end run stand.at ∷ []))
      (stage_of_limits run stand.at known)) Words
      (λ whole. over_is Right (first_some (first_some (map word_end (zip (map name_of outs) known.words)) ∷ stop_end run stand.at ∷ row_end run stand.at ∷ []))
      (stage_of_limits run stand.at known)
      (λ ending is. at_first whole ending (sym (three_are whole) ∙ is)) (λ is. limits_right whole (sym (three_are whole) ∙ is)))
      (λ lacks none. true≢false (sym (known_whole (λ outlet. seen_of (given_at stand.ports outlet)) outs known.words none.words) ∙ lacks))
