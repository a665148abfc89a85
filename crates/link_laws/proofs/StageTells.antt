-- What a stage says of what is known: which items are missing, and which come before them.
use Rattle.link_laws.proofs.BoardLaws.{if_is, over_is}
use Rattle.link_laws.specs.Boards.{Board}
use Rattle.link_laws.specs.Stages.{are_answered, least_in, limit_in, max_by, over_or, stage_by, stage_of, stage_of_limits, stage_of_redo, stage_of_trial}
use Rattle.link_laws.specs.Stages.{stage_on, steps_in, word_end}
use Rattle.link_laws.specs.declared.stage.Stage.{Stage}
use Rattle.link_laws.specs.declared.stage.Stage.TheVariants.{Limits, On, Over, Redo, Trial, Words}
use Rattle.std.specs.List.{filter_map, list_all}
use Rattle.std.specs.Prelude.{[], false, is_some, map, nat_lt, true, zip, ℕ, ⊤, ◌&&◌, List, ◌==◌, ◌∷◌, ◌≡◌}
use Rattle.unit_tree.specs.Compositions.{Composition}
use Rattle.unit_tree.specs.Negotiation.{proposal_of}
use Rattle.unit_tree.specs.Ports.{first_some}
use Rattle.unit_tree.specs.Successor.{Position, first_told, max_end_of, redo_end_of, row_end, step_end_of, stop_end}
use Rattle.unit_tree.specs.declared.ending.Ending.TheVariants.{ZeroBudget}

module _ (run : Composition) (at : Position) (known : Board) where
  abbrev pub proposal : ℕ
  proposal = proposal_of run.stop run.longest at.point.t (filter_map (limit_in at.point.t) (zip run.members known.limits))

  -- Which items are missing, and which come before them.
  abbrev pub Tells : Stage → Type 0
  Tells Words = list_all is_some known.words ≡ false
  Tells Limits = list_all is_some known.limits ≡ false
  Tells (Trial h) = (list_all is_some known.limits ≡ true) × (are_answered at.point.t h run.members known.replies ≡ false)
  Tells (Redo h) = (list_all is_some known.limits ≡ true) × (are_answered at.point.t proposal run.members known.replies ≡ true)
  Tells (Over ending) = ⊤
  Tells (On h) = ⊤

  on_tells : (h : ℕ) → Tells (stage_on run at h)
  on_tells h = if_is Tells ((h == 0) && (at.point.n == run.zero_budget)) (Over ZeroBudget) (On h) (λ is. tt) (λ is. tt)

  module _ (limits : list_all is_some known.limits ≡ true) where
    redo_tells : (h : ℕ) → are_answered at.point.t proposal run.members known.replies ≡ true → Tells (stage_of_redo run at known.redos h)
    redo_tells h told =
        if_is Tells (are_answered at.point.t h run.members known.redos)
        (over_or (first_told (redo_end_of at.point.t h) (zip run.members (steps_in at.point.t h run.members known.redos))) (stage_on run at h)) (Redo h)
        (λ is. over_is Tells (first_told (redo_end_of at.point.t h) (zip run.members (steps_in at.point.t h run.members known.redos))) (stage_on run at h)
        (λ ending found. tt) (λ none. on_tells h))
        (λ is. (limits, told))

    by_tells : (least : ℕ) → are_answered at.point.t proposal run.members known.replies ≡ true → Tells (stage_by run at known.redos proposal least)
    by_tells least told = if_is Tells (nat_lt least proposal) (stage_of_redo run at known.redos least) (stage_on run at least)
        (λ is. redo_tells least told) (λ is. on_tells least)

    trial_tells : Tells (stage_of_trial run at known.replies known.redos proposal)
    trial_tells =
        if_is Tells (are_answered at.point.t proposal run.members known.replies)
        (over_or (first_told step_end_of (steps_in at.point.t proposal run.members known.replies))
        (stage_by run at known.redos proposal (least_in run at known.replies proposal))) (Trial proposal)
        (λ told. over_is Tells (first_told step_end_of (steps_in at.point.t proposal run.members known.replies))
        (stage_by run at known.redos proposal (least_in run at known.replies proposal))
        (λ ending found. tt) (λ none. by_tells (least_in run at known.replies proposal) told))
        (λ is. (limits, is))

  limits_tell : Tells (stage_of_limits run at known)
  limits_tell =
      if_is Tells (list_all is_some known.limits)
      (over_or (first_told max_end_of (map max_by known.limits)) (stage_of_trial run at known.replies known.redos proposal)) Limits
      (λ limits. over_is Tells (first_told max_end_of (map max_by known.limits)) (stage_of_trial run at known.replies known.redos proposal)
      (λ ending found. tt) (λ none. trial_tells limits))
      (λ is. is)

  pub stage_tells : (names : List (ℕ × ℕ)) → Tells (stage_of run names at known)
  stage_tells names =
      if_is Tells (list_all is_some known.words)
      (over_or (first_some (first_some (map word_end (zip names known.words)) ∷ stop_end run at ∷ row_end run at ∷ [])) (stage_of_limits run at known)) Words
      (λ words. over_is Tells (first_some (first_some (map word_end (zip names known.words)) ∷ stop_end run at ∷ row_end run at ∷ []))
      (stage_of_limits run at known)
      (λ ending found. tt) (λ none. limits_tell))
      (λ is. is)
