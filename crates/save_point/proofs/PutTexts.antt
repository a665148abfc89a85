-- Lines that are appended one after the other.
use Rattle.std.proofs.Common.{◌≡◌, ℕ, ◌+◌, ◌<◌, ◌≤◌, ℤ, List, [], ◌∷◌, ◌++◌, map, length, drop, Some, get_or, sym, ap, ap₂, subst, ◌∙◌, append_assoc, append-nil}
use Rattle.std.specs.Prelude.{slice_get, codes, decimal}
use Rattle.std.proofs.lemmas.List.{drop_all, drop_more}
use Rattle.std.proofs.lemmas.Option.{get_or_from_slice_get, slice_get_within}
use Rattle.std.proofs.lemmas.Grind.{flat_map-append}
use Rattle.save_point.specs.SavedTexts.{ended, named, named_states, point_line, row_line, saved_text, state_line, states_of, title_line}
use Rattle.super_time.specs.declared.point.Point.{Point}
use Rattle.trace_core.specs.Runs.{RunState}
use Rattle.trace_plan.proofs.PlainRuns.{member_count}
use Rattle.trace_plan.specs.Plans.{Planned}
use Rattle.unit_tree.specs.Canonical.{canonical_text}
use Rattle.unit_tree.specs.Compositions.{Composition, run_of}
use Rattle.unit_tree.specs.Printable.{IsRanged}
use Rattle.unit_tree.specs.Successor.{Position}
use Rattle.unit_tree.specs.WellFormed.{IsWellFormed}
use Rattle.unit_tree.specs.declared.system.Instance.{Instance}
use Rattle.unit_tree.specs.declared.system.System.{System}

-- The bytes before the number of a row.
abbrev title_front : List ℕ
title_front = title_line ++ 10 ∷ codes "row "

-- ---- The lines of a row and a point

pub point_put : (old first second third : List ℕ) (row : ℕ) (point : Point) → first ≡ old ++ (title_front ++ (decimal row ++ 10 ∷ []))
    → second ≡ first ++ (codes "at " ++ (decimal point.t ++ 32 ∷ [])) → third ≡ second ++ (decimal point.n ++ 10 ∷ [])
    → third ≡ old ++ ended (title_line ∷ row_line row ∷ point_line point ∷ [])
point_put old first second third row point first_is second_is third_is =
    let a = title_front ++ (decimal row ++ 10 ∷ []) in
    let b = codes "at " ++ (decimal point.t ++ 32 ∷ []) in
    let c = decimal point.n ++ 10 ∷ [] in
    let inner : (decimal point.t ++ 32 ∷ []) ++ c ≡ ((decimal point.t ++ 32 ∷ decimal point.n) ++ 10 ∷ []) ++ [] =
    append_assoc (decimal point.t) (32 ∷ []) c ∙ sym (append_assoc (decimal point.t) (32 ∷ decimal point.n) (10 ∷ []))
    ∙ sym (append-nil ((decimal point.t ++ 32 ∷ decimal point.n) ++ 10 ∷ [])) in
    third_is ∙ ap (λ text. text ++ c) (second_is ∙ ap (λ text. text ++ b) first_is ∙ append_assoc old a b) ∙ append_assoc old (a ++ b) c
    ∙ ap (λ text. old ++ text) (append_assoc a b c ∙ ap (λ text. title_front ++ ((decimal row ++ 10 ∷ []) ++ (codes "at " ++ text))) inner)

-- ---- The lines of states

abbrev pub lines_left : List Instance → List (List ℤ) → ℕ → List ℕ
lines_left instances states place = ended (map state_line (states_of (drop place instances) (drop place states)))

state_there : (states : List (List ℤ)) (place : ℕ) (words : List ℤ) → slice_get states place ≡ Some words → drop place states ≡ words ∷ drop (place + 1) states
state_there states place words is =
    drop_more states place [] (slice_get_within states place words is)
    ∙ ap (λ state. state ∷ drop (place + 1) states) (get_or_from_slice_get states place words [] is)

-- The next line was appended.
pub put_next : (instances : List Instance) (states : List (List ℤ)) (place : ℕ) (instance : Instance) (words : List ℤ) (text next whole : List ℕ)
    → place < length instances → instance ≡ get_or instances place instance → slice_get states place ≡ Some words
    → text ++ lines_left instances states place ≡ whole → next ≡ text ++ (state_line (named (instance.name, words)) ++ 10 ∷ [])
    → next ++ lines_left instances states (place + 1) ≡ whole
put_next instances states place instance words text next whole within instance_is words_are kept next_is =
    let line = state_line (named (instance.name, words)) ++ 10 ∷ [] in
    let others = lines_left instances states (place + 1) in
    let here : drop place instances ≡ instance ∷ drop (place + 1) instances =
    drop_more instances place instance within ∙ ap (λ one. one ∷ drop (place + 1) instances) (sym instance_is) in
    let step : lines_left instances states place ≡ line ++ others =
    ap₂ (λ xs ys. ended (map state_line (states_of xs ys))) here (state_there states place words words_are) in
    ap (λ t. t ++ others) next_is ∙ append_assoc text line others ∙ ap (λ t. text ++ t) (sym step) ∙ kept

-- All lines were appended.
pub put_all : (instances : List Instance) (states : List (List ℤ)) (place : ℕ) (text whole : List ℕ) → length instances ≤ place
    → text ++ lines_left instances states place ≡ whole → text ≡ whole
put_all instances states place text whole past kept =
    sym (append-nil text)
    ∙ ap (λ xs. text ++ ended (map state_line (states_of xs (drop place states)))) (sym (drop_all place instances past)) ∙ kept

-- ---- The text

-- The lines of a row and a point, those of states, and the canonical text, one after the other.
pub whole_text : (system : System) (at : Position) (start first states all : List ℕ) → first ≡ start ++ ended (title_line ∷ row_line at.number ∷ point_line at.point ∷ [])
    → states ≡ first ++ ended (map state_line (named_states system at)) → all ≡ states ++ canonical_text system → all ≡ start ++ saved_text system at
unfolding saved_text
whole_text system at start first states all first_is states_are all_is =
    let front = ended (title_line ∷ row_line at.number ∷ point_line at.point ∷ []) in
    let lines = ended (map state_line (named_states system at)) in
    all_is ∙ ap (λ text. text ++ canonical_text system) (states_are ∙ ap (λ text. text ++ lines) first_is ∙ append_assoc start front lines)
    ∙ append_assoc start (front ++ lines) (canonical_text system)
    ∙ ap (λ text. start ++ (text ++ canonical_text system))
    (sym (flat_map-append (λ line. line ++ 10 ∷ []) (title_line ∷ row_line at.number ∷ point_line at.point ∷ []) (map state_line (named_states system at))))

-- ---- A run of the plan

pub instances_there : (plan : Planned) (judged source : System) (r : RunState) → plan.run ≡ run_of plan.system → judged ≡ plan.system → IsRanged judged
    → IsWellFormed judged → source ≡ plan.system → r.plan ≡ plan → length source.instances ≡ length r.plan.run.members
instances_there plan judged source r composed judged_is ranged kept source_is planned =
    ap (λ (s : System). length s.instances) source_is
    ∙ sym (member_count plan.system (subst IsRanged judged_is ranged) (subst IsWellFormed judged_is kept))
    ∙ ap (λ (run : Composition). length run.members) (sym composed) ∙ ap (λ (p : Planned). length p.run.members) (sym planned)

pub stand_put : (plan : Planned) (source : System) (r : RunState) (start first states all : List ℕ) (number : ℕ) (point : Point) → source ≡ plan.system
    → number ≡ r.stand.at.number → point ≡ r.stand.at.point → first ≡ start ++ ended (title_line ∷ row_line number ∷ point_line point ∷ [])
    → states ≡ first ++ ended (map state_line (states_of source.instances r.stand.at.states)) → all ≡ states ++ canonical_text source
    → all ≡ start ++ saved_text plan.system r.stand.at
stand_put plan source r start first states all number point source_is number_is point_is first_is states_are all_is =
    whole_text plan.system r.stand.at start first states all
    (first_is ∙ ap₂ (λ row at. start ++ ended (title_line ∷ row_line row ∷ point_line at ∷ [])) number_is point_is)
    (states_are ∙ ap (λ (s : System). first ++ ended (map state_line (states_of s.instances r.stand.at.states))) source_is)
    (all_is ∙ ap (λ (s : System). states ++ canonical_text s) source_is)
