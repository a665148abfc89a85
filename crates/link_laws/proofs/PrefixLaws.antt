-- Facts that were there before come before those that are made.
use Rattle.std.proofs.Common.{◌≡◌, ◌∙◌, ℕ, zero, suc, ◌==◌, Bool, true, false, ◌&&◌, is_none, List, [], ◌∷◌, ◌++◌, length, Option, Some, None, refl, sym, ap}
use Rattle.std.proofs.Common.{append_assoc, append-nil}
use Rattle.std.specs.Prelude.{if◌then◌else◌}
use Rattle.std.specs.List.{enumerate_from}
use Rattle.std.specs.Option.{option_map}
use Rattle.link_laws.specs.Boards.{Board, asked_of, entry, said_of}
use Rattle.link_laws.specs.Making.{determined, each, held, held_standings, limits_by, limits_made, made, passes, ports_in, put_said, put_word}
use Rattle.link_laws.specs.Making.{redos_by, redos_made, replies_by, replies_made, said_entry, stage_at, with_limit, with_made, with_said, with_word}
use Rattle.link_laws.specs.Making.{words_made}
use Rattle.link_laws.specs.Nodes.{Making, with_fact}
use Rattle.link_laws.specs.declared.fact.Fact.{Fact}
use Rattle.link_laws.specs.declared.fact.Fact.TheVariants.{Word, Limit, Reply}
use Rattle.link_laws.specs.declared.fact.Said.{Said}
use Rattle.link_laws.specs.declared.fact.Seen.{Seen}
use Rattle.link_laws.specs.declared.stage.Stage.{Stage}
use Rattle.link_laws.specs.declared.stage.Stage.TheVariants.{Words, Limits, Trial, Redo, Over, On}
use Rattle.unit_tree.specs.Compositions.{Composition}
use Rattle.unit_tree.specs.Negotiation.{max_at, step_at}
use Rattle.unit_tree.specs.Ports.{Outlet, Ports}
use Rattle.unit_tree.specs.Successor.{Position}

module _ (before : List Fact) where
  -- What is made, after the facts that were there before.
  abbrev pub behind : Making → Making
  behind making = record { known = making.known; facts = before ++ making.facts }

  -- A step makes the same after them.
  abbrev Keeps : {X : Type 0} → (Making → X → Making) → Type 0
  Keeps {X} make = (making : Making) (x : X) → make (behind making) x ≡ behind (make making x)

  fact_behind : (fact : Fact) (making : Making) → with_made fact (behind making) ≡ behind (with_made fact making)
  fact_behind fact making =
      ap (λ facts. record { known = with_fact making.known fact; facts = facts }) (append_assoc before making.facts (fact ∷ []))

  each_behind : {X : Type 0} (make : Making → X → Making) (items : List X) (making : Making) → Keeps make
      → each make (behind making) items ≡ behind (each make making items)
  each_behind make [] making keeps = refl
  each_behind make (item ∷ items) making keeps = ap (λ one. each make one items) (keeps making item) ∙ each_behind make items (make making item) keeps

  if_behind : (test : Bool) (one other : Making) (next : Making) → next ≡ behind one
      → (if test then next else behind other) ≡ behind (if test then one else other)
  if_behind true one other next is = is
  if_behind false one other next is = refl

  put_word_behind : (row place : ℕ) (found : Option Seen) (making : Making)
      → put_word row place found (behind making) ≡ behind (put_word row place found making)
  put_word_behind row place None making = refl
  put_word_behind row place (Some seen) making = fact_behind (Word row place seen) making

  word_behind : (me row : ℕ) → Keeps (with_word me row)
  word_behind me row making (place, (owner, outlet)) =
      if_behind ((owner == me) && is_none (entry making.known.words place)) (put_word row place (determined making.known.words outlet) making) making
      (put_word row place (determined making.known.words outlet) (behind making)) (put_word_behind row place (determined making.known.words outlet) making)

  passes_behind : (me row : ℕ) (items : List (ℕ × (ℕ × Outlet))) (more : ℕ) (making : Making)
      → passes me row items more (behind making) ≡ behind (passes me row items more making)
  passes_behind me row items zero making = refl
  passes_behind me row items (suc more) making = ap (passes me row items more) (each_behind (with_word me row) items making (word_behind me row))
      ∙ passes_behind me row items more (each (with_word me row) making items)

  limit_behind : (me : ℕ) (at : Position) (ports : Ports) → Keeps (with_limit me at ports)
  limit_behind me at ports making (instance, (owner, standing)) =
      let fact : Fact = Limit at.number instance (asked_of (max_at at.point.t ports standing)) in
      if_behind ((owner == me) && is_none (entry making.known.limits instance)) (with_made fact making) making (with_made fact (behind making))
      (fact_behind fact making)

  put_said_behind : (redo : Bool) (row instance : ℕ) (found : Option Said) (making : Making)
      → put_said redo row instance found (behind making) ≡ behind (put_said redo row instance found making)
  put_said_behind redo row instance None making = refl
  put_said_behind redo row instance (Some said) making = fact_behind (Reply row instance redo said) making

  said_behind : (redo : Bool) (me : ℕ) (at : Position) (ports : Ports) (h : ℕ) → Keeps (with_said redo me at ports h)
  said_behind redo me at ports h making (instance, (owner, standing)) =
      let said : Option Said = option_map said_of (step_at at.point.t h ports standing) in
      if_behind ((owner == me) && is_none (said_entry redo making.known instance)) (put_said redo at.number instance said making) making
      (put_said redo at.number instance said (behind making))
      (put_said_behind redo at.number instance said making)

  module _ (run : Composition) (owners : List ℕ) (me : ℕ) (at : Position) where
    pub words_behind : (making : Making) → words_made run owners me at (behind making) ≡ behind (words_made run owners me at making)
    words_behind making = passes_behind me at.number (enumerate_from 0 (held run owners at.states)) (length (held run owners at.states)) making

    pub limits_behind : (stage : Stage) (making : Making) → limits_by run owners me at stage (behind making) ≡ behind (limits_by run owners me at stage making)
    limits_behind Limits making = each_behind (with_limit me at (ports_in making.known.words)) (held_standings run owners at) making
        (limit_behind me at (ports_in making.known.words))
    limits_behind Words making = refl
    limits_behind (Trial h) making = refl
    limits_behind (Redo h) making = refl
    limits_behind (Over ending) making = refl
    limits_behind (On h) making = refl

    pub replies_behind : (stage : Stage) (making : Making)
        → replies_by run owners me at stage (behind making) ≡ behind (replies_by run owners me at stage making)
    replies_behind (Trial h) making = each_behind (with_said false me at (ports_in making.known.words) h) (held_standings run owners at) making
        (said_behind false me at (ports_in making.known.words) h)
    replies_behind Words making = refl
    replies_behind Limits making = refl
    replies_behind (Redo h) making = refl
    replies_behind (Over ending) making = refl
    replies_behind (On h) making = refl

    pub redos_behind : (stage : Stage) (making : Making) → redos_by run owners me at stage (behind making) ≡ behind (redos_by run owners me at stage making)
    redos_behind (Redo h) making = each_behind (with_said true me at (ports_in making.known.words) h) (held_standings run owners at) making
        (said_behind true me at (ports_in making.known.words) h)
    redos_behind Words making = refl
    redos_behind Limits making = refl
    redos_behind (Trial h) making = refl
    redos_behind (Over ending) making = refl
    redos_behind (On h) making = refl

    -- All that is made from what is known, after the facts that were there before.
    pub made_behind : (known : Board)
        → redos_made run owners me at (replies_made run owners me at
        (limits_made run owners me at (words_made run owners me at (record { known = known; facts = before }))))
        ≡ behind (made run owners me at known)
    made_behind known =
        let start : Making = record { known = known; facts = [] } in
        let one = words_made run owners me at start in
        let two = limits_made run owners me at one in
        let three = replies_made run owners me at two in
        ap (λ making. redos_made run owners me at (replies_made run owners me at (limits_made run owners me at (words_made run owners me at making))))
        (ap (λ facts. record { known = known; facts = facts }) (sym (append-nil before)))
        ∙ ap (λ making. redos_made run owners me at (replies_made run owners me at (limits_made run owners me at making))) (words_behind start)
        ∙ ap (λ making. redos_made run owners me at (replies_made run owners me at making)) (limits_behind (stage_at run at one.known) one)
        ∙ ap (redos_made run owners me at) (replies_behind (stage_at run at two.known) two)
        ∙ redos_behind (stage_at run at three.known) three
