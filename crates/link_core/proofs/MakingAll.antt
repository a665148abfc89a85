-- All facts that a node makes from what it knows, one after the other.
use Rattle.std.proofs.Common.{◌≡◌, ◌∙◌, ℕ, ◌==◌, Bool, true, false, ◌&&◌, is_none, ℤ, List, [], ◌∷◌, length, Option, Some, None, refl, sym, ap, subst}
use Rattle.std.specs.Prelude.{if◌then◌else◌}
use Rattle.std.specs.Option.{option_map}
use Rattle.link_laws.specs.Boards.{Board, entry, said_of}
use Rattle.link_laws.specs.Making.{each, held_standings, limits_by, limits_made, names_of, ports_in, put_said, redos_by, redos_made, replies_by}
use Rattle.link_laws.specs.Making.{replies_made, said_entry, with_limit, with_said, words_made}
use Rattle.link_laws.specs.Nodes.{Making}
use Rattle.link_core.specs.Noted.{AreFed, IsTrue, part_at, position_at}
use Rattle.link_core.specs.Ready.{IsJudged, all_made}
use Rattle.link_laws.specs.Stages.{stage_of}
use Rattle.link_laws.specs.declared.fact.Said.{Said}
use Rattle.link_laws.specs.declared.fact.Seen.{Seen}
use Rattle.link_laws.specs.declared.stage.Stage.{Stage}
use Rattle.link_laws.specs.declared.stage.Stage.TheVariants.{Words, Limits, Trial, Redo, Over, On}
use Rattle.link_core.proofs.TruthLaws.{are_fed, limits_true, redos_true, replies_true, words_true}
use Rattle.port_solve.specs.Solved.{HaveInputs, HaveStates, HaveTheirWords}
use Rattle.super_time.specs.declared.point.Point.{Point}
use Rattle.unit_tree.specs.Compositions.{Composition}
use Rattle.unit_tree.specs.Negotiation.{step_at}
use Rattle.unit_tree.specs.Ports.{Ports, Standing}
use Rattle.unit_tree.specs.Routes.{routes_of}
use Rattle.unit_tree.specs.Successor.{Position}

-- ---- Words stay

by_if : (test : Bool) (one other : Making) (words : List (Option Seen)) → one.known.words ≡ words → other.known.words ≡ words
    → (if test then one else other).known.words ≡ words
by_if true one other words first second = first
by_if false one other words first second = second

each_words : {X : Type 0} (make : Making → X → Making) (items : List X) (making : Making)
    → ((one : Making) (x : X) → (make one x).known.words ≡ one.known.words) → (each make making items).known.words ≡ making.known.words
each_words make [] making step = refl
each_words make (item ∷ items) making step = each_words make items (make making item) step ∙ step making item

said_words : (redo : Bool) (row instance : ℕ) (found : Option Said) (making : Making)
    → (put_said redo row instance found making).known.words ≡ making.known.words
said_words redo row instance None making = refl
said_words true row instance (Some said) making = refl
said_words false row instance (Some said) making = refl

with_said_words : (redo : Bool) (me : ℕ) (at : Position) (ports : Ports) (h : ℕ) (making : Making) (item : ℕ × (ℕ × Standing))
    → (with_said redo me at ports h making item).known.words ≡ making.known.words
with_said_words redo me at ports h making (instance, (owner, standing)) =
    let said : Option Said = option_map said_of (step_at at.point.t h ports standing) in
    by_if ((owner == me) && is_none (said_entry redo making.known instance)) (put_said redo at.number instance said making) making making.known.words
    (said_words redo at.number instance said making) refl

module _ (run : Composition) (owners : List ℕ) (me : ℕ) (at : Position) where
  pub limits_words : (stage : Stage) (making : Making) → (limits_by run owners me at stage making).known.words ≡ making.known.words
  limits_words Limits making = each_words (with_limit me at (ports_in making.known.words)) (held_standings run owners at) making one
    where
      one : (now : Making) (item : ℕ × (ℕ × Standing)) → (with_limit me at (ports_in making.known.words) now item).known.words ≡ now.known.words
      one now (instance, (owner, standing)) = by_if ((owner == me) && is_none (entry now.known.limits instance)) _ now now.known.words refl refl
  limits_words Words making = refl
  limits_words (Trial h) making = refl
  limits_words (Redo h) making = refl
  limits_words (Over ending) making = refl
  limits_words (On h) making = refl

  pub replies_words : (stage : Stage) (making : Making) → (replies_by run owners me at stage making).known.words ≡ making.known.words
  replies_words (Trial h) making = each_words (with_said false me at (ports_in making.known.words) h) (held_standings run owners at) making
      (with_said_words false me at (ports_in making.known.words) h)
  replies_words Limits making = refl
  replies_words Words making = refl
  replies_words (Redo h) making = refl
  replies_words (Over ending) making = refl
  replies_words (On h) making = refl

  pub redos_words : (stage : Stage) (making : Making) → (redos_by run owners me at stage making).known.words ≡ making.known.words
  redos_words (Redo h) making = each_words (with_said true me at (ports_in making.known.words) h) (held_standings run owners at) making
      (with_said_words true me at (ports_in making.known.words) h)
  redos_words Limits making = refl
  redos_words Words making = refl
  redos_words (Trial h) making = refl
  redos_words (Over ending) making = refl
  redos_words (On h) making = refl

-- ---- One after the other

module _ (run : Composition) (judged : IsJudged run) (owners : List ℕ) (me : ℕ) (owns : length owners ≡ length run.members) (point : Point) (row : ℕ)
    (states : List (List ℤ)) where
  abbrev here : Position
  here = part_at owners me point row states

  abbrev True : Board → Type 0
  True known = IsTrue run owners me point row states known

  module _ (start one two three four : Making) (wanted_limits wanted_replies wanted_redos : Stage) (so : True start.known)
      (one_is : one ≡ words_made run owners me here start)
      (limits_is : wanted_limits ≡ stage_of run (names_of run) (position_at point row) one.known)
      (two_is : two ≡ limits_by run owners me here wanted_limits one) where
    pub true_one : True one.known
    true_one = words_true run judged.order judged.is_order judged.members owners me owns point row states start one so one_is

    made_two : two ≡ limits_made run owners me here one
    made_two = two_is ∙ ap (λ stage. limits_by run owners me here stage one) limits_is

    pub true_two : True two.known
    true_two = limits_true run judged.order judged.is_order judged.members owners me owns point row states one two true_one made_two

    pub words_two : two.known.words ≡ one.known.words
    words_two = ap (λ (making : Making). making.known.words) two_is ∙ limits_words run owners me here wanted_limits one

    module _ (replies_is : wanted_replies ≡ stage_of run (names_of run) (position_at point row) two.known)
        (three_is : three ≡ replies_by run owners me here wanted_replies two) where
      made_three : three ≡ replies_made run owners me here two
      made_three = three_is ∙ ap (λ stage. replies_by run owners me here stage two) replies_is

      pub true_three : True three.known
      true_three = replies_true run judged.order judged.is_order judged.members owners me owns point row states two three true_two made_three

      pub words_three : three.known.words ≡ two.known.words
      words_three = ap (λ (making : Making). making.known.words) three_is ∙ replies_words run owners me here wanted_replies two

      module _ (redos_is : wanted_redos ≡ stage_of run (names_of run) (position_at point row) three.known)
          (four_is : four ≡ redos_by run owners me here wanted_redos three) where
        made_four : four ≡ redos_made run owners me here three
        made_four = four_is ∙ ap (λ stage. redos_by run owners me here stage three) redos_is

        pub true_four : True four.known
        true_four = redos_true run judged.order judged.is_order judged.members owners me owns point row states three four true_three made_four

        pub words_four : four.known.words ≡ three.known.words
        words_four = ap (λ (making : Making). making.known.words) four_is ∙ redos_words run owners me here wanted_redos three

        pub made_all : four ≡ all_made run owners me here start
        made_all =
            made_four
            ∙ ap (redos_made run owners me here) (made_three ∙ ap (replies_made run owners me here) (made_two ∙ ap (limits_made run owners me here) one_is))

  -- Inputs have the words, where the row goes on.
  pub fed_here : (known : Board) (stage : Stage) (inputs : List (List ℤ)) → True known → stage ≡ stage_of run (names_of run) (position_at point row) known
      → HaveStates run states → HaveInputs run inputs
      → HaveTheirWords run (ports_in known.words) inputs → length known.words ≡ length (routes_of run).outputs → AreFed run inputs (ports_in known.words) stage
  fed_here known stage inputs so is have shape their count =
      subst (AreFed run inputs (ports_in known.words)) (sym is)
      (are_fed run judged.order judged.is_order judged.members owners me owns point row states judged.sound known so have inputs shape their count)
