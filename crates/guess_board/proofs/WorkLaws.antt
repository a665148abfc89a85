-- Answering a ticket: one answer after the other is the chain of its cells.
use Rattle.std.proofs.Common.{◌≡◌, ◌∙◌, ℕ, ◌-◌, ◌<◌, ◌≤◌, ℤ, List, [], ◌∷◌, ◌++◌, length, take, drop}
use Rattle.std.proofs.Common.{get_or, Option, Some, None, Result, Ok, Err, refl, sym, ap, subst}
use Rattle.std.proofs.Common.{append_assoc, append-nil, arith}
use Rattle.std.proofs.lemmas.List.{take_all}
use Rattle.std.specs.List.{AllByRecursion}
use Rattle.std.specs.Prelude.{OnErr, OnOk}
use Rattle.std.specs.Option.{option_map}
use Rattle.guess_board.specs.Chains.{answer_at, chain, chain_of, code_of, followed_by, key_at, link, whole_state}
use Rattle.guess_board.specs.Working.{AppendsPrefixOf}
use Rattle.guess_board.specs.declared.cell.Cell.{Cell}
use Rattle.guess_board.proofs.TicketLaws.{IsLong, whole_long}
use Rattle.unit_answers.specs.Answers.{Answered, IsProven}
use Rattle.unit_answers.specs.Keys.{StepKey, meaning}
use Rattle.unit_exec.specs.Images.{Compiled}
use Rattle.unit_vm.specs.Programs.{program_words}

-- What a chain has after an answer, by the state after its whole step.
abbrev pub behind : List ℤ → Option (List ℤ) → List Cell → List Answered
behind code None cells = []
behind code (Some state) cells = chain_of code state cells

pub none_left : (code state : List ℤ) → chain_of code state [] ≡ []
unfolding chain_of
none_left code state = refl

behind_is : (code : List ℤ) (after : Option (List ℤ)) (cells : List Cell) → chain meaning code after cells ≡ behind code after cells
unfolding chain_of
behind_is code None [] = refl
behind_is code None (cell ∷ cells) = refl
behind_is code (Some state) cells = refl

-- The chain has the answer to its first cell, and then what comes after it.
pub first_answer : (code state : List ℤ) (cell : Cell) (cells : List Cell) (one : Answered) → IsProven one → one.row ≡ cell.row
    → one.key ≡ key_at code state cell → chain_of code state (cell ∷ cells) ≡ one ∷ behind code (whole_state one) cells
unfolding chain_of
first_answer code state cell cells one proven row key =
    let meant = ap meaning (sym key) ∙ proven.is_meaning in
    let made : link meaning code state cell ≡ Some one =
    ap (option_map (answer_at cell.row (key_at code state cell))) meant ∙ (λ i. Some (answer_at (sym row i) (sym key i) one.answer)) in
    ap (λ l. followed_by l (λ after. chain meaning code after cells)) made ∙ ap (λ rest. one ∷ rest) (behind_is code (whole_state one) cells)

-- Answers to which one was added, and then what comes after it.
pub all_appended : (old now new rest all : List Answered) (one : Answered) → now ≡ old ++ one ∷ [] → new ≡ now ++ rest → all ≡ one ∷ rest
    → new ≡ old ++ all
all_appended old now new rest all one added more is =
    more ∙ ap (λ front. front ++ rest) added ∙ append_assoc old (one ∷ []) rest ∙ ap (λ answers. old ++ answers) (sym is)

pub front_appended : (old now new rest all : List Answered) (one : Answered) → now ≡ old ++ one ∷ [] → AppendsPrefixOf now rest new → all ≡ one ∷ rest
    → AppendsPrefixOf old all new
front_appended old now new rest all one added more is = record {
  prefix = one ∷ more.prefix;
  begins = ap (λ answers. take (length (one ∷ more.prefix)) answers) is ∙ ap (λ answers. one ∷ answers) more.begins;
  is = more.is ∙ ap (λ front. front ++ more.prefix) added ∙ append_assoc old (one ∷ []) more.prefix;
}

pub none_appended : (old new all : List Answered) → new ≡ old → AppendsPrefixOf old all new
none_appended old new all same = record { prefix = []; begins = refl; is = same ∙ sym (append-nil old) }

-- One answer was added, and no more.
pub one_appended : (old new rest all : List Answered) (one : Answered) → new ≡ old ++ one ∷ [] → all ≡ one ∷ rest → AppendsPrefixOf old all new
one_appended old new rest all one added is = record { prefix = one ∷ []; begins = ap (take 1) is; is = added }

-- A state after a whole step has as many words as the one before it.
pub after_long : (one : Answered) (state : List ℤ) (count : ℕ) → IsProven one → whole_state one ≡ Some state → length one.key.state ≡ count
    → length state ≡ count
after_long one state count proven is long =
    subst (IsLong count) is (whole_long count (length one.key.state) one.key.step one.answer proven.each_state long)

-- What comes after an answer, where there is a state after its whole step, and where there is none.
pub behind_is_after : (code : List ℤ) (after : Option (List ℤ)) (state : List ℤ) (cells : List Cell) → after ≡ Some state
    → behind code after cells ≡ chain_of code state cells
behind_is_after code after state cells is = ap (λ o. behind code o cells) is

pub behind_is_none : (code : List ℤ) (after : Option (List ℤ)) (cells : List Cell) → after ≡ None → behind code after cells ≡ []
behind_is_none code after cells is = ap (λ o. behind code o cells) is

-- ---- The first cell is answered

pub no_cells : (cells : List Cell) → length cells < 1 → cells ≡ []
no_cells [] none = refl
no_cells (cell ∷ cells) none = absurd (omega (arith, none))

cells_are : (cells : List Cell) (cell : Cell) → 1 ≤ length cells → cell ≡ get_or cells 0 cell → cells ≡ cell ∷ take (length cells - 1) (drop 1 cells)
cells_are [] cell some is = absurd (omega (arith, some))
cells_are (first ∷ cells) cell some is = ap (λ c. c ∷ cells) (sym is)
    ∙ ap (λ rest. cell ∷ rest) (sym (take_all (length (first ∷ cells) - 1) cells (omega arith)))

pub behind_fit : (P : Cell → Type 0) (cells : List Cell) → 1 ≤ length cells → AllByRecursion P cells → AllByRecursion P (take (length cells - 1) (drop 1 cells))
behind_fit P [] some all = absurd (omega (arith, some))
behind_fit P (first ∷ cells) some all = subst (AllByRecursion P) (sym (take_all (length (first ∷ cells) - 1) cells (omega arith))) all.1

-- The key of the step at a cell, as it is required.
abbrev pub key_with : Compiled → List ℤ → List ℤ → Cell → StepKey
key_with image state inputs cell =
    record { code = program_words image.program; state = state; inputs = inputs; time = cell.time; step = cell.step }

key_there : (image : Compiled) (state inputs : List ℤ) (cell : Cell) (key : StepKey) → key ≡ key_with image state inputs cell → inputs ≡ cell.inputs
    → key ≡ key_at (code_of image) state cell
unfolding code_of
key_there image state inputs cell key is same = is ∙ ap (λ fed. key_with image state fed cell) same

pub step_chain : (image : Compiled) (state inputs : List ℤ) (cells : List Cell) (cell : Cell) (one : Answered) → 1 ≤ length cells
    → cell ≡ get_or cells 0 cell → inputs ≡ cell.inputs → IsProven one → one.row ≡ cell.row → one.key ≡ key_with image state inputs cell
    → chain_of (code_of image) state cells ≡ one ∷ behind (code_of image) (whole_state one) (take (length cells - 1) (drop 1 cells))
step_chain image state inputs cells cell one some first fed proven row key =
    ap (chain_of (code_of image) state) (cells_are cells cell some first)
    ∙ first_answer (code_of image) state cell (take (length cells - 1) (drop 1 cells)) one proven row (key_there image state inputs cell one.key key fed)

-- What is appended after the first answer is appended after all.
pub whole_on : {E : Type 0} (old now new rest all : List Answered) (one : Answered) (r : Result (Unit {0}) E) → now ≡ old ++ one ∷ [] → all ≡ one ∷ rest
    → OnOk r (new ≡ now ++ rest) → OnOk r (new ≡ old ++ all)
whole_on old now new rest all one (Ok x) added is more = all_appended old now new rest all one added more is
whole_on old now new rest all one (Err e) added is more = tt

pub front_on : {E : Type 0} (old now new rest all : List Answered) (one : Answered) (r : Result (Unit {0}) E) → now ≡ old ++ one ∷ [] → all ≡ one ∷ rest
    → OnErr r (AppendsPrefixOf now rest new) → OnErr r (AppendsPrefixOf old all new)
front_on old now new rest all one (Ok x) added is more = tt
front_on old now new rest all one (Err e) added is more = front_appended old now new rest all one added more is
