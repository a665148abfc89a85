-- Lists of words of equal lengths, one by one, since each has the length of its member.
use Rattle.std.proofs.Common.{◌≡◌, ◌∙◌, ℤ, List, [], ◌∷◌, length, map, sym, ap, refl}
use Rattle.std.proofs.lemmas.Slice.Zip.{AllZip-long}
use Rattle.std.specs.List.{AllZip}
use Rattle.fixed_words.specs.Types.{is_word_of}
use Rattle.port_solve.specs.Solved.{HaveStates, HaveInputs}
use Rattle.trace_core.specs.Seats.{AreAsLong}
use Rattle.unit_tree.specs.Compositions.{Member, Composition}
use Rattle.unit_tree.specs.Trace.{AreWordsOf}
use Rattle.unit_tree.specs.declared.unit.State.{State}
use Rattle.std.specs.Prelude.{true}

long_inputs : (members : List Member) (ones others : List (List ℤ)) → AllZip (λ member words. length words ≡ length member.component.unit.inputs) members ones
    → AllZip (λ member words. length words ≡ length member.component.unit.inputs) members others → AreAsLong ones others
long_inputs [] [] [] one other = refl
long_inputs [] [] (words ∷ others) one other = absurd other
long_inputs [] (words ∷ ones) others one other = absurd one
long_inputs (member ∷ members) [] others one other = absurd one
long_inputs (member ∷ members) (had ∷ ones) [] one other = absurd other
long_inputs (member ∷ members) (had ∷ ones) (words ∷ others) one other =
    ap (λ count. count ∷ map length ones) (one.0 ∙ sym other.0) ∙ ap (λ rest. length words ∷ rest) (long_inputs members ones others one.1 other.1)

pub inputs_as_long : (run : Composition) (ones others : List (List ℤ)) → HaveInputs run ones → HaveInputs run others → AreAsLong ones others
inputs_as_long run ones others one other = long_inputs run.members ones others one other

long_states : (members : List Member) (ones others : List (List ℤ)) → AllZip (λ member state. AreWordsOf member.component.unit.states state) members ones
    → AllZip (λ member state. length state ≡ length member.component.unit.states) members others → AreAsLong ones others
long_states [] [] [] one other = refl
long_states [] [] (words ∷ others) one other = absurd other
long_states [] (words ∷ ones) others one other = absurd one
long_states (member ∷ members) [] others one other = absurd one
long_states (member ∷ members) (had ∷ ones) [] one other = absurd other
long_states (member ∷ members) (had ∷ ones) (words ∷ others) one other =
    ap (λ count. count ∷ map length ones)
    (AllZip-long (λ (state : State) word. is_word_of state.ty word ≡ true) member.component.unit.states had one.0 ∙ sym other.0)
    ∙ ap (λ rest. length words ∷ rest) (long_states members ones others one.1 other.1)

pub states_as_long : (run : Composition) (ones others : List (List ℤ))
    → AllZip (λ member state. AreWordsOf member.component.unit.states state) run.members ones → HaveStates run others → AreAsLong ones others
states_as_long run ones others one other = long_states run.members ones others one other
