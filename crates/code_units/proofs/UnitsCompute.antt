-- The program of a unit that may be compiled computes the unit with the words of its parameters.
use Rattle.std.proofs.Common.{◌≡◌, ℕ, zero, suc, ◌+◌, Bool, true, false, ℤ, pos, negsuc, List, [], ◌∷◌, ◌++◌, map, length, take, drop, replicate, append_assoc}
use Rattle.std.proofs.Common.{Option, Some, None, slice_get, Result, Ok, Err, refl, sym, ap, ◌∙◌, subst, arith}
use Rattle.std.specs.Prelude.{if◌then◌else◌, unsigned_abs, int_le}
use Rattle.std.specs.Int.{is_negative}
use Rattle.std.specs.List.{AllByRecursion}
use Rattle.std.specs.Option.{option_map, IfSome}
use Rattle.std.proofs.Math.Seq.{take-append_seam, drop-append_seam}
use Rattle.std.proofs.lemmas.List.{length-append, take-append-le}
use Rattle.std.proofs.lemmas.Bool.Decides.{nat_tests}
use Rattle.fixed_words.specs.Types.{is_word_of}
use Rattle.fixed_words.specs.declared.types.Fault.{Fault}
use Rattle.fixed_words.specs.declared.types.Fault.TheVariants as fault
use Rattle.fixed_words.specs.declared.types.Kind.{Kind}
use Rattle.fixed_words.specs.declared.types.Ty.{Ty}
use Rattle.code_units.specs.Calls.{slots_with, word_given, limit_given, moved_given, output_by, greatest_step_with, meaning_of, HasWordsFor, Computes}
use Rattle.code_units.specs.Expressions.{code_of}
use Rattle.code_units.proofs.Frames.{CallWords, environment_at, work_at}
use Rattle.code_units.specs.Scopes.{slot_variables, scope_of}
use Rattle.code_units.specs.StepLines.{lines_code}
use Rattle.code_units.specs.UnitPrograms.{output_code, limit_code, step_piece, program_of, IsCallable, IsRunnable, IsCompilable}
use Rattle.code_units.specs.declared.scope.CodeScope.{CodeScope}
use Rattle.code_units.proofs.FitPieces.{fine}
use Rattle.code_units.proofs.FitUnits.{slots_count, scope_known, limits, step_fits, made_of_pieces}
use Rattle.code_units.proofs.LinesMean.{step_is, Leaves, lines_follow}
use Rattle.code_units.proofs.ExpressionsMean.{at, means, Gives}
use Rattle.code_units.proofs.NamesInSlots.{Fits, sees}
use Rattle.code_pieces.specs.Pieces.{Piece, does, finished, part_code, is_made}
use Rattle.code_pieces.proofs.MachineFollows.{pieces_are_followed_lem}
use Rattle.code_pieces.proofs.WholePrograms.{piece_programs_have_facts_lem}
use Rattle.unit_tree.specs.Components.{Component, environment_of, given_as, get_of, as_limit, limit_by, state_in, moved_by, step_of, words_of}
use Rattle.unit_tree.specs.Effects.{effect_of_lines}
use Rattle.unit_tree.specs.Values.{◌>>=◌, value_of}
use Rattle.unit_tree.specs.declared.environment.Environment.{Environment}
use Rattle.unit_tree.specs.declared.environment.Value.{Value}
use Rattle.unit_tree.specs.declared.expr.Expr.{Expr}
use Rattle.unit_tree.specs.declared.line.Line.{Line}
use Rattle.unit_tree.specs.declared.unit.Local.{Local}
use Rattle.unit_tree.specs.declared.unit.Output.{Output}
use Rattle.unit_vm.specs.Machine.{Did, Ends, Faults, length_in_slots, with_locals_zero, opening, run_of}
use Rattle.unit_vm.specs.Programs.{part_at}
use Rattle.unit_vm.specs.Valid.{HasFacts}
use Rattle.unit_vm.specs.declared.instruction.Instruction.{Instruction}
use Rattle.unit_vm.specs.declared.instruction.Instruction.TheVariants.{Give, Limit, Done}
use Rattle.unit_vm.specs.declared.instruction.Flow.TheVariants as flow
use Rattle.unit_vm.specs.Instructions.{flow_of}
use Rattle.unit_vm.specs.declared.program.CodeFacts.{CodeFacts}
use Rattle.unit_vm.specs.declared.program.Entry.{Entry}
use Rattle.unit_vm.specs.declared.program.Entry.TheVariants as entry
use Rattle.unit_vm.specs.declared.program.Program.{Program}
use Rattle.unit_vm.specs.declared.program.Sizes.{Sizes}
use Rattle.list_laws.proofs.Truths.{not_negative}

-- ---- Openings

zeros : ℕ → List ℤ
zeros count = replicate count (pos 0)

pub zeros_count : (count : ℕ) → length (replicate count (pos 0)) ≡ count
zeros_count zero = refl
zeros_count (suc count) = ap suc (zeros_count count)

zeros_are : (locals : List Local) → map (λ (local : Local). pos 0) locals ≡ replicate (length locals) (pos 0)
zeros_are [] = refl
zeros_are (local ∷ locals) = ap (λ rest. pos 0 ∷ rest) (zeros_are locals)

-- Locals between other words are set to 0.
pub zeroed : (sizes : Sizes) (front old behind : List ℤ) → length front ≡ sizes.states + sizes.inputs → length old ≡ sizes.locals
    → with_locals_zero sizes (front ++ (old ++ behind)) ≡ front ++ (replicate sizes.locals (pos 0) ++ behind)
zeroed sizes front old behind one other =
    let both : length (front ++ old) ≡ sizes.states + sizes.inputs + sizes.locals = length-append front old ∙ ap (λ n. n + length old) one
    ∙ ap (λ n. sizes.states + sizes.inputs + n) other in
    let first : take (sizes.states + sizes.inputs) (front ++ (old ++ behind)) ≡ front = ap (λ n. take n (front ++ (old ++ behind))) (sym one)
    ∙ take-append_seam front (old ++ behind) in
    let last : drop (sizes.states + sizes.inputs + sizes.locals) (front ++ (old ++ behind)) ≡ behind =
    ap (drop (sizes.states + sizes.inputs + sizes.locals)) (sym (append_assoc front old behind)) ∙ ap (λ n. drop n ((front ++ old) ++ behind)) (sym both)
    ∙ drop-append_seam (front ++ old) behind in
    ap (λ xs. xs ++ (replicate sizes.locals (pos 0) ++ drop (sizes.states + sizes.inputs + sizes.locals) (front ++ (old ++ behind)))) first
    ∙ ap (λ xs. front ++ (replicate sizes.locals (pos 0) ++ xs)) last

not_below : (n : ℕ) → int_le (pos 0) (pos n) ≡ true
not_below n = grind (arith, nat_tests)

module _ (component : Component) (fits : IsCompilable component.unit component.params) where
  abbrev program : Program
  program = program_of component.unit component.params

  abbrev scope : CodeScope
  scope = scope_of component.unit component.params

  facts : CodeFacts
  facts = (piece_programs_have_facts_lem program (made_of_pieces component.unit component.params fits)).0

  has_facts : HasFacts program facts
  unfolding facts
  has_facts = (piece_programs_have_facts_lem program (made_of_pieces component.unit component.params fits)).1

  module _ (state inputs : List ℤ) (words : HasWordsFor program state inputs) where
    abbrev held : ℕ → CallWords
    held step = record { words = state ++ (inputs ++ replicate scope.sizes.locals (pos 0)); accepted = step }

    abbrev slots : ℕ → ℕ → List ℤ
    slots time step = slots_with program.sizes state inputs time step

    held_fits : (step : ℕ) → Fits component (held step)
    held_fits step =
        let zero_count : length (replicate scope.sizes.locals (pos 0)) ≡ length component.unit.locals = zeros_count scope.sizes.locals in
        let a : length (state ++ (inputs ++ replicate scope.sizes.locals (pos 0))) ≡ length state + length (inputs ++ replicate scope.sizes.locals (pos 0)) =
        length-append state (inputs ++ replicate scope.sizes.locals (pos 0)) in
        let b : length (inputs ++ replicate scope.sizes.locals (pos 0)) ≡ length inputs + length (replicate scope.sizes.locals (pos 0)) =
        length-append inputs (replicate scope.sizes.locals (pos 0)) in
        let c : length state ≡ length component.unit.states = words.each_state in
        let d : length inputs ≡ length component.unit.inputs = words.each_input in
        let e : length (slot_variables component.unit) ≡ length component.unit.states + length component.unit.inputs + length component.unit.locals =
        slots_count component.unit in
        record { params = fits.one_each; words = omega arith }

    -- The slots of a call are those of the held words.
    in_slots : (time step : ℕ) → slots time step ≡ (held step).words ++ (pos time ∷ pos step ∷ [])
    in_slots time step =
        let locals : List ℤ = replicate scope.sizes.locals (pos 0) in
        sym (append_assoc state (inputs ++ locals) (pos time ∷ pos step ∷ []) ∙ ap (λ xs. state ++ xs) (append_assoc inputs locals (pos time ∷ pos step ∷ [])))

    slots_fit : (time step : ℕ) → length (slots time step) ≡ facts.slots
    slots_fit time step =
        let e : length (slot_variables component.unit) ≡ length component.unit.states + length component.unit.inputs + length component.unit.locals =
        slots_count component.unit in
        let f : length (held step).words ≡ length (slot_variables component.unit) = (held_fits step).words in
        let g : length ((held step).words ++ (pos time ∷ pos step ∷ [])) ≡ length (held step).words + 2 =
        length-append (held step).words (pos time ∷ pos step ∷ []) in
        let all : length ((held step).words ++ (pos time ∷ pos step ∷ []))
        ≡ length component.unit.states + length component.unit.inputs + length component.unit.locals + 2 =
        omega arith in
        ap length (in_slots time step) ∙ all ∙ sym has_facts.slots

    opens : (time step : ℕ) → (opening program.sizes (slots time step)).work ≡ work_at time step [] (held step)
    opens time step =
        let locals : List ℤ = replicate scope.sizes.locals (pos 0) in
        let front : length (state ++ inputs) ≡ scope.sizes.states + scope.sizes.inputs = length-append state inputs
        ∙ ap (λ n. n + length inputs) words.each_state ∙ ap (λ n. scope.sizes.states + n) words.each_input in
        let parted : slots time step ≡ (state ++ inputs) ++ (locals ++ (pos time ∷ pos step ∷ [])) =
        sym (append_assoc state inputs (locals ++ (pos time ∷ pos step ∷ []))) in
        let cleared : with_locals_zero program.sizes (slots time step) ≡ slots time step =
        ap (with_locals_zero program.sizes) parted
        ∙ zeroed program.sizes (state ++ inputs) locals (pos time ∷ pos step ∷ []) front (zeros_count scope.sizes.locals) ∙ sym parted in
        let last : unsigned_abs (length_in_slots (slots time step)) ≡ step =
        ap (λ xs. unsigned_abs (length_in_slots xs)) (in_slots time step) ∙ ap unsigned_abs (step_is (held step).words (pos time) (pos step)) in
        ap (λ xs. record { stack = []; slots = xs; accepted = unsigned_abs (length_in_slots (slots time step)) }) (cleared ∙ in_slots time step)
        ∙ ap (λ n. record { stack = []; slots = (held step).words ++ (pos time ∷ pos step ∷ []); accepted = n }) last

    by_names : (time step : ℕ) → environment_of component state inputs time step ≡ environment_at component time step (held step)
    by_names time step =
        let locals : List ℤ = map (λ (local : Local). pos 0) component.unit.locals in
        let joined : words_of component state inputs ≡ component.params ++ (state ++ (inputs ++ locals)) =
        append_assoc (component.params ++ state) inputs locals ∙ append_assoc component.params state (inputs ++ locals) in
        ap (λ xs. record (environment_of component state inputs time step) { words = xs })
        (joined ∙ ap (λ xs. component.params ++ (state ++ (inputs ++ xs))) (zeros_are component.unit.locals))

    -- The run of an entry whose part is a piece and its end.
    runs : (from : Entry) (piece : Piece) (finish : Instruction) (time step : ℕ) → part_at program from ≡ Some (part_code piece finish)
        → flow_of finish ≡ flow.End → is_made program.sizes piece ≡ true
        → run_of program from (slots time step) ≡ finished finish (does piece (work_at time step [] (held step)))
    runs from piece finish time step at_entry ends made =
        pieces_are_followed_lem program facts has_facts from piece finish at_entry ends made (slots time step) (slots_fit time step)
        ∙ ap (λ work. finished finish (does piece work)) (opens time step)

    -- ---- Values

    value_made : (value : Expr) → IsCallable scope value → is_made program.sizes (code_of value scope).piece ≡ true
    value_made value callable =
        let known = scope_known component.unit component.params fits.types in
        (fine scope known value).made (limits scope known value callable).ranged

    value_gives : (value : Expr) (time step : ℕ) → IsCallable scope value
        → Gives ((held step).words ++ (pos time ∷ pos step ∷ [])) step (code_of value scope).kind []
        (does (code_of value scope).piece (work_at time step [] (held step))) (value_of value (environment_of component state inputs time step))
    value_gives value time step callable =
        let known = scope_known component.unit component.params fits.types in
        subst
        (λ env. Gives ((held step).words ++ (pos time ∷ pos step ∷ [])) step (code_of value scope).kind []
        (does (code_of value scope).piece (work_at time step [] (held step))) (value_of value env))
        (sym (by_names time step))
        (means ((held step).words ++ (pos time ∷ pos step ∷ [])) step scope (environment_at component time step (held step))
        (sees component time step (held step) (held_fits step)) value (limits scope known value callable).agrees [])

    given_word : (ty : Ty) (xs : List ℤ) (accepted : ℕ) (kind : Kind) (did : Did) (result : Result Value Fault) → Gives xs accepted kind [] did result
        → word_given (finished (Give ty) did) ≡ Some (result >>= given_as ty)
    given_word ty xs accepted kind did (Ok v) is =
        ap (λ d. word_given (finished (Give ty) d)) is.0 ∙ tested (is_word_of ty v.word)
      where
        tested : (fit : Bool)
            → word_given (if fit then Ends (at xs accepted (v.word ∷ [])) (Some v.word) else Faults fault.Range)
            ≡ Some (if fit then Ok v.word else Err fault.Range)
        tested true = refl
        tested false = refl
    given_word ty xs accepted kind did (Err failed) is = ap (λ d. word_given (finished (Give ty) d)) is

    given_limit : (xs : List ℤ) (accepted : ℕ) (kind : Kind) (did : Did) (result : Result Value Fault) → Gives xs accepted kind [] did result
        → limit_given (finished Limit did) ≡ Some (result >>= as_limit)
    given_limit xs accepted kind did (Ok v) is =
        ap (λ d. limit_given (finished Limit d)) is.0 ∙ signed v.word
      where
        signed : (word : ℤ)
            → limit_given (if int_le (pos 0) word then Ends (at xs accepted (word ∷ [])) (Some word) else Faults fault.Max)
            ≡ Some (if is_negative word then Err fault.Max else Ok (Some (unsigned_abs word)))
        signed (pos n) =
            ap (λ (b : Bool). limit_given (if b then Ends (at xs accepted (pos n ∷ [])) (Some (pos n)) else Faults fault.Max)) (not_below n)
            ∙ ap (λ (b : Bool). Some (if b then Err fault.Max else Ok (Some n))) (sym (not_negative n))
        signed (negsuc n) = refl
    given_limit xs accepted kind did (Err failed) is = ap (λ d. limit_given (finished Limit d)) is

    -- ---- Outputs

    output_at : (outputs : List Output) (number : ℕ) (output : Output) → AllByRecursion (λ (one : Output). IsCallable scope one.value) outputs
        → slice_get outputs number ≡ Some output
        → (slice_get (map (output_code scope) outputs) number ≡ Some (output_code scope output)) × IsCallable scope output.value
    output_at [] number output callable is = absurd (cc)
    output_at (first ∷ others) zero output callable is =
        let same : first ≡ output = cc in
        (ap (λ (one : Output). Some (output_code scope one)) same, subst (λ (one : Output). IsCallable scope one.value) same callable.0)
    output_at (first ∷ others) (suc number) output callable is = output_at others number output callable.1 is

    gets : (number : ℕ) (output : Output) → slice_get component.unit.outputs number ≡ Some output
        → output_by program state inputs number ≡ Some (get_of component state inputs output)
    gets number output is =
        let found = output_at component.unit.outputs number output fits.values is in
        let piece : Piece = (code_of output.value scope).piece in
        ap word_given (runs (entry.Output number) piece (Give output.ty) 0 0 found.0 refl (value_made output.value found.1))
        ∙ given_word output.ty ((held 0).words ++ (pos 0 ∷ pos 0 ∷ [])) 0 (code_of output.value scope).kind (does piece (work_at 0 0 [] (held 0)))
        (value_of output.value (environment_of component state inputs 0 0)) (value_gives output.value 0 0 found.1)

    -- ---- The greatest step

    limits_by : (time : ℕ) (limit : Option Expr) → component.unit.max ≡ limit → IfSome limit (λ value. IsCallable scope value)
        → greatest_step_with (option_map (limit_code scope) limit) program state inputs time
        ≡ Some (limit_by limit (environment_of component state inputs time 0))
    limits_by time None is callable = refl
    limits_by time (Some value) is callable =
        let piece : Piece = (code_of value scope).piece in
        ap limit_given (runs entry.Limit piece Limit time 0 (ap (option_map (limit_code scope)) is) refl (value_made value callable))
        ∙ given_limit ((held 0).words ++ (pos time ∷ pos 0 ∷ [])) 0 (code_of value scope).kind (does piece (work_at time 0 [] (held 0)))
        (value_of value (environment_of component state inputs time 0)) (value_gives value time 0 callable)

    -- ---- Steps

    abbrev states : ℕ
    states = program.sizes.states

    state_taken : (front behind : List ℤ) → states ≡ length front → take states (front ++ behind) ≡ front
    state_taken front behind is = ap (λ n. take n (front ++ behind)) is ∙ take-append_seam front behind

    moved_lines : (lines : List Line) (time step : ℕ) (did : Did) (result : Result Environment Fault) → Leaves component time step [] did result
        → moved_given states (finished Done did) ≡ Some (result >>= λ after. Ok (record { state = state_in component after; accepted = after.accepted }))
    moved_lines lines time step did (Ok after) one =
        let xs : List ℤ = one.held.words in
        let wide : length xs ≡ length (slot_variables component.unit) = one.fits.words in
        let count : length (slot_variables component.unit) ≡ length component.unit.states + length component.unit.inputs + length component.unit.locals =
        slots_count component.unit in
        let kept : take states (xs ++ (pos time ∷ pos step ∷ [])) ≡ take states xs = take-append-le states xs (pos time ∷ pos step ∷ []) (omega arith) in
        ap (λ d. moved_given states (finished Done d)) one.in_slots
        ∙ ap (λ s. Some (Ok (record { state = s; accepted = one.held.accepted }))) (kept ∙ ap (take states) (sym (drop-append_seam component.params xs)))
        ∙ ap (λ (env : Environment). Some (Ok (record { state = state_in component env; accepted = env.accepted }))) (sym one.by_names)
    moved_lines lines time step did (Err failed) one = ap (λ d. moved_given states (finished Done d)) one

    steps_by : (time step : ℕ) (lines : Option (List Line)) → IfSome lines (λ some. IsRunnable scope some)
        → is_made program.sizes (step_piece scope lines) ≡ true
        → moved_given states (finished Done (does (step_piece scope lines) (work_at time step [] (held step))))
        ≡ Some (moved_by lines component state (environment_of component state inputs time step))
    steps_by time step None runnable made =
        let locals : List ℤ = replicate scope.sizes.locals (pos 0) in
        ap (λ s. Some (Ok (record { state = s; accepted = step })))
        (ap (take states) (append_assoc state (inputs ++ locals) (pos time ∷ pos step ∷ []))
        ∙ state_taken state ((inputs ++ locals) ++ (pos time ∷ pos step ∷ [])) (sym words.each_state))
    steps_by time step (Some lines) runnable made =
        moved_lines lines time step (does (lines_code lines scope).piece (work_at time step [] (held step)))
        (effect_of_lines lines (environment_of component state inputs time step))
        (subst (λ env. Leaves component time step [] (does (lines_code lines scope).piece (work_at time step [] (held step))) (effect_of_lines lines env))
        (sym (by_names time step))
        (lines_follow component time step lines runnable.right (held step) (held_fits step) []))

    steps : (time step : ℕ) → meaning_of program state inputs time step ≡ Some (step_of component state inputs time step)
    steps time step =
        let known = scope_known component.unit component.params fits.types in
        let made = (step_fits scope known component.unit.step fits.step).made in
        ap (moved_given states) (runs entry.Step (step_piece scope component.unit.step) Done time step refl refl made)
        ∙ steps_by time step component.unit.step fits.step made

  pub units_compute : Computes program component
  units_compute = record {
    get = λ state inputs words number output is. gets state inputs words number output is;
    max = λ state inputs words time. limits_by state inputs words time component.unit.max refl fits.max;
    step = λ state inputs words time step. steps state inputs words time step;
  }
