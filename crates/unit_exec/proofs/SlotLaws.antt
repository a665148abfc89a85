-- Words that overwrite others.
use Rattle.std.proofs.Common.{◌≡◌, ℕ, suc, ◌+◌, ◌-◌, ◌<◌, ◌≤◌, ℤ, pos, List, [], ◌∷◌, ◌++◌, length, take, drop, replicate, get_or, set, append_assoc, refl, sym}
use Rattle.std.proofs.Common.{ap, ◌∙◌, subst, add-one, arith}
use Rattle.std.proofs.Math.Seq.{drop-cons, take-suc, set-append_seam, take-append_seam, drop-append_seam}
use Rattle.std.proofs.lemmas.List.{append-nil, length-append, length-take-le}
use Rattle.std.proofs.lemmas.List.{take-append-drop}
use Rattle.std.proofs.Math.Seq.{drop-append-add}
use Rattle.std.specs.List.{refill}
use Rattle.std.specs.Prelude.{Option, Some, None, unwrap_or, unsigned_abs}
use Rattle.fixed_words.specs.declared.types.Fault.{Fault}
use Rattle.std.specs.Prelude.{Result, Ok, Err}
use Rattle.code_units.specs.Calls.{slots_with, HasWordsFor}
use Rattle.code_units.proofs.LinesMean.{step_is}
use Rattle.code_units.proofs.UnitsCompute.{zeroed, zeros_count}
use Rattle.unit_exec.specs.Running.{overwritten}
use Rattle.unit_vm.specs.Frames.{Held, Leaves}
use Rattle.unit_vm.specs.Instructions.{slots_of}
use Rattle.unit_vm.specs.Machine.{Course, Ends, Faults, Goes, Stuck, after, opening, length_in_slots, with_locals_zero, run_part, run_of}
use Rattle.unit_vm.specs.Loops.{cost_of}
use Rattle.unit_vm.specs.Programs.{part_at}
use Rattle.unit_vm.specs.declared.instruction.Instruction.{Instruction}
use Rattle.unit_vm.specs.declared.program.Entry.{Entry}
use Rattle.unit_vm.specs.declared.program.Program.{Program}
use Rattle.unit_vm.specs.declared.program.Sizes.{Sizes}

pub put_more : (old words now : List ℤ) (first k : ℕ) → first + length words ≤ length old → k < length words
    → now ≡ take first old ++ (take k words ++ drop (first + k) old)
    → set now (first + k) (get_or words k (pos 0)) ≡ take first old ++ (take (k + 1) words ++ drop (first + (k + 1)) old)
put_more old words now first k room within is =
    let w : ℤ = get_or words k (pos 0) in
    let here : first + k < length old = omega arith in
    let split : drop (first + k) old ≡ get_or old (first + k) (pos 0) ∷ drop (suc (first + k)) old = drop-cons old (first + k) (pos 0) here in
    let front : List ℤ = take first old ++ take k words in
    let size : length (take first old ++ take k words) ≡ length (take first old) + length (take k words) = length-append (take first old) (take k words) in
    let one : length (take first old) ≡ first = length-take-le first old (omega arith) in
    let two : length (take k words) ≡ k = length-take-le k words (omega arith) in
    let place : first + k ≡ length (take first old ++ take k words) = omega arith in
    let parted : now ≡ (take first old ++ take k words) ++ (get_or old (first + k) (pos 0) ∷ drop (suc (first + k)) old) =
    is ∙ ap (λ rest. take first old ++ (take k words ++ rest)) split
    ∙ sym (append_assoc (take first old) (take k words) (get_or old (first + k) (pos 0) ∷ drop (suc (first + k)) old)) in
    let longer : take (k + 1) words ≡ take k words ++ (w ∷ []) = ap (λ n. take n words) (add-one k) ∙ take-suc words k (pos 0) within in
    let later : first + (k + 1) ≡ suc (first + k) = omega arith in
    ap (λ xs. set xs (first + k) w) parted
    ∙ ap (λ n. set ((take first old ++ take k words) ++ (get_or old (first + k) (pos 0) ∷ drop (suc (first + k)) old)) n w) place
    ∙ set-append_seam (take first old ++ take k words) (get_or old (first + k) (pos 0)) (drop (suc (first + k)) old) w
    ∙ append_assoc (take first old) (take k words) (w ∷ drop (suc (first + k)) old)
    ∙ ap (λ xs. take first old ++ xs)
    (sym (append_assoc (take k words) (w ∷ []) (drop (suc (first + k)) old)) ∙ ap (λ xs. xs ++ drop (suc (first + k)) old) (sym longer)
    ∙ ap (λ n. take (k + 1) words ++ drop n old) (sym later))

pub put_one : (old : List ℤ) (first : ℕ) (word : ℤ) → first < length old → set old first word ≡ take first old ++ (word ∷ drop (first + 1) old)
put_one old first word room =
    let none : first + 0 ≡ first = omega arith in
    let parted : old ≡ take first old ++ ([] ++ drop (first + 0) old) = sym (take-append-drop first old) ∙ ap (λ n. take first old ++ drop n old) (sym none) in
    let within : first + length (word ∷ []) ≤ length old = let l : first + 1 ≤ length old = omega (arith, room) in l in
    ap (λ n. set old n word) (sym none) ∙ put_more old (word ∷ []) old first 0 within (let l : 0 < 1 = omega arith in l) parted

pub put_single : (old : List ℤ) (first : ℕ) (words : List ℤ) → length words ≡ 1 → first < length old
    → set old first (get_or words 0 (pos 0)) ≡ overwritten old first words
put_single old first [] one room = absurd (omega (arith, one))
put_single old first (word ∷ []) one room = put_one old first word room
put_single old first (word ∷ (other ∷ words)) one room = absurd (let g : suc (suc (length words)) ≡ 1 = one in omega (arith, g))

-- Words between others are overwritten by as many.
put_between : (front old behind words : List ℤ) → length old ≡ length words
    → overwritten (front ++ (old ++ behind)) (length front) words ≡ front ++ (words ++ behind)
put_between front old behind words same =
    ap (λ xs. xs ++ (words ++ drop (length front + length words) (front ++ (old ++ behind)))) (take-append_seam front (old ++ behind))
    ∙ ap (λ xs. front ++ (words ++ xs))
    (drop-append-add front (old ++ behind) (length words) ∙ ap (λ n. drop n (old ++ behind)) (sym same) ∙ drop-append_seam old behind)

-- Words cut in two.
pub record Cut (xs : List ℤ) (count : ℕ) : Type 0 where
  pub front : List ℤ
  pub behind : List ℤ
  pub is : xs ≡ front ++ behind
  pub long : length front ≡ count
  pub rest : length xs ≡ count + length behind

cut : (xs : List ℤ) (count : ℕ) → count ≤ length xs → Cut xs count
cut xs count within =
    let long : length (take count xs) ≡ count = length-take-le count xs within in
    let both : xs ≡ take count xs ++ drop count xs = sym (take-append-drop count xs) in
    record {
      front = take count xs;
      behind = drop count xs;
      is = both;
      long = long;
      rest = ap length both ∙ length-append (take count xs) (drop count xs)
          ∙ ap (λ n. n + length (drop count xs)) long;
    }

-- The words of a call overwrite those of a frame. The locals between them stay.
pub record Filled (old state inputs : List ℤ) (locals : ℕ) (time step : ℤ) : Type 0 where
  pub kept : List ℤ
  pub long : length kept ≡ locals
  pub is : overwritten (overwritten (overwritten old 0 state) (length state) inputs) (length old - 2) (time ∷ step ∷ [])
      ≡ (state ++ inputs) ++ (kept ++ (time ∷ step ∷ []))

pub filled : (old state inputs : List ℤ) (locals : ℕ) (time step : ℤ) → length old ≡ length state + length inputs + locals + 2
    → Filled old state inputs locals time step
filled old state inputs locals time step size =
    let one = cut old (length state) (omega arith) in
    let rest_one : length old ≡ length state + length one.behind = one.rest in
    let two = cut one.behind (length inputs) (omega arith) in
    let rest_two : length one.behind ≡ length inputs + length two.behind = two.rest in
    let three = cut two.behind locals (omega arith) in
    let rest_three : length two.behind ≡ locals + length three.behind = three.rest in
    let last : List ℤ = time ∷ step ∷ [] in
    let short : length three.behind ≡ length last = let g : length three.behind ≡ 2 = omega arith in g in
    let first : overwritten old 0 state ≡ state ++ one.behind = ap (λ xs. overwritten xs 0 state) one.is ∙ put_between [] one.front one.behind state one.long in
    let second : overwritten (overwritten old 0 state) (length state) inputs ≡ state ++ (inputs ++ two.behind) =
    ap (λ xs. overwritten xs (length state) inputs) (first ∙ ap (λ xs. state ++ xs) two.is) ∙ put_between state two.front two.behind inputs two.long in
    let joined : state ++ (inputs ++ two.behind) ≡ ((state ++ inputs) ++ three.front) ++ (three.behind ++ []) =
    ap (λ xs. state ++ (inputs ++ xs)) (three.is ∙ ap (λ xs. three.front ++ xs) (sym (append-nil three.behind)))
    ∙ sym (append_assoc state inputs (three.front ++ (three.behind ++ []))) ∙ sym (append_assoc (state ++ inputs) three.front (three.behind ++ [])) in
    let count : length ((state ++ inputs) ++ three.front) ≡ length state + length inputs + locals = length-append (state ++ inputs) three.front
    ∙ ap (λ n. n + length three.front) (length-append state inputs) ∙ ap (λ n. length state + length inputs + n) three.long in
    let place : length old - 2 ≡ length ((state ++ inputs) ++ three.front) = omega arith in
    record {
      kept = three.front;
      long = three.long;
      is =
          ap (λ xs. overwritten xs (length old - 2) last) (second ∙ joined)
          ∙ ap (λ n. overwritten (((state ++ inputs) ++ three.front) ++ (three.behind ++ [])) n last) place
          ∙ put_between ((state ++ inputs) ++ three.front) three.behind [] last short
          ∙ append_assoc (state ++ inputs) three.front (last ++ []);
    }

-- A run depends on slots only through its opening.
same_part : (sizes : Sizes) (part : Option (List Instruction)) (one other : List ℤ) → opening sizes one ≡ opening sizes other
    → run_part sizes part one ≡ run_part sizes part other
same_part sizes None one other same = refl
same_part sizes (Some code) one other same = ap (after code (cost_of code)) same

same_opening : (sizes : Sizes) (front kept other last : List ℤ) (time step : ℤ) → length front ≡ sizes.states + sizes.inputs → length kept ≡ sizes.locals
    → length other ≡ sizes.locals → opening sizes (front ++ (kept ++ (time ∷ step ∷ []))) ≡ opening sizes (front ++ (other ++ (time ∷ step ∷ [])))
same_opening sizes front kept other last time step one two three =
    let last_is = λ (xs : List ℤ). ap length_in_slots (sym (append_assoc front xs (time ∷ step ∷ []))) ∙ step_is (front ++ xs) time step in
    ap
    (λ xs. record {
      place = 0;
      counters = [];
      work =
          record { stack = []; slots = xs; accepted = unsigned_abs (length_in_slots (front ++ (kept ++ (time ∷ step ∷ [])))) };
    })
    (zeroed sizes front kept (time ∷ step ∷ []) one two ∙ sym (zeroed sizes front other (time ∷ step ∷ []) one three))
    ∙ ap
    (λ w. record {
      place = 0;
      counters = [];
      work =
          record { stack = []; slots = with_locals_zero sizes (front ++ (other ++ (time ∷ step ∷ []))); accepted = unsigned_abs w };
    })
    (last_is kept ∙ sym (last_is other))

-- The run of the filled slots is that of the words of the call.
pub runs_alike : (program : Program) (entry : Entry) (old state inputs : List ℤ) (time step : ℕ) → HasWordsFor program state inputs
    → length old ≡ slots_of program.sizes
    → run_of program entry (overwritten (overwritten (overwritten old 0 state) (length state) inputs) (length old - 2) (pos time ∷ pos step ∷ []))
    ≡ run_of program entry (slots_with program.sizes state inputs time step)
runs_alike program entry old state inputs time step words size =
    let a : length state ≡ program.sizes.states = words.each_state in
    let b : length inputs ≡ program.sizes.inputs = words.each_input in
    let whole : length old ≡ length state + length inputs + program.sizes.locals + 2 = omega arith in
    let parts = filled old state inputs program.sizes.locals (pos time) (pos step) whole in
    let front : length (state ++ inputs) ≡ program.sizes.states + program.sizes.inputs = length-append state inputs ∙ ap (λ n. n + length inputs) a
    ∙ ap (λ n. program.sizes.states + n) b in
    ap (run_of program entry) parts.is
    ∙ same_part program.sizes (part_at program entry) _ _
    (same_opening program.sizes (state ++ inputs) parts.kept (replicate program.sizes.locals (pos 0)) [] (pos time) (pos step) front parts.long
    (zeros_count program.sizes.locals))
    ∙ ap (run_of program entry) (append_assoc state inputs (replicate program.sizes.locals (pos 0) ++ (pos time ∷ pos step ∷ [])))

-- What was lent is what was written.
pub lent : (old new : List ℤ) → length new ≡ length old → refill (length old) old new ≡ new
lent old new same =
    ap (λ n. take n (new ++ drop (length new) old)) (sym same) ∙ take-append_seam new (drop (length new) old)

-- What a run leaves depends on its course, and on the facts and the result before.
pub leaves_alike : (course other : Course) (before lent_frame : Held) (result : Result (Unit {0}) Fault) (behind : Held) → course ≡ other
    → lent_frame.facts ≡ before.facts → lent_frame.result ≡ before.result → Leaves course lent_frame result behind → Leaves other before result behind
leaves_alike course other before lent_frame result behind same facts told leaves =
    subst (λ x. Leaves x before result behind) same (by_course course result leaves)
  where
    by_course : (x : Course) (r : Result (Unit {0}) Fault) → Leaves x lent_frame r behind → Leaves x before r behind
    by_course (Ends work answer) (Ok done) is = is
        ∙ ap (λ f. record { facts = f; slots = work.slots; accepted = work.accepted; result = unwrap_or answer lent_frame.result }) facts
        ∙ ap (λ (n : ℤ). record { facts = before.facts; slots = work.slots; accepted = work.accepted; result = unwrap_or answer n }) told
    by_course (Ends work answer) (Err fault) is = is
    by_course (Faults failed) (Ok done) is = is
    by_course (Faults failed) (Err fault) is = (is.0, is.1 ∙ facts)
    by_course (Goes state) (Ok done) is = is
    by_course (Goes state) (Err fault) is = is
    by_course Stuck (Ok done) is = is
    by_course Stuck (Err fault) is = is
