-- The machine follows a piece at any place.
use Rattle.std.proofs.Common.{◌≡◌, ℕ, zero, suc, ◌+◌, ◌-◌, Bool, true, false, ℤ, List, [], ◌∷◌, ◌++◌, length, Some, refl, sym, ap, ◌∙◌, subst, arith}
use Rattle.std.proofs.Common.{length-append}
use Rattle.std.specs.Prelude.{slice_get, ⊤, if◌then◌else◌}
use Rattle.fixed_words.specs.Operations.{is_zero}
use Rattle.fixed_words.specs.declared.types.Fault.{Fault}
use Rattle.unit_vm.specs.declared.instruction.Instruction.{Instruction}
use Rattle.unit_vm.specs.declared.instruction.Instruction.TheVariants.{Jump, JumpFalse, Loop, Next, Give, Limit}
use Rattle.unit_vm.specs.declared.instruction.Flow.{Flow}
use Rattle.unit_vm.specs.declared.instruction.Flow.TheVariants as flow
use Rattle.unit_vm.specs.declared.program.CodeFacts.{CodeFacts}
use Rattle.unit_vm.specs.declared.program.Sizes.{Sizes}
use Rattle.unit_vm.specs.Instructions.{flow_of}
use Rattle.unit_vm.specs.Loops.{cost_of}
use Rattle.unit_vm.specs.Machine.{Work, Did, Does, Fails, Lacks, act, State, Course, Goes, Ends, Faults, Stuck, goes_on, branches, ends_with, ends, follows}
use Rattle.unit_vm.specs.Machine.{turn, then_goes, after, opening, run_part}
use Rattle.unit_vm.specs.Laws.{StaysWithinHeights, IsOver}
use Rattle.unit_vm.proofs.RunEndings.{valid_runs_end_lem}
use Rattle.code_pieces.specs.Pieces.{Piece, Nothing, One, Then, Choice, When, Turns, flat, and_then, chosen, repeated, does, part_code, finished}
use Rattle.code_pieces.specs.Laws.{PiecesAreFollowed}
use Rattle.code_pieces.proofs.ItemPlaces.{HasAt, has_front, has_back, has_to, has_itself}
use Rattle.code_pieces.proofs.PieceShapes.{Made, made}

abbrev at : ℕ → List ℕ → Work → State
at place counters work = record { place = place; counters = counters; work = work }

module _ (code : List Instruction) where
  -- A run gets from one state to another, and goes on from there.
  abbrev Comes : State → State → Type 0
  Comes s t = (n : ℕ) → (m : ℕ) × (after code m s ≡ after code n t)

  -- A run gets from a state to a place with these counters, where the work succeeds. Otherwise it ends as the work does.
  abbrev Leads : State → ℕ → List ℕ → Did → Type 0
  Leads s place counters (Does work) = Comes s (at place counters work)
  Leads s place counters (Fails failed) = (m : ℕ) × (after code m s ≡ Faults failed)
  Leads s place counters Lacks = (m : ℕ) × (after code m s ≡ Stuck)

  step : (s : State) (i : Instruction) (f : Flow) → slice_get code s.place ≡ Some i → flow_of i ≡ f → (n : ℕ)
      → after code (suc n) s ≡ then_goes (follows f i s) (after code n)
  step s i f here e n = ap (λ o. then_goes (turn o s) (after code n)) here ∙ ap (λ f. then_goes (follows f i s) (after code n)) e

  comes_first : (s t : State) (place : ℕ) (counters : List ℕ) (d : Did) → Comes s t → Leads t place counters d → Leads s place counters d
  comes_first s t place counters (Does work) c l = λ n. let b = l n in let a = c b.0 in (a.0, a.1 ∙ b.1)
  comes_first s t place counters (Fails failed) c l = let a = c l.0 in (a.0, a.1 ∙ l.1)
  comes_first s t place counters Lacks c l = let a = c l.0 in (a.0, a.1 ∙ l.1)

  then_leads : (s : State) (middle : ℕ) (between : List ℕ) (place : ℕ) (counters : List ℕ) (d : Did) (next : Work → Did)
      → Leads s middle between d → ((work : Work) → Leads (at middle between work) place counters (next work)) → Leads s place counters (and_then d next)
  then_leads s middle between place counters (Does work) next l h = comes_first s (at middle between work) place counters (next work) l (h work)
  then_leads s middle between place counters (Fails failed) next l h = l
  then_leads s middle between place counters Lacks next l h = l

  comes_last : (s : State) (middle : ℕ) (between : List ℕ) (place : ℕ) (counters : List ℕ) (d : Did)
      → Leads s middle between d → ((work : Work) → Comes (at middle between work) (at place counters work)) → Leads s place counters d
  comes_last s middle between place counters (Does work) l h = λ n. let b = h work n in let a = l b.0 in (a.0, a.1 ∙ b.1)
  comes_last s middle between place counters (Fails failed) l h = l
  comes_last s middle between place counters Lacks l h = l

  leads_to : (s : State) (place other : ℕ) (counters : List ℕ) (d : Did) → place ≡ other → Leads s place counters d → Leads s other counters d
  leads_to s place other counters d e l = subst (λ p. Leads s p counters d) e l

  one_leads : (s : State) (i : Instruction) (d : Did) → slice_get code s.place ≡ Some i → flow_of i ≡ flow.On → act i s.work ≡ d
      → Leads s (suc s.place) s.counters d
  one_leads s i (Does work) here e is = λ n. (suc n, step s i flow.On here e n ∙ ap (λ d. then_goes (goes_on s d) (after code n)) is)
  one_leads s i (Fails failed) here e is = (1, step s i flow.On here e 0 ∙ ap (λ d. then_goes (goes_on s d) (after code 0)) is)
  one_leads s i Lacks here e is = (1, step s i flow.On here e 0 ∙ ap (λ d. then_goes (goes_on s d) (after code 0)) is)

  jump_comes : (place distance other : ℕ) (counters : List ℕ) (work : Work) → slice_get code place ≡ Some (Jump distance) → place + distance ≡ other
      → Comes (at place counters work) (at other counters work)
  jump_comes place distance other counters work here e n =
      (suc n, step (at place counters work) (Jump distance) (flow.Ahead distance) here refl n ∙ ap (λ p. after code n (at p counters work)) e)

  -- A word is popped, and one of two paths is taken.
  choice_leads : (place distance end : ℕ) (counters : List ℕ) (work : Work) (stack : List ℤ) (first second : Work → Did)
      → slice_get code place ≡ Some (JumpFalse distance) → work.stack ≡ stack
      → ((rest : Work) → Leads (at (suc place) counters rest) end counters (first rest))
      → ((rest : Work) → Leads (at (place + distance) counters rest) end counters (second rest))
      → Leads (at place counters work) end counters (chosen first second work stack)
  choice_leads place distance end counters work [] first second here e yes_way no_way = (
    1,
    step (at place counters work) (JumpFalse distance) (flow.Branch distance) here refl 0
        ∙ ap (λ ws. then_goes (branches distance (at place counters work) ws) (after code 0)) e,
  )
  choice_leads place distance end counters work (word ∷ rest) first second here e yes_way no_way =
      by_test (is_zero word)
      (λ n. (
        suc n,
        step (at place counters work) (JumpFalse distance) (flow.Branch distance) here refl n
            ∙ ap (λ ws. then_goes (branches distance (at place counters work) ws) (after code n)) e,
      ))
    where
      by_test : (is_none : Bool) → Comes (at place counters work) (at (if is_none then place + distance else suc place) counters (record work { stack = rest }))
          → Leads (at place counters work) end counters ((if is_none then second else first) (record work { stack = rest }))
      by_test true c =
          comes_first (at place counters work) (at (place + distance) counters (record work { stack = rest })) end counters
          (second (record work { stack = rest })) c (no_way (record work { stack = rest }))
      by_test false c =
          comes_first (at place counters work) (at (suc place) counters (record work { stack = rest })) end counters (first (record work { stack = rest })) c
          (yes_way (record work { stack = rest }))

  -- From the first instruction of a loop's body, with so many turns left after this one.
  turns_lead : (begin size : ℕ) (counters : List ℕ) (body : Work → Did) → slice_get code (begin + size) ≡ Some (Next size)
      → ((counter : ℕ) (work : Work) → Leads (at begin (counter ∷ counters) work) (begin + size) (counter ∷ counters) (body work))
      → (left : ℕ) (work : Work) → Leads (at begin (suc left ∷ counters) work) (suc (begin + size)) counters (repeated (suc left) body work)
  turns_lead begin size counters body here runs zero work =
      then_leads (at begin (1 ∷ counters) work) (begin + size) (1 ∷ counters) (suc (begin + size)) counters (body work) (repeated 0 body) (runs 1 work)
      (λ behind n. (suc n, step (at (begin + size) (1 ∷ counters) behind) (Next size) (flow.Back size) here refl n))
  turns_lead begin size counters body here runs (suc left) work =
      let back : begin + size - size ≡ begin = omega arith in
      then_leads (at begin (suc (suc left) ∷ counters) work) (begin + size) (suc (suc left) ∷ counters) (suc (begin + size)) counters (body work)
      (repeated (suc left) body) (runs (suc (suc left)) work)
      (λ behind.
      comes_first (at (begin + size) (suc (suc left) ∷ counters) behind) (at begin (suc left ∷ counters) behind) (suc (begin + size)) counters
      (repeated (suc left) body behind)
      (λ n. (
        suc n,
        step (at (begin + size) (suc (suc left) ∷ counters) behind) (Next size) (flow.Back size) here refl n
            ∙ ap (λ p. after code n (at p (suc left ∷ counters) behind)) back,
      ))
      (turns_lead begin size counters body here runs left behind))

  pub piece_leads : (sizes : Sizes) (piece : Piece) → Made sizes piece → (place : ℕ) → HasAt code place (flat piece) → (counters : List ℕ) (work : Work)
      → Leads (at place counters work) (place + length (flat piece)) counters (does piece work)
  piece_leads sizes Nothing m place has counters work = let e : place ≡ place + 0 = omega arith in λ n. (n, ap (λ p. after code n (at p counters work)) e)
  piece_leads sizes (One instruction) m place has counters work =
      let e : suc place ≡ place + 1 = omega arith in
      leads_to _ _ _ counters _ e (one_leads (at place counters work) instruction (act instruction work) has.0 m.0 refl)
  piece_leads sizes (Then first second) m place has counters work =
      let e : place + length (flat first) + length (flat second) ≡ place + length (flat first ++ flat second) =
      omega (arith, length-append (flat first) (flat second)) in
      leads_to _ _ _ counters _ e
      (then_leads (at place counters work) (place + length (flat first)) counters _ counters (does first work) (does second)
      (piece_leads sizes first m.0 place (has_front code place (flat first) (flat second) has) counters work)
      (piece_leads sizes second m.1 (place + length (flat first)) (has_back code place (flat first) (flat second) has) counters))
  piece_leads sizes (Choice first second) m place has counters work =
      let tail = Jump (length (flat second) + 1) ∷ flat second in
      let long = length-append (flat first) tail in
      let end = place + length (flat (Choice first second)) in
      let rest = has_back code (suc place) (flat first) tail has.1 in
      let over : suc place + length (flat first) + (length (flat second) + 1) ≡ end = omega (arith, long) in
      let other : suc (suc place + length (flat first)) ≡ place + (length (flat first) + 2) = omega arith in
      let last : place + (length (flat first) + 2) + length (flat second) ≡ end = omega (arith, long) in
      choice_leads place (length (flat first) + 2) end counters work work.stack (does first) (does second) has.0 refl
      (λ behind. comes_last (at (suc place) counters behind) (suc place + length (flat first)) counters end counters (does first behind)
      (piece_leads sizes first m.0 (suc place) (has_front code (suc place) (flat first) tail has.1) counters behind)
      (λ done. jump_comes (suc place + length (flat first)) (length (flat second) + 1) end counters done rest.0 over))
      (λ behind.
      leads_to _ _ _ counters _ last
      (piece_leads sizes second m.1 (place + (length (flat first) + 2)) (has_to code _ _ (flat second) other rest.1) counters behind))
  piece_leads sizes (When body) m place has counters work =
      let end = place + length (flat (When body)) in
      let there : suc place + length (flat body) ≡ end = omega arith in
      let over : place + (length (flat body) + 1) ≡ end = omega arith in
      choice_leads place (length (flat body) + 1) end counters work work.stack (does body) (λ rest. Does rest) has.0 refl
      (λ behind. leads_to _ _ _ counters _ there (piece_leads sizes body m (suc place) has.1 counters behind))
      (λ behind n. (n, ap (λ p. after code n (at p counters behind)) over))
  piece_leads sizes (Turns zero body) m place has counters work = absurd (let z = m.0 in omega (arith, z))
  piece_leads sizes (Turns (suc left) body) m place has counters work =
      let tail = Next (length (flat body)) ∷ [] in
      let rest = has_back code (suc place) (flat body) tail has.1 in
      let end : suc (suc place + length (flat body)) ≡ place + length (flat (Turns (suc left) body)) = omega (arith, length-append (flat body) tail) in
      leads_to _ _ _ counters _ end
      (comes_first (at place counters work) (at (suc place) (suc left ∷ counters) work) _ counters (repeated (suc left) (does body) work)
      (λ n. (suc n, step (at place counters work) (Loop (suc left)) (flow.Open (suc left)) has.0 refl n))
      (turns_lead (suc place) (length (flat body)) counters (does body) rest.0
      (λ counter behind. piece_leads sizes body m.2 (suc place) (has_front code (suc place) (flat body) tail has.1) (counter ∷ counters) behind) left work))

-- The course of a run that has ended.
abbrev IsLast : Course → Type 0
IsLast (Goes state) = ⊥
IsLast _ = ⊤

last_stays : (course : Course) (next : State → Course) → IsLast course → then_goes course next ≡ course
last_stays (Goes state) next h = absurd h
last_stays (Ends work answer) next h = refl
last_stays (Faults failed) next h = refl
last_stays Stuck next h = refl

told_last : (work : Work) (word : ℤ) (failed : Fault) (told : Bool) → IsLast (if told then Ends work (Some word) else Faults failed)
told_last work word failed true = tt
told_last work word failed false = tt

with_last : (test : ℤ → Bool) (failed : Fault) (work : Work) (stack : List ℤ) → IsLast (ends_with test failed work stack)
with_last test failed work [] = tt
with_last test failed work (word ∷ rest) = told_last work word failed (test word)

ends_last : (i : Instruction) (work : Work) → IsLast (ends i work)
ends_last (Give ty) work = with_last _ _ work work.stack
ends_last Limit work = with_last _ _ work work.stack
ends_last _ work = tt

finished_last : (finish : Instruction) (d : Did) → IsLast (finished finish d)
finished_last finish (Does work) = ends_last finish work
finished_last finish (Fails failed) = tt
finished_last finish Lacks = tt

last_over : (facts : CodeFacts) (course : Course) → IsLast course → StaysWithinHeights facts course → IsOver course
last_over facts (Goes state) l w = absurd l
last_over facts (Ends work answer) l w = tt
last_over facts (Faults failed) l w = tt
last_over facts Stuck l w = w

finish_leads : (code : List Instruction) (s : State) (place : ℕ) (finish : Instruction) (d : Did) → slice_get code place ≡ Some finish
    → flow_of finish ≡ flow.End
    → Leads code s place [] d → (m : ℕ) × (after code m s ≡ finished finish d)
finish_leads code s place finish (Does work) here e l =
    let a = l 1 in (a.0, a.1 ∙ (step code (at place [] work) finish flow.End here e 0 ∙ last_stays (ends finish work) (after code 0) (ends_last finish work)))
finish_leads code s place finish (Fails failed) here e l = l
finish_leads code s place finish Lacks here e l = l

-- A run that is over stays over.
stays_over : (code : List Instruction) (m n : ℕ) (s : State) (course : Course) → IsOver course → after code m s ≡ course → after code (m + n) s ≡ course
stays_over code zero n s course over e = absurd (subst IsOver (sym e) over)
stays_over code (suc m) n s course over e =
    let sum : suc m + n ≡ suc (m + n) = omega arith in
    ap (λ k. after code k s) sum ∙ on (λ t. stays_over code m n t course over) (turn (slice_get code s.place) s) e
  where
    on : ((t : State) → after code m t ≡ course → after code (m + n) t ≡ course) → (now : Course) → then_goes now (after code m) ≡ course
        → then_goes now (after code (m + n)) ≡ course
    on later (Goes t) e = later t e
    on later (Ends work answer) e = e
    on later (Faults failed) e = e
    on later Stuck e = e

one_answer : (code : List Instruction) (m n : ℕ) (s : State) (one other : Course) → IsOver one → IsOver other → after code m s ≡ one → after code n s ≡ other
    → one ≡ other
one_answer code m n s one other x y e f =
    let sum : m + n ≡ n + m = omega arith in
    sym (stays_over code m n s one x e) ∙ (ap (λ k. after code k s) sum ∙ stays_over code n m s other y f)

pub pieces_are_followed_lem : PiecesAreFollowed
pieces_are_followed_lem program facts h entry piece finish part e right slots l =
    let code = part_code piece finish in
    let s = opening program.sizes slots in
    let run = valid_runs_end_lem program facts h entry code part slots l in
    let is_run = ap (λ o. run_part program.sizes o slots) part in
    let has = has_itself code in
    let front = has_front code 0 (flat piece) (finish ∷ []) has in
    let end = has_back code 0 (flat piece) (finish ∷ []) has in
    let leads = piece_leads code program.sizes piece (made program.sizes piece right) 0 front [] s.work in
    let told = finish_leads code s (0 + length (flat piece)) finish (does piece s.work) end.0 e leads in
    let within = subst (StaysWithinHeights facts) told.1 (run.stacks told.0) in
    let over = last_over facts (finished finish (does piece s.work)) (finished_last finish (does piece s.work)) within in
    is_run ∙ one_answer code (cost_of code) told.0 s (after code (cost_of code) s) (finished finish (does piece s.work))
    (subst IsOver is_run run.over) over refl told.1
