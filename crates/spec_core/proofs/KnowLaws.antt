-- What is known of a world after a list of events: each event keeps it.
use Rattle.std.proofs.Common.{◌≡◌, ◌∙◌, ℕ, suc, ◌==◌, Bool, true, false, if◌then◌else◌, List, [], ◌∷◌, ◌++◌, set, length, take, drop, Some, None}
use Rattle.std.proofs.Common.{Result, inl, inr, refl, sym, ap, subst, ◌⊎◌, append_assoc, append-nil, arith}
use Rattle.std.proofs.lemmas.Bool.{eqb-true, eq-eqb}
use Rattle.std.proofs.lemmas.List.{take_at}
use Rattle.std.proofs.lemmas.List.Concat.{flat_map-append}
use Rattle.std.proofs.lemmas.Option.{same_Some, slice_get_within}
use Rattle.std.specs.List.{Contains, flat_map}
use Rattle.std.specs.Prelude.{slice_get}
use Rattle.list_laws.proofs.Members.{set_there}
use Rattle.fixed_words.specs.declared.types.Fault.{Fault}
use Rattle.guess_board.specs.Chains.{chain_of, code_of, is_same_key, left_of}
use Rattle.guess_board.specs.Events.{backed, first_of, published, taken, with_taken}
use Rattle.guess_board.specs.Guesses.{guessed_line}
use Rattle.guess_board.specs.Lanes.{LaneState}
use Rattle.guess_board.specs.declared.guesses.Policy.{Policy}
use Rattle.guess_board.proofs.ChainLaws.{keys_same}
use Rattle.run_laws.proofs.RunSteps.{step_is_right}
use Rattle.spec_core.specs.Events.{Computes, Does, Finds, GivesBack, Happens, Posts, Publishes, Steals, Takes, posted_by}
use Rattle.spec_core.specs.Interleavings.{BeginTraces, Done, EveryInterleavingIsTold, IsAmong, Leads, WasFilled, WasPosted}
use Rattle.spec_core.specs.Interleavings.{left_in, stands_reached}
use Rattle.spec_core.specs.Worlds.{IsOpenedWorld, WorldState}
use Rattle.spec_core.specs.declared.event.Event.{Event}
use Rattle.spec_core.specs.declared.event.Event.TheVariants as event
use Rattle.spec_core.proofs.AnswerLaws.{common_among, contains_head, left_among, none_there, old_or_new, posted_goes_on}
use Rattle.spec_core.proofs.WorldLaws.{at_set}
use Rattle.trace_core.specs.Runs.{Cell, Empty, Filled, RunState, Stands, cells_of, phase_at, with_found, with_own}
use Rattle.trace_core.specs.Settling.{Moves, Settled, with_redo}
use Rattle.trace_core.specs.declared.phase.Phase.{Phase}
use Rattle.trace_core.specs.declared.phase.Phase.TheVariants.{Ended}
use Rattle.trace_core.specs.declared.phase.Settle.{Settle}
use Rattle.trace_core.specs.declared.phase.Settle.TheVariants as settle
use Rattle.trace_core.proofs.CellLaws.{none_begun}
use Rattle.trace_plan.specs.Plans.{Planned}
use Rattle.trace_rows.proofs.PassedStands.{Walked, walked_first, walked_on}
use Rattle.unit_answers.specs.Answers.{Answered}
use Rattle.unit_answers.specs.Keys.{StepKey}
use Rattle.unit_tree.specs.Components.{Moved}
use Rattle.unit_tree.specs.Compositions.{AreMembers, Composition}
use Rattle.unit_tree.specs.Ports.{IsPlaceOrder}
use Rattle.unit_tree.specs.Successor.{first_position}
use Rattle.unit_tree.specs.Trace.{Goes, HasWords, IsStand, Stand}

-- ---- Lists of events

among_more : (past earlier : List Done) (one next : Done) → IsAmong past earlier one → IsAmong (past ++ next ∷ []) earlier one
among_more past earlier one next among = record {
  later = among.later ++ next ∷ [];
  split = ap (λ all. all ++ next ∷ []) among.split ∙ append_assoc earlier (one ∷ among.later) (next ∷ []);
}

last_among : (past : List Done) (one : Done) → IsAmong (past ++ one ∷ []) past one
last_among past one = record { later = []; split = refl }

pub posted_more : (past : List Done) (instance : ℕ) (one : Answered) (next : Done) → WasPosted past instance one → WasPosted (past ++ next ∷ []) instance one
posted_more past instance one next was = record {
  earlier = was.earlier;
  post = was.post;
  among = among_more past was.earlier was.post next was.among;
  worker = was.worker;
  cells = was.cells;
  is_post = was.is_post;
  old = was.old;
  is_old = was.is_old;
  new = was.new;
  is_new = was.is_new;
  appended = was.appended;
}

filled_more : (past : List Done) (before after : WorldState) (instance : ℕ) (step : Result Moved Fault) (next : Done)
    → after.run.stand ≡ before.run.stand → after.run.phase ≡ before.run.phase → WasFilled past before instance step
    → WasFilled (past ++ next ∷ []) after instance step
filled_more past before after instance step next stand phase was = record {
  earlier = was.earlier;
  fill = was.fill;
  among = among_more past was.earlier was.fill next was.among;
  same_stand = was.same_stand ∙ sym stand;
  same_phase = was.same_phase ∙ sym phase;
  wanted = was.wanted;
  holds = was.holds;
  by = was.by;
}

-- ---- The first answer of a lane

pub first_is : (key : StepKey) (ones : List Answered) (one : Answered) → first_of key ones ≡ Some one → (one.key ≡ key) × Contains ones one
first_is key [] one is = absurd (cc)
first_is key (x ∷ xs) one is = at (is_same_key x.key key) refl is
  where
    at : (b : Bool) → is_same_key x.key key ≡ b → (if b then Some x else None) ≡ Some one → (one.key ≡ key) × Contains (x ∷ xs) one
    at true same some =
        let it : x ≡ one = same_Some x one some in
        (subst (λ (y : Answered). y.key ≡ key) it (keys_same x.key key same), subst (Contains (x ∷ xs)) it (contains_head x xs))
    at false same some = absurd (cc)

-- ---- What is known

abbrev AnswersPosted : List Done → List LaneState → Type 0
AnswersPosted past lanes =
    (instance : ℕ) (lane : LaneState) → slice_get lanes instance ≡ Some lane → (one : Answered) → Contains lane.answers one → WasPosted past instance one

abbrev CellsFilled : List Done → WorldState → Type 0
CellsFilled past now =
    (instance : ℕ) (step : Result Moved Fault) → slice_get now.run.cells instance ≡ Some (Filled step) → WasFilled past now instance step

module _ (plan : Planned) (order : List ℕ) (ordered : IsPlaceOrder plan.run order) (members : AreMembers plan.run) where
  -- Where the run is.
  pub record IsAt (past : List Done) (r : RunState) : Type 0 where
    pub planned : r.plan ≡ plan
    pub words : HasWords plan.run r.stand.at
    pub walked : Walked plan.run (first_position plan.run) (flat_map left_in past) r.stand

  pub record Knows (past : List Done) (now : WorldState) : Type 0 where
    pub is_at : IsAt past now.run
    pub filled : CellsFilled past now
    pub answered : AnswersPosted past now.lanes

  -- ---- Where the run is after an event

  left_none : (past : List Done) (one : Done) → one.after.run.stand ≡ one.before.run.stand
      → flat_map left_in (past ++ one ∷ []) ≡ flat_map left_in past
  left_none past one same =
      let number : (one.after.run.stand.at.number == one.before.run.stand.at.number) ≡ true =
      eq-eqb one.after.run.stand.at.number one.before.run.stand.at.number (ap (λ (stand : Stand). stand.at.number) same) in
      flat_map-append left_in past (one ∷ [])
      ∙ ap (λ (b : Bool). flat_map left_in past ++ ((if b then [] else one.before.run.stand ∷ []) ++ [])) number
      ∙ append-nil (flat_map left_in past)

  not_itself : (n m : ℕ) → m ≡ suc n → (b : Bool) → (m == n) ≡ b → b ≡ false
  not_itself n m is true same = absurd (omega (arith, is, eqb-true m n same))
  not_itself n m is false same = refl

  left_one : (past : List Done) (one : Done) → one.after.run.stand.at.number ≡ suc one.before.run.stand.at.number
      → flat_map left_in (past ++ one ∷ []) ≡ flat_map left_in past ++ one.before.run.stand ∷ []
  left_one past one rose =
      let number : (one.after.run.stand.at.number == one.before.run.stand.at.number) ≡ false =
      not_itself one.before.run.stand.at.number one.after.run.stand.at.number rose (one.after.run.stand.at.number == one.before.run.stand.at.number) refl in
      flat_map-append left_in past (one ∷ [])
      ∙ ap (λ (b : Bool). flat_map left_in past ++ ((if b then [] else one.before.run.stand ∷ []) ++ [])) number

  stays : (past : List Done) (one : Done) → one.after.run.stand ≡ one.before.run.stand → one.after.run.plan ≡ one.before.run.plan
      → IsAt past one.before.run → IsAt (past ++ one ∷ []) one.after.run
  stays past one stand planned had = record {
    planned = planned ∙ had.planned;
    words = subst (λ (s : Stand). HasWords plan.run s.at) (sym stand) had.words;
    walked = subst (λ passed. Walked plan.run (first_position plan.run) passed one.after.run.stand) (sym (left_none past one stand))
        (subst (Walked plan.run (first_position plan.run) (flat_map left_in past)) (sym stand) had.walked);
  }

  moves : (past : List Done) (one : Done) → Moves one.before.run one.after.run → IsAt past one.before.run → IsAt (past ++ one ∷ []) one.after.run
  moves past one moved had =
      let goes : Goes plan.run one.before.run.stand one.after.run.stand =
      subst (λ (p : Planned). Goes p.run one.before.run.stand one.after.run.stand) had.planned moved.goes in
      let right = step_is_right plan.run one.before.run.stand one.after.run.stand members goes in
      let words = right.words had.words in
      record {
        planned = ap (λ (r : RunState). r.plan) moved.is ∙ had.planned;
        words = words;
        walked = subst (λ passed. Walked plan.run (first_position plan.run) passed one.after.run.stand)
            (sym (left_one past one (ap (λ at. at.number) right.agreed)))
            (walked_on plan.run order (first_position plan.run) (flat_map left_in past) one.before.run.stand one.after.run.stand ordered words goes had.walked);
      }

  -- ---- Events that leave the run

  -- The lanes' answers were still posted.
  kept_beside : (past : List Done) (one : Done) → one.after.run ≡ one.before.run → Knows past one.before
      → AnswersPosted (past ++ one ∷ []) one.after.lanes → Knows (past ++ one ∷ []) one.after
  kept_beside past one same had answered = record {
    is_at = stays past one (ap (λ (r : RunState). r.stand) same) (ap (λ (r : RunState). r.plan) same) had.is_at;
    filled = λ instance step there. filled_more past one.before one.after instance step one (ap (λ (r : RunState). r.stand) same)
        (ap (λ (r : RunState). r.phase) same)
        (had.filled instance step (ap (λ (r : RunState). slice_get r.cells instance) (sym same) ∙ there));
    answered = answered;
  }

  same_answers : (past : List Done) (one : Done) → Knows past one.before → AnswersPosted (past ++ one ∷ []) one.before.lanes
  same_answers past one had instance lane there answer has = posted_more past instance answer one (had.answered instance lane there answer has)

  -- One lane changed.
  one_changed : (past : List Done) (one : Done) (instance : ℕ) (new : LaneState) → Knows past one.before
      → ((answer : Answered) → Contains new.answers answer → WasPosted (past ++ one ∷ []) instance answer)
      → AnswersPosted (past ++ one ∷ []) (set one.before.lanes instance new)
  one_changed past one instance new had own =
      at_set (λ at lane. (answer : Answered) → Contains lane.answers answer → WasPosted (past ++ one ∷ []) at answer) one.before.lanes instance new
      (λ other lane differ there. same_answers past one had other lane there) own

  lanes_as : (past : List Done) (one : Done) (lanes : List LaneState) → one.after.lanes ≡ lanes → AnswersPosted (past ++ one ∷ []) lanes
      → AnswersPosted (past ++ one ∷ []) one.after.lanes
  lanes_as past one lanes is answered = subst (AnswersPosted (past ++ one ∷ [])) (sym is) answered

  publish : (past : List Done) (one : Done) (instance : ℕ) → Knows past one.before → Publishes one.before instance one.reply one.after
      → Knows (past ++ one ∷ []) one.after
  publish past one instance had does =
      let line = guessed_line one.before.policy does.seen one.before.window in
      let new = published does.lane does.seen.row does.state line in
      kept_beside past one (ap (λ (w : WorldState). w.run) does.is) had
      (lanes_as past one (set one.before.lanes instance new) (ap (λ (w : WorldState). w.lanes) does.is)
      (one_changed past one instance new had (λ answer has.
      posted_more past instance answer one (had.answered instance does.lane does.is_lane answer
      (left_among line does.lane.answers answer
      (common_among (left_of line does.lane.answers) (chain_of (code_of does.lane.image) does.state line) answer has))))))

  take_one : (past : List Done) (one : Done) (worker instance : ℕ) → Knows past one.before → Takes one.before worker instance one.reply one.after
      → Knows (past ++ one ∷ []) one.after
  take_one past one worker instance had does =
      let as_before : (taken does.lane).answers ≡ does.lane.answers = ap (λ given. (with_taken does.lane given).answers) does.gives in
      kept_beside past one (ap (λ (w : WorldState). w.run) does.is) had
      (lanes_as past one (set one.before.lanes instance (taken does.lane)) (ap (λ (w : WorldState). w.lanes) does.is)
      (one_changed past one instance (taken does.lane) had (λ answer has.
      posted_more past instance answer one
      (had.answered instance does.lane does.is_lane answer (subst (λ all. Contains all answer) as_before has)))))

  steal : (past : List Done) (one : Done) (worker from : ℕ) → Knows past one.before → Steals one.before worker from one.reply one.after
      → Knows (past ++ one ∷ []) one.after
  steal past one worker from had does =
      kept_beside past one (ap (λ (w : WorldState). w.run) does.is) had
      (lanes_as past one one.before.lanes (ap (λ (w : WorldState). w.lanes) does.is) (same_answers past one had))

  give_back : (past : List Done) (one : Done) (worker : ℕ) → Knows past one.before → GivesBack one.before worker one.reply one.after
      → Knows (past ++ one ∷ []) one.after
  give_back past one worker had does =
      kept_beside past one (ap (λ (w : WorldState). w.run) does.is) had
      (lanes_as past one (set one.before.lanes does.ticket.instance (backed does.lane does.ticket.number)) (ap (λ (w : WorldState). w.lanes) does.is)
      (one_changed past one does.ticket.instance (backed does.lane does.ticket.number) had (λ answer has.
      posted_more past does.ticket.instance answer one (had.answered does.ticket.instance does.lane does.is_lane answer has))))

  post : (past : List Done) (one : Done) (worker cells : ℕ) → one.event ≡ event.Post worker cells → Knows past one.before
      → Posts one.before worker cells one.reply one.after → Knows (past ++ one ∷ []) one.after
  post past one worker cells is_post had does =
      let instance = does.ticket.instance in
      let new = posted_by does.lane does.ticket cells in
      let lanes : one.after.lanes ≡ set one.before.lanes instance new = ap (λ (w : WorldState). w.lanes) does.is in
      let goes_on = posted_goes_on (code_of does.lane.image) does.lane.state does.lane.line does.lane.answers
      (chain_of (code_of does.lane.image) does.ticket.start (take cells does.ticket.cells)) in
      kept_beside past one (ap (λ (w : WorldState). w.run) does.is) had
      (lanes_as past one (set one.before.lanes instance new) lanes
      (one_changed past one instance new had (λ answer has.
      by answer (old_or_new does.lane.answers new.answers answer goes_on has))))
    where
      by : (answer : Answered) → Contains does.lane.answers answer
          ⊎ Contains (drop (length does.lane.answers) (posted_by does.lane does.ticket cells).answers) answer
          → WasPosted (past ++ one ∷ []) does.ticket.instance answer
      by answer (inl there) = posted_more past does.ticket.instance answer one (had.answered does.ticket.instance does.lane does.is_lane answer there)
      by answer (inr appended) = record {
        earlier = past;
        post = one;
        among = last_among past one;
        worker = worker;
        cells = cells;
        is_post = is_post;
        old = does.lane;
        is_old = does.is_lane;
        new = posted_by does.lane does.ticket cells;
        is_new = ap (λ (w : WorldState). slice_get w.lanes does.ticket.instance) does.is
            ∙ set_there one.before.lanes does.ticket.instance (posted_by does.lane does.ticket cells)
            (slice_get_within one.before.lanes does.ticket.instance does.lane does.is_lane);
        appended = appended;
      }

  -- ---- Events of the run

  -- The lanes stay, and the run stays at its stand.
  fills : (past : List Done) (one : Done) (instance : ℕ) (step : Result Moved Fault) → Knows past one.before
      → one.after.lanes ≡ one.before.lanes → one.after.run.plan ≡ one.before.run.plan → one.after.run.stand ≡ one.before.run.stand
      → one.after.run.phase ≡ one.before.run.phase → one.after.run.cells ≡ set one.before.run.cells instance (Filled step)
      → WasFilled (past ++ one ∷ []) one.after instance step → Knows (past ++ one ∷ []) one.after
  fills past one instance step had lanes planned stand phase cells was = record {
    is_at = stays past one stand planned had.is_at;
    filled = λ other made there.
        at_set (λ at cell. (given : Result Moved Fault) → cell ≡ Filled given → WasFilled (past ++ one ∷ []) one.after at given) one.before.run.cells instance
        (Filled step)
        (λ at cell differ at_cell given is. filled_more past one.before one.after at given one stand phase
        (had.filled at given (at_cell ∙ ap Some is)))
        (λ given is. subst (WasFilled (past ++ one ∷ []) one.after instance) (same_filled step given is) was)
        other (Filled made) (ap (λ all. slice_get all other) (sym cells) ∙ there) made refl;
    answered = lanes_as past one one.before.lanes lanes (same_answers past one had);
  }
    where
      same_filled : (a b : Result Moved Fault) → Filled a ≡ Filled b → a ≡ b
      same_filled a b is = cc

  cell_there : (cells : List Cell) (instance : ℕ) (step : Result Moved Fault) → slice_get cells instance ≡ Some Empty
      → slice_get (set cells instance (Filled step)) instance ≡ Some (Filled step)
  cell_there cells instance step at = set_there cells instance (Filled step) (slice_get_within cells instance Empty at)

  find : (past : List Done) (one : Done) (instance : ℕ) → one.event ≡ event.Find instance → Knows past one.before
      → Finds one.before instance one.reply one.after → Knows (past ++ one ∷ []) one.after
  find past one instance is_find had does =
      let first = first_is does.key does.lane.answers does.one does.is_found in
      let run : one.after.run ≡ with_found one.before.run instance does.one.answer = ap (λ (w : WorldState). w.run) does.is in
      fills past one instance does.one.answer had (ap (λ (w : WorldState). w.lanes) does.is) (ap (λ (r : RunState). r.plan) run)
      (ap (λ (r : RunState). r.stand) run) (ap (λ (r : RunState). r.phase) run) (ap (λ (r : RunState). r.cells) run) (record {
        earlier = past;
        fill = one;
        among = last_among past one;
        same_stand = refl;
        same_phase = refl;
        wanted = does.looks.wanted;
        holds = ap (λ (r : RunState). slice_get r.cells instance) run ∙ cell_there one.before.run.cells instance does.one.answer does.looks.wanted;
        by = inl (record {
          is_find = is_find;
          replied = does.replied;
          lane = does.lane;
          key = does.key;
          looks = does.looks;
          one = does.one;
          is_found = does.is_found;
          same_key = first.0;
          tells = refl;
          posted = had.answered instance does.lane does.looks.is_lane does.one first.1;
        });
      })

  compute : (past : List Done) (one : Done) (instance : ℕ) → one.event ≡ event.Compute instance → Knows past one.before
      → Computes one.before instance one.reply one.after → Knows (past ++ one ∷ []) one.after
  compute past one instance is_compute had does =
      let step = does.computed.step in
      let run : one.after.run ≡ with_own one.before.run instance step = does.computed.is in
      fills past one instance step had (ap (λ (w : WorldState). w.lanes) does.is) (ap (λ (r : RunState). r.plan) run)
      (ap (λ (r : RunState). r.stand) run) (ap (λ (r : RunState). r.phase) run) (ap (λ (r : RunState). r.cells) run) (record {
        earlier = past;
        fill = one;
        among = last_among past one;
        same_stand = refl;
        same_phase = refl;
        wanted = does.wanted;
        holds = ap (λ (r : RunState). slice_get r.cells instance) run ∙ cell_there one.before.run.cells instance step does.wanted;
        by = inr (record { is_compute = is_compute; replied = does.replied });
      })

  -- After a settle no cell is filled.
  emptied : (past : List Done) (one : Done) (run : Composition) (t : ℕ) (phase : Phase) → one.after.run.cells ≡ cells_of run t phase
      → CellsFilled (past ++ one ∷ []) one.after
  emptied past one run t phase cells instance step there =
      absurd (none_begun run t phase instance step (ap (λ all. slice_get all instance) (sym cells) ∙ there))

  moved_on : (past : List Done) (one : Done) → Knows past one.before → one.after.lanes ≡ one.before.lanes → Moves one.before.run one.after.run
      → Knows (past ++ one ∷ []) one.after
  moved_on past one had lanes moved = record {
    is_at = moves past one moved had.is_at;
    filled = emptied past one one.before.run.plan.run one.after.run.stand.at.point.t (phase_at one.before.run.plan.run one.after.run.stand)
        (ap (λ (r : RunState). r.cells) moved.is);
    answered = lanes_as past one one.before.lanes lanes (same_answers past one had);
  }

  settled : (past : List Done) (one : Done) (to : Settle) → Knows past one.before → one.after.lanes ≡ one.before.lanes
      → Settled one.before.run one.after.run to → Knows (past ++ one ∷ []) one.after
  settled past one settle.Redo had lanes (due, is) = record {
    is_at = stays past one (ap (λ (r : RunState). r.stand) is) (ap (λ (r : RunState). r.plan) is) had.is_at;
    filled = emptied past one one.before.run.plan.run one.before.run.stand.at.point.t (with_redo one.before.run).phase (ap (λ (r : RunState). r.cells) is);
    answered = lanes_as past one one.before.lanes lanes (same_answers past one had);
  }
  settled past one settle.Row had lanes (moved, known) = moved_on past one had lanes moved
  settled past one settle.Ended had lanes (inl (moved, unknown)) = moved_on past one had lanes moved
  settled past one settle.Ended had lanes (inr ended) = record {
    is_at = stays past one (ap (λ (r : RunState). r.stand) ended.is) (ap (λ (r : RunState). r.plan) ended.is) had.is_at;
    filled = emptied past one one.before.run.plan.run 0 (Ended ended.ending) (ap (λ (r : RunState). r.cells) ended.is);
    answered = lanes_as past one one.before.lanes lanes (same_answers past one had);
  }

  -- ---- Any event

  refused : (past : List Done) (one : Done) → Knows past one.before → one.after ≡ one.before → Knows (past ++ one ∷ []) one.after
  refused past one had same =
      kept_beside past one (ap (λ (w : WorldState). w.run) same) had
      (lanes_as past one one.before.lanes (ap (λ (w : WorldState). w.lanes) same) (same_answers past one had))

  does_by : (past : List Done) (one : Done) (what : Event) → one.event ≡ what → Knows past one.before
      → Does one.before what one.reply one.after → Knows (past ++ one ∷ []) one.after
  does_by past one (event.Publish instance) is had does = publish past one instance had does
  does_by past one (event.Take worker instance) is had does = take_one past one worker instance had does
  does_by past one (event.Steal worker from) is had does = steal past one worker from had does
  does_by past one (event.Post worker cells) is had does = post past one worker cells is had does
  does_by past one (event.Back worker) is had does = give_back past one worker had does
  does_by past one (event.Find instance) is had (inl does) = find past one instance is had does
  does_by past one (event.Find instance) is had (inr does) = refused past one had does.is
  does_by past one (event.Compute instance) is had does = compute past one instance is had does
  does_by past one event.Settle is had does = settled past one does.to had (ap (λ (w : WorldState). w.lanes) does.is) does.settled

  pub one_keeps : (past : List Done) (one : Done) → Knows past one.before → Happens one.before one.event one.reply one.after
      → Knows (past ++ one ∷ []) one.after
  one_keeps past one had (inl does) = does_by past one one.event refl had does
  one_keeps past one had (inr refuses) = refused past one had refuses.is

  pub all_keep : (earlier past : List Done) (from to : WorldState) → Knows earlier from → Leads from past to → Knows (earlier ++ past) to
  all_keep earlier [] from to had is = subst (λ all. Knows all to) (sym (append-nil earlier)) (subst (Knows earlier) is had)
  all_keep earlier (one ∷ others) from to had (is, happens, leads) =
      subst (λ all. Knows all to) (append_assoc earlier (one ∷ []) others)
      (all_keep (earlier ++ one ∷ []) others one.after to (one_keeps earlier one (subst (Knows earlier) (sym is) had) happens) leads)

  pub begins : (past : List Done) (now : WorldState) → IsAt past now.run → BeginTraces plan.run (stands_reached past now)
  begins past now at stands ending trace =
      let on = at.walked stands ending trace in
      let here = now.run.stand in
      let split : stands ≡ stands_reached past now ++ on.later =
      on.split ∙ sym (append_assoc (flat_map left_in past) (here ∷ []) on.later) in
      ap (take (length (stands_reached past now))) split ∙ take_at (stands_reached past now) on.later (length (stands_reached past now)) refl

-- ---- From an opened world

module _ (plan : Planned) (workers window : ℕ) (policy : Policy) (opened : WorldState) (is : IsOpenedWorld plan workers window policy opened)
    (stands : Stands opened.run) where
  abbrev pub same_plan : opened.run.plan ≡ plan
  same_plan = ap (λ (r : RunState). r.plan) is.run.is

  abbrev pub order : IsPlaceOrder plan.run stands.order
  order = subst (λ (p : Planned). IsPlaceOrder p.run stands.order) same_plan stands.ordered

  abbrev pub members : AreMembers plan.run
  members = subst (λ (p : Planned). AreMembers p.run) same_plan stands.members

  words : HasWords plan.run opened.run.stand.at
  words = subst (λ (p : Planned). HasWords p.run opened.run.stand.at) same_plan stands.words

  is_stand : IsStand plan.run opened.run.stand
  is_stand = subst (λ (p : Planned). IsStand p.run opened.run.stand) same_plan stands.is_stand

  pub known_first : Knows plan stands.order order members [] opened
  known_first = record {
    is_at = record {
      planned = same_plan;
      words = words;
      walked = walked_first plan.run stands.order (first_position plan.run) opened.run.stand order words is_stand
          (ap (λ (r : RunState). r.stand.at) is.run.is);
    };
    filled = λ instance step there. absurd (none_begun plan.run 0
        (phase_at plan.run (record { at = first_position plan.run; ports = opened.run.stand.ports })) instance step
        (ap (λ (r : RunState). slice_get r.cells instance) (sym is.run.is) ∙ there));
    answered = λ instance lane there one has. absurd (none_there one (subst (λ all. Contains all one)
        (ap (λ (l : LaneState). l.answers) (is.lanes.each instance lane there)) has));
  }

pub every_interleaving_is_told_lem : EveryInterleavingIsTold
every_interleaving_is_told_lem plan workers window policy opened now past is stands leads =
    let knows = all_keep plan stands.order (order plan workers window policy opened is stands) (members plan workers window policy opened is stands) [] past
    opened now (known_first plan workers window policy opened is stands) leads in
    record {
      reached = begins plan stands.order (order plan workers window policy opened is stands) (members plan workers window policy opened is stands) past now
          knows.is_at;
      filled = knows.filled;
      answered = λ instance lane one there has. knows.answered instance lane there one has;
    }
