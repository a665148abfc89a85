-- The trace of the system of a table.
use Rattle.std.proofs.Common.{◌≡◌, ℕ, suc, ◌+◌, ◌-◌, ◌*◌, ◌/◌, ◌<◌, ◌≤◌, ◌^◌, ◌==◌, min, Bool, true, false, ℤ, pos, List, [], ◌∷◌, ◌++◌, map, length, unsigned_abs, if◌then◌else◌, Option, Some, None, Result, Ok, Err, refl, sym, ap, ap₂, subst, ◌∙◌, append_assoc, take, arith}
use Rattle.std.specs.Prelude.{nat_lt, nat_le, unwrap_or, ◌&&◌, not, zip}
use Rattle.std.specs.List.{AllByRecursion, cons_option, filter, filter_map}
use Rattle.std.proofs.lemmas.Bool.Decides.{nat_tests}
use Rattle.std.proofs.lemmas.List.{take_all}
use Rattle.fixed_words.specs.declared.types.Fault.{Fault}
use Rattle.fixed_words.specs.declared.types.Fault.TheVariants as faults
use Rattle.fixed_words.specs.declared.types.Kind.TheVariants as kinds
use Rattle.fixed_words.specs.declared.types.Literal.TheVariants as literal
use Rattle.fixed_words.specs.declared.types.LiteralFault.TheVariants.{Range as OutOfRange}
use Rattle.fixed_words.specs.declared.types.Ty.TheVariants as types
use Rattle.super_time.specs.LocalTime.{limit_of, local_step, local_time}
use Rattle.super_time.specs.Seconds.{ticks_in}
use Rattle.unit_tree.specs.Components.{Moved, as_limit, environment_of, max_of, or_zero, start_word, state_in, step_of}
use Rattle.unit_tree.specs.Compositions.{Composition, Member, run_of}
use Rattle.unit_tree.specs.Negotiation.{agreed_step, limit_told, max_at, proposal_of, reply_at, state_after, step_at}
use Rattle.unit_tree.specs.Ports.{Ports, port_fault}
use Rattle.unit_tree.specs.Successor.{Position, after, agreed, ends, first_position, goes, is_redone, limits, proposed, replies_to, steps_by, successor, trial_end, zero_end, when, first_told, max_end_of, step_end_of, point_after}
use Rattle.unit_tree.specs.Trace.{Follows, IsGoing, IsStand, IsTrace, Stand, last_point, row_at as stand_row, rows_of, row_unless}
use Rattle.unit_tree.specs.Values.{◌>>=◌}
use Rattle.unit_tree.specs.declared.ending.Ending.TheVariants.{Completed, RowBudget, ZeroBudget}
use Rattle.unit_tree.specs.declared.environment.Environment.{Environment}
use Rattle.unit_tree.specs.declared.unit.State.{State}
use Rattle.list_laws.proofs.Lists.{each_more, each_so, none_cut}
use Rattle.list_laws.proofs.Truths.{lt_asked, not_negative}
use Rattle.run_laws.proofs.EndLaws.{ends_in_order, first_ends_in_order}
use Rattle.stimulus_tables.specs.Laws.{AreRising, TablesArePlayed}
use Rattle.stimulus_tables.specs.TableSystems.{held, last_of, last_time, row_at, states_from, table_system}
use Rattle.stimulus_tables.specs.Tables.{IsMoment}
use Rattle.stimulus_tables.specs.declared.moment.Moment.{Moment}
use Rattle.stimulus_tables.proofs.PortsPlayed.{component, is_assigned, member, no_fault, played, variables_are, words_are}
use Rattle.stimulus_tables.proofs.StepLaws.{AreEntries, IsTaken, IsTimely, chain_value, entry_is_word, next_time, step_holds}

-- ---- Numbers

ticks_are : (n : ℕ) → ticks_in 0 (literal.Number (pos n) 0) ≡ Some n
ticks_are n = grind (arith, nat_tests, not_negative)

whole_ticks : (n : ℕ) → n / 1 ≡ n
whole_ticks n = omega arith

whole_step : (t h : ℕ) → local_step 1 t h ≡ h
whole_step t h = omega arith

whole_limit : (t h : ℕ) → 0 < h → limit_of 1 t h ≡ h
whole_limit t h some = ap (λ b. if b then 0 else (t / 1 + h) * 1 - t) apart ∙ count
  where
    apart : (h == 0) ≡ false
    apart = grind (arith, nat_tests)

    count : (t / 1 + h) * 1 - t ≡ h
    count = omega arith

magnitude : (n : ℕ) → unsigned_abs (pos n) ≡ n
magnitude n = omega arith

-- ---- What is held

-- The times of moments are at most this one, and greater.
abbrev AreUntil : ℕ → List Moment → Type 0
AreUntil t moments = AllByRecursion (λ (m : Moment). m.time ≤ t) moments

abbrev AreBehind : ℕ → List Moment → Type 0
AreBehind t moments = AllByRecursion (λ (m : Moment). t < m.time) moments

none_held : (t : ℕ) (moments : List Moment) → AreBehind t moments → filter (λ (m : Moment). nat_le m.time t) moments ≡ []
none_held t [] behind = refl
none_held t (m ∷ moments) behind =
    let later : nat_le m.time t ≡ false = grind (arith, nat_tests) in
    ap (λ b. if b then m ∷ filter (λ (o : Moment). nat_le o.time t) moments else filter (λ (o : Moment). nat_le o.time t) moments) later ∙ none_held t moments behind.1

all_held : (t : ℕ) (moments more : List Moment) → AreUntil t moments
    → filter (λ (m : Moment). nat_le m.time t) (moments ++ more) ≡ moments ++ filter (λ (m : Moment). nat_le m.time t) more
all_held t [] more until = refl
all_held t (m ∷ moments) more until =
    let here : nat_le m.time t ≡ true = grind (arith, nat_tests) in
    ap (λ b. if b then m ∷ filter (λ (o : Moment). nat_le o.time t) (moments ++ more) else filter (λ (o : Moment). nat_le o.time t) (moments ++ more)) here
    ∙ ap (λ rest. m ∷ rest) (all_held t moments more until.1)

last_words : (words : List ℤ) (moments : List Moment) (next : Moment) → last_of words (map (λ (m : Moment). m.words) (moments ++ (next ∷ []))) ≡ next.words
last_words words [] next = refl
last_words words (m ∷ moments) next = last_words m.words moments next

pub held_at : (words : List ℤ) (passed : List Moment) (next : Moment) (rest : List Moment) → AreUntil next.time passed → AreBehind next.time rest
    → held words (passed ++ (next ∷ rest)) next.time ≡ next.words
held_at words passed next rest until behind =
    let here : nat_le next.time next.time ≡ true = grind (arith, nat_tests) in
    ap (λ all. last_of words (map (λ (m : Moment). m.words) all)) (all_held next.time passed (next ∷ rest) until
    ∙ ap (λ b. passed ++ (if b then next ∷ filter (λ (m : Moment). nat_le m.time next.time) rest else filter (λ (m : Moment). nat_le m.time next.time) rest)) here
    ∙ ap (λ none. passed ++ (next ∷ none)) (none_held next.time rest behind)) ∙ last_words words passed next

held_first : (words : List ℤ) (t : ℕ) (later : List Moment) → AreBehind t later → held words later t ≡ words
held_first words t later behind = ap (λ all. last_of words (map (λ (m : Moment). m.words) all)) (none_held t later behind)

-- ---- The next time

next_after : List Moment → ℕ → ℕ
next_after [] t = 0
next_after (first ∷ others) t = next_time first.time others t

next_is : (passed : List Moment) (next : Moment) (rest : List Moment) (t : ℕ) → AreUntil t passed → t < next.time → next_after (passed ++ (next ∷ rest)) t ≡ next.time
unfolding next_after
next_is [] next [] t until before = refl
next_is [] next (one ∷ rest) t until before = ap (λ b. if b then next.time else next_time one.time rest t) (lt_asked t next.time before)
next_is (p ∷ []) next rest t until before =
    let passed : nat_lt t p.time ≡ false = grind (arith, nat_tests) in
    ap (λ b. if b then p.time else next_time next.time rest t) passed ∙ next_is [] next rest t tt before
next_is (p ∷ q ∷ passed) next rest t until before =
    let is_passed : nat_lt t p.time ≡ false = grind (arith, nat_tests) in
    ap (λ b. if b then p.time else next_time q.time (passed ++ (next ∷ rest)) t) is_passed ∙ next_is (q ∷ passed) next rest t until.1 before

-- ---- The step from a moment to the next

states_many : (first : ℕ) (words : List ℤ) → length (states_from first words) ≡ length words
states_many first [] = refl
states_many first (word ∷ words) = omega (arith, states_many (first + 1) words)

held_many : (many : ℕ) (words : List ℤ) (moments : List Moment) (t : ℕ) → length words ≡ many → AllByRecursion (IsTaken many) moments
    → length (held words moments t) ≡ many
held_many many words moments t same are = last_many words (filter (λ (m : Moment). nat_le m.time t) moments) same (kept moments are)
  where
    last_many : (ws : List ℤ) (ms : List Moment) → length ws ≡ many → AllByRecursion (IsTaken many) ms → length (last_of ws (map (λ (m : Moment). m.words) ms)) ≡ many
    last_many ws [] is all = is
    last_many ws (m ∷ ms) is all = last_many m.words ms all.0.many_words all.1

    kept : (ms : List Moment) → AllByRecursion (IsTaken many) ms → AllByRecursion (IsTaken many) (filter (λ (m : Moment). nat_le m.time t) ms)
    kept [] all = tt
    kept (m ∷ ms) all = by (nat_le m.time t) (kept ms all.1)
      where
        by : (b : Bool) → AllByRecursion (IsTaken many) (filter (λ (o : Moment). nat_le o.time t) ms)
            → AllByRecursion (IsTaken many) (if b then m ∷ filter (λ (o : Moment). nat_le o.time t) ms else filter (λ (o : Moment). nat_le o.time t) ms)
        by true rest = (all.0, rest)
        by false rest = rest

module _ (names : List (List ℕ)) (first n : Moment) (ns : List Moment) (stop : ℕ) where
  abbrev later : List Moment
  later = n ∷ ns

  abbrev M : Member
  M = member names first later

  abbrev R : Composition
  R = played names first later stop

  max_is : (words : List ℤ) (t goal : ℕ) → t < goal → next_after later t ≡ goal → n.time ≤ 1000000000 → AllByRecursion IsTimely ns
      → max_of (component names first later) words [] t ≡ Ok (Some (goal - t))
  unfolding next_after
  max_is words t goal before is small smalls =
      ap (λ r. r >>= as_limit) (chain_value n.time ns (environment_of (component names first later) words [] t 0) small smalls (subst (λ g. t < g) (sym is) before))
      ∙ ap (λ g. Ok (record { kind = kinds.Int; word = pos (g - t) }) >>= as_limit) is
      ∙ ap (λ b. if b then Err faults.Max else Ok (Some (unsigned_abs (pos (goal - t))))) (not_negative (goal - t))
      ∙ ap (λ size. Ok (Some size)) (magnitude (goal - t))

  step_is : (words : List ℤ) (t h : ℕ) → length words ≡ length first.words → length words ≤ 16 → AllByRecursion (IsTaken (length words)) later → t + h ≤ 1000000000
      → step_of (component names first later) words [] t h ≡ Ok (record { state = held words later (t + h); accepted = h })
  step_is words t h many few are small =
      let env = environment_of (component names first later) words [] t h in
      let as_words = words_are names first later words t h in
      let long : length env.words ≡ length words = ap length as_words in
      let held_long = held_many (length words) words later (t + h) refl are in
      let within : length (held words later (t + h)) ≤ length (states_from 0 first.words) = omega (arith, held_long, many, states_many 0 first.words) in
      ap (λ r. r >>= λ (done : Environment). Ok (record { state = state_in (component names first later) done; accepted = done.accepted }))
      (step_holds words later env few are (variables_are names first later words t h many) long small)
      ∙ ap (λ ws. Ok (record { state = take (length (states_from 0 first.words)) (held ws later (t + h)); accepted = h })) as_words
      ∙ ap (λ ws. Ok (record { state = ws; accepted = h })) (take_all (length (states_from 0 first.words)) (held words later (t + h)) within)

  -- From the words of a moment to those of the next, after so many ticks.
  module _ (words next_words : List ℤ) (t h k : ℕ) (some : 0 < h) (within : t + h ≤ stop) (few_rows : k < 20)
      (many : length words ≡ length first.words) (as_many : length names ≡ length words) (few : length words ≤ 16) (entries : AreEntries words)
      (max_told : max_of (component names first later) words [] t ≡ Ok (Some h))
      (step_told : step_of (component names first later) words [] t h ≡ Ok (record { state = next_words; accepted = h })) where
    abbrev ports : Ports
    ports = map Some words

    abbrev at : Position
    at = record { point = record { t = t; n = 0 }; states = words ∷ []; number = k }

    abbrev stand : Stand
    stand = record { at = at; ports = ports }

    max_here : max_at t ports (M, words) ≡ Ok (Some h)
    max_here = ap (max_of (component names first later) words []) (whole_ticks t) ∙ max_told

    limits_are : limits R at ports ≡ h ∷ []
    limits_are =
        ap (λ told. filter_map (λ (o : Option ℕ). o) (limit_told 1 t told ∷ [])) max_here
        ∙ ap (λ size. size ∷ []) (whole_limit t h some)

    proposed_is : proposed R at ports ≡ h
    proposed_is = ap (λ all. proposal_of stop stop t all) limits_are ∙ least
      where
        least : min (stop - t) (min stop h) ≡ h
        least = omega (arith, within)

    abbrev moved : Option (Result Moved Fault)
    moved = Some (Ok (record { state = next_words; accepted = h }))

    step_here : step_at t h ports (M, words) ≡ moved
    step_here =
        ap (λ b. if not b && (local_step 1 t h == 0) then None else Some (step_of (component names first later) words [] (local_time 1 t) (local_step 1 t h))) apart
        ∙ ap (λ size. if (size == 0) then None else Some (step_of (component names first later) words [] (local_time 1 t) size)) (whole_step t h)
        ∙ ap (λ b. if b then None else Some (step_of (component names first later) words [] (local_time 1 t) h)) apart
        ∙ ap (λ time. Some (step_of (component names first later) words [] time h)) (whole_ticks t) ∙ ap Some step_told
      where
        apart : (h == 0) ≡ false
        apart = grind (arith, nat_tests)

    steps_are : steps_by R at ports h ≡ moved ∷ []
    steps_are = ap (λ step. step ∷ []) step_here

    reply_is : reply_at t h (M, moved) ≡ h
    reply_is = ap (λ size. if h == size then h else limit_of 1 t h) (whole_step t h) ∙ ap (λ b. if b then h else limit_of 1 t h) same
      where
        same : (h == h) ≡ true
        same = grind (arith, nat_tests)

    replies_are : replies_to R at ports h ≡ h ∷ []
    replies_are = ap (λ steps. map (reply_at t h) (zip (M ∷ []) steps)) steps_are ∙ ap (λ reply. reply ∷ []) reply_is

    agreed_is : agreed R at ports ≡ h
    agreed_is =
        ap (λ p. agreed_step p (replies_to R at ports p)) proposed_is
        ∙ ap (agreed_step h) replies_are

    going : IsGoing R stand
    going = record {
      ports_known = no_fault names first later words many ports stop as_many few entries;
      before_stop = ap (λ b. when b Completed) before;
      rows_left = ap (λ b. when b RowBudget) rows;
      limits_told = ap (λ told. first_told max_end_of (told ∷ [])) max_here;
    }
      where
        before : (t == stop) ≡ false
        before = grind (arith, nat_tests)

        rows : (suc k == 100000) ≡ false
        rows = grind (arith, nat_tests)

    no_trial_end : trial_end R at ports ≡ None
    no_trial_end =
        ap (λ p. first_told step_end_of (steps_by R at ports p)) proposed_is
        ∙ ap (first_told step_end_of) steps_are

    not_redone : is_redone R at ports ≡ false
    not_redone = ap₂ nat_lt agreed_is proposed_is ∙ same
      where
        same : nat_lt h h ≡ false
        same = grind (arith, nat_tests)

    no_zero_end : zero_end R at ports ≡ None
    no_zero_end =
        ap (λ size. when ((size == 0) && false) ZeroBudget) agreed_is
        ∙ ap (λ b. when (b && false) ZeroBudget) apart
      where
        apart : (h == 0) ≡ false
        apart = grind (arith, nat_tests)

    after_is : after R at ports ≡ record { point = record { t = t + h; n = 0 }; states = next_words ∷ []; number = suc k }
    after_is =
        ap (λ size. record { point = point_after at.point size; states = map state_after (zip (words ∷ []) (steps_by R at ports size)); number = suc k }) agreed_is
        ∙ ap (λ steps. record { point = point_after at.point h; states = map state_after (zip (words ∷ []) steps); number = suc k }) steps_are
        ∙ ap (λ b. record { point = if b then record { t = t; n = suc 0 } else record { t = t + h; n = 0 }; states = next_words ∷ []; number = suc k }) apart
      where
        apart : (h == 0) ≡ false
        apart = grind (arith, nat_tests)

    pub goes_on : successor R at ports ≡ goes (record { point = record { t = t + h; n = 0 }; states = next_words ∷ []; number = suc k })
    goes_on = (ends_in_order R stand going).whole_goes no_trial_end not_redone no_zero_end ∙ ap goes after_is

-- ---- Times that rise

until_later : (t u : ℕ) (moments : List Moment) → t ≤ u → AreUntil t moments → AreUntil u moments
until_later t u moments less until = each_so (λ (m : Moment). m.time ≤ t) (λ (m : Moment). m.time ≤ u) (λ m early. omega (arith, early, less)) moments until

behind_later : (t u : ℕ) (moments : List Moment) → t ≤ u → AreBehind u moments → AreBehind t moments
behind_later t u moments less behind = each_so (λ (m : Moment). u < m.time) (λ (m : Moment). t < m.time) (λ m late. omega (arith, late, less)) moments behind

rising_behind : (m : Moment) (rest : List Moment) → AreRising m rest → AreBehind m.time rest
rising_behind m [] rising = tt
rising_behind m (next ∷ rest) rising = (rising.0, behind_later m.time next.time rest (omega (arith, rising.0)) (rising_behind next rest rising.1))

last_late : (m : Moment) (rest : List Moment) → AreRising m rest → m.time ≤ last_time m rest
last_late m [] rising = omega arith
last_late m (next ∷ rest) rising = omega (arith, rising.0, last_late next rest rising.1)

until_more : (passed : List Moment) (t : ℕ) (next : Moment) → t < next.time → AreUntil t passed → AreUntil next.time (passed ++ (next ∷ []))
until_more passed t next before until =
    each_more (λ (m : Moment). m.time ≤ next.time) passed next (until_later t next.time passed (omega (arith, before)) until) (omega arith)

-- ---- The stands

stand_of : ℕ → Moment → Stand
stand_of k m = record { at = record { point = record { t = m.time; n = 0 }; states = m.words ∷ []; number = k }; ports = map Some m.words }

others_from : ℕ → List Moment → List Stand
others_from k [] = []
others_from k (m ∷ rest) = stand_of k m ∷ others_from (suc k) rest

words_shown : (words : List ℤ) → filter_map (λ (word : Option ℤ). word) (map Some words) ≡ words
words_shown [] = refl
words_shown (word ∷ words) = ap (λ rest. word ∷ rest) (words_shown words)

start_words : (number : ℕ) (words : List ℤ) → AreEntries words → map (λ (state : State). start_word state.ty state.start) (states_from number words) ≡ words
start_words number [] are = refl
start_words number (word ∷ words) are = ap₂ (λ w ws. w ∷ ws) (start word are.0) (start_words (number + 1) words are.1)
  where
    start : (w : ℤ) → unsigned_abs w ≤ 10 ^ 15 → start_word types.Int64 (literal.Number w 0) ≡ w
    start w small = ap (λ b. or_zero (if b then Ok w else Err OutOfRange)) (entry_is_word w small)

taken : (names : List (List ℕ)) (many : ℕ) → many ≡ length names → (moments : List Moment) → AllByRecursion (IsMoment names) moments → AllByRecursion (IsTaken many) moments
taken names many same moments ms =
    each_so (IsMoment names) (IsTaken many) (λ m one. record { many_words = one.one_each ∙ sym same; timely = one.writable.time; words = one.writable.words }) moments ms

module _ (names : List (List ℕ)) (first : Moment) (all : List Moment) (few_names : length names ≤ 16) (first_is : IsMoment names first)
    (are : AllByRecursion (IsMoment names) all) where
  abbrev stop : ℕ
  stop = last_time first all

  abbrev run : Composition
  run = played names first all stop

  stand_is : (k : ℕ) (m : Moment) → IsMoment names m → IsStand run (stand_of k m)
  unfolding stand_of
  stand_is k m is =
      sym (is_assigned names first all m.words (is.one_each ∙ sym first_is.one_each) (map Some m.words) stop (sym is.one_each) (omega (arith, is.one_each, few_names)) is.writable.words)

  fault_none : (m : Moment) → IsMoment names m → port_fault run (m.words ∷ []) (map Some m.words) ≡ None
  fault_none m is =
      no_fault names first all m.words (is.one_each ∙ sym first_is.one_each) (map Some m.words) stop (sym is.one_each) (omega (arith, is.one_each, few_names)) is.writable.words

  ends_there : (k : ℕ) (m : Moment) → IsMoment names m → m.time ≡ stop → successor run (stand_of k m).at (stand_of k m).ports ≡ ends Completed
  unfolding stand_of
  ends_there k m is same =
      (first_ends_in_order run (stand_of k m)).stop_ends Completed (fault_none m is) (ap (λ b. when b Completed) at_stop)
    where
      at_stop : (m.time == stop) ≡ true
      at_stop = grind (arith, nat_tests)

-- A moment goes to the next one.
goes_there : (names : List (List ℕ)) (first : Moment) (all : List Moment) (stop : ℕ) → length names ≤ 16 → IsMoment names first → AllByRecursion (IsMoment names) all
    → (k : ℕ) (m next : Moment) (passed rest : List Moment) → all ≡ passed ++ (next ∷ rest) → k < 20 → IsMoment names m
    → AreUntil m.time passed → m.time < next.time → AreBehind next.time rest → next.time ≤ stop → next.time ≤ 1000000000
    → successor (played names first all stop) (stand_of k m).at (stand_of k m).ports ≡ goes (stand_of (suc k) next).at
unfolding stand_of
goes_there names first [] stop few_names first_is are k m next passed rest cut few is until before behind within small = absurd (none_cut passed next rest cut)
goes_there names first (n ∷ ns) stop few_names first_is are k m next passed rest cut few is until before behind within small =
    let t = m.time in
    let h = next.time - t in
    let sum : t + h ≡ next.time = omega (arith, before) in
    let many : length m.words ≡ length first.words = is.one_each ∙ sym first_is.one_each in
    let few_words : length m.words ≤ 16 = omega (arith, is.one_each, few_names) in
    let all_taken = taken names (length m.words) is.one_each (n ∷ ns) are in
    let timely = each_so (IsMoment names) IsTimely (λ one is_one. is_one.writable.time) ns are.1 in
    let told = max_is names first n ns stop m.words t next.time before (ap (λ later. next_after later t) cut ∙ next_is passed next rest t until before) are.0.writable.time timely in
    let there : held m.words (n ∷ ns) (t + h) ≡ next.words =
    ap₂ (held m.words) cut sum ∙ held_at m.words passed next rest (until_later t next.time passed (omega (arith, before)) until) behind in
    let step = step_is names first n ns stop m.words t h many few_words all_taken (omega (arith, sum, small)) ∙ ap (λ ws. Ok (record { state = ws; accepted = h })) there in
    goes_on names first n ns stop m.words next.words t h k (omega (arith, before)) (omega (arith, sum, within)) few many (sym is.one_each) few_words is.writable.words told step
    ∙ ap (λ time. goes (record { point = record { t = time; n = 0 }; states = next.words ∷ []; number = suc k })) sum

module _ (names : List (List ℕ)) (first : Moment) (all : List Moment) (few_names : length names ≤ 16) (first_is : IsMoment names first)
    (are : AllByRecursion (IsMoment names) all) where
  abbrev played_run : Composition
  played_run = played names first all (last_time first all)

  -- From a moment, after those that passed, the later ones follow.
  follows : (k : ℕ) (m : Moment) (passed rest : List Moment) → all ≡ passed ++ rest → k + length rest < 21 → IsMoment names m → AllByRecursion (IsMoment names) rest
      → AreUntil m.time passed → AreRising m rest → last_time m rest ≡ last_time first all
      → Follows played_run (stand_of k m) (others_from (suc k) rest) Completed
  unfolding others_from
  follows k m passed [] cut few is rest_are until rising last = ends_there names first all few_names first_is are k m is last
  follows k m passed (next ∷ rest) cut few is rest_are until rising last = (
    (
      goes_there names first all (last_time first all) few_names first_is are k m next passed rest cut (omega (arith, few)) is until rising.0
          (rising_behind next rest rising.1)
          (subst (λ stop. next.time ≤ stop) last (last_late next rest rising.1))
          rest_are.0.writable.time,
      stand_is names first all few_names first_is are (suc k) next rest_are.0,
    ),
    follows (suc k) next (passed ++ (next ∷ [])) rest (cut ∙ sym (append_assoc passed (next ∷ []) rest)) (omega (arith, few)) rest_are.0 rest_are.1
        (until_more passed m.time next rising.0 until)
        rising.1
        last,
  )

  row_is : (k : ℕ) (m : Moment) → IsMoment names m → held first.words all m.time ≡ m.words → stand_row played_run (stand_of k m) ≡ Some (row_at first all m)
  unfolding stand_of
  row_is k m is holds =
      ap (λ fault. row_unless fault (record { t = m.time; n = 0 }) (map Some m.words)) (fault_none names first all few_names first_is are m is)
      ∙ ap (λ words. Some (record { point = record { t = m.time; n = 0 }; words = words })) (words_shown m.words ∙ sym holds)

  rows_are : (k : ℕ) (m : Moment) (passed rest : List Moment) → all ≡ passed ++ rest → AllByRecursion (IsMoment names) rest → AreUntil m.time passed → AreRising m rest
      → rows_of played_run (others_from k rest) ≡ map (row_at first all) rest
  unfolding others_from
  rows_are k m passed [] cut rest_are until rising = refl
  rows_are k m passed (next ∷ rest) cut rest_are until rising =
      let holds = ap (λ later. held first.words later next.time) cut
      ∙ held_at first.words passed next rest (until_later m.time next.time passed (omega (arith, rising.0)) until) (rising_behind next rest rising.1) in
      ap (λ row. cons_option row (rows_of played_run (others_from (suc k) rest))) (row_is k next rest_are.0 holds)
      ∙ ap (λ rows. row_at first all next ∷ rows)
      (rows_are (suc k) next (passed ++ (next ∷ [])) rest (cut ∙ sym (append_assoc passed (next ∷ []) rest)) rest_are.1 (until_more passed m.time next rising.0 until) rising.1)

  last_is : (k : ℕ) (m : Moment) (rest : List Moment) → last_point (stand_of k m ∷ others_from (suc k) rest) ≡ record { t = last_time m rest; n = 0 }
  unfolding others_from stand_of
  last_is k m [] = refl
  last_is k m (next ∷ rest) = last_is (suc k) next rest

pub run_is : (names : List (List ℕ)) (first : Moment) (all : List Moment) → run_of (table_system names first all) ≡ played names first all (last_time first all)
run_is names first all = ap (λ ticks. played names first all (unwrap_or ticks 0)) (ticks_are (last_time first all))

pub table_played : TablesArePlayed
unfolding stand_of
table_played names first later is =
    let few = is.are_names.few in
    let moments = is.are_moments in
    let rising = is.rising in
    let stands : List Stand = stand_of 0 first ∷ others_from 1 later in
    let begins : (stand_of 0 first).at ≡ first_position (played names first later (last_time first later)) =
    ap₂ (λ t words. record { point = record { t = t; n = 0 }; states = words ∷ []; number = 0 }) is.at_start (sym (start_words 0 first.words moments.0.writable.words)) in
    let goes_on_from : IsTrace (played names first later (last_time first later)) stands Completed = (
      begins,
      stand_is names first later few moments.0 moments.1 0 first moments.0,
      follows names first later few moments.0 moments.1 0 first [] later refl (omega (arith, is.few)) moments.0 moments.1 tt rising refl,
    ) in
    let holds = held_first first.words first.time later (rising_behind first later rising) in
    let shown : rows_of (played names first later (last_time first later)) stands ≡ map (row_at first later) (first ∷ later) =
    ap (λ row. cons_option row (rows_of (played names first later (last_time first later)) (others_from 1 later))) (row_is names first later few moments.0 moments.1 0 first moments.0 holds)
    ∙ ap (λ rows. row_at first later first ∷ rows) (rows_are names first later few moments.0 moments.1 1 first [] later refl moments.1 tt rising) in
    let same = run_is names first later in
    record {
      stands = stands;
      trace = subst (λ run. IsTrace run stands Completed) (sym same) goes_on_from;
      rows_are = sym (ap (λ run. rows_of run stands) same ∙ shown);
      last_is = sym (last_is names first later few moments.0 moments.1 0 first later);
    }
