-- Options one after the other.
use Rattle.std.proofs.Common.{◌≡◌, ℕ, ◌-◌, ◌≤◌, Bool, true, false, List, [], ◌∷◌, ◌++◌, append-nil, append_assoc, length, take, drop, get_or}
use Rattle.std.proofs.Common.{Option, Some, None, refl, sym, ap, ◌∙◌, arith}
use Rattle.std.specs.Prelude.{codes, is_none, is_some, not, string_bytes, String}
use Rattle.std.specs.Bool.{then_some}
use Rattle.std.specs.List.{filter, filter_map}
use Rattle.std.specs.Option.{option_map}
use Rattle.std.specs.Str.{bytes_eq}
use Rattle.std.specs.declared.alloc.Global.{Global}
use Rattle.std.proofs.lemmas.Bool.{cond-true, cond-false}
use Rattle.std.proofs.lemmas.List.{take_all}
use Rattle.std.proofs.lemmas.List.Elements.{filter-append, filter_map-append}
use Rattle.std.proofs.lemmas.Option.{same_Some}
use Rattle.command_line.specs.Options.{◌>>=◌, at_most_one, given_of, no_options, option_of, options_of, with_all, with_one}
use Rattle.command_line.specs.Options.{guess_in, instances_in, is_report, rounds_in, row_in, rows_in, seed_in, window_in, workers_in}
use Rattle.command_line.specs.Words.{bytes_of}
use Rattle.command_line.specs.declared.options.Given.{Given}
use Rattle.guess_board.specs.declared.guesses.Policy.{Policy}
use Rattle.command_line.specs.declared.options.CommandOption.{CommandOption}
use Rattle.command_line.specs.declared.options.CommandOption.TheVariants.{Workers, Window, Guess, Seed, Instances, Rows, Row, Rounds, Report}

-- ---- How many there are of a kind

-- The option of a kind, among options.
abbrev pub ones : {A : Type 0} → (CommandOption → Option A) → List CommandOption → Option (Option A)
ones kind options = at_most_one (filter_map kind options)

-- Also among those that come after others.
abbrev behind : {A : Type 0} → Option (Option A) → Option (Option A) → Option (Option A)
behind (Some None) before = before
behind None before = None
behind (Some (Some one)) None = None
behind (Some (Some one)) (Some None) = Some (Some one)
behind (Some (Some one)) (Some (Some other)) = None

most_joined : {A : Type 0} (xs ys : List A) → at_most_one (xs ++ ys) ≡ behind (at_most_one ys) (at_most_one xs)
most_joined [] [] = refl
most_joined [] (y ∷ []) = refl
most_joined [] (y ∷ z ∷ ys) = refl
most_joined (x ∷ []) [] = refl
most_joined (x ∷ []) (y ∷ []) = refl
most_joined (x ∷ []) (y ∷ z ∷ ys) = refl
most_joined (x ∷ w ∷ xs) [] = refl
most_joined (x ∷ w ∷ xs) (y ∷ []) = refl
most_joined (x ∷ w ∷ xs) (y ∷ z ∷ ys) = refl

ones_joined : {A : Type 0} (kind : CommandOption → Option A) (before more : List CommandOption)
    → ones kind (before ++ more) ≡ behind (ones kind more) (ones kind before)
ones_joined kind before more =
    ap at_most_one (filter_map-append kind before more) ∙ most_joined (filter_map kind before) (filter_map kind more)

reports_joined : (before more : List CommandOption)
    → at_most_one (filter is_report (before ++ more)) ≡ behind (at_most_one (filter is_report more)) (at_most_one (filter is_report before))
reports_joined before more =
    ap at_most_one (filter-append is_report before more) ∙ most_joined (filter is_report before) (filter is_report more)

-- Two of a kind are still two with more after them.
behind_two : {A : Type 0} (more : Option (Option A)) → behind more None ≡ None
behind_two None = refl
behind_two (Some None) = refl
behind_two (Some (Some one)) = refl

none_behind : {A B : Type 0} (before more : Option (Option A)) (gives then_gives : Option A → Option B) → (before >>= gives) ≡ None
    → ((one other : Option A) → gives one ≡ None → then_gives other ≡ None) → (behind more before >>= then_gives) ≡ None
none_behind None more gives then_gives none later = ap (λ m. m >>= then_gives) (behind_two more)
none_behind (Some one) None gives then_gives none later = refl
none_behind (Some one) (Some None) gives then_gives none later = later one one none
none_behind (Some None) (Some (Some other)) gives then_gives none later = later None (Some other) none
none_behind (Some (Some one)) (Some (Some other)) gives then_gives none later = refl

-- The result of a function on an optional value exists only where the value does.
taken : {A B : Type 0} (from : Option A) (gives : A → Option B) (result : B) → (from >>= gives) ≡ Some result
    → (value : A) × (from ≡ Some value) × (gives value ≡ Some result)
taken None gives result is = absurd (cc)
taken (Some value) gives result is = (value, refl, is)

-- ---- All kinds: here and below a line for each

-- The options of all kinds.
pub record Ones : Type 0 where
  pub workers : Option (Option ℕ)
  pub window : Option (Option ℕ)
  pub guess : Option (Option Policy)
  pub seed : Option (Option ℕ)
  pub instances : Option (Option ℕ)
  pub rows : Option (Option ℕ)
  pub row : Option (Option ℕ)
  pub rounds : Option (Option ℕ)
  pub report : Option (Option CommandOption)

abbrev pub ones_of : List CommandOption → Ones
ones_of options = record {
  workers = ones workers_in options;
  window = ones window_in options;
  guess = ones guess_in options;
  seed = ones seed_in options;
  instances = ones instances_in options;
  rows = ones rows_in options;
  row = ones row_in options;
  rounds = ones rounds_in options;
  report = at_most_one (filter is_report options);
}

-- What they give.
abbrev pub each : Ones → Option Given
each all = do
  workers ← all.workers
  window ← all.window
  guess ← all.guess
  seed ← all.seed
  instances ← all.instances
  rows ← all.rows
  row ← all.row
  rounds ← all.rounds
  report ← all.report
  Some (record {
    workers = workers;
    window = window;
    guess = guess;
    seed = seed;
    instances = instances;
    rows = rows;
    row = row;
    rounds = rounds;
    report = is_some report;
  })

abbrev all_behind : Ones → Ones → Ones
all_behind more before = record {
  workers = behind more.workers before.workers;
  window = behind more.window before.window;
  guess = behind more.guess before.guess;
  seed = behind more.seed before.seed;
  instances = behind more.instances before.instances;
  rows = behind more.rows before.rows;
  row = behind more.row before.row;
  rounds = behind more.rounds before.rounds;
  report = behind more.report before.report;
}

all_joined : (before more : List CommandOption) → ones_of (before ++ more) ≡ all_behind (ones_of more) (ones_of before)
all_joined before more = λ i. record {
  workers = ones_joined workers_in before more i;
  window = ones_joined window_in before more i;
  guess = ones_joined guess_in before more i;
  seed = ones_joined seed_in before more i;
  instances = ones_joined instances_in before more i;
  rows = ones_joined rows_in before more i;
  row = ones_joined row_in before more i;
  rounds = ones_joined rounds_in before more i;
  report = reports_joined before more i;
}

some_given : (given : Given) {A : Type 0} → Some given ≡ None → A
some_given given is = absurd (cc)

none_after : (before more : Ones) → each before ≡ None → each (all_behind more before) ≡ None
none_after before more is =
    none_behind before.workers more.workers _ _ is (λ _ _ is.
    none_behind before.window more.window _ _ is (λ _ _ is.
    none_behind before.guess more.guess _ _ is (λ _ _ is.
    none_behind before.seed more.seed _ _ is (λ _ _ is.
    none_behind before.instances more.instances _ _ is (λ _ _ is.
    none_behind before.rows more.rows _ _ is (λ _ _ is.
    none_behind before.row more.row _ _ is (λ _ _ is.
    none_behind before.rounds more.rounds _ _ is (λ _ _ is.
    none_behind before.report more.report _ _ is (λ _ _ is. some_given _ is)))))))))

-- The options so far, with that of `--report`, which has no value.
abbrev known_ones : Given → Option CommandOption → Ones
known_ones given report = record {
  workers = Some given.workers;
  window = Some given.window;
  guess = Some given.guess;
  seed = Some given.seed;
  instances = Some given.instances;
  rows = Some given.rows;
  row = Some given.row;
  rounds = Some given.rounds;
  report = Some report;
}

known_by : (all : Ones) (given : Given) → each all ≡ Some given
    → (report : Option CommandOption) × (given.report ≡ is_some report) × (all ≡ known_ones given report)
known_by all given is =
    let workers = taken all.workers _ given is in
    let window = taken all.window _ given workers.2 in
    let guess = taken all.guess _ given window.2 in
    let seed = taken all.seed _ given guess.2 in
    let instances = taken all.instances _ given seed.2 in
    let rows = taken all.rows _ given instances.2 in
    let row = taken all.row _ given rows.2 in
    let rounds = taken all.rounds _ given row.2 in
    let report = taken all.report _ given rounds.2 in
    let same = same_Some _ given report.2 in (
      report.0,
      sym (ap (λ (g : Given). g.report) same),
      λ i. record {
        workers = (workers.1 ∙ ap (λ (g : Given). Some g.workers) same) i;
        window = (window.1 ∙ ap (λ (g : Given). Some g.window) same) i;
        guess = (guess.1 ∙ ap (λ (g : Given). Some g.guess) same) i;
        seed = (seed.1 ∙ ap (λ (g : Given). Some g.seed) same) i;
        instances = (instances.1 ∙ ap (λ (g : Given). Some g.instances) same) i;
        rows = (rows.1 ∙ ap (λ (g : Given). Some g.rows) same) i;
        row = (row.1 ∙ ap (λ (g : Given). Some g.row) same) i;
        rounds = (rounds.1 ∙ ap (λ (g : Given). Some g.rounds) same) i;
        report = report.1 i;
      },
    )

-- The value of a kind that has none yet.
once : {A B : Type 0} (before : Option A) (value : A) (gives : Option A → B)
    → then_some (is_none before) (gives (Some value)) ≡ (behind (Some (Some value)) (Some before) >>= λ one. Some (gives one))
once None value gives = refl
once (Some one) value gives = refl

one_more : (option : CommandOption) (given : Given) (report : Option CommandOption) → given.report ≡ is_some report
    → with_one given option ≡ each (all_behind (ones_of (option ∷ [])) (known_ones given report))
one_more (Workers number) given report is =
    once given.workers number (λ one. record given { workers = one })
    ∙ ap (λ r. behind (Some (Some number)) (Some given.workers) >>= λ one. Some (record given { workers = one; report = r })) is
one_more (Window number) given report is =
    once given.window number (λ one. record given { window = one })
    ∙ ap (λ r. behind (Some (Some number)) (Some given.window) >>= λ one. Some (record given { window = one; report = r })) is
one_more (Guess policy) given report is =
    once given.guess policy (λ one. record given { guess = one })
    ∙ ap (λ r. behind (Some (Some policy)) (Some given.guess) >>= λ one. Some (record given { guess = one; report = r })) is
one_more (Seed number) given report is =
    once given.seed number (λ one. record given { seed = one })
    ∙ ap (λ r. behind (Some (Some number)) (Some given.seed) >>= λ one. Some (record given { seed = one; report = r })) is
one_more (Instances number) given report is =
    once given.instances number (λ one. record given { instances = one })
    ∙ ap (λ r. behind (Some (Some number)) (Some given.instances) >>= λ one. Some (record given { instances = one; report = r })) is
one_more (Rows number) given report is =
    once given.rows number (λ one. record given { rows = one })
    ∙ ap (λ r. behind (Some (Some number)) (Some given.rows) >>= λ one. Some (record given { rows = one; report = r })) is
one_more (Row number) given report is =
    once given.row number (λ one. record given { row = one })
    ∙ ap (λ r. behind (Some (Some number)) (Some given.row) >>= λ one. Some (record given { row = one; report = r })) is
one_more (Rounds number) given report is =
    once given.rounds number (λ one. record given { rounds = one })
    ∙ ap (λ r. behind (Some (Some number)) (Some given.rounds) >>= λ one. Some (record given { rounds = one; report = r })) is
one_more Report given None is = ap (λ r. then_some (not r) (record given { report = true })) is
one_more Report given (Some other) is = ap (λ r. then_some (not r) (record given { report = true })) is

-- ---- What options give with others before them

given_joined : (before more : List CommandOption) → given_of (before ++ more) ≡ each (all_behind (ones_of more) (ones_of before))
unfolding given_of
given_joined before more = ap each (all_joined before more)

stays_none : (before more : List CommandOption) → given_of before ≡ None → given_of (before ++ more) ≡ None
unfolding given_of
stays_none before more is = given_joined before more ∙ none_after (ones_of before) (ones_of more) is

one_behind : (before : List CommandOption) (given : Given) (option : CommandOption) → given_of before ≡ Some given
    → with_one given option ≡ given_of (before ++ option ∷ [])
unfolding given_of
one_behind before given option is =
    let all = known_by (ones_of before) given is in
    one_more option given all.0 all.1
    ∙ ap (λ ones. each (all_behind (ones_of (option ∷ [])) ones)) (sym all.2)
    ∙ sym (given_joined before (option ∷ []))

all_behind_given : (before more : List CommandOption) (given : Given) → given_of before ≡ Some given → with_all given more ≡ given_of (before ++ more)
all_behind_given before [] given is = sym is ∙ ap given_of (sym (append-nil before))
all_behind_given before (first ∷ rest) given is =
    next (with_one given first) (one_behind before given first is) (λ more so. all_behind_given (before ++ first ∷ []) rest more so)
    ∙ ap given_of (append_assoc before (first ∷ []) rest)
  where
    next : (found : Option Given) → found ≡ given_of (before ++ first ∷ [])
        → ((more : Given) → given_of (before ++ first ∷ []) ≡ Some more → with_all more rest ≡ given_of ((before ++ first ∷ []) ++ rest))
        → (found >>= λ more. with_all more rest) ≡ given_of ((before ++ first ∷ []) ++ rest)
    next None is again = sym (stays_none (before ++ first ∷ []) rest (sym is))
    next (Some more) is again = again more (sym is)

no_given : given_of [] ≡ Some no_options
unfolding given_of
no_given = refl

-- All of those that were read, after no other.
pub all_given : (read : Option (List CommandOption)) → (read >>= with_all no_options) ≡ (read >>= given_of)
all_given None = refl
all_given (Some options) = all_behind_given [] options no_options no_given

-- The first of them, and then the others.
first_given : (given : Given) (first : CommandOption) (found : Option Given) (read : Option (List CommandOption)) → with_one given first ≡ found
    → (found >>= λ more. read >>= with_all more) ≡ (option_map (λ rest. first ∷ rest) read >>= with_all given)
first_given given first None None is = refl
first_given given first (Some more) None is = refl
first_given given first found (Some rest) is = ap (λ found. found >>= λ more. with_all more rest) (sym is)

-- ---- Words

abbrev says_report : String Global → Bool
says_report flag = bytes_eq (string_bytes flag) (codes "--report")

pub report_read : (flag : List ℕ) (words : List (List ℕ)) → bytes_eq flag (codes "--report") ≡ true
    → option_map (λ more. Report ∷ more) (options_of words) ≡ options_of (flag ∷ words)
report_read flag [] test = sym (cond-true (bytes_eq flag (codes "--report")) _ _ test)
report_read flag (word ∷ words) test = sym (cond-true (bytes_eq flag (codes "--report")) _ _ test)

-- The words after the first ones, as the code has them.
abbrev behind_words : ℕ → List (String Global) → List (List ℕ)
behind_words count words = bytes_of (take (length words - count) (drop count words))

pub report_first : (words : List (String Global)) (flag : String Global) (given : Given) (found : Option Given) → 1 ≤ length words
    → flag ≡ get_or words 0 flag → says_report flag ≡ true → with_one given Report ≡ found
    → (found >>= λ more. options_of (behind_words 1 words) >>= with_all more) ≡ (options_of (bytes_of words) >>= with_all given)
report_first [] flag given found some is test adds = absurd (omega arith)
report_first (one ∷ rest) flag given found some is test adds =
    first_given given Report found (options_of (behind_words 1 (one ∷ rest))) adds
    ∙ ap (λ (rest : List (String Global)). option_map (λ more. Report ∷ more) (options_of (bytes_of rest)) >>= with_all given)
    (take_all (length (one ∷ rest) - 1) rest (omega arith))
    ∙ ap (λ read. read >>= with_all given) (report_read (string_bytes one) (bytes_of rest) (sym (ap says_report is) ∙ test))

pub option_first : (words : List (String Global)) (tested flag word : String Global) (first : CommandOption) (given : Given) (found : Option Given)
    → 2 ≤ length words → tested ≡ get_or words 0 tested → flag ≡ get_or words 0 flag → word ≡ get_or words 1 word → says_report tested ≡ false
    → option_of (string_bytes flag) (string_bytes word) ≡ Some first → with_one given first ≡ found
    → (found >>= λ more. options_of (behind_words 2 words) >>= with_all more) ≡ (options_of (bytes_of words) >>= with_all given)
option_first [] tested flag word first given found some tested_is is second test reads adds = absurd (omega arith)
option_first (one ∷ []) tested flag word first given found some tested_is is second test reads adds = absurd (omega arith)
option_first (one ∷ two ∷ rest) tested flag word first given found some tested_is is second test reads adds =
    first_given given first found (options_of (behind_words 2 (one ∷ two ∷ rest))) adds
    ∙ ap (λ (rest : List (String Global)). option_map (λ more. first ∷ more) (options_of (bytes_of rest)) >>= with_all given)
    (take_all (length (one ∷ two ∷ rest) - 2) rest (omega arith))
    ∙ ap (λ read. (read >>= λ first. option_map (λ more. first ∷ more) (options_of (bytes_of rest))) >>= with_all given) (sym reads ∙ read_is)
    ∙ ap (λ read. read >>= with_all given) (sym (cond-false (says_report one) _ _ (sym (ap says_report tested_is) ∙ test)))
  where
    read_is : option_of (string_bytes flag) (string_bytes word) ≡ option_of (string_bytes one) (string_bytes two)
    read_is =
        ap (λ (w : String Global). option_of (string_bytes w) (string_bytes word)) is
        ∙ ap (λ (w : String Global). option_of (string_bytes one) (string_bytes w)) second
