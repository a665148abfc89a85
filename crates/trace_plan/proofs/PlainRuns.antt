-- The numbers of the plain form of a judged system are within their bounds.
use Rattle.std.proofs.Common.{◌≡◌, ◌≤◌, ◌^◌, ℕ, ◌+◌, Bool, true, false, cond, List, [], ◌∷◌, map, length, Option, Some, None, refl, ap, sym, subst, ◌∙◌, arith}
use Rattle.std.proofs.lemmas.Bool.Decides.{nat_tests}
use Rattle.std.proofs.lemmas.Nat.{le-div}
use Rattle.std.specs.Prelude.{is_none, nat_lt, ◌==◌, ◌/◌, min, max, unwrap_or, Ok, Err}
use Rattle.std.specs.Int.{is_negative}
use Rattle.std.specs.List.{AllByRecursion, filter_map, cons_option, fold}
use Rattle.std.specs.Option.{IfSome}
use Rattle.fixed_words.specs.declared.types.Literal.{Literal}
use Rattle.fixed_words.specs.declared.types.Literal.TheVariants as literal
use Rattle.super_time.specs.Seconds.{ticks_in, within_run, seconds_of, AreDecimalsOf}
use Rattle.super_time.specs.declared.seconds.SecondsFault.TheVariants.{NotDecimal}
use Rattle.trace_plan.specs.Keeps.{AreNumbersOf}
use Rattle.trace_plan.specs.Plans.{IsBounded}
use Rattle.trace_plan.specs.Lengths.{IsLengthOf, IsReadable}
use Rattle.trace_plan.specs.declared.numbers.Numbers.{Numbers}
use Rattle.model_rules.specs.Limits.{default_zeros}
use Rattle.unit_tree.specs.Compositions.{Member, member_with, members_of, ticks_or, default_rows, run_of}
use Rattle.unit_tree.specs.Names.{unit_of_instance}
use Rattle.unit_tree.specs.Plain.{plain_form}
use Rattle.unit_tree.specs.Printable.{IsRanged, IsLiteralInRange}
use Rattle.unit_tree.specs.WellFormed.{IsWellFormed, unit_resolution, resolution_of, is_length}
use Rattle.unit_tree.specs.declared.system.Instance.{Instance}
use Rattle.unit_tree.specs.declared.system.System.{System}
use Rattle.unit_tree.specs.declared.unit.Unit.{Unit}
use Rattle.run_laws.proofs.PlainKept.{Alike, alike}
use Rattle.run_laws.proofs.PlainOrders.{named_has}
use Rattle.trace_plan.proofs.SystemLines.{unit_decimals, zero_count, row_count, stop_in_range, longest_in_range, stop_length, longest_length, instance_there}
use Rattle.trace_plan.proofs.SystemLines.{units_declared, few_instances}
use Rattle.list_laws.proofs.Members.{Has}

-- ---- Members

member_there : (system : System) (instance : Instance) (given : Option Unit) (members : List Member) → is_none given ≡ false
    → length (cons_option (member_with system instance given) members) ≡ 1 + length members
member_there system instance None members is = absurd (cc)
member_there system instance (Some unit) members is = omega arith

counted : (system : System) (instances : List Instance) → AllByRecursion (λ instance. is_none (unit_of_instance system instance) ≡ false) instances
    → length (filter_map (λ instance. member_with system instance (unit_of_instance system instance)) instances) ≡ length instances
counted system [] all = refl
counted system (instance ∷ instances) all =
    let here =
    member_there system instance (unit_of_instance system instance)
    (filter_map (λ other. member_with system other (unit_of_instance system other)) instances) all.0 in
    let rest = counted system instances all.1 in
    omega (arith, here, rest)

some_instance : (system : System) → IsWellFormed system → 1 ≤ length system.instances
some_instance system kept = by system.instances refl
  where
    by : (instances : List Instance) → system.instances ≡ instances → 1 ≤ length instances
    by [] is = let there = instance_there system kept in absurd (cc)
    by (instance ∷ instances) is = omega arith

-- ---- The resolution

resolution_by : (system : System) (ranged : IsRanged system) (given : Option Unit) → ((unit : Unit) → given ≡ Some unit → Has system.units unit)
    → unit_resolution given ≤ 9
resolution_by system ranged None declared = omega arith
resolution_by system ranged (Some unit) declared = of_unit unit.resolution refl
  where
    of_unit : (resolution : Option ℕ) → unit.resolution ≡ resolution → unwrap_or resolution 0 ≤ 9
    of_unit None is = omega arith
    of_unit (Some decimals) is = unit_decimals system ranged unit (declared unit refl) decimals is

greatest : (system : System) (ranged : IsRanged system) (instances : List Instance) (most : ℕ) → most ≤ 9
    → fold max most (map (λ instance. unit_resolution (unit_of_instance system instance)) instances) ≤ 9
greatest system ranged [] most low = low
greatest system ranged (instance ∷ instances) most low =
    let here = resolution_by system ranged (unit_of_instance system instance) (λ unit is. named_has system.units instance.unit unit is) in
    greatest system ranged instances (max most (unit_resolution (unit_of_instance system instance)))
    (both most (unit_resolution (unit_of_instance system instance)) low here)
  where
    both : (one other : ℕ) → one ≤ 9 → other ≤ 9 → max one other ≤ 9
    both one other low low' = omega (arith, low, low')

pub resolution_low : (system : System) → IsRanged system → resolution_of system ≤ 9
resolution_low system ranged = greatest system ranged system.instances 0 (omega arith)

-- ---- Lengths in ticks

within : (least ticks : ℕ) (above : Bool) → nat_lt (10 ^ 15) ticks ≡ above → is_length least (within_run (Some ticks)) ≡ true
    → (within_run (Some ticks) ≡ Ok ticks) × (ticks ≤ 10 ^ 15)
within least ticks true above is = absurd (cc)
within least ticks false above is = (rw (above) refl, grind (arith, nat_tests, above))

within_given : (least : ℕ) (given : Option ℕ) → is_length least (within_run given) ≡ true
    → (within_run given ≡ Ok (unwrap_or given 0)) × (unwrap_or given 0 ≤ 10 ^ 15)
within_given least None is = absurd (cc)
within_given least (Some ticks) is = within least ticks (nat_lt (10 ^ 15) ticks) refl is

length_by : (least : ℕ) (negative : Bool) (given : Option ℕ) → is_length least (cond negative (Err NotDecimal) (within_run given)) ≡ true
    → (cond negative (Err NotDecimal) (within_run given) ≡ Ok (unwrap_or given 0)) × (unwrap_or given 0 ≤ 10 ^ 15)
length_by least true given is = absurd (cc)
length_by least false given is = within_given least given is

pub length_of : (least resolution : ℕ) (seconds : Literal) → is_length least (seconds_of resolution seconds) ≡ true → IsLengthOf resolution seconds
length_of least resolution (literal.Truth told) is = absurd (cc)
length_of least resolution (literal.Number number decimals) is =
    let both = length_by least (is_negative number) (ticks_in resolution (literal.Number number decimals)) is in
    record { read = both.0; most = both.1 }

pub decimals_of : (seconds : Literal) → IsLiteralInRange seconds → AreDecimalsOf seconds
decimals_of (literal.Truth told) low = tt
decimals_of (literal.Number number decimals) low = low

module _ (system : System) (ranged : IsRanged system) (kept : IsWellFormed system) where
  readable_by : (given : Option Literal) → ((seconds : Literal) → given ≡ Some seconds → IsReadable (resolution_of system) seconds)
      → IfSome given (IsReadable (resolution_of system))
  readable_by None each = tt
  readable_by (Some seconds) each = each seconds refl

  pub stop_readable : IfSome system.stop (IsReadable (resolution_of system))
  stop_readable = readable_by system.stop (λ seconds is. record {
    decimals = decimals_of seconds (stop_in_range system ranged seconds is).1;
    length = length_of 0 (resolution_of system) seconds (stop_length system kept seconds is);
  })

  pub longest_readable : IfSome system.longest (IsReadable (resolution_of system))
  longest_readable = readable_by system.longest (λ seconds is. record {
    decimals = decimals_of seconds (longest_in_range system ranged seconds is).1;
    length = length_of 1 (resolution_of system) seconds (longest_length system kept seconds is);
  })

  ticks_low : (default resolution : ℕ) (given : Option Literal) → default ≤ 10 ^ 15 → IfSome given (IsReadable resolution)
      → ticks_or default resolution given ≤ 10 ^ 15
  ticks_low default resolution None low is = low
  ticks_low default resolution (Some seconds) low is = is.length.most

  -- ---- The run of the plain form

  abbrev plain : System
  plain = plain_form system

  zeros_low : (given : Option ℕ) → system.zero ≡ given → (version : ℕ) → unwrap_or given (default_zeros version) ≤ 10000
  zeros_low None is version = by (version == 2)
    where
      by : (told : Bool) → cond told 1000 100 ≤ 10000
      by true = omega arith
      by false = omega arith
  zeros_low (Some count) is version = zero_count system ranged count is

  rows_between : (given : Option ℕ) → system.rows ≡ given → (version instances : ℕ) → 1 ≤ instances → instances ≤ 64
      → (1 ≤ unwrap_or given (default_rows version instances)) × (unwrap_or given (default_rows version instances) ≤ 100000)
  rows_between None is version instances some few = by (version == 2)
    where
      shared : 1 ≤ 1000000 / instances
      shared = le-div 1 1000000 instances (omega (arith, some)) (omega (arith, few))

      by : (told : Bool) → (1 ≤ min (cond told 10000 100000) (1000000 / instances)) × (min (cond told 10000 100000) (1000000 / instances) ≤ 100000)
      by true = (omega (arith, shared), omega arith)
      by false = (omega (arith, shared), omega arith)
  rows_between (Some count) is version instances some few = row_count system ranged count is

  abbrev both : Alike system plain
  both = alike system

  pub member_count : length (members_of plain) ≡ length system.instances
  member_count =
      ap (λ instances. length (filter_map (λ instance. member_with plain instance (unit_of_instance plain instance)) instances)) both.instances
      ∙ counted plain system.instances (both.declared (units_declared system kept))

  pub bounded : IsBounded (run_of system)
  bounded =
      let resolution = sym both.resolution in
      let stop_here =
      subst (λ r. IfSome plain.stop (IsReadable r)) resolution
      (subst (λ given. IfSome given (IsReadable (resolution_of system))) (sym both.stop) stop_readable) in
      let longest_here =
      subst (λ r. IfSome plain.longest (IsReadable r)) resolution
      (subst (λ given. IfSome given (IsReadable (resolution_of system))) (sym both.longest) longest_readable) in
      let stop_low = ticks_low 0 (resolution_of plain) plain.stop (omega arith) stop_here in
      let count = member_count in
      let rows =
      rows_between plain.rows (sym both.rows) plain.version (length plain.instances)
      (subst (λ instances. 1 ≤ length instances) (sym both.instances) (some_instance system kept))
      (subst (λ instances. length instances ≤ 64) (sym both.instances) (few_instances system kept)) in
      record {
        stop = stop_low;
        longest = ticks_low (ticks_or 0 (resolution_of plain) plain.stop) (resolution_of plain) plain.longest stop_low longest_here;
        zeros = zeros_low plain.zero (sym both.zeros) plain.version;
        some_row = rows.0;
        rows = rows.1;
        some_member = omega (arith, count, some_instance system kept);
        members = omega (arith, count, few_instances system kept);
      }

  -- Numbers that were computed from the plain form are those of the run.
  pub numbers_are : (made : System) (numbers : Numbers) → made ≡ plain
      → numbers.resolution ≡ resolution_of made → numbers.stop ≡ ticks_or 0 (resolution_of made) made.stop
      → numbers.longest ≡ ticks_or (ticks_or 0 (resolution_of made) made.stop) (resolution_of made) made.longest
      → numbers.zero_budget ≡ unwrap_or made.zero (default_zeros made.version)
      → numbers.row_limit ≡ unwrap_or made.rows (default_rows made.version (length made.instances))
      → AreNumbersOf system (run_of system) numbers
  numbers_are made numbers is resolution stop longest zeros rows =
      let here : numbers.resolution ≡ resolution_of system = resolution ∙ ap resolution_of is ∙ both.resolution in
      record {
        resolution = here;
        decimals = subst (λ r. r ≤ 9) (sym here) (resolution_low system ranged);
        stop = stop ∙ ap (λ (s : System). ticks_or 0 (resolution_of s) s.stop) is;
        longest = longest ∙ ap (λ (s : System). ticks_or (ticks_or 0 (resolution_of s) s.stop) (resolution_of s) s.longest) is;
        zeros = zeros ∙ ap (λ (s : System). unwrap_or s.zero (default_zeros s.version)) is;
        rows = rows ∙ ap (λ (s : System). unwrap_or s.rows (default_rows s.version (length s.instances))) is;
      }

  -- The plain form, as the code has it.
  module _ (made : System) (is : made ≡ plain) (resolution : ℕ) (resolution_is : resolution ≡ resolution_of made) where
    pub plain_low : resolution ≤ 9
    plain_low = subst (λ r. r ≤ 9) (sym (resolution_is ∙ ap resolution_of is ∙ both.resolution)) (resolution_low system ranged)

    readable_here : (given : System → Option Literal) → given plain ≡ given system → IfSome (given system) (IsReadable (resolution_of system))
        → IfSome (given made) (IsReadable resolution)
    readable_here given same readable =
        subst (λ r. IfSome (given made) (IsReadable r)) (sym (resolution_is ∙ ap resolution_of is ∙ both.resolution))
        (subst (λ some. IfSome some (IsReadable (resolution_of system))) (sym (ap given is ∙ same)) readable)

    pub plain_stop : IfSome made.stop (IsReadable resolution)
    plain_stop = readable_here (λ (s : System). s.stop) both.stop stop_readable

    pub plain_longest : IfSome made.longest (IsReadable resolution)
    plain_longest = readable_here (λ (s : System). s.longest) both.longest longest_readable

  pub plain_instances : (made : System) → made ≡ plain → 1 ≤ length made.instances
  plain_instances made is = subst (λ instances. 1 ≤ length instances) (sym (ap (λ (s : System). s.instances) is ∙ both.instances)) (some_instance system kept)
