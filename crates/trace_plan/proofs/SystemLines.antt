-- The consequences of the rules and the ranges for single lines of a system that is in range and well-formed.
use Rattle.std.proofs.Common.{◌≡◌, ◌≤◌, ℕ, ◌+◌, false, List, [], ◌∷◌, ◌++◌, map, length, Option, Some, None, inl, inr, refl, ap, subst, ◌∙◌, arith}
use Rattle.std.proofs.lemmas.Grind.{flat_map-append}
use Rattle.std.proofs.lemmas.List.Sums.{sum_by-append}
use Rattle.std.specs.Prelude.{is_none, cond, count_by, Bool, true}
use Rattle.std.specs.List.{AllByRecursion, filter_map, flat_map, enumerate_from}
use Rattle.std.proofs.lemmas.Bool.{or_parts}
use Rattle.fixed_words.specs.declared.types.Literal.{Literal}
use Rattle.unit_tree.specs.Canonical.{optional, unit_parts, canonical_parts, canonical_forms}
use Rattle.unit_tree.specs.LineForms.{are_alike}
use Rattle.unit_tree.specs.Names.{unit_of_instance}
use Rattle.unit_tree.specs.Parts as parts
use Rattle.unit_tree.specs.Parts.{Part, UnitPart, part_forms}
use Rattle.unit_tree.specs.Plain.{plain_forms}
use Rattle.unit_tree.specs.Printable.{IsRanged, IsInRange}
use Rattle.unit_tree.specs.Sites.{TopScope, Site, sites_of}
use Rattle.unit_tree.specs.WellFormed.{IsWellFormed, misnames, exceeds, is_length, number_where, lacks_stop, mistimes, lacks_instance}
use Rattle.super_time.specs.Seconds.{seconds_of}
use Rattle.unit_tree.specs.WellFormed.{resolution_of}
use Rattle.unit_tree.specs.declared.line_form.LineForm.{LineForm}
use Rattle.unit_tree.specs.declared.line_form.LineForm.TheVariants as form
use Rattle.unit_tree.specs.declared.system.Instance.{Instance}
use Rattle.unit_tree.specs.declared.system.PortName.{PortName}
use Rattle.unit_tree.specs.declared.system.System.{System}
use Rattle.unit_tree.specs.declared.unit.Unit.{Unit}
use Rattle.language_laws.proofs.NameLaws.{all_keep, Hold, Kept, hold_all, hold_behind, instance_head, kept_parts}
use Rattle.model_rules.specs.Limits.{instance_limit, sample_limit}
use Rattle.unit_tree.specs.Sites.{Headed, alone, headed_part}
use Rattle.language_laws.proofs.PlainNames.{has_flat, unit_line, in_range}
use Rattle.language_laws.proofs.SiteLaws.{line_at, sites_are}
use Rattle.list_laws.proofs.Members.{Has, has_front, has_behind, each_has}
use Rattle.list_laws.proofs.Truths.{not_false, lt_not_told}

-- ---- The lines of samples

abbrev sample_head : PortName → Headed
sample_head port = alone (form.Sample port)

sample_heads : (samples : List PortName) → flat_map headed_part (map parts.Samples samples) ≡ map sample_head samples
sample_heads [] = refl
sample_heads (port ∷ samples) = ap (λ rest. sample_head port ∷ rest) (sample_heads samples)

-- A rule that the lines of a system keep is kept by those of its samples.
samples_kept : (P : Site → Type 0) (system : System) → AllByRecursion P (sites_of system)
    → (before : List LineForm) × Hold P TopScope before (map sample_head system.samples)
samples_kept P system all =
    let header : List LineForm = form.Header system.version ∷ [] in
    let samples : List Part = map parts.Samples system.samples in
    let others : List Part =
    map (λ unit. parts.HasUnit unit.name (unit_parts unit)) system.units ++ map parts.HasInstance system.instances ++ map parts.Connects system.wires
    ++ optional parts.Stop system.stop
    ++ optional parts.Longest system.longest
    ++ optional parts.Zero system.zero
    ++ optional parts.Rows system.rows in
    let hold = (hold_all P TopScope [] (alone (form.Header system.version) ∷ flat_map headed_part (canonical_parts system)) all).2 in
    let sampled =
    hold_behind P TopScope header (flat_map headed_part others) (flat_map headed_part samples)
    (subst (Hold P TopScope header) (flat_map-append headed_part others samples) hold) in
    (sampled.0, subst (Hold P TopScope sampled.0) (sample_heads system.samples) sampled.1)

-- ---- A rule that depends only on the line

mapped : (Q : LineForm → Type 0) (all : List Site) → AllByRecursion (λ site. Q site.line) all → AllByRecursion Q (map line_at all)
mapped Q [] each = tt
mapped Q (site ∷ all) each = (each.0, mapped Q all each.1)

module _ (system : System) where
  kept_line : (test : LineForm → Bool) → filter_map (number_where (λ site. test site.line)) (enumerate_from 1 (sites_of system)) ≡ [] → (line : LineForm)
      → Has (canonical_forms system) line → test line ≡ false
  kept_line test none line has =
      let all = mapped (λ l. test l ≡ false) (sites_of system) (all_keep (λ site. test site.line) 1 (sites_of system) none) in
      each_has (λ l. test l ≡ false) (canonical_forms system) line (subst (AllByRecursion (λ l. test l ≡ false)) (sites_are system) all) has

  -- ---- The lines of the run's numbers

  abbrev parts_to_wires : List Part
  parts_to_wires =
      map (λ unit. parts.HasUnit unit.name (unit_parts unit)) system.units ++ map parts.HasInstance system.instances ++ map parts.Connects system.wires

  abbrev stop : List Part
  stop = optional parts.Stop system.stop

  abbrev longest : List Part
  longest = optional parts.Longest system.longest

  abbrev zero_steps : List Part
  zero_steps = optional parts.Zero system.zero

  abbrev rows : List Part
  rows = optional parts.Rows system.rows

  abbrev samples : List Part
  samples = map parts.Samples system.samples

  top_line : (part : Part) (line : LineForm) → Has (canonical_parts system) part → Has (part_forms part) line → Has (canonical_forms system) line
  top_line part line has inside = inr (has_flat part_forms (canonical_parts system) part line has inside)

  -- A part that exists, after others and before others.
  given_has : {A : Type 0} (part : A → Part) (given : Option A) (one : A) → given ≡ Some one → Has (optional part given) (part one)
  given_has part None one is = absurd (cc)
  given_has part (Some other) one is = let same : other ≡ one = cc in inl (ap part same)

  stop_line : (seconds : Literal) → system.stop ≡ Some seconds → Has (canonical_forms system) (form.Stop seconds)
  stop_line seconds is =
      let part : Part = parts.Stop seconds in
      let a = has_behind parts_to_wires stop part (given_has parts.Stop system.stop seconds is) in
      let b = has_front (parts_to_wires ++ stop) longest part a in
      let c = has_front ((parts_to_wires ++ stop) ++ longest) zero_steps part b in
      let d = has_front (((parts_to_wires ++ stop) ++ longest) ++ zero_steps) rows part c in
      top_line part (form.Stop seconds) (has_front ((((parts_to_wires ++ stop) ++ longest) ++ zero_steps) ++ rows) samples part d) (inl refl)

  longest_line : (seconds : Literal) → system.longest ≡ Some seconds → Has (canonical_forms system) (form.Longest seconds)
  longest_line seconds is =
      let part : Part = parts.Longest seconds in
      let b = has_behind (parts_to_wires ++ stop) longest part (given_has parts.Longest system.longest seconds is) in
      let c = has_front ((parts_to_wires ++ stop) ++ longest) zero_steps part b in
      let d = has_front (((parts_to_wires ++ stop) ++ longest) ++ zero_steps) rows part c in
      top_line part (form.Longest seconds) (has_front ((((parts_to_wires ++ stop) ++ longest) ++ zero_steps) ++ rows) samples part d) (inl refl)

  zero_line : (count : ℕ) → system.zero ≡ Some count → Has (canonical_forms system) (form.Zero count)
  zero_line count is =
      let part : Part = parts.Zero count in
      let c = has_behind ((parts_to_wires ++ stop) ++ longest) zero_steps part (given_has parts.Zero system.zero count is) in
      let d = has_front (((parts_to_wires ++ stop) ++ longest) ++ zero_steps) rows part c in
      top_line part (form.Zero count) (has_front ((((parts_to_wires ++ stop) ++ longest) ++ zero_steps) ++ rows) samples part d) (inl refl)

  rows_line : (count : ℕ) → system.rows ≡ Some count → Has (canonical_forms system) (form.Rows count)
  rows_line count is =
      let part : Part = parts.Rows count in
      let d = has_behind (((parts_to_wires ++ stop) ++ longest) ++ zero_steps) rows part (given_has parts.Rows system.rows count is) in
      top_line part (form.Rows count) (has_front ((((parts_to_wires ++ stop) ++ longest) ++ zero_steps) ++ rows) samples part d) (inl refl)

  module _ (ranged : IsRanged system) where
    resolution_line : (unit : Unit) → Has system.units unit → (decimals : ℕ) → unit.resolution ≡ Some decimals
        → Has (canonical_forms system) (form.Resolution decimals)
    resolution_line unit declared decimals is =
        let part : UnitPart = parts.Resolution decimals in
        let r : List UnitPart = optional parts.Resolution unit.resolution in
        let p : List UnitPart = map parts.HasParam unit.params in
        let s : List UnitPart = map parts.HasState unit.states in
        let l : List UnitPart = map parts.HasLocal unit.locals in
        let i : List UnitPart = map parts.HasInput unit.inputs in
        let e : List UnitPart = map parts.HasEventIn unit.events_in in
        let o : List UnitPart = map parts.HasOutput unit.outputs in
        let f : List UnitPart = map parts.HasEventOut unit.events_out in
        unit_line system ranged unit declared part (form.Resolution decimals)
        (has_front ((((((r ++ p) ++ s) ++ l) ++ i) ++ e) ++ o) f part
        (has_front (((((r ++ p) ++ s) ++ l) ++ i) ++ e) o part
        (has_front ((((r ++ p) ++ s) ++ l) ++ i) e part
        (has_front (((r ++ p) ++ s) ++ l) i part
        (has_front ((r ++ p) ++ s) l part
        (has_front (r ++ p) s part
        (has_front r p part (resolution_has unit.resolution is))))))))
        (inl refl)
      where
        resolution_has : (given : Option ℕ) → given ≡ Some decimals → Has (optional parts.Resolution given) (parts.Resolution decimals)
        resolution_has None none = absurd (cc)
        resolution_has (Some other) some = let same : other ≡ decimals = cc in inl (ap parts.Resolution same)

    pub unit_decimals : (unit : Unit) → Has system.units unit → (decimals : ℕ) → unit.resolution ≡ Some decimals → decimals ≤ 9
    unit_decimals unit declared decimals is = (in_range system ranged (form.Resolution decimals) (resolution_line unit declared decimals is)).0

    pub zero_count : (count : ℕ) → system.zero ≡ Some count → count ≤ 10000
    zero_count count is = (in_range system ranged (form.Zero count) (zero_line count is)).0

    pub row_count : (count : ℕ) → system.rows ≡ Some count → (1 ≤ count) × (count ≤ 100000)
    row_count count is = (in_range system ranged (form.Rows count) (rows_line count is)).0

    pub stop_in_range : (seconds : Literal) → system.stop ≡ Some seconds → IsInRange (form.Stop seconds)
    stop_in_range seconds is = in_range system ranged (form.Stop seconds) (stop_line seconds is)

    pub longest_in_range : (seconds : Literal) → system.longest ≡ Some seconds → IsInRange (form.Longest seconds)
    longest_in_range seconds is = in_range system ranged (form.Longest seconds) (longest_line seconds is)

  module _ (kept : IsWellFormed system) where
    timed : (line : LineForm) → Has (canonical_forms system) line → mistimes system line ≡ false
    timed = kept_line (mistimes system) kept.1.1.1.1.1.1.1.1.1.1.1.0

    pub stop_length : (seconds : Literal) → system.stop ≡ Some seconds → is_length 0 (seconds_of (resolution_of system) seconds) ≡ true
    stop_length seconds is = not_false _ (timed (form.Stop seconds) (stop_line seconds is))

    pub longest_length : (seconds : Literal) → system.longest ≡ Some seconds → is_length 1 (seconds_of (resolution_of system) seconds) ≡ true
    longest_length seconds is = not_false _ (timed (form.Longest seconds) (longest_line seconds is))

    pub stop_there : is_none system.stop ≡ false
    stop_there = kept_line (lacks_stop system) kept.1.1.1.1.1.1.1.1.1.1.0 (form.Header system.version) (inl refl)

    pub instance_there : lacks_instance system (form.Header system.version) ≡ false
    instance_there = kept_line (lacks_instance system) kept.1.1.1.1.1.1.1.1.1.1.1.1.1.1.0 (form.Header system.version) (inl refl)

    -- ---- Instances

    abbrev Named : Site → Type 0
    Named site = misnames system site.scope site.line ≡ false

    all_named : (earlier : List LineForm) (instances : List Instance) → Hold Named TopScope earlier (map instance_head instances)
        → AllByRecursion (λ instance. is_none (unit_of_instance system instance) ≡ false) instances
    all_named earlier [] hold = tt
    all_named earlier (instance ∷ instances) hold = (hold.0, all_named (earlier ++ (form.Instance instance.name instance.unit ∷ [])) instances hold.2)

    -- The unit of each instance is declared.
    pub units_declared : AllByRecursion (λ instance. is_none (unit_of_instance system instance) ≡ false) system.instances
    units_declared =
        let parts_kept = kept_parts Named system (all_keep (λ site. misnames system site.scope site.line) 1 (sites_of system) kept.1.0) in
        all_named parts_kept.before_instances system.instances parts_kept.instances

    abbrev Few : Site → Type 0
    Few site = exceeds system site.scope site.earlier site.line ≡ false

    abbrev becomes : LineForm → List LineForm
    becomes line = plain_forms system TopScope line

    -- How many lines of the plain form of some lines are of the kind of a line.
    abbrev tally : LineForm → List LineForm → ℕ
    tally any lines = count_by (are_alike any) (flat_map becomes lines)

    tally_both : (any : LineForm) (one other : List LineForm) → tally any (one ++ other) ≡ tally any one + tally any other
    tally_both any one other =
        ap (count_by (are_alike any)) (flat_map-append becomes one other)
        ∙ sum_by-append (λ x. cond (are_alike any x) 1 0) (flat_map becomes one) (flat_map becomes other)

    -- There are no more lines of a kind than the rule allows, where each counts as one.
    module _ {A : Type 0} (limit : ℕ) (any : LineForm) (head : A → Headed)
        (allowed : (earlier : List LineForm) (x : A) → exceeds system TopScope earlier (head x).head ≡ false → tally any (earlier ++ ((head x).head ∷ [])) ≤ limit)
        (next : (earlier : List LineForm) (x : A) → tally any (earlier ++ ((head x).head ∷ [])) ≡ tally any earlier + 1) where
      counted : (earlier : List LineForm) (xs : List A) → tally any earlier ≤ limit → Hold Few TopScope earlier (map head xs)
          → tally any earlier + length xs ≤ limit
      counted earlier [] low hold = omega (arith, low)
      counted earlier (x ∷ xs) low hold =
          let rest = counted (earlier ++ ((head x).head ∷ [])) xs (allowed earlier x hold.0) hold.2 in
          omega (arith, rest, next earlier x)

      few_from : (earlier : List LineForm) (xs : List A) → Hold Few TopScope earlier (map head xs) → length xs ≤ limit
      few_from earlier [] hold = omega arith
      few_from earlier (x ∷ xs) hold =
          let rest = counted (earlier ++ ((head x).head ∷ [])) xs (allowed earlier x hold.0) hold.2 in
          omega (arith, rest, next earlier x)

    few_kept : Kept Few system
    few_kept = kept_parts Few system (all_keep (λ site. exceeds system site.scope site.earlier site.line) 1 (sites_of system) kept.1.1.1.1.1.1.1.0)

    abbrev any_instance : LineForm
    any_instance = form.Instance [] []

    pub few_instances : length system.instances ≤ instance_limit
    few_instances =
        few_from instance_limit any_instance instance_head
        (λ earlier instance fits.
        lt_not_told instance_limit (tally any_instance (earlier ++ (form.Instance instance.name instance.unit ∷ []))) (or_parts _ _ fits).0)
        (λ earlier instance. tally_both any_instance earlier (form.Instance instance.name instance.unit ∷ [])) few_kept.before_instances system.instances
        few_kept.instances

    few_sampled : (before : List LineForm) × Hold Few TopScope before (map sample_head system.samples)
    few_sampled = samples_kept Few system (all_keep (λ site. exceeds system site.scope site.earlier site.line) 1 (sites_of system) kept.1.1.1.1.1.1.1.0)

    abbrev any_sample : LineForm
    any_sample = form.Sample (record { instance = []; port = [] })

    pub few_samples : length system.samples ≤ sample_limit
    few_samples =
        few_from sample_limit any_sample sample_head
        (λ earlier port fits. lt_not_told sample_limit (tally any_sample (earlier ++ (form.Sample port ∷ []))) (or_parts _ _ fits).0)
        (λ earlier port. tally_both any_sample earlier (form.Sample port ∷ [])) few_sampled.0 system.samples few_sampled.1
