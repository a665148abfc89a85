-- The upgrade of a system keeps the rules that the system keeps. What a rule requires of a line depends on units, instances,
-- connections and `stop`, which are the same. Only the rule of kinds, which requires more of version 1, and that of rows differ.
use Rattle.std.proofs.Common.{◌≡◌, ℕ, ◌+◌, ◌*◌, ◌==◌, Bool, true, false, cond, List, [], ◌∷◌, ◌++◌, append-nil, map, flat_map}
use Rattle.std.proofs.Common.{filter_map, length, Option, Some, None}
use Rattle.std.proofs.Common.{refl, sym, ap, subst, ◌∙◌, arith, nat_lt, count_by, unwrap_or, ◌&&◌, ◌||◌}
use Rattle.std.specs.List.{AllByRecursion, enumerate_from, list_any}
use Rattle.std.proofs.lemmas.Bool.{or_parts}
use Rattle.std.proofs.lemmas.Grind.{flat_map-append}
use Rattle.std.proofs.lemmas.List.Elements.{filter_map-append}
use Rattle.std.proofs.lemmas.List.Sums.{sum_by-append}
use Rattle.language_laws.proofs.NameLaws.{Hold, all_keep, hold_all, hold_behind}
use Rattle.text_laws.proofs.KeptRules.{all_hold, no_number}
use Rattle.list_laws.proofs.Lists.{each_so}
use Rattle.unit_tree.specs.Canonical.{canonical_parts}
use Rattle.model_rules.specs.Limits.{default_zeros}
use Rattle.unit_tree.specs.Compositions.{default_rows}
use Rattle.unit_tree.specs.LineForms.{are_alike, tail_of, tail_speaks_of_events}
use Rattle.unit_tree.specs.Names.{expression_on, same_port}
use Rattle.unit_tree.specs.Parts as parts
use Rattle.unit_tree.specs.Plain.{plain_forms}
use Rattle.unit_tree.specs.Sites.{Headed, InstanceScope, Scope, Site, StepScope, TopScope, UnitScope, alone, headed_part, sites_of}
use Rattle.unit_tree.specs.WellFormed.{BreaksNone, IsWellFormed, Rule, number_where, rules}
use Rattle.unit_tree.specs.WellFormed.{assigns_read_only, connects_again, costs_too_much, exceeds, has_deep_expression, has_too_many_rows}
use Rattle.unit_tree.specs.WellFormed.{hides_need, is_above}
use Rattle.unit_tree.specs.WellFormed.{is_beyond, is_dear, is_deep, is_misformed, is_one_too_many, joins_other_types}
use Rattle.unit_tree.specs.WellFormed.{lacks_instance, lacks_stop, literal_on, mistakes_kind, misnames, mistimes, on_literal, port_sampled}
use Rattle.unit_tree.specs.WellFormed.{redeclares, repeats_itself}
use Rattle.unit_tree.specs.declared.line_form.LineForm.{LineForm}
use Rattle.unit_tree.specs.declared.line_form.LineForm.TheVariants as form
use Rattle.unit_tree.specs.declared.system.PortName.{PortName}
use Rattle.unit_tree.specs.declared.system.System.{System}
use Rattle.unit_upgrade.specs.Laws.{UpgradesAreWellFormed}
use Rattle.unit_upgrade.specs.Upgrades.{in_version_2}
use Rattle.unit_upgrade.proofs.BudgetBounds.{default_shares}
use Rattle.unit_upgrade.proofs.Parted.{front_heads, heads_are, row_heads, sample_heads, zero_heads}

abbrev top : List LineForm → LineForm → Site
top earlier line = record { scope = TopScope; earlier = earlier; line = line }

module _ (system : System) where
  abbrev changed : System
  changed = in_version_2 system

  abbrev zeros : ℕ
  zeros = unwrap_or system.zero (default_zeros 1)

  abbrev rows : ℕ
  rows = unwrap_or system.rows (default_rows 1 (length system.instances))

  -- ---- What rules require is the same

  forms_same : (scope : Scope) (line : LineForm) → plain_forms changed scope line ≡ plain_forms system scope line
  forms_same TopScope (form.Connect wire) = refl
  forms_same TopScope _ = refl
  forms_same (UnitScope unit) (form.Connect wire) = refl
  forms_same (UnitScope unit) _ = refl
  forms_same (StepScope unit) (form.Connect wire) = refl
  forms_same (StepScope unit) _ = refl
  forms_same (InstanceScope instance) (form.Connect wire) = refl
  forms_same (InstanceScope instance) _ = refl

  names_same : (scope : Scope) (line : LineForm) → misnames changed scope line ≡ misnames system scope line
  names_same TopScope (form.Connect wire) = refl
  names_same TopScope _ = refl
  names_same (UnitScope unit) (form.Max value) = refl
  names_same (UnitScope unit) _ = refl
  names_same (StepScope unit) (form.If cond) = refl
  names_same (StepScope unit) _ = refl
  names_same (InstanceScope instance) (form.Setting setting) = refl
  names_same (InstanceScope instance) _ = refl

  literals_same : (scope : Scope) (line : LineForm) → literal_on changed scope line ≡ literal_on system scope line
  literals_same TopScope (form.Setting setting) = refl
  literals_same TopScope _ = refl
  literals_same (UnitScope unit) (form.Setting setting) = refl
  literals_same (UnitScope unit) _ = refl
  literals_same (StepScope unit) (form.Setting setting) = refl
  literals_same (StepScope unit) _ = refl
  literals_same (InstanceScope instance) (form.Setting setting) = refl
  literals_same (InstanceScope instance) _ = refl

  joins_same : (line : LineForm) → joins_other_types changed line ≡ joins_other_types system line
  joins_same (form.Connect wire) = refl
  joins_same _ = refl

  stop_same : (line : LineForm) → lacks_stop changed line ≡ lacks_stop system line
  stop_same (form.Header version) = refl
  stop_same _ = refl

  times_same : (line : LineForm) → mistimes changed line ≡ mistimes system line
  times_same (form.Stop seconds) = refl
  times_same (form.Longest seconds) = refl
  times_same _ = refl

  rows_same : (line : LineForm) → has_too_many_rows changed line ≡ has_too_many_rows system line
  rows_same (form.Rows count) = refl
  rows_same _ = refl

  instance_same : (line : LineForm) → lacks_instance changed line ≡ lacks_instance system line
  instance_same (form.Header version) = refl
  instance_same _ = refl

  counts_same : (scope : Scope) (earlier : List LineForm) (line : LineForm) → exceeds changed scope earlier line ≡ exceeds system scope earlier line
  counts_same scope earlier line =
      ap (λ (becomes : LineForm → List LineForm). list_any (is_one_too_many scope (flat_map becomes (earlier ++ (line ∷ [])))) (becomes line))
      (λ i some. forms_same scope some i)

  -- The rule of kinds requires less of version 2.
  abbrev kind_breaks : System → Scope → LineForm → Bool
  kind_breaks judged scope line =
      mistakes_kind scope line
      || (((judged.version == 1) && tail_speaks_of_events (tail_of line)) || on_literal is_misformed (literal_on judged scope line))

  kinds_weaker : (scope : Scope) (line : LineForm) → kind_breaks system scope line ≡ false → kind_breaks changed scope line ≡ false
  kinds_weaker scope line kept =
      let speaks = (system.version == 1) && tail_speaks_of_events (tail_of line) in
      let both = or_parts (mistakes_kind scope line) (speaks || on_literal is_misformed (literal_on system scope line)) kept in
      let literal = (or_parts speaks (on_literal is_misformed (literal_on system scope line)) both.1).1 in
      ap (λ told. told || on_literal is_misformed (literal_on changed scope line)) both.0 ∙ ap (on_literal is_misformed) (literals_same scope line) ∙ literal

  -- ---- The lines before samples

  abbrev becomes : LineForm → List LineForm
  becomes = plain_forms changed TopScope

  abbrev tally : PortName → List LineForm → ℕ
  tally port lines = count_by (are_alike (form.Sample port)) (flat_map becomes lines)

  -- Lines with the same samples among them.
  record SameSamples (one other : List LineForm) : Type 0 where
    sampled : filter_map port_sampled one ≡ filter_map port_sampled other
    counted : (port : PortName) → tally port one ≡ tally port other

  tally_of_two : (port : PortName) (one other : List LineForm) → tally port (one ++ other) ≡ tally port one + tally port other
  tally_of_two port one other =
      ap (count_by (are_alike (form.Sample port))) (flat_map-append becomes one other)
      ∙ sum_by-append (λ some. cond (are_alike (form.Sample port) some) 1 0) (flat_map becomes one) (flat_map becomes other)

  turned : (one other : List LineForm) → SameSamples one other → SameSamples other one
  turned one other same = record { sampled = sym same.sampled; counted = λ port. sym (same.counted port) }

  in_turn : (one other third : List LineForm) → SameSamples one other → SameSamples other third → SameSamples one third
  in_turn one other third first second =
      record { sampled = first.sampled ∙ second.sampled; counted = λ port. first.counted port ∙ second.counted port }

  one_more : (one other : List LineForm) (line : LineForm) → SameSamples one other → SameSamples (one ++ (line ∷ [])) (other ++ (line ∷ []))
  one_more one other line same = record {
    sampled =
        filter_map-append port_sampled one (line ∷ [])
        ∙ ap (λ ports. ports ++ filter_map port_sampled (line ∷ [])) same.sampled
        ∙ sym (filter_map-append port_sampled other (line ∷ []));
    counted = λ port.
        tally_of_two port one (line ∷ [])
        ∙ ap (λ count. count + tally port (line ∷ [])) (same.counted port)
        ∙ sym (tally_of_two port other (line ∷ []));
  }

  -- A line that is not a sample makes no difference.
  no_sample : (one : List LineForm) (line : LineForm) → filter_map port_sampled (line ∷ []) ≡ [] → ((port : PortName) → tally port (line ∷ []) ≡ 0)
      → SameSamples (one ++ (line ∷ [])) one
  no_sample one line none not_counted = record {
    sampled =
        filter_map-append port_sampled one (line ∷ []) ∙ ap (λ ports. filter_map port_sampled one ++ ports) none ∙ append-nil (filter_map port_sampled one);
    counted = λ port. omega (arith, tally_of_two port one (line ∷ []), not_counted port);
  }

  zero_no_sample : (one : List LineForm) (count : ℕ) → SameSamples (one ++ (form.Zero count ∷ [])) one
  zero_no_sample one count = no_sample one (form.Zero count) refl (λ port. refl)

  rows_no_sample : (one : List LineForm) (count : ℕ) → SameSamples (one ++ (form.Rows count ∷ [])) one
  rows_no_sample one count = no_sample one (form.Rows count) refl (λ port. refl)

  -- ---- A rule that is still kept

  -- What has to hold of a rule, by which lines break it. It requires no more of a line. The header before a line makes no difference.
  -- The lines before a sample don't either, as long as the samples there are the same. The new lines keep it.
  record Carries (breaks : System → Site → Bool) : Type 0 where
    same : (site : Site) → breaks system site ≡ false → breaks changed site ≡ false
    header : breaks changed (top [] (form.Header system.version)) ≡ breaks changed (top [] (form.Header 2))
    behind_header : (earlier : List LineForm) (line : LineForm)
        → breaks changed (top (form.Header system.version ∷ earlier) line) ≡ breaks changed (top (form.Header 2 ∷ earlier) line)
    zero_line : (earlier : List LineForm) → breaks changed (top earlier (form.Zero zeros)) ≡ false
    rows_line : (earlier : List LineForm) → breaks changed (top earlier (form.Rows rows)) ≡ false
    sample_line : (earlier later : List LineForm) (port : PortName) → SameSamples earlier later
        → breaks changed (top earlier (form.Sample port)) ≡ breaks changed (top later (form.Sample port))

  -- A rule that depends only on the line and its scope.
  by_line : (breaks : System → Scope → LineForm → Bool)
      → ((scope : Scope) (line : LineForm) → breaks system scope line ≡ false → breaks changed scope line ≡ false)
      → breaks changed TopScope (form.Header system.version) ≡ breaks changed TopScope (form.Header 2)
      → breaks changed TopScope (form.Zero zeros) ≡ false → breaks changed TopScope (form.Rows rows) ≡ false
      → Carries (λ judged site. breaks judged site.scope site.line)
  by_line breaks same header zero row = record {
    same = λ site kept. same site.scope site.line kept;
    header = header;
    behind_header = λ earlier line. refl;
    zero_line = λ earlier. zero;
    rows_line = λ earlier. row;
    sample_line = λ earlier later port alike. refl;
  }

  names_carry : Carries redeclares
  names_carry = record {
    same = λ site kept. kept;
    header = refl;
    behind_header = λ earlier line. refl;
    zero_line = λ earlier. refl;
    rows_line = λ earlier. refl;
    sample_line = λ earlier later port alike. refl;
  }

  connections_carry : Carries connects_again
  connections_carry = record {
    same = λ site kept. kept;
    header = refl;
    behind_header = λ earlier line. refl;
    zero_line = λ earlier. refl;
    rows_line = λ earlier. refl;
    sample_line = λ earlier later port alike. refl;
  }

  repeats_carry : Carries repeats_itself
  repeats_carry = record {
    same = λ site kept. kept;
    header = refl;
    behind_header = λ earlier line. refl;
    zero_line = λ earlier. refl;
    rows_line = λ earlier. refl;
    sample_line = λ earlier later port alike. ap (λ (before : List PortName). list_any (same_port port) before || false) alike.sampled;
  }

  counts_carry : Carries (λ judged site. exceeds judged site.scope site.earlier site.line)
  counts_carry = record {
    same = λ site kept. counts_same site.scope site.earlier site.line ∙ kept;
    header = refl;
    behind_header = λ earlier line. refl;
    zero_line = λ earlier. refl;
    rows_line = λ earlier. refl;
    sample_line = λ earlier later port alike.
        ap (λ count. is_above (Some 2048) count || false) ((one_more earlier later (form.Sample port) alike).counted port);
  }

  module _ (few : nat_lt 1000000 (rows * length system.instances) ≡ false) where
    all_carry : AllByRecursion (λ (rule : Rule). Carries rule.breaks) rules
    all_carry = (
      names_carry,
      (
        by_line misnames (λ scope line kept. names_same scope line ∙ kept) refl refl refl,
        (
          by_line kind_breaks kinds_weaker refl refl refl,
          (
            by_line (λ judged scope line. on_literal is_beyond (literal_on judged scope line))
                (λ scope line kept. ap (on_literal is_beyond) (literals_same scope line) ∙ kept) refl refl refl,
            (
              by_line (λ judged scope line. hides_need scope line) (λ scope line kept. kept) refl refl refl,
              (
                connections_carry,
                (
                  by_line (λ judged scope line. joins_other_types judged line) (λ scope line kept. joins_same line ∙ kept) refl refl refl,
                  (
                    counts_carry,
                    (
                      by_line has_deep_expression
                          (λ scope line kept. ap (list_any (λ plain. is_deep (expression_on plain))) (forms_same scope line) ∙ kept) refl refl refl,
                      (
                        by_line costs_too_much (λ scope line kept. ap (list_any (is_dear scope)) (forms_same scope line) ∙ kept) refl refl refl,
                        (
                          by_line (λ judged scope line. lacks_stop judged line) (λ scope line kept. stop_same line ∙ kept) refl refl refl,
                          (
                            by_line (λ judged scope line. mistimes judged line) (λ scope line kept. times_same line ∙ kept) refl refl refl,
                            (
                              by_line (λ judged scope line. has_too_many_rows judged line) (λ scope line kept. rows_same line ∙ kept) refl refl few,
                              (
                                by_line (λ judged scope line. assigns_read_only scope line) (λ scope line kept. kept) refl refl refl,
                                (
                                  by_line (λ judged scope line. lacks_instance judged line) (λ scope line kept. instance_same line ∙ kept) refl refl refl,
                                  (repeats_carry, tt),
                                ),
                              ),
                            ),
                          ),
                        ),
                      ),
                    ),
                  ),
                ),
              ),
            ),
          ),
        ),
      ),
    )

  -- ---- Along the lines

  module _ (breaks : System → Site → Bool) (carries : Carries breaks) where
    abbrev Kept : Site → Type 0
    Kept site = breaks system site ≡ false

    abbrev Keeps : Site → Type 0
    Keeps site = breaks changed site ≡ false

    samples_keep : (samples : List PortName) (earlier later : List LineForm) → SameSamples earlier later
        → Hold Kept TopScope earlier (flat_map headed_part (map parts.Samples samples))
        → Hold Keeps TopScope later (flat_map headed_part (map parts.Samples samples))
    samples_keep [] earlier later alike hold = tt
    samples_keep (port ∷ samples) earlier later alike hold = (
      sym (carries.sample_line earlier later port alike) ∙ carries.same (top earlier (form.Sample port)) hold.0,
      tt,
      samples_keep samples (earlier ++ (form.Sample port ∷ [])) (later ++ (form.Sample port ∷ []))
          (one_more earlier later (form.Sample port) alike) hold.2,
    )

    rows_behind : (earlier later : List LineForm) → SameSamples earlier later → Hold Kept TopScope earlier (sample_heads system)
        → Hold Keeps TopScope (later ++ (form.Rows rows ∷ [])) (sample_heads system)
    rows_behind earlier later alike hold =
        samples_keep system.samples earlier (later ++ (form.Rows rows ∷ []))
        (in_turn earlier later (later ++ (form.Rows rows ∷ [])) alike (turned (later ++ (form.Rows rows ∷ [])) later (rows_no_sample later rows))) hold

    rows_keep : (given : Option ℕ) (earlier later : List LineForm) → SameSamples earlier later
        → Hold Kept TopScope earlier (row_heads given ++ sample_heads system)
        → Hold Keeps TopScope (later ++ (form.Rows rows ∷ [])) (sample_heads system)
    rows_keep None earlier later alike hold = rows_behind earlier later alike hold
    rows_keep (Some count) earlier later alike hold =
        rows_behind (earlier ++ (form.Rows count ∷ [])) later
        (in_turn (earlier ++ (form.Rows count ∷ [])) earlier later (rows_no_sample earlier count) alike) hold.2

    zeros_behind : (earlier later : List LineForm) → SameSamples earlier later
        → Hold Kept TopScope earlier (row_heads system.rows ++ sample_heads system)
        → Hold Keeps TopScope later (alone (form.Zero zeros) ∷ alone (form.Rows rows) ∷ sample_heads system)
    zeros_behind earlier later alike hold =
        let behind : List LineForm = later ++ (form.Zero zeros ∷ []) in (
          carries.zero_line later,
          tt,
          (
            carries.rows_line behind,
            tt,
            rows_keep system.rows earlier behind (in_turn earlier later behind alike (turned behind later (zero_no_sample later zeros))) hold,
          ),
        )

    zeros_keep : (given : Option ℕ) (earlier later : List LineForm) → SameSamples earlier later
        → Hold Kept TopScope earlier (zero_heads given ++ (row_heads system.rows ++ sample_heads system))
        → Hold Keeps TopScope later (alone (form.Zero zeros) ∷ alone (form.Rows rows) ∷ sample_heads system)
    zeros_keep None earlier later alike hold = zeros_behind earlier later alike hold
    zeros_keep (Some count) earlier later alike hold =
        zeros_behind (earlier ++ (form.Zero count ∷ [])) later
        (in_turn (earlier ++ (form.Zero count ∷ [])) earlier later (zero_no_sample earlier count) alike) hold.2

    front_keeps : (heads : List Headed) (earlier : List LineForm)
        → Hold Kept TopScope (form.Header system.version ∷ earlier) (heads ++ (zero_heads system.zero ++ (row_heads system.rows ++ sample_heads system)))
        → Hold Keeps TopScope (form.Header 2 ∷ earlier) (heads ++ (alone (form.Zero zeros) ∷ alone (form.Rows rows) ∷ sample_heads system))
    front_keeps [] earlier hold =
        zeros_keep system.zero (form.Header system.version ∷ earlier) (form.Header 2 ∷ earlier) (record { sampled = refl; counted = λ port. refl }) hold
    front_keeps (first ∷ heads) earlier hold = (
      sym (carries.behind_header earlier first.head) ∙ carries.same (top (form.Header system.version ∷ earlier) first.head) hold.0,
      each_so Kept Keeps carries.same first.block hold.1,
      front_keeps heads (earlier ++ (first.head ∷ [])) hold.2,
    )

    rule_kept : filter_map (number_where (breaks system)) (enumerate_from 1 (sites_of system)) ≡ []
        → filter_map (number_where (breaks changed)) (enumerate_from 1 (sites_of changed)) ≡ []
    rule_kept none =
        let hold =
        hold_all Kept TopScope [] (alone (form.Header system.version) ∷ flat_map headed_part (canonical_parts system))
        (all_keep (breaks system) 1 (sites_of system) none) in
        let behind =
        front_keeps (front_heads system) [] (subst (Hold Kept TopScope (form.Header system.version ∷ [])) (heads_are system) hold.2) in
        no_number (breaks changed) 1 (sites_of changed)
        (all_hold Keeps TopScope [] (alone (form.Header 2) ∷ flat_map headed_part (canonical_parts changed)) (
          sym carries.header ∙ carries.same (top [] (form.Header system.version)) hold.0,
          tt,
          subst (Hold Keeps TopScope (form.Header 2 ∷ [])) (sym (heads_are changed)) behind,
        ))

  all_kept : (judged : List Rule) → AllByRecursion (λ (rule : Rule). Carries rule.breaks) judged → BreaksNone judged system → BreaksNone judged changed
  all_kept [] carry kept = tt
  all_kept (first ∷ later) carry kept = (rule_kept first.breaks carry.0 kept.0, all_kept later carry.1 kept.1)

  -- ---- Rows

  abbrev FewRows : Site → Type 0
  FewRows site = has_too_many_rows system site.line ≡ false

  few_by : (before : List LineForm) (given : Option ℕ) → Hold FewRows TopScope before (row_heads given ++ sample_heads system)
      → nat_lt 1000000 (unwrap_or given (default_rows 1 (length system.instances)) * length system.instances) ≡ false
  few_by before None hold = default_shares (length system.instances)
  few_by before (Some count) hold = hold.0

  few_rows : IsWellFormed system → nat_lt 1000000 (rows * length system.instances) ≡ false
  few_rows kept =
      let hold =
      hold_all FewRows TopScope [] (alone (form.Header system.version) ∷ flat_map headed_part (canonical_parts system))
      (all_keep (λ site. has_too_many_rows system site.line) 1 (sites_of system) kept.1.1.1.1.1.1.1.1.1.1.1.1.0) in
      let zero_behind : List Headed = zero_heads system.zero ++ (row_heads system.rows ++ sample_heads system) in
      let budgets =
      hold_behind FewRows TopScope (form.Header system.version ∷ []) (front_heads system) zero_behind
      (subst (Hold FewRows TopScope (form.Header system.version ∷ [])) (heads_are system) hold.2) in
      let behind = hold_behind FewRows TopScope budgets.0 (zero_heads system.zero) (row_heads system.rows ++ sample_heads system) budgets.1 in
      few_by behind.0 system.rows behind.1

  version_2_keeps : IsWellFormed system → IsWellFormed changed
  version_2_keeps kept = all_kept rules (all_carry (few_rows kept)) kept

pub upgrades_are_well_formed : UpgradesAreWellFormed
upgrades_are_well_formed system kept = by (system.version == 1)
  where
    by : (first : Bool) → IsWellFormed (cond first (in_version_2 system) system)
    by true = version_2_keeps system kept
    by false = kept
