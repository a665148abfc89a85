-- The proposed step by known limits, and the stage by the limits.
use Rattle.std.proofs.Common.{◌≡◌, ◌∙◌, ℕ, ◌+◌, ◌-◌, ◌≤◌, ◌<◌, min, Bool, true, List, length, map, zip, get_or, Option, Some, Result, Ok, Err, is_some}
use Rattle.std.proofs.Common.{refl, sym, ap, ap₂, subst, arith}
use Rattle.std.proofs.lemmas.List.{length-map}
use Rattle.std.proofs.lemmas.Option.{slice_get-get_or}
use Rattle.std.specs.Prelude.{if◌then◌else◌, slice_get}
use Rattle.std.specs.List.{filter_map}
use Rattle.fixed_words.specs.declared.types.Fault.{Fault}
use Rattle.link_laws.specs.Stages.{limit_in, max_by, over_or}
use Rattle.link_laws.specs.declared.fact.Asked.{Asked}
use Rattle.link_laws.specs.declared.stage.Stage.{Stage}
use Rattle.link_laws.specs.declared.stage.Stage.TheVariants.{Limits, Over}
use Rattle.link_core.proofs.StageItems.{as_many_zipped, limit_there}
use Rattle.step_rule.proofs.AlongLaws.{mapped_at}
use Rattle.step_rule.proofs.LimitLaws.{Proposes, ends_by, length_by, no_end_by, none_proposed, proposed_is, proposes_next, with_most}
use Rattle.step_rule.proofs.StepLaws.{EndFrom, end_here, end_next, end_none}
use Rattle.step_rule.specs.Limits.{limited, with_limit}
use Rattle.step_rule.specs.Steps.{ending_or}
use Rattle.trace_plan.specs.Plans.{ForMember}
use Rattle.unit_tree.specs.Compositions.{Composition}
use Rattle.unit_tree.specs.Negotiation.{limit_told, proposal_of}
use Rattle.unit_tree.specs.Successor.{first_told, max_end_of}
use Rattle.unit_tree.specs.declared.ending.Ending.{Ending}

-- No limit before an instance ends the run, and this is the proposed step by these limits.
pub record LimitedSoFar (run : Composition) (limits : List (Option Asked)) (t instance least : ℕ) : Type 0 where
  pub no_end : EndFrom max_end_of (map max_by limits) instance
  pub proposes : Proposes (limit_in t) (zip run.members limits) (min (run.stop - t) run.longest) instance least
  pub at_most : least ≤ run.stop - t

pub none_limited : (run : Composition) (limits : List (Option Asked)) (t first : ℕ) → first ≡ min (run.stop - t) run.longest
    → LimitedSoFar run limits t 0 first
none_limited run limits t first is = record {
  no_end = record { is = refl };
  proposes = subst (λ least. Proposes (limit_in t) (zip run.members limits) least 0 first) is (none_proposed (limit_in t) (zip run.members limits) first);
  at_most = omega (arith, is);
}

module _ (run : Composition) (limits : List (Option Asked)) (t instance least factor : ℕ) (d : Option Asked) (long : length limits ≡ length run.members)
    (within : instance < length run.members) (factor_is : ForMember run instance (λ member. factor ≡ member.factor))
    (so : LimitedSoFar run limits t instance least) where
  abbrev pub told : Result (Option ℕ) Fault
  told = max_by (get_or limits instance d)

  told_there : slice_get (map max_by limits) instance ≡ Some told
  told_there =
      mapped_at max_by limits instance (get_or limits instance d) (slice_get-get_or limits instance d (omega (arith, within, long)))

  pub one_limited : (next : ℕ) → limited least instance factor t told ≡ Ok next → LimitedSoFar run limits t (instance + 1) next
  one_limited next goes =
      let none = no_end_by (max_end_of (instance, told)) (with_limit least (limit_told factor t told)) next goes in
      let next_is = length_by (max_end_of (instance, told)) (with_limit least (limit_told factor t told)) next goes in
      let there = limit_there run t instance factor within factor_is limits long d in
      let same : with_limit least (limit_in t there.0) ≡ next = ap (with_limit least) (sym there.2) ∙ sym next_is in
      record {
        no_end = end_next max_end_of (map max_by limits) instance told told_there (ap is_some none) so.no_end;
        proposes =
            subst (Proposes (limit_in t) (zip run.members limits) (min (run.stop - t) run.longest) (instance + 1)) same
            (proposes_next (limit_in t) (zip run.members limits) (min (run.stop - t) run.longest) instance least there.0 there.1 so.proposes);
        at_most = omega (arith, next_is, with_most least (limit_told factor t told), so.at_most);
      }

  pub limited_ends : (h : ℕ) (ending : Ending) → limited least instance factor t told ≡ Err ending
      → Err ending ≡ ending_or (first_told max_end_of (map max_by limits)) h
  limited_ends h ending ends =
      let told_end = ends_by (max_end_of (instance, told)) (with_limit least (limit_told factor t told)) ending ends in
      ap (λ end. ending_or end h) (sym told_end ∙ end_here max_end_of (map max_by limits) instance told told_there (ap is_some told_end) so.no_end)

pub all_limited : (run : Composition) (limits : List (Option Asked)) (t instance least : ℕ) → length limits ≡ length run.members
    → length run.members ≤ instance → LimitedSoFar run limits t instance least
    → Ok least ≡ ending_or (first_told max_end_of (map max_by limits))
    (proposal_of run.stop run.longest t (filter_map (limit_in t) (zip run.members limits)))
all_limited run limits t instance least long past so =
    ap (λ h. Ok h)
    (proposed_is (limit_in t) (zip run.members limits) run.stop run.longest t instance least
    (omega (arith, as_many_zipped run.members limits long, past)) so.proposes)
    ∙ ap (λ end. ending_or end (proposal_of run.stop run.longest t (filter_map (limit_in t) (zip run.members limits))))
    (end_none max_end_of (map max_by limits) instance (omega (arith, length-map limits max_by, long, past)) so.no_end)

-- The stage by the limits, where these are all known.
pub over_by : (all : Bool) (end : Option Ending) (h : ℕ) (ending : Ending) (trial : ℕ → Stage) → all ≡ true → ending_or end h ≡ Err ending
    → Over ending ≡ (if all then over_or end (trial h) else Limits)
over_by all end h ending trial all_is ends =
    sym (ap₂ (λ test found. if test then over_or found (trial h) else Limits) all_is (ends_by end h ending ends))

pub trial_by : (all : Bool) (end : Option Ending) (h found : ℕ) (trial : ℕ → Stage) → all ≡ true → ending_or end h ≡ Ok found
    → trial found ≡ (if all then over_or end (trial h) else Limits)
trial_by all end h found trial all_is goes =
    ap trial (length_by end h found goes)
    ∙ sym (ap₂ (λ test one. if test then over_or one (trial h) else Limits) all_is (no_end_by end h found goes))
