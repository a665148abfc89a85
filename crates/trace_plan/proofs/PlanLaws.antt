-- What a plan has for an instance is what its member needs.
use Rattle.std.proofs.Common.{◌≡◌, ◌≤◌, ◌^◌, ℕ, ◌<◌, length, get_or, Some, ◌∙◌, ap, sym, subst, arith}
use Rattle.std.proofs.lemmas.List.{length-map}
use Rattle.std.proofs.lemmas.Option.{get_or_from_slice_get, slice_get-map}
use Rattle.std.specs.Option.{option_map}
use Rattle.std.proofs.lemmas.Slice.Zip.{AllZip-long}
use Rattle.std.specs.Prelude.{slice_get}
use Rattle.std.specs.List.{AllZip}
use Rattle.std.specs.Vec.{vec_len}
use Rattle.trace_plan.specs.Keeps.{planned, IsFitted, IsPlan}
use Rattle.trace_plan.specs.Plans.{HaveImages, Planned}
use Rattle.trace_plan.specs.declared.fitting.Fitted.{Fitted}
use Rattle.trace_plan.specs.declared.plan.Plan.TheInside.{Inside}
use Rattle.unit_tree.specs.Compositions.{Member}
use Rattle.list_laws.proofs.Members.{at_place}
use Rattle.list_laws.proofs.Pairs.{zip_at}

module _ (plan : Inside) (keeps : IsPlan plan) (seen : Planned) (is : planned plan ≡ seen) where
  each : AllZip IsFitted seen.run.members plan.fitted.items
  each = subst (λ (p : Planned). AllZip IsFitted p.run.members plan.fitted.items) is keeps.fitted

  pub fitted_count : vec_len plan.fitted ≡ length seen.run.members
  fitted_count = let count = AllZip-long IsFitted seen.run.members plan.fitted.items each in omega (arith, count, plan.fitted.ok.0)

  pub fitted_within : (instance : ℕ) → instance < length seen.run.members → instance < vec_len plan.fitted
  fitted_within instance within = omega (arith, within, fitted_count)

  pub images_there : HaveImages seen.run
  images_there instance member member_is =
      let beside = zip_at IsFitted seen.run.members plan.fitted.items instance member each member_is in
      record { image = beside.other.image.value; is_image = beside.related.image }

  pub few : length seen.run.members ≤ 64
  few = subst (λ (p : Planned). length p.run.members ≤ 64) is keeps.bounded.members

  module _ (instance : ℕ) (one : Fitted) (got : one ≡ get_or plan.fitted.items instance one) where
    pub fitted_at : (member : Member) → slice_get seen.run.members instance ≡ Some member → IsFitted member one
    fitted_at member member_is =
        let beside = zip_at IsFitted seen.run.members plan.fitted.items instance member each member_is in
        subst (IsFitted member) (sym (got ∙ get_or_from_slice_get plan.fitted.items instance beside.other one beside.is)) beside.related

  factors_count : vec_len plan.factors ≡ length seen.run.members
  factors_count =
      let many = ap length keeps.factors ∙ length-map plan.fitted.items (λ (one : Fitted). one.factor) in
      let count = AllZip-long IsFitted seen.run.members plan.fitted.items each in
      omega (arith, many, count, plan.factors.ok.0)

  pub factor_within : (instance : ℕ) → instance < length seen.run.members → instance < vec_len plan.factors
  factor_within instance within = omega (arith, within, factors_count)

  module _ (instance : ℕ) (factor : ℕ) (got : factor ≡ get_or plan.factors.items instance factor) where
    pub factor_at : (member : Member) → slice_get seen.run.members instance ≡ Some member → (factor ≡ member.factor) × (1 ≤ factor) × (factor ≤ 10 ^ 9)
    factor_at member member_is =
        let beside = zip_at IsFitted seen.run.members plan.fitted.items instance member each member_is in
        let told : slice_get plan.factors.items instance ≡ Some beside.other.factor =
        ap (λ xs. slice_get xs instance) keeps.factors ∙ slice_get-map (λ (one : Fitted). one.factor) plan.fitted.items instance
        ∙ ap (option_map (λ (one : Fitted). one.factor)) beside.is in
        let same : factor ≡ beside.other.factor = got ∙ get_or_from_slice_get plan.factors.items instance beside.other.factor factor told in
        let fits = beside.related in
        (same ∙ fits.factor, subst (λ n. 1 ≤ n) (sym same) fits.least, subst (λ n. n ≤ 10 ^ 9) (sym same) fits.coarsest)

    pub factor_there : instance < length seen.run.members → (member : Member) × (1 ≤ factor) × (factor ≤ 10 ^ 9)
    factor_there within =
        let there = at_place seen.run.members instance within in
        let told = factor_at there.0 there.1 in
        (there.0, told.1, told.2)
