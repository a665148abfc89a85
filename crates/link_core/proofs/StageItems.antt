-- The items of loops over outputs and instances.
use Rattle.std.proofs.Common.{◌≡◌, ◌∙◌, ℕ, ◌<◌, List, [], length, map, get_or, Option, Some, sym, ap, ap₂, arith}
use Rattle.std.proofs.lemmas.List.{length-map}
use Rattle.std.proofs.lemmas.Option.{slice_get-get_or}
use Rattle.std.specs.Prelude.{zip, slice_get}
use Rattle.link_laws.specs.Making.{name_of, names_of, no_states}
use Rattle.link_laws.specs.Stages.{limit_in, max_by, word_end}
use Rattle.link_laws.specs.declared.fact.Asked.{Asked}
use Rattle.link_laws.specs.declared.fact.Seen.{Seen}
use Rattle.std.proofs.lemmas.Slice.Zip.{length-zip}
use Rattle.list_laws.proofs.Members.{at_place}
use Rattle.list_laws.proofs.Pairs.{zip_there}
use Rattle.port_solve.proofs.OutputPlaces.{outlet_of}
use Rattle.run_laws.proofs.AssignmentLaws.{outlets_count}
use Rattle.step_rule.proofs.AlongLaws.{mapped_at}
use Rattle.trace_plan.specs.Plans.{ForMember}
use Rattle.unit_tree.specs.Compositions.{Composition, Member}
use Rattle.unit_tree.specs.Negotiation.{limit_told}
use Rattle.unit_tree.specs.Ports.{outlets}
use Rattle.unit_tree.specs.Routes.{routes_of}
use Rattle.unit_tree.specs.declared.ending.Ending.{Ending}
use Rattle.unit_tree.specs.declared.order.Route.{Route}
use Rattle.unit_tree.proofs.RouteLaws.{count_is}

pub as_many_zipped : {X Y : Type 0} (xs : List X) (ys : List Y) → length ys ≡ length xs → length (zip xs ys) ≡ length xs
as_many_zipped xs ys long = omega (arith, length-zip xs ys, long)

pub limit_there : (run : Composition) (t k factor : ℕ) → k < length run.members → ForMember run k (λ member. factor ≡ member.factor)
    → (limits : List (Option Asked)) → length limits ≡ length run.members → (d : Option Asked)
    → (x : Member × Option Asked) × (slice_get (zip run.members limits) k ≡ Some x) × (limit_told factor t (max_by (get_or limits k d)) ≡ limit_in t x)
limit_there run t k factor within factor_is limits long d =
    let member = at_place run.members k within in
    let asked = get_or limits k d in (
      (member.0, asked),
      zip_there run.members limits k member.0 asked member.1 (slice_get-get_or limits k d (omega (arith, within, long))),
      ap
          (λ f. limit_told f t (max_by asked)) (factor_is member.0 member.1),
    )

none_of : (run : Composition) → length (no_states run) ≡ length run.members
none_of run = length-map run.members (λ member. [])

-- The names of outputs are those of their routes.
pub names_count : (run : Composition) → length (names_of run) ≡ length (routes_of run).outputs
names_count run = length-map (outlets run (no_states run)) name_of ∙ outlets_count run (no_states run) (none_of run) ∙ sym (count_is run)

pub word_there : (run : Composition) (words : List (Option Seen)) (k : ℕ) (d : Option Seen) (route : Route) (end : Option Ending)
    → k < length (routes_of run).outputs → length words ≡ length (routes_of run).outputs
    → slice_get (routes_of run).outputs k ≡ Some route → end ≡ word_end ((route.instance, route.output), get_or words k d)
    → slice_get (map word_end (zip (names_of run) words)) k ≡ Some end
word_there run words k d route end within long route_is is =
    let seen = get_or words k d in
    let at = outlet_of run (no_states run) k route (none_of run) route_is in
    let name : slice_get (names_of run) k ≡ Some (route.instance, route.output) =
    mapped_at name_of (outlets run (no_states run)) k at.outlet at.is ∙ ap₂ (λ instance number. Some (instance, number)) at.instance at.number in
    mapped_at word_end (zip (names_of run) words) k ((route.instance, route.output), seen)
    (zip_there (names_of run) words k (route.instance, route.output) seen name (slice_get-get_or words k d (omega (arith, within, long))))
    ∙ ap (λ one. Some one) (sym is)

-- ---- How many there are

pub word_ends_long : (run : Composition) (words : List (Option Seen)) → length words ≡ length (routes_of run).outputs
    → length (map word_end (zip (names_of run) words)) ≡ length (routes_of run).outputs
word_ends_long run words long = length-map (zip (names_of run) words) word_end ∙ as_many_zipped (names_of run) words (long ∙ sym (names_count run))
    ∙ names_count run
