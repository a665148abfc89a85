-- Routes that are made from components are those of their composition.
use Rattle.std.proofs.Common.{◌≡◌, ℕ, zero, suc, ◌+◌, ◌<◌, ◌≤◌, true, false, cond, List, [], ◌∷◌, ◌++◌, map, length, get_or, set, drop, Some, None, refl, ap}
use Rattle.std.proofs.Common.{sym, subst, ◌∙◌, arith, append-nil, append_assoc}
use Rattle.std.specs.Prelude.{◌==◌, ℤ}
use Rattle.std.specs.List.{AllZip, enumerate_from, flat_map, filter_map, zip, cons_option}
use Rattle.std.proofs.lemmas.Bool.{eq-eqb, ne_eqb}
use Rattle.std.proofs.lemmas.List.Elements.{filter_map-append}
use Rattle.unit_tree.specs.Compositions.{InputSource, Start, AtPlace, Member, Composition}
use Rattle.unit_tree.specs.Routes.{Numbered, outputs_in, routes_of, inputs_in, inputs_of, fed_from, starts_at}
use Rattle.unit_tree.specs.declared.order.InputAt.{InputAt}
use Rattle.unit_tree.specs.declared.order.Route.{Route}
use Rattle.unit_tree.specs.declared.order.StartWord.{StartWord}
use Rattle.unit_tree.specs.Ports.{place_needed}
use Rattle.unit_tree.specs.declared.unit.Input.{Input}
use Rattle.unit_tree.specs.declared.unit.Output.{Output}
use Rattle.unit_tree.specs.declared.unit.Unit.{Unit}
use Rattle.wire_graph.specs.Routing.{bare, numbered_in, wired_in, wired_among, fed, routed_by, routes_from}

-- ---- One input more

-- An output before and after an input is added that is connected to it.
pub fed_at : (routes : List Route) (place : ℕ) (at : InputAt) (route : Route) (feeds : List InputAt) → place < length routes
    → route ≡ get_or routes place route → feeds ≡ (get_or routes place route).feeds ++ (at ∷ [])
    → set routes place (record (get_or routes place route) { feeds = feeds }) ≡ fed routes place at
fed_at [] place at route feeds within is more = absurd (omega arith)
fed_at (first ∷ routes) zero at route feeds within is more = ap (λ all. record first { feeds = all } ∷ routes) more
fed_at (first ∷ routes) (suc place) at route feeds within is more =
    ap (λ rest. first ∷ rest) (fed_at routes place at route feeds (omega (arith, within)) is more)

pub fed_past : (routes : List Route) (place : ℕ) (at : InputAt) → length routes ≤ place → routes ≡ fed routes place at
fed_past [] place at past = refl
fed_past (first ∷ routes) zero at past = absurd (omega (arith, past))
fed_past (first ∷ routes) (suc place) at past = ap (λ rest. first ∷ rest) (fed_past routes place at (omega (arith, past)))

-- ---- All inputs in a row

pub routed_on : (routes : List Route) (front behind : List (InputAt × InputSource))
    → routed_by routes (front ++ behind) ≡ routed_by (routed_by routes front) behind
routed_on routes [] behind = refl
routed_on routes ((at, Start word) ∷ front) behind = routed_on routes front behind
routed_on routes ((at, AtPlace place) ∷ front) behind = routed_on (fed routes place at) front behind

-- An output with those of some inputs that are connected to it.
abbrev feeding : List (InputAt × InputSource) → ℕ × Numbered → Route
feeding inputs (place, numbered) =
    record { instance = numbered.instance; output = numbered.output; feeds = filter_map (fed_from place) inputs; needs = numbered.needs }

abbrev all_feeding : List (InputAt × InputSource) → ℕ → List Numbered → List Route
all_feeding inputs from outputs = map (feeding inputs) (enumerate_from from outputs)

bare_feeding : (from : ℕ) (outputs : List Numbered) → map bare outputs ≡ all_feeding [] from outputs
bare_feeding from [] = refl
bare_feeding from (output ∷ outputs) = ap (λ rest. bare output ∷ rest) (bare_feeding (from + 1) outputs)

abbrev with_feeds : Numbered → List InputAt → Route
with_feeds numbered feeds = record { instance = numbered.instance; output = numbered.output; feeds = feeds; needs = numbered.needs }

-- A start word adds no input to an output.
feeding_start : (inputs : List (InputAt × InputSource)) (at : InputAt) (word : ℤ) (from : ℕ) (outputs : List Numbered)
    → all_feeding inputs from outputs ≡ all_feeding (inputs ++ ((at, Start word) ∷ [])) from outputs
feeding_start inputs at word from [] = refl
feeding_start inputs at word from (output ∷ outputs) =
    ap (λ feeds. with_feeds output feeds ∷ all_feeding inputs (from + 1) outputs)
    (sym (append-nil (filter_map (fed_from from) inputs)) ∙ sym (filter_map-append (fed_from from) inputs ((at, Start word) ∷ [])))
    ∙ ap (λ rest. with_feeds output (filter_map (fed_from from) (inputs ++ ((at, Start word) ∷ []))) ∷ rest) (feeding_start inputs at word (from + 1) outputs)

-- The inputs of the output at another place are unchanged.
feeds_other : (inputs : List (InputAt × InputSource)) (at : InputAt) (place from : ℕ) → (place == from) ≡ false
    → filter_map (fed_from from) (inputs ++ ((at, AtPlace place) ∷ [])) ≡ filter_map (fed_from from) inputs
feeds_other inputs at place from other =
    filter_map-append (fed_from from) inputs ((at, AtPlace place) ∷ [])
    ∙ ap (λ told. filter_map (fed_from from) inputs ++ cons_option (cond told (Some at) None) []) other
    ∙ append-nil (filter_map (fed_from from) inputs)

feeds_here : (inputs : List (InputAt × InputSource)) (at : InputAt) (place from : ℕ) → (place == from) ≡ true
    → filter_map (fed_from from) (inputs ++ ((at, AtPlace place) ∷ [])) ≡ filter_map (fed_from from) inputs ++ (at ∷ [])
feeds_here inputs at place from same =
    filter_map-append (fed_from from) inputs ((at, AtPlace place) ∷ [])
    ∙ ap (λ told. filter_map (fed_from from) inputs ++ cons_option (cond told (Some at) None) []) same

-- Outputs at later places are unchanged.
feeding_later : (inputs : List (InputAt × InputSource)) (at : InputAt) (place from : ℕ) (outputs : List Numbered) → place < from
    → all_feeding inputs from outputs ≡ all_feeding (inputs ++ ((at, AtPlace place) ∷ [])) from outputs
feeding_later inputs at place from [] below = refl
feeding_later inputs at place from (output ∷ outputs) below =
    ap (λ feeds. with_feeds output feeds ∷ all_feeding inputs (from + 1) outputs)
    (sym (feeds_other inputs at place from (ne_eqb place from (λ same. omega (arith, same, below)))))
    ∙ ap (λ rest. with_feeds output (filter_map (fed_from from) (inputs ++ ((at, AtPlace place) ∷ []))) ∷ rest)
    (feeding_later inputs at place (from + 1) outputs (omega (arith, below)))

feeding_place : (inputs : List (InputAt × InputSource)) (at : InputAt) (place from ahead : ℕ) (outputs : List Numbered) → place ≡ from + ahead
    → fed (all_feeding inputs from outputs) ahead at ≡ all_feeding (inputs ++ ((at, AtPlace place) ∷ [])) from outputs
feeding_place inputs at place from ahead [] is = refl
feeding_place inputs at place from zero (output ∷ outputs) is =
    ap (λ feeds. with_feeds output feeds ∷ all_feeding inputs (from + 1) outputs)
    (sym (feeds_here inputs at place from (eq-eqb place from (omega (arith, is)))))
    ∙ ap (λ rest. with_feeds output (filter_map (fed_from from) (inputs ++ ((at, AtPlace place) ∷ []))) ∷ rest)
    (feeding_later inputs at place (from + 1) outputs (omega (arith, is)))
feeding_place inputs at place from (suc ahead) (output ∷ outputs) is =
    ap (λ feeds. with_feeds output feeds ∷ fed (all_feeding inputs (from + 1) outputs) ahead at)
    (sym (feeds_other inputs at place from (ne_eqb place from (λ same. omega (arith, same, is)))))
    ∙ ap (λ rest. with_feeds output (filter_map (fed_from from) (inputs ++ ((at, AtPlace place) ∷ []))) ∷ rest)
    (feeding_place inputs at place (from + 1) ahead outputs (omega (arith, is)))

routed_feeding : (done inputs : List (InputAt × InputSource)) (outputs : List Numbered)
    → routed_by (all_feeding done 0 outputs) inputs ≡ all_feeding (done ++ inputs) 0 outputs
routed_feeding done [] outputs = ap (λ all. all_feeding all 0 outputs) (sym (append-nil done))
routed_feeding done ((at, Start word) ∷ inputs) outputs =
    ap (λ routes. routed_by routes inputs) (feeding_start done at word 0 outputs)
    ∙ routed_feeding (done ++ ((at, Start word) ∷ [])) inputs outputs
    ∙ ap (λ all. all_feeding all 0 outputs) (append_assoc done ((at, Start word) ∷ []) inputs)
routed_feeding done ((at, AtPlace place) ∷ inputs) outputs =
    ap (λ routes. routed_by routes inputs) (feeding_place done at place 0 place outputs (omega arith))
    ∙ routed_feeding (done ++ ((at, AtPlace place) ∷ [])) inputs outputs
    ∙ ap (λ all. all_feeding all 0 outputs) (append_assoc done ((at, AtPlace place) ∷ []) inputs)

-- ---- The routes of a composition

-- A component with its inputs and their sources, where each has one.
abbrev pub IsWiredAs : Member → Unit × List (Input × InputSource) → Type 0
IsWiredAs member wired =
    (wired.0 ≡ member.component.unit) × (wired.1 ≡ zip member.component.unit.inputs member.sources)
    × (map (λ (one : Input × InputSource). one.1) wired.1 ≡ member.sources)

abbrev numbered_by : ℕ → List (Input × InputSource) → ℕ × Output → Numbered
numbered_by instance inputs counted = record { instance = instance; output = counted.0; needs = filter_map (place_needed counted.1) inputs }

abbrev wired_by : ℕ → ℕ × (Input × InputSource) → InputAt × InputSource
wired_by instance counted = (record { instance = instance; input = counted.0 }, counted.1.1)

abbrev placed_by : ℕ → ℕ × InputSource → InputAt × InputSource
placed_by instance counted = (record { instance = instance; input = counted.0 }, counted.1)

pub numbered_same : (from : ℕ) (members : List Member) (wired : List (Unit × List (Input × InputSource))) → AllZip IsWiredAs members wired
    → flat_map numbered_in (enumerate_from from wired) ≡ flat_map outputs_in (enumerate_from from members)
numbered_same from [] [] all = refl
numbered_same from [] (one ∷ wired) all = absurd all
numbered_same from (member ∷ members) [] all = absurd all
numbered_same from (member ∷ members) (one ∷ wired) all =
    ap (λ (unit : Unit). map (numbered_by from one.1) (enumerate_from 0 unit.outputs) ++ flat_map numbered_in (enumerate_from (from + 1) wired)) all.0.0
    ∙ ap (λ inputs. map (numbered_by from inputs) (enumerate_from 0 member.component.unit.outputs)
    ++ flat_map numbered_in (enumerate_from (from + 1) wired)) all.0.1
    ∙ ap (λ rest. outputs_in (from, member) ++ rest) (numbered_same (from + 1) members wired all.1)

counted_same : (instance from : ℕ) (inputs : List (Input × InputSource))
    → map (wired_by instance) (enumerate_from from inputs) ≡ map (placed_by instance) (enumerate_from from (map (λ (one : Input × InputSource). one.1) inputs))
counted_same instance from [] = refl
counted_same instance from (one ∷ inputs) = ap (λ rest. placed_by instance (from, one.1) ∷ rest) (counted_same instance (from + 1) inputs)

wired_same : (from : ℕ) (members : List Member) (wired : List (Unit × List (Input × InputSource))) → AllZip IsWiredAs members wired
    → flat_map wired_among (enumerate_from from wired) ≡ flat_map inputs_in (enumerate_from from members)
wired_same from [] [] all = refl
wired_same from [] (one ∷ wired) all = absurd all
wired_same from (member ∷ members) [] all = absurd all
wired_same from (member ∷ members) (one ∷ wired) all =
    ap (λ front. front ++ flat_map wired_among (enumerate_from (from + 1) wired)) (counted_same from 0 one.1)
    ∙ ap (λ sources. map (placed_by from) (enumerate_from 0 sources) ++ flat_map wired_among (enumerate_from (from + 1) wired)) all.0.2
    ∙ ap (λ rest. inputs_in (from, member) ++ rest) (wired_same (from + 1) members wired all.1)

pub routes_are : (run : Composition) (wired : List (Unit × List (Input × InputSource))) → AllZip IsWiredAs run.members wired → routes_from wired ≡ routes_of run
routes_are run wired all =
    let outputs = flat_map outputs_in (enumerate_from 0 run.members) in
    ap
    (λ numbered. record {
      outputs = routed_by (map bare numbered) (flat_map wired_among (enumerate_from 0 wired));
      starts =
          filter_map starts_at (flat_map wired_among (enumerate_from 0 wired));
    })
    (numbered_same 0 run.members wired all)
    ∙ ap (λ inputs. record { outputs = routed_by (map bare outputs) inputs; starts = filter_map starts_at inputs }) (wired_same 0 run.members wired all)
    ∙ ap (λ all_routes. record { outputs = all_routes; starts = filter_map starts_at (inputs_of run) })
    (ap (λ routes. routed_by routes (inputs_of run)) (bare_feeding 0 outputs) ∙ routed_feeding [] (inputs_of run) outputs)

-- ---- From component to component

module _ {A : Type 0} (of : A → Unit × List (Input × InputSource)) where
  abbrev pub rest_from : ℕ → List A → List (InputAt × InputSource)
  rest_from number members = flat_map wired_among (enumerate_from number (map of members))

  rest_on : (members : List A) (from k : ℕ) (member : A) → k < length members → member ≡ get_or members k member
      → rest_from (from + k) (drop k members) ≡ wired_in (from + k, (of member).1) ++ rest_from (from + k + 1) (drop (k + 1) members)
  rest_on [] from k member within is = absurd (omega arith)
  rest_on (first ∷ members) from zero member within is =
      ap (λ one. wired_in (from + 0, (of one).1) ++ rest_from (from + 0 + 1) members) (sym is)
  rest_on (first ∷ members) from (suc k) member within is =
      let here : from + suc k ≡ from + 1 + k = omega arith in
      let next : suc k + 1 ≡ suc (k + 1) = omega arith in
      ap (λ number. rest_from number (drop k members)) here
      ∙ rest_on members (from + 1) k member (omega (arith, within)) is
      ∙ ap (λ number. wired_in (number, (of member).1) ++ rest_from (number + 1) (drop (k + 1) members)) (sym here)
      ∙ ap (λ places. wired_in (from + suc k, (of member).1) ++ rest_from (from + suc k + 1) (drop places (first ∷ members))) (sym next)

  rest_at : (members : List A) (k : ℕ) (member : A) → k < length members → member ≡ get_or members k member
      → rest_from k (drop k members) ≡ wired_in (k, (of member).1) ++ rest_from (k + 1) (drop (k + 1) members)
  rest_at members k member within is =
      let same : 0 + k ≡ k = omega arith in
      subst (λ number. rest_from number (drop k members) ≡ wired_in (number, (of member).1) ++ rest_from (number + 1) (drop (k + 1) members)) same
      (rest_on members 0 k member within is)

  module _ (members : List A) (k number : ℕ) (member : A) (inputs : List (Input × InputSource)) (within : k < length members)
      (is : member ≡ get_or members k member) (number_is : number ≡ k) (inputs_are : inputs ≡ (of member).1) where
    here : rest_from k (drop k members) ≡ wired_in (number, inputs) ++ rest_from (k + 1) (drop (k + 1) members)
    here =
        rest_at members k member within is
        ∙ ap (λ all. wired_in (k, all) ++ rest_from (k + 1) (drop (k + 1) members)) (sym inputs_are)
        ∙ ap (λ n. wired_in (n, inputs) ++ rest_from (k + 1) (drop (k + 1) members)) (sym number_is)

    pub routes_step : (routes new right : List Route) → new ≡ routed_by routes (wired_in (number, inputs))
        → routed_by routes (rest_from k (drop k members)) ≡ right → routed_by new (rest_from (k + 1) (drop (k + 1) members)) ≡ right
    routes_step routes new right new_is all =
        ap (λ some. routed_by some (rest_from (k + 1) (drop (k + 1) members))) new_is
        ∙ sym (routed_on routes (wired_in (number, inputs)) (rest_from (k + 1) (drop (k + 1) members)))
        ∙ ap (routed_by routes) (sym here)
        ∙ all

    pub starts_step : (starts new right : List StartWord) → new ≡ starts ++ filter_map starts_at (wired_in (number, inputs))
        → starts ++ filter_map starts_at (rest_from k (drop k members)) ≡ right
        → new ++ filter_map starts_at (rest_from (k + 1) (drop (k + 1) members)) ≡ right
    starts_step starts new right new_is all =
        ap (λ some. some ++ filter_map starts_at (rest_from (k + 1) (drop (k + 1) members))) new_is
        ∙ append_assoc starts (filter_map starts_at (wired_in (number, inputs))) (filter_map starts_at (rest_from (k + 1) (drop (k + 1) members)))
        ∙ ap (λ rest. starts ++ rest)
        (sym (filter_map-append starts_at (wired_in (number, inputs)) (rest_from (k + 1) (drop (k + 1) members))) ∙ ap (filter_map starts_at) (sym here))
        ∙ all
