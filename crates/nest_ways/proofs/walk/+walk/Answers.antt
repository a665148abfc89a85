use Rattle.std.proofs.Common.{◌≡◌, ◌∙◌, ◌∷◌, ◌+◌, ◌++◌, [], Some, ap, arith, drop, refl, subst, sym, take, true, false}
use Rattle.std.specs.Prelude.{slice_get}
use Rattle.std.specs.Option.{option_map, option_to_list}
use Rattle.list_laws.proofs.Pairs.{zip_at}
use Rattle.nest_text.specs.declared.nest.Bind.{Bind}
use Rattle.std.proofs.lemmas.Option.{same_Some}
use Rattle.nest_ways.specs.Reaching.{IsStep, KeepsAll, LeadsHere, LeadsInside, lines_of}
use Rattle.nest_ways.specs.Walking.{IsDone, WalksOn, WalksWhole}
use Rattle.nest_ways.specs.declared.steps.WayStep.TheVariants as step_is
use Rattle.nest_ways.specs.declared.walk.Inlet.{Inlet}
use Rattle.nest_ways.proofs.WalkLaws.{inside_there, inside_walks, is_done_now, ok_more, walks_done, walks_more, walks_none, walks_same, walks_stop}
use Rattle.nest_ways.proofs.WalkLaws.{whole_of}
use Rattle.nest_ways.proofs.WayLaws.{line_next, lines_end, lines_split}
use Rattle.nest_ways.proofs.walk.+walk.Goals as goal

pub walk_known-put_kept-requires-clause-kept : goal.walk_known-put_kept-requires-clause-kept
walk_known-put_kept-requires-clause-kept t c =
    subst (KeepsAll c.args.start.now.names.now c.args.start.now.ways.now.scopes c.args.known.now) (sym c.as_slice.ensures)
    ((c.requires.walk.known c.args.inlet.input c.args.known.now c.requires.found).ends c.in-Some.kept c.in-Some.is)

pub walk_inside-returns-then-inside-inlet : goal.walk_inside-returns-then-inside-inlet
walk_inside-returns-then-inside-inlet t c bind leads =
    walks_none c.args.start.now.names.now c.args.start.now.ways.now.scopes c.args.start.now.ways.now.group_scopes c.args.start.now.ways.now.kept_sets c.args.start.now.ways.now.known.items c.args.start.now.base c.args.inlet.scope c.args.known.now c.args.walk.now
    (bind ∷ [])

pub walk_inside-returns-in_default : goal.walk_inside-returns-in_default
walk_inside-returns-in_default t c bind leads =
    walks_none c.args.start.now.names.now c.args.start.now.ways.now.scopes c.args.start.now.ways.now.group_scopes c.args.start.now.ways.now.kept_sets c.args.start.now.ways.now.known.items c.args.start.now.base c.args.inlet.scope c.args.known.now c.args.walk.now
    (bind ∷ [])

pub walk_inside-walk_inlet-requires : goal.walk_inside-walk_inlet-requires
walk_inside-walk_inlet-requires t c =
    let nest = c.args.start.now.names.now in
    let scopes = c.args.start.now.ways.now.scopes in
    let group_scopes = c.args.start.now.ways.now.group_scopes in
    let kept_sets = c.args.start.now.ways.now.kept_sets in
    let all = c.args.start.now.ways.now.known.items in
    let base = c.args.start.now.base in
    let offset = c.args.inlet.scope in
    let known = c.args.known.now in
    let inner : Inlet = record { scope = c.in-Some.scope; input = c.args.inside.input } in
    let less = c.if-inside-inlet.false in
    let most = c.decreases in (
      omega (arith, less, most),
      (
        c.requires.walk,
        inside_there nest scopes all base offset known c.args.inside c.requires.leads.0 inner refl (c.scope_behind.ensures c.in-Some.scope c.in-Some.is)
            c.requires.leads.1 c.requires.there,
      ),
    )

pub walk_inside-returns : goal.walk_inside-returns
walk_inside-returns t c =
    let nest = c.args.start.now.names.now in
    let scopes = c.args.start.now.ways.now.scopes in
    let group_scopes = c.args.start.now.ways.now.group_scopes in
    let kept_sets = c.args.start.now.ways.now.kept_sets in
    let all = c.args.start.now.ways.now.known.items in
    let base = c.args.start.now.base in
    let offset = c.args.inlet.scope in
    let known = c.args.known.now in
    let step = c.args.inside in
    let inner : Inlet = record { scope = c.in-Some.scope; input = step.input } in
    let old = c.args.walk.now in
    let new = c.walk_inlet.new.walk in
    ok_more (WalksWhole nest scopes group_scopes kept_sets all base inner old new)
    (λ whole. (bind : Bind) → LeadsInside nest scopes all known.group known.height step bind
    → WalksOn nest scopes group_scopes kept_sets all base offset known old new whole (bind ∷ [])) c.walk_inlet.result c.walk_inlet.ensures
    (λ whole walks bind leads.
    inside_walks nest scopes group_scopes kept_sets all base offset known step bind inner old new whole refl (c.scope_behind.ensures c.in-Some.scope c.in-Some.is) leads walks)

pub walk_step-returns-in_default : goal.walk_step-returns-in_default
walk_step-returns-in_default t c =
    let known = c.args.known.now in
    walks_none c.args.start.now.names.now c.args.start.now.ways.now.scopes c.args.start.now.ways.now.group_scopes c.args.start.now.ways.now.kept_sets c.args.start.now.ways.now.known.items c.args.start.now.base c.args.inlet.scope known c.args.walk.now
    (option_to_list (slice_get (lines_of c.args.start.now.names.now known.group known.port.now) c.args.place))

pub walk_step-walk_inside-requires : goal.walk_step-walk_inside-requires
walk_step-walk_inside-requires t c =
    let nest = c.args.start.now.names.now in
    let scopes = c.args.start.now.ways.now.scopes in
    let group_scopes = c.args.start.now.ways.now.group_scopes in
    let kept_sets = c.args.start.now.ways.now.kept_sets in
    let all = c.args.start.now.ways.now.known.items in
    let base = c.args.start.now.base in
    let offset = c.args.inlet.scope in
    let known = c.args.known.now in
    let lines = lines_of nest known.group known.port.now in
    let place = c.args.place in
    let there : slice_get known.steps.items place ≡ Some (step_is.Inside c.in-Inside.inside) =
    ap (λ those. slice_get those place) (sym c.as_slice.ensures) ∙ sym c.at.ensures ∙ ap (option_map (λ one. one.now)) c.in-Some.is
    ∙ ap (λ step. Some step) c.in-Inside.is in
    let beside =
    zip_at (IsStep nest scopes all known.group known.height) known.steps.items lines place (step_is.Inside c.in-Inside.inside)
    (c.requires.walk.known c.args.inlet.input known c.requires.found).steps there in
    let most = c.decreases in (omega (arith, most), (c.requires.walk, (c.requires.there, (beside.other, beside.related))))

pub walk_step-returns-in-Component : goal.walk_step-returns-in-Component
walk_step-returns-in-Component t c =
    let nest = c.args.start.now.names.now in
    let scopes = c.args.start.now.ways.now.scopes in
    let group_scopes = c.args.start.now.ways.now.group_scopes in
    let kept_sets = c.args.start.now.ways.now.kept_sets in
    let all = c.args.start.now.ways.now.known.items in
    let base = c.args.start.now.base in
    let offset = c.args.inlet.scope in
    let known = c.args.known.now in
    let lines = lines_of nest known.group known.port.now in
    let place = c.args.place in
    let there : slice_get known.steps.items place ≡ Some (step_is.Component c.in-Component.line) =
    ap (λ those. slice_get those place) (sym c.as_slice.ensures) ∙ sym c.at.ensures ∙ ap (option_map (λ one. one.now)) c.in-Some.is
    ∙ ap (λ step. Some step) c.in-Component.is in
    let beside =
    zip_at (IsStep nest scopes all known.group known.height) known.steps.items lines place (step_is.Component c.in-Component.line)
    (c.requires.walk.known c.args.inlet.input known c.requires.found).steps there in
    ok_more
    (λ whole. (bind : Bind) → LeadsHere nest known.group c.in-Component.line bind
    → WalksOn nest scopes group_scopes kept_sets all base offset known c.args.walk.now c.walk_component.new.walk whole (bind ∷ []))
    (λ whole. WalksOn nest scopes group_scopes kept_sets all base offset known c.args.walk.now c.walk_component.new.walk whole (option_to_list (slice_get lines place)))
    c.walk_component.result c.walk_component.ensures
    (λ whole walks.
    subst (λ found. WalksOn nest scopes group_scopes kept_sets all base offset known c.args.walk.now c.walk_component.new.walk whole (option_to_list found)) (sym beside.is)
    (walks beside.other beside.related))

pub walk_step-returns-in-Inside : goal.walk_step-returns-in-Inside
walk_step-returns-in-Inside t c =
    let nest = c.args.start.now.names.now in
    let scopes = c.args.start.now.ways.now.scopes in
    let group_scopes = c.args.start.now.ways.now.group_scopes in
    let kept_sets = c.args.start.now.ways.now.kept_sets in
    let all = c.args.start.now.ways.now.known.items in
    let base = c.args.start.now.base in
    let offset = c.args.inlet.scope in
    let known = c.args.known.now in
    let lines = lines_of nest known.group known.port.now in
    let place = c.args.place in
    let there : slice_get known.steps.items place ≡ Some (step_is.Inside c.in-Inside.inside) =
    ap (λ those. slice_get those place) (sym c.as_slice.ensures) ∙ sym c.at.ensures ∙ ap (option_map (λ one. one.now)) c.in-Some.is
    ∙ ap (λ step. Some step) c.in-Inside.is in
    let beside =
    zip_at (IsStep nest scopes all known.group known.height) known.steps.items lines place (step_is.Inside c.in-Inside.inside)
    (c.requires.walk.known c.args.inlet.input known c.requires.found).steps there in
    ok_more
    (λ whole. (bind : Bind) → LeadsInside nest scopes all known.group known.height c.in-Inside.inside bind
    → WalksOn nest scopes group_scopes kept_sets all base offset known c.args.walk.now c.walk_inside.new.walk whole (bind ∷ []))
    (λ whole. WalksOn nest scopes group_scopes kept_sets all base offset known c.args.walk.now c.walk_inside.new.walk whole (option_to_list (slice_get lines place)))
    c.walk_inside.result c.walk_inside.ensures
    (λ whole walks.
    subst (λ found. WalksOn nest scopes group_scopes kept_sets all base offset known c.args.walk.now c.walk_inside.new.walk whole (option_to_list found)) (sym beside.is)
    (walks beside.other beside.related))

pub walk_steps-walk_step-requires : goal.walk_steps-walk_step-requires
walk_steps-walk_step-requires t c =
    let most = c.decreases in (
      omega (arith, most),
      (
        record {
          known = c.requires.walk.known;
          kept = c.requires.walk.kept;
          start = c.requires.walk.start;
          done = c.loop-place.invariant.done refl;
        },
        (c.requires.found, c.requires.there),
      ),
    )

pub walk_steps-returns-then-not-branch : goal.walk_steps-returns-then-not-branch
walk_steps-returns-then-not-branch t c =
    let nest = c.args.start.now.names.now in
    let scopes = c.args.start.now.ways.now.scopes in
    let group_scopes = c.args.start.now.ways.now.group_scopes in
    let kept_sets = c.args.start.now.ways.now.kept_sets in
    let all = c.args.start.now.ways.now.known.items in
    let base = c.args.start.now.base in
    let offset = c.args.inlet.scope in
    let known = c.args.known.now in
    let lines = lines_of nest known.group known.port.now in
    let place = c.loop-place.place in
    let one = option_to_list (slice_get lines place) in
    let old = c.args.walk.now in
    let new = c.walk_step.new.walk in
    let walks =
    subst (λ whole. WalksOn nest scopes group_scopes kept_sets all base offset known c.loop-place.walk new whole one) c.if-not-branch.true c.in_ok-walk_step.ensures in
    walks_stop nest scopes group_scopes kept_sets all base offset known old new (take place lines ++ one) (drop (place + 1) lines) lines
    (walks_more nest scopes group_scopes kept_sets all base offset known old c.loop-place.walk new false (take place lines) one (take place lines ++ one)
    c.loop-place.invariant walks refl) (lines_split lines place)

pub walk_steps-loop-place-preserved : goal.walk_steps-loop-place-preserved
walk_steps-loop-place-preserved t c =
    let nest = c.args.start.now.names.now in
    let scopes = c.args.start.now.ways.now.scopes in
    let group_scopes = c.args.start.now.ways.now.group_scopes in
    let kept_sets = c.args.start.now.ways.now.kept_sets in
    let all = c.args.start.now.ways.now.known.items in
    let base = c.args.start.now.base in
    let offset = c.args.inlet.scope in
    let known = c.args.known.now in
    let lines = lines_of nest known.group known.port.now in
    let place = c.loop-place.place in
    let one = option_to_list (slice_get lines place) in
    let old = c.args.walk.now in
    let new = c.walk_step.new.walk in
    let walks =
    subst (λ whole. WalksOn nest scopes group_scopes kept_sets all base offset known c.loop-place.walk new whole one) c.if-not-branch.false c.in_ok-walk_step.ensures in
    walks_more nest scopes group_scopes kept_sets all base offset known old c.loop-place.walk new true (take place lines) one (take (place + 1) lines)
    c.loop-place.invariant walks (line_next lines place)

pub walk_steps-returns : goal.walk_steps-returns
walk_steps-returns t c =
    let nest = c.args.start.now.names.now in
    let scopes = c.args.start.now.ways.now.scopes in
    let group_scopes = c.args.start.now.ways.now.group_scopes in
    let kept_sets = c.args.start.now.ways.now.kept_sets in
    let all = c.args.start.now.ways.now.known.items in
    let base = c.args.start.now.base in
    let offset = c.args.inlet.scope in
    let known = c.args.known.now in
    let lines = lines_of nest known.group known.port.now in
    let steps = (c.requires.walk.known c.args.inlet.input known c.requires.found).steps in
    let long = c.len-place-end.ensures in
    let past = c.loop-place-test.false in
    subst (WalksOn nest scopes group_scopes kept_sets all base offset known c.args.walk.now c.loop-place.walk true)
    (lines_end nest scopes all known.group known.height known.steps.items lines c.loop-place.place steps (omega (arith, long, past))) c.loop-place.invariant

pub walk_inlet-returns-then-is_done : goal.walk_inlet-returns-then-is_done
walk_inlet-returns-then-is_done t c known found =
    let nest = c.args.start.now.names.now in
    let scopes = c.args.start.now.ways.now.scopes in
    let group_scopes = c.args.start.now.ways.now.group_scopes in
    let kept_sets = c.args.start.now.ways.now.kept_sets in
    let all = c.args.start.now.ways.now.known.items in
    let base = c.args.start.now.base in
    walks_done nest scopes group_scopes kept_sets all base c.args.inlet.scope known c.args.walk.now c.requires.walk.done (c.is_done.ensures c.if-is_done.true known found)

pub walk_inlet-returns-then-is_put : goal.walk_inlet-returns-then-is_put
walk_inlet-returns-then-is_put t c known found =
    let nest = c.args.start.now.names.now in
    let scopes = c.args.start.now.ways.now.scopes in
    let group_scopes = c.args.start.now.ways.now.group_scopes in
    let kept_sets = c.args.start.now.ways.now.kept_sets in
    let all = c.args.start.now.ways.now.known.items in
    let base = c.args.start.now.base in
    let offset = c.args.inlet.scope in
    let now = c.args.walk.now in
    walks_same nest scopes group_scopes kept_sets all base offset known now now c.note_done.new.walk (lines_of nest known.group known.port.now)
    (walks_done nest scopes group_scopes kept_sets all base offset known now c.requires.walk.done (c.is_put.ensures c.if-is_put.true known found))
    c.note_done.ensures.ends c.note_done.ensures.done

pub walk_inlet-returns-then-not-branch : goal.walk_inlet-returns-then-not-branch
walk_inlet-returns-then-not-branch t c =
    let nest = c.args.start.now.names.now in
    let scopes = c.args.start.now.ways.now.scopes in
    let group_scopes = c.args.start.now.ways.now.group_scopes in
    let kept_sets = c.args.start.now.ways.now.kept_sets in
    let all = c.args.start.now.ways.now.known.items in
    let base = c.args.start.now.base in
    let known = c.in-Some.known.now in
    let lines = lines_of nest known.group known.port.now in
    let found : slice_get all c.args.inlet.input ≡ Some known =
    ap (λ those. slice_get those c.args.inlet.input) (sym c.as_slice.ensures.value) ∙ sym c.at.ensures ∙ ap (option_map (λ one. one.now)) c.in-Some.is in
    whole_of nest scopes group_scopes kept_sets all base c.args.inlet known c.args.walk.now c.walk_known.new.walk false found
    (subst (λ whole. WalksOn nest scopes group_scopes kept_sets all base c.args.inlet.scope known c.args.walk.now c.walk_known.new.walk whole lines)
    c.if-not-branch.true c.in_ok-walk_known.ensures)

pub walk_inlet-note_whole-requires-clause-walk : goal.walk_inlet-note_whole-requires-clause-walk
walk_inlet-note_whole-requires-clause-walk t c = record {
  known = c.requires.walk.known;
  kept = c.requires.walk.kept;
  start = c.requires.walk.start;
  done = c.in_ok-walk_known.ensures.done c.if-not-branch.false;
}

pub walk_inlet-note_whole-requires-clause-all : goal.walk_inlet-note_whole-requires-clause-all
walk_inlet-note_whole-requires-clause-all t c one there =
    let nest = c.args.start.now.names.now in
    let scopes = c.args.start.now.ways.now.scopes in
    let group_scopes = c.args.start.now.ways.now.group_scopes in
    let kept_sets = c.args.start.now.ways.now.kept_sets in
    let all = c.args.start.now.ways.now.known.items in
    let base = c.args.start.now.base in
    let offset = c.args.inlet.scope in
    let known = c.in-Some.known.now in
    let lines = lines_of nest known.group known.port.now in
    let new = c.walk_known.new.walk in
    let found : slice_get all c.args.inlet.input ≡ Some known =
    ap (λ those. slice_get those c.args.inlet.input) (sym c.as_slice.ensures.value) ∙ sym c.at.ensures ∙ ap (option_map (λ one. one.now)) c.in-Some.is in
    subst (IsDone nest scopes base new.ends offset) (same_Some known one (sym found ∙ there))
    (is_done_now nest scopes group_scopes kept_sets all base offset known c.args.walk.now new
    (subst (λ whole. WalksOn nest scopes group_scopes kept_sets all base offset known c.args.walk.now new whole lines) c.if-not-branch.false c.in_ok-walk_known.ensures))

pub walk_inlet-returns : goal.walk_inlet-returns
walk_inlet-returns t c =
    let nest = c.args.start.now.names.now in
    let scopes = c.args.start.now.ways.now.scopes in
    let group_scopes = c.args.start.now.ways.now.group_scopes in
    let kept_sets = c.args.start.now.ways.now.kept_sets in
    let all = c.args.start.now.ways.now.known.items in
    let base = c.args.start.now.base in
    let offset = c.args.inlet.scope in
    let known = c.in-Some.known.now in
    let lines = lines_of nest known.group known.port.now in
    let now = c.walk_known.new.walk in
    let new = c.note_whole.new.walk in
    let found : slice_get all c.args.inlet.input ≡ Some known =
    ap (λ those. slice_get those c.args.inlet.input) (sym c.as_slice.ensures.value) ∙ sym c.at.ensures ∙ ap (option_map (λ one. one.now)) c.in-Some.is in
    whole_of nest scopes group_scopes kept_sets all base c.args.inlet known c.args.walk.now new true found
    (walks_same nest scopes group_scopes kept_sets all base offset known c.args.walk.now now new lines
    (subst (λ whole. WalksOn nest scopes group_scopes kept_sets all base offset known c.args.walk.now now whole lines) c.if-not-branch.false c.in_ok-walk_known.ensures)
    c.in_ok-note_whole.ensures.ends c.in_ok-note_whole.ensures.done)
