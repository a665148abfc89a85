use Rattle.std.proofs.Common.{◌≡◌, ◌∙◌, length, get_or, refl, sym, ap, arith}
use Rattle.std.proofs.lemmas.Option.{slice_get_read}
use Rattle.port_solve.proofs.SolvedPorts.{start_front}
use Rattle.port_solve.proofs.OrderLoop.{in_range, asks, fits, front_next, first_next, is_assignment, have_words, have_inputs, is_first}
use Rattle.port_solve.proofs.solving.work_out_all.Goals as goal
use Rattle.unit_tree.specs.Compositions.{run_of}
use Rattle.unit_tree.specs.Ports.{IsPlaceOrder}

pub loop-place-init : goal.loop-place-init
loop-place-init g c = record {
  front = λ right is_right. start_front (run_of (g.G.Gets.system c.args.gets.now)) right _
      (g.G.Gets.inputs c.args.gets.now) c.requires.starts c.requires.inputs;
  first = λ right is_right. tt;
  states = refl;
  system = refl;
}

pub bounds-routes-place : goal.bounds-routes-place
bounds-routes-place g c =
    let run = run_of (g.G.Gets.system c.args.gets.now) in
    let places = c.places-place-items.result.now in
    let order : IsPlaceOrder run places = rw c.places-place-items.ensures.places c.requires.order.places in
    let routes = c.as_slice-routes.result.now in
    let are_routes = c.as_slice-routes.ensures ∙ ap (λ r. r.outputs) (c.routes.ensures.routes ∙ c.requires.order.routes) in
    in_range run
    (g.G.Gets.states c.args.gets.now) c.requires.sound c.requires.states places order routes are_routes c.loop-place.place-index c.loop-place-test.true

pub work_out-fault-requires-clause-there : goal.work_out-fault-requires-clause-there
work_out-fault-requires-clause-there g c =
    let run = run_of (g.G.Gets.system c.args.gets.now) in
    let states = g.G.Gets.states c.args.gets.now in
    let places = c.places-place-items.result.now in
    let order : IsPlaceOrder run places = rw c.places-place-items.ensures.places c.requires.order.places in
    let routes = c.as_slice-routes.result.now in
    let own_routes = c.as_slice-routes.ensures ∙ ap (λ r. r.outputs) c.routes.ensures.routes in
    let are_routes = own_routes ∙ ap (λ r. r.outputs) c.requires.order.routes in
    let inv = c.loop-place.invariant in
    let known_count : length c.loop-place.known ≡ length routes = c.loop-place.auto.known ∙ c.requires.known ∙ sym (ap length own_routes) in
    let words_count : length c.loop-place.ports ≡ length routes = c.loop-place.auto.ports ∙ c.requires.ports ∙ sym (ap length own_routes) in
    let k = c.loop-place.place-index in
    let within = c.loop-place-test.true in
    let here = in_range run states c.requires.sound c.requires.states places order routes are_routes k within in
    let route = c.index-routes-place.result in
    let route_is = slice_get_read routes (length routes) (get_or places k 0) route refl here c.index-routes-place.is in
    rw (inv.system, inv.states)
    (asks run states c.requires.sound c.requires.states places order routes are_routes k within c.loop-place.known c.loop-place.ports
    (g.G.Gets.inputs c.loop-place.gets) inv.front known_count words_count route route_is)

pub work_out-fault-requires-clause-fits : goal.work_out-fault-requires-clause-fits
work_out-fault-requires-clause-fits g c =
    let run = run_of (g.G.Gets.system c.args.gets.now) in
    let states = g.G.Gets.states c.args.gets.now in
    let places = c.places-place-items.result.now in
    let order : IsPlaceOrder run places = rw c.places-place-items.ensures.places c.requires.order.places in
    let routes = c.as_slice-routes.result.now in
    let own_routes = c.as_slice-routes.ensures ∙ ap (λ r. r.outputs) c.routes.ensures.routes in
    let are_routes = own_routes ∙ ap (λ r. r.outputs) c.requires.order.routes in
    let inv = c.loop-place.invariant in
    let known_count : length c.loop-place.known ≡ length routes = c.loop-place.auto.known ∙ c.requires.known ∙ sym (ap length own_routes) in
    let words_count : length c.loop-place.ports ≡ length routes = c.loop-place.auto.ports ∙ c.requires.ports ∙ sym (ap length own_routes) in
    let k = c.loop-place.place-index in
    let within = c.loop-place-test.true in
    let here = in_range run states c.requires.sound c.requires.states places order routes are_routes k within in
    let route = c.index-routes-place.result in
    let route_is = slice_get_read routes (length routes) (get_or places k 0) route refl here c.index-routes-place.is in
    rw (inv.system, inv.states)
    (fits run states c.requires.sound c.requires.states places order routes are_routes k within c.loop-place.known c.loop-place.ports
    (g.G.Gets.inputs c.loop-place.gets) inv.front known_count words_count route route_is)

pub work_out-fault-requires-clause-place : goal.work_out-fault-requires-clause-place
work_out-fault-requires-clause-place g c =
    let run = run_of (g.G.Gets.system c.args.gets.now) in
    let states = g.G.Gets.states c.args.gets.now in
    let places = c.places-place-items.result.now in
    let order : IsPlaceOrder run places = rw c.places-place-items.ensures.places c.requires.order.places in
    let routes = c.as_slice-routes.result.now in
    let own_routes = c.as_slice-routes.ensures ∙ ap (λ r. r.outputs) c.routes.ensures.routes in
    let are_routes = own_routes ∙ ap (λ r. r.outputs) c.requires.order.routes in
    let inv = c.loop-place.invariant in
    let known_count : length c.loop-place.known ≡ length routes = c.loop-place.auto.known ∙ c.requires.known ∙ sym (ap length own_routes) in
    let words_count : length c.loop-place.ports ≡ length routes = c.loop-place.auto.ports ∙ c.requires.ports ∙ sym (ap length own_routes) in
    let k = c.loop-place.place-index in
    let within = c.loop-place-test.true in
    let here = in_range run states c.requires.sound c.requires.states places order routes are_routes k within in
    let route = c.index-routes-place.result in
    let route_is = slice_get_read routes (length routes) (get_or places k 0) route refl here c.index-routes-place.is in
    omega (arith, here, words_count)

pub loop-place-preserved : goal.loop-place-preserved
loop-place-preserved g c =
    let run = run_of (g.G.Gets.system c.args.gets.now) in
    let states = g.G.Gets.states c.args.gets.now in
    let places = c.places-place-items.result.now in
    let order : IsPlaceOrder run places = rw c.places-place-items.ensures.places c.requires.order.places in
    let routes = c.as_slice-routes.result.now in
    let own_routes = c.as_slice-routes.ensures ∙ ap (λ r. r.outputs) c.routes.ensures.routes in
    let are_routes = own_routes ∙ ap (λ r. r.outputs) c.requires.order.routes in
    let inv = c.loop-place.invariant in
    let known_count : length c.loop-place.known ≡ length routes = c.loop-place.auto.known ∙ c.requires.known ∙ sym (ap length own_routes) in
    let words_count : length c.loop-place.ports ≡ length routes = c.loop-place.auto.ports ∙ c.requires.ports ∙ sym (ap length own_routes) in
    let k = c.loop-place.place-index in
    let within = c.loop-place-test.true in
    let here = in_range run states c.requires.sound c.requires.states places order routes are_routes k within in
    let route = c.index-routes-place.result in
    let route_is = slice_get_read routes (length routes) (get_or places k 0) route refl here c.index-routes-place.is in
    let e = c.work_out-fault.ensures in
    let told = rw (inv.system, inv.states) at e.told in
    let set = rw (inv.system, inv.states) at e.inputs in
    let fault = rw (inv.system, inv.states) at e.fault in
    record {
      front = front_next run states c.requires.sound c.requires.states places order routes are_routes k within c.loop-place.known c.loop-place.ports
          (g.G.Gets.inputs c.loop-place.gets) inv.front known_count words_count route route_is _ _ told set;
      first = rw c.note.ensures
          (first_next run states c.requires.sound c.requires.states places order routes are_routes k within c.loop-place.known c.loop-place.ports
          (g.G.Gets.inputs c.loop-place.gets) inv.front known_count words_count route route_is c.loop-place.first c.work_out-fault.result inv.first fault);
      states = e.states ∙ inv.states;
      system = e.system ∙ inv.system;
    }

pub returns-clause-right : goal.returns-clause-right
returns-clause-right g c =
    let run = run_of (g.G.Gets.system c.args.gets.now) in
    let states = g.G.Gets.states c.args.gets.now in
    let places = c.places-place-items.result.now in
    let order : IsPlaceOrder run places = rw c.places-place-items.ensures.places c.requires.order.places in
    let routes = c.as_slice-routes.result.now in
    let own_routes = c.as_slice-routes.ensures ∙ ap (λ r. r.outputs) c.routes.ensures.routes in
    let are_routes = own_routes ∙ ap (λ r. r.outputs) c.requires.order.routes in
    let inv = c.loop-place.invariant in
    let known_count : length c.loop-place.known ≡ length routes = c.loop-place.auto.known ∙ c.requires.known ∙ sym (ap length own_routes) in
    let words_count : length c.loop-place.ports ≡ length routes = c.loop-place.auto.ports ∙ c.requires.ports ∙ sym (ap length own_routes) in
    let k = c.loop-place.place-index in
    let past = c.loop-place-test.false in
    is_assignment run states c.requires.sound c.requires.states places order routes are_routes k past c.loop-place.known c.loop-place.ports
    (g.G.Gets.inputs c.loop-place.gets) inv.front known_count words_count

pub returns-clause-first : goal.returns-clause-first
returns-clause-first g c =
    let run = run_of (g.G.Gets.system c.args.gets.now) in
    let states = g.G.Gets.states c.args.gets.now in
    let places = c.places-place-items.result.now in
    let order : IsPlaceOrder run places = rw c.places-place-items.ensures.places c.requires.order.places in
    let routes = c.as_slice-routes.result.now in
    let own_routes = c.as_slice-routes.ensures ∙ ap (λ r. r.outputs) c.routes.ensures.routes in
    let are_routes = own_routes ∙ ap (λ r. r.outputs) c.requires.order.routes in
    let inv = c.loop-place.invariant in
    let known_count : length c.loop-place.known ≡ length routes = c.loop-place.auto.known ∙ c.requires.known ∙ sym (ap length own_routes) in
    let words_count : length c.loop-place.ports ≡ length routes = c.loop-place.auto.ports ∙ c.requires.ports ∙ sym (ap length own_routes) in
    let k = c.loop-place.place-index in
    let past = c.loop-place-test.false in
    rw (← c.places-place-items.ensures.places)
    (is_first run states c.requires.sound c.requires.states places order routes are_routes k past c.loop-place.known c.loop-place.ports
    (g.G.Gets.inputs c.loop-place.gets) inv.front known_count words_count c.loop-place.first inv.first)

pub returns-clause-words : goal.returns-clause-words
returns-clause-words g c =
    let run = run_of (g.G.Gets.system c.args.gets.now) in
    let states = g.G.Gets.states c.args.gets.now in
    let places = c.places-place-items.result.now in
    let order : IsPlaceOrder run places = rw c.places-place-items.ensures.places c.requires.order.places in
    let routes = c.as_slice-routes.result.now in
    let own_routes = c.as_slice-routes.ensures ∙ ap (λ r. r.outputs) c.routes.ensures.routes in
    let are_routes = own_routes ∙ ap (λ r. r.outputs) c.requires.order.routes in
    let inv = c.loop-place.invariant in
    let known_count : length c.loop-place.known ≡ length routes = c.loop-place.auto.known ∙ c.requires.known ∙ sym (ap length own_routes) in
    let words_count : length c.loop-place.ports ≡ length routes = c.loop-place.auto.ports ∙ c.requires.ports ∙ sym (ap length own_routes) in
    let k = c.loop-place.place-index in
    let past = c.loop-place-test.false in
    have_words run states c.requires.sound c.requires.states places order routes are_routes k past c.loop-place.known c.loop-place.ports
    (g.G.Gets.inputs c.loop-place.gets) inv.front known_count words_count

pub returns-clause-inputs : goal.returns-clause-inputs
returns-clause-inputs g c =
    let run = run_of (g.G.Gets.system c.args.gets.now) in
    let states = g.G.Gets.states c.args.gets.now in
    let places = c.places-place-items.result.now in
    let order : IsPlaceOrder run places = rw c.places-place-items.ensures.places c.requires.order.places in
    let routes = c.as_slice-routes.result.now in
    let own_routes = c.as_slice-routes.ensures ∙ ap (λ r. r.outputs) c.routes.ensures.routes in
    let are_routes = own_routes ∙ ap (λ r. r.outputs) c.requires.order.routes in
    let inv = c.loop-place.invariant in
    let known_count : length c.loop-place.known ≡ length routes = c.loop-place.auto.known ∙ c.requires.known ∙ sym (ap length own_routes) in
    let words_count : length c.loop-place.ports ≡ length routes = c.loop-place.auto.ports ∙ c.requires.ports ∙ sym (ap length own_routes) in
    let k = c.loop-place.place-index in
    let past = c.loop-place-test.false in
    have_inputs run states c.requires.sound c.requires.states places order routes are_routes k past c.loop-place.known c.loop-place.ports
    (g.G.Gets.inputs c.loop-place.gets) inv.front known_count words_count
