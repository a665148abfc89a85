-- The facts that a node makes from what it knows, and where it moves.
use Rattle.link_laws.specs.Boards.{Board, asked_of, entry, said_of, seen_of}
use Rattle.link_laws.specs.Nodes.{End, Go, Making, Move, Rule, Stay, with_fact}
use Rattle.link_laws.specs.Stages.{stage_of, word_end}
use Rattle.link_laws.specs.declared.fact.Fact.{Fact}
use Rattle.link_laws.specs.declared.fact.Fact.TheVariants.{Limit, Reply, Word}
use Rattle.link_laws.specs.declared.fact.Said.{Said}
use Rattle.link_laws.specs.declared.fact.Seen.{Seen}
use Rattle.link_laws.specs.declared.fact.Seen.TheVariants.{Fault as Faulted, Is, Undefined}
use Rattle.link_laws.specs.declared.stage.Stage.{Stage}
use Rattle.link_laws.specs.declared.stage.Stage.TheVariants.{Limits, On, Over, Redo, Trial}
use Rattle.std.specs.List.{enumerate_from, flat_map, list_any}
use Rattle.std.specs.Option.{option_map}
use Rattle.std.specs.Prelude.{Bool, List, None, Option, Some, [], false, if◌then◌else◌, is_none, length, map, slice_get, suc, true, zero, zip, ℕ, ℤ}
use Rattle.std.specs.Prelude.{◌&&◌, ◌++◌, ◌==◌, ◌∷◌}
use Rattle.unit_tree.specs.Compositions.{Composition}
use Rattle.unit_tree.specs.Negotiation.{max_at, state_after, step_at}
use Rattle.unit_tree.specs.Ports.{Outlet, Ports, Standing, first_some, given_at, outlets, outlets_of, places_needed}
use Rattle.unit_tree.specs.Successor.{Position, point_after, standings}
use Rattle.unit_tree.specs.Trace.{Row as TraceRow, row_unless}

-- ---- Parts

abbrev pub own_state : ℕ → ℕ × List ℤ → List ℤ
own_state me (owner, state) = if owner == me then state else []

-- The states of a node's own instances; the others are empty.
abbrev pub own_states : List ℕ → ℕ → List (List ℤ) → List (List ℤ)
own_states owners me states = map (own_state me) (zip owners states)

abbrev pub part_of : List ℕ → ℕ → Position → Position
part_of owners me at = record { point = at.point; states = own_states owners me at.states; number = at.number }

-- Each output with the owner of its instance.
abbrev pub held_outlets : ℕ × (ℕ × Standing) → List (ℕ × Outlet)
held_outlets (owner, counted) = map (λ outlet. (owner, outlet)) (outlets_of counted)

abbrev pub held : Composition → List ℕ → List (List ℤ) → List (ℕ × Outlet)
held run owners states = flat_map held_outlets (zip owners (enumerate_from 0 (zip run.members states)))

abbrev pub no_states : Composition → List (List ℤ)
no_states run = map (λ member. []) run.members

-- The instance of an output and its number there.
abbrev pub name_of : Outlet → ℕ × ℕ
name_of outlet = (outlet.instance, outlet.number)

abbrev pub names_of : Composition → List (ℕ × ℕ)
names_of run = map name_of (outlets run (no_states run))

-- ---- Words

abbrev pub port_in : Option Seen → Option ℤ
port_in (Some (Is word)) = Some word
port_in _ = None

abbrev pub ports_in : List (Option Seen) → Ports
ports_in words = map port_in words

-- An output is known to be without a word.
abbrev pub is_undefined : Option Seen → Bool
is_undefined (Some Undefined) = true
is_undefined (Some (Faulted fault)) = true
is_undefined _ = false

-- The fact of an output, where the known words determine it.
abbrev pub determined : List (Option Seen) → Outlet → Option Seen
determined words outlet =
    if list_any (λ place. is_undefined (entry words place)) (places_needed outlet.standing.0 outlet.output) then Some Undefined
    else option_map (λ given. seen_of (Some given)) (given_at (ports_in words) outlet)

-- ---- Making facts

-- A fact that is made becomes known and is listed.
abbrev pub with_made : Fact → Making → Making
with_made fact making = record { known = with_fact making.known fact; facts = making.facts ++ fact ∷ [] }

abbrev pub put_word : ℕ → ℕ → Option Seen → Making → Making
put_word number place None making = making
put_word number place (Some seen) making = with_made (Word number place seen) making

abbrev pub with_word : ℕ → ℕ → Making → ℕ × (ℕ × Outlet) → Making
with_word me number making (place, (owner, outlet)) =
    if (owner == me) && is_none (entry making.known.words place) then put_word number place (determined making.known.words outlet) making else making

abbrev pub each : {X : Type 0} → (Making → X → Making) → Making → List X → Making
each make making [] = making
each make making (item ∷ items) = each make (make making item) items

-- So many passes over all outputs.
abbrev pub passes : ℕ → ℕ → List (ℕ × (ℕ × Outlet)) → ℕ → Making → Making
passes me number items zero making = making
passes me number items (suc more) making = passes me number items more (each (with_word me number) making items)

abbrev pub words_made : Composition → List ℕ → ℕ → Position → Making → Making
words_made run owners me at making =
    passes me at.number (enumerate_from 0 (held run owners at.states)) (length (held run owners at.states)) making

abbrev pub with_limit : ℕ → Position → Ports → Making → ℕ × (ℕ × Standing) → Making
with_limit me at ports making (instance, (owner, standing)) =
    if (owner == me) && is_none (entry making.known.limits instance)
    then with_made (Limit at.number instance (asked_of (max_at at.point.t ports standing))) making else making

-- What is known of a step in the trial or in the redo.
abbrev pub said_entry : Bool → Board → ℕ → Option Said
said_entry redo known instance = if redo then entry known.redos instance else entry known.replies instance

abbrev pub put_said : Bool → ℕ → ℕ → Option Said → Making → Making
put_said redo number instance None making = making
put_said redo number instance (Some said) making = with_made (Reply number instance redo said) making

abbrev pub with_said : Bool → ℕ → Position → Ports → ℕ → Making → ℕ × (ℕ × Standing) → Making
with_said redo me at ports h making (instance, (owner, standing)) =
    if (owner == me) && is_none (said_entry redo making.known instance) then put_said redo at.number instance
    (option_map said_of (step_at at.point.t h ports standing)) making else making

abbrev pub held_standings : Composition → List ℕ → Position → List (ℕ × (ℕ × Standing))
held_standings run owners at = enumerate_from 0 (zip owners (standings run at))

abbrev pub limits_by : Composition → List ℕ → ℕ → Position → Stage → Making → Making
limits_by run owners me at Limits making = each (with_limit me at (ports_in making.known.words)) making (held_standings run owners at)
limits_by run owners me at _ making = making

abbrev pub replies_by : Composition → List ℕ → ℕ → Position → Stage → Making → Making
replies_by run owners me at (Trial h) making = each (with_said false me at (ports_in making.known.words) h) making (held_standings run owners at)
replies_by run owners me at _ making = making

abbrev pub redos_by : Composition → List ℕ → ℕ → Position → Stage → Making → Making
redos_by run owners me at (Redo h) making = each (with_said true me at (ports_in making.known.words) h) making (held_standings run owners at)
redos_by run owners me at _ making = making

abbrev pub stage_at : Composition → Position → Board → Stage
stage_at run at known = stage_of run (names_of run) at known

abbrev pub limits_made : Composition → List ℕ → ℕ → Position → Making → Making
limits_made run owners me at making = limits_by run owners me at (stage_at run at making.known) making

abbrev pub replies_made : Composition → List ℕ → ℕ → Position → Making → Making
replies_made run owners me at making = replies_by run owners me at (stage_at run at making.known) making

abbrev pub redos_made : Composition → List ℕ → ℕ → Position → Making → Making
redos_made run owners me at making = redos_by run owners me at (stage_at run at making.known) making

-- All facts that a node makes from what it knows: the words, then the limits, the replies, and those of a redo.
abbrev pub made : Composition → List ℕ → ℕ → Position → Board → Making
made run owners me at known =
    redos_made run owners me at (replies_made run owners me at
    (limits_made run owners me at (words_made run owners me at (record { known = known; facts = [] }))))

-- ---- Moving

abbrev pub own_after : Composition → List ℕ → ℕ → Position → Ports → ℕ → Position
own_after run owners me at ports h = record {
  point = point_after at.point h;
  states = own_states owners me (map state_after (zip at.states (map (step_at at.point.t h ports) (zip run.members at.states))));
  number = suc at.number;
}

abbrev pub move_by : Composition → List ℕ → ℕ → Position → Board → Stage → Move
move_by run owners me at known (Over ending) = End ending
move_by run owners me at known (On h) = Go (own_after run owners me at (ports_in known.words) h)
move_by run owners me at known _ = Stay

abbrev pub nothing_known : Composition → Board
nothing_known run = record {
  words = map (λ name. None) (names_of run);
  limits = map (λ member. None) run.members;
  replies = map (λ member. None) run.members;
  redos = map (λ member. None) run.members;
}

abbrev pub is_held_by : ℕ → Option ℕ → Bool
is_held_by me None = false
is_held_by me (Some owner) = owner == me

abbrev pub is_own : Composition → List ℕ → ℕ → Fact → Bool
is_own run owners me (Word row place seen) = is_held_by me (option_map (λ one. one.0) (slice_get (held run owners (no_states run)) place))
is_own run owners me (Limit row instance asked) = is_held_by me (slice_get owners instance)
is_own run owners me (Reply row instance redo said) = is_held_by me (slice_get owners instance)

-- The row, where all words are known. It has no row where an output has a fault.
abbrev pub row_shown : Composition → Position → Board → Option TraceRow
row_shown run at known = row_unless (first_some (map word_end (zip (names_of run) known.words))) at.point (ports_in known.words)

-- The rule of a run and the owner of each instance.
abbrev pub rule_of : Composition → List ℕ → Rule
rule_of run owners = record {
  make = made run owners;
  move = λ me at known. move_by run owners me at known (stage_at run at known);
  part = part_of owners;
  nothing = nothing_known run;
  is_of = is_own run owners;
  shown = row_shown run;
}
