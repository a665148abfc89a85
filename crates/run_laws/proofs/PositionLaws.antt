-- Positions keep words in their types, and the agreed step is at most the proposed step.
use Rattle.std.proofs.Common.{◌≡◌, ℕ, ◌-◌, ◌≤◌, cond, Bool, true, false, ℤ, pos, List, [], ◌∷◌, map, Option, Some, None, Result, Ok, Err, refl, arith}
use Rattle.std.proofs.lemmas.List.{length-map}
use Rattle.std.proofs.Math.Nat.{one-le-pow}
use Rattle.std.specs.Prelude.{zip, unwrap_or}
use Rattle.std.specs.List.{AllByRecursion, AllZip, filter_map, cons_option}
use Rattle.fixed_words.specs.Literals.{within_type, scaled_literal}
use Rattle.fixed_words.specs.Types.{is_word_of}
use Rattle.fixed_words.specs.declared.types.Fault.{Fault}
use Rattle.fixed_words.specs.declared.types.Literal.{Literal}
use Rattle.fixed_words.specs.declared.types.LiteralFault.{LiteralFault}
use Rattle.fixed_words.specs.declared.types.LiteralFault.TheVariants.{Range}
use Rattle.fixed_words.specs.declared.types.Ty.{Ty}
use Rattle.fixed_words.specs.declared.types.Ty.TheVariants as types
use Rattle.super_time.specs.LocalTime.{local_time, local_step}
use Rattle.unit_tree.specs.Components.{Moved, or_zero, start_word, initial, step_of}
use Rattle.unit_tree.specs.Compositions.{Member, IsMember, Composition, AreMembers, member_with, composition_of}
use Rattle.unit_tree.specs.Names.{unit_of_instance}
use Rattle.unit_tree.specs.Negotiation.{is_held, inputs_at, step_at, reply_at, state_after, agreed_step}
use Rattle.unit_tree.specs.Ports.{Ports}
use Rattle.run_laws.specs.RunLaws.{PositionsKeepWords}
use Rattle.unit_tree.specs.Successor.{Position, agreed, proposed}
use Rattle.unit_tree.specs.Trace.{AreWordsOf, HasWords}
use Rattle.unit_tree.specs.WellFormed.{resolution_of}
use Rattle.unit_tree.specs.declared.system.Instance.{Instance}
use Rattle.unit_tree.specs.declared.system.System.{System}
use Rattle.unit_tree.specs.declared.unit.State.{State}
use Rattle.unit_tree.specs.declared.unit.Unit.{Unit}
use Rattle.run_laws.proofs.EffectKeeps.{step_keeps}
use Rattle.run_laws.proofs.StepLaws.{reply_is_at_most, agreed_is_least}

abbrev pub Words : Member → List ℤ → Type 0
Words member state = AreWordsOf member.component.unit.states state

-- ---- The first position

pub zero_fits : (ty : Ty) → is_word_of ty (pos 0) ≡ true
zero_fits types.Int8 = refl
zero_fits types.UInt8 = refl
zero_fits types.Int16 = refl
zero_fits types.UInt16 = refl
zero_fits types.Int32 = refl
zero_fits types.UInt32 = refl
zero_fits types.Int64 = refl
zero_fits types.Bool = refl
zero_fits (types.Fixed decimals) = refl

-- With whether a word is one of the type.
pub start_by : (fits : Bool) (ty : Ty) (word : ℤ) → is_word_of ty word ≡ fits → is_word_of ty (or_zero (cond fits (Ok word) (Err Range))) ≡ true
start_by true ty word is = is
start_by false ty word is = zero_fits ty

pub start_from : (ty : Ty) (scaled : Result ℤ LiteralFault) → is_word_of ty (or_zero (within_type ty scaled)) ≡ true
start_from ty (Ok word) = start_by (is_word_of ty word) ty word refl
start_from ty (Err fault) = zero_fits ty

pub start_fits : (ty : Ty) (literal : Literal) → is_word_of ty (start_word ty literal) ≡ true
start_fits ty literal = start_from ty (scaled_literal ty literal)

pub starts_fit : (states : List State) → AreWordsOf states (map (λ state. start_word state.ty state.start) states)
starts_fit [] = tt
starts_fit (state ∷ states) = (start_fits state.ty state.start, starts_fit states)

pub first_has_words : (members : List Member) → AllZip Words members (map (λ member. initial member.component) members)
first_has_words [] = tt
first_has_words (member ∷ members) = (starts_fit member.component.unit.states, first_has_words members)

-- ---- The next position

-- With whether the member is held, and what its step gives.
pub after_by : (held : Bool) (result : Result Moved Fault) (member : Member) (state inputs : List ℤ) (time step : ℕ) → IsMember member → Words member state
    → step_of member.component state inputs time step ≡ result → Words member (state_after (state, cond held None (Some result)))
after_by true result member state inputs time step is words gives = words
after_by false (Ok moved) member state inputs time step is words gives = (step_keeps member.component state inputs time step moved is.params words gives).words
after_by false (Err fault) member state inputs time step is words gives = words

pub all_after : (t h : ℕ) (ports : Ports) (members : List Member) (states : List (List ℤ)) → AllByRecursion IsMember members → AllZip Words members states
    → AllZip Words members (map state_after (zip states (map (step_at t h ports) (zip members states))))
all_after t h ports [] [] are words = tt
all_after t h ports [] (state ∷ states) are words = absurd words
all_after t h ports (member ∷ members) [] are words = absurd words
all_after t h ports (member ∷ members) (state ∷ states) are words = (
  after_by (is_held member.factor t h)
      (step_of member.component state (inputs_at ports member) (local_time member.factor t) (local_step member.factor t h)) member state
      (inputs_at ports member) (local_time member.factor t) (local_step member.factor t h) are.0 words.0 refl,
  all_after t h ports members states are.1 words.1,
)

pub positions_keep : (run : Composition) → AreMembers run → PositionsKeepWords run
positions_keep run are = record {
  first = first_has_words run.members;
  next = λ at ports words. all_after at.point.t (agreed run at ports) ports run.members at.states are words;
}

-- ---- The agreed step

pub reply_within : (held : Bool) (result : Result Moved Fault) (member : Member) (state inputs : List ℤ) (time t h : ℕ) → IsMember member → Words member state
    → step_of member.component state inputs time (local_step member.factor t h) ≡ result → reply_at t h (member, cond held None (Some result)) ≤ h
reply_within true result member state inputs time t h is words gives = omega arith
reply_within false (Ok moved) member state inputs time t h is words gives =
    reply_is_at_most member.factor t h moved.accepted is.factor
    (step_keeps member.component state inputs time (local_step member.factor t h) moved is.params words gives).accepted
reply_within false (Err fault) member state inputs time t h is words gives = omega arith

pub agreed_within : (t h : ℕ) (ports : Ports) (members : List Member) (states : List (List ℤ)) → AllByRecursion IsMember members → AllZip Words members states
    → agreed_step h (map (reply_at t h) (zip members (map (step_at t h ports) (zip members states)))) ≤ h
agreed_within t h ports [] states are words = omega arith
agreed_within t h ports (member ∷ members) [] are words = absurd words
agreed_within t h ports (member ∷ members) (state ∷ states) are words =
    let first : reply_at t h (member, step_at t h ports (member, state)) ≤ h =
    reply_within (is_held member.factor t h)
    (step_of member.component state (inputs_at ports member) (local_time member.factor t) (local_step member.factor t h)) member state
    (inputs_at ports member) (local_time member.factor t) t h are.0 words.0 refl in
    let least =
    agreed_is_least h (reply_at t h (member, step_at t h ports (member, state)))
    (map (reply_at t h) (zip members (map (step_at t h ports) (zip members states)))) in
    let below = least.is_least.0 in
    omega (arith, first, below)

pub agreed_is_at_most : (run : Composition) (at : Position) (ports : Ports) → AreMembers run → HasWords run at → agreed run at ports ≤ proposed run at ports
agreed_is_at_most run at ports are words = agreed_within at.point.t (proposed run at ports) ports run.members at.states are words

-- ---- The members of a system

pub member_is : (system : System) (instance : Instance) (unit : Option Unit) (rest : List Member) → AllByRecursion IsMember rest
    → AllByRecursion IsMember (cons_option (member_with system instance unit) rest)
member_is system instance None rest are = are
member_is system instance (Some unit) rest are = (
  record {
    factor = one-le-pow (resolution_of system - unwrap_or unit.resolution 0) 10 (omega arith);
    params = length-map unit.params _;
    sources =
        length-map unit.inputs _;
  },
  are,
)

pub members_are : (system : System) (instances : List Instance)
    → AllByRecursion IsMember (filter_map (λ instance. member_with system instance (unit_of_instance system instance)) instances)
members_are system [] = tt
members_are system (instance ∷ instances) = member_is system instance (unit_of_instance system instance) _ (members_are system instances)

pub system_has_members : (system : System) → AreMembers (composition_of system)
system_has_members system = members_are system system.instances
