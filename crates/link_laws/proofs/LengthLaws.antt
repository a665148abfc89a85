-- The limits of members, and the lengths that they accept.
use Rattle.std.proofs.Common.{◌≡◌, ℕ, zero, suc, ◌+◌, ◌^◌, ◌<◌, ◌≤◌, cond, Bool, true, false, ℤ, pos, negsuc, List, [], ◌∷◌, map, length, Option}
use Rattle.std.proofs.Common.{Some, None, Result, Ok}
use Rattle.std.proofs.Common.{Err, refl, sym, subst, arith, ◌++◌}
use Rattle.std.proofs.lemmas.Bool.Decides.{nat_tests}
use Rattle.std.specs.Prelude.{⊤, IfSome, zip, unsigned_abs, slice_get, unwrap_or}
use Rattle.std.specs.Int.{is_negative}
use Rattle.std.specs.List.{AllByRecursion, cons_option, filter_map}
use Rattle.std.specs.Option.{option_and_then, option_map}
use Rattle.std.specs.Result.{result_ok}
use Rattle.fixed_words.specs.Operations.{Outcome}
use Rattle.fixed_words.specs.Types.{is_word_of}
use Rattle.fixed_words.specs.declared.types.Fault.{Fault}
use Rattle.fixed_words.specs.declared.types.Fault.TheVariants.{Max}
use Rattle.fixed_words.specs.declared.types.Ty.{Ty}
use Rattle.fixed_words.specs.declared.types.Ty.TheVariants.{Int8, UInt8, Int16, UInt16, Int32, UInt32, Int64, Fixed}
use Rattle.fixed_words.specs.declared.types.Ty.TheVariants as types
use Rattle.list_laws.proofs.Lists.{each_append, each_map}
use Rattle.port_solve.specs.Sound.{IsSoundMember, Suits}
use Rattle.run_laws.proofs.EffectKeeps.{step_keeps}
use Rattle.run_laws.proofs.PositionLaws.{start_fits}
use Rattle.run_laws.proofs.SeenLaws.{get_fits}
use Rattle.super_time.specs.LocalTime.{local_step, local_time}
use Rattle.super_time.proofs.LimitLaws.{local_end}
use Rattle.link_laws.specs.Lengths.{AreOfWords, IsOfWords, LimitHasWords, has_words}
use Rattle.link_laws.proofs.ValueLaws.{AreWords, HasWord, IsWord, values_are_words}
use Rattle.unit_tree.specs.Components.{Moved, as_limit, environment_of, get_of, limit_by, start_word, step_of}
use Rattle.unit_tree.specs.Compositions.{AtPlace, Composition, InputSource, IsMember, Member, Start, composition_of, literal_set, member_with}
use Rattle.unit_tree.specs.Names.{unit_named, unit_of_instance}
use Rattle.unit_tree.specs.Negotiation.{inputs_at, is_held, max_at, step_at}
use Rattle.unit_tree.specs.Ports.{IsAssignment, Outlet, Ports, input_word, inputs_for, outlets, word_at}
use Rattle.unit_tree.specs.Trace.{AreWordsOf}
use Rattle.unit_tree.specs.Values.{◌>>=◌, value_of}
use Rattle.unit_tree.specs.declared.environment.Value.{Value}
use Rattle.unit_tree.specs.declared.expr.Expr.{Expr}
use Rattle.unit_tree.specs.declared.system.Instance.{Instance}
use Rattle.unit_tree.specs.declared.system.System.{System}
use Rattle.unit_tree.specs.declared.unit.Input.{Input}
use Rattle.unit_tree.specs.declared.unit.State.{State}
use Rattle.unit_tree.specs.declared.unit.Unit.{Unit}
use Rattle.std.specs.Str.{bytes_eq}

-- A word of any type has 64 bits.
pub of_any_type : (ty : Ty) (word : ℤ) → is_word_of ty word ≡ true → IsWord word
of_any_type Int8 word fits = grind (arith, nat_tests)
of_any_type UInt8 word fits = grind (arith, nat_tests)
of_any_type Int16 word fits = grind (arith, nat_tests)
of_any_type UInt16 word fits = grind (arith, nat_tests)
of_any_type Int32 word fits = grind (arith, nat_tests)
of_any_type UInt32 word fits = grind (arith, nat_tests)
of_any_type Int64 word fits = fits
of_any_type types.Bool word fits = grind (arith, nat_tests)
of_any_type (Fixed decimals) word fits = fits

-- ---- What a member sees

abbrev pub ArePortsWords : Ports → Type 0
ArePortsWords ports = AllByRecursion (λ port. IfSome port IsWord) ports

word_fits : (ports : Ports) (outlet : Outlet) → IfSome (word_at ports outlet) IsWord
word_fits ports outlet = by_inputs (inputs_for ports outlet)
  where
    by_outcome : (inputs : List ℤ) (outcome : Outcome) → get_of outlet.standing.0.component outlet.standing.1 inputs outlet.output ≡ outcome
        → IfSome (result_ok outcome) IsWord
    by_outcome inputs (Ok word) is =
        of_any_type outlet.output.ty word (get_fits outlet.standing.0.component outlet.standing.1 inputs outlet.output word is)
    by_outcome inputs (Err fault) is = tt

    by_inputs : (found : Option (List ℤ))
        → IfSome (option_and_then result_ok
        (option_map (λ inputs. get_of outlet.standing.0.component outlet.standing.1 inputs outlet.output) found)) IsWord
    by_inputs None = tt
    by_inputs (Some inputs) = by_outcome inputs (get_of outlet.standing.0.component outlet.standing.1 inputs outlet.output) refl

pub ports_fit : (run : Composition) (states : List (List ℤ)) (ports : Ports) → IsAssignment run states ports → ArePortsWords ports
ports_fit run states ports is =
    subst ArePortsWords (sym is) (each_map (λ port. IfSome port IsWord) (word_at ports) (outlets run states) (word_fits ports))

found_fits : (ports : Ports) (place : ℕ) → ArePortsWords ports → IsWord (unwrap_or (option_and_then (λ word. word) (slice_get ports place)) (pos 0))
found_fits [] place are = refl
found_fits (None ∷ ports) zero are = refl
found_fits (Some word ∷ ports) zero are = are.0
found_fits (port ∷ ports) (suc place) are = found_fits ports place are.1

pub inputs_fit : (types : List Ty) (ports : Ports) (inputs : List Input) (sources : List InputSource) → ArePortsWords ports
    → length sources ≡ length inputs → AllByRecursion (Suits types) (zip inputs sources)
    → AllByRecursion IsWord (map (λ source. unwrap_or (input_word ports source) (pos 0)) sources)
inputs_fit types ports inputs [] are same suits = tt
inputs_fit types ports [] (source ∷ sources) are same suits = absurd (omega (arith, same))
inputs_fit types ports (input ∷ inputs) (Start word ∷ sources) are same suits =
    (of_any_type input.ty word suits.0, inputs_fit types ports inputs sources are (omega (arith, same)) suits.1)
inputs_fit types ports (input ∷ inputs) (AtPlace place ∷ sources) are same suits =
    (found_fits ports place are, inputs_fit types ports inputs sources are (omega (arith, same)) suits.1)

states_fit : (states : List State) (words : List ℤ) → AreWordsOf states words → AllByRecursion IsWord words
states_fit [] [] are = tt
states_fit [] (word ∷ words) are = absurd are
states_fit (state ∷ states) [] are = absurd are
states_fit (state ∷ states) (word ∷ words) are = (of_any_type state.ty word are.0, states_fit states words are.1)

-- ---- The limit of a member

small_time : (time : ℕ) → time ≤ 10 ^ 15 → IsWord (pos time)
small_time time small = grind (arith, nat_tests)

short_word : (word : ℤ) → is_negative word ≡ false → IsWord word → unsigned_abs word < 2 ^ 63
short_word (pos n) up fits = grind (arith, nat_tests)
short_word (negsuc n) up fits = absurd (cc)

-- A length is at most the greatest word.
abbrev pub IsShortLimit : Result (Option ℕ) Fault → Type 0
IsShortLimit (Ok (Some local)) = local < 2 ^ 63
IsShortLimit _ = ⊤

limit_short : (negative : Bool) (word : ℤ) → is_negative word ≡ negative → IsWord word
    → IsShortLimit (cond negative (Err Max) (Ok (Some (unsigned_abs word))))
limit_short true word is fits = tt
limit_short false word is fits = short_word word is fits

told_short : (told : Result Value Fault) → HasWord told → IsShortLimit (told >>= as_limit)
told_short (Ok value) has = limit_short (is_negative value.word) value.word refl has
told_short (Err fault) has = tt

module _ (types : List Ty) (member : Member) (sound : IsSoundMember types member) (words : IsOfWords member) (state : List ℤ)
    (have : AreWordsOf member.component.unit.states state) (ports : Ports) (are : ArePortsWords ports) where
  seen_fit : (time : ℕ) → time ≤ 10 ^ 15 → AreWords (environment_of member.component state (inputs_at ports member) time 0)
  seen_fit time small = record {
    words = each_append IsWord ((member.component.params ++ state) ++ inputs_at ports member) (map (λ local. pos 0) member.component.unit.locals)
        (each_append IsWord (member.component.params ++ state) (inputs_at ports member)
        (each_append IsWord member.component.params state words.params (states_fit member.component.unit.states state have))
        (inputs_fit types ports member.component.unit.inputs member.sources are sound.sources sound.suits))
        (each_map IsWord (λ local. pos 0) member.component.unit.locals (λ local. refl));
    time = small_time time small;
    step = refl;
  }

  limit_by_short : (limit : Option Expr) (time : ℕ) → time ≤ 10 ^ 15 → IfSome limit (λ value. has_words value ≡ true)
      → IsShortLimit (limit_by limit (environment_of member.component state (inputs_at ports member) time 0))
  limit_by_short None time small has = tt
  limit_by_short (Some value) time small has =
      told_short (value_of value (environment_of member.component state (inputs_at ports member) time 0))
      (values_are_words value has (environment_of member.component state (inputs_at ports member) time 0) (seen_fit time small))

  pub max_short : (t : ℕ) → t ≤ 10 ^ 15 → 1 ≤ member.factor → IsShortLimit (max_at t ports (member, state))
  max_short t small factor =
      limit_by_short member.component.unit.max (local_time member.factor t) (omega (arith, local_end member.factor t 0)) words.limit

-- ---- The length that a member accepts

-- It accepts at most so much.
abbrev pub IsShortStep : Option (Result Moved Fault) → Type 0
IsShortStep (Some (Ok moved)) = moved.accepted < 2 ^ 63
IsShortStep _ = ⊤

-- By whether the member is held, and by the result of its step.
step_by : (held : Bool) (result : Result Moved Fault) (t h : ℕ) (member : Member) (state inputs : List ℤ) → t + h ≤ 10 ^ 15 → IsMember member
    → AreWordsOf member.component.unit.states state
    → step_of member.component state inputs (local_time member.factor t) (local_step member.factor t h) ≡ result
    → IsShortStep (cond held None (Some result))
step_by true result t h member state inputs small is have gives = tt
step_by false (Err fault) t h member state inputs small is have gives = tt
step_by false (Ok moved) t h member state inputs small is have gives =
    let kept =
    (step_keeps member.component state inputs (local_time member.factor t) (local_step member.factor t h) moved is.params have gives).accepted in
    omega (arith, kept, local_end member.factor t h, small)

pub step_short : (t h : ℕ) (ports : Ports) (member : Member) (state : List ℤ) → t + h ≤ 10 ^ 15 → IsMember member
    → AreWordsOf member.component.unit.states state → IsShortStep (step_at t h ports (member, state))
step_short t h ports member state small is have =
    step_by (is_held member.factor t h)
    (step_of member.component state (inputs_at ports member) (local_time member.factor t) (local_step member.factor t h))
    t h member state (inputs_at ports member) small is have refl

-- ---- The members of a system

-- By whether the first unit has the name.
unit_by : (same : Bool) (unit : Unit) (others : Option Unit) → LimitHasWords unit
    → IfSome others LimitHasWords
    → IfSome (cond same (Some unit) others) LimitHasWords
unit_by true unit others is are = is
unit_by false unit others is are = are

unit_fits : (units : List Unit) (name : List ℕ) → AllByRecursion LimitHasWords units → IfSome (unit_named units name) LimitHasWords
unit_fits [] name have = tt
unit_fits (unit ∷ units) name have = unit_by (bytes_eq unit.name name) unit (unit_named units name) have.0 (unit_fits units name have.1)

member_fits : (system : System) (instance : Instance) (unit : Option Unit) (rest : List Member)
    → IfSome unit LimitHasWords → AllByRecursion IsOfWords rest
    → AllByRecursion IsOfWords (cons_option (member_with system instance unit) rest)
member_fits system instance None rest has are = are
member_fits system instance (Some unit) rest has are = (
  record {
    params = each_map IsWord (λ param. start_word param.ty (literal_set instance.settings param)) unit.params
        (λ param. of_any_type param.ty (start_word param.ty (literal_set instance.settings param))
        (start_fits param.ty (literal_set instance.settings param)));
    limit = has;
  },
  are,
)

members_fit : (system : System) (instances : List Instance) → AllByRecursion LimitHasWords system.units
    → AllByRecursion IsOfWords (filter_map (λ instance. member_with system instance (unit_of_instance system instance)) instances)
members_fit system [] have = tt
members_fit system (instance ∷ instances) have =
    member_fits system instance (unit_of_instance system instance) _ (unit_fits system.units instance.unit have) (members_fit system instances have)

pub systems_are_of_words : (system : System) → AllByRecursion LimitHasWords system.units → AreOfWords (composition_of system)
systems_are_of_words system have = members_fit system system.instances have
