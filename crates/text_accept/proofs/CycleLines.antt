-- The line at which the code names a cycle.
use Rattle.std.proofs.Common.{◌≡◌, ℕ, List, Option, Some, Result, Ok, Err, inl, inr, refl, ap, sym, subst, ◌∙◌}
use Rattle.std.specs.Prelude.{slice_get, IsSome}
use Rattle.text_accept.specs.Accepting.{AnswersAcceptance, AnswersSystem}
use Rattle.text_accept.specs.declared.accepting.AcceptedText.{AcceptedText}
use Rattle.unit_text.specs.declared.fault.TextFault.{TextFault}
use Rattle.unit_text.specs.declared.fault.TextFault.TheVariants as fault
use Rattle.text_accept.specs.Marks.{IsWithoutMark}
use Rattle.text_accept.proofs.SourceCycles.{IsMadeOf, SourceOutput, source_of, name_is_plain}
use Rattle.unit_tree.specs.Compositions.{run_of}
use Rattle.unit_tree.specs.Orders.{HasNoCycle, IsFirstWithoutOrder, line_of_output}
use Rattle.unit_tree.specs.Plain.{plain_form}
use Rattle.unit_tree.specs.Printable.{IsRanged}
use Rattle.unit_tree.specs.Routes.{IsOrderOf}
use Rattle.unit_tree.specs.SourceLines.{ReadsFrom}
use Rattle.unit_tree.specs.WellFormed.{IsWellFormed}
use Rattle.unit_tree.specs.declared.system.PortName.{PortName}
use Rattle.unit_tree.specs.declared.system.System.{System}
use Rattle.unit_tree.specs.declared.unit.Output.{Output}
use Rattle.language_laws.proofs.LineLaws.{has_line}
use Rattle.wire_graph.specs.Faults.{IsNumbered, IsRightFault}
use Rattle.wire_graph.specs.Wiring.{Named, port_named, components_in}
use Rattle.wire_graph.specs.declared.fault.OrderFault.TheVariants.{Loop}

one_of : {A : Type 0} (given : Option A) (one other : A) → given ≡ Some one → given ≡ Some other → one ≡ other
one_of given one other first second = cc

-- Two numbers name one output.
numbered_once : (system : System) (instance output : ℕ) (one other : PortName) → IsNumbered system instance output one
    → IsNumbered system instance output other → one ≡ other
numbered_once system instance output one other a b =
    let component : a.component ≡ b.component = one_of (slice_get (components_in system) instance) a.component b.component a.is_instance b.is_instance in
    let declared : a.declared ≡ b.declared =
    one_of (slice_get b.component.1.outputs output) a.declared b.declared
    (subst (λ (c : Named). slice_get c.1.outputs output ≡ Some a.declared) component a.is_output) b.is_output in
    sym a.is ∙ ap (λ (c : Named). port_named c.0 a.declared.name) component ∙ ap (λ (o : Output). port_named b.component.0 o.name) declared ∙ b.is

-- The port of the system, from the names in the plain form without the final `?`.
pub same_source : (system : System) → IsRanged system → IsWellFormed system → (names : PortName) (without : List ℕ) (source : SourceOutput system names)
    → IsWithoutMark names.port without → port_named names.instance without ≡ source.port
same_source system ranged kept names without source mark = by source.makes
  where
    by : IsMadeOf system names source.port → port_named names.instance without ≡ source.port
    by (inl is) =
        let kept_name : without ≡ names.port =
        mark.plain (λ event marked. name_is_plain system ranged kept source.port source.stands event (sym (ap (λ (p : PortName). p.port) is) ∙ marked)) in
        ap (port_named names.instance) kept_name ∙ is
    by (inr is) =
        let name : without ≡ source.port.port = mark.marked source.port.port (ap (λ (p : PortName). p.port) is) in
        ap (port_named names.instance) name ∙ ap (λ (p : PortName). port_named p.instance source.port.port) is

-- The line of the first output without an order exists.
pub record CycleLine (system : System) (names : PortName) : Type 0 where
  pub first : IsFirstWithoutOrder system names
  pub item : ℕ
  pub declared : line_of_output system names ≡ Some item

pub cycle_line : (system : System) → IsRanged system → IsWellFormed system → (instance output : ℕ) → IsRightFault system (Loop instance output)
    → (names : PortName) → IsNumbered (plain_form system) instance output names → (without : List ℕ) → IsWithoutMark names.port without
    → CycleLine system (port_named names.instance without)
cycle_line system ranged kept instance output fault names numbered without mark =
    let same : fault.0 ≡ names = numbered_once (plain_form system) instance output fault.0 names fault.1 numbered in
    let source = source_of system names ranged kept (subst (IsFirstWithoutOrder (plain_form system)) same fault.2) in
    let port = same_source system ranged kept names without source mark in
    let line = has_line system source.port kept source.stands in
    subst (CycleLine system) (sym port) (record { first = source.first; item = line.0; declared = line.1 })

pub some_line : (found : Option ℕ) (item : ℕ) → found ≡ Some item → IsSome found
some_line found item is = subst IsSome (sym is) refl

-- The result for the system of a text is the result for the text.
pub answers_text : (text : List ℕ) (system : System) (lines : List ℕ) (result : Result AcceptedText TextFault) → ReadsFrom text system lines
    → AnswersSystem system lines result → AnswersAcceptance text result
answers_text text system lines (Ok read) reads is = (
  record {
    reads = subst (λ l. ReadsFrom text read.checked l) (sym is.same_lines) (subst (λ (s : System). ReadsFrom text s lines) (sym is.checked) reads);
    well_formed = subst IsWellFormed (sym is.checked) is.well_formed;
    ordered = subst HasNoCycle (sym is.checked) is.ordered;
  },
  subst (λ (s : System). IsOrderOf (run_of s) read.order) (sym is.checked) is.order,
)
answers_text text system lines (Err (fault.Line line rule)) reads refused = inr (record { system = system; lines = lines; reads = reads; refused = refused })
answers_text text system lines (Err fault.NoMemory) reads is = tt
