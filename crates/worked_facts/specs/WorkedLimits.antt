-- Worked limits: each at its end, and just beyond it.
use Rattle.std.specs.Prelude.{◌≡◌, ℕ, zero, suc, ◌-◌, true, false, [], ◌∷◌, ◌++◌, codes, pos, neg_ℤ, Some}
use Rattle.std.specs.List.{repeat}
use Rattle.fixed_words.specs.declared.types.Literal.TheVariants as literal
use Rattle.fixed_words.specs.declared.types.Ty.TheVariants as types
use Rattle.unit_tree.specs.LineForms.{AreCountsInRange}
use Rattle.unit_tree.specs.Parts.{unit_of, bare_system}
use Rattle.unit_tree.specs.Printable.{is_seconds, is_word_literal, line_depth}
use Rattle.unit_tree.specs.Sites.{Scope, TopScope, UnitScope, StepScope}
use Rattle.unit_tree.specs.Tokens.{IsWord}
use Rattle.unit_tree.specs.WellFormed.{exceeds, has_deep_expression}
use Rattle.worked_facts.specs.WorkedSystems.{counts, minuses, number, one, port}
use Rattle.unit_tree.specs.declared.expr.Expr as expr
use Rattle.unit_tree.specs.declared.line.Line.{Line}
use Rattle.unit_tree.specs.declared.line.Line as line
use Rattle.unit_tree.specs.declared.line_form.LineForm.{LineForm}
use Rattle.unit_tree.specs.declared.line_form.LineForm.TheVariants as form
use Rattle.unit_tree.specs.declared.system.System.{System}

abbrev pub in_a : Scope
in_a = UnitScope (unit_of (codes "A") counts)

abbrev pub step_of_a : Scope
step_of_a = StepScope (unit_of (codes "A") counts)

abbrev pub connection : LineForm
connection = form.Connect (record { from = port (codes "a") (codes "y"); to = port (codes "b") (codes "u") })

-- An empty system: it has none of the names on these lines, so none of their ports is an event port.
abbrev pub no_system : System
no_system = bare_system 1

-- The scope may have so many lines like this one, and not one more.
pub record MayBe (limit : ℕ) (scope : Scope) (some : LineForm) : Type 0 where
  pub last : exceeds no_system scope (repeat (limit - 1) (some ∷ [])) some ≡ false
  pub first_too_many : exceeds no_system scope (repeat limit (some ∷ [])) some ≡ true

-- So many blocks in each other.
abbrev pub blocks : ℕ → Line
blocks zero = line.Accept one
blocks (suc count) = line.Repeat 2 (blocks count ∷ [])

pub record LimitsAreWorked : Type 0 where
  pub units : MayBe 64 TopScope (form.Unit (codes "A"))
  pub instances : MayBe 64 TopScope (form.Instance (codes "a") (codes "A"))
  pub connections : MayBe 2048 TopScope connection
  pub samples : MayBe 2048 TopScope (form.Sample (port (codes "a") (codes "y")))
  pub params : MayBe 32 in_a (form.Param (record { name = codes "k"; ty = types.Int64; start = number 0 }))
  pub states : MayBe 64 in_a (form.State (record { name = codes "n"; ty = types.Int64; start = number 0 }))
  pub locals : MayBe 64 in_a (form.Local (record { name = codes "x"; ty = types.Int64 }))
  pub inputs : MayBe 32 in_a (form.Input (record { name = codes "u"; ty = types.Int64; start = number 0 }))
  pub outputs : MayBe 32 in_a (form.Output (record { name = codes "y"; ty = types.Int64; needs = []; value = one }))
  pub step_lines : MayBe 500 step_of_a form.End
  -- The depth of an expression on a step line.
  pub depth_33_in_if : has_deep_expression no_system step_of_a (form.If (minuses 32)) ≡ true
  -- Other lines do not count.
  pub only_alike : exceeds no_system TopScope (repeat 64 (connection ∷ []) ++ repeat 63 (form.Unit (codes "A") ∷ [])) (form.Unit (codes "B")) ≡ false
  -- Numbers on a line.
  pub resolutions : AreCountsInRange (form.Resolution 0) × AreCountsInRange (form.Resolution 9) × (AreCountsInRange (form.Resolution 10) → ⊥)
  pub repeats : AreCountsInRange (form.Repeat 1) × AreCountsInRange (form.Repeat 1000) × (AreCountsInRange (form.Repeat 0) → ⊥)
      × (AreCountsInRange (form.Repeat 1001) → ⊥)
  pub zeros : AreCountsInRange (form.Zero 0) × AreCountsInRange (form.Zero 10000) × (AreCountsInRange (form.Zero 10001) → ⊥)
  pub rows : AreCountsInRange (form.Rows 1) × AreCountsInRange (form.Rows 100000) × (AreCountsInRange (form.Rows 0) → ⊥)
      × (AreCountsInRange (form.Rows 100001) → ⊥)
  pub decimals : AreCountsInRange (form.Local (record { name = codes "x"; ty = types.Fixed 9 }))
      × (AreCountsInRange (form.Local (record { name = codes "x"; ty = types.Fixed 10 })) → ⊥)
  -- Words.
  pub longest_word : IsWord (repeat 32 (codes "a"))
  pub too_long_word : IsWord (repeat 33 (codes "a")) → ⊥
  pub digit_first : IsWord (codes "1a") → ⊥
  pub underscore_first : IsWord (codes "_1")
  -- Literals, and numbers of seconds.
  pub least_literal : is_word_literal (literal.Number (neg_ℤ (pos 9223372036854775808)) 0) ≡ true
  pub too_great_literal : is_word_literal (literal.Number (pos 9223372036854775808) 0) ≡ false
  pub greatest_seconds : is_seconds (literal.Number (pos 9223372036854775807) 9) ≡ true
  pub negative_seconds : is_seconds (literal.Number (neg_ℤ (pos 1)) 0) ≡ false
  pub true_seconds : is_seconds (literal.Truth true) ≡ false
  -- Blocks in each other.
  pub block_depth : line_depth (blocks 16) ≡ 16
  pub depth_of_else : line_depth (line.If (expr.Truth true) [] (Some (blocks 2 ∷ []))) ≡ 3
