-- Laws of the language. The last one is proved by the crate that orders the outputs. Laws about the reader of texts are
-- in the reader's crate.
use Rattle.std.specs.Prelude.{◌≡◌, ◌⊎◌, ◌↔◌, ℕ, List, ◌∷◌, ◌++◌, map, length, Some, None, IsTrue}
use Rattle.std.specs.List.{flat_map}
use Rattle.std.specs.List.Sorted.{IsPermutation}
use Rattle.unit_tree.specs.Blocks.{no_lines, open_blocks, are_placed}
use Rattle.unit_tree.specs.Canonical.{canonical_parts, canonical_forms, canonical_phrase}
use Rattle.unit_tree.specs.Orders.{IsIn, DependsOn, HasNoOrder, HasNoCycle, IsFirstWithoutOrder, outputs_of, line_of_output}
use Rattle.unit_tree.specs.Parts.{Part, text_forms, system_of}
use Rattle.unit_tree.specs.Phrases.{Whole, stands, tree_of}
use Rattle.unit_tree.specs.Plain.{plain_form, plain_forms}
use Rattle.unit_tree.specs.Printable.{is_unsigned}
use Rattle.unit_tree.specs.Sites.{Site, StandsBehind, is_scope_in, sites_of}
use Rattle.unit_tree.specs.SourceLines.{in_canonical_order}
use Rattle.unit_tree.specs.Texts.{IsRefused}
use Rattle.unit_tree.specs.WellFormed.{Refusal, IsWellFormed, IsRefusal, refusal_of, rules}
use Rattle.unit_tree.specs.declared.expr.Expr.{Expr}
use Rattle.unit_tree.specs.declared.system.PortName.{PortName}
use Rattle.unit_tree.specs.declared.system.System.{System}

-- Every system is well-formed or refused, and not both. It is well-formed exactly where there is no refusal. A refusal
-- names the least rule that a line breaks, and the first line that breaks it; there is no other refusal.
pub record SystemsAreJudgedOnce : Type 0 where
  pub well_formed : (system : System) → IsWellFormed system ↔ (refusal_of system ≡ None)
  pub refused : (system : System) (refusal : Refusal) → refusal_of system ≡ Some refusal → IsRefusal rules system refusal
  pub only : (system : System) (refusal : Refusal) → IsRefusal rules system refusal → refusal_of system ≡ Some refusal

-- The sites that rules are stated for are the canonical lines, one for one. Each is in the block that the lines before
-- it have opened, after the earlier lines of this block. It has the scope of the blocks that are open there.
pub record SitesAreCanonicalLines : Type 0 where
  pub lines : (system : System) → map (λ site. site.line) (sites_of system) ≡ canonical_forms system
  pub blocks : (system : System) (before later : List Site) (site : Site) → sites_of system ≡ before ++ (site ∷ later) → StandsBehind system before site
  pub scopes : (system : System) (before later : List Site) (site : Site) → sites_of system ≡ before ++ (site ∷ later)
      → IsTrue (is_scope_in (open_blocks (map (λ one. one.line) before)) site.scope site.line)

-- For a system of version 2, the lines that its lines become in the plain form are, in their order, the canonical lines
-- of the plain form. Sampled outputs are left as they were written.
abbrev pub PlainLinesAreThose : Type 0
PlainLinesAreThose =
    (system : System) → system.version ≡ 2
    → flat_map (λ site. plain_forms system site.scope site.line) (sites_of system) ≡ canonical_forms (record (plain_form system) { samples = system.samples })

-- The canonical parts of a system give this system.
abbrev pub CanonicalPartsSayTheSystem : Type 0
CanonicalPartsSayTheSystem = (system : System) → system_of system.version (canonical_parts system) ≡ system

-- The canonical phrase of an expression whose numbers are words from 0 up has this expression as its tree, and each of
-- its parts is where the grammar allows it.
pub record CanonicalPhraseIs (value : Expr) : Type 0 where
  pub is_tree : tree_of (canonical_phrase value) ≡ value
  pub stands_so : IsTrue (stands Whole (canonical_phrase value))

abbrev pub CanonicalPhrasesAreRight : Type 0
CanonicalPhrasesAreRight = (value : Expr) → IsTrue (is_unsigned value) → CanonicalPhraseIs value

-- An output that depends on itself is on a cycle: it is in no orderly list, and nor is any output that depends on such
-- a one.
pub record CyclesHaveNoOrder : Type 0 where
  pub on_cycle : (system : System) (port : PortName) → DependsOn system port port → HasNoOrder system port
  pub behind_cycle : (system : System) (port other : PortName) → DependsOn system port other → HasNoOrder system other → HasNoOrder system port

-- Each output of a well-formed system has its canonical line, which the rule of cycles can name.
abbrev pub OutputsHaveLines : Type 0
OutputsHaveLines = (system : System) (port : PortName) → IsWellFormed system → IsIn (outputs_of system) port
    → (line : ℕ) × (line_of_output system port ≡ Some line)

-- The lines of parts that are where they are allowed, in canonical order, are the canonical lines of the system of the
-- parts. The numbers of a text's lines, in this order, are each there once.
pub record SourceLinesAreRight : Type 0 where
  pub forms : (version : ℕ) (parts : List Part) → IsTrue (are_placed no_lines (text_forms version parts))
      → in_canonical_order parts (text_forms version parts) ≡ canonical_forms (system_of version parts)
  pub each_once : (version : ℕ) (parts : List Part) (lines : List ℕ) → length lines ≡ length (text_forms version parts)
      → IsPermutation (in_canonical_order parts lines) lines

-- A text is refused at most at one line and by one rule.
abbrev pub IsRefusedOnce : Type 0
IsRefusedOnce =
    (text : List ℕ) (line by other rule : ℕ) → IsRefused text line by → IsRefused text other rule → (line ≡ other) × (by ≡ rule)

-- A system has an order of all its outputs, or one output that is the first without an order, and not both.
pub record CyclesAreJudgedOnce : Type 0 where
  pub judged : (system : System) → HasNoCycle system ⊎ ((port : PortName) × IsFirstWithoutOrder system port)
  pub not_both : (system : System) (port : PortName) → HasNoCycle system → IsFirstWithoutOrder system port → ⊥
  pub one_port : (system : System) (one other : PortName) → IsFirstWithoutOrder system one → IsFirstWithoutOrder system other → one ≡ other
