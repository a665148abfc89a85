-- How long the steps in facts are.
use Rattle.fixed_words.specs.Types.{is_word_of}
use Rattle.fixed_words.specs.declared.types.Ty.TheVariants.{Int64}
use Rattle.link_laws.specs.declared.fact.Asked.TheVariants.{Max as AtMost}
use Rattle.link_laws.specs.declared.fact.Fact.{Fact}
use Rattle.link_laws.specs.declared.fact.Fact.TheVariants.{Limit, Reply, Word}
use Rattle.link_laws.specs.declared.fact.Said.TheVariants.{Accepted}
use Rattle.std.specs.List.{AllByRecursion}
use Rattle.std.specs.Prelude.{Bool, IfSome, nat_lt, true, ◌&&◌, ◌^◌, ◌≡◌}
use Rattle.model_rules.specs.Limits.{rows_limit}
use Rattle.unit_tree.specs.Compositions.{Composition, Member}
use Rattle.unit_tree.specs.declared.expr.Expr.{Expr, fold-Expr}
use Rattle.unit_tree.specs.declared.expr.Expr.TheOpen.{Expr-F}
use Rattle.unit_tree.specs.declared.unit.Unit.{Unit}

-- A fact is short: its row is below 100,000, and a length in it is at most the greatest word.
abbrev pub is_short : Fact → Bool
is_short (Word row place seen) = nat_lt row rows_limit
is_short (Limit row instance (AtMost local)) = nat_lt row rows_limit && nat_lt local (2 ^ 63)
is_short (Limit row instance asked) = nat_lt row rows_limit
is_short (Reply row instance redo (Accepted accepted)) = nat_lt row rows_limit && nat_lt accepted (2 ^ 63)
is_short (Reply row instance redo said) = nat_lt row rows_limit

-- ---- Numbers of a `max`

-- One node of a tree, where the numbers of each part are words of 64 bits or not.
abbrev pub node_has_words : Expr-F Bool → Bool
node_has_words (Expr-F.Number word decimals) = is_word_of Int64 word
node_has_words (Expr-F.Unary op arg) = arg
node_has_words (Expr-F.Binary op left right) = left && right
node_has_words (Expr-F.Clamp value low high) = value && (low && high)
node_has_words (Expr-F.Choose cond then_part else_part) = cond && (then_part && else_part)
node_has_words _ = true

-- The numbers of an expression are words of 64 bits. Those of a tree in a program are, by their types.
abbrev pub has_words : Expr → Bool
has_words = fold-Expr Bool node_has_words

-- The numbers of a unit's `max`, where it has one, are words of 64 bits.
abbrev pub LimitHasWords : Unit → Type 0
LimitHasWords unit = IfSome unit.max (λ limit. has_words limit ≡ true)

-- The words of a member's parameters are words of 64 bits, and so are the numbers of its `max`.
pub record IsOfWords (member : Member) : Type 0 where
  pub params : AllByRecursion (λ word. is_word_of Int64 word ≡ true) member.component.params
  pub limit : LimitHasWords member.component.unit

abbrev pub AreOfWords : Composition → Type 0
AreOfWords run = AllByRecursion IsOfWords run.members
