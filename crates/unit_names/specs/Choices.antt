-- The choices of an event output's expression, from those of its parts.
use Rattle.std.specs.Prelude.{ℕ, ◌&&◌, nat_eq, if◌then◌else◌, Option}
use Rattle.std.specs.Option.{option_and_then}
use Rattle.fixed_words.specs.declared.types.Kind.{Kind}
use Rattle.fixed_words.specs.declared.types.Kind.TheVariants.{Bool as Truth}
use Rattle.fixed_words.specs.declared.types.Ty.{Ty}
use Rattle.fixed_words.specs.declared.types.Ty.TheVariants as types
use Rattle.unit_tree.specs.Kinds.{same_kind, where_holds}

-- The kind of an `if`, from those of its condition and of its branches.
abbrev pub choice_kind : Option Kind → Option Kind → Option Kind → Option Kind
choice_kind cond chosen other =
    option_and_then (λ c. option_and_then (λ x. option_and_then (λ y. where_holds (same_kind c Truth && same_kind x y) x) other) chosen) cond

-- The depth and the cost of the zero of a type's kind: `fix 0 (0)` has two nodes, any other has one.
abbrev pub zero_size : Ty → ℕ
zero_size (types.Fixed decimals) = if nat_eq decimals 0 then 2 else 1
zero_size _ = 1
