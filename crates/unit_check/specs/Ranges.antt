-- Literals and times, computed only where their decimals are at most nine. In a system in range they
-- always are.
use Rattle.std.specs.Prelude.{ℕ, Bool, true, false, not, ◌&&◌, nat_le, ℤ, pos, List, Option, Some, None, Result, Ok, if◌then◌else◌}
use Rattle.std.specs.Option.{option_map, option_and_then}
use Rattle.fixed_words.specs.Literals.{word_of_literal}
use Rattle.fixed_words.specs.declared.types.Literal.{Literal}
use Rattle.fixed_words.specs.declared.types.Literal.TheVariants as literal
use Rattle.fixed_words.specs.declared.types.LiteralFault.{LiteralFault}
use Rattle.fixed_words.specs.declared.types.Ty.{Ty}
use Rattle.fixed_words.specs.declared.types.Ty.TheVariants as types
use Rattle.super_time.specs.Seconds.{seconds_of}
use Rattle.unit_tree.specs.LineForms.{tail_of, tail_speaks_of_events}
use Rattle.unit_tree.specs.Names.{unit_of_instance, param_named}
use Rattle.unit_tree.specs.Sites.{Scope, InstanceScope}
use Rattle.unit_tree.specs.WellFormed.{mistakes_kind, on_literal, is_misformed, is_beyond, is_length, resolution_of}
use Rattle.std.specs.Prelude.{◌==◌, ◌||◌}
use Rattle.model_rules.specs.Limits.{decimals_limit}
use Rattle.unit_tree.specs.declared.line_form.LineForm.{LineForm}
use Rattle.unit_tree.specs.declared.line_form.LineForm.TheVariants as form
use Rattle.unit_tree.specs.declared.system.Instance.{Instance}
use Rattle.unit_tree.specs.declared.system.System.{System}

-- ---- Literals

abbrev pub has_few_decimals : Ty → Bool
has_few_decimals (types.Fixed decimals) = nat_le decimals decimals_limit
has_few_decimals ty = true

-- The word of a literal, or why it has none.
abbrev pub word_read : Ty → Literal → Result ℤ LiteralFault
word_read ty value = if has_few_decimals ty then word_of_literal ty value else Ok (pos 0)

-- The type of the parameter that a line of an instance sets.
abbrev pub setting_type : System → Instance → List ℕ → Option Ty
setting_type system instance name = option_map (λ param. param.ty) (option_and_then (param_named name) (unit_of_instance system instance))

abbrev pub literal_read : System → Scope → LineForm → Option (Result ℤ LiteralFault)
literal_read system scope (form.Param param) = Some (word_read param.ty param.start)
literal_read system scope (form.State state) = Some (word_read state.ty state.start)
literal_read system scope (form.Input input) = Some (word_read input.ty input.start)
literal_read system (InstanceScope instance) (form.Setting setting) = option_map (λ ty. word_read ty setting.value) (setting_type system instance setting.name)
literal_read system scope _ = None

-- Rule 10: a kind is wrong, `absent` or `present` is used in version 1, or a literal has the wrong
-- form.
abbrev pub is_of_wrong_kind_at : System → Scope → LineForm → Bool
is_of_wrong_kind_at system scope line =
    mistakes_kind scope line || (((system.version == 1) && tail_speaks_of_events (tail_of line)) || on_literal is_misformed (literal_read system scope line))

-- Rule 11: a literal is out of its type's range.
abbrev pub is_out_of_range_at : System → Scope → LineForm → Bool
is_out_of_range_at system scope line = on_literal is_beyond (literal_read system scope line)

-- ---- Times

abbrev pub has_few_places : Literal → Bool
has_few_places (literal.Truth told) = true
has_few_places (literal.Number number decimals) = nat_le decimals decimals_limit

-- Seconds that are a whole number of ticks of a resolution, at least `least` and at most 10^15.
abbrev pub is_length_read : ℕ → ℕ → Literal → Bool
is_length_read least resolution seconds = (nat_le resolution decimals_limit && has_few_places seconds) && is_length least (seconds_of resolution seconds)

-- Rule 20: `stop` or `longest` is not a whole number of ticks, or not in its range.
abbrev pub mistimes_at : System → LineForm → Bool
mistimes_at system (form.Stop seconds) = not (is_length_read 0 (resolution_of system) seconds)
mistimes_at system (form.Longest seconds) = not (is_length_read 1 (resolution_of system) seconds)
mistimes_at system _ = false
