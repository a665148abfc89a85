-- Levels of the grammar.
use Rattle.unit_tree.specs.Phrases as phrases
use Rattle.unit_tree.specs.declared.levels.Level.{Level}
use Rattle.unit_tree.specs.declared.levels.Level.TheVariants as level

-- The level of the grammar that corresponds to a level of the code.
abbrev pub grammar_level : Level → phrases.Level
grammar_level level.Whole = phrases.Whole
grammar_level level.Or = phrases.Or
grammar_level level.And = phrases.And
grammar_level level.Not = phrases.Not
grammar_level level.Comparison = phrases.Comparison
grammar_level level.Sum = phrases.Sum
grammar_level level.Product = phrases.Product
grammar_level level.Negation = phrases.Negation
grammar_level level.Primary = phrases.Primary
