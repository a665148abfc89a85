-- Nested texts whose lines aren't allowed in their parts, worked out by hand. All of them break rule 26.
use Rattle.std.specs.Prelude.{ℕ, List, [], ◌∷◌, codes}
use Rattle.nest_text.specs.Nests.{RefusesNest}
use Rattle.worked_answers.specs.WorkedTables.{text_of}

-- The nested text with these lines is refused at the line by rule 26.
abbrev pub Strays : List (List ℕ) → ℕ → Type 0
Strays lines number = RefusesNest (text_of lines) number 26

pub record PartsAreWorked : Type 0 where
  -- A line before the first group isn't blank.
  pub before_groups : Strays (codes "# a model" ∷ codes "cosim 1" ∷ codes "group G" ∷ codes "main" ∷ []) 2
  -- A group has no stop: that is a line of `main`.
  pub stop_in_group : Strays (codes "group G" ∷ codes "  stop 3" ∷ codes "main" ∷ codes "stop 3" ∷ []) 2
  -- An `in` line is in the block of an instance. After the `end` it is allowed.
  pub in_a_block : Strays (codes "group G" ∷ codes "instance k : Next" ∷ codes "in x -> k.x" ∷ codes "end" ∷ codes "main" ∷ []) 3
  -- An `in` line with the sign of an `out` line.
  pub other_sign : Strays
      (codes "group G" ∷ codes "instance k : Next" ∷ codes "end" ∷ codes "in x -> k.x" ∷ codes "in x = k.x" ∷ codes "main" ∷ []) 5
  -- A second line `main`.
  pub second_main : Strays (codes "group G" ∷ codes "main" ∷ codes "stop 3" ∷ codes "main" ∷ []) 4
  -- Without a line `main` the text is refused at line 1, though its second line isn't allowed.
  pub no_main : Strays (codes "group G" ∷ codes "stop 3" ∷ []) 1
