-- The words of a component that runs, as variables and as slots.
use Rattle.std.specs.Prelude.{ℕ, ℤ, pos, List, [], ◌∷◌, ◌++◌}
use Rattle.unit_tree.specs.Components.{Component, variables_of}
use Rattle.unit_tree.specs.declared.environment.Environment.{Environment}
use Rattle.unit_vm.specs.Machine.{Work}

-- What a call works on: the words of states, inputs and locals, in this order, and the accepted length.
pub record CallWords : Type 0 where
  pub words : List ℤ
  pub accepted : ℕ

-- As variables, they come after the words of the parameters.
abbrev pub environment_at : Component → ℕ → ℕ → CallWords → Environment
environment_at component time step held = record {
  variables = variables_of component.unit;
  words = component.params ++ held.words;
  time = time;
  step = step;
  accepted = held.accepted;
}

-- As slots, they come before the local time and the step.
abbrev pub work_at : ℕ → ℕ → List ℤ → CallWords → Work
work_at time step stack held = record { stack = stack; slots = held.words ++ (pos time ∷ pos step ∷ []); accepted = held.accepted }
