use Rattle.std.proofs.Common.{ℕ, ◌<◌, ◌≤◌, length}
use Rattle.cx_meaning.specs.Designs.{component_at}
use Rattle.cx_turns.specs.Machines.{design_of}
use Rattle.cx_weave.proofs.making.most_inputs.Given as goal

-- the most so far
abbrev pub invariant-loop-component : goal.invariant-loop-component
invariant-loop-component l = (k : ℕ) → k < l.component-index → length (component_at (design_of l.plan) k).inputs ≤ l.most
