use Rattle.std.proofs.Common.{ℕ, ◌<◌, ◌≤◌, length}
use Rattle.cx_meaning.specs.Designs.{component_at}
use Rattle.cx_design.specs.PlainDesigns.{plain_design}
use Rattle.cx_turns.proofs.rooms.most_cells.Given as goal

-- the most so far
abbrev pub invariant-loop-component : goal.invariant-loop-component
invariant-loop-component l = (k : ℕ) → k < l.component-index → length (component_at (plain_design l.design) k).cells ≤ l.most
