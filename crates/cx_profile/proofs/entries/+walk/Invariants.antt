use Rattle.std.proofs.Common.{◌+◌, ◌*◌, drop, length, map}
use Rattle.cx_meaning.specs.Instances.{tree_within}
use Rattle.cx_design.specs.PlainForms.{plain_cell}
use Rattle.cx_design.specs.PlainDesigns.{plain_design}
use Rattle.cx_profile.specs.Renumbering.{AreThere}
use Rattle.cx_profile.proofs.WalkLemmas.{IsOnWay}
use Rattle.cx_profile.proofs.entries.+walk.Given as goal

abbrev pub decreases-past_instance : goal.decreases-past_instance
decreases-past_instance l = 3 * l.levels

abbrev pub decreases-past_cells : goal.decreases-past_cells
decreases-past_cells l = 3 * l.levels + 2

abbrev pub decreases-past_cell : goal.decreases-past_cell
decreases-past_cell l = 3 * l.levels + 1

-- what is behind so far, and what is left, are all
abbrev pub invariant-past_cells-loop-cell : goal.invariant-past_cells-loop-cell
invariant-past_cells-loop-cell l = record {
  there : AreThere (length l.design.components.items) (map plain_cell (drop l.cell-index l.cells));
  way : IsOnWay (tree_within (plain_design l.design) l.levels) l.names (map plain_cell (drop l.cell-index l.cells)) (map plain_cell l.cells) l.fn.walk l.past;
}
