use Rattle.std.proofs.Common.{◌≡◌, map, take}
use Rattle.cx_graphs.specs.Graphs.{edges_of}
use Rattle.cx_design.specs.PlainForms.{plain_group}
use Rattle.cx_race.specs.Cells.{cells_in_group}
use Rattle.cx_race.proofs.cells.named.Given as goal

-- the lists of the groups so far
abbrev pub invariant-loop-group : goal.invariant-loop-group
invariant-loop-group l = edges_of l.lists.items ≡ map cells_in_group (map plain_group (take l.group-index l.groups))
