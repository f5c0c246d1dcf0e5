use Rattle.std.proofs.Common.{◌≡◌, map, take}
use Rattle.cx_graphs.specs.Graphs.{edges_of}
use Rattle.cx_design.specs.PlainForms.{plain_component, plain_statement}
use Rattle.cx_race.specs.Cells.{met_by}
use Rattle.cx_race.proofs.arms.met_lists.Given as goal

-- the lists of the arms so far
abbrev pub invariant-loop-arm : goal.invariant-loop-arm
invariant-loop-arm l = edges_of l.lists.items ≡ map (met_by (plain_component l.part)) (map plain_statement (take l.arm-index l.arms))
