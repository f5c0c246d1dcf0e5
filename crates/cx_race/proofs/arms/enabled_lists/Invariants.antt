use Rattle.std.proofs.Common.{◌≡◌, map, take}
use Rattle.cx_graphs.specs.Graphs.{edges_of}
use Rattle.cx_rules.specs.RaceRule.{enabled_in}
use Rattle.cx_design.specs.PlainForms.{plain_statement}
use Rattle.cx_race.proofs.arms.enabled_lists.Given as goal

-- the lists of the arms so far
abbrev pub invariant-loop-arm : goal.invariant-loop-arm
invariant-loop-arm l = edges_of l.lists.items ≡ map enabled_in (map plain_statement (take l.arm-index l.arms))
