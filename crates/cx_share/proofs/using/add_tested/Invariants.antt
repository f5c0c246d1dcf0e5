use Rattle.std.proofs.Common.{take}
use Rattle.cx_meaning.specs.Instances.{just}
use Rattle.cx_share.specs.Marks.{Adds, any_of}
use Rattle.cx_share.proofs.using.add_tested.Given as goal

-- the cells so far are added
abbrev pub invariant-loop-cell : goal.invariant-loop-cell
invariant-loop-cell l = Adds l.initial.marks l.marks (any_of just (take l.cell-index l.cells))
