use Rattle.cx_vsim.specs.Nets.{IsLastBegun}
use Rattle.cx_vsim.proofs.nets.instance_of.Given as goal

abbrev pub invariant-loop-i : goal.invariant-loop-i
invariant-loop-i l = IsLastBegun l.places l.net l.i l.found
