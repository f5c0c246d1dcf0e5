use Rattle.std.proofs.Common.{◌≡◌, drop, slice_get}
use Rattle.cx_vnets.specs.Edges.{after_sets}
use Rattle.cx_vnets.specs.Search.{SameWidths}
use Rattle.cx_vnets.specs.Stale.{Tells}
use Rattle.cx_vnets.proofs.edges.set_registers.Given as goal

abbrev pub invariant-loop-set : goal.invariant-loop-set
invariant-loop-set l = record {
  value : after_sets l.codes l.values l.arrays (drop l.set-index l.sets) l.registers ≡ after_sets l.codes l.values l.arrays l.sets l.fn.registers;
  widths : SameWidths l.registers l.values;
  tells : Tells l.ranks l.fn.stale l.stale (λ f. slice_get l.registers f ≡ slice_get l.fn.registers f);
}
