use Rattle.std.proofs.Common.{◌≡◌, ℕ, ◌<◌}
use Rattle.cx_vnets.specs.declared.marks.NetMark.TheVariants.{Known}
use Rattle.cx_vnets.specs.Search.{Ready, mark_at}
use Rattle.cx_vnets.proofs.search.settle.Given as goal

abbrev pub invariant-loop-root : goal.invariant-loop-root
invariant-loop-root l = record {
  ready : Ready l.nets l.stored l.marks l.values;
  found : (f : ℕ) → f < l.root → mark_at l.marks f ≡ Known;
}
