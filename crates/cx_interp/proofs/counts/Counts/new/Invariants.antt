use Rattle.std.proofs.Common.{◌≡◌, length}
use Rattle.cx_turns.specs.Machines.{design_of}
use Rattle.cx_interp.proofs.ZeroCounts.{AreZeroRows}
use Rattle.cx_interp.proofs.counts.Counts.new.Given as goal

-- a row of zeros for each instance so far
abbrev pub invariant-loop-instance : goal.invariant-loop-instance
invariant-loop-instance l = record {
  count : length l.rows.items ≡ l.instance;
  zeros : AreZeroRows (λ row. row.items) (design_of l.plan) l.rows.items;
}
