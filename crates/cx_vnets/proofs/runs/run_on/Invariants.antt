use Rattle.std.proofs.Common.{◌-◌}
use Rattle.cx_vnets.specs.Machines.{KeepsWidths}
use Rattle.cx_vnets.specs.Readers.{IsCurrent}
use Rattle.cx_vnets.specs.Runs.{IsReady, Outcome, FlatFrom}
use Rattle.cx_vnets.proofs.runs.run_on.Given as goal

abbrev pub invariant-loop-cycle : goal.invariant-loop-cycle
invariant-loop-cycle l = record {
  widths : KeepsWidths l.fn.stored l.stored;
  ready : IsReady l.machine l.stored l.bench;
  current : IsCurrent l.machine l.stored l.bench;
  so_far : (o : Outcome) → FlatFrom l.machine l.stored l.cycle (l.cycles - l.cycle) o → FlatFrom l.machine l.fn.stored 0 l.cycles o;
}
