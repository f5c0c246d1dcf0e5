use Rattle.std.proofs.Common.{◌≡◌, ℕ, true, drop, take}
use Rattle.cx_eval_cycle.specs.Passes.{fault_of, first_among, listed_in}
use Rattle.cx_eval_cycle.specs.Rooms.{HaveRooms}
use Rattle.cx_eval_cycle.specs.Steps.{IsGatheredAt}
use Rattle.cx_eval.specs.Looked.{CanDemand, own_cells, own_held, seen_look}
use Rattle.cx_eval.proofs.faults.first_fault.Given as goal

abbrev pub invariant-loop-number : goal.invariant-loop-number
invariant-loop-number l = record {
  ready : CanDemand l.asking l.marks;
  rooms : HaveRooms l.cells l.rooms;
  far : first_among (fault_of (seen_look l.asking) (own_cells l.asking) (own_held l.asking)) (drop l.number l.listed) ≡ first_among (fault_of (seen_look l.asking) (own_cells l.asking) (own_held l.asking)) l.listed;
  gathered : (c : ℕ) → listed_in (take l.number l.listed) c ≡ true → IsGatheredAt (seen_look l.asking) l.cells (own_held l.asking) l.rooms c;
}
