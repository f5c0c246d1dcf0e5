use Rattle.std.proofs.Common.{◌≡◌, length, take}
use Rattle.cx_eval_cycle.specs.Passes.{AreStepped, listed_in}
use Rattle.cx_eval_cycle.specs.Steps.{HoldFitting, after_room}
use Rattle.cx_eval_cycle.proofs.passes.step_listed.Given as goal

abbrev pub invariant-loop-number : goal.invariant-loop-number
invariant-loop-number l = record {
  long : length l.held ≡ length l.fn.held;
  fits : HoldFitting l.cells l.held;
  stepped : AreStepped (listed_in (take l.number l.listed)) (after_room l.cells l.rooms) l.fn.held l.held;
}
