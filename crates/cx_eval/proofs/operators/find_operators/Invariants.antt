use Rattle.std.proofs.Common.{◌≡◌, length}
use Rattle.cx_eval_network.specs.Askings.{asked_of}
use Rattle.cx_eval.proofs.SourceLaws.{AreFirstFound}
use Rattle.cx_eval.proofs.operators.find_operators.Given as goal

-- the first operators are found
abbrev pub invariant-loop-place : goal.invariant-loop-place
invariant-loop-place l = record {
  sized : length l.slots ≡ length l.fn.slots;
  far : AreFirstFound (asked_of l.asking) l.operators l.place l.slots;
}
