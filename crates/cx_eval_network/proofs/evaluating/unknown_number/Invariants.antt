use Rattle.std.proofs.Common.{◌≡◌, drop}
use Rattle.cx_eval_network.specs.Lacking.{unknown_in}
use Rattle.cx_eval_network.proofs.evaluating.unknown_number.Given as goal

-- those that are left lack what all of them do
abbrev pub invariant-loop-number : goal.invariant-loop-number
invariant-loop-number l = unknown_in l.own (drop l.number-index l.numbers) ≡ unknown_in l.own l.numbers
