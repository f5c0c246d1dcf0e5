use Rattle.std.proofs.Common.{◌≡◌, ◌≤◌, take}
use Rattle.std.specs.Prelude.{vec_capacity, vec_len}
use Rattle.cx_weave.proofs.calls.held_inputs.Given as goal

-- the inputs so far, and room for the others
abbrev pub invariant-loop-seen : goal.invariant-loop-seen
invariant-loop-seen l = record { items : l.inputs.items ≡ take l.seen-index l.seen-items; count : vec_len l.inputs ≡ l.seen-index; room : vec_capacity l.initial.inputs ≤ vec_capacity l.inputs }
