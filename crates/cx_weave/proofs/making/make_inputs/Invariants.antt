use Rattle.std.proofs.Common.{◌≡◌, ◌≤◌}
use Rattle.std.specs.Prelude.{All, vec_capacity, vec_len}
use Rattle.cx_weave.proofs.making.make_inputs.Given as goal

abbrev pub invariant-loop-list : goal.invariant-loop-list
invariant-loop-list l = (vec_len l.inputs ≡ l._list) × All (λ list. l.most ≤ vec_capacity list) l.inputs.items
