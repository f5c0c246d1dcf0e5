-- What drives a wire or an output of a module.
use Rattle.std.specs.Prelude.{◌≡◌, ℕ, true, List, Some, slice_get}
use Rattle.cx_vtree.specs.Plain.{PlainPort, PlainAssign, PlainConn}
use Rattle.cx_vtree.specs.InstanceTree.{Placed}

-- in instance `i`, which is `p`, an expression is assigned to the net, or the output of an instance that this one holds is
-- connected to it
pub data IsDriven (tree : List Placed) (i : ℕ) (p : Placed) (net : List ℕ) : Type 0 where
  by_assign : (k : ℕ) (a : PlainAssign) → slice_get p.part.assigns k ≡ Some a → a.name ≡ net → IsDriven tree i p net
  by_output : (j k : ℕ) (q : Placed) (port : PlainPort) (c : PlainConn) → slice_get tree j ≡ Some q
      → q.holder ≡ i → (j ≡ 0 → ⊥)
      → slice_get q.part.ports k ≡ Some port → port.output ≡ true → slice_get q.conns k ≡ Some c
      → c.net ≡ net → IsDriven tree i p net
