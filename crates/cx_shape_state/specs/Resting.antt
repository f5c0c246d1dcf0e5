-- Whether a port rests on state, found by the cells on which it waits.
use Rattle.std.specs.Prelude.{Bool, true, false}
use Rattle.cx_meaning.specs.declared.ports.PortRef.{PortRef}
use Rattle.cx_meaning.specs.Instances.{Instance}
use Rattle.cx_graphs.specs.Graphs.{Edges}
use Rattle.cx_graphs.specs.Grounds.{is_grounded}
use Rattle.cx_shape_state.specs.declared.basis.Basis.{Basis}
use Rattle.cx_shape_state.specs.declared.basis.Basis.TheVariants as basis
use Rattle.cx_shape_state.specs.Waits.{basis_of, waits}

abbrev pub rests_by : Edges → Basis → Bool
rests_by g basis.State = true
rests_by g basis.Nothing = false
rests_by g (basis.Cell c) = is_grounded g c

-- whether a port rests on state; where inputs do not, whether it rests on state and leads back to no signature input
unfoldable pub rests_at : Instance → Bool → PortRef → Bool
rests_at i inputs q = rests_by (waits i inputs) (basis_of i inputs q)
