-- How a cycle of a host ends beside a cycle of the tree: with the fault of the port that stands for the faulty one,
-- or in a state of the same cells.
use Rattle.std.specs.Prelude.{◌≡◌, ℕ, zero, suc, ◌+◌, Bool, true, false, [], ◌∷◌, Some, None}
use Rattle.cx_meaning.specs.declared.ports.PortRef.{PortRef}
use Rattle.cx_meaning.specs.declared.sights.FaultKind.{FaultKind}
use Rattle.cx_meaning.specs.Instances.{Instance, Node, Cells, no_cells, a_primitive, an_instance, Path, State}
use Rattle.cx_meaning.specs.Cycles.{Fault, Outcome, first_fault, state_after, Ended, Goes, Faults}
use Rattle.cx_flattening.specs.Events.{Spot, spot}
use Rattle.cx_flattening.specs.Whole.{is_static}
use Rattle.cx_flattening.specs.Flattened.{flat_kids, kept_at, start_of, own_port}
use Rattle.cx_flattening.specs.Sampling.{placed}
use Rattle.cx_flattening.specs.Embedded.{Stands}

-- at which instance below the host, and which port there, stands for a port of the instance at a path: a static child stands in the host
-- itself, a dynamic one below the cell where it is kept
abbrev pub spot_if : Bool → ℕ → Spot → Spot → Spot
spot_if true cell here below = here
spot_if false cell here below = spot (cell ∷ below.at) below.port

abbrev mutual
  pub flat_spot : Instance → ℕ → Path → PortRef → Spot
  flat_spot (Node part cells) first [] p = spot [] (placed first (own_port (flat_kids cells) part p))
  flat_spot (Node part cells) first (c ∷ path) p =
      spot_in cells c (first + start_of (flat_kids cells) part c)
      (first + kept_at (flat_kids cells) c) path p

  pub spot_in : Cells → ℕ → ℕ → ℕ → Path → PortRef → Spot
  spot_in no_cells c start cell path p = spot path p
  spot_in (a_primitive row rest) zero start cell path p = spot path p
  spot_in (a_primitive row rest) (suc c) start cell path p = spot_in rest c start cell path p
  spot_in (an_instance child rest) zero start cell path p =
      spot_if (is_static child) cell (flat_spot child start path p) (flat_spot child 0 path p)
  spot_in (an_instance child rest) (suc c) start cell path p = spot_in rest c start cell path p

-- a fault of the tree, as one of the host
abbrev pub at_spot : FaultKind → Spot → Fault
at_spot kind x = record { kind = kind; path = x.at; port = x.port }

abbrev pub flat_fault : Instance → ℕ → Fault → Fault
flat_fault i first f = at_spot f.kind (flat_spot i first f.path f.port)

-- n cells of the host from cell `first` on, by what each comes to, beside a cycle of the tree
abbrev pub EndsAs : Instance → ℕ → (ℕ → Outcome) → State → ℕ → Ended → Type 0
EndsAs i first outcome z n (Goes after) =
    (first_fault outcome first n ≡ None) × Stands i first after (state_after outcome z)
EndsAs i first outcome z n (Faults fault) = first_fault outcome first n ≡ Some (flat_fault i first fault)

-- A CYCLE OF THE FLAT INSTANCE beside one of the tree
abbrev pub CycleAs : Instance → Ended → Ended → Type 0
CycleAs i (Goes after) flat = (z : State) × (flat ≡ Goes z) × Stands i 0 after z
CycleAs i (Faults fault) flat = flat ≡ Faults (flat_fault i 0 fault)
