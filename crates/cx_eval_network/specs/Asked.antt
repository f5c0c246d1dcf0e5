-- What is asked of a design: an instance under an active set, in a state.
use Rattle.std.specs.Prelude.{ℕ, ◌<◌, nat_lt, nat_eq, List, [], Option, Some, None, length, if◌then◌else◌}
use Rattle.cx_meaning.specs.declared.ports.PortRef.TheVariants as ports
use Rattle.cx_meaning.specs.declared.sights.Seen.{Seen}
use Rattle.cx_meaning.specs.declared.sights.Seen.TheVariants.{Undefined}
use Rattle.cx_meaning.specs.Designs.{PlainDesign}
use Rattle.cx_meaning.specs.Instances.{instance_at, tree_of}
use Rattle.cx_rules.specs.Accepted.{IsAccepted}
use Rattle.cx_design.specs.declared.actives.Active.{Active}
use Rattle.cx_design.specs.declared.actives.Active.TheVariants as actives
use Rattle.cx_design.specs.PlainActives.{plain_active}
use Rattle.cx_state.specs.declared.tables.InstanceRow.{InstanceRow}
use Rattle.cx_state.specs.Tables.{child_of}
use Rattle.cx_state.specs.States.{IsStateOf, PlainInstance, instance_state}
use Rattle.cx_eval_network.specs.declared.marks.NodeMark.{NodeMark}
use Rattle.cx_eval_network.specs.declared.numbering.Nodes.{Nodes}
use Rattle.cx_eval_network.specs.Nodes.{node_at}
use Rattle.cx_eval_network.specs.Networks.{Asked, IsNetwork, node_shown, path_at}

abbrev pub asked : PlainDesign → List InstanceRow → List ℕ → List PlainInstance → ℕ → Active → Asked
asked d rows children state n active =
    record {
      design = d;
      rows = rows;
      children = children;
      state = state;
      instance = n;
      active = plain_active (instance_at (tree_of d) (path_at d n)) active;
    }

-- the asked instance is there, in an accepted design, in a state of it
pub record CanAsk (a : Asked) (nodes : Nodes) : Type 0 where
  pub network : IsNetwork a nodes
  pub within : a.instance < length a.rows
  pub accepted : IsAccepted a.design
  pub fits : IsStateOf a.design a.state

-- the active set of an instance, and what its inputs are held as: in the asked one alone something is active, and inputs are held
abbrev pub active_in : ℕ → Active → ℕ → Active
active_in asked active n = if nat_eq n asked then active else actives.Nothing

abbrev pub held_in : ℕ → List PlainInstance → ℕ → List Seen
held_in asked state n = if nat_eq n asked then (instance_state state n).held else []

-- what marks show of the outputs of the instances at the cells of one, where there is such an instance
abbrev pub child_in : List InstanceRow → List ℕ → ℕ → ℕ → Option ℕ
child_in rows children n c =
    let child = child_of rows children n c in if nat_lt child (length rows) then Some child else None

abbrev pub child_shown : PlainDesign → List InstanceRow → List NodeMark → Option ℕ → ℕ → Seen
child_shown d rows marks None output = Undefined
child_shown d rows marks (Some child) output =
    node_shown marks (ports.Output output) (node_at d rows child (ports.Output output))
