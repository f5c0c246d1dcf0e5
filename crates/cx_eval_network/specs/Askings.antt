-- What an asking stands for, and what a look at a port in it finds.
use Rattle.std.specs.Prelude.{◌≡◌, ◌≤◌, ◌<◌, ℕ, List, Some, length}
use Rattle.cx_meaning.specs.declared.ports.PortRef.TheVariants.{Cell}
use Rattle.cx_design.specs.declared.actives.Active.TheVariants as actives
use Rattle.cx_design.specs.PlainDesigns.{plain_design}
use Rattle.cx_state.specs.States.{plain_state}
use Rattle.cx_eval_network.specs.declared.numbering.NodePort.{NodePort}
use Rattle.cx_state.specs.Tables.{row_at}
use Rattle.cx_design_leads.specs.Nodes.{node_of}
use Rattle.cx_eval_network.specs.Nodes.{part_at}
use Rattle.cx_eval_network.specs.declared.marks.NodeMark.{NodeMark}
use Rattle.cx_eval_network.specs.declared.network.Found.{Found}
use Rattle.cx_eval_network.specs.Demands.{Looked}
use Rattle.cx_eval_network.specs.Evaluated.{AreSeen}
use Rattle.cx_eval_network.specs.LeadPorts.{lead_ports}
use Rattle.cx_eval_network.specs.Networks.{Asked, active_at, instance_of, seen_at}
use Rattle.cx_eval_network.specs.Planned.{numbers_of}
use Rattle.cx_eval_network.specs.Plans.{Deciding, decides}
use Rattle.cx_eval_network.specs.Asked.{CanAsk, asked}
use Rattle.cx_eval_network.specs.declared.asking.Asking.{Asking}

abbrev pub asked_of : Asking → Asked
asked_of a =
    asked (plain_design a.design.now) a.table.now.rows.items a.table.now.children.items
    (plain_state a.state.now) a.instance a.active.now

-- what can be asked, with the empty active set for the instances below
pub record IsAsking (a : Asking) : Type 0 where
  pub can : CanAsk (asked_of a) a.nodes.now
  pub nothing : a.nothing.now ≡ actives.Nothing

-- a port that is found in the asked instance or in a later one
pub record IsFound (a : Asked) (found : NodePort) : Type 0 where
  pub from : a.instance ≤ found.instance
  pub within : found.instance < length a.rows
  pub component : found.component ≡ (row_at a.rows found.instance).component
  pub number : node_of (part_at a.design a.rows found.instance) found.port ≡ Some found.number

-- an output of a cell, in the same way
pub record IsCellPort (a : Asked) (instance cell port : ℕ) : Type 0 where
  pub number : ℕ
  pub from : a.instance ≤ instance
  pub within : instance < length a.rows
  pub at : node_of (part_at a.design a.rows instance) (Cell cell port) ≡ Some number

-- what decides it, what is known of the ports of its instance, and what a look at it finds, by the numbers of these
abbrev pub decided_by : Asked → NodePort → Deciding
decided_by a found = decides (part_at a.design a.rows found.instance) found.port

abbrev pub OwnSeen : Asked → NodePort → List NodeMark → Type 0
OwnSeen a found own = AreSeen (part_at a.design a.rows found.instance) (seen_at a found.instance) own

abbrev pub LookedOwn : Asked → NodePort → List NodeMark → Found → Type 0
LookedOwn a found own result =
    Looked (numbers_of (part_at a.design a.rows found.instance)
    (lead_ports (instance_of a found.instance) (active_at a found.instance) found.port))
    (seen_at a found.instance found.port) own result
