-- What is known of an asking, said of the tables that it is made of, and the other way round.
use Rattle.std.proofs.Common.{◌≡◌, ℕ, List, Option, sym, ap, ◌∙◌, subst}
use Rattle.cx_meaning.specs.Designs.{component_at}
use Rattle.cx_design.specs.declared.actives.Active.{Active}
use Rattle.cx_state.specs.Tables.{row_at}
use Rattle.cx_state.specs.States.{PlainInstance, instance_state}
use Rattle.cx_eval_network.specs.Demands.{Ready}
use Rattle.cx_eval_network.specs.declared.marks.NodeMark.{NodeMark}
use Rattle.cx_eval_network.specs.declared.numbering.Nodes.{Nodes}
use Rattle.cx_eval_network.specs.Nodes.{node_count}
use Rattle.cx_eval_network.specs.Networks.{Asked, value_at}
use Rattle.cx_eval_network.specs.declared.asking.Asking.{Asking}
use Rattle.cx_eval_network.specs.Askings.{asked_of}
use Rattle.cx_eval_cycle.specs.declared.passes.CellFault.{CellFault}
use Rattle.cx_eval_cycle.specs.declared.rooms.CellRoom.{CellRoom}
use Rattle.cx_eval_cycle.specs.declared.stepping.SteppingCell.{SteppingCell}
use Rattle.cx_eval.specs.Looked.{CanDemand, own_cells, own_held}
use Rattle.cx_eval.specs.declared.tables.Tables.{Tables}
use Rattle.cx_eval.specs.Cycling.{IsFirst}
use Rattle.cx_eval.specs.Tables.{AreReady, asked_in, cells_at}

module _ (t : Tables) (rows : List PlainInstance) (n : ℕ) (active : Active) (asking : Asking) (is : asked_of asking ≡ asked_in t rows n active) (numbered : asking.nodes.now ≡ t.nodes) (marks : List NodeMark) where
  pub can_demand : AreReady t rows n active marks → CanDemand asking marks
  can_demand h = record {
    count = h.count ∙ ap (λ (a : Asked). node_count a.design a.rows) (sym is);
    ready =
        subst (λ (a : Asked). Ready (value_at a asking.nodes.now) marks) (sym is)
        (subst (λ (nodes : Nodes). Ready (value_at (asked_in t rows n active) nodes) marks) (sym numbered) h.ready);
  }

  pub are_ready : CanDemand asking marks → AreReady t rows n active marks
  are_ready h = record {
    count = h.count ∙ ap (λ (a : Asked). node_count a.design a.rows) is;
    ready =
        subst (λ (nodes : Nodes). Ready (value_at (asked_in t rows n active) nodes) marks) numbered
        (subst (λ (a : Asked). Ready (value_at a asking.nodes.now) marks) is h.ready);
  }

  pub first_of : (kept : List (Option SteppingCell)) (listed : List ℕ) (rooms : List CellRoom) (first : Option CellFault) → IsFirst (asked_of asking) (own_cells asking) kept (own_held asking) listed rooms first
      → IsFirst (asked_in t rows n active) (cells_at t n) kept (instance_state rows n).cells listed rooms first
  first_of kept listed rooms first h =
      subst (λ (a : Asked). IsFirst a (component_at a.design (row_at a.rows a.instance).component).cells kept (instance_state a.state a.instance).cells listed rooms first) is h
