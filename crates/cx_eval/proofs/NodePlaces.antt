-- The nodes of the ports of a cell stand one behind the other.
use Rattle.std.proofs.Common.{◌≡◌, ℕ, ◌+◌, ◌<◌, Some, None, [], length, sym, ap, ◌∙◌, arith}
use Rattle.std.specs.Prelude.{option_map}
use Rattle.std.proofs.lemmas.Option.{slice_get_within}
use Rattle.cx_prim.specs.CellStates.{CellState}
use Rattle.cx_prim.specs.Table.{PrimitiveRow, row_of}
use Rattle.cx_meaning.specs.declared.ports.PortRef.TheVariants.{Cell}
use Rattle.cx_meaning.specs.Cycles.{cell_outcome}
use Rattle.cx_meaning.specs.Designs.{OfPrimitive}
use Rattle.cx_meaning.specs.Instances.{cell_at, cells_of}
use Rattle.cx_rules.specs.Wellformed.{port_count}
use Rattle.cx_design_leads.specs.Nodes as part
use Rattle.cx_design_leads.proofs.NodeLemmas.{below_is, is_below}
use Rattle.cx_eval_drives.specs.Gathers.{AreWide, ports_seen}
use Rattle.cx_eval_network.specs.declared.asking.Asking.{Asking}
use Rattle.cx_eval_network.specs.Askings.{IsAsking, asked_of}
use Rattle.cx_eval_network.specs.Networks.{Asked}
use Rattle.cx_eval_network.specs.Nodes.{first_node, node_at, part_at}
use Rattle.cx_eval_network.proofs.NodeLemmas.{Numbered, nodes_within, numbered, ports_have}
use Rattle.cx_eval_network.proofs.ValueLemmas.{value_there}
use Rattle.cx_eval_cycle.specs.Passes.{kind_at}
use Rattle.cx_eval_cycle.proofs.LookLemmas.{outcome, outcome_alike}
use Rattle.cx_eval.specs.Looked.{StandFrom, count_in, own_cells, seen_from, seen_look, value_in}
use Rattle.cx_eval.proofs.OwnLemmas.{port_there}

no_node : (m : ℕ) → Some m ≡ None → ⊥
no_node m e = cc

module _ (asking : Asking) (can : IsAsking asking) (c : ℕ) (primitive : PrimitiveRow) (kind : kind_at (own_cells asking) c ≡ Some (OfPrimitive primitive)) where
  abbrev a : Asked
  a = asked_of asking

  abbrev n : ℕ
  n = asking.instance

  -- a cell with a port has a first one
  has_first : (p : ℕ) → p < length (row_of primitive).ports → node_at a.design a.rows n (Cell c 0) ≡ None → ⊥
  has_first p lt none =
      let r = ports_have a.design a.rows n (Cell c 0) (port_there asking can c 0 primitive kind (omega (arith, lt))) (λ w v e. cc) in
      no_node r.0 (sym r.1 ∙ none)

  module _ (first : ℕ) (begins : node_at a.design a.rows n (Cell c 0) ≡ Some first) (p : ℕ) (lt : p < length (row_of primitive).ports) where
    cell_node : node_at a.design a.rows n (Cell c p) ≡ Some (first + p)
    cell_node =
        let i = part_at a.design a.rows n in
        let from : Numbered a.design a.rows n (Cell c 0) first = numbered a.design a.rows n (Cell c 0) first begins in
        let zeroth = is_below (port_count (cell_at (cells_of i) c)) (part.ports_before (cells_of i) c) 0 from.number from.stands in
        let start = zeroth.is in
        let is = from.is in
        let sum : first_node a.design a.rows n + (part.ports_before (cells_of i) c + p) ≡ first + p = omega (arith, start, is) in
        ap (option_map (λ m. first_node a.design a.rows n + m)) (below_is (port_count (cell_at (cells_of i) c)) (part.ports_before (cells_of i) c) p (port_there asking can c p primitive kind lt).1) ∙ ap Some sum

    cell_node_within : first + p < count_in asking
    cell_node_within = nodes_within a.design a.rows n (Cell c p) (first + p) can.can.within cell_node

    cell_node_seen : value_in asking (first + p) ≡ seen_look asking (Cell c p)
    cell_node_seen = value_there a asking.nodes.now can.can.network [] n (first + p) (Cell c p) (omega arith) can.can.within cell_node

  module _ (wide : AreWide (ports_seen (seen_look asking) c) (row_of primitive).ports) where
    -- so they stand from the first on
    pub stand_from_first : (first : ℕ) → node_at (asked_of asking).design (asked_of asking).rows asking.instance (Cell c 0) ≡ Some first → StandFrom asking c (row_of primitive).ports first
    stand_from_first first begins = record {
      nodes = record {
        within = λ p lt. cell_node_within first begins p lt;
        wide = λ p port v at e. wide p port v at (sym (cell_node_seen first begins p (slice_get_within (row_of primitive).ports p port at)) ∙ e);
      };
      seen = λ p lt. cell_node_seen first begins p lt;
    }

    -- and without a first there is none
    pub none_stand : node_at (asked_of asking).design (asked_of asking).rows asking.instance (Cell c 0) ≡ None → StandFrom asking c (row_of primitive).ports 0
    none_stand none = record {
      nodes = record {
        within = λ p lt. absurd (has_first p lt none);
        wide = λ p port v at e. absurd (has_first p (slice_get_within (row_of primitive).ports p port at) none);
      };
      seen = λ p lt. absurd (has_first p lt none);
    }

-- a look at these nodes comes to what one at the ports of the cell does
pub outcome_from : (asking : Asking) (c : ℕ) (primitive : PrimitiveRow) (first : ℕ) (state : CellState) → StandFrom asking c (row_of primitive).ports first
    → outcome (seen_from asking first) (row_of primitive) state ≡ cell_outcome (seen_look asking) c (row_of primitive) state
outcome_from asking c primitive first state stand = outcome_alike (seen_from asking first) (row_of primitive) state (ports_seen (seen_look asking) c) stand.seen
