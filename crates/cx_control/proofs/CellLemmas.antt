-- What a cell comes to at an edge of any solution: what its cycle comes to, and its idle step where nothing active drives it.
use Rattle.std.proofs.Common.{◌≡◌, ℕ, zero, suc, ◌+◌, Bool, true, List, [], ◌∷◌, Option, Some, None, Result, Ok, Err, refl, sym, ap, ◌∙◌, subst, arith}
use Rattle.std.specs.Prelude.{slice_get}
use Rattle.cx_text.proofs.BoolLaws.{or_left, or_right}
use Rattle.cx_text.specs.Members.{In}
use Rattle.cx_bits.specs.BitVector.{BitVector}
use Rattle.cx_prim.specs.declared.ports.PortRow.{PortRow}
use Rattle.cx_prim.specs.declared.ports.Side.TheVariants as sides
use Rattle.cx_prim.specs.CellStates.{CellState}
use Rattle.cx_prim.specs.Rows.{Inputs, Row, input, number_of, edge_of, edge, is_enable_side, IsLawful, IsQuiet}
use Rattle.cx_meaning.specs.declared.ports.PortRef.TheVariants as ports
use Rattle.cx_meaning.specs.Rows.{side_of}
use Rattle.cx_meaning.specs.Designs.{group_at}
use Rattle.cx_meaning.specs.Instances.{Instance, OfRow, part_of, cells_of, cell_at, State}
use Rattle.cx_meaning.specs.Active.{Active, Owned, source_order, drivers, offset_of}
use Rattle.cx_meaning.specs.Sights.{Look, Gathered, Given, Lacks, gather}
use Rattle.cx_meaning.specs.Cycles.{Next, Stops, after_edge, after_data, after_enabling, enables, looks_at, cell_outcome}
use Rattle.cx_rules.specs.Ports.{width_of}
use Rattle.cx_rules.proofs.ForeignLemmas.{assigns_drive_in, acting_none, OwnerOf, continuous, of_group, owner_of}
use Rattle.cx_frames.specs.Rests.{IsUndriven}
use Rattle.cx_control.specs.Flows.{Values, zero_of, first_on, given, Around, side_flow, cell_flow, Solves}
use Rattle.cx_control.proofs.TargetFlows.{Right}
use Rattle.cx_control.proofs.PortFlows.{stands}
use Rattle.cx_meaning.proofs.RowsLemmas.{side_at}

-- what stands at a port of a row
given_at : (v : Values) (c : ℕ) (rows : List PortRow) (p m : ℕ) (port : PortRow) → slice_get rows m ≡ Some port → input (given v c p rows) m ≡ Some (v (ports.Cell c (p + m)))
given_at v c [] p m port e = absurd (cc)
given_at v c (row ∷ rows) p zero port e = let k : p ≡ p + 0 = omega arith in ap (λ j. Some (v (ports.Cell c j))) k
given_at v c (row ∷ rows) p (suc m) port e = let k : suc p + m ≡ p + suc m = omega arith in given_at v c rows (suc p) m port e ∙ ap (λ j. Some (v (ports.Cell c j))) k

edge_next : (o : Option ℕ) (a b : CellState) → edge_of o a ≡ Ok b → a ≡ b
edge_next None a b e = cc
edge_next (Some n) a b e = absurd (other e)
  where
    other : ◌≡◌ {A = Result CellState ℕ} (Err n) (Ok b) → ⊥
    other f = cc

-- A STEP
module _ (look : Look) (v : Values) (c : ℕ) (row : Row) (state : CellState) (lawful : IsLawful row) (right : (q : ℕ) → Right look v (ports.Cell c q)) where
  abbrev Whole : Inputs
  Whole = given v c 0 row.ports

  abbrev Enabling : Inputs → Type 0
  Enabling inputs = gather (λ q. look (ports.Cell c q)) (enables row) 0 row.ports ≡ Given inputs

  is_enabling : (n : ℕ) (port : PortRow) → slice_get row.ports n ≡ Some port → port.side ≡ sides.Enable → enables row n ≡ true
  is_enabling n port at side = ap is_enable_side (side_at row.ports n port at ∙ side)

  gathered : (wanted : ℕ → Bool) (inputs : Inputs) → gather (λ q. look (ports.Cell c q)) wanted 0 row.ports ≡ Given inputs → (n : ℕ) → wanted n ≡ true → input inputs n ≡ input Whole n
  gathered wanted inputs e n w = stands look v c wanted (λ q x. right q) row.ports 0 inputs e n n (let k : n ≡ 0 + n = omega arith in k) w

  same_edge : (first : Inputs) → Enabling first → (inputs : Inputs) → gather (λ q. look (ports.Cell c q)) (looks_at row state first) 0 row.ports ≡ Given inputs → edge row state inputs ≡ edge row state Whole
  same_edge first e inputs f = lawful.looked_at state inputs Whole (record {
    enabling = λ n port at side. gathered (looks_at row state first) inputs f n (or_left (enables row n) (row.demands state first n) (is_enabling n port at side));
    demanded = λ n port at side is.
        gathered (looks_at row state first) inputs f n
        (or_right (enables row n) (row.demands state first n) (lawful.by_enabling state first inputs n (record { enabling = agrees }) ∙ is));
  })
    where
      agrees : (m : ℕ) (port : PortRow) → slice_get row.ports m ≡ Some port → port.side ≡ sides.Enable → input first m ≡ input inputs m
      agrees m port at side =
          gathered (enables row) first e m (is_enabling m port at side)
          ∙ sym (gathered (looks_at row state first) inputs f m (or_left (enables row m) (row.demands state first m) (is_enabling m port at side)))

  stops_never : (kind : _) (port : ℕ) (after : CellState) → Stops kind port ≡ Next after → ⊥
  stops_never kind port after e = cc

  after_is : (r : Result CellState ℕ) (after : CellState) → after_edge r ≡ Next after → r ≡ Ok after
  after_is (Ok state2) after e = cc
  after_is (Err port) after e = absurd (cc)

  by_data : (first : Inputs) → Enabling first → (g : Gathered) → gather (λ q. look (ports.Cell c q)) (looks_at row state first) 0 row.ports ≡ g → (after : CellState) → after_data row state g ≡ Next after → row.next state Whole ≡ after
  by_data first e (Given inputs) f after h = edge_next (row.out_of_range Whole) (row.next state Whole) after (sym (same_edge first e inputs f) ∙ after_is (edge row state inputs) after h)
  by_data first e (Lacks p x) f after h = absurd (stops_never _ p after h)

  by_enabling : (g : Gathered) → gather (λ q. look (ports.Cell c q)) (enables row) 0 row.ports ≡ g → (after : CellState) → after_enabling (λ p. look (ports.Cell c p)) row state g ≡ Next after → row.next state Whole ≡ after
  by_enabling (Given first) e after h = by_data first e (gather (λ q. look (ports.Cell c q)) (looks_at row state first) 0 row.ports) refl after h
  by_enabling (Lacks p x) e after h = absurd (stops_never _ p after h)

  pub cell_step : (after : CellState) → cell_outcome look c row state ≡ Next after → row.next state Whole ≡ after
  cell_step after h = by_enabling (gather (λ q. look (ports.Cell c q)) (enables row) 0 row.ports) refl after h

-- AN IDLE STEP, where no enabling port is 1
pub quiet_step : (v : Values) (c : ℕ) (row : Row) (state : CellState) → IsLawful row → ((p : ℕ) → side_of row p ≡ sides.Enable → (v (ports.Cell c p)).value ≡ 0) → row.next state (given v c 0 row.ports) ≡ row.idle state
quiet_step v c row state lawful low = edge_next (row.out_of_range (given v c 0 row.ports)) (row.next state (given v c 0 row.ports)) (row.idle state) (lawful.quiet_is_idle state (given v c 0 row.ports) quiet)
  where
    quiet : IsQuiet row (given v c 0 row.ports)
    quiet n port there side = ap number_of (given_at v c row.ports 0 n port there) ∙ zero_there
      where
        zero_there : (v (ports.Cell c (0 + n))).value ≡ 0
        zero_there = let k : n ≡ 0 + n = omega arith in subst (λ j. (v (ports.Cell c j)).value ≡ 0) k (low n (side_at row.ports n port there ∙ side))

module _ (i : Instance) (go : Active) (s : State) (around : Around) (v : Values) (solves : Solves i go s around v) (c : ℕ) (row : Row) (at : cell_at (cells_of i) c ≡ OfRow row) (lawful : IsLawful row)
    (undriven : IsUndriven (part_of i) go c) (bare : (o : Owned) (p : ℕ) → In (source_order (part_of i)) o → o.owner ≡ None → o.assign.target ≡ ports.Cell c p → side_of row p ≡ sides.Enable → ⊥) where
  no_driver : (p : ℕ) → side_of row p ≡ sides.Enable → drivers (part_of i) go (ports.Cell c p) ≡ []
  no_driver p side = acting_none go (ports.Cell c p) (source_order (part_of i)) (λ o stands target. by o stands target (owner_of (part_of i) o stands))
    where
      by : (o : Owned) → In (source_order (part_of i)) o → o.assign.target ≡ ports.Cell c p → OwnerOf (part_of i) o → offset_of go o.owner ≡ None
      by o stands target (continuous owner there) = absurd (bare o p stands owner target side)
      by o stands target (of_group g owner there) = ap (offset_of go) owner ∙ undriven g (assigns_drive_in (group_at (part_of i) g).assigns o.assign c p there target)

  enable_zero : (p : ℕ) → side_of row p ≡ sides.Enable → (v (ports.Cell c p)).value ≡ 0
  enable_zero p side =
      ap (λ (b : BitVector). b.value)
      (solves (ports.Cell c p) ∙ ap (cell_flow i go s around v c p) at ∙ ap (side_flow i go s around v row c p) side
      ∙ ap (first_on v (zero_of (width_of i (ports.Cell c p)))) (no_driver p side))

  pub idle_step : row.next (s (c ∷ [])) (given v c 0 row.ports) ≡ row.idle (s (c ∷ []))
  idle_step = quiet_step v c row (s (c ∷ [])) lawful enable_zero
