-- The cells of the asked instance: their ports have nodes, they are few, and they hold states of their rows.
use Rattle.std.proofs.Common.{◌≡◌, ℕ, zero, suc, ◌<◌, ◌^◌, List, [], ◌∷◌, Option, Some, None, get_or, length, sym, ap, ◌∙◌, subst, arith}
use Rattle.std.specs.Prelude.{option_map, slice_get, if◌then◌else◌}
use Rattle.cx_bits.specs.BitVector.{BitVector}
use Rattle.cx_prim.specs.CellStates.{CellState, IsState}
use Rattle.cx_prim.specs.Table.{PrimitiveRow, row_of}
use Rattle.cx_prim.specs.declared.ports.PortRow.{PortRow}
use Rattle.cx_meaning.specs.declared.ports.PortRef.{PortRef}
use Rattle.cx_meaning.specs.declared.ports.PortRef.TheVariants.{Cell}
use Rattle.cx_meaning.specs.Designs.{PlainKind, OfPrimitive, OfComponent, PlainCell, PlainComponent, PlainDesign, component_at, no_component}
use Rattle.cx_meaning.specs.Instances.{Instance, Cells, OfRow, add_cell, cell_at, cells_for, cells_of, instance_at, part_of, paths_of, tree_of, tree_within}
use Rattle.cx_meaning.specs.Sights.{seen, unheld}
use Rattle.cx_meaning.proofs.InstancesLemmas.{kind_skip}
use Rattle.cx_rules.specs.Ports.{cell_width, component_of, width_of}
use Rattle.cx_rules.specs.Sizes.{sizes_of}
use Rattle.cx_rules.specs.Wellformed.{IsThere, port_count}
use Rattle.cx_design.specs.PlainDesigns.{plain_design}
use Rattle.cx_state.specs.declared.tables.InstanceRow.{InstanceRow}
use Rattle.cx_state.specs.Tables.{row_at}
use Rattle.cx_state.specs.States.{HoldCells, HoldsKind, inputs_held, plain_state, under_path}
use Rattle.cx_state.specs.ReadStates.{state_in}
use Rattle.cx_eval_network.specs.Nodes.{part_at}
use Rattle.cx_eval_network.specs.Networks.{active_at, instance_of, path_at}
use Rattle.cx_eval_network.proofs.NetworkLemmas.{number_at, same_instance}
use Rattle.cx_eval_network.specs.declared.asking.Asking.{Asking}
use Rattle.cx_eval_network.specs.Askings.{IsAsking, asked_of}
use Rattle.cx_eval_cycle.specs.Passes.{cell_held, kind_at}
use Rattle.cx_eval.specs.Evaluated.{IsPort}
use Rattle.cx_eval.specs.Looked.{own_cells, own_held, seen_look}
use Rattle.cx_text.proofs.NumberLaws.{equal}
use Rattle.cx_prim.proofs.PortsLemmas.{port_below}
use Rattle.cx_state.proofs.StatesLemmas.{held_long}
use Rattle.cx_text.proofs.OptionLaws.{same_width}
use Rattle.cx_rules.proofs.PortsLemmas.{part_is}
use Rattle.std.proofs.lemmas.Option.{get_or_from_slice_get}

-- what stands at a cell
module _ (child : ℕ → Instance) where
  first_row : (kind : PlainKind) (rest : Cells) (p : PrimitiveRow) → Some kind ≡ Some (OfPrimitive p) → cell_at (add_cell child kind rest) zero ≡ OfRow (row_of p)
  first_row (OfPrimitive q) rest p e = let same : q ≡ p = cc in ap (λ r. OfRow (row_of r)) same
  first_row (OfComponent k) rest p e = absurd (cc)

  row_stands : (cells : List PlainCell) (c : ℕ) (p : PrimitiveRow) → kind_at cells c ≡ Some (OfPrimitive p) → cell_at (cells_for child cells) c ≡ OfRow (row_of p)
  row_stands [] c p e = absurd (cc)
  row_stands (cell ∷ cells) zero p e = first_row cell.kind (cells_for child cells) p e
  row_stands (cell ∷ cells) (suc c) p e = kind_skip child cell.kind (cells_for child cells) c ∙ row_stands cells c p e

own_row : (d : PlainDesign) (k c : ℕ) (p : PrimitiveRow) → k < length d.components → kind_at (component_at d k).cells c ≡ Some (OfPrimitive p) → cell_at (cells_of (component_of d k)) c ≡ OfRow (row_of p)
own_row d k c p lt e = choice (length d.components) lt
  where
    choice : (n : ℕ) → k < n → cell_at (cells_of (tree_within d n k)) c ≡ OfRow (row_of p)
    choice zero h = absurd (omega (arith, h))
    choice (suc n) h = row_stands (tree_within d n) (component_at d k).cells c p e

pub kind_below : (cells : List PlainCell) (c : ℕ) (kind : PlainKind) → kind_at cells c ≡ Some kind → c < length cells
kind_below [] c kind e = absurd (cc)
kind_below (cell ∷ cells) zero kind e = omega arith
kind_below (cell ∷ cells) (suc c) kind e = let lt = kind_below cells c kind e in omega (arith, lt)

few_cells : (parts : List PlainComponent) (k : ℕ) → k < length parts → length (get_or parts k no_component).cells < sizes_of parts
few_cells [] k lt = absurd (omega (arith, lt))
few_cells (part ∷ parts) zero lt = omega arith
few_cells (part ∷ parts) (suc k) lt = let few = few_cells parts k (omega (arith, lt)) in omega (arith, few)

-- what cells hold
kind_fits : (kind : PlainKind) (x : Option CellState) → HoldsKind kind x → (p : PrimitiveRow) (held : CellState) → Some kind ≡ Some (OfPrimitive p) → x ≡ Some held → IsState (row_of p).shape held
kind_fits (OfPrimitive q) None h p held e f = absurd h
kind_fits (OfPrimitive q) (Some y) h p held e f =
    let row : q ≡ p = cc in
    let same : y ≡ held = cc in
    subst (λ r. IsState (row_of r).shape held) row (subst (IsState (row_of q).shape) same h)
kind_fits (OfComponent k) x h p held e f = absurd (cc)

held_fits : (cells : List PlainCell) (xs : List (Option CellState)) → HoldCells cells xs → (c : ℕ) (p : PrimitiveRow) (held : CellState) → kind_at cells c ≡ Some (OfPrimitive p) → cell_held xs c ≡ Some held → IsState (row_of p).shape held
held_fits [] xs h c p held e f = absurd (cc)
held_fits (cell ∷ cells) [] h c p held e f = absurd h
held_fits (cell ∷ cells) (x ∷ xs) h zero p held e f = kind_fits cell.kind x h.0 p held e f
held_fits (cell ∷ cells) (x ∷ xs) h (suc c) p held e f = held_fits cells xs h.1 c p held e f

-- the inputs of the asked instance are held
pub seen_is : (a : Asking) (q : PortRef)
    → seen_look a q
    ≡ seen (instance_of (asked_of a) a.instance) (inputs_held (plain_state a.state.now) a.instance) (active_at (asked_of a) a.instance) (under_path (path_at (plain_design a.design.now) a.instance) (state_in (tree_of (plain_design a.design.now)) (plain_state a.state.now))) q
seen_is a q =
    let n = a.instance in
    ap (λ b. seen (instance_of (asked_of a) n) (if b then inputs_held (plain_state a.state.now) n else unheld) (active_at (asked_of a) n) (under_path (path_at (plain_design a.design.now) n) (state_in (tree_of (plain_design a.design.now)) (plain_state a.state.now))) q)
    (equal n)

module _ (a : Asking) (can : IsAsking a) where
  abbrev pub design : PlainDesign
  design = plain_design a.design.now

  abbrev pub rows : List InstanceRow
  rows = a.table.now.rows.items

  abbrev pub own : ℕ
  own = (row_at rows a.instance).component

  pub component_there : own < length design.components
  component_there = can.can.network.table.there a.instance can.can.within

  pub row_there : (c : ℕ) (p : PrimitiveRow) → kind_at (own_cells a) c ≡ Some (OfPrimitive p) → cell_at (cells_of (part_at design rows a.instance)) c ≡ OfRow (row_of p)
  row_there c p e = own_row design own c p component_there e

  pub port_there : (c n : ℕ) (p : PrimitiveRow) → kind_at (own_cells a) c ≡ Some (OfPrimitive p) → n < length (row_of p).ports → IsThere (part_at design rows a.instance) (Cell c n)
  port_there c n p e lt = (
    subst (λ (part : PlainComponent). c < length part.cells) (sym (part_is design own)) (kind_below (own_cells a) c (OfPrimitive p) e),
    subst (λ at. n < port_count at) (sym (row_there c p e)) lt,
  )

  pub few_own : length (own_cells a) < 2 ^ 32
  few_own =
      let few = can.can.network.design.few_parts in
      let here = few_cells design.components own component_there in
      omega (arith, few, here)

  pub own_instance : instance_of (asked_of a) a.instance ≡ part_at design rows a.instance
  own_instance = same_instance (asked_of a) a.nodes.now can.can.network a.instance can.can.within

  own_part : part_of (instance_of (asked_of a) a.instance) ≡ component_at design own
  own_part = ap part_of own_instance ∙ part_is design own

  own_holds : HoldCells (own_cells a) (own_held a)
  own_holds =
      subst (λ (part : PlainComponent). HoldCells part.cells (own_held a)) own_part
      (can.can.fits.fits a.instance (path_at design a.instance) (number_at (asked_of a) a.nodes.now can.can.network a.instance can.can.within)).cells

  pub own_state : (c : ℕ) (p : PrimitiveRow) (held : CellState) → kind_at (own_cells a) c ≡ Some (OfPrimitive p) → cell_held (own_held a) c ≡ Some held → IsState (row_of p).shape held
  own_state c p held e f = held_fits (own_cells a) (own_held a) own_holds c p held e f

  pub own_long : length (own_held a) ≡ length (own_cells a)
  own_long = held_long (own_cells a) (own_held a) own_holds

  pub own_there : (c n : ℕ) (p : PrimitiveRow) (port : PortRow) → kind_at (own_cells a) c ≡ Some (OfPrimitive p) → slice_get (row_of p).ports n ≡ Some port → IsThere (instance_of (asked_of a) a.instance) (Cell c n)
  own_there c n p port e at = subst (λ i. IsThere i (Cell c n)) (sym own_instance) (port_there c n p e (port_below (row_of p).ports n port at))

  pub own_wide : (c n : ℕ) (p : PrimitiveRow) (port : PortRow) (b : BitVector) → kind_at (own_cells a) c ≡ Some (OfPrimitive p) → slice_get (row_of p).ports n ≡ Some port
      → width_of (instance_of (asked_of a) a.instance) (Cell c n) ≡ Some b.width → b.width ≡ port.width
  own_wide c n p port b e at width =
      let stands : cell_at (cells_of (instance_of (asked_of a) a.instance)) c ≡ OfRow (row_of p) = ap (λ i. cell_at (cells_of i) c) own_instance ∙ row_there c p e in
      same_width (ap (option_map (λ (x : PortRow). x.width)) (sym at) ∙ ap (λ z. cell_width z n) (sym stands) ∙ width)

  -- each port of a primitive is one that can be asked for
  pub own_port : (c n : ℕ) (p : PrimitiveRow) → kind_at (own_cells a) c ≡ Some (OfPrimitive p) → n < length (row_of p).ports → IsPort design a.instance (Cell c n)
  own_port c n p e lt path number =
      let at : path ≡ path_at design a.instance = sym (get_or_from_slice_get (paths_of (tree_of design)) a.instance path [] number) in
      (subst (λ i. IsThere i (Cell c n)) (sym own_instance ∙ ap (instance_at (tree_of design)) (sym at)) (port_there c n p e lt), tt)
