-- The drivers of a target, and the cells of a component in the tree of a net.
use Rattle.std.proofs.Common.{◌≡◌, ℕ, zero, suc, ◌==◌, Bool, true, false, List, [], ◌∷◌, Some, option_and_then, option_map, slice_get, refl, ap, ◌∙◌, if◌then◌else◌}
use Rattle.std.proofs.lemmas.Bool.{eqb-true}
use Rattle.cx_prim.specs.declared.ports.PortRow.{PortRow}
use Rattle.cx_prim.specs.Table.{PrimitiveRow, row_of}
use Rattle.cx_meaning.specs.declared.ports.PortRef.TheVariants as ports
use Rattle.cx_meaning.specs.Designs.{PlainKind, OfPrimitive, OfComponent, PlainCell}
use Rattle.cx_meaning.specs.Instances.{Path}
use Rattle.cx_net.specs.Nets.{PlainNetTarget, ToPort, ToRegister, ToWire, ToHole, ToDone, PlainNetDriver, PlainNetComponent, PlainNet}
use Rattle.cx_net.specs.NetTree.{NetInstance, NetCells, no_net_cells, NetAt, ARow, AChild, net_part, net_cell_at, net_component_at, add_net_cell, net_cells_for, net_within}
use Rattle.cx_net.specs.NetMeaning.{NetState, Node, NetLook, NetAround, same_target, drivers_to, net_step, child_step, is_node, is_node_below}
use Rattle.cx_net.specs.NetEdges.{register_after, register_below, cell_below}
use Rattle.cx_net.specs.NetRuns.{net_start_below}
use Rattle.cx_prim.specs.CellStates.{CellState}
use Rattle.cx_net.specs.NetFits.{signature_widths, kind_width, port_width, HasWidth, target_width, IsFitDriver}

-- drivers of a target of this width
abbrev pub AreFitDrivers : PlainNet → PlainNetComponent → ℕ → List PlainNetDriver → Type 0
AreFitDrivers net part w [] = Unit {0}
AreFitDrivers net part w (d ∷ ds) = HasWidth net part d.guard 1 × HasWidth net part d.source w × AreFitDrivers net part w ds

both_tests : (a b : Bool) → (if a then b else false) ≡ true → (a ≡ true) × (b ≡ true)
both_tests true b e = (refl, e)
both_tests false b e = absurd (cc)

target_is : (a b : PlainNetTarget) → same_target a b ≡ true → a ≡ b
target_is (ToPort (ports.Cell c p)) (ToPort (ports.Cell d q)) e =
    let (first, second) = both_tests (c == d) (p == q) e in
    ap (λ x. ToPort (ports.Cell x p)) (eqb-true c d first) ∙ ap (λ y. ToPort (ports.Cell d y)) (eqb-true p q second)
target_is (ToPort (ports.Output n)) (ToPort (ports.Output m)) e = ap (λ x. ToPort (ports.Output x)) (eqb-true n m e)
target_is (ToRegister n) (ToRegister m) e = ap ToRegister (eqb-true n m e)
target_is (ToWire n) (ToWire m) e = ap ToWire (eqb-true n m e)
target_is (ToHole n) (ToHole m) e = ap ToHole (eqb-true n m e)
target_is ToDone ToDone e = refl
target_is a b e = absurd (cc)

-- the drivers of a target that is there are as wide as it
pub drivers_fit : (net : PlainNet) (part : PlainNetComponent) (t : PlainNetTarget) (w : ℕ) → target_width net part t ≡ Some w → (ds : List PlainNetDriver)
    → ((n : ℕ) (d : PlainNetDriver) → slice_get ds n ≡ Some d → IsFitDriver net part d) → AreFitDrivers net part w (drivers_to t ds)
drivers_fit net part t w wide [] fits = tt
drivers_fit net part t w wide (d ∷ ds) fits = go (same_target d.target t) refl (drivers_fit net part t w wide ds (λ n x e. fits (suc n) x e)) where
  go : (b : Bool) → same_target d.target t ≡ b → AreFitDrivers net part w (drivers_to t ds) → AreFitDrivers net part w (if b then d ∷ drivers_to t ds else drivers_to t ds)
  go false is rest = rest
  go true is rest =
      let own = fits 0 d refl in
      (own.guard, own.source w (ap (target_width net part) (target_is d.target t is) ∙ wide), rest)

-- the width of a port of a primitive cell
pub primitive_width : (net : PlainNet) (part : PlainNetComponent) (c : ℕ) (cell : PlainCell) (p : PrimitiveRow) (n : ℕ) (port : PortRow) → slice_get part.cells c ≡ Some cell → cell.kind ≡ OfPrimitive p
    → slice_get (row_of p).ports n ≡ Some port → port_width net part (ports.Cell c n) ≡ Some port.width
primitive_width net part c cell p n port there is at =
    ap (option_and_then (λ (x : PlainCell). kind_width net x.kind n)) there ∙ ap (λ kind. kind_width net kind n) is ∙ ap (option_map (λ (x : PortRow). x.width)) at

-- and of one of a component
pub component_width : (net : PlainNet) (part : PlainNetComponent) (c : ℕ) (cell : PlainCell) (child p w : ℕ) → slice_get part.cells c ≡ Some cell → cell.kind ≡ OfComponent child
    → slice_get (signature_widths (net_component_at net child)) p ≡ Some w → port_width net part (ports.Cell c p) ≡ Some w
component_width net part c cell child p w there is at = ap (option_and_then (λ (x : PlainCell). kind_width net x.kind p)) there ∙ ap (λ kind. kind_width net kind p) is ∙ at

-- the component of an instance
pub part-within : (net : PlainNet) (levels k : ℕ) → net_part (net_within net levels k) ≡ net_component_at net k
part-within net zero k = refl
part-within net (suc levels) k = refl

-- what stands at a cell
abbrev pub at_kind : (ℕ → NetInstance) → PlainKind → NetAt
at_kind child (OfPrimitive p) = ARow (row_of p)
at_kind child (OfComponent h) = AChild (child h)

module _ (child : ℕ → NetInstance) where
  first-at : (kind : PlainKind) (rest : NetCells) → net_cell_at (add_net_cell child kind rest) zero ≡ at_kind child kind
  first-at (OfPrimitive p) rest = refl
  first-at (OfComponent h) rest = refl

  next-at : (kind : PlainKind) (rest : NetCells) (c : ℕ) → net_cell_at (add_net_cell child kind rest) (suc c) ≡ net_cell_at rest c
  next-at (OfPrimitive p) rest c = refl
  next-at (OfComponent h) rest c = refl

  pub cell-at : (cells : List PlainCell) (c : ℕ) (cell : PlainCell) → slice_get cells c ≡ Some cell → net_cell_at (net_cells_for child cells) c ≡ at_kind child cell.kind
  cell-at [] c cell e = absurd (cc)
  cell-at (x ∷ cells) zero cell e = let same : x ≡ cell = cc in first-at x.kind (net_cells_for child cells) ∙ ap (λ (y : PlainCell). at_kind child y.kind) same
  cell-at (x ∷ cells) (suc c) cell e = next-at x.kind (net_cells_for child cells) c ∙ cell-at cells c cell e

  -- what is there behind a cell of a component
  module _ (path : Path) where
    next-there : (kind : PlainKind) (rest : NetCells) (c : ℕ) (node : Node) → is_node_below (add_net_cell child kind rest) (suc c) path node ≡ is_node_below rest c path node
    next-there (OfPrimitive p) rest c node = refl
    next-there (OfComponent h) rest c node = refl

    pub there-at : (cells : List PlainCell) (c : ℕ) (cell : PlainCell) (h : ℕ) → slice_get cells c ≡ Some cell → cell.kind ≡ OfComponent h → (node : Node)
        → is_node_below (net_cells_for child cells) c path node ≡ is_node (child h) path node
    there-at [] c cell h e is node = absurd (cc)
    there-at (x ∷ cells) zero cell h e is node =
        let same : x ≡ cell = cc in ap (λ kind. is_node_below (add_net_cell child kind (net_cells_for child cells)) zero path node) (ap (λ (y : PlainCell). y.kind) same ∙ is)
    there-at (x ∷ cells) (suc c) cell h e is node = next-there x.kind (net_cells_for child cells) c node ∙ there-at cells c cell h e is node

  -- what happens at a cell of a component
  module _ (around : NetAround) (s : NetState) (look : NetLook) (path : Path) where
    next-step : (kind : PlainKind) (rest : NetCells) (c : ℕ) (node : Node) → child_step (add_net_cell child kind rest) (suc c) around s look path node ≡ child_step rest c around s look path node
    next-step (OfPrimitive p) rest c node = refl
    next-step (OfComponent h) rest c node = refl

    pub step-at : (cells : List PlainCell) (c : ℕ) (cell : PlainCell) (h : ℕ) → slice_get cells c ≡ Some cell → cell.kind ≡ OfComponent h → (node : Node)
        → child_step (net_cells_for child cells) c around s look path node ≡ net_step (child h) around s look path node
    step-at [] c cell h e is node = absurd (cc)
    step-at (x ∷ cells) zero cell h e is node =
        let same : x ≡ cell = cc in
        ap (λ kind. child_step (add_net_cell child kind (net_cells_for child cells)) zero around s look path node) (ap (λ (y : PlainCell). y.kind) same ∙ is)
    step-at (x ∷ cells) (suc c) cell h e is node = next-step x.kind (net_cells_for child cells) c node ∙ step-at cells c cell h e is node

    next-register : (kind : PlainKind) (rest : NetCells) (c n : ℕ) → register_below (add_net_cell child kind rest) (suc c) around s look path n ≡ register_below rest c around s look path n
    next-register (OfPrimitive p) rest c n = refl
    next-register (OfComponent h) rest c n = refl

    pub register-at : (cells : List PlainCell) (c : ℕ) (cell : PlainCell) (h : ℕ) → slice_get cells c ≡ Some cell → cell.kind ≡ OfComponent h → (n : ℕ)
        → register_below (net_cells_for child cells) c around s look path n ≡ register_after (child h) around s look path n
    register-at [] c cell h e is n = absurd (cc)
    register-at (x ∷ cells) zero cell h e is n =
        let same : x ≡ cell = cc in
        ap (λ kind. register_below (add_net_cell child kind (net_cells_for child cells)) zero around s look path n) (ap (λ (y : PlainCell). y.kind) same ∙ is)
    register-at (x ∷ cells) (suc c) cell h e is n = next-register x.kind (net_cells_for child cells) c n ∙ register-at cells c cell h e is n

  next-start : (kind : PlainKind) (rest : NetCells) (c : ℕ) (path : Path) → net_start_below (add_net_cell child kind rest) (suc c) path ≡ net_start_below rest c path
  next-start (OfPrimitive p) rest c path = refl
  next-start (OfComponent h) rest c path = refl

  -- the start of a cell of this kind
  pub start-at : (kind : PlainKind) (cells : List PlainCell) (c : ℕ) (cell : PlainCell) (path : Path) → slice_get cells c ≡ Some cell → cell.kind ≡ kind
      → net_start_below (net_cells_for child cells) c path ≡ net_start_below (add_net_cell child kind no_net_cells) 0 path
  start-at kind [] c cell path e is = absurd (cc)
  start-at kind (x ∷ cells) zero cell path e is =
      let same : x ≡ cell = cc in
      ap (λ y. net_start_below (add_net_cell child y (net_cells_for child cells)) zero path) (ap (λ (y : PlainCell). y.kind) same ∙ is) ∙ alone kind (net_cells_for child cells)
    where
      alone : (y : PlainKind) (rest : NetCells) → net_start_below (add_net_cell child y rest) zero path ≡ net_start_below (add_net_cell child y no_net_cells) 0 path
      alone (OfPrimitive p) rest = refl
      alone (OfComponent h) rest = refl
  start-at kind (x ∷ cells) (suc c) cell path e is = next-start x.kind (net_cells_for child cells) c path ∙ start-at kind cells c cell path e is

  module _ (with_reset : Bool) (look : NetLook) (d : CellState) where
    next-state : (kind : PlainKind) (rest : NetCells) (at c : ℕ) (path : Path) → cell_below with_reset (add_net_cell child kind rest) (suc at) c look path d ≡ cell_below with_reset rest at c look path d
    next-state (OfPrimitive p) rest at c path = refl
    next-state (OfComponent h) rest at c path = refl

    -- at a cell of this kind
    pub state-at : (kind : PlainKind) (cells : List PlainCell) (at c : ℕ) (cell : PlainCell) (path : Path) → slice_get cells at ≡ Some cell → cell.kind ≡ kind
        → cell_below with_reset (net_cells_for child cells) at c look path d ≡ cell_below with_reset (add_net_cell child kind no_net_cells) 0 c look path d
    state-at kind [] at c cell path e is = absurd (cc)
    state-at kind (x ∷ cells) zero c cell path e is =
        let same : x ≡ cell = cc in
        ap (λ y. cell_below with_reset (add_net_cell child y (net_cells_for child cells)) zero c look path d) (ap (λ (y : PlainCell). y.kind) same ∙ is) ∙ alone kind (net_cells_for child cells) path
      where
        alone : (y : PlainKind) (rest : NetCells) (q : Path) → cell_below with_reset (add_net_cell child y rest) zero c look q d ≡ cell_below with_reset (add_net_cell child y no_net_cells) 0 c look q d
        alone (OfPrimitive p) rest [] = refl
        alone (OfPrimitive p) rest (f ∷ q) = refl
        alone (OfComponent h) rest q = refl
    state-at kind (x ∷ cells) (suc at) c cell path e is = next-state x.kind (net_cells_for child cells) at c path ∙ state-at kind cells at c cell path e is
