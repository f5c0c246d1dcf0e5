-- An idle edge of a node, from its own numbers, the primitives at its cells, and the laws of the children, whose go is 0.
use Rattle.std.proofs.Common.{◌≡◌, ℕ, zero, suc, true, false, inl, List, [], ◌∷◌, refl, ap, ◌∙◌}
use Rattle.std.proofs.Math.Path.{fun_ext}
use Rattle.cx_prim.specs.CellStates.{CellState}
use Rattle.cx_prim.specs.Rows.{Row}
use Rattle.cx_meaning.specs.Designs.{PlainComponent}
use Rattle.cx_meaning.specs.Instances as instances
use Rattle.cx_meaning.specs.Instances.{Instance, Cells, no_cells, a_primitive, an_instance, Nothing, OfRow, OfInstance, cell_at, Path, idle_at, idle_below}
use Rattle.cx_control.specs.Numbers.{number_idle, number_idle_at, number_idle_below}
use Rattle.cx_net.specs.Nets.{PlainNetComponent}
use Rattle.cx_net.specs.NetTree.{NetInstance, AChild, net_cell_at, NetCells, no_net_cells, a_row, a_child}
use Rattle.cx_net.specs.NetMeaning.{NetState, below_cell, NetLook, NetAround, around_child}
use Rattle.cx_net.specs.NetEdges.{cell_after, cell_below, inputs_from}
use Rattle.cx_wiring.specs.PartNets.{net_of_instance, net_of_cells}
use Rattle.cx_wiring_runs.specs.Blocks.{block, block_below, numbers_at, numbers_below, child_cell_after, has_cell, has_cell_below, Solves, HasGo, IsIdle, Idles, BlockLaws, after_edge}
use Rattle.cx_wiring_runs.proofs.ChildLooks.{child_solves}
use Rattle.cx_wiring_runs.proofs.PortsKnown.{child_stands}

module _ (wired : PlainComponent → PlainNetComponent) (timers : PlainComponent → List Row) (numbers : Instance → NetState → ℕ → ℕ) where
  pub cell_of_child : (cells : NetCells) (at c : ℕ) (child : NetInstance) → net_cell_at cells at ≡ AChild child → (look : NetLook) (path : Path) (d : CellState)
      → cell_below false cells at c look path d ≡ child_cell_after wired timers numbers cells at (λ q. look (c ∷ q)) path d
  cell_of_child no_net_cells at c child is look path d = absurd cc
  cell_of_child (a_row row rest) zero c child is look path d = absurd cc
  cell_of_child (a_row row rest) (suc at) c child is look path d = cell_of_child rest at c child is look path d
  cell_of_child (a_child kid rest) zero c child is look path d = refl
  cell_of_child (a_child kid rest) (suc at) c child is look path d = cell_of_child rest at c child is look path d

  -- where no child is, there are no numbers
  below_numbers : (cells : Cells) (c : ℕ) (after before : NetState) (path : Path) (n : ℕ)
      → ((child : Instance) → cell_at cells c ≡ OfInstance child → numbers_below wired timers numbers cells c after path n ≡ number_idle_below cells c path n (numbers_below wired timers numbers cells c before path n))
      → numbers_below wired timers numbers cells c after path n ≡ number_idle_below cells c path n (numbers_below wired timers numbers cells c before path n)
  below_numbers no_cells c after before path n h = refl
  below_numbers (a_primitive row rest) zero after before path n h = refl
  below_numbers (a_primitive row rest) (suc c) after before path n h = below_numbers rest c after before path n h
  below_numbers (an_instance child rest) zero after before path n h = h child refl
  below_numbers (an_instance child rest) (suc c) after before path n h = below_numbers rest c after before path n h

  -- a cell of the design is a primitive's own or a child's
  below_cells : (cells : Cells) (more : List Row) (at c : ℕ) (look : NetLook) (path : Path) (d : CellState) → has_cell_below cells at path ≡ true
      → ((row : Row) → cell_at cells at ≡ OfRow row → path ≡ [] → row.next d (inputs_from look c 0 row.ports) ≡ row.idle d)
      → ((child : Instance) → cell_at cells at ≡ OfInstance child → cell_below false (net_of_cells wired timers numbers cells more) at c look path d ≡ idle_below cells at path d)
      → cell_below false (net_of_cells wired timers numbers cells more) at c look path d ≡ idle_below cells at path d
  below_cells no_cells more at c look path d there row_idles child_idles = absurd cc
  below_cells (a_primitive row rest) more zero c look [] d there row_idles child_idles = row_idles row refl refl
  below_cells (a_primitive row rest) more zero c look (e ∷ path) d there row_idles child_idles = absurd cc
  below_cells (a_primitive row rest) more (suc at) c look path d there row_idles child_idles = below_cells rest more at c look path d there row_idles child_idles
  below_cells (an_instance child rest) more zero c look path d there row_idles child_idles = child_idles child refl
  below_cells (an_instance child rest) more (suc at) c look path d there row_idles child_idles = below_cells rest more at c look path d there row_idles child_idles

  module _ (part : PlainComponent) (cells : Cells) where
    -- what is owed of one idle edge
    pub record OwesIdle (v : NetState) (around : NetAround) (look : NetLook) : Type 0 where
      pub own : (n : ℕ) → numbers (instances.Node part cells) (after_edge (block wired timers numbers (instances.Node part cells)) around v look) n ≡ number_idle (instances.Node part cells) n (numbers (instances.Node part cells) v n)
      pub rows : (c : ℕ) (row : Row) → cell_at cells c ≡ OfRow row → row.next (v.cell (c ∷ [])) (inputs_from look c 0 row.ports) ≡ row.idle (v.cell (c ∷ []))
      pub no_go : (c : ℕ) (child : Instance) → cell_at cells c ≡ OfInstance child → HasGo (block_below wired timers numbers cells (timers part) c) (around_child c (look [])) false

    module _ (children : (c : ℕ) (child : Instance) → cell_at cells c ≡ OfInstance child → BlockLaws (block_below wired timers numbers cells (timers part) c))
        (owes : (v : NetState) (around : NetAround) (look : NetLook) → IsIdle (block wired timers numbers (instances.Node part cells)) around v → Solves (block wired timers numbers (instances.Node part cells)) around v look → OwesIdle v around look) where
      child_cells : (v : NetState) (around : NetAround) (look : NetLook) → OwesIdle v around look → Solves (block wired timers numbers (instances.Node part cells)) around v look → (c : ℕ) (child : Instance) → cell_at cells c ≡ OfInstance child
          → (path : Path) → has_cell_below cells c path ≡ true → cell_below false (net_of_cells wired timers numbers cells (timers part)) c c look path (v.cell (c ∷ path)) ≡ idle_below cells c path (v.cell (c ∷ path))
      child_cells v around look o solves c child is path there =
          cell_of_child (net_of_cells wired timers numbers cells (timers part)) c c (net_of_instance wired timers numbers child) (child_stands wired timers numbers cells (timers part) c child is) look path (v.cell (c ∷ path))
          ∙ (children c child is).idles.cells (below_cell c v) (around_child c (look [])) (λ q. look (c ∷ q)) (inl (o.no_go c child is)) (child_solves wired timers numbers part cells around v look solves c child is) path there

      child_numbers : (v : NetState) (around : NetAround) (look : NetLook) → OwesIdle v around look → Solves (block wired timers numbers (instances.Node part cells)) around v look → (c : ℕ) (child : Instance) → cell_at cells c ≡ OfInstance child
          → (path : Path) (n : ℕ) → numbers_below wired timers numbers cells c (below_cell c (after_edge (block wired timers numbers (instances.Node part cells)) around v look)) path n
          ≡ number_idle_below cells c path n (numbers_below wired timers numbers cells c (below_cell c v) path n)
      child_numbers v around look o solves c child is path n =
          let same_cells = fun_ext (λ q. cell_of_child (net_of_cells wired timers numbers cells (timers part)) c c (net_of_instance wired timers numbers child) (child_stands wired timers numbers cells (timers part) c child is) look q (v.cell (c ∷ q))) in
          ap (λ f. numbers_below wired timers numbers cells c (record { cell = f; register = NetState.register (below_cell c (after_edge (block wired timers numbers (instances.Node part cells)) around v look)) }) path n) same_cells
          ∙ (children c child is).idles.numbers (below_cell c v) (around_child c (look [])) (λ q. look (c ∷ q)) (inl (o.no_go c child is)) (child_solves wired timers numbers part cells around v look solves c child is) path n

      -- THE IDLE EDGE of a node
      pub node_idles : Idles (block wired timers numbers (instances.Node part cells))
      node_idles = record { cells = of_cells; numbers = of_numbers }
        where
          of_cells : (v : NetState) (around : NetAround) (look : NetLook) → IsIdle (block wired timers numbers (instances.Node part cells)) around v → Solves (block wired timers numbers (instances.Node part cells)) around v look
              → (path : Path) → has_cell (instances.Node part cells) path ≡ true → cell_after false (net_of_instance wired timers numbers (instances.Node part cells)) look path (v.cell path) ≡ idle_at (instances.Node part cells) path (v.cell path)
          of_cells v around look idle solves [] there = absurd cc
          of_cells v around look idle solves (c ∷ path) there =
              let o = owes v around look idle solves in
              below_cells cells (timers part) c c look path (v.cell (c ∷ path)) there (λ row is nil. at_row o c row is path nil) (λ child is. child_cells v around look o solves c child is path there)
            where
              at_row : OwesIdle v around look → (c : ℕ) (row : Row) → cell_at cells c ≡ OfRow row → (path : Path) → path ≡ [] → row.next (v.cell (c ∷ path)) (inputs_from look c 0 row.ports) ≡ row.idle (v.cell (c ∷ path))
              at_row o c row is [] nil = o.rows c row is
              at_row o c row is (e ∷ path) nil = absurd cc

          of_numbers : (v : NetState) (around : NetAround) (look : NetLook) → IsIdle (block wired timers numbers (instances.Node part cells)) around v → Solves (block wired timers numbers (instances.Node part cells)) around v look
              → (path : Path) (n : ℕ) → numbers_at wired timers numbers (instances.Node part cells) (after_edge (block wired timers numbers (instances.Node part cells)) around v look) path n
              ≡ number_idle_at (instances.Node part cells) path n (numbers_at wired timers numbers (instances.Node part cells) v path n)
          of_numbers v around look idle solves [] n = OwesIdle.own (owes v around look idle solves) n
          of_numbers v around look idle solves (c ∷ path) n =
              below_numbers cells c (below_cell c (after_edge (block wired timers numbers (instances.Node part cells)) around v look)) (below_cell c v) path n
              (λ child is. child_numbers v around look (owes v around look idle solves) solves c child is path n)
