-- An edge of a node with go, from its own numbers, the primitives at its cells, and how each child stands: it makes its own step, or
-- its edge is idle.
use Rattle.std.proofs.Common.{◌≡◌, ℕ, zero, suc, true, false, List, [], ◌∷◌, Option, Some, None, refl, sym, ap, ◌∙◌}
use Rattle.std.proofs.Math.Path.{fun_ext}
use Rattle.cx_bits.specs.BitVector.{BitVector}
use Rattle.cx_prim.specs.CellStates.{CellState}
use Rattle.cx_prim.specs.Rows.{Row}
use Rattle.cx_meaning.specs.declared.ports.PortRef.TheVariants as ports
use Rattle.cx_meaning.specs.declared.sights.Seen.TheVariants.{Value}
use Rattle.cx_meaning.specs.Designs.{PlainComponent}
use Rattle.cx_meaning.specs.Instances as instances
use Rattle.cx_meaning.specs.Instances.{Instance, Cells, no_cells, a_primitive, an_instance, OfRow, OfInstance, cell_at, Path, idle_below}
use Rattle.cx_meaning.specs.Sights.{Held}
use Rattle.cx_lockstep.specs.Worlds.{At, Machine, edge_of, edge}
use Rattle.cx_control.specs.Codings.{Coding}
use Rattle.cx_control.specs.Spots.{Spot, Cell, Number, Holds, Kept, pull}
use Rattle.cx_control.specs.Numbers.{number_idle_below}
use Rattle.cx_control.specs.Leaves.{Coded, code_of}
use Rattle.cx_control.specs.Controls.{coded_control, coded_below}
use Rattle.cx_control.specs.Standing.{bare, bare_under, good_control, good_below}
use Rattle.cx_net.specs.Nets.{PlainNetComponent}
use Rattle.cx_net.specs.NetMeaning.{NetState, below_cell, NetLook, NetAround, APort, around_child}
use Rattle.cx_net.specs.NetEdges.{cell_after, cell_below, inputs_from}
use Rattle.cx_wiring.specs.PartNets.{net_of_instance, net_of_cells}
use Rattle.cx_wiring_runs.specs.Blocks.{block, block_below, numbers_at, numbers_below, child_cell_after, has_cell, has_cell_below, Shows, Solves, HasGo, FitsInputs, IsIdle, Runs, BlockLaws, after_edge, block_idle}
use Rattle.cx_wiring_runs.proofs.ChildLooks.{child_solves}
use Rattle.cx_wiring_runs.proofs.NodeIdles.{cell_of_child}
use Rattle.cx_wiring_runs.proofs.PortsKnown.{child_stands}

module _ (wired : PlainComponent → PlainNetComponent) (timers : PlainComponent → List Row) (numbers : Instance → NetState → ℕ → ℕ) where
  -- numbers below what is no component are 0, and stay
  number_where : (cells : Cells) (c : ℕ) (after before : NetState) (path : Path) (n : ℕ) (w : Option ℕ)
      → ((child : Instance) → cell_at cells c ≡ OfInstance child → numbers_below wired timers numbers cells c after path n ≡ edge_of w (number_idle_below cells c path n (numbers_below wired timers numbers cells c before path n)))
      → (((child : Instance) → cell_at cells c ≡ OfInstance child → ⊥) → w ≡ None)
      → numbers_below wired timers numbers cells c after path n ≡ edge_of w (number_idle_below cells c path n (numbers_below wired timers numbers cells c before path n))
  number_where no_cells c after before path n w child none = ap (λ o. edge_of o 0) (sym (none (λ kid e. absurd cc)))
  number_where (a_primitive row rest) zero after before path n w child none = ap (λ o. edge_of o 0) (sym (none (λ kid e. absurd cc)))
  number_where (a_primitive row rest) (suc c) after before path n w child none = number_where rest c after before path n w child none
  number_where (an_instance kid rest) zero after before path n w child none = child kid refl
  number_where (an_instance kid rest) (suc c) after before path n w child none = number_where rest c after before path n w child none

  -- a cell of the design is a primitive's own or a child's
  cell_where : (cells : Cells) (more : List Row) (at c : ℕ) (look : NetLook) (path : Path) (d before : CellState) (w : Option CellState) → has_cell_below cells at path ≡ true → d ≡ before
      → ((row : Row) → cell_at cells at ≡ OfRow row → path ≡ [] → row.next d (inputs_from look c 0 row.ports) ≡ edge_of w (row.idle before))
      → ((child : Instance) → cell_at cells at ≡ OfInstance child → cell_below false (net_of_cells wired timers numbers cells more) at c look path d ≡ edge_of w (idle_below cells at path before))
      → cell_below false (net_of_cells wired timers numbers cells more) at c look path d ≡ edge_of w (idle_below cells at path before)
  cell_where no_cells more at c look path d before w there same of_row of_child = absurd cc
  cell_where (a_primitive row rest) more zero c look [] d before w there same of_row of_child = of_row row refl refl
  cell_where (a_primitive row rest) more zero c look (e ∷ path) d before w there same of_row of_child = absurd cc
  cell_where (a_primitive row rest) more (suc at) c look path d before w there same of_row of_child = cell_where rest more at c look path d before w there same of_row of_child
  cell_where (an_instance child rest) more zero c look path d before w there same of_row of_child = of_child child refl
  cell_where (an_instance child rest) more (suc at) c look path d before w there same of_row of_child = cell_where rest more at c look path d before w there same of_row of_child

  module _ (part : PlainComponent) (cells : Cells) where
    abbrev M : Machine Spot Holds
    M = Coded.machine (coded_control (instances.Node part cells))

    abbrev kid : ℕ → Coded
    kid c = coded_below cells c

    module _ (p : Machine.Place (Coded.machine (coded_control (instances.Node part cells)))) (s : Kept) (v : NetState) (look : NetLook) (c : ℕ) where
      -- THE CHILD MAKES ITS OWN STEP: it has go, it stands at a place, its inputs are these, and the machine writes what its own does
      pub record ChildMoves : Type 0 where
        pub inputs : Held
        pub stand : Machine.Place (Coded.machine (coded_below cells c))
        pub fine : Coding.IsFine (Coded.coding (coded_below cells c)) stand
        pub code : (n : ℕ) → s (Number (c ∷ []) n) ≡ code_of (coded_below cells c) (At stand) n
        pub good : good_below cells c (At stand) (bare_under c (bare s))
        pub clean : Machine.faults (Coded.machine (coded_below cells c)) stand (pull c inputs s) ≡ false
        pub go : HasGo (block_below wired timers numbers cells (timers part) c) (around_child c (look [])) true
        pub inputs_fit : (n : ℕ) (x : BitVector) → inputs n ≡ Value x → look [] (APort (ports.Cell c (suc n))) ≡ Some x
        pub cells_written : (path : Path) → Machine.writes (Coded.machine (coded_control (instances.Node part cells))) p s (Cell (c ∷ path)) ≡ Machine.writes (Coded.machine (coded_below cells c)) stand (pull c inputs s) (Cell path)
        pub own_written : (n : ℕ) → Machine.writes (Coded.machine (coded_control (instances.Node part cells))) p s (Number (c ∷ []) n)
            ≡ Some (code_of (coded_below cells c) (Machine.step (Coded.machine (coded_below cells c)) stand (pull c inputs s)) n)
        pub below_written : (e : ℕ) (path : Path) (n : ℕ) → Machine.writes (Coded.machine (coded_control (instances.Node part cells))) p s (Number (c ∷ e ∷ path) n)
            ≡ Machine.writes (Coded.machine (coded_below cells c)) stand (pull c inputs s) (Number (e ∷ path) n)

      -- THE CHILD WAITS: it has no go, or is at its end, and what the machine writes there is an idle edge
      pub record ChildWaits : Type 0 where
        pub idle : IsIdle (block_below wired timers numbers cells (timers part) c) (around_child c (look [])) (below_cell c v)
        pub cells_stay : (path : Path) → edge_of (Machine.writes (Coded.machine (coded_control (instances.Node part cells))) p s (Cell (c ∷ path))) (idle_below cells c path (s (Cell (c ∷ path)))) ≡ idle_below cells c path (s (Cell (c ∷ path)))
        pub numbers_stay : (path : Path) (n : ℕ) → Machine.writes (Coded.machine (coded_control (instances.Node part cells))) p s (Number (c ∷ path) n) ≡ None

      pub data ChildSteps : Type 0 where
        moves : ChildMoves → ChildSteps
        waits : ChildWaits → ChildSteps

    -- WHAT IS OWED of one edge with go
    pub record OwesStep (p : Machine.Place (Coded.machine (coded_control (instances.Node part cells)))) (s : Kept) (v : NetState) (around : NetAround) (look : NetLook) : Type 0 where
      pub own : (n : ℕ) → numbers (instances.Node part cells) (after_edge (block wired timers numbers (instances.Node part cells)) around v look) n
          ≡ code_of (coded_control (instances.Node part cells)) (Machine.step (Coded.machine (coded_control (instances.Node part cells))) p s) n
      pub rows : (c : ℕ) (row : Row) → cell_at cells c ≡ OfRow row
          → row.next (v.cell (c ∷ [])) (inputs_from look c 0 row.ports) ≡ edge_of (Machine.writes (Coded.machine (coded_control (instances.Node part cells))) p s (Cell (c ∷ []))) (row.idle (s (Cell (c ∷ []))))
      pub children : (c : ℕ) (child : Instance) → cell_at cells c ≡ OfInstance child → ChildSteps p s v look c
      pub nowhere : (c : ℕ) → ((child : Instance) → cell_at cells c ≡ OfInstance child → ⊥) → (path : Path) (n : ℕ) → Machine.writes (Coded.machine (coded_control (instances.Node part cells))) p s (Number (c ∷ path) n) ≡ None

    module _ (children : (c : ℕ) (child : Instance) → cell_at cells c ≡ OfInstance child → BlockLaws (block_below wired timers numbers cells (timers part) c))
        (p : Machine.Place (Coded.machine (coded_control (instances.Node part cells)))) (s : Kept) (v : NetState) (around : NetAround) (look : NetLook)
        (shows : Shows (block wired timers numbers (instances.Node part cells)) (At p) s v) (solves : Solves (block wired timers numbers (instances.Node part cells)) around v look) (owes : OwesStep p s v around look) where
      abbrev V2 : NetState
      V2 = after_edge (block wired timers numbers (instances.Node part cells)) around v look

      module _ (c : ℕ) (child : Instance) (is : cell_at cells c ≡ OfInstance child) where
        abbrev around_it : NetAround
        around_it = around_child c (look [])

        its_cell : (path : Path) (d : CellState) → cell_below false (net_of_cells wired timers numbers cells (timers part)) c c look path d ≡ child_cell_after wired timers numbers (net_of_cells wired timers numbers cells (timers part)) c (λ q. look (c ∷ q)) path d
        its_cell path d = cell_of_child wired timers numbers (net_of_cells wired timers numbers cells (timers part)) c c (net_of_instance wired timers numbers child) (child_stands wired timers numbers cells (timers part) c child is) look path d

        -- the numbers of the child after the edge are those that its own edge leaves
        its_numbers : (path : Path) (n : ℕ) → numbers_below wired timers numbers cells c (below_cell c (after_edge (block wired timers numbers (instances.Node part cells)) around v look)) path n
            ≡ numbers_below wired timers numbers cells c (after_edge (block_below wired timers numbers cells (timers part) c) (around_child c (look [])) (below_cell c v) (λ q. look (c ∷ q))) path n
        its_numbers path n =
            let same_cells = fun_ext (λ q. its_cell q (v.cell (c ∷ q))) in
            ap (λ f. numbers_below wired timers numbers cells c (record { cell = f; register = NetState.register (below_cell c (after_edge (block wired timers numbers (instances.Node part cells)) around v look)) }) path n) same_cells

        its_solves : Solves (block_below wired timers numbers cells (timers part) c) (around_child c (look [])) (below_cell c v) (λ q. look (c ∷ q))
        its_solves = child_solves wired timers numbers part cells around v look solves c child is

        shows_it : (m : ChildMoves p s v look c) → Shows (block_below wired timers numbers cells (timers part) c) (At m.stand) (pull c m.inputs s) (below_cell c v)
        shows_it m = record { cells = λ path there. shows.cells (c ∷ path) there; own = λ n. shows.below c [] n ∙ m.code n; below = λ e path n. shows.below c (e ∷ path) n }

        moved : (m : ChildMoves p s v look c) → Shows (block_below wired timers numbers cells (timers part) c) (Machine.step (Coded.machine (coded_below cells c)) m.stand (pull c m.inputs s))
            (edge (block_idle (block_below wired timers numbers cells (timers part) c)) (Coded.machine (coded_below cells c)) (At m.stand) (pull c m.inputs s))
            (after_edge (block_below wired timers numbers cells (timers part) c) (around_child c (look [])) (below_cell c v) (λ q. look (c ∷ q)))
        moved m = (children c child is).runs m.stand (pull c m.inputs s) (below_cell c v) (around_child c (look [])) (λ q. look (c ∷ q)) m.fine m.good m.clean (shows_it m) m.go m.inputs_fit its_solves

        abbrev CellGoal : Path → Type 0
        CellGoal path = cell_below false (net_of_cells wired timers numbers cells (timers part)) c c look path (v.cell (c ∷ path))
            ≡ edge_of (Machine.writes (Coded.machine (coded_control (instances.Node part cells))) p s (Cell (c ∷ path))) (idle_below cells c path (s (Cell (c ∷ path))))

        cell_by : ChildSteps p s v look c → (path : Path) → has_cell_below cells c path ≡ true → CellGoal path
        cell_by (moves m) path there =
            its_cell path (v.cell (c ∷ path)) ∙ Shows.cells (moved m) path there ∙ ap (λ o. edge_of o (idle_below cells c path (s (Cell (c ∷ path))))) (sym (m.cells_written path))
        cell_by (waits w) path there =
            its_cell path (v.cell (c ∷ path))
            ∙ (children c child is).idles.cells (below_cell c v) (around_child c (look [])) (λ q. look (c ∷ q)) w.idle its_solves path there
            ∙ ap (idle_below cells c path) (shows.cells (c ∷ path) there) ∙ sym (w.cells_stay path)

        abbrev NumberGoal : Path → ℕ → Type 0
        NumberGoal path n = numbers_below wired timers numbers cells c (below_cell c (after_edge (block wired timers numbers (instances.Node part cells)) around v look)) path n
            ≡ edge_of (Machine.writes (Coded.machine (coded_control (instances.Node part cells))) p s (Number (c ∷ path) n)) (number_idle_below cells c path n (s (Number (c ∷ path) n)))

        number_by : ChildSteps p s v look c → (path : Path) (n : ℕ) → NumberGoal path n
        number_by (moves m) [] n = its_numbers [] n ∙ Shows.own (moved m) n ∙ ap (λ o. edge_of o (number_idle_below cells c [] n (s (Number (c ∷ []) n)))) (sym (m.own_written n))
        number_by (moves m) (e ∷ path) n =
            its_numbers (e ∷ path) n ∙ Shows.below (moved m) e path n ∙ ap (λ o. edge_of o (number_idle_below cells c (e ∷ path) n (s (Number (c ∷ e ∷ path) n)))) (sym (m.below_written e path n))
        number_by (waits w) path n =
            its_numbers path n
            ∙ (children c child is).idles.numbers (below_cell c v) (around_child c (look [])) (λ q. look (c ∷ q)) w.idle its_solves path n
            ∙ ap (number_idle_below cells c path n) (shows.below c path n)
            ∙ ap (λ o. edge_of o (number_idle_below cells c path n (s (Number (c ∷ path) n)))) (sym (w.numbers_stay path n))

      at_row : (c : ℕ) (row : Row) → cell_at cells c ≡ OfRow row → (path : Path) → path ≡ []
          → row.next (v.cell (c ∷ path)) (inputs_from look c 0 row.ports) ≡ edge_of (Machine.writes (Coded.machine (coded_control (instances.Node part cells))) p s (Cell (c ∷ path))) (row.idle (s (Cell (c ∷ path))))
      at_row c row is [] nil = owes.rows c row is
      at_row c row is (e ∷ path) nil = absurd cc

      cell_is : (path : Path) → has_cell (instances.Node part cells) path ≡ true → cell_after false (net_of_instance wired timers numbers (instances.Node part cells)) look path (v.cell path)
          ≡ edge (block_idle (block wired timers numbers (instances.Node part cells))) (Coded.machine (coded_control (instances.Node part cells))) (At p) s (Cell path)
      cell_is [] there = absurd cc
      cell_is (c ∷ path) there =
          cell_where cells (timers part) c c look path (v.cell (c ∷ path)) (s (Cell (c ∷ path))) (Machine.writes (Coded.machine (coded_control (instances.Node part cells))) p s (Cell (c ∷ path))) there (shows.cells (c ∷ path) there)
          (λ row is nil. at_row c row is path nil) (λ child is. cell_by c child is (owes.children c child is) path there)

      number_is : (c : ℕ) (path : Path) (n : ℕ) → numbers_at wired timers numbers (instances.Node part cells) (after_edge (block wired timers numbers (instances.Node part cells)) around v look) (c ∷ path) n
          ≡ edge (block_idle (block wired timers numbers (instances.Node part cells))) (Coded.machine (coded_control (instances.Node part cells))) (At p) s (Number (c ∷ path) n)
      number_is c path n =
          number_where cells c (below_cell c (after_edge (block wired timers numbers (instances.Node part cells)) around v look)) (below_cell c v) path n (Machine.writes (Coded.machine (coded_control (instances.Node part cells))) p s (Number (c ∷ path) n))
          (λ child is. number_by c child is (owes.children c child is) path n ∙ ap (λ m. edge_of (Machine.writes (Coded.machine (coded_control (instances.Node part cells))) p s (Number (c ∷ path) n)) (number_idle_below cells c path n m)) (sym (shows.below c path n)))
          (λ none. owes.nowhere c none path n)
          ∙ ap (λ m. edge_of (Machine.writes (Coded.machine (coded_control (instances.Node part cells))) p s (Number (c ∷ path) n)) (number_idle_below cells c path n m)) (shows.below c path n)

      pub steps : Shows (block wired timers numbers (instances.Node part cells)) (Machine.step (Coded.machine (coded_control (instances.Node part cells))) p s)
          (edge (block_idle (block wired timers numbers (instances.Node part cells))) (Coded.machine (coded_control (instances.Node part cells))) (At p) s) (after_edge (block wired timers numbers (instances.Node part cells)) around v look)
      steps = record { cells = cell_is; own = owes.own; below = λ c path n. number_is c path n }

    -- THE EDGE OF A NODE WITH GO, where what it owes is given
    abbrev pub StepsOwed : Type 0
    StepsOwed = (p : Machine.Place (Coded.machine (coded_control (instances.Node part cells)))) (s : Kept) (v : NetState) (around : NetAround) (look : NetLook)
        → Coding.IsFine (Coded.coding (coded_control (instances.Node part cells))) p → good_control (instances.Node part cells) (At p) (bare s) → Machine.faults (Coded.machine (coded_control (instances.Node part cells))) p s ≡ false
        → Shows (block wired timers numbers (instances.Node part cells)) (At p) s v → HasGo (block wired timers numbers (instances.Node part cells)) around true → FitsInputs (block wired timers numbers (instances.Node part cells)) s around
        → Solves (block wired timers numbers (instances.Node part cells)) around v look → OwesStep p s v around look

    pub node_runs : ((c : ℕ) (child : Instance) → cell_at cells c ≡ OfInstance child → BlockLaws (block_below wired timers numbers cells (timers part) c)) → StepsOwed → Runs (block wired timers numbers (instances.Node part cells))
    node_runs children owed p s v around look fine good clean shows go fits solves = steps children p s v around look shows solves (owed p s v around look fine good clean shows go fits solves)
