-- After the edge with reset all timers are at 0, so islands rest: their numbers are 0.
use Rattle.std.proofs.Common.{◌≡◌, ℕ, zero, suc, ◌+◌, ◌<◌, nat_lt, Bool, true, false, if◌then◌else◌, List, [], ◌∷◌, length, Option, Some, None, slice_get, refl, ap, ◌∙◌, arith}
use Rattle.cx_prim.specs.CellStates.{CellState, Timer, with_words}
use Rattle.cx_prim.specs.Rows.{Row, reset}
use Rattle.cx_prim.specs.PipeRows.{timer_row}
use Rattle.cx_meaning.specs.Designs.{PlainComponent, PlainDesign}
use Rattle.cx_meaning.specs.Instances as instances
use Rattle.cx_meaning.specs.Instances.{Instance, Cells, no_cells, a_primitive, an_instance, Path, just, loaded_at, instance_at, tree_of}
use Rattle.cx_rules.specs.Flat.{IsFlat}
use Rattle.cx_rules.specs.Accepted.{IsAccepted}
use Rattle.cx_rules.specs.Wellformed.{IsDesign}
use Rattle.cx_net.specs.NetTree.{NetInstance, NetNode, net_part, NetCells, no_net_cells, a_row, a_child, ARow, net_cell_at}
use Rattle.cx_net.specs.NetMeaning.{NetState, below_cell, NetLook}
use Rattle.cx_net.specs.NetEdges.{cell_after, cell_below, net_after}
use Rattle.cx_net.specs.NetRuns.{net_start_at, net_start_below, net_externals, started, net_start}
use Rattle.cx_static.specs.Islands.{PlainIsland}
use Rattle.cx_static.specs.Lowering.{lowered_component}
use Rattle.cx_wiring.specs.PartNets.{wired_in, timers_of, net_of_instance, net_of_cells}
use Rattle.cx_wiring.proofs.TimerRows.{EachTimer, timer_rows}
use Rattle.cx_wiring.proofs.IslandCells.{listed}
use Rattle.cx_wiring_cycles.specs.IslandNumbers.{island_number, of_island}
use Rattle.cx_wiring_cycles.proofs.IslandIdles.{count_rests, done_rests}
use Rattle.cx_wiring_runs.proofs.TimerRules.{TimerRules}
use Rattle.cx_wiring_runs.proofs.NodeRules.{NodeRules, node_rules}
use Rattle.cx_wiring_runs.specs.BlockNumbers.{component_numbers}
use Rattle.cx_wiring_runs.proofs.TreeRules.{AllNodes, CellsNodes, FineAt, all_nodes}
use Rattle.cx_wiring_runs.proofs.ZeroNumbers.{IslandsRest, IslandsRestIn}

-- A ROW'S CELL after the reset
reset_row : (cells : NetCells) (c number : ℕ) (row : Row) (look : NetLook) (d : CellState) → net_cell_at cells c ≡ ARow row → cell_below true cells c number look [] d ≡ reset row d
reset_row no_net_cells c number row look d e = absurd cc
reset_row (a_row first rest) zero number row look d e = let same : first ≡ row = cc in ap (λ (r : Row). reset r d) same
reset_row (a_row first rest) (suc c) number row look d e = reset_row rest c number row look d e
reset_row (a_child child rest) zero number row look d e = absurd cc
reset_row (a_child child rest) (suc c) number row look d e = reset_row rest c number row look d e

row_starts : (cells : NetCells) (c : ℕ) (row : Row) → net_cell_at cells c ≡ ARow row → net_start_below cells c [] ≡ row.start
row_starts no_net_cells c row e = absurd cc
row_starts (a_row first rest) zero row e = let same : first ≡ row = cc in ap (λ (r : Row). r.start) same
row_starts (a_row first rest) (suc c) row e = row_starts rest c row e
row_starts (a_child child rest) zero row e = absurd cc
row_starts (a_child child rest) (suc c) row e = row_starts rest c row e

-- a timer is loaded with nothing
timer_loaded : (es : List ℕ) (ws : List (List ℕ)) (c : ℕ) → loaded_at es ws c (Timer 0 false) ≡ Timer 0 false
timer_loaded [] ws c = refl
timer_loaded (e ∷ es) [] c = refl
timer_loaded (e ∷ es) (w ∷ ws) c = by (just e c) (timer_loaded es ws c)
  where
    by : (b : Bool) → loaded_at es ws c (Timer 0 false) ≡ Timer 0 false → (if b then with_words w (Timer 0 false) else loaded_at es ws c (Timer 0 false)) ≡ Timer 0 false
    by true later = refl
    by false later = later

-- THE STATE of a tree after the reset: that of its start, with what was loaded
record IsStart (tree : NetInstance) (v : NetState) (look : NetLook) (path : Path) : Type 0 where
  es : List ℕ
  ws : List (List ℕ)
  number : ℕ
  state : v.cell path ≡ cell_after true tree look path (loaded_at es ws number (net_start_at tree path))

record IsStartBelow (cells : NetCells) (at number : ℕ) (v : NetState) (look : NetLook) (path : Path) : Type 0 where
  es : List ℕ
  ws : List (List ℕ)
  place : ℕ
  state : v.cell (number ∷ path) ≡ cell_below true cells at number look path (loaded_at es ws place (net_start_below cells at path))

-- THE NUMBERS of an island whose timers are at 0
module _ (part : PlainComponent) (v : NetState) (registers : (n : ℕ) → v.register [] n ≡ 0) (timers : EachTimer part (λ timer. v.cell (timer.cell ∷ []) ≡ Timer 0 false)) where
  module _ (k : ℕ) (island : PlainIsland) (is : slice_get (lowered_component part).islands k ≡ Some island) where
    some_timer : 0 < length island.timers
    some_timer = (listed part k island is).some

    island_zero : (first n : ℕ) → island_number (lowered_component part).part.cells (λ c. v.cell (c ∷ [])) (v.register []) (Some island) first n ≡ 0
    island_zero first zero = count_rests (lowered_component part).part.cells (λ c. v.cell (c ∷ [])) (v.register []) island some_timer (timers k island is)
    island_zero first (suc zero) = done_rests (lowered_component part).part.cells (λ c. v.cell (c ∷ [])) (v.register []) island some_timer (timers k island is)
    island_zero first (suc (suc n)) = by (nat_lt n (length island.points))
      where
        by : (b : Bool) → (if b then v.register [] (first + n) else 0) ≡ 0
        by true = registers (first + n)
        by false = refl

  islands_zero : (first k n : ℕ) → of_island part v first k n ≡ 0
  islands_zero first k n = by (slice_get (lowered_component part).islands k) refl
    where
      by : (o : Option PlainIsland) → slice_get (lowered_component part).islands k ≡ o → island_number (lowered_component part).part.cells (λ c. v.cell (c ∷ [])) (v.register []) o first n ≡ 0
      by None is = refl
      by (Some island) is = island_zero k island is first n

-- OF A TREE
module _ (d : PlainDesign) where
  abbrev net_at : Instance → NetInstance
  net_at = net_of_instance (wired_in d) timers_of (component_numbers of_island)

  timer_reset : (part : PlainComponent) (cells : Cells) → TimerRules part cells → (v : NetState) (look : NetLook) → ((c : ℕ) → IsStart (net_at (instances.Node part cells)) v look (c ∷ [])) → EachTimer part (λ timer. v.cell (timer.cell ∷ []) ≡ Timer 0 false)
  timer_reset part cells rules v look starts k island is t timer at =
      let row = timer_rows part (wired_in d) timers_of (component_numbers of_island) cells rules.count rules.fit k island is t timer at in
      let s = starts timer.cell in
      s.state ∙ ap (λ x. cell_below true (net_of_cells (wired_in d) timers_of (component_numbers of_island) cells (timers_of part)) timer.cell timer.cell look [] (loaded_at s.es s.ws s.number x))
      (row_starts (net_of_cells (wired_in d) timers_of (component_numbers of_island) cells (timers_of part)) timer.cell (timer_row row.cycles) row.in_net)
      ∙ reset_row (net_of_cells (wired_in d) timers_of (component_numbers of_island) cells (timers_of part)) timer.cell timer.cell (timer_row row.cycles) look (loaded_at s.es s.ws s.number (Timer 0 false)) row.in_net
      ∙ ap (reset (timer_row row.cycles)) (timer_loaded s.es s.ws s.number)

  mutual
    rests : (i : Instance) → AllNodes TimerRules i → (v : NetState) (look : NetLook) → ((path : Path) (n : ℕ) → v.register path n ≡ 0) → ((path : Path) → IsStart (net_at i) v look path) → IslandsRest of_island (wired_in d) timers_of i v
    rests (instances.Node part cells) rules v look registers starts = (
      islands_zero part v (registers []) (timer_reset part cells rules.0 v look (λ c. starts (c ∷ []))),
      rest_below cells (timers_of part) 0 rules.1 v look registers (λ at number e path. below at number e path (starts (number ∷ path))),
    )
      where
        below : (at number : ℕ) → number ≡ 0 + at → (path : Path) → IsStart (net_at (instances.Node part cells)) v look (number ∷ path)
            → IsStartBelow (net_of_cells (wired_in d) timers_of (component_numbers of_island) cells (timers_of part)) at number v look path
        below at number e path s =
            let same : number ≡ at = e ∙ omega arith in
            record {
              es = s.es;
              ws = s.ws;
              place = s.number;
              state = s.state
                  ∙ ap (λ c. cell_below true (net_of_cells (wired_in d) timers_of (component_numbers of_island) cells (timers_of part)) c number look path
                  (loaded_at s.es s.ws s.number (net_start_below (net_of_cells (wired_in d) timers_of (component_numbers of_island) cells (timers_of part)) c path))) same;
            }

    rest_below : (cells : Cells) (more : List Row) (from : ℕ) → CellsNodes TimerRules cells → (v : NetState) (look : NetLook) → ((path : Path) (n : ℕ) → v.register path n ≡ 0)
        → ((at number : ℕ) → number ≡ from + at → (path : Path) → IsStartBelow (net_of_cells (wired_in d) timers_of (component_numbers of_island) cells more) at number v look path) → IslandsRestIn of_island (wired_in d) timers_of cells from v
    rest_below no_cells more from rules v look registers starts = tt
    rest_below (a_primitive row cells) more from rules v look registers starts = rest_below cells more (suc from) rules v look registers (λ at number e path. next at number (starts (suc at) number (e ∙ omega arith) path))
      where
        next : (at number : ℕ) {path : Path} → IsStartBelow (net_of_cells (wired_in d) timers_of (component_numbers of_island) (a_primitive row cells) more) (suc at) number v look path
            → IsStartBelow (net_of_cells (wired_in d) timers_of (component_numbers of_island) cells more) at number v look path
        next at number s = record { es = s.es; ws = s.ws; place = s.place; state = s.state }
    rest_below (an_instance child cells) more from rules v look registers starts = (
      rests child rules.0 (below_cell from v) (λ q. look (from ∷ q)) (λ path n. registers (from ∷ path) n) (λ path. here path (starts 0 from (omega arith) path)),
      rest_below cells more (suc from) rules.1 v look registers (λ at number e path. next at number (starts (suc at) number (e ∙ omega arith) path)),
    )
      where
        here : (path : Path) → IsStartBelow (net_of_cells (wired_in d) timers_of (component_numbers of_island) (an_instance child cells) more) 0 from v look path → IsStart (net_at child) (below_cell from v) (λ q. look (from ∷ q)) path
        here path s = record { es = s.es; ws = s.ws; number = s.place; state = s.state }

        next : (at number : ℕ) {path : Path} → IsStartBelow (net_of_cells (wired_in d) timers_of (component_numbers of_island) (an_instance child cells) more) (suc at) number v look path
            → IsStartBelow (net_of_cells (wired_in d) timers_of (component_numbers of_island) cells more) at number v look path
        next at number s = record { es = s.es; ws = s.ws; place = s.place; state = s.state }

  -- ISLANDS REST after the reset of an accepted design
  pub islands_start : IsDesign d → IsFlat d → IsAccepted d → (words : List (List ℕ)) (look : NetLook)
      → IslandsRest of_island (wired_in d) timers_of (tree_of d) (net_after (net_at (tree_of d)) true false (net_start (net_at (tree_of d)) words) look)
  islands_start design flat accepted words look =
      rests (tree_of d) (all_nodes TimerRules (tree_of d) fine) (net_after (net_at (tree_of d)) true false (net_start (net_at (tree_of d)) words) look) look (λ path n. refl) (λ path. at path)
    where
      fine : (path : Path) → FineAt TimerRules (instance_at (tree_of d) path)
      fine path = by (instance_at (tree_of d) path) (node_rules d design flat accepted path)
        where
          by : (i : Instance) → NodeRules d i → FineAt TimerRules i
          by (instances.Node part cells) r = r.timers

      at : (path : Path) → IsStart (net_at (tree_of d)) (net_after (net_at (tree_of d)) true false (net_start (net_at (tree_of d)) words) look) look path
      at [] = record { es = []; ws = []; number = 0; state = by (net_at (tree_of d)) }
        where
          by : (tree : NetInstance) → cell_after true tree look [] (started tree words []) ≡ cell_after true tree look [] (loaded_at [] [] 0 (net_start_at tree []))
          by (NetNode part cells) = refl
      at (c ∷ []) = record { es = net_externals (net_part (net_at (tree_of d))); ws = words; number = c; state = refl }
      at (c ∷ e ∷ path) = record { es = []; ws = []; number = 0; state = refl }
