-- The tree of the net of a design is that of the design, by structure.
use Rattle.std.proofs.Common.{◌≡◌, inl, inr, ℕ, zero, suc, ◌+◌, ◌<◌, true, List, [], ◌∷◌, ◌++◌, length, map, refl, ap, sym, ◌∙◌, subst, arith}
use Rattle.cx_prim.specs.Rows.{Row}
use Rattle.cx_prim.specs.Table.{row_of}
use Rattle.cx_meaning.specs.Designs.{PlainKind, OfPrimitive, OfComponent, PlainCell, PlainComponent, PlainDesign, component_at}
use Rattle.cx_meaning.specs.Instances.{Instance, Cells, add_cell, cells_for, tree_within, tree_of}
use Rattle.cx_text.specs.Members.{In}
use Rattle.cx_rules.specs.Wellformed.{IsDesign}
use Rattle.cx_net.specs.Nets.{PlainNetComponent, PlainNet}
use Rattle.cx_net.specs.NetMeaning.{NetState}
use Rattle.cx_net.specs.NetTree.{NetInstance, NetNode, NetCells, a_row, a_child, add_net_cell, net_cells_for, net_within, net_tree}
use Rattle.cx_static.specs.Islands.{PlainLowereds}
use Rattle.cx_static.specs.Lowering.{lowered_of}
use Rattle.cx_wiring.specs.Reached.{has_number, place_in, component_of_kind, components_of, reached_from, order}
use Rattle.cx_wiring.specs.Wiring.{kind_in, cell_in, net_of}
use Rattle.cx_wiring.specs.PartNets.{row_of_kind, rows_among, timer_cells, timers_of, wired_in, rows_alone, net_of_instance, net_of_cells}
use Rattle.cx_wiring.proofs.MainLaws.{order_main}
use Rattle.cx_wiring.proofs.TimerCells.{cells-lowered_component, components_of-timer_cells}
use Rattle.cx_wiring.proofs.WayLemmas.{count_is, placed, net_long, IsWay, here_of, few_of_net, few_of_design, Reaches, step_on, alone}

module _ (wired : PlainComponent → PlainNetComponent) (timers : PlainComponent → List Row) (numbers : Instance → NetState → ℕ → ℕ) (places : List ℕ) where
  abbrev row_cells : List Row → NetCells
  row_cells = rows_alone wired timers numbers

  abbrev net_instance : Instance → NetInstance
  net_instance = net_of_instance wired timers numbers

  abbrev net_cells_of : Cells → List Row → NetCells
  net_cells_of = net_of_cells wired timers numbers

  module _ (net_child : ℕ → NetInstance) where
    kind_alone : (kind : PlainKind) (rest : NetCells) (components : List ℕ) (rows : List Row) → component_of_kind kind ++ components ≡ [] → (components ≡ [] → rest ≡ row_cells rows)
        → add_net_cell net_child (kind_in places kind) rest ≡ row_cells (row_of_kind kind ++ rows)
    kind_alone (OfPrimitive primitive) rest components rows none later = ap (a_row (row_of primitive)) (later none)
    kind_alone (OfComponent k) rest components rows none later = absurd (cc)

    -- cells of no component are their rows
    net_cells_for-rows : (cells : List PlainCell) → components_of cells ≡ [] → net_cells_for net_child (map (cell_in places) cells) ≡ row_cells (rows_among cells)
    net_cells_for-rows [] none = refl
    net_cells_for-rows (c ∷ cells) none =
        kind_alone c.kind (net_cells_for net_child (map (cell_in places) cells)) (components_of cells) (rows_among cells) none (net_cells_for-rows cells)

    module _ (child : ℕ → Instance) (more : List PlainCell) (none : components_of more ≡ []) where
      kind_alike : (kind : PlainKind) (rest : NetCells) (cells : Cells) (rows : List Row) → ((k : ℕ) → kind ≡ OfComponent k → net_child (place_in k places) ≡ net_instance (child k))
          → rest ≡ net_cells_of cells rows → add_net_cell net_child (kind_in places kind) rest ≡ net_cells_of (add_cell child kind cells) rows
      kind_alike (OfPrimitive primitive) rest cells rows each later = ap (a_row (row_of primitive)) later
      kind_alike (OfComponent k) rest cells rows each later = ap (λ x. a_child x rest) (each k refl) ∙ ap (a_child (net_instance (child k))) later

      -- cells and rows behind them are alike where what stands at each cell of a component is
      pub net_cells_for-cells : (cells : List PlainCell) → ((cell : PlainCell) (k : ℕ) → In cells cell → cell.kind ≡ OfComponent k → net_child (place_in k places) ≡ net_instance (child k))
          → net_cells_for net_child (map (cell_in places) (cells ++ more)) ≡ net_cells_of (cells_for child cells) (rows_among more)
      net_cells_for-cells [] each = net_cells_for-rows more none
      net_cells_for-cells (c ∷ cells) each =
          kind_alike c.kind (net_cells_for net_child (map (cell_in places) (cells ++ more))) (cells_for child cells) (rows_among more) (λ k e. each c k (inl refl) e)
          (net_cells_for-cells cells (λ cell k i e. each cell k (inr i) e))

module _ (d : PlainDesign) (rules : IsDesign d) (numbers : Instance → NetState → ℕ → ℕ) where
  abbrev low : PlainLowereds
  low = lowered_of d

  abbrev places : List ℕ
  places = order low

  abbrev levels : ℕ
  levels = length d.components

  abbrev net : PlainNet
  net = net_of low

  -- THE TREES below a component, where both have as many levels as the way leaves
  within_alike : (n m k : ℕ) (seen : List ℕ) → IsWay d rules k seen → n + length seen ≡ levels → m + length seen ≡ length places → Reaches d rules n k
      → net_within net m (place_in k places) ≡ net_of_instance (wired_in d) timers_of numbers (tree_within d n k)
  within_alike zero m k seen way left more reach = let few = few_of_design d rules k seen way in absurd (omega (arith, few, left))
  within_alike (suc n) zero k seen way left more reach = let few = few_of_net d rules k seen way in absurd (omega (arith, few, more))
  within_alike (suc n) (suc m) k seen way left more reach =
      ap (λ part. NetNode part (net_cells_for (net_within net m) part.cells)) (placed d rules k (here_of d rules k seen way))
      ∙ ap (NetNode (wired_in d (component_at d k)))
      (ap (λ cells. net_cells_for (net_within net m) (map (cell_in places) cells)) (cells-lowered_component (component_at d k))
      ∙ net_cells_for-cells (wired_in d) timers_of numbers places (net_within net m) (tree_within d n) (timer_cells (component_at d k)) (components_of-timer_cells (component_at d k))
      (component_at d k).cells
      (λ cell j i is.
      let step = step_on d rules n k seen way reach cell j i is in
      within_alike n m j (k ∷ seen) step.way (omega (arith, left)) (omega (arith, more)) step.reach))

  -- THE TREE OF THE NET of a design is the tree of the design, each component with its net, and its timers behind its cells
  pub net_tree-net_of : net_tree net ≡ net_of_instance (wired_in d) timers_of numbers (tree_of d)
  net_tree-net_of =
      let main_there : low.main < length low.components = subst (λ n. d.main < n) (sym (count_is d rules)) rules.main_there in
      let here : has_number d.main places ≡ true = order_main low main_there in
      within_alike levels (length net.components) d.main [] (alone d rules d.main here) (omega arith) (omega (arith, net_long d rules)) (λ x h. subst (λ n. has_number x (reached_from low n d.main) ≡ true) (sym (count_is d rules)) h)
