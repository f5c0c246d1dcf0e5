-- The cells of a lowered component: few, and the components of which they are stand in the net.
use Rattle.std.proofs.Common.{◌≡◌, ℕ, ◌+◌, ◌*◌, ◌^◌, ◌<◌, ◌≤◌, true, List, [], ◌∷◌, length, refl, subst, arith}
use Rattle.cx_text.proofs.MemberLaws.{of_joined}
use Rattle.cx_meaning.specs.Designs.{OfComponent, PlainCell, PlainDesign, component_at}
use Rattle.cx_text.specs.Members.{In}
use Rattle.cx_rules.specs.Items.{statements_in}
use Rattle.cx_rules.specs.Sizes.{size_of, design_size}
use Rattle.cx_rules.specs.Wellformed.{IsDesign}
use Rattle.cx_static.specs.Lowering.{unlowered, lowered_component, lowered_of}
use Rattle.cx_wiring.specs.Reached.{has_number, order}
use Rattle.cx_wiring.specs.PartNets.{timer_cells}
use Rattle.cx_wiring.proofs.ComponentCounts.{PartsHold, timers_few}
use Rattle.cx_wiring.proofs.LoweringCounts.{cells_cost, all_timers, statement_adds}
use Rattle.cx_wiring.proofs.OrderHeights.{closed, no_timer}
use Rattle.cx_wiring.proofs.TimerCells.{cells-lowered_component}
use Rattle.cx_emitted.proofs.SignedBytes.{sized}

counted : (cells : List PlainCell) → cells_cost (λ cell. 1) cells ≡ length cells
counted [] = refl
counted (c ∷ cells) = let h : cells_cost (λ cell. 1) cells ≡ length cells = counted cells in omega (arith, h)

module _ (d : PlainDesign) (rules : IsDesign d) where
  abbrev pub lowered_cells : ℕ → List PlainCell
  lowered_cells k = (lowered_component (component_at d k)).part.cells

  -- the components of a component's cells, of which the timers have none
  pub cells_here : (k : ℕ) → has_number k (order (lowered_of d)) ≡ true → (cell : PlainCell) (j : ℕ) → In (lowered_cells k) cell → cell.kind ≡ OfComponent j → has_number j (order (lowered_of d)) ≡ true
  cells_here k here cell j i is =
      of_joined (component_at d k).cells (timer_cells (component_at d k)) cell (subst (λ cells. In cells cell) (cells-lowered_component (component_at d k)) i)
      (λ own. closed d rules k here cell j own is) (λ timer. absurd (no_timer d rules k j cell timer is))

  pub cells_few : design_size d ≤ 16384 → (k : ℕ) → k < length d.components → PartsHold (component_at d k) → length (lowered_cells k) ≤ 10 ^ 5
  cells_few small k within parts =
      let size : size_of (component_at d k) < 16384 = sized d rules small k within in
      let adds = statement_adds (component_at d k) (λ cell. 1) 1 (λ place m. (omega arith)) (component_at d k).control (unlowered (component_at d k)) in
      let grown : cells_cost (λ cell. 1) (lowered_cells k) + 1 * 0 ≤ cells_cost (λ cell. 1) (component_at d k).cells + 1 * all_timers (lowered_component (component_at d k)).islands = adds.cells in
      let timers : all_timers (lowered_component (component_at d k)).islands ≤ 2 * length (statements_in (component_at d k)) = timers_few d rules k within parts in
      let all : cells_cost (λ cell. 1) (lowered_cells k) ≡ length (lowered_cells k) = counted (lowered_cells k) in
      let mine : cells_cost (λ cell. 1) (component_at d k).cells ≡ length (component_at d k).cells = counted (component_at d k).cells in
      omega (arith, size, grown, timers, all, mine)
