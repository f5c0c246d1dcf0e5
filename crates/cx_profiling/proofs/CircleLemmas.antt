-- NOTHING LEADS IN A CIRCLE in an instrumented instance, where nothing does in the instance: the ports of the component lead to each other as
-- they did, and those of new parts lead nowhere in three steps.
use Rattle.std.proofs.Common.{if◌then◌else◌, ◌≡◌, ℕ, zero, suc, ◌+◌, ◌<◌, ◌≤◌, ⊎_elim, length, Some, slice_get, refl, sym, ap, ◌∙◌, subst, arith}
use Rattle.std.proofs.lemmas.Bool.{cases_lt, ne_eqb}
use Rattle.cx_prim.specs.declared.ports.Side.{Side}
use Rattle.cx_prim.specs.declared.ports.Side.TheVariants as sides
use Rattle.cx_prim.specs.Rows.{Row}
use Rattle.cx_meaning.specs.declared.ports.PortRef.{PortRef}
use Rattle.cx_meaning.specs.declared.ports.PortRef.TheVariants as ports
use Rattle.cx_meaning.specs.Rows.{side_of}
use Rattle.cx_meaning.specs.Designs.{PlainCell, PlainComponent, PlainDesign, OfComponent, component_at}
use Rattle.cx_meaning.specs.Instances.{Instance, OfRow, cell_at, cells_of, part_of, tree_within}
use Rattle.cx_meaning.specs.Active.{Active, drivers}
use Rattle.cx_meaning.specs.Sights.{PartPort, Go, AnInput, AnOutput, ItsDone, part_port}
use Rattle.cx_meaning.proofs.DesignsLemmas.{same_part}
use Rattle.cx_meaning.proofs.InstancesLemmas.{instance_row}
use Rattle.cx_rules.specs.Footprints.{Mentions, SideLeads, PartLeads, CellLeads, Leads, Depends, at_once, by_way_of}
use Rattle.cx_rules.specs.Circles.{IsAcyclic}
use Rattle.cx_rules.specs.Wellformed.{IsDesign}
use Rattle.cx_rewrites.proofs.ReflectLemmas.{IsImage, mentions_back}
use Rattle.cx_profiling.specs.Counters.{first_gained}
use Rattle.cx_profiling.specs.Instrumented.{moved_in, gained, with_counts}
use Rattle.cx_profiling.proofs.ListedCells.{at_component}
use Rattle.cx_profiling.proofs.PortLemmas.{IsInside, moved_apart, grown_number}
use Rattle.cx_profiling.proofs.CellPorts.{IsGiven, given_output, given_done, part_given}
use Rattle.cx_profiling.proofs.GainedLemmas.{grown_at}
use Rattle.cx_profiling.proofs.InsideLemmas.{inside_closed}
use Rattle.cx_profiling.proofs.PairLemmas.{drives_moved, CellPair, row_pair, child_pair, pair_at, child_ports}
use Rattle.cx_rules.proofs.CircleLemmas.{depends_then}

-- a port from which nothing leads in more than so many steps
abbrev pub Ends : Instance → Active → ℕ → PortRef → Type 0
Ends i act zero p = (q : PortRef) → Leads i act p q → ⊥
Ends i act (suc n) p = (q : PortRef) → Leads i act p q → Ends i act n q

-- no such port is on a circle
pub ends_no_circle : (i : Instance) (act : Active) (n : ℕ) (p : PortRef) → Ends i act n p → Depends i act p p → ⊥
ends_no_circle i act zero p ends (at_once l) = ends p l
ends_no_circle i act zero p ends (by_way_of r l d) = ends r l
ends_no_circle i act (suc n) p ends (at_once l) = ends_no_circle i act n p (ends p l) (at_once l)
ends_no_circle i act (suc n) p ends (by_way_of r l d) = ends_no_circle i act n r (ends r l) (depends_then d l)

module _ (d : PlainDesign) (design : IsDesign d) (m k : ℕ) (within : k < length d.components) (act : Active) where
  abbrev part : PlainComponent
  part = component_at d k

  abbrev other : PlainComponent
  other = component_at (with_counts d) k

  abbrev mv : PortRef → PortRef
  mv p = moved_in d part p

  abbrev i : Instance
  i = tree_within d (suc m) k

  abbrev j : Instance
  j = tree_within (with_counts d) (suc m) k

  abbrev Back : (PortRef → Type 0) → PortRef → Type 0
  Back P q = IsImage mv P q

  targets_back : (p r q : PortRef) → IsInside d part p → mv p ≡ r → Mentions (drivers other act r) q → Back (Mentions (drivers part act p)) q
  targets_back p r q here e l =
      mentions_back mv (drivers part act p) q (subst (λ acts. Mentions acts q) (ap (drivers other act) (sym e) ∙ drives_moved d design k within act p here) l)

  side_back : (c p : ℕ) (row : Row) (side : Side) (q : PortRef) → IsInside d part (ports.Cell c p) → ((n : ℕ) → mv (ports.Cell c n) ≡ ports.Cell c n)
      → SideLeads other act row c p side q → Back (SideLeads part act row c p side) q
  side_back c p row sides.Enable q here moved l = targets_back (ports.Cell c p) (ports.Cell c p) q here (moved p) l
  side_back c p row sides.Plain q here moved l = targets_back (ports.Cell c p) (ports.Cell c p) q here (moved p) l
  side_back c p row sides.Output q here moved (n, reads, e) = (ports.Cell c n, moved n ∙ e, (n, reads, refl))
  side_back c p row sides.Registered q here moved l = absurd l

  part_back : (c p r : ℕ) (port : PartPort) (q : PortRef) → IsInside d part (ports.Cell c p) → mv (ports.Cell c p) ≡ ports.Cell c r
      → PartLeads other act c r port q → Back (PartLeads part act c p port) q
  part_back c p r Go q here moved l = targets_back (ports.Cell c p) (ports.Cell c r) q here moved l
  part_back c p r (AnInput n) q here moved l = targets_back (ports.Cell c p) (ports.Cell c r) q here moved l
  part_back c p r (AnOutput n) q here moved l = absurd l
  part_back c p r ItsDone q here moved l = absurd l

  cell_back : (c p : ℕ) (q : PortRef) → IsInside d part (ports.Cell c p) → CellPair d design m k within c → Leads j act (mv (ports.Cell c p)) q → Back (Leads i act (ports.Cell c p)) q
  cell_back c p q here (row_pair row first second moved) l =
      let there : CellLeads other act c p (cell_at (cells_of j) c) q = subst (λ x. Leads j act x q) (moved p) l in
      let leads : SideLeads other act row c p (side_of row p) q = subst (λ x. CellLeads other act c p x q) second there in
      let back : Back (SideLeads part act row c p (side_of row p)) q = side_back c p row (side_of row p) q here moved leads in
      (back.0, back.1, subst (λ x. CellLeads part act c p x back.0) (sym first) back.2)
  cell_back c p q here (child_pair cell e stands is below first second moved) l =
      let r = grown_number d (first_gained (component_at d e)) (gained d e) p in
      let there : CellLeads other act c r (cell_at (cells_of j) c) q = subst (λ x. Leads j act x q) (moved p) l in
      let leads : PartLeads other act c r (part_port (part_of (tree_within (with_counts d) m e)) r) q = subst (λ x. CellLeads other act c r x q) second there in
      let old : PartLeads other act c r (part_port (part_of (tree_within d m e)) p) q = subst (λ x. PartLeads other act c r x q) (child_ports d design m k within e p below (here.1 cell e stands is)) leads in
      let back : Back (PartLeads part act c p (part_port (part_of (tree_within d m e)) p)) q = part_back c p r (part_port (part_of (tree_within d m e)) p) q here (moved p) old in
      (back.0, back.1, subst (λ x. CellLeads part act c p x back.0) (sym first) back.2)

  leads_back : (p q : PortRef) → IsInside d part p → Leads j act (mv p) q → Back (Leads i act p) q
  leads_back (ports.Cell c p) q here l = cell_back c p q here (pair_at d design m k within c here.0) l
  leads_back (ports.Input n) q here l = absurd l
  leads_back (ports.Output n) q here l = targets_back (ports.Output n) (ports.Output n) q here refl l
  leads_back (ports.Done g) q here l = targets_back (ports.Done g) (ports.Done g) q here refl l
  leads_back (ports.Literal w v) q here l = absurd l

  pub depends_back : (p r q : PortRef) → IsInside d part p → mv p ≡ r → Depends j act r q → (port : PortRef) × (mv port ≡ q) × Depends i act p port × IsInside d part port
  depends_back p r q here e (at_once l) =
      let x = leads_back p q here (subst (λ z. Leads j act z q) (sym e) l) in
      (x.0, x.1, at_once x.2, inside_closed d design k within m act p x.0 here x.2)
  depends_back p r q here e (by_way_of n l rest) =
      let x = leads_back p n here (subst (λ z. Leads j act z n) (sym e) l) in
      let y = depends_back x.0 n q (inside_closed d design k within m act p x.0 here x.2) x.1 rest in
      (y.0, y.1, by_way_of x.0 x.2 y.2, y.3)

  -- a port of the component, moved, or one from which nothing leads in a few steps
  pub data IsKnown (p : PortRef) : Type 0 where
    moved_from : (q : PortRef) → IsInside d part q → mv q ≡ p → IsKnown p
    ending : (n : ℕ) → Ends j act n p → IsKnown p

  pub acyclic_grown : IsAcyclic i act → ((p : PortRef) → IsKnown p) → IsAcyclic j act
  acyclic_grown acyclic each (p, depends) = by (each p)
    where
      by : IsKnown p → ⊥
      by (moved_from q here e) =
          let r = depends_back q p p here e depends in
          acyclic (q, subst (Depends i act q) (moved_apart d part r.0 q r.3 here (r.1 ∙ sym e)) r.2)
      by (ending n ends) = ends_no_circle j act n p ends depends

  -- an old port is known
  pub old_known : (c p : ℕ) → c < length part.cells → IsKnown (ports.Cell c p)
  old_known c p few = by (pair_at d design m k within c few)
    where
      none_leads : (port : PartPort) (q : PortRef) → IsGiven port → PartLeads other act c p port q → ⊥
      none_leads port q (given_output n) l = l
      none_leads port q given_done l = l

      row_inside : (row : Row) → cell_at (cells_of i) c ≡ OfRow row → IsInside d part (ports.Cell c p)
      row_inside row first = (few, λ cell e stands is. absurd (instance_row (tree_within d m e) row (sym (at_component (tree_within d m) part.cells c cell e stands is) ∙ first)))

      same_cell : (cell x : PlainCell) → slice_get part.cells c ≡ Some cell → slice_get part.cells c ≡ Some x → cell ≡ x
      same_cell cell x e f = let same : Some cell ≡ Some x = sym e ∙ f in cc

      same_component : (e f : ℕ) → OfComponent e ≡ OfComponent f → e ≡ f
      same_component e f h = cc

      child_inside : (cell : PlainCell) (e : ℕ) → slice_get part.cells c ≡ Some cell → cell.kind ≡ OfComponent e → p ≤ first_gained (component_at d e) → IsInside d part (ports.Cell c p)
      child_inside cell e stands is less = (
        few,
        λ x f there kind.
            let same : cell ≡ x = same_cell cell x stands there in
            let number : e ≡ f = same_component e f (sym is ∙ ap (λ y. y.kind) same ∙ kind) in
            subst (λ y. p ≤ first_gained (component_at d y)) number less,
      )

      grown_same : (first more : ℕ) → p < first → grown_number d first more p ≡ p
      grown_same first more less = ap (λ b. if b then p + more else p) (ne_eqb p first (λ e. omega (arith, less, e)))

      by : CellPair d design m k within c → IsKnown (ports.Cell c p)
      by (row_pair row first second moved) = moved_from (ports.Cell c p) (row_inside row first) (moved p)
      by (child_pair cell e stands is below first second moved) =
          ⊎_elim
          (λ (less : p < first_gained (component_at d e)).
          moved_from (ports.Cell c p) (child_inside cell e stands is (omega (arith, less))) (moved p ∙ ap (ports.Cell c) (grown_same (first_gained (component_at d e)) (gained d e) less)))
          (λ (past : first_gained (component_at d e) ≤ p).
          let inputs : length (part_of (tree_within (with_counts d) m e)).inputs ≡ length (component_at d e).inputs =
          ap (λ (x : PlainComponent). length x.inputs) (same_part (with_counts d) m e) ∙ ap length ((grown_at d e below).inputs) in
          let far : suc (length (part_of (tree_within (with_counts d) m e)).inputs) ≤ p = omega (arith, past, inputs) in
          ending 0 (λ q l. none_leads (part_port (part_of (tree_within (with_counts d) m e)) p) q (part_given (part_of (tree_within (with_counts d) m e)) p far) (subst (λ x. CellLeads other act c p x q) second l)))
          (cases_lt p (first_gained (component_at d e)))

  -- and so is every other port of the component
  pub plain_known : (p : PortRef) → IsInside d part p → mv p ≡ p → IsKnown p
  plain_known p here e = moved_from p here e
