-- In the net of a component each timer of an island is a cell with the row of a timer, behind the component's own cells, and no
-- assignment drives it.
use Rattle.std.proofs.Common.{◌≡◌, ℕ, zero, suc, ◌+◌, ◌<◌, ◌≤◌, ◌==◌, ◌^◌, nat_le, nat_lt, unwrap_or, false, if◌then◌else◌, List, [], ◌∷◌, ◌++◌, length, Option, Some, None, slice_get, refl, sym, ap, ◌∙◌, arith}
use Rattle.cx_text.specs.declared.places.Place.{Place}
use Rattle.cx_prim.specs.declared.names.PrimitiveName.TheVariants as primitives
use Rattle.cx_prim.specs.Rows.{Row}
use Rattle.cx_prim.specs.PipeRows.{timer_row}
use Rattle.cx_prim.specs.Table.{PrimitiveRow, no_row, row_of}
use Rattle.std.proofs.lemmas.Bool.{and_from, le-leb, lt-ltb, ne_eqb}
use Rattle.cx_meaning.specs.declared.ports.PortRef.{PortRef}
use Rattle.cx_meaning.specs.declared.ports.PortRef.TheVariants as ports
use Rattle.cx_meaning.specs.Designs.{PlainKind, OfPrimitive, OfComponent, PlainCell, PlainComponent}
use Rattle.cx_meaning.specs.Instances.{Instance, Cells, no_cells, a_primitive, an_instance, cell_count}
use Rattle.cx_meaning.specs.Active.{Owned}
use Rattle.cx_text.specs.Members.{In}
use Rattle.cx_net.specs.Nets.{PlainNetComponent, ToPort}
use Rattle.cx_net.specs.NetTree.{NetCells, ARow, net_cell_at}
use Rattle.cx_net.specs.NetMeaning.{NetState, same_target}
use Rattle.cx_static.specs.declared.islands.IslandTimer.{IslandTimer}
use Rattle.cx_static.specs.Islands.{PlainIsland}
use Rattle.cx_static.specs.Lowering.{timer_cell, lowered_component}
use Rattle.cx_wiring.specs.Assignments.{target_of, driven_assigns, assigns_drivers}
use Rattle.cx_wiring.specs.Reached.{component_of_kind, components_of}
use Rattle.cx_wiring.specs.PartNets.{row_of_kind, rows_among, timer_cells, timers_of, rows_alone, net_of_cells}
use Rattle.cx_wiring.specs.Wiring.{groups, first_of_assigns}
use Rattle.cx_wiring.specs.Bounds.{AllDrive}
use Rattle.cx_wiring.proofs.AssignTargets.{assigns_drive_to}
use Rattle.cx_wiring.proofs.TimerCells.{cells-lowered_component, components_of-timer_cells}
use Rattle.cx_wiring.proofs.IslandCells.{timers_before, cell_stands, timers_stand, timers_lie}
use Rattle.cx_text.proofs.ListLaws.{behind as slice_get-append}

-- where none is a component each cell has its row
none_else : (k : ℕ) (ks : List ℕ) → ◌≡◌ {A = List ℕ} (k ∷ ks) [] → ⊥
none_else k ks f = cc

kind_of_first : (x y : PlainCell) → ◌≡◌ {A = Option PlainCell} (Some x) (Some y) → x.kind ≡ y.kind
kind_of_first x y f = let s : x ≡ y = cc in ap (λ (z : PlainCell). z.kind) s

same_primitive : (a b : PrimitiveRow) → OfPrimitive a ≡ OfPrimitive b → a ≡ b
same_primitive a b f = cc

-- the primitive of a timer of so many cycles
abbrev timer_primitive : ℕ → PrimitiveRow
timer_primitive p = record { name = primitives.Timer; numbers = p ∷ [] }

pub row_of_timer : (p : ℕ) → 1 ≤ p → p < 2 ^ 32 → row_of (record { name = primitives.Timer; numbers = p ∷ [] }) ≡ timer_row p
row_of_timer p some few = ap (λ b. unwrap_or (if b then Some (timer_row p) else None) no_row) (and_from (nat_le 1 p) (nat_lt p (2 ^ 32)) (le-leb 1 p some) (lt-ltb p (2 ^ 32) few))

rows_at : (cells : List PlainCell) → components_of cells ≡ [] → (i : ℕ) (place : Place) (p : ℕ) → slice_get cells i ≡ Some (timer_cell place p) → slice_get (rows_among cells) i ≡ Some (row_of (record { name = primitives.Timer; numbers = p ∷ [] }))
rows_at [] none i place p e = absurd cc
rows_at (cell ∷ rest) none i place p e = by cell.kind refl none (λ clear j f. rows_at rest clear j place p f) i e
  where
    by : (kind : PlainKind) → cell.kind ≡ kind → component_of_kind kind ++ components_of rest ≡ [] → (components_of rest ≡ [] → (j : ℕ) → slice_get rest j ≡ Some (timer_cell place p) → slice_get (rows_among rest) j ≡ Some (row_of (timer_primitive p)))
        → (i : ℕ) → slice_get (cell ∷ rest) i ≡ Some (timer_cell place p) → slice_get (row_of_kind kind ++ rows_among rest) i ≡ Some (row_of (timer_primitive p))
    by (OfPrimitive primitive) is clear later zero e = ap (λ r. Some (row_of r)) (same_primitive primitive (record { name = primitives.Timer; numbers = p ∷ [] }) (sym is ∙ kind_of_first cell (timer_cell place p) e))
    by (OfPrimitive primitive) is clear later (suc j) e = later clear j e
    by (OfComponent k) is clear later i e = absurd (none_else k (components_of rest) clear)

row_alone : (W : PlainComponent → PlainNetComponent) (T : PlainComponent → List Row) (N : Instance → NetState → ℕ → ℕ) (rows : List Row) (i : ℕ) (row : Row) → slice_get rows i ≡ Some row → net_cell_at (rows_alone W T N rows) i ≡ ARow row
row_alone W T N [] i row e = absurd cc
row_alone W T N (first ∷ rest) zero row e = same first row e
  where
    same : (x y : Row) → ◌≡◌ {A = Option Row} (Some x) (Some y) → ARow x ≡ ARow y
    same x y f = let s : x ≡ y = cc in ap ARow s
row_alone W T N (first ∷ rest) (suc i) row e = row_alone W T N rest i row e

behind_cells : (W : PlainComponent → PlainNetComponent) (T : PlainComponent → List Row) (N : Instance → NetState → ℕ → ℕ) (cells : Cells) (more : List Row) (i : ℕ) (row : Row) → slice_get more i ≡ Some row
    → net_cell_at (net_of_cells W T N cells more) (cell_count cells + i) ≡ ARow row
behind_cells W T N no_cells more i row e = let none : 0 + i ≡ i = omega arith in ap (net_cell_at (rows_alone W T N more)) none ∙ row_alone W T N more i row e
behind_cells W T N (a_primitive first rest) more i row e =
    let next : suc (cell_count rest) + i ≡ suc (cell_count rest + i) = omega arith in ap (net_cell_at (net_of_cells W T N (a_primitive first rest) more)) next ∙ behind_cells W T N rest more i row e
behind_cells W T N (an_instance child rest) more i row e =
    let next : suc (cell_count rest) + i ≡ suc (cell_count rest + i) = omega arith in ap (net_cell_at (net_of_cells W T N (an_instance child rest) more)) next ∙ behind_cells W T N rest more i row e

module _ (part : PlainComponent) where
  -- THE TIMERS of a component's islands
  abbrev pub EachTimer : (IslandTimer → Type 0) → Type 0
  EachTimer P = (k : ℕ) (island : PlainIsland) → slice_get (lowered_component part).islands k ≡ Some island → (t : ℕ) (timer : IslandTimer) → slice_get island.timers t ≡ Some timer → P timer

  -- each counts some cycles, and no more than 32 bits number
  abbrev pub TimersFit : Type 0
  TimersFit = EachTimer (λ timer. (p : ℕ) → slice_get (lowered_component part).part.cells timer.cell ≡ Some (timer_cell part.place p) → (1 ≤ p) × (p < 2 ^ 32))

  -- its cell in the lowered component, and in the net
  pub record IsTimerIn (cells : NetCells) (timer : IslandTimer) : Type 0 where
    pub cycles : ℕ
    pub there : slice_get (lowered_component part).part.cells timer.cell ≡ Some (timer_cell part.place cycles)
    pub some : 1 ≤ cycles
    pub few : cycles < 2 ^ 32
    pub in_net : net_cell_at cells timer.cell ≡ ARow (timer_row cycles)

  pub timer_rows : (W : PlainComponent → PlainNetComponent) (T : PlainComponent → List Row) (N : Instance → NetState → ℕ → ℕ) (cells : Cells) → cell_count cells ≡ length part.cells → TimersFit
      → EachTimer (IsTimerIn (net_of_cells W T N cells (timers_of part)))
  timer_rows W T N cells count fit k island is t timer at =
      let lies = timers_lie part k island is t timer at in
      let cell : timer.cell ≡ length part.cells + timers_before (lowered_component part).islands k + t = cell_stands (length part.cells) _ (lowered_component part).islands (timers_stand part) k island is t timer at in
      let i = timers_before (lowered_component part).islands k + t in
      let at_cell : timer.cell ≡ length part.cells + (timers_before (lowered_component part).islands k + t) = omega arith in
      let behind : timer.cell ≡ cell_count cells + (timers_before (lowered_component part).islands k + t) = omega arith in
      let there : slice_get (timer_cells part) i ≡ Some (timer_cell part.place lies.0) =
      sym (slice_get-append part.cells (timer_cells part) timer.cell i at_cell) ∙ ap (λ list. slice_get list timer.cell) (sym (cells-lowered_component part)) ∙ lies.1 in
      let fits = fit k island is t timer at lies.0 lies.1 in
      record {
        cycles = lies.0;
        there = lies.1;
        some = fits.0;
        few = fits.1;
        in_net = ap (net_cell_at (net_of_cells W T N cells (timers_of part))) behind
            ∙ behind_cells W T N cells (timers_of part) i _ (rows_at (timer_cells part) (components_of-timer_cells part) i part.place lies.0 there)
            ∙ ap ARow (row_of_timer lies.0 fits.0 fits.1);
      }

  -- a target is no port of a cell behind the component's own
  abbrev pub IsOwnTarget : PortRef → Type 0
  IsOwnTarget (ports.Cell c p) = c < length part.cells
  IsOwnTarget (ports.Input n) = Unit {0}
  IsOwnTarget (ports.Output n) = Unit {0}
  IsOwnTarget (ports.Done g) = Unit {0}
  IsOwnTarget (ports.Literal w v) = Unit {0}

  own_skips : (c : ℕ) → length part.cells ≤ c → (p : PortRef) → IsOwnTarget p → same_target (target_of p) (ToPort (ports.Cell c 0)) ≡ false
  own_skips c behind (ports.Cell e p) own = ap (λ b. if b then p == 0 else false) (ne_eqb e c (λ same. omega arith))
  own_skips c behind (ports.Input n) own = refl
  own_skips c behind (ports.Output n) own = refl
  own_skips c behind (ports.Done g) own = refl
  own_skips c behind (ports.Literal w v) own = refl

  pub assigns_skip : ((o : Owned) → In (driven_assigns (lowered_component part)) o → IsOwnTarget o.assign.target)
      → EachTimer (λ timer. AllDrive (λ u. same_target u (ToPort (ports.Cell timer.cell 0)) ≡ false) (assigns_drivers (groups (lowered_component part)) (first_of_assigns (lowered_component part)) (driven_assigns (lowered_component part))))
  assigns_skip own k island is t timer at =
      let cell : timer.cell ≡ length part.cells + timers_before (lowered_component part).islands k + t = cell_stands (length part.cells) _ (lowered_component part).islands (timers_stand part) k island is t timer at in
      assigns_drive_to (λ u. same_target u (ToPort (ports.Cell timer.cell 0)) ≡ false) (groups (lowered_component part)) (driven_assigns (lowered_component part)) (first_of_assigns (lowered_component part))
      (λ o i. own_skips timer.cell (omega arith) o.assign.target (own o i)) (record { among = λ n l h. refl })
