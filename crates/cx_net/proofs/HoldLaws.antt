-- The state of a net that fits goes on to hold what its rows and registers can.
use Rattle.std.proofs.Common.{◌≡◌, ℕ, zero, suc, ◌<◌, Bool, true, false, List, [], ◌∷◌, ◌++◌, length, Option, Some, None, IsSome, option_map, slice_get, refl, sym, ap, ◌∙◌, subst, if◌then◌else◌, arith}
use Rattle.std.specs.Prelude.{◌^◌, unwrap_or}
use Rattle.std.specs.Option.{option_map_or}
use Rattle.cx_bits.specs.BitVector.{BitVector, zero_of}
use Rattle.cx_prim.specs.declared.ports.PortRow.{PortRow}
use Rattle.cx_prim.specs.CellStates.{CellState, IsState}
use Rattle.cx_prim.specs.Rows.{Inputs, Row, input, IsOfWidth, IsLawful}
use Rattle.cx_prim.specs.Table.{PrimitiveRow, row_of}
use Rattle.cx_prim.proofs.TableLaws.{row_of_lawful}
use Rattle.cx_meaning.specs.declared.ports.PortRef.TheVariants as ports
use Rattle.cx_meaning.specs.Designs.{OfPrimitive, OfComponent, PlainCell}
use Rattle.cx_meaning.specs.Instances.{Path}
use Rattle.cx_net.specs.Nets.{ToRegister, PlainNetDriver, PlainNetComponent, PlainNet}
use Rattle.cx_net.specs.NetTree.{NetCells, net_component_at, net_cells_for, net_within, net_tree}
use Rattle.cx_net.specs.NetMeaning.{NetState, below_cell, APort, NetLook, NetAround, is_true, drivers_to, around_child, outside}
use Rattle.cx_net.specs.NetEdges.{inputs_from, row_after, cell_after, taken, value_in, guard_in, own_register, register_after, net_after}
use Rattle.cx_net.specs.NetRuns.{IsWholeLook}
use Rattle.cx_net.specs.NetFits.{IsFit}
use Rattle.cx_net.specs.NetPaths.{LeadsTo}
use Rattle.cx_net.specs.NetHolds.{Holds, IsWide, RowsAreWide}
use Rattle.cx_net.proofs.DriverLemmas.{AreFitDrivers, drivers_fit, primitive_width, register-at, state-at}
use Rattle.cx_net.proofs.GatherLemmas.{length-inputs_from, input-from_look}
use Rattle.cx_net.proofs.WidthLaws.{HasAround, IsLooked, lower_child, holds_below, around_below, main_around, values_wide, expr_wide, inputs_fit, zero_fits}

module _ (net : PlainNet) (fit : IsFit net) (wide : IsWide net) (rows_wide : RowsAreWide) where
  -- what is known of an instance and around it
  pub record Known (k : ℕ) (around : NetAround) (s : NetState) (look : NetLook) : Type 0 where
    pub here : k < length net.components
    pub holds : Holds net k s
    pub outward : HasAround net fit wide rows_wide k around
    pub looked : IsLooked net fit wide rows_wide k look

  known_below : (k : ℕ) (around : NetAround) (s : NetState) (look : NetLook) → Known k around s look → (c : ℕ) (cell : PlainCell) (child : ℕ) → slice_get (net_component_at net k).cells c ≡ Some cell → cell.kind ≡ OfComponent child
      → (child < k) × Known child (around_child c (look [])) (below_cell c s) (λ q. look (c ∷ q))
  known_below k around s look x c cell child there is =
      let less : child < k = lower_child net fit k c cell child x.here there is in
      let before = x.here in (
        less,
        record {
          here = omega (arith, less, before);
          holds = holds_below net k s x.holds c cell child there is;
          outward = around_below net fit wide rows_wide k look x.looked c cell child there is;
          looked = λ q g node u v below width seen. x.looked (c ∷ q) g node u v (cell, child, there, is, below) width seen;
        },
      )

  -- a register takes a number of its width
  module _ (k : ℕ) (around : NetAround) (s : NetState) (look : NetLook) (x : Known k around s look) (cells : NetCells) where
    abbrev part : PlainNetComponent
    part = net_component_at net k

    some_source : (w old : ℕ) (o : Option BitVector) → old < 2 ^ w → ((b : BitVector) → o ≡ Some b → IsOfWidth w b) → option_map_or (λ b. b.value) o old < 2 ^ w
    some_source w old None small each = small
    some_source w old (Some b) small each = let h = each b refl in subst (λ u. b.value < 2 ^ u) h.same_width h.fits.in_range

    taken_small : (w old : ℕ) (ds : List PlainNetDriver) → old < 2 ^ w → AreFitDrivers net part w ds → taken (guard_in part cells around s look) (value_in part cells around s look) old ds < 2 ^ w
    taken_small w old [] small fits = small
    taken_small w old (d ∷ ds) small fits = go (option_map_or is_true (guard_in part cells around s look d) false) (taken_small w old ds small fits.2) where
      go : (b : Bool) → taken (guard_in part cells around s look) (value_in part cells around s look) old ds < 2 ^ w
          → (if b then option_map_or (λ v. v.value) (value_in part cells around s look d) old else taken (guard_in part cells around s look) (value_in part cells around s look) old ds) < 2 ^ w
      go true rest = some_source w old (value_in part cells around s look d) small (λ b e. expr_wide net fit wide rows_wide k x.here around s look x.holds x.outward x.looked cells d.source w b fits.1 e)
      go false rest = rest

    own_small : (n w : ℕ) → slice_get part.registers n ≡ Some w → own_register part cells around s look n < 2 ^ w
    own_small n w there =
        taken_small w (s.register [] n) (drivers_to (ToRegister n) part.drivers) (x.holds.registers [] k n w refl there)
        (drivers_fit net part (ToRegister n) w there part.drivers (fit.components k x.here).drivers)

    -- and a cell comes to a state of its row
    row_holds : (c : ℕ) (cell : PlainCell) (p : PrimitiveRow) → slice_get part.cells c ≡ Some cell → cell.kind ≡ OfPrimitive p → IsState (row_of p).shape (row_after false look c (row_of p) (s.cell (c ∷ [])))
    row_holds c cell p there is =
        let row : Row = row_of p in
        let lawful : IsLawful row = row_of_lawful p in
        let fits = inputs_fit net fit wide rows_wide k x.here around s look x.holds x.outward x.looked cells c cell p there is (inputs_from look c 0 row.ports) (length-inputs_from look c 0 row.ports) (λ n port b at e. each n port b at e) in
        lawful.states.next (s.cell (c ∷ [])) (inputs_from look c 0 row.ports) (x.holds.cells [] k c cell p refl there is) fits.0 fits.1
      where
        some_port : (port : PortRow) (n : ℕ) → slice_get (row_of p).ports n ≡ Some port → (o : Option BitVector) → look [] (APort (ports.Cell c n)) ≡ o → IsOfWidth port.width (unwrap_or o (zero_of port.width))
        some_port port n at None e = zero_fits port.width (rows_wide p n port at)
        some_port port n at (Some b) e = x.looked [] k (APort (ports.Cell c n)) port.width b refl (primitive_width net part c cell p n port there is at) e

        each : (n : ℕ) (port : PortRow) (b : BitVector) → slice_get (row_of p).ports n ≡ Some port → input (inputs_from look c 0 (row_of p).ports) n ≡ Some b → IsOfWidth port.width b
        each n port b at e =
            let same : unwrap_or (look [] (APort (ports.Cell c n))) (zero_of port.width) ≡ b = is_same (sym (input-from_look look c (row_of p).ports n port at) ∙ e) in
            subst (IsOfWidth port.width) same (some_port port n at (look [] (APort (ports.Cell c n))) refl)
          where
            is_same : Some (unwrap_or (look [] (APort (ports.Cell c n))) (zero_of port.width)) ≡ Some b → unwrap_or (look [] (APort (ports.Cell c n))) (zero_of port.width) ≡ b
            is_same f = cc

  registers_hold : (path : Path) (levels k : ℕ) → k < levels → (around : NetAround) (s : NetState) (look : NetLook) → Known k around s look
      → (h n w : ℕ) → LeadsTo net k path h → slice_get (net_component_at net h).registers n ≡ Some w → register_after (net_within net levels k) around s look path n < 2 ^ w
  registers_hold path zero k lower around s look x h n w leads there = absurd (omega arith)
  registers_hold [] (suc levels) k lower around s look x h n w leads there =
      own_small k around s look x (net_cells_for (net_within net levels) (net_component_at net k).cells) n w (subst (λ g. slice_get (net_component_at net g).registers n ≡ Some w) (sym leads) there)
  registers_hold (c ∷ path) (suc levels) k lower around s look x h n w (cell, child, at, is, leads) there =
      let b = known_below k around s look x c cell child at is in
      let less : child < k = b.0 in
      subst (λ u. u < 2 ^ w) (sym (register-at (net_within net levels) (around_child c (look [])) (below_cell c s) (λ q. look (c ∷ q)) path (net_component_at net k).cells c cell child at is n))
      (registers_hold path levels child (omega arith) (around_child c (look [])) (below_cell c s) (λ q. look (c ∷ q)) b.1 h n w leads there)

  states_hold : (path : Path) (levels k : ℕ) → k < levels → (around : NetAround) (s : NetState) (look : NetLook) → Known k around s look
      → (h c : ℕ) (cell : PlainCell) (p : PrimitiveRow) → LeadsTo net k path h → slice_get (net_component_at net h).cells c ≡ Some cell → cell.kind ≡ OfPrimitive p
      → IsState (row_of p).shape (cell_after false (net_within net levels k) look (path ++ c ∷ []) (s.cell (path ++ c ∷ [])))
  states_hold path zero k lower around s look x h c cell p leads there is = absurd (omega arith)
  states_hold [] (suc levels) k lower around s look x h c cell p leads there is =
      let here : slice_get (net_component_at net k).cells c ≡ Some cell = subst (λ g. slice_get (net_component_at net g).cells c ≡ Some cell) (sym leads) there in
      subst (IsState (row_of p).shape) (sym (state-at (net_within net levels) false look (s.cell (c ∷ [])) (OfPrimitive p) (net_component_at net k).cells c c cell [] here is))
      (row_holds k around s look x (net_cells_for (net_within net levels) (net_component_at net k).cells) c cell p here is)
  states_hold (e ∷ path) (suc levels) k lower around s look x h c cell p (outer, child, at, kind, leads) there is =
      let b = known_below k around s look x e outer child at kind in
      let less : child < k = b.0 in
      subst (IsState (row_of p).shape) (sym (state-at (net_within net levels) false look (s.cell (e ∷ path ++ c ∷ [])) (OfComponent child) (net_component_at net k).cells e e outer (path ++ c ∷ []) at kind))
      (states_hold path levels child (omega arith) (around_child e (look [])) (below_cell e s) (λ q. look (e ∷ q)) b.1 h c cell p leads there is)

  -- AN EDGE without reset
  pub holds_on : (go : Bool) (s : NetState) (look : NetLook) → Holds net net.main s → IsWholeLook (net_tree net) go s look → Holds net net.main (net_after (net_tree net) false go s look)
  holds_on go s look holds whole = record {
    registers = λ path h n w leads there. registers_hold path (length net.components) net.main fit.has_main (outside go) s look known h n w leads there;
    cells = λ path h c cell p leads there is. states_hold path (length net.components) net.main fit.has_main (outside go) s look known h c cell p leads there is;
  }
    where
      known : Known net.main (outside go) s look
      known = record {
        here = fit.has_main;
        holds = holds;
        outward = main_around net fit wide rows_wide go;
        looked = λ path h node w v leads width seen. values_wide net fit wide rows_wide go s holds path h w node v leads width (whole.right path node v seen);
      }
