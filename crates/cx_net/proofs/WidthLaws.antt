-- What stands at a node of a net that fits has the node's width, where its state holds what its rows and registers can.
use Rattle.std.proofs.Common.{◌≡◌, ℕ, zero, suc, ◌<◌, Bool, true, false, List, [], ◌∷◌, length, Option, Some, None, nat_lt, option_and_then, option_map, slice_get, refl, sym, ap, ◌∙◌, subst, if◌then◌else◌, arith}
use Rattle.std.specs.Prelude.{◌^◌, unwrap_or}
use Rattle.std.proofs.lemmas.Bool.{lt-ltb}
use Rattle.std.proofs.lemmas.Nat.{pow_pos}
use Rattle.cx_bits.specs.BitVector.{BitVector, zero_of}
use Rattle.cx_bits.specs.Operators.{and_of, or_of, sum_of, complement_of}
use Rattle.cx_bits.proofs.OperatorLaws.{Fits-sum_of, Fits-and_of, Fits-or_of, Fits-complement_of}
use Rattle.cx_prim.specs.declared.ports.PortRow.{PortRow}
use Rattle.cx_prim.specs.declared.ports.Side.{Side}
use Rattle.cx_prim.specs.declared.ports.Side.TheVariants as sides
use Rattle.cx_prim.specs.CellStates.{CellState, IsState}
use Rattle.cx_prim.specs.Rows.{Inputs, Row, input, is_output_side, FitsPorts, AreValues, IsOfWidth, IsLawful}
use Rattle.cx_prim.specs.Table.{PrimitiveRow, row_of}
use Rattle.cx_prim.proofs.TableLaws.{row_of_lawful}
use Rattle.cx_prim.specs.Widths.{IsWidth}
use Rattle.cx_meaning.specs.declared.kinds.PortDecl.{PortDecl}
use Rattle.cx_meaning.specs.declared.ports.PortRef.{PortRef}
use Rattle.cx_meaning.specs.declared.ports.PortRef.TheVariants as ports
use Rattle.cx_meaning.specs.Designs.{PlainKind, OfPrimitive, OfComponent, PlainCell}
use Rattle.cx_meaning.specs.Instances.{Path}
use Rattle.cx_meaning.specs.Sights.{PartPort, Go, AnInput, AnOutput, ItsDone}
use Rattle.cx_meaning.specs.Truths.{compares}
use Rattle.cx_net.specs.Nets.{PlainNetExpr, OfPort, OfRegister, OfWire, OfHole, OfGo, Fixed, Inverse, AllOf, AnyOf, Sum, Compares, PlainNetExprs, no_exprs, an_expr, PlainNetTarget, ToPort, ToRegister, ToWire, ToHole, ToDone, PlainNetDriver, PlainNetComponent, PlainNet}
use Rattle.cx_net.specs.NetTree.{NetInstance, NetCells, ARow, AChild, net_part, net_component_at, net_cells_for, net_within, net_tree}
use Rattle.cx_net.specs.NetMeaning.{NetState, below_cell, Node, APort, AWire, AHole, TheDone, NetLook, NetAround, net_part_port, truth_bit, both_known, is_true, net_expr, all_expr, any_expr, chain, drivers_to, decl_width, child_port_width, net_at_width, gather_known, registers_of, driven_node, row_node, child_node, cell_node, own_step, around_child, net_step, outside, NetHas, by_rule}
use Rattle.cx_net.specs.NetFits.{signature_widths, kind_width, port_width, HasPortWidth, HasWidth, AreBits, target_width, IsFitKind, IsFit}
use Rattle.cx_net.specs.NetPaths.{LeadsTo, width_of_node}
use Rattle.cx_net.specs.NetHolds.{Holds, IsWide, RowsAreWide}
use Rattle.cx_net.proofs.DriverLemmas.{AreFitDrivers, drivers_fit, primitive_width, component_width, at_kind, part-within, cell-at, step-at}
use Rattle.cx_net.proofs.GatherLemmas.{gathered, no_inputs, length-no_inputs, input-no_inputs, input_within}
use Rattle.cx_net.proofs.PortWidths.{WidePort, wide_go, wide_input, wide_output, wide_done, wide_port, input_width}
use Rattle.cx_text.proofs.OptionLaws.{map_some, bind_some, same_some}
use Rattle.cx_net.proofs.NetMeaningLemmas.{bit_width}
use Rattle.cx_text.proofs.BoolLaws.{bit_of_number}
use Rattle.cx_text.proofs.ListLaws.{there_at}
use Rattle.cx_meaning.proofs.RowsLemmas.{side_at}

both_some : (f : BitVector → BitVector → BitVector) (a b : Option BitVector) (v : BitVector) → both_known f a b ≡ Some v → (x : BitVector) × (y : BitVector) × (a ≡ Some x) × (b ≡ Some y) × (f x y ≡ v)
both_some f a b v e =
    let (x, is, g) = bind_some (λ x. option_map (f x) b) a v e in
    let (y, is_y, h) = map_some (f x) b v g in
    (x, y, is, is_y, h)

pub zero_fits : (w : ℕ) → IsWidth w → IsOfWidth w (zero_of w)
zero_fits w wide = record { same_width = refl; fits = record { some_bits = wide.some_bits; few_bits = wide.few_bits; in_range = pow_pos w } }

one_wide : IsWidth 1
one_wide = record { some_bits = omega arith; few_bits = omega arith }

pub bit_is : (v : BitVector) → IsOfWidth 1 v → (b : Bool) × (v ≡ truth_bit b)
bit_is v h =
    let wide = h.same_width in
    let small : v.value < 2 = subst (λ w. v.value < 2 ^ w) wide h.fits.in_range in
    let r = bit_of_number v.value small in
    (r.0, ap (λ w. record { width = w; value = v.value }) wide ∙ ap (λ n. record { width = 1; value = n }) r.1)

and_wide : (a b : BitVector) → IsOfWidth 1 a → IsOfWidth 1 (and_of a b)
and_wide a b h = record { same_width = h.same_width; fits = Fits-and_of a b h.fits }

or_wide : (a b : BitVector) → IsOfWidth 1 a → IsOfWidth 1 b → IsOfWidth 1 (or_of a b)
or_wide a b h k = record { same_width = h.same_width; fits = Fits-or_of a b h.fits k.fits (h.same_width ∙ sym k.same_width) }

-- a component's cell is of a lower one
pub lower_child : (net : PlainNet) → IsFit net → (k c : ℕ) (cell : PlainCell) (j : ℕ) → k < length net.components → slice_get (net_component_at net k).cells c ≡ Some cell → cell.kind ≡ OfComponent j → j < k
lower_child net fit k c cell j here there is = subst (IsFitKind k) is ((fit.components k here).cells c cell there)

-- what holds below a component holds below the component of each of its cells
pub holds_below : (net : PlainNet) (k : ℕ) (s : NetState) → Holds net k s → (c : ℕ) (cell : PlainCell) (child : ℕ) → slice_get (net_component_at net k).cells c ≡ Some cell → cell.kind ≡ OfComponent child → Holds net child (below_cell c s)
holds_below net k s holds c cell child there is = record {
  registers = λ path h n w leads at. holds.registers (c ∷ path) h n w (cell, child, there, is, leads) at;
  cells = λ path h d inner p leads at kind. holds.cells (c ∷ path) h d inner p (cell, child, there, is, leads) at kind;
}

-- a component of a net that fits
module _ (net : PlainNet) (fit : IsFit net) (wide : IsWide net) (rows_wide : RowsAreWide) where
  -- what stands around an instance of component k has its width
  pub record HasAround (k : ℕ) (around : NetAround) : Type 0 where
    pub go : (v : BitVector) → around.go ≡ Some v → IsOfWidth 1 v
    pub inputs : (n w : ℕ) (v : BitVector) → port_width net (net_component_at net k) (ports.Input n) ≡ Some w → around.input n ≡ Some v → IsOfWidth w v

  -- and what is known of it and below it
  abbrev pub IsLooked : ℕ → NetLook → Type 0
  IsLooked k look = (path : Path) (h : ℕ) (node : Node) (w : ℕ) (v : BitVector) → LeadsTo net k path h → width_of_node net (net_component_at net h) node ≡ Some w → look path node ≡ Some v → IsOfWidth w v

  module _ (k : ℕ) (here : k < length net.components) (around : NetAround) (s : NetState) (look : NetLook) (holds : Holds net k s) (outward : HasAround k around) (looked : IsLooked k look) where
    abbrev part : PlainNetComponent
    part = net_component_at net k

    module _ (cells : NetCells) where
      abbrev registers : ℕ → Option BitVector
      registers = registers_of part cells around s (look []) (λ c. look (c ∷ []))

      abbrev value : PlainNetExpr → Option BitVector
      value = net_expr around registers (look [])

      register_wide : (n w : ℕ) (v : BitVector) → slice_get part.registers n ≡ Some w → registers n ≡ Some v → IsOfWidth w v
      register_wide n w v there e =
          let is = same_some (record { width = w; value = s.register [] n }) v (sym (ap (option_map (λ u. record { width = u; value = s.register [] n })) there) ∙ e) in
          let ok = (wide k).registers n w there in
          subst (IsOfWidth w) is (record { same_width = refl; fits = record { some_bits = ok.some_bits; few_bits = ok.few_bits; in_range = holds.registers [] k n w refl there } })

      port_wide : (p : PortRef) (w : ℕ) (v : BitVector) → HasPortWidth net part p w → value (OfPort p) ≡ Some v → IsOfWidth w v
      port_wide (ports.Cell c p) w v h e = looked [] k (APort (ports.Cell c p)) w v refl h e
      port_wide (ports.Input n) w v h e = outward.inputs n w v h e
      port_wide (ports.Output n) w v h e = looked [] k (APort (ports.Output n)) w v refl h e
      port_wide (ports.Done g) w v h e = absurd h
      port_wide (ports.Literal u x) w v h e = subst (IsOfWidth w) (same_some (record { width = u; value = x }) v e) h

      hole_wide : (n w : ℕ) (v : BitVector) → n < part.holes → w ≡ 1 → look [] (AHole n) ≡ Some v → IsOfWidth w v
      hole_wide n w v less one e =
          looked [] k (AHole n) w v refl (ap (λ b. if b then Some 1 else None) (lt-ltb n part.holes less) ∙ ap Some (sym one)) e

      mutual
        pub expr_wide : (e : PlainNetExpr) (w : ℕ) (v : BitVector) → HasWidth net part e w → value e ≡ Some v → IsOfWidth w v
        expr_wide (OfPort p) w v h e = port_wide p w v h e
        expr_wide (OfRegister n) w v h e = register_wide n w v h e
        expr_wide (OfWire n) w v h e = looked [] k (AWire n) w v refl h e
        expr_wide (OfHole n) w v h e = hole_wide n w v h.0 h.1 e
        expr_wide OfGo w v h e = subst (λ u. IsOfWidth u v) (sym h) (outward.go v e)
        expr_wide (Fixed b) w v h e = subst (IsOfWidth w) (same_some b v e) h
        expr_wide (Inverse a) w v h e =
            let (x, is, same) = map_some complement_of (value a) v e in
            let r = expr_wide a w x h is in
            subst (IsOfWidth w) same (record { same_width = r.same_width; fits = Fits-complement_of x r.fits })
        expr_wide (AllOf es) w v h e = subst (λ u. IsOfWidth u v) (sym h.0) (all_wide es v h.1 e)
        expr_wide (AnyOf es) w v h e = subst (λ u. IsOfWidth u v) (sym h.0) (any_wide es v h.1 e)
        expr_wide (Sum a b) w v h e =
            let (x, y, is_x, is_y, same) = both_some sum_of (value a) (value b) v e in
            let r = expr_wide a w x h.0 is_x in
            subst (IsOfWidth w) same (record { same_width = r.same_width; fits = Fits-sum_of x y r.fits })
        expr_wide (Compares c a b) w v h e =
            let (x, y, is_x, is_y, same) = both_some (λ x y. truth_bit (compares c x.value y.value)) (value a) (value b) v e in
            subst (λ u. IsOfWidth u v) (sym h.0) (subst (IsOfWidth 1) same (bit_width (compares c x.value y.value)))

        all_wide : (es : PlainNetExprs) (v : BitVector) → AreBits net part es → all_expr around registers (look []) es ≡ Some v → IsOfWidth 1 v
        all_wide no_exprs v h e = subst (IsOfWidth 1) (same_some (truth_bit true) v e) (bit_width true)
        all_wide (an_expr a es) v h e =
            let (x, y, is_x, is_y, same) = both_some and_of (value a) (all_expr around registers (look []) es) v e in
            subst (IsOfWidth 1) same (and_wide x y (expr_wide a 1 x h.0 is_x))

        any_wide : (es : PlainNetExprs) (v : BitVector) → AreBits net part es → any_expr around registers (look []) es ≡ Some v → IsOfWidth 1 v
        any_wide no_exprs v h e = subst (IsOfWidth 1) (same_some (truth_bit false) v e) (bit_width false)
        any_wide (an_expr a es) v h e =
            let (x, y, is_x, is_y, same) = both_some or_of (value a) (any_expr around registers (look []) es) v e in
            subst (IsOfWidth 1) same (or_wide x y (expr_wide a 1 x h.0 is_x) (any_wide es y h.1 is_y))

      -- what drivers give
      pub chain_wide : (u : BitVector) (w : ℕ) (ds : List PlainNetDriver) (v : BitVector) → IsOfWidth w u → AreFitDrivers net part w ds → chain around registers (look []) u ds ≡ Some v → IsOfWidth w v
      chain_wide u w [] v h fits e = subst (IsOfWidth w) (same_some u v e) h
      chain_wide u w (d ∷ ds) v h fits e =
          let (g, is, f) = bind_some (λ g. if is_true g then value d.source else chain around registers (look []) u ds) (value d.guard) v e in
          go (is_true g) f (λ g. chain_wide u w ds v h fits.2 g)
        where
          go : (b : Bool) → (if b then value d.source else chain around registers (look []) u ds) ≡ Some v → (chain around registers (look []) u ds ≡ Some v → IsOfWidth w v) → IsOfWidth w v
          go true f rest = expr_wide d.source w v fits.1 f
          go false f rest = rest f

      driven_wide : (t : PlainNetTarget) (w : ℕ) (v : BitVector) → IsWidth w → target_width net part t ≡ Some w → driven_node part cells around s (look []) (λ c. look (c ∷ [])) w t ≡ Some v → IsOfWidth w v
      driven_wide t w v ok is_target e = chain_wide (zero_of w) w (drivers_to t part.drivers) v (zero_fits w ok) (drivers_fit net part t w is_target part.drivers (fit.components k here).drivers) e

      -- what an edge gives a register
      pub register_next : (n w : ℕ) (v : BitVector) → slice_get part.registers n ≡ Some w
          → chain around registers (look []) (record { width = w; value = s.register [] n }) (drivers_to (ToRegister n) part.drivers) ≡ Some v → IsOfWidth w v
      register_next n w v there e =
          let old : BitVector = record { width = w; value = s.register [] n } in
          chain_wide old w (drivers_to (ToRegister n) part.drivers) v (register_wide n w old there (ap (option_map (λ u. record { width = u; value = s.register [] n })) there))
          (drivers_fit net part (ToRegister n) w there part.drivers (fit.components k here).drivers) e

      -- a port of a primitive cell
      module _ (c : ℕ) (cell : PlainCell) (p : PrimitiveRow) (there : slice_get part.cells c ≡ Some cell) (is : cell.kind ≡ OfPrimitive p) where
        abbrev row : Row
        row = row_of p

        lawful : IsLawful row
        lawful = row_of_lawful p

        state : CellState
        state = s.cell (c ∷ [])

        of_row : IsState row.shape (s.cell (c ∷ []))
        of_row = holds.cells [] k c cell p refl there is

        pub inputs_fit : (inputs : Inputs) → length inputs ≡ length row.ports → ((n : ℕ) (port : PortRow) (x : BitVector) → slice_get row.ports n ≡ Some port → input inputs n ≡ Some x → IsOfWidth port.width x)
            → FitsPorts row.ports inputs × AreValues inputs
        inputs_fit inputs count each = (
          record { count = count; widths = λ n port x at e. (each n port x at e).same_width },
          λ n x e.
              let within = input_within inputs n x e in
              let (port, at) = there_at row.ports n (subst (λ l. n < l) count within) in
              (each n port x at e).fits,
        )

        output_wide : (inputs : Inputs) → length inputs ≡ length row.ports → ((n : ℕ) (port : PortRow) (x : BitVector) → slice_get row.ports n ≡ Some port → input inputs n ≡ Some x → IsOfWidth port.width x)
            → (n : ℕ) (port : PortRow) → slice_get row.ports n ≡ Some port → is_output_side port.side ≡ true → (b : BitVector) → row.output (s.cell (c ∷ [])) inputs n ≡ Some b → IsOfWidth port.width b
        output_wide inputs count each n port at outward b e =
            let fits = inputs_fit inputs count each in
            lawful.widths (s.cell (c ∷ [])) inputs n port b of_row fits.0 fits.1 at outward e

        row_wide : (n : ℕ) (port : PortRow) → slice_get row.ports n ≡ Some port → (side : Side) → port.side ≡ side → (v : BitVector)
            → row_node part cells around s (look []) (λ c. look (c ∷ [])) row c n side ≡ Some v → IsOfWidth port.width v
        row_wide n port at side is_side v e = go side is_side e where
          width_is : net_at_width (ARow row) n ≡ port.width
          width_is = ap (λ (o : Option PortRow). unwrap_or (option_map (λ x. x.width) o) 1) at

          from_drivers : driven_node part cells around s (look []) (λ c. look (c ∷ [])) (net_at_width (ARow row) n) (ToPort (ports.Cell c n)) ≡ Some v → IsOfWidth port.width v
          from_drivers f =
              driven_wide (ToPort (ports.Cell c n)) port.width v (rows_wide p n port at) (primitive_width net part c cell p n port there is at)
              (subst (λ u. driven_node part cells around s (look []) (λ c. look (c ∷ [])) u (ToPort (ports.Cell c n)) ≡ Some v) width_is f)

          some_output : (inputs : Inputs) → ((b : BitVector) → row.output (s.cell (c ∷ [])) inputs n ≡ Some b → IsOfWidth port.width b) → (o : Option BitVector) → row.output (s.cell (c ∷ [])) inputs n ≡ o
              → IsOfWidth port.width (unwrap_or o (zero_of port.width))
          some_output inputs f None h = zero_fits port.width (rows_wide p n port at)
          some_output inputs f (Some b) h = f b h

          go : (side : Side) → port.side ≡ side → row_node part cells around s (look []) (λ c. look (c ∷ [])) row c n side ≡ Some v → IsOfWidth port.width v
          go sides.Enable is_side f = from_drivers f
          go sides.Plain is_side f = from_drivers f
          go sides.Output is_side f =
              let (inputs, known, value) = map_some (λ inputs. unwrap_or (row.output (s.cell (c ∷ [])) inputs n) (zero_of (net_at_width (ARow row) n)))
              (gather_known (λ q. look [] (APort (ports.Cell c q))) (row.reads n) 0 row.ports) v f in
              let g = gathered (λ q. look [] (APort (ports.Cell c q))) (row.reads n) row.ports inputs known in
              subst (IsOfWidth port.width) (ap (λ u. unwrap_or (row.output (s.cell (c ∷ [])) inputs n) (zero_of u)) (sym width_is) ∙ value)
              (some_output inputs (λ b h. output_wide inputs g.0 (λ m q x at_q x_is. looked [] k (APort (ports.Cell c m)) q.width x refl (primitive_width net part c cell p m q there is at_q) (g.1 m x x_is)) n port at (ap is_output_side is_side) b h) (row.output (s.cell (c ∷ [])) inputs n) refl)
          go sides.Registered is_side f =
              output_wide (no_inputs row.ports) (length-no_inputs row.ports) (λ m q x at_q x_is. absurd (let wrong = sym (input-no_inputs row.ports m) ∙ x_is in cc)) n port at (ap is_output_side is_side) v
              (sym (lawful.registered (s.cell (c ∷ [])) [] (no_inputs row.ports) n port at is_side) ∙ f)

      -- a port of a component's cell
      module _ (c : ℕ) (cell : PlainCell) (child : ℕ) (there : slice_get part.cells c ≡ Some cell) (is : cell.kind ≡ OfComponent child) where
        child_wide : (instance : NetInstance) → net_part instance ≡ net_component_at net child → (p w : ℕ) (v : BitVector) → slice_get (signature_widths (net_component_at net child)) p ≡ Some w
            → child_node part cells around s (look []) (λ c. look (c ∷ [])) instance c p (net_part_port (net_part instance) p) ≡ Some v → IsOfWidth w v
        child_wide instance part_is p w v is_wide e = go (wide_port (net_component_at net child) p w is_wide) where
          by_part : (q : PartPort) → net_part_port (net_component_at net child) p ≡ q → child_node part cells around s (look []) (λ c. look (c ∷ [])) instance c p q ≡ Some v
          by_part q is_q = subst (λ x. child_node part cells around s (look []) (λ c. look (c ∷ [])) instance c p x ≡ Some v) (ap (λ x. net_part_port x p) part_is ∙ is_q) e

          input_is : (n : ℕ) (d : PortDecl) → net_part_port (net_component_at net child) p ≡ AnInput n → slice_get (net_component_at net child).inputs n ≡ Some d → net_at_width (AChild instance) p ≡ d.width
          input_is n d is_q at =
              ap (λ x. child_port_width x (net_part_port x p)) part_is ∙ ap (child_port_width (net_component_at net child)) is_q ∙ ap (λ (o : Option PortDecl). unwrap_or (option_map (λ x. x.width) o) 1) at

          driven_port : IsWidth w → driven_node part cells around s (look []) (λ c. look (c ∷ [])) w (ToPort (ports.Cell c p)) ≡ Some v → IsOfWidth w v
          driven_port ok f = driven_wide (ToPort (ports.Cell c p)) w v ok (component_width net part c cell child p w there is is_wide) f

          go : WidePort (net_component_at net child) p w → IsOfWidth w v
          go (wide_go is_q width place) = driven_port (subst IsWidth (sym width) one_wide) (subst (λ u. driven_node part cells around s (look []) (λ c. look (c ∷ [])) u (ToPort (ports.Cell c p)) ≡ Some v) (sym width) (by_part Go is_q))
          go (wide_input n d is_q at width place) =
              driven_port (subst IsWidth (sym width) ((wide child).inputs n d at))
              (subst (λ u. driven_node part cells around s (look []) (λ c. look (c ∷ [])) u (ToPort (ports.Cell c p)) ≡ Some v) (input_is n d is_q at ∙ sym width) (by_part (AnInput n) is_q))
          go (wide_output n d is_q at width place) = looked (c ∷ []) child (APort (ports.Output n)) w v (cell, child, there, is, refl) (ap (option_map (λ (x : PortDecl). x.width)) at ∙ ap Some (sym width)) (by_part (AnOutput n) is_q)
          go (wide_done is_q width place) = looked (c ∷ []) child TheDone w v (cell, child, there, is, refl) (ap Some (sym width)) (by_part ItsDone is_q)

    -- a node of the instance itself
    module _ (levels : ℕ) where
      abbrev its_cells : NetCells
      its_cells = net_cells_for (net_within net levels) part.cells

      cell_wide : (c p w : ℕ) (v : BitVector) (cell : PlainCell) → slice_get part.cells c ≡ Some cell → (kind : PlainKind) → cell.kind ≡ kind → kind_width net kind p ≡ Some w
          → cell_node part its_cells around s (look []) (λ c. look (c ∷ [])) c p (at_kind (net_within net levels) kind) ≡ Some v → IsOfWidth w v
      cell_wide c p w v cell there (OfPrimitive primitive) is is_wide e =
          let (port, at, same) = map_some (λ (x : PortRow). x.width) (slice_get (row_of primitive).ports p) w is_wide in
          subst (λ u. IsOfWidth u v) same
          (row_wide its_cells c cell primitive there is p port at port.side refl v
          (subst (λ side. row_node part its_cells around s (look []) (λ c. look (c ∷ [])) (row_of primitive) c p side ≡ Some v) (side_at (row_of primitive).ports p port at) e))
      cell_wide c p w v cell there (OfComponent child) is is_wide e = child_wide its_cells c cell child there is (net_within net levels child) (part-within net levels child) p w v is_wide e

      own_wide : (node : Node) (w : ℕ) (v : BitVector) → width_of_node net part node ≡ Some w → own_step part its_cells around s (look []) (λ c. look (c ∷ [])) node ≡ Some v → IsOfWidth w v
      own_wide (APort (ports.Cell c p)) w v is_wide e =
          let (cell, there, kind) = bind_some (λ (x : PlainCell). kind_width net x.kind p) (slice_get part.cells c) w is_wide in
          cell_wide c p w v cell there cell.kind refl kind
          (subst (λ at. cell_node part its_cells around s (look []) (λ c. look (c ∷ [])) c p at ≡ Some v) (cell-at (net_within net levels) part.cells c cell there) e)
      own_wide (APort (ports.Input n)) w v is_wide e = absurd (cc)
      own_wide (APort (ports.Output n)) w v is_wide e =
          let (d, there, same) = map_some (λ (x : PortDecl). x.width) (slice_get part.outputs n) w is_wide in
          let width : decl_width part.outputs n ≡ w = ap (λ (o : Option PortDecl). unwrap_or (option_map (λ x. x.width) o) 1) there ∙ same in
          driven_wide its_cells (ToPort (ports.Output n)) w v (subst IsWidth same ((wide k).outputs n d there)) is_wide
          (subst (λ u. driven_node part its_cells around s (look []) (λ c. look (c ∷ [])) u (ToPort (ports.Output n)) ≡ Some v) width e)
      own_wide (APort (ports.Done g)) w v is_wide e = absurd (cc)
      own_wide (APort (ports.Literal u x)) w v is_wide e = absurd (cc)
      own_wide (AWire n) w v is_wide e =
          driven_wide its_cells (ToWire n) w v ((wide k).wires n w is_wide) is_wide
          (sym (ap (option_and_then (λ u. driven_node part its_cells around s (look []) (λ c. look (c ∷ [])) u (ToWire n))) is_wide) ∙ e)
      own_wide (AHole n) w v is_wide e = go (nat_lt n part.holes) refl is_wide e where
        go : (b : Bool) → nat_lt n part.holes ≡ b → (if b then Some 1 else None) ≡ Some w → (if b then driven_node part its_cells around s (look []) (λ c. look (c ∷ [])) 1 (ToHole n) else None) ≡ Some v → IsOfWidth w v
        go true there f g = subst (λ u. IsOfWidth u v) (same_some 1 w f) (driven_wide its_cells (ToHole n) 1 v one_wide (ap (λ b. if b then Some 1 else None) there) g)
        go false there f g = absurd (cc)
      own_wide TheDone w v is_wide e = subst (λ u. IsOfWidth u v) (same_some 1 w is_wide) (driven_wide its_cells ToDone 1 v one_wide refl e)

  pub around_below : (k : ℕ) (look : NetLook) → IsLooked k look → (c : ℕ) (cell : PlainCell) (child : ℕ) → slice_get (net_component_at net k).cells c ≡ Some cell → cell.kind ≡ OfComponent child → HasAround child (around_child c (look []))
  around_below k look looked c cell child there is = record {
    go = λ v e. looked [] k (APort (ports.Cell c 0)) 1 v refl (component_width net (net_component_at net k) c cell child 0 1 there is refl) e;
    inputs = λ n w v is_wide e.
        let (d, at, same) = map_some (λ (x : PortDecl). x.width) (slice_get (net_component_at net child).inputs n) w is_wide in
        looked [] k (APort (ports.Cell c (suc n))) w v refl (component_width net (net_component_at net k) c cell child (suc n) w there is (input_width (net_component_at net child) n d at ∙ ap Some same)) e;
  }

  -- by one rule
  node_wide : (path : Path) (levels k : ℕ) → k < levels → k < length net.components → (around : NetAround) (s : NetState) (look : NetLook) → Holds net k s → HasAround k around → IsLooked k look
      → (h : ℕ) (node : Node) (w : ℕ) (v : BitVector) → LeadsTo net k path h → width_of_node net (net_component_at net h) node ≡ Some w → net_step (net_within net levels k) around s look path node ≡ Some v → IsOfWidth w v
  node_wide path zero k lower here around s look holds outward looked h node w v leads is_wide e = absurd (omega arith)
  node_wide [] (suc levels) k lower here around s look holds outward looked h node w v leads is_wide e =
      own_wide k here around s look holds outward looked levels node w v (subst (λ x. width_of_node net (net_component_at net x) node ≡ Some w) (sym leads) is_wide) e
  node_wide (c ∷ path) (suc levels) k lower here around s look holds outward looked h node w v (cell, child, there, is, leads) is_wide e =
      let less : child < k = lower_child net fit k c cell child here there is in
      node_wide path levels child (omega arith) (omega arith) (around_child c (look [])) (below_cell c s) (λ q. look (c ∷ q)) (holds_below net k s holds c cell child there is) (around_below k look looked c cell child there is)
      (λ q g inner u x below width known. looked (c ∷ q) g inner u x (cell, child, there, is, below) width known) h node w v leads is_wide
      (sym (step-at (net_within net levels) (around_child c (look [])) (below_cell c s) (λ q. look (c ∷ q)) path (net_component_at net k).cells c cell child there is node) ∙ e)

  pub main_around : (go : Bool) → HasAround net.main (outside go)
  main_around go = record { go = λ v e. subst (IsOfWidth 1) (same_some (truth_bit go) v e) (bit_width go); inputs = λ n w v is_wide e. absurd (cc) }

  -- VALUES HAVE THEIR WIDTHS
  pub values_wide : (go : Bool) (s : NetState) → Holds net net.main s → (path : Path) (h w : ℕ) (node : Node) (v : BitVector) → LeadsTo net net.main path h → width_of_node net (net_component_at net h) node ≡ Some w
      → NetHas (net_tree net) go s path node v → IsOfWidth w v
  values_wide go s holds path h w node v leads is_wide (by_rule look known e) =
      node_wide path (length net.components) net.main fit.has_main fit.has_main (outside go) s look holds (main_around go)
      (λ q g inner u x down width seen. values_wide go s holds q g u inner x down width (known q inner x seen)) h node w v leads is_wide e
