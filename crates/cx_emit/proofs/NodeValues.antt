-- A node of a net that has a value has it in the source too.
use Rattle.std.proofs.Common.{◌≡◌, ℕ, zero, suc, ◌<◌, ◌≤◌, Bool, true, false, List, [], ◌∷◌, length, Option, Some, option_map, option_and_then, slice_get, refl, ap, sym, ◌∙◌, subst, if◌then◌else◌, arith}
use Rattle.std.specs.Prelude.{unwrap_or, codes}
use Rattle.std.specs.Option.{option_map_or}
use Rattle.cx_bits.specs.BitVector.{BitVector, zero_of}
use Rattle.cx_bits.proofs.OperatorLaws.{Fits-bit_of}
use Rattle.cx_prim.specs.CellStates.{CellState}
use Rattle.cx_prim.specs.declared.ports.PortRow.{PortRow}
use Rattle.cx_prim.specs.declared.ports.Side.{Side}
use Rattle.cx_prim.specs.declared.ports.Side.TheVariants as sides
use Rattle.cx_prim.specs.Rows.{Inputs, Row, input, is_output_side, IsOfWidth, IsLawful}
use Rattle.cx_prim.specs.Table.{PrimitiveRow, row_of}
use Rattle.cx_prim.proofs.TableLaws.{row_of_lawful}
use Rattle.cx_meaning.specs.declared.ports.PortRef.{PortRef}
use Rattle.cx_meaning.specs.declared.ports.PortRef.TheVariants as ports
use Rattle.cx_meaning.specs.declared.kinds.PortDecl.{PortDecl}
use Rattle.cx_meaning.specs.Designs.{PlainKind, OfPrimitive, OfComponent, PlainCell}
use Rattle.cx_meaning.specs.Instances.{Path}
use Rattle.cx_meaning.specs.Sights.{PartPort, Go, AnInput, AnOutput, ItsDone}
use Rattle.cx_vtree.specs.Plain.{PlainExpr, Named, PlainPort, PlainModule, PlainSource}
use Rattle.cx_vtree.specs.InstanceTree.{Placed, ports_at, Given, origin_of}
use Rattle.cx_vtree.specs.Meaning.{Moment, HasValue, Eval}
use Rattle.cx_vtree.specs.Sound.{is_sound}
use Rattle.cx_vlaws.proofs.Ties.{input_outside}
use Rattle.cx_vlaws.proofs.ExpressionWidths.{IsWide}
use Rattle.cx_vmods.specs.Modules.{port_of}
use Rattle.cx_vmods.specs.Built.{IsAt}
use Rattle.cx_net.specs.Nets.{OfPort, OfWire, PlainNetTarget, ToPort, ToRegister, ToWire, ToDone, PlainNetComponent, PlainNet}
use Rattle.cx_net.specs.NetTree.{NetInstance, NetCells, no_net_cells, ARow, AChild, net_part, net_component_at, net_cells_for, net_within, net_tree}
use Rattle.cx_net.specs.NetMeaning.{NetState, below_cell, Node, APort, AWire, AHole, TheDone, NetLook, NetAround, net_part_port, around_child, outside, truth_bit, net_expr, child_port_width, net_at_width, gather_known, decl_width, drivers_to, chain, registers_of, driven_node, row_node, child_node, cell_node, own_step, net_step, NetHas, by_rule}
use Rattle.cx_emit.specs.Names.{input_name, output_name, cell_port_name, wire_name, register_name}
use Rattle.cx_emit.specs.Exprs.{literal, port_expr}
use Rattle.cx_emit.specs.Chains.{chain_to}
use Rattle.cx_emit.specs.Signatures.{primitive_module, one_bit, input_port, output_port, signature_of, signature_at, kind_ports}
use Rattle.cx_emit.specs.Sources.{source_of}
use Rattle.cx_net.specs.NetPaths.{LeadsTo}
use Rattle.cx_emit.specs.Places.{cell_number, number_at, node_name}
use Rattle.cx_vmods.specs.Laws.{EachIsBuilt}
use Rattle.cx_vmods.proofs.TableLaws.{each_is_built}
use Rattle.cx_net.specs.NetFits.{signature_widths, kind_width, port_width, HasPortWidth, target_width, IsFit, HasNoHoles}
use Rattle.cx_emit.specs.Fits.{IsFlat, node_width, stand_for}
use Rattle.cx_emit.specs.States.{StatesStand}
use Rattle.cx_emit.specs.RunsAs.{ValuesCarry}
use Rattle.cx_emit.proofs.Evals.{IsReading, eval_reading, eval_named, value_tied, value_held, value_outside, value_given}
use Rattle.cx_emit.proofs.ExprLemmas.{Reads, reads_chain}
use Rattle.cx_emit.proofs.Standing.{tree, comp_there, IsPlaced, main_placed, ports_of_cell, IsCell, cell_placed, child_placed, child_lower}
use Rattle.cx_emit.proofs.Origins.{port_is_wide, port_given, cell_input_tied, cell_output_ties, wire_is_wide, wire_given, register_is_wide, register_is_held, output_is_wide, output_given, done_given}
use Rattle.cx_emit.proofs.ReadLemmas.{row_of_reads}
use Rattle.cx_net.proofs.GatherLemmas.{gathered, no_inputs, length-no_inputs, input-no_inputs}
use Rattle.cx_emit.proofs.CellValues.{Carried, zero_fits, text_port, inputs_stand, output_carried}
use Rattle.cx_net.proofs.DriverLemmas.{drivers_fit, primitive_width, component_width, at_kind, part-within, cell-at, step-at}
use Rattle.cx_emit.proofs.PortPlaces.{done_port, PortIs, is_go, is_input, is_output, is_done, port_is, input_place}
use Rattle.cx_text.proofs.OptionLaws.{map_some, bind_some, same_some}
use Rattle.cx_meaning.proofs.RowsLemmas.{side_at}

module _ (net : PlainNet) (sound : is_sound (source_of net) ≡ true) (fit : IsFlat net) (built : EachIsBuilt) (now : Moment) where
  abbrev the_source : PlainSource
  the_source = source_of net

  abbrev the_tree : List Placed
  the_tree = tree net sound fit

  abbrev Carries : ℕ → List ℕ → ℕ → BitVector → Type 0
  Carries = Carried the_tree now

  -- what stands around an instance of component k
  pub record HasAround (k i : ℕ) (around : NetAround) : Type 0 where
    pub go : (v : BitVector) → around.go ≡ Some v → Carries i (codes "go") 1 v
    pub inputs : (n w : ℕ) (v : BitVector) → port_width net (net_component_at net k) (ports.Input n) ≡ Some w → around.input n ≡ Some v → Carries i (input_name n) w v

  -- what is known below it
  abbrev pub IsLooked : ℕ → ℕ → NetLook → Type 0
  IsLooked k i look = (path : Path) (h : ℕ) (node : Node) (w : ℕ) (v : BitVector) → LeadsTo net k path h → node_width net (net_component_at net h) node ≡ Some w
      → look path node ≡ Some v → Carries (number_at the_source i path) (node_name node) w v

  module _ (k i : ℕ) (here : IsPlaced net sound fit k i) (around : NetAround) (s : NetState) (look : NetLook)
      (stand : StatesStand net k i s now.state) (outside : HasAround k i around) (looked : IsLooked k i look) where
    abbrev part : PlainNetComponent
    part = net_component_at net k

    abbrev E : PlainExpr → BitVector → Type 0
    E = Eval the_tree now i

    reads : IsReading E
    reads = eval_reading the_tree now i

    named : (name : List ℕ) (w : ℕ) (v : BitVector) → Carries i name w v → Reads E (Named name) w v
    named name w v h = (eval_named the_tree now i name v h.0, h.1)

    no_holes : part.holes ≡ 0
    no_holes = fit.no_holes k

    module _ (cells : NetCells) where
      abbrev registers : ℕ → Option BitVector
      registers = registers_of part cells around s (look []) (λ c. look (c ∷ []))

      ports_read : (p : PortRef) (w : ℕ) (v : BitVector) → HasPortWidth net part p w → net_expr around registers (look []) (OfPort p) ≡ Some v → Reads E (port_expr p) w v
      ports_read (ports.Cell c p) w v h e = named (cell_port_name c p) w v (looked [] k (APort (ports.Cell c p)) w v refl h e)
      ports_read (ports.Input n) w v h e = named (input_name n) w v (outside.inputs n w v h e)
      ports_read (ports.Output n) w v h e = named (output_name n) w v (looked [] k (APort (ports.Output n)) w v refl h e)
      ports_read (ports.Done g) w v h e = absurd h
      ports_read (ports.Literal u x) w v h e = subst (Reads E (literal u x) w) (same_some (record { width = u; value = x }) v e) (reads.number (record { width = u; value = x }), h)

      registers_read : (n w : ℕ) (v : BitVector) → slice_get part.registers n ≡ Some w → registers n ≡ Some v → Reads E (Named (register_name n)) w v
      registers_read n w v there e =
          let r = stand.registers [] k n w refl there in
          let is : record { width = w; value = s.register [] n } ≡ v = same_some _ v (sym (ap (option_map (λ w. record { width = w; value = s.register [] n })) there) ∙ e) in
          let wide = register_is_wide net sound fit k i here n w there in
          let more = wide.0 in
          let some : 1 ≤ w = omega arith in
          subst (Reads E (Named (register_name n)) w) is (
            eval_named the_tree now i (register_name n) (record { width = w; value = s.register [] n })
                (subst (λ x. HasValue the_tree now i (register_name n) (record { width = w; value = x })) r.0 (value_held the_tree now i (register_name n) w (register_is_held net sound fit k i here n w there))),
            record { same_width = refl; fits = record { some_bits = some; few_bits = wide.1; in_range = r.1 } },
          )

      wires_read : (n w : ℕ) (v : BitVector) → slice_get part.wires n ≡ Some w → net_expr around registers (look []) (OfWire n) ≡ Some v → Reads E (Named (wire_name n)) w v
      wires_read n w v there e = named (wire_name n) w v (looked [] k (AWire n) w v refl there e)

      go_reads : (v : BitVector) → around.go ≡ Some v → Reads E (Named (codes "go")) 1 v
      go_reads v e = named (codes "go") 1 v (outside.go v e)

      -- what its drivers give a net
      driven : (name : List ℕ) (t : PlainNetTarget) (w : ℕ) (v : BitVector) → IsWide w → target_width net part t ≡ Some w
          → origin_of the_tree i name ≡ Some (Given (chain_to t (literal w 0) part.drivers)) → driven_node part cells around s (look []) (λ c. look (c ∷ [])) w t ≡ Some v → Carries i name w v
      driven name t w v wide is_target origin e =
          let fits = drivers_fit net part t w is_target part.drivers (fit.fits.components k here.within).drivers in
          let r = reads_chain net part no_holes E reads around registers (look []) ports_read registers_read wires_read go_reads (literal w 0) (zero_of w) w (reads.number (zero_of w), zero_fits w wide) _ fits v e in
          (value_given the_tree now i name _ v origin r.0, r.1)

      -- what its drivers give a register
      pub register_reads : (n w : ℕ) (v : BitVector) → slice_get part.registers n ≡ Some w
          → chain around registers (look []) (record { width = w; value = s.register [] n }) (drivers_to (ToRegister n) part.drivers) ≡ Some v
          → Reads E (chain_to (ToRegister n) (Named (register_name n)) part.drivers) w v
      register_reads n w v there e =
          let old : BitVector = record { width = w; value = s.register [] n } in
          reads_chain net part no_holes E reads around registers (look []) ports_read registers_read wires_read go_reads (Named (register_name n)) old w
          (registers_read n w old there (ap (option_map (λ w. record { width = w; value = s.register [] n })) there)) (drivers_to (ToRegister n) part.drivers)
          (drivers_fit net part (ToRegister n) w there part.drivers (fit.fits.components k here.within).drivers) v e

      -- a port of a primitive cell
      module _ (c : ℕ) (cell : PlainCell) (p : PrimitiveRow) (there : slice_get part.cells c ≡ Some cell) (is : cell.kind ≡ OfPrimitive p) where
        abbrev row : Row
        row = row_of p

        h : IsCell net sound fit k i c cell
        h = cell_placed net sound fit k i c cell here there

        stands : (inputs : Inputs) → length inputs ≡ length row.ports → ((n : ℕ) (port : PortRow) (x : BitVector) → slice_get row.ports n ≡ Some port → input inputs n ≡ Some x → Carries i (cell_port_name c n) port.width x)
            → IsAt (primitive_module p) row (stand_for p) the_tree now (cell_number the_source i c) (s.cell (c ∷ [])) inputs
        stands inputs count carried =
            let state = stand.cells [] k c cell p refl there is in
            inputs_stand net sound fit built now k i c cell p here there is h (s.cell (c ∷ [])) inputs state.0 state.1 count carried

        row_carries : (n : ℕ) (port : PortRow) → slice_get row.ports n ≡ Some port → (side : Side) → port.side ≡ side → (v : BitVector)
            → row_node part cells around s (look []) (λ c. look (c ∷ [])) row c n side ≡ Some v → Carries i (cell_port_name c n) port.width v
        row_carries n port at side is_side v e = go side is_side e where
          width_is : net_at_width (ARow row) n ≡ port.width
          width_is = ap (λ (o : Option PortRow). unwrap_or (option_map (λ x. x.width) o) 1) at

          text : slice_get (ports_of_cell net sound fit cell) n ≡ Some (port_of port)
          text = text_port net sound fit built now k i c cell p here there is h n port at

          from_drivers : is_output_side port.side ≡ false → driven_node part cells around s (look []) (λ c. look (c ∷ [])) (net_at_width (ARow row) n) (ToPort (ports.Cell c n)) ≡ Some v
              → Carries i (cell_port_name c n) port.width v
          from_drivers input f =
              driven (cell_port_name c n) (ToPort (ports.Cell c n)) port.width v (port_is_wide net sound fit k i here c cell there n (port_of port) text) (primitive_width net part c cell p n port there is at)
              (port_given net sound fit k i here c cell there n (port_of port) text input)
              (subst (λ u. driven_node part cells around s (look []) (λ c. look (c ∷ [])) u (ToPort (ports.Cell c n)) ≡ Some v) width_is f)

          state : CellState
          state = s.cell (c ∷ [])

          go : (side : Side) → port.side ≡ side → row_node part cells around s (look []) (λ c. look (c ∷ [])) row c n side ≡ Some v → Carries i (cell_port_name c n) port.width v
          go sides.Enable is_side f = from_drivers (ap is_output_side is_side) f
          go sides.Plain is_side f = from_drivers (ap is_output_side is_side) f
          go sides.Output is_side f =
              let (inputs, known, value) = map_some (λ inputs. unwrap_or (row.output (s.cell (c ∷ [])) inputs n) (zero_of (net_at_width (ARow row) n)))
              (gather_known (λ q. look [] (APort (ports.Cell c q))) (row.reads n) 0 row.ports) v f in
              let g = gathered (λ q. look [] (APort (ports.Cell c q))) (row.reads n) row.ports inputs known in
              let at_row = stands inputs g.0 (λ m q x at_q x_is. looked [] k (APort (ports.Cell c m)) q.width x refl (primitive_width net part c cell p m q there is at_q) (g.1 m x x_is)) in
              let reads_ports = row_of_reads p in
              let out = output_carried net sound fit built now k i c cell p here there is h (s.cell (c ∷ [])) inputs at_row n port at (ap is_output_side is_side) (λ q r. g.2 q (reads_ports n q r) r) in
              subst (Carries i (cell_port_name c n) port.width) (ap (λ u. unwrap_or (row.output (s.cell (c ∷ [])) inputs n) (zero_of u)) (sym width_is) ∙ value) out
          go sides.Registered is_side f =
              let lawful : IsLawful row = row_of_lawful p in
              let holds = stand.cells [] k c cell p refl there is in
              let at_row = stands (no_inputs row.ports) (length-no_inputs row.ports) (λ m q x at_q x_is. absurd (let wrong = sym (input-no_inputs row.ports m) ∙ x_is in cc)) in
              let strict = lawful.strict (s.cell (c ∷ [])) [] n holds.1 (port, at, ap is_output_side is_side) in
              let out = output_carried net sound fit built now k i c cell p here there is h (s.cell (c ∷ [])) (no_inputs row.ports) at_row n port at (ap is_output_side is_side)
              (λ q r. absurd (let wrong = sym (strict.unread q r refl) ∙ f in cc)) in
              subst (Carries i (cell_port_name c n) port.width) (ap (λ o. unwrap_or o (zero_of port.width)) (sym (lawful.registered (s.cell (c ∷ [])) [] (no_inputs row.ports) n port at is_side) ∙ f)) out

      -- a port of a component's cell
      module _ (c : ℕ) (cell : PlainCell) (child : ℕ) (there : slice_get part.cells c ≡ Some cell) (is : cell.kind ≡ OfComponent child) where
        child_cell : IsCell net sound fit k i c cell
        child_cell = cell_placed net sound fit k i c cell here there

        below_there : IsPlaced net sound fit child (cell_number the_source i c)
        below_there = child_placed net sound fit k i c cell child here there is

        child_text : (p : ℕ) (port : PlainPort) → slice_get (signature_of (net_component_at net child)) p ≡ Some port → slice_get (ports_of_cell net sound fit cell) p ≡ Some port
        child_text p port at =
            subst (λ kind. slice_get (kind_ports net kind).ports p ≡ Some port) (sym is)
            (subst (λ o. slice_get (signature_at o) p ≡ Some port) (sym (comp_there net sound fit child below_there.within)) at)

        -- its outputs and its done
        pub from_below : (p w : ℕ) (v : BitVector) (port : PlainPort) (node : Node) → slice_get (signature_of (net_component_at net child)) p ≡ Some port → port.output ≡ true → port.name ≡ node_name node
            → node_width net (net_component_at net child) node ≡ Some w → look (c ∷ []) node ≡ Some v → Carries i (cell_port_name c p) w v
        from_below p w v port node at output name wide e =
            let r = looked (c ∷ []) child node w v (cell, child, there, is, refl) wide e in (
              value_tied the_tree now i (cell_port_name c p) (cell_number the_source i c) port.name v
                  (cell_output_ties net sound fit k i here c cell there p port (child_text p port at) child_cell output)
                  (subst (λ name. HasValue the_tree now (cell_number the_source i c) name v) (sym name) r.0),
              r.1,
            )

        -- its go and its inputs
        pub to_below : (p w : ℕ) (v : BitVector) (port : PlainPort) → slice_get (signature_of (net_component_at net child)) p ≡ Some port → port.output ≡ false
            → slice_get (signature_widths (net_component_at net child)) p ≡ Some w → look [] (APort (ports.Cell c p)) ≡ Some v → Carries (cell_number the_source i c) port.name w v
        to_below p w v port at input wide e =
            let r = looked [] k (APort (ports.Cell c p)) w v refl (component_width net part c cell child p w there is wide) e in (
              value_tied the_tree now (cell_number the_source i c) port.name i (cell_port_name c p) v
                  (cell_input_tied net sound fit k i here c cell there p port (child_text p port at) child_cell input) r.0,
              r.1,
            )

        pub driven_port : (p w : ℕ) (v : BitVector) (port : PlainPort) → slice_get (signature_of (net_component_at net child)) p ≡ Some port → port.output ≡ false → port.width ≡ w
            → slice_get (signature_widths (net_component_at net child)) p ≡ Some w → driven_node part cells around s (look []) (λ c. look (c ∷ [])) w (ToPort (ports.Cell c p)) ≡ Some v
            → Carries i (cell_port_name c p) w v
        driven_port p w v port at input same wide e =
            driven (cell_port_name c p) (ToPort (ports.Cell c p)) w v (subst IsWide same (port_is_wide net sound fit k i here c cell there p port (child_text p port at))) (component_width net part c cell child p w there is wide)
            (subst (λ u. origin_of the_tree i (cell_port_name c p) ≡ Some (Given (chain_to (ToPort (ports.Cell c p)) (literal u 0) part.drivers))) same
            (port_given net sound fit k i here c cell there p port (child_text p port at) input)) e

        child_carries : (instance : NetInstance) → net_part instance ≡ net_component_at net child → (p w : ℕ) (v : BitVector) → slice_get (signature_widths (net_component_at net child)) p ≡ Some w
            → child_node part cells around s (look []) (λ c. look (c ∷ [])) instance c p (net_part_port (net_part instance) p) ≡ Some v → Carries i (cell_port_name c p) w v
        child_carries instance part_is p w v wide e = go (port_is (net_component_at net child) p w wide) where
          by_part : (q : PartPort) → net_part_port (net_component_at net child) p ≡ q → child_node part cells around s (look []) (λ c. look (c ∷ [])) instance c p q ≡ Some v
          by_part q is_q = subst (λ x. child_node part cells around s (look []) (λ c. look (c ∷ [])) instance c p x ≡ Some v) (ap (λ x. net_part_port x p) part_is ∙ is_q) e

          input_width : (n : ℕ) (d : PortDecl) → net_part_port (net_component_at net child) p ≡ AnInput n → slice_get (net_component_at net child).inputs n ≡ Some d → net_at_width (AChild instance) p ≡ d.width
          input_width n d is_q at =
              ap (λ x. child_port_width x (net_part_port x p)) part_is ∙ ap (child_port_width (net_component_at net child)) is_q ∙ ap (λ (o : Option PortDecl). unwrap_or (option_map (λ x. x.width) o) 1) at

          go : PortIs (net_component_at net child) p w → Carries i (cell_port_name c p) w v
          go (is_go is_q text width place) = driven_port p w v (one_bit (codes "go")) text refl (sym width) wide (subst (λ u. driven_node part cells around s (look []) (λ c. look (c ∷ [])) u (ToPort (ports.Cell c p)) ≡ Some v) (sym width) (by_part Go is_q))
          go (is_input n d is_q at text width place) =
              driven_port p w v (input_port n d) text refl (sym width) wide
              (subst (λ u. driven_node part cells around s (look []) (λ c. look (c ∷ [])) u (ToPort (ports.Cell c p)) ≡ Some v) (input_width n d is_q at ∙ sym width) (by_part (AnInput n) is_q))
          go (is_output n d is_q at text width) = from_below p w v (output_port n d) (APort (ports.Output n)) text refl refl (ap (option_map (λ (x : PortDecl). x.width)) at ∙ ap Some (sym width)) (by_part (AnOutput n) is_q)
          go (is_done is_q text width) = from_below p w v done_port TheDone text refl refl (ap Some (sym width)) (by_part ItsDone is_q)

    -- a node of the instance itself
    module _ (levels : ℕ) where
      abbrev its_cells : NetCells
      its_cells = net_cells_for (net_within net levels) part.cells

      abbrev step_of : Node → Option BitVector
      step_of = own_step part its_cells around s (look []) (λ c. look (c ∷ []))

      cell_carries : (c p w : ℕ) (v : BitVector) (cell : PlainCell) → slice_get part.cells c ≡ Some cell → (kind : PlainKind) → cell.kind ≡ kind → kind_width net kind p ≡ Some w
          → cell_node part its_cells around s (look []) (λ c. look (c ∷ [])) c p (at_kind (net_within net levels) kind) ≡ Some v → Carries i (cell_port_name c p) w v
      cell_carries c p w v cell there (OfPrimitive primitive) is wide e =
          let (port, at, same) = map_some (λ (x : PortRow). x.width) (slice_get (row_of primitive).ports p) w wide in
          subst (λ u. Carries i (cell_port_name c p) u v) same
          (row_carries its_cells c cell primitive there is p port at port.side refl v
          (subst (λ side. row_node part its_cells around s (look []) (λ c. look (c ∷ [])) (row_of primitive) c p side ≡ Some v) (side_at (row_of primitive).ports p port at) e))
      cell_carries c p w v cell there (OfComponent child) is wide e = child_carries its_cells c cell child there is (net_within net levels child) (part-within net levels child) p w v wide e

      own_carries : (node : Node) (w : ℕ) (v : BitVector) → node_width net part node ≡ Some w → step_of node ≡ Some v → Carries i (node_name node) w v
      own_carries (APort (ports.Cell c p)) w v wide e =
          let (cell, there, kind) = bind_some (λ (x : PlainCell). kind_width net x.kind p) (slice_get part.cells c) w wide in
          cell_carries c p w v cell there cell.kind refl kind
          (subst (λ at. cell_node part its_cells around s (look []) (λ c. look (c ∷ [])) c p at ≡ Some v) (cell-at (net_within net levels) part.cells c cell there) e)
      own_carries (APort (ports.Input n)) w v wide e = absurd (cc)
      own_carries (APort (ports.Output n)) w v wide e =
          let (d, there, same) = map_some (λ (x : PortDecl). x.width) (slice_get part.outputs n) w wide in
          let width : decl_width part.outputs n ≡ w = ap (λ (o : Option PortDecl). unwrap_or (option_map (λ x. x.width) o) 1) there ∙ same in
          driven its_cells (output_name n) (ToPort (ports.Output n)) w v (subst IsWide same (output_is_wide net sound fit k i here n d there)) wide
          (subst (λ u. origin_of the_tree i (output_name n) ≡ Some (Given (chain_to (ToPort (ports.Output n)) (literal u 0) part.drivers))) same (output_given net sound fit k i here n d there))
          (subst (λ u. driven_node part its_cells around s (look []) (λ c. look (c ∷ [])) u (ToPort (ports.Output n)) ≡ Some v) width e)
      own_carries (APort (ports.Done g)) w v wide e = absurd (cc)
      own_carries (APort (ports.Literal u x)) w v wide e = absurd (cc)
      own_carries (AWire n) w v wide e =
          driven its_cells (wire_name n) (ToWire n) w v (wire_is_wide net sound fit k i here n w wide) wide (wire_given net sound fit k i here n w wide)
          (sym (ap (option_and_then (λ u. driven_node part its_cells around s (look []) (λ c. look (c ∷ [])) u (ToWire n))) wide) ∙ e)
      own_carries (AHole n) w v wide e = absurd (cc)
      own_carries TheDone w v wide e =
          let same : 1 ≡ w = same_some 1 w wide in
          subst (λ u. Carries i (codes "done") u v) same (driven its_cells (codes "done") ToDone 1 v (omega arith, omega arith) refl (done_given net sound fit k i here) e)

  -- what stands below a cell
  pub stand_below : (k i : ℕ) (s : NetState) → StatesStand net k i s now.state → (c : ℕ) (cell : PlainCell) (child : ℕ) → slice_get (net_component_at net k).cells c ≡ Some cell → cell.kind ≡ OfComponent child
      → StatesStand net child (cell_number the_source i c) (below_cell c s) now.state
  stand_below k i s stand c cell child there is = record {
    registers = λ path h n w leads at. stand.registers (c ∷ path) h n w (cell, child, there, is, leads) at;
    cells = λ path h d inner p leads at kind. stand.cells (c ∷ path) h d inner p (cell, child, there, is, leads) at kind;
  }

  pub around_below : (k i : ℕ) (here : IsPlaced net sound fit k i) (around : NetAround) (s : NetState) (look : NetLook) → StatesStand net k i s now.state → HasAround k i around → IsLooked k i look
      → (c : ℕ) (cell : PlainCell) (child : ℕ) → slice_get (net_component_at net k).cells c ≡ Some cell → cell.kind ≡ OfComponent child → HasAround child (cell_number the_source i c) (around_child c (look []))
  around_below k i here around s look stand outside looked c cell child there is = record {
    go = λ v e. to_below k i here around s look stand outside looked no_net_cells c cell child there is 0 1 v (one_bit (codes "go")) refl refl refl e;
    inputs = λ n w v wide e.
        let (d, at, same) = map_some (λ (x : PortDecl). x.width) (slice_get (net_component_at net child).inputs n) w wide in
        let place = input_place (net_component_at net child) n d at in
        to_below k i here around s look stand outside looked no_net_cells c cell child there is (suc n) w v (input_port n d) place.1 refl (place.0 ∙ ap Some same) e;
  }

  -- one rule of the net is one of the source
  node_carries : (path : Path) (levels k i : ℕ) → IsPlaced net sound fit k i → k < levels → (around : NetAround) (s : NetState) (look : NetLook)
      → StatesStand net k i s now.state → HasAround k i around → IsLooked k i look → (h : ℕ) (node : Node) (w : ℕ) (v : BitVector) → LeadsTo net k path h → node_width net (net_component_at net h) node ≡ Some w
      → net_step (net_within net levels k) around s look path node ≡ Some v → Carries (number_at the_source i path) (node_name node) w v
  node_carries path zero k i here lower around s look stand outside looked h node w v leads wide e = absurd (omega arith)
  node_carries [] (suc levels) k i here lower around s look stand outside looked h node w v leads wide e =
      own_carries k i here around s look stand outside looked levels node w v (subst (λ x. node_width net (net_component_at net x) node ≡ Some w) (sym leads) wide) e
  node_carries (c ∷ path) (suc levels) k i here lower around s look stand outside looked h node w v (cell, child, there, is, leads) wide e =
      let less = child_lower net sound fit k i c cell child here there is in
      node_carries path levels child (cell_number the_source i c) (child_placed net sound fit k i c cell child here there is) (omega arith) (around_child c (look [])) (below_cell c s) (λ q. look (c ∷ q))
      (stand_below k i s stand c cell child there is) (around_below k i here around s look stand outside looked c cell child there is)
      (λ q g inner u x below width known. looked (c ∷ q) g inner u x (cell, child, there, is, below) width known) h node w v leads wide
      (sym (step-at (net_within net levels) (around_child c (look [])) (below_cell c s) (λ q. look (c ∷ q)) path (net_component_at net k).cells c cell child there is node) ∙ e)

  module _ (go : Bool) (s : NetState) (stand : StatesStand net net.main 0 s now.state) (goes : now.go ≡ (if go then 1 else 0)) where
    pub main_around : HasAround net.main 0 (outside go)
    main_around = record {
      go = λ v e.
          let main = main_placed net sound fit in
          let at : slice_get (ports_at the_tree 0) 2 ≡ Some (one_bit (codes "go")) =
          ap (λ (o : Option Placed). slice_get (option_map_or (λ p. p.part.ports) o []) 2) main.at ∙ ap (λ (m : PlainModule). slice_get m.ports 2) main.is in
          let has = value_outside the_tree now 0 (codes "go") (input_outside the_source sound 2 (one_bit (codes "go")) at refl) in
          let same : record { width = 1; value = now.go } ≡ v = ap (λ n. record { width = 1; value = n }) goes ∙ same_some (truth_bit go) v e in
          subst (Carries 0 (codes "go") 1) same (has, subst (λ n. IsOfWidth 1 (record { width = 1; value = n })) (sym goes) (record { same_width = refl; fits = Fits-bit_of go }));
      inputs = λ n w v wide e. absurd (cc);
    }

    -- VALUES CARRY: a node that has a value in the net has it in the source, by its name at its instance
    pub node_has : {path : Path} {node : Node} {v : BitVector} → NetHas (net_tree net) go s path node v → (h w : ℕ) → LeadsTo net net.main path h → node_width net (net_component_at net h) node ≡ Some w
        → Carries (number_at the_source 0 path) (node_name node) w v
    node_has {path} {node} {v} (by_rule look right e) h w leads wide =
        node_carries path (length net.components) net.main 0 (main_placed net sound fit) fit.fits.has_main (outside go) s look stand main_around
        (λ q g inner u x below width known. node_has (right q inner x known) g u below width) h node w v leads wide e

pub values_carry : (net : PlainNet) → IsFit net → HasNoHoles net → is_sound (source_of net) ≡ true → ValuesCarry net
values_carry net fits no_holes sound go s now path h w node v stand goes leads wide has =
    (node_has net sound (record { fits = fits; no_holes = no_holes }) each_is_built now go s stand goes has h w leads wide).0
