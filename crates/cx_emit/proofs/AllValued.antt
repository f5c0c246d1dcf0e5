-- Where all has a value in a net, each net of its source has one.
use Rattle.std.proofs.Common.{◌≡◌, ◌⊎◌, inl, inr, ℕ, zero, suc, ◌+◌, Bool, true, false, List, [], ◌∷◌, ◌++◌, length, map, Option, Some, None, option_map, slice_get, refl, ap, sym, ◌∙◌, subst, if◌then◌else◌, arith, length-append}
use Rattle.std.specs.Prelude.{IsSome, codes}
use Rattle.std.specs.Option.{option_map_or}
use Rattle.std.proofs.lemmas.Bool.{both_ways}
use Rattle.std.proofs.lemmas.Option.{slice_get-map, slice_get_within}
use Rattle.cx_bits.specs.BitVector.{BitVector}
use Rattle.cx_prim.specs.Table.{PrimitiveRow, row_of}
use Rattle.cx_meaning.specs.declared.kinds.PortDecl.{PortDecl}
use Rattle.cx_meaning.specs.declared.ports.PortRef.TheVariants as ports
use Rattle.cx_meaning.specs.Designs.{PlainKind, OfPrimitive, OfComponent, PlainCell}
use Rattle.cx_meaning.specs.Instances.{Path}
use Rattle.cx_vtree.specs.Plain.{PlainPort, PlainDecl, WireOf, RegisterOf, ArrayOf, PlainConn, PlainModule, PlainSource}
use Rattle.cx_vtree.specs.InstanceTree.{Placed, ports_at, declared_nets, nets_at, Tied}
use Rattle.cx_vtree.specs.Meaning.{Moment, Look, HasValue}
use Rattle.cx_vtree.specs.SimRun.{IsWhole}
use Rattle.cx_vtree.specs.Sound.{decl_name, has_name, is_sound}
use Rattle.cx_vlaws.proofs.Fresh.{has_at, at_has}
use Rattle.cx_vlaws.proofs.Given.{nets-at}
use Rattle.cx_vlaws.proofs.Ties.{input_tied, input_outside}
use Rattle.cx_vmods.specs.Modules.{port_of}
use Rattle.cx_net.specs.Nets.{PlainNetComponent, PlainNet}
use Rattle.cx_net.specs.NetTree.{net_component_at, net_tree}
use Rattle.cx_net.specs.NetMeaning.{NetState, below_cell, around_child, Node, APort, AWire, TheDone, NetLook, NetAround, outside}
use Rattle.cx_net.specs.NetEdges.{inputs_from}
use Rattle.cx_net.specs.NetRuns.{IsWholeLook}
use Rattle.cx_emit.specs.Names.{register_name}
use Rattle.cx_emit.specs.Numbered.{with_numbers, lists_from}
use Rattle.cx_emit.specs.Signatures.{primitive_module, PlainCellPorts, one_bit, input_port, output_port, signature_of, signature_at, kind_ports, cell_ports}
use Rattle.cx_emit.specs.Sources.{conn, port_decl, cell_decls, wire_decl, register_decl, source_of}
use Rattle.cx_net.specs.NetPaths.{LeadsTo}
use Rattle.cx_emit.specs.Places.{cell_number, number_at, node_name}
use Rattle.cx_vmods.specs.Laws.{EachIsBuilt}
use Rattle.cx_net.specs.NetFits.{signature_widths, port_width}
use Rattle.cx_emit.specs.Fits.{IsFlat, node_width}
use Rattle.cx_emit.specs.States.{StatesStand}
use Rattle.cx_emit.proofs.NumberedLemmas.{In, in_either, numbered_in, lists_in}
use Rattle.cx_emit.proofs.Evals.{value_tied, value_held, value_outside}
use Rattle.cx_emit.proofs.Standing.{tree, comp_there, own, IsPlaced, main_placed, IsCell, cell_placed, child_placed, cell_module_ports, primitive_placed}
use Rattle.cx_emit.proofs.Origins.{register_is_held}
use Rattle.cx_net.proofs.GatherLemmas.{input-from_look}
use Rattle.cx_emit.proofs.CellValues.{is_built}
use Rattle.cx_net.proofs.DriverLemmas.{primitive_width, component_width}
use Rattle.cx_emit.proofs.PortPlaces.{done_port, length-numbered}
use Rattle.cx_emit.proofs.Situations.{Situation, situation_below, primitive_at, main_situation}
use Rattle.cx_emit.proofs.Reached.{IsReached, of_component, of_primitive, reached}
use Rattle.cx_text.proofs.OptionLaws.{map_some, same_some, one_value}
use Rattle.cx_text.proofs.ListLaws.{at_map, there_at}
use Rattle.cx_net.proofs.NetsLemmas.{length-signature}

-- a look that has every value
pub record WholeText (tree : List Placed) (now : Moment) : Type 0 where
  pub look : Look
  pub whole : IsWhole tree now look

-- the nets of an instance of a module
nets_of : (tree : List Placed) (i : ℕ) (p : Placed) → slice_get tree i ≡ Some p → (m : PlainModule) → p.part ≡ m → nets_at tree i ≡ map (λ (y : PlainPort). y.name) m.ports ++ declared_nets m.decls
nets_of tree i p at m is = nets-at tree i p at ∙ ap (λ (x : PlainModule). map (λ (y : PlainPort). y.name) x.ports ++ declared_nets x.decls) is

-- a declared net is of a wire or a register
net_declared : (ds : List PlainDecl) (n : List ℕ) → In n (declared_nets ds) → (d : PlainDecl) × In d ds × (decl_name d ≡ n)
net_declared [] n h = absurd (let e = h.1 in cc)
net_declared (WireOf x w ∷ ds) n (zero, e) = (WireOf x w, (zero, refl), cc)
net_declared (WireOf x w ∷ ds) n (suc q, e) = let (d, at, is) = net_declared ds n (q, e) in (d, (suc at.0, at.1), is)
net_declared (RegisterOf x w ∷ ds) n (zero, e) = (RegisterOf x w, (zero, refl), cc)
net_declared (RegisterOf x w ∷ ds) n (suc q, e) = let (d, at, is) = net_declared ds n (q, e) in (d, (suc at.0, at.1), is)
net_declared (ArrayOf x w k ∷ ds) n h = let (d, at, is) = net_declared ds n h in (d, (suc at.0, at.1), is)

module _ (net : PlainNet) (sound : is_sound (source_of net) ≡ true) (fit : IsFlat net) (built : EachIsBuilt) (now : Moment) where
  abbrev the_source : PlainSource
  the_source = source_of net

  abbrev the_tree : List Placed
  the_tree = tree net sound fit

  -- a net of an instance has a value
  abbrev Valued : ℕ → List ℕ → Type 0
  Valued i n = (v : BitVector) × HasValue the_tree now i n v

  -- the clock, and the reset: port q of every instance, connected to that of its holder
  module _ (q : ℕ) (name : List ℕ) (front : (ps : List PlainPort) → slice_get (one_bit (codes "clk") ∷ one_bit (codes "reset") ∷ ps) q ≡ Some (one_bit name))
      (wired : (cs : List PlainConn) → slice_get (conn (codes "clk") (codes "clk") ∷ conn (codes "reset") (codes "reset") ∷ cs) q ≡ Some (conn name name)) where
    common_below : (k i c : ℕ) (cell : PlainCell) → IsPlaced net sound fit k i → slice_get (net_component_at net k).cells c ≡ Some cell → Valued i name → Valued (cell_number the_source i c) name
    common_below k i c cell here there (v, has) =
        let h = cell_placed net sound fit k i c cell here there in
        let port : slice_get h.place.part.ports q ≡ Some (one_bit name) = ap (λ ps. slice_get ps q) (cell_module_ports net sound fit k i c cell here there h) ∙ front _ in
        let (cn, at, named, origin) = input_tied the_source sound (cell_number the_source i c) h.place h.at h.inner q (one_bit name) port refl in
        let same : cn ≡ conn name name = one_value (slice_get h.place.conns q) cn (conn name name) at (ap (λ cs. slice_get cs q) h.conns ∙ wired _) in
        (v, value_tied the_tree now (cell_number the_source i c) name i name v (origin ∙ ap (λ j. Some (Tied j cn.net)) h.holder ∙ ap (λ (x : PlainConn). Some (Tied i x.net)) same) has)

    common_main : Valued 0 name
    common_main =
        let main = main_placed net sound fit in
        let at : slice_get (ports_at the_tree 0) q ≡ Some (one_bit name) =
        ap (λ (o : Option Placed). slice_get (option_map_or (λ p. p.part.ports) o []) q) main.at ∙ ap (λ (m : PlainModule). slice_get m.ports q) main.is ∙ front (signature_of (net_component_at net net.main)) in
        (_, value_outside the_tree now 0 name (input_outside the_source sound q (one_bit name) at refl))

    pub common : (path : Path) (k i h : ℕ) → IsPlaced net sound fit k i → LeadsTo net k path h → Valued i name → Valued (number_at the_source i path) name
    common [] k i h here leads has = has
    common (c ∷ path) k i h here (cell, child, there, is, leads) has =
        common path child (cell_number the_source i c) h (child_placed net sound fit k i c cell child here there is) leads (common_below k i c cell here there has)

  -- what is there has a value
  module _ (k i : ℕ) (around : NetAround) (s : NetState) (look : NetLook) (x : Situation net sound fit built now k i around s look) where
    abbrev part : PlainNetComponent
    part = net_component_at net k

    node_valued : (node : Node) (w : ℕ) → node_width net part node ≡ Some w → Valued i (node_name node)
    node_valued node w wide = let (v, e) = x.all [] k node w refl wide in (v, (x.looked [] k node w v refl wide e).0)

    text_width : (c p : ℕ) (cell : PlainCell) (port : PlainPort) → slice_get part.cells c ≡ Some cell → (kind : PlainKind) → cell.kind ≡ kind → slice_get (kind_ports net kind).ports p ≡ Some port
        → (w : ℕ) × (port_width net part (ports.Cell c p) ≡ Some w)
    text_width c p cell port there (OfPrimitive primitive) is at =
        let (row, at_row, same) = map_some port_of (slice_get (row_of primitive).ports p) port (sym (slice_get-map port_of (row_of primitive).ports p) ∙ at) in
        (row.width, primitive_width net part c cell primitive p row there is at_row)
    text_width c p cell port there (OfComponent child) is at =
        let within = (child_placed net sound fit k i c cell child x.here there is).within in
        let at_signature : slice_get (signature_of (net_component_at net child)) p ≡ Some port = sym (ap (λ o. slice_get (signature_at o) p) (comp_there net sound fit child within)) ∙ at in
        let lt = slice_get_within (signature_of (net_component_at net child)) p port at_signature in
        let long = length-text (net_component_at net child) in
        let wide = length-signature (net_component_at net child) in
        let (w, at_width) = there_at (signature_widths (net_component_at net child)) p (omega arith) in
        (w, component_width net part c cell child p w there is at_width)
      where
        length-text : (y : PlainNetComponent) → length (signature_of y) ≡ 2 + length y.inputs + length y.outputs
        length-text y =
            let inputs = length-numbered input_port 0 y.inputs in
            let outputs = length-numbered output_port 0 y.outputs in
            let front = length-append (one_bit (codes "go") ∷ with_numbers input_port y.inputs) (with_numbers output_port y.outputs) in
            let whole = length-append (one_bit (codes "go") ∷ with_numbers input_port y.inputs ++ with_numbers output_port y.outputs) (done_port ∷ []) in
            omega arith

    -- a wire at a port of a cell, another wire, a register
    abbrev cells : List PlainCellPorts
    cells = map (cell_ports net) part.cells

    decl_valued : (d : PlainDecl) → In d (own net sound fit k).decls → Valued i (decl_name d)
    decl_valued d h = go (in_either d (lists_from cell_decls 0 cells ++ with_numbers wire_decl part.wires) (with_numbers register_decl part.registers) h) where
      at_cell : In d (lists_from cell_decls 0 cells) → Valued i (decl_name d)
      at_cell h =
          let (c, wired, at, inner) = lists_in cell_decls cells d h in
          let (cell, there, is) = at_map (cell_ports net) part.cells c wired at in
          let (port, at_port, named) = numbered_in (port_decl c) wired.ports inner.0 d inner.1 in
          let wide = text_width c inner.0 cell port there cell.kind refl (subst (λ (y : PlainCellPorts). slice_get y.ports inner.0 ≡ Some port) (sym is) at_port) in
          subst (λ e. Valued i (decl_name e)) named (node_valued (APort (ports.Cell c inner.0)) wide.0 wide.1)

      wire : In d (with_numbers wire_decl part.wires) → Valued i (decl_name d)
      wire (n, e) = let (w, there, named) = numbered_in wire_decl part.wires n d e in subst (λ y. Valued i (decl_name y)) named (node_valued (AWire n) w there)

      go : In d (lists_from cell_decls 0 cells ++ with_numbers wire_decl part.wires) ⊎ In d (with_numbers register_decl part.registers) → Valued i (decl_name d)
      go (inl front) = by_front (in_either d (lists_from cell_decls 0 cells) (with_numbers wire_decl part.wires) front) where
        by_front : In d (lists_from cell_decls 0 cells) ⊎ In d (with_numbers wire_decl part.wires) → Valued i (decl_name d)
        by_front (inl h) = at_cell h
        by_front (inr h) = wire h
      go (inr (n, e)) =
          let (w, there, named) = numbered_in register_decl part.registers n d e in
          subst (λ y. Valued i (decl_name y)) named (_, value_held the_tree now i (register_name n) w (register_is_held net sound fit k i x.here n w there))

    -- a port
    port_valued : Valued i (codes "clk") → Valued i (codes "reset") → (q : ℕ) (port : PlainPort) → slice_get (own net sound fit k).ports q ≡ Some port → Valued i port.name
    port_valued clk reset zero port e = let same : one_bit (codes "clk") ≡ port = same_some (one_bit (codes "clk")) port e in subst (λ (y : PlainPort). Valued i y.name) same clk
    port_valued clk reset (suc zero) port e = let same : one_bit (codes "reset") ≡ port = same_some (one_bit (codes "reset")) port e in subst (λ (y : PlainPort). Valued i y.name) same reset
    port_valued clk reset (suc (suc q)) port e = go (in_either port (one_bit (codes "go") ∷ with_numbers input_port part.inputs ++ with_numbers output_port part.outputs) (done_port ∷ []) (q, e)) where
      input : In port (with_numbers input_port part.inputs) → Valued i port.name
      input (n, f) =
          let (d, there, named) = numbered_in input_port part.inputs n port f in
          let wide = ap (option_map (λ (y : PortDecl). y.width)) there in
          let (v, known) = x.has.given n d.width wide in
          subst (λ (y : PlainPort). Valued i y.name) named (v, (x.outward.inputs n d.width v wide known).0)

      output : In port (with_numbers output_port part.outputs) → Valued i port.name
      output (n, f) =
          let (d, there, named) = numbered_in output_port part.outputs n port f in
          subst (λ (y : PlainPort). Valued i y.name) named (node_valued (APort (ports.Output n)) d.width (ap (option_map (λ (y : PortDecl). y.width)) there))

      first : In port (one_bit (codes "go") ∷ with_numbers input_port part.inputs) → Valued i port.name
      first (zero, f) =
          let (v, known) = x.has.goes in
          let same : one_bit (codes "go") ≡ port = cc in
          subst (λ (y : PlainPort). Valued i y.name) same (v, (x.outward.go v known).0)
      first (suc n, f) = input (n, f)

      front : In port (one_bit (codes "go") ∷ with_numbers input_port part.inputs) ⊎ In port (with_numbers output_port part.outputs) → Valued i port.name
      front (inl h) = first h
      front (inr h) = output h

      go : In port (one_bit (codes "go") ∷ with_numbers input_port part.inputs ++ with_numbers output_port part.outputs) ⊎ In port (done_port ∷ []) → Valued i port.name
      go (inl h) = front (in_either port (one_bit (codes "go") ∷ with_numbers input_port part.inputs) (with_numbers output_port part.outputs) h)
      go (inr (zero, f)) = let same : done_port ≡ port = cc in subst (λ (y : PlainPort). Valued i y.name) same (node_valued TheDone 1 refl)
      go (inr (suc n, f)) = absurd (cc)

    component_valued : Valued i (codes "clk") → Valued i (codes "reset") → (q : ℕ) (n : List ℕ) → slice_get (nets_at the_tree i) q ≡ Some n → Valued i n
    component_valued clk reset q n e =
        let same : nets_at the_tree i ≡ map (λ (p : PlainPort). p.name) (own net sound fit k).ports ++ declared_nets (own net sound fit k).decls = nets_of the_tree i x.here.place x.here.at (own net sound fit k) x.here.is in
        go (in_either n (map (λ (p : PlainPort). p.name) (own net sound fit k).ports) (declared_nets (own net sound fit k).decls) (q, sym (ap (λ l. slice_get l q) same) ∙ e))
      where
        go : In n (map (λ (p : PlainPort). p.name) (own net sound fit k).ports) ⊎ In n (declared_nets (own net sound fit k).decls) → Valued i n
        go (inl (j, f)) =
            let (port, at, named) = map_some (λ (p : PlainPort). p.name) (slice_get (own net sound fit k).ports j) n (sym (slice_get-map (λ (p : PlainPort). p.name) (own net sound fit k).ports j) ∙ f) in
            subst (Valued i) named (port_valued clk reset j port at)
        go (inr h) = let (d, at, named) = net_declared (own net sound fit k).decls n h in subst (Valued i) named (decl_valued d at)

    -- the nets of a primitive's module
    primitive_valued : (c : ℕ) (cell : PlainCell) (p : PrimitiveRow) → slice_get part.cells c ≡ Some cell → cell.kind ≡ OfPrimitive p → Valued i (codes "clk") → Valued i (codes "reset") → (q : ℕ) (n : List ℕ)
        → slice_get (nets_at the_tree (cell_number the_source i c)) q ≡ Some n → Valued (cell_number the_source i c) n
    primitive_valued c cell p there is clk reset q n e = go q e where
      h : IsCell net sound fit k i c cell
      h = cell_placed net sound fit k i c cell x.here there

      same : nets_at the_tree (cell_number the_source i c) ≡ map (λ (y : PlainPort). y.name) (primitive_module p).ports ++ declared_nets (primitive_module p).decls
      same = nets_of the_tree (cell_number the_source i c) h.place h.at (primitive_module p) (primitive_placed net sound fit k i c cell p x.here there is h)

      go : (q : ℕ) → slice_get (nets_at the_tree (cell_number the_source i c)) q ≡ Some n → Valued (cell_number the_source i c) n
      go zero f =
          let named : Some (codes "clk") ≡ Some n = sym (ap (λ l. slice_get l 0) same) ∙ f in
          subst (Valued (cell_number the_source i c)) (same_some (codes "clk") n named) (common_below 0 (codes "clk") (λ ps. refl) (λ cs. refl) k i c cell x.here there clk)
      go (suc zero) f =
          let named : Some (codes "reset") ≡ Some n = sym (ap (λ l. slice_get l 1) same) ∙ f in
          subst (Valued (cell_number the_source i c)) (same_some (codes "reset") n named) (common_below 1 (codes "reset") (λ ps. refl) (λ cs. refl) k i c cell x.here there reset)
      go (suc (suc r)) f =
          let module_is_built = is_built net sound fit built now k i c cell p x.here there is h in
          module_is_built.nets the_tree now (cell_number the_source i c) (suc (suc r)) n (s.cell (c ∷ [])) (inputs_from look c 0 (row_of p).ports) (primitive_at net sound fit built now k i around s look x c cell p there is)
          (λ m port at inward. subst IsSome (sym (input-from_look look c (row_of p).ports m port at)) refl) f (omega arith)

  -- the instance that a path leads to
  abbrev Somewhere : ℕ → ℕ → Type 0
  Somewhere h i = (around : NetAround) × (s : NetState) × (look : NetLook) × Situation net sound fit built now h i around s look

  situation_at : (path : Path) (k i h : ℕ) (around : NetAround) (s : NetState) (look : NetLook) → Situation net sound fit built now k i around s look → LeadsTo net k path h → Somewhere h (number_at the_source i path)
  situation_at [] k i h around s look x leads = subst (λ g. Somewhere g i) leads (around, s, look, x)
  situation_at (c ∷ path) k i h around s look x (cell, child, there, is, leads) =
      situation_at path child (cell_number the_source i c) h (around_child c (look [])) (below_cell c s) (λ q. look (c ∷ q)) (situation_below net sound fit built now k i around s look x c cell child there is) leads

  module _ (go : Bool) (s : NetState) (look : NetLook) (stand : StatesStand net net.main 0 s now.state) (goes : now.go ≡ (if go then 1 else 0)) (whole : IsWholeLook (net_tree net) go s look) where
    clk_at : (path : Path) (h : ℕ) → LeadsTo net net.main path h → Valued (number_at the_source 0 path) (codes "clk")
    clk_at path h leads = common 0 (codes "clk") (λ ps. refl) (λ cs. refl) path net.main 0 h (main_placed net sound fit) leads (common_main 0 (codes "clk") (λ ps. refl) (λ cs. refl))

    reset_at : (path : Path) (h : ℕ) → LeadsTo net net.main path h → Valued (number_at the_source 0 path) (codes "reset")
    reset_at path h leads = common 1 (codes "reset") (λ ps. refl) (λ cs. refl) path net.main 0 h (main_placed net sound fit) leads (common_main 1 (codes "reset") (λ ps. refl) (λ cs. refl))

    by_reached : (i q : ℕ) (n : List ℕ) → slice_get (nets_at the_tree i) q ≡ Some n → IsReached net i → Valued i n
    by_reached i q n e (of_component path h leads number) =
        let (around, t, more, x) = situation_at path net.main 0 h (outside go) s look (main_situation net sound fit built now go s look stand goes whole) leads in
        subst (λ j. Valued j n) number
        (component_valued h (number_at the_source 0 path) around t more x (clk_at path h leads) (reset_at path h leads) q n (subst (λ j. slice_get (nets_at the_tree j) q ≡ Some n) (sym number) e))
    by_reached i q n e (of_primitive path h c cell p leads there is number) =
        let (around, t, more, x) = situation_at path net.main 0 h (outside go) s look (main_situation net sound fit built now go s look stand goes whole) leads in
        subst (λ j. Valued j n) number
        (primitive_valued h (number_at the_source 0 path) around t more x c cell p there is (clk_at path h leads) (reset_at path h leads) q n (subst (λ j. slice_get (nets_at the_tree j) q ≡ Some n) (sym number) e))

    all_valued : (i q : ℕ) (n : List ℕ) → slice_get (nets_at the_tree i) q ≡ Some n → Valued i n
    all_valued i q n e = by_place (slice_get the_tree i) refl where
      by_place : (o : Option Placed) → slice_get the_tree i ≡ o → Valued i n
      by_place None is =
          let nothing : nets_at the_tree i ≡ [] = ap (λ (o : Option Placed). map (λ p. p.name) (option_map_or (λ p. p.part.ports) o []) ++ declared_nets (option_map_or (λ p. p.part.decls) o [])) is in
          absurd (let wrong = sym (ap (λ l. slice_get l q) nothing) ∙ e in cc)
      by_place (Some p) is = by_reached i q n e (reached net sound fit i p is)

    value_of_net : (i : ℕ) (n : List ℕ) → has_name (nets_at the_tree i) n ≡ true → Valued i n
    value_of_net i n e = let (q, at) = at_has (nets_at the_tree i) n e in all_valued i q n at

    abbrev pick : (i : ℕ) (n : List ℕ) (b : Bool) → has_name (nets_at the_tree i) n ≡ b → Option BitVector
    pick i n true e = Some (value_of_net i n e).0
    pick i n false e = None

    pick_right : (i : ℕ) (n : List ℕ) (v : BitVector) (b : Bool) (e : has_name (nets_at the_tree i) n ≡ b) → pick i n b e ≡ Some v → HasValue the_tree now i n v
    pick_right i n v true e f = subst (HasValue the_tree now i n) (same_some (value_of_net i n e).0 v f) (value_of_net i n e).1
    pick_right i n v false e f = absurd (cc)

    pick_whole : (i : ℕ) (n : List ℕ) (b : Bool) (e : has_name (nets_at the_tree i) n ≡ b) → has_name (nets_at the_tree i) n ≡ true → IsSome (pick i n b e)
    pick_whole i n true e there = refl
    pick_whole i n false e there = absurd (both_ways (has_name (nets_at the_tree i) n) e there)

    -- so there is a look at the source that has every value
    pub whole_text : WholeText the_tree now
    whole_text = record {
      look = λ i n. pick i n (has_name (nets_at the_tree i) n) refl;
      whole = record {
        right = λ i n v e. pick_right i n v (has_name (nets_at the_tree i) n) refl e;
        whole = λ i q n e. pick_whole i n (has_name (nets_at the_tree i) n) refl (has_at (nets_at the_tree i) q n e);
      };
    }
