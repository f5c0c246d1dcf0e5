-- What gives each net of a component's module its value.
use Rattle.std.proofs.Common.{map, ◌≡◌, ℕ, zero, suc, List, [], ◌∷◌, ◌++◌, true, false, Option, Some, slice_get, refl, ap, sym, ◌∙◌, subst, if◌then◌else◌}
use Rattle.std.specs.Prelude.{codes}
use Rattle.std.specs.Option.{option_map_or}
use Rattle.cx_meaning.specs.declared.ports.PortRef.TheVariants as ports
use Rattle.cx_meaning.specs.declared.kinds.PortDecl.{PortDecl}
use Rattle.cx_meaning.specs.Designs.{PlainCell}
use Rattle.cx_vtree.specs.Plain.{PlainPort, PlainDecl, WireOf, RegisterOf, PlainAssign, PlainConn, PlainModule}
use Rattle.cx_vtree.specs.InstanceTree.{Placed, decls_at, Tied, Held, Given, origin_of}
use Rattle.cx_vtree.specs.Sound.{decl_meaning, width_of, is_sound}
use Rattle.cx_vlaws.proofs.MeaningLemmas.{decl-means, decl_wide, port_wide}
use Rattle.cx_vlaws.proofs.Ties.{input_tied, output_tied, assigned_given, register_held}
use Rattle.cx_vlaws.proofs.ExpressionWidths.{IsWide}
use Rattle.cx_net.specs.Nets.{PlainNetComponent, PlainNet, ToPort, ToWire, ToDone}
use Rattle.cx_emit.specs.Fits.{IsFlat}
use Rattle.cx_emit.specs.Names.{output_name, cell_port_name, wire_name, register_name}
use Rattle.cx_emit.specs.Numbered.{with_numbers, lists_from}
use Rattle.cx_emit.specs.Exprs.{literal}
use Rattle.cx_emit.specs.Chains.{chain_to}
use Rattle.cx_emit.specs.Signatures.{PlainCellPorts, one_bit, input_port, output_port, cell_ports}
use Rattle.cx_emit.specs.Sources.{assign, port_decl, cell_decls, port_assigns, cell_assigns, port_conn, wire_decl, wire_assign, output_assign, done_assign, register_decl, source_of}
use Rattle.cx_emit.specs.Places.{cell_number}
use Rattle.cx_emit.proofs.NumberedLemmas.{in_mapped, In, in_left, in_right, in_numbered, in_lists}
use Rattle.cx_emit.proofs.Standing.{tree, comp, own, IsPlaced, ports_of_cell, IsCell, cell_module_ports}
use Rattle.cx_text.proofs.OptionLaws.{one_value}

module _ (net : PlainNet) (sound : is_sound (source_of net) ≡ true) (fit : IsFlat net) (k i : ℕ) (here : IsPlaced net sound fit k i) where
  abbrev the_tree : List Placed
  the_tree = tree net sound fit

  abbrev part : PlainNetComponent
  part = comp net sound fit k

  abbrev cells : List PlainCellPorts
  cells = map (cell_ports net) part.cells

  -- the assigned nets of its module
  abbrev cell_part : List PlainAssign
  cell_part = lists_from (cell_assigns part.drivers) 0 cells

  abbrev wire_part : List PlainAssign
  wire_part = with_numbers (wire_assign part.drivers) part.wires

  abbrev output_part : List PlainAssign
  output_part = with_numbers (output_assign part.drivers) part.outputs

  abbrev last_part : List PlainAssign
  last_part = done_assign part.drivers ∷ []

  -- what a net is given by, in a module with this assignment
  given : (a : PlainAssign) → In a (own net sound fit k).assigns → origin_of the_tree i a.name ≡ Some (Given a.value)
  given a (n, e) = assigned_given (source_of net) sound i here.place here.at n a (subst (λ (m : PlainModule). slice_get m.assigns n ≡ Some a) (sym here.is) e)

  declared : (d : PlainDecl) → In d (own net sound fit k).decls → (n : ℕ) × (slice_get (decls_at the_tree i) n ≡ Some d)
  declared d (n, e) = (n, ap (λ (o : Option Placed). slice_get (option_map_or (λ p. p.part.decls) o []) n) here.at ∙ subst (λ (m : PlainModule). slice_get m.decls n ≡ Some d) (sym here.is) e)

  wide : (d : PlainDecl) → In d (own net sound fit k).decls → IsWide (width_of (decl_meaning d))
  wide d h = let r = declared d h in decl_wide (source_of net) sound i r.0 d r.1

  cells_get : (c : ℕ) (cell : PlainCell) → slice_get part.cells c ≡ Some cell → slice_get cells c ≡ Some (cell_ports net cell)
  cells_get c cell there = in_mapped (cell_ports net) part.cells c cell there

  -- a port of a cell
  module _ (c : ℕ) (cell : PlainCell) (there : slice_get part.cells c ≡ Some cell) (p : ℕ) (port : PlainPort) (has : slice_get (ports_of_cell net sound fit cell) p ≡ Some port) where
    port_decl_in : In (WireOf (cell_port_name c p) port.width) (own net sound fit k).decls
    port_decl_in =
        in_left _ (lists_from cell_decls 0 cells ++ with_numbers wire_decl part.wires) (with_numbers register_decl part.registers)
        (in_left _ (lists_from cell_decls 0 cells) (with_numbers wire_decl part.wires)
        (in_lists cell_decls cells c (cell_ports net cell) _ (cells_get c cell there) (p, in_numbered (port_decl c) (ports_of_cell net sound fit cell) p port has)))

    pub port_is_wide : IsWide port.width
    port_is_wide = wide (WireOf (cell_port_name c p) port.width) port_decl_in

    -- an input is given by its chain
    pub port_given : port.output ≡ false → origin_of the_tree i (cell_port_name c p) ≡ Some (Given (chain_to (ToPort (ports.Cell c p)) (literal port.width 0) part.drivers))
    port_given input =
        let a : PlainAssign = assign (cell_port_name c p) (chain_to (ToPort (ports.Cell c p)) (literal port.width 0) part.drivers) in
        let one : In a (port_assigns part.drivers c p port) = subst (λ b. In a (if b then [] else a ∷ [])) (sym input) (zero, refl) in
        given a (in_left a (cell_part ++ wire_part ++ output_part) last_part (in_left a (cell_part ++ wire_part) output_part (in_left a cell_part wire_part
        (in_lists (cell_assigns part.drivers) cells c (cell_ports net cell) a (cells_get c cell there)
        (in_lists (port_assigns part.drivers c) (ports_of_cell net sound fit cell) p port a has one)))))

    module _ (h : IsCell net sound fit k i c cell) where
      inner_port : slice_get h.place.part.ports (suc (suc p)) ≡ Some port
      inner_port = ap (λ ps. slice_get ps (suc (suc p))) (cell_module_ports net sound fit k i c cell here there h) ∙ has

      inner_conn : slice_get h.place.conns (suc (suc p)) ≡ Some (port_conn c p port)
      inner_conn = ap (λ cs. slice_get cs (suc (suc p))) h.conns ∙ in_numbered (port_conn c) (ports_of_cell net sound fit cell) p port has

      -- behind it an input of the cell is tied to it, and it is tied to an output of the cell
      pub cell_input_tied : port.output ≡ false → origin_of the_tree (cell_number (source_of net) i c) port.name ≡ Some (Tied i (cell_port_name c p))
      cell_input_tied input =
          let (cn, at, named, origin) = input_tied (source_of net) sound (cell_number (source_of net) i c) h.place h.at h.inner (suc (suc p)) port inner_port input in
          let same : cn ≡ port_conn c p port = one_value (slice_get h.place.conns (suc (suc p))) cn (port_conn c p port) at inner_conn in
          origin ∙ ap (λ j. Some (Tied j cn.net)) h.holder ∙ ap (λ (x : PlainConn). Some (Tied i x.net)) same

      pub cell_output_ties : port.output ≡ true → origin_of the_tree i (cell_port_name c p) ≡ Some (Tied (cell_number (source_of net) i c) port.name)
      cell_output_ties output =
          let (cn, at, named, origin) = output_tied (source_of net) sound (cell_number (source_of net) i c) h.place h.at h.inner (suc (suc p)) port inner_port output in
          let same : cn ≡ port_conn c p port = one_value (slice_get h.place.conns (suc (suc p))) cn (port_conn c p port) at inner_conn in
          subst (λ j. origin_of the_tree j (cell_port_name c p) ≡ Some (Tied (cell_number (source_of net) i c) port.name)) h.holder
          (subst (λ (x : PlainConn). origin_of the_tree h.place.holder x.net ≡ Some (Tied (cell_number (source_of net) i c) port.name)) same origin)

  -- a wire
  module _ (n w : ℕ) (there : slice_get part.wires n ≡ Some w) where
    pub wire_is_wide : IsWide w
    wire_is_wide = wide (WireOf (wire_name n) w)
        (in_left _ (lists_from cell_decls 0 cells ++ with_numbers wire_decl part.wires) (with_numbers register_decl part.registers)
        (in_right _ (lists_from cell_decls 0 cells) (with_numbers wire_decl part.wires) (n, in_numbered wire_decl part.wires n w there)))

    pub wire_given : origin_of the_tree i (wire_name n) ≡ Some (Given (chain_to (ToWire n) (literal w 0) part.drivers))
    wire_given = given (wire_assign part.drivers n w)
        (in_left _ (cell_part ++ wire_part ++ output_part) last_part (in_left _ (cell_part ++ wire_part) output_part
        (in_right _ cell_part wire_part (n, in_numbered (wire_assign part.drivers) part.wires n w there))))

  -- a register
  module _ (n w : ℕ) (there : slice_get part.registers n ≡ Some w) where
    register_in : In (RegisterOf (register_name n) w) (own net sound fit k).decls
    register_in =
        in_right _ (lists_from cell_decls 0 cells ++ with_numbers wire_decl part.wires) (with_numbers register_decl part.registers)
        (n, in_numbered register_decl part.registers n w there)

    pub register_is_wide : IsWide w
    register_is_wide = wide (RegisterOf (register_name n) w) register_in

    pub register_is_held : origin_of the_tree i (register_name n) ≡ Some (Held w)
    register_is_held = let r = declared (RegisterOf (register_name n) w) register_in in
        register_held (source_of net) sound i (register_name n) w (decl-means (source_of net) sound i r.0 (RegisterOf (register_name n) w) r.1)

  -- an output, and done
  pub output_given : (n : ℕ) (d : PortDecl) → slice_get part.outputs n ≡ Some d → origin_of the_tree i (output_name n) ≡ Some (Given (chain_to (ToPort (ports.Output n)) (literal d.width 0) part.drivers))
  output_given n d there = given (output_assign part.drivers n d)
      (in_left _ (cell_part ++ wire_part ++ output_part) last_part
      (in_right _ (cell_part ++ wire_part) output_part (n, in_numbered (output_assign part.drivers) part.outputs n d there)))

  pub output_is_wide : (n : ℕ) (d : PortDecl) → slice_get part.outputs n ≡ Some d → IsWide d.width
  output_is_wide n d there =
      let port : PlainPort = output_port n d in
      let front : List PlainPort = one_bit (codes "clk") ∷ one_bit (codes "reset") ∷ one_bit (codes "go") ∷ with_numbers input_port part.inputs in
      let listed : In port (own net sound fit k).ports =
      in_left port (front ++ with_numbers output_port part.outputs) (record { output = true; name = codes "done"; width = 1 } ∷ [])
      (in_right port front (with_numbers output_port part.outputs) (n, in_numbered output_port part.outputs n d there)) in
      port_wide (source_of net) sound i listed.0 port
      (ap (λ (o : Option Placed). slice_get (option_map_or (λ p. p.part.ports) o []) listed.0) here.at ∙ subst (λ (m : PlainModule). slice_get m.ports listed.0 ≡ Some port) (sym here.is) listed.1)

  pub done_given : origin_of the_tree i (codes "done") ≡ Some (Given (chain_to ToDone (literal 1 0) part.drivers))
  done_given = given (done_assign part.drivers)
      (in_right _ (cell_part ++ wire_part ++ output_part) last_part (zero, refl))
