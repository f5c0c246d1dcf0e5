-- The module of a component keeps the rules.
use Rattle.std.proofs.Common.{get_or, ◌≡◌, ◌⊎◌, inl, inr, ℕ, zero, suc, ◌+◌, ◌^◌, ◌<◌, ◌==◌, not, Bool, true, false, List, [], ◌∷◌, ◌++◌, length, map, Some, None, option_and_then, option_map, slice_get, refl, ap, sym, ◌∙◌, subst, if◌then◌else◌, arith, append_assoc, append-nil}
use Rattle.std.specs.Prelude.{codes, is_none}
use Rattle.std.proofs.lemmas.Bool.{or_from, and_from}
use Rattle.std.proofs.lemmas.Nat.{pow_pos}
use Rattle.std.proofs.lemmas.List.{map-append}
use Rattle.std.proofs.lemmas.Option.{slice_get_within}
use Rattle.cx_text.proofs.ListLaws.{at_map}
use Rattle.cx_text.specs.Members.{Each}
use Rattle.cx_prim.specs.Widths.{IsWidth}
use Rattle.cx_meaning.specs.declared.kinds.PortDecl.{PortDecl}
use Rattle.cx_meaning.specs.declared.ports.PortRef.{PortRef}
use Rattle.cx_meaning.specs.declared.ports.PortRef.TheVariants as ports
use Rattle.cx_meaning.specs.Designs.{PlainCell}
use Rattle.cx_vtree.specs.declared.meanings.Meaning.{Meaning}
use Rattle.cx_vtree.specs.declared.meanings.Meaning.TheVariants as meant
use Rattle.cx_vtree.specs.Plain.{PlainExpr, Named, PlainPort, PlainDecl, PlainAssign, PlainConn, PlainInstance, PlainItem, PlainModule}
use Rattle.cx_vtree.specs.InstanceTree.{same_name}
use Rattle.cx_vtree.specs.Layout.{is_name, conn_fits}
use Rattle.cx_vtree.specs.Sound.{Scope, width_of, is_source, is_driven, is_register, is_readable, has_name, decl_name, decl_meaning, port_meaning, driven_by_all, drivers_in, misconnects, misfits, item_name}
use Rattle.cx_vlaws.proofs.Fresh.{has_at, has_each, has-append, has_left, has_right, Fresh, fresh_left, fresh_right, fresh_both}
use Rattle.cx_vlaws.proofs.Scopes.{meant-port, meant-decl}
use Rattle.cx_net.specs.Nets.{PlainNetTarget, ToPort, ToRegister, ToWire, ToDone, PlainNetDriver, PlainNetComponent, PlainNet}
use Rattle.cx_net.specs.NetTree.{net_component_at}
use Rattle.cx_net.specs.NetMeaning.{same_target, drivers_to}
use Rattle.cx_net.specs.NetFits.{kind_width, port_width, HasPortWidth, target_width, IsFit, HasNoHoles}
use Rattle.cx_net.specs.NetLimits.{IsRead, IsWritableDriver, IsWritableComponent, IsWritable}
use Rattle.cx_emit.specs.Names.{input_name, output_name, cell_port_name, wire_name, register_name, module_name}
use Rattle.cx_emit.specs.Numbered.{with_numbers, lists_from}
use Rattle.cx_emit.specs.Numbers.{HasFewParts}
use Rattle.cx_emit.specs.Exprs.{literal, port_expr}
use Rattle.cx_emit.specs.Chains.{chain_to}
use Rattle.cx_emit.specs.Signatures.{PlainCellPorts, one_bit, input_port, output_port, signature_of, module_ports, cell_ports}
use Rattle.cx_emit.specs.Sources.{assign, port_decl, cell_decls, port_assigns, cell_assigns, port_conn, cell_instance, wire_decl, wire_assign, output_assign, done_assign, register_decl, register_reset, register_step, component_module}
use Rattle.cx_emit.proofs.NumberedLemmas.{in_mapped, In, in_left, in_right, in_either, in_numbered, numbered_in, in_lists, lists_in}
use Rattle.cx_emit.proofs.NameLaws.{is_name-numbered, is_name-twice_numbered}
use Rattle.cx_emit.proofs.ApartLaws.{lack_other, lacks_name, have_numbered, fresh_numbered, fresh_kins, names_of, Kin, port_names, have_twice, fresh_twice}
use Rattle.cx_emit.proofs.ModuleNames.{map-numbered, one_kin, numbered_kin, names_in}
use Rattle.cx_net.proofs.DriverLemmas.{drivers_fit}
use Rattle.cx_emit.proofs.PortPlaces.{done_port}
use Rattle.cx_emit.proofs.Keeping.{Keeps, keeps_named, keeps_number, keeps_more, keeps_as}
use Rattle.cx_emit.proofs.CleanModules.{KeepsPort, KeepsDecl, KeepsAssign, KeepsInstance, KeepsSet, KeepsItem, KeepsEdges, IsKept, scope_of}
use Rattle.cx_emit.proofs.StatelessModules.{one_wide}
use Rattle.cx_emit.proofs.ExprKeeps.{chain_keeps}
use Rattle.cx_emit.proofs.CellPorts.{each_in, in_each, all_each, IsFinePort, module_named_well, has_few, part_names, signature_ports, kind_ports_are, port_there, port_wide, kind_named}
use Rattle.cx_emit.proofs.PickedNames.{few_ports_at, sub_both, sub_same, fresh_sub, fresh_beyond, picked, all_picked, sub_all_picked, in_picked, fresh_picked, not_input, output_letters}
use Rattle.cx_emit.proofs.Connections.{IsKnown, known_ports, instance_connects, instance_fits, instances_drive}
use Rattle.cx_text.proofs.OptionLaws.{map_some, bind_some}

-- a name that stands for an input, a wire or a register may be read
pub readable : (scope : Scope) (n : List ℕ) (m : Meaning) → scope n ≡ m → is_source m ≡ true → same_name n (codes "clk") ≡ false → is_readable scope n ≡ true
readable scope n m is source other = and_from (is_source (scope n)) (not (same_name n (codes "clk"))) (ap is_source is ∙ source) (ap not other)

drivers_written : (t : PlainNetTarget) (ds : List PlainNetDriver) → Each IsWritableDriver ds → Each IsWritableDriver (drivers_to t ds)
drivers_written t [] each = tt
drivers_written t (d ∷ ds) each = go (same_target d.target t) (drivers_written t ds each.1) where
  go : (b : Bool) → Each IsWritableDriver (drivers_to t ds) → Each IsWritableDriver (if b then d ∷ drivers_to t ds else drivers_to t ds)
  go true rest = (each.0, rest)
  go false rest = rest

-- the assigned nets of cells are those at inputs
ports_assigned : (ds : List PlainNetDriver) (c b : ℕ) (ps : List PlainPort) → map (λ a. a.name) (lists_from (port_assigns ds c) b ps) ≡ picked (λ p. not p.output) c b ps
ports_assigned ds c b [] = refl
ports_assigned ds c b (p ∷ ps) = go p.output (ports_assigned ds c (suc b) ps) where
  go : (t : Bool) → map (λ a. a.name) (lists_from (port_assigns ds c) (suc b) ps) ≡ picked (λ p. not p.output) c (suc b) ps
      → map (λ a. a.name) ((if t then [] else assign (cell_port_name c b) (chain_to (ToPort (ports.Cell c b)) (literal p.width 0) ds) ∷ []) ++ lists_from (port_assigns ds c) (suc b) ps)
      ≡ (if not t then cell_port_name c b ∷ picked (λ p. not p.output) c (suc b) ps else picked (λ p. not p.output) c (suc b) ps)
  go true rest = rest
  go false rest = ap (λ ns. cell_port_name c b ∷ ns) rest

cells_assigned : (ds : List PlainNetDriver) (b : ℕ) (cells : List PlainCellPorts) → map (λ a. a.name) (lists_from (cell_assigns ds) b cells) ≡ all_picked (λ p. not p.output) b cells
cells_assigned ds b [] = refl
cells_assigned ds b (cell ∷ cells) =
    map-append (λ a. a.name) (cell_assigns ds b cell) (lists_from (cell_assigns ds) (suc b) cells)
    ∙ ap (λ ns. ns ++ map (λ a. a.name) (lists_from (cell_assigns ds) (suc b) cells)) (ports_assigned ds b 0 cell.ports)
    ∙ ap (λ ns. picked (λ p. not p.output) b 0 cell.ports ++ ns) (cells_assigned ds (suc b) cells)

module _ (net : PlainNet) (fit : IsFit net) (no_holes : HasNoHoles net) (writable : IsWritable net) (k : ℕ) (lt : k < length net.components) where
  abbrev part : PlainNetComponent
  part = net_component_at net k

  abbrev cells : List PlainCellPorts
  cells = map (cell_ports net) part.cells

  abbrev its_module : PlainModule
  its_module = component_module net k part

  abbrev scope : Scope
  scope = scope_of its_module

  ok : IsWritableComponent part
  ok = writable.components k lt

  few : HasFewParts part cells
  few = has_few net fit writable k lt

  names : Fresh [] (names_in its_module)
  names = part_names net fit writable k (module_name net.main k) lt

  -- WHAT NAMES STAND FOR
  port_scope : (p : PlainPort) → In p its_module.ports → scope p.name ≡ port_meaning p
  port_scope p (q, e) = meant-port [] its_module.ports its_module.decls q p (fresh_left [] (map (λ p. p.name) its_module.ports) _ names) e

  decl_scope : (d : PlainDecl) → In d its_module.decls → scope (decl_name d) ≡ decl_meaning d
  decl_scope d (q, e) =
      meant-decl its_module.ports its_module.decls q d
      (fresh_left (map (λ p. p.name) its_module.ports) (map decl_name its_module.decls) (map (λ i. i.name) its_module.instances) (fresh_right [] (map (λ p. p.name) its_module.ports) _ names)) e

  input_scope : (n : ℕ) (d : PortDecl) → slice_get part.inputs n ≡ Some d → scope (input_name n) ≡ meant.Input d.width
  input_scope n d there = port_scope (input_port n d) (in_port (n, in_numbered input_port part.inputs n d there)) where
    in_port : In (input_port n d) (with_numbers input_port part.inputs) → In (input_port n d) (module_ports part)
    in_port h =
        let front = in_left (input_port n d) (one_bit (codes "go") ∷ with_numbers input_port part.inputs) (with_numbers output_port part.outputs) (suc h.0, h.1) in
        let whole = in_left (input_port n d) (one_bit (codes "go") ∷ with_numbers input_port part.inputs ++ with_numbers output_port part.outputs) (done_port ∷ []) front in
        (suc (suc whole.0), whole.1)

  output_scope : (n : ℕ) (d : PortDecl) → slice_get part.outputs n ≡ Some d → scope (output_name n) ≡ meant.Output d.width
  output_scope n d there = port_scope (output_port n d) (in_port (n, in_numbered output_port part.outputs n d there)) where
    in_port : In (output_port n d) (with_numbers output_port part.outputs) → In (output_port n d) (module_ports part)
    in_port h =
        let front = in_right (output_port n d) (one_bit (codes "go") ∷ with_numbers input_port part.inputs) (with_numbers output_port part.outputs) h in
        let whole = in_left (output_port n d) (one_bit (codes "go") ∷ with_numbers input_port part.inputs ++ with_numbers output_port part.outputs) (done_port ∷ []) front in
        (suc (suc whole.0), whole.1)

  done_scope : scope (codes "done") ≡ meant.Output 1
  done_scope = port_scope done_port (in_port (in_right done_port (one_bit (codes "go") ∷ with_numbers input_port part.inputs ++ with_numbers output_port part.outputs) (done_port ∷ []) (zero, refl))) where
    in_port : In done_port (signature_of part) → In done_port (module_ports part)
    in_port h = (suc (suc h.0), h.1)

  wire_scope : (n w : ℕ) → slice_get part.wires n ≡ Some w → scope (wire_name n) ≡ meant.Wire w
  wire_scope n w there =
      decl_scope (wire_decl n w)
      (in_left (wire_decl n w) (lists_from cell_decls 0 cells ++ with_numbers wire_decl part.wires) (with_numbers register_decl part.registers)
      (in_right (wire_decl n w) (lists_from cell_decls 0 cells) (with_numbers wire_decl part.wires) (n, in_numbered wire_decl part.wires n w there)))

  register_scope : (n w : ℕ) → slice_get part.registers n ≡ Some w → scope (register_name n) ≡ meant.Register w
  register_scope n w there =
      decl_scope (register_decl n w) (in_right (register_decl n w) (lists_from cell_decls 0 cells ++ with_numbers wire_decl part.wires) (with_numbers register_decl part.registers) (n, in_numbered register_decl part.registers n w there))

  -- a port of a cell
  cell_scope : (c p : ℕ) (cell : PlainCellPorts) (port : PlainPort) → slice_get cells c ≡ Some cell → slice_get cell.ports p ≡ Some port → scope (cell_port_name c p) ≡ meant.Wire port.width
  cell_scope c p cell port at there =
      decl_scope (port_decl c p port)
      (in_left (port_decl c p port) (lists_from cell_decls 0 cells ++ with_numbers wire_decl part.wires) (with_numbers register_decl part.registers)
      (in_left (port_decl c p port) (lists_from cell_decls 0 cells) (with_numbers wire_decl part.wires)
      (in_lists cell_decls cells c cell (port_decl c p port) at (p, in_numbered (port_decl c) cell.ports p port there))))

  -- its number
  few_cell : (c : ℕ) (cell : PlainCellPorts) → slice_get cells c ≡ Some cell → c < 2 ^ 64
  few_cell c cell at = let within = slice_get_within cells c cell at in let all = few.cells in omega (arith, within, all)

  few_port : (c p : ℕ) (cell : PlainCellPorts) (port : PlainPort) → slice_get cells c ≡ Some cell → slice_get cell.ports p ≡ Some port → p < 2 ^ 64
  few_port c p cell port at there = let within = slice_get_within cell.ports p port there in let all = few_ports_at cells c cell few.ports at in omega (arith, within, all)

  cell_port_named : (c p : ℕ) (cell : PlainCellPorts) (port : PlainPort) → slice_get cells c ≡ Some cell → slice_get cell.ports p ≡ Some port → is_name (cell_port_name c p) ≡ true
  cell_port_named c p cell port at there = is_name-twice_numbered (codes "c") refl (omega arith) c p (few_cell c cell at) (few_port c p cell port at there)

  wire_named : (n w : ℕ) → slice_get part.wires n ≡ Some w → is_name (wire_name n) ≡ true
  wire_named n w there = let within = slice_get_within part.wires n w there in let all = few.wires in is_name-numbered (codes "w") refl (omega arith) n (omega (arith, within, all))

  register_named : (n w : ℕ) → slice_get part.registers n ≡ Some w → is_name (register_name n) ≡ true
  register_named n w there = let within = slice_get_within part.registers n w there in let all = few.registers in is_name-numbered (codes "r") refl (omega arith) n (omega (arith, within, all))

  input_named : (n : ℕ) (d : PortDecl) → slice_get part.inputs n ≡ Some d → is_name (input_name n) ≡ true
  input_named n d there = let within = slice_get_within part.inputs n d there in let all = few.inputs in is_name-numbered (codes "in") refl (omega arith) n (omega (arith, within, all))

  output_named : (n : ℕ) (d : PortDecl) → slice_get part.outputs n ≡ Some d → is_name (output_name n) ≡ true
  output_named n d there = let within = slice_get_within part.outputs n d there in let all = few.outputs in is_name-numbered (codes "out") refl (omega arith) n (omega (arith, within, all))

  -- the ports of a cell that is there
  cell_at : (c : ℕ) (cell : PlainCell) → slice_get part.cells c ≡ Some cell → slice_get cells c ≡ Some (cell_ports net cell)
  cell_at c cell there = in_mapped (cell_ports net) part.cells c cell there

  -- EXPRESSIONS
  ports_keep : (p : PortRef) (w : ℕ) → HasPortWidth net part p w → IsRead p → Keeps scope 0 (port_expr p) w
  ports_keep (ports.Cell c p) w h r =
      let (cell, there, wide) = bind_some (λ (x : PlainCell). kind_width net x.kind p) (slice_get part.cells c) w h in
      let (port, at, same) = port_there net fit writable k cell.kind p w lt ((fit.components k lt).cells c cell there) wide in
      let is = cell_scope c p (cell_ports net cell) port (cell_at c cell there) at in
      keeps_named scope 0 (cell_port_name c p) w (cell_port_named c p (cell_ports net cell) port (cell_at c cell there) at) (readable scope (cell_port_name c p) (meant.Wire port.width) is refl refl) (ap width_of is ∙ same)
  ports_keep (ports.Input n) w h r =
      let (d, there, same) = map_some (λ (x : PortDecl). x.width) (slice_get part.inputs n) w h in
      let is = input_scope n d there in
      keeps_named scope 0 (input_name n) w (input_named n d there) (readable scope (input_name n) (meant.Input d.width) is refl refl) (ap width_of is ∙ same)
  ports_keep (ports.Output n) w h r = absurd r
  ports_keep (ports.Done g) w h r = absurd h
  ports_keep (ports.Literal u v) w h r = keeps_number scope 0 (record { width = u; value = v }) w h

  registers_keep : (n w : ℕ) → slice_get part.registers n ≡ Some w → Keeps scope 0 (Named (register_name n)) w
  registers_keep n w there =
      let is = register_scope n w there in keeps_named scope 0 (register_name n) w (register_named n w there) (readable scope (register_name n) (meant.Register w) is refl refl) (ap width_of is)

  wires_keep : (n w : ℕ) → slice_get part.wires n ≡ Some w → Keeps scope 0 (Named (wire_name n)) w
  wires_keep n w there = let is = wire_scope n w there in keeps_named scope 0 (wire_name n) w (wire_named n w there) (readable scope (wire_name n) (meant.Wire w) is refl refl) (ap width_of is)

  go_keeps : Keeps scope 0 (Named (codes "go")) 1
  go_keeps =
      let is : scope (codes "go") ≡ meant.Input 1 = port_scope (one_bit (codes "go")) (2, refl) in
      keeps_named scope 0 (codes "go") 1 refl (readable scope (codes "go") (meant.Input 1) is refl refl) (ap width_of is)

  -- the chain of a target
  chain_fits : (t : PlainNetTarget) (last : PlainExpr) (w : ℕ) → target_width net part t ≡ Some w → Keeps scope 0 last w → Keeps scope 64 (chain_to t last part.drivers) w
  chain_fits t last w wide end =
      let short = ok.chains t in
      keeps_more scope (47 + length (drivers_to t part.drivers)) 64 (chain_to t last part.drivers) w (omega (arith, short))
      (chain_keeps net part (no_holes k) scope ports_keep registers_keep wires_keep go_keeps last w (drivers_to t part.drivers) end (drivers_fit net part t w wide part.drivers (fit.components k lt).drivers)
      (drivers_written t part.drivers (all_each IsWritableDriver part.drivers ok.drivers)))

  zero_keeps : (w : ℕ) → IsWidth w → Keeps scope 0 (literal w 0) w
  zero_keeps w wide =
      keeps_number scope 0 (record { width = w; value = 0 }) w (record { same_width = refl; fits = record { some_bits = wide.some_bits; few_bits = wide.few_bits; in_range = omega (arith, pow_pos w) } })

  -- ASSIGNS
  driven_keeps : (name : List ℕ) (t : PlainNetTarget) (w : ℕ) (m : Meaning) → is_name name ≡ true → scope name ≡ m → is_driven m ≡ true → width_of m ≡ w → target_width net part t ≡ Some w → IsWidth w
      → KeepsAssign scope (assign name (chain_to t (literal w 0) part.drivers))
  driven_keeps name t w m named is drives same wide bits = record {
    named = named;
    drives = ap is_driven is ∙ drives;
    value = keeps_as scope 64 (chain_to t (literal w 0) part.drivers) w (width_of (scope name)) (sym (ap width_of is ∙ same)) (chain_fits t (literal w 0) w wide (zero_keeps w bits));
  }

  -- the width of a port of a cell, from its place
  port_target : (c p : ℕ) (cell : PlainCellPorts) (port : PlainPort) → slice_get cells c ≡ Some cell → slice_get cell.ports p ≡ Some port → port_width net part (ports.Cell c p) ≡ Some port.width
  port_target c p cell port at there =
      let (plain, known, is) = at_map (cell_ports net) part.cells c cell at in
      let here : slice_get (cell_ports net plain).ports p ≡ Some port = ap (λ (x : PlainCellPorts). slice_get x.ports p) is ∙ there in
      ap (option_and_then (λ (x : PlainCell). kind_width net x.kind p)) known ∙ port_wide net fit writable k plain.kind p port lt ((fit.components k lt).cells c plain known) here

  fine_port : (c p : ℕ) (cell : PlainCellPorts) (port : PlainPort) → slice_get cells c ≡ Some cell → slice_get cell.ports p ≡ Some port → IsFinePort port
  fine_port c p cell port at there =
      let (plain, known, is) = at_map (cell_ports net) part.cells c cell at in
      in_each IsFinePort cell.ports port (subst (λ (x : PlainCellPorts). Each IsFinePort x.ports) is (kind_ports_are net fit writable k plain.kind lt ((fit.components k lt).cells c plain known)).fine) (p, there)

  wire_wide : (n w : ℕ) → slice_get part.wires n ≡ Some w → IsWidth w
  wire_wide n w there = in_each IsWidth part.wires w (all_each IsWidth part.wires ok.wire_widths) (n, there)

  register_wide : (n w : ℕ) → slice_get part.registers n ≡ Some w → IsWidth w
  register_wide n w there = in_each IsWidth part.registers w (all_each IsWidth part.registers ok.register_widths) (n, there)

  output_wide : (n : ℕ) (d : PortDecl) → slice_get part.outputs n ≡ Some d → IsWidth d.width
  output_wide n d there = in_each (λ (x : PortDecl). IsWidth x.width) part.outputs d (all_each (λ (x : PortDecl). IsWidth x.width) part.outputs ok.output_widths) (n, there)

  assign_kept : (a : PlainAssign) → In a its_module.assigns → KeepsAssign scope a
  assign_kept a h =
      by_last (in_either a (lists_from (cell_assigns part.drivers) 0 cells ++ with_numbers (wire_assign part.drivers) part.wires ++ with_numbers (output_assign part.drivers) part.outputs) (done_assign part.drivers ∷ []) h)
    where
      at_port : (c p : ℕ) (cell : PlainCellPorts) (port : PlainPort) → slice_get cells c ≡ Some cell → slice_get cell.ports p ≡ Some port → (b : Bool)
          → In a (if b then [] else assign (cell_port_name c p) (chain_to (ToPort (ports.Cell c p)) (literal port.width 0) part.drivers) ∷ []) → KeepsAssign scope a
      at_port c p cell port at there true (q, e) = absurd (cc)
      at_port c p cell port at there false (suc q, e) = absurd (cc)
      at_port c p cell port at there false (zero, e) =
          let same : assign (cell_port_name c p) (chain_to (ToPort (ports.Cell c p)) (literal port.width 0) part.drivers) ≡ a = cc in
          subst (KeepsAssign scope) same
          (driven_keeps (cell_port_name c p) (ToPort (ports.Cell c p)) port.width (meant.Wire port.width) (cell_port_named c p cell port at there) (cell_scope c p cell port at there) refl refl (port_target c p cell port at there) (fine_port c p cell port at there).wide)

      at_cell : In a (lists_from (cell_assigns part.drivers) 0 cells) → KeepsAssign scope a
      at_cell i =
          let (c, cell, at, inner) = lists_in (cell_assigns part.drivers) cells a i in
          let (p, port, there, one) = lists_in (port_assigns part.drivers c) cell.ports a inner in
          at_port c p cell port at there port.output one

      at_wire : In a (with_numbers (wire_assign part.drivers) part.wires) → KeepsAssign scope a
      at_wire (n, e) =
          let (w, there, same) = numbered_in (wire_assign part.drivers) part.wires n a e in
          subst (KeepsAssign scope) same (driven_keeps (wire_name n) (ToWire n) w (meant.Wire w) (wire_named n w there) (wire_scope n w there) refl refl there (wire_wide n w there))

      at_output : In a (with_numbers (output_assign part.drivers) part.outputs) → KeepsAssign scope a
      at_output (n, e) =
          let (d, there, same) = numbered_in (output_assign part.drivers) part.outputs n a e in
          subst (KeepsAssign scope) same
          (driven_keeps (output_name n) (ToPort (ports.Output n)) d.width (meant.Output d.width) (output_named n d there) (output_scope n d there) refl refl (ap (option_map (λ (x : PortDecl). x.width)) there) (output_wide n d there))

      at_done : In a (done_assign part.drivers ∷ []) → KeepsAssign scope a
      at_done (suc q, e) = absurd (cc)
      at_done (zero, e) = let same : done_assign part.drivers ≡ a = cc in subst (KeepsAssign scope) same (driven_keeps (codes "done") ToDone 1 (meant.Output 1) refl done_scope refl refl refl one_wide)

      by_front : In a (lists_from (cell_assigns part.drivers) 0 cells) ⊎ In a (with_numbers (wire_assign part.drivers) part.wires) → KeepsAssign scope a
      by_front (inl i) = at_cell i
      by_front (inr i) = at_wire i

      by_middle : In a (lists_from (cell_assigns part.drivers) 0 cells ++ with_numbers (wire_assign part.drivers) part.wires) ⊎ In a (with_numbers (output_assign part.drivers) part.outputs) → KeepsAssign scope a
      by_middle (inl i) = by_front (in_either a (lists_from (cell_assigns part.drivers) 0 cells) (with_numbers (wire_assign part.drivers) part.wires) i)
      by_middle (inr i) = at_output i

      by_last : In a (lists_from (cell_assigns part.drivers) 0 cells ++ with_numbers (wire_assign part.drivers) part.wires ++ with_numbers (output_assign part.drivers) part.outputs) ⊎ In a (done_assign part.drivers ∷ []) → KeepsAssign scope a
      by_last (inl i) = by_middle (in_either a (lists_from (cell_assigns part.drivers) 0 cells ++ with_numbers (wire_assign part.drivers) part.wires) (with_numbers (output_assign part.drivers) part.outputs) i)
      by_last (inr i) = at_done i

  module _ (before : List PlainModule) (known : Each (IsKnown before) cells) where
    -- DRIVERS: the assigned nets, and behind them those that instances drive
    assigned : List (List ℕ)
    assigned = map (λ a. a.name) its_module.assigns

    drivers : List (List ℕ)
    drivers = drivers_in before its_module

    inputs_at : List (List ℕ)
    inputs_at = all_picked (λ p. not p.output) 0 cells

    outputs_at : List (List ℕ)
    outputs_at = all_picked (λ p. p.output) 0 cells

    drivers_are : drivers ≡ assigned ++ outputs_at
    unfolding drivers assigned outputs_at
    drivers_are = ap (λ ns. map (λ a. a.name) its_module.assigns ++ ns) (instances_drive before 0 cells known)

    assigned_drives : (a : PlainAssign) → In a its_module.assigns → has_name drivers a.name ≡ true
    unfolding drivers
    assigned_drives a (q, e) = has_left (map (λ a. a.name) its_module.assigns) (driven_by_all before its_module.instances) a.name (has_each (λ (a : PlainAssign). a.name) its_module.assigns q a e)

    output_drives : (n : List ℕ) → In n outputs_at → has_name drivers n ≡ true
    unfolding drivers outputs_at
    output_drives n (q, e) =
        has_right (map (λ a. a.name) its_module.assigns) (driven_by_all before its_module.instances) n
        (subst (λ ns. has_name ns n ≡ true) (sym (instances_drive before 0 cells known)) (has_at (all_picked (λ p. p.output) 0 cells) q n e))

    -- where each assign stands
    wire_assigned : (n w : ℕ) → slice_get part.wires n ≡ Some w → In (wire_assign part.drivers n w) its_module.assigns
    wire_assigned n w there =
        in_left (wire_assign part.drivers n w) (lists_from (cell_assigns part.drivers) 0 cells ++ with_numbers (wire_assign part.drivers) part.wires ++ with_numbers (output_assign part.drivers) part.outputs) (done_assign part.drivers ∷ [])
        (in_left (wire_assign part.drivers n w) (lists_from (cell_assigns part.drivers) 0 cells ++ with_numbers (wire_assign part.drivers) part.wires) (with_numbers (output_assign part.drivers) part.outputs)
        (in_right (wire_assign part.drivers n w) (lists_from (cell_assigns part.drivers) 0 cells) (with_numbers (wire_assign part.drivers) part.wires) (n, in_numbered (wire_assign part.drivers) part.wires n w there)))

    output_assigned : (n : ℕ) (d : PortDecl) → slice_get part.outputs n ≡ Some d → In (output_assign part.drivers n d) its_module.assigns
    output_assigned n d there =
        in_left (output_assign part.drivers n d) (lists_from (cell_assigns part.drivers) 0 cells ++ with_numbers (wire_assign part.drivers) part.wires ++ with_numbers (output_assign part.drivers) part.outputs) (done_assign part.drivers ∷ [])
        (in_right (output_assign part.drivers n d) (lists_from (cell_assigns part.drivers) 0 cells ++ with_numbers (wire_assign part.drivers) part.wires) (with_numbers (output_assign part.drivers) part.outputs)
        (n, in_numbered (output_assign part.drivers) part.outputs n d there))

    done_assigned : In (done_assign part.drivers) its_module.assigns
    done_assigned =
        in_right (done_assign part.drivers) (lists_from (cell_assigns part.drivers) 0 cells ++ with_numbers (wire_assign part.drivers) part.wires ++ with_numbers (output_assign part.drivers) part.outputs) (done_assign part.drivers ∷ []) (zero, refl)

    cell_assigned : (c p : ℕ) (cell : PlainCellPorts) (port : PlainPort) → slice_get cells c ≡ Some cell → slice_get cell.ports p ≡ Some port → port.output ≡ false
        → In (assign (cell_port_name c p) (chain_to (ToPort (ports.Cell c p)) (literal port.width 0) part.drivers)) its_module.assigns
    cell_assigned c p cell port at there inward =
        let a : PlainAssign = assign (cell_port_name c p) (chain_to (ToPort (ports.Cell c p)) (literal port.width 0) part.drivers) in
        in_left a (lists_from (cell_assigns part.drivers) 0 cells ++ with_numbers (wire_assign part.drivers) part.wires ++ with_numbers (output_assign part.drivers) part.outputs) (done_assign part.drivers ∷ [])
        (in_left a (lists_from (cell_assigns part.drivers) 0 cells ++ with_numbers (wire_assign part.drivers) part.wires) (with_numbers (output_assign part.drivers) part.outputs)
        (in_left a (lists_from (cell_assigns part.drivers) 0 cells) (with_numbers (wire_assign part.drivers) part.wires)
        (in_lists (cell_assigns part.drivers) cells c cell a at (in_lists (port_assigns part.drivers c) cell.ports p port a there (subst (λ b. In a (if b then [] else a ∷ [])) (sym inward) (zero, refl))))))

    -- a wire at a port of a cell is driven
    cell_driven : (c p : ℕ) (cell : PlainCellPorts) (port : PlainPort) → slice_get cells c ≡ Some cell → slice_get cell.ports p ≡ Some port → has_name drivers (cell_port_name c p) ≡ true
    unfolding outputs_at
    cell_driven c p cell port at there = go port.output refl where
      go : (b : Bool) → port.output ≡ b → has_name drivers (cell_port_name c p) ≡ true
      go false side = assigned_drives (assign (cell_port_name c p) (chain_to (ToPort (ports.Cell c p)) (literal port.width 0) part.drivers)) (cell_assigned c p cell port at there side)
      go true side =
          let place : 0 + p ≡ p = omega arith in
          output_drives (cell_port_name c p)
          (in_lists (λ c x. picked (λ p. p.output) c 0 x.ports) cells c cell (cell_port_name c p) at (subst (λ q. In (cell_port_name c q) (picked (λ p. p.output) c 0 cell.ports)) place (in_picked (λ p. p.output) c 0 cell.ports p port there side)))

    -- PORTS
    port_kept : (p : PlainPort) → In p its_module.ports → KeepsPort drivers p
    port_kept p (zero, e) = let same : one_bit (codes "clk") ≡ p = cc in subst (KeepsPort drivers) same (record { named = refl; wide = one_wide; driven = λ e. absurd (cc) })
    port_kept p (suc zero, e) = let same : one_bit (codes "reset") ≡ p = cc in subst (KeepsPort drivers) same (record { named = refl; wide = one_wide; driven = λ e. absurd (cc) })
    port_kept p (suc (suc q), e) = by_last (in_either p (one_bit (codes "go") ∷ with_numbers input_port part.inputs ++ with_numbers output_port part.outputs) (done_port ∷ []) (q, e)) where
      fine : IsFinePort p
      fine = in_each IsFinePort (signature_of part) p (signature_ports net fit writable k lt).fine (q, e)

      kept : (p.output ≡ true → has_name drivers p.name ≡ true) → KeepsPort drivers p
      kept driven = record { named = fine.named; wide = fine.wide; driven = driven }

      inward : (x : PlainPort) → x ≡ p → x.output ≡ false → KeepsPort drivers p
      inward x same side = kept (λ out. absurd (let no = ap (λ (y : PlainPort). y.output) same in cc))

      at_front : In p (one_bit (codes "go") ∷ with_numbers input_port part.inputs) → KeepsPort drivers p
      at_front (zero, f) = inward (one_bit (codes "go")) (cc) refl
      at_front (suc n, f) = let (d, there, same) = numbered_in input_port part.inputs n p f in inward (input_port n d) same refl

      at_output : In p (with_numbers output_port part.outputs) → KeepsPort drivers p
      at_output (n, f) =
          let (d, there, same) = numbered_in output_port part.outputs n p f in
          kept (λ out. subst (λ (y : PlainPort). has_name drivers y.name ≡ true) same (assigned_drives (output_assign part.drivers n d) (output_assigned n d there)))

      at_done : In p (done_port ∷ []) → KeepsPort drivers p
      at_done (suc n, f) = absurd (cc)
      at_done (zero, f) = let same : done_port ≡ p = cc in kept (λ out. subst (λ (y : PlainPort). has_name drivers y.name ≡ true) same (assigned_drives (done_assign part.drivers) done_assigned))

      by_front : In p (one_bit (codes "go") ∷ with_numbers input_port part.inputs) ⊎ In p (with_numbers output_port part.outputs) → KeepsPort drivers p
      by_front (inl i) = at_front i
      by_front (inr i) = at_output i

      by_last : In p (one_bit (codes "go") ∷ with_numbers input_port part.inputs ++ with_numbers output_port part.outputs) ⊎ In p (done_port ∷ []) → KeepsPort drivers p
      by_last (inl i) = by_front (in_either p (one_bit (codes "go") ∷ with_numbers input_port part.inputs) (with_numbers output_port part.outputs) i)
      by_last (inr i) = at_done i

    -- DECLARATIONS
    decl_kept : (d : PlainDecl) → In d its_module.decls → KeepsDecl drivers d
    decl_kept d h = by_last (in_either d (lists_from cell_decls 0 cells ++ with_numbers wire_decl part.wires) (with_numbers register_decl part.registers) h) where
      at_cell : In d (lists_from cell_decls 0 cells) → KeepsDecl drivers d
      at_cell i =
          let (c, cell, at, inner) = lists_in cell_decls cells d i in
          let p : ℕ = inner.0 in
          let (port, there, same) = numbered_in (port_decl c) cell.ports p d inner.1 in
          subst (KeepsDecl drivers) same (cell_port_named c p cell port at there, (fine_port c p cell port at there).wide, cell_driven c p cell port at there)

      at_wire : In d (with_numbers wire_decl part.wires) → KeepsDecl drivers d
      at_wire (n, e) =
          let (w, there, same) = numbered_in wire_decl part.wires n d e in
          subst (KeepsDecl drivers) same (wire_named n w there, wire_wide n w there, assigned_drives (wire_assign part.drivers n w) (wire_assigned n w there))

      at_register : In d (with_numbers register_decl part.registers) → KeepsDecl drivers d
      at_register (n, e) = let (w, there, same) = numbered_in register_decl part.registers n d e in subst (KeepsDecl drivers) same (register_named n w there, register_wide n w there)

      by_front : In d (lists_from cell_decls 0 cells) ⊎ In d (with_numbers wire_decl part.wires) → KeepsDecl drivers d
      by_front (inl i) = at_cell i
      by_front (inr i) = at_wire i

      by_last : In d (lists_from cell_decls 0 cells ++ with_numbers wire_decl part.wires) ⊎ In d (with_numbers register_decl part.registers) → KeepsDecl drivers d
      by_last (inl i) = by_front (in_either d (lists_from cell_decls 0 cells) (with_numbers wire_decl part.wires) i)
      by_last (inr i) = at_register i

    -- INSTANCES
    instance_kept : (i : PlainInstance) → In i its_module.instances → KeepsInstance before scope i
    instance_kept i (c, e) =
        let (cell, at, same) = numbered_in cell_instance cells c i e in
        subst (KeepsInstance before scope) same (of_cell c cell at)
      where
        of_cell : (c : ℕ) (cell : PlainCellPorts) → slice_get cells c ≡ Some cell → KeepsInstance before scope (cell_instance c cell)
        of_cell c cell at =
            let knows = in_each (IsKnown before) cells cell known (c, at) in
            let (plain, there, is) = at_map (cell_ports net) part.cells c cell at in
            let wires : (j : ℕ) (p : PlainPort) → slice_get cell.ports j ≡ Some p → scope (cell_port_name c j) ≡ meant.Wire p.width = λ j p e. cell_scope c j cell p at e in
            let clocked : scope (codes "clk") ≡ meant.Input 1 = port_scope (one_bit (codes "clk")) (0, refl) in
            let is_reset : scope (codes "reset") ≡ meant.Input 1 = port_scope (one_bit (codes "reset")) (1, refl) in
            let known_as = known_ports before cell knows in
            record {
              kind = subst (λ (x : PlainCellPorts). is_name x.kind ≡ true) is (kind_named net fit writable k c plain lt there);
              named = is_name-numbered (codes "i") refl (omega arith) c (few_cell c cell at);
              known = ap is_none knows.found;
              connects = ap (λ ps. misconnects scope ps (cell_instance c cell).conns) known_as ∙ instance_connects scope c cell.ports knows.apart wires clocked is_reset;
              fits = ap (λ ps. misfits scope ps (cell_instance c cell).conns) known_as ∙ instance_fits scope c cell.ports knows.apart wires clocked is_reset;
              some = omega arith;
              conns = (
                refl,
                (
                  refl,
                  each_in (with_numbers (port_conn c) cell.ports) (λ x h.
                      let (port, there_port, same_conn) = numbered_in (port_conn c) cell.ports h.0 x h.1 in
                      subst (λ (y : PlainConn). conn_fits y ≡ true) same_conn (and_from (is_name port.name) (is_name (cell_port_name c h.0)) (fine_port c h.0 cell port at there_port).named (cell_port_named c h.0 cell port at there_port))),
                ),
              );
            }

    -- THE EDGE
    edge_kept : KeepsEdges scope its_module.edge
    edge_kept = go (length part.registers == 0) where
      set_kept : (name : List ℕ) (n w : ℕ) (value : PlainExpr) → register_name n ≡ name → slice_get part.registers n ≡ Some w → Keeps scope 64 value w → KeepsSet scope (assign name value)
      set_kept name n w value same there value_keeps =
          subst (λ x. KeepsSet scope (assign x value)) same (
          record {
            named = register_named n w there;
            sets = ap is_register (register_scope n w there);
            value = keeps_as scope 64 value w (width_of (scope (register_name n))) (sym (ap width_of (register_scope n w there))) value_keeps;
          })

      resets_kept : (a : PlainAssign) → In a (with_numbers register_reset part.registers) → KeepsSet scope a
      resets_kept a (n, e) =
          let (w, there, same) = numbered_in register_reset part.registers n a e in
          subst (KeepsSet scope) same (set_kept (register_name n) n w (literal w 0) refl there (keeps_more scope 0 64 (literal w 0) w (omega arith) (zero_keeps w (register_wide n w there))))

      steps_kept : (i : PlainItem) → In i (with_numbers (register_step part.drivers) part.registers) → KeepsItem scope i
      steps_kept i (n, e) =
          let (w, there, same) = numbered_in (register_step part.drivers) part.registers n i e in
          subst (KeepsItem scope) same
          (set_kept (register_name n) n w (chain_to (ToRegister n) (Named (register_name n)) part.drivers) refl there (chain_fits (ToRegister n) (Named (register_name n)) w there (registers_keep n w there)))

      go : (b : Bool) → KeepsEdges scope (if b then None else Some (record { reset = with_numbers register_reset part.registers; step = with_numbers (register_step part.drivers) part.registers }))
      go true = tt
      go false = record {
        reset_once = subst (Fresh []) (sym (map-numbered (λ a. a.name) register_reset 0 part.registers)) (fresh_numbered (codes "r") part.registers few.registers);
        reset = each_in (with_numbers register_reset part.registers) resets_kept;
        step_once = subst (Fresh []) (sym (map-numbered item_name (register_step part.drivers) 0 part.registers)) (fresh_numbered (codes "r") part.registers few.registers);
        step = each_in (with_numbers (register_step part.drivers) part.registers) steps_kept;
      }

    -- EACH NET IS DRIVEN ONCE
    wires_named : List (List ℕ)
    wires_named = with_numbers (λ j x. wire_name j) part.wires

    outputs_named : List (List ℕ)
    outputs_named = with_numbers (λ j x. output_name j) part.outputs

    assigned_are : assigned ≡ (inputs_at ++ wires_named ++ outputs_named) ++ codes "done" ∷ []
    unfolding assigned inputs_at wires_named outputs_named
    assigned_are =
        map-append (λ a. a.name) (lists_from (cell_assigns part.drivers) 0 cells ++ with_numbers (wire_assign part.drivers) part.wires ++ with_numbers (output_assign part.drivers) part.outputs) (done_assign part.drivers ∷ [])
        ∙ ap (λ ns. ns ++ codes "done" ∷ [])
        (map-append (λ a. a.name) (lists_from (cell_assigns part.drivers) 0 cells ++ with_numbers (wire_assign part.drivers) part.wires) (with_numbers (output_assign part.drivers) part.outputs)
        ∙ ap (λ ns. ns ++ map (λ a. a.name) (with_numbers (output_assign part.drivers) part.outputs))
        (map-append (λ a. a.name) (lists_from (cell_assigns part.drivers) 0 cells) (with_numbers (wire_assign part.drivers) part.wires)
        ∙ ap (λ ns. ns ++ map (λ a. a.name) (with_numbers (wire_assign part.drivers) part.wires)) (cells_assigned part.drivers 0 cells)
        ∙ ap (λ ns. all_picked (λ p. not p.output) 0 cells ++ ns) (map-numbered (λ a. a.name) (wire_assign part.drivers) 0 part.wires))
        ∙ ap (λ ns. (all_picked (λ p. not p.output) 0 cells ++ with_numbers (λ j x. wire_name j) part.wires) ++ ns) (map-numbered (λ a. a.name) (output_assign part.drivers) 0 part.outputs))

    kins : List Kin
    kins =
        record { letters = codes "cx_c"; names = port_names (codes "c") 0 cells; have = have_twice (codes "c") refl cells few.cells few.ports; apart = fresh_twice (codes "c") cells few.cells few.ports }
        ∷ numbered_kin (codes "w") refl part.wires few.wires ∷ numbered_kin (codes "out") refl part.outputs few.outputs ∷ one_kin (codes "done") refl ∷ []

    kins_apart : Fresh [] (names_of kins)
    unfolding kins one_kin numbered_kin
    kins_apart = fresh_kins [] [] kins tt (refl, (refl, (refl, (refl, tt))))

    all_apart : Fresh [] ((port_names (codes "c") 0 cells ++ wires_named ++ outputs_named) ++ codes "done" ∷ [])
    unfolding kins one_kin numbered_kin wires_named outputs_named
    all_apart = subst (Fresh []) (sym (grouped (port_names (codes "c") 0 cells) (with_numbers (λ j x. wire_name j) part.wires) (with_numbers (λ j x. output_name j) part.outputs))) kins_apart where
      grouped : (c w o : List (List ℕ)) → (c ++ w ++ o) ++ codes "done" ∷ [] ≡ c ++ (w ++ (o ++ (codes "done" ∷ [])))
      grouped c w o = simp append_assoc

    assigned_once : Fresh [] assigned
    unfolding inputs_at
    assigned_once =
        subst (Fresh []) (sym assigned_are)
        (fresh_sub [] [] ((inputs_at ++ wires_named ++ outputs_named) ++ codes "done" ∷ []) ((port_names (codes "c") 0 cells ++ wires_named ++ outputs_named) ++ codes "done" ∷ []) (λ n h. h)
        (sub_both _ _ _ _ (sub_both _ _ _ _ (sub_both _ _ _ _ (sub_all_picked (λ p. not p.output) 0 cells) (sub_same wires_named)) (sub_same outputs_named)) (sub_same (codes "done" ∷ []))) all_apart)

    not_assigned : (n : List ℕ) → In n outputs_at → has_name assigned n ≡ false
    unfolding outputs_at inputs_at wires_named outputs_named
    not_assigned n h =
        let letters = output_letters cells few.cells few.ports n h in
        ap (λ ns. has_name ns n) assigned_are
        ∙ has-append (inputs_at ++ wires_named ++ outputs_named) (codes "done" ∷ []) n
        ∙ or_from (has_name (inputs_at ++ wires_named ++ outputs_named) n) (has_name (codes "done" ∷ []) n)
        (has-append (inputs_at ++ wires_named) outputs_named n
        ∙ or_from (has_name (inputs_at ++ wires_named) n) (has_name outputs_named n)
        (has-append inputs_at wires_named n
        ∙ or_from (has_name inputs_at n) (has_name wires_named n) (not_input cells few.cells few.ports n h)
        (lacks_name (codes "cx_c") wires_named n (lack_other (codes "cx_c") (codes "cx_w") wires_named (λ e. let third : 99 ≡ 119 = ap (λ (m : List ℕ). get_or m 3 0) e in absurd (omega (arith, third))) (have_numbered (codes "w") refl part.wires few.wires)) letters))
        (lacks_name (codes "cx_c") outputs_named n (lack_other (codes "cx_c") (codes "cx_out") outputs_named (λ e. let third : 99 ≡ 111 = ap (λ (m : List ℕ). get_or m 3 0) e in absurd (omega (arith, third))) (have_numbered (codes "out") refl part.outputs few.outputs)) letters))
        (lacks_name (codes "cx_c") (codes "done" ∷ []) n (λ e. let first : 100 ≡ 99 = ap (λ (m : List ℕ). get_or m 0 0) e in absurd (omega (arith, first)), tt) letters)

    once : Fresh [] drivers
    unfolding outputs_at
    once =
        subst (Fresh []) (sym drivers_are)
        (fresh_both [] assigned outputs_at assigned_once
        (subst (λ e. Fresh e outputs_at) (append-nil assigned) (fresh_beyond assigned [] outputs_at not_assigned (fresh_picked (λ p. p.output) cells few.cells few.ports))))

    -- THE MODULE
    pub component_kept : IsKept before its_module
    unfolding drivers
    component_kept = record {
      named = module_named_well net fit writable k lt;
      behind = signature_of part;
      clocked = refl;
      names = names;
      ports = each_in its_module.ports port_kept;
      decls = each_in its_module.decls decl_kept;
      driven_once = once;
      assigns = each_in its_module.assigns assign_kept;
      instances = each_in its_module.instances instance_kept;
      edge = edge_kept;
    }
