-- The ports that the net of a component names have short names in the text.
use Rattle.std.proofs.Common.{◌≡◌, ℕ, ◌+◌, ◌^◌, ◌<◌, ◌≤◌, true, List, length, Option, Some, None, slice_get, refl, sym, ap, ◌∙◌, arith}
use Rattle.std.specs.Prelude.{option_map, option_and_then}
use Rattle.std.proofs.lemmas.Option.{slice_get-map, slice_get_within}
use Rattle.cx_text.proofs.MemberLaws.{in_at}
use Rattle.cx_prim.specs.declared.ports.PortRow.{PortRow}
use Rattle.cx_prim.specs.Table.{row_of}
use Rattle.cx_meaning.specs.declared.kinds.PortDecl.{PortDecl}
use Rattle.cx_meaning.specs.declared.ports.PortRef.{PortRef}
use Rattle.cx_meaning.specs.declared.ports.PortRef.TheVariants as ports
use Rattle.cx_meaning.specs.Designs.{PlainKind, OfPrimitive, OfComponent, PlainCell, PlainDesign, component_at}
use Rattle.cx_rules.specs.Sizes.{size_of, design_size}
use Rattle.cx_rules.specs.Wellformed.{IsDesign}
use Rattle.cx_net.specs.Nets.{PlainNetComponent}
use Rattle.cx_net.specs.NetTree.{net_component_at}
use Rattle.cx_net.specs.NetFits.{signature_widths, kind_width, HasPortWidth}
use Rattle.cx_static.specs.Lowering.{lowered_of}
use Rattle.cx_wiring.specs.Reached.{has_number, place_in, order}
use Rattle.cx_wiring.specs.Wiring.{net_of, kind_in, cell_in}
use Rattle.cx_wiring.specs.PartNets.{wired_in}
use Rattle.cx_wiring.proofs.ComponentCounts.{PartsHold}
use Rattle.cx_wiring.proofs.RowCounts.{primitive_nets}
use Rattle.cx_wiring.proofs.WayLemmas.{there, placed}
use Rattle.cx_emit.specs.Names.{input_name, output_name, cell_port_name}
use Rattle.cx_emit.specs.Exprs.{port_expr}
use Rattle.cx_emitted.proofs.TextBytes.{expr_bytes}
use Rattle.cx_emitted.proofs.ComponentBytes.{port_short, input_short, output_short}
use Rattle.cx_emitted.proofs.SignedBytes.{sized}
use Rattle.cx_emitted.proofs.LoweredCells.{lowered_cells, cells_here, cells_few}
use Rattle.cx_net.proofs.NetsLemmas.{length-signature}

some_within : {A : Type 0} (f : A → ℕ) (xs : List A) (n w : ℕ) → option_map f (slice_get xs n) ≡ Some w → n < length xs
some_within {A} f xs n w e = by (slice_get xs n) refl e
  where
    by : (o : Option A) → slice_get xs n ≡ o → option_map f o ≡ Some w → n < length xs
    by None is h = absurd (cc)
    by (Some x) is h = slice_get_within xs n x is

module _ (d : PlainDesign) (rules : IsDesign d) (small : design_size d ≤ 16384) (parts : (k : ℕ) → k < length d.components → PartsHold (component_at d k)) where
  abbrev places : List ℕ
  places = order (lowered_of d)

  -- the number of a port of a cell
  kind_named : (kind : PlainKind) → ((j : ℕ) → kind ≡ OfComponent j → has_number j places ≡ true) → (q w : ℕ) → kind_width (net_of (lowered_of d)) (kind_in places kind) q ≡ Some w → q < 10 ^ 5
  kind_named (OfPrimitive p) here q w e =
      let less : q < length (row_of p).ports = some_within (λ (port : PortRow). port.width) (row_of p).ports q w e in
      let nets = primitive_nets p in
      omega (arith, less, nets)
  kind_named (OfComponent j) here q w e =
      let less : q < length (signature_widths (net_component_at (net_of (lowered_of d)) (place_in j places))) = slice_get_within (signature_widths (net_component_at (net_of (lowered_of d)) (place_in j places))) q w e in
      let same : length (signature_widths (net_component_at (net_of (lowered_of d)) (place_in j places))) ≡ length (signature_widths (wired_in d (component_at d j))) = ap (λ (x : PlainNetComponent). length (signature_widths x)) (placed d rules j (here j refl)) in
      let long : length (signature_widths (wired_in d (component_at d j))) ≡ 2 + length (component_at d j).inputs + length (component_at d j).outputs = length-signature (wired_in d (component_at d j)) in
      let size : size_of (component_at d j) < 16384 = sized d rules small j (there d rules j (here j refl)) in
      omega (arith, less, same, long, size)

  module _ (k : ℕ) (here : has_number k places ≡ true) where
    within : k < length d.components
    within = there d rules k here

    size : size_of (component_at d k) < 16384
    size = sized d rules small k within

    cell_named : (c q w : ℕ) (o : Option PlainCell) → slice_get (lowered_cells d rules k) c ≡ o → option_and_then (λ (cell : PlainCell). kind_width (net_of (lowered_of d)) cell.kind q) (option_map (cell_in places) o) ≡ Some w → length (cell_port_name c q) ≤ 15
    cell_named c q w None is e = absurd (cc)
    cell_named c q w (Some cell) is e =
        let few : length (lowered_cells d rules k) ≤ 10 ^ 5 = cells_few d rules small k within (parts k within) in
        let less : c < length (lowered_cells d rules k) = slice_get_within (lowered_cells d rules k) c cell is in
        let first : c < 10 ^ 5 = omega (arith, few, less) in
        let second : q < 10 ^ 5 = kind_named cell.kind (λ j kind. cells_here d rules k here cell j (in_at (lowered_cells d rules k) c cell is) kind) q w e in
        port_short c q first second

    pub ports_named : (p : PortRef) (w : ℕ) → HasPortWidth (net_of (lowered_of d)) (wired_in d (component_at d k)) p w → expr_bytes (port_expr p) ≤ 37
    ports_named (ports.Cell c q) w h =
        let same : option_and_then (λ (cell : PlainCell). kind_width (net_of (lowered_of d)) cell.kind q) (option_map (cell_in places) (slice_get (lowered_cells d rules k) c)) ≡ Some w =
        ap (option_and_then (λ (cell : PlainCell). kind_width (net_of (lowered_of d)) cell.kind q)) (sym (slice_get-map (cell_in places) (lowered_cells d rules k) c)) ∙ h in
        let few : length (cell_port_name c q) ≤ 15 = cell_named c q w (slice_get (lowered_cells d rules k) c) refl same in
        omega (arith, few)
    ports_named (ports.Input n) w h =
        let own = size in
        let less : n < length (component_at d k).inputs = some_within (λ (x : PortDecl). x.width) (component_at d k).inputs n w h in
        let low : n < 10 ^ 5 = omega (arith, less, own) in
        let few : length (input_name n) ≤ 10 = input_short n low in
        omega (arith, few)
    ports_named (ports.Output n) w h =
        let own = size in
        let less : n < length (component_at d k).outputs = some_within (λ (x : PortDecl). x.width) (component_at d k).outputs n w h in
        let low : n < 10 ^ 5 = omega (arith, less, own) in
        let few : length (output_name n) ≤ 11 = output_short n low in
        omega (arith, few)
    ports_named (ports.Done g) w h = absurd h
    ports_named (ports.Literal u v) w h = omega arith
