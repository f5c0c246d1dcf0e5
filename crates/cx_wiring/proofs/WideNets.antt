-- All widths of the net of a design are 1 to 128, and so are those of the ports of all primitives.
use Rattle.std.proofs.Common.{◌≡◌, ⊎_elim, ℕ, ◌<◌, true, List, ◌++◌, length, Some, slice_get, sym, subst}
use Rattle.std.proofs.lemmas.Bool.{cases_lt}
use Rattle.std.proofs.lemmas.List.{get_or_past}
use Rattle.cx_text.proofs.MemberLaws.{in_at}
use Rattle.cx_prim.specs.declared.ports.PortRow.{PortRow}
use Rattle.cx_prim.specs.Widths.{IsWidth}
use Rattle.cx_prim.specs.Table.{row_of}
use Rattle.cx_meaning.specs.declared.kinds.PortDecl.{PortDecl}
use Rattle.cx_meaning.specs.Designs.{PlainDesign, component_at}
use Rattle.cx_rules.specs.Wellformed.{IsSignature, IsDesign}
use Rattle.cx_net.specs.NetHolds.{IsWideComponent, IsWide, RowsAreWide}
use Rattle.cx_net.specs.NetTree.{no_net_component}
use Rattle.cx_static.specs.Lowering.{lowered_component, lowered_of}
use Rattle.cx_wiring.specs.Trees.{tree_widths}
use Rattle.cx_wiring.specs.Reached.{has_number, order}
use Rattle.cx_wiring.specs.Wiring.{plain_wires, component_registers, component_driven, target_width, net_of}
use Rattle.cx_wiring.specs.PartNets.{wired_in}
use Rattle.cx_wiring.proofs.NumberLemmas.{in_number}
use Rattle.cx_wiring.proofs.WayLemmas.{there, net_long}
use Rattle.cx_wiring.proofs.OrderHeights.{stands_at}
use Rattle.cx_wiring.proofs.FitLemmas.{are_at}
use Rattle.cx_wiring.proofs.PortWidths.{ports_wide}
use Rattle.cx_wiring.proofs.WireWidths.{component_registers_wide, wires_wide}
use Rattle.cx_text.proofs.ListLaws.{there_at}

pub rows_are_wide : RowsAreWide
rows_are_wide primitive n port is = are_at (λ (x : PortRow). IsWidth x.width) (row_of primitive).ports (ports_wide primitive) n port is

declared_are : (decls : List PortDecl) → IsSignature decls → (n : ℕ) (decl : PortDecl) → slice_get decls n ≡ Some decl → IsWidth decl.width
declared_are decls sign n decl is = let port = sign decl (in_at decls n decl is) in record { some_bits = port.some_bits; few_bits = port.few_bits }

no_component_wide : IsWideComponent no_net_component
no_component_wide = record { inputs = λ n decl e. absurd cc; outputs = λ n decl e. absurd cc; registers = λ n w e. absurd cc; wires = λ n w e. absurd cc }

module _ (d : PlainDesign) (rules : IsDesign d) where
  wired_wide : (k : ℕ) → k < length d.components → IsWideComponent (wired_in d (component_at d k))
  wired_wide k within =
      let low = lowered_component (component_at d k) in
      record {
        inputs = declared_are (component_at d k).inputs (rules.components k within).inputs;
        outputs = declared_are (component_at d k).outputs (rules.components k within).outputs;
        registers = are_at IsWidth (component_registers low) (component_registers_wide low);
        wires = are_at IsWidth (plain_wires low ++ tree_widths (target_width (lowered_of d) low) (component_driven low)) (wires_wide d rules k within);
      }

  -- THE NET of a design
  pub net_wide : IsWide (net_of (lowered_of d))
  net_wide n =
      ⊎_elim
      (λ less. let k = there_at (order (lowered_of d)) n (subst (λ m. n < m) (net_long d rules) less) in
      let here : has_number k.0 (order (lowered_of d)) ≡ true = in_number k.0 (order (lowered_of d)) (in_at (order (lowered_of d)) n k.0 k.1) in
      subst IsWideComponent (sym (stands_at d rules n k.0 k.1)) (wired_wide k.0 (there d rules k.0 here)))
      (λ past. subst IsWideComponent (sym (get_or_past (net_of (lowered_of d)).components n no_net_component past)) no_component_wide)
      (cases_lt n (length (net_of (lowered_of d)).components))
