-- What holds of the parts of a net that is emitted: all that has a width has 1 to 128 bits, and the numbers in expressions fit.
use Rattle.std.proofs.Common.{map, ◌≡◌, ℕ, ◌<◌, ◌≤◌, List, [], ◌∷◌, length, Some, slice_get, refl, sym, ◌∙◌, subst, arith}
use Rattle.std.proofs.lemmas.Option.{get_or_from_slice_get, slice_get_within}
use Rattle.std.specs.Prelude.{codes}
use Rattle.cx_text.specs.Members.{Each}
use Rattle.cx_prim.specs.Widths.{IsWidth}
use Rattle.cx_meaning.specs.declared.ports.PortRef.{PortRef}
use Rattle.cx_meaning.specs.declared.ports.PortRef.TheVariants as ports
use Rattle.cx_meaning.specs.Designs.{PlainKind, OfPrimitive, OfComponent, PlainCell}
use Rattle.cx_rules.specs.Externals.{numbers_of, sizes_in}
use Rattle.cx_net.specs.Nets.{PlainNetExpr, OfPort, OfRegister, OfWire, OfHole, OfGo, Fixed, Inverse, AllOf, AnyOf, Sum, Compares, PlainNetExprs, no_exprs, an_expr, PlainNetDriver, PlainNetComponent, PlainNet}
use Rattle.cx_net.specs.NetFits.{HasPortWidth, HasWidth, AreBits, target_width, IsFitKind, IsExternalKind}
use Rattle.cx_net.specs.NetTree.{no_net_component, net_component_at}
use Rattle.cx_net.proofs.NetsLemmas.{each_all}
use Rattle.cx_emit.specs.Emitted.{CanBeEmitted, PortFits, LiteralsFit, AllLiteralsFit, DriverFits, PortsAreWide, PartFits, ExternalsHaveWords}
use Rattle.cx_emit.specs.Signatures.{cell_ports}
use Rattle.cx_emit.proofs.CleanModules.{each_more}
use Rattle.cx_emit.proofs.CellPorts.{each_in, comp_there, kind_ports_are}
use Rattle.cx_emit.proofs.PrimitiveModules.{primitive_owes}
use Rattle.cx_text.proofs.OptionLaws.{some_value}

module _ (net : PlainNet) (part : PlainNetComponent) where
  -- the numbers of an expression that has a width fit
  port_fits : (p : PortRef) (w : ℕ) → HasPortWidth net part p w → PortFits p
  port_fits (ports.Cell c p) w h = tt
  port_fits (ports.Input n) w h = tt
  port_fits (ports.Output n) w h = tt
  port_fits (ports.Done g) w h = tt
  port_fits (ports.Literal u v) w h = h.fits

  mutual
    literals_fit : (e : PlainNetExpr) (w : ℕ) → HasWidth net part e w → LiteralsFit e
    literals_fit (OfPort p) w h = port_fits p w h
    literals_fit (OfRegister n) w h = tt
    literals_fit (OfWire n) w h = tt
    literals_fit (OfHole n) w h = tt
    literals_fit OfGo w h = tt
    literals_fit (Fixed b) w h = tt
    literals_fit (Inverse e) w h = literals_fit e w h
    literals_fit (AllOf es) w h = all_literals_fit es h.1
    literals_fit (AnyOf es) w h = all_literals_fit es h.1
    literals_fit (Sum a b) w h = (literals_fit a w h.0, literals_fit b w h.1)
    literals_fit (Compares c a b) w h = (literals_fit a h.1.0 h.1.1, literals_fit b h.1.0 h.1.2)

    all_literals_fit : (es : PlainNetExprs) → AreBits net part es → AllLiteralsFit es
    all_literals_fit no_exprs h = tt
    all_literals_fit (an_expr e es) h = (literals_fit e 1 h.0, all_literals_fit es h.1)

module _ (net : PlainNet) (can : CanBeEmitted net) where
  module _ (k : ℕ) (lt : k < length net.components) where
    abbrev part : PlainNetComponent
    part = net_component_at net k

    driver_fits : (n : ℕ) (d : PlainNetDriver) → slice_get part.drivers n ≡ Some d → DriverFits d
    driver_fits n d e =
        let fit = (can.fits.components k lt).drivers n d e in
        let w = some_value (target_width net part d.target) (can.targets k lt n d e) in
        record { guard = literals_fit net part d.guard 1 fit.guard; source = literals_fit net part d.source w.0 (fit.source w.0 w.1) }

    kind_wide : (cell : PlainCell) → IsFitKind k cell.kind → PortsAreWide (cell_ports net cell)
    kind_wide cell fit =
        let ports = kind_ports_are net can.fits can.writable k cell.kind lt fit in
        each_all (λ port. IsWidth port.width) (cell_ports net cell).ports (each_more (cell_ports net cell).ports (λ port h. h.wide) ports.fine)

    cells_wide : (cells : List PlainCell) → Each (λ cell. IsFitKind k cell.kind) cells → Each PortsAreWide (map (cell_ports net) cells)
    cells_wide [] each = tt
    cells_wide (cell ∷ cells) each = (kind_wide cell each.0, cells_wide cells each.1)

    own_fits : PartFits part (map (cell_ports net) part.cells)
    own_fits =
        let own = can.writable.components k lt in
        record {
          ports = each_all PortsAreWide (map (cell_ports net) part.cells) (cells_wide part.cells (each_in part.cells (λ cell i. (can.fits.components k lt).cells i.0 cell i.1)));
          outputs = own.output_widths;
          wires = own.wire_widths;
          registers = own.register_widths;
          drivers = each_all DriverFits part.drivers (each_in part.drivers (λ d i. driver_fits i.0 d i.1));
        }

  -- A COMPONENT, by its number
  pub part_fits : (k : ℕ) (part : PlainNetComponent) → slice_get net.components k ≡ Some part → PartFits part (map (cell_ports net) part.cells)
  part_fits k part e =
      let lt = slice_get_within net.components k part e in
      let both : Some (net_component_at net k) ≡ Some part = sym (comp_there net can.fits can.writable k lt) ∙ e in
      let same : net_component_at net k ≡ part = cc in
      subst (λ (c : PlainNetComponent). PartFits c (map (cell_ports net) c.cells)) same (own_fits k lt)

  -- THE EXTERNAL CELLS of main
  some_numbers : (kind : PlainKind) → IsFitKind net.main kind → IsExternalKind kind → 1 ≤ length (numbers_of kind)
  some_numbers (OfComponent j) fit memory = absurd memory
  some_numbers (OfPrimitive p) fit memory = by p.numbers ((primitive_owes [] (codes "cx_m") refl p fit).sizes memory).0
    where
      by : (numbers : List ℕ) → 0 < length (sizes_in numbers) → 1 ≤ length numbers
      by [] some = absurd (let none : length (sizes_in []) ≡ 0 = refl in omega (arith, some, none))
      by (n ∷ numbers) some = omega arith

  externals_have_words : ExternalsHaveWords (net_component_at net net.main).cells
  externals_have_words c cell e external = record {
    some_numbers = some_numbers cell.kind ((can.fits.components net.main can.fits.has_main).cells c cell e) (can.fits.externals c cell e external);
    few_bits = (can.writable.externals c cell e external).few_bits;
  }

  pub main_has_words : (main : PlainNetComponent) → slice_get net.components net.main ≡ Some main → ExternalsHaveWords main.cells
  main_has_words main e = subst (λ (c : PlainNetComponent). ExternalsHaveWords c.cells) (get_or_from_slice_get net.components net.main main no_net_component e) externals_have_words
