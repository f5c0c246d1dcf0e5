-- A net without holes fits where the net does.
use Rattle.std.proofs.Common.{◌≡◌, ℕ, zero, suc, ◌<◌, if◌then◌else◌, List, [], ◌∷◌, length, map, replicate, Some, None, option_and_then, slice_get, true, IsSome, sym, ap, ◌∙◌, subst, refl}
use Rattle.std.proofs.Math.Path.{fun_ext}
use Rattle.std.proofs.lemmas.Bool.{lt-ltb}
use Rattle.std.proofs.lemmas.List.{length-map}
use Rattle.std.proofs.lemmas.Option.{slice_get_within}
use Rattle.cx_meaning.specs.declared.ports.PortRef.{PortRef}
use Rattle.cx_meaning.specs.declared.ports.PortRef.TheVariants as ports
use Rattle.cx_meaning.specs.Designs.{PlainKind, OfPrimitive, OfComponent, PlainCell}
use Rattle.cx_net.specs.Nets.{PlainNetExpr, OfPort, OfRegister, OfWire, OfHole, OfGo, Fixed, Inverse, AllOf, AnyOf, Sum, Compares, PlainNetExprs, no_exprs, an_expr, PlainNetTarget, ToPort, ToRegister, ToWire, ToHole, ToDone, PlainNetDriver, PlainNetComponent, PlainNet}
use Rattle.cx_net.specs.NetTree.{net_component_at}
use Rattle.cx_net.specs.NetFits.{signature_widths, kind_width, port_width, HasPortWidth, HasWidth, AreBits, target_width, IsFitDriver, IsFitKind, IsFitComponent, IsExternalKind, IsFit, HasNoHoles, HasTargets}
use Rattle.cx_holes.specs.Inlining.{inlined_expr, inlined_exprs, inlined_target, inlined_driver, inlined_component, inlined}
use Rattle.cx_holes.specs.Names.{TargetNames, DriverNames, DriversName, ComponentNames, NetNames}
use Rattle.cx_holes.proofs.CellLemmas.{cells-inlined}
use Rattle.cx_holes.proofs.RenamedNodes.{own_wire, hole_wire}
use Rattle.cx_holes.proofs.RenamedRuns.{part_same, part_names}

module _ (net : PlainNet) where
  kind_same : (kind : PlainKind) (p : ℕ) → kind_width (inlined net) kind p ≡ kind_width net kind p
  kind_same (OfPrimitive primitive) p = refl
  kind_same (OfComponent k) p = ap (λ part. slice_get (signature_widths part) p) (part_same net.components k)

  module _ (part : PlainNetComponent) where
    port_same : (p : PortRef) → port_width (inlined net) (inlined_component part) p ≡ port_width net part p
    port_same (ports.Cell c p) = ap (λ f. option_and_then f (slice_get part.cells c)) (fun_ext (λ cell. kind_same cell.kind p))
    port_same (ports.Input n) = refl
    port_same (ports.Output n) = refl
    port_same (ports.Done g) = refl
    port_same (ports.Literal w v) = refl

    port_fits : (p : PortRef) (w : ℕ) → HasPortWidth net part p w → HasPortWidth (inlined net) (inlined_component part) p w
    port_fits (ports.Cell c p) w h = port_same (ports.Cell c p) ∙ h
    port_fits (ports.Input n) w h = h
    port_fits (ports.Output n) w h = h
    port_fits (ports.Done g) w h = h
    port_fits (ports.Literal u v) w h = h

    mutual
      expr_fits : (e : PlainNetExpr) (w : ℕ) → HasWidth net part e w → HasWidth (inlined net) (inlined_component part) (inlined_expr (length part.wires) e) w
      expr_fits (OfPort p) w h = port_fits p w h
      expr_fits (OfRegister n) w h = h
      expr_fits (OfWire n) w h = own_wire part.wires (replicate part.holes 1) n (slice_get_within part.wires n w h) ∙ h
      expr_fits (OfHole n) w h = hole_wire part.wires part.holes n h.0 ∙ ap (λ v. Some v) (sym h.1)
      expr_fits OfGo w h = h
      expr_fits (Fixed b) w h = h
      expr_fits (Inverse e) w h = expr_fits e w h
      expr_fits (AllOf es) w h = (h.0, exprs_fit es h.1)
      expr_fits (AnyOf es) w h = (h.0, exprs_fit es h.1)
      expr_fits (Sum a b) w h = (expr_fits a w h.0, expr_fits b w h.1)
      expr_fits (Compares c a b) w h = (h.0, (h.1.0, expr_fits a h.1.0 h.1.1, expr_fits b h.1.0 h.1.2))

      exprs_fit : (es : PlainNetExprs) → AreBits net part es → AreBits (inlined net) (inlined_component part) (inlined_exprs (length part.wires) es)
      exprs_fit no_exprs h = tt
      exprs_fit (an_expr e es) h = (expr_fits e 1 h.0, exprs_fit es h.1)

    target_same : (t : PlainNetTarget) → TargetNames (length part.wires) part.holes t → target_width net part t ≡ target_width (inlined net) (inlined_component part) (inlined_target (length part.wires) t)
    target_same (ToPort p) h = sym (port_same p)
    target_same (ToRegister n) h = refl
    target_same (ToWire n) h = sym (own_wire part.wires (replicate part.holes 1) n h)
    target_same (ToHole n) h = ap (λ b. if b then Some 1 else None) (lt-ltb n part.holes h) ∙ sym (hole_wire part.wires part.holes n h)
    target_same ToDone h = refl

    driver_fits : (d : PlainNetDriver) → DriverNames (length part.wires) part.holes d → IsFitDriver net part d → IsFitDriver (inlined net) (inlined_component part) (inlined_driver (length part.wires) d)
    driver_fits d names h = record {
      guard = expr_fits d.guard 1 h.guard;
      source = λ w e. expr_fits d.source w (h.source w (target_same d.target names.target ∙ e));
    }

-- the driver that a driver without holes is made of
source_driver : (f : PlainNetDriver → PlainNetDriver) (ds : List PlainNetDriver) (n : ℕ) (made : PlainNetDriver) → slice_get (map f ds) n ≡ Some made → (d : PlainNetDriver) × (slice_get ds n ≡ Some d) × (f d ≡ made)
source_driver f [] n made e = absurd (cc)
source_driver f (d ∷ ds) zero made e = (d, refl, cc)
source_driver f (d ∷ ds) (suc n) made e = source_driver f ds n made e

names_at : (wires holes : ℕ) (ds : List PlainNetDriver) (n : ℕ) (d : PlainNetDriver) → DriversName wires holes ds → slice_get ds n ≡ Some d → DriverNames wires holes d
names_at wires holes [] n d names e = absurd (cc)
names_at wires holes (x ∷ ds) zero d names e = let same : x ≡ d = cc in subst (DriverNames wires holes) same names.0
names_at wires holes (x ∷ ds) (suc n) d names e = names_at wires holes ds n d names.1 e

abbrev DriversFit : PlainNet → PlainNetComponent → Type 0
DriversFit net part = (n : ℕ) (d : PlainNetDriver) → slice_get part.drivers n ≡ Some d → IsFitDriver net part d

abbrev CellsFit : ℕ → List PlainCell → Type 0
CellsFit k cells = (c : ℕ) (cell : PlainCell) → slice_get cells c ≡ Some cell → IsFitKind k cell.kind

abbrev ExternalsFit : List PlainCell → Type 0
ExternalsFit cells = (c : ℕ) (cell : PlainCell) → slice_get cells c ≡ Some cell → cell.external ≡ true → IsExternalKind cell.kind

module _ (net : PlainNet) (names : NetNames net) where
  drivers_fit : (part : PlainNetComponent) → ComponentNames part → DriversFit net part → DriversFit (inlined net) (inlined_component part)
  drivers_fit part own h n made e =
      let d = source_driver (inlined_driver (length part.wires)) part.drivers n made e in
      subst (IsFitDriver (inlined net) (inlined_component part)) d.2 (driver_fits net part d.0 (names_at (length part.wires) part.holes part.drivers n d.0 own d.1) (h n d.0 d.1))

  component_fits : (k : ℕ) → IsFitComponent net k → IsFitComponent (inlined net) k
  component_fits k h = record {
    drivers = subst (DriversFit (inlined net)) (sym (part_same net.components k)) (drivers_fit (net_component_at net k) (part_names net.components k names) h.drivers);
    cells = subst (CellsFit k) (sym (cells-inlined net k)) h.cells;
  }

  -- A NET WITHOUT HOLES FITS
  pub inlined_fits : IsFit net → IsFit (inlined net)
  inlined_fits h =
      let same : length (map inlined_component net.components) ≡ length net.components = length-map net.components inlined_component in
      record {
        has_main = subst (λ n. net.main < n) (sym same) h.has_main;
        externals = subst ExternalsFit (sym (cells-inlined net net.main)) h.externals;
        components = λ k within. component_fits k (h.components k (subst (λ n. k < n) same within));
      }

-- and what its drivers drive is there
pub inlined_targets : (net : PlainNet) → NetNames net → HasTargets net → HasTargets (inlined net)
inlined_targets net names there k within =
    let own : k < length net.components = subst (λ n. k < n) (length-map net.components inlined_component) within in
    subst (λ (c : PlainNetComponent). (m : ℕ) (made : PlainNetDriver) → slice_get c.drivers m ≡ Some made → IsSome (target_width (inlined net) c made.target)) (sym (part_same net.components k))
    (λ m made e.
    let part = net_component_at net k in
    let d = source_driver (inlined_driver (length part.wires)) part.drivers m made e in
    let named = names_at (length part.wires) part.holes part.drivers m d.0 (part_names net.components k names) d.1 in
    subst (λ (x : PlainNetDriver). IsSome (target_width (inlined net) (inlined_component part) x.target)) d.2 (subst IsSome (target_same net part d.0.target named.target) (there k own m d.0 d.1)))

pub inlined_no_holes : (net : PlainNet) → HasNoHoles (inlined net)
inlined_no_holes net k = ap (λ part. part.holes) (part_same net.components k)
