-- Where all that is there has a value, each expression has one, and a register takes what its chain gives.
use Rattle.std.proofs.Common.{◌≡◌, ℕ, zero, suc, ◌+◌, ◌<◌, Bool, true, false, List, [], ◌∷◌, length, Option, Some, option_and_then, option_map, slice_get, refl, ap, sym, ◌∙◌, subst, if◌then◌else◌, arith}
use Rattle.std.specs.Prelude.{nat_lt}
use Rattle.std.specs.Option.{option_map_or}
use Rattle.std.proofs.lemmas.Bool.{lt-ltb}
use Rattle.std.proofs.lemmas.Option.{slice_get_within}
use Rattle.cx_bits.specs.BitVector.{BitVector}
use Rattle.cx_bits.specs.Operators.{sum_of, and_of, or_of, complement_of}
use Rattle.cx_prim.specs.declared.ports.PortRow.{PortRow}
use Rattle.cx_prim.specs.Table.{row_of}
use Rattle.cx_meaning.specs.declared.ports.PortRef.{PortRef}
use Rattle.cx_meaning.specs.declared.ports.PortRef.TheVariants as ports
use Rattle.cx_meaning.specs.declared.kinds.PortDecl.{PortDecl}
use Rattle.cx_meaning.specs.Designs.{PlainKind, OfPrimitive, OfComponent, PlainCell}
use Rattle.cx_meaning.specs.Instances.{Path}
use Rattle.cx_meaning.specs.Truths.{compares}
use Rattle.cx_net.specs.Nets.{PlainNetExpr, OfPort, OfRegister, OfWire, OfHole, OfGo, Fixed, Inverse, AllOf, AnyOf, Sum, Compares, PlainNetExprs, no_exprs, an_expr, PlainNetDriver, PlainNetComponent, PlainNet}
use Rattle.cx_net.specs.NetTree.{net_component_at, net_cells_for, net_within}
use Rattle.cx_net.specs.NetMeaning.{Node, APort, AWire, AHole, TheDone, NetAround, truth_bit, both_known, is_true, net_expr, all_expr, any_expr, chain, is_port_of, is_own_node, is_node}
use Rattle.cx_net.specs.NetEdges.{taken}
use Rattle.cx_net.specs.NetPaths.{LeadsTo}
use Rattle.cx_net.specs.NetFits.{signature_widths, kind_width, port_width, HasPortWidth, HasWidth, AreBits, IsFitKind}
use Rattle.cx_emit.specs.Fits.{IsFlat, node_width}
use Rattle.cx_net.proofs.DriverLemmas.{AreFitDrivers}
use Rattle.cx_net.proofs.DriverLemmas.{at_kind, part-within, cell-at, there-at}
use Rattle.cx_text.proofs.OptionLaws.{map_some, bind_some}
use Rattle.cx_net.proofs.NetsLemmas.{length-signature}

-- it has a value
abbrev pub Has : Option BitVector → Type 0
Has o = (v : BitVector) × (o ≡ Some v)

has_map : (f : BitVector → BitVector) (o : Option BitVector) → Has o → Has (option_map f o)
has_map f o (v, e) = (f v, ap (option_map f) e)

has_both : (f : BitVector → BitVector → BitVector) (a b : Option BitVector) → Has a → Has b → Has (both_known f a b)
has_both f a b (x, e) (y, g) = (f x y, ap (option_and_then (λ x. option_map (f x) b)) e ∙ ap (option_map (f x)) g)

module _ (net : PlainNet) (part : PlainNetComponent) (no_holes : part.holes ≡ 0) (around : NetAround) (registers : ℕ → Option BitVector) (look : Node → Option BitVector)
    (nodes : (node : Node) (w : ℕ) → node_width net part node ≡ Some w → Has (look node)) (kept : (n w : ℕ) → slice_get part.registers n ≡ Some w → Has (registers n))
    (goes : Has around.go) (given : (n w : ℕ) → port_width net part (ports.Input n) ≡ Some w → Has (around.input n)) where
  abbrev value : PlainNetExpr → Option BitVector
  value = net_expr around registers look

  port_has : (p : PortRef) (w : ℕ) → HasPortWidth net part p w → Has (value (OfPort p))
  port_has (ports.Cell c p) w h = nodes (APort (ports.Cell c p)) w h
  port_has (ports.Input n) w h = given n w h
  port_has (ports.Output n) w h = nodes (APort (ports.Output n)) w h
  port_has (ports.Done g) w h = absurd h
  port_has (ports.Literal u x) w h = (record { width = u; value = x }, refl)

  mutual
    pub expr_has : (e : PlainNetExpr) (w : ℕ) → HasWidth net part e w → Has (value e)
    expr_has (OfPort p) w h = port_has p w h
    expr_has (OfRegister n) w h = kept n w h
    expr_has (OfWire n) w h = nodes (AWire n) w h
    expr_has (OfHole n) w h = absurd (let lower = h.0 in omega arith)
    expr_has OfGo w h = goes
    expr_has (Fixed b) w h = (b, refl)
    expr_has (Inverse a) w h = has_map complement_of (value a) (expr_has a w h)
    expr_has (AllOf es) w h = all_has es h.1
    expr_has (AnyOf es) w h = any_has es h.1
    expr_has (Sum a b) w h = has_both sum_of (value a) (value b) (expr_has a w h.0) (expr_has b w h.1)
    expr_has (Compares c a b) w h = has_both (λ x y. truth_bit (compares c x.value y.value)) (value a) (value b) (expr_has a h.1.0 h.1.1) (expr_has b h.1.0 h.1.2)

    all_has : (es : PlainNetExprs) → AreBits net part es → Has (all_expr around registers look es)
    all_has no_exprs h = (truth_bit true, refl)
    all_has (an_expr e es) h = has_both and_of (value e) (all_expr around registers look es) (expr_has e 1 h.0) (all_has es h.1)

    any_has : (es : PlainNetExprs) → AreBits net part es → Has (any_expr around registers look es)
    any_has no_exprs h = (truth_bit false, refl)
    any_has (an_expr e es) h = has_both or_of (value e) (any_expr around registers look es) (expr_has e 1 h.0) (any_has es h.1)

  -- what a register takes is what its chain gives, where it stands last with its old value
  pub chain_takes : (u : BitVector) (w : ℕ) (ds : List PlainNetDriver) → AreFitDrivers net part w ds
      → (v : BitVector) × (chain around registers look u ds ≡ Some v) × (v.value ≡ taken (λ d. value d.guard) (λ d. value d.source) u.value ds)
  chain_takes u w [] fits = (u, refl, refl)
  chain_takes u w (d ∷ ds) fits =
      let (g, is) = expr_has d.guard 1 fits.0 in
      let (x, source) = expr_has d.source w fits.1 in
      go g is (is_true g) refl x source (chain_takes u w ds fits.2)
    where
      rest : Option BitVector
      rest = chain around registers look u ds

      by_guard : (g : BitVector) (t : Bool) → value d.guard ≡ Some g → is_true g ≡ t → (v : BitVector) → (if t then value d.source else chain around registers look u ds) ≡ Some v → chain around registers look u (d ∷ ds) ≡ Some v
      by_guard g t is test v e = ap (option_and_then (λ g. if is_true g then value d.source else chain around registers look u ds)) is ∙ ap (λ b. if b then value d.source else chain around registers look u ds) test ∙ e

      by_take : (g : BitVector) (t : Bool) → value d.guard ≡ Some g → is_true g ≡ t
          → taken (λ d. value d.guard) (λ d. value d.source) u.value (d ∷ ds) ≡ (if t then option_map_or (λ b. b.value) (value d.source) u.value else taken (λ d. value d.guard) (λ d. value d.source) u.value ds)
      by_take g t is test =
          ap (λ o. if option_map_or is_true o false then option_map_or (λ b. b.value) (value d.source) u.value else taken (λ d. value d.guard) (λ d. value d.source) u.value ds) is
          ∙ ap (λ b. if b then option_map_or (λ b. b.value) (value d.source) u.value else taken (λ d. value d.guard) (λ d. value d.source) u.value ds) test

      go : (g : BitVector) → value d.guard ≡ Some g → (t : Bool) → is_true g ≡ t → (x : BitVector) → value d.source ≡ Some x
          → ((v : BitVector) × (chain around registers look u ds ≡ Some v) × (v.value ≡ taken (λ d. value d.guard) (λ d. value d.source) u.value ds))
          → (v : BitVector) × (chain around registers look u (d ∷ ds) ≡ Some v) × (v.value ≡ taken (λ d. value d.guard) (λ d. value d.source) u.value (d ∷ ds))
      go g is true test x source later = (x, by_guard g true is test x source, sym (by_take g true is test ∙ ap (λ o. option_map_or (λ b. b.value) o u.value) source))
      go g is false test x source (v, f, same) = (v, by_guard g false is test v f, same ∙ sym (by_take g false is test))

-- a node that has a width is there
module _ (net : PlainNet) (fit : IsFlat net) where
  port_there : (levels : ℕ) (kind : PlainKind) (p w : ℕ) → kind_width net kind p ≡ Some w → is_port_of (at_kind (net_within net levels) kind) p ≡ true
  port_there levels (OfPrimitive primitive) p w e =
      let (port, at, same) = map_some (λ (x : PortRow). x.width) (slice_get (row_of primitive).ports p) w e in
      lt-ltb p (length (row_of primitive).ports) (slice_get_within (row_of primitive).ports p port at)
  port_there levels (OfComponent child) p w e =
      let lt : p < 2 + length (net_component_at net child).inputs + length (net_component_at net child).outputs =
      subst (λ l. p < l) (length-signature (net_component_at net child)) (slice_get_within (signature_widths (net_component_at net child)) p w e) in
      subst (λ (x : PlainNetComponent). nat_lt p (2 + length x.inputs + length x.outputs) ≡ true) (sym (part-within net levels child)) (lt-ltb p _ lt)

  own_there : (levels k : ℕ) (node : Node) (w : ℕ) → node_width net (net_component_at net k) node ≡ Some w
      → is_own_node (net_component_at net k) (net_cells_for (net_within net levels) (net_component_at net k).cells) node ≡ true
  own_there levels k (APort (ports.Cell c p)) w e =
      let (cell, there, wide) = bind_some (λ (x : PlainCell). kind_width net x.kind p) (slice_get (net_component_at net k).cells c) w e in
      ap (λ at. is_port_of at p) (cell-at (net_within net levels) (net_component_at net k).cells c cell there) ∙ port_there levels cell.kind p w wide
  own_there levels k (APort (ports.Input n)) w e = absurd (cc)
  own_there levels k (APort (ports.Output n)) w e =
      let (d, there, same) = map_some (λ (x : PortDecl). x.width) (slice_get (net_component_at net k).outputs n) w e in
      lt-ltb n (length (net_component_at net k).outputs) (slice_get_within (net_component_at net k).outputs n d there)
  own_there levels k (APort (ports.Done g)) w e = absurd (cc)
  own_there levels k (APort (ports.Literal u x)) w e = absurd (cc)
  own_there levels k (AWire n) w e = lt-ltb n (length (net_component_at net k).wires) (slice_get_within (net_component_at net k).wires n w e)
  own_there levels k (AHole n) w e = absurd (cc)
  own_there levels k TheDone w e = refl

  -- at the end of a path
  pub node_there : (path : Path) (levels k : ℕ) → k < levels → k < length net.components → (h : ℕ) (node : Node) (w : ℕ) → LeadsTo net k path h → node_width net (net_component_at net h) node ≡ Some w
      → is_node (net_within net levels k) path node ≡ true
  node_there path zero k lower lt h node w leads e = absurd (omega arith)
  node_there [] (suc levels) k lower lt h node w leads e = own_there levels k node w (subst (λ x. node_width net (net_component_at net x) node ≡ Some w) (sym leads) e)
  node_there (c ∷ path) (suc levels) k lower lt h node w (cell, child, there, is, leads) e =
      let less : child < k = subst (IsFitKind k) is ((fit.fits.components k lt).cells c cell there) in
      there-at (net_within net levels) path (net_component_at net k).cells c cell child there is node
      ∙ node_there path levels child (omega arith) (omega arith) h node w leads e
