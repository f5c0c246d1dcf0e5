-- The expressions of a component's text, where holes are wires, have as many bytes as those of its net cost, with five to spare; and they
-- are narrow.
use Rattle.std.proofs.Common.{◌≡◌, ℕ, zero, suc, ◌+◌, ◌<◌, ◌≤◌, Bool, true, false, List, [], ◌∷◌, length, map, Some, slice_get, if◌then◌else◌, arith}
use Rattle.std.specs.Prelude.{nat_lt}
use Rattle.cx_text.specs.Members.{Each}
use Rattle.cx_meaning.specs.declared.ports.PortRef.{PortRef}
use Rattle.cx_meaning.specs.declared.ports.PortRef.TheVariants as ports
use Rattle.cx_vtree.specs.declared.operators.Operator.{Operator}
use Rattle.cx_vtree.specs.declared.operators.Operator.TheVariants as operators
use Rattle.cx_vtree.specs.Plain.{PlainExpr}
use Rattle.cx_vtree.specs.Lines.{op_text}
use Rattle.cx_net.specs.Nets.{PlainNetExpr, OfPort, OfRegister, OfWire, OfHole, OfGo, Fixed, Inverse, AllOf, AnyOf, Sum, Compares, PlainNetExprs, no_exprs, an_expr, PlainNetDriver, PlainNetComponent, PlainNet}
use Rattle.cx_net.specs.NetFits.{HasPortWidth, HasWidth, AreBits}
use Rattle.cx_holes.specs.Inlining.{inlined_expr, inlined_exprs, inlined_driver}
use Rattle.cx_wiring.specs.Fitting.{Drives}
use Rattle.cx_emit.specs.Exprs.{paired, paired_often, to_the_right, joined, folded, literal, port_expr, operator_of, expr_of, exprs_to}
use Rattle.cx_emit.specs.Names.{wire_name, register_name}
use Rattle.cx_emitted.proofs.TextBytes.{AreNarrow, expr_bytes, sum_over}
use Rattle.cx_emitted.proofs.NetBytes.{expr_cost, exprs_cost}
use Rattle.cx_emitted.proofs.TreeBytes.{bare_costs}
use Rattle.cx_emitted.proofs.DrivenBytes.{before_bytes}
use Rattle.cx_emitted.proofs.ExprBytes.{padded, sign_few, folded_few}

module _ (net : PlainNet) (part : PlainNetComponent) (first : ℕ)
    (ports_few : (p : PortRef) (w : ℕ) → HasPortWidth net part p w → expr_bytes (port_expr p) ≤ 37)
    (registers_few : (n w : ℕ) → slice_get part.registers n ≡ Some w → length (register_name n) ≤ 11)
    (wires_few : (n w : ℕ) → slice_get part.wires n ≡ Some w → length (wire_name n) ≤ 11)
    (holes_few : (n : ℕ) → n < part.holes → length (wire_name (first + n)) ≤ 11) where
  mutual
    expr_few : (e : PlainNetExpr) (w : ℕ) → HasWidth net part e w → expr_bytes (expr_of (inlined_expr first e)) + 5 ≤ expr_cost e
    expr_few (OfPort p) w h = let k : expr_bytes (port_expr p) ≤ 37 = ports_few p w h in omega arith
    expr_few (OfRegister n) w h = let k : length (register_name n) ≤ 11 = registers_few n w h in omega arith
    expr_few (OfWire n) w h = let k : length (wire_name n) ≤ 11 = wires_few n w h in omega arith
    expr_few (OfHole n) w h = let k : length (wire_name (first + n)) ≤ 11 = holes_few n h.0 in omega arith
    expr_few OfGo w h = omega arith
    expr_few (Fixed b) w h = omega arith
    expr_few (Inverse a) w h = let k : expr_bytes (expr_of (inlined_expr first a)) + 5 ≤ expr_cost a = expr_few a w h in omega arith
    expr_few (AllOf no_exprs) w h = omega arith
    expr_few (AllOf (an_expr e es)) w h =
        let one : 1 ≤ 1 = omega arith in
        let k : expr_bytes (folded operators.And (literal 1 1) (expr_of (inlined_expr first e) ∷ exprs_to (inlined_exprs first es))) + 5 ≤ padded (expr_of (inlined_expr first e) ∷ exprs_to (inlined_exprs first es)) =
        folded_few operators.And one (literal 1 1) (expr_of (inlined_expr first e)) (exprs_to (inlined_exprs first es)) in
        let l : padded (expr_of (inlined_expr first e) ∷ exprs_to (inlined_exprs first es)) ≤ exprs_cost (an_expr e es) = exprs_few (an_expr e es) h.1 in
        omega arith
    expr_few (AnyOf no_exprs) w h = omega arith
    expr_few (AnyOf (an_expr e es)) w h =
        let one : 1 ≤ 1 = omega arith in
        let k : expr_bytes (folded operators.Or (literal 1 0) (expr_of (inlined_expr first e) ∷ exprs_to (inlined_exprs first es))) + 5 ≤ padded (expr_of (inlined_expr first e) ∷ exprs_to (inlined_exprs first es)) =
        folded_few operators.Or one (literal 1 0) (expr_of (inlined_expr first e)) (exprs_to (inlined_exprs first es)) in
        let l : padded (expr_of (inlined_expr first e) ∷ exprs_to (inlined_exprs first es)) ≤ exprs_cost (an_expr e es) = exprs_few (an_expr e es) h.1 in
        omega arith
    expr_few (Sum a b) w h =
        let k : expr_bytes (expr_of (inlined_expr first a)) + 5 ≤ expr_cost a = expr_few a w h.0 in
        let l : expr_bytes (expr_of (inlined_expr first b)) + 5 ≤ expr_cost b = expr_few b w h.1 in
        omega arith
    expr_few (Compares c a b) w h =
        let k : expr_bytes (expr_of (inlined_expr first a)) + 5 ≤ expr_cost a = expr_few a h.1.0 h.1.1 in
        let l : expr_bytes (expr_of (inlined_expr first b)) + 5 ≤ expr_cost b = expr_few b h.1.0 h.1.2 in
        let m : length (op_text (operator_of c)) ≤ 2 = sign_few c in
        omega arith

    exprs_few : (es : PlainNetExprs) → AreBits net part es → padded (exprs_to (inlined_exprs first es)) ≤ exprs_cost es
    exprs_few no_exprs h = omega arith
    exprs_few (an_expr e es) h =
        let k : expr_bytes (expr_of (inlined_expr first e)) + 5 ≤ expr_cost e = expr_few e 1 h.0 in
        let l : padded (exprs_to (inlined_exprs first es)) ≤ exprs_cost es = exprs_few es h.1 in
        omega arith

  -- DRIVERS
  pub drivers_few : (ds : List PlainNetDriver) → Each (Drives net part) ds → sum_over before_bytes (map (inlined_driver first) ds) ≤ bare_costs ds
  drivers_few [] are = omega arith
  drivers_few (d ∷ ds) are =
      let k : expr_bytes (expr_of (inlined_expr first d.guard)) + 5 ≤ expr_cost d.guard = expr_few d.guard 1 are.0.guard in
      let l : expr_bytes (expr_of (inlined_expr first d.source)) + 5 ≤ expr_cost d.source = expr_few d.source are.0.width are.0.source in
      let rest : sum_over before_bytes (map (inlined_driver first) ds) ≤ bare_costs ds = drivers_few ds are.1 in
      omega arith

-- NARROW EXPRESSIONS
module _ (op : Operator) where
  paired_narrow : (es : List PlainExpr) → Each AreNarrow es → Each AreNarrow (paired op es)
  paired_narrow [] each = tt
  paired_narrow (a ∷ []) each = each
  paired_narrow (a ∷ b ∷ es) each = ((each.0, each.1.0), paired_narrow es each.1.1)

  either_narrow : (b : Bool) (xs ys : List PlainExpr) → Each AreNarrow xs → Each AreNarrow ys → Each AreNarrow (if b then xs else ys)
  either_narrow true xs ys h k = h
  either_narrow false xs ys h k = k

  often_narrow : (n : ℕ) (es : List PlainExpr) → Each AreNarrow es → Each AreNarrow (paired_often n op es)
  often_narrow zero es each = each
  often_narrow (suc n) es each = either_narrow (nat_lt 1 (length es)) (paired_often n op (paired op es)) es (often_narrow n (paired op es) (paired_narrow es each)) each

  right_narrow : (a : PlainExpr) (es : List PlainExpr) → AreNarrow a → Each AreNarrow es → AreNarrow (to_the_right op a es)
  right_narrow a [] own each = own
  right_narrow a (b ∷ es) own each = (own, right_narrow b es each.0 each.1)

  joined_narrow : (none : PlainExpr) (es : List PlainExpr) → AreNarrow none → Each AreNarrow es → AreNarrow (joined op none es)
  joined_narrow none [] own each = own
  joined_narrow none (e ∷ es) own each = right_narrow e es each.0 each.1

  folded_narrow : (none : PlainExpr) (es : List PlainExpr) → AreNarrow none → Each AreNarrow es → AreNarrow (folded op none es)
  folded_narrow none es own each = joined_narrow none (paired_often 14 op es) own (often_narrow 14 es each)

module _ (net : PlainNet) (part : PlainNetComponent) (first : ℕ) where
  port_narrow : (p : PortRef) (w : ℕ) → HasPortWidth net part p w → AreNarrow (port_expr p)
  port_narrow (ports.Cell c p) w h = tt
  port_narrow (ports.Input n) w h = tt
  port_narrow (ports.Output n) w h = tt
  port_narrow (ports.Done g) w h = tt
  port_narrow (ports.Literal u v) w h = (h.fits.few_bits, h.fits.in_range)

  bit_narrow : (value : ℕ) → value < 2 → AreNarrow (literal 1 value)
  bit_narrow value small = (omega arith, small)

  mutual
    pub expr_narrow : (e : PlainNetExpr) (w : ℕ) → HasWidth net part e w → AreNarrow (expr_of (inlined_expr first e))
    expr_narrow (OfPort p) w h = port_narrow p w h
    expr_narrow (OfRegister n) w h = tt
    expr_narrow (OfWire n) w h = tt
    expr_narrow (OfHole n) w h = tt
    expr_narrow OfGo w h = tt
    expr_narrow (Fixed b) w h = (h.fits.few_bits, h.fits.in_range)
    expr_narrow (Inverse a) w h = expr_narrow a w h
    expr_narrow (AllOf es) w h = folded_narrow operators.And (literal 1 1) (exprs_to (inlined_exprs first es)) (bit_narrow 1 (omega arith)) (exprs_narrow es h.1)
    expr_narrow (AnyOf es) w h = folded_narrow operators.Or (literal 1 0) (exprs_to (inlined_exprs first es)) (bit_narrow 0 (omega arith)) (exprs_narrow es h.1)
    expr_narrow (Sum a b) w h = (expr_narrow a w h.0, expr_narrow b w h.1)
    expr_narrow (Compares c a b) w h = (expr_narrow a h.1.0 h.1.1, expr_narrow b h.1.0 h.1.2)

    exprs_narrow : (es : PlainNetExprs) → AreBits net part es → Each AreNarrow (exprs_to (inlined_exprs first es))
    exprs_narrow no_exprs h = tt
    exprs_narrow (an_expr e es) h = (expr_narrow e 1 h.0, exprs_narrow es h.1)
