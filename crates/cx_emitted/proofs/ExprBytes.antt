-- The expressions of a text that stand for those of a net have as many bytes as these cost, with five to spare.
use Rattle.std.proofs.Common.{◌≡◌, ℕ, zero, suc, ◌+◌, ◌≤◌, Bool, true, false, List, [], ◌∷◌, length, Some, slice_get, if◌then◌else◌, arith}
use Rattle.std.specs.Prelude.{nat_lt}
use Rattle.cx_meaning.specs.declared.ports.PortRef.{PortRef}
use Rattle.cx_meaning.specs.declared.ports.Comparison.{Comparison}
use Rattle.cx_meaning.specs.declared.ports.Comparison.TheVariants as comparisons
use Rattle.cx_vtree.specs.declared.operators.Operator.{Operator}
use Rattle.cx_vtree.specs.declared.operators.Operator.TheVariants as operators
use Rattle.cx_vtree.specs.Plain.{PlainExpr, Applied}
use Rattle.cx_vtree.specs.Lines.{op_text}
use Rattle.cx_net.specs.Nets.{PlainNetExpr, OfPort, OfRegister, OfWire, OfHole, OfGo, Fixed, Inverse, AllOf, AnyOf, Sum, Compares, PlainNetExprs, no_exprs, an_expr, PlainNetComponent, PlainNet}
use Rattle.cx_net.specs.NetFits.{HasPortWidth, HasWidth, AreBits}
use Rattle.cx_emit.specs.Exprs.{paired, paired_often, to_the_right, joined, folded, literal, port_expr, operator_of, expr_of, exprs_to}
use Rattle.cx_emit.specs.Names.{wire_name, register_name}
use Rattle.cx_emitted.proofs.TextBytes.{expr_bytes}
use Rattle.cx_emitted.proofs.NetBytes.{expr_cost, exprs_cost}

abbrev pub padded : List PlainExpr → ℕ
padded [] = 0
padded (e ∷ es) = expr_bytes e + 5 + padded es

-- PARTS under an operator of one byte
module _ (op : Operator) (brief : length (op_text op) ≤ 1) where
  paired_few : (es : List PlainExpr) → padded (paired op es) ≤ padded es
  paired_few [] = omega arith
  paired_few (a ∷ []) = omega arith
  paired_few (a ∷ b ∷ es) = let h : padded (paired op es) ≤ padded es = paired_few es in omega arith

  often_few : (n : ℕ) (es : List PlainExpr) → padded (paired_often n op es) ≤ padded es
  often_few zero es = omega arith
  often_few (suc n) es =
      let pairs : padded (paired op es) ≤ padded es = paired_few es in
      let later : padded (paired_often n op (paired op es)) ≤ padded (paired op es) = often_few n (paired op es) in
      by (nat_lt 1 (length es)) pairs later
    where
      by : (b : Bool) → padded (paired op es) ≤ padded es → padded (paired_often n op (paired op es)) ≤ padded (paired op es) → padded (if b then paired_often n op (paired op es) else es) ≤ padded es
      by true h k = omega arith
      by false h k = omega arith

  right_few : (a : PlainExpr) (es : List PlainExpr) → expr_bytes (to_the_right op a es) + 5 ≤ padded (a ∷ es)
  right_few a [] = omega arith
  right_few a (b ∷ es) = let h : expr_bytes (to_the_right op b es) + 5 ≤ padded (b ∷ es) = right_few b es in omega arith

  -- so many that pairing them leaves some
  either_some : (b : Bool) (xs ys : List PlainExpr) → 1 ≤ length xs → 1 ≤ length ys → 1 ≤ length (if b then xs else ys)
  either_some true xs ys h k = h
  either_some false xs ys h k = k

  still_some : (n : ℕ) (e : PlainExpr) (es : List PlainExpr) → 1 ≤ length (paired_often n op (e ∷ es))
  still_some zero e es = omega arith
  still_some (suc n) e [] = either_some (nat_lt 1 (length (e ∷ []))) (paired_often n op (e ∷ [])) (e ∷ []) (still_some n e []) (omega arith)
  still_some (suc n) e (f ∷ es) = either_some (nat_lt 1 (length (e ∷ f ∷ es))) (paired_often n op (Applied op e f ∷ paired op es)) (e ∷ f ∷ es) (still_some n (Applied op e f) (paired op es)) (omega arith)

  some_joined : (none : PlainExpr) (es : List PlainExpr) (n : ℕ) → 1 ≤ length es → padded es ≤ n → expr_bytes (joined op none es) + 5 ≤ n
  some_joined none [] n some k = absurd (omega (arith, some))
  some_joined none (e ∷ es) n some k = let own : expr_bytes (to_the_right op e es) + 5 ≤ padded (e ∷ es) = right_few e es in omega arith

  pub folded_few : (none : PlainExpr) (e : PlainExpr) (es : List PlainExpr) → expr_bytes (folded op none (e ∷ es)) + 5 ≤ padded (e ∷ es)
  folded_few none e es = some_joined none (paired_often 14 op (e ∷ es)) (padded (e ∷ es)) (still_some 14 e es) (often_few 14 (e ∷ es))

pub sign_few : (c : Comparison) → length (op_text (operator_of c)) ≤ 2
sign_few comparisons.Equal = omega arith
sign_few comparisons.NotEqual = omega arith
sign_few comparisons.Less = omega arith
sign_few comparisons.Greater = omega arith
sign_few comparisons.AtMost = omega arith
sign_few comparisons.AtLeast = omega arith

-- EXPRESSIONS of a component that names few parts
module _ (net : PlainNet) (part : PlainNetComponent) (no_holes : part.holes ≡ 0)
    (ports_few : (p : PortRef) (w : ℕ) → HasPortWidth net part p w → expr_bytes (port_expr p) ≤ 37)
    (registers_few : (n w : ℕ) → slice_get part.registers n ≡ Some w → length (register_name n) ≤ 11)
    (wires_few : (n w : ℕ) → slice_get part.wires n ≡ Some w → length (wire_name n) ≤ 11) where
  mutual
    pub expr_few : (e : PlainNetExpr) (w : ℕ) → HasWidth net part e w → expr_bytes (expr_of e) + 5 ≤ expr_cost e
    expr_few (OfPort p) w h = let k : expr_bytes (port_expr p) ≤ 37 = ports_few p w h in omega arith
    expr_few (OfRegister n) w h = let k : length (register_name n) ≤ 11 = registers_few n w h in omega arith
    expr_few (OfWire n) w h = let k : length (wire_name n) ≤ 11 = wires_few n w h in omega arith
    expr_few (OfHole n) w h = absurd (let lower = h.0 in omega (arith, lower, no_holes))
    expr_few OfGo w h = omega arith
    expr_few (Fixed b) w h = omega arith
    expr_few (Inverse a) w h = let k : expr_bytes (expr_of a) + 5 ≤ expr_cost a = expr_few a w h in omega arith
    expr_few (AllOf no_exprs) w h = omega arith
    expr_few (AllOf (an_expr e es)) w h =
        let one : 1 ≤ 1 = omega arith in
        let k : expr_bytes (folded operators.And (literal 1 1) (expr_of e ∷ exprs_to es)) + 5 ≤ padded (expr_of e ∷ exprs_to es) = folded_few operators.And one (literal 1 1) (expr_of e) (exprs_to es) in
        let l : padded (expr_of e ∷ exprs_to es) ≤ exprs_cost (an_expr e es) = exprs_few (an_expr e es) h.1 in
        omega arith
    expr_few (AnyOf no_exprs) w h = omega arith
    expr_few (AnyOf (an_expr e es)) w h =
        let one : 1 ≤ 1 = omega arith in
        let k : expr_bytes (folded operators.Or (literal 1 0) (expr_of e ∷ exprs_to es)) + 5 ≤ padded (expr_of e ∷ exprs_to es) = folded_few operators.Or one (literal 1 0) (expr_of e) (exprs_to es) in
        let l : padded (expr_of e ∷ exprs_to es) ≤ exprs_cost (an_expr e es) = exprs_few (an_expr e es) h.1 in
        omega arith
    expr_few (Sum a b) w h =
        let k : expr_bytes (expr_of a) + 5 ≤ expr_cost a = expr_few a w h.0 in
        let l : expr_bytes (expr_of b) + 5 ≤ expr_cost b = expr_few b w h.1 in
        omega arith
    expr_few (Compares c a b) w h =
        let k : expr_bytes (expr_of a) + 5 ≤ expr_cost a = expr_few a h.1.0 h.1.1 in
        let l : expr_bytes (expr_of b) + 5 ≤ expr_cost b = expr_few b h.1.0 h.1.2 in
        let m : length (op_text (operator_of c)) ≤ 2 = sign_few c in
        omega arith

    exprs_few : (es : PlainNetExprs) → AreBits net part es → padded (exprs_to es) ≤ exprs_cost es
    exprs_few no_exprs h = omega arith
    exprs_few (an_expr e es) h =
        let k : expr_bytes (expr_of e) + 5 ≤ expr_cost e = expr_few e 1 h.0 in
        let l : padded (exprs_to es) ≤ exprs_cost es = exprs_few es h.1 in
        omega arith
