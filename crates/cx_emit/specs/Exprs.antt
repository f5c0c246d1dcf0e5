-- The expression of the text that stands for one of a net.
use Rattle.std.specs.Prelude.{ℕ, zero, suc, nat_lt, List, [], ◌∷◌, length, if◌then◌else◌, codes}
use Rattle.cx_meaning.specs.declared.ports.PortRef.{PortRef}
use Rattle.cx_meaning.specs.declared.ports.PortRef.TheVariants as ports
use Rattle.cx_meaning.specs.declared.ports.Comparison.{Comparison}
use Rattle.cx_meaning.specs.declared.ports.Comparison.TheVariants as comparisons
use Rattle.cx_vtree.specs.declared.operators.Operator.{Operator}
use Rattle.cx_vtree.specs.declared.operators.Operator.TheVariants as operators
use Rattle.cx_vtree.specs.Plain.{PlainExpr, Named, Number, Applied, Inverted}
use Rattle.cx_net.specs.Nets.{PlainNetExpr, OfPort, OfRegister, OfWire, OfHole, OfGo, Fixed, Inverse, AllOf, AnyOf, Sum, Compares, PlainNetExprs, no_exprs, an_expr}
use Rattle.cx_emit.specs.Names.{input_name, output_name, cell_port_name, wire_name, register_name, undeclared_name}

-- neighbours under an operator
abbrev pub paired : Operator → List PlainExpr → List PlainExpr
paired op [] = []
paired op (a ∷ []) = a ∷ []
paired op (a ∷ b ∷ es) = Applied op a b ∷ paired op es

-- so many rounds of it, where there is more than one
abbrev pub paired_often : ℕ → Operator → List PlainExpr → List PlainExpr
paired_often zero op es = es
paired_often (suc n) op es = if nat_lt 1 (length es) then paired_often n op (paired op es) else es

-- to the right: a & (b & (c & ..))
abbrev pub to_the_right : Operator → PlainExpr → List PlainExpr → PlainExpr
to_the_right op a [] = a
to_the_right op a (b ∷ es) = Applied op a (to_the_right op b es)

abbrev pub joined : Operator → PlainExpr → List PlainExpr → PlainExpr
joined op none [] = none
joined op none (e ∷ es) = to_the_right op e es

-- so many that no list of a design needs more
abbrev pub rounds : ℕ
rounds = 14

-- parts under an operator, paired again and again, so that few stand within each other
abbrev pub folded : Operator → PlainExpr → List PlainExpr → PlainExpr
folded op none es = joined op none (paired_often rounds op es)

abbrev pub literal : ℕ → ℕ → PlainExpr
literal width value = Number (record { width = width; value = value })

abbrev pub port_expr : PortRef → PlainExpr
port_expr (ports.Cell c p) = Named (cell_port_name c p)
port_expr (ports.Input n) = Named (input_name n)
port_expr (ports.Output n) = Named (output_name n)
port_expr (ports.Done g) = Named undeclared_name
port_expr (ports.Literal w v) = literal w v

abbrev pub operator_of : Comparison → Operator
operator_of comparisons.Equal = operators.Equal
operator_of comparisons.NotEqual = operators.NotEqual
operator_of comparisons.Less = operators.Less
operator_of comparisons.Greater = operators.Greater
operator_of comparisons.AtMost = operators.AtMost
operator_of comparisons.AtLeast = operators.AtLeast

abbrev mutual
  pub expr_of : PlainNetExpr → PlainExpr
  expr_of (OfPort p) = port_expr p
  expr_of (OfRegister n) = Named (register_name n)
  expr_of (OfWire n) = Named (wire_name n)
  expr_of (OfHole n) = Named undeclared_name
  expr_of OfGo = Named (codes "go")
  expr_of (Fixed b) = Number b
  expr_of (Inverse e) = Inverted (expr_of e)
  expr_of (AllOf es) = folded operators.And (literal 1 1) (exprs_to es)
  expr_of (AnyOf es) = folded operators.Or (literal 1 0) (exprs_to es)
  expr_of (Sum a b) = Applied operators.Add (expr_of a) (expr_of b)
  expr_of (Compares c a b) = Applied (operator_of c) (expr_of a) (expr_of b)

  pub exprs_to : PlainNetExprs → List PlainExpr
  exprs_to no_exprs = []
  exprs_to (an_expr e es) = expr_of e ∷ exprs_to es
