-- No target of an assignment is a literal, as in each tree of a text.
use Rattle.std.specs.Prelude.{◌≡◌, Bool, true, false}
use Rattle.cx_ast.specs.declared.operands.OperandForm.{OperandForm}
use Rattle.cx_ast.specs.declared.operands.OperandForm.TheVariants as operands
use Rattle.cx_ast.specs.PlainTree.{PlainTree, PlainComponent}
use Rattle.cx_text.specs.Members.{In}
use Rattle.cx_numbering.specs.NameRules.{Standing, standing}

abbrev pub is_literal : OperandForm → Bool
is_literal (operands.Own name) = false
is_literal (operands.Port cell port) = false
is_literal (operands.Hole group hole) = false
is_literal (operands.Literal width value) = true

abbrev pub HasTargets : PlainTree → Type 0
HasTargets tree =
    (part : PlainComponent) → In tree.components part → (x : Standing) → In (standing part) x
    → is_literal x.assign.target.form ≡ false
