-- Operands under names that stay.
use Rattle.std.proofs.Common.{◌≡◌, refl, ap}
use Rattle.cx_ast.specs.declared.operands.OperandForm.{OperandForm}
use Rattle.cx_ast.specs.declared.operands.OperandForm.TheVariants as operands
use Rattle.cx_ast.specs.declared.operands.OperandItem.{OperandItem}
use Rattle.cx_copies.specs.Naming.{named_operand, named_operand_form}

same_form : (form : OperandForm) → named_operand_form (λ cell. cell) form ≡ form
same_form (operands.Own port) = refl
same_form (operands.Port cell port) = refl
same_form (operands.Hole group hole) = refl
same_form (operands.Literal width value) = refl

pub same_operand : (o : OperandItem) → named_operand (λ cell. cell) o ≡ o
same_operand o = ap (λ f. record { form = f; place = o.place }) (same_form o.form)
