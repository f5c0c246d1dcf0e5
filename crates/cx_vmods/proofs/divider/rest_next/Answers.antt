use Rattle.std.specs.Prelude.{◌≡◌, IfOk, codes}
use Rattle.std.proofs.Common.{ap, subst, ◌∙◌}
use Rattle.cx_vtree.specs.declared.operators.Operator.TheVariants.{Subtract}
use Rattle.cx_vtree.specs.Plain.{PlainExpr, Applied, Chosen}
use Rattle.cx_vtree.specs.PlainParts.{plain_expr}
use Rattle.cx_vmods.specs.Clocked.{rest_next}
use Rattle.cx_vmods.specs.Spelling.{net}
use Rattle.cx_vmods.proofs.divider.rest_next.Goals as goal

pub returns : goal.returns
returns c =
    let both : Chosen (net (codes "takes")) (plain_expr c.in_ok-less.less) (plain_expr c.in_ok-same.same) ≡ rest_next =
    ap (λ (e : PlainExpr). Chosen (net (codes "takes")) e (plain_expr c.in_ok-same.same)) c.in_ok-less.ensures.value
    ∙ ap (λ (e : PlainExpr). Chosen (net (codes "takes")) (Applied Subtract (net (codes "longer")) (net (codes "divisor_now"))) e) c.in_ok-same.ensures.value in
    record { value = subst (λ (x : PlainExpr). IfOk c.choice_by.result (λ e. plain_expr e ≡ x)) both c.choice_by.ensures.value }
