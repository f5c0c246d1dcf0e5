use Rattle.std.proofs.Common.{◌≡◌, ◌∙◌, IfOk, ap, arith, map, subst, sym}
use Rattle.cx_net.specs.Nets.{AllOf, AnyOf, PlainNetExpr, exprs_of}
use Rattle.cx_net.specs.PlainNets.{net_expr_step, plain_net_expr}
use Rattle.cx_net.specs.declared.exprs.NetExpr.TheFolds.{fold-roll-NetExpr}
use Rattle.cx_net.specs.declared.exprs.NetExpr.TheVariants.{rolls-And, rolls-Or}
use Rattle.cx_vtree.specs.Plain.{PlainExpr}
use Rattle.cx_vtree.specs.PlainParts.{plain_expr}
use Rattle.cx_vtree.specs.declared.operators.Operator.TheVariants as operators
use Rattle.cx_emit.specs.Exprs.{expr_of, exprs_to, folded, literal}
use Rattle.cx_emit.proofs.EmittedNumbers.{literals_at, part_size}
use Rattle.cx_emit.proofs.exprs.+expr.Goals as goal

pub exprs-expr-requires : goal.exprs-expr-requires
exprs-expr-requires t c = (
  omega (arith, c.decreases, part_size c.args.parts.now c.loop-part.part-index c.part-item.result c.loop-part-test.true c.part-item.is),
  literals_at plain_net_expr c.args.parts.now c.loop-part.part-index c.part-item.result c.requires.fits c.loop-part-test.true c.part-item.is,
)

pub expr-returns-in_ok-exprs-in-And : goal.expr-returns-in_ok-exprs-in-And
expr-returns-in_ok-exprs-in-And t c =
    let parts = c.in-And.parts in
    let made = c.in_ok-exprs-in-And.field-0 in
    let given : plain_net_expr c.args.e.now ≡ AllOf (exprs_of (map plain_net_expr parts.items)) =
    ap plain_net_expr c.in-And.is ∙ ap plain_net_expr (sym (rolls-And parts)) ∙ fold-roll-NetExpr PlainNetExpr net_expr_step _ in
    let each : map plain_expr made.items ≡ exprs_to (exprs_of (map plain_net_expr parts.items)) =
    c.in_ok-exprs-in-And.ensures.value ∙ ap (λ es. exprs_to (exprs_of (map plain_net_expr es))) c.deref-in-And.ensures.value in
    let whole : folded operators.And (literal 1 1) (map plain_expr made.items) ≡ expr_of (plain_net_expr c.args.e.now) = ap (folded operators.And (literal 1 1)) each ∙ sym (ap expr_of given) in
    record { value = subst (λ (e : PlainExpr). IfOk c.all.result (λ made. plain_expr made ≡ e)) whole c.all.ensures.value }

pub expr-returns-in_ok-exprs-in-Or : goal.expr-returns-in_ok-exprs-in-Or
expr-returns-in_ok-exprs-in-Or t c =
    let parts = c.in-Or.parts in
    let made = c.in_ok-exprs-in-Or.field-0 in
    let given : plain_net_expr c.args.e.now ≡ AnyOf (exprs_of (map plain_net_expr parts.items)) =
    ap plain_net_expr c.in-Or.is ∙ ap plain_net_expr (sym (rolls-Or parts)) ∙ fold-roll-NetExpr PlainNetExpr net_expr_step _ in
    let each : map plain_expr made.items ≡ exprs_to (exprs_of (map plain_net_expr parts.items)) =
    c.in_ok-exprs-in-Or.ensures.value ∙ ap (λ es. exprs_to (exprs_of (map plain_net_expr es))) c.deref-in-Or.ensures.value in
    let whole : folded operators.Or (literal 1 0) (map plain_expr made.items) ≡ expr_of (plain_net_expr c.args.e.now) = ap (folded operators.Or (literal 1 0)) each ∙ sym (ap expr_of given) in
    record { value = subst (λ (e : PlainExpr). IfOk c.any.result (λ made. plain_expr made ≡ e)) whole c.any.ensures.value }
