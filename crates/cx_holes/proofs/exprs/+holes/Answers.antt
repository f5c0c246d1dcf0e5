use Rattle.std.proofs.Common.{◌≡◌, ◌∙◌, ap, sym, map}
use Rattle.cx_net.specs.Nets.{PlainNetExpr, AllOf, AnyOf, exprs_of}
use Rattle.cx_net.specs.declared.exprs.NetExpr.TheFolds.{fold-roll-NetExpr}
use Rattle.cx_net.specs.declared.exprs.NetExpr.TheVariants.{And, Or, rolls-And, rolls-Or}
use Rattle.cx_net.specs.PlainNets.{net_expr_step, plain_net_expr}
use Rattle.cx_holes.specs.Inlining.{inlined_expr}
use Rattle.cx_holes.proofs.ExprLemmas.{all_inlined, any_inlined}
use Rattle.cx_holes.proofs.exprs.+holes.Goals as goal

pub without_holes-returns-in_ok-all_without_holes-in-And : goal.without_holes-returns-in_ok-all_without_holes-in-And
without_holes-returns-in_ok-all_without_holes-in-And t c =
    let first = c.args.first in
    let parts = c.in-And.parts in
    let made = c.in_ok-all_without_holes-in-And.field-0 in
    let given : plain_net_expr c.args.expr.now ≡ AllOf (exprs_of (map plain_net_expr parts.items)) =
    ap plain_net_expr c.in-And.is ∙ ap plain_net_expr (sym (rolls-And parts)) ∙ fold-roll-NetExpr PlainNetExpr net_expr_step _ in
    let whole : plain_net_expr (And made) ≡ AllOf (exprs_of (map plain_net_expr made.items)) =
    ap plain_net_expr (sym (rolls-And made)) ∙ fold-roll-NetExpr PlainNetExpr net_expr_step _ in
    let each : map plain_net_expr made.items ≡ map (inlined_expr first) (map plain_net_expr parts.items) =
    c.in_ok-all_without_holes-in-And.ensures.value ∙ ap (λ es. map (inlined_expr first) (map plain_net_expr es)) c.deref-in-And.ensures.value in
    record { value = whole ∙ all_inlined first (map plain_net_expr parts.items) (map plain_net_expr made.items) each ∙ sym (ap (inlined_expr first) given) }

pub without_holes-returns-in_ok-all_without_holes-in-Or : goal.without_holes-returns-in_ok-all_without_holes-in-Or
without_holes-returns-in_ok-all_without_holes-in-Or t c =
    let first = c.args.first in
    let parts = c.in-Or.parts in
    let made = c.in_ok-all_without_holes-in-Or.field-0 in
    let given : plain_net_expr c.args.expr.now ≡ AnyOf (exprs_of (map plain_net_expr parts.items)) =
    ap plain_net_expr c.in-Or.is ∙ ap plain_net_expr (sym (rolls-Or parts)) ∙ fold-roll-NetExpr PlainNetExpr net_expr_step _ in
    let whole : plain_net_expr (Or made) ≡ AnyOf (exprs_of (map plain_net_expr made.items)) =
    ap plain_net_expr (sym (rolls-Or made)) ∙ fold-roll-NetExpr PlainNetExpr net_expr_step _ in
    let each : map plain_net_expr made.items ≡ map (inlined_expr first) (map plain_net_expr parts.items) =
    c.in_ok-all_without_holes-in-Or.ensures.value ∙ ap (λ es. map (inlined_expr first) (map plain_net_expr es)) c.deref-in-Or.ensures.value in
    record { value = whole ∙ any_inlined first (map plain_net_expr parts.items) (map plain_net_expr made.items) each ∙ sym (ap (inlined_expr first) given) }
