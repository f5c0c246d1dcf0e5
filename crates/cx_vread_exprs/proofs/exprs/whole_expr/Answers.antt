use Rattle.std.proofs.Common.{◌≡◌, ◌∙◌, ap, sym, subst, None}
use Rattle.std.specs.Option.{option_or}
use Rattle.cx_vtree.specs.PlainParts.{plain_expr}
use Rattle.cx_vscope.specs.ScopeValues.{scope_by}
use Rattle.cx_vread_exprs.specs.Answers.{Fails, Gives, place_of}
use Rattle.cx_vread_exprs.specs.Deep.{deep_at}
use Rattle.cx_vread_exprs.specs.Exprs.{expr_at}
use Rattle.cx_vread_exprs.proofs.Levels.{levels_are}
use Rattle.cx_vread_exprs.proofs.exprs.whole_expr.Goals as goal

pub returns-in-Ok : goal.returns-in-Ok
returns-in-Ok c =
    ap (λ o. option_or o (deep_at (scope_by c.args.scope.now) (place_of c.args.at))) (ap (λ n. expr_at n (place_of c.args.at)) levels_are ∙ c.in-Ok.ensures)

pub returns-in-Err-Syntax : goal.returns-in-Err-Syntax
returns-in-Err-Syntax c =
    let none : expr_at 128 (place_of c.args.at) ≡ None = subst (λ f. Fails f (expr_at 128 (place_of c.args.at))) c.in-Err-Syntax.field-0-is c.in-Err-Syntax.ensures in
    subst (Gives (λ x. (plain_expr x.0, place_of x.1)) c.deep.result)
    (sym (ap (λ o. option_or o (deep_at (scope_by c.args.scope.now) (place_of c.args.at))) (ap (λ n. expr_at n (place_of c.args.at)) levels_are ∙ none)))
    c.deep.ensures
