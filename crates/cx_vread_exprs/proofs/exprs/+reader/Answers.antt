use Rattle.std.proofs.Common.{sym, subst}
use Rattle.cx_vtree.specs.declared.exprs.Expr.{Expr}
use Rattle.cx_vtree.specs.PlainParts.{plain_expr}
use Rattle.cx_vread_exprs.specs.declared.places.ReadPoint.{ReadPoint}
use Rattle.cx_vread_exprs.specs.Answers.{Gives, place_of}
use Rattle.cx_vread_exprs.proofs.Levels.{nested_at-suc}
use Rattle.cx_vread_exprs.proofs.exprs.+reader.Goals as goal

pub nested-returns-in-Some : goal.nested-returns-in-Some
nested-returns-in-Some t c =
    subst (λ read. Gives (λ (x : Expr × ReadPoint). (plain_expr x.0, place_of x.1)) c.brackets.result read)
    (sym (nested_at-suc c.args.levels c.in-Some.levels (place_of c.args.at) c.in-Some.ensures))
    c.brackets.ensures
