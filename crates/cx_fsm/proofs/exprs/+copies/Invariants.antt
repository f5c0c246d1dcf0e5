use Rattle.std.proofs.Common.{◌≡◌, ◌++◌, drop, map}
use Rattle.cx_net.specs.PlainNets.{plain_net_expr}
use Rattle.cx_fsm.specs.Drafts.{IfWhole, Keeps}
use Rattle.cx_fsm.proofs.exprs.+copies.Given as goal

-- the expressions so far, and those that are left, are all
abbrev pub invariant-all_copied-loop-expr : goal.invariant-all_copied-loop-expr
invariant-all_copied-loop-expr l = record {
  kept : Keeps l.initial.draft l.draft;
  all : IfWhole l.draft (map plain_net_expr l.copies.items ++ map plain_net_expr (drop l.expr-index l.exprs) ≡ map plain_net_expr l.exprs);
}
