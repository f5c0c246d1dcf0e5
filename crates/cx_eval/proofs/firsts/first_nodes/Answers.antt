use Rattle.std.proofs.Common.{rules, ◌≡◌, sym, subst}
use Rattle.cx_eval.specs.Firsts.{AreFirsts}
use Rattle.cx_eval.proofs.FirstLemmas.{firsts_more, no_firsts}
use Rattle.cx_eval.proofs.firsts.first_nodes.Goals as goal

pub loop-cell-init : goal.loop-cell-init
loop-cell-init c = λ d rows numbered within. subst (AreFirsts d rows c.args.instance 0) (sym c.new-firsts.ensures.items) (no_firsts d rows c.args.instance)

pub loop-cell-preserved : goal.loop-cell-preserved
loop-cell-preserved c =
    λ d rows numbered within.
    firsts_more d rows c.args.instance c.loop-cell.cell c.loop-cell.firsts.items c.push.new.self.items c.node_or_zero.result (c.loop-cell.invariant d rows numbered within) c.in_ok-push.ensures.items (c.node_or_zero.ensures.value d rows numbered within)

pub returns : goal.returns
returns c =
    let all : c.loop-cell.cell ≡ c.args.count = search rules in
    record { value = λ d rows numbered within. subst (λ m. AreFirsts d rows c.args.instance m c.loop-cell.firsts.items) all (c.loop-cell.invariant d rows numbered within) }
