use Rattle.std.proofs.Common.{◌≡◌, ℕ, List, take, subst}
use Rattle.std.specs.Prelude.{IfSome}
use Rattle.cx_design.specs.declared.actives.Active.TheVariants.{Group}
use Rattle.cx_eval_network.specs.Nodes.{part_at}
use Rattle.cx_eval.specs.declared.sources.Operator.{Operator}
use Rattle.cx_eval.specs.Tables.{design_of}
use Rattle.cx_eval.proofs.TestLemmas.{front_given}
use Rattle.cx_eval.proofs.sights.operators_to.Goals as goal

pub returns-in-Closed-clause-operators : goal.returns-in-Closed-clause-operators
returns-in-Closed-clause-operators c =
    let t = c.args.tables.now in
    let i = part_at (design_of t) t.table.rows.items c.args.instance in
    let closed = c.in-Closed.ensures.value i c.in-Group.group c.known_group.ensures.value in
    front_given i c.args.active.now (Group c.in-Group.group) c.in-Closed.closed.now.operators.items c.up_to.result c.in-Group.is closed.operators
    (subst (λ (all : List Operator). IfSome c.up_to.result (λ front. (count : ℕ) × (front.now ≡ take count all))) c.deref.ensures.value c.up_to.ensures.first)
