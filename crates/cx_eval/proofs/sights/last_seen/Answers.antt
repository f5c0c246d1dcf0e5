use Rattle.std.proofs.Common.{sym, ap, ◌∙◌, subst}
use Rattle.cx_design.specs.declared.actives.Active.{Active}
use Rattle.cx_state.specs.States.{plain_state}
use Rattle.cx_eval_network.specs.Askings.{asked_of}
use Rattle.cx_eval_network.specs.Networks.{Asked, seen_at}
use Rattle.cx_eval_network.specs.Nodes.{part_at}
use Rattle.cx_eval.specs.Sources.{AreOperators}
use Rattle.cx_eval.specs.Tables.{design_of}
use Rattle.cx_eval.proofs.SightLemmas.{is_seen}
use Rattle.cx_eval.proofs.TestLemmas.{last_is}
use Rattle.cx_eval.proofs.sights.last_seen.Goals as goal

pub find_operators-requires-clause-operators : goal.find_operators-requires-clause-operators
find_operators-requires-clause-operators c =
    let asking = c.ask-asking.result in
    subst (λ (act : Active). AreOperators (part_at (asked_of asking).design (asked_of asking).rows asking.instance) act c.args.operators.now) (sym c.ask-asking.ensures.active)
    (subst (λ (a : Asked). AreOperators (part_at a.design a.rows a.instance) c.args.active.now c.args.operators.now) (sym c.ask-asking.ensures.asked) c.requires.operators)

pub returns : goal.returns
returns c = record {
  value = λ port ends.
      let t = c.args.tables.now in
      let a = asked_of c.ask-asking.result in
      is_seen (design_of t) t.table.rows.items t.table.children.items (plain_state c.args.state.now) c.args.instance c.args.active.now c.requires.tables.table c.requires.state port c.index-slots-operators.result
      (last_is port c.args.operators.now c.find_operators.new.slots (seen_at a a.instance) c.index-slots-operators.result c.find_operators.ensures.found c.index-slots-operators.is ends
      ∙ ap (λ (x : Asked). seen_at x x.instance port) c.ask-asking.ensures.asked);
}
