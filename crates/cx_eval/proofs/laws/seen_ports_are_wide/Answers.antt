use Rattle.std.proofs.Common.{sym, ◌∙◌}
use Rattle.cx_meaning.specs.declared.ports.PortRef.TheVariants.{Cell}
use Rattle.cx_meaning.specs.Instances.{tree_of}
use Rattle.cx_state.specs.ReadStates.{state_in}
use Rattle.cx_eval_network.specs.Networks.{active_at, path_at}
use Rattle.cx_eval_network.proofs.NetworkLemmas.{number_at}
use Rattle.cx_eval_network.specs.Askings.{asked_of}
use Rattle.cx_eval.proofs.OwnLemmas.{own_there, own_wide, seen_is}
use Rattle.cx_rules.proofs.WidthRulesLemmas.{not_bad}
use Rattle.cx_eval.proofs.laws.seen_ports_are_wide.Goals as goal

pub returns : goal.returns
returns c = λ a cell p is e n port b at x.
    let asked = asked_of a in
    let can = is.can in
    let number = number_at asked a.nodes.now can.network a.instance can.within in
    let stands = c.rows_stand.ensures asked.design asked.rows asked.children asked.state can.network.table can.fits in
    let width = c.state_seen_has_width.ensures asked.design asked.state (state_in (tree_of asked.design) asked.state) a.instance (path_at asked.design a.instance) (active_at asked a.instance) (Cell cell n) b
    can.network.design can.accepted (can.network.acyclic a.instance) can.fits stands number (own_there a is cell n p port e at) (not_bad cell n) (sym (seen_is a (Cell cell n)) ∙ x) in
    own_wide a is cell n p port b e at width
