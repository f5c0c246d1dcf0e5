use Rattle.cx_net.specs.NetEdges.{net_after}
use Rattle.cx_net.specs.NetTree.{net_tree}
use Rattle.cx_net_runs.proofs.states.NetState.step.Goals as goal

pub returns-clause-value : goal.returns-clause-value
returns-clause-value c = λ net s look stands whole.
    let next = net_after (net_tree net) c.args.reset c.args.go s look in
    let after = c.cycle.ensures.value net s look stands.stored whole in
    record {
      stored = c.tells_done-self.ensures.stands net next after;
      done = λ more all. c.tells_done-self.ensures.value net next more after all;
    }
