use Rattle.cx_text.specs.Loading.{plain_loaded, words_loaded}
use Rattle.cx_net.specs.NetRuns.{net_start}
use Rattle.cx_net.specs.NetTree.{net_tree}
use Rattle.cx_net.specs.NetsAsData.{plain_net}
use Rattle.cx_net_runs.proofs.states.NetState.start.Goals as goal

pub returns-clause-value : goal.returns-clause-value
returns-clause-value c =
    let net = plain_net c.args.net.now in
    let s = net_start (net_tree net) (words_loaded (plain_loaded c.args.loaded.now)) in
    record {
      stored = c.tells_done-done.ensures.stands net s c.in_ok-built.ensures.stands;
      done = λ look whole. c.tells_done-done.ensures.value net s look c.in_ok-built.ensures.stands whole;
    }
