use Rattle.std.proofs.Common.{refl}
use Rattle.cx_state.specs.States.{plain_state}
use Rattle.cx_eval.specs.Tables.{asked_in}
use Rattle.cx_eval.proofs.TableLemmas.{can_ask, own_active}
use Rattle.cx_eval.proofs.tables.ask.Goals as goal

pub returns-clause-can : goal.returns-clause-can
returns-clause-can c =
    let t = c.args.tables.now in
    let are = c.requires.tables in
    let state = plain_state c.args.state.now in
    record {
      can = can_ask t are c.args.instance c.requires.instance state c.args.active.now c.requires.state
          (c.accepted_designs_are_networks.ensures (asked_in t state c.args.instance c.args.active.now) t.nodes c.args.active.now are.design are.accepted are.table are.numbered refl
          (own_active t are c.args.instance c.requires.instance state c.args.active.now c.requires.active));
      nothing = are.nothing;
    }
