use Rattle.std.proofs.Common.{List, Option, sym, ap, ◌∙◌, subst, arith}
use Rattle.std.specs.Prelude.{IfNone}
use Rattle.cx_meaning.specs.Designs.{PlainCell, component_at}
use Rattle.cx_state.specs.States.{instance_state, plain_state}
use Rattle.cx_state.specs.Tables.{row_at}
use Rattle.cx_eval_network.specs.Networks.{Asked}
use Rattle.cx_eval_network.specs.Askings.{asked_of}
use Rattle.cx_eval_cycle.specs.declared.stepping.SteppingCell.{SteppingCell}
use Rattle.cx_eval_cycle.specs.Passes.{listed_in}
use Rattle.cx_eval_cycle.specs.Rooms.{HaveRooms}
use Rattle.cx_eval_cycle.specs.Stepping.{AreStepping}
use Rattle.cx_eval_cycle.specs.Steps.{AreGathered}
use Rattle.cx_eval.specs.Cycling.{IsFirst}
use Rattle.cx_eval.specs.Looked.{StandFirst, own_cells, own_held, seen_look}
use Rattle.cx_eval.specs.Tables.{asked_in, cells_at}
use Rattle.cx_eval.proofs.AskedLemmas.{are_ready, can_demand, first_of}
use Rattle.cx_eval.proofs.FirstLemmas.{stand_first}
use Rattle.cx_eval.proofs.TableLemmas.{first_nodes, firsts_below}
use Rattle.cx_eval.proofs.UsingLemmas.{component_is, serves}
use Rattle.cx_eval.proofs.cycling.fault_in.Goals as goal

pub index-requires-2 : goal.index-requires-2
index-requires-2 c =
    let below = firsts_below c.args.tables.now c.requires.tables c.args.instance c.requires.instance in
    omega (arith, below, c.args.tables.now.firsts.ok.0)

pub find_ahead-known-requires : goal.find_ahead-known-requires
find_ahead-known-requires c =
    let t = c.args.tables.now in
    let rows = plain_state c.args.state.now in
    let n = c.args.instance in
    let active = c.args.active.now in
    let asking = c.ask-asking.result in
    record {
      can = c.ask-asking.ensures.can;
      component = component_is t n rows active asking c.ask-asking.ensures.asked c.requires.tables c.requires.instance c.index.result.now c.index.ensures;
      ready = can_demand t rows n active asking c.ask-asking.ensures.asked c.ask-asking.ensures.nodes c.args.marks.now c.requires.ready;
      ahead = serves t n rows active asking c.ask-asking.ensures.asked c.ask-asking.ensures.active c.args.ahead c.requires.ahead;
    }

pub first_fault-requires : goal.first_fault-requires
first_fault-requires c =
    let t = c.args.tables.now in
    let rows = plain_state c.args.state.now in
    let n = c.args.instance in
    let active = c.args.active.now in
    let asking = c.ask-asking.result in
    let kept = sym (c.deref.ensures.value ∙ c.stepping_of-stepping.ensures.kept) in
    let own = ap (λ (a : Asked). (component_at a.design (row_at a.rows a.instance).component).cells) (sym c.ask-asking.ensures.asked) in
    record {
      can = c.ask-asking.ensures.can;
      firsts = subst (StandFirst asking) (sym c.as_slice-firsts.ensures.value)
          (stand_first asking c.ask-asking.ensures.can (λ k p kind. c.seen_ports_are_wide.ensures asking k p c.ask-asking.ensures.can kind) c.index-2.result.now.items
          (first_nodes t c.requires.tables n c.requires.instance rows active asking c.ask-asking.ensures.asked c.index-2.result.now c.index-2.ensures));
      ready = c.find_ahead-known.ensures.ready;
      known = c.find_ahead-known.ensures.known;
      cells = subst (λ (cells : List PlainCell). AreStepping cells c.deref.result.now) own (subst (AreStepping (cells_at t n)) (sym c.deref.ensures.value) c.stepping_of-stepping.ensures.value.kept);
      rooms = subst (λ (ks : List (Option SteppingCell)). HaveRooms ks c.args.rooms.now) kept c.requires.rooms;
    }

pub returns : goal.returns
returns c =
    let t = c.args.tables.now in
    let rows = plain_state c.args.state.now in
    let n = c.args.instance in
    let active = c.args.active.now in
    let asking = c.ask-asking.result in
    let listed = c.args.listed.now in
    let new = c.first_fault.new.rooms in
    let first = c.first_fault.result in
    let kept = c.deref.ensures.value ∙ c.stepping_of-stepping.ensures.kept in
    let found : IsFirst (asked_of asking) (own_cells asking) c.deref.result.now (own_held asking) listed new first = record {
      value = c.first_fault.ensures.value;
      gathered = λ none. subst (λ o. IfNone o (AreGathered (listed_in listed) (seen_look asking) c.deref.result.now (own_held asking) new)) none c.first_fault.ensures.gathered;
    } in
    record {
      first = subst (λ (ks : List (Option SteppingCell)). IsFirst (asked_in t rows n active) (cells_at t n) ks (instance_state rows n).cells listed new first) kept
          (first_of t rows n active asking c.ask-asking.ensures.asked c.ask-asking.ensures.nodes c.args.marks.now c.deref.result.now listed new first found);
      rooms = subst (λ (ks : List (Option SteppingCell)). HaveRooms ks new) kept c.first_fault.ensures.rooms;
      count = (are_ready t rows n active asking c.ask-asking.ensures.asked c.ask-asking.ensures.nodes c.first_fault.new.marks c.first_fault.ensures.ready).count;
    }
