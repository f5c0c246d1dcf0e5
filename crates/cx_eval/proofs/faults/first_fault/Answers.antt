use Rattle.std.proofs.Common.{sym, ◌∙◌}
use Rattle.cx_eval_network.specs.Askings.{asked_of}
use Rattle.cx_eval_cycle.specs.Passes.{fault_of}
use Rattle.cx_eval.specs.Looked.{own_cells, own_held, seen_look}
use Rattle.cx_eval_cycle.proofs.PassLemmas.{all_listed}
use Rattle.cx_eval.proofs.FaultLemmas.{among_next, listed_gathered}
use Rattle.cx_eval.proofs.faults.first_fault.Goals as goal

pub loop-number-preserved : goal.loop-number-preserved
loop-number-preserved c =
    let a = c.args.asking.now in
    let xs = c.args.listed.now in
    let k = c.loop-number.number in
    let lt = c.loop-number-test.true in
    record {
      ready = c.fault_of.ensures.ready;
      rooms = c.fault_of.ensures.rooms;
      far = among_next (fault_of (seen_look a) (own_cells a) (own_held a)) xs k lt (sym c.fault_of.ensures.value ∙ c.in_default.is) c.loop-number.invariant.far;
      gathered = listed_gathered (seen_look a) c.args.cells.now (own_held a) c.loop-number.rooms c.fault_of.new.rooms xs k lt c.loop-number.invariant.gathered c.in_default.ensures.gathered c.fault_of.ensures.others;
    }

pub returns-clause-gathered : goal.returns-clause-gathered
returns-clause-gathered c =
    let xs = c.args.listed.now in
    let past = c.loop-number-test.false in
    λ n on. c.loop-number.invariant.gathered n (all_listed xs c.loop-number.number n past ∙ on)

pub fault_of-requires-clause-sources : goal.fault_of-requires-clause-sources
fault_of-requires-clause-sources c = c.ports-sources.ensures.value (asked_of c.args.asking.now) c.requires.known
