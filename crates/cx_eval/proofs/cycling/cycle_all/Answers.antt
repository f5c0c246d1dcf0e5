use Rattle.std.proofs.Common.{List, ℕ, sym, subst}
use Rattle.cx_state.specs.States.{plain_state}
use Rattle.cx_eval_cycle.specs.Passes.{IsAscending, listed_in}
use Rattle.cx_eval.specs.Evaluated.{Cycled}
use Rattle.cx_eval.specs.Tables.{design_of}
use Rattle.cx_eval.proofs.CycleLemmas.{all_cycled}
use Rattle.cx_eval.proofs.cycling.cycle_all.Goals as goal

pub cycle_anew-requires-clause-ascending : goal.cycle_anew-requires-clause-ascending
cycle_anew-requires-clause-ascending c = subst IsAscending (sym c.deref.ensures.value) c.stepping_of-stepping.ensures.value.numbers.ascending

pub returns-clause-value : goal.returns-clause-value
returns-clause-value c =
    let t = c.args.tables.now in
    let old = plain_state c.args.state.now in
    let new = plain_state c.cycle_anew.new.state in
    let n = c.args.instance in
    let result = c.cycle_anew.result in
    all_cycled t c.requires.tables old new n c.args.active.now c.stepping_of-stepping.result.now result c.stepping_of-stepping.ensures.value
    (subst (λ (ns : List ℕ). Cycled (design_of t) old new n c.args.active.now (listed_in ns) result) c.deref.ensures.value c.cycle_anew.ensures.value)
