use Rattle.cx_state.specs.States.{plain_state}
use Rattle.cx_eval.specs.Tables.{design_of}
use Rattle.cx_eval.proofs.PartLemmas.{number_few}
use Rattle.cx_eval.proofs.CycleLemmas.{can_step, faults, fits_after, goes_on}
use Rattle.cx_eval.proofs.cycling.cycle_in.Goals as goal

pub told-requires : goal.told-requires
told-requires c = record { few = number_few (design_of c.args.tables.now) c.args.instance c.requires.tables.flat c.requires.tables.accepted c.requires.instance }

pub returns-in-Some-clause-value : goal.returns-in-Some-clause-value
returns-in-Some-clause-value c =
    faults c.args.tables.now c.requires.tables (plain_state c.args.state.now) c.requires.state c.args.instance c.requires.instance c.args.active.now c.args.listed.now c.requires.ascending c.fault_in.new.rooms c.fault_in.result c.fault_in.ensures.first
    c.in-Some.fault c.in-Some.is c.told.result c.told.ensures.value

pub step_in-requires-clause-can : goal.step_in-requires-clause-can
step_in-requires-clause-can c =
    can_step c.args.tables.now c.requires.tables (plain_state c.args.state.now) c.requires.state c.args.instance c.requires.instance c.args.active.now c.args.listed.now c.requires.ascending c.fault_in.new.rooms c.fault_in.result c.fault_in.ensures.first
    c.in_default.is

pub returns-clause-value : goal.returns-clause-value
returns-clause-value c =
    goes_on c.args.tables.now c.requires.tables (plain_state c.args.state.now) c.requires.state c.args.instance c.requires.instance c.args.active.now c.args.listed.now c.requires.ascending c.fault_in.new.rooms c.fault_in.result c.fault_in.ensures.first
    c.in_default.is (plain_state c.step_in.new.state) c.step_in.ensures.stepped

pub returns-clause-fits : goal.returns-clause-fits
returns-clause-fits c =
    fits_after c.args.tables.now c.requires.tables (plain_state c.args.state.now) c.requires.state c.args.instance c.requires.instance c.args.active.now c.args.listed.now c.requires.ascending c.fault_in.new.rooms c.fault_in.result c.fault_in.ensures.first
    c.in_default.is (plain_state c.step_in.new.state) c.step_in.ensures.stepped
