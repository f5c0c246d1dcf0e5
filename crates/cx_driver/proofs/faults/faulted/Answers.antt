use Rattle.std.proofs.Common.{◌<◌, inr, length, sym, subst}
use Rattle.cx_meaning.specs.Instances.{paths_of, tree_of}
use Rattle.cx_design.specs.declared.designs.Design.{Design}
use Rattle.cx_design.specs.PlainDesigns.{plain_design}
use Rattle.cx_state.specs.Paths.{TellsPort}
use Rattle.cx_driver.proofs.FaultLemmas.{told_fault}
use Rattle.cx_driver.proofs.faults.faulted.Goals as goal

pub port_path-requires : goal.port_path-requires
port_path-requires c =
    let Within : Design → Type 0 = λ d. c.args.fault.instance < length (paths_of (tree_of (plain_design d))) in
    record { instance = subst Within (sym c.design.ensures.value) c.requires.instance }

pub returns-in-Ok : goal.returns-in-Ok
returns-in-Ok c = λ fault t.
    let Tells : Design → Type 0 = λ d. TellsPort (tree_of (plain_design d)) c.args.fault.instance c.args.fault.port c.in-Ok.path in
    inr (told_fault (plain_design c.args.design.now) c.args.fault fault c.args.turn c.in-Ok.path t (subst Tells c.design.ensures.value c.in-Ok.ensures.value))
