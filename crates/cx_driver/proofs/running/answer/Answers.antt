use Rattle.std.proofs.Common.{IfErr, IfOk, subst, sym}
use Rattle.cx_commands.specs.Asked.{asked_of}
use Rattle.cx_commands.specs.Commands.{IsPossible}
use Rattle.cx_commands.specs.declared.commands.Command.{Command}
use Rattle.cx_driver.specs.Causes.{HasCause}
use Rattle.cx_driver.specs.Outcomes.{IsAnswer}
use Rattle.cx_driver.proofs.running.answer.Goals as goal

pub returns-in-Trial-clause-answer : goal.returns-in-Trial-clause-answer
returns-in-Trial-clause-answer g c =
    let held = g.F.Files.held c.args.files.now in
    let Answers : Command → Type 0 = λ command. IfOk c.tried.result (λ text. IsAnswer held (asked_of command) text.items) in
    subst Answers (sym c.in-Trial.is) (c.tried.ensures.answer held)

pub returns-in-Trial-clause-cause : goal.returns-in-Trial-clause-cause
returns-in-Trial-clause-cause g c =
    let held = g.F.Files.held c.args.files.now in
    let faults = g.F.Files.faults c.args.files.now in
    let Causes : Command → Type 0 = λ command. IfErr c.tried.result (HasCause (asked_of command) held faults faults) in
    subst Causes (sym c.in-Trial.is) (c.tried.ensures.cause held faults faults)

pub woven-requires : goal.woven-requires
woven-requires g c =
    let Listed : Command → Type 0 = λ command. IsPossible (asked_of command) in
    record { list = subst Listed c.in-Weave.is c.requires.possible }

pub profiled-requires : goal.profiled-requires
profiled-requires g c =
    let Within : Command → Type 0 = λ command. IsPossible (asked_of command) in
    record { budget = subst Within c.in-Profile.is c.requires.possible }

pub returns-in-Trial-clause-unread : goal.returns-in-Trial-clause-unread
returns-in-Trial-clause-unread g c = c.tried.ensures.unread (g.F.Files.failures c.args.files.now)
