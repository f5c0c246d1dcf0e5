use Rattle.std.proofs.Common.{List, ℕ, sym, subst}
use Rattle.cx_outside.specs.Writing.{GrowsByPart}
use Rattle.cx_driver.specs.Outcomes.{IsAnswer}
use Rattle.cx_commands.specs.Asked.{asked_of}
use Rattle.cx_commands.specs.Statuses.{ReceivesLine}
use Rattle.cx_driver.proofs.CauseLemmas.{delivered, part_taken, quiet_delivered, refused_not_done, said_delivered, said_refused, told_why, unread_file}
use Rattle.cx_driver.proofs.CompleteLemmas.{complete_delivered, complete_refused, stopped_answered, stopped_refused}
use Rattle.cx_driver.proofs.FileLemmas.{file_answered, file_refused}
use Rattle.cx_driver.proofs.running.obey.Goals as goal

pub returns-in-Ok-clause-part : goal.returns-in-Ok-clause-part
returns-in-Ok-clause-part g c =
    let Answers : List ℕ → Type 0 = λ t. IsAnswer (g.F.Files.held c.args.files.now) (asked_of c.args.command) t in
    let Grows : List ℕ → Type 0 = λ t. GrowsByPart (g.O.Sink.written c.args.out.now) t (g.O.Sink.written c.deliver.new.out) in
    λ e. part_taken Answers Grows c.deliver.result c.deref.result.now c.deliver.ensures.cases (subst Answers (sym c.deref.ensures.value) c.in-Ok.ensures.answer) e

pub returns-in-Ok-clause-cause : goal.returns-in-Ok-clause-cause
returns-in-Ok-clause-cause g c = λ r. absurd (delivered c.deliver.result c.deliver.ensures.cases r)

pub returns-in-Err-clause-read_fault : goal.returns-in-Err-clause-read_fault
returns-in-Err-clause-read_fault g c = λ e.
    unread_file (asked_of c.args.command) (g.F.Files.held c.args.files.now) (g.F.Files.faults c.args.files.now) (g.F.Files.faults c.answer.new.files) (g.F.Files.failures c.args.files.now)
    (g.F.Files.failures c.answer.new.files) c.refuse.result c.in-Err.refusal c.refuse.ensures c.in-Err.ensures.cause c.in-Err.ensures.unread e

pub returns-in-Err-clause-cause : goal.returns-in-Err-clause-cause
returns-in-Err-clause-cause g c = λ r.
    told_why (asked_of c.args.command) (g.F.Files.held c.args.files.now) (g.F.Files.faults c.args.files.now) (g.F.Files.faults c.answer.new.files) (g.F.Files.failures c.args.files.now) (g.F.Files.failures c.answer.new.files)
    c.refuse.result (g.E.Sink.written c.args.err.now) (g.E.Sink.faults c.args.err.now) (g.E.Sink.written c.refuse.new.err) (g.E.Sink.faults c.refuse.new.err) c.in-Err.refusal c.refuse.ensures
    c.in-Err.ensures.cause c.in-Err.ensures.unread r

pub returns-in-Ok-clause-quiet : goal.returns-in-Ok-clause-quiet
returns-in-Ok-clause-quiet g c = λ e. quiet_delivered c.deliver.result c.deliver.ensures.cases e

pub returns-in-Ok-clause-said : goal.returns-in-Ok-clause-said
returns-in-Ok-clause-said g c =
    let Received : List ℕ → Type 0 = λ l. ReceivesLine (g.E.Sink.written c.args.err.now) (g.E.Sink.faults c.args.err.now) l (g.E.Sink.written c.deliver.new.err) (g.E.Sink.faults c.deliver.new.err) in
    λ told e. said_delivered Received c.deliver.result c.deliver.ensures.cases told e

pub returns-in-Ok-clause-completes : goal.returns-in-Ok-clause-completes
returns-in-Ok-clause-completes g c = λ can never. complete_delivered c.deliver.result c.deliver.ensures.cases

pub returns-in-Err-clause-quiet : goal.returns-in-Err-clause-quiet
returns-in-Err-clause-quiet g c = λ e. absurd (refused_not_done c.refuse.result c.in-Err.refusal c.refuse.ensures e)

pub returns-in-Err-clause-said : goal.returns-in-Err-clause-said
returns-in-Err-clause-said g c =
    let Received : List ℕ → Type 0 = λ l. ReceivesLine (g.E.Sink.written c.args.err.now) (g.E.Sink.faults c.args.err.now) l (g.E.Sink.written c.refuse.new.err) (g.E.Sink.faults c.refuse.new.err) in
    λ told e. said_refused Received c.refuse.result c.in-Err.refusal c.refuse.ensures told e

pub returns-in-Err-clause-completes : goal.returns-in-Err-clause-completes
returns-in-Err-clause-completes g c = λ can never.
    complete_refused (g.F.Files.held c.args.files.now) (asked_of c.args.command) (g.F.Files.faults c.args.files.now) (g.F.Files.faults c.answer.new.files) c.refuse.result c.in-Err.refusal c.refuse.ensures c.in-Err.ensures.cause can never

pub returns-in-Ok-clause-all_stops : goal.returns-in-Ok-clause-all_stops
returns-in-Ok-clause-all_stops g c = λ why stopped never. stopped_answered (g.F.Files.held c.args.files.now) (asked_of c.args.command) c.in-Ok.text.items why c.in-Ok.ensures.answer stopped

pub returns-in-Err-clause-all_stops : goal.returns-in-Err-clause-all_stops
returns-in-Err-clause-all_stops g c = λ why stopped never.
    stopped_refused (g.F.Files.held c.args.files.now) (asked_of c.args.command) (g.F.Files.faults c.args.files.now) (g.F.Files.faults c.answer.new.files) why c.refuse.result c.in-Err.refusal c.refuse.ensures c.in-Err.ensures.cause stopped never

pub returns-in-Ok-clause-all_files : goal.returns-in-Ok-clause-all_files
returns-in-Ok-clause-all_files g c = λ why so never.
    file_answered (g.F.Files.held c.args.files.now) (asked_of c.args.command) (g.F.Files.faults c.args.files.now) (g.F.Files.faults c.answer.new.files) c.in-Ok.text.items why c.in-Ok.ensures.answer so never

pub returns-in-Err-clause-all_files : goal.returns-in-Err-clause-all_files
returns-in-Err-clause-all_files g c = λ why so never.
    file_refused (g.F.Files.held c.args.files.now) (asked_of c.args.command) (g.F.Files.faults c.args.files.now) (g.F.Files.faults c.answer.new.files) why c.refuse.result
    (g.E.Sink.written c.args.err.now) (g.E.Sink.faults c.args.err.now) (g.E.Sink.written c.refuse.new.err) (g.E.Sink.faults c.refuse.new.err) c.in-Err.refusal c.refuse.ensures c.in-Err.ensures.cause so never

pub returns-in-Err-clause-all_read : goal.returns-in-Err-clause-all_read
returns-in-Err-clause-all_read g c = λ e. absurd (refused_not_done c.refuse.result c.in-Err.refusal c.refuse.ensures e)
