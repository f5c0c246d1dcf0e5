use Rattle.std.proofs.Common.{List, ℕ, refl}
use Rattle.cx_commands.specs.Statuses.{ReceivesLine}
use Rattle.cx_commands.specs.Asked.{asked_of}
use Rattle.cx_commands.specs.declared.refusals.Status.TheVariants as statuses
use Rattle.cx_driver.proofs.CauseLemmas.{said_words, words_tell_nothing}
use Rattle.cx_commands.proofs.CommandLemmas.{is_possible, one_command}
use Rattle.cx_commands.specs.Commands as asked
use Rattle.cx_driver.proofs.CompleteLemmas.{complete_asked, stopped_asked}
use Rattle.cx_driver.proofs.FileLemmas.{file_asked}
use Rattle.cx_driver.proofs.LineLemmas.{line_told}
use Rattle.cx_driver.proofs.AlikeLemmas.{shared_of_file}
use Rattle.cx_driver.proofs.FilePromise.{kept_of_file}
use Rattle.cx_driver.proofs.NoLaterLemmas.{promoted_of_file}
use Rattle.cx_driver.proofs.running.run.Goals as goal

pub returns-in-Some-clause-done : goal.returns-in-Some-clause-done
returns-in-Some-clause-done g c = λ e. let d = c.obey.ensures.done e in (d.0, (asked_of c.in-Some.command, c.in-Some.ensures, d.1), d.2)

pub returns-in-Some-clause-promise : goal.returns-in-Some-clause-promise
returns-in-Some-clause-promise g c = λ e file asks.
    let d = c.obey.ensures.done e in
    let own = asked_of c.in-Some.command in
    (d.0, kept_of_file (g.F.Files.held c.args.files.now) file d.0 own (one_command c.args.words.now (asked.compile file) own asks c.in-Some.ensures) d.1, d.2)

pub returns-in-Some-clause-shared : goal.returns-in-Some-clause-shared
returns-in-Some-clause-shared g c = λ e file asks.
    let d = c.obey.ensures.done e in
    let own = asked_of c.in-Some.command in
    (d.0, shared_of_file (g.F.Files.held c.args.files.now) file d.0 own (one_command c.args.words.now (asked.share file) own asks c.in-Some.ensures) d.1, d.2)

pub returns-in-Some-clause-promoted : goal.returns-in-Some-clause-promoted
returns-in-Some-clause-promoted g c = λ e file asks.
    let d = c.obey.ensures.done e in
    let own = asked_of c.in-Some.command in
    (d.0, promoted_of_file (g.F.Files.held c.args.files.now) file d.0 own (one_command c.args.words.now (asked.promote file) own asks c.in-Some.ensures) d.1, d.2)

pub returns-in-Some-clause-part : goal.returns-in-Some-clause-part
returns-in-Some-clause-part g c = λ e. let d = c.obey.ensures.part e in (d.0, (asked_of c.in-Some.command, c.in-Some.ensures, d.1), d.2)

pub returns-in-Some-clause-cause : goal.returns-in-Some-clause-cause
returns-in-Some-clause-cause g c = λ r. (asked_of c.in-Some.command, c.in-Some.ensures, c.obey.ensures.cause r)

pub returns-in-None-clause-cause : goal.returns-in-None-clause-cause
returns-in-None-clause-cause g c = λ r. absurd (words_tell_nothing statuses.Words refl r)

pub returns-in-Some-clause-completes : goal.returns-in-Some-clause-completes
returns-in-Some-clause-completes g c = λ command asks can never.
    let own = asked_of c.in-Some.command in
    c.obey.ensures.completes (complete_asked (g.F.Files.held c.args.files.now) command own (one_command c.args.words.now command own asks c.in-Some.ensures) can) never

pub returns-in-None-clause-completes : goal.returns-in-None-clause-completes
returns-in-None-clause-completes g c = λ command asks can never. absurd (c.in-None.ensures command asks)

pub returns-in-Some-clause-all_stops : goal.returns-in-Some-clause-all_stops
returns-in-Some-clause-all_stops g c = λ command why asks stopped never.
    let own = asked_of c.in-Some.command in
    c.obey.ensures.all_stops why (stopped_asked (g.F.Files.held c.args.files.now) command own why (one_command c.args.words.now command own asks c.in-Some.ensures) stopped) never

pub returns-in-None-clause-all_stops : goal.returns-in-None-clause-all_stops
returns-in-None-clause-all_stops g c = λ command why asks stopped never. absurd (c.in-None.ensures command asks)

pub returns-in-None-clause-said : goal.returns-in-None-clause-said
returns-in-None-clause-said g c =
    let Received : List ℕ → Type 0 = λ l. ReceivesLine (g.E.Sink.written c.args.err.now) (g.E.Sink.faults c.args.err.now) l (g.E.Sink.written c.tell.new.err) (g.E.Sink.faults c.tell.new.err) in
    λ told e. said_words Received told c.tell.ensures e

pub obey-requires : goal.obey-requires
obey-requires g c = record { possible = is_possible c.args.words.now (asked_of c.in-Some.command) c.in-Some.ensures }

pub returns-in-Some-clause-all_files : goal.returns-in-Some-clause-all_files
returns-in-Some-clause-all_files g c = λ command why asks so never.
    let own = asked_of c.in-Some.command in
    c.obey.ensures.all_files why (file_asked (g.F.Files.held c.args.files.now) command own why (one_command c.args.words.now command own asks c.in-Some.ensures) so) never

pub returns-in-None-clause-all_files : goal.returns-in-None-clause-all_files
returns-in-None-clause-all_files g c = λ command why asks so never. absurd (c.in-None.ensures command asks)

pub returns-in-Some-clause-all_lines : goal.returns-in-Some-clause-all_lines
returns-in-Some-clause-all_lines g c = λ command why asks stopped never.
    let own = asked_of c.in-Some.command in
    let same = one_command c.args.words.now command own asks c.in-Some.ensures in
    let held = g.F.Files.held c.args.files.now in
    let so = stopped_asked held command own why same stopped in
    line_told held own (g.F.Files.faults c.args.files.now) (g.F.Files.faults c.obey.new.files) (g.F.Files.failures c.args.files.now) (g.F.Files.failures c.obey.new.files) why c.obey.result (g.E.Sink.written c.args.err.now) (g.E.Sink.faults c.args.err.now)
    (g.E.Sink.written c.obey.new.err) (g.E.Sink.faults c.obey.new.err) so never (c.obey.ensures.all_stops why so never) c.obey.ensures.cause

pub returns-in-None-clause-all_lines : goal.returns-in-None-clause-all_lines
returns-in-None-clause-all_lines g c = λ command why asks stopped never. absurd (c.in-None.ensures command asks)
