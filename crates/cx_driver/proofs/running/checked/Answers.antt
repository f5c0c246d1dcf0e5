use Rattle.std.proofs.Common.{[], refl, subst}
use Rattle.std.proofs.lemmas.Result.{err_from_is_err_and}
use Rattle.cx_text.specs.declared.limits.TheConstants.{DESIGN_BYTES}
use Rattle.cx_commands.specs.Commands.{Wanted, check}
use Rattle.cx_compiler.specs.Texts.{IsAcceptedText, IsTextRefusal}
use Rattle.cx_driver.proofs.CauseLemmas.{memory_cause, memory_unread, accepted_answer, refused_check}
use Rattle.cx_driver.proofs.ReadLemmas.{first_read}
use Rattle.cx_driver.proofs.running.checked.Goals as goal

pub returns-in_err-text-clause-cause : goal.returns-in_err-text-clause-cause
returns-in_err-text-clause-cause g c =
    let p = err_from_is_err_and c.from_residual.result c.from_residual.ensures.1 in
    let first : Wanted = record { file = c.args.design.now; most = DESIGN_BYTES } in
    rw (p.1, p.2) (first_read (check c.args.design.now) (g.F.Files.held c.args.files.now) (g.F.Files.faults c.args.files.now) (g.F.Files.faults c.read.new.files) first [] c.in_err-text.field-0.0 refl c.in_err-text.ensures.cause)

pub returns-in-Ok : goal.returns-in-Ok
returns-in-Ok g c = record {
  answer = accepted_answer (λ v. v.items) (g.F.Files.held c.args.files.now) c.args.design.now c.in_ok-text.text.items c.accepted.result c.in_ok-text.ensures.held (subst IsAcceptedText c.deref.ensures.value c.in-Ok.ensures.accepted) c.accepted.ensures.answer;
  cause = memory_cause (check c.args.design.now) (g.F.Files.held c.args.files.now) (g.F.Files.faults c.args.files.now) (g.F.Files.faults c.read.new.files) c.accepted.result c.accepted.ensures.cause;
  unread = memory_unread (g.F.Files.failures c.args.files.now) (g.F.Files.failures c.read.new.files) c.accepted.result c.accepted.ensures.cause c.in_ok-text.ensures.unread;
  kept = c.read.ensures.kept;
}

pub returns-clause-cause : goal.returns-clause-cause
returns-clause-cause g c =
    refused_check (g.F.Files.held c.args.files.now) c.args.design.now c.in_ok-text.text.items c.in-Err.told c.in_ok-text.ensures.held (subst (λ t. IsTextRefusal t c.in-Err.told) c.deref.ensures.value c.in-Err.ensures.cause)

pub returns-in_err-text-clause-unread : goal.returns-in_err-text-clause-unread
returns-in_err-text-clause-unread g c = let p = err_from_is_err_and c.from_residual.result c.from_residual.ensures.1 in rw (p.1, p.2) c.in_err-text.ensures.unread
