use Rattle.std.proofs.Common.{[], inl, refl, subst}
use Rattle.std.proofs.lemmas.Result.{err_from_is_err_and}
use Rattle.cx_text.specs.declared.limits.TheConstants.{DESIGN_BYTES}
use Rattle.cx_commands.specs.Commands.{Wanted, share}
use Rattle.cx_compiler.specs.Texts.{IsTextRefusal}
use Rattle.cx_driver.specs.Sharing.{IsShared, IsSharedTree}
use Rattle.cx_driver.proofs.ReadLemmas.{first_read}
use Rattle.cx_driver.proofs.RewritingLemmas.{refused_file}
use Rattle.cx_driver.proofs.running.shared.Goals as goal

pub returns-in_err-text-clause-cause : goal.returns-in_err-text-clause-cause
returns-in_err-text-clause-cause g c =
    let p = err_from_is_err_and c.from_residual.result c.from_residual.ensures.1 in
    let first : Wanted = record { file = c.args.design.now; most = DESIGN_BYTES } in
    rw (p.1, p.2) (first_read (share c.args.design.now) (g.F.Files.held c.args.files.now) (g.F.Files.faults c.args.files.now) (g.F.Files.faults c.read.new.files) first [] c.in_err-text.field-0.0 refl c.in_err-text.ensures.cause)

pub returns-in-Ok-clause-answer : goal.returns-in-Ok-clause-answer
returns-in-Ok-clause-answer g c = record {
  bytes = c.in_ok-text.text.items;
  reads = c.in_ok-text.ensures.held;
  is = inl (c.in-Ok.answer.items, subst (λ t. IsShared t c.in-Ok.answer.items) c.deref.ensures.value c.in-Ok.ensures.answer, refl);
}

pub returns-clause-cause : goal.returns-clause-cause
returns-clause-cause g c =
    refused_file IsSharedTree (g.F.Files.held c.args.files.now) c.args.design.now c.in_ok-text.text.items c.in-Err.why c.in_ok-text.ensures.held (subst (λ t. IsTextRefusal t c.in-Err.why) c.deref.ensures.value c.in-Err.ensures.cause)

pub returns-in_err-text-clause-unread : goal.returns-in_err-text-clause-unread
returns-in_err-text-clause-unread g c = let p = err_from_is_err_and c.from_residual.result c.from_residual.ensures.1 in rw (p.1, p.2) c.in_err-text.ensures.unread
