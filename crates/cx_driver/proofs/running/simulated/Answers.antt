use Rattle.std.proofs.Common.{[], ◌∷◌, ◌∙◌, ap, refl, subst, List, ℕ, Ok, Err}
use Rattle.std.proofs.lemmas.Result.{err_from_is_err_and}
use Rattle.cx_text.specs.declared.limits.TheConstants.{DATA_BYTES, VERILOG_BYTES}
use Rattle.cx_commands.specs.Commands.{Wanted, sim}
use Rattle.cx_compiler.specs.Simulated.{Simulates, IsSimStop}
use Rattle.cx_compiler.proofs.Once.{or_memory}
use Rattle.cx_driver.specs.Causes.{unread_by}
use Rattle.cx_driver.proofs.ReadLemmas.{both_read, first_read, second_read}
use Rattle.cx_driver.proofs.running.simulated.Goals as goal

pub returns-in_err-text-clause-cause : goal.returns-in_err-text-clause-cause
returns-in_err-text-clause-cause g c =
    let p = err_from_is_err_and c.from_residual.result c.from_residual.ensures.1 in
    let held = g.F.Files.held c.args.files.now in
    let first : Wanted = record { file = c.args.verilog.now; most = VERILOG_BYTES } in
    let second : Wanted = record { file = c.args.json.now; most = DATA_BYTES } in
    rw (p.1, p.2) (first_read (sim c.args.verilog.now c.args.json.now c.args.budget) held (g.F.Files.faults c.args.files.now) (g.F.Files.faults c.read.new.files) first (second ∷ []) c.in_err-text.field-0.0 refl c.in_err-text.ensures.cause)

pub returns-in_err-data-clause-cause : goal.returns-in_err-data-clause-cause
returns-in_err-data-clause-cause g c =
    let p = err_from_is_err_and c.from_residual-in_err-data.result c.from_residual-in_err-data.ensures.1 in
    let first : Wanted = record { file = c.args.verilog.now; most = VERILOG_BYTES } in
    let second : Wanted = record { file = c.args.json.now; most = DATA_BYTES } in
    rw (p.1, p.2) (second_read (sim c.args.verilog.now c.args.json.now c.args.budget) (g.F.Files.held c.args.files.now) (g.F.Files.held c.read.new.files)
    (g.F.Files.faults c.args.files.now) (g.F.Files.faults c.read.new.files) (g.F.Files.faults c.read-2.new.files) first second [] c.in_ok-text.text.items c.in_err-data.field-0.0 refl
    c.in_ok-text.ensures.held c.read.ensures.kept c.read.ensures.count c.in_err-data.ensures.cause)

pub returns-in-Ok-clause-answer : goal.returns-in-Ok-clause-answer
returns-in-Ok-clause-answer g c =
    let Does : List ℕ → List ℕ → Type 0 = λ t d. Simulates t d c.args.budget (Ok c.in-Ok.dump.items) in
    let ByText : List ℕ → Type 0 = λ t. Does t c.deref-2.result.now in
    let ByData : List ℕ → Type 0 = λ d. Does c.in_ok-text.text.items d in
    both_read Does (g.F.Files.held c.args.files.now) (g.F.Files.held c.read.new.files) VERILOG_BYTES DATA_BYTES c.args.verilog.now c.args.json.now c.in_ok-text.text.items c.in_ok-data.data.items
    c.in_ok-text.ensures.held c.read.ensures.kept c.in_ok-data.ensures.held (subst ByData c.deref-2.ensures.value (subst ByText c.deref.ensures.value c.in-Ok.ensures.answer))

pub returns-clause-cause : goal.returns-clause-cause
returns-clause-cause g c =
    let Does : List ℕ → List ℕ → Type 0 = λ t d. Simulates t d c.args.budget (Err c.in-Err.why) in
    let ByText : List ℕ → Type 0 = λ t. IsSimStop t c.deref-2.result.now c.args.budget c.in-Err.why in
    let ByData : List ℕ → Type 0 = λ d. IsSimStop c.in_ok-text.text.items d c.args.budget c.in-Err.why in
    or_memory c.in-Err.why (subst ByData c.deref-2.ensures.value (subst ByText c.deref.ensures.value c.in-Err.ensures.cause))
    (λ p. both_read Does (g.F.Files.held c.args.files.now) (g.F.Files.held c.read.new.files) VERILOG_BYTES DATA_BYTES c.args.verilog.now c.args.json.now c.in_ok-text.text.items c.in_ok-data.data.items
    c.in_ok-text.ensures.held c.read.ensures.kept c.in_ok-data.ensures.held p)

pub returns-in_err-text-clause-unread : goal.returns-in_err-text-clause-unread
returns-in_err-text-clause-unread g c = let p = err_from_is_err_and c.from_residual.result c.from_residual.ensures.1 in rw (p.1, p.2) c.in_err-text.ensures.unread

pub returns-in_err-data-clause-unread : goal.returns-in_err-data-clause-unread
returns-in_err-data-clause-unread g c =
    let p = err_from_is_err_and c.from_residual-in_err-data.result c.from_residual-in_err-data.ensures.1 in
    rw (p.1, p.2) (c.in_err-data.ensures.unread ∙ ap (unread_by c.in_err-data.field-0.0) c.in_ok-text.ensures.unread)

pub returns-in-Ok-clause-unread : goal.returns-in-Ok-clause-unread
returns-in-Ok-clause-unread g c = c.in_ok-data.ensures.unread ∙ c.in_ok-text.ensures.unread

pub returns-clause-unread : goal.returns-clause-unread
returns-clause-unread g c = c.in_ok-data.ensures.unread ∙ c.in_ok-text.ensures.unread
