-- Why a command has no answer.
use Rattle.std.proofs.Common.{◌≡◌, ◌⊎◌, inl, inr, ⊎_elim, ℕ, List, [], ◌∷◌, ◌++◌, Option, Some, None, Contains, Result, Ok, Err, IfOk, IfErr, OnOk, OnErr, codes, sym, ap, ◌∙◌, subst}
use Rattle.cx_text.specs.declared.limits.TheConstants.{DESIGN_BYTES}
use Rattle.cx_commands.specs.Commands.{Asked, check, files_of, wanted_by}
use Rattle.cx_commands.specs.Reads.{HoldsWithin, IsReadFault}
use Rattle.cx_compiler.specs.Texts.{IsAcceptedText, IsTextRefusal}
use Rattle.cx_driver.specs.Outcomes.{IsAnswer, StopsCommand}
use Rattle.cx_commands.specs.declared.refusals.Refusal.{Refusal}
use Rattle.cx_commands.specs.declared.refusals.Refusal.TheVariants as refusals
use Rattle.cx_commands.specs.declared.refusals.Status.{Status}
use Rattle.cx_commands.specs.declared.refusals.Status.TheVariants as statuses
use Rattle.cx_commands.specs.declared.stops.Stop.{Stop}
use Rattle.cx_commands.specs.declared.stops.Stop.TheVariants as stops
use Rattle.cx_driver.specs.Causes.{IsMemory, HasCause, TellsUnread, ToldWhy, unread_by}
use Rattle.cx_commands.specs.Statuses.{IsRefusing, ReceivesLine, fixed_line, status_of}
use Rattle.cx_commands.specs.Messages.{line_of}
use Rattle.cx_driver.proofs.ReadLemmas.{Held, unread_in}

done_tells_nothing : (status : Status) → status ≡ statuses.Done → IsRefusing status → ⊥
done_tells_nothing status e (inl h) = cc
done_tells_nothing status e (inr (inl h)) = cc
done_tells_nothing status e (inr (inr (inl h))) = cc
done_tells_nothing status e (inr (inr (inr h))) = cc

write_fault_tells_nothing : (status : Status) → status ≡ statuses.WriteFault → IsRefusing status → ⊥
write_fault_tells_nothing status e (inl h) = cc
write_fault_tells_nothing status e (inr (inl h)) = cc
write_fault_tells_nothing status e (inr (inr (inl h))) = cc
write_fault_tells_nothing status e (inr (inr (inr h))) = cc

memory_tells_nothing : (status : Status) → status ≡ statuses.Memory → IsRefusing status → ⊥
memory_tells_nothing status e (inl h) = cc
memory_tells_nothing status e (inr (inl h)) = cc
memory_tells_nothing status e (inr (inr (inl h))) = cc
memory_tells_nothing status e (inr (inr (inr h))) = cc

pub words_tell_nothing : (status : Status) → status ≡ statuses.Words → IsRefusing status → ⊥
words_tell_nothing status e (inl h) = cc
words_tell_nothing status e (inr (inl h)) = cc
words_tell_nothing status e (inr (inr (inl h))) = cc
words_tell_nothing status e (inr (inr (inr h))) = cc

-- an answer that was delivered, or was not taken whole, is no refusal
pub delivered : {P Q S G R : Type 0} (status : Status) → ((status ≡ statuses.Done) × P × Q) ⊎ ((status ≡ statuses.WriteFault) × S × G × R) → IsRefusing status → ⊥
delivered status (inl h) r = done_tells_nothing status h.0 r
delivered status (inr h) r = write_fault_tells_nothing status h.0 r

pub told_why : {L : Type 0} (command : Asked) (held : Held) (before after : ℕ) (old_names new_names : List (List ℕ)) (status : Status) (err_old : Option (List ℕ)) (err_before : ℕ) (err_new : Option (List ℕ)) (err_after : ℕ) (refusal : Refusal)
    → ((status ≡ status_of refusal) × ReceivesLine err_old err_before (line_of refusal) err_new err_after) ⊎ ((status ≡ statuses.Memory) × L)
    → HasCause command held before after refusal → new_names ≡ unread_by refusal old_names → IsRefusing status
    → ToldWhy command held before after old_names new_names status err_old err_before err_new err_after
told_why command held before after old_names new_names status err_old err_before err_new err_after refusal (inl h) cause unread r =
    record { refusal = refusal; tells = h.0; is_true = cause; unread = unread; line = h.1 }
told_why command held before after old_names new_names status err_old err_before err_new err_after refusal (inr h) cause unread r = absurd (memory_tells_nothing status h.0 r)

-- which file was not read
module _ (command : Asked) (held : Held) (before after : ℕ) (old_names new_names : List (List ℕ)) where
  abbrev IsUnreadAlone : Type 0
  IsUnreadAlone = (file : List ℕ) × Contains (files_of command) file × IsReadFault held before after file × (new_names ≡ old_names ++ file ∷ [])

  read_fault_in : (refusal : Refusal) → status_of refusal ≡ statuses.ReadFault → HasCause command held before after refusal → new_names ≡ unread_by refusal old_names → IsUnreadAlone
  read_fault_in (refusals.TooLong file seen) e h names = absurd (cc)
  read_fault_in (refusals.ReadFault file) e h names = let k = unread_in held before after file.now (wanted_by command) h in (file.now, k.0, k.1, names)
  read_fault_in (refusals.Stop (stops.Rule told)) e h names = absurd (cc)
  read_fault_in (refusals.Stop (stops.Json fault)) e h names = absurd (cc)
  read_fault_in (refusals.Stop (stops.More budget)) e h names = absurd (cc)
  read_fault_in (refusals.Stop (stops.Verilog refused)) e h names = absurd (cc)
  read_fault_in (refusals.Stop (stops.Fault kind path turn)) e h names = absurd (cc)
  read_fault_in (refusals.Stop (stops.Loop path)) e h names = absurd (cc)
  read_fault_in (refusals.Stop stops.Memory) e h names = absurd (cc)

  pub unread_file : {L M : Type 0} (status : Status) (refusal : Refusal) → ((status ≡ status_of refusal) × L) ⊎ ((status ≡ statuses.Memory) × M) → HasCause command held before after refusal
      → new_names ≡ unread_by refusal old_names → status ≡ statuses.ReadFault → IsUnreadAlone
  unread_file status refusal (inl h) cause names e = read_fault_in refusal (sym h.0 ∙ e) cause names
  unread_file status refusal (inr h) cause names e = absurd (let memory = h.0 in cc)

-- THE LINE of a status that has but one
line_same : (a b : List ℕ) → (let o : Option (List ℕ) = Some a in o ≡ Some b) → a ≡ b
line_same a b e = cc

no_line : (line : List ℕ) → (let o : Option (List ℕ) = None in o ≡ Some line) → ⊥
no_line line e = cc

fixed_refusal : (refusal : Refusal) (line : List ℕ) → fixed_line (status_of refusal) ≡ Some line → line_of refusal ≡ line
fixed_refusal (refusals.TooLong file seen) line e = absurd (no_line line e)
fixed_refusal (refusals.ReadFault file) line e = absurd (no_line line e)
fixed_refusal (refusals.Stop (stops.Rule told)) line e = absurd (no_line line e)
fixed_refusal (refusals.Stop (stops.Json fault)) line e = absurd (no_line line e)
fixed_refusal (refusals.Stop (stops.More budget)) line e = absurd (no_line line e)
fixed_refusal (refusals.Stop (stops.Verilog refused)) line e = absurd (no_line line e)
fixed_refusal (refusals.Stop (stops.Fault kind path turn)) line e = absurd (no_line line e)
fixed_refusal (refusals.Stop (stops.Loop path)) line e = absurd (no_line line e)
fixed_refusal (refusals.Stop stops.Memory) line e = line_same (codes "memory\n") line e

fixed_of : (status other : Status) (line : List ℕ) → status ≡ other → fixed_line status ≡ Some line → fixed_line other ≡ Some line
fixed_of status other line e h = subst (λ s. fixed_line s ≡ Some line) e h

-- where there is no answer
pub said_refused : (R : List ℕ → Type 0) (status : Status) (refusal : Refusal) → ((status ≡ status_of refusal) × R (line_of refusal)) ⊎ ((status ≡ statuses.Memory) × R (codes "memory\n"))
    → (line : List ℕ) → fixed_line status ≡ Some line → R line
said_refused R status refusal (inl h) line e = subst R (fixed_refusal refusal line (fixed_of status (status_of refusal) line h.0 e)) h.1
said_refused R status refusal (inr h) line e = subst R (line_same (codes "memory\n") line (fixed_of status statuses.Memory line h.0 e)) h.1

-- where there is one
pub said_delivered : {P Q S G : Type 0} (R : List ℕ → Type 0) (status : Status) → ((status ≡ statuses.Done) × P × Q) ⊎ ((status ≡ statuses.WriteFault) × S × G × R (codes "write-fault\n"))
    → (line : List ℕ) → fixed_line status ≡ Some line → R line
said_delivered R status (inl h) line e = absurd (no_line line (fixed_of status statuses.Done line h.0 e))
said_delivered R status (inr h) line e = subst R (line_same (codes "write-fault\n") line (fixed_of status statuses.WriteFault line h.0 e)) h.3

pub said_words : (R : List ℕ → Type 0) (line : List ℕ) → R (codes "words\n") → fixed_line statuses.Words ≡ Some line → R line
said_words R line r e = subst R (line_same (codes "words\n") line e) r

pub quiet_delivered : {P Q S G R : Type 0} (status : Status) → ((status ≡ statuses.Done) × P × Q) ⊎ ((status ≡ statuses.WriteFault) × S × G × R) → status ≡ statuses.Done → Q
quiet_delivered status (inl h) e = h.2
quiet_delivered status (inr h) e = absurd (let other = h.0 in cc)

-- the status of a refusal is none of an answer, and none of words
pub no_answer : (refusal : Refusal) → ((status_of refusal ≡ statuses.Done) ⊎ (status_of refusal ≡ statuses.WriteFault) ⊎ (status_of refusal ≡ statuses.Words)) → ⊥
no_answer (refusals.TooLong file seen) h = ⊎_elim (λ p. cc) (λ q. ⊎_elim (λ p. cc) (λ p. cc) q) h
no_answer (refusals.ReadFault file) h = ⊎_elim (λ p. cc) (λ q. ⊎_elim (λ p. cc) (λ p. cc) q) h
no_answer (refusals.Stop (stops.Rule told)) h = ⊎_elim (λ p. cc) (λ q. ⊎_elim (λ p. cc) (λ p. cc) q) h
no_answer (refusals.Stop (stops.Json fault)) h = ⊎_elim (λ p. cc) (λ q. ⊎_elim (λ p. cc) (λ p. cc) q) h
no_answer (refusals.Stop (stops.More budget)) h = ⊎_elim (λ p. cc) (λ q. ⊎_elim (λ p. cc) (λ p. cc) q) h
no_answer (refusals.Stop (stops.Verilog refused)) h = ⊎_elim (λ p. cc) (λ q. ⊎_elim (λ p. cc) (λ p. cc) q) h
no_answer (refusals.Stop (stops.Fault kind path turn)) h = ⊎_elim (λ p. cc) (λ q. ⊎_elim (λ p. cc) (λ p. cc) q) h
no_answer (refusals.Stop (stops.Loop path)) h = ⊎_elim (λ p. cc) (λ q. ⊎_elim (λ p. cc) (λ p. cc) q) h
no_answer (refusals.Stop stops.Memory) h = ⊎_elim (λ p. cc) (λ q. ⊎_elim (λ p. cc) (λ p. cc) q) h

-- want of memory is a cause of each command
pub memory_cause : {X : Type 0} (command : Asked) (held : Held) (before after : ℕ) (r : Result X Refusal) → IfErr r IsMemory → IfErr r (HasCause command held before after)
memory_cause command held before after (Ok x) h = tt
memory_cause command held before after (Err (refusals.TooLong file seen)) h = absurd h
memory_cause command held before after (Err (refusals.ReadFault file)) h = absurd h
memory_cause command held before after (Err (refusals.Stop stop)) h = inl h

-- and no read failed with it
pub memory_unread : {X : Type 0} (old_names new_names : List (List ℕ)) (r : Result X Refusal) → IfErr r IsMemory → new_names ≡ old_names → TellsUnread r old_names new_names
memory_unread old_names new_names (Ok x) h same = same
memory_unread old_names new_names (Err (refusals.TooLong file seen)) h same = absurd h
memory_unread old_names new_names (Err (refusals.ReadFault file)) h same = absurd h
memory_unread old_names new_names (Err (refusals.Stop stop)) h same = same

-- the status where there is no answer is none of one
pub refused_not_done : {L M : Type 0} (status : Status) (refusal : Refusal) → ((status ≡ status_of refusal) × L) ⊎ ((status ≡ statuses.Memory) × M) → status ≡ statuses.Done → ⊥
refused_not_done status refusal (inl h) e = no_answer refusal (inl (sym h.0 ∙ e))
refused_not_done status refusal (inr h) e = let memory = h.0 in cc

-- the answer of the checks
pub accepted_answer : {X : Type 0} (bytes : X → List ℕ) (held : Held) (design text : List ℕ) (r : Result X Refusal) → HoldsWithin held DESIGN_BYTES design text → IsAcceptedText text
    → IfOk r (λ x. bytes x ≡ codes "accepted\n") → IfOk r (λ x. IsAnswer held (check design) (bytes x))
accepted_answer bytes held design text (Ok x) reads accepted h = record { bytes = text; reads = reads; is = inl (accepted, ap (λ b. Ok b) h) }
accepted_answer bytes held design text (Err refusal) reads accepted h = tt

-- why the checks have none
pub refused_check : (held : Held) (design text : List ℕ) (stop : Stop) → HoldsWithin held DESIGN_BYTES design text → IsTextRefusal text stop → StopsCommand (check design) held stop
refused_check held design text stop reads (inl memory) = inl memory
refused_check held design text stop reads (inr h) = inr (record { bytes = text; reads = reads; is = inr (h.0, h.1, ap (λ s. Err s) h.2) })

-- what a sink received of a line
pub received : {E P Q R : Type 0} (r : Result (Unit {0}) E) → OnOk r P → OnErr r Q → OnErr r R → P ⊎ (Q × R)
received (Ok x) p q r = inl p
received (Err e) p q r = inr (q, r)

-- an answer that was not taken whole
pub part_taken : {D E R L : Type 0} (P G : List ℕ → Type 0) (status : Status) (text : List ℕ) → ((status ≡ statuses.Done) × D × E) ⊎ ((status ≡ statuses.WriteFault) × R × G text × L) → P text
    → status ≡ statuses.WriteFault → (t : List ℕ) × P t × G t
part_taken P G status text (inl h) p e = absurd (let done = h.0 in cc)
part_taken P G status text (inr h) p e = (text, p, h.2)
