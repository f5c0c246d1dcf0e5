-- Files that give an answer stop no command, and what stops one has one status.
use Rattle.std.proofs.Common.{◌≡◌, ◌⊎◌, inl, inr, ⊎_elim, ℕ, List, Option, Some, None, Ok, Err, codes, sym, ap, ◌∙◌, subst}
use Rattle.cx_outside.specs.Counts.{HasRisen}
use Rattle.cx_text.specs.declared.diagnostics.Diagnostic.{Diagnostic}
use Rattle.cx_text.specs.declared.limits.TheConstants.{DESIGN_BYTES, DATA_BYTES, VERILOG_BYTES}
use Rattle.cx_commands.specs.Commands.{Asked, compile, interp, check, sim, trial, share, promote, instrument, profile, weave, wanted_by}
use Rattle.cx_compiler.specs.Compiled.{IsCompilable, Compiles}
use Rattle.cx_compiler.specs.Texts.{IsAcceptedText, TextBreak}
use Rattle.cx_compiler.specs.Interpreted.{Interprets}
use Rattle.cx_compiler.specs.Simulated.{Simulates}
use Rattle.cx_compiler.proofs.Once.{Told, not_both, same_stop}
use Rattle.cx_trial.specs.TrialTree.{trial_tree}
use Rattle.cx_commands.specs.Lists.{numbers_in}
use Rattle.cx_commands.specs.Reads.{OfFile}
use Rattle.cx_compiler.proofs.TextLemmas.{accepted_once}
use Rattle.cx_compiler.proofs.CompileLemmas.{compilable_once, compiles_once}
use Rattle.cx_driver.specs.Outcomes.{Checks, Does, IsAnswer, CanAnswer, IsStopped, OfTold}
use Rattle.cx_commands.specs.Statuses.{status_of}
use Rattle.cx_commands.specs.declared.refusals.Refusal.{Refusal}
use Rattle.cx_commands.specs.declared.refusals.Refusal.TheVariants as refusals
use Rattle.cx_commands.specs.declared.refusals.Status.{Status}
use Rattle.cx_commands.specs.declared.refusals.Status.TheVariants as statuses
use Rattle.cx_commands.specs.declared.stops.Stop.{Stop}
use Rattle.cx_commands.specs.declared.stops.Stop.TheVariants as stops
use Rattle.cx_driver.specs.Tried.{Tries}
use Rattle.cx_driver.specs.Instrumenting.{Instruments, IsInstrumentable}
use Rattle.cx_driver.specs.Profiling.{Profiles}
use Rattle.cx_driver.specs.Promoting.{Promotes, PromotesTree}
use Rattle.cx_driver.specs.Sharing.{IsSharedTree, Shares}
use Rattle.cx_driver.specs.Weaving.{Weaves}
use Rattle.cx_driver.specs.Causes.{HasCause}
use Rattle.cx_driver.proofs.InstrumentLemmas.{instrumentable_once, instruments_once, instruments_status}
use Rattle.cx_driver.proofs.InterpLemmas.{one_result}
use Rattle.cx_driver.proofs.ProfileLemmas.{one_profile}
use Rattle.cx_driver.proofs.TrialLemmas.{one_line, tries_once}
use Rattle.cx_driver.proofs.WovenLemmas.{one_woven}
use Rattle.cx_driver.proofs.RewritingLemmas.{accepted_rewrites, rewrites_once, rewrites_status}
use Rattle.cx_driver.proofs.SimLemmas.{no_stop, spelled_once}
use Rattle.cx_driver.proofs.ReadLemmas.{Held, Readable, same_bytes, none_over, none_unread}

checks_once : (text answer : List ℕ) (stop : Stop) → Checks text (Ok answer) → Checks text (Err stop) → ⊥
checks_once text answer stop (inl h) (inl k) = not_both (codes "accepted\n") stop (sym k.1)
checks_once text answer stop (inl h) (inr k) = accepted_once text k.0 h.0 k.1
checks_once text answer stop (inr h) k = not_both answer (stops.Rule h.0) h.2

-- the rule that is told of a text
pub checks_told : (text : List ℕ) (stop : Stop) → Checks text (Err stop) → (told : Diagnostic) × (stop ≡ stops.Rule told) × TextBreak text told
checks_told text stop (inl h) = absurd (not_both (codes "accepted\n") stop (sym h.1))
checks_told text stop (inr h) = (h.0, same_stop stop (stops.Rule h.0) h.2, h.1)

-- the status of what stops a command
abbrev stop_status : Stop → Status
stop_status stop = status_of (refusals.Stop stop)

checks_status : (text other : List ℕ) (a b : Stop) → Checks text (Err a) → Checks other (Err b) → stop_status a ≡ stop_status b
checks_status text other a b h k =
    let first = checks_told text a h in
    let second = checks_told other b k in
    ap stop_status first.1 ∙ sym (ap stop_status second.1)

simulated_status : (text json : List ℕ) (budget : ℕ) (a b : Stop) → Simulates text json budget (Err a) → Simulates text json budget (Err b) → stop_status a ≡ stop_status b
simulated_status text json budget a b (inl h) k = ap stop_status (same_stop a b (spelled_once text json budget (Err a) (Err b) h k))
simulated_status text json budget a b (inr h) (inl k) = ap stop_status (same_stop a b (sym (spelled_once text json budget (Err b) (Err a) k (inr h))))
simulated_status text json budget a b (inr h) (inr k) = ap stop_status (same_stop a (stops.Verilog h.0) h.2) ∙ sym (ap stop_status (same_stop b (stops.Verilog k.0) k.2))

tried_status : (seed : ℕ) (a b : Stop) → Tries seed (Err a) → Tries seed (Err b) → stop_status a ≡ stop_status b
tried_status seed a b (inl h) k = ap stop_status (same_stop a b (one_line seed (trial_tree seed) (Err a) (Err b) h k))
tried_status seed a b (inr h) (inl k) = ap stop_status (same_stop a b (sym (one_line seed (trial_tree seed) (Err b) (Err a) k (inr h))))
tried_status seed a b (inr h) (inr k) = ap stop_status (same_stop a (stops.Rule h.0) h.2) ∙ sym (ap stop_status (same_stop b (stops.Rule k.0) k.2))

module _ (holds : List ℕ → Option (List ℕ)) where
  -- where a command does something with its files they are within their limits
  pub does_read : (command : Asked) (result : Told) → Does (Some holds) command result → Readable holds (wanted_by command)
  does_read (compile design) result h = ((h.bytes, h.reads), tt)
  does_read (interp design json budget) result h = ((h.bytes, h.reads), ((h.is.bytes, h.is.reads), tt))
  does_read (check design) result h = ((h.bytes, h.reads), tt)
  does_read (sim verilog json budget) result h = ((h.bytes, h.reads), ((h.is.bytes, h.is.reads), tt))
  does_read (trial seed) result h = tt
  does_read (share design) result h = ((h.bytes, h.reads), tt)
  does_read (promote design) result h = ((h.bytes, h.reads), tt)
  does_read (instrument design) result h = ((h.bytes, h.reads), tt)
  does_read (profile design json budget) result h = ((h.bytes, h.reads), ((h.is.bytes, h.is.reads), tt))
  does_read (weave design json steps list) result h = ((h.bytes, h.reads), ((h.is.bytes, h.is.reads), tt))

  can_read : (command : Asked) → CanAnswer (Some holds) command → Readable holds (wanted_by command)
  can_read (compile design) can = ((can.bytes, can.reads), tt)
  can_read (interp design json budget) can = does_read (interp design json budget) (Ok can.0) can.1
  can_read (check design) can = does_read (check design) (Ok can.0) can.1
  can_read (sim verilog json budget) can = does_read (sim verilog json budget) (Ok can.0) can.1
  can_read (trial seed) can = does_read (trial seed) (Ok can.0) can.1
  can_read (share design) can = ((can.bytes, can.reads), tt)
  can_read (promote design) can = ((can.bytes, can.reads), tt)
  can_read (instrument design) can = ((can.bytes, can.reads), tt)
  can_read (profile design json budget) can = does_read (profile design json budget) (Ok can.0) can.1
  can_read (weave design json steps list) can = does_read (weave design json steps list) (Ok can.0) can.1

  -- of one file
  of_one : (P Q : List ℕ → Type 0) (m : ℕ) (file : List ℕ) → ((text : List ℕ) → P text → Q text → ⊥) → OfFile (Some holds) m file P → OfFile (Some holds) m file Q → ⊥
  of_one P Q m file never h k = never k.bytes (subst P (same_bytes holds m m file h.bytes k.bytes h.reads k.reads) h.is) k.is

  -- what a command does is one thing
  does_once : (command : Asked) (answer : List ℕ) (stop : Stop) → Does (Some holds) command (Ok answer) → Does (Some holds) command (Err stop) → ⊥
  does_once (compile design) answer stop h k = of_one (λ text. Compiles text (Ok answer)) (λ text. Compiles text (Err stop)) DESIGN_BYTES design (λ text. compiles_once text answer stop) h k
  does_once (interp design json budget) answer stop h k =
      of_one (λ text. OfFile (Some holds) DATA_BYTES json (λ bytes. Interprets text bytes budget (Ok answer))) (λ text. OfFile (Some holds) DATA_BYTES json (λ bytes. Interprets text bytes budget (Err stop)))
      DESIGN_BYTES design
      (λ text. of_one (λ bytes. Interprets text bytes budget (Ok answer)) (λ bytes. Interprets text bytes budget (Err stop)) DATA_BYTES json
      (λ bytes p q. not_both answer stop (one_result text bytes budget (Ok answer) (Err stop) p q))) h k
  does_once (check design) answer stop h k = of_one (λ text. Checks text (Ok answer)) (λ text. Checks text (Err stop)) DESIGN_BYTES design (λ text. checks_once text answer stop) h k
  does_once (sim verilog json budget) answer stop h k =
      of_one (λ text. OfFile (Some holds) DATA_BYTES json (λ bytes. Simulates text bytes budget (Ok answer))) (λ text. OfFile (Some holds) DATA_BYTES json (λ bytes. Simulates text bytes budget (Err stop)))
      VERILOG_BYTES verilog
      (λ text. of_one (λ bytes. Simulates text bytes budget (Ok answer)) (λ bytes. Simulates text bytes budget (Err stop)) DATA_BYTES json
      (λ bytes p q. no_stop text bytes budget answer stop p q)) h k
  does_once (trial seed) answer stop h k = tries_once seed answer stop h k
  does_once (share design) answer stop h k = of_one (λ text. Shares text (Ok answer)) (λ text. Shares text (Err stop)) DESIGN_BYTES design (λ text. rewrites_once IsSharedTree text answer stop) h k
  does_once (promote design) answer stop h k = of_one (λ text. Promotes text (Ok answer)) (λ text. Promotes text (Err stop)) DESIGN_BYTES design (λ text. rewrites_once PromotesTree text answer stop) h k
  does_once (instrument design) answer stop h k = of_one (λ text. Instruments text (Ok answer)) (λ text. Instruments text (Err stop)) DESIGN_BYTES design (λ text. instruments_once text answer stop) h k
  does_once (profile design json budget) answer stop h k =
      of_one (λ text. OfFile (Some holds) DATA_BYTES json (λ bytes. Profiles text bytes budget (Ok answer))) (λ text. OfFile (Some holds) DATA_BYTES json (λ bytes. Profiles text bytes budget (Err stop)))
      DESIGN_BYTES design
      (λ text. of_one (λ bytes. Profiles text bytes budget (Ok answer)) (λ bytes. Profiles text bytes budget (Err stop)) DATA_BYTES json
      (λ bytes p q. not_both answer stop (one_profile text bytes budget (Ok answer) (Err stop) p q))) h k
  does_once (weave design json steps list) answer stop h k =
      of_one (λ text. OfFile (Some holds) DATA_BYTES json (λ bytes. Weaves text bytes steps (numbers_in list) (Ok answer))) (λ text. OfFile (Some holds) DATA_BYTES json (λ bytes. Weaves text bytes steps (numbers_in list) (Err stop)))
      DESIGN_BYTES design
      (λ text. of_one (λ bytes. Weaves text bytes steps (numbers_in list) (Ok answer)) (λ bytes. Weaves text bytes steps (numbers_in list) (Err stop)) DATA_BYTES json
      (λ bytes p q. not_both answer stop (one_woven text bytes steps (numbers_in list) (Ok answer) (Err stop) p q))) h k

  -- nothing stops a command whose files give an answer
  can_once : (command : Asked) (stop : Stop) → CanAnswer (Some holds) command → IsStopped (Some holds) command stop → ⊥
  can_once (compile design) stop can k = of_one IsCompilable (λ text. Compiles text (Err stop)) DESIGN_BYTES design (λ text. compilable_once text stop) can k
  can_once (interp design json budget) stop can k = does_once (interp design json budget) can.0 stop can.1 k
  can_once (check design) stop can k = does_once (check design) can.0 stop can.1 k
  can_once (sim verilog json budget) stop can k = does_once (sim verilog json budget) can.0 stop can.1 k
  can_once (trial seed) stop can k = does_once (trial seed) can.0 stop can.1 k
  can_once (share design) stop can k = of_one IsAcceptedText (λ text. Shares text (Err stop)) DESIGN_BYTES design (λ text. accepted_rewrites IsSharedTree text stop) can k
  can_once (promote design) stop can k = of_one IsAcceptedText (λ text. Promotes text (Err stop)) DESIGN_BYTES design (λ text. accepted_rewrites PromotesTree text stop) can k
  can_once (instrument design) stop can k = of_one IsInstrumentable (λ text. Instruments text (Err stop)) DESIGN_BYTES design (λ text. instrumentable_once text stop) can k
  can_once (profile design json budget) stop can k = does_once (profile design json budget) can.0 stop can.1 k
  can_once (weave design json steps list) stop can k = does_once (weave design json steps list) can.0 stop can.1 k

  -- nothing but want of memory is told of files that give an answer
  memory_alone : (command : Asked) (before after : ℕ) (refusal : Refusal) → CanAnswer (Some holds) command → (HasRisen before after → ⊥) → HasCause command (Some holds) before after refusal
      → status_of refusal ≡ statuses.Memory
  memory_alone command before after (refusals.TooLong file seen) can never cause = absurd (none_over holds file.now seen (wanted_by command) (can_read command can) cause)
  memory_alone command before after (refusals.ReadFault file) can never cause = absurd (none_unread holds before after file.now (wanted_by command) never (can_read command can) cause)
  memory_alone command before after (refusals.Stop stop) can never (inl memory) = ap (λ s. status_of (refusals.Stop s)) memory
  memory_alone command before after (refusals.Stop stop) can never (inr does) = absurd (can_once command stop can does)

  -- what stops a command has one status
  same_status : (command : Asked) (a b : Stop) → IsStopped (Some holds) command a → IsStopped (Some holds) command b → stop_status a ≡ stop_status b
  same_status (compile design) a b h k = ap stop_status h.is.2 ∙ sym (ap stop_status k.is.2)
  same_status (interp design json budget) a b h k =
      let text = same_bytes holds DESIGN_BYTES DESIGN_BYTES design h.bytes k.bytes h.reads k.reads in
      let loaded = same_bytes holds DATA_BYTES DATA_BYTES json h.is.bytes k.is.bytes h.is.reads k.is.reads in
      let own = subst (λ t. Interprets t h.is.bytes budget (Err a)) text h.is.is in
      ap stop_status (same_stop a b (one_result k.bytes k.is.bytes budget (Err a) (Err b) (subst (λ d. Interprets k.bytes d budget (Err a)) loaded own) k.is.is))
  same_status (check design) a b h k = checks_status h.bytes k.bytes a b h.is k.is
  same_status (sim verilog json budget) a b h k =
      let text = same_bytes holds VERILOG_BYTES VERILOG_BYTES verilog h.bytes k.bytes h.reads k.reads in
      let loaded = same_bytes holds DATA_BYTES DATA_BYTES json h.is.bytes k.is.bytes h.is.reads k.is.reads in
      let own = subst (λ t. Simulates t h.is.bytes budget (Err a)) text h.is.is in
      simulated_status k.bytes k.is.bytes budget a b (subst (λ d. Simulates k.bytes d budget (Err a)) loaded own) k.is.is
  same_status (trial seed) a b h k = tried_status seed a b h k
  same_status (share design) a b h k = rewrites_status IsSharedTree h.bytes k.bytes a b h.is k.is
  same_status (promote design) a b h k = rewrites_status PromotesTree h.bytes k.bytes a b h.is k.is
  same_status (instrument design) a b h k = instruments_status h.bytes k.bytes a b h.is k.is
  same_status (profile design json budget) a b h k =
      let text = same_bytes holds DESIGN_BYTES DESIGN_BYTES design h.bytes k.bytes h.reads k.reads in
      let loaded = same_bytes holds DATA_BYTES DATA_BYTES json h.is.bytes k.is.bytes h.is.reads k.is.reads in
      let own = subst (λ t. Profiles t h.is.bytes budget (Err a)) text h.is.is in
      ap stop_status (same_stop a b (one_profile k.bytes k.is.bytes budget (Err a) (Err b) (subst (λ d. Profiles k.bytes d budget (Err a)) loaded own) k.is.is))
  same_status (weave design json steps list) a b h k =
      let text = same_bytes holds DESIGN_BYTES DESIGN_BYTES design h.bytes k.bytes h.reads k.reads in
      let loaded = same_bytes holds DATA_BYTES DATA_BYTES json h.is.bytes k.is.bytes h.is.reads k.is.reads in
      let own = subst (λ t. Weaves t h.is.bytes steps (numbers_in list) (Err a)) text h.is.is in
      ap stop_status (same_stop a b (one_woven k.bytes k.is.bytes steps (numbers_in list) (Err a) (Err b) (subst (λ d. Weaves k.bytes d steps (numbers_in list) (Err a)) loaded own) k.is.is))

  -- what is told of files that stop a command has the status of what stops it, or memory is wanting
  stop_alone : (command : Asked) (before after : ℕ) (why : Stop) (refusal : Refusal) → IsStopped (Some holds) command why → (HasRisen before after → ⊥) → HasCause command (Some holds) before after refusal
      → (status_of refusal ≡ stop_status why) ⊎ (status_of refusal ≡ statuses.Memory)
  stop_alone command before after why (refusals.TooLong file seen) h never cause = absurd (none_over holds file.now seen (wanted_by command) (does_read command (Err why) h) cause)
  stop_alone command before after why (refusals.ReadFault file) h never cause = absurd (none_unread holds before after file.now (wanted_by command) never (does_read command (Err why) h) cause)
  stop_alone command before after why (refusals.Stop stop) h never (inl memory) = inr (ap stop_status memory)
  stop_alone command before after why (refusals.Stop stop) h never (inr does) = inl (same_status command stop why does h)

-- a trial reads no file, so this holds of it whatever files hold
abbrev pub OfAnyTrial : (Asked → Held → Type 0) → Type 0
OfAnyTrial R = (seed : ℕ) (h k : Held) → R (trial seed) h → R (trial seed) k

pub cause_of_trial : (before after : ℕ) (refusal : Refusal) → OfAnyTrial (λ command held. HasCause command held before after refusal)
cause_of_trial before after (refusals.TooLong file seen) seed h k cause = elim cause [ ]
cause_of_trial before after (refusals.ReadFault file) seed h k cause = elim cause [ ]
cause_of_trial before after (refusals.Stop stop) seed h k cause = cause

-- so both hold of told files
module _ (P R : Asked → Held → Type 0) (p_any : OfAnyTrial P) (r_any : OfAnyTrial R) where
  pub told_some : (command : Asked) (held : Held) → OfTold command held (P command) → R command held → (holds : List ℕ → Option (List ℕ)) × P command (Some holds) × R command (Some holds)
  told_some (trial seed) held so own = (λ file. None, p_any seed held (Some (λ file. None)) so, r_any seed held (Some (λ file. None)) own)
  told_some (compile design) None so own = absurd so
  told_some (compile design) (Some holds) so own = (holds, so, own)
  told_some (interp design json budget) None so own = absurd so
  told_some (interp design json budget) (Some holds) so own = (holds, so, own)
  told_some (check design) None so own = absurd so
  told_some (check design) (Some holds) so own = (holds, so, own)
  told_some (sim verilog json budget) None so own = absurd so
  told_some (sim verilog json budget) (Some holds) so own = (holds, so, own)
  told_some (share design) None so own = absurd so
  told_some (share design) (Some holds) so own = (holds, so, own)
  told_some (promote design) None so own = absurd so
  told_some (promote design) (Some holds) so own = (holds, so, own)
  told_some (instrument design) None so own = absurd so
  told_some (instrument design) (Some holds) so own = (holds, so, own)
  told_some (profile design json budget) None so own = absurd so
  told_some (profile design json budget) (Some holds) so own = (holds, so, own)
  told_some (weave design json steps list) None so own = absurd so
  told_some (weave design json steps list) (Some holds) so own = (holds, so, own)

-- where there is an answer and none is written, memory is wanting
pub complete_refused : {L M : Type 0} (held : Held) (command : Asked) (before after : ℕ) (status : Status) (refusal : Refusal) → ((status ≡ status_of refusal) × L) ⊎ ((status ≡ statuses.Memory) × M)
    → HasCause command held before after refusal → OfTold command held (λ h. CanAnswer h command) → (HasRisen before after → ⊥)
    → (status ≡ statuses.Done) ⊎ (status ≡ statuses.WriteFault) ⊎ (status ≡ statuses.Memory)
complete_refused held command before after status refusal (inl h) cause can never =
    let told = told_some (λ c k. CanAnswer k c) (λ c k. HasCause c k before after refusal) (λ seed p q own. own) (cause_of_trial before after refusal) command held can cause in
    inr (inr (h.0 ∙ memory_alone told.0 command before after refusal told.1 never told.2))
complete_refused held command before after status refusal (inr h) cause can never = inr (inr h.0)

pub complete_delivered : {P Q S G R : Type 0} (status : Status) → ((status ≡ statuses.Done) × P × Q) ⊎ ((status ≡ statuses.WriteFault) × S × G × R)
    → (status ≡ statuses.Done) ⊎ (status ≡ statuses.WriteFault) ⊎ (status ≡ statuses.Memory)
complete_delivered status (inl h) = inl h.0
complete_delivered status (inr h) = inr (inl h.0)

-- where something stops a command, nothing is answered
pub stopped_answered : {G : Type 0} (held : Held) (command : Asked) (answer : List ℕ) (why : Stop) → IsAnswer held command answer → OfTold command held (λ h. IsStopped h command why) → G
stopped_answered held command answer why h stopped =
    let told = told_some (λ c k. IsStopped k c why) (λ c k. IsAnswer k c answer) (λ seed p q own. own) (λ seed p q own. own) command held stopped h in
    absurd (does_once told.0 command answer why told.2 told.1)

-- and the status is that of what stops it, or memory is wanting
pub stopped_refused : {L M : Type 0} (held : Held) (command : Asked) (before after : ℕ) (why : Stop) (status : Status) (refusal : Refusal)
    → ((status ≡ status_of refusal) × L) ⊎ ((status ≡ statuses.Memory) × M) → HasCause command held before after refusal → OfTold command held (λ h. IsStopped h command why)
    → (HasRisen before after → ⊥) → (status ≡ stop_status why) ⊎ (status ≡ statuses.Memory)
stopped_refused held command before after why status refusal (inl h) cause stopped never =
    let told = told_some (λ c k. IsStopped k c why) (λ c k. HasCause c k before after refusal) (λ seed p q own. own) (cause_of_trial before after refusal) command held stopped cause in
    ⊎_elim (λ p. inl (h.0 ∙ p)) (λ q. inr (h.0 ∙ q)) (stop_alone told.0 command before after why refusal told.1 never told.2)
stopped_refused held command before after why status refusal (inr h) cause stopped never = inr h.0

-- the command of the words is the one that was asked for
pub complete_asked : (held : Held) (command own : Asked) → command ≡ own → OfTold command held (λ h. CanAnswer h command) → OfTold own held (λ h. CanAnswer h own)
complete_asked held command own same can = subst (λ c. OfTold c held (λ h. CanAnswer h c)) same can

pub stopped_asked : (held : Held) (command own : Asked) (why : Stop) → command ≡ own → OfTold command held (λ h. IsStopped h command why) → OfTold own held (λ h. IsStopped h own why)
stopped_asked held command own why same stopped = subst (λ c. OfTold c held (λ h. IsStopped h c why)) same stopped
