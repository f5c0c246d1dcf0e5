-- What stops a command is one thing, and is told by its line.
use Rattle.std.proofs.Common.{◌≡◌, ◌⊎◌, inl, inr, ℕ, List, Option, Some, Err, refl, sym, ap, ◌∙◌, subst}
use Rattle.cx_text.specs.declared.diagnostics.Diagnostic.{Diagnostic}
use Rattle.cx_text.specs.declared.limits.TheConstants.{DESIGN_BYTES, DATA_BYTES, VERILOG_BYTES}
use Rattle.cx_outside.specs.Counts.{HasRisen}
use Rattle.cx_commands.specs.Commands.{Asked, compile, interp, check, sim, trial, share, promote, instrument, profile, weave, wanted_by}
use Rattle.cx_commands.specs.Lists.{numbers_in}
use Rattle.cx_commands.specs.Messages.{line_of}
use Rattle.cx_commands.specs.Statuses.{IsRefusing, ReceivesLine, status_of}
use Rattle.cx_commands.specs.declared.refusals.Refusal.{Refusal}
use Rattle.cx_commands.specs.declared.refusals.Refusal.TheVariants as refusals
use Rattle.cx_commands.specs.declared.refusals.Status.{Status}
use Rattle.cx_commands.specs.declared.refusals.Status.TheVariants as statuses
use Rattle.cx_commands.specs.declared.stops.Stop.{Stop}
use Rattle.cx_commands.specs.declared.stops.Stop.TheVariants as stops
use Rattle.cx_compiler.specs.Compiled.{CompileBreak}
use Rattle.cx_compiler.specs.Interpreted.{Interprets}
use Rattle.cx_compiler.specs.Simulated.{Simulates}
use Rattle.cx_compiler.specs.Texts.{TextBreak}
use Rattle.cx_compiler.proofs.CompileLemmas.{one_refusal}
use Rattle.cx_compiler.proofs.Once.{same_stop}
use Rattle.cx_compiler.proofs.OneRefusal.{refusal_once}
use Rattle.cx_compiler.proofs.TextLemmas.{break_once}
use Rattle.cx_trial.specs.TrialTree.{trial_tree}
use Rattle.cx_driver.specs.Causes.{HasCause, ToldWhy, IsTold}
use Rattle.cx_driver.specs.Instrumenting.{InstrumentBreak}
use Rattle.cx_driver.specs.Profiling.{Profiles}
use Rattle.cx_driver.specs.Outcomes.{IsStopped, OfTold}
use Rattle.cx_driver.specs.Promoting.{PromotesTree}
use Rattle.cx_driver.specs.Sharing.{IsSharedTree}
use Rattle.cx_driver.specs.Tried.{Tries}
use Rattle.cx_driver.specs.Weaving.{Weaves}
use Rattle.cx_driver.proofs.CompleteLemmas.{cause_of_trial, checks_told, does_read, told_some}
use Rattle.cx_driver.proofs.InstrumentLemmas.{one_break}
use Rattle.cx_driver.proofs.InterpLemmas.{one_result}
use Rattle.cx_driver.proofs.ProfileLemmas.{one_profile}
use Rattle.cx_driver.proofs.ReadLemmas.{Held, none_over, none_unread, same_bytes}
use Rattle.cx_driver.proofs.RewritingLemmas.{rewrites_told}
use Rattle.cx_driver.proofs.SimLemmas.{spelled_once}
use Rattle.cx_driver.proofs.TrialLemmas.{one_line}
use Rattle.cx_driver.proofs.TrialPlaces.{trial_once}
use Rattle.cx_driver.proofs.WovenLemmas.{one_woven}

-- a rule that a text breaks, and one that the same text breaks
one_rule : (text other : List ℕ) → text ≡ other → (a b : Stop) → (told : Diagnostic) × (a ≡ stops.Rule told) × TextBreak text told → (told : Diagnostic) × (b ≡ stops.Rule told) × TextBreak other told → a ≡ b
one_rule text other same a b x y = x.1 ∙ ap (λ d. stops.Rule d) (break_once other x.0 y.0 (subst (λ t. TextBreak t x.0) same x.2) y.2) ∙ sym y.1

simulated_so : (text json : List ℕ) (budget : ℕ) (a b : Stop) → Simulates text json budget (Err a) → Simulates text json budget (Err b) → a ≡ b
simulated_so text json budget a b (inl h) k = same_stop a b (spelled_once text json budget (Err a) (Err b) h k)
simulated_so text json budget a b (inr h) (inl k) = same_stop a b (sym (spelled_once text json budget (Err b) (Err a) k (inr h)))
simulated_so text json budget a b (inr h) (inr k) = same_stop a b (h.2 ∙ ap (λ r. Err (stops.Verilog r)) (refusal_once text h.0 k.0 h.1 k.1) ∙ sym k.2)

tried_so : (seed : ℕ) (a b : Stop) → Tries seed (Err a) → Tries seed (Err b) → a ≡ b
tried_so seed a b (inl h) k = same_stop a b (one_line seed (trial_tree seed) (Err a) (Err b) h k)
tried_so seed a b (inr h) (inl k) = same_stop a b (sym (one_line seed (trial_tree seed) (Err b) (Err a) k (inr h)))
tried_so seed a b (inr h) (inr k) = same_stop a b (h.2 ∙ ap (λ d. Err (stops.Rule d)) (trial_once seed h.0 k.0 h.1 k.1) ∙ sym k.2)

module _ (holds : List ℕ → Option (List ℕ)) where
  -- WHAT STOPS A COMMAND is one thing
  one_stop : (command : Asked) (a b : Stop) → IsStopped (Some holds) command a → IsStopped (Some holds) command b → a ≡ b
  one_stop (compile design) a b h k =
      let text = same_bytes holds DESIGN_BYTES DESIGN_BYTES design h.bytes k.bytes h.reads k.reads in
      h.is.2 ∙ ap (λ d. stops.Rule d) (one_refusal k.bytes h.is.0 k.is.0 (subst (λ t. CompileBreak t h.is.0) text h.is.1) k.is.1) ∙ sym k.is.2
  one_stop (interp design json budget) a b h k =
      let text = same_bytes holds DESIGN_BYTES DESIGN_BYTES design h.bytes k.bytes h.reads k.reads in
      let loaded = same_bytes holds DATA_BYTES DATA_BYTES json h.is.bytes k.is.bytes h.is.reads k.is.reads in
      let own = subst (λ t. Interprets t h.is.bytes budget (Err a)) text h.is.is in
      same_stop a b (one_result k.bytes k.is.bytes budget (Err a) (Err b) (subst (λ d. Interprets k.bytes d budget (Err a)) loaded own) k.is.is)
  one_stop (check design) a b h k =
      one_rule h.bytes k.bytes (same_bytes holds DESIGN_BYTES DESIGN_BYTES design h.bytes k.bytes h.reads k.reads) a b (checks_told h.bytes a h.is) (checks_told k.bytes b k.is)
  one_stop (sim verilog json budget) a b h k =
      let text = same_bytes holds VERILOG_BYTES VERILOG_BYTES verilog h.bytes k.bytes h.reads k.reads in
      let loaded = same_bytes holds DATA_BYTES DATA_BYTES json h.is.bytes k.is.bytes h.is.reads k.is.reads in
      let own = subst (λ t. Simulates t h.is.bytes budget (Err a)) text h.is.is in
      simulated_so k.bytes k.is.bytes budget a b (subst (λ d. Simulates k.bytes d budget (Err a)) loaded own) k.is.is
  one_stop (trial seed) a b h k = tried_so seed a b h k
  one_stop (share design) a b h k =
      one_rule h.bytes k.bytes (same_bytes holds DESIGN_BYTES DESIGN_BYTES design h.bytes k.bytes h.reads k.reads) a b (rewrites_told IsSharedTree h.bytes a h.is) (rewrites_told IsSharedTree k.bytes b k.is)
  one_stop (promote design) a b h k =
      one_rule h.bytes k.bytes (same_bytes holds DESIGN_BYTES DESIGN_BYTES design h.bytes k.bytes h.reads k.reads) a b (rewrites_told PromotesTree h.bytes a h.is) (rewrites_told PromotesTree k.bytes b k.is)
  one_stop (instrument design) a b h k =
      let text = same_bytes holds DESIGN_BYTES DESIGN_BYTES design h.bytes k.bytes h.reads k.reads in
      h.is.2 ∙ ap (λ d. stops.Rule d) (one_break k.bytes h.is.0 k.is.0 (subst (λ t. InstrumentBreak t h.is.0) text h.is.1) k.is.1) ∙ sym k.is.2
  one_stop (profile design json budget) a b h k =
      let text = same_bytes holds DESIGN_BYTES DESIGN_BYTES design h.bytes k.bytes h.reads k.reads in
      let loaded = same_bytes holds DATA_BYTES DATA_BYTES json h.is.bytes k.is.bytes h.is.reads k.is.reads in
      let own = subst (λ t. Profiles t h.is.bytes budget (Err a)) text h.is.is in
      same_stop a b (one_profile k.bytes k.is.bytes budget (Err a) (Err b) (subst (λ d. Profiles k.bytes d budget (Err a)) loaded own) k.is.is)
  one_stop (weave design json steps list) a b h k =
      let text = same_bytes holds DESIGN_BYTES DESIGN_BYTES design h.bytes k.bytes h.reads k.reads in
      let loaded = same_bytes holds DATA_BYTES DATA_BYTES json h.is.bytes k.is.bytes h.is.reads k.is.reads in
      let own = subst (λ t. Weaves t h.is.bytes steps (numbers_in list) (Err a)) text h.is.is in
      same_stop a b (one_woven k.bytes k.is.bytes steps (numbers_in list) (Err a) (Err b) (subst (λ d. Weaves k.bytes d steps (numbers_in list) (Err a)) loaded own) k.is.is)

  -- so what is told is this, or that memory is wanting
  line_alone : (command : Asked) (before after : ℕ) (why : Stop) (refusal : Refusal) → IsStopped (Some holds) command why → (HasRisen before after → ⊥)
      → HasCause command (Some holds) before after refusal → (line_of refusal ≡ line_of (refusals.Stop why)) ⊎ (status_of refusal ≡ statuses.Memory)
  line_alone command before after why (refusals.TooLong file seen) h never cause = absurd (none_over holds file.now seen (wanted_by command) (does_read holds command (Err why) h) cause)
  line_alone command before after why (refusals.ReadFault file) h never cause = absurd (none_unread holds before after file.now (wanted_by command) never (does_read holds command (Err why) h) cause)
  line_alone command before after why (refusals.Stop stop) h never (inl memory) = inr (ap (λ s. status_of (refusals.Stop s)) memory)
  line_alone command before after why (refusals.Stop stop) h never (inr does) = inl (ap (λ s. line_of (refusals.Stop s)) (sym (one_stop command why stop h does)))

-- the status of a stop refuses, or memory is wanting
stop_refuses : (why : Stop) → IsRefusing (status_of (refusals.Stop why)) ⊎ (status_of (refusals.Stop why) ≡ statuses.Memory)
stop_refuses (stops.Rule told) = inl (inl refl)
stop_refuses (stops.Verilog refused) = inl (inl refl)
stop_refuses (stops.Json fault) = inl (inl refl)
stop_refuses (stops.More budget) = inl (inr (inl refl))
stop_refuses (stops.Fault kind path turn) = inl (inr (inr (inl refl)))
stop_refuses (stops.Loop path) = inl (inr (inr (inl refl)))
stop_refuses stops.Memory = inr refl

-- THE LINE of what stops a command
pub line_told : (held : Held) (command : Asked) (before after : ℕ) (old_names new_names : List (List ℕ)) (why : Stop) (status : Status) (err_old : Option (List ℕ)) (err_before : ℕ) (err_new : Option (List ℕ)) (err_after : ℕ)
    → OfTold command held (λ h. IsStopped h command why) → (HasRisen before after → ⊥) → (status ≡ status_of (refusals.Stop why)) ⊎ (status ≡ statuses.Memory)
    → (IsRefusing status → ToldWhy command held before after old_names new_names status err_old err_before err_new err_after) → IsTold (refusals.Stop why) status err_old err_before err_new err_after
line_told held command before after old_names new_names why status err_old err_before err_new err_after stopped never (inr memory) cause = inr memory
line_told held command before after old_names new_names why status err_old err_before err_new err_after stopped never (inl same) cause = by (stop_refuses why)
  where
    by : IsRefusing (status_of (refusals.Stop why)) ⊎ (status_of (refusals.Stop why) ≡ statuses.Memory) → IsTold (refusals.Stop why) status err_old err_before err_new err_after
    by (inr memory) = inr (same ∙ memory)
    by (inl refusing) =
        let t = cause (subst IsRefusing (sym same) refusing) in
        let told = told_some (λ c k. IsStopped k c why) (λ c k. HasCause c k before after t.refusal) (λ seed p q own. own) (cause_of_trial before after t.refusal) command held stopped t.is_true in
        told_by t (line_alone told.0 command before after why t.refusal told.1 never told.2)
      where
        told_by : (t : ToldWhy command held before after old_names new_names status err_old err_before err_new err_after) → (line_of t.refusal ≡ line_of (refusals.Stop why)) ⊎ (status_of t.refusal ≡ statuses.Memory)
            → IsTold (refusals.Stop why) status err_old err_before err_new err_after
        told_by t (inl e) = inl (same, subst (λ line. ReceivesLine err_old err_before line err_new err_after) e t.line)
        told_by t (inr memory) = inr (t.tells ∙ memory)
