-- Where files are told, one that is over its limit or is not there is told.
use Rattle.std.proofs.Common.{◌≡◌, ◌⊎◌, inl, inr, ℕ, List, ◌∷◌, [], ◌++◌, Option, Some, None, IsSomeAnd, length, Ok, Err, codes, refl, ap, ap₂, sym, ◌∙◌, subst}
use Rattle.cx_outside.specs.Counts.{HasRisen}
use Rattle.cx_commands.specs.Commands.{Asked, Wanted, wanted_by}
use Rattle.cx_commands.specs.Messages.{line_of, number, part}
use Rattle.cx_commands.specs.Reads.{FirstOf, here, later, IsOver, IsUnread}
use Rattle.cx_commands.specs.Statuses.{ReceivesLine, status_of}
use Rattle.cx_commands.specs.declared.refusals.Refusal.{Refusal}
use Rattle.cx_commands.specs.declared.refusals.Refusal.TheVariants as refusals
use Rattle.cx_commands.specs.declared.refusals.Status.{Status}
use Rattle.cx_commands.specs.declared.refusals.Status.TheVariants as statuses
use Rattle.cx_driver.specs.Causes.{HasCause, IsMissing, IsTold, IsTrueOfFile}
use Rattle.cx_driver.specs.Outcomes.{IsAnswer}
use Rattle.cx_driver.proofs.CompleteLemmas.{does_read}
use Rattle.cx_driver.proofs.ReadLemmas.{Held, none_over, none_unread, over_not, unread_not}

module _ (holds : List ℕ → Option (List ℕ)) where
  -- two that are over their limits are one, with as many bytes
  one_length : (f g : List ℕ) (s t : ℕ) (w : Wanted) → IsOver (Some holds) f s w → IsOver (Some holds) g t w → s ≡ t
  one_length f g s t w h k =
      let named : f ≡ g = h.is ∙ sym k.is in
      let first = h.count.1 in
      let second = k.count.1 in
      let same : h.count.0 ≡ k.count.0 = cc in
      sym h.count.2 ∙ ap (λ b. length b) same ∙ k.count.2

  one_over : (f g : List ℕ) (s t : ℕ) (ws : List Wanted) → FirstOf (Some holds) (IsOver (Some holds) f s) ws → FirstOf (Some holds) (IsOver (Some holds) g t) ws → (f ≡ g) × (s ≡ t)
  one_over f g s t [] h k = elim h [ ]
  one_over f g s t (w ∷ ws) (here h) (here k) = (h.is ∙ sym k.is, one_length f g s t w h k)
  one_over f g s t (w ∷ ws) (here h) (later bytes read k) = absurd (over_not holds f s w bytes read h)
  one_over f g s t (w ∷ ws) (later bytes read h) (here k) = absurd (over_not holds g t w bytes read k)
  one_over f g s t (w ∷ ws) (later bytes read h) (later more again k) = one_over f g s t ws h k

  unread : (before after : ℕ) (file : List ℕ) (w : Wanted) → IsMissing holds file w → IsUnread (Some holds) before after file w
  unread before after file w h = record { is = h.0; fault = inr h.1 }

  module _ (before after : ℕ) (never : HasRisen before after → ⊥) where
    -- none is over its limit and was not read
    over_unread : (f g : List ℕ) (s : ℕ) (ws : List Wanted) → FirstOf (Some holds) (IsOver (Some holds) f s) ws → FirstOf (Some holds) (IsUnread (Some holds) before after g) ws → ⊥
    over_unread f g s [] h k = elim h [ ]
    over_unread f g s (w ∷ ws) (here h) (here k) =
        elim k.fault [ inl risen ↦ never risen | inr absent ↦ (let own = h.count.1 in let named : f ≡ g = h.is ∙ sym k.is in let none = absent in cc) ]
    over_unread f g s (w ∷ ws) (here h) (later bytes read k) = over_not holds f s w bytes read h
    over_unread f g s (w ∷ ws) (later bytes read h) (here k) = unread_not holds before after g w bytes never read k
    over_unread f g s (w ∷ ws) (later bytes read h) (later more again k) = over_unread f g s ws h k

    one_unread : (f g : List ℕ) (ws : List Wanted) → FirstOf (Some holds) (IsMissing holds f) ws → FirstOf (Some holds) (IsUnread (Some holds) before after g) ws → f ≡ g
    one_unread f g [] h k = elim h [ ]
    one_unread f g (w ∷ ws) (here h) (here k) = h.0 ∙ sym k.is
    one_unread f g (w ∷ ws) (here h) (later bytes read k) = absurd (unread_not holds before after f w bytes never read (unread before after f w h))
    one_unread f g (w ∷ ws) (later bytes read h) (here k) = absurd (unread_not holds before after g w bytes never read k)
    one_unread f g (w ∷ ws) (later bytes read h) (later more again k) = one_unread f g ws h k

    missing_unread : (f : List ℕ) (ws : List Wanted) → FirstOf (Some holds) (IsMissing holds f) ws → FirstOf (Some holds) (IsUnread (Some holds) before after f) ws
    missing_unread f [] h = elim h [ ]
    missing_unread f (w ∷ ws) (here h) = here (unread before after f w h)
    missing_unread f (w ∷ ws) (later bytes read h) = later bytes read (missing_unread f ws h)

    -- what is told is this, or that memory is wanting
    file_alone : (command : Asked) (why refusal : Refusal) → IsTrueOfFile command holds why → HasCause command (Some holds) before after refusal
        → ((status_of refusal ≡ status_of why) × (line_of refusal ≡ line_of why)) ⊎ (status_of refusal ≡ statuses.Memory)
    file_alone command (refusals.TooLong file seen) (refusals.TooLong other count) h cause =
        let same = one_over other.now file.now count seen (wanted_by command) cause h in
        inl (refl, ap₂ (λ f s. (codes "too-long" ++ part f ++ number s) ++ 10 ∷ []) same.0 same.1)
    file_alone command (refusals.TooLong file seen) (refusals.ReadFault other) h cause = absurd (over_unread file.now other.now seen (wanted_by command) h cause)
    file_alone command (refusals.TooLong file seen) (refusals.Stop stop) h (inl memory) = inr (ap (λ s. status_of (refusals.Stop s)) memory)
    file_alone command (refusals.TooLong file seen) (refusals.Stop stop) h (inr does) = absurd (none_over holds file.now seen (wanted_by command) (does_read holds command (Err stop) does) h)
    file_alone command (refusals.ReadFault file) (refusals.TooLong other count) h cause = absurd (over_unread other.now file.now count (wanted_by command) cause (missing_unread file.now (wanted_by command) h))
    file_alone command (refusals.ReadFault file) (refusals.ReadFault other) h cause = inl (refl, ap (λ f. (codes "read-fault" ++ part f) ++ 10 ∷ []) (sym (one_unread file.now other.now (wanted_by command) h cause)))
    file_alone command (refusals.ReadFault file) (refusals.Stop stop) h (inl memory) = inr (ap (λ s. status_of (refusals.Stop s)) memory)
    file_alone command (refusals.ReadFault file) (refusals.Stop stop) h (inr does) =
        absurd (none_unread holds before after file.now (wanted_by command) never (does_read holds command (Err stop) does) (missing_unread file.now (wanted_by command) h))
    file_alone command (refusals.Stop other) refusal h cause = absurd h

    -- nothing is answered
    no_answer : (command : Asked) (why : Refusal) (answer : List ℕ) → IsTrueOfFile command holds why → IsAnswer (Some holds) command answer → ⊥
    no_answer command (refusals.TooLong file seen) answer h is = none_over holds file.now seen (wanted_by command) (does_read holds command (Ok answer) is) h
    no_answer command (refusals.ReadFault file) answer h is =
        none_unread holds before after file.now (wanted_by command) never (does_read holds command (Ok answer) is) (missing_unread file.now (wanted_by command) h)
    no_answer command (refusals.Stop stop) answer h is = h

pub file_answered : {G : Type 0} (held : Held) (command : Asked) (before after : ℕ) (answer : List ℕ) (why : Refusal) → IsAnswer held command answer → IsSomeAnd held (λ holds. IsTrueOfFile command holds why)
    → (HasRisen before after → ⊥) → G
file_answered None command before after answer why is so never = absurd so
file_answered (Some holds) command before after answer why is so never = absurd (no_answer holds before after never command why answer so is)

pub file_refused : {M : Type 0} (held : Held) (command : Asked) (before after : ℕ) (why : Refusal) (status : Status) (err_old : Option (List ℕ)) (err_before : ℕ) (err_new : Option (List ℕ)) (err_after : ℕ) (refusal : Refusal)
    → ((status ≡ status_of refusal) × ReceivesLine err_old err_before (line_of refusal) err_new err_after) ⊎ ((status ≡ statuses.Memory) × M)
    → HasCause command held before after refusal → IsSomeAnd held (λ holds. IsTrueOfFile command holds why) → (HasRisen before after → ⊥) → IsTold why status err_old err_before err_new err_after
file_refused None command before after why status err_old err_before err_new err_after refusal told cause so never = absurd so
file_refused (Some holds) command before after why status err_old err_before err_new err_after refusal (inr h) cause so never = inr h.0
file_refused (Some holds) command before after why status err_old err_before err_new err_after refusal (inl h) cause so never = by (file_alone holds before after never command why refusal so cause) where
  by : ((status_of refusal ≡ status_of why) × (line_of refusal ≡ line_of why)) ⊎ (status_of refusal ≡ statuses.Memory) → IsTold why status err_old err_before err_new err_after
  by (inl same) = inl (h.0 ∙ same.0, subst (λ line. ReceivesLine err_old err_before line err_new err_after) same.1 h.1)
  by (inr memory) = inr (h.0 ∙ memory)

-- the command of the words is the one that was asked for
pub file_asked : (held : Held) (command own : Asked) (why : Refusal) → command ≡ own → IsSomeAnd held (λ holds. IsTrueOfFile command holds why) → IsSomeAnd held (λ holds. IsTrueOfFile own holds why)
file_asked held command own why same so = subst (λ c. IsSomeAnd held (λ holds. IsTrueOfFile c holds why)) same so
