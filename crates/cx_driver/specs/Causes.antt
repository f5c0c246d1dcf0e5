-- Why a command has no answer.
use Rattle.std.specs.Prelude.{◌≡◌, ◌⊎◌, ℕ, List, [], ◌∷◌, ◌++◌, Option, Some, Result, MatchResult}
use Rattle.cx_outside.specs.Reading.{IsAbsent}
use Rattle.cx_commands.specs.Messages.{line_of}
use Rattle.cx_commands.specs.Commands.{Asked, Wanted, wanted_by}
use Rattle.cx_commands.specs.Reads.{FirstOf, IsOver, IsUnread, IsTooLong, IsUnreadFile}
use Rattle.cx_driver.specs.Outcomes.{StopsCommand}
use Rattle.cx_commands.specs.Statuses.{ReceivesLine, status_of}
use Rattle.cx_commands.specs.declared.refusals.Refusal.{Refusal}
use Rattle.cx_commands.specs.declared.refusals.Refusal.TheVariants as refusals
use Rattle.cx_commands.specs.declared.refusals.Status.{Status}
use Rattle.cx_commands.specs.declared.refusals.Status.TheVariants as statuses
use Rattle.cx_commands.specs.declared.stops.Stop.TheVariants as stops

-- what is told of a file that was not read within its limit
abbrev pub IsOfFile : Option (List ℕ → Option (List ℕ)) → ℕ → ℕ → Wanted → Refusal → Type 0
IsOfFile held before after w (refusals.TooLong file seen) = IsOver held file.now seen w
IsOfFile held before after w (refusals.ReadFault file) = IsUnread held before after file.now w
IsOfFile held before after w (refusals.Stop stop) = stop ≡ stops.Memory

-- want of memory
abbrev pub IsMemory : Refusal → Type 0
IsMemory (refusals.TooLong file seen) = ⊥
IsMemory (refusals.ReadFault file) = ⊥
IsMemory (refusals.Stop stop) = stop ≡ stops.Memory

-- what is told is true of the files of a command, whose count of faults was `before` and is `after`
abbrev pub HasCause : Asked → Option (List ℕ → Option (List ℕ)) → ℕ → ℕ → Refusal → Type 0
HasCause command held before after (refusals.TooLong file seen) = IsTooLong held command file.now seen
HasCause command held before after (refusals.ReadFault file) = IsUnreadFile held command before after file.now
HasCause command held before after (refusals.Stop stop) = StopsCommand command held stop

-- the names of the reads that failed, after this refusal: a file that was not read is the last of them
abbrev pub unread_by : Refusal → List (List ℕ) → List (List ℕ)
unread_by (refusals.TooLong file seen) names = names
unread_by (refusals.ReadFault file) names = names ++ file.now ∷ []
unread_by (refusals.Stop stop) names = names

-- no read failed but that of the file that is told
abbrev pub TellsUnread : {X : Type 0} → Result X Refusal → List (List ℕ) → List (List ℕ) → Type 0
TellsUnread r old_names new_names =
    MatchResult r (λ _. new_names ≡ old_names) (λ why. new_names ≡ unread_by why old_names)

-- what a command tells where it has no answer: a refusal of this status that is true of its files, with its line; and
-- no read failed but that of the file that is told
pub record ToldWhy (command : Asked) (held : Option (List ℕ → Option (List ℕ))) (before after : ℕ)
    (old_names new_names : List (List ℕ)) (status : Status) (err_old : Option (List ℕ)) (err_before : ℕ)
    (err_new : Option (List ℕ)) (err_after : ℕ) : Type 0 where
  pub refusal : Refusal
  pub tells : status ≡ status_of refusal
  pub is_true : HasCause command held before after refusal
  pub unread : new_names ≡ unread_by refusal old_names
  pub line : ReceivesLine err_old err_before (line_of refusal) err_new err_after

-- of files that are told: a file of the command is not there
abbrev pub IsMissing : (List ℕ → Option (List ℕ)) → List ℕ → Wanted → Type 0
IsMissing holds file w = (file ≡ w.file) × IsAbsent (Some holds) file

-- this is so of files that are told: one is over its limit, or is not there, and each before it is within its limit
abbrev pub IsTrueOfFile : Asked → (List ℕ → Option (List ℕ)) → Refusal → Type 0
IsTrueOfFile command holds (refusals.TooLong file seen) = IsTooLong (Some holds) command file.now seen
IsTrueOfFile command holds (refusals.ReadFault file) =
    FirstOf (Some holds) (IsMissing holds file.now) (wanted_by command)
IsTrueOfFile command holds (refusals.Stop stop) = ⊥

-- this is told, with its status and its line; or memory is wanting
abbrev pub IsTold : Refusal → Status → Option (List ℕ) → ℕ → Option (List ℕ) → ℕ → Type 0
IsTold why status err_old before err_new after =
    ((status ≡ status_of why) × ReceivesLine err_old before (line_of why) err_new after)
    ⊎ (status ≡ statuses.Memory)
