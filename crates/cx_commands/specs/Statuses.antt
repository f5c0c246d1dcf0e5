-- The status of a refusal, the line of a status, and what standard error receives of a line.
use Rattle.std.specs.Prelude.{◌≡◌, ◌⊎◌, ℕ, List, Option, Some, None, codes}
use Rattle.cx_outside.specs.Counts.{HasRisen}
use Rattle.cx_outside.specs.Writing.{grown, GrowsByPart}
use Rattle.cx_commands.specs.declared.refusals.Refusal.{Refusal}
use Rattle.cx_commands.specs.declared.refusals.Refusal.TheVariants as refusals
use Rattle.cx_commands.specs.declared.refusals.Status.{Status}
use Rattle.cx_commands.specs.declared.refusals.Status.TheVariants as statuses
use Rattle.cx_commands.specs.declared.stops.Stop.TheVariants as stops

-- the status of a refusal
abbrev pub status_of : Refusal → Status
status_of (refusals.TooLong file seen) = statuses.Refused
status_of (refusals.ReadFault file) = statuses.ReadFault
status_of (refusals.Stop (stops.Rule diagnostic)) = statuses.Refused
status_of (refusals.Stop (stops.Verilog refused)) = statuses.Refused
status_of (refusals.Stop (stops.Json fault)) = statuses.Refused
status_of (refusals.Stop (stops.More budget)) = statuses.More
status_of (refusals.Stop (stops.Fault kind path turn)) = statuses.Fault
status_of (refusals.Stop (stops.Loop path)) = statuses.Fault
status_of (refusals.Stop stops.Memory) = statuses.Memory

-- the status says that a file or the budget does not serve, or that the run has a fault
abbrev pub IsRefusing : Status → Type 0
IsRefusing status =
    (status ≡ statuses.Refused) ⊎ (status ≡ statuses.More) ⊎ (status ≡ statuses.Fault)
    ⊎ (status ≡ statuses.ReadFault)

-- the line was written, as far as it was taken: where it was not taken whole, the count of faults rose or stands at its last value
abbrev pub ReceivesLine : Option (List ℕ) → ℕ → List ℕ → Option (List ℕ) → ℕ → Type 0
ReceivesLine old before line new after = (new ≡ grown old line) ⊎ (HasRisen before after × GrowsByPart old line new)

-- the line of a status that has but one
abbrev pub fixed_line : Status → Option (List ℕ)
fixed_line statuses.Done = None
fixed_line statuses.Words = Some (codes "words\n")
fixed_line statuses.Refused = None
fixed_line statuses.More = None
fixed_line statuses.Fault = None
fixed_line statuses.ReadFault = None
fixed_line statuses.WriteFault = Some (codes "write-fault\n")
fixed_line statuses.Memory = Some (codes "memory\n")
