-- Turns of one leaf: those of the run, but only cells that the leaf drives make an edge.
use Rattle.std.specs.Prelude.{ℕ, Bool, false, ◌||◌, ◌&&◌, List, [], ◌∷◌, Option}
use Rattle.cx_meaning.specs.declared.ports.PortRef.{PortRef}
use Rattle.cx_meaning.specs.declared.ports.PortRef.TheVariants as ports
use Rattle.cx_meaning.specs.declared.ports.PlacedPort.{PlacedPort}
use Rattle.cx_meaning.specs.Designs.{PlainComponent, PlainForm, Placed, no_place}
use Rattle.cx_meaning.specs.Truths.{truth_of}
use Rattle.cx_meaning.specs.Instances.{Instance, part_of, State, Set, merge, idle}
use Rattle.cx_meaning.specs.Active.{nothing, group, capture, entries, same_port}
use Rattle.cx_meaning.specs.Sights.{Look, Held, seen}
use Rattle.cx_meaning.specs.Cycles.{Fault, cycle_of}
use Rattle.cx_meaning.specs.Answers.{Turn}
use Rattle.cx_meaning.specs.Control.{with_comb, form_drives, group_drives, groups_drive}
use Rattle.cx_meaning.specs.Islands.{Occurrence, History, and_now, form_flat, looked_at, first_unclear, active_in, unless_unclear, turn_of}
use Rattle.cx_meaning.specs.Calls.{hole_turn}
use Rattle.cx_rules.specs.Items.{tests_of}

-- the cells that a test drives, by its comb group, and those that an island drives
abbrev pub test_drives : PlainComponent → Option ℕ → Set
test_drives part comb = groups_drive part (with_comb comb [])

-- AN IDLE TURN of the driven cells
abbrev pub rested : Instance → Set → State → State
rested i driven s = merge driven (idle i s) s

-- A TURN OF A GROUP
abbrev pub own_turn : Instance → Held → ℕ → State → Turn State Fault
own_turn i held g s =
    hole_turn g (cycle_of i held (group g) (group_drives (part_of i) g) s)
    (truth_of (seen i held (group g) s (ports.Done g)))

-- THE CAPTURE CYCLE of a call
abbrev pub own_capture : Instance → Held → ℕ → ℕ → State → Turn State Fault
own_capture i held g c s = turn_of (cycle_of i held (capture g c) (group_drives (part_of i) g) s)

-- SAMPLES, those of cycle t included: of the ports that static ifs of the island test
abbrev pub is_among : List PlacedPort → PortRef → Bool
is_among [] port = false
is_among (p ∷ rest) port = same_port p.port port || is_among rest port

abbrev pub is_tested : PlainForm → PortRef → Bool
is_tested form port = is_among (tests_of (Placed form no_place)) port

abbrev pub sampled_now : (PortRef → Bool) → History → ℕ → Look → History
sampled_now tested h t look port at = tested port && and_now h t look port at

abbrev pub samples_now : Instance → Held → PlainForm → History → ℕ → State → History
samples_now i held form h t s = sampled_now (is_tested form) h t (seen i held nothing s)

-- CYCLE t OF AN ISLAND; h knows the samples, those of this cycle included
abbrev pub own_cycle : Instance → Held → Set → List Occurrence → ℕ → History → State → Turn State Fault
own_cycle i held driven list t h s =
    unless_unclear (first_unclear (seen i held nothing s) (looked_at h t list))
    (cycle_of i held (entries (active_in h t list)) driven s)

abbrev pub own_island : Instance → Held → PlainForm → ℕ → History → State → Turn State Fault
own_island i held form t h s = own_cycle i held (form_drives (part_of i) form) (form_flat (part_of i) form 0 []) t h s
