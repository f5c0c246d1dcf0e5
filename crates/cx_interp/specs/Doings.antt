-- What parts of control mean in an instance, with its inputs held.
use Rattle.std.specs.Prelude.{ℕ, Option}
use Rattle.cx_meaning.specs.Designs.{PlainForm, PlainStatement, PlainStatements}
use Rattle.cx_meaning.specs.Instances.{Instance, State, cells_of, part_of, idle}
use Rattle.cx_meaning.specs.Sights.{Held}
use Rattle.cx_meaning.specs.Cycles.{Fault}
use Rattle.cx_meaning.specs.Answers.{Meaning, then_do, stay, idle_turn, turns_of, test_turn, loop_of}
use Rattle.cx_meaning.specs.Control.{Leaves, run, run_form, run_parts, drives, groups_drive, groups_in, groups_in_all}
use Rattle.cx_meaning.specs.Calls.{group_turn, call, enable, test}
use Rattle.cx_meaning.specs.Islands.{island}
use Rattle.cx_meaning.specs.Running.{leaves, control_below}
use Rattle.cx_turns.specs.Groups.{Driving}
use Rattle.cx_meaning.specs.declared.ports.PortRef.{PortRef}

-- what a part of control means in an instance with its inputs held, and the cells of an instance that it may change
abbrev pub Doing : Type 0
Doing = Instance → Held → Meaning State Fault

-- the leaves of control in an instance of the tree
abbrev pub leaves_in : Instance → Held → Leaves State Fault
leaves_in i held = leaves i (control_below (cells_of i)) held

abbrev pub statement_does : PlainStatement → Doing
statement_does statement i held s n = run (leaves_in i held) statement s n

abbrev pub statement_drives : PlainStatement → Driving
statement_drives statement i = drives (part_of i) statement

-- a form, the parts of a seq that are left, and the arms of a par
abbrev pub form_does : PlainForm → Doing
form_does form i held s n = run_form (leaves_in i held) form s n

abbrev pub form_drives : PlainForm → Driving
form_drives form i = groups_drive (part_of i) (groups_in form)

abbrev pub parts_do : PlainStatements → Doing
parts_do parts i held s n = run_parts (leaves_in i held) parts s n

abbrev pub parts_drive : PlainStatements → Driving
parts_drive parts i = groups_drive (part_of i) (groups_in_all parts)

-- one run, and then another with what is left; no turn; an idle turn
abbrev pub then_does : Doing → Doing → Doing
then_does first second i held s n = then_do (first i held s n) n (second i held)

abbrev pub stay_does : Doing
stay_does i held s n = stay s n

abbrev pub idle_does : Doing
idle_does i held s n = idle_turn (idle i) s n

-- the enable of a group, and what it may be
abbrev pub enable_does : ℕ → Doing
enable_does g i held s n = enable i (control_below (cells_of i)) held g s n

abbrev pub turns_do : ℕ → Doing
turns_do g i held s n = turns_of (idle i) (group_turn i held g) s n

abbrev pub call_does : ℕ → ℕ → Doing
call_does g c i held s n = call i (control_below (cells_of i)) held g c s n

abbrev pub island_does : PlainForm → Doing
island_does form i held s n = island i held form s n

-- a test, and then one of two
abbrev pub test_does : PortRef → Option ℕ → Doing → Doing → Doing
test_does port comb first second i held s n =
    test_turn (idle i) (test i held port comb) (first i held) (second i held) s n

-- a loop with a test
abbrev pub loop_does : PortRef → Option ℕ → Doing → Doing
loop_does port comb body i held s n = loop_of (idle i) (test i held port comb) (body i held) s n
