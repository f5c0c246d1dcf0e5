-- The run of a design: the leaves of control in an instance, the control of an instance, and that of main.
use Rattle.std.specs.Prelude.{ℕ, zero, suc, List}
use Rattle.cx_meaning.specs.Designs.{PlainStatement, PlainDesign}
use Rattle.cx_meaning.specs.Instances.{Instance, Node, Cells, no_cells, a_primitive, an_instance, part_of, tree_of, State, idle, merge, start}
use Rattle.cx_meaning.specs.Sights.{Held, unheld}
use Rattle.cx_meaning.specs.Cycles.{Fault}
use Rattle.cx_meaning.specs.Answers.{Answer, More, Meaning}
use Rattle.cx_meaning.specs.Control.{Leaves, drives, run}
use Rattle.cx_meaning.specs.Islands.{island}
use Rattle.cx_meaning.specs.Calls.{test, enable}

-- the control of the child at each cell, with its inputs held
abbrev pub Children : Type 0
Children = ℕ → Held → Meaning State Fault

-- a design that is not lowered has no timed statement
abbrev pub no_timed : ℕ → Meaning State Fault
no_timed k s n = More

-- the leaves of control in an instance
abbrev pub leaves : Instance → Children → Held → Leaves State Fault
leaves i children held = record {
  rest = idle i;
  merged = merge;
  driven = drives (part_of i);
  enable = enable i children held;
  test = test i held;
  island = island i held;
  timed = no_timed;
}

-- RUN of the control of an instance, with its inputs held, for a budget of turns
abbrev mutual
  pub run_control : Instance → Held → Meaning State Fault
  run_control (Node part cells) held s n = run (leaves (Node part cells) (control_below cells) held) part.control s n

  pub control_below : Cells → Children
  control_below no_cells c held s n = More
  control_below (a_primitive row rest) zero held s n = More
  control_below (a_primitive row rest) (suc c) held s n = control_below rest c held s n
  control_below (an_instance child rest) zero held s n = run_control child held s n
  control_below (an_instance child rest) (suc c) held s n = control_below rest c held s n

-- RUN of any statement of an instance
abbrev pub run_statement : Instance → Held → PlainStatement → Meaning State Fault
run_statement (Node part cells) held statement s n =
    run (leaves (Node part cells) (control_below cells) held) statement s n

-- RUN OF MAIN, from the start with the loaded words
abbrev pub run_main : PlainDesign → List (List ℕ) → ℕ → Answer State Fault
run_main d words n = run_control (tree_of d) unheld (start (tree_of d) words) n
