use Rattle.std.proofs.Common.{◌≡◌, ◌||◌, ◌≤◌, ℕ, length, drop}
use Rattle.std.specs.Prelude.{vec_capacity}
use Rattle.cx_meaning.specs.Control.{groups_drive, groups_in_all}
use Rattle.cx_meaning.specs.Instances.{Path, part_of, instance_at, tree_of}
use Rattle.cx_design.specs.PlainForms.{plain_statements}
use Rattle.cx_state.specs.Tables.{IsNumber}
use Rattle.cx_turns.specs.Machines.{design_of}
use Rattle.cx_turns.specs.Marks.{Lists, is_marked}
use Rattle.cx_turns.proofs.driven.+mark.Given as goal

-- what is marked, and what the parts that are left drive, is all; and what is marked is listed
abbrev pub invariant-mark_all-loop-part : goal.invariant-mark_all-loop-part
invariant-mark_all-loop-part l = record {
  length : length l.marks ≡ length l.fn.marks;
  marked : (path : Path) (c : ℕ) → IsNumber (design_of l.plan) l.instance path
      → (groups_drive (part_of (instance_at (tree_of (design_of l.plan)) path)) (groups_in_all (plain_statements (drop l.part-index l.parts))) c || is_marked l.marks c)
      ≡ (groups_drive (part_of (instance_at (tree_of (design_of l.plan)) path)) (groups_in_all (plain_statements l.parts)) c || is_marked l.fn.marks c);
  lists : Lists l.marks l.cells.items;
  room : vec_capacity l.fn.cells ≤ vec_capacity l.cells;
}
