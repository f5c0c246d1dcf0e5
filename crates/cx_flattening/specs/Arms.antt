-- What the arms of a par drive, in a tree and in its flat instance.
use Rattle.std.specs.Prelude.{◌≡◌, ℕ, ◌+◌, ◌<◌, true, false, Some, None, length}
use Rattle.cx_meaning.specs.Designs.{PlainComponent, PlainStatement, PlainStatements, no_statements, a_statement}
use Rattle.cx_meaning.specs.Instances.{Instance, part_of, cells_of}
use Rattle.cx_meaning.specs.Control.{drives}
use Rattle.cx_rules.specs.Invokes.{drives_all}
use Rattle.cx_flattening.specs.Flattened.{kid_at, kept_at, start_of, flat_kids, flat_statement}

-- the statement in the flat component
abbrev pub flat_of : Instance → PlainStatement → PlainStatement
flat_of i = flat_statement (flat_kids (cells_of i)) (part_of i)

-- the flat statement drives a cell that is kept where the statement drives it, and no cell of a static child that the
-- statement does not drive
pub record DrivesAlike (i flat : Instance) (s : PlainStatement) : Type 0 where
  pub kept : (c : ℕ) → c < length (part_of i).cells → kid_at (flat_kids (cells_of i)) c ≡ None
      → drives (part_of flat) (flat_of i s) (kept_at (flat_kids (cells_of i)) c) ≡ drives_all (part_of i) s c
  pub block : (c e : ℕ) (child : PlainComponent) → c < length (part_of i).cells
      → kid_at (flat_kids (cells_of i)) c ≡ Some child → e < length child.cells
      → drives_all (part_of i) s c ≡ false
      → drives (part_of flat) (flat_of i s) (start_of (flat_kids (cells_of i)) (part_of i) c + e) ≡ false

-- no arm drives the cell
abbrev pub NoneDrive : PlainComponent → ℕ → PlainStatements → Type 0
NoneDrive part c no_statements = Unit {0}
NoneDrive part c (a_statement s ss) = (drives_all part s c ≡ false) × NoneDrive part c ss

-- what an arm drives no later arm drives
abbrev pub IsApart : PlainComponent → PlainStatement → PlainStatements → Type 0
IsApart part s later = (c : ℕ) → drives_all part s c ≡ true → NoneDrive part c later
