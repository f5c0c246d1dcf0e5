-- The inputs that static invokes bind, as they lie in memory.
use Rattle.std.specs.Prelude.{List, map}
use Rattle.std.specs.Borrow.{Bor}
use Rattle.cx_meaning.specs.Designs.{PlainAssign}
use Rattle.cx_design.specs.declared.groups.Assign.{Assign}
use Rattle.cx_design.specs.PlainForms.{plain_assign}

abbrev pub plain_bind : Bor Assign → PlainAssign
plain_bind a = plain_assign a.now

abbrev pub plain_binds : List (Bor Assign) → List PlainAssign
plain_binds assigns = map plain_bind assigns
