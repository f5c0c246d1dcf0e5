-- What an assignment with its owner stands for.
use Rattle.cx_meaning.specs.Active.{Owned}
use Rattle.cx_design.specs.PlainForms.{plain_assign}
use Rattle.cx_design_parts.specs.declared.ordering.OwnedAssign.{OwnedAssign}

abbrev pub plain_owned : OwnedAssign → Owned
plain_owned a = record { owner = a.owner; assign = plain_assign a.assign.now }
