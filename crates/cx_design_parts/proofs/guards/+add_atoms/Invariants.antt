use Rattle.std.proofs.Common.{◌≡◌, ◌++◌, map, drop}
use Rattle.cx_meaning.specs.Designs.{guards_of}
use Rattle.cx_rules.specs.Items.{atoms_in}
use Rattle.cx_design.specs.PlainForms.{plain_guard}
use Rattle.cx_design_parts.proofs.guards.+add_atoms.Given as goal

-- what is added so far, and what the parts that are left have, is all
abbrev pub invariant-loop-part : goal.invariant-loop-part
invariant-loop-part l = l.ports.items ++ atoms_in (guards_of (map plain_guard (drop l.part-index l.part-items))) ≡ l.initial.ports.items ++ atoms_in (guards_of (map plain_guard l.part-items))
