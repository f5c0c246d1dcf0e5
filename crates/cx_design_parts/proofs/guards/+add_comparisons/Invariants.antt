use Rattle.std.proofs.Common.{◌≡◌, ◌++◌, map, drop}
use Rattle.cx_meaning.specs.Designs.{guards_of}
use Rattle.cx_rules.specs.Items.{comparisons_in}
use Rattle.cx_design.specs.PlainForms.{plain_guard}
use Rattle.cx_design_parts.specs.Items.{plain_pair}
use Rattle.cx_design_parts.proofs.guards.+add_comparisons.Given as goal

-- what is added so far, and what the parts that are left have, is all
abbrev pub invariant-loop-part : goal.invariant-loop-part
invariant-loop-part l = map plain_pair l.pairs.items ++ comparisons_in (guards_of (map plain_guard (drop l.part-index l.part-items))) ≡ map plain_pair l.initial.pairs.items ++ comparisons_in (guards_of (map plain_guard l.part-items))
