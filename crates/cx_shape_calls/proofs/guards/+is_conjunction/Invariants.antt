use Rattle.std.proofs.Common.{◌≡◌, map, drop}
use Rattle.cx_meaning.specs.Designs.{guards_of}
use Rattle.cx_design.specs.PlainForms.{plain_guard}
use Rattle.cx_shape_calls.specs.Forms.{are_conjunctions}
use Rattle.cx_shape_calls.proofs.guards.+is_conjunction.Given as goal

-- all are conjunctions if those that are left are
abbrev pub invariant-loop-part : goal.invariant-loop-part
invariant-loop-part l = are_conjunctions (guards_of (map plain_guard (drop l.part-index l.part-items))) ≡ are_conjunctions (guards_of (map plain_guard l.part-items))
