use Rattle.std.proofs.Common.{◌≡◌, drop, map}
use Rattle.cx_design.specs.PlainDesigns.{plain_design}
use Rattle.cx_design_parts.specs.Items.{plain_visited}
use Rattle.cx_design_parts.specs.Breaks.{first_of}
use Rattle.cx_design_parts.specs.Numbered.{numbered}
use Rattle.cx_shape_calls.specs.StaticInvokes.{statement_breaks_at}
use Rattle.cx_shape_calls.proofs.checking.add_statements.Given as goal

-- the first so far, with the statements that are left, is the first of all
abbrev pub invariant-loop-place : goal.invariant-loop-place
invariant-loop-place l =
    let f = statement_breaks_at (plain_design l.design) l.number l.marks in
    first_of l.first (numbered f l.place (map plain_visited (drop l.place l.list.items))) ≡ first_of l.initial.first (numbered f 0 (map plain_visited l.list.items))
