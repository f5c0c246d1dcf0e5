use Rattle.std.proofs.Common.{◌≡◌, drop, map}
use Rattle.cx_design.specs.PlainDesigns.{plain_design}
use Rattle.cx_design_parts.specs.Breaks.{first_of}
use Rattle.cx_design_parts.specs.Numbered.{numbered}
use Rattle.cx_widths.specs.Binds.{plain_bind}
use Rattle.cx_widths.specs.WidthBreaks.{bind_breaks_at}
use Rattle.cx_widths.proofs.checking.add_binds.Given as goal

-- the first so far, with the inputs that are left, is the first of all
abbrev pub invariant-loop-place : goal.invariant-loop-place
invariant-loop-place l =
    let f = bind_breaks_at (plain_design l.design) l.number in
    first_of l.first (numbered f l.place (map plain_bind (drop l.place l.list.items))) ≡ first_of l.initial.first (numbered f 0 (map plain_bind l.list.items))
