use Rattle.std.proofs.Common.{◌≡◌, drop}
use Rattle.cx_design.specs.PlainDesigns.{plain_design}
use Rattle.cx_design_parts.specs.Breaks.{first_of}
use Rattle.cx_design_parts.specs.Numbered.{numbered}
use Rattle.cx_comb.specs.CombBreaks.{group_breaks}
use Rattle.cx_comb.proofs.telling.add_groups.Given as goal

-- the first so far, with the groups that are left, is the first of all
abbrev pub invariant-loop-group : goal.invariant-loop-group
invariant-loop-group l =
    let f = group_breaks (plain_design l.design) l.number in first_of l.first (numbered f l.group (drop l.group l.groups)) ≡ first_of l.initial.first (numbered f 0 l.groups)
