use Rattle.std.proofs.Common.{rules, get_or, false}
use Rattle.std.proofs.lemmas.List.{drop_more}
use Rattle.cx_design.specs.PlainDesigns.{plain_design}
use Rattle.cx_design_parts.specs.Breaks.{first_of}
use Rattle.cx_design_parts.specs.Numbered.{numbered}
use Rattle.cx_comb.specs.CombBreaks.{group_breaks}
use Rattle.cx_comb.proofs.BreakLemmas.{next_flag}
use Rattle.cx_comb.proofs.telling.add_groups.Goals as goal

pub loop-group-preserved : goal.loop-group-preserved
loop-group-preserved c =
    let f = group_breaks (plain_design c.args.design.now) c.args.number in
    let flags = c.args.groups.now in
    let n = c.loop-group.group in
    next_flag f n flags (get_or flags n false) c.loop-group.first c.add_group.new.first (first_of c.args.first.now (numbered f 0 flags)) (drop_more flags n false (search rules)) c.in_ok-add_group.ensures.value c.loop-group.invariant
