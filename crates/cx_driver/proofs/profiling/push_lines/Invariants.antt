use Rattle.std.proofs.Common.{◌≡◌, ◌++◌, drop, map}
use Rattle.cx_profile.specs.declared.entries.ProfiledGroup.{ProfiledGroup}
use Rattle.cx_driver.specs.Profiling.{active_lines}
use Rattle.cx_driver.proofs.profiling.push_lines.Given as goal

-- the lines of the groups that are left, behind the text so far, are those of all
abbrev pub invariant-loop-group : goal.invariant-loop-group
invariant-loop-group l = record {
  place : l.index ≡ l.group-index;
  lines : l.text.items ++ active_lines (map (λ (g : ProfiledGroup). g.path) (drop l.group-index l.groups)) (drop l.group-index l.counts)
      ≡ l.fn.text.items ++ active_lines (map (λ (g : ProfiledGroup). g.path) l.groups) l.counts;
}
