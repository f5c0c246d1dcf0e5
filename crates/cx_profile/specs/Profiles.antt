-- What is told of an instrumented design: where its memory of the counts stands, which group each word is of, and why there is none.
use Rattle.std.specs.Prelude.{ℕ, nat_eq, List, ◌++◌, Option, Some, None, length, if◌then◌else◌}
use Rattle.cx_meaning.specs.Designs.{PlainDesign, component_at, group_at}
use Rattle.cx_meaning.specs.Instances.{Instance, externals_of, instance_at, part_of}
use Rattle.cx_rules.specs.Accepted.{IsFirstOf}
use Rattle.cx_design.specs.declared.refusals.Refusal.{Refusal}
use Rattle.cx_design.specs.declared.refusals.Refusal.TheVariants.{Rule, Memory}
use Rattle.cx_rules.specs.FullPaths.{names_along}
use Rattle.cx_profiling.specs.Counters.{ProfileEntry, entry_count}

-- the place of the memory of the counts among the external memories of main, where there is a count
abbrev pub memory_place : PlainDesign → Option ℕ
memory_place d = if nat_eq (entry_count d) 0 then None else Some (length (externals_of (component_at d d.main)))

-- the names of the cells that lead to the instance of an entry, each with a point behind it, and the name of the group
abbrev pub group_path : Instance → ProfileEntry → List ℕ
group_path i e = names_along i e.path ++ (group_at (part_of (instance_at i e.path)) e.group).name

-- the first limit that a design exceeds, unless memory is wanting
abbrev pub IsLimit : PlainDesign → Refusal → Type 0
IsLimit d (Rule told) = IsFirstOf 7 d told
IsLimit d Memory = Unit {0}
