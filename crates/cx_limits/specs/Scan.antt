-- A scan for the first limit that is exceeded: by place, and at one place what is looked at first.
use Rattle.std.specs.Prelude.{ℕ, zero, suc, ◌+◌, nat_eq, nat_lt, Bool, ◌&&◌, ◌||◌, List, [], ◌∷◌, Option, Some, None, option_map, length, if◌then◌else◌}
use Rattle.cx_text.specs.declared.places.Place.{Place}
use Rattle.cx_text.specs.declared.limits.TheConstants.{CELLS, GROUPS, INSTANCES, INSTANCE_DEPTH, MEMORY_WORDS, WEIGHT}
use Rattle.cx_meaning.specs.Designs.{PlainComponent, PlainDesign, component_at}
use Rattle.cx_meaning.specs.Instances.{tree_of}
use Rattle.cx_rules.specs.Items.{Visited, statements_in}
use Rattle.cx_rules.specs.Counts.{Inners, groups_for}
use Rattle.cx_rules.specs.LimitRule as rule
use Rattle.cx_rules.specs.LimitRule.{OnCells, OnGroups, OnRepeat, OnOccurrences, OnLatency, OnInstances, OnDepth, OnWords, OnWeight}
use Rattle.cx_design_sizes.specs.Capped.{capped}
use Rattle.cx_design_sizes.specs.declared.tallies.LimitTally.{LimitTally}
use Rattle.cx_limits.specs.declared.found.Limited.{Limited}
use Rattle.cx_limits.specs.declared.found.Limited.TheVariants as limited
use Rattle.cx_limits.specs.declared.found.FoundBreak.{FoundBreak}
use Rattle.cx_limits.specs.Inners.{cell_counts, below_at, limit_at}
use Rattle.cx_limits.specs.Rows.{counts_of}

abbrev pub told : rule.Limited → Limited
told OnCells = limited.Cells
told OnGroups = limited.Groups
told OnRepeat = limited.Repeat
told OnOccurrences = limited.Occurrences
told OnLatency = limited.Latency
told OnInstances = limited.Instances
told OnDepth = limited.Depth
told OnWords = limited.Words
told OnWeight = limited.Weight

-- a stands before b in the text
abbrev pub stands_before : Place → Place → Bool
stands_before a b = nat_lt a.line b.line || (nat_eq a.line b.line && nat_lt a.column b.column)

abbrev pub nearer : Option FoundBreak → FoundBreak → FoundBreak
nearer None f = f
nearer (Some g) f = if stands_before f.place g.place then f else g

-- the first so far, where one thing more is looked at
abbrev pub noted : Option FoundBreak → Place → Option Limited → Option FoundBreak
noted best place None = best
noted best place (Some l) = Some (nearer best (record { place = place; limited = l }))

-- past some statements of a component
abbrev pub past_statements : PlainComponent → Inners → Option FoundBreak → List Visited → Option FoundBreak
past_statements part below best [] = best
past_statements part below best (v ∷ vs) =
    past_statements part below (noted best v.place (option_map told (limit_at part below v))) vs

-- what is told of a limit
abbrev pub limited_of : Limited → rule.Limited
limited_of limited.Cells = OnCells
limited_of limited.Groups = OnGroups
limited_of limited.Repeat = OnRepeat
limited_of limited.Occurrences = OnOccurrences
limited_of limited.Latency = OnLatency
limited_of limited.Instances = OnInstances
limited_of limited.Depth = OnDepth
limited_of limited.Words = OnWords
limited_of limited.Weight = OnWeight

-- the limit, where the count exceeds it
abbrev pub if_over : Limited → ℕ → ℕ → Option Limited
if_over l limit count = if nat_lt limit count then Some l else None

-- past the cells, the groups and the statements of a component
abbrev pub past_own : Option FoundBreak → PlainComponent → Inners → Option FoundBreak
past_own best part below =
    noted (noted best part.place (if_over limited.Cells CELLS (capped (cell_counts below)))) part.place
    (if_over limited.Groups GROUPS (capped (length part.groups + groups_for below part.invokes)))

abbrev pub past_part : Option FoundBreak → PlainComponent → Inners → Option FoundBreak
past_part best part below = past_statements part below (past_own best part below) (statements_in part)

-- past the counts over the tree
abbrev pub past_tree : Option FoundBreak → Place → LimitTally → Option FoundBreak
past_tree best place tally =
    noted (noted (noted (noted best place (if_over limited.Instances INSTANCES tally.instances)) place
    (if_over limited.Depth INSTANCE_DEPTH tally.depth))
    place (if_over limited.Words MEMORY_WORDS tally.words)) place (if_over limited.Weight WEIGHT tally.weight)

-- past the component of a number, and past the tree where it is main
abbrev pub past_one : PlainDesign → Option FoundBreak → ℕ → Option FoundBreak
past_one d best k =
    if nat_eq k d.main then past_tree (past_part best (component_at d k) (below_at d k))
    (component_at d k).place (counts_of (tree_of d))
    else past_part best (component_at d k) (below_at d k)

-- past the first so many components, and past all
abbrev pub past_first : PlainDesign → ℕ → Option FoundBreak
past_first d zero = None
past_first d (suc k) = past_one d (past_first d k) k

abbrev pub past_all : PlainDesign → Option FoundBreak
past_all d = past_first d (length d.components)
