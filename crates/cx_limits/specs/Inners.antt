-- What is counted of static components at their cells, where counts stop at 2^64 - 1.
use Rattle.std.specs.Prelude.{ℕ, ◌+◌, nat_lt, nat_le, ◌&&◌, Bool, true, false, List, [], ◌∷◌, ◌++◌, Option, Some, None, option_map, map, set, length, replicate, if◌then◌else◌}
use Rattle.cx_text.specs.declared.limits.TheConstants.{OCCURRENCES, REPETITIONS}
use Rattle.cx_meaning.specs.Designs.{PlainGroup, PlainInvoke, PlainComponent, PlainDesign}
use Rattle.cx_meaning.specs.Instances.{Instance, Node}
use Rattle.cx_meaning.specs.Control.{groups_of}
use Rattle.cx_rules.specs.Items.{Visited, option_list}
use Rattle.cx_rules.specs.Invokes.{form_lasts}
use Rattle.cx_rules.specs.LimitRule.{Limited, OnRepeat, OnOccurrences, OnLatency, count_in, is_too_many}
use Rattle.cx_rules.specs.Ports.{component_of}
use Rattle.cx_rules.specs.Counts.{Inner, Inners, cell_count_of, group_if, form_counted, is_any_island, inners_of}
use Rattle.cx_design_sizes.specs.Capped.{capped}

abbrev pub capped_inner : Inner → Inner
capped_inner x = record {
  cells = capped x.cells;
  always = capped x.always;
  groups = capped x.groups;
  copies = capped x.copies;
  statements = capped x.statements;
  occurrences = capped x.occurrences;
}

abbrev pub capped_inners : Inners → Inners
capped_inners below = map (option_map capped_inner) below

-- the cells, by what stands at each of them
abbrev pub cell_counts : Inners → ℕ
cell_counts [] = 0
cell_counts (x ∷ rest) = cell_count_of x + cell_counts rest

-- what stands at the cells of an instance, and of a component of a design
abbrev pub below_of : Instance → Inners
below_of (Node part cells) = inners_of cells

abbrev pub below_at : PlainDesign → ℕ → Inners
below_at d k = capped_inners (below_of (component_of d k))

-- FLAGS of groups: more of them set
abbrev pub set_all : List Bool → List ℕ → List Bool
set_all flags [] = flags
set_all flags (g ∷ gs) = set_all (set flags g true) gs

-- the groups that the invokes of a component capture by
abbrev pub captures_by : List PlainInvoke → List ℕ
captures_by [] = []
captures_by (v ∷ vs) = option_list v.captures ++ captures_by vs

-- the groups of a list whose flag is set; those behind the last flag have none
abbrev pub flagged : List Bool → List PlainGroup → List PlainGroup
flagged [] groups = []
flagged (b ∷ bs) [] = []
flagged (b ∷ bs) (g ∷ gs) = group_if b g (flagged bs gs)

abbrev pub needs_of : PlainComponent → List PlainGroup
needs_of part =
    flagged (set_all (set_all (replicate (length part.groups) false) (groups_of part.control))
    (captures_by part.invokes)) part.groups

-- the first limit that a statement exceeds, where so much stands at the cells
abbrev pub limit_at : PlainComponent → Inners → Visited → Option Limited
limit_at part below v =
    if is_too_many (count_in v.form) then Some OnRepeat
    else if is_any_island part v && nat_lt OCCURRENCES (capped (form_counted part below v.form)) then Some OnOccurrences
    else if is_any_island part v && nat_le REPETITIONS (capped (form_lasts part v.form)) then Some OnLatency
    else None
