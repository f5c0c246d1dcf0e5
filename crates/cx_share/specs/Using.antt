-- What the parts of a component use, as marks.
use Rattle.std.specs.Prelude.{Bool, List, length, map}
use Rattle.cx_meaning.specs.Designs.{PlainComponent, PlainStatement}
use Rattle.cx_sharing.specs.Uses.{assigns_use, uses}
use Rattle.cx_share.specs.Marks.{marks_by}

-- for each group the cells that it uses
abbrev pub group_marks : PlainComponent → List (List Bool)
group_marks part = map (λ g. marks_by (length part.cells) (assigns_use g.assigns)) part.groups

-- for each arm those that it uses
abbrev pub arm_marks : PlainComponent → List PlainStatement → List (List Bool)
arm_marks part arms = map (λ arm. marks_by (length part.cells) (uses part arm)) arms
