-- The counters of an instrumented design: which groups are counted, by which register, and at which port of an instance each count shows.
use Rattle.std.specs.Prelude.{ℕ, suc, ◌+◌, Bool, true, false, ◌&&◌, List, [], ◌∷◌, ◌++◌, length, map, is_none, if◌then◌else◌}
use Rattle.cx_meaning.specs.declared.ports.PortRef.{PortRef}
use Rattle.cx_meaning.specs.declared.ports.PortRef.TheVariants as ports
use Rattle.cx_meaning.specs.declared.kinds.GroupKind.{GroupKind}
use Rattle.cx_meaning.specs.declared.kinds.GroupKind.TheVariants as kinds
use Rattle.cx_meaning.specs.Designs.{PlainAssign, PlainGroup, PlainComponent, PlainDesign}
use Rattle.cx_meaning.specs.Instances.{Instance, Node, Cells, no_cells, a_primitive, an_instance, part_of, Path, tree_of}
use Rattle.cx_meaning.specs.Calls.{called_in}

-- COUNTED: a group of the source that is static, or plain and calls nothing. The group of an invoke has no name
abbrev pub has_name : List ℕ → Bool
has_name [] = false
has_name (x ∷ xs) = true

abbrev pub is_counted_kind : Cells → List PlainAssign → GroupKind → Bool
is_counted_kind cells assigns kinds.Plain = is_none (called_in cells assigns)
is_counted_kind cells assigns kinds.Comb = false
is_counted_kind cells assigns (kinds.Timed length) = true

abbrev pub is_counted : Cells → PlainGroup → Bool
is_counted cells g = has_name g.name && is_counted_kind cells g.assigns g.kind

-- a counted group, by its number, and the register that counts its cycles. The adder of the register is the cell behind it
pub record Counter : Type 0 where
  pub group : ℕ
  pub register : ℕ

-- of the groups from number g on, with registers from cell c on
abbrev pub counters_from : Cells → ℕ → ℕ → List PlainGroup → List Counter
counters_from cells c g [] = []
counters_from cells c g (x ∷ xs) =
    if is_counted cells x
    then record { group = g; register = c } ∷ counters_from cells (suc (suc c)) (suc g) xs
    else counters_from cells c (suc g) xs

-- THE COUNTERS of an instance, in source order of the groups, behind its cells
abbrev pub counters : Instance → List Counter
counters (Node part cells) = counters_from cells (length part.cells) 0 part.groups

-- an entry of a profile: a group of the instance at a path
pub record ProfileEntry : Type 0 where
  pub path : Path
  pub group : ℕ

abbrev pub behind_cell : ℕ → ProfileEntry → ProfileEntry
behind_cell c e = record { path = c ∷ e.path; group = e.group }

-- the count of an entry below an instance, and the port of the instance, when it is instrumented, that has this count
pub record Shown : Type 0 where
  pub entry : ProfileEntry
  pub port : PortRef

-- a port of the component's cells: go, the inputs, the outputs, the outputs that it gains, done
abbrev pub first_gained : PlainComponent → ℕ
first_gained part = suc (length part.inputs + length part.outputs)

-- the register of a counter of the instance itself
abbrev pub shown_here : Counter → Shown
shown_here counter =
    record { entry = record { path = []; group = counter.group }; port = ports.Cell counter.register 2 }

-- what a child shows, the instance has at ports of its cell, from port p on
abbrev pub shown_at_cell : ℕ → ℕ → List Shown → List Shown
shown_at_cell c p [] = []
shown_at_cell c p (x ∷ xs) =
    record { entry = behind_cell c x.entry; port = ports.Cell c p } ∷ shown_at_cell c (suc p) xs

-- THE COUNTS OF AN INSTANCE and all below it, each with the port that has it: those of its own groups, then, in cell
-- order, those of its children
abbrev mutual
  pub shown_in : Instance → List Shown
  shown_in (Node part cells) =
      map shown_here (counters_from cells (length part.cells) 0 part.groups) ++ shown_below cells 0

  pub shown_below : Cells → ℕ → List Shown
  shown_below no_cells c = []
  shown_below (a_primitive row rest) c = shown_below rest (suc c)
  shown_below (an_instance child rest) c =
      shown_at_cell c (first_gained (part_of child)) (shown_in child) ++ shown_below rest (suc c)

-- THE ENTRIES OF A PROFILE, in pre-order of the instances, and of each in source order of its groups
abbrev pub entries_of : Instance → List ProfileEntry
entries_of i = map (λ x. x.entry) (shown_in i)

abbrev pub entry_count : PlainDesign → ℕ
entry_count d = length (shown_in (tree_of d))
