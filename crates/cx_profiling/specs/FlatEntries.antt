-- Where the entries of a profile stand in the flat design. An instance that is not static stands once, at the path of
-- its cells as flattening numbers them, and its groups keep their numbers. An instance of a static component stands
-- in its caller, where each group that its control enables has one copy for each static invoke of its cell; the
-- copies of a static component in a static component are copied in turn.
use Rattle.std.specs.Prelude.{ℕ, zero, suc, ◌+◌, nat_eq, List, [], ◌∷◌, map, flat_map, Option, Some, None, sum_by, if◌then◌else◌}
use Rattle.cx_meaning.specs.Designs.{PlainInvoke, PlainComponent, PlainDesign}
use Rattle.cx_meaning.specs.Instances.{Instance, Node, Cells, no_cells, a_primitive, an_instance, Path, tree_of}
use Rattle.cx_meaning.specs.Control.{groups_of}
use Rattle.cx_rules.specs.Counts.{is_one_of}
use Rattle.cx_rewrites.specs.Tallies.{Tally}
use Rattle.cx_flattening.specs.Flattened.{Kids, kid_at, kept_at, start_of, copy_of, flat_kids}
use Rattle.cx_profiling.specs.Counters.{ProfileEntry}

abbrev pub entry_at : Path → ℕ → ProfileEntry
entry_at path g = record { path = path; group = g }

-- the numbers of the static invokes of cell c, among these from number k on
abbrev pub invokes_of : ℕ → ℕ → List PlainInvoke → List ℕ
invokes_of c k [] = []
invokes_of c k (v ∷ vs) = if nat_eq v.cell c then k ∷ invokes_of c (suc k) vs else invokes_of c (suc k) vs

module _ (kids : Kids) (part : PlainComponent) (c : ℕ) where
  -- the copies of a group of the flat static child at cell c: one for each invoke of the cell, and none where the
  -- child's control never enables it
  abbrev pub copies_of : PlainComponent → ℕ → List ProfileEntry
  copies_of child g =
      if is_one_of g (groups_of child.control)
      then map (λ j. entry_at [] (copy_of kids part child j g)) (invokes_of c 0 part.invokes) else []

  -- where an entry of the flat child at cell c stands in the flat component: that of a child that is kept below its
  -- cell; that of a static one as the copies of its group, or below the cell that stands for the child's
  abbrev pub placed_entry : Option PlainComponent → Path → ℕ → List ProfileEntry
  placed_entry None path g = entry_at (kept_at kids c ∷ path) g ∷ []
  placed_entry (Some child) [] g = copies_of child g
  placed_entry (Some child) (e ∷ path) g = entry_at ((start_of kids part c + e) ∷ path) g ∷ []

  abbrev pub placed_entries : List ProfileEntry → List ProfileEntry
  placed_entries list = flat_map (λ e. placed_entry (kid_at kids c) e.path e.group) list

-- THE ENTRIES OF THE FLAT COMPONENT of an instance that stand for a group of the instance at a path
abbrev mutual
  pub entries_in_flat : Instance → Path → ℕ → List ProfileEntry
  entries_in_flat (Node part cells) [] g = entry_at [] g ∷ []
  entries_in_flat (Node part cells) (c ∷ path) g =
      placed_entries (flat_kids cells) part c (entries_below cells c path g)

  pub entries_below : Cells → ℕ → Path → ℕ → List ProfileEntry
  entries_below no_cells c path g = []
  entries_below (a_primitive row rest) zero path g = []
  entries_below (a_primitive row rest) (suc c) path g = entries_below rest c path g
  entries_below (an_instance child rest) zero path g = entries_in_flat child path g
  entries_below (an_instance child rest) (suc c) path g = entries_below rest c path g

-- THE ENTRIES OF THE FLAT DESIGN that stand for an entry of the design
abbrev pub flat_entries : PlainDesign → ProfileEntry → List ProfileEntry
flat_entries d e = entries_in_flat (tree_of d) e.path e.group

-- what is counted of one entry, and of some together
abbrev pub count_at : Tally → ProfileEntry → ℕ
count_at tally e = tally e.path e.group

abbrev pub total_of : Tally → List ProfileEntry → ℕ
total_of tally list = sum_by (count_at tally) list
