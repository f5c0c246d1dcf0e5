-- What acts of a flat component, beside what is done in a cycle by the instance and by those of static components below it.
use Rattle.std.specs.Prelude.{◌≡◌, ◌≢◌, ℕ, suc, ◌<◌, ◌⊎◌, true, false, nat_eq, List, [], ◌∷◌, Option, Some, None, length, if◌then◌else◌}
use Rattle.cx_meaning.specs.Designs.{PlainAssign, PlainComponent}
use Rattle.cx_meaning.specs.Instances.{Instance, Node, Cells, no_cells, a_primitive, an_instance}
use Rattle.cx_meaning.specs.Active.{Active, entries}
use Rattle.cx_meaning.specs.Control.{groups_of}
use Rattle.cx_flattening.specs.Events.{the_invoke}
use Rattle.cx_flattening.specs.Deeds.{Deed, Acts, Fed, own_entries, deeds_below}
use Rattle.cx_flattening.specs.Whole.{is_static}
use Rattle.cx_rules.specs.Counts.{is_one_of}
use Rattle.cx_flattening.specs.Flattened.{Kids, flat_part, flat_kids, copy_of}

-- the sources that a cell is fed, if it is
abbrev pub fed_by : ℕ → List Deed → Option (List PlainAssign)
fed_by c [] = None
fed_by c (Acts at e ∷ rest) = fed_by c rest
fed_by c (Fed [] d inputs ∷ rest) = if nat_eq d c then Some inputs else fed_by c rest
fed_by c (Fed (d ∷ at) e inputs ∷ rest) = fed_by c rest

-- the groups that a child's control enables
abbrev pub IsUsed : PlainComponent → ℕ → Type 0
IsUsed child g = is_one_of g (groups_of child.control) ≡ true

-- invoke j is one of cell c
pub record IsOf (part : PlainComponent) (c j : ℕ) : Type 0 where
  pub there : j < length part.invokes
  pub cell : (the_invoke part j).cell ≡ c

module _ (kids : Kids) (part : PlainComponent) (c : ℕ) (child : PlainComponent) (deeds : List Deed)
    (inner more : Active) where
  -- a static child that is not fed: nothing of it acts, and no copy for it
  pub record IsIdle : Type 0 where
    pub unfed : fed_by c deeds ≡ None
    pub none_below : deeds_below c deeds ≡ []
    pub still : (g : ℕ) → inner.offset g ≡ None
    pub copies : (j g : ℕ) → IsOf part c j → IsUsed child g → more.offset (copy_of kids part child j g) ≡ None

  -- one that invoke k feeds: the copies for k act as its groups do, and no other copies for it
  pub record IsFed : Type 0 where
    pub invoke : ℕ
    pub its : IsOf part c invoke
    pub fed : fed_by c deeds ≡ Some (the_invoke part invoke).inputs
    pub used : (g : ℕ) → IsUsed child g → more.offset (copy_of kids part child invoke g) ≡ inner.offset g
    pub unused : (g : ℕ) → is_one_of g (groups_of child.control) ≡ false → inner.offset g ≡ None
    pub others : (j g : ℕ) → IsOf part c j → j ≢ invoke → IsUsed child g
        → more.offset (copy_of kids part child j g) ≡ None

-- WHAT ACTS: the groups of the instance as they do, and the copies for each static child as what it does
abbrev mutual
  pub ActsAs : Instance → Active → List Deed → Active → Type 0
  ActsAs (Node part cells) act deeds more =
      ((g : ℕ) → g < length part.groups → more.offset g ≡ act.offset g)
      × AllActAs (flat_kids cells) part cells 0 deeds more

  pub AllActAs : Kids → PlainComponent → Cells → ℕ → List Deed → Active → Type 0
  AllActAs kids part no_cells c deeds more = Unit {0}
  AllActAs kids part (a_primitive row rest) c deeds more = AllActAs kids part rest (suc c) deeds more
  AllActAs kids part (an_instance child rest) c deeds more =
      (is_static child ≡ true → (inner : Active) × (inner.done_cell ≡ None)
      × ActsAs child (entries (own_entries (deeds_below c deeds))) (deeds_below c deeds) inner
      × (IsIdle kids part c (flat_part child) deeds inner more ⊎ IsFed kids part c (flat_part child) deeds inner more))
      × AllActAs kids part rest (suc c) deeds more
