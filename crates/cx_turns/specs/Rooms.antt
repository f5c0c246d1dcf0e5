-- Room for the samples and the active groups of any one island of a design.
use Rattle.std.specs.Prelude.{◌≡◌, ℕ, ◌<◌, ◌≤◌, List, length, map}
use Rattle.std.specs.Vec.{vec_len, vec_capacity}
use Rattle.cx_meaning.specs.Designs.{PlainDesign, PlainComponent, PlainForm, component_at}
use Rattle.cx_meaning.specs.Active.{Entry}
use Rattle.cx_text.specs.Members.{In}
use Rattle.cx_rules.specs.Items.{Visited, statements_in}
use Rattle.cx_design.specs.declared.actives.Active.{Active}
use Rattle.cx_design.specs.declared.actives.Active.TheVariants as actives
use Rattle.cx_design.specs.PlainActives.{plain_entry}
use Rattle.cx_laws.specs.Samples.{form_ifs}
use Rattle.cx_interp_islands.specs.Rooms.{form_groups}
use Rattle.cx_turns.specs.declared.rooms.Room.{Room}
use Rattle.cx_turns.specs.Marks.{set_count}

-- a statement has no more static ifs, and no more enables of groups in static control
abbrev pub FormFits : PlainForm → ℕ → ℕ → Type 0
FormFits form ifs groups = (form_ifs form ≤ ifs) × (form_groups form ≤ groups)

-- so has none of a list of statements
abbrev pub ListFits : List Visited → ℕ → ℕ → Type 0
ListFits list ifs groups = (v : Visited) → In list v → FormFits v.form ifs groups

abbrev pub PartFits : PlainComponent → ℕ → ℕ → Type 0
PartFits part ifs groups = ListFits (statements_in part) ifs groups

-- static groups are active, with room for so many
abbrev pub HoldsEntries : Active → Type 0
HoldsEntries actives.Nothing = ⊥
HoldsEntries (actives.Group g) = ⊥
HoldsEntries (actives.CallEnd g) = ⊥
HoldsEntries (actives.Entries entries) = Unit {0}

abbrev pub entry_room : Active → ℕ
entry_room actives.Nothing = 0
entry_room (actives.Group g) = 0
entry_room (actives.CallEnd g) = 0
entry_room (actives.Entries entries) = vec_capacity entries

-- these static groups are active
abbrev pub HasActive : Active → List Entry → Type 0
HasActive actives.Nothing list = ⊥
HasActive (actives.Group g) list = ⊥
HasActive (actives.CallEnd g) list = ⊥
HasActive (actives.Entries entries) list = map plain_entry entries.items ≡ list

-- room for each island of a design, with a mark for each cell of any component, none of which is set, and room to list as many
pub record HasRoom (d : PlainDesign) (room : Room) : Type 0 where
  pub holds : HoldsEntries room.active
  pub fits : (k : ℕ) → k < length d.components
      → PartFits (component_at d k) (vec_len room.samples) (entry_room room.active)
  pub marks : (k : ℕ) → k < length d.components → length (component_at d k).cells ≤ length room.marks.items
  pub clear : set_count room.marks.items ≡ 0
  pub lists : length room.marks.items ≤ vec_capacity room.cells
