-- What is kept of a design while it is flattened.
use Rattle.std.specs.Prelude.{◌≡◌, ℕ, ◌≤◌, Bool, true, false, List, [], ◌∷◌, Option, get_or, length, map, take}
use Rattle.std.specs.List.{range_with_len}
use Rattle.cx_meaning.specs.Designs.{PlainKind, OfPrimitive, OfComponent, PlainCell, PlainComponent, PlainDesign, component_at}
use Rattle.cx_text.specs.Members.{In}
use Rattle.cx_rules.specs.Ports.{component_of}
use Rattle.cx_design.specs.declared.components.Component.{Component}
use Rattle.cx_flattening.specs.Copies.{count_if}
use Rattle.cx_flattening.specs.Flattened.{Kids, kid_at, kid_if, flat_component}
use Rattle.cx_flattening.specs.Whole.{is_static}
use Rattle.cx_flattening.specs.FlatDesign.{flat_of, is_reached, renumbered_part}
use Rattle.cx_flat.specs.Tables.{plain_table, kids_of}

-- the flat component of a component that is static
abbrev pub kid_of : PlainDesign → ℕ → Kids → Type 0
kid_of d k table = kid_at table k ≡ kid_if (is_static (component_of d k)) (flat_of d k)

-- those of the first so many components of an order are made that are needed at this place or behind it
pub record AreKidsTo (d : PlainDesign) (order lasts : List ℕ) (i : ℕ) (table : List (Option Component)) : Type 0 where
  pub sized : length table ≡ length d.components
  pub known : (j : ℕ) → In (take i order) j → i ≤ get_or lasts j 0 → kid_of d j (plain_table table)

-- by the table the flat components of those that the flat main reaches are made
abbrev pub AreKids : PlainDesign → Kids → Type 0
AreKids d table =
    (k : ℕ) → is_reached d k ≡ true
    → flat_component (kids_of table (component_at d k).cells) (component_at d k) ≡ flat_of d k

-- the components that the flat main reaches are marked
abbrev pub AreMarks : PlainDesign → List Bool → Type 0
AreMarks d marks = marks ≡ map (is_reached d) (range_with_len 0 (length d.components))

-- for each number how many are marked before it, and so many more
abbrev pub numbers_of : ℕ → List Bool → List ℕ
numbers_of n [] = []
numbers_of n (m ∷ ms) = n ∷ numbers_of (count_if m n) ms

abbrev pub kind_by : List ℕ → PlainKind → PlainKind
kind_by numbers (OfPrimitive primitive) = OfPrimitive primitive
kind_by numbers (OfComponent k) = OfComponent (get_or numbers k 0)

abbrev pub cell_by : List ℕ → PlainCell → PlainCell
cell_by numbers c = record { name = c.name; kind = kind_by numbers c.kind; external = c.external; place = c.place }

abbrev pub renumbered_by : List ℕ → PlainComponent → PlainComponent
renumbered_by numbers part = record part { cells = map (cell_by numbers) part.cells }

-- what is made for a component: its flat one, where the flat main reaches it
abbrev pub part_if : Bool → PlainComponent → List PlainComponent
part_if true part = part ∷ []
part_if false part = []

abbrev pub kept_for : PlainDesign → ℕ → List PlainComponent
kept_for d k = part_if (is_reached d k) (renumbered_part d (flat_of d k))
