-- What leads to cells in a component.
use Rattle.std.specs.Prelude.{◌≡◌, ℕ, length, map}
use Rattle.cx_graphs.specs.Graphs.{Bounded, edges_of, targets_of}
use Rattle.cx_meaning.specs.Designs.{PlainComponent}
use Rattle.cx_race.specs.declared.parts.Footprints.{Footprints}
use Rattle.cx_race.specs.Cells.{cells_in_group, targets_in_group}
use Rattle.cx_race.specs.Links.{AreLinks}

-- FOOTPRINTS of a component: the links of its cells, and for each group the cells that it drives, and that it drives or names
pub record AreFootprints (part : PlainComponent) (f : Footprints) : Type 0 where
  pub links : AreLinks part (edges_of f.links.items)
  pub driven : edges_of f.driven.items ≡ map targets_in_group part.groups
  pub named : edges_of f.named.items ≡ map cells_in_group part.groups
  pub driven_within : (g : ℕ) → Bounded (length part.cells) (targets_of (edges_of f.driven.items) g)
  pub named_within : (g : ℕ) → Bounded (length part.cells) (targets_of (edges_of f.named.items) g)
