-- The first race between arms.
use Rattle.std.specs.Prelude.{◌≡◌, ℕ, ◌<◌, List, Option, Some, None, length}
use Rattle.cx_graphs.specs.Graphs.{Bounded, IsGraph, edges_of, targets_of}
use Rattle.cx_meaning.specs.Control.{groups_of}
use Rattle.cx_text.specs.Members.{In}
use Rattle.cx_meaning.specs.Designs.{PlainComponent, PlainStatement, group_at}
use Rattle.cx_rules.specs.Ports.{cell_name}
use Rattle.cx_rules.specs.RaceRule.{IsShared, IsEnabledTwice, enabled_in}
use Rattle.cx_race.specs.declared.parts.Footprints.{Footprints}
use Rattle.cx_race.specs.Cells.{invoked_by, met_by}
use Rattle.cx_race.specs.Links.{Within}
use Rattle.cx_graphs.specs.Tallies.{IsClear}
use Rattle.cx_race.specs.declared.races.Race.{Race}
use Rattle.cx_race.specs.declared.races.Race.TheVariants.{Cell, Group}
use Rattle.cx_race.specs.declared.races.Tallies.{Tallies}

-- the least number of which P holds, where there is one
abbrev pub IsNone : (ℕ → Type 0) → Type 0
IsNone P = (n : ℕ) → P n → ⊥

abbrev pub IsLeastOf : (ℕ → Type 0) → Option ℕ → Type 0
IsLeastOf P None = IsNone P
IsLeastOf P (Some n) = P n × ((m : ℕ) → m < n → P m → ⊥)

-- THE FIRST RACE: the least shared cell, or where there is none the least group that is enabled twice
abbrev pub IsFirstRace : PlainComponent → List PlainStatement → Option Race → Type 0
IsFirstRace part arms None = IsNone (IsShared part arms) × IsNone (IsEnabledTwice arms)
IsFirstRace part arms (Some (Cell c)) = IsLeastOf (IsShared part arms) (Some c)
IsFirstRace part arms (Some (Group g)) = IsNone (IsShared part arms) × IsLeastOf (IsEnabledTwice arms) (Some g)

abbrev pub or_group : Option ℕ → Option Race
or_group None = None
or_group (Some g) = Some (Group g)

abbrev pub race_of : Option ℕ → Option ℕ → Option Race
race_of None group = or_group group
race_of (Some c) group = Some (Cell c)

-- its name
abbrev pub race_name : PlainComponent → Race → List ℕ
race_name part (Cell c) = cell_name part.cells c
race_name part (Group g) = (group_at part g).name

-- no cell and no group has an owner
pub record AreClear (cells groups : ℕ) (tallies : Tallies) : Type 0 where
  pub drivers : IsClear cells tallies.drivers.owners.items tallies.drivers.touched.items
  pub readers : IsClear cells tallies.readers.owners.items tallies.readers.touched.items
  pub groups_clear : IsClear groups tallies.groups.owners.items tallies.groups.touched.items

-- the numbers name cells and groups that there are footprints of
pub record AreWithin (part : PlainComponent) (f : Footprints) (arms : List PlainStatement) : Type 0 where
  pub graph : IsGraph (edges_of f.links.items)
  pub same : length f.named.items ≡ length f.driven.items
  pub driven : (g : ℕ) → Bounded (length f.links.items) (targets_of (edges_of f.driven.items) g)
  pub named : (g : ℕ) → Bounded (length f.links.items) (targets_of (edges_of f.named.items) g)
  pub groups : (s : PlainStatement) → In arms s → Within (length f.driven.items) (groups_of s)
  pub invoked : (s : PlainStatement) → In arms s → Within (length f.links.items) (invoked_by part s)
  pub met : (s : PlainStatement) → In arms s → Within (length f.links.items) (met_by part s)
  pub enabled : (s : PlainStatement) → In arms s → Within (length f.driven.items) (enabled_in s)
