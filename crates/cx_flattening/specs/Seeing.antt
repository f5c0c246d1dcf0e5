-- What is seen of all cells of an instance and of its static children, in a host among whose cells they stand.
use Rattle.std.specs.Prelude.{◌≡◌, ℕ, suc, ◌+◌, true, List}
use Rattle.cx_meaning.specs.declared.ports.PortRef.TheVariants as ports
use Rattle.cx_meaning.specs.Designs.{PlainComponent}
use Rattle.cx_meaning.specs.Instances.{Instance, Node, Cells, no_cells, a_primitive, an_instance, State, under}
use Rattle.cx_meaning.specs.Active.{Active, entries}
use Rattle.cx_meaning.specs.Sights.{Look, Held, seen}
use Rattle.cx_rules.specs.Circles.{IsAcyclic, AcyclicBelow}
use Rattle.cx_flattening.specs.Deeds.{Deed, own_entries, deeds_below, held_below}
use Rattle.cx_flattening.specs.Whole.{is_static}
use Rattle.cx_flattening.specs.Flattened.{Kids, flat_kids, kept_at, start_of}

-- EACH PORT OF EACH PRIMITIVE CELL is seen in the host as in the instance; and of a static child as in the child under what it does,
-- with each input as its source is seen in the instance
abbrev mutual
  pub CellsSeen : Look → Instance → ℕ → Held → Active → List Deed → State → Type 0
  CellsSeen there (Node part cells) first held act deeds s =
      AllSeen there (flat_kids cells) part cells 0 first (seen (Node part cells) held act s) deeds s

  pub AllSeen : Look → Kids → PlainComponent → Cells → ℕ → ℕ → Look → List Deed → State → Type 0
  AllSeen there kids part no_cells c first look deeds s = Unit {0}
  AllSeen there kids part (a_primitive row rest) c first look deeds s =
      ((p : ℕ) → there (ports.Cell (first + kept_at kids c) p) ≡ look (ports.Cell c p))
      × AllSeen there kids part rest (suc c) first look deeds s
  AllSeen there kids part (an_instance child rest) c first look deeds s =
      (is_static child ≡ true → CellsSeen there child (first + start_of kids part c)
      (held_below look c deeds) (entries (own_entries (deeds_below c deeds))) (deeds_below c deeds)
      (under c s))
      × AllSeen there kids part rest (suc c) first look deeds s

-- nothing leads in a circle under what is done, in the instance and in its static children
abbrev mutual
  pub NoCircle : Instance → Active → List Deed → Type 0
  NoCircle (Node part cells) act deeds = IsAcyclic (Node part cells) act × AcyclicBelow cells × NoneBelow cells 0 deeds

  pub NoneBelow : Cells → ℕ → List Deed → Type 0
  NoneBelow no_cells c deeds = Unit {0}
  NoneBelow (a_primitive row rest) c deeds = NoneBelow rest (suc c) deeds
  NoneBelow (an_instance child rest) c deeds =
      (is_static child ≡ true →
      NoCircle child (entries (own_entries (deeds_below c deeds))) (deeds_below c deeds))
      × NoneBelow rest (suc c) deeds
