-- Facts of what `Circles` defines, that several crates above take.
use Rattle.cx_meaning.specs.Instances.{Instance, Node, cells_of}
use Rattle.cx_rules.specs.Circles.{AreAcyclic, AcyclicBelow, IsAcyclic}
use Rattle.cx_meaning.specs.Active.{nothing}

pub cells_below : (i : Instance) → AreAcyclic i → AcyclicBelow (cells_of i)
cells_below (Node part cells) h = h.1

pub own_acyclic : (i : Instance) → AreAcyclic i → IsAcyclic i nothing
own_acyclic (Node part cells) h = h.0
