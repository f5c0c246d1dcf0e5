-- Where nothing leads in a circle.
use Rattle.cx_meaning.specs.Instances.{Instance, Node, Cells, no_cells, a_primitive, an_instance}
use Rattle.cx_meaning.specs.Active.{Active, nothing}
use Rattle.cx_rules.specs.RaceRule.{HasCycle}

-- no port depends on itself under this active set
abbrev pub IsAcyclic : Instance → Active → Type 0
IsAcyclic i act = HasCycle i act → ⊥

-- nor under the continuous assignments of an instance of the tree
abbrev mutual
  pub AreAcyclic : Instance → Type 0
  AreAcyclic (Node part cells) = IsAcyclic (Node part cells) nothing × AcyclicBelow cells

  pub AcyclicBelow : Cells → Type 0
  AcyclicBelow no_cells = Unit {0}
  AcyclicBelow (a_primitive row rest) = AcyclicBelow rest
  AcyclicBelow (an_instance child rest) = AreAcyclic child × AcyclicBelow rest
