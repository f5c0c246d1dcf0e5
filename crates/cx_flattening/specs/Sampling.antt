-- Where the ports of a tree at which static ifs may look are in a host, and samples of both.
use Rattle.std.specs.Prelude.{◌≡◌, ℕ, suc, ◌+◌, true, [], ◌∷◌, ◌++◌}
use Rattle.cx_meaning.specs.declared.ports.PortRef.{PortRef}
use Rattle.cx_meaning.specs.declared.ports.PortRef.TheVariants as ports
use Rattle.cx_meaning.specs.Designs.{PlainComponent}
use Rattle.cx_meaning.specs.Instances.{Instance, Node, Cells, no_cells, a_primitive, an_instance, Path}
use Rattle.cx_meaning.specs.Islands as islands
use Rattle.cx_flattening.specs.Events.{Spot, spot}
use Rattle.cx_flattening.specs.Deeds.{History}
use Rattle.cx_flattening.specs.Whole.{is_static}
use Rattle.cx_flattening.specs.Flattened.{Kids, flat_kids, start_of, own_port}
use Rattle.cx_flattening.specs.Fair.{IsNamed}

-- a port of the flat component, where its cells stand in a host from cell `first` on
abbrev pub placed : ℕ → PortRef → PortRef
placed first (ports.Cell e p) = ports.Cell (first + e) p
placed first (ports.Input n) = ports.Input n
placed first (ports.Output n) = ports.Output n
placed first (ports.Done g) = ports.Done g
placed first (ports.Literal w v) = ports.Literal w v

-- a port that is no input
abbrev pub IsOwn : PortRef → Type 0
IsOwn (ports.Cell c p) = Unit {0}
IsOwn (ports.Input n) = ⊥
IsOwn (ports.Output n) = Unit {0}
IsOwn (ports.Done g) = Unit {0}
IsOwn (ports.Literal w v) = Unit {0}

-- so it is of each port of the tree that may be tested, and of the host's port that stands for it
module _ (R : Spot → PortRef → Type 0) where
  abbrev mutual
    pub AllSpots : Instance → ℕ → Path → Type 0
    AllSpots (Node part cells) first at =
        ((p : PortRef) → IsNamed (Node part cells) p → IsOwn p →
        R (spot at p) (placed first (own_port (flat_kids cells) part p)))
        × SpotsBelow (flat_kids cells) part cells 0 first at

    pub SpotsBelow : Kids → PlainComponent → Cells → ℕ → ℕ → Path → Type 0
    SpotsBelow kids part no_cells c first at = Unit {0}
    SpotsBelow kids part (a_primitive row rest) c first at = SpotsBelow kids part rest (suc c) first at
    SpotsBelow kids part (an_instance child rest) c first at =
        (is_static child ≡ true → AllSpots child (first + start_of kids part c) (at ++ (c ∷ [])))
        × SpotsBelow kids part rest (suc c) first at

-- THE SAMPLES AGREE
abbrev pub SampledAlike : History → islands.History → Spot → PortRef → Type 0
SampledAlike h k x q = (u : ℕ) → k q u ≡ h x u

abbrev pub AgreesAt : History → islands.History → Instance → ℕ → Path → Type 0
AgreesAt h k = AllSpots (SampledAlike h k)

abbrev pub AgreesBelow : History → islands.History → Kids → PlainComponent → Cells → ℕ → ℕ → Path → Type 0
AgreesBelow h k = SpotsBelow (SampledAlike h k)
