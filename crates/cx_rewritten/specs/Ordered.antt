-- The parts of a component whose order counts, by their places: its assignments and its invokes, as they are written.
use Rattle.std.specs.Prelude.{◌≡◌, false, List, [], ◌∷◌, ◌++◌, Option, Some, None, map, flat_map}
use Rattle.std.specs.List.{AllByRecursion}
use Rattle.cx_text.specs.declared.places.Place.{Place}
use Rattle.cx_ast.specs.PlainStatements.{PlainBlock}
use Rattle.cx_ast.specs.PlainTree.{PlainWire, Group, Assign, PlainComponent, PlainTree}
use Rattle.cx_meaning.specs.Active.{no_later}
use Rattle.cx_numbering.specs.DesignOf.{invokes_of}

abbrev pub wire_places : PlainWire → List Place
wire_places (Group g) = map (λ a. a.place) g.assigns
wire_places (Assign a) = a.place ∷ []

abbrev pub invoke_places : Option PlainBlock → List Place
invoke_places None = []
invoke_places (Some block) = map (λ k. k.place) (invokes_of block)

-- the places of the assignments and of the invokes of a component, in the order in which they are written
abbrev pub places_in : PlainComponent → List Place
places_in part = flat_map wire_places part.wires ++ invoke_places part.control

-- each stands behind those before it
abbrev pub Rise : List Place → Type 0
Rise [] = Unit {0}
Rise (p ∷ ps) = AllByRecursion (λ q. no_later q p ≡ false) ps × Rise ps

-- IN ORDER: in each component they rise
abbrev pub IsInOrder : PlainTree → Type 0
IsInOrder tree = AllByRecursion (λ part. Rise (places_in part)) tree.components

-- some of a list, in their order
pub data AreOf : List Place → List Place → Type 0 where
  none_left : AreOf [] []
  left_out : {p : Place} {some all : List Place} → AreOf some all → AreOf some (p ∷ all)
  one_kept : {p : Place} {some all : List Place} → AreOf some all → AreOf (p ∷ some) (p ∷ all)

-- each component of the first has places of the second's component, in their order
abbrev pub StandAs : List PlainComponent → List PlainComponent → Type 0
StandAs [] old = Unit {0}
StandAs (part ∷ rest) [] = ⊥
StandAs (part ∷ rest) (old ∷ more) = AreOf (places_in part) (places_in old) × StandAs rest more

-- what is left of a tree's assignments and invokes stands in the order in which they stood
abbrev pub KeepsOrder : PlainTree → PlainTree → Type 0
KeepsOrder tree new = StandAs new.components tree.components
