-- Which components main is made of, by the edges from each component to those of its cells.
use Rattle.std.specs.Prelude.{◌≡◌, ◌⊎◌, ℕ, Bool, List, [], ◌∷◌, ◌++◌, length, map}
use Rattle.cx_graphs.specs.Graphs.{Marked}
use Rattle.cx_meaning.specs.Designs.{PlainCell, PlainComponent, PlainDesign, component_of_kind}
use Rattle.cx_rules.specs.Wellformed.{LeadsTo}

abbrev pub components_of : List PlainCell → List ℕ
components_of [] = []
components_of (c ∷ cs) = component_of_kind c.kind ++ components_of cs

-- an edge from each component to those of its cells
abbrev pub edges_between : List PlainComponent → List (List ℕ)
edges_between parts = map (λ part. components_of part.cells) parts

abbrev pub IsMadeOf : PlainDesign → ℕ → Type 0
IsMadeOf d k = (d.main ≡ k) ⊎ LeadsTo d d.main k

-- the components that main is made of are marked, and no others
pub record AreMadeOf (d : PlainDesign) (marks : List Bool) : Type 0 where
  pub sized : length marks ≡ length d.components
  pub sound : (k : ℕ) → Marked marks k → IsMadeOf d k
  pub all : (k : ℕ) → IsMadeOf d k → Marked marks k
