-- Steps of the walks over cells and components.
use Rattle.std.proofs.Common.{◌≡◌, ℕ, List, [], ◌∷◌, ◌++◌, Option, Some, None, append_assoc, refl, ap, ◌∙◌}
use Rattle.std.proofs.lemmas.List.{map-append}
use Rattle.std.specs.declared.vec.Vec.{Vec}
use Rattle.cx_ast.specs.PlainTree.{PlainTree, PlainCell}
use Rattle.cx_graphs.specs.Graphs.{Edges, edges_of}
use Rattle.cx_names_parts.specs.Leading.{cell_number, if_some, numbers_in}

if_some-append : (o : Option ℕ) (ns : List ℕ) → if_some o [] ++ ns ≡ if_some o ns
if_some-append None ns = refl
if_some-append (Some n) ns = refl

-- a cell of a component, and those behind
pub cell_step : (tree : PlainTree) (before after : List ℕ) (cell : PlainCell) (rest : List PlainCell) (all : List ℕ) → after ≡ before ++ if_some (cell_number tree cell) []
    → before ++ numbers_in tree (cell ∷ rest) ≡ all → after ++ numbers_in tree rest ≡ all
cell_step tree before after cell rest all pushed behind =
    ap (λ ns. ns ++ numbers_in tree rest) pushed
    ∙ append_assoc before (if_some (cell_number tree cell) []) (numbers_in tree rest)
    ∙ ap (λ ns. before ++ ns) (if_some-append (cell_number tree cell) (numbers_in tree rest))
    ∙ behind

-- the edges of one more component
pub edges_step : {A : Type 0} (before after : List (Vec ℕ A)) (one : Vec ℕ A) (ns : List ℕ) (rest all : Edges) → one.items ≡ ns → after ≡ before ++ one ∷ [] → edges_of before ++ ns ∷ rest ≡ all → edges_of after ++ rest ≡ all
edges_step before after one ns rest all is pushed behind =
    ap (λ g. edges_of g ++ rest) pushed
    ∙ ap (λ g. g ++ rest) (map-append (λ list. list.items) before (one ∷ []))
    ∙ append_assoc (edges_of before) (one.items ∷ []) rest
    ∙ ap (λ m. edges_of before ++ m ∷ rest) is
    ∙ behind
