-- The tree of a design is deep enough: no cell leads back to its component, so every component of the tree stands there with all below it.
use Rattle.std.proofs.Common.{◌≡◌, ℕ, zero, suc, ◌+◌, ◌-◌, ◌<◌, ◌≤◌, List, [], ◌∷◌, length, refl, ap, ◌∙◌, subst, arith}
use Rattle.cx_meaning.specs.Designs.{OfComponent, PlainCell, PlainDesign, component_at}
use Rattle.cx_meaning.specs.Instances.{Node, tree_within}
use Rattle.cx_text.specs.Members.{In}
use Rattle.cx_rules.specs.Ports.{component_of}
use Rattle.cx_rules.specs.Wellformed.{IsDesign}
use Rattle.cx_meaning.proofs.InstancesLemmas.{cells_same}
use Rattle.cx_flattening.proofs.TreeLevels.{IsWay, no_way, further, way_is_short}

module _ (d : PlainDesign) where
  -- no chain of cells from component k is longer than so many levels
  abbrev pub Deep : ℕ → ℕ → Type 0
  Deep zero k = ⊥
  Deep (suc m) k = (cell : PlainCell) (j : ℕ) → In (component_at d k).cells cell → cell.kind ≡ OfComponent j → Deep m j

  -- with one level more stands the same tree
  deeper_tree : (m k : ℕ) → Deep m k → tree_within d m k ≡ tree_within d (suc m) k
  deeper_tree zero k h = absurd h
  deeper_tree (suc m) k h = ap (Node (component_at d k)) (cells_same (tree_within d m) (tree_within d (suc m)) (component_at d k).cells (λ cell j i is. deeper_tree m j (h cell j i is)))

  deeper : (m k : ℕ) → Deep m k → Deep (suc m) k
  deeper zero k h = absurd h
  deeper (suc m) k h = λ cell j i is. deeper m j (h cell j i is)

  levels_more : (n m k : ℕ) → Deep m k → Deep (n + m) k × (tree_within d m k ≡ tree_within d (n + m) k)
  levels_more zero m k h = let none : m ≡ 0 + m = omega arith in subst (λ x. Deep x k × (tree_within d m k ≡ tree_within d x k)) none (h, refl)
  levels_more (suc n) m k h =
      let one : suc (n + m) ≡ suc n + m = omega arith in
      let rest : Deep (n + m) k × (tree_within d m k ≡ tree_within d (n + m) k) = levels_more n m k h in
      subst (λ x. Deep x k × (tree_within d m k ≡ tree_within d x k)) one (deeper (n + m) k rest.0, rest.1 ∙ deeper_tree (n + m) k rest.0)

  -- A TREE THAT IS DEEP ENOUGH is the component with all below it
  pub whole_tree : (m k : ℕ) → Deep m k → m ≤ length d.components → tree_within d m k ≡ component_of d k
  whole_tree m k h few =
      let count : (length d.components - m) + m ≡ length d.components = omega (arith, few) in
      (levels_more (length d.components - m) m k h).1 ∙ ap (λ x. tree_within d x k) count

  module _ (design : IsDesign d) where
    -- below a way down, with the levels that are left
    deep_below : (m k : ℕ) (path : List ℕ) → IsWay d design path k → length path + m ≡ length d.components → Deep m k
    deep_below zero k path way count = let few : length path < length d.components = way_is_short d design path k way in absurd (omega (arith, few, count))
    deep_below (suc m) k path way count = λ cell j i is. deep_below m j (k ∷ path) (further d design path k j cell way i is) (longer (length path) count)
      where
        longer : (n : ℕ) → n + suc m ≡ length d.components → suc n + m ≡ length d.components
        longer n e = omega (arith, e)

    pub deep : (k : ℕ) → k < length d.components → Deep (length d.components) k
    deep k within = deep_below (length d.components) k [] (no_way d design k within) (let none : 0 + length d.components ≡ length d.components = omega arith in none)
