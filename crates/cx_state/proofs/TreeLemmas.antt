-- The tree of a component that main is made of: its cells' trees, its instances and their paths.
use Rattle.std.proofs.Common.{◌≡◌, ℕ, zero, suc, ◌+◌, ◌<◌, ◌≤◌, inl, inr, ◌⊎◌, ⊎_elim, List, [], ◌∷◌, ◌++◌, length, take, get_or, Some, add-one, refl, sym, ap, ◌∙◌, subst, arith}
use Rattle.std.specs.List.{slice_get}
use Rattle.std.proofs.lemmas.Bool.{cases_lt}
use Rattle.std.proofs.lemmas.List.{length-append, length-map, take_more, take_all}
use Rattle.std.proofs.lemmas.Option.{slice_get-get_or}
use Rattle.cx_text.proofs.MemberLaws.{number_in}
use Rattle.cx_meaning.specs.Designs.{PlainKind, OfPrimitive, OfComponent, PlainCell, PlainDesign, component_at}
use Rattle.cx_meaning.specs.Instances.{Instance, Node, Cells, no_cells, a_primitive, an_instance, Path, add_cell, cells_for, tree_within, behind, paths_of, paths_below, instance_at, child_at}
use Rattle.cx_text.specs.Members.{In}
use Rattle.cx_rules.specs.Ports.{component_of}
use Rattle.cx_rules.specs.Sizes.{instances_below, instances_in}
use Rattle.cx_design_sizes.specs.Orders.{IsChildrenFirst}
use Rattle.cx_design_sizes.proofs.Places.{in_snoc}
use Rattle.cx_text.proofs.OptionLaws.{none_is_some}
use Rattle.cx_meaning.proofs.InstancesLemmas.{cells_same}

in_take : {A : Type 0} (xs : List A) (i : ℕ) (x : A) → In (take i xs) x → In xs x
in_take xs zero x h = absurd h
in_take [] (suc i) x h = absurd h
in_take (y ∷ xs) (suc i) x (inl e) = inl e
in_take (y ∷ xs) (suc i) x (inr h) = inr (in_take xs i x h)

-- a component of a cell is in the order too
pub child_in : (d : PlainDesign) (order : List ℕ) → IsChildrenFirst d order → (k j : ℕ) (cell : PlainCell) → In order k → In (component_at d k).cells cell → cell.kind ≡ OfComponent j → In order j
child_in d order first k j cell here i e =
    let q : (n : ℕ) × (slice_get order n ≡ Some k) = number_in order k here in
    in_take order q.0 j (first.behind q.0 k j cell q.1 i e)

-- LEVELS: with enough of them a tree is always the same

abbrev AreStable : PlainDesign → List ℕ → ℕ → Type 0
AreStable d order i = (k m n : ℕ) → In (take i order) k → i ≤ m → i ≤ n → tree_within d m k ≡ tree_within d n k

stable_next : (d : PlainDesign) (order : List ℕ) (i : ℕ) → IsChildrenFirst d order → AreStable d order i → AreStable d order (suc i)
stable_next d order i first so_far k m n h a b = ⊎_elim inside past (cases_lt i (length order))
  where
    levels : (m n : ℕ) → suc i ≤ m → suc i ≤ n → slice_get order i ≡ Some k → tree_within d m k ≡ tree_within d n k
    levels zero n a b at = absurd (omega arith)
    levels (suc m) zero a b at = absurd (omega arith)
    levels (suc m) (suc n) a b at =
        ap (Node (component_at d k)) (cells_same (tree_within d m) (tree_within d n) (component_at d k).cells
        (λ cell j c e. so_far j m n (first.behind i k j cell at c e) (let le : suc i ≤ suc m = a in omega arith) (let le : suc i ≤ suc n = b in omega arith)))

    either : i < length order → In (take i order) k ⊎ (get_or order i 0 ≡ k) → tree_within d m k ≡ tree_within d n k
    either lt (inl before) = so_far k m n before (omega arith) (omega arith)
    either lt (inr same) = levels m n a b (slice_get-get_or order i 0 lt ∙ ap (λ x. Some x) same)

    inside : i < length order → tree_within d m k ≡ tree_within d n k
    inside lt =
        let taken : take (suc i) order ≡ take i order ++ get_or order i 0 ∷ [] = ap (λ x. take x order) (sym (add-one i)) ∙ take_more order i 0 lt in
        either lt (in_snoc (take i order) k (get_or order i 0) (subst (λ xs. In xs k) taken h))

    past : length order ≤ i → tree_within d m k ≡ tree_within d n k
    past le = so_far k m n (subst (λ xs. In xs k) (take_all (suc i) order (omega arith) ∙ sym (take_all i order le)) h) (omega arith) (omega arith)

stable : (d : PlainDesign) (order : List ℕ) (i : ℕ) → IsChildrenFirst d order → AreStable d order i
stable d order zero first k m n h a b = absurd h
stable d order (suc i) first k m n h a b = stable_next d order i first (stable d order i first) k m n h a b

-- the tree of a component is the component above the trees of its cells
pub tree_is : (d : PlainDesign) (order : List ℕ) (k : ℕ) → IsChildrenFirst d order → In order k → component_of d k ≡ Node (component_at d k) (cells_for (component_of d) (component_at d k).cells)
tree_is d order k first here =
    stable d order (length order) first k (length d.components) (suc (length d.components)) (subst (λ xs. In xs k) (sym (take_all (length order) order (omega arith))) here) first.few (more first.few)
  where
    more : length order ≤ length d.components → length order ≤ suc (length d.components)
    more le = omega arith

-- as many paths as instances
mutual
  pub count_paths : (i : Instance) → length (paths_of i) ≡ instances_below i
  count_paths (Node part cells) = let e : length (paths_below cells 0) ≡ instances_in cells = count_below cells 0 in omega arith

  count_below : (cells : Cells) (c : ℕ) → length (paths_below cells c) ≡ instances_in cells
  count_below no_cells c = refl
  count_below (a_primitive row rest) c = count_below rest (suc c)
  count_below (an_instance child rest) c =
      let own : length (behind c (paths_of child)) ≡ length (paths_of child) = length-map (paths_of child) (λ path. c ∷ path) in
      let all : length (paths_of child) ≡ instances_below child = count_paths child in
      let others : length (paths_below rest (suc c)) ≡ instances_in rest = count_below rest (suc c) in
      let sum : length (behind c (paths_of child) ++ paths_below rest (suc c)) ≡ length (behind c (paths_of child)) + length (paths_below rest (suc c)) = length-append (behind c (paths_of child)) (paths_below rest (suc c)) in
      omega arith

skip : (trees : ℕ → Instance) (kind : PlainKind) (rest : Cells) (c : ℕ) (path : Path) → child_at (add_cell trees kind rest) (suc c) path ≡ child_at rest c path
skip trees (OfPrimitive p) rest c path = refl
skip trees (OfComponent k) rest c path = refl

pub child_is : (trees : ℕ → Instance) (cells : List PlainCell) (c j : ℕ) (cell : PlainCell) (path : Path) → slice_get cells c ≡ Some cell → cell.kind ≡ OfComponent j
    → child_at (cells_for trees cells) c path ≡ instance_at (trees j) path
child_is trees [] c j cell path at is = absurd (none_is_some cell at)
child_is trees (x ∷ cells) zero j cell path at is =
    let same : x ≡ cell = (let e : Some x ≡ Some cell = at in cc) in
    ap (λ kind. child_at (add_cell trees kind (cells_for trees cells)) zero path) (ap (λ y. y.kind) same ∙ is)
child_is trees (x ∷ cells) (suc c) j cell path at is = skip trees x.kind (cells_for trees cells) c path ∙ child_is trees cells c j cell path at is
