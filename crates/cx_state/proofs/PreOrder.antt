-- Numbers of instances in pre-order: where an instance stands, and where those at its cells do.
use Rattle.std.proofs.Common.{◌≡◌, ℕ, zero, suc, ◌+◌, ◌-◌, ◌<◌, ◌≤◌, inl, inr, ◌⊎◌, ⊎_elim, [], ◌∷◌, ◌++◌, length, Some, option_map, refl, sym, ap, ◌∙◌, subst, arith}
use Rattle.std.specs.List.{slice_get}
use Rattle.std.proofs.lemmas.Bool.{cases_lt}
use Rattle.std.proofs.lemmas.List.{length-map}
use Rattle.std.proofs.lemmas.Option.{slice_get-map}
use Rattle.cx_prim.specs.Rows.{Row}
use Rattle.cx_meaning.specs.Designs.{PlainComponent}
use Rattle.cx_meaning.specs.Instances.{Instance, Node, Cells, no_cells, a_primitive, an_instance, OfInstance, cell_at, cells_of, Path, behind, paths_of, paths_below, instance_at, child_at}
use Rattle.cx_rules.specs.Sizes.{instances_below, instances_in}
use Rattle.cx_state.proofs.TreeLemmas.{count_paths}
use Rattle.cx_state.proofs.StandLemmas.{shift}
use Rattle.cx_text.proofs.OptionLaws.{map_some, none_is_some}
use Rattle.cx_meaning.proofs.InstancesLemmas.{main_path}
use Rattle.cx_text.proofs.ListLaws.{behind as slice_get-append, there_below, append-front}

-- the instances at the cells before one
abbrev pub before : Cells → ℕ → ℕ
before no_cells c = 0
before (a_primitive row rest) zero = 0
before (a_primitive row rest) (suc c) = before rest c
before (an_instance child rest) zero = 0
before (an_instance child rest) (suc c) = instances_below child + before rest c

-- the instance above, and its cell
pub record HasParent (i : Instance) (j : ℕ) (q : Path) : Type 0 where
  pub number : ℕ
  pub path : Path
  pub cell : ℕ
  pub child : Instance
  pub at : slice_get (paths_of i) number ≡ Some path
  pub is : q ≡ path ++ cell ∷ []
  pub stands : cell_at (cells_of (instance_at i path)) cell ≡ OfInstance child
  pub follows : j ≡ suc (number + before (cells_of (instance_at i path)) cell)

-- what is known of the instance at a path by its number
pub record Stands (i : Instance) (j : ℕ) (q : Path) : Type 0 where
  pub room : j + instances_below (instance_at i q) ≤ instances_below i
  pub child : (c : ℕ) (child : Instance) → cell_at (cells_of (instance_at i q)) c ≡ OfInstance child
      → slice_get (paths_of i) (suc (j + before (cells_of (instance_at i q)) c)) ≡ Some (q ++ c ∷ [])
  pub parent : (j ≡ 0) ⊎ HasParent i j q

-- the same among cells, of which the first has the number k
pub record InnerParent (cells : Cells) (k j entered : ℕ) (rest : Path) : Type 0 where
  pub number : ℕ
  pub path : Path
  pub cell : ℕ
  pub child : Instance
  pub at : slice_get (paths_below cells k) number ≡ Some ((k + entered) ∷ path)
  pub is : rest ≡ path ++ cell ∷ []
  pub stands : cell_at (cells_of (child_at cells entered path)) cell ≡ OfInstance child
  pub follows : j ≡ suc (number + before (cells_of (child_at cells entered path)) cell)

pub record OuterParent (cells : Cells) (j entered : ℕ) (rest : Path) : Type 0 where
  pub child : Instance
  pub own : rest ≡ []
  pub stands : cell_at cells entered ≡ OfInstance child
  pub follows : j ≡ before cells entered

pub record StandsBelow (cells : Cells) (k j : ℕ) (q : Path) : Type 0 where
  pub entered : ℕ
  pub rest : Path
  pub is : q ≡ (k + entered) ∷ rest
  pub room : j + instances_below (child_at cells entered rest) ≤ instances_in cells
  pub child : (c : ℕ) (child : Instance) → cell_at (cells_of (child_at cells entered rest)) c ≡ OfInstance child
      → slice_get (paths_below cells k) (suc (j + before (cells_of (child_at cells entered rest)) c)) ≡ Some ((k + entered) ∷ (rest ++ c ∷ []))
  pub parent : OuterParent cells j entered rest ⊎ InnerParent cells k j entered rest

-- behind a cell: the paths of its instance come first
module _ (child : Instance) (rest : Cells) (k : ℕ) where
  size : length (behind k (paths_of child)) ≡ instances_below child
  size = length-map (paths_of child) (λ path. k ∷ path) ∙ count_paths child

  inside : (j : ℕ) (x : Path) → slice_get (paths_of child) j ≡ Some x → slice_get (paths_below (an_instance child rest) k) j ≡ Some ((k + 0) ∷ x)
  inside j x e =
      let lt : j < length (paths_of child) = there_below (paths_of child) j x e in
      let within : j < length (behind k (paths_of child)) = subst (λ n. j < n) (sym (length-map (paths_of child) (λ path. k ∷ path))) lt in
      let same : k ≡ k + 0 = omega arith in
      append-front (behind k (paths_of child)) (paths_below rest (suc k)) j within
      ∙ slice_get-map (λ path. k ∷ path) (paths_of child) j
      ∙ ap (option_map (λ path. k ∷ path)) e
      ∙ ap (λ n. Some (n ∷ x)) same

  inside_back : (j : ℕ) (q : Path) → j < instances_below child → slice_get (paths_below (an_instance child rest) k) j ≡ Some q
      → (x : Path) × (slice_get (paths_of child) j ≡ Some x) × (k ∷ x ≡ q)
  inside_back j q lt e =
      let within : j < length (behind k (paths_of child)) = omega (arith, size) in
      map_some (λ x. k ∷ x) (slice_get (paths_of child) j) q
      (sym (slice_get-map (λ x. k ∷ x) (paths_of child) j) ∙ sym (append-front (behind k (paths_of child)) (paths_below rest (suc k)) j within) ∙ e)

  past : (j : ℕ) → slice_get (paths_below (an_instance child rest) k) (instances_below child + j) ≡ slice_get (paths_below rest (suc k)) j
  past j = slice_get-append (behind k (paths_of child)) (paths_below rest (suc k)) (instances_below child + j) j (omega (arith, size))

-- a primitive cell before
beside_primitive : (cells : Cells) (k j : ℕ) (q : Path) (row : Row) → StandsBelow cells (suc k) j q → StandsBelow (a_primitive row cells) k j q
beside_primitive cells k j q row b = record {
  entered = suc b.entered;
  rest = b.rest;
  is = b.is ∙ ap (λ n. n ∷ b.rest) (shift k b.entered);
  room = b.room;
  child = λ c child at. b.child c child at ∙ ap (λ n. Some (n ∷ (b.rest ++ c ∷ []))) (shift k b.entered);
  parent = ⊎_elim
      (λ (p : OuterParent cells j b.entered b.rest). inl (record { child = p.child; own = p.own; stands = p.stands; follows = p.follows }))
      (λ (p : InnerParent cells (suc k) j b.entered b.rest). inr (record {
        number = p.number;
        path = p.path;
        cell = p.cell;
        child = p.child;
        at = p.at ∙ ap (λ n. Some (n ∷ p.path)) (shift k b.entered);
        is = p.is;
        stands = p.stands;
        follows = p.follows;
      })) b.parent;
}

-- an instance before
beside_instance : (one : Instance) (cells : Cells) (k j : ℕ) (q : Path) → StandsBelow cells (suc k) j q → StandsBelow (an_instance one cells) k (instances_below one + j) q
beside_instance one cells k j q b = record {
  entered = suc b.entered;
  rest = b.rest;
  is = b.is ∙ ap (λ n. n ∷ b.rest) (shift k b.entered);
  room = (let r : j + instances_below (child_at cells b.entered b.rest) ≤ instances_in cells = b.room in omega arith);
  child = λ c child at.
      let n : suc (instances_below one + j + before (cells_of (child_at cells b.entered b.rest)) c) ≡ instances_below one + suc (j + before (cells_of (child_at cells b.entered b.rest)) c) = omega arith in
      ap (slice_get (paths_below (an_instance one cells) k)) n
      ∙ past one cells k (suc (j + before (cells_of (child_at cells b.entered b.rest)) c))
      ∙ b.child c child at ∙ ap (λ n. Some (n ∷ (b.rest ++ c ∷ []))) (shift k b.entered);
  parent = ⊎_elim
      (λ (p : OuterParent cells j b.entered b.rest). inl (record { child = p.child; own = p.own; stands = p.stands; follows = ap (λ n. instances_below one + n) p.follows }))
      (λ (p : InnerParent cells (suc k) j b.entered b.rest). inr (record {
        number = instances_below one + p.number;
        path = p.path;
        cell = p.cell;
        child = p.child;
        at = past one cells k p.number ∙ p.at ∙ ap (λ n. Some (n ∷ p.path)) (shift k b.entered);
        is = p.is;
        stands = p.stands;
        follows = (let f : j ≡ suc (p.number + before (cells_of (child_at cells b.entered p.path)) p.cell) = p.follows in omega arith);
      })) b.parent;
}

-- within the instance of the first cell
within_instance : (one : Instance) (cells : Cells) (k j : ℕ) (q x : Path) → slice_get (paths_of one) j ≡ Some x → k ∷ x ≡ q → Stands one j x → StandsBelow (an_instance one cells) k j q
within_instance one cells k j q x at e b = record {
  entered = 0;
  rest = x;
  is = sym e ∙ (let same : k ≡ k + 0 = omega arith in ap (λ n. n ∷ x) same);
  room = (let r : j + instances_below (instance_at one x) ≤ instances_below one = b.room in omega arith);
  child = λ c child stands. inside one cells k (suc (j + before (cells_of (instance_at one x)) c)) (x ++ c ∷ []) (b.child c child stands);
  parent = ⊎_elim
      (λ (z : j ≡ 0). inl (record { child = one; own = main_path one x (sym (ap (slice_get (paths_of one)) z) ∙ at); stands = refl; follows = z }))
      (λ (p : HasParent one j x). inr (record {
        number = p.number;
        path = p.path;
        cell = p.cell;
        child = p.child;
        at = inside one cells k p.number p.path p.at;
        is = p.is;
        stands = p.stands;
        follows = p.follows;
      })) b.parent;
}

-- the cells of an instance itself
child_first : (cells : Cells) (k c : ℕ) (child : Instance) → cell_at cells c ≡ OfInstance child → slice_get (paths_below cells k) (before cells c) ≡ Some ((k + c) ∷ [])
child_first no_cells k c child e = cc
child_first (a_primitive row rest) k zero child e = cc
child_first (a_primitive row rest) k (suc c) child e = child_first rest (suc k) c child e ∙ ap (λ n. Some (n ∷ [])) (shift k c)
child_first (an_instance (Node part own) rest) k zero child e = let same : k ≡ k + 0 = omega arith in ap (λ n. Some (n ∷ [])) same
child_first (an_instance one rest) k (suc c) child e = past one rest k (before rest c) ∙ child_first rest (suc k) c child e ∙ ap (λ n. Some (n ∷ [])) (shift k c)

own_stands : (part : PlainComponent) (cells : Cells) (q : Path) → q ≡ [] → Stands (Node part cells) 0 q
own_stands part cells q e =
    subst (Stands (Node part cells) 0) (sym e)
    (record {
      room = omega arith;
      child = λ c child at.
          let zero_and : before cells c ≡ 0 + before cells c = omega arith in
          let same : 0 + c ≡ c = omega arith in
          ap (slice_get (paths_below cells 0)) (sym zero_and) ∙ child_first cells 0 c child at ∙ ap (λ n. Some (n ∷ [])) same;
      parent = inl refl;
    })

inner_stands : (part : PlainComponent) (cells : Cells) (j : ℕ) (q : Path) → StandsBelow cells 0 j q → Stands (Node part cells) (suc j) q
inner_stands part cells j q b = subst (Stands (Node part cells) (suc j)) (sym (b.is ∙ ap (λ n. n ∷ b.rest) same)) there
  where
    same : 0 + b.entered ≡ b.entered
    same = omega arith

    next : (n : ℕ) → suc (suc j + n) ≡ suc (suc (j + n))
    next n = omega arith

    there : Stands (Node part cells) (suc j) (b.entered ∷ b.rest)
    there = record {
      room = (let r : j + instances_below (child_at cells b.entered b.rest) ≤ instances_in cells = b.room in omega arith);
      child = λ c child at.
          ap (slice_get (paths_of (Node part cells))) (next (before (cells_of (child_at cells b.entered b.rest)) c))
          ∙ b.child c child at ∙ ap (λ n. Some (n ∷ (b.rest ++ c ∷ []))) same;
      parent = ⊎_elim
          (λ (p : OuterParent cells j b.entered b.rest). inr (record {
            number = 0;
            path = [];
            cell = b.entered;
            child = p.child;
            at = refl;
            is = ap (λ r. b.entered ∷ r) p.own;
            stands = p.stands;
            follows = (let f : j ≡ before cells b.entered = p.follows in omega arith);
          }))
          (λ (p : InnerParent cells 0 j b.entered b.rest). inr (record {
            number = suc p.number;
            path = b.entered ∷ p.path;
            cell = p.cell;
            child = p.child;
            at = p.at ∙ ap (λ n. Some (n ∷ p.path)) same;
            is = ap (λ r. b.entered ∷ r) p.is;
            stands = p.stands;
            follows = (let f : j ≡ suc (p.number + before (cells_of (child_at cells b.entered p.path)) p.cell) = p.follows in omega arith);
          })) b.parent;
    }

mutual
  pub stands : (i : Instance) (j : ℕ) (q : Path) → slice_get (paths_of i) j ≡ Some q → Stands i j q
  stands (Node part cells) zero q e = own_stands part cells q (main_path (Node part cells) q e)
  stands (Node part cells) (suc j) q e = inner_stands part cells j q (stands_below cells 0 j q e)

  stands_below : (cells : Cells) (k j : ℕ) (q : Path) → slice_get (paths_below cells k) j ≡ Some q → StandsBelow cells k j q
  stands_below no_cells k j q e = absurd (none_is_some q e)
  stands_below (a_primitive row rest) k j q e = beside_primitive rest k j q row (stands_below rest (suc k) j q e)
  stands_below (an_instance child rest) k j q e =
      ⊎_elim
      (λ lt. let x = inside_back child rest k j q lt e in within_instance child rest k j q x.0 x.1 x.2 (stands child j x.0 x.1))
      (λ le.
      let split : instances_below child + (j - instances_below child) ≡ j = omega arith in
      subst (λ n. StandsBelow (an_instance child rest) k n q) split
      (beside_instance child rest k (j - instances_below child) q
      (stands_below rest (suc k) (j - instances_below child) q
      (sym (past child rest k (j - instances_below child)) ∙ ap (slice_get (paths_below (an_instance child rest) k)) split ∙ e))))
      (cases_lt j (instances_below child))
