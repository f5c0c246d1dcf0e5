-- States that are put at a path.
use Rattle.std.proofs.Common.{◌≡◌, ℕ, zero, suc, Bool, true, false, [], ◌∷◌, ◌++◌, refl, sym, ap, ◌∙◌, subst, if◌then◌else◌}
use Rattle.std.proofs.Math.Path.{fun_ext}
use Rattle.cx_prim.specs.CellStates.{CellState}
use Rattle.cx_meaning.specs.Designs.{no_component}
use Rattle.cx_meaning.specs.Instances.{Instance, Node, Cells, no_cells, a_primitive, an_instance, Path, State, just, under, instance_at, child_at, idle_at, idle_below, IsSettled}
use Rattle.cx_state.specs.States.{put_path, under_path}
use Rattle.cx_meaning.proofs.InstancesLemmas.{just_true, just_same}
use Rattle.cx_state.proofs.StatesLemmas.{put_empty}

abbrev pick : Bool → CellState → CellState → CellState
pick b x y = if b then x else y

pick_true : (b : Bool) (x y : CellState) → b ≡ true → pick b x y ≡ x
pick_true true x y e = refl
pick_true false x y e = absurd (let f : false ≡ true = e in cc)

-- a choice over a choice by the same test
pick_over : (b : Bool) (x u w y : CellState) → (b ≡ true → x ≡ u) → pick b x (pick b w y) ≡ pick b u y
pick_over true x u w y e = e refl
pick_over false x u w y e = refl

-- a choice between a value and what it would be
pick_one : (b : Bool) (x y : CellState) → (b ≡ true → x ≡ y) → pick b x y ≡ y
pick_one true x y e = e refl
pick_one false x y e = refl

under_put_at : (path : Path) (own s : State) (below : Path) → put_path path own s (path ++ below) ≡ own below
under_put_at [] own s below = refl
under_put_at (c ∷ path) own s below =
    pick_true (just c c) (put_path path own (under c s) (path ++ below)) (s (c ∷ (path ++ below))) (just_same c) ∙ under_put_at path own (under c s) below

-- the state that was put at a path is the one there
pub under_put : (path : Path) (own s : State) → under_path path (put_path path own s) ≡ own
under_put path own s = fun_ext (under_put_at path own s)

put_put_at : (path : Path) (own other s : State) (p : Path) → put_path path own (put_path path other s) p ≡ put_path path own s p
put_put_at [] own other s p = refl
put_put_at (c ∷ path) own other s [] = refl
put_put_at (c ∷ path) own other s (e ∷ p) =
    let inner : under c (put_path (c ∷ path) other s) ≡ put_path path other (under c s) =
    fun_ext (λ q. pick_true (just c c) (put_path path other (under c s) q) (s (c ∷ q)) (just_same c)) in
    pick_over (just c e) (put_path path own (under c (put_path (c ∷ path) other s)) p) (put_path path own (under c s) p) (put_path path other (under c s) p) (s (e ∷ p))
    (λ same. ap (λ (t : State). put_path path own t p) inner ∙ put_put_at path own other (under c s) p)

-- what was put there before does not matter
pub put_put : (path : Path) (own other s : State) → put_path path own (put_path path other s) ≡ put_path path own s
put_put path own other s = fun_ext (put_put_at path own other s)

put_same_at : (path : Path) (s : State) (p : Path) → put_path path (under_path path s) s p ≡ s p
put_same_at [] s p = refl
put_same_at (c ∷ path) s [] = refl
put_same_at (c ∷ path) s (e ∷ p) =
    pick_one (just c e) (put_path path (under_path path (under c s)) (under c s) p) (s (e ∷ p))
    (λ same. put_same_at path (under c s) p ∙ ap (λ k. s (k ∷ p)) (just_true c e same))

-- a state put back where it was
pub put_same : (path : Path) (s : State) → put_path path (under_path path s) s ≡ s
put_same path s = fun_ext (put_same_at path s)

-- SETTLED STATES
none_idle : (below : Path) (d : CellState) → idle_at (Node no_component no_cells) below d ≡ d
none_idle [] d = refl
none_idle (c ∷ below) d = refl

mutual
  deeper : (i : Instance) (path below : Path) (d : CellState) → idle_at i (path ++ below) d ≡ d → idle_at (instance_at i path) below d ≡ d
  deeper (Node part cells) [] below d h = h
  deeper (Node part cells) (c ∷ path) below d h = deeper_below cells c path below d h

  deeper_below : (cells : Cells) (c : ℕ) (path below : Path) (d : CellState) → idle_below cells c (path ++ below) d ≡ d → idle_at (child_at cells c path) below d ≡ d
  deeper_below no_cells c path below d h = none_idle below d
  deeper_below (a_primitive row rest) zero path below d h = none_idle below d
  deeper_below (a_primitive row rest) (suc c) path below d h = deeper_below rest c path below d h
  deeper_below (an_instance child rest) zero path below d h = deeper child path below d h
  deeper_below (an_instance child rest) (suc c) path below d h = deeper_below rest c path below d h

-- where a state is settled it is so in every instance
pub settled_under : (i : Instance) (path : Path) (s : State) → IsSettled i s → IsSettled (instance_at i path) (under_path path s)
settled_under i path s h below = deeper i path below (s (path ++ below)) (h (path ++ below))

pick_settled : (b : Bool) (idles : CellState → CellState) (x y : CellState) → (b ≡ true → idles x ≡ x) → idles y ≡ y → idles (pick b x y) ≡ pick b x y
pick_settled true idles x y h k = h refl
pick_settled false idles x y h k = k

mutual
  put_settled_at : (i : Instance) (path : Path) (own s : State) → IsSettled i s → IsSettled (instance_at i path) own → own [] ≡ s path → (p : Path) → idle_at i p (put_path path own s p) ≡ put_path path own s p
  put_settled_at (Node part cells) [] own s h k here p = k p
  put_settled_at (Node part cells) (c ∷ path) own s h k here [] = refl
  put_settled_at (Node part cells) (c ∷ path) own s h k here (e ∷ q) =
      pick_settled (just c e) (idle_below cells e q) (put_path path own (under c s) q) (s (e ∷ q))
      (λ same. subst (λ x. idle_below cells x q (put_path path own (under c s) q) ≡ put_path path own (under c s) q) (just_true c e same) (put_settled_below cells c path own (under c s) (λ r. h (c ∷ r)) k here q))
      (h (e ∷ q))

  put_settled_below : (cells : Cells) (c : ℕ) (path : Path) (own s : State) → ((q : Path) → idle_below cells c q (s q) ≡ s q) → IsSettled (child_at cells c path) own → own [] ≡ s path → (q : Path) → idle_below cells c q (put_path path own s q) ≡ put_path path own s q
  put_settled_below no_cells c path own s h k here q = refl
  put_settled_below (a_primitive row rest) zero path own s h k here [] =
      let same : put_path path own s [] ≡ s [] = put_empty path own s (λ e. here ∙ ap s e) in
      subst (λ x. row.idle x ≡ x) (sym same) (h [])
  put_settled_below (a_primitive row rest) zero path own s h k here (e ∷ q) = refl
  put_settled_below (a_primitive row rest) (suc c) path own s h k here q = put_settled_below rest c path own s h k here q
  put_settled_below (an_instance child rest) zero path own s h k here q = put_settled_at child path own s h k here q
  put_settled_below (an_instance child rest) (suc c) path own s h k here q = put_settled_below rest c path own s h k here q

-- where a state is settled, it stays so with a settled one at a path
pub settled_put : (i : Instance) (path : Path) (own s : State) → IsSettled i s → IsSettled (instance_at i path) own → own [] ≡ s path → IsSettled i (put_path path own s)
settled_put i path own s h k here p = put_settled_at i path own s h k here p
