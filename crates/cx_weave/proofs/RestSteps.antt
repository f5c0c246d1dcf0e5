-- Idle edges of listed cells, and of all that is below the children among them, child by child.
use Rattle.std.proofs.Common.{◌≡◌, ℕ, zero, suc, ◌+◌, ◌≤◌, ◌<◌, Bool, true, false, ◌||◌, nat_eq, nat_lt, inl, inr, ◌⊎◌, ⊎_elim, List, [], ◌∷◌, ◌++◌, refl, sym, ap, ◌∙◌, subst, arith, if◌then◌else◌}
use Rattle.std.proofs.Math.Path.{fun_ext}
use Rattle.std.proofs.lemmas.Bool.{cases_lt, eqb-true, eqb-false, lt-ltb, le-ltb}
use Rattle.cx_prim.specs.CellStates.{CellState}
use Rattle.cx_meaning.specs.Cycles.{every_cell}
use Rattle.cx_meaning.specs.Designs.{PlainDesign, PlainComponent}
use Rattle.cx_meaning.specs.Instances.{Instance, Node, Cells, no_cells, a_primitive, an_instance, At, Nothing, OfRow, OfInstance, cell_at, cells_of, part_of, Path, State, Set, just, put, under, idle, idle_at, idle_below, instance_at, tree_of}
use Rattle.cx_state.specs.Tables.{IsNumber}
use Rattle.cx_state.specs.States.{PlainInstance, StandsFor, under_path, put_path}
use Rattle.cx_turns.specs.Children.{HasChild, IsPart}
use Rattle.cx_turns.specs.Turns as turns
use Rattle.cx_turns.specs.Turns.{Rested}
use Rattle.cx_turns.proofs.ChildLemmas.{under_child, put_child}
use Rattle.cx_turns.proofs.PathLemmas.{under_put, put_put}
use Rattle.cx_state.proofs.TableLemmas.{further}
use Rattle.cx_weave.specs.Deep.{IsDeep, deep, with_one}
use Rattle.cx_orders.specs.Leaves.{rested}
use Rattle.cx_weave.specs.Strides.{HasRested}
use Rattle.cx_meaning.proofs.InstancesLemmas.{no_child, just_true, just_is}

below_idle : (i : Instance) (c e : ℕ) (below : Path) (x : CellState) → ((child : Instance) → cell_at (cells_of i) c ≡ OfInstance child → ⊥) → idle_at i (c ∷ e ∷ below) x ≡ x
below_idle (Node part cells) c e below x none = no_child cells c e below x none

-- below a child it is idle as the child is
one_child : (cells : Cells) (c e : ℕ) (below : Path) (x : CellState) (child : Instance) → cell_at cells c ≡ OfInstance child → idle_below cells c (e ∷ below) x ≡ idle_at child (e ∷ below) x
one_child no_cells c e below x child is = absurd (let f : Nothing ≡ OfInstance child = is in cc)
one_child (a_primitive row rest) zero e below x child is = absurd (let f : OfRow row ≡ OfInstance child = is in cc)
one_child (a_primitive row rest) (suc c) e below x child is = one_child rest c e below x child is
one_child (an_instance own rest) zero e below x child is = let same : own ≡ child = (let f : OfInstance own ≡ OfInstance child = is in cc) in ap (λ i. idle_at i (e ∷ below) x) same
one_child (an_instance own rest) (suc c) e below x child is = one_child rest c e below x child is

child_idle : (i : Instance) (c e : ℕ) (below : Path) (x : CellState) (child : Instance) → cell_at (cells_of i) c ≡ OfInstance child → idle_at i (c ∷ e ∷ below) x ≡ idle_at child (e ∷ below) x
child_idle (Node part cells) c e below x child is = one_child cells c e below x child is

pick_same : (b c : Bool) (x y : CellState) → b ≡ c → (if b then x else y) ≡ (if c then x else y)
pick_same b c x y e = ap (λ a. if a then x else y) e

-- at first no child is idle below, and at last all of the set
pub deep_none : (top : Set) (i : Instance) (s : State) → turns.rested top i s ≡ deep (λ c. false) top i s
deep_none top i s = fun_ext at
  where
    at : (path : Path) → turns.rested top i s path ≡ deep (λ c. false) top i s path
    at [] = refl
    at (c ∷ []) = refl
    at (c ∷ e ∷ path) = refl

pub deep_all : (below top : Set) (i : Instance) (s : State) → ((c : ℕ) (child : Instance) → cell_at (cells_of i) c ≡ OfInstance child → below c ≡ top c) → deep below top i s ≡ rested i top s
deep_all below top i s same = fun_ext at
  where
    none_or_child : (at : At) → ((child : Instance) → at ≡ OfInstance child → ⊥) ⊎ ((child : Instance) × (at ≡ OfInstance child))
    none_or_child Nothing = inl (λ child e. absurd (let f : Nothing ≡ OfInstance child = e in cc))
    none_or_child (OfRow row) = inl (λ child e. absurd (let f : OfRow row ≡ OfInstance child = e in cc))
    none_or_child (OfInstance child) = inr (child, refl)

    still : (b c : Bool) (x y : CellState) → x ≡ y → (if b then x else y) ≡ (if c then x else y)
    still true true x y e = refl
    still true false x y e = e
    still false true x y e = sym e
    still false false x y e = refl

    at : (path : Path) → deep below top i s path ≡ rested i top s path
    at [] = refl
    at (c ∷ []) = refl
    at (c ∷ e ∷ path) =
        ⊎_elim (λ none. still (below c) (top c) (idle i s (c ∷ e ∷ path)) (s (c ∷ e ∷ path)) (below_idle i c e path (s (c ∷ e ∷ path)) none))
        (λ child. pick_same (below c) (top c) (idle i s (c ∷ e ∷ path)) (s (c ∷ e ∷ path)) (same c child.0 child.1))
        (none_or_child (cell_at (cells_of i) c))

-- A CELL THAT IS NO CHILD changes nothing below
pub deep_skip : (below top : Set) (i : Instance) (s : State) (k : ℕ) → ((child : Instance) → cell_at (cells_of i) k ≡ OfInstance child → ⊥) → deep below top i s ≡ deep (with_one k below) top i s
deep_skip below top i s k none = fun_ext at
  where
    by : (c e : ℕ) (path : Path) (b : Bool) → nat_eq k c ≡ b → (if below c then idle i s (c ∷ e ∷ path) else s (c ∷ e ∷ path)) ≡ (if b || below c then idle i s (c ∷ e ∷ path) else s (c ∷ e ∷ path))
    by c e path false off = refl
    by c e path true on =
        let same : k ≡ c = eqb-true k c on in
        let idles : idle i s (c ∷ e ∷ path) ≡ s (c ∷ e ∷ path) = below_idle i c e path (s (c ∷ e ∷ path)) (subst (λ m. (child : Instance) → cell_at (cells_of i) m ≡ OfInstance child → ⊥) same none) in
        either (below c) idles
      where
        either : (b : Bool) → idle i s (c ∷ e ∷ path) ≡ s (c ∷ e ∷ path) → (if b then idle i s (c ∷ e ∷ path) else s (c ∷ e ∷ path)) ≡ idle i s (c ∷ e ∷ path)
        either true h = refl
        either false h = sym h

    at : (path : Path) → deep below top i s path ≡ deep (with_one k below) top i s path
    at [] = refl
    at (c ∷ []) = refl
    at (c ∷ e ∷ path) = by c e path (nat_eq k c) refl

pub deep_child : (below top : Set) (i : Instance) (s : State) (k : ℕ) (child : Instance) → cell_at (cells_of i) k ≡ OfInstance child → below k ≡ false
    → put k (rested child every_cell (under k (deep below top i s))) (deep below top i s) ≡ deep (with_one k below) top i s
deep_child below top i s k child is off = fun_ext at
  where
    one : (c : ℕ) (b : Bool) → just k c ≡ b → (if b then deep below top i s (k ∷ []) else deep below top i s (c ∷ [])) ≡ deep below top i s (c ∷ [])
    one c true on = ap (λ m. deep below top i s (m ∷ [])) (just_true k c on)
    one c false differ = refl

    idled : (c e : ℕ) (path : Path) → k ≡ c → idle_at child (e ∷ path) (deep below top i s (k ∷ e ∷ path)) ≡ idle i s (c ∷ e ∷ path)
    idled c e path same =
        ap (λ b. idle_at child (e ∷ path) (if b then idle i s (k ∷ e ∷ path) else s (k ∷ e ∷ path))) off
        ∙ sym (child_idle i k e path (s (k ∷ e ∷ path)) child is)
        ∙ ap (λ m. idle i s (m ∷ e ∷ path)) same

    more : (c e : ℕ) (path : Path) (b : Bool) → just k c ≡ b
        → (if b then idle_at child (e ∷ path) (deep below top i s (k ∷ e ∷ path)) else deep below top i s (c ∷ e ∷ path)) ≡ (if b || below c then idle i s (c ∷ e ∷ path) else s (c ∷ e ∷ path))
    more c e path true on = idled c e path (just_true k c on)
    more c e path false differ = refl

    at : (path : Path) → put k (rested child every_cell (under k (deep below top i s))) (deep below top i s) path ≡ deep (with_one k below) top i s path
    at [] = refl
    at (c ∷ []) = one c (just k c) refl
    at (c ∷ e ∷ path) =
        more c e path (just k c) refl ∙ ap (λ b. if b || below c then idle i s (c ∷ e ∷ path) else s (c ∷ e ∷ path)) (just_is k c)

-- THE SAME OF ROWS
module _ (d : PlainDesign) (n : ℕ) where
  pub deep_starts : (old new : List PlainInstance) (top : Set) → Rested d old new n top → IsDeep d old new n (λ c. false) top
  deep_starts old new top rests = record {
    stands = λ path s number stands.
        subst (λ (x : State). StandsFor (tree_of d) new (put_path path x s)) (deep_none top (instance_at (tree_of d) path) (under_path path s)) (rests.stands path s number stands);
    held = rests.held;
  }

  pub deep_ends : (old new : List PlainInstance) (below top : Set) (driven : PlainComponent → Set) → ((path : Path) → IsNumber d n path → top ≡ driven (part_of (instance_at (tree_of d) path)))
      → ((path : Path) (c : ℕ) (child : Instance) → IsNumber d n path → cell_at (cells_of (instance_at (tree_of d) path)) c ≡ OfInstance child → below c ≡ top c) → IsDeep d old new n below top → HasRested d old new n driven
  deep_ends old new below top driven is same rests = record {
    rests = λ path s number stands.
        let i = instance_at (tree_of d) path in
        subst (λ (set : Set). StandsFor (tree_of d) new (put_path path (rested i set (under_path path s)) s)) (is path number)
        (subst (λ (x : State). StandsFor (tree_of d) new (put_path path x s)) (deep_all below top i (under_path path s) (λ c child e. same path c child number e)) (rests.stands path s number stands));
    held = rests.held;
  }

  pub deep_skips : (old new : List PlainInstance) (below top : Set) (k : ℕ) → ((path : Path) (child : Instance) → IsNumber d n path → cell_at (cells_of (instance_at (tree_of d) path)) k ≡ OfInstance child → ⊥) → IsDeep d old new n below top → IsDeep d old new n (with_one k below) top
  deep_skips old new below top k none rests = record {
    stands = λ path s number stands.
        subst (λ (x : State). StandsFor (tree_of d) new (put_path path x s)) (deep_skip below top (instance_at (tree_of d) path) (under_path path s) k (λ child e. none path child number e)) (rests.stands path s number stands);
    held = rests.held;
  }

  pub deep_goes : (old mid new : List PlainInstance) (below top : Set) (k m : ℕ) → IsPart d n k → HasChild d n k m → below k ≡ false → IsDeep d old mid n below top → HasRested d mid new m (λ part. every_cell) → IsDeep d old new n (with_one k below) top
  deep_goes old mid new below top k m part has off rests child = record {
    stands = λ path s number stands.
        let i = instance_at (tree_of d) path in
        let p = part path number in
        let x : State = deep below top i (under_path path s) in
        let t : State = put_path path x s in
        let own : State = rested p.0 every_cell (under k x) in
        let there : instance_at (tree_of d) (path ++ k ∷ []) ≡ p.0 = further (tree_of d) path k p.0 p.1 in
        let seen : under_path (path ++ k ∷ []) t ≡ under k x = under_child path k t ∙ ap (under k) (under_put path x s) in
        let after : StandsFor (tree_of d) new (put_path (path ++ k ∷ []) (rested (instance_at (tree_of d) (path ++ k ∷ [])) every_cell (under_path (path ++ k ∷ []) t)) t) = child.rests (path ++ k ∷ []) t (has path number) (rests.stands path s number stands) in
        let after2 : StandsFor (tree_of d) new (put_path (path ++ k ∷ []) own t) =
        subst (λ (y : State). StandsFor (tree_of d) new (put_path (path ++ k ∷ []) (rested p.0 every_cell y) t)) seen
        (subst (λ j. StandsFor (tree_of d) new (put_path (path ++ k ∷ []) (rested j every_cell (under_path (path ++ k ∷ []) t)) t)) there after) in
        let moved : put_path (path ++ k ∷ []) own t ≡ put_path path (deep (with_one k below) top i (under_path path s)) s =
        put_child path k own t
        ∙ ap (λ (y : State). put_path path (put k own y) t) (under_put path x s)
        ∙ put_put path (put k own x) x s
        ∙ ap (λ (y : State). put_path path y s) (deep_child below top i (under_path path s) k p.0 p.1 off) in
        subst (λ (y : State). StandsFor (tree_of d) new y) moved after2;
    held = λ x input. child.held x input ∙ rests.held x input;
  }

-- the cells below one number more
abbrev pub below_number : ℕ → Set
below_number k c = nat_lt c k

pub one_below : (k : ℕ) → below_number (k + 1) ≡ with_one k (below_number k)
one_below k = fun_ext at
  where
    at : (c : ℕ) → nat_lt c (k + 1) ≡ nat_eq k c || nat_lt c k
    at c = by (nat_eq k c) refl
      where
        by : (b : Bool) → nat_eq k c ≡ b → nat_lt c (k + 1) ≡ b || nat_lt c k
        by true e = lt-ltb c (k + 1) (let same : k ≡ c = eqb-true k c e in omega (arith, same))
        by false e = ⊎_elim
            (λ (less : c < k). lt-ltb c (k + 1) (omega (arith, less)) ∙ sym (lt-ltb c k less))
            (λ (more : k ≤ c).
            let apart : k ≡ c → ⊥ = eqb-false k c e in
            let over : k + 1 ≤ c = further apart more in
            le-ltb c (k + 1) over ∙ sym (le-ltb c k more))
            (cases_lt c k)
          where
            further : (k ≡ c → ⊥) → k ≤ c → k + 1 ≤ c
            further apart more = ⊎_elim (λ (less : k < c). omega (arith, less)) (λ (le : c ≤ k). absurd (apart (omega (arith, more, le)))) (cases_lt k c)

abbrev pub nowhere : Set
nowhere c = false

pub none_below : below_number 0 ≡ nowhere
none_below = fun_ext (λ c. le-ltb c 0 (omega arith))
