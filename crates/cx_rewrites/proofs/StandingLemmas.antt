-- What is done with states keeps them the same in the cells that count.
use Rattle.std.proofs.Common.{◌≡◌, ℕ, zero, suc, ◌+◌, Bool, true, false, [], ◌∷◌, refl, sym, ap, ◌∙◌, subst, arith}
use Rattle.std.specs.Prelude.{if◌then◌else◌}
use Rattle.cx_prim.specs.CellStates.{CellState}
use Rattle.cx_prim.specs.Rows.{Row}
use Rattle.cx_meaning.specs.Designs.{PlainComponent}
use Rattle.cx_meaning.specs.Instances.{Instance, Node, Cells, no_cells, a_primitive, an_instance, OfInstance, cell_at, cells_of, Path, State, Set, under, merge, just, put, idle_at, idle_below, idle}
use Rattle.cx_rewrites.specs.Standing.{renumbered, renumbered_below, holds, holds_below, Stands, IsRenumbered, AreRenumbered}
use Rattle.cx_meaning.proofs.InstancesLemmas.{just_true, idle_below-row}

pub idle_below-child : (cells : Cells) (c : ℕ) (child : Instance) (path : Path) (d : CellState) → cell_at cells c ≡ OfInstance child → idle_below cells c path d ≡ idle_at child path d
idle_below-child no_cells c child path d e = absurd (cc)
idle_below-child (a_primitive own rest) zero child path d e = absurd (cc)
idle_below-child (a_primitive own rest) (suc c) child path d e = idle_below-child rest c child path d e
idle_below-child (an_instance own rest) zero child path d e = let same : own ≡ child = cc in ap (λ x. idle_at x path d) same
idle_below-child (an_instance own rest) (suc c) child path d e = idle_below-child rest c child path d e

idle_at-cells : (j : Instance) (c : ℕ) (path : Path) (d : CellState) → idle_at j (c ∷ path) d ≡ idle_below (cells_of j) c path d
idle_at-cells (Node part cells) c path d = refl

module _ (number : PlainComponent → ℕ → ℕ) (counts : Row → Bool) where
  child_holds : (cells : Cells) (c : ℕ) (child : Instance) (path : Path) → cell_at cells c ≡ OfInstance child → holds_below counts cells c path ≡ holds counts child path
  child_holds no_cells c child path e = absurd (cc)
  child_holds (a_primitive row rest) zero child path e = absurd (cc)
  child_holds (a_primitive row rest) (suc c) child path e = child_holds rest c child path e
  child_holds (an_instance own rest) zero child path e = let same : own ≡ child = cc in ap (λ x. holds counts x path) same
  child_holds (an_instance own rest) (suc c) child path e = child_holds rest c child path e

  child_renumbered : (cells : Cells) (c : ℕ) (child : Instance) (path : Path) → cell_at cells c ≡ OfInstance child → renumbered_below number cells c path ≡ renumbered number child path
  child_renumbered no_cells c child path e = absurd (cc)
  child_renumbered (a_primitive row rest) zero child path e = absurd (cc)
  child_renumbered (a_primitive row rest) (suc c) child path e = child_renumbered rest c child path e
  child_renumbered (an_instance own rest) zero child path e = let same : own ≡ child = cc in ap (λ x. renumbered number x path) same
  child_renumbered (an_instance own rest) (suc c) child path e = child_renumbered rest c child path e

  -- the state of a child
  pub under_stands : (part : PlainComponent) (cells : Cells) (c : ℕ) (child : Instance) (s z : State) → cell_at cells c ≡ OfInstance child → Stands number counts (Node part cells) s z
      → Stands number counts child (under c s) (under (number part c) z)
  under_stands part cells c child s z at h path on =
      ap (λ p. z (number part c ∷ p)) (sym (child_renumbered cells c child path at)) ∙ h (c ∷ path) (child_holds cells c child path at ∙ on)

  -- merged states, where both sets say the same of each cell that counts, or has such a cell below it
  pub merge_stands : (part : PlainComponent) (cells : Cells) (set other : Set) (a c b d : State)
      → ((e : ℕ) (path : Path) → holds_below counts cells e path ≡ true → other (number part e) ≡ set e)
      → Stands number counts (Node part cells) a b → Stands number counts (Node part cells) c d → Stands number counts (Node part cells) (merge set a c) (merge other b d)
  merge_stands part cells set other a c b d same h k [] on = absurd (cc)
  merge_stands part cells set other a c b d same h k (e ∷ path) on =
      ap (λ t. if t then b (number part e ∷ renumbered_below number cells e path) else d (number part e ∷ renumbered_below number cells e path)) (same e path on) ∙ one (set e)
    where
      one : (t : Bool) → (if t then b (number part e ∷ renumbered_below number cells e path) else d (number part e ∷ renumbered_below number cells e path)) ≡ (if t then a (e ∷ path) else c (e ∷ path))
      one true = h (e ∷ path) on
      one false = k (e ∷ path) on

  -- a child's state, put back
  pub put_stands : (part : PlainComponent) (cells : Cells) (c : ℕ) (child : Instance) (own twin s z : State) → cell_at cells c ≡ OfInstance child
      → ((e : ℕ) (path : Path) → holds_below counts cells e path ≡ true → just (number part c) (number part e) ≡ just c e)
      → Stands number counts child own twin → Stands number counts (Node part cells) s z → Stands number counts (Node part cells) (put c own s) (put (number part c) twin z)
  put_stands part cells c child own twin s z at same h k [] on = absurd (cc)
  put_stands part cells c child own twin s z at same h k (e ∷ path) on =
      ap (λ t. if t then twin (renumbered_below number cells e path) else z (number part e ∷ renumbered_below number cells e path)) (same e path on) ∙ by (just c e) refl
    where
      by : (t : Bool) → just c e ≡ t → (if t then twin (renumbered_below number cells e path) else z (number part e ∷ renumbered_below number cells e path)) ≡ (if t then own path else s (e ∷ path))
      by false differ = k (e ∷ path) on
      by true is =
          let there : cell_at cells e ≡ OfInstance child = subst (λ n. cell_at cells n ≡ OfInstance child) (just_true c e is) at in
          ap twin (child_renumbered cells e child path there) ∙ h path (sym (child_holds cells e child path there) ∙ on)

  -- an idle edge
  mutual
    idle_at-renumbered : (i j : Instance) (path : Path) (d : CellState) → IsRenumbered number counts i j → holds counts i path ≡ true → idle_at j (renumbered number i path) d ≡ idle_at i path d
    idle_at-renumbered (Node part cells) j [] d h on = absurd (cc)
    idle_at-renumbered (Node part cells) j (c ∷ path) d h on =
        let first : c ≡ 0 + c = omega arith in
        idle_at-cells j (number part c) (renumbered_below number cells c path) d
        ∙ ap (λ k. idle_below (cells_of j) (number part k) (renumbered_below number cells c path) d) first
        ∙ idle_below-renumbered part cells 0 j c path d h on

    -- cell k of the cells from cell c on
    idle_below-renumbered : (part : PlainComponent) (cells : Cells) (c : ℕ) (j : Instance) (k : ℕ) (path : Path) (d : CellState) → AreRenumbered number counts part cells c j → holds_below counts cells k path ≡ true
        → idle_below (cells_of j) (number part (c + k)) (renumbered_below number cells k path) d ≡ idle_below cells k path d
    idle_below-renumbered part no_cells c j k path d h on = absurd (cc)
    idle_below-renumbered part (a_primitive row rest) c j zero [] d (h, hs) on =
        let here : c + 0 ≡ c = omega arith in
        ap (λ n. idle_below (cells_of j) (number part n) [] d) here ∙ idle_below-row (cells_of j) (number part c) row d (h on)
    idle_below-renumbered part (a_primitive row rest) c j zero (e ∷ path) d (h, hs) on = absurd (cc)
    idle_below-renumbered part (a_primitive row rest) c j (suc k) path d (h, hs) on =
        let next : c + suc k ≡ suc c + k = omega arith in
        ap (λ n. idle_below (cells_of j) (number part n) (renumbered_below number rest k path) d) next ∙ idle_below-renumbered part rest (suc c) j k path d hs on
    idle_below-renumbered part (an_instance child rest) c j zero path d ((twin, at, h), hs) on =
        let here : c + 0 ≡ c = omega arith in
        ap (λ n. idle_below (cells_of j) (number part n) (renumbered number child path) d) here
        ∙ idle_below-child (cells_of j) (number part c) twin (renumbered number child path) d at
        ∙ idle_at-renumbered child twin path d h on
    idle_below-renumbered part (an_instance child rest) c j (suc k) path d (h, hs) on =
        let next : c + suc k ≡ suc c + k = omega arith in
        ap (λ n. idle_below (cells_of j) (number part n) (renumbered_below number rest k path) d) next ∙ idle_below-renumbered part rest (suc c) j k path d hs on

  pub idle_stands : (i j : Instance) (s z : State) → IsRenumbered number counts i j → Stands number counts i s z → Stands number counts i (idle i s) (idle j z)
  idle_stands i j s z tree h path on = ap (idle_at j (renumbered number i path)) (h path on) ∙ idle_at-renumbered i j path (s path) tree on
