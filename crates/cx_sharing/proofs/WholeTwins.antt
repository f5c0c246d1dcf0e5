-- THE TREES of a design with static components and of the shared design: at each cell's new number stands what stands at the cell, the cells that
-- static invokes name are no candidates, and so it is in each child.
use Rattle.std.proofs.Common.{◌≡◌, ℕ, zero, suc, ◌+◌, ◌<◌, ◌≤◌, ⊎_elim, Bool, true, false, List, [], ◌∷◌, length, Some, refl, sym, ap, ◌∙◌, subst, arith}
use Rattle.std.specs.Prelude.{nat_eq, if◌then◌else◌}
use Rattle.std.proofs.lemmas.Bool.{cases_lt, eqb-true, eq-eqb}
use Rattle.std.proofs.lemmas.List.{get_or_past}
use Rattle.cx_text.specs.Members.{In}
use Rattle.cx_prim.specs.Rows.{Row}
use Rattle.cx_prim.specs.Table.{row_of}
use Rattle.cx_meaning.specs.Designs.{PlainKind, OfPrimitive, OfComponent, PlainCell, PlainGroup, PlainComponent, PlainDesign, component_at, no_component, group_at, no_group}
use Rattle.cx_meaning.specs.Instances.{Instance, Node, Cells, no_cells, a_primitive, an_instance, OfInstance, part_of, cells_of, cell_at, add_cell, cells_for, tree_within}
use Rattle.cx_meaning.proofs.DesignsLemmas.{same_part}
use Rattle.cx_meaning.proofs.InstancesLemmas.{at_kind}
use Rattle.cx_rules.specs.Accepted.{IsAccepted}
use Rattle.cx_rules.specs.Wellformed.{IsDesign}
use Rattle.cx_rules.specs.Ports.{component_of}
use Rattle.cx_flattening.specs.Ends.{NoneNamesDone}
use Rattle.cx_flattening.proofs.Ruled.{ruled}
use Rattle.cx_sharing.specs.Uses.{kind_in, is_candidate}
use Rattle.cx_sharing.specs.Giving.{keeper, stays, staying, new_cell}
use Rattle.cx_sharing.specs.SharedDesign.{remaining, shared_design}
use Rattle.cx_sharing.proofs.KeptLemmas.{keeper_stays}
use Rattle.cx_sharing.proofs.KeeperLemmas.{keeper_within}
use Rattle.cx_sharing.proofs.RemainingLemmas.{staying_within, cell_is}
use Rattle.cx_sharing.proofs.TwinLemmas.{IsTwin, shared_component, other_stays, part_other, own_number}
use Rattle.cx_sharing.proofs.SharedParts.{shared_kind, component-shares}
use Rattle.cx_sharing.proofs.RestsShared.{HasInputs}
use Rattle.cx_sharing.proofs.InvokesShared.{NoneInvoked, none_invoked}
use Rattle.cx_sharing.proofs.SharedLeaves.{IsFit}
use Rattle.cx_sharing.proofs.SharedTrees.{fit_tree, tree_is_twin}

mutual
  -- an instance and the one of the shared tree
  pub data Twins : Instance → Instance → Type 0 where
    twins : {part other : PlainComponent} {cells kin : Cells} → IsTwin (Node part cells) (Node other kin) → IsFit (Node part cells) → NoneInvoked part
        → Remain (Node part cells) (Node other kin) 0 cells kin → Twins (Node part cells) (Node other kin)

  -- the cells from cell c on, and those that are left of them
  pub data Remain : Instance → Instance → ℕ → Cells → Cells → Type 0 where
    none_left : {i j : Instance} {c : ℕ} → Remain i j c no_cells no_cells
    a_row_stays : {i j : Instance} {c : ℕ} {rest more : Cells} (row twin : Row) → stays (part_of i) c ≡ true → Remain i j (suc c) rest more → Remain i j c (a_primitive row rest) (a_primitive twin more)
    a_row_goes : {i j : Instance} {c : ℕ} {rest more : Cells} (row : Row) → stays (part_of i) c ≡ false → Remain i j (suc c) rest more → Remain i j c (a_primitive row rest) more
    a_child : {i j : Instance} {c : ℕ} {rest more : Cells} (child twin : Instance) → cell_at (cells_of i) c ≡ OfInstance child → cell_at (cells_of j) (new_cell (part_of i) c) ≡ OfInstance twin
        → is_candidate (part_of i) c ≡ false → Twins child twin → Remain i j (suc c) rest more → Remain i j c (an_instance child rest) (an_instance twin more)

pub twin_of : {i j : Instance} → Twins i j → IsTwin i j
twin_of (twins twin fit none remain) = twin

pub fit_of : {i j : Instance} → Twins i j → IsFit i
fit_of (twins twin fit none remain) = fit

-- the place of a cell that stays among those that are left, and of the one behind it
pub staying_next : (set : ℕ → Bool) (c : ℕ) (b : Bool) → set c ≡ b → staying set (suc c) ≡ (if b then suc (staying set c) else staying set c)
staying_next set c b e = ap (λ x. if x then suc (staying set c) else staying set c) e

-- a cell that is no candidate has its number alone
pub same_number : (part : PlainComponent) (x c : ℕ) → is_candidate part c ≡ false → nat_eq (new_cell part x) (new_cell part c) ≡ nat_eq x c
same_number part x c none = by (nat_eq x c) refl (nat_eq (new_cell part x) (new_cell part c)) refl
  where
    by : (a : Bool) → nat_eq x c ≡ a → (b : Bool) → nat_eq (new_cell part x) (new_cell part c) ≡ b → b ≡ a
    by true e true f = refl
    by false e false f = refl
    by true e false f = sym f ∙ eq-eqb (new_cell part x) (new_cell part c) (ap (new_cell part) (eqb-true x c e))
    by false e true f = sym (eq-eqb x c (sym (own_number part c x none (sym (eqb-true (new_cell part x) (new_cell part c) f))))) ∙ e

-- THE CELLS of a component that is shared
module _ (part other : PlainComponent) (f g : ℕ → Instance) (same : other.cells ≡ remaining (stays part) 0 part.cells) (each : (k : ℕ) → Twins (f k) (g k)) where
  abbrev i : Instance
  i = Node part (cells_for f part.cells)

  abbrev j : Instance
  j = Node other (cells_for g other.cells)

  child_here : (c k : ℕ) → c < length part.cells → kind_in part.cells c ≡ OfComponent k → cell_at (cells_of i) c ≡ OfInstance (f k)
  child_here c k within kind = cell_is f part.cells c within ∙ ap (at_kind f) kind

  child_there : (c k : ℕ) → c < length part.cells → kind_in part.cells c ≡ OfComponent k → cell_at (cells_of j) (new_cell part c) ≡ OfInstance (g k)
  child_there c k within kind =
      ap (λ list. cell_at (cells_for g list) (new_cell part c)) same
      ∙ cell_is g (remaining (stays part) 0 part.cells) (new_cell part c) (staying_within (stays part) part.cells (keeper part c) (keeper_stays part c) (keeper_within part c within))
      ∙ ap (at_kind g) (shared_kind part c ∙ kind)

  -- those of a kind
  of_kind : (c : ℕ) (kind : PlainKind) (b : Bool) (rest more : Cells) → c < length part.cells → kind_in part.cells c ≡ kind → stays part c ≡ b → Remain i j (suc c) rest more
      → Remain i j c (add_cell f kind rest) (if b then add_cell g kind more else more)
  of_kind c (OfPrimitive p) true rest more within is on remain = a_row_stays (row_of p) (row_of p) on remain
  of_kind c (OfPrimitive p) false rest more within is off remain = a_row_goes (row_of p) off remain
  of_kind c (OfComponent k) true rest more within is on remain = a_child (f k) (g k) (child_here c k within is) (child_there c k within is) (part_other part c k is) (each k) remain
  of_kind c (OfComponent k) false rest more within is off remain = absurd (let on : true ≡ false = sym (other_stays part c (part_other part c k is)) ∙ off in cc)

  add_if : (b : Bool) (cell : PlainCell) (cells : List PlainCell) → (if b then add_cell g cell.kind (cells_for g cells) else cells_for g cells) ≡ cells_for g (if b then cell ∷ cells else cells)
  add_if true cell cells = refl
  add_if false cell cells = refl

  cells_remain : (c : ℕ) (cells : List PlainCell) → ((n : ℕ) → n < length cells → (c + n < length part.cells) × (kind_in part.cells (c + n) ≡ kind_in cells n))
      → Remain i j c (cells_for f cells) (cells_for g (remaining (stays part) c cells))
  cells_remain c [] h = none_left
  cells_remain c (cell ∷ cells) h =
      subst (Remain i j c (add_cell f cell.kind (cells_for f cells))) (add_if (stays part c) cell (remaining (stays part) (suc c) cells))
      (of_kind c cell.kind (stays part c) (cells_for f cells) (cells_for g (remaining (stays part) (suc c) cells)) (subst (λ n. n < length part.cells) zero_more first.0) (ap (kind_in part.cells) (sym zero_more) ∙ first.1) refl
      (cells_remain (suc c) cells (λ n less.
      let next : c + suc n ≡ suc c + n = omega arith in
      let r = h (suc n) (omega (arith, less)) in
      (subst (λ m. m < length part.cells) next r.0, ap (kind_in part.cells) (sym next) ∙ r.1))))
    where
      zero_more : c + 0 ≡ c
      zero_more = omega arith

      first : (c + 0 < length part.cells) × (kind_in part.cells (c + 0) ≡ cell.kind)
      first = h 0 (omega arith)

  pub all_remain : Remain i j 0 (cells_for f part.cells) (cells_for g other.cells)
  all_remain =
      subst (λ list. Remain i j 0 (cells_for f part.cells) (cells_for g list)) (sym same)
      (cells_remain 0 part.cells (λ n less. let start : n ≡ 0 + n = omega arith in (subst (λ m. m < length part.cells) start less, ap (kind_in part.cells) (sym start))))

-- EVERY INSTANCE of the tree of an accepted design
module _ (d : PlainDesign) (design : IsDesign d) (accepted : IsAccepted d) (undone : NoneNamesDone d) where
  inputs_driven : (k : ℕ) → k < length d.components → HasInputs (component_of d k)
  inputs_driven k within g a i = ⊎_elim
      (λ less. (ruled d design accepted undone k within).target (Some g) a (less, subst (λ (x : PlainComponent). In (group_at x g).assigns a) (same_part d (length d.components) k) i))
      (λ le. absurd (no_assign le))
      (cases_lt g (length (component_at d k).groups))
    where
      no_assign : length (component_at d k).groups ≤ g → ⊥
      no_assign le =
          subst (λ (x : PlainGroup). In x.assigns a) (get_or_past (component_at d k).groups g no_group le)
          (subst (λ (x : PlainComponent). In (group_at x g).assigns a) (same_part d (length d.components) k) i)

  none_at : (k : ℕ) → NoneInvoked (component_at d k)
  none_at k = ⊎_elim
      (λ within. subst NoneInvoked (same_part d (length d.components) k) (none_invoked d design accepted k within (component_of (shared_design d) k) (component-shares d k) (inputs_driven k within)))
      (λ le. subst NoneInvoked (sym (get_or_past d.components k no_component le)) (record { cells = λ w i. absurd i; captures = λ w i g c e u. absurd i; inputs = λ w i a j c p names. absurd i }))
      (cases_lt k (length d.components))

  pub tree_twins : (m k : ℕ) → Twins (tree_within d m k) (tree_within (shared_design d) m k)
  tree_twins zero k = twins (tree_is_twin d design accepted zero k) (fit_tree d design accepted zero k) (none_at k) no_more
    where
      no_more : Remain (tree_within d zero k) (tree_within (shared_design d) zero k) 0 no_cells no_cells
      no_more = none_left
  tree_twins (suc m) k =
      twins (tree_is_twin d design accepted (suc m) k) (fit_tree d design accepted (suc m) k) (none_at k)
      (all_remain (component_at d k) (component_at (shared_design d) k) (tree_within d m) (tree_within (shared_design d) m) (ap (λ (x : PlainComponent). x.cells) (shared_component d k)) (tree_twins m))
