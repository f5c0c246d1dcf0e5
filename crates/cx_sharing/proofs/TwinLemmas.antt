-- An instance of a design beside the instance of the shared design: what stands at each cell, and at its new number.
use Rattle.std.proofs.Common.{◌≡◌, ℕ, zero, suc, ◌<◌, ◌≤◌, ⊎_elim, Bool, true, false, List, [], ◌∷◌, length, map, refl, sym, ap, ◌∙◌, subst}
use Rattle.std.specs.Prelude.{get_or, not, ◌&&◌}
use Rattle.std.specs.List.{list_any}
use Rattle.std.proofs.lemmas.Bool.{cases_lt, eqb-true, eq-eqb, both_ways}
use Rattle.cx_prim.specs.declared.ports.PortRow.{PortRow}
use Rattle.cx_prim.specs.Rows.{Row, is_plain_side}
use Rattle.cx_prim.specs.Table.{PrimitiveRow, row_of}
use Rattle.cx_meaning.specs.declared.ports.PortRef.TheVariants as ports
use Rattle.cx_meaning.specs.declared.sights.Seen.{Seen}
use Rattle.cx_meaning.specs.Designs.{PlainKind, OfPrimitive, OfComponent, PlainCell, PlainGroup, PlainComponent, PlainDesign, component_at, no_component}
use Rattle.cx_meaning.specs.Instances.{Instance, Node, At, Nothing, OfRow, OfInstance, cell_at, cell_count, cells_of, part_of, add_cell, cells_for, tree_within, Path, State, start_at, just}
use Rattle.cx_meaning.specs.Active.{nothing}
use Rattle.cx_meaning.specs.Sights.{unheld, Sees, seen}
use Rattle.cx_meaning.specs.Control.{assigns_drive}
use Rattle.cx_meaning.proofs.CycleLemmas.{count_for}
use Rattle.cx_meaning.proofs.InstancesLemmas.{row_is, instance_is, row_instance, instance_row, nothing_row, nothing_instance, just_true, just_same, at_kind}
use Rattle.cx_rules.specs.Circles.{AreAcyclic, AcyclicBelow}
use Rattle.cx_rewrites.specs.Tallies.{none}
use Rattle.cx_rewrites.specs.Standing.{holds, renumbered, IsRenumbered}
use Rattle.cx_sharing.specs.Uses.{assigns_use, is_stateless, is_combinational, kind_in, is_candidate}
use Rattle.cx_sharing.specs.Giving.{keeper, stays, staying, new_cell}
use Rattle.cx_sharing.specs.SharedDesign.{remaining, shared_part, shared_design}
use Rattle.cx_sharing.specs.Following.{has_state, SharedStands}
use Rattle.cx_sharing.proofs.KeptLemmas.{keeper_stays, new_apart}
use Rattle.cx_sharing.proofs.KeeperLemmas.{keeper_kind, keeper_within, keeper_past, other_kept}
use Rattle.cx_sharing.proofs.RemainingLemmas.{kind_left, length_left, staying_within, staying_past, cell_is, none_past}

-- A CHILD AND THE SHARED ONE: what an instance asks of its children
pub record IsBeside (child twin : Instance) : Type 0 where
  pub part : part_of twin ≡ shared_part (part_of child)
  pub first_circles : AreAcyclic child
  pub circles : AreAcyclic twin
  pub tree : IsRenumbered new_cell has_state child twin
  pub starts : (path : Path) → holds has_state child path ≡ true → start_at twin (renumbered new_cell child path) ≡ start_at child path
  -- its outputs, under its continuous assignments, are seen alike
  pub outputs : (s z : State) (n : ℕ) (x : Seen) → SharedStands child s z → Sees child unheld nothing s (ports.Output n) x → seen twin unheld nothing z (ports.Output n) ≡ x

-- what stands at a cell, and at its new number
pub data AtTwin (part : PlainComponent) (c : ℕ) : At → At → Type 0 where
  no_twins : AtTwin part c Nothing Nothing
  twin_rows : (p : PrimitiveRow) → kind_in part.cells c ≡ OfPrimitive p → AtTwin part c (OfRow (row_of p)) (OfRow (row_of p))
  twin_parts : (k : ℕ) (child twin : Instance) → kind_in part.cells c ≡ OfComponent k → IsBeside child twin → AtTwin part c (OfInstance child) (OfInstance twin)

pub record IsTwin (i j : Instance) : Type 0 where
  pub part : part_of j ≡ shared_part (part_of i)
  pub cells : (c : ℕ) → AtTwin (part_of i) c (cell_at (cells_of i) c) (cell_at (cells_of j) (new_cell (part_of i) c))
  pub count : cell_count (cells_of j) ≡ staying (stays (part_of i)) (cell_count (cells_of i))
  pub first_below : AcyclicBelow (cells_of i)
  pub below : AcyclicBelow (cells_of j)

-- THE SHARED COMPONENTS
shared_at : (parts : List PlainComponent) (k : ℕ) → get_or (map shared_part parts) k no_component ≡ shared_part (get_or parts k no_component)
shared_at [] k = refl
shared_at (part ∷ parts) zero = refl
shared_at (part ∷ parts) (suc k) = shared_at parts k

pub shared_component : (d : PlainDesign) (k : ℕ) → component_at (shared_design d) k ≡ shared_part (component_at d k)
shared_component d k = shared_at d.components k

-- a cell that stays keeps its place among those that stay
pub stays_is : (part : PlainComponent) (c : ℕ) → stays part c ≡ true → new_cell part c ≡ staying (stays part) c
stays_is part c on = ap (staying (stays part)) (eqb-true (keeper part c) c on)

pub other_stays : (part : PlainComponent) (c : ℕ) → is_candidate part c ≡ false → stays part c ≡ true
other_stays part c none = eq-eqb (keeper part c) c (other_kept part c none)

-- WHAT STANDS AT A CELL of a component and at its new number is the same of the kind of the cell
module _ (part : PlainComponent) (f g : ℕ → Instance) (R : At → At → Type 0) (nothing_there : R Nothing Nothing) (c : ℕ)
    (of_kind : (kind : PlainKind) → kind_in part.cells c ≡ kind → R (at_kind f kind) (at_kind g kind)) where
  pub at_new_number : R (cell_at (cells_for f part.cells) c) (cell_at (cells_for g (remaining (stays part) 0 part.cells)) (new_cell part c))
  at_new_number = ⊎_elim within past (cases_lt c (length part.cells))
    where
      within : c < length part.cells → R (cell_at (cells_for f part.cells) c) (cell_at (cells_for g (remaining (stays part) 0 part.cells)) (new_cell part c))
      within lt =
          let kept : keeper part c < length part.cells = keeper_within part c lt in
          let there : cell_at (cells_for g (remaining (stays part) 0 part.cells)) (new_cell part c) ≡ at_kind g (kind_in part.cells c) =
          cell_is g (remaining (stays part) 0 part.cells) (new_cell part c) (staying_within (stays part) part.cells (keeper part c) (keeper_stays part c) kept)
          ∙ ap (at_kind g) (kind_left (stays part) part.cells (keeper part c) (keeper_stays part c) kept ∙ keeper_kind part c) in
          subst (λ to. R (cell_at (cells_for f part.cells) c) to) (sym there)
          (subst (λ at. R at (at_kind g (kind_in part.cells c))) (sym (cell_is f part.cells c lt)) (of_kind (kind_in part.cells c) refl))

      past : length part.cells ≤ c → R (cell_at (cells_for f part.cells) c) (cell_at (cells_for g (remaining (stays part) 0 part.cells)) (new_cell part c))
      past le =
          let kept : length part.cells ≤ keeper part c = subst (λ n. length part.cells ≤ n) (sym (keeper_past part c le)) le in
          subst (λ to. R (cell_at (cells_for f part.cells) c) to)
          (sym (none_past g (remaining (stays part) 0 part.cells) (new_cell part c) (staying_past (stays part) part.cells (keeper part c) kept)))
          (subst (λ at. R at Nothing) (sym (none_past f part.cells c le)) nothing_there)

-- the cells of a component, and of the shared one
module _ (part : PlainComponent) (f g : ℕ → Instance) (beside : (k : ℕ) → IsBeside (f k) (g k)) where
  kind_twin : (c : ℕ) (kind : PlainKind) → kind_in part.cells c ≡ kind → AtTwin part c (at_kind f kind) (at_kind g kind)
  kind_twin c (OfPrimitive p) e = twin_rows p e
  kind_twin c (OfComponent k) e = twin_parts k (f k) (g k) e (beside k)

  pub cells_twin : (c : ℕ) → AtTwin part c (cell_at (cells_for f part.cells) c) (cell_at (cells_for g (remaining (stays part) 0 part.cells)) (new_cell part c))
  cells_twin c = at_new_number part f g (AtTwin part c) no_twins c (kind_twin c)

  pub count_twin : cell_count (cells_for g (remaining (stays part) 0 part.cells)) ≡ staying (stays part) (cell_count (cells_for f part.cells))
  count_twin = count_for g (remaining (stays part) 0 part.cells) ∙ length_left (stays part) part.cells ∙ ap (staying (stays part)) (sym (count_for f part.cells))

-- no circle below, where none is in a child
pub acyclic_cells : (child : ℕ → Instance) → ((k : ℕ) → AreAcyclic (child k)) → (cells : List PlainCell) → AcyclicBelow (cells_for child cells)
acyclic_cells child each [] = tt
acyclic_cells child each (cell ∷ cells) = by cell.kind (acyclic_cells child each cells)
  where
    by : (kind : PlainKind) → AcyclicBelow (cells_for child cells) → AcyclicBelow (add_cell child kind (cells_for child cells))
    by (OfPrimitive p) rest = rest
    by (OfComponent k) rest = (each k, rest)

-- THE TREES of a design and of the shared one, of some depth
module _ (d : PlainDesign) where
  pub leaf_twin : (k : ℕ) → IsTwin (tree_within d zero k) (tree_within (shared_design d) zero k)
  leaf_twin k = record { part = shared_component d k; cells = λ c. no_twins; count = refl; first_below = tt; below = tt }

  node_twin : (m k : ℕ) → ((n : ℕ) → IsBeside (tree_within d m n) (tree_within (shared_design d) m n)) → (other : PlainComponent) → other ≡ shared_part (component_at d k)
      → IsTwin (tree_within d (suc m) k) (Node other (cells_for (tree_within (shared_design d) m) other.cells))
  node_twin m k beside other same =
      let cells : other.cells ≡ remaining (stays (component_at d k)) 0 (component_at d k).cells = ap (λ (x : PlainComponent). x.cells) same in
      record {
        part = same;
        cells = λ c. subst (λ xs. AtTwin (component_at d k) c (cell_at (cells_for (tree_within d m) (component_at d k).cells) c) (cell_at (cells_for (tree_within (shared_design d) m) xs) (new_cell (component_at d k) c)))
            (sym cells) (cells_twin (component_at d k) (tree_within d m) (tree_within (shared_design d) m) beside c);
        count = subst (λ xs. cell_count (cells_for (tree_within (shared_design d) m) xs) ≡ staying (stays (component_at d k)) (cell_count (cells_for (tree_within d m) (component_at d k).cells)))
            (sym cells) (count_twin (component_at d k) (tree_within d m) (tree_within (shared_design d) m) beside);
        first_below = acyclic_cells (tree_within d m) (λ n. (beside n).first_circles) (component_at d k).cells;
        below = acyclic_cells (tree_within (shared_design d) m) (λ n. (beside n).circles) other.cells;
      }

  pub tree_twin : (m k : ℕ) → ((n : ℕ) → IsBeside (tree_within d m n) (tree_within (shared_design d) m n)) → IsTwin (tree_within d (suc m) k) (tree_within (shared_design d) (suc m) k)
  tree_twin m k beside = node_twin m k beside (component_at (shared_design d) k) (shared_component d k)

-- WHAT STANDS THERE, by what stands here
module _ {part : PlainComponent} {c : ℕ} where
  pub row_twin : {at to : At} (row : Row) → AtTwin part c at to → at ≡ OfRow row → (p : PrimitiveRow) × (row_of p ≡ row) × (kind_in part.cells c ≡ OfPrimitive p) × (to ≡ OfRow row)
  row_twin row no_twins e = absurd (nothing_row row e)
  row_twin row (twin_rows p kind) e = (p, row_is (row_of p) row e, kind, e)
  row_twin row (twin_parts k child twin kind beside) e = absurd (instance_row child row e)

  pub child_twin : {at to : At} (child : Instance) → AtTwin part c at to → at ≡ OfInstance child → (k : ℕ) × (twin : Instance) × (kind_in part.cells c ≡ OfComponent k) × (to ≡ OfInstance twin) × IsBeside child twin
  child_twin child no_twins e = absurd (nothing_instance child e)
  child_twin child (twin_rows p kind) e = absurd (row_instance (row_of p) child e)
  child_twin child (twin_parts k own twin kind beside) e = (k, twin, kind, refl, subst (λ x. IsBeside x twin) (instance_is own child e) beside)

  pub nothing_twin : {at to : At} → AtTwin part c at to → at ≡ Nothing → to ≡ Nothing
  nothing_twin no_twins e = refl
  nothing_twin (twin_rows p kind) e = absurd (cc)
  nothing_twin (twin_parts k child twin kind beside) e = absurd (cc)

-- a component's cell is no candidate, nor is one that holds something; a candidate holds nothing
pub combines_false : (part : PlainComponent) (c : ℕ) → is_combinational (kind_in part.cells c) ≡ false → is_candidate part c ≡ false
combines_false part c off = ap (λ a. a && list_any (λ (g : PlainGroup). assigns_drive g.assigns c) part.groups && not (assigns_use part.always c)) off

pub part_other : (part : PlainComponent) (c k : ℕ) → kind_in part.cells c ≡ OfComponent k → is_candidate part c ≡ false
part_other part c k kind = combines_false part c (ap is_combinational kind)

pub state_other : (part : PlainComponent) (c : ℕ) (p : PrimitiveRow) → kind_in part.cells c ≡ OfPrimitive p → is_stateless (row_of p).shape ≡ false → is_candidate part c ≡ false
state_other part c p kind holds =
    combines_false part c (ap is_combinational kind ∙ ap (λ b. b && list_any (λ (port : PortRow). is_plain_side port.side) (row_of p).ports) holds)

pub candidate_holds_nothing : (part : PlainComponent) (c : ℕ) (p : PrimitiveRow) → kind_in part.cells c ≡ OfPrimitive p → is_candidate part c ≡ true → is_stateless (row_of p).shape ≡ true
candidate_holds_nothing part c p kind on = by (is_stateless (row_of p).shape) refl
  where
    by : (b : Bool) → is_stateless (row_of p).shape ≡ b → b ≡ true
    by true e = refl
    by false e = absurd (both_ways (is_candidate part c) (state_other part c p kind e) on)

pub given_combines : (part : PlainComponent) (c : ℕ) → stays part c ≡ false → is_combinational (kind_in part.cells c) ≡ true
given_combines part c given = by (is_combinational (kind_in part.cells c)) refl
  where
    by : (b : Bool) → is_combinational (kind_in part.cells c) ≡ b → b ≡ true
    by true e = refl
    by false e = absurd (both_ways (stays part c) given (other_stays part c (combines_false part c e)))

-- A NEW NUMBER OF A CELL THAT IS NO CANDIDATE is its own
pub own_number : (part : PlainComponent) (c d : ℕ) → is_candidate part c ≡ false → new_cell part c ≡ new_cell part d → c ≡ d
own_number part c d none e = ⊎_elim (λ same. same) (λ r. absurd (both_ways (is_candidate part c) none r.0)) (new_apart part c d e)

pub own_equal : (part : PlainComponent) (c d : ℕ) → is_candidate part c ≡ false → just (new_cell part c) (new_cell part d) ≡ just c d
own_equal part c d none = by (just c d) refl (just (new_cell part c) (new_cell part d)) refl
  where
    by : (x : Bool) → just c d ≡ x → (y : Bool) → just (new_cell part c) (new_cell part d) ≡ y → y ≡ x
    by true e true f = refl
    by false e false f = refl
    by true e false f = sym f ∙ ap (λ n. just (new_cell part c) (new_cell part n)) (sym (just_true c d e)) ∙ just_same (new_cell part c)
    by false e true f = sym (just_same c) ∙ ap (just c) (own_number part c d none (just_true (new_cell part c) (new_cell part d) f)) ∙ e

pub own_equal_back : (part : PlainComponent) (c d : ℕ) → is_candidate part d ≡ false → just (new_cell part c) (new_cell part d) ≡ just c d
own_equal_back part c d none = by (just c d) refl (just (new_cell part c) (new_cell part d)) refl
  where
    by : (x : Bool) → just c d ≡ x → (y : Bool) → just (new_cell part c) (new_cell part d) ≡ y → y ≡ x
    by true e true f = refl
    by false e false f = refl
    by true e false f = sym f ∙ ap (λ n. just (new_cell part c) (new_cell part n)) (sym (just_true c d e)) ∙ just_same (new_cell part c)
    by false e true f = sym (just_same c) ∙ ap (just c) (sym (own_number part d c none (sym (just_true (new_cell part c) (new_cell part d) f)))) ∙ e
