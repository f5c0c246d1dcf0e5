-- Counts over trees, component by component.
use Rattle.std.proofs.Common.{◌≡◌, ℕ, zero, suc, ◌+◌, ◌<◌, ◌≤◌, max, inl, inr, ◌⊎◌, List, [], ◌∷◌, ◌++◌, length, take, set, get_or, Some, refl, sym, ap, ◌∙◌, subst, arith}
use Rattle.std.specs.List.{slice_get}
use Rattle.std.proofs.lemmas.Bool.{cases_eq}
use Rattle.std.proofs.lemmas.List.{get_or-set_same, get_or-set_other, get_or_default, length-set, take_more, take_all}
use Rattle.std.proofs.lemmas.Option.{get_or_from_slice_get, slice_get-get_or}
use Rattle.cx_text.proofs.MemberLaws.{in_at}
use Rattle.cx_prim.specs.Rows.{Row}
use Rattle.cx_prim.specs.Table.{row_of}
use Rattle.cx_meaning.specs.Designs.{PlainKind, OfPrimitive, OfComponent, PlainCell, PlainComponent, PlainDesign, component_at}
use Rattle.cx_meaning.specs.Instances.{Instance, Node, Cells, a_primitive, an_instance, add_cell, cells_for, tree_within, tree_of}
use Rattle.cx_text.specs.Members.{In}
use Rattle.cx_rules.specs.Sizes.{size_of, weight_below, weight_in, instances_below, instances_in, depth_below, depth_in, words_below, words_in, shape_words}
use Rattle.cx_design_sizes.specs.Capped.{capped}
use Rattle.cx_design_sizes.specs.declared.tallies.LimitTally.{LimitTally}
use Rattle.cx_design_sizes.specs.Orders.{IsChildrenFirst}
use Rattle.cx_design_sizes.specs.Tallies.{tally_of, tally_in, no_tally, beside, kind_tally, cells_tally, above, AreTallied}
use Rattle.cx_design_sizes.proofs.Places.{in_snoc}
use Rattle.cx_design_sizes.proofs.TalliesLemmas.{tally_eq}
use Rattle.cx_text.proofs.ListLaws.{there_below}

capped_sum : (a b : ℕ) → capped (capped a + capped b) ≡ capped (a + b)
capped_sum a b = omega arith

capped_left : (a b : ℕ) → capped (a + capped b) ≡ capped (a + b)
capped_left a b = omega arith

capped_max : (a b : ℕ) → max (capped a) (capped b) ≡ capped (max a b)
capped_max a b = omega arith

capped_zero : (a : ℕ) → capped (0 + capped a) ≡ capped a
capped_zero a = omega arith

max_zero : (a : ℕ) → max 0 (capped a) ≡ capped a
max_zero a = omega arith

-- one cell beside others
pub child_beside : (child : Instance) (rest : Cells) → beside (tally_of child) (tally_in rest) ≡ tally_in (an_instance child rest)
child_beside child rest =
    tally_eq (beside (tally_of child) (tally_in rest)) (tally_in (an_instance child rest))
    (capped_sum (instances_below child) (instances_in rest)) (capped_max (depth_below child) (depth_in rest))
    (capped_sum (words_below child) (words_in rest)) (capped_sum (weight_below child) (weight_in rest))

pub primitive_beside : (row : Row) (rest : Cells) → beside (record { instances = 0; depth = 0; words = capped (shape_words row.shape); weight = 0 }) (tally_in rest) ≡ tally_in (a_primitive row rest)
primitive_beside row rest =
    tally_eq (beside (record { instances = 0; depth = 0; words = capped (shape_words row.shape); weight = 0 }) (tally_in rest)) (tally_in (a_primitive row rest))
    (capped_zero (instances_in rest)) (max_zero (depth_in rest)) (capped_sum (shape_words row.shape) (words_in rest)) (capped_zero (weight_in rest))

-- a component above its cells
pub node_above : (part : PlainComponent) (cells : Cells) → above part (tally_in cells) ≡ tally_of (Node part cells)
node_above part cells =
    tally_eq (above part (tally_in cells)) (tally_of (Node part cells))
    (capped_left 1 (instances_in cells)) (capped_left 1 (depth_in cells)) refl (capped_left (size_of part + 1) (weight_in cells))

kind_beside : (d : PlainDesign) (m : ℕ) (tallies : List LimitTally) (kind : PlainKind) (rest : Cells)
    → ((j : ℕ) → kind ≡ OfComponent j → get_or tallies j no_tally ≡ tally_of (tree_within d m j))
    → beside (kind_tally tallies kind) (tally_in rest) ≡ tally_in (add_cell (tree_within d m) kind rest)
kind_beside d m tallies (OfPrimitive p) rest h = primitive_beside (row_of p) rest
kind_beside d m tallies (OfComponent k) rest h = ap (λ t. beside t (tally_in rest)) (h k refl) ∙ child_beside (tree_within d m k) rest

-- where the tallies of the components of cells are right, that of the cells is
pub cells_right : (d : PlainDesign) (m : ℕ) (tallies : List LimitTally) (cells : List PlainCell)
    → ((cell : PlainCell) (j : ℕ) → In cells cell → cell.kind ≡ OfComponent j → get_or tallies j no_tally ≡ tally_of (tree_within d m j))
    → cells_tally tallies cells ≡ tally_in (cells_for (tree_within d m) cells)
cells_right d m tallies [] h = refl
cells_right d m tallies (c ∷ cs) h =
    ap (beside (kind_tally tallies c.kind)) (cells_right d m tallies cs (λ cell j i. h cell j (inr i)))
    ∙ kind_beside d m tallies c.kind (cells_for (tree_within d m) cs) (λ j e. h c j (inl refl) e)

-- one component more
pub tally_next : (d : PlainDesign) (order : List ℕ) (tallies : List LimitTally) (i k : ℕ) (t : LimitTally)
    → IsChildrenFirst d order → slice_get order i ≡ Some k → k < length tallies → AreTallied d i tallies (take i order)
    → t ≡ above (component_at d k) (cells_tally tallies (component_at d k).cells)
    → AreTallied d (i + 1) (set tallies k t) (take (i + 1) order)
tally_next d order tallies i k t first at lt known is j m i_done ge = one (cases_eq k j) (in_snoc (take i order) j k (subst (λ xs. In xs j) taken i_done))
  where
    taken : take (i + 1) order ≡ take i order ++ k ∷ []
    taken = take_more order i k (there_below order i k at) ∙ ap (λ x. take i order ++ x ∷ []) (get_or_from_slice_get order i k k at)

    right : (m : ℕ) → i + 1 ≤ m → t ≡ tally_of (tree_within d m k)
    right zero ge = absurd (omega arith)
    right (suc m) ge =
        is ∙ ap (above (component_at d k)) (cells_right d m tallies (component_at d k).cells
        (λ cell j c e. known j m (first.behind i k j cell at c e) (let h : i + 1 ≤ suc m = ge in omega arith)))
        ∙ node_above (component_at d k) (cells_for (tree_within d m) (component_at d k).cells)

    one : (k ≡ j) ⊎ (k ≡ j → ⊥) → In (take i order) j ⊎ (k ≡ j) → get_or (set tallies k t) j no_tally ≡ tally_of (tree_within d m j)
    one (inl same) at_j =
        subst (λ x. get_or (set tallies k t) x no_tally ≡ tally_of (tree_within d m x)) same (get_or-set_same tallies k t no_tally lt ∙ right m ge)
    one (inr other) (inl before) = get_or-set_other tallies k j t no_tally (λ e. other (sym e)) ∙ known j m before (omega arith)
    one (inr other) (inr same) = absurd (other same)

-- as far as the components of an order are gone through
pub record IsTalliedTo (d : PlainDesign) (order : List ℕ) (i : ℕ) (tallies : List LimitTally) : Type 0 where
  pub sized : length tallies ≡ length d.components
  pub known : AreTallied d i tallies (take i order)

pub tally_begin : (d : PlainDesign) (order : List ℕ) (tallies : List LimitTally) → length tallies ≡ length d.components → IsTalliedTo d order 0 tallies
tally_begin d order tallies sized = record { sized = sized; known = λ k m i ge. absurd i }

-- the component of a turn
pub turn_there : (d : PlainDesign) (order : List ℕ) (i none : ℕ) → IsChildrenFirst d order → i < length order → get_or order i none < length d.components
turn_there d order i none first lt = first.there (get_or order i none) (in_at order i (get_or order i none) (slice_get-get_or order i none lt))

pub tally_turn : (d : PlainDesign) (order : List ℕ) (i none : ℕ) (tallies : List LimitTally) (part : PlainComponent) (t : LimitTally) → IsChildrenFirst d order → IsTalliedTo d order i tallies → i < length order
    → part ≡ component_at d (get_or order i none) → t ≡ above part (cells_tally tallies part.cells) → IsTalliedTo d order (i + 1) (set tallies (get_or order i none) t)
tally_turn d order i none tallies part t first so_far lt own is = record {
  sized = length-set tallies (get_or order i none) t ∙ so_far.sized;
  known = tally_next d order tallies i (get_or order i none) t first (slice_get-get_or order i none lt) within so_far.known (subst (λ p. t ≡ above p (cells_tally tallies p.cells)) own is);
}
  where
    within : get_or order i none < length tallies
    within = subst (λ n. get_or order i none < n) (sym so_far.sized) (turn_there d order i none first lt)

-- behind the last component
pub tally_end : (d : PlainDesign) (order : List ℕ) (i : ℕ) (tallies : List LimitTally) → length order ≤ i → i ≤ length order → IsTalliedTo d order i tallies → AreTallied d (length order) tallies order
tally_end d order i tallies past within so_far k m here ge = so_far.known k m (subst (λ xs. In xs k) (sym (take_all i order past)) here) (omega arith)

-- the tally of main is that of the tree
pub tally_main : (d : PlainDesign) (order : List ℕ) (tallies : List LimitTally) (none : LimitTally) → IsChildrenFirst d order → AreTallied d (length order) tallies order → d.main < length tallies
    → get_or tallies d.main none ≡ tally_of (tree_of d)
tally_main d order tallies none first known lt = get_or_default tallies d.main none no_tally lt ∙ known d.main (length d.components) first.main first.few
