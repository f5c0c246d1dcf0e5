-- The graph of components: its edges lead from components to those of their cells, and none leads back.
use Rattle.std.proofs.Common.{◌≡◌, ℕ, zero, suc, ◌<◌, ◌≤◌, inl, inr, ⊎_elim, List, [], ◌∷◌, length, get_or, Option, Some, None, refl, sym, ap, ◌∙◌, subst, arith}
use Rattle.std.specs.Prelude.{slice_get}
use Rattle.std.specs.Option.{MatchOption}
use Rattle.std.proofs.Math.Logic.{∥∥₁_elim}
use denote.Struct.Props.{props}
use Rattle.std.proofs.lemmas.List.{length-map}
use Rattle.cx_text.proofs.MemberLaws.{in_either, in_left, in_right, number_in}
use Rattle.cx_graphs.specs.Graphs as graphs
use Rattle.cx_graphs.specs.Graphs.{targets_of, IsGraph}
use Rattle.cx_graphs.specs.Ways.{Way, edge, further, HasCircle, IsOrder}
use Rattle.cx_graphs.proofs.WalkLemmas.{targets_within}
use Rattle.cx_meaning.specs.Designs.{PlainKind, OfPrimitive, OfComponent, PlainCell, PlainComponent, PlainDesign, component_at, no_component, component_of_kind}
use Rattle.cx_text.specs.Members.{In}
use Rattle.cx_rules.specs.Wellformed.{IsDesign, IsKind, LeadsTo, by_cell, by_way_of}
use Rattle.cx_rules.proofs.Finite.{Distinct}
use Rattle.cx_design_sizes.proofs.Places.{few_below}
use Rattle.cx_limits.specs.Order.{children_of, edges_from, component_edges}

-- what an option that is known tells
pub told_none : {A : Type 0} (P : Type 0) (Q : A → Type 0) (o : Option A) → o ≡ None → MatchOption o P Q → P
told_none P Q o e h = subst (λ p. MatchOption p P Q) e h

pub told_some : {A : Type 0} (P : Type 0) (Q : A → Type 0) (o : Option A) (x : A) → o ≡ Some x → MatchOption o P Q → Q x
told_some P Q o x e h = subst (λ p. MatchOption p P Q) e h

-- members of a list, as graphs have them
pub to_graph : (xs : List ℕ) (x : ℕ) → In xs x → In xs x
to_graph [] x i = absurd i
to_graph (y ∷ xs) x (inl e) = inl e
to_graph (y ∷ xs) x (inr i) = inr (to_graph xs x i)

pub of_graph : (xs : List ℕ) (x : ℕ) → In xs x → In xs x
of_graph [] x i = absurd i
of_graph (y ∷ xs) x (inl e) = inl e
of_graph (y ∷ xs) x (inr i) = inr (of_graph xs x i)

-- the components of cells
child_in : (cells : List PlainCell) (cell : PlainCell) (j : ℕ) → In cells cell → cell.kind ≡ OfComponent j → In (children_of cells) j
child_in [] cell j i e = absurd i
child_in (c ∷ cs) cell j (inl same) e =
    in_left (component_of_kind c.kind) (children_of cs) j (subst (λ kind. In (component_of_kind kind) j) (sym (ap (λ (x : PlainCell). x.kind) same ∙ e)) (inl refl))
child_in (c ∷ cs) cell j (inr i) e = in_right (component_of_kind c.kind) (children_of cs) j (child_in cs cell j i e)

own_child : (kind : PlainKind) (j : ℕ) → In (component_of_kind kind) j → kind ≡ OfComponent j
own_child (OfPrimitive p) j i = absurd i
own_child (OfComponent k) j (inl e) = ap OfComponent e
own_child (OfComponent k) j (inr i) = absurd i

in_child : (cells : List PlainCell) (j : ℕ) → In (children_of cells) j → (cell : PlainCell) × In cells cell × (cell.kind ≡ OfComponent j)
in_child [] j i = absurd i
in_child (c ∷ cs) j i =
    ⊎_elim (λ own. (c, inl refl, own_child c.kind j own)) (λ rest. let r = in_child cs j rest in (r.0, inr r.1, r.2)) (in_either (component_of_kind c.kind) (children_of cs) j i)

targets_are : (parts : List PlainComponent) (k : ℕ) → targets_of (edges_from parts) k ≡ children_of (get_or parts k no_component).cells
targets_are [] k = refl
targets_are (p ∷ parts) zero = refl
targets_are (p ∷ parts) (suc k) = targets_are parts k

module _ (d : PlainDesign) where
  -- EDGES
  edge_of : (k j : ℕ) → In (targets_of (component_edges d) k) j → (cell : PlainCell) × In (component_at d k).cells cell × (cell.kind ≡ OfComponent j)
  edge_of k j i = in_child (component_at d k).cells j (of_graph (children_of (component_at d k).cells) j (subst (λ ns. In ns j) (targets_are d.components k) i))

  pub edge_to : (k j : ℕ) (cell : PlainCell) → In (component_at d k).cells cell → cell.kind ≡ OfComponent j → In (targets_of (component_edges d) k) j
  edge_to k j cell i e = subst (λ ns. In ns j) (sym (targets_are d.components k)) (to_graph (children_of (component_at d k).cells) j (child_in (component_at d k).cells cell j i e))

  way_leads : {m n : ℕ} → Way (targets_of (component_edges d)) m n → LeadsTo d m n
  way_leads {m} {n} (edge i) = let r = edge_of m n i in by_cell n r.0 r.1 r.2
  way_leads {m} {n} (further k i w) = let r = edge_of m k i in by_way_of k (by_cell k r.0 r.1 r.2) (way_leads w)

  pub no_circle : ∥ IsDesign d ∥₁ → HasCircle (targets_of (component_edges d)) → ⊥
  no_circle keeps (n, w) = ∥∥₁_elim keeps (hlevel props) (λ h. h.not_recursive n (way_leads w))

  pub edge_count : length (component_edges d) ≡ length d.components
  edge_count = length-map d.components (λ (part : PlainComponent). children_of part.cells)

  kind_there : (kind : PlainKind) (j : ℕ) → IsKind d kind → kind ≡ OfComponent j → j < length d.components
  kind_there (OfPrimitive p) j h e = absurd cc
  kind_there (OfComponent k) j h e = let f : k ≡ j = cc in subst (λ x. x < length d.components) f h

  child_there : ∥ IsDesign d ∥₁ → (k j : ℕ) (cell : PlainCell) → k < length d.components → In (component_at d k).cells cell → cell.kind ≡ OfComponent j → j < length d.components
  child_there keeps k j cell lt i e = ∥∥₁_elim keeps (hlevel props) (λ h. kind_there cell.kind j (((h.components k lt).cells cell i).kind) e)

  pub is_graph : ∥ IsDesign d ∥₁ → IsGraph (component_edges d)
  is_graph keeps k j i =
      let r = edge_of k j i in
      let lt : k < length d.components = subst (λ n. k < n) edge_count (targets_within (component_edges d) k j i) in
      subst (λ n. j < n) (sym edge_count) (child_there keeps k j r.0 lt r.1 r.2)

  -- ORDERS have no more components than there are
  distinct_of : (xs : List ℕ) → ((i j n : ℕ) → slice_get xs i ≡ Some n → slice_get xs j ≡ Some n → i ≡ j) → Distinct xs
  distinct_of [] once = tt
  distinct_of (x ∷ xs) once = (apart, distinct_of xs (λ i j n e f. let s : suc i ≡ suc j = once (suc i) (suc j) n e f in omega arith))
    where
      apart : In xs x → ⊥
      apart i = let r = number_in xs x i in let s : zero ≡ suc r.0 = once zero (suc r.0) x refl r.1 in omega arith

  pub few : (order : List ℕ) → IsOrder (component_edges d) order → length order ≤ length d.components
  few order is =
      few_below order (length d.components) (distinct_of order is.once)
      (λ k i. subst (λ n. k < n) edge_count (is.within k (to_graph order k i)))
