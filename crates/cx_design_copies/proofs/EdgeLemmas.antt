-- Which components main is made of, by the edges from each component to those of its cells.
use Rattle.std.proofs.Common.{◌≡◌, ℕ, zero, suc, ◌<◌, ◌≤◌, Bool, inl, inr, ◌⊎◌, ⊎_elim, List, [], ◌∷◌, ◌++◌, length, get_or, refl, sym, ap, ◌∙◌, subst, arith}
use Rattle.std.proofs.Math.Logic.{∥∥₁_elim}
use denote.Struct.Props.{props}
use Rattle.std.proofs.lemmas.Bool.{cases_lt}
use Rattle.std.proofs.lemmas.List.{length-map}
use Rattle.std.specs.Prelude.{Result, Ok, Err, IfOk}
use Rattle.std.specs.declared.vec.Vec.{Vec}
use Rattle.cx_design.proofs.DesignFacts.{main_there}
use Rattle.cx_graphs.specs.Graphs.{IsGraph, Bounded, targets_of, IsReached, at_start, by_edge, Marked, edges_of}
use Rattle.cx_graphs.proofs.Marks.{in_left, in_right}
use Rattle.cx_meaning.specs.Designs.{PlainKind, OfPrimitive, OfComponent, PlainCell, PlainComponent, no_component, PlainDesign, component_at, component_of_kind}
use Rattle.cx_text.specs.Members.{In}
use Rattle.cx_rules.specs.Wellformed.{LeadsTo, by_cell, by_way_of, IsDesign, IsKind}
use Rattle.cx_design_copies.specs.Reaching.{components_of, edges_between, IsMadeOf, AreMadeOf}

-- EDGES are from a component to those of its cells
targets-are : (parts : List PlainComponent) (m : ℕ) → targets_of (edges_between parts) m ≡ components_of (get_or parts m no_component).cells
targets-are [] m = refl
targets-are (p ∷ parts) zero = refl
targets-are (p ∷ parts) (suc m) = targets-are parts m

cell_edge : (cells : List PlainCell) (cell : PlainCell) (j : ℕ) → In cells cell → cell.kind ≡ OfComponent j → In (components_of cells) j
cell_edge [] cell j i e = absurd i
cell_edge (c ∷ cs) cell j (inl same) e = in_left (component_of_kind c.kind) (components_of cs) j (subst (λ kind. In (component_of_kind kind) j) (sym (ap (λ x. x.kind) same ∙ e)) (inl refl))
cell_edge (c ∷ cs) cell j (inr i) e = in_right (component_of_kind c.kind) (components_of cs) j (cell_edge cs cell j i e)

-- one of cells is of a component
abbrev pub HasCell : List PlainCell → ℕ → Type 0
HasCell cells j = (cell : PlainCell) × In cells cell × (cell.kind ≡ OfComponent j)

edge_cell : (cells : List PlainCell) (j : ℕ) → In (components_of cells) j → HasCell cells j
edge_cell [] j i = absurd i
edge_cell (c ∷ cs) j i = by c.kind refl i (edge_cell cs j)
  where
    later : HasCell cs j → HasCell (c ∷ cs) j
    later (cell, i, e) = (cell, inr i, e)

    by : (kind : PlainKind) → c.kind ≡ kind → In (component_of_kind kind ++ components_of cs) j → (In (components_of cs) j → HasCell cs j) → HasCell (c ∷ cs) j
    by (OfPrimitive p) e i more = later (more i)
    by (OfComponent m) e (inl same) more = (c, inl refl, e ∙ ap OfComponent same)
    by (OfComponent m) e (inr i) more = later (more i)

module _ (d : PlainDesign) where
  abbrev edges : List (List ℕ)
  edges = edges_between d.components

  edge_leads : (m n : ℕ) → In (targets_of edges m) n → LeadsTo d m n
  edge_leads m n i = by (edge_cell (component_at d m).cells n (subst (λ ns. In ns n) (targets-are d.components m) i))
    where
      by : HasCell (component_at d m).cells n → LeadsTo d m n
      by (cell, i, e) = by_cell n cell i e

  -- REACHED by edges is what main leads to
  reached_leads : (n : ℕ) → IsReached edges (d.main ∷ []) n → (d.main ≡ n) ⊎ LeadsTo d d.main n
  reached_leads n (at_start (inl e)) = inl e
  reached_leads n (at_start (inr i)) = absurd i
  reached_leads n (by_edge m r i) = inr (by (reached_leads m r) (edge_leads m n i))
    where
      by : (d.main ≡ m) ⊎ LeadsTo d d.main m → LeadsTo d m n → LeadsTo d d.main n
      by (inl e) l = subst (λ x. LeadsTo d x n) (sym e) l
      by (inr a) l = by_way_of m a l

  leads_reached : (m n : ℕ) → LeadsTo d m n → IsReached edges (d.main ∷ []) m → IsReached edges (d.main ∷ []) n
  leads_reached m n (by_cell j cell i e) r = by_edge m r (subst (λ ns. In ns n) (sym (targets-are d.components m)) (cell_edge (component_at d m).cells cell n i e))
  leads_reached m n (by_way_of k a b) r = leads_reached k n b (leads_reached m k a r)

  module _ (rules : IsDesign d) where
    edges_within : (m n : ℕ) → In (targets_of edges m) n → n < length edges
    edges_within m n i = subst (λ c. n < c) (sym (length-map d.components (λ (part : PlainComponent). components_of part.cells))) (by (edge_cell (component_at d m).cells n (subst (λ ns. In ns n) (targets-are d.components m) i)))
      where
        none : (parts : List PlainComponent) (m : ℕ) → length parts ≤ m → (get_or parts m no_component).cells ≡ []
        none [] m le = refl
        none (p ∷ parts) zero le = absurd (omega arith)
        none (p ∷ parts) (suc m) le = none parts m (omega arith)

        by : HasCell (component_at d m).cells n → n < length d.components
        by (cell, i, e) = ⊎_elim (λ less. subst (IsKind d) e ((rules.components m less).cells cell i).kind) (λ past. absurd (subst (λ cs. In cs cell) (none d.components m past) i)) (cases_lt m (length d.components))

  -- the edges are those of a graph
  pub is_graph : ∥ IsDesign d ∥₁ → IsGraph edges
  is_graph keeps m n i = ∥∥₁_elim keeps (hlevel props) (λ rules. edges_within rules m n i)

  made_reached : (n : ℕ) → IsMadeOf d n → IsReached edges (d.main ∷ []) n
  made_reached n (inl e) = at_start (inl e)
  made_reached n (inr l) = leads_reached d.main n l (at_start (inl refl))

  -- by a graph as it lies in memory
  edges-length : {A : Type 0} (graph : List (Vec ℕ A)) → edges_of graph ≡ edges → length graph ≡ length d.components
  edges-length graph same =
      sym (length-map graph (λ (list : Vec ℕ _). list.items)) ∙ ap length same ∙ length-map d.components (λ (part : PlainComponent). components_of part.cells)

  pub starts_within : {A : Type 0} → ∥ IsDesign d ∥₁ → (graph : List (Vec ℕ A)) → edges_of graph ≡ edges → Bounded (length graph) (d.main ∷ [])
  starts_within keeps graph same n (inl e) = subst (λ m. m < length graph) e (subst (λ k. d.main < k) (sym (edges-length graph same)) (main_there d keeps))
  starts_within keeps graph same n (inr i) = absurd i

  pub marked_made : {A B E : Type 0} → (graph : List (Vec ℕ A)) → edges_of graph ≡ edges → (r : Result (Vec Bool B) E)
      → IfOk r (λ marks. length marks.items ≡ length graph) → IfOk r (λ marks. (n : ℕ) → Marked marks.items n → IsReached (edges_of graph) (d.main ∷ []) n)
      → IfOk r (λ marks. (n : ℕ) → IsReached (edges_of graph) (d.main ∷ []) n → Marked marks.items n) → IfOk r (λ marks. AreMadeOf d marks.items)
  marked_made graph same (Ok marks) len sound all = record {
    sized = len ∙ edges-length graph same;
    sound = λ n m. reached_leads n (subst (λ es. IsReached es (d.main ∷ []) n) same (sound n m));
    all = λ n h. all n (subst (λ es. IsReached es (d.main ∷ []) n) (sym same) (made_reached n h));
  }
  marked_made graph same (Err e) len sound all = tt
