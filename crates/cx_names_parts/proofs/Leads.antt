-- Which components lead to one of a name, by edges of the graph of components.
use Rattle.std.proofs.Common.{◌≡◌, ◌↔◌, ℕ, zero, suc, ◌<◌, ◌⊎◌, inl, inr, Bool, true, false, ◌||◌, List, [], ◌∷◌, Option, Some, None, IsTrue, length, slice_get, get_or, refl, sym, ap, ◌∙◌, subst, true≢false}
use Rattle.std.proofs.lemmas.List.{length-map}
use Rattle.std.proofs.lemmas.Option.{slice_get-get_or}
use Rattle.std.specs.declared.vec.Vec.{Vec}
use Rattle.cx_text.proofs.BoolLaws.{or_left}
use Rattle.cx_text.specs.Members.{In}
use Rattle.cx_ast.specs.PlainTree.{PlainTree, PlainComponent, PlainCell}
use Rattle.cx_numbering.specs.Names.{same_name, number_of, component_names, cell_of}
use Rattle.cx_numbering.specs.NameRules.{some_part, leads_back, component_kinds}
use Rattle.cx_numbering.proofs.NamesLemmas.{same_name-true, same_name-refl}
use Rattle.cx_graphs.specs.Graphs.{Edges, edges_of, targets_of, IsGraph, IsReached, at_start, by_edge, Marked}
use Rattle.cx_graphs.specs.Ways.{Way, edge, further, HasCircle, IsTurned}
use Rattle.cx_names_parts.specs.Leading.{cell_number, numbers_in, component_edges, at_part, leads_at, is_recursive, AreMarks, StandsIn}
use Rattle.cx_names_parts.proofs.Counts.{closed_all}
use Rattle.cx_names_parts.proofs.Numbers.{targets_at, targets_none, number_found, IsFirst, first_within, target_first, numbers_first, number_in_cells, recursive_none, recursive_some, component_kinds_at, some_in, some_of}
use Rattle.cx_graphs.proofs.WalkLemmas.{targets_within}

pub edges_count : (tree : PlainTree) → length (component_edges tree) ≡ length tree.components
edges_count tree = length-map tree.components (λ part. numbers_in tree part.cells)

pub edges_graph : (tree : PlainTree) → IsGraph (component_edges tree)
edges_graph tree n k h = subst (λ c. k < c) (sym (edges_count tree)) (first_within tree k (target_first tree n k h))

module _ (tree : PlainTree) (name : List ℕ) where
  -- the component of a number has the name
  abbrev pub Named : ℕ → Type 0
  Named k = at_part (λ part. same_name part.name name) (slice_get tree.components k) ≡ true

  leads_named : (n k : ℕ) → Named k → leads_at tree name n k ≡ true
  leads_named n k h = by n (slice_get tree.components k) h
    where
      by : (n : ℕ) (o : Option PlainComponent) → at_part (λ part. same_name part.name name) o ≡ true → at_part (leads_back tree name n) o ≡ true
      by n None e = absurd (true≢false (sym e))
      by zero (Some part) e = e
      by (suc n) (Some part) e = or_left (same_name part.name name) (some_part (leads_back tree name n) (component_kinds tree part)) e

  -- a component leads to the name where it has it, or where one does to which it has an edge
  leads_in : (n k : ℕ) → leads_at tree name (suc n) k ≡ true → Named k ⊎ ((i : ℕ) × In (targets_of (component_edges tree) k) i × (leads_at tree name n i ≡ true))
  leads_in n k h = by (slice_get tree.components k) refl h
    where
      by : (o : Option PlainComponent) → slice_get tree.components k ≡ o → at_part (leads_back tree name (suc n)) o ≡ true
          → Named k ⊎ ((i : ℕ) × In (targets_of (component_edges tree) k) i × (leads_at tree name n i ≡ true))
      by None e h = absurd (true≢false (sym h))
      by (Some part) e h = first (same_name part.name name) refl h
        where
          first : (b : Bool) → same_name part.name name ≡ b → (b || some_part (leads_back tree name n) (component_kinds tree part)) ≡ true
              → Named k ⊎ ((i : ℕ) × In (targets_of (component_edges tree) k) i × (leads_at tree name n i ≡ true))
          first true q g = inl (ap (λ o. at_part (λ p. same_name p.name name) o) e ∙ q)
          first false q g =
              let w = some_in (leads_back tree name n) tree.components (numbers_in tree part.cells) (ap (λ ps. some_part (leads_back tree name n) ps) (sym (component_kinds_at tree part)) ∙ g) in
              inr (w.0, subst (λ ns. In ns w.0) (sym (targets_at (λ p. numbers_in tree p.cells) tree.components k part e)) w.1, w.2)

  leads_of : (n k i : ℕ) → In (targets_of (component_edges tree) k) i → leads_at tree name n i ≡ true → leads_at tree name (suc n) k ≡ true
  leads_of n k i stands h = by (slice_get tree.components k) refl
    where
      by : (o : Option PlainComponent) → slice_get tree.components k ≡ o → at_part (leads_back tree name (suc n)) o ≡ true
      by None e = absurd (subst (λ ns. In ns i) (targets_none (λ part. numbers_in tree part.cells) tree.components k e) stands)
      by (Some part) e =
          or_other (same_name part.name name)
          (ap (λ ps. some_part (leads_back tree name n) ps) (component_kinds_at tree part)
          ∙ some_of (leads_back tree name n) tree.components (numbers_in tree part.cells) i (subst (λ ns. In ns i) (targets_at (λ p. numbers_in tree p.cells) tree.components k part e) stands) h)
        where
          or_other : (b : Bool) → some_part (leads_back tree name n) (component_kinds tree part) ≡ true → (b || some_part (leads_back tree name n) (component_kinds tree part)) ≡ true
          or_other true g = refl
          or_other false g = g

  leads_more : (n k : ℕ) → leads_at tree name n k ≡ true → leads_at tree name (suc n) k ≡ true
  leads_more zero k h = leads_named (suc zero) k h
  leads_more (suc n) k h = by (λ i t. leads_more n i t) (leads_in n k h)
    where
      by : ((i : ℕ) → leads_at tree name n i ≡ true → leads_at tree name (suc n) i ≡ true) → Named k ⊎ ((i : ℕ) × In (targets_of (component_edges tree) k) i × (leads_at tree name n i ≡ true)) → leads_at tree name (suc (suc n)) k ≡ true
      by more (inl named) = leads_named (suc (suc n)) k named
      by more (inr w) = leads_of (suc n) k w.0 w.1 (more w.0 w.2)

  -- by as many cells as there are components all is found
  leads_closed : (k : ℕ) → k < length tree.components → leads_at tree name (suc (length tree.components)) k ≡ true → leads_at tree name (length tree.components) k ≡ true
  leads_closed = closed_all (leads_at tree name) (length tree.components) leads_more step
    where
      step : (n : ℕ) → ((k : ℕ) → k < length tree.components → leads_at tree name (suc n) k ≡ true → leads_at tree name n k ≡ true)
          → (k : ℕ) → k < length tree.components → leads_at tree name (suc (suc n)) k ≡ true → leads_at tree name (suc n) k ≡ true
      step n closed k within h = by (leads_in (suc n) k h)
        where
          by : Named k ⊎ ((i : ℕ) × In (targets_of (component_edges tree) k) i × (leads_at tree name (suc n) i ≡ true)) → leads_at tree name (suc n) k ≡ true
          by (inl named) = leads_named (suc n) k named
          by (inr w) = leads_of n k w.0 w.1 (closed w.0 (first_within tree w.0 (target_first tree k w.0 w.1)) w.2)

  -- of the components that are the first of their name one has this name
  named_first : (k first : ℕ) → IsFirst tree k → number_of name (component_names tree) ≡ Some first → Named k → k ≡ first
  named_first k first w found named =
      let other : same_name w.0.name name ≡ true = ap (λ o. at_part (λ part. same_name part.name name) o) (sym w.1) ∙ named in
      let alike : w.0.name ≡ name = same_name-true w.0.name name other in
      let both : Some k ≡ Some first = sym w.2 ∙ ap (λ n. number_of n (component_names tree)) alike ∙ found in
      cc

  pub first_named : (first : ℕ) → number_of name (component_names tree) ≡ Some first → Named first
  first_named first found =
      let w = number_found name tree.components first found in
      ap (λ o. at_part (λ part. same_name part.name name) o) w.1 ∙ ap (λ n. same_name n name) w.2 ∙ same_name-refl name

  -- where there is no way to the name but of no edge
  way_to : (first : ℕ) → number_of name (component_names tree) ≡ Some first → (n k : ℕ) → IsFirst tree k → leads_at tree name n k ≡ true → (k ≡ first) ⊎ Way (targets_of (component_edges tree)) k first
  way_to first found zero k is h = inl (named_first k first is found h)
  way_to first found (suc n) k is h = by (λ i one t. way_to first found n i one t) (leads_in n k h)
    where
      by : ((i : ℕ) → IsFirst tree i → leads_at tree name n i ≡ true → (i ≡ first) ⊎ Way (targets_of (component_edges tree)) i first) → Named k ⊎ ((i : ℕ) × In (targets_of (component_edges tree) k) i × (leads_at tree name n i ≡ true)) → (k ≡ first) ⊎ Way (targets_of (component_edges tree)) k first
      by behind (inl named) = inl (named_first k first is found named)
      by behind (inr w) = on (behind w.0 (target_first tree k w.0 w.1) w.2)
        where
          on : (w.0 ≡ first) ⊎ Way (targets_of (component_edges tree)) w.0 first → (k ≡ first) ⊎ Way (targets_of (component_edges tree)) k first
          on (inl same) = inr (edge (subst (λ i. In (targets_of (component_edges tree) k) i) same w.1))
          on (inr way) = inr (further w.0 w.1 way)

  module _ (turned : Edges) (is_turned : IsTurned (component_edges tree) turned) (first : ℕ) (found : number_of name (component_names tree) ≡ Some first) where
    -- along the edges turned round a search finds what leads to the name
    reached_of : (n k : ℕ) → IsFirst tree k → leads_at tree name n k ≡ true → IsReached turned (first ∷ []) k
    reached_of zero k is h = at_start (inl (sym (named_first k first is found h)))
    reached_of (suc n) k is h = by (λ i one t. reached_of n i one t) (leads_in n k h)
      where
        by : ((i : ℕ) → IsFirst tree i → leads_at tree name n i ≡ true → IsReached turned (first ∷ []) i) → Named k ⊎ ((i : ℕ) × In (targets_of (component_edges tree) k) i × (leads_at tree name n i ≡ true)) → IsReached turned (first ∷ []) k
        by behind (inl named) = at_start (inl (sym (named_first k first is found named)))
        by behind (inr w) = by_edge w.0 (behind w.0 (target_first tree k w.0 w.1) w.2) ((is_turned.1 w.0 k).1 w.1)

    leads_reached : (k : ℕ) → IsReached turned (first ∷ []) k → leads_at tree name (length tree.components) k ≡ true
    leads_reached k (at_start (inl same)) = leads_named (length tree.components) k (subst (λ i. Named i) same (first_named first found))
    leads_reached k (at_start (inr none)) = absurd none
    leads_reached k (by_edge m r e) =
        let back : In (targets_of (component_edges tree) k) m = (is_turned.1 m k).0 e in
        leads_closed k (subst (λ c. k < c) (edges_count tree) (targets_within (component_edges tree) k m back)) (leads_of (length tree.components) k m back (leads_reached m r))

    -- a mark says whether a component leads to the name
    pub mark_is : (marks : List Bool) (k : ℕ) → IsFirst tree k → length marks ≡ length turned → ((n : ℕ) → Marked marks n → IsReached turned (first ∷ []) n) → ((n : ℕ) → IsReached turned (first ∷ []) n → Marked marks n)
        → slice_get marks k ≡ Some (leads_at tree name (length tree.components) k)
    mark_is marks k is long sound all = by (slice_get marks k) (leads_at tree name (length tree.components) k) refl refl
      where
        by : (o : Option Bool) (b : Bool) → slice_get marks k ≡ o → leads_at tree name (length tree.components) k ≡ b → o ≡ Some b
        by (Some true) true e f = refl
        by (Some true) false e f = absurd (true≢false (sym (leads_reached k (sound k e)) ∙ f))
        by (Some false) false e f = refl
        by (Some false) true e f = let other : Some false ≡ Some true = sym e ∙ all k (reached_of (length tree.components) k is f) in absurd cc
        by None true e f = sym e ∙ all k (reached_of (length tree.components) k is f)
        by None false e f = let within : k < length marks = subst (λ c. k < c) (sym (long ∙ is_turned.0 ∙ edges_count tree)) (first_within tree k is) in absurd (there e within)
          where
            there : slice_get marks k ≡ None → k < length marks → ⊥
            there none within = let got = slice_get-get_or marks k false within in let clash : None ≡ Some (get_or marks k false) = sym none ∙ got in cc

  -- without circles the cells of the first component of a name do not lead back to it
  pub no_circle_leads : (part_number k : ℕ) → number_of name (component_names tree) ≡ Some part_number → (HasCircle (targets_of (component_edges tree)) → ⊥)
      → In (targets_of (component_edges tree) part_number) k → leads_at tree name (length tree.components) k ≡ false
  no_circle_leads number k found none stands = by (leads_at tree name (length tree.components) k) refl
    where
      by : (b : Bool) → leads_at tree name (length tree.components) k ≡ b → b ≡ false
      by false e = refl
      by true e = absurd (none (circle (way_to number found (length tree.components) k (target_first tree number k stands) e)))
        where
          circle : (k ≡ number) ⊎ Way (targets_of (component_edges tree)) k number → HasCircle (targets_of (component_edges tree))
          circle (inl same) = (number, edge (subst (λ i. In (targets_of (component_edges tree) number) i) same stands))
          circle (inr way) = (number, further k stands way)

pub no_marks : (tree : PlainTree) (part : PlainComponent) (number : ℕ) → slice_get tree.components number ≡ Some part → number_of part.name (component_names tree) ≡ Some number
    → (HasCircle (targets_of (component_edges tree)) → ⊥) → (k : ℕ) → In (numbers_in tree part.cells) k → leads_at tree part.name (length tree.components) k ≡ false
no_marks tree part number there found none k stands =
    no_circle_leads tree part.name number k found none (subst (λ ns. In ns k) (sym (targets_at (λ p. numbers_in tree p.cells) tree.components number part there)) stands)

-- what a search along the edges turned round marks
pub are_marks : {A : Type 0} (tree : PlainTree) (part : PlainComponent) (lists now : List (Vec ℕ A)) (first node : ℕ) (marks : List Bool) → now ≡ lists → node ≡ first → IsTurned (component_edges tree) (edges_of lists)
    → number_of part.name (component_names tree) ≡ Some first → length marks ≡ length now → ((n : ℕ) → Marked marks n → IsReached (edges_of now) (node ∷ []) n) → ((n : ℕ) → IsReached (edges_of now) (node ∷ []) n → Marked marks n)
    → AreMarks tree part marks
are_marks tree part lists now first node marks same is turned found long sound all k stands =
    mark_is tree part.name (edges_of now) (subst (λ l. IsTurned (component_edges tree) (edges_of l)) (sym same) turned) node (found ∙ ap Some (sym is)) marks k (numbers_first tree part.cells k stands)
    (long ∙ sym (length-map now (λ list. list.items))) sound all

-- a cell of a component without marks
pub none_leads : (tree : PlainTree) (part : PlainComponent) (cell : PlainCell) → ((k : ℕ) → In (numbers_in tree part.cells) k → leads_at tree part.name (length tree.components) k ≡ false) → StandsIn part.cells cell
    → is_recursive tree part.name (cell_of tree cell) ≡ false
none_leads tree part cell none stands = by (cell_number tree cell) refl
  where
    by : (o : Option ℕ) → cell_number tree cell ≡ o → is_recursive tree part.name (cell_of tree cell) ≡ false
    by None e = recursive_none tree part.name cell e
    by (Some k) e = recursive_some tree part.name cell k e ∙ none k (number_in_cells tree part.cells stands.0 cell k stands.1 e)

-- the mark of a cell
pub marked_at : (tree : PlainTree) (part : PlainComponent) (cell : PlainCell) (marks : List Bool) (k : ℕ) → AreMarks tree part marks → StandsIn part.cells cell → Some k ≡ cell_number tree cell
    → slice_get marks k ≡ Some (is_recursive tree part.name (cell_of tree cell))
marked_at tree part cell marks k are stands e = are k (number_in_cells tree part.cells stands.0 cell k stands.1 (sym e)) ∙ ap Some (sym (recursive_some tree part.name cell k (sym e)))

-- the test for circles says no
pub without_circle : (tree : PlainTree) (is_circular : Bool) → (IsTrue is_circular ↔ HasCircle (targets_of (component_edges tree))) → is_circular ≡ false → HasCircle (targets_of (component_edges tree)) → ⊥
without_circle tree is_circular both none circle = true≢false (sym (both.1 circle) ∙ none)
