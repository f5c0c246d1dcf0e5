-- Where a design has no static components, what is counted with them written out is what stands there.
use Rattle.std.proofs.Common.{◌≡◌, ℕ, zero, suc, ◌+◌, ◌<◌, ◌≤◌, max, Bool, true, false, ◌&&◌, ◌||◌, inl, inr, ◌⊎◌, List, [], ◌∷◌, length, Option, Some, None, refl, sym, ap, ap₂, ◌∙◌, subst, arith}
use Rattle.std.specs.Prelude.{is_some}
use Rattle.std.proofs.lemmas.Bool.{cases_lt}
use Rattle.std.proofs.lemmas.List.{get_or_past}
use Rattle.cx_meaning.specs.Designs.{PlainInvoke, PlainCell, PlainKind, OfPrimitive, OfComponent, PlainComponent, PlainDesign, component_at, no_component, PlainForm, Empty, Enable, Seq, Par, If, While, Repeat, StaticSeq, StaticPar, StaticIf, StaticRepeat, Timed, PlainStatement, Placed, PlainStatements, no_statements, a_statement}
use Rattle.cx_meaning.specs.Instances.{Instance, Node, Cells, an_instance, add_cell, cells_for, part_of, cells_of, tree_within}
use Rattle.cx_meaning.proofs.DesignsLemmas.{same_part}
use Rattle.cx_meaning.specs.Islands.{form_length}
use Rattle.cx_rules.specs.Items.{Visited, statements_in}
use Rattle.cx_rules.specs.StaticControl.{is_dynamic, is_island, form_occurrences, occurrences, occurrences_in, island_occurrences, occurrences_of}
use Rattle.cx_rules.specs.Sizes.{size_of, weight_below, weight_in, instances_below, instances_in, depth_below, depth_in}
use Rattle.cx_rules.specs.Flat.{IsFlatPart, IsFlat}
use Rattle.cx_rules.specs.Invokes.{invoke_in, form_lasts}
use Rattle.cx_rules.specs.Counts.{Inners, inner_for, cells_in, always_in, groups_for, copies_for, statement_count_of, statements_for, statements_counted, form_counted, counted, counted_in, occurrence_count_of, captures_in, has_invoke, is_any_island, island_counted, occurrences_counted, inner, if_static, inners_of, size_with, counted_cells, counted_groups, counted_size, occurrences_at, unless_static, weight_within, counted_weight, instances_within, counted_instances, depth_within, counted_depth}
use Rattle.cx_rules.proofs.InvokesLemmas.{no_invoke_at, form_lasts-flat}

-- no cell of a list is of a static component
abbrev AreNone : Inners → Type 0
AreNone [] = Unit {0}
AreNone (None ∷ rest) = AreNone rest
AreNone (Some x ∷ rest) = ⊥

each_cell : (cs : List PlainCell) (below : Inners) → AreNone below → cells_in cs below ≡ length cs
each_cell [] below h = refl
each_cell (c ∷ cs) [] h = let e = each_cell cs [] h in omega (arith, e)
each_cell (c ∷ cs) (None ∷ below) h = let e = each_cell cs below h in omega (arith, e)
each_cell (c ∷ cs) (Some x ∷ below) h = absurd h

no_always : (below : Inners) → AreNone below → always_in below ≡ 0
no_always [] h = refl
no_always (None ∷ below) h = let e = no_always below h in omega (arith, e)
no_always (Some x ∷ below) h = absurd h

module _ (part : PlainComponent) (none : part.invokes ≡ []) (below : Inners) where
  no_groups : groups_for below part.invokes ≡ 0
  no_groups = ap (groups_for below) none

  no_copies : copies_for below part.invokes ≡ 0
  no_copies = ap (copies_for below) none

  one_statement : (ks : List ℕ) → statements_for part below ks ≡ 1
  one_statement [] = refl
  one_statement (k ∷ ks) = ap (λ v. statement_of v) (no_invoke_at part none k)
    where
      statement_of : Option PlainInvoke → ℕ
      statement_of v = statement_count_of (inner_for below v) (captures_in v)

  each_statement : (vs : List Visited) → statements_counted part below vs ≡ length vs
  each_statement [] = refl
  each_statement (v ∷ vs) = let e = one_statement (invoke_in v.form) in let f = each_statement vs in omega (arith, e, f)

  mutual
    pub form_counted-flat : (form : PlainForm) → form_counted part below form ≡ form_occurrences part form
    form_counted-flat Empty = refl
    form_counted-flat (Enable g) = refl
    form_counted-flat (Seq parts) = refl
    form_counted-flat (Par arms) = refl
    form_counted-flat (If test comb a b) = refl
    form_counted-flat (While test comb a) = refl
    form_counted-flat (Repeat count a) = refl
    form_counted-flat (StaticSeq length parts) = counted_in-flat parts
    form_counted-flat (StaticPar length arms) = counted_in-flat arms
    form_counted-flat (StaticIf length test a b) = ap₂ (λ m n. m + n) (counted-flat a) (counted-flat b)
    form_counted-flat (StaticRepeat length count a) = counted-flat a
    form_counted-flat (Timed k) = ap (λ v. occurrence_count_of (inner_for below v) (captures_in v)) (no_invoke_at part none k)

    counted-flat : (s : PlainStatement) → counted part below s ≡ occurrences part s
    counted-flat (Placed form place) = form_counted-flat form

    counted_in-flat : (ss : PlainStatements) → counted_in part below ss ≡ occurrences_in part ss
    counted_in-flat no_statements = refl
    counted_in-flat (a_statement s ss) = ap₂ (λ m n. m + n) (counted-flat s) (counted_in-flat ss)

  no_more_invokes : (ks : List ℕ) → has_invoke part ks ≡ false
  no_more_invokes [] = refl
  no_more_invokes (k ∷ ks) = ap is_some (no_invoke_at part none k)

  pub is_any_island-flat : (v : Visited) → is_any_island part v ≡ is_island part v
  is_any_island-flat v = ap (λ b. is_island part v || (is_dynamic v.context && b)) (no_more_invokes (invoke_in v.form)) ∙ by (is_island part v) (is_dynamic v.context)
    where
      by : (a b : Bool) → (a || (b && false)) ≡ a
      by true b = refl
      by false true = refl
      by false false = refl

  island_counted-flat : (b : Bool) (form : PlainForm) → island_counted part below b form ≡ island_occurrences part b form
  island_counted-flat true form = form_counted-flat form
  island_counted-flat false form = refl

  each_occurrence : (vs : List Visited) → occurrences_counted part below vs ≡ occurrences_of part vs
  each_occurrence [] = refl
  each_occurrence (v ∷ vs) =
      ap₂ (λ m n. m + n) (ap (λ b. island_counted part below b v.form) (is_any_island-flat v) ∙ island_counted-flat (is_island part v) v.form) (each_occurrence vs)

  size_with-flat : AreNone below → size_with part below ≡ size_of part
  size_with-flat h =
      let cells : cells_in part.cells below ≡ length part.cells = each_cell part.cells below h in
      let always : always_in below ≡ 0 = no_always below h in
      let copies : copies_for below part.invokes ≡ 0 = no_copies in
      let statements : statements_counted part below (statements_in part) ≡ length (statements_in part) = each_statement (statements_in part) in
      let occurrences : occurrences_counted part below (statements_in part) ≡ occurrences_of part (statements_in part) = each_occurrence (statements_in part) in
      omega (arith, cells, always, copies, statements, occurrences)

-- OVER A DESIGN
pub flat_part : (d : PlainDesign) → IsFlat d → (k : ℕ) → IsFlatPart (component_at d k)
flat_part d flat k = by (cases_lt k (length d.components))
  where
    by : (k < length d.components) ⊎ (length d.components ≤ k) → IsFlatPart (component_at d k)
    by (inl lt) = flat k lt
    by (inr past) = subst IsFlatPart (sym (get_or_past d.components k no_component past)) (record { dynamic = refl; no_invoke = refl })

none_before : (i : Instance) (rest : Cells) → (part_of i).latency ≡ None → inners_of (an_instance i rest) ≡ None ∷ inners_of rest
none_before (Node part cells) rest e = ap (λ l. if_static l (inner part (inners_of cells)) ∷ inners_of rest) e

own_weight : (i : Instance) (rest : Cells) → (part_of i).latency ≡ None → weight_within (an_instance i rest) ≡ counted_weight i + weight_within rest
own_weight (Node part cells) rest e =
    ap (λ l. unless_static l (size_with part (inners_of cells) + 1) + weight_within cells + weight_within rest) e

own_instances : (i : Instance) (rest : Cells) → (part_of i).latency ≡ None → instances_within (an_instance i rest) ≡ counted_instances i + instances_within rest
own_instances (Node part cells) rest e = ap (λ l. unless_static l 1 + instances_within cells + instances_within rest) e

own_depth : (i : Instance) (rest : Cells) → (part_of i).latency ≡ None → depth_within (an_instance i rest) ≡ max (counted_depth i) (depth_within rest)
own_depth (Node part cells) rest e = ap (λ l. max (unless_static l 1 + depth_within cells) (depth_within rest)) e

module _ (d : PlainDesign) (flat : IsFlat d) where
  pub latency_within : (n k : ℕ) → (part_of (tree_within d n k)).latency ≡ None
  latency_within n k = ap (λ (part : PlainComponent). part.latency) (same_part d n k) ∙ (flat_part d flat k).dynamic

  none_within : (n : ℕ) (cs : List PlainCell) → AreNone (inners_of (cells_for (tree_within d n) cs))
  none_within n [] = tt
  none_within n (c ∷ cs) = by c.kind (none_within n cs)
    where
      by : (kind : PlainKind) → AreNone (inners_of (cells_for (tree_within d n) cs)) → AreNone (inners_of (add_cell (tree_within d n) kind (cells_for (tree_within d n) cs)))
      by (OfPrimitive primitive) h = h
      by (OfComponent k) h = subst AreNone (sym (none_before (tree_within d n k) (cells_for (tree_within d n) cs) (latency_within n k))) h

  none_below : (n k : ℕ) → AreNone (inners_of (cells_of (tree_within d n k)))
  none_below zero k = tt
  none_below (suc n) k = none_within n (component_at d k).cells

  pub no_invokes : (k : ℕ) → (component_at d k).invokes ≡ []
  no_invokes k = (flat_part d flat k).no_invoke

  pub counted_cells-flat : (n k : ℕ) → counted_cells (tree_within d n k) ≡ length (component_at d k).cells
  counted_cells-flat zero k = each_cell (component_at d k).cells [] tt
  counted_cells-flat (suc n) k = each_cell (component_at d k).cells _ (none_below (suc n) k)

  pub counted_groups-flat : (n k : ℕ) → counted_groups (tree_within d n k) ≡ length (component_at d k).groups
  counted_groups-flat zero k = let e = no_groups (component_at d k) (no_invokes k) [] in omega (arith, e)
  counted_groups-flat (suc n) k = let e = no_groups (component_at d k) (no_invokes k) (inners_of (cells_for (tree_within d n) (component_at d k).cells)) in omega (arith, e)

  pub counted_size-flat : (n k : ℕ) → counted_size (tree_within d n k) ≡ size_of (component_at d k)
  counted_size-flat zero k = size_with-flat (component_at d k) (no_invokes k) [] tt
  counted_size-flat (suc n) k = size_with-flat (component_at d k) (no_invokes k) _ (none_below (suc n) k)

  pub occurrences_at-flat : (n k : ℕ) (form : PlainForm) → occurrences_at (tree_within d n k) form ≡ form_occurrences (component_at d k) form
  occurrences_at-flat zero k form = form_counted-flat (component_at d k) (no_invokes k) [] form
  occurrences_at-flat (suc n) k form = form_counted-flat (component_at d k) (no_invokes k) (inners_of (cells_for (tree_within d n) (component_at d k).cells)) form

  weights : (n : ℕ) → ((k : ℕ) → counted_weight (tree_within d n k) ≡ weight_below (tree_within d n k)) → (cs : List PlainCell) → weight_within (cells_for (tree_within d n) cs) ≡ weight_in (cells_for (tree_within d n) cs)
  weights n each [] = refl
  weights n each (c ∷ cs) = by c.kind (weights n each cs)
    where
      by : (kind : PlainKind) → weight_within (cells_for (tree_within d n) cs) ≡ weight_in (cells_for (tree_within d n) cs)
          → weight_within (add_cell (tree_within d n) kind (cells_for (tree_within d n) cs)) ≡ weight_in (add_cell (tree_within d n) kind (cells_for (tree_within d n) cs))
      by (OfPrimitive primitive) h = h
      by (OfComponent k) h = own_weight (tree_within d n k) _ (latency_within n k) ∙ ap₂ (λ a b. a + b) (each k) h

  pub counted_weight-flat : (n k : ℕ) → counted_weight (tree_within d n k) ≡ weight_below (tree_within d n k)
  counted_weight-flat zero k = let e = counted_size-flat zero k in omega (arith, e)
  counted_weight-flat (suc n) k = let e = counted_size-flat (suc n) k in let f = weights n (counted_weight-flat n) (component_at d k).cells in omega (arith, e, f)

  all_instances : (n : ℕ) → ((k : ℕ) → counted_instances (tree_within d n k) ≡ instances_below (tree_within d n k)) → (cs : List PlainCell) → instances_within (cells_for (tree_within d n) cs) ≡ instances_in (cells_for (tree_within d n) cs)
  all_instances n each [] = refl
  all_instances n each (c ∷ cs) = by c.kind (all_instances n each cs)
    where
      by : (kind : PlainKind) → instances_within (cells_for (tree_within d n) cs) ≡ instances_in (cells_for (tree_within d n) cs)
          → instances_within (add_cell (tree_within d n) kind (cells_for (tree_within d n) cs)) ≡ instances_in (add_cell (tree_within d n) kind (cells_for (tree_within d n) cs))
      by (OfPrimitive primitive) h = h
      by (OfComponent k) h = own_instances (tree_within d n k) _ (latency_within n k) ∙ ap₂ (λ a b. a + b) (each k) h

  pub counted_instances-flat : (n k : ℕ) → counted_instances (tree_within d n k) ≡ instances_below (tree_within d n k)
  counted_instances-flat zero k = refl
  counted_instances-flat (suc n) k = ap (λ m. 1 + m) (all_instances n (counted_instances-flat n) (component_at d k).cells)

  depths : (n : ℕ) → ((k : ℕ) → counted_depth (tree_within d n k) ≡ depth_below (tree_within d n k)) → (cs : List PlainCell) → depth_within (cells_for (tree_within d n) cs) ≡ depth_in (cells_for (tree_within d n) cs)
  depths n each [] = refl
  depths n each (c ∷ cs) = by c.kind (depths n each cs)
    where
      by : (kind : PlainKind) → depth_within (cells_for (tree_within d n) cs) ≡ depth_in (cells_for (tree_within d n) cs)
          → depth_within (add_cell (tree_within d n) kind (cells_for (tree_within d n) cs)) ≡ depth_in (add_cell (tree_within d n) kind (cells_for (tree_within d n) cs))
      by (OfPrimitive primitive) h = h
      by (OfComponent k) h = own_depth (tree_within d n k) _ (latency_within n k) ∙ ap₂ max (each k) h

  pub counted_depth-flat : (n k : ℕ) → counted_depth (tree_within d n k) ≡ depth_below (tree_within d n k)
  counted_depth-flat zero k = refl
  counted_depth-flat (suc n) k = ap (λ m. 1 + m) (depths n (counted_depth-flat n) (component_at d k).cells)

  -- a limit at a statement is that of what stands there
  pub any_island-flat : (n k : ℕ) (v : Visited) → is_any_island (part_of (tree_within d n k)) v ≡ is_island (component_at d k) v
  any_island-flat n k v = ap (λ part. is_any_island part v) (same_part d n k) ∙ is_any_island-flat (component_at d k) (no_invokes k) [] v

  pub no_invokes_within : (n k : ℕ) → (part_of (tree_within d n k)).invokes ≡ []
  no_invokes_within n k = ap (λ (part : PlainComponent). part.invokes) (same_part d n k) ∙ no_invokes k

  pub lasts_within : (n k : ℕ) (form : PlainForm) → form_lasts (part_of (tree_within d n k)) form ≡ form_length (part_of (tree_within d n k)) form
  lasts_within n k form = form_lasts-flat (part_of (tree_within d n k)) (no_invokes_within n k) form
