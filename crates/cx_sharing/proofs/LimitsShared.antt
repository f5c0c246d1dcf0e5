-- LIMITS: a given cell is a primitive without words, so each count over the shared design is that over the design, or less.
use Rattle.std.proofs.Common.{◌≡◌, ℕ, zero, suc, ◌+◌, ◌<◌, ◌≤◌, max, ⊎_elim, Bool, true, false, List, [], ◌∷◌, length, Option, Some, None, refl, sym, ap, ap₂, ◌∙◌, subst, arith}
use Rattle.std.specs.Prelude.{if◌then◌else◌}
use Rattle.std.proofs.lemmas.Bool.{eq-eqb, both_ways}
use Rattle.std.proofs.lemmas.List.{length-map}
use Rattle.cx_prim.specs.CellStates.{StateShape, NoState, RegisterOf, MemoryOf, SequentialMemoryOf, MultiplierOf, DividerOf, TimerOf}
use Rattle.cx_prim.specs.Table.{PrimitiveRow, row_of}
use Rattle.cx_meaning.specs.Designs.{PlainKind, OfPrimitive, OfComponent, PlainCell, PlainGroup, PlainComponent, PlainDesign, component_at, PlainForm}
use Rattle.cx_meaning.specs.Instances.{Instance, Node, Cells, no_cells, a_primitive, an_instance, At, Nothing, OfRow, OfInstance, cell_at, cells_of, part_of, cells_for, add_cell, tree_within, tree_of}
use Rattle.cx_meaning.proofs.InstancesLemmas.{at_kind}
use Rattle.cx_rules.specs.Ports.{component_of}
use Rattle.cx_rules.specs.Items.{Dynamic, statements_in}
use Rattle.cx_rules.specs.StaticControl.{occurrences_of}
use Rattle.cx_rules.specs.Sizes.{assigns_size, groups_size, size_of, shape_words, words_below, words_in}
use Rattle.cx_rules.specs.Counts.{Inner, inner_at, cells_in, always_in, groups_for, form_counted, inner, if_static, inners_of, counted_cells, counted_groups, counted_size, occurrences_at, unless_static, weight_within, counted_weight, instances_within, counted_instances, depth_within, counted_depth}
use Rattle.cx_rewrites.specs.Moving.{moved_group, moved_form}
use Rattle.cx_meaning.specs.Islands.{kind_length, group_length}
use Rattle.cx_rewrites.specs.Renaming.{renamed}
use Rattle.cx_sharing.specs.Uses.{is_stateless, kind_in}
use Rattle.cx_sharing.specs.Giving.{keeper, stays, new_cell}
use Rattle.cx_sharing.specs.SharedDesign.{remaining, shared_part, shared_design}
use Rattle.cx_sharing.proofs.KeeperLemmas.{WasGiven, given_or_kept}
use Rattle.cx_sharing.proofs.RemainingLemmas.{length_left}
use Rattle.cx_sharing.proofs.SharedMain.{staying_most}
use Rattle.cx_sharing.proofs.TwinLemmas.{candidate_holds_nothing}
use Rattle.cx_sharing.proofs.CandidateLemmas.{candidate_is}
use Rattle.cx_rewrites.proofs.MovedLists as lists
use Rattle.cx_rewrites.proofs.MovedLists.{moved_group_at}
use Rattle.cx_sharing.proofs.SharedParts.{as_many_parts}
use Rattle.cx_sharing.proofs.TwinLemmas.{at_new_number, shared_component}
use Rattle.cx_sharing.proofs.CountsShared.{IsLess, fewer_cells_of, same_always_of, inner-shared, size_with-shared, form_counted-shared, invoked_groups-shared}

-- the shared component has at most as many cells
fewer_here : (part : PlainComponent) → length (shared_part part).cells ≤ length part.cells
fewer_here part = let left = length_left (stays part) part.cells in let few = staying_most (stays part) (length part.cells) in omega (arith, left, few)

-- what does not stay is a primitive that holds nothing
pub record IsGone (cells : List PlainCell) (c : ℕ) : Type 0 where
  pub primitive : PrimitiveRow
  pub kind : kind_in cells c ≡ OfPrimitive primitive
  pub holds_nothing : is_stateless (row_of primitive).shape ≡ true

pub gone_is : (part : PlainComponent) (c : ℕ) → stays part c ≡ false → IsGone part.cells c
gone_is part c gone = ⊎_elim (λ r. of_given r) (λ e. absurd (both_ways (stays part c) gone (eq-eqb (keeper part c) c e))) (given_or_kept part c)
  where
    of_given : WasGiven part c → IsGone part.cells c
    of_given r =
        let k = candidate_is part c r.candidate in
        record { primitive = k.primitive; kind = k.kind; holds_nothing = candidate_holds_nothing part c k.primitive k.kind r.candidate }

no_words : (shape : StateShape) → is_stateless shape ≡ true → shape_words shape ≡ 0
no_words NoState e = refl
no_words (RegisterOf width) e = refl
no_words (MemoryOf width count) e = absurd (cc)
no_words (SequentialMemoryOf width count) e = absurd (cc)
no_words (MultiplierOf width latency) e = refl
no_words (DividerOf width latency) e = refl
no_words (TimerOf length) e = refl

-- WHAT IS COUNTED of an instance beside the shared one: cells and weight grow less, and all else stays
abbrev inner_of : Instance → Option Inner
inner_of (Node part cells) = if_static part.latency (inner part (inners_of cells))

pub record SharedCounts (i j : Instance) : Type 0 where
  pub part : part_of j ≡ shared_part (part_of i)
  pub at : (c : ℕ) → IsLess (inner_at (inners_of (cells_of i)) c) (inner_at (inners_of (cells_of j)) (new_cell (part_of i) c))
  pub inner : IsLess (inner_of i) (inner_of j)
  pub cells : counted_cells j ≤ counted_cells i
  pub size : counted_size j ≤ counted_size i
  pub weight : weight_within (cells_of j) ≤ weight_within (cells_of i)
  pub instances : instances_within (cells_of j) ≡ instances_within (cells_of i)
  pub depth : depth_within (cells_of j) ≡ depth_within (cells_of i)
  pub words : words_below j ≡ words_below i

same_latency : {i j : Instance} → SharedCounts i j → (part_of j).latency ≡ (part_of i).latency
same_latency h = ap (λ (x : PlainComponent). x.latency) h.part

-- the component with what stands at its cells
counts_of : (part : PlainComponent) (cells more : Cells) → ((c : ℕ) → IsLess (inner_at (inners_of cells) c) (inner_at (inners_of more) (new_cell part c)))
    → cells_in (shared_part part).cells (inners_of more) ≤ cells_in part.cells (inners_of cells) → always_in (inners_of more) ≡ always_in (inners_of cells) → weight_within more ≤ weight_within cells
    → instances_within more ≡ instances_within cells → depth_within more ≡ depth_within cells → words_in more ≡ words_in cells → SharedCounts (Node part cells) (Node (shared_part part) more)
counts_of part cells more at few always weight instances depth words = record {
  part = refl;
  at = at;
  inner = by part.latency;
  cells = few;
  size = size_with-shared part (inners_of cells) (inners_of more) at few always;
  weight = weight;
  instances = instances;
  depth = depth;
  words = words;
}
  where
    by : (latency : Option ℕ) → IsLess (if_static latency (inner part (inners_of cells))) (if_static latency (inner (shared_part part) (inners_of more)))
    by None = tt
    by (Some n) = inner-shared part (inners_of cells) (inners_of more) at few always

-- AT A CELL of an instance
abbrev standing : At → Option Inner
standing Nothing = None
standing (OfRow row) = None
standing (OfInstance child) = inner_of child

inner_at-is : (cells : Cells) (c : ℕ) → inner_at (inners_of cells) c ≡ standing (cell_at cells c)
inner_at-is no_cells c = refl
inner_at-is (a_primitive row rest) zero = refl
inner_at-is (a_primitive row rest) (suc c) = inner_at-is rest c
inner_at-is (an_instance (Node part cells) rest) zero = refl
inner_at-is (an_instance (Node part cells) rest) (suc c) = inner_at-is rest c

-- A CELL OF A COMPONENT adds what is counted of it
inners-instance : (child : Instance) (rest : Cells) → inners_of (an_instance child rest) ≡ inner_of child ∷ inners_of rest
inners-instance (Node part cells) rest = refl

weight-instance : (child : Instance) (rest : Cells) → weight_within (an_instance child rest) ≡ unless_static (part_of child).latency (counted_size child + 1) + weight_within (cells_of child) + weight_within rest
weight-instance (Node part cells) rest = refl

instances-instance : (child : Instance) (rest : Cells) → instances_within (an_instance child rest) ≡ unless_static (part_of child).latency 1 + instances_within (cells_of child) + instances_within rest
instances-instance (Node part cells) rest = refl

depth-instance : (child : Instance) (rest : Cells) → depth_within (an_instance child rest) ≡ max (unless_static (part_of child).latency 1 + depth_within (cells_of child)) (depth_within rest)
depth-instance (Node part cells) rest = refl

own_weight : (i j : Instance) → SharedCounts i j → unless_static (part_of j).latency (counted_size j + 1) ≤ unless_static (part_of i).latency (counted_size i + 1)
own_weight i j h = subst (λ latency. unless_static latency (counted_size j + 1) ≤ unless_static (part_of i).latency (counted_size i + 1)) (sym (same_latency h)) (by (part_of i).latency)
  where
    by : (latency : Option ℕ) → unless_static latency (counted_size j + 1) ≤ unless_static latency (counted_size i + 1)
    by None = let less = h.size in omega (arith, less)
    by (Some n) = omega arith

-- a cell of another kind
abbrev of_kind : PlainCell → PlainKind → PlainCell
of_kind cell kind = record { name = cell.name; kind = kind; external = cell.external; place = cell.place }

-- OVER THE CELLS of a component: a count that adds up what stands at each of them
module _ (part : PlainComponent) (f g : ℕ → Instance) where
  -- the cells from cell k on
  abbrev From : ℕ → List PlainCell → Type 0
  From k cells = (c : ℕ) → c < length cells → kind_in part.cells (k + c) ≡ kind_in cells c

  from_next : (k : ℕ) (cell : PlainCell) (cells : List PlainCell) → From k (cell ∷ cells) → From (suc k) cells
  from_next k cell cells same c lt = let next : suc k + c ≡ k + suc c = omega arith in ap (kind_in part.cells) next ∙ same (suc c) (omega (arith, lt))

  from_here : (k : ℕ) (cell : PlainCell) (cells : List PlainCell) → From k (cell ∷ cells) → kind_in part.cells k ≡ cell.kind
  from_here k cell cells same = let none : k ≡ k + 0 = omega arith in let first : 0 < suc (length cells) = omega arith in ap (kind_in part.cells) none ∙ same 0 first

  pub from_first : From 0 part.cells
  from_first c lt = let none : 0 + c ≡ c = omega arith in ap (kind_in part.cells) none

  words-left : ((n : ℕ) → words_below (g n) ≡ words_below (f n)) → (k : ℕ) (cells : List PlainCell) → From k cells → words_in (cells_for g (remaining (stays part) k cells)) ≡ words_in (cells_for f cells)
  words-left each k [] same = refl
  words-left each k (cell ∷ cells) same = by (stays part k) refl cell.kind (from_here k cell cells same) (words-left each (suc k) cells (from_next k cell cells same))
    where
      by : (b : Bool) → stays part k ≡ b → (kind : PlainKind) → kind_in part.cells k ≡ kind → words_in (cells_for g (remaining (stays part) (suc k) cells)) ≡ words_in (cells_for f cells)
          → words_in (cells_for g (if b then record { name = cell.name; kind = kind; external = cell.external; place = cell.place } ∷ remaining (stays part) (suc k) cells else remaining (stays part) (suc k) cells)) ≡ words_in (add_cell f kind (cells_for f cells))
      by true on (OfPrimitive p) is h = ap (λ n. shape_words (row_of p).shape + n) h
      by true on (OfComponent n) is h = ap₂ ◌+◌ (each n) h
      by false off (OfPrimitive p) is h =
          let r = gone_is part k off in
          let both : OfPrimitive r.primitive ≡ OfPrimitive p = sym r.kind ∙ is in
          let same_p : r.primitive ≡ p = cc in
          let none : shape_words (row_of p).shape ≡ 0 = ap (λ (q : PrimitiveRow). shape_words (row_of q).shape) (sym same_p) ∙ no_words (row_of r.primitive).shape r.holds_nothing in
          omega (arith, h, none)
      by false off (OfComponent n) is h = let r = gone_is part k off in let both : OfPrimitive r.primitive ≡ OfComponent n = sym r.kind ∙ is in absurd (cc)

  -- what is counted of the cells
  module _ (counts : (n : ℕ) → SharedCounts (f n) (g n)) where
    cells_in-left : (k : ℕ) (cells : List PlainCell) → From k cells → cells_in (remaining (stays part) k cells) (inners_of (cells_for g (remaining (stays part) k cells))) ≤ cells_in cells (inners_of (cells_for f cells))
    cells_in-left k [] same = omega arith
    cells_in-left k (cell ∷ cells) same = by (stays part k) refl cell.kind (from_here k cell cells same) (cells_in-left (suc k) cells (from_next k cell cells same))
      where
        by : (b : Bool) → stays part k ≡ b → (kind : PlainKind) → kind_in part.cells k ≡ kind → cells_in (remaining (stays part) (suc k) cells) (inners_of (cells_for g (remaining (stays part) (suc k) cells))) ≤ cells_in cells (inners_of (cells_for f cells))
            → cells_in (if b then of_kind cell kind ∷ remaining (stays part) (suc k) cells else remaining (stays part) (suc k) cells) (inners_of (cells_for g (if b then of_kind cell kind ∷ remaining (stays part) (suc k) cells else remaining (stays part) (suc k) cells))) ≤ cells_in (of_kind cell kind ∷ cells) (inners_of (add_cell f kind (cells_for f cells)))
        by true on (OfPrimitive p) is h = omega (arith, h)
        by true on (OfComponent n) is h =
            let new = ap (cells_in (of_kind cell (OfComponent n) ∷ remaining (stays part) (suc k) cells)) (inners-instance (g n) (cells_for g (remaining (stays part) (suc k) cells))) in
            let old = ap (cells_in (of_kind cell (OfComponent n) ∷ cells)) (inners-instance (f n) (cells_for f cells)) in
            let own = fewer_cells_of (inner_of (f n)) (inner_of (g n)) (counts n).inner in
            omega (arith, h, new, old, own)
        by false off (OfPrimitive p) is h = omega (arith, h)
        by false off (OfComponent n) is h = let r = gone_is part k off in let both : OfPrimitive r.primitive ≡ OfComponent n = sym r.kind ∙ is in absurd (cc)

    always_in-left : (k : ℕ) (cells : List PlainCell) → From k cells → always_in (inners_of (cells_for g (remaining (stays part) k cells))) ≡ always_in (inners_of (cells_for f cells))
    always_in-left k [] same = refl
    always_in-left k (cell ∷ cells) same = by (stays part k) refl cell.kind (from_here k cell cells same) (always_in-left (suc k) cells (from_next k cell cells same))
      where
        by : (b : Bool) → stays part k ≡ b → (kind : PlainKind) → kind_in part.cells k ≡ kind → always_in (inners_of (cells_for g (remaining (stays part) (suc k) cells))) ≡ always_in (inners_of (cells_for f cells))
            → always_in (inners_of (cells_for g (if b then of_kind cell kind ∷ remaining (stays part) (suc k) cells else remaining (stays part) (suc k) cells))) ≡ always_in (inners_of (add_cell f kind (cells_for f cells)))
        by true on (OfPrimitive p) is h = omega (arith, h)
        by true on (OfComponent n) is h =
            ap always_in (inners-instance (g n) (cells_for g (remaining (stays part) (suc k) cells))) ∙ ap₂ ◌+◌ (same_always_of (inner_of (f n)) (inner_of (g n)) (counts n).inner) h ∙ sym (ap always_in (inners-instance (f n) (cells_for f cells)))
        by false off (OfPrimitive p) is h = omega (arith, h)
        by false off (OfComponent n) is h = let r = gone_is part k off in let both : OfPrimitive r.primitive ≡ OfComponent n = sym r.kind ∙ is in absurd (cc)

    weight-left : (k : ℕ) (cells : List PlainCell) → From k cells → weight_within (cells_for g (remaining (stays part) k cells)) ≤ weight_within (cells_for f cells)
    weight-left k [] same = omega arith
    weight-left k (cell ∷ cells) same = by (stays part k) refl cell.kind (from_here k cell cells same) (weight-left (suc k) cells (from_next k cell cells same))
      where
        by : (b : Bool) → stays part k ≡ b → (kind : PlainKind) → kind_in part.cells k ≡ kind → weight_within (cells_for g (remaining (stays part) (suc k) cells)) ≤ weight_within (cells_for f cells)
            → weight_within (cells_for g (if b then of_kind cell kind ∷ remaining (stays part) (suc k) cells else remaining (stays part) (suc k) cells)) ≤ weight_within (add_cell f kind (cells_for f cells))
        by true on (OfPrimitive p) is h = h
        by true on (OfComponent n) is h =
            let new = weight-instance (g n) (cells_for g (remaining (stays part) (suc k) cells)) in
            let old = weight-instance (f n) (cells_for f cells) in
            let own = own_weight (f n) (g n) (counts n) in
            let below = (counts n).weight in
            omega (arith, h, new, old, own, below)
        by false off (OfPrimitive p) is h = h
        by false off (OfComponent n) is h = let r = gone_is part k off in let both : OfPrimitive r.primitive ≡ OfComponent n = sym r.kind ∙ is in absurd (cc)

    instances-left : (k : ℕ) (cells : List PlainCell) → From k cells → instances_within (cells_for g (remaining (stays part) k cells)) ≡ instances_within (cells_for f cells)
    instances-left k [] same = refl
    instances-left k (cell ∷ cells) same = by (stays part k) refl cell.kind (from_here k cell cells same) (instances-left (suc k) cells (from_next k cell cells same))
      where
        by : (b : Bool) → stays part k ≡ b → (kind : PlainKind) → kind_in part.cells k ≡ kind → instances_within (cells_for g (remaining (stays part) (suc k) cells)) ≡ instances_within (cells_for f cells)
            → instances_within (cells_for g (if b then of_kind cell kind ∷ remaining (stays part) (suc k) cells else remaining (stays part) (suc k) cells)) ≡ instances_within (add_cell f kind (cells_for f cells))
        by true on (OfPrimitive p) is h = h
        by true on (OfComponent n) is h =
            instances-instance (g n) (cells_for g (remaining (stays part) (suc k) cells))
            ∙ ap₂ ◌+◌ (ap₂ ◌+◌ (ap (λ latency. unless_static latency 1) (same_latency (counts n))) (counts n).instances) h
            ∙ sym (instances-instance (f n) (cells_for f cells))
        by false off (OfPrimitive p) is h = h
        by false off (OfComponent n) is h = let r = gone_is part k off in let both : OfPrimitive r.primitive ≡ OfComponent n = sym r.kind ∙ is in absurd (cc)

    depth-left : (k : ℕ) (cells : List PlainCell) → From k cells → depth_within (cells_for g (remaining (stays part) k cells)) ≡ depth_within (cells_for f cells)
    depth-left k [] same = refl
    depth-left k (cell ∷ cells) same = by (stays part k) refl cell.kind (from_here k cell cells same) (depth-left (suc k) cells (from_next k cell cells same))
      where
        by : (b : Bool) → stays part k ≡ b → (kind : PlainKind) → kind_in part.cells k ≡ kind → depth_within (cells_for g (remaining (stays part) (suc k) cells)) ≡ depth_within (cells_for f cells)
            → depth_within (cells_for g (if b then of_kind cell kind ∷ remaining (stays part) (suc k) cells else remaining (stays part) (suc k) cells)) ≡ depth_within (add_cell f kind (cells_for f cells))
        by true on (OfPrimitive p) is h = h
        by true on (OfComponent n) is h =
            depth-instance (g n) (cells_for g (remaining (stays part) (suc k) cells))
            ∙ ap₂ max (ap₂ ◌+◌ (ap (λ latency. unless_static latency 1) (same_latency (counts n))) (counts n).depth) h
            ∙ sym (depth-instance (f n) (cells_for f cells))
        by false off (OfPrimitive p) is h = h
        by false off (OfComponent n) is h = let r = gone_is part k off in let both : OfPrimitive r.primitive ≡ OfComponent n = sym r.kind ∙ is in absurd (cc)

    -- at each cell's new number
    inner-left : (c : ℕ) → IsLess (inner_at (inners_of (cells_for f part.cells)) c) (inner_at (inners_of (cells_for g (remaining (stays part) 0 part.cells))) (new_cell part c))
    inner-left c =
        subst (λ x. IsLess x (inner_at (inners_of (cells_for g (remaining (stays part) 0 part.cells))) (new_cell part c))) (sym (inner_at-is (cells_for f part.cells) c))
        (subst (IsLess (standing (cell_at (cells_for f part.cells) c))) (sym (inner_at-is (cells_for g (remaining (stays part) 0 part.cells)) (new_cell part c)))
        (at_new_number part f g (λ at to. IsLess (standing at) (standing to)) tt c each_kind))
      where
        each_kind : (kind : PlainKind) → kind_in part.cells c ≡ kind → IsLess (standing (at_kind f kind)) (standing (at_kind g kind))
        each_kind (OfPrimitive p) is = tt
        each_kind (OfComponent n) is = (counts n).inner

    -- THE COMPONENT of these cells
    pub node_counts : SharedCounts (Node part (cells_for f part.cells)) (Node (shared_part part) (cells_for g (shared_part part).cells))
    node_counts = counts_of part (cells_for f part.cells) (cells_for g (shared_part part).cells) inner-left (cells_in-left 0 part.cells from_first) (always_in-left 0 part.cells from_first)
        (weight-left 0 part.cells from_first) (instances-left 0 part.cells from_first) (depth-left 0 part.cells from_first) (words-left (λ n. (counts n).words) 0 part.cells from_first)

-- SIZE
lengths : (part : PlainComponent) (g : ℕ) → group_length (shared_part part) g ≡ group_length part g
lengths part g = ap (λ (x : PlainGroup). kind_length x.kind) (moved_group_at (renamed (new_cell part)) part.groups g)

pub smaller : (part : PlainComponent) → size_of (shared_part part) ≤ size_of part
smaller part =
    let move = renamed (new_cell part) in
    let visited = lists.visit-moved move Dynamic part.control in
    let cells = fewer_here part in
    let groups : groups_size (shared_part part).groups ≡ groups_size part.groups = lists.groups_size-moved move part.groups in
    let always : assigns_size (shared_part part).always ≡ assigns_size part.always = lists.assigns_size-moved move part.always in
    let statements : length (statements_in (shared_part part)) ≡ length (statements_in part) = ap length visited ∙ length-map (statements_in part) (lists.moved_visited move) in
    let occurrences : occurrences_of (shared_part part) (statements_in (shared_part part)) ≡ occurrences_of part (statements_in part) =
    ap (occurrences_of (shared_part part)) visited ∙ lists.occurrences_of-moved move part (shared_part part) (lengths part) (statements_in part) in
    omega (arith, cells, groups, always, statements, occurrences)

-- OVER THE TREE
module _ (d : PlainDesign) where
  abbrev old : ℕ → ℕ → Instance
  old n k = tree_within d n k

  abbrev new : ℕ → ℕ → Instance
  new n k = tree_within (shared_design d) n k

  -- a node of the shared design, by its component
  node_is : (n k : ℕ) → new (suc n) k ≡ Node (shared_part (component_at d k)) (cells_for (new n) (shared_part (component_at d k)).cells)
  node_is n k = ap (λ (part : PlainComponent). Node part (cells_for (new n) part.cells)) (shared_component d k)

  leaf_is : (k : ℕ) → new zero k ≡ Node (shared_part (component_at d k)) (cells_for (new zero) [])
  leaf_is k = ap (λ (part : PlainComponent). Node part (cells_for (new zero) [])) (shared_component d k)

  pub counts-kept : (n k : ℕ) → SharedCounts (old n k) (new n k)
  counts-kept zero k =
      subst (SharedCounts (old zero k)) (sym (leaf_is k))
      (counts_of (component_at d k) no_cells no_cells (λ c. tt) (let new = alone (shared_part (component_at d k)).cells in let old = alone (component_at d k).cells in let few = fewer_here (component_at d k) in omega (arith, new, old, few))
      refl (omega arith) refl refl refl)
    where
      alone : (cells : List PlainCell) → cells_in cells [] ≡ length cells
      alone [] = refl
      alone (cell ∷ cells) = let rest = alone cells in omega (arith, rest)
  counts-kept (suc n) k =
      subst (SharedCounts (old (suc n) k)) (sym (node_is n k))
      (node_counts (component_at d k) (old n) (new n) (counts-kept n))

  -- a component of the design, and the tree
  pub component_counts : (k : ℕ) → SharedCounts (component_of d k) (component_of (shared_design d) k)
  component_counts k = subst (λ n. SharedCounts (component_of d k) (new n k)) (sym (as_many_parts d)) (counts-kept (length d.components) k)

  tree_counts : SharedCounts (tree_of d) (tree_of (shared_design d))
  tree_counts = component_counts d.main

  pub groups_kept : (k : ℕ) → counted_groups (component_of (shared_design d) k) ≡ counted_groups (component_of d k)
  groups_kept k = by (component_of d k) (component_of (shared_design d) k) (component_counts k)
    where
      by : (i j : Instance) → SharedCounts i j → counted_groups j ≡ counted_groups i
      by (Node part cells) (Node other more) h =
          ap (λ (x : PlainComponent). length x.groups + groups_for (inners_of more) x.invokes) h.part
          ∙ ap₂ ◌+◌ (length-map part.groups (moved_group (renamed (new_cell part)))) (invoked_groups-shared part (inners_of cells) (inners_of more) h.at)

  pub occurrences_kept : (k : ℕ) (form : PlainForm) → occurrences_at (component_of (shared_design d) k) (moved_form (renamed (new_cell (part_of (component_of d k)))) form) ≡ occurrences_at (component_of d k) form
  occurrences_kept k form = by (component_of d k) (component_of (shared_design d) k) (component_counts k)
    where
      by : (i j : Instance) → SharedCounts i j → occurrences_at j (moved_form (renamed (new_cell (part_of i))) form) ≡ occurrences_at i form
      by (Node part cells) (Node other more) h =
          ap (λ x. form_counted x (inners_of more) (moved_form (renamed (new_cell part)) form)) h.part ∙ form_counted-shared part (inners_of cells) (inners_of more) h.at form

  pub instances_kept : counted_instances (tree_of (shared_design d)) ≡ counted_instances (tree_of d)
  instances_kept = by (tree_of d) (tree_of (shared_design d)) tree_counts
    where
      by : (i j : Instance) → SharedCounts i j → counted_instances j ≡ counted_instances i
      by (Node part cells) (Node other more) h = ap (λ n. 1 + n) h.instances

  pub depth_kept : counted_depth (tree_of (shared_design d)) ≡ counted_depth (tree_of d)
  depth_kept = by (tree_of d) (tree_of (shared_design d)) tree_counts
    where
      by : (i j : Instance) → SharedCounts i j → counted_depth j ≡ counted_depth i
      by (Node part cells) (Node other more) h = ap (λ n. 1 + n) h.depth

  pub words_kept : words_below (tree_of (shared_design d)) ≡ words_below (tree_of d)
  words_kept = tree_counts.words

  pub weight_less : counted_weight (tree_of (shared_design d)) ≤ counted_weight (tree_of d)
  weight_less = by (tree_of d) (tree_of (shared_design d)) tree_counts
    where
      by : (i j : Instance) → SharedCounts i j → counted_weight j ≤ counted_weight i
      by (Node part cells) (Node other more) h = let size = h.size in let weight = h.weight in omega (arith, size, weight)
