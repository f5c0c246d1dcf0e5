-- THE TREE OF AN ACCEPTED DESIGN is fair and controlled, at every depth.
use Rattle.std.proofs.Common.{◌≡◌, ℕ, zero, suc, ◌+◌, ◌<◌, ◌≤◌, inl, Bool, true, false, List, [], ◌∷◌, length, Option, Some, None, refl, sym, ap, ◌∙◌, subst, arith}
use Rattle.cx_prim.specs.Rows.{Row}
use Rattle.cx_prim.specs.Table.{row_of}
use Rattle.cx_meaning.specs.Designs.{PlainKind, OfPrimitive, OfComponent, PlainCell, PlainComponent, PlainDesign, component_at}
use Rattle.cx_meaning.specs.Instances.{Instance, Node, Cells, no_cells, a_primitive, an_instance, Nothing, OfRow, OfInstance, part_of, cell_at, cells_for, tree_within, tree_of}
use Rattle.cx_meaning.proofs.InstancesLemmas.{instance_is, row_is}
use Rattle.cx_rules.specs.Invokes.{lasts}
use Rattle.cx_rules.specs.Accepted.{IsAccepted}
use Rattle.cx_rules.specs.Circles.{AreAcyclic, AcyclicBelow}
use Rattle.cx_rules.specs.Wellformed.{IsDesign}
use Rattle.cx_flattening.specs.Whole.{is_static}
use Rattle.cx_flattening.specs.Flattened.{kid_at, kid_if, flat_part, flat_kids}
use Rattle.cx_flattening.specs.Targets.{IsBlock}
use Rattle.cx_flattening.specs.Fair.{AllFair, AllFairBelow}
use Rattle.cx_flattening.specs.Controlled.{AllControlled, AllControlledBelow}
use Rattle.cx_flattening.specs.Ends.{NoneNamesDone}
use Rattle.cx_flattening.proofs.CellLayout.{kind_at, at_kind, cell_for, count_for, kind_there, kind_in}
use Rattle.cx_flattening.proofs.TreeLevels.{IsWay, no_way, further, way_is_short, levels}
use Rattle.cx_meaning.proofs.RowReads.{ReadsPlain, reads_plain}
use Rattle.cx_flattening.proofs.Ruled.{IsRuled, AllRuled, AllRuledBelow, ruled}
use Rattle.cx_flattening.proofs.FairParts.{HasCells, AllHave, AllHaveBelow, fair_part, controlled_part, control_lasts, some_of}
use Rattle.cx_flattening.proofs.FlatBlocks.{block_part}

-- an instance that keeps what flattening asks for, with all below it
pub record IsGood (i : Instance) : Type 0 where
  pub fair : AllFair i
  pub controlled : AllControlled i
  pub block : is_static i ≡ true → IsBlock (flat_part i)
  pub rules : AllRuled i
  pub has : AllHave i
  pub calm : AreAcyclic i
  pub lasting : (n : ℕ) → (part_of i).latency ≡ Some n → lasts (part_of i) (part_of i).control ≡ n

-- the children at cells
abbrev pub AllGood : Cells → Type 0
AllGood cells = (c : ℕ) (child : Instance) → cell_at cells c ≡ OfInstance child → IsGood child

fair_below : (cells : Cells) → AllGood cells → AllFairBelow cells
fair_below no_cells h = tt
fair_below (a_primitive row rest) h = fair_below rest (λ c. h (suc c))
fair_below (an_instance child rest) h = ((h 0 child refl).fair, fair_below rest (λ c. h (suc c)))

controlled_below : (cells : Cells) → AllGood cells → AllControlledBelow cells
controlled_below no_cells h = tt
controlled_below (a_primitive row rest) h = controlled_below rest (λ c. h (suc c))
controlled_below (an_instance child rest) h = ((h 0 child refl).controlled, controlled_below rest (λ c. h (suc c)))

rules_below : (cells : Cells) → AllGood cells → AllRuledBelow cells
rules_below no_cells h = tt
rules_below (a_primitive row rest) h = rules_below rest (λ c. h (suc c))
rules_below (an_instance child rest) h = ((h 0 child refl).rules, rules_below rest (λ c. h (suc c)))

have_below : (cells : Cells) → AllGood cells → AllHaveBelow cells
have_below no_cells h = tt
have_below (a_primitive row rest) h = have_below rest (λ c. h (suc c))
have_below (an_instance child rest) h = ((h 0 child refl).has, have_below rest (λ c. h (suc c)))

calm_below : (cells : Cells) → AllGood cells → AcyclicBelow cells
calm_below no_cells h = tt
calm_below (a_primitive row rest) h = calm_below rest (λ c. h (suc c))
calm_below (an_instance child rest) h = ((h 0 child refl).calm, calm_below rest (λ c. h (suc c)))

blocks_below : (cells : Cells) → AllGood cells → (c : ℕ) (child : PlainComponent) → kid_at (flat_kids cells) c ≡ Some child → IsBlock child
blocks_below no_cells h c child e = absurd (cc)
blocks_below (a_primitive row rest) h zero child e = absurd (cc)
blocks_below (a_primitive row rest) h (suc c) child e = blocks_below rest (λ d. h (suc d)) c child e
blocks_below (an_instance other rest) h zero child e = by (is_static other) refl e
  where
    by : (b : Bool) → is_static other ≡ b → kid_if b (flat_part other) ≡ Some child → IsBlock child
    by true static f = let same : flat_part other ≡ child = cc in subst IsBlock same ((h 0 other refl).block static)
    by false static f = absurd (cc)
blocks_below (an_instance other rest) h (suc c) child e = blocks_below rest (λ d. h (suc d)) c child e

-- A COMPONENT that keeps the rules, over children that are good
good_part : (part : PlainComponent) (cells : Cells) → IsRuled part (Node part cells) → HasCells part cells → AllGood cells → IsGood (Node part cells)
good_part part cells ruled has below = record {
  fair = (fair_part part cells ruled has (blocks_below cells below), fair_below cells below);
  controlled = (controlled_part part cells ruled has (λ c n child at static. (below c child at).lasting n static), controlled_below cells below);
  block = λ static. let n = some_of part.latency static in block_part part cells ruled has (blocks_below cells below) n.0 n.1;
  rules = (ruled, rules_below cells below);
  has = (has, have_below cells below);
  calm = (ruled.no_circle, calm_below cells below);
  lasting = λ n static. control_lasts part cells ruled has n static;
}

-- the cells of a component in a tree
kinds_are : (trees : ℕ → Instance) (cs : List PlainCell) (c : ℕ) → (cell_at (cells_for trees cs) c ≡ Nothing → ⊥) → c < length cs
kinds_are trees cs c some = by (kind_at cs c) refl
  where
    by : (kind : Option PlainKind) → kind_at cs c ≡ kind → c < length cs
    by None e = absurd (some (cell_for trees cs c ∙ ap (at_kind trees) e))
    by (Some kind) e = kind_there cs c kind e

some_kind : (cs : List PlainCell) (c : ℕ) → c < length cs → (kind : PlainKind) × (kind_at cs c ≡ Some kind)
some_kind [] c less = absurd (omega (arith, less))
some_kind (x ∷ xs) zero less = (x.kind, refl)
some_kind (x ∷ xs) (suc c) less = some_kind xs c (omega (arith, less))

not_nothing : (trees : ℕ → Instance) (kind : PlainKind) → at_kind trees (Some kind) ≡ Nothing → ⊥
not_nothing trees (OfPrimitive p) e = cc
not_nothing trees (OfComponent k) e = cc

row_reads : (trees : ℕ → Instance) (kind : Option PlainKind) (row : Row) → at_kind trees kind ≡ OfRow row → ReadsPlain row
row_reads trees None row e = absurd (cc)
row_reads trees (Some (OfPrimitive p)) row e = subst ReadsPlain (row_is (row_of p) row e) (reads_plain p)
row_reads trees (Some (OfComponent k)) row e = absurd (cc)

pub has_cells : (trees : ℕ → Instance) (part : PlainComponent) → HasCells part (cells_for trees part.cells)
has_cells trees part = record {
  count = count_for trees part.cells;
  there = λ c less none. let k = some_kind part.cells c less in not_nothing trees k.0 (sym (cell_for trees part.cells c ∙ ap (at_kind trees) k.1) ∙ none);
  within = kinds_are trees part.cells;
  rows = λ c row at. row_reads trees (kind_at part.cells c) row (sym (cell_for trees part.cells c) ∙ at);
}

-- a child, by its kind
pub child_kind : (trees : ℕ → Instance) (kind : Option PlainKind) (child : Instance) → at_kind trees kind ≡ OfInstance child → (j : ℕ) × (kind ≡ Some (OfComponent j)) × (trees j ≡ child)
child_kind trees None child e = absurd (cc)
child_kind trees (Some (OfPrimitive p)) child e = absurd (cc)
child_kind trees (Some (OfComponent k)) child e = (k, refl, instance_is (trees k) child e)

module _ (d : PlainDesign) (design : IsDesign d) (accepted : IsAccepted d) (undone : NoneNamesDone d) where
  -- with levels enough
  pub ruled_tree : (n k : ℕ) (path : List ℕ) → IsWay d design path k → length d.components ≤ n + length path → IsRuled (component_at d k) (tree_within d n k)
  ruled_tree n k path way many =
      subst (IsRuled (component_at d k))
      (levels d design (length d.components) (n + length d.components) path k way (omega arith) (omega arith) ∙ sym (levels d design n (n + length d.components) path k way many (omega arith)))
      (ruled d design accepted undone k (way.there k (inl refl)))

  pub good_tree : (n k : ℕ) (path : List ℕ) → IsWay d design path k → length d.components ≤ n + length path → IsGood (tree_within d n k)
  good_tree zero k path way many = absurd (let short = way_is_short d design path k way in omega (arith, short, many))
  good_tree (suc n) k path way many =
      good_part (component_at d k) (cells_for (tree_within d n) (component_at d k).cells) (ruled_tree (suc n) k path way many) (has_cells (tree_within d n) (component_at d k))
      (λ c child at.
      let r = child_kind (tree_within d n) (kind_at (component_at d k).cells c) child (sym (cell_for (tree_within d n) (component_at d k).cells c) ∙ at) in
      let cell = kind_in (component_at d k).cells c (OfComponent r.0) r.1 in
      subst IsGood r.2 (good_tree n r.0 (k ∷ path) (further d design path k r.0 cell.0 way cell.1 cell.2) (omega (arith, many))))

  -- THE WHOLE TREE
  pub good : IsGood (tree_of d)
  good = good_tree (length d.components) d.main [] (no_way d design d.main design.main_there) (omega arith)
