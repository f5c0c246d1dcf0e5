-- NOTHING MORE IS PROMOTED in a promoted tree: what is promotable hangs on cells and on continuous assignments, which stay, and a promoted
-- group is no plain one.
use Rattle.std.proofs.Common.{◌≡◌, ℕ, suc, ◌<◌, ◌≤◌, ◌⊎◌, inl, inr, Bool, true, ◌&&◌, not, List, [], ◌∷◌, ◌++◌, Option, Some, None, length, map, filter, refl, sym, ap, ap₂, ◌∙◌, subst}
use Rattle.std.specs.Prelude.{if◌then◌else◌}
use Rattle.std.specs.List.{list_all, list_any}
use Rattle.std.proofs.Math.Path.{fun_ext}
use Rattle.std.proofs.lemmas.Bool.{cases_lt}
use Rattle.std.proofs.lemmas.List.{get_or_past}
use Rattle.cx_prim.specs.declared.ports.PortName.TheVariants as names
use Rattle.cx_prim.specs.Rows.{Row}
use Rattle.cx_meaning.specs.declared.ports.PortRef.{PortRef}
use Rattle.cx_meaning.specs.declared.ports.PortRef.TheVariants as ports
use Rattle.cx_meaning.specs.Designs.{PlainAssign, PlainGroup, PlainComponent, PlainDesign, component_at, no_component}
use Rattle.cx_meaning.specs.Instances.{Instance, At, part_of, cells_of, cell_at, tree_within}
use Rattle.cx_meaning.proofs.DesignsLemmas.{same_part}
use Rattle.cx_ast.specs.PlainTree as ast
use Rattle.cx_ast.specs.PlainTree.{PlainTree}
use Rattle.cx_rules.specs.Accepted.{KeepsStage}
use Rattle.cx_rules.specs.Items.{is_plain, sources_of}
use Rattle.cx_rules.specs.Ports.{component_of, is_part_done}
use Rattle.cx_rules.specs.ShapeRules.{is_hole, some_target}
use Rattle.cx_rules.specs.CallShape.{is_always}
use Rattle.cx_numbering.specs.Names.{groups_in}
use Rattle.cx_numbering.specs.DesignOf.{group_of, design_of}
use Rattle.cx_promotion.specs.declared.rows.PromotedRow.{PromotedRow}
use Rattle.cx_promotion.specs.Promotable.{is_done_at, is_done, looks_at_done, is_right_enable, is_right, starts, starting_port, is_named, keeps_all, length_if, of_cell, of_source, of_dones, promotable}
use Rattle.cx_promotion.specs.Made.{DesignMade}
use Rattle.cx_promotion.specs.Rewriting.{length_of, enables, promote_group, row_if, rows_in, rows_from, components_from, made_tree, made_rows, IsPromotedTree}
use Rattle.cx_promotion.proofs.Twins.{Twins, TwinAt, none_there, a_row_there, a_child_there, beside_each}
use Rattle.cx_promotion.proofs.Trees.{past_new, twins_within}
use Rattle.cx_promotion.proofs.PortsMade.{SameSignature, port_same, kind_is, enable_same, part_port_same}
use Rattle.cx_promotion.proofs.Unchanged.{without_rows_the_same}
use Rattle.cx_promote.proofs.PartsPromoted.{twin, made_group, groups_in-made, group-made}
use Rattle.cx_promote.proofs.DesignPromoted.{design_made}

-- IN TWO INSTANCES of one shape, and with the same continuous assignments, the same groups are promotable
module _ (i j : Instance) (t : Twins SameSignature i j) (always : (part_of i).always ≡ (part_of j).always) where
  done_at_same : (at other : At) (p : ℕ) → TwinAt SameSignature at other → is_done_at other p ≡ is_done_at at p
  done_at_same at other p none_there = refl
  done_at_same at other p a_row_there = refl
  done_at_same at other p (a_child_there {child = child} {twin = twin} below) = ap is_part_done (sym (port_same child twin (beside_each SameSignature child twin below) p))

  done_same : (p : PortRef) → is_done j p ≡ is_done i p
  done_same (ports.Cell c p) = done_at_same (cell_at (cells_of i) c) (cell_at (cells_of j) c) p (kind_is i j t c)
  done_same (ports.Input n) = refl
  done_same (ports.Output n) = refl
  done_same (ports.Done g) = refl
  done_same (ports.Literal w v) = refl

  looks_same : looks_at_done j ≡ looks_at_done i
  looks_same = fun_ext (λ a. ap (λ (test : PortRef → Bool). list_any (λ q. test q.port) (sources_of a)) (fun_ext done_same))

  module _ (x : PlainGroup) where
    right_same : (c p : ℕ) (row : Row) → is_right j x c p row ≡ is_right i x c p row
    right_same c p row = fun_ext (λ a. ap₂ (λ enable looks. if is_hole a.target then true else if enable then is_right_enable i x c p row a else not looks) (enable_same i j t a.target) (ap (λ f. f a) looks_same))

    keeps_same : (c p : ℕ) (row : Row) → keeps_all j x c p row ≡ keeps_all i x c p row
    keeps_same c p row =
        ap₂ (λ right looks. (is_named names.Done row.ports p && starts i x c p row (starting_port row)) && (list_all right x.assigns) && not looks)
        (right_same c p row) (ap₂ (λ (test : PlainAssign → Bool) list. list_any test list) looks_same (sym always))

    of_cell_same : (c p : ℕ) (at other : At) → TwinAt SameSignature at other → of_cell j x c p other ≡ of_cell i x c p at
    of_cell_same c p at other none_there = refl
    of_cell_same c p at other (a_row_there {row = row}) = ap (length_if i x c p row) (keeps_same c p row)
    of_cell_same c p at other (a_child_there below) = refl

    of_source_same : (p : PortRef) → of_source j x p ≡ of_source i x p
    of_source_same (ports.Cell c p) = of_cell_same c p (cell_at (cells_of i) c) (cell_at (cells_of j) c) (kind_is i j t c)
    of_source_same (ports.Input n) = refl
    of_source_same (ports.Output n) = refl
    of_source_same (ports.Done g) = refl
    of_source_same (ports.Literal w v) = refl

    of_dones_same : (list : List PlainAssign) → of_dones j x list ≡ of_dones i x list
    of_dones_same [] = refl
    of_dones_same (a ∷ []) = ap (λ o. if is_always a.guard then o else None) (of_source_same a.source.port)
    of_dones_same (a ∷ b ∷ rest) = refl

    pub promotable_same : promotable j x ≡ promotable i x
    promotable_same =
        ap₂ (λ (test : PortRef → Bool) o. if is_plain x.kind && not (some_target test x.assigns) then o else None) (fun_ext (part_port_same i j t))
        (of_dones_same (filter (λ a. is_hole a.target) x.assigns))

-- COMPONENT k of a design and that of the one made of it
module _ (old new : PlainDesign) (made : DesignMade old new) where
  record Same (a b : PlainComponent) : Type 0 where
    latency : a.latency ≡ b.latency
    inputs : a.inputs ≡ b.inputs
    outputs : a.outputs ≡ b.outputs
    always : a.always ≡ b.always

  same_parts : (k : ℕ) → Same (component_at old k) (component_at new k)
  same_parts k = by (cases_lt k (length old.components))
    where
      by : (k < length old.components) ⊎ (length old.components ≤ k) → Same (component_at old k) (component_at new k)
      by (inl within) = let part = made.parts k within in record { latency = part.latency; inputs = part.inputs; outputs = part.outputs; always = part.always }
      by (inr past) =
          let one : component_at old k ≡ no_component = get_or_past old.components k no_component past in
          let other : component_at new k ≡ no_component = get_or_past new.components k no_component (past_new old new made k past) in
          subst (Same (component_at old k)) (one ∙ sym other) (record { latency = refl; inputs = refl; outputs = refl; always = refl })

  same_within : (m k : ℕ) → Same (part_of (tree_within old m k)) (part_of (tree_within new m k))
  same_within m k = subst (λ a. Same a (part_of (tree_within new m k))) (sym (same_part old m k)) (subst (Same (component_at old k)) (sym (same_part new m k)) (same_parts k))

  pub promotable_made : (k : ℕ) (x : PlainGroup) → promotable (component_of new k) x ≡ promotable (component_of old k) x
  promotable_made k x =
      subst (λ n. promotable (tree_within new n k) x ≡ promotable (component_of old k) x) made.count
      (promotable_same (component_of old k) (tree_within new (length old.components) k)
      (twins_within old new made SameSignature (λ m n. let r = same_within m n in record { latency = r.latency; inputs = r.inputs; outputs = r.outputs }) (length old.components) k)
      (same_within (length old.components) k).always x)

-- A PROMOTED TREE
module _ (tree : PlainTree) where
  no_row : (k : ℕ) (part : ast.PlainComponent) (g : ast.PlainGroup) (o : Option ℕ) → length_of tree part (component_of (design_of tree) k) g ≡ o
      → length_of (made_tree tree) (twin tree part (component_of (design_of tree) k)) (component_of (design_of (made_tree tree)) k) (promote_group (enables tree part (component_of (design_of tree) k)) o g) ≡ None
  no_row k part g None e =
      ap (promotable (component_of (design_of (made_tree tree)) k)) (group-made tree part (component_of (design_of tree) k) g)
      ∙ promotable_made (design_of tree) (design_of (made_tree tree)) (design_made tree) k (group_of tree part g) ∙ e
  no_row k part g (Some n) e = refl

  no_rows : (k : ℕ) (part : ast.PlainComponent) (gs : List ast.PlainGroup)
      → rows_in (made_tree tree) (twin tree part (component_of (design_of tree) k)) (component_of (design_of (made_tree tree)) k) (map (made_group tree part (component_of (design_of tree) k)) gs) ≡ []
  no_rows k part [] = refl
  no_rows k part (g ∷ gs) =
      let i = component_of (design_of tree) k in
      ap₂ (row_if (made_tree tree) (twin tree part i) (component_of (design_of (made_tree tree)) k) (made_group tree part i g)) (no_row k part g (length_of tree part i g) refl) (no_rows k part gs)

  none_from : (k : ℕ) (parts : List ast.PlainComponent) → rows_from (made_tree tree) k (components_from tree k parts) ≡ []
  none_from k [] = refl
  none_from k (part ∷ parts) =
      let i = component_of (design_of tree) k in
      ap₂ ◌++◌
      (ap (rows_in (made_tree tree) (twin tree part i) (component_of (design_of (made_tree tree)) k)) (groups_in-made tree part i part.wires) ∙ no_rows k part (groups_in part.wires))
      (none_from (suc k) parts)

  pub made_once : made_rows (made_tree tree) ≡ []
  made_once = none_from 0 tree.components

pub nothing_more : (tree new newer : PlainTree) (rows more : List PromotedRow) → IsPromotedTree tree new rows → IsPromotedTree new newer more → more ≡ []
nothing_more tree new newer rows more (inl (keeps, made, told)) (inl (still, next, all)) = all ∙ ap made_rows made ∙ made_once tree
nothing_more tree new newer rows more (inr (breaks, stays, told)) (inl (still, next, all)) = absurd (breaks (subst (λ t. KeepsStage 7 (design_of (made_tree t))) stays still))
nothing_more tree new newer rows more first (inr (gone, same, none)) = none

pub stays_then : (tree new newer : PlainTree) (rows more : List PromotedRow) → IsPromotedTree tree new rows → IsPromotedTree new newer more → newer ≡ new
stays_then tree new newer rows more first second = without_rows_the_same new newer (subst (IsPromotedTree new newer) (nothing_more tree new newer rows more first second) second)
