-- Components that are promoted one by one, and their rows.
use Rattle.std.proofs.Common.{◌≡◌, ℕ, suc, ◌+◌, ◌<◌, List, [], ◌∷◌, ◌++◌, get_or, length, map, sym, ap, ◌∙◌, subst, add-one, append_assoc}
use Rattle.std.specs.Prelude.{slice_get}
use Rattle.cx_text.proofs.ListLaws.{item_at, length-map}
use Rattle.cx_ast.specs.declared.components.ComponentItem.{ComponentItem}
use Rattle.cx_ast.specs.declared.trees.Tree.{Tree}
use Rattle.cx_ast.specs.PlainTree.{PlainComponent, PlainTree, plain_component, plain_tree}
use Rattle.cx_meaning.specs.Designs.{PlainDesign}
use Rattle.cx_rules.specs.Ports.{component_of}
use Rattle.cx_numbering.specs.Names.{group_names, groups_in}
use Rattle.cx_numbering.specs.DesignOf.{design_of}
use Rattle.cx_numbering.specs.DesignOf as numbering
use Rattle.cx_design.specs.declared.designs.Design.{Design}
use Rattle.cx_design.specs.PlainDesigns.{plain_design}
use Rattle.cx_design.specs.PlainForms as design
use Rattle.cx_names_scopes.specs.declared.index.PartIndex.{PartIndex}
use Rattle.cx_names_scopes.specs.Indexed.{ArePartIndexes}
use Rattle.cx_names_scopes.specs.Numbered.{AreNumbersOf}
use Rattle.cx_names_scopes.proofs.NameLemmas.{index_at}
use Rattle.cx_promotion.specs.declared.rows.PromotedRow.{PromotedRow}
use Rattle.cx_promotion.specs.Rewriting.{components_from, promote_component, rows_from, rows_in}
use Rattle.cx_promote.specs.declared.sites.Site.{Site}
use Rattle.cx_promote.specs.Sites.{IsSite}
use Rattle.cx_promote.proofs.ListLemmas.{mapped_push}

module _ (tree : PlainTree) (d : PlainDesign) (its : d ≡ design_of tree) (left rest : List ComponentItem) (item : ComponentItem) (there : left ≡ item ∷ rest) (k : ℕ) where
  pub components_next : (new old : List ComponentItem) (x : ComponentItem) (whole : List PlainComponent) → new ≡ old ++ x ∷ []
      → plain_component x ≡ promote_component tree (plain_component item) (component_of d k)
      → map plain_component old ++ components_from tree k (map plain_component left) ≡ whole
      → map plain_component new ++ components_from tree (k + 1) (map plain_component rest) ≡ whole
  components_next new old x whole e is so_far =
      let after = components_from tree (suc k) (map plain_component rest) in
      ap (λ n. map plain_component new ++ components_from tree n (map plain_component rest)) (add-one k)
      ∙ ap (λ before. before ++ after) (mapped_push plain_component new old x e)
      ∙ append_assoc (map plain_component old) (plain_component x ∷ []) after
      ∙ ap (λ part. map plain_component old ++ part ∷ after) (is ∙ ap (λ made. promote_component tree (plain_component item) (component_of made k)) its)
      ∙ sym (ap (λ items. map plain_component old ++ components_from tree k (map plain_component items)) there)
      ∙ so_far

  pub rows_next : (new old whole : List PromotedRow) → new ≡ old ++ rows_in tree (plain_component item) (component_of d k) (groups_in (plain_component item).wires)
      → old ++ rows_from tree k (map plain_component left) ≡ whole
      → new ++ rows_from tree (k + 1) (map plain_component rest) ≡ whole
  rows_next new old whole e so_far =
      let after = rows_from tree (suc k) (map plain_component rest) in
      ap (λ n. new ++ rows_from tree n (map plain_component rest)) (add-one k)
      ∙ ap (λ before. before ++ after) e
      ∙ append_assoc old (rows_in tree (plain_component item) (component_of d k) (groups_in (plain_component item).wires)) after
      ∙ ap (λ made. old ++ (rows_in tree (plain_component item) (component_of made k) (groups_in (plain_component item).wires) ++ after)) its
      ∙ sym (ap (λ items. old ++ rows_from tree k (map plain_component items)) there)
      ∙ so_far

-- the site of a number, and its names
pub site_of : (site : Site) (parts : List ComponentItem) → plain_design site.design.now ≡ design_of (plain_tree site.tree.now) → parts ≡ site.tree.now.components.items
    → site.number < length parts → site.part.now ≡ get_or parts site.number site.part.now → IsSite site
site_of site parts its same within at = record {
  its = its;
  part = ap (λ items. slice_get (map plain_component items) site.number) (sym same) ∙ item_at plain_component parts site.number site.part.now within at;
}

pub names_of : (parts : List ComponentItem) (indexes : List PartIndex) (k : ℕ) (x : ComponentItem) (y : PartIndex) (tree_parts : List ComponentItem) (kept : List PartIndex)
    → ArePartIndexes (map plain_component tree_parts) kept → parts ≡ tree_parts → indexes ≡ kept
    → k < length parts → x ≡ get_or parts k x → y ≡ get_or indexes k y → AreNumbersOf (group_names (plain_component x)) y.groups.numbers
names_of parts indexes k x y tree_parts kept are same_parts same_indexes within at here =
    let all : ArePartIndexes (map plain_component parts) indexes =
    subst (λ ps. ArePartIndexes (map plain_component ps) indexes) (sym same_parts) (subst (λ is. ArePartIndexes (map plain_component tree_parts) is) (sym same_indexes) are) in
    let of_part = index_at parts indexes k x y all within at here in
    of_part.groups.numbers

-- there is a component of the design for each of the tree
pub design_within : (d : Design) (t : Tree) (parts : List ComponentItem) (k : ℕ) → plain_design d ≡ design_of (plain_tree t) → parts ≡ t.components.items → k < length parts → k < length d.components.items
design_within d t parts k its same within =
    subst (λ n. k < n)
    (ap length same
    ∙ sym (length-map plain_component t.components.items)
    ∙ sym (length-map (numbering.component_of (plain_tree t)) (plain_tree t).components)
    ∙ sym (ap (λ made. length made.components) its)
    ∙ length-map design.plain_component d.components.items)
    within
