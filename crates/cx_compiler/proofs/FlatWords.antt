-- The external memories of a flat design are cells of main itself, with their names.
use Rattle.std.proofs.Common.{◌≡◌, ℕ, zero, suc, ◌<◌, Bool, true, false, List, [], ◌∷◌, ◌++◌, length, map, Option, Some, None, inl, inr, ⊎_elim, true≢false, refl, sym, ap, ◌∙◌, subst}
use Rattle.cx_text.proofs.MemberLaws.{image_in, in_either}
use Rattle.cx_prim.specs.Table.{PrimitiveRow}
use Rattle.cx_meaning.specs.declared.kinds.PortDecl.{PortDecl}
use Rattle.cx_meaning.specs.Designs.{PlainCell, PlainComponent, PlainDesign, component_at}
use Rattle.cx_meaning.specs.Instances.{Instance, Node, cells_of, part_of, tree_within}
use Rattle.cx_text.specs.Members.{In}
use Rattle.cx_meaning.proofs.DesignsLemmas.{same_part}
use Rattle.cx_rules.specs.Wellformed.{IsDesign}
use Rattle.cx_flattening.specs.FlatDesign.{flat_of, renumbered_cell, renumbered_part, flat_design}
use Rattle.cx_flattening.specs.Flattened.{Kids, inner_cell, wire_of, kept_if, kept, block, blocks, flat_cells, flat_part, flat_kids}
use Rattle.cx_flattening.proofs.Reached.{itself, flat_component_is}
use Rattle.cx_vtree.specs.Layout.{is_word}
use Rattle.cx_compiler.specs.Words.{HasWords}

kept_in : (kids : Kids) (cs : List PlainCell) (x : PlainCell) → In (kept kids cs) x → In cs x
kept_in [] cs x i = i
kept_in (k ∷ ks) [] x i = absurd i
kept_in (k ∷ ks) (c ∷ cs) x i = by k (λ j. kept_in ks cs x j) i
  where
    by : (o : Option PlainComponent) → (In (kept ks cs) x → In cs x) → In (kept_if o c (kept ks cs)) x → In (c ∷ cs) x
    by None later (inl e) = inl e
    by None later (inr j) = inr (later j)
    by (Some child) later j = inr (later j)

-- no cell of a block is external
block_inner : (k : Option PlainComponent) (c x : PlainCell) → In (block k c) x → x.external ≡ false
block_inner None c x i = absurd i
block_inner (Some child) c x i =
    ⊎_elim
    (λ l. let found = image_in (inner_cell c) child.cells x l in ap (λ (y : PlainCell). y.external) (sym found.2))
    (λ r. let found = image_in (wire_of c) child.outputs x r in ap (λ (y : PlainCell). y.external) (sym found.2))
    (in_either (map (inner_cell c) child.cells) (map (wire_of c) child.outputs) x i)

blocks_inner : (kids : Kids) (cs : List PlainCell) (x : PlainCell) → In (blocks kids cs) x → x.external ≡ false
blocks_inner [] cs x i = absurd i
blocks_inner (k ∷ ks) [] x i = absurd i
blocks_inner (k ∷ ks) (c ∷ cs) x i = ⊎_elim (block_inner k c x) (blocks_inner ks cs x) (in_either (block k c) (blocks ks cs) x i)

flat_external : (i : Instance) (x : PlainCell) → In (flat_part i).cells x → x.external ≡ true → In (part_of i).cells x
flat_external (Node part cells) x i external =
    ⊎_elim (kept_in (flat_kids cells) part.cells x) (λ j. absurd (true≢false (sym external ∙ blocks_inner (flat_kids cells) part.cells x j)))
    (in_either (kept (flat_kids cells) part.cells) (blocks (flat_kids cells) part.cells) x i)

pub flat_has_words : (d : PlainDesign) → IsDesign d → HasWords d → HasWords (flat_design d)
flat_has_words d design words cell i external =
    let own : In (renumbered_part d (flat_of d d.main)).cells cell = subst (λ (p : PlainComponent). In p.cells cell) (flat_component_is d d.main design.main_there (itself d (length d.components) d.main)) i in
    let found = image_in (renumbered_cell d) (flat_of d d.main).cells cell own in
    let is : found.0.external ≡ true = ap (λ (c : PlainCell). c.external) found.2 ∙ external in
    let main : In (component_at d d.main).cells found.0 = subst (λ (p : PlainComponent). In p.cells found.0) (same_part d (length d.components) d.main) (flat_external (tree_within d (length d.components) d.main) found.0 found.1 is) in
    subst (λ name. is_word name ≡ true) (ap (λ (c : PlainCell). c.name) found.2) (words found.0 main is)
