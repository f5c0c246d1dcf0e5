use Rattle.std.proofs.Common.{◌∙◌, ap, refl, map, flat_map}
use Rattle.cx_ast.specs.PlainTree.{plain_component, plain_tree}
use Rattle.cx_meaning.specs.Designs.{PlainDesign}
use Rattle.cx_design.specs.declared.designs.Design.{Design}
use Rattle.cx_design.specs.PlainForms as design
use Rattle.cx_design.specs.PlainDesigns.{plain_design}
use Rattle.cx_sharing.specs.SharedRows.{rows_of}
use Rattle.cx_sharing.specs.SharedTree.{shared_components}
use Rattle.cx_share.proofs.TreeLemmas.{counts_alike, rows_made, tree_made}
use Rattle.cx_share.proofs.sharing.share.Goals as goal

pub shared_components-requires-clause-alike : goal.shared_components-requires-clause-alike
shared_components-requires-clause-alike c =
    let same = c.as_slice-parts.ensures.value ∙ ap (λ (d : Design). d.components.items) c.design.ensures.value in
    rw (same, c.as_slice-4.ensures.value) (counts_alike c.args.tree.now c.args.design.now.components.items (ap (λ (d : PlainDesign). d.components) c.requires.design))

pub returns : goal.returns
returns c =
    let d = plain_design c.args.design.now in
    let t = plain_tree c.args.tree.now in
    let same = c.as_slice-parts.ensures.value ∙ ap (λ (d : Design). d.components.items) c.design.ensures.value in
    record {
      tree = tree_made d t c.in_ok-imports.imports.items (map plain_component c.in_ok-components.components.items) _ c.requires.design (c.in_ok-imports.ensures.value ∙ c.as_slice-2.ensures.value)
          (c.in_ok-components.ensures.value ∙ ap (λ xs. shared_components (map design.plain_component xs) (map plain_component c.as_slice-4.result.now)) same
          ∙ ap (λ ys. shared_components d.components (map plain_component ys)) c.as_slice-4.ensures.value)
          refl;
      rows = rows_made d t c.in_ok-rows.rows.items c.requires.design (c.in_ok-rows.ensures.value ∙ ap (λ xs. flat_map rows_of (map design.plain_component xs)) same);
    }
