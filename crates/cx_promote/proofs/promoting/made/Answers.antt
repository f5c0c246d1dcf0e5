use Rattle.std.proofs.Common.{◌+◌, ◌++◌, drop, length, map, sym, ap, ◌∙◌, subst}
use Rattle.cx_text.proofs.ListLaws.{drop_item, length-map}
use Rattle.cx_ast.specs.PlainTree.{plain_component, plain_tree}
use Rattle.cx_design.specs.PlainDesigns.{plain_design}
use Rattle.cx_numbering.specs.Names.{group_names}
use Rattle.cx_names_scopes.specs.Numbered.{AreNumbersOf}
use Rattle.cx_names_scopes.proofs.NameLemmas.{as_many}
use Rattle.cx_promotion.specs.Rewriting.{components_from, made_rows, rows_from}
use Rattle.cx_promote.specs.declared.sites.Site.{Site}
use Rattle.cx_promote.proofs.SiteLemmas.{site_lengths}
use Rattle.cx_promote.proofs.MadeLemmas.{components_next, design_within, names_of, rows_next, site_of}
use Rattle.cx_promote.proofs.promoting.made.Goals as goal

pub loop-number-init : goal.loop-number-init
loop-number-init c =
    let tree = plain_tree c.args.tree.now in
    let items = c.args.tree.now.components.items in
    let parts = c.as_slice-parts.result.now in
    record {
      components = ap (λ made. map plain_component made ++ components_from tree 0 (map plain_component parts)) c.in_ok-components.ensures.items;
      rows = ap (λ rows. rows ++ rows_from tree 0 (map plain_component parts)) c.new-rows.ensures.items ∙ ap (λ left. rows_from tree 0 (map plain_component left)) c.as_slice-parts.ensures.value;
      many = ap length c.as_slice-indexes.ensures.value ∙ as_many (map plain_component items) c.in_ok-index.index.parts.items c.in_ok-index.ensures.parts ∙ length-map plain_component items ∙ sym (ap length c.as_slice-parts.ensures.value);
    }

pub lengths-requires : goal.lengths-requires
lengths-requires c = record {
  within = design_within c.args.design.now c.args.tree.now c.as_slice-parts.result.now c.loop-number.number c.requires.its c.as_slice-parts.ensures.value c.loop-number-test.true;
}

pub promoted_component-requires-clause-site : goal.promoted_component-requires-clause-site
promoted_component-requires-clause-site c =
    site_of _ c.as_slice-parts.result.now c.requires.its c.as_slice-parts.ensures.value c.loop-number-test.true c.index-parts-number.is

pub promoted_component-requires-clause-lengths : goal.promoted_component-requires-clause-lengths
promoted_component-requires-clause-lengths c =
    let site : Site = record { tree = c.args.tree; part = record { ref_ptr = c.args.tree.ref_ptr; now = c.index-parts-number.result }; design = c.args.design; number = c.loop-number.number } in
    site_lengths site (site_of site c.as_slice-parts.result.now c.requires.its c.as_slice-parts.ensures.value c.loop-number-test.true c.index-parts-number.is)
    c.as_slice-in-loop-number.result.now (c.as_slice-in-loop-number.ensures.value ∙ c.in_ok-cycles.ensures.value)

pub promoted_component-requires-clause-numbers : goal.promoted_component-requires-clause-numbers
promoted_component-requires-clause-numbers c =
    subst (λ index. AreNumbersOf (group_names (plain_component c.index-parts-number.result)) index.groups.numbers) c.index-indexes-number.is
    (names_of c.as_slice-parts.result.now c.as_slice-indexes.result.now c.loop-number.number c.index-parts-number.result c.index-indexes-number.result
    c.args.tree.now.components.items c.in_ok-index.index.parts.items c.in_ok-index.ensures.parts c.as_slice-parts.ensures.value c.as_slice-indexes.ensures.value
    c.loop-number-test.true c.index-parts-number.is c.index-indexes-number.is)

pub add_rows-requires : goal.add_rows-requires
add_rows-requires c =
    let site : Site = record { tree = c.args.tree; part = record { ref_ptr = c.args.tree.ref_ptr; now = c.index-parts-number.result }; design = c.args.design; number = c.loop-number.number } in
    record {
      lengths = site_lengths site (site_of site c.as_slice-parts.result.now c.requires.its c.as_slice-parts.ensures.value c.loop-number-test.true c.index-parts-number.is)
          c.as_slice-in-loop-number-2.result.now (c.as_slice-in-loop-number-2.ensures.value ∙ c.in_ok-cycles.ensures.value);
    }

pub loop-number-preserved : goal.loop-number-preserved
loop-number-preserved c =
    let tree = plain_tree c.args.tree.now in
    let d = plain_design c.args.design.now in
    let parts = c.as_slice-parts.result.now in
    let number = c.loop-number.number in
    let left = drop number parts in
    let rest = drop (number + 1) parts in
    let item = c.index-parts-number.result in
    let there = drop_item parts number item c.index-parts-number.is c.loop-number-test.true in
    record {
      components = components_next tree d c.requires.its left rest item there number c.push.new.self.items c.loop-number.components.items c.in_ok-promoted_component.field-0 (components_from tree 0 (map plain_component parts))
          c.in_ok-push.ensures.items c.in_ok-promoted_component.ensures.value c.loop-number.invariant.components;
      rows = rows_next tree d c.requires.its left rest item there number c.add_rows.new.rows.items c.loop-number.rows.items (made_rows tree) c.in_ok-add_rows.ensures.value c.loop-number.invariant.rows;
      many = c.loop-number.invariant.many;
    }
