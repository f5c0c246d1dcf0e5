-- What statements and cells of a text's design name is there, whatever its size.
use Rattle.std.proofs.Common.{◌≡◌, ℕ, ◌<◌, false, None, Option, Some, List, length, slice_get, codes, [], inl, inr, refl, sym, ap, ◌∙◌, subst, arith}
use Rattle.std.proofs.lemmas.List.{length-map}
use Rattle.std.proofs.lemmas.Option.{slice_get_within}
use Rattle.cx_text.proofs.MemberLaws.{image_in, in_at}
use Rattle.cx_ast.specs.PlainStatements as statements
use Rattle.cx_ast.specs.PlainTree as ast
use Rattle.cx_ast.specs.PlainTree.{PlainTree}
use Rattle.cx_meaning.specs.Designs.{PlainKind, OfPrimitive, OfComponent, PlainCell, PlainComponent, component_at}
use Rattle.cx_meaning.specs.Designs as plain
use Rattle.cx_text.specs.Members.{In}
use Rattle.cx_rules.specs.Items.{Dynamic}
use Rattle.cx_rules.specs.Items as items
use Rattle.cx_rules.specs.Ports.{component_of as instance_of}
use Rattle.cx_rules.specs.Wellformed.{IsForm, IsStatement}
use Rattle.cx_numbering.specs.Names.{component_names, component_among, primitive_of, CellOf, Neither, APrimitive, AComponent, cell_of}
use Rattle.cx_numbering.specs.DesignOf.{number_or_0, invokes_of, control_invokes, control_of, kind_or, plain_cell_of, component_of, first, design_of}
use Rattle.cx_numbering.specs.NameRules.{Visited, visit_block, names_break, form_breaks, kind_breaks}
use Rattle.cx_names_scopes.proofs.NameLemmas.{number_within}
use Rattle.cx_names.proofs.Base.{some_at}
use Rattle.cx_names.proofs.Kept.{KeptPart, kept, kept_part}
use Rattle.cx_names.proofs.Circles.{kept_cell}
use Rattle.cx_names.proofs.NumberLemmas.{there, or_0, part_found}
use Rattle.cx_names.proofs.There.{of_component, component_is, part_is}
use Rattle.cx_names.proofs.Splits.{split_all}
use Rattle.cx_names.proofs.Statements.{block_whole, statement_kept}
use Rattle.cx_meaning.specs.Running.{run_main}
use Rattle.cx_rules.specs.Flat.{IsFlat}
use Rattle.cx_flattening.specs.Forms.{HasForms}
use Rattle.cx_flattening.specs.Whole.{whole_main}
use Rattle.cx_flattening.proofs.BareDesigns.{bare_forms}
use Rattle.cx_flattening.proofs.BareRuns.{main_same}
use Rattle.cx_names.proofs.Controls.{control_kept}

module _ (tree : PlainTree) (part : ast.PlainComponent) where
  -- the component of a cell
  kind_of : (cell : ast.PlainCell) (of : CellOf) → cell_of tree cell ≡ of → kind_breaks tree part cell of ≡ [] → (j : ℕ) → kind_or tree part of ≡ OfComponent j → j < length tree.components
  kind_of cell Neither e h j is = absurd cc
  kind_of cell (APrimitive p) e h j is = absurd cc
  kind_of cell (AComponent comp) e h j is =
      let found = part_found cell.kind tree.components comp (of_component (primitive_of cell.kind) cell.numbers (component_among cell.kind tree.components) comp e) in
      let number : number_or_0 comp.name (component_names tree) ≡ found.number = or_0 comp.name (component_names tree) found.number found.is in
      let same : number_or_0 comp.name (component_names tree) ≡ j = cc in
      let few = slice_get_within tree.components found.number comp found.at in
      omega (arith, number, same, few)

pub has_forms : (tree : PlainTree) → names_break tree ≡ None → HasForms (design_of tree)
has_forms tree none =
    let all = kept tree none in
    let many : length (design_of tree).components ≡ length tree.components = length-map tree.components (component_of tree) in
    let main = there (codes "main") (component_names tree) all.main in
    let names : length (component_names tree) ≡ length tree.components = length-map tree.components (λ part. part.name) in
    let main_few = number_within (codes "main") (component_names tree) main.0 main.1 in
    let number : (design_of tree).main ≡ main.0 = or_0 (codes "main") (component_names tree) main.0 main.1 in
    record {
      main = omega (arith, number, many, main_few, names);
      forms = λ k v few i. (
          let part = some_at tree.components k (omega (arith, few, many)) in
          let own = kept_part tree part.0 (all.parts part.0 (in_at tree.components k part.0 part.1)) in
          let is = component_is tree k part.0 part.1 in
          let form = (control_kept tree k part.0 part.1 own v (subst (λ (p : PlainComponent). In (items.visit Dynamic p.control) v) is i)).form in
          subst (λ (p : PlainComponent). IsForm p v.form) (part_is tree k part.0 part.1 ∙ sym is) form);
      kinds = λ k j cell few i e. (
          let part = some_at tree.components k (omega (arith, few, many)) in
          let own = kept_part tree part.0 (all.parts part.0 (in_at tree.components k part.0 part.1)) in
          let found = image_in (plain_cell_of tree part.0) part.0.cells cell (subst (λ (p : PlainComponent). In p.cells cell) (component_is tree k part.0 part.1) i) in
          let kind : kind_or tree part.0 (cell_of tree found.0) ≡ OfComponent j = ap (λ (c : PlainCell). c.kind) found.2 ∙ e in
          let less = kind_of tree part.0 found.0 (cell_of tree found.0) refl (kept_cell tree part.0 found.0 (own.cells found.0 found.1)).kind j kind in
          omega (arith, less, many));
    }

-- so without static components it means what it meant
pub text_means_the_same : (tree : PlainTree) → names_break tree ≡ None → IsFlat (design_of tree) → (words : List (List ℕ)) (n : ℕ) → whole_main (design_of tree) words n ≡ run_main (design_of tree) words n
text_means_the_same tree none flat words n = main_same (design_of tree) (bare_forms (design_of tree) (has_forms tree none) flat) words n
