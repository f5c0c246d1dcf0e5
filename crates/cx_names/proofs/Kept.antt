-- What a tree keeps that breaks no rule on names.
use Rattle.std.proofs.Common.{◌≡◌, true, false, [], ◌++◌, None, map, codes, flat_map}
use Rattle.cx_ast.specs.PlainTree.{PlainTree, PlainComponent, PlainPort, PlainCell}
use Rattle.cx_text.specs.Members.{In}
use Rattle.cx_numbering.specs.Names.{is_among, component_names}
use Rattle.cx_numbering.specs.NameRules.{named, duplicates, names_break, name_breaks, main_breaks, import_breaks, component_breaks, primitive_named, main_static, component_duplicates, port_breaks, cell_breaks, assign_breaks, standing, Standing, statements_in, Visited, form_breaks}
use Rattle.cx_names.proofs.Base.{append_none, flat_none, tell_none, first_none}
use Rattle.cx_text.proofs.BoolLaws.{not_not}

pub record Kept (tree : PlainTree) : Type 0 where
  pub main : is_among (codes "main") (component_names tree) ≡ true
  pub apart : duplicates [] (map (λ part. named part.name part.place) tree.components) ≡ []
  pub parts : (part : PlainComponent) → In tree.components part → component_breaks tree part ≡ []

pub record KeptPart (tree : PlainTree) (part : PlainComponent) : Type 0 where
  pub primitive : primitive_named part ≡ []
  pub dynamic : main_static tree part ≡ []
  pub twice : component_duplicates part ≡ []
  pub inputs : (port : PlainPort) → In part.inputs port → port_breaks tree part true port ≡ []
  pub outputs : (port : PlainPort) → In part.outputs port → port_breaks tree part false port ≡ []
  pub cells : (cell : PlainCell) → In part.cells cell → cell_breaks tree part cell ≡ []
  pub assigns : (x : Standing) → In (standing part) x → assign_breaks tree part x ≡ []
  pub statements : (v : Visited) → In (statements_in part) v → form_breaks tree part v.form v.place ≡ []

pub kept : (tree : PlainTree) → names_break tree ≡ None → Kept tree
kept tree h =
    let all = append_none (main_breaks tree ++ flat_map import_breaks tree.imports ++ duplicates [] (map (λ part. named part.name part.place) tree.components)) (flat_map (component_breaks tree) tree.components) (first_none (name_breaks tree) h) in
    let front = append_none (main_breaks tree ++ flat_map import_breaks tree.imports) (duplicates [] (map (λ part. named part.name part.place) tree.components)) all.0 in
    let first = append_none (main_breaks tree) (flat_map import_breaks tree.imports) front.0 in
    record {
      main = not_not _ (tell_none _ _ _ _ first.0);
      apart = front.1;
      parts = λ part i. flat_none (component_breaks tree) tree.components all.1 part i;
    }

pub kept_part : (tree : PlainTree) (part : PlainComponent) → component_breaks tree part ≡ [] → KeptPart tree part
kept_part tree part h =
    let seven = append_none _ (flat_map (λ v. form_breaks tree part v.form v.place) (statements_in part)) h in
    let six = append_none _ (flat_map (assign_breaks tree part) (standing part)) seven.0 in
    let five = append_none _ (flat_map (cell_breaks tree part) part.cells) six.0 in
    let four = append_none _ (flat_map (port_breaks tree part false) part.outputs) five.0 in
    let three = append_none _ (flat_map (port_breaks tree part true) part.inputs) four.0 in
    let two = append_none (primitive_named part ++ main_static tree part) (component_duplicates part) three.0 in
    let one = append_none (primitive_named part) (main_static tree part) two.0 in
    record {
      primitive = one.0;
      dynamic = one.1;
      twice = two.1;
      inputs = λ port i. flat_none (port_breaks tree part true) part.inputs three.1 port i;
      outputs = λ port i. flat_none (port_breaks tree part false) part.outputs four.1 port i;
      cells = λ cell i. flat_none (cell_breaks tree part) part.cells five.1 cell i;
      assigns = λ x i. flat_none (assign_breaks tree part) (standing part) six.1 x i;
      statements = λ v i. flat_none (λ w. form_breaks tree part w.form w.place) (statements_in part) seven.1 v i;
    }
