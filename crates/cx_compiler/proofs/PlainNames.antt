-- Names of a text's design can be joined by points: each is a word.
use Rattle.std.proofs.Common.{◌≡◌, ℕ, Bool, true, false, ◌&&◌, List, [], ◌∷◌, length, inl, inr, true≢false, sym, ap, ◌∙◌, subst, arith}
use Rattle.std.specs.Prelude.{nat_le}
use Rattle.std.specs.List.{list_all}
use Rattle.std.proofs.lemmas.List.{length-map}
use Rattle.cx_text.proofs.MemberLaws.{image_in, in_at}
use Rattle.cx_ast.specs.PlainTree as ast
use Rattle.cx_ast.specs.PlainTree.{PlainTree, PlainPort}
use Rattle.cx_meaning.specs.declared.kinds.PortDecl.{PortDecl}
use Rattle.cx_meaning.specs.Designs.{PlainCell}
use Rattle.cx_text.specs.Members.{In}
use Rattle.cx_text.proofs.BoolLaws.{and_both}
use Rattle.cx_rules.specs.Flat.{point, IsPlainName, HasPlainNames, ArePlainNames}
use Rattle.cx_numbering.specs.Names.{is_own_name, if_not_own, signature_ports}
use Rattle.cx_numbering.specs.DesignOf.{decl_of, plain_cell_of, component_of, design_of}
use Rattle.cx_names.proofs.Base.{some_at}
use Rattle.cx_names.proofs.There.{component_is}
use Rattle.cx_vtree.specs.Layout.{begins_word, is_name_byte, is_word}
use Rattle.cx_commands.specs.Unread.{HasTree}
use Rattle.cx_compiler.proofs.TextNames.{cells_named, inputs_named, outputs_named}

-- A WORD is not empty, and has letters, digits and _ alone
each_byte : (name : List ℕ) (c : ℕ) → list_all is_name_byte name ≡ true → In name c → is_name_byte c ≡ true
each_byte [] c h i = absurd i
each_byte (x ∷ xs) c h (inl e) = ap is_name_byte (sym e) ∙ (and_both (is_name_byte x) (list_all is_name_byte xs) h).0
each_byte (x ∷ xs) c h (inr i) = each_byte xs c (and_both (is_name_byte x) (list_all is_name_byte xs) h).1 i

word_plain : (name : List ℕ) → is_word name ≡ true → IsPlainName name
word_plain name h = record {
  some = λ e. true≢false (sym one.0 ∙ ap begins_word e);
  no_point = λ i. true≢false (sym (each_byte name point one.1 i));
}
  where
    one : (begins_word name ≡ true) × (list_all is_name_byte name ≡ true)
    one = and_both (begins_word name) (list_all is_name_byte name) (and_both (begins_word name && list_all is_name_byte name) (nat_le (length name) 255) h).0

signature_in : (ports : List PlainPort) (p : PlainPort) → In (signature_ports ports) p → In ports p
signature_in [] p i = absurd i
signature_in (x ∷ xs) p i = by (is_own_name x.name) (λ j. signature_in xs p j) i
  where
    by : (own : Bool) → (In (signature_ports xs) p → In xs p) → In (if_not_own own x (signature_ports xs)) p → In (x ∷ xs) p
    by true later j = inr (later j)
    by false later (inl e) = inl e
    by false later (inr j) = inr (later j)

module _ (text : List ℕ) (tree : PlainTree) (has : HasTree text tree) where
  part_plain : (part : ast.PlainComponent) → In tree.components part → HasPlainNames (component_of tree part)
  part_plain part i = record {
    cells = λ cell j. (let found = image_in (plain_cell_of tree part) part.cells cell j in
        subst (λ (x : PlainCell). IsPlainName x.name) found.2 (word_plain found.0.name (cells_named text tree has part i found.0 found.1)));
    inputs = λ decl j. (let found = image_in (decl_of tree part) (signature_ports part.inputs) decl j in
        subst (λ (x : PortDecl). IsPlainName x.name) found.2 (word_plain found.0.name (inputs_named text tree has part i found.0 (signature_in part.inputs found.0 found.1))));
    outputs = λ decl j. (let found = image_in (decl_of tree part) (signature_ports part.outputs) decl j in
        subst (λ (x : PortDecl). IsPlainName x.name) found.2 (word_plain found.0.name (outputs_named text tree has part i found.0 (signature_in part.outputs found.0 found.1))));
  }

  -- THE DESIGN of a text
  pub are_plain_names : ArePlainNames (design_of tree)
  are_plain_names k within =
      let many : length (design_of tree).components ≡ length tree.components = length-map tree.components (component_of tree) in
      let part = some_at tree.components k (omega (arith, within, many)) in
      subst HasPlainNames (sym (component_is tree k part.0 part.1)) (part_plain part.0 (in_at tree.components k part.0 part.1))
