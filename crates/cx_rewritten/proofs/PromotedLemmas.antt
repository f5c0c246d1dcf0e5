-- WHAT IS WRITTEN OF A PROMOTED TREE: its lines are comments; it is read as that tree, and its design ends no later.
use Rattle.std.proofs.Common.{◌≡◌, inl, inr, ℕ, suc, true, List, [], ◌∷◌, ◌++◌, codes, Option, Some, None, refl, sym, ◌∙◌, subst, arith, append_assoc}
use Rattle.std.specs.Fmt.{decimal}
use Rattle.std.specs.List.{AllByRecursion, list_all}
use Rattle.cx_ast.specs.PlainTree as ast
use Rattle.cx_lex.specs.Bytes.{is_in_line}
use Rattle.cx_meaning.specs.Instances.{Instance, State, tree_of, words_of}
use Rattle.cx_rules.specs.Ports.{component_of}
use Rattle.cx_numbering.specs.Names.{groups_in}
use Rattle.cx_numbering.specs.DesignOf.{group_of, design_of}
use Rattle.cx_check.specs.Acceptance.{IsAcceptedTree}
use Rattle.cx_print.specs.Printable.{IsGroup, IsWire, IsName, IsComponent, IsPrintable}
use Rattle.cx_print.proofs.FileGiven.{tree_of_text}
use Rattle.cx_promotion.specs.declared.rows.PromotedRow.{PromotedRow}
use Rattle.cx_flattening.specs.Ends.{NoneNamesDone}
use Rattle.cx_promotion.specs.Made.{WholeQuickens}
use Rattle.cx_promotion.specs.Rewriting.{length_of, row_if, rows_in, rows_from, IsPromotedTree}
use Rattle.cx_rewritten.specs.Comments.{AreComments, no_line}
use Rattle.cx_rewritten.specs.Ordered.{KeepsOrder}
use Rattle.cx_rewritten.specs.Written.{IsReadAs}
use Rattle.cx_rewritten.proofs.ReadLemmas.{written_read}
use Rattle.cx_rewritten.specs.Sources.{IsTreeOfText}
use Rattle.cx_rewritten.specs.PromotedTexts.{row_line, lines, IsPromotedText}
use Rattle.cx_rewritten.specs.NoLater.{EndsNoLater}
use Rattle.cx_rewritten.proofs.LineLemmas.{word_in_line, number_in_line, joined_in_line, IsComment, comments_of, all_joined}
use Rattle.cx_rewritten.proofs.OrderLemmas.{stand_themselves}
use Rattle.cx_rewritten.proofs.PromotedCycles.{Few, promotable_few}
use Rattle.cx_rewritten.proofs.PromotedOrder.{components_stand}
use Rattle.cx_rewritten.proofs.PromotedPrintable.{made_printable}

-- COMMENTS: the words of a row stand on one line
abbrev InLine : PromotedRow → Type 0
InLine row = (list_all is_in_line row.component ≡ true) × (list_all is_in_line row.group ≡ true) × (list_all is_in_line (decimal row.cycles) ≡ true)

row_is_comment : (row : PromotedRow) → InLine row → IsComment (row_line row)
row_is_comment row h = record {
  body = codes " promoted" ++ (32 ∷ row.component) ++ (32 ∷ row.group) ++ (32 ∷ decimal row.cycles);
  in_line =
      joined_in_line (codes " promoted" ++ (32 ∷ row.component) ++ (32 ∷ row.group)) (32 ∷ decimal row.cycles)
      (joined_in_line (codes " promoted" ++ (32 ∷ row.component)) (32 ∷ row.group) (joined_in_line (codes " promoted") (32 ∷ row.component) refl h.0) h.1) h.2;
  is = simp append_assoc;
}

groups_printable : (ws : List ast.PlainWire) → AllByRecursion IsWire ws → AllByRecursion IsGroup (groups_in ws)
groups_printable [] h = tt
groups_printable (ast.Group g ∷ ws) h = (h.0, groups_printable ws h.1)
groups_printable (ast.Assign a ∷ ws) h = groups_printable ws h.1

module _ (tree : ast.PlainTree) (part : ast.PlainComponent) (name : IsName part.name) (k : ℕ) where
  abbrev i : Instance
  i = component_of (design_of tree) k

  row_in_line : (g : ast.PlainGroup) (cycles : Option ℕ) (rest : List PromotedRow) → IsGroup g → Few cycles → AllByRecursion InLine rest → AllByRecursion InLine (row_if tree part i g cycles rest)
  row_in_line g None rest h few more = more
  row_in_line g (Some n) rest h few more = ((word_in_line part.name name.0, word_in_line g.name h.2.0, number_in_line n (let short = few n refl in omega arith)), more)

  rows_in_line : (gs : List ast.PlainGroup) → AllByRecursion IsGroup gs → AllByRecursion InLine (rows_in tree part i gs)
  rows_in_line [] h = tt
  rows_in_line (g ∷ gs) h = row_in_line g (length_of tree part i g) (rows_in tree part i gs) h.0 (promotable_few (design_of tree) k (group_of tree part g)) (rows_in_line gs h.1)

parts_in_line : (tree : ast.PlainTree) (k : ℕ) (parts : List ast.PlainComponent) → AllByRecursion IsComponent parts → AllByRecursion InLine (rows_from tree k parts)
parts_in_line tree k [] h = tt
parts_in_line tree k (part ∷ parts) h =
    all_joined InLine (rows_in tree part (component_of (design_of tree) k) (groups_in part.wires)) (rows_from tree (suc k) parts)
    (rows_in_line tree part h.0.name k (groups_in part.wires) (groups_printable part.wires h.0.wires)) (parts_in_line tree (suc k) parts h.1)

-- THE PROMOTED TREE, made or as it was
module _ (tree new : ast.PlainTree) (rows : List PromotedRow) where
  promoted_comments : IsPromotedTree tree new rows → IsPrintable tree → AreComments (lines rows)
  promoted_comments (inl (keeps, made, told)) h = comments_of row_line InLine row_is_comment rows (subst (AllByRecursion InLine) (sym told) (parts_in_line tree 0 tree.components h.components))
  promoted_comments (inr (breaks, same, none)) h = subst (λ list. AreComments (lines list)) (sym none) no_line

  pub promoted_keeps_order : IsPromotedTree tree new rows → KeepsOrder tree new
  promoted_keeps_order (inl (keeps, made, told)) = subst (KeepsOrder tree) (sym made) (components_stand tree 0 tree.components)
  promoted_keeps_order (inr (breaks, same, none)) = subst (KeepsOrder tree) (sym same) (stand_themselves tree.components)

  pub promoted_printable : IsPromotedTree tree new rows → IsPrintable tree → IsPrintable new
  promoted_printable (inl (keeps, made, told)) h = subst IsPrintable (sym made) (made_printable tree h)
  promoted_printable (inr (breaks, same, none)) h = subst IsPrintable (sym same) h

-- WHAT IS WRITTEN is read as the promoted tree
pub promoted_read : (tree : ast.PlainTree) (written : List ℕ) → IsTreeOfText tree → (p : IsPromotedText tree written) → IsReadAs p.new written
promoted_read tree written s p =
    let printable = tree_of_text s.0 s.1 tree s.2 s.3 in
    written_read s.0 written s.1 tree p.new s.2 s.3 (promoted_keeps_order tree p.new p.rows p.promoted) (promoted_printable tree p.new p.rows p.promoted printable)
    (record { comments = lines p.rows; are = promoted_comments tree p.new p.rows p.promoted printable; printed = p.printed })

-- what quickens a design still does at other places
module _ (tree new : ast.PlainTree) (written : List ℕ) (r : IsReadAs new written) where
  quickens_there : WholeQuickens (design_of tree) (design_of new) → WholeQuickens (design_of tree) (design_of r.again)
  quickens_there q = record { rows = q.rows ∙ r.rows; runs = λ words n t s e. let k = q.runs words n t s e in (k.0, sym (r.run words n) ∙ k.1, k.2) }

  pub ends_no_later : IsAcceptedTree new → (NoneNamesDone (design_of tree) → WholeQuickens (design_of tree) (design_of new)) → ((s : State) → words_of (tree_of (design_of new)) s ≡ words_of (tree_of (design_of tree)) s) → EndsNoLater tree written
  ends_no_later accepted quickens words = record {
    again = r.again;
    tokens = r.tokens;
    lexed = r.lexed;
    parsed = r.parsed;
    accepted = r.accepted accepted;
    quickens = λ undone. quickens_there (quickens undone);
    words = λ s. sym (r.words s) ∙ words s;
  }
