-- THE DESIGN OF THE SHARED TREE is the shared design, where the tree breaks no rule on names; and the shared tree is accepted, where the tree is.
use Rattle.std.proofs.Common.{◌≡◌, ℕ, zero, suc, ◌<◌, ◌≤◌, ◌^◌, inl, inr, List, [], ◌∷◌, Option, Some, None, length, map, get_or, flat_map, codes, refl, sym, ap, ap₂, ◌∙◌, subst, arith}
use Rattle.cx_text.proofs.MemberLaws.{image_in}
use Rattle.cx_ast.specs.declared.operands.OperandForm.{OperandForm}
use Rattle.cx_ast.specs.declared.operands.OperandForm.TheVariants as operands
use Rattle.cx_ast.specs.PlainTree as ast
use Rattle.cx_ast.specs.PlainTree.{PlainTree}
use Rattle.cx_ast.specs.PlainStatements as statements
use Rattle.cx_text.specs.Members.{In}
use Rattle.cx_rules.specs.Accepted.{IsAccepted}
use Rattle.cx_numbering.specs.Names.{cell_names}
use Rattle.cx_numbering.specs.DesignOf.{number_or_0, Invoke, control_invokes, component_of, design_of}
use Rattle.cx_numbering.specs.NameRules.{names_break, named, Standing, standing, visit_control}
use Rattle.cx_meaning.specs.Designs.{PlainComponent, PlainDesign, no_component}
use Rattle.cx_rules.specs.Externals.{external_rows}
use Rattle.cx_rules.specs.Flat.{IsFlatPart, IsFlat}
use Rattle.cx_rules.specs.Sizes.{sizes_of, design_size}
use Rattle.cx_rules.specs.Wellformed.{IsDesign}
use Rattle.cx_names.specs.Targets.{is_literal, HasTargets}
use Rattle.cx_names.proofs.Base.{Distinct, append_none, tell_none}
use Rattle.cx_names.proofs.Kept.{KeptPart, kept, kept_part}
use Rattle.cx_names.proofs.InvokeLemmas.{kept_invoke}
use Rattle.cx_names.proofs.Statements.{invoke_of_block, visited_of, same_breaks}
use Rattle.cx_names.proofs.PartLemmas.{distinct_names}
use Rattle.cx_names.proofs.Whole.{is_design}
use Rattle.cx_text.proofs.BoolLaws.{not_not}
use Rattle.cx_check.specs.Acceptance.{IsAcceptedTree}
use Rattle.cx_copies.specs.Naming.{named_operand_form}
use Rattle.cx_sharing.specs.SharedDesign.{shared_invoke, shared_part, shared_design}
use Rattle.cx_sharing.specs.Giving.{new_cell}
use Rattle.cx_sharing.specs.SharedTree.{shared_tree}
use Rattle.cx_sharing.specs.SharedRows.{rows_of, shared_rows}
use Rattle.cx_sharing.proofs.AcceptedShared.{shared_accepted}
use Rattle.cx_sharing.proofs.LimitsShared.{smaller}
use Rattle.cx_sharing.proofs.SharedMain.{rows_shared}
use Rattle.cx_sharing.proofs.SharedOnce.{once_told}
use Rattle.cx_rewritten.proofs.TreeDesign.{shared_item, shared_items, component_names-shared, new_name, IsInvoke, component-shared}
use Rattle.cx_rewritten.proofs.NamesShared.{shared_standing, standing-shared, names_shared}

-- the cells of a component have names of their own
pub distinct_cells : (tree : PlainTree) (item : ast.PlainComponent) → KeptPart tree item → Distinct (cell_names item)
distinct_cells tree item own = distinct_names (λ (c : ast.PlainCell). named c.name c.place) (λ (c : ast.PlainCell). c.name) item.cells (λ c. refl) (append_none _ _ (append_none _ _ own.twice).0).1

-- what an invoke captures are registers
captures_registers : (tree : PlainTree) (item : ast.PlainComponent) (own : KeptPart tree item) (k : Invoke) → In (control_invokes tree item item.control) k → IsInvoke tree item (distinct_cells tree item own) k
captures_registers tree item own k i b j =
    let kept_k = kept_invoke tree item k (same_breaks tree item k k.written (own.statements (visited_of k) (stands item.control i))) in
    not_not _ (tell_none _ _ _ _ (append_none _ _ (kept_k.outputs b j)).1)
  where
    stands : (o : Option statements.PlainBlock) → In (control_invokes tree item o) k → In (visit_control o) (visited_of k)
    stands None i = absurd i
    stands (Some block) i = invoke_of_block block k i

components-shared : (tree : PlainTree) (items : List ast.PlainComponent) → ((item : ast.PlainComponent) → In items item → KeptPart tree item)
    → map (component_of (shared_tree tree)) (map (shared_item tree) items) ≡ map shared_part (map (component_of tree) items)
components-shared tree [] own = refl
components-shared tree (item ∷ items) own =
    ap₂ ◌∷◌ (component-shared tree item (distinct_cells tree item (own item (inl refl))) (captures_registers tree item (own item (inl refl))))
    (components-shared tree items (λ x i. own x (inr i)))

-- every component of a tree that breaks no rule on names
pub kept_parts : (tree : PlainTree) → names_break tree ≡ None → (item : ast.PlainComponent) → In tree.components item → KeptPart tree item
kept_parts tree none item i = kept_part tree item ((kept tree none).parts item i)

pub design-shared : (tree : PlainTree) → names_break tree ≡ None → design_of (shared_tree tree) ≡ shared_design (design_of tree)
design-shared tree none =
    ap₂ (λ parts main. record { components = parts; main = main })
    (ap (map (component_of (shared_tree tree))) (shared_items tree tree.components) ∙ components-shared tree tree.components (kept_parts tree none))
    (ap (number_or_0 (codes "main")) (component_names-shared tree))

-- WITHOUT STATIC COMPONENTS
pub flat-shared : (tree : PlainTree) → names_break tree ≡ None → IsFlat (design_of tree) → IsFlat (design_of (shared_tree tree))
flat-shared tree none flat = subst IsFlat (sym (design-shared tree none)) (parts (design_of tree).components flat)
  where
    parts : (list : List PlainComponent) → ((k : ℕ) → k < length list → IsFlatPart (get_or list k no_component)) → (k : ℕ) → k < length (map shared_part list) → IsFlatPart (get_or (map shared_part list) k no_component)
    parts [] each k within = absurd (omega (arith, within))
    parts (part ∷ list) each zero within =
        let own = each 0 (omega arith) in
        record { dynamic = own.dynamic; no_invoke = ap (map (shared_invoke (new_cell part))) own.no_invoke }
    parts (part ∷ list) each (suc k) within = parts list (λ n less. each (suc n) (omega (arith, less))) k (omega (arith, within))

-- ACCEPTED
pub shared_tree_accepted : (tree : PlainTree) → IsDesign (design_of tree) → IsAcceptedTree tree → IsAcceptedTree (shared_tree tree)
shared_tree_accepted tree design h = record {
  named = names_shared tree (λ item i. distinct_cells tree item (kept_parts tree h.named item i)) h.named;
  accepted = subst IsAccepted (sym (design-shared tree h.named)) (shared_accepted (design_of tree) design h.accepted);
}

-- TARGETS
literal_named : (name : List ℕ → List ℕ) (form : OperandForm) → is_literal (named_operand_form name form) ≡ is_literal form
literal_named name (operands.Own own) = refl
literal_named name (operands.Port cell port) = refl
literal_named name (operands.Hole group hole) = refl
literal_named name (operands.Literal width value) = refl

pub targets-shared : (tree : PlainTree) → names_break tree ≡ None → HasTargets tree → HasTargets (shared_tree tree)
targets-shared tree none has part i x j =
    let r = image_in (shared_item tree) tree.components part (subst (λ list. In list part) (shared_items tree tree.components) i) in
    let own = kept_parts tree none r.0 r.1 in
    let apart = distinct_cells tree r.0 own in
    let y = image_in (shared_standing tree r.0 own apart) (standing r.0) x (subst (λ list. In list x) (standing-shared tree r.0 own apart) (subst (λ p. In (standing p) x) (sym r.2) j)) in
    ap (λ (z : Standing). is_literal z.assign.target.form) (sym y.2) ∙ literal_named (new_name tree r.0) y.0.assign.target.form ∙ has r.0 r.1 y.0 y.1

-- WHAT EVERY DESIGN KEEPS
smaller_sum : (parts : List PlainComponent) → sizes_of (map shared_part parts) ≤ sizes_of parts
smaller_sum [] = omega arith
smaller_sum (part ∷ parts) = let own = smaller part in let rest = smaller_sum parts in omega (arith, own, rest)

pub kept-shared : (tree : PlainTree) → HasTargets tree → names_break tree ≡ None → design_size (design_of tree) < 2 ^ 32 → IsDesign (design_of (shared_tree tree))
kept-shared tree targets none few =
    let same : design_size (design_of (shared_tree tree)) ≡ design_size (shared_design (design_of tree)) = ap design_size (design-shared tree none) in
    let le = smaller_sum (design_of tree).components in
    is_design (shared_tree tree) (targets-shared tree none targets) (names_shared tree (λ item i. distinct_cells tree item (kept_parts tree none item i)) none) (omega (arith, same, le, few))

pub names-kept : (tree : PlainTree) → names_break tree ≡ None → names_break (shared_tree tree) ≡ None
names-kept tree none = names_shared tree (λ item i. distinct_cells tree item (kept_parts tree none item i)) none

-- THE EXTERNAL MEMORIES
pub rows-alike : (tree : PlainTree) → IsDesign (design_of tree) → IsAcceptedTree tree → external_rows (design_of (shared_tree tree)) ≡ external_rows (design_of tree)
rows-alike tree design h = ap external_rows (design-shared tree h.named) ∙ rows_shared (design_of tree) design

-- NOTHING MORE is shared
pub nothing_more : (tree : PlainTree) → names_break tree ≡ None → shared_rows (shared_tree tree) ≡ []
nothing_more tree named = ap (λ (d : PlainDesign). flat_map rows_of d.components) (design-shared tree named) ∙ once_told (design_of tree)
