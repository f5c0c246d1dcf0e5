-- The invokes and the statements of a component's control, where the component keeps the rules on names.
use Rattle.std.proofs.Common.{◌≡◌, ℕ, false, List, [], Option, Some, None, slice_get, inl, inr, refl, ap, subst}
use Rattle.cx_ast.specs.PlainTree as ast
use Rattle.cx_ast.specs.PlainTree.{PlainTree}
use Rattle.cx_ast.specs.PlainStatements as statements
use Rattle.cx_text.specs.Members.{In}
use Rattle.cx_rules.specs.Items.{Dynamic}
use Rattle.cx_rules.specs.Items as items
use Rattle.cx_rules.specs.Ports.{component_of as instance_of}
use Rattle.cx_rules.specs.Wellformed.{IsStatement}
use Rattle.cx_numbering.specs.DesignOf.{Invoke, first, invokes_of, control_invokes, control_of, design_of}
use Rattle.cx_numbering.specs.NameRules.{Visited, visit_control, form_breaks}
use Rattle.cx_names.proofs.Kept.{KeptPart}
use Rattle.cx_names.proofs.InvokeLemmas.{KeptInvoke, kept_invoke}
use Rattle.cx_names.proofs.Splits.{split_all}
use Rattle.cx_names.proofs.Statements.{block_whole, statement_kept, invoke_of_block, visited_of, same_breaks}

-- an invoke of the control
pub invoke_own : (tree : PlainTree) (part : ast.PlainComponent) → KeptPart tree part → (v : Invoke) → In (control_invokes tree part part.control) v → KeptInvoke tree part v
invoke_own tree part own v i = kept_invoke tree part v (same_breaks tree part v v.written (own.statements (visited_of v) (by part.control i)))
  where
    by : (o : Option statements.PlainBlock) → In (control_invokes tree part o) v → In (visit_control o) (visited_of v)
    by None i = absurd i
    by (Some block) i = invoke_of_block block v i

-- a statement of it
pub control_kept : (tree : PlainTree) (k : ℕ) (part : ast.PlainComponent) → slice_get tree.components k ≡ Some part → KeptPart tree part
    → (v : items.Visited) → In (items.visit Dynamic (control_of tree part part.control)) v → IsStatement (instance_of (design_of tree) k) v
control_kept tree k part at own v i = by part.control refl own.statements i
  where
    by : (o : Option statements.PlainBlock) → part.control ≡ o → ((w : Visited) → In (visit_control o) w → form_breaks tree part w.form w.place ≡ []) → In (items.visit Dynamic (control_of tree part o)) v → IsStatement (instance_of (design_of tree) k) v
    by None e all (inl same) = subst (IsStatement (instance_of (design_of tree) k)) same (record { form = tt; test = λ p t. absurd cc; no_hole = λ p t. absurd cc })
    by None e all (inr j) = absurd j
    by (Some block) e all j =
        block_whole tree part (IsStatement (instance_of (design_of tree) k)) (statement_kept tree k part at) Dynamic false (first tree part) block all
        (split_all tree part (invokes_of block) (ap (λ o. control_invokes tree part o) e)) v j
