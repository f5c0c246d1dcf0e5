-- A text has one verdict, and what is told of it is that verdict.
use Rattle.std.proofs.Common.{◌≡◌, ◌⊎◌, inl, inr, ℕ, List, Option, Some, None, Result, Ok, Err, IfOk, IfErr, sym, ap, ◌∙◌, subst}
use Rattle.cx_text.specs.declared.diagnostics.Diagnostic.{Diagnostic}
use Rattle.cx_text.specs.declared.places.Place.{Place}
use Rattle.cx_text.specs.declared.rules.Rule.{Rule}
use Rattle.cx_ast.specs.declared.tokens.Token.{Token}
use Rattle.cx_ast.specs.PlainTree.{PlainTree}
use Rattle.cx_lex.specs.Lex.{Lex}
use Rattle.cx_lex.proofs.WholeLemmas.{one_tokens}
use Rattle.cx_grammar.specs.Parsing.{Parse}
use Rattle.cx_grammar.proofs.OneTree.{one_tree}
use Rattle.cx_meaning.specs.Designs.{PlainDesign}
use Rattle.cx_numbering.specs.DesignOf.{design_of}
use Rattle.cx_numbering.specs.NameRules.{names_break}
use Rattle.cx_names.specs.Targets.{HasTargets}
use Rattle.cx_names.proofs.TargetLemmas.{targets_in_text}
use Rattle.cx_names.proofs.Placed as placed
use Rattle.cx_check.specs.Acceptance.{IsAcceptedTree, IsTreeRefusal, TreeBreak}
use Rattle.cx_check.proofs.Verdicts as verdicts
use Rattle.cx_design.specs.declared.refusals.Refusal.{Refusal}
use Rattle.cx_design.specs.declared.refusals.Refusal.TheVariants as refusals
use Rattle.cx_commands.specs.declared.stops.Stop.{Stop}
use Rattle.cx_commands.specs.declared.stops.Stop.TheVariants as stops
use Rattle.cx_commands.specs.Unread.{HasTree, IsNoTree}
use Rattle.cx_compiler.specs.Texts.{IsAcceptedText, IsDesignOf, TextBreak, IsTreeStop, IsTextRefusal, tree_stop}
use Rattle.cx_commands.proofs.UnreadLemmas.{read_no_fault, one_stage_one}
use Rattle.cx_text.proofs.OptionLaws.{one_value}

pub one_text_tree : (text : List ℕ) (a b : PlainTree) → HasTree text a → HasTree text b → a ≡ b
one_text_tree text a b h k = one_tree h.0 a b h.2 (subst (λ ts. Parse ts b) (one_tokens text k.0 h.0 k.1 h.1) k.2)

-- in the tree of a text targets are ports
pub text_targets : (text : List ℕ) (tree : PlainTree) → HasTree text tree → HasTargets tree
text_targets text tree h = targets_in_text h.0 tree h.2

-- an accepted text has one design, and breaks no rule
pub one_design : (text : List ℕ) (a b : PlainDesign) → IsDesignOf text a → IsDesignOf text b → a ≡ b
one_design text a b h k = h.3 ∙ ap (λ t. design_of t) (one_text_tree text h.0 k.0 h.1 k.1) ∙ sym k.3

pub text_of_design : (text : List ℕ) (d : PlainDesign) → IsDesignOf text d → IsAcceptedText text
text_of_design text d h = (h.0, h.1, h.2)

pub accepted_once : (text : List ℕ) (told : Diagnostic) → IsAcceptedText text → TextBreak text told → ⊥
accepted_once text told h (inl s) = read_no_fault (h.0, h.1) s
accepted_once text told h (inr b) = verdicts.accepted_once b.0 told (subst IsAcceptedTree (one_text_tree text h.0 b.0 h.1 b.1) h.2) b.2

not_both : {A : Type 0} (o : Option A) (x : A) → o ≡ Some x → o ≡ None → ⊥
not_both o x e f = cc

-- what a text is refused for is one rule, at one place, with one name
pub same_diagnostic : (a b : Diagnostic) → a.rule ≡ b.rule → a.place ≡ b.place → a.name ≡ b.name → a ≡ b
same_diagnostic a b rule place name =
    let tell : Rule → Place → List ℕ → Diagnostic = λ r p n. record { rule = r; place = p; name = n } in
    ap (λ r. tell r a.place a.name) rule ∙ ap (λ p. tell b.rule p a.name) place ∙ ap (λ n. tell b.rule b.place n) name

tree_break_once : (text : List ℕ) (tokens : List Token) (tree : PlainTree) (a b : Diagnostic) → Lex text tokens → Parse tokens tree → TreeBreak tree a → TreeBreak tree b → a ≡ b
tree_break_once text tokens tree a b lexed parsed (inl h) (inl k) = one_value (names_break tree) a b h k
tree_break_once text tokens tree a b lexed parsed (inl h) (inr k) = absurd (not_both (names_break tree) a h k.0)
tree_break_once text tokens tree a b lexed parsed (inr h) (inl k) = absurd (not_both (names_break tree) b k h.0)
tree_break_once text tokens tree a b lexed parsed (inr h) (inr k) =
    let one = placed.refused_once text tokens tree a b lexed parsed h.0 h.1 k.1 in
    same_diagnostic a b one.0 one.1 one.2

pub break_once : (text : List ℕ) (a b : Diagnostic) → TextBreak text a → TextBreak text b → a ≡ b
break_once text a b (inl h) (inl k) = one_stage_one h k
break_once text a b (inl h) (inr k) = absurd (read_no_fault (k.0, k.1) h)
break_once text a b (inr h) (inl k) = absurd (read_no_fault (h.0, h.1) k)
break_once text a b (inr h) (inr k) = tree_break_once text k.1.0 k.0 a b k.1.1 k.1.2 (subst (λ t. TreeBreak t a) (one_text_tree text h.0 k.0 h.1 k.1) h.2) k.2

-- a text that breaks a rule is refused for it, unless memory is wanting
pub text_stop : (text : List ℕ) (told : Diagnostic) (stop : Stop) → TextBreak text told → IsTextRefusal text stop → (stop ≡ stops.Memory) ⊎ (stop ≡ stops.Rule told)
text_stop text told stop b (inl memory) = inl memory
text_stop text told stop b (inr own) = inr (own.2 ∙ ap (λ d. stops.Rule d) (break_once text own.0 told own.1 b))

-- an accepted text is not refused
pub accepted_stop : (text : List ℕ) (stop : Stop) → IsAcceptedText text → IsTextRefusal text stop → stop ≡ stops.Memory
accepted_stop text stop is (inl memory) = memory
accepted_stop text stop is (inr own) = absurd (accepted_once text own.0 is own.1)

-- what is told of a tree that is refused
pub refused_tree : (tree : PlainTree) (refusal : Refusal) (stop : Stop) → stop ≡ tree_stop refusal → IsTreeRefusal tree refusal → IsTreeStop tree stop
refused_tree tree (refusals.Rule told) stop e h = inr (told, h, e)
refused_tree tree refusals.Memory stop e h = inl e

-- from a tree to its text
of_tree : (text : List ℕ) (tree : PlainTree) (stop : Stop) → HasTree text tree → IsTreeStop tree stop → IsTextRefusal text stop
of_tree text tree stop h (inl memory) = inl memory
of_tree text tree stop h (inr k) = inr (k.0, inr (tree, h, k.1), k.2)

pub tree_design : {X : Type 0} (design : X → PlainDesign) (text : List ℕ) (tree : PlainTree) (r : Result X Stop) → HasTree text tree → IfOk r (λ _. IsAcceptedTree tree)
    → IfOk r (λ x. design x ≡ design_of tree) → IfOk r (λ x. IsDesignOf text (design x))
tree_design design text tree (Ok x) h k e = (tree, h, k, e)
tree_design design text tree (Err stop) h k e = tt

pub tree_refused : {X : Type 0} (text : List ℕ) (tree : PlainTree) (r : Result X Stop) → HasTree text tree → IfErr r (IsTreeStop tree) → IfErr r (IsTextRefusal text)
tree_refused text tree (Ok x) h k = tt
tree_refused text tree (Err stop) h k = of_tree text tree stop h k

pub no_tree_refused : (text : List ℕ) (stop : Stop) → IsNoTree text stop → IsTextRefusal text stop
no_tree_refused text stop (inl memory) = inl memory
no_tree_refused text stop (inr k) = inr (k.0, inl k.1, k.2)
