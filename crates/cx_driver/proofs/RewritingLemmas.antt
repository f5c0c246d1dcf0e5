-- What a command that writes another design does with a text is to write a text, or to tell a rule, and not both.
use Rattle.std.proofs.Common.{◌≡◌, ◌⊎◌, inl, inr, ℕ, List, Result, Ok, Err, IfOk, IfErr, MatchResult, sym, ap, ◌∙◌, subst}
use Rattle.cx_text.specs.declared.diagnostics.Diagnostic.{Diagnostic}
use Rattle.cx_text.specs.declared.limits.TheConstants.{DESIGN_BYTES}
use Rattle.cx_ast.specs.PlainTree.{PlainTree}
use Rattle.cx_check.specs.Acceptance.{IsAcceptedTree}
use Rattle.cx_commands.specs.Reads.{HoldsWithin, OfFile}
use Rattle.cx_commands.specs.Statuses.{status_of}
use Rattle.cx_commands.specs.Unread.{HasTree}
use Rattle.cx_commands.specs.declared.refusals.Refusal.TheVariants as refusals
use Rattle.cx_commands.specs.declared.stops.Stop.{Stop}
use Rattle.cx_commands.specs.declared.stops.Stop.TheVariants as stops
use Rattle.cx_compiler.specs.Texts.{IsAcceptedText, IsTextRefusal, TextBreak}
use Rattle.cx_compiler.proofs.Once.{not_both, same_answer, same_stop}
use Rattle.cx_compiler.proofs.TextLemmas.{accepted_once, accepted_stop, text_stop}
use Rattle.cx_driver.specs.Rewriting.{IsRewritten, Rewrites}
use Rattle.cx_driver.proofs.ReadLemmas.{Held}

module _ (Writes : PlainTree → List ℕ → Type 0) where
  -- a text that is rewritten is accepted
  rewritten_accepted : (text answer : List ℕ) → IsRewritten Writes text answer → IsAcceptedText text
  rewritten_accepted text answer h = (h.tree, h.has, h.accepted)

  -- the rule that stops it
  pub rewrites_told : (text : List ℕ) (stop : Stop) → Rewrites Writes text (Err stop) → (told : Diagnostic) × (stop ≡ stops.Rule told) × TextBreak text told
  rewrites_told text stop (inl h) = absurd (not_both h.0 stop (sym h.2))
  rewrites_told text stop (inr h) = (h.0, same_stop stop (stops.Rule h.0) h.2, h.1)

  pub rewrites_status : (text other : List ℕ) (a b : Stop) → Rewrites Writes text (Err a) → Rewrites Writes other (Err b) → status_of (refusals.Stop a) ≡ status_of (refusals.Stop b)
  rewrites_status text other a b h k =
      let first = rewrites_told text a h in
      let second = rewrites_told other b k in
      ap (λ stop. status_of (refusals.Stop stop)) first.1 ∙ sym (ap (λ stop. status_of (refusals.Stop stop)) second.1)

  pub accepted_rewrites : (text : List ℕ) (stop : Stop) → IsAcceptedText text → Rewrites Writes text (Err stop) → ⊥
  accepted_rewrites text stop is h = let told = rewrites_told text stop h in accepted_once text told.0 is told.2

  pub rewrites_once : (text answer : List ℕ) (stop : Stop) → Rewrites Writes text (Ok answer) → Rewrites Writes text (Err stop) → ⊥
  rewrites_once text answer stop (inl h) k = accepted_rewrites text stop (rewritten_accepted text h.0 h.1) k
  rewrites_once text answer stop (inr h) k = not_both answer (stops.Rule h.0) h.2

  -- what it answers is written of the text
  pub answer_rewritten : (text answer : List ℕ) → Rewrites Writes text (Ok answer) → IsRewritten Writes text answer
  answer_rewritten text answer (inl h) = subst (IsRewritten Writes text) (sym (same_answer answer h.0 h.2)) h.1
  answer_rewritten text answer (inr h) = absurd (not_both answer (stops.Rule h.0) h.2)

  -- what is written of a text's tree is written of the text
  pub tree_rewritten : {X : Type 0} (bytes : X → List ℕ) (text : List ℕ) (tree : PlainTree) (r : Result X Stop) → HasTree text tree → IfOk r (λ _. IsAcceptedTree tree) → IfOk r (λ x. Writes tree (bytes x))
      → IfOk r (λ x. IsRewritten Writes text (bytes x))
  tree_rewritten bytes text tree (Ok x) has accepted written = record { tree = tree; has = has; accepted = accepted; written = written }
  tree_rewritten bytes text tree (Err stop) has accepted written = tt

  -- an accepted text is answered, and a rule that is broken is told, unless memory is wanting
  pub all_told : {X : Type 0} (bytes : X → List ℕ) (text : List ℕ) (r : Result X Stop) → IfOk r (λ x. IsRewritten Writes text (bytes x)) → IfErr r (IsTextRefusal text) → (told : Diagnostic) → TextBreak text told
      → MatchResult r (λ _. ⊥) (λ stop. (stop ≡ stops.Memory) ⊎ (stop ≡ stops.Rule told))
  all_told bytes text (Ok x) answer cause told b = accepted_once text told (rewritten_accepted text (bytes x) answer) b
  all_told bytes text (Err stop) answer cause told b = text_stop text told stop b cause

  -- why a file is not rewritten
  pub refused_file : (held : Held) (design text : List ℕ) (stop : Stop) → HoldsWithin held DESIGN_BYTES design text → IsTextRefusal text stop
      → (stop ≡ stops.Memory) ⊎ OfFile held DESIGN_BYTES design (λ t. Rewrites Writes t (Err stop))
  refused_file held design text stop reads (inl memory) = inl memory
  refused_file held design text stop reads (inr h) = inr (record { bytes = text; reads = reads; is = inr (h.0, h.1, ap (λ s. Err s) h.2) })

pub all_rewritten : {X : Type 0} (text : List ℕ) (r : Result X Stop) → IfErr r (IsTextRefusal text) → IsAcceptedText text → MatchResult r (λ _. Unit {0}) (λ stop. stop ≡ stops.Memory)
all_rewritten text (Ok x) cause is = tt
all_rewritten text (Err stop) cause is = accepted_stop text stop is cause
