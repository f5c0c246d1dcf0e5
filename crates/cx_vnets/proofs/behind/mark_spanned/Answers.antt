use Rattle.std.proofs.Common.{◌≤◌, ◌∙◌, List, ℕ, Vec, Global, subst}
use Rattle.cx_text.specs.Members.{In}
use Rattle.cx_graphs.specs.Graphs.{edges_of}
use Rattle.cx_vnets.specs.Spans.{NotBehind}
use Rattle.cx_vnets.specs.Stale.{Tells, rank_at}
use Rattle.cx_vnets.proofs.StaleLemmas.{tells_more}
use Rattle.cx_vnets.proofs.behind.mark_spanned.Goals as goal

pub returns-clause-tells : goal.returns-clause-tells
returns-clause-tells c =
    let a = c.args in
    let gated = edges_of a.spans.now.gated.items in
    tells_more a.ranks.now a.stale.now c.mark_row.new.stale c.mark_behind.new.stale
    (λ f. a.from ≤ rank_at a.ranks.now f → In a.span.now.plain.items f → ⊥)
    (λ f. a.from ≤ rank_at a.ranks.now f → NotBehind gated a.nonzero.now a.span.now.low a.span.now.high f)
    (λ f. a.from ≤ rank_at a.ranks.now f → (In a.span.now.plain.items f → ⊥) × NotBehind gated a.nonzero.now a.span.now.low a.span.now.high f)
    (subst (λ (reads : List ℕ). Tells a.ranks.now a.stale.now c.mark_row.new.stale (λ f. a.from ≤ rank_at a.ranks.now f → In reads f → ⊥)) c.deref.ensures.value c.mark_row.ensures.tells)
    (subst (λ (rows : List (Vec ℕ Global)). Tells a.ranks.now c.mark_row.new.stale c.mark_behind.new.stale (λ f. a.from ≤ rank_at a.ranks.now f → NotBehind (edges_of rows) a.nonzero.now a.span.now.low a.span.now.high f))
    c.deref-2.ensures.value c.mark_behind.ensures.tells)
    (λ f p q le. (p le, q le))

pub returns-clause-below : goal.returns-clause-below
returns-clause-below c = λ k lt. c.mark_behind.ensures.below k lt ∙ c.mark_row.ensures.below k lt
