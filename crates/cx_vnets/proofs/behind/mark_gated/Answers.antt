use Rattle.std.proofs.Common.{◌≤◌, List, ℕ, sym, ◌∙◌, subst}
use Rattle.cx_text.specs.Members.{In}
use Rattle.cx_vnets.specs.Stale.{Tells, rank_at}
use Rattle.cx_graphs.proofs.Members.{targets_are}
use Rattle.cx_vnets.proofs.behind.mark_gated.Goals as goal

pub returns-clause-tells : goal.returns-clause-tells
returns-clause-tells c =
    let a = c.args in
    let row = c.deref.ensures.value ∙ sym (targets_are a.gated.now a.gate c.index-gated-gate.result c.requires.within c.index-gated-gate.is) in
    subst (λ (reads : List ℕ). Tells a.ranks.now a.stale.now c.mark_row.new.stale (λ f. a.from ≤ rank_at a.ranks.now f → In reads f → ⊥)) row c.mark_row.ensures.tells
