use Rattle.std.proofs.Common.{◌≤◌, ℕ, List, sym, ◌∙◌, subst}
use Rattle.cx_text.specs.Members.{In}
use Rattle.cx_graphs.specs.Graphs.{edges_of, targets_of}
use Rattle.cx_vnets.specs.Stale.{Tells, rank_at}
use Rattle.cx_graphs.proofs.Members.{targets_are}
use Rattle.cx_vnets.proofs.sweep.mark_comparing.Goals as goal

pub returns-clause-tells : goal.returns-clause-tells
returns-clause-tells c =
    let rows = c.args.readers.now.watches.rows.items in
    let row = c.deref-2.ensures.value ∙ sym (targets_are rows c.args.row c.index.result.now c.requires.within c.index.ensures) in
    let P : List ℕ → List ℕ → Type 0 = λ ranks reads. Tells ranks c.args.stale.now c.mark_row.new.stale (λ f. c.args.from ≤ rank_at ranks f → In reads f → ⊥) in
    subst (λ ranks. P ranks (targets_of (edges_of rows) c.args.row)) c.deref.ensures.value (subst (P c.deref.result.now) row c.mark_row.ensures.tells)
