use Rattle.std.proofs.Common.{◌≤◌, ℕ, List, Option, sym, ◌∙◌, subst}
use Rattle.cx_text.specs.Members.{In}
use Rattle.cx_graphs.specs.Graphs.{edges_of, targets_of}
use Rattle.cx_vnets.specs.Gates.{IsShut}
use Rattle.cx_vnets.specs.Stale.{Tells, rank_at}
use Rattle.cx_graphs.proofs.Members.{targets_are}
use Rattle.cx_vnets.proofs.sweep.mark_row_open.Goals as goal

pub returns-clause-tells : goal.returns-clause-tells
returns-clause-tells c =
    let t = c.args.readers.now in
    let rows = t.of_nets.items in
    let net = c.args.net in
    let row = c.deref-3.ensures.value ∙ sym (targets_are rows net c.index.result.now c.requires.within c.index.ensures) in
    let P : List ℕ → List (Option ℕ) → List ℕ → Type 0
    = λ ranks gates reads. Tells ranks c.args.stale.now c.mark_open_row.new.stale (λ f. c.args.from ≤ rank_at ranks f → In reads f → IsShut gates c.args.nonzero.now net f) in
    subst (λ ranks. P ranks t.gates.items (targets_of (edges_of rows) net)) c.deref-2.ensures.value
    (subst (λ gates. P c.deref-2.result.now gates (targets_of (edges_of rows) net)) c.deref.ensures.value
    (subst (P c.deref-2.result.now c.deref.result.now) row c.mark_open_row.ensures.tells))
