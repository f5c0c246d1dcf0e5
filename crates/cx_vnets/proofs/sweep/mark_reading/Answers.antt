use Rattle.std.proofs.Common.{◌≤◌, List, ℕ, subst}
use Rattle.cx_text.specs.Members.{In}
use Rattle.cx_graphs.specs.Graphs.{edges_of, targets_of}
use Rattle.cx_vnets.specs.Gates.{IsShut}
use Rattle.cx_vnets.specs.Spans.{NotBehind}
use Rattle.cx_vnets.specs.Stale.{Tells, rank_at}
use Rattle.cx_vnets.proofs.SpanLemmas.{spanned_shut}
use Rattle.cx_vnets.proofs.StaleLemmas.{tells_so}
use Rattle.cx_vnets.proofs.sweep.mark_reading.Goals as goal

pub returns-in-Some-clause-tells : goal.returns-in-Some-clause-tells
returns-in-Some-clause-tells c =
    let a = c.args in
    let t = a.readers.now in
    let rows = edges_of t.of_nets.items in
    let ranks = t.ranks.items in
    let span = c.in-Some.span.now in
    tells_so ranks a.stale.now c.mark_spanned.new.stale
    (λ f. a.from ≤ rank_at ranks f → (In span.plain.items f → ⊥) × NotBehind (edges_of t.spans.gated.items) a.nonzero.now span.low span.high f)
    (λ f. a.from ≤ rank_at ranks f → In (targets_of rows a.net) f → IsShut t.gates.items a.nonzero.now a.net f)
    (subst (λ (order : List ℕ). Tells order a.stale.now c.mark_spanned.new.stale
    (λ f. a.from ≤ rank_at order f → (In span.plain.items f → ⊥) × NotBehind (edges_of t.spans.gated.items) a.nonzero.now span.low span.high f)) c.deref.ensures.value c.mark_spanned.ensures.tells)
    (λ f h le i. spanned_shut t.gates.items rows t.spans a.nonzero.now a.net span c.requires.spans c.in-Some.ensures.stands c.in-Some.ensures.tables f (h le).0 (h le).1 i)
