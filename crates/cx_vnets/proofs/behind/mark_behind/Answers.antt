use Rattle.std.proofs.Common.{◌+◌, ◌≤◌, ◌∙◌, length, refl, arith}
use Rattle.cx_text.specs.Members.{In}
use Rattle.cx_graphs.specs.Graphs.{edges_of, targets_of}
use Rattle.cx_vnets.specs.Spans.{NotBehind}
use Rattle.cx_vnets.specs.Stale.{rank_at}
use Rattle.cx_vnets.proofs.SpanLemmas.{behind_last, behind_more, behind_none}
use Rattle.cx_vnets.proofs.StaleLemmas.{tells_more, tells_none, tells_so}
use Rattle.cx_vnets.proofs.behind.mark_behind.Goals as goal

pub loop-gate-init : goal.loop-gate-init
loop-gate-init c =
    let a = c.args in
    let order = c.requires.order in
    let bytes = c.requires.bytes in
    record {
      within = omega (arith, order, bytes);
      tells = tells_none a.ranks.now a.stale.now (λ f. a.from ≤ rank_at a.ranks.now f → NotBehind (edges_of a.gated.now) a.nonzero.now a.low a.low f)
          (λ f place le. behind_none (edges_of a.gated.now) a.nonzero.now a.low f);
      below = λ k lt. refl;
    }

pub mark_gated-requires : goal.mark_gated-requires
mark_gated-requires c =
    let rows = c.requires.rows in
    omega (arith, rows)

pub loop-gate-preserved : goal.loop-gate-preserved
loop-gate-preserved c =
    let a = c.args in
    let inv = c.loop-gate.invariant in
    let next = c.in-Some.ensures in
    let high = next.high in
    record {
      within = omega (arith, high);
      tells = tells_more a.ranks.now a.stale.now c.loop-gate.stale c.mark_gated.new.stale
          (λ f. a.from ≤ rank_at a.ranks.now f → NotBehind (edges_of a.gated.now) a.nonzero.now a.low c.loop-gate.at f)
          (λ f. a.from ≤ rank_at a.ranks.now f → In (targets_of (edges_of a.gated.now) c.in-Some.gate) f → ⊥)
          (λ f. a.from ≤ rank_at a.ranks.now f → NotBehind (edges_of a.gated.now) a.nonzero.now a.low (c.in-Some.gate + 1) f)
          inv.tells c.mark_gated.ensures.tells
          (λ f before here le. behind_more (edges_of a.gated.now) a.nonzero.now a.low c.loop-gate.at c.in-Some.gate f high (before le) next.before (here le));
      below = λ k lt. c.mark_gated.ensures.below k lt ∙ inv.below k lt;
    }

pub returns-clause-tells : goal.returns-clause-tells
returns-clause-tells c =
    let a = c.args in
    let inv = c.loop-gate.invariant in
    tells_so a.ranks.now a.stale.now c.loop-gate.stale
    (λ f. a.from ≤ rank_at a.ranks.now f → NotBehind (edges_of a.gated.now) a.nonzero.now a.low c.loop-gate.at f)
    (λ f. a.from ≤ rank_at a.ranks.now f → NotBehind (edges_of a.gated.now) a.nonzero.now a.low a.high f) inv.tells
    (λ f before le. behind_last (edges_of a.gated.now) a.nonzero.now a.low c.loop-gate.at a.high (length a.nonzero.now) f c.requires.bytes c.requires.bytes (before le) c.in_default.ensures)
