use Rattle.std.proofs.Common.{◌≡◌, ℕ, ◌+◌, ◌<◌, ◌≤◌, ⊎_elim, Some, get_or, slice_get, ap, sym, ◌∙◌, arith}
use Rattle.std.proofs.lemmas.Bool.{cases_lt}
use Rattle.std.proofs.lemmas.Option.{same_Some, slice_get-get_or, slice_get_within}
use Rattle.cx_text.specs.Members.{In}
use Rattle.cx_vnets.specs.Gates.{IsShut}
use Rattle.cx_vnets.specs.Stale.{rank_at}
use Rattle.cx_vnets.proofs.StaleLemmas.{member_at, tells_more, tells_so}
use Rattle.cx_vnets.proofs.gates.mark_open_row.Goals as goal

pub loop-net-preserved : goal.loop-net-preserved
loop-net-preserved c =
    let a = c.args in
    let k = c.loop-net.net-index in
    let before = c.loop-net.invariant in
    let there = slice_get-get_or a.row.now k _ c.loop-net-test.true in
    record {
      tells = tells_more a.ranks.now a.stale.now c.loop-net.stale c.mark_open.new.stale
          (λ f. a.from ≤ rank_at a.ranks.now f → (j : ℕ) → j < k → slice_get a.row.now j ≡ Some f → IsShut a.gates.now a.nonzero.now a.changed f)
          (λ f. a.from ≤ rank_at a.ranks.now f → f ≡ get_or a.row.now k _ → IsShut a.gates.now a.nonzero.now a.changed f)
          (λ f. a.from ≤ rank_at a.ranks.now f → (j : ℕ) → j < k + 1 → slice_get a.row.now j ≡ Some f → IsShut a.gates.now a.nonzero.now a.changed f)
          before.tells c.mark_open.ensures.tells
          (λ f x y le j lt at. ⊎_elim
          (λ l. x le j l at)
          (λ l. let place : j ≡ k = omega (arith, lt, l) in y le (same_Some f (get_or a.row.now k _) (sym at ∙ ap (slice_get a.row.now) place ∙ there))) (cases_lt j k));
      below = λ i lt. c.mark_open.ensures.below i lt ∙ before.below i lt;
    }

pub returns-clause-tells : goal.returns-clause-tells
returns-clause-tells c =
    let a = c.args in
    tells_so a.ranks.now a.stale.now c.loop-net.stale
    (λ f. a.from ≤ rank_at a.ranks.now f → (j : ℕ) → j < c.loop-net.net-index → slice_get a.row.now j ≡ Some f → IsShut a.gates.now a.nonzero.now a.changed f)
    (λ f. a.from ≤ rank_at a.ranks.now f → In a.row.now f → IsShut a.gates.now a.nonzero.now a.changed f) c.loop-net.invariant.tells
    (λ f h le i.
    let r = member_at a.row.now f i in
    let lt = slice_get_within a.row.now r.0 f r.1 in
    let below : r.0 < c.loop-net.net-index = omega (arith, lt) in
    h le r.0 below r.1)
