use Rattle.std.proofs.Common.{◌≡◌, ◌≢◌, ◌≤◌, sym, subst}
use Rattle.cx_vnets.specs.Gates.{IsShut}
use Rattle.cx_vnets.specs.Stale.{rank_at}
use Rattle.cx_vnets.proofs.StaleLemmas.{tells_none, tells_so}
use Rattle.cx_vnets.proofs.gates.mark_open.Goals as goal

pub returns-then-is_shut-clause-tells : goal.returns-then-is_shut-clause-tells
returns-then-is_shut-clause-tells c =
    let a = c.args in
    tells_none a.ranks.now a.stale.now (λ f. a.from ≤ rank_at a.ranks.now f → f ≡ a.net → IsShut a.gates.now a.nonzero.now a.changed f)
    (λ f place le e. subst (IsShut a.gates.now a.nonzero.now a.changed) (sym e) (c.is_shut.ensures c.if-is_shut.true))

pub returns-clause-tells : goal.returns-clause-tells
returns-clause-tells c =
    let a = c.args in
    tells_so a.ranks.now a.stale.now c.mark.new.stale (λ f. a.from ≤ rank_at a.ranks.now f → f ≢ a.net)
    (λ f. a.from ≤ rank_at a.ranks.now f → f ≡ a.net → IsShut a.gates.now a.nonzero.now a.changed f) c.mark.ensures.tells (λ f h le e. absurd (h le e))
