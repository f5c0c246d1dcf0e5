use Rattle.std.proofs.Common.{◌≡◌, List, Option, ℕ, true, sym, ◌∙◌, subst}
use Rattle.cx_graphs.proofs.Members.{targets_are}
use Rattle.cx_vnets.specs.Carriers.{HasOrigin, IsRowOf}
use Rattle.cx_vnets.proofs.carriers.is_right.Goals as goal

pub returns : goal.returns
returns c = λ e.
    let n = c.args.nets.now in
    let t = c.args.carriers.now in
    let net = c.args.net in
    let yes : c.has_origin.result ≡ true = cc in
    let row = c.deref-3.ensures.value ∙ sym (targets_are t.rows.items net c.index.result.now c.requires.row c.index.ensures) in (
      subst (λ (origins : List (Option ℕ)). HasOrigin n c.args.ranks.now origins net) c.deref.ensures.value (c.has_origin.ensures yes),
      subst (λ (items : List ℕ). IsRowOf t.origins.items items net) row
          (subst (λ (origins : List (Option ℕ)). IsRowOf origins c.deref-3.result.now net) c.deref-2.ensures.value (c.is_row_of.ensures e)),
    )
