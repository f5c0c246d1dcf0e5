use Rattle.std.proofs.Common.{rules, ◌∙◌, ◌+◌, ℕ, cond, ap, sym}
use Rattle.std.specs.Option.{unwrap_or}
use Rattle.std.specs.HashMap.{get}
use Rattle.cx_meaning.specs.declared.ports.PortRef.TheVariants as refs
use Rattle.cx_meaning.specs.Active.{same_port}
use Rattle.cx_shape_calls.specs.Forms.{times, pair_eq}
use Rattle.cx_shape_calls.proofs.DoneLemmas.{with_one, same_key}
use Rattle.cx_shape_calls.proofs.tallies.count.Goals as goal

pub returns-in_ok-insert : goal.returns-in_ok-insert
returns-in_ok-insert c = record {
  value = λ d q.
      let key : ℕ × ℕ = (c.in-Cell.cell, c.in-Cell.port) in
      ap (λ o. unwrap_or o 0) (c.in_ok-insert.ensures.updates.0 (d, q))
      ∙ with_one (pair_eq key (d, q)) (get pair_eq c.args.tally.now (d, q)) c.times-before.result
      (λ e. same_key (times c.args.tally.now) c.in-Cell.cell c.in-Cell.port d q e ∙ search rules)
      ∙ ap (λ r. times c.args.tally.now d q + cond (same_port r (refs.Cell d q)) 1 0) (sym c.in-Cell.is);
}
