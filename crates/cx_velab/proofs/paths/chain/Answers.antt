use Rattle.std.proofs.Common.{◌≡◌, ◌+◌, ◌-◌, map, ap, ◌∙◌, arith}
use Rattle.cx_velab.specs.Paths.{up}
use Rattle.cx_velab.specs.Rows.{placed_of}
use Rattle.cx_velab.proofs.PathLemmas.{up-zero, up-none, chain-more, chain-end, got-none}
use Rattle.cx_text.proofs.ListLaws.{item_at}
use Rattle.cx_velab.proofs.paths.chain.Goals as goal

pub returns-then-at-eq0 : goal.returns-then-at-eq0
returns-then-at-eq0 c =
    chain-end (map placed_of c.args.rows.now) _ _ (c.args.instance - c.loop-steps.steps) c.loop-steps.at
    (ap (up (map placed_of c.args.rows.now) (c.args.instance - c.loop-steps.steps)) c.if-at-eq0.true ∙ up-zero (map placed_of c.args.rows.now) (c.args.instance - c.loop-steps.steps))
    c.loop-steps.invariant

pub returns-in-None : goal.returns-in-None
returns-in-None c =
    chain-end (map placed_of c.args.rows.now) _ _ (c.args.instance - c.loop-steps.steps) c.loop-steps.at
    (up-none (map placed_of c.args.rows.now) (c.args.instance - c.loop-steps.steps) c.loop-steps.at (got-none placed_of c.args.rows.now c.loop-steps.at c.in-None.ensures.lookup.3))
    c.loop-steps.invariant

pub loop-steps-preserved : goal.loop-steps-preserved
loop-steps-preserved c =
    let count : c.args.instance - c.loop-steps.steps ≡ (c.args.instance - (c.loop-steps.steps + 1)) + 1 = omega arith in
    chain-more (map placed_of c.args.rows.now) _ _ _ (c.args.instance - c.loop-steps.steps) (c.args.instance - (c.loop-steps.steps + 1)) c.loop-steps.at (placed_of c.in-Some.row.now)
    c.if-at-eq0.false (item_at placed_of c.args.rows.now c.loop-steps.at c.in-Some.row.now c.in-Some.ensures.lookup.3.0 c.in-Some.ensures.lookup.1) count c.in_ok-push-in-Some.ensures.items c.loop-steps.invariant
