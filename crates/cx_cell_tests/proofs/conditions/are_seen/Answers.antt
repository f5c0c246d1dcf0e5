use Rattle.std.proofs.Common.{refl, arith, ℕ, ◌<◌, length}
use Rattle.std.proofs.lemmas.Option.{slice_get_within}
use borrow.Author.Count.{below_more}
use Rattle.cx_cell_tests.specs.Seen.{IsSeenAt}
use Rattle.cx_cell_tests.proofs.conditions.are_seen.Goals as goal

pub loop-n-preserved : goal.loop-n-preserved
loop-n-preserved g c =
    below_more (λ (m : ℕ). IsSeenAt (g.C.Cycle.meaning c.args.cell.now) (g.C.Cycle.shown c.args.state.now) c.args.inputs.now m) c.loop-n.n c.loop-n.invariant (c.if-not-is_seen.ensures.value refl)

pub returns : goal.returns
returns g c = record {
  value = λ looked. record {
    enabling = λ n port there side.
        let within : n < length (g.C.Cycle.meaning c.args.cell.now).ports = slice_get_within _ n port there in
        let before : n < c.loop-n.n = omega (arith, within, c.port_count-n-end.ensures.value, c.loop-n-test.false) in
        (c.loop-n.invariant n before).enabling port there side;
    demanded = λ n port there side wanted.
        let within : n < length (g.C.Cycle.meaning c.args.cell.now).ports = slice_get_within _ n port there in
        let before : n < c.loop-n.n = omega (arith, within, c.port_count-n-end.ensures.value, c.loop-n-test.false) in
        (c.loop-n.invariant n before).demanded port there side wanted;
  };
}
