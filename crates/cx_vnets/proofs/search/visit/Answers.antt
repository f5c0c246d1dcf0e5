use Rattle.std.proofs.Common.{arith}
use Rattle.std.proofs.lemmas.Grind.{common_steps}
use Rattle.cx_vnets.proofs.Steps.{start_going, unseen_else, top_values, pop_going, pop_smaller, m_marks, push_going, push_smaller, push_room, stuck_going}
use Rattle.cx_vnets.proofs.search.visit.Goals as goal

pub loop-depth-init : goal.loop-depth-init
loop-depth-init c =
    start_going _ _ c.requires.fits _ _ _ _ c.requires.ready c.requires.root (unseen_else _ c.in_default.not-Known (c.requires.ready.closed c.args.root)) c.requires.stack

pub offset_bounds-values-top : goal.offset_bounds-values-top
offset_bounds-values-top c = let l = top_values _ _ c.requires.fits _ _ _ _ _ _ c.loop-depth.invariant c.loop-depth-test.true in grind (arith, common_steps)

pub bounds-values-top : goal.bounds-values-top
bounds-values-top c = top_values _ _ c.requires.fits _ _ _ _ _ _ c.loop-depth.invariant c.loop-depth-test.true

pub loop-depth-smaller-in-Worth : goal.loop-depth-smaller-in-Worth
loop-depth-smaller-in-Worth c = pop_smaller _ _ c.requires.fits _ _ _ _ _ _ c.loop-depth.invariant c.loop-depth-test.true

pub loop-depth-preserved-in-Worth : goal.loop-depth-preserved-in-Worth
loop-depth-preserved-in-Worth c = pop_going _ _ c.requires.fits _ _ _ _ _ _ c.loop-depth.invariant c.loop-depth-test.true c.in-Worth.v c.in-Worth.ensures

pub bounds-in-Waits : goal.bounds-in-Waits
bounds-in-Waits c = m_marks _ _ c.requires.fits _ _ _ _ _ _ c.loop-depth.invariant c.loop-depth-test.true c.in-Waits.m c.in-Waits.ensures

pub returns-in-Open : goal.returns-in-Open
returns-in-Open c = record {
  visited = (c.loop-depth.invariant.widths, stuck_going _ _ c.requires.fits _ _ _ _ _ _ c.loop-depth.invariant c.loop-depth-test.true c.in-Waits.m c.in-Waits.ensures c.in-Open.is);
}

pub bounds-marks-m : goal.bounds-marks-m
bounds-marks-m c = m_marks _ _ c.requires.fits _ _ _ _ _ _ c.loop-depth.invariant c.loop-depth-test.true c.in-Waits.m c.in-Waits.ensures

pub bounds-stack-depth-in-Waits : goal.bounds-stack-depth-in-Waits
bounds-stack-depth-in-Waits c = push_room _ _ c.requires.fits _ _ _ _ _ _ c.loop-depth.invariant c.loop-depth-test.true c.in-Waits.m c.in-Waits.ensures c.in_default-marks.not-Open

pub loop-depth-smaller : goal.loop-depth-smaller
loop-depth-smaller c = push_smaller _ _ c.requires.fits _ _ _ _ _ _ c.loop-depth.invariant c.loop-depth-test.true c.in-Waits.m c.in-Waits.ensures c.in_default-marks.not-Open

pub loop-depth-preserved : goal.loop-depth-preserved
loop-depth-preserved c = push_going _ _ c.requires.fits _ _ _ _ _ _ c.loop-depth.invariant c.loop-depth-test.true c.in-Waits.m c.in-Waits.ensures c.in_default-marks.not-Open
