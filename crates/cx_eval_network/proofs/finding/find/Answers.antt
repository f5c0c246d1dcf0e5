use Rattle.std.proofs.Common.{◌+◌, ◌-◌, ◌*◌, ◌<◌, List, set, sym, subst}
use Rattle.cx_eval_network.specs.declared.marks.NodeMark.{NodeMark}
use Rattle.cx_eval_network.proofs.DemandSteps.{Going, begin, push_room, push_smaller, push, pop_smaller, pop, unseen}
use Rattle.cx_eval_network.proofs.finding.find.Goals as goal

pub loop-depth-init : goal.loop-depth-init
loop-depth-init g c =
    subst (λ (marks : List NodeMark). Going (g.N.Network.leads c.args.net.now) (g.N.Network.value c.args.net.now) c.args.root c.args.marks.now marks (set c.args.stack.now 0 c.args.root) 1) (sym c.open.ensures.marks)
    (begin (g.N.Network.leads c.args.net.now) (g.N.Network.value c.args.net.now) c.args.root c.args.marks.now c.args.stack.now c.requires.ready c.requires.root c.requires.stack (sym c.if-is_known.ensures.value))

pub bounds-stack-depth-in-Waits : goal.bounds-stack-depth-in-Waits
bounds-stack-depth-in-Waits g c = push_room _ _ _ _ _ _ _ c.loop-depth.invariant c.loop-depth-test.true c.requires.within c.requires.grounded c.in-Waits.next c.in-Waits.ensures.found.0 c.in-Waits.ensures.found.1

pub loop-depth-smaller-in-Waits : goal.loop-depth-smaller-in-Waits
loop-depth-smaller-in-Waits g c =
    subst (λ (marks : List NodeMark). 2 * unseen marks + (c.loop-depth.depth + 1) < 2 * unseen c.loop-depth.marks + c.loop-depth.depth) (sym c.open-in-Waits.ensures.marks)
    (push_smaller _ _ _ _ _ _ _ c.loop-depth.invariant c.loop-depth-test.true c.requires.within c.requires.grounded c.in-Waits.next c.in-Waits.ensures.found.0 c.in-Waits.ensures.found.1)

pub loop-depth-preserved-in-Waits : goal.loop-depth-preserved-in-Waits
loop-depth-preserved-in-Waits g c =
    subst (λ (marks : List NodeMark). Going (g.N.Network.leads c.args.net.now) (g.N.Network.value c.args.net.now) c.args.root c.args.marks.now marks (set c.loop-depth.stack c.loop-depth.depth c.in-Waits.next) (c.loop-depth.depth + 1)) (sym c.open-in-Waits.ensures.marks)
    (push _ _ _ _ _ _ _ c.loop-depth.invariant c.loop-depth-test.true c.requires.within c.requires.grounded c.in-Waits.next c.in-Waits.ensures.found.0 c.in-Waits.ensures.found.1)

pub loop-depth-smaller : goal.loop-depth-smaller
loop-depth-smaller g c =
    subst (λ (marks : List NodeMark). 2 * unseen marks + (c.loop-depth.depth - 1) < 2 * unseen c.loop-depth.marks + c.loop-depth.depth) (sym c.know.ensures.marks)
    (pop_smaller _ _ _ _ _ _ _ c.loop-depth.invariant c.loop-depth-test.true c.requires.within c.requires.grounded c.in-Worth.value c.in-Worth.ensures.found)

pub loop-depth-preserved : goal.loop-depth-preserved
loop-depth-preserved g c =
    subst (λ (marks : List NodeMark). Going (g.N.Network.leads c.args.net.now) (g.N.Network.value c.args.net.now) c.args.root c.args.marks.now marks c.loop-depth.stack (c.loop-depth.depth - 1)) (sym c.know.ensures.marks)
    (pop _ _ _ _ _ _ _ c.loop-depth.invariant c.loop-depth-test.true c.requires.within c.requires.grounded c.in-Worth.value c.in-Worth.ensures.found)
