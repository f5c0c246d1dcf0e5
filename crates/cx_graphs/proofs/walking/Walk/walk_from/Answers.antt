use Rattle.std.proofs.Common.{[], ◌∷◌, length, subst}
use Rattle.cx_graphs.specs.Graphs.{edges_of}
use Rattle.cx_graphs.specs.Ways.{both}
use Rattle.cx_graphs.specs.Walks.{AllCome}
use Rattle.cx_graphs.proofs.walking.Walk.walk_from.Goals as goal

pub loop-step-init : goal.loop-step-init
loop-step-init c =
    let targets = both (edges_of c.args.graph.now) (edges_of c.args.more.now) in
    record {
      walk = c.in_ok-begin.ensures.walk targets (length c.args.graph.now) c.requires.walk c.requires.no_path;
      comes = c.in_ok-begin.ensures.comes targets c.requires.no_path;
      no_fresher = c.in_ok-begin.ensures.no_fresher;
      begun = c.in_ok-begin.ensures.begun;
    }

pub returns-then-branch-clause-found : goal.returns-then-branch-clause-found
returns-then-branch-clause-found c = λ h.
    let targets = both (edges_of c.args.graph.now) (edges_of c.args.more.now) in
    c.in_ok-go_on.ensures.found c.if-branch.true (c.args.start ∷ []) (subst (AllCome targets (c.args.start ∷ [])) c.in-Some.ensures.some c.loop-step.invariant.comes)

pub loop-step-preserved : goal.loop-step-preserved
loop-step-preserved c =
    let targets = both (edges_of c.args.graph.now) (edges_of c.args.more.now) in
    record {
      walk = c.in_ok-go_on.ensures.walked c.if-branch.false;
      comes = c.in_ok-go_on.ensures.comes c.if-branch.false (c.args.start ∷ []) (subst (AllCome targets (c.args.start ∷ [])) c.in-Some.ensures.some c.loop-step.invariant.comes);
      no_fresher = λ n f. c.loop-step.invariant.no_fresher n (c.in_ok-go_on.ensures.no_fresher n f);
      begun = λ f. c.loop-step.invariant.begun (c.in_ok-go_on.ensures.no_fresher c.args.start f);
    }
