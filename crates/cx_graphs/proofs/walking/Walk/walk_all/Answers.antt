use Rattle.std.proofs.Common.{rules, ◌≡◌, ◌+◌, ◌≤◌, ◌++◌, [], ◌∷◌, get_or, take, length, sym, subst, ⊎_elim, arith}
use Rattle.std.proofs.lemmas.List.{take_more, take_all}
use Rattle.cx_text.specs.Members.{In}
use Rattle.cx_graphs.specs.Graphs.{edges_of}
use Rattle.cx_graphs.specs.Ways.{both}
use Rattle.cx_graphs.specs.Walks.{Is, IsWalk}
use Rattle.cx_graphs.specs.declared.walking.Mark.TheVariants.{Fresh}
use Rattle.cx_graphs.proofs.Lists.{in_last}
use Rattle.cx_graphs.proofs.Marks.{in_at}
use Rattle.cx_graphs.proofs.WalkLemmas.{from_more, left_at_end}
use Rattle.cx_graphs.proofs.walking.Walk.walk_all.Goals as goal

pub walk_from-requires-clause-start : goal.walk_from-requires-clause-start
walk_from-requires-clause-start c =
    let starts = c.args.starts.now in let k = c.loop-start.start-index in c.requires.starts (get_or starts k 0) (in_at starts k (search rules))

pub returns-then-branch-clause-found : goal.returns-then-branch-clause-found
returns-then-branch-clause-found c = λ h.
    let starts = c.args.starts.now in
    let k = c.loop-start.start-index in
    from_more (both (edges_of c.args.graph.now) (edges_of c.args.more.now)) starts (get_or starts k 0) (in_at starts k (search rules)) (c.in_ok-walk_from.ensures.found c.if-branch.true)

pub loop-start-preserved : goal.loop-start-preserved
loop-start-preserved c =
    let starts = c.args.starts.now in
    let k = c.loop-start.start-index in
    let s = get_or starts k 0 in
    let after = c.walk_from.new.self.marks.items in
    let more : take (k + 1) starts ≡ take k starts ++ s ∷ [] = take_more starts k 0 (search rules) in
    record {
      walk = c.in_ok-walk_from.ensures.walked c.if-branch.false;
      no_path = c.in_ok-walk_from.ensures.no_path c.if-branch.false;
      begun = λ n i fresh. ⊎_elim
          (λ j. c.loop-start.invariant.begun n j (c.in_ok-walk_from.ensures.no_fresher n fresh))
          (λ e. c.in_ok-walk_from.ensures.begun (subst (λ v. Is after v Fresh) (sym e) fresh))
          (in_last (take k starts) s n (subst (λ l. In l n) more i));
    }

pub returns-clause-begun : goal.returns-clause-begun
returns-clause-begun c = λ h n i.
    let starts = c.args.starts.now in
    let walk = c.loop-start.self in
    let targets = both (edges_of c.args.graph.now) (edges_of c.args.more.now) in
    let count = length c.args.graph.now in
    let past : length starts ≤ c.loop-start.start-index = omega arith in
    left_at_end targets count walk.marks.items walk.order.items walk.entered.items n
    (subst (λ l. IsWalk targets count walk.marks.items l walk.order.items walk.entered.items) c.loop-start.invariant.no_path c.loop-start.invariant.walk)
    (c.requires.starts n i)
    (λ fresh. c.loop-start.invariant.begun n (subst (λ l. In l n) (sym (take_all c.loop-start.start-index starts past)) i) fresh)
