use Rattle.std.proofs.Common.{◌≡◌, ◌+◌, ◌<◌, true≢false, [], ◌∷◌, ◌++◌, length, sym, ap, ◌∙◌, subst, refl, arith}
use Rattle.std.proofs.lemmas.List.{length-append}
use Rattle.std.proofs.lemmas.Option.{slice_get_within}
use Rattle.cx_text.proofs.MemberLaws.{in_at, in_left}
use Rattle.cx_text.specs.Members.{In}
use Rattle.cx_graphs.specs.Graphs.{edges_of, targets_of}
use Rattle.cx_graphs.specs.Ways.{both}
use Rattle.cx_graphs.specs.Walks.{Is, IsWalk, fresh_count}
use Rattle.cx_graphs.specs.declared.walking.Mark.TheVariants as mark
use Rattle.cx_graphs.specs.declared.walking.Next.TheVariants as next
use Rattle.cx_graphs.specs.declared.walking.Step.{Step}
use Rattle.cx_graphs.proofs.Lists.{the_last}
use Rattle.cx_graphs.proofs.WalkLemmas.{next_at, both_within, same_walk, leaves, advances, enters, closes, ways_on, all_come_more, all_come_on, none_fresher, left_fresh, entered_fresh, count_set}
use Rattle.cx_graphs.proofs.walking.Walk.go_on.Goals as goal

pub next_edge-requires : goal.next_edge-requires
next_edge-requires c =
    let node = c.args.step.node in
    let bounded = both_within c.args.graph.now (edges_of c.args.more.now) c.requires.graph c.requires.more node in
    let long : length c.args.graph.now ≡ length c.as_slice.result.now = sym c.requires.walk.known.same_length ∙ ap length (sym c.as_slice.ensures.value) in
    record {
      within = λ n i. subst (λ k. n < k) long (bounded n
          (subst (λ l. In (l ++ targets_of (edges_of c.args.more.now) node) n) c.edges-first.ensures.value (subst (λ l. In (c.edges-first.result.now ++ l) n) c.edges-second.ensures.value i)));
    }

pub leave-requires : goal.leave-requires
leave-requires c = record { within = slice_get_within c.args.self.now.marks.items c.args.step.node mark.Entered (c.requires.walk.on_path c.args.step (the_last c.args.self.now.path.items c.args.step)) }

pub enter-requires : goal.enter-requires
enter-requires c =
    let node = c.args.step.node in
    let g = edges_of c.args.graph.now in
    let m = edges_of c.args.more.now in
    let marks = c.args.self.now.marks.items in
    let before = c.requires.walk.passed c.args.step (the_last c.args.self.now.path.items c.args.step) in
    let is = next_at c.edges-first.result.now c.edges-second.result.now (targets_of g node) (targets_of m node) c.as_slice.result.now marks c.args.step.next (next.Fresh c.in-Fresh.at c.in-Fresh.target)
    c.edges-first.ensures.value c.edges-second.ensures.value c.as_slice.ensures.value c.in-Fresh.ensures.value before in
    record { within = slice_get_within marks c.in-Fresh.target mark.Fresh is.2 }

pub returns-in-Circle-clause-found : goal.returns-in-Circle-clause-found
returns-in-Circle-clause-found c = λ yes_found starts all.
    let node = c.args.step.node in
    let g = edges_of c.args.graph.now in
    let m = edges_of c.args.more.now in
    let old = c.args.self.now in
    let before = c.requires.walk.passed c.args.step (the_last old.path.items c.args.step) in
    let is = next_at c.edges-first.result.now c.edges-second.result.now (targets_of g node) (targets_of m node) c.as_slice.result.now old.marks.items c.args.step.next next.Circle
    c.edges-first.ensures.value c.edges-second.ensures.value c.as_slice.ensures.value c.in-Circle.ensures.value before in
    let r = closes (both g m) (length c.args.graph.now) old.marks.items old.path.items c.args.step old.order.items old.entered.items is.0 c.requires.walk is.1 is.2 in
    (r.0.node, all r.0 r.1, r.2)

pub returns-in_ok-leave-in-Nothing : goal.returns-in_ok-leave-in-Nothing
returns-in_ok-leave-in-Nothing c =
    let s = c.args.step in
    let g = edges_of c.args.graph.now in
    let m = edges_of c.args.more.now in
    let old = c.args.self.now in
    let after = c.leave.new.self in
    let e = c.in_ok-leave-in-Nothing.ensures in
    let w = c.requires.walk in
    let here : Is old.marks.items s.node mark.Entered = w.on_path s (the_last old.path.items s) in
    let all = next_at c.edges-first.result.now c.edges-second.result.now (targets_of g s.node) (targets_of m s.node) c.as_slice.result.now old.marks.items s.next next.Nothing
    c.edges-first.ensures.value c.edges-second.ensures.value c.as_slice.ensures.value c.in-Nothing.ensures.value (w.passed s (the_last old.path.items s)) in
    let walked : IsWalk (both g m) (length c.args.graph.now) after.marks.items after.path.items after.order.items after.entered.items =
    same_walk (both g m) (length c.args.graph.now) _ after.marks.items _ after.path.items _ after.order.items _ after.entered.items
    (leaves (both g m) (length c.args.graph.now) old.marks.items old.path.items s old.order.items old.entered.items w all) e.marks e.path e.order e.entered in
    let fewer = count_set old.marks.items s.node mark.Entered mark.Left here in
    let marked = ap fresh_count e.marks in
    let shorter = ap length e.path in
    record {
      known = walked.known;
      found = λ h. absurd (true≢false (sym h));
      walked = λ h. walked;
      comes = λ h starts come r i. come r (in_left old.path.items (s ∷ []) r (subst (λ l. In l r) e.path i));
      no_fresher = λ n f. none_fresher old.marks.items s.node mark.Left left_fresh n (subst (λ l. Is l n mark.Fresh) e.marks f);
      less = λ h. omega (arith, fewer, marked, shorter);
    }

pub returns-in_ok-enter-in-Fresh : goal.returns-in_ok-enter-in-Fresh
returns-in_ok-enter-in-Fresh c =
    let s = c.args.step in
    let t = c.in-Fresh.target in
    let count = length c.args.graph.now in
    let g = edges_of c.args.graph.now in
    let m = edges_of c.args.more.now in
    let old = c.args.self.now in
    let after = c.enter.new.self in
    let e = c.in_ok-enter-in-Fresh.ensures in
    let w = c.requires.walk in
    let later : Step = record { node = s.node; next = c.in-Fresh.at } in
    let entry : Step = record { node = t; next = 0 } in
    let is = next_at c.edges-first.result.now c.edges-second.result.now (targets_of g s.node) (targets_of m s.node) c.as_slice.result.now old.marks.items s.next (next.Fresh c.in-Fresh.at t)
    c.edges-first.ensures.value c.edges-second.ensures.value c.as_slice.ensures.value c.in-Fresh.ensures.value (w.passed s (the_last old.path.items s)) in
    let leads : In (both g m s.node) t = in_at (both g m s.node) c.in-Fresh.at t is.1 in
    let below : t < count = both_within c.args.graph.now m c.requires.graph c.requires.more s.node t leads in
    let path_is : after.path.items ≡ (old.path.items ++ later ∷ []) ++ entry ∷ [] = e.path ∙ ap (λ l. l ++ entry ∷ []) c.in_ok-push-in-Fresh.ensures.items in
    let advanced = advances (both g m) count old.marks.items old.path.items s old.order.items old.entered.items c.in-Fresh.at w is.0 in
    let walked : IsWalk (both g m) count after.marks.items after.path.items after.order.items after.entered.items =
    same_walk (both g m) count _ after.marks.items _ after.path.items _ after.order.items _ after.entered.items
    (enters (both g m) count old.marks.items (old.path.items ++ later ∷ []) old.order.items old.entered.items t below advanced is.2 (ways_on (both g m) old.path.items later t advanced.chain leads))
    e.marks path_is e.order e.entered in
    let fewer = count_set old.marks.items t mark.Fresh mark.Entered is.2 in
    let marked = ap fresh_count e.marks in
    let longer : length after.path.items ≡ length old.path.items + 1 + 1 =
    ap length path_is ∙ length-append (old.path.items ++ later ∷ []) (entry ∷ []) ∙ ap (λ k. k + 1) (length-append old.path.items (later ∷ [])) in
    record {
      known = walked.known;
      found = λ h. absurd (true≢false (sym h));
      walked = λ h. walked;
      comes = λ h starts come r i. all_come_on (both g m) starts old.path.items later entry (all_come_more (both g m) starts old.path.items s later come refl) leads r (subst (λ l. In l r) path_is i);
      no_fresher = λ n f. none_fresher old.marks.items t mark.Entered entered_fresh n (subst (λ l. Is l n mark.Fresh) e.marks f);
      less = λ h. omega (arith, fewer, marked, longer);
    }
