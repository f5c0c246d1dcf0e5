use Rattle.std.proofs.Common.{◌<◌, sym, ◌∙◌, subst}
use Rattle.cx_text.specs.Members.{In}
use Rattle.cx_graphs.specs.Walks.{Is}
use Rattle.cx_graphs.specs.declared.walking.Mark.TheVariants as mark
use Rattle.cx_graphs.specs.declared.walking.Step.{Step}
use Rattle.cx_graphs.proofs.Lists.{some_is, set_here}
use Rattle.cx_graphs.proofs.WalkLemmas.{enters, same_walk, none_fresher, entered_fresh}
use Rattle.cx_graphs.proofs.walking.Walk.begin.Goals as goal

pub returns-in_ok-enter-clause-walk : goal.returns-in_ok-enter-clause-walk
returns-in_ok-enter-clause-walk c = λ targets count w none.
    let old = c.args.self.now in
    let e = c.in_ok-enter.ensures in
    let fresh : Is old.marks.items c.args.start mark.Fresh = subst (λ l. Is l c.args.start mark.Fresh) c.as_slice.ensures.value (c.is_fresh.ensures.value.0 c.if-is_fresh.true) in
    same_walk targets count _ c.enter.new.self.marks.items _ c.enter.new.self.path.items _ c.enter.new.self.order.items _ c.enter.new.self.entered.items
    (enters targets count old.marks.items old.path.items old.order.items old.entered.items c.args.start (subst (λ k. c.args.start < k) w.known.same_length c.requires.within) w fresh (λ (s : Step) i. absurd (subst (λ l. In l s) none i)))
    e.marks e.path e.order e.entered

pub returns-in_ok-enter-clause-no_fresher : goal.returns-in_ok-enter-clause-no_fresher
returns-in_ok-enter-clause-no_fresher c = λ n f. none_fresher c.args.self.now.marks.items c.args.start mark.Entered entered_fresh n (subst (λ l. Is l n mark.Fresh) c.in_ok-enter.ensures.marks f)

pub returns-in_ok-enter-clause-begun : goal.returns-in_ok-enter-clause-begun
returns-in_ok-enter-clause-begun c = λ f.
    let here = set_here c.args.self.now.marks.items c.args.start mark.Entered c.requires.within in
    entered_fresh (some_is mark.Entered mark.Fresh (sym here ∙ subst (λ l. Is l c.args.start mark.Fresh) c.in_ok-enter.ensures.marks f))
