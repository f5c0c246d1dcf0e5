use Rattle.std.proofs.Common.{rules, arith, ◌≡◌, ◌<◌, length, sym, subst, ◌∙◌}
use Rattle.cx_text.specs.Members.{In}
use Rattle.cx_graphs.specs.Graphs.{edges_of, targets_of}
use Rattle.cx_graphs.specs.declared.owners.Owners.TheVariants.{Only}
use Rattle.cx_graphs.specs.Tallies.{Added}
use Rattle.cx_graphs.proofs.Members.{targets_are}
use Rattle.cx_graphs.proofs.Beginnings.{begins_more, begun}
use Rattle.std.proofs.lemmas.List.{length-map}
use Rattle.cx_graphs.proofs.tally.Tally.tally.Goals as goal

pub add_all-requires : goal.add_all-requires
add_all-requires c =
    let k = c.loop-number.number in
    let same : targets_of (edges_of c.args.lists.now) k ≡ c.as_slice.result.now = targets_are c.args.lists.now k c.index-lists-number.result (search rules) c.index-lists-number.is ∙ sym c.as_slice.ensures.value in
    record { within = λ n i. subst (λ s. n < s) (sym c.loop-number.invariant.same_length) (c.requires.within k n (subst (λ l. In l n) (sym same) i)) }

pub loop-number-preserved : goal.loop-number-preserved
loop-number-preserved c =
    let lists = edges_of c.args.lists.now in
    let k = c.loop-number.number in
    let mid = c.loop-number.self in
    let last = c.add_all.new.self in
    let same : targets_of lists k ≡ c.as_slice.result.now = targets_are c.args.lists.now k c.index-lists-number.result (search rules) c.index-lists-number.is ∙ sym c.as_slice.ensures.value in
    begins_more (length c.args.self.now.owners.items) lists k mid.owners.items mid.touched.items last.owners.items last.touched.items (c.requires.within k) c.loop-number.invariant
    (subst (λ l. Added mid.owners.items mid.touched.items l (Only k) last.owners.items last.touched.items) (sym same) c.in_ok-add_all.ensures.added)

pub returns-clause-told : goal.returns-clause-told
returns-clause-told c =
    let lists = edges_of c.args.lists.now in
    let long : length lists ≡ length c.args.lists.now = length-map c.args.lists.now _ in
    begun (length c.args.self.now.owners.items) lists c.loop-number.number c.loop-number.self.owners.items c.loop-number.self.touched.items c.loop-number.invariant (λ lt. absurd (omega (arith, lt, long)))
