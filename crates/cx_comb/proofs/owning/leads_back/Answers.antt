use Rattle.std.proofs.Common.{◌≡◌, ◌∙◌, ◌+◌, ◌<◌, ⊎_elim, get_or, length, sym, ap, subst, take, arith}
use Rattle.std.proofs.lemmas.List.{take_more}
use Rattle.cx_text.specs.Members.{In}
use Rattle.cx_graphs.specs.Graphs.{edges_of, targets_of}
use Rattle.cx_graphs.proofs.Lists.{in_last}
use Rattle.cx_graphs.proofs.Marks.{in_at}
use Rattle.cx_graphs.proofs.Members.{targets_are}
use Rattle.cx_comb.proofs.owning.leads_back.Goals as goal

pub index-requires : goal.index-requires
index-requires c =
    let list = c.as_slice-target-items.result.now in
    let target = get_or list c.loop-target.target-index 0 in
    let edges = c.args.more.now.edges in
    let there : target < length edges.items = c.requires.targets target (subst (λ l. In l target) c.as_slice-target-items.ensures.value (in_at list c.loop-target.target-index c.loop-target-test.true)) in
    omega (arith, there, edges.ok.0)

pub has_owned-requires : goal.has_owned-requires
has_owned-requires c =
    let list = c.as_slice-target-items.result.now in
    let target = get_or list c.loop-target.target-index 0 in
    let edges = c.args.more.now.edges.items in
    let there = c.requires.targets target (subst (λ l. In l target) c.as_slice-target-items.ensures.value (in_at list c.loop-target.target-index c.loop-target-test.true)) in
    let same : c.as_slice.result.now ≡ targets_of (edges_of edges) target = c.as_slice.ensures.value ∙ sym (targets_are edges target c.index.result.now there c.index.ensures) in
    record { within = λ n i. c.requires.edges target n (subst (λ l. In l n) same i) }

pub loop-target-preserved : goal.loop-target-preserved
loop-target-preserved c =
    let list = c.as_slice-target-items.result.now in
    let k = c.loop-target.target-index in
    let target = get_or list k 0 in
    let edges = c.args.more.now.edges.items in
    let all = c.as_slice-target-items.ensures.value in
    let there = c.requires.targets target (subst (λ l. In l target) all (in_at list k c.loop-target-test.true)) in
    let same : c.as_slice.result.now ≡ targets_of (edges_of edges) target = c.as_slice.ensures.value ∙ sym (targets_are edges target c.index.result.now there c.index.ensures) in
    λ m n i j h. ⊎_elim
    (λ l. c.loop-target.invariant m n (subst (λ xs. In (take k xs) m) all l) j h)
    (λ is. c.has_owned.ensures.never c.if-has_owned.false n (subst (λ l. In l n) (ap (targets_of (edges_of edges)) (sym is) ∙ sym same) j) h)
    (in_last (take k list) target m (subst (λ l. In l m) (ap (take (k + 1)) (sym all) ∙ take_more list k 0 c.loop-target-test.true) i))
