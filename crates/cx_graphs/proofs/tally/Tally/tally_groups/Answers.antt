use Rattle.std.proofs.Common.{rules, arith, refl, ◌≡◌, ◌<◌, ◌+◌, ◌∷◌, ◌++◌, [], length, take, sym, ap, subst, ◌∙◌}
use Rattle.std.proofs.lemmas.List.{get_or_read, take_all}
use Rattle.cx_text.specs.Members.{In}
use Rattle.cx_graphs.specs.Graphs.{Bounded, edges_of, targets_of}
use Rattle.cx_graphs.specs.declared.owners.Owners.TheVariants.{Nobody}
use Rattle.cx_graphs.specs.Owners.{owners_at}
use Rattle.cx_graphs.specs.Tallies.{Added}
use Rattle.cx_graphs.specs.Spreads.{IsShared}
use Rattle.cx_graphs.proofs.Members.{targets_are}
use Rattle.cx_graphs.proofs.Marks.{take_more}
use Rattle.cx_graphs.proofs.Spreading.{next_within}
use Rattle.cx_graphs.proofs.Sharing.{shares, shares_more, shared}
use Rattle.cx_graphs.proofs.tally.Tally.tally_groups.Goals as goal

pub loop-place-init : goal.loop-place-init
loop-place-init c =
    let new = c.tally.new.self in
    (refl, shares (edges_of c.args.members.now) (edges_of c.args.group_lists.now) (edges_of c.args.lists.now) c.tally-2.new.self.owners.items new.owners.items new.touched.items c.in_ok-tally.ensures.told)

pub index-owners-requires : goal.index-owners-requires
index-owners-requires c =
    let g = c.tally-2.new.self in
    let group : c.index-group.result.now < length g.owners.items =
    next_within g.owners.items g.touched.items c.loop-place.place c.index-group.result.now c.in_ok-tally-2.ensures.told.kept (search rules) c.index-group.ensures in
    omega (arith, group, g.owners.ok.0)

pub bounds-members-group : goal.bounds-members-group
bounds-members-group c =
    let g = c.tally-2.new.self in
    let group : c.index-group.result.now < length g.owners.items =
    next_within g.owners.items g.touched.items c.loop-place.place c.index-group.result.now c.in_ok-tally-2.ensures.told.kept (search rules) c.index-group.ensures in
    omega (arith, group, c.in_ok-tally-2.ensures.len, c.requires.groups.size)

pub add_all-requires : goal.add_all-requires
add_all-requires c =
    let g = c.tally-2.new.self in
    let group = c.index-group.result.now in
    let within : group < length g.owners.items = next_within g.owners.items g.touched.items c.loop-place.place group c.in_ok-tally-2.ensures.told.kept (search rules) c.index-group.ensures in
    let there : group < length c.args.members.now = omega (arith, within, c.in_ok-tally-2.ensures.len, c.requires.groups.size) in
    let same : targets_of (edges_of c.args.members.now) group ≡ c.as_slice.result.now = targets_are c.args.members.now group c.index-members-group.result there c.index-members-group.is ∙ sym c.as_slice.ensures.value in
    let long : length c.loop-place.self.owners.items ≡ length c.args.self.now.owners.items = c.loop-place.invariant.0 ∙ c.in_ok-tally.ensures.len in
    record { within = λ n i. subst (λ k. n < k) (sym long) (c.requires.members group n (subst (λ l. In l n) (sym same) i)) }

pub loop-place-preserved : goal.loop-place-preserved
loop-place-preserved c =
    let g = c.tally-2.new.self in
    let s = c.loop-place.self in
    let last = c.add_all.new.self in
    let members = edges_of c.args.members.now in
    let group_lists = edges_of c.args.group_lists.now in
    let lists = edges_of c.args.lists.now in
    let place = c.loop-place.place in
    let group = c.index-group.result.now in
    let few : place < length g.touched.items = search rules in
    let within : group < length g.owners.items = next_within g.owners.items g.touched.items place group c.in_ok-tally-2.ensures.told.kept few c.index-group.ensures in
    let there : group < length c.args.members.now = omega (arith, within, c.in_ok-tally-2.ensures.len, c.requires.groups.size) in
    let same : targets_of members group ≡ c.as_slice.result.now = targets_are c.args.members.now group c.index-members-group.result there c.index-members-group.is ∙ sym c.as_slice.ensures.value in
    let long : length s.owners.items ≡ length c.args.self.now.owners.items = c.loop-place.invariant.0 ∙ c.in_ok-tally.ensures.len in
    let bounded : Bounded (length s.owners.items) (targets_of members group) = λ n i. subst (λ k. n < k) (sym long) (c.requires.members group n i) in
    let here = get_or_read g.owners.items group c.index-owners.result.now within c.index-owners.ensures Nobody in
    let passed : take place g.touched.items ++ group ∷ [] ≡ take (place + 1) g.touched.items =
    ap (λ x. take place g.touched.items ++ x ∷ []) (get_or_read g.touched.items place group few c.index-group.ensures 0) ∙ sym (take_more g.touched.items place few) in (
      c.in_ok-add_all.ensures.added.same_length ∙ c.loop-place.invariant.0,
      subst (λ p. IsShared members group_lists lists g.owners.items p last.owners.items last.touched.items) passed
          (shares_more members group_lists lists g.owners.items g.touched.items (take place g.touched.items) group s.owners.items s.touched.items last.owners.items last.touched.items c.in_ok-tally-2.ensures.told bounded c.loop-place.invariant.1
          (subst (λ l. Added s.owners.items s.touched.items l (owners_at g.owners.items group) last.owners.items last.touched.items) (sym same)
          (subst (λ o. Added s.owners.items s.touched.items c.as_slice.result.now o last.owners.items last.touched.items) here c.in_ok-add_all.ensures.added))),
    )

pub returns-clause-told : goal.returns-clause-told
returns-clause-told c =
    let g = c.tally-2.new.self in
    let s = c.loop-place.self in
    let members = edges_of c.args.members.now in
    let group_lists = edges_of c.args.group_lists.now in
    let lists = edges_of c.args.lists.now in
    let all : take c.loop-place.place g.touched.items ≡ g.touched.items = take_all c.loop-place.place g.touched.items (omega (arith, g.touched.ok.0, c.len-place-end.ensures)) in
    shared members group_lists lists g.owners.items g.touched.items s.owners.items s.touched.items c.in_ok-tally-2.ensures.told
    (subst (λ p. IsShared members group_lists lists g.owners.items p s.owners.items s.touched.items) all c.loop-place.invariant.1)
