-- An instrumented design keeps the rules on shapes of groups, guards, static control and outputs. Calls stand in CallsKept.
use Rattle.std.proofs.Common.{◌≡◌, ℕ, suc, ◌+◌, ◌*◌, ◌^◌, ◌<◌, ◌≤◌, inl, inr, ◌⊎◌, ⊎_elim, Bool, true, false, ◌||◌, List, [], ◌∷◌, ◌++◌, length, Option, Some, None, slice_get, refl, sym, ap, ap₂, ◌∙◌, subst, arith}
use Rattle.std.specs.Prelude.{nat_eq, ◌≢◌}
use Rattle.std.proofs.lemmas.Bool.{both_ways, eq-eqb}
use Rattle.std.proofs.lemmas.Option.{slice_get_within}
use Rattle.cx_text.proofs.MemberLaws.{in_at, number_in}
use Rattle.cx_text.specs.declared.places.Place.{Place}
use Rattle.cx_text.specs.declared.rules.Rule.TheVariants as rules
use Rattle.cx_text.proofs.OptionLaws.{none_some}
use Rattle.cx_prim.specs.Rows.{Row}
use Rattle.cx_meaning.specs.Rows.{side_of}
use Rattle.cx_meaning.specs.declared.ports.PortRef.{PortRef}
use Rattle.cx_meaning.specs.declared.ports.PortRef.TheVariants as ports
use Rattle.cx_meaning.specs.declared.ports.PlacedPort.{PlacedPort}
use Rattle.cx_meaning.specs.Designs.{Always, PlainAssign, PlainGroup, PlainComponent, PlainDesign, component_at, group_at, PlainForm, Empty, Enable, Seq, Par, If, While, Repeat, StaticSeq, StaticPar, StaticIf, StaticRepeat, Timed, PlainStatement}
use Rattle.cx_meaning.specs.Instances.{Instance, tree_within}
use Rattle.cx_meaning.specs.Active.{nothing, Owned, source_order}
use Rattle.cx_text.specs.Members.{In}
use Rattle.cx_meaning.specs.Islands.{kind_length, group_length}
use Rattle.cx_rules.specs.Accepted.{IsAccepted}
use Rattle.cx_rules.specs.Footprints.{AssignNames, Rests, registered_rests, Depends, at_once, by_way_of}
use Rattle.cx_rules.specs.Invokes.{form_lasts}
use Rattle.cx_rules.specs.Items.{Visited, statements_in, ranges_of, is_plain, is_comb}
use Rattle.cx_rules.specs.Ports.{component_of, is_primitive_enable, is_part_port, path_of}
use Rattle.cx_rules.specs.ShapeRules.{is_hole, is_hole_of, some_target, BreaksNoDone, BreaksDoneNotState, BreaksAlwaysEnable, BreaksCombEnable, owner_length, is_bad_range, BreaksStaticGuard, GroupBreaksStaticShape, enabled_name, BreaksStaticControl, BreaksLength, BreaksStaticTest, LeadsToInput, BreaksOutputNotState}
use Rattle.cx_rules.specs.Spots.{AnAssign, AStatement, AGroup, Spot, AssignRule, StatementRule, GroupRule, OnAssign, OnStatement, OnGroup}
use Rattle.cx_rules.specs.StaticControl.{is_in_static, is_static, written_length}
use Rattle.cx_rules.specs.Wellformed.{IsDesign}
use Rattle.cx_rules.proofs.ForeignLemmas.{sorted_among}
use Rattle.cx_rewrites.specs.Driving.{assigns_of}
use Rattle.cx_rewrites.specs.Moving.{moved_port, moved_owned, moved_form}
use Rattle.cx_rewrites.proofs.ReflectLemmas.{names_back}
use Rattle.cx_rewrites.proofs.MovedLists.{ranges_of-moved, some_target-moved, is_static-moved, written_length-moved, may_stand-moved, form_has_length-moved, moved_visited}
use Rattle.cx_profiling.specs.Counters.{counters, Shown, shown_in, entry_count}
use Rattle.cx_profiling.specs.Instrumented.{is_reached, counter_assigns, address_width, store_assigns, moved_in, moved_assigns, with_counts}
use Rattle.cx_profiling.proofs.AcyclicLemmas.{shown_ends}
use Rattle.cx_profiling.proofs.ArmLemmas.{counted_kind}
use Rattle.cx_profiling.proofs.CellLemmas.{memory_row_of}
use Rattle.cx_profiling.proofs.CircleLemmas.{Ends, depends_back}
use Rattle.cx_profiling.proofs.DepthLemmas.{deep}
use Rattle.cx_profiling.proofs.GainedLemmas.{components-length}
use Rattle.cx_profiling.proofs.GrownTrees.{InTree}
use Rattle.cx_profiling.proofs.InsideLemmas.{targets_inside, names_inside}
use Rattle.cx_profiling.proofs.InvokesMade.{words_kept, form_lasts-moved}
use Rattle.cx_profiling.proofs.PartTable.{StoreOf, GroupMade, bare_group, counting_group, storing_group, no_group_there, group_made, kind_kept, length_kept, OwnedMade, old_owned, showing, counting, storing, owned_made, IsNewStatement, StatementMade, old_statement, new_statement, statement_made}
use Rattle.cx_profiling.proofs.PortLemmas.{IsInside}
use Rattle.cx_profiling.proofs.PortsKept.{counter_target, StoreTarget, to_memory, to_hole, store_target, enable_kept, part_port_kept, hole_kept, hole_of_kept, done_back, output_back, input_back, counts_row, memory_there, rests_moved, shown_rests}
use Rattle.cx_profiling.proofs.ShownLemmas.{WhereShown, own_count, child_count, where_shown}
use Rattle.cx_text.proofs.BoolLaws.{neither_first}

-- TARGETS of two lists
pub some_joined : (test : PortRef → Bool) (xs ys : List PlainAssign) → some_target test (xs ++ ys) ≡ (some_target test xs || some_target test ys)
some_joined test [] ys = refl
some_joined test (a ∷ xs) ys = ap (λ b. test a.target || b) (some_joined test xs ys) ∙ sym (apart (test a.target) (some_target test xs) (some_target test ys))
  where
    apart : (a b c : Bool) → ((a || b) || c) ≡ (a || (b || c))
    apart true b c = refl
    apart false b c = refl

none_more : (a : Bool) → (a || false) ≡ a
none_more true = refl
none_more false = refl

-- a counter drives no hole
counter_holes : (place : Place) (r : ℕ) → some_target is_hole (counter_assigns place r) ≡ false
counter_holes place r = refl

-- new assignments have no guard
pub counter_bare : (place : Place) (r : ℕ) (a : PlainAssign) → In (counter_assigns place r) a → a.guard ≡ Always
counter_bare place r a (inl e) = ap (λ (x : PlainAssign). x.guard) (sym e)
counter_bare place r a (inr (inl e)) = ap (λ (x : PlainAssign). x.guard) (sym e)
counter_bare place r a (inr (inr (inl e))) = ap (λ (x : PlainAssign). x.guard) (sym e)
counter_bare place r a (inr (inr (inr (inl e)))) = ap (λ (x : PlainAssign). x.guard) (sym e)
counter_bare place r a (inr (inr (inr (inr i)))) = absurd i

pub store_bare : (place : Place) (memory width g n : ℕ) (count : PortRef) (a : PlainAssign) → In (store_assigns place memory width g n count) a → a.guard ≡ Always
store_bare place memory width g n count a (inl e) = ap (λ (x : PlainAssign). x.guard) (sym e)
store_bare place memory width g n count a (inr (inl e)) = ap (λ (x : PlainAssign). x.guard) (sym e)
store_bare place memory width g n count a (inr (inr (inl e))) = ap (λ (x : PlainAssign). x.guard) (sym e)
store_bare place memory width g n count a (inr (inr (inr (inl e)))) = ap (λ (x : PlainAssign). x.guard) (sym e)
store_bare place memory width g n count a (inr (inr (inr (inr i)))) = absurd i

-- a store drives its done
store_done : (place : Place) (memory width g h n : ℕ) (count : PortRef) → g ≡ h → some_target (is_hole_of g) (store_assigns place memory width h n count) ≡ true
store_done place memory width g h n count e = ap (λ b. b || false) (eq-eqb h g (sym e))

-- a static if whose ports are moved
record StaticIfBack (written : Option ℕ) (test : PlacedPort) (move : PortRef → PortRef) (form : PlainForm) : Type 0 where
  old : PlacedPort
  first : PlainStatement
  second : PlainStatement
  is : form ≡ StaticIf written old first second
  port : move old.port ≡ test.port

static_if_back : (move : PortRef → PortRef) (form : PlainForm) (written : Option ℕ) (test : PlacedPort) (a b : PlainStatement) → moved_form move form ≡ StaticIf written test a b → StaticIfBack written test move form
static_if_back move Empty written test a b e = absurd (cc)
static_if_back move (Enable g) written test a b e = absurd (cc)
static_if_back move (Seq parts) written test a b e = absurd (cc)
static_if_back move (Par arms) written test a b e = absurd (cc)
static_if_back move (If p comb x y) written test a b e = absurd (cc)
static_if_back move (While p comb x) written test a b e = absurd (cc)
static_if_back move (Repeat count x) written test a b e = absurd (cc)
static_if_back move (StaticSeq l parts) written test a b e = absurd (cc)
static_if_back move (StaticPar l arms) written test a b e = absurd (cc)
static_if_back move (StaticIf l p x y) written test a b e = record {
  old = p;
  first = x;
  second = y;
  is = let same : l ≡ written = cc in ap (λ k. StaticIf k p x y) same;
  port = let same : moved_port move p ≡ test = cc in ap (λ (z : PlacedPort). z.port) same;
}
static_if_back move (StaticRepeat l count x) written test a b e = absurd (cc)
static_if_back move (Timed k) written test a b e = absurd (cc)

module _ (d : PlainDesign) (design : IsDesign d) (accepted : IsAccepted d) (m k : ℕ) (count : length d.components ≡ suc m) (within : k < length d.components) where
  abbrev part : PlainComponent
  part = component_at d k

  abbrev other : PlainComponent
  other = component_at (with_counts d) k

  abbrev i : Instance
  i = tree_within d (suc m) k

  abbrev j : Instance
  j = tree_within (with_counts d) (suc m) k

  abbrev mv : PortRef → PortRef
  mv p = moved_in d part p

  pub i_is : component_of d k ≡ i
  i_is = ap (λ n. tree_within d n k) count

  pub j_is : component_of (with_counts d) k ≡ j
  j_is = ap (λ n. tree_within (with_counts d) n k) (components-length d ∙ count)

  pub tree_at : is_reached d k ≡ true → InTree d (suc m) k
  tree_at reached = subst (λ n. InTree d n k) count (record { within = within; deep_enough = deep d design k within; few = omega arith; reached = reached })

  -- NO OLD PART breaks a rule
  pub old_assign : (rule : AssignRule) → ((spot : Spot) (place : Place) (name : List ℕ) → OnAssign rule d spot place name → ⊥) → (w : Owned) → In (source_order part) w → (place : Place) (name : List ℕ) → rule i w place name → ⊥
  old_assign rule keeps w stands place name breaks =
      let n = number_in (source_order part) w stands in
      keeps (record { component = k; part = AnAssign n.0 }) place name (record { within = within; number = n.0; is = refl; assign = w; stands = n.1; breaks = subst (λ x. rule x w place name) (sym i_is) breaks })

  pub old_visited : (rule : StatementRule) → ((spot : Spot) (place : Place) (name : List ℕ) → OnStatement rule d spot place name → ⊥) → (w : Visited) → In (statements_in part) w → (place : Place) (name : List ℕ) → rule i w place name → ⊥
  old_visited rule keeps w stands place name breaks =
      let n = number_in (statements_in part) w stands in
      keeps (record { component = k; part = AStatement n.0 }) place name (record { within = within; number = n.0; is = refl; statement = w; stands = n.1; breaks = subst (λ x. rule x w place name) (sym i_is) breaks })

  pub old_group : (rule : GroupRule) → ((spot : Spot) (place : Place) (name : List ℕ) → OnGroup rule d spot place name → ⊥) → (g : ℕ) → g < length part.groups → (place : Place) (name : List ℕ) → rule i g place name → ⊥
  old_group rule keeps g few place name breaks =
      keeps (record { component = k; part = AGroup g }) place name (record { within = within; number = g; is = refl; stands = few; breaks = subst (λ x. rule x g place name) (sym i_is) breaks })

  pub target_inside : (w : Owned) → In (source_order part) w → IsInside d part w.assign.target
  target_inside w stands = targets_inside d design k within w (sorted_among (assigns_of part) w stands)

  pub named_inside : (w : Owned) → In (source_order part) w → (q : PortRef) → AssignNames w.assign q → IsInside d part q
  named_inside w stands q names = names_inside d design k within w (sorted_among (assigns_of part) w stands) q names

  -- what an old assignment, moved, names and drives
  pub names_of : (o w : Owned) → moved_owned mv w ≡ o → (q : PortRef) → AssignNames o.assign q → (r : PortRef) × (mv r ≡ q) × AssignNames w.assign r
  names_of o w is q names = names_back mv w.assign q (subst (λ (x : Owned). AssignNames x.assign q) (sym is) names)

  pub target_of : (o w : Owned) → moved_owned mv w ≡ o → mv w.assign.target ≡ o.assign.target
  target_of o w is = ap (λ (x : Owned). x.assign.target) is

  pub owner_is : (o w : Owned) → moved_owned mv w ≡ o → w.owner ≡ o.owner
  owner_is o w is = ap (λ (x : Owned). x.owner) is

  pub shown_there : (n : ℕ) (x : Shown) → slice_get (shown_in (component_of d k)) n ≡ Some x → In (shown_in (component_of d k)) x
  shown_there n x at = in_at (shown_in (component_of d k)) n x at

  -- RULE done-not-state
  module _ (small : entry_count d < 2 ^ 32) where
    memory_done : k ≡ d.main → 1 ≤ length (shown_in (component_of d k)) → Rests j (ports.Cell (length part.cells + 2 * length (counters (component_of d k))) 4)
    memory_done main some =
        registered_rests (counts_row d design m k within) (memory_there d design m k within main)
        (ap (λ (row : Row). side_of row 4) (memory_row_of (length (shown_in (component_of d k))) some (subst (λ n. length (shown_in (component_of d n)) < 2 ^ 32) (sym main) small)))

    pub done_never : (o : Owned) → In (source_order other) o → (place : Place) (name : List ℕ) → BreaksDoneNotState j o place name → ⊥
    done_never o inside place name (g, target, (q, names, wrong), told) = by (owned_made d design k within o inside)
      where
        of_store : (n : ℕ) (x : Shown) → k ≡ d.main → slice_get (shown_in (component_of d k)) n ≡ Some x
            → StoreTarget (length part.cells + 2 * length (counters (component_of d k))) (length part.groups + n) o.assign → ⊥
        of_store n x main at (to_memory p e) = absurd (let clash : ports.Cell (length part.cells + 2 * length (counters (component_of d k))) p ≡ ports.Done g = sym e ∙ target in cc)
        of_store n x main at (to_hole e named) =
            let less : n < length (shown_in (component_of d k)) = slice_get_within (shown_in (component_of d k)) n x at in
            wrong (subst (Rests j) (sym (named q names)) (memory_done main (omega (arith, less))))

        by : OwnedMade d design k within o → ⊥
        by (old_owned w stands is) =
            let y = names_of o w is q names in
            old_assign BreaksDoneNotState (λ s p n on. accepted.shapes rules.DoneNotState s p n refl on) w stands w.assign.place (group_at part g).name
            (g, done_back d design m k within w.assign.target g (target_of o w is ∙ target), (y.0, y.2, (λ rests. wrong (subst (Rests j) y.1 (rests_moved d design m k within y.0 rests)))), (refl, refl))
        by (showing owner n x main reached at is) = absurd (let clash : ports.Output (length part.outputs + n) ≡ ports.Done g = ap (λ (y : PlainAssign). y.target) is ∙ target in cc)
        by (counting h r owner own reached few is h2) = let t = counter_target part.place r o.assign h2 in absurd (let clash : ports.Cell t.0 t.1 ≡ ports.Done g = sym t.2 ∙ target in cc)
        by (storing n x main at owner h) =
            of_store n x main at (store_target part.place (length part.cells + 2 * length (counters (component_of d k))) (address_width (length (shown_in (component_of d k)))) (length part.groups + n) n x.port o.assign h)

  pub no_owner : (o : Owned) (g : ℕ) → o.owner ≡ None → o.owner ≡ Some g → ⊥
  no_owner o g none some = none_some g (sym none ∙ some)

  -- RULE always-enable
  pub always_never : (o : Owned) → In (source_order other) o → (place : Place) (name : List ℕ) → BreaksAlwaysEnable j o place name → ⊥
  always_never o inside place name (owner, enable, told) = by (owned_made d design k within o inside)
    where
      by : OwnedMade d design k within o → ⊥
      by (old_owned w stands is) =
          old_assign BreaksAlwaysEnable (λ s p n on. accepted.shapes rules.AlwaysEnable s p n refl on) w stands w.assign.place (path_of i w.assign.target)
          (owner_is o w is ∙ owner, sym (enable_kept d design m k within w.assign.target (target_inside w stands)) ∙ ap (is_primitive_enable j) (target_of o w is) ∙ enable, (refl, refl))
      by (showing none n x main reached at is) = absurd (let clash : false ≡ true = ap (λ (y : PlainAssign). is_primitive_enable j y.target) is ∙ enable in cc)
      by (counting h r some own reached few is h2) = no_owner o h owner some
      by (storing n x main at some h) = no_owner o (length part.groups + n) owner some

  -- RULE comb-enable
  pub comb_never : (o : Owned) → In (source_order other) o → (place : Place) (name : List ℕ) → BreaksCombEnable j o place name → ⊥
  comb_never o inside place name (g, owner, comb, bars, told) = by (owned_made d design k within o inside)
    where
      old_comb : is_comb (group_at part g).kind ≡ true
      old_comb = ap is_comb (sym (kind_kept d design k within g)) ∙ comb

      same_owner : (h : ℕ) → o.owner ≡ Some h → h ≡ g
      same_owner h e = let same : Some h ≡ Some g = sym e ∙ owner in cc

      by : OwnedMade d design k within o → ⊥
      by (old_owned w stands is) =
          let here = target_inside w stands in
          old_assign BreaksCombEnable (λ s p n on. accepted.shapes rules.CombEnable s p n refl on) w stands w.assign.place (path_of i w.assign.target) (
            g,
            owner_is o w is ∙ owner,
            old_comb,
            ap₂ (λ a b. a || b || is_hole w.assign.target) (sym (enable_kept d design m k within w.assign.target here)) (sym (part_port_kept d design m k within w.assign.target here))
                ∙ ap (λ b. is_primitive_enable j (mv w.assign.target) || is_part_port j (mv w.assign.target) || b) (sym (hole_kept d design m k within w.assign.target))
                ∙ ap (λ t. is_primitive_enable j t || is_part_port j t || is_hole t) (target_of o w is) ∙ bars,
            (refl, refl),
          )
      by (showing none n x main reached at is) = no_owner o g none owner
      by (counting h r some own reached few is h2) = both_ways (is_comb (group_at part h).kind) (counted_kind _ (group_at part h) is) (subst (λ z. is_comb (group_at part z).kind ≡ true) (sym (same_owner h some)) old_comb)
      by (storing n x main at some h) = of_kind (group_made d design k within g)
        where
          of_kind : GroupMade d design k within g → ⊥
          of_kind (bare_group few e) = let number : length part.groups + n ≡ g = same_owner (length part.groups + n) some in omega (arith, number, few)
          of_kind (counting_group r own reached few is e) = let number : length part.groups + n ≡ g = same_owner (length part.groups + n) some in omega (arith, number, few)
          of_kind (storing_group s y name2 main2 at2 number e) = absurd (let clash : false ≡ true = ap (λ (z : PlainGroup). is_comb z.kind) (sym e) ∙ comb in cc)
          of_kind (no_group_there past gone e) = absurd (let clash : false ≡ true = ap (λ (z : PlainGroup). is_comb z.kind) (sym e) ∙ comb in cc)

  -- RULE static-guard
  owner_length_kept : (owner : Option ℕ) → owner_length other owner ≡ owner_length part owner
  owner_length_kept None = refl
  owner_length_kept (Some g) = length_kept d design k within g

  pub guard_never : (o : Owned) → In (source_order other) o → (place : Place) (name : List ℕ) → BreaksStaticGuard j o place name → ⊥
  guard_never o inside place name (r, stands_in, bad, told) = by (owned_made d design k within o inside)
    where
      bare : o.assign.guard ≡ Always → ⊥
      bare e = let none : In (ranges_of Always) r = subst (λ g. In (ranges_of g) r) e stands_in in none

      by : OwnedMade d design k within o → ⊥
      by (old_owned w stands is) =
          old_assign BreaksStaticGuard (λ s p n on. accepted.shapes rules.StaticGuard s p n refl on) w stands w.assign.place (path_of i w.assign.target) (
            r,
            subst (λ list. In list r) (ranges_of-moved mv w.assign.guard) (subst (λ (x : Owned). In (ranges_of x.assign.guard) r) (sym is) stands_in),
            ap (λ n. is_bad_range n r) (sym (owner_length_kept w.owner)) ∙ ap (λ z. is_bad_range (owner_length other z) r) (owner_is o w is) ∙ bad,
            (refl, refl),
          )
      by (showing none n x main reached at is) = bare (ap (λ (y : PlainAssign). y.guard) (sym is))
      by (counting h c some own reached few is h2) = bare (counter_bare part.place c o.assign h2)
      by (storing n x main at some h) = bare (store_bare part.place (length part.cells + 2 * length (counters (component_of d k))) (address_width (length (shown_in (component_of d k)))) (length part.groups + n) n x.port o.assign h)

  -- RULE output-not-state
  pub shown_cell : (x : Shown) → In (shown_in (component_of d k)) x → (c p : ℕ) × (x.port ≡ ports.Cell c p)
  shown_cell x inside = by (where_shown (component_of d k) x inside)
    where
      by : WhereShown (component_of d k) x → (c p : ℕ) × (x.port ≡ ports.Cell c p)
      by (own_count counter own e) = (counter.register, 2, ap (λ (y : Shown). y.port) (sym e))
      by (child_count b) = (_, _, b.port)

  ends_nowhere : (p q : PortRef) → Ends j nothing 0 p → Depends j nothing p q → ⊥
  ends_nowhere p q ends (at_once l) = ends q l
  ends_nowhere p q ends (by_way_of r l rest) = ends r l

  pub output_never : (o : Owned) → In (source_order other) o → (place : Place) (name : List ℕ) → BreaksOutputNotState j o place name → ⊥
  output_never o inside place name (n, target, (q, names, bad), told) = by (owned_made d design k within o inside)
    where
      leads_back : (r : PortRef) → IsInside d part r → mv r ≡ q → LeadsToInput j q → LeadsToInput i r
      leads_back r here e (x, inl is) = (x, inl (input_back d design m k within r x (e ∙ is)))
      leads_back r here e (x, inr depends) =
          let y = depends_back d design m k within nothing r q (ports.Input x) here e depends in
          (x, inr (subst (Depends i nothing r) (input_back d design m k within y.0 x y.1) y.2))

      bad_back : (r : PortRef) → IsInside d part r → mv r ≡ q → (Rests j q → ⊥) ⊎ LeadsToInput j q → (Rests i r → ⊥) ⊎ LeadsToInput i r
      bad_back r here e (inl wrong) = inl (λ rests. wrong (subst (Rests j) e (rests_moved d design m k within r rests)))
      bad_back r here e (inr leads) = inr (leads_back r here e leads)

      of_shown : is_reached d k ≡ true → (x : Shown) → In (shown_in (component_of d k)) x → x.port ≡ q → (Rests j q → ⊥) ⊎ LeadsToInput j q → ⊥
      of_shown reached x there same (inl wrong) = wrong (subst (Rests j) same (shown_rests d design m k within (tree_at reached) x there))
      of_shown reached x there same (inr (y, inl e)) = let c = shown_cell x there in absurd (let clash : ports.Cell c.0 c.1 ≡ ports.Input y = sym c.2 ∙ same ∙ e in cc)
      of_shown reached x there same (inr (y, inr depends)) = ends_nowhere x.port (ports.Input y) (shown_ends d design m k (tree_at reached) nothing x there) (subst (λ z. Depends j nothing z (ports.Input y)) (sym same) depends)

      by : OwnedMade d design k within o → ⊥
      by (old_owned w stands is) =
          let y = names_of o w is q names in
          old_assign BreaksOutputNotState (λ s p x on. accepted.shapes rules.OutputNotState s p x refl (inl on)) w stands w.assign.place (path_of i w.assign.target)
          (n, output_back d design m k within w.assign.target n (target_of o w is ∙ target), (y.0, y.2, bad_back y.0 (named_inside w stands y.0 y.2) y.1 bad), (refl, refl))
      by (showing none s x main reached at is) =
          of_shown reached x (shown_there s x at) (⊎_elim (λ wrong. absurd wrong) (λ same. same) (subst (λ (y : PlainAssign). AssignNames y q) (sym is) names)) bad
      by (counting h r some own reached few is h2) = let t = counter_target part.place r o.assign h2 in absurd (let clash : ports.Cell t.0 t.1 ≡ ports.Output n = sym t.2 ∙ target in cc)
      by (storing s x main at some h) =
          of_store (store_target part.place (length part.cells + 2 * length (counters (component_of d k))) (address_width (length (shown_in (component_of d k)))) (length part.groups + s) s x.port o.assign h)
        where
          of_store : StoreTarget (length part.cells + 2 * length (counters (component_of d k))) (length part.groups + s) o.assign → ⊥
          of_store (to_memory p e) = absurd (let clash : ports.Cell (length part.cells + 2 * length (counters (component_of d k))) p ≡ ports.Output n = sym e ∙ target in cc)
          of_store (to_hole e named) = absurd (let clash : ports.Done (length part.groups + s) ≡ ports.Output n = sym e ∙ target in cc)

  -- GROUPS
  moved_targets : (test : PortRef → Bool) → ((p : PortRef) → test (mv p) ≡ test p) → (list more : List PlainAssign) → some_target test more ≡ false → some_target test (moved_assigns d part list ++ more) ≡ some_target test list
  moved_targets test same list more none =
      some_joined test (moved_assigns d part list) more ∙ ap (λ b. some_target test (moved_assigns d part list) || b) none ∙ none_more (some_target test (moved_assigns d part list))
      ∙ some_target-moved mv test test same list

  pub no_done_never : (g : ℕ) → g < length other.groups → (place : Place) (name : List ℕ) → BreaksNoDone j g place name → ⊥
  no_done_never g there place name (plain, none, told) = by (group_made d design k within g)
    where
      old : g < length part.groups → (more : List PlainAssign) → some_target (is_hole_of g) (moved_assigns d part (group_at part g).assigns ++ more) ≡ false → ⊥
      old few more e =
          old_group BreaksNoDone (λ s p n on. accepted.shapes rules.NoDone s p n refl on) g few (group_at part g).place (group_at part g).name (
            ap is_plain (sym (kind_kept d design k within g)) ∙ plain,
            sym (some_target-moved mv (is_hole_of g) (is_hole_of g) (hole_of_kept d design m k within g) (group_at part g).assigns)
                ∙ neither_first (some_target (is_hole_of g) (moved_assigns d part (group_at part g).assigns)) (some_target (is_hole_of g) more) (sym (some_joined (is_hole_of g) (moved_assigns d part (group_at part g).assigns) more) ∙ e),
            (refl, refl),
          )

      by : GroupMade d design k within g → ⊥
      by (bare_group few e) = old few [] (ap (λ (x : PlainGroup). some_target (is_hole_of g) x.assigns) (sym e) ∙ none)
      by (counting_group r own reached few is e) = old few (counter_assigns part.place r) (ap (λ (x : PlainGroup). some_target (is_hole_of g) x.assigns) (sym e) ∙ none)
      by (storing_group n x name2 main at number e) =
          both_ways (some_target (is_hole_of g) (StoreOf d design k within n x)) (ap (λ (y : PlainGroup). some_target (is_hole_of g) y.assigns) (sym e) ∙ none)
          (store_done part.place (length part.cells + 2 * length (counters (component_of d k))) (address_width (length (shown_in (component_of d k)))) g (length part.groups + n) n x.port number)
      by (no_group_there past gone e) = omega (arith, gone, there)

  pub static_group_never : (g : ℕ) → g < length other.groups → (place : Place) (name : List ℕ) → GroupBreaksStaticShape j g place name → ⊥
  static_group_never g there place name (n, timed, bad, told) = by (group_made d design k within g)
    where
      old_timed : group_length part g ≡ Some n
      old_timed = sym (length_kept d design k within g) ∙ timed

      old : g < length part.groups → (more : List PlainAssign) → some_target is_hole more ≡ false → (some_target is_hole (moved_assigns d part (group_at part g).assigns ++ more) || nat_eq n 0) ≡ true → ⊥
      old few more none e =
          old_group GroupBreaksStaticShape (λ s p x on. accepted.shapes rules.StaticShape s p x refl (inl on)) g few (group_at part g).place (group_at part g).name
          (n, old_timed, ap (λ b. b || nat_eq n 0) (sym (moved_targets is_hole (hole_kept d design m k within) (group_at part g).assigns more none)) ∙ e, (refl, refl))

      by : GroupMade d design k within g → ⊥
      by (bare_group few e) = old few [] refl (ap (λ (x : PlainGroup). some_target is_hole x.assigns || nat_eq n 0) (sym e) ∙ bad)
      by (counting_group r own reached few is e) = old few (counter_assigns part.place r) (counter_holes part.place r) (ap (λ (x : PlainGroup). some_target is_hole x.assigns || nat_eq n 0) (sym e) ∙ bad)
      by (storing_group s x name2 main at number e) = none_some n (ap (λ (y : PlainGroup). kind_length y.kind) (sym e) ∙ timed)
      by (no_group_there past gone e) = omega (arith, gone, there)

  -- STATEMENTS
  pub no_visited : (rule : StatementRule) → ((v : Visited) (place : Place) (name : List ℕ) → IsNewStatement d design k within v → rule j v place name → ⊥)
      → ((w : Visited) → In (statements_in part) w → (place : Place) (name : List ℕ) → rule j (moved_visited mv w) place name → ⊥)
      → (v : Visited) → In (statements_in other) v → (place : Place) (name : List ℕ) → rule j v place name → ⊥
  no_visited rule new old v inside place name breaks = by (statement_made d design k within v inside)
    where
      by : StatementMade d design k within v → ⊥
      by (old_statement w stands is) = old w stands place name (subst (λ x. rule j x place name) (sym is) breaks)
      by (new_statement n) = new v place name n breaks

  control_old : (w : Visited) → In (statements_in part) w → (place : Place) (name : List ℕ) → BreaksStaticControl j (moved_visited mv w) place name → ⊥
  control_old w stands place name (static, bad, told) =
      old_visited BreaksStaticControl (λ s p n on. accepted.shapes rules.StaticShape s p n refl (inr (inl on))) w stands w.place (enabled_name part w.form)
      (static, sym (may_stand-moved mv part other (length_kept d design k within) (words_kept d design k within) w.context w.form) ∙ bad, (refl, refl))

  pub control_never : (v : Visited) → In (statements_in other) v → (place : Place) (name : List ℕ) → BreaksStaticControl j v place name → ⊥
  control_never = no_visited BreaksStaticControl (λ v place name n breaks. both_ways (is_in_static v.context) n.dynamic breaks.0) control_old

  length_is : (w : Visited) → form_lasts other (moved_form mv w.form) ≡ form_lasts part w.form
  length_is w = form_lasts-moved d design k within w.form

  length_old : (w : Visited) → In (statements_in part) w → (place : Place) (name : List ℕ) → BreaksLength j (moved_visited mv w) place name → ⊥
  length_old w stands place name (static, has, bad, told) =
      old_visited BreaksLength (λ s p n on. accepted.shapes rules.StaticShape s p n refl (inr (inr (inl on)))) w stands w.place []
      (sym (is_static-moved mv w.form) ∙ static, sym (form_has_length-moved mv part other (length_kept d design k within) (words_kept d design k within) w.context w.form) ∙ has, one bad, (refl, refl))
    where
      one : ((n : ℕ) × (written_length (moved_form mv w.form) ≡ Some n) × (n ≢ form_lasts other (moved_form mv w.form))) ⊎ (form_lasts other (moved_form mv w.form) ≡ 0)
          → ((n : ℕ) × (written_length w.form ≡ Some n) × (n ≢ form_lasts part w.form)) ⊎ (form_lasts part w.form ≡ 0)
      one (inl (n, written, differs)) = inl (n, sym (written_length-moved mv w.form) ∙ written, (λ is. differs (is ∙ sym (length_is w))))
      one (inr none) = inr (sym (length_is w) ∙ none)

  pub length_never : (v : Visited) → In (statements_in other) v → (place : Place) (name : List ℕ) → BreaksLength j v place name → ⊥
  length_never = no_visited BreaksLength (λ v place name n breaks. both_ways (is_static v.form) n.bare breaks.0) length_old

  static_test_old : (w : Visited) → In (statements_in part) w → (place : Place) (name : List ℕ) → BreaksStaticTest j (moved_visited mv w) place name → ⊥
  static_test_old w stands place name (written, test, a, b, is, wrong, told) =
      let r = static_if_back mv w.form written test a b is in
      old_visited BreaksStaticTest (λ s p n on. accepted.shapes rules.StaticShape s p n refl (inr (inr (inr (inl on))))) w stands w.place []
      (written, r.old, r.first, r.second, r.is, (λ rests. wrong (subst (Rests j) r.port (rests_moved d design m k within r.old.port rests))), (refl, refl))

  pub static_test_never : (v : Visited) → In (statements_in other) v → (place : Place) (name : List ℕ) → BreaksStaticTest j v place name → ⊥
  static_test_never = no_visited BreaksStaticTest (λ v place name n breaks. both_ways (is_static v.form) n.bare (ap is_static breaks.4)) static_test_old
