-- AN ISLAND of the instrumented instance, with static invokes, carries that of the instance; so do the cycles of groups, with the static
-- children at rest.
use Rattle.std.proofs.Common.{◌≡◌, ℕ, zero, suc, ◌+◌, ◌*◌, ◌<◌, ◌≤◌, nat_eq, if◌then◌else◌, List, [], ◌∷◌, length, map, Option, Some, None, refl, sym, ap, ◌∙◌, subst, arith}
use Rattle.cx_prim.specs.CellStates.{CellState}
use Rattle.cx_meaning.specs.declared.ports.PortRef.{PortRef}
use Rattle.cx_meaning.specs.declared.ports.PortRef.TheVariants as ports
use Rattle.cx_meaning.specs.Truths.{Truth, One, Zero, truth_of}
use Rattle.cx_meaning.specs.Truths as truths
use Rattle.cx_meaning.specs.Designs.{PlainComponent, PlainDesign, component_at}
use Rattle.cx_meaning.specs.Instances.{Instance, cells_of, Path, State, Set, merge, put, idle, tree_within}
use Rattle.cx_meaning.specs.Active.{Active, group, entries}
use Rattle.cx_meaning.specs.Sights.{Held, seen}
use Rattle.cx_meaning.specs.Cycles.{Fault, Next, Ended, Goes, Faults}
use Rattle.cx_meaning.specs.Answers.{turns_of}
use Rattle.cx_meaning.specs.Islands.{is_one, turn_of, unless_unclear}
use Rattle.cx_meaning.specs.Calls.{hole_turn}
use Rattle.cx_rules.specs.Circles.{IsAcyclic}
use Rattle.cx_rules.specs.Ports.{component_of}
use Rattle.cx_rules.specs.Accepted.{IsAccepted}
use Rattle.cx_rules.specs.Wellformed.{IsDesign}
use Rattle.cx_rules.proofs.CircleLemmas.{within_group}
use Rattle.cx_rewrites.specs.Tallies.{Tally, plus, turns_count}
use Rattle.cx_rewrites.specs.Carrying.{Exact, Rests, TurnCarried, Carries}
use Rattle.cx_rewrites.specs.Cells.{comes_to}
use Rattle.cx_rewrites.proofs.CarryLemmas.{idle_carries, turn_carried, turns_carry}
use Rattle.cx_flattening.specs.Events.{Spot, Event}
use Rattle.cx_flattening.specs.Deeds.{History, and_now, Deed, deeds_in, looked_in, own_entries, first_unclear}
use Rattle.cx_flattening.specs.Seeing.{NoCircle}
use Rattle.cx_flattening.specs.Whole.{whole_cycle, look_below, whole_turn, whole_from, group_turn}
use Rattle.cx_flattening.proofs.FlatDeeper.{none_below}
use Rattle.cx_profiling.specs.Counters.{counters}
use Rattle.cx_profiling.specs.Counting.{made_with}
use Rattle.cx_profiling.specs.WholeCounting.{done_with, whole_count_from}
use Rattle.cx_profiling.specs.Growing.{Grown}
use Rattle.cx_profiling.specs.Instrumented.{with_counts}
use Rattle.cx_profiling.proofs.GrownLemmas.{grown_numbers}
use Rattle.cx_profiling.proofs.GrownTrees.{InTree}
use Rattle.cx_profiling.proofs.AcyclicLemmas.{ActsWithin}
use Rattle.cx_profiling.proofs.SeenOutputs.{below_here}
use Rattle.cx_profiling.proofs.LeafLemmas.{group_within, rests, found}
use Rattle.cx_profiling.proofs.BareCounts.{nothing_done}
use Rattle.cx_profiling.proofs.GrownDeeds.{moved_spot, moved_event, moved_deed, AllKnown, own-moved, deeds_known, looks_known, deeds-moved, looks-moved}
use Rattle.cx_profiling.proofs.GrownEvents.{moved_at, SpotIn, ActIn, FedIn}
use Rattle.cx_profiling.proofs.DeedsBelow.{DeedsIn, own_within}
use Rattle.cx_profiling.proofs.GrownWholes.{EndedAs, ended_turn, ended_more, acts_with, whole_grows, kids_whole}
use Rattle.cx_profiling.proofs.GrownLooks.{looks_alike, unclear_alike, kids_look}

-- WHAT ELSE IS KEPT of the states of the instrumented instance: by idle turns, by cycles of its old groups, where a child's state is put back, and
-- where arms meet
pub record TwinKeeps (d : PlainDesign) (m k : ℕ) (twin : Held) (K : State → Type 0) : Type 0 where
  pub rest : (t : State) → K t → K (idle (tree_within (with_counts d) (suc m) k) t)
  pub cycle : (act : Active) → ActsWithin (component_at d k) act → IsAcyclic (tree_within d (suc m) k) act → (ds : List Deed) (t z : State) → K t → whole_cycle (tree_within (with_counts d) (suc m) k) twin act ds t ≡ Goes z → K z
  pub child : (c : ℕ) → c < length (component_at d k).cells → (own t : State) → K t → K (put c own t)
  pub merged : (set : Set) (a b : State) → K a → K b → K (merge set a b)

-- nothing
pub nothing_kept : (d : PlainDesign) (m k : ℕ) (twin : Held) → TwinKeeps d m k twin (λ t. Unit {0})
nothing_kept d m k twin = record { rest = λ t h. tt; cycle = λ act acts acyclic ds t z h e. tt; child = λ c few own t h. tt; merged = λ set a b h g. tt }

module _ (d : PlainDesign) (design : IsDesign d) (accepted : IsAccepted d) (grown_accepted : IsAccepted (with_counts d)) (m k : ℕ) (at : InTree d (suc m) k)
    (entries_there : (act : Active) → ActsWithin (component_at d k) act → IsAcyclic (tree_within d (suc m) k) act → IsAcyclic (tree_within (with_counts d) (suc m) k) act)
    (further : (act : Active) → ActsWithin (component_at d k) act → IsAcyclic (tree_within (with_counts d) (suc m) k) act → (twin : Held) (t : State) (e : ℕ)
    → length (component_at d k).cells + 2 * length (counters (component_of d k)) ≤ e → e < length (component_at (with_counts d) k).cells
    → (after : CellState) × (comes_to (tree_within (with_counts d) (suc m) k) twin act t e ≡ Next after))
    (held twin : Held) (same : (n : ℕ) → n < length (component_at d k).inputs → twin n ≡ held n) (K : State → Type 0) (keeps : TwinKeeps d m k twin K) where
  abbrev node : PlainComponent
  node = component_at d k

  abbrev i : Instance
  i = tree_within d (suc m) k

  abbrev j : Instance
  j = tree_within (with_counts d) (suc m) k

  abbrev mvr : Path → PortRef → PortRef
  mvr = moved_at d i

  abbrev pub R : Tally → State → State → Type 0
  R τ s t = Grown i τ s t × K t

  rest_kept : Rests R (idle i) (idle j)
  rest_kept τ s t r = (rests d design accepted grown_accepted m k at τ s t r.0, keeps.rest t r.1)

  with_kept : (σ : Tally) (o x : Ended) → ((z : State) → x ≡ Goes z → K z) → EndedAs (Grown i σ) o x → EndedAs (R σ) o x
  with_kept σ (Goes a) x h (z, e, r) = (z, e, (r, h z e))
  with_kept σ (Faults f) x h e = e

  abbrev Known : List Event → Type 0
  Known list = AllKnown (SpotIn d i) (ActIn d i) (FedIn d i) list

  -- A CYCLE IN WHICH NOTHING IS DONE BELOW
  pub still_cycle : (act : Active) → ActsWithin node act → IsAcyclic i act → (τ : Tally) (s t : State) → R τ s t → TurnCarried Exact R (λ f. f) τ (made_with act) (turn_of (whole_cycle i held act [] s)) (turn_of (whole_cycle j twin act [] t))
  still_cycle act acts acyclic τ s t grown =
      ended_turn R τ (made_with act) (whole_cycle i held act [] s) (whole_cycle j twin act [] t)
      (with_kept (plus τ (made_with act)) (whole_cycle i held act [] s) (whole_cycle j twin act [] t) (λ z e. keeps.cycle act acts acyclic [] t z grown.1 e)
      (ended_more (Grown i (plus τ counted)) (Grown i (plus τ (made_with act))) (whole_cycle i held act [] s) (whole_cycle j twin act [] t) (λ a z r. grown_numbers i (plus τ counted) (plus τ (made_with act)) a z by r)
      (whole_grows d design accepted grown_accepted m k at entries_there further (kids_whole d design accepted grown_accepted m) held twin same act acts [] calm (λ x h. absurd h) τ s t grown.0)))
    where
      calm : NoCircle i act []
      calm = (acyclic, below_here d design accepted grown_accepted (suc m) k, none_below (cells_of i) (below_here d design accepted grown_accepted (suc m) k))

      counted : Tally
      counted = acts_with d design accepted grown_accepted m k at entries_there further (kids_whole d design accepted grown_accepted m) held twin same act acts [] calm (λ x h. absurd h) τ s t grown.0

      by : (path : Path) (g : ℕ) → plus τ counted path g ≡ plus τ (made_with act) path g
      by [] g = refl
      by (c ∷ path) g = ap (λ n. τ (c ∷ path) g + n) (nothing_done path g)

  -- A CYCLE OF AN ISLAND
  pub deeds_cycle : (ds : List Deed) → NoCircle i (entries (own_entries ds)) ds → DeedsIn d i ds → (τ : Tally) (s t : State) → R τ s t
      → TurnCarried Exact R (λ f. f) τ (done_with ds) (turn_of (whole_cycle i held (entries (own_entries ds)) ds s)) (turn_of (whole_cycle j twin (entries (own_entries ds)) (map (moved_deed mvr) ds) t))
  deeds_cycle ds calm known τ s t grown =
      ended_turn R τ (done_with ds) (whole_cycle i held (entries (own_entries ds)) ds s) (whole_cycle j twin (entries (own_entries ds)) (map (moved_deed mvr) ds) t)
      (with_kept (plus τ (done_with ds)) (whole_cycle i held (entries (own_entries ds)) ds s) (whole_cycle j twin (entries (own_entries ds)) (map (moved_deed mvr) ds) t)
      (λ z e. keeps.cycle (entries (own_entries ds)) (own_within d i ds known) calm.0 (map (moved_deed mvr) ds) t z grown.1 e)
      (ended_more (Grown i (plus τ counted)) (Grown i (plus τ (done_with ds))) (whole_cycle i held (entries (own_entries ds)) ds s) (whole_cycle j twin (entries (own_entries ds)) (map (moved_deed mvr) ds) t)
      (λ a z r. grown_numbers i (plus τ counted) (plus τ (done_with ds)) a z by r)
      (whole_grows d design accepted grown_accepted m k at entries_there further (kids_whole d design accepted grown_accepted m) held twin same (entries (own_entries ds)) (own_within d i ds known) ds calm known τ s t grown.0)))
    where
      counted : Tally
      counted = acts_with d design accepted grown_accepted m k at entries_there further (kids_whole d design accepted grown_accepted m) held twin same (entries (own_entries ds)) (own_within d i ds known) ds calm known τ s t grown.0

      by : (path : Path) (g : ℕ) → plus τ counted path g ≡ plus τ (done_with ds) path g
      by [] g = refl
      by (c ∷ path) g = refl

  -- histories that say the same of spots of the tree
  abbrev Says : History → History → Type 0
  Says h other = (x : Spot) → SpotIn d i x → (u : ℕ) → other (moved_spot mvr x) u ≡ h x u

  says_now : (h other : History) → Says h other → (t : ℕ) (τ : Tally) (s z : State) → R τ s z → Says (and_now h t (look_below i held s)) (and_now other t (look_below j twin z))
  says_now h other says t τ s z grown x known u =
      ap (λ y. if nat_eq t u then is_one (truth_of y) else other (moved_spot mvr x) u)
      (looks_alike d design accepted grown_accepted m k at entries_there further (kids_look d design accepted grown_accepted m) held twin same τ s z grown.0 x.at known.0 known.1 x.port known.2).0
      ∙ ap (λ b. if nat_eq t u then is_one (truth_of (look_below i held s x.at x.port)) else b) (says x known u)

  module _ (list twins : List Event) (are : twins ≡ map (moved_event mvr) list) (known : Known list) (calm : (h : History) (t : ℕ) → NoCircle i (entries (own_entries (deeds_in h t list))) (deeds_in h t list)) where
    turn_grows : (h g : History) → Says h g → (t : ℕ) (τ : Tally) (s z : State) → R τ s z
        → TurnCarried Exact R (λ f. f) τ (done_with (deeds_in h t list)) (whole_turn i held list t h s) (whole_turn j twin twins t g z)
    turn_grows h g says t τ s z grown =
        subst (λ l. TurnCarried Exact R (λ f. f) τ (done_with ds) (whole_turn i held list t h s) (whole_turn j twin l t g z)) (sym are)
        (subst (λ l. TurnCarried Exact R (λ f. f) τ (done_with ds) (whole_turn i held list t h s) (unless_unclear (first_unclear (look_below j twin z) (looked_in g t (map (moved_event mvr) list))) (whole_cycle j twin (entries (own_entries l)) l z)))
        (sym (deeds-moved (SpotIn d i) (ActIn d i) (FedIn d i) mvr h g says t list known))
        (subst (λ es. TurnCarried Exact R (λ f. f) τ (done_with ds) (whole_turn i held list t h s) (unless_unclear (first_unclear (look_below j twin z) (looked_in g t (map (moved_event mvr) list))) (whole_cycle j twin (entries es) (map (moved_deed mvr) ds) z)))
        (sym (own-moved mvr ds))
        (subst (λ o. TurnCarried Exact R (λ f. f) τ (done_with ds) (whole_turn i held list t h s) (unless_unclear o (whole_cycle j twin (entries (own_entries ds)) (map (moved_deed mvr) ds) z))) (sym unclear)
        (by (first_unclear (look_below i held s) (looked_in h t list))))))
      where
        ds : List Deed
        ds = deeds_in h t list

        unclear : first_unclear (look_below j twin z) (looked_in g t (map (moved_event mvr) list)) ≡ first_unclear (look_below i held s) (looked_in h t list)
        unclear =
            ap (first_unclear (look_below j twin z)) (looks-moved (SpotIn d i) (ActIn d i) (FedIn d i) mvr h g says t list known)
            ∙ unclear_alike d design accepted grown_accepted m k at entries_there further (kids_look d design accepted grown_accepted m) held twin same τ s z grown.0 (looked_in h t list) (looks_known (SpotIn d i) (ActIn d i) (FedIn d i) h t list known)

        by : (o : Option Fault) → TurnCarried Exact R (λ f. f) τ (done_with ds) (unless_unclear o (whole_cycle i held (entries (own_entries ds)) ds s)) (unless_unclear o (whole_cycle j twin (entries (own_entries ds)) (map (moved_deed mvr) ds) z))
        by None = deeds_cycle ds (calm h t) (deeds_known (SpotIn d i) (ActIn d i) (FedIn d i) h t list known) τ s z grown
        by (Some f) = refl

    -- THE CYCLES from one on
    pub from_grows : (left t : ℕ) (h g : History) → Says h g → Carries Exact R (λ f. f) (whole_count_from i held list left t h) (whole_from i held list left t h) (whole_from j twin twins left t g)
    from_grows zero t h g says τ s z n u room grown = idle_carries Exact R (λ f. f) (idle i) (idle j) rest_kept τ s z n u room grown
    from_grows (suc left) t h g says τ s z zero zero room grown = refl
    from_grows (suc left) t h g says τ s z zero (suc u) room grown = absurd (let wrong : 0 ≡ suc u = room in omega (arith, wrong))
    from_grows (suc left) t h g says τ s z (suc n) zero room grown = absurd (let wrong : suc n ≡ 0 = room in omega (arith, wrong))
    from_grows (suc left) t h g says τ s z (suc n) (suc u) room grown =
        turn_carried Exact R (λ f. f) (idle i) (idle j) rest_kept τ (done_with (deeds_in (and_now h t (look_below i held s)) t list)) s z
        (whole_turn i held list t (and_now h t (look_below i held s)) s) (whole_turn j twin twins t (and_now g t (look_below j twin z)) z)
        (λ a. whole_count_from i held list left (suc t) (and_now h t (look_below i held s)) a n) (λ a. whole_from i held list left (suc t) (and_now h t (look_below i held s)) a n)
        (λ b. whole_from j twin twins left (suc t) (and_now g t (look_below j twin z)) b u) grown
        (turn_grows (and_now h t (look_below i held s)) (and_now g t (look_below j twin z)) (says_now h g says t τ s z grown) t τ s z grown)
        (λ a b q. from_grows left (suc t) (and_now h t (look_below i held s)) (and_now g t (look_below j twin z)) (says_now h g says t τ s z grown)
        (plus τ (done_with (deeds_in (and_now h t (look_below i held s)) t list))) a b n u (let wanted : suc n ≡ suc u = room in omega (arith, wanted)) q)

  -- A GROUP, turn by turn
  pub group_turns : (g : ℕ) → g < length node.groups → Carries Exact R (λ f. f) (turns_count (group_turn i held g) (made_with (group g))) (turns_of (idle i) (group_turn i held g)) (turns_of (idle j) (group_turn j twin g))
  group_turns g few =
      turns_carry Exact R (λ f. f) (idle i) (idle j) rest_kept (group_turn i held g) (group_turn j twin g) (made_with (group g)) one
    where
      acyclic : IsAcyclic i (group g)
      acyclic = within_group d accepted (suc m) k g few

      one : (τ : Tally) (s z : State) → R τ s z → TurnCarried Exact R (λ f. f) τ (made_with (group g)) (group_turn i held g s) (group_turn j twin g z)
      one τ s z grown =
          subst (λ x. TurnCarried Exact R (λ f. f) τ (made_with (group g)) (group_turn i held g s) (hole_turn g (whole_cycle j twin (group g) [] z) (truth_of x)))
          (sym (found d design accepted grown_accepted m k at entries_there further held twin same (group g) (group_within node g few) acyclic τ s z grown.0 (ports.Done g) few))
          (hole (truth_of (seen i held (group g) s (ports.Done g))) (still_cycle (group g) (group_within node g few) acyclic τ s z grown))
        where
          hole : (x : Truth) → TurnCarried Exact R (λ f. f) τ (made_with (group g)) (turn_of (whole_cycle i held (group g) [] s)) (turn_of (whole_cycle j twin (group g) [] z))
              → TurnCarried Exact R (λ f. f) τ (made_with (group g)) (hole_turn g (whole_cycle i held (group g) [] s) x) (hole_turn g (whole_cycle j twin (group g) [] z) x)
          hole One h = refl
          hole Zero h = h
          hole truths.Conflict h = refl
          hole truths.Undefined h = refl
