-- WHAT LEAVES COUNT in the flat instance, beside the tree: turns of a group, islands, calls of dynamic children.
use Rattle.std.proofs.Common.{◌≡◌, ℕ, zero, suc, ◌+◌, Bool, true, false, nat_eq, List, [], ◌∷◌, Some, None, refl, sym, ap, ◌∙◌, subst, arith}
use Rattle.std.specs.Prelude.{sum_by, if◌then◌else◌}
use Rattle.std.proofs.lemmas.Bool.{eqb-true, both_ways, ne_eqb}
use Rattle.std.proofs.lemmas.List.Sums.{sum_by-cons}
use Rattle.cx_meaning.specs.declared.ports.PortRef.TheVariants as ports
use Rattle.cx_meaning.specs.Designs.{PlainComponent, PlainForm}
use Rattle.cx_meaning.specs.Instances.{Instance, Node, Cells, OfInstance, part_of, cells_of, cell_at, Path, State}
use Rattle.cx_meaning.specs.Active.{nothing, entries, group}
use Rattle.cx_meaning.specs.Sights.{Held, seen}
use Rattle.cx_meaning.specs.Cycles.{Fault}
use Rattle.cx_meaning.specs.Answers.{Turn, Ends, Goes}
use Rattle.cx_meaning.specs.Answers as answers
use Rattle.cx_meaning.specs.Calls as calls
use Rattle.cx_meaning.specs.Control.{groups_of}
use Rattle.cx_meaning.specs.Islands.{Occurrence, active_in, form_flat, island_turn}
use Rattle.cx_meaning.specs.Islands as islands
use Rattle.cx_meaning.proofs.InstancesLemmas.{instance_is}
use Rattle.cx_rules.specs.Counts.{is_one_of}
use Rattle.cx_rules.specs.Invokes.{form_lasts}
use Rattle.cx_rewrites.specs.Tallies.{Tally, none, plus, below, Counted, turn_count, turns_count, island_count_from}
use Rattle.cx_flattening.specs.Events.{Event, spot}
use Rattle.cx_flattening.specs.Deeds.{History, no_history, and_now, deeds_in, own_entries}
use Rattle.cx_flattening.specs.Whole.{is_static, look_below, whole_turn, group_turn}
use Rattle.cx_flattening.specs.Flattened.{Kids, kid_at, kept_at, start_of, flat_kids, flat_part, flat_form}
use Rattle.cx_flattening.specs.Embedded.{Stands}
use Rattle.cx_flattening.specs.Fair.{IsFair}
use Rattle.cx_flattening.specs.Turning.{TurnAs, IsGroupBeside}
use Rattle.cx_flattening.specs.Sampling.{AgreesAt, SampledAlike}
use Rattle.cx_flattening.specs.Lists.{IsIsland, island_events}
use Rattle.cx_flattening.proofs.Placing.{kept_less, kept_apart}
use Rattle.cx_flattening.proofs.Standing.{within_child}
use Rattle.cx_flattening.proofs.LevelSights.{kid-static, kid-dynamic}
use Rattle.cx_flattening.proofs.DeedSources.{island_does}
use Rattle.cx_flattening.proofs.StillActs.{group_acts}
use Rattle.cx_flattening.proofs.FlatLists.{island_length}
use Rattle.cx_flattening.proofs.FlatTurns.{flat_turn}
use Rattle.cx_flattening.proofs.FlatIslands.{form_length-like, spots_all, lengths, known_input, agree_now, acts_now, turn_now}
use Rattle.cx_profiling.specs.Counting.{made_with, count_island}
use Rattle.cx_profiling.specs.WholeCounting.{done_with, whole_count_from, count_whole_island}
use Rattle.cx_profiling.specs.FlatEntries.{invokes_of}
use Rattle.cx_profiling.proofs.BareCounts.{nothing_done}
use Rattle.cx_profiling.proofs.FlatTotals.{lowered, lowered_kept, lowered_inner, lowered_copies, told, told_own, told_below, told_plus, told_none, told_same, IsThere, child_there}
use Rattle.cx_profiling.proofs.FlatMade.{does_inside, AllInside, made, made_done, told_made}

-- one tally counts of a group of the tree what another, of the flat instance, says of it
abbrev pub Tells : Instance → Path → ℕ → Tally → Tally → Type 0
Tells i path g one other = one path g ≡ told i other path g

pub none_tells : (i : Instance) (path : Path) (g : ℕ) → Tells i path g none none
none_tells i path g = sym (told_none i path g)

pub plus_tells : (i : Instance) (path : Path) (g : ℕ) (a b x y : Tally) → Tells i path g a x → Tells i path g b y → Tells i path g (plus a b) (plus x y)
plus_tells i path g a b x y h k = ap (λ n. n + b path g) h ∙ ap (λ n. told i x path g + n) k ∙ sym (told_plus i x y path g)

-- A TURN, and what comes after it
pub turn_tells : (i : Instance) (path : Path) (g : ℕ) (x y : Turn State Fault) (one other : Tally) (go more : State → Tally) → TurnAs i x y → Tells i path g one other
    → ((a b : State) → Stands i 0 a b → Tells i path g (go a) (more b))
    → Tells i path g (turn_count x (λ after. plus one (go after))) (turn_count y (λ after. plus other (more after)))
turn_tells i path g Ends y one other go more h same later =
    subst (λ t. Tells i path g none (turn_count t (λ after. plus other (more after)))) (sym h) (none_tells i path g)
turn_tells i path g (Goes a) y one other go more h same later =
    subst (λ t. Tells i path g (plus one (go a)) (turn_count t (λ after. plus other (more after)))) (sym h.1)
    (plus_tells i path g one (go a) other (more h.0) same (later a h.0 h.2))
turn_tells i path g (answers.Faults f) y one other go more h same later =
    subst (λ t. Tells i path g none (turn_count t (λ after. plus other (more after)))) (sym h) (none_tells i path g)

-- A GROUP, turn by turn
group_made : (h : ℕ) (path : Path) (g : ℕ) → made (group h) [] path g ≡ made_with (group h) path g
group_made h [] g = refl
group_made h (c ∷ path) g = nothing_done path g

module _ (i flat : Instance) (held : Held) (h : ℕ) (its : IsGroupBeside i flat (Some h)) (path : Path) (g : ℕ) (there : IsThere i path g) where
  made_tells : Tells i path g (made_with (group h)) (made_with (group h))
  made_tells = sym (told_made i (group h) (group h) [] (group_acts i h (its.there h refl)) tt path g there ∙ group_made h path g)

  pub group_tells : (n : ℕ) (s z : State) → Stands i 0 s z
      → Tells i path g (turns_count (group_turn i held h) (made_with (group h)) s n) (turns_count (calls.group_turn flat held h) (made_with (group h)) z n)
  group_tells zero s z stands = none_tells i path g
  group_tells (suc n) s z stands =
      turn_tells i path g (group_turn i held h s) (calls.group_turn flat held h z) (made_with (group h)) (made_with (group h))
      (λ after. turns_count (group_turn i held h) (made_with (group h)) after n) (λ after. turns_count (calls.group_turn flat held h) (made_with (group h)) after n)
      (flat_turn i flat held h s z (its.there h refl) its.flattened its.fair stands its.no_circle) made_tells
      (λ a b stand. group_tells n a b stand)

-- AN ISLAND
module _ (i flat : Instance) (form : PlainForm) (held : Held) (its : IsIsland i flat form) (path : Path) (g : ℕ) (there : IsThere i path g) where
  abbrev list : List Event
  list = island_events i form

  abbrev flat_list : List Occurrence
  flat_list = form_flat (part_of flat) (flat_form (flat_kids (cells_of i)) (part_of i) form) 0 []

  -- the samples of a cycle, with those before it
  abbrev sampled : History → ℕ → State → History
  sampled h t s = and_now h t (look_below i held s)

  abbrev flat_sampled : islands.History → ℕ → State → islands.History
  flat_sampled k t z = islands.and_now k t (seen flat held nothing z)

  abbrev counts_from : ℕ → ℕ → History → Counted State
  counts_from left t h = whole_count_from i held list left t h

  abbrev flat_counts_from : ℕ → ℕ → islands.History → Counted State
  flat_counts_from left t k = island_count_from (λ es. made_with (entries es)) flat held flat_list left t k

  module _ (s z : State) (stands : Stands i 0 s z) (h : History) (k : islands.History) (t : ℕ) (agree : AgreesAt h k i 0 [])
      (inputs : (m u : ℕ) → k (ports.Input m) u ≡ h (spot [] (ports.Input m)) u) where
    inside : AllInside i (deeds_in (sampled h t s) t list)
    inside = does_inside (island_does (sampled h t s) t i form its.controlled its.static.timed)

    cycle_tells : Tells i path g (done_with (deeds_in (sampled h t s) t list)) (made_with (entries (active_in (flat_sampled k t z) t flat_list)))
    cycle_tells =
        sym (told_made i (entries (own_entries (deeds_in (sampled h t s) t list))) (entries (active_in (flat_sampled k t z) t flat_list)) (deeds_in (sampled h t s) t list)
        (acts_now i flat form held its s z stands h k t agree inputs) inside path g there
        ∙ made_done (deeds_in (sampled h t s) t list) path g)

  from_tells : (left t : ℕ) (h : History) (k : islands.History) (s z : State) (n : ℕ) → Stands i 0 s z → AgreesAt h k i 0 []
      → ((m u : ℕ) → k (ports.Input m) u ≡ h (spot [] (ports.Input m)) u)
      → Tells i path g (counts_from left t h s n) (flat_counts_from left t k z n)
  from_tells zero t h k s z n stands agree inputs = none_tells i path g
  from_tells (suc left) t h k s z zero stands agree inputs = none_tells i path g
  from_tells (suc left) t h k s z (suc n) stands agree inputs =
      turn_tells i path g (whole_turn i held list t (sampled h t s) s) (island_turn flat held flat_list t (flat_sampled k t z) z)
      (done_with (deeds_in (sampled h t s) t list)) (made_with (entries (active_in (flat_sampled k t z) t flat_list)))
      (λ after. counts_from left (suc t) (sampled h t s) after n) (λ after. flat_counts_from left (suc t) (flat_sampled k t z) after n)
      (turn_now i flat form held its s z stands h k t agree inputs) (cycle_tells s z stands h k t agree inputs)
      (λ a b stand. from_tells left (suc t) (sampled h t s) (flat_sampled k t z) a b n stand (agree_now i flat form held its s z stands h k t agree inputs)
      (λ m u. (known_input i flat form held its s z stands h k t agree inputs m).0 u))

  pub island_tells : (s z : State) (n : ℕ) → Stands i 0 s z
      → Tells i path g (count_whole_island i held form s n) (count_island flat held (flat_form (flat_kids (cells_of i)) (part_of i) form) z n)
  island_tells s z n stands =
      subst (λ left. Tells i path g (count_whole_island i held form s n) (flat_counts_from left 0 islands.no_history z n))
      (sym (form_length-like (part_of flat) (flat_part i) (lengths i flat form held its) (flat_form (flat_kids (cells_of i)) (part_of i) form)
      ∙ island_length i form its.fair its.controlled its.static))
      (from_tells (form_lasts (part_of i) form) 0 no_history islands.no_history s z n stands (spots_all (SampledAlike no_history islands.no_history) (λ x q u. refl) i 0 [])
      (λ m u. refl))

-- A CALL of a dynamic child, which counts below its cell
none_sum : (js : List ℕ) → sum_by (λ j. 0) js ≡ 0
none_sum [] = refl
none_sum (j ∷ js) = let all = sum_by-cons (λ k. 0) j js in let later = none_sum js in omega (arith, all, later)

module _ (part : PlainComponent) (cells : Cells) (fair : IsFair (Node part cells)) (c : ℕ) (child : Instance) (at : cell_at cells c ≡ OfInstance child)
    (dynamic : is_static child ≡ false) (one other : Tally)
    (tells : (path : Path) (g : ℕ) → IsThere child path g → Tells child path g one other) where
  abbrev i : Instance
  i = Node part cells

  abbrev kids : Kids
  kids = flat_kids cells

  abbrev flat_tally : Tally
  flat_tally = below (kept_at kids c) other

  its_kept : kid_at kids c ≡ None
  its_kept = kid-dynamic cells c child at dynamic

  -- below another cell
  module _ (d : ℕ) (sibling : Instance) (stands : cell_at cells d ≡ OfInstance sibling) where
    same_child : nat_eq c d ≡ true → sibling ≡ child
    same_child e = instance_is sibling child (sym stands ∙ ap (cell_at cells) (sym (eqb-true c d e)) ∙ at)

    of_kept : is_static sibling ≡ false → (path : Path) (g : ℕ) → IsThere sibling path g → below c one (d ∷ path) g ≡ told sibling (lowered kids part d flat_tally) path g
    of_kept sibling_dynamic path g there = by (nat_eq c d) refl
      where
        place : nat_eq (kept_at kids c) (kept_at kids d) ≡ nat_eq c d
        place = kept_apart kids c d its_kept (kid-dynamic cells d sibling stands sibling_dynamic)

        low : (p : Path) (h : ℕ) → lowered kids part d flat_tally p h ≡ (if nat_eq c d then other p h else 0)
        low p h = lowered_kept kids part d flat_tally (kid-dynamic cells d sibling stands sibling_dynamic) p h ∙ ap (λ b. if b then other p h else 0) place

        by : (b : Bool) → nat_eq c d ≡ b → (if b then one path g else 0) ≡ told sibling (lowered kids part d flat_tally) path g
        by true same =
            subst (λ x. one path g ≡ told x other path g) (sym (same_child same)) (tells path g (subst (λ x. IsThere x path g) (same_child same) there))
            ∙ told_same sibling other (lowered kids part d flat_tally) (λ p h. sym (low p h ∙ ap (λ b. if b then other p h else 0) same)) path g
        by false apart =
            sym (told_none sibling path g) ∙ told_same sibling none (lowered kids part d flat_tally) (λ p h. sym (low p h ∙ ap (λ b. if b then other p h else 0) apart)) path g

    of_static : is_static sibling ≡ true → (path : Path) (g : ℕ) → below c one (d ∷ path) g ≡ told sibling (lowered kids part d flat_tally) path g
    of_static static path g = ap (λ b. if b then one path g else 0) elsewhere ∙ sym (told_none sibling path g) ∙ told_same sibling none (lowered kids part d flat_tally) low path g
      where
        kid : kid_at kids d ≡ Some (flat_part sibling)
        kid = kid-static cells d sibling stands static

        clash : nat_eq c d ≡ true → ⊥
        clash same = both_ways _ (ap is_static (same_child same) ∙ dynamic) static

        elsewhere : nat_eq c d ≡ false
        elsewhere = by (nat_eq c d) refl
          where
            by : (b : Bool) → nat_eq c d ≡ b → b ≡ false
            by true same = absurd (clash same)
            by false apart = refl

        copies : (b : Bool) (h : ℕ) → 0 ≡ (if b then sum_by (λ j. 0) (invokes_of d 0 part.invokes) else 0)
        copies true h = sym (none_sum (invokes_of d 0 part.invokes))
        copies false h = refl

        beyond : (e : ℕ) → nat_eq (kept_at kids c) (start_of kids part d + e) ≡ false
        beyond e = ne_eqb _ _ (λ same. let less = kept_less kids part.cells c (within_child i fair c child at) its_kept in absurd (omega (arith, less, same)))

        low : (p : Path) (h : ℕ) → 0 ≡ lowered kids part d flat_tally p h
        low [] h = copies (is_one_of h (groups_of (flat_part sibling).control)) h ∙ sym (lowered_copies kids part d flat_tally (flat_part sibling) kid h)
        low (e ∷ p) h = sym (lowered_inner kids part d flat_tally (flat_part sibling) kid e p h ∙ ap (λ b. if b then other p h else 0) (beyond e))

  pub below_tells : (path : Path) (g : ℕ) → IsThere i path g → Tells i path g (below c one) flat_tally
  below_tells [] g there = sym (told_own part cells flat_tally g)
  below_tells (d ∷ path) g there = of_child (child_there cells d path g there)
    where
      of_child : (sibling : Instance) × (cell_at cells d ≡ OfInstance sibling) × IsThere sibling path g → Tells i (d ∷ path) g (below c one) flat_tally
      of_child (sibling, stands, inner) = by (is_static sibling) refl ∙ sym (told_below part cells flat_tally d sibling stands path g)
        where
          by : (b : Bool) → is_static sibling ≡ b → below c one (d ∷ path) g ≡ told sibling (lowered kids part d flat_tally) path g
          by true static = of_static d sibling stands static path g
          by false sibling_dynamic = of_kept d sibling stands sibling_dynamic path g inner
