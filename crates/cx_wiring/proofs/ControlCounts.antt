-- How many drivers control has: eight for each statement at most, and those of its islands; what a sum over the timed statements of lowered
-- control is.
use Rattle.std.proofs.Common.{◌≡◌, inl, inr, ℕ, zero, suc, ◌+◌, ◌*◌, ◌≤◌, List, [], ◌∷◌, ◌++◌, length, Option, Some, None, slice_get, refl, ap, ◌∙◌, arith, length-append}
use Rattle.std.proofs.lemmas.List.{length-replicate}
use Rattle.cx_text.proofs.MemberLaws.{in_left, in_right}
use Rattle.cx_text.specs.declared.places.Place.{Place}
use Rattle.cx_meaning.specs.Designs.{PlainComponent, PlainForm, Empty, Enable, Seq, Par, If, While, Repeat, StaticSeq, StaticPar, StaticIf, StaticRepeat, Timed, PlainStatement, Placed, PlainStatements, no_statements, a_statement}
use Rattle.cx_meaning.specs.Islands.{group_length, form_length}
use Rattle.cx_text.specs.Members.{In}
use Rattle.cx_rules.specs.Items.{Dynamic, Visited, visit, visit_all}
use Rattle.cx_net.specs.Nets.{PlainNetDriver}
use Rattle.cx_static.specs.declared.islands.IslandTimer.{IslandTimer}
use Rattle.cx_static.specs.Islands.{PlainPoint, PlainOccurrence, PlainIsland}
use Rattle.cx_static.specs.Lowering.{island_gathered, island_of, Lowering, with_island, after_enable, lowered_enable, form_after, after, parts_after, lowered_form, lowered, lowered_parts}
use Rattle.cx_wiring.specs.Counts.{sample_registers, wires_of, registers_of}
use Rattle.cx_wiring.specs.Stands.{Stand, inside, past_test, behind}
use Rattle.cx_wiring.specs.IslandDrivers.{first_of_island, timer_drivers, point_drivers, occurrence_drivers, island_drivers}
use Rattle.cx_wiring.specs.Control.{comb_goes, timed_drivers, arm_stand, counted_inside, counting, whole_stand, finishing, form_drivers, drivers_of, parts_drivers, arms_drivers, control_drivers}
use Rattle.cx_wiring.proofs.CountLaws.{samples_at, samples_in}
use Rattle.cx_wiring.proofs.FitLemmas.{slice_right}
use Rattle.cx_wiring.proofs.LoweringCounts.{total, total-append}
use Rattle.cx_text.proofs.ListLaws.{front}

-- lengths of lists that are put together
suc_few : (m n : ℕ) → m ≤ n → suc m ≤ suc n
suc_few m n h = omega arith

both_few : (xs ys : List PlainNetDriver) (n m : ℕ) → length xs ≤ n → length ys ≤ m → length (xs ++ ys) ≤ n + m
both_few xs ys n m h k = omega (arith, length-append xs ys)

none_few : length {A = PlainNetDriver} [] ≤ 0
none_few = omega arith

abbrev pub of_option : (PlainIsland → ℕ) → Option PlainIsland → ℕ
of_option f None = 0
of_option f (Some island) = f island

-- a sum over the timed statements among these
module _ (f : PlainIsland → ℕ) (islands : List PlainIsland) where
  abbrev pub timed_at : PlainForm → ℕ
  timed_at (Timed k) = of_option f (slice_get islands k)
  timed_at other = 0

  abbrev pub timed_in : List Visited → ℕ
  timed_in [] = 0
  timed_in (v ∷ vs) = timed_at v.form + timed_in vs

  timed_in-append : (vs ws : List Visited) → timed_in (vs ++ ws) ≡ timed_in vs + timed_in ws
  timed_in-append [] ws = omega arith
  timed_in-append (v ∷ vs) ws = let h : timed_in (vs ++ ws) ≡ timed_in vs + timed_in ws = timed_in-append vs ws in omega arith

-- no statement among these is timed
abbrev pub Untimed : List Visited → Type 0
Untimed vs = (v : Visited) → In vs v → (k : ℕ) → v.form ≡ Timed k → ⊥

untimed_first : (vs more : List Visited) → Untimed (vs ++ more) → Untimed vs
untimed_first vs more bare v i = bare v (in_left vs more v i)

untimed_rest : (vs more : List Visited) → Untimed (vs ++ more) → Untimed more
untimed_rest vs more bare v i = bare v (in_right vs more v i)

abbrev pub Before : List PlainIsland → List PlainIsland → Type 0
Before xs ys = (n : ℕ) (x : PlainIsland) → slice_get xs n ≡ Some x → slice_get ys n ≡ Some x

-- LOWERED CONTROL has each of its islands once
module _ (part : PlainComponent) where
  island_kept : (form : PlainForm) (l : Lowering) → Before l.islands (with_island part form l).islands
  island_kept form l n x e = front l.islands (island_of (form_length part form) (island_gathered part form l.cells) ∷ []) n x e

  enable_kept : (g : ℕ) (o : Option ℕ) (l : Lowering) → Before l.islands (after_enable part g o l).islands
  enable_kept g None l n x e = e
  enable_kept g (Some m) l n x e = island_kept (Enable g) l n x e

  mutual
    form_kept : (form : PlainForm) (l : Lowering) → Before l.islands (form_after part form l).islands
    form_kept Empty l n x e = e
    form_kept (Enable g) l n x e = enable_kept g (group_length part g) l n x e
    form_kept (Seq parts) l n x e = parts_kept parts l n x e
    form_kept (Par arms) l n x e = parts_kept arms l n x e
    form_kept (If test comb a b) l n x e = islands_kept b (after part a l) n x (islands_kept a l n x e)
    form_kept (While test comb a) l n x e = islands_kept a l n x e
    form_kept (Repeat count a) l n x e = islands_kept a l n x e
    form_kept (StaticSeq written parts) l n x e = island_kept (StaticSeq written parts) l n x e
    form_kept (StaticPar written arms) l n x e = island_kept (StaticPar written arms) l n x e
    form_kept (StaticIf written test a b) l n x e = island_kept (StaticIf written test a b) l n x e
    form_kept (StaticRepeat written count a) l n x e = island_kept (StaticRepeat written count a) l n x e
    form_kept (Timed k) l n x e = e

    islands_kept : (s : PlainStatement) (l : Lowering) → Before l.islands (after part s l).islands
    islands_kept (Placed form place) l n x e = form_kept form l n x e

    parts_kept : (ss : PlainStatements) (l : Lowering) → Before l.islands (parts_after part ss l).islands
    parts_kept no_statements l n x e = e
    parts_kept (a_statement s ss) l n x e = parts_kept ss (after part s l) n x (islands_kept s l n x e)

  module _ (f : PlainIsland → ℕ) where
    island_total : (form : PlainForm) (l : Lowering) (I : List PlainIsland) → Before (with_island part form l).islands I → of_option f (slice_get I (length l.islands)) + total f l.islands ≡ total f (with_island part form l).islands
    island_total form l I before =
        let i : PlainIsland = island_of (form_length part form) (island_gathered part form l.cells) in
        let same : length l.islands ≡ length l.islands + 0 = omega arith in
        let there : slice_get (l.islands ++ i ∷ []) (length l.islands) ≡ Some i = ap (slice_get (l.islands ++ i ∷ [])) same ∙ slice_right l.islands (i ∷ []) 0 in
        let is : of_option f (slice_get I (length l.islands)) ≡ f i = ap (of_option f) (before (length l.islands) i there) in
        let all : total f (l.islands ++ i ∷ []) ≡ total f l.islands + (f i + 0) = total-append f l.islands (i ∷ []) in
        omega arith

    enable_total : (g : ℕ) (place : Place) (o : Option ℕ) (l : Lowering) (I : List PlainIsland) → Before (after_enable part g o l).islands I
        → timed_in f I (visit Dynamic (Placed (lowered_enable part g o l) place)) + total f l.islands ≡ total f (after_enable part g o l).islands
    enable_total g place None l I before = omega arith
    enable_total g place (Some n) l I before = let h : of_option f (slice_get I (length l.islands)) + total f l.islands ≡ total f (with_island part (Enable g) l).islands = island_total (Enable g) l I before in omega arith

    mutual
      form_total : (form : PlainForm) (place : Place) (l : Lowering) (I : List PlainIsland) → Untimed (visit Dynamic (Placed form place)) → Before (form_after part form l).islands I
          → timed_in f I (visit Dynamic (Placed (lowered_form part form l) place)) + total f l.islands ≡ total f (form_after part form l).islands
      form_total Empty place l I bare before = omega arith
      form_total (Enable g) place l I bare before = enable_total g place (group_length part g) l I before
      form_total (Seq parts) place l I bare before = let h : timed_in f I (visit_all Dynamic (lowered_parts part parts l)) + total f l.islands ≡ total f (parts_after part parts l).islands = parts_total parts l I (λ v i. bare v (inr i)) before in omega arith
      form_total (Par arms) place l I bare before = let h : timed_in f I (visit_all Dynamic (lowered_parts part arms l)) + total f l.islands ≡ total f (parts_after part arms l).islands = parts_total arms l I (λ v i. bare v (inr i)) before in omega arith
      form_total (If test comb a b) place l I bare before =
          let first : timed_in f I (visit Dynamic (lowered part a l)) + total f l.islands ≡ total f (after part a l).islands = lowered_total a l I (untimed_first (visit Dynamic a) (visit Dynamic b) (λ v i. bare v (inr i))) (λ n x e. before n x (islands_kept b (after part a l) n x e)) in
          let second : timed_in f I (visit Dynamic (lowered part b (after part a l))) + total f (after part a l).islands ≡ total f (after part b (after part a l)).islands = lowered_total b (after part a l) I (untimed_rest (visit Dynamic a) (visit Dynamic b) (λ v i. bare v (inr i))) before in
          let both : timed_in f I (visit Dynamic (lowered part a l) ++ visit Dynamic (lowered part b (after part a l))) ≡ timed_in f I (visit Dynamic (lowered part a l)) + timed_in f I (visit Dynamic (lowered part b (after part a l))) =
          timed_in-append f I (visit Dynamic (lowered part a l)) (visit Dynamic (lowered part b (after part a l))) in
          omega arith
      form_total (While test comb a) place l I bare before = let h : timed_in f I (visit Dynamic (lowered part a l)) + total f l.islands ≡ total f (after part a l).islands = lowered_total a l I (λ v i. bare v (inr i)) before in omega arith
      form_total (Repeat count a) place l I bare before = let h : timed_in f I (visit Dynamic (lowered part a l)) + total f l.islands ≡ total f (after part a l).islands = lowered_total a l I (λ v i. bare v (inr i)) before in omega arith
      form_total (StaticSeq written parts) place l I bare before =
          let h : of_option f (slice_get I (length l.islands)) + total f l.islands ≡ total f (with_island part (StaticSeq written parts) l).islands = island_total (StaticSeq written parts) l I before in
          omega arith
      form_total (StaticPar written arms) place l I bare before =
          let h : of_option f (slice_get I (length l.islands)) + total f l.islands ≡ total f (with_island part (StaticPar written arms) l).islands = island_total (StaticPar written arms) l I before in
          omega arith
      form_total (StaticIf written test a b) place l I bare before =
          let h : of_option f (slice_get I (length l.islands)) + total f l.islands ≡ total f (with_island part (StaticIf written test a b) l).islands = island_total (StaticIf written test a b) l I before in
          omega arith
      form_total (StaticRepeat written count a) place l I bare before =
          let h : of_option f (slice_get I (length l.islands)) + total f l.islands ≡ total f (with_island part (StaticRepeat written count a) l).islands = island_total (StaticRepeat written count a) l I before in
          omega arith
      form_total (Timed k) place l I bare before = absurd (bare (record { context = Dynamic; form = Timed k; place = place }) (inl refl) k refl)

      pub lowered_total : (s : PlainStatement) (l : Lowering) (I : List PlainIsland) → Untimed (visit Dynamic s) → Before (after part s l).islands I → timed_in f I (visit Dynamic (lowered part s l)) + total f l.islands ≡ total f (after part s l).islands
      lowered_total (Placed form place) l I bare before = form_total form place l I bare before

      parts_total : (ss : PlainStatements) (l : Lowering) (I : List PlainIsland) → Untimed (visit_all Dynamic ss) → Before (parts_after part ss l).islands I → timed_in f I (visit_all Dynamic (lowered_parts part ss l)) + total f l.islands ≡ total f (parts_after part ss l).islands
      parts_total no_statements l I bare before = omega arith
      parts_total (a_statement s ss) l I bare before =
          let first : timed_in f I (visit Dynamic (lowered part s l)) + total f l.islands ≡ total f (after part s l).islands = lowered_total s l I (untimed_first (visit Dynamic s) (visit_all Dynamic ss) bare) (λ n x e. before n x (parts_kept ss (after part s l) n x e)) in
          let second : timed_in f I (visit_all Dynamic (lowered_parts part ss (after part s l))) + total f (after part s l).islands ≡ total f (parts_after part ss (after part s l)).islands = parts_total ss (after part s l) I (untimed_rest (visit Dynamic s) (visit_all Dynamic ss) bare) before in
          let both : timed_in f I (visit Dynamic (lowered part s l) ++ visit_all Dynamic (lowered_parts part ss (after part s l))) ≡ timed_in f I (visit Dynamic (lowered part s l)) + timed_in f I (visit_all Dynamic (lowered_parts part ss (after part s l))) =
          timed_in-append f I (visit Dynamic (lowered part s l)) (visit_all Dynamic (lowered_parts part ss (after part s l))) in
          omega arith

-- SAMPLES are points
sample_count : (o : Option PlainIsland) → length (sample_registers o) ≡ of_option (λ i. length i.points) o
sample_count None = refl
sample_count (Some island) = length-replicate (length island.points) 1

module _ (islands : List PlainIsland) where
  form_samples : (form : PlainForm) → samples_at islands form ≡ timed_at (λ i. length i.points) islands form
  form_samples Empty = refl
  form_samples (Enable g) = refl
  form_samples (Seq parts) = refl
  form_samples (Par arms) = refl
  form_samples (If test comb a b) = refl
  form_samples (While test comb a) = refl
  form_samples (Repeat count a) = refl
  form_samples (StaticSeq written parts) = refl
  form_samples (StaticPar written arms) = refl
  form_samples (StaticIf written test a b) = refl
  form_samples (StaticRepeat written count a) = refl
  form_samples (Timed k) = sample_count (slice_get islands k)

  pub samples_are : (vs : List Visited) → samples_in islands vs ≡ timed_in (λ i. length i.points) islands vs
  samples_are [] = refl
  samples_are (v ∷ vs) =
      let own : samples_at islands v.form ≡ timed_at (λ i. length i.points) islands v.form = form_samples v.form in
      let rest : samples_in islands vs ≡ timed_in (λ i. length i.points) islands vs = samples_are vs in
      omega arith

-- DRIVERS of an island beside that of its statement's position
abbrev pub island_count : PlainIsland → ℕ
island_count i = suc (2 * length i.timers + 4 * length i.points + 3 * length i.occurrences)

module _ (groups : ℕ) where
  module _ (x : Stand) (first : ℕ) (island : PlainIsland) where
    timers_count : (t : ℕ) (rest : List IslandTimer) → length (timer_drivers groups x first island t rest) ≡ 2 * length rest
    timers_count t [] = omega arith
    timers_count t (timer ∷ rest) = let h : length (timer_drivers groups x first island (suc t) rest) ≡ 2 * length rest = timers_count (suc t) rest in omega arith

    points_count : (n : ℕ) (rest : List PlainPoint) → length (point_drivers groups x first island n rest) ≡ 4 * length rest
    points_count n [] = omega arith
    points_count n (p ∷ rest) = let h : length (point_drivers groups x first island (suc n) rest) ≡ 4 * length rest = points_count (suc n) rest in omega arith

    occurrences_count : (n : ℕ) (rest : List PlainOccurrence) → length (occurrence_drivers groups x first island n rest) ≡ 3 * length rest
    occurrences_count n [] = omega arith
    occurrences_count n (o ∷ rest) = let h : length (occurrence_drivers groups x first island (suc n) rest) ≡ 3 * length rest = occurrences_count (suc n) rest in omega arith

    island_drivers_count : length (island_drivers groups x first island) ≤ island_count island
    island_drivers_count =
        let t : length (timer_drivers groups x first island 0 island.timers) ≡ 2 * length island.timers = timers_count 0 island.timers in
        let p : length (point_drivers groups x first island 0 island.points) ≡ 4 * length island.points = points_count 0 island.points in
        let o : length (occurrence_drivers groups x first island 0 island.occurrences) ≡ 3 * length island.occurrences = occurrences_count 0 island.occurrences in
        let later : length (point_drivers groups x first island 0 island.points ++ occurrence_drivers groups x first island 0 island.occurrences)
        ≡ length (point_drivers groups x first island 0 island.points) + length (occurrence_drivers groups x first island 0 island.occurrences) =
        length-append (point_drivers groups x first island 0 island.points) (occurrence_drivers groups x first island 0 island.occurrences) in
        let all : length (timer_drivers groups x first island 0 island.timers ++ (point_drivers groups x first island 0 island.points ++ occurrence_drivers groups x first island 0 island.occurrences))
        ≡ length (timer_drivers groups x first island 0 island.timers) + length (point_drivers groups x first island 0 island.points ++ occurrence_drivers groups x first island 0 island.occurrences) =
        length-append (timer_drivers groups x first island 0 island.timers) (point_drivers groups x first island 0 island.points ++ occurrence_drivers groups x first island 0 island.occurrences) in
        omega arith

  module _ (islands : List PlainIsland) where
    abbrev timed : List Visited → ℕ
    timed = timed_in island_count islands

    comb_count : (x : Stand) (comb : Option ℕ) → length (comb_goes groups islands x comb) ≤ 1
    comb_count x None = omega arith
    comb_count x (Some g) = omega arith

    timed_count : (x : Stand) (k : ℕ) (o : Option PlainIsland) → length (timed_drivers groups islands x k o) ≤ of_option island_count o
    timed_count x k None = omega arith
    timed_count x k (Some island) = island_drivers_count x (first_of_island groups islands k) island

    mutual
      form_count : (form : PlainForm) (place : Place) (x : Stand) → 2 + length (form_drivers groups islands x form) ≤ 8 * length (visit Dynamic (Placed form place)) + timed (visit Dynamic (Placed form place))
      form_count Empty place x = omega arith
      form_count (Enable g) place x = omega arith
      form_count (Seq no_statements) place x = omega arith
      form_count (Seq (a_statement s ss)) place x =
          let own : 2 + length (drivers_of groups islands (inside x) s) ≤ 8 * length (visit Dynamic s) + timed (visit Dynamic s) = drivers_count s (inside x) in
          let rest : length (parts_drivers groups islands x (inside x).wire (behind islands s (inside x)) ss) ≤ 8 * length (visit_all Dynamic ss) + timed (visit_all Dynamic ss) + 1 = parts_count ss x (inside x).wire (behind islands s (inside x)) in
          let visits : length (visit Dynamic s ++ visit_all Dynamic ss) ≡ length (visit Dynamic s) + length (visit_all Dynamic ss) = length-append (visit Dynamic s) (visit_all Dynamic ss) in
          let sums : timed (visit Dynamic s ++ visit_all Dynamic ss) ≡ timed (visit Dynamic s) + timed (visit_all Dynamic ss) = timed_in-append island_count islands (visit Dynamic s) (visit_all Dynamic ss) in
          let all : length (drivers_of groups islands (inside x) s ++ parts_drivers groups islands x (inside x).wire (behind islands s (inside x)) ss)
          ≡ length (drivers_of groups islands (inside x) s) + length (parts_drivers groups islands x (inside x).wire (behind islands s (inside x)) ss) =
          length-append (drivers_of groups islands (inside x) s) (parts_drivers groups islands x (inside x).wire (behind islands s (inside x)) ss) in
          omega arith
      form_count (Par arms) place x =
          let h : length (arms_drivers groups islands x (suc (suc x.wire)) x.register arms) ≤ 8 * length (visit_all Dynamic arms) + timed (visit_all Dynamic arms) = arms_count arms x (suc (suc x.wire)) x.register in
          let all : length (form_drivers groups islands x (Par arms)) ≤ suc (8 * length (visit_all Dynamic arms) + timed (visit_all Dynamic arms) + 1) =
          suc_few _ (8 * length (visit_all Dynamic arms) + timed (visit_all Dynamic arms) + 1)
          (both_few (arms_drivers groups islands x (suc (suc x.wire)) x.register arms) _ (8 * length (visit_all Dynamic arms) + timed (visit_all Dynamic arms)) 1 h (suc_few _ 0 none_few)) in
          omega arith
      form_count (If test comb a b) place x =
          let first : 2 + length (drivers_of groups islands (past_test x) a) ≤ 8 * length (visit Dynamic a) + timed (visit Dynamic a) = drivers_count a (past_test x) in
          let second : 2 + length (drivers_of groups islands (behind islands a (past_test x)) b) ≤ 8 * length (visit Dynamic b) + timed (visit Dynamic b) = drivers_count b (behind islands a (past_test x)) in
          let tested : length (comb_goes groups islands x comb) ≤ 1 = comb_count x comb in
          let visits : length (visit Dynamic a ++ visit Dynamic b) ≡ length (visit Dynamic a) + length (visit Dynamic b) = length-append (visit Dynamic a) (visit Dynamic b) in
          let sums : timed (visit Dynamic a ++ visit Dynamic b) ≡ timed (visit Dynamic a) + timed (visit Dynamic b) = timed_in-append island_count islands (visit Dynamic a) (visit Dynamic b) in
          let na : length (drivers_of groups islands (past_test x) a) ≤ length (drivers_of groups islands (past_test x) a) = omega arith in
          let nb : length (drivers_of groups islands (behind islands a (past_test x)) b) ≤ length (drivers_of groups islands (behind islands a (past_test x)) b) = omega arith in
          let all : length (form_drivers groups islands x (If test comb a b))
          ≤ suc (1 + suc (length (drivers_of groups islands (past_test x) a) + suc (length (drivers_of groups islands (behind islands a (past_test x)) b) + 1))) =
          suc_few _ (1 + suc (length (drivers_of groups islands (past_test x) a) + suc (length (drivers_of groups islands (behind islands a (past_test x)) b) + 1)))
          (both_few (comb_goes groups islands x comb) _ 1 (suc (length (drivers_of groups islands (past_test x) a) + suc (length (drivers_of groups islands (behind islands a (past_test x)) b) + 1))) tested
          (suc_few _ (length (drivers_of groups islands (past_test x) a) + suc (length (drivers_of groups islands (behind islands a (past_test x)) b) + 1))
          (both_few (drivers_of groups islands (past_test x) a) _ (length (drivers_of groups islands (past_test x) a)) (suc (length (drivers_of groups islands (behind islands a (past_test x)) b) + 1)) na
          (suc_few _ (length (drivers_of groups islands (behind islands a (past_test x)) b) + 1)
          (both_few (drivers_of groups islands (behind islands a (past_test x)) b) _ (length (drivers_of groups islands (behind islands a (past_test x)) b)) 1 nb (suc_few _ 0 none_few)))))) in
          omega arith
      form_count (While test comb a) place x =
          let first : 2 + length (drivers_of groups islands (past_test x) a) ≤ 8 * length (visit Dynamic a) + timed (visit Dynamic a) = drivers_count a (past_test x) in
          let tested : length (comb_goes groups islands x comb) ≤ 1 = comb_count x comb in
          let na : length (drivers_of groups islands (past_test x) a) ≤ length (drivers_of groups islands (past_test x) a) = omega arith in
          let all : length (form_drivers groups islands x (While test comb a)) ≤ suc (1 + suc (suc (length (drivers_of groups islands (past_test x) a) + 1))) =
          suc_few _ (1 + suc (suc (length (drivers_of groups islands (past_test x) a) + 1)))
          (both_few (comb_goes groups islands x comb) _ 1 (suc (suc (length (drivers_of groups islands (past_test x) a) + 1))) tested
          (suc_few _ (suc (length (drivers_of groups islands (past_test x) a) + 1))
          (suc_few _ (length (drivers_of groups islands (past_test x) a) + 1)
          (both_few (drivers_of groups islands (past_test x) a) _ (length (drivers_of groups islands (past_test x) a)) 1 na (suc_few _ 0 none_few))))) in
          omega arith
      form_count (Repeat zero a) place x = omega arith
      form_count (Repeat (suc n) a) place x =
          let first : 2 + length (drivers_of groups islands (counted_inside x) a) ≤ 8 * length (visit Dynamic a) + timed (visit Dynamic a) = drivers_count a (counted_inside x) in
          omega (arith, length-append (drivers_of groups islands (counted_inside x) a) (counting x n))
      form_count (StaticSeq written parts) place x = omega arith
      form_count (StaticPar written arms) place x = omega arith
      form_count (StaticIf written test a b) place x = omega arith
      form_count (StaticRepeat written count a) place x = omega arith
      form_count (Timed k) place x = let h : length (timed_drivers groups islands x k (slice_get islands k)) ≤ of_option island_count (slice_get islands k) = timed_count x k (slice_get islands k) in omega arith

      drivers_count : (s : PlainStatement) (x : Stand) → 2 + length (drivers_of groups islands x s) ≤ 8 * length (visit Dynamic s) + timed (visit Dynamic s)
      drivers_count (Placed form place) x = form_count form place x

      parts_count : (ss : PlainStatements) (seq : Stand) (before : ℕ) (x : Stand) → length (parts_drivers groups islands seq before x ss) ≤ 8 * length (visit_all Dynamic ss) + timed (visit_all Dynamic ss) + 1
      parts_count no_statements seq before x = omega arith
      parts_count (a_statement s ss) seq before x =
          let own : 2 + length (drivers_of groups islands x s) ≤ 8 * length (visit Dynamic s) + timed (visit Dynamic s) = drivers_count s x in
          let rest : length (parts_drivers groups islands seq x.wire (behind islands s x) ss) ≤ 8 * length (visit_all Dynamic ss) + timed (visit_all Dynamic ss) + 1 = parts_count ss seq x.wire (behind islands s x) in
          let visits : length (visit Dynamic s ++ visit_all Dynamic ss) ≡ length (visit Dynamic s) + length (visit_all Dynamic ss) = length-append (visit Dynamic s) (visit_all Dynamic ss) in
          let sums : timed (visit Dynamic s ++ visit_all Dynamic ss) ≡ timed (visit Dynamic s) + timed (visit_all Dynamic ss) = timed_in-append island_count islands (visit Dynamic s) (visit_all Dynamic ss) in
          let all : length (drivers_of groups islands x s ++ parts_drivers groups islands seq x.wire (behind islands s x) ss) ≡ length (drivers_of groups islands x s) + length (parts_drivers groups islands seq x.wire (behind islands s x) ss) =
          length-append (drivers_of groups islands x s) (parts_drivers groups islands seq x.wire (behind islands s x) ss) in
          omega arith

      arms_count : (ss : PlainStatements) (par : Stand) (wire register : ℕ) → length (arms_drivers groups islands par wire register ss) ≤ 8 * length (visit_all Dynamic ss) + timed (visit_all Dynamic ss)
      arms_count no_statements par wire register = omega arith
      arms_count (a_statement s ss) par wire register =
          let own : 2 + length (drivers_of groups islands (arm_stand par wire register) s) ≤ 8 * length (visit Dynamic s) + timed (visit Dynamic s) = drivers_count s (arm_stand par wire register) in
          let rest : length (arms_drivers groups islands par (wire + wires_of s) (suc register + length (registers_of islands s)) ss) ≤ 8 * length (visit_all Dynamic ss) + timed (visit_all Dynamic ss) =
          arms_count ss par (wire + wires_of s) (suc register + length (registers_of islands s)) in
          let visits : length (visit Dynamic s ++ visit_all Dynamic ss) ≡ length (visit Dynamic s) + length (visit_all Dynamic ss) = length-append (visit Dynamic s) (visit_all Dynamic ss) in
          let sums : timed (visit Dynamic s ++ visit_all Dynamic ss) ≡ timed (visit Dynamic s) + timed (visit_all Dynamic ss) = timed_in-append island_count islands (visit Dynamic s) (visit_all Dynamic ss) in
          let n : length (drivers_of groups islands (arm_stand par wire register) s) ≤ length (drivers_of groups islands (arm_stand par wire register) s) = omega arith in
          let all : length (arms_drivers groups islands par wire register (a_statement s ss))
          ≤ suc (length (drivers_of groups islands (arm_stand par wire register) s) + suc (8 * length (visit_all Dynamic ss) + timed (visit_all Dynamic ss))) =
          suc_few _ (length (drivers_of groups islands (arm_stand par wire register) s) + suc (8 * length (visit_all Dynamic ss) + timed (visit_all Dynamic ss)))
          (both_few (drivers_of groups islands (arm_stand par wire register) s) _ (length (drivers_of groups islands (arm_stand par wire register) s)) (suc (8 * length (visit_all Dynamic ss) + timed (visit_all Dynamic ss))) n
          (suc_few _ (8 * length (visit_all Dynamic ss) + timed (visit_all Dynamic ss)) rest)) in
          omega arith

    -- THE DRIVERS OF CONTROL
    pub control_count : (wire : ℕ) (s : PlainStatement) → length (control_drivers groups islands wire s) ≤ 8 * length (visit Dynamic s) + timed (visit Dynamic s) + 1
    control_count wire s =
        let h : 2 + length (drivers_of groups islands (whole_stand wire) s) ≤ 8 * length (visit Dynamic s) + timed (visit Dynamic s) = drivers_count s (whole_stand wire) in
        let all : length (drivers_of groups islands (whole_stand wire) s ++ finishing wire s) ≡ length (drivers_of groups islands (whole_stand wire) s) + length (finishing wire s) = length-append (drivers_of groups islands (whole_stand wire) s) (finishing wire s) in
        let three : length (finishing wire s) ≡ 3 = refl in
        omega arith
