-- What the drivers of control cost: 1,024 for each statement at most, and of an island what its timers, points and occurrences cost, but for
-- 167, which its statement pays.
use Rattle.std.proofs.Common.{◌≡◌, ℕ, zero, suc, ◌+◌, ◌-◌, ◌*◌, ◌≤◌, Bool, true, false, List, [], ◌∷◌, ◌++◌, map, length, Option, Some, None, refl, arith, length-append}
use Rattle.std.specs.Prelude.{slice_get}
use Rattle.cx_text.specs.declared.places.Place.{Place}
use Rattle.cx_meaning.specs.Designs.{PlainForm, Empty, Enable, Seq, Par, If, While, Repeat, StaticSeq, StaticPar, StaticIf, StaticRepeat, Timed, PlainStatement, Placed, PlainStatements, no_statements, a_statement}
use Rattle.cx_rules.specs.Items.{Dynamic, Visited, visit, visit_all}
use Rattle.cx_net.specs.Nets.{AllOf, exprs_of, PlainNetDriver}
use Rattle.cx_static.specs.declared.islands.Sample.{Sample}
use Rattle.cx_static.specs.declared.islands.IslandTimer.{IslandTimer}
use Rattle.cx_static.specs.Islands.{PlainPoint, PlainOccurrence, PlainIsland}
use Rattle.cx_wiring.specs.Counts.{wires_of, registers_of}
use Rattle.cx_wiring.specs.Parts.{both, either}
use Rattle.cx_wiring.specs.Stands.{Stand, at, end_of, stands, ends, goes, inside, past_test, behind}
use Rattle.cx_wiring.specs.IslandDrivers.{first_of_island, island_done, timer_runs, timer_drivers, as_wanted, point_drivers, occurrence_drivers, island_drivers}
use Rattle.cx_wiring.specs.Control.{found_one, found_zero, arms_over, arm_finishes, comb_goes, timed_drivers, arm_stand, counted_inside, counting, whole_stand, finishing, form_drivers, drivers_of, parts_drivers, arms_drivers, control_drivers}
use Rattle.cx_wiring.proofs.ControlCounts.{of_option, timed_in}
use Rattle.cx_emitted.proofs.NetBytes.{expr_cost, exprs_cost, driver_cost, drivers_cost, drivers_cost-append, one_more, both_cost, no_cost}

-- AN ISLAND: its timers, and what it looks at to see where a static if begins and where a group is active
abbrev pub points_cost : List PlainPoint → ℕ
points_cost [] = 0
points_cost (p ∷ rest) = 1156 + 76 * length p.samples + points_cost rest

abbrev pub occurrences_cost : List PlainOccurrence → ℕ
occurrences_cost [] = 0
occurrences_cost (o ∷ rest) = 703 + 19 * length o.samples + occurrences_cost rest

abbrev pub island_cost : PlainIsland → ℕ
island_cost i = (506 * length i.timers + (points_cost i.points + occurrences_cost i.occurrences)) - 167

module _ (groups : ℕ) where
  module _ (x : Stand) (first : ℕ) (island : PlainIsland) where
    wanted_cost : (s : Sample) → expr_cost (as_wanted groups x first island s) ≤ 19
    wanted_cost s = by s.wanted
      where
        by : (b : Bool) → expr_cost (as_wanted groups x first island (record { point = s.point; wanted = b })) ≤ 19
        by true = omega arith
        by false = omega arith

    samples_cost : (ss : List Sample) → exprs_cost (exprs_of (map (as_wanted groups x first island) ss)) ≤ 19 * length ss
    samples_cost [] = omega arith
    samples_cost (s ∷ ss) =
        let own : expr_cost (as_wanted groups x first island s) ≤ 19 = wanted_cost s in
        let rest : exprs_cost (exprs_of (map (as_wanted groups x first island) ss)) ≤ 19 * length ss = samples_cost ss in
        omega arith

    runs_cost : (cell : ℕ) (outer : Option ℕ) (from to : ℕ) → expr_cost (timer_runs groups x first island cell outer from to) ≤ 186
    runs_cost cell None from to = omega arith
    runs_cost cell (Some outer) from to = omega arith

    timers_cost : (t : ℕ) (rest : List IslandTimer) → drivers_cost (timer_drivers groups x first island t rest) ≤ 506 * length rest
    timers_cost t [] = omega arith
    timers_cost t (timer ∷ rest) =
        let own : expr_cost (timer_runs groups x first island timer.cell timer.outer timer.from timer.to) ≤ 186 = runs_cost timer.cell timer.outer timer.from timer.to in
        let later : drivers_cost (timer_drivers groups x first island (suc t) rest) ≤ 506 * length rest = timers_cost (suc t) rest in
        omega arith

    points_drive : (n : ℕ) (rest : List PlainPoint) → drivers_cost (point_drivers groups x first island n rest) ≤ points_cost rest
    points_drive n [] = omega arith
    points_drive n (p ∷ rest) =
        let own : exprs_cost (exprs_of (map (as_wanted groups x first island) p.samples)) ≤ 19 * length p.samples = samples_cost p.samples in
        let later : drivers_cost (point_drivers groups x first island (suc n) rest) ≤ points_cost rest = points_drive (suc n) rest in
        omega arith

    occurrences_drive : (n : ℕ) (rest : List PlainOccurrence) → drivers_cost (occurrence_drivers groups x first island n rest) ≤ occurrences_cost rest
    occurrences_drive n [] = omega arith
    occurrences_drive n (o ∷ rest) =
        let own : exprs_cost (exprs_of (map (as_wanted groups x first island) o.samples)) ≤ 19 * length o.samples = samples_cost o.samples in
        let later : drivers_cost (occurrence_drivers groups x first island (suc n) rest) ≤ occurrences_cost rest = occurrences_drive (suc n) rest in
        omega arith

    island_drives : drivers_cost (island_drivers groups x first island) ≤ 223 + (506 * length island.timers + (points_cost island.points + occurrences_cost island.occurrences))
    island_drives =
        let t : drivers_cost (timer_drivers groups x first island 0 island.timers) ≤ 506 * length island.timers = timers_cost 0 island.timers in
        let p : drivers_cost (point_drivers groups x first island 0 island.points) ≤ points_cost island.points = points_drive 0 island.points in
        let o : drivers_cost (occurrence_drivers groups x first island 0 island.occurrences) ≤ occurrences_cost island.occurrences = occurrences_drive 0 island.occurrences in
        let own : driver_cost (ends x (both (at x) (island_done groups x first island))) ≤ 223 = omega arith in
        one_more (ends x (both (at x) (island_done groups x first island))) _ 223 (506 * length island.timers + (points_cost island.points + occurrences_cost island.occurrences)) own
        (both_cost (timer_drivers groups x first island 0 island.timers) _ (506 * length island.timers) (points_cost island.points + occurrences_cost island.occurrences) t
        (both_cost (point_drivers groups x first island 0 island.points) _ (points_cost island.points) (occurrences_cost island.occurrences) p o))

  module _ (islands : List PlainIsland) where
    abbrev timed : List Visited → ℕ
    timed = timed_in island_cost islands

    timed_both : (vs ws : List Visited) → timed (vs ++ ws) ≡ timed vs + timed ws
    timed_both [] ws = omega arith
    timed_both (v ∷ vs) ws = let h : timed (vs ++ ws) ≡ timed vs + timed ws = timed_both vs ws in omega arith

    comb_cost : (x : Stand) (comb : Option ℕ) → drivers_cost (comb_goes groups islands x comb) ≤ 155
    comb_cost x None = omega arith
    comb_cost x (Some g) = omega arith

    timed_cost : (x : Stand) (k : ℕ) (o : Option PlainIsland) → drivers_cost (timed_drivers groups islands x k o) ≤ 399 + of_option island_cost o
    timed_cost x k None = omega arith
    timed_cost x k (Some island) =
        let h : drivers_cost (island_drivers groups x (first_of_island groups islands k) island) ≤ 223 + (506 * length island.timers + (points_cost island.points + occurrences_cost island.occurrences)) =
        island_drives x (first_of_island groups islands k) island in
        omega (arith, h)

    -- where the region acts by a wire or by the component's go
    abbrev ActsBriefly : Stand → Type 0
    ActsBriefly x = expr_cost x.acts ≤ 16

    mutual
      form_cost : (form : PlainForm) (place : Place) (x : Stand) → ActsBriefly x → 385 + drivers_cost (form_drivers groups islands x form) ≤ 1024 * length (visit Dynamic (Placed form place)) + timed (visit Dynamic (Placed form place))
      form_cost Empty place x brief = omega arith
      form_cost (Enable g) place x brief = omega arith
      form_cost (Seq no_statements) place x brief = omega arith
      form_cost (Seq (a_statement s ss)) place x brief =
          let own : 385 + drivers_cost (drivers_of groups islands (inside x) s) ≤ 1024 * length (visit Dynamic s) + timed (visit Dynamic s) = statement_cost s (inside x) brief in
          let rest : drivers_cost (parts_drivers groups islands x (inside x).wire (behind islands s (inside x)) ss) ≤ 1024 * length (visit_all Dynamic ss) + timed (visit_all Dynamic ss) + 181 = parts_cost ss x (inside x).wire (behind islands s (inside x)) brief in
          let visits : length (visit Dynamic s ++ visit_all Dynamic ss) ≡ length (visit Dynamic s) + length (visit_all Dynamic ss) = length-append (visit Dynamic s) (visit_all Dynamic ss) in
          let sums : timed (visit Dynamic s ++ visit_all Dynamic ss) ≡ timed (visit Dynamic s) + timed (visit_all Dynamic ss) = timed_both (visit Dynamic s) (visit_all Dynamic ss) in
          let all : drivers_cost (drivers_of groups islands (inside x) s ++ parts_drivers groups islands x (inside x).wire (behind islands s (inside x)) ss)
          ≡ drivers_cost (drivers_of groups islands (inside x) s) + drivers_cost (parts_drivers groups islands x (inside x).wire (behind islands s (inside x)) ss) =
          drivers_cost-append (drivers_of groups islands (inside x) s) (parts_drivers groups islands x (inside x).wire (behind islands s (inside x)) ss) in
          omega arith
      form_cost (Par arms) place x brief =
          let h : drivers_cost (arms_drivers groups islands x (suc (suc x.wire)) x.register arms) + exprs_cost (exprs_of (arms_over groups islands (suc (suc x.wire)) x.register arms)) ≤ 1024 * length (visit_all Dynamic arms) + timed (visit_all Dynamic arms) =
          arms_cost arms x (suc (suc x.wire)) x.register in
          omega (arith, drivers_cost-append (arms_drivers groups islands x (suc (suc x.wire)) x.register arms) (ends x (AllOf (exprs_of (at x ∷ arms_over groups islands (suc (suc x.wire)) x.register arms))) ∷ []))
      form_cost (If test comb a b) place x brief =
          let first : 385 + drivers_cost (drivers_of groups islands (past_test x) a) ≤ 1024 * length (visit Dynamic a) + timed (visit Dynamic a) = statement_cost a (past_test x) brief in
          let second : 385 + drivers_cost (drivers_of groups islands (behind islands a (past_test x)) b) ≤ 1024 * length (visit Dynamic b) + timed (visit Dynamic b) = statement_cost b (behind islands a (past_test x)) brief in
          let tested : drivers_cost (comb_goes groups islands x comb) ≤ 155 = comb_cost x comb in
          let visits : length (visit Dynamic a ++ visit Dynamic b) ≡ length (visit Dynamic a) + length (visit Dynamic b) = length-append (visit Dynamic a) (visit Dynamic b) in
          let sums : timed (visit Dynamic a ++ visit Dynamic b) ≡ timed (visit Dynamic a) + timed (visit Dynamic b) = timed_both (visit Dynamic a) (visit Dynamic b) in
          let na : drivers_cost (drivers_of groups islands (past_test x) a) ≤ drivers_cost (drivers_of groups islands (past_test x) a) = omega arith in
          let nb : drivers_cost (drivers_of groups islands (behind islands a (past_test x)) b) ≤ drivers_cost (drivers_of groups islands (behind islands a (past_test x)) b) = omega arith in
          let own : driver_cost (stands x) ≤ 240 = omega arith in
          let all : drivers_cost (form_drivers groups islands x (If test comb a b))
          ≤ 240 + (155 + (239 + (drivers_cost (drivers_of groups islands (past_test x) a) + (245 + (drivers_cost (drivers_of groups islands (behind islands a (past_test x)) b) + 197))))) =
          one_more (stands x) _ 240 (155 + (239 + (drivers_cost (drivers_of groups islands (past_test x) a) + (245 + (drivers_cost (drivers_of groups islands (behind islands a (past_test x)) b) + 197))))) own
          (both_cost (comb_goes groups islands x comb) _ 155 (239 + (drivers_cost (drivers_of groups islands (past_test x) a) + (245 + (drivers_cost (drivers_of groups islands (behind islands a (past_test x)) b) + 197)))) tested
          (one_more (goes x (found_one x test.port) (past_test x).position) _ 239 (drivers_cost (drivers_of groups islands (past_test x) a) + (245 + (drivers_cost (drivers_of groups islands (behind islands a (past_test x)) b) + 197))) (omega arith)
          (both_cost (drivers_of groups islands (past_test x) a) _ (drivers_cost (drivers_of groups islands (past_test x) a)) (245 + (drivers_cost (drivers_of groups islands (behind islands a (past_test x)) b) + 197)) na
          (one_more (goes x (found_zero x test.port) (behind islands a (past_test x)).position) _ 245 (drivers_cost (drivers_of groups islands (behind islands a (past_test x)) b) + 197) (omega arith)
          (both_cost (drivers_of groups islands (behind islands a (past_test x)) b) _ (drivers_cost (drivers_of groups islands (behind islands a (past_test x)) b)) 197 nb (one_more (ends x (either (end_of (past_test x).wire) (end_of (behind islands a (past_test x)).wire))) [] 197 0 (omega arith) no_cost)))))) in
          omega arith
      form_cost (While test comb a) place x brief =
          let first : 385 + drivers_cost (drivers_of groups islands (past_test x) a) ≤ 1024 * length (visit Dynamic a) + timed (visit Dynamic a) = statement_cost a (past_test x) brief in
          let tested : drivers_cost (comb_goes groups islands x comb) ≤ 155 = comb_cost x comb in
          let last : List PlainNetDriver = goes x (end_of (past_test x).wire) x.position ∷ [] in
          let body : List PlainNetDriver = drivers_of groups islands (past_test x) a ++ last in
          let looks : List PlainNetDriver = ends x (found_zero x test.port) ∷ goes x (found_one x test.port) (past_test x).position ∷ body in
          let inner : drivers_cost body ≡ drivers_cost (drivers_of groups islands (past_test x) a) + drivers_cost last = drivers_cost-append (drivers_of groups islands (past_test x) a) last in
          let outer : drivers_cost (comb_goes groups islands x comb ++ looks) ≡ drivers_cost (comb_goes groups islands x comb) + drivers_cost looks = drivers_cost-append (comb_goes groups islands x comb) looks in
          let all : drivers_cost (form_drivers groups islands x (While test comb a)) ≡ driver_cost (stands x) + drivers_cost (comb_goes groups islands x comb ++ looks) = refl in
          omega arith
      form_cost (Repeat zero a) place x brief = omega arith
      form_cost (Repeat (suc n) a) place x brief =
          let first : 385 + drivers_cost (drivers_of groups islands (counted_inside x) a) ≤ 1024 * length (visit Dynamic a) + timed (visit Dynamic a) = statement_cost a (counted_inside x) brief in
          omega (arith, drivers_cost-append (drivers_of groups islands (counted_inside x) a) (counting x n))
      form_cost (StaticSeq written parts) place x brief = omega arith
      form_cost (StaticPar written arms) place x brief = omega arith
      form_cost (StaticIf written test a b) place x brief = omega arith
      form_cost (StaticRepeat written count a) place x brief = omega arith
      form_cost (Timed k) place x brief = let h : drivers_cost (timed_drivers groups islands x k (slice_get islands k)) ≤ 399 + of_option island_cost (slice_get islands k) = timed_cost x k (slice_get islands k) in omega arith

      statement_cost : (s : PlainStatement) (x : Stand) → ActsBriefly x → 385 + drivers_cost (drivers_of groups islands x s) ≤ 1024 * length (visit Dynamic s) + timed (visit Dynamic s)
      statement_cost (Placed form place) x brief = form_cost form place x brief

      parts_cost : (ss : PlainStatements) (seq : Stand) (before : ℕ) (x : Stand) → ActsBriefly x → drivers_cost (parts_drivers groups islands seq before x ss) ≤ 1024 * length (visit_all Dynamic ss) + timed (visit_all Dynamic ss) + 181
      parts_cost no_statements seq before x brief = omega arith
      parts_cost (a_statement s ss) seq before x brief =
          let own : 385 + drivers_cost (drivers_of groups islands x s) ≤ 1024 * length (visit Dynamic s) + timed (visit Dynamic s) = statement_cost s x brief in
          let rest : drivers_cost (parts_drivers groups islands seq x.wire (behind islands s x) ss) ≤ 1024 * length (visit_all Dynamic ss) + timed (visit_all Dynamic ss) + 181 = parts_cost ss seq x.wire (behind islands s x) brief in
          let visits : length (visit Dynamic s ++ visit_all Dynamic ss) ≡ length (visit Dynamic s) + length (visit_all Dynamic ss) = length-append (visit Dynamic s) (visit_all Dynamic ss) in
          let sums : timed (visit Dynamic s ++ visit_all Dynamic ss) ≡ timed (visit Dynamic s) + timed (visit_all Dynamic ss) = timed_both (visit Dynamic s) (visit_all Dynamic ss) in
          let all : drivers_cost (drivers_of groups islands x s ++ parts_drivers groups islands seq x.wire (behind islands s x) ss) ≡ drivers_cost (drivers_of groups islands x s) + drivers_cost (parts_drivers groups islands seq x.wire (behind islands s x) ss) =
          drivers_cost-append (drivers_of groups islands x s) (parts_drivers groups islands seq x.wire (behind islands s x) ss) in
          omega arith

      -- with the parts of the end of the par
      arms_cost : (ss : PlainStatements) (par : Stand) (wire register : ℕ) → drivers_cost (arms_drivers groups islands par wire register ss) + exprs_cost (exprs_of (arms_over groups islands wire register ss)) ≤ 1024 * length (visit_all Dynamic ss) + timed (visit_all Dynamic ss)
      arms_cost no_statements par wire register = omega arith
      arms_cost (a_statement s ss) par wire register =
          let brief : 16 ≤ 16 = omega arith in
          let own : 385 + drivers_cost (drivers_of groups islands (arm_stand par wire register) s) ≤ 1024 * length (visit Dynamic s) + timed (visit Dynamic s) = statement_cost s (arm_stand par wire register) brief in
          let rest : drivers_cost (arms_drivers groups islands par (wire + wires_of s) (suc register + length (registers_of islands s)) ss) + exprs_cost (exprs_of (arms_over groups islands (wire + wires_of s) (suc register + length (registers_of islands s)) ss))
          ≤ 1024 * length (visit_all Dynamic ss) + timed (visit_all Dynamic ss) = arms_cost ss par (wire + wires_of s) (suc register + length (registers_of islands s)) in
          let visits : length (visit Dynamic s ++ visit_all Dynamic ss) ≡ length (visit Dynamic s) + length (visit_all Dynamic ss) = length-append (visit Dynamic s) (visit_all Dynamic ss) in
          let sums : timed (visit Dynamic s ++ visit_all Dynamic ss) ≡ timed (visit Dynamic s) + timed (visit_all Dynamic ss) = timed_both (visit Dynamic s) (visit_all Dynamic ss) in
          omega (arith, drivers_cost-append (drivers_of groups islands (arm_stand par wire register) s) (arm_finishes wire register s ∷ arms_drivers groups islands par (wire + wires_of s) (suc register + length (registers_of islands s)) ss))

    -- THE DRIVERS OF CONTROL
    pub control_cost : (wire : ℕ) (s : PlainStatement) → drivers_cost (control_drivers groups islands wire s) ≤ 1024 * length (visit Dynamic s) + timed (visit Dynamic s) + 240
    control_cost wire s =
        let brief : 16 ≤ 16 = omega arith in
        let h : 385 + drivers_cost (drivers_of groups islands (whole_stand wire) s) ≤ 1024 * length (visit Dynamic s) + timed (visit Dynamic s) = statement_cost s (whole_stand wire) brief in
        let all : drivers_cost (drivers_of groups islands (whole_stand wire) s ++ finishing wire s) ≡ drivers_cost (drivers_of groups islands (whole_stand wire) s) + drivers_cost (finishing wire s) = drivers_cost-append (drivers_of groups islands (whole_stand wire) s) (finishing wire s) in
        omega arith
