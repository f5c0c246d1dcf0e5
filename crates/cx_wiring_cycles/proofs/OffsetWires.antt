-- The wires of the groups' offsets: of a statement's drivers only those of its islands drive them, and none where nothing of the statement
-- acts.
use Rattle.std.proofs.Common.{◌≡◌, ℕ, zero, suc, ◌+◌, ◌<◌, ◌≤◌, ◌==◌, Bool, true, false, List, [], ◌∷◌, ◌++◌, length, Option, Some, None, slice_get, refl, sym, ap, ◌∙◌, arith}
use Rattle.std.proofs.lemmas.Bool.{ne_eqb}
use Rattle.cx_bits.specs.BitVector.{BitVector}
use Rattle.cx_meaning.specs.Designs.{PlainForm, Empty, Enable, Seq, Par, If, While, Repeat, StaticSeq, StaticPar, StaticIf, StaticRepeat, Timed, PlainStatement, Placed, PlainStatements, no_statements, a_statement}
use Rattle.cx_net.specs.Nets.{PlainNetExpr, OfPort, OfWire, OfHole, OfRegister, Inverse, AllOf, exprs_of, ToWire, ToHole, PlainNetDriver}
use Rattle.cx_net.specs.NetMeaning.{Node, NetAround}
use Rattle.cx_static.specs.declared.islands.IslandTimer.{IslandTimer}
use Rattle.cx_static.specs.Islands.{PlainIsland, PlainPoint, PlainOccurrence}
use Rattle.cx_wiring.specs.Parts.{both, either, equals, connect, drive}
use Rattle.cx_wiring.specs.Counts.{wires_of, registers_of}
use Rattle.cx_wiring.specs.Stands.{Stand, at, end_of, stands, ends, goes, inside, past_test, behind}
use Rattle.cx_wiring.specs.IslandDrivers.{first_of_island, sample_wire, active_wire, timer_runs, begins, is_active, offset_from, island_done, timer_drivers, point_drivers, occurrence_drivers, island_drivers}
use Rattle.cx_wiring.specs.Control.{one_turn, found_one, found_zero, arm_stand, arms_over, arm_finishes, in_last_round, counted_inside, counting, comb_goes, timed_drivers, form_drivers, drivers_of, parts_drivers, arms_drivers}
use Rattle.cx_wiring.specs.Takings.{takes, takes_of, AllIdle}
use Rattle.cx_wiring.proofs.TakingLemmas.{takes_append, takes_known, idle_split}

-- THE DRIVERS OF ISLANDS in a statement
module _ (groups : ℕ) (islands : List PlainIsland) where
  abbrev mutual
    pub form_isles : Stand → PlainForm → List PlainNetDriver
    form_isles x Empty = []
    form_isles x (Enable h) = []
    form_isles x (Seq no_statements) = []
    form_isles x (Seq (a_statement s ss)) = isles_of (inside x) s ++ parts_isles (behind islands s (inside x)) ss
    form_isles x (Par arms) = arms_isles x (suc (suc x.wire)) x.register arms
    form_isles x (If test comb a b) = isles_of (past_test x) a ++ isles_of (behind islands a (past_test x)) b
    form_isles x (While test comb a) = isles_of (past_test x) a
    form_isles x (Repeat zero a) = []
    form_isles x (Repeat (suc n) a) = isles_of (counted_inside x) a
    form_isles x (StaticSeq written parts) = []
    form_isles x (StaticPar written arms) = []
    form_isles x (StaticIf written test a b) = []
    form_isles x (StaticRepeat written count a) = []
    form_isles x (Timed k) = form_drivers groups islands x (Timed k)

    pub isles_of : Stand → PlainStatement → List PlainNetDriver
    isles_of x (Placed form place) = form_isles x form

    pub parts_isles : Stand → PlainStatements → List PlainNetDriver
    parts_isles x no_statements = []
    parts_isles x (a_statement s ss) = isles_of x s ++ parts_isles (behind islands s x) ss

    pub arms_isles : Stand → ℕ → ℕ → PlainStatements → List PlainNetDriver
    arms_isles par wire register no_statements = []
    arms_isles par wire register (a_statement s ss) = isles_of (arm_stand par wire register) s ++ arms_isles par (wire + wires_of s) (suc register + length (registers_of islands s)) ss

module _ (groups : ℕ) (islands : List PlainIsland) (around : NetAround) (registers : ℕ → Option BitVector) (look : Node → Option BitVector) (bound : ℕ) (g : ℕ) (below : g < groups) (above : groups ≤ bound) where
  abbrev T : Option BitVector → List PlainNetDriver → Option BitVector
  T o ds = takes around registers look (ToWire g) o ds

  -- a wire of another number
  skip : (n : ℕ) (e : PlainNetExpr) (o : Option BitVector) (ds : List PlainNetDriver) → (n ≡ g → ⊥) → takes around registers look (ToWire g) o (connect n e ∷ ds) ≡ takes around registers look (ToWire g) o ds
  skip n e o ds differ = ap (λ b. takes_of around registers look b (connect n e) (takes around registers look (ToWire g) o ds)) (ne_eqb n g differ)

  skip_drive : (n : ℕ) (guard e : PlainNetExpr) (o : Option BitVector) (ds : List PlainNetDriver) → (n ≡ g → ⊥) → takes around registers look (ToWire g) o (drive (ToWire n) guard e ∷ ds) ≡ takes around registers look (ToWire g) o ds
  skip_drive n guard e o ds differ = ap (λ b. takes_of around registers look b (drive (ToWire n) guard e) (takes around registers look (ToWire g) o ds)) (ne_eqb n g differ)

  -- of two lists
  of_two : (o : Option BitVector) (xs ys us ws : List PlainNetDriver) → ((o : Option BitVector) → T o xs ≡ T o us) → ((o : Option BitVector) → T o ys ≡ T o ws) → T o (xs ++ ys) ≡ T o (us ++ ws)
  of_two o xs ys us ws h k =
      takes_append around registers look (ToWire g) o xs ys ∙ h (T o ys) ∙ ap (λ z. T z us) (k o) ∙ sym (takes_append around registers look (ToWire g) o us ws)

  comb_passes : (x : Stand) (comb : Option ℕ) (o : Option BitVector) → T o (comb_goes groups islands x comb) ≡ o
  comb_passes x None o = refl
  comb_passes x (Some h) o = refl

  stands_pass : (x : Stand) → bound ≤ x.wire → (o : Option BitVector) (ds : List PlainNetDriver) → T o (stands x ∷ ds) ≡ T o ds
  stands_pass x low o ds = skip x.wire (both x.acts (equals (OfRegister x.region) x.position)) o ds (λ e. omega arith)

  ends_pass : (x : Stand) → bound ≤ x.wire → (when : PlainNetExpr) (o : Option BitVector) (ds : List PlainNetDriver) → T o (ends x when ∷ ds) ≡ T o ds
  ends_pass x low when o ds = skip (suc x.wire) when o ds (λ e. omega arith)

  turn : (x : Stand) → bound ≤ x.wire → (o : Option BitVector) → takes around registers look (ToWire g) o (one_turn x) ≡ o
  turn x low o = stands_pass x low o (ends x (at x) ∷ []) ∙ ends_pass x low (at x) o []

  -- ONLY ISLANDS
  mutual
    form_only : (form : PlainForm) (x : Stand) → bound ≤ x.wire → (o : Option BitVector) → takes around registers look (ToWire g) o (form_drivers groups islands x form) ≡ takes around registers look (ToWire g) o (form_isles groups islands x form)
    form_only Empty x low o = turn x low o
    form_only (Enable h) x low o =
        stands_pass x low o (ends x (both (at x) (OfHole h)) ∷ drive (ToHole (groups + h)) (at x) (Inverse (end_of x.wire)) ∷ [])
        ∙ ends_pass x low (both (at x) (OfHole h)) o (drive (ToHole (groups + h)) (at x) (Inverse (end_of x.wire)) ∷ [])
    form_only (Seq no_statements) x low o = turn x low o
    form_only (Seq (a_statement s ss)) x low o =
        of_two o (drivers_of groups islands (inside x) s) (parts_drivers groups islands x (inside x).wire (behind islands s (inside x)) ss) (isles_of groups islands (inside x) s) (parts_isles groups islands (behind islands s (inside x)) ss)
        (statement_only s (inside x) (omega arith)) (parts_only ss x (inside x).wire (behind islands s (inside x)) low (omega arith))
    form_only (Par arms) x low o =
        stands_pass x low o (arms_drivers groups islands x (suc (suc x.wire)) x.register arms ++ ends x (AllOf (exprs_of (at x ∷ arms_over groups islands (suc (suc x.wire)) x.register arms))) ∷ [])
        ∙ takes_append around registers look (ToWire g) o (arms_drivers groups islands x (suc (suc x.wire)) x.register arms) (ends x (AllOf (exprs_of (at x ∷ arms_over groups islands (suc (suc x.wire)) x.register arms))) ∷ [])
        ∙ ap (λ z. T z (arms_drivers groups islands x (suc (suc x.wire)) x.register arms)) (ends_pass x low (AllOf (exprs_of (at x ∷ arms_over groups islands (suc (suc x.wire)) x.register arms))) o [])
        ∙ arms_only arms x (suc (suc x.wire)) x.register (omega arith) o
    form_only (If test comb a b) x low o =
        let first = past_test x in
        let second = behind islands a (past_test x) in
        let tail_b : List PlainNetDriver = ends x (either (end_of first.wire) (end_of second.wire)) ∷ [] in
        let tail_a : List PlainNetDriver = goes x (found_zero x test.port) second.position ∷ (drivers_of groups islands (behind islands a (past_test x)) b ++ tail_b) in
        let rest : List PlainNetDriver = goes x (found_one x test.port) first.position ∷ (drivers_of groups islands (past_test x) a ++ tail_a) in
        stands_pass x low o (comb_goes groups islands x comb ++ rest)
        ∙ takes_append around registers look (ToWire g) o (comb_goes groups islands x comb) rest
        ∙ comb_passes x comb (T o rest)
        ∙ of_two o (drivers_of groups islands (past_test x) a) tail_a (isles_of groups islands (past_test x) a) (isles_of groups islands (behind islands a (past_test x)) b) (statement_only a (past_test x) (omega arith))
        (λ z. takes_append around registers look (ToWire g) z (drivers_of groups islands (behind islands a (past_test x)) b) tail_b
        ∙ ap (λ w. T w (drivers_of groups islands (behind islands a (past_test x)) b)) (ends_pass x low (either (end_of first.wire) (end_of second.wire)) z [])
        ∙ statement_only b (behind islands a (past_test x)) (omega arith) z)
    form_only (While test comb a) x low o =
        let body = past_test x in
        let tail : List PlainNetDriver = goes x (end_of body.wire) x.position ∷ [] in
        let inner : List PlainNetDriver = goes x (found_one x test.port) body.position ∷ (drivers_of groups islands (past_test x) a ++ tail) in
        stands_pass x low o (comb_goes groups islands x comb ++ ends x (found_zero x test.port) ∷ inner)
        ∙ takes_append around registers look (ToWire g) o (comb_goes groups islands x comb) (ends x (found_zero x test.port) ∷ inner)
        ∙ comb_passes x comb (T o (ends x (found_zero x test.port) ∷ inner))
        ∙ ends_pass x low (found_zero x test.port) o inner
        ∙ takes_append around registers look (ToWire g) o (drivers_of groups islands (past_test x) a) tail
        ∙ statement_only a (past_test x) (omega arith) o
    form_only (Repeat zero a) x low o = turn x low o
    form_only (Repeat (suc n) a) x low o =
        takes_append around registers look (ToWire g) o (drivers_of groups islands (counted_inside x) a) (counting x n)
        ∙ ap (λ z. T z (drivers_of groups islands (counted_inside x) a)) (ends_pass x low (both (end_of (suc (suc x.wire))) (in_last_round x n)) o [])
        ∙ statement_only a (counted_inside x) (omega arith) o
    form_only (StaticSeq written parts) x low o = turn x low o
    form_only (StaticPar written arms) x low o = turn x low o
    form_only (StaticIf written test a b) x low o = turn x low o
    form_only (StaticRepeat written count a) x low o = turn x low o
    form_only (Timed k) x low o = refl

    pub statement_only : (s : PlainStatement) (x : Stand) → bound ≤ x.wire → (o : Option BitVector) → takes around registers look (ToWire g) o (drivers_of groups islands x s) ≡ takes around registers look (ToWire g) o (isles_of groups islands x s)
    statement_only (Placed form place) x low o = form_only form x low o

    parts_only : (ss : PlainStatements) (seq : Stand) (before : ℕ) (x : Stand) → bound ≤ seq.wire → bound ≤ x.wire → (o : Option BitVector)
        → takes around registers look (ToWire g) o (parts_drivers groups islands seq before x ss) ≡ takes around registers look (ToWire g) o (parts_isles groups islands x ss)
    parts_only no_statements seq before x low_seq low o = ends_pass seq low_seq (end_of before) o []
    parts_only (a_statement s ss) seq before x low_seq low o =
        of_two o (drivers_of groups islands x s) (parts_drivers groups islands seq x.wire (behind islands s x) ss) (isles_of groups islands x s) (parts_isles groups islands (behind islands s x) ss) (statement_only s x low)
        (parts_only ss seq x.wire (behind islands s x) low_seq (omega arith))

    arms_only : (arms : PlainStatements) (par : Stand) (wire register : ℕ) → bound ≤ wire → (o : Option BitVector)
        → takes around registers look (ToWire g) o (arms_drivers groups islands par wire register arms) ≡ takes around registers look (ToWire g) o (arms_isles groups islands par wire register arms)
    arms_only no_statements par wire register low o = refl
    arms_only (a_statement s ss) par wire register low o =
        of_two o (drivers_of groups islands (arm_stand par wire register) s) (arm_finishes wire register s ∷ arms_drivers groups islands par (wire + wires_of s) (suc register + length (registers_of islands s)) ss) (isles_of groups islands (arm_stand par wire register) s) (arms_isles groups islands par (wire + wires_of s) (suc register + length (registers_of islands s)) ss)
        (statement_only s (arm_stand par wire register) low) (arms_only ss par (wire + wires_of s) (suc register + length (registers_of islands s)) (omega arith))

  -- AN ISLAND of which nothing acts
  module _ (x : Stand) (first : ℕ) (island : PlainIsland) (high : groups ≤ first) where
    timers_pass : (t : ℕ) (timers : List IslandTimer) (o : Option BitVector) → T o (timer_drivers groups x first island t timers) ≡ o
    timers_pass t [] o = refl
    timers_pass t (timer ∷ rest) o =
        skip (first + t) (timer_runs groups x first island timer.cell timer.outer timer.from timer.to) o (timer_drivers groups x first island (suc t) rest) (λ e. omega arith) ∙ timers_pass (suc t) rest o

    points_pass : (n : ℕ) (points : List PlainPoint) (o : Option BitVector) → T o (point_drivers groups x first island n points) ≡ o
    points_pass n [] o = refl
    points_pass n (point ∷ rest) o =
        skip_drive (sample_wire groups x first island n) (begins groups x first island point) (OfPort point.port) o
        (connect (sample_wire groups x first island n) (OfRegister (x.register + n)) ∷ point_drivers groups x first island (suc n) rest) (λ e. omega arith)
        ∙ skip (sample_wire groups x first island n) (OfRegister (x.register + n)) o (point_drivers groups x first island (suc n) rest) (λ e. omega arith) ∙ points_pass (suc n) rest o

    occurrences_pass : (n : ℕ) (occurrences : List PlainOccurrence) → AllIdle around registers look (occurrence_drivers groups x first island n occurrences) → (o : Option BitVector) → T o (occurrence_drivers groups x first island n occurrences) ≡ o
    occurrences_pass n [] idle o = refl
    occurrences_pass n (u ∷ rest) idle o =
        skip (active_wire groups x first island n) (is_active groups x first island u) o
        (drive (ToWire u.group) (OfWire (active_wire groups x first island n)) (offset_from groups x first island u) ∷ occurrence_drivers groups x first island (suc n) rest) (λ e. omega arith)
        ∙ by (u.group == g) (T o (occurrence_drivers groups x first island (suc n) rest)) ∙ occurrences_pass (suc n) rest idle.1.1.1 o
      where
        by : (b : Bool) (later : Option BitVector) → takes_of around registers look b (drive (ToWire u.group) (OfWire (active_wire groups x first island n)) (offset_from groups x first island u)) later ≡ later
        by true later = takes_known around registers look (drive (ToWire u.group) (OfWire (active_wire groups x first island n)) (offset_from groups x first island u)) false later idle.1.0
        by false later = refl

    pub island_passes : AllIdle around registers look (island_drivers groups x first island) → bound ≤ x.wire → (o : Option BitVector) → T o (island_drivers groups x first island) ≡ o
    island_passes idle low o =
        let timers = timer_drivers groups x first island 0 island.timers in
        let points = point_drivers groups x first island 0 island.points in
        let occurrences = occurrence_drivers groups x first island 0 island.occurrences in
        let behind_timers = idle_split around registers look timers (points ++ occurrences) idle.1 in
        let behind_points = idle_split around registers look points occurrences behind_timers.1 in
        ends_pass x low (both (at x) (island_done groups x first island)) o (timers ++ (points ++ occurrences))
        ∙ takes_append around registers look (ToWire g) o timers (points ++ occurrences)
        ∙ timers_pass 0 island.timers (T o (points ++ occurrences))
        ∙ takes_append around registers look (ToWire g) o points occurrences
        ∙ points_pass 0 island.points (T o occurrences)
        ∙ occurrences_pass 0 island.occurrences behind_points.1 o

  timed_passes : (k : ℕ) (x : Stand) → bound ≤ x.wire → AllIdle around registers look (form_drivers groups islands x (Timed k)) → (o : Option BitVector) → T o (form_drivers groups islands x (Timed k)) ≡ o
  timed_passes k x low idle o = stands_pass x low o (timed_drivers groups islands x k (slice_get islands k)) ∙ by (slice_get islands k) idle.1
    where
      by : (island : Option PlainIsland) → AllIdle around registers look (timed_drivers groups islands x k island) → T o (timed_drivers groups islands x k island) ≡ o
      by None h = refl
      by (Some island) h = let high : groups ≤ first_of_island groups islands k = omega arith in island_passes x (first_of_island groups islands k) island high h low o

  -- A STATEMENT of which nothing acts
  mutual
    form_quiet : (form : PlainForm) (x : Stand) → bound ≤ x.wire → AllIdle around registers look (form_drivers groups islands x form) → (o : Option BitVector) → takes around registers look (ToWire g) o (form_isles groups islands x form) ≡ o
    form_quiet Empty x low idle o = refl
    form_quiet (Enable h) x low idle o = refl
    form_quiet (Seq no_statements) x low idle o = refl
    form_quiet (Seq (a_statement s ss)) x low idle o =
        let h = idle_split around registers look (drivers_of groups islands (inside x) s) (parts_drivers groups islands x (inside x).wire (behind islands s (inside x)) ss) idle in
        takes_append around registers look (ToWire g) o (isles_of groups islands (inside x) s) _
        ∙ ap (λ z. T z (isles_of groups islands (inside x) s)) (parts_quiet ss x (inside x).wire (behind islands s (inside x)) (omega arith) h.1 o) ∙ statement_quiet s (inside x) (omega arith) h.0 o
    form_quiet (Par arms) x low idle o = arms_quiet arms x (suc (suc x.wire)) x.register (omega arith) (idle_split around registers look (arms_drivers groups islands x (suc (suc x.wire)) x.register arms) _ idle.1).0 o
    form_quiet (If test comb a b) x low idle o =
        let h = idle_split around registers look (comb_goes groups islands x comb) _ idle.1 in
        let k = idle_split around registers look (drivers_of groups islands (past_test x) a) _ h.1.1 in
        let m = idle_split around registers look (drivers_of groups islands (behind islands a (past_test x)) b) _ k.1.1 in
        takes_append around registers look (ToWire g) o (isles_of groups islands (past_test x) a) _
        ∙ ap (λ z. T z (isles_of groups islands (past_test x) a)) (statement_quiet b (behind islands a (past_test x)) (omega arith) m.0 o) ∙ statement_quiet a (past_test x) (omega arith) k.0 o
    form_quiet (While test comb a) x low idle o =
        let h = idle_split around registers look (comb_goes groups islands x comb) _ idle.1 in
        statement_quiet a (past_test x) (omega arith) (idle_split around registers look (drivers_of groups islands (past_test x) a) _ h.1.1.1).0 o
    form_quiet (Repeat zero a) x low idle o = refl
    form_quiet (Repeat (suc n) a) x low idle o = statement_quiet a (counted_inside x) (omega arith) (idle_split around registers look (drivers_of groups islands (counted_inside x) a) (counting x n) idle).0 o
    form_quiet (StaticSeq written parts) x low idle o = refl
    form_quiet (StaticPar written arms) x low idle o = refl
    form_quiet (StaticIf written test a b) x low idle o = refl
    form_quiet (StaticRepeat written count a) x low idle o = refl
    form_quiet (Timed k) x low idle o = timed_passes k x low idle o

    pub statement_quiet : (s : PlainStatement) (x : Stand) → bound ≤ x.wire → AllIdle around registers look (drivers_of groups islands x s) → (o : Option BitVector) → takes around registers look (ToWire g) o (isles_of groups islands x s) ≡ o
    statement_quiet (Placed form place) x low idle o = form_quiet form x low idle o

    parts_quiet : (ss : PlainStatements) (seq : Stand) (before : ℕ) (x : Stand) → bound ≤ x.wire → AllIdle around registers look (parts_drivers groups islands seq before x ss) → (o : Option BitVector)
        → takes around registers look (ToWire g) o (parts_isles groups islands x ss) ≡ o
    parts_quiet no_statements seq before x low idle o = refl
    parts_quiet (a_statement s ss) seq before x low idle o =
        let h = idle_split around registers look (drivers_of groups islands x s) (parts_drivers groups islands seq x.wire (behind islands s x) ss) idle.1 in
        takes_append around registers look (ToWire g) o (isles_of groups islands x s) _
        ∙ ap (λ z. T z (isles_of groups islands x s)) (parts_quiet ss seq x.wire (behind islands s x) (omega arith) h.1 o) ∙ statement_quiet s x low h.0 o

    arms_quiet : (arms : PlainStatements) (par : Stand) (wire register : ℕ) → bound ≤ wire → AllIdle around registers look (arms_drivers groups islands par wire register arms) → (o : Option BitVector)
        → takes around registers look (ToWire g) o (arms_isles groups islands par wire register arms) ≡ o
    arms_quiet no_statements par wire register low idle o = refl
    arms_quiet (a_statement s ss) par wire register low idle o =
        let h = idle_split around registers look (drivers_of groups islands (arm_stand par wire register) s) _ idle.1 in
        takes_append around registers look (ToWire g) o (isles_of groups islands (arm_stand par wire register) s) _
        ∙ ap (λ z. T z (isles_of groups islands (arm_stand par wire register) s)) (arms_quiet ss par (wire + wires_of s) (suc register + length (registers_of islands s)) (omega arith) h.1.1 o)
        ∙ statement_quiet s (arm_stand par wire register) low h.0 o
