-- No expression of the net of a component nests deeply.
use Rattle.std.proofs.Common.{◌≡◌, ℕ, zero, suc, ◌+◌, ◌≤◌, Bool, true, false, if◌then◌else◌, List, [], ◌∷◌, ◌++◌, length, map, Option, Some, None, slice_get, refl, ap, arith, length-append}
use Rattle.std.proofs.lemmas.List.{length-map}
use Rattle.cx_meaning.specs.declared.ports.PortRef.{PortRef}
use Rattle.cx_meaning.specs.declared.ports.PortRef.TheVariants as ports
use Rattle.cx_meaning.specs.Designs.{PlainGuard, Always, Atom, Negation, All, Any, Compared, Within, PlainGuards, no_guards, a_guard, PlainAssign, PlainForm, Empty, Enable, Seq, Par, If, While, Repeat, StaticSeq, StaticPar, StaticIf, StaticRepeat, Timed, PlainStatement, Placed, PlainStatements, no_statements, a_statement}
use Rattle.cx_meaning.specs.Active.{Owned}
use Rattle.cx_rules.specs.Items.{Dynamic, visit, visit_parts, visit_all}
use Rattle.cx_net.specs.Nets.{PlainNetExpr, OfPort, OfWire, Inverse, AllOf, exprs_of, PlainNetTarget, ToWire, PlainNetDriver}
use Rattle.cx_net.specs.NetLimits.{IsRead, parts_of, StandsIn, AllStandIn, IsWritableDriver}
use Rattle.cx_static.specs.declared.islands.Sample.{Sample}
use Rattle.cx_static.specs.declared.islands.IslandTimer.{IslandTimer}
use Rattle.cx_static.specs.Islands.{PlainPoint, PlainOccurrence, PlainIsland}
use Rattle.cx_wiring.specs.Parts.{drive, connect}
use Rattle.cx_wiring.specs.Counts.{wires_of, registers_of}
use Rattle.cx_wiring.specs.Stands.{Stand, at, stands, inside, past_test, behind, ends}
use Rattle.cx_wiring.specs.IslandDrivers.{first_of_island, in_range, timer_runs, timer_drivers, begins, point_drivers, as_wanted, is_active, occurrence_drivers, island_drivers}
use Rattle.cx_wiring.specs.Guards.{part_expr, parts_exprs, guard_expr, guard_drivers, part_drivers, parts_drivers}
use Rattle.cx_wiring.specs.Assignments.{target_of, Looks, LooksAlways, LooksIn, looks_of, go, gate_drivers, gated_drivers, looking_drivers, assign_wires, assign_drivers, assigns_drivers}
use Rattle.cx_wiring.specs.Control.{one_turn, arm_stand, counted_inside, counting, whole_stand, finishing, comb_goes, timed_drivers, arms_over, form_drivers, drivers_of, parts_drivers as sequence_drivers, arms_drivers, control_drivers}
use Rattle.cx_wiring.specs.Trees.{Driven, driven, with_driver, is_same, by_target, behind as after, tree, pairs, trees}
use Rattle.cx_wiring.specs.Nesting.{most, guards_count, GuardNests, GuardsNest, OwnedNests, PointNests, FormNests, StatementNests, PartsNest, IslandNests}
use Rattle.cx_wiring.proofs.FitLemmas.{are_at}
use Rattle.cx_wiring.proofs.TreeDrivers.{PairsFrom, tree_are}
use Rattle.cx_wiring.proofs.FitBundles.{by_target_are}
use Rattle.cx_text.specs.Members.{Each}
use Rattle.cx_text.proofs.MemberLaws.{each_append}

abbrev pub Nest : List PlainNetDriver → Type 0
Nest ds = Each IsWritableDriver ds

nests : (target : PlainNetTarget) (guard source : PlainNetExpr) → StandsIn 47 guard → StandsIn 47 source → IsWritableDriver (drive target guard source)
nests target guard source g s = record { guard = g; source = s }

connected : (wire : ℕ) (e : PlainNetExpr) → StandsIn 47 e → IsWritableDriver (connect wire e)
connected wire e fits = record { guard = tt; source = fits }

-- GUARDS
part_stands : (levels : ℕ) (g : PlainGuard) (wire : ℕ) → GuardNests g → StandsIn levels (part_expr wire g)
part_stands levels Always wire h = tt
part_stands levels (Atom p) wire h = h
part_stands levels (Negation g) wire h = tt
part_stands levels (All gs) wire h = tt
part_stands levels (Any gs) wire h = tt
part_stands levels (Compared c a b) wire h = tt
part_stands levels (Within from to) wire h = tt

parts_stand : (levels : ℕ) (gs : PlainGuards) (wire : ℕ) → GuardsNest gs → AllStandIn levels (parts_exprs wire gs)
parts_stand levels no_guards wire h = tt
parts_stand levels (a_guard g gs) wire h = (part_stands levels g wire h.0, parts_stand levels gs _ h.1)

count_is : (gs : PlainGuards) (wire : ℕ) → parts_of (parts_exprs wire gs) ≡ guards_count gs
count_is no_guards wire = refl
count_is (a_guard g gs) wire = ap suc (count_is gs _)

module _ (offset : PlainNetExpr) (plain : StandsIn 45 offset) where
  guard_stands : (g : PlainGuard) (wire : ℕ) → GuardNests g → StandsIn 47 (guard_expr offset wire g)
  guard_stands Always wire h = tt
  guard_stands (Atom p) wire h = h
  guard_stands (Negation g) wire h = (omega arith, part_stands 46 g wire h)
  guard_stands (All gs) wire h =
      let count : parts_of (parts_exprs wire gs) ≡ guards_count gs = count_is gs wire in
      let few : guards_count gs ≤ most = h.0 in
      (14, omega arith, omega arith, omega arith, parts_stand 33 gs wire h.1)
  guard_stands (Any gs) wire h =
      let count : parts_of (parts_exprs wire gs) ≡ guards_count gs = count_is gs wire in
      let few : guards_count gs ≤ most = h.0 in
      (14, omega arith, omega arith, omega arith, parts_stand 33 gs wire h.1)
  guard_stands (Compared c a b) wire h = (omega arith, h.0, h.1)
  guard_stands (Within from to) wire h = (1, omega arith, omega arith, omega arith, ((omega arith, plain, tt), ((omega arith, plain, tt), tt)))

  mutual
    guard_nest : (g : PlainGuard) (wire : ℕ) → GuardNests g → Nest (guard_drivers offset wire g)
    guard_nest Always wire h = tt
    guard_nest (Atom p) wire h = tt
    guard_nest (Negation g) wire h = part_nest g wire h
    guard_nest (All gs) wire h = parts_nest gs wire h.1
    guard_nest (Any gs) wire h = parts_nest gs wire h.1
    guard_nest (Compared c a b) wire h = tt
    guard_nest (Within from to) wire h = tt

    part_nest : (g : PlainGuard) (wire : ℕ) → GuardNests g → Nest (part_drivers offset wire g)
    part_nest Always wire h = (connected wire (guard_expr offset (suc wire) Always) tt, tt)
    part_nest (Atom p) wire h = tt
    part_nest (Negation g) wire h =
        each_append IsWritableDriver (part_drivers offset (suc wire) g) (connect wire (guard_expr offset (suc wire) (Negation g)) ∷ []) (part_nest g (suc wire) h)
        (connected wire (guard_expr offset (suc wire) (Negation g)) (guard_stands (Negation g) (suc wire) h), tt)
    part_nest (All gs) wire h =
        each_append IsWritableDriver (parts_drivers offset (suc wire) gs) (connect wire (guard_expr offset (suc wire) (All gs)) ∷ []) (parts_nest gs (suc wire) h.1)
        (connected wire (guard_expr offset (suc wire) (All gs)) (guard_stands (All gs) (suc wire) h), tt)
    part_nest (Any gs) wire h =
        each_append IsWritableDriver (parts_drivers offset (suc wire) gs) (connect wire (guard_expr offset (suc wire) (Any gs)) ∷ []) (parts_nest gs (suc wire) h.1)
        (connected wire (guard_expr offset (suc wire) (Any gs)) (guard_stands (Any gs) (suc wire) h), tt)
    part_nest (Compared c a b) wire h = (connected wire (guard_expr offset (suc wire) (Compared c a b)) (guard_stands (Compared c a b) (suc wire) h), tt)
    part_nest (Within from to) wire h = (connected wire (guard_expr offset (suc wire) (Within from to)) (guard_stands (Within from to) (suc wire) h), tt)

    parts_nest : (gs : PlainGuards) (wire : ℕ) → GuardsNest gs → Nest (parts_drivers offset wire gs)
    parts_nest no_guards wire h = tt
    parts_nest (a_guard g gs) wire h = each_append IsWritableDriver (part_drivers offset wire g) _ (part_nest g wire h.0) (parts_nest gs _ h.1)

exprs_count : (es : List PlainNetExpr) → parts_of (exprs_of es) ≡ length es
exprs_count [] = refl
exprs_count (e ∷ es) = ap suc (exprs_count es)

all_stand : (levels : ℕ) (es : List PlainNetExpr) → Each (StandsIn levels) es → AllStandIn levels (exprs_of es)
all_stand levels [] h = tt
all_stand levels (e ∷ es) h = (h.0, all_stand levels es h.1)

-- ASSIGNMENTS
module _ (groups : ℕ) where
  gate_nest : (g wire : ℕ) (guard : PlainGuard) → GuardNests guard → Nest (gate_drivers groups g wire guard)
  gate_nest g wire guard h =
      each_append IsWritableDriver (guard_drivers (OfWire g) (suc wire) guard) (drive (ToWire wire) (go groups g) (guard_expr (OfWire g) (suc wire) guard) ∷ []) (guard_nest (OfWire g) tt guard (suc wire) h)
      (nests (ToWire wire) (go groups g) (guard_expr (OfWire g) (suc wire) guard) tt (guard_stands (OfWire g) tt guard (suc wire) h), tt)

  behind_gate : (g wire : ℕ) (guard : PlainGuard) (target : PlainNetTarget) (source : PlainNetExpr) → GuardNests guard → StandsIn 47 source → Nest (gate_drivers groups g wire guard ++ drive target (OfWire wire) source ∷ [])
  behind_gate g wire guard target source h fits =
      each_append IsWritableDriver (gate_drivers groups g wire guard) (drive target (OfWire wire) source ∷ []) (gate_nest g wire guard h) (nests target (OfWire wire) source tt fits, tt)

  gated_nest : (g wire : ℕ) (guard : PlainGuard) (target : PlainNetTarget) (source : PlainNetExpr) → GuardNests guard → StandsIn 47 source → Nest (gated_drivers groups g wire guard target source)
  gated_nest g wire Always target source h fits = (nests target (go groups g) source tt fits, tt)
  gated_nest g wire (Atom p) target source h fits = behind_gate g wire (Atom p) target source h fits
  gated_nest g wire (Negation x) target source h fits = behind_gate g wire (Negation x) target source h fits
  gated_nest g wire (All gs) target source h fits = behind_gate g wire (All gs) target source h fits
  gated_nest g wire (Any gs) target source h fits = behind_gate g wire (Any gs) target source h fits
  gated_nest g wire (Compared c x y) target source h fits = behind_gate g wire (Compared c x y) target source h fits
  gated_nest g wire (Within from to) target source h fits = behind_gate g wire (Within from to) target source h fits

  abbrev LooksPlain : Looks → Type 0
  LooksPlain (LooksAlways offset) = StandsIn 45 offset
  LooksPlain (LooksIn g) = Unit {0}

  looks_plain : (owner : Option ℕ) (target : PortRef) → LooksPlain (looks_of owner target)
  looks_plain None target = tt
  looks_plain (Some g) (ports.Done h) = tt
  looks_plain (Some g) (ports.Cell c p) = tt
  looks_plain (Some g) (ports.Input n) = tt
  looks_plain (Some g) (ports.Output n) = tt
  looks_plain (Some g) (ports.Literal w v) = tt

  looking_nest : (l : Looks) (wire : ℕ) (a : PlainAssign) → LooksPlain l → GuardNests a.guard → IsRead a.source.port → Nest (looking_drivers groups l wire a)
  looking_nest (LooksAlways offset) wire a plain h source =
      each_append IsWritableDriver (guard_drivers offset wire a.guard) (drive (target_of a.target) (guard_expr offset wire a.guard) (OfPort a.source.port) ∷ []) (guard_nest offset plain a.guard wire h)
      (nests (target_of a.target) (guard_expr offset wire a.guard) (OfPort a.source.port) (guard_stands offset plain a.guard wire h) source, tt)
  looking_nest (LooksIn g) wire a plain h source = gated_nest g wire a.guard (target_of a.target) (OfPort a.source.port) h source

  pub assigns_nest : (list : List Owned) (wire : ℕ) → Each OwnedNests list → Nest (assigns_drivers groups wire list)
  assigns_nest [] wire h = tt
  assigns_nest (a ∷ rest) wire h =
      each_append IsWritableDriver (assign_drivers groups wire a) (assigns_drivers groups (wire + assign_wires a) rest)
      (looking_nest (looks_of a.owner a.assign.target) wire a.assign (looks_plain a.owner a.assign.target) h.0.guard h.0.source) (assigns_nest rest (wire + assign_wires a) h.1)

  -- ISLANDS
  module _ (x : Stand) (first : ℕ) (island : PlainIsland) where
    run_stands : (cell : ℕ) (outer : Option ℕ) (from to : ℕ) → StandsIn 47 (timer_runs groups x first island cell outer from to)
    run_stands cell None from to = (1, omega arith, omega arith, omega arith, (tt, ((omega arith, tt), tt)))
    run_stands cell (Some outer) from to = (2, omega arith, omega arith, omega arith, (tt, ((omega arith, tt, tt), ((omega arith, tt, tt), tt))))

    timers_nest : (t : ℕ) (rest : List IslandTimer) → Nest (timer_drivers groups x first island t rest)
    timers_nest t [] = tt
    timers_nest t (timer ∷ rest) =
        (connected (first + t) (timer_runs groups x first island timer.cell timer.outer timer.from timer.to) (run_stands timer.cell timer.outer timer.from timer.to), (record { guard = tt; source = tt }, timers_nest (suc t) rest))

    wanted_stands : (b : Bool) (wire : ℕ) → StandsIn 33 (if b then OfWire wire else Inverse (OfWire wire))
    wanted_stands true wire = tt
    wanted_stands false wire = (omega arith, tt)

    samples_stand : (ss : List Sample) → Each (StandsIn 33) (map (as_wanted groups x first island) ss)
    samples_stand [] = tt
    samples_stand (s ∷ ss) = (wanted_stands s.wanted _, samples_stand ss)

    begins_stand : (p : PlainPoint) → 3 + length p.samples ≤ most → StandsIn 47 (begins groups x first island p)
    begins_stand p few =
        let wants : List PlainNetExpr = map (as_wanted groups x first island) p.samples in
        let count : parts_of (exprs_of wants) ≡ length wants = exprs_count wants in
        let mapped : length wants ≡ length p.samples = length-map p.samples (as_wanted groups x first island) in
        (14, omega arith, omega arith, omega arith, (tt, ((omega arith, tt, tt), all_stand 33 wants (samples_stand p.samples))))

    points_nest : (n : ℕ) (rest : List PlainPoint) → Each PointNests rest → Nest (point_drivers groups x first island n rest)
    points_nest n [] h = tt
    points_nest n (p ∷ rest) h = (
      record { guard = begins_stand p h.0.few; source = h.0.port },
      (
        record { guard = tt; source = tt },
        (
          record { guard = (1, omega arith, omega arith, omega arith, (tt, ((omega arith, tt, tt), tt))); source = tt },
          (record { guard = begins_stand p h.0.few; source = h.0.port }, points_nest (suc n) rest h.1),
        ),
      ),
    )

    active_stands : (o : PlainOccurrence) → 3 + length o.samples ≤ most → StandsIn 47 (is_active groups x first island o)
    active_stands o few =
        let es : List PlainNetExpr = in_range groups x first island o.timer o.from o.to ++ map (as_wanted groups x first island) o.samples in
        let count : parts_of (exprs_of es) ≡ length es = exprs_count es in
        let mapped : length (map (as_wanted groups x first island) o.samples) ≡ length o.samples = length-map o.samples (as_wanted groups x first island) in
        let all : length es ≡ length (in_range groups x first island o.timer o.from o.to) + length (map (as_wanted groups x first island) o.samples) =
        length-append (in_range groups x first island o.timer o.from o.to) (map (as_wanted groups x first island) o.samples) in
        let range : length (in_range groups x first island o.timer o.from o.to) ≡ 3 = refl in (
          14,
          omega arith,
          omega arith,
          omega arith,
          all_stand 33 es (each_append (StandsIn 33) (in_range groups x first island o.timer o.from o.to) (map (as_wanted groups x first island) o.samples) (tt, ((omega arith, tt, tt), ((omega arith, tt, tt), tt))) (samples_stand o.samples)),
        )

    occurrences_nest : (n : ℕ) (rest : List PlainOccurrence) → Each (λ (o : PlainOccurrence). 3 + length o.samples ≤ most) rest → Nest (occurrence_drivers groups x first island n rest)
    occurrences_nest n [] h = tt
    occurrences_nest n (o ∷ rest) h =
        (record { guard = tt; source = active_stands o h.0 }, (record { guard = tt; source = tt }, (record { guard = tt; source = (omega arith, tt, tt) }, occurrences_nest (suc n) rest h.1)))

    island_nest : IslandNests island → Nest (island_drivers groups x first island)
    island_nest h = (
      record { guard = tt; source = (1, omega arith, omega arith, omega arith, (tt, (tt, tt))) },
      each_append IsWritableDriver (timer_drivers groups x first island 0 island.timers) (point_drivers groups x first island 0 island.points ++ occurrence_drivers groups x first island 0 island.occurrences)
          (timers_nest 0 island.timers)
          (each_append IsWritableDriver (point_drivers groups x first island 0 island.points) (occurrence_drivers groups x first island 0 island.occurrences) (points_nest 0 island.points h.points) (occurrences_nest 0 island.occurrences h.occurrences)),
    )

  -- CONTROL
  module _ (islands : List PlainIsland) (held : Each IslandNests islands) where
    comb_nest : (x : Stand) (comb : Option ℕ) → Nest (comb_goes groups islands x comb)
    comb_nest x None = tt
    comb_nest x (Some g) = (record { guard = tt; source = tt }, tt)

    timed_nest : (x : Stand) (k : ℕ) (o : Option PlainIsland) → slice_get islands k ≡ o → Nest (timed_drivers groups islands x k o)
    timed_nest x k None is = tt
    timed_nest x k (Some island) is = island_nest x (first_of_island groups islands k) island (are_at IslandNests islands held k island is)

    over_count : (wire register : ℕ) (ss : PlainStatements) → length (arms_over groups islands wire register ss) ≤ length (visit_all Dynamic ss)
    over_count wire register no_statements = omega arith
    over_count wire register (a_statement (Placed form place) ss) =
        let later : length (arms_over groups islands (wire + wires_of (Placed form place)) (suc register + length (registers_of islands (Placed form place))) ss) ≤ length (visit_all Dynamic ss) =
        over_count (wire + wires_of (Placed form place)) (suc register + length (registers_of islands (Placed form place))) ss in
        omega (arith, length-append (visit Dynamic (Placed form place)) (visit_all Dynamic ss))

    over_stand : (wire register : ℕ) (ss : PlainStatements) → Each (StandsIn 33) (arms_over groups islands wire register ss)
    over_stand wire register no_statements = tt
    over_stand wire register (a_statement s ss) = ((1, omega arith, omega arith, omega arith, ((omega arith, tt, tt), (tt, tt))), over_stand (wire + wires_of s) (suc register + length (registers_of islands s)) ss)

    stand_nests : (x : Stand) → StandsIn 46 x.acts → IsWritableDriver (stands x)
    stand_nests x acts = record { guard = tt; source = (1, omega arith, omega arith, omega arith, (acts, ((omega arith, tt, tt), tt))) }

    turn_nest : (x : Stand) → StandsIn 46 x.acts → Nest (one_turn x)
    turn_nest x acts = (stand_nests x acts, (record { guard = tt; source = tt }, tt))

    mutual
      form_nest : (form : PlainForm) (x : Stand) → FormNests form → StandsIn 46 x.acts → suc (length (visit_parts Dynamic form)) ≤ most → Nest (form_drivers groups islands x form)
      form_nest Empty x h acts few = turn_nest x acts
      form_nest (Enable g) x h acts few =
          (stand_nests x acts, (record { guard = tt; source = (1, omega arith, omega arith, omega arith, (tt, (tt, tt))) }, (record { guard = tt; source = (omega arith, tt) }, tt)))
      form_nest (Seq no_statements) x h acts few = turn_nest x acts
      form_nest (Seq (a_statement s ss)) x h acts few =
          let one : length (visit Dynamic s) ≤ most = omega (arith, length-append (visit Dynamic s) (visit_all Dynamic ss)) in
          let rest : length (visit_all Dynamic ss) ≤ most = omega (arith, length-append (visit Dynamic s) (visit_all Dynamic ss)) in
          each_append IsWritableDriver (drivers_of groups islands (inside x) s) (sequence_drivers groups islands x (inside x).wire (behind islands s (inside x)) ss) (drivers_nest s (inside x) h.0 acts one)
          (sequence_nest x (inside x).wire (behind islands s (inside x)) ss h.1 acts rest)
      form_nest (Par arms) x h acts few =
          let rest : length (visit_all Dynamic arms) ≤ most = omega arith in
          let over : length (arms_over groups islands (suc (suc x.wire)) x.register arms) ≤ length (visit_all Dynamic arms) = over_count (suc (suc x.wire)) x.register arms in
          let count : parts_of (exprs_of (arms_over groups islands (suc (suc x.wire)) x.register arms)) ≡ length (arms_over groups islands (suc (suc x.wire)) x.register arms) =
          exprs_count (arms_over groups islands (suc (suc x.wire)) x.register arms) in (
            stand_nests x acts,
            each_append IsWritableDriver (arms_drivers groups islands x (suc (suc x.wire)) x.register arms) (ends x (AllOf (exprs_of (at x ∷ arms_over groups islands (suc (suc x.wire)) x.register arms))) ∷ [])
                (arms_nest x (suc (suc x.wire)) x.register arms h rest) (
                  record {
                    guard = tt;
                    source = (14, omega arith, omega arith, omega arith, (tt, all_stand 33 (arms_over groups islands (suc (suc x.wire)) x.register arms) (over_stand (suc (suc x.wire)) x.register arms)));
                  },
                  tt,
                ),
          )
      form_nest (If test comb a b) x h acts few =
          let one : length (visit Dynamic a) ≤ most = omega (arith, length-append (visit Dynamic a) (visit Dynamic b)) in
          let two : length (visit Dynamic b) ≤ most = omega (arith, length-append (visit Dynamic a) (visit Dynamic b)) in (
            stand_nests x acts,
            each_append IsWritableDriver (comb_goes groups islands x comb) _ (comb_nest x comb) (
              record { guard = (1, omega arith, omega arith, omega arith, (tt, (h.0, tt))); source = tt },
              each_append IsWritableDriver (drivers_of groups islands (past_test x) a) _ (drivers_nest a (past_test x) h.1 acts one) (
                record { guard = (1, omega arith, omega arith, omega arith, (tt, ((omega arith, h.0), tt))); source = tt },
                each_append IsWritableDriver (drivers_of groups islands (behind islands a (past_test x)) b) _ (drivers_nest b (behind islands a (past_test x)) h.2 acts two)
                    (record { guard = tt; source = (1, omega arith, omega arith, omega arith, (tt, (tt, tt))) }, tt),
              ),
            ),
          )
      form_nest (While test comb a) x h acts few =
          let one : length (visit Dynamic a) ≤ most = omega arith in (
            stand_nests x acts,
            each_append IsWritableDriver (comb_goes groups islands x comb) _ (comb_nest x comb) (
              record { guard = tt; source = (1, omega arith, omega arith, omega arith, (tt, ((omega arith, h.0), tt))) },
              (
                record { guard = (1, omega arith, omega arith, omega arith, (tt, (h.0, tt))); source = tt },
                each_append IsWritableDriver (drivers_of groups islands (past_test x) a) _ (drivers_nest a (past_test x) h.1 acts one) (record { guard = tt; source = tt }, tt),
              ),
            ),
          )
      form_nest (Repeat zero a) x h acts few = turn_nest x acts
      form_nest (Repeat (suc n) a) x h acts few =
          let one : length (visit Dynamic a) ≤ most = omega arith in
          each_append IsWritableDriver (drivers_of groups islands (counted_inside x) a) (counting x n) (drivers_nest a (counted_inside x) h acts one) (
            record { guard = tt; source = (1, omega arith, omega arith, omega arith, (tt, ((omega arith, tt, tt), tt))) },
            (
              record { guard = (1, omega arith, omega arith, omega arith, (tt, ((omega arith, tt, tt), tt))); source = tt },
              (record { guard = tt; source = tt }, (record { guard = tt; source = (omega arith, tt, tt) }, tt)),
            ),
          )
      form_nest (StaticSeq written parts) x h acts few = turn_nest x acts
      form_nest (StaticPar written arms) x h acts few = turn_nest x acts
      form_nest (StaticIf written test a b) x h acts few = turn_nest x acts
      form_nest (StaticRepeat written count a) x h acts few = turn_nest x acts
      form_nest (Timed k) x h acts few = (stand_nests x acts, timed_nest x k (slice_get islands k) refl)

      drivers_nest : (s : PlainStatement) (x : Stand) → StatementNests s → StandsIn 46 x.acts → length (visit Dynamic s) ≤ most → Nest (drivers_of groups islands x s)
      drivers_nest (Placed form place) x h acts few = form_nest form x h acts few

      sequence_nest : (seq : Stand) (before : ℕ) (x : Stand) (ss : PlainStatements) → PartsNest ss → StandsIn 46 x.acts → length (visit_all Dynamic ss) ≤ most → Nest (sequence_drivers groups islands seq before x ss)
      sequence_nest seq before x no_statements h acts few = (record { guard = tt; source = tt }, tt)
      sequence_nest seq before x (a_statement s ss) h acts few =
          let one : length (visit Dynamic s) ≤ most = omega (arith, length-append (visit Dynamic s) (visit_all Dynamic ss)) in
          let rest : length (visit_all Dynamic ss) ≤ most = omega (arith, length-append (visit Dynamic s) (visit_all Dynamic ss)) in (
            record { guard = tt; source = tt },
            each_append IsWritableDriver (drivers_of groups islands x s) (sequence_drivers groups islands seq x.wire (behind islands s x) ss) (drivers_nest s x h.0 acts one) (sequence_nest seq x.wire (behind islands s x) ss h.1 acts rest),
          )

      arms_nest : (par : Stand) (wire register : ℕ) (ss : PlainStatements) → PartsNest ss → length (visit_all Dynamic ss) ≤ most → Nest (arms_drivers groups islands par wire register ss)
      arms_nest par wire register no_statements h few = tt
      arms_nest par wire register (a_statement s ss) h few =
          let one : length (visit Dynamic s) ≤ most = omega (arith, length-append (visit Dynamic s) (visit_all Dynamic ss)) in
          let rest : length (visit_all Dynamic ss) ≤ most = omega (arith, length-append (visit Dynamic s) (visit_all Dynamic ss)) in (
            record { guard = tt; source = tt },
            each_append IsWritableDriver (drivers_of groups islands (arm_stand par wire register) s) _ (drivers_nest s (arm_stand par wire register) h.0 tt one)
                (record { guard = tt; source = tt }, arms_nest par (wire + wires_of s) (suc register + length (registers_of islands s)) ss h.1 rest),
          )

    pub control_nest : (wire : ℕ) (s : PlainStatement) → StatementNests s → length (visit Dynamic s) ≤ most → Nest (control_drivers groups islands wire s)
    control_nest wire s h few =
        each_append IsWritableDriver (drivers_of groups islands (whole_stand wire) s) (finishing wire s) (drivers_nest s (whole_stand wire) h tt few)
        (record { guard = tt; source = tt }, (record { guard = (omega arith, tt, tt); source = tt }, (record { guard = tt; source = (omega arith, tt, tt) }, tt)))

-- TREES
any_pairs : (wire n : ℕ) → PairsFrom (λ m. Unit {0}) (λ m. Unit {0}) wire n
any_pairs wire zero = tt
any_pairs wire (suc n) = (tt, tt, any_pairs (suc (suc wire)) n)

tree_nests : (target : PlainNetTarget) (wire : ℕ) (ds : List PlainNetDriver) → Nest ds → Nest (tree target wire ds)
tree_nests target wire ds h =
    tree_are target IsWritableDriver IsWritableDriver (λ m. Unit {0}) (λ m. Unit {0}) (λ n d on k. record { guard = k.guard; source = tt }) (λ n d value k. record { guard = k.guard; source = k.source })
    (λ n on value. record { guard = tt; source = tt }) (λ d k. record { guard = k.guard; source = k.source }) (length ds) wire ds (any_pairs wire (pairs (length ds))) h

abbrev AllNest : List Driven → Type 0
AllNest ts = Each (λ (t : Driven). Nest t.drivers) ts

with_driver_nest : (d : PlainNetDriver) (ts : List Driven) → IsWritableDriver d → AllNest ts → AllNest (with_driver d ts)
with_driver_nest d [] is h = ((is, tt), tt)
with_driver_nest d (t ∷ ts) is h = choice (is_same d.target t.target)
  where
    choice : (same : Bool) → AllNest (if same then record { target = d.target; drivers = d ∷ t.drivers } ∷ ts else record { target = d.target; drivers = d ∷ [] } ∷ t ∷ ts)
    choice true = ((is, h.0), h.1)
    choice false = ((is, tt), h)

driven_nest : (ds : List PlainNetDriver) → Nest ds → AllNest (driven ds)
driven_nest [] h = tt
driven_nest (d ∷ ds) h = with_driver_nest d (driven ds) h.0 (driven_nest ds h.1)

entries_nest : (ts : List Driven) (wire : ℕ) → AllNest ts → Nest (trees wire ts)
entries_nest [] wire h = tt
entries_nest (t ∷ ts) wire h =
    each_append IsWritableDriver (tree t.target wire t.drivers) (trees (after wire (pairs (length t.drivers))) ts) (tree_nests t.target wire t.drivers h.0) (entries_nest ts (after wire (pairs (length t.drivers))) h.1)

-- ALL TREES
pub trees_nest : (ds : List PlainNetDriver) (wire : ℕ) → Nest ds → Nest (trees wire (driven (by_target ds)))
trees_nest ds wire h = entries_nest (driven (by_target ds)) wire (driven_nest (by_target ds) (by_target_are IsWritableDriver ds h))
