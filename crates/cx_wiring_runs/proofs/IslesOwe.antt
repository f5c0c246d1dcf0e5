-- What the islands of a component owe, where each stands: their drivers are fed, what goes in them is together, and no other driver of
-- control drives the offset of a group.
use Rattle.std.proofs.Common.{◌≡◌, ℕ, zero, suc, ◌+◌, ◌<◌, ◌≤◌, ◌==◌, Bool, true, List, length, replicate, take, Option, Some, None, option_map, unwrap_or, slice_get, refl, sym, ap, ◌∙◌, subst, arith}
use Rattle.std.proofs.lemmas.Bool.{eqb-true}
use Rattle.cx_bits.specs.BitVector.{BitVector}
use Rattle.cx_text.specs.declared.places.Place.{Place}
use Rattle.cx_meaning.specs.declared.ports.PortRef.TheVariants as ports
use Rattle.cx_meaning.specs.Designs.{PlainComponent, PlainForm, Empty, Enable, Seq, Par, If, While, Repeat, StaticSeq, StaticPar, StaticIf, StaticRepeat, Timed, PlainStatement, Placed, PlainStatements, no_statements, a_statement}
use Rattle.cx_meaning.specs.Islands.{group_length, form_length}
use Rattle.cx_net.specs.Nets.{PlainNetExpr, OfPort, OfRegister, ToWire, PlainNetDriver}
use Rattle.cx_net.specs.NetMeaning.{Node, APort, AWire, NetAround, truth_bit}
use Rattle.cx_static.specs.declared.islands.IslandTimer.{IslandTimer}
use Rattle.cx_static.specs.Islands.{PlainPoint, PlainIsland}
use Rattle.cx_static.specs.Lowering.{Lowering, with_island, form_after, after, parts_after, lowered_enable, after_enable, lowered_form, lowered, lowered_parts, lowered_component, unlowered, island_gathered, island_of}
use Rattle.cx_wiring.specs.Parts.{both, equals}
use Rattle.cx_wiring.specs.Counts.{wires_of, sample_registers, form_registers, registers_of, registers_in, arms_registers}
use Rattle.cx_wiring.specs.Stands.{Stand, at, end_of, inside, past_test, behind}
use Rattle.cx_wiring.specs.IslandDrivers.{wires_of_island, island_wires, first_of_island, island_drivers}
use Rattle.cx_wiring.specs.Control.{one_turn, arm_stand, counted_inside, counting, comb_goes, timed_drivers, form_drivers, drivers_of, parts_drivers, arms_drivers}
use Rattle.cx_wiring.specs.Wiring.{groups, first_of_control}
use Rattle.cx_wiring.specs.Bounds.{IslandNames, IslandsName}
use Rattle.cx_wiring.specs.Takings.{AllConnect, AreRegisters}
use Rattle.cx_wiring.proofs.TakingLemmas.{connect_both, registers_both}
use Rattle.cx_wiring.proofs.IslandTargets.{wires_at, island_within}
use Rattle.cx_wiring.proofs.ControlTargets.{names_at}
use Rattle.cx_wiring.proofs.IslandCells.{IsBefore, both_before, before_after, before_parts, listed}
use Rattle.cx_wiring.proofs.TimerRows.{EachTimer}
use Rattle.cx_wiring_cycles.specs.Shown.{wide}
use Rattle.cx_wiring_cycles.specs.IslandNumbers.{cell_of_timer}
use Rattle.cx_wiring_cycles.specs.IslandTakes.{FormIslands, StatementIslands, PartsIslands, ArmsIslands, TakesIsland}
use Rattle.cx_wiring_cycles.proofs.IslandReads.{NoTimed, IsUntimed, NoneTimed}
use Rattle.cx_wiring_cycles.proofs.IslandAway.{named_at}
use Rattle.cx_wiring_runs.proofs.KnownLemmas.{Known, known_as, KnownExpr, Fed, known_two, known_equals, AllOfThem, AllTo, all_to_append, all_any_target}
use Rattle.cx_wiring_runs.proofs.GuardsKnown.{fed_connect}
use Rattle.cx_wiring_runs.proofs.TogetherGoes.{IsleGoes, IsleEnable, FormIsles, StatementIsles, PartsIsles, ArmsIsles}
use Rattle.cx_wiring_runs.proofs.IslandKnown.{IslandGiven, island_fed, end_source_known}
use Rattle.cx_wiring_runs.proofs.IslandGoes.{isle_goes}
use Rattle.cx_text.proofs.ListLaws.{get_end}
use Rattle.cx_text.proofs.NumberLaws.{never}

-- registers from one on have values
register_known : (registers : ℕ → Option BitVector) (around : NetAround) (look : Node → Option BitVector) (kept : ℕ → ℕ) (m r : ℕ) → AreRegisters around registers look kept r (replicate m 1) → (n : ℕ) → n < m → Known (registers (r + n))
register_known registers around look kept zero r h n less = absurd (omega arith)
register_known registers around look kept (suc m) r h zero less = let same : r + 0 ≡ r = omega arith in (_, ap registers same ∙ h.0)
register_known registers around look kept (suc m) r h (suc n) less =
    let same : r + suc n ≡ suc r + n = omega arith in known_as _ _ (ap registers same) (register_known registers around look kept m (suc r) h.1 n (omega arith))

module _ (part : PlainComponent) (named : IslandsName (groups (lowered_component part)) (lowered_component part).islands) (around : NetAround) (registers : ℕ → Option BitVector) (look : Node → Option BitVector) (kept : ℕ → ℕ)
    (narrow : (n : ℕ) (v : BitVector) → groups (lowered_component part) ≤ n → n < first_of_control (lowered_component part) → look (AWire n) ≡ Some v → (b : Bool) × (v ≡ truth_bit b)) (count_of : ℕ → ℕ) (done_of : ℕ → Bool)
    (tells : EachTimer part (λ timer. (look (APort (ports.Cell timer.cell 1)) ≡ Some (wide (count_of timer.cell))) × (look (APort (ports.Cell timer.cell 2)) ≡ Some (truth_bit (done_of timer.cell)))))
    (points_known : (k : ℕ) (island : PlainIsland) → slice_get (lowered_component part).islands k ≡ Some island → (n : ℕ) (p : PlainPoint) → slice_get island.points n ≡ Some p → KnownExpr around registers look (OfPort p.port)) where
  abbrev G : ℕ
  G = groups (lowered_component part)

  abbrev I : List PlainIsland
  I = (lowered_component part).islands

  abbrev B : ℕ
  B = groups (lowered_component part) + island_wires (lowered_component part).islands

  abbrev K : PlainNetExpr → Type 0
  K = KnownExpr around registers look

  abbrev F : PlainNetDriver → Type 0
  F = Fed around registers look

  abbrev pub Fits : ℕ → Stand → Type 0
  Fits k x = AllOfThem (Fed around registers look) (form_drivers (groups (lowered_component part)) (lowered_component part).islands x (Timed k)) × KnownExpr around registers look (end_of x.wire)

  abbrev Takes : ℕ → Stand → Type 0
  Takes k x = TakesIsland (groups (lowered_component part)) (lowered_component part).islands around registers look k x

  -- ONE ISLAND, where its statement stands
  module _ (k : ℕ) (x : Stand) (low : groups (lowered_component part) + island_wires (lowered_component part).islands ≤ x.wire) (taken : Takes k x) (here : KnownExpr around registers look (at x))
      (regs : AreRegisters around registers look kept x.register (sample_registers (slice_get (lowered_component part).islands k))) where
    abbrev island : PlainIsland
    island = taken.there.0

    abbrev first : ℕ
    first = first_of_island (groups (lowered_component part)) (lowered_component part).islands k

    abbrev is : slice_get (lowered_component part).islands k ≡ Some taken.there.0
    is = taken.there.1

    abbrev count : ℕ → ℕ
    count t = count_of (cell_of_timer taken.there.0.timers t)

    its_cell : (t : ℕ) (timer : IslandTimer) → slice_get taken.there.0.timers t ≡ Some timer → cell_of_timer taken.there.0.timers t ≡ timer.cell
    its_cell t timer e = ap (λ (o : Option IslandTimer). unwrap_or (option_map (λ (z : IslandTimer). z.cell) o) 0) e

    end_below : first_of_island (groups (lowered_component part)) (lowered_component part).islands k + wires_of_island taken.there.0 ≤ groups (lowered_component part) + island_wires (lowered_component part).islands
    end_below =
        let within : island_wires (take k I) + wires_at (slice_get I k) ≤ island_wires I = island_within I k in
        let own : wires_at (slice_get I k) ≡ wires_of_island taken.there.0 = ap wires_at taken.there.1 in omega arith

    its_given : IslandGiven (groups (lowered_component part)) x (first_of_island (groups (lowered_component part)) (lowered_component part).islands k) taken.there.0 around registers look
    its_given =
        let bounds = end_below in
        record {
          listed = listed part k taken.there.0 taken.there.1;
          reads = λ n l h. taken.wires taken.there.0 taken.there.1 n l h;
          high = omega arith;
          groups_low = λ j v e. let less : v.group < G = named_at G taken.there.0.occurrences (subst (IslandNames G) taken.there.1 (names_at G I k named)) j v e in omega arith;
          at_known = here;
          counts = λ t timer e. (_, (tells k taken.there.0 taken.there.1 t timer e).0);
          dones = λ t timer e. (_, (tells k taken.there.0 taken.there.1 t timer e).1);
          kept = λ n less. register_known registers around look kept (length taken.there.0.points) x.register (subst (λ o. AreRegisters around registers look kept x.register (sample_registers o)) taken.there.1 regs) n less;
          ports_known = λ n p e. points_known k taken.there.0 taken.there.1 n p e;
        }

    island_fits : (acts : KnownExpr around registers look (both x.acts (equals (OfRegister x.region) x.position))) → AllConnect around registers look (groups (lowered_component part) + island_wires (lowered_component part).islands) (form_drivers (groups (lowered_component part)) (lowered_component part).islands x (Timed k)) → Fits k x
    island_fits acts c =
        let c2 : AllConnect around registers look B (island_drivers G x (first_of_island G I k) taken.there.0) = subst (λ o. AllConnect around registers look B (timed_drivers G I x k o)) taken.there.1 c.1 in
        let high : B ≤ suc x.wire = omega arith in (
          (fed_connect around registers look x.wire _ acts, subst (λ o. AllOfThem F (timed_drivers G I x k o)) (sym taken.there.1) (island_fed G x (first_of_island G I k) taken.there.0 around registers look its_given)),
          known_as _ _ (c2.0 high) (end_source_known G x (first_of_island G I k) taken.there.0 around registers look its_given),
        )

    island_goes : (form : PlainForm) (place : Place) (l : Lowering) → slice_get (lowered_component part).islands k ≡ Some (island_of (form_length part form) (island_gathered part form l.cells))
        → IsleGoes part (groups (lowered_component part)) (lowered_component part).islands around registers look (groups (lowered_component part) + island_wires (lowered_component part).islands) kept form place k x
    island_goes form place l made =
        let bounds = end_below in
        isle_goes G x (first_of_island G I k) taken.there.0 around registers look its_given (λ n v from to e. narrow n v (omega arith) (omega arith) e) count (done_of (cell_of_timer taken.there.0.timers 0))
        (λ t timer e. (tells k taken.there.0 taken.there.1 t timer e).0 ∙ ap (λ c. Some (wide (count_of c))) (sym (its_cell t timer e)))
        (λ timer e. (tells k taken.there.0 taken.there.1 0 timer e).1 ∙ ap (λ c. Some (truth_bit (done_of c))) (sym (its_cell 0 timer e)))
        part I B kept form place l.cells k taken.there.1 (same (sym taken.there.1 ∙ made)) refl
      where
        same : {a b : PlainIsland} → ◌≡◌ {A = Option PlainIsland} (Some a) (Some b) → a ≡ b
        same {a} {b} e = cc

  -- ALL ISLANDS of a statement
  abbrev pub final : Lowering
  final = after part part.control (unlowered part)

  pub record Standing (acts : PlainNetExpr) (region : ℕ) : Type 0 where
    pub acts_known : KnownExpr around registers look acts
    pub register_known : KnownExpr around registers look (OfRegister region)

  abbrev Offsets : List PlainNetDriver → Type 0
  Offsets ds = (g : ℕ) → g < groups (lowered_component part) → AllTo (Fed around registers look) (ToWire g) ds

  pub record FormPassed (form : PlainForm) (place : Place) (l : Lowering) (x : Stand) : Type 0 where
    pub isles : FormIsles part (groups (lowered_component part)) (lowered_component part).islands around registers look (groups (lowered_component part) + island_wires (lowered_component part).islands) kept form place l x
    pub fits : FormIslands Fits (lowered_component part).islands x (lowered_form part form l)
    pub offsets : (g : ℕ) → g < groups (lowered_component part) → AllTo (Fed around registers look) (ToWire g) (form_drivers (groups (lowered_component part)) (lowered_component part).islands x (lowered_form part form l))

  pub record Passed (s : PlainStatement) (l : Lowering) (x : Stand) : Type 0 where
    pub isles : StatementIsles part (groups (lowered_component part)) (lowered_component part).islands around registers look (groups (lowered_component part) + island_wires (lowered_component part).islands) kept s l x
    pub fits : StatementIslands Fits (lowered_component part).islands x (lowered part s l)
    pub offsets : (g : ℕ) → g < groups (lowered_component part) → AllTo (Fed around registers look) (ToWire g) (drivers_of (groups (lowered_component part)) (lowered_component part).islands x (lowered part s l))

  record PartsPassed (ss : PlainStatements) (l : Lowering) (seq : Stand) (before : ℕ) (x : Stand) : Type 0 where
    isles : PartsIsles part (groups (lowered_component part)) (lowered_component part).islands around registers look (groups (lowered_component part) + island_wires (lowered_component part).islands) kept ss l x
    fits : PartsIslands Fits (lowered_component part).islands x (lowered_parts part ss l)
    offsets : Offsets (parts_drivers (groups (lowered_component part)) (lowered_component part).islands seq before x (lowered_parts part ss l))

  record ArmsPassed (ss : PlainStatements) (l : Lowering) (par : Stand) (wire register : ℕ) : Type 0 where
    isles : ArmsIsles part (groups (lowered_component part)) (lowered_component part).islands around registers look (groups (lowered_component part) + island_wires (lowered_component part).islands) kept ss l par wire register
    fits : ArmsIslands Fits (lowered_component part).islands par wire register (lowered_parts part ss l)
    offsets : Offsets (arms_drivers (groups (lowered_component part)) (lowered_component part).islands par wire register (lowered_parts part ss l))

  -- a wire of control is none of an offset
  far : {A : Type 0} (n g : ℕ) → g < groups (lowered_component part) → groups (lowered_component part) + island_wires (lowered_component part).islands ≤ n → (n == g) ≡ true → A
  far n g less low e = let f : n ≡ g = eqb-true n g e in absurd (omega (arith, f, less, low))

  turn_far : (x : Stand) → groups (lowered_component part) + island_wires (lowered_component part).islands ≤ x.wire → Offsets (one_turn x)
  turn_far x low g less = ((λ e. far x.wire g less low e), ((λ e. far (suc x.wire) g less (omega arith) e), tt))

  comb_far : (x : Stand) (c : Option ℕ) → Offsets (comb_goes (groups (lowered_component part)) (lowered_component part).islands x c)
  comb_far x None g less = tt
  comb_far x (Some h) g less = ((λ e. never e), tt)

  counting_far : (x : Stand) (n : ℕ) → groups (lowered_component part) + island_wires (lowered_component part).islands ≤ x.wire → Offsets (counting x n)
  counting_far x n low g less = ((λ e. far (suc x.wire) g less (omega arith) e), ((λ e. never e), ((λ e. never e), ((λ e. never e), tt))))

  stands_known : (x : Stand) → Standing x.acts x.region → KnownExpr around registers look (both x.acts (equals (OfRegister x.region) x.position))
  stands_known x s = known_two around registers look x.acts (equals (OfRegister x.region) x.position) (Standing.acts_known s) (known_equals around registers look (OfRegister x.region) x.position (Standing.register_known s))

  -- the island of a form, made at this stage
  isle_passed : (form : PlainForm) (place : Place) (l : Lowering) (x : Stand) → Standing x.acts x.region → groups (lowered_component part) + island_wires (lowered_component part).islands ≤ x.wire
      → AllConnect around registers look (groups (lowered_component part) + island_wires (lowered_component part).islands) (form_drivers (groups (lowered_component part)) (lowered_component part).islands x (Timed (length l.islands)))
      → AreRegisters around registers look kept x.register (sample_registers (slice_get (lowered_component part).islands (length l.islands))) → IsBefore (with_island part form l) final → Takes (length l.islands) x
      → IsleGoes part (groups (lowered_component part)) (lowered_component part).islands around registers look (groups (lowered_component part) + island_wires (lowered_component part).islands) kept form place (length l.islands) x × Fits (length l.islands) x
      × Offsets (form_drivers (groups (lowered_component part)) (lowered_component part).islands x (Timed (length l.islands)))
  isle_passed form place l x s low c regs before taken =
      let acts = stands_known x s in
      let here : KnownExpr around registers look (at x) = known_as _ _ (c.0 low) acts in
      let fits = island_fits (length l.islands) x low taken here regs acts c in (
        island_goes (length l.islands) x low taken here regs form place l (before.islands (length l.islands) _ (get_end l.islands (island_of (form_length part form) (island_gathered part form l.cells)))),
        fits,
        (λ g less. all_any_target (Fed around registers look) (ToWire g) (form_drivers (groups (lowered_component part)) (lowered_component part).islands x (Timed (length l.islands))) fits.0),
      )

  abbrev CC : List PlainNetDriver → Type 0
  CC ds = AllConnect around registers look (groups (lowered_component part) + island_wires (lowered_component part).islands) ds

  abbrev RR : ℕ → List ℕ → Type 0
  RR r ws = AreRegisters around registers look kept r ws

  mutual
    form_pass : (form : PlainForm) (place : Place) (l : Lowering) (x : Stand) → NoTimed form → Standing x.acts x.region → groups (lowered_component part) + island_wires (lowered_component part).islands ≤ x.wire
        → AllConnect around registers look (groups (lowered_component part) + island_wires (lowered_component part).islands) (form_drivers (groups (lowered_component part)) (lowered_component part).islands x (lowered_form part form l))
        → AreRegisters around registers look kept x.register (form_registers (lowered_component part).islands (lowered_form part form l)) → IsBefore (form_after part form l) final
        → FormIslands Takes (lowered_component part).islands x (lowered_form part form l) → FormPassed form place l x
    form_pass Empty place l x u s low c k b isles = record { isles = tt; fits = tt; offsets = turn_far x low }
    form_pass (Enable g) place l x u s low c k b isles = by (group_length part g) refl c k b isles
      where
        by : (o : Option ℕ) → group_length part g ≡ o → CC (form_drivers (groups (lowered_component part)) (lowered_component part).islands x (lowered_enable part g o l)) → RR x.register (form_registers (lowered_component part).islands (lowered_enable part g o l))
            → IsBefore (after_enable part g o l) final → FormIslands Takes (lowered_component part).islands x (lowered_enable part g o l) → FormPassed (Enable g) place l x
        by None e c k b isles = record {
          isles = subst (λ o. IsleEnable part (groups (lowered_component part)) (lowered_component part).islands around registers look (groups (lowered_component part) + island_wires (lowered_component part).islands) kept g place o l x) (sym e) tt;
          fits = subst (λ o. FormIslands Fits (lowered_component part).islands x (lowered_enable part g o l)) (sym e) tt;
          offsets = subst (λ o. Offsets (form_drivers (groups (lowered_component part)) (lowered_component part).islands x (lowered_enable part g o l))) (sym e)
              (λ h less. ((λ f. far x.wire h less low f), ((λ f. far (suc x.wire) h less (omega arith) f), ((λ f. never f), tt))));
        }
        by (Some n) e c k b isles =
            let r = isle_passed (Enable g) place l x s low c k b isles in
            record {
              isles = subst (λ o. IsleEnable part (groups (lowered_component part)) (lowered_component part).islands around registers look (groups (lowered_component part) + island_wires (lowered_component part).islands) kept g place o l x) (sym e) r.0;
              fits = subst (λ o. FormIslands Fits (lowered_component part).islands x (lowered_enable part g o l)) (sym e) r.1;
              offsets = subst (λ o. Offsets (form_drivers (groups (lowered_component part)) (lowered_component part).islands x (lowered_enable part g o l))) (sym e) r.2;
            }
    form_pass (Seq no_statements) place l x u s low c k b isles = record { isles = tt; fits = tt; offsets = turn_far x low }
    form_pass (Seq (a_statement t ts)) place l x u s low c k b isles =
        let cs = connect_both around registers look B (drivers_of G I (inside x) (lowered part t l)) _ c in
        let ks = registers_both around registers look kept x.register (registers_of I (lowered part t l)) _ k in
        let first = statement_pass t l (inside x) u.0 s (omega arith) cs.0 ks.0 (both_before part (after part t l) (parts_after part ts (after part t l)) final (before_parts part ts (after part t l)) b) isles.0 in
        let rest = parts_pass ts (after part t l) x (inside x).wire (behind I (lowered part t l) (inside x)) u.1 s low (omega arith) cs.1 ks.1 b isles.1 in
        record {
          isles = (Passed.isles first, PartsPassed.isles rest);
          fits = (Passed.fits first, PartsPassed.fits rest);
          offsets = λ g less. all_to_append F (ToWire g) (drivers_of G I (inside x) (lowered part t l)) _ (Passed.offsets first g less) (PartsPassed.offsets rest g less);
        }
    form_pass (Par arms) place l x u s low c k b isles =
        let here : KnownExpr around registers look (at x) = known_as _ _ (c.0 low) (stands_known x s) in
        let cs = connect_both around registers look B (arms_drivers G I x (suc (suc x.wire)) x.register (lowered_parts part arms l)) _ c.1 in
        let all = arms_pass arms l x (suc (suc x.wire)) x.register u here (omega arith) cs.0 k b isles in
        record {
          isles = ArmsPassed.isles all;
          fits = ArmsPassed.fits all;
          offsets = λ g less. ((λ e. far x.wire g less low e), all_to_append F (ToWire g) (arms_drivers G I x (suc (suc x.wire)) x.register (lowered_parts part arms l)) _ (ArmsPassed.offsets all g less) ((λ e. far (suc x.wire) g less (omega arith) e), tt));
        }
    form_pass (If test cg a d) place l x u s low c k b isles =
        let ks = registers_both around registers look kept x.register (registers_of I (lowered part a l)) _ k in
        let c_comb = connect_both around registers look B (comb_goes G I x cg) _ c.1 in
        let c_a = connect_both around registers look B (drivers_of G I (past_test x) (lowered part a l)) _ c_comb.1.1 in
        let c_b = connect_both around registers look B (drivers_of G I (behind I (lowered part a l) (past_test x)) (lowered part d (after part a l))) _ c_a.1.1 in
        let one = statement_pass a l (past_test x) u.0 s (omega arith) c_a.0 ks.0 (both_before part (after part a l) (after part d (after part a l)) final (before_after part d (after part a l)) b) isles.0 in
        let other = statement_pass d (after part a l) (behind I (lowered part a l) (past_test x)) u.1 s (omega arith) c_b.0 ks.1 b isles.1 in
        record {
          isles = (Passed.isles one, Passed.isles other);
          fits = (Passed.fits one, Passed.fits other);
          offsets = λ g less. (
            (λ e. far x.wire g less low e),
            all_to_append F (ToWire g) (comb_goes G I x cg) _ (comb_far x cg g less) (
              (λ e. never e),
              all_to_append F (ToWire g) (drivers_of G I (past_test x) (lowered part a l)) _ (Passed.offsets one g less)
                  ((λ e. never e), all_to_append F (ToWire g) (drivers_of G I (behind I (lowered part a l) (past_test x)) (lowered part d (after part a l))) _ (Passed.offsets other g less) ((λ e. far (suc x.wire) g less (omega arith) e), tt)),
            ),
          );
        }
    form_pass (While test cg a) place l x u s low c k b isles =
        let c_comb = connect_both around registers look B (comb_goes G I x cg) _ c.1 in
        let c_a = connect_both around registers look B (drivers_of G I (past_test x) (lowered part a l)) _ c_comb.1.1.1 in
        let body = statement_pass a l (past_test x) u s (omega arith) c_a.0 k b isles in
        record {
          isles = Passed.isles body;
          fits = Passed.fits body;
          offsets = λ g less. (
            (λ e. far x.wire g less low e),
            all_to_append F (ToWire g) (comb_goes G I x cg) _ (comb_far x cg g less)
                ((λ e. far (suc x.wire) g less (omega arith) e), ((λ e. never e), all_to_append F (ToWire g) (drivers_of G I (past_test x) (lowered part a l)) _ (Passed.offsets body g less) ((λ e. never e), tt))),
          );
        }
    form_pass (Repeat zero a) place l x u s low c k b isles = record { isles = tt; fits = tt; offsets = turn_far x low }
    form_pass (Repeat (suc n) a) place l x u s low c k b isles =
        let cs = connect_both around registers look B (drivers_of G I (counted_inside x) (lowered part a l)) (counting x n) c in
        let body = statement_pass a l (counted_inside x) u s (omega arith) cs.0 k.1 b isles in
        record {
          isles = Passed.isles body;
          fits = Passed.fits body;
          offsets = λ g less. all_to_append F (ToWire g) (drivers_of G I (counted_inside x) (lowered part a l)) (counting x n) (Passed.offsets body g less) (counting_far x n low g less);
        }
    form_pass (StaticSeq written parts) place l x u s low c k b isles = let r = isle_passed (StaticSeq written parts) place l x s low c k b isles in record { isles = r.0; fits = r.1; offsets = r.2 }
    form_pass (StaticPar written arms) place l x u s low c k b isles = let r = isle_passed (StaticPar written arms) place l x s low c k b isles in record { isles = r.0; fits = r.1; offsets = r.2 }
    form_pass (StaticIf written test a d) place l x u s low c k b isles = let r = isle_passed (StaticIf written test a d) place l x s low c k b isles in record { isles = r.0; fits = r.1; offsets = r.2 }
    form_pass (StaticRepeat written count a) place l x u s low c k b isles = let r = isle_passed (StaticRepeat written count a) place l x s low c k b isles in record { isles = r.0; fits = r.1; offsets = r.2 }
    form_pass (Timed n) place l x u s low c k b isles = absurd u

    pub statement_pass : (t : PlainStatement) (l : Lowering) (x : Stand) → IsUntimed t → Standing x.acts x.region → groups (lowered_component part) + island_wires (lowered_component part).islands ≤ x.wire
        → AllConnect around registers look (groups (lowered_component part) + island_wires (lowered_component part).islands) (drivers_of (groups (lowered_component part)) (lowered_component part).islands x (lowered part t l))
        → AreRegisters around registers look kept x.register (registers_of (lowered_component part).islands (lowered part t l)) → IsBefore (after part t l) final → StatementIslands Takes (lowered_component part).islands x (lowered part t l) → Passed t l x
    statement_pass (Placed form place) l x u s low c k b isles = let r = form_pass form place l x u s low c k b isles in record { isles = FormPassed.isles r; fits = FormPassed.fits r; offsets = FormPassed.offsets r }

    parts_pass : (ts : PlainStatements) (l : Lowering) (seq : Stand) (before : ℕ) (x : Stand) → NoneTimed ts → Standing x.acts x.region → groups (lowered_component part) + island_wires (lowered_component part).islands ≤ seq.wire
        → groups (lowered_component part) + island_wires (lowered_component part).islands ≤ x.wire → CC (parts_drivers (groups (lowered_component part)) (lowered_component part).islands seq before x (lowered_parts part ts l))
        → RR x.register (registers_in (lowered_component part).islands (lowered_parts part ts l)) → IsBefore (parts_after part ts l) final → PartsIslands Takes (lowered_component part).islands x (lowered_parts part ts l) → PartsPassed ts l seq before x
    parts_pass no_statements l seq before x u s base low c k b isles = record { isles = tt; fits = tt; offsets = λ g less. ((λ e. far (suc seq.wire) g less (omega arith) e), tt) }
    parts_pass (a_statement t ts) l seq before x u s base low c k b isles =
        let cs = connect_both around registers look B (drivers_of G I x (lowered part t l)) _ c.1 in
        let ks = registers_both around registers look kept x.register (registers_of I (lowered part t l)) _ k in
        let first = statement_pass t l x u.0 s low cs.0 ks.0 (both_before part (after part t l) (parts_after part ts (after part t l)) final (before_parts part ts (after part t l)) b) isles.0 in
        let rest = parts_pass ts (after part t l) seq x.wire (behind I (lowered part t l) x) u.1 s base (omega arith) cs.1 ks.1 b isles.1 in
        record {
          isles = (Passed.isles first, PartsPassed.isles rest);
          fits = (Passed.fits first, PartsPassed.fits rest);
          offsets = λ g less. ((λ e. never e), all_to_append F (ToWire g) (drivers_of G I x (lowered part t l)) _ (Passed.offsets first g less) (PartsPassed.offsets rest g less));
        }

    arms_pass : (ts : PlainStatements) (l : Lowering) (par : Stand) (wire register : ℕ) → NoneTimed ts → KnownExpr around registers look (at par) → groups (lowered_component part) + island_wires (lowered_component part).islands ≤ wire
        → CC (arms_drivers (groups (lowered_component part)) (lowered_component part).islands par wire register (lowered_parts part ts l)) → RR register (arms_registers (lowered_component part).islands (lowered_parts part ts l)) → IsBefore (parts_after part ts l) final
        → ArmsIslands Takes (lowered_component part).islands par wire register (lowered_parts part ts l) → ArmsPassed ts l par wire register
    arms_pass no_statements l par wire register u here low c k b isles = record { isles = tt; fits = tt; offsets = λ g less. tt }
    arms_pass (a_statement t ts) l par wire register u here low c k b isles =
        let cs = connect_both around registers look B (drivers_of G I (arm_stand par wire register) (lowered part t l)) _ c.1 in
        let ks = registers_both around registers look kept (suc register) (registers_of I (lowered part t l)) _ k.1 in
        let s : Standing (at par) register = record { acts_known = here; register_known = (_, k.0) } in
        let first = statement_pass t l (arm_stand par wire register) u.0 s low cs.0 ks.0 (both_before part (after part t l) (parts_after part ts (after part t l)) final (before_parts part ts (after part t l)) b) isles.0 in
        let rest = arms_pass ts (after part t l) par (wire + wires_of (lowered part t l)) (suc register + length (registers_of I (lowered part t l))) u.1 here (omega arith) cs.1.1 ks.1 b isles.1 in
        record {
          isles = (Passed.isles first, ArmsPassed.isles rest);
          fits = (Passed.fits first, ArmsPassed.fits rest);
          offsets = λ g less. ((λ e. never e), all_to_append F (ToWire g) (drivers_of G I (arm_stand par wire register) (lowered part t l)) _ (Passed.offsets first g less) ((λ e. never e), ArmsPassed.offsets rest g less));
        }
