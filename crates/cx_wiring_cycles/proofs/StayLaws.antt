-- Where nothing that a statement drives acts, its numbers stay 0.
use Rattle.std.proofs.Common.{◌≡◌, ℕ, zero, suc, ◌+◌, ◌-◌, Bool, true, false, if◌then◌else◌, List, [], ◌∷◌, ◌++◌, length, Option, Some, None, nat_lt, refl, sym, ◌∙◌}
use Rattle.cx_bits.specs.BitVector.{BitVector}
use Rattle.cx_meaning.specs.Designs.{PlainComponent, PlainForm, Empty, Enable, Seq, Par, If, While, Repeat, StaticSeq, StaticPar, StaticIf, StaticRepeat, Timed, PlainStatement, Placed, PlainStatements, no_statements, a_statement}
use Rattle.cx_meaning.specs.Islands.{group_length}
use Rattle.cx_lockstep.specs.Statements.{LeafMachines}
use Rattle.cx_control.specs.Codings.{Coding, beside}
use Rattle.cx_control.specs.StatementCodings.{LeafCodings, statement_coding}
use Rattle.cx_net.specs.Nets.{OfRegister, Sum, ToRegister, PlainNetDriver}
use Rattle.cx_net.specs.NetMeaning.{Node, NetAround}
use Rattle.cx_static.specs.Islands.{PlainIsland}
use Rattle.cx_static.specs.Lowering.{Lowering, after, lowered, lowered_parts, lowered_enable}
use Rattle.cx_wiring.specs.Counts.{registers_of, wires_of}
use Rattle.cx_wiring.specs.Parts.{word, drive}
use Rattle.cx_wiring.specs.Stands.{Stand, end_of, inside, past_test, behind}
use Rattle.cx_wiring.specs.Control.{arm_stand, arm_restarts, arm_finishes, counted_inside, counting, comb_goes, form_drivers, drivers_of, parts_drivers, arms_drivers}
use Rattle.cx_wiring.specs.Takings.{takes, AllIdle}
use Rattle.cx_wiring.proofs.TakingLemmas.{idle_passes, idle_both, idle_split}
use Rattle.cx_wiring_cycles.specs.IslandTakes.{IslandNexts}
use Rattle.cx_wiring_cycles.specs.Shown.{wide, enable_number, counted, form_number, number_of, parts_number, arms_number, FormNexts, StatementNexts, PartsNext, ArmsNext}
use Rattle.cx_wiring_cycles.proofs.ArmTurns.{wide_value}

pub beside_pointwise : (c : ℕ) (a b f g : ℕ → ℕ) → ((j : ℕ) → a j ≡ 0 → f j ≡ 0) → ((j : ℕ) → b j ≡ 0 → g j ≡ 0) → (n : ℕ) → beside c a b n ≡ 0 → beside c f g n ≡ 0
beside_pointwise c a b f g first later n e = choice (nat_lt n c) e
  where
    choice : (t : Bool) → (if t then a n else b (n - c)) ≡ 0 → ◌≡◌ {A = ℕ} (if t then f n else g (n - c)) 0
    choice true e = first n e
    choice false e = later (n - c) e

module _ (groups : ℕ) (islands : List PlainIsland) (around : NetAround) (registers : ℕ → Option BitVector) (look : Node → Option BitVector) (kept next : ℕ → ℕ) where
  -- a register whose drivers do not act keeps its value
  keeps : (n : ℕ) (ds : List PlainNetDriver) → AllIdle around registers look ds → takes around registers look (ToRegister n) (Some (wide (kept n))) ds ≡ Some (wide (next n)) → kept n ≡ next n
  keeps n ds idle e = wide_value (kept n) (next n) (sym (idle_passes around registers look (ToRegister n) tt (Some (wide (kept n))) ds idle) ∙ e)

  module _ {X : Type 0} {V : X → Type 0} {F : Type 0} (leaves : LeafMachines X V F) (codings : LeafCodings leaves) (part : PlainComponent) (now_island next_island : ℕ → ℕ → ℕ → ℕ)
      (island_rests : (k : ℕ) (x : Stand) → AllIdle around registers look (form_drivers groups islands x (Timed k)) → IslandNexts groups islands around registers look kept next k x → (n : ℕ) → now_island x.register k n ≡ 0 → next_island x.register k n ≡ 0) where
    enable_stays : (g : ℕ) (o : Option ℕ) (l : Lowering) (x : Stand) → AllIdle around registers look (form_drivers groups islands x (lowered_enable part g o l)) → FormNexts groups islands around registers look kept next x (lowered_enable part g o l) → (n : ℕ)
        → enable_number leaves codings part islands kept now_island o l x.register n ≡ 0 → enable_number leaves codings part islands next next_island o l x.register n ≡ 0
    enable_stays g None l x idle h n e = refl
    enable_stays g (Some cycles) l x idle h n e = island_rests _ x idle h n e

    counted_stays : (a b : ℕ) (f g : ℕ → ℕ) → a ≡ b → ((n : ℕ) → f n ≡ 0 → g n ≡ 0) → (n : ℕ) → counted a f n ≡ 0 → counted b g n ≡ 0
    counted_stays a b f g same later zero e = sym same ∙ e
    counted_stays a b f g same later (suc n) e = later n e

    mutual
      form_stays : (form : PlainForm) (l : Lowering) (x : Stand) → AllIdle around registers look (drivers_of groups islands x (lowered part (Placed form (record { line = 1; column = 1 })) l))
          → StatementNexts groups islands around registers look kept next x (lowered part (Placed form (record { line = 1; column = 1 })) l) → (n : ℕ)
          → form_number leaves codings part islands kept now_island form l x.register n ≡ 0 → form_number leaves codings part islands next next_island form l x.register n ≡ 0
      form_stays Empty l x idle h n e = refl
      form_stays (Enable g) l x idle h n e = enable_stays g (group_length part g) l x idle h n e
      form_stays (Seq no_statements) l x idle h n e = refl
      form_stays (Seq (a_statement s ss)) l x idle h n e =
          let i = idle_split around registers look (drivers_of groups islands (inside x) (lowered part s l)) _ idle in
          beside_pointwise (Coding.extra (statement_coding leaves codings s)) _ _ _ _ (λ j. stays s l (inside x) i.0 h.0 j) (λ j. parts_stay ss (after part s l) x _ (behind islands (lowered part s l) (inside x)) i.1 h.1 j) n e
      form_stays (Par arms) l x idle h n e =
          let i = idle_split around registers look (arms_drivers groups islands x (suc (suc x.wire)) x.register (lowered_parts part arms l)) _ idle.1 in
          arms_stay arms l x (suc (suc x.wire)) x.register i.0 h.1 n e
      form_stays (If test comb a b) l x idle h n e =
          let i = idle_split around registers look (comb_goes groups islands x comb) _ idle.1 in
          let j = idle_split around registers look (drivers_of groups islands (past_test x) (lowered part a l)) _ i.1.1 in
          let k = idle_split around registers look (drivers_of groups islands (behind islands (lowered part a l) (past_test x)) (lowered part b (after part a l))) _ j.1.1 in
          beside_pointwise (Coding.extra (statement_coding leaves codings a)) _ _ _ _ (λ m. stays a l (past_test x) j.0 h.0 m) (λ m. stays b (after part a l) (behind islands (lowered part a l) (past_test x)) k.0 h.1 m) n e
      form_stays (While test comb a) l x idle h n e =
          let i = idle_split around registers look (comb_goes groups islands x comb) _ idle.1 in
          let j = idle_split around registers look (drivers_of groups islands (past_test x) (lowered part a l)) _ i.1.1.1 in
          stays a l (past_test x) j.0 h n e
      form_stays (Repeat zero a) l x idle h n e = refl
      form_stays (Repeat (suc k) a) l x idle h n e =
          let i = idle_split around registers look (drivers_of groups islands (counted_inside x) (lowered part a l)) (counting x k) idle in
          counted_stays _ _ _ _ (keeps x.register (drive (ToRegister x.register) (end_of x.wire) (word 0) ∷ drive (ToRegister x.register) (end_of (suc (suc x.wire))) (Sum (OfRegister x.register) (word 1)) ∷ []) (i.1.1.1.0, (i.1.1.1.1.0, tt)) h.1) (λ j. stays a l (counted_inside x) i.0 h.2 j) n e
      form_stays (StaticSeq written parts) l x idle h n e = island_rests _ x idle h n e
      form_stays (StaticPar written arms) l x idle h n e = island_rests _ x idle h n e
      form_stays (StaticIf written test a b) l x idle h n e = island_rests _ x idle h n e
      form_stays (StaticRepeat written count a) l x idle h n e = island_rests _ x idle h n e
      form_stays (Timed k) l x idle h n e = refl

      pub stays : (s : PlainStatement) (l : Lowering) (x : Stand) → AllIdle around registers look (drivers_of groups islands x (lowered part s l))
          → StatementNexts groups islands around registers look kept next x (lowered part s l) → (n : ℕ)
          → number_of leaves codings part islands kept now_island s l x.register n ≡ 0 → number_of leaves codings part islands next next_island s l x.register n ≡ 0
      stays (Placed form place) l x idle h n e = form_stays form l x idle h n e

      pub parts_stay : (ss : PlainStatements) (l : Lowering) (seq : Stand) (before : ℕ) (x : Stand) → AllIdle around registers look (parts_drivers groups islands seq before x (lowered_parts part ss l))
          → PartsNext groups islands around registers look kept next x (lowered_parts part ss l) → (n : ℕ)
          → parts_number leaves codings part islands kept now_island ss l x.register n ≡ 0 → parts_number leaves codings part islands next next_island ss l x.register n ≡ 0
      parts_stay no_statements l seq before x idle h n e = refl
      parts_stay (a_statement s ss) l seq before x idle h n e =
          let i = idle_split around registers look (drivers_of groups islands x (lowered part s l)) _ idle.1 in
          beside_pointwise (Coding.extra (statement_coding leaves codings s)) _ _ _ _ (λ j. stays s l x i.0 h.0 j) (λ j. parts_stay ss (after part s l) seq x.wire (behind islands (lowered part s l) x) i.1 h.1 j) n e

      pub arms_stay : (arms : PlainStatements) (l : Lowering) (par : Stand) (wire register : ℕ) → AllIdle around registers look (arms_drivers groups islands par wire register (lowered_parts part arms l))
          → ArmsNext groups islands around registers look kept next par wire register (lowered_parts part arms l) → (n : ℕ)
          → arms_number leaves codings part islands kept now_island arms l register n ≡ 0 → arms_number leaves codings part islands next next_island arms l register n ≡ 0
      arms_stay no_statements l par wire register idle h n e = refl
      arms_stay (a_statement s ss) l par wire register idle h n e =
          let i = idle_split around registers look (drivers_of groups islands (arm_stand par wire register) (lowered part s l)) _ idle.1 in
          let all = idle_both around registers look (drivers_of groups islands (arm_stand par wire register) (lowered part s l)) (arm_finishes wire register (lowered part s l) ∷ []) i.0 (i.1.0, tt) in
          beside_pointwise (suc (Coding.extra (statement_coding leaves codings s))) _ _ _ _
          (counted_stays _ _ _ _ (keeps register (arm_restarts par register ∷ (drivers_of groups islands (arm_stand par wire register) (lowered part s l) ++ arm_finishes wire register (lowered part s l) ∷ [])) (idle.0, all) h.0) (λ j. stays s l (arm_stand par wire register) i.0 h.1.0 j))
          (λ j. arms_stay ss (after part s l) par (wire + wires_of (lowered part s l)) (suc register + length (registers_of islands (lowered part s l))) i.1.1 h.1.1 j) n e
