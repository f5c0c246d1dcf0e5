-- Whatever the registers hold, each statement's end wire is a bit, and what the drivers of a register give it is a number of 32 bits:
-- so each register of control comes to what its own drivers give it.
use Rattle.std.proofs.Common.{◌≡◌, ℕ, zero, suc, ◌+◌, ◌<◌, ◌≤◌, ◌⊎◌, inl, inr, ◌==◌, ◌%◌, ◌^◌, Bool, true, false, not, ◌&&◌, ◌||◌, if◌then◌else◌, List, [], ◌∷◌, ◌++◌, length, Option, Some, slice_get, refl, sym, ap, ◌∙◌, subst, arith, length-append}
use Rattle.std.proofs.lemmas.List.{length-replicate}
use Rattle.std.proofs.lemmas.Bool.{eq-eqb, ne_eqb}
use Rattle.cx_text.specs.declared.places.Place.{Place}
use Rattle.cx_bits.specs.BitVector.{BitVector}
use Rattle.cx_bits.specs.Operators.{sum_of}
use Rattle.cx_meaning.specs.declared.ports.PortRef.{PortRef}
use Rattle.cx_meaning.specs.Designs.{PlainForm, Empty, Enable, Seq, Par, If, While, Repeat, StaticSeq, StaticPar, StaticIf, StaticRepeat, Timed, PlainStatement, Placed, PlainStatements, no_statements, a_statement}
use Rattle.cx_net.specs.Nets.{PlainNetExpr, OfPort, OfRegister, OfHole, Inverse, Sum, exprs_of, ToRegister, PlainNetDriver}
use Rattle.cx_net.specs.NetMeaning.{Node, NetAround, truth_bit, both_known, all_expr, same_target}
use Rattle.cx_static.specs.Islands.{PlainIsland}
use Rattle.cx_wiring.specs.Parts.{word, drive, both, either, equals}
use Rattle.cx_wiring.specs.Counts.{positions_of, wires_of, sample_registers, form_registers, registers_of, registers_in, arms_registers}
use Rattle.cx_wiring.specs.Stands.{Stand, stands, at, end_of, goes, inside, past_test, behind}
use Rattle.cx_wiring.specs.Control.{one_turn, found_one, found_zero, arm_stand, arm_over, arm_restarts, arm_finishes, in_last_round, in_earlier_round, counted_inside, counting, comb_goes, arms_over, timed_drivers, form_drivers, drivers_of, parts_drivers, arms_drivers}
use Rattle.cx_wiring.specs.Bounds.{AllDrive, IslandsName, FormNames, StatementNames, PartsName}
use Rattle.cx_wiring.specs.Takings.{value, Says, takes, takes_of, AllConnect, AreRegisters}
use Rattle.cx_wiring.specs.IslandDrivers.{first_of_island, island_drivers}
use Rattle.cx_wiring.proofs.ControlTargets.{drivers_drive, parts_drive, arms_drive}
use Rattle.cx_wiring.proofs.TakingLemmas.{no_port_register, says_both, says_either, says_not, says_all, says_equals, says_differs, takes_append, takes_known, others_pass, connect_both, registers_both}
use Rattle.cx_wiring_cycles.specs.IslandTakes.{FormIslands, StatementIslands, PartsIslands, ArmsIslands, TakesIsland, IslandNexts}
use Rattle.cx_wiring_cycles.specs.Standing.{IsIn, FormBits, StatementBits, PartsBits}
use Rattle.cx_wiring_cycles.specs.Shown.{wide, FormNexts, StatementNexts, PartsNext, ArmsNext}
use Rattle.cx_wiring_cycles.proofs.AwayLaws.{here}
use Rattle.cx_wiring_cycles.proofs.FormTurns.{region_known, comb_region, if_drivers, if_region, while_drivers, while_region, repeat_region}

module _ (groups : ℕ) (islands : List PlainIsland) (named : IslandsName groups islands) (around : NetAround) (registers : ℕ → Option BitVector) (look : Node → Option BitVector) (bound : ℕ) (kept next : ℕ → ℕ) (hole : ℕ → Bool) (port : PortRef → Bool) where
  abbrev D : Stand → PlainStatement → List PlainNetDriver
  D = drivers_of groups islands

  abbrev It : PlainNetExpr → Bool → Type 0
  It = Says around registers look

  abbrev T : ℕ → Option BitVector → List PlainNetDriver → Option BitVector
  T m = takes around registers look (ToRegister m)

  abbrev Passes : ℕ → List PlainNetDriver → Type 0
  Passes m ds = AllDrive (λ u. same_target u (ToRegister m) ≡ false) ds

  -- it is a number of 32 bits
  abbrev IsWide : Option BitVector → Type 0
  IsWide o = (v : ℕ) × (o ≡ Some (wide v))

  -- a list makes a number of 32 bits of each such number
  abbrev pub KeepsWide : ℕ → List PlainNetDriver → Type 0
  KeepsWide m ds = (o : ℕ) → IsWide (takes around registers look (ToRegister m) (Some (wide o)) ds)

  -- registers from one on come to what these drivers give them
  abbrev pub Comes : ℕ → ℕ → List PlainNetDriver → Type 0
  Comes first count ds = (m : ℕ) (old new : BitVector) → first ≤ m → m < first + count → old.value ≡ kept m → takes around registers look (ToRegister m) (Some old) ds ≡ Some new → next m ≡ new.value

  abbrev Taken : ℕ → Stand → Type 0
  Taken = TakesIsland groups islands around registers look

  passes : (s : PlainStatement) (x : Stand) (m : ℕ) → StatementNames groups s → (m ≡ x.region → ⊥) → (m < x.register) ⊎ (x.register + length (registers_of islands s) ≤ m) → Passes m (drivers_of groups islands x s)
  passes s x m names apart out =
      drivers_drive (λ u. same_target u (ToRegister m) ≡ false) (no_port_register m) groups islands (λ n less. refl) (λ g less. refl) named s x names
      (record { wire_in = λ n l h. refl; register_in = λ n l h. ne_eqb n m (outside n l h out) }) (ne_eqb x.region m (λ e. apart (sym e)))
    where
      outside : (n : ℕ) → x.register ≤ n → n < x.register + length (registers_of islands s) → (m < x.register) ⊎ (x.register + length (registers_of islands s) ≤ m) → n ≡ m → ⊥
      outside n l h (inl less) e = omega arith
      outside n l h (inr more) e = omega arith

  parts_pass : (ss : PlainStatements) (seq : Stand) (before : ℕ) (x : Stand) (m : ℕ) → PartsName groups ss → (m ≡ x.region → ⊥) → m < x.register → Passes m (parts_drivers groups islands seq before x ss)
  parts_pass ss seq before x m names apart less =
      parts_drive (λ u. same_target u (ToRegister m) ≡ false) (no_port_register m) groups islands (λ n l. refl) (λ g l. refl) named seq before x ss names refl
      (record { wire_in = λ n l h. refl; register_in = λ n l h. ne_eqb n m (λ e. omega arith) }) (ne_eqb x.region m (λ e. apart (sym e)))

  arms_pass : (arms : PlainStatements) (par : Stand) (wire register m : ℕ) → PartsName groups arms → m < register → Passes m (arms_drivers groups islands par wire register arms)
  arms_pass arms par wire register m names less =
      arms_drive (λ u. same_target u (ToRegister m) ≡ false) (no_port_register m) groups islands (λ n l. refl) (λ g l. refl) named par wire register arms names
      (record { wire_in = λ n l h. refl; register_in = λ n l h. ne_eqb n m (λ e. omega arith) })

  before_it : (m : ℕ) (o : Option BitVector) (xs ys : List PlainNetDriver) → Passes m ys → T m o (xs ++ ys) ≡ T m o xs
  before_it m o xs ys pass = takes_append around registers look (ToRegister m) o xs ys ∙ ap (λ z. takes around registers look (ToRegister m) z xs) (others_pass around registers look (ToRegister m) o ys pass)

  behind_it : (m : ℕ) (o : Option BitVector) (xs ys : List PlainNetDriver) → Passes m xs → T m o (xs ++ ys) ≡ T m o ys
  behind_it m o xs ys pass = takes_append around registers look (ToRegister m) o xs ys ∙ others_pass around registers look (ToRegister m) (takes around registers look (ToRegister m) o ys) xs pass

  passes_by : (region m : ℕ) (d : PlainNetDriver) (later : Option BitVector) → (region ≡ m → ⊥) → takes_of around registers look (region == m) d later ≡ later
  passes_by region m d later apart = ap (λ s. takes_of around registers look s d later) (ne_eqb region m apart)

  wide_if : (b : Bool) (v : ℕ) (o : Option BitVector) → IsWide o → IsWide (if b then Some (wide v) else o)
  wide_if true v o h = (v, refl)
  wide_if false v o h = h

  wide_as : (a b : Option BitVector) → a ≡ b → IsWide b → IsWide a
  wide_as a b e h = (h.0, e ∙ h.1)

  wide_through : (m : ℕ) (ds : List PlainNetDriver) → KeepsWide m ds → (o : Option BitVector) → IsWide o → IsWide (T m o ds)
  wide_through m ds keeps o h = let k = keeps h.0 in (k.0, ap (λ z. takes around registers look (ToRegister m) z ds) h.1 ∙ k.1)

  wide_same : (m : ℕ) (ds : List PlainNetDriver) → ((o : Option BitVector) → T m o ds ≡ o) → KeepsWide m ds
  wide_same m ds same o = (o, same (Some (wide o)))

  -- WHAT IS KNOWN of a statement in every state
  pub record Known (x : Stand) (s : PlainStatement) : Type 0 where
    pub over : Bool
    pub ends : Says around registers look (end_of x.wire) over
    pub region_wide : KeepsWide x.region (drivers_of groups islands x s)
    pub nexts : StatementNexts groups islands around registers look kept next x s

  pub record PartsKnown (seq : Stand) (before : ℕ) (x : Stand) (ss : PlainStatements) : Type 0 where
    pub over : Bool
    pub ends : Says around registers look (end_of seq.wire) over
    pub region_wide : KeepsWide x.region (parts_drivers groups islands seq before x ss)
    pub nexts : PartsNext groups islands around registers look kept next x ss

  pub record ArmsKnown (par : Stand) (wire register : ℕ) (arms : PlainStatements) : Type 0 where
    pub over : Bool
    pub knows : all_expr around registers look (exprs_of (arms_over groups islands wire register arms)) ≡ Some (truth_bit over)
    pub nexts : (e : Bool) → Says around registers look (end_of par.wire) e → ArmsNext groups islands around registers look kept next par wire register arms

  turn_known : (form : PlainForm) (place : Place) (x : Stand) (acting : Bool) (r : ℕ) → IsIn around registers look x.acts x.region acting r → bound ≤ x.wire → AllConnect around registers look bound (one_turn x)
      → form_drivers groups islands x form ≡ one_turn x → FormNexts groups islands around registers look kept next x form → Known x (Placed form place)
  turn_known form place x acting r i low c is nexts =
      let high : bound ≤ suc x.wire = omega arith in
      record {
        over = acting && (r == x.position);
        ends = c.1.0 high ∙ here groups islands around registers look bound kept hole port x acting r i low c.0;
        region_wide = λ o. (o, ap (λ ds. takes around registers look (ToRegister x.region) (Some (wide o)) ds) is);
        nexts = nexts;
      }

  if_register : (x : Stand) (test : PortRef) (comb : Option ℕ) (first second : ℕ) (xs ys : List PlainNetDriver) (when : PlainNetExpr) (m : ℕ) (o : Option BitVector) → (x.region ≡ m → ⊥)
      → T m o (if_drivers around registers look groups islands x test comb first second xs ys when) ≡ T m (T m o ys) xs
  if_register x test comb first second xs ys when m o apart =
      takes_append around registers look (ToRegister m) o (comb_goes groups islands x comb) _ ∙ comb_region around registers look groups islands x comb m _
      ∙ passes_by x.region m (goes x (found_one x test) first) _ apart
      ∙ takes_append around registers look (ToRegister m) o xs _ ∙ ap (λ z. takes around registers look (ToRegister m) z xs)
      (passes_by x.region m (goes x (found_zero x test) second) _ apart ∙ takes_append around registers look (ToRegister m) o ys _)

  while_register : (x : Stand) (test : PortRef) (comb : Option ℕ) (first body : ℕ) (xs : List PlainNetDriver) (m : ℕ) (o : Option BitVector) → (x.region ≡ m → ⊥)
      → T m o (while_drivers around registers look groups islands x test comb first body xs) ≡ T m o xs
  while_register x test comb first body xs m o apart =
      takes_append around registers look (ToRegister m) o (comb_goes groups islands x comb) _ ∙ comb_region around registers look groups islands x comb m _
      ∙ passes_by x.region m (goes x (found_one x test) first) _ apart
      ∙ takes_append around registers look (ToRegister m) o xs _ ∙ ap (λ z. takes around registers look (ToRegister m) z xs) (passes_by x.region m (goes x (end_of body) x.position) o apart)

  -- WHAT A REGISTER COMES TO, of the parts of a form
  seq_first : (s : PlainStatement) (y : Stand) (ss : PlainStatements) (seq : Stand) (before : ℕ) → StatementNames groups s × PartsName groups ss → y.region < y.register
      → Comes y.register (length (registers_of islands s ++ registers_in islands ss)) (drivers_of groups islands y s ++ parts_drivers groups islands seq before (behind islands s y) ss)
      → Comes y.register (length (registers_of islands s)) (drivers_of groups islands y s)
  seq_first s y ss seq before names apart comes m old new l h is e =
      let n : length (registers_of islands s ++ registers_in islands ss) ≡ length (registers_of islands s) + length (registers_in islands ss) = length-append (registers_of islands s) (registers_in islands ss) in
      comes m old new l (omega arith) is
      (before_it m (Some old) (drivers_of groups islands y s) (parts_drivers groups islands seq before (behind islands s y) ss) (parts_pass ss seq before (behind islands s y) m names.1 (λ z. omega arith) h) ∙ e)

  seq_later : (s : PlainStatement) (y : Stand) (ss : PlainStatements) (seq : Stand) (before : ℕ) → StatementNames groups s × PartsName groups ss → y.region < y.register
      → Comes y.register (length (registers_of islands s ++ registers_in islands ss)) (drivers_of groups islands y s ++ parts_drivers groups islands seq before (behind islands s y) ss)
      → Comes (y.register + length (registers_of islands s)) (length (registers_in islands ss)) (parts_drivers groups islands seq before (behind islands s y) ss)
  seq_later s y ss seq before names apart comes m old new l h is e =
      let n : length (registers_of islands s ++ registers_in islands ss) ≡ length (registers_of islands s) + length (registers_in islands ss) = length-append (registers_of islands s) (registers_in islands ss) in
      comes m old new (omega arith) (omega arith) is
      (behind_it m (Some old) (drivers_of groups islands y s) (parts_drivers groups islands seq before (behind islands s y) ss) (passes s y m names.0 (λ z. omega arith) (inr l)) ∙ e)

  parts_inner : (s : PlainStatement) (ss : PlainStatements) (seq : Stand) (before : ℕ) (x : Stand) → x.region < x.register
      → Comes x.register (length (registers_of islands s ++ registers_in islands ss)) (parts_drivers groups islands seq before x (a_statement s ss))
      → Comes x.register (length (registers_of islands s ++ registers_in islands ss)) (drivers_of groups islands x s ++ parts_drivers groups islands seq x.wire (behind islands s x) ss)
  parts_inner s ss seq before x apart comes m old new l h is e = comes m old new l h is (passes_by x.region m (goes x (end_of before) x.position) _ (λ z. omega arith) ∙ e)

  abbrev IfList : Stand → PortRef → Option ℕ → PlainStatement → PlainStatement → List PlainNetDriver
  IfList x test comb a b = if_drivers around registers look groups islands x test comb (past_test x).position (behind islands a (past_test x)).position (drivers_of groups islands (past_test x) a)
      (drivers_of groups islands (behind islands a (past_test x)) b) (either (end_of (past_test x).wire) (end_of (behind islands a (past_test x)).wire))

  if_first : (x : Stand) (test : PortRef) (comb : Option ℕ) (a b : PlainStatement) → StatementNames groups a × StatementNames groups b → x.region < x.register
      → Comes x.register (length (registers_of islands a ++ registers_of islands b)) (IfList x test comb a b) → Comes x.register (length (registers_of islands a)) (drivers_of groups islands (past_test x) a)
  if_first x test comb a b names apart comes m old new l h is e =
      let n : length (registers_of islands a ++ registers_of islands b) ≡ length (registers_of islands a) + length (registers_of islands b) = length-append (registers_of islands a) (registers_of islands b) in
      comes m old new l (omega arith) is
      (if_register x test comb _ _ (drivers_of groups islands (past_test x) a) (drivers_of groups islands (behind islands a (past_test x)) b) _ m (Some old) (λ z. omega arith)
      ∙ ap (λ z. takes around registers look (ToRegister m) z (drivers_of groups islands (past_test x) a))
      (others_pass around registers look (ToRegister m) (Some old) (drivers_of groups islands (behind islands a (past_test x)) b) (passes b (behind islands a (past_test x)) m names.1 (λ z. omega arith) (inl h))) ∙ e)

  if_later : (x : Stand) (test : PortRef) (comb : Option ℕ) (a b : PlainStatement) → StatementNames groups a × StatementNames groups b → x.region < x.register
      → Comes x.register (length (registers_of islands a ++ registers_of islands b)) (IfList x test comb a b)
      → Comes (x.register + length (registers_of islands a)) (length (registers_of islands b)) (drivers_of groups islands (behind islands a (past_test x)) b)
  if_later x test comb a b names apart comes m old new l h is e =
      let n : length (registers_of islands a ++ registers_of islands b) ≡ length (registers_of islands a) + length (registers_of islands b) = length-append (registers_of islands a) (registers_of islands b) in
      comes m old new (omega arith) (omega arith) is
      (if_register x test comb _ _ (drivers_of groups islands (past_test x) a) (drivers_of groups islands (behind islands a (past_test x)) b) _ m (Some old) (λ z. omega arith)
      ∙ others_pass around registers look (ToRegister m) _ (drivers_of groups islands (past_test x) a) (passes a (past_test x) m names.0 (λ z. omega arith) (inr l)) ∙ e)

  arm_first : (s : PlainStatement) (ss : PlainStatements) (par : Stand) (wire register : ℕ) → StatementNames groups s × PartsName groups ss
      → Comes register (suc (length (registers_of islands s ++ arms_registers islands ss))) (arms_drivers groups islands par wire register (a_statement s ss))
      → Comes (suc register) (length (registers_of islands s)) (drivers_of groups islands (arm_stand par wire register) s)
  arm_first s ss par wire register names comes m old new l h is e =
      let n : length (registers_of islands s ++ arms_registers islands ss) ≡ length (registers_of islands s) + length (arms_registers islands ss) = length-append (registers_of islands s) (arms_registers islands ss) in
      comes m old new (omega arith) (omega arith) is
      (passes_by register m (arm_restarts par register) _ (λ z. omega arith)
      ∙ before_it m (Some old) (drivers_of groups islands (arm_stand par wire register) s) _ (ne_eqb register m (λ z. omega arith), arms_pass ss par (wire + wires_of s) (suc register + length (registers_of islands s)) m names.1 h) ∙ e)

  arm_later : (s : PlainStatement) (ss : PlainStatements) (par : Stand) (wire register : ℕ) → StatementNames groups s × PartsName groups ss
      → Comes register (suc (length (registers_of islands s ++ arms_registers islands ss))) (arms_drivers groups islands par wire register (a_statement s ss))
      → Comes (suc register + length (registers_of islands s)) (length (arms_registers islands ss)) (arms_drivers groups islands par (wire + wires_of s) (suc register + length (registers_of islands s)) ss)
  arm_later s ss par wire register names comes m old new l h is e =
      let n : length (registers_of islands s ++ arms_registers islands ss) ≡ length (registers_of islands s) + length (arms_registers islands ss) = length-append (registers_of islands s) (arms_registers islands ss) in
      comes m old new (omega arith) (omega arith) is
      (passes_by register m (arm_restarts par register) _ (λ z. omega arith)
      ∙ behind_it m (Some old) (drivers_of groups islands (arm_stand par wire register) s) _ (passes s (arm_stand par wire register) m names.0 (λ z. omega arith) (inr l))
      ∙ passes_by register m (arm_finishes wire register s) _ (λ z. omega arith) ∙ e)

  -- the register of an arm
  arm_next : (s : PlainStatement) (ss : PlainStatements) (par : Stand) (wire register : ℕ) (e : Bool) → StatementNames groups s × PartsName groups ss
      → Comes register (suc (length (registers_of islands s ++ arms_registers islands ss))) (arms_drivers groups islands par wire register (a_statement s ss)) → It (end_of par.wire) e
      → (f : Bool) → It (end_of wire) f → KeepsWide register (drivers_of groups islands (arm_stand par wire register) s)
      → takes around registers look (ToRegister register) (Some (wide (kept register))) (arm_restarts par register ∷ (drivers_of groups islands (arm_stand par wire register) s ++ arm_finishes wire register s ∷ [])) ≡ Some (wide (next register))
  arm_next s ss par wire register e names comes h f k keeps = w.1 ∙ ap (λ v. Some (wide v)) (sym (comes register (wide (kept register)) (wide w.0) (omega arith) (omega arith) refl (whole ∙ w.1)))
    where
      w : IsWide (takes around registers look (ToRegister register) (Some (wide (kept register))) (arm_restarts par register ∷ (drivers_of groups islands (arm_stand par wire register) s ++ arm_finishes wire register s ∷ [])))
      w = wide_as _ _ (region_known around registers look register 0 (end_of par.wire) e _ h)
          (wide_if e 0 _ (wide_as _ _ (takes_append around registers look (ToRegister register) (Some (wide (kept register))) (drivers_of groups islands (arm_stand par wire register) s) (arm_finishes wire register s ∷ []))
          (wide_through register (drivers_of groups islands (arm_stand par wire register) s) keeps _
          (wide_as _ _ (region_known around registers look register (positions_of s) (end_of wire) f (Some (wide (kept register))) k) (wide_if f (positions_of s) _ (kept register, refl))))))

      less : register < suc register + length (registers_of islands s)
      less = omega arith

      whole : takes around registers look (ToRegister register) (Some (wide (kept register))) (arms_drivers groups islands par wire register (a_statement s ss))
          ≡ takes around registers look (ToRegister register) (Some (wide (kept register))) (arm_restarts par register ∷ (drivers_of groups islands (arm_stand par wire register) s ++ arm_finishes wire register s ∷ []))
      whole = ap (λ z. takes_of around registers look (register == register) (arm_restarts par register) z)
          (takes_append around registers look (ToRegister register) (Some (wide (kept register))) (drivers_of groups islands (arm_stand par wire register) s) _
          ∙ ap (λ z. takes around registers look (ToRegister register) (takes_of around registers look (register == register) (arm_finishes wire register s) z) (drivers_of groups islands (arm_stand par wire register) s))
          (others_pass around registers look (ToRegister register) (Some (wide (kept register))) (arms_drivers groups islands par (wire + wires_of s) (suc register + length (registers_of islands s)) ss)
          (arms_pass ss par (wire + wires_of s) (suc register + length (registers_of islands s)) register names.1 less))
          ∙ sym (takes_append around registers look (ToRegister register) (Some (wide (kept register))) (drivers_of groups islands (arm_stand par wire register) s) (arm_finishes wire register s ∷ [])))

  -- the register of a repeat
  rounds_wide : (x : Stand) (e f : Bool) → registers x.register ≡ Some (wide (kept x.register)) → It (end_of x.wire) e → It (end_of (suc (suc x.wire))) f
      → IsWide (takes around registers look (ToRegister x.register) (Some (wide (kept x.register)))
      (drive (ToRegister x.register) (end_of x.wire) (word 0) ∷ drive (ToRegister x.register) (end_of (suc (suc x.wire))) (Sum (OfRegister x.register) (word 1)) ∷ []))
  rounds_wide x e f is h k =
      wide_as _ _ (region_known around registers look x.register 0 (end_of x.wire) e _ h)
      (wide_if e 0 _ (wide_as _ _
      (ap (λ s. takes_of around registers look s (drive (ToRegister x.register) (end_of (suc (suc x.wire))) (Sum (OfRegister x.register) (word 1))) (Some (wide (kept x.register)))) (eq-eqb x.register x.register refl)
      ∙ takes_known around registers look (drive (ToRegister x.register) (end_of (suc (suc x.wire))) (Sum (OfRegister x.register) (word 1))) f (Some (wide (kept x.register))) k) (either_wide f)))
    where
      either_wide : (f : Bool) → IsWide (if f then value around registers look (Sum (OfRegister x.register) (word 1)) else Some (wide (kept x.register)))
      either_wide true = ((kept x.register + 1) % 2 ^ 32, ap (λ o. both_known sum_of o (Some (wide 1))) is)
      either_wide false = (kept x.register, refl)

  -- the registers of an island's samples
  samples_come : (n : ℕ) (x : Stand) (island : PlainIsland) → slice_get islands n ≡ Some island → Comes x.register (length (sample_registers (slice_get islands n))) (form_drivers groups islands x (Timed n))
      → (m : ℕ) (old new : BitVector) → x.register ≤ m → m < x.register + length island.points → old.value ≡ kept m
      → takes around registers look (ToRegister m) (Some old) (island_drivers groups x (first_of_island groups islands n) island) ≡ Some new → next m ≡ new.value
  samples_come n x island is comes m old new l h same e =
      let count : length (sample_registers (Some island)) ≡ length island.points = length-replicate (length island.points) 1 in
      subst (λ o. Comes x.register (length (sample_registers o)) (stands x ∷ timed_drivers groups islands x n o)) is comes m old new l (omega arith) same e

  module _ (timed : (k : ℕ) (place : Place) (x : Stand) (acting : Bool) (r : ℕ) → IsIn around registers look x.acts x.region acting r → bound ≤ x.wire → x.region < x.register
      → AllConnect around registers look bound (form_drivers groups islands x (Timed k)) → AreRegisters around registers look kept x.register (sample_registers (slice_get islands k)) → IslandNexts groups islands around registers look kept next k x → Known x (Placed (Timed k) place)) where
    mutual
      form_known : (form : PlainForm) (place : Place) (x : Stand) (acting : Bool) (r : ℕ) → FormNames groups form → x.region < x.register → IsIn around registers look x.acts x.region acting r → bound ≤ x.wire
          → AllConnect around registers look bound (form_drivers groups islands x form) → AreRegisters around registers look kept x.register (form_registers islands form) → FormBits around registers look hole port form
          → FormIslands (TakesIsland groups islands around registers look) islands x form → Comes x.register (length (form_registers islands form)) (form_drivers groups islands x form) → Known x (Placed form place)
      form_known Empty place x acting r names apart i low c k bits taken comes = turn_known Empty place x acting r i low c refl tt
      form_known (Enable g) place x acting r names apart i low c k bits taken comes =
          let high : bound ≤ suc x.wire = omega arith in
          record {
            over = (acting && (r == x.position)) && hole g;
            ends = c.1.0 high ∙ says_both around registers look (at x) (OfHole g) (acting && (r == x.position)) (hole g) (here groups islands around registers look bound kept hole port x acting r i low c.0) bits;
            region_wide = λ o. (o, refl);
            nexts = tt;
          }
      form_known (Seq no_statements) place x acting r names apart i low c k bits taken comes = turn_known (Seq no_statements) place x acting r i low c refl tt
      form_known (Seq (a_statement s ss)) place x acting r names apart i low c k bits taken comes =
          let cs = connect_both around registers look bound (drivers_of groups islands (inside x) s) (parts_drivers groups islands x (inside x).wire (behind islands s (inside x)) ss) c in
          let ks = registers_both around registers look kept x.register (registers_of islands s) (registers_in islands ss) k in
          let low_in : bound ≤ suc (suc x.wire) = omega arith in
          let low_behind : bound ≤ suc (suc x.wire) + wires_of s = omega arith in
          let apart_behind : x.region < x.register + length (registers_of islands s) = omega arith in
          let a = known s (inside x) acting r names.0 apart i low_in cs.0 ks.0 bits.0 taken.0 (seq_first s (inside x) ss x (inside x).wire names apart comes) in
          let b = parts_known ss x (inside x).wire (behind islands s (inside x)) acting r names.1 apart_behind i low_behind low cs.1 ks.1 bits.1 a.over a.ends taken.1 (seq_later s (inside x) ss x (inside x).wire names apart comes) in
          record {
            over = b.over;
            ends = b.ends;
            region_wide = λ o. wide_as _ _ (takes_append around registers look (ToRegister x.region) (Some (wide o)) (drivers_of groups islands (inside x) s) _)
                (wide_through x.region (drivers_of groups islands (inside x) s) a.region_wide _ (b.region_wide o));
            nexts = (a.nexts, b.nexts);
          }
      form_known (Par arms) place x acting r names apart i low c k bits taken comes =
          let cs = connect_both around registers look bound (arms_drivers groups islands x (suc (suc x.wire)) x.register arms) _ c.1 in
          let high : bound ≤ suc x.wire = omega arith in
          let low_in : bound ≤ suc (suc x.wire) = omega arith in
          let on = here groups islands around registers look bound kept hole port x acting r i low c.0 in
          let a = arms_known arms x (suc (suc x.wire)) x.register (acting && (r == x.position)) names on low_in cs.0 k bits taken
          (λ m old new l h is e. comes m old new l h is (takes_append around registers look (ToRegister m) (Some old) (arms_drivers groups islands x (suc (suc x.wire)) x.register arms) _ ∙ e)) in
          let over = cs.1.0 high ∙ says_all around registers look (at x) (exprs_of (arms_over groups islands (suc (suc x.wire)) x.register arms)) (acting && (r == x.position)) a.over on a.knows in
          record {
            over = (acting && (r == x.position)) && a.over;
            ends = over;
            region_wide = λ o. (
              o,
              takes_append around registers look (ToRegister x.region) (Some (wide o)) (arms_drivers groups islands x (suc (suc x.wire)) x.register arms) _
                  ∙ others_pass around registers look (ToRegister x.region) (Some (wide o)) (arms_drivers groups islands x (suc (suc x.wire)) x.register arms) (arms_pass arms x (suc (suc x.wire)) x.register x.region names apart),
            );
            nexts = (
              (λ o. others_pass around registers look (ToRegister x.region) o (arms_drivers groups islands x (suc (suc x.wire)) x.register arms) (arms_pass arms x (suc (suc x.wire)) x.register x.region names apart)),
              a.nexts ((acting && (r == x.position)) && a.over) over,
            );
          }
      form_known (If test comb a b) place x acting r names apart i low c k bits taken comes =
          let ks = registers_both around registers look kept x.register (registers_of islands a) (registers_of islands b) k in
          let high : bound ≤ suc x.wire = omega arith in
          let low_in : bound ≤ suc (suc x.wire) = omega arith in
          let low_behind : bound ≤ suc (suc x.wire) + wires_of a = omega arith in
          let apart_behind : x.region < x.register + length (registers_of islands a) = omega arith in
          let c_comb = connect_both around registers look bound (comb_goes groups islands x comb) _ c.1 in
          let c_a = connect_both around registers look bound (drivers_of groups islands (past_test x) a) _ c_comb.1.1 in
          let c_b = connect_both around registers look bound (drivers_of groups islands (behind islands a (past_test x)) b) _ c_a.1.1 in
          let on = here groups islands around registers look bound kept hole port x acting r i low c.0 in
          let f = known a (past_test x) acting r names.1.0 apart i low_in c_a.0 ks.0 bits.1.0 taken.0 (if_first x test.port comb a b names.1 apart comes) in
          let g = known b (behind islands a (past_test x)) acting r names.1.1 apart_behind i low_behind c_b.0 ks.1 bits.1.1 taken.1 (if_later x test.port comb a b names.1 apart comes) in
          record {
            over = f.over || g.over;
            ends = c_b.1.0 high ∙ says_either around registers look (end_of (past_test x).wire) (end_of (behind islands a (past_test x)).wire) f.over g.over f.ends g.ends;
            region_wide = λ o. wide_as _ _ (if_region around registers look groups islands x test.port comb (past_test x).position (behind islands a (past_test x)).position (drivers_of groups islands (past_test x) a)
                (drivers_of groups islands (behind islands a (past_test x)) b) _ (Some (wide o)) _ _ (says_both around registers look (at x) (OfPort test.port) (acting && (r == x.position)) (port test.port) on bits.0)
                (says_both around registers look (at x) (Inverse (OfPort test.port)) (acting && (r == x.position)) (not (port test.port)) on (says_not around registers look (OfPort test.port) (port test.port) bits.0)))
                (wide_if _ _ _ (wide_through x.region (drivers_of groups islands (past_test x) a) f.region_wide _ (wide_if _ _ _ (g.region_wide o))));
            nexts = (f.nexts, g.nexts);
          }
      form_known (While test comb a) place x acting r names apart i low c k bits taken comes =
          let high : bound ≤ suc x.wire = omega arith in
          let low_in : bound ≤ suc (suc x.wire) = omega arith in
          let c_comb = connect_both around registers look bound (comb_goes groups islands x comb) _ c.1 in
          let c_a = connect_both around registers look bound (drivers_of groups islands (past_test x) a) _ c_comb.1.1.1 in
          let on = here groups islands around registers look bound kept hole port x acting r i low c.0 in
          let f = known a (past_test x) acting r names.1 apart i low_in c_a.0 k bits.1 taken
          (λ m old new l h is e. comes m old new l h is (while_register x test.port comb (past_test x).position (past_test x).wire (drivers_of groups islands (past_test x) a) m (Some old) (λ z. omega arith) ∙ e)) in
          record {
            over = (acting && (r == x.position)) && not (port test.port);
            ends = c_comb.1.0 high ∙ says_both around registers look (at x) (Inverse (OfPort test.port)) (acting && (r == x.position)) (not (port test.port)) on (says_not around registers look (OfPort test.port) (port test.port) bits.0);
            region_wide = λ o. wide_as _ _ (while_region around registers look groups islands x test.port comb (past_test x).position (past_test x).wire (drivers_of groups islands (past_test x) a) (Some (wide o)) _ f.over
                (says_both around registers look (at x) (OfPort test.port) (acting && (r == x.position)) (port test.port) on bits.0) f.ends)
                (wide_if _ _ _ (wide_through x.region (drivers_of groups islands (past_test x) a) f.region_wide _ (wide_if _ _ _ (o, refl))));
            nexts = f.nexts;
          }
      form_known (Repeat zero a) place x acting r names apart i low c k bits taken comes = turn_known (Repeat zero a) place x acting r i low c refl tt
      form_known (Repeat (suc n) a) place x acting r names apart i low c k bits taken comes =
          let high : bound ≤ suc x.wire = omega arith in
          let low_in : bound ≤ suc (suc x.wire) = omega arith in
          let apart_in : x.region < suc x.register = omega arith in
          let cs = connect_both around registers look bound (drivers_of groups islands (counted_inside x) a) (counting x n) c in
          let f = known a (counted_inside x) acting r names apart_in i low_in cs.0 k.1 bits taken
          (λ m old new l h is e. comes m old new (omega arith) (omega arith) is (before_it m (Some old) (drivers_of groups islands (counted_inside x) a) (counting x n)
          (refl, (ne_eqb x.region m (λ z. omega arith), (ne_eqb x.register m (λ z. omega arith), (ne_eqb x.register m (λ z. omega arith), tt)))) ∙ e)) in
          let last : It (in_last_round x n) (kept x.register == n) = says_equals around registers look (OfRegister x.register) (wide (kept x.register)) n k.0 in
          let earlier : It (in_earlier_round x n) (not (kept x.register == n)) = says_differs around registers look (OfRegister x.register) (wide (kept x.register)) n k.0 in
          let over : It (end_of x.wire) (f.over && (kept x.register == n)) = cs.1.0 high ∙ says_both around registers look (end_of (suc (suc x.wire))) (in_last_round x n) f.over (kept x.register == n) f.ends last in
          let other : (x.register == x.region) ≡ false = ne_eqb x.register x.region (λ z. omega arith) in
          let w = rounds_wide x (f.over && (kept x.register == n)) f.over k.0 over f.ends in
          record {
            over = f.over && (kept x.register == n);
            ends = over;
            region_wide = λ o. wide_as _ _ (repeat_region around registers look x n (drivers_of groups islands (counted_inside x) a) (Some (wide o)) _ other
                (says_both around registers look (end_of (suc (suc x.wire))) (in_earlier_round x n) f.over (not (kept x.register == n)) f.ends earlier))
                (wide_through x.region (drivers_of groups islands (counted_inside x) a) f.region_wide _ (wide_if _ _ _ (o, refl)));
            nexts = (
              other,
              w.1 ∙ ap (λ v. Some (wide v)) (sym (comes x.register (wide (kept x.register)) (wide w.0) (omega arith) (omega arith) refl
                  (behind_it x.register (Some (wide (kept x.register))) (drivers_of groups islands (counted_inside x) a) (counting x n) (passes a (counted_inside x) x.register names (λ z. omega arith) (inl (omega arith)))
                  ∙ passes_by x.region x.register (goes x (both (end_of (suc (suc x.wire))) (in_earlier_round x n)) x.position) _ (λ z. omega arith) ∙ w.1))),
              f.nexts,
            );
          }
      form_known (StaticSeq written parts) place x acting r names apart i low c k bits taken comes = turn_known (StaticSeq written parts) place x acting r i low c refl tt
      form_known (StaticPar written arms) place x acting r names apart i low c k bits taken comes = turn_known (StaticPar written arms) place x acting r i low c refl tt
      form_known (StaticIf written test a b) place x acting r names apart i low c k bits taken comes = turn_known (StaticIf written test a b) place x acting r i low c refl tt
      form_known (StaticRepeat written count a) place x acting r names apart i low c k bits taken comes = turn_known (StaticRepeat written count a) place x acting r i low c refl tt
      form_known (Timed n) place x acting r names apart i low c k bits taken comes = timed n place x acting r i low apart c k (record { taken = taken; apart = apart; samples = λ island is. samples_come n x island is comes })

      pub known : (s : PlainStatement) (x : Stand) (acting : Bool) (r : ℕ) → StatementNames groups s → x.region < x.register → IsIn around registers look x.acts x.region acting r → bound ≤ x.wire
          → AllConnect around registers look bound (drivers_of groups islands x s) → AreRegisters around registers look kept x.register (registers_of islands s) → StatementBits around registers look hole port s
          → StatementIslands (TakesIsland groups islands around registers look) islands x s → Comes x.register (length (registers_of islands s)) (drivers_of groups islands x s) → Known x s
      known (Placed form place) x acting r names apart i low c k bits taken comes = form_known form place x acting r names apart i low c k bits taken comes

      parts_known : (ss : PlainStatements) (seq : Stand) (before : ℕ) (x : Stand) (acting : Bool) (r : ℕ) → PartsName groups ss → x.region < x.register → IsIn around registers look x.acts x.region acting r → bound ≤ x.wire → bound ≤ seq.wire
          → AllConnect around registers look bound (parts_drivers groups islands seq before x ss) → AreRegisters around registers look kept x.register (registers_in islands ss) → PartsBits around registers look hole port ss
          → (e : Bool) → It (end_of before) e → PartsIslands (TakesIsland groups islands around registers look) islands x ss → Comes x.register (length (registers_in islands ss)) (parts_drivers groups islands seq before x ss) → PartsKnown seq before x ss
      parts_known no_statements seq before x acting r names apart i low base c k bits e h taken comes =
          let high : bound ≤ suc seq.wire = omega arith in record { over = e; ends = c.0 high ∙ h; region_wide = λ o. (o, refl); nexts = tt }
      parts_known (a_statement s ss) seq before x acting r names apart i low base c k bits e h taken comes =
          let cs = connect_both around registers look bound (drivers_of groups islands x s) (parts_drivers groups islands seq x.wire (behind islands s x) ss) c.1 in
          let ks = registers_both around registers look kept x.register (registers_of islands s) (registers_in islands ss) k in
          let low_behind : bound ≤ x.wire + wires_of s = omega arith in
          let apart_behind : x.region < x.register + length (registers_of islands s) = omega arith in
          let a = known s x acting r names.0 apart i low cs.0 ks.0 bits.0 taken.0 (seq_first s x ss seq x.wire names apart (parts_inner s ss seq before x apart comes)) in
          let b = parts_known ss seq x.wire (behind islands s x) acting r names.1 apart_behind i low_behind base cs.1 ks.1 bits.1 a.over a.ends taken.1 (seq_later s x ss seq x.wire names apart (parts_inner s ss seq before x apart comes)) in
          record {
            over = b.over;
            ends = b.ends;
            region_wide = λ o. wide_as _ _ (region_known around registers look x.region x.position (end_of before) e _ h)
                (wide_if e x.position _ (wide_as _ _ (takes_append around registers look (ToRegister x.region) (Some (wide o)) (drivers_of groups islands x s) _)
                (wide_through x.region (drivers_of groups islands x s) a.region_wide _ (b.region_wide o))));
            nexts = (a.nexts, b.nexts);
          }

      arms_known : (arms : PlainStatements) (par : Stand) (wire register : ℕ) (acting : Bool) → PartsName groups arms → It (at par) acting → bound ≤ wire
          → AllConnect around registers look bound (arms_drivers groups islands par wire register arms) → AreRegisters around registers look kept register (arms_registers islands arms) → PartsBits around registers look hole port arms
          → ArmsIslands (TakesIsland groups islands around registers look) islands par wire register arms → Comes register (length (arms_registers islands arms)) (arms_drivers groups islands par wire register arms) → ArmsKnown par wire register arms
      arms_known no_statements par wire register acting names on low c k bits taken comes = record { over = true; knows = refl; nexts = λ e h. tt }
      arms_known (a_statement s ss) par wire register acting names on low c k bits taken comes =
          let cs = connect_both around registers look bound (drivers_of groups islands (arm_stand par wire register) s) _ c.1 in
          let ks = registers_both around registers look kept (suc register) (registers_of islands s) (arms_registers islands ss) k.1 in
          let low_behind : bound ≤ wire + wires_of s = omega arith in
          let less : register < suc register = omega arith in
          let a = known s (arm_stand par wire register) acting (kept register) names.0 less (record { acts_so = on; width = 32; at_position = k.0 }) low cs.0 ks.0 bits.0 taken.0 (arm_first s ss par wire register names comes) in
          let b = arms_known ss par (wire + wires_of s) (suc register + length (registers_of islands s)) acting names.1 on low_behind cs.1.1 ks.1 bits.1 taken.1 (arm_later s ss par wire register names comes) in
          record {
            over = ((kept register == positions_of s) || a.over) && b.over;
            knows = says_all around registers look (arm_over wire register s) (exprs_of (arms_over groups islands (wire + wires_of s) (suc register + length (registers_of islands s)) ss)) ((kept register == positions_of s) || a.over) b.over
                (says_either around registers look (equals (OfRegister register) (positions_of s)) (end_of wire) (kept register == positions_of s) a.over (says_equals around registers look (OfRegister register) (wide (kept register)) (positions_of s) k.0) a.ends) b.knows;
            nexts = λ e h. (arm_next s ss par wire register e names comes h a.over a.ends a.region_wide, (a.nexts, b.nexts e h));
          }
