-- Each wire of control has one driver: so where each wire takes what all drivers give it, each has the value of its own driver's source.
use Rattle.std.proofs.Common.{◌≡◌, ℕ, zero, suc, ◌+◌, ◌<◌, ◌≤◌, ◌⊎◌, inl, inr, false, List, [], ◌∷◌, ◌++◌, length, take, Option, Some, None, slice_get, refl, ap, ◌∙◌, arith}
use Rattle.std.proofs.lemmas.Bool.{eq-eqb, ne_eqb}
use Rattle.cx_bits.specs.BitVector.{BitVector}
use Rattle.cx_meaning.specs.declared.ports.PortRef.{PortRef}
use Rattle.cx_meaning.specs.declared.ports.PortRef.TheVariants as ports
use Rattle.cx_meaning.specs.Designs.{PlainForm, Empty, Enable, Seq, Par, If, While, Repeat, StaticSeq, StaticPar, StaticIf, StaticRepeat, Timed, PlainStatement, Placed, PlainStatements, no_statements, a_statement}
use Rattle.cx_net.specs.Nets.{PlainNetExpr, PlainNetTarget, ToPort, ToRegister, ToWire, ToHole, ToDone, PlainNetDriver}
use Rattle.cx_net.specs.NetMeaning.{Node, AWire, NetAround, same_target}
use Rattle.cx_static.specs.Islands.{PlainIsland}
use Rattle.cx_wiring.specs.Parts.{connect}
use Rattle.cx_wiring.specs.Counts.{wires_of, wires_in, form_wires, registers_of}
use Rattle.cx_wiring.specs.Stands.{Stand, inside, past_test, behind}
use Rattle.cx_wiring.specs.IslandDrivers.{island_wires, first_of_island, wires_of_island, timer_drivers, point_drivers}
use Rattle.cx_wiring.specs.Control.{one_turn, arm_stand, counted_inside, counting, comb_goes, timed_drivers, form_drivers, drivers_of, parts_drivers, arms_drivers}
use Rattle.cx_wiring.specs.Bounds.{AllDrive, IslandNames, IslandsName, FormNames, StatementNames, PartsName}
use Rattle.cx_wiring.specs.Takings.{value, takes, takes_of, Connects, AllConnect}
use Rattle.cx_wiring.proofs.RoomLemmas.{drive_both}
use Rattle.cx_wiring.proofs.IslandTargets.{wires_at, island_within, timers_drive, points_drive, occurrences_drive}
use Rattle.cx_wiring.proofs.ControlTargets.{names_at, drivers_drive, arms_drive}
use Rattle.cx_wiring.proofs.TakingLemmas.{takes_append, others_pass, connects_join}

-- a wire below those of control
abbrev IsBelow : ℕ → PlainNetTarget → Type 0
IsBelow bound (ToWire n) = n < bound
IsBelow bound (ToPort p) = Unit {0}
IsBelow bound (ToRegister n) = Unit {0}
IsBelow bound (ToHole n) = Unit {0}
IsBelow bound ToDone = Unit {0}

module _ (groups : ℕ) (islands : List PlainIsland) (named : IslandsName groups islands) (around : NetAround) (registers : ℕ → Option BitVector) (look : Node → Option BitVector) where
  abbrev bound : ℕ
  bound = groups + island_wires islands

  abbrev All : List PlainNetDriver → Type 0
  All = AllConnect around registers look (groups + island_wires islands)

  -- a wire takes what these drivers give it, and behind them something
  pub record Reads (n : ℕ) (ds : List PlainNetDriver) : Type 0 where
    pub behind_them : Option BitVector
    pub reads : look (AWire n) ≡ takes around registers look (ToWire n) behind_them ds

  abbrev Skips : ℕ → List PlainNetDriver → Type 0
  Skips n ds = AllDrive (λ u. same_target u (ToWire n) ≡ false) ds

  pub read_before : (n : ℕ) (xs ys : List PlainNetDriver) → Reads n (xs ++ ys) → Reads n xs
  read_before n xs ys h = record { behind_them = takes around registers look (ToWire n) h.behind_them ys; reads = h.reads ∙ takes_append around registers look (ToWire n) h.behind_them xs ys }

  pub read_behind : (n : ℕ) (xs ys : List PlainNetDriver) → Skips n xs → Reads n (xs ++ ys) → Reads n ys
  read_behind n xs ys s h = record {
    behind_them = h.behind_them;
    reads = h.reads ∙ takes_append around registers look (ToWire n) h.behind_them xs ys ∙ others_pass around registers look (ToWire n) (takes around registers look (ToWire n) h.behind_them ys) xs s;
  }

  pub read_here : (n : ℕ) (source : PlainNetExpr) (ds : List PlainNetDriver) → Reads n (connect n source ∷ ds) → look (AWire n) ≡ value around registers look source
  read_here n source ds h = h.reads ∙ ap (λ s. takes_of around registers look s (connect n source) (takes around registers look (ToWire n) h.behind_them ds)) (eq-eqb n n refl)

  -- past a driver of another target
  read_past : (n : ℕ) (d : PlainNetDriver) (ds : List PlainNetDriver) → same_target d.target (ToWire n) ≡ false → Reads n (d ∷ ds) → Reads n ds
  read_past n d ds other h = record { behind_them = h.behind_them; reads = h.reads ∙ ap (λ s. takes_of around registers look s d (takes around registers look (ToWire n) h.behind_them ds)) other }

  read_next : (m n : ℕ) (source : PlainNetExpr) (ds : List PlainNetDriver) → (m ≡ n → ⊥) → Reads n (connect m source ∷ ds) → Reads n ds
  read_next m n source ds apart h = read_past n (connect m source) ds (ne_eqb m n apart) h

  pub no_port : (n : ℕ) (p : PortRef) → same_target (ToPort p) (ToWire n) ≡ false
  no_port n (ports.Cell c p) = refl
  no_port n (ports.Input i) = refl
  no_port n (ports.Output i) = refl
  no_port n (ports.Done g) = refl
  no_port n (ports.Literal w v) = refl

  skips : (s : PlainStatement) (x : Stand) (n : ℕ) → StatementNames groups s → groups + island_wires islands ≤ n → (n < x.wire) ⊎ (x.wire + wires_of s ≤ n) → Skips n (drivers_of groups islands x s)
  skips s x n names low out =
      drivers_drive (λ u. same_target u (ToWire n) ≡ false) (no_port n) groups islands (λ m less. ne_eqb m n (λ e. omega arith)) (λ g less. refl) named s x names
      (record { wire_in = λ m l h. ne_eqb m n (outside m l h out); register_in = λ m l h. refl }) refl
    where
      outside : (m : ℕ) → x.wire ≤ m → m < x.wire + wires_of s → (n < x.wire) ⊎ (x.wire + wires_of s ≤ n) → m ≡ n → ⊥
      outside m l h (inl less) e = omega arith
      outside m l h (inr more) e = omega arith

  arms_skip : (arms : PlainStatements) (par : Stand) (wire register n : ℕ) → PartsName groups arms → groups + island_wires islands ≤ n → n < wire → Skips n (arms_drivers groups islands par wire register arms)
  arms_skip arms par wire register n names low less =
      arms_drive (λ u. same_target u (ToWire n) ≡ false) (no_port n) groups islands (λ m below. ne_eqb m n (λ e. omega arith)) (λ g below. refl) named par wire register arms names
      (record { wire_in = λ m l h. ne_eqb m n (λ e. omega arith); register_in = λ m l h. refl })

  comb_skips : (x : Stand) (comb : Option ℕ) (n : ℕ) → Skips n (comb_goes groups islands x comb)
  comb_skips x None n = tt
  comb_skips x (Some g) n = (refl, tt)

  comb_connects : (x : Stand) (comb : Option ℕ) → All (comb_goes groups islands x comb)
  comb_connects x None = tt
  comb_connects x (Some g) = (tt, tt)

  below_connects : (ds : List PlainNetDriver) → AllDrive (IsBelow (groups + island_wires islands)) ds → All ds
  below_connects [] h = tt
  below_connects (d ∷ ds) h = (one d.target h.0, below_connects ds h.1)
    where
      one : (t : PlainNetTarget) → IsBelow (groups + island_wires islands) t → Connects around registers look (groups + island_wires islands) t d.source
      one (ToWire n) less = λ low. absurd (omega arith)
      one (ToPort p) less = tt
      one (ToRegister n) less = tt
      one (ToHole n) less = tt
      one ToDone less = tt

  -- of an island all but its end are below
  island_connects : (x : Stand) (k : ℕ) (o : Option PlainIsland) → island_wires (take k islands) + wires_at o ≤ island_wires islands → IslandNames groups o → groups + island_wires islands ≤ x.wire
      → Reads (suc x.wire) (timed_drivers groups islands x k o) → All (timed_drivers groups islands x k o)
  island_connects x k None within names low h = tt
  island_connects x k (Some island) within names low h = (
    (λ l. read_here (suc x.wire) _ _ h),
    below_connects _ (drive_both (IsBelow (groups + island_wires islands)) (timer_drivers groups x (first_of_island groups islands k) island 0 island.timers) _
        (timers_drive (IsBelow (groups + island_wires islands)) (λ p. tt) groups x (first_of_island groups islands k) island below 0 island.timers (omega arith))
        (drive_both (IsBelow (groups + island_wires islands)) (point_drivers groups x (first_of_island groups islands k) island 0 island.points) _
        (points_drive (IsBelow (groups + island_wires islands)) (λ p. tt) groups x (first_of_island groups islands k) island below (λ n l m. tt) 0 island.points (omega arith))
        (occurrences_drive (IsBelow (groups + island_wires islands)) (λ p. tt) groups x (first_of_island groups islands k) island below (λ g less. (omega arith)) (λ g less. tt) 0 island.occurrences (omega arith) names))),
  )
    where
      below : (n : ℕ) → first_of_island groups islands k ≤ n → n < first_of_island groups islands k + wires_of_island island → n < groups + island_wires islands
      below n l h = omega arith

  -- behind the at wire and the comb group of a test
  past_comb : (x : Stand) (comb : Option ℕ) (n : ℕ) (source : PlainNetExpr) (ds : List PlainNetDriver) → (x.wire ≡ n → ⊥) → Reads n (connect x.wire source ∷ (comb_goes groups islands x comb ++ ds)) → Reads n ds
  past_comb x comb n source ds apart h = read_behind n (comb_goes groups islands x comb) ds (comb_skips x comb n) (read_next x.wire n source (comb_goes groups islands x comb ++ ds) apart h)

  turn_connects : (x : Stand) → groups + island_wires islands ≤ x.wire → ((n : ℕ) → x.wire ≤ n → n < x.wire + 2 → Reads n (one_turn x)) → All (one_turn x)
  turn_connects x low h = (
    (λ l. read_here x.wire _ _ (h x.wire (omega arith) (omega arith))),
    ((λ l. read_here (suc x.wire) _ _ (read_next x.wire (suc x.wire) _ _ (λ e. omega arith) (h (suc x.wire) (omega arith) (omega arith)))), tt),
  )

  mutual
    form_connects : (form : PlainForm) (x : Stand) → FormNames groups form → groups + island_wires islands ≤ x.wire
        → ((n : ℕ) → x.wire ≤ n → n < x.wire + suc (suc (form_wires form)) → Reads n (form_drivers groups islands x form)) → All (form_drivers groups islands x form)
    form_connects Empty x names low h = turn_connects x low h
    form_connects (Enable g) x names low h = (
      (λ l. read_here x.wire _ _ (h x.wire (omega arith) (omega arith))),
      ((λ l. read_here (suc x.wire) _ _ (read_next x.wire (suc x.wire) _ _ (λ e. omega arith) (h (suc x.wire) (omega arith) (omega arith)))), (tt, tt)),
    )
    form_connects (Seq no_statements) x names low h = turn_connects x low h
    form_connects (Seq (a_statement s ss)) x names low h =
        let here : suc x.wire < x.wire + suc (suc (wires_of s + wires_in ss)) = omega arith in
        connects_join around registers look (groups + island_wires islands) (drivers_of groups islands (inside x) s) (parts_drivers groups islands x (inside x).wire (behind islands s (inside x)) ss)
        (statement_connects s (inside x) names.0 (omega arith) (λ n l m. read_before n (drivers_of groups islands (inside x) s) _ (h n (omega arith) (omega arith))))
        (parts_connect ss x (inside x).wire (behind islands s (inside x)) names.1 (omega arith) low (omega arith)
        (read_behind (suc x.wire) (drivers_of groups islands (inside x) s) _ (skips s (inside x) (suc x.wire) names.0 (omega arith) (inl (omega arith))) (h (suc x.wire) (omega arith) here))
        (λ n l m. read_behind n (drivers_of groups islands (inside x) s) _ (skips s (inside x) n names.0 (omega arith) (inr l)) (h n (omega arith) (omega arith))))
    form_connects (Par arms) x names low h =
        let first : ((n : ℕ) → suc x.wire ≤ n → n < x.wire + suc (suc (wires_in arms)) → Reads n (arms_drivers groups islands x (suc (suc x.wire)) x.register arms ++ _)) = λ n l m. read_next x.wire n _ _ (λ e. omega arith) (h n (omega arith) m) in (
          (λ l. read_here x.wire _ _ (h x.wire (omega arith) (omega arith))),
          connects_join around registers look (groups + island_wires islands) (arms_drivers groups islands x (suc (suc x.wire)) x.register arms) _
              (arms_connect arms x (suc (suc x.wire)) x.register names (omega arith) (λ n l m. read_before n (arms_drivers groups islands x (suc (suc x.wire)) x.register arms) _ (first n (omega arith) (omega arith)))) (
                (λ l. read_here (suc x.wire) _ _ (read_behind (suc x.wire) (arms_drivers groups islands x (suc (suc x.wire)) x.register arms) _ (arms_skip arms x (suc (suc x.wire)) x.register (suc x.wire) names (omega arith) (omega arith))
                    (first (suc x.wire) (omega arith) (omega arith)))),
                tt,
              ),
        )
    form_connects (If test comb a b) x names low h = (
      (λ l. read_here x.wire _ _ (h x.wire (omega arith) (omega arith))),
      connects_join around registers look (groups + island_wires islands) (comb_goes groups islands x comb) _ (comb_connects x comb) (
        tt,
        connects_join around registers look (groups + island_wires islands) (drivers_of groups islands (past_test x) a) _
            (statement_connects a (past_test x) names.1.0 (omega arith) (λ n l m. read_before n (drivers_of groups islands (past_test x) a) _ (read_past n _ _ refl (past_comb x comb n _ _ (λ e. omega arith) (h n (omega arith) (omega arith)))))) (
              tt,
              connects_join around registers look (groups + island_wires islands) (drivers_of groups islands (behind islands a (past_test x)) b) _
                  (statement_connects b (behind islands a (past_test x)) names.1.1 (omega arith) (λ n l m. read_before n (drivers_of groups islands (behind islands a (past_test x)) b) _
                  (read_past n _ _ refl (read_behind n (drivers_of groups islands (past_test x) a) _ (skips a (past_test x) n names.1.0 (omega arith) (inr l)) (read_past n _ _ refl (past_comb x comb n _ _ (λ e. omega arith) (h n (omega arith) (omega arith)))))))) (
                    (λ l. read_here (suc x.wire) _ _ (read_behind (suc x.wire) (drivers_of groups islands (behind islands a (past_test x)) b) _ (skips b (behind islands a (past_test x)) (suc x.wire) names.1.1 (omega arith) (inl (omega arith)))
                        (read_past (suc x.wire) _ _ refl (read_behind (suc x.wire) (drivers_of groups islands (past_test x) a) _ (skips a (past_test x) (suc x.wire) names.1.0 (omega arith) (inl (omega arith)))
                        (read_past (suc x.wire) _ _ refl (past_comb x comb (suc x.wire) _ _ (λ e. omega arith) (h (suc x.wire) (omega arith) (omega arith)))))))),
                    tt,
                  ),
            ),
      ),
    )
    form_connects (While test comb a) x names low h = (
      (λ l. read_here x.wire _ _ (h x.wire (omega arith) (omega arith))),
      connects_join around registers look (groups + island_wires islands) (comb_goes groups islands x comb) _ (comb_connects x comb) (
        (λ l. read_here (suc x.wire) _ _ (past_comb x comb (suc x.wire) _ _ (λ e. omega arith) (h (suc x.wire) (omega arith) (omega arith)))),
        (
          tt,
          connects_join around registers look (groups + island_wires islands) (drivers_of groups islands (past_test x) a) _
              (statement_connects a (past_test x) names.1 (omega arith) (λ n l m. read_before n (drivers_of groups islands (past_test x) a) _
              (read_past n _ _ refl (read_next (suc x.wire) n _ _ (λ e. omega arith) (past_comb x comb n _ _ (λ e. omega arith) (h n (omega arith) (omega arith)))))))
              (tt, tt),
        ),
      ),
    )
    form_connects (Repeat zero a) x names low h = turn_connects x low h
    form_connects (Repeat (suc k) a) x names low h =
        connects_join around registers look (groups + island_wires islands) (drivers_of groups islands (counted_inside x) a) (counting x k)
        (statement_connects a (counted_inside x) names (omega arith) (λ n l m. read_before n (drivers_of groups islands (counted_inside x) a) (counting x k) (h n (omega arith) (omega arith)))) (
          (λ l. read_here (suc x.wire) _ _ (read_behind (suc x.wire) (drivers_of groups islands (counted_inside x) a) (counting x k) (skips a (counted_inside x) (suc x.wire) names (omega arith) (inl (omega arith)))
              (h (suc x.wire) (omega arith) (omega arith)))),
          (tt, (tt, (tt, tt))),
        )
    form_connects (StaticSeq written parts) x names low h = turn_connects x low h
    form_connects (StaticPar written arms) x names low h = turn_connects x low h
    form_connects (StaticIf written test a b) x names low h = turn_connects x low h
    form_connects (StaticRepeat written count a) x names low h = turn_connects x low h
    form_connects (Timed k) x names low h = (
      (λ l. read_here x.wire _ _ (h x.wire (omega arith) (omega arith))),
      island_connects x k (slice_get islands k) (island_within islands k) (names_at groups islands k named) low (read_next x.wire (suc x.wire) _ _ (λ e. omega arith) (h (suc x.wire) (omega arith) (omega arith))),
    )

    pub statement_connects : (s : PlainStatement) (x : Stand) → StatementNames groups s → groups + island_wires islands ≤ x.wire
        → ((n : ℕ) → x.wire ≤ n → n < x.wire + wires_of s → Reads n (drivers_of groups islands x s)) → All (drivers_of groups islands x s)
    statement_connects (Placed form place) x names low h = form_connects form x names low h

    parts_connect : (ss : PlainStatements) (seq : Stand) (before : ℕ) (x : Stand) → PartsName groups ss → groups + island_wires islands ≤ x.wire → groups + island_wires islands ≤ seq.wire → suc seq.wire < x.wire
        → Reads (suc seq.wire) (parts_drivers groups islands seq before x ss) → ((n : ℕ) → x.wire ≤ n → n < x.wire + wires_in ss → Reads n (parts_drivers groups islands seq before x ss))
        → All (parts_drivers groups islands seq before x ss)
    parts_connect no_statements seq before x names low base under end h = ((λ l. read_here (suc seq.wire) _ _ end), tt)
    parts_connect (a_statement s ss) seq before x names low base under end h = (
      tt,
      connects_join around registers look (groups + island_wires islands) (drivers_of groups islands x s) _
          (statement_connects s x names.0 low (λ n l m. read_before n (drivers_of groups islands x s) _ (read_past n _ _ refl (h n l (omega arith)))))
          (parts_connect ss seq x.wire (behind islands s x) names.1 (omega arith) base (omega arith)
          (read_behind (suc seq.wire) (drivers_of groups islands x s) _ (skips s x (suc seq.wire) names.0 (omega arith) (inl under)) (read_past (suc seq.wire) _ _ refl end))
          (λ n l m. read_behind n (drivers_of groups islands x s) _ (skips s x n names.0 (omega arith) (inr l)) (read_past n _ _ refl (h n (omega arith) (omega arith))))),
    )

    arms_connect : (arms : PlainStatements) (par : Stand) (wire register : ℕ) → PartsName groups arms → groups + island_wires islands ≤ wire
        → ((n : ℕ) → wire ≤ n → n < wire + wires_in arms → Reads n (arms_drivers groups islands par wire register arms)) → All (arms_drivers groups islands par wire register arms)
    arms_connect no_statements par wire register names low h = tt
    arms_connect (a_statement s ss) par wire register names low h = (
      tt,
      connects_join around registers look (groups + island_wires islands) (drivers_of groups islands (arm_stand par wire register) s) _
          (statement_connects s (arm_stand par wire register) names.0 low (λ n l m. read_before n (drivers_of groups islands (arm_stand par wire register) s) _ (read_past n _ _ refl (h n l (omega arith))))) (
            tt,
            arms_connect ss par (wire + wires_of s) (suc register + length (registers_of islands s)) names.1 (omega arith)
                (λ n l m. read_past n _ _ refl (read_behind n (drivers_of groups islands (arm_stand par wire register) s) _ (skips s (arm_stand par wire register) n names.0 (omega arith) (inr l)) (read_past n _ _ refl (h n (omega arith) (omega arith))))),
          ),
    )
