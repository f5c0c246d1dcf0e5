-- Each target of an island is driven by that island alone: so where it takes what all of control gives it, it takes what the drivers of
-- its island give it, where the island's statement stands.
use Rattle.std.proofs.Common.{◌≡◌, ℕ, zero, suc, ◌+◌, ◌<◌, ◌≤◌, ◌⊎◌, inl, inr, false, List, [], ◌∷◌, ◌++◌, length, Option, Some, None, slice_get, ap, ◌∙◌, arith, length-append}
use Rattle.cx_bits.specs.BitVector.{BitVector}
use Rattle.cx_meaning.specs.Designs.{PlainComponent, PlainForm, Empty, Enable, Seq, Par, If, While, Repeat, StaticSeq, StaticPar, StaticIf, StaticRepeat, Timed, PlainStatement, Placed, PlainStatements, no_statements, a_statement}
use Rattle.cx_meaning.specs.Islands.{group_length, form_length}
use Rattle.cx_net.specs.Nets.{PlainNetExpr, AllOf, exprs_of, PlainNetTarget, ToRegister, ToWire, ToHole, PlainNetDriver}
use Rattle.cx_net.specs.NetMeaning.{Node, NetAround, same_target}
use Rattle.cx_static.specs.Islands.{PlainIsland}
use Rattle.cx_static.specs.Lowering.{Lowering, after_enable, form_after, after, parts_after, lowered_enable, lowered_form, lowered, lowered_parts, island_gathered, island_of}
use Rattle.cx_wiring.specs.Counts.{wires_of, registers_of}
use Rattle.cx_wiring.specs.Stands.{Stand, at, end_of, stands, ends, goes, inside, past_test, behind}
use Rattle.cx_wiring.specs.Parts.{either}
use Rattle.cx_wiring.specs.Control.{found_one, found_zero, comb_goes, timed_drivers, arm_stand, arm_restarts, arm_finishes, arms_over, counted_inside, counting, form_drivers, drivers_of, parts_drivers, arms_drivers}
use Rattle.cx_wiring.specs.Bounds.{AllDrive}
use Rattle.cx_wiring.specs.Takings.{takes, takes_of}
use Rattle.cx_wiring.proofs.RoomLemmas.{drive_both}
use Rattle.cx_wiring.proofs.TakingLemmas.{takes_append, others_pass}
use Rattle.cx_wiring_cycles.specs.IslandTakes.{FormIslands, StatementIslands, PartsIslands, ArmsIslands}

-- ISLANDS ARE NUMBERED in the order of the statements
module _ (part : PlainComponent) where
  island_more : (form : PlainForm) (l : Lowering) → length l.islands < length (l.islands ++ island_of (form_length part form) (island_gathered part form l.cells) ∷ [])
  island_more form l = omega (arith, length-append l.islands (island_of (form_length part form) (island_gathered part form l.cells) ∷ []))

  enable_more : (g : ℕ) (o : Option ℕ) (l : Lowering) → length l.islands ≤ length (after_enable part g o l).islands
  enable_more g None l = omega arith
  enable_more g (Some n) l = let h : length l.islands < length (after_enable part g (Some n) l).islands = island_more (Enable g) l in omega arith

  mutual
    form_more : (form : PlainForm) (l : Lowering) → length l.islands ≤ length (form_after part form l).islands
    form_more Empty l = omega arith
    form_more (Enable g) l = enable_more g (group_length part g) l
    form_more (Seq parts) l = parts_more parts l
    form_more (Par arms) l = parts_more arms l
    form_more (If test comb a b) l =
        let h : length l.islands ≤ length (after part a l).islands = more a l in
        let k : length (after part a l).islands ≤ length (after part b (after part a l)).islands = more b (after part a l) in omega arith
    form_more (While test comb a) l = more a l
    form_more (Repeat count a) l = more a l
    form_more (StaticSeq written parts) l = let h = island_more (StaticSeq written parts) l in omega arith
    form_more (StaticPar written arms) l = let h = island_more (StaticPar written arms) l in omega arith
    form_more (StaticIf written test a b) l = let h = island_more (StaticIf written test a b) l in omega arith
    form_more (StaticRepeat written count a) l = let h = island_more (StaticRepeat written count a) l in omega arith
    form_more (Timed k) l = omega arith

    pub more : (s : PlainStatement) (l : Lowering) → length l.islands ≤ length (after part s l).islands
    more (Placed form place) l = form_more form l

    pub parts_more : (ss : PlainStatements) (l : Lowering) → length l.islands ≤ length (parts_after part ss l).islands
    parts_more no_statements l = omega arith
    parts_more (a_statement s ss) l =
        let h : length l.islands ≤ length (after part s l).islands = more s l in
        let k : length (after part s l).islands ≤ length (parts_after part ss (after part s l)).islands = parts_more ss (after part s l) in omega arith

-- designs have no Timed
abbrev mutual
  pub NoTimed : PlainForm → Type 0
  NoTimed Empty = Unit {0}
  NoTimed (Enable g) = Unit {0}
  NoTimed (Seq parts) = NoneTimed parts
  NoTimed (Par arms) = NoneTimed arms
  NoTimed (If test comb a b) = IsUntimed a × IsUntimed b
  NoTimed (While test comb a) = IsUntimed a
  NoTimed (Repeat count a) = IsUntimed a
  NoTimed (StaticSeq written parts) = Unit {0}
  NoTimed (StaticPar written arms) = Unit {0}
  NoTimed (StaticIf written test a b) = Unit {0}
  NoTimed (StaticRepeat written count a) = Unit {0}
  NoTimed (Timed k) = ⊥

  pub IsUntimed : PlainStatement → Type 0
  IsUntimed (Placed form place) = NoTimed form

  pub NoneTimed : PlainStatements → Type 0
  NoneTimed no_statements = Unit {0}
  NoneTimed (a_statement s ss) = IsUntimed s × NoneTimed ss

module _ (part : PlainComponent) (groups : ℕ) (islands : List PlainIsland) (bound : ℕ) where
  abbrev Skips : PlainNetTarget → List PlainNetDriver → Type 0
  Skips t ds = AllDrive (λ u. same_target u t ≡ false) ds

  -- A TARGET OF ISLAND j: neither other islands drive it nor what is no island
  pub record OfIsland (j : ℕ) (t : PlainNetTarget) : Type 0 where
    pub wire : (n : ℕ) → bound ≤ n → same_target (ToWire n) t ≡ false
    pub register : (n : ℕ) → same_target (ToRegister n) t ≡ false
    pub hole : (n : ℕ) → same_target (ToHole n) t ≡ false
    pub others : (i : ℕ) → (i ≡ j → ⊥) → (y : Stand) → bound ≤ y.wire → AllDrive (λ u. same_target u t ≡ false) (timed_drivers groups islands y i (slice_get islands i))

  module _ (j : ℕ) (t : PlainNetTarget) (own : OfIsland j t) where
    comb_skips : (x : Stand) (comb : Option ℕ) → Skips t (comb_goes groups islands x comb)
    comb_skips x None = tt
    comb_skips x (Some g) = (own.hole _, tt)

    two : (x : Stand) → bound ≤ x.wire → (same_target (ToWire x.wire) t ≡ false) × (same_target (ToWire (suc x.wire)) t ≡ false)
    two x low = (own.wire x.wire low, own.wire (suc x.wire) (omega arith))

    island_skips : (x : Stand) (i : ℕ) → bound ≤ x.wire → (i ≡ j → ⊥) → Skips t (form_drivers groups islands x (Timed i))
    island_skips x i low apart = ((two x low).0, own.others i apart x low)

    enable_skips : (g : ℕ) (o : Option ℕ) (l : Lowering) (x : Stand) → bound ≤ x.wire → (j < length l.islands) ⊎ (length (after_enable part g o l).islands ≤ j) → Skips t (form_drivers groups islands x (lowered_enable part g o l))
    enable_skips g None l x low out = ((two x low).0, ((two x low).1, (own.hole _, tt)))
    enable_skips g (Some n) l x low out = island_skips x (length l.islands) low (apart out)
      where
        apart : (j < length l.islands) ⊎ (length (after_enable part g (Some n) l).islands ≤ j) → length l.islands ≡ j → ⊥
        apart (inl less) e = omega arith
        apart (inr past) e = let h = island_more part (Enable g) l in omega arith

    first_out : (a b c : ℕ) → b ≤ c → (j < a) ⊎ (c ≤ j) → (j < a) ⊎ (b ≤ j)
    first_out a b c l (inl e) = inl e
    first_out a b c l (inr e) = inr (omega arith)

    later_out : (a b c : ℕ) → a ≤ b → (j < a) ⊎ (c ≤ j) → (j < b) ⊎ (c ≤ j)
    later_out a b c l (inl e) = inl (omega arith)
    later_out a b c l (inr e) = inr e

    form_island_out : (form : PlainForm) (l : Lowering) → (j < length l.islands) ⊎ (length (l.islands ++ island_of (form_length part form) (island_gathered part form l.cells) ∷ []) ≤ j) → length l.islands ≡ j → ⊥
    form_island_out form l (inl less) e = omega arith
    form_island_out form l (inr past) e = let h = island_more part form l in omega arith

    mutual
      form_skips : (form : PlainForm) (l : Lowering) (x : Stand) → NoTimed form → bound ≤ x.wire → (j < length l.islands) ⊎ (length (form_after part form l).islands ≤ j) → Skips t (form_drivers groups islands x (lowered_form part form l))
      form_skips Empty l x u low out = ((two x low).0, ((two x low).1, tt))
      form_skips (Enable g) l x u low out = enable_skips g (group_length part g) l x low out
      form_skips (Seq no_statements) l x u low out = ((two x low).0, ((two x low).1, tt))
      form_skips (Seq (a_statement s ss)) l x u low out =
          drive_both (λ v. same_target v t ≡ false) (drivers_of groups islands (inside x) (lowered part s l)) _
          (statement_skips s l (inside x) u.0 (omega arith) (first_out _ _ _ (parts_more part ss (after part s l)) out))
          (parts_skip ss (after part s l) x (inside x).wire (behind islands (lowered part s l) (inside x)) u.1 low (omega arith) (later_out _ _ _ (more part s l) out))
      form_skips (Par arms) l x u low out = (
        (two x low).0,
        drive_both (λ v. same_target v t ≡ false) (arms_drivers groups islands x (suc (suc x.wire)) x.register (lowered_parts part arms l)) _
            (arms_skip arms l x (suc (suc x.wire)) x.register u (omega arith) out) ((two x low).1, tt),
      )
      form_skips (If test comb a b) l x u low out = (
        (two x low).0,
        drive_both (λ v. same_target v t ≡ false) (comb_goes groups islands x comb) _ (comb_skips x comb) (
          own.register _,
          drive_both (λ v. same_target v t ≡ false) (drivers_of groups islands (past_test x) (lowered part a l)) _
              (statement_skips a l (past_test x) u.0 (omega arith) (first_out _ _ _ (more part b (after part a l)) out)) (
                own.register _,
                drive_both (λ v. same_target v t ≡ false) (drivers_of groups islands (behind islands (lowered part a l) (past_test x)) (lowered part b (after part a l))) _
                    (statement_skips b (after part a l) (behind islands (lowered part a l) (past_test x)) u.1 (omega arith) (later_out _ _ _ (more part a l) out)) ((two x low).1, tt),
              ),
        ),
      )
      form_skips (While test comb a) l x u low out = (
        (two x low).0,
        drive_both (λ v. same_target v t ≡ false) (comb_goes groups islands x comb) _ (comb_skips x comb)
            ((two x low).1, (own.register _, drive_both (λ v. same_target v t ≡ false) (drivers_of groups islands (past_test x) (lowered part a l)) _ (statement_skips a l (past_test x) u (omega arith) out) (own.register _, tt))),
      )
      form_skips (Repeat zero a) l x u low out = ((two x low).0, ((two x low).1, tt))
      form_skips (Repeat (suc n) a) l x u low out =
          drive_both (λ v. same_target v t ≡ false) (drivers_of groups islands (counted_inside x) (lowered part a l)) _ (statement_skips a l (counted_inside x) u (omega arith) out)
          ((two x low).1, (own.register _, (own.register _, (own.register _, tt))))
      form_skips (StaticSeq written parts) l x u low out = island_skips x (length l.islands) low (form_island_out (StaticSeq written parts) l out)
      form_skips (StaticPar written arms) l x u low out = island_skips x (length l.islands) low (form_island_out (StaticPar written arms) l out)
      form_skips (StaticIf written test a b) l x u low out = island_skips x (length l.islands) low (form_island_out (StaticIf written test a b) l out)
      form_skips (StaticRepeat written count a) l x u low out = island_skips x (length l.islands) low (form_island_out (StaticRepeat written count a) l out)
      form_skips (Timed k) l x u low out = absurd u

      pub statement_skips : (s : PlainStatement) (l : Lowering) (x : Stand) → IsUntimed s → bound ≤ x.wire → (j < length l.islands) ⊎ (length (after part s l).islands ≤ j) → Skips t (drivers_of groups islands x (lowered part s l))
      statement_skips (Placed form place) l x u low out = form_skips form l x u low out

      parts_skip : (ss : PlainStatements) (l : Lowering) (seq : Stand) (before : ℕ) (x : Stand) → NoneTimed ss → bound ≤ seq.wire → bound ≤ x.wire → (j < length l.islands) ⊎ (length (parts_after part ss l).islands ≤ j)
          → Skips t (parts_drivers groups islands seq before x (lowered_parts part ss l))
      parts_skip no_statements l seq before x u base low out = ((two seq base).1, tt)
      parts_skip (a_statement s ss) l seq before x u base low out = (
        own.register _,
        drive_both (λ v. same_target v t ≡ false) (drivers_of groups islands x (lowered part s l)) _ (statement_skips s l x u.0 low (first_out _ _ _ (parts_more part ss (after part s l)) out))
            (parts_skip ss (after part s l) seq x.wire (behind islands (lowered part s l) x) u.1 base (omega arith) (later_out _ _ _ (more part s l) out)),
      )

      arms_skip : (arms : PlainStatements) (l : Lowering) (par : Stand) (wire register : ℕ) → NoneTimed arms → bound ≤ wire → (j < length l.islands) ⊎ (length (parts_after part arms l).islands ≤ j)
          → Skips t (arms_drivers groups islands par wire register (lowered_parts part arms l))
      arms_skip no_statements l par wire register u low out = tt
      arms_skip (a_statement s ss) l par wire register u low out = (
        own.register _,
        drive_both (λ v. same_target v t ≡ false) (drivers_of groups islands (arm_stand par wire register) (lowered part s l)) _ (statement_skips s l (arm_stand par wire register) u.0 low (first_out _ _ _ (parts_more part ss (after part s l)) out)) (
          own.register _,
          arms_skip ss (after part s l) par (wire + wires_of (lowered part s l)) (suc register + length (registers_of islands (lowered part s l))) u.1 (omega arith) (later_out _ _ _ (more part s l) out),
        ),
      )

    end_skips : (x : Stand) (when : PlainNetExpr) → bound ≤ x.wire → Skips t (ends x when ∷ [])
    end_skips x when low = ((two x low).1, tt)

    goes_skips : (x : Stand) (guard : PlainNetExpr) (position : ℕ) → Skips t (goes x guard position ∷ [])
    goes_skips x guard position = (own.register _, tt)

    counting_skips : (x : Stand) (n : ℕ) → bound ≤ x.wire → Skips t (counting x n)
    counting_skips x n low = ((two x low).1, (own.register _, (own.register _, (own.register _, tt))))

    -- what is behind the first branch, or behind an arm
    else_skips : (a b : PlainStatement) (l : Lowering) (x : Stand) (guard when : PlainNetExpr) → IsUntimed b → bound ≤ x.wire → (j < length (after part a l).islands) ⊎ (length (after part b (after part a l)).islands ≤ j)
        → Skips t (goes x guard (behind islands (lowered part a l) (past_test x)).position ∷ (drivers_of groups islands (behind islands (lowered part a l) (past_test x)) (lowered part b (after part a l)) ++ ends x when ∷ []))
    else_skips a b l x guard when u low out = (
      own.register _,
      drive_both (λ v. same_target v t ≡ false) (drivers_of groups islands (behind islands (lowered part a l) (past_test x)) (lowered part b (after part a l))) (ends x when ∷ [])
          (statement_skips b (after part a l) (behind islands (lowered part a l) (past_test x)) u (omega arith) out) (end_skips x when low),
    )

    rest_skips : (s : PlainStatement) (ss : PlainStatements) (l : Lowering) (par : Stand) (wire register : ℕ) → NoneTimed ss → bound ≤ wire → (j < length (after part s l).islands) ⊎ (length (parts_after part ss (after part s l)).islands ≤ j)
        → Skips t (arm_finishes wire register (lowered part s l) ∷ arms_drivers groups islands par (wire + wires_of (lowered part s l)) (suc register + length (registers_of islands (lowered part s l))) (lowered_parts part ss (after part s l)))
    rest_skips s ss l par wire register u low out =
        (own.register _, arms_skip ss (after part s l) par (wire + wires_of (lowered part s l)) (suc register + length (registers_of islands (lowered part s l))) u (omega arith) out)

  -- WHAT AN ISLAND'S TARGETS TAKE, where it stands; each target has a value, and takes it with something of a kind behind all drivers
  module _ (around : NetAround) (registers : ℕ → Option BitVector) (look : Node → Option BitVector) (value : PlainNetTarget → Option BitVector) (Base : PlainNetTarget → Option BitVector → Type 0)
      (Has : ℕ → Type 0) (Mine : ℕ → PlainNetTarget → Type 0) (of_mine : (j : ℕ) (t : PlainNetTarget) → Mine j t → OfIsland j t) where
    abbrev pub TakesIts : PlainNetTarget → List PlainNetDriver → Type 0
    TakesIts t ds = (o : Option BitVector) × Base t o × (value t ≡ takes around registers look t o ds)

    -- each target of islands from one number to before another
    abbrev pub AllTake : (from to : ℕ) → List PlainNetDriver → Type 0
    AllTake from to ds = (j : ℕ) → from ≤ j → j < to → Has j × ((t : PlainNetTarget) → Mine j t → TakesIts t ds)

    abbrev pub TakesItsIsland : ℕ → Stand → Type 0
    TakesItsIsland j y = Has j × ((t : PlainNetTarget) → Mine j t → TakesIts t (timed_drivers groups islands y j (slice_get islands j)))

    in_front : (t : PlainNetTarget) (xs ys : List PlainNetDriver) → AllDrive (λ u. same_target u t ≡ false) ys → TakesIts t (xs ++ ys) → TakesIts t xs
    in_front t xs ys skip h = (h.0, h.1, h.2 ∙ takes_append around registers look t h.0 xs ys ∙ ap (λ z. takes around registers look t z xs) (others_pass around registers look t h.0 ys skip))

    at_back : (t : PlainNetTarget) (xs ys : List PlainNetDriver) → AllDrive (λ u. same_target u t ≡ false) xs → TakesIts t (xs ++ ys) → TakesIts t ys
    at_back t xs ys skip h = (h.0, h.1, h.2 ∙ takes_append around registers look t h.0 xs ys ∙ others_pass around registers look t (takes around registers look t h.0 ys) xs skip)

    past : (t : PlainNetTarget) (d : PlainNetDriver) (ds : List PlainNetDriver) → same_target d.target t ≡ false → TakesIts t (d ∷ ds) → TakesIts t ds
    past t d ds other h = (h.0, h.1, h.2 ∙ ap (λ s. takes_of around registers look s d (takes around registers look t h.0 ds)) other)

    module _ (Q : ℕ → Stand → Type 0) (each : (j : ℕ) (y : Stand) → bound ≤ y.wire → TakesItsIsland j y → Q j y) where
      island_takes : (x : Stand) (k : ℕ) (to : ℕ) → bound ≤ x.wire → k < to → AllTake k to (form_drivers groups islands x (Timed k)) → Q k x
      island_takes x k to low less h = let i = h k (omega arith) less in each k x low (i.0, λ t mine. past t (stands x) (timed_drivers groups islands x k (slice_get islands k)) ((of_mine k t mine).wire x.wire low) (i.1 t mine))

      enable_takes : (g : ℕ) (o : Option ℕ) (l : Lowering) (x : Stand) → bound ≤ x.wire → AllTake (length l.islands) (length (after_enable part g o l).islands) (form_drivers groups islands x (lowered_enable part g o l))
          → FormIslands Q islands x (lowered_enable part g o l)
      enable_takes g None l x low h = tt
      enable_takes g (Some n) l x low h = island_takes x (length l.islands) _ low (island_more part (Enable g) l) h

      -- of the parts of a statement
      first_take : (from mid to : ℕ) (xs ys : List PlainNetDriver) → AllTake from to (xs ++ ys) → mid ≤ to → ((j : ℕ) (t : PlainNetTarget) → OfIsland j t → j < mid → AllDrive (λ u. same_target u t ≡ false) ys) → AllTake from mid xs
      first_take from mid to xs ys h l skip j low high = let k = h j low (omega arith) in (k.0, λ t mine. in_front t xs ys (skip j t (of_mine j t mine) high) (k.1 t mine))

      later_take : (from mid to : ℕ) (xs ys : List PlainNetDriver) → AllTake from to (xs ++ ys) → from ≤ mid → ((j : ℕ) (t : PlainNetTarget) → OfIsland j t → mid ≤ j → AllDrive (λ u. same_target u t ≡ false) xs) → AllTake mid to ys
      later_take from mid to xs ys h l skip j low high = let k = h j (omega arith) high in (k.0, λ t mine. at_back t xs ys (skip j t (of_mine j t mine) low) (k.1 t mine))

      past_one : (from to : ℕ) (d : PlainNetDriver) (ds : List PlainNetDriver) → AllTake from to (d ∷ ds) → ((j : ℕ) (t : PlainNetTarget) → OfIsland j t → same_target d.target t ≡ false) → AllTake from to ds
      past_one from to d ds h skip j low high = let k = h j low high in (k.0, λ t mine. past t d ds (skip j t (of_mine j t mine)) (k.1 t mine))

      mutual
        form_takes : (form : PlainForm) (l : Lowering) (x : Stand) → NoTimed form → bound ≤ x.wire → AllTake (length l.islands) (length (form_after part form l).islands) (form_drivers groups islands x (lowered_form part form l))
            → FormIslands Q islands x (lowered_form part form l)
        form_takes Empty l x u low h = tt
        form_takes (Enable g) l x u low h = enable_takes g (group_length part g) l x low h
        form_takes (Seq no_statements) l x u low h = tt
        form_takes (Seq (a_statement s ss)) l x u low h =
            let a = length l.islands in
            let b = length (after part s l).islands in
            let c = length (parts_after part ss (after part s l)).islands in
            let xs = drivers_of groups islands (inside x) (lowered part s l) in
            let ys = parts_drivers groups islands x (inside x).wire (behind islands (lowered part s l) (inside x)) (lowered_parts part ss (after part s l)) in (
              statement_takes s l (inside x) u.0 (omega arith)
                  (first_take a b c xs ys h (parts_more part ss (after part s l)) (λ j t own less. parts_skip j t own ss (after part s l) x (inside x).wire (behind islands (lowered part s l) (inside x)) u.1 low (omega arith) (inl less))),
              parts_take ss (after part s l) x (inside x).wire (behind islands (lowered part s l) (inside x)) u.1 low (omega arith)
                  (later_take a b c xs ys h (more part s l) (λ j t own past. statement_skips j t own s l (inside x) u.0 (omega arith) (inr past))),
            )
        form_takes (Par arms) l x u low h =
            let a = length l.islands in
            let c = length (parts_after part arms l).islands in
            let xs = arms_drivers groups islands x (suc (suc x.wire)) x.register (lowered_parts part arms l) in
            let when = AllOf (exprs_of (at x ∷ arms_over groups islands (suc (suc x.wire)) x.register (lowered_parts part arms l))) in
            arms_take arms l x (suc (suc x.wire)) x.register u (omega arith)
            (first_take a c c xs (ends x when ∷ []) (past_one a c (stands x) (xs ++ ends x when ∷ []) h (λ j t own. own.wire x.wire low)) (omega arith) (λ j t own less. end_skips j t own x when low))
        form_takes (If test comb a b) l x u low h =
            let at_first = length l.islands in
            let mid = length (after part a l).islands in
            let to = length (after part b (after part a l)).islands in
            let first = past_test x in
            let second = behind islands (lowered part a l) first in
            let xs = drivers_of groups islands first (lowered part a l) in
            let ys = drivers_of groups islands second (lowered part b (after part a l)) in
            let when = either (end_of first.wire) (end_of second.wire) in
            let last = ends x when ∷ [] in
            let one = goes x (found_one x test.port) first.position in
            let other = goes x (found_zero x test.port) second.position in
            let inner = past_one at_first to one (xs ++ other ∷ (ys ++ last))
            (later_take at_first at_first to (comb_goes groups islands x comb) (one ∷ (xs ++ other ∷ (ys ++ last)))
            (past_one at_first to (stands x) (comb_goes groups islands x comb ++ one ∷ (xs ++ other ∷ (ys ++ last))) h (λ j t own. own.wire x.wire low)) (omega arith) (λ j t own p. comb_skips j t own x comb))
            (λ j t own. own.register _) in (
              statement_takes a l first u.0 (omega arith)
                  (first_take at_first mid to xs (other ∷ (ys ++ last)) inner (more part b (after part a l)) (λ j t own less. else_skips j t own a b l x (found_zero x test.port) when u.1 low (inl less))),
              statement_takes b (after part a l) second u.1 (omega arith)
                  (first_take mid to to ys last
                  (past_one mid to other (ys ++ last) (later_take at_first mid to xs (other ∷ (ys ++ last)) inner (more part a l) (λ j t own p. statement_skips j t own a l first u.0 (omega arith) (inr p))) (λ j t own. own.register _))
                  (omega arith) (λ j t own less. end_skips j t own x when low)),
            )
        form_takes (While test comb a) l x u low h =
            let at_first = length l.islands in
            let to = length (after part a l).islands in
            let body = past_test x in
            let xs = drivers_of groups islands body (lowered part a l) in
            let again = goes x (end_of body.wire) x.position in
            let over = ends x (found_zero x test.port) in
            let one = goes x (found_one x test.port) body.position in
            let inner = past_one at_first to one (xs ++ again ∷ []) (past_one at_first to over (one ∷ (xs ++ again ∷ []))
            (later_take at_first at_first to (comb_goes groups islands x comb) (over ∷ one ∷ (xs ++ again ∷ []))
            (past_one at_first to (stands x) (comb_goes groups islands x comb ++ over ∷ one ∷ (xs ++ again ∷ [])) h (λ j t own. own.wire x.wire low)) (omega arith) (λ j t own p. comb_skips j t own x comb))
            (λ j t own. own.wire (suc x.wire) (omega arith))) (λ j t own. own.register _) in
            statement_takes a l body u (omega arith) (first_take at_first to to xs (again ∷ []) inner (omega arith) (λ j t own less. goes_skips j t own x (end_of body.wire) x.position))
        form_takes (Repeat zero a) l x u low h = tt
        form_takes (Repeat (suc n) a) l x u low h =
            statement_takes a l (counted_inside x) u (omega arith)
            (first_take (length l.islands) (length (after part a l).islands) (length (after part a l).islands) (drivers_of groups islands (counted_inside x) (lowered part a l)) (counting x n) h (omega arith)
            (λ j t own less. counting_skips j t own x n low))
        form_takes (StaticSeq written parts) l x u low h = island_takes x (length l.islands) _ low (island_more part (StaticSeq written parts) l) h
        form_takes (StaticPar written arms) l x u low h = island_takes x (length l.islands) _ low (island_more part (StaticPar written arms) l) h
        form_takes (StaticIf written test a b) l x u low h = island_takes x (length l.islands) _ low (island_more part (StaticIf written test a b) l) h
        form_takes (StaticRepeat written count a) l x u low h = island_takes x (length l.islands) _ low (island_more part (StaticRepeat written count a) l) h
        form_takes (Timed k) l x u low h = absurd u

        pub statement_takes : (s : PlainStatement) (l : Lowering) (x : Stand) → IsUntimed s → bound ≤ x.wire → AllTake (length l.islands) (length (after part s l).islands) (drivers_of groups islands x (lowered part s l))
            → StatementIslands Q islands x (lowered part s l)
        statement_takes (Placed form place) l x u low h = form_takes form l x u low h

        parts_take : (ss : PlainStatements) (l : Lowering) (seq : Stand) (before : ℕ) (x : Stand) → NoneTimed ss → bound ≤ seq.wire → bound ≤ x.wire
            → AllTake (length l.islands) (length (parts_after part ss l).islands) (parts_drivers groups islands seq before x (lowered_parts part ss l)) → PartsIslands Q islands x (lowered_parts part ss l)
        parts_take no_statements l seq before x u base low h = tt
        parts_take (a_statement s ss) l seq before x u base low h =
            let a = length l.islands in
            let b = length (after part s l).islands in
            let c = length (parts_after part ss (after part s l)).islands in
            let xs = drivers_of groups islands x (lowered part s l) in
            let ys = parts_drivers groups islands seq x.wire (behind islands (lowered part s l) x) (lowered_parts part ss (after part s l)) in
            let inner = past_one a c (goes x (end_of before) x.position) (xs ++ ys) h (λ j t own. own.register _) in (
              statement_takes s l x u.0 low
                  (first_take a b c xs ys inner (parts_more part ss (after part s l)) (λ j t own less. parts_skip j t own ss (after part s l) seq x.wire (behind islands (lowered part s l) x) u.1 base (omega arith) (inl less))),
              parts_take ss (after part s l) seq x.wire (behind islands (lowered part s l) x) u.1 base (omega arith)
                  (later_take a b c xs ys inner (more part s l) (λ j t own past. statement_skips j t own s l x u.0 low (inr past))),
            )

        arms_take : (arms : PlainStatements) (l : Lowering) (par : Stand) (wire register : ℕ) → NoneTimed arms → bound ≤ wire
            → AllTake (length l.islands) (length (parts_after part arms l).islands) (arms_drivers groups islands par wire register (lowered_parts part arms l)) → ArmsIslands Q islands par wire register (lowered_parts part arms l)
        arms_take no_statements l par wire register u low h = tt
        arms_take (a_statement s ss) l par wire register u low h =
            let a = length l.islands in
            let b = length (after part s l).islands in
            let c = length (parts_after part ss (after part s l)).islands in
            let xs = drivers_of groups islands (arm_stand par wire register) (lowered part s l) in
            let finish = arm_finishes wire register (lowered part s l) in
            let ys = arms_drivers groups islands par (wire + wires_of (lowered part s l)) (suc register + length (registers_of islands (lowered part s l))) (lowered_parts part ss (after part s l)) in
            let inner = past_one a c (arm_restarts par register) (xs ++ finish ∷ ys) h (λ j t own. own.register _) in (
              statement_takes s l (arm_stand par wire register) u.0 low
                  (first_take a b c xs (finish ∷ ys) inner (parts_more part ss (after part s l)) (λ j t own less. rest_skips j t own s ss l par wire register u.1 low (inl less))),
              arms_take ss (after part s l) par (wire + wires_of (lowered part s l)) (suc register + length (registers_of islands (lowered part s l))) u.1 (omega arith)
                  (past_one b c finish ys (later_take a b c xs (finish ∷ ys) inner (more part s l) (λ j t own past. statement_skips j t own s l (arm_stand par wire register) u.0 low (inr past))) (λ j t own. own.register _)),
            )
