-- What goes in a component is what its control may have active at once, whatever the registers hold: each region is at one position, and
-- of a par each arm has a region.
use Rattle.std.proofs.Common.{◌≡◌, ℕ, zero, suc, ◌+◌, ◌<◌, ◌≤◌, ◌⊎◌, inl, inr, ◌==◌, true, List, ◌++◌, length, Option, Some, None, if◌then◌else◌, refl, sym, ap, ◌∙◌, subst, arith}
use Rattle.std.proofs.lemmas.Bool.{eqb-true, eq-eqb, cases_lt}
use Rattle.cx_bits.specs.BitVector.{BitVector}
use Rattle.cx_text.specs.declared.places.Place.{Place}
use Rattle.cx_meaning.specs.Designs.{PlainComponent, PlainForm, Empty, Enable, Seq, Par, If, While, Repeat, StaticSeq, StaticPar, StaticIf, StaticRepeat, Timed, PlainStatement, Placed, PlainStatements, no_statements, a_statement, list_of}
use Rattle.cx_meaning.specs.Active.{Active, nothing, group, comb}
use Rattle.cx_text.specs.Members.{In}
use Rattle.cx_meaning.specs.Islands.{group_length}
use Rattle.cx_control.specs.Together.{or_else, union, IsTogether, at_rest, enabled, in_seq, at_if, in_then, in_else, at_while, in_while, in_repeat, in_par, AreTogether, no_arm, an_arm}
use Rattle.cx_net.specs.Nets.{PlainNetExpr, OfHole, OfRegister, Inverse, ToWire, ToHole, PlainNetDriver}
use Rattle.cx_net.specs.NetMeaning.{Node, NetAround, truth_bit}
use Rattle.cx_static.specs.Islands.{PlainIsland}
use Rattle.cx_static.specs.Lowering.{Lowering, after, lowered_enable, lowered_form, lowered, lowered_parts}
use Rattle.cx_wiring.specs.Parts.{one, both, equals, drive}
use Rattle.cx_wiring.specs.Counts.{positions_of, positions_in, form_positions, wires_of, form_registers, registers_of, registers_in, arms_registers}
use Rattle.cx_wiring.specs.Stands.{Stand, at, end_of, inside, past_test, behind}
use Rattle.cx_wiring.specs.Control.{one_turn, arm_stand, counted_inside, counting, comb_goes, form_drivers, drivers_of, parts_drivers, arms_drivers}
use Rattle.cx_wiring.specs.Bounds.{FormNames, StatementNames, PartsName}
use Rattle.cx_wiring.specs.Takings.{Connects, AllConnect, AreRegisters}
use Rattle.cx_wiring.proofs.TakingLemmas.{true_bit, says_equals, connect_both, registers_both}
use Rattle.cx_wiring_runs.proofs.KnownLemmas.{known_as, KnownExpr, On, Fed, known_two, known_equals, known_inverse, two_true, AllTo, all_to_append, all_to_map}
use Rattle.cx_text.proofs.NumberLaws.{never}

abbrev pub IsOn : Active → ℕ → Type 0
IsOn act g = (u : ℕ) × (act.offset g ≡ Some u)

only_on : (g h : ℕ) → g ≡ h → IsOn (group g) h
only_on g h e = (0, ap (λ b. if b then Some 0 else None) (eq-eqb g h e))

pub union_left : (act other : Active) (g : ℕ) → IsOn act g → IsOn (union act other) g
union_left act other g on = (on.0, ap (λ o. or_else o (other.offset g)) on.1)

pub union_right : (act other : Active) (g : ℕ) → IsOn other g → IsOn (union act other) g
union_right act other g on = by (act.offset g) refl
  where
    by : (o : Option ℕ) → act.offset g ≡ o → (u : ℕ) × (or_else (act.offset g) (other.offset g) ≡ Some u)
    by (Some u) e = (u, ap (λ x. or_else x (other.offset g)) e)
    by None e = (on.0, ap (λ x. or_else x (other.offset g)) e ∙ on.1)

module _ (part : PlainComponent) (groups : ℕ) (islands : List PlainIsland) (around : NetAround) (registers : ℕ → Option BitVector) (look : Node → Option BitVector) (bound : ℕ) (kept : ℕ → ℕ) where
  abbrev K : PlainNetExpr → Type 0
  K = KnownExpr around registers look

  -- the drivers of the goes of groups are fed, and where one is on its group is in the set
  abbrev pub GoesIn : Active → ℕ → PlainNetDriver → Type 0
  GoesIn act g d = Fed around registers look d × (On around registers look d.guard → IsOn act g)

  abbrev pub Holes : Active → List PlainNetDriver → Type 0
  Holes act ds = (g : ℕ) → AllTo (GoesIn act g) (ToHole (groups + g)) ds

  holes_both : (act : Active) (xs ys : List PlainNetDriver) → Holes act xs → Holes act ys → Holes act (xs ++ ys)
  holes_both act xs ys h k g = all_to_append (GoesIn act g) (ToHole (groups + g)) xs ys (h g) (k g)

  holes_map : (act other : Active) → ((g : ℕ) → IsOn act g → IsOn other g) → (ds : List PlainNetDriver) → Holes act ds → Holes other ds
  holes_map act other f ds h g = all_to_map (GoesIn act g) (GoesIn other g) (ToHole (groups + g)) (λ d k. (k.0, (λ on. f g (k.1 on)))) ds (h g)

  none_on : (act : Active) (g : ℕ) → IsOn nothing g → IsOn act g
  none_on act g on = absurd (no on.0 on.1)
    where
      no : (u : ℕ) → ◌≡◌ {A = Option ℕ} None (Some u) → ⊥
      no u e = cc

  quiet_is : (act : Active) (ds : List PlainNetDriver) → Holes nothing ds → Holes act ds
  quiet_is act ds h = holes_map nothing act (none_on act) ds h

  -- WHERE A REGION IS
  pub record IsAt (acts : PlainNetExpr) (region r : ℕ) : Type 0 where
    pub acts_known : KnownExpr around registers look acts
    pub width : ℕ
    pub is : registers region ≡ Some (record { width = width; value = r })

  -- it does not act, or is not at one of so many positions
  abbrev pub IsOff : PlainNetExpr → ℕ → ℕ → ℕ → Type 0
  IsOff acts r position size = (On around registers look acts → ⊥) ⊎ ((r < position) ⊎ (position + size ≤ r))

  -- the wire that says that control stands at a statement
  at_is : (x : Stand) (r : ℕ) → IsAt x.acts x.region r → bound ≤ x.wire → Connects around registers look bound (ToWire x.wire) (both x.acts (equals (OfRegister x.region) x.position))
      → KnownExpr around registers look (at x) × (On around registers look (at x) → On around registers look x.acts × (r ≡ x.position))
  at_is x r i low c =
      let same = c low in
      let e = known_equals around registers look (OfRegister x.region) x.position (_, IsAt.is i) in (
        known_as _ _ same (known_two around registers look x.acts (equals (OfRegister x.region) x.position) (IsAt.acts_known i) e),
        (λ on.
            let t = two_true around registers look x.acts (equals (OfRegister x.region) x.position) on.0 (IsAt.acts_known i) e (sym same ∙ on.1) on.2 in
            let p : (r == x.position) ≡ true = sym (true_bit (r == x.position)) ∙ t.1 (truth_bit (r == x.position)) (says_equals around registers look (OfRegister x.region) (record { width = IsAt.width i; value = r }) x.position (IsAt.is i)) in
            (((IsAt.acts_known i).0, (IsAt.acts_known i).1, t.0 (IsAt.acts_known i).0 (IsAt.acts_known i).1), eqb-true r x.position p)),
      )

  off_at : (x : Stand) (r size : ℕ) → IsAt x.acts x.region r → bound ≤ x.wire → Connects around registers look bound (ToWire x.wire) (both x.acts (equals (OfRegister x.region) x.position)) → 1 ≤ size
      → IsOff x.acts r x.position size → On around registers look (at x) → ⊥
  off_at x r size i low c some (inl off) on = off ((at_is x r i low c).1 on).0
  off_at x r size i low c some (inr (inl l)) on = let e = ((at_is x r i low c).1 on).1 in omega arith
  off_at x r size i low c some (inr (inr l)) on = let e = ((at_is x r i low c).1 on).1 in omega arith

  -- WHAT GOES in a statement
  pub record Goes (s : PlainStatement) (acts : PlainNetExpr) (r position size : ℕ) (ds : List PlainNetDriver) : Type 0 where
    pub act : Active
    pub together : IsTogether s act
    pub goes : Holes act ds
    pub quiet : IsOff acts r position size → Holes nothing ds

  -- in the parts of a seq at most one
  record PartsGo (ss : PlainStatements) (acts : PlainNetExpr) (r position size : ℕ) (ds : List PlainNetDriver) : Type 0 where
    act : Active
    one_of_them : (act ≡ nothing) ⊎ ((s : PlainStatement) × In (list_of ss) s × IsTogether s act)
    goes : Holes act ds
    quiet : IsOff acts r position size → Holes nothing ds

  -- in the arms of a par one each
  record ArmsGo (ss : PlainStatements) (par : Stand) (ds : List PlainNetDriver) : Type 0 where
    act : Active
    together : AreTogether (list_of ss) act
    goes : Holes act ds
    quiet : (On around registers look (at par) → ⊥) → Holes nothing ds

  -- in an island, where its statement stands
  pub record IsleGoes (form : PlainForm) (place : Place) (k : ℕ) (x : Stand) : Type 0 where
    pub act : Active
    pub together : IsTogether (Placed form place) act
    pub goes : Holes act (form_drivers groups islands x (Timed k))
    pub quiet : (On around registers look (at x) → ⊥) → Holes nothing (form_drivers groups islands x (Timed k))

  abbrev pub IsleEnable : ℕ → Place → Option ℕ → Lowering → Stand → Type 0
  IsleEnable g place None l x = Unit {0}
  IsleEnable g place (Some n) l x = IsleGoes (Enable g) place (length l.islands) x

  -- of all islands of a statement
  abbrev mutual
    pub FormIsles : PlainForm → Place → Lowering → Stand → Type 0
    FormIsles Empty place l x = Unit {0}
    FormIsles (Enable g) place l x = IsleEnable g place (group_length part g) l x
    FormIsles (Seq parts) place l x = PartsIsles parts l (inside x)
    FormIsles (Par arms) place l x = ArmsIsles arms l x (suc (suc x.wire)) x.register
    FormIsles (If test c a b) place l x = StatementIsles a l (past_test x) × StatementIsles b (after part a l) (behind islands (lowered part a l) (past_test x))
    FormIsles (While test c a) place l x = StatementIsles a l (past_test x)
    FormIsles (Repeat zero a) place l x = Unit {0}
    FormIsles (Repeat (suc n) a) place l x = StatementIsles a l (counted_inside x)
    FormIsles (StaticSeq written parts) place l x = IsleGoes (StaticSeq written parts) place (length l.islands) x
    FormIsles (StaticPar written arms) place l x = IsleGoes (StaticPar written arms) place (length l.islands) x
    FormIsles (StaticIf written test a b) place l x = IsleGoes (StaticIf written test a b) place (length l.islands) x
    FormIsles (StaticRepeat written count a) place l x = IsleGoes (StaticRepeat written count a) place (length l.islands) x
    FormIsles (Timed k) place l x = IsleGoes (Timed k) place k x

    pub StatementIsles : PlainStatement → Lowering → Stand → Type 0
    StatementIsles (Placed form place) l x = FormIsles form place l x

    pub PartsIsles : PlainStatements → Lowering → Stand → Type 0
    PartsIsles no_statements l x = Unit {0}
    PartsIsles (a_statement s ss) l x = StatementIsles s l x × PartsIsles ss (after part s l) (behind islands (lowered part s l) x)

    pub ArmsIsles : PlainStatements → Lowering → Stand → ℕ → ℕ → Type 0
    ArmsIsles no_statements l par wire register = Unit {0}
    ArmsIsles (a_statement s ss) l par wire register =
        StatementIsles s l (arm_stand par wire register) × ArmsIsles ss (after part s l) par (wire + wires_of (lowered part s l)) (suc register + length (registers_of islands (lowered part s l)))

  turn_goes : (s : PlainStatement) (x : Stand) (r position size : ℕ) → Goes s x.acts r position size (one_turn x)
  turn_goes s x r position size = record { act = nothing; together = at_rest; goes = λ g. ((λ e. never e), ((λ e. never e), tt)); quiet = λ off g. ((λ e. never e), ((λ e. never e), tt)) }

  hole_is : (g h : ℕ) → (groups + g == groups + h) ≡ true → g ≡ h
  hole_is g h e = let f : groups + g ≡ groups + h = eqb-true (groups + g) (groups + h) e in omega arith

  comb_in : (x : Stand) (c : Option ℕ) → KnownExpr around registers look (at x) → Holes (comb c) (comb_goes groups islands x c)
  comb_in x None k g = tt
  comb_in x (Some h) k g = ((λ e. (record { guard = k; source = λ on. (truth_bit true, refl) }, (λ on. only_on h g (hole_is h g e)))), tt)

  comb_quiet : (x : Stand) (c : Option ℕ) → KnownExpr around registers look (at x) → (On around registers look (at x) → ⊥) → Holes nothing (comb_goes groups islands x c)
  comb_quiet x None k off g = tt
  comb_quiet x (Some h) k off g = ((λ e. (record { guard = k; source = λ on. (truth_bit true, refl) }, (λ on. absurd (off on)))), tt)

  isle_goes : (form : PlainForm) (place : Place) (k : ℕ) (x : Stand) (r : ℕ) → IsAt x.acts x.region r → bound ≤ x.wire → AllConnect around registers look bound (form_drivers groups islands x (Timed k)) → IsleGoes form place k x
      → Goes (Placed form place) x.acts r x.position 1 (form_drivers groups islands x (Timed k))
  isle_goes form place k x r i low c isle = record { act = IsleGoes.act isle; together = IsleGoes.together isle; goes = IsleGoes.goes isle; quiet = λ off. IsleGoes.quiet isle (off_at x r 1 i low c.0 (omega arith) off) }

  abbrev C : List PlainNetDriver → Type 0
  C ds = AllConnect around registers look bound ds

  first_off : (acts : PlainNetExpr) (r p n m : ℕ) → IsOff acts r p (n + m) → IsOff acts r p n
  first_off acts r p n m (inl e) = inl e
  first_off acts r p n m (inr (inl l)) = inr (inl l)
  first_off acts r p n m (inr (inr l)) = inr (inr (omega arith))

  later_off : (acts : PlainNetExpr) (r p n m : ℕ) → IsOff acts r p (n + m) → IsOff acts r (p + n) m
  later_off acts r p n m (inl e) = inl e
  later_off acts r p n m (inr (inl l)) = inr (inl (omega arith))
  later_off acts r p n m (inr (inr l)) = inr (inr (omega arith))

  tested_off : (acts : PlainNetExpr) (r p n : ℕ) → IsOff acts r p (suc n) → IsOff acts r (p + 1) n
  tested_off acts r p n (inl e) = inl e
  tested_off acts r p n (inr (inl l)) = inr (inl (omega arith))
  tested_off acts r p n (inr (inr l)) = inr (inr (omega arith))

  -- the first part of several, and the others
  parts_join : (s : PlainStatement) (ss : PlainStatements) (acts : PlainNetExpr) (r p n m : ℕ) (xs ys : List PlainNetDriver) → Goes s acts r p n xs → PartsGo ss acts r (p + n) m ys → PartsGo (a_statement s ss) acts r p (n + m) (xs ++ ys)
  parts_join s ss acts r p n m xs ys first later = by (cases_lt r (p + n))
    where
      quiet_both : IsOff acts r p (n + m) → Holes nothing (xs ++ ys)
      quiet_both off = holes_both nothing xs ys (Goes.quiet first (first_off acts r p n m off)) (PartsGo.quiet later (later_off acts r p n m off))

      further : (act : Active) → (act ≡ nothing) ⊎ ((t : PlainStatement) × In (list_of ss) t × IsTogether t act) → (act ≡ nothing) ⊎ ((t : PlainStatement) × In (list_of (a_statement s ss)) t × IsTogether t act)
      further act (inl e) = inl e
      further act (inr (t, j, h)) = inr (t, inr j, h)

      by : (r < p + n) ⊎ (p + n ≤ r) → PartsGo (a_statement s ss) acts r p (n + m) (xs ++ ys)
      by (inl early) = record {
        act = Goes.act first;
        one_of_them = inr (s, inl refl, Goes.together first);
        goes = holes_both (Goes.act first) xs ys (Goes.goes first) (quiet_is (Goes.act first) ys (PartsGo.quiet later (inr (inl early))));
        quiet = quiet_both;
      }
      by (inr late) = record {
        act = PartsGo.act later;
        one_of_them = further (PartsGo.act later) (PartsGo.one_of_them later);
        goes = holes_both (PartsGo.act later) xs ys (quiet_is (PartsGo.act later) xs (Goes.quiet first (inr (inr late)))) (PartsGo.goes later);
        quiet = quiet_both;
      }

  -- where the holes of groups have values
  module _ (holes : (g : ℕ) → g < groups → KnownExpr around registers look (OfHole g)) where
    mutual
      form_goes : (form : PlainForm) (place : Place) (l : Lowering) (x : Stand) (r : ℕ) → IsAt x.acts x.region r → bound ≤ x.wire → AllConnect around registers look bound (form_drivers groups islands x (lowered_form part form l))
          → AreRegisters around registers look kept x.register (form_registers islands (lowered_form part form l)) → FormNames groups (lowered_form part form l) → FormIsles form place l x
          → Goes (Placed form place) x.acts r x.position (form_positions (lowered_form part form l)) (form_drivers groups islands x (lowered_form part form l))
      form_goes Empty place l x r i low c k names isles = turn_goes (Placed Empty place) x r x.position 1
      form_goes (Enable g) place l x r i low c k names isles = enable_goes (group_length part g) c names isles
        where
          enable_goes : (o : Option ℕ) → AllConnect around registers look bound (form_drivers groups islands x (lowered_enable part g o l)) → FormNames groups (lowered_enable part g o l) → IsleEnable g place o l x
              → Goes (Placed (Enable g) place) x.acts r x.position (form_positions (lowered_enable part g o l)) (form_drivers groups islands x (lowered_enable part g o l))
          enable_goes None c names isle =
              let a = at_is x r i low c.0 in
              let over : KnownExpr around registers look (both (at x) (OfHole g)) = known_two around registers look (at x) (OfHole g) a.0 (holes g names) in
              let ending : KnownExpr around registers look (end_of x.wire) = known_as _ _ (c.1.0 (omega arith)) over in
              let fed : Fed around registers look (drive (ToHole (groups + g)) (at x) (Inverse (end_of x.wire))) = record { guard = a.0; source = λ on. known_inverse around registers look (end_of x.wire) ending } in
              record {
                act = group g;
                together = enabled;
                goes = λ h. ((λ e. never e), ((λ e. never e), ((λ e. (fed, (λ on. only_on g h (hole_is g h e)))), tt)));
                quiet = λ off h. ((λ e. never e), ((λ e. never e), ((λ e. (fed, (λ on. absurd (off_at x r 1 i low c.0 (omega arith) off on)))), tt)));
              }
          enable_goes (Some n) c names isle = isle_goes (Enable g) place (length l.islands) x r i low c isle
      form_goes (Seq no_statements) place l x r i low c k names isles = turn_goes (Placed (Seq no_statements) place) x r x.position 1
      form_goes (Seq (a_statement s ss)) place l x r i low c k names isles =
          let cs = connect_both around registers look bound (drivers_of groups islands (inside x) (lowered part s l)) _ c in
          let ks = registers_both around registers look kept x.register (registers_of islands (lowered part s l)) _ k in
          let first = statement_goes s l (inside x) r i (omega arith) cs.0 ks.0 names.0 isles.0 in
          let later = parts_go ss (after part s l) x (inside x).wire (behind islands (lowered part s l) (inside x)) r i (omega arith) cs.1 ks.1 names.1 isles.1 in
          let all = parts_join s ss x.acts r x.position (positions_of (lowered part s l)) (positions_in (lowered_parts part ss (after part s l))) (drivers_of groups islands (inside x) (lowered part s l)) _ first later in
          record { act = PartsGo.act all; together = seq_together (PartsGo.act all) (PartsGo.one_of_them all); goes = PartsGo.goes all; quiet = PartsGo.quiet all }
        where
          seq_together : (act : Active) → (act ≡ nothing) ⊎ ((t : PlainStatement) × In (list_of (a_statement s ss)) t × IsTogether t act) → IsTogether (Placed (Seq (a_statement s ss)) place) act
          seq_together act (inl e) = subst (IsTogether (Placed (Seq (a_statement s ss)) place)) (sym e) at_rest
          seq_together act (inr (t, j, h)) = in_seq j h
      form_goes (Par arms) place l x r i low c k names isles =
          let a = at_is x r i low c.0 in
          let cs = connect_both around registers look bound (arms_drivers groups islands x (suc (suc x.wire)) x.register (lowered_parts part arms l)) _ c.1 in
          let all = arms_go arms l x (suc (suc x.wire)) x.register a.0 (omega arith) cs.0 k names isles in
          record {
            act = ArmsGo.act all;
            together = in_par (ArmsGo.together all);
            goes = λ g. ((λ e. never e), all_to_append (GoesIn (ArmsGo.act all) g) (ToHole (groups + g)) (arms_drivers groups islands x (suc (suc x.wire)) x.register (lowered_parts part arms l)) _ (ArmsGo.goes all g) ((λ e. never e), tt));
            quiet = λ off g. (
              (λ e. never e),
              all_to_append (GoesIn nothing g) (ToHole (groups + g)) (arms_drivers groups islands x (suc (suc x.wire)) x.register (lowered_parts part arms l)) _ (ArmsGo.quiet all (off_at x r 1 i low c.0 (omega arith) off) g) ((λ e. never e), tt),
            );
          }
      form_goes (If test cg a b) place l x r i low c k names isles =
          let at_here = at_is x r i low c.0 in
          let ks = registers_both around registers look kept x.register (registers_of islands (lowered part a l)) _ k in
          let c_comb = connect_both around registers look bound (comb_goes groups islands x cg) _ c.1 in
          let c_a = connect_both around registers look bound (drivers_of groups islands (past_test x) (lowered part a l)) _ c_comb.1.1 in
          let c_b = connect_both around registers look bound (drivers_of groups islands (behind islands (lowered part a l) (past_test x)) (lowered part b (after part a l))) _ c_a.1.1 in
          let one = statement_goes a l (past_test x) r i (omega arith) c_a.0 ks.0 names.1.0 isles.0 in
          let other = statement_goes b (after part a l) (behind islands (lowered part a l) (past_test x)) r i (omega arith) c_b.0 ks.1 names.1.1 isles.1 in
          choice at_here.0 one other (cases_lt r (x.position + 1)) (cases_lt r (x.position + 1 + positions_of (lowered part a l)))
          (λ on. (at_here.1 on).1) (λ off. off_at x r (suc (positions_of (lowered part a l) + positions_of (lowered part b (after part a l)))) i low c.0 (omega arith) off)
        where
          gather : (act : Active) → Holes act (comb_goes groups islands x cg) → Holes act (drivers_of groups islands (past_test x) (lowered part a l)) → Holes act (drivers_of groups islands (behind islands (lowered part a l) (past_test x)) (lowered part b (after part a l)))
              → Holes act (form_drivers groups islands x (If test cg (lowered part a l) (lowered part b (after part a l))))
          gather act h f s g = (
            (λ e. never e),
            all_to_append (GoesIn act g) (ToHole (groups + g)) (comb_goes groups islands x cg) _ (h g) (
              (λ e. never e),
              all_to_append (GoesIn act g) (ToHole (groups + g)) (drivers_of groups islands (past_test x) (lowered part a l)) _ (f g)
                  ((λ e. never e), all_to_append (GoesIn act g) (ToHole (groups + g)) (drivers_of groups islands (behind islands (lowered part a l) (past_test x)) (lowered part b (after part a l))) _ (s g) ((λ e. never e), tt)),
            ),
          )

          choice : KnownExpr around registers look (at x) → Goes a x.acts r (x.position + 1) (positions_of (lowered part a l)) (drivers_of groups islands (past_test x) (lowered part a l))
              → Goes b x.acts r (x.position + 1 + positions_of (lowered part a l)) (positions_of (lowered part b (after part a l))) (drivers_of groups islands (behind islands (lowered part a l) (past_test x)) (lowered part b (after part a l)))
              → (r < x.position + 1) ⊎ (x.position + 1 ≤ r) → (r < x.position + 1 + positions_of (lowered part a l)) ⊎ (x.position + 1 + positions_of (lowered part a l) ≤ r)
              → (On around registers look (at x) → r ≡ x.position) → (IsOff x.acts r x.position (suc (positions_of (lowered part a l) + positions_of (lowered part b (after part a l)))) → On around registers look (at x) → ⊥)
              → Goes (Placed (If test cg a b) place) x.acts r x.position (suc (positions_of (lowered part a l) + positions_of (lowered part b (after part a l)))) (form_drivers groups islands x (If test cg (lowered part a l) (lowered part b (after part a l))))
          choice here one other first second at_on off_on = by first second
            where
              quiet_all : IsOff x.acts r x.position (suc (positions_of (lowered part a l) + positions_of (lowered part b (after part a l)))) → Holes nothing (form_drivers groups islands x (If test cg (lowered part a l) (lowered part b (after part a l))))
              quiet_all off =
                  let inner = tested_off x.acts r x.position (positions_of (lowered part a l) + positions_of (lowered part b (after part a l))) off in
                  gather nothing (comb_quiet x cg here (off_on off)) (Goes.quiet one (first_off x.acts r (x.position + 1) (positions_of (lowered part a l)) (positions_of (lowered part b (after part a l))) inner))
                  (Goes.quiet other (later_off x.acts r (x.position + 1) (positions_of (lowered part a l)) (positions_of (lowered part b (after part a l))) inner))

              by : (r < x.position + 1) ⊎ (x.position + 1 ≤ r) → (r < x.position + 1 + positions_of (lowered part a l)) ⊎ (x.position + 1 + positions_of (lowered part a l) ≤ r)
                  → Goes (Placed (If test cg a b) place) x.acts r x.position (suc (positions_of (lowered part a l) + positions_of (lowered part b (after part a l)))) (form_drivers groups islands x (If test cg (lowered part a l) (lowered part b (after part a l))))
              by (inl early) s = record {
                act = comb cg;
                together = at_if;
                goes = gather (comb cg) (comb_in x cg here) (quiet_is (comb cg) (drivers_of groups islands (past_test x) (lowered part a l)) (Goes.quiet one (inr (inl early)))) (quiet_is (comb cg) (drivers_of groups islands (behind islands (lowered part a l) (past_test x)) (lowered part b (after part a l))) (Goes.quiet other (inr (inl (omega arith)))));
                quiet = quiet_all;
              }
              by (inr late) (inl early) = record {
                act = Goes.act one;
                together = in_then (Goes.together one);
                goes = gather (Goes.act one) (quiet_is (Goes.act one) (comb_goes groups islands x cg) (comb_quiet x cg here (λ on. let e = at_on on in omega arith))) (Goes.goes one) (quiet_is (Goes.act one) (drivers_of groups islands (behind islands (lowered part a l) (past_test x)) (lowered part b (after part a l))) (Goes.quiet other (inr (inl early))));
                quiet = quiet_all;
              }
              by (inr late) (inr later) = record {
                act = Goes.act other;
                together = in_else (Goes.together other);
                goes = gather (Goes.act other) (quiet_is (Goes.act other) (comb_goes groups islands x cg) (comb_quiet x cg here (λ on. let e = at_on on in omega arith))) (quiet_is (Goes.act other) (drivers_of groups islands (past_test x) (lowered part a l)) (Goes.quiet one (inr (inr later)))) (Goes.goes other);
                quiet = quiet_all;
              }
      form_goes (While test cg a) place l x r i low c k names isles =
          let at_here = at_is x r i low c.0 in
          let c_comb = connect_both around registers look bound (comb_goes groups islands x cg) _ c.1 in
          let c_a = connect_both around registers look bound (drivers_of groups islands (past_test x) (lowered part a l)) _ c_comb.1.1.1 in
          let body = statement_goes a l (past_test x) r i (omega arith) c_a.0 k names.1 isles in
          choice at_here.0 body (cases_lt r (x.position + 1)) (λ on. (at_here.1 on).1) (λ off. off_at x r (suc (positions_of (lowered part a l))) i low c.0 (omega arith) off)
        where
          gather : (act : Active) → Holes act (comb_goes groups islands x cg) → Holes act (drivers_of groups islands (past_test x) (lowered part a l)) → Holes act (form_drivers groups islands x (While test cg (lowered part a l)))
          gather act h f g = (
            (λ e. never e),
            all_to_append (GoesIn act g) (ToHole (groups + g)) (comb_goes groups islands x cg) _ (h g)
                ((λ e. never e), ((λ e. never e), all_to_append (GoesIn act g) (ToHole (groups + g)) (drivers_of groups islands (past_test x) (lowered part a l)) _ (f g) ((λ e. never e), tt))),
          )

          choice : KnownExpr around registers look (at x) → Goes a x.acts r (x.position + 1) (positions_of (lowered part a l)) (drivers_of groups islands (past_test x) (lowered part a l)) → (r < x.position + 1) ⊎ (x.position + 1 ≤ r)
              → (On around registers look (at x) → r ≡ x.position) → (IsOff x.acts r x.position (suc (positions_of (lowered part a l))) → On around registers look (at x) → ⊥)
              → Goes (Placed (While test cg a) place) x.acts r x.position (suc (positions_of (lowered part a l))) (form_drivers groups islands x (While test cg (lowered part a l)))
          choice here body first at_on off_on = by first
            where
              quiet_all : IsOff x.acts r x.position (suc (positions_of (lowered part a l))) → Holes nothing (form_drivers groups islands x (While test cg (lowered part a l)))
              quiet_all off = gather nothing (comb_quiet x cg here (off_on off)) (Goes.quiet body (tested_off x.acts r x.position (positions_of (lowered part a l)) off))

              by : (r < x.position + 1) ⊎ (x.position + 1 ≤ r) → Goes (Placed (While test cg a) place) x.acts r x.position (suc (positions_of (lowered part a l))) (form_drivers groups islands x (While test cg (lowered part a l)))
              by (inl early) = record { act = comb cg; together = at_while; goes = gather (comb cg) (comb_in x cg here) (quiet_is (comb cg) (drivers_of groups islands (past_test x) (lowered part a l)) (Goes.quiet body (inr (inl early)))); quiet = quiet_all }
              by (inr late) = record {
                act = Goes.act body;
                together = in_while (Goes.together body);
                goes = gather (Goes.act body) (quiet_is (Goes.act body) (comb_goes groups islands x cg) (comb_quiet x cg here (λ on. let e = at_on on in omega arith))) (Goes.goes body);
                quiet = quiet_all;
              }
      form_goes (Repeat zero a) place l x r i low c k names isles = turn_goes (Placed (Repeat zero a) place) x r x.position 1
      form_goes (Repeat (suc n) a) place l x r i low c k names isles =
          let cs = connect_both around registers look bound (drivers_of groups islands (counted_inside x) (lowered part a l)) (counting x n) c in
          let body = statement_goes a l (counted_inside x) r i (omega arith) cs.0 k.1 names isles in
          record {
            act = Goes.act body;
            together = in_repeat (Goes.together body);
            goes = λ g. all_to_append (GoesIn (Goes.act body) g) (ToHole (groups + g)) (drivers_of groups islands (counted_inside x) (lowered part a l)) (counting x n) (Goes.goes body g) ((λ e. never e), ((λ e. never e), ((λ e. never e), ((λ e. never e), tt))));
            quiet = λ off g. all_to_append (GoesIn nothing g) (ToHole (groups + g)) (drivers_of groups islands (counted_inside x) (lowered part a l)) (counting x n) (Goes.quiet body off g) ((λ e. never e), ((λ e. never e), ((λ e. never e), ((λ e. never e), tt))));
          }
      form_goes (StaticSeq written parts) place l x r i low c k names isles = isle_goes (StaticSeq written parts) place (length l.islands) x r i low c isles
      form_goes (StaticPar written arms) place l x r i low c k names isles = isle_goes (StaticPar written arms) place (length l.islands) x r i low c isles
      form_goes (StaticIf written test a b) place l x r i low c k names isles = isle_goes (StaticIf written test a b) place (length l.islands) x r i low c isles
      form_goes (StaticRepeat written count a) place l x r i low c k names isles = isle_goes (StaticRepeat written count a) place (length l.islands) x r i low c isles
      form_goes (Timed n) place l x r i low c k names isles = isle_goes (Timed n) place n x r i low c isles

      pub statement_goes : (s : PlainStatement) (l : Lowering) (x : Stand) (r : ℕ) → IsAt x.acts x.region r → bound ≤ x.wire → AllConnect around registers look bound (drivers_of groups islands x (lowered part s l))
          → AreRegisters around registers look kept x.register (registers_of islands (lowered part s l)) → StatementNames groups (lowered part s l) → StatementIsles s l x
          → Goes s x.acts r x.position (positions_of (lowered part s l)) (drivers_of groups islands x (lowered part s l))
      statement_goes (Placed form place) l x r i low c k names isles = form_goes form place l x r i low c k names isles

      parts_go : (ss : PlainStatements) (l : Lowering) (seq : Stand) (before : ℕ) (x : Stand) (r : ℕ) → IsAt x.acts x.region r → bound ≤ x.wire → AllConnect around registers look bound (parts_drivers groups islands seq before x (lowered_parts part ss l))
          → AreRegisters around registers look kept x.register (registers_in islands (lowered_parts part ss l)) → PartsName groups (lowered_parts part ss l) → PartsIsles ss l x
          → PartsGo ss x.acts r x.position (positions_in (lowered_parts part ss l)) (parts_drivers groups islands seq before x (lowered_parts part ss l))
      parts_go no_statements l seq before x r i low c k names isles = record { act = nothing; one_of_them = inl refl; goes = λ g. ((λ e. never e), tt); quiet = λ off g. ((λ e. never e), tt) }
      parts_go (a_statement s ss) l seq before x r i low c k names isles =
          let cs = connect_both around registers look bound (drivers_of groups islands x (lowered part s l)) _ c.1 in
          let ks = registers_both around registers look kept x.register (registers_of islands (lowered part s l)) _ k in
          let first = statement_goes s l x r i low cs.0 ks.0 names.0 isles.0 in
          let later = parts_go ss (after part s l) seq x.wire (behind islands (lowered part s l) x) r i (omega arith) cs.1 ks.1 names.1 isles.1 in
          let all = parts_join s ss x.acts r x.position (positions_of (lowered part s l)) (positions_in (lowered_parts part ss (after part s l))) (drivers_of groups islands x (lowered part s l)) _ first later in
          record { act = PartsGo.act all; one_of_them = PartsGo.one_of_them all; goes = λ g. ((λ e. never e), PartsGo.goes all g); quiet = λ off g. ((λ e. never e), PartsGo.quiet all off g) }

      arms_go : (ss : PlainStatements) (l : Lowering) (par : Stand) (wire register : ℕ) → KnownExpr around registers look (at par) → bound ≤ wire → AllConnect around registers look bound (arms_drivers groups islands par wire register (lowered_parts part ss l))
          → AreRegisters around registers look kept register (arms_registers islands (lowered_parts part ss l)) → PartsName groups (lowered_parts part ss l) → ArmsIsles ss l par wire register
          → ArmsGo ss par (arms_drivers groups islands par wire register (lowered_parts part ss l))
      arms_go no_statements l par wire register known low c k names isles = record { act = nothing; together = no_arm; goes = λ g. tt; quiet = λ off g. tt }
      arms_go (a_statement s ss) l par wire register known low c k names isles =
          let cs = connect_both around registers look bound (drivers_of groups islands (arm_stand par wire register) (lowered part s l)) _ c.1 in
          let ks = registers_both around registers look kept (suc register) (registers_of islands (lowered part s l)) _ k.1 in
          let here : IsAt (at par) register (kept register) = record { acts_known = known; width = 32; is = k.0 } in
          let first = statement_goes s l (arm_stand par wire register) (kept register) here low cs.0 ks.0 names.0 isles.0 in
          let later = arms_go ss (after part s l) par (wire + wires_of (lowered part s l)) (suc register + length (registers_of islands (lowered part s l))) known (omega arith) cs.1.1 ks.1 names.1 isles.1 in
          let both_act = union (Goes.act first) (ArmsGo.act later) in
          record {
            act = union (Goes.act first) (ArmsGo.act later);
            together = an_arm (Goes.together first) (ArmsGo.together later);
            goes = λ g. (
              (λ e. never e),
              all_to_append (GoesIn both_act g) (ToHole (groups + g)) (drivers_of groups islands (arm_stand par wire register) (lowered part s l)) _
                  (holes_map (Goes.act first) (union (Goes.act first) (ArmsGo.act later)) (λ h on. union_left (Goes.act first) (ArmsGo.act later) h on) (drivers_of groups islands (arm_stand par wire register) (lowered part s l)) (Goes.goes first) g)
                  ((λ e. never e), holes_map (ArmsGo.act later) (union (Goes.act first) (ArmsGo.act later)) (λ h on. union_right (Goes.act first) (ArmsGo.act later) h on) _ (ArmsGo.goes later) g),
            );
            quiet = λ off g. (
              (λ e. never e),
              all_to_append (GoesIn nothing g) (ToHole (groups + g)) (drivers_of groups islands (arm_stand par wire register) (lowered part s l)) _ (Goes.quiet first (inl off) g)
                  ((λ e. never e), ArmsGo.quiet later off g),
            );
          }
