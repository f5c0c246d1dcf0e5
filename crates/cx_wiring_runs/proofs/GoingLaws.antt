-- Which groups go where control stands, by the leaves that run there: a group that goes is one that runs and whose hole is not 1, one of
-- an island, or the comb group of a test.
use Rattle.std.proofs.Common.{◌≡◌, ℕ, zero, suc, ◌⊎◌, inl, inr, ◌==◌, not, Bool, true, false, if◌then◌else◌, List, [], ◌∷◌, Option, Some, None, refl, sym, subst}
use Rattle.std.proofs.lemmas.Bool.{eqb-true}
use Rattle.cx_text.proofs.MemberLaws.{in_either, in_left, in_right}
use Rattle.cx_text.specs.declared.places.Place.{Place}
use Rattle.cx_bits.specs.BitVector.{BitVector}
use Rattle.cx_meaning.specs.declared.ports.PortRef.{PortRef}
use Rattle.cx_rules.specs.Items.{is_comb}
use Rattle.cx_rules.specs.Wellformed.{IsForm, IsWith}
use Rattle.cx_meaning.specs.Designs.{group_at, PlainComponent, PlainForm, Empty, Enable, Seq, Par, If, While, Repeat, StaticSeq, StaticPar, StaticIf, StaticRepeat, Timed, PlainStatement, Placed, PlainStatements, no_statements, a_statement, list_of}
use Rattle.cx_meaning.specs.Islands.{group_length}
use Rattle.cx_text.specs.Members.{In}
use Rattle.cx_lockstep.specs.Worlds.{Store, Control, At, Done, Machine, is_done}
use Rattle.cx_lockstep.specs.Machines.{First, Second, InPar, left_of, right_of, AtTest, InThen, InElse, AtHead, InBody}
use Rattle.cx_lockstep.specs.Statements.{LeafMachines, machine_of, parts_machine, arms_machine}
use Rattle.cx_lockstep.specs.Running.{Running, AGroup, AnIsland, at_control, par_runs, running, parts_run, arms_run}
use Rattle.cx_lockstep.specs.Lawful.{IsPart, of_seq, of_par, then_branch, else_branch, of_while, of_repeat}
use Rattle.cx_control.specs.Codings.{at_fine}
use Rattle.cx_control.specs.StatementCodings.{LeafCodings}
use Rattle.cx_net.specs.NetMeaning.{truth_bit}
use Rattle.cx_static.specs.Islands.{PlainIsland}
use Rattle.cx_wiring_cycles.specs.Shown.{Going, told, comb_going, enable_going, going, parts_going, arms_going, in_par, enable_agrees, StatementAgrees, PartsAgree, ArmsAgree}

-- what is told of a group is the last word, or that of one of the list
pub told_in : (g : ℕ) (later : Option BitVector) (xs : List Going) → (told g later xs ≡ later) ⊎ ((x : Going) × In xs x × (x.group ≡ g) × (told g later xs ≡ Some (truth_bit x.goes)))
told_in g later [] = inl refl
told_in g later (x ∷ xs) = by (x.group == g) refl (told_in g later xs)
  where
    by : (b : Bool) → (x.group == g) ≡ b → (told g later xs ≡ later) ⊎ ((y : Going) × In xs y × (y.group ≡ g) × (told g later xs ≡ Some (truth_bit y.goes)))
        → ((if b then Some (truth_bit x.goes) else told g later xs) ≡ later) ⊎ ((y : Going) × In (x ∷ xs) y × (y.group ≡ g) × ((if b then Some (truth_bit x.goes) else told g later xs) ≡ Some (truth_bit y.goes)))
    by true e rest = inr (x, inl refl, eqb-true x.group g e, refl)
    by false e (inl same) = inl same
    by false e (inr (y, i, is, so)) = inr (y, inr i, is, so)

module _ {X : Type 0} {V : X → Type 0} {F : Type 0} (leaves : LeafMachines X V F) (codings : LeafCodings leaves) (part : PlainComponent) (islands : List PlainIsland) where
  -- WHAT THE MACHINE SAW of the holes of the groups that run
  module _ (seen : Store X V) (hole : ℕ → Bool) (port : PortRef → Bool) where
    abbrev pub HoleAgrees : Running leaves → Type 0
    HoleAgrees (AGroup g place stand) = group_length part g ≡ None → hole g ≡ is_done (Machine.step (LeafMachines.enable leaves g) stand seen)
    HoleAgrees (AnIsland form place stand) = Unit {0}

    module _ (r : Running leaves) where
      agrees_arm : {C : Type 0} (f : C → List (Running leaves)) (says : C → Type 0) → ((c : C) → says c → In (f c) r → HoleAgrees r) → (k : Control C) → at_fine says k → In (at_control f k) r → HoleAgrees r
      agrees_arm f says each (At c) h i = each c h i
      agrees_arm f says each Done h i = absurd i

      agrees_arms : {A B : Type 0} (f : A → List (Running leaves)) (h : B → List (Running leaves)) (one : A → Type 0) (other : B → Type 0) → ((c : A) → one c → In (f c) r → HoleAgrees r) → ((c : B) → other c → In (h c) r → HoleAgrees r)
          → (c : InPar A B) → in_par one other c → In (par_runs f h c) r → HoleAgrees r
      agrees_arms f h one other first second c saw i = either (in_either (at_control f (left_of c)) (at_control h (right_of c)) r i)
        where
          either : In (at_control f (left_of c)) r ⊎ In (at_control h (right_of c)) r → HoleAgrees r
          either (inl k) = agrees_arm f one first (left_of c) saw.0 k
          either (inr k) = agrees_arm h other second (right_of c) saw.1 k

      mutual
        pub hole_agrees : (s : PlainStatement) (c : Machine.Place (machine_of leaves s)) → StatementAgrees leaves codings part islands seen hole port s c → In (running leaves s c) r → HoleAgrees r
        hole_agrees (Placed Empty place) c saw i = absurd i
        hole_agrees (Placed (Enable g) place) c saw (inl e) = subst HoleAgrees e (λ plain. subst (λ o. enable_agrees leaves codings part islands seen hole port g o c) plain saw)
        hole_agrees (Placed (Enable g) place) c saw (inr i) = absurd i
        hole_agrees (Placed (Seq no_statements) place) c saw i = absurd i
        hole_agrees (Placed (Seq (a_statement first later)) place) (First c) saw i = hole_agrees first c saw i
        hole_agrees (Placed (Seq (a_statement first later)) place) (Second c) saw i = parts_agree later c saw i
        hole_agrees (Placed (Par no_statements) place) c saw i = absurd i
        hole_agrees (Placed (Par (a_statement first later)) place) c saw i =
            agrees_arms (running leaves first) (arms_run leaves later) (StatementAgrees leaves codings part islands seen hole port first) (ArmsAgree leaves codings part islands seen hole port later) (hole_agrees first) (arms_agree later) c saw i
        hole_agrees (Placed (If test comb a b) place) AtTest saw i = absurd i
        hole_agrees (Placed (If test comb a b) place) (InThen c) saw i = hole_agrees a c saw i
        hole_agrees (Placed (If test comb a b) place) (InElse c) saw i = hole_agrees b c saw i
        hole_agrees (Placed (While test comb a) place) AtHead saw i = absurd i
        hole_agrees (Placed (While test comb a) place) (InBody c) saw i = hole_agrees a c saw i
        hole_agrees (Placed (Repeat zero a) place) c saw i = absurd i
        hole_agrees (Placed (Repeat (suc k) a) place) c saw i = hole_agrees a c.place saw i
        hole_agrees (Placed (StaticSeq length parts) place) c saw (inl e) = subst HoleAgrees e tt
        hole_agrees (Placed (StaticSeq length parts) place) c saw (inr i) = absurd i
        hole_agrees (Placed (StaticPar length arms) place) c saw (inl e) = subst HoleAgrees e tt
        hole_agrees (Placed (StaticPar length arms) place) c saw (inr i) = absurd i
        hole_agrees (Placed (StaticIf length test a b) place) c saw (inl e) = subst HoleAgrees e tt
        hole_agrees (Placed (StaticIf length test a b) place) c saw (inr i) = absurd i
        hole_agrees (Placed (StaticRepeat length count a) place) c saw (inl e) = subst HoleAgrees e tt
        hole_agrees (Placed (StaticRepeat length count a) place) c saw (inr i) = absurd i
        hole_agrees (Placed (Timed k) place) c saw i = absurd i

        parts_agree : (ss : PlainStatements) (c : Machine.Place (parts_machine leaves ss)) → PartsAgree leaves codings part islands seen hole port ss c → In (parts_run leaves ss c) r → HoleAgrees r
        parts_agree no_statements c saw i = absurd i
        parts_agree (a_statement first later) (First c) saw i = hole_agrees first c saw i
        parts_agree (a_statement first later) (Second c) saw i = parts_agree later c saw i

        arms_agree : (ss : PlainStatements) (c : Machine.Place (arms_machine leaves ss)) → ArmsAgree leaves codings part islands seen hole port ss c → In (arms_run leaves ss c) r → HoleAgrees r
        arms_agree no_statements c saw i = absurd i
        arms_agree (a_statement first later) c saw i =
            agrees_arms (running leaves first) (arms_run leaves later) (StatementAgrees leaves codings part islands seen hole port first) (ArmsAgree leaves codings part islands seen hole port later) (hole_agrees first) (arms_agree later) c saw i

  -- WHAT GOES, and why
  module _ (hole : ℕ → Bool) (of_enable : (g : ℕ) → Machine.Place (LeafMachines.enable leaves g) → List Going) (of_island : (form : PlainForm) → Machine.Place (LeafMachines.island leaves form) → List Going) where
    -- the statement has a test with this comb group
    abbrev pub HasComb : PlainStatement → ℕ → Type 0
    HasComb (Placed Empty place) g = ⊥
    HasComb (Placed (Enable h) place) g = ⊥
    HasComb (Placed (Seq parts) place) g = ⊥
    HasComb (Placed (Par arms) place) g = ⊥
    HasComb (Placed (If test comb a b) place) g = comb ≡ Some g
    HasComb (Placed (While test comb a) place) g = comb ≡ Some g
    HasComb (Placed (Repeat count a) place) g = ⊥
    HasComb (Placed (StaticSeq length parts) place) g = ⊥
    HasComb (Placed (StaticPar length arms) place) g = ⊥
    HasComb (Placed (StaticIf length test a b) place) g = ⊥
    HasComb (Placed (StaticRepeat length count a) place) g = ⊥
    HasComb (Placed (Timed k) place) g = ⊥

    -- the group of a test is a comb group
    module _ (Stands : PlainStatement → Type 0) (forms : (form : PlainForm) (place : Place) → Stands (Placed form place) → IsForm part form) where
      with_comb_is : (o : Option ℕ) (g : ℕ) → IsWith part o → o ≡ Some g → is_comb (group_at part g).kind ≡ true
      with_comb_is None g w e = absurd cc
      with_comb_is (Some k) g w e = let same : k ≡ g = cc in subst (λ n. is_comb (group_at part n).kind ≡ true) same w.1

      pub comb_is : (t : PlainStatement) (g : ℕ) → Stands t → HasComb t g → is_comb (group_at part g).kind ≡ true
      comb_is (Placed Empty place) g u h = absurd h
      comb_is (Placed (Enable k) place) g u h = absurd h
      comb_is (Placed (Seq parts) place) g u h = absurd h
      comb_is (Placed (Par arms) place) g u h = absurd h
      comb_is (Placed (If test comb a b) place) g u h = with_comb_is comb g (forms (If test comb a b) place u) h
      comb_is (Placed (While test comb a) place) g u h = with_comb_is comb g (forms (While test comb a) place u) h
      comb_is (Placed (Repeat count a) place) g u h = absurd h
      comb_is (Placed (StaticSeq length parts) place) g u h = absurd h
      comb_is (Placed (StaticPar length arms) place) g u h = absurd h
      comb_is (Placed (StaticIf length test a b) place) g u h = absurd h
      comb_is (Placed (StaticRepeat length count a) place) g u h = absurd h
      comb_is (Placed (Timed k) place) g u h = absurd h

    module _ (Stands : PlainStatement → Type 0) (parts_stand : (s whole : PlainStatement) → IsPart s whole → Stands whole → Stands s) (x : Going) where
      pub data Source (rs : List (Running leaves)) : Type 0 where
        of_group : (g : ℕ) (place : Place) (stand : Machine.Place (LeafMachines.enable leaves g)) → In rs (AGroup g place stand) → group_length part g ≡ None → x ≡ record { group = g; goes = not (hole g) } → Source rs
        of_timed : (g : ℕ) (place : Place) (stand : Machine.Place (LeafMachines.enable leaves g)) → In rs (AGroup g place stand) → (cycles : ℕ) → group_length part g ≡ Some cycles → In (of_enable g stand) x → Source rs
        of_static : (form : PlainForm) (place : Place) (stand : Machine.Place (LeafMachines.island leaves form)) → In rs (AnIsland form place stand) → In (of_island form stand) x → Source rs
        of_comb : (g : ℕ) (s : PlainStatement) → Stands s → HasComb s g → x ≡ record { group = g; goes = true } → Source rs

      wider : (rs qs : List (Running leaves)) → ((r : Running leaves) → In rs r → In qs r) → Source rs → Source qs
      wider rs qs within (of_group g place stand i plain is) = of_group g place stand (within (AGroup g place stand) i) plain is
      wider rs qs within (of_timed g place stand i cycles is k) = of_timed g place stand (within (AGroup g place stand) i) cycles is k
      wider rs qs within (of_static form place stand i k) = of_static form place stand (within (AnIsland form place stand) i) k
      wider rs qs within (of_comb g s stands has is) = of_comb g s stands has is

      comb_source : (comb : Option ℕ) (s : PlainStatement) → Stands s → ((g : ℕ) → comb ≡ Some g → HasComb s g) → In (comb_going comb) x → Source []
      comb_source None s stands has i = absurd i
      comb_source (Some g) s stands has (inl e) = of_comb g s stands (has g refl) (sym e)
      comb_source (Some g) s stands has (inr i) = absurd i

      enable_source : (g : ℕ) (place : Place) (o : Option ℕ) → group_length part g ≡ o → (c : Machine.Place (LeafMachines.enable leaves g)) → In (enable_going leaves codings part islands hole of_enable of_island g o c) x → Source (AGroup g place c ∷ [])
      enable_source g place None is c (inl e) = of_group g place c (inl refl) is (sym e)
      enable_source g place None is c (inr i) = absurd i
      enable_source g place (Some cycles) is c i = of_timed g place c (inl refl) cycles is i

      source_arm : {C : Type 0} (f : C → List (Running leaves)) (h : C → List Going) → ((c : C) → In (h c) x → Source (f c)) → (k : Control C) → In (at_control h k) x → Source (at_control f k)
      source_arm f h each (At c) i = each c i
      source_arm f h each Done i = absurd i

      source_arms : {A B : Type 0} (f : A → List (Running leaves)) (h : B → List (Running leaves)) (one : A → List Going) (other : B → List Going) → ((c : A) → In (one c) x → Source (f c)) → ((c : B) → In (other c) x → Source (h c))
          → (c : InPar A B) → In (par_runs one other c) x → Source (par_runs f h c)
      source_arms f h one other first second c i = either (in_either (at_control one (left_of c)) (at_control other (right_of c)) x i)
        where
          either : In (at_control one (left_of c)) x ⊎ In (at_control other (right_of c)) x → Source (par_runs f h c)
          either (inl k) = wider (at_control f (left_of c)) (par_runs f h c) (λ r j. in_left (at_control f (left_of c)) (at_control h (right_of c)) r j) (source_arm f one first (left_of c) k)
          either (inr k) = wider (at_control h (right_of c)) (par_runs f h c) (λ r j. in_right (at_control f (left_of c)) (at_control h (right_of c)) r j) (source_arm h other second (right_of c) k)

      abbrev G : (s : PlainStatement) → Machine.Place (machine_of leaves s) → List Going
      G = going leaves codings part islands hole of_enable of_island

      mutual
        pub going_source : (s : PlainStatement) → Stands s → (c : Machine.Place (machine_of leaves s)) → In (going leaves codings part islands hole of_enable of_island s c) x → Source (running leaves s c)
        going_source (Placed Empty place) u c i = absurd i
        going_source (Placed (Enable g) place) u c i = enable_source g place (group_length part g) refl c i
        going_source (Placed (Seq no_statements) place) u c i = absurd i
        going_source (Placed (Seq (a_statement first later)) place) u (First c) i = going_source first (parts_stand first (Placed (Seq (a_statement first later)) place) (of_seq (inl refl)) u) c i
        going_source (Placed (Seq (a_statement first later)) place) u (Second c) i = parts_source later (Placed (Seq (a_statement first later)) place) u (λ t k. of_seq (inr k)) c i
        going_source (Placed (Par no_statements) place) u c i = absurd i
        going_source (Placed (Par (a_statement first later)) place) u c i =
            source_arms (running leaves first) (arms_run leaves later) (going leaves codings part islands hole of_enable of_island first) (arms_going leaves codings part islands hole of_enable of_island later)
            (going_source first (parts_stand first (Placed (Par (a_statement first later)) place) (of_par (inl refl)) u)) (arms_source later (Placed (Par (a_statement first later)) place) u (λ t k. of_par (inr k))) c i
        going_source (Placed (If test comb a b) place) u AtTest i = comb_source comb (Placed (If test comb a b) place) u (λ g e. e) i
        going_source (Placed (If test comb a b) place) u (InThen c) i = going_source a (parts_stand a (Placed (If test comb a b) place) then_branch u) c i
        going_source (Placed (If test comb a b) place) u (InElse c) i = going_source b (parts_stand b (Placed (If test comb a b) place) else_branch u) c i
        going_source (Placed (While test comb a) place) u AtHead i = comb_source comb (Placed (While test comb a) place) u (λ g e. e) i
        going_source (Placed (While test comb a) place) u (InBody c) i = going_source a (parts_stand a (Placed (While test comb a) place) of_while u) c i
        going_source (Placed (Repeat zero a) place) u c i = absurd i
        going_source (Placed (Repeat (suc k) a) place) u c i = going_source a (parts_stand a (Placed (Repeat (suc k) a) place) of_repeat u) c.place i
        going_source (Placed (StaticSeq length parts) place) u c i = of_static (StaticSeq length parts) place c (inl refl) i
        going_source (Placed (StaticPar length arms) place) u c i = of_static (StaticPar length arms) place c (inl refl) i
        going_source (Placed (StaticIf length test a b) place) u c i = of_static (StaticIf length test a b) place c (inl refl) i
        going_source (Placed (StaticRepeat length count a) place) u c i = of_static (StaticRepeat length count a) place c (inl refl) i
        going_source (Placed (Timed k) place) u c i = absurd i

        parts_source : (ss : PlainStatements) (whole : PlainStatement) → Stands whole → ((t : PlainStatement) → In (list_of ss) t → IsPart t whole) → (c : Machine.Place (parts_machine leaves ss))
            → In (parts_going leaves codings part islands hole of_enable of_island ss c) x → Source (parts_run leaves ss c)
        parts_source no_statements whole u inside c i = absurd i
        parts_source (a_statement first later) whole u inside (First c) i = going_source first (parts_stand first whole (inside first (inl refl)) u) c i
        parts_source (a_statement first later) whole u inside (Second c) i = parts_source later whole u (λ t k. inside t (inr k)) c i

        arms_source : (ss : PlainStatements) (whole : PlainStatement) → Stands whole → ((t : PlainStatement) → In (list_of ss) t → IsPart t whole) → (c : Machine.Place (arms_machine leaves ss))
            → In (arms_going leaves codings part islands hole of_enable of_island ss c) x → Source (arms_run leaves ss c)
        arms_source no_statements whole u inside c i = absurd i
        arms_source (a_statement first later) whole u inside c i =
            source_arms (running leaves first) (arms_run leaves later) (going leaves codings part islands hole of_enable of_island first) (arms_going leaves codings part islands hole of_enable of_island later)
            (going_source first (parts_stand first whole (inside first (inl refl)) u)) (arms_source later whole u (λ t k. inside t (inr k))) c i
