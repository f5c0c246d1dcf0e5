-- What a machine writes by the leaves that run: nothing that none of them drives, what the one writes that drives a spot, and
-- no two of them drive one spot.
use Rattle.std.proofs.Common.{◌≡◌, zero, suc, ◌⊎◌, inl, inr, Bool, true, false, List, [], ◌∷◌, ◌++◌, Option, None, refl, sym, ap, ◌∙◌, subst}
use Rattle.cx_text.proofs.MemberLaws.{in_either, in_left, in_right}
use Rattle.cx_meaning.specs.Designs.{Empty, Enable, Seq, Par, If, While, Repeat, StaticSeq, StaticPar, StaticIf, StaticRepeat, Timed, PlainStatement, Placed, PlainStatements, no_statements, a_statement, list_of}
use Rattle.cx_text.specs.Members.{In}
use Rattle.cx_meaning.specs.Control.{Leaves}
use Rattle.cx_lockstep.specs.Worlds.{Store, World, Control, At, Done, Machine, writes}
use Rattle.cx_lockstep.specs.Machines.{First, Second, InPar, left_of, right_of, first_some, par_machine, AtTest, InThen, InElse, AtHead, InBody}
use Rattle.cx_lockstep.specs.Statements.{LeafMachines, machine_of, parts_machine, arms_machine}
use Rattle.cx_lockstep.specs.Doing.{Does}
use Rattle.cx_lockstep.specs.Lawful.{IsPart, of_seq, of_par, then_branch, else_branch, of_while, of_repeat, enable, static_seq, static_par, static_if, static_repeat, Apart, AreApart, AreLawful}
use Rattle.cx_lockstep.proofs.ArmLaws.{first_none}
use Rattle.cx_lockstep.specs.Running.{Running, AGroup, AnIsland, at_control, par_runs, leaf_of, leaf_writes, running, parts_run, arms_run}
use Rattle.std.proofs.lemmas.Bool.{false_from_ne_true}

module _ {X : Type 0} {V : X → Type 0} {E S F : Type 0} (W : World X V E S) (Rests : (x : X) → V x → Type 0) (L : E → Leaves S F) (P : LeafMachines X V F)
    (drives : PlainStatement → X → Bool) (reads : PlainStatement → X → Type 0) (Stands : PlainStatement → Type 0) (law : AreLawful W Rests L P drives reads Stands) where
  -- what stands in a statement, and drives and reads no more
  pub record IsWithin (s whole : PlainStatement) : Type 0 where
    pub stands : Stands s
    pub drives_less : (x : X) → drives s x ≡ true → drives whole x ≡ true
    pub reads_less : (x : X) → reads s x → reads whole x

  wider : (r s whole : PlainStatement) → IsPart s whole → IsWithin r s → IsWithin r whole
  wider r s whole part within = record {
    stands = within.stands;
    drives_less = λ x d. law.part_drives s whole part x (within.drives_less x d);
    reads_less = λ x i. law.part_reads s whole part x (within.reads_less x i);
  }

  itself : (s : PlainStatement) → Stands s → IsWithin s s
  itself s stands = record { stands = stands; drives_less = λ x d. d; reads_less = λ x i. i }

  same_leaf : (s : PlainStatement) (p r : Running P) → p ≡ r → leaf_of P p ≡ s → Stands s → IsWithin (leaf_of P r) s
  same_leaf s p r e f stands = subst (λ t. IsWithin t s) (sym f ∙ ap (leaf_of P) e) (itself s stands)

  module _ (r : Running P) where
    abbrev Leaf : PlainStatement
    Leaf = leaf_of P r

    arm_within : {C : Type 0} (f : C → List (Running P)) (whole : PlainStatement) → ((c : C) → In (f c) r → IsWithin Leaf whole) → (c : Control C) → In (at_control f c) r → IsWithin Leaf whole
    arm_within f whole rec (At c) i = rec c i
    arm_within f whole rec Done i = absurd i

    -- a statement of a list, in which the leaf stands
    pub record StandsIn (ss : List PlainStatement) : Type 0 where
      pub arm : PlainStatement
      pub is_arm : In ss arm
      pub within : IsWithin Leaf arm

    abbrev Stand : PlainStatements → PlainStatement → Type 0
    Stand ss whole = (t : PlainStatement) → In (list_of ss) t → IsPart t whole

    par_within : {A B : Type 0} (f : A → List (Running P)) (h : B → List (Running P)) (first : PlainStatement) (ss : List PlainStatement)
        → ((c : A) → In (f c) r → IsWithin Leaf first) → ((c : B) → In (h c) r → StandsIn ss) → (c : InPar A B) → In (par_runs f h c) r → StandsIn (first ∷ ss)
    par_within {A} {B} f h first ss left right c i = either (in_either (at_control f (left_of c)) (at_control h (right_of c)) r i)
      where
        later : (d : Control B) → In (at_control h d) r → StandsIn (first ∷ ss)
        later (At d) k = let it = right d k in record { arm = it.arm; is_arm = inr it.is_arm; within = it.within }
        later Done k = absurd k

        either : In (at_control f (left_of c)) r ⊎ In (at_control h (right_of c)) r → StandsIn (first ∷ ss)
        either (inl k) = record { arm = first; is_arm = inl refl; within = arm_within f first left (left_of c) k }
        either (inr k) = later (right_of c) k

    in_whole : (ss : List PlainStatement) (whole : PlainStatement) → ((t : PlainStatement) → In ss t → IsPart t whole) → StandsIn ss → IsWithin Leaf whole
    in_whole ss whole part it = wider Leaf it.arm whole (part it.arm it.is_arm) it.within

    mutual
      pub runs_within : (s : PlainStatement) → Stands s → (c : Machine.Place (machine_of P s)) → In (running P s c) r → IsWithin Leaf s
      runs_within (Placed Empty place) stands c i = absurd i
      runs_within (Placed (Enable g) place) stands c (inl e) = same_leaf (Placed (Enable g) place) (AGroup g place c) r e refl stands
      runs_within (Placed (Enable g) place) stands c (inr i) = absurd i
      runs_within (Placed (Seq no_statements) place) stands c i = absurd i
      runs_within (Placed (Seq (a_statement first later)) place) stands (First c) i =
          wider Leaf first (Placed (Seq (a_statement first later)) place) (of_seq (inl refl)) (runs_within first (law.parts_stand first (Placed (Seq (a_statement first later)) place) (of_seq (inl refl)) stands) c i)
      runs_within (Placed (Seq (a_statement first later)) place) stands (Second c) i =
          in_whole (list_of later) (Placed (Seq (a_statement first later)) place) (λ t k. of_seq (inr k)) (within_after later (Placed (Seq (a_statement first later)) place) stands (λ t k. of_seq (inr k)) c i)
      runs_within (Placed (Par no_statements) place) stands c i = absurd i
      runs_within (Placed (Par (a_statement first later)) place) stands c i =
          in_whole (first ∷ list_of later) (Placed (Par (a_statement first later)) place) (λ t k. of_par k) (within_beside (a_statement first later) (Placed (Par (a_statement first later)) place) stands (λ t k. of_par k) c i)
      runs_within (Placed (If test comb a b) place) stands AtTest i = absurd i
      runs_within (Placed (If test comb a b) place) stands (InThen c) i = wider Leaf a (Placed (If test comb a b) place) then_branch (runs_within a (law.parts_stand a (Placed (If test comb a b) place) then_branch stands) c i)
      runs_within (Placed (If test comb a b) place) stands (InElse c) i = wider Leaf b (Placed (If test comb a b) place) else_branch (runs_within b (law.parts_stand b (Placed (If test comb a b) place) else_branch stands) c i)
      runs_within (Placed (While test comb a) place) stands AtHead i = absurd i
      runs_within (Placed (While test comb a) place) stands (InBody c) i = wider Leaf a (Placed (While test comb a) place) of_while (runs_within a (law.parts_stand a (Placed (While test comb a) place) of_while stands) c i)
      runs_within (Placed (Repeat zero a) place) stands c i = absurd i
      runs_within (Placed (Repeat (suc k) a) place) stands c i = wider Leaf a (Placed (Repeat (suc k) a) place) of_repeat (runs_within a (law.parts_stand a (Placed (Repeat (suc k) a) place) of_repeat stands) c.place i)
      runs_within (Placed (StaticSeq length parts) place) stands c (inl e) = same_leaf (Placed (StaticSeq length parts) place) (AnIsland (StaticSeq length parts) place c) r e refl stands
      runs_within (Placed (StaticSeq length parts) place) stands c (inr i) = absurd i
      runs_within (Placed (StaticPar length arms) place) stands c (inl e) = same_leaf (Placed (StaticPar length arms) place) (AnIsland (StaticPar length arms) place c) r e refl stands
      runs_within (Placed (StaticPar length arms) place) stands c (inr i) = absurd i
      runs_within (Placed (StaticIf length test a b) place) stands c (inl e) = same_leaf (Placed (StaticIf length test a b) place) (AnIsland (StaticIf length test a b) place c) r e refl stands
      runs_within (Placed (StaticIf length test a b) place) stands c (inr i) = absurd i
      runs_within (Placed (StaticRepeat length count a) place) stands c (inl e) = same_leaf (Placed (StaticRepeat length count a) place) (AnIsland (StaticRepeat length count a) place c) r e refl stands
      runs_within (Placed (StaticRepeat length count a) place) stands c (inr i) = absurd i
      runs_within (Placed (Timed k) place) stands c i = absurd i

      within_after : (ss : PlainStatements) (whole : PlainStatement) → Stands whole → Stand ss whole → (c : Machine.Place (parts_machine P ss)) → In (parts_run P ss c) r → StandsIn (list_of ss)
      within_after no_statements whole stands part c i = absurd i
      within_after (a_statement first later) whole stands part (First c) i =
          record { arm = first; is_arm = inl refl; within = runs_within first (law.parts_stand first whole (part first (inl refl)) stands) c i }
      within_after (a_statement first later) whole stands part (Second c) i =
          let it = within_after later whole stands (λ t k. part t (inr k)) c i in
          record { arm = it.arm; is_arm = inr it.is_arm; within = it.within }

      within_beside : (ss : PlainStatements) (whole : PlainStatement) → Stands whole → Stand ss whole → (c : Machine.Place (arms_machine P ss)) → In (arms_run P ss c) r → StandsIn (list_of ss)
      within_beside no_statements whole stands part c i = absurd i
      within_beside (a_statement first later) whole stands part c i =
          par_within (running P first) (arms_run P later) first (list_of later) (runs_within first (law.parts_stand first whole (part first (inl refl)) stands)) (within_beside later whole stands (λ t k. part t (inr k))) c i

  -- WRITES_NONE: what no leaf that runs drives is not written
  abbrev Parts : PlainStatements → PlainStatement → Type 0
  Parts ss whole = (t : PlainStatement) → In (list_of ss) t → IsPart t whole

  module _ (w : Store X V) (x : X) where
    -- none of these leaves drives x
    abbrev pub Free : List (Running P) → Type 0
    Free rs = (r : Running P) → In rs r → drives (leaf_of P r) x ≡ false

    none_at : (M : Machine X V) (f : M.Place → List (Running P)) → ((c : M.Place) → Free (f c) → M.writes c w x ≡ None) → (c : Control M.Place) → Free (at_control f c) → writes M c w x ≡ None
    none_at M f rec (At c) free = rec c free
    none_at M f rec Done free = refl

    par_none : (A B : Machine X V) (f : A.Place → List (Running P)) (h : B.Place → List (Running P)) → ((c : A.Place) → Free (f c) → A.writes c w x ≡ None) → ((c : B.Place) → Free (h c) → B.writes c w x ≡ None)
        → (c : InPar A.Place B.Place) → Free (par_runs f h c) → Machine.writes (par_machine A B) c w x ≡ None
    par_none A B f h left right c free =
        ap (first_some (writes A (left_of c) w x)) (none_at B h right (right_of c) (λ r i. free r (in_right (at_control f (left_of c)) (at_control h (right_of c)) r i)))
        ∙ first_none (writes A (left_of c) w x)
        ∙ none_at A f left (left_of c) (λ r i. free r (in_left (at_control f (left_of c)) (at_control h (right_of c)) r i))

    mutual
      pub writes_none : (s : PlainStatement) → Stands s → (c : Machine.Place (machine_of P s)) → Free (running P s c) → Machine.writes (machine_of P s) c w x ≡ None
      writes_none (Placed Empty place) stands c free = refl
      writes_none (Placed (Enable g) place) stands c free = Does.only (law.leaf_does (Enable g) place (enable g) stands) c w x (free (AGroup g place c) (inl refl))
      writes_none (Placed (Seq no_statements) place) stands c free = refl
      writes_none (Placed (Seq (a_statement first later)) place) stands (First c) free = writes_none first (law.parts_stand first (Placed (Seq (a_statement first later)) place) (of_seq (inl refl)) stands) c free
      writes_none (Placed (Seq (a_statement first later)) place) stands (Second c) free = none_after later (Placed (Seq (a_statement first later)) place) stands (λ t k. of_seq (inr k)) c free
      writes_none (Placed (Par no_statements) place) stands c free = refl
      writes_none (Placed (Par (a_statement first later)) place) stands c free = none_beside (a_statement first later) (Placed (Par (a_statement first later)) place) stands (λ t k. of_par k) c free
      writes_none (Placed (If test comb a b) place) stands AtTest free = refl
      writes_none (Placed (If test comb a b) place) stands (InThen c) free = writes_none a (law.parts_stand a (Placed (If test comb a b) place) then_branch stands) c free
      writes_none (Placed (If test comb a b) place) stands (InElse c) free = writes_none b (law.parts_stand b (Placed (If test comb a b) place) else_branch stands) c free
      writes_none (Placed (While test comb a) place) stands AtHead free = refl
      writes_none (Placed (While test comb a) place) stands (InBody c) free = writes_none a (law.parts_stand a (Placed (While test comb a) place) of_while stands) c free
      writes_none (Placed (Repeat zero a) place) stands c free = refl
      writes_none (Placed (Repeat (suc k) a) place) stands c free = writes_none a (law.parts_stand a (Placed (Repeat (suc k) a) place) of_repeat stands) c.place free
      writes_none (Placed (StaticSeq length parts) place) stands c free =
          Does.only (law.leaf_does (StaticSeq length parts) place (static_seq length parts) stands) c w x (free (AnIsland (StaticSeq length parts) place c) (inl refl))
      writes_none (Placed (StaticPar length arms) place) stands c free =
          Does.only (law.leaf_does (StaticPar length arms) place (static_par length arms) stands) c w x (free (AnIsland (StaticPar length arms) place c) (inl refl))
      writes_none (Placed (StaticIf length test a b) place) stands c free =
          Does.only (law.leaf_does (StaticIf length test a b) place (static_if length test a b) stands) c w x (free (AnIsland (StaticIf length test a b) place c) (inl refl))
      writes_none (Placed (StaticRepeat length count a) place) stands c free =
          Does.only (law.leaf_does (StaticRepeat length count a) place (static_repeat length count a) stands) c w x (free (AnIsland (StaticRepeat length count a) place c) (inl refl))
      writes_none (Placed (Timed k) place) stands c free = refl

      none_after : (ss : PlainStatements) (whole : PlainStatement) → Stands whole → Parts ss whole → (c : Machine.Place (parts_machine P ss)) → Free (parts_run P ss c) → Machine.writes (parts_machine P ss) c w x ≡ None
      none_after no_statements whole stands part c free = absurd c
      none_after (a_statement first later) whole stands part (First c) free = writes_none first (law.parts_stand first whole (part first (inl refl)) stands) c free
      none_after (a_statement first later) whole stands part (Second c) free = none_after later whole stands (λ t k. part t (inr k)) c free

      none_beside : (ss : PlainStatements) (whole : PlainStatement) → Stands whole → Parts ss whole → (c : Machine.Place (arms_machine P ss)) → Free (arms_run P ss c) → Machine.writes (arms_machine P ss) c w x ≡ None
      none_beside no_statements whole stands part c free = absurd c
      none_beside (a_statement first later) whole stands part c free =
          par_none (machine_of P first) (arms_machine P later) (running P first) (arms_run P later)
          (writes_none first (law.parts_stand first whole (part first (inl refl)) stands)) (none_beside later whole stands (λ t k. part t (inr k))) c free

    -- ONE DRIVER: what a leaf drives that runs is written as it writes it, and no other leaf that runs drives it
    module _ (r : Running P) (driven : drives (leaf_of P r) x ≡ true) where
      -- what is to be shown of the leaves that run at a place
      pub record Alone (written : Option (V x)) (rs : List (Running P)) : Type 0 where
        pub writes_it : written ≡ leaf_writes P r w x
        pub is_only : (q : Running P) → In rs q → drives (leaf_of P q) x ≡ true → r ≡ q

      alone_at : (M : Machine X V) (f : M.Place → List (Running P)) → ((c : M.Place) → In (f c) r → Alone (M.writes c w x) (f c)) → (c : Control M.Place) → In (at_control f c) r → Alone (writes M c w x) (at_control f c)
      alone_at M f rec (At c) i = rec c i
      alone_at M f rec Done i = absurd i

      is_free : (rs : List (Running P)) → ((q : Running P) → In rs q → drives (leaf_of P q) x ≡ true → ⊥) → Free rs
      is_free rs never q i = false_from_ne_true (drives (leaf_of P q) x) (never q i)

      alone_left : (o p : Option (V x)) (left right : List (Running P)) → ((q : Running P) → In right q → drives (leaf_of P q) x ≡ true → ⊥) → p ≡ None → Alone o left → Alone (first_some o p) (left ++ right)
      alone_left o p left right never none it = record {
        writes_it = ap (first_some o) none ∙ first_none o ∙ it.writes_it;
        is_only = λ q i d. either q d (in_either left right q i);
      }
        where
          either : (q : Running P) → drives (leaf_of P q) x ≡ true → In left q ⊎ In right q → r ≡ q
          either q d (inl i) = it.is_only q i d
          either q d (inr i) = absurd (never q i d)

      alone_right : (o p : Option (V x)) (left right : List (Running P)) → ((q : Running P) → In left q → drives (leaf_of P q) x ≡ true → ⊥) → o ≡ None → Alone p right → Alone (first_some o p) (left ++ right)
      alone_right o p left right never none it = record {
        writes_it = ap (λ k. first_some k p) none ∙ it.writes_it;
        is_only = λ q i d. either q d (in_either left right q i);
      }
        where
          either : (q : Running P) → drives (leaf_of P q) x ≡ true → In left q ⊎ In right q → r ≡ q
          either q d (inl i) = absurd (never q i d)
          either q d (inr i) = it.is_only q i d

      this_alone : (p : Running P) → p ≡ r → (o : Option (V x)) → o ≡ leaf_writes P p w x → Alone o (p ∷ [])
      this_alone p e o f = record {
        writes_it = f ∙ ap (λ q. leaf_writes P q w x) e;
        is_only = λ q i d. same q i;
      }
        where
          same : (q : Running P) → In (p ∷ []) q → r ≡ q
          same q (inl k) = sym e ∙ k
          same q (inr k) = absurd k

      mutual
        pub alone : (s : PlainStatement) → Stands s → (c : Machine.Place (machine_of P s)) → In (running P s c) r → Alone (Machine.writes (machine_of P s) c w x) (running P s c)
        alone (Placed Empty place) stands c i = absurd i
        alone (Placed (Enable g) place) stands c (inl e) = this_alone (AGroup g place c) e (Machine.writes (P.enable g) c w x) refl
        alone (Placed (Enable g) place) stands c (inr i) = absurd i
        alone (Placed (Seq no_statements) place) stands c i = absurd i
        alone (Placed (Seq (a_statement first later)) place) stands (First c) i = alone first (law.parts_stand first (Placed (Seq (a_statement first later)) place) (of_seq (inl refl)) stands) c i
        alone (Placed (Seq (a_statement first later)) place) stands (Second c) i = alone_after later (Placed (Seq (a_statement first later)) place) stands (λ t k. of_seq (inr k)) c i
        alone (Placed (Par no_statements) place) stands c i = absurd i
        alone (Placed (Par (a_statement first later)) place) stands c i =
            alone_beside (a_statement first later) (Placed (Par (a_statement first later)) place) stands (λ t k. of_par k) (law.arms_apart (a_statement first later) place stands) c i
        alone (Placed (If test comb a b) place) stands AtTest i = absurd i
        alone (Placed (If test comb a b) place) stands (InThen c) i = alone a (law.parts_stand a (Placed (If test comb a b) place) then_branch stands) c i
        alone (Placed (If test comb a b) place) stands (InElse c) i = alone b (law.parts_stand b (Placed (If test comb a b) place) else_branch stands) c i
        alone (Placed (While test comb a) place) stands AtHead i = absurd i
        alone (Placed (While test comb a) place) stands (InBody c) i = alone a (law.parts_stand a (Placed (While test comb a) place) of_while stands) c i
        alone (Placed (Repeat zero a) place) stands c i = absurd i
        alone (Placed (Repeat (suc k) a) place) stands c i = alone a (law.parts_stand a (Placed (Repeat (suc k) a) place) of_repeat stands) c.place i
        alone (Placed (StaticSeq length parts) place) stands c (inl e) = this_alone (AnIsland (StaticSeq length parts) place c) e (Machine.writes (P.island (StaticSeq length parts)) c w x) refl
        alone (Placed (StaticSeq length parts) place) stands c (inr i) = absurd i
        alone (Placed (StaticPar length arms) place) stands c (inl e) = this_alone (AnIsland (StaticPar length arms) place c) e (Machine.writes (P.island (StaticPar length arms)) c w x) refl
        alone (Placed (StaticPar length arms) place) stands c (inr i) = absurd i
        alone (Placed (StaticIf length test a b) place) stands c (inl e) = this_alone (AnIsland (StaticIf length test a b) place c) e (Machine.writes (P.island (StaticIf length test a b)) c w x) refl
        alone (Placed (StaticIf length test a b) place) stands c (inr i) = absurd i
        alone (Placed (StaticRepeat length count a) place) stands c (inl e) = this_alone (AnIsland (StaticRepeat length count a) place c) e (Machine.writes (P.island (StaticRepeat length count a)) c w x) refl
        alone (Placed (StaticRepeat length count a) place) stands c (inr i) = absurd i
        alone (Placed (Timed k) place) stands c i = absurd i

        alone_after : (ss : PlainStatements) (whole : PlainStatement) → Stands whole → Parts ss whole → (c : Machine.Place (parts_machine P ss)) → In (parts_run P ss c) r → Alone (Machine.writes (parts_machine P ss) c w x) (parts_run P ss c)
        alone_after no_statements whole stands part c i = absurd i
        alone_after (a_statement first later) whole stands part (First c) i = alone first (law.parts_stand first whole (part first (inl refl)) stands) c i
        alone_after (a_statement first later) whole stands part (Second c) i = alone_after later whole stands (λ t k. part t (inr k)) c i

        alone_beside : (ss : PlainStatements) (whole : PlainStatement) → Stands whole → Parts ss whole → AreApart drives reads (list_of ss) → (c : Machine.Place (arms_machine P ss)) → In (arms_run P ss c) r
            → Alone (Machine.writes (arms_machine P ss) c w x) (arms_run P ss c)
        alone_beside no_statements whole stands part apart c i = absurd i
        alone_beside (a_statement first later) whole stands part apart c i = either (in_either (at_control (running P first) (left_of c)) (at_control (arms_run P later) (right_of c)) r i)
            (alone_at (machine_of P first) (running P first) (alone first first_stands) (left_of c)) (alone_at (arms_machine P later) (arms_run P later) (alone_beside later whole stands later_part apart.1) (right_of c))
          where
            first_stands : Stands first
            first_stands = law.parts_stand first whole (part first (inl refl)) stands

            later_part : (t : PlainStatement) → In (list_of later) t → IsPart t whole
            later_part t k = part t (inr k)

            first_within : (q : Running P) (d : Control (Machine.Place (machine_of P first))) → In (at_control (running P first) d) q → IsWithin (leaf_of P q) first
            first_within q d k = arm_within q (running P first) first (runs_within q first first_stands) d k

            later_within : (q : Running P) (d : Control (Machine.Place (arms_machine P later))) → In (at_control (arms_run P later) d) q → StandsIn q (list_of later)
            later_within q (At d) k = within_beside q later whole stands later_part d k
            later_within q Done k = absurd k

            not_right : In (at_control (running P first) (left_of c)) r → (q : Running P) → In (at_control (arms_run P later) (right_of c)) q → drives (leaf_of P q) x ≡ true → ⊥
            not_right k q j d =
                let it = first_within r (left_of c) k in
                let other = later_within q (right_of c) j in
                let its = IsWithin.stands it in
                Apart.first (apart.0 other.arm other.is_arm) x (IsWithin.drives_less it x driven) (IsWithin.reads_less other.within x (law.sees (leaf_of P q) (IsWithin.stands other.within) x d))

            not_left : In (at_control (arms_run P later) (right_of c)) r → (q : Running P) → In (at_control (running P first) (left_of c)) q → drives (leaf_of P q) x ≡ true → ⊥
            not_left k q j d =
                let it = later_within r (right_of c) k in
                let other = first_within q (left_of c) j in
                Apart.second (apart.0 it.arm it.is_arm) x (IsWithin.drives_less it.within x driven) (IsWithin.reads_less other x (law.sees (leaf_of P q) (IsWithin.stands other) x d))

            either : In (at_control (running P first) (left_of c)) r ⊎ In (at_control (arms_run P later) (right_of c)) r
                → (In (at_control (running P first) (left_of c)) r → Alone (writes (machine_of P first) (left_of c) w x) (at_control (running P first) (left_of c)))
                → (In (at_control (arms_run P later) (right_of c)) r → Alone (writes (arms_machine P later) (right_of c) w x) (at_control (arms_run P later) (right_of c)))
                → Alone (Machine.writes (arms_machine P (a_statement first later)) c w x) (arms_run P (a_statement first later) c)
            either (inl k) left right =
                alone_left (writes (machine_of P first) (left_of c) w x) (writes (arms_machine P later) (right_of c) w x) (at_control (running P first) (left_of c)) (at_control (arms_run P later) (right_of c)) (not_right k)
                (none_at (arms_machine P later) (arms_run P later) (none_beside later whole stands later_part) (right_of c) (is_free (at_control (arms_run P later) (right_of c)) (not_right k)))
                (left k)
            either (inr k) left right =
                alone_right (writes (machine_of P first) (left_of c) w x) (writes (arms_machine P later) (right_of c) w x) (at_control (running P first) (left_of c)) (at_control (arms_run P later) (right_of c)) (not_left k)
                (none_at (machine_of P first) (running P first) (writes_none first first_stands) (left_of c) (is_free (at_control (running P first) (left_of c)) (not_left k)))
                (right k)
