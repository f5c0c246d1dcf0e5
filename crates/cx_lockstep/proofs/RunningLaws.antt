-- What a machine does by the leaves that run: their faults, their writes and where they go next, for every form.
use Rattle.std.proofs.Common.{◌≡◌, ℕ, zero, suc, ◌⊎◌, inl, inr, false, List, [], ◌∷◌, ◌++◌, refl, sym, ap, ◌∙◌, subst}
use Rattle.cx_text.proofs.MemberLaws.{in_either, in_left, in_right}
use Rattle.cx_text.specs.declared.places.Place.{Place}
use Rattle.cx_meaning.specs.Designs.{PlainForm, Empty, Enable, Seq, Par, If, While, Repeat, StaticSeq, StaticPar, StaticIf, StaticRepeat, Timed, PlainStatement, Placed, PlainStatements, no_statements, a_statement}
use Rattle.cx_text.specs.Members.{In}
use Rattle.cx_lockstep.specs.Worlds.{Store, Control, At, Done, Machine, step, faults}
use Rattle.cx_lockstep.specs.Machines.{within, First, Second, second_start, InPar, left_of, right_of, join, par_machine, AtTest, InThen, InElse, AtHead, InBody, in_round, next_round}
use Rattle.cx_lockstep.specs.Statements.{LeafMachines, machine_of, parts_machine, arms_machine}
use Rattle.cx_lockstep.specs.Running.{Running, AGroup, AnIsland, at_control, par_runs, leaf_faults, leaf_next, group_next, island_next, running, parts_run, arms_run}
use Rattle.cx_text.proofs.BoolLaws.{neither_first, neither_second}

module _ {X : Type 0} {V : X → Type 0} {F : Type 0} (P : LeafMachines X V F) where
  -- FAULTS: where the machine has none, no leaf that runs has one
  module _ (w : Store X V) (r : Running P) where
    arm_clean : (M : Machine X V) (f : M.Place → List (Running P)) → ((c : M.Place) → M.faults c w ≡ false → In (f c) r → leaf_faults P r w ≡ false)
        → (c : Control M.Place) → faults M c w ≡ false → In (at_control f c) r → leaf_faults P r w ≡ false
    arm_clean M f rec (At c) clean i = rec c clean i
    arm_clean M f rec Done clean i = absurd i

    par_clean : (A B : Machine X V) (f : A.Place → List (Running P)) (h : B.Place → List (Running P))
        → ((c : A.Place) → A.faults c w ≡ false → In (f c) r → leaf_faults P r w ≡ false) → ((c : B.Place) → B.faults c w ≡ false → In (h c) r → leaf_faults P r w ≡ false)
        → (c : InPar A.Place B.Place) → Machine.faults (par_machine A B) c w ≡ false → In (par_runs f h c) r → leaf_faults P r w ≡ false
    par_clean A B f h first second c clean i = either (in_either (at_control f (left_of c)) (at_control h (right_of c)) r i)
      where
        either : In (at_control f (left_of c)) r ⊎ In (at_control h (right_of c)) r → leaf_faults P r w ≡ false
        either (inl k) = arm_clean A f first (left_of c) (neither_first (faults A (left_of c) w) (faults B (right_of c) w) clean) k
        either (inr k) = arm_clean B h second (right_of c) (neither_second (faults A (left_of c) w) (faults B (right_of c) w) clean) k

    mutual
      pub no_faults : (s : PlainStatement) (c : Machine.Place (machine_of P s)) → Machine.faults (machine_of P s) c w ≡ false → In (running P s c) r → leaf_faults P r w ≡ false
      no_faults (Placed Empty place) c clean i = absurd i
      no_faults (Placed (Enable g) place) c clean (inl e) = ap (λ q. leaf_faults P q w) (sym e) ∙ clean
      no_faults (Placed (Enable g) place) c clean (inr i) = absurd i
      no_faults (Placed (Seq no_statements) place) c clean i = absurd i
      no_faults (Placed (Seq (a_statement first later)) place) (First c) clean i = no_faults first c clean i
      no_faults (Placed (Seq (a_statement first later)) place) (Second c) clean i = no_faults_after later c clean i
      no_faults (Placed (Par no_statements) place) c clean i = absurd i
      no_faults (Placed (Par (a_statement first later)) place) c clean i = par_clean (machine_of P first) (arms_machine P later) (running P first) (arms_run P later) (no_faults first) (no_faults_beside later) c clean i
      no_faults (Placed (If test comb a b) place) AtTest clean i = absurd i
      no_faults (Placed (If test comb a b) place) (InThen c) clean i = no_faults a c clean i
      no_faults (Placed (If test comb a b) place) (InElse c) clean i = no_faults b c clean i
      no_faults (Placed (While test comb a) place) AtHead clean i = absurd i
      no_faults (Placed (While test comb a) place) (InBody c) clean i = no_faults a c clean i
      no_faults (Placed (Repeat zero a) place) c clean i = absurd i
      no_faults (Placed (Repeat (suc k) a) place) c clean i = no_faults a c.place clean i
      no_faults (Placed (StaticSeq length parts) place) c clean (inl e) = ap (λ q. leaf_faults P q w) (sym e) ∙ clean
      no_faults (Placed (StaticSeq length parts) place) c clean (inr i) = absurd i
      no_faults (Placed (StaticPar length arms) place) c clean (inl e) = ap (λ q. leaf_faults P q w) (sym e) ∙ clean
      no_faults (Placed (StaticPar length arms) place) c clean (inr i) = absurd i
      no_faults (Placed (StaticIf length test a b) place) c clean (inl e) = ap (λ q. leaf_faults P q w) (sym e) ∙ clean
      no_faults (Placed (StaticIf length test a b) place) c clean (inr i) = absurd i
      no_faults (Placed (StaticRepeat length count a) place) c clean (inl e) = ap (λ q. leaf_faults P q w) (sym e) ∙ clean
      no_faults (Placed (StaticRepeat length count a) place) c clean (inr i) = absurd i
      no_faults (Placed (Timed k) place) c clean i = absurd i

      no_faults_after : (ss : PlainStatements) (c : Machine.Place (parts_machine P ss)) → Machine.faults (parts_machine P ss) c w ≡ false → In (parts_run P ss c) r → leaf_faults P r w ≡ false
      no_faults_after no_statements c clean i = absurd i
      no_faults_after (a_statement first later) (First c) clean i = no_faults first c clean i
      no_faults_after (a_statement first later) (Second c) clean i = no_faults_after later c clean i

      no_faults_beside : (ss : PlainStatements) (c : Machine.Place (arms_machine P ss)) → Machine.faults (arms_machine P ss) c w ≡ false → In (arms_run P ss c) r → leaf_faults P r w ≡ false
      no_faults_beside no_statements c clean i = absurd i
      no_faults_beside (a_statement first later) c clean i = par_clean (machine_of P first) (arms_machine P later) (running P first) (arms_run P later) (no_faults first) (no_faults_beside later) c clean i

  -- NEXT: a leaf that runs and does not end runs on, at its own next place
  module _ (w : Store X V) (r q : Running P) (next : In (leaf_next P r w) q) where
    -- a part's places in the whole, where the same leaves run
    moves_on : {A B : Type 0} (f : A → List (Running P)) (h : B → List (Running P)) (k : A → B) (after : Control B) → ((c : A) → In (f c) q → In (h (k c)) q) → (c : Control A) → In (at_control f c) q → In (at_control h (within k after c)) q
    moves_on f h k after same (At c) i = same c i
    moves_on f h k after same Done i = absurd i

    arm_moves : (M : Machine X V) (f : M.Place → List (Running P)) → ((c : M.Place) → In (f c) r → In (at_control f (M.step c w)) q) → (c : Control M.Place) → In (at_control f c) r → In (at_control f (step M c w)) q
    arm_moves M f rec (At c) i = rec c i
    arm_moves M f rec Done i = absurd i

    joined : {A B : Type 0} (f : A → List (Running P)) (h : B → List (Running P)) (c : Control A) (d : Control B) → In (at_control f c ++ at_control h d) q → In (at_control (par_runs f h) (join c d)) q
    joined f h (At c) (At d) i = i
    joined f h (At c) Done i = i
    joined f h Done (At d) i = i
    joined f h Done Done i = i

    par_moves : (A B : Machine X V) (f : A.Place → List (Running P)) (h : B.Place → List (Running P))
        → ((c : A.Place) → In (f c) r → In (at_control f (A.step c w)) q) → ((c : B.Place) → In (h c) r → In (at_control h (B.step c w)) q)
        → (c : InPar A.Place B.Place) → In (par_runs f h c) r → In (at_control (par_runs f h) (Machine.step (par_machine A B) c w)) q
    par_moves A B f h first second c i = joined f h (step A (left_of c) w) (step B (right_of c) w) (either (in_either (at_control f (left_of c)) (at_control h (right_of c)) r i))
      where
        either : In (at_control f (left_of c)) r ⊎ In (at_control h (right_of c)) r → In (at_control f (step A (left_of c) w) ++ at_control h (step B (right_of c) w)) q
        either (inl k) = in_left (at_control f (step A (left_of c) w)) (at_control h (step B (right_of c) w)) q (arm_moves A f first (left_of c) k)
        either (inr k) = in_right (at_control f (step A (left_of c) w)) (at_control h (step B (right_of c) w)) q (arm_moves B h second (right_of c) k)

    group_moves : (g : ℕ) (place : Place) (d : Control (Machine.Place (P.enable g))) → In (group_next P g place d) q → In (at_control (running P (Placed (Enable g) place)) d) q
    group_moves g place (At d) i = i
    group_moves g place Done i = i

    island_moves : (form : PlainForm) (place : Place) (f : Machine.Place (P.island form) → List (Running P)) → ((d : Machine.Place (P.island form)) → f d ≡ (AnIsland form place d ∷ []))
        → (d : Control (Machine.Place (P.island form))) → In (island_next P form place d) q → In (at_control f d) q
    island_moves form place f same (At d) i = subst (λ qs. In qs q) (sym (same d)) i
    island_moves form place f same Done i = i

    from_leaf : (p : Running P) → p ≡ r → In (leaf_next P p w) q
    from_leaf p e = subst (λ l. In (leaf_next P l w) q) (sym e) next

    mutual
      pub stays : (s : PlainStatement) (c : Machine.Place (machine_of P s)) → In (running P s c) r → In (at_control (running P s) (Machine.step (machine_of P s) c w)) q
      stays (Placed Empty place) c i = absurd i
      stays (Placed (Enable g) place) c (inl e) = group_moves g place (Machine.step (P.enable g) c w) (from_leaf (AGroup g place c) e)
      stays (Placed (Enable g) place) c (inr i) = absurd i
      stays (Placed (Seq no_statements) place) c i = absurd i
      stays (Placed (Seq (a_statement first later)) place) (First c) i =
          moves_on (running P first) (running P (Placed (Seq (a_statement first later)) place)) First (second_start (machine_of P first) (parts_machine P later)) (λ d k. k) (Machine.step (machine_of P first) c w) (stays first c i)
      stays (Placed (Seq (a_statement first later)) place) (Second c) i =
          moves_on (parts_run P later) (running P (Placed (Seq (a_statement first later)) place)) Second Done (λ d k. k) (Machine.step (parts_machine P later) c w) (stays_after later c i)
      stays (Placed (Par no_statements) place) c i = absurd i
      stays (Placed (Par (a_statement first later)) place) c i = par_moves (machine_of P first) (arms_machine P later) (running P first) (arms_run P later) (stays first) (stays_beside later) c i
      stays (Placed (If test comb a b) place) AtTest i = absurd i
      stays (Placed (If test comb a b) place) (InThen c) i = moves_on (running P a) (running P (Placed (If test comb a b) place)) InThen Done (λ d k. k) (Machine.step (machine_of P a) c w) (stays a c i)
      stays (Placed (If test comb a b) place) (InElse c) i = moves_on (running P b) (running P (Placed (If test comb a b) place)) InElse Done (λ d k. k) (Machine.step (machine_of P b) c w) (stays b c i)
      stays (Placed (While test comb a) place) AtHead i = absurd i
      stays (Placed (While test comb a) place) (InBody c) i = moves_on (running P a) (running P (Placed (While test comb a) place)) InBody (At AtHead) (λ d k. k) (Machine.step (machine_of P a) c w) (stays a c i)
      stays (Placed (Repeat zero a) place) c i = absurd i
      stays (Placed (Repeat (suc n) a) place) c i =
          moves_on (running P a) (running P (Placed (Repeat (suc n) a) place)) (in_round c.left) (next_round (machine_of P a) c.left) (λ d k. k) (Machine.step (machine_of P a) c.place w) (stays a c.place i)
      stays (Placed (StaticSeq length parts) place) c (inl e) =
          island_moves (StaticSeq length parts) place (running P (Placed (StaticSeq length parts) place)) (λ d. refl) (Machine.step (P.island (StaticSeq length parts)) c w) (from_leaf (AnIsland (StaticSeq length parts) place c) e)
      stays (Placed (StaticSeq length parts) place) c (inr i) = absurd i
      stays (Placed (StaticPar length arms) place) c (inl e) =
          island_moves (StaticPar length arms) place (running P (Placed (StaticPar length arms) place)) (λ d. refl) (Machine.step (P.island (StaticPar length arms)) c w) (from_leaf (AnIsland (StaticPar length arms) place c) e)
      stays (Placed (StaticPar length arms) place) c (inr i) = absurd i
      stays (Placed (StaticIf length test a b) place) c (inl e) =
          island_moves (StaticIf length test a b) place (running P (Placed (StaticIf length test a b) place)) (λ d. refl) (Machine.step (P.island (StaticIf length test a b)) c w) (from_leaf (AnIsland (StaticIf length test a b) place c) e)
      stays (Placed (StaticIf length test a b) place) c (inr i) = absurd i
      stays (Placed (StaticRepeat length count a) place) c (inl e) =
          island_moves (StaticRepeat length count a) place (running P (Placed (StaticRepeat length count a) place)) (λ d. refl) (Machine.step (P.island (StaticRepeat length count a)) c w) (from_leaf (AnIsland (StaticRepeat length count a) place c) e)
      stays (Placed (StaticRepeat length count a) place) c (inr i) = absurd i
      stays (Placed (Timed k) place) c i = absurd i

      stays_after : (ss : PlainStatements) (c : Machine.Place (parts_machine P ss)) → In (parts_run P ss c) r → In (at_control (parts_run P ss) (Machine.step (parts_machine P ss) c w)) q
      stays_after no_statements c i = absurd i
      stays_after (a_statement first later) (First c) i =
          moves_on (running P first) (parts_run P (a_statement first later)) First (second_start (machine_of P first) (parts_machine P later)) (λ d k. k) (Machine.step (machine_of P first) c w) (stays first c i)
      stays_after (a_statement first later) (Second c) i = moves_on (parts_run P later) (parts_run P (a_statement first later)) Second Done (λ d k. k) (Machine.step (parts_machine P later) c w) (stays_after later c i)

      stays_beside : (ss : PlainStatements) (c : Machine.Place (arms_machine P ss)) → In (arms_run P ss c) r → In (at_control (arms_run P ss) (Machine.step (arms_machine P ss) c w)) q
      stays_beside no_statements c i = absurd i
      stays_beside (a_statement first later) c i = par_moves (machine_of P first) (arms_machine P later) (running P first) (arms_run P later) (stays first) (stays_beside later) c i
