-- The leaves that run are groups and static statements.
use Rattle.std.proofs.Common.{◌≡◌, zero, suc, ◌⊎◌, inl, inr, true, List, refl, subst}
use Rattle.cx_text.proofs.MemberLaws.{in_either}
use Rattle.cx_meaning.specs.Designs.{Empty, Enable, Seq, Par, If, While, Repeat, StaticSeq, StaticPar, StaticIf, StaticRepeat, Timed, PlainStatement, Placed, PlainStatements, no_statements, a_statement}
use Rattle.cx_text.specs.Members.{In}
use Rattle.cx_rules.specs.StaticControl.{is_static}
use Rattle.cx_lockstep.specs.Worlds.{Control, At, Done, Machine}
use Rattle.cx_lockstep.specs.Machines.{First, Second, InPar, left_of, right_of, AtTest, InThen, InElse, AtHead, InBody}
use Rattle.cx_lockstep.specs.Statements.{LeafMachines, machine_of, parts_machine, arms_machine}
use Rattle.cx_lockstep.specs.Running.{Running, AGroup, AnIsland, at_control, par_runs, running, parts_run, arms_run}

module _ {X : Type 0} {V : X → Type 0} {F : Type 0} (leaves : LeafMachines X V F) where
  -- an island that runs is a static statement
  abbrev pub IsLeaf : Running leaves → Type 0
  IsLeaf (AGroup g place stand) = Unit {0}
  IsLeaf (AnIsland form place stand) = is_static form ≡ true

  module _ (r : Running leaves) where
    at_arm : {C : Type 0} (f : C → List (Running leaves)) → ((c : C) → In (f c) r → IsLeaf r) → (c : Control C) → In (at_control f c) r → IsLeaf r
    at_arm f each (At c) i = each c i
    at_arm f each Done i = absurd i

    at_arms : {A B : Type 0} (f : A → List (Running leaves)) (h : B → List (Running leaves)) → ((c : A) → In (f c) r → IsLeaf r) → ((c : B) → In (h c) r → IsLeaf r) → (c : InPar A B) → In (par_runs f h c) r → IsLeaf r
    at_arms f h first second c i = either (in_either (at_control f (left_of c)) (at_control h (right_of c)) r i)
      where
        either : In (at_control f (left_of c)) r ⊎ In (at_control h (right_of c)) r → IsLeaf r
        either (inl k) = at_arm f first (left_of c) k
        either (inr k) = at_arm h second (right_of c) k

    mutual
      pub runs_leaf : (s : PlainStatement) (c : Machine.Place (machine_of leaves s)) → In (running leaves s c) r → IsLeaf r
      runs_leaf (Placed Empty place) c i = absurd i
      runs_leaf (Placed (Enable g) place) c (inl e) = subst IsLeaf e tt
      runs_leaf (Placed (Enable g) place) c (inr i) = absurd i
      runs_leaf (Placed (Seq no_statements) place) c i = absurd i
      runs_leaf (Placed (Seq (a_statement first later)) place) (First c) i = runs_leaf first c i
      runs_leaf (Placed (Seq (a_statement first later)) place) (Second c) i = parts_leaf later c i
      runs_leaf (Placed (Par no_statements) place) c i = absurd i
      runs_leaf (Placed (Par (a_statement first later)) place) c i = at_arms (running leaves first) (arms_run leaves later) (runs_leaf first) (arms_leaf later) c i
      runs_leaf (Placed (If test comb a b) place) AtTest i = absurd i
      runs_leaf (Placed (If test comb a b) place) (InThen c) i = runs_leaf a c i
      runs_leaf (Placed (If test comb a b) place) (InElse c) i = runs_leaf b c i
      runs_leaf (Placed (While test comb a) place) AtHead i = absurd i
      runs_leaf (Placed (While test comb a) place) (InBody c) i = runs_leaf a c i
      runs_leaf (Placed (Repeat zero a) place) c i = absurd i
      runs_leaf (Placed (Repeat (suc k) a) place) c i = runs_leaf a c.place i
      runs_leaf (Placed (StaticSeq length parts) place) c (inl e) = subst IsLeaf e refl
      runs_leaf (Placed (StaticSeq length parts) place) c (inr i) = absurd i
      runs_leaf (Placed (StaticPar length arms) place) c (inl e) = subst IsLeaf e refl
      runs_leaf (Placed (StaticPar length arms) place) c (inr i) = absurd i
      runs_leaf (Placed (StaticIf length test a b) place) c (inl e) = subst IsLeaf e refl
      runs_leaf (Placed (StaticIf length test a b) place) c (inr i) = absurd i
      runs_leaf (Placed (StaticRepeat length count a) place) c (inl e) = subst IsLeaf e refl
      runs_leaf (Placed (StaticRepeat length count a) place) c (inr i) = absurd i
      runs_leaf (Placed (Timed k) place) c i = absurd i

      parts_leaf : (ss : PlainStatements) (c : Machine.Place (parts_machine leaves ss)) → In (parts_run leaves ss c) r → IsLeaf r
      parts_leaf no_statements c i = absurd i
      parts_leaf (a_statement first later) (First c) i = runs_leaf first c i
      parts_leaf (a_statement first later) (Second c) i = parts_leaf later c i

      arms_leaf : (ss : PlainStatements) (c : Machine.Place (arms_machine leaves ss)) → In (arms_run leaves ss c) r → IsLeaf r
      arms_leaf no_statements c i = absurd i
      arms_leaf (a_statement first later) c i = at_arms (running leaves first) (arms_run leaves later) (runs_leaf first) (arms_leaf later) c i
