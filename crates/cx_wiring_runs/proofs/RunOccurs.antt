-- What is active in an island that runs has an occurrence in an island of the component.
use Rattle.std.proofs.Common.{◌≡◌, ◌⊎◌, inl, inr, ℕ, zero, suc, ◌<◌, true, List, [], ◌∷◌, ◌++◌, length, Some, refl, sym, ap, ◌∙◌, subst}
use Rattle.std.specs.Prelude.{option_map, slice_get}
use Rattle.std.proofs.lemmas.Option.{slice_get-get_or}
use Rattle.cx_text.proofs.MemberLaws.{in_either}
use Rattle.cx_text.specs.declared.places.Place.{Place}
use Rattle.cx_meaning.specs.declared.kinds.GroupKind.{GroupKind}
use Rattle.cx_meaning.specs.declared.kinds.GroupKind.TheVariants as kinds
use Rattle.cx_meaning.specs.Designs.{PlainCell, PlainComponent, PlainForm, Empty, Enable, Seq, Par, If, While, Repeat, StaticSeq, StaticPar, StaticIf, StaticRepeat, Timed, PlainStatement, Placed, PlainStatements, no_statements, a_statement, group_at, no_group}
use Rattle.cx_text.specs.Members.{In}
use Rattle.cx_meaning.specs.Islands.{group_length, form_length}
use Rattle.cx_lockstep.specs.Worlds.{Control, At, Done, Machine}
use Rattle.cx_lockstep.specs.Machines.{First, Second, InPar, left_of, right_of, AtTest, InThen, InElse, AtHead, InBody}
use Rattle.cx_lockstep.specs.Statements.{LeafMachines, form_machine, machine_of, parts_machine, arms_machine}
use Rattle.cx_lockstep.specs.Running.{Running, AGroup, AnIsland, at_control, running, form_runs, parts_run, arms_run}
use Rattle.cx_static.specs.Lowering.{island_gathered, island_of, Lowering, after_enable, form_after, after, parts_after, unlowered, lowered_component}
use Rattle.cx_wiring.specs.Assignments.{occurs_among, occurs_in, kind_drives, owner_drives}
use Rattle.cx_wiring.proofs.IslandCells.{lowers, parts_lower}
use Rattle.cx_wiring_runs.proofs.Occurrences.{island_first, island_last}

module _ {X : Type 0} {V : X → Type 0} {F : Type 0} (leaves : LeafMachines X V F) (part : PlainComponent) (g : ℕ) where
  abbrev Occurs : Lowering → Type 0
  Occurs l = occurs_in g l.islands ≡ true

  stays : (s : PlainStatement) (l : Lowering) → Occurs l → Occurs (after part s l)
  stays s l o = lowers part Occurs (λ form k e. island_first g k.islands (island_of (form_length part form) (island_gathered part form k.cells) ∷ []) e) s l o

  all_stay : (ss : PlainStatements) (l : Lowering) → Occurs l → Occurs (parts_after part ss l)
  all_stay ss l o = parts_lower part Occurs (λ form k e. island_first g k.islands (island_of (form_length part form) (island_gathered part form k.cells) ∷ []) e) ss l o

  -- the island of the leaf has an occurrence of the group
  abbrev pub LeafHas : Running leaves → Type 0
  LeafHas (AnIsland form place q) = (front : List PlainCell) → occurs_among g (island_gathered part form front).occurrences ≡ true
  LeafHas (AGroup h place q) = ((n : ℕ) × (group_length part h ≡ Some n)) × ((front : List PlainCell) → occurs_among g (island_gathered part (Enable h) front).occurrences ≡ true)

  module _ (r : Running leaves) (has : LeafHas r) where
    its : (q : Running leaves) → q ≡ r → LeafHas q
    its q e = subst LeafHas (sym e) has

    of_island : (form : PlainForm) (l : Lowering) → ((front : List PlainCell) → occurs_among g (island_gathered part form front).occurrences ≡ true) → occurs_in g (l.islands ++ island_of (form_length part form) (island_gathered part form l.cells) ∷ []) ≡ true
    of_island form l h = island_last g l.islands (island_of (form_length part form) (island_gathered part form l.cells)) (h l.cells)

    of_enable : (h : ℕ) (place : Place) (q : Machine.Place (LeafMachines.enable leaves h)) (l : Lowering) → AGroup h place q ≡ r → Occurs (after_enable part h (group_length part h) l)
    of_enable h place q l e = let k = its (AGroup h place q) e in subst (λ o. Occurs (after_enable part h o l)) (sym k.0.1) (of_island (Enable h) l k.1)

    at_arm : {C : Type 0} (f : C → List (Running leaves)) (Q : Type 0) → ((c : C) → In (f c) r → Q) → (k : Control C) → In (at_control f k) r → Q
    at_arm f Q each (At c) i = each c i
    at_arm f Q each Done i = absurd i

    of_arms : (s : PlainStatement) (ss : PlainStatements) (l : Lowering) → ((p : Machine.Place (machine_of leaves s)) → In (running leaves s p) r → Occurs (after part s l))
        → ((p : Machine.Place (arms_machine leaves ss)) → In (arms_run leaves ss p) r → Occurs (parts_after part ss (after part s l))) → (p : InPar (Machine.Place (machine_of leaves s)) (Machine.Place (arms_machine leaves ss)))
        → In (at_control (running leaves s) (left_of p)) r ⊎ In (at_control (arms_run leaves ss) (right_of p)) r → Occurs (parts_after part ss (after part s l))
    of_arms s ss l first others p (inl i) = all_stay ss (after part s l) (at_arm (running leaves s) (Occurs (after part s l)) first (left_of p) i)
    of_arms s ss l first others p (inr i) = at_arm (arms_run leaves ss) (Occurs (parts_after part ss (after part s l))) others (right_of p) i

    mutual
      form_occurs : (form : PlainForm) (place : Place) (p : Machine.Place (form_machine leaves form)) (l : Lowering) → In (form_runs leaves form place p) r → Occurs (form_after part form l)
      form_occurs Empty place p l i = absurd i
      form_occurs (Enable h) place p l (inl e) = of_enable h place p l e
      form_occurs (Enable h) place p l (inr none) = absurd none
      form_occurs (Seq no_statements) place p l i = absurd i
      form_occurs (Seq (a_statement s ss)) place (First p) l i = all_stay ss (after part s l) (statement_occurs s p l i)
      form_occurs (Seq (a_statement s ss)) place (Second p) l i = parts_occur ss p (after part s l) i
      form_occurs (Par no_statements) place p l i = absurd i
      form_occurs (Par (a_statement s ss)) place p l i =
          of_arms s ss l (λ q j. statement_occurs s q l j) (λ q j. arms_occur ss q (after part s l) j) p (in_either (at_control (running leaves s) (left_of p)) (at_control (arms_run leaves ss) (right_of p)) r i)
      form_occurs (If test comb a b) place AtTest l i = absurd i
      form_occurs (If test comb a b) place (InThen p) l i = stays b (after part a l) (statement_occurs a p l i)
      form_occurs (If test comb a b) place (InElse p) l i = statement_occurs b p (after part a l) i
      form_occurs (While test comb a) place AtHead l i = absurd i
      form_occurs (While test comb a) place (InBody p) l i = statement_occurs a p l i
      form_occurs (Repeat zero a) place p l i = absurd i
      form_occurs (Repeat (suc k) a) place p l i = statement_occurs a p.place l i
      form_occurs (StaticSeq written parts) place p l (inl e) = of_island (StaticSeq written parts) l (its (AnIsland (StaticSeq written parts) place p) e)
      form_occurs (StaticSeq written parts) place p l (inr none) = absurd none
      form_occurs (StaticPar written arms) place p l (inl e) = of_island (StaticPar written arms) l (its (AnIsland (StaticPar written arms) place p) e)
      form_occurs (StaticPar written arms) place p l (inr none) = absurd none
      form_occurs (StaticIf written test a b) place p l (inl e) = of_island (StaticIf written test a b) l (its (AnIsland (StaticIf written test a b) place p) e)
      form_occurs (StaticIf written test a b) place p l (inr none) = absurd none
      form_occurs (StaticRepeat written count a) place p l (inl e) = of_island (StaticRepeat written count a) l (its (AnIsland (StaticRepeat written count a) place p) e)
      form_occurs (StaticRepeat written count a) place p l (inr none) = absurd none
      form_occurs (Timed k) place p l i = absurd i

      statement_occurs : (s : PlainStatement) (p : Machine.Place (machine_of leaves s)) (l : Lowering) → In (running leaves s p) r → Occurs (after part s l)
      statement_occurs (Placed form place) p l i = form_occurs form place p l i

      parts_occur : (ss : PlainStatements) (p : Machine.Place (parts_machine leaves ss)) (l : Lowering) → In (parts_run leaves ss p) r → Occurs (parts_after part ss l)
      parts_occur no_statements p l i = absurd i
      parts_occur (a_statement s ss) (First p) l i = all_stay ss (after part s l) (statement_occurs s p l i)
      parts_occur (a_statement s ss) (Second p) l i = parts_occur ss p (after part s l) i

      arms_occur : (ss : PlainStatements) (p : Machine.Place (arms_machine leaves ss)) (l : Lowering) → In (arms_run leaves ss p) r → Occurs (parts_after part ss l)
      arms_occur no_statements p l i = absurd i
      arms_occur (a_statement s ss) p l i =
          of_arms s ss l (λ q j. statement_occurs s q l j) (λ q j. arms_occur ss q (after part s l) j) p (in_either (at_control (running leaves s) (left_of p)) (at_control (arms_run leaves ss) (right_of p)) r i)

    -- SO ITS ASSIGNMENTS STAND in the net
    kind_stands : (k : GroupKind) → kind_drives true (Some k) ≡ true
    kind_stands kinds.Plain = refl
    kind_stands kinds.Comb = refl
    kind_stands (kinds.Timed n) = refl

    pub leaf_stands_in : (p : Machine.Place (machine_of leaves part.control)) → In (running leaves part.control p) r → g < length part.groups → owner_drives (lowered_component part) (Some g) ≡ true
    leaf_stands_in p i there =
        ap (λ b. kind_drives b (option_map (λ group. group.kind) (slice_get part.groups g))) (statement_occurs part.control p (unlowered part) i)
        ∙ ap (λ o. kind_drives true (option_map (λ group. group.kind) o)) (slice_get-get_or part.groups g no_group there) ∙ kind_stands (group_at part g).kind
