-- At a place of control each group that goes goes for one leaf or test, and drives no cell that another one reads: by the rule on races, for
-- every form. So what all leaves and tests owe of themselves gives what the machine of the statement sees.
use Rattle.std.proofs.Common.{◌≡◌, ◌⊎◌, inl, inr, ℕ, zero, suc, Bool, true, false, ◌==◌, if◌then◌else◌, List, [], ◌∷◌, ◌++◌, Option, Some, None, refl, sym, ap, ◌∙◌, subst}
use Rattle.std.proofs.lemmas.Bool.{eq-eqb, eqb-true}
use Rattle.cx_text.proofs.MemberLaws.{in_either, in_left, in_right}
use Rattle.cx_bits.specs.BitVector.{BitVector}
use Rattle.cx_text.specs.declared.places.Place.{Place}
use Rattle.cx_meaning.specs.declared.ports.PortRef.{PortRef}
use Rattle.cx_meaning.specs.declared.ports.PlacedPort.{PlacedPort}
use Rattle.cx_meaning.specs.Designs.{PlainForm, Empty, Enable, Seq, Par, If, While, Repeat, StaticSeq, StaticPar, StaticIf, StaticRepeat, Timed, PlainStatement, Placed, PlainStatements, no_statements, a_statement, list_of}
use Rattle.cx_meaning.specs.Instances.{Instance, part_of}
use Rattle.cx_text.specs.Members.{In}
use Rattle.cx_meaning.specs.Cycles.{Fault}
use Rattle.cx_meaning.specs.Control.{with_comb, groups_in, groups_of, groups_in_all, group_drives, drives}
use Rattle.cx_meaning.specs.Islands.{group_length}
use Rattle.cx_rules.specs.Wellformed.{IsForm, IsWith}
use Rattle.cx_rules.specs.Items.{Dynamic, test_in}
use Rattle.cx_rules.specs.StaticControl.{is_static}
use Rattle.cx_rules.specs.Footprints.{Reads, driven}
use Rattle.cx_lockstep.specs.Worlds.{Control, At, Done, Machine, faults}
use Rattle.cx_lockstep.specs.Machines.{First, Second, InPar, left_of, right_of, AtTest, InThen, InElse, AtHead, InBody, unclear, par_machine}
use Rattle.cx_lockstep.specs.Statements.{LeafMachines, machine_of, parts_machine, arms_machine}
use Rattle.cx_lockstep.specs.Lawful.{IsPart, of_seq, of_par, then_branch, else_branch, of_while, of_repeat, Apart, AreApart}
use Rattle.cx_lockstep.specs.Running.{Running, AGroup, AnIsland, at_control, par_runs, leaf_of, running, parts_run, arms_run}
use Rattle.cx_text.proofs.BoolLaws.{neither_first, neither_second}
use Rattle.cx_control.specs.Codings.{at_fine}
use Rattle.cx_control.specs.StatementCodings.{LeafCodings}
use Rattle.cx_control.specs.Spots.{Spot, Cell, Holds, Kept, spots_of, reads_spot}
use Rattle.cx_control.specs.Leaves.{Coded, leaf_machines}
use Rattle.cx_control.specs.InstanceRules.{Stands}
use Rattle.cx_control.specs.ControlRules.{ControlRules}
use Rattle.cx_control.proofs.StandLaws.{parts_stand, part_reads, are_apart}
use Rattle.cx_net.specs.NetMeaning.{truth_bit}
use Rattle.cx_static.specs.Islands.{PlainIsland}
use Rattle.cx_wiring_cycles.specs.Shown.{Going, told, comb_going, in_par, enable_going, going, parts_going, arms_going, enable_agrees, TestAgrees, StatementAgrees, PartsAgree, ArmsAgree}
use Rattle.cx_meaning.proofs.SightsLaws.{behind_comb}
use Rattle.cx_meaning.proofs.ControlLaws.{groups_drive_in}
use Rattle.cx_wiring_cycles.proofs.FormTurns.{told_append}

-- the group is among these
pub record IsGoing (g : ℕ) (xs : List Going) : Type 0 where
  pub one : Going
  pub is_in : In xs one
  pub named : one.group ≡ g

going_either : (g : ℕ) (xs ys : List Going) → IsGoing g (xs ++ ys) → IsGoing g xs ⊎ IsGoing g ys
going_either g xs ys k = elim (in_either xs ys k.one k.is_in) [ inl i ↦ inl (record { one = k.one; is_in = i; named = k.named }) | inr i ↦ inr (record { one = k.one; is_in = i; named = k.named }) ]

going_left : (g : ℕ) (xs ys : List Going) → IsGoing g xs → IsGoing g (xs ++ ys)
going_left g xs ys k = record { one = k.one; is_in = in_left xs ys k.one k.is_in; named = k.named }

going_right : (g : ℕ) (xs ys : List Going) → IsGoing g ys → IsGoing g (xs ++ ys)
going_right g xs ys k = record { one = k.one; is_in = in_right xs ys k.one k.is_in; named = k.named }

told_first : (g : ℕ) (one other : Option BitVector) (xs : List Going) → IsGoing g xs → told g one xs ≡ told g other xs
told_first g one other [] k = absurd k.is_in
told_first g one other (x ∷ xs) k = by (told_first g one other xs) k.one k.is_in k.named
  where
    by : (IsGoing g xs → told g one xs ≡ told g other xs) → (y : Going) → In (x ∷ xs) y → y.group ≡ g → told g one (x ∷ xs) ≡ told g other (x ∷ xs)
    by deeper y (inl e) f = let same : (x.group == g) ≡ true = eq-eqb x.group g (ap (λ (z : Going). z.group) e ∙ f) in
        ap (λ b. if b then Some (truth_bit x.goes) else told g one xs) same ∙ sym (ap (λ b. if b then Some (truth_bit x.goes) else told g other xs) same)
    by deeper y (inr j) f = ap (λ o. if x.group == g then Some (truth_bit x.goes) else o) (deeper (record { one = y; is_in = j; named = f }))

pub told_none : (g : ℕ) (later : Option BitVector) (xs : List Going) → (IsGoing g xs → ⊥) → told g later xs ≡ later
told_none g later [] none = refl
told_none g later (x ∷ xs) none = by (told_none g later xs (λ k. none (record { one = k.one; is_in = inr k.is_in; named = k.named }))) (x.group == g) refl
  where
    by : told g later xs ≡ later → (b : Bool) → (x.group == g) ≡ b → (if b then Some (truth_bit x.goes) else told g later xs) ≡ later
    by deeper true e = absurd (none (record { one = x; is_in = inl refl; named = eqb-true x.group g e }))
    by deeper false e = deeper

-- a group of some statements is one of one of them
group_among : (ss : PlainStatements) (g : ℕ) → In (groups_in_all ss) g → (t : PlainStatement) × In (list_of ss) t × In (groups_of t) g
group_among no_statements g i = absurd i
group_among (a_statement s ss) g i = by (in_either (groups_of s) (groups_in_all ss) g i) (group_among ss g)
  where
    by : In (groups_of s) g ⊎ In (groups_in_all ss) g → (In (groups_in_all ss) g → (t : PlainStatement) × In (list_of ss) t × In (groups_of t) g) → (t : PlainStatement) × In (list_of (a_statement s ss)) t × In (groups_of t) g
    by (inl k) later = (s, inl refl, k)
    by (inr k) later = let r = later k in (r.0, inr r.1, r.2)

module _ (i : Instance) (children : ℕ → Coded) (codings : LeafCodings (leaf_machines i children)) (control : ControlRules i) (islands : List PlainIsland) (hole : ℕ → Bool)
    (of_enable : (g : ℕ) → Machine.Place (LeafMachines.enable (leaf_machines i children) g) → List Going) (of_island : (form : PlainForm) → Machine.Place (LeafMachines.island (leaf_machines i children) form) → List Going)
    (names_enable : (g : ℕ) (p : Machine.Place (LeafMachines.enable (leaf_machines i children) g)) (x : Going) → In (of_enable g p) x → x.group ≡ g)
    (names_island : (form : PlainForm) (p : Machine.Place (LeafMachines.island (leaf_machines i children) form)) (x : Going) → In (of_island form p) x → In (groups_in form) x.group) where
  abbrev P : LeafMachines Spot Holds Fault
  P = leaf_machines i children

  abbrev goes_at : (t : PlainStatement) → Machine.Place (machine_of (leaf_machines i children) t) → List Going
  goes_at t p = going (leaf_machines i children) codings (part_of i) islands hole of_enable of_island t p

  abbrev parts_go : (ss : PlainStatements) → Machine.Place (parts_machine (leaf_machines i children) ss) → List Going
  parts_go ss p = parts_going (leaf_machines i children) codings (part_of i) islands hole of_enable of_island ss p

  abbrev arms_go : (ss : PlainStatements) → Machine.Place (arms_machine (leaf_machines i children) ss) → List Going
  arms_go ss p = arms_going (leaf_machines i children) codings (part_of i) islands hole of_enable of_island ss p

  -- WHAT GOES IN A STATEMENT is of the statement
  comb_named : (comb : Option ℕ) (gs : List ℕ) (x : Going) → In (comb_going comb) x → In (with_comb comb gs) x.group
  comb_named None gs x k = absurd k
  comb_named (Some g) gs x (inl e) = inl (ap (λ (y : Going). y.group) e)
  comb_named (Some g) gs x (inr k) = absurd k

  pub enable_named : (g : ℕ) (o : Option ℕ) (p : Machine.Place (LeafMachines.enable (leaf_machines i children) g)) (x : Going) → In (enable_going (leaf_machines i children) codings (part_of i) islands hole of_enable of_island g o p) x → In (g ∷ []) x.group
  enable_named g None p x (inl e) = inl (ap (λ (y : Going). y.group) e)
  enable_named g None p x (inr k) = absurd k
  enable_named g (Some cycles) p x k = inl (sym (names_enable g p x k))

  at_named : {C : Type 0} (f : C → List Going) (gs : List ℕ) → ((c : C) (x : Going) → In (f c) x → In gs x.group) → (k : Control C) (x : Going) → In (at_control f k) x → In gs x.group
  at_named f gs each (At c) x j = each c x j
  at_named f gs each Done x j = absurd j

  par_named : {A B : Type 0} (f : A → List Going) (h : B → List Going) (s : PlainStatement) (ss : PlainStatements) → ((c : A) (x : Going) → In (f c) x → In (groups_of s) x.group) → ((c : B) (x : Going) → In (h c) x → In (groups_in_all ss) x.group)
      → (p : InPar A B) (x : Going) → In (par_runs f h p) x → In (groups_of s ++ groups_in_all ss) x.group
  par_named f h s ss left right p x k =
      elim (in_either (at_control f (left_of p)) (at_control h (right_of p)) x k) [
        | inl j ↦ in_left (groups_of s) (groups_in_all ss) x.group (at_named f (groups_of s) left (left_of p) x j)
        | inr j ↦ in_right (groups_of s) (groups_in_all ss) x.group (at_named h (groups_in_all ss) right (right_of p) x j)
      ]

  mutual
    going_named : (t : PlainStatement) (p : Machine.Place (machine_of (leaf_machines i children) t)) (x : Going) → In (goes_at t p) x → In (groups_of t) x.group
    going_named (Placed Empty place) p x k = absurd k
    going_named (Placed (Enable g) place) p x k = enable_named g (group_length (part_of i) g) p x k
    going_named (Placed (Seq no_statements) place) p x k = absurd k
    going_named (Placed (Seq (a_statement s ss)) place) (First p) x k = in_left (groups_of s) (groups_in_all ss) x.group (going_named s p x k)
    going_named (Placed (Seq (a_statement s ss)) place) (Second p) x k = in_right (groups_of s) (groups_in_all ss) x.group (parts_named ss p x k)
    going_named (Placed (Par no_statements) place) p x k = absurd k
    going_named (Placed (Par (a_statement s ss)) place) p x k = par_named (goes_at s) (arms_go ss) s ss (going_named s) (arms_named ss) p x k
    going_named (Placed (If test comb a b) place) AtTest x k = comb_named comb (groups_of a ++ groups_of b) x k
    going_named (Placed (If test comb a b) place) (InThen p) x k = behind_comb comb (groups_of a ++ groups_of b) x.group (in_left (groups_of a) (groups_of b) x.group (going_named a p x k))
    going_named (Placed (If test comb a b) place) (InElse p) x k = behind_comb comb (groups_of a ++ groups_of b) x.group (in_right (groups_of a) (groups_of b) x.group (going_named b p x k))
    going_named (Placed (While test comb a) place) AtHead x k = comb_named comb (groups_of a) x k
    going_named (Placed (While test comb a) place) (InBody p) x k = behind_comb comb (groups_of a) x.group (going_named a p x k)
    going_named (Placed (Repeat zero a) place) p x k = absurd k
    going_named (Placed (Repeat (suc n) a) place) p x k = going_named a p.place x k
    going_named (Placed (StaticSeq written parts) place) p x k = names_island (StaticSeq written parts) p x k
    going_named (Placed (StaticPar written arms) place) p x k = names_island (StaticPar written arms) p x k
    going_named (Placed (StaticIf written test a b) place) p x k = names_island (StaticIf written test a b) p x k
    going_named (Placed (StaticRepeat written count a) place) p x k = names_island (StaticRepeat written count a) p x k
    going_named (Placed (Timed n) place) p x k = absurd k

    parts_named : (ss : PlainStatements) (p : Machine.Place (parts_machine (leaf_machines i children) ss)) (x : Going) → In (parts_go ss p) x → In (groups_in_all ss) x.group
    parts_named no_statements p x k = absurd k
    parts_named (a_statement s ss) (First p) x k = in_left (groups_of s) (groups_in_all ss) x.group (going_named s p x k)
    parts_named (a_statement s ss) (Second p) x k = in_right (groups_of s) (groups_in_all ss) x.group (parts_named ss p x k)

    arms_named : (ss : PlainStatements) (p : Machine.Place (arms_machine (leaf_machines i children) ss)) (x : Going) → In (arms_go ss p) x → In (groups_in_all ss) x.group
    arms_named no_statements p x k = absurd k
    arms_named (a_statement s ss) p x k = par_named (goes_at s) (arms_go ss) s ss (going_named s) (arms_named ss) p x k

  -- SOME GROUPS ACT, as those that go
  module _ (acts : ℕ → Type 0) (says : ℕ → Option BitVector) where
    -- a group drives no cell that the statement reads
    abbrev pub DrivesNone : ℕ → PlainStatement → Type 0
    DrivesNone g t = (c : ℕ) → Reads (part_of i) t c → group_drives (part_of i) g c ≡ true → ⊥

    -- each group that acts is one of these, or drives no cell that the statement reads; and the go of one of these that drives a cell is
    -- what is told of it first
    pub record GoesFor (t : PlainStatement) (xs : List Going) : Type 0 where
      pub inside : (g : ℕ) → IsGoing g xs → acts g
      pub actors : (g : ℕ) → acts g → IsGoing g xs ⊎ DrivesNone g t
      pub told_so : (g c : ℕ) → group_drives (part_of i) g c ≡ true → IsGoing g xs → says g ≡ told g (Some (truth_bit false)) xs

    record GoesForAll (ss : PlainStatements) (xs : List Going) : Type 0 where
      inside : (g : ℕ) → IsGoing g xs → acts g
      actors : (g : ℕ) → acts g → IsGoing g xs ⊎ ((t : PlainStatement) → In (list_of ss) t → DrivesNone g t)
      told_so : (g c : ℕ) → group_drives (part_of i) g c ≡ true → IsGoing g xs → says g ≡ told g (Some (truth_bit false)) xs

    narrower : (t whole : PlainStatement) → IsPart t whole → (xs : List Going) → GoesFor whole xs → GoesFor t xs
    narrower t whole is xs goes = record {
      inside = goes.inside;
      actors = λ g e. elim (goes.actors g e) [ inl k ↦ inl k | inr none ↦ inr (λ c r. none c (part_reads (part_of i) t whole is r)) ];
      told_so = goes.told_so;
    }

    all_narrower : (ss : PlainStatements) (whole : PlainStatement) → ((t : PlainStatement) → In (list_of ss) t → IsPart t whole) → (xs : List Going) → GoesFor whole xs → GoesForAll ss xs
    all_narrower ss whole is xs goes = record {
      inside = goes.inside;
      actors = λ g e. elim (goes.actors g e) [ inl k ↦ inl k | inr none ↦ inr (λ t j c r. none c (part_reads (part_of i) t whole (is t j) r)) ];
      told_so = goes.told_so;
    }

    first_of : (s : PlainStatement) (ss : PlainStatements) (xs : List Going) → GoesForAll (a_statement s ss) xs → GoesFor s xs
    first_of s ss xs goes = record { inside = goes.inside; actors = λ g e. elim (goes.actors g e) [ inl k ↦ inl k | inr none ↦ inr (none s (inl refl)) ]; told_so = goes.told_so }

    rest_of : (s : PlainStatement) (ss : PlainStatements) (xs : List Going) → GoesForAll (a_statement s ss) xs → GoesForAll ss xs
    rest_of s ss xs goes = record { inside = goes.inside; actors = λ g e. elim (goes.actors g e) [ inl k ↦ inl k | inr none ↦ inr (λ t j. none t (inr j)) ]; told_so = goes.told_so }

    -- ARMS
    abbrev Drives : PlainStatement → Spot → Bool
    Drives s = spots_of (drives (part_of i) s)

    abbrev ReadsAt : PlainStatement → Spot → Type 0
    ReadsAt s = reads_spot (Reads (part_of i) s)

    -- a group of one of some arms that drives a cell of another is not
    shared : (ss : PlainStatements) (ys : List Going) (g c : ℕ) → ((x : Going) → In ys x → In (groups_in_all ss) x.group) → IsGoing g ys → group_drives (part_of i) g c ≡ true → (t : PlainStatement) × In (list_of ss) t × (drives (part_of i) t c ≡ true)
    shared ss ys g c of_rest k drives_it =
        let t = group_among ss g (subst (In (groups_in_all ss)) k.named (of_rest k.one k.is_in)) in
        (t.0, t.1, groups_drive_in (part_of i) (groups_of t.0) g c t.2 drives_it)

    left_arm : (s : PlainStatement) (ss : PlainStatements) (xs ys : List Going) → ((t : PlainStatement) → In (list_of ss) t → Apart Drives ReadsAt s t) → ((x : Going) → In ys x → In (groups_in_all ss) x.group)
        → GoesForAll (a_statement s ss) (xs ++ ys) → GoesFor s xs
    left_arm s ss xs ys apart of_rest goes = record {
      inside = λ g k. goes.inside g (going_left g xs ys k);
      actors = λ g e. by g (goes.actors g e);
      told_so = λ g c drives_it k. goes.told_so g c drives_it (going_left g xs ys k) ∙ told_append g (Some (truth_bit false)) xs ys ∙ told_first g (told g (Some (truth_bit false)) ys) (Some (truth_bit false)) xs k;
    }
      where
        of_other : (g : ℕ) → IsGoing g ys → DrivesNone g s
        of_other g k c r drives_it = let t = shared ss ys g c of_rest k drives_it in (apart t.0 t.1).second (Cell (c ∷ [])) t.2 r

        by : (g : ℕ) → IsGoing g (xs ++ ys) ⊎ ((t : PlainStatement) → In (s ∷ list_of ss) t → DrivesNone g t) → IsGoing g xs ⊎ DrivesNone g s
        by g (inl k) = elim (going_either g xs ys k) [ inl j ↦ inl j | inr j ↦ inr (of_other g j) ]
        by g (inr none) = inr (none s (inl refl))

    right_arms : (s : PlainStatement) (ss : PlainStatements) (xs ys : List Going) → ((t : PlainStatement) → In (list_of ss) t → Apart Drives ReadsAt s t) → ((x : Going) → In xs x → In (groups_of s) x.group)
        → ((x : Going) → In ys x → In (groups_in_all ss) x.group) → GoesForAll (a_statement s ss) (xs ++ ys) → GoesForAll ss ys
    right_arms s ss xs ys apart of_first of_rest goes = record {
      inside = λ g k. goes.inside g (going_right g xs ys k);
      actors = λ g e. by g (goes.actors g e);
      told_so = λ g c drives_it k. goes.told_so g c drives_it (going_right g xs ys k) ∙ told_append g (Some (truth_bit false)) xs ys ∙ told_none g (told g (Some (truth_bit false)) ys) xs (not_both g c drives_it k);
    }
      where
        its_own : (g c : ℕ) → IsGoing g xs → group_drives (part_of i) g c ≡ true → drives (part_of i) s c ≡ true
        its_own g c k drives_it = groups_drive_in (part_of i) (groups_of s) g c (subst (In (groups_of s)) k.named (of_first k.one k.is_in)) drives_it

        of_other : (g : ℕ) → IsGoing g xs → (t : PlainStatement) → In (list_of ss) t → DrivesNone g t
        of_other g k t j c r drives_it = (apart t j).first (Cell (c ∷ [])) (its_own g c k drives_it) r

        not_both : (g c : ℕ) → group_drives (part_of i) g c ≡ true → IsGoing g ys → IsGoing g xs → ⊥
        not_both g c drives_it k j = let t = shared ss ys g c of_rest k drives_it in of_other g j t.0 t.1 c (driven t.2) drives_it

        by : (g : ℕ) → IsGoing g (xs ++ ys) ⊎ ((t : PlainStatement) → In (s ∷ list_of ss) t → DrivesNone g t) → IsGoing g ys ⊎ ((t : PlainStatement) → In (list_of ss) t → DrivesNone g t)
        by g (inl k) = elim (going_either g xs ys k) [ inl j ↦ inr (of_other g j) | inr j ↦ inl j ]
        by g (inr none) = inr (λ t j. none t (inr j))

    at_left : (s : PlainStatement) (k : Control (Machine.Place (machine_of (leaf_machines i children) s))) (x : Going) → In (at_control (goes_at s) k) x → In (groups_of s) x.group
    at_left s k x j = at_named (goes_at s) (groups_of s) (going_named s) k x j

    at_right : (ss : PlainStatements) (k : Control (Machine.Place (arms_machine (leaf_machines i children) ss))) (x : Going) → In (at_control (arms_go ss) k) x → In (groups_in_all ss) x.group
    at_right ss k x j = at_named (arms_go ss) (groups_in_all ss) (arms_named ss) k x j

    arms_apart : (arms : PlainStatements) (place : Place) → Stands i (Placed (Par arms) place) → AreApart Drives ReadsAt (list_of arms)
    arms_apart arms place stands = are_apart (part_of i) (list_of arms) (λ c shared. control.unshared (record { context = Dynamic; form = Par arms; place = place }) stands c shared)

    -- WHAT THE MACHINE SEES, where each leaf and each test owes its own
    module _ (seen : Kept) (port : PortRef → Bool) (Runs : Running (leaf_machines i children) → Type 0)
        (enable_owes : (g : ℕ) (place : Place) → Stands i (Placed (Enable g) place) → (p : Machine.Place (LeafMachines.enable (leaf_machines i children) g)) → Runs (AGroup g place p)
        → GoesFor (Placed (Enable g) place) (enable_going (leaf_machines i children) codings (part_of i) islands hole of_enable of_island g (group_length (part_of i) g) p) → Machine.faults (LeafMachines.enable (leaf_machines i children) g) p seen ≡ false
        → (o : Option ℕ) → group_length (part_of i) g ≡ o → enable_agrees (leaf_machines i children) codings (part_of i) islands seen hole port g o p)
        (test_owes : (form : PlainForm) (place : Place) (test : PlacedPort) (comb : Option ℕ) → Stands i (Placed form place) → test_in form ≡ Some test → ((g : ℕ) → comb ≡ Some g → In (groups_in form) g) → (IsForm (part_of i) form → IsWith (part_of i) comb)
        → GoesFor (Placed form place) (comb_going comb) → unclear (LeafMachines.test (leaf_machines i children) test.port comb seen) ≡ false
        → TestAgrees (leaf_machines i children) codings (part_of i) islands seen hole port test.port comb) where
      abbrev Agrees : (t : PlainStatement) → Machine.Place (machine_of (leaf_machines i children) t) → Type 0
      Agrees t p = StatementAgrees (leaf_machines i children) codings (part_of i) islands seen hole port t p

      of_comb : (comb : Option ℕ) (gs : List ℕ) (g : ℕ) → comb ≡ Some g → In (with_comb comb gs) g
      of_comb comb gs g e = subst (λ o. In (with_comb o gs) g) (sym e) (inl refl)

      abbrev AllRun : List (Running (leaf_machines i children)) → Type 0
      AllRun rs = (r : Running (leaf_machines i children)) → In rs r → Runs r

      at_agrees : (t : PlainStatement)
          → ((p : Machine.Place (machine_of (leaf_machines i children) t)) → AllRun (running (leaf_machines i children) t p) → GoesFor t (goes_at t p) → Machine.faults (machine_of (leaf_machines i children) t) p seen ≡ false → Agrees t p)
          → (k : Control (Machine.Place (machine_of (leaf_machines i children) t))) → AllRun (at_control (running (leaf_machines i children) t) k) → GoesFor t (at_control (goes_at t) k)
          → faults (machine_of (leaf_machines i children) t) k seen ≡ false → at_fine (Agrees t) k
      at_agrees t each (At p) run goes clean = each p run goes clean
      at_agrees t each Done run goes clean = tt

      rest_agree : (ss : PlainStatements) → ((p : Machine.Place (arms_machine (leaf_machines i children) ss)) → AllRun (arms_run (leaf_machines i children) ss p) → GoesForAll ss (arms_go ss p) → Machine.faults (arms_machine (leaf_machines i children) ss) p seen ≡ false
          → ArmsAgree (leaf_machines i children) codings (part_of i) islands seen hole port ss p)
          → (k : Control (Machine.Place (arms_machine (leaf_machines i children) ss))) → AllRun (at_control (arms_run (leaf_machines i children) ss) k) → GoesForAll ss (at_control (arms_go ss) k) → faults (arms_machine (leaf_machines i children) ss) k seen ≡ false
          → at_fine (ArmsAgree (leaf_machines i children) codings (part_of i) islands seen hole port ss) k
      rest_agree ss each (At p) run goes clean = each p run goes clean
      rest_agree ss each Done run goes clean = tt

      -- of two arms, from each of them
      par_agree : (s : PlainStatement) (ss : PlainStatements)
          → ((p : Machine.Place (machine_of (leaf_machines i children) s)) → AllRun (running (leaf_machines i children) s p) → GoesFor s (goes_at s p) → Machine.faults (machine_of (leaf_machines i children) s) p seen ≡ false → Agrees s p)
          → ((p : Machine.Place (arms_machine (leaf_machines i children) ss)) → AllRun (arms_run (leaf_machines i children) ss p) → GoesForAll ss (arms_go ss p) → Machine.faults (arms_machine (leaf_machines i children) ss) p seen ≡ false
          → ArmsAgree (leaf_machines i children) codings (part_of i) islands seen hole port ss p)
          → AreApart Drives ReadsAt (s ∷ list_of ss)
          → (p : InPar (Machine.Place (machine_of (leaf_machines i children) s)) (Machine.Place (arms_machine (leaf_machines i children) ss)))
          → AllRun (par_runs (running (leaf_machines i children) s) (arms_run (leaf_machines i children) ss) p) → GoesForAll (a_statement s ss) (par_runs (goes_at s) (arms_go ss) p)
          → Machine.faults (par_machine (machine_of (leaf_machines i children) s) (arms_machine (leaf_machines i children) ss)) p seen ≡ false
          → in_par (Agrees s) (ArmsAgree (leaf_machines i children) codings (part_of i) islands seen hole port ss) p
      par_agree s ss first later apart p run goes clean = (
        at_agrees s first (left_of p) (λ r j. run r (in_left (at_control (running (leaf_machines i children) s) (left_of p)) (at_control (arms_run (leaf_machines i children) ss) (right_of p)) r j))
            (left_arm s ss (at_control (goes_at s) (left_of p)) (at_control (arms_go ss) (right_of p)) apart.0 (at_right ss (right_of p)) goes)
            (neither_first (faults (machine_of (leaf_machines i children) s) (left_of p) seen) (faults (arms_machine (leaf_machines i children) ss) (right_of p) seen) clean),
        rest_agree ss later (right_of p) (λ r j. run r (in_right (at_control (running (leaf_machines i children) s) (left_of p)) (at_control (arms_run (leaf_machines i children) ss) (right_of p)) r j))
            (right_arms s ss (at_control (goes_at s) (left_of p)) (at_control (arms_go ss) (right_of p)) apart.0 (at_left s (left_of p)) (at_right ss (right_of p)) goes)
            (neither_second (faults (machine_of (leaf_machines i children) s) (left_of p) seen) (faults (arms_machine (leaf_machines i children) ss) (right_of p) seen) clean),
      )

      mutual
        pub agrees : (t : PlainStatement) → Stands i t → (p : Machine.Place (machine_of (leaf_machines i children) t)) → AllRun (running (leaf_machines i children) t p) → GoesFor t (goes_at t p) → Machine.faults (machine_of (leaf_machines i children) t) p seen ≡ false → Agrees t p
        agrees (Placed Empty place) stands p run goes clean = tt
        agrees (Placed (Enable g) place) stands p run goes clean = enable_owes g place stands p (run (AGroup g place p) (inl refl)) goes clean (group_length (part_of i) g) refl
        agrees (Placed (Seq no_statements) place) stands p run goes clean = tt
        agrees (Placed (Seq (a_statement s ss)) place) stands (First p) run goes clean =
            agrees s (parts_stand i s (Placed (Seq (a_statement s ss)) place) (of_seq (inl refl)) stands) p run (narrower s (Placed (Seq (a_statement s ss)) place) (of_seq (inl refl)) (goes_at s p) goes) clean
        agrees (Placed (Seq (a_statement s ss)) place) stands (Second p) run goes clean =
            parts_agree ss (λ t j. parts_stand i t (Placed (Seq (a_statement s ss)) place) (of_seq (inr j)) stands) p run (all_narrower ss (Placed (Seq (a_statement s ss)) place) (λ t j. of_seq (inr j)) (parts_go ss p) goes) clean
        agrees (Placed (Par no_statements) place) stands p run goes clean = tt
        agrees (Placed (Par (a_statement s ss)) place) stands p run goes clean =
            par_agree s ss (agrees s (parts_stand i s (Placed (Par (a_statement s ss)) place) (of_par (inl refl)) stands))
            (arms_agree ss (λ t j. parts_stand i t (Placed (Par (a_statement s ss)) place) (of_par (inr j)) stands) (arms_apart (a_statement s ss) place stands).1) (arms_apart (a_statement s ss) place stands) p run
            (all_narrower (a_statement s ss) (Placed (Par (a_statement s ss)) place) (λ t j. of_par j) (par_runs (goes_at s) (arms_go ss) p) goes) clean
        agrees (Placed (If test comb a b) place) stands AtTest run goes clean = test_owes (If test comb a b) place test comb stands refl (of_comb comb (groups_of a ++ groups_of b)) (λ h. h) goes clean
        agrees (Placed (If test comb a b) place) stands (InThen p) run goes clean =
            agrees a (parts_stand i a (Placed (If test comb a b) place) then_branch stands) p run (narrower a (Placed (If test comb a b) place) then_branch (goes_at a p) goes) clean
        agrees (Placed (If test comb a b) place) stands (InElse p) run goes clean =
            agrees b (parts_stand i b (Placed (If test comb a b) place) else_branch stands) p run (narrower b (Placed (If test comb a b) place) else_branch (goes_at b p) goes) clean
        agrees (Placed (While test comb a) place) stands AtHead run goes clean = test_owes (While test comb a) place test comb stands refl (of_comb comb (groups_of a)) (λ h. h) goes clean
        agrees (Placed (While test comb a) place) stands (InBody p) run goes clean =
            agrees a (parts_stand i a (Placed (While test comb a) place) of_while stands) p run (narrower a (Placed (While test comb a) place) of_while (goes_at a p) goes) clean
        agrees (Placed (Repeat zero a) place) stands p run goes clean = tt
        agrees (Placed (Repeat (suc n) a) place) stands p run goes clean =
            agrees a (parts_stand i a (Placed (Repeat (suc n) a) place) of_repeat stands) p.place run (narrower a (Placed (Repeat (suc n) a) place) of_repeat (goes_at a p.place) goes) clean
        agrees (Placed (StaticSeq written parts) place) stands p run goes clean = tt
        agrees (Placed (StaticPar written arms) place) stands p run goes clean = tt
        agrees (Placed (StaticIf written test a b) place) stands p run goes clean = tt
        agrees (Placed (StaticRepeat written count a) place) stands p run goes clean = tt
        agrees (Placed (Timed n) place) stands p run goes clean = tt

        parts_agree : (ss : PlainStatements) → ((t : PlainStatement) → In (list_of ss) t → Stands i t) → (p : Machine.Place (parts_machine (leaf_machines i children) ss)) → AllRun (parts_run (leaf_machines i children) ss p) → GoesForAll ss (parts_go ss p)
            → Machine.faults (parts_machine (leaf_machines i children) ss) p seen ≡ false → PartsAgree (leaf_machines i children) codings (part_of i) islands seen hole port ss p
        parts_agree no_statements stand p run goes clean = tt
        parts_agree (a_statement s ss) stand (First p) run goes clean = agrees s (stand s (inl refl)) p run (first_of s ss (goes_at s p) goes) clean
        parts_agree (a_statement s ss) stand (Second p) run goes clean = parts_agree ss (λ t j. stand t (inr j)) p run (rest_of s ss (parts_go ss p) goes) clean

        arms_agree : (ss : PlainStatements) → ((t : PlainStatement) → In (list_of ss) t → Stands i t) → AreApart Drives ReadsAt (list_of ss) → (p : Machine.Place (arms_machine (leaf_machines i children) ss)) → AllRun (arms_run (leaf_machines i children) ss p) → GoesForAll ss (arms_go ss p)
            → Machine.faults (arms_machine (leaf_machines i children) ss) p seen ≡ false → ArmsAgree (leaf_machines i children) codings (part_of i) islands seen hole port ss p
        arms_agree no_statements stand apart p run goes clean = tt
        arms_agree (a_statement s ss) stand apart p run goes clean = par_agree s ss (agrees s (stand s (inl refl))) (arms_agree ss (λ t j. stand t (inr j)) apart.1) apart p run goes clean

    -- OF EACH LEAF THAT RUNS: what goes is its own, or drives no cell that it reads
    abbrev pub leaf_goes : Running (leaf_machines i children) → List Going
    leaf_goes (AGroup g place stand) = enable_going (leaf_machines i children) codings (part_of i) islands hole of_enable of_island g (group_length (part_of i) g) stand
    leaf_goes (AnIsland form place stand) = of_island form stand

    abbrev LeafIsStatic : Running (leaf_machines i children) → Type 0
    LeafIsStatic (AGroup g place stand) = Unit {0}
    LeafIsStatic (AnIsland form place stand) = is_static form ≡ true

    pub record LeafStands (r : Running (leaf_machines i children)) : Type 0 where
      pub static : LeafIsStatic r
      pub stands : Stands i (leaf_of (leaf_machines i children) r)
      pub goes_for : GoesFor (leaf_of (leaf_machines i children) r) (leaf_goes r)

    of_leaf : (q r : Running (leaf_machines i children)) → q ≡ r → LeafStands q → LeafStands r
    of_leaf q r e h = subst LeafStands e h

    at_leaves : {C : Type 0} (f : C → List (Running (leaf_machines i children))) (Goes : List Going → Type 0) (h : C → List Going) (r : Running (leaf_machines i children)) → ((c : C) → Goes (h c) → In (f c) r → LeafStands r)
        → (k : Control C) → Goes (at_control h k) → In (at_control f k) r → LeafStands r
    at_leaves f Goes h r each (At c) goes j = each c goes j
    at_leaves f Goes h r each Done goes j = absurd j

    module _ (r : Running (leaf_machines i children)) where
      par_leaf : (s : PlainStatement) (ss : PlainStatements)
          → ((p : Machine.Place (machine_of (leaf_machines i children) s)) → GoesFor s (goes_at s p) → In (running (leaf_machines i children) s p) r → LeafStands r)
          → ((p : Machine.Place (arms_machine (leaf_machines i children) ss)) → GoesForAll ss (arms_go ss p) → In (arms_run (leaf_machines i children) ss p) r → LeafStands r)
          → AreApart Drives ReadsAt (s ∷ list_of ss)
          → (p : InPar (Machine.Place (machine_of (leaf_machines i children) s)) (Machine.Place (arms_machine (leaf_machines i children) ss))) → GoesForAll (a_statement s ss) (par_runs (goes_at s) (arms_go ss) p)
          → In (par_runs (running (leaf_machines i children) s) (arms_run (leaf_machines i children) ss) p) r → LeafStands r
      par_leaf s ss first later apart p goes j =
          elim (in_either (at_control (running (leaf_machines i children) s) (left_of p)) (at_control (arms_run (leaf_machines i children) ss) (right_of p)) r j) [
            | inl k ↦ at_leaves (running (leaf_machines i children) s) (GoesFor s) (goes_at s) r first (left_of p)
                (left_arm s ss (at_control (goes_at s) (left_of p)) (at_control (arms_go ss) (right_of p)) apart.0 (at_right ss (right_of p)) goes) k
            | inr k ↦ at_leaves (arms_run (leaf_machines i children) ss) (GoesForAll ss) (arms_go ss) r later (right_of p)
                (right_arms s ss (at_control (goes_at s) (left_of p)) (at_control (arms_go ss) (right_of p)) apart.0 (at_left s (left_of p)) (at_right ss (right_of p)) goes) k
          ]

      mutual
        pub leaf_stands : (t : PlainStatement) → Stands i t → (p : Machine.Place (machine_of (leaf_machines i children) t)) → GoesFor t (goes_at t p) → In (running (leaf_machines i children) t p) r → LeafStands r
        leaf_stands (Placed Empty place) stands p goes j = absurd j
        leaf_stands (Placed (Enable g) place) stands p goes (inl e) = of_leaf (AGroup g place p) r e (record { static = tt; stands = stands; goes_for = goes })
        leaf_stands (Placed (Enable g) place) stands p goes (inr j) = absurd j
        leaf_stands (Placed (Seq no_statements) place) stands p goes j = absurd j
        leaf_stands (Placed (Seq (a_statement s ss)) place) stands (First p) goes j =
            leaf_stands s (parts_stand i s (Placed (Seq (a_statement s ss)) place) (of_seq (inl refl)) stands) p (narrower s (Placed (Seq (a_statement s ss)) place) (of_seq (inl refl)) (goes_at s p) goes) j
        leaf_stands (Placed (Seq (a_statement s ss)) place) stands (Second p) goes j =
            parts_leaf ss (λ t k. parts_stand i t (Placed (Seq (a_statement s ss)) place) (of_seq (inr k)) stands) p (all_narrower ss (Placed (Seq (a_statement s ss)) place) (λ t k. of_seq (inr k)) (parts_go ss p) goes) j
        leaf_stands (Placed (Par no_statements) place) stands p goes j = absurd j
        leaf_stands (Placed (Par (a_statement s ss)) place) stands p goes j =
            par_leaf s ss (leaf_stands s (parts_stand i s (Placed (Par (a_statement s ss)) place) (of_par (inl refl)) stands))
            (arms_leaf ss (λ t k. parts_stand i t (Placed (Par (a_statement s ss)) place) (of_par (inr k)) stands) (arms_apart (a_statement s ss) place stands).1) (arms_apart (a_statement s ss) place stands) p
            (all_narrower (a_statement s ss) (Placed (Par (a_statement s ss)) place) (λ t k. of_par k) (par_runs (goes_at s) (arms_go ss) p) goes) j
        leaf_stands (Placed (If test comb a b) place) stands AtTest goes j = absurd j
        leaf_stands (Placed (If test comb a b) place) stands (InThen p) goes j =
            leaf_stands a (parts_stand i a (Placed (If test comb a b) place) then_branch stands) p (narrower a (Placed (If test comb a b) place) then_branch (goes_at a p) goes) j
        leaf_stands (Placed (If test comb a b) place) stands (InElse p) goes j =
            leaf_stands b (parts_stand i b (Placed (If test comb a b) place) else_branch stands) p (narrower b (Placed (If test comb a b) place) else_branch (goes_at b p) goes) j
        leaf_stands (Placed (While test comb a) place) stands AtHead goes j = absurd j
        leaf_stands (Placed (While test comb a) place) stands (InBody p) goes j =
            leaf_stands a (parts_stand i a (Placed (While test comb a) place) of_while stands) p (narrower a (Placed (While test comb a) place) of_while (goes_at a p) goes) j
        leaf_stands (Placed (Repeat zero a) place) stands p goes j = absurd j
        leaf_stands (Placed (Repeat (suc n) a) place) stands p goes j =
            leaf_stands a (parts_stand i a (Placed (Repeat (suc n) a) place) of_repeat stands) p.place (narrower a (Placed (Repeat (suc n) a) place) of_repeat (goes_at a p.place) goes) j
        leaf_stands (Placed (StaticSeq written parts) place) stands p goes (inl e) = of_leaf (AnIsland (StaticSeq written parts) place p) r e (record { static = refl; stands = stands; goes_for = goes })
        leaf_stands (Placed (StaticSeq written parts) place) stands p goes (inr j) = absurd j
        leaf_stands (Placed (StaticPar written arms) place) stands p goes (inl e) = of_leaf (AnIsland (StaticPar written arms) place p) r e (record { static = refl; stands = stands; goes_for = goes })
        leaf_stands (Placed (StaticPar written arms) place) stands p goes (inr j) = absurd j
        leaf_stands (Placed (StaticIf written test a b) place) stands p goes (inl e) = of_leaf (AnIsland (StaticIf written test a b) place p) r e (record { static = refl; stands = stands; goes_for = goes })
        leaf_stands (Placed (StaticIf written test a b) place) stands p goes (inr j) = absurd j
        leaf_stands (Placed (StaticRepeat written count a) place) stands p goes (inl e) = of_leaf (AnIsland (StaticRepeat written count a) place p) r e (record { static = refl; stands = stands; goes_for = goes })
        leaf_stands (Placed (StaticRepeat written count a) place) stands p goes (inr j) = absurd j
        leaf_stands (Placed (Timed n) place) stands p goes j = absurd j

        parts_leaf : (ss : PlainStatements) → ((t : PlainStatement) → In (list_of ss) t → Stands i t) → (p : Machine.Place (parts_machine (leaf_machines i children) ss)) → GoesForAll ss (parts_go ss p) → In (parts_run (leaf_machines i children) ss p) r → LeafStands r
        parts_leaf no_statements stand p goes j = absurd j
        parts_leaf (a_statement s ss) stand (First p) goes j = leaf_stands s (stand s (inl refl)) p (first_of s ss (goes_at s p) goes) j
        parts_leaf (a_statement s ss) stand (Second p) goes j = parts_leaf ss (λ t k. stand t (inr k)) p (rest_of s ss (parts_go ss p) goes) j

        arms_leaf : (ss : PlainStatements) → ((t : PlainStatement) → In (list_of ss) t → Stands i t) → AreApart Drives ReadsAt (list_of ss) → (p : Machine.Place (arms_machine (leaf_machines i children) ss)) → GoesForAll ss (arms_go ss p)
            → In (arms_run (leaf_machines i children) ss p) r → LeafStands r
        arms_leaf no_statements stand apart p goes j = absurd j
        arms_leaf (a_statement s ss) stand apart p goes j = par_leaf s ss (leaf_stands s (stand s (inl refl))) (arms_leaf ss (λ t k. stand t (inr k)) apart.1) apart p goes j
