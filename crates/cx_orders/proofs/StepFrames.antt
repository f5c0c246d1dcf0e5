-- A turn of a leaf changes only cells that its statement drives, and hangs on what the statement reads alone.
use Rattle.std.proofs.Common.{◌≡◌, ℕ, zero, suc, ◌-◌, inl, inr, Bool, true, false, ◌||◌, if◌then◌else◌, List, [], ◌∷◌, Option, Some, None, length, refl, sym, ap, ◌∙◌, subst}
use Rattle.std.specs.Prelude.{nat_lt}
use Rattle.std.proofs.Math.Path.{fun_ext}
use Rattle.std.proofs.lemmas.Bool.{both_ways, or_right, or_left}
use Rattle.cx_text.specs.Members.{In}
use Rattle.cx_meaning.specs.declared.ports.PortRef.{PortRef}
use Rattle.cx_meaning.specs.declared.ports.PortRef.TheVariants as ports
use Rattle.cx_meaning.specs.declared.sights.Seen.{Seen}
use Rattle.cx_meaning.specs.Designs.{PlainComponent, PlainForm, PlainStatement}
use Rattle.cx_meaning.specs.Instances.{Instance, part_of, Path, State, Set, instance_at, just, beneath, put, under, idle}
use Rattle.cx_meaning.specs.Sights.{Held}
use Rattle.cx_meaning.specs.Cycles.{Fault}
use Rattle.cx_meaning.specs.Answers.{Turn, Ends, Goes, Faults, Test, Holds, Fails, Unclear}
use Rattle.cx_meaning.specs.Control.{form_drives, with_comb, groups_in, groups_of, group_drives, drives}
use Rattle.cx_meaning.specs.Islands.{History, form_flat}
use Rattle.cx_meaning.specs.Calls.{test, inputs_of_call}
use Rattle.cx_rules.specs.Items.{Dynamic, visit_parts}
use Rattle.cx_rules.specs.Footprints.{Reads}
use Rattle.cx_rules.specs.Footprints as footprints
use Rattle.cx_frames.specs.Agreeing.{Agree}
use Rattle.cx_frames.specs.Arms.{all_drive}
use Rattle.cx_frames.proofs.AlikeLemmas.{AlikeTurn}
use Rattle.cx_frames.proofs.LeafFrames.{merge_agree, test_alike}
use Rattle.cx_frames.proofs.RunLemmas.{drives_group}
use Rattle.cx_orders.specs.Open.{Open, Idling, InGroup, Choosing, Testing, InIsland, Capturing, Closing, Waiting, InSeq, InPar, InLoop, InRepeat, InCall, Opens, no_arms, an_arm, leaves_of}
use Rattle.cx_orders.specs.Leaves.{test_drives, rested, is_tested, samples_now, own_island}
use Rattle.cx_orders.specs.Steps.{Stepped, Now, Stops, within, turned, tested, arms_left, par_left, call_left, lift_step, first_inputs, inputs_seen, inputs_for, held_as, first_or, step, step_arms}
use Rattle.cx_orders.proofs.OwnTurns.{OnlyIn, TurnsIn, only_same, merge_only, only_wider, turn_only, capture_only, island_only, group_seen, turn_frames, capture_frames, rest_frames, samples_frames, cycle_frames}
use Rattle.cx_orders.proofs.Inside.{IsSound, Stands, Inside, FormIn, through_reads, good, island_fine, tests_inside, island_acyclic, drives_inside, AnyReads}
use Rattle.cx_orders.proofs.Fits.{TestFits, Fits, ArmsFit}
use Rattle.cx_meaning.proofs.InstancesLemmas.{just_true}
use Rattle.cx_rules.proofs.CirclesLemmas.{own_acyclic, cells_below}

abbrev pub StepsIn : {A : Type 0} → Set → State → Stepped A → Type 0
StepsIn driven s (Now left after) = OnlyIn driven s after
StepsIn driven s (Stops fault) = Unit {0}

-- from states that agree a turn leaves the same open, and states that agree, or has the same fault
abbrev pub AlikeStep : {A : Type 0} → (ℕ → Type 0) → Stepped A → Stepped A → Type 0
AlikeStep set (Now left a) x = (b : State) × (x ≡ Now left b) × Agree set a b
AlikeStep set (Stops fault) x = x ≡ Stops fault

-- ONLY DRIVEN CELLS
within_only : {A B : Type 0} (driven : Set) (s : State) (f : A → B) (x : Stepped A) → StepsIn driven s x → StepsIn driven s (within f x)
within_only driven s f (Now left after) h = h
within_only driven s f (Stops fault) h = tt

steps_wider : {A : Type 0} (small large : Set) → ((c : ℕ) → small c ≡ true → large c ≡ true) → (s : State) (x : Stepped A) → StepsIn small s x → StepsIn large s x
steps_wider small large inside s (Now left after) h = only_wider small large inside s after h
steps_wider small large inside s (Stops fault) h = tt

turned_only : (small large : Set) → ((c : ℕ) → small c ≡ true → large c ≡ true) → (s idle : State) (turn : Turn State Fault) (later : Open) → TurnsIn small s turn → OnlyIn small s idle → StepsIn large s (turned turn idle later)
turned_only small large inside s idle Ends later h k = only_wider small large inside s idle k
turned_only small large inside s idle (Goes after) later h k = only_wider small large inside s after h
turned_only small large inside s idle (Faults fault) later h k = tt

tested_only : (driven : Set) (s idle : State) (t : Test Fault) (yes_left no_left : Option Open) → OnlyIn driven s idle → StepsIn driven s (tested t idle yes_left no_left)
tested_only driven s idle Holds a b h = h
tested_only driven s idle Fails a b h = h
tested_only driven s idle (Unclear fault) a b h = tt

lift_only : (driven : Set) (c : ℕ) → driven c ≡ true → (s : State) (f : Option Open → Option Open) (x : Stepped (Option Open)) → StepsIn driven s (lift_step c s f x)
lift_only driven c on s f (Now left own) = record { top = refl; others = λ e below off. one e below (just c e) refl off }
  where
    one : (e : ℕ) (below : Path) (b : Bool) → just c e ≡ b → driven e ≡ false → (if b then beneath own (e ∷ below) else s (e ∷ below)) ≡ s (e ∷ below)
    one e below true same off = absurd (both_ways (driven e) off (ap driven (sym (just_true c e same)) ∙ on))
    one e below false same off = refl
lift_only driven c on s f (Stops fault) = tt

comb_in : (comb : Option ℕ) (g : ℕ) → In (with_comb comb []) g → comb ≡ Some g
comb_in None g j = absurd j
comb_in (Some h) g (inl e) = ap Some e
comb_in (Some h) g (inr none) = absurd none

choose_only : {A : Type 0} (driven : Set) (s : State) (b : Bool) (x y : Stepped A) → StepsIn driven s x → StepsIn driven s y → StepsIn driven s (first_or b x y)
choose_only driven s true x y h k = h
choose_only driven s false x y h k = k

arms_drive_in : (i : Instance) (st : PlainStatement) (list : List PlainStatement) (arms : Opens) → ArmsFit i st list arms → (c : ℕ) → all_drive (part_of i) list c ≡ true → drives (part_of i) st c ≡ true
arms_drive_in i st [] no_arms fits c e = absurd (let f : false ≡ true = e in cc)
arms_drive_in i st [] (an_arm v arm arms) fits c e = absurd fits
arms_drive_in i st (s ∷ ss) no_arms fits c e = absurd fits
arms_drive_in i st (s ∷ ss) (an_arm v arm arms) (is, one, apart, rest) c e = go (drives (part_of i) s c) refl e (arms_drive_in i st ss arms rest c)
  where
    go : (b : Bool) → drives (part_of i) s c ≡ b → (b || all_drive (part_of i) ss c) ≡ true → (all_drive (part_of i) ss c ≡ true → drives (part_of i) st c ≡ true) → drives (part_of i) st c ≡ true
    go true here e later = is.drives c here
    go false here e later = later e

module _ (i : Instance) (held : Held) where
  test_only : (st : PlainStatement) (port : PortRef) (comb : Option ℕ) → TestFits i st port comb → (s : State) → OnlyIn (drives (part_of i) st) s (rested i (test_drives (part_of i) comb) s)
  test_only st port comb fits s =
      only_wider (test_drives (part_of i) comb) (drives (part_of i) st) (λ c e. drives_inside (part_of i) st (with_comb comb []) c (λ g j. fits.group g (comb_in comb g j)) e)
      s _ (merge_only (test_drives (part_of i) comb) (idle i s) s)

  mutual
    pub step_only : (st : PlainStatement) (o : Open) → Fits i st o → (k : ℕ) (s : State) → StepsIn (drives (part_of i) st) s (step i held o k s)
    step_only st Idling fits k s = only_same (drives (part_of i) st) s
    step_only st (InGroup g) j k s =
        turned_only (group_drives (part_of i) g) (drives (part_of i) st) (λ c e. drives_group (part_of i) st g c j e) s _ _ (InGroup g)
        (turn_only i held g s) (merge_only (group_drives (part_of i) g) (idle i s) s)
    step_only st (Choosing port comb a b) (fits, one, other) k s = tested_only (drives (part_of i) st) s _ (test i held port comb s) _ _ (test_only st port comb fits s)
    step_only st (Testing port comb body) (fits, one) k s = tested_only (drives (part_of i) st) s _ (test i held port comb s) _ _ (test_only st port comb fits s)
    step_only st (InIsland form t zero h) (here, inside) k s =
        only_wider (form_drives (part_of i) form) (drives (part_of i) st) (λ c e. drives_inside (part_of i) st (groups_in form) c inside.groups e)
        s _ (merge_only (form_drives (part_of i) form) (idle i s) s)
    step_only st (InIsland form t (suc left) h) (here, inside) k s =
        turned_only (form_drives (part_of i) form) (drives (part_of i) st) (λ c e. drives_inside (part_of i) st (groups_in form) c inside.groups e)
        s s _ _ (island_only i held form t (samples_now i held form h t s) s) (only_same (form_drives (part_of i) form) s)
    step_only st (Capturing g c) j k s =
        turned_only (group_drives (part_of i) g) (drives (part_of i) st) (λ e f. drives_group (part_of i) st g e j f) s s _ (Closing g) (capture_only i held g c s) (only_same (group_drives (part_of i) g) s)
    step_only st (Closing g) j k s =
        only_wider (group_drives (part_of i) g) (drives (part_of i) st) (λ e f. drives_group (part_of i) st g e j f) s _ (merge_only (group_drives (part_of i) g) (idle i s) s)
    step_only st Waiting fits k s = only_same (drives (part_of i) st) s
    step_only st (InSeq first later) (fits, rest) k s = within_only (drives (part_of i) st) s _ (step i held first k s) (step_only st first fits k s)
    step_only st (InPar arms) (x, xs, fits) k s =
        within_only (drives (part_of i) st) s par_left (step_arms i held arms k s)
        (steps_wider (all_drive (part_of i) (x ∷ xs)) (drives (part_of i) st) (arms_drive_in i st (x ∷ xs) arms fits) s (step_arms i held arms k s) (arms_only st (x ∷ xs) arms fits k s))
    step_only st (InLoop run port comb body) (fits, tested_so, inside) k s = within_only (drives (part_of i) st) s _ (step i held run k s) (step_only st run fits k s)
    step_only st (InRepeat run left body) (fits, rest) k s = within_only (drives (part_of i) st) s _ (step i held run k s) (step_only st run fits k s)
    step_only st (InCall g c inputs child) (j, on, fits) k s = lift_only (drives (part_of i) st) c on s _ _

    pub arms_only : (st : PlainStatement) (list : List PlainStatement) (arms : Opens) → ArmsFit i st list arms → (k : ℕ) (s : State) → StepsIn (all_drive (part_of i) list) s (step_arms i held arms k s)
    arms_only st [] no_arms fits k s = only_same (all_drive (part_of i) []) s
    arms_only st [] (an_arm v arm arms) fits k s = absurd fits
    arms_only st (x ∷ xs) no_arms fits k s = absurd fits
    arms_only st (x ∷ xs) (an_arm v arm arms) (is, one, apart, rest) k s =
        choose_only (all_drive (part_of i) (x ∷ xs)) s (nat_lt k (leaves_of arm)) _ _
        (within_only (all_drive (part_of i) (x ∷ xs)) s (arms_left v arms) (step i held arm k s)
        (steps_wider (drives (part_of i) x) (all_drive (part_of i) (x ∷ xs)) (λ c e. or_left (drives (part_of i) x c) (all_drive (part_of i) xs c) e) s (step i held arm k s) (step_only x arm one k s)))
        (within_only (all_drive (part_of i) (x ∷ xs)) s (an_arm v arm) (step_arms i held arms (k - leaves_of arm) s)
        (steps_wider (all_drive (part_of i) xs) (all_drive (part_of i) (x ∷ xs)) (λ c e. or_right (drives (part_of i) x c) (all_drive (part_of i) xs c) e) s (step_arms i held arms (k - leaves_of arm) s)
        (arms_only st xs arms rest (k - leaves_of arm) s)))

-- WHAT IS READ ALONE
within_alike : {A B : Type 0} (set : ℕ → Type 0) (f : A → B) (x y : Stepped A) → AlikeStep set x y → AlikeStep set (within f x) (within f y)
within_alike set f (Now left a) y (b, e, h) = (b, ap (within f) e, h)
within_alike set f (Stops fault) y e = ap (within f) e

turned_alike : (set : ℕ → Type 0) (o x : Turn State Fault) (s t : State) (later : Open) → AlikeTurn set o x → Agree set s t → AlikeStep set (turned o s later) (turned x t later)
turned_alike set Ends x s t later e h = subst (λ y. AlikeStep set (turned Ends s later) (turned y t later)) (sym e) (t, refl, h)
turned_alike set (Goes a) x s t later (b, e, k) h = subst (λ y. AlikeStep set (turned (Goes a) s later) (turned y t later)) (sym e) (b, refl, k)
turned_alike set (Faults f) x s t later e h = ap (λ y. turned y t later) e

tested_alike : (set : ℕ → Type 0) (x y : Test Fault) (s t : State) (a b : Option Open) → x ≡ y → Agree set s t → AlikeStep set (tested x s a b) (tested y t a b)
tested_alike set x y s t a b e h = subst (λ z. AlikeStep set (tested x s a b) (tested z t a b)) e (one x)
  where
    one : (z : Test Fault) → AlikeStep set (tested z s a b) (tested z t a b)
    one Holds = (t, refl, h)
    one Fails = (t, refl, h)
    one (Unclear f) = refl

lift_alike : (set : ℕ → Type 0) (c : ℕ) (s t : State) (f : Option Open → Option Open) (x : Stepped (Option Open)) → Agree set s t → AlikeStep set (lift_step c s f x) (lift_step c t f x)
lift_alike set c s t f (Now left own) h = (put c own t, refl, merge_agree set (just c) (beneath own) s (beneath own) t (λ e path inside. refl) h)
lift_alike set c s t f (Stops fault) h = refl

choose_alike : {A : Type 0} (set : ℕ → Type 0) (b : Bool) (x y u w : Stepped A) → AlikeStep set x u → AlikeStep set y w → AlikeStep set (first_or b x y) (first_or b u w)
choose_alike set true x y u w h k = h
choose_alike set false x y u w h k = k

-- a turn that hangs on a set hangs on any set that agrees elsewhere too
widen : {A : Type 0} (small large : ℕ → Type 0) (driven : Set) → ((c : ℕ) → driven c ≡ true → small c) → (s t : State) (x y : Stepped A) → Agree large s t
    → StepsIn driven s x → StepsIn driven t y → AlikeStep small x y → AlikeStep large x y
widen small large driven inside s t (Now left a) y agree one other (b, e, h) = (b, e, all)
  where
    after : OnlyIn driven t b
    after = subst (λ z. StepsIn driven t z) e other

    all : Agree large a b
    all c below r = go (driven c) refl
      where
        go : (v : Bool) → driven c ≡ v → a (c ∷ below) ≡ b (c ∷ below)
        go true on = h c below (inside c on)
        go false off = one.others c below off ∙ agree c below r ∙ sym (after.others c below off)
widen small large driven inside s t (Stops fault) y agree one other e = e

pub all_drive_reads : (part : PlainComponent) (list : List PlainStatement) (c : ℕ) → all_drive part list c ≡ true → AnyReads part list c
all_drive_reads part [] c e = absurd (let f : false ≡ true = e in cc)
all_drive_reads part (x ∷ xs) c e = go (drives part x c) refl e (all_drive_reads part xs c)
  where
    go : (b : Bool) → drives part x c ≡ b → (b || all_drive part xs c) ≡ true → (all_drive part xs c ≡ true → AnyReads part xs c) → AnyReads part (x ∷ xs) c
    go true here e later = inl (footprints.driven here)
    go false here e later = inr (later e)

pub any_reads_in : (i : Instance) (st : PlainStatement) (list : List PlainStatement) (arms : Opens) → ArmsFit i st list arms → (c : ℕ) → AnyReads (part_of i) list c → Reads (part_of i) st c
any_reads_in i st [] arms fits c r = absurd r
any_reads_in i st (s ∷ ss) no_arms fits c r = absurd fits
any_reads_in i st (s ∷ ss) (an_arm v arm arms) (is, one, apart, rest) c (inl r) = is.reads c r
any_reads_in i st (s ∷ ss) (an_arm v arm arms) (is, one, apart, rest) c (inr r) = any_reads_in i st ss arms rest c r

module _ (i : Instance) (sound : IsSound i) (held : Held) where
  test_frames : (st : PlainStatement) → Stands i st → (port : PortRef) (comb : Option ℕ) → TestFits i st port comb → (s t : State) → Agree (Reads (part_of i) st) s t → test i held port comb s ≡ test i held port comb t
  test_frames st stands port comb fits s t agree =
      test_alike i held (Reads (part_of i) st) sound.kept (through_reads i held sound st) (cells_below i sound.circles) (own_acyclic i sound.circles) port fits.inside comb
      (λ g e. good i held sound st g (fits.group g e)) s t agree

  island_step : (st : PlainStatement) → Stands i st → (form : PlainForm) (t left : ℕ) (h : History) → FormIn st form → Inside st (groups_in form) (visit_parts Dynamic form) → (s s2 : State) → Agree (Reads (part_of i) st) s s2
      → AlikeStep (Reads (part_of i) st) (turned (own_island i held form t (samples_now i held form h t s) s) s (InIsland form (suc t) left (samples_now i held form h t s)))
      (turned (own_island i held form t (samples_now i held form h t s2) s2) s2 (InIsland form (suc t) left (samples_now i held form h t s2)))
  island_step st stands form t left h here inside s s2 agree =
      subst (λ k. AlikeStep (Reads (part_of i) st) (turned (own_island i held form t (samples_now i held form h t s) s) s (InIsland form (suc t) left (samples_now i held form h t s)))
      (turned (own_island i held form t k s2) s2 (InIsland form (suc t) left k)))
      (samples_frames i held (Reads (part_of i) st) sound.kept (through_reads i held sound st) (cells_below i sound.circles) (own_acyclic i sound.circles) (form_flat (part_of i) form 0 []) (island_fine i held sound st stands form here inside) (is_tested form) (tests_inside i held sound st stands form here inside) h t s s2 agree)
      (turned_alike (Reads (part_of i) st) _ _ s s2 _
      (cycle_frames i held (Reads (part_of i) st) sound.kept (through_reads i held sound st) (cells_below i sound.circles) (own_acyclic i sound.circles) (form_flat (part_of i) form 0 []) (island_fine i held sound st stands form here inside)
      (form_drives (part_of i) form) (λ c e. footprints.driven (drives_inside (part_of i) st (groups_in form) c inside.groups e)) (samples_now i held form h t s) t (island_acyclic i held sound st stands form here (samples_now i held form h t s) t) s s2 agree)
      agree)

  idle_frames : (st : PlainStatement) (driven : Set) (s t : State) → Agree (Reads (part_of i) st) s t → Agree (Reads (part_of i) st) (rested i driven s) (rested i driven t)
  idle_frames st driven s t agree = rest_frames i held (Reads (part_of i) st) sound.kept (through_reads i held sound st) (cells_below i sound.circles) driven s t agree

  call_step : (st : PlainStatement) (g c : ℕ) (inputs : Option (List Seen)) (child : Open) (k : ℕ) → In (groups_of st) g → drives (part_of i) st c ≡ true → (s t : State) → Agree (Reads (part_of i) st) s t
      → AlikeStep (Reads (part_of i) st) (step i held (InCall g c inputs child) k s) (step i held (InCall g c inputs child) k t)
  call_step st g c inputs child k j on s t agree =
      let seen_same : inputs_of_call i held g c s ≡ inputs_of_call i held g c t =
      fun_ext (λ input. group_seen i held (Reads (part_of i) st) sound.kept (through_reads i held sound st) (cells_below i sound.circles) g (good i held sound st g j) s t agree (ports.Cell c (suc input)) (footprints.driven on)) in
      let inputs_same : inputs_for inputs (inputs_seen i held g c s) ≡ inputs_for inputs (inputs_seen i held g c t) =
      ap (λ x. inputs_for inputs (first_inputs x (length (part_of (instance_at i (c ∷ []))).inputs))) seen_same in
      let below : under c s ≡ under c t = fun_ext (λ path. agree c path (footprints.driven on)) in
      subst (λ u. AlikeStep (Reads (part_of i) st) (step i held (InCall g c inputs child) k s)
      (lift_step c t (call_left i g c (inputs_for inputs (inputs_seen i held g c t))) (step (instance_at i (c ∷ [])) (held_as (inputs_for inputs (inputs_seen i held g c t))) child k u))) below
      (subst (λ x. AlikeStep (Reads (part_of i) st) (step i held (InCall g c inputs child) k s) (lift_step c t (call_left i g c x) (step (instance_at i (c ∷ [])) (held_as x) child k (under c s)))) inputs_same
      (lift_alike (Reads (part_of i) st) c s t (call_left i g c (inputs_for inputs (inputs_seen i held g c s))) (step (instance_at i (c ∷ [])) (held_as (inputs_for inputs (inputs_seen i held g c s))) child k (under c s)) agree))

  mutual
    pub step_alike : (st : PlainStatement) → Stands i st → (o : Open) → Fits i st o → (k : ℕ) (s t : State) → Agree (Reads (part_of i) st) s t → AlikeStep (Reads (part_of i) st) (step i held o k s) (step i held o k t)
    step_alike st stands Idling fits k s t agree = (t, refl, agree)
    step_alike st stands (InGroup g) j k s t agree =
        turned_alike (Reads (part_of i) st) _ _ _ _ (InGroup g)
        (turn_frames i held (Reads (part_of i) st) sound.kept (through_reads i held sound st) (cells_below i sound.circles) g (good i held sound st g j) s t agree)
        (idle_frames st (group_drives (part_of i) g) s t agree)
    step_alike st stands (Choosing port comb a b) (fits, one, other) k s t agree =
        tested_alike (Reads (part_of i) st) _ _ _ _ _ _ (test_frames st stands port comb fits s t agree) (idle_frames st (test_drives (part_of i) comb) s t agree)
    step_alike st stands (Testing port comb body) (fits, one) k s t agree =
        tested_alike (Reads (part_of i) st) _ _ _ _ _ _ (test_frames st stands port comb fits s t agree) (idle_frames st (test_drives (part_of i) comb) s t agree)
    step_alike st stands (InIsland form n zero h) fits k s t agree = (_, refl, idle_frames st (form_drives (part_of i) form) s t agree)
    step_alike st stands (InIsland form n (suc left) h) (here, inside) k s t agree = island_step st stands form n left h here inside s t agree
    step_alike st stands (Capturing g c) j k s t agree =
        turned_alike (Reads (part_of i) st) _ _ s t (Closing g)
        (capture_frames i held (Reads (part_of i) st) sound.kept (through_reads i held sound st) (cells_below i sound.circles) g c (good i held sound st g j) s t agree) agree
    step_alike st stands (Closing g) j k s t agree = (_, refl, idle_frames st (group_drives (part_of i) g) s t agree)
    step_alike st stands Waiting fits k s t agree = (t, refl, agree)
    step_alike st stands (InSeq first later) (fits, rest) k s t agree = within_alike (Reads (part_of i) st) _ (step i held first k s) (step i held first k t) (step_alike st stands first fits k s t agree)
    step_alike st stands (InPar arms) (x, xs, fits) k s t agree =
        within_alike (Reads (part_of i) st) par_left (step_arms i held arms k s) (step_arms i held arms k t)
        (widen (AnyReads (part_of i) (x ∷ xs)) (Reads (part_of i) st) (all_drive (part_of i) (x ∷ xs)) (all_drive_reads (part_of i) (x ∷ xs)) s t (step_arms i held arms k s) (step_arms i held arms k t) agree
        (arms_only i held st (x ∷ xs) arms fits k s) (arms_only i held st (x ∷ xs) arms fits k t)
        (arms_alike st (x ∷ xs) arms fits k s t (λ c below r. agree c below (any_reads_in i st (x ∷ xs) arms fits c r))))
    step_alike st stands (InLoop run port comb body) (fits, tested_so, inside) k s t agree = within_alike (Reads (part_of i) st) _ (step i held run k s) (step i held run k t) (step_alike st stands run fits k s t agree)
    step_alike st stands (InRepeat run left body) (fits, rest) k s t agree = within_alike (Reads (part_of i) st) _ (step i held run k s) (step i held run k t) (step_alike st stands run fits k s t agree)
    step_alike st stands (InCall g c inputs child) (j, on, fits) k s t agree = call_step st g c inputs child k j on s t agree

    pub arms_alike : (st : PlainStatement) (list : List PlainStatement) (arms : Opens) → ArmsFit i st list arms → (k : ℕ) (s t : State) → Agree (AnyReads (part_of i) list) s t
        → AlikeStep (AnyReads (part_of i) list) (step_arms i held arms k s) (step_arms i held arms k t)
    arms_alike st [] no_arms fits k s t agree = (t, refl, agree)
    arms_alike st [] (an_arm v arm arms) fits k s t agree = absurd fits
    arms_alike st (x ∷ xs) no_arms fits k s t agree = absurd fits
    arms_alike st (x ∷ xs) (an_arm v arm arms) (is, one, apart, rest) k s t agree =
        choose_alike (AnyReads (part_of i) (x ∷ xs)) (nat_lt k (leaves_of arm)) _ _ _ _
        (within_alike (AnyReads (part_of i) (x ∷ xs)) (arms_left v arms) (step i held arm k s) (step i held arm k t)
        (widen (Reads (part_of i) x) (AnyReads (part_of i) (x ∷ xs)) (drives (part_of i) x) (λ c e. footprints.driven e) s t (step i held arm k s) (step i held arm k t) agree
        (step_only i held x arm one k s) (step_only i held x arm one k t) (step_alike x is.stands arm one k s t (λ c below r. agree c below (inl r)))))
        (within_alike (AnyReads (part_of i) (x ∷ xs)) (an_arm v arm) (step_arms i held arms (k - leaves_of arm) s) (step_arms i held arms (k - leaves_of arm) t)
        (widen (AnyReads (part_of i) xs) (AnyReads (part_of i) (x ∷ xs)) (all_drive (part_of i) xs) (all_drive_reads (part_of i) xs) s t
        (step_arms i held arms (k - leaves_of arm) s) (step_arms i held arms (k - leaves_of arm) t) agree
        (arms_only i held st xs arms rest (k - leaves_of arm) s) (arms_only i held st xs arms rest (k - leaves_of arm) t)
        (arms_alike st xs arms rest (k - leaves_of arm) s t (λ c below r. agree c below (inr r)))))
