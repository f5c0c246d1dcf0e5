-- Turns of two leaves in either order: what the one leaves the other finds.
use Rattle.std.proofs.Common.{◌≡◌, ℕ, ◌+◌, ◌-◌, ◌<◌, ◌≤◌, Bool, true, false, if◌then◌else◌, List, [], ◌∷◌, Option, Some, None, refl, sym, ap, ◌∙◌, subst, arith}
use Rattle.std.specs.Prelude.{nat_lt}
use Rattle.std.proofs.Math.Path.{fun_ext}
use Rattle.std.proofs.lemmas.Bool.{ltb-true, ltb-false, lt-ltb, le-ltb}
use Rattle.cx_prim.specs.CellStates.{CellState}
use Rattle.cx_meaning.specs.declared.ports.PortRef.{PortRef}
use Rattle.cx_meaning.specs.declared.sights.Seen.{Seen}
use Rattle.cx_meaning.specs.Designs.{PlainStatement, PlainStatements}
use Rattle.cx_meaning.specs.Instances.{Instance, part_of, Path, State, instance_at, just, put, under}
use Rattle.cx_meaning.specs.Sights.{Held}
use Rattle.cx_meaning.specs.Cycles.{Fault}
use Rattle.cx_meaning.specs.Control.{drives}
use Rattle.cx_rules.specs.Footprints.{Reads}
use Rattle.cx_rules.specs.Footprints as footprints
use Rattle.cx_frames.specs.Agreeing.{Agree}
use Rattle.cx_frames.specs.Arms.{all_drive}
use Rattle.cx_orders.specs.Open.{Open, Idling, InGroup, Choosing, Testing, InIsland, Capturing, Closing, Waiting, InSeq, InPar, InLoop, InRepeat, InCall, Opens, no_arms, an_arm, leaves_of, leaves_of_all}
use Rattle.cx_orders.specs.Steps.{Stepped, Now, Stops, within, seq_left, loop_left, repeat_left, arms_left, par_left, call_left, lift_step, inputs_seen, inputs_for, held_as, first_or, step, step_arms}
use Rattle.cx_orders.proofs.OwnTurns.{OnlyIn}
use Rattle.cx_orders.proofs.Inside.{Stands, AnyReads, Apart}
use Rattle.cx_orders.proofs.Fits.{Fits, ArmsFit, AllSound, sound_below, sound_here}
use Rattle.cx_orders.proofs.StepFrames.{StepsIn, AlikeStep, step_only, arms_only, step_alike, arms_alike, all_drive_reads}
use Rattle.cx_text.proofs.NumberLaws.{no_less}
use Rattle.cx_meaning.proofs.InstancesLemmas.{just_same}
use Rattle.cx_laws.proofs.VisitLemmas.{itself}

-- a leaf on either side by which both come to the same
pub record Met {A : Type 0} (m n : ℕ) (one other : ℕ → Stepped A) : Type 0 where
  pub l : ℕ
  pub k : ℕ
  pub l_within : l < m
  pub k_within : k < n
  pub left : A
  pub after : State
  pub first : one l ≡ Now left after
  pub second : other k ≡ Now left after

-- a leaf that faults
pub record Halts {A : Type 0} (m : ℕ) (one : ℕ → Stepped A) (fault : Fault) : Type 0 where
  pub l : ℕ
  pub l_within : l < m
  pub halts : one l ≡ Stops fault

abbrev pub Joins : Instance → Held → Stepped (Option Open) → Stepped (Option Open) → Type 0
Joins i held (Now None a) y = ⊥
Joins i held (Now (Some o) a) (Now None b) = ⊥
Joins i held (Now (Some o) a) (Now (Some p) b) = Met (leaves_of o) (leaves_of p) (λ l. step i held o l a) (λ k. step i held p k b)
Joins i held (Now (Some o) a) (Stops f) = Halts (leaves_of o) (λ l. step i held o l a) f
Joins i held (Stops f) (Now None b) = ⊥
Joins i held (Stops f) (Now (Some p) b) = Halts (leaves_of p) (λ k. step i held p k b) f
Joins i held (Stops f) (Stops g) = Unit {0}

abbrev JoinArms : Instance → Held → Stepped Opens → Stepped Opens → Type 0
JoinArms i held (Now o a) (Now p b) = Met (leaves_of_all o) (leaves_of_all p) (λ l. step_arms i held o l a) (λ k. step_arms i held p k b)
JoinArms i held (Now o a) (Stops f) = Halts (leaves_of_all o) (λ l. step_arms i held o l a) f
JoinArms i held (Stops f) (Now p b) = Halts (leaves_of_all p) (λ k. step_arms i held p k b) f
JoinArms i held (Stops f) (Stops g) = Unit {0}

met_within : {A B : Type 0} (m n : ℕ) (one other : ℕ → Stepped A) (f : A → B) → Met m n one other → Met m n (λ l. within f (one l)) (λ k. within f (other k))
met_within m n one other f h = record {
  l = h.l;
  k = h.k;
  l_within = h.l_within;
  k_within = h.k_within;
  left = f h.left;
  after = h.after;
  first = ap (within f) h.first;
  second = ap (within f) h.second;
}

halts_within : {A B : Type 0} (m : ℕ) (one : ℕ → Stepped A) (f : A → B) (fault : Fault) → Halts m one fault → Halts m (λ l. within f (one l)) fault
halts_within m one f fault h = record { l = h.l; l_within = h.l_within; halts = ap (within f) h.halts }

met_swap : {A : Type 0} (m n : ℕ) (one other : ℕ → Stepped A) → Met m n one other → Met n m other one
met_swap m n one other h = record { l = h.k; k = h.l; l_within = h.k_within; k_within = h.l_within; left = h.left; after = h.after; first = h.second; second = h.first }

arms_swap : (i : Instance) (held : Held) (x y : Stepped Opens) → JoinArms i held x y → JoinArms i held y x
arms_swap i held (Now o a) (Now p b) h = met_swap _ _ _ _ h
arms_swap i held (Now o a) (Stops f) h = h
arms_swap i held (Stops f) (Now p b) h = h
arms_swap i held (Stops f) (Stops g) h = tt

-- UNDER what stands around
joins_seq : (i : Instance) (held : Held) (later : PlainStatements) (x y : Stepped (Option Open)) → Joins i held x y → Joins i held (within (seq_left i later) x) (within (seq_left i later) y)
joins_seq i held later (Now None a) y h = absurd h
joins_seq i held later (Now (Some o) a) (Now None b) h = absurd h
joins_seq i held later (Now (Some o) a) (Now (Some p) b) h = met_within (leaves_of o) (leaves_of p) (λ l. step i held o l a) (λ k. step i held p k b) (seq_left i later) h
joins_seq i held later (Now (Some o) a) (Stops g) h = halts_within (leaves_of o) (λ l. step i held o l a) (seq_left i later) g h
joins_seq i held later (Stops g) (Now None b) h = absurd h
joins_seq i held later (Stops g) (Now (Some p) b) h = halts_within (leaves_of p) (λ k. step i held p k b) (seq_left i later) g h
joins_seq i held later (Stops g) (Stops e) h = tt

joins_loop : (i : Instance) (held : Held) (port : PortRef) (comb : Option ℕ) (body : PlainStatement) (x y : Stepped (Option Open)) → Joins i held x y → Joins i held (within (loop_left port comb body) x) (within (loop_left port comb body) y)
joins_loop i held port comb body (Now None a) y h = absurd h
joins_loop i held port comb body (Now (Some o) a) (Now None b) h = absurd h
joins_loop i held port comb body (Now (Some o) a) (Now (Some p) b) h = met_within (leaves_of o) (leaves_of p) (λ l. step i held o l a) (λ k. step i held p k b) (loop_left port comb body) h
joins_loop i held port comb body (Now (Some o) a) (Stops g) h = halts_within (leaves_of o) (λ l. step i held o l a) (loop_left port comb body) g h
joins_loop i held port comb body (Stops g) (Now None b) h = absurd h
joins_loop i held port comb body (Stops g) (Now (Some p) b) h = halts_within (leaves_of p) (λ k. step i held p k b) (loop_left port comb body) g h
joins_loop i held port comb body (Stops g) (Stops e) h = tt

joins_repeat : (i : Instance) (held : Held) (left : ℕ) (body : PlainStatement) (x y : Stepped (Option Open)) → Joins i held x y → Joins i held (within (repeat_left i left body) x) (within (repeat_left i left body) y)
joins_repeat i held left body (Now None a) y h = absurd h
joins_repeat i held left body (Now (Some o) a) (Now None b) h = absurd h
joins_repeat i held left body (Now (Some o) a) (Now (Some p) b) h = met_within (leaves_of o) (leaves_of p) (λ l. step i held o l a) (λ k. step i held p k b) (repeat_left i left body) h
joins_repeat i held left body (Now (Some o) a) (Stops g) h = halts_within (leaves_of o) (λ l. step i held o l a) (repeat_left i left body) g h
joins_repeat i held left body (Stops g) (Now None b) h = absurd h
joins_repeat i held left body (Stops g) (Now (Some p) b) h = halts_within (leaves_of p) (λ k. step i held p k b) (repeat_left i left body) g h
joins_repeat i held left body (Stops g) (Stops e) h = tt

joins_par : (i : Instance) (held : Held) (x y : Stepped Opens) → JoinArms i held x y → Joins i held (within par_left x) (within par_left y)
joins_par i held (Now no_arms a) (Now p b) h = absurd (no_less h.l h.l_within)
joins_par i held (Now (an_arm v o os) a) (Now no_arms b) h = absurd (no_less h.k h.k_within)
joins_par i held (Now (an_arm v o os) a) (Now (an_arm w p ps) b) h = met_within (leaves_of_all (an_arm v o os)) (leaves_of_all (an_arm w p ps)) (λ l. step_arms i held (an_arm v o os) l a) (λ k. step_arms i held (an_arm w p ps) k b) par_left h
joins_par i held (Now no_arms a) (Stops f) h = absurd (no_less h.l h.l_within)
joins_par i held (Now (an_arm v o os) a) (Stops f) h = halts_within (leaves_of_all (an_arm v o os)) (λ l. step_arms i held (an_arm v o os) l a) par_left f h
joins_par i held (Stops f) (Now no_arms b) h = absurd (no_less h.l h.l_within)
joins_par i held (Stops f) (Now (an_arm w p ps) b) h = halts_within (leaves_of_all (an_arm w p ps)) (λ k. step_arms i held (an_arm w p ps) k b) par_left f h
joins_par i held (Stops f) (Stops g) h = tt

-- a child's state put back and looked at again
under_put : (c : ℕ) (own s : State) → under c (put c own s) ≡ own
under_put c own s = fun_ext (λ path. ap (λ b. if b then own path else s (c ∷ path)) (just_same c))

put_again : (c : ℕ) (own a s : State) → put c own (put c a s) ≡ put c own s
put_again c own a s = fun_ext at
  where
    pick : (b : Bool) (x y z : CellState) → (if b then x else (if b then y else z)) ≡ (if b then x else z)
    pick true x y z = refl
    pick false x y z = refl

    at : (path : Path) → put c own (put c a s) path ≡ put c own s path
    at [] = refl
    at (e ∷ path) = pick (just c e) (own path) (a path) (s (e ∷ path))

lift_again : (c : ℕ) (a s : State) (f : Option Open → Option Open) (x : Stepped (Option Open)) → lift_step c (put c a s) f x ≡ lift_step c s f x
lift_again c a s f (Now left own) = ap (Now (f left)) (put_again c own a s)
lift_again c a s f (Stops fault) = refl

module _ (i : Instance) (held : Held) (g c : ℕ) (inputs : List Seen) (s : State) where
  pub call_again : (o : Open) (l : ℕ) (a : State) → step i held (InCall g c (Some inputs) o) l (put c a s) ≡ lift_step c s (call_left i g c inputs) (step (instance_at i (c ∷ [])) (held_as inputs) o l a)
  call_again o l a =
      ap (λ u. lift_step c (put c a s) (call_left i g c inputs) (step (instance_at i (c ∷ [])) (held_as inputs) o l u)) (under_put c a s)
      ∙ lift_again c a s (call_left i g c inputs) (step (instance_at i (c ∷ [])) (held_as inputs) o l a)

  joins_call : (x y : Stepped (Option Open)) → Joins (instance_at i (c ∷ [])) (held_as inputs) x y → Joins i held (lift_step c s (call_left i g c inputs) x) (lift_step c s (call_left i g c inputs) y)
  joins_call (Now None a) y h = absurd h
  joins_call (Now (Some o) a) (Now None b) h = absurd h
  joins_call (Now (Some o) a) (Now (Some p) b) h = record {
    l = h.l;
    k = h.k;
    l_within = h.l_within;
    k_within = h.k_within;
    left = call_left i g c inputs h.left;
    after = put c h.after s;
    first = call_again o h.l a ∙ ap (lift_step c s (call_left i g c inputs)) h.first;
    second = call_again p h.k b ∙ ap (lift_step c s (call_left i g c inputs)) h.second;
  }
  joins_call (Now (Some o) a) (Stops f) h = record { l = h.l; l_within = h.l_within; halts = call_again o h.l a ∙ ap (lift_step c s (call_left i g c inputs)) h.halts }
  joins_call (Stops f) (Now None b) h = absurd h
  joins_call (Stops f) (Now (Some p) b) h = record { l = h.l; l_within = h.l_within; halts = call_again p h.l b ∙ ap (lift_step c s (call_left i g c inputs)) h.halts }
  joins_call (Stops f) (Stops e) h = tt

-- IN AN ARM and in the arms after it
module _ (i : Instance) (held : Held) (v : PlainStatement) (arms : Opens) where
  pub in_first : (o : Open) (l : ℕ) (a : State) → l < leaves_of o → step_arms i held (an_arm v o arms) l a ≡ within (arms_left v arms) (step i held o l a)
  in_first o l a h = ap (λ b. first_or b (within (arms_left v arms) (step i held o l a)) (within (an_arm v o) (step_arms i held arms (l - leaves_of o) a))) (lt-ltb l (leaves_of o) h)

  first_count : (o : Open) (l : ℕ) → l < leaves_of o → l < leaves_of_all (an_arm v o arms)
  first_count o l h = omega arith

  joins_first : (x y : Stepped (Option Open)) → Joins i held x y → JoinArms i held (within (arms_left v arms) x) (within (arms_left v arms) y)
  joins_first (Now None a) y h = absurd h
  joins_first (Now (Some o) a) (Now None b) h = absurd h
  joins_first (Now (Some o) a) (Now (Some p) b) h = record {
    l = h.l;
    k = h.k;
    l_within = first_count o h.l h.l_within;
    k_within = first_count p h.k h.k_within;
    left = arms_left v arms h.left;
    after = h.after;
    first = in_first o h.l a h.l_within ∙ ap (within (arms_left v arms)) h.first;
    second = in_first p h.k b h.k_within ∙ ap (within (arms_left v arms)) h.second;
  }
  joins_first (Now (Some o) a) (Stops f) h = record { l = h.l; l_within = first_count o h.l h.l_within; halts = in_first o h.l a h.l_within ∙ ap (within (arms_left v arms)) h.halts }
  joins_first (Stops f) (Now None b) h = absurd h
  joins_first (Stops f) (Now (Some p) b) h = record { l = h.l; l_within = first_count p h.l h.l_within; halts = in_first p h.l b h.l_within ∙ ap (within (arms_left v arms)) h.halts }
  joins_first (Stops f) (Stops e) h = tt

module _ (i : Instance) (held : Held) (v : PlainStatement) (arm : Open) where
  in_later : (arms : Opens) (l : ℕ) (a : State) → step_arms i held (an_arm v arm arms) (leaves_of arm + l) a ≡ within (an_arm v arm) (step_arms i held arms l a)
  in_later arms l a =
      let more : leaves_of arm ≤ leaves_of arm + l = omega arith in
      let less : (leaves_of arm + l) - leaves_of arm ≡ l = omega arith in
      ap (λ b. first_or b (within (arms_left v arms) (step i held arm (leaves_of arm + l) a)) (within (an_arm v arm) (step_arms i held arms ((leaves_of arm + l) - leaves_of arm) a))) (le-ltb (leaves_of arm + l) (leaves_of arm) more)
      ∙ ap (λ n. within (an_arm v arm) (step_arms i held arms n a)) less

  later_count : (arms : Opens) (l : ℕ) → l < leaves_of_all arms → leaves_of arm + l < leaves_of_all (an_arm v arm arms)
  later_count arms l h = omega arith

  joins_later : (x y : Stepped Opens) → JoinArms i held x y → JoinArms i held (within (an_arm v arm) x) (within (an_arm v arm) y)
  joins_later (Now o a) (Now p b) h = record {
    l = leaves_of arm + h.l;
    k = leaves_of arm + h.k;
    l_within = later_count o h.l h.l_within;
    k_within = later_count p h.k h.k_within;
    left = an_arm v arm h.left;
    after = h.after;
    first = in_later o h.l a ∙ ap (within (an_arm v arm)) h.first;
    second = in_later p h.k b ∙ ap (within (an_arm v arm)) h.second;
  }
  joins_later (Now o a) (Stops f) h = record { l = leaves_of arm + h.l; l_within = later_count o h.l h.l_within; halts = in_later o h.l a ∙ ap (within (an_arm v arm)) h.halts }
  joins_later (Stops f) (Now p b) h = record { l = leaves_of arm + h.l; l_within = later_count p h.l h.l_within; halts = in_later p h.l b ∙ ap (within (an_arm v arm)) h.halts }
  joins_later (Stops f) (Stops e) h = tt

-- an arm, and the arms after it, that are apart
module _ (i : Instance) (held : Held) (x : PlainStatement) (xs : List PlainStatement) (apart : Apart (part_of i) x xs) (v : PlainStatement) (arm : Open) (arms : Opens) (k l : ℕ) (k_within : k < leaves_of arm) (l_within : l < leaves_of_all arms) where
  -- behind the turn of the arm, the turn of a later one; and behind that one, the turn of the arm
  arm_gone : (left : Option Open) (a : State) (bs : Opens) (b : State) → step_arms i held arms l a ≡ Now bs b → (n : ℕ) × (n < leaves_of_all (arms_left v arms left)) × (step_arms i held (arms_left v arms left) n a ≡ Now (arms_left v bs left) b)
  arm_gone None a bs b e = (l, l_within, e)
  arm_gone (Some o) a bs b e = (leaves_of o + l, later_count i held v o arms l l_within, in_later i held v o arms l a ∙ ap (within (an_arm v o)) e)

  arm_stops : (left : Option Open) (a : State) (f : Fault) → step_arms i held arms l a ≡ Stops f → Halts (leaves_of_all (arms_left v arms left)) (λ n. step_arms i held (arms_left v arms left) n a) f
  arm_stops None a f e = record { l = l; l_within = l_within; halts = e }
  arm_stops (Some o) a f e = record { l = leaves_of o + l; l_within = later_count i held v o arms l l_within; halts = in_later i held v o arms l a ∙ ap (within (an_arm v o)) e }

  module _ (s : State) where
    one_off : (a : State) → OnlyIn (drives (part_of i) x) s a → Agree (AnyReads (part_of i) xs) s a
    one_off a only c below r = go (drives (part_of i) x c) refl
      where
        go : (b : Bool) → drives (part_of i) x c ≡ b → s (c ∷ below) ≡ a (c ∷ below)
        go true e = absurd (apart.one c e r)
        go false e = sym (only.others c below e)

    other_off : (b : State) → OnlyIn (all_drive (part_of i) xs) s b → Agree (Reads (part_of i) x) s b
    other_off b only c below r = go (all_drive (part_of i) xs c) refl
      where
        go : (v : Bool) → all_drive (part_of i) xs c ≡ v → s (c ∷ below) ≡ b (c ∷ below)
        go true e = absurd (apart.other c e r)
        go false e = sym (only.others c below e)

    -- both orders leave the same state
    one_state : (a b a2 b2 : State) → OnlyIn (drives (part_of i) x) s a → OnlyIn (all_drive (part_of i) xs) s b → OnlyIn (drives (part_of i) x) b a2 → OnlyIn (all_drive (part_of i) xs) a b2
        → Agree (Reads (part_of i) x) a a2 → Agree (AnyReads (part_of i) xs) b b2 → b2 ≡ a2
    one_state a b a2 b2 first second third fourth h j = fun_ext at
      where
        at_cell : (c : ℕ) (below : Path) (v : Bool) → drives (part_of i) x c ≡ v → (w : Bool) → all_drive (part_of i) xs c ≡ w → b2 (c ∷ below) ≡ a2 (c ∷ below)
        at_cell c below true e true f = absurd (apart.other c f (footprints.driven e))
        at_cell c below true e false f = fourth.others c below f ∙ h c below (footprints.driven e)
        at_cell c below false e true f = sym (j c below (all_drive_reads (part_of i) xs c f)) ∙ sym (third.others c below e)
        at_cell c below false e false f = fourth.others c below f ∙ first.others c below e ∙ sym (second.others c below f) ∙ sym (third.others c below e)

        at : (path : Path) → b2 path ≡ a2 path
        at [] = fourth.top ∙ first.top ∙ sym second.top ∙ sym third.top
        at (c ∷ below) = at_cell c below (drives (part_of i) x c) refl (all_drive (part_of i) xs c) refl

    cross : (y : Stepped (Option Open)) (z : Stepped Opens) → StepsIn (drives (part_of i) x) s y → StepsIn (all_drive (part_of i) xs) s z
        → ((t : State) → Agree (Reads (part_of i) x) s t → AlikeStep (Reads (part_of i) x) y (step i held arm k t)) → ((t : State) → StepsIn (drives (part_of i) x) t (step i held arm k t))
        → ((t : State) → Agree (AnyReads (part_of i) xs) s t → AlikeStep (AnyReads (part_of i) xs) z (step_arms i held arms l t)) → ((t : State) → StepsIn (all_drive (part_of i) xs) t (step_arms i held arms l t))
        → JoinArms i held (within (arms_left v arms) y) (within (an_arm v arm) z)
    cross (Now left a) (Now bs b) only_y only_z alike_y again_y alike_z again_z =
        let (b2, e2, h2) = alike_z a (one_off a only_y) in
        let (a2, e1, h1) = alike_y b (other_off b only_z) in
        let only_a2 : OnlyIn (drives (part_of i) x) b a2 = subst (λ w. StepsIn (drives (part_of i) x) b w) e1 (again_y b) in
        let only_b2 : OnlyIn (all_drive (part_of i) xs) a b2 = subst (λ w. StepsIn (all_drive (part_of i) xs) a w) e2 (again_z a) in
        let same : b2 ≡ a2 = one_state a b a2 b2 only_y only_z only_a2 only_b2 h1 h2 in
        let gone = arm_gone left a bs b2 e2 in
        record {
          l = gone.0;
          k = k;
          l_within = gone.1;
          k_within = first_count i held v bs arm k k_within;
          left = arms_left v bs left;
          after = a2;
          first = gone.2 ∙ ap (Now (arms_left v bs left)) same;
          second = in_first i held v bs arm k b k_within ∙ ap (within (arms_left v bs)) e1;
        }
    cross (Now left a) (Stops f) only_y only_z alike_y again_y alike_z again_z = arm_stops left a f (alike_z a (one_off a only_y))
    cross (Stops f) (Now bs b) only_y only_z alike_y again_y alike_z again_z =
        record { l = k; l_within = first_count i held v bs arm k k_within; halts = in_first i held v bs arm k b k_within ∙ ap (within (arms_left v bs)) (alike_y b (other_off b only_z)) }
    cross (Stops f) (Stops g) only_y only_z alike_y again_y alike_z again_z = tt

one_leaf : (k l : ℕ) → k < 1 → l < 1 → (k ≡ l → ⊥) → ⊥
one_leaf k l h j differ = differ (let e : k ≡ l = omega arith in e)

-- TURNS OF TWO LEAVES
mutual
  pub joins : (i : Instance) → AllSound i → (held : Held) (st : PlainStatement) → Stands i st → (o : Open) → Fits i st o → (k l : ℕ) → k < leaves_of o → l < leaves_of o → (k ≡ l → ⊥) → (s : State)
      → Joins i held (step i held o k s) (step i held o l s)
  joins i all held st stands Idling fits k l m n differ s = absurd (one_leaf k l m n differ)
  joins i all held st stands (InGroup g) fits k l m n differ s = absurd (one_leaf k l m n differ)
  joins i all held st stands (Choosing port comb a b) fits k l m n differ s = absurd (one_leaf k l m n differ)
  joins i all held st stands (Testing port comb body) fits k l m n differ s = absurd (one_leaf k l m n differ)
  joins i all held st stands (InIsland form t left h) fits k l m n differ s = absurd (one_leaf k l m n differ)
  joins i all held st stands (Capturing g c) fits k l m n differ s = absurd (one_leaf k l m n differ)
  joins i all held st stands (Closing g) fits k l m n differ s = absurd (one_leaf k l m n differ)
  joins i all held st stands Waiting fits k l m n differ s = absurd (one_leaf k l m n differ)
  joins i all held st stands (InSeq first later) (fits, rest) k l m n differ s = joins_seq i held later (step i held first k s) (step i held first l s) (joins i all held st stands first fits k l m n differ s)
  joins i all held st stands (InPar arms) (x, xs, fits) k l m n differ s = joins_par i held (step_arms i held arms k s) (step_arms i held arms l s) (join_arms i all held st (x ∷ xs) arms fits k l m n differ s)
  joins i all held st stands (InLoop run port comb body) (fits, tested_so, inside) k l m n differ s = joins_loop i held port comb body (step i held run k s) (step i held run l s) (joins i all held st stands run fits k l m n differ s)
  joins i all held st stands (InRepeat run left body) (fits, rest) k l m n differ s = joins_repeat i held left body (step i held run k s) (step i held run l s) (joins i all held st stands run fits k l m n differ s)
  joins i all held st stands (InCall g c inputs child) (j, on, fits) k l m n differ s =
      joins_call i held g c (inputs_for inputs (inputs_seen i held g c s)) s
      (step (instance_at i (c ∷ [])) (held_as (inputs_for inputs (inputs_seen i held g c s))) child k (under c s))
      (step (instance_at i (c ∷ [])) (held_as (inputs_for inputs (inputs_seen i held g c s))) child l (under c s))
      (joins (instance_at i (c ∷ [])) (sound_below i all c) (held_as (inputs_for inputs (inputs_seen i held g c s))) (part_of (instance_at i (c ∷ []))).control (itself (part_of (instance_at i (c ∷ []))).control) child fits k l m n differ (under c s))

  join_arms : (i : Instance) → AllSound i → (held : Held) (st : PlainStatement) (list : List PlainStatement) (arms : Opens) → ArmsFit i st list arms → (k l : ℕ) → k < leaves_of_all arms → l < leaves_of_all arms → (k ≡ l → ⊥) → (s : State)
      → JoinArms i held (step_arms i held arms k s) (step_arms i held arms l s)
  join_arms i all held st [] no_arms fits k l m n differ s = absurd (no_less k m)
  join_arms i all held st [] (an_arm v arm arms) fits k l m n differ s = absurd fits
  join_arms i all held st (x ∷ xs) no_arms fits k l m n differ s = absurd fits
  join_arms i all held st (x ∷ xs) (an_arm v arm arms) (is, one, apart, rest) k l m n differ s =
      go (nat_lt k (leaves_of arm)) refl (nat_lt l (leaves_of arm)) refl
      (λ u w. joins i all held x is.stands arm one k l u w differ s)
      (λ u w other. join_arms i all held st xs arms rest (k - leaves_of arm) (l - leaves_of arm) u w other s)
    where
      beside : (p q : ℕ) → p < leaves_of arm → q < leaves_of_all arms → JoinArms i held (within (arms_left v arms) (step i held arm p s)) (within (an_arm v arm) (step_arms i held arms q s))
      beside p q u w =
          cross i held x xs apart v arm arms p q u w s (step i held arm p s) (step_arms i held arms q s) (step_only i held x arm one p s) (arms_only i held st xs arms rest q s)
          (λ t agree. step_alike i (sound_here i all) held x is.stands arm one p s t agree) (λ t. step_only i held x arm one p t)
          (λ t agree. arms_alike i (sound_here i all) held st xs arms rest q s t agree) (λ t. arms_only i held st xs arms rest q t)

      go : (b : Bool) → nat_lt k (leaves_of arm) ≡ b → (c : Bool) → nat_lt l (leaves_of arm) ≡ c
          → (k < leaves_of arm → l < leaves_of arm → Joins i held (step i held arm k s) (step i held arm l s))
          → (k - leaves_of arm < leaves_of_all arms → l - leaves_of arm < leaves_of_all arms → (k - leaves_of arm ≡ l - leaves_of arm → ⊥) → JoinArms i held (step_arms i held arms (k - leaves_of arm) s) (step_arms i held arms (l - leaves_of arm) s))
          → JoinArms i held (first_or b (within (arms_left v arms) (step i held arm k s)) (within (an_arm v arm) (step_arms i held arms (k - leaves_of arm) s)))
          (first_or c (within (arms_left v arms) (step i held arm l s)) (within (an_arm v arm) (step_arms i held arms (l - leaves_of arm) s)))
      go true e true f both later = joins_first i held v arms (step i held arm k s) (step i held arm l s) (both (ltb-true k (leaves_of arm) e) (ltb-true l (leaves_of arm) f))
      go true e false f both later =
          let past : leaves_of arm ≤ l = ltb-false l (leaves_of arm) f in
          beside k (l - leaves_of arm) (ltb-true k (leaves_of arm) e) (let h : l - leaves_of arm < leaves_of_all arms = omega arith in h)
      go false e true f both later =
          let past : leaves_of arm ≤ k = ltb-false k (leaves_of arm) e in
          arms_swap i held _ _ (beside l (k - leaves_of arm) (ltb-true l (leaves_of arm) f) (let h : k - leaves_of arm < leaves_of_all arms = omega arith in h))
      go false e false f both later =
          let past : leaves_of arm ≤ k = ltb-false k (leaves_of arm) e in
          let gone : leaves_of arm ≤ l = ltb-false l (leaves_of arm) f in
          joins_later i held v arm (step_arms i held arms (k - leaves_of arm) s) (step_arms i held arms (l - leaves_of arm) s)
          (later (let h : k - leaves_of arm < leaves_of_all arms = omega arith in h) (let h : l - leaves_of arm < leaves_of_all arms = omega arith in h)
          (λ same. differ (let h : k ≡ l = omega arith in h)))
