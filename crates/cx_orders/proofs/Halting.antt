-- Runs by choices that come to a fault, and what they are of what stands in something else.
use Rattle.std.proofs.Common.{◌≡◌, ℕ, zero, suc, ◌+◌, ◌<◌, ◌⊎◌, inl, inr, List, [], ◌∷◌, Option, Some, None, refl, sym, subst, arith}
use Rattle.std.proofs.lemmas.Nat.{mod_below}
use Rattle.cx_meaning.specs.declared.ports.PortRef.{PortRef}
use Rattle.cx_meaning.specs.declared.sights.Seen.{Seen}
use Rattle.cx_meaning.specs.Designs.{PlainStatement, PlainStatements}
use Rattle.cx_meaning.specs.Instances.{Instance, part_of, State, instance_at, put, under}
use Rattle.cx_meaning.specs.Sights.{Held}
use Rattle.cx_meaning.specs.Cycles.{Fault}
use Rattle.cx_meaning.specs.Calls.{captures, fault_below}
use Rattle.cx_rules.specs.Footprints.{Reads}
use Rattle.cx_frames.specs.Agreeing.{Agree}
use Rattle.cx_orders.specs.Open.{Open, Waiting, InSeq, InLoop, InRepeat, InCall, leaves_of}
use Rattle.cx_orders.specs.Steps.{Stepped, Now, Stops, within, seq_left, loop_left, repeat_left, behind_child, call_left, lift_step, inputs_seen, held_as, step}
use Rattle.cx_orders.specs.Woven.{Woven, Ends, Faults, More, Choices, leaf_of, then_weave, weave_from, then_open, open_from}
use Rattle.cx_orders.proofs.Inside.{Stands}
use Rattle.cx_orders.proofs.Fits.{AllSound, sound_here}
use Rattle.cx_orders.proofs.StepFrames.{AlikeStep, step_alike}
use Rattle.cx_orders.proofs.StepFits.{LeftFits, StepFits, step_fits}
use Rattle.cx_orders.proofs.Joins.{call_again}
use Rattle.cx_orders.proofs.Orders.{Goes, EndsIn, leaves_some}
use Rattle.cx_orders.proofs.Ending.{Splits, splits_last, splits_more}

-- a turn that has this fault
abbrev pub Stopped : {A : Type 0} → Fault → Stepped A → Type 0
Stopped fault (Now left after) = ⊥
Stopped fault (Stops g) = g ≡ fault

-- after so many turns of any leaves this is open, and a leaf of it has the fault
abbrev pub HaltsIn : Instance → Held → Fault → Open → ℕ → ℕ → Option Open → State → Type 0
HaltsIn i held fault last leaf m None s = ⊥
HaltsIn i held fault last leaf zero (Some o) s = (o ≡ last) × (leaf < leaves_of o) × Stopped fault (step i held o leaf s)
HaltsIn i held fault last leaf (suc m) (Some o) s = (k : ℕ) × (k < leaves_of o) × Goes (step i held o k s) (HaltsIn i held fault last leaf m)

-- a woven run that faults is one of so many turns
module _ (i : Instance) (all : AllSound i) (held : Held) (st : PlainStatement) (stands : Stands i st) (choice : Choices) (fault : Fault) (total : ℕ) where
  pub record Faulted (made : ℕ) (opens : ℕ → Stepped (Option Open)) (goal : Open → ℕ → Type 0) : Type 0 where
    pub turns : ℕ
    pub count : total ≡ made + turns
    pub last : Open
    pub after : State
    pub open_then : opens turns ≡ Now (Some last) after
    pub halts : goal last turns

  abbrev Halts : Open → ℕ → Option Open → State → Type 0
  Halts last m now s = HaltsIn i held fault last (leaf_of (choice total) last) m now s

  ends_not : (s : State) (made sum : ℕ) → Ends s made sum ≡ Faults fault total → ⊥
  ends_not s made sum e = cc

  more_not : More ≡ Faults fault total → ⊥
  more_not e = cc

  same_count : (f : Fault) (made : ℕ) → Faults f made ≡ Faults fault total → made ≡ total
  same_count f made e = cc

  same_fault : (f : Fault) (made : ℕ) → Faults f made ≡ Faults fault total → f ≡ fault
  same_fault f made e = cc

  -- either the turn faults, or a later one
  abbrev Turned : ℕ → Stepped (Option Open) → Type 0
  Turned made x = ((total ≡ made) × Stopped fault x) ⊎ Faulted (suc made) (λ m. then_open x (open_from i held choice m (suc made))) (λ last m. Goes x (Halts last m))

  then_faulted : (made : ℕ) (x : Stepped (Option Open)) (go : Option Open → State → Woven) → StepFits i st x → then_weave made x go ≡ Faults fault total
      → ((now : Option Open) → LeftFits i st now → (s : State) → go now s ≡ Faults fault total → Faulted (suc made) (λ m. open_from i held choice m (suc made) now s) (λ last m. Halts last m now s)) → Turned made x
  then_faulted made (Now left after) go fits e h = inr (h left fits after e)
  then_faulted made (Stops f) go fits e h = inl (sym (same_count f made e), same_fault f made e)

  of_turned : (made : ℕ) (o : Open) (s : State) → leaf_of (choice made) o < leaves_of o → Turned made (step i held o (leaf_of (choice made) o) s) → Faulted made (λ m. open_from i held choice m made (Some o) s) (λ last m. Halts last m (Some o) s)
  of_turned made o s less (inl (e, stopped)) = record {
    turns = 0;
    count = (let h : total ≡ made + 0 = omega arith in h);
    last = o;
    after = s;
    open_then = refl;
    halts = (refl, subst (λ n. leaf_of (choice n) o < leaves_of o) (sym e) less, subst (λ n. Stopped fault (step i held o (leaf_of (choice n) o) s)) (sym e) stopped);
  }
  of_turned made o s less (inr later) =
      let count : total ≡ suc made + later.turns = later.count in
      record {
        turns = suc later.turns;
        count = (let h : total ≡ made + suc later.turns = omega arith in h);
        last = later.last;
        after = later.after;
        open_then = later.open_then;
        halts = (leaf_of (choice made) o, less, later.halts);
      }

  pub faulted_so : (left made sum : ℕ) (now : Option Open) → LeftFits i st now → (s : State) → weave_from i held choice left made sum now s ≡ Faults fault total
      → Faulted made (λ m. open_from i held choice m made now s) (λ last m. Halts last m now s)
  faulted_so left made sum None fits s e = absurd (ends_not s made sum e)
  faulted_so zero made sum (Some o) fits s e = absurd (more_not e)
  faulted_so (suc left) made sum (Some o) fits s e =
      of_turned made o s (mod_below (choice made) (leaves_of o) (leaves_some i st o fits))
      (then_faulted made (step i held o (leaf_of (choice made) o) s) (weave_from i held choice left (suc made) (sum + leaf_of (choice made) o))
      (step_fits i all held st stands o fits (leaf_of (choice made) o) s) e
      (λ now h t f. faulted_so left (suc made) (sum + leaf_of (choice made) o) now h t f))

-- around what stands there alone: it has the fault, or it ends before
module _ (i : Instance) (held : Held) (fault : Fault) (last : Open) (leaf : ℕ) (wrap : Open → Open) (f : Option Open → Option Open) (some : (o : Open) → f (Some o) ≡ Some (wrap o))
    (leaves : (o : Open) → leaves_of (wrap o) ≡ leaves_of o) (steps : (o : Open) (k : ℕ) (s : State) → step i held (wrap o) k s ≡ within f (step i held o k s)) where
  abbrev Behind : ℕ → State → Type 0
  Behind n t = HaltsIn i held fault last leaf n (f None) t

  -- what stands there halts, around which this is open at last
  abbrev Itself : ℕ → Open → State → Type 0
  Itself m o s = (q : Open) × (last ≡ wrap q) × HaltsIn i held fault q leaf m (Some o) s

  within_stopped : (x : Stepped (Option Open)) → Stopped fault (within f x) → Stopped fault x
  within_stopped (Now left after) h = h
  within_stopped (Stops g) h = h

  halt_more : (m : ℕ) (o : Open) (s : State) (k : ℕ) → k < leaves_of o → (p : Open) (a : State) → step i held o k s ≡ Now (Some p) a → Itself m p a ⊎ Splits i held m p a Behind → Itself (suc m) o s ⊎ Splits i held (suc m) o s Behind
  halt_more m o s k less p a same (inl (q, is, h)) = inl (q, is, (k, less, subst (λ y. Goes y (HaltsIn i held fault q leaf m)) (sym same) h))
  halt_more m o s k less p a same (inr r) = inr (splits_more i held Behind m o s k less p a same r)

  halt_turn : (m : ℕ) (o : Open) (s : State) (k : ℕ) → k < leaves_of o → (x : Stepped (Option Open)) → step i held o k s ≡ x → Goes (within f x) (HaltsIn i held fault last leaf m)
      → ((p : Open) (a : State) → HaltsIn i held fault last leaf m (Some (wrap p)) a → Itself m p a ⊎ Splits i held m p a Behind) → Itself (suc m) o s ⊎ Splits i held (suc m) o s Behind
  halt_turn m o s k less (Now None a) same e again = inr (splits_last i held Behind m o s k less a same e)
  halt_turn m o s k less (Now (Some p) a) same e again = halt_more m o s k less p a same (again p a (subst (λ y. HaltsIn i held fault last leaf m y a) (some p) e))
  halt_turn m o s k less (Stops g) same e again = absurd e

  halt : (m : ℕ) (o : Open) (s : State) → HaltsIn i held fault last leaf m (Some (wrap o)) s → Itself m o s ⊎ Splits i held m o s Behind
  halt zero o s (is, less, e) = inl (o, sym is, (refl, subst (λ n. leaf < n) (leaves o) less, within_stopped (step i held o leaf s) (subst (Stopped fault) (steps o leaf s) e)))
  halt (suc m) o s (k, less, e) =
      halt_turn m o s k (subst (λ n. k < n) (leaves o) less) (step i held o k s) refl (subst (λ x. Goes x (HaltsIn i held fault last leaf m)) (steps o k s) e) (λ p a h. halt m p a h)

module _ (i : Instance) (held : Held) (fault : Fault) (last : Open) (leaf : ℕ) where
  pub seq_halts : (later : PlainStatements) (m : ℕ) (o : Open) (s : State) → HaltsIn i held fault last leaf m (Some (InSeq o later)) s
      → ((q : Open) × (last ≡ InSeq q later) × HaltsIn i held fault q leaf m (Some o) s) ⊎ Splits i held m o s (λ n t. HaltsIn i held fault last leaf n (seq_left i later None) t)
  seq_halts later m o s e = halt i held fault last leaf (λ p. InSeq p later) (seq_left i later) (λ p. refl) (λ p. refl) (λ p k t. refl) m o s e

  pub loop_halts : (port : PortRef) (comb : Option ℕ) (body : PlainStatement) (m : ℕ) (o : Open) (s : State) → HaltsIn i held fault last leaf m (Some (InLoop o port comb body)) s
      → ((q : Open) × (last ≡ InLoop q port comb body) × HaltsIn i held fault q leaf m (Some o) s) ⊎ Splits i held m o s (λ n t. HaltsIn i held fault last leaf n (loop_left port comb body None) t)
  loop_halts port comb body m o s e = halt i held fault last leaf (λ p. InLoop p port comb body) (loop_left port comb body) (λ p. refl) (λ p. refl) (λ p k t. refl) m o s e

  pub repeat_halts : (left : ℕ) (body : PlainStatement) (m : ℕ) (o : Open) (s : State) → HaltsIn i held fault last leaf m (Some (InRepeat o left body)) s
      → ((q : Open) × (last ≡ InRepeat q left body) × HaltsIn i held fault q leaf m (Some o) s) ⊎ Splits i held m o s (λ n t. HaltsIn i held fault last leaf n (repeat_left i left body None) t)
  repeat_halts left body m o s e = halt i held fault last leaf (λ p. InRepeat p left body) (repeat_left i left body) (λ p. refl) (λ p. refl) (λ p k t. refl) m o s e

  pub waiting_goes_on : (m : ℕ) (s : State) → HaltsIn i held fault last leaf m (Some Waiting) s → ⊥
  waiting_goes_on zero s (is, less, e) = e
  waiting_goes_on (suc m) s (k, less, e) = waiting_goes_on m s e

-- the child of a call
pub record CallHalts (i : Instance) (held : Held) (fault : Fault) (last : Open) (leaf g c : ℕ) (inputs : List Seen) (s : State) (m : ℕ) (o : Open) (a : State) : Type 0 where
  pub one : ℕ
  pub two : ℕ
  pub sum : m ≡ one + two
  pub own : State
  pub first : EndsIn (instance_at i (c ∷ [])) (held_as inputs) own one (Some o) a
  pub then_behind : HaltsIn i held fault last leaf two (Some (behind_child (captures i g) g c)) (put c own s)

module _ (i : Instance) (held : Held) (fault : Fault) (last : Open) (leaf g c : ℕ) (inputs : List Seen) (s : State) where
  -- the child has a fault, which is the fault below the call
  abbrev pub ChildHas : ℕ → Open → State → Type 0
  ChildHas m o a = (own : Fault) × (q : Open) × (before : Option (List Seen)) × (fault_below c own ≡ fault) × (last ≡ InCall g c before q) × HaltsIn (instance_at i (c ∷ [])) (held_as inputs) own q leaf m (Some o) a

  abbrev Child : ℕ → Open → State → Type 0
  Child m o a = ChildHas m o a ⊎ CallHalts i held fault last leaf g c inputs s m o a

  lift_stopped : (f : Option Open → Option Open) (x : Stepped (Option Open)) → Stopped fault (lift_step c s f x) → (own : Fault) × (fault_below c own ≡ fault) × Stopped own x
  lift_stopped f (Now left a) h = absurd h
  lift_stopped f (Stops own) h = (own, h, refl)

  pub stopped_child : (before : Option (List Seen)) (o : Open) (a : State) → InCall g c before o ≡ last → leaf < leaves_of o → Stopped fault (lift_step c s (call_left i g c inputs) (step (instance_at i (c ∷ [])) (held_as inputs) o leaf a)) → ChildHas 0 o a
  stopped_child before o a is less e =
      let r = lift_stopped (call_left i g c inputs) (step (instance_at i (c ∷ [])) (held_as inputs) o leaf a) e in
      (r.0, o, before, r.1, sym is, (refl, less, r.2))

  call_more : (m : ℕ) (o : Open) (a : State) (k : ℕ) → k < leaves_of o → (p : Open) (b : State) → step (instance_at i (c ∷ [])) (held_as inputs) o k a ≡ Now (Some p) b → Child m p b → Child (suc m) o a
  call_more m o a k less p b same (inl (own, q, before, below, is, h)) = inl (own, q, before, below, is, (k, less, subst (λ y. Goes y (HaltsIn (instance_at i (c ∷ [])) (held_as inputs) own q leaf m)) (sym same) h))
  call_more m o a k less p b same (inr r) =
      let sum : m ≡ r.one + r.two = r.sum in
      inr (record {
        one = suc r.one;
        two = r.two;
        sum = (let h : suc m ≡ suc r.one + r.two = omega arith in h);
        own = r.own;
        first = (k, less, subst (λ y. Goes y (EndsIn (instance_at i (c ∷ [])) (held_as inputs) r.own r.one)) (sym same) r.first);
        then_behind = r.then_behind;
      })

  call_turn : (m : ℕ) (o : Open) (a : State) (k : ℕ) → k < leaves_of o → (x : Stepped (Option Open)) → step (instance_at i (c ∷ [])) (held_as inputs) o k a ≡ x → Goes (lift_step c s (call_left i g c inputs) x) (HaltsIn i held fault last leaf m)
      → ((p : Open) (b : State) → HaltsIn i held fault last leaf m (Some (InCall g c (Some inputs) p)) (put c b s) → Child m p b) → Child (suc m) o a
  call_turn m o a k less (Now None own) same e again = inr (record {
    one = 1;
    two = m;
    sum = omega arith;
    own = own;
    first = (k, less, subst (λ y. Goes y (EndsIn (instance_at i (c ∷ [])) (held_as inputs) own 0)) (sym same) refl);
    then_behind = e;
  })
  call_turn m o a k less (Now (Some p) b) same e again = call_more m o a k less p b same (again p b e)
  call_turn m o a k less (Stops f) same e again = absurd e

  pub call_halts : (m : ℕ) (o : Open) (a : State) → HaltsIn i held fault last leaf m (Some (InCall g c (Some inputs) o)) (put c a s) → Child m o a
  call_halts zero o a (is, less, e) = inl (stopped_child (Some inputs) o a is less (subst (Stopped fault) (call_again i held g c inputs s o leaf a) e))
  call_halts (suc m) o a (k, less, e) =
      call_turn m o a k less (step (instance_at i (c ∷ [])) (held_as inputs) o k a) refl (subst (λ x. Goes x (HaltsIn i held fault last leaf m)) (call_again i held g c inputs s o k a) e) (λ p b h. call_halts m p b h)

-- a call before its first turn: that is the fault of its child, or its inputs are seen in it
pub halting_begins : (i : Instance) (held : Held) (fault : Fault) (last : Open) (leaf g c : ℕ) (m : ℕ) (o : Open) (s : State) → HaltsIn i held fault last leaf m (Some (InCall g c None o)) s
    → ChildHas i held fault last leaf g c (inputs_seen i held g c s) s m o (under c s) ⊎ HaltsIn i held fault last leaf m (Some (InCall g c (Some (inputs_seen i held g c s)) o)) s
halting_begins i held fault last leaf g c zero o s (is, less, e) = inl (stopped_child i held fault last leaf g c (inputs_seen i held g c s) s None o (under c s) is less e)
halting_begins i held fault last leaf g c (suc m) o s e = inr e

-- WHAT IS READ ALONE decides whether it halts
module _ (i : Instance) (all : AllSound i) (held : Held) (fault : Fault) (last : Open) (leaf : ℕ) (st : PlainStatement) (stands : Stands i st) where
  stop_alike : (x y : Stepped (Option Open)) → AlikeStep (Reads (part_of i) st) x y → Stopped fault x → Stopped fault y
  stop_alike (Now left a) y h e = absurd e
  stop_alike (Stops f) y h e = subst (Stopped fault) (sym h) e

  go_alike : (m : ℕ) (x y : Stepped (Option Open)) → AlikeStep (Reads (part_of i) st) x y → StepFits i st x → Goes x (HaltsIn i held fault last leaf m)
      → ((now : Option Open) (s t : State) → LeftFits i st now → Agree (Reads (part_of i) st) s t → HaltsIn i held fault last leaf m now s → HaltsIn i held fault last leaf m now t) → Goes y (HaltsIn i held fault last leaf m)
  go_alike m (Now left a) y (b, same, agree) fits e again = subst (λ z. Goes z (HaltsIn i held fault last leaf m)) (sym same) (again left a b fits agree e)
  go_alike m (Stops f) y h fits e again = absurd e

  pub halts_alike : (m : ℕ) (now : Option Open) (s t : State) → LeftFits i st now → Agree (Reads (part_of i) st) s t → HaltsIn i held fault last leaf m now s → HaltsIn i held fault last leaf m now t
  halts_alike m None s t fits agree e = absurd e
  halts_alike zero (Some o) s t fits agree (is, less, e) = (is, less, stop_alike (step i held o leaf s) (step i held o leaf t) (step_alike i (sound_here i all) held st stands o fits leaf s t agree) e)
  halts_alike (suc m) (Some o) s t fits agree (k, less, e) = (
    k,
    less,
    go_alike m (step i held o k s) (step i held o k t) (step_alike i (sound_here i all) held st stands o fits k s t agree) (step_fits i all held st stands o fits k s) e
        (λ now a b f g h. halts_alike m now a b f g h),
  )
