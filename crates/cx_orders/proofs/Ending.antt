-- A run that ends of what stands in something else: first what stands there ends, and then what is behind it.
use Rattle.std.proofs.Common.{◌≡◌, ℕ, zero, suc, ◌+◌, ◌<◌, Bool, true, false, if◌then◌else◌, List, [], ◌∷◌, Option, Some, None, refl, sym, ap, ◌∙◌, subst, arith}
use Rattle.std.proofs.Math.Path.{fun_ext}
use Rattle.cx_meaning.specs.declared.ports.PortRef.{PortRef}
use Rattle.cx_meaning.specs.declared.sights.Seen.{Seen}
use Rattle.cx_meaning.specs.Designs.{PlainStatement, PlainStatements}
use Rattle.cx_meaning.specs.Instances.{Instance, part_of, Path, State, Set, instance_at, just, put, under}
use Rattle.cx_meaning.specs.Sights.{Held}
use Rattle.cx_meaning.specs.Control.{drives}
use Rattle.cx_meaning.specs.Calls.{captures}
use Rattle.cx_orders.specs.Open.{Open, Waiting, InSeq, InPar, InLoop, InRepeat, InCall, Opens, an_arm, leaves_of}
use Rattle.cx_orders.specs.Steps.{Stepped, Now, Stops, within, seq_left, loop_left, repeat_left, arms_left, par_left, behind_child, call_left, lift_step, inputs_seen, held_as, step}
use Rattle.cx_orders.proofs.OwnTurns.{OnlyIn, only_same}
use Rattle.cx_orders.proofs.Inside.{Stands}
use Rattle.cx_orders.proofs.Fits.{Fits, AllSound}
use Rattle.cx_orders.proofs.StepFrames.{StepsIn, step_only}
use Rattle.cx_orders.proofs.StepFits.{LeftFits, StepFits, step_fits}
use Rattle.cx_orders.proofs.Joins.{in_first, call_again}
use Rattle.cx_orders.proofs.Orders.{Goes, EndsIn, any_leaf}
use Rattle.cx_meaning.proofs.InstancesLemmas.{just_true}

-- what is open ends in a state, and then comes what is behind it
pub record Splits (i : Instance) (held : Held) (m : ℕ) (o : Open) (s : State) (behind : ℕ → State → Type 0) : Type 0 where
  pub one : ℕ
  pub two : ℕ
  pub sum : m ≡ one + two
  pub middle : State
  pub first : EndsIn i held middle one (Some o) s
  pub then_behind : behind two middle

-- a turn that leaves something, and one that ends it
module _ (i : Instance) (held : Held) (behind : ℕ → State → Type 0) (m : ℕ) (o : Open) (s : State) (k : ℕ) (less : k < leaves_of o) where
  pub splits_last : (a : State) → step i held o k s ≡ Now None a → behind m a → Splits i held (suc m) o s behind
  splits_last a e b = record {
    one = 1;
    two = m;
    sum = omega arith;
    middle = a;
    first = (k, less, subst (λ y. Goes y (EndsIn i held a 0)) (sym e) refl);
    then_behind = b;
  }

  pub splits_more : (p : Open) (a : State) → step i held o k s ≡ Now (Some p) a → Splits i held m p a behind → Splits i held (suc m) o s behind
  splits_more p a e r =
      let sum : m ≡ r.one + r.two = r.sum in
      record {
        one = suc r.one;
        two = r.two;
        sum = (let h : suc m ≡ suc r.one + r.two = omega arith in h);
        middle = r.middle;
        first = (k, less, subst (λ y. Goes y (EndsIn i held r.middle r.one)) (sym e) r.first);
        then_behind = r.then_behind;
      }

-- around what stands there alone
module _ (i : Instance) (held : Held) (final : State) (wrap : Open → Open) (f : Option Open → Option Open) (some : (o : Open) → f (Some o) ≡ Some (wrap o))
    (leaves : (o : Open) → leaves_of (wrap o) ≡ leaves_of o) (steps : (o : Open) (k : ℕ) (s : State) → step i held (wrap o) k s ≡ within f (step i held o k s)) where
  abbrev Behind : ℕ → State → Type 0
  Behind n t = EndsIn i held final n (f None) t

  split_turn : (m : ℕ) (o : Open) (s : State) (k : ℕ) → k < leaves_of o → (x : Stepped (Option Open)) → step i held o k s ≡ x → Goes (within f x) (EndsIn i held final m)
      → ((p : Open) (a : State) → EndsIn i held final m (Some (wrap p)) a → Splits i held m p a Behind) → Splits i held (suc m) o s Behind
  split_turn m o s k less (Now None a) same e again = splits_last i held Behind m o s k less a same e
  split_turn m o s k less (Now (Some p) a) same e again = splits_more i held Behind m o s k less p a same (again p a (subst (λ y. EndsIn i held final m y a) (some p) e))
  split_turn m o s k less (Stops g) same e again = absurd e

  split : (m : ℕ) (o : Open) (s : State) → EndsIn i held final m (Some (wrap o)) s → Splits i held m o s Behind
  split zero o s e = absurd e
  split (suc m) o s (k, less, e) =
      split_turn m o s k (subst (λ n. k < n) (leaves o) less) (step i held o k s) refl (subst (λ x. Goes x (EndsIn i held final m)) (steps o k s) e) (λ p a h. split m p a h)

module _ (i : Instance) (held : Held) (final : State) where
  pub seq_splits : (later : PlainStatements) (m : ℕ) (o : Open) (s : State) → EndsIn i held final m (Some (InSeq o later)) s → Splits i held m o s (λ n t. EndsIn i held final n (seq_left i later None) t)
  seq_splits later m o s e = split i held final (λ p. InSeq p later) (seq_left i later) (λ p. refl) (λ p. refl) (λ p k t. refl) m o s e

  pub loop_splits : (port : PortRef) (comb : Option ℕ) (body : PlainStatement) (m : ℕ) (o : Open) (s : State) → EndsIn i held final m (Some (InLoop o port comb body)) s
      → Splits i held m o s (λ n t. EndsIn i held final n (loop_left port comb body None) t)
  loop_splits port comb body m o s e = split i held final (λ p. InLoop p port comb body) (loop_left port comb body) (λ p. refl) (λ p. refl) (λ p k t. refl) m o s e

  pub repeat_splits : (left : ℕ) (body : PlainStatement) (m : ℕ) (o : Open) (s : State) → EndsIn i held final m (Some (InRepeat o left body)) s → Splits i held m o s (λ n t. EndsIn i held final n (repeat_left i left body None) t)
  repeat_splits left body m o s e = split i held final (λ p. InRepeat p left body) (repeat_left i left body) (λ p. refl) (λ p. refl) (λ p k t. refl) m o s e

  pub waiting_stays : (m : ℕ) (s : State) → EndsIn i held final m (Some Waiting) s → ⊥
  waiting_stays zero s e = absurd e
  waiting_stays (suc m) s (k, less, e) = waiting_stays m s e

-- the first arm before the others
module _ (i : Instance) (all : AllSound i) (held : Held) (final : State) (st : PlainStatement) (stands : Stands i st) (v : PlainStatement) (arms : Opens) where
  abbrev Later : ℕ → State → Type 0
  Later n t = EndsIn i held final n (par_left arms) t

  par_turn : (m : ℕ) (o : Open) (s : State) → 0 < leaves_of o → (x : Stepped (Option Open)) → step i held o 0 s ≡ x → StepFits i st (within par_left (within (arms_left v arms) x)) → Goes (within par_left (within (arms_left v arms) x)) (EndsIn i held final m)
      → ((p : Open) (a : State) → Fits i st (InPar (an_arm v p arms)) → EndsIn i held final m (Some (InPar (an_arm v p arms))) a → Splits i held m p a Later) → Splits i held (suc m) o s Later
  par_turn m o s some (Now None a) same fits e again = splits_last i held Later m o s 0 some a same e
  par_turn m o s some (Now (Some p) a) same fits e again = splits_more i held Later m o s 0 some p a same (again p a fits e)
  par_turn m o s some (Stops g) same fits e again = absurd e

  first_leaf : (o : Open) (s : State) → 0 < leaves_of o → step i held (InPar (an_arm v o arms)) 0 s ≡ within par_left (within (arms_left v arms) (step i held o 0 s))
  first_leaf o s some = ap (within par_left) (in_first i held v arms o 0 s some)

  pub par_splits : (m : ℕ) (o : Open) (s : State) → Fits i st (InPar (an_arm v o arms)) → 0 < leaves_of o → ((p : Open) → Fits i st (InPar (an_arm v p arms)) → 0 < leaves_of p) → EndsIn i held final m (Some (InPar (an_arm v o arms))) s → Splits i held m o s Later
  par_splits zero o s fits some others e = absurd e
  par_splits (suc m) o s fits some others (k, less, e) =
      let whole : 0 < leaves_of (InPar (an_arm v o arms)) = omega arith in
      par_turn m o s some (step i held o 0 s) refl
      (subst (StepFits i st) (first_leaf o s some) (step_fits i all held st stands (InPar (an_arm v o arms)) fits 0 s))
      (subst (λ x. Goes x (EndsIn i held final m)) (first_leaf o s some) (any_leaf i all held st stands final m (InPar (an_arm v o arms)) fits s k less e 0 whole))
      (λ p a f h. par_splits m p a f (others p f) others h)

-- the child of a call before what is behind it
pub record CallSplits (i : Instance) (held : Held) (g c : ℕ) (inputs : List Seen) (s final : State) (m : ℕ) (o : Open) (a : State) : Type 0 where
  pub one : ℕ
  pub two : ℕ
  pub sum : m ≡ one + two
  pub own : State
  pub first : EndsIn (instance_at i (c ∷ [])) (held_as inputs) own one (Some o) a
  pub then_behind : EndsIn i held final two (Some (behind_child (captures i g) g c)) (put c own s)

module _ (i : Instance) (held : Held) (g c : ℕ) (inputs : List Seen) (s final : State) where
  call_turn : (m : ℕ) (o : Open) (a : State) (k : ℕ) → k < leaves_of o → (x : Stepped (Option Open)) → step (instance_at i (c ∷ [])) (held_as inputs) o k a ≡ x → Goes (lift_step c s (call_left i g c inputs) x) (EndsIn i held final m)
      → ((p : Open) (b : State) → EndsIn i held final m (Some (InCall g c (Some inputs) p)) (put c b s) → CallSplits i held g c inputs s final m p b) → CallSplits i held g c inputs s final (suc m) o a
  call_turn m o a k less (Now None own) same e again = record {
    one = 1;
    two = m;
    sum = omega arith;
    own = own;
    first = (k, less, subst (λ y. Goes y (EndsIn (instance_at i (c ∷ [])) (held_as inputs) own 0)) (sym same) refl);
    then_behind = e;
  }
  call_turn m o a k less (Now (Some p) b) same e again =
      let r = again p b e in
      let sum : m ≡ r.one + r.two = r.sum in
      record {
        one = suc r.one;
        two = r.two;
        sum = (let h : suc m ≡ suc r.one + r.two = omega arith in h);
        own = r.own;
        first = (k, less, subst (λ y. Goes y (EndsIn (instance_at i (c ∷ [])) (held_as inputs) r.own r.one)) (sym same) r.first);
        then_behind = r.then_behind;
      }
  call_turn m o a k less (Stops f) same e again = absurd e

  pub call_splits : (m : ℕ) (o : Open) (a : State) → EndsIn i held final m (Some (InCall g c (Some inputs) o)) (put c a s) → CallSplits i held g c inputs s final m o a
  call_splits zero o a e = absurd e
  call_splits (suc m) o a (k, less, e) =
      call_turn m o a k less (step (instance_at i (c ∷ [])) (held_as inputs) o k a) refl (subst (λ x. Goes x (EndsIn i held final m)) (call_again i held g c inputs s o k a) e) (λ p b h. call_splits m p b h)

-- the first turn of a call, with the inputs that it sees
pub call_begins : (i : Instance) (held : Held) (g c : ℕ) (final : State) (m : ℕ) (o : Open) (s : State) → EndsIn i held final m (Some (InCall g c None o)) s → EndsIn i held final m (Some (InCall g c (Some (inputs_seen i held g c s)) o)) s
call_begins i held g c final zero o s e = e
call_begins i held g c final (suc m) o s e = e

pub put_same : (c : ℕ) (s : State) → put c (under c s) s ≡ s
put_same c s = fun_ext at
  where
    pick : (e : ℕ) (path : Path) (b : Bool) → just c e ≡ b → (if b then s (c ∷ path) else s (e ∷ path)) ≡ s (e ∷ path)
    pick e path true same = ap (λ k. s (k ∷ path)) (just_true c e same)
    pick e path false same = refl

    at : (path : Path) → put c (under c s) s path ≡ s path
    at [] = refl
    at (e ∷ path) = pick e path (just c e) refl

-- a run that ends changes only driven cells
only_then : (driven : Set) (s a b : State) → OnlyIn driven s a → OnlyIn driven a b → OnlyIn driven s b
only_then driven s a b h k = record { top = k.top ∙ h.top; others = λ c below e. k.others c below e ∙ h.others c below e }

module _ (i : Instance) (all : AllSound i) (held : Held) (st : PlainStatement) (stands : Stands i st) (final : State) where
  ends_turn : (m : ℕ) (s : State) (x : Stepped (Option Open)) → StepsIn (drives (part_of i) st) s x → StepFits i st x → Goes x (EndsIn i held final m)
      → ((now : Option Open) (a : State) → LeftFits i st now → EndsIn i held final m now a → OnlyIn (drives (part_of i) st) a final) → OnlyIn (drives (part_of i) st) s final
  ends_turn m s (Now left a) only fits e again = only_then (drives (part_of i) st) s a final only (again left a fits e)
  ends_turn m s (Stops f) only fits e again = absurd e

  pub ends_only : (m : ℕ) (now : Option Open) (s : State) → LeftFits i st now → EndsIn i held final m now s → OnlyIn (drives (part_of i) st) s final
  ends_only zero None s fits e = subst (OnlyIn (drives (part_of i) st) s) e (only_same (drives (part_of i) st) s)
  ends_only zero (Some o) s fits e = absurd e
  ends_only (suc m) None s fits e = absurd e
  ends_only (suc m) (Some o) s fits (k, less, e) =
      ends_turn m s (step i held o k s) (step_only i held st o fits k s) (step_fits i all held st stands o fits k s) e (λ now a f h. ends_only m now a f h)
