-- What stands in something else ends, and then what is behind it does: so the whole ends.
use Rattle.std.proofs.Common.{◌≡◌, ℕ, zero, suc, ◌<◌, List, [], ◌∷◌, Option, Some, None, refl, sym, ap, ◌∙◌, subst, arith}
use Rattle.cx_meaning.specs.declared.ports.PortRef.{PortRef}
use Rattle.cx_meaning.specs.declared.sights.Seen.{Seen}
use Rattle.cx_meaning.specs.Designs.{PlainStatement, PlainStatements}
use Rattle.cx_meaning.specs.Instances.{Instance, State, instance_at, put}
use Rattle.cx_meaning.specs.Sights.{Held}
use Rattle.cx_meaning.specs.Calls.{captures}
use Rattle.cx_orders.specs.Open.{Open, InSeq, InPar, InLoop, InRepeat, InCall, Opens, an_arm, leaves_of}
use Rattle.cx_orders.specs.Steps.{Stepped, Now, Stops, within, seq_left, loop_left, repeat_left, arms_left, par_left, behind_child, call_left, lift_step, inputs_seen, held_as, step}
use Rattle.cx_orders.proofs.Joins.{in_first, call_again}
use Rattle.cx_orders.proofs.Orders.{Goes, EndsIn}

-- so many turns of some leaves end in this state
abbrev pub SomeEnd : Instance → Held → State → Option Open → State → Type 0
SomeEnd i held final now s = (m : ℕ) × EndsIn i held final m now s

-- around what stands there
module _ (i : Instance) (held : Held) (final : State) (wrap : Open → Open) (f : Option Open → Option Open) (some : (o : Open) → f (Some o) ≡ Some (wrap o))
    (leaves : (o : Open) (k : ℕ) → k < leaves_of o → k < leaves_of (wrap o)) (steps : (o : Open) (k : ℕ) (s : State) → k < leaves_of o → step i held (wrap o) k s ≡ within f (step i held o k s)) where
  join_turn : (one : ℕ) (middle : State) (x : Stepped (Option Open)) → Goes x (EndsIn i held middle one) → SomeEnd i held final (f None) middle
      → ((p : Open) (a : State) → EndsIn i held middle one (Some p) a → SomeEnd i held final (Some (wrap p)) a) → (m : ℕ) × Goes (within f x) (EndsIn i held final m)
  join_turn zero middle (Now None a) e h again = subst (λ t. SomeEnd i held final (f None) t) (sym e) h
  join_turn (suc one) middle (Now None a) e h again = absurd e
  join_turn one middle (Now (Some p) a) e h again = subst (λ now. SomeEnd i held final now a) (sym (some p)) (again p a e)
  join_turn one middle (Stops g) e h again = absurd e

  join : (one : ℕ) (o : Open) (s middle : State) → EndsIn i held middle one (Some o) s → SomeEnd i held final (f None) middle → SomeEnd i held final (Some (wrap o)) s
  join zero o s middle e h = absurd e
  join (suc one) o s middle (k, less, e) h =
      let r = join_turn one middle (step i held o k s) e h (λ p a g. join one p a middle g h) in
      (suc r.0, (k, leaves o k less, subst (λ x. Goes x (EndsIn i held final r.0)) (sym (steps o k s less)) r.1))

module _ (i : Instance) (held : Held) (final : State) (one : ℕ) (o : Open) (s middle : State) where
  pub seq_joins : (later : PlainStatements) → EndsIn i held middle one (Some o) s → SomeEnd i held final (seq_left i later None) middle → SomeEnd i held final (Some (InSeq o later)) s
  seq_joins later e h = join i held final (λ p. InSeq p later) (seq_left i later) (λ p. refl) (λ p k less. less) (λ p k t less. refl) one o s middle e h

  pub loop_joins : (port : PortRef) (comb : Option ℕ) (body : PlainStatement) → EndsIn i held middle one (Some o) s → SomeEnd i held final (loop_left port comb body None) middle → SomeEnd i held final (Some (InLoop o port comb body)) s
  loop_joins port comb body e h = join i held final (λ p. InLoop p port comb body) (loop_left port comb body) (λ p. refl) (λ p k less. less) (λ p k t less. refl) one o s middle e h

  pub repeat_joins : (left : ℕ) (body : PlainStatement) → EndsIn i held middle one (Some o) s → SomeEnd i held final (repeat_left i left body None) middle → SomeEnd i held final (Some (InRepeat o left body)) s
  repeat_joins left body e h = join i held final (λ p. InRepeat p left body) (repeat_left i left body) (λ p. refl) (λ p k less. less) (λ p k t less. refl) one o s middle e h

  -- the first arm before the others
  pub par_joins : (v : PlainStatement) (arms : Opens) → EndsIn i held middle one (Some o) s → SomeEnd i held final (par_left arms) middle → SomeEnd i held final (Some (InPar (an_arm v o arms))) s
  par_joins v arms e h =
      join i held final (λ p. InPar (an_arm v p arms)) (λ now. par_left (arms_left v arms now)) (λ p. refl) more
      (λ p k t less. ap (within par_left) (in_first i held v arms p k t less) ∙ twice (step i held p k t)) one o s middle e h
    where
      more : (p : Open) (k : ℕ) → k < leaves_of p → k < leaves_of (InPar (an_arm v p arms))
      more p k less = omega arith

      twice : (x : Stepped (Option Open)) → within par_left (within (arms_left v arms) x) ≡ within (λ now. par_left (arms_left v arms now)) x
      twice (Now left a) = refl
      twice (Stops g) = refl

-- the child of a call before what is behind it
module _ (i : Instance) (held : Held) (g c : ℕ) (inputs : List Seen) (s final own : State) (behind : SomeEnd i held final (Some (behind_child (captures i g) g c)) (put c own s)) where
  call_turn : (one : ℕ) (x : Stepped (Option Open)) → Goes x (EndsIn (instance_at i (c ∷ [])) (held_as inputs) own one)
      → ((p : Open) (a : State) → EndsIn (instance_at i (c ∷ [])) (held_as inputs) own one (Some p) a → SomeEnd i held final (Some (InCall g c (Some inputs) p)) (put c a s))
      → (m : ℕ) × Goes (lift_step c s (call_left i g c inputs) x) (EndsIn i held final m)
  call_turn zero (Now None a) e again = subst (λ t. SomeEnd i held final (Some (behind_child (captures i g) g c)) (put c t s)) (sym e) behind
  call_turn (suc one) (Now None a) e again = absurd e
  call_turn one (Now (Some p) a) e again = again p a e
  call_turn one (Stops f) e again = absurd e

  pub call_joins : (one : ℕ) (o : Open) (a : State) → EndsIn (instance_at i (c ∷ [])) (held_as inputs) own one (Some o) a → SomeEnd i held final (Some (InCall g c (Some inputs) o)) (put c a s)
  call_joins zero o a e = absurd e
  call_joins (suc one) o a (k, less, e) =
      let r = call_turn one (step (instance_at i (c ∷ [])) (held_as inputs) o k a) e (λ p b h. call_joins one p b h) in
      (suc r.0, (k, less, subst (λ x. Goes x (EndsIn i held final r.0)) (sym (call_again i held g c inputs s o k a)) r.1))

-- the first turn of a call, with the inputs that it sees
pub call_began : (i : Instance) (held : Held) (g c : ℕ) (final : State) (m : ℕ) (o : Open) (s : State) → EndsIn i held final m (Some (InCall g c (Some (inputs_seen i held g c s)) o)) s → EndsIn i held final m (Some (InCall g c None o)) s
call_began i held g c final zero o s e = e
call_began i held g c final (suc m) o s e = e
