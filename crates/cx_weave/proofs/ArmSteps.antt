-- Some arms of a par beside others.
use Rattle.std.proofs.Common.{◌≡◌, ℕ, ◌+◌, ◌-◌, ◌≤◌, ◌<◌, ⊎_elim, Bool, true, false, nat_lt, Option, Some, None, refl, sym, ap, ◌∙◌, arith}
use Rattle.std.proofs.lemmas.Bool.{cases_lt, lt-ltb, le-ltb}
use Rattle.cx_meaning.specs.Designs.{PlainStatement}
use Rattle.cx_meaning.specs.Instances.{Instance, State}
use Rattle.cx_meaning.specs.Sights.{Held}
use Rattle.cx_orders.specs.Open.{Open, Opens, no_arms, an_arm, beside, leaves_of, leaves_of_all}
use Rattle.cx_orders.specs.Steps.{Stepped, Now, Stops, step, step_arms, within, arms_left, first_or}

pub leaves_beside : (front back : Opens) → leaves_of_all (beside front back) ≡ leaves_of_all front + leaves_of_all back
leaves_beside no_arms back = omega arith
leaves_beside (an_arm st arm arms) back = (let h = leaves_beside arms back in omega (arith, h))

pub chosen : {A : Type 0} (b : Bool) (x y : A) → b ≡ true → first_or b x y ≡ x
chosen true x y e = refl
chosen false x y e = absurd (let f : false ≡ true = e in cc)

pub passed : {A : Type 0} (b : Bool) (x y : A) → b ≡ false → first_or b x y ≡ y
passed true x y e = absurd (let f : true ≡ false = e in cc)
passed false x y e = refl

-- an arm in front of both
one_beside : (st : PlainStatement) (arms back : Opens) (x : Stepped (Option Open)) → within (arms_left st (beside arms back)) x ≡ within (λ left. beside left back) (within (arms_left st arms) x)
one_beside st arms back (Now None after) = refl
one_beside st arms back (Now (Some o) after) = refl
one_beside st arms back (Stops fault) = refl

front_beside : (st : PlainStatement) (arm : Open) (back : Opens) (x : Stepped Opens) → within (an_arm st arm) (within (λ left. beside left back) x) ≡ within (λ left. beside left back) (within (an_arm st arm) x)
front_beside st arm back (Now list after) = refl
front_beside st arm back (Stops fault) = refl

back_beside : (st : PlainStatement) (arm : Open) (arms : Opens) (x : Stepped Opens) → within (an_arm st arm) (within (beside arms) x) ≡ within (beside (an_arm st arm arms)) x
back_beside st arm arms (Now list after) = refl
back_beside st arm arms (Stops fault) = refl

none_beside : (x : Stepped Opens) → x ≡ within (beside no_arms) x
none_beside (Now list after) = refl
none_beside (Stops fault) = refl

module _ (i : Instance) (held : Held) (s : State) where
  -- a turn of the first of an arm and more arms, or of one behind it
  pub step_first : (st : PlainStatement) (arm : Open) (arms : Opens) (k : ℕ) → k < leaves_of arm → step_arms i held (an_arm st arm arms) k s ≡ within (arms_left st arms) (step i held arm k s)
  step_first st arm arms k less = chosen (nat_lt k (leaves_of arm)) (within (arms_left st arms) (step i held arm k s)) (within (an_arm st arm) (step_arms i held arms (k - leaves_of arm) s)) (lt-ltb k (leaves_of arm) less)

  step_later : (st : PlainStatement) (arm : Open) (arms : Opens) (k : ℕ) → leaves_of arm ≤ k → step_arms i held (an_arm st arm arms) k s ≡ within (an_arm st arm) (step_arms i held arms (k - leaves_of arm) s)
  step_later st arm arms k past = passed (nat_lt k (leaves_of arm)) (within (arms_left st arms) (step i held arm k s)) (within (an_arm st arm) (step_arms i held arms (k - leaves_of arm) s)) (le-ltb k (leaves_of arm) past)

  -- A TURN IN FRONT, and one behind
  pub step_front : (front back : Opens) (k : ℕ) → k < leaves_of_all front → step_arms i held (beside front back) k s ≡ within (λ left. beside left back) (step_arms i held front k s)
  step_front no_arms back k less = absurd (omega (arith, less))
  step_front (an_arm st arm arms) back k less = ⊎_elim
      (λ (here : k < leaves_of arm).
      step_first st arm (beside arms back) k here ∙ one_beside st arms back (step i held arm k s) ∙ ap (within (λ left. beside left back)) (sym (step_first st arm arms k here)))
      (λ (past : leaves_of arm ≤ k).
      step_later st arm (beside arms back) k past ∙ ap (within (an_arm st arm)) (step_front arms back (k - leaves_of arm) (omega (arith, less, past)))
      ∙ front_beside st arm back (step_arms i held arms (k - leaves_of arm) s) ∙ ap (within (λ left. beside left back)) (sym (step_later st arm arms k past)))
      (cases_lt k (leaves_of arm))

  pub step_back : (front back : Opens) (k leaf : ℕ) → k ≡ leaves_of_all front + leaf → step_arms i held (beside front back) k s ≡ within (beside front) (step_arms i held back leaf s)
  step_back no_arms back k leaf is = ap (λ m. step_arms i held back m s) (let e : k ≡ leaf = omega (arith, is) in e) ∙ none_beside (step_arms i held back leaf s)
  step_back (an_arm st arm arms) back k leaf is =
      step_later st arm (beside arms back) k (omega (arith, is)) ∙ ap (within (an_arm st arm)) (step_back arms back (k - leaves_of arm) leaf (omega (arith, is)))
      ∙ back_beside st arm arms (step_arms i held back leaf s)
