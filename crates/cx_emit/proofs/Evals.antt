-- How nets and expressions of a source get their values from others.
use Rattle.std.proofs.Common.{◌≡◌, ℕ, ◌==◌, Bool, true, false, ◌&&◌, List, Option, Some, None, option_and_then, option_map, refl, ap, sym, ◌∙◌, subst, if◌then◌else◌}
use Rattle.std.proofs.lemmas.Bool.{eq-eqb, eqb-true}
use Rattle.cx_bits.specs.BitVector.{BitVector}
use Rattle.cx_vtree.specs.declared.operators.Operator.{Operator}
use Rattle.cx_vtree.specs.Plain.{PlainExpr, Named, Number, Part, Word, Applied, Inverted, Chosen, Joined}
use Rattle.cx_vtree.specs.Operators.{operate, inverted, part_of, joined}
use Rattle.cx_vtree.specs.InstanceTree.{Placed, same_name, decls_at, Outside, Tied, Held, Given, origin_of}
use Rattle.cx_vtree.specs.Meaning.{Moment, Look, outside_value, word_in, expr_in, expr_at, from_origin, HasValue, by_step, IsRight, Eval, by_nets}
use Rattle.cx_vtree.proofs.Values.{one_value}
use Rattle.cx_text.proofs.OptionLaws.{map_some, bind_some, more_choice}
use Rattle.cx_vtree.proofs.InstanceTreeLemmas.{same_is, same_self}

-- more knowledge gives the same value
expr_within : (nets more : List ℕ → Option BitVector) (words : List ℕ → ℕ → BitVector) → ((n : List ℕ) (w : BitVector) → nets n ≡ Some w → more n ≡ Some w)
    → (e : PlainExpr) (v : BitVector) → expr_in nets words e ≡ Some v → expr_in more words e ≡ Some v
expr_within nets more words h (Named n) v e = h n v e
expr_within nets more words h (Number b) v e = e
expr_within nets more words h (Part n high low) v e = let (x, is, f) = map_some (part_of high low) (nets n) v e in ap (option_map (part_of high low)) (h n x is) ∙ ap Some f
expr_within nets more words h (Word n i) v e =
    let (x, is, f) = map_some (λ k. words n k.value) (expr_in nets words i) v e in ap (option_map (λ k. words n k.value)) (expr_within nets more words h i x is) ∙ ap Some f
expr_within nets more words h (Applied op a b) v e =
    let (x, is, f) = bind_some (λ x. option_map (operate op x) (expr_in nets words b)) (expr_in nets words a) v e in
    let (y, is', g) = map_some (operate op x) (expr_in nets words b) v f in
    ap (option_and_then (λ x. option_map (operate op x) (expr_in more words b))) (expr_within nets more words h a x is)
    ∙ ap (option_map (operate op x)) (expr_within nets more words h b y is') ∙ ap Some g
expr_within nets more words h (Inverted a) v e = let (x, is, f) = map_some inverted (expr_in nets words a) v e in ap (option_map inverted) (expr_within nets more words h a x is) ∙ ap Some f
expr_within nets more words h (Chosen c a b) v e =
    let (t, is, f) = bind_some (λ t. if t.value == 0 then expr_in nets words b else expr_in nets words a) (expr_in nets words c) v e in
    ap (option_and_then (λ t. if t.value == 0 then expr_in more words b else expr_in more words a)) (expr_within nets more words h c t is)
    ∙ more_choice (t.value == 0) (expr_in nets words b) (expr_in nets words a) (expr_in more words b) (expr_in more words a) v
    (expr_within nets more words h b v) (expr_within nets more words h a v) f
expr_within nets more words h (Joined a b) v e =
    let (x, is, f) = bind_some (λ x. option_map (joined x) (expr_in nets words b)) (expr_in nets words a) v e in
    let (y, is', g) = map_some (joined x) (expr_in nets words b) v f in
    ap (option_and_then (λ x. option_map (joined x) (expr_in more words b))) (expr_within nets more words h a x is)
    ∙ ap (option_map (joined x)) (expr_within nets more words h b y is') ∙ ap Some g

-- expressions have values from those of their parts
pub record IsReading (E : PlainExpr → BitVector → Type 0) : Type 0 where
  pub number : (b : BitVector) → E (Number b) b
  pub applied : (op : Operator) (a b : PlainExpr) (x y : BitVector) → E a x → E b y → E (Applied op a b) (operate op x y)
  pub opposite : (a : PlainExpr) (x : BitVector) → E a x → E (Inverted a) (inverted x)
  pub one : (c a b : PlainExpr) (t x : BitVector) → E c t → (t.value == 0) ≡ false → E a x → E (Chosen c a b) x
  pub other : (c a b : PlainExpr) (t x : BitVector) → E c t → (t.value == 0) ≡ true → E b x → E (Chosen c a b) x

chosen_one : {A : Type 0} (t : Bool) (a b : Option A) (v : A) → t ≡ false → a ≡ Some v → (if t then b else a) ≡ Some v
chosen_one t a b v e f = ap (λ x. if x then b else a) e ∙ f

chosen_other : {A : Type 0} (t : Bool) (a b : Option A) (v : A) → t ≡ true → b ≡ Some v → (if t then b else a) ≡ Some v
chosen_other t a b v e f = ap (λ x. if x then b else a) e ∙ f

module _ (nets : List ℕ → Option BitVector) (words : List ℕ → ℕ → BitVector) where
  applied-in : (op : Operator) (a b : PlainExpr) (x y : BitVector) → expr_in nets words a ≡ Some x → expr_in nets words b ≡ Some y → expr_in nets words (Applied op a b) ≡ Some (operate op x y)
  applied-in op a b x y e f = ap (option_and_then (λ x. option_map (operate op x) (expr_in nets words b))) e ∙ ap (option_map (operate op x)) f

  chosen-in : (c a b : PlainExpr) (t : BitVector) → expr_in nets words c ≡ Some t → expr_in nets words (Chosen c a b) ≡ (if t.value == 0 then expr_in nets words b else expr_in nets words a)
  chosen-in c a b t e = ap (option_and_then (λ t. if t.value == 0 then expr_in nets words b else expr_in nets words a)) e

abbrev first_known : Option BitVector → Option BitVector → Option BitVector
first_known (Some v) other = Some v
first_known None other = other

module _ (tree : List Placed) (m : Moment) where
  -- one net is known, and no other
  abbrev only : ℕ → List ℕ → BitVector → Look
  only j net v i name = if i == j && same_name name net then Some v else None

  known_one : (a b : Bool) (v w : BitVector) → (if a && b then Some v else None) ≡ Some w → (a ≡ true) × (b ≡ true) × (v ≡ w)
  known_one true true v w e = (refl, refl, cc)
  known_one true false v w e = absurd (cc)
  known_one false b v w e = absurd (cc)

  only_right : (j : ℕ) (net : List ℕ) (v : BitVector) → HasValue tree m j net v → IsRight tree m (only j net v)
  only_right j net v h i name w e =
      let (a, b, c) = known_one (i == j) (same_name name net) v w e in
      subst (λ k. HasValue tree m k name w) (sym (eqb-true i j a)) (subst (λ n. HasValue tree m j n w) (sym (same_is name net b)) (subst (HasValue tree m j net) c h))

  only_has : (j : ℕ) (net : List ℕ) (v : BitVector) → only j net v j net ≡ Some v
  only_has j net v = ap (λ b. if b && same_name net net then Some v else None) (eq-eqb j j refl) ∙ ap (λ b. if b then Some v else None) (same_self net)

  -- a net has the value of the net that it is tied to, of what is stored, of what stands outside, or of its expression
  pub value_tied : (i : ℕ) (name : List ℕ) (j : ℕ) (net : List ℕ) (v : BitVector) → origin_of tree i name ≡ Some (Tied j net) → HasValue tree m j net v → HasValue tree m i name v
  value_tied i name j net v is h = by_step (only j net v) (only_right j net v h) (ap (option_and_then (from_origin tree m (only j net v) i name)) is ∙ only_has j net v)

  pub value_held : (i : ℕ) (name : List ℕ) (w : ℕ) → origin_of tree i name ≡ Some (Held w) → HasValue tree m i name (record { width = w; value = m.state.register i name })
  value_held i name w is = by_step (λ j n. None) (λ j n v e. absurd (cc)) (ap (option_and_then (from_origin tree m (λ j n. None) i name)) is)

  pub value_outside : (i : ℕ) (name : List ℕ) → origin_of tree i name ≡ Some Outside → HasValue tree m i name (outside_value m name)
  value_outside i name is = by_step (λ j n. None) (λ j n v e. absurd (cc)) (ap (option_and_then (from_origin tree m (λ j n. None) i name)) is)

  pub value_given : (i : ℕ) (name : List ℕ) (e : PlainExpr) (v : BitVector) → origin_of tree i name ≡ Some (Given e) → Eval tree m i e v → HasValue tree m i name v
  value_given i name e v is (by_nets look right f) = by_step look right (ap (option_and_then (from_origin tree m look i name)) is ∙ f)

  -- what two looks know
  abbrev both : Look → Look → Look
  both l r i n = first_known (l i n) (r i n)

  both_right : (l r : Look) → IsRight tree m l → IsRight tree m r → IsRight tree m (both l r)
  both_right l r hl hr i n w e = go (l i n) refl e where
    go : (o : Option BitVector) → l i n ≡ o → first_known o (r i n) ≡ Some w → HasValue tree m i n w
    go (Some v) is f = hl i n w (is ∙ f)
    go None is f = hr i n w f

  left_within : (l r : Look) (i : ℕ) (n : List ℕ) (w : BitVector) → l i n ≡ Some w → both l r i n ≡ Some w
  left_within l r i n w e = ap (λ o. first_known o (r i n)) e

  right_within : (l r : Look) → IsRight tree m l → IsRight tree m r → (i : ℕ) (n : List ℕ) (w : BitVector) → r i n ≡ Some w → both l r i n ≡ Some w
  right_within l r hl hr i n w e = go (l i n) refl where
    go : (o : Option BitVector) → l i n ≡ o → both l r i n ≡ Some w
    go None is = ap (λ o. first_known o (r i n)) is ∙ e
    go (Some v) is = ap (λ o. first_known o (r i n)) is ∙ ap Some (one_value (hl i n v is) (hr i n w e))

  module _ (i : ℕ) where
    abbrev words : List ℕ → ℕ → BitVector
    words = word_in (m.state.word i) (decls_at tree i)

    from_left : (l r : Look) (e : PlainExpr) (v : BitVector) → expr_at tree m l i e ≡ Some v → expr_at tree m (both l r) i e ≡ Some v
    from_left l r e v f = expr_within (l i) (both l r i) words (left_within l r i) e v f

    from_right : (l r : Look) → IsRight tree m l → IsRight tree m r → (e : PlainExpr) (v : BitVector) → expr_at tree m r i e ≡ Some v → expr_at tree m (both l r) i e ≡ Some v
    from_right l r hl hr e v f = expr_within (r i) (both l r i) words (right_within l r hl hr i) e v f

    -- a look that has every value has those of expressions
    pub eval_within : (look : Look) → ((n : List ℕ) (v : BitVector) → HasValue tree m i n v → look i n ≡ Some v) → (e : PlainExpr) (v : BitVector) → Eval tree m i e v → expr_at tree m look i e ≡ Some v
    eval_within look has e v (by_nets l right f) = expr_within (l i) (look i) words (λ n w known. has n w (right i n w known)) e v f

    pub eval_named : (n : List ℕ) (v : BitVector) → HasValue tree m i n v → Eval tree m i (Named n) v
    eval_named n v h = by_nets (only i n v) (only_right i n v h) (only_has i n v)

    eval_two : (op : Operator) (a b : PlainExpr) (x y : BitVector) → Eval tree m i a x → Eval tree m i b y → Eval tree m i (Applied op a b) (operate op x y)
    eval_two op a b x y (by_nets l hl e) (by_nets r hr f) =
        by_nets (both l r) (both_right l r hl hr) (applied-in (both l r i) words op a b x y (from_left l r a x e) (from_right l r hl hr b y f))

    eval_opposite : (a : PlainExpr) (x : BitVector) → Eval tree m i a x → Eval tree m i (Inverted a) (inverted x)
    eval_opposite a x (by_nets l hl e) = by_nets l hl (ap (option_map inverted) e)

    eval_choice : (c a b : PlainExpr) (t x : BitVector) (test : Bool) → (t.value == 0) ≡ test → Eval tree m i c t → Eval tree m i (if test then b else a) x → Eval tree m i (Chosen c a b) x
    eval_choice c a b t x true is (by_nets l hl e) (by_nets r hr f) =
        by_nets (both l r) (both_right l r hl hr)
        (chosen-in (both l r i) words c a b t (from_left l r c t e) ∙ chosen_other (t.value == 0) (expr_at tree m (both l r) i a) (expr_at tree m (both l r) i b) x is (from_right l r hl hr b x f))
    eval_choice c a b t x false is (by_nets l hl e) (by_nets r hr f) =
        by_nets (both l r) (both_right l r hl hr)
        (chosen-in (both l r i) words c a b t (from_left l r c t e) ∙ chosen_one (t.value == 0) (expr_at tree m (both l r) i a) (expr_at tree m (both l r) i b) x is (from_right l r hl hr a x f))

    -- from nets that have their values
    pub eval_reading : IsReading (Eval tree m i)
    eval_reading = record {
      number = λ b. by_nets (λ j n. None) (λ j n v e. absurd (cc)) refl;
      applied = λ op a b x y e f. eval_two op a b x y e f;
      opposite = λ a x e. eval_opposite a x e;
      one = λ c a b t x e is f. eval_choice c a b t x false is e f;
      other = λ c a b t x e is f. eval_choice c a b t x true is e f;
    }
