-- The invokes of control in their order: where the groups and the static invokes of each stand among all.
use Rattle.std.proofs.Common.{◌≡◌, ℕ, zero, suc, ◌+◌, ◌<◌, ◌≤◌, Bool, true, false, List, [], ◌∷◌, ◌++◌, Option, Some, None, length, slice_get, ◌⊎◌, inl, inr, ⊎_elim, refl, sym, ap, ◌∙◌, subst, arith, append_assoc, append-nil, length-append}
use Rattle.cx_text.proofs.MemberLaws.{in_either}
use Rattle.cx_ast.specs.declared.statements.BindItem.{BindItem}
use Rattle.cx_ast.specs.PlainTree as ast
use Rattle.cx_ast.specs.PlainTree.{PlainTree}
use Rattle.cx_meaning.specs.Designs.{PlainGroup, PlainInvoke}
use Rattle.cx_text.specs.Members.{In}
use Rattle.cx_numbering.specs.Names.{group_names}
use Rattle.cx_numbering.specs.DesignOf.{Invoke, Next, first, after, after_static, past, is_static_invoke, capture_count, invoke_group, capture_group, captures_for, groups_for, invoke_groups, plain_invoke_of, captures_number, static_for, static_invokes, control_invokes}
use Rattle.cx_names.proofs.Base.{front_at, back_at, at_either}

module _ (tree : PlainTree) (part : ast.PlainComponent) where
  pub past-append : (n : Next) (ks js : List Invoke) → past tree part n (ks ++ js) ≡ past tree part (past tree part n ks) js
  past-append n [] js = refl
  past-append n (k ∷ ks) js = past-append (after tree part n k) ks js

  abbrev own_groups : Next → Invoke → List PlainGroup
  own_groups n k = groups_for tree part (is_static_invoke tree part k) n k

  abbrev own_static : Next → Invoke → List PlainInvoke
  own_static n k = static_for tree part (is_static_invoke tree part k) n k

  pub groups-append : (n : Next) (ks js : List Invoke) → invoke_groups tree part n (ks ++ js) ≡ invoke_groups tree part n ks ++ invoke_groups tree part (past tree part n ks) js
  groups-append n [] js = refl
  groups-append n (k ∷ ks) js =
      ap (λ gs. own_groups n k ++ gs) (groups-append (after tree part n k) ks js)
      ∙ sym (append_assoc (own_groups n k) (invoke_groups tree part (after tree part n k) ks) (invoke_groups tree part (past tree part (after tree part n k) ks) js))

  pub statics-append : (n : Next) (ks js : List Invoke) → static_invokes tree part n (ks ++ js) ≡ static_invokes tree part n ks ++ static_invokes tree part (past tree part n ks) js
  statics-append n [] js = refl
  statics-append n (k ∷ ks) js =
      ap (λ vs. own_static n k ++ vs) (statics-append (after tree part n k) ks js)
      ∙ sym (append_assoc (own_static n k) (static_invokes tree part (after tree part n k) ks) (static_invokes tree part (past tree part (after tree part n k) ks) js))

  -- COUNTS of what is made for an invoke, and for several
  own_counted : (n : Next) (k : Invoke) → n.group + length (own_groups n k) ≡ (after tree part n k).group
  own_counted n k = by (is_static_invoke tree part k)
    where
      captured : (outputs : List BindItem) → n.group + length (captures_for tree part k outputs) ≡ n.group + capture_count tree part outputs
      captured [] = refl
      captured (b ∷ bs) = refl

      one : (m : ℕ) (g : PlainGroup) → m + length (g ∷ []) ≡ suc m
      one m g = omega arith

      by : (b : Bool) → n.group + length (groups_for tree part b n k) ≡ (after_static tree part b n k.outputs).group
      by true = captured k.outputs
      by false = one n.group (invoke_group tree part n.group k)

  static_counted : (n : Next) (k : Invoke) → n.invoke + length (own_static n k) ≡ (after tree part n k).invoke
  static_counted n k = by (is_static_invoke tree part k)
    where
      one : (m : ℕ) (v : PlainInvoke) → m + length (v ∷ []) ≡ suc m
      one m v = omega arith

      none : (m : ℕ) → m + 0 ≡ m
      none m = omega arith

      by : (b : Bool) → n.invoke + length (static_for tree part b n k) ≡ (after_static tree part b n k.outputs).invoke
      by true = one n.invoke (plain_invoke_of tree part n k)
      by false = none n.invoke

  pub groups_counted : (n : Next) (ks : List Invoke) → n.group + length (invoke_groups tree part n ks) ≡ (past tree part n ks).group
  groups_counted n [] = omega arith
  groups_counted n (k ∷ ks) =
      let all = length-append (own_groups n k) (invoke_groups tree part (after tree part n k) ks) in
      let own = own_counted n k in
      let rest = groups_counted (after tree part n k) ks in
      omega (arith, all, own, rest)

  pub statics_counted : (n : Next) (ks : List Invoke) → n.invoke + length (static_invokes tree part n ks) ≡ (past tree part n ks).invoke
  statics_counted n [] = omega arith
  statics_counted n (k ∷ ks) =
      let all = length-append (own_static n k) (static_invokes tree part (after tree part n k) ks) in
      let own = static_counted n k in
      let rest = statics_counted (after tree part n k) ks in
      omega (arith, all, own, rest)

  -- THESE INVOKES stand in control, and the numbers are those that come next before them
  pub record Split (n : Next) (ks : List Invoke) : Type 0 where
    pub before : List Invoke
    pub later : List Invoke
    pub all : control_invokes tree part part.control ≡ before ++ (ks ++ later)
    pub numbers : n ≡ past tree part (first tree part) before

  pub split_left : (n : Next) (ks js : List Invoke) → Split n (ks ++ js) → Split n ks
  split_left n ks js s = record { before = s.before; later = js ++ s.later; all = s.all ∙ ap (λ xs. s.before ++ xs) (append_assoc ks js s.later); numbers = s.numbers }

  pub split_right : (n : Next) (ks js : List Invoke) → Split n (ks ++ js) → Split (past tree part n ks) js
  split_right n ks js s = record {
    before = s.before ++ ks;
    later = s.later;
    all = s.all ∙ ap (λ xs. s.before ++ xs) (append_assoc ks js s.later) ∙ sym (append_assoc s.before ks (js ++ s.later));
    numbers = ap (λ m. past tree part m ks) s.numbers ∙ sym (past-append (first tree part) s.before ks);
  }

  pub split_all : (ks : List Invoke) → control_invokes tree part part.control ≡ ks → Split (first tree part) ks
  split_all ks e = record { before = []; later = []; all = e ∙ sym (append-nil ks); numbers = refl }

  abbrev pub all_groups : List PlainGroup
  all_groups = invoke_groups tree part (first tree part) (control_invokes tree part part.control)

  abbrev pub all_statics : List PlainInvoke
  all_statics = static_invokes tree part (first tree part) (control_invokes tree part part.control)

  split_groups : (n : Next) (k : Invoke) (s : Split n (k ∷ []))
      → all_groups ≡ invoke_groups tree part (first tree part) s.before ++ (own_groups n k ++ invoke_groups tree part (after tree part n k) s.later)
  split_groups n k s =
      ap (invoke_groups tree part (first tree part)) s.all
      ∙ groups-append (first tree part) s.before (k ∷ s.later)
      ∙ ap (λ m. invoke_groups tree part (first tree part) s.before ++ invoke_groups tree part m (k ∷ s.later)) (sym s.numbers)

  split_statics : (n : Next) (k : Invoke) (s : Split n (k ∷ []))
      → all_statics ≡ static_invokes tree part (first tree part) s.before ++ (own_static n k ++ static_invokes tree part (after tree part n k) s.later)
  split_statics n k s =
      ap (static_invokes tree part (first tree part)) s.all
      ∙ statics-append (first tree part) s.before (k ∷ s.later)
      ∙ ap (λ m. static_invokes tree part (first tree part) s.before ++ static_invokes tree part m (k ∷ s.later)) (sym s.numbers)

  -- the first group that an invoke has stands at its number
  pub record GroupAt (n : Next) (group : PlainGroup) : Type 0 where
    pub place : ℕ
    pub number : n.group ≡ length (group_names part) + place
    pub stands : slice_get all_groups place ≡ Some group

  own_at : (n : Next) (k : Invoke) (group : PlainGroup) (s : Split n (k ∷ [])) → slice_get (own_groups n k) 0 ≡ Some group → GroupAt n group
  own_at n k group s h =
      let early = invoke_groups tree part (first tree part) s.before in
      let late = invoke_groups tree part (after tree part n k) s.later in
      let count = groups_counted (first tree part) s.before in
      let next : n.group ≡ (past tree part (first tree part) s.before).group = ap (λ (m : Next). m.group) s.numbers in
      record {
        place = length early + 0;
        number = omega (arith, count, next);
        stands = ap (λ gs. slice_get gs (length early + 0)) (split_groups n k s) ∙ back_at early (own_groups n k ++ late) 0 group (front_at (own_groups n k) late 0 group h);
      }

  pub called_at : (n : Next) (k : Invoke) → Split n (k ∷ []) → is_static_invoke tree part k ≡ false → GroupAt n (invoke_group tree part n.group k)
  called_at n k s e = own_at n k (invoke_group tree part n.group k) s (ap (λ b. slice_get (groups_for tree part b n k) 0) e)

  pub captured_at : (n : Next) (k : Invoke) (b : BindItem) (bs : List BindItem) → Split n (k ∷ []) → is_static_invoke tree part k ≡ true → k.outputs ≡ b ∷ bs → GroupAt n (capture_group tree part k)
  captured_at n k b bs s e f =
      own_at n k (capture_group tree part k) s (ap (λ t. slice_get (groups_for tree part t n k) 0) e ∙ ap (λ outputs. slice_get (captures_for tree part k outputs) 0) f)

  -- and a static invoke stands at its own
  pub static_at : (n : Next) (k : Invoke) → Split n (k ∷ []) → is_static_invoke tree part k ≡ true → slice_get all_statics n.invoke ≡ Some (plain_invoke_of tree part n k)
  static_at n k s e =
      let early = static_invokes tree part (first tree part) s.before in
      let late = static_invokes tree part (after tree part n k) s.later in
      let count : 0 + length early ≡ (past tree part (first tree part) s.before).invoke = statics_counted (first tree part) s.before in
      let next : n.invoke ≡ (past tree part (first tree part) s.before).invoke = ap (λ (m : Next). m.invoke) s.numbers in
      let place : n.invoke ≡ length early + 0 = omega (arith, count, next) in
      let own : slice_get (own_static n k) 0 ≡ Some (plain_invoke_of tree part n k) = ap (λ b. slice_get (static_for tree part b n k) 0) e in
      ap (slice_get all_statics) place ∙ ap (λ vs. slice_get vs (length early + 0)) (split_statics n k s) ∙ back_at early (own_static n k ++ late) 0 _ (front_at (own_static n k) late 0 _ own)

  -- THE OTHER WAY: each group is that of an invoke, and calls or captures
  pub record GroupOf (number : ℕ) (ks : List Invoke) (group : PlainGroup) : Type 0 where
    pub invoke : Invoke
    pub stands : In ks invoke
    pub is : (group ≡ invoke_group tree part number invoke) ⊎ (group ≡ capture_group tree part invoke)

  only : (x y : PlainGroup) (m : ℕ) → slice_get (x ∷ []) m ≡ Some y → (m ≡ 0) × (y ≡ x)
  only x y zero h = (refl, cc)
  only x y (suc m) h = absurd cc

  own_of : (n : Next) (k : Invoke) (m : ℕ) (group : PlainGroup) (b : Bool) → slice_get (groups_for tree part b n k) m ≡ Some group
      → (group ≡ invoke_group tree part (n.group + m) k) ⊎ (group ≡ capture_group tree part k)
  own_of n k m group true h = inr (captured k.outputs h)
    where
      captured : (outputs : List BindItem) → slice_get (captures_for tree part k outputs) m ≡ Some group → group ≡ capture_group tree part k
      captured [] h = absurd cc
      captured (b ∷ bs) h = (only (capture_group tree part k) group m h).1
  own_of n k m group false h =
      let one = only (invoke_group tree part n.group k) group m h in
      let number : n.group ≡ n.group + m = let e = one.0 in omega (arith, e) in
      inl (one.1 ∙ ap (λ i. invoke_group tree part i k) number)

  pub group_of_invoke : (n : Next) (ks : List Invoke) (m : ℕ) (group : PlainGroup) → slice_get (invoke_groups tree part n ks) m ≡ Some group → GroupOf (n.group + m) ks group
  group_of_invoke n [] m group h = absurd cc
  group_of_invoke n (k ∷ ks) m group h =
      ⊎_elim
      (λ l. record { invoke = k; stands = inl refl; is = own_of n k m group (is_static_invoke tree part k) l })
      (λ r. let rest = group_of_invoke (after tree part n k) ks r.0 group r.2 in
      let own = own_counted n k in
      let at : m ≡ length (own_groups n k) + r.0 = r.1 in
      let number : (after tree part n k).group + r.0 ≡ n.group + m = omega (arith, own, at) in
      record { invoke = rest.invoke; stands = inr rest.stands; is = subst (λ i. (group ≡ invoke_group tree part i rest.invoke) ⊎ (group ≡ capture_group tree part rest.invoke)) number rest.is })
      (at_either (own_groups n k) (invoke_groups tree part (after tree part n k) ks) m group h)

  -- and each static invoke is one of control
  pub record StaticOf (v : PlainInvoke) : Type 0 where
    pub next : Next
    pub invoke : Invoke
    pub split : Split next (invoke ∷ [])
    pub static : is_static_invoke tree part invoke ≡ true
    pub is : plain_invoke_of tree part next invoke ≡ v

  pub of_static : (n : Next) (ks : List Invoke) → Split n ks → (v : PlainInvoke) → In (static_invokes tree part n ks) v → StaticOf v
  of_static n [] s v i = absurd i
  of_static n (k ∷ ks) s v i =
      ⊎_elim (λ l. own (is_static_invoke tree part k) refl l) (λ r. of_static (after tree part n k) ks (split_right n (k ∷ []) ks s) v r)
      (in_either (own_static n k) (static_invokes tree part (after tree part n k) ks) v i)
    where
      own : (b : Bool) → is_static_invoke tree part k ≡ b → In (static_for tree part b n k) v → StaticOf v
      own true e (inl f) = record { next = n; invoke = k; split = split_left n (k ∷ []) ks s; static = e; is = f }
      own true e (inr j) = absurd j
      own false e j = absurd j

  only_static : (x y : PlainInvoke) (m : ℕ) → slice_get (x ∷ []) m ≡ Some y → (m ≡ 0) × (y ≡ x)
  only_static x y zero h = (refl, cc)
  only_static x y (suc m) h = absurd cc

  -- the numbers of what captures rise, so no two static invokes have one
  later_capture : (n : Next) (ks : List Invoke) (m g : ℕ) (v : PlainInvoke) → slice_get (static_invokes tree part n ks) m ≡ Some v → v.captures ≡ Some g → n.group ≤ g
  later_capture n [] m g v h e = absurd cc
  later_capture n (k ∷ ks) m g v h e =
      ⊎_elim (λ l. own (is_static_invoke tree part k) l) (λ r. let own = own_counted n k in let low = later_capture (after tree part n k) ks r.0 g v r.2 e in omega (arith, own, low))
      (at_either (own_static n k) (static_invokes tree part (after tree part n k) ks) m v h)
    where
      numbered : (outputs : List BindItem) → captures_number tree part n.group outputs ≡ Some g → n.group ≤ g
      numbered [] e = absurd cc
      numbered (b ∷ bs) e = let same : n.group ≡ g = cc in omega (arith, same)

      own : (b : Bool) → slice_get (static_for tree part b n k) m ≡ Some v → n.group ≤ g
      own true h = let same = (only_static (plain_invoke_of tree part n k) v m h).1 in numbered k.outputs (ap (λ (w : PlainInvoke). w.captures) (sym same) ∙ e)
      own false h = absurd cc

  -- the first of them has the next number, and then the next number is another
  own_capture : (n : Next) (k : Invoke) (m g : ℕ) (v : PlainInvoke) → slice_get (own_static n k) m ≡ Some v → v.captures ≡ Some g → (m ≡ 0) × (g < (after tree part n k).group)
  own_capture n k m g v h e = by (is_static_invoke tree part k) h
    where
      numbered : (outputs : List BindItem) → captures_number tree part n.group outputs ≡ Some g → g < n.group + capture_count tree part outputs
      numbered [] e = absurd cc
      numbered (b ∷ bs) e = let same : n.group ≡ g = cc in omega (arith, same)

      by : (b : Bool) → slice_get (static_for tree part b n k) m ≡ Some v → (m ≡ 0) × (g < (after_static tree part b n k.outputs).group)
      by true h = let only = only_static (plain_invoke_of tree part n k) v m h in (only.0, numbered k.outputs (ap (λ (w : PlainInvoke). w.captures) (sym only.1) ∙ e))
      by false h = absurd cc

  pub one_capture : (n : Next) (ks : List Invoke) (l m g : ℕ) (v w : PlainInvoke) → slice_get (static_invokes tree part n ks) l ≡ Some v → slice_get (static_invokes tree part n ks) m ≡ Some w
      → v.captures ≡ Some g → w.captures ≡ Some g → l ≡ m
  one_capture n [] l m g v w p q e f = absurd cc
  one_capture n (k ∷ ks) l m g v w p q e f =
      both (at_either (own_static n k) (static_invokes tree part (after tree part n k) ks) l v p) (at_either (own_static n k) (static_invokes tree part (after tree part n k) ks) m w q) (one_capture (after tree part n k) ks)
    where
      Place : ℕ → PlainInvoke → Type 0
      Place i x = (slice_get (own_static n k) i ≡ Some x) ⊎ ((j : ℕ) × (i ≡ length (own_static n k) + j) × (slice_get (static_invokes tree part (after tree part n k) ks) j ≡ Some x))

      both : Place l v → Place m w → ((i j h : ℕ) (x y : PlainInvoke) → slice_get (static_invokes tree part (after tree part n k) ks) i ≡ Some x → slice_get (static_invokes tree part (after tree part n k) ks) j ≡ Some y
          → x.captures ≡ Some h → y.captures ≡ Some h → i ≡ j) → l ≡ m
      both (inl a) (inl b) rest = let x = (own_capture n k l g v a e).0 in let y = (own_capture n k m g w b f).0 in omega (arith, x, y)
      both (inl a) (inr b) rest = let low = later_capture (after tree part n k) ks b.0 g w b.2 f in let high = (own_capture n k l g v a e).1 in absurd (omega (arith, low, high))
      both (inr a) (inl b) rest = let low = later_capture (after tree part n k) ks a.0 g v a.2 e in let high = (own_capture n k m g w b f).1 in absurd (omega (arith, low, high))
      both (inr a) (inr b) rest = let same = rest a.0 b.0 g v w a.2 b.2 e f in let x = a.1 in let y = b.1 in omega (arith, same, x, y)
