-- The width of what a code gives.
use Rattle.std.proofs.Common.{◌≡◌, ℕ, ◌+◌, ◌-◌, ◌<◌, ◌≤◌, ◌&&◌, Bool, true, false, List, Option, Some, None, IsSome, option_and_then, option_map, get_or, length, refl, sym, ap, ◌∙◌, if◌then◌else◌, arith, ◌==◌, nat_lt, nat_le, slice_get, unwrap_or}
use Rattle.std.proofs.lemmas.Bool.{eqb-true, ltb-true, leb-true}
use Rattle.std.proofs.lemmas.Option.{slice_get_within, slice_get_read, option_and_then_some}
use Rattle.cx_bits.specs.BitVector.{BitVector}
use Rattle.cx_vtree.specs.declared.operators.Operator.{Operator}
use Rattle.cx_vtree.specs.declared.operators.Operator.TheVariants.{Add, Subtract, Multiply, And, Or, Xor, ShiftLeft, ShiftRight, Equal, NotEqual, Less, Greater, AtMost, AtLeast}
use Rattle.cx_vtree.specs.Operators.{operate, inverted, part_of, joined}
use Rattle.cx_vtree.specs.Sound.{is_comparison, applied_width, chosen_width, joined_width, part_width}
use Rattle.cx_vnets.specs.declared.arrays.Words.{Words}
use Rattle.cx_vnets.specs.declared.codes.Code.{Code}
use Rattle.cx_vnets.specs.declared.codes.Code.TheVariants.{Net, Literal, Slice, Item', Binary', Not', Choose', Cat'}
use Rattle.cx_vnets.specs.declared.marks.NetMark.{NetMark}
use Rattle.cx_vnets.specs.declared.marks.NetMark.TheVariants.{Unseen, Open, Known}
use Rattle.cx_vnets.specs.declared.marks.FoundValue.{FoundValue}
use Rattle.cx_vnets.specs.declared.marks.FoundValue.TheVariants.{Worth, Waits}
use Rattle.cx_vnets.specs.Arrays.{word_of, word_at, array_width, IsEven}
use Rattle.cx_vnets.specs.Codes.{code_in, code_width}
use Rattle.cx_vnets.specs.Fits.{width_at}
use Rattle.cx_vnets.specs.Looks.{found_map, look, marked, seen, seen_from, words_from, widths_from, array_widths_from}
use Rattle.cx_vnets.proofs.Agreement.{worth_of, worth_look}
use Rattle.cx_text.proofs.BoolLaws.{and_left, and_right}

pub and_first : {A B : Type 0} (f : A → Option B) (o : Option A) → IsSome (option_and_then f o) → IsSome o
and_first f None s = s
and_first f (Some x) s = refl

pub and_second : {A B C : Type 0} (f : A → B → Option C) (o : Option A) (p : Option B) → IsSome (option_and_then (λ x. option_and_then (f x) p) o) → IsSome p
and_second f None p s = cc
and_second f (Some x) p s = and_first (f x) p s

pub and_third : {A B C D : Type 0} (f : A → B → C → Option D) (o : Option A) (p : Option B) (q : Option C)
    → IsSome (option_and_then (λ x. option_and_then (λ y. option_and_then (f x y) q) p) o) → IsSome q
and_third f None p q s = cc
and_third f (Some x) p q s = and_second (f x) p q s

pub the_some : {A : Type 0} (o : Option A) → IsSome o → (x : A) × (o ≡ Some x)
the_some None s = cc
the_some (Some x) s = (x, refl)

pub map_case : {P : Type 0} (f : BitVector → BitVector) (o : Option BitVector) (v : BitVector) → option_map f o ≡ Some v → ((x : BitVector) → o ≡ Some x → f x ≡ v → P) → P
map_case f None v e h = cc
map_case f (Some x) v e h = let same : f x ≡ v = cc in h x refl same

pub if_some : {A P : Type 0} (t : Bool) (x y : A) → (if t then Some x else None) ≡ Some y → (t ≡ true → x ≡ y → P) → P
if_some true x y e h = let same : x ≡ y = cc in h refl same
if_some false x y e h = cc

pub part_is : (w high low u : ℕ) → part_width w high low ≡ Some u → (low ≤ high) × (high < w) × (high + 1 - low ≡ u)
part_is w high low u e = if_some (nat_le low high && nat_lt high w) (high + 1 - low) u e
    (λ t same. (leb-true low high (and_left (nat_le low high) (nat_lt high w) t), ltb-true high w (and_right (nat_le low high) (nat_lt high w) t), same))

pub applied_is : (op : Operator) (v w u : ℕ) → applied_width op v w ≡ Some u → (v ≡ w) × ((if is_comparison op then 1 else v) ≡ u)
applied_is op v w u e = if_some (v == w) (if is_comparison op then 1 else v) u e (λ t same. (eqb-true v w t, same))

pub chosen_is : (t v w u : ℕ) → chosen_width t v w ≡ Some u → (v ≡ w) × (v ≡ u)
chosen_is t v w u e = if_some (t == 1 && v == w) v u e (λ b same. (eqb-true v w (and_right (t == 1) (v == w) b), same))

pub joined_is : (v w u : ℕ) → joined_width v w ≡ Some u → (v + w ≤ 128) × (v + w ≡ u)
joined_is v w u e = if_some (nat_le (v + w) 128) (v + w) u e (λ t same. (leb-true (v + w) 128 t, same))

operate_width : (op : Operator) (x y : BitVector) → (operate op x y).width ≡ (if is_comparison op then 1 else x.width)
operate_width Add x y = refl
operate_width Subtract x y = refl
operate_width Multiply x y = refl
operate_width And x y = refl
operate_width Or x y = refl
operate_width Xor x y = refl
operate_width ShiftLeft x y = refl
operate_width ShiftRight x y = refl
operate_width Equal x y = refl
operate_width NotEqual x y = refl
operate_width Less x y = refl
operate_width Greater x y = refl
operate_width AtMost x y = refl
operate_width AtLeast x y = refl

module _ (nets : ℕ → Option BitVector) (nw : ℕ → Option ℕ) (nets_have : (k : ℕ) (v : BitVector) → nets k ≡ Some v → nw k ≡ Some v.width)
    (words : ℕ → ℕ → BitVector) (aw : ℕ → Option ℕ) (words_have : (a i w : ℕ) → aw a ≡ Some w → (words a i).width ≡ w) where
  -- a value of a code has the code's width
  pub code_in_width : (c : Code) (w : ℕ) (v : BitVector) → code_width nw aw c ≡ Some w → code_in nets words c ≡ Some v → v.width ≡ w
  code_in_width (Net k) w v e l = let h = nets_have k v l in let same : v.width ≡ w = cc in same
  code_in_width (Literal b) w v e l = let same : b ≡ v = cc in let width : b.width ≡ w = cc in ap (λ x. x.width) (sym same) ∙ width
  code_in_width (Slice k high low) w v e l =
      option_and_then_some (λ u. part_width u high low) (nw k) w e (λ u at fits.
      map_case (part_of high low) (nets k) v l (λ x is made.
      ap (λ y. y.width) (sym made) ∙ (part_is u high low w fits).2))
  code_in_width (Item' a p i) w v e l =
      option_and_then_some (λ u. aw a) (code_width nw aw i) w e (λ u at has.
      map_case (λ x. words a x.value) (code_in nets words i) v l (λ x is made.
      ap (λ y. y.width) (sym made) ∙ words_have a x.value w has))
  code_in_width (Binary' op p a q b) w v e l =
      option_and_then_some (λ u. option_and_then (applied_width op u) (code_width nw aw b)) (code_width nw aw a) w e (λ u at rest.
      option_and_then_some (applied_width op u) (code_width nw aw b) w rest (λ t there fits.
      option_and_then_some (λ x. option_map (operate op x) (code_in nets words b)) (code_in nets words a) v l (λ x is more.
      map_case (operate op x) (code_in nets words b) v more (λ y is' made.
      ap (λ z. z.width) (sym made) ∙ operate_width op x y ∙ ap (λ n. if is_comparison op then 1 else n) (code_in_width a u x at is) ∙ (applied_is op u t w fits).1))))
  code_in_width (Not' p a) w v e l =
      map_case inverted (code_in nets words a) v l (λ x is made. ap (λ y. y.width) (sym made) ∙ code_in_width a w x e is)
  code_in_width (Choose' p c q a r b) w v e l =
      option_and_then_some (λ t. option_and_then (λ u. option_and_then (chosen_width t u) (code_width nw aw b)) (code_width nw aw a)) (code_width nw aw c) w e (λ t at rest.
      option_and_then_some (λ u. option_and_then (chosen_width t u) (code_width nw aw b)) (code_width nw aw a) w rest (λ u at' rest'.
      option_and_then_some (chosen_width t u) (code_width nw aw b) w rest' (λ o at'' fits.
      option_and_then_some (λ x. if x.value == 0 then code_in nets words b else code_in nets words a) (code_in nets words c) v l (λ x is more.
      let same = chosen_is t u o w fits in
      side (x.value == 0) u o (λ is'. code_in_width a u v at' is') (λ is'. code_in_width b o v at'' is') same more))))
    where
      side : (zero : Bool) (u o : ℕ) → (code_in nets words a ≡ Some v → v.width ≡ u) → (code_in nets words b ≡ Some v → v.width ≡ o) → (u ≡ o) × (u ≡ w)
          → (if zero then code_in nets words b else code_in nets words a) ≡ Some v → v.width ≡ w
      side true u o one other same more = other more ∙ sym same.0 ∙ same.1
      side false u o one other same more = one more ∙ same.1
  code_in_width (Cat' p a q b) w v e l =
      option_and_then_some (λ u. option_and_then (joined_width u) (code_width nw aw b)) (code_width nw aw a) w e (λ u at rest.
      option_and_then_some (joined_width u) (code_width nw aw b) w rest (λ t there fits.
      option_and_then_some (λ x. option_map (joined x) (code_in nets words b)) (code_in nets words a) v l (λ x is more.
      map_case (joined x) (code_in nets words b) v more (λ y is' made.
      let left = code_in_width a u x at is in
      let right = code_in_width b t y there is' in
      let whole = (joined_is u t w fits).1 in
      ap (λ z. z.width) (sym made) ∙ ap (λ n. n + y.width) left ∙ ap (λ n. u + n) right ∙ whole))))

worth_is : (o : FoundValue) (v : BitVector) → worth_of o ≡ Some v → o ≡ Worth v
worth_is (Worth x) v e = let same : x ≡ v = cc in ap Worth same
worth_is (Waits m) v e = cc

module _ (nets : ℕ → FoundValue) (nw : ℕ → Option ℕ) (nets_have : (k : ℕ) (v : BitVector) → nets k ≡ Worth v → nw k ≡ Some v.width)
    (words : ℕ → ℕ → BitVector) (aw : ℕ → Option ℕ) (words_have : (a i w : ℕ) → aw a ≡ Some w → (words a i).width ≡ w) where
  -- what a look at a code finds has the code's width
  pub look_width : (c : Code) (w : ℕ) (v : BitVector) → code_width nw aw c ≡ Some w → look nets words c ≡ Worth v → v.width ≡ w
  look_width c w v e l =
      code_in_width (λ k. worth_of (nets k)) nw (λ k x i. nets_have k x (worth_is (nets k) x i)) words aw words_have c w v e (sym (worth_look nets words c) ∙ ap worth_of l)

marked_known : (o : Option NetMark) (p : Option BitVector) (f : ℕ) (v : BitVector) → marked o p f ≡ Worth v → (o ≡ Some Known) × (p ≡ Some v)
marked_known None p f v e = cc
marked_known (Some Unseen) p f v e = cc
marked_known (Some Open) p f v e = cc
marked_known (Some Known) None f v e = cc
marked_known (Some Known) (Some x) f v e = let same : x ≡ v = cc in (refl, ap Some same)

pub seen_known : (marks : List NetMark) (values : List BitVector) (f : ℕ) (v : BitVector) → seen marks values f ≡ Worth v → (slice_get marks f ≡ Some Known) × (slice_get values f ≡ Some v)
seen_known marks values f v e = marked_known (slice_get marks f) (slice_get values f) f v e

pub seen_width : (marks : List NetMark) (values : List BitVector) (f : ℕ) (v : BitVector) → seen marks values f ≡ Worth v → width_at values f ≡ Some v.width
seen_width marks values f v e = ap (option_map (λ x. x.width)) (seen_known marks values f v e).1

pub word_width : (arrays : List Words) → IsEven arrays → (a i w : ℕ) → array_width arrays a ≡ Some w → (word_at arrays a i).width ≡ w
word_width arrays even a i w e = go (slice_get arrays a) refl e
  where
    pick : (x : Words) → slice_get arrays a ≡ Some x → (o : Option BitVector) → slice_get x.words.items i ≡ o → (unwrap_or o x.zero).width ≡ x.zero.width
    pick x is None at = refl
    pick x is (Some b) at = even a x i b is at

    go : (o : Option Words) → slice_get arrays a ≡ o → option_map (λ x. x.zero.width) o ≡ Some w → (unwrap_or (option_map (λ x. word_of x i) o) (record { width = 0; value = 0 })).width ≡ w
    go None is e = cc
    go (Some x) is e = let same : x.zero.width ≡ w = cc in pick x is (slice_get x.words.items i) refl ∙ same

-- an array that has a width is there
pub array_there : (arrays : List Words) (a : ℕ) → IsSome (array_width arrays a) → a < length arrays
array_there arrays a s = go (slice_get arrays a) refl s
  where
    go : (o : Option Words) → slice_get arrays a ≡ o → IsSome (option_map (λ x. x.zero.width) o) → a < length arrays
    go None is s = cc
    go (Some x) is s = slice_get_within arrays a x is

-- a net that has a width is there
pub net_there : (values : List BitVector) (f : ℕ) → IsSome (width_at values f) → f < length values
net_there values f s = go (slice_get values f) refl s
  where
    go : (o : Option BitVector) → slice_get values f ≡ o → IsSome (option_map (λ x. x.width) o) → f < length values
    go None is s = cc
    go (Some x) is s = slice_get_within values f x is

-- the value of a net that was read
pub net_read : (values : List BitVector) (start k f : ℕ) (v : BitVector) → f ≡ start + k → IsSome (width_at values (start + k)) → v ≡ get_or values f v → slice_get values (start + k) ≡ Some v
net_read values start k f v same some is =
    slice_get_read values (length values) (start + k) v refl (net_there values (start + k) some) (is ∙ ap (λ j. get_or values j v) same)

-- operands of the widths that an operator asks for
pub operands_same : (op : Operator) (o p : Option ℕ) (x y : BitVector) → IsSome (option_and_then (λ v. option_and_then (applied_width op v) p) o)
    → ((w : ℕ) → o ≡ Some w → x.width ≡ w) → ((w : ℕ) → p ≡ Some w → y.width ≡ w) → x.width ≡ y.width
operands_same op o p x y s left right =
    let whole = the_some (option_and_then (λ v. option_and_then (applied_width op v) p) o) s in
    option_and_then_some (λ v. option_and_then (applied_width op v) p) o whole.0 whole.1 (λ u at rest.
    option_and_then_some (applied_width op u) p whole.0 rest (λ t there fits.
    left u at ∙ (applied_is op u t whole.0 fits).0 ∙ sym (right t there)))

-- operands that are not too wide to be joined
pub operands_within : (o p : Option ℕ) (x y : BitVector) → IsSome (option_and_then (λ v. option_and_then (joined_width v) p) o)
    → ((w : ℕ) → o ≡ Some w → x.width ≡ w) → ((w : ℕ) → p ≡ Some w → y.width ≡ w) → x.width + y.width ≤ 128
operands_within o p x y s left right =
    let whole = the_some (option_and_then (λ v. option_and_then (joined_width v) p) o) s in
    option_and_then_some (λ v. option_and_then (joined_width v) p) o whole.0 whole.1 (λ u at rest.
    option_and_then_some (joined_width u) p whole.0 rest (λ t there fits.
    let one = left u at in
    let other = right t there in
    let within = (joined_is u t whole.0 fits).0 in
    omega arith))

-- What the parts of a code ask for.
module _ (marks : List NetMark) (values : List BitVector) (arrays : List Words) (start first : ℕ) (even : IsEven arrays) where
  abbrev from : ℕ → FoundValue
  from = seen_from marks values start

  abbrev words : ℕ → ℕ → BitVector
  words = words_from arrays first

  abbrev width : Code → Option ℕ
  width = code_width (widths_from values start) (array_widths_from arrays first)

  part_width_is : (a : Code) (w : ℕ) (v : BitVector) → width a ≡ Some w → look from words a ≡ Worth v → v.width ≡ w
  part_width_is a w v e l =
      look_width from (widths_from values start) (λ k x i. seen_width marks values (start + k) x i) words (array_widths_from arrays first) (λ k i u has. word_width arrays even (first + k) i u has) a w v e l

  pub binary_same : (op : Operator) (a b : Code) (x y : BitVector) → IsSome (option_and_then (λ v. option_and_then (applied_width op v) (width b)) (width a))
      → look from words a ≡ Worth x → look from words b ≡ Worth y → x.width ≡ y.width
  binary_same op a b x y s l r = operands_same op (width a) (width b) x y s (λ w e. part_width_is a w x e l) (λ w e. part_width_is b w y e r)

  pub cat_within : (a b : Code) (x y : BitVector) → IsSome (option_and_then (λ v. option_and_then (joined_width v) (width b)) (width a))
      → look from words a ≡ Worth x → look from words b ≡ Worth y → x.width + y.width ≤ 128
  cat_within a b x y s l r = operands_within (width a) (width b) x y s (λ w e. part_width_is a w x e l) (λ w e. part_width_is b w y e r)

-- the word of an array that was read
pub word_read : (arrays : List Words) (first a k at : ℕ) (r : BitVector) (x : Words) → k ≡ first + a → IsSome (array_width arrays (first + a)) → x ≡ get_or arrays k x → r ≡ word_of x at
    → r ≡ word_at arrays (first + a) at
word_read arrays first a k at r x same some is word =
    let lt : first + a < length arrays = array_there arrays (first + a) some in
    let get : slice_get arrays (first + a) ≡ Some x = slice_get_read arrays (length arrays) (first + a) x refl lt (is ∙ ap (λ j. get_or arrays j x) same) in
    word ∙ sym (ap (λ o. unwrap_or (option_map (λ y. word_of y at) o) (record { width = 0; value = 0 })) get)

pub item_found : (nets : ℕ → FoundValue) (arrays : List Words) (first a k : ℕ) (i : Code) (at r : BitVector) (x : Words) → k ≡ first + a → look nets (words_from arrays first) i ≡ Worth at
    → IsSome (array_width arrays (first + a)) → x ≡ get_or arrays k x → r ≡ word_of x at.value
    → Worth r ≡ found_map (λ y. word_at arrays (first + a) y.value) (look nets (words_from arrays first) i)
item_found nets arrays first a k i at r x same found some is word =
    ap Worth (word_read arrays first a k at.value r x same some is word) ∙ sym (ap (found_map (λ y. word_at arrays (first + a) y.value)) found)

pub item_there : (nets : ℕ → Option ℕ) (arrays : ℕ → Option ℕ) (a : ℕ) (i : Code) → IsSome (option_and_then (λ v. arrays a) (code_width nets arrays i)) → IsSome (arrays a)
item_there nets arrays a i s = go (code_width nets arrays i) s
  where
    go : (o : Option ℕ) → IsSome (option_and_then (λ v. arrays a) o) → IsSome (arrays a)
    go None s = cc
    go (Some v) s = s
