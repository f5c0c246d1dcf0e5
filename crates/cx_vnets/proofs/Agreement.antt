-- A net has one value at most, and what a look finds is right.
use Rattle.std.proofs.Common.{◌≡◌, ℕ, ◌+◌, ◌==◌, Bool, true, false, List, Option, Some, None, option_and_then, option_map, slice_get, refl, ap, ◌∙◌, if◌then◌else◌}
use Rattle.cx_bits.specs.BitVector.{BitVector}
use Rattle.cx_vtree.specs.Operators.{operate, inverted, part_of, joined}
use Rattle.cx_vnets.specs.declared.codes.Code.{Code}
use Rattle.cx_vnets.specs.declared.codes.Code.TheVariants.{Net, Literal, Slice, Item', Binary', Not', Choose', Cat'}
use Rattle.cx_vnets.specs.declared.marks.NetMark.{NetMark}
use Rattle.cx_vnets.specs.declared.marks.FoundValue.{FoundValue}
use Rattle.cx_vnets.specs.declared.marks.FoundValue.TheVariants.{Worth, Waits}
use Rattle.cx_vnets.specs.declared.nets.Nets.{Nets}
use Rattle.cx_vnets.specs.declared.nets.Stored.{Stored}
use Rattle.cx_vnets.specs.declared.nets.Driver.{Driver}
use Rattle.cx_vnets.specs.declared.nets.Driver.TheVariants.{Held, Tied, Given}
use Rattle.cx_vnets.specs.Arrays.{word_at}
use Rattle.cx_vnets.specs.Codes.{code_in}
use Rattle.cx_vnets.specs.Looks.{found_map, found_and_then, look, seen, seen_from, words_from, look_stored, look_code, look_driver, look_net}
use Rattle.cx_vnets.specs.Values.{driver_in, rule, HasValue, by_rule, IsRight}

-- two answers, where both are there, are one
abbrev pub Agree : Option BitVector → Option BitVector → Type 0
Agree a b = (x y : BitVector) → a ≡ Some x → b ≡ Some y → x ≡ y

pub agree_same : (a : Option BitVector) → Agree a a
agree_same a x y e f = cc

agree_bind : (f g : BitVector → Option BitVector) (a b : Option BitVector) → Agree a b → ((x : BitVector) → Agree (f x) (g x)) → Agree (option_and_then f a) (option_and_then g b)
agree_bind f g None b h k x y e e' = cc
agree_bind f g (Some u) None h k x y e e' = cc
agree_bind f g (Some u) (Some v) h k x y e e' = k u x y e (ap g (h u v refl refl) ∙ e')

agree_map : (f : BitVector → BitVector) (a b : Option BitVector) → Agree a b → Agree (option_map f a) (option_map f b)
agree_map f None b h x y e e' = cc
agree_map f (Some u) None h x y e e' = cc
agree_map f (Some u) (Some v) h x y e e' = let same = h u v refl refl in cc

agree_choice : (t : Bool) (a b c d : Option BitVector) → Agree a c → Agree b d → Agree (if t then a else b) (if t then c else d)
agree_choice true a b c d h k = h
agree_choice false a b c d h k = k

module _ (nets more : ℕ → Option BitVector) (words : ℕ → ℕ → BitVector) (h : (k : ℕ) → Agree (nets k) (more k)) where
  pub agree_code : (c : Code) → Agree (code_in nets words c) (code_in more words c)
  agree_code (Net k) = h k
  agree_code (Literal b) = agree_same (Some b)
  agree_code (Slice k high low) = agree_map (part_of high low) (nets k) (more k) (h k)
  agree_code (Item' a p i) = agree_map (λ x. words a x.value) (code_in nets words i) (code_in more words i) (agree_code i)
  agree_code (Binary' op p a q b) =
      agree_bind (λ x. option_map (operate op x) (code_in nets words b)) (λ x. option_map (operate op x) (code_in more words b)) (code_in nets words a) (code_in more words a) (agree_code a)
      (λ x. agree_map (operate op x) (code_in nets words b) (code_in more words b) (agree_code b))
  agree_code (Not' p a) = agree_map inverted (code_in nets words a) (code_in more words a) (agree_code a)
  agree_code (Choose' p c q a r b) =
      agree_bind (λ t. if t.value == 0 then code_in nets words b else code_in nets words a) (λ t. if t.value == 0 then code_in more words b else code_in more words a) (code_in nets words c) (code_in more words c) (agree_code c)
      (λ t. agree_choice (t.value == 0) (code_in nets words b) (code_in nets words a) (code_in more words b) (code_in more words a) (agree_code b) (agree_code a))
  agree_code (Cat' p a q b) =
      agree_bind (λ x. option_map (joined x) (code_in nets words b)) (λ x. option_map (joined x) (code_in more words b)) (code_in nets words a) (code_in more words a) (agree_code a)
      (λ x. agree_map (joined x) (code_in nets words b) (code_in more words b) (agree_code b))

module _ (n : Nets) (s : Stored) (nets more : ℕ → Option BitVector) (h : (g : ℕ) → Agree (nets g) (more g)) where
  agree_given : (arrays start : ℕ) (o : Option Code) → Agree (option_and_then (code_in (λ k. nets (start + k)) (λ a. word_at s.arrays.items (arrays + a))) o) (option_and_then (code_in (λ k. more (start + k)) (λ a. word_at s.arrays.items (arrays + a))) o)
  agree_given arrays start None = agree_same None
  agree_given arrays start (Some c) = agree_code (λ k. nets (start + k)) (λ k. more (start + k)) (λ a. word_at s.arrays.items (arrays + a)) (λ k. h (start + k)) c

  agree_driver : (f : ℕ) (o : Option Driver) → Agree (driver_in n s nets f o) (driver_in n s more f o)
  agree_driver f None = agree_same None
  agree_driver f (Some Held) = agree_same (slice_get s.nets.items f)
  agree_driver f (Some (Tied g)) = h g
  agree_driver f (Some (Given c p)) = agree_given p.arrays p.nets (slice_get n.codes.items c)

  pub agree_rule : (f : ℕ) → Agree (rule n s nets f) (rule n s more f)
  agree_rule f = agree_driver f (slice_get n.drivers.items f)

pub one_value : {n : Nets} {s : Stored} {f : ℕ} {v w : BitVector} → HasValue n s f v → HasValue n s f w → v ≡ w
one_value {n} {s} {f} {v} {w} (by_rule nets right e) (by_rule more right' e') =
    agree_rule n s nets more (λ g x y i j. one_value (right g x i) (right' g y j)) f v w e e'

-- two right looks agree
pub right_agree : (n : Nets) (s : Stored) (nets more : ℕ → Option BitVector) → IsRight n s nets → IsRight n s more → (g : ℕ) → Agree (nets g) (more g)
right_agree n s nets more right right' g x y e e' = one_value (right g x e) (right' g y e')

-- the value that was found
abbrev pub worth_of : FoundValue → Option BitVector
worth_of (Worth v) = Some v
worth_of (Waits m) = None

worth_bind : (f : BitVector → FoundValue) (g : BitVector → Option BitVector) (a : FoundValue) (b : Option BitVector) → worth_of a ≡ b → ((x : BitVector) → worth_of (f x) ≡ g x) → worth_of (found_and_then f a) ≡ option_and_then g b
worth_bind f g (Worth x) b e h = h x ∙ ap (option_and_then g) e
worth_bind f g (Waits m) b e h = ap (option_and_then g) e

worth_map : (f : BitVector → BitVector) (a : FoundValue) (b : Option BitVector) → worth_of a ≡ b → worth_of (found_map f a) ≡ option_map f b
worth_map f (Worth x) b e = ap (option_map f) e
worth_map f (Waits m) b e = ap (option_map f) e

worth_choice : (t : Bool) (a b : FoundValue) (c d : Option BitVector) → worth_of a ≡ c → worth_of b ≡ d → worth_of (if t then a else b) ≡ (if t then c else d)
worth_choice true a b c d h k = h
worth_choice false a b c d h k = k

module _ (nets : ℕ → FoundValue) (words : ℕ → ℕ → BitVector) where
  abbrev pub known : ℕ → Option BitVector
  known k = worth_of (nets k)

  pub worth_look : (c : Code) → worth_of (look nets words c) ≡ code_in (λ k. worth_of (nets k)) words c
  worth_look (Net k) = refl
  worth_look (Literal b) = refl
  worth_look (Slice k high low) = worth_map (part_of high low) (nets k) (worth_of (nets k)) refl
  worth_look (Item' a p i) = worth_map (λ x. words a x.value) (look nets words i) (code_in (λ k. worth_of (nets k)) words i) (worth_look i)
  worth_look (Binary' op p a q b) =
      worth_bind (λ x. found_map (operate op x) (look nets words b)) (λ x. option_map (operate op x) (code_in (λ k. worth_of (nets k)) words b)) (look nets words a) (code_in (λ k. worth_of (nets k)) words a) (worth_look a)
      (λ x. worth_map (operate op x) (look nets words b) (code_in (λ k. worth_of (nets k)) words b) (worth_look b))
  worth_look (Not' p a) = worth_map inverted (look nets words a) (code_in (λ k. worth_of (nets k)) words a) (worth_look a)
  worth_look (Choose' p c q a r b) =
      worth_bind (λ t. if t.value == 0 then look nets words b else look nets words a) (λ t. if t.value == 0 then code_in (λ k. worth_of (nets k)) words b else code_in (λ k. worth_of (nets k)) words a) (look nets words c) (code_in (λ k. worth_of (nets k)) words c) (worth_look c)
      (λ t. worth_choice (t.value == 0) (look nets words b) (look nets words a) (code_in (λ k. worth_of (nets k)) words b) (code_in (λ k. worth_of (nets k)) words a) (worth_look b) (worth_look a))
  worth_look (Cat' p a q b) =
      worth_bind (λ x. found_map (joined x) (look nets words b)) (λ x. option_map (joined x) (code_in (λ k. worth_of (nets k)) words b)) (look nets words a) (code_in (λ k. worth_of (nets k)) words a) (worth_look a)
      (λ x. worth_map (joined x) (look nets words b) (code_in (λ k. worth_of (nets k)) words b) (worth_look b))

-- what is known by marks
abbrev pub known_by : List NetMark → List BitVector → ℕ → Option BitVector
known_by marks values g = worth_of (seen marks values g)

module _ (n : Nets) (s : Stored) (marks : List NetMark) (values : List BitVector) where
  worth_stored : (f : ℕ) (o : Option BitVector) → worth_of (look_stored o f) ≡ o
  worth_stored f None = refl
  worth_stored f (Some v) = refl

  worth_code : (f start arrays : ℕ) (o : Option Code) → worth_of (look_code s marks values f start arrays o) ≡ option_and_then (code_in (λ k. known_by marks values (start + k)) (λ a. word_at s.arrays.items (arrays + a))) o
  worth_code f start arrays None = refl
  worth_code f start arrays (Some c) = worth_look (seen_from marks values start) (words_from s.arrays.items arrays) c

  worth_driver : (f : ℕ) (o : Option Driver) → worth_of (look_driver n s marks values f o) ≡ driver_in n s (known_by marks values) f o
  worth_driver f None = refl
  worth_driver f (Some Held) = worth_stored f (slice_get s.nets.items f)
  worth_driver f (Some (Tied g)) = refl
  worth_driver f (Some (Given c p)) = worth_code f p.nets p.arrays (slice_get n.codes.items c)

  -- a look finds what the rule gives by what is known
  pub worth_net : (f : ℕ) → worth_of (look_net n s marks values f) ≡ rule n s (known_by marks values) f
  worth_net f = worth_driver f (slice_get n.drivers.items f)
