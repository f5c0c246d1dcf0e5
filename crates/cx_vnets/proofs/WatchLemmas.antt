-- What follows from what nets hear of.
use Rattle.std.proofs.Common.{◌≡◌, ◌≢◌, ℕ, ◌+◌, ◌==◌, inl, inr, ⊎_elim, Bool, true, nat_lt, Option, Some, None, option_and_then, option_map, slice_get, refl, ap, sym, ◌∙◌, subst, if◌then◌else◌, arith}
use Rattle.std.proofs.lemmas.Bool.{cases_lt, ne_eqb, lt-ltb, le-ltb}
use Rattle.std.proofs.lemmas.Option.{same_Some}
use Rattle.cx_bits.specs.BitVector.{BitVector}
use Rattle.cx_bits.specs.Operators.{bit_of, equal_bit_of, complement_of}
use Rattle.cx_vtree.specs.declared.operators.Operator.{Operator}
use Rattle.cx_vtree.specs.declared.operators.Operator.TheVariants.{Add, Subtract, Multiply, And, Or, Xor, ShiftLeft, ShiftRight, Equal, NotEqual, Less, Greater, AtMost, AtLeast}
use Rattle.cx_vtree.specs.Operators.{operate, inverted, part_of, joined}
use Rattle.cx_vnets.specs.declared.codes.Code.{Code}
use Rattle.cx_vnets.specs.declared.codes.Code.TheVariants.{Net, Literal, Slice, Item', Binary', Not', Choose', Cat'}
use Rattle.cx_vnets.specs.declared.codes.NetPosition.{NetPosition}
use Rattle.cx_vnets.specs.declared.nets.Nets.{Nets}
use Rattle.cx_vnets.specs.declared.nets.Stored.{Stored}
use Rattle.cx_vnets.specs.declared.nets.Driver.{Driver}
use Rattle.cx_vnets.specs.declared.nets.Driver.TheVariants.{Held, Tied, Given}
use Rattle.cx_vnets.specs.Arrays.{word_at}
use Rattle.cx_vnets.specs.Codes.{code_in}
use Rattle.cx_vnets.specs.Reads.{CodeReads, OptionReads, DriverReads, NetReads}
use Rattle.cx_vnets.specs.Values.{code_at, driver_in, rule}
use Rattle.cx_vnets.specs.Watches.{is_sided, IsNet, IsLiteral, IsComparison, CodeHears, OptionHears, DriverHears, NetHears}

-- of two numbers, one next above the other and neither a third, both are on one side of the third
below_same : (x y b : ℕ) → x ≢ b → x ≡ y + 1 → nat_lt x b ≡ nat_lt y b
below_same x y b n e = ⊎_elim
    (λ l. lt-ltb x b (omega (arith, l, e, n)) ∙ sym (lt-ltb y b l))
    (λ l. le-ltb x b (omega (arith, l, e)) ∙ sym (le-ltb y b l)) (cases_lt y b)

above_same : (x y b : ℕ) → y ≢ b → x ≡ y + 1 → nat_lt b x ≡ nat_lt b y
above_same x y b m e = ⊎_elim
    (λ l. lt-ltb b x (omega (arith, l, e)) ∙ sym (lt-ltb b y l))
    (λ l. le-ltb b x (omega (arith, l, e, m)) ∙ sym (le-ltb b y l)) (cases_lt b y)

equal_same : (a c b : BitVector) → a.value ≢ b.value → c.value ≢ b.value → equal_bit_of a b ≡ equal_bit_of c b
equal_same a c b n m = ap bit_of (ne_eqb a.value b.value n) ∙ sym (ap bit_of (ne_eqb c.value b.value m))

-- two values of which neither is the literal are told alike from it, and where sides are told, if one is the next above the other
pub tests_same : (op : Operator) (sided : Bool) (a c b : BitVector) → is_sided op ≡ Some sided → a.value ≢ b.value → c.value ≢ b.value → (sided ≡ true → a.value ≡ c.value + 1) → operate op a b ≡ operate op c b
tests_same Equal sided a c b is n m next = equal_same a c b n m
tests_same NotEqual sided a c b is n m next = ap complement_of (equal_same a c b n m)
tests_same Less sided a c b is n m next = ap bit_of (below_same a.value c.value b.value n (next (sym (same_Some true sided is))))
tests_same Greater sided a c b is n m next = ap bit_of (above_same a.value c.value b.value m (next (sym (same_Some true sided is))))
tests_same AtMost sided a c b is n m next = ap (λ t. complement_of (bit_of t)) (above_same a.value c.value b.value m (next (sym (same_Some true sided is))))
tests_same AtLeast sided a c b is n m next = ap (λ t. complement_of (bit_of t)) (below_same a.value c.value b.value n (next (sym (same_Some true sided is))))
tests_same Add sided a c b is n m next = absurd (cc)
tests_same Subtract sided a c b is n m next = absurd (cc)
tests_same Multiply sided a c b is n m next = absurd (cc)
tests_same And sided a c b is n m next = absurd (cc)
tests_same Or sided a c b is n m next = absurd (cc)
tests_same Xor sided a c b is n m next = absurd (cc)
tests_same ShiftLeft sided a c b is n m next = absurd (cc)
tests_same ShiftRight sided a c b is n m next = absurd (cc)

module _ (nets : ℕ → Option BitVector) (words : ℕ → ℕ → BitVector) where
  pub net_value : (c : Code) (k : ℕ) → IsNet c k → code_in nets words c ≡ nets k
  net_value (Net m) k is = ap nets is
  net_value (Literal b) k is = absurd is
  net_value (Slice m high low) k is = absurd is
  net_value (Item' a p i) k is = absurd is
  net_value (Binary' op p a q b) k is = absurd is
  net_value (Not' p a) k is = absurd is
  net_value (Choose' p c q a r b) k is = absurd is
  net_value (Cat' p a q b) k is = absurd is

  literal_value : (c : Code) (v : BitVector) → IsLiteral c v → code_in nets words c ≡ Some v
  literal_value (Net m) v is = absurd is
  literal_value (Literal b) v is = ap Some is
  literal_value (Slice m high low) v is = absurd is
  literal_value (Item' a p i) v is = absurd is
  literal_value (Binary' op p a q b) v is = absurd is
  literal_value (Not' p a) v is = absurd is
  literal_value (Choose' p c q a r b) v is = absurd is
  literal_value (Cat' p a q b) v is = absurd is

  then_some : (op : Operator) (v : BitVector) (o : Option BitVector) → option_and_then (λ x. option_map (operate op x) (Some v)) o ≡ option_map (λ x. operate op x v) o
  then_some op v None = refl
  then_some op v (Some x) = refl

  -- what an operator and operands that compare a net with a literal give
  compared_value : (op : Operator) (a b : Code) (k : ℕ) (v : BitVector) (sided : Bool) → IsComparison op a b k v sided
      → option_and_then (λ x. option_map (operate op x) (code_in nets words b)) (code_in nets words a) ≡ option_map (λ x. operate op x v) (nets k)
  compared_value op a b k v sided is =
      ap (λ z. option_and_then (λ x. option_map (operate op x) z) (code_in nets words a)) (literal_value b v is.2)
      ∙ ap (option_and_then (λ x. option_map (operate op x) (Some v))) (net_value a k is.1)
      ∙ then_some op v (nets k)

-- operands that are the same compare the same
pub comparison_along : (op : Operator) (a c b d : Code) (k : ℕ) (v : BitVector) (sided : Bool) → a ≡ c → b ≡ d → IsComparison op a b k v sided → IsComparison op c d k v sided
comparison_along op a c b d k v sided e f h = (h.0, subst (λ x. IsNet x k) e h.1, subst (λ x. IsLiteral x v) f h.2)

module _ (net array : ℕ → Type 0) where
  net_reads_it : (c : Code) (k : ℕ) → IsNet c k → CodeReads net array c → net k
  net_reads_it (Net m) k is h = subst net is h
  net_reads_it (Literal b) k is h = absurd is
  net_reads_it (Slice m high low) k is h = absurd is
  net_reads_it (Item' a p i) k is h = absurd is
  net_reads_it (Binary' op p a q b) k is h = absurd is
  net_reads_it (Not' p a) k is h = absurd is
  net_reads_it (Choose' p c q a r b) k is h = absurd is
  net_reads_it (Cat' p a q b) k is h = absurd is

module _ (net other array another : ℕ → Type 0) (watch also : ℕ → BitVector → Bool → Type 0) (more : (k : ℕ) → net k → other k) (arrays : (a : ℕ) → array a → another a)
    (watches : (k : ℕ) (v : BitVector) (sided : Bool) → watch k v sided → also k v sided) where
  pub code_hears : (c : Code) → CodeHears net array watch c → CodeHears other another also c
  code_hears (Net k) h = more k h
  code_hears (Literal b) h = h
  code_hears (Slice k high low) h = more k h
  code_hears (Item' a p i) h = (arrays a h.0, code_hears i h.1)
  code_hears (Binary' op p a q b) (inl h) = inl (code_hears a h.0, code_hears b h.1)
  code_hears (Binary' op p a q b) (inr h) = inr (h.0, h.1, h.2, h.3, watches h.0 h.1 h.2 h.4)
  code_hears (Not' p a) h = code_hears a h
  code_hears (Choose' p c q a r b) h = (code_hears c h.0, code_hears a h.1, code_hears b h.2)
  code_hears (Cat' p a q b) h = (code_hears a h.0, code_hears b h.1)

module _ (n : Nets) (net other array another : ℕ → Type 0) (watch also : ℕ → BitVector → Bool → Type 0) (more : (k : ℕ) → net k → other k) (arrays : (a : ℕ) → array a → another a)
    (watches : (k : ℕ) (v : BitVector) (sided : Bool) → watch k v sided → also k v sided) where
  option_hears : (p : NetPosition) (o : Option Code) → OptionHears (λ k. net (p.nets + k)) (λ a. array (p.arrays + a)) (λ k v sided. watch (p.nets + k) v sided) o
      → OptionHears (λ k. other (p.nets + k)) (λ a. another (p.arrays + a)) (λ k v sided. also (p.nets + k) v sided) o
  option_hears p None h = h
  option_hears p (Some c) h =
      code_hears (λ k. net (p.nets + k)) (λ k. other (p.nets + k)) (λ a. array (p.arrays + a)) (λ a. another (p.arrays + a)) (λ k v sided. watch (p.nets + k) v sided) (λ k v sided. also (p.nets + k) v sided)
      (λ k. more (p.nets + k)) (λ a. arrays (p.arrays + a)) (λ k. watches (p.nets + k)) c h

  driver_hears : (o : Option Driver) → DriverHears n.codes.items net array watch o → DriverHears n.codes.items other another also o
  driver_hears None h = h
  driver_hears (Some Held) h = h
  driver_hears (Some (Tied g)) h = more g h
  driver_hears (Some (Given c p)) h = option_hears p (slice_get n.codes.items c) h

  -- what is so of all that a net hears of, where it follows from what is so of that
  pub net_hears : (f : ℕ) → NetHears n net array watch f → NetHears n other another also f
  net_hears f h = driver_hears (slice_get n.drivers.items f) h

module _ (low net array : ℕ → Type 0) (watch : ℕ → BitVector → Bool → Type 0) where
  code_low : (c : Code) → CodeReads low (λ a. Unit {0}) c → CodeHears net array watch c → CodeHears (λ k. low k × net k) array (λ k v sided. low k × watch k v sided) c
  code_low (Net k) h g = (h, g)
  code_low (Literal b) h g = g
  code_low (Slice k high l) h g = (h, g)
  code_low (Item' a p i) h g = (g.0, code_low i h.1 g.1)
  code_low (Binary' op p a q b) h (inl g) = inl (code_low a h.0 g.0, code_low b h.1 g.1)
  code_low (Binary' op p a q b) h (inr g) = inr (g.0, g.1, g.2, g.3, (net_reads_it low (λ x. Unit {0}) a g.0 g.3.1 h.0, g.4))
  code_low (Not' p a) h g = code_low a h g
  code_low (Choose' p c q a r b) h g = (code_low c h.0 g.0, code_low a h.1 g.1, code_low b h.2 g.2)
  code_low (Cat' p a q b) h g = (code_low a h.0 g.0, code_low b h.1 g.1)

module _ (n : Nets) (low net array : ℕ → Type 0) (watch : ℕ → BitVector → Bool → Type 0) where
  option_low : (p : NetPosition) (o : Option Code) → OptionReads (λ k. low (p.nets + k)) (λ a. Unit {0}) o → OptionHears (λ k. net (p.nets + k)) (λ a. array (p.arrays + a)) (λ k v sided. watch (p.nets + k) v sided) o
      → OptionHears (λ k. low (p.nets + k) × net (p.nets + k)) (λ a. array (p.arrays + a)) (λ k v sided. low (p.nets + k) × watch (p.nets + k) v sided) o
  option_low p None h g = g
  option_low p (Some c) h g = code_low (λ k. low (p.nets + k)) (λ k. net (p.nets + k)) (λ a. array (p.arrays + a)) (λ k v sided. watch (p.nets + k) v sided) c h g

  driver_low : (o : Option Driver) → DriverReads n.codes.items low (λ a. Unit {0}) o → DriverHears n.codes.items net array watch o
      → DriverHears n.codes.items (λ k. low k × net k) array (λ k v sided. low k × watch k v sided) o
  driver_low None h g = g
  driver_low (Some Held) h g = g
  driver_low (Some (Tied f)) h g = (h, g)
  driver_low (Some (Given c p)) h g = option_low p (slice_get n.codes.items c) h g

  -- what is so of all nets that a net reads is so of all that it hears of
  pub net_low : (f : ℕ) → NetReads n low (λ a. Unit {0}) f → NetHears n net array watch f → NetHears n (λ k. low k × net k) array (λ k v sided. low k × watch k v sided) f
  net_low f h g = driver_low (slice_get n.drivers.items f) h g

-- a code has one value by all that agree on what it hears of
module _ (nets more : ℕ → Option BitVector) (words others : ℕ → ℕ → BitVector) where
  abbrev same_test : ℕ → BitVector → Bool → Type 0
  same_test k v sided = (op : Operator) → is_sided op ≡ Some sided → option_map (λ x. operate op x v) (nets k) ≡ option_map (λ x. operate op x v) (more k)

  pub code_alike : (c : Code) → CodeHears (λ k. nets k ≡ more k) (λ a. (i : ℕ) → words a i ≡ others a i) same_test c → code_in nets words c ≡ code_in more others c
  code_alike (Net k) h = h
  code_alike (Literal b) h = refl
  code_alike (Slice k high low) h = ap (option_map (part_of high low)) h
  code_alike (Item' a p i) h =
      ap (option_map (λ (x : BitVector). words a x.value)) (code_alike i h.1)
      ∙ ap (λ (f : BitVector → BitVector). option_map f (code_in more others i)) (λ t x. h.0 x.value t)
  code_alike (Binary' op p a q b) (inl h) =
      ap (λ z. option_and_then (λ v. option_map (operate op v) z) (code_in nets words a)) (code_alike b h.1)
      ∙ ap (option_and_then (λ v. option_map (operate op v) (code_in more others b))) (code_alike a h.0)
  code_alike (Binary' op p a q b) (inr h) = compared_value nets words op a b h.0 h.1 h.2 h.3 ∙ h.4 op h.3.0 ∙ sym (compared_value more others op a b h.0 h.1 h.2 h.3)
  code_alike (Not' p a) h = ap (option_map inverted) (code_alike a h)
  code_alike (Choose' p c q a r b) h =
      ap (λ z. option_and_then (λ (t : BitVector). if t.value == 0 then z else code_in nets words a) (code_in nets words c)) (code_alike b h.2)
      ∙ ap (λ z. option_and_then (λ (t : BitVector). if t.value == 0 then code_in more others b else z) (code_in nets words c)) (code_alike a h.1)
      ∙ ap (option_and_then (λ (t : BitVector). if t.value == 0 then code_in more others b else code_in more others a)) (code_alike c h.0)
  code_alike (Cat' p a q b) h =
      ap (λ z. option_and_then (λ v. option_map (joined v) z) (code_in nets words a)) (code_alike b h.1)
      ∙ ap (option_and_then (λ v. option_map (joined v) (code_in more others b))) (code_alike a h.0)

-- the driver of a net gives it the same by all that agree on what the net hears of
module _ (n : Nets) (s t : Stored) (nets more : ℕ → Option BitVector) (f : ℕ) (held : slice_get s.nets.items f ≡ slice_get t.nets.items f) where
  abbrev same_array : ℕ → Type 0
  same_array a = (i : ℕ) → word_at s.arrays.items a i ≡ word_at t.arrays.items a i

  abbrev same_watch : ℕ → BitVector → Bool → Type 0
  same_watch k v sided = (op : Operator) → is_sided op ≡ Some sided → option_map (λ x. operate op x v) (nets k) ≡ option_map (λ x. operate op x v) (more k)

  option_alike : (p : NetPosition) (o : Option Code) → OptionHears (λ k. nets (p.nets + k) ≡ more (p.nets + k)) (λ a. same_array (p.arrays + a)) (λ k v sided. same_watch (p.nets + k) v sided) o
      → option_and_then (code_at s nets p) o ≡ option_and_then (code_at t more p) o
  option_alike p None h = refl
  option_alike p (Some c) h =
      code_alike (λ k. nets (p.nets + k)) (λ k. more (p.nets + k)) (λ a. word_at s.arrays.items (p.arrays + a)) (λ a. word_at t.arrays.items (p.arrays + a)) c h

  driver_alike : (o : Option Driver) → DriverHears n.codes.items (λ g. nets g ≡ more g) same_array same_watch o → driver_in n s nets f o ≡ driver_in n t more f o
  driver_alike None h = refl
  driver_alike (Some Held) h = held
  driver_alike (Some (Tied g)) h = h
  driver_alike (Some (Given c p)) h = option_alike p (slice_get n.codes.items c) h

  pub rule_alike : NetHears n (λ g. nets g ≡ more g) same_array same_watch f → rule n s nets f ≡ rule n t more f
  rule_alike h = driver_alike (slice_get n.drivers.items f) h
