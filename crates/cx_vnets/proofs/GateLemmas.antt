-- Nets that are 0 where their gates are.
use Rattle.std.proofs.Common.{◌≡◌, ◌≢◌, ℕ, ◌+◌, ◌<◌, ◌==◌, ◌⊎◌, inl, inr, ⊎_elim, true, false, List, [], ◌∷◌, ◌++◌, Option, Some, None, IfSome, IsSome, option_and_then, option_map, length, slice_get, refl, ap, sym, ◌∙◌, subst, if◌then◌else◌, bit_and, arith}
use Rattle.std.specs.Int.Bits.{and_zero_l}
use Rattle.std.proofs.lemmas.Bool.{cases_Bool, cases_eq, cases_lt}
use Rattle.std.proofs.lemmas.Option.{same_Some}
use Rattle.cx_bits.specs.BitVector.{BitVector}
use Rattle.cx_vtree.specs.declared.operators.Operator.TheVariants.{And}
use Rattle.cx_vtree.specs.Operators.{operate, inverted, part_of, joined}
use Rattle.cx_vtree.specs.Sound.{applied_width, chosen_width, joined_width, part_width}
use Rattle.cx_vnets.specs.declared.codes.Code.{Code}
use Rattle.cx_vnets.specs.declared.codes.Code.TheVariants.{Net, Literal, Slice, Item', Binary', Not', Choose', Cat'}
use Rattle.cx_vnets.specs.declared.nets.Nets.{Nets}
use Rattle.cx_vnets.specs.declared.nets.Stored.{Stored}
use Rattle.cx_vnets.specs.Arrays.{word_at, array_width}
use Rattle.cx_vnets.specs.Codes.{code_in, code_width}
use Rattle.cx_vnets.specs.Fits.{Fits, width_at}
use Rattle.cx_vnets.specs.Carriers.{AreAlike, AreGiven}
use Rattle.cx_vnets.specs.Gates.{IsGate, HasGate, GatesStand, IsKnownZero, IsShut, ZerosStand}
use Rattle.cx_vnets.specs.Search.{SameWidths}
use Rattle.cx_vnets.specs.Stale.{is_stale}
use Rattle.cx_vnets.specs.Stale.{is_stale}
use Rattle.cx_vnets.specs.Values.{code_at, driver_in, rule}
use Rattle.cx_vnets.proofs.Waiting.{width_there}
use Rattle.cx_vnets.proofs.WatchLemmas.{net_value}
use Rattle.cx_vnets.proofs.Widths.{and_first, and_second, and_third}
use Rattle.cx_text.proofs.ListLaws.{either_at}

-- the gate of one more net
pub gates_more : (n : Nets) (origins gates : List (Option ℕ)) (x : Option ℕ) (net : ℕ) → GatesStand n origins gates → length gates ≡ net → ((g : ℕ) → x ≡ Some g → HasGate n origins net g)
    → GatesStand n origins (gates ++ x ∷ [])
gates_more n origins gates x net stand long h f gate at = ⊎_elim
    (λ l. stand f gate l)
    (λ r. subst (λ k. HasGate n origins k gate) (sym (r.0 ∙ long)) (h gate r.1)) (either_at gates x (Some gate) f at)

-- the gate that stands in the table, where one does
pub gate_given : (o : Option (Option ℕ)) (x : Option ℕ) → o ≡ Some x → IfSome x (λ g. o ≡ Some (Some g))
gate_given o None e = tt
gate_given o (Some g) e = e

-- CODES whose nets have values have one, where widths fit
map_is_some : {A B : Type 0} (f : A → B) (o : Option A) → IsSome o → IsSome (option_map f o)
map_is_some f None s = s
map_is_some f (Some x) s = refl

map_was_some : {A B : Type 0} (f : A → B) (o : Option A) → IsSome (option_map f o) → IsSome o
map_was_some f None s = s
map_was_some f (Some x) s = refl

both_are_some : {A B C : Type 0} (f : A → B → C) (o : Option A) (p : Option B) → IsSome o → IsSome p → IsSome (option_and_then (λ x. option_map (f x) p) o)
both_are_some f None p s t = s
both_are_some f (Some x) p s t = map_is_some (f x) p t

chosen_is_some : (o p q : Option BitVector) → IsSome o → IsSome p → IsSome q → IsSome (option_and_then (λ (t : BitVector). if t.value == 0 then q else p) o)
chosen_is_some None p q s t u = s
chosen_is_some (Some x) p q s t u = elim (x.value == 0) as (λ c. IsSome (if c then q else p)) [ true ↦ u | false ↦ t ]

module _ (nets : ℕ → Option BitVector) (widths arrays : ℕ → Option ℕ) (words : ℕ → ℕ → BitVector) (have : (k : ℕ) → IsSome (widths k) → IsSome (nets k)) where
  code_is_some : (c : Code) → IsSome (code_width widths arrays c) → IsSome (code_in nets words c)
  code_is_some (Net k) s = have k s
  code_is_some (Literal b) s = refl
  code_is_some (Slice k high low) s = map_is_some (part_of high low) (nets k) (have k (and_first (λ w. part_width w high low) (widths k) s))
  code_is_some (Item' a p i) s =
      map_is_some (λ (x : BitVector). words a x.value) (code_in nets words i) (code_is_some i (and_first (λ v. arrays a) (code_width widths arrays i) s))
  code_is_some (Binary' op p a q b) s =
      both_are_some (operate op) (code_in nets words a) (code_in nets words b)
      (code_is_some a (and_first (λ v. option_and_then (applied_width op v) (code_width widths arrays b)) (code_width widths arrays a) s))
      (code_is_some b (and_second (applied_width op) (code_width widths arrays a) (code_width widths arrays b) s))
  code_is_some (Not' p a) s = map_is_some inverted (code_in nets words a) (code_is_some a s)
  code_is_some (Choose' p c q a r b) s =
      chosen_is_some (code_in nets words c) (code_in nets words a) (code_in nets words b)
      (code_is_some c (and_first (λ t. option_and_then (λ v. option_and_then (chosen_width t v) (code_width widths arrays b)) (code_width widths arrays a)) (code_width widths arrays c) s))
      (code_is_some a
      (and_second (λ t v. option_and_then (chosen_width t v) (code_width widths arrays b)) (code_width widths arrays c) (code_width widths arrays a) s))
      (code_is_some b (and_third chosen_width (code_width widths arrays c) (code_width widths arrays a) (code_width widths arrays b) s))
  code_is_some (Cat' p a q b) s =
      both_are_some joined (code_in nets words a) (code_in nets words b)
      (code_is_some a (and_first (λ v. option_and_then (joined_width v) (code_width widths arrays b)) (code_width widths arrays a) s))
      (code_is_some b (and_second joined_width (code_width widths arrays a) (code_width widths arrays b) s))

-- GATES that are 0
module _ (nets : ℕ → Option BitVector) (words : ℕ → ℕ → BitVector) (v : BitVector) (zero_gate : v.value ≡ 0) where
  abbrev nothing : BitVector
  nothing = record { width = v.width; value = 0 }

  anded : (o : Option BitVector) → IsSome o → option_map (operate And v) o ≡ Some nothing
  anded None s = absurd (cc)
  anded (Some y) s =
      let none : bit_and v.value y.value ≡ 0 = ap (λ x. bit_and x y.value) zero_gate ∙ and_zero_l y.value in
      let made : ℕ → Option BitVector = λ x. Some (record { width = v.width; value = x }) in
      ap made none

  -- what a code gives where its gate is 0
  gate_value : (c : Code) (k : ℕ) → IsGate c k → nets k ≡ Some v → IsSome (code_in nets words c) → code_in nets words c ≡ Some nothing
  gate_value (Net m) k is e s = absurd is
  gate_value (Literal b) k is e s = absurd is
  gate_value (Slice m high low) k is e s = absurd is
  gate_value (Item' a p i) k is e s = absurd is
  gate_value (Binary' op p a q b) k is e s =
      let step : code_in nets words (Binary' op p a q b) ≡ option_map (operate And v) (code_in nets words b)
      = ap (λ o. option_and_then (λ x. option_map (operate o x) (code_in nets words b)) (code_in nets words a)) is.0
      ∙ ap (option_and_then (λ x. option_map (operate And x) (code_in nets words b))) (net_value nets words a k is.1 ∙ e) in
      step ∙ anded (code_in nets words b) (map_was_some (operate And v) (code_in nets words b) (subst IsSome step s))
  gate_value (Not' p a) k is e s = absurd is
  gate_value (Choose' p c q a r b) k is e s = absurd is
  gate_value (Cat' p a q b) k is e s = absurd is

module _ (n : Nets) (s : Stored) (fits : Fits n s) (origins : List (Option ℕ)) (f gate : ℕ) (within : f < length n.drivers.items) (has : HasGate n origins f gate) where
  of_code : (values : List BitVector) → rule n s (slice_get values) f ≡ code_at s (slice_get values) has.place has.code
  of_code values = ap (driver_in n s (slice_get values) f) has.driver ∙ ap (option_and_then (code_at s (slice_get values) has.place)) has.stands

  code_there : (values : List BitVector) → SameWidths values s.nets.items → IsSome (code_at s (slice_get values) has.place has.code)
  code_there values widths =
      let r = fits.given f has.number has.place has.driver in
      let same : r.0 ≡ has.code = same_Some r.0 has.code (sym r.1 ∙ has.stands) in
      let width = subst (λ c. IsSome (code_width (λ k. width_at s.nets.items (has.place.nets + k)) (λ a. array_width s.arrays.items (has.place.arrays + a)) c)) same
      (subst IsSome (sym r.2) (width_there n s fits f within)) in
      code_is_some (λ k. slice_get values (has.place.nets + k)) (λ k. width_at s.nets.items (has.place.nets + k)) (λ a. array_width s.arrays.items (has.place.arrays + a))
      (λ a. word_at s.arrays.items (has.place.arrays + a))
      (λ k i. map_was_some (λ (b : BitVector). b.width) (slice_get values (has.place.nets + k)) (subst IsSome (sym (widths (has.place.nets + k))) i)) has.code width

  -- a net gets the same by all values in which its gate is 0 and has the same width, and nets have the values of their origins
  pub shut_same : (a b : List BitVector) → AreAlike origins a → AreAlike origins b → SameWidths a s.nets.items → SameWidths b s.nets.items → (v : BitVector) → v.value ≡ 0 → slice_get a gate ≡ Some v → slice_get b gate ≡ Some v
      → rule n s (slice_get a) f ≡ rule n s (slice_get b) f
  shut_same a b one other wide broad v zero_gate at there =
      of_code a
      ∙ gate_value (λ k. slice_get a (has.place.nets + k)) (λ x. word_at s.arrays.items (has.place.arrays + x)) v zero_gate has.code has.local has.is_gate (one (has.place.nets + has.local) ∙ ap (slice_get a) has.there ∙ at) (code_there a wide)
      ∙ sym (gate_value (λ k. slice_get b (has.place.nets + k)) (λ x. word_at s.arrays.items (has.place.arrays + x)) v zero_gate has.code has.local has.is_gate (other (has.place.nets + has.local) ∙ ap (slice_get b) has.there ∙ there)
      (code_there b broad))
      ∙ sym (of_code b)

-- a net is known to be 0, or it is not
known_or_not : (nonzero : List ℕ) (net : ℕ) → IsKnownZero nonzero net ⊎ (IsKnownZero nonzero net → ⊥)
known_or_not nonzero net = ⊎_elim
    (λ l. ⊎_elim
    (λ t. inr (λ k. let never : true ≡ false = sym t ∙ k.1 in absurd (cc)))
    (λ f. inl (l, f)) (cases_Bool (is_stale nonzero net)))
    (λ m. inr (λ k. let lt = k.0 in absurd (omega (arith, lt, m)))) (cases_lt net (length nonzero))

-- a net is shut, or it is not
pub shut_or_not : (gates : List (Option ℕ)) (nonzero : List ℕ) (changed f : ℕ) → IsShut gates nonzero changed f ⊎ (IsShut gates nonzero changed f → ⊥)
shut_or_not gates nonzero changed f = by_gate (slice_get gates f) refl
  where
    by_byte : (gate : ℕ) → slice_get gates f ≡ Some (Some gate) → gate ≢ changed → IsShut gates nonzero changed f ⊎ (IsShut gates nonzero changed f → ⊥)
    by_byte gate has other = ⊎_elim
        (λ k. inl (record { gate = gate; has = has; other = other; known = k }))
        (λ nk. inr (λ x.
        let inner = same_Some (Some gate) (Some x.gate) (sym has ∙ x.has) in
        let same : gate ≡ x.gate = same_Some gate x.gate inner in
        nk (subst (IsKnownZero nonzero) (sym same) x.known))) (known_or_not nonzero gate)

    by_gate : (o : Option (Option ℕ)) → slice_get gates f ≡ o → IsShut gates nonzero changed f ⊎ (IsShut gates nonzero changed f → ⊥)
    by_gate None at = inr (λ x. let none : None ≡ Some (Some x.gate) = sym at ∙ x.has in absurd (cc))
    by_gate (Some None) at = inr (λ x. let none : None ≡ Some x.gate = same_Some None (Some x.gate) (sym at ∙ x.has) in absurd (cc))
    by_gate (Some (Some gate)) at = ⊎_elim
        (λ e. inr (λ x.
        let inner = same_Some (Some gate) (Some x.gate) (sym at ∙ x.has) in
        let same : gate ≡ x.gate = same_Some gate x.gate inner in
        x.other (sym same ∙ e)))
        (λ ne. by_byte gate at ne) (cases_eq gate changed)

-- it is noted of a net whether its value is 0, which has been given to it and to those that carry it
pub zeros_given : (origins : List (Option ℕ)) (nonzero noted : List ℕ) (values after : List BitVector) (net : ℕ) (v : BitVector) → ZerosStand origins nonzero values → AreGiven origins net v values after
    → net < length values → (IsKnownZero noted net → v.value ≡ 0) → ((f : ℕ) → f ≢ net → IsKnownZero noted f → IsKnownZero nonzero f) → ZerosStand origins noted after
zeros_given origins nonzero noted values after net v stand given within here kept f own known = ⊎_elim
    (λ (same : f ≡ net). record {
      value = v;
      stands = given.here f (subst (λ k. k < length values) (sym same) within) (own ∙ same);
      zero = here (subst (IsKnownZero noted) same known);
    })
    (λ (other : f ≢ net). let z = stand f own (kept f other known) in record { value = z.value; stands = given.others f (λ e. other (sym own ∙ e)) ∙ z.stands; zero = z.zero }) (cases_eq f net)
