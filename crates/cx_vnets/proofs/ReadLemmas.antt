-- What follows from what nets read.
use Rattle.std.proofs.Common.{◌≡◌, ℕ, ◌+◌, ◌==◌, Option, Some, None, option_and_then, option_map, slice_get, refl, ap, ◌∙◌, if◌then◌else◌}
use Rattle.cx_bits.specs.BitVector.{BitVector}
use Rattle.cx_vtree.specs.Operators.{operate, inverted, part_of, joined}
use Rattle.cx_vnets.specs.declared.codes.Code.{Code}
use Rattle.cx_vnets.specs.declared.codes.Code.TheVariants.{Net, Literal, Slice, Item', Binary', Not', Choose', Cat'}
use Rattle.cx_vnets.specs.declared.codes.NetPosition.{NetPosition}
use Rattle.cx_vnets.specs.declared.nets.Nets.{Nets}
use Rattle.cx_vnets.specs.declared.nets.Stored.{Stored}
use Rattle.cx_vnets.specs.declared.nets.Driver.{Driver}
use Rattle.cx_vnets.specs.declared.nets.Driver.TheVariants.{Held, Tied, Given}
use Rattle.cx_vnets.specs.Arrays.{word_at}
use Rattle.cx_vnets.specs.Codes.{code_in}
use Rattle.cx_vnets.specs.Reads.{CodeReads, OptionReads, DriverReads, NetReads}
use Rattle.cx_vnets.specs.Values.{code_at, driver_in, rule}

module _ (net other array another : ℕ → Type 0) (more : (k : ℕ) → net k → other k) (also : (a : ℕ) → array a → another a) where
  pub code_reads : (c : Code) → CodeReads net array c → CodeReads other another c
  code_reads (Net k) h = more k h
  code_reads (Literal b) h = h
  code_reads (Slice k high low) h = more k h
  code_reads (Item' a p i) h = (also a h.0, code_reads i h.1)
  code_reads (Binary' op p a q b) h = (code_reads a h.0, code_reads b h.1)
  code_reads (Not' p a) h = code_reads a h
  code_reads (Choose' p c q a r b) h = (code_reads c h.0, code_reads a h.1, code_reads b h.2)
  code_reads (Cat' p a q b) h = (code_reads a h.0, code_reads b h.1)

module _ (n : Nets) (net other array another : ℕ → Type 0) (more : (k : ℕ) → net k → other k) (also : (a : ℕ) → array a → another a) where
  option_reads : (p : NetPosition) (o : Option Code) → OptionReads (λ k. net (p.nets + k)) (λ a. array (p.arrays + a)) o → OptionReads (λ k. other (p.nets + k)) (λ a. another (p.arrays + a)) o
  option_reads p None h = h
  option_reads p (Some c) h =
      code_reads (λ k. net (p.nets + k)) (λ k. other (p.nets + k)) (λ a. array (p.arrays + a)) (λ a. another (p.arrays + a)) (λ k. more (p.nets + k)) (λ a. also (p.arrays + a)) c h

  driver_reads : (o : Option Driver) → DriverReads n.codes.items net array o → DriverReads n.codes.items other another o
  driver_reads None h = h
  driver_reads (Some Held) h = h
  driver_reads (Some (Tied g)) h = more g h
  driver_reads (Some (Given c p)) h = option_reads p (slice_get n.codes.items c) h

  -- what is so of all that a net reads, where it follows from what is so of that
  pub net_reads : (f : ℕ) → NetReads n net array f → NetReads n other another f
  net_reads f h = driver_reads (slice_get n.drivers.items f) h

-- a code has one value by all that agree on what it reads
module _ (nets more : ℕ → Option BitVector) (words others : ℕ → ℕ → BitVector) where
  pub code_same : (c : Code) → CodeReads (λ k. nets k ≡ more k) (λ a. (i : ℕ) → words a i ≡ others a i) c → code_in nets words c ≡ code_in more others c
  code_same (Net k) h = h
  code_same (Literal b) h = refl
  code_same (Slice k high low) h = ap (option_map (part_of high low)) h
  code_same (Item' a p i) h =
      ap (option_map (λ (x : BitVector). words a x.value)) (code_same i h.1)
      ∙ ap (λ (f : BitVector → BitVector). option_map f (code_in more others i)) (λ t x. h.0 x.value t)
  code_same (Binary' op p a q b) h =
      ap (λ z. option_and_then (λ v. option_map (operate op v) z) (code_in nets words a)) (code_same b h.1)
      ∙ ap (option_and_then (λ v. option_map (operate op v) (code_in more others b))) (code_same a h.0)
  code_same (Not' p a) h = ap (option_map inverted) (code_same a h)
  code_same (Choose' p c q a r b) h =
      ap (λ z. option_and_then (λ (t : BitVector). if t.value == 0 then z else code_in nets words a) (code_in nets words c)) (code_same b h.2)
      ∙ ap (λ z. option_and_then (λ (t : BitVector). if t.value == 0 then code_in more others b else z) (code_in nets words c)) (code_same a h.1)
      ∙ ap (option_and_then (λ (t : BitVector). if t.value == 0 then code_in more others b else code_in more others a)) (code_same c h.0)
  code_same (Cat' p a q b) h =
      ap (λ z. option_and_then (λ v. option_map (joined v) z) (code_in nets words a)) (code_same b h.1)
      ∙ ap (option_and_then (λ v. option_map (joined v) (code_in more others b))) (code_same a h.0)

-- the driver of a net gives it the same by all that agree on what the net reads
module _ (n : Nets) (s t : Stored) (nets more : ℕ → Option BitVector) (f : ℕ) (held : slice_get s.nets.items f ≡ slice_get t.nets.items f) where
  abbrev same_array : ℕ → Type 0
  same_array a = (i : ℕ) → word_at s.arrays.items a i ≡ word_at t.arrays.items a i

  option_same : (p : NetPosition) (o : Option Code) → OptionReads (λ k. nets (p.nets + k) ≡ more (p.nets + k)) (λ a. same_array (p.arrays + a)) o
      → option_and_then (code_at s nets p) o ≡ option_and_then (code_at t more p) o
  option_same p None h = refl
  option_same p (Some c) h =
      code_same (λ k. nets (p.nets + k)) (λ k. more (p.nets + k)) (λ a. word_at s.arrays.items (p.arrays + a)) (λ a. word_at t.arrays.items (p.arrays + a)) c h

  driver_same : (o : Option Driver) → DriverReads n.codes.items (λ g. nets g ≡ more g) same_array o → driver_in n s nets f o ≡ driver_in n t more f o
  driver_same None h = refl
  driver_same (Some Held) h = held
  driver_same (Some (Tied g)) h = h
  driver_same (Some (Given c p)) h = option_same p (slice_get n.codes.items c) h

  pub rule_same : NetReads n (λ g. nets g ≡ more g) same_array f → rule n s nets f ≡ rule n t more f
  rule_same h = driver_same (slice_get n.drivers.items f) h
