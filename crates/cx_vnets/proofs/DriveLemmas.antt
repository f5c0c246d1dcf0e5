-- What the driver of a net gives it, where all nets have values.
use Rattle.std.proofs.Common.{◌≡◌, ℕ, ◌+◌, ◌<◌, Bool, List, Option, Some, None, IsSome, is_some, option_and_then, option_map, length, get_or, slice_get, refl, ap, sym, ◌∙◌, subst}
use Rattle.std.proofs.lemmas.Option.{same_Some, slice_get-get_or, slice_get_within}
use Rattle.cx_bits.specs.BitVector.{BitVector}
use Rattle.cx_vnets.specs.declared.codes.Code.{Code}
use Rattle.cx_vnets.specs.declared.codes.NetPosition.{NetPosition}
use Rattle.cx_vnets.specs.declared.nets.Nets.{Nets}
use Rattle.cx_vnets.specs.declared.nets.Stored.{Stored}
use Rattle.cx_vnets.specs.declared.nets.Driver.{Driver}
use Rattle.cx_vnets.specs.declared.nets.Driver.TheVariants.{Held, Tied, Given}
use Rattle.cx_vnets.specs.Arrays.{array_width}
use Rattle.cx_vnets.specs.Codes.{code_width}
use Rattle.cx_vnets.specs.Edges.{code_of, width_of}
use Rattle.cx_vnets.specs.Fits.{Fits, width_at, width_in}
use Rattle.cx_vnets.specs.Reads.{CodeReads, OptionReads, DriverReads, NetReads}
use Rattle.cx_vnets.specs.Search.{SameWidths, no_bits}
use Rattle.cx_vnets.specs.Values.{code_at, driver_in, rule}
use Rattle.cx_vnets.specs.Watches.{CodeHears, OptionHears, DriverHears, NetHears}
use Rattle.cx_vnets.proofs.CodeWidths.{code_has_width}
use Rattle.cx_vnets.proofs.Waiting.{width_there, some_along}
use Rattle.cx_vnets.proofs.Widths.{net_there}
use Rattle.cx_text.proofs.ListLaws.{read_at}

module _ (n : Nets) (s : Stored) (fits : Fits n s) (values : List BitVector) (widths : SameWidths values s.nets.items) (f : ℕ) (within : f < length n.drivers.items)
    (d : Driver) (driver : d ≡ get_or n.drivers.items f d) where
  at : slice_get n.drivers.items f ≡ Some d
  at = read_at n.drivers.items f d within driver

  pub held_there : f < length s.nets.items
  held_there = subst (λ k. f < k) fits.long within

  pub rule_held : d ≡ Held → (v : BitVector) → v ≡ get_or s.nets.items f v → rule n s (slice_get values) f ≡ Some v
  rule_held is v read = ap (driver_in n s (slice_get values) f) (at ∙ ap Some is) ∙ read_at s.nets.items f v held_there read

  pub tied_there : (g : ℕ) → d ≡ Tied g → g < length values
  tied_there g is = net_there values g (some_along n s fits (width_at values g) (width_at s.nets.items f) (widths g ∙ fits.tied f g (at ∙ ap Some is)) (width_there n s fits f within))

  pub rule_tied : (g : ℕ) → d ≡ Tied g → (v : BitVector) → v ≡ get_or values g v → rule n s (slice_get values) f ≡ Some v
  rule_tied g is v read = ap (driver_in n s (slice_get values) f) (at ∙ ap Some is) ∙ read_at values g v (tied_there g is) read

  module _ (c : ℕ) (p : NetPosition) (is : d ≡ Given c p) where
    pub code_there : c < length n.codes.items
    code_there = let r = fits.given f c p (at ∙ ap Some is) in slice_get_within n.codes.items c r.0 r.1

    module _ (code : Code) (read : code ≡ get_or n.codes.items c code) where
      code_at_number : slice_get n.codes.items c ≡ Some code
      code_at_number = read_at n.codes.items c code code_there read

      pub code_fits : IsSome (width_of values s.arrays.items p code)
      code_fits =
          let r = fits.given f c p (at ∙ ap Some is) in
          let same : r.0 ≡ code = same_Some r.0 code (sym r.1 ∙ code_at_number) in
          let width : width_of values s.arrays.items p code ≡ width_in s p code = λ t. code_width (λ k. widths (p.nets + k) t) (λ a. array_width s.arrays.items (p.arrays + a)) code in
          some_along n s fits (width_of values s.arrays.items p code) (width_at s.nets.items f) (width ∙ ap (width_in s p) (sym same) ∙ r.2) (width_there n s fits f within)

      pub rule_given : (v : BitVector) → code_of values s.arrays.items p code ≡ Some v → rule n s (slice_get values) f ≡ Some v
      rule_given v given = ap (driver_in n s (slice_get values) f) (at ∙ ap Some is) ∙ ap (option_and_then (code_at s (slice_get values) p)) code_at_number ∙ given

-- what a net reads where a code drives it
pub reads_given : (n : Nets) (net array : ℕ → Type 0) (f c : ℕ) (p : NetPosition) (code : Code) → slice_get n.drivers.items f ≡ Some (Given c p) → slice_get n.codes.items c ≡ Some code
    → CodeReads (λ k. net (p.nets + k)) (λ a. array (p.arrays + a)) code → NetReads n net array f
reads_given n net array f c p code at there h =
    subst (DriverReads n.codes.items net array) (sym at) (subst (OptionReads (λ k. net (p.nets + k)) (λ a. array (p.arrays + a))) (sym there) h)

-- and what it hears of
pub hears_given : (n : Nets) (net array : ℕ → Type 0) (watch : ℕ → BitVector → Bool → Type 0) (f c : ℕ) (p : NetPosition) (code : Code) → slice_get n.drivers.items f ≡ Some (Given c p)
    → slice_get n.codes.items c ≡ Some code → CodeHears (λ k. net (p.nets + k)) (λ a. array (p.arrays + a)) (λ k v sided. watch (p.nets + k) v sided) code → NetHears n net array watch f
hears_given n net array watch f c p code at there h =
    subst (DriverHears n.codes.items net array watch) (sym at)
    (subst (OptionHears (λ k. net (p.nets + k)) (λ a. array (p.arrays + a)) (λ k v sided. watch (p.nets + k) v sided)) (sym there) h)

-- what a driver gives has the width of its net
module _ (n : Nets) (s : Stored) (fits : Fits n s) (values : List BitVector) (widths : SameWidths values s.nets.items) (f : ℕ) (v : BitVector) where
  width-values : (p : NetPosition) (c : Code) → width_of values s.arrays.items p c ≡ width_in s p c
  width-values p c = λ t. code_width (λ k. widths (p.nets + k) t) (λ a. array_width s.arrays.items (p.arrays + a)) c

  given_width : (c : ℕ) (p : NetPosition) → slice_get n.drivers.items f ≡ Some (Given c p) → driver_in n s (slice_get values) f (Some (Given c p)) ≡ Some v
      → (o : Option ℕ) → width_at s.nets.items f ≡ o → IsSome o → width_at s.nets.items f ≡ Some v.width
  given_width c p is e None at some = absurd (cc)
  given_width c p is e (Some w) at some =
      let r = fits.given f c p is in
      let value : code_of values s.arrays.items p r.0 ≡ Some v = sym (ap (λ o. option_and_then (code_of values s.arrays.items p) o) r.1) ∙ e in
      at ∙ ap Some (sym (code_has_width values s.arrays.items p r.0 w v fits.even (width-values p r.0 ∙ r.2 ∙ at) value))

  pub rule_width : f < length n.drivers.items → rule n s (slice_get values) f ≡ Some v → width_at values f ≡ Some v.width
  rule_width lt e = widths f ∙ go (slice_get n.drivers.items f) refl e
    where
      go : (o : Option Driver) → slice_get n.drivers.items f ≡ o → driver_in n s (slice_get values) f o ≡ Some v → width_at s.nets.items f ≡ Some v.width
      go None is e = absurd (cc)
      go (Some Held) is e = ap (option_map (λ (b : BitVector). b.width)) e
      go (Some (Tied g)) is e = sym (fits.tied f g is) ∙ sym (widths g) ∙ ap (option_map (λ (b : BitVector). b.width)) e
      go (Some (Given c p)) is e =
          given_width c p is e (width_at s.nets.items f) refl
          (ap (λ o. is_some (option_map (λ (b : BitVector). b.width) o)) (slice_get-get_or s.nets.items f no_bits (subst (λ k. f < k) fits.long lt)))
