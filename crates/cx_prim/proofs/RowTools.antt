-- Small steps that the laws of several rows take.
use Rattle.std.specs.Prelude.{◌≡◌, ℕ, ◌<◌, ◌^◌, Bool, true, false, List, Option, Some, None, IfSome, slice_get, if◌then◌else◌, refl}
use Rattle.std.proofs.Common.{subst}
use Rattle.std.proofs.lemmas.Nat.{pow_pos}
use Rattle.cx_bits.specs.BitVector.{BitVector, Fits}
use Rattle.cx_prim.specs.declared.ports.PortRow.{PortRow}
use Rattle.cx_prim.specs.Rows.{Inputs, input, number_of, value_at, FitsPorts, AreValues, IsOfWidth}
use Rattle.cx_prim.specs.Widths.{IsWidth}

-- what stands at a port, of an output that is there
pub out_fits : (q port : PortRow) (a b : BitVector) → Some q ≡ Some port → Some a ≡ Some b → IsOfWidth q.width a → IsOfWidth port.width b
out_fits q port a b same_port same_value ok =
    let one_port : q ≡ port = cc in
    let one_value : a ≡ b = cc in
    let at_port : IsOfWidth port.width a = subst (λ (p : PortRow). IsOfWidth p.width a) one_port ok in
    subst (IsOfWidth port.width) one_value at_port

pub number_fits : (w v : ℕ) → IsWidth w → v < 2 ^ w → IsOfWidth w (record { width = w; value = v })
number_fits w v is_width below = record { same_width = refl; fits = record { some_bits = is_width.some_bits; few_bits = is_width.few_bits; in_range = below } }

-- two choices that differ only where the test is true
pub if-same_else : {A : Type 0} (b : Bool) (x y z : A) → (b ≡ true → x ≡ y) → (if b then x else z) ≡ (if b then y else z)
if-same_else true x y z h = h refl
if-same_else false x y z h = refl

-- both choices have a property
pub if-each : {A : Type 0} (P : A → Type 0) (b : Bool) (x y : A) → P x → P y → P (if b then x else y)
if-each P true x y px py = px
if-each P false x y px py = py

-- the number at a port is below two to its width
pub number_of_below : (w : ℕ) (o : Option BitVector) → ((b : BitVector) → o ≡ Some b → b.width ≡ w) → IfSome o Fits → number_of o < 2 ^ w
number_of_below w None same fits = pow_pos w
number_of_below w (Some b) same fits = let h : b.value < 2 ^ b.width = fits.in_range in subst (λ (v : ℕ). b.value < 2 ^ v) (same b refl) h

pub some_fits : (o : Option BitVector) → ((b : BitVector) → o ≡ Some b → Fits b) → IfSome o Fits
some_fits None each = tt
some_fits (Some b) each = each b refl

pub value_at_below : (ports : List PortRow) (inputs : Inputs) (n : ℕ) (port : PortRow) → FitsPorts ports inputs → slice_get ports n ≡ Some port → IfSome (input inputs n) Fits → value_at inputs n < 2 ^ port.width
value_at_below ports inputs n port fit at fits = number_of_below port.width (input inputs n) (λ b e. fit.widths n port b at e) fits

pub value_at_fits : (ports : List PortRow) (inputs : Inputs) (n : ℕ) (port : PortRow) → FitsPorts ports inputs → AreValues inputs → slice_get ports n ≡ Some port → value_at inputs n < 2 ^ port.width
value_at_fits ports inputs n port fit values at = value_at_below ports inputs n port fit at (some_fits (input inputs n) (λ b e. values n b e))
