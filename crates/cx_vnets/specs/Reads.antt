-- What codes and the drivers of nets read.
use Rattle.std.specs.Prelude.{ℕ, ◌+◌, List, Option, Some, None, slice_get}
use Rattle.cx_vnets.specs.declared.codes.Code.{Code}
use Rattle.cx_vnets.specs.declared.codes.Code.TheVariants.{Net, Literal, Slice, Item', Binary', Not', Choose', Cat'}
use Rattle.cx_vnets.specs.declared.nets.Nets.{Nets}
use Rattle.cx_vnets.specs.declared.nets.Driver.{Driver}
use Rattle.cx_vnets.specs.declared.nets.Driver.TheVariants.{Held, Tied, Given}

-- each net that a code names is so, and each array; also those of the sides of a choice that are not taken
abbrev pub CodeReads : (ℕ → Type 0) → (ℕ → Type 0) → Code → Type 0
CodeReads net array (Net k) = net k
CodeReads net array (Literal b) = Unit {0}
CodeReads net array (Slice k high low) = net k
CodeReads net array (Item' a p i) = array a × CodeReads net array i
CodeReads net array (Binary' op p a q b) = CodeReads net array a × CodeReads net array b
CodeReads net array (Not' p a) = CodeReads net array a
CodeReads net array (Choose' p c q a r b) = CodeReads net array c × CodeReads net array a × CodeReads net array b
CodeReads net array (Cat' p a q b) = CodeReads net array a × CodeReads net array b

abbrev pub OptionReads : (ℕ → Type 0) → (ℕ → Type 0) → Option Code → Type 0
OptionReads net array None = Unit {0}
OptionReads net array (Some c) = CodeReads net array c

abbrev pub DriverReads : List Code → (ℕ → Type 0) → (ℕ → Type 0) → Option Driver → Type 0
DriverReads codes net array None = Unit {0}
DriverReads codes net array (Some Held) = Unit {0}
DriverReads codes net array (Some (Tied g)) = net g
DriverReads codes net array (Some (Given c p)) =
    OptionReads (λ k. net (p.nets + k)) (λ a. array (p.arrays + a)) (slice_get codes c)

-- each net that the driver of a net names is so, and each array
abbrev pub NetReads : Nets → (ℕ → Type 0) → (ℕ → Type 0) → ℕ → Type 0
NetReads n net array f = DriverReads n.codes.items net array (slice_get n.drivers.items f)
