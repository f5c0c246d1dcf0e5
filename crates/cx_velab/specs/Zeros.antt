-- What the zeros before a run stand for.
use Rattle.std.specs.Prelude.{◌≡◌, ℕ, ◌+◌, List, Some, map, slice_get}
use Rattle.cx_vtree.specs.InstanceTree.{Placed, ports_at, decls_at, nets_at, Outside, origin_of}
use Rattle.cx_vtree.specs.Meaning.{State, Moment}
use Rattle.cx_vnets.specs.declared.nets.Stored.{Stored}
use Rattle.cx_vnets.specs.Stores.{plain_words}
use Rattle.cx_vnets.specs.CodeLaws.{net_widths}
use Rattle.cx_vnets.specs.Numbers.{nets_before}
use Rattle.cx_vnets.specs.EdgesFlat.{AreApart}
use Rattle.cx_vnets.specs.Memory.{StoredStands}
use Rattle.cx_velab.specs.Tables.{all_zeros, all_zero_arrays}
use Rattle.cx_bits.specs.BitVector.{zero_of}

-- the widths of the nets of an instance
abbrev pub widths_at : List Placed → ℕ → List ℕ
widths_at tree i = net_widths (ports_at tree i) (decls_at tree i)

-- the number of a net has a zero of its width
abbrev pub ZerosHaveWidths : Type 0
ZerosHaveWidths =
    (tree : List Placed) (i k w : ℕ) → slice_get (widths_at tree i) k ≡ Some w
    → slice_get (all_zeros tree) (nets_before tree i + k) ≡ Some (zero_of w)

-- all registers, words and inputs are 0
abbrev pub zero_moment : Moment
zero_moment =
    let state : State = record { register = λ i name. 0; word = λ i name index. 0 } in
    record { state = state; reset = 0; go = 0 }

-- the inputs of `main` have one bit
abbrev pub InputsAreBits : List Placed → Type 0
InputsAreBits tree =
    (i k : ℕ) (name : List ℕ) → slice_get (nets_at tree i) k ≡ Some name
    → origin_of tree i name ≡ Some Outside → slice_get (widths_at tree i) k ≡ Some 1

-- zeros stand for a cycle in which all is 0
abbrev pub ZerosStand : Type 0
ZerosStand =
    (tree : List Placed) (s : Stored) → AreApart tree → InputsAreBits tree → s.nets.items ≡ all_zeros tree
    → map plain_words s.arrays.items ≡ all_zero_arrays tree
    → StoredStands tree zero_moment s
