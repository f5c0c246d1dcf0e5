-- The tables of a machine, before it runs.
use Rattle.std.specs.Prelude.{◌≡◌, ◌≤◌, ℕ, zero, suc, List, [], ◌∷◌, ◌++◌, Some, map, slice_get, replicate}
use Rattle.cx_bits.specs.BitVector.{BitVector, zero_of}
use Rattle.cx_vtree.specs.Plain.{PlainPort, PlainDecl, WireOf, RegisterOf, ArrayOf, PlainModule}
use Rattle.cx_vtree.specs.InstanceTree.{Placed}
use Rattle.cx_vnets.specs.declared.codes.NetPosition.{NetPosition}
use Rattle.cx_vnets.specs.Stores.{PlainWords}
use Rattle.cx_vnets.specs.CodeLaws.{net_widths}
use Rattle.cx_vnets.specs.Numbers.{place_of}

-- where the instances of numbers below `count` begin
abbrev pub all_places : List Placed → ℕ → List NetPosition
all_places tree zero = []
all_places tree (suc i) = all_places tree i ++ place_of tree i ∷ []

abbrev pub IsWidth : ℕ → Type 0
IsWidth w = (1 ≤ w) × (w ≤ 128)

abbrev pub decl_width : PlainDecl → ℕ
decl_width (WireOf n w) = w
decl_width (RegisterOf n w) = w
decl_width (ArrayOf n w k) = w

-- all widths of a module are those of values
pub record HasWidths (m : PlainModule) : Type 0 where
  pub ports : (j : ℕ) (p : PlainPort) → slice_get m.ports j ≡ Some p → IsWidth p.width
  pub decls : (j : ℕ) (d : PlainDecl) → slice_get m.decls j ≡ Some d → IsWidth (decl_width d)

-- a zero for each net of a module
abbrev pub module_zeros : PlainModule → List BitVector
module_zeros m = map zero_of (net_widths m.ports m.decls)

-- the arrays with zeros for words
abbrev pub zero_arrays : List PlainDecl → List PlainWords
zero_arrays [] = []
zero_arrays (WireOf n w ∷ ds) = zero_arrays ds
zero_arrays (RegisterOf n w ∷ ds) = zero_arrays ds
zero_arrays (ArrayOf n w k ∷ ds) = record { zero = zero_of w; words = replicate k (zero_of w) } ∷ zero_arrays ds

-- the same of all instances
abbrev pub all_zeros : List Placed → List BitVector
all_zeros [] = []
all_zeros (p ∷ ps) = module_zeros p.part ++ all_zeros ps

abbrev pub all_zero_arrays : List Placed → List PlainWords
all_zero_arrays [] = []
all_zero_arrays (p ∷ ps) = zero_arrays p.part.decls ++ all_zero_arrays ps
