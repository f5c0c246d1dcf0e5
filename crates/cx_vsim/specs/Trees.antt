-- What soundness of a source gives of its tree, as the tables of its machine need it.
use Rattle.std.specs.Prelude.{◌≡◌, ℕ, ◌+◌, ◌<◌, ◌^◌, List, Some, length, slice_get}
use Rattle.cx_vtree.specs.Plain.{PlainAssign}
use Rattle.cx_vtree.specs.InstanceTree.{Placed, Given, origin_of}
use Rattle.cx_vnets.specs.Numbers.{nets_before, arrays_before}
use Rattle.cx_vnets.specs.EdgesFlat.{AreApart, EdgesAreApart}
use Rattle.cx_vlaws.specs.MainPorts.{main_ports}
use Rattle.cx_velab.specs.Tables.{HasWidths}
use Rattle.cx_velab.specs.Zeros.{InputsAreBits}
use Rattle.cx_velab.specs.Covered.{IsTidy}
use Rattle.cx_velab.specs.Parts.{ModulesAreNamed, AllCanCode}
use Rattle.cx_velab.specs.FitsLaws.{OriginsAreAsWide, SetsAreAsWide, StoresAreAsWide}

-- modules with one name are one, and can be coded
pub record CanBeCoded (tree : List Placed) : Type 0 where
  pub named : ModulesAreNamed tree
  pub can : AllCanCode tree
  pub widths : (i : ℕ) (p : Placed) → slice_get tree i ≡ Some p → HasWidths p.part

-- the numbers of all nets and arrays, even together, fit 32 bits
pub record IsSmall (tree : List Placed) : Type 0 where
  pub nets : nets_before tree (length tree) < 2 ^ 32
  pub arrays : arrays_before tree (length tree) < 2 ^ 32
  pub both : nets_before tree (length tree) + arrays_before tree (length tree) < 2 ^ 32

-- names are apart, and so is what an edge changes
pub record IsApart (tree : List Placed) : Type 0 where
  pub names : AreApart tree
  pub edges : EdgesAreApart tree

-- what gives a net, a register or a word its value is as wide
pub record IsEvenlyWide (tree : List Placed) : Type 0 where
  pub bits : InputsAreBits tree
  pub origins : OriginsAreAsWide tree
  pub sets : (reset : ℕ) → SetsAreAsWide tree reset
  pub stores : (reset : ℕ) → StoresAreAsWide tree reset

-- the instance of `main` comes first, and each other one is held by one that is there
pub record IsRooted (tree : List Placed) : Type 0 where
  pub main : (p : Placed) × (slice_get tree 0 ≡ Some p) × (p.part.ports ≡ main_ports)
  pub holders : (i : ℕ) (p : Placed) → slice_get tree i ≡ Some p → (i ≡ 0 → ⊥) → p.holder < length tree
  pub givens : (i j : ℕ) (p : Placed) (a : PlainAssign) → slice_get tree i ≡ Some p
      → slice_get p.part.assigns j ≡ Some a → origin_of tree i a.name ≡ Some (Given a.value)

-- all that the machine of a tree asks of it
pub record CanBeBuilt (tree : List Placed) : Type 0 where
  pub tidy : IsTidy tree
  pub coded : CanBeCoded tree
  pub small : IsSmall tree
  pub apart : IsApart tree
  pub wide : IsEvenlyWide tree
  pub rooted : IsRooted tree
