-- Modules with the numbers of their names and their codes.
use Rattle.std.specs.Prelude.{◌≡◌, ℕ, ◌+◌, ◌<◌, ◌≤◌, ◌^◌, List, ◌++◌, Some, length, slice_get}
use Rattle.std.specs.HashMap.{HashMap}
use denote.Ref.{Bor}
use Rattle.cx_vtree.specs.Plain.{PlainExpr, PlainModule}
use Rattle.cx_vtree.specs.InstanceTree.{Placed}
use Rattle.cx_vnets.specs.declared.codes.Code.{Code}
use Rattle.cx_vnets.specs.ModuleCodes.{Numbering, IsCode}
use Rattle.cx_vnets.specs.CodeLaws.{net_numbering, array_numbering}
use Rattle.cx_vtree.specs.NameNumbers.{number_by}
use Rattle.cx_vnets.specs.Numberings.{nets_by, arrays_by}
use Rattle.cx_velab.specs.declared.parts.ModulePart.{ModulePart}
use Rattle.cx_velab.specs.Coded.{module_exprs, AssignsHaveNumbers, EdgeHasNumbers}

-- all names of a module's expressions have numbers, and these are small
pub record CanCode (m : PlainModule) : Type 0 where
  pub size : length m.ports + length m.decls < 2 ^ 32
  pub assigns : AssignsHaveNumbers (net_numbering m.ports m.decls) (array_numbering m.decls) m.assigns
  pub edge : EdgeHasNumbers (net_numbering m.ports m.decls) (array_numbering m.decls) m.edge

-- the codes from `first` on are expressions, in their order
abbrev pub HasCodes : Numbering → Numbering → List Code → ℕ → List PlainExpr → Type 0
HasCodes nets arrays codes first exprs =
    (j : ℕ) (e : PlainExpr) → slice_get exprs j ≡ Some e
    → (c : Code) × (slice_get codes (first + j) ≡ Some c) × IsCode nets arrays c e

-- a part has the numbers of a module's names and the place of its codes
pub record PartStands (codes : List Code) (m : PlainModule) (p : ModulePart) : Type 0 where
  pub nets : nets_by p.numbers ≡ net_numbering m.ports m.decls
  pub arrays : arrays_by p.numbers ≡ array_numbering m.decls
  pub coded : HasCodes (net_numbering m.ports m.decls) (array_numbering m.decls) codes p.first (module_exprs m)
  pub within : p.first + length (module_exprs m) ≤ length codes

-- codes come behind others
abbrev pub Extends : List Code → List Code → Type 0
Extends old new = (made : List Code) × (new ≡ old ++ made)

-- the part of a number stands for a module
abbrev pub HasPart : List ModulePart → List Code → ℕ → PlainModule → Type 0
HasPart list codes j m = (x : ModulePart) × (slice_get list j ≡ Some x) × PartStands codes m x

-- instances whose modules have one name have one module
abbrev pub ModulesAreNamed : List Placed → Type 0
ModulesAreNamed tree =
    (i j : ℕ) (p q : Placed) → slice_get tree i ≡ Some p → slice_get tree j ≡ Some q
    → p.part.name ≡ q.part.name → p.part ≡ q.part

-- all modules of the instances can be coded
abbrev pub AllCanCode : List Placed → Type 0
AllCanCode tree = (i : ℕ) (p : Placed) → slice_get tree i ≡ Some p → CanCode p.part

-- what is found by a name is the part of a module of that name
abbrev pub AreFound : {S : Type 0} → List Placed → HashMap (Bor (List ℕ)) ℕ S → List ModulePart → List Code → Type 0
AreFound tree found list codes = (name : List ℕ) (j : ℕ) → number_by found name ≡ Some j
    → (i : ℕ) × (p : Placed) × (slice_get tree i ≡ Some p) × (p.part.name ≡ name) × HasPart list codes j p.part

-- each instance has a part that stands for its module
abbrev pub PartsStand : List Placed → List Code → List ModulePart → List ℕ → Type 0
PartsStand tree codes list of_rows =
    (i : ℕ) (p : Placed) → slice_get tree i ≡ Some p
    → (j : ℕ) × (slice_get of_rows i ≡ Some j) × HasPart list codes j p.part
