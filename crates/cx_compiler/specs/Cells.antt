-- That each cell of a design has an instance of its own in a source, and that each module of a source stands somewhere.
use Rattle.std.specs.Prelude.{◌≡◌, ◌⊎◌, ℕ, ◌+◌, List, [], ◌∷◌, length, Some, slice_get, codes}
use Rattle.cx_prim.specs.declared.names.PrimitiveName.TheVariants as primitives
use Rattle.cx_meaning.specs.Designs.{PlainKind, OfPrimitive, OfComponent, PlainCell, PlainDesign, component_at}
use Rattle.cx_rules.specs.Wellformed.{LeadsTo}
use Rattle.cx_vtree.specs.InstanceTree.{Placed, instances_of}
use Rattle.cx_vtree.specs.Plain.{PlainInstance, PlainModule, PlainSource}
use Rattle.cx_vmods.specs.Modules.{module_of}

-- a module of the source
abbrev pub IsModule : PlainSource → PlainModule → Type 0
IsModule source m = (n : ℕ) × (slice_get source.modules n ≡ Some m)

-- where each component has its module: the module of this name is that of a kind. (In a sound source no two modules have one name)
abbrev pub IsNameOf : PlainSource → (ℕ → PlainModule) → PlainKind → List ℕ → Type 0
IsNameOf source module_for (OfPrimitive p) name = IsModule source (module_of p name)
IsNameOf source module_for (OfComponent k) name = (module_for k).name ≡ name

-- THE MODULE OF COMPONENT k: its instances are those of the component's cells, in their order and each of the module
-- of the cell's kind, and behind them timers alone
pub record HasEachCell (d : PlainDesign) (source : PlainSource) (module_for : ℕ → PlainModule) (k : ℕ) : Type 0 where
  pub stands : IsModule source (module_for k)
  pub cells : (c : ℕ) (cell : PlainCell) → slice_get (component_at d k).cells c ≡ Some cell
      → (x : PlainInstance) × (slice_get (module_for k).instances c ≡ Some x)
      × IsNameOf source module_for cell.kind x.kind
  pub timers : (t : ℕ) (x : PlainInstance)
      → slice_get (module_for k).instances (length (component_at d k).cells + t) ≡ Some x
      → (n : ℕ) × IsModule source (module_of (record { name = primitives.Timer; numbers = n ∷ [] }) x.kind)

-- EACH CELL HAS ITS INSTANCE, of each component that main reaches, and main's is the module `main`
pub record HasCells (d : PlainDesign) (source : PlainSource) : Type 0 where
  pub module_for : ℕ → PlainModule
  pub main : (module_for d.main).name ≡ codes "main"
  pub parts : (k : ℕ) → (k ≡ d.main) ⊎ LeadsTo d d.main k → HasEachCell d source module_for k

-- EACH MODULE STANDS SOMEWHERE: `main`, or an instance in the tree below it, is of it
abbrev pub EachStands : PlainSource → Type 0
EachStands source =
    (m : PlainModule) → IsModule source m → (i : ℕ) × (instance : Placed)
    × (slice_get (instances_of source) i ≡ Some instance) × (instance.part ≡ m)
