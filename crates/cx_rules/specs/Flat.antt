-- Designs without static components, and names of which flat ones are made.
use Rattle.std.specs.Prelude.{◌≡◌, ◌≢◌, ℕ, ◌<◌, List, [], None, length}
use Rattle.cx_meaning.specs.declared.kinds.PortDecl.{PortDecl}
use Rattle.cx_meaning.specs.Designs.{PlainCell, PlainComponent, PlainDesign, component_at}
use Rattle.cx_text.specs.Members.{In}

-- a component that takes as many cycles as its control needs, and whose control has no static invoke
pub record IsFlatPart (part : PlainComponent) : Type 0 where
  pub dynamic : part.latency ≡ None
  pub no_invoke : part.invokes ≡ []

-- A DESIGN WITHOUT STATIC COMPONENTS
abbrev pub IsFlat : PlainDesign → Type 0
IsFlat d = (k : ℕ) → k < length d.components → IsFlatPart (component_at d k)

-- names that can be joined by points: none is empty, and none holds a point
abbrev pub point : ℕ
point = 46

pub record IsPlainName (name : List ℕ) : Type 0 where
  pub some : name ≢ []
  pub no_point : In name point → ⊥

pub record HasPlainNames (part : PlainComponent) : Type 0 where
  pub cells : (cell : PlainCell) → In part.cells cell → IsPlainName cell.name
  pub inputs : (decl : PortDecl) → In part.inputs decl → IsPlainName decl.name
  pub outputs : (decl : PortDecl) → In part.outputs decl → IsPlainName decl.name

-- A DESIGN WITH PLAIN NAMES, as that of each text
abbrev pub ArePlainNames : PlainDesign → Type 0
ArePlainNames d = (k : ℕ) → k < length d.components → HasPlainNames (component_at d k)
