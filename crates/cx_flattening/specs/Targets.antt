-- What may be driven in a component with static children, and in a static child: the rules see to it.
use Rattle.std.specs.Prelude.{◌≡◌, ℕ, suc, ◌<◌, true, List, [], ◌∷◌, Some, None, length}
use Rattle.cx_meaning.specs.declared.ports.PortRef.{PortRef}
use Rattle.cx_meaning.specs.declared.ports.PortRef.TheVariants as ports
use Rattle.cx_meaning.specs.Designs.{PlainAssign, PlainGroup, PlainComponent}
use Rattle.cx_meaning.specs.Control.{groups_of}
use Rattle.cx_text.specs.Members.{In}
use Rattle.cx_rules.specs.Footprints.{AssignNames}
use Rattle.cx_rules.specs.Counts.{is_one_of}
use Rattle.cx_flattening.specs.Flattened.{Kids, kid_at}

-- in the caller: a port of a cell that is kept, an output, a hole
abbrev pub OwnTarget : Kids → PlainComponent → PortRef → Type 0
OwnTarget kids part (ports.Cell c p) = (c < length part.cells) × (kid_at kids c ≡ None)
OwnTarget kids part (ports.Input n) = ⊥
OwnTarget kids part (ports.Output n) = Unit {0}
OwnTarget kids part (ports.Done g) = Unit {0}
OwnTarget kids part (ports.Literal w v) = ⊥

-- in a static child: a port of a cell, an output
abbrev pub BlockTarget : PlainComponent → PortRef → Type 0
BlockTarget child (ports.Cell e p) = e < length child.cells
BlockTarget child (ports.Input n) = ⊥
BlockTarget child (ports.Output n) = n < length child.outputs
BlockTarget child (ports.Done g) = ⊥
BlockTarget child (ports.Literal w v) = ⊥

-- the assignments of the used ones of the groups from g on have this property
abbrev pub AllUsed : (PlainAssign → Type 0) → List ℕ → ℕ → List PlainGroup → Type 0
AllUsed P used g [] = Unit {0}
AllUsed P used g (x ∷ xs) =
    (is_one_of g used ≡ true → (a : PlainAssign) → In x.assigns a → P a) × AllUsed P used (suc g) xs

-- a static child, flat: what it drives is there, no continuous assignment names an input, and the groups that it enables are there
pub record IsBlock (child : PlainComponent) : Type 0 where
  pub always : (a : PlainAssign) → In child.always a → BlockTarget child a.target
  pub no_input : (a : PlainAssign) (n : ℕ) → In child.always a → AssignNames a (ports.Input n) → ⊥
  pub there : (g : ℕ) → is_one_of g (groups_of child.control) ≡ true → g < length child.groups
  pub used : AllUsed (λ a. BlockTarget child a.target) (groups_of child.control) 0 child.groups

-- a component and its static children, flat
pub record HasTargets (kids : Kids) (part : PlainComponent) : Type 0 where
  pub always : (a : PlainAssign) → In part.always a → OwnTarget kids part a.target
  pub groups : (x : PlainGroup) (a : PlainAssign) → In part.groups x → In x.assigns a → OwnTarget kids part a.target
  pub blocks : (c : ℕ) (child : PlainComponent) → kid_at kids c ≡ Some child → IsBlock child
