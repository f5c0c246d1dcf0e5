-- Facts of what `Ports` defines, that several crates above take.
use Rattle.std.proofs.Common.{◌≡◌, ℕ, zero, suc, length, refl, List, None, Option, Some, [], arith, ◌<◌, ◌∷◌}
use Rattle.cx_meaning.specs.Designs.{PlainDesign, component_at}
use Rattle.cx_meaning.specs.Instances.{part_of, tree_within}
use Rattle.cx_rules.specs.Ports.{component_of, declared_width}
use Rattle.cx_meaning.specs.declared.kinds.PortDecl.{PortDecl}

pub part_is : (d : PlainDesign) (k : ℕ) → part_of (component_of d k) ≡ component_at d k
part_is d k = choice (length d.components)
  where
    choice : (n : ℕ) → part_of (tree_within d n k) ≡ component_at d k
    choice zero = refl
    choice (suc n) = refl

pub declared_less : (decls : List PortDecl) (n w : ℕ) → declared_width decls n ≡ Some w → n < length decls
declared_less [] n w e = absurd (let clash : ◌≡◌ {A = Option ℕ} None (Some w) = e in cc)
declared_less (x ∷ xs) zero w e = omega arith
declared_less (x ∷ xs) (suc n) w e = let h = declared_less xs n w e in omega (arith, h)
