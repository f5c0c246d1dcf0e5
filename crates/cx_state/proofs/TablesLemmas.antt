-- Facts of what `Tables` defines, that several crates above take.
use Rattle.std.proofs.Common.{◌≡◌, ℕ, Some, sym, ◌∙◌}
use Rattle.cx_meaning.specs.Designs.{PlainDesign}
use Rattle.cx_meaning.specs.Instances.{Path}
use Rattle.cx_state.specs.Tables.{IsNumber}

pub one_path : (d : PlainDesign) (m : ℕ) (p q : Path) → IsNumber d m p → IsNumber d m q → p ≡ q
one_path d m p q a b = let e : Some p ≡ Some q = sym a ∙ b in cc
