-- Facts of what `Meanings` defines, that several crates above take.
use Rattle.std.proofs.Common.{◌≡◌, ℕ, Bool, true, false, refl, if◌then◌else◌}
use Rattle.cx_vtree.specs.declared.meanings.Meaning.TheVariants.{Input, Output}
use Rattle.cx_vtree.specs.Sound.{width_of}

pub port_width : (o : Bool) (w : ℕ) → width_of (if o then Output w else Input w) ≡ w
port_width true w = refl
port_width false w = refl
