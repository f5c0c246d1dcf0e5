-- Paths down from a component of a net end below it.
use Rattle.std.proofs.Common.{◌≡◌, ℕ, ◌<◌, ◌≤◌, [], ◌∷◌, length, subst, arith}
use Rattle.cx_meaning.specs.Instances.{Path}
use Rattle.cx_net.specs.Nets.{PlainNet}
use Rattle.cx_net.specs.NetFits.{IsFitKind, IsFit, IsNet}
use Rattle.cx_net.specs.NetPaths.{LeadsTo}

leads_down : (net : PlainNet) → IsFit net → (path : Path) (k h : ℕ) → k < length net.components → LeadsTo net k path h → h ≤ k
leads_down net fits [] k h within same = omega (arith, same)
leads_down net fits (c ∷ path) k h within (cell, child, there, is, rest) =
    let below : child < k = subst (IsFitKind k) is ((fits.components k within).cells c cell there) in
    let inside : child < length net.components = omega (arith, below, within) in
    let on : h ≤ child = leads_down net fits path child h inside rest in
    omega (arith, below, on)

pub no_way_back : (net : PlainNet) (k c : ℕ) (path : Path) → IsNet net → k < length net.components → LeadsTo net k (c ∷ path) k → ⊥
no_way_back net k c path own within (cell, child, there, is, rest) =
    let below : child < k = subst (IsFitKind k) is ((own.fits.components k within).cells c cell there) in
    let inside : child < length net.components = omega (arith, below, within) in
    let on : k ≤ child = leads_down net own.fits path child k inside rest in
    omega (arith, below, on)
