-- Facts of what `StaticControl` defines, that several crates above take.
use Rattle.std.proofs.Common.{◌≡◌, ◌+◌, List, [], ◌∷◌, ◌++◌, arith}
use Rattle.cx_meaning.specs.Designs.{PlainComponent}
use Rattle.cx_rules.specs.Items.{Visited}
use Rattle.cx_rules.specs.StaticControl.{occurrences_of}

pub occurrences_of-append : (part : PlainComponent) (vs ws : List Visited) → occurrences_of part (vs ++ ws) ≡ occurrences_of part vs + occurrences_of part ws
occurrences_of-append part [] ws = omega arith
occurrences_of-append part (v ∷ vs) ws = let h : occurrences_of part (vs ++ ws) ≡ occurrences_of part vs + occurrences_of part ws = occurrences_of-append part vs ws in omega arith
