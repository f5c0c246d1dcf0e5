-- Samples that a run of an island can have.
use Rattle.std.specs.Prelude.{ℕ}
use Rattle.cx_meaning.specs.Designs.{PlainComponent, PlainForm}
use Rattle.cx_meaning.specs.Islands.{History}
use Rattle.cx_laws.specs.Samples.{Samples, AreKept}

-- in cycle t each static if that runs has for its sample what its port was when it began, whatever the ports were
abbrev pub AreSampled : PlainComponent → ℕ → PlainForm → Samples → Type 0
AreSampled part t form kept = (h : History) × AreKept part h t form kept
