-- What a statement reads is the least closed set.
use Rattle.std.proofs.Common.{ℕ}
use Rattle.cx_meaning.specs.Designs.{PlainComponent, PlainStatement}
use Rattle.cx_rules.specs.Footprints as footprints
use Rattle.cx_rules.specs.Footprints.{Reads}
use Rattle.cx_laws.specs.Closures.{IsClosed}

pub reads_closed : (part : PlainComponent) (s : PlainStatement) → IsClosed part s (Reads part s)
reads_closed part s = record {
  driven = λ c h. footprints.driven h;
  named = λ c p g a i j n. footprints.named p g a i j n;
  tested = λ c p test i e. footprints.tested p test i e;
  through = λ c p e q a r i t n. footprints.through c p q a r i t n;
}

pub reads_least : (part : PlainComponent) (s : PlainStatement) (set : ℕ → Type 0) → IsClosed part s set → {c : ℕ} → Reads part s c → set c
reads_least part s set closed {c} (footprints.driven h) = closed.driven c h
reads_least part s set closed {c} (footprints.named p g a i j n) = closed.named c p g a i j n
reads_least part s set closed {c} (footprints.tested p test i e) = closed.tested c p test i e
reads_least part s set closed {c} (footprints.through b p q a r i t n) = closed.through b p c q a (reads_least part s set closed r) i t n
