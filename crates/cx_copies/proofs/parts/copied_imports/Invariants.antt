use Rattle.std.proofs.Common.{◌≡◌, ◌++◌, drop}
use Rattle.cx_copies.proofs.parts.copied_imports.Given as goal

-- the copies so far, and what is left, are all
abbrev pub invariant-loop-import : goal.invariant-loop-import
invariant-loop-import l = l.copies.items ++ drop l.import-index l.imports ≡ l.imports
