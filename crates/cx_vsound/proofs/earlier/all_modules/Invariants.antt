use Rattle.std.proofs.Common.{◌≡◌, ◌++◌, drop}
use Rattle.cx_vsound.proofs.earlier.all_modules.Given as goal

abbrev pub invariant-loop-m : goal.invariant-loop-m
invariant-loop-m l = l.all ++ drop l.m-index l.modules ≡ l.modules
