use Rattle.std.proofs.Common.{◌≡◌, map}
use Rattle.std.specs.Str.Parse.{digits_value}
use Rattle.cx_commands.proofs.lists.numbers.Given as goal

abbrev pub invariant-loop-part : goal.invariant-loop-part
invariant-loop-part l = l.listed.items ≡ map (λ part. digits_value 10 part.now) l.yielded
