use Rattle.std.proofs.Common.{◌≡◌, drop}
use Rattle.cx_parse.specs.Whole.{last_place}
use Rattle.cx_parse.proofs.files.end_place.Given as goal

abbrev pub invariant-loop-token : goal.invariant-loop-token
invariant-loop-token l = last_place l.place (drop l.token-index l.tokens) ≡ last_place (record { line = 1; column = 1 }) l.tokens
