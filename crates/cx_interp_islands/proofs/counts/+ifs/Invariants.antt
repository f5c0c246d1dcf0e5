use Rattle.std.proofs.Common.{◌≤◌, ◌-◌, ◌^◌, ◌≡◌, ◌+◌, drop}
use Rattle.cx_design.specs.PlainForms.{plain_statements}
use Rattle.cx_laws.specs.Samples as plain
use Rattle.cx_design_sizes.specs.Capped.{capped}
use Rattle.cx_interp_islands.proofs.counts.+ifs.Given as goal

abbrev pub invariant-ifs_in-loop-statement : goal.invariant-ifs_in-loop-statement
invariant-ifs_in-loop-statement l = (capped (l.count + plain.ifs_in (plain_statements (drop l.statement-index l.parts))) ≡ capped (plain.ifs_in (plain_statements l.parts))) × (l.count ≤ 2 ^ 64 - 1)
