use Rattle.cx_rules.specs.Footprints.{driven}
use Rattle.cx_rules.proofs.laws.drives_within_reads.Goals as goal

pub returns : goal.returns
returns c = λ part s k h. driven h
