use Rattle.cx_emitted.proofs.SourceResets.{source_reset}
use Rattle.cx_emitted.proofs.power_laws.sources_are_reset.Goals as goal

pub returns : goal.returns
returns c = source_reset
