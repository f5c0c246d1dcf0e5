use Rattle.cx_vmods.proofs.TableLaws.{each_is_built}
use Rattle.cx_vmods.proofs.laws.each_is_built.Goals as goal

pub returns : goal.returns
returns c = each_is_built
