use Rattle.cx_driver.proofs.CauseLemmas.{received}
use Rattle.cx_driver.proofs.running.tell.Goals as goal

pub returns : goal.returns
returns g c = received c.write_all.result c.write_all.ensures.ok c.write_all.ensures.failed c.write_all.ensures.part
