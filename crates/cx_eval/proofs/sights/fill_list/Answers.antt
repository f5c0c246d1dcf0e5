use Rattle.std.proofs.Common.{◌∙◌}
use Rattle.cx_eval.proofs.sights.fill_list.Goals as goal

pub fill-requires : goal.fill-requires
fill-requires c = record { can = c.requires.can; ready = c.requires.ready.ready }

pub returns-in-Some : goal.returns-in-Some
returns-in-Some c = record { ready = record { count = c.fill.ensures.count ∙ c.requires.ready.count; ready = c.fill.ensures.ready } }
