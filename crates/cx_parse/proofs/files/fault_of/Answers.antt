use Rattle.std.proofs.Common.{inr}
use Rattle.cx_parse.proofs.Trees.{told_unexpected, told_deep}
use Rattle.cx_parse.proofs.files.fault_of.Goals as goal

pub returns-in-Unexpected : goal.returns-in-Unexpected
returns-in-Unexpected c = inr (told_unexpected c.args.tokens.now c.args.stop c.in-Unexpected.left c.place_left.result c.in-Unexpected.is c.requires.stopped c.place_left.ensures.value)

pub returns-in-TooDeep : goal.returns-in-TooDeep
returns-in-TooDeep c = inr (told_deep c.args.tokens.now c.args.stop c.in-TooDeep.left c.place_left-in-TooDeep.result c.in-TooDeep.is c.requires.stopped c.place_left-in-TooDeep.ensures.value)
