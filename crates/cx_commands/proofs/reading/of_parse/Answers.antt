use Rattle.std.proofs.Common.{[], refl}
use Rattle.cx_commands.proofs.UnreadLemmas.{no_file_unexpected, no_file_deep}
use Rattle.cx_commands.proofs.reading.of_parse.Goals as goal

pub returns-in-Unexpected : goal.returns-in-Unexpected
returns-in-Unexpected c = no_file_unexpected c.args.tokens.now c.args.stop c.in-Unexpected.left c.place_left-place.result c.word_left.result.now c.refused.result c.in-Unexpected.is c.requires.stopped c.place_left-place.ensures.value c.word_left.ensures c.refused.ensures

pub returns-in-TooDeep : goal.returns-in-TooDeep
returns-in-TooDeep c = no_file_deep c.args.tokens.now c.args.stop c.in-TooDeep.left c.place_left-place-in-TooDeep.result [] c.refused-in-TooDeep.result c.in-TooDeep.is c.requires.stopped c.place_left-place-in-TooDeep.ensures.value refl c.refused-in-TooDeep.ensures
