use Rattle.std.proofs.Common.{◌∙◌, ◌/◌}
use Rattle.std.proofs.lemmas.List.{get_or_default}
use Rattle.cx_share.proofs.BitLemmas.{bit_put}
use Rattle.cx_share.proofs.marks.put_bit.Goals as goal

pub returns-clause-value : goal.returns-clause-value
returns-clause-value c = λ n.
    let words = c.args.words.now.items in
    let k = c.args.bit / 64 in
    bit_put words c.args.bit c.index_mut.result.now c.requires.within (c.index_mut.ensures.value ∙ get_or_default words k c.index_mut.result.now 0 c.requires.within) n
