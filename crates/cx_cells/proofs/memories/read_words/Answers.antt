use Rattle.std.proofs.Common.{◌<◌, length, ◌∙◌, arith}
use Rattle.std.proofs.lemmas.List.{length-set}
use Rattle.cx_prim.specs.CellStates.{words_of}
use Rattle.cx_prim.specs.Table.{row_of}
use Rattle.cx_cells.proofs.WordLemmas.{one_more, all_same}
use Rattle.cx_prim.proofs.CellStatesLemmas.{has_word}
use Rattle.cx_cells.proofs.memories.read_words.Goals as goal

pub word-requires-clause-within : goal.word-requires-clause-within
word-requires-clause-within c =
    let sized = c.loop-n.invariant.sized in
    let first = c.requires.sized in
    let lt : c.loop-n.n < length (words_of c.args.held.now) = omega (arith, sized, first) in
    has_word (row_of c.args.primitive.now).shape (words_of c.args.held.now) c.loop-n.n c.requires.memory lt

pub loop-n-preserved : goal.loop-n-preserved
loop-n-preserved c =
    let sized = c.loop-n.invariant.sized in
    let first = c.requires.sized in
    let lt : c.loop-n.n < length c.loop-n.words = omega (arith, sized, first) in
    record {
      sized = length-set c.loop-n.words c.loop-n.n c.word.result ∙ sized;
      far = one_more c.loop-n.words (words_of c.args.held.now) c.loop-n.n c.word.result lt sized c.loop-n.invariant.far c.word.ensures.value;
    }

pub returns : goal.returns
returns c =
    let sized = c.loop-n.invariant.sized in
    let first = c.requires.sized in
    record { value = all_same c.loop-n.words (words_of c.args.held.now) c.loop-n.n (omega (arith, sized, first)) sized c.loop-n.invariant.far }
