use Rattle.std.proofs.Common.{◌<◌, ◌^◌, length, ◌∙◌, arith}
use Rattle.std.proofs.lemmas.List.{length-set}
use Rattle.cx_vsim.specs.WordNumbers.{numbers_of}
use Rattle.cx_vsim.proofs.Rewritten.{one_more, numbers_length, number_at, below_at, fits_more}
use Rattle.cx_vsim.proofs.words.read_words.Goals as goal

pub overflow_cast-words : goal.overflow_cast-words
overflow_cast-words c =
    let sized = c.loop-n.invariant.sized in
    let first = c.requires.long in
    let count = numbers_length c.args.array.now.words.items in
    let lt : c.loop-n.n < length c.args.array.now.words.items = omega (arith, sized, first, count) in
    let below : c.value.result < 2 ^ 64 = below_at c.args.array.now.words.items c.loop-n.n c.value.result c.index.result.now lt c.value.ensures.value c.index.ensures c.value.ensures.fits c.requires.narrow in
    omega (arith, below)

pub loop-n-preserved : goal.loop-n-preserved
loop-n-preserved c =
    let sized = c.loop-n.invariant.sized in
    let first = c.requires.long in
    let lt : c.loop-n.n < length c.loop-n.words = omega (arith, sized, first) in
    let count = numbers_length c.args.array.now.words.items in
    let inside : c.loop-n.n < length c.args.array.now.words.items = omega (arith, sized, first, count, lt) in
    record {
      sized = length-set c.loop-n.words c.loop-n.n c.value.result ∙ sized;
      fits = fits_more c.args.array.now.words.items c.loop-n.n c.index.result.now inside c.index.ensures c.value.ensures.fits c.loop-n.invariant.fits;
      far = one_more 0 c.loop-n.words (numbers_of c.args.array.now.words.items) c.loop-n.n c.value.result lt sized c.loop-n.invariant.far
          (number_at c.args.array.now.words.items c.loop-n.n c.value.result c.index.result.now inside c.value.ensures.value c.index.ensures);
    }
