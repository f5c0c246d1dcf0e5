use Rattle.std.proofs.Common.{◌<◌, length, ◌∙◌, arith}
use Rattle.std.proofs.lemmas.List.{length-set}
use Rattle.cx_vsim.specs.WordNumbers.{words_of_width}
use Rattle.cx_vsim.proofs.Rewritten.{one_more, widths_length, width_get}
use Rattle.cx_vsim.proofs.words.write_words.Goals as goal

pub loop-n-preserved : goal.loop-n-preserved
loop-n-preserved c =
    let sized = c.loop-n.invariant.sized in
    let first = c.requires.long in
    let count = widths_length c.width-width.result c.args.words.now in
    let inside : c.loop-n.n < length c.args.words.now = omega (arith, c.loop-n-test.true) in
    let lt : c.loop-n.n < length c.loop-n.array.words.items = omega (arith, sized, count, inside) in
    record {
      zero = c.loop-n.invariant.zero;
      sized = length-set c.loop-n.array.words.items c.loop-n.n c.bits_of.result ∙ sized;
      far = one_more (record { width = 0; value = 0 }) c.loop-n.array.words.items (words_of_width c.width-width.result c.args.words.now) c.loop-n.n c.bits_of.result lt sized c.loop-n.invariant.far
          (width_get c.width-width.result c.args.words.now c.loop-n.n c.bits_of.result inside c.bits_of.ensures);
    }
