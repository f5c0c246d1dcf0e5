use Rattle.std.proofs.Common.{◌≡◌, ◌<◌, ◌^◌, All, get_or, map, length, ap, sym, ◌∙◌, subst, arith}
use Rattle.std.proofs.lemmas.Grind.{common_steps}
use Rattle.cx_text.specs.Loading.{plain_memory, plain_loaded}
use Rattle.cx_vnets.specs.Stores.{plain_words}
use Rattle.cx_vsim.specs.Arrays.{rewritten}
use Rattle.cx_vsim.proofs.Written.{memory_there, taken_within, taken_long, taken_below, taken_more, taken_can}
use Rattle.cx_vsim.proofs.loading.load_words.Goals as goal

pub bounds-arrays-numbers : goal.bounds-arrays-numbers
bounds-arrays-numbers c =
    let lt : c.loop-i.i < length c.args.numbers.now = omega (arith, c.loop-i-test.true) in
    taken_within c.args.numbers.now c.loop-i.arrays (plain_loaded c.args.loaded.now) c.loop-i.i (plain_memory c.index-memory.result.now) c.loop-i.invariant.can lt
    (memory_there c.args.loaded.now.memories.items c.loop-i.i (length c.args.numbers.now) c.index-memory.result.now c.loop-i.invariant.can.count lt c.index-memory.ensures)

pub offset_bounds-arrays-numbers : goal.offset_bounds-arrays-numbers
offset_bounds-arrays-numbers c =
    let lt : c.loop-i.i < length c.args.numbers.now = omega (arith, c.loop-i-test.true) in
    let within = taken_within c.args.numbers.now c.loop-i.arrays (plain_loaded c.args.loaded.now) c.loop-i.i (plain_memory c.index-memory.result.now) c.loop-i.invariant.can lt
    (memory_there c.args.loaded.now.memories.items c.loop-i.i (length c.args.numbers.now) c.index-memory.result.now c.loop-i.invariant.can.count lt c.index-memory.ensures) in
    grind (arith, common_steps)

pub write_words-requires-clause-long : goal.write_words-requires-clause-long
write_words-requires-clause-long c =
    let lt : c.loop-i.i < length c.args.numbers.now = omega (arith, c.loop-i-test.true) in
    ap length c.deref.ensures.value
    ∙ taken_long c.args.numbers.now c.loop-i.arrays (plain_loaded c.args.loaded.now) c.loop-i.i (plain_memory c.index-memory.result.now) c.loop-i.invariant.can lt
    (memory_there c.args.loaded.now.memories.items c.loop-i.i (length c.args.numbers.now) c.index-memory.result.now c.loop-i.invariant.can.count lt c.index-memory.ensures)
    c.index-arrays-numbers.result

pub write_words-requires-clause-below : goal.write_words-requires-clause-below
write_words-requires-clause-below c =
    let lt : c.loop-i.i < length c.args.numbers.now = omega (arith, c.loop-i-test.true) in
    subst (All (λ k. k < 2 ^ (get_or c.loop-i.arrays (get_or c.args.numbers.now c.loop-i.i 0) c.index-arrays-numbers.result).zero.width)) (sym c.deref.ensures.value)
    (taken_below c.args.numbers.now c.loop-i.arrays (plain_loaded c.args.loaded.now) c.loop-i.i (plain_memory c.index-memory.result.now) c.loop-i.invariant.can lt
    (memory_there c.args.loaded.now.memories.items c.loop-i.i (length c.args.numbers.now) c.index-memory.result.now c.loop-i.invariant.can.count lt c.index-memory.ensures)
    c.index-arrays-numbers.result)

pub loop-i-preserved : goal.loop-i-preserved
loop-i-preserved c =
    let lt : c.loop-i.i < length c.args.numbers.now = omega (arith, c.loop-i-test.true) in
    let there = memory_there c.args.loaded.now.memories.items c.loop-i.i (length c.args.numbers.now) c.index-memory.result.now c.loop-i.invariant.can.count lt c.index-memory.ensures in
    let is : plain_words c.write_words.new.array ≡ rewritten (plain_words (get_or c.loop-i.arrays (get_or c.args.numbers.now c.loop-i.i 0) c.index-arrays-numbers.result)) (plain_memory c.index-memory.result.now).words
    = c.write_words.ensures.value ∙ ap (rewritten (plain_words (get_or c.loop-i.arrays (get_or c.args.numbers.now c.loop-i.i 0) c.index-arrays-numbers.result))) c.deref.ensures.value in
    record {
      far = taken_more c.args.numbers.now c.loop-i.arrays (plain_loaded c.args.loaded.now) c.loop-i.i (plain_memory c.index-memory.result.now) c.loop-i.invariant.can lt there
          c.index-arrays-numbers.result c.write_words.new.array is (map plain_words c.args.arrays.now) c.loop-i.invariant.far;
      can = taken_can c.args.numbers.now c.loop-i.arrays (plain_loaded c.args.loaded.now) c.loop-i.i (plain_memory c.index-memory.result.now) c.loop-i.invariant.can lt there
          c.index-arrays-numbers.result c.write_words.new.array is;
    }
