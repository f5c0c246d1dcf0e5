use Rattle.std.proofs.Common.{◌≡◌, ◌<◌, ℕ, List, ◌++◌, length, map, take, drop, ap, sym, ◌∙◌, subst, arith}
use Rattle.std.proofs.lemmas.Grind.{common_steps}
use Rattle.std.proofs.lemmas.List.{length-map, map-set}
use Rattle.std.specs.Vec.{with_items}
use Rattle.cx_bits.specs.BitVector.{BitVector}
use Rattle.cx_text.specs.declared.loading.LoadedMemory.{LoadedMemory}
use Rattle.cx_text.specs.Loading.{plain_memory, plain_loaded}
use Rattle.cx_vnets.specs.Stores.{plain_words}
use Rattle.cx_vsim.specs.Arrays.{CanGive}
use Rattle.cx_vsim.proofs.Written.{memory_there}
use Rattle.cx_vsim.proofs.Unloaded.{with_no_words, given_within, read_long, read_narrow, read_far, read_can, read_fit}
use Rattle.cx_text.proofs.ListLaws.{written_back}
use Rattle.cx_vsim.proofs.unloading.unload_words.Goals as goal

pub loop-i-init : goal.loop-i-init
loop-i-init c = record { far = sym (with_no_words (plain_loaded c.args.into.now)); can = c.requires.can; fit = λ k a x at. absurd (cc) }

pub bounds-arrays-numbers : goal.bounds-arrays-numbers
bounds-arrays-numbers c =
    let lt : c.loop-i.i < length c.args.numbers.now = omega (arith, c.loop-i-test.true) in
    given_within c.args.numbers.now c.args.arrays.now (plain_loaded c.loop-i.into) c.loop-i.i c.loop-i.invariant.can lt

pub offset_bounds-arrays-numbers : goal.offset_bounds-arrays-numbers
offset_bounds-arrays-numbers c =
    let lt : c.loop-i.i < length c.args.numbers.now = omega (arith, c.loop-i-test.true) in
    let within = given_within c.args.numbers.now c.args.arrays.now (plain_loaded c.loop-i.into) c.loop-i.i c.loop-i.invariant.can lt in
    grind (arith, common_steps)

pub read_words-requires-clause-long : goal.read_words-requires-clause-long
read_words-requires-clause-long c =
    let lt : c.loop-i.i < length c.args.numbers.now = omega (arith, c.loop-i-test.true) in
    let can = c.loop-i.invariant.can in
    let m = c.index_mut.result.now in
    let there = memory_there c.loop-i.into.memories.items c.loop-i.i (length c.args.numbers.now) m can.count lt c.index_mut.ensures.value in
    ap length c.deref_mut.ensures.value
    ∙ read_long c.args.numbers.now c.args.arrays.now (plain_loaded c.loop-i.into) c.loop-i.i can lt (plain_memory m) there c.index-arrays-numbers.result c.index-arrays-numbers.is

pub read_words-requires-clause-narrow : goal.read_words-requires-clause-narrow
read_words-requires-clause-narrow c =
    let lt : c.loop-i.i < length c.args.numbers.now = omega (arith, c.loop-i-test.true) in
    let can = c.loop-i.invariant.can in
    let m = c.index_mut.result.now in
    let there = memory_there c.loop-i.into.memories.items c.loop-i.i (length c.args.numbers.now) m can.count lt c.index_mut.ensures.value in
    read_narrow c.args.numbers.now c.args.arrays.now (plain_loaded c.loop-i.into) c.loop-i.i can lt (plain_memory m) there c.index-arrays-numbers.result c.index-arrays-numbers.is

pub loop-i-preserved : goal.loop-i-preserved
loop-i-preserved c =
    let lt : c.loop-i.i < length c.args.numbers.now = omega (arith, c.loop-i-test.true) in
    let can = c.loop-i.invariant.can in
    let m = c.index_mut.result.now in
    let x = c.index-arrays-numbers.result in
    let new = c.read_words.new.words in
    let there = memory_there c.loop-i.into.memories.items c.loop-i.i (length c.args.numbers.now) m can.count lt c.index_mut.ensures.value in
    let long = read_long c.args.numbers.now c.args.arrays.now (plain_loaded c.loop-i.into) c.loop-i.i can lt (plain_memory m) there x c.index-arrays-numbers.is in
    let whole : m.words.len ≡ length new
    = m.words.ok.0 ∙ long ∙ sym (length-map x.words.items (λ (b : BitVector). b.value)) ∙ sym (ap length c.read_words.ensures.value) in
    let words : List ℕ = take m.words.len (new ++ drop (length new) m.words.items) in
    let same : words ≡ map (λ (b : BitVector). b.value) x.words.items = written_back new (drop (length new) m.words.items) m.words.len whole ∙ c.read_words.ensures.value in
    let after : LoadedMemory = record { row = m.row; signed = m.signed; words = with_items m.words new } in
    let set = map-set plain_memory c.loop-i.into.memories.items c.loop-i.i after in
    record {
      far = set ∙ read_far c.args.numbers.now c.args.arrays.now (plain_loaded c.loop-i.into) c.loop-i.i can lt (plain_memory m) there x c.index-arrays-numbers.is words same (plain_loaded c.args.into.now) c.loop-i.invariant.far;
      can = subst (CanGive c.args.numbers.now (map plain_words c.args.arrays.now)) (sym set)
          (read_can c.args.numbers.now c.args.arrays.now (plain_loaded c.loop-i.into) c.loop-i.i can lt (plain_memory m) there x c.index-arrays-numbers.is words same);
      fit = read_fit c.args.numbers.now c.args.arrays.now (plain_loaded c.loop-i.into) c.loop-i.i can lt (plain_memory m) there x c.index-arrays-numbers.is c.loop-i.invariant.fit c.read_words.ensures.fits;
    }
