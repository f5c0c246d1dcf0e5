use Rattle.std.proofs.Common.{get_or, map, ap, ◌∙◌}
use Rattle.cx_vnets.specs.Stores.{plain_words, write_word}
use Rattle.cx_vnets.proofs.StoreSteps.{no_store, write-step}
use Rattle.cx_vnets.proofs.stores.store_words.Goals as goal

pub loop-number-preserved : goal.loop-number-preserved
loop-number-preserved c = record {
  value = write-step c.args.stores.now c.args.writes.now c.loop-number.number no_store c.index-writes-number.result (map plain_words c.loop-number.arrays) (map plain_words c.apply.new.arrays) _
      c.loop-number-test.true c.requires.long (c.apply.ensures.value ∙ ap (λ o. write_word (get_or c.args.stores.now c.loop-number.number no_store).array o (map plain_words c.loop-number.arrays)) c.index-writes-number.is) c.loop-number.invariant.value;
  even = c.apply.ensures.even;
  widths = λ a. c.apply.ensures.widths a ∙ c.loop-number.invariant.widths a;
}
