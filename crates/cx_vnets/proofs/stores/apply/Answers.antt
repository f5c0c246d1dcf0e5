use Rattle.std.proofs.Common.{get_or, map, ap, sym, ◌∙◌}
use Rattle.cx_vnets.specs.Stores.{plain_words, write_word}
use Rattle.cx_vnets.proofs.StoreSteps.{put-value, put-even, put-widths}
use Rattle.cx_vnets.proofs.stores.apply.Goals as goal

pub returns-in-Some-clause-value : goal.returns-in-Some-clause-value
returns-in-Some-clause-value c =
    put-value c.args.arrays.now c.args.store.array (get_or c.args.arrays.now c.args.store.array c.index-arrays-store.result) c.put.new.array c.in-Some.write c.requires.even (c.requires.fits c.in-Some.write c.in-Some.is) (ap (get_or c.args.arrays.now c.args.store.array) c.index-arrays-store.is) c.put.ensures
    ∙ ap (λ o. write_word c.args.store.array o (map plain_words c.args.arrays.now)) (sym c.in-Some.is)

pub returns-in-Some-clause-even : goal.returns-in-Some-clause-even
returns-in-Some-clause-even c =
    put-even c.args.arrays.now c.args.store.array (get_or c.args.arrays.now c.args.store.array c.index-arrays-store.result) c.put.new.array c.in-Some.write c.requires.even (c.requires.fits c.in-Some.write c.in-Some.is) (ap (get_or c.args.arrays.now c.args.store.array) c.index-arrays-store.is) c.put.ensures

pub returns-in-Some-clause-widths : goal.returns-in-Some-clause-widths
returns-in-Some-clause-widths c =
    put-widths c.args.arrays.now c.args.store.array (get_or c.args.arrays.now c.args.store.array c.index-arrays-store.result) c.put.new.array c.in-Some.write c.requires.even (c.requires.fits c.in-Some.write c.in-Some.is) (ap (get_or c.args.arrays.now c.args.store.array) c.index-arrays-store.is) c.put.ensures
