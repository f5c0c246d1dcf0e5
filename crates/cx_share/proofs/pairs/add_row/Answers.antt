use Rattle.std.proofs.Common.{◌≡◌, ◌∙◌, ◌<◌, Bool, List, [], false, true, ap, sym, subst, get_or, length, arith}
use Rattle.std.proofs.lemmas.List.{get_or_default}
use Rattle.cx_share.specs.Marks.{Adds}
use Rattle.cx_share.specs.Tables.{row_at}
use Rattle.cx_share.proofs.TableLemmas.{joins_absent, joins_one, marked_inside}
use Rattle.cx_share.proofs.pairs.add_row.Goals as goal

pub join-requires : goal.join-requires
join-requires c =
    let rows = c.args.table.now.items in
    let one = c.args.one in
    let there = marked_inside c.args.ones.now one (sym c.has.ensures.value ∙ c.if-has.true) in
    let inside : one < length c.args.others.now = omega (arith, there, c.requires.ones) in
    let lt : one < length rows = omega (arith, inside, c.requires.table.height) in
    record { count = sym (ap length (c.index_mut.ensures.value ∙ get_or_default rows one c.index_mut.result.now [] lt) ∙ c.requires.table.width one inside) }

pub returns-then-has : goal.returns-then-has
returns-then-has c =
    let rows = c.args.table.now.items in
    let one = c.args.one in
    let has : get_or c.args.ones.now one false ≡ true = sym c.has.ensures.value ∙ c.if-has.true in
    let there = marked_inside c.args.ones.now one has in
    let lt : one < length rows = omega (arith, there, c.requires.ones, c.requires.table.height) in
    let row : c.index_mut.result.now ≡ row_at rows one = c.index_mut.ensures.value ∙ get_or_default rows one c.index_mut.result.now [] lt in
    record {
      value = joins_one rows one c.join.new.self c.args.ones.now c.args.others.now lt has
          (subst (λ (r : List Bool). Adds r c.join.new.self (λ y. get_or c.args.others.now y false)) row c.join.ensures.value);
    }

pub returns-else-has : goal.returns-else-has
returns-else-has c = record { value = joins_absent c.args.table.now.items c.args.one c.args.ones.now c.args.others.now (sym c.has.ensures.value ∙ c.if-has.false) }
