use Rattle.std.proofs.Common.{◌≡◌, List, Option, length, sym, ap, ◌∙◌, subst, arith}
use Rattle.std.specs.Prelude.{OnOk}
use Rattle.std.specs.Vec.{with_items}
use Rattle.std.proofs.lemmas.List.{with_items_is}
use Rattle.cx_bits.specs.BitVector.{BitVector}
use Rattle.cx_prim.specs.Rows.{FitsPorts, IsLookedAt}
use Rattle.cx_prim.specs.Table.{row_of}
use Rattle.cx_eval_cycle.specs.Stops.{told}
use Rattle.cx_eval.proofs.looking.look_in.Goals as goal

pub look_at-requires-clause-fits : goal.look_at-requires-clause-fits
look_at-requires-clause-fits c = subst (FitsPorts (row_of c.args.stepping.now.primitive.now).ports) (sym c.deref_mut.ensures.value) c.requires.room

pub returns : goal.returns
returns c =
    let row = row_of c.args.stepping.now.primitive.now in
    let state = c.args.state.now in
    let room = c.args.room.now in
    let result = c.look_at.result in
    let inputs = c.look_at.new.inputs in
    let long : length inputs ≡ room.inputs.len = omega (arith, c.look_at.auto.inputs, c.deref_mut.ensures.len) in
    let filled : (with_items room.inputs inputs).items ≡ inputs = with_items_is room.inputs inputs long in
    record {
      value = λ cell stand. ap (told row state result) filled ∙ c.look_at.ensures.value cell stand;
      looked_at = subst (λ (xs : List (Option BitVector)). OnOk result (IsLookedAt row state xs)) (sym filled) c.look_at.ensures.looked_at;
      ready = c.look_at.ensures.ready;
      room = subst (FitsPorts row.ports) (sym filled) c.look_at.ensures.fits;
    }
