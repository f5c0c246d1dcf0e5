use Rattle.std.proofs.Common.{◌≤◌, get_or, arith}
use Rattle.std.specs.Prelude.{vec_len}
use Rattle.cx_meaning.specs.Instances.{tree_of}
use Rattle.cx_turns.specs.Machines.{design_of}
use Rattle.cx_weave.specs.declared.spares.Spares.{Spares}
use Rattle.cx_weave.specs.Ledger.{Lengths, pieces_spare, places_for}
use Rattle.cx_weave.specs.Takes.{control_need}
use Rattle.cx_weave.proofs.MadeSupplies.{each_piece, lengths_suffice, made_supplied}
use Rattle.cx_weave.proofs.making.make_spares.Goals as goal

pub returns : goal.returns
returns c =
    let d = design_of c.args.plan.now in
    let spares : Spares = record { boxes = c.in_ok-boxes.boxes; arms = c.in_ok-arms.arms; islands = c.in_ok-islands.islands; inputs = c.in_ok-inputs.inputs; marks = c.in_ok-marks.marks } in
    let l : Lengths = record { cells = c.most_cells-cells.result; samples = vec_len c.args.room.now.samples; inputs = c.most_inputs-seen.result } in
    let suffice =
    lengths_suffice d c.requires.plan.accepted c.requires.plan.design c.args.plan.now.table.rows.items c.args.plan.now.table.children.items c.requires.plan.table c.most_cells-cells.result c.most_inputs-seen.result c.args.room.now c.most_cells-cells.ensures
    c.most_inputs-seen.ensures c.requires.room in
    made_supplied d spares l suffice
    (each_piece (λ k. control_need k (tree_of d) ≤ pieces_spare k spares) (let a = c.in_ok-count.ensures in let b = c.in_ok-boxes.ensures in omega (arith, a, b)) (let a = c.in_ok-count-2.ensures in let b = c.in_ok-arms.ensures in omega (arith, a, b))
    (let a = c.in_ok-count-3.ensures in let b = c.in_ok-islands.ensures.count in omega (arith, a, b)) (let a = c.in_ok-count-4.ensures in let b = c.in_ok-inputs.ensures.count in omega (arith, a, b)))
    (each_piece (λ k. pieces_spare k spares ≤ places_for k spares) c.in_ok-boxes.boxes.ok.1 c.in_ok-arms.arms.ok.1 c.in_ok-islands.islands.ok.1 c.in_ok-inputs.inputs.ok.1) c.in_ok-islands.ensures.cells
    (λ k e less.
    let a = c.in_ok-islands.ensures.samples k e less in
    let ifs = c.len-ifs.ensures in
    let count = (get_or c.in_ok-islands.islands.items k e).samples.ok.0 in
    omega (arith, a, ifs, count)) c.in_ok-inputs.ensures.room c.in_ok-marks.ensures.count c.in_ok-marks.ensures.unset
