use Rattle.std.proofs.Common.{◌∙◌, ◌/◌, ◌<◌, sym, ap, get_or, false, length, arith}
use Rattle.std.proofs.lemmas.List.{get_or_default}
use Rattle.cx_share.proofs.BitLemmas.{bit_tested, mark_past}
use Rattle.cx_share.proofs.marks.Marks.has.Goals as goal

pub returns-then-cell-self : goal.returns-then-cell-self
returns-then-cell-self c = record { value = sym (mark_past c.self.inside.count c.self.inside.words.items c.args.cell c.if-cell-self.true) ∙ ap (λ m. get_or m c.args.cell false) c.self.view_is }

pub returns : goal.returns
returns c =
    let words = c.self.inside.words.items in
    let k = c.args.cell / 64 in
    let lt : k < length words = omega (arith, c.self.invariant, c.if-cell-self.false) in
    record {
      value = bit_tested c.self.inside.count words c.args.cell c.index.result.now c.if-cell-self.false (c.index.ensures ∙ get_or_default words k c.index.result.now 0 lt)
          ∙ ap (λ m. get_or m c.args.cell false) c.self.view_is;
    }
