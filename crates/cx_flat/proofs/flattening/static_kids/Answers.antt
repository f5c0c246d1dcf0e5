use Rattle.std.proofs.Common.{List, ℕ, length, subst}
use Rattle.std.proofs.lemmas.Result.{IfOk-weaker}
use Rattle.cx_design.specs.PlainDesigns.{plain_design}
use Rattle.cx_flat.specs.Flats.{AreKids, AreKidsTo}
use Rattle.cx_flat.specs.Lasts.{AreLasts}
use Rattle.cx_flat.specs.Tables.{plain_table}
use Rattle.cx_flat.proofs.MarkLemmas.{kids_are}
use Rattle.cx_flat.proofs.flattening.static_kids.Goals as goal

pub returns : goal.returns
returns c =
    let d = plain_design c.args.design.now in
    let order : List ℕ = c.in_ok-order.order.items in
    let lasts : List ℕ = c.in_ok-lasts.lasts.items in
    let last : AreLasts d order (length order) lasts = subst (λ o. AreLasts d o (length o) lasts) c.deref.ensures.value c.in_ok-lasts.ensures.value in
    record {
      value = IfOk-weaker c.kids_in_order.result _ (λ kids. AreKids d (plain_table kids.items))
          (λ kids are. kids_are d c.args.design.now.keeps order lasts kids.items c.in_ok-order.ensures last
          (subst (λ ls. AreKidsTo d order ls (length order) kids.items) c.deref-3.ensures.value
          (subst (λ o. AreKidsTo d o c.deref-3.result.now (length o) kids.items) c.deref-2.ensures.value are)))
          c.kids_in_order.ensures.value;
    }
