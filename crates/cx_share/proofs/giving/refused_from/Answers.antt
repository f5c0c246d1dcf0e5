use Rattle.std.proofs.Common.{◌≡◌, ◌∙◌, ◌<◌, false, get_or, length, sym, ap, arith, ⊎_elim}
use Rattle.std.proofs.lemmas.Bool.{cases_lt}
use Rattle.std.proofs.lemmas.List.{length-map}
use Rattle.cx_share.specs.declared.giving.Kept.{Kept}
use Rattle.cx_share.specs.Givings.{near_of}
use Rattle.cx_share.proofs.RefusedLemmas.{near_got}
use Rattle.cx_share.proofs.giving.refused_from.Goals as goal
use Rattle.cx_text.proofs.BoolLaws.{and_both}

pub loop-number-init : goal.loop-number-init
loop-number-init c =
    let kept = c.args.kept.now in
    let lt : c.args.from < length kept = omega (arith, c.requires.within) in
    let is : c.in_ok-near.near ≡ near_of kept c.args.from = c.in_ok-near.ensures.value ∙ near_got kept c.args.from c.index-kept-from.result lt in
    record {
      wide = ap length is;
      within = λ k low less x e.
          let same : c.args.from ≡ k = omega (arith, low, less) in
          ap (λ n. get_or (near_of kept n) x false) (sym same) ∙ ap (λ m. get_or m x false) (sym is) ∙ e;
    }

pub keep-requires : goal.keep-requires
keep-requires c =
    let kept = c.args.kept.now in
    let lt : c.loop-number.number < length kept = omega (arith, c.requires.within, c.loop-number-test.true) in
    let long = length-map kept (λ (x : Kept). x.near) in
    record {
      count = ap length (near_got kept c.loop-number.number c.index-kept-number.result lt)
          ∙ c.requires.wide c.loop-number.number c.args.from (omega (arith, lt, long)) (omega (arith, c.requires.within, long)) ∙ sym c.loop-number.invariant.wide;
    }

pub loop-number-preserved : goal.loop-number-preserved
loop-number-preserved c =
    let kept = c.args.kept.now in
    let number = c.loop-number.number in
    let lt : number < length kept = omega (arith, c.requires.within, c.loop-number-test.true) in
    record {
      wide = c.keep.ensures.count ∙ c.loop-number.invariant.wide;
      within = λ k low less x e.
          let both = and_both (get_or c.loop-number.near x false) (get_or (get_or kept number c.index-kept-number.result).near x false) (sym (c.keep.ensures.value x) ∙ e) in
          ⊎_elim (λ h. c.loop-number.invariant.within k low h x both.0)
          (λ h.
          let same : number ≡ k = omega (arith, h, less) in
          ap (λ n. get_or (near_of kept n) x false) (sym same) ∙ ap (λ m. get_or m x false) (sym (near_got kept number c.index-kept-number.result lt)) ∙ both.1)
          (cases_lt k number);
    }
