use Rattle.std.specs.Prelude.{◌≡◌, ℕ, ◌-◌, codes}
use Rattle.std.proofs.Common.{ap, ◌∙◌}
use Rattle.cx_vmods.specs.BitCounts.{bits_for}
use Rattle.cx_vmods.specs.Clocked.{counting, starting, division, result, divider}
use Rattle.cx_vmods.specs.Parts.{Interior, nothing, with_pieces}
use Rattle.cx_vmods.specs.Shown.{parts_shown}
use Rattle.cx_vmods.proofs.divider.divider.Goals as goal

pub returns : goal.returns
unfolding divider
returns c =
    let counter : c.bits_for-count_width.result ≡ bits_for c.args.width = c.bits_for-count_width.ensures.value ∙ ap bits_for c.from.ensures in
    let counted : parts_shown c.count_to.new.self ≡ with_pieces nothing (counting (bits_for c.args.width) (c.args.width - 1)) =
    c.in_ok-count_to.ensures.value
    ∙ ap (λ (i : Interior). with_pieces i (counting c.bits_for-count_width.result (c.from-2.result - 1))) c.none-parts.ensures.value
    ∙ ap (λ (k : ℕ). with_pieces nothing (counting k (c.from-2.result - 1))) counter
    ∙ ap (λ (n : ℕ). with_pieces nothing (counting (bits_for c.args.width) (n - 1))) c.from-2.ensures in
    let started : parts_shown c.starts.new.self ≡ with_pieces (with_pieces nothing (counting (bits_for c.args.width) (c.args.width - 1))) (starting (bits_for c.args.width)) =
    c.in_ok-starts.ensures.value
    ∙ ap (λ (i : Interior). with_pieces i (starting c.bits_for-count_width.result)) counted
    ∙ ap (λ (k : ℕ). with_pieces (with_pieces nothing (counting (bits_for c.args.width) (c.args.width - 1))) (starting k)) counter in
    record {
      value = c.in_ok-result-2.ensures.value
          ∙ ap (λ (i : Interior). with_pieces i (result (codes "remainder") c.args.width (codes "rest_next") (codes "out_remainder")))
          (c.in_ok-result.ensures.value
          ∙ ap (λ (i : Interior). with_pieces i (result (codes "quotient") c.args.width (codes "digits_next") (codes "out_quotient")))
          (c.in_ok-division.ensures.value ∙ ap (λ (i : Interior). with_pieces i (division c.args.width)) started));
    }
