use Rattle.std.proofs.Common.{rules, ◌≡◌, length, sym, subst, ◌∙◌}
use Rattle.std.proofs.lemmas.List.{length-map}
use Rattle.cx_design.specs.PlainDesigns.{plain_design}
use Rattle.cx_design.specs.PlainForms.{plain_component}
use Rattle.cx_comb.proofs.BreakLemmas.{FirstSo, none_so, next_so, all_so}
use Rattle.cx_comb.proofs.checking.first_break.Goals as goal

pub loop-number-init : goal.loop-number-init
loop-number-init c = let d = plain_design c.args.design.now in subst (FirstSo d 0) (sym c.new-first.ensures.value) (none_so d)

pub loop-number-preserved : goal.loop-number-preserved
loop-number-preserved c = next_so (plain_design c.args.design.now) c.loop-number.number c.loop-number.first c.add_component.new.first c.loop-number.invariant c.in_ok-add_component.ensures.value

pub returns : goal.returns
returns c =
    let d = plain_design c.args.design.now in
    let items = c.args.design.now.components.items in
    let end : c.loop-number.number ≡ length items = search rules in
    record { value = all_so d c.loop-number.first (subst (λ k. FirstSo d k c.loop-number.first) (end ∙ sym (length-map items plain_component)) c.loop-number.invariant) }
