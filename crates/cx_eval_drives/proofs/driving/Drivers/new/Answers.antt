use Rattle.std.proofs.Common.{rules, ◌≡◌, ◌∷◌, [], length, sym, ap, ◌∙◌, subst}
use Rattle.std.proofs.lemmas.List.{length-map, map-append}
use Rattle.cx_design.specs.PlainForms.{plain_component}
use Rattle.cx_design.specs.PlainDesigns.{plain_design}
use Rattle.cx_eval_drives.specs.Drivers.{HaveDrivers, lists_of, parts_of}
use Rattle.cx_eval_drives.proofs.DriverLemmas.{part_added}
use Rattle.cx_eval_drives.proofs.driving.Drivers.new.Goals as goal

pub loop-number-preserved : goal.loop-number-preserved
loop-number-preserved c =
    part_added (plain_design c.args.design.now) c.loop-number.number (parts_of c.loop-number.parts.items) (parts_of c.push.new.self.items) (lists_of c.in_ok-part_drivers.field-0.items) c.loop-number.invariant
    (ap parts_of c.in_ok-push.ensures.items ∙ map-append _ c.loop-number.parts.items (c.in_ok-part_drivers.field-0 ∷ [])) c.in_ok-part_drivers.ensures.value

pub returns : goal.returns
returns c = record {
  value =
      let all : c.loop-number.number ≡ length c.args.design.now.components.items = search rules in
      subst (λ k. HaveDrivers (plain_design c.args.design.now) k (parts_of c.loop-number.parts.items)) (all ∙ sym (length-map c.args.design.now.components.items plain_component)) c.loop-number.invariant;
}
