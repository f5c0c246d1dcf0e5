use Rattle.cx_design.specs.PlainDesigns.{plain_design}
use Rattle.cx_profile.proofs.ReachLemmas.{marked_reached}
use Rattle.cx_profile.proofs.gained.reached_components.Goals as goal

pub returns : goal.returns
returns c = record { value = marked_reached (plain_design c.args.design.now) c.args.design.now.keeps c.made_of.result c.made_of.ensures.value }
