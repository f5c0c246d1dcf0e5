use Rattle.std.proofs.Common.{◌∙◌, map, ap, ap₂}
use Rattle.cx_net.specs.NetsAsData.{plain_net}
use Rattle.cx_net.specs.PlainNets.{net_of_parts}
use Rattle.cx_net.proofs.NetsLemmas.{net_in}
use Rattle.cx_holes.specs.Inlining.{inlined_component}
use Rattle.cx_holes.proofs.KeptLemmas.{made_does, made_net}
use Rattle.cx_holes.proofs.inlining.inline.Goals as goal

pub new-requires : goal.new-requires
new-requires c = record {
  net = made_net (plain_net c.args.net) (net_of_parts c.in_ok-components.components.items c.main-main.result) c.args.net.keeps
      (ap₂ net_in (c.in_ok-components.ensures.value ∙ ap (map inlined_component) c.into_components.ensures.value) c.main-main.ensures.value);
}

pub returns-clause-meaning : goal.returns-clause-meaning
returns-clause-meaning c = λ fits targets.
    made_does (plain_net c.args.net) (plain_net c.new.result) fits targets
    (c.new.ensures.value ∙ ap₂ net_in (c.in_ok-components.ensures.value ∙ ap (map inlined_component) c.into_components.ensures.value) c.main-main.ensures.value)
