use Rattle.std.proofs.Common.{◌≡◌, ◌<◌, sym, ap, ◌∙◌, subst}
use Rattle.std.proofs.lemmas.List.{length-map}
use Rattle.cx_meaning.specs.Calls.{called}
use Rattle.cx_meaning.specs.Sights as sights
use Rattle.cx_rules.specs.Ports.{component_of}
use Rattle.cx_design.specs.PlainActives.{plain_active}
use Rattle.cx_eval_network.specs.Askings.{asked_of}
use Rattle.cx_eval_network.specs.Networks.{instance_of}
use Rattle.cx_eval_network.proofs.ApartLemmas.{capture_done, done_is}
use Rattle.cx_eval_network.proofs.AskLemmas.{there}
use Rattle.cx_eval_network.proofs.LackLemmas.{component_within}
use Rattle.cx_eval_network.proofs.apart.is_done.Goals as goal

pub called-requires : goal.called-requires
called-requires c =
    let asking = c.args.asking.now in
    record {
      within =
          subst (λ count. c.args.found.component < count) (length-map asking.design.now.components.items _)
          (component_within asking c.requires.can.can c.args.found c.requires.found);
    }

pub returns-in-CallEnd : goal.returns-in-CallEnd
returns-in-CallEnd c =
    let asking = c.args.asking.now in
    let a = asked_of asking in
    let f = c.requires.found in
    let can = c.requires.can.can in
    let k = c.args.found.instance in
    let g = c.in-CallEnd.group in
    let own : component_of a.design c.args.found.component ≡ instance_of a k = ap (component_of a.design) f.component ∙ sym (there asking can c.args.found f) in
    record {
      value =
          c.is_called.ensures.value
          ∙ ap (λ o. sights.is_done_cell o c.args.cell)
          (c.called.ensures.value ∙ ap (λ i. called i g) own ∙ sym (capture_done g (called (instance_of a k) g))
          ∙ ap (λ x. (plain_active (instance_of a k) x).done_cell) (sym c.in-CallEnd.is)
          ∙ sym (done_is asking can c.args.found f c.active_of.result.now c.active_of.ensures.value));
    }
