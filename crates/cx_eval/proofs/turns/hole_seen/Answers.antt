use Rattle.std.proofs.Common.{ap, ◌∙◌}
use Rattle.cx_meaning.specs.declared.ports.PortRef.TheVariants.{Done}
use Rattle.cx_state.specs.States.{plain_state}
use Rattle.cx_eval_network.specs.Networks.{Asked, seen_at}
use Rattle.cx_eval_network.specs.Nodes.{part_at}
use Rattle.cx_eval.specs.Tables.{design_of}
use Rattle.cx_eval.proofs.SightLemmas.{is_seen}
use Rattle.cx_eval.proofs.UsingLemmas.{component_is, hole_shown}
use Rattle.cx_eval.proofs.turns.hole_seen.Goals as goal

pub source_seen-requires : goal.source_seen-requires
source_seen-requires c =
    let t = c.args.tables.now in
    let n = c.args.instance in
    let group = c.args.group in
    let state = plain_state c.args.state.now in
    let active = c.args.active.now in
    let asking = c.ask-asking.result in
    let asked = c.ask-asking.ensures.asked in
    let source = c.in-Some.source in
    let seen = c.in-Some.ensures.value (part_at (design_of t) t.table.rows.items n) group c.requires.known in
    record {
      can = c.ask-asking.ensures.can;
      component = component_is t n state active asking asked c.requires.tables c.requires.instance c.index.result.now c.index.ensures;
      source = (hole_shown t n state active asking asked c.ask-asking.ensures.active c.ask-asking.ensures.can group c.requires.group source seen).can;
    }

pub returns-in-Some-clause-value : goal.returns-in-Some-clause-value
returns-in-Some-clause-value c =
    let t = c.args.tables.now in
    let n = c.args.instance in
    let group = c.args.group in
    let state = plain_state c.args.state.now in
    let active = c.args.active.now in
    let asking = c.ask-asking.result in
    let asked = c.ask-asking.ensures.asked in
    let source = c.in-Some.source in
    let seen = c.in-Some.ensures.value (part_at (design_of t) t.table.rows.items n) group c.requires.known in
    let shown = hole_shown t n state active asking asked c.ask-asking.ensures.active c.ask-asking.ensures.can group c.requires.group source seen in
    is_seen (design_of t) t.table.rows.items t.table.children.items state n active c.requires.tables.table c.requires.state (Done group) c.source_seen.result
    (c.source_seen.ensures.value ∙ shown.value ∙ ap (λ (a : Asked). seen_at a a.instance (Done group)) asked)
