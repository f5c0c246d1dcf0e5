use Rattle.std.proofs.Common.{◌≡◌, ◌+◌, drop, slice_get, refl, sym, ap, ◌∙◌, subst, arith}
use Rattle.cx_meaning.specs.declared.ports.PortRef.TheVariants.{Cell}
use Rattle.cx_eval_network.specs.Askings.{asked_of}
use Rattle.cx_eval_network.specs.Evaluated.{Gives, by_mark}
use Rattle.cx_eval_network.specs.Lists.{IsFoundBy}
use Rattle.cx_eval_network.specs.Networks.{value_at}
use Rattle.cx_eval_network.specs.Nodes.{first_node}
use Rattle.cx_eval_network.specs.declared.planned.PlannedPort.TheVariants.{Numbered, Fixed}
use Rattle.cx_eval_network.specs.declared.planned.PortPlan.TheVariants.{Output}
use Rattle.cx_eval_network.proofs.LookLemmas.{own_seen}
use Rattle.cx_eval_network.proofs.ListLemmas.{Filled, followed_filled, known_filled, node_fits, output_found, source_known, state_found, state_known, state_reads}
use Rattle.cx_eval_network.proofs.filling.fill_port.Goals as goal

pub overflow_add-node : goal.overflow_add-node
overflow_add-node c = let fits = node_fits c.args.asking.now c.requires.can.can c.args.port.now c.requires.port in let first = c.requires.place.first in omega (arith, fits, first)

pub returns-in-Port : goal.returns-in-Port
returns-in-Port c =
    let asking = c.args.asking.now in
    let a = asked_of asking in
    let value = value_at a asking.nodes.now in
    let l = c.requires.port in
    let marks = c.args.marks.now in
    let first = c.args.place.first in
    let is = c.requires.place.first in
    let number = c.in-Port.number in
    let known = source_known asking c.requires.can.can c.args.port.now l marks c.requires.ready.right (Numbered number) (subst (IsFoundBy asking.active.now l.port l.plan) c.in-Port.is l.found_by) in
    let gives : Gives (value (first + c.args.port.now.number)) (by_mark number (slice_get (drop first marks) number)) =
    subst (λ n. Gives (value (n + c.args.port.now.number)) (by_mark number (slice_get (drop n marks) number))) (sym is) known in
    let f = subst (Filled value marks) (sym c.follow.ensures.marks) (followed_filled value marks (first + c.args.port.now.number) number (slice_get (drop first marks) number) c.requires.ready gives) in
    record { ready = f.ready; kept = f.kept; count = f.count }

pub returns-in-Fixed : goal.returns-in-Fixed
returns-in-Fixed c =
    let asking = c.args.asking.now in
    let value = value_at (asked_of asking) asking.nodes.now in
    let l = c.requires.port in
    let marks = c.args.marks.now in
    let known = source_known asking c.requires.can.can c.args.port.now l marks c.requires.ready.right (Fixed c.in-Fixed.seen) (subst (IsFoundBy asking.active.now l.port l.plan) c.in-Fixed.is l.found_by) in
    let is : c.in-Fixed.seen ≡ value (c.args.place.first + c.args.port.now.number) = subst (λ n. c.in-Fixed.seen ≡ value (n + c.args.port.now.number)) (sym c.requires.place.first) known in
    let f = subst (Filled value marks) (sym c.know.ensures.marks) (known_filled value marks (c.args.place.first + c.args.port.now.number) c.in-Fixed.seen c.requires.ready is) in
    record { ready = f.ready; kept = f.kept; count = f.count }

pub state_seen-seen-requires : goal.state_seen-seen-requires
state_seen-seen-requires c =
    let asking = c.args.asking.now in
    let l = c.requires.port in
    let is : (l.port ≡ Cell c.in-State.cell c.in-State.port) × (l.plan ≡ Output 0) = subst (IsFoundBy asking.active.now l.port l.plan) c.in-State.is l.found_by in
    record {
      can = c.requires.can;
      found = state_found asking c.requires.can.can c.args.port.now l c.in-State.cell c.in-State.port is.0;
      component = c.requires.place.component;
      reads = state_reads asking c.requires.can.can c.args.port.now l c.in-State.cell c.in-State.port is.0 0 is.1;
    }

pub returns-in-State : goal.returns-in-State
returns-in-State c =
    let asking = c.args.asking.now in
    let value = value_at (asked_of asking) asking.nodes.now in
    let l = c.requires.port in
    let marks = c.args.marks.now in
    let node = c.args.place.first + c.args.port.now.number in
    let is : (l.port ≡ Cell c.in-State.cell c.in-State.port) × (l.plan ≡ Output 0) = subst (IsFoundBy asking.active.now l.port l.plan) c.in-State.is l.found_by in
    let seen =
    c.state_seen-seen.ensures.value ∙ state_known asking c.requires.can.can c.args.port.now l c.in-State.cell c.in-State.port is.0
    ∙ ap (λ n. value (n + c.args.port.now.number)) (sym c.requires.place.first) in
    let f = subst (Filled value marks) (sym c.know-in-State.ensures.marks) (known_filled value marks node c.state_seen-seen.result c.requires.ready seen) in
    record { ready = f.ready; kept = f.kept; count = f.count }

pub cell_output-requires : goal.cell_output-requires
cell_output-requires c =
    let asking = c.args.asking.now in
    let can = c.requires.can.can in
    let a = asked_of asking in
    let l = c.requires.port in
    let cell = c.in-Inputs.cell in
    let output = c.in-Inputs.output in
    let is : (l.port ≡ Cell cell output) × (l.plan ≡ Output c.in-Inputs.reads) = subst (IsFoundBy asking.active.now l.port l.plan) c.in-Inputs.is l.found_by in
    let found = output_found asking can c.args.port.now l cell output is.0 in
    let own = c.own_from-own.result in
    let behind : own ≡ drop (first_node a.design a.rows a.instance) c.args.marks.now = c.own_from-own.ensures.value ∙ ap (λ n. drop n c.args.marks.now) c.requires.place.first in
    record {
      can = c.requires.can;
      found = record { from = found.from; within = found.within; component = c.requires.place.component; number = found.number };
      seen = own_seen a asking.nodes.now can.network a.instance found.from found.within c.args.marks.now c.requires.ready.right own behind;
      port = refl;
      reads = state_reads asking can c.args.port.now l cell output is.0 c.in-Inputs.reads is.1;
    }

pub returns-in-Worth : goal.returns-in-Worth
returns-in-Worth c =
    let asking = c.args.asking.now in
    let value = value_at (asked_of asking) asking.nodes.now in
    let l = c.requires.port in
    let marks = c.args.marks.now in
    let node = c.args.place.first + c.args.port.now.number in
    let is : (l.port ≡ Cell c.in-Inputs.cell c.in-Inputs.output) × (l.plan ≡ Output c.in-Inputs.reads) = subst (IsFoundBy asking.active.now l.port l.plan) c.in-Inputs.is l.found_by in
    let seen =
    c.in-Worth.ensures.found ∙ state_known asking c.requires.can.can c.args.port.now l c.in-Inputs.cell c.in-Inputs.output is.0
    ∙ ap (λ n. value (n + c.args.port.now.number)) (sym c.requires.place.first) in
    let f = subst (Filled value marks) (sym c.know-in-Worth.ensures.marks) (known_filled value marks node c.in-Worth.seen c.requires.ready seen) in
    record { ready = f.ready; kept = f.kept; count = f.count }
