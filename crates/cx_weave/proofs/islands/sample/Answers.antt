use Rattle.std.proofs.Common.{◌≡◌, sym, ap, ◌∙◌, subst}
use Rattle.cx_meaning.specs.Instances.{part_of, instance_at, tree_of}
use Rattle.cx_design.specs.PlainDesigns.{plain_design}
use Rattle.cx_design.specs.PlainForms.{plain_component, plain_form}
use Rattle.cx_meaning.specs.Sights.{Look}
use Rattle.cx_meaning.specs.Islands.{first_unclear}
use Rattle.cx_laws.specs.Samples.{says, begun_by, samples_after}
use Rattle.cx_interp_islands.specs.Rooms.{samples_of}
use Rattle.cx_turns.specs.Islands.{TellsUnclear}
use Rattle.cx_turns.specs.Machines.{design_of, rows_of}
use Rattle.cx_turns.specs.Sights.{MayAsk, look_in}
use Rattle.cx_turns.proofs.IslandLemmas.{there, stands_there}
use Rattle.cx_turns.proofs.SightLemmas.{look_seen}
use Rattle.cx_turns.proofs.StandLemmas.{tests_are_ports}
use Rattle.cx_weave.proofs.islands.sample.Goals as goal

pub take_samples-requires-clause-ports : goal.take_samples-requires-clause-ports
take_samples-requires-clause-ports c p asked =
    subst (λ e. MayAsk (plain_design e) (rows_of c.args.machine.now) c.args.instance p) (sym c.requires.machine.evaluator)
    (record {
      state = c.requires.machine.state;
      stands = c.rows_stand.ensures (design_of c.args.plan.now) c.args.plan.now.table.rows.items c.args.plan.now.table.children.items (rows_of c.args.machine.now) c.requires.plan.table c.requires.machine.state;
      instance = c.requires.instance;
      asked = tests_are_ports (design_of c.args.plan.now) c.requires.plan.accepted c.requires.plan.design c.args.plan.now.table.rows.items c.args.plan.now.table.children.items c.requires.plan.table c.args.instance p
          (λ path number.
          c.static_tests_are_conditions.ensures (part_of (instance_at (tree_of (design_of c.args.plan.now)) path)) (there (plain_form c.args.form.now) c.requires.form.0) p
          (stands_there (design_of c.args.plan.now) c.args.instance (plain_form c.args.form.now) c.requires.form path number) asked);
    })

pub returns-clause-taken : goal.returns-clause-taken
returns-clause-taken c =
    let d = design_of c.args.plan.now in
    let rows = rows_of c.args.machine.now in
    let part = plain_component c.args.part.now in
    let form = plain_form c.args.form.now in
    let look = look_in d rows c.args.instance in
    let next = c.take_samples.new.samples in
    let same : look_in (plain_design c.args.machine.now.sight.evaluator) rows c.args.instance ≡ look = ap (λ e. look_in (plain_design e) rows c.args.instance) c.requires.machine.evaluator in
    record {
      look = look;
      sees = look_seen d rows c.args.instance c.requires.instance c.requires.machine.state
          (c.rows_stand.ensures d c.args.plan.now.table.rows.items c.args.plan.now.table.children.items rows c.requires.plan.table c.requires.machine.state)
          (λ s t path held act p first second number. c.states_are_seen_alike.ensures d rows s t c.args.instance path held act p c.requires.machine.state first second number);
      taken = c.take_samples.ensures.value ∙ ap (λ (l : Look). samples_after part (says l) c.args.cycle form (samples_of c.args.samples.now)) same;
      unclear = subst (λ f. TellsUnclear c.args.instance c.fault_in.result f) (c.take_samples.ensures.fault ∙ ap (λ (l : Look). first_unclear l (begun_by part (samples_of next) c.args.cycle form)) same) c.fault_in.ensures;
    }
