use Rattle.std.proofs.Common.{rules, ◌≡◌, ℕ, ◌+◌, ◌<◌, ◌^◌, suc, List, [], ◌∷◌, ◌++◌, get_or, length, sym, ap, ◌∙◌, subst, arith}
use Rattle.cx_meaning.specs.declared.ports.PortRef.TheVariants as ports
use Rattle.cx_meaning.specs.Designs.{PlainDesign}
use Rattle.cx_meaning.specs.Instances.{Path, paths_of, tree_of}
use Rattle.cx_state.specs.ReadStates.{state_in}
use Rattle.cx_design.specs.declared.designs.Design.{Design}
use Rattle.cx_design.specs.declared.actives.Active.TheVariants as actives
use Rattle.cx_design.specs.PlainDesigns.{plain_design}
use Rattle.cx_eval.specs.Evaluated.{CanAct, IsPort, IsSeen}
use Rattle.cx_state.specs.Tables.{IsNumber}
use Rattle.cx_state.specs.States.{PlainInstance, plain_state, with_held, IsStateOf}
use Rattle.cx_turns.specs.Children.{HoldsInput}
use Rattle.cx_turns.specs.Machines.{design_of, rows_of}
use Rattle.cx_turns.proofs.HoldLemmas.{few_inputs, input_there, own_path, child_there, input_inside, held_fits, seen_wide, input_held}
use Rattle.cx_turns.proofs.children.hold_input.Goals as goal

pub overflow_cast-port : goal.overflow_cast-port
overflow_cast-port c =
    let d : PlainDesign = design_of c.args.plan.now in
    let own : Path = get_or (paths_of (tree_of d)) c.args.instance [] in
    let at : IsNumber d c.args.instance own = own_path d c.args.instance c.requires.instance in
    let few : c.args.input + 1 < 2 ^ 32 =
    few_inputs d c.requires.plan.design c.args.plan.now.table.rows.items c.args.plan.now.table.children.items c.requires.plan.table c.args.child c.args.input (own ++ c.args.cell ∷ []) (c.requires.child own at) c.requires.input in
    first_of (omega (arith, few), search (rules, few))

pub overflow_add-port : goal.overflow_add-port
overflow_add-port c =
    let d : PlainDesign = design_of c.args.plan.now in
    let own : Path = get_or (paths_of (tree_of d)) c.args.instance [] in
    let at : IsNumber d c.args.instance own = own_path d c.args.instance c.requires.instance in
    let few : c.args.input + 1 < 2 ^ 32 =
    few_inputs d c.requires.plan.design c.args.plan.now.table.rows.items c.args.plan.now.table.children.items c.requires.plan.table c.args.child c.args.input (own ++ c.args.cell ∷ []) (c.requires.child own at) c.requires.input in
    first_of (omega (arith, few), search (rules, few))

pub seen-seen-requires-clause-port : goal.seen-seen-requires-clause-port
seen-seen-requires-clause-port c =
    let d : PlainDesign = design_of c.args.plan.now in
    subst (λ (e : Design). IsPort (plain_design e) c.args.instance (ports.Cell c.args.cell (c.args.input + 1))) (sym c.requires.machine.evaluator)
    (subst (λ k. IsPort d c.args.instance (ports.Cell c.args.cell k)) (let e : suc c.args.input ≡ c.args.input + 1 = omega arith in e)
    (input_there d c.args.instance c.args.cell c.args.child c.args.input c.requires.part c.requires.child c.requires.input c.requires.plan.design c.args.plan.now.table.rows.items c.args.plan.now.table.children.items c.requires.plan.table))

pub hold-requires-clause-instance : goal.hold-requires-clause-instance
hold-requires-clause-instance c =
    let d : PlainDesign = design_of c.args.plan.now in
    let rows : List PlainInstance = rows_of c.args.machine.now in
    let own : Path = get_or (paths_of (tree_of d)) c.args.instance [] in
    let at : IsNumber d c.args.instance own = own_path d c.args.instance c.requires.instance in
    child_there d c.args.instance c.args.cell c.args.child own at c.requires.child rows c.requires.machine.state

pub hold-requires-clause-input : goal.hold-requires-clause-input
hold-requires-clause-input c =
    let d : PlainDesign = design_of c.args.plan.now in
    let rows : List PlainInstance = rows_of c.args.machine.now in
    let own : Path = get_or (paths_of (tree_of d)) c.args.instance [] in
    let at : IsNumber d c.args.instance own = own_path d c.args.instance c.requires.instance in
    input_inside d c.args.instance c.args.cell c.args.child c.args.input own at c.requires.child c.requires.input rows c.requires.machine.state

pub returns-clause-held : goal.returns-clause-held
returns-clause-held c =
    let d : PlainDesign = design_of c.args.plan.now in
    let rows : List PlainInstance = rows_of c.args.machine.now in
    let own : Path = get_or (paths_of (tree_of d)) c.args.instance [] in
    let at : IsNumber d c.args.instance own = own_path d c.args.instance c.requires.instance in
    let sees : IsSeen d rows c.args.instance (actives.Group c.args.group) (ports.Cell c.args.cell (suc c.args.input)) c.seen-seen.result =
    subst (λ k. IsSeen d rows c.args.instance (actives.Group c.args.group) (ports.Cell c.args.cell k) c.seen-seen.result) (let e : c.args.input + 1 ≡ suc c.args.input = omega arith in e)
    (subst (λ (e : Design). IsSeen (plain_design e) rows c.args.instance (actives.Group c.args.group) (ports.Cell c.args.cell (c.args.input + 1)) c.seen-seen.result) c.requires.machine.evaluator c.seen-seen.ensures.value) in
    subst (λ new. HoldsInput d rows new c.args.instance c.args.group c.args.cell c.args.child c.args.input) (sym c.hold.ensures.value)
    (input_held d rows c.args.instance c.args.group c.args.cell c.args.child c.args.input c.seen-seen.result own at c.requires.child c.requires.input c.requires.machine.state sees)

pub returns-clause-machine : goal.returns-clause-machine
returns-clause-machine c =
    let d : PlainDesign = design_of c.args.plan.now in
    let rows : List PlainInstance = rows_of c.args.machine.now in
    let own : Path = get_or (paths_of (tree_of d)) c.args.instance [] in
    let at : IsNumber d c.args.instance own = own_path d c.args.instance c.requires.instance in
    let sees : IsSeen d rows c.args.instance (actives.Group c.args.group) (ports.Cell c.args.cell (suc c.args.input)) c.seen-seen.result =
    subst (λ k. IsSeen d rows c.args.instance (actives.Group c.args.group) (ports.Cell c.args.cell k) c.seen-seen.result) (let e : c.args.input + 1 ≡ suc c.args.input = omega arith in e)
    (subst (λ (e : Design). IsSeen (plain_design e) rows c.args.instance (actives.Group c.args.group) (ports.Cell c.args.cell (c.args.input + 1)) c.seen-seen.result) c.requires.machine.evaluator c.seen-seen.ensures.value) in
    let state : IsStateOf d rows = c.requires.machine.state in
    record {
      evaluator = c.seen-seen.ensures.same ∙ c.requires.machine.evaluator;
      state =
          subst (IsStateOf d) (sym c.hold.ensures.value)
          (held_fits rows c.args.child c.args.input c.seen-seen.result d state (child_there d c.args.instance c.args.cell c.args.child own at c.requires.child rows state)
          (input_inside d c.args.instance c.args.cell c.args.child c.args.input own at c.requires.child c.requires.input rows state)
          (seen_wide d c.requires.plan.design c.args.plan.now.table.rows.items c.args.plan.now.table.children.items c.requires.plan.table rows (state_in (tree_of d) rows) c.args.instance c.args.group c.args.cell c.args.child c.args.input
          c.seen-seen.result c.requires.part c.requires.child c.requires.input (λ path number. c.accepted_group_is_acyclic.ensures d path c.args.group c.requires.plan.accepted (c.requires.group path number))
          (λ s n path act p b acyclic stands number there good is. c.state_seen_has_width.ensures d rows s n path act p b c.requires.plan.design c.requires.plan.accepted acyclic state stands number there good is)
          (c.rows_stand.ensures d c.args.plan.now.table.rows.items c.args.plan.now.table.children.items rows c.requires.plan.table state) c.requires.instance sees));
      room = c.requires.machine.room;
    }
