use Rattle.cx_meaning.specs.Instances.{part_of, tree_of, instance_at}
use Rattle.cx_meaning.specs.Cycles.{every_cell}
use Rattle.cx_control.proofs.DesignRules.{control_rules}
use Rattle.cx_control.proofs.DesignRuns.{islands_keep}
use Rattle.cx_control.proofs.laws.instances_keep_rules.Goals as goal

pub returns-clause-rules : goal.returns-clause-rules
returns-clause-rules c = λ d path design flat accepted.
    control_rules d design accepted path
    (λ v h t i. c.accepted_entries_are_acyclic.ensures d path v h t design accepted i)
    (λ part s. c.reads_are_closed.ensures part s)
    (λ held act s after k undriven settled goes. c.cycles_keep_the_rest.ensures.kept d path held act every_cell s after k accepted undriven settled goes)
    (λ child held act s after k at goes. c.cycles_keep_the_rest.ensures.children (instance_at (tree_of d) path) child held act every_cell s after k at goes)
    (λ held other s n same. c.own_inputs_suffice.ensures d path held other s n design accepted same)
    flat

pub returns-clause-islands : goal.returns-clause-islands
returns-clause-islands c = λ d path flat accepted.
    islands_keep (instance_at (tree_of d) path)
    (λ form h t kept are. c.samples_give_the_cycle.ensures.active (part_of (instance_at (tree_of d) path)) form h t kept are)
    (λ form h t kept are. c.samples_give_the_cycle.ensures.begun (part_of (instance_at (tree_of d) path)) form h t kept are)
    (λ form h t inside. c.timers_give_the_active_groups.ensures (part_of (instance_at (tree_of d) path)) form h t inside)
    (λ form h t none inside. c.timers_give_the_begun_ports.ensures (part_of (instance_at (tree_of d) path)) form h t none inside)
    (λ v i. c.accepted_has_no_empty_if.ensures d path v flat accepted i)
