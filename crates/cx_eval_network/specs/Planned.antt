-- Assignments over ports by their numbers in the component, as plain data.
use Rattle.std.specs.Prelude.{◌≡◌, ℕ, List, [], ◌∷◌, ◌++◌, Option, Some, None, map, option_to_list}
use Rattle.cx_meaning.specs.declared.ports.PortRef.{PortRef}
use Rattle.cx_meaning.specs.declared.ports.Comparison.{Comparison}
use Rattle.cx_meaning.specs.Active.{Owned}
use Rattle.cx_meaning.specs.Designs as plain
use Rattle.cx_meaning.specs.Designs.{PlainGuard, PlainGuards}
use Rattle.cx_meaning.specs.Instances.{Instance}
use Rattle.cx_rules.specs.Items.{operands_of}
use Rattle.cx_design_leads.specs.Nodes.{node_of}
use Rattle.cx_eval_network.specs.Literals.{literal_seen}
use Rattle.cx_eval_network.specs.declared.planned.PlannedPort.{PlannedPort}
use Rattle.cx_eval_network.specs.declared.planned.PlannedPort.TheVariants.{Numbered, Fixed}
use Rattle.cx_eval_network.specs.declared.planned.PlannedGuard.{PlannedGuard, PlannedGuard-F, fold-PlannedGuard}
use Rattle.cx_eval_network.specs.declared.planned.PlannedGuard.TheOpen as planned
use Rattle.cx_eval_network.specs.declared.planned.PlannedAssign.{PlannedAssign}

-- the numbers of ports that have one
abbrev pub numbers_of : Instance → List PortRef → List ℕ
numbers_of i [] = []
numbers_of i (q ∷ qs) = option_to_list (node_of i q) ++ numbers_of i qs

-- A PORT by its number; one that has none is fixed, as the literal that it is
abbrev pub by_number : PortRef → Option ℕ → PlannedPort
by_number q None = Fixed (literal_seen q)
by_number q (Some n) = Numbered n

abbrev pub port_plan : Instance → PortRef → PlannedPort
port_plan i q = by_number q (node_of i q)

-- A GUARD over such ports
mutual
  pub data NumberedGuard : Type 0 where
    Always : NumberedGuard
    Atom : (p : PlannedPort) → NumberedGuard
    Negation : (g : NumberedGuard) → NumberedGuard
    All : (gs : NumberedGuards) → NumberedGuard
    Any : (gs : NumberedGuards) → NumberedGuard
    Compared : (c : Comparison) (a b : PlannedPort) → NumberedGuard
    Within : (from to : ℕ) → NumberedGuard

  pub data NumberedGuards : Type 0 where
    no_guards : NumberedGuards
    a_guard : (g : NumberedGuard) (gs : NumberedGuards) → NumberedGuards

abbrev pub guards_of : List NumberedGuard → NumberedGuards
guards_of [] = no_guards
guards_of (g ∷ gs) = a_guard g (guards_of gs)

-- what a planned guard stands for
abbrev pub guard_step : PlannedGuard-F NumberedGuard → NumberedGuard
guard_step planned.True = Always
guard_step (planned.Port p) = Atom p
guard_step (planned.Not g) = Negation g.value
guard_step (planned.And gs) = All (guards_of gs.items)
guard_step (planned.Or gs) = Any (guards_of gs.items)
guard_step (planned.Compare c a b) = Compared c a b
guard_step (planned.During from to) = Within from to

abbrev pub numbered_guard : PlannedGuard → NumberedGuard
numbered_guard = fold-PlannedGuard NumberedGuard guard_step

module _ (i : Instance) where
  abbrev mutual
    pub guard_plan : PlainGuard → NumberedGuard
    guard_plan plain.Always = Always
    guard_plan (plain.Atom p) = Atom (port_plan i p.port)
    guard_plan (plain.Negation g) = Negation (guard_plan g)
    guard_plan (plain.All gs) = All (guard_plans gs)
    guard_plan (plain.Any gs) = Any (guard_plans gs)
    guard_plan (plain.Compared c a b) = Compared c (port_plan i a.port) (port_plan i b.port)
    guard_plan (plain.Within from to) = Within from to

    pub guard_plans : PlainGuards → NumberedGuards
    guard_plans plain.no_guards = no_guards
    guard_plans (plain.a_guard g gs) = a_guard (guard_plan g) (guard_plans gs)

-- AN ASSIGNMENT over such ports, with the numbers of those that its guard names
pub record NumberedAssign : Type 0 where
  pub owner : Option ℕ
  pub named : List ℕ
  pub guard : NumberedGuard
  pub source : PlannedPort

abbrev pub numbered_assign : PlannedAssign → NumberedAssign
numbered_assign a = record { owner = a.owner; named = a.named.items; guard = numbered_guard a.guard; source = a.source }

abbrev pub assign_plan : Instance → Owned → NumberedAssign
assign_plan i a = record {
  owner = a.owner;
  named = numbers_of i (map (λ q. q.port) (operands_of a.assign.guard));
  guard = guard_plan i a.assign.guard;
  source = port_plan i a.assign.source.port;
}

-- the assignments of a driven port stand for these
abbrev pub StandFor : Instance → List PlannedAssign → List Owned → Type 0
StandFor i assigns owned = map numbered_assign assigns ≡ map (assign_plan i) owned
