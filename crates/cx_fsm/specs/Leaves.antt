-- Trees on their way: what is made, and what is left to make of the drivers that are left.
use Rattle.std.specs.Prelude.{◌≡◌, ℕ, List, [], ◌∷◌, ◌++◌, if◌then◌else◌}
use Rattle.cx_net.specs.Nets.{PlainNetTarget, PlainNetDriver}
use Rattle.cx_net.specs.PlainNets.{plain_net_drivers, plain_net_target}
use Rattle.cx_wiring.specs.Trees.{is_same, rank_of, Driven, driven, trees, tree_widths}
use Rattle.cx_fsm.specs.Drafts.{IfWhole, IsWhole}
use Rattle.cx_fsm.specs.declared.trees.Leaves.{Leaves}
use Rattle.cx_fsm.specs.declared.trees.Trees.{Trees}

-- the drivers of a target that stand first, and the groups behind them
abbrev pub first_drivers : PlainNetTarget → List Driven → List PlainNetDriver
first_drivers t [] = []
first_drivers t (g ∷ gs) = if is_same t g.target then g.drivers else []

abbrev pub later_groups : PlainNetTarget → List Driven → List Driven
later_groups t [] = []
later_groups t (g ∷ gs) = if is_same t g.target then gs else g ∷ gs

-- drivers of a target with those of it that stand first, and the groups behind them
abbrev pub gathered : PlainNetTarget → List PlainNetDriver → List Driven → List Driven
gathered t before gs = record { target = t; drivers = before ++ first_drivers t gs } ∷ later_groups t gs

-- what is left: the leaves with the drivers that are left
abbrev pub left : Leaves → List PlainNetDriver → List Driven
left l ds = gathered (plain_net_target l.target) (plain_net_drivers l.drivers.items) (driven ds)

-- these drivers are made, and wires of these widths, so that this wire is the next, where nothing is wanting
pub record Grows (before after : Trees) (made : List PlainNetDriver) (wide : List ℕ) (free : ℕ) : Type 0 where
  pub whole : IfWhole after.draft (IsWhole before.draft)
  pub drivers : IfWhole after.draft
      (plain_net_drivers after.draft.drivers.items ≡ plain_net_drivers before.draft.drivers.items ++ made)
  pub widths : IfWhole after.draft (after.widths.items ≡ before.widths.items ++ wide)
  pub next : IfWhole after.draft (after.next ≡ free)

-- all drivers: those that are made, and those of what is left
abbrev pub all_drivers : Trees → Leaves → List PlainNetDriver → List PlainNetDriver
all_drivers made l ds = plain_net_drivers made.draft.drivers.items ++ trees made.next (left l ds)

-- the widths of all wires of trees
abbrev pub all_widths : (PlainNetTarget → ℕ) → Trees → Leaves → List PlainNetDriver → List ℕ
all_widths width made l ds = made.widths.items ++ tree_widths width (left l ds)

-- a rank as numbers
abbrev pub plain_rank : PlainNetTarget → ℕ × (ℕ × ℕ)
plain_rank t = ((rank_of t).kind, ((rank_of t).number, (rank_of t).port))
