-- THE MACHINE OF AN ACCEPTED DESIGN runs as its main, and the invariant of every instance's control is kept.
use Rattle.std.proofs.Common.{◌≡◌, ℕ, ◌<◌, List, [], ◌++◌, ◌∙◌, sym, subst}
use Rattle.cx_meaning.specs.Designs.{PlainDesign, PlainForm, Placed}
use Rattle.cx_meaning.specs.Instances.{Instance, part_of, tree_of, Path, instance_at, idle_at, start, IsSettled}
use Rattle.cx_text.specs.Members.{In}
use Rattle.cx_meaning.specs.Islands.{History, active_in, looked_at, form_flat, form_length}
use Rattle.cx_rules.specs.Items.{Visited, statements_in}
use Rattle.cx_laws.specs.Positions.{HasNoEmptyIf, active_at, begun_at}
use Rattle.cx_laws.specs.Samples.{Samples, AreKept, active_by, begun_by}
use Rattle.cx_laws.proofs.VisitLemmas.{as_visited}
use Rattle.cx_control.specs.DesignRuns.{MachineRuns}
use Rattle.cx_control.specs.Leaves.{Coded}
use Rattle.cx_control.specs.Controls.{coded_control}
use Rattle.cx_control.specs.Numbers.{number_idle_at}
use Rattle.cx_control.specs.Standing.{good_control}
use Rattle.cx_control.specs.Keeping.{Keeps}
use Rattle.cx_control.specs.ControlRules.{ControlRules}
use Rattle.cx_control.specs.IslandRules.{IslandRules}
use Rattle.cx_control.proofs.IslandLaws.{island_leaf}
use Rattle.cx_control.specs.StatementCodingLaws.{IsRegion}
use Rattle.cx_control.proofs.ControlLaws.{IslandsDo, control_coded, control_does}
use Rattle.cx_control.proofs.KeepLaws.{control_keeps}
use Rattle.cx_control.proofs.DesignLaws as design_laws
use Rattle.cx_laws.proofs.VisitLemmas.{as_visited}
use Rattle.cx_meaning.proofs.InstancesLemmas.{instance_along}

-- the samples and timers of every instance
pub islands_keep : (i : Instance)
    → ((form : PlainForm) (h : History) (t : ℕ) (kept : Samples) → AreKept (part_of i) h t form kept → active_by (part_of i) kept t form ≡ active_at (part_of i) h t form)
    → ((form : PlainForm) (h : History) (t : ℕ) (kept : Samples) → AreKept (part_of i) h t form kept → begun_by (part_of i) kept t form ≡ begun_at (part_of i) h t form)
    → ((form : PlainForm) (h : History) (t : ℕ) → t < form_length (part_of i) form → active_in h t (form_flat (part_of i) form 0 []) ≡ active_at (part_of i) h t form)
    → ((form : PlainForm) (h : History) (t : ℕ) → HasNoEmptyIf (part_of i) form → t < form_length (part_of i) form → looked_at h t (form_flat (part_of i) form 0 []) ≡ begun_at (part_of i) h t form)
    → ((v : Visited) → In (statements_in (part_of i)) v → HasNoEmptyIf (part_of i) v.form) → IslandRules i
islands_keep i by_active by_begun timed_active timed_begun no_empty = record {
  active = λ form h t kept are inside. by_active form h t kept are ∙ sym (timed_active form h t inside);
  begun = λ form place stands h t kept are inside. by_begun form h t kept are ∙ sym (timed_begun form h t (no_empty (as_visited (Placed form place)) stands) inside);
}

-- in an instance whose islands keep theirs
pub islands_do : (i : Instance) → ControlRules i → IslandRules i → IslandsDo i
islands_do i control island form place stands is_one = island_leaf i control.rules island form place stands

-- THE CONTROL of every instance, where all keep their rules
module _ (d : PlainDesign) (rules : (path : Path) → ControlRules (instance_at (tree_of d) path)) (islands : (path : Path) → IslandRules (instance_at (tree_of d) path)) where
  pub rules_below : (path more : Path) → ControlRules (instance_at (instance_at (tree_of d) path) more)
  rules_below path more = subst ControlRules (sym (instance_along (tree_of d) path more)) (rules (path ++ more))

  pub islands_below : (path more : Path) → IslandRules (instance_at (instance_at (tree_of d) path) more)
  islands_below path more = subst IslandRules (sym (instance_along (tree_of d) path more)) (islands (path ++ more))

  pub codes_at : (path : Path) → IsRegion (Coded.machine (coded_control (instance_at (tree_of d) path))) (Coded.coding (coded_control (instance_at (tree_of d) path)))
  codes_at path = control_coded (instance_at (tree_of d) path) (rules path)

  pub keeps_at : (path : Path) → Keeps (coded_control (instance_at (tree_of d) path)) (good_control (instance_at (tree_of d) path))
      (λ below cell. idle_at (instance_at (tree_of d) path) below cell) (λ below n v. number_idle_at (instance_at (tree_of d) path) below n v)
  keeps_at path =
      control_keeps (instance_at (tree_of d) path) (rules_below path)
      (λ more. islands_do (instance_at (instance_at (tree_of d) path) more) (rules_below path more) (islands_below path more))

  pub design_runs : ((words : List (List ℕ)) → IsSettled (tree_of d) (start (tree_of d) words)) → MachineRuns d
  design_runs settled = design_laws.machine_runs d (control_does (tree_of d) rules (λ path. islands_do (instance_at (tree_of d) path) (rules path) (islands path))) settled
