-- The way down to an instance, step by step.
use Rattle.std.proofs.Common.{◌≡◌, ℕ, zero, suc, ◌+◌, ◌-◌, ◌^◌, ◌<◌, ◌≤◌, List, [], ◌∷◌, ◌++◌, length, map, get_or, Option, Some, None, append_assoc, refl, sym, ap, ◌∙◌, subst, arith}
use Rattle.std.specs.Prelude.{codes}
use Rattle.std.specs.List.{slice_get}
use Rattle.cx_text.proofs.MemberLaws.{in_at}
use Rattle.cx_meaning.specs.declared.ports.PortRef.{PortRef}
use Rattle.cx_meaning.specs.Designs.{OfComponent, PlainCell, PlainDesign, component_at}
use Rattle.cx_meaning.specs.Instances.{Instance, Node, Path, cells_for, tree_of, paths_of, instance_at}
use Rattle.cx_text.specs.Members.{In}
use Rattle.cx_rules.specs.Ports.{component_of, cell_name}
use Rattle.cx_design.specs.declared.cells.Cell.{Cell}
use Rattle.cx_design.specs.PlainForms.{plain_cell}
use Rattle.cx_design_sizes.specs.declared.tallies.LimitTally.{LimitTally}
use Rattle.cx_design_sizes.specs.Orders.{IsChildrenFirst}
use Rattle.cx_design_sizes.specs.Tallies.{AreTallied}
use Rattle.cx_state.specs.declared.steps.Step.{Step}
use Rattle.cx_rules.specs.FullPaths.{own_path, names_along, full_path}
use Rattle.cx_state.specs.Steps.{step_below, next_step}
use Rattle.cx_state.proofs.TreeLemmas.{child_in, tree_is, child_is}
use Rattle.cx_state.proofs.StepLemmas.{IsStepOf, found}
use Rattle.cx_text.proofs.ListLaws.{there_below}
use Rattle.cx_meaning.proofs.InstancesLemmas.{here as instance_self}

-- so far: what is written, and behind it the path from the component that is reached
pub record IsOnWay (d : PlainDesign) (order : List ℕ) (port : PortRef) (whole : List ℕ) (k left : ℕ) (text : List ℕ) : Type 0 where
  pub here : In order k
  pub small : left < 2 ^ 64 - 1
  pub path : Path
  pub at : slice_get (paths_of (component_of d k)) left ≡ Some path
  pub told : text ++ full_path (component_of d k) path port ≡ whole

pub way_begins : (d : PlainDesign) (order : List ℕ) (port : PortRef) (instance : ℕ) (path : Path) → IsChildrenFirst d order → instance < 2 ^ 32 → slice_get (paths_of (tree_of d)) instance ≡ Some path
    → IsOnWay d order port (full_path (tree_of d) path port) d.main instance []
way_begins d order port instance path first small at = record {
  here = first.main;
  small = (let lt : instance < 2 ^ 32 = small in omega arith);
  path = path;
  at = at;
  told = refl;
}

-- the path through a cell
through : (d : PlainDesign) (k c j : ℕ) (cell : PlainCell) (rest : Path) (port : PortRef) → slice_get (component_at d k).cells c ≡ Some cell → cell.kind ≡ OfComponent j
    → full_path (Node (component_at d k) (cells_for (component_of d) (component_at d k).cells)) (c ∷ rest) port ≡ (cell_name (component_at d k).cells c ++ codes ".") ++ full_path (component_of d j) rest port
through d k c j cell rest port at is =
    ap (λ i. (cell_name (component_at d k).cells c ++ codes "." ++ names_along (instance_at tree (c ∷ [])) rest) ++ own_path i port) (child_is (component_of d) (component_at d k).cells c j cell rest at is)
    ∙ ap (λ i. (cell_name (component_at d k).cells c ++ codes "." ++ names_along i rest) ++ own_path (instance_at (component_of d j) rest) port)
    (child_is (component_of d) (component_at d k).cells c j cell [] at is ∙ instance_self (component_of d j))
    ∙ joined (cell_name (component_at d k).cells c) (codes ".") (names_along (component_of d j) rest) (own_path (instance_at (component_of d j) rest) port)
  where
    tree : Instance
    tree = Node (component_at d k) (cells_for (component_of d) (component_at d k).cells)

    joined : (a b x y : List ℕ) → ((a ++ b) ++ x) ++ y ≡ (a ++ b) ++ (x ++ y)
    joined a b x y = append_assoc (a ++ b) x y

-- one cell further
pub record IsTurn (d : PlainDesign) (order : List ℕ) (port : PortRef) (whole : List ℕ) (k left : ℕ) (text : List ℕ) (step : Step) : Type 0 where
  pub further : IsOnWay d order port whole step.component step.left (text ++ cell_name (component_at d k).cells step.cell ++ codes ".")
  pub less : step.left < left
  pub within : step.cell < length (component_at d k).cells

abbrev IsTurnOf : PlainDesign → List ℕ → PortRef → List ℕ → ℕ → ℕ → List ℕ → Option Step → Type 0
IsTurnOf d order port whole k left text None = text ++ own_path (component_of d k) port ≡ whole
IsTurnOf d order port whole k left text (Some step) = IsTurn d order port whole k left text step

turn_of : (d : PlainDesign) (order : List ℕ) (tallies : List LimitTally) (port : PortRef) (whole : List ℕ) (k left : ℕ) (text : List ℕ) → IsChildrenFirst d order → AreTallied d (length order) tallies order
    → IsOnWay d order port whole k left text → IsTurnOf d order port whole k left text (next_step tallies (component_at d k).cells left)
turn_of d order tallies port whole k left text first known way = by left way.small (subst (λ i. slice_get (paths_of i) left ≡ Some way.path) tree way.at)
  where
    tree : component_of d k ≡ Node (component_at d k) (cells_for (component_of d) (component_at d k).cells)
    tree = tree_is d order k first way.here

    own : [] ≡ way.path → text ++ own_path (component_of d k) port ≡ whole
    own e = ap (λ i. text ++ own_path i port) (sym (instance_self (component_of d k))) ∙ ap (λ path. text ++ full_path (component_of d k) path port) e ∙ way.told

    entered : (r : ℕ) (next : Option Step) → suc r < 2 ^ 64 - 1 → IsStepOf (component_of d) (component_at d k).cells 0 r way.path next → IsTurnOf d order port whole k (suc r) text next
    entered r None small h = absurd h
    entered r (Some step) small h =
        let cell_is : slice_get (component_at d k).cells step.cell ≡ Some h.entered = ap (slice_get (component_at d k).cells) (h.at ∙ (let z : 0 + h.number ≡ h.number = omega arith in z)) ∙ h.stands in
        record {
          further = record {
            here = child_in d order first k step.component h.entered way.here (in_at (component_at d k).cells step.cell h.entered cell_is) h.leads;
            small = bounded h.less small;
            path = h.rest;
            at = h.below;
            told =
                ap (λ z. z ++ full_path (component_of d step.component) h.rest port) (append_assoc text (cell_name (component_at d k).cells step.cell) (codes "."))
                ∙ append_assoc text (cell_name (component_at d k).cells step.cell ++ codes ".") (full_path (component_of d step.component) h.rest port)
                ∙ ap (λ x. text ++ x) (sym (through d k step.cell step.component h.entered h.rest port cell_is h.leads))
                ∙ ap (λ path. text ++ full_path (Node (component_at d k) (cells_for (component_of d) (component_at d k).cells)) path port) (sym h.is)
                ∙ ap (λ i. text ++ full_path i way.path port) (sym tree)
                ∙ way.told;
          };
          less = under h.less;
          within = there_below (component_at d k).cells step.cell h.entered cell_is;
        }
      where
        under : step.left ≤ r → step.left < suc r
        under le = omega arith

        bounded : step.left ≤ r → suc r < 2 ^ 64 - 1 → step.left < 2 ^ 64 - 1
        bounded le lt = omega arith

    by : (n : ℕ) → n < 2 ^ 64 - 1 → slice_get (paths_of (Node (component_at d k) (cells_for (component_of d) (component_at d k).cells))) n ≡ Some way.path
        → IsTurnOf d order port whole k n text (next_step tallies (component_at d k).cells n)
    by zero small e = own (let f : Some [] ≡ Some way.path = e in cc)
    by (suc r) small e =
        entered r (step_below tallies (component_at d k).cells 0 r) small
        (found (component_of d) tallies (component_at d k).cells 0 r way.path (omega arith)
        (λ cell j i is. known j (length d.components) (child_in d order first k j cell way.here i is) first.few) e)

pub turn : (d : PlainDesign) (order : List ℕ) (tallies : List LimitTally) (port : PortRef) (whole : List ℕ) (k left : ℕ) (text : List ℕ) (step : Step) → IsChildrenFirst d order → AreTallied d (length order) tallies order
    → IsOnWay d order port whole k left text → next_step tallies (component_at d k).cells left ≡ Some step → IsTurn d order port whole k left text step
turn d order tallies port whole k left text step first known way e = subst (IsTurnOf d order port whole k left text) e (turn_of d order tallies port whole k left text first known way)

pub way_ends : (d : PlainDesign) (order : List ℕ) (tallies : List LimitTally) (port : PortRef) (whole : List ℕ) (k left : ℕ) (text : List ℕ) → IsChildrenFirst d order → AreTallied d (length order) tallies order
    → IsOnWay d order port whole k left text → next_step tallies (component_at d k).cells left ≡ None → text ++ own_path (component_of d k) port ≡ whole
way_ends d order tallies port whole k left text first known way e = subst (IsTurnOf d order port whole k left text) e (turn_of d order tallies port whole k left text first known way)

-- the name of a cell
pub name_at : (cells : List Cell) (c : ℕ) (none : Cell) → c < length cells → cell_name (map plain_cell cells) c ≡ (get_or cells c none).name
name_at [] c none lt = absurd (omega arith)
name_at (cell ∷ cells) zero none lt = refl
name_at (cell ∷ cells) (suc c) none lt = name_at cells c none (let h : suc c < suc (length cells) = lt in omega arith)
