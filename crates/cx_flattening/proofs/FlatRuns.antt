-- THE RUN of a tree and of its flat instance: control over control, by induction on the tree.
use Rattle.std.proofs.Common.{◌≡◌, ℕ, zero, suc, ◌+◌, false, ◌∷◌, sym, ap, ◌∙◌, subst, arith}
use Rattle.cx_meaning.specs.Designs.{PlainComponent}
use Rattle.cx_meaning.specs.Instances.{Instance, Node, Cells, no_cells, a_primitive, an_instance, OfInstance, cells_of, cell_at, State, under, IsSettled}
use Rattle.cx_meaning.specs.Sights.{Held}
use Rattle.cx_meaning.specs.Control.{run}
use Rattle.cx_meaning.specs.Running.{leaves, run_control, control_below}
use Rattle.cx_flattening.specs.Whole.{is_static, whole_control, whole_below}
use Rattle.cx_flattening.specs.Flattened.{kept_at, flat_kids}
use Rattle.cx_flattening.specs.Embedded.{Stands}
use Rattle.cx_flattening.specs.Runs.{AnswerAs}
use Rattle.cx_flattening.specs.Asking.{RunAsks, TreeAsks, ChildrenAsk}
use Rattle.cx_flattening.proofs.Standing.{stands_dynamic}
use Rattle.cx_flattening.proofs.FlatArms.{plus, zero_plus}
use Rattle.cx_flattening.proofs.FlatStatements.{statement_as, twin_place}
use Rattle.cx_meaning.proofs.RunningLemmas.{child_runs}
use Rattle.cx_rewrites.proofs.StandingLemmas.{idle_below-child}

pub child_settled : (part : PlainComponent) (cells : Cells) (c : ℕ) (child : Instance) (z : State) → cell_at cells c ≡ OfInstance child → IsSettled (Node part cells) z → IsSettled child (under c z)
child_settled part cells c child z at settled path = sym (idle_below-child cells c child path (z (c ∷ path)) at) ∙ settled (c ∷ path)

first_zero : (a : ℕ) → 0 + a ≡ a
first_zero a = omega arith

-- a dynamic child runs as its twin does in the flat instance
module _ (part : PlainComponent) (cells : Cells) (P : PlainComponent) (C : Cells) (asks : RunAsks (Node part cells) (Node P C)) (c : ℕ) (child : Instance) (at : cell_at cells c ≡ OfInstance child)
    (dynamic : is_static child ≡ false) (h : Held) (s z : State) (n : ℕ) where
  abbrev e : ℕ
  e = kept_at (flat_kids cells) c

  pub twin_runs : Stands (Node part cells) 0 s z → IsSettled (Node P C) z
      → ((twin : Instance) → cell_at C (kept_at (flat_kids cells) (0 + c)) ≡ OfInstance twin → Stands child 0 (under c s) (under e z) → IsSettled twin (under e z)
      → AnswerAs child (whole_below cells c h (under c s) n) (run_control twin h (under e z) n))
      → AnswerAs child (whole_below cells c h (under c s) n) (control_below C e h (under e z) n)
  twin_runs stands settled as_twin =
      let twin = twin_place part cells P C asks c child at dynamic in
      subst (AnswerAs child (whole_below cells c h (under c s) n)) (sym (child_runs C e twin.0 twin.1 h (under e z) n))
      (as_twin twin.0 (ap (λ k. cell_at C (kept_at (flat_kids cells) k)) (first_zero c) ∙ twin.1)
      (subst (λ k. Stands child 0 (under c s) (under k z)) (first_zero e)
      (subst (λ k. Stands child 0 (under k s) (under (0 + kept_at (flat_kids cells) k) z)) (first_zero c) (stands_dynamic (flat_kids cells) part 0 s z cells 0 c child stands at dynamic)))
      (child_settled P C e twin.0 z twin.1 settled))

mutual
  pub control_as : (i flat : Instance) → TreeAsks i flat → (held : Held) (s z : State) (n : ℕ) → Stands i 0 s z → IsSettled flat z → AnswerAs i (whole_control i held s n) (run_control flat held z n)
  control_as (Node part cells) (Node P C) asks held s z n stands settled =
      subst (λ control. AnswerAs (Node part cells) (whole_control (Node part cells) held s n) (run (leaves (Node P C) (control_below C) held) control z n)) (sym asks.0.flattened.0.control)
      (statement_as part cells P C asks.0 held (whole_below cells)
      (λ c child at dynamic h s1 z1 m there still. twin_runs part cells P C asks.0 c child at dynamic h s1 z1 m there still
      (λ twin stood below calm. child_as cells cells (Node P C) 0 asks.1 c child at dynamic twin stood h (under c s1) (under (kept_at (flat_kids cells) c) z1) m below calm))
      part.control asks.0.control s z n stands settled).0

  child_as : (rest cells : Cells) (flat : Instance) (c : ℕ) → ChildrenAsk rest cells c flat → (d : ℕ) (child : Instance) → cell_at rest d ≡ OfInstance child → is_static child ≡ false
      → (twin : Instance) → cell_at (cells_of flat) (kept_at (flat_kids cells) (c + d)) ≡ OfInstance twin → (h : Held) (s z : State) (n : ℕ) → Stands child 0 s z → IsSettled twin z
      → AnswerAs child (whole_below rest d h s n) (run_control twin h z n)
  child_as no_cells cells flat c asks d child at dynamic twin stood h s z n stands settled = absurd (cc)
  child_as (a_primitive row rest) cells flat c asks zero child at dynamic twin stood h s z n stands settled = absurd (cc)
  child_as (a_primitive row rest) cells flat c asks (suc d) child at dynamic twin stood h s z n stands settled =
      child_as rest cells flat (suc c) asks d child at dynamic twin (ap (λ k. cell_at (cells_of flat) (kept_at (flat_kids cells) k)) (sym (plus c d)) ∙ stood) h s z n stands settled
  child_as (an_instance other rest) cells flat c asks zero child at dynamic twin stood h s z n stands settled =
      let same : other ≡ child = cc in
      subst (λ x. AnswerAs x (whole_control other h s n) (run_control twin h z n)) same
      (control_as other twin (asks.0 (ap is_static same ∙ dynamic) twin (ap (λ k. cell_at (cells_of flat) (kept_at (flat_kids cells) k)) (sym (zero_plus c)) ∙ stood)) h s z n (subst (λ x. Stands x 0 s z) (sym same) stands) settled)
  child_as (an_instance other rest) cells flat c asks (suc d) child at dynamic twin stood h s z n stands settled =
      child_as rest cells flat (suc c) asks.1 d child at dynamic twin (ap (λ k. cell_at (cells_of flat) (kept_at (flat_kids cells) k)) (sym (plus c d)) ∙ stood) h s z n stands settled
