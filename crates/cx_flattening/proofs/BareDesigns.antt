-- No static invoke stands in a design without static components, and no cell is of one.
use Rattle.std.proofs.Common.{◌≡◌, ℕ, zero, suc, ◌<◌, inl, inr, false, List, [], ◌∷◌, ◌++◌, length, is_some, refl, ap, ◌∙◌, subst, arith}
use Rattle.cx_text.proofs.MemberLaws.{in_left, in_right}
use Rattle.cx_meaning.specs.Designs.{PlainKind, OfPrimitive, OfComponent, PlainCell, PlainDesign, component_at, PlainForm, Empty, Enable, Seq, Par, If, While, Repeat, StaticSeq, StaticPar, StaticIf, StaticRepeat, Timed, PlainStatement, Placed, PlainStatements, no_statements, a_statement}
use Rattle.cx_meaning.specs.Instances.{Instance, Cells, add_cell, cells_for, tree_within, tree_of}
use Rattle.cx_text.specs.Members.{In}
use Rattle.cx_meaning.proofs.DesignsLemmas.{same_part}
use Rattle.cx_rules.specs.Items.{Context, Dynamic, InStatic, Branch, below_dynamic, Visited, visit, visit_parts, visit_all}
use Rattle.cx_rules.specs.Wellformed.{IsForm, IsDesign}
use Rattle.cx_rules.specs.Flat.{IsFlat}
use Rattle.cx_flattening.specs.Forms.{HasForms}
use Rattle.cx_flattening.specs.Whole.{is_static}
use Rattle.cx_flattening.proofs.BareIslands.{Bare, BareOne, BareAll, NoStatic}
use Rattle.cx_flattening.proofs.BareRuns.{BareTree, BareCells}
use Rattle.cx_rules.proofs.ItemsLemmas.{kind_there}

-- no statement among these takes its cycles by a number
abbrev pub NoneTimed : List Visited → Type 0
NoneTimed vs = (v : Visited) (k : ℕ) → In vs v → v.form ≡ Timed k → ⊥

left : (vs ws : List Visited) → NoneTimed (vs ++ ws) → NoneTimed vs
left vs ws h v k i = h v k (in_left vs ws v i)

right : (vs ws : List Visited) → NoneTimed (vs ++ ws) → NoneTimed ws
right vs ws h v k i = h v k (in_right vs ws v i)

mutual
  bare_form : (context : Context) (form : PlainForm) → ((k : ℕ) → form ≡ Timed k → ⊥) → NoneTimed (visit_parts context form) → Bare form
  bare_form context Empty own h = tt
  bare_form context (Enable g) own h = tt
  bare_form context (Seq parts) own h = bare_all (below_dynamic context) parts h
  bare_form context (Par arms) own h = bare_all (below_dynamic context) arms h
  bare_form context (If test comb a b) own h =
      (bare_one (below_dynamic context) a (left (visit (below_dynamic context) a) (visit (below_dynamic context) b) h), bare_one (below_dynamic context) b (right (visit (below_dynamic context) a) (visit (below_dynamic context) b) h))
  bare_form context (While test comb a) own h = bare_one (below_dynamic context) a h
  bare_form context (Repeat count a) own h = bare_one (below_dynamic context) a h
  bare_form context (StaticSeq length parts) own h = bare_all InStatic parts h
  bare_form context (StaticPar length arms) own h = bare_all InStatic arms h
  bare_form context (StaticIf length test a b) own h = (bare_one Branch a (left (visit Branch a) (visit Branch b) h), bare_one Branch b (right (visit Branch a) (visit Branch b) h))
  bare_form context (StaticRepeat length count a) own h = bare_one InStatic a h
  bare_form context (Timed k) own h = absurd (own k refl)

  bare_one : (context : Context) (s : PlainStatement) → NoneTimed (visit context s) → BareOne s
  bare_one context (Placed form place) h = bare_form context form (λ k e. h (record { context = context; form = form; place = place }) k (inl refl) e) (λ v k i e. h v k (inr i) e)

  bare_all : (context : Context) (ss : PlainStatements) → NoneTimed (visit_all context ss) → BareAll ss
  bare_all context no_statements h = tt
  bare_all context (a_statement s ss) h = (bare_one context s (left (visit context s) (visit_all context ss) h), bare_all context ss (right (visit context s) (visit_all context ss) h))

module _ (d : PlainDesign) (has : HasForms d) (flat : IsFlat d) where
  none_timed : (k : ℕ) → k < length d.components → NoneTimed (visit Dynamic (component_at d k).control)
  none_timed k there v n i e =
      let form : n < length (component_at d k).invokes =
      subst (λ form. IsForm (component_at d k) form) e (has.forms k v there i) in
      let none : n < 0 = subst (λ list. n < length list) (flat k there).no_invoke form in
      absurd (omega (arith, none))

  dynamic : (m k : ℕ) → k < length d.components → is_static (tree_within d m k) ≡ false
  dynamic m k there = ap (λ part. is_some part.latency) (same_part d m k) ∙ ap is_some (flat k there).dynamic

  abbrev AreKinds : List PlainCell → Type 0
  AreKinds cells = (cell : PlainCell) (k : ℕ) → In cells cell → cell.kind ≡ OfComponent k → k < length d.components

  none_static : (m : ℕ) (cells : List PlainCell) → AreKinds cells → NoStatic (cells_for (tree_within d m) cells)
  none_static m [] kinds = tt
  none_static m (c ∷ cs) kinds = choice c.kind refl (none_static m cs (λ cell k i e. kinds cell k (inr i) e))
    where
      choice : (kind : PlainKind) → c.kind ≡ kind → NoStatic (cells_for (tree_within d m) cs) → NoStatic (add_cell (tree_within d m) kind (cells_for (tree_within d m) cs))
      choice (OfPrimitive primitive) e rest = rest
      choice (OfComponent k) e rest = (dynamic m k (kinds c k (inl refl) e), rest)

  kinds_of : (k : ℕ) → k < length d.components → AreKinds (component_at d k).cells
  kinds_of k there cell j i e = has.kinds k j cell there i e

  module _ (trees : ℕ → Instance) (bare : (k : ℕ) → k < length d.components → BareTree (trees k)) where
    bare_cell : (kind : PlainKind) (rest : Cells) → ((k : ℕ) → kind ≡ OfComponent k → k < length d.components) → BareCells rest → BareCells (add_cell trees kind rest)
    bare_cell (OfPrimitive primitive) rest there h = h
    bare_cell (OfComponent k) rest there h = (bare k (there k refl), h)

    bare_cells : (cells : List PlainCell) → AreKinds cells → BareCells (cells_for trees cells)
    bare_cells [] kinds = tt
    bare_cells (c ∷ cs) kinds = bare_cell c.kind (cells_for trees cs) (λ k e. kinds c k (inl refl) e) (bare_cells cs (λ cell k i e. kinds cell k (inr i) e))

  bare_tree : (m k : ℕ) → k < length d.components → BareTree (tree_within d m k)
  bare_tree zero k there = ((flat k there).no_invoke, (bare_one Dynamic (component_at d k).control (none_timed k there), (tt, tt)))
  bare_tree (suc m) k there = (
    (flat k there).no_invoke,
    (
      bare_one Dynamic (component_at d k).control (none_timed k there),
      (none_static m (component_at d k).cells (kinds_of k there), bare_cells (tree_within d m) (λ j h. bare_tree m j h) (component_at d k).cells (kinds_of k there)),
    ),
  )

pub bare_forms : (d : PlainDesign) → HasForms d → IsFlat d → BareTree (tree_of d)
bare_forms d has flat = bare_tree d has flat (length d.components) d.main has.main

forms_of : (d : PlainDesign) → IsDesign d → HasForms d
forms_of d design = record {
  main = design.main_there;
  forms = λ k v there i. subst (λ part. IsForm part v.form) (same_part d (length d.components) k) ((design.components k there).statements v i).form;
  kinds = λ k j cell there i e. kind_there d cell.kind j ((design.components k there).cells cell i).kind e;
}

pub bare_design : (d : PlainDesign) → IsDesign d → IsFlat d → BareTree (tree_of d)
bare_design d design flat = bare_forms d (forms_of d design) flat
