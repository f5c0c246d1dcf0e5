-- NOTHING LEADS IN A CIRCLE in the dynamic children of a flat instance either: each is the flat instance of a dynamic one of the tree.
use Rattle.std.proofs.Common.{◌≡◌, ℕ, zero, suc, ◌+◌, ◌-◌, ◌<◌, ◌≤◌, ⊎_elim, Bool, true, false, List, [], length, Some, None, refl, sym, ap, ◌∙◌, subst, arith}
use Rattle.std.proofs.lemmas.Bool.{cases_lt}
use Rattle.cx_meaning.specs.Designs.{PlainComponent}
use Rattle.cx_meaning.specs.Instances.{Instance, Node, Cells, no_cells, a_primitive, an_instance, At, Nothing, OfRow, OfInstance, part_of, cells_of, cell_at, cell_count}
use Rattle.cx_meaning.specs.Active.{Active, nothing, entries}
use Rattle.cx_meaning.proofs.InstancesLemmas.{row_instance, instance_is}
use Rattle.cx_rules.specs.Circles.{AreAcyclic, AcyclicBelow}
use Rattle.cx_flattening.specs.Deeds.{Deed}
use Rattle.cx_flattening.specs.Whole.{is_static}
use Rattle.cx_flattening.specs.Flattened.{block_size, kept_at, start_of, wire_at, flat_part, flat_kids}
use Rattle.cx_flattening.specs.Embedded.{wire_row, HasWires, IsEmbedded, AreEmbedded, IsFlattened}
use Rattle.cx_flattening.specs.Seeing.{NoCircle, NoneBelow}
use Rattle.cx_flattening.specs.Fair.{AllFair, AllFairBelow}
use Rattle.cx_flattening.proofs.Standing.{TwinAt, embedded_row, embedded_static, embedded_dynamic, wire_there, acyclic_child}
use Rattle.cx_flattening.proofs.LevelSights.{kid-static, flat-outputs}
use Rattle.cx_flattening.proofs.StillActs.{still_tops}
use Rattle.cx_flattening.proofs.FlatSafe.{Which, a_kept, of_block, which, kid_from, flat_acyclic}
use Rattle.cx_rules.proofs.CirclesLemmas.{cells_below}
use Rattle.cx_meaning.proofs.CycleLemmas.{cell_beyond}

-- A DYNAMIC CHILD of a flat instance is the flat instance of one of the tree
record IsTwin (t : Instance) : Type 0 where
  child : Instance
  flattened : IsFlattened child t
  fair : AllFair child
  calm : AreAcyclic child

pub fair_child : (cells : Cells) (c : ℕ) (child : Instance) → AllFairBelow cells → cell_at cells c ≡ OfInstance child → AllFair child
fair_child no_cells c child h e = absurd (cc)
fair_child (a_primitive row rest) zero child h e = absurd (cc)
fair_child (a_primitive row rest) (suc c) child h e = fair_child rest c child h e
fair_child (an_instance other rest) zero child h e = let same : other ≡ child = cc in subst AllFair same h.0
fair_child (an_instance other rest) (suc c) child h e = fair_child rest c child h.1 e

circle_below : (i : Instance) (act : Active) (deeds : List Deed) → NoCircle i act deeds → AcyclicBelow (cells_of i)
circle_below (Node part cells) act deeds h = h.1

module _ (host : Cells) where
  abbrev TwinsIn : Instance → ℕ → Type 0
  TwinsIn i first = (e : ℕ) (t : Instance) → e < length (flat_part i).cells → cell_at host (first + e) ≡ OfInstance t → IsTwin t

  mutual
    twins_in : (i : Instance) → AllFair i → AcyclicBelow (cells_of i) → (first : ℕ) → IsEmbedded i first host → TwinsIn i first
    twins_in (Node part cells) fair calm first embedded e t less at =
        by (which (flat_kids cells) part.cells e less) (twins_below cells part cells 0 (λ n. ap (cell_at cells) (plus n)) fair.1 calm first embedded)
      where
        plus : (a : ℕ) → a ≡ 0 + a
        plus a = omega arith

        zero_plus : (a : ℕ) → 0 + a ≡ a
        zero_plus a = omega arith

        by : Which (flat_kids cells) part.cells e → ((n : ℕ) (child : Instance) → cell_at cells n ≡ OfInstance child → is_static child ≡ true → TwinsIn child (first + start_of (flat_kids cells) part (0 + n))) → IsTwin t
        by (a_kept c there none is) blocks = at_cell (cell_at cells c) refl
          where
            at_cell : (x : At) → cell_at cells c ≡ x → IsTwin t
            at_cell Nothing f = absurd (fair.0.counts c there f)
            at_cell (OfRow row) f =
                absurd (row_instance row t (sym (embedded_row (flat_kids cells) part first host cells 0 c row embedded f)
                ∙ ap (λ k. cell_at host (first + kept_at (flat_kids cells) k)) (zero_plus c) ∙ ap (λ k. cell_at host (first + k)) (sym is) ∙ at))
            at_cell (OfInstance child) f = by_static (is_static child) refl
              where
                by_static : (b : Bool) → is_static child ≡ b → IsTwin t
                by_static true static = absurd (let not_kept : None ≡ Some (flat_part child) = sym none ∙ kid-static cells c child f static in cc)
                by_static false dynamic =
                    let r = subst (TwinAt (flat_kids cells) part first host child) (zero_plus c) (embedded_dynamic (flat_kids cells) part first host cells 0 c child embedded f dynamic) in
                    let same : OfInstance r.0 ≡ OfInstance t = sym r.1 ∙ ap (λ k. cell_at host (first + k)) (sym is) ∙ at in
                    subst IsTwin (instance_is r.0 t same)
                    (record { child = child; flattened = (r.2, r.3, r.4); fair = fair_child cells c child fair.1 f; calm = acyclic_child cells c child calm f })
        by (of_block c n kid there its inside is) blocks =
            let k = kid_from cells c kid its in
            in_block k.0 k.1 k.2 (subst (λ x. n < block_size (Some x)) (sym k.3) inside) (blocks c k.0 k.1 k.2)
          where
            in_block : (child : Instance) → cell_at cells c ≡ OfInstance child → is_static child ≡ true → n < block_size (Some (flat_part child)) → TwinsIn child (first + start_of (flat_kids cells) part (0 + c)) → IsTwin t
            in_block child f static within inner_twins =
                ⊎_elim
                (λ (l : n < length (flat_part child).cells).
                inner_twins n t l (ap (cell_at host) (let z : start_of (flat_kids cells) part (0 + c) ≡ start_of (flat_kids cells) part c = ap (start_of (flat_kids cells) part) (zero_plus c) in
                let e2 : first + start_of (flat_kids cells) part (0 + c) + n ≡ first + e = omega (arith, is, z) in e2) ∙ at))
                (λ (l : length (flat_part child).cells ≤ n).
                let m = n - length (flat_part child).cells in
                let few : m < length (part_of child).outputs = subst (λ list. m < length list) (flat-outputs child) (omega (arith, within, l)) in
                let stood = subst (λ k. IsEmbedded child (first + start_of (flat_kids cells) part k) host × HasWires (part_of child).outputs (first + wire_at (flat_kids cells) part (flat_part child) k 0) host) (zero_plus c)
                (embedded_static (flat_kids cells) part first host cells 0 c child embedded f static) in
                let w = wire_there (part_of child).outputs (first + wire_at (flat_kids cells) part (flat_part child) c 0) m host stood.1 few in
                absurd (row_instance (wire_row w.0) t (sym w.1 ∙ ap (cell_at host) (let e2 : first + wire_at (flat_kids cells) part (flat_part child) c 0 + m ≡ first + e = omega (arith, is, l) in e2) ∙ at)))
                (cases_lt n (length (flat_part child).cells))

    twins_below : (rest : Cells) (part : PlainComponent) (cells : Cells) (c : ℕ) → ((n : ℕ) → cell_at rest n ≡ cell_at cells (c + n)) → AllFairBelow rest → AcyclicBelow rest → (first : ℕ)
        → AreEmbedded (flat_kids cells) part rest c first host
        → (n : ℕ) (child : Instance) → cell_at rest n ≡ OfInstance child → is_static child ≡ true → TwinsIn child (first + start_of (flat_kids cells) part (c + n))
    twins_below no_cells part cells c tail fair calm first embedded n child f static = absurd (cc)
    twins_below (a_primitive row rest) part cells c tail fair calm first embedded zero child f static = absurd (cc)
    twins_below (a_primitive row rest) part cells c tail fair calm first embedded (suc n) child f static =
        subst (λ k. TwinsIn child (first + start_of (flat_kids cells) part k)) (plus c n)
        (twins_below rest part cells (suc c) (λ m. tail (suc m) ∙ ap (cell_at cells) (sym (plus c m))) fair calm first embedded.1 n child f static)
      where
        plus : (a b : ℕ) → suc a + b ≡ a + suc b
        plus a b = omega arith
    twins_below (an_instance other rest) part cells c tail fair calm first embedded zero child f static =
        subst (λ k. TwinsIn child (first + start_of (flat_kids cells) part k)) (sym (zero_plus c))
        (subst (λ k. TwinsIn k (first + start_of (flat_kids cells) part c)) same
        (twins_in other fair.0 (cells_below other calm.0) (first + start_of (flat_kids cells) part c) (embedded.0 (ap is_static same ∙ static)).0))
      where
        zero_plus : (a : ℕ) → a + 0 ≡ a
        zero_plus a = omega arith

        same : other ≡ child
        same = cc
    twins_below (an_instance other rest) part cells c tail fair calm first embedded (suc n) child f static =
        subst (λ k. TwinsIn child (first + start_of (flat_kids cells) part k)) (plus c n)
        (twins_below rest part cells (suc c) (λ m. tail (suc m) ∙ ap (cell_at cells) (sym (plus c m))) fair.1 calm.1 first embedded.2 n child f static)
      where
        plus : (a b : ℕ) → suc a + b ≡ a + suc b
        plus a b = omega arith

-- under the continuous assignments alone
mutual
  calm_still : (i : Instance) → AreAcyclic i → NoCircle i nothing []
  calm_still (Node part cells) h = (h.0, h.1, calm_none cells 0 h.1)

  calm_none : (cells : Cells) (c : ℕ) → AcyclicBelow cells → NoneBelow cells c []
  calm_none no_cells c h = tt
  calm_none (a_primitive row rest) c h = calm_none rest (suc c) h
  calm_none (an_instance child rest) c h = (λ static. calm_entries child h.0, calm_none rest (suc c) h.1)

  calm_entries : (i : Instance) → AreAcyclic i → NoCircle i (entries []) []
  calm_entries (Node part cells) h = (h.0, h.1, calm_none cells 0 h.1)

pub still_circle : (i : Instance) → AreAcyclic i → NoCircle i nothing []
still_circle i h = calm_still i h

pub still_entries : (i : Instance) → AreAcyclic i → NoCircle i (entries []) []
still_entries i h = calm_entries i h

pub none_below : (cells : Cells) → AcyclicBelow cells → NoneBelow cells 0 []
none_below cells h = calm_none cells 0 h

cells_twins : (i flat : Instance) → IsFlattened i flat → AllFair i → AcyclicBelow (cells_of i) → (e : ℕ) (t : Instance) → cell_at (cells_of flat) e ≡ OfInstance t → IsTwin t
cells_twins i flat flattened fair calm e t at =
    twins_in (cells_of flat) i fair calm 0 flattened.1 e t (subst (λ n. e < n) flattened.2 (there (cells_of flat) e at)) (ap (cell_at (cells_of flat)) (zero_plus e) ∙ at)
  where
    zero_plus : (a : ℕ) → 0 + a ≡ a
    zero_plus a = omega arith

    there : (cells : Cells) (n : ℕ) → cell_at cells n ≡ OfInstance t → n < cell_count cells
    there cells n f =
        ⊎_elim
        (λ (l : n < cell_count cells). l)
        (λ (l : cell_count cells ≤ n). absurd (let none : Nothing ≡ OfInstance t = sym (cell_beyond cells n l) ∙ f in cc))
        (cases_lt n (cell_count cells))

mutual
  are_acyclic : (t i : Instance) → IsFlattened i t → AllFair i → AreAcyclic i → AreAcyclic t
  are_acyclic (Node part cells) i flattened fair calm = (
    flat_acyclic i (Node part cells) flattened fair nothing nothing [] (still_tops i) (still_circle i calm),
    all_acyclic cells (cells_twins i (Node part cells) flattened fair (cells_below i calm)),
  )

  all_acyclic : (cells : Cells) → ((e : ℕ) (t : Instance) → cell_at cells e ≡ OfInstance t → IsTwin t) → AcyclicBelow cells
  all_acyclic no_cells twin = tt
  all_acyclic (a_primitive row rest) twin = all_acyclic rest (λ e. twin (suc e))
  all_acyclic (an_instance t rest) twin =
      let w = twin 0 t refl in
      (are_acyclic t w.child w.flattened w.fair w.calm, all_acyclic rest (λ e. twin (suc e)))

-- NOR IN ITS DYNAMIC CHILDREN
pub flat_deeper : (i flat : Instance) → IsFlattened i flat → AllFair i → (act : Active) (deeds : List Deed) → NoCircle i act deeds → AcyclicBelow (cells_of flat)
flat_deeper i flat flattened fair act deeds calm = all_acyclic (cells_of flat) (cells_twins i flat flattened fair (circle_below i act deeds calm))
