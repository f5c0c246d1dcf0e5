-- WHAT THE LEAVES OF CONTROL owe from a settled state: where the old one ends, the new one ends no later in the same state; tests and groups that stay.
use Rattle.std.proofs.Common.{◌≡◌, ℕ, suc, ◌≤◌, Bool, true, false, List, [], ◌∷◌, length, Option, Some, None, refl, sym, ap, ◌∙◌, subst, arith, ◌<◌}
use Rattle.std.specs.Prelude.{nat_eq, ◌||◌, if◌then◌else◌}
use Rattle.std.proofs.Math.Path.{fun_ext}
use Rattle.std.proofs.lemmas.Bool.{eqb-true}
use Rattle.cx_meaning.specs.declared.ports.PortRef.{PortRef}
use Rattle.cx_meaning.specs.declared.ports.PortRef.TheVariants as ports
use Rattle.cx_meaning.specs.Designs.{PlainAssign, PlainGroup, group_at}
use Rattle.cx_meaning.specs.Instances.{Instance, Node, At, OfInstance, part_of, cells_of, cell_at, State, under, put, idle, IsSettled}
use Rattle.cx_meaning.specs.Active.{group, comb}
use Rattle.cx_meaning.specs.Truths.{truth_of}
use Rattle.cx_meaning.specs.Sights.{Held}
use Rattle.cx_meaning.specs.Cycles.{Fault}
use Rattle.cx_meaning.specs.Answers.{Answer, End, More, Meaning}
use Rattle.cx_meaning.specs.Answers as answers
use Rattle.cx_meaning.specs.Budgets.{Grows, IsSteady, Leaves}
use Rattle.cx_meaning.specs.Islands.{kind_length, group_length}
use Rattle.cx_meaning.specs.Calls.{test_of, test, if_instance, called_by, called_in, called, enables_at, enables_primitive, captures_in, captures, lift_answer, inputs_of_call}
use Rattle.cx_rules.specs.Circles.{IsAcyclic}
use Rattle.cx_rewrites.specs.Tallies.{Tally, Counted}
use Rattle.cx_rewrites.specs.Carrying.{NoLater, Same, Carried}
use Rattle.cx_promotion.specs.Made.{IsPromoted}
use Rattle.cx_promotion.proofs.Twins.{Twins, beside_each, twin_cells, TwinAt, none_there, a_row_there, a_child_there, twins_at}
use Rattle.cx_promotion.proofs.MadeBeside.{MadeBeside}
use Rattle.cx_promotion.proofs.Members.{not_promoted}
use Rattle.cx_promotion.proofs.Stays.{IsIdle, seen_stays}
use Rattle.cx_rewrites.proofs.StandingLemmas.{idle_below-child}

abbrev pub same_fault : Fault → Fault
same_fault f = f

-- the same state, which is settled
abbrev pub SameSettled : Instance → Tally → State → State → Type 0
SameSettled i counted s z = (s ≡ z) × IsSettled i s

-- from a settled state the other run ends no later, in the same state
abbrev pub Quicker : Instance → Counted State → Meaning State Fault → Meaning State Fault → Type 0
Quicker i counts go on = (before : Tally) (s z : State) (n m : ℕ) → n ≤ m → s ≡ z → IsSettled i s → Carried NoLater Same same_fault before (counts s n) (go s n) (on z m)

pub same_le : (t : ℕ) → t ≤ t
same_le t = omega arith

-- an answer that stays under a greater budget
pub grown : (n : ℕ) (o later : Answer State Fault) (a : State) (t : ℕ) → Grows n o later → o ≡ End a t → (t ≤ n) × (later ≡ End a t)
grown n o later a t grows is = subst (λ x. Grows n x later) is grows

-- EQUAL MEANINGS
pub steady_quicker : (i : Instance) (counts : Counted State) (go on : Meaning State Fault) → IsSteady go → ((s : State) (n : ℕ) → on s n ≡ go s n) → Quicker i counts go on
steady_quicker i counts go on steady same before s z n m room e settled = by (go s n) refl
  where
    by : (o : Answer State Fault) → go s n ≡ o → Carried NoLater Same same_fault before (counts s n) o (on z m)
    by (End a t) is =
        let later = grown n (go s n) (go s m) a t (steady s n m room) is in
        (a, t, ap (λ y. on y m) (sym e) ∙ same s m ∙ later.1, same_le t, refl)
    by (answers.Fault f t) is = tt
    by More is = tt

-- with the state that is left settled again
pub with_settled : (i : Instance) (before k : Tally) (o x : Answer State Fault) → Carried NoLater Same same_fault before k o x → Leaves (IsSettled i) o → Carried NoLater (SameSettled i) same_fault before k o x
with_settled i before k (End a t) x (z, u, is, keeps, same) settled = (z, u, is, keeps, (same, settled))
with_settled i before k (answers.Fault f t) x carried settled = tt
with_settled i before k More x carried settled = tt

-- whatever was counted
pub recounted : (R : State → State → Type 0) (before k l : Tally) (o x : Answer State Fault) → Carried NoLater (λ counted s z. R s z) same_fault before k o x → Carried NoLater (λ counted s z. R s z) same_fault before l o x
recounted R before k l (End a t) x (w, u, is, keeps, same) = (w, u, is, keeps, same)
recounted R before k l (answers.Fault f t) x carried = tt
recounted R before k l More x carried = tt

-- CHILDREN of a settled instance are settled
pub child_settled : (i : Instance) (s : State) (c : ℕ) (child : Instance) → cell_at (cells_of i) c ≡ OfInstance child → IsSettled i s → IsSettled child (under c s)
child_settled (Node part cells) s c child is settled path = sym (idle_below-child cells c child path (s (c ∷ path)) is) ∙ settled (c ∷ path)

-- THE CALLED CELL is the same in both designs, as what is captured
module _ (i j : Instance) (t : Twins MadeBeside i j) where
  at_twin : (c : ℕ) → TwinAt MadeBeside (cell_at (cells_of i) c) (cell_at (cells_of j) c)
  at_twin c = twins_at MadeBeside (cells_of i) (cells_of j) (twin_cells MadeBeside i j t) c

  called_at : (at twin : At) (c : ℕ) (later : Option ℕ) → TwinAt MadeBeside at twin → if_instance twin c later ≡ if_instance at c later
  called_at at twin c later none_there = refl
  called_at at twin c later a_row_there = refl
  called_at at twin c later (a_child_there below) = refl

  called_by_twin : (p : PortRef) (later : Option ℕ) → called_by (cells_of j) p later ≡ called_by (cells_of i) p later
  called_by_twin (ports.Cell c p) later = called_at (cell_at (cells_of i) c) (cell_at (cells_of j) c) c later (at_twin c)
  called_by_twin (ports.Input n) later = refl
  called_by_twin (ports.Output n) later = refl
  called_by_twin (ports.Done g) later = refl
  called_by_twin (ports.Literal w v) later = refl

  called_in_twin : (list : List PlainAssign) → called_in (cells_of j) list ≡ called_in (cells_of i) list
  called_in_twin [] = refl
  called_in_twin (a ∷ rest) = called_by_twin a.target (called_in (cells_of j) rest) ∙ ap (called_by (cells_of i) a.target) (called_in_twin rest)

  enables_at_twin : (at twin : At) (p : ℕ) → TwinAt MadeBeside at twin → enables_at twin p ≡ enables_at at p
  enables_at_twin at twin p none_there = refl
  enables_at_twin at twin p a_row_there = refl
  enables_at_twin at twin p (a_child_there below) = refl

  enables_primitive_twin : (p : PortRef) → enables_primitive (cells_of j) p ≡ enables_primitive (cells_of i) p
  enables_primitive_twin (ports.Cell c p) = enables_at_twin (cell_at (cells_of i) c) (cell_at (cells_of j) c) p (at_twin c)
  enables_primitive_twin (ports.Input n) = refl
  enables_primitive_twin (ports.Output n) = refl
  enables_primitive_twin (ports.Done g) = refl
  enables_primitive_twin (ports.Literal w v) = refl

  captures_in_twin : (list : List PlainAssign) → captures_in (cells_of j) list ≡ captures_in (cells_of i) list
  captures_in_twin [] = refl
  captures_in_twin (a ∷ rest) =
      ap (λ b. b || captures_in (cells_of j) rest) (enables_primitive_twin a.target) ∙ ap (λ b. enables_primitive (cells_of i) a.target || b) (captures_in_twin rest)

  module _ (held : Held) where
    abbrev h : MadeBeside i j
    h = beside_each MadeBeside i j t

    -- A TEST
    pub test_stays : (p : PortRef) (with_group : Option ℕ) (s : State) → IsIdle i j h (comb with_group) → IsAcyclic i (comb with_group) → test j held p with_group s ≡ test i held p with_group s
    test_stays p with_group s idle acyclic = ap (λ v. test_of p (truth_of v)) (seen_stays i j t held (comb with_group) s idle acyclic p)

    -- A GROUP THAT STAYS
    module _ (g : ℕ) (stays : group_at (part_of j) g ≡ group_at (part_of i) g) (there : g < length (part_of i).groups) where
      pub group_idle : IsIdle i j h (group g)
      group_idle k is = by (nat_eq g k) refl
        where
          by : (b : Bool) → nat_eq g k ≡ b → ◌≡◌ {A = Option ℕ} (if b then Some 0 else None) None
          by true e = absurd (not_promoted h.whole (part_of i) (part_of j) g stays (subst (IsPromoted h.whole (part_of i) (part_of j)) (sym (eqb-true g k e)) is))
          by false e = refl

      pub called_stays : called j g ≡ called i g
      called_stays = called_in_twin (group_at (part_of j) g).assigns ∙ ap (λ (x : PlainGroup). called_in (cells_of i) x.assigns) stays

      pub captures_stays : captures j g ≡ captures i g
      captures_stays = captures_in_twin (group_at (part_of j) g).assigns ∙ ap (λ (x : PlainGroup). captures_in (cells_of i) x.assigns) stays

      pub length_stays : group_length (part_of j) g ≡ group_length (part_of i) g
      length_stays = ap (λ (x : PlainGroup). kind_length x.kind) stays

      pub lift_carried : (child : Instance) (c : ℕ) (before k : Tally) (s z : State) (o x : Answer State Fault) → s ≡ z → Carried NoLater (SameSettled child) same_fault before k o x
          → Carried NoLater Same same_fault before k (lift_answer c s o) (lift_answer c z x)
      lift_carried child c before k s z (End own n) x e (twin, u, is, keeps, same) = (put c twin z, u, ap (lift_answer c z) is, keeps, ap (λ y. put c y s) same.0 ∙ ap (put c twin) e)
      lift_carried child c before k s z (answers.Fault f n) x e carried = tt
      lift_carried child c before k s z More x e carried = tt

      pub inputs_stay : (c : ℕ) (s : State) → inputs_of_call j held g c s ≡ inputs_of_call i held g c s
      inputs_stay c s = fun_ext (λ input. seen_stays i j t held (group g) s group_idle (h.groups g there) (ports.Cell c (suc input)))
