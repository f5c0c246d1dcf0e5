-- The ports of a call in values that solve the equations: the go of the cell is 1 while it is not done, and the hole of the group is 1
-- exactly where the dones are that the form of the call wants.
use Rattle.std.proofs.Common.{◌≡◌, ℕ, inl, inr, ◌⊎◌, Bool, true, false, ◌&&◌, ◌||◌, not, if◌then◌else◌, List, [], ◌∷◌, Some, None, refl, sym, ap, ap₂, ◌∙◌, subst}
use Rattle.std.specs.Prelude.{map}
use Rattle.std.proofs.lemmas.Bool.{eq-eqb}
use Rattle.cx_text.specs.Members.{In}
use Rattle.cx_bits.specs.BitVector.{BitVector}
use Rattle.cx_prim.specs.Rows.{Row, is_enable_side}
use Rattle.cx_meaning.specs.declared.ports.PortRef.{PortRef}
use Rattle.cx_meaning.specs.declared.ports.PortRef.TheVariants as ports
use Rattle.cx_meaning.specs.declared.sights.Seen.TheVariants.{Value}
use Rattle.cx_meaning.specs.Designs.{PlainGuard, Always, Atom, Negation, All, Any, Compared, Within, PlainGuards, no_guards, a_guard, PlainAssign, group_at}
use Rattle.cx_meaning.specs.Rows.{side_of}
use Rattle.cx_meaning.specs.Instances.{Instance, OfRow, cell_at, cells_of, part_of}
use Rattle.cx_meaning.specs.Active.{Active, Owned, Acting, group, same_port, offset_of, source_order, drivers}
use Rattle.cx_meaning.specs.Truths.{One, Zero, truth_of, truth_of_bit, not_truth, and_truth, or_truth}
use Rattle.cx_meaning.specs.Sights.{Look, guard_truth, all_truth, any_truth}
use Rattle.cx_rules.specs.CallShape.{go_port, done_port, register_done, one, is_atom, is_always, is_negated, is_right_go, is_right_enable, is_register_enable, with_target, captured, wanted_dones, conjuncts, are_dones, is_right_done_assign, is_right_done}
use Rattle.cx_rules.proofs.FoundLemmas.{same_is}
use Rattle.cx_control.specs.Flows.{Values, zero_of, is_set, guard_on, all_on, any_on, first_on}
use Rattle.cx_net.specs.NetMeaning.{truth_bit}
use Rattle.cx_control.specs.CallRules.{CallForm}
use Rattle.cx_control.proofs.ConjunctLemmas.{AreOnce, conjuncts_hold, conjunction_holds, wanted_are_in, wanted_are_all}
use Rattle.cx_control.proofs.TargetLemmas.{in_filter, of_filter, group_acts, ActsAlone, acts_alone}
use Rattle.cx_control.proofs.RegisterLemmas.{dones_once}
use Rattle.cx_text.proofs.BoolLaws.{and_both, or_either}
use Rattle.cx_meaning.proofs.ActiveLemmas.{only_self}
use Rattle.cx_text.proofs.NumberLaws.{false_true, true_false}
use Rattle.cx_rules.proofs.FrameLemmas.{acting_alike}

one_bit : (b : Bool) → truth_of_bit b ≡ One → b ≡ true
one_bit true e = refl
one_bit false e = absurd cc

always_on : (v : Values) (at : ℕ) (g : PlainGuard) → is_always g ≡ true → guard_on v at g ≡ true
always_on v at Always e = refl
always_on v at (Atom p) e = absurd (false_true e)
always_on v at (Negation g) e = absurd (false_true e)
always_on v at (All gs) e = absurd (false_true e)
always_on v at (Any gs) e = absurd (false_true e)
always_on v at (Compared c a b) e = absurd (false_true e)
always_on v at (Within from to) e = absurd (false_true e)

atom_on : (v : Values) (at : ℕ) (port : PortRef) (g : PlainGuard) → is_atom port g ≡ true → guard_on v at g ≡ is_set (v port)
atom_on v at port Always e = absurd (false_true e)
atom_on v at port (Atom p) e = ap (λ x. is_set (v x)) (same_is p.port port e)
atom_on v at port (Negation g) e = absurd (false_true e)
atom_on v at port (All gs) e = absurd (false_true e)
atom_on v at port (Any gs) e = absurd (false_true e)
atom_on v at port (Compared c a b) e = absurd (false_true e)
atom_on v at port (Within from to) e = absurd (false_true e)

negated_on : (v : Values) (at : ℕ) (port : PortRef) (g : PlainGuard) → is_negated port g ≡ true → guard_on v at g ≡ not (is_set (v port))
negated_on v at port Always e = absurd (false_true e)
negated_on v at port (Atom p) e = absurd (false_true e)
negated_on v at port (Negation g) e = ap not (atom_on v at port g e)
negated_on v at port (All gs) e = absurd (false_true e)
negated_on v at port (Any gs) e = absurd (false_true e)
negated_on v at port (Compared c a b) e = absurd (false_true e)
negated_on v at port (Within from to) e = absurd (false_true e)

-- VALUES AS A LOOK
abbrev looked : Values → Look
looked v p = Value (v p)

not_bit : (b : Bool) → not_truth (truth_of_bit b) ≡ truth_of_bit (not b)
not_bit true = refl
not_bit false = refl

and_bits : (a b : Bool) → and_truth (truth_of_bit a) (truth_of_bit b) ≡ truth_of_bit (a && b)
and_bits true b = refl
and_bits false b = refl

or_bits : (a b : Bool) → or_truth (truth_of_bit a) (truth_of_bit b) ≡ truth_of_bit (a || b)
or_bits true b = refl
or_bits false b = or_zero b
  where
    or_zero : (b : Bool) → or_truth Zero (truth_of_bit b) ≡ truth_of_bit b
    or_zero true = refl
    or_zero false = refl

mutual
  guard_says : (v : Values) (at : ℕ) (g : PlainGuard) → guard_truth (looked v) at g ≡ truth_of_bit (guard_on v at g)
  guard_says v at Always = refl
  guard_says v at (Atom p) = refl
  guard_says v at (Negation g) = ap not_truth (guard_says v at g) ∙ not_bit (guard_on v at g)
  guard_says v at (All gs) = all_says v at gs
  guard_says v at (Any gs) = any_says v at gs
  guard_says v at (Compared c a b) = refl
  guard_says v at (Within from to) = refl

  all_says : (v : Values) (at : ℕ) (gs : PlainGuards) → all_truth (looked v) at gs ≡ truth_of_bit (all_on v at gs)
  all_says v at no_guards = refl
  all_says v at (a_guard g gs) = ap₂ and_truth (guard_says v at g) (all_says v at gs) ∙ and_bits (guard_on v at g) (all_on v at gs)

  any_says : (v : Values) (at : ℕ) (gs : PlainGuards) → any_truth (looked v) at gs ≡ truth_of_bit (any_on v at gs)
  any_says v at no_guards = refl
  any_says v at (a_guard g gs) = ap₂ or_truth (guard_says v at g) (any_says v at gs) ∙ or_bits (guard_on v at g) (any_on v at gs)

-- WHAT IS FIRST ON: it is 1 only where a source is whose guard is
record OnFrom (v : Values) (acts : List Acting) : Type 0 where
  from : Acting
  acts_so : In acts from
  guard : guard_on v from.offset from.assign.guard ≡ true
  source : is_set (v from.assign.source.port) ≡ true

first_set : (v : Values) (z : BitVector) (acts : List Acting) → is_set z ≡ false → is_set (first_on v z acts) ≡ true → OnFrom v acts
first_set v z [] e f = absurd (true_false (sym f ∙ e))
first_set v z (a ∷ rest) e f = by (guard_on v a.offset a.assign.guard) refl f (first_set v z rest e)
  where
    by : (b : Bool) → guard_on v a.offset a.assign.guard ≡ b → is_set (if b then v a.assign.source.port else first_on v z rest) ≡ true → (is_set (first_on v z rest) ≡ true → OnFrom v rest) → OnFrom v (a ∷ rest)
    by true g h later = record { from = a; acts_so = inl refl; guard = g; source = h }
    by false g h later = let k = later h in record { from = k.from; acts_so = inr k.acts_so; guard = k.guard; source = k.source }

-- and 0 where no source is whose guard is 1
all_low : (v : Values) (z : BitVector) (acts : List Acting) → z.value ≡ 0 → ((x : Acting) → In acts x → (guard_on v x.offset x.assign.guard ≡ false) ⊎ ((v x.assign.source.port).value ≡ 0)) → (first_on v z acts).value ≡ 0
all_low v z [] low each = low
all_low v z (a ∷ rest) low each = by (guard_on v a.offset a.assign.guard) refl (each a (inl refl)) (all_low v z rest low (λ x j. each x (inr j)))
  where
    by : (b : Bool) → guard_on v a.offset a.assign.guard ≡ b → (guard_on v a.offset a.assign.guard ≡ false) ⊎ ((v a.assign.source.port).value ≡ 0) → (first_on v z rest).value ≡ 0
        → (if b then v a.assign.source.port else first_on v z rest).value ≡ 0
    by false e k later = later
    by true e (inl off) later = absurd (true_false (sym e ∙ off))
    by true e (inr zero_so) later = zero_so

wanted_once : (rs : List ℕ) (done : PortRef) → AreOnce (map register_done rs) → AreOnce (wanted_dones done rs)
wanted_once [] done once = ((λ i. i), tt)
wanted_once (r ∷ rs) done once = once

module _ (i : Instance) (g c : ℕ) (form : CallForm i g c) (v : Values) (own_hole : (o : Owned) → In (source_order (part_of i)) o → o.owner ≡ None → o.assign.target ≡ ports.Done g → ⊥)
    (one_is : v (ports.Literal 1 1) ≡ truth_bit true) where
  abbrev assigns : List PlainAssign
  assigns = (group_at (part_of i) g).assigns

  abbrev pub wanted_now : List PortRef
  wanted_now = wanted_dones (done_port c form.child) (captured (part_of i) (group_at (part_of i) g).assigns)

  -- THE HOLE
  module _ (hole_is : v (ports.Done g) ≡ first_on v (zero_of (Some 1)) (drivers (part_of i) (group g) (ports.Done g))) where
    record TheDone : Type 0 where
      assign : PlainAssign
      alone : with_target (ports.Done g) (group_at (part_of i) g).assigns ≡ assign ∷ []
      right : is_right_done_assign (wanted_dones (done_port c form.child) (captured (part_of i) (group_at (part_of i) g).assigns)) assign ≡ true

    the_done : TheDone
    the_done = of_list (with_target (ports.Done g) assigns) refl form.right_done
      where
        of_list : (l : List PlainAssign) → with_target (ports.Done g) assigns ≡ l → is_right_done (wanted_dones (done_port c form.child) (captured (part_of i) (group_at (part_of i) g).assigns)) l ≡ true → TheDone
        of_list [] e f = absurd (false_true f)
        of_list (a ∷ []) e f = record { assign = a; alone = e; right = f }
        of_list (a ∷ b ∷ rest) e f = absurd (false_true f)

    once : AreOnce wanted_now
    once = wanted_once (captured (part_of i) assigns) (done_port c form.child) (dones_once assigns (part_of i).cells 0)

    stands : In assigns (TheDone.assign the_done) × (same_port (TheDone.assign the_done).target (ports.Done g) ≡ true)
    stands = of_filter (ports.Done g) assigns (TheDone.assign the_done) (subst (λ l. In l (TheDone.assign the_done)) (sym (TheDone.alone the_done)) (inl refl))

    acts : ActsAlone (part_of i) g (group g) (λ h. refl) (ports.Done g) own_hole (TheDone.assign the_done)
    acts = acts_alone (part_of i) g (group g) (λ h. refl) (ports.Done g) own_hole (TheDone.assign the_done) (TheDone.alone the_done) stands.0 stands.1 (only_self g)

    either : ((is_always (TheDone.assign the_done).guard && are_dones wanted_now (Some ((TheDone.assign the_done).source.port ∷ []))) ≡ true)
        ⊎ ((same_port (TheDone.assign the_done).source.port one && are_dones wanted_now (conjuncts (TheDone.assign the_done).guard)) ≡ true)
    either = or_either _ _ (TheDone.right the_done)

    -- where it is 1 all dones that are wanted are
    pub hole_wants : is_set (v (ports.Done g)) ≡ true → (w : PortRef) → In wanted_now w → is_set (v w) ≡ true
    hole_wants is w j = of_right either
      where
        on : OnFrom v (drivers (part_of i) (group g) (ports.Done g))
        on = first_set v (zero_of (Some 1)) (drivers (part_of i) (group g) (ports.Done g)) refl (sym (ap is_set hole_is) ∙ is)

        same : (OnFrom.from on).assign ≡ TheDone.assign the_done
        same = ActsAlone.all acts (OnFrom.from on) (OnFrom.acts_so on)

        of_conjuncts : (o : _) → conjuncts (TheDone.assign the_done).guard ≡ o → are_dones wanted_now o ≡ true → is_set (v w) ≡ true
        of_conjuncts None e f = absurd (false_true f)
        of_conjuncts (Some ps) e f =
            one_bit (is_set (v w))
            (conjuncts_hold (looked v) (OnFrom.from on).offset (TheDone.assign the_done).guard ps e
            (guard_says v (OnFrom.from on).offset (TheDone.assign the_done).guard ∙ ap truth_of_bit (sym (ap (λ (a : PlainAssign). guard_on v (OnFrom.from on).offset a.guard) same) ∙ OnFrom.guard on)) w (wanted_are_in wanted_now ps f w j))

        of_right : ((is_always (TheDone.assign the_done).guard && are_dones wanted_now (Some ((TheDone.assign the_done).source.port ∷ []))) ≡ true)
            ⊎ ((same_port (TheDone.assign the_done).source.port one && are_dones wanted_now (conjuncts (TheDone.assign the_done).guard)) ≡ true)
            → is_set (v w) ≡ true
        of_right (inl e) = of_source (wanted_are_in wanted_now ((TheDone.assign the_done).source.port ∷ []) (and_both (is_always (TheDone.assign the_done).guard) (are_dones wanted_now (Some ((TheDone.assign the_done).source.port ∷ []))) e).1 w j)
          where
            of_source : In ((TheDone.assign the_done).source.port ∷ []) w → is_set (v w) ≡ true
            of_source (inl f) = ap (λ p. is_set (v p)) (sym f) ∙ sym (ap (λ (a : PlainAssign). is_set (v a.source.port)) same) ∙ OnFrom.source on
            of_source (inr none) = absurd none
        of_right (inr e) = of_conjuncts (conjuncts (TheDone.assign the_done).guard) refl (and_both (same_port (TheDone.assign the_done).source.port one) (are_dones wanted_now (conjuncts (TheDone.assign the_done).guard)) e).1

    -- and where they all are it is
    pub wants_hole : ((w : PortRef) → In wanted_now w → v w ≡ truth_bit true) → v (ports.Done g) ≡ truth_bit true
    wants_hole each = hole_is ∙ ap (first_on v (zero_of (Some 1))) (ActsAlone.are acts) ∙ first_one (guard_now either) ∙ ap (λ (a : PlainAssign). v a.source.port) first_is ∙ source_now either
      where
        first_is : (ActsAlone.first acts).assign ≡ TheDone.assign the_done
        first_is = ActsAlone.all acts (ActsAlone.first acts) (subst (λ l. In l (ActsAlone.first acts)) (sym (ActsAlone.are acts)) (inl refl))

        first_one : guard_on v (ActsAlone.first acts).offset (ActsAlone.first acts).assign.guard ≡ true → first_on v (zero_of (Some 1)) (ActsAlone.first acts ∷ ActsAlone.rest acts) ≡ v (ActsAlone.first acts).assign.source.port
        first_one e = ap (λ b. if b then v (ActsAlone.first acts).assign.source.port else first_on v (zero_of (Some 1)) (ActsAlone.rest acts)) e

        of_conjuncts : (o : _) → conjuncts (TheDone.assign the_done).guard ≡ o → are_dones wanted_now o ≡ true → guard_on v (ActsAlone.first acts).offset (TheDone.assign the_done).guard ≡ true
        of_conjuncts None e f = absurd (false_true f)
        of_conjuncts (Some ps) e f =
            one_bit (guard_on v (ActsAlone.first acts).offset (TheDone.assign the_done).guard)
            (sym (guard_says v (ActsAlone.first acts).offset (TheDone.assign the_done).guard)
            ∙ conjunction_holds (looked v) (ActsAlone.first acts).offset (TheDone.assign the_done).guard ps e (λ p k. ap (λ b. truth_of (Value b)) (each p (wanted_are_all wanted_now ps once f p k))))

        guard_now : ((is_always (TheDone.assign the_done).guard && are_dones wanted_now (Some ((TheDone.assign the_done).source.port ∷ []))) ≡ true)
            ⊎ ((same_port (TheDone.assign the_done).source.port one && are_dones wanted_now (conjuncts (TheDone.assign the_done).guard)) ≡ true)
            → guard_on v (ActsAlone.first acts).offset (ActsAlone.first acts).assign.guard ≡ true
        guard_now (inl e) =
            ap (λ (a : PlainAssign). guard_on v (ActsAlone.first acts).offset a.guard) first_is
            ∙ always_on v (ActsAlone.first acts).offset (TheDone.assign the_done).guard (and_both (is_always (TheDone.assign the_done).guard) (are_dones wanted_now (Some ((TheDone.assign the_done).source.port ∷ []))) e).0
        guard_now (inr e) =
            ap (λ (a : PlainAssign). guard_on v (ActsAlone.first acts).offset a.guard) first_is
            ∙ of_conjuncts (conjuncts (TheDone.assign the_done).guard) refl (and_both (same_port (TheDone.assign the_done).source.port one) (are_dones wanted_now (conjuncts (TheDone.assign the_done).guard)) e).1

        source_now : ((is_always (TheDone.assign the_done).guard && are_dones wanted_now (Some ((TheDone.assign the_done).source.port ∷ []))) ≡ true)
            ⊎ ((same_port (TheDone.assign the_done).source.port one && are_dones wanted_now (conjuncts (TheDone.assign the_done).guard)) ≡ true)
            → v (TheDone.assign the_done).source.port ≡ truth_bit true
        source_now (inl e) =
            each (TheDone.assign the_done).source.port
            (wanted_are_all wanted_now ((TheDone.assign the_done).source.port ∷ []) once (and_both (is_always (TheDone.assign the_done).guard) (are_dones wanted_now (Some ((TheDone.assign the_done).source.port ∷ []))) e).1 (TheDone.assign the_done).source.port (inl refl))
        source_now (inr e) = ap v (same_is (TheDone.assign the_done).source.port one (and_both (same_port (TheDone.assign the_done).source.port one) (are_dones wanted_now (conjuncts (TheDone.assign the_done).guard)) e).0) ∙ one_is

  -- THE GO, where the group goes and no other drives it
  pub go_is_one : (act : Active) (z : BitVector) → ((o : Owned) → In (source_order (part_of i)) o → o.assign.target ≡ ports.Cell c 0 → offset_of act o.owner ≡ offset_of (group g) o.owner)
      → v (ports.Cell c 0) ≡ first_on v z (drivers (part_of i) act (ports.Cell c 0)) → is_set (v (done_port c form.child)) ≡ false → v (ports.Cell c 0) ≡ truth_bit true
  go_is_one act z same go_is none = of_list (with_target (go_port c) assigns) refl form.right_go
    where
      of_list : (l : List PlainAssign) → with_target (go_port c) assigns ≡ l → is_right_go (done_port c form.child) l ≡ true → v (ports.Cell c 0) ≡ truth_bit true
      of_list [] e f = absurd (false_true f)
      of_list (a ∷ b ∷ rest) e f = absurd (false_true f)
      of_list (a ∷ []) e f = go_is ∙ ap (first_on v z) (acting_alike act (group g) (ports.Cell c 0) (source_order (part_of i)) same ∙ ActsAlone.are acts_go) ∙ first_one ∙ source_now
        where
          stands_go : In assigns a × (same_port a.target (go_port c) ≡ true)
          stands_go = of_filter (go_port c) assigns a (subst (λ l. In l a) (sym e) (inl refl))

          acts_go : ActsAlone (part_of i) g (group g) (λ h. refl) (ports.Cell c 0) (λ o j owner target. form.no_bare o 0 j owner target) a
          acts_go = acts_alone (part_of i) g (group g) (λ h. refl) (ports.Cell c 0) (λ o j owner target. form.no_bare o 0 j owner target) a e stands_go.0 stands_go.1 (only_self g)

          first_is : (ActsAlone.first acts_go).assign ≡ a
          first_is = ActsAlone.all acts_go (ActsAlone.first acts_go) (subst (λ l. In l (ActsAlone.first acts_go)) (sym (ActsAlone.are acts_go)) (inl refl))

          on : (at : ℕ) → (is_always a.guard ≡ true) ⊎ (is_negated (done_port c form.child) a.guard ≡ true) → guard_on v at a.guard ≡ true
          on at (inl k) = always_on v at a.guard k
          on at (inr k) = negated_on v at (done_port c form.child) a.guard k ∙ ap not none

          both : (same_port a.source.port one ≡ true) × ((is_always a.guard || is_negated (done_port c form.child) a.guard) ≡ true)
          both = and_both (same_port a.source.port one) (is_always a.guard || is_negated (done_port c form.child) a.guard) f

          first_one : first_on v z (ActsAlone.first acts_go ∷ ActsAlone.rest acts_go) ≡ v (ActsAlone.first acts_go).assign.source.port
          first_one =
              ap (λ b. if b then v (ActsAlone.first acts_go).assign.source.port else first_on v z (ActsAlone.rest acts_go))
              (ap (λ (x : PlainAssign). guard_on v (ActsAlone.first acts_go).offset x.guard) first_is ∙ on (ActsAlone.first acts_go).offset (or_either (is_always a.guard) (is_negated (done_port c form.child) a.guard) both.1))

          source_now : v (ActsAlone.first acts_go).assign.source.port ≡ truth_bit true
          source_now = ap (λ (x : PlainAssign). v x.source.port) first_is ∙ ap v (same_is a.source.port one both.0) ∙ one_is

  -- THE ENABLES, while the cell is not done
  low_source : (a : PlainAssign) (at : ℕ) → v (done_port c form.child) ≡ truth_bit false
      → ((same_port a.source.port (done_port c form.child) && is_always a.guard) || (same_port a.source.port one && is_atom (done_port c form.child) a.guard)) ≡ true
      → (guard_on v at a.guard ≡ false) ⊎ ((v a.source.port).value ≡ 0)
  low_source a at none e = of_right (or_either (same_port a.source.port (done_port c form.child) && is_always a.guard) (same_port a.source.port one && is_atom (done_port c form.child) a.guard) e)
    where
      of_right : ((same_port a.source.port (done_port c form.child) && is_always a.guard) ≡ true) ⊎ ((same_port a.source.port one && is_atom (done_port c form.child) a.guard) ≡ true) → (guard_on v at a.guard ≡ false) ⊎ ((v a.source.port).value ≡ 0)
      of_right (inl k) =
          inr (ap (λ p. (v p).value) (same_is a.source.port (done_port c form.child) (and_both (same_port a.source.port (done_port c form.child)) (is_always a.guard) k).0) ∙ ap (λ (b : BitVector). b.value) none)
      of_right (inr k) = inl (atom_on v at (done_port c form.child) a.guard (and_both (same_port a.source.port one) (is_atom (done_port c form.child) a.guard) k).1 ∙ ap is_set none)

  pub call_enables_none : (act : Active) (z : BitVector) (r q : ℕ) (row : Row) → ((o : Owned) → In (source_order (part_of i)) o → o.assign.target ≡ ports.Cell r q → offset_of act o.owner ≡ offset_of (group g) o.owner)
      → ((o : Owned) → In (source_order (part_of i)) o → o.owner ≡ None → o.assign.target ≡ ports.Cell r q → ⊥) → cell_at (cells_of i) r ≡ OfRow row → is_enable_side (side_of row q) ≡ true
      → v (ports.Cell r q) ≡ first_on v z (drivers (part_of i) act (ports.Cell r q)) → z.value ≡ 0 → v (done_port c form.child) ≡ truth_bit false → (v (ports.Cell r q)).value ≡ 0
  call_enables_none act z r q row same bare at enables value low none =
      ap (λ (b : BitVector). b.value) (value ∙ ap (first_on v z) (acting_alike act (group g) (ports.Cell r q) (source_order (part_of i)) same))
      ∙ all_low v z (drivers (part_of i) (group g) (ports.Cell r q)) low (λ x j. one_low x (group_acts (part_of i) g (group g) (λ h. refl) (ports.Cell r q) bare x j))
    where
      of_list : (x : Acting) (l : List PlainAssign) → In l x.assign → is_right_enable (done_port c form.child) l ≡ true → (guard_on v x.offset x.assign.guard ≡ false) ⊎ ((v x.assign.source.port).value ≡ 0)
      of_list x [] j e = absurd j
      of_list x (a ∷ []) (inl f) e = subst (λ (y : PlainAssign). (guard_on v x.offset y.guard ≡ false) ⊎ ((v y.source.port).value ≡ 0)) f (low_source a x.offset none e)
      of_list x (a ∷ []) (inr j) e = absurd j
      of_list x (a ∷ b ∷ rest) j e = absurd (false_true e)

      itself : (a : PlainAssign) → a.target ≡ ports.Cell r q → same_port a.target a.target ≡ true
      itself a e = ap (λ p. same_port p p) e ∙ ap₂ (λ x y. x && y) (eq-eqb r r refl) (eq-eqb q q refl)

      one_low : (x : Acting) → In (group_at (part_of i) g).assigns x.assign × (x.assign.target ≡ ports.Cell r q) → (guard_on v x.offset x.assign.guard ≡ false) ⊎ ((v x.assign.source.port).value ≡ 0)
      one_low x k =
          of_list x (with_target x.assign.target (group_at (part_of i) g).assigns) (in_filter x.assign.target (group_at (part_of i) g).assigns x.assign k.0 (itself x.assign k.1))
          (and_both (is_register_enable (part_of i) x.assign.target) (is_right_enable (done_port c form.child) (with_target x.assign.target (group_at (part_of i) g).assigns)) (form.right_enable x.assign k.0 r q row k.1 at enables)).1
