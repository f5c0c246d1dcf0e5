-- What is open fits in a statement: its groups, tests and arms are those of the statement, and arms are apart.
use Rattle.std.proofs.Common.{◌≡◌, ℕ, zero, suc, inl, inr, true, List, [], ◌∷◌, ◌++◌, Option, Some, None, refl, sym, ap, subst}
use Rattle.cx_text.proofs.MemberLaws.{in_left, in_right}
use Rattle.cx_text.specs.Members.{In}
use Rattle.cx_text.specs.declared.places.Place.{Place}
use Rattle.cx_meaning.specs.declared.ports.PortRef.{PortRef}
use Rattle.cx_meaning.specs.declared.kinds.GroupKind.{GroupKind}
use Rattle.cx_meaning.specs.declared.kinds.GroupKind.TheVariants as kinds
use Rattle.cx_meaning.specs.Designs.{PlainComponent, group_at, PlainForm, Empty, Enable, Seq, Par, If, While, Repeat, StaticSeq, StaticPar, StaticIf, StaticRepeat, Timed, PlainStatement, Placed, PlainStatements, no_statements, a_statement, list_of}
use Rattle.cx_meaning.specs.Instances.{Instance, Node, Cells, no_cells, a_primitive, an_instance, part_of, cells_of, Path, instance_at, child_at}
use Rattle.cx_meaning.specs.Sights.{unheld}
use Rattle.cx_meaning.specs.Control.{groups_in, groups_of, groups_in_all, drives}
use Rattle.cx_meaning.specs.Calls.{called}
use Rattle.cx_rules.specs.Items.{Dynamic, Visited, visit, visit_parts, visit_all}
use Rattle.cx_rules.specs.Footprints.{Reads}
use Rattle.cx_rules.specs.RaceRule.{IsShared, arms_of}
use Rattle.cx_frames.proofs.RunLemmas.{drives_group}
use Rattle.cx_frames.proofs.SightFrames.{InFrame}
use Rattle.cx_orders.specs.Open.{Open, Idling, InGroup, Choosing, Testing, InIsland, Capturing, Closing, Waiting, InSeq, InPar, InLoop, InRepeat, InCall, Opens, no_arms, an_arm, open_form, open_with, open_arms, open_called, open_kind, open_enable, open_control, open_below, open_statement}
use Rattle.cx_orders.proofs.Inside.{IsSound, Stands, inner_stands, Inside, InsideOne, InsideAll, inside_self, inside_left, inside_right, FormIn, test_inside, drives_inside, reads_inside, Apart, apart_first, apart_rest}
use Rattle.cx_meaning.proofs.InstancesLemmas.{here as here_again, nowhere}
use Rattle.cx_meaning.proofs.SightsLaws.{behind_comb, in_comb}
use Rattle.cx_laws.proofs.VisitLemmas.{itself, as_visited}
use Rattle.cx_frames.proofs.LeafFrames.{called_drives}

-- a test in the frame of a statement, with a comb group of it
pub record TestFits (i : Instance) (st : PlainStatement) (port : PortRef) (comb : Option ℕ) : Type 0 where
  pub inside : InFrame (Reads (part_of i) st) port
  pub group : (g : ℕ) → comb ≡ Some g → In (groups_of st) g

-- an arm of a par of a statement
pub record IsArm (i : Instance) (st arm : PlainStatement) : Type 0 where
  pub stands : Stands i arm
  pub reads : (c : ℕ) → Reads (part_of i) arm c → Reads (part_of i) st c
  pub drives : (c : ℕ) → drives (part_of i) arm c ≡ true → drives (part_of i) st c ≡ true

abbrev mutual
  pub Fits : Instance → PlainStatement → Open → Type 0
  Fits i st Idling = Unit {0}
  Fits i st (InGroup g) = In (groups_of st) g
  Fits i st (Choosing port comb a b) = TestFits i st port comb × InsideOne st a × InsideOne st b
  Fits i st (Testing port comb body) = TestFits i st port comb × InsideOne st body
  Fits i st (InIsland form t left h) = FormIn st form × Inside st (groups_in form) (visit_parts Dynamic form)
  Fits i st (Capturing g c) = In (groups_of st) g
  Fits i st (Closing g) = In (groups_of st) g
  Fits i st Waiting = Unit {0}
  Fits i st (InSeq first later) = Fits i st first × InsideAll st later
  Fits i st (InPar arms) = (first : PlainStatement) × (rest : List PlainStatement) × ArmsFit i st (first ∷ rest) arms
  Fits i st (InLoop run port comb body) = Fits i st run × TestFits i st port comb × InsideOne st body
  Fits i st (InRepeat run left body) = Fits i st run × InsideOne st body
  Fits i st (InCall g c inputs child) = In (groups_of st) g × (drives (part_of i) st c ≡ true) × Fits (instance_at i (c ∷ [])) (part_of (instance_at i (c ∷ []))).control child

  pub ArmsFit : Instance → PlainStatement → List PlainStatement → Opens → Type 0
  ArmsFit i st [] no_arms = Unit {0}
  ArmsFit i st [] (an_arm v arm arms) = ⊥
  ArmsFit i st (s ∷ ss) no_arms = ⊥
  ArmsFit i st (s ∷ ss) (an_arm v arm arms) = IsArm i st s × Fits i s arm × Apart (part_of i) s ss × ArmsFit i st ss arms

-- all instances below one, and itself
abbrev pub AllSound : Instance → Type 0
AllSound i = (path : Path) → IsSound (instance_at i path)

child_then : (cells : Cells) (c : ℕ) (path : Path) → instance_at (child_at cells c []) path ≡ child_at cells c path
child_then no_cells c path = nowhere path
child_then (a_primitive row rest) zero path = nowhere path
child_then (a_primitive row rest) (suc c) path = child_then rest c path
child_then (an_instance child rest) zero path = ap (λ x. instance_at x path) (here_again child)
child_then (an_instance child rest) (suc c) path = child_then rest c path

pub below_then : (i : Instance) (c : ℕ) (path : Path) → instance_at (instance_at i (c ∷ [])) path ≡ instance_at i (c ∷ path)
below_then (Node part cells) c path = child_then cells c path

pub sound_below : (i : Instance) → AllSound i → (c : ℕ) → AllSound (instance_at i (c ∷ []))
sound_below i all c path = subst IsSound (sym (below_then i c path)) (all (c ∷ path))

pub sound_here : (i : Instance) → AllSound i → IsSound i
sound_here i all = subst IsSound (here_again i) (all [])

-- the arms of a par of a statement stand, and are apart
arm_is : (i : Instance) (st : PlainStatement) → Stands i st → (s : PlainStatement) → InsideOne st s → IsArm i st s
arm_is i st stands s inside = record {
  stands = inner_stands i st stands (as_visited s) (inside.forms (as_visited s) (itself s));
  reads = reads_inside (part_of i) st s inside;
  drives = λ c e. drives_inside (part_of i) st (groups_of s) c inside.groups e;
}

module _ (i : Instance) (sound : IsSound i) (enable : ℕ → Open) (enabled : (st : PlainStatement) (g : ℕ) → In (groups_of st) g → FormIn st (Enable g) → Fits i st (enable g)) where
  pub none_shared : (st : PlainStatement) → Stands i st → (first : PlainStatement) (rest : PlainStatements) (w : Visited) → In (visit Dynamic st) w → w.form ≡ Par (a_statement first rest) → (c : ℕ) → IsShared (part_of i) (first ∷ list_of rest) c → ⊥
  none_shared st stands first rest w j e c shared = sound.apart w (inner_stands i st stands w j) c (subst (λ f. IsShared (part_of i) (arms_of f) c) (sym e) shared)

  mutual
    fits_form : (st : PlainStatement) → Stands i st → (form : PlainForm) → FormIn st form → Inside st (groups_in form) (visit_parts Dynamic form) → Fits i st (open_form (part_of i) enable form)
    fits_form st stands Empty here h = tt
    fits_form st stands (Enable g) here h = enabled st g (h.groups g (inl refl)) here
    fits_form st stands (Seq no_statements) here h = tt
    fits_form st stands (Seq (a_statement first rest)) here h = (
      fits_with st stands first (inside_left st (groups_of first) (groups_in_all rest) (visit Dynamic first) (visit_all Dynamic rest) h),
      inside_right st (groups_of first) (groups_in_all rest) (visit Dynamic first) (visit_all Dynamic rest) h,
    )
    fits_form st stands (Par no_statements) here h = tt
    fits_form st stands (Par (a_statement first rest)) (w, j, e) h =
        let none : (c : ℕ) → IsShared (part_of i) (first ∷ list_of rest) c → ⊥ = none_shared st stands first rest w j e in (
          first,
          list_of rest,
          (
            arm_is i st stands first (inside_left st (groups_of first) (groups_in_all rest) (visit Dynamic first) (visit_all Dynamic rest) h),
            fits_arm st stands first (inside_left st (groups_of first) (groups_in_all rest) (visit Dynamic first) (visit_all Dynamic rest) h),
            apart_first (part_of i) first (list_of rest) none,
            fits_arms st stands rest (inside_right st (groups_of first) (groups_in_all rest) (visit Dynamic first) (visit_all Dynamic rest) h) (apart_rest (part_of i) first (list_of rest) none),
          ),
        )
    fits_form st stands (If test comb a b) here h = (
      record { inside = test_inside i unheld sound st stands (If test comb a b) test here refl; group = λ g e. h.groups g (in_comb comb (groups_of a ++ groups_of b) g e) },
      record { groups = λ g j. h.groups g (behind_comb comb (groups_of a ++ groups_of b) g (in_left (groups_of a) (groups_of b) g j)); forms = λ v j. h.forms v (in_left (visit Dynamic a) (visit Dynamic b) v j) },
      record { groups = λ g j. h.groups g (behind_comb comb (groups_of a ++ groups_of b) g (in_right (groups_of a) (groups_of b) g j)); forms = λ v j. h.forms v (in_right (visit Dynamic a) (visit Dynamic b) v j) },
    )
    fits_form st stands (While test comb a) here h = (
      record { inside = test_inside i unheld sound st stands (While test comb a) test here refl; group = λ g e. h.groups g (in_comb comb (groups_of a) g e) },
      record { groups = λ g j. h.groups g (behind_comb comb (groups_of a) g j); forms = h.forms },
    )
    fits_form st stands (Repeat zero a) here h = tt
    fits_form st stands (Repeat (suc k) a) here h = (fits_with st stands a (record { groups = h.groups; forms = h.forms }), record { groups = h.groups; forms = h.forms })
    fits_form st stands (StaticSeq length parts) here h = (here, h)
    fits_form st stands (StaticPar length arms) here h = (here, h)
    fits_form st stands (StaticIf length test a b) here h = (here, h)
    fits_form st stands (StaticRepeat length count a) here h = (here, h)
    fits_form st stands (Timed k) here h = tt

    pub fits_with : (st : PlainStatement) → Stands i st → (a : PlainStatement) → InsideOne st a → Fits i st (open_with (part_of i) enable a)
    fits_with st stands (Placed form place) h =
        fits_form st stands form (record { context = Dynamic; form = form; place = place }, h.forms _ (inl refl), refl) (record { groups = h.groups; forms = λ v j. h.forms v (inr j) })

    -- an arm fits in itself
    fits_arm : (st : PlainStatement) → Stands i st → (a : PlainStatement) → InsideOne st a → Fits i a (open_with (part_of i) enable a)
    fits_arm st stands (Placed form place) h =
        fits_form (Placed form place) (inner_stands i st stands _ (h.forms _ (inl refl))) form (record { context = Dynamic; form = form; place = place }, inl refl, refl) (record { groups = λ g j. j; forms = λ v j. inr j })

    pub fits_arms : (st : PlainStatement) → Stands i st → (arms : PlainStatements) → InsideAll st arms → ((c : ℕ) → IsShared (part_of i) (list_of arms) c → ⊥) → ArmsFit i st (list_of arms) (open_arms (part_of i) enable arms)
    fits_arms st stands no_statements h none = tt
    fits_arms st stands (a_statement first rest) h none = (
      arm_is i st stands first (inside_left st (groups_of first) (groups_in_all rest) (visit Dynamic first) (visit_all Dynamic rest) h),
      fits_arm st stands first (inside_left st (groups_of first) (groups_in_all rest) (visit Dynamic first) (visit_all Dynamic rest) h),
      apart_first (part_of i) first (list_of rest) none,
      fits_arms st stands rest (inside_right st (groups_of first) (groups_in_all rest) (visit Dynamic first) (visit_all Dynamic rest) h) (apart_rest (part_of i) first (list_of rest) none),
    )

-- the control of a child fits in itself
module _ (i : Instance) (fits_child : (c : ℕ) → Fits (instance_at i (c ∷ [])) (part_of (instance_at i (c ∷ []))).control (open_below (cells_of i) c)) where
  called_fits : (st : PlainStatement) (g : ℕ) → In (groups_of st) g → FormIn st (Enable g) → (o : Option ℕ) → called i g ≡ o → Fits i st (open_called (open_below (cells_of i)) g o)
  called_fits st g j here None e = j
  called_fits st g j here (Some c) e = (j, drives_group (part_of i) st g c j (called_drives (cells_of i) (group_at (part_of i) g).assigns c e), fits_child c)

  kind_fits : (st : PlainStatement) (g : ℕ) → In (groups_of st) g → FormIn st (Enable g) → (kind : GroupKind) → Fits i st (open_kind i (open_below (cells_of i)) g kind)
  kind_fits st g j here kinds.Plain = called_fits st g j here (called i g) refl
  kind_fits st g j here kinds.Comb = called_fits st g j here (called i g) refl
  kind_fits st g j here (kinds.Timed length) = (here, record { groups = λ h k. one h k; forms = λ v none. absurd none })
    where
      one : (h : ℕ) → In (g ∷ []) h → In (groups_of st) h
      one h (inl e) = subst (λ x. In (groups_of st) x) e j
      one h (inr none) = absurd none

  pub enable_fits : (st : PlainStatement) (g : ℕ) → In (groups_of st) g → FormIn st (Enable g) → Fits i st (open_enable i (open_below (cells_of i)) g)
  enable_fits st g j here = kind_fits st g j here (group_at (part_of i) g).kind

mutual
  pub control_fits : (i : Instance) → AllSound i → Fits i (part_of i).control (open_control i)
  control_fits (Node part cells) all =
      fits_with (Node part cells) (all []) (open_enable (Node part cells) (open_below cells)) (enable_fits (Node part cells) (λ c. below_fits cells (λ k path. all (k ∷ path)) c))
      part.control (itself part.control) part.control (inside_self part.control)

  pub below_fits : (cells : Cells) → ((c : ℕ) (path : Path) → IsSound (child_at cells c path)) → (c : ℕ) → Fits (child_at cells c []) (part_of (child_at cells c [])).control (open_below cells c)
  below_fits no_cells all c = tt
  below_fits (a_primitive row rest) all zero = tt
  below_fits (a_primitive row rest) all (suc c) = below_fits rest (λ k path. all (suc k) path) c
  below_fits (an_instance child rest) all zero = subst (λ x. Fits x (part_of x).control (open_control child)) (sym (here_again child)) (control_fits child (λ path. all zero path))
  below_fits (an_instance child rest) all (suc c) = below_fits rest (λ k path. all (suc k) path) c

-- a statement inside another one fits in it
pub statement_fits : (i : Instance) → AllSound i → (st : PlainStatement) → Stands i st → (a : PlainStatement) → InsideOne st a → Fits i st (open_statement i a)
statement_fits (Node part cells) all st stands a inside =
    fits_with (Node part cells) (all []) (open_enable (Node part cells) (open_below cells)) (enable_fits (Node part cells) (λ c. below_fits cells (λ k path. all (k ∷ path)) c)) st stands a inside

-- the arms of a par inside a statement, by their own list
pub par_arms_fit : (part : PlainComponent) (cells : Cells) → AllSound (Node part cells) → (st : PlainStatement) → Stands (Node part cells) st → (first : PlainStatement) (rest : PlainStatements) (place : Place) → InsideOne st (Placed (Par (a_statement first rest)) place)
    → ArmsFit (Node part cells) st (first ∷ list_of rest) (open_arms part (open_enable (Node part cells) (open_below cells)) (a_statement first rest))
par_arms_fit part cells all st stands first rest place h =
    fits_arms (Node part cells) (all []) (open_enable (Node part cells) (open_below cells)) (enable_fits (Node part cells) (λ c. below_fits cells (λ k path. all (k ∷ path)) c)) st stands
    (a_statement first rest) (record { groups = h.groups; forms = λ v j. h.forms v (inr j) })
    (none_shared (Node part cells) (all []) (open_enable (Node part cells) (open_below cells)) (enable_fits (Node part cells) (λ c. below_fits cells (λ k path. all (k ∷ path)) c)) st stands first rest
    (record { context = Dynamic; form = Par (a_statement first rest); place = place }) (h.forms _ (inl refl)) refl)
