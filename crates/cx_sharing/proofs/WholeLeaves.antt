-- THE LEAVES OF CONTROL, with static invokes: calls, the enable of a group, and what arms drive.
use Rattle.std.proofs.Common.{◌≡◌, ℕ, suc, inl, Bool, true, false, ◌||◌, Option, Some, None, List, [], ◌∷◌, option_map, refl, sym, ap, ap₂, ◌∙◌, subst}
use Rattle.std.proofs.Math.Path.{fun_ext}
use Rattle.cx_text.specs.Members.{In}
use Rattle.cx_meaning.specs.declared.kinds.GroupKind.{GroupKind}
use Rattle.cx_meaning.specs.declared.kinds.GroupKind.TheVariants as kinds
use Rattle.cx_meaning.specs.declared.ports.PortRef.TheVariants as ports
use Rattle.cx_meaning.specs.Designs.{PlainGroup, PlainInvoke, PlainComponent, group_at, Enable, PlainStatement}
use Rattle.cx_meaning.specs.Instances.{Instance, OfInstance, part_of, cells_of, cell_at, State, under, put, idle}
use Rattle.cx_meaning.specs.Active.{group, capture}
use Rattle.cx_meaning.specs.Sights.{Held}
use Rattle.cx_meaning.specs.Cycles.{Fault}
use Rattle.cx_meaning.specs.Answers.{Answer, End, More, idle_turn}
use Rattle.cx_meaning.specs.Answers as answers
use Rattle.cx_meaning.specs.Control.{groups_drive}
use Rattle.cx_meaning.specs.Islands.{turn_of}
use Rattle.cx_meaning.specs.Calls.{called, captures, lift_answer, inputs_of_call}
use Rattle.cx_meaning.specs.Running.{Children}
use Rattle.cx_meaning.proofs.ControlLemmas.{called_child}
use Rattle.cx_frames.proofs.CircleFrames.{capture_acyclic}
use Rattle.cx_rules.specs.Circles.{AreAcyclic}
use Rattle.cx_rules.specs.Invokes.{invoke_at, invokes_of, captures_of, is_cell_of, invokes_cell, drives_all}
use Rattle.cx_rules.specs.Items.{Visited, statements_in}
use Rattle.cx_rules.specs.Wellformed.{IsForm}
use Rattle.cx_rewrites.specs.Moving.{moved_statement}
use Rattle.cx_rewrites.specs.Renaming.{renamed}
use Rattle.cx_rewrites.specs.Tallies.{Tally, none, plus, then_count, one_count}
use Rattle.cx_rewrites.specs.Carrying.{Exact, TurnCarried, Carried, Carries}
use Rattle.cx_rewrites.proofs.CarryLemmas.{then_carried, idle_carries, one_carries}
use Rattle.cx_rewrites.proofs.MovedInvokes.{invokes_of-moved}
use Rattle.cx_flattening.specs.Controlled.{AllControlled}
use Rattle.cx_flattening.specs.Whole.{whole_cycle, after_child, call, call_or_turns, enable_kind, enable}
use Rattle.cx_flattening.proofs.DeedsApart.{Stands}
use Rattle.cx_flattening.proofs.Ruled.{AllRuled}
use Rattle.cx_sharing.specs.Uses.{group_uses, is_candidate}
use Rattle.cx_sharing.specs.Giving.{new_cell}
use Rattle.cx_sharing.specs.SharedDesign.{shared_invoke}
use Rattle.cx_sharing.specs.Following.{SharedStands, shared_fault}
use Rattle.cx_sharing.proofs.MeetLemmas.{group_covers, capture_covers, group_used_meet}
use Rattle.cx_sharing.proofs.TwinLemmas.{child_twin, part_other}
use Rattle.cx_sharing.proofs.TwinStates.{child_state, back_state, told_below}
use Rattle.cx_sharing.proofs.SharedParts.{invoke_at-shared, captures_of-shared, group_at-shared}
use Rattle.cx_sharing.proofs.SharedSights.{shares_of, seen_there}
use Rattle.cx_sharing.proofs.SharedGroups.{drives_shared, groups_drive-shared, called_there, called_shared, captures_shared}
use Rattle.cx_sharing.proofs.SharedLeaves.{rests, own_same}
use Rattle.cx_sharing.proofs.WholeTwins.{Twins, twin_of, fit_of, same_number}
use Rattle.cx_sharing.proofs.WholeCycles.{to_turn, whole_alike}
use Rattle.cx_sharing.proofs.WholeIslands.{recounted, calm_below, turns_alike, island_alike}

-- WHAT AN ARM DRIVES, of a cell that is no candidate
module _ {i j : Instance} (both : Twins i j) (c : ℕ) (lone : is_candidate (part_of i) c ≡ false) where
  abbrev new : ℕ → ℕ
  new = new_cell (part_of i)

  invoked_cell : (o : Option PlainInvoke) → is_cell_of (option_map (shared_invoke new) o) (new c) ≡ is_cell_of o c
  invoked_cell None = refl
  invoked_cell (Some v) = same_number (part_of i) v.cell c lone

  invokes_cells : (ks : List ℕ) → invokes_cell (part_of j) ks (new c) ≡ invokes_cell (part_of i) ks c
  invokes_cells [] = refl
  invokes_cells (k ∷ ks) =
      ap₂ ◌||◌ (ap (λ (x : PlainComponent). is_cell_of (invoke_at x k) (new c)) (twin_of both).part ∙ ap (λ o. is_cell_of o (new c)) (invoke_at-shared (part_of i) k) ∙ invoked_cell (invoke_at (part_of i) k))
      (invokes_cells ks)

  pub drives_alike : (s : PlainStatement) → drives_all (part_of j) (moved_statement (renamed new) s) (new c) ≡ drives_all (part_of i) s c
  drives_alike s =
      ap₂ ◌||◌ (drives_shared i j (twin_of both) s c lone)
      (ap₂ ◌||◌ (ap (λ ks. invokes_cell (part_of j) ks (new c)) (invokes_of-moved (renamed new) s) ∙ invokes_cells (invokes_of s))
      (ap (λ ks. groups_drive (part_of j) (captures_of (part_of j) ks) (new c)) (invokes_of-moved (renamed new) s)
      ∙ ap (λ gs. groups_drive (part_of j) gs (new c)) (ap (λ x. captures_of x (invokes_of s)) (twin_of both).part ∙ captures_of-shared (part_of i) (invokes_of s))
      ∙ groups_drive-shared i j (twin_of both) (captures_of (part_of i) (invokes_of s)) c lone))

module _ {i j : Instance} (both : Twins i j) (controlled : AllControlled i) (rules : AllRuled i) (calm : AreAcyclic i) (forms : (v : Visited) → In (statements_in (part_of i)) v → IsForm (part_of i) v.form) (held : Held)
    (children others : Children) (kids : (c : ℕ) (child : Instance) → cell_at (cells_of i) c ≡ OfInstance child → (own : Held)
    → Carries Exact (λ counted. SharedStands child) (shared_fault child) (λ s n. none) (children c own) (others (new_cell (part_of i) c) own)) where
  abbrev R : Tally → State → State → Type 0
  R counted = SharedStands i

  abbrev rest_kept : (before : Tally) (s z : State) → SharedStands i s z → SharedStands i (idle i s) (idle j z)
  rest_kept = rests i j (twin_of both) (fit_of both) held

  -- A CALL
  module _ (g c : ℕ) (child : Instance) (at : cell_at (cells_of i) c ≡ OfInstance child) where
    abbrev e : ℕ
    e = new_cell (part_of i) c

    lone : is_candidate (part_of i) c ≡ false
    lone = let r = child_twin child ((twin_of both).cells c) at in part_other (part_of i) c r.0 r.2

    -- what is captured
    capture_alike : (before : Tally) (s z : State) → SharedStands i s z
        → TurnCarried Exact R (shared_fault i) before none (turn_of (whole_cycle i held (capture g c) [] s)) (turn_of (whole_cycle j held (capture g e) [] z))
    capture_alike before s z stands =
        to_turn i before none (whole_cycle i held (capture g c) [] s) (whole_cycle j held (capture g e) [] z)
        (whole_alike both (capture g c) (capture g e) (λ h. refl) (λ x. group_uses (part_of i) g x ≡ true) (capture_covers (part_of i) g c) (group_used_meet (part_of i) g)
        (λ x. own_same i j (twin_of both) (fit_of both) held c x lone) (capture_acyclic i g c ((fit_of both).groups g)) held [] (λ x inputs k. absurd k) (calm_below both calm held i calm) s z stands)

    after_alike : (capturing : Bool) → Carries Exact R (shared_fault i) (λ s n. none) (after_child i held g c capturing) (after_child j held g e capturing)
    after_alike false before s z n m room stands = idle_carries Exact R (shared_fault i) (idle i) (idle j) rest_kept before s z n m room stands
    after_alike true before s z n m room stands =
        recounted (SharedStands i) (shared_fault i) before (one_count (λ x. turn_of (whole_cycle i held (capture g c) [] x)) none (λ x k. none) s n) none
        (after_child i held g c true s n) (after_child j held g e true z m)
        (one_carries Exact R (shared_fault i) (idle i) (idle j) rest_kept (λ x. turn_of (whole_cycle i held (capture g c) [] x)) (λ y. turn_of (whole_cycle j held (capture g e) [] y)) none capture_alike
        (λ x k. none) (idle_turn (idle i)) (idle_turn (idle j)) (idle_carries Exact R (shared_fault i) (idle i) (idle j) rest_kept) before s z n m room stands)

    -- a run of the child, as a run of the instance
    lift_alike : (before : Tally) (s z : State) (o x : Answer State Fault) → SharedStands i s z → Carried Exact (λ counted. SharedStands child) (shared_fault child) none none o x
        → Carried Exact R (shared_fault i) before none (lift_answer c s o) (lift_answer e z x)
    lift_alike before s z (End own t) x stands (twin, u, is, keeps, q) = (put e twin z, u, ap (lift_answer e z) is, keeps, back_state i c child own twin s z at lone q stands)
    lift_alike before s z (answers.Fault f t) x stands told = ap (lift_answer e z) told ∙ ap (λ k. answers.Fault k t) (sym (told_below i c child f at))
    lift_alike before s z More x stands told = ap (lift_answer e z) told

    inputs_alike : (s z : State) → SharedStands i s z → inputs_of_call j held g e z ≡ inputs_of_call i held g c s
    inputs_alike s z stands =
        fun_ext (λ n. seen_there i j (twin_of both) (group g) (group g) (λ h. refl) (λ x. group_uses (part_of i) g x ≡ true) (group_covers (part_of i) g) (group_used_meet (part_of i) g) held s z stands (λ x. refl) ((fit_of both).groups g)
        (ports.Cell c (suc n)) (inl lone))

    pub call_alike : Carries Exact R (shared_fault i) (λ s n. none) (call i children held g c) (call j others held g e)
    call_alike before s z n m room stands =
        recounted (SharedStands i) (shared_fault i) before (plus none (then_count child_run n (λ x k. none))) none (call i children held g c s n) (call j others held g e z m)
        (then_carried Exact R (shared_fault i) before none n m room child_run (lift_answer e z (others e (inputs_of_call j held g e z) (under e z) m)) (λ x k. none)
        (after_child i held g c (captures i g)) (after_child j held g e (captures j g))
        (subst (λ own. Carried Exact R (shared_fault i) before none child_run (lift_answer e z (others e own (under e z) m))) (sym (inputs_alike s z stands))
        (lift_alike before s z (children c inputs (under c s) n) (others e inputs (under e z) m) stands
        (kids c child at inputs none (under c s) (under e z) n m room (child_state i s z c child stands at))))
        (subst (λ b. Carries Exact R (shared_fault i) (λ x k. none) (after_child i held g c (captures i g)) (after_child j held g e b)) (sym (captures_shared i j (twin_of both) g)) (after_alike (captures i g))))
      where
        inputs : Held
        inputs = inputs_of_call i held g c s

        child_run : Answer State Fault
        child_run = lift_answer c s (children c (inputs_of_call i held g c s) (under c s) n)

  -- THE ENABLE OF A GROUP: its turns, a call, or an island
  called_alike : (g : ℕ) (o : Option ℕ) → called i g ≡ o → Carries Exact R (shared_fault i) (λ s n. none) (call_or_turns i children held g o) (call_or_turns j others held g (called_there i j (twin_of both) o))
  called_alike g None is before s z n m room stands = turns_alike both calm held g before s z n m room stands
  called_alike g (Some c) is before s z n m room stands =
      let own = called_child (cells_of i) (group_at (part_of i) g).assigns c is in
      call_alike g c own.0 own.1 before s z n m room stands

  kind_alike : (g : ℕ) → Stands (part_of i) (Enable g) → (kind : GroupKind) → Carries Exact R (shared_fault i) (λ s n. none) (enable_kind i children held g kind) (enable_kind j others held g kind)
  kind_alike g h kinds.Plain before s z n m room stands =
      subst (λ o. Carried Exact R (shared_fault i) before none (call_or_turns i children held g (called i g) s n) (call_or_turns j others held g o z m)) (sym (called_shared i j (twin_of both) g))
      (called_alike g (called i g) refl before s z n m room stands)
  kind_alike g h kinds.Comb before s z n m room stands =
      subst (λ o. Carried Exact R (shared_fault i) before none (call_or_turns i children held g (called i g) s n) (call_or_turns j others held g o z m)) (sym (called_shared i j (twin_of both) g))
      (called_alike g (called i g) refl before s z n m room stands)
  kind_alike g h (kinds.Timed length) before s z n m room stands = island_alike both controlled rules calm held (Enable g) h forms before s z n m room stands

  pub enable_alike : (g : ℕ) → Stands (part_of i) (Enable g) → Carries Exact R (shared_fault i) (λ s n. none) (enable i children held g) (enable j others held g)
  enable_alike g h before s z n m room stands =
      subst (λ kind. Carried Exact R (shared_fault i) before none (enable i children held g s n) (enable_kind j others held g kind z m)) (sym (ap (λ (x : PlainGroup). x.kind) (group_at-shared (shares_of (twin_of both)) g)))
      (kind_alike g h (group_at (part_of i) g).kind before s z n m room stands)
