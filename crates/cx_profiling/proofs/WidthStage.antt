-- AN INSTRUMENTED DESIGN KEEPS THE THIRD STAGE: widths, widths of guards, literals, targets and sources.
use Rattle.std.proofs.Common.{◌≡◌, ℕ, suc, ◌+◌, ◌*◌, ◌^◌, ◌<◌, ◌≤◌, Bool, true, false, not, inl, inr, ◌⊎◌, List, [], length, Some, None, refl, sym, ap, ◌∙◌, subst, arith}
use Rattle.std.specs.Prelude.{nat_eq, option_map, if◌then◌else◌}
use Rattle.std.specs.List.{slice_get}
use Rattle.std.proofs.lemmas.Bool.{eq-eqb, ne_eqb, eqb-true, eqb-false}
use Rattle.std.proofs.lemmas.Option.{slice_get_within}
use Rattle.cx_text.proofs.MemberLaws.{in_at, number_in}
use Rattle.cx_text.proofs.NumberLaws.{true_false}
use Rattle.cx_text.proofs.OptionLaws.{none_is_some, map_some}
use Rattle.cx_text.specs.declared.places.Place.{Place}
use Rattle.cx_text.specs.declared.rules.Rule.TheVariants as words
use Rattle.cx_meaning.specs.declared.ports.PortRef.{PortRef}
use Rattle.cx_meaning.specs.declared.ports.PortRef.TheVariants as ports
use Rattle.cx_meaning.specs.declared.ports.PlacedPort.{PlacedPort}
use Rattle.cx_meaning.specs.Designs.{PlainAssign, PlainDesign, component_at}
use Rattle.cx_meaning.specs.Instances.{Instance}
use Rattle.cx_meaning.specs.Active.{Owned, source_order}
use Rattle.cx_text.specs.Members.{In}
use Rattle.cx_rules.specs.Items.{Visited, sources_of, statements_in, test_in}
use Rattle.cx_rules.specs.Ports.{component_of, keeps_literal, width_of, path_of, is_source_only, is_target_only}
use Rattle.cx_rules.specs.Accepted.{KeepsStage, IsAccepted}
use Rattle.cx_rules.specs.Spots.{ABind, AnAssign, AStatement, Spot, AssignRule, StatementRule, binds_in, OnBind, OnAssign, OnStatement}
use Rattle.cx_rules.specs.WidthRules.{differ, is_wide, IsBadLiteral, BreaksWidth, BreaksGuardWidth, TestBreaksGuardWidth, BreaksLiteral, TestBreaksLiteral, BreaksNotATarget, BreaksNotASource, TestBreaksNotASource}
use Rattle.cx_rules.specs.Wellformed.{IsDesign}
use Rattle.cx_rules.proofs.ForeignLemmas.{sorted_among}
use Rattle.cx_rewrites.specs.Driving.{assigns_of}
use Rattle.cx_rewrites.specs.Moving.{moved_port, moved_assign}
use Rattle.cx_rewrites.proofs.MovedLists.{test_in-moved}
use Rattle.cx_profiling.specs.Counters.{counters, Shown, shown_in, entry_count}
use Rattle.cx_profiling.specs.Instrumented.{drive, counter_assigns, store_assigns, address_width, moved_in, with_counts, instrumented}
use Rattle.cx_profiling.proofs.ThereLemmas.{Names}
use Rattle.cx_profiling.proofs.FitLemmas.{FitsAssign, fits_assign, fits_statement, moved_literal}
use Rattle.cx_profiling.proofs.GainedLemmas.{components-length}
use Rattle.cx_profiling.proofs.InsideLemmas.{stands_in}
use Rattle.cx_profiling.proofs.InvokesKept.{get_mapped}
use Rattle.cx_profiling.proofs.InvokesMade.{bind_names, binds_moved}
use Rattle.cx_profiling.proofs.PartTable.{OwnedMade, old_owned, showing, counting, storing, owned_made, StatementMade, old_statement, new_statement, statement_made}
use Rattle.cx_profiling.proofs.RoleLemmas.{counter_number}
use Rattle.cx_profiling.proofs.SortLemmas.{written_width-moved, is_target_only-moved}
use Rattle.cx_profiling.proofs.WidthsKept.{IsSound, is_sound, sound_moved}
use Rattle.cx_profiling.proofs.NewSorts.{HasInstance, IsTarget, IsSource, register_in, register_write, register_out, adder_left, adder_right, adder_out, shown_source, shown_output, memory_address, memory_data, memory_write, memory_done, address_source}

-- of equal widths, to a target and from a source
sound_drive : (i : Instance) (place : Place) (t s : PortRef) (w : ℕ) → width_of i t ≡ Some w → is_source_only i t ≡ false → width_of i s ≡ Some w → is_target_only i s ≡ false → IsSound i (drive place t s)
sound_drive i place t s w wide target as_wide source = record {
  width = ap (λ o. if differ o (width_of i s) then Some t else None) wide ∙ ap (λ o. if differ (Some w) o then Some t else None) as_wide ∙ ap (λ b. if not b then Some t else None) (eq-eqb w w refl);
  guard_width = refl;
  literal = λ p h bad. fits p h bad;
  target = λ e. true_false (sym e ∙ target);
  source = λ p h e. side p h e;
}
  where
    no_literal : (x v : ℕ) → keeps_literal x v ≡ false → width_of i (ports.Literal x v) ≡ Some w → ⊥
    no_literal x v bad e = none_is_some w (sym (ap (λ b. if b then Some x else None) bad) ∙ e)

    fits : (p : PlacedPort) → In (sources_of (drive place t s)) p → IsBadLiteral p.port → ⊥
    fits p (inl same) (x, v, e, bad) = no_literal x v bad (ap (width_of i) (sym e ∙ ap (λ q. q.port) (sym same)) ∙ as_wide)
    fits p (inr h) bad = h

    side : (p : PlacedPort) → In (sources_of (drive place t s)) p → is_target_only i p.port ≡ true → ⊥
    side p (inl same) e = true_false (sym e ∙ ap (λ q. is_target_only i q.port) (sym same) ∙ source)
    side p (inr h) e = h

module _ (d : PlainDesign) (rules : IsDesign d) (accepted : IsAccepted d) (counted : 1 ≤ entry_count d) (small : entry_count d < 2 ^ 32) (k : ℕ) (there : k < length d.components) where
  abbrev i : Instance
  i = component_of (with_counts d) k

  abbrev place : Place
  place = (component_at d k).place

  driven : (t s : PortRef) (w : ℕ) (a : PlainAssign) → IsTarget d rules k there t w → IsSource d rules k there s w → drive place t s ≡ a → IsSound i a
  driven t s w a target source e = subst (IsSound i) e (sound_drive i place t s w target.0 target.1 source.0 source.1)

  counter_sound : (m : ℕ) → HasInstance d k → (less : m < length (counters (component_of d k))) → (a : PlainAssign) → In (counter_assigns place (length (component_at d k).cells + 2 * m)) a → IsSound i a
  counter_sound m has less a (inl e) = driven (ports.Cell (suc (length (component_at d k).cells + 2 * m)) 0) (ports.Cell (length (component_at d k).cells + 2 * m) 2) 64 a (adder_left d rules k there has m less) (register_out d rules k there has m less) e
  counter_sound m has less a (inr (inl e)) = driven (ports.Cell (suc (length (component_at d k).cells + 2 * m)) 1) (ports.Literal 64 1) 64 a (adder_right d rules k there has m less) (refl, refl) e
  counter_sound m has less a (inr (inr (inl e))) = driven (ports.Cell (length (component_at d k).cells + 2 * m) 0) (ports.Cell (suc (length (component_at d k).cells + 2 * m)) 2) 64 a (register_in d rules k there has m less) (adder_out d rules k there has m less) e
  counter_sound m has less a (inr (inr (inr (inl e)))) = driven (ports.Cell (length (component_at d k).cells + 2 * m) 1) (ports.Literal 1 1) 1 a (register_write d rules k there has m less) (refl, refl) e
  counter_sound m has less a (inr (inr (inr (inr h)))) = absurd h

  store_sound : (n : ℕ) (x : Shown) → In (shown_in (component_of d k)) x → (is_main : nat_eq k d.main ≡ true) → n < length (shown_in (component_of d k)) → (a : PlainAssign)
      → In (store_assigns place (length (component_at d k).cells + 2 * length (counters (component_of d k))) (address_width (length (shown_in (component_of d k)))) (length (component_at d k).groups + n) n x.port) a → IsSound i a
  store_sound n x here is_main less a h = by h
    where
      same : k ≡ d.main
      same = eqb-true k d.main is_main

      some : 1 ≤ length (shown_in (component_of d k))
      some = subst (λ j. 1 ≤ length (shown_in (component_of d j))) (sym same) counted

      few : length (shown_in (component_of d k)) < 2 ^ 32
      few = subst (λ j. length (shown_in (component_of d j)) < 2 ^ 32) (sym same) small

      memory : ℕ
      memory = length (component_at d k).cells + 2 * length (counters (component_of d k))

      by : In (store_assigns place (length (component_at d k).cells + 2 * length (counters (component_of d k))) (address_width (length (shown_in (component_of d k)))) (length (component_at d k).groups + n) n x.port) a → IsSound i a
      by (inl e) = driven (ports.Cell (length (component_at d k).cells + 2 * length (counters (component_of d k))) 0) (ports.Literal (address_width (length (shown_in (component_of d k)))) n) (address_width (length (shown_in (component_of d k)))) a
          (memory_address d rules k there is_main some few) (address_source d rules k there is_main some few n less) e
      by (inr (inl e)) = driven (ports.Cell (length (component_at d k).cells + 2 * length (counters (component_of d k))) 1) x.port 64 a (memory_data d rules k there is_main some few) (shown_source d rules k there (inl is_main) x here) e
      by (inr (inr (inl e))) = driven (ports.Cell (length (component_at d k).cells + 2 * length (counters (component_of d k))) 2) (ports.Literal 1 1) 1 a (memory_write d rules k there is_main some few) (refl, refl) e
      by (inr (inr (inr (inl e)))) = driven (ports.Done (length (component_at d k).groups + n)) (ports.Cell (length (component_at d k).cells + 2 * length (counters (component_of d k))) 4) 1 a (refl, refl) (memory_done d rules k there is_main some few) e
      by (inr (inr (inr (inr h)))) = absurd h

  -- an old assignment breaks nothing, and an input that a static invoke binds
  old_sound : (w : Owned) → In (source_order (component_at d k)) w → IsSound (component_of d k) w.assign
  old_sound w stands = is_sound (component_of d k) w
      (λ at name h. accepted.widths words.Width spot at name refl (inl (here BreaksWidth at name h)))
      (λ at name h. accepted.widths words.GuardWidth spot at name refl (inl (here BreaksGuardWidth at name h)))
      (λ at name h. accepted.widths words.Literal spot at name refl (inl (here BreaksLiteral at name h)))
      (λ at name h. accepted.widths words.NotATarget spot at name refl (inl (here BreaksNotATarget at name h)))
      (λ at name h. accepted.widths words.NotASource spot at name refl (inl (here BreaksNotASource at name h)))
    where
      number : (n : ℕ) × (slice_get (source_order (component_at d k)) n ≡ Some w)
      number = number_in (source_order (component_at d k)) w stands

      spot : Spot
      spot = record { component = k; part = AnAssign number.0 }

      here : (rule : AssignRule) (at : Place) (name : List ℕ) → rule (component_of d k) w at name → OnAssign rule d spot at name
      here rule at name h = record { within = there; number = number.0; is = refl; assign = w; stands = number.1; breaks = h }

  bound_sound : (n : ℕ) (a : PlainAssign) → slice_get (binds_in (component_at d k)) n ≡ Some a → IsSound (component_of d k) a
  bound_sound n a stands = is_sound (component_of d k) (record { owner = None; assign = a })
      (λ at name h. accepted.widths words.Width spot at name refl (inr (here BreaksWidth at name h)))
      (λ at name h. accepted.widths words.GuardWidth spot at name refl (inr (inr (here BreaksGuardWidth at name h))))
      (λ at name h. accepted.widths words.Literal spot at name refl (inr (inr (here BreaksLiteral at name h))))
      (λ at name h. accepted.widths words.NotATarget spot at name refl (inr (here BreaksNotATarget at name h)))
      (λ at name h. accepted.widths words.NotASource spot at name refl (inr (inr (here BreaksNotASource at name h))))
    where
      spot : Spot
      spot = record { component = k; part = ABind n }

      here : (rule : AssignRule) (at : Place) (name : List ℕ) → rule (component_of d k) (record { owner = None; assign = a }) at name → OnBind rule d spot at name
      here rule at name h = record { within = there; number = n; is = refl; assign = a; stands = stands; breaks = h }

  made_sound : (o : Owned) → OwnedMade d rules k there o → IsSound i o.assign
  made_sound o (old_owned w stands e) =
      subst (λ (x : Owned). IsSound i x.assign) e (sound_moved d rules k there w.assign fits.target fits.sources (old_sound w stands))
    where
      fits : FitsAssign d (component_at d k) w.owner w.assign
      fits = fits_assign d (let z : 0 < length d.components = omega arith in z) k w.owner w.assign
          ((rules.components k there).assigns w.owner w.assign (stands_in (component_at d k) w (sorted_among (assigns_of (component_at d k)) w stands)))
  made_sound o (counting g r owner own reached few is h) =
      let n = counter_number d k there reached (record { group = g; register = r }) own in
      counter_sound n.0 (inr reached) n.1 o.assign (subst (λ z. In (counter_assigns place z) o.assign) n.2 h)
  made_sound o (showing none n x main reached at e) =
      let less : n < length (shown_in (component_of d k)) = slice_get_within (shown_in (component_of d k)) n x at in
      driven (ports.Output (length (component_at d k).outputs + n)) x.port 64 o.assign
      (shown_output d rules k there (ne_eqb k d.main main) reached (length (component_at d k).outputs + n) (omega arith) (omega (arith, less)))
      (shown_source d rules k there (inr reached) x (in_at (shown_in (component_of d k)) n x at)) e
  made_sound o (storing n x main at owner h) =
      store_sound n x (in_at (shown_in (component_of d k)) n x at) (eq-eqb k d.main main) (slice_get_within (shown_in (component_of d k)) n x at) o.assign h

  pub sound : (n : ℕ) (o : Owned) → slice_get (source_order (component_at (with_counts d) k)) n ≡ Some o → IsSound i o.assign
  sound n o at = made_sound o (owned_made d rules k there o (in_at (source_order (component_at (with_counts d) k)) n o at))

  pub bind_sound : (n : ℕ) (a : PlainAssign) → slice_get (binds_in (component_at (with_counts d) k)) n ≡ Some a → IsSound i a
  bind_sound n a at = by (map_some move (slice_get (binds_in (component_at d k)) n) a (sym (get_mapped move (binds_in (component_at d k)) n) ∙ sym (ap (λ list. slice_get list n) (binds_moved d rules k there)) ∙ at))
    where
      move : PlainAssign → PlainAssign
      move = moved_assign (moved_in d (component_at d k))

      by : (x : PlainAssign) × (slice_get (binds_in (component_at d k)) n ≡ Some x) × (moved_assign (moved_in d (component_at d k)) x ≡ a) → IsSound i a
      by (x, stands, e) =
          let names = bind_names d rules k there x (in_at (binds_in (component_at d k)) n x stands) in
          subst (IsSound i) e (sound_moved d rules k there x names.target names.sources (bound_sound n x stands))

  -- a condition of the new component is one of the old, moved
  old_test : (n : ℕ) (v : Visited) → slice_get (statements_in (component_at (with_counts d) k)) n ≡ Some v → (test : PlacedPort) → test_in v.form ≡ Some test
      → (w : Visited) × (m : ℕ) × (slice_get (statements_in (component_at d k)) m ≡ Some w) × ((old : PlacedPort) × (test_in w.form ≡ Some old) × (moved_port (moved_in d (component_at d k)) old ≡ test))
  old_test n v at test e = by (statement_made d rules k there v (in_at (statements_in (component_at (with_counts d) k)) n v at))
    where
      by : StatementMade d rules k there v
          → (w : Visited) × (m : ℕ) × (slice_get (statements_in (component_at d k)) m ≡ Some w) × ((old : PlacedPort) × (test_in w.form ≡ Some old) × (moved_port (moved_in d (component_at d k)) old ≡ test))
      by (new_statement fresh) = absurd (none_is_some test (sym fresh.tested ∙ e))
      by (old_statement w h same) =
          let m = number_in (statements_in (component_at d k)) w h in
          let told : option_map (moved_port (moved_in d (component_at d k))) (test_in w.form) ≡ Some test = sym (test_in-moved (moved_in d (component_at d k)) w.form) ∙ ap (λ u. test_in u.form) same ∙ e in
          (w, m.0, m.1, map_some (moved_port (moved_in d (component_at d k))) (test_in w.form) test told)

  -- a break of an old statement
  on_old : (rule : StatementRule) (m : ℕ) (w : Visited) → slice_get (statements_in (component_at d k)) m ≡ Some w → (at : Place) (name : List ℕ) → rule (component_of d k) w at name → OnStatement rule d (record { component = k; part = AStatement m }) at name
  on_old rule m w stands at name breaks = record { within = there; number = m; is = refl; statement = w; stands = stands; breaks = breaks }

  test_names : (m : ℕ) (w : Visited) → slice_get (statements_in (component_at d k)) m ≡ Some w → (old : PlacedPort) → test_in w.form ≡ Some old → Names d (component_at d k) old.port
  test_names m w at old e = (fits_statement d (let z : 0 < length d.components = omega arith in z) k w ((rules.components k there).statements w (in_at (statements_in (component_at d k)) m w at))).test old e

  pub test_guard_width : (n : ℕ) (v : Visited) (at : Place) (name : List ℕ) → slice_get (statements_in (component_at (with_counts d) k)) n ≡ Some v → TestBreaksGuardWidth i v at name → ⊥
  test_guard_width n v at name stands (test, e, wide, told) =
      let o = old_test n v stands test e in
      let old = o.3.0 in
      let same : is_wide i test.port ≡ is_wide (component_of d k) old.port =
      ap (λ q. is_wide i q.port) (sym o.3.2) ∙ ap (λ w. differ w (Some 1)) (written_width-moved d rules k there old.port (test_names o.1 o.0 o.2 old o.3.1)) in
      accepted.widths words.GuardWidth (record { component = k; part = AStatement o.1 }) o.0.place (path_of (component_of d k) old.port) refl
      (inr (inl (on_old TestBreaksGuardWidth o.1 o.0 o.2 o.0.place (path_of (component_of d k) old.port) (old, o.3.1, sym same ∙ wide, (refl, refl)))))

  pub test_literal : (n : ℕ) (v : Visited) (at : Place) (name : List ℕ) → slice_get (statements_in (component_at (with_counts d) k)) n ≡ Some v → TestBreaksLiteral i v at name → ⊥
  test_literal n v at name stands (test, e, (w, u, same, bad), told) =
      let o = old_test n v stands test e in
      let old = o.3.0 in
      let literal : old.port ≡ ports.Literal w u = moved_literal d (component_at d k) old.port w u (ap (λ q. q.port) o.3.2 ∙ same) in
      accepted.widths words.Literal (record { component = k; part = AStatement o.1 }) old.place [] refl
      (inr (inl (on_old TestBreaksLiteral o.1 o.0 o.2 old.place [] (old, o.3.1, (w, u, literal, bad), (refl, refl)))))

  pub test_source : (n : ℕ) (v : Visited) (at : Place) (name : List ℕ) → slice_get (statements_in (component_at (with_counts d) k)) n ≡ Some v → TestBreaksNotASource i v at name → ⊥
  test_source n v at name stands (test, e, side, told) =
      let o = old_test n v stands test e in
      let old = o.3.0 in
      let same : is_target_only i test.port ≡ is_target_only (component_of d k) old.port =
      ap (λ q. is_target_only i q.port) (sym o.3.2) ∙ is_target_only-moved d rules k there old.port (test_names o.1 o.0 o.2 old o.3.1) in
      accepted.widths words.NotASource (record { component = k; part = AStatement o.1 }) old.place (path_of (component_of d k) old.port) refl
      (inr (inl (on_old TestBreaksNotASource o.1 o.0 o.2 old.place (path_of (component_of d k) old.port) (old, o.3.1, sym same ∙ side, (refl, refl)))))

module _ (d : PlainDesign) (rules : IsDesign d) (accepted : IsAccepted d) (counted : 1 ≤ entry_count d) (small : entry_count d < 2 ^ 32) where
  there : (n : ℕ) → n < length (with_counts d).components → n < length d.components
  there n less = subst (λ m. n < m) (components-length d) less

  -- what is sound breaks none of the rules
  abbrev IsApart : AssignRule → Type 0
  IsApart rule = (i : Instance) (o : Owned) (place : Place) (name : List ℕ) → IsSound i o.assign → rule i o place name → ⊥

  no_width : IsApart BreaksWidth
  no_width i o at name s x = none_is_some x.0 (sym s.width ∙ x.1)

  no_guard_width : IsApart BreaksGuardWidth
  no_guard_width i o at name s x = none_is_some x.0 (sym s.guard_width ∙ x.1)

  no_literal : IsApart BreaksLiteral
  no_literal i o at name s x = s.literal x.0 x.1 x.2

  no_target : IsApart BreaksNotATarget
  no_target i o at name s x = s.target x.0

  no_source : IsApart BreaksNotASource
  no_source i o at name s x = s.source x.0 x.1 x.2

  of_assign : (rule : AssignRule) → IsApart rule → (spot : Spot) (place : Place) (name : List ℕ) → OnAssign rule (with_counts d) spot place name → ⊥
  of_assign rule never spot place name b =
      never (component_of (with_counts d) spot.component) b.assign place name (sound d rules accepted counted small spot.component (there spot.component b.within) b.number b.assign b.stands) b.breaks

  of_bind : (rule : AssignRule) → IsApart rule → (spot : Spot) (place : Place) (name : List ℕ) → OnBind rule (with_counts d) spot place name → ⊥
  of_bind rule never spot place name b =
      never (component_of (with_counts d) spot.component) (record { owner = None; assign = b.assign }) place name
      (bind_sound d rules accepted counted small spot.component (there spot.component b.within) b.number b.assign b.stands) b.breaks

  no_test_guard_width : (spot : Spot) (place : Place) (name : List ℕ) → OnStatement TestBreaksGuardWidth (with_counts d) spot place name → ⊥
  no_test_guard_width spot place name b = test_guard_width d rules accepted counted small spot.component (there spot.component b.within) b.number b.statement place name b.stands b.breaks

  no_test_literal : (spot : Spot) (place : Place) (name : List ℕ) → OnStatement TestBreaksLiteral (with_counts d) spot place name → ⊥
  no_test_literal spot place name b = test_literal d rules accepted counted small spot.component (there spot.component b.within) b.number b.statement place name b.stands b.breaks

  no_test_source : (spot : Spot) (place : Place) (name : List ℕ) → OnStatement TestBreaksNotASource (with_counts d) spot place name → ⊥
  no_test_source spot place name b = test_source d rules accepted counted small spot.component (there spot.component b.within) b.number b.statement place name b.stands b.breaks

  either : {A B : Type 0} → (A → ⊥) → (B → ⊥) → A ⊎ B → ⊥
  either f g (inl a) = f a
  either f g (inr b) = g b

  -- a rule of another stage
  apart : (n : ℕ) → n ≡ 3 → (n ≡ 3 → ⊥) → ⊥
  apart n e other = other e

  pub keeps_widths : KeepsStage 3 (with_counts d)
  keeps_widths words.Width spot place name e b = either (of_assign BreaksWidth no_width spot place name) (of_bind BreaksWidth no_width spot place name) b
  keeps_widths words.GuardWidth spot place name e b =
      either (of_assign BreaksGuardWidth no_guard_width spot place name) (either (no_test_guard_width spot place name) (of_bind BreaksGuardWidth no_guard_width spot place name)) b
  keeps_widths words.Literal spot place name e b =
      either (of_assign BreaksLiteral no_literal spot place name) (either (no_test_literal spot place name) (of_bind BreaksLiteral no_literal spot place name)) b
  keeps_widths words.NotATarget spot place name e b = either (of_assign BreaksNotATarget no_target spot place name) (of_bind BreaksNotATarget no_target spot place name) b
  keeps_widths words.NotASource spot place name e b =
      either (of_assign BreaksNotASource no_source spot place name) (either (no_test_source spot place name) (of_bind BreaksNotASource no_source spot place name)) b
  keeps_widths words.BadByte spot place name e b = b
  keeps_widths words.OpenComment spot place name e b = b
  keeps_widths words.OpenString spot place name e b = b
  keeps_widths words.BadLiteral spot place name e b = b
  keeps_widths words.Unexpected spot place name e b = b
  keeps_widths words.TooDeep spot place name e b = b
  keeps_widths words.Duplicate spot place name e b = b
  keeps_widths words.UnknownName spot place name e b = b
  keeps_widths words.UnknownPrimitive spot place name e b = b
  keeps_widths words.BadParameters spot place name e b = b
  keeps_widths words.Recursive spot place name e b = b
  keeps_widths words.NoMain spot place name e b = b
  keeps_widths words.LeftOut spot place name e b = b
  keeps_widths words.TooLarge spot place name e b = b
  keeps_widths words.NoDone spot place name e b = apart 4 e (λ z. omega arith)
  keeps_widths words.DoneNotState spot place name e b = apart 4 e (λ z. omega arith)
  keeps_widths words.AlwaysEnable spot place name e b = apart 4 e (λ z. omega arith)
  keeps_widths words.CombEnable spot place name e b = apart 4 e (λ z. omega arith)
  keeps_widths words.StaticGuard spot place name e b = apart 4 e (λ z. omega arith)
  keeps_widths words.StaticShape spot place name e b = apart 4 e (λ z. omega arith)
  keeps_widths words.CallShape spot place name e b = apart 4 e (λ z. omega arith)
  keeps_widths words.OutputNotState spot place name e b = apart 4 e (λ z. omega arith)
  keeps_widths words.CombCycle spot place name e b = apart 5 e (λ z. omega arith)
  keeps_widths words.Race spot place name e b = apart 6 e (λ z. omega arith)
  keeps_widths words.Limit spot place name e b = apart 7 e (λ z. omega arith)

-- of any design, where 32 bits count its entries
pub instrumented_keeps_widths : (d : PlainDesign) → IsDesign d → IsAccepted d → entry_count d < 2 ^ 32 → KeepsStage 3 (instrumented d)
instrumented_keeps_widths d rules accepted small = by (nat_eq (entry_count d) 0) refl
  where
    by : (b : Bool) → nat_eq (entry_count d) 0 ≡ b → KeepsStage 3 (if b then d else with_counts d)
    by true e = accepted.widths
    by false e = keeps_widths d rules accepted (omega (arith, eqb-false (entry_count d) 0 e)) small
