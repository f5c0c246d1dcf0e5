-- What keeps the rules on widths, literals, targets and sources keeps them with its ports moved.
use Rattle.std.proofs.Common.{◌≡◌, ℕ, ◌<◌, Bool, true, false, inl, inr, List, [], ◌∷◌, length, map, Option, Some, None, refl, sym, ap, ◌∙◌, subst}
use Rattle.std.specs.Prelude.{option_map, if◌then◌else◌}
use Rattle.cx_text.proofs.MemberLaws.{image_in}
use Rattle.cx_text.specs.declared.places.Place.{Place}
use Rattle.cx_meaning.specs.declared.ports.PortRef.{PortRef}
use Rattle.cx_meaning.specs.declared.ports.PlacedPort.{PlacedPort}
use Rattle.cx_meaning.specs.Designs.{PlainAssign, PlainComponent, PlainDesign, component_at}
use Rattle.cx_meaning.specs.Instances.{Instance}
use Rattle.cx_meaning.specs.Active.{Owned}
use Rattle.cx_text.specs.Members.{In}
use Rattle.cx_rules.specs.Items.{Pair, atoms_of, sources_of}
use Rattle.cx_rules.specs.Ports.{component_of, width_of, path_of, is_source_only, is_target_only}
use Rattle.cx_rules.specs.Spots.{AssignRule}
use Rattle.cx_rules.specs.WidthRules.{differ, pairs_of, first_unequal, is_wide, first_wide, IsBadLiteral, BreaksWidth, BreaksGuardWidth, BreaksLiteral, BreaksNotATarget, BreaksNotASource}
use Rattle.cx_rules.specs.Wellformed.{IsDesign}
use Rattle.cx_rules.proofs.ItemsLemmas.{atoms_are_operands}
use Rattle.cx_rewrites.specs.Moving.{moved_port, moved_assign}
use Rattle.cx_rewrites.proofs.MovedLists.{sources_of-moved, atoms_of-moved, moved_pair, comparisons_of-moved}
use Rattle.cx_profiling.specs.Instrumented.{moved_in, with_counts}
use Rattle.cx_profiling.proofs.OperandLemmas.{comparisons_are_operands}
use Rattle.cx_profiling.proofs.ThereLemmas.{Names}
use Rattle.cx_profiling.proofs.FitLemmas.{moved_literal}
use Rattle.cx_profiling.proofs.SortLemmas.{width_of-moved, written_width-moved, is_source_only-moved, is_target_only-moved}

-- of ports that are moved the first that is wide, and of pairs the first that are unequal, is that of the ports
module _ (i j : Instance) (move : PortRef → PortRef) where
  first_wide-moved : (ps : List PlacedPort) → ((p : PlacedPort) → In ps p → is_wide j (move p.port) ≡ is_wide i p.port) → first_wide j (map (moved_port move) ps) ≡ option_map move (first_wide i ps)
  first_wide-moved [] same = refl
  first_wide-moved (p ∷ ps) same =
      ap (λ b. if b then Some (move p.port) else first_wide j (map (moved_port move) ps)) (same p (inl refl)) ∙ by (is_wide i p.port) (first_wide-moved ps (λ q h. same q (inr h)))
    where
      by : (b : Bool) → first_wide j (map (moved_port move) ps) ≡ option_map move (first_wide i ps)
          → (if b then Some (move p.port) else first_wide j (map (moved_port move) ps)) ≡ option_map move (if b then Some p.port else first_wide i ps)
      by true rest = refl
      by false rest = rest

  first_unequal-moved : (pairs : List Pair) → ((pair : Pair) → In pairs pair → (width_of j (move pair.first) ≡ width_of i pair.first) × (width_of j (move pair.second) ≡ width_of i pair.second))
      → first_unequal j (map (moved_pair move) pairs) ≡ option_map move (first_unequal i pairs)
  first_unequal-moved [] same = refl
  first_unequal-moved (pair ∷ pairs) same =
      let s = same pair (inl refl) in
      ap (λ w. if differ w (width_of j (move pair.second)) then Some (move pair.first) else first_unequal j (map (moved_pair move) pairs)) s.0
      ∙ ap (λ w. if differ (width_of i pair.first) w then Some (move pair.first) else first_unequal j (map (moved_pair move) pairs)) s.1
      ∙ by (differ (width_of i pair.first) (width_of i pair.second)) (first_unequal-moved pairs (λ q h. same q (inr h)))
    where
      by : (b : Bool) → first_unequal j (map (moved_pair move) pairs) ≡ option_map move (first_unequal i pairs)
          → (if b then Some (move pair.first) else first_unequal j (map (moved_pair move) pairs)) ≡ option_map move (if b then Some pair.first else first_unequal i pairs)
      by true rest = refl
      by false rest = rest

-- AN ASSIGNMENT THAT BREAKS NONE of the five rules
pub record IsSound (i : Instance) (a : PlainAssign) : Type 0 where
  pub width : first_unequal i (pairs_of a) ≡ None
  pub guard_width : first_wide i (atoms_of a.guard) ≡ None
  pub literal : (p : PlacedPort) → In (sources_of a) p → IsBadLiteral p.port → ⊥
  pub target : is_source_only i a.target ≡ true → ⊥
  pub source : (p : PlacedPort) → In (sources_of a) p → is_target_only i p.port ≡ true → ⊥

-- an assignment breaks a rule nowhere
abbrev pub Keeps : Instance → Owned → AssignRule → Type 0
Keeps i o rule = (place : Place) (name : List ℕ) → rule i o place name → ⊥

none_there : (o : Option PortRef) → ((p : PortRef) → o ≡ Some p → ⊥) → o ≡ None
none_there None none = refl
none_there (Some p) none = absurd (none p refl)

pub is_sound : (i : Instance) (o : Owned) → Keeps i o BreaksWidth → Keeps i o BreaksGuardWidth → Keeps i o BreaksLiteral → Keeps i o BreaksNotATarget → Keeps i o BreaksNotASource → IsSound i o.assign
is_sound i o width guard_width literal target source = record {
  width = none_there (first_unequal i (pairs_of o.assign)) (λ p e. width o.assign.place (path_of i p) (p, e, (refl, refl)));
  guard_width = none_there (first_wide i (atoms_of o.assign.guard)) (λ p e. guard_width o.assign.place (path_of i p) (p, e, (refl, refl)));
  literal = λ p h bad. literal p.place [] (p, h, bad, (refl, refl));
  target = λ e. target o.assign.place (path_of i o.assign.target) (e, (refl, refl));
  source = λ p h e. source p.place (path_of i p.port) (p, h, e, (refl, refl));
}

-- MOVED, one of a component whose ports are there breaks none
module _ (d : PlainDesign) (rules : IsDesign d) (k : ℕ) (there : k < length d.components) (a : PlainAssign)
    (target : Names d (component_at d k) a.target) (sources : (p : PlacedPort) → In (sources_of a) p → Names d (component_at d k) p.port) (sound : IsSound (component_of d k) a) where
  abbrev part : PlainComponent
  part = component_at d k

  abbrev i : Instance
  i = component_of d k

  abbrev j : Instance
  j = component_of (with_counts d) k

  abbrev move : PortRef → PortRef
  move = moved_in d part

  same_widths : (pair : Pair) → In (pairs_of a) pair → (width_of j (move pair.first) ≡ width_of i pair.first) × (width_of j (move pair.second) ≡ width_of i pair.second)
  same_widths pair (inl e) = (
    subst (λ x. width_of j (move x.first) ≡ width_of i x.first) e (width_of-moved d rules k there a.target target),
    subst (λ x. width_of j (move x.second) ≡ width_of i x.second) e (width_of-moved d rules k there a.source.port (sources a.source (inl refl))),
  )
  same_widths pair (inr h) =
      let c = comparisons_are_operands a.guard pair h in (
        subst (λ x. width_of j (move x) ≡ width_of i x) c.0.2 (width_of-moved d rules k there c.0.0.port (sources c.0.0 (inr c.0.1))),
        subst (λ x. width_of j (move x) ≡ width_of i x) c.1.2 (width_of-moved d rules k there c.1.0.port (sources c.1.0 (inr c.1.1))),
      )

  width_kept : first_unequal j (pairs_of (moved_assign move a)) ≡ None
  width_kept =
      ap (λ cs. first_unequal j (record { first = move a.target; second = move a.source.port } ∷ cs)) (comparisons_of-moved move a.guard)
      ∙ first_unequal-moved i j move (pairs_of a) same_widths ∙ ap (option_map move) sound.width

  guard_width_kept : first_wide j (atoms_of (moved_assign move a).guard) ≡ None
  guard_width_kept =
      ap (first_wide j) (atoms_of-moved move a.guard)
      ∙ first_wide-moved i j move (atoms_of a.guard) (λ p h. ap (λ w. differ w (Some 1)) (written_width-moved d rules k there p.port (sources p (inr (atoms_are_operands a.guard p h)))))
      ∙ ap (option_map move) sound.guard_width

  literal_kept : (p : PlacedPort) → In (sources_of (moved_assign move a)) p → IsBadLiteral p.port → ⊥
  literal_kept p h (w, v, e, bad) = by (image_in (moved_port move) (sources_of a) p (subst (λ ps. In ps p) (sources_of-moved move a) h))
    where
      by : (q : PlacedPort) × In (sources_of a) q × (moved_port move q ≡ p) → ⊥
      by (q, l, same) = sound.literal q l (w, v, moved_literal d part q.port w v (ap (λ x. x.port) same ∙ e), bad)

  source_kept : (p : PlacedPort) → In (sources_of (moved_assign move a)) p → is_target_only j p.port ≡ true → ⊥
  source_kept p h e = by (image_in (moved_port move) (sources_of a) p (subst (λ ps. In ps p) (sources_of-moved move a) h))
    where
      by : (q : PlacedPort) × In (sources_of a) q × (moved_port move q ≡ p) → ⊥
      by (q, l, same) = sound.source q l (sym (is_target_only-moved d rules k there q.port (sources q l)) ∙ ap (λ x. is_target_only j x.port) same ∙ e)

  pub sound_moved : IsSound j (moved_assign move a)
  sound_moved = record {
    width = width_kept;
    guard_width = guard_width_kept;
    literal = literal_kept;
    target = λ e. sound.target (sym (is_source_only-moved d rules k there a.target target) ∙ e);
    source = source_kept;
  }
