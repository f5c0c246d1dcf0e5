-- SHARED ONCE: a shared component shares nothing more.
use Rattle.std.proofs.Common.{◌≡◌, ℕ, zero, suc, ◌+◌, ◌-◌, ◌<◌, ◌≤◌, inl, inr, ⊎_elim, Bool, true, false, ◌&&◌, List, [], ◌∷◌, ◌++◌, length, map, refl, sym, ap, ◌∙◌, subst, arith}
use Rattle.std.specs.Prelude.{flat_map, not, if◌then◌else◌}
use Rattle.std.specs.List.{list_all, list_any}
use Rattle.std.proofs.lemmas.Bool.{both_ways, eqb-true, eq-eqb, cases_lt, or_cases}
use Rattle.cx_text.proofs.BoolLaws.{from_not, or_left, or_right}
use Rattle.cx_meaning.specs.declared.ports.PortRef.{PortRef}
use Rattle.cx_meaning.specs.declared.ports.PortRef.TheVariants as ports
use Rattle.cx_meaning.specs.Designs.{PlainAssign, PlainGroup, PlainComponent, PlainDesign, component_at}
use Rattle.cx_meaning.specs.Control.{targets_cell, assigns_drive}
use Rattle.cx_text.specs.Members.{In}
use Rattle.cx_rewrites.specs.Moving.{moved_assign, moved_group}
use Rattle.cx_rewrites.specs.Renaming.{renamed}
use Rattle.cx_sharing.specs.Uses.{assigns_use, is_combinational, kind_in, is_candidate}
use Rattle.cx_sharing.specs.Meeting.{meet}
use Rattle.cx_sharing.specs.Giving.{Kept, same_kind, takes, give, kept_after, kept_of, is_in, keeper_in, keeper, stays, staying, new_cell}
use Rattle.cx_sharing.specs.SharedDesign.{shared_part, shared_design}
use Rattle.cx_sharing.specs.SharedRows.{row_of, rows_from, rows_of}
use Rattle.cx_sharing.proofs.KeptLemmas.{kept_sound, staying_more}
use Rattle.cx_sharing.proofs.RemainingLemmas.{kind_left, length_left, StandsAt, stands_at}
use Rattle.cx_sharing.proofs.TwinLemmas.{shared_component, stays_is, own_equal_back}
use Rattle.cx_sharing.proofs.MeetMoved.{assigns_moved, meet_moved}
use Rattle.cx_sharing.proofs.GrowLemmas.{stays_meet}

-- nothing was given to any of them
abbrev AreBare : List Kept → Type 0
AreBare ks = (k : Kept) → In ks k → k.given ≡ []

bare_keeps : (ks : List Kept) → AreBare ks → (c : ℕ) → keeper_in ks c ≡ c
bare_keeps [] bare c = refl
bare_keeps (k ∷ ks) bare c = ap (λ given. if is_in c given then k.cell else keeper_in ks c) (bare k (inl refl)) ∙ bare_keeps ks (λ l i. bare l (inr i)) c

-- where none takes a cell it is kept by itself
give_bare : (part : PlainComponent) (n : ℕ) (ks : List Kept) → AreBare ks → ((k : Kept) → In ks k → takes part n k ≡ false) → AreBare (give part n ks)
give_bare part n [] bare none k (inl e) = ap (λ (z : Kept). z.given) (sym e)
give_bare part n [] bare none k (inr i) = absurd i
give_bare part n (l ∷ ks) bare none k i = by (takes part n l) (none l (inl refl)) i (give_bare part n ks (λ z j. bare z (inr j)) (λ z j. none z (inr j)) k)
  where
    by : (b : Bool) → b ≡ false → In (if b then record { cell = l.cell; given = n ∷ l.given } ∷ ks else l ∷ give part n ks) k → (In (give part n ks) k → k.given ≡ []) → k.given ≡ []
    by true e j later = absurd (cc)
    by false e (inl same) later = bare k (inl same)
    by false e (inr j) later = later j

module _ (part : PlainComponent) where
  abbrev twin : PlainComponent
  twin = shared_part part

  -- a cell of the shared component stands for one that stays
  old : (e : ℕ) → e < length twin.cells → StandsAt (stays part) (length part.cells) e
  old e lt = let same = length_left (stays part) part.cells in stands_at (stays part) (length part.cells) e (omega (arith, lt, same))

  -- what some moved assignment drives of a cell that is no candidate
  driven_back : (list : List PlainAssign) (c : ℕ) → is_candidate part c ≡ false → assigns_drive (map (moved_assign (renamed (new_cell part))) list) (new_cell part c) ≡ true → assigns_drive list c ≡ true
  driven_back [] c none e = e
  driven_back (a ∷ rest) c none e =
      ⊎_elim (λ here. or_left (targets_cell a.target c) (assigns_drive rest c) (sym (target_back a.target) ∙ here)) (λ later. or_right (targets_cell a.target c) (assigns_drive rest c) (driven_back rest c none later))
      (or_cases (targets_cell (renamed (new_cell part) a.target) (new_cell part c)) (assigns_drive (map (moved_assign (renamed (new_cell part))) rest) (new_cell part c)) e)
    where
      target_back : (p : PortRef) → targets_cell (renamed (new_cell part) p) (new_cell part c) ≡ targets_cell p c
      target_back (ports.Cell d n) = own_equal_back part d c none
      target_back (ports.Input n) = refl
      target_back (ports.Output n) = refl
      target_back (ports.Done g) = refl
      target_back (ports.Literal w v) = refl

  groups_back : (list : List PlainGroup) (c : ℕ) → is_candidate part c ≡ false
      → list_any (λ (g : PlainGroup). assigns_drive g.assigns (new_cell part c)) (map (moved_group (renamed (new_cell part))) list) ≡ true → list_any (λ (g : PlainGroup). assigns_drive g.assigns c) list ≡ true
  groups_back [] c none e = e
  groups_back (g ∷ rest) c none e =
      ⊎_elim (λ here. or_left (assigns_drive g.assigns c) (list_any (λ (x : PlainGroup). assigns_drive x.assigns c) rest) (driven_back g.assigns c none here))
      (λ later. or_right (assigns_drive g.assigns c) (list_any (λ (x : PlainGroup). assigns_drive x.assigns c) rest) (groups_back rest c none later))
      (or_cases (assigns_drive (map (moved_assign (renamed (new_cell part))) g.assigns) (new_cell part c)) (list_any (λ (x : PlainGroup). assigns_drive x.assigns (new_cell part c)) (map (moved_group (renamed (new_cell part))) rest)) e)

  -- A CANDIDATE of the shared component stands for a candidate
  candidate_back : (e : ℕ) (lt : e < length twin.cells) → is_candidate twin e ≡ true → is_candidate part (old e lt).cell ≡ true
  candidate_back e lt on = by (is_candidate part c) refl
    where
      c : ℕ
      c = (old e lt).cell

      number : new_cell part c ≡ e
      number = stays_is part c (old e lt).on ∙ (old e lt).number

      kind : kind_in twin.cells e ≡ kind_in part.cells c
      kind = ap (kind_in twin.cells) (sym (old e lt).number) ∙ kind_left (stays part) part.cells c (old e lt).on (old e lt).within

      three : (a b d : Bool) → (a && b && d) ≡ true → (a ≡ true) × (b ≡ true) × (d ≡ true)
      three true true true h = (refl, refl, refl)
      three true true false h = absurd (cc)
      three true false d h = absurd (cc)
      three false b d h = absurd (cc)

      all : (is_combinational (kind_in twin.cells e) ≡ true) × (list_any (λ (g : PlainGroup). assigns_drive g.assigns e) twin.groups ≡ true) × (not (assigns_use twin.always e) ≡ true)
      all = three (is_combinational (kind_in twin.cells e)) (list_any (λ (g : PlainGroup). assigns_drive g.assigns e) twin.groups) (not (assigns_use twin.always e)) on

      unread : (b : Bool) → assigns_use part.always c ≡ b → not b ≡ true
      unread false is = refl
      unread true is =
          absurd (both_ways (assigns_use twin.always e) (from_not (assigns_use twin.always e) all.2)
          (ap (assigns_use twin.always) (sym number) ∙ assigns_moved (new_cell part) c part.always is))

      by : (b : Bool) → is_candidate part c ≡ b → b ≡ true
      by true is = refl
      by false none =
          let combines : is_combinational (kind_in part.cells c) ≡ true = ap is_combinational (sym kind) ∙ all.0 in
          let driven : list_any (λ (g : PlainGroup). assigns_drive g.assigns c) part.groups ≡ true =
          groups_back part.groups c none (ap (λ n. list_any (λ (g : PlainGroup). assigns_drive g.assigns n) twin.groups) number ∙ all.1) in
          sym none
          ∙ ap (λ a. a && list_any (λ (g : PlainGroup). assigns_drive g.assigns c) part.groups && not (assigns_use part.always c)) combines
          ∙ ap (λ a. true && a && not (assigns_use part.always c)) driven
          ∙ unread (assigns_use part.always c) refl

  staying_less : (c d : ℕ) → staying (stays part) c < staying (stays part) d → c < d
  staying_less c d lt = ⊎_elim (λ h. h) (λ le. let whole : (c - d) + d ≡ c = omega (arith, le) in let more : staying (stays part) d ≤ staying (stays part) c = subst (λ n. staying (stays part) d ≤ staying (stays part) n) whole (staying_more (stays part) d (c - d)) in absurd (omega (arith, lt, more))) (cases_lt c d)

  -- none takes a later one
  refused : (e : ℕ) → e < length twin.cells → is_candidate twin e ≡ true → (k : Kept) → k.given ≡ [] → k.cell < e → is_candidate twin k.cell ≡ true → takes twin e k ≡ false
  refused e lt on k bare before first = by (same_kind (kind_in twin.cells k.cell) (kind_in twin.cells e)) refl
    where
      below : k.cell < length twin.cells
      below = omega (arith, lt, before)

      x : StandsAt (stays part) (length part.cells) k.cell
      x = old k.cell below

      y : StandsAt (stays part) (length part.cells) e
      y = old e lt

      order : x.cell < y.cell
      order = let one = x.number in let two = y.number in staying_less x.cell y.cell (omega (arith, one, two, before))

      kinds : (n : ℕ) (z : StandsAt (stays part) (length part.cells) n) → kind_in twin.cells n ≡ kind_in part.cells z.cell
      kinds n z = ap (kind_in twin.cells) (sym z.number) ∙ kind_left (stays part) part.cells z.cell z.on z.within

      meets : same_kind (kind_in twin.cells k.cell) (kind_in twin.cells e) ≡ true → meet twin k.cell e ≡ true
      meets same =
          let r = stays_meet part x.cell y.cell order y.within (candidate_back k.cell below first) (candidate_back e lt on) (eqb-true (keeper part x.cell) x.cell x.on) (eqb-true (keeper part y.cell) y.cell y.on)
          (ap (λ z. same_kind z (kind_in part.cells y.cell)) (sym (kinds k.cell x)) ∙ ap (same_kind (kind_in twin.cells k.cell)) (sym (kinds e y)) ∙ same) in
          let one : new_cell part r.0 ≡ k.cell = ap (staying (stays part)) r.1 ∙ x.number in
          let two : new_cell part y.cell ≡ e = stays_is part y.cell y.on ∙ y.number in
          ap (λ z. meet twin z e) (sym one) ∙ ap (meet twin (new_cell part r.0)) (sym two)
          ∙ meet_moved (new_cell part) part twin refl refl r.0 y.cell r.2

      by : (b : Bool) → same_kind (kind_in twin.cells k.cell) (kind_in twin.cells e) ≡ b → (b && list_all (λ z. not (meet twin z e)) (k.cell ∷ k.given)) ≡ false
      by false differ = refl
      by true same = ap (λ b. not b && list_all (λ z. not (meet twin z e)) k.given) (meets same)

  kept_bare : (n : ℕ) → n ≤ length twin.cells → AreBare (kept_after twin n)
  kept_bare zero le = λ k i. absurd i
  kept_bare (suc n) le = by (is_candidate twin n) refl (kept_bare n (omega (arith, le)))
    where
      by : (b : Bool) → is_candidate twin n ≡ b → AreBare (kept_after twin n) → AreBare (if b then give twin n (kept_after twin n) else kept_after twin n)
      by false off bare = bare
      by true on bare =
          give_bare twin n (kept_after twin n) bare
          (λ k i. let fine = (kept_sound twin n).fine k i in refused n (omega (arith, le)) on k (bare k i) (fine.below k.cell (inl refl)) (fine.candidates k.cell (inl refl)))

  -- EACH CELL of the shared component stands for itself
  pub keeps_each : (c : ℕ) → keeper twin c ≡ c
  keeps_each c = bare_keeps (kept_of twin) (kept_bare (length twin.cells) (omega arith)) c

no_rows_from : (part : PlainComponent) → ((c : ℕ) → keeper part c ≡ c) → (c more : ℕ) → rows_from part c more ≡ []
no_rows_from part own c zero = refl
no_rows_from part own c (suc more) = ap (λ b. if b then rows_from part (suc c) more else row_of part c ∷ rows_from part (suc c) more) (eq-eqb (keeper part c) c (own c)) ∙ no_rows_from part own (suc c) more

pub once_keeps : (d : PlainDesign) (k c : ℕ) → keeper (component_at (shared_design d) k) c ≡ c
once_keeps d k c = ap (λ part. keeper part c) (shared_component d k) ∙ keeps_each (component_at d k) c

-- and of the whole design no row is told
none_told : (parts : List PlainComponent) → flat_map rows_of (map shared_part parts) ≡ []
none_told [] = refl
none_told (part ∷ parts) =
    ap (λ rows. rows ++ flat_map rows_of (map shared_part parts)) (no_rows_from (shared_part part) (keeps_each part) 0 (length (shared_part part).cells)) ∙ none_told parts

pub once_told : (d : PlainDesign) → flat_map rows_of (shared_design d).components ≡ []
once_told d = none_told d.components
