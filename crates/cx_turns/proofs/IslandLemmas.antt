-- What an island is: which forms are islands, which groups are active in a cycle of one, and what is asked.
use Rattle.std.proofs.Common.{◌≡◌, ℕ, ◌<◌, ◌≤◌, ◌-◌, ◌^◌, true, List, [], length, get_or, inl, refl, sym, ap, ◌∙◌, subst, arith}
use Rattle.cx_text.specs.declared.places.Place.{Place}
use Rattle.cx_text.specs.declared.limits.TheConstants.{REPETITIONS}
use Rattle.cx_meaning.specs.Designs.{PlainDesign, PlainComponent, PlainForm}
use Rattle.cx_meaning.specs.Instances.{Instance, Path, part_of, instance_at, paths_of, tree_of}
use Rattle.cx_meaning.specs.Active.{Entry, entries}
use Rattle.cx_text.specs.Members.{In}
use Rattle.cx_meaning.specs.Islands.{History, form_length, form_flat, active_in}
use Rattle.cx_rules.specs.Items.{Visited, Dynamic, statements_in}
use Rattle.cx_rules.specs.StaticControl.{is_island}
use Rattle.cx_laws.specs.Positions.{active_at}
use Rattle.cx_laws.specs.Samples.{Samples, active_by, AreKept}
use Rattle.cx_interp_islands.specs.Sampled.{AreSampled}
use Rattle.cx_design.specs.declared.actives.Active.{Active}
use Rattle.cx_design.specs.declared.actives.Active.TheVariants as actives
use Rattle.cx_design.specs.PlainActives.{plain_active}
use Rattle.cx_design_sizes.specs.Capped.{capped}
use Rattle.cx_eval_drives.specs.Actives.{CanBeActive}
use Rattle.cx_state.specs.Tables.{IsNumber}
use Rattle.cx_eval.specs.Evaluated.{CanAct}
use Rattle.cx_turns.specs.Islands.{IsIsland}
use Rattle.cx_turns.specs.Machines.{FormStands}
use Rattle.cx_turns.specs.Rooms.{HasActive}
use Rattle.std.proofs.lemmas.Option.{slice_get-get_or}

-- an island of dynamic control, among the statements of its component
abbrev pub there : PlainForm → Place → Visited
there form place = record { context = Dynamic; form = form; place = place }

pub stands_there : (d : PlainDesign) (n : ℕ) (form : PlainForm) (stands : FormStands d n form) (path : Path) → IsNumber d n path → In (statements_in (part_of (instance_at (tree_of d) path))) (there form stands.0)
stands_there d n form (place, stands) path number = stands path (there form place) number (inl refl)

-- a length below 2^64 - 1 is no count that stops
pub uncapped : (n m : ℕ) → n < m → m ≤ 2 ^ 64 - 1 → capped n ≡ n
uncapped n m lt le = grind arith

module _ (part : PlainComponent) (form : PlainForm) (t : ℕ) (next : Samples) (sampled : AreSampled part t form next)
    (by_samples : (h : History) → AreKept part h t form next → active_by part next t form ≡ active_at part h t form)
    (by_timers : (h : History) → active_in h t (form_flat part form 0 []) ≡ active_at part h t form) where
  -- the groups that run by the samples are those of the flat list
  pub active_is : active_by part next t form ≡ active_in sampled.0 t (form_flat part form 0 [])
  active_is = by_samples sampled.0 sampled.1 ∙ sym (by_timers sampled.0)

-- what is active is such a list
pub entries_are : (i : Instance) (active : Active) (list : List Entry) → HasActive active list → plain_active i active ≡ entries list
entries_are i actives.Nothing list e = absurd e
entries_are i (actives.Group g) list e = absurd e
entries_are i (actives.CallEnd g) list e = absurd e
entries_are i (actives.Entries v) list e = ap entries e

can_be : (i : Instance) (v : Visited) (h : History) (t : ℕ) (active : Active) (list : List Entry) → HasActive active list → In (statements_in (part_of i)) v → list ≡ active_in h t (form_flat (part_of i) v.form 0 []) → CanBeActive i active
can_be i v h t actives.Nothing list e stands is = absurd e
can_be i v h t (actives.Group g) list e stands is = absurd e
can_be i v h t (actives.CallEnd g) list e stands is = absurd e
can_be i v h t (actives.Entries entries) list e stands is = (v, h, t, stands, e ∙ is)

-- the groups of a cycle can be active
pub can_run : (d : PlainDesign) (n t : ℕ) (form : PlainForm) (part : PlainComponent) (h : History) (active : Active) (list : List Entry) → FormStands d n form → ((path : Path) → IsNumber d n path → part ≡ part_of (instance_at (tree_of d) path))
    → HasActive active list → list ≡ active_in h t (form_flat part form 0 []) → CanAct d n active
can_run d n t form part h active list stands is_part has is path number =
    can_be (instance_at (tree_of d) path) (there form stands.0) h t active list has (stands_there d n form stands path number)
    (subst (λ (p : PlainComponent). list ≡ active_in h t (form_flat p form 0 [])) (is_part path number) is)

-- an island of an accepted design is short
pub island_short : (d : PlainDesign) (n : ℕ) (form : PlainForm) (part : PlainComponent) → n < length (paths_of (tree_of d)) → FormStands d n form → IsIsland d n form → ((path : Path) → IsNumber d n path → part ≡ part_of (instance_at (tree_of d) path))
    → ((path : Path) (v : Visited) → In (statements_in (part_of (instance_at (tree_of d) path))) v → is_island (part_of (instance_at (tree_of d) path)) v ≡ true → form_length (part_of (instance_at (tree_of d) path)) v.form < REPETITIONS)
    → form_length part form < REPETITIONS
island_short d n form part lt stands is_island is_part law =
    let path : Path = get_or (paths_of (tree_of d)) n [] in
    let number : IsNumber d n path = slice_get-get_or (paths_of (tree_of d)) n [] lt in
    subst (λ (p : PlainComponent). form_length p form < REPETITIONS) (sym (is_part path number)) (law path (there form stands.0) (stands_there d n form stands path number) (is_island path number))

pub length_told : (part : PlainComponent) (form : PlainForm) (length : ℕ) → form_length part form < REPETITIONS → length ≡ capped (form_length part form) → length ≡ form_length part form
length_told part form length short is = is ∙ uncapped (form_length part form) REPETITIONS short (omega arith)
