-- The step that is found leads to the instance of the number.
use Rattle.std.proofs.Common.{◌≡◌, ℕ, suc, ◌+◌, ◌-◌, ◌^◌, ◌<◌, ◌≤◌, nat_lt, Bool, false, inl, inr, ⊎_elim, List, [], ◌∷◌, length, get_or, Option, Some, None, refl, sym, ap, ◌∙◌, subst, arith, if◌then◌else◌}
use Rattle.std.specs.List.{slice_get}
use Rattle.std.proofs.lemmas.Bool.{cases_lt, ltb-true, lt-ltb, false_from_ne_true}
use Rattle.std.proofs.lemmas.List.{length-map}
use Rattle.std.proofs.lemmas.Option.{slice_get-map}
use Rattle.cx_meaning.specs.Designs.{PlainKind, OfPrimitive, OfComponent, PlainCell}
use Rattle.cx_meaning.specs.Instances.{Instance, Path, add_cell, cells_for, behind, paths_of, paths_below}
use Rattle.cx_text.specs.Members.{In}
use Rattle.cx_rules.specs.Sizes.{instances_below}
use Rattle.cx_design_sizes.specs.Capped.{capped}
use Rattle.cx_design_sizes.specs.declared.tallies.LimitTally.{LimitTally}
use Rattle.cx_design_sizes.specs.Tallies.{tally_of, no_tally}
use Rattle.cx_state.specs.declared.steps.Step.{Step}
use Rattle.cx_state.specs.Steps.{instances_at, component_in, step_below}
use Rattle.cx_state.proofs.TreeLemmas.{count_paths}
use Rattle.cx_text.proofs.ListLaws.{behind as slice_get-append, append-front}
use Rattle.cx_text.proofs.OptionLaws.{none_is_some, map_some}

-- a step among cells from the number c on, to the instance that is number r below them, whose path this is
pub record IsStep (trees : ℕ → Instance) (cells : List PlainCell) (c r : ℕ) (path : Path) (step : Step) : Type 0 where
  pub entered : PlainCell
  pub number : ℕ
  pub stands : slice_get cells number ≡ Some entered
  pub at : step.cell ≡ c + number
  pub leads : entered.kind ≡ OfComponent step.component
  pub rest : Path
  pub is : path ≡ step.cell ∷ rest
  pub below : slice_get (paths_of (trees step.component)) step.left ≡ Some rest
  pub less : step.left ≤ r

abbrev pub IsStepOf : (ℕ → Instance) → List PlainCell → ℕ → ℕ → Path → Option Step → Type 0
IsStepOf trees cells c r path None = ⊥
IsStepOf trees cells c r path (Some step) = IsStep trees cells c r path step

shifted : (trees : ℕ → Instance) (first : PlainCell) (cells : List PlainCell) (c r s : ℕ) (path : Path) (next : Option Step) → s ≤ r
    → IsStepOf trees cells (suc c) s path next → IsStepOf trees (first ∷ cells) c r path next
shifted trees first cells c r s path None le h = absurd h
shifted trees first cells c r s path (Some step) le h = record {
  entered = h.entered;
  number = suc h.number;
  stands = h.stands;
  at = h.at ∙ (let e : suc c + h.number ≡ c + suc h.number = omega arith in e);
  leads = h.leads;
  rest = h.rest;
  is = h.is;
  below = h.below;
  less = under h.less;
}
  where
    under : step.left ≤ s → step.left ≤ r
    under less = omega arith

abbrev step_at : List LimitTally → PlainKind → List PlainCell → ℕ → ℕ → Bool → Option Step
step_at tallies kind cells c r b =
    if b then Some (record { cell = c; component = component_in kind; left = r }) else step_below tallies cells (suc c) (r - instances_at tallies kind)

found_kind : (trees : ℕ → Instance) (tallies : List LimitTally) (first : PlainCell) (cells : List PlainCell) (c r : ℕ) (path : Path) (kind : PlainKind) → r < 2 ^ 64 - 1 → first.kind ≡ kind
    → ((j : ℕ) → kind ≡ OfComponent j → get_or tallies j no_tally ≡ tally_of (trees j))
    → ((s : ℕ) → s ≤ r → slice_get (paths_below (cells_for trees cells) (suc c)) s ≡ Some path → IsStepOf trees cells (suc c) s path (step_below tallies cells (suc c) s))
    → slice_get (paths_below (add_cell trees kind (cells_for trees cells)) c) r ≡ Some path
    → IsStepOf trees (first ∷ cells) c r path (step_at tallies kind cells c r (nat_lt r (instances_at tallies kind)))
found_kind trees tallies first cells c r path (OfPrimitive p) small is known later e =
    subst (λ b. IsStepOf trees (first ∷ cells) c r path (step_at tallies (OfPrimitive p) cells c r b)) (sym none)
    (shifted trees first cells c r (r - 0) path (step_below tallies cells (suc c) (r - 0)) (omega arith) (later (r - 0) (omega arith) (ap (slice_get (paths_below (cells_for trees cells) (suc c))) same ∙ e)))
  where
    same : r - 0 ≡ r
    same = omega arith

    none : nat_lt r 0 ≡ false
    none = false_from_ne_true (nat_lt r 0) (λ h. (let lt : r < 0 = ltb-true r 0 h in omega arith))
found_kind trees tallies first cells c r path (OfComponent j) small is known later e = ⊎_elim inside past (cases_lt r (instances_below (trees j)))
  where
    own : List Path
    own = behind c (paths_of (trees j))

    size : length (behind c (paths_of (trees j))) ≡ instances_below (trees j)
    size = length-map (paths_of (trees j)) (λ path. c ∷ path) ∙ count_paths (trees j)

    count : instances_at tallies (OfComponent j) ≡ capped (instances_below (trees j))
    count = ap (λ t. t.instances) (known j refl)

    inside : r < instances_below (trees j) → IsStepOf trees (first ∷ cells) c r path (step_at tallies (OfComponent j) cells c r (nat_lt r (instances_at tallies (OfComponent j))))
    inside lt =
        let in_own : r < length (behind c (paths_of (trees j))) = omega (arith, size) in
        let here : slice_get (behind c (paths_of (trees j))) r ≡ Some path = sym (append-front (behind c (paths_of (trees j))) (paths_below (cells_for trees cells) (suc c)) r in_own) ∙ e in
        let q : (x : Path) × (slice_get (paths_of (trees j)) r ≡ Some x) × (c ∷ x ≡ path) = map_some (λ x. c ∷ x) (slice_get (paths_of (trees j)) r) path (sym (slice_get-map (λ x. c ∷ x) (paths_of (trees j)) r) ∙ here) in
        let within : r < instances_at tallies (OfComponent j) = subst (λ n. r < n) (sym count) (omega arith) in
        subst (λ b. IsStepOf trees (first ∷ cells) c r path (step_at tallies (OfComponent j) cells c r b)) (sym (lt-ltb r (instances_at tallies (OfComponent j)) within))
        (record {
          entered = first;
          number = 0;
          stands = refl;
          at = (let z : c ≡ c + 0 = omega arith in z);
          leads = is;
          rest = q.0;
          is = sym q.2;
          below = q.1;
          less = omega arith;
        })

    past : instances_below (trees j) ≤ r → IsStepOf trees (first ∷ cells) c r path (step_at tallies (OfComponent j) cells c r (nat_lt r (instances_at tallies (OfComponent j))))
    past ge =
        let whole : instances_at tallies (OfComponent j) ≡ instances_below (trees j) = count ∙ (let z : capped (instances_below (trees j)) ≡ instances_below (trees j) = omega arith in z) in
        let none : nat_lt r (instances_at tallies (OfComponent j)) ≡ false =
        false_from_ne_true (nat_lt r (instances_at tallies (OfComponent j))) (λ h. (let lt : r < instances_at tallies (OfComponent j) = ltb-true r (instances_at tallies (OfComponent j)) h in omega (arith, whole))) in
        let split : r ≡ length (behind c (paths_of (trees j))) + (r - instances_at tallies (OfComponent j)) = omega (arith, whole, size) in
        let there : slice_get (paths_below (cells_for trees cells) (suc c)) (r - instances_at tallies (OfComponent j)) ≡ Some path =
        sym (slice_get-append (behind c (paths_of (trees j))) (paths_below (cells_for trees cells) (suc c)) r (r - instances_at tallies (OfComponent j)) split) ∙ e in
        subst (λ b. IsStepOf trees (first ∷ cells) c r path (step_at tallies (OfComponent j) cells c r b)) (sym none)
        (shifted trees first cells c r (r - instances_at tallies (OfComponent j)) path (step_below tallies cells (suc c) (r - instances_at tallies (OfComponent j))) (omega arith)
        (later (r - instances_at tallies (OfComponent j)) (omega arith) there))

pub found : (trees : ℕ → Instance) (tallies : List LimitTally) (cells : List PlainCell) (c r : ℕ) (path : Path) → r < 2 ^ 64 - 1
    → ((cell : PlainCell) (j : ℕ) → In cells cell → cell.kind ≡ OfComponent j → get_or tallies j no_tally ≡ tally_of (trees j))
    → slice_get (paths_below (cells_for trees cells) c) r ≡ Some path → IsStepOf trees cells c r path (step_below tallies cells c r)
found trees tallies [] c r path small known e = absurd (none_is_some path e)
found trees tallies (cell ∷ cells) c r path small known e =
    found_kind trees tallies cell cells c r path cell.kind small refl (λ j is. known cell j (inl refl) is)
    (λ s le at. found trees tallies cells (suc c) s path (let lt : r < 2 ^ 64 - 1 = small in omega arith) (λ x j i is. known x j (inr i) is) at) e
