-- A cycle leaves alone what nothing active drives.
use Rattle.std.proofs.Common.{◌≡◌, ℕ, Bool, true, false, [], ◌∷◌, None, if◌then◌else◌, refl, sym, ap, ◌∙◌}
use Rattle.std.proofs.Math.Path.{fun_ext}
use Rattle.std.proofs.lemmas.Bool.{both_ways}
use Rattle.cx_text.specs.Members.{In}
use Rattle.cx_prim.specs.CellStates.{CellState}
use Rattle.cx_prim.specs.Rows.{Row}
use Rattle.cx_meaning.specs.declared.ports.PortRef.TheVariants as ports
use Rattle.cx_meaning.specs.declared.sights.FaultKind.{FaultKind}
use Rattle.cx_meaning.specs.Rows.{side_of}
use Rattle.cx_meaning.specs.Instances.{Instance, Node, Cells, OfRow, OfInstance, cell_at, cell_count, cells_of, part_of, Path, State, Set, merge, idle_at, idle}
use Rattle.cx_meaning.specs.Active.{Active, Owned, source_order}
use Rattle.cx_meaning.specs.Sights.{Look, Held, seen}
use Rattle.cx_meaning.specs.Cycles.{Fault, Outcome, Next, Stops, enables, cell_outcome, outcome_of, stepped, state_after, Goes, Faults, ended, cycle_of, every_cell}
use Rattle.cx_meaning.proofs.CycleLemmas.{goes_to, faults_with, one_stops, outcome_cases, state_after-same}
use Rattle.cx_rules.specs.Ports.{is_primitive_enable}
use Rattle.cx_meaning.specs.Calls.{enables_at}
use Rattle.cx_rules.proofs.ForeignLemmas.{foreign_zero}
use Rattle.cx_frames.specs.Rests.{IsUndriven, IsSettledAt, IsKeptAt}
use Rattle.cx_frames.proofs.QuietLemmas.{cell_outcome-idle}
use Rattle.cx_frames.proofs.EnableLemmas.{HasLawfulRows, BareEnablesNothing}
use Rattle.cx_meaning.proofs.InstancesLemmas.{idle_below-row, top_idle}
use Rattle.cx_prim.proofs.PortsLemmas.{is_enable_side-Enable}

pub idle_at-row : (i : Instance) (c : ℕ) (row : Row) (state : CellState) → cell_at (cells_of i) c ≡ OfRow row → idle_at i (c ∷ []) state ≡ row.idle state
idle_at-row (Node part cells) c row state e = idle_below-row cells c row state e

-- a cell that does not change where it steps does not change
stepped_same : (listed : Set) (look : Look) (cells : Cells) (s : State) (c : ℕ) → ((row : Row) → cell_at cells c ≡ OfRow row → stepped (s (c ∷ [])) (cell_outcome look c row (s (c ∷ []))) ≡ s (c ∷ [])) → stepped (s (c ∷ [])) (outcome_of listed look cells s c) ≡ s (c ∷ [])
stepped_same listed look cells s c h = outcome_cases (λ o. stepped (s (c ∷ [])) o ≡ s (c ∷ [])) listed look cells s c (λ row at on. h row at) refl

module _ (i : Instance) (held : Held) (act : Active) (listed : Set) (s after : State) (goes : cycle_of i held act listed s ≡ Goes after) where
  left : state_after (outcome_of listed (seen i held act s) (cells_of i) s) s ≡ after
  left = (goes_to _ _ after goes).1

  -- there is nothing at the instance itself
  pub cycle_keeps_root : after [] ≡ s []
  cycle_keeps_root = ap (λ (t : State). t []) (sym left)

  at_cell : (c : ℕ) → ((row : Row) → cell_at (cells_of i) c ≡ OfRow row → stepped (s (c ∷ [])) (cell_outcome (seen i held act s) c row (s (c ∷ []))) ≡ s (c ∷ [])) → IsKeptAt s after c
  at_cell c h below = ap (λ (t : State). t (c ∷ below)) (sym left) ∙ state_after-same (outcome_of listed (seen i held act s) (cells_of i) s) s c (stepped_same listed (seen i held act s) (cells_of i) s c h) below

  -- a component cell stays as it is
  pub cycle_keeps_children : (c : ℕ) (child : Instance) → cell_at (cells_of i) c ≡ OfInstance child → IsKeptAt s after c
  cycle_keeps_children c child stands = at_cell c (λ row other. absurd (different row (sym stands ∙ other)))
    where
      different : (row : Row) → OfInstance child ≡ OfRow row → ⊥
      different row e = cc

module _ (i : Instance) (quiet : HasLawfulRows i) (bare : BareEnablesNothing i) (held : Held) (act : Active) (s : State) (c : ℕ) (undriven : IsUndriven (part_of i) act c) where
  no_bare : (p : ℕ) (row : Row) → cell_at (cells_of i) c ≡ OfRow row → enables row p ≡ true → (o : Owned) → In (source_order (part_of i)) o → o.owner ≡ None → o.assign.target ≡ ports.Cell c p → ⊥
  no_bare p row stands enabling o j none target =
      let on : is_primitive_enable i o.assign.target ≡ true = ap (is_primitive_enable i) target ∙ ap (λ at. enables_at at p) stands ∙ enabling in
      both_ways (is_primitive_enable i o.assign.target) (bare o j none) on

  -- a cell that nothing active drives makes an idle step
  pub undriven_idles : (row : Row) → cell_at (cells_of i) c ≡ OfRow row → cell_outcome (seen i held act s) c row (s (c ∷ [])) ≡ Next (row.idle (s (c ∷ [])))
  undriven_idles row stands =
      cell_outcome-idle (seen i held act s) c row (s (c ∷ [])) (quiet c row stands)
      (λ p enabling. foreign_zero i act c p (no_bare p row stands enabling) undriven row stands (is_enable_side-Enable (side_of row p) enabling) held s)

  -- so it stays as it is where it is settled
  pub undriven_stays : IsSettledAt i s c → (row : Row) → cell_at (cells_of i) c ≡ OfRow row → stepped (s (c ∷ [])) (cell_outcome (seen i held act s) c row (s (c ∷ []))) ≡ s (c ∷ [])
  undriven_stays settled row stands =
      ap (stepped (s (c ∷ []))) (undriven_idles row stands) ∙ sym (idle_at-row i c row (s (c ∷ [])) stands) ∙ settled []

  pub cycle_keeps : (listed : Set) (after : State) → IsSettledAt i s c → cycle_of i held act listed s ≡ Goes after → IsKeptAt s after c
  cycle_keeps listed after settled goes = at_cell i held act listed s after goes c (undriven_stays settled)

-- a fault of a cycle is at a cell that does not go on
cell_is : (c d p q : ℕ) → ports.Cell c p ≡ ports.Cell d q → c ≡ d
cell_is c d p q e = cc

goes_or_stops : (o : Outcome) (kind : FaultKind) (p : ℕ) → o ≡ Stops kind p → (next : CellState) × (o ≡ Next next) → ⊥
goes_or_stops o kind p stops (next, goes) = let wrong : Stops kind p ≡ Next next = sym stops ∙ goes in absurd (cc)

module _ (i : Instance) (quiet : HasLawfulRows i) (bare : BareEnablesNothing i) (held : Held) (act : Active) (s : State) (c : ℕ) (undriven : IsUndriven (part_of i) act c) where
  goes_here : (listed : Set) → (next : CellState) × (outcome_of listed (seen i held act s) (cells_of i) s c ≡ Next next)
  goes_here listed =
      outcome_cases (λ o. (next : CellState) × (o ≡ Next next)) listed (seen i held act s) (cells_of i) s c
      (λ row stands on. (row.idle (s (c ∷ [])), undriven_idles i quiet bare held act s c undriven row stands)) (s (c ∷ []), refl)

  pub cycle_faults_elsewhere : (listed : Set) (fault : Fault) (p : ℕ) → cycle_of i held act listed s ≡ Faults fault → fault.port ≡ ports.Cell c p → ⊥
  cycle_faults_elsewhere listed fault p faults at_cell =
      let r = one_stops (outcome_of listed (seen i held act s) (cells_of i) s) 0 (cell_count (cells_of i)) fault (faults_with _ _ fault faults) in
      let same : r.cell ≡ c = cell_is r.cell c r.port p (ap (λ f. f.port) r.told ∙ at_cell) in
      goes_or_stops (outcome_of listed (seen i held act s) (cells_of i) s c) r.kind r.port (ap (outcome_of listed (seen i held act s) (cells_of i) s) (sym same) ∙ r.stops) (goes_here listed)

-- THE LISTED CELLS SUFFICE where the others are undriven and settled: each cell comes to the same
module _ (i : Instance) (quiet : HasLawfulRows i) (bare : BareEnablesNothing i) (held : Held) (act : Active) (s : State) (listed : Set)
    (undriven : (c : ℕ) → listed c ≡ false → IsUndriven (part_of i) act c) (settled : (c : ℕ) → listed c ≡ false → IsSettledAt i s c) where
  stays : (c : ℕ) → listed c ≡ false → Next (s (c ∷ [])) ≡ outcome_of every_cell (seen i held act s) (cells_of i) s c
  stays c off =
      outcome_cases (λ o. Next (s (c ∷ [])) ≡ o) every_cell (seen i held act s) (cells_of i) s c
      (λ row stands on. sym (undriven_idles i quiet bare held act s c (undriven c off) row stands ∙ ap Next (sym (idle_at-row i c row (s (c ∷ [])) stands) ∙ settled c off []))) refl

  if_listed : (b : Bool) (x y : Outcome) → (b ≡ false → y ≡ x) → (if b then x else y) ≡ x
  if_listed true x y h = refl
  if_listed false x y h = h refl

  pub listed_suffice : cycle_of i held act listed s ≡ cycle_of i held act every_cell s
  listed_suffice =
      ap (λ (outcome : ℕ → Outcome). ended outcome (cell_count (cells_of i)) s)
      (fun_ext (λ c. if_listed (listed c) (outcome_of every_cell (seen i held act s) (cells_of i) s c) (Next (s (c ∷ []))) (stays c)))

-- an idle turn changes listed cells alone
if_unlisted : (b : Bool) (x y : CellState) → (b ≡ false → x ≡ y) → x ≡ (if b then x else y)
if_unlisted true x y h = refl
if_unlisted false x y h = h refl

pub idle_listed : (i : Instance) (s : State) (listed : Set) → ((c : ℕ) → listed c ≡ false → IsSettledAt i s c) → (path : Path) → idle i s path ≡ merge listed (idle i s) s path
idle_listed i s listed settled [] = top_idle i (s [])
idle_listed i s listed settled (c ∷ path) = if_unlisted (listed c) (idle i s (c ∷ path)) (s (c ∷ path)) (λ off. settled c off path)
