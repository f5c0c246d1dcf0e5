-- WHAT IS SEEN in an instance is seen in the shared one, under groups whose cells meet; and nothing leads in a circle there.
use Rattle.std.proofs.Common.{◌≡◌, ℕ, Bool, true, false, [], ◌∷◌, refl, sym, ap, ◌∙◌, arith}
use Rattle.cx_text.proofs.BoolLaws.{not_not}
use Rattle.cx_prim.specs.Rows.{Inputs, Row}
use Rattle.cx_prim.specs.Table.{row_of}
use Rattle.cx_meaning.specs.declared.ports.PortRef.{PortRef}
use Rattle.cx_meaning.specs.declared.ports.PortRef.TheVariants as ports
use Rattle.cx_meaning.specs.declared.sights.Seen.{Seen}
use Rattle.cx_meaning.specs.Designs.{PlainComponent}
use Rattle.cx_meaning.specs.Instances.{Instance, At, OfRow, OfInstance, cell_at, cells_of, part_of, State, under}
use Rattle.cx_meaning.specs.Active.{Active, nothing}
use Rattle.cx_meaning.specs.Sights.{Held, unheld, Sees, seen, outputs_below, is_done_cell}
use Rattle.cx_rules.specs.Circles.{IsAcyclic}
use Rattle.cx_rewrites.specs.Renaming.{renamed, IsRenamed, Renames}
use Rattle.cx_rewrites.proofs.RenamedLemmas.{seen_renamed, found_renamed}
use Rattle.cx_sharing.specs.Uses.{is_stateless}
use Rattle.cx_sharing.specs.Giving.{new_cell}
use Rattle.cx_sharing.specs.Following.{has_state, SharedStands}
use Rattle.cx_sharing.proofs.RowLemmas.{stateless_row}
use Rattle.cx_sharing.proofs.UsedLemmas.{Inside, Covers, UsedMeet}
use Rattle.cx_sharing.proofs.TwinLemmas.{AtTwin, no_twins, twin_rows, twin_parts, IsTwin, row_twin, child_twin}
use Rattle.cx_sharing.proofs.SharedParts.{AtShared, no_cell, a_row, a_part, Shares}
use Rattle.cx_sharing.proofs.CirclesShared.{is_renamed, cycle_comes_back}
use Rattle.cx_sharing.proofs.TwinStates.{row_state, child_state}
use Rattle.cx_meaning.proofs.SightsLemmas.{outputs_at}
use Rattle.cx_meaning.proofs.CycleLemmas.{cell_beyond}

-- what stands at a cell, and beyond the cells
at_shared : {part : PlainComponent} {c : ℕ} {at to : At} → AtTwin part c at to → AtShared part c at to
at_shared no_twins = no_cell
at_shared (twin_rows p kind) = a_row p kind
at_shared (twin_parts k child twin kind beside) = a_part k child twin kind beside.part

pub shares_of : {i j : Instance} → IsTwin i j → Shares i j
shares_of {j = j} twin = record { part = twin.part; cells = λ c. at_shared (twin.cells c); past = λ e le. let count = twin.count in cell_beyond (cells_of j) e (omega (arith, count, le)) }

module _ (i j : Instance) (twin : IsTwin i j) (act more : Active) (offsets : (g : ℕ) → more.offset g ≡ act.offset g)
    (used : ℕ → Type 0) (covers : Covers (part_of i) used act) (meets : UsedMeet (part_of i) used) where
  abbrev new : ℕ → ℕ
  new = new_cell (part_of i)

  pub parts_renamed : IsRenamed i j new act more (Inside (part_of i) used)
  parts_renamed = is_renamed i j (shares_of twin) act more offsets used covers meets

  -- NOTHING LEADS IN A CIRCLE there, where nothing does here
  pub acyclic_there : IsAcyclic i act → IsAcyclic j more
  acyclic_there acyclic cycle = acyclic (cycle_comes_back i j (shares_of twin) act more offsets used covers meets cycle)

  module _ (held : Held) (s z : State) (stands : SharedStands i s z) (dones : (c : ℕ) → is_done_cell act.done_cell c ≡ is_done_cell more.done_cell (new c)) where
    rows_alike : (c n : ℕ) (row : Row) → cell_at (cells_of i) c ≡ OfRow row → (inputs : Inputs) → row.output (s (c ∷ [])) inputs n ≡ row.output (z (new c ∷ [])) inputs n
    rows_alike c n row at inputs = by (has_state row) refl
      where
        by : (b : Bool) → has_state row ≡ b → row.output (s (c ∷ [])) inputs n ≡ row.output (z (new c ∷ [])) inputs n
        by true has = ap (λ state. row.output state inputs n) (sym (row_state i s z c row stands at has))
        by false none =
            let r = row_twin row (twin.cells c) at in
            let stateless : is_stateless (row_of r.0).shape ≡ true = ap (λ (x : Row). is_stateless x.shape) r.1 ∙ not_not (is_stateless row.shape) none in
            ap (λ (x : Row). x.output (s (c ∷ [])) inputs n) (sym r.1)
            ∙ (stateless_row r.0 stateless).output (s (c ∷ [])) (z (new c ∷ [])) inputs n
            ∙ ap (λ (x : Row). x.output (z (new c ∷ [])) inputs n) r.1

    children_alike : (c n : ℕ) (child : Instance) (x : Seen) → cell_at (cells_of i) c ≡ OfInstance child → Sees child unheld nothing (under c s) (ports.Output n) x
        → outputs_below (cells_of j) (λ e. under e z) (new c) n ≡ x
    children_alike c n child x at sees =
        let r = child_twin child (twin.cells c) at in
        outputs_at (cells_of j) (λ e. under e z) (new c) n r.1 r.3
        ∙ r.4.outputs (under c s) (under (new c) z) n x (child_state i s z c child stands at) sees

    all_renamed : Renames i j new held held act more s z (Inside (part_of i) used)
    all_renamed = record {
      parts = parts_renamed;
      rows = λ c n row here at inputs. rows_alike c n row at inputs;
      dones = λ c n here. dones c;
      inputs = λ n here. refl;
      children = children_alike;
    }

    -- A PORT INSIDE is seen as the port of the cell that stands for its cell
    pub sees_there : IsAcyclic i act → (p : PortRef) (x : Seen) → Inside (part_of i) used p → Sees i held act s p x → seen j held more z (renamed new p) ≡ x
    sees_there acyclic p x here sees = seen_renamed all_renamed (acyclic_there acyclic) twin.below p x here sees

    pub seen_there : IsAcyclic i act → (p : PortRef) → Inside (part_of i) used p → seen j held more z (renamed new p) ≡ seen i held act s p
    seen_there acyclic p here = found_renamed all_renamed (acyclic_there acyclic) twin.below acyclic twin.first_below p here
