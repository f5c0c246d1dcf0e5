-- WHAT A PORT IS SEEN AS, the port of the renamed cell is seen as.
use Rattle.std.proofs.Common.{◌≡◌, ℕ, refl, ◌∙◌}
use Rattle.cx_meaning.specs.declared.ports.PortRef.{PortRef}
use Rattle.cx_meaning.specs.declared.ports.PortRef.TheVariants as ports
use Rattle.cx_meaning.specs.declared.sights.Seen.{Seen}
use Rattle.cx_meaning.specs.Instances.{Instance, At, cells_of, cell_at, State}
use Rattle.cx_meaning.specs.Active.{Active}
use Rattle.cx_meaning.specs.Sights.{Held, Sees, seen}
use Rattle.cx_rules.specs.Circles.{IsAcyclic, AcyclicBelow}
use Rattle.cx_rules.proofs.FoundLemmas.{seen_solves}
use Rattle.cx_rewrites.specs.Moves.{CellMoves, to_row, to_child, to_nothing, Moves}
use Rattle.cx_rewrites.specs.Renaming.{renamed, AtLike, same_row, like_child, both_nothing, Renames}
use Rattle.cx_rewrites.proofs.MoveLemmas.{driven_alike, seen_moves, found_moves}

module _ {i j : Instance} {cell : ℕ → ℕ} {held twin_held : Held} {act more : Active} {s z : State} {inside : PortRef → Type 0}
    (renames : Renames i j cell held twin_held act more s z inside) (acyclic : IsAcyclic j more) (deeper : AcyclicBelow (cells_of j)) where
  cell_renamed : (c p : ℕ) (at to : At) → cell_at (cells_of i) c ≡ at → cell_at (cells_of j) (cell c) ≡ to → AtLike at to → inside (ports.Cell c p)
      → CellMoves (renamed cell) i j act more s z c p
  cell_renamed c p at to e f (same_row row) here = to_row row (cell c) e f (λ q. refl) (renames.rows c p row here e)
  cell_renamed c p at to e f (like_child child other same) here =
      to_child child other (cell c) p e f refl (same p) (renames.dones c p here) (λ n x sees. renames.children c n child x e sees)
  cell_renamed c p at to e f both_nothing here = to_nothing (cell c) p e f refl

  pub renames_move : Moves (renamed cell) i j held twin_held act more s z inside
  renames_move = record {
    closed = renames.parts.closed;
    literals = λ w v here. refl;
    inputs = λ n here. seen_solves j twin_held more z acyclic deeper (ports.Input n) ∙ renames.inputs n here;
    outputs = λ n here. refl;
    holes = λ g here. refl;
    cells = λ c p here. cell_renamed c p (cell_at (cells_of i) c) (cell_at (cells_of j) (cell c)) refl refl (renames.parts.cells c p here) here;
    targets = λ p undriven here. driven_alike (renamed cell) i j act more (seen j twin_held more z) p undriven (renames.parts.drives p here);
  }

  -- THE LAW: a port is seen as the port of the renamed cell is
  pub seen_renamed : (p : PortRef) (x : Seen) → inside p → Sees i held act s p x → seen j twin_held more z (renamed cell p) ≡ x
  seen_renamed p x here sees = seen_moves (renamed cell) i j held twin_held act more s z inside renames_move acyclic deeper p x here sees

  pub found_renamed : IsAcyclic i act → AcyclicBelow (cells_of i) → (p : PortRef) → inside p → seen j twin_held more z (renamed cell p) ≡ seen i held act s p
  found_renamed first_acyclic first_deeper p here = found_moves (renamed cell) i j held twin_held act more s z inside renames_move acyclic deeper first_acyclic first_deeper p here
