-- AN INSTANCE OF THE OLD DESIGN AND THE ONE OF THE NEW DESIGN at its place: how the new component was made, and what the rules keep in the old one.
use Rattle.std.specs.Prelude.{◌≡◌, ◌<◌, ℕ, true, [], None, length}
use Rattle.cx_prim.specs.Rows.{Row}
use Rattle.cx_prim.specs.Table.{PrimitiveRow, row_of}
use Rattle.cx_meaning.specs.declared.ports.PlacedPort.{PlacedPort}
use Rattle.cx_meaning.specs.Instances.{Instance, At, Nothing, OfRow, OfInstance, part_of, cells_of, cell_at}
use Rattle.cx_meaning.specs.Active.{group, entries, Owned, source_order}
use Rattle.cx_text.specs.Members.{In}
use Rattle.cx_meaning.specs.Islands.{History, active_in, form_flat}
use Rattle.cx_meaning.specs.Laws.{AllRows}
use Rattle.cx_meaning.specs.Rows.{KeepsIdle}
use Rattle.cx_rules.specs.Circles.{IsAcyclic, AreAcyclic}
use Rattle.cx_rules.specs.Items.{Visited, statements_in, sources_of, ranges_of}
use Rattle.cx_rules.specs.Ports.{is_target_only}
use Rattle.cx_rules.specs.ShapeRules.{owner_length}
use Rattle.cx_rules.specs.StaticControl.{is_in_static, may_stand}
use Rattle.cx_rules.specs.Wellformed.{IsAssign, IsForm}
use Rattle.cx_frames.proofs.RuleLemmas.{IsKept}
use Rattle.cx_promotion.specs.Made.{PartMade}

-- a cell of an instance, and the same cell where the tree goes on
pub data KindAt : At → At → Type 0 where
  no_cell : (other : At) → KindAt Nothing other
  a_row : {row : Row} → KindAt (OfRow row) (OfRow row)
  a_part : {child other : Instance} → KindAt (OfInstance child) (OfInstance other)

pub record MadeBeside (i j : Instance) : Type 0 where
  -- the component of the old design, and the whole tree below it
  pub whole : Instance
  pub same : part_of whole ≡ part_of i
  pub cells : (c : ℕ) → KindAt (cell_at (cells_of i) c) (cell_at (cells_of whole) c)
  pub made : PartMade whole (part_of i) (part_of j)
  pub acyclic : AreAcyclic i
  pub groups : (g : ℕ) → g < length (part_of i).groups → IsAcyclic i (group g)
  pub entries : (v : Visited) (h : History) (t : ℕ) → In (statements_in (part_of i)) v → IsAcyclic i (entries (active_in h t (form_flat (part_of i) v.form 0 [])))
  pub keeps_idle : AllRows KeepsIdle i
  pub rows : (c : ℕ) (row : Row) → cell_at (cells_of i) c ≡ OfRow row → (p : PrimitiveRow) × (row_of p ≡ row)
  pub kept : IsKept i
  pub assigns : (o : Owned) → In (source_order (part_of i)) o → IsAssign whole o.owner o.assign
  pub no_sink : (o : Owned) → In (source_order (part_of i)) o → (p : PlacedPort) → In (sources_of o.assign) p → is_target_only whole p.port ≡ true → ⊥
  pub ranges : (o : Owned) → In (source_order (part_of i)) o → owner_length (part_of i) o.owner ≡ None → ranges_of o.assign.guard ≡ []
  pub statics : (v : Visited) → In (statements_in (part_of i)) v → is_in_static v.context ≡ true → may_stand (part_of i) v.context v.form ≡ true
  pub statements : (v : Visited) → In (statements_in (part_of i)) v → IsForm (part_of i) v.form
