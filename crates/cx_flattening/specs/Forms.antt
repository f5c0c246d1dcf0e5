-- What is asked of a design whose own meaning is to be that without static components: what its statements and cells name is there.
use Rattle.std.specs.Prelude.{◌≡◌, ℕ, ◌<◌, length}
use Rattle.cx_meaning.specs.Designs.{OfComponent, PlainCell, PlainDesign, component_at}
use Rattle.cx_text.specs.Members.{In}
use Rattle.cx_rules.specs.Items.{Visited, statements_in}
use Rattle.cx_rules.specs.Wellformed.{IsForm}

-- each design of a text has it, whatever its size
pub record HasForms (d : PlainDesign) : Type 0 where
  pub main : d.main < length d.components
  pub forms : (k : ℕ) (v : Visited) → k < length d.components → In (statements_in (component_at d k)) v
      → IsForm (component_at d k) v.form
  pub kinds : (k j : ℕ) (cell : PlainCell) → k < length d.components → In (component_at d k).cells cell
      → cell.kind ≡ OfComponent j → j < length d.components
