-- The conditions on a group that starts a cell, which ask nothing of the instance.
use Rattle.std.specs.Prelude.{ℕ, Bool, false, ◌&&◌, ◌||◌, List, Option, Some, None, length, nat_eq}
use Rattle.cx_prim.specs.Rows.{Row}
use Rattle.cx_meaning.specs.declared.ports.PortRef.TheVariants as ports
use Rattle.cx_meaning.specs.Active.{same_port}
use Rattle.cx_meaning.specs.Designs.{PlainAssign, PlainGroup}
use Rattle.cx_rules.specs.CallShape.{one, with_target, is_always, is_negated, is_port_of}
use Rattle.cx_rules.specs.ShapeRules.{some_target}
use Rattle.cx_promotion.specs.Promotable.{is_pipe}

abbrev pub drives_start : ℕ → List PlainAssign → Option ℕ → Bool
drives_start c assigns None = false
drives_start c assigns (Some e) = some_target (same_port (ports.Cell c e)) assigns

abbrev pub drives_right : PlainGroup → ℕ → ℕ → Row → PlainAssign → Bool
drives_right x c p row a =
    is_port_of c a.target && (same_port a.source.port one &&
    (is_always a.guard || (is_pipe row.shape && is_negated (ports.Cell c p) a.guard)))
    && nat_eq (length (with_target a.target x.assigns)) 1
