-- What the conditions on a group come to, one by one; and the dones that a guard looks at, part by part.
use Rattle.std.proofs.Common.{◌≡◌, ℕ, Bool, true, false, ◌&&◌, ◌||◌, not, Option, Some, None, refl, sym, ap, ◌∙◌}
use Rattle.std.specs.List.{list_all, list_any}
use Rattle.std.proofs.lemmas.List.Folds.{list_any-append}
use Rattle.cx_prim.specs.declared.ports.PortName.TheVariants.{Done}
use Rattle.cx_prim.specs.Rows.{Row}
use Rattle.cx_meaning.specs.Designs.{PlainGuard, Always, Atom, Negation, All, Any, Compared, Within, PlainGuards, no_guards, a_guard, PlainAssign, PlainGroup}
use Rattle.cx_meaning.specs.Instances.{Instance, part_of}
use Rattle.cx_rules.specs.Items.{operands_of, operands_in}
use Rattle.cx_promotion.specs.Promotable.{is_done, is_named, looks_at_done, starting_port, starts, is_right, keeps_all}
use Rattle.cx_promote.specs.Looking.{guard_looks, guards_look}
use Rattle.cx_promote.specs.Starting.{drives_start}

module _ (i : Instance) (x : PlainGroup) (c p : ℕ) (row : Row) where
  starts-drives_start : (o : Option ℕ) → starts i x c p row o ≡ drives_start c x.assigns o
  starts-drives_start None = refl
  starts-drives_start (Some e) = refl

  -- the four conditions, each by a test
  pub keeps_all_by : (done starting right looks : Bool) → done ≡ is_named Done row.ports p → starting ≡ drives_start c x.assigns (starting_port row)
      → right ≡ list_all (is_right i x c p row) x.assigns → looks ≡ list_any (looks_at_done i) (part_of i).always
      → (((done && starting) && right) && not looks) ≡ keeps_all i x c p row
  keeps_all_by done starting right looks a b d e =
      ap (λ v. ((v && starting) && right) && not looks) a
      ∙ ap (λ v. ((is_named Done row.ports p && v) && right) && not looks) (b ∙ sym (starts-drives_start (starting_port row)))
      ∙ ap (λ v. ((is_named Done row.ports p && starts i x c p row (starting_port row)) && v) && not looks) d
      ∙ ap (λ v. ((is_named Done row.ports p && starts i x c p row (starting_port row)) && list_all (is_right i x c p row) x.assigns) && not v) e

module _ (i : Instance) where
  either-both : (a b : Bool) → (a || b) ≡ (a || (b || false))
  either-both true b = refl
  either-both false true = refl
  either-both false false = refl

  alone : (a : Bool) → a ≡ (a || false)
  alone true = refl
  alone false = refl

  mutual
    pub guard_looks-operands : (g : PlainGuard) → guard_looks i g ≡ list_any (λ q. is_done i q.port) (operands_of g)
    guard_looks-operands Always = refl
    guard_looks-operands (Atom q) = alone (is_done i q.port)
    guard_looks-operands (Negation g) = guard_looks-operands g
    guard_looks-operands (All gs) = guards_look-operands gs
    guard_looks-operands (Any gs) = guards_look-operands gs
    guard_looks-operands (Compared comparison a b) = either-both (is_done i a.port) (is_done i b.port)
    guard_looks-operands (Within from to) = refl

    guards_look-operands : (gs : PlainGuards) → guards_look i gs ≡ list_any (λ q. is_done i q.port) (operands_in gs)
    guards_look-operands no_guards = refl
    guards_look-operands (a_guard g gs) =
        ap (λ v. v || guards_look i gs) (guard_looks-operands g) ∙ ap (λ v. list_any (λ q. is_done i q.port) (operands_of g) || v) (guards_look-operands gs)
        ∙ sym (list_any-append (λ q. is_done i q.port) (operands_of g) (operands_in gs))

  -- an assignment, by its source and its guard
  pub looks_by : (a : PlainAssign) (source guard : Bool) → source ≡ is_done i a.source.port → guard ≡ guard_looks i a.guard → (source || guard) ≡ looks_at_done i a
  looks_by a source guard s g = ap (λ v. v || guard) s ∙ ap (λ v. is_done i a.source.port || v) (g ∙ guard_looks-operands a.guard)
