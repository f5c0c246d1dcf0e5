-- Groups, assignments and wires that are promoted one by one.
use Rattle.std.proofs.Common.{◌≡◌, Bool, false, List, [], ◌∷◌, ◌++◌, map, sym, ap, ◌∙◌, subst, append_assoc, if◌then◌else◌}
use Rattle.cx_ast.specs.declared.operands.OperandForm.{OperandForm}
use Rattle.cx_ast.specs.declared.wiring.AssignItem.{AssignItem}
use Rattle.cx_ast.specs.declared.wiring.GroupItem.{GroupItem}
use Rattle.cx_ast.specs.declared.wiring.WireItem.{WireItem}
use Rattle.cx_ast.specs.declared.wiring.WireItem.TheVariants as wire_items
use Rattle.cx_ast.specs.PlainTree.{PlainAssign, PlainGroup, PlainWire, plain_assign, plain_group, plain_wire}
use Rattle.cx_numbering.specs.Names.{groups_in}
use Rattle.cx_promotion.specs.Rewriting.{is_hole_item, bare_enable, promote_assigns}
use Rattle.cx_promote.specs.Lengths.{Begins}
use Rattle.cx_promote.proofs.ListLemmas.{mapped_push}

-- an assignment more is kept
pub kept_next : (test : OperandForm → Bool) (new old left rest : List AssignItem) (item x : AssignItem) (whole : List PlainAssign)
    → new ≡ old ++ x ∷ [] → left ≡ item ∷ rest → is_hole_item item.target.form ≡ false → plain_assign x ≡ bare_enable test (plain_assign item)
    → map plain_assign old ++ promote_assigns test (map plain_assign left) ≡ whole
    → map plain_assign new ++ promote_assigns test (map plain_assign rest) ≡ whole
kept_next test new old left rest item x whole e there stays is so_far =
    let after = promote_assigns test (map plain_assign rest) in
    ap (λ before. before ++ after) (mapped_push plain_assign new old x e)
    ∙ append_assoc (map plain_assign old) (plain_assign x ∷ []) after
    ∙ ap (λ a. map plain_assign old ++ a ∷ after) is
    ∙ sym (ap (λ (hole : Bool). map plain_assign old ++ (if hole then after else bare_enable test (plain_assign item) ∷ after)) stays)
    ∙ sym (ap (λ items. map plain_assign old ++ promote_assigns test (map plain_assign items)) there)
    ∙ so_far

-- a wire more is made
pub wires_next : (f : PlainWire → PlainWire) (new old left rest : List WireItem) (wire x : WireItem) (whole : List PlainWire)
    → new ≡ old ++ x ∷ [] → left ≡ wire ∷ rest → plain_wire x ≡ f (plain_wire wire)
    → map plain_wire old ++ map f (map plain_wire left) ≡ whole
    → map plain_wire new ++ map f (map plain_wire rest) ≡ whole
wires_next f new old left rest wire x whole e there is so_far =
    let after = map f (map plain_wire rest) in
    ap (λ before. before ++ after) (mapped_push plain_wire new old x e)
    ∙ append_assoc (map plain_wire old) (plain_wire x ∷ []) after
    ∙ ap (λ w. map plain_wire old ++ w ∷ after) is
    ∙ sym (ap (λ items. map plain_wire old ++ map f (map plain_wire items)) there)
    ∙ so_far

-- what begins with what is left begins with the next group, and with what is behind an assignment
module _ {B : Type 0} (f : PlainGroup → B) (found : List B) (left rest : List WireItem) (wire : WireItem) (there : left ≡ wire ∷ rest) where
  pub begins_group : (item : GroupItem) → wire ≡ wire_items.Group item → Begins f found (groups_in (map plain_wire left))
      → Begins f found (plain_group item ∷ groups_in (map plain_wire rest))
  begins_group item is b = subst (λ ws. Begins f found (groups_in (map plain_wire ws))) (there ∙ ap (λ w. w ∷ rest) is) b

  pub begins_assign : (item : AssignItem) → wire ≡ wire_items.Assign item → Begins f found (groups_in (map plain_wire left))
      → Begins f found (groups_in (map plain_wire rest))
  begins_assign item is b = subst (λ ws. Begins f found (groups_in (map plain_wire ws))) (there ∙ ap (λ w. w ∷ rest) is) b
