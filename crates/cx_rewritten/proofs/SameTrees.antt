-- TREES THAT ARE THE SAME apart from places: their designs are, and one is accepted where the other is.
use Rattle.std.proofs.Common.{◌≡◌, ℕ, zero, suc, List, [], ◌∷◌, codes, map, get_or, None, length, refl, sym, ap, ◌∙◌}
use Rattle.std.specs.List.{AllByRecursion}
use Rattle.cx_text.proofs.ListLaws.{length-map}
use Rattle.cx_ast.specs.PlainTree as ast
use Rattle.cx_print.specs.Places.{bare_component, without_places}
use Rattle.cx_meaning.specs.Designs.{no_component}
use Rattle.cx_meaning.specs.Designs as plain
use Rattle.cx_rules.specs.Accepted.{IsAccepted}
use Rattle.cx_numbering.specs.Names.{component_names}
use Rattle.cx_numbering.specs.DesignOf.{number_or_0, component_of, design_of}
use Rattle.cx_numbering.specs.NameRules.{name_breaks, names_break, first_break}
use Rattle.cx_rewrites.specs.Places.{SamePart, SameDesign}
use Rattle.cx_check.specs.Acceptance.{IsAcceptedTree}
use Rattle.cx_rewritten.specs.Ordered.{places_in, Rise, IsInOrder}
use Rattle.cx_rewritten.proofs.BareNames.{component_names-bare}
use Rattle.cx_rewritten.proofs.BareControl.{inputs-bare, outputs-bare, cells-bare, groups-bare, invokes-bare, always-bare, control-bare}
use Rattle.cx_rewritten.proofs.BareItems.{bare_break}
use Rattle.cx_rewritten.proofs.BareTrees.{name_breaks-bare}
use Rattle.cx_rewritten.proofs.WrittenOrder.{bare_order, order-bare}
use Rattle.cx_names.proofs.Base.{first_none}

-- DESIGNS
same_part : (old new : ast.PlainTree) (part other : ast.PlainComponent) → without_places old ≡ without_places new → bare_component part ≡ bare_component other → Rise (places_in part) → Rise (places_in other)
    → SamePart (component_of old part) (component_of new other)
same_part old new part other e f h k =
    let between : component_of (without_places old) (bare_component part) ≡ component_of (without_places new) (bare_component other) =
    ap (λ t. component_of t (bare_component part)) e ∙ ap (component_of (without_places new)) f in
    let order : bare_order (without_places old) (bare_component part) ≡ bare_order (without_places new) (bare_component other) =
    ap (λ t. bare_order t (bare_component part)) e ∙ ap (bare_order (without_places new)) f in
    record {
      name = ap (λ (c : ast.PlainComponent). c.name) f;
      latency = ap (λ (c : ast.PlainComponent). c.length) f;
      inputs = inputs-bare old part ∙ ap (λ (c : plain.PlainComponent). c.inputs) between ∙ sym (inputs-bare new other);
      outputs = outputs-bare old part ∙ ap (λ (c : plain.PlainComponent). c.outputs) between ∙ sym (outputs-bare new other);
      cells = cells-bare old part ∙ ap (λ (c : plain.PlainComponent). c.cells) between ∙ sym (cells-bare new other);
      groups = groups-bare old part ∙ ap (λ (c : plain.PlainComponent). c.groups) between ∙ sym (groups-bare new other);
      always = always-bare old part ∙ ap (λ (c : plain.PlainComponent). c.always) between ∙ sym (always-bare new other);
      order = order-bare old part h ∙ order ∙ sym (order-bare new other k);
      invokes = invokes-bare old part ∙ ap (λ (c : plain.PlainComponent). c.invokes) between ∙ sym (invokes-bare new other);
      control = control-bare old part ∙ ap (λ (c : plain.PlainComponent). c.control) between ∙ sym (control-bare new other);
    }

no_parts : SamePart no_component no_component
no_parts = record { name = refl; latency = refl; inputs = refl; outputs = refl; cells = refl; groups = refl; always = refl; order = refl; invokes = refl; control = refl }

same_parts : (old new : ast.PlainTree) → without_places old ≡ without_places new → (parts others : List ast.PlainComponent) → map bare_component parts ≡ map bare_component others
    → AllByRecursion (λ part. Rise (places_in part)) parts → AllByRecursion (λ part. Rise (places_in part)) others → (k : ℕ)
    → SamePart (get_or (map (component_of old) parts) k no_component) (get_or (map (component_of new) others) k no_component)
same_parts old new e [] [] f h i k = no_parts
same_parts old new e [] (other ∷ others) f h i k = absurd cc
same_parts old new e (part ∷ parts) [] f h i k = absurd cc
same_parts old new e (part ∷ parts) (other ∷ others) f h i zero = same_part old new part other e (cc) h.0 i.0
same_parts old new e (part ∷ parts) (other ∷ others) f h i (suc k) = same_parts old new e parts others (cc) h.1 i.1 k

pub same_design : (old new : ast.PlainTree) → without_places old ≡ without_places new → IsInOrder old → IsInOrder new → SameDesign (design_of old) (design_of new)
same_design old new e h i =
    let parts : map bare_component old.components ≡ map bare_component new.components = ap (λ (t : ast.PlainTree). t.components) e in
    record {
      main = ap (number_or_0 (codes "main")) (sym (component_names-bare old) ∙ ap component_names e ∙ component_names-bare new);
      count = length-map (component_of old) old.components ∙ sym (length-map bare_component old.components) ∙ ap (λ list. length list) parts ∙ length-map bare_component new.components ∙ sym (length-map (component_of new) new.components);
      parts = same_parts old new e old.components new.components parts h i;
    }

-- NAMES: there is no first break where there is none

none_mapped : {A B : Type 0} (f : A → B) (xs : List A) → map f xs ≡ [] → xs ≡ []
none_mapped f [] e = refl
none_mapped f (x ∷ xs) e = absurd cc

same_names : (old new : ast.PlainTree) → without_places old ≡ without_places new → names_break old ≡ None → names_break new ≡ None
same_names old new e h =
    let none : map bare_break (name_breaks new) ≡ [] = name_breaks-bare new ∙ ap name_breaks (sym e) ∙ sym (name_breaks-bare old) ∙ ap (map bare_break) (first_none (name_breaks old) h) in
    ap first_break (none_mapped bare_break (name_breaks new) none)

-- ACCEPTED where the other is, and its design with it
pub same_accepted : (old new : ast.PlainTree) → without_places old ≡ without_places new → (IsAccepted (design_of old) → IsAccepted (design_of new)) → IsAcceptedTree old → IsAcceptedTree new
same_accepted old new e designs h = record { named = same_names old new e h.named; accepted = designs h.accepted }
