use Rattle.std.specs.Prelude.{◌≡◌, ℕ, List}
use Rattle.std.proofs.Common.{◌∙◌, subst}
use Rattle.cx_prim.specs.declared.names.PrimitiveName.{PrimitiveName}
use Rattle.cx_prim.specs.PrimitiveNames.{IsNamed, name_text}
use Rattle.cx_vmods.proofs.NameLemmas.{named_one, unnamed_timer}
use Rattle.cx_vmods.proofs.names.name_of.Goals as goal

pub returns-in-Some : goal.returns-in-Some
returns-in-Some c =
    let text : c.as_bytes.result.now ≡ name_text c.args.primitive.now.name = c.as_bytes.ensures.value ∙ c.name.ensures.value in
    let named : IsNamed c.in-Some.name (name_text c.args.primitive.now.name) = subst (IsNamed c.in-Some.name) text c.in-Some.ensures.some in
    record { value = named_one c.in-Some.name c.args.primitive.now.name named }

pub returns-in-None : goal.returns-in-None
returns-in-None c =
    let text : c.as_bytes.result.now ≡ name_text c.args.primitive.now.name = c.as_bytes.ensures.value ∙ c.name.ensures.value in
    record { value = unnamed_timer c.args.primitive.now.name (subst (λ (t : List ℕ). (name : PrimitiveName) → IsNamed name t → ⊥) text c.in-None.ensures.none) }
