-- The breaks of the stage are those of its three families of rules.
use Rattle.std.proofs.Common.{◌≡◌, ℕ, List, ◌++◌, Option, None, inl, inr, refl, sym, ap, ◌∙◌, subst, arith}
use Rattle.cx_text.specs.declared.places.Place.{Place}
use Rattle.cx_text.specs.declared.rules.Rule.{Rule}
use Rattle.cx_text.specs.declared.rules.Rule.TheVariants as rules
use Rattle.cx_meaning.specs.Designs.{PlainDesign}
use Rattle.cx_rules.specs.Spots.{Spot}
use Rattle.cx_rules.specs.Accepted.{Breaks, stage_of}
use Rattle.cx_design_parts.specs.Breaks.{Broken, first_of}
use Rattle.cx_design_parts.specs.Answers.{AreBreaks, AreBreaksBy, StageBreaks}
use Rattle.cx_design_parts.proofs.Lists.{first_append}
use Rattle.cx_design_parts.proofs.Families.{Either, breaks_of_either, breaks_of_same, breaks_of_stage}
use Rattle.cx_shape_rules.specs.ShapeBreaks.{ShapeFamily, shape_breaks}
use Rattle.cx_shape_rules.proofs.ShapeLemmas.{are_breaks as are_shape_breaks}
use Rattle.cx_shape_state.specs.StateBreaks.{StateBreaks, state_breaks}
use Rattle.cx_shape_state.proofs.StateLemmas.{are_breaks as are_state_breaks}
use Rattle.cx_shape_calls.specs.CallBreaks.{CallShapeBreaks}

-- a break of a stage by the rule that it is of
under_rule : (d : PlainDesign) (rule is : Rule) (spot : Spot) (place : Place) (name : List ℕ) → rule ≡ is → StageBreaks 4 d is spot place name → StageBreaks 4 d rule spot place name
under_rule d rule is spot place name e h = subst (λ r. StageBreaks 4 d r spot place name) (sym e) h

of_shape : (d : PlainDesign) (rule : Rule) (spot : Spot) (place : Place) (name : List ℕ) → ShapeFamily d rule spot place name → StageBreaks 4 d rule spot place name
of_shape d rule spot place name (inl o) = under_rule d rule rules.NoDone spot place name o.0 (refl, o.1)
of_shape d rule spot place name (inr (inl o)) = under_rule d rule rules.StaticShape spot place name o.0 (refl, inl o.1)
of_shape d rule spot place name (inr (inr (inl o))) = under_rule d rule rules.AlwaysEnable spot place name o.0 (refl, o.1)
of_shape d rule spot place name (inr (inr (inr (inl o)))) = under_rule d rule rules.CombEnable spot place name o.0 (refl, o.1)
of_shape d rule spot place name (inr (inr (inr (inr (inl o))))) = under_rule d rule rules.StaticGuard spot place name o.0 (refl, o.1)
of_shape d rule spot place name (inr (inr (inr (inr (inr (inl o)))))) = under_rule d rule rules.StaticShape spot place name o.0 (refl, inr (inl o.1))
of_shape d rule spot place name (inr (inr (inr (inr (inr (inr (inl o))))))) = under_rule d rule rules.StaticShape spot place name o.0 (refl, inr (inr (inl o.1)))
of_shape d rule spot place name (inr (inr (inr (inr (inr (inr (inr (inl o)))))))) = under_rule d rule rules.StaticShape spot place name o.0 (refl, inr (inr (inr (inr (inl o.1)))))
of_shape d rule spot place name (inr (inr (inr (inr (inr (inr (inr (inr o)))))))) = under_rule d rule rules.StaticShape spot place name o.0 (refl, inr (inr (inr (inr (inr o.1)))))

of_state : (d : PlainDesign) (rule : Rule) (spot : Spot) (place : Place) (name : List ℕ) → StateBreaks d rule spot place name → StageBreaks 4 d rule spot place name
of_state d rules.BadByte spot place name o = absurd o
of_state d rules.OpenComment spot place name o = absurd o
of_state d rules.OpenString spot place name o = absurd o
of_state d rules.BadLiteral spot place name o = absurd o
of_state d rules.Unexpected spot place name o = absurd o
of_state d rules.TooDeep spot place name o = absurd o
of_state d rules.Duplicate spot place name o = absurd o
of_state d rules.UnknownName spot place name o = absurd o
of_state d rules.UnknownPrimitive spot place name o = absurd o
of_state d rules.BadParameters spot place name o = absurd o
of_state d rules.Recursive spot place name o = absurd o
of_state d rules.NoMain spot place name o = absurd o
of_state d rules.LeftOut spot place name o = absurd o
of_state d rules.Width spot place name o = absurd o
of_state d rules.GuardWidth spot place name o = absurd o
of_state d rules.Literal spot place name o = absurd o
of_state d rules.NotATarget spot place name o = absurd o
of_state d rules.NotASource spot place name o = absurd o
of_state d rules.NoDone spot place name o = absurd o
of_state d rules.DoneNotState spot place name o = (refl, o)
of_state d rules.AlwaysEnable spot place name o = absurd o
of_state d rules.CombEnable spot place name o = absurd o
of_state d rules.StaticGuard spot place name o = absurd o
of_state d rules.StaticShape spot place name o = (refl, inr (inr (inr (inl o))))
of_state d rules.CallShape spot place name o = absurd o
of_state d rules.OutputNotState spot place name o = (refl, o)
of_state d rules.CombCycle spot place name o = absurd o
of_state d rules.Race spot place name o = absurd o
of_state d rules.Limit spot place name o = absurd o
of_state d rules.TooLarge spot place name o = absurd o

of_calls : (d : PlainDesign) (rule : Rule) (spot : Spot) (place : Place) (name : List ℕ) → CallShapeBreaks d rule spot place name → StageBreaks 4 d rule spot place name
of_calls d rule spot place name o = under_rule d rule rules.CallShape spot place name o.0 (refl, o.1)

-- the three families
abbrev Families : PlainDesign → Rule → Spot → Place → List ℕ → Type 0
Families d = Either (Either (ShapeFamily d) (StateBreaks d)) (CallShapeBreaks d)

of_families : (d : PlainDesign) (rule : Rule) (spot : Spot) (place : Place) (name : List ℕ) → Families d rule spot place name → StageBreaks 4 d rule spot place name
of_families d rule spot place name (inl (inl o)) = of_shape d rule spot place name o
of_families d rule spot place name (inl (inr o)) = of_state d rule spot place name o
of_families d rule spot place name (inr o) = of_calls d rule spot place name o

in_families : (d : PlainDesign) (rule : Rule) (spot : Spot) (place : Place) (name : List ℕ) → stage_of rule ≡ 4 → Breaks d rule spot place name → Families d rule spot place name
in_families d rules.BadByte spot place name h o = absurd o
in_families d rules.OpenComment spot place name h o = absurd o
in_families d rules.OpenString spot place name h o = absurd o
in_families d rules.BadLiteral spot place name h o = absurd o
in_families d rules.Unexpected spot place name h o = absurd o
in_families d rules.TooDeep spot place name h o = absurd o
in_families d rules.Duplicate spot place name h o = absurd o
in_families d rules.UnknownName spot place name h o = absurd o
in_families d rules.UnknownPrimitive spot place name h o = absurd o
in_families d rules.BadParameters spot place name h o = absurd o
in_families d rules.Recursive spot place name h o = absurd o
in_families d rules.NoMain spot place name h o = absurd o
in_families d rules.LeftOut spot place name h o = absurd o
in_families d rules.Width spot place name h o = absurd (omega (arith, h))
in_families d rules.GuardWidth spot place name h o = absurd (omega (arith, h))
in_families d rules.Literal spot place name h o = absurd (omega (arith, h))
in_families d rules.NotATarget spot place name h o = absurd (omega (arith, h))
in_families d rules.NotASource spot place name h o = absurd (omega (arith, h))
in_families d rules.NoDone spot place name h o = inl (inl (inl (refl, o)))
in_families d rules.DoneNotState spot place name h o = inl (inr o)
in_families d rules.AlwaysEnable spot place name h o = inl (inl (inr (inr (inl (refl, o)))))
in_families d rules.CombEnable spot place name h o = inl (inl (inr (inr (inr (inl (refl, o))))))
in_families d rules.StaticGuard spot place name h o = inl (inl (inr (inr (inr (inr (inl (refl, o)))))))
in_families d rules.StaticShape spot place name h (inl o) = inl (inl (inr (inl (refl, o))))
in_families d rules.StaticShape spot place name h (inr (inl o)) = inl (inl (inr (inr (inr (inr (inr (inl (refl, o))))))))
in_families d rules.StaticShape spot place name h (inr (inr (inl o))) = inl (inl (inr (inr (inr (inr (inr (inr (inl (refl, o)))))))))
in_families d rules.StaticShape spot place name h (inr (inr (inr (inl o)))) = inl (inr o)
in_families d rules.StaticShape spot place name h (inr (inr (inr (inr (inl o))))) = inl (inl (inr (inr (inr (inr (inr (inr (inr (inl (refl, o))))))))))
in_families d rules.StaticShape spot place name h (inr (inr (inr (inr (inr o))))) = inl (inl (inr (inr (inr (inr (inr (inr (inr (inr (refl, o))))))))))
in_families d rules.CallShape spot place name h o = inr (refl, o)
in_families d rules.OutputNotState spot place name h o = inl (inr o)
in_families d rules.CombCycle spot place name h o = absurd (omega (arith, h))
in_families d rules.Race spot place name h o = absurd (omega (arith, h))
in_families d rules.Limit spot place name h o = absurd (omega (arith, h))
in_families d rules.TooLarge spot place name h o = absurd o

are_breaks : (d : PlainDesign) (calls : List Broken) → AreBreaksBy (CallShapeBreaks d) calls → AreBreaks 4 d (shape_breaks d ++ state_breaks d ++ calls)
are_breaks d calls h =
    let front = breaks_of_either (ShapeFamily d) (StateBreaks d) (shape_breaks d) (state_breaks d) (are_shape_breaks d) (are_state_breaks d) in
    let all = breaks_of_either (Either (ShapeFamily d) (StateBreaks d)) (CallShapeBreaks d) (shape_breaks d ++ state_breaks d) calls front h in
    breaks_of_stage 4 d (shape_breaks d ++ state_breaks d ++ calls)
    (breaks_of_same (Families d) (StageBreaks 4 d) (shape_breaks d ++ state_breaks d ++ calls) (of_families d) (λ rule spot place name o. in_families d rule spot place name o.0 o.1) all)

-- what is kept past the three
pub joined : (d : PlainDesign) (none one two three : Option Broken) → none ≡ None → one ≡ first_of none (shape_breaks d) → two ≡ first_of one (state_breaks d)
    → (calls : List Broken) × AreBreaksBy (CallShapeBreaks d) calls × (three ≡ first_of two calls)
    → (found : List Broken) × AreBreaks 4 d found × (three ≡ first_of None found)
joined d none one two three e f g h =
    let calls = h.0 in
    let front : two ≡ first_of None (shape_breaks d ++ state_breaks d) =
    g ∙ ap (λ b. first_of b (state_breaks d)) (f ∙ ap (λ b. first_of b (shape_breaks d)) e) ∙ sym (first_append None (shape_breaks d) (state_breaks d)) in (
      shape_breaks d ++ state_breaks d ++ calls,
      are_breaks d calls h.1,
      h.2 ∙ ap (λ b. first_of b calls) front ∙ sym (first_append None (shape_breaks d ++ state_breaks d) calls),
    )
