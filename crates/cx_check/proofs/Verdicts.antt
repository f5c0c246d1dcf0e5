-- A tree has one verdict.
use Rattle.std.proofs.Common.{◌≡◌, ℕ, List, Some, None, inl, inr, refl, sym, ap, subst}
use Rattle.std.specs.Prelude.{Result, Ok, Err, IfOk, IfErr, MatchResult}
use Rattle.cx_text.specs.declared.places.Place.{Place}
use Rattle.cx_text.specs.declared.rules.Rule.{Rule}
use Rattle.cx_text.specs.declared.rules.Rule.TheVariants as rules
use Rattle.cx_text.specs.declared.diagnostics.Diagnostic.{Diagnostic}
use Rattle.cx_ast.specs.PlainTree.{PlainTree}
use Rattle.cx_meaning.specs.Designs.{PlainDesign}
use Rattle.cx_rules.specs.Spots.{Spot}
use Rattle.cx_rules.specs.Accepted.{Breaks, FirstBreak, IsAccepted}
use Rattle.cx_rules.proofs.OneBreak.{one_break, one_break_name}
use Rattle.cx_numbering.specs.DesignOf.{design_of}
use Rattle.cx_numbering.specs.NameRules.{names_break}
use Rattle.cx_design.specs.declared.refusals.Refusal.{Refusal}
use Rattle.cx_design.specs.declared.refusals.Refusal.TheVariants as refusals
use Rattle.cx_check.specs.Verdicts.{IsRefusal, IsSame, TellsAs}
use Rattle.cx_names.specs.Refused.{IfRule}
use Rattle.cx_check.specs.Acceptance.{IsAcceptedTree, TreeBreak, IsTreeRefusal}
use Rattle.cx_text.proofs.OptionLaws.{one_value, none_or_some}

-- THE FIRST BREAK of a design is one
one_first : (d : PlainDesign) (a b : Diagnostic) → FirstBreak d a → FirstBreak d b → IsSame d a b
one_first d a b h k =
    let one = one_break d a b h k in
    record { rule = one.0; place = one.1; name = λ placed. one_break_name d a b placed h k }

-- an accepted design has no first break
early : (d : PlainDesign) (rule : Rule) (spot : Spot) (place : Place) (name : List ℕ) → IsAccepted d → Breaks d rule spot place name → ⊥
early d rules.BadByte spot place name h b = b
early d rules.OpenComment spot place name h b = b
early d rules.OpenString spot place name h b = b
early d rules.BadLiteral spot place name h b = b
early d rules.Unexpected spot place name h b = b
early d rules.TooDeep spot place name h b = b
early d rules.Duplicate spot place name h b = b
early d rules.UnknownName spot place name h b = b
early d rules.UnknownPrimitive spot place name h b = b
early d rules.BadParameters spot place name h b = b
early d rules.Recursive spot place name h b = b
early d rules.NoMain spot place name h b = b
early d rules.LeftOut spot place name h b = b
early d rules.Width spot place name h b = h.widths rules.Width spot place name refl b
early d rules.GuardWidth spot place name h b = h.widths rules.GuardWidth spot place name refl b
early d rules.Literal spot place name h b = h.widths rules.Literal spot place name refl b
early d rules.NotATarget spot place name h b = h.widths rules.NotATarget spot place name refl b
early d rules.NotASource spot place name h b = h.widths rules.NotASource spot place name refl b
early d rules.NoDone spot place name h b = h.shapes rules.NoDone spot place name refl b
early d rules.DoneNotState spot place name h b = h.shapes rules.DoneNotState spot place name refl b
early d rules.AlwaysEnable spot place name h b = h.shapes rules.AlwaysEnable spot place name refl b
early d rules.CombEnable spot place name h b = h.shapes rules.CombEnable spot place name refl b
early d rules.StaticGuard spot place name h b = h.shapes rules.StaticGuard spot place name refl b
early d rules.StaticShape spot place name h b = h.shapes rules.StaticShape spot place name refl b
early d rules.CallShape spot place name h b = h.shapes rules.CallShape spot place name refl b
early d rules.OutputNotState spot place name h b = h.shapes rules.OutputNotState spot place name refl b
early d rules.CombCycle spot place name h b = h.no_cycles rules.CombCycle spot place name refl b
early d rules.Race spot place name h b = h.no_races rules.Race spot place name refl b
early d rules.Limit spot place name h b = h.limits rules.Limit spot place name refl b
early d rules.TooLarge spot place name h b = b

pub none_first : (d : PlainDesign) (told : Diagnostic) → IsAccepted d → FirstBreak d told → ⊥
none_first d told h k = early d told.rule k.first.spot told.place told.name h k.first.breaks

-- a refusal of a design tells each first break of it
pub first_told : (d : PlainDesign) (told : Diagnostic) (refusal : Refusal) → FirstBreak d told → IsRefusal d refusal → TellsAs d told refusal
first_told d told (refusals.Rule own) b h = one_first d own told h b
first_told d told refusals.Memory b h = tt

-- A TREE

pub accepted_once : (tree : PlainTree) (told : Diagnostic) → IsAcceptedTree tree → TreeBreak tree told → ⊥
accepted_once tree told h (inl b) = none_or_some (names_break tree) told h.named b
accepted_once tree told h (inr b) = none_first (design_of tree) told h.accepted b.1

as_one : (d : PlainDesign) (a b : Diagnostic) → a ≡ b → IsSame d a b
as_one d a b e = record { rule = ap (λ t. t.rule) e; place = ap (λ t. t.place) e; name = λ placed. ap (λ t. t.name) e }

pub refused_once : (tree : PlainTree) (a b : Diagnostic) → TreeBreak tree a → TreeBreak tree b → IsSame (design_of tree) a b
refused_once tree a b (inl h) (inl k) = as_one (design_of tree) a b (one_value (names_break tree) a b h k)
refused_once tree a b (inl h) (inr k) = absurd (none_or_some (names_break tree) a k.0 h)
refused_once tree a b (inr h) (inl k) = absurd (none_or_some (names_break tree) b h.0 k)
refused_once tree a b (inr h) (inr k) = one_first (design_of tree) a b h.1 k.1

-- a refusal of a tree tells as each that is true of it
pub tells_as : (tree : PlainTree) (told : Diagnostic) (refusal : Refusal) → TreeBreak tree told → IsTreeRefusal tree refusal → TellsAs (design_of tree) told refusal
tells_as tree told (refusals.Rule own) b h = refused_once tree own told h b
tells_as tree told refusals.Memory b h = tt

-- what the answer about a design says of its tree
pub accepted_of : {X : Type 0} (tree : PlainTree) (d : PlainDesign) (r : Result X Refusal) → names_break tree ≡ None → d ≡ design_of tree
    → IfOk r (λ _. IsAccepted d) → IfOk r (λ _. IsAcceptedTree tree)
accepted_of tree d (Ok x) named is h = record { named = named; accepted = subst IsAccepted is h }
accepted_of tree d (Err e) named is h = tt

of_design : (tree : PlainTree) (d : PlainDesign) (refusal : Refusal) → names_break tree ≡ None → d ≡ design_of tree → IsRefusal d refusal → IsTreeRefusal tree refusal
of_design tree d (refusals.Rule told) named is h = inr (named, subst (λ x. FirstBreak x told) is h)
of_design tree d refusals.Memory named is h = tt

pub refused_of : {X : Type 0} (tree : PlainTree) (d : PlainDesign) (r : Result X Refusal) → names_break tree ≡ None → d ≡ design_of tree
    → IfErr r (IsRefusal d) → IfErr r (IsTreeRefusal tree)
refused_of tree d (Ok x) named is h = tt
refused_of tree d (Err refusal) named is h = of_design tree d refusal named is h

-- what the answer of the rules on names says of its tree
pub refused_by_name : (X : Type 0) (tree : PlainTree) (refusal : Refusal) → IfRule {A = X} (Err refusal) (λ told. names_break tree ≡ Some told) → IsTreeRefusal tree refusal
refused_by_name X tree (refusals.Rule told) h = inl h
refused_by_name X tree refusals.Memory h = tt

pub all_told : {X : Type 0} (tree : PlainTree) (r : Result X Refusal) → IfOk r (λ _. IsAcceptedTree tree) → IfErr r (IsTreeRefusal tree) → (told : Diagnostic) → TreeBreak tree told
    → MatchResult r (λ _. ⊥) (TellsAs (design_of tree) told)
all_told tree (Ok x) accepted refused told b = accepted_once tree told accepted b
all_told tree (Err refusal) accepted refused told b = tells_as tree told refusal b refused
