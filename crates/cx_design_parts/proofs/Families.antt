-- Lists that have the breaks of a family of breaks.
use Rattle.std.proofs.Common.{ℕ, List, ◌++◌, ◌⊎◌, inl, inr, ⊎_elim}
use Rattle.cx_text.proofs.MemberLaws.{in_either, in_left, in_right}
use Rattle.cx_text.specs.declared.places.Place.{Place}
use Rattle.cx_text.specs.declared.rules.Rule.{Rule}
use Rattle.cx_meaning.specs.Designs.{PlainDesign}
use Rattle.cx_rules.specs.Spots.{Spot}
use Rattle.cx_design_parts.specs.Breaks.{Broken}
use Rattle.cx_design_parts.specs.Answers.{AreBreaks, AreBreaksBy, StageBreaks}

-- of two families, the breaks of either
abbrev pub Either : (Rule → Spot → Place → List ℕ → Type 0) → (Rule → Spot → Place → List ℕ → Type 0) → Rule → Spot → Place → List ℕ → Type 0
Either F G rule spot place name = F rule spot place name ⊎ G rule spot place name

-- two lists in a row have the breaks of either family
pub breaks_of_either : (F G : Rule → Spot → Place → List ℕ → Type 0) (xs ys : List Broken) → AreBreaksBy F xs → AreBreaksBy G ys
    → AreBreaksBy (Either F G) (xs ++ ys)
breaks_of_either F G xs ys hx hy = record {
  by_family = λ b i. ⊎_elim (λ j. inl (hx.by_family b j)) (λ j. inr (hy.by_family b j)) (in_either xs ys b i);
  all_family = λ rule spot place name h. ⊎_elim
      (λ p. let one = hx.all_family rule spot place name p in (one.0, in_left xs ys one.0 one.1, one.2))
      (λ p. let one = hy.all_family rule spot place name p in (one.0, in_right xs ys one.0 one.1, one.2))
      h;
}

-- a list that has the breaks of a family has those of one that says the same
pub breaks_of_same : (F G : Rule → Spot → Place → List ℕ → Type 0) (found : List Broken)
    → ((rule : Rule) (spot : Spot) (place : Place) (name : List ℕ) → F rule spot place name → G rule spot place name)
    → ((rule : Rule) (spot : Spot) (place : Place) (name : List ℕ) → G rule spot place name → F rule spot place name)
    → AreBreaksBy F found → AreBreaksBy G found
breaks_of_same F G found to back h = record {
  by_family = λ b i. to b.rule b.spot b.place b.name (h.by_family b i);
  all_family = λ rule spot place name p. h.all_family rule spot place name (back rule spot place name p);
}

-- a list that has the breaks of a stage as a family answers for the stage
pub breaks_of_stage : (stage : ℕ) (d : PlainDesign) (found : List Broken) → AreBreaksBy (StageBreaks stage d) found → AreBreaks stage d found
breaks_of_stage stage d found h = record {
  in_stage = λ b i. (h.by_family b i).0;
  break = λ b i. (h.by_family b i).1;
  all = λ rule spot place name s p. h.all_family rule spot place name (s, p);
}
