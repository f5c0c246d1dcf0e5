-- The external memories of a component stay as they are when its static control is lowered.
use Rattle.std.proofs.Common.{◌≡◌, ℕ, ◌+◌, ◌*◌, true, false, List, [], ◌∷◌, ◌++◌, length, Option, Some, None, refl, ap, ◌∙◌}
use Rattle.cx_text.specs.declared.places.Place.{Place}
use Rattle.cx_meaning.specs.Designs.{PlainCell, PlainComponent, PlainForm, Empty, Enable, Seq, Par, If, While, Repeat, StaticSeq, StaticPar, StaticIf, StaticRepeat, Timed, PlainStatement, Placed, PlainStatements, no_statements, a_statement}
use Rattle.cx_meaning.specs.Islands.{group_length, form_length, length_of}
use Rattle.cx_rules.specs.Externals.{if_external, rows_of}
use Rattle.cx_static.specs.Lowering.{Gathered, Begin, begin_at, later, if_sampled, timer_cell, with_timer, with_point, with_occurrence, form_gathered, gathered, parts_gathered, arms_gathered, Lowering, with_island, after_enable, form_after, after, parts_after, unlowered, lowered_component}

-- a timer behind cells is no external one
pub rows_of-timer : (place : Place) (n : ℕ) (cells : List PlainCell) → rows_of (cells ++ timer_cell place n ∷ []) ≡ rows_of cells
rows_of-timer place n [] = refl
rows_of-timer place n (c ∷ cells) = ap (if_external c.external c) (rows_of-timer place n cells)

with_occurrence-cells : (group : ℕ) (x : Begin) (o : Option ℕ) (g : Gathered) → rows_of (with_occurrence group x o g).cells ≡ rows_of g.cells
with_occurrence-cells group x None g = refl
with_occurrence-cells group x (Some n) g = refl

module _ (part : PlainComponent) where
  mutual
    rows_of-form_gathered : (form : PlainForm) (x : Begin) (g : Gathered) → rows_of (form_gathered part form x g).cells ≡ rows_of g.cells
    rows_of-form_gathered Empty x g = refl
    rows_of-form_gathered (Enable group) x g = with_occurrence-cells group x (group_length part group) g
    rows_of-form_gathered (Seq parts) x g = refl
    rows_of-form_gathered (Par arms) x g = refl
    rows_of-form_gathered (If test comb a b) x g = refl
    rows_of-form_gathered (While test comb a) x g = refl
    rows_of-form_gathered (Repeat count a) x g = refl
    rows_of-form_gathered (StaticSeq written parts) x g = rows_of-parts_gathered parts x g
    rows_of-form_gathered (StaticPar written arms) x g = rows_of-arms_gathered arms x g
    rows_of-form_gathered (StaticIf written test a b) x g =
        rows_of-gathered b (if_sampled (length g.points) false x) (gathered part a (if_sampled (length g.points) true x) (with_point test.port x g))
        ∙ rows_of-gathered a (if_sampled (length g.points) true x) (with_point test.port x g)
    rows_of-form_gathered (StaticRepeat written count a) x g =
        rows_of-gathered a (begin_at (length g.timers) 0 x.samples) (with_timer part.place (length_of part a) (Some x.timer) x.at (x.at + count * length_of part a) g)
        ∙ rows_of-timer part.place (length_of part a) g.cells
    rows_of-form_gathered (Timed k) x g = refl

    rows_of-gathered : (s : PlainStatement) (x : Begin) (g : Gathered) → rows_of (gathered part s x g).cells ≡ rows_of g.cells
    rows_of-gathered (Placed form place) x g = rows_of-form_gathered form x g

    rows_of-parts_gathered : (ss : PlainStatements) (x : Begin) (g : Gathered) → rows_of (parts_gathered part ss x g).cells ≡ rows_of g.cells
    rows_of-parts_gathered no_statements x g = refl
    rows_of-parts_gathered (a_statement s ss) x g = rows_of-parts_gathered ss (later (length_of part s) x) (gathered part s x g) ∙ rows_of-gathered s x g

    rows_of-arms_gathered : (ss : PlainStatements) (x : Begin) (g : Gathered) → rows_of (arms_gathered part ss x g).cells ≡ rows_of g.cells
    rows_of-arms_gathered no_statements x g = refl
    rows_of-arms_gathered (a_statement s ss) x g = rows_of-arms_gathered ss x (gathered part s x g) ∙ rows_of-gathered s x g

  rows_of-with_island : (form : PlainForm) (l : Lowering) → rows_of (with_island part form l).cells ≡ rows_of l.cells
  rows_of-with_island form l = rows_of-form_gathered form _ _ ∙ rows_of-timer part.place (form_length part form) l.cells

  rows_of-after_enable : (g : ℕ) (o : Option ℕ) (l : Lowering) → rows_of (after_enable part g o l).cells ≡ rows_of l.cells
  rows_of-after_enable g None l = refl
  rows_of-after_enable g (Some n) l = rows_of-with_island (Enable g) l

  mutual
    rows_of-form_after : (form : PlainForm) (l : Lowering) → rows_of (form_after part form l).cells ≡ rows_of l.cells
    rows_of-form_after Empty l = refl
    rows_of-form_after (Enable g) l = rows_of-after_enable g (group_length part g) l
    rows_of-form_after (Seq parts) l = rows_of-parts_after parts l
    rows_of-form_after (Par arms) l = rows_of-parts_after arms l
    rows_of-form_after (If test comb a b) l = rows_of-after b (after part a l) ∙ rows_of-after a l
    rows_of-form_after (While test comb a) l = rows_of-after a l
    rows_of-form_after (Repeat count a) l = rows_of-after a l
    rows_of-form_after (StaticSeq written parts) l = rows_of-with_island (StaticSeq written parts) l
    rows_of-form_after (StaticPar written arms) l = rows_of-with_island (StaticPar written arms) l
    rows_of-form_after (StaticIf written test a b) l = rows_of-with_island (StaticIf written test a b) l
    rows_of-form_after (StaticRepeat written count a) l = rows_of-with_island (StaticRepeat written count a) l
    rows_of-form_after (Timed k) l = refl

    rows_of-after : (s : PlainStatement) (l : Lowering) → rows_of (after part s l).cells ≡ rows_of l.cells
    rows_of-after (Placed form place) l = rows_of-form_after form l

    rows_of-parts_after : (ss : PlainStatements) (l : Lowering) → rows_of (parts_after part ss l).cells ≡ rows_of l.cells
    rows_of-parts_after no_statements l = refl
    rows_of-parts_after (a_statement s ss) l = rows_of-parts_after ss (after part s l) ∙ rows_of-after s l

  -- the timers of a lowered component are no external memories
  pub rows_of-lowered_component : rows_of (lowered_component part).part.cells ≡ rows_of part.cells
  rows_of-lowered_component = rows_of-after part.control (unlowered part)
