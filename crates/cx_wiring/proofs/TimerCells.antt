-- Lowering a component leaves its cells as they are, and puts cells of no component behind them.
use Rattle.std.proofs.Common.{◌≡◌, ℕ, ◌+◌, ◌*◌, true, false, List, [], ◌∷◌, ◌++◌, length, drop, Option, Some, None, refl, ap, sym, ◌∙◌}
use Rattle.std.proofs.lemmas.List.{append_assoc, append-nil, drop_at}
use Rattle.cx_text.specs.declared.places.Place.{Place}
use Rattle.cx_meaning.specs.Designs.{PlainCell, PlainComponent, PlainForm, Empty, Enable, Seq, Par, If, While, Repeat, StaticSeq, StaticPar, StaticIf, StaticRepeat, Timed, PlainStatement, Placed, PlainStatements, no_statements, a_statement}
use Rattle.cx_meaning.specs.Islands.{group_length, form_length, length_of}
use Rattle.cx_static.specs.Lowering.{Gathered, Begin, begin_at, later, if_sampled, timer_cell, with_timer, with_point, with_occurrence, form_gathered, gathered, parts_gathered, arms_gathered, Lowering, with_island, after_enable, form_after, after, parts_after, unlowered, lowered_component}
use Rattle.cx_wiring.specs.Reached.{component_of_kind, components_of}
use Rattle.cx_wiring.specs.PartNets.{timer_cells}

-- cells that stand behind others, none of a component
pub record PutsBehind (before now : List PlainCell) : Type 0 where
  pub more : List PlainCell
  pub cells : now ≡ before ++ more
  pub no_components : components_of more ≡ []

none_behind : (cells : List PlainCell) → PutsBehind cells cells
none_behind cells = record { more = []; cells = sym (append-nil cells); no_components = refl }

no_components-append : (xs ys : List PlainCell) → components_of xs ≡ [] → components_of ys ≡ [] → components_of (xs ++ ys) ≡ []
no_components-append [] ys none nor = nor
no_components-append (x ∷ xs) ys none nor = kinds (component_of_kind x.kind) (components_of xs) (components_of (xs ++ ys)) none (λ e. no_components-append xs ys e nor)
  where
    kinds : (own rest all : List ℕ) → own ++ rest ≡ [] → (rest ≡ [] → all ≡ []) → own ++ all ≡ []
    kinds [] rest all e later = later e
    kinds (k ∷ own) rest all e later = absurd (cc)

both_behind : {first second third : List PlainCell} → PutsBehind second third → PutsBehind first second → PutsBehind first third
both_behind {first} b a = record {
  more = a.more ++ b.more;
  cells = b.cells ∙ ap (λ xs. xs ++ b.more) a.cells ∙ append_assoc first a.more b.more;
  no_components = no_components-append a.more b.more a.no_components b.no_components;
}

timer_behind : (place : Place) (n : ℕ) (cells : List PlainCell) → PutsBehind cells (cells ++ timer_cell place n ∷ [])
timer_behind place n cells = record { more = timer_cell place n ∷ []; cells = refl; no_components = refl }

occurrence_behind : (group : ℕ) (x : Begin) (o : Option ℕ) (g : Gathered) → PutsBehind g.cells (with_occurrence group x o g).cells
occurrence_behind group x None g = none_behind g.cells
occurrence_behind group x (Some n) g = none_behind g.cells

module _ (part : PlainComponent) where
  mutual
    form_gathered_behind : (form : PlainForm) (x : Begin) (g : Gathered) → PutsBehind g.cells (form_gathered part form x g).cells
    form_gathered_behind Empty x g = none_behind g.cells
    form_gathered_behind (Enable group) x g = occurrence_behind group x (group_length part group) g
    form_gathered_behind (Seq parts) x g = none_behind g.cells
    form_gathered_behind (Par arms) x g = none_behind g.cells
    form_gathered_behind (If test comb a b) x g = none_behind g.cells
    form_gathered_behind (While test comb a) x g = none_behind g.cells
    form_gathered_behind (Repeat count a) x g = none_behind g.cells
    form_gathered_behind (StaticSeq written parts) x g = parts_gathered_behind parts x g
    form_gathered_behind (StaticPar written arms) x g = arms_gathered_behind arms x g
    form_gathered_behind (StaticIf written test a b) x g =
        both_behind (gathered_behind b (if_sampled (length g.points) false x) (gathered part a (if_sampled (length g.points) true x) (with_point test.port x g)))
        (gathered_behind a (if_sampled (length g.points) true x) (with_point test.port x g))
    form_gathered_behind (StaticRepeat written count a) x g =
        both_behind (gathered_behind a (begin_at (length g.timers) 0 x.samples) (with_timer part.place (length_of part a) (Some x.timer) x.at (x.at + count * length_of part a) g))
        (timer_behind part.place (length_of part a) g.cells)
    form_gathered_behind (Timed k) x g = none_behind g.cells

    gathered_behind : (s : PlainStatement) (x : Begin) (g : Gathered) → PutsBehind g.cells (gathered part s x g).cells
    gathered_behind (Placed form place) x g = form_gathered_behind form x g

    parts_gathered_behind : (ss : PlainStatements) (x : Begin) (g : Gathered) → PutsBehind g.cells (parts_gathered part ss x g).cells
    parts_gathered_behind no_statements x g = none_behind g.cells
    parts_gathered_behind (a_statement s ss) x g = both_behind (parts_gathered_behind ss (later (length_of part s) x) (gathered part s x g)) (gathered_behind s x g)

    arms_gathered_behind : (ss : PlainStatements) (x : Begin) (g : Gathered) → PutsBehind g.cells (arms_gathered part ss x g).cells
    arms_gathered_behind no_statements x g = none_behind g.cells
    arms_gathered_behind (a_statement s ss) x g = both_behind (arms_gathered_behind ss x (gathered part s x g)) (gathered_behind s x g)

  island_behind : (form : PlainForm) (l : Lowering) → PutsBehind l.cells (with_island part form l).cells
  island_behind form l = both_behind (form_gathered_behind form _ _) (timer_behind part.place (form_length part form) l.cells)

  enable_behind : (g : ℕ) (o : Option ℕ) (l : Lowering) → PutsBehind l.cells (after_enable part g o l).cells
  enable_behind g None l = none_behind l.cells
  enable_behind g (Some n) l = island_behind (Enable g) l

  mutual
    form_behind : (form : PlainForm) (l : Lowering) → PutsBehind l.cells (form_after part form l).cells
    form_behind Empty l = none_behind l.cells
    form_behind (Enable g) l = enable_behind g (group_length part g) l
    form_behind (Seq parts) l = parts_behind parts l
    form_behind (Par arms) l = parts_behind arms l
    form_behind (If test comb a b) l = both_behind (statement_behind b (after part a l)) (statement_behind a l)
    form_behind (While test comb a) l = statement_behind a l
    form_behind (Repeat count a) l = statement_behind a l
    form_behind (StaticSeq written parts) l = island_behind (StaticSeq written parts) l
    form_behind (StaticPar written arms) l = island_behind (StaticPar written arms) l
    form_behind (StaticIf written test a b) l = island_behind (StaticIf written test a b) l
    form_behind (StaticRepeat written count a) l = island_behind (StaticRepeat written count a) l
    form_behind (Timed k) l = none_behind l.cells

    statement_behind : (s : PlainStatement) (l : Lowering) → PutsBehind l.cells (after part s l).cells
    statement_behind (Placed form place) l = form_behind form l

    parts_behind : (ss : PlainStatements) (l : Lowering) → PutsBehind l.cells (parts_after part ss l).cells
    parts_behind no_statements l = none_behind l.cells
    parts_behind (a_statement s ss) l = both_behind (parts_behind ss (after part s l)) (statement_behind s l)

  lowered_behind : PutsBehind part.cells (lowered_component part).part.cells
  lowered_behind = statement_behind part.control (unlowered part)

  timer_cells_are : timer_cells part ≡ lowered_behind.more
  timer_cells_are = ap (drop (length part.cells)) lowered_behind.cells ∙ drop_at part.cells lowered_behind.more (length part.cells) refl

  -- the cells of a lowered component are its own, and its timers behind them
  pub cells-lowered_component : (lowered_component part).part.cells ≡ part.cells ++ timer_cells part
  cells-lowered_component = lowered_behind.cells ∙ ap (λ more. part.cells ++ more) (sym timer_cells_are)

  -- no timer is a component
  pub components_of-timer_cells : components_of (timer_cells part) ≡ []
  components_of-timer_cells = ap components_of timer_cells_are ∙ lowered_behind.no_components
