-- One turn more of the loops.
use Rattle.std.proofs.Common.{◌≡◌, ℕ, ◌+◌, ◌-◌, ◌*◌, ◌^◌, ◌<◌, ◌≤◌, min, max, Bool, List, [], ◌∷◌, ◌++◌, length, map, drop, get_or, Some, None, option_map, refl, sym, ap, ◌∙◌, subst, arith, ⊎_elim}
use Rattle.std.specs.List.{slice_get}
use Rattle.std.proofs.lemmas.Bool.{cases_lt}
use Rattle.std.proofs.lemmas.List.{drop_more}
use Rattle.std.proofs.lemmas.Option.{slice_get-map, slice_get-get_or}
use Rattle.cx_text.specs.Loading.{word_count}
use Rattle.cx_meaning.specs.Designs.{PlainComponent, PlainCell}
use Rattle.cx_rules.specs.Items as items
use Rattle.cx_rules.specs.Items.{visit, visit_all}
use Rattle.cx_design.specs.declared.cells.Cell.{Cell}
use Rattle.cx_design.specs.declared.statements.Statement.{Statement}
use Rattle.cx_design.specs.PlainForms.{plain_cell, plain_statement, plain_statements}
use Rattle.cx_design_sizes.specs.Capped.{capped}
use Rattle.cx_design_sizes.specs.declared.tallies.LimitTally.{LimitTally}
use Rattle.cx_design_sizes.specs.Orders.{ArePlaced, unplaced}
use Rattle.cx_design_sizes.specs.StatementSizes.{statements_size}
use Rattle.cx_design_sizes.specs.Tallies.{no_tally, beside, kind_tally, cells_tally}
use Rattle.cx_design_sizes.proofs.Caps.{product_more}
use Rattle.cx_design_sizes.proofs.SizeLemmas.{statements_size_append}
use Rattle.cx_design_sizes.proofs.TalliesLemmas.{tally_eq}

-- the size of one statement more
pub all_size_step : (part : PlainComponent) (size more next : ℕ) (context : items.Context) (statements : List Statement) (i : ℕ) (s : Statement)
    → i < length statements → s ≡ get_or statements i s → more ≡ capped (statements_size part (visit context (plain_statement s))) → next ≡ min (size + more) (2 ^ 64 - 1)
    → capped (next + statements_size part (visit_all context (plain_statements (drop (i + 1) statements)))) ≡ capped (size + statements_size part (visit_all context (plain_statements (drop i statements))))
all_size_step part size more next context statements i s lt is e f =
    sum (statements_size part (visit context (plain_statement s))) (statements_size part (visit_all context (plain_statements (drop (i + 1) statements)))) e
    ∙ ap (λ n. capped (size + n)) (sym (statements_size_append part (visit context (plain_statement s)) (visit_all context (plain_statements (drop (i + 1) statements)))))
    ∙ ap (λ x. capped (size + statements_size part (visit_all context (plain_statements (x ∷ drop (i + 1) statements))))) is
    ∙ ap (λ xs. capped (size + statements_size part (visit_all context (plain_statements xs)))) (sym (drop_more statements i s lt))
  where
    sum : (a r : ℕ) → more ≡ capped a → capped (next + r) ≡ capped (size + (a + r))
    sum a r g = omega arith

pub both_size : (part : PlainComponent) (one two next : ℕ) (a b at : items.Context) (s t first second : Statement) → a ≡ at → b ≡ at → s ≡ first → t ≡ second
    → one ≡ capped (statements_size part (visit a (plain_statement s))) → two ≡ capped (statements_size part (visit b (plain_statement t))) → next ≡ min (one + two) (2 ^ 64 - 1)
    → next ≡ capped (statements_size part (visit at (plain_statement first) ++ visit at (plain_statement second)))
both_size part one two next a b at s t first second ea eb es et e f g =
    sum (statements_size part (visit at (plain_statement first))) (statements_size part (visit at (plain_statement second)))
    (e ∙ ap (λ x. capped (statements_size part (visit x (plain_statement s)))) ea ∙ ap (λ x. capped (statements_size part (visit at (plain_statement x)))) es)
    (f ∙ ap (λ x. capped (statements_size part (visit x (plain_statement t)))) eb ∙ ap (λ x. capped (statements_size part (visit at (plain_statement x)))) et)
    ∙ ap capped (sym (statements_size_append part (visit at (plain_statement first)) (visit at (plain_statement second))))
  where
    sum : (x y : ℕ) → one ≡ capped x → two ≡ capped y → next ≡ capped (x + y)
    sum x y h k = omega arith

-- one factor more
pub product_step : (sizes : List ℕ) (words next i d : ℕ) → i < length sizes → next ≡ min (words * get_or sizes i d) (2 ^ 64 - 1)
    → capped (next * word_count (drop (i + 1) sizes)) ≡ capped (words * word_count (drop i sizes))
product_step sizes words next i d lt e =
    ap (λ n. capped (n * word_count (drop (i + 1) sizes))) e
    ∙ product_more words (get_or sizes i d) (word_count (drop (i + 1) sizes))
    ∙ ap (λ xs. capped (words * word_count xs)) (sym (drop_more sizes i d lt))

-- TALLIES of cells, one cell more
pub record IsSmall (t : LimitTally) : Type 0 where
  pub instances : t.instances ≤ 2 ^ 64 - 1
  pub words : t.words ≤ 2 ^ 64 - 1
  pub weight : t.weight ≤ 2 ^ 64 - 1

pub small_none : IsSmall no_tally
small_none = record { instances = omega arith; words = omega arith; weight = omega arith }

pub small_beside : (a b t : LimitTally) → t ≡ beside a b → IsSmall t
small_beside a b t e = subst IsSmall (sym e) (record { instances = under (a.instances + b.instances); words = under (a.words + b.words); weight = under (a.weight + b.weight) })
  where
    under : (n : ℕ) → capped n ≤ 2 ^ 64 - 1
    under n = omega arith

beside_beside : (a b c : LimitTally) → beside (beside a b) c ≡ beside a (beside b c)
beside_beside a b c =
    tally_eq (beside (beside a b) c) (beside a (beside b c)) (sum a.instances b.instances c.instances) (most a.depth b.depth c.depth) (sum a.words b.words c.words) (sum a.weight b.weight c.weight)
  where
    sum : (x y z : ℕ) → capped (capped (x + y) + z) ≡ capped (x + capped (y + z))
    sum x y z = omega arith

    most : (x y z : ℕ) → max (max x y) z ≡ max x (max y z)
    most x y z = omega arith

none_beside : (t : LimitTally) → IsSmall t → beside no_tally t ≡ t
none_beside t small = tally_eq (beside no_tally t) t (zero_sum t.instances small.instances) (zero_most t.depth) (zero_sum t.words small.words) (zero_sum t.weight small.weight)
  where
    zero_sum : (x : ℕ) → x ≤ 2 ^ 64 - 1 → capped (0 + x) ≡ x
    zero_sum x le = omega arith

    zero_most : (x : ℕ) → max 0 x ≡ x
    zero_most x = omega arith

beside_none : (t : LimitTally) → IsSmall t → beside t no_tally ≡ t
beside_none t small = tally_eq (beside t no_tally) t (sum_zero t.instances small.instances) (most_zero t.depth) (sum_zero t.words small.words) (sum_zero t.weight small.weight)
  where
    sum_zero : (x : ℕ) → x ≤ 2 ^ 64 - 1 → capped (x + 0) ≡ x
    sum_zero x le = omega arith

    most_zero : (x : ℕ) → max x 0 ≡ x
    most_zero x = omega arith

pub cells_begin : (tallies : List LimitTally) (cells : List PlainCell) → beside no_tally (cells_tally tallies cells) ≡ cells_tally tallies cells
cells_begin tallies [] = none_beside no_tally small_none
cells_begin tallies (c ∷ cs) = none_beside (cells_tally tallies (c ∷ cs)) (small_beside (kind_tally tallies c.kind) (cells_tally tallies cs) (cells_tally tallies (c ∷ cs)) refl)

pub cells_step : (tallies : List LimitTally) (t next : LimitTally) (cells : List Cell) (i : ℕ) (cell : Cell) → i < length cells → cell ≡ get_or cells i cell
    → next ≡ beside t (kind_tally tallies (plain_cell cell).kind)
    → beside next (cells_tally tallies (map plain_cell (drop (i + 1) cells))) ≡ beside t (cells_tally tallies (map plain_cell (drop i cells)))
cells_step tallies t next cells i cell lt is e =
    ap (λ x. beside x (cells_tally tallies (map plain_cell (drop (i + 1) cells)))) e
    ∙ beside_beside t (kind_tally tallies (plain_cell cell).kind) (cells_tally tallies (map plain_cell (drop (i + 1) cells)))
    ∙ ap (λ c. beside t (cells_tally tallies (map plain_cell (c ∷ drop (i + 1) cells)))) is
    ∙ ap (λ cs. beside t (cells_tally tallies (map plain_cell cs))) (sym (drop_more cells i cell lt))

pub cells_end : (tallies : List LimitTally) (t : LimitTally) (cells : List Cell) (i : ℕ) (all : LimitTally) → drop i cells ≡ [] → IsSmall t
    → beside t (cells_tally tallies (map plain_cell (drop i cells))) ≡ all → t ≡ all
cells_end tallies t cells i all past small e =
    sym (beside_none t small) ∙ sym (ap (λ cs. beside t (cells_tally tallies (map plain_cell cs))) past) ∙ e

-- CELLS whose components are placed, one more
pub placed_more : (placed : List Bool) (cells : List PlainCell) (from number : ℕ) (cell : PlainCell) → slice_get cells number ≡ Some cell → unplaced placed cell.kind ≡ None
    → ArePlaced placed cells from number → ArePlaced placed cells from (number + 1)
placed_more placed cells from number cell at none h i c low high at_i = ⊎_elim (λ before. h i c low before at_i) last (cases_lt i number)
  where
    last : number ≤ i → unplaced placed c.kind ≡ None
    last ge =
        let same : i ≡ number = omega arith in
        let both : Some cell ≡ Some c = sym at ∙ sym (ap (slice_get cells) same) ∙ at_i in
        let e : cell ≡ c = cc in
        ap (λ x. unplaced placed x.kind) (sym e) ∙ none

pub placed_all : (placed : List Bool) (cells : List PlainCell) (from number : ℕ) → length cells ≤ number → ArePlaced placed cells from number → ArePlaced placed cells from (length cells)
placed_all placed cells from number le h i c low high at = h i c low (omega arith) at

pub cell_at : (cells : List Cell) (number : ℕ) (cell : Cell) → number < length cells → cell ≡ get_or cells number cell → slice_get (map plain_cell cells) number ≡ Some (plain_cell cell)
cell_at cells number cell lt is =
    slice_get-map plain_cell cells number ∙ ap (option_map plain_cell) (slice_get-get_or cells number cell lt) ∙ ap (λ c. Some (plain_cell c)) (sym is)
