-- The design of a trial has one external memory, whose words have a sum of 64 bits.
use Rattle.std.proofs.Common.{◌≡◌, ℕ, zero, suc, ◌*◌, ◌^◌, ◌<◌, ◌≤◌, inl, inr, Bool, true, false, List, [], ◌∷◌, ◌++◌, All, map, length, refl, sym, ap, ◌∙◌, subst, sum, arith}
use Rattle.std.proofs.lemmas.List.Sums.{sum_by-le}
use Rattle.cx_text.specs.Loading.{PlainRow, PlainMemory, FitsShape, word_count, with_words}
use Rattle.cx_ast.specs.PlainTree.{PlainTree, PlainCell, PlainComponent}
use Rattle.cx_meaning.specs.Designs.{PlainDesign, component_at}
use Rattle.cx_meaning.specs.Designs.{PlainCell as Cell}
use Rattle.cx_text.specs.Members.{In}
use Rattle.cx_rules.specs.Externals.{if_external, row_for, rows_of, external_rows}
use Rattle.cx_numbering.specs.DesignOf.{design_of, plain_cell_of}
use Rattle.cx_numbering.specs.Names.{is_external}
use Rattle.cx_trial.specs.TrialParts.{up_to}
use Rattle.cx_trial.specs.TrialTree.{arm_cells, trial_part, trial_tree}
use Rattle.cx_vtree.specs.Layout.{is_word}
use Rattle.cx_compiler.specs.Words.{HasWords}
use Rattle.cx_driver.specs.Tried.{HasTrialMemory, trial_row, words_sum}

-- THE MEMORY
-- cells that are not external
abbrev Inner : List PlainCell → Type 0
Inner [] = Unit {0}
Inner (cell ∷ cells) = (is_external cell ≡ false) × Inner cells

both_inner : (xs ys : List PlainCell) → Inner xs → Inner ys → Inner (xs ++ ys)
both_inner [] ys h k = k
both_inner (cell ∷ xs) ys h k = (h.0, both_inner xs ys h.1 k)

arms_inner : (n : ℕ) → Inner (up_to arm_cells n)
unfolding up_to
arms_inner zero = tt
arms_inner (suc n) = both_inner (up_to arm_cells n) (arm_cells n) (arms_inner n) (refl, (refl, (refl, (refl, tt))))

no_rows : (tree : PlainTree) (part : PlainComponent) (cells : List PlainCell) → Inner cells → rows_of (map (plain_cell_of tree part) cells) ≡ []
no_rows tree part [] h = refl
no_rows tree part (cell ∷ cells) h = ap (λ b. if_external b (plain_cell_of tree part cell) (rows_of (map (plain_cell_of tree part) cells))) h.0 ∙ no_rows tree part cells h.1

pub trial_memory : (seed : ℕ) (d : PlainDesign) → d ≡ design_of (trial_tree seed) → HasTrialMemory d
trial_memory seed d is =
    let own : external_rows (design_of (trial_tree seed)) ≡ trial_row ∷ [] = ap (λ rows. trial_row ∷ rows) (no_rows (trial_tree seed) (trial_part seed) (up_to arm_cells 16) (arms_inner 16)) in
    ap (λ e. external_rows e) is ∙ own

-- an external cell has a row
external_row : (cells : List Cell) (cell : Cell) → In cells cell → cell.external ≡ true → In (rows_of cells) (row_for cell)
external_row [] cell i external = absurd i
external_row (c ∷ cells) cell (inl e) external =
    subst (λ b. In (if_external b c (rows_of cells)) (row_for cell)) (sym (ap (λ (x : Cell). x.external) e ∙ external)) (inl (ap row_for e))
external_row (c ∷ cells) cell (inr i) external = behind c.external (external_row cells cell i external)
  where
    behind : (b : Bool) → In (rows_of cells) (row_for cell) → In (if_external b c (rows_of cells)) (row_for cell)
    behind true j = inr j
    behind false j = j

-- so a word is the name of each external memory
pub trial_words : (d : PlainDesign) → HasTrialMemory d → HasWords d
trial_words d memory cell i external = named (subst (λ rows. In rows (row_for cell)) memory (external_row (component_at d d.main).cells cell i external))
  where
    named : In (trial_row ∷ []) (row_for cell) → is_word cell.name ≡ true
    named (inl e) = subst (λ (r : PlainRow). is_word r.name ≡ true) e refl
    named (inr j) = absurd j

-- THE SUM
small_words : (xs : List ℕ) → All (λ x. x < 2 ^ 32) xs → sum xs ≤ length xs * 2 ^ 32
small_words xs h = sum_by-le (λ x. x) (2 ^ 32) xs (λ k d below. let small = h k d below in omega (arith, small))

small_memory : (m : PlainMemory) → m.shape ≡ trial_row → FitsShape m → sum m.words < 2 ^ 64
small_memory m same fits =
    let count : length m.words ≡ 16 = fits.count ∙ ap (λ (r : PlainRow). word_count r.sizes) same in
    let most = small_words m.words (subst (λ (r : PlainRow). All (λ w. w < 2 ^ r.width) m.words) same fits.in_range) in
    omega (arith, count, most)

pub small_sum : (ms : List PlainMemory) → map (λ m. m.shape) ms ≡ trial_row ∷ [] → All FitsShape ms → words_sum ms < 2 ^ 64
small_sum [] e fits = absurd (cc)
small_sum (m ∷ []) e fits =
    let same : m.shape ≡ trial_row = cc in
    let there : 0 < length (m ∷ []) = omega arith in
    let small = small_memory m same (fits 0 m there) in
    omega (arith, small)
small_sum (m ∷ n ∷ ms) e fits = absurd (cc)

-- the memories with other words have their shapes
pub shapes_stay : (ms : List PlainMemory) (words : List (List ℕ)) → map (λ m. m.shape) (with_words ms words) ≡ map (λ m. m.shape) ms
shapes_stay [] words = refl
shapes_stay (m ∷ ms) [] = refl
shapes_stay (m ∷ ms) (ws ∷ words) = ap (λ rows. m.shape ∷ rows) (shapes_stay ms words)
