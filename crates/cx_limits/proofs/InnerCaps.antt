-- Caps on what is counted below change no cap on what is counted above.
use Rattle.std.proofs.Common.{◌≡◌, ℕ, zero, suc, ◌+◌, Bool, true, false, List, [], ◌∷◌, Option, Some, None, option_map, length, refl, ap, ◌∙◌, arith}
use Rattle.cx_meaning.specs.Designs.{PlainInvoke, PlainCell, PlainComponent, PlainForm, Empty, Enable, Seq, Par, If, While, Repeat, StaticSeq, StaticPar, StaticIf, StaticRepeat, Timed, PlainStatement, Placed, PlainStatements, no_statements, a_statement}
use Rattle.cx_rules.specs.Items.{Visited, statements_in}
use Rattle.cx_rules.specs.Invokes.{invoke_at, invoke_in}
use Rattle.cx_rules.specs.Sizes.{assigns_size, groups_size}
use Rattle.cx_rules.specs.Counts.{Inner, Inners, inner_at, inner_for, cell_count_of, cells_in, always_count_of, always_in, group_count_of, copy_count_of, groups_for, copies_for, captures_in, statement_count_of, statements_for, statements_counted, occurrence_count_of, form_counted, counted, counted_in, is_any_island, island_counted, occurrences_counted, needed_groups, inner, size_with}
use Rattle.cx_design_sizes.specs.Capped.{capped}
use Rattle.cx_limits.specs.Inners.{capped_inner, capped_inners, cell_counts}

-- sums under caps
sums : (a b c d : ℕ) → capped a ≡ capped c → capped b ≡ capped d → capped (a + b) ≡ capped (c + d)
sums a b c d e f = omega (arith, e, f)

behind : (n a b : ℕ) → capped a ≡ capped b → capped (n + a) ≡ capped (n + b)
behind n a b e = omega (arith, e)

before : (n a b : ℕ) → capped a ≡ capped b → capped (a + n) ≡ capped (b + n)
before n a b e = omega (arith, e)

twice : (n : ℕ) → capped (capped n) ≡ capped n
twice n = omega arith

more : (n m : ℕ) → capped (capped n + m) ≡ capped (n + m)
more n m = omega arith

-- the cells of a component, by what stands at each
pub cells_counted : (cells : List PlainCell) (below : Inners) → length cells ≡ length below → cells_in cells below ≡ cell_counts below
cells_counted [] [] e = refl
cells_counted [] (x ∷ below) e = absurd (omega (arith, e))
cells_counted (c ∷ cs) [] e = absurd (omega (arith, e))
cells_counted (c ∷ cs) (x ∷ below) e = ap (λ n. cell_count_of x + n) (cells_counted cs below (omega (arith, e)))

-- ONE ENTRY
cell_count_capped : (x : Option Inner) → capped (cell_count_of (option_map capped_inner x)) ≡ capped (cell_count_of x)
cell_count_capped None = refl
cell_count_capped (Some x) = twice x.cells

always_count_capped : (x : Option Inner) → capped (always_count_of (option_map capped_inner x)) ≡ capped (always_count_of x)
always_count_capped None = refl
always_count_capped (Some x) = twice x.always

group_count_capped : (x : Option Inner) → capped (group_count_of (option_map capped_inner x)) ≡ capped (group_count_of x)
group_count_capped None = refl
group_count_capped (Some x) = twice x.groups

copy_count_capped : (x : Option Inner) → capped (copy_count_of (option_map capped_inner x)) ≡ capped (copy_count_of x)
copy_count_capped None = refl
copy_count_capped (Some x) = twice x.copies

statement_count_capped : (x : Option Inner) (n : ℕ) → capped (statement_count_of (option_map capped_inner x) n) ≡ capped (statement_count_of x n)
statement_count_capped None n = refl
statement_count_capped (Some x) n = more x.statements (n + n)

occurrence_count_capped : (x : Option Inner) (n : ℕ) → capped (occurrence_count_of (option_map capped_inner x) n) ≡ capped (occurrence_count_of x n)
occurrence_count_capped None n = refl
occurrence_count_capped (Some x) n = more x.occurrences n

-- at a cell, and for an invoke
inner_at_capped : (below : Inners) (c : ℕ) → inner_at (capped_inners below) c ≡ option_map capped_inner (inner_at below c)
inner_at_capped [] c = refl
inner_at_capped (x ∷ below) zero = refl
inner_at_capped (x ∷ below) (suc c) = inner_at_capped below c

inner_for_capped : (below : Inners) (o : Option PlainInvoke) → inner_for (capped_inners below) o ≡ option_map capped_inner (inner_for below o)
inner_for_capped below None = refl
inner_for_capped below (Some v) = inner_at_capped below v.cell

-- LISTS OF THEM
pub cells_capped : (cells : List PlainCell) (below : Inners) → capped (cells_in cells (capped_inners below)) ≡ capped (cells_in cells below)
cells_capped [] below = refl
cells_capped (c ∷ cs) [] = refl
cells_capped (c ∷ cs) (x ∷ below) =
    sums (cell_count_of (option_map capped_inner x)) (cells_in cs (capped_inners below)) (cell_count_of x) (cells_in cs below) (cell_count_capped x) (cells_capped cs below)

pub always_capped : (below : Inners) → capped (always_in (capped_inners below)) ≡ capped (always_in below)
always_capped [] = refl
always_capped (x ∷ below) =
    sums (always_count_of (option_map capped_inner x)) (always_in (capped_inners below)) (always_count_of x) (always_in below) (always_count_capped x) (always_capped below)

pub groups_capped : (below : Inners) (vs : List PlainInvoke) → capped (groups_for (capped_inners below) vs) ≡ capped (groups_for below vs)
groups_capped below [] = refl
groups_capped below (v ∷ vs) =
    sums (group_count_of (inner_at (capped_inners below) v.cell)) (groups_for (capped_inners below) vs) (group_count_of (inner_at below v.cell)) (groups_for below vs)
    (ap (λ x. capped (group_count_of x)) (inner_at_capped below v.cell) ∙ group_count_capped (inner_at below v.cell)) (groups_capped below vs)

pub copies_capped : (below : Inners) (vs : List PlainInvoke) → capped (copies_for (capped_inners below) vs) ≡ capped (copies_for below vs)
copies_capped below [] = refl
copies_capped below (v ∷ vs) =
    sums (copy_count_of (inner_at (capped_inners below) v.cell)) (copies_for (capped_inners below) vs) (copy_count_of (inner_at below v.cell)) (copies_for below vs)
    (ap (λ x. capped (copy_count_of x)) (inner_at_capped below v.cell) ∙ copy_count_capped (inner_at below v.cell)) (copies_capped below vs)

module _ (part : PlainComponent) (below : Inners) where
  abbrev less : Inners
  less = capped_inners below

  abbrev captured : ℕ → ℕ
  captured k = captures_in (invoke_at part k)

  -- statements
  one_statement : (ks : List ℕ) → capped (statements_for part less ks) ≡ capped (statements_for part below ks)
  one_statement [] = refl
  one_statement (k ∷ ks) =
      ap (λ x. capped (statement_count_of x (captured k))) (inner_for_capped below (invoke_at part k)) ∙ statement_count_capped (inner_for below (invoke_at part k)) (captured k)

  pub statements_capped : (vs : List Visited) → capped (statements_counted part less vs) ≡ capped (statements_counted part below vs)
  statements_capped [] = refl
  statements_capped (v ∷ vs) =
      sums (statements_for part less (invoke_in v.form)) (statements_counted part less vs) (statements_for part below (invoke_in v.form)) (statements_counted part below vs)
      (one_statement (invoke_in v.form)) (statements_capped vs)

  -- occurrences
  mutual
    pub form_capped : (form : PlainForm) → capped (form_counted part less form) ≡ capped (form_counted part below form)
    form_capped Empty = refl
    form_capped (Enable g) = refl
    form_capped (Seq parts) = refl
    form_capped (Par arms) = refl
    form_capped (If test comb a b) = refl
    form_capped (While test comb a) = refl
    form_capped (Repeat count a) = refl
    form_capped (StaticSeq length parts) = in_capped parts
    form_capped (StaticPar length arms) = in_capped arms
    form_capped (StaticIf length test a b) = sums (counted part less a) (counted part less b) (counted part below a) (counted part below b) (counted_capped a) (counted_capped b)
    form_capped (StaticRepeat length count a) = counted_capped a
    form_capped (Timed k) =
        ap (λ x. capped (occurrence_count_of x (captured k))) (inner_for_capped below (invoke_at part k)) ∙ occurrence_count_capped (inner_for below (invoke_at part k)) (captured k)

    counted_capped : (s : PlainStatement) → capped (counted part less s) ≡ capped (counted part below s)
    counted_capped (Placed form place) = form_capped form

    in_capped : (ss : PlainStatements) → capped (counted_in part less ss) ≡ capped (counted_in part below ss)
    in_capped no_statements = refl
    in_capped (a_statement s ss) = sums (counted part less s) (counted_in part less ss) (counted part below s) (counted_in part below ss) (counted_capped s) (in_capped ss)

  island_capped : (b : Bool) (form : PlainForm) → capped (island_counted part less b form) ≡ capped (island_counted part below b form)
  island_capped true form = form_capped form
  island_capped false form = refl

  pub occurrences_capped : (vs : List Visited) → capped (occurrences_counted part less vs) ≡ capped (occurrences_counted part below vs)
  occurrences_capped [] = refl
  occurrences_capped (v ∷ vs) =
      sums (island_counted part less (is_any_island part v) v.form) (occurrences_counted part less vs) (island_counted part below (is_any_island part v) v.form) (occurrences_counted part below vs)
      (island_capped (is_any_island part v) v.form) (occurrences_capped vs)

  -- THE COMPONENT
  pub inner_capped : capped_inner (inner part less) ≡ capped_inner (inner part below)
  inner_capped = λ i. record {
    cells = before (length part.outputs) (cells_in part.cells less) (cells_in part.cells below) (cells_capped part.cells below) i;
    always = behind (assigns_size part.always) (always_in less) (always_in below) (always_capped below) i;
    groups = behind (length (needed_groups part)) (groups_for less part.invokes) (groups_for below part.invokes) (groups_capped below part.invokes) i;
    copies = behind (groups_size (needed_groups part)) (copies_for less part.invokes) (copies_for below part.invokes) (copies_capped below part.invokes) i;
    statements = statements_capped (statements_in part) i;
    occurrences = occurrences_capped (statements_in part) i;
  }

  pub size_capped : capped (size_with part less) ≡ capped (size_with part below)
  size_capped =
      let ports = length part.inputs + length part.outputs in
      let groups = groups_size part.groups in
      let always = assigns_size part.always in
      let vs = statements_in part in
      let cells = behind ports (cells_in part.cells less) (cells_in part.cells below) (cells_capped part.cells below) in
      let copies = sums (ports + cells_in part.cells less) (groups + copies_for less part.invokes) (ports + cells_in part.cells below) (groups + copies_for below part.invokes)
      cells (behind groups (copies_for less part.invokes) (copies_for below part.invokes) (copies_capped below part.invokes)) in
      let assigns = sums (ports + cells_in part.cells less + (groups + copies_for less part.invokes)) (always + always_in less)
      (ports + cells_in part.cells below + (groups + copies_for below part.invokes)) (always + always_in below)
      copies (behind always (always_in less) (always_in below) (always_capped below)) in
      let statements = sums (ports + cells_in part.cells less + (groups + copies_for less part.invokes) + (always + always_in less)) (statements_counted part less vs)
      (ports + cells_in part.cells below + (groups + copies_for below part.invokes) + (always + always_in below)) (statements_counted part below vs)
      assigns (statements_capped vs) in
      sums (ports + cells_in part.cells less + (groups + copies_for less part.invokes) + (always + always_in less) + statements_counted part less vs) (occurrences_counted part less vs)
      (ports + cells_in part.cells below + (groups + copies_for below part.invokes) + (always + always_in below) + statements_counted part below vs) (occurrences_counted part below vs)
      statements (occurrences_capped vs)
