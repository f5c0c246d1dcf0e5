-- GROUPS AND STATEMENTS apart from places: what they drive, call and capture, and the flat lists of islands.
use Rattle.std.proofs.Common.{◌≡◌, ℕ, zero, suc, ◌+◌, ◌*◌, max, true, false, ◌||◌, List, [], ◌∷◌, ◌++◌, length, map, Option, refl, sym, ap, ◌∙◌}
use Rattle.std.specs.Prelude.{get_or}
use Rattle.std.proofs.Math.Path.{ap₂}
use Rattle.std.proofs.Math.ListN.{get_or-map}
use Rattle.cx_meaning.specs.declared.ports.PortRef.{PortRef}
use Rattle.cx_meaning.specs.declared.ports.PortRef.TheVariants as ports
use Rattle.cx_meaning.specs.Designs.{PlainAssign, PlainGroup, PlainComponent, group_at, no_group, PlainForm, Empty, Enable, Seq, Par, If, While, Repeat, StaticSeq, StaticPar, StaticIf, StaticRepeat, Timed, PlainStatement, Placed, PlainStatements, no_statements, a_statement}
use Rattle.cx_meaning.specs.Instances.{Instance, Cells, At, OfRow, part_of, cells_of, cell_at}
use Rattle.cx_meaning.specs.Active.{comb}
use Rattle.cx_meaning.specs.Control.{groups_in, groups_of, groups_in_all, with_comb, assigns_drive, group_drives, groups_drive, targets_cell}
use Rattle.cx_meaning.specs.Islands.{group_length, or_zero, form_length, length_of, sum_length, max_length, Condition, Occurrence, Looks, condition, rounds_from, occurrence, form_flat, flat, seq_flat, par_flat}
use Rattle.cx_meaning.specs.Calls.{test, if_instance, called_by, called_in, called, enables_at, enables_primitive, captures_in, captures}
use Rattle.cx_rewrites.specs.Places.{unplaced_assign, unplaced_group, unplaced_form, unplaced, unplaced_statements, SamePart}
use Rattle.cx_rewrites.proofs.PlaceLemmas.{SameTree, SameCells, SameAt, none_there, a_row_there, a_child_there, same_at, same_parts, same_cells}

-- A GROUP
group_at-same : (part other : PlainComponent) → SamePart part other → (g : ℕ) → unplaced_group (group_at part g) ≡ unplaced_group (group_at other g)
group_at-same part other same g =
    sym (get_or-map unplaced_group part.groups g no_group) ∙ ap (λ list. get_or list g (unplaced_group no_group)) same.groups ∙ get_or-map unplaced_group other.groups g no_group

pub kind-same : (part other : PlainComponent) → SamePart part other → (g : ℕ) → (group_at part g).kind ≡ (group_at other g).kind
kind-same part other same g = ap (λ (x : PlainGroup). x.kind) (group_at-same part other same g)

pub assigns-same : (part other : PlainComponent) → SamePart part other → (g : ℕ) → map unplaced_assign (group_at part g).assigns ≡ map unplaced_assign (group_at other g).assigns
assigns-same part other same g = ap (λ (x : PlainGroup). x.assigns) (group_at-same part other same g)

assigns_drive-unplaced : (list : List PlainAssign) (c : ℕ) → assigns_drive (map unplaced_assign list) c ≡ assigns_drive list c
assigns_drive-unplaced [] c = refl
assigns_drive-unplaced (a ∷ rest) c = ap (λ b. targets_cell a.target c || b) (assigns_drive-unplaced rest c)

pub groups_drive-same : (part other : PlainComponent) → SamePart part other → (gs : List ℕ) (c : ℕ) → groups_drive part gs c ≡ groups_drive other gs c
groups_drive-same part other same [] c = refl
groups_drive-same part other same (g ∷ gs) c =
    ap (λ b. b || groups_drive part gs c)
    (sym (assigns_drive-unplaced (group_at part g).assigns c) ∙ ap (λ list. assigns_drive list c) (assigns-same part other same g) ∙ assigns_drive-unplaced (group_at other g).assigns c)
    ∙ ap (λ b. group_drives other g c || b) (groups_drive-same part other same gs c)

-- what it calls and captures
called_in-unplaced : (cells : Cells) (list : List PlainAssign) → called_in cells (map unplaced_assign list) ≡ called_in cells list
called_in-unplaced cells [] = refl
called_in-unplaced cells (a ∷ rest) = ap (called_by cells a.target) (called_in-unplaced cells rest)

captures_in-unplaced : (cells : Cells) (list : List PlainAssign) → captures_in cells (map unplaced_assign list) ≡ captures_in cells list
captures_in-unplaced cells [] = refl
captures_in-unplaced cells (a ∷ rest) = ap (λ b. enables_primitive cells a.target || b) (captures_in-unplaced cells rest)

module _ (cells more : Cells) (same : SameCells cells more) where
  if_instance-same : (at to : At) (c : ℕ) (later : Option ℕ) → SameAt at to → if_instance at c later ≡ if_instance to c later
  if_instance-same at to c later none_there = refl
  if_instance-same at to c later (a_row_there e) = refl
  if_instance-same at to c later (a_child_there t) = refl

  called_by-same : (p : PortRef) (later : Option ℕ) → called_by cells p later ≡ called_by more p later
  called_by-same (ports.Cell c p) later = if_instance-same (cell_at cells c) (cell_at more c) c later (same_at cells more same c)
  called_by-same (ports.Input n) later = refl
  called_by-same (ports.Output n) later = refl
  called_by-same (ports.Done g) later = refl
  called_by-same (ports.Literal w v) later = refl

  called_in-same : (list : List PlainAssign) → called_in cells list ≡ called_in more list
  called_in-same [] = refl
  called_in-same (a ∷ rest) = called_by-same a.target (called_in cells rest) ∙ ap (called_by more a.target) (called_in-same rest)

  enables_at-same : (at to : At) (p : ℕ) → SameAt at to → enables_at at p ≡ enables_at to p
  enables_at-same at to p none_there = refl
  enables_at-same at to p (a_row_there e) = ap (λ r. enables_at (OfRow r) p) e
  enables_at-same at to p (a_child_there t) = refl

  enables_primitive-same : (p : PortRef) → enables_primitive cells p ≡ enables_primitive more p
  enables_primitive-same (ports.Cell c p) = enables_at-same (cell_at cells c) (cell_at more c) p (same_at cells more same c)
  enables_primitive-same (ports.Input n) = refl
  enables_primitive-same (ports.Output n) = refl
  enables_primitive-same (ports.Done g) = refl
  enables_primitive-same (ports.Literal w v) = refl

  captures_in-same : (list : List PlainAssign) → captures_in cells list ≡ captures_in more list
  captures_in-same [] = refl
  captures_in-same (a ∷ rest) = ap (λ b. b || captures_in cells rest) (enables_primitive-same a.target) ∙ ap (λ b. enables_primitive more a.target || b) (captures_in-same rest)

pub called-same : (i j : Instance) → SameTree i j → (g : ℕ) → called i g ≡ called j g
called-same i j t g =
    sym (called_in-unplaced (cells_of i) (group_at (part_of i) g).assigns)
    ∙ ap (called_in (cells_of i)) (assigns-same (part_of i) (part_of j) (same_parts i j t) g)
    ∙ called_in-unplaced (cells_of i) (group_at (part_of j) g).assigns
    ∙ called_in-same (cells_of i) (cells_of j) (same_cells i j t) (group_at (part_of j) g).assigns

pub captures-same : (i j : Instance) → SameTree i j → (g : ℕ) → captures i g ≡ captures j g
captures-same i j t g =
    sym (captures_in-unplaced (cells_of i) (group_at (part_of i) g).assigns)
    ∙ ap (captures_in (cells_of i)) (assigns-same (part_of i) (part_of j) (same_parts i j t) g)
    ∙ captures_in-unplaced (cells_of i) (group_at (part_of j) g).assigns
    ∙ captures_in-same (cells_of i) (cells_of j) (same_cells i j t) (group_at (part_of j) g).assigns

-- STATEMENTS
mutual
  groups_in-unplaced : (form : PlainForm) → groups_in (unplaced_form form) ≡ groups_in form
  groups_in-unplaced Empty = refl
  groups_in-unplaced (Enable g) = refl
  groups_in-unplaced (Seq parts) = groups_in_all-unplaced parts
  groups_in-unplaced (Par arms) = groups_in_all-unplaced arms
  groups_in-unplaced (If test comb a b) = ap (with_comb comb) (ap₂ (λ (xs ys : List ℕ). xs ++ ys) (groups_of-unplaced a) (groups_of-unplaced b))
  groups_in-unplaced (While test comb a) = ap (with_comb comb) (groups_of-unplaced a)
  groups_in-unplaced (Repeat count a) = groups_of-unplaced a
  groups_in-unplaced (StaticSeq length parts) = groups_in_all-unplaced parts
  groups_in-unplaced (StaticPar length arms) = groups_in_all-unplaced arms
  groups_in-unplaced (StaticIf length test a b) = ap₂ (λ (xs ys : List ℕ). xs ++ ys) (groups_of-unplaced a) (groups_of-unplaced b)
  groups_in-unplaced (StaticRepeat length count a) = groups_of-unplaced a
  groups_in-unplaced (Timed k) = refl

  pub groups_of-unplaced : (s : PlainStatement) → groups_of (unplaced s) ≡ groups_of s
  groups_of-unplaced (Placed form place) = groups_in-unplaced form

  groups_in_all-unplaced : (ss : PlainStatements) → groups_in_all (unplaced_statements ss) ≡ groups_in_all ss
  groups_in_all-unplaced no_statements = refl
  groups_in_all-unplaced (a_statement s ss) = ap₂ (λ (xs ys : List ℕ). xs ++ ys) (groups_of-unplaced s) (groups_in_all-unplaced ss)

module _ (part other : PlainComponent) (lengths : (g : ℕ) → group_length other g ≡ group_length part g) where
  mutual
    pub form_length-unplaced : (form : PlainForm) → form_length other (unplaced_form form) ≡ form_length part form
    form_length-unplaced Empty = refl
    form_length-unplaced (Enable g) = ap or_zero (lengths g)
    form_length-unplaced (Seq parts) = refl
    form_length-unplaced (Par arms) = refl
    form_length-unplaced (If test comb a b) = refl
    form_length-unplaced (While test comb a) = refl
    form_length-unplaced (Repeat count a) = refl
    form_length-unplaced (StaticSeq length parts) = sum_length-unplaced parts
    form_length-unplaced (StaticPar length arms) = max_length-unplaced arms
    form_length-unplaced (StaticIf length test a b) = ap (λ n. max n (length_of other (unplaced b))) (length_of-unplaced a) ∙ ap (max (length_of part a)) (length_of-unplaced b)
    form_length-unplaced (StaticRepeat length count a) = ap (λ n. count * n) (length_of-unplaced a)
    form_length-unplaced (Timed k) = refl

    length_of-unplaced : (s : PlainStatement) → length_of other (unplaced s) ≡ length_of part s
    length_of-unplaced (Placed form place) = form_length-unplaced form

    sum_length-unplaced : (ss : PlainStatements) → sum_length other (unplaced_statements ss) ≡ sum_length part ss
    sum_length-unplaced no_statements = refl
    sum_length-unplaced (a_statement s ss) = ap (λ n. n + sum_length other (unplaced_statements ss)) (length_of-unplaced s) ∙ ap (λ n. length_of part s + n) (sum_length-unplaced ss)

    max_length-unplaced : (ss : PlainStatements) → max_length other (unplaced_statements ss) ≡ max_length part ss
    max_length-unplaced no_statements = refl
    max_length-unplaced (a_statement s ss) = ap (λ n. max n (max_length other (unplaced_statements ss))) (length_of-unplaced s) ∙ ap (max (length_of part s)) (max_length-unplaced ss)

  rounds_from-same : (body others : ℕ → List Occurrence) (p q k x : ℕ) → q ≡ p → ((y : ℕ) → others y ≡ body y) → rounds_from others q k x ≡ rounds_from body p k x
  rounds_from-same body others p q zero x e h = refl
  rounds_from-same body others p q (suc k) x e h = ap₂ (λ (xs ys : List Occurrence). xs ++ ys) (h x) (rounds_from-same body others p q k (x + q) e h ∙ ap (λ n. rounds_from body p k (x + n)) e)

  mutual
    pub form_flat-unplaced : (form : PlainForm) (x : ℕ) (conditions : List Condition) → form_flat other (unplaced_form form) x conditions ≡ form_flat part form x conditions
    form_flat-unplaced Empty x conditions = refl
    form_flat-unplaced (Enable g) x conditions = ap (occurrence g x conditions) (lengths g)
    form_flat-unplaced (Seq parts) x conditions = refl
    form_flat-unplaced (Par arms) x conditions = refl
    form_flat-unplaced (If test comb a b) x conditions = refl
    form_flat-unplaced (While test comb a) x conditions = refl
    form_flat-unplaced (Repeat count a) x conditions = refl
    form_flat-unplaced (StaticSeq length parts) x conditions = seq_flat-unplaced parts x conditions
    form_flat-unplaced (StaticPar length arms) x conditions = par_flat-unplaced arms x conditions
    form_flat-unplaced (StaticIf length test a b) x conditions =
        ap (λ list. Looks test.port x conditions ∷ list)
        (ap₂ (λ (xs ys : List Occurrence). xs ++ ys) (flat-unplaced a x (condition test.port x true ∷ conditions)) (flat-unplaced b x (condition test.port x false ∷ conditions)))
    form_flat-unplaced (StaticRepeat length count a) x conditions =
        rounds_from-same (λ y. flat part a y conditions) (λ y. flat other (unplaced a) y conditions) (length_of part a) (length_of other (unplaced a)) count x (length_of-unplaced a) (λ y. flat-unplaced a y conditions)
    form_flat-unplaced (Timed k) x conditions = refl

    flat-unplaced : (s : PlainStatement) (x : ℕ) (conditions : List Condition) → flat other (unplaced s) x conditions ≡ flat part s x conditions
    flat-unplaced (Placed form place) x conditions = form_flat-unplaced form x conditions

    seq_flat-unplaced : (ss : PlainStatements) (x : ℕ) (conditions : List Condition) → seq_flat other (unplaced_statements ss) x conditions ≡ seq_flat part ss x conditions
    seq_flat-unplaced no_statements x conditions = refl
    seq_flat-unplaced (a_statement s ss) x conditions =
        ap₂ (λ (xs ys : List Occurrence). xs ++ ys) (flat-unplaced s x conditions) (seq_flat-unplaced ss (x + length_of other (unplaced s)) conditions ∙ ap (λ n. seq_flat part ss (x + n) conditions) (length_of-unplaced s))

    par_flat-unplaced : (ss : PlainStatements) (x : ℕ) (conditions : List Condition) → par_flat other (unplaced_statements ss) x conditions ≡ par_flat part ss x conditions
    par_flat-unplaced no_statements x conditions = refl
    par_flat-unplaced (a_statement s ss) x conditions = ap₂ (λ (xs ys : List Occurrence). xs ++ ys) (flat-unplaced s x conditions) (par_flat-unplaced ss x conditions)
