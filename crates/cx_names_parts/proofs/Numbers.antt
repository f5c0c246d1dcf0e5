-- The components that cells are of, by number.
use Rattle.std.proofs.Common.{◌≡◌, ℕ, zero, suc, ◌<◌, inl, inr, Bool, true, false, ◌||◌, ◌++◌, List, [], ◌∷◌, Option, Some, None, cond, map, flat_map, length, slice_get, refl, sym, ap, ◌∙◌, subst, true≢false}
use Rattle.std.proofs.lemmas.Option.{slice_get_within}
use Rattle.cx_text.specs.Members.{In}
use Rattle.cx_prim.specs.declared.names.PrimitiveName.{PrimitiveName}
use Rattle.cx_ast.specs.PlainTree.{PlainTree, PlainComponent, PlainCell}
use Rattle.cx_numbering.specs.Names.{same_name, number_of, later, primitive_of, component_names, CellOf, Neither, APrimitive, AComponent, or_component, primitive_or, cell_of}
use Rattle.cx_numbering.specs.NameRules.{component_kinds, some_part, leads_back}
use Rattle.cx_names_scopes.proofs.NameLemmas.{part_at}
use Rattle.cx_numbering.proofs.NamesLemmas.{same_name-true, same_name-refl}
use Rattle.cx_names_scopes.specs.Scopes.{at_number}
use Rattle.cx_graphs.specs.Graphs.{targets_of}
use Rattle.cx_names_parts.specs.Leading.{number_or, cell_number, if_some, numbers_in, component_edges, at_part, leads_at, is_recursive}
use Rattle.std.proofs.lemmas.Bool.{or_right}

-- the targets of a node that is there, or is not
pub targets_at : {A : Type 0} (f : A → List ℕ) (xs : List A) (i : ℕ) (x : A) → slice_get xs i ≡ Some x → targets_of (map f xs) i ≡ f x
targets_at f [] i x h = absurd cc
targets_at f (y ∷ xs) zero x h = let same : y ≡ x = cc in ap f same
targets_at f (y ∷ xs) (suc i) x h = targets_at f xs i x h

pub targets_none : {A : Type 0} (f : A → List ℕ) (xs : List A) (i : ℕ) → slice_get xs i ≡ None → targets_of (map f xs) i ≡ []
targets_none f [] i h = refl
targets_none f (y ∷ xs) zero h = absurd cc
targets_none f (y ∷ xs) (suc i) h = targets_none f xs i h

-- the component of a number has the name that the number was found by
pub number_found : (name : List ℕ) (parts : List PlainComponent) (k : ℕ) → number_of name (map (λ part. part.name) parts) ≡ Some k
    → (part : PlainComponent) × (slice_get parts k ≡ Some part) × (part.name ≡ name)
number_found name [] k h = absurd cc
number_found name (x ∷ xs) k h = by (same_name x.name name) (number_of name (map (λ part. part.name) xs)) refl h (λ n. number_found name xs n)
  where
    by : (b : Bool) (o : Option ℕ) → same_name x.name name ≡ b → cond b (Some 0) (later o) ≡ Some k
        → ((n : ℕ) → o ≡ Some n → (part : PlainComponent) × (slice_get xs n ≡ Some part) × (part.name ≡ name)) → (part : PlainComponent) × (slice_get (x ∷ xs) k ≡ Some part) × (part.name ≡ name)
    by true o e h rest = let first : 0 ≡ k = cc in (x, ap (λ n. slice_get (x ∷ xs) n) (sym first), same_name-true x.name name e)
    by false None e h rest = absurd cc
    by false (Some n) e h rest = let next : suc n ≡ k = cc in let w = rest n refl in (w.0, ap (λ m. slice_get (x ∷ xs) m) (sym next) ∙ w.1, w.2)

-- there is a number for the name of each component
pub number_there : (parts : List PlainComponent) (k : ℕ) (part : PlainComponent) → slice_get parts k ≡ Some part → number_of part.name (map (λ part. part.name) parts) ≡ None → ⊥
number_there [] k part h none = absurd cc
number_there (x ∷ xs) zero part h none =
    let same : x ≡ part = cc in
    let named : same_name x.name part.name ≡ true = ap (λ p. same_name x.name p.name) (sym same) ∙ same_name-refl x.name in
    absurd (found (same_name x.name part.name) named none)
  where
    found : (b : Bool) → b ≡ true → cond b (Some 0) (later (number_of part.name (map (λ p. p.name) xs))) ≡ None → ⊥
    found true e h = absurd cc
    found false e h = true≢false (sym e)
number_there (x ∷ xs) (suc k) part h none = by (same_name x.name part.name) (number_of part.name (map (λ p. p.name) xs)) none (number_there xs k part h)
  where
    by : (b : Bool) (o : Option ℕ) → cond b (Some 0) (later o) ≡ None → (o ≡ None → ⊥) → ⊥
    by true o h rest = absurd cc
    by false None h rest = rest refl
    by false (Some n) h rest = absurd cc

-- the component of a number is the first of its name
abbrev pub IsFirst : PlainTree → ℕ → Type 0
IsFirst tree k = (part : PlainComponent) × (slice_get tree.components k ≡ Some part) × (number_of part.name (component_names tree) ≡ Some k)

pub first_found : (tree : PlainTree) (name : List ℕ) (k : ℕ) → number_of name (component_names tree) ≡ Some k → IsFirst tree k
first_found tree name k h = let w = number_found name tree.components k h in (w.0, w.1, ap (λ n. number_of n (component_names tree)) w.2 ∙ h)

number_first : (tree : PlainTree) (p : Option PrimitiveName) (name : List ℕ) (k : ℕ) → number_or p (number_of name (component_names tree)) ≡ Some k → IsFirst tree k
number_first tree (Some p) name k h = absurd cc
number_first tree None name k h = first_found tree name k h

pub numbers_first : (tree : PlainTree) (cells : List PlainCell) (k : ℕ) → In (numbers_in tree cells) k → IsFirst tree k
numbers_first tree [] k h = absurd h
numbers_first tree (cell ∷ cells) k h = by (cell_number tree cell) refl h (numbers_first tree cells k)
  where
    by : (o : Option ℕ) → cell_number tree cell ≡ o → In (if_some o (numbers_in tree cells)) k → (In (numbers_in tree cells) k → IsFirst tree k) → IsFirst tree k
    by None e h rest = rest h
    by (Some n) e (inl same) rest = number_first tree (primitive_of cell.kind) cell.kind k (e ∙ ap Some same)
    by (Some n) e (inr h) rest = rest h

pub first_within : (tree : PlainTree) (k : ℕ) → IsFirst tree k → k < length tree.components
first_within tree k w = slice_get_within tree.components k w.0 w.1

-- an edge leads to a component that is the first of its name
pub target_first : (tree : PlainTree) (n k : ℕ) → In (targets_of (component_edges tree) n) k → IsFirst tree k
target_first tree n k h = by (slice_get tree.components n) refl
  where
    by : (o : Option PlainComponent) → slice_get tree.components n ≡ o → IsFirst tree k
    by None e = absurd (subst (λ ns. In ns k) (targets_none (λ part. numbers_in tree part.cells) tree.components n e) h)
    by (Some part) e = numbers_first tree part.cells k (subst (λ ns. In ns k) (targets_at (λ part. numbers_in tree part.cells) tree.components n part e) h)

-- the number of a cell is among those of the cells
pub number_in_cells : (tree : PlainTree) (cells : List PlainCell) (i : ℕ) (cell : PlainCell) (k : ℕ) → slice_get cells i ≡ Some cell → cell_number tree cell ≡ Some k → In (numbers_in tree cells) k
number_in_cells tree [] i cell k h e = absurd cc
number_in_cells tree (x ∷ xs) zero cell k h e =
    let same : x ≡ cell = cc in
    subst (λ o. In (if_some o (numbers_in tree xs)) k) (sym (ap (λ y. cell_number tree y) same ∙ e)) (inl refl)
number_in_cells tree (x ∷ xs) (suc i) cell k h e = by (cell_number tree x) (number_in_cells tree xs i cell k h e)
  where
    by : (o : Option ℕ) → In (numbers_in tree xs) k → In (if_some o (numbers_in tree xs)) k
    by None s = s
    by (Some n) s = inr s

-- what a cell is of leads back where the component of its number does
leads_number : PlainTree → List ℕ → Option ℕ → Bool
leads_number tree name None = false
leads_number tree name (Some k) = leads_at tree name (length tree.components) k

recursive_is : (tree : PlainTree) (name : List ℕ) (cell : PlainCell) → is_recursive tree name (cell_of tree cell) ≡ leads_number tree name (cell_number tree cell)
unfolding leads_number
recursive_is tree name cell =
    ap (λ o. is_recursive tree name (primitive_or (primitive_of cell.kind) cell.numbers o)) (part_at cell.kind tree.components)
    ∙ by (primitive_of cell.kind) (number_of cell.kind (component_names tree))
  where
    at : (o : Option PlainComponent) → is_recursive tree name (or_component o) ≡ at_part (leads_back tree name (length tree.components)) o
    at None = refl
    at (Some part) = refl

    by : (p : Option PrimitiveName) (o : Option ℕ) → is_recursive tree name (primitive_or p cell.numbers (at_number o tree.components)) ≡ leads_number tree name (number_or p o)
    by (Some p) o = refl
    by None None = refl
    by None (Some k) = at (slice_get tree.components k)

pub recursive_none : (tree : PlainTree) (name : List ℕ) (cell : PlainCell) → cell_number tree cell ≡ None → is_recursive tree name (cell_of tree cell) ≡ false
unfolding leads_number
recursive_none tree name cell e = recursive_is tree name cell ∙ ap (λ o. leads_number tree name o) e

pub recursive_some : (tree : PlainTree) (name : List ℕ) (cell : PlainCell) (k : ℕ) → cell_number tree cell ≡ Some k → is_recursive tree name (cell_of tree cell) ≡ leads_at tree name (length tree.components) k
unfolding leads_number
recursive_some tree name cell k e = recursive_is tree name cell ∙ ap (λ o. leads_number tree name o) e

-- the components of numbers
abbrev join_part : Option PlainComponent → List PlainComponent → List PlainComponent
join_part None rest = rest
join_part (Some part) rest = part ∷ rest

abbrev parts_at : List PlainComponent → List ℕ → List PlainComponent
parts_at parts [] = []
parts_at parts (k ∷ ks) = join_part (slice_get parts k) (parts_at parts ks)

abbrev kind_parts : CellOf → List PlainComponent
kind_parts Neither = []
kind_parts (APrimitive primitive) = []
kind_parts (AComponent part) = part ∷ []

kinds_at : (tree : PlainTree) (cells : List PlainCell) → flat_map (λ cell. kind_parts (cell_of tree cell)) cells ≡ parts_at tree.components (numbers_in tree cells)
kinds_at tree [] = refl
kinds_at tree (cell ∷ cells) =
    ap (λ o. kind_parts (primitive_or (primitive_of cell.kind) cell.numbers o) ++ flat_map (λ c. kind_parts (cell_of tree c)) cells) (part_at cell.kind tree.components)
    ∙ by (primitive_of cell.kind) (number_of cell.kind (component_names tree)) (kinds_at tree cells)
  where
    at : (o : Option PlainComponent) (rest parts : List PlainComponent) → rest ≡ parts → kind_parts (or_component o) ++ rest ≡ join_part o parts
    at None rest parts h = h
    at (Some part) rest parts h = ap (λ r. part ∷ r) h

    by : (p : Option PrimitiveName) (o : Option ℕ) → flat_map (λ c. kind_parts (cell_of tree c)) cells ≡ parts_at tree.components (numbers_in tree cells)
        → kind_parts (primitive_or p cell.numbers (at_number o tree.components)) ++ flat_map (λ c. kind_parts (cell_of tree c)) cells ≡ parts_at tree.components (if_some (number_or p o) (numbers_in tree cells))
    by (Some p) o h = h
    by None None h = h
    by None (Some k) h = at (slice_get tree.components k) _ _ h

pub component_kinds_at : (tree : PlainTree) (part : PlainComponent) → component_kinds tree part ≡ parts_at tree.components (numbers_in tree part.cells)
component_kinds_at tree part = kinds_at tree part.cells

-- a test holds for the component of one of the numbers, or for none
pub some_in : (test : PlainComponent → Bool) (parts : List PlainComponent) (ks : List ℕ) → some_part test (parts_at parts ks) ≡ true → (k : ℕ) × In ks k × (at_part test (slice_get parts k) ≡ true)
some_in test parts [] h = absurd (true≢false (sym h))
some_in test parts (k ∷ ks) h = by (slice_get parts k) refl h (some_in test parts ks)
  where
    by : (o : Option PlainComponent) → slice_get parts k ≡ o → some_part test (join_part o (parts_at parts ks)) ≡ true
        → (some_part test (parts_at parts ks) ≡ true → (n : ℕ) × In ks n × (at_part test (slice_get parts n) ≡ true)) → (n : ℕ) × In (k ∷ ks) n × (at_part test (slice_get parts n) ≡ true)
    by None e h rest = let w = rest h in (w.0, inr w.1, w.2)
    by (Some part) e h rest = first (test part) refl h
      where
        first : (b : Bool) → test part ≡ b → b || some_part test (parts_at parts ks) ≡ true → (n : ℕ) × In (k ∷ ks) n × (at_part test (slice_get parts n) ≡ true)
        first true q g = (k, inl refl, ap (λ o. at_part test o) e ∙ q)
        first false q g = let w = rest g in (w.0, inr w.1, w.2)

pub some_of : (test : PlainComponent → Bool) (parts : List PlainComponent) (ks : List ℕ) (k : ℕ) → In ks k → at_part test (slice_get parts k) ≡ true → some_part test (parts_at parts ks) ≡ true
some_of test parts [] k stands h = absurd stands
some_of test parts (n ∷ ks) k (inl same) h = at (slice_get parts n) (ap (λ i. at_part test (slice_get parts i)) same ∙ h)
  where
    at : (o : Option PlainComponent) → at_part test o ≡ true → some_part test (join_part o (parts_at parts ks)) ≡ true
    at None e = absurd (true≢false (sym e))
    at (Some part) e = ap (λ b. b || some_part test (parts_at parts ks)) e
some_of test parts (n ∷ ks) k (inr stands) h = at (slice_get parts n) (some_of test parts ks k stands h)
  where
    at : (o : Option PlainComponent) → some_part test (parts_at parts ks) ≡ true → some_part test (join_part o (parts_at parts ks)) ≡ true
    at None e = e
    at (Some part) e = or_right (test part) (some_part test (parts_at parts ks)) e
