-- Names that are equal, and the numbers of names.
use Rattle.std.proofs.Common.{◌≡◌, ℕ, zero, suc, ◌+◌, ◌<◌, Bool, true, false, ◌&&◌, ◌||◌, List, [], ◌∷◌, ◌++◌, length, map, drop, get_or, slice_get, option_map, arith, append_assoc, Option, None, Some, cond, is_some, nat_eq, refl, sym, ◌∙◌, ap, subst, true≢false, codes, add-one}
use Rattle.std.proofs.lemmas.Option.{get_or_from_slice_get, slice_get_within, slice_get-get_or, slice_get-map}
use Rattle.std.proofs.lemmas.List.{length-map, get_or-map}
use Rattle.std.specs.Cmp.Lexicographic.{pointwise, bytes_decides}
use Rattle.cx_ast.specs.declared.components.ComponentItem.{ComponentItem}
use Rattle.cx_ast.specs.declared.wiring.GroupWord.{GroupWord}
use Rattle.cx_ast.specs.declared.components.CellItem.{CellItem}
use Rattle.cx_ast.specs.PlainTree.{plain_cell, plain_component, PlainPort, PlainCell, PlainGroup, PlainComponent}
use Rattle.cx_numbering.specs.Names.{same_name, number_of, later, is_among, is_own_name, if_not_own, signature_ports, port_names, cell_among, component_among, group_among, Neither, AComponent, or_component}
use Rattle.cx_numbering.proofs.NamesLemmas.{same_name-pointwise, same_name-true, same_name-refl, is_among-cons}
use Rattle.cx_names_scopes.specs.declared.index.PartIndex.{PartIndex}
use Rattle.cx_names_scopes.specs.declared.index.Groups.{Groups}
use Rattle.cx_names_scopes.specs.declared.numbers.Numbers.{Numbers}
use Rattle.cx_names_scopes.specs.Scopes.{at_number, word_of}
use Rattle.cx_names_scopes.specs.Indexed.{IsPartIndex, ArePartIndexes, AreGroups}
use Rattle.cx_names_scopes.specs.Numbered.{number_in, AreNumbersOf, or_else, number_if, number_from}
use Rattle.cx_text.proofs.ListLaws.{drop_item}

-- a name that is there keeps its number
pub kept_number : (found : List ℕ → Option ℕ) (name n : List ℕ) (number : ℕ) → is_some (found name) ≡ true → found n ≡ or_else (found n) (number_if (same_name name n) number)
kept_number found name n number there = by (found n) (same_name name n) refl refl
  where
    by : (o : Option ℕ) (b : Bool) → found n ≡ o → same_name name n ≡ b → o ≡ or_else o (number_if b number)
    by (Some k) b p q = refl
    by None false p q = refl
    by None true p q = absurd (true≢false (sym there ∙ ap (λ m. is_some (found m)) (same_name-true name n q) ∙ ap is_some p))

-- a name that is not there takes the number
pub new_number : (found : List ℕ → Option ℕ) (name n : List ℕ) (number : ℕ) → is_some (found name) ≡ false → cond (pointwise nat_eq name n) (Some number) (found n) ≡ or_else (found n) (number_if (same_name name n) number)
new_number found name n number absent = subst (λ b. cond b (Some number) (found n) ≡ or_else (found n) (number_if (same_name name n) number)) (same_name-pointwise name n) (by (found n) (same_name name n) refl refl)
  where
    by : (o : Option ℕ) (b : Bool) → found n ≡ o → same_name name n ≡ b → cond b (Some number) o ≡ or_else o (number_if b number)
    by None true p q = refl
    by None false p q = refl
    by (Some k) false p q = refl
    by (Some k) true p q = absurd (true≢false (ap is_some (sym p) ∙ ap (λ m. is_some (found m)) (sym (same_name-true name n q)) ∙ absent))

-- counting from k
pub number_from-later : (k : ℕ) (n : List ℕ) (xs : List (List ℕ)) → number_from (k + 1) n xs ≡ later (number_from k n xs)
number_from-later k n [] = refl
number_from-later k n (x ∷ xs) = by (same_name x n) (number_from-later (k + 1) n xs)
  where
    by : (b : Bool) → number_from ((k + 1) + 1) n xs ≡ later (number_from (k + 1) n xs) → cond b (Some (k + 1)) (number_from ((k + 1) + 1) n xs) ≡ later (cond b (Some k) (number_from (k + 1) n xs))
    by true h = ap Some (add-one k)
    by false h = h

pub number_from-start : (n : List ℕ) (xs : List (List ℕ)) → number_from 0 n xs ≡ number_of n xs
number_from-start n [] = refl
number_from-start n (x ∷ xs) = ap (λ o. cond (same_name x n) (Some 0) o) (number_from-later 0 n xs ∙ ap later (number_from-start n xs))

-- before the first part is added
pub numbers_start : (found : Option ℕ) (n : List ℕ) (xs : List (List ℕ)) → found ≡ None → or_else found (number_from 0 n xs) ≡ number_of n xs
numbers_start found n xs h = ap (λ o. or_else o (number_from 0 n xs)) h ∙ number_from-start n xs

-- one more name
pub number_from-step : (found : Option ℕ) (b : Bool) (k : ℕ) (rest : Option ℕ) → or_else (or_else found (number_if b k)) rest ≡ or_else found (cond b (Some k) rest)
number_from-step (Some n) b k rest = refl
number_from-step None true k rest = refl
number_from-step None false k rest = refl

-- the four names of every component
pub own_name_is : (name : List ℕ) → is_own_name name ≡ (((same_name (codes "go") name || same_name (codes "clk") name) || same_name (codes "reset") name) || same_name (codes "done") name)
own_name_is name = by (same_name (codes "go") name) (same_name (codes "clk") name) (same_name (codes "reset") name) (same_name (codes "done") name)
  where
    by : (a b c d : Bool) → is_some (cond a (Some 0) (later (cond b (Some 0) (later (cond c (Some 0) (later (cond d (Some 0) None))))))) ≡ (((a || b) || c) || d)
    by true b c d = refl
    by false true c d = refl
    by false false true d = refl
    by false false false true = refl
    by false false false false = refl

-- the ports from one on that is none of the four
pub ports_step : (found new : Option ℕ) (k : ℕ) (n : List ℕ) (port : PlainPort) (rest : List PlainPort) (total : Option ℕ) → is_own_name port.name ≡ false
    → new ≡ or_else found (number_if (same_name port.name n) k) → or_else found (number_from k n (port_names (port ∷ rest))) ≡ total
    → or_else new (number_from (k + 1) n (port_names rest)) ≡ total
ports_step found new k n port rest total other added h =
    ap (λ o. or_else o (number_from (k + 1) n (port_names rest))) added
    ∙ number_from-step found (same_name port.name n) k (number_from (k + 1) n (port_names rest))
    ∙ ap (λ b. or_else found (number_from k n (map (λ p. p.name) (if_not_own b port (signature_ports rest))))) (sym other)
    ∙ h

-- one index more
pub indexes_step : (all : List PlainComponent) (part : PlainComponent) (index : PartIndex) (left : List PlainComponent) (before after rest : List PartIndex)
    → IsPartIndex part index → after ≡ before ++ index ∷ []
    → ((more : List PartIndex) → ArePartIndexes (part ∷ left) more → ArePartIndexes all (before ++ more))
    → ArePartIndexes left rest → ArePartIndexes all (after ++ rest)
indexes_step all part index left before after rest one pushed complete others =
    subst (λ xs. ArePartIndexes all xs) (sym (ap (λ xs. xs ++ rest) pushed ∙ append_assoc before (index ∷ []) rest)) (complete (index ∷ rest) (one, others))

-- the same, of an item that a look-up found
pub drop_found : {A : Type 0} (xs : List A) (i : ℕ) (x : A) → slice_get xs i ≡ Some x → drop i xs ≡ x ∷ drop (i + 1) xs
drop_found xs i x found = drop_item xs i x (sym (get_or_from_slice_get xs i x x found)) (slice_get_within xs i x found)

-- a cell by its number
pub cell_at : (name : List ℕ) (cells : List PlainCell) → cell_among name cells ≡ at_number (number_of name (map (λ cell. cell.name) cells)) cells
cell_at name [] = refl
cell_at name (cell ∷ cells) = by (same_name cell.name name) (number_of name (map (λ c. c.name) cells)) (cell_at name cells)
  where
    by : (b : Bool) (o : Option ℕ) → cell_among name cells ≡ at_number o cells → cond b (Some cell) (cell_among name cells) ≡ at_number (cond b (Some 0) (later o)) (cell ∷ cells)
    by true o h = refl
    by false None h = h
    by false (Some n) h = h

pub part_at : (name : List ℕ) (parts : List PlainComponent) → component_among name parts ≡ at_number (number_of name (map (λ part. part.name) parts)) parts
part_at name [] = refl
part_at name (part ∷ parts) = by (same_name part.name name) (number_of name (map (λ c. c.name) parts)) (part_at name parts)
  where
    by : (b : Bool) (o : Option ℕ) → component_among name parts ≡ at_number o parts → cond b (Some part) (component_among name parts) ≡ at_number (cond b (Some 0) (later o)) (part ∷ parts)
    by true o h = refl
    by false None h = h
    by false (Some n) h = h

pub group_at : (name : List ℕ) (groups : List PlainGroup) → group_among name groups ≡ at_number (number_of name (map (λ g. g.name) groups)) groups
group_at name [] = refl
group_at name (g ∷ gs) = by (same_name g.name name) (number_of name (map (λ c. c.name) gs)) (group_at name gs)
  where
    by : (b : Bool) (o : Option ℕ) → group_among name gs ≡ at_number o gs → cond b (Some g) (group_among name gs) ≡ at_number (cond b (Some 0) (later o)) (g ∷ gs)
    by true o h = refl
    by false None h = h
    by false (Some n) h = h

-- a number that a look-up found is that of the names
pub numbered : (names : List (List ℕ)) (numbers : Numbers) (name : List ℕ) (o : Option ℕ) → AreNumbersOf names numbers → o ≡ number_in numbers name → number_of name names ≡ o
numbered names numbers name o are found = sym (are name) ∙ sym found

pub number_within : (name : List ℕ) (names : List (List ℕ)) (k : ℕ) → number_of name names ≡ Some k → k < length names
number_within name [] k h = absurd cc
number_within name (x ∷ xs) k h = by (same_name x name) (number_of name xs) (λ n. number_within name xs n) h
  where
    by : (b : Bool) (o : Option ℕ) → ((n : ℕ) → o ≡ Some n → n < length xs) → cond b (Some 0) (later o) ≡ Some k → k < length (x ∷ xs)
    by true o within h = let e : 0 ≡ k = cc in omega arith
    by false None within h = absurd cc
    by false (Some n) within h = let e : suc n ≡ k = cc in omega (arith, within n refl)

-- the part of a number
pub at_found : {A B : Type 0} (f : A → B) (items : List A) (o : Option ℕ) (k : ℕ) (x : A) → o ≡ Some k → k < length items → x ≡ get_or items k x → Some (f x) ≡ at_number o (map f items)
at_found f items o k x found within at =
    ap (λ y. Some (f y)) at ∙ sym (ap (λ r. option_map f r) (slice_get-get_or items k x within)) ∙ sym (slice_get-map f items k) ∙ ap (λ n. at_number n (map f items)) (sym found)

pub within_items : {A B : Type 0} (f : A → B) (g : B → List ℕ) (items : List A) (name : List ℕ) (k : ℕ) → number_of name (map g (map f items)) ≡ Some k → k < length items
within_items f g items name k found = subst (λ n. k < n) (length-map (map f items) g ∙ length-map items f) (number_within name (map g (map f items)) k found)

-- there are as many indexes as components, and each is of its component
pub as_many : (parts : List PlainComponent) (indexes : List PartIndex) → ArePartIndexes parts indexes → length indexes ≡ length parts
as_many [] [] are = refl
as_many [] (index ∷ indexes) are = absurd are
as_many (part ∷ parts) [] are = absurd are
as_many (part ∷ parts) (index ∷ indexes) are = ap suc (as_many parts indexes are.1)

pub each_index : (parts : List PlainComponent) (indexes : List PartIndex) (k : ℕ) (part : PlainComponent) (index : PartIndex) → ArePartIndexes parts indexes
    → k < length parts → IsPartIndex (get_or parts k part) (get_or indexes k index)
each_index [] indexes k part index are within = absurd (omega arith)
each_index (p ∷ parts) [] k part index are within = absurd are
each_index (p ∷ parts) (i ∷ indexes) zero part index are within = are.0
each_index (p ∷ parts) (i ∷ indexes) (suc k) part index are within = each_index parts indexes k part index are.1 (omega arith)

pub index_at : (items : List ComponentItem) (indexes : List PartIndex) (k : ℕ) (x : ComponentItem) (y : PartIndex) → ArePartIndexes (map plain_component items) indexes
    → k < length items → x ≡ get_or items k x → y ≡ get_or indexes k y → IsPartIndex (plain_component x) y
index_at items indexes k x y are within at at_index =
    subst (λ i. IsPartIndex (plain_component x) i) (sym at_index)
    (subst (λ p. IsPartIndex p (get_or indexes k y)) (get_or-map plain_component items k x (plain_component x) within ∙ ap plain_component (sym at))
    (each_index (map plain_component items) indexes k (plain_component x) y are (subst (λ n. k < n) (sym (length-map items plain_component)) within)))

-- a component or none
pub some_component : (part : PlainComponent) (o : Option PlainComponent) → Some part ≡ o → AComponent part ≡ or_component o
some_component part o h = ap or_component h

-- a group by its number
pub group_word : (groups : List PlainGroup) (words : List GroupWord) (name : List ℕ) (k : ℕ) (word : GroupWord) → words ≡ map (λ g. g.kind) groups → number_of name (map (λ g. g.name) groups) ≡ Some k
    → word ≡ get_or words k word → Some word ≡ word_of (group_among name groups)
group_word groups words name k word same found at =
    let within : k < length groups = subst (λ n. k < n) (length-map groups (λ g. g.name)) (number_within name (map (λ g. g.name) groups) k found) in
    by_word (slice_get groups k) (slice_get-map (λ g. g.kind) groups k ∙ refl) (ap (λ ws. slice_get ws k) (sym same) ∙ slice_get-get_or words k word (subst (λ n. k < n) (sym (ap length same ∙ length-map groups (λ g. g.kind))) within) ∙ ap Some (sym at))
    ∙ ap word_of (sym (group_at name groups ∙ ap (λ o. at_number o groups) found))
  where
    by_word : (o : Option PlainGroup) → slice_get (map (λ g. g.kind) groups) k ≡ option_map (λ g. g.kind) o → slice_get (map (λ g. g.kind) groups) k ≡ Some word → Some word ≡ word_of o
    by_word None p q = sym q ∙ p
    by_word (Some g) p q = sym q ∙ p

-- a cell of the tree, by its number
pub cell_within : (items : List CellItem) (numbers : Numbers) (name : List ℕ) (k : ℕ) → AreNumbersOf (map (λ cell. cell.name) (map plain_cell items)) numbers → Some k ≡ number_in numbers name → k < length items
cell_within items numbers name k are found = within_items plain_cell (λ cell. cell.name) items name k (numbered (map (λ cell. cell.name) (map plain_cell items)) numbers name (Some k) are found)

pub cell_absent : (items : List CellItem) (numbers : Numbers) (name : List ℕ) → AreNumbersOf (map (λ cell. cell.name) (map plain_cell items)) numbers → None ≡ number_in numbers name → None ≡ cell_among name (map plain_cell items)
cell_absent items numbers name are found = sym (cell_at name (map plain_cell items) ∙ ap (λ o. at_number o (map plain_cell items)) (numbered (map (λ cell. cell.name) (map plain_cell items)) numbers name None are found))

pub cell_present : (items : List CellItem) (numbers : Numbers) (name : List ℕ) (k : ℕ) (x : CellItem) → AreNumbersOf (map (λ cell. cell.name) (map plain_cell items)) numbers → Some k ≡ number_in numbers name
    → x ≡ get_or items k x → Some (plain_cell x) ≡ cell_among name (map plain_cell items)
cell_present items numbers name k x are found at =
    at_found plain_cell items (number_of name (map (λ cell. cell.name) (map plain_cell items))) k x (numbered (map (λ cell. cell.name) (map plain_cell items)) numbers name (Some k) are found) (cell_within items numbers name k are found) at
    ∙ sym (cell_at name (map plain_cell items))

-- a component of the tree, by its number
pub part_within : (items : List ComponentItem) (numbers : Numbers) (name : List ℕ) (k : ℕ) → AreNumbersOf (map (λ part. part.name) (map plain_component items)) numbers → Some k ≡ number_in numbers name → k < length items
part_within items numbers name k are found = within_items plain_component (λ part. part.name) items name k (numbered (map (λ part. part.name) (map plain_component items)) numbers name (Some k) are found)

pub index_within : (items : List ComponentItem) (indexes : List PartIndex) (numbers : Numbers) (name : List ℕ) (k : ℕ) → AreNumbersOf (map (λ part. part.name) (map plain_component items)) numbers → Some k ≡ number_in numbers name
    → ArePartIndexes (map plain_component items) indexes → k < length indexes
index_within items indexes numbers name k are found every = subst (λ n. k < n) (sym (as_many (map plain_component items) indexes every ∙ length-map items plain_component)) (part_within items numbers name k are found)

pub part_absent : (items : List ComponentItem) (numbers : Numbers) (name : List ℕ) → AreNumbersOf (map (λ part. part.name) (map plain_component items)) numbers → None ≡ number_in numbers name
    → Neither ≡ or_component (component_among name (map plain_component items))
part_absent items numbers name are found = ap or_component (sym (part_at name (map plain_component items) ∙ ap (λ o. at_number o (map plain_component items)) (numbered (map (λ part. part.name) (map plain_component items)) numbers name None are found)))

pub part_present : (items : List ComponentItem) (numbers : Numbers) (name : List ℕ) (k : ℕ) (x : ComponentItem) → AreNumbersOf (map (λ part. part.name) (map plain_component items)) numbers → Some k ≡ number_in numbers name
    → x ≡ get_or items k x → AComponent (plain_component x) ≡ or_component (component_among name (map plain_component items))
part_present items numbers name k x are found at =
    ap or_component
    (at_found plain_component items (number_of name (map (λ part. part.name) (map plain_component items))) k x (numbered (map (λ part. part.name) (map plain_component items)) numbers name (Some k) are found) (part_within items numbers name k are found) at
    ∙ sym (part_at name (map plain_component items)))

-- a group's word, by its number
pub group_within : (groups : List PlainGroup) (index : Groups) (name : List ℕ) (k : ℕ) → AreGroups groups index → Some k ≡ number_in index.numbers name → k < length index.words.items
group_within groups index name k are found =
    subst (λ n. k < n) (length-map groups (λ g. g.name) ∙ sym (ap length are.words ∙ length-map groups (λ g. g.kind)))
    (number_within name (map (λ g. g.name) groups) k (numbered (map (λ g. g.name) groups) index.numbers name (Some k) are.numbers found))

pub group_absent : (groups : List PlainGroup) (index : Groups) (name : List ℕ) → AreGroups groups index → None ≡ number_in index.numbers name → None ≡ word_of (group_among name groups)
group_absent groups index name are found = ap word_of (sym (group_at name groups ∙ ap (λ o. at_number o groups) (numbered (map (λ g. g.name) groups) index.numbers name None are.numbers found)))

pub group_present : (groups : List PlainGroup) (index : Groups) (name : List ℕ) (k : ℕ) (word : GroupWord) → AreGroups groups index → Some k ≡ number_in index.numbers name → word ≡ get_or index.words.items k word
    → Some word ≡ word_of (group_among name groups)
group_present groups index name k word are found at = group_word groups index.words.items name k word are.words (numbered (map (λ g. g.name) groups) index.numbers name (Some k) are.numbers found) at

pub there_if : (names : List (List ℕ)) (numbers : Numbers) (name : List ℕ) (o : Option ℕ) → AreNumbersOf names numbers → o ≡ number_in numbers name → is_some o ≡ is_among name names
there_if names numbers name o are found = ap is_some (sym (numbered names numbers name o are found))

pub is_among-append : (n : List ℕ) (xs ys : List (List ℕ)) → is_among n (xs ++ ys) ≡ (is_among n xs || is_among n ys)
is_among-append n [] ys = refl
is_among-append n (x ∷ xs) ys = is_among-cons n x (xs ++ ys) ∙ ap (λ b. same_name x n || b) (is_among-append n xs ys) ∙ or_assoc (same_name x n) (is_among n xs) (is_among n ys) ∙ ap (λ b. b || is_among n ys) (sym (is_among-cons n x xs))
  where
    or_assoc : (a b c : Bool) → (a || (b || c)) ≡ ((a || b) || c)
    or_assoc true b c = refl
    or_assoc false b c = refl

-- the ports of a component's cell
pub component_port : (n : List ℕ) (inputs outputs : List (List ℕ)) (input output : Numbers) → AreNumbersOf inputs input → AreNumbersOf outputs output
    → is_among n (codes "go" ∷ (inputs ++ (outputs ++ (codes "done" ∷ [])))) ≡ (((same_name (codes "go") n || is_some (number_in input n)) || is_some (number_in output n)) || same_name (codes "done") n)
component_port n inputs outputs input output are_inputs are_outputs =
    is_among-cons n (codes "go") (inputs ++ (outputs ++ (codes "done" ∷ [])))
    ∙ ap (λ b. same_name (codes "go") n || b)
    (is_among-append n inputs (outputs ++ (codes "done" ∷ []))
    ∙ ap (λ b. is_among n inputs || b)
    (is_among-append n outputs (codes "done" ∷ []) ∙ ap (λ b. is_among n outputs || b) (is_among-cons n (codes "done") [])))
    ∙ shape (same_name (codes "go") n) (is_among n inputs) (is_some (number_in input n)) (is_among n outputs) (is_some (number_in output n)) (same_name (codes "done") n) (ap is_some (are_inputs n)) (ap is_some (are_outputs n))
  where
    shape : (a b b' c c' d : Bool) → b' ≡ b → c' ≡ c → (a || (b || (c || (d || false)))) ≡ (((a || b') || c') || d)
    shape a b b' c c' d p q = sides a b c d ∙ ap (λ x. ((a || x) || c) || d) (sym p) ∙ ap (λ x. ((a || b') || x) || d) (sym q)
      where
        sides : (a b c d : Bool) → (a || (b || (c || (d || false)))) ≡ (((a || b) || c) || d)
        sides true b c d = refl
        sides false true c d = refl
        sides false false true d = refl
        sides false false false true = refl
        sides false false false false = refl

pub same_name-turned : (xs ys : List ℕ) → same_name xs ys ≡ same_name ys xs
same_name-turned xs ys = by (same_name xs ys) (same_name ys xs) refl refl
  where
    by : (a b : Bool) → same_name xs ys ≡ a → same_name ys xs ≡ b → a ≡ b
    by true true p q = refl
    by false false p q = refl
    by true false p q = sym (same_name-refl xs) ∙ ap (λ zs. same_name zs xs) (same_name-true xs ys p) ∙ q
    by false true p q = sym p ∙ ap (λ zs. same_name zs ys) (sym (same_name-true ys xs q)) ∙ same_name-refl ys

pub component_output : (n : List ℕ) (outputs : List (List ℕ)) (output : Numbers) → AreNumbersOf outputs output → is_among n (outputs ++ (codes "done" ∷ [])) ≡ (is_some (number_in output n) || same_name (codes "done") n)
component_output n outputs output are =
    is_among-append n outputs (codes "done" ∷ [])
    ∙ ap (λ b. b || is_among n (codes "done" ∷ [])) (ap is_some (sym (are n)))
    ∙ ap (λ b. is_some (number_in output n) || b) (is_among-cons n (codes "done") [] ∙ or_false (same_name (codes "done") n))
  where
    or_false : (b : Bool) → (b || false) ≡ b
    or_false true = refl
    or_false false = refl
