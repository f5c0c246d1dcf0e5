-- The steps of listing the instances.
use Rattle.std.proofs.Common.{◌≡◌, ℕ, ◌+◌, ◌<◌, List, [], ◌∷◌, ◌++◌, Bool, true, false, Option, Some, None, map, length, reverse, subst, refl, sym, ap, ◌∙◌, append_assoc, length-append, add-zero, if◌then◌else◌, arith}
use Rattle.std.proofs.lemmas.List.{reverse-append}
use Rattle.cx_vtree.specs.Plain.{PlainInstance, PlainModule}
use Rattle.cx_vtree.specs.InstanceTree.{Placed, same_name, below, tree_from}
use Rattle.cx_velab.specs.Trees.{PlainPending, trees, found_from, costs, cost_from, work}

-- a list that was pushed onto, from its end
pub pushed : {A B : Type 0} (f : A → B) (xs : List A) (x : A) → reverse (map f (xs ++ x ∷ [])) ≡ f x ∷ reverse (map f xs)
pushed f xs x = ap reverse (map-push f xs x) ∙ reverse-append (map f xs) (f x ∷ [])
  where
    map-push : {A B : Type 0} (f : A → B) (xs : List A) (x : A) → map f (xs ++ x ∷ []) ≡ map f xs ++ f x ∷ []
    map-push f [] x = refl
    map-push f (y ∷ ys) x = ap (λ l. f y ∷ l) (map-push f ys x)

pub map-pushed : {A B : Type 0} (f : A → B) (xs : List A) (x : A) → map f (xs ++ x ∷ []) ≡ map f xs ++ f x ∷ []
map-pushed f [] x = refl
map-pushed f (y ∷ ys) x = ap (λ l. f y ∷ l) (map-pushed f ys x)

-- the tree of an instance, by the module that was found
abbrev pub tree_found : Option (PlainModule × List PlainModule) → PlainInstance → ℕ → ℕ → List Placed
tree_found None i holder number = []
tree_found (Some p) i holder number =
    record { part = p.0; name = i.name; holder = holder; conns = i.conns } ∷ below (tree_from p.1) number (number + 1) p.0.instances

abbrev pub cost_found : Option (PlainModule × List PlainModule) → ℕ
cost_found None = 1
cost_found (Some p) = 2 + costs (cost_from p.1) p.0.instances

pub tree-by_found : (ms : List PlainModule) (i : PlainInstance) (holder number : ℕ) → tree_from ms i holder number ≡ tree_found (found_from ms i.kind) i holder number
tree-by_found [] i holder number = refl
tree-by_found (m ∷ before) i holder number = go (same_name m.name i.kind) (tree-by_found before i holder number)
  where
    go : (same : Bool) → tree_from before i holder number ≡ tree_found (found_from before i.kind) i holder number
        → (if same then (record { part = m; name = i.name; holder = holder; conns = i.conns } ∷ below (tree_from before) number (number + 1) m.instances) else tree_from before i holder number)
        ≡ tree_found (if same then Some (m, before) else found_from before i.kind) i holder number
    go true e = refl
    go false e = e

pub cost-by_found : (ms : List PlainModule) (i : PlainInstance) → cost_from ms i ≡ cost_found (found_from ms i.kind)
cost-by_found [] i = refl
cost-by_found (m ∷ before) i = go (same_name m.name i.kind) (cost-by_found before i)
  where
    go : (same : Bool) → cost_from before i ≡ cost_found (found_from before i.kind)
        → (if same then 2 + costs (cost_from before) m.instances else cost_from before i) ≡ cost_found (if same then Some (m, before) else found_from before i.kind)
    go true e = refl
    go false e = e

-- an instance without a module
pub trees-none : (before : List PlainModule) (holder : ℕ) (i : PlainInstance) (rest : List PlainInstance) (ps : List PlainPending) (n : ℕ) → found_from (reverse before) i.kind ≡ None
    → trees (record { before = before; instances = rest; holder = holder } ∷ ps) n ≡ trees (record { before = before; instances = i ∷ rest; holder = holder } ∷ ps) n
trees-none before holder i rest ps n none =
    let f : PlainInstance → ℕ → ℕ → List Placed = tree_from (reverse before) in
    let e : f i holder n ≡ [] = tree-by_found (reverse before) i holder n ∙ ap (λ o. tree_found o i holder n) none in
    let whole : f i holder n ++ below f holder (n + length (f i holder n)) rest ≡ below f holder n rest =
    ap (λ (t : List Placed). t ++ below f holder (n + length t) rest) e ∙ ap (λ k. below f holder k rest) (add-zero n) in
    sym (ap (λ (t : List Placed). t ++ trees ps (n + length t)) whole)

-- an instance with its module: it comes first, then what it holds
pub trees-found : (before bs : List PlainModule) (holder : ℕ) (i : PlainInstance) (rest : List PlainInstance) (ps : List PlainPending) (n : ℕ) (m : PlainModule) → found_from (reverse before) i.kind ≡ Some (m, reverse bs)
    → (record { part = m; name = i.name; holder = holder; conns = i.conns } ∷ trees (record { before = bs; instances = m.instances; holder = n } ∷ record { before = before; instances = rest; holder = holder } ∷ ps) (n + 1))
    ≡ trees (record { before = before; instances = i ∷ rest; holder = holder } ∷ ps) n
trees-found before bs holder i rest ps n m found =
    let f : PlainInstance → ℕ → ℕ → List Placed = tree_from (reverse before) in
    let x : Placed = record { part = m; name = i.name; holder = holder; conns = i.conns } in
    let c : List Placed = below (tree_from (reverse bs)) n (n + 1) m.instances in
    let e : f i holder n ≡ x ∷ c = tree-by_found (reverse before) i holder n ∙ ap (λ o. tree_found o i holder n) found in
    let r : List Placed = below f holder (n + 1 + length c) rest in
    let k : n + length (x ∷ c) ≡ n + 1 + length c = omega arith in
    let whole : f i holder n ++ below f holder (n + length (f i holder n)) rest ≡ (x ∷ c) ++ r =
    ap (λ (t : List Placed). t ++ below f holder (n + length t) rest) e ∙ ap (λ j. (x ∷ c) ++ below f holder j rest) k in
    let count : n + length ((x ∷ c) ++ r) ≡ n + 1 + length c + length r = omega (arith, length-append (x ∷ c) r) in
    sym (ap (λ (t : List Placed). t ++ trees ps (n + length t)) whole
    ∙ ap (λ j. ((x ∷ c) ++ r) ++ trees ps j) count
    ∙ append_assoc (x ∷ c) r (trees ps (n + 1 + length c + length r)))

pub work-none : (before : List PlainModule) (holder : ℕ) (i : PlainInstance) (rest : List PlainInstance) (ps : List PlainPending) → found_from (reverse before) i.kind ≡ None
    → work (record { before = before; instances = rest; holder = holder } ∷ ps) < work (record { before = before; instances = i ∷ rest; holder = holder } ∷ ps)
work-none before holder i rest ps none =
    let e : cost_from (reverse before) i ≡ 1 = cost-by_found (reverse before) i ∙ ap cost_found none in
    omega arith

pub work-found : (before bs : List PlainModule) (holder n : ℕ) (i : PlainInstance) (rest : List PlainInstance) (ps : List PlainPending) (m : PlainModule) → found_from (reverse before) i.kind ≡ Some (m, reverse bs)
    → work (record { before = bs; instances = m.instances; holder = n } ∷ record { before = before; instances = rest; holder = holder } ∷ ps) < work (record { before = before; instances = i ∷ rest; holder = holder } ∷ ps)
work-found before bs holder n i rest ps m found =
    let e : cost_from (reverse before) i ≡ 2 + costs (cost_from (reverse bs)) m.instances = cost-by_found (reverse before) i ∙ ap cost_found found in
    omega arith

-- one step of the listing, over whatever stands for the rows and for what is to be listed
module _ {A B : Type 0} (f : A → Placed) (g : B → PlainPending) (rows : List A) (pend pend1 : List B) (p1 : B) (before : List PlainModule) (holder : ℕ) (i : PlainInstance) (rest is : List PlainInstance)
    (pushed1 : pend1 ≡ pend ++ p1 ∷ []) (p1-is : g p1 ≡ record { before = before; instances = rest; holder = holder }) (is-is : is ≡ i ∷ rest) where
  pend1-is : reverse (map g pend1) ≡ (record { before = before; instances = rest; holder = holder } ∷ reverse (map g pend))
  pend1-is = ap (λ l. reverse (map g l)) pushed1 ∙ pushed g pend p1 ∙ ap (λ p. p ∷ reverse (map g pend)) p1-is

  pub step-none : found_from (reverse before) i.kind ≡ None
      → map f rows ++ trees (reverse (map g pend1)) (length rows) ≡ map f rows ++ trees (record { before = before; instances = is; holder = holder } ∷ reverse (map g pend)) (length rows)
  step-none none =
      ap (λ t. map f rows ++ t)
      (ap (λ l. trees l (length rows)) pend1-is ∙ trees-none before holder i rest (reverse (map g pend)) (length rows) none
      ∙ ap (λ l. trees (record { before = before; instances = l; holder = holder } ∷ reverse (map g pend)) (length rows)) (sym is-is))

  pub less-none : found_from (reverse before) i.kind ≡ None → work (reverse (map g pend1)) < work (record { before = before; instances = is; holder = holder } ∷ reverse (map g pend))
  less-none none =
      let less = work-none before holder i rest (reverse (map g pend)) none in
      subst (λ l. work l < work (record { before = before; instances = is; holder = holder } ∷ reverse (map g pend))) (sym pend1-is)
      (subst (λ l. work (record { before = before; instances = rest; holder = holder } ∷ reverse (map g pend)) < work (record { before = before; instances = l; holder = holder } ∷ reverse (map g pend))) (sym is-is) less)

  module _ (rows' : List A) (row : A) (pend2 : List B) (p2 : B) (bs : List PlainModule) (m : PlainModule)
      (listed : rows' ≡ rows ++ row ∷ []) (pushed2 : pend2 ≡ pend1 ++ p2 ∷ [])
      (row-is : f row ≡ record { part = m; name = i.name; holder = holder; conns = i.conns })
      (p2-is : g p2 ≡ record { before = bs; instances = m.instances; holder = length rows })
      (found : found_from (reverse before) i.kind ≡ Some (m, reverse bs)) where
    pend2-is : reverse (map g pend2)
        ≡ (record { before = bs; instances = m.instances; holder = length rows } ∷ record { before = before; instances = rest; holder = holder } ∷ reverse (map g pend))
    pend2-is = ap (λ l. reverse (map g l)) pushed2 ∙ pushed g pend1 p2 ∙ ap (λ p. p ∷ reverse (map g pend1)) p2-is
        ∙ ap (λ l. record { before = bs; instances = m.instances; holder = length rows } ∷ l) pend1-is

    count : length rows' ≡ length rows + 1
    count = ap length listed ∙ length-append rows (row ∷ [])

    pub step-found : map f rows' ++ trees (reverse (map g pend2)) (length rows') ≡ map f rows ++ trees (record { before = before; instances = is; holder = holder } ∷ reverse (map g pend)) (length rows)
    step-found =
        ap (λ l. l ++ trees (reverse (map g pend2)) (length rows')) (ap (map f) listed ∙ map-pushed f rows row ∙ ap (λ x. map f rows ++ x ∷ []) row-is)
        ∙ append_assoc (map f rows) (record { part = m; name = i.name; holder = holder; conns = i.conns } ∷ []) (trees (reverse (map g pend2)) (length rows'))
        ∙ ap (λ t. map f rows ++ t)
        (ap (λ k. record { part = m; name = i.name; holder = holder; conns = i.conns } ∷ trees (reverse (map g pend2)) k) count
        ∙ ap (λ l. record { part = m; name = i.name; holder = holder; conns = i.conns } ∷ trees l (length rows + 1)) pend2-is
        ∙ trees-found before bs holder i rest (reverse (map g pend)) (length rows) m found
        ∙ ap (λ l. trees (record { before = before; instances = l; holder = holder } ∷ reverse (map g pend)) (length rows)) (sym is-is))

    pub less-found : work (reverse (map g pend2)) < work (record { before = before; instances = is; holder = holder } ∷ reverse (map g pend))
    less-found =
        let less = work-found before bs holder (length rows) i rest (reverse (map g pend)) m found in
        subst (λ l. work l < work (record { before = before; instances = is; holder = holder } ∷ reverse (map g pend))) (sym pend2-is)
        (subst (λ l. work (record { before = bs; instances = m.instances; holder = length rows } ∷ record { before = before; instances = rest; holder = holder } ∷ reverse (map g pend)) < work (record { before = before; instances = l; holder = holder } ∷ reverse (map g pend))) (sym is-is) less)

-- what is pending, by its parts
pub pending-by_parts : (b c : List PlainModule) (is js : List PlainInstance) (h k : ℕ) → b ≡ c → is ≡ js → h ≡ k
    → ◌≡◌ {A = PlainPending} (record { before = b; instances = is; holder = h }) (record { before = c; instances = js; holder = k })
pending-by_parts b c is js h k x y z = cc
