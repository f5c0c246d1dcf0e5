-- A tree holds each sound source.
use Rattle.std.proofs.Common.{◌≡◌, ◌≢◌, ℕ, ◌+◌, ◌-◌, ◌<◌, ◌≤◌, ◌^◌, ◌==◌, not, Bool, true, false, ◌&&◌, ◌||◌, List, [], ◌∷◌, ◌++◌, Option, Some, None, refl, ◌∙◌, ap, arith, if◌then◌else◌}
use Rattle.std.specs.Prelude.{is_some, nat_lt, nat_le, option_and_then, is_none}
use Rattle.std.specs.List.{list_all}
use Rattle.std.specs.Option.{option_map_or}
use Rattle.std.proofs.lemmas.Bool.{and_parts, and_from, or_parts, or_from, not-true, ne_eqb, eqb-false, ltb-true, leb-true, leb-false, lt-ltb, le-leb}
use Rattle.cx_vtree.specs.declared.meanings.Meaning.{Meaning}
use Rattle.cx_vtree.specs.InstanceTree.{same_name}
use Rattle.cx_vtree.specs.Plain.{PlainExpr, Named, Number, Part, Word, Applied, Inverted, Chosen, Joined, PlainPort, PlainDecl, WireOf, RegisterOf, ArrayOf, PlainAssign, PlainStore, PlainItem, SetTo, StoreTo}
use Rattle.cx_vtree.specs.Sound.{Faults, Break, Scope, break_at, first_break, bad_width, width_of, is_array, meant_decl, meant_in, decl_meaning, port_meaning, decl_name, misnames, fitting_width, has_width, applied_width, chosen_width, joined_width, nests_over, too_deep, ports_faults, port_faults, decls_faults, decl_faults, assigns_faults, assign_faults, has_name, item_name, sets_faults, set_faults, items_faults, item_faults, store_faults}
use Rattle.cx_vread_exprs.specs.Tokens.{fits_bits}
use Rattle.cx_vread_exprs.specs.Holds.{numbers_fit, holds_expr}
use Rattle.cx_vread.specs.Held.{holds_port, holds_decl, holds_assign, holds_item}
use Rattle.cx_vtree.proofs.SoundLemmas.{small_width}

-- a line that breaks nothing
abbrev pub is_clean : Faults → Bool
is_clean f = not (f.name || f.width || f.limit)

here : (n w l : Bool) (line : ℕ) (later : Option Break) → break_at line (record { name = n; width = w; limit = l }) later ≡ None → (not (n || w || l) ≡ true) × (later ≡ None)
here true w l line later e = absurd (cc)
here false true l line later e = absurd (cc)
here false false true line later e = absurd (cc)
here false false false line later e = (refl, e)

pub no_break : (line : ℕ) (fs : List Faults) → first_break line fs ≡ None → list_all is_clean fs ≡ true
no_break line [] e = refl
no_break line (f ∷ fs) e =
    let p = here f.name f.width f.limit line (first_break (line + 1) fs) e in
    ap (λ b. b && list_all is_clean fs) p.0 ∙ no_break (line + 1) fs p.1

pub record Parts (n w l : Bool) : Type 0 where
  pub name : n ≡ false
  pub width : w ≡ false
  pub limit : l ≡ false

pub parts_of : (n w l : Bool) → not (n || w || l) ≡ true → Parts n w l
parts_of n w l h =
    let q = or_parts (n || w) l (not-true (n || w || l) h) in
    let r = or_parts n w q.0 in
    record { name = r.0; width = r.1; limit = q.1 }

below_256 : (w : ℕ) → bad_width w ≡ false → nat_lt w 256 ≡ true
below_256 w h = let le = small_width w h in lt-ltb w 256 (omega arith)

pub ports_held : (is_main : Bool) (drivers earlier : List (List ℕ)) (index : ℕ) (ps : List PlainPort) → list_all is_clean (ports_faults is_main drivers earlier index ps) ≡ true → list_all holds_port ps ≡ true
ports_held is_main drivers earlier index [] h = refl
ports_held is_main drivers earlier index (p ∷ ps) h =
    let f : Faults = port_faults is_main drivers earlier index p in
    let both = and_parts (is_clean f) (list_all is_clean (ports_faults is_main drivers (earlier ++ p.name ∷ []) (index + 1) ps)) h in
    let own = parts_of f.name f.width f.limit both.0 in
    ap (λ b. b && list_all holds_port ps) (below_256 p.width (or_parts (bad_width p.width) _ own.width).0)
    ∙ ports_held is_main drivers (earlier ++ p.name ∷ []) (index + 1) ps both.1

decl_held : (drivers earlier : List (List ℕ)) (d : PlainDecl) → is_clean (decl_faults drivers earlier d) ≡ true → holds_decl d ≡ true
decl_held drivers earlier (WireOf n w) h = below_256 w (parts_of _ (bad_width w) false h).width
decl_held drivers earlier (RegisterOf n w) h = below_256 w (parts_of _ (bad_width w) false h).width
decl_held drivers earlier (ArrayOf n w k) h =
    let own = parts_of _ (bad_width w) (nat_le (2 ^ 64) k) h in
    let lt : k < 2 ^ 64 = leb-false (2 ^ 64) k own.limit in
    and_from (nat_lt w 256) (nat_lt k 18446744073709551616) (below_256 w own.width) (lt-ltb k 18446744073709551616 (omega arith))

pub decls_held : (drivers earlier : List (List ℕ)) (ds : List PlainDecl) → list_all is_clean (decls_faults drivers earlier ds) ≡ true → list_all holds_decl ds ≡ true
decls_held drivers earlier [] h = refl
decls_held drivers earlier (d ∷ ds) h =
    let both = and_parts (is_clean (decl_faults drivers earlier d)) (list_all is_clean (decls_faults drivers (earlier ++ decl_name d ∷ []) ds)) h in
    ap (λ b. b && list_all holds_decl ds) (decl_held drivers earlier d both.0) ∙ decls_held drivers (earlier ++ decl_name d ∷ []) ds both.1

-- Widths of names.
either_small : (b : Bool) (x y : Meaning) → width_of x < 256 → width_of y < 256 → width_of (if b then x else y) < 256
either_small true x y p q = p
either_small false x y p q = q

decl_small : (d : PlainDecl) → holds_decl d ≡ true → width_of (decl_meaning d) < 256
decl_small (WireOf n w) h = ltb-true w 256 h
decl_small (RegisterOf n w) h = ltb-true w 256 h
decl_small (ArrayOf n w k) h = ltb-true w 256 (and_parts (nat_lt w 256) (nat_lt k 18446744073709551616) h).0

meant_decl_small : (ds : List PlainDecl) (n : List ℕ) → list_all holds_decl ds ≡ true → width_of (meant_decl ds n) < 256
meant_decl_small [] n h = omega arith
meant_decl_small (d ∷ ds) n h =
    let both = and_parts (holds_decl d) (list_all holds_decl ds) h in
    either_small (same_name (decl_name d) n) (decl_meaning d) (meant_decl ds n) (decl_small d both.0) (meant_decl_small ds n both.1)

port_small : (output : Bool) (n : List ℕ) (w : ℕ) → nat_lt w 256 ≡ true → width_of (port_meaning (record { output = output; name = n; width = w })) < 256
port_small true n w h = ltb-true w 256 h
port_small false n w h = ltb-true w 256 h

pub meant_small : (ps : List PlainPort) (ds : List PlainDecl) (n : List ℕ) → list_all holds_port ps ≡ true → list_all holds_decl ds ≡ true → width_of (meant_in ps ds n) < 256
meant_small [] ds n h k = meant_decl_small ds n k
meant_small (p ∷ ps) ds n h k =
    let both = and_parts (holds_port p) (list_all holds_port ps) h in
    either_small (same_name p.name n) (port_meaning p) (meant_in ps ds n) (port_small p.output p.name p.width both.0) (meant_small ps ds n both.1 k)

-- Expressions.
chosen_some : (b : Bool) (x : ℕ) → is_some (if b then Some x else None) ≡ true → b ≡ true
chosen_some true x h = refl
chosen_some false x h = absurd (cc)

other_some : (b : Bool) (x : ℕ) → is_some (if b then None else Some x) ≡ true → b ≡ false
other_some true x h = absurd (cc)
other_some false x h = refl

first_some : (o : Option ℕ) (f : ℕ → Option ℕ) → is_some (option_and_then f o) ≡ true → is_some o ≡ true
first_some None f h = absurd (cc)
first_some (Some x) f h = refl

second_some : (o p : Option ℕ) (f : ℕ → ℕ → Option ℕ) → is_some (option_and_then (λ v. option_and_then (f v) p) o) ≡ true → is_some p ≡ true
second_some None p f h = absurd (cc)
second_some (Some x) p f h = first_some p (f x) h

third_some : (o p q : Option ℕ) (f : ℕ → ℕ → ℕ → Option ℕ) → is_some (option_and_then (λ t. option_and_then (λ v. option_and_then (f t v) q) p) o) ≡ true → (is_some p ≡ true) × (is_some q ≡ true)
third_some None p q f h = absurd (cc)
third_some (Some x) p q f h = (first_some p (λ v. option_and_then (f x v) q) h, second_some p q (f x) h)

pub literal_held : (w v : ℕ) → nat_le (2 ^ w) v ≡ false → bad_width w ≡ false → fits_bits w v ≡ true
literal_held w v over bad =
    let le = small_width w bad in
    let lt = leb-false (2 ^ w) v over in
    let some : w ≢ 0 = eqb-false w 0 (or_parts (w == 0) (nat_lt 128 w) bad).0 in
    and_from (nat_lt 0 w && nat_le w 128) (nat_lt v (2 ^ w)) (and_from (nat_lt 0 w) (nat_le w 128) (lt-ltb 0 w (omega arith)) (le-leb w 128 le)) (lt-ltb v (2 ^ w) lt)

pub numbers_held : (scope : Scope) (small : (n : List ℕ) → width_of (scope n) < 256) (e : PlainExpr) → misnames scope e ≡ false → is_some (fitting_width scope e) ≡ true → numbers_fit e ≡ true
numbers_held scope small (Named n) m f = refl
numbers_held scope small (Number b) m f = literal_held b.width b.value m (other_some (bad_width b.width) b.width f)
numbers_held scope small (Part n high low) m f =
    let both = and_parts (nat_le low high) (nat_lt high (width_of (scope n))) (chosen_some (nat_le low high && nat_lt high (width_of (scope n))) (high + 1 - low) f) in
    let le = leb-true low high both.0 in
    let lt = ltb-true high (width_of (scope n)) both.1 in
    let bound = small n in
    and_from (nat_lt high 256) (nat_lt low 256) (lt-ltb high 256 (omega arith)) (lt-ltb low 256 (omega arith))
numbers_held scope small (Word n i) m f =
    numbers_held scope small i (or_parts (not (is_array (scope n))) (misnames scope i) m).1 (first_some (fitting_width scope i) (λ v. Some (width_of (scope n))) f)
numbers_held scope small (Applied op a b) m f =
    let both = or_parts (misnames scope a) (misnames scope b) m in
    and_from (numbers_fit a) (numbers_fit b)
    (numbers_held scope small a both.0 (first_some (fitting_width scope a) (λ v. option_and_then (applied_width op v) (fitting_width scope b)) f))
    (numbers_held scope small b both.1 (second_some (fitting_width scope a) (fitting_width scope b) (applied_width op) f))
numbers_held scope small (Inverted a) m f = numbers_held scope small a m f
numbers_held scope small (Chosen c a b) m f =
    let outer = or_parts (misnames scope c || misnames scope a) (misnames scope b) m in
    let both = or_parts (misnames scope c) (misnames scope a) outer.0 in
    let rest = third_some (fitting_width scope c) (fitting_width scope a) (fitting_width scope b) chosen_width f in
    and_from (numbers_fit c && numbers_fit a) (numbers_fit b)
    (and_from (numbers_fit c) (numbers_fit a)
    (numbers_held scope small c both.0 (first_some (fitting_width scope c) (λ t. option_and_then (λ v. option_and_then (chosen_width t v) (fitting_width scope b)) (fitting_width scope a)) f))
    (numbers_held scope small a both.1 rest.0))
    (numbers_held scope small b outer.1 rest.1)
numbers_held scope small (Joined a b) m f =
    let both = or_parts (misnames scope a) (misnames scope b) m in
    and_from (numbers_fit a) (numbers_fit b)
    (numbers_held scope small a both.0 (first_some (fitting_width scope a) (λ v. option_and_then (joined_width v) (fitting_width scope b)) f))
    (numbers_held scope small b both.1 (second_some (fitting_width scope a) (fitting_width scope b) joined_width f))

-- more levels than enough are enough
not_zero : (l m : ℕ) → (l == 0) ≡ false → l ≤ m → (m == 0) ≡ false
not_zero l m h le = let ne : l ≢ 0 = eqb-false l 0 h in ne_eqb m 0 (λ e. absurd (ne (omega arith)))

pub deeper : (l m : ℕ) (e : PlainExpr) → l ≤ m → nests_over l e ≡ false → nests_over m e ≡ false
deeper l m (Named n) le h = refl
deeper l m (Number b) le h = refl
deeper l m (Part n high low) le h = refl
deeper l m (Word n i) le h =
    let both = or_parts (l == 0) (nests_over (l - 1) i) h in
    or_from (m == 0) (nests_over (m - 1) i) (not_zero l m both.0 le) (deeper (l - 1) (m - 1) i (omega arith) both.1)
deeper l m (Applied op a b) le h =
    let outer = or_parts (l == 0 || nests_over (l - 1) a) (nests_over (l - 1) b) h in
    let both = or_parts (l == 0) (nests_over (l - 1) a) outer.0 in
    or_from (m == 0 || nests_over (m - 1) a) (nests_over (m - 1) b)
    (or_from (m == 0) (nests_over (m - 1) a) (not_zero l m both.0 le) (deeper (l - 1) (m - 1) a (omega arith) both.1))
    (deeper (l - 1) (m - 1) b (omega arith) outer.1)
deeper l m (Inverted a) le h =
    let both = or_parts (l == 0) (nests_over (l - 1) a) h in
    or_from (m == 0) (nests_over (m - 1) a) (not_zero l m both.0 le) (deeper (l - 1) (m - 1) a (omega arith) both.1)
deeper l m (Chosen c a b) le h =
    let outer = or_parts (l == 0 || nests_over (l - 1) c || nests_over (l - 1) a) (nests_over (l - 1) b) h in
    let inner = or_parts (l == 0 || nests_over (l - 1) c) (nests_over (l - 1) a) outer.0 in
    let both = or_parts (l == 0) (nests_over (l - 1) c) inner.0 in
    or_from (m == 0 || nests_over (m - 1) c || nests_over (m - 1) a) (nests_over (m - 1) b)
    (or_from (m == 0 || nests_over (m - 1) c) (nests_over (m - 1) a)
    (or_from (m == 0) (nests_over (m - 1) c) (not_zero l m both.0 le) (deeper (l - 1) (m - 1) c (omega arith) both.1))
    (deeper (l - 1) (m - 1) a (omega arith) inner.1))
    (deeper (l - 1) (m - 1) b (omega arith) outer.1)
deeper l m (Joined a b) le h =
    let outer = or_parts (l == 0 || nests_over (l - 1) a) (nests_over (l - 1) b) h in
    let both = or_parts (l == 0) (nests_over (l - 1) a) outer.0 in
    or_from (m == 0 || nests_over (m - 1) a) (nests_over (m - 1) b)
    (or_from (m == 0) (nests_over (m - 1) a) (not_zero l m both.0 le) (deeper (l - 1) (m - 1) a (omega arith) both.1))
    (deeper (l - 1) (m - 1) b (omega arith) outer.1)

pub expr_held : (scope : Scope) (small : (n : List ℕ) → width_of (scope n) < 256) (e : PlainExpr) → misnames scope e ≡ false → is_some (fitting_width scope e) ≡ true → too_deep e ≡ false → holds_expr e ≡ true
expr_held scope small e m f d = and_from (numbers_fit e) (not (nests_over 128 e)) (numbers_held scope small e m f) (ap not (deeper 64 128 e (omega arith) d))

pub width_some : (o : Option ℕ) (w : ℕ) → not (option_map_or (λ v. v == w) o false) ≡ false → is_some o ≡ true
width_some None w h = absurd (cc)
width_some (Some v) w h = refl

pub none_some : (o : Option ℕ) → is_none o ≡ false → is_some o ≡ true
none_some None h = absurd (cc)
none_some (Some v) h = refl

assign_held : (scope : Scope) (small : (n : List ℕ) → width_of (scope n) < 256) (earlier : List (List ℕ)) (a : PlainAssign) → is_clean (assign_faults scope earlier a) ≡ true → holds_assign a ≡ true
assign_held scope small earlier a h =
    let f : Faults = assign_faults scope earlier a in
    let own = parts_of f.name f.width f.limit h in
    expr_held scope small a.value (or_parts _ (misnames scope a.value) own.name).1 (width_some (fitting_width scope a.value) (width_of (scope a.name)) own.width) own.limit

pub assigns_held : (scope : Scope) (small : (n : List ℕ) → width_of (scope n) < 256) (earlier : List (List ℕ)) (xs : List PlainAssign) → list_all is_clean (assigns_faults scope earlier xs) ≡ true → list_all holds_assign xs ≡ true
assigns_held scope small earlier [] h = refl
assigns_held scope small earlier (a ∷ xs) h =
    let both = and_parts (is_clean (assign_faults scope earlier a)) (list_all is_clean (assigns_faults scope (earlier ++ a.name ∷ []) xs)) h in
    ap (λ b. b && list_all holds_assign xs) (assign_held scope small earlier a both.0) ∙ assigns_held scope small (earlier ++ a.name ∷ []) xs both.1

set_held : (scope : Scope) (small : (n : List ℕ) → width_of (scope n) < 256) (earlier : List (List ℕ)) (a : PlainAssign) → is_clean (set_faults scope earlier a) ≡ true → holds_assign a ≡ true
set_held scope small earlier a h =
    let f : Faults = set_faults scope earlier a in
    let own = parts_of f.name f.width f.limit h in
    expr_held scope small a.value (or_parts _ (misnames scope a.value) own.name).1 (width_some (fitting_width scope a.value) (width_of (scope a.name)) own.width) own.limit

pub sets_held : (scope : Scope) (small : (n : List ℕ) → width_of (scope n) < 256) (earlier : List (List ℕ)) (xs : List PlainAssign) → list_all is_clean (sets_faults scope earlier xs) ≡ true → list_all holds_assign xs ≡ true
sets_held scope small earlier [] h = refl
sets_held scope small earlier (a ∷ xs) h =
    let both = and_parts (is_clean (set_faults scope earlier a)) (list_all is_clean (sets_faults scope (earlier ++ a.name ∷ []) xs)) h in
    ap (λ b. b && list_all holds_assign xs) (set_held scope small earlier a both.0) ∙ sets_held scope small (earlier ++ a.name ∷ []) xs both.1

store_held : (scope : Scope) (small : (n : List ℕ) → width_of (scope n) < 256) (earlier : List (List ℕ)) (s : PlainStore) → is_clean (store_faults scope earlier s) ≡ true → holds_item (StoreTo s) ≡ true
store_held scope small earlier s h =
    let f : Faults = store_faults scope earlier s in
    let own = parts_of f.name f.width f.limit h in
    let n3 = or_parts (not (is_array (scope s.array)) || has_name earlier s.array || misnames scope s.guard || misnames scope s.index) (misnames scope s.value) own.name in
    let n2 = or_parts (not (is_array (scope s.array)) || has_name earlier s.array || misnames scope s.guard) (misnames scope s.index) n3.0 in
    let n1 = or_parts (not (is_array (scope s.array)) || has_name earlier s.array) (misnames scope s.guard) n2.0 in
    let w2 = or_parts (not (has_width scope s.guard 1) || is_none (fitting_width scope s.index)) (not (has_width scope s.value (width_of (scope s.array)))) own.width in
    let w1 = or_parts (not (has_width scope s.guard 1)) (is_none (fitting_width scope s.index)) w2.0 in
    let d2 = or_parts (too_deep s.guard || too_deep s.index) (too_deep s.value) own.limit in
    let d1 = or_parts (too_deep s.guard) (too_deep s.index) d2.0 in
    and_from (holds_expr s.guard && holds_expr s.index) (holds_expr s.value)
    (and_from (holds_expr s.guard) (holds_expr s.index)
    (expr_held scope small s.guard n1.1 (width_some (fitting_width scope s.guard) 1 w1.0) d1.0)
    (expr_held scope small s.index n2.1 (none_some (fitting_width scope s.index) w1.1) d1.1))
    (expr_held scope small s.value n3.1 (width_some (fitting_width scope s.value) (width_of (scope s.array)) w2.1) d2.1)

item_held : (scope : Scope) (small : (n : List ℕ) → width_of (scope n) < 256) (earlier : List (List ℕ)) (i : PlainItem) → is_clean (item_faults scope earlier i) ≡ true → holds_item i ≡ true
item_held scope small earlier (SetTo a) h = set_held scope small earlier a h
item_held scope small earlier (StoreTo s) h = store_held scope small earlier s h

pub items_held : (scope : Scope) (small : (n : List ℕ) → width_of (scope n) < 256) (earlier : List (List ℕ)) (xs : List PlainItem) → list_all is_clean (items_faults scope earlier xs) ≡ true → list_all holds_item xs ≡ true
items_held scope small earlier [] h = refl
items_held scope small earlier (i ∷ xs) h =
    let both = and_parts (is_clean (item_faults scope earlier i)) (list_all is_clean (items_faults scope (earlier ++ item_name i ∷ []) xs)) h in
    ap (λ b. b && list_all holds_item xs) (item_held scope small earlier i both.0) ∙ items_held scope small (earlier ++ item_name i ∷ []) xs both.1
