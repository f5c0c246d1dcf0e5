-- Where the lines before break nothing, widths are 1 to 128, and so is that of each expression that breaks no rule.
use Rattle.std.proofs.Common.{◌≡◌, ◌≢◌, ℕ, ◌+◌, ◌-◌, ◌<◌, ◌≤◌, ◌^◌, ◌==◌, not, Bool, true, false, ◌&&◌, ◌||◌, List, [], ◌∷◌, ◌++◌, Option, Some, None, refl, ◌∙◌, ap, arith, if◌then◌else◌}
use Rattle.std.specs.Prelude.{codes, nat_lt, nat_le, option_and_then}
use Rattle.std.specs.List.{list_all}
use Rattle.std.proofs.lemmas.Bool.{and_parts, or_parts, not-true, not-false, ne_eqb, eqb-false, leb-true, ltb-true, le-ltb}
use Rattle.cx_vtree.specs.declared.meanings.Meaning.{Meaning}
use Rattle.cx_vtree.specs.declared.meanings.Meaning.TheVariants.{Input, Output, Wire, Register, Array, Nothing}
use Rattle.cx_vtree.specs.declared.operators.Operator.{Operator}
use Rattle.cx_vtree.specs.InstanceTree.{same_name}
use Rattle.cx_vtree.specs.Plain.{PlainExpr, Named, Number, Part, Word, Applied, Inverted, Chosen, Joined, PlainPort, PlainDecl, WireOf, RegisterOf, ArrayOf}
use Rattle.cx_vtree.specs.Sound.{Scope, Faults, bad_width, width_of, is_source, is_array, is_readable, is_comparison, meant_decl, meant_in, decl_meaning, port_meaning, decl_name, ports_faults, port_faults, decls_faults, decl_faults, misnames, fitting_width, part_width, applied_width, chosen_width, joined_width}
use Rattle.cx_vread.proofs.SoundHeld.{is_clean, parts_of}
use Rattle.cx_vtree.proofs.SoundLemmas.{small_width}

-- Ports and declarations.
abbrev pub good_port : PlainPort → Bool
good_port p = not (bad_width p.width)

abbrev pub good_decl : PlainDecl → Bool
good_decl d = not (bad_width (width_of (decl_meaning d)))

pub ports_good : (is_main : Bool) (drivers earlier : List (List ℕ)) (index : ℕ) (ps : List PlainPort) → list_all is_clean (ports_faults is_main drivers earlier index ps) ≡ true → list_all good_port ps ≡ true
ports_good is_main drivers earlier index [] h = refl
ports_good is_main drivers earlier index (p ∷ ps) h =
    let f : Faults = port_faults is_main drivers earlier index p in
    let both = and_parts (is_clean f) (list_all is_clean (ports_faults is_main drivers (earlier ++ p.name ∷ []) (index + 1) ps)) h in
    let own = parts_of f.name f.width f.limit both.0 in
    ap (λ b. not b && list_all good_port ps) (or_parts (bad_width p.width) _ own.width).0
    ∙ ports_good is_main drivers (earlier ++ p.name ∷ []) (index + 1) ps both.1

decl_good : (drivers earlier : List (List ℕ)) (d : PlainDecl) → is_clean (decl_faults drivers earlier d) ≡ true → good_decl d ≡ true
decl_good drivers earlier (WireOf n w) h = ap not (parts_of _ (bad_width w) false h).width
decl_good drivers earlier (RegisterOf n w) h = ap not (parts_of _ (bad_width w) false h).width
decl_good drivers earlier (ArrayOf n w k) h = ap not (parts_of _ (bad_width w) (nat_le (2 ^ 64) k) h).width

pub decls_good : (drivers earlier : List (List ℕ)) (ds : List PlainDecl) → list_all is_clean (decls_faults drivers earlier ds) ≡ true → list_all good_decl ds ≡ true
decls_good drivers earlier [] h = refl
decls_good drivers earlier (d ∷ ds) h =
    let both = and_parts (is_clean (decl_faults drivers earlier d)) (list_all is_clean (decls_faults drivers (earlier ++ decl_name d ∷ []) ds)) h in
    ap (λ b. b && list_all good_decl ds) (decl_good drivers earlier d both.0) ∙ decls_good drivers (earlier ++ decl_name d ∷ []) ds both.1

-- What stands in an expression has 1 to 128 bits.
abbrev pub is_fine : Meaning → Bool
is_fine m = not (is_source m || is_array m) || not (bad_width (width_of m))

either_fine : (b : Bool) (x y : Meaning) → is_fine x ≡ true → is_fine y ≡ true → is_fine (if b then x else y) ≡ true
either_fine true x y p q = p
either_fine false x y p q = q

decl_fine : (d : PlainDecl) → good_decl d ≡ true → is_fine (decl_meaning d) ≡ true
decl_fine (WireOf n w) h = h
decl_fine (RegisterOf n w) h = h
decl_fine (ArrayOf n w k) h = h

meant_decl_fine : (ds : List PlainDecl) (n : List ℕ) → list_all good_decl ds ≡ true → is_fine (meant_decl ds n) ≡ true
meant_decl_fine [] n h = refl
meant_decl_fine (d ∷ ds) n h =
    let both = and_parts (good_decl d) (list_all good_decl ds) h in
    either_fine (same_name (decl_name d) n) (decl_meaning d) (meant_decl ds n) (decl_fine d both.0) (meant_decl_fine ds n both.1)

port_fine : (output : Bool) (n : List ℕ) (w : ℕ) → not (bad_width w) ≡ true → is_fine (port_meaning (record { output = output; name = n; width = w })) ≡ true
port_fine true n w h = refl
port_fine false n w h = h

pub meant_fine : (ps : List PlainPort) (ds : List PlainDecl) (n : List ℕ) → list_all good_port ps ≡ true → list_all good_decl ds ≡ true → is_fine (meant_in ps ds n) ≡ true
meant_fine [] ds n h k = meant_decl_fine ds n k
meant_fine (p ∷ ps) ds n h k =
    let both = and_parts (good_port p) (list_all good_port ps) h in
    either_fine (same_name p.name n) (port_meaning p) (meant_in ps ds n) (port_fine p.output p.name p.width both.0) (meant_fine ps ds n both.1 k)

source_good : (m : Meaning) → is_fine m ≡ true → is_source m ≡ true → bad_width (width_of m) ≡ false
source_good (Input w) h s = not-true (bad_width w) h
source_good (Output w) h s = absurd (cc)
source_good (Wire w) h s = not-true (bad_width w) h
source_good (Register w) h s = not-true (bad_width w) h
source_good (Array w) h s = absurd (cc)
source_good Nothing h s = absurd (cc)

array_good : (m : Meaning) → is_fine m ≡ true → is_array m ≡ true → bad_width (width_of m) ≡ false
array_good (Input w) h s = absurd (cc)
array_good (Output w) h s = absurd (cc)
array_good (Wire w) h s = absurd (cc)
array_good (Register w) h s = absurd (cc)
array_good (Array w) h s = not-true (bad_width w) h
array_good Nothing h s = absurd (cc)

-- Expressions.
abbrev pub IsGood : Option ℕ → Type 0
IsGood None = Unit {0}
IsGood (Some w) = bad_width w ≡ false

between : (w : ℕ) → 0 < w → w ≤ 128 → bad_width w ≡ false
between w low high = ap (λ b. b || nat_lt 128 w) (ne_eqb w 0 (λ e. omega arith)) ∙ le-ltb 128 w high

some_bits : (w : ℕ) → bad_width w ≡ false → 0 < w
some_bits w h = let some : w ≢ 0 = eqb-false w 0 (or_parts (w == 0) (nat_lt 128 w) h).0 in omega arith

literal_good : (bad : Bool) (w : ℕ) → bad_width w ≡ bad → IsGood (if bad then None else Some w)
literal_good true w e = tt
literal_good false w e = e

part_good : (w high low : ℕ) → bad_width w ≡ false → IsGood (part_width w high low)
part_good w high low good = go (nat_le low high && nat_lt high w) refl
  where
    go : (t : Bool) → (nat_le low high && nat_lt high w) ≡ t → IsGood (if t then Some (high + 1 - low) else None)
    go true e =
        let both = and_parts (nat_le low high) (nat_lt high w) e in
        let le = leb-true low high both.0 in
        let lt = ltb-true high w both.1 in
        let small = small_width w good in
        between (high + 1 - low) (omega arith) (omega arith)
    go false e = tt

word_good : (o : Option ℕ) (w : ℕ) → bad_width w ≡ false → IsGood (option_and_then (λ v. Some w) o)
word_good None w h = tt
word_good (Some v) w h = h

sides_good : (same comparison : Bool) (v : ℕ) → bad_width v ≡ false → IsGood (if same then Some (if comparison then 1 else v) else None)
sides_good true true v h = refl
sides_good true false v h = h
sides_good false comparison v h = tt

applied_good : (op : Operator) (o p : Option ℕ) → IsGood o → IsGood (option_and_then (λ v. option_and_then (applied_width op v) p) o)
applied_good op None p h = tt
applied_good op (Some v) None h = tt
applied_good op (Some v) (Some w) h = sides_good (v == w) (is_comparison op) v h

choice_good : (b : Bool) (v : ℕ) → bad_width v ≡ false → IsGood (if b then Some v else None)
choice_good true v h = h
choice_good false v h = tt

chosen_good : (o p q : Option ℕ) → IsGood p → IsGood (option_and_then (λ t. option_and_then (λ v. option_and_then (chosen_width t v) q) p) o)
chosen_good None p q h = tt
chosen_good (Some t) None q h = tt
chosen_good (Some t) (Some v) None h = tt
chosen_good (Some t) (Some v) (Some w) h = choice_good (t == 1 && v == w) v h

sum_good : (v w : ℕ) → bad_width v ≡ false → IsGood (joined_width v w)
sum_good v w h = go (nat_le (v + w) 128) refl
  where
    go : (t : Bool) → nat_le (v + w) 128 ≡ t → IsGood (if t then Some (v + w) else None)
    go true e = let some = some_bits v h in let le = leb-true (v + w) 128 e in between (v + w) (omega arith) (omega arith)
    go false e = tt

joined_good : (o p : Option ℕ) → IsGood o → IsGood (option_and_then (λ v. option_and_then (joined_width v) p) o)
joined_good None p h = tt
joined_good (Some v) None h = tt
joined_good (Some v) (Some w) h = sum_good v w h

readable_source : (scope : Scope) (n : List ℕ) → not (is_readable scope n) ≡ false → is_source (scope n) ≡ true
readable_source scope n h = (and_parts (is_source (scope n)) (not (same_name n (codes "clk"))) (not-false (is_readable scope n) h)).0

pub fitting_good : (scope : Scope) (fine : (n : List ℕ) → is_fine (scope n) ≡ true) (e : PlainExpr) → misnames scope e ≡ false → IsGood (fitting_width scope e)
fitting_good scope fine (Named n) m = source_good (scope n) (fine n) (readable_source scope n m)
fitting_good scope fine (Number b) m = literal_good (bad_width b.width) b.width refl
fitting_good scope fine (Part n high low) m = part_good (width_of (scope n)) high low (source_good (scope n) (fine n) (readable_source scope n m))
fitting_good scope fine (Word n i) m =
    word_good (fitting_width scope i) (width_of (scope n)) (array_good (scope n) (fine n) (not-false (is_array (scope n)) (or_parts (not (is_array (scope n))) (misnames scope i) m).0))
fitting_good scope fine (Applied op a b) m =
    applied_good op (fitting_width scope a) (fitting_width scope b) (fitting_good scope fine a (or_parts (misnames scope a) (misnames scope b) m).0)
fitting_good scope fine (Inverted a) m = fitting_good scope fine a m
fitting_good scope fine (Chosen c a b) m =
    let outer = or_parts (misnames scope c || misnames scope a) (misnames scope b) m in
    chosen_good (fitting_width scope c) (fitting_width scope a) (fitting_width scope b) (fitting_good scope fine a (or_parts (misnames scope c) (misnames scope a) outer.0).1)
fitting_good scope fine (Joined a b) m =
    joined_good (fitting_width scope a) (fitting_width scope b) (fitting_good scope fine a (or_parts (misnames scope a) (misnames scope b) m).0)
