-- What is read takes its tokens from the front: a text that is not empty takes one at least.
use Rattle.std.proofs.Common.{◌≡◌, ℕ, zero, suc, ◌≤◌, ◌<◌, Bool, true, false, ◌&&◌, ◌||◌, List, [], ◌∷◌, length, Ok, Err, refl, subst, arith, cond, ◌⊎◌, inl, inr, ⊎_elim}
use Rattle.std.proofs.Math.Bool.{and-true}
use Rattle.cx_ast.specs.declared.tokens.Token.{Token}
use Rattle.cx_grammar.specs.declared.terminals.Terminal.{Terminal}
use Rattle.cx_grammar.specs.declared.terminals.Terminal.TheVariants.{Comma}
use Rattle.cx_grammar.specs.Terminals.{terminal_of, is_in, begins}
use Rattle.cx_grammar.specs.Grammar.{Nest, Nested, Negation, Parens, Braces, Grammar, Empty, One, Pair, Choice, Several, Commas, Deeper, starts, nullable, opening}
use Rattle.cx_grammar.specs.Calyx.{nest, nested_at}
use Rattle.cx_grammar.specs.Reading.{Reads, then_reads, one_at, several_in, several_at, commas_in, commas_at, read, unexpected, too_deep}

-- what came before what follows
pub then_ok : {A B : Type 0} (r : Reads A) (f : A → List Token → Reads B) (y : B × List Token) → then_reads r f ≡ Ok y → (x : A × List Token) × (r ≡ Ok x) × (f x.0 x.1 ≡ Ok y)
then_ok (Ok x) f y e = (x, refl, e)
then_ok (Err s) f y e = absurd (cc)

pub ok_same : {A : Type 0} {x y : A × List Token} → (let r : Reads A = Ok x in r ≡ Ok y) → x ≡ y
ok_same e = cc

-- which side a test took
pub which : {A : Type 0} (b : Bool) (x y z : A) → cond b x y ≡ z → ((b ≡ true) × (x ≡ z)) ⊎ ((b ≡ false) × (y ≡ z))
which true x y z e = inl (refl, e)
which false x y z e = inr (refl, e)

-- one at least, or any number where the empty text is allowed
abbrev pub Taken : Bool → ℕ → ℕ → Type 0
Taken true rest all = rest ≤ all
Taken false rest all = rest < all

pub taken_le : (b : Bool) (rest all : ℕ) → Taken b rest all → rest ≤ all
taken_le true rest all h = h
taken_le false rest all h = omega arith

pub taken_then : (a b : Bool) (rest mid all : ℕ) → Taken a mid all → Taken b rest mid → Taken (a && b) rest all
taken_then true true rest mid all h k = omega arith
taken_then true false rest mid all h k = omega arith
taken_then false true rest mid all h k = omega arith
taken_then false false rest mid all h k = omega arith

pub taken_first : (a b : Bool) (rest all : ℕ) → Taken a rest all → Taken (a || b) rest all
taken_first true b rest all h = h
taken_first false true rest all h = omega arith
taken_first false false rest all h = h

pub taken_second : (a b : Bool) (rest all : ℕ) → Taken b rest all → Taken (a || b) rest all
taken_second true b rest all h = taken_le b rest all h
taken_second false b rest all h = h

-- reading one after another reads on
several_shorter : {A : Type 0} (r : List Token → Reads A) (set : List Terminal) → ((ts : List Token) (x : A × List Token) → r ts ≡ Ok x → length x.1 ≤ length ts) → (n : ℕ) (ts : List Token) (x : List A × List Token) → several_in r set n ts ≡ Ok x → length x.1 ≤ length ts
several_shorter {A = A} r set item zero ts x e = subst (λ (p : List A × List Token). length p.1 ≤ length ts) (ok_same e) (omega arith)
several_shorter {A = A} r set item (suc n) ts x e = ⊎_elim
    (λ h. let (a, ea, ra) = then_ok (r ts) _ x h.1 in
    let (b, eb, rb) = then_ok (several_in r set n a.1) _ x ra in
    let first : length a.1 ≤ length ts = item ts a ea in
    let others : length b.1 ≤ length a.1 = several_shorter r set item n a.1 b eb in
    subst (λ (p : List A × List Token). length p.1 ≤ length ts) (ok_same rb) (omega arith))
    (λ h. subst (λ (p : List A × List Token). length p.1 ≤ length ts) (ok_same h.1) (omega arith))
    (which (begins set ts) _ (Ok ([], ts)) (Ok x) e)

commas_shorter : {A : Type 0} (r : List Token → Reads A) (set : List Terminal) → ((ts : List Token) (x : A × List Token) → r ts ≡ Ok x → length x.1 ≤ length ts) → (n : ℕ) (ts : List Token) (x : List A × List Token) → commas_in r set n ts ≡ Ok x → length x.1 ≤ length ts
commas_shorter {A = A} r set item zero ts x e = subst (λ (p : List A × List Token). length p.1 ≤ length ts) (ok_same e) (omega arith)
commas_shorter {A = A} r set item (suc n) [] x e = subst (λ (p : List A × List Token). length p.1 ≤ 0) (ok_same e) (omega arith)
commas_shorter {A = A} r set item (suc n) (t ∷ ts) x e = ⊎_elim
    (λ h. ⊎_elim
    (λ k. let (a, ea, ra) = then_ok (r ts) _ x k.1 in
    let (b, eb, rb) = then_ok (commas_in r set n a.1) _ x ra in
    let first : length a.1 ≤ length ts = item ts a ea in
    let others : length b.1 ≤ length a.1 = commas_shorter r set item n a.1 b eb in
    subst (λ (p : List A × List Token). length p.1 ≤ length (t ∷ ts)) (ok_same rb) (omega arith))
    (λ k. subst (λ (p : List A × List Token). length p.1 ≤ length (t ∷ ts)) (ok_same k.1) (omega arith))
    (which (begins set ts) _ (Ok ([], ts)) (Ok x) h.1))
    (λ h. subst (λ (p : List A × List Token). length p.1 ≤ length (t ∷ ts)) (ok_same h.1) (omega arith))
    (which (is_in (terminal_of t.kind) (Comma ∷ [])) _ (Ok ([], t ∷ ts)) (Ok x) e)

one_shorter : {A : Type 0} (set : List Terminal) (value : Token → A) (ts : List Token) (x : A × List Token) → one_at set value ts ≡ Ok x → length x.1 < length ts
one_shorter set value [] x e = absurd (cc)
one_shorter {A = A} set value (t ∷ ts) x e = ⊎_elim
    (λ h. subst (λ (p : A × List Token). length p.1 < length (t ∷ ts)) (ok_same h.1) (omega arith))
    (λ h. absurd (let f = h.1 in cc))
    (which (is_in (terminal_of t.kind) set) (Ok (value t, ts)) (Err (unexpected (t ∷ ts))) (Ok x) e)

module _ (nested : (n : Nest) → List Token → Reads (Nested n)) (shorter : (n : Nest) (ts : List Token) (x : Nested n × List Token) → nested n ts ≡ Ok x → length x.1 < length ts) where
  pub took : {A : Type 0} (g : Grammar A) (ts : List Token) (x : A × List Token) → read nested g ts ≡ Ok x → Taken (nullable g) (length x.1) (length ts)
  unfolding several_at commas_at
  took {A = A} (Empty v) ts x e = subst (λ (p : A × List Token). length p.1 ≤ length ts) (ok_same e) (omega arith)
  took (One set value) ts x e = one_shorter set value ts x e
  took {A = C} (Pair join g h) ts x e =
      let (a, ea, ra) = then_ok (read nested g ts) _ x e in
      let (b, eb, rb) = then_ok (read nested h a.1) _ x ra in
      let both = taken_then (nullable g) (nullable h) (length b.1) (length a.1) (length ts) (took g ts a ea) (took h a.1 b eb) in
      subst (λ (p : C × List Token). Taken (nullable g && nullable h) (length p.1) (length ts)) (ok_same rb) both
  took (Choice g h) ts x e = ⊎_elim
      (λ k. taken_first (nullable g) (nullable h) (length x.1) (length ts) (took g ts x k.1))
      (λ k. taken_second (nullable g) (nullable h) (length x.1) (length ts) (took h ts x k.1))
      (which (begins (starts g) ts) (read nested g ts) (read nested h ts) (Ok x) e)
  took {A = B} (Several whole g) ts x e =
      let (a, ea, ra) = then_ok (several_at (read nested g) (starts g) ts) _ x e in
      let all = several_shorter (read nested g) (starts g) (λ us y f. taken_le (nullable g) (length y.1) (length us) (took g us y f)) (length ts) ts a ea in
      subst (λ (p : B × List Token). length p.1 ≤ length ts) (ok_same ra) all
  took {A = B} (Commas whole g) ts x e =
      let (a, ea, ra) = then_ok (read nested g ts) _ x e in
      let (b, eb, rb) = then_ok (commas_at (read nested g) (starts g) a.1) _ x ra in
      let others = commas_shorter (read nested g) (starts g) (λ us y f. taken_le (nullable g) (length y.1) (length us) (took g us y f)) (length a.1) a.1 b eb in
      let all = taken_then (nullable g) true (length b.1) (length a.1) (length ts) (took g ts a ea) others in
      subst (λ (p : B × List Token). Taken (nullable g) (length p.1) (length ts)) (ok_same rb) (rw (← and-true (nullable g)) all)
  took (Deeper n) ts x e = shorter n ts x e

pub nullable_nest : (n : Nest) → nullable (nest n) ≡ false
unfolding nest
nullable_nest Negation = refl
nullable_nest Parens = refl
nullable_nest Braces = refl

-- a part that nests takes a token at least
pub nested_shorter : (levels : ℕ) (n : Nest) (ts : List Token) (x : Nested n × List Token) → nested_at levels n ts ≡ Ok x → length x.1 < length ts
nested_shorter zero n ts x e = ⊎_elim (λ h. absurd (let f = h.1 in cc)) (λ h. absurd (let f = h.1 in cc)) (which (begins (opening n ∷ []) ts) (Err (too_deep ts)) (Err (unexpected ts)) (Ok x) e)
nested_shorter (suc levels) n ts x e = subst (λ b. Taken b (length x.1) (length ts)) (nullable_nest n) (took (nested_at levels) (nested_shorter levels) (nest n) ts x e)
