-- What is spelled so is read, where one token of lookahead is enough and the next token does not go on.
use Rattle.std.proofs.Common.{◌≡◌, ℕ, zero, suc, ◌≤◌, ◌<◌, Bool, true, false, ◌&&◌, ◌||◌, not, List, [], ◌∷◌, ◌++◌, length, Ok, Err, refl, sym, ap, subst, ◌∙◌, cond, arith, ◌⊎◌, inl, inr, ⊎_elim, ◌==◌}
use Rattle.std.proofs.lemmas.Bool.{and_parts, eqb-true, or_right as or_second, false_from_ne_true}
use Rattle.std.specs.List.{list_all}
use Rattle.cx_ast.specs.declared.tokens.Token.{Token}
use Rattle.cx_grammar.specs.declared.terminals.Terminal.{Terminal}
use Rattle.cx_grammar.specs.declared.terminals.Terminal.TheVariants.{Comma}
use Rattle.cx_grammar.specs.Terminals.{terminal_of, number_of, is, is_in, begins}
use Rattle.cx_grammar.specs.Grammar.{Nest, Nested, Grammar, Empty, One, Pair, Choice, Several, Commas, Deeper, starts, nullable, opening, goes_on, nest_goes_on, Spelling, Spells, Several_of, Commas_of, IsComma}
use Rattle.cx_grammar.specs.Calyx.{nest, nested_at, spelled_within}
use Rattle.cx_grammar.specs.Reading.{Reads, then_reads, one_at, several_in, several_at, commas_in, commas_at, read, unexpected, disjoint, is_plain}
use Rattle.cx_grammar.proofs.Shorter.{took, nested_shorter, Taken, nullable_nest}
use Rattle.cx_grammar.proofs.Known.{plain_nest, starts_nest, nest_within}
use Rattle.cx_text.proofs.BoolLaws.{from_not, or_either, not_both, neither_first, neither_second}

or_assoc : (a b c d : Bool) → b ≡ (c || d) → (a || b) ≡ ((a || c) || d)
or_assoc true b c d e = refl
or_assoc false b c d e = e

-- a set of two parts
is_in-append : (t : Terminal) (us vs : List Terminal) → is_in t (us ++ vs) ≡ (is_in t us || is_in t vs)
is_in-append t [] vs = refl
is_in-append t (u ∷ us) vs = or_assoc (is t u) (is_in t (us ++ vs)) (is_in t us) (is_in t vs) (is_in-append t us vs)

pub begins-append : (us vs : List Terminal) (ts : List Token) → begins (us ++ vs) ts ≡ (begins us ts || begins vs ts)
begins-append us vs [] = refl
begins-append us vs (t ∷ ts) = is_in-append (terminal_of t.kind) us vs

-- no terminal is in two sets that are disjoint
is_in_same : (t u : Terminal) (vs : List Terminal) → is t u ≡ true → is_in u vs ≡ is_in t vs
is_in_same t u [] e = refl
is_in_same t u (v ∷ vs) e = ap (λ k. (k == number_of v) || is_in u vs) (sym (eqb-true (number_of t) (number_of u) e)) ∙ ap (λ b. is t v || b) (is_in_same t u vs e)

apart_in : (t : Terminal) (us vs : List Terminal) → disjoint us vs ≡ true → is_in t us ≡ true → is_in t vs ≡ false
apart_in t [] vs d e = absurd (cc)
apart_in t (u ∷ us) vs d e =
    let parts = and_parts (not (is_in u vs)) (disjoint us vs) d in
    ⊎_elim
    (λ same. sym (is_in_same t u vs same) ∙ from_not (is_in u vs) parts.0)
    (λ further. apart_in t us vs parts.1 further)
    (or_either (is t u) (is_in t us) e)

apart : (us vs : List Terminal) (ts : List Token) → disjoint us vs ≡ true → begins us ts ≡ true → begins vs ts ≡ false
apart us vs [] d e = absurd (cc)
apart us vs (t ∷ ts) d e = apart_in (terminal_of t.kind) us vs d e

-- so what is in the second is not in the first
pub apart_back : (us vs : List Terminal) (ts : List Token) → disjoint us vs ≡ true → begins vs ts ≡ true → begins us ts ≡ false
apart_back us vs ts d e = false_from_ne_true (begins us ts) (λ h. not_both (begins vs ts) e (apart us vs ts d h))

pub begins_left : (us vs : List Terminal) (ts : List Token) → begins (us ++ vs) ts ≡ false → begins us ts ≡ false
begins_left us vs ts e = neither_first (begins us ts) (begins vs ts) (sym (begins-append us vs ts) ∙ e)

pub begins_right : (us vs : List Terminal) (ts : List Token) → begins (us ++ vs) ts ≡ false → begins vs ts ≡ false
begins_right us vs ts e = neither_second (begins us ts) (begins vs ts) (sym (begins-append us vs ts) ∙ e)

pub begins_more : (us vs : List Terminal) (ts : List Token) → begins us ts ≡ true → begins (us ++ vs) ts ≡ true
begins_more us vs ts e = begins-append us vs ts ∙ ap (λ b. b || begins vs ts) e

pub begins_other : (us vs : List Terminal) (ts : List Token) → begins vs ts ≡ true → begins (us ++ vs) ts ≡ true
begins_other us vs ts e = begins-append us vs ts ∙ or_second (begins us ts) (begins vs ts) e

-- how a text begins: with a terminal that begins one, or it is empty
abbrev First : Bool → List Terminal → List Token → List Token → Type 0
First empty set ts rest = (begins set ts ≡ true) ⊎ ((empty ≡ true) × (ts ≡ rest))

pub first_pair : (a b : Bool) (us vs : List Terminal) (ts mid rest : List Token) → First a us ts mid → First b vs mid rest → First (a && b) (cond a (us ++ vs) us) ts rest
first_pair true b us vs ts mid rest (inl h) k = inl (begins_more us vs ts h)
first_pair true b us vs ts mid rest (inr h) (inl k) = inl (begins_other us vs ts (subst (λ s. begins vs s ≡ true) (sym h.1) k))
first_pair true b us vs ts mid rest (inr h) (inr k) = inr (k.0, h.1 ∙ k.1)
first_pair false b us vs ts mid rest (inl h) k = inl h
first_pair false b us vs ts mid rest (inr h) k = absurd (let f = h.0 in cc)

pub first_some : (a : Bool) (us : List Terminal) (ts rest : List Token) → a ≡ false → First a us ts rest → begins us ts ≡ true
first_some a us ts rest e (inl h) = h
first_some a us ts rest e (inr h) = absurd (let f = h.0 in cc)

-- the ends of a pair, of a choice
ends_second : (b : Bool) (us vs : List Terminal) (rest : List Token) → begins (cond b (us ++ vs) vs) rest ≡ false → begins vs rest ≡ false
ends_second true us vs rest e = begins_right us vs rest e
ends_second false us vs rest e = e

ends_first : (b : Bool) (us vs : List Terminal) (rest : List Token) → b ≡ true → begins (cond b (us ++ vs) vs) rest ≡ false → begins us rest ≡ false
ends_first true us vs rest t e = begins_left us vs rest e
ends_first false us vs rest t e = absurd (cc)

first_choice_left : (a b : Bool) (us vs : List Terminal) (ts rest : List Token) → First a us ts rest → First (a || b) (us ++ vs) ts rest
first_choice_left a b us vs ts rest (inl h) = inl (begins_more us vs ts h)
first_choice_left a b us vs ts rest (inr h) = inr (ap (λ c. c || b) h.0, h.1)

first_choice_right : (a b : Bool) (us vs : List Terminal) (ts rest : List Token) → First b vs ts rest → First (a || b) (us ++ vs) ts rest
first_choice_right a b us vs ts rest (inl h) = inl (begins_other us vs ts h)
first_choice_right a b us vs ts rest (inr h) = inr (or_second a b h.0, h.1)

first_several : {A : Type 0} (spelled : Spelling A) (a : Bool) (us : List Terminal) → ((ts : List Token) (x : A) (rest : List Token) → spelled ts x rest → First a us ts rest) → (xs : List A) (ts rest : List Token) → Several_of spelled ts xs rest → First true us ts rest
first_several spelled a us item [] ts rest k = inr (refl, k)
first_several spelled a us item (x ∷ xs) ts rest k = ⊎_elim
    (λ h. inl h)
    (λ h. subst (λ s. First true us s rest) (sym h.1) (first_several spelled a us item xs k.0 rest k.2))
    (item ts x k.0 k.1)

first_commas : {A : Type 0} (spelled : Spelling A) (us : List Terminal) → ((ts : List Token) (x : A) (rest : List Token) → spelled ts x rest → begins us ts ≡ true) → (first : A) (more : List A) (ts rest : List Token) → Commas_of spelled first more ts rest → begins us ts ≡ true
first_commas spelled us item first [] ts rest k = item ts first k.0 k.1
first_commas spelled us item first (y ∷ ys) ts rest k = item ts first k.0 k.2

-- there is a token where one begins
some_token : (us : List Terminal) (ts : List Token) → begins us ts ≡ true → 0 < length ts
some_token us [] e = absurd (cc)
some_token us (t ∷ ts) e = omega arith

module _ {A : Type 0} (r : List Token → Reads A) (set goes : List Terminal) (spelled : Spelling A)
    (shorter : (ts : List Token) (x : A × List Token) → r ts ≡ Ok x → length x.1 < length ts)
    (item : (ts : List Token) (x : A) (rest : List Token) → spelled ts x rest → begins goes rest ≡ false → r ts ≡ Ok (x, rest))
    (opens : (ts : List Token) (x : A) (rest : List Token) → spelled ts x rest → begins set ts ≡ true) where
  several_ends : disjoint goes set ≡ true → (xs : List A) (ts rest : List Token) → Several_of spelled ts xs rest → begins goes rest ≡ false → begins goes ts ≡ false
  several_ends d [] ts rest k g = subst (λ s. begins goes s ≡ false) (sym k) g
  several_ends d (x ∷ xs) ts rest k g = apart_back goes set ts d (opens ts x k.0 k.1)

  several_complete : disjoint goes set ≡ true → (n : ℕ) (xs : List A) (ts rest : List Token) → length ts ≤ n → Several_of spelled ts xs rest → begins set rest ≡ false → begins goes rest ≡ false → several_in r set n ts ≡ Ok (xs, rest)
  several_complete d zero [] ts rest le k e g = ap (λ s. Ok ([], s)) k
  several_complete d zero (x ∷ xs) ts rest le k e g = absurd (let some = some_token set ts (opens ts x k.0 k.1) in omega arith)
  several_complete d (suc n) [] ts rest le k e g =
      ap (λ b. cond b (then_reads (r ts) (λ x mid. then_reads (several_in r set n mid) (λ xs rest. Ok (x ∷ xs, rest)))) (Ok ([], ts))) (subst (λ s. begins set s ≡ false) (sym k) e)
      ∙ ap (λ s. Ok ([], s)) k
  several_complete d (suc n) (x ∷ xs) ts rest le k e g =
      let got : r ts ≡ Ok (x, k.0) = item ts x k.0 k.1 (several_ends d xs k.0 rest k.2 g) in
      let less : length k.0 < length ts = shorter ts (x, k.0) got in
      ap (λ b. cond b (then_reads (r ts) (λ x mid. then_reads (several_in r set n mid) (λ xs rest. Ok (x ∷ xs, rest)))) (Ok ([], ts))) (opens ts x k.0 k.1)
      ∙ ap (λ s. then_reads s (λ x mid. then_reads (several_in r set n mid) (λ xs rest. Ok (x ∷ xs, rest)))) got
      ∙ ap (λ s. then_reads s (λ xs rest. Ok (x ∷ xs, rest))) (several_complete d n xs k.0 rest (omega arith) k.2 e g)

  no_comma : (n : ℕ) (ts : List Token) → begins (Comma ∷ []) ts ≡ false → commas_in r set n ts ≡ Ok ([], ts)
  no_comma zero ts e = refl
  no_comma (suc n) [] e = refl
  no_comma (suc n) (t ∷ ts) e =
      ap (λ b. cond b (cond (begins set ts) (then_reads (r ts) (λ x mid. then_reads (commas_in r set n mid) (λ xs rest. Ok (x ∷ xs, rest)))) (Ok ([], ts))) (Ok ([], t ∷ ts))) e

  -- behind a comma
  after_comma : (n : ℕ) (t : Token) (ts : List Token) → is_in (terminal_of t.kind) (Comma ∷ []) ≡ true →
      commas_in r set (suc n) (t ∷ ts) ≡ cond (begins set ts) (then_reads (r ts) (λ x mid. then_reads (commas_in r set n mid) (λ xs rest. Ok (x ∷ xs, rest)))) (Ok ([], ts))
  after_comma n t ts e =
      ap (λ b. cond b (cond (begins set ts) (then_reads (r ts) (λ x mid. then_reads (commas_in r set n mid) (λ xs rest. Ok (x ∷ xs, rest)))) (Ok ([], ts))) (Ok ([], t ∷ ts))) e

  comma_ends : disjoint goes (Comma ∷ []) ≡ true → (ts rest : List Token) → IsComma ts rest → begins goes ts ≡ false
  comma_ends d ts rest k = apart_back goes (Comma ∷ []) ts d (subst (λ s. begins (Comma ∷ []) s ≡ true) (sym k.1) k.2)

  last_comma : (n : ℕ) (ts rest : List Token) → length ts ≤ n → IsComma ts rest → begins set rest ≡ false → commas_in r set n ts ≡ Ok ([], rest)
  last_comma zero ts rest le k e = absurd (let same : length ts ≡ length (k.0 ∷ rest) = ap length k.1 in omega arith)
  last_comma (suc n) ts rest le k e =
      ap (commas_in r set (suc n)) k.1 ∙ after_comma n k.0 rest k.2
      ∙ ap (λ b. cond b (then_reads (r rest) (λ x mid. then_reads (commas_in r set n mid) (λ xs rest. Ok (x ∷ xs, rest)))) (Ok ([], rest))) e

  next_comma : (n : ℕ) (ys : List A) (y : A) (ts after rest : List Token) → length ts ≤ n → IsComma ts after → begins set after ≡ true →
      (mid : List Token) × (r after ≡ Ok (y, mid)) × ((n : ℕ) → length mid ≤ n → commas_in r set n mid ≡ Ok (ys, rest)) → commas_in r set n ts ≡ Ok (y ∷ ys, rest)
  next_comma zero ys y ts after rest le k b f = absurd (let same : length ts ≡ length (k.0 ∷ after) = ap length k.1 in omega arith)
  next_comma (suc n) ys y ts after rest le k b f =
      let same : length ts ≡ length (k.0 ∷ after) = ap length k.1 in
      let less : length f.0 < length after = shorter after (y, f.0) f.1 in
      ap (commas_in r set (suc n)) k.1 ∙ after_comma n k.0 after k.2
      ∙ ap (λ b. cond b (then_reads (r after) (λ x mid. then_reads (commas_in r set n mid) (λ xs rest. Ok (x ∷ xs, rest)))) (Ok ([], after))) b
      ∙ ap (λ s. then_reads s (λ x mid. then_reads (commas_in r set n mid) (λ xs rest. Ok (x ∷ xs, rest)))) f.1
      ∙ ap (λ s. then_reads s (λ xs rest. Ok (y ∷ xs, rest))) (f.2 n (omega arith))

  commas_complete : disjoint goes (Comma ∷ []) ≡ true → (more : List A) (first : A) (ts rest : List Token) → Commas_of spelled first more ts rest →
      begins (Comma ∷ []) rest ≡ false → begins set rest ≡ false → begins goes rest ≡ false →
      (mid : List Token) × (r ts ≡ Ok (first, mid)) × ((n : ℕ) → length mid ≤ n → commas_in r set n mid ≡ Ok (more, rest))
  commas_complete d [] first ts rest k c e g = ⊎_elim
      (λ h. (k.0, item ts first k.0 k.1 (subst (λ s. begins goes s ≡ false) (sym h) g), λ n le. no_comma n k.0 (subst (λ s. begins (Comma ∷ []) s ≡ false) (sym h) c) ∙ ap (λ s. Ok ([], s)) h))
      (λ h. (k.0, item ts first k.0 k.1 (comma_ends d k.0 rest h), λ n le. last_comma n k.0 rest le h e))
      k.2
  commas_complete d (y ∷ ys) first ts rest k c e g =
      let further = commas_complete d ys y k.1 rest k.4 c e g in
      (k.0, item ts first k.0 k.2 (comma_ends d k.0 k.1 k.3), λ n le. next_comma n ys y k.0 k.1 rest le k.3 (first_commas spelled set opens y ys k.1 rest k.4) further)

module _ (nested : (n : Nest) → List Token → Reads (Nested n)) (shorter : (n : Nest) (ts : List Token) (x : Nested n × List Token) → nested n ts ≡ Ok x → length x.1 < length ts)
    (spelled : (n : Nest) → Spelling (Nested n))
    (opens : (n : Nest) (ts : List Token) (x : Nested n) (rest : List Token) → spelled n ts x rest → begins (opening n ∷ []) ts ≡ true)
    (complete : (n : Nest) (ts : List Token) (x : Nested n) (rest : List Token) → spelled n ts x rest → begins (nest_goes_on n) rest ≡ false → nested n ts ≡ Ok (x, rest)) where
  pub first : {A : Type 0} (g : Grammar A) → is_plain g ≡ true → (ts : List Token) (x : A) (rest : List Token) → Spells spelled g ts x rest → First (nullable g) (starts g) ts rest
  first (Empty v) p ts x rest s = inr (refl, s.0)
  first (One set value) p ts x rest s = inl (subst (λ us. begins set us ≡ true) (sym s.1) s.2)
  first (Pair join g h) p ts x rest s =
      let q = and_parts (is_plain g) (is_plain h && disjoint (goes_on g) (starts h)) p in
      let o = and_parts (is_plain h) (disjoint (goes_on g) (starts h)) q.1 in
      first_pair (nullable g) (nullable h) (starts g) (starts h) ts s.0 rest (first g q.0 ts s.1 s.0 s.3) (first h o.0 s.0 s.2 rest s.4)
  first (Choice g h) p ts x rest (inl s) =
      let q = and_parts (is_plain g) (is_plain h && (not (nullable g) && disjoint (starts g) (starts h))) p in
      first_choice_left (nullable g) (nullable h) (starts g) (starts h) ts rest (first g q.0 ts x rest s)
  first (Choice g h) p ts x rest (inr s) =
      let q = and_parts (is_plain g) (is_plain h && (not (nullable g) && disjoint (starts g) (starts h))) p in
      let o = and_parts (is_plain h) (not (nullable g) && disjoint (starts g) (starts h)) q.1 in
      first_choice_right (nullable g) (nullable h) (starts g) (starts h) ts rest (first h o.0 ts x rest s)
  first (Several whole g) p ts x rest s =
      let q = and_parts (is_plain g) (not (nullable g) && disjoint (goes_on g) (starts g)) p in
      first_several (Spells spelled g) (nullable g) (starts g) (first g q.0) s.0 ts rest s.1
  first (Commas whole g) p ts x rest s =
      let q = and_parts (is_plain g) (not (nullable g) && disjoint (goes_on g) (Comma ∷ [])) p in
      let o = and_parts (not (nullable g)) (disjoint (goes_on g) (Comma ∷ [])) q.1 in
      inl (first_commas (Spells spelled g) (starts g) (λ us y r k. first_some (nullable g) (starts g) us r (from_not (nullable g) o.0) (first g q.0 us y r k)) s.0 s.1 ts rest s.2)
  first (Deeper n) p ts x rest s = inl (opens n ts x rest s)

  item_shorter : {A : Type 0} (g : Grammar A) → nullable g ≡ false → (ts : List Token) (x : A × List Token) → read nested g ts ≡ Ok x → length x.1 < length ts
  item_shorter g some ts x e = subst (λ b. Taken b (length x.1) (length ts)) some (took nested shorter g ts x e)

  pub read_complete : {A : Type 0} (g : Grammar A) → is_plain g ≡ true → (ts : List Token) (x : A) (rest : List Token) → Spells spelled g ts x rest → begins (goes_on g) rest ≡ false → read nested g ts ≡ Ok (x, rest)
  unfolding several_at commas_at
  read_complete (Empty v) p ts x rest s e = ap (λ y. Ok (y, ts)) s.1 ∙ ap (λ y. Ok (x, y)) s.0
  read_complete (One set value) p ts x rest s e =
      ap (one_at set value) s.1 ∙ ap (λ b. cond b (Ok (value s.0, rest)) (Err (unexpected (s.0 ∷ rest)))) s.2 ∙ ap (λ y. Ok (y, rest)) s.3
  read_complete (Pair join g h) p ts x rest s e =
      let q = and_parts (is_plain g) (is_plain h && disjoint (goes_on g) (starts h)) p in
      let o = and_parts (is_plain h) (disjoint (goes_on g) (starts h)) q.1 in
      let ends : begins (goes_on g) s.0 ≡ false = ⊎_elim
      (λ k. apart_back (goes_on g) (starts h) s.0 o.1 k)
      (λ k. subst (λ r. begins (goes_on g) r ≡ false) (sym k.1) (ends_first (nullable h) (goes_on g) (goes_on h) rest k.0 e))
      (first h o.0 s.0 s.2 rest s.4) in
      ap (λ r. then_reads r (λ x m. then_reads (read nested h m) (λ y r. Ok (join x y, r)))) (read_complete g q.0 ts s.1 s.0 s.3 ends)
      ∙ ap (λ r. then_reads r (λ y r. Ok (join s.1 y, r))) (read_complete h o.0 s.0 s.2 rest s.4 (ends_second (nullable h) (goes_on g) (goes_on h) rest e))
      ∙ ap (λ z. Ok (z, rest)) s.5
  read_complete (Choice g h) p ts x rest (inl s) e =
      let q = and_parts (is_plain g) (is_plain h && (not (nullable g) && disjoint (starts g) (starts h))) p in
      let o = and_parts (is_plain h) (not (nullable g) && disjoint (starts g) (starts h)) q.1 in
      let m = and_parts (not (nullable g)) (disjoint (starts g) (starts h)) o.1 in
      ap (λ b. cond b (read nested g ts) (read nested h ts)) (first_some (nullable g) (starts g) ts rest (from_not (nullable g) m.0) (first g q.0 ts x rest s))
      ∙ read_complete g q.0 ts x rest s (begins_left (goes_on g) (goes_on h) rest (ends_second (nullable h) (starts g) (goes_on g ++ goes_on h) rest e))
  read_complete (Choice g h) p ts x rest (inr s) e =
      let q = and_parts (is_plain g) (is_plain h && (not (nullable g) && disjoint (starts g) (starts h))) p in
      let o = and_parts (is_plain h) (not (nullable g) && disjoint (starts g) (starts h)) q.1 in
      let m = and_parts (not (nullable g)) (disjoint (starts g) (starts h)) o.1 in
      let other : begins (starts g) ts ≡ false = ⊎_elim
      (λ k. apart_back (starts g) (starts h) ts m.1 k)
      (λ k. subst (λ r. begins (starts g) r ≡ false) (sym k.1) (ends_first (nullable h) (starts g) (goes_on g ++ goes_on h) rest k.0 e))
      (first h o.0 ts x rest s) in
      ap (λ b. cond b (read nested g ts) (read nested h ts)) other
      ∙ read_complete h o.0 ts x rest s (begins_right (goes_on g) (goes_on h) rest (ends_second (nullable h) (starts g) (goes_on g ++ goes_on h) rest e))
  read_complete (Several whole g) p ts x rest s e =
      let q = and_parts (is_plain g) (not (nullable g) && disjoint (goes_on g) (starts g)) p in
      let o = and_parts (not (nullable g)) (disjoint (goes_on g) (starts g)) q.1 in
      let some = from_not (nullable g) o.0 in
      ap (λ r. then_reads r (λ xs rest. Ok (whole xs, rest)))
      (several_complete (read nested g) (starts g) (goes_on g) (Spells spelled g) (item_shorter g some) (read_complete g q.0)
      (λ us y r k. first_some (nullable g) (starts g) us r some (first g q.0 us y r k)) o.1 (length ts) s.0 ts rest (omega arith) s.1 (begins_left (starts g) (goes_on g) rest e) (begins_right (starts g) (goes_on g) rest e))
      ∙ ap (λ z. Ok (z, rest)) s.2
  read_complete (Commas whole g) p ts x rest s e =
      let q = and_parts (is_plain g) (not (nullable g) && disjoint (goes_on g) (Comma ∷ [])) p in
      let o = and_parts (not (nullable g)) (disjoint (goes_on g) (Comma ∷ [])) q.1 in
      let some = from_not (nullable g) o.0 in
      let e2 = begins_right (Comma ∷ []) (starts g ++ goes_on g) rest e in
      let all = commas_complete (read nested g) (starts g) (goes_on g) (Spells spelled g) (item_shorter g some) (read_complete g q.0)
      (λ us y r k. first_some (nullable g) (starts g) us r some (first g q.0 us y r k)) o.1 s.1 s.0 ts rest s.2 (begins_left (Comma ∷ []) (starts g ++ goes_on g) rest e) (begins_left (starts g) (goes_on g) rest e2) (begins_right (starts g) (goes_on g) rest e2) in
      ap (λ r. then_reads r (λ x mid. then_reads (commas_in (read nested g) (starts g) (length mid) mid) (λ xs rest. Ok (whole (x ∷ xs), rest)))) all.1
      ∙ ap (λ r. then_reads r (λ xs rest. Ok (whole (s.0 ∷ xs), rest))) (all.2 (length all.0) (omega arith))
      ∙ ap (λ z. Ok (z, rest)) s.3
  read_complete (Deeper n) p ts x rest s e = complete n ts x rest s e

-- a set within another
subset_in : (t : Terminal) (us vs : List Terminal) → list_all (λ u. is_in u vs) us ≡ true → is_in t us ≡ true → is_in t vs ≡ true
subset_in t [] vs d e = absurd (cc)
subset_in t (u ∷ us) vs d e =
    let parts = and_parts (is_in u vs) (list_all (λ u. is_in u vs) us) d in
    ⊎_elim (λ same. sym (is_in_same t u vs same) ∙ parts.0) (λ further. subset_in t us vs parts.1 further) (or_either (is t u) (is_in t us) e)

subset_ends : (us vs : List Terminal) (ts : List Token) → list_all (λ u. is_in u vs) us ≡ true → begins vs ts ≡ false → begins us ts ≡ false
subset_ends us vs [] d e = refl
subset_ends us vs (t ∷ ts) d e = false_from_ne_true (is_in (terminal_of t.kind) us) (λ h. not_both (is_in (terminal_of t.kind) vs) (subset_in (terminal_of t.kind) us vs d h) e)

nest_ends : (n : Nest) (rest : List Token) → begins (nest_goes_on n) rest ≡ false → begins (goes_on (nest n)) rest ≡ false
nest_ends n rest e = subset_ends (goes_on (nest n)) (nest_goes_on n) rest (nest_within n) e

nest_first : (n : Nest) (us : List Terminal) (a : Bool) (ts rest : List Token) → a ≡ false → us ≡ opening n ∷ [] → First a us ts rest → begins (opening n ∷ []) ts ≡ true
nest_first n us a ts rest some is f = subst (λ vs. begins vs ts ≡ true) is (first_some a us ts rest some f)

mutual
  pub nested_opens : (levels : ℕ) (n : Nest) (ts : List Token) (x : Nested n) (rest : List Token) → spelled_within levels n ts x rest → begins (opening n ∷ []) ts ≡ true
  nested_opens zero n ts x rest s = absurd s
  nested_opens (suc levels) n ts x rest s =
      nest_first n (starts (nest n)) (nullable (nest n)) ts rest (nullable_nest n) (starts_nest n) (first (nested_at levels) (nested_shorter levels) (spelled_within levels) (nested_opens levels) (nested_complete levels) (nest n) (plain_nest n) ts x rest s)

  pub nested_complete : (levels : ℕ) (n : Nest) (ts : List Token) (x : Nested n) (rest : List Token) → spelled_within levels n ts x rest → begins (nest_goes_on n) rest ≡ false → nested_at levels n ts ≡ Ok (x, rest)
  nested_complete zero n ts x rest s e = absurd s
  nested_complete (suc levels) n ts x rest s e =
      read_complete (nested_at levels) (nested_shorter levels) (spelled_within levels) (nested_opens levels) (nested_complete levels) (nest n) (plain_nest n) ts x rest s (nest_ends n rest e)
