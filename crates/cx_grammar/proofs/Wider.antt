-- More levels make no difference where none was wanting.
use Rattle.std.proofs.Common.{◌≡◌, ℕ, zero, suc, ◌+◌, ◌-◌, ◌≤◌, Bool, true, false, List, [], ◌∷◌, length, Ok, Err, refl, sym, ap, subst, ◌∙◌, cond, arith, ◌⊎◌, inl, inr}
use Rattle.cx_ast.specs.declared.tokens.Token.{Token}
use Rattle.cx_grammar.specs.declared.terminals.Terminal.{Terminal}
use Rattle.cx_grammar.specs.declared.terminals.Terminal.TheVariants.{Comma, Not, OpenParen, CloseParen, OpenBrace, CloseBrace}
use Rattle.cx_grammar.specs.Terminals.{terminal_of, is_in, begins}
use Rattle.cx_grammar.specs.Grammar.{Nest, Nested, Negation, Parens, Braces, Grammar, Empty, One, Pair, Choice, Several, Commas, Deeper, starts, opening}
use Rattle.cx_grammar.specs.Calyx.{nest, nested_at, file, unary, guard, statements, before}
use Rattle.cx_text.specs.declared.places.Place.{Place}
use Rattle.cx_ast.specs.PlainGuards.{PlainGuard}
use Rattle.cx_ast.specs.PlainGuards as guards
use Rattle.cx_ast.specs.PlainStatements.{statements_of}
use Rattle.cx_ast.specs.PlainStatements as plain
use Rattle.cx_grammar.specs.Reading.{Unexpected, Reads, then_reads, several_in, several_at, commas_in, commas_at, read, unexpected, too_deep}
use Rattle.cx_grammar.proofs.Viable.{one_fails}

-- reading did not stop at a level too deep
abbrev pub NotDeep : {A : Type 0} → Reads A → Type 0
NotDeep (Ok x) = Unit {0}
NotDeep (Err s) = s.why ≡ Unexpected

then_wider : {A B : Type 0} (a b : Reads A) (f g : A → List Token → Reads B) → (NotDeep a → b ≡ a) → ((x : A) (mid : List Token) → NotDeep (f x mid) → g x mid ≡ f x mid) → NotDeep (then_reads a f) → then_reads b g ≡ then_reads a f
then_wider (Ok x) b f g first second nd = ap (λ r. then_reads r g) (first tt) ∙ second x.0 x.1 nd
then_wider (Err s) b f g first second nd = ap (λ r. then_reads r g) (first nd)

cond_wider : {A : Type 0} (c : Bool) (u v u' v' : Reads A) → (NotDeep u → u' ≡ u) → (NotDeep v → v' ≡ v) → NotDeep (cond c u v) → cond c u' v' ≡ cond c u v
cond_wider true u v u' v' left right nd = left nd
cond_wider false u v u' v' left right nd = right nd

module _ {A : Type 0} (r q : List Token → Reads A) (set : List Terminal) (item : (ts : List Token) → NotDeep (r ts) → q ts ≡ r ts) where
  several_wider : (n : ℕ) (ts : List Token) → NotDeep (several_in r set n ts) → several_in q set n ts ≡ several_in r set n ts
  several_wider zero ts nd = refl
  several_wider (suc n) ts nd =
      cond_wider (begins set ts) (then_reads (r ts) (λ x mid. then_reads (several_in r set n mid) (λ xs rest. Ok (x ∷ xs, rest)))) (Ok ([], ts)) (then_reads (q ts) (λ x mid. then_reads (several_in q set n mid) (λ xs rest. Ok (x ∷ xs, rest)))) (Ok ([], ts))
      (then_wider (r ts) (q ts) (λ x mid. then_reads (several_in r set n mid) (λ xs rest. Ok (x ∷ xs, rest))) (λ x mid. then_reads (several_in q set n mid) (λ xs rest. Ok (x ∷ xs, rest))) (item ts)
      (λ x mid. then_wider (several_in r set n mid) (several_in q set n mid) (λ xs rest. Ok (x ∷ xs, rest)) (λ xs rest. Ok (x ∷ xs, rest)) (several_wider n mid) (λ xs rest _. refl)))
      (λ _. refl) nd

  commas_wider : (n : ℕ) (ts : List Token) → NotDeep (commas_in r set n ts) → commas_in q set n ts ≡ commas_in r set n ts
  commas_wider zero ts nd = refl
  commas_wider (suc n) [] nd = refl
  commas_wider (suc n) (t ∷ ts) nd =
      cond_wider (is_in (terminal_of t.kind) (Comma ∷ []))
      (cond (begins set ts) (then_reads (r ts) (λ x mid. then_reads (commas_in r set n mid) (λ xs rest. Ok (x ∷ xs, rest)))) (Ok ([], ts))) (Ok ([], t ∷ ts))
      (cond (begins set ts) (then_reads (q ts) (λ x mid. then_reads (commas_in q set n mid) (λ xs rest. Ok (x ∷ xs, rest)))) (Ok ([], ts))) (Ok ([], t ∷ ts))
      (cond_wider (begins set ts) (then_reads (r ts) (λ x mid. then_reads (commas_in r set n mid) (λ xs rest. Ok (x ∷ xs, rest)))) (Ok ([], ts)) (then_reads (q ts) (λ x mid. then_reads (commas_in q set n mid) (λ xs rest. Ok (x ∷ xs, rest)))) (Ok ([], ts))
      (then_wider (r ts) (q ts) (λ x mid. then_reads (commas_in r set n mid) (λ xs rest. Ok (x ∷ xs, rest))) (λ x mid. then_reads (commas_in q set n mid) (λ xs rest. Ok (x ∷ xs, rest))) (item ts)
      (λ x mid. then_wider (commas_in r set n mid) (commas_in q set n mid) (λ xs rest. Ok (x ∷ xs, rest)) (λ xs rest. Ok (x ∷ xs, rest)) (commas_wider n mid) (λ xs rest _. refl)))
      (λ _. refl))
      (λ _. refl) nd

module _ (nested wide : (n : Nest) → List Token → Reads (Nested n)) (wider : (n : Nest) (ts : List Token) → NotDeep (nested n ts) → wide n ts ≡ nested n ts) where
  pub read_wider : {A : Type 0} (g : Grammar A) (ts : List Token) → NotDeep (read nested g ts) → read wide g ts ≡ read nested g ts
  unfolding several_at commas_at
  read_wider (Empty v) ts nd = refl
  read_wider (One set v) ts nd = refl
  read_wider (Pair join g h) ts nd =
      then_wider (read nested g ts) (read wide g ts) (λ x mid. then_reads (read nested h mid) (λ y rest. Ok (join x y, rest))) (λ x mid. then_reads (read wide h mid) (λ y rest. Ok (join x y, rest))) (read_wider g ts)
      (λ x mid. then_wider (read nested h mid) (read wide h mid) (λ y rest. Ok (join x y, rest)) (λ y rest. Ok (join x y, rest)) (read_wider h mid) (λ y rest _. refl)) nd
  read_wider (Choice g h) ts nd = cond_wider (begins (starts g) ts) (read nested g ts) (read nested h ts) (read wide g ts) (read wide h ts) (read_wider g ts) (read_wider h ts) nd
  read_wider (Several whole g) ts nd =
      then_wider (several_in (read nested g) (starts g) (length ts) ts) (several_in (read wide g) (starts g) (length ts) ts) (λ xs rest. Ok (whole xs, rest)) (λ xs rest. Ok (whole xs, rest))
      (several_wider (read nested g) (read wide g) (starts g) (read_wider g) (length ts) ts) (λ xs rest _. refl) nd
  read_wider (Commas whole g) ts nd =
      then_wider (read nested g ts) (read wide g ts) (λ x mid. then_reads (commas_in (read nested g) (starts g) (length mid) mid) (λ xs rest. Ok (whole (x ∷ xs), rest))) (λ x mid. then_reads (commas_in (read wide g) (starts g) (length mid) mid) (λ xs rest. Ok (whole (x ∷ xs), rest))) (read_wider g ts)
      (λ x mid. then_wider (commas_in (read nested g) (starts g) (length mid) mid) (commas_in (read wide g) (starts g) (length mid) mid) (λ xs rest. Ok (whole (x ∷ xs), rest)) (λ xs rest. Ok (whole (x ∷ xs), rest))
      (commas_wider (read nested g) (read wide g) (starts g) (read_wider g) (length mid) mid) (λ xs rest _. refl)) nd
  read_wider (Deeper n) ts nd = wider n ts nd

pair_fails : {A B C : Type 0} (nested : (n : Nest) → List Token → Reads (Nested n)) (set : List Terminal) (value : Token → A) (join : A → B → C) (h : Grammar B) (ts : List Token) → begins set ts ≡ false → read nested (Pair join (One set value) h) ts ≡ Err (unexpected ts)
pair_fails nested set value join h ts e = ap (λ r. then_reads r (λ x mid. then_reads (read nested h mid) (λ y rest. Ok (join x y, rest)))) (one_fails set value ts e)

first_fails : (n : Nest) (ts : List Token) → begins (opening n ∷ []) ts ≡ false → read (nested_at 0) (nest n) ts ≡ Err (unexpected ts)
unfolding nest
first_fails Negation ts e = pair_fails (nested_at 0) (Not ∷ []) (λ token. token.place) (λ (_ : Place) g. guards.Not g) unary ts e
first_fails Parens ts e = pair_fails (nested_at 0) (OpenParen ∷ []) (λ token. token.place) (λ (_ : Place) (g : PlainGuard). g) (before guard CloseParen) ts e
first_fails Braces ts e = pair_fails (nested_at 0) (OpenBrace ∷ []) (λ token. token.place) (λ place ss. plain.Braces (statements_of ss) place) (before statements CloseBrace) ts e

zero_wider : (n : Nest) (ts : List Token) (b : Bool) → begins (opening n ∷ []) ts ≡ b → NotDeep (let r : Reads (Nested n) = cond b (Err (too_deep ts)) (Err (unexpected ts)) in r) → read (nested_at 0) (nest n) ts ≡ cond b (Err (too_deep ts)) (Err (unexpected ts))
zero_wider n ts true e nd = absurd (cc)
zero_wider n ts false e nd = first_fails n ts e

pub nested_wider : (levels : ℕ) (n : Nest) (ts : List Token) → NotDeep (nested_at levels n ts) → nested_at (suc levels) n ts ≡ nested_at levels n ts
nested_wider zero n ts nd = zero_wider n ts (begins (opening n ∷ []) ts) refl nd
nested_wider (suc levels) n ts nd = read_wider (nested_at levels) (nested_at (suc levels)) (nested_wider levels) (nest n) ts nd

above : ℕ → ℕ → ℕ
above zero k = k
above (suc d) k = suc (above d k)

above_is : (d k : ℕ) → above d k ≡ d + k
unfolding above
above_is zero k = omega arith
above_is (suc d) k = let e : above d k ≡ d + k = above_is d k in omega arith

levels_above : (d k : ℕ) (ts : List Token) → NotDeep (read (nested_at k) file ts) → read (nested_at (above d k)) file ts ≡ read (nested_at k) file ts
unfolding above
levels_above zero k ts nd = refl
levels_above (suc d) k ts nd =
    let e = levels_above d k ts nd in
    read_wider (nested_at (above d k)) (nested_at (suc (above d k))) (nested_wider (above d k)) file ts (subst (λ r. NotDeep r) (sym e) nd) ∙ e

levels_up : (k m : ℕ) → k ≤ m → (ts : List Token) → NotDeep (read (nested_at k) file ts) → read (nested_at m) file ts ≡ read (nested_at k) file ts
levels_up k m le ts nd =
    let e : above (m - k) k ≡ m = above_is (m - k) k ∙ (omega arith) in
    subst (λ l. read (nested_at l) file ts ≡ read (nested_at k) file ts) e (levels_above (m - k) k ts nd)

order : (k m : ℕ) → (k ≤ m) ⊎ (m ≤ k)
order zero m = inl (omega arith)
order (suc k) zero = inr (omega arith)
order (suc k) (suc m) = shifted (order k m)
  where
    shifted : (k ≤ m) ⊎ (m ≤ k) → (suc k ≤ suc m) ⊎ (suc m ≤ suc k)
    shifted (inl le) = inl (omega arith)
    shifted (inr le) = inr (omega arith)

-- two numbers of levels that are both enough read alike
pub levels_same : (k m : ℕ) (ts : List Token) → NotDeep (read (nested_at k) file ts) → NotDeep (read (nested_at m) file ts) → read (nested_at m) file ts ≡ read (nested_at k) file ts
levels_same k m ts nk nm = sides (order k m)
  where
    sides : (k ≤ m) ⊎ (m ≤ k) → read (nested_at m) file ts ≡ read (nested_at k) file ts
    sides (inl le) = levels_up k m le ts nk
    sides (inr le) = sym (levels_up m k le ts nm)
