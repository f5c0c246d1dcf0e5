-- Reading one text after another, a text at a time.
use Rattle.std.proofs.Common.{◌≡◌, ℕ, zero, suc, ◌≤◌, ◌<◌, true, false, List, [], ◌∷◌, ◌++◌, length, Ok, Err, refl, ap, ◌∙◌, subst, arith, cond, ◌+◌}
use Rattle.cx_ast.specs.declared.tokens.Token.{Token}
use Rattle.cx_grammar.specs.declared.terminals.Terminal.{Terminal}
use Rattle.cx_grammar.specs.declared.terminals.Terminal.TheVariants.{Comma}
use Rattle.cx_grammar.specs.Terminals.{terminal_of, is_in, begins}
use Rattle.cx_grammar.specs.Grammar.{Nest, Grammar, nullable}
use Rattle.cx_grammar.specs.Calyx.{nest, nested_at}
use Rattle.cx_grammar.specs.Reading.{Stop, Reads, then_reads, several_in, several_at, commas_in, commas_at, read}
use Rattle.cx_grammar.proofs.Shorter.{Taken, took, nested_shorter}

-- two readings go on alike
alike : {A B : Type 0} (r : Reads A) (f g : A → List Token → Reads B) → ((x : A × List Token) → r ≡ Ok x → f x.0 x.1 ≡ g x.0 x.1) → then_reads r f ≡ then_reads r g
alike (Ok x) f g h = h x refl
alike (Err s) f g h = refl

module _ {A : Type 0} (r : List Token → Reads A) (set : List Terminal) (shorter : (ts : List Token) (x : A × List Token) → r ts ≡ Ok x → length x.1 < length ts) where
  -- more turns than tokens make no difference
  enough : (n m : ℕ) (ts : List Token) → length ts ≤ n → length ts ≤ m → several_in r set n ts ≡ several_in r set m ts
  enough zero zero ts hn hm = refl
  enough zero (suc m) [] hn hm = refl
  enough zero (suc m) (t ∷ ts) hn hm = absurd (omega arith)
  enough (suc n) zero [] hn hm = refl
  enough (suc n) zero (t ∷ ts) hn hm = absurd (omega arith)
  enough (suc n) (suc m) ts hn hm =
      ap (λ s. cond (begins set ts) s (Ok ([], ts))) (alike (r ts) _ _ (λ x e.
      let le : length x.1 < length ts = shorter ts x e in
      ap (λ s. then_reads s (λ xs rest. Ok (x.0 ∷ xs, rest))) (enough n m x.1 (omega arith) (omega arith))))

  commas_enough : (n m : ℕ) (ts : List Token) → length ts ≤ n → length ts ≤ m → commas_in r set n ts ≡ commas_in r set m ts
  commas_enough zero zero ts hn hm = refl
  commas_enough zero (suc m) [] hn hm = refl
  commas_enough zero (suc m) (t ∷ ts) hn hm = absurd (omega arith)
  commas_enough (suc n) zero [] hn hm = refl
  commas_enough (suc n) zero (t ∷ ts) hn hm = absurd (omega arith)
  commas_enough (suc n) (suc m) [] hn hm = refl
  commas_enough (suc n) (suc m) (t ∷ ts) hn hm =
      ap (λ s. cond (is_in (terminal_of t.kind) (Comma ∷ [])) (cond (begins set ts) s (Ok ([], ts))) (Ok ([], t ∷ ts))) (alike (r ts) _ _ (λ x e.
      let le : length x.1 < length ts = shorter ts x e in
      ap (λ s. then_reads s (λ xs rest. Ok (x.0 ∷ xs, rest))) (commas_enough n m x.1 (omega arith) (omega arith))))

  -- the first text, and those behind it
  pub several-next : (ts : List Token) (x : A × List Token) → begins set ts ≡ true → r ts ≡ Ok x → several_at r set ts ≡ then_reads (several_at r set x.1) (λ xs rest. Ok (x.0 ∷ xs, rest))
  unfolding several_at
  several-next [] x b e = absurd (cc)
  several-next (t ∷ ts) x b e =
      let le : length x.1 < length (t ∷ ts) = shorter (t ∷ ts) x e in
      ap (λ s. cond s (then_reads (r (t ∷ ts)) (λ x mid. then_reads (several_in r set (length ts) mid) (λ xs rest. Ok (x ∷ xs, rest)))) (Ok ([], t ∷ ts))) b
      ∙ ap (λ s. then_reads s (λ x mid. then_reads (several_in r set (length ts) mid) (λ xs rest. Ok (x ∷ xs, rest)))) e
      ∙ ap (λ s. then_reads s (λ xs rest. Ok (x.0 ∷ xs, rest))) (enough (length ts) (length x.1) x.1 (omega arith) (omega arith))

  -- at once for both
  pub several-unroll : (ts : List Token) → begins set ts ≡ true → several_at r set ts ≡ then_reads (r ts) (λ x mid. then_reads (several_at r set mid) (λ xs rest. Ok (x ∷ xs, rest)))
  unfolding several_at
  several-unroll [] b = absurd (cc)
  several-unroll (t ∷ ts) b =
      ap (λ s. cond s (then_reads (r (t ∷ ts)) (λ x mid. then_reads (several_in r set (length ts) mid) (λ xs rest. Ok (x ∷ xs, rest)))) (Ok ([], t ∷ ts))) b
      ∙ alike (r (t ∷ ts)) _ _ (λ x e. let le : length x.1 < length (t ∷ ts) = shorter (t ∷ ts) x e in ap (λ s. then_reads s (λ xs rest. Ok (x.0 ∷ xs, rest))) (enough (length ts) (length x.1) x.1 (omega arith) (omega arith)))

  pub commas-none : (ts : List Token) → begins (Comma ∷ []) ts ≡ false → commas_at r set ts ≡ Ok ([], ts)
  unfolding commas_at
  commas-none [] b = refl
  commas-none (t ∷ ts) b = ap (λ s. cond s (cond (begins set ts) (then_reads (r ts) (λ x mid. then_reads (commas_in r set (length ts) mid) (λ xs rest. Ok (x ∷ xs, rest)))) (Ok ([], ts))) (Ok ([], t ∷ ts))) b

  pub commas-last : (t : Token) (ts : List Token) → is_in (terminal_of t.kind) (Comma ∷ []) ≡ true → begins set ts ≡ false → commas_at r set (t ∷ ts) ≡ Ok ([], ts)
  unfolding commas_at
  commas-last t ts c b =
      ap (λ s. cond s (cond (begins set ts) (then_reads (r ts) (λ x mid. then_reads (commas_in r set (length ts) mid) (λ xs rest. Ok (x ∷ xs, rest)))) (Ok ([], ts))) (Ok ([], t ∷ ts))) c
      ∙ ap (λ s. cond s (then_reads (r ts) (λ x mid. then_reads (commas_in r set (length ts) mid) (λ xs rest. Ok (x ∷ xs, rest)))) (Ok ([], ts))) b

  pub commas-unroll : (t : Token) (ts : List Token) → is_in (terminal_of t.kind) (Comma ∷ []) ≡ true → begins set ts ≡ true → commas_at r set (t ∷ ts) ≡ then_reads (r ts) (λ x mid. then_reads (commas_at r set mid) (λ xs rest. Ok (x ∷ xs, rest)))
  unfolding commas_at
  commas-unroll t ts c b =
      ap (λ s. cond s (cond (begins set ts) (then_reads (r ts) (λ x mid. then_reads (commas_in r set (length ts) mid) (λ xs rest. Ok (x ∷ xs, rest)))) (Ok ([], ts))) (Ok ([], t ∷ ts))) c
      ∙ ap (λ s. cond s (then_reads (r ts) (λ x mid. then_reads (commas_in r set (length ts) mid) (λ xs rest. Ok (x ∷ xs, rest)))) (Ok ([], ts))) b
      ∙ alike (r ts) _ _ (λ x e. let le : length x.1 < length ts = shorter ts x e in ap (λ s. then_reads s (λ xs rest. Ok (x.0 ∷ xs, rest))) (commas_enough (length ts) (length x.1) x.1 (omega arith) (omega arith)))

  pub several-stop : (ts : List Token) (s : Stop) → begins set ts ≡ true → r ts ≡ Err s → several_at r set ts ≡ Err s
  unfolding several_at
  several-stop [] s b e = absurd (cc)
  several-stop (t ∷ ts) s b e =
      ap (λ s. cond s (then_reads (r (t ∷ ts)) (λ x mid. then_reads (several_in r set (length ts) mid) (λ xs rest. Ok (x ∷ xs, rest)))) (Ok ([], t ∷ ts))) b
      ∙ ap (λ s. then_reads s (λ x mid. then_reads (several_in r set (length ts) mid) (λ xs rest. Ok (x ∷ xs, rest)))) e

  pub several-end : (ts : List Token) → begins set ts ≡ false → several_at r set ts ≡ Ok ([], ts)
  unfolding several_at
  several-end [] b = refl
  several-end (t ∷ ts) b = ap (λ s. cond s (then_reads (r (t ∷ ts)) (λ x mid. then_reads (several_in r set (length ts) mid) (λ xs rest. Ok (x ∷ xs, rest)))) (Ok ([], t ∷ ts))) b

pub shorter_at : {A : Type 0} (levels : ℕ) (g : Grammar A) → nullable g ≡ false → (ts : List Token) (x : A × List Token) → read (nested_at levels) g ts ≡ Ok x → length x.1 < length ts
shorter_at levels g some ts x e = subst (λ b. Taken b (length x.1) (length ts)) some (took (nested_at levels) (nested_shorter levels) g ts x e)

-- a level less
pub nested_at-suc : (levels less : ℕ) (n : Nest) (ts : List Token) → levels ≡ less + 1 → nested_at levels n ts ≡ read (nested_at less) (nest n) ts
nested_at-suc levels less n ts e = let s : levels ≡ suc less = omega arith in ap (λ k. nested_at k n ts) s
