-- What is read is spelled so.
use Rattle.std.proofs.Common.{◌≡◌, ℕ, zero, suc, List, [], ◌∷◌, length, Ok, Err, refl, subst, inl, inr, ⊎_elim}
use Rattle.cx_ast.specs.declared.tokens.Token.{Token}
use Rattle.cx_grammar.specs.declared.terminals.Terminal.{Terminal}
use Rattle.cx_grammar.specs.declared.terminals.Terminal.TheVariants.{Comma}
use Rattle.cx_grammar.specs.Terminals.{terminal_of, is_in, begins}
use Rattle.cx_grammar.specs.Grammar.{Nest, Nested, Grammar, Empty, One, Pair, Choice, Several, Commas, Deeper, starts, opening, Spelling, Spells, Several_of, Commas_of}
use Rattle.cx_grammar.specs.Calyx.{nest, nested_at, spelled_within}
use Rattle.cx_grammar.specs.Reading.{Reads, several_in, several_at, commas_in, commas_at, read, unexpected, too_deep}
use Rattle.cx_grammar.proofs.Shorter.{then_ok, ok_same, which}

module _ {A : Type 0} (r : List Token → Reads A) (set : List Terminal) (spelled : Spelling A) (sound : (ts : List Token) (x : A × List Token) → r ts ≡ Ok x → spelled ts x.0 x.1) where
  several_sound : (n : ℕ) (ts : List Token) (x : List A × List Token) → several_in r set n ts ≡ Ok x → Several_of spelled ts x.0 x.1
  several_sound zero ts x e = subst (λ (p : List A × List Token). Several_of spelled ts p.0 p.1) (ok_same e) refl
  several_sound (suc n) ts x e = ⊎_elim
      (λ h. let (a, ea, ra) = then_ok (r ts) _ x h.1 in
      let (b, eb, rb) = then_ok (several_in r set n a.1) _ x ra in
      subst (λ (p : List A × List Token). Several_of spelled ts p.0 p.1) (ok_same rb) (a.1, sound ts a ea, several_sound n a.1 b eb))
      (λ h. subst (λ (p : List A × List Token). Several_of spelled ts p.0 p.1) (ok_same h.1) refl)
      (which (begins set ts) _ (Ok ([], ts)) (Ok x) e)

  commas_sound : (n : ℕ) (ts : List Token) (first : A) (mid : List Token) (x : List A × List Token) → spelled ts first mid → commas_in r set n mid ≡ Ok x → Commas_of spelled first x.0 ts x.1
  commas_sound zero ts first mid x s e = subst (λ (p : List A × List Token). Commas_of spelled first p.0 ts p.1) (ok_same e) (mid, s, inl refl)
  commas_sound (suc n) ts first [] x s e = subst (λ (p : List A × List Token). Commas_of spelled first p.0 ts p.1) (ok_same e) ([], s, inl refl)
  commas_sound (suc n) ts first (t ∷ mid) x s e = ⊎_elim
      (λ h. ⊎_elim
      (λ k. let (a, ea, ra) = then_ok (r mid) _ x k.1 in
      let (b, eb, rb) = then_ok (commas_in r set n a.1) _ x ra in
      subst (λ (p : List A × List Token). Commas_of spelled first p.0 ts p.1) (ok_same rb) (t ∷ mid, mid, s, (t, refl, h.0), commas_sound n mid a.0 a.1 b (sound mid a ea) eb))
      (λ k. subst (λ (p : List A × List Token). Commas_of spelled first p.0 ts p.1) (ok_same k.1) (t ∷ mid, s, inr (t, refl, h.0)))
      (which (begins set mid) _ (Ok ([], mid)) (Ok x) h.1))
      (λ h. subst (λ (p : List A × List Token). Commas_of spelled first p.0 ts p.1) (ok_same h.1) (t ∷ mid, s, inl refl))
      (which (is_in (terminal_of t.kind) (Comma ∷ [])) _ (Ok ([], t ∷ mid)) (Ok x) e)

module _ (nested : (n : Nest) → List Token → Reads (Nested n)) (spelled : (n : Nest) → Spelling (Nested n)) (sound : (n : Nest) (ts : List Token) (x : Nested n × List Token) → nested n ts ≡ Ok x → spelled n ts x.0 x.1) where
  pub read_sound : {A : Type 0} (g : Grammar A) (ts : List Token) (x : A × List Token) → read nested g ts ≡ Ok x → Spells spelled g ts x.0 x.1
  unfolding several_at commas_at
  read_sound {A = A} (Empty v) ts x e = subst (λ (p : A × List Token). Spells spelled (Empty v) ts p.0 p.1) (ok_same e) (refl, refl)
  read_sound (One set value) [] x e = absurd (cc)
  read_sound {A = A} (One set value) (t ∷ ts) x e = ⊎_elim
      (λ h. subst (λ (p : A × List Token). Spells spelled (One set value) (t ∷ ts) p.0 p.1) (ok_same h.1) (t, refl, h.0, refl))
      (λ h. absurd (let f = h.1 in cc))
      (which (is_in (terminal_of t.kind) set) (Ok (value t, ts)) (Err (unexpected (t ∷ ts))) (Ok x) e)
  read_sound {A = C} (Pair join g h) ts x e =
      let (a, ea, ra) = then_ok (read nested g ts) _ x e in
      let (b, eb, rb) = then_ok (read nested h a.1) _ x ra in
      subst (λ (p : C × List Token). Spells spelled (Pair join g h) ts p.0 p.1) (ok_same rb) (a.1, a.0, b.0, read_sound g ts a ea, read_sound h a.1 b eb, refl)
  read_sound (Choice g h) ts x e = ⊎_elim
      (λ k. inl (read_sound g ts x k.1))
      (λ k. inr (read_sound h ts x k.1))
      (which (begins (starts g) ts) (read nested g ts) (read nested h ts) (Ok x) e)
  read_sound {A = B} (Several whole g) ts x e =
      let (a, ea, ra) = then_ok (several_at (read nested g) (starts g) ts) _ x e in
      subst (λ (p : B × List Token). Spells spelled (Several whole g) ts p.0 p.1) (ok_same ra) (a.0, several_sound (read nested g) (starts g) (Spells spelled g) (read_sound g) (length ts) ts a ea, refl)
  read_sound {A = B} (Commas whole g) ts x e =
      let (a, ea, ra) = then_ok (read nested g ts) _ x e in
      let (b, eb, rb) = then_ok (commas_at (read nested g) (starts g) a.1) _ x ra in
      subst (λ (p : B × List Token). Spells spelled (Commas whole g) ts p.0 p.1) (ok_same rb)
      (a.0, b.0, commas_sound (read nested g) (starts g) (Spells spelled g) (read_sound g) (length a.1) ts a.0 a.1 b (read_sound g ts a ea) eb, refl)
  read_sound (Deeper n) ts x e = sound n ts x e

-- a part that nests is read as it is spelled
pub nested_sound : (levels : ℕ) (n : Nest) (ts : List Token) (x : Nested n × List Token) → nested_at levels n ts ≡ Ok x → spelled_within levels n ts x.0 x.1
nested_sound zero n ts x e = ⊎_elim (λ h. absurd (let f = h.1 in cc)) (λ h. absurd (let f = h.1 in cc)) (which (begins (opening n ∷ []) ts) (Err (too_deep ts)) (Err (unexpected ts)) (Ok x) e)
nested_sound (suc levels) n ts x e = read_sound (nested_at levels) (spelled_within levels) (nested_sound levels) (nest n) ts x e
