-- What reading answers hangs on the tokens up to the one that it looks at last, and what is read up to there can be completed.
use Rattle.std.proofs.Common.{◌≡◌, ℕ, Bool, List, [], ◌∷◌, ◌++◌, length, Ok, Err, refl, sym, ap, subst, ◌∙◌, ◌⊎◌, inl, inr, append_assoc}
use Rattle.cx_ast.specs.declared.tokens.Token.{Token}
use Rattle.cx_grammar.specs.declared.terminals.Terminal.{Terminal}
use Rattle.cx_grammar.specs.Terminals.{is_next, begins, peek_at}
use Rattle.cx_grammar.specs.Grammar.{Spelling}
use Rattle.cx_grammar.specs.Reading.{Why, Unexpected, TooDeep, Reads, then_reads}
use Rattle.cx_grammar.proofs.Samples.{Sample}

-- what is read can be completed
pub record Completes {A : Type 0} (W : Spelling A) (used : List Token) : Type 0 where
  pub extra : List Token
  pub value : A
  pub free : (more : List Token) → W (used ++ (extra ++ more)) value more

-- the tokens lead to the one that is too deep
pub record Deepens {A : Type 0} (W : Spelling A) (D : List Token → Type 0) (used rest : List Token) : Type 0 where
  pub token : Token
  pub after : List Token
  pub is : rest ≡ token ∷ after
  pub leads : D (used ++ (token ∷ []))
  pub goes : Completes W (used ++ (token ∷ []))

pub record Done {A : Type 0} (r : List Token → Reads A) (W : Spelling A) (ts : List Token) (x : A) (rest : List Token) : Type 0 where
  pub used : List Token
  pub whole : ts ≡ used ++ rest
  pub local : (more : List Token) → peek_at more ≡ peek_at rest → r (used ++ more) ≡ Ok (x, more)
  pub free : (more : List Token) → W (used ++ more) x more

abbrev pub Goes : {A : Type 0} → Spelling A → (List Token → Type 0) → Why → List Token → List Token → Type 0
Goes W D Unexpected used rest = Completes W used
Goes W D TooDeep used rest = Deepens W D used rest

pub record Stopped {A : Type 0} (r : List Token → Reads A) (W : Spelling A) (D : List Token → Type 0) (ts : List Token) (why : Why) (left : ℕ) : Type 0 where
  pub used : List Token
  pub rest : List Token
  pub whole : ts ≡ used ++ rest
  pub count : length rest ≡ left
  pub local : (more : List Token) → peek_at more ≡ peek_at rest → r (used ++ more) ≡ Err (record { why = why; left = length more })
  pub goes : Goes W D why used rest

abbrev pub Stays : {A : Type 0} → (List Token → Reads A) → Spelling A → (List Token → Type 0) → List Token → Reads A → Type 0
Stays r W D ts (Ok x) = Done r W ts x.0 x.1
Stays r W D ts (Err s) = Stopped r W D ts s.why s.left

pub peek_same : (used more rest : List Token) → peek_at more ≡ peek_at rest → peek_at (used ++ more) ≡ peek_at (used ++ rest)
peek_same [] more rest e = e
peek_same (u ∷ used) more rest e = refl

pub begins_same : (set : List Terminal) (us vs : List Token) → peek_at us ≡ peek_at vs → begins set us ≡ begins set vs
begins_same set us vs e = ap (λ p. is_next p set) e

-- one after the other
module _ {A B C : Type 0} (join : A → B → C) (r : List Token → Reads A) (q : List Token → Reads B) (W S : Spelling A) (V : Spelling B) (D E : List Token → Type 0)
    (sound : (ts : List Token) (x : A) (rest : List Token) → r ts ≡ Ok (x, rest) → S ts x rest) (any : Sample V) where
  abbrev pub both : List Token → Reads C
  both us = then_reads (r us) (λ x mid. then_reads (q mid) (λ y rest. Ok (join x y, rest)))

  abbrev pub Both : Spelling C
  Both us z rest = (mid : List Token) × (x : A) × (y : B) × W us x mid × V mid y rest × (join x y ≡ z)

  abbrev pub Either : List Token → Type 0
  Either us = D us ⊎ ((mid : List Token) × (x : A) × S us x mid × E mid)

  first_completes : (used : List Token) → Completes W used → Completes Both used
  first_completes used c = record {
    extra = c.extra ++ any.tokens;
    value = join c.value any.value;
    free = λ more. subst (λ us. Both (used ++ us) (join c.value any.value) more) (sym (append_assoc c.extra any.tokens more)) (any.tokens ++ more, c.value, any.value, c.free (any.tokens ++ more), any.free more, refl);
  }

  second_completes : (u : List Token) (x : A) → ((more : List Token) → W (u ++ more) x more) → (w : List Token) → Completes V w → Completes Both (u ++ w)
  second_completes u x free w c = record {
    extra = c.extra;
    value = join x c.value;
    free = λ more. subst (λ us. Both us (join x c.value) more) (sym (append_assoc u w (c.extra ++ more))) (w ++ (c.extra ++ more), x, c.value, free (w ++ (c.extra ++ more)), c.free more, refl);
  }

  first_goes : (why : Why) (used rest : List Token) → Goes W D why used rest → Goes Both Either why used rest
  first_goes Unexpected used rest c = first_completes used c
  first_goes TooDeep used rest d = record { token = d.token; after = d.after; is = d.is; leads = inl d.leads; goes = first_completes (used ++ (d.token ∷ [])) d.goes }

  second_goes : (why : Why) (ts : List Token) (x : A) (mid : List Token) (d : Done r W ts x mid) (used rest : List Token) → mid ≡ used ++ rest → Goes V E why used rest → Goes Both Either why (d.used ++ used) rest
  second_goes Unexpected ts x mid d used rest whole c = second_completes d.used x d.free used c
  second_goes TooDeep ts x mid d used rest whole k =
      let w = used ++ (k.token ∷ []) in
      let same : peek_at w ≡ peek_at mid = peek_same used (k.token ∷ []) rest (sym (ap peek_at k.is)) ∙ sym (ap peek_at whole) in
      record {
        token = k.token;
        after = k.after;
        is = k.is;
        leads = subst Either (sym (append_assoc d.used used (k.token ∷ []))) (inr (w, x, sound (d.used ++ w) x w (d.local w same), k.leads));
        goes = subst (Completes Both) (sym (append_assoc d.used used (k.token ∷ []))) (second_completes d.used x d.free w k.goes);
      }

  second_stays : (ts : List Token) (x : A) (mid : List Token) → Done r W ts x mid → (res : Reads B) → Stays q V E mid res → Stays both Both Either ts (then_reads res (λ y rest. Ok (join x y, rest)))
  second_stays ts x mid d (Ok y) k = record {
    used = d.used ++ k.used;
    whole = d.whole ∙ ap (λ s. d.used ++ s) k.whole ∙ sym (append_assoc d.used k.used y.1);
    local = λ more e.
        ap both (append_assoc d.used k.used more)
        ∙ ap (λ s. then_reads s (λ x mid. then_reads (q mid) (λ y rest. Ok (join x y, rest)))) (d.local (k.used ++ more) (peek_same k.used more y.1 e ∙ sym (ap peek_at k.whole)))
        ∙ ap (λ s. then_reads s (λ y rest. Ok (join x y, rest))) (k.local more e);
    free = λ more. subst (λ us. Both us (join x y.0) more) (sym (append_assoc d.used k.used more)) (k.used ++ more, x, y.0, d.free (k.used ++ more), k.free more, refl);
  }
  second_stays ts x mid d (Err s) k = record {
    used = d.used ++ k.used;
    rest = k.rest;
    whole = d.whole ∙ ap (λ s. d.used ++ s) k.whole ∙ sym (append_assoc d.used k.used k.rest);
    count = k.count;
    local = λ more e.
        ap both (append_assoc d.used k.used more)
        ∙ ap (λ s. then_reads s (λ x mid. then_reads (q mid) (λ y rest. Ok (join x y, rest)))) (d.local (k.used ++ more) (peek_same k.used more k.rest e ∙ sym (ap peek_at k.whole)))
        ∙ ap (λ s. then_reads s (λ y rest. Ok (join x y, rest))) (k.local more e);
    goes = second_goes s.why ts x mid d k.used k.rest k.whole k.goes;
  }

  both_cases : (ts : List Token) (res : Reads A) → Stays r W D ts res → ((x : A) (mid : List Token) → res ≡ Ok (x, mid) → Stays q V E mid (q mid)) → Stays both Both Either ts (then_reads res (λ x mid. then_reads (q mid) (λ y rest. Ok (join x y, rest))))
  both_cases ts (Ok x) d second = second_stays ts x.0 x.1 d (q x.1) (second x.0 x.1 refl)
  both_cases ts (Err s) k second = record {
    used = k.used;
    rest = k.rest;
    whole = k.whole;
    count = k.count;
    local = λ more e. ap (λ s. then_reads s (λ x mid. then_reads (q mid) (λ y rest. Ok (join x y, rest)))) (k.local more e);
    goes = first_goes s.why k.used k.rest k.goes;
  }

  pub both_stays : (ts : List Token) → Stays r W D ts (r ts) → ((x : A) (mid : List Token) → r ts ≡ Ok (x, mid) → Stays q V E mid (q mid)) → Stays both Both Either ts (both ts)
  both_stays ts first second = both_cases ts (r ts) first second

-- the same reading in other words, behind a test of the next token
module _ {A B : Type 0} (f : A → B) (r : List Token → Reads A) (q : List Token → Reads B) (W : Spelling A) (V : Spelling B) (D E : List Token → Type 0)
    (set : List Terminal) (b : Bool)
    (agree : (us : List Token) → begins set us ≡ b → q us ≡ then_reads (r us) (λ x rest. Ok (f x, rest)))
    (spells : (us : List Token) (x : A) (rest : List Token) → W us x rest → V us (f x) rest)
    (leads : (us : List Token) → D us → E us) where
  along_completes : (used : List Token) → Completes W used → Completes V used
  along_completes used c = record { extra = c.extra; value = f c.value; free = λ more. spells (used ++ (c.extra ++ more)) c.value more (c.free more) }

  along_goes : (why : Why) (used rest : List Token) → Goes W D why used rest → Goes V E why used rest
  along_goes Unexpected used rest c = along_completes used c
  along_goes TooDeep used rest d = record { token = d.token; after = d.after; is = d.is; leads = leads (used ++ (d.token ∷ [])) d.leads; goes = along_completes (used ++ (d.token ∷ [])) d.goes }

  along_cases : (ts : List Token) → begins set ts ≡ b → (res : Reads A) → Stays r W D ts res → Stays q V E ts (then_reads res (λ x rest. Ok (f x, rest)))
  along_cases ts t (Ok x) d = record {
    used = d.used;
    whole = d.whole;
    local = λ more e. agree (d.used ++ more) (begins_same set (d.used ++ more) ts (peek_same d.used more x.1 e ∙ sym (ap peek_at d.whole)) ∙ t) ∙ ap (λ s. then_reads s (λ x rest. Ok (f x, rest))) (d.local more e);
    free = λ more. spells (d.used ++ more) x.0 more (d.free more);
  }
  along_cases ts t (Err s) k = record {
    used = k.used;
    rest = k.rest;
    whole = k.whole;
    count = k.count;
    local = λ more e. agree (k.used ++ more) (begins_same set (k.used ++ more) ts (peek_same k.used more k.rest e ∙ sym (ap peek_at k.whole)) ∙ t) ∙ ap (λ s. then_reads s (λ x rest. Ok (f x, rest))) (k.local more e);
    goes = along_goes s.why k.used k.rest k.goes;
  }

  pub along_stays : (ts : List Token) → begins set ts ≡ b → Stays r W D ts (r ts) → Stays q V E ts (q ts)
  along_stays ts t s = subst (Stays q V E ts) (sym (agree ts t)) (along_cases ts t (r ts) s)

pub then_same : {A : Type 0} (r : Reads A) → then_reads r (λ x rest. Ok (x, rest)) ≡ r
then_same (Ok x) = refl
then_same (Err s) = refl
