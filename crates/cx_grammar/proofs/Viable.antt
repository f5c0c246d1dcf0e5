-- Where reading a grammar stops, what was read can be completed, and the token there decides.
use Rattle.std.proofs.Common.{◌≡◌, ℕ, zero, suc, ◌≤◌, ◌<◌, Bool, true, false, ◌&&◌, not, List, [], ◌∷◌, ◌++◌, length, Ok, Err, refl, sym, ap, subst, ◌∙◌, cond, arith, ◌⊎◌, inl, inr}
use Rattle.std.proofs.lemmas.Bool.{and_parts}
use Rattle.cx_ast.specs.declared.tokens.Token.{Token}
use Rattle.cx_grammar.specs.declared.terminals.Terminal.{Terminal}
use Rattle.cx_grammar.specs.declared.terminals.Terminal.TheVariants.{Comma, Not, OpenParen, CloseParen, OpenBrace, CloseBrace}
use Rattle.cx_grammar.specs.Terminals.{terminal_of, is_in, begins, peek_at}
use Rattle.cx_grammar.specs.Grammar.{Nest, Nested, Negation, Parens, Braces, Grammar, Empty, One, Pair, Choice, Several, Commas, Deeper, starts, nullable, goes_on, opening, Spelling, Spells, Several_of, Commas_of, IsComma}
use Rattle.cx_grammar.specs.Calyx.{nest, nested_at, spelled_within, unary, guard, statements, before}
use Rattle.cx_text.specs.declared.places.Place.{Place}
use Rattle.cx_ast.specs.PlainGuards.{PlainGuard}
use Rattle.cx_ast.specs.PlainGuards as guards
use Rattle.cx_ast.specs.PlainStatements.{statements_of}
use Rattle.cx_ast.specs.PlainStatements as plain
use Rattle.cx_grammar.specs.Parsing.{Commas_into, Leads, deep_at}
use Rattle.cx_grammar.specs.Reading.{Why, Unexpected, TooDeep, Reads, then_reads, one_at, several_at, commas_at, read, unexpected, too_deep, is_plain, disjoint}
use Rattle.cx_grammar.proofs.Known.{plain_nest, shallow_nest, is_shallow}
use Rattle.cx_grammar.proofs.Loops.{several-unroll, several-end, commas-none, commas-last, commas-unroll}
use Rattle.cx_grammar.proofs.Samples.{Sample, sample, nested_sample, one_sample}
use Rattle.cx_grammar.proofs.Shorter.{Taken, took, nested_shorter}
use Rattle.cx_grammar.proofs.Sound.{read_sound, nested_sound}
use Rattle.cx_grammar.proofs.Stays.{Completes, Goes, Stopped, Stays, peek_same, begins_same, both, Both, Either, both_stays, along_stays, then_same}
use Rattle.cx_text.proofs.BoolLaws.{from_not}

module _ {A : Type 0} (r : List Token → Reads A) (set : List Terminal) (W S : Spelling A) (D : List Token → Type 0)
    (shorter : (ts : List Token) (x : A × List Token) → r ts ≡ Ok x → length x.1 < length ts)
    (sound : (ts : List Token) (x : A) (rest : List Token) → r ts ≡ Ok (x, rest) → S ts x rest)
    (item : (ts : List Token) → Stays r W D ts (r ts)) where
  -- one after another
  abbrev pub Several_into : List Token → Type 0
  Several_into us = (mid : List Token) × (xs : List A) × Several_of S us xs mid × D mid

  none : Sample (Several_of W)
  none = record { tokens = []; value = []; free = λ more. refl }

  several_spells : (us : List Token) (z : List A) (rest : List Token) → ((mid : List Token) × (x : A) × (xs : List A) × W us x mid × Several_of W mid xs rest × ((x ∷ xs) ≡ z)) → Several_of W us z rest
  several_spells us z rest s = subst (λ z. Several_of W us z rest) s.5 (s.0, s.3, s.4)

  several_leads : (us : List Token) → (D us ⊎ ((mid : List Token) × (x : A) × S us x mid × Several_into mid)) → Several_into us
  several_leads us (inl d) = (us, [], refl, d)
  several_leads us (inr k) = (k.3.0, k.1 ∷ k.3.1, (k.0, k.2, k.3.2), k.3.3)

  several_test : (ts : List Token) → ((x : A) (mid : List Token) → r ts ≡ Ok (x, mid) → Stays (several_at r set) (Several_of W) Several_into mid (several_at r set mid)) → (b : Bool) → begins set ts ≡ b →
      Stays (several_at r set) (Several_of W) Several_into ts (several_at r set ts)
  several_test ts next false e = subst (Stays (several_at r set) (Several_of W) Several_into ts) (sym (several-end r set shorter ts e)) (record {
    used = [];
    whole = refl;
    local = λ more p. several-end r set shorter more (begins_same set more ts p ∙ e);
    free = λ more. refl;
  })
  several_test ts next true e =
      along_stays (λ xs. xs) (both (λ x xs. x ∷ xs) r (several_at r set) W S (Several_of W) D Several_into sound none) (several_at r set)
      (Both (λ x xs. x ∷ xs) r (several_at r set) W S (Several_of W) D Several_into sound none) (Several_of W)
      (Either (λ x xs. x ∷ xs) r (several_at r set) W S (Several_of W) D Several_into sound none) Several_into set true
      (λ us t. several-unroll r set shorter us t ∙ sym (then_same _)) several_spells several_leads ts e
      (both_stays (λ x xs. x ∷ xs) r (several_at r set) W S (Several_of W) D Several_into sound none ts (item ts) next)

  pub several_stays : (n : ℕ) (ts : List Token) → length ts ≤ n → Stays (several_at r set) (Several_of W) Several_into ts (several_at r set ts)
  several_stays zero ts le = several_test ts (λ x mid e. absurd (let less : length mid < length ts = shorter ts (x, mid) e in omega arith)) (begins set ts) refl
  several_stays (suc n) ts le = several_test ts (λ x mid e. several_stays n mid (let less : length mid < length ts = shorter ts (x, mid) e in omega arith)) (begins set ts) refl

  -- what follows a text in a list with commas
  abbrev pub Tail : Spelling (List A)
  Tail ts [] rest = (ts ≡ rest) ⊎ IsComma ts rest
  Tail ts (y ∷ ys) rest = (after : List Token) × IsComma ts after × (mid : List Token) × W after y mid × Tail mid ys rest

  abbrev pub Tail_into : List Token → Type 0
  Tail_into ts = (after : List Token) × (xs : List A) × IsComma ts after × Commas_into S D xs after

  pub no_tail : Sample Tail
  no_tail = record { tokens = []; value = []; free = λ more. inl refl }

  abbrev Shift : List Token → Reads (List A)
  Shift us = then_reads (r us) (λ x mid. then_reads (commas_at r set mid) (λ xs rest. Ok (x ∷ xs, rest)))

  abbrev Shifted : Spelling (List A)
  Shifted us z rest = (mid : List Token) × (x : A) × (xs : List A) × W us x mid × Tail mid xs rest × ((x ∷ xs) ≡ z)

  abbrev Shift_into : List Token → Type 0
  Shift_into us = D us ⊎ ((mid : List Token) × (x : A) × S us x mid × Tail_into mid)

  tailed : (ts after : List Token) → IsComma ts after → (z : List A) (rest : List Token) → Shifted after z rest → Tail ts z rest
  tailed ts after comma z rest s = subst (λ z. Tail ts z rest) s.5 (after, comma, s.0, s.3, s.4)

  tail_leads : (ts us : List Token) → IsComma ts us → Shift_into us → Tail_into ts
  tail_leads ts us comma (inl d) = (us, [], comma, d)
  tail_leads ts us comma (inr k) = (us, k.1 ∷ k.3.1, comma, (k.0, k.3.0, k.2, k.3.2, k.3.3))

  module _ (t : Token) (c : is_in (terminal_of t.kind) (Comma ∷ []) ≡ true) where
    shift_completes : (used : List Token) → Completes Shifted used → Completes Tail (t ∷ used)
    shift_completes used k = record { extra = k.extra; value = k.value; free = λ more. tailed (t ∷ (used ++ (k.extra ++ more))) (used ++ (k.extra ++ more)) (t, refl, c) k.value more (k.free more) }

    shift_goes : (why : Why) (used rest : List Token) → Goes Shifted Shift_into why used rest → Goes Tail Tail_into why (t ∷ used) rest
    shift_goes Unexpected used rest k = shift_completes used k
    shift_goes TooDeep used rest k = record {
      token = k.token;
      after = k.after;
      is = k.is;
      leads = tail_leads (t ∷ (used ++ (k.token ∷ []))) (used ++ (k.token ∷ [])) (t, refl, c) k.leads;
      goes = shift_completes (used ++ (k.token ∷ [])) k.goes;
    }

    shift_cases : (us : List Token) → begins set us ≡ true → (res : Reads (List A)) → Stays Shift Shifted Shift_into us res → Stays (commas_at r set) Tail Tail_into (t ∷ us) res
    shift_cases us e (Ok x) d = record {
      used = t ∷ d.used;
      whole = ap (λ s. t ∷ s) d.whole;
      local = λ more p. commas-unroll r set shorter t (d.used ++ more) c (begins_same set (d.used ++ more) us (peek_same d.used more x.1 p ∙ sym (ap peek_at d.whole)) ∙ e) ∙ d.local more p;
      free = λ more. tailed (t ∷ (d.used ++ more)) (d.used ++ more) (t, refl, c) x.0 more (d.free more);
    }
    shift_cases us e (Err s) k = record {
      used = t ∷ k.used;
      rest = k.rest;
      whole = ap (λ s. t ∷ s) k.whole;
      count = k.count;
      local = λ more p. commas-unroll r set shorter t (k.used ++ more) c (begins_same set (k.used ++ more) us (peek_same k.used more k.rest p ∙ sym (ap peek_at k.whole)) ∙ e) ∙ k.local more p;
      goes = shift_goes s.why k.used k.rest k.goes;
    }

    tail_test : (us : List Token) → ((x : A) (mid : List Token) → r us ≡ Ok (x, mid) → Stays (commas_at r set) Tail Tail_into mid (commas_at r set mid)) → (b : Bool) → begins set us ≡ b →
        Stays (commas_at r set) Tail Tail_into (t ∷ us) (commas_at r set (t ∷ us))
    tail_test us next false e = subst (Stays (commas_at r set) Tail Tail_into (t ∷ us)) (sym (commas-last r set shorter t us c e)) (record {
      used = t ∷ [];
      whole = refl;
      local = λ more p. commas-last r set shorter t more c (begins_same set more us p ∙ e);
      free = λ more. inr (t, refl, c);
    })
    tail_test us next true e = subst (Stays (commas_at r set) Tail Tail_into (t ∷ us)) (sym (commas-unroll r set shorter t us c e))
        (shift_cases us e (Shift us) (both_stays (λ x xs. x ∷ xs) r (commas_at r set) W S Tail D Tail_into sound no_tail us (item us) next))

  tail_end : (ts : List Token) → begins (Comma ∷ []) ts ≡ false → Stays (commas_at r set) Tail Tail_into ts (commas_at r set ts)
  tail_end ts e = subst (Stays (commas_at r set) Tail Tail_into ts) (sym (commas-none r set shorter ts e)) (record {
    used = [];
    whole = refl;
    local = λ more p. commas-none r set shorter more (begins_same (Comma ∷ []) more ts p ∙ e);
    free = λ more. inl refl;
  })

  tail_first : (t : Token) (us : List Token) → ((x : A) (mid : List Token) → r us ≡ Ok (x, mid) → Stays (commas_at r set) Tail Tail_into mid (commas_at r set mid)) → (b : Bool) → is_in (terminal_of t.kind) (Comma ∷ []) ≡ b →
      Stays (commas_at r set) Tail Tail_into (t ∷ us) (commas_at r set (t ∷ us))
  tail_first t us next false e = tail_end (t ∷ us) e
  tail_first t us next true e = tail_test t e us next (begins set us) refl

  pub tail_stays : (n : ℕ) (ts : List Token) → length ts ≤ n → Stays (commas_at r set) Tail Tail_into ts (commas_at r set ts)
  tail_stays n [] le = tail_end [] refl
  tail_stays zero (t ∷ us) le = absurd (omega arith)
  tail_stays (suc n) (t ∷ us) le = tail_first t us (λ x mid e. tail_stays n mid (let less : length mid < length us = shorter us (x, mid) e in omega arith)) (is_in (terminal_of t.kind) (Comma ∷ [])) refl

  pub commas_from : (x : A) (ys : List A) (us mid rest : List Token) → W us x mid → Tail mid ys rest → Commas_of W x ys us rest
  commas_from x [] us mid rest w t = (mid, w, t)
  commas_from x (y ∷ ys) us mid rest w t = (mid, t.0, w, t.1, commas_from y ys t.0 t.2 rest t.3 t.4)

nothing : (ts : List Token) → begins [] ts ≡ false
nothing [] = refl
nothing (t ∷ ts) = refl

-- nothing is read
stuck : {A : Type 0} (r : List Token → Reads A) (W : Spelling A) (D : List Token → Type 0) → Sample W → (ts : List Token) → ((more : List Token) → peek_at more ≡ peek_at ts → r more ≡ Err (unexpected more)) → Stopped r W D ts Unexpected (length ts)
stuck r W D any ts local = record {
  used = [];
  rest = ts;
  whole = refl;
  count = refl;
  local = local;
  goes = record { extra = any.tokens; value = any.value; free = any.free };
}

pub one_fails : {A : Type 0} (set : List Terminal) (value : Token → A) (ts : List Token) → begins set ts ≡ false → one_at set value ts ≡ Err (unexpected ts)
one_fails set value [] e = refl
one_fails set value (t ∷ ts) e = ap (λ b. cond b (Ok (value t, ts)) (Err (unexpected (t ∷ ts)))) e

one_takes : {A : Type 0} (set : List Terminal) (value : Token → A) (t : Token) (ts : List Token) → is_in (terminal_of t.kind) set ≡ true → one_at set value (t ∷ ts) ≡ Ok (value t, ts)
one_takes set value t ts e = ap (λ b. cond b (Ok (value t, ts)) (Err (unexpected (t ∷ ts)))) e

one_test : {A : Type 0} (spelled : (n : Nest) → Spelling (Nested n)) (D : List Token → Type 0) (set : List Terminal) (value : Token → A) → Sample (Spells spelled (One set value)) → (t : Token) (ts : List Token) (b : Bool) → is_in (terminal_of t.kind) set ≡ b →
    Stays (one_at set value) (Spells spelled (One set value)) D (t ∷ ts) (one_at set value (t ∷ ts))
one_test spelled D set value any t ts false e = subst (Stays (one_at set value) (Spells spelled (One set value)) D (t ∷ ts)) (sym (one_fails set value (t ∷ ts) e))
    (stuck (one_at set value) (Spells spelled (One set value)) D any (t ∷ ts) (λ more p. one_fails set value more (begins_same set more (t ∷ ts) p ∙ e)))
one_test spelled D set value any t ts true e = subst (Stays (one_at set value) (Spells spelled (One set value)) D (t ∷ ts)) (sym (one_takes set value t ts e)) (record {
  used = t ∷ [];
  whole = refl;
  local = λ more p. one_takes set value t more e;
  free = λ more. (t, refl, e, refl);
})

module _ (nested : (n : Nest) → List Token → Reads (Nested n)) (S W : (n : Nest) → Spelling (Nested n)) (D : Nest → List Token → Type 0)
    (shorter : (n : Nest) (ts : List Token) (x : Nested n × List Token) → nested n ts ≡ Ok x → length x.1 < length ts)
    (sound : (n : Nest) (ts : List Token) (x : Nested n × List Token) → nested n ts ≡ Ok x → S n ts x.0 x.1)
    (any : (n : Nest) → Sample (W n))
    (stays : (n : Nest) (ts : List Token) → Stays (nested n) (W n) (D n) ts (nested n ts)) where
  any_of : {A : Type 0} (g : Grammar A) → is_plain g ≡ true → Sample (Spells W g)
  any_of g p = sample W true (λ _. any) g p refl

  sound_of : {A : Type 0} (g : Grammar A) (ts : List Token) (x : A) (rest : List Token) → read nested g ts ≡ Ok (x, rest) → Spells S g ts x rest
  sound_of g ts x rest e = read_sound nested S sound g ts (x, rest) e

  shorter_of : {A : Type 0} (g : Grammar A) → nullable g ≡ false → (ts : List Token) (x : A × List Token) → read nested g ts ≡ Ok x → length x.1 < length ts
  shorter_of g some ts x e = subst (λ b. Taken b (length x.1) (length ts)) some (took nested shorter g ts x e)

  choice_stays : {A : Type 0} (g h : Grammar A) (ts : List Token) → Stays (read nested g) (Spells W g) (Leads S D g) ts (read nested g ts) → Stays (read nested h) (Spells W h) (Leads S D h) ts (read nested h ts) →
      (b : Bool) → begins (starts g) ts ≡ b → Stays (read nested (Choice g h)) (Spells W (Choice g h)) (Leads S D (Choice g h)) ts (read nested (Choice g h) ts)
  choice_stays g h ts left right true e = along_stays (λ x. x) (read nested g) (read nested (Choice g h)) (Spells W g) (Spells W (Choice g h)) (Leads S D g) (Leads S D (Choice g h)) (starts g) true
      (λ us t. ap (λ b. cond b (read nested g us) (read nested h us)) t ∙ sym (then_same (read nested g us))) (λ us x rest s. inl s) (λ us d. inl d) ts e left
  choice_stays g h ts left right false e = along_stays (λ x. x) (read nested h) (read nested (Choice g h)) (Spells W h) (Spells W (Choice g h)) (Leads S D h) (Leads S D (Choice g h)) (starts g) false
      (λ us t. ap (λ b. cond b (read nested g us) (read nested h us)) t ∙ sym (then_same (read nested h us))) (λ us x rest s. inr s) (λ us d. inr d) ts e right

  module _ {A B : Type 0} (whole : List A → B) (g : Grammar A) (some : nullable g ≡ false) (item : (ts : List Token) → Stays (read nested g) (Spells W g) (Leads S D g) ts (read nested g ts)) where
    abbrev TailW : Spelling (List A)
    TailW = Tail (read nested g) (starts g) (Spells W g) (Spells S g) (Leads S D g) (shorter_of g some) (sound_of g) item

    abbrev TailD : List Token → Type 0
    TailD = Tail_into (read nested g) (starts g) (Spells W g) (Spells S g) (Leads S D g) (shorter_of g some) (sound_of g) item

    tail_any : Sample TailW
    tail_any = no_tail (read nested g) (starts g) (Spells W g) (Spells S g) (Leads S D g) (shorter_of g some) (sound_of g) item

    commas_spells : (us : List Token) (z : B) (rest : List Token) → ((mid : List Token) × (x : A) × (xs : List A) × Spells W g us x mid × TailW mid xs rest × (whole (x ∷ xs) ≡ z)) → Spells W (Commas whole g) us z rest
    commas_spells us z rest s = (s.1, s.2, commas_from (read nested g) (starts g) (Spells W g) (Spells S g) (Leads S D g) (shorter_of g some) (sound_of g) item s.1 s.2 us s.0 rest s.3 s.4, s.5)

    commas_leads : (us : List Token) → (Leads S D g us ⊎ ((mid : List Token) × (x : A) × Spells S g us x mid × TailD mid)) → Leads S D (Commas whole g) us
    commas_leads us (inl d) = ([], d)
    commas_leads us (inr k) = (k.1 ∷ k.3.1, (k.0, k.3.0, k.2, k.3.2, k.3.3))

    commas_stays : (ts : List Token) → Stays (read nested (Commas whole g)) (Spells W (Commas whole g)) (Leads S D (Commas whole g)) ts (read nested (Commas whole g) ts)
    commas_stays ts =
        along_stays (λ x. x) (both (λ x xs. whole (x ∷ xs)) (read nested g) (commas_at (read nested g) (starts g)) (Spells W g) (Spells S g) TailW (Leads S D g) TailD (sound_of g) tail_any) (read nested (Commas whole g))
        (Both (λ x xs. whole (x ∷ xs)) (read nested g) (commas_at (read nested g) (starts g)) (Spells W g) (Spells S g) TailW (Leads S D g) TailD (sound_of g) tail_any) (Spells W (Commas whole g))
        (Either (λ x xs. whole (x ∷ xs)) (read nested g) (commas_at (read nested g) (starts g)) (Spells W g) (Spells S g) TailW (Leads S D g) TailD (sound_of g) tail_any) (Leads S D (Commas whole g)) [] false
        (λ us t. sym (then_same _)) commas_spells commas_leads ts (nothing ts)
        (both_stays (λ x xs. whole (x ∷ xs)) (read nested g) (commas_at (read nested g) (starts g)) (Spells W g) (Spells S g) TailW (Leads S D g) TailD (sound_of g) tail_any ts (item ts)
        (λ x mid e. tail_stays (read nested g) (starts g) (Spells W g) (Spells S g) (Leads S D g) (shorter_of g some) (sound_of g) item (length mid) mid (omega arith)))

  pub read_stays : {A : Type 0} (g : Grammar A) → is_plain g ≡ true → (ts : List Token) → Stays (read nested g) (Spells W g) (Leads S D g) ts (read nested g ts)
  read_stays (Empty v) p ts = record { used = []; whole = refl; local = λ more e. refl; free = λ more. (refl, refl) }
  read_stays (One set v) p [] = stuck (one_at set v) (Spells W (One set v)) (Leads S D (One set v)) (one_sample W set v p) [] (λ more e. one_fails set v more (begins_same set more [] e))
  read_stays (One set v) p (t ∷ ts) = one_test W (Leads S D (One set v)) set v (one_sample W set v p) t ts (is_in (terminal_of t.kind) set) refl
  read_stays (Pair join g h) p ts =
      let q = and_parts (is_plain g) (is_plain h && disjoint (goes_on g) (starts h)) p in
      let o = and_parts (is_plain h) (disjoint (goes_on g) (starts h)) q.1 in
      both_stays join (read nested g) (read nested h) (Spells W g) (Spells S g) (Spells W h) (Leads S D g) (Leads S D h) (sound_of g) (any_of h o.0) ts (read_stays g q.0 ts) (λ x mid e. read_stays h o.0 mid)
  read_stays (Choice g h) p ts =
      let q = and_parts (is_plain g) (is_plain h && (not (nullable g) && disjoint (starts g) (starts h))) p in
      let o = and_parts (is_plain h) (not (nullable g) && disjoint (starts g) (starts h)) q.1 in
      choice_stays g h ts (read_stays g q.0 ts) (read_stays h o.0 ts) (begins (starts g) ts) refl
  read_stays (Several whole g) p ts =
      let q = and_parts (is_plain g) (not (nullable g) && disjoint (goes_on g) (starts g)) p in
      let o = and_parts (not (nullable g)) (disjoint (goes_on g) (starts g)) q.1 in
      along_stays whole (several_at (read nested g) (starts g)) (read nested (Several whole g)) (Several_of (Spells W g)) (Spells W (Several whole g))
      (Several_into (read nested g) (starts g) (Spells W g) (Spells S g) (Leads S D g) (shorter_of g (from_not (nullable g) o.0)) (sound_of g) (read_stays g q.0)) (Leads S D (Several whole g)) [] false
      (λ us t. refl) (λ us xs rest s. (xs, s, refl)) (λ us d. d) ts (nothing ts)
      (several_stays (read nested g) (starts g) (Spells W g) (Spells S g) (Leads S D g) (shorter_of g (from_not (nullable g) o.0)) (sound_of g) (read_stays g q.0) (length ts) ts (omega arith))
  read_stays (Commas whole g) p ts =
      let q = and_parts (is_plain g) (not (nullable g) && disjoint (goes_on g) (Comma ∷ [])) p in
      let o = and_parts (not (nullable g)) (disjoint (goes_on g) (Comma ∷ [])) q.1 in
      let some = from_not (nullable g) o.0 in
      commas_stays whole g some (read_stays g q.0) ts
  read_stays (Deeper n) p ts = stays n ts

-- the first token of a part that nests
opened : {A C : Type 0} (spelled : (n : Nest) → Spelling (Nested n)) (set : List Terminal) (value : Token → A) {B : Type 0} (join : A → B → C) (h : Grammar B) → Sample (Spells spelled h) → (t : Token) → is_in (terminal_of t.kind) set ≡ true → Completes (Spells spelled (Pair join (One set value) h)) (t ∷ [])
opened spelled set value join h any t e = record { extra = any.tokens; value = join (value t) any.value; free = λ more. (any.tokens ++ more, value t, any.value, (t, refl, e, refl), any.free more, refl) }

rest_any : {A B C : Type 0} (spelled : (n : Nest) → Spelling (Nested n)) (set : List Terminal) (value : Token → A) (join : A → B → C) (h : Grammar B) → is_plain (Pair join (One set value) h) ≡ true → is_shallow (Pair join (One set value) h) ≡ true → Sample (Spells spelled h)
rest_any spelled set value join h p s =
    let q = and_parts (is_plain (One set value)) (is_plain h && disjoint [] (starts h)) p in
    let o = and_parts (is_plain h) (disjoint [] (starts h)) q.1 in
    sample spelled false (λ e. absurd (cc)) h o.0 s

first_opened : {A B C : Type 0} (set : List Terminal) (value : Token → A) (join : A → B → C) (h : Grammar B) → is_plain (Pair join (One set value) h) ≡ true → is_shallow (Pair join (One set value) h) ≡ true → (t : Token) → is_in (terminal_of t.kind) set ≡ true →
    Completes (Spells (spelled_within 0) (Pair join (One set value) h)) (t ∷ [])
first_opened set value join h p s t e = opened (spelled_within 0) set value join h (rest_any (spelled_within 0) set value join h p s) t e

nest_opened : (n : Nest) (t : Token) → is_in (terminal_of t.kind) (opening n ∷ []) ≡ true → Completes (spelled_within 1 n) (t ∷ [])
unfolding nest
nest_opened Negation t e = first_opened (Not ∷ []) (λ token. token.place) (λ (_ : Place) g. guards.Not g) unary (plain_nest Negation) (shallow_nest Negation) t e
nest_opened Parens t e = first_opened (OpenParen ∷ []) (λ token. token.place) (λ (_ : Place) (g : PlainGuard). g) (before guard CloseParen) (plain_nest Parens) (shallow_nest Parens) t e
nest_opened Braces t e = first_opened (OpenBrace ∷ []) (λ token. token.place) (λ place ss. plain.Braces (statements_of ss) place) (before statements CloseBrace) (plain_nest Braces) (shallow_nest Braces) t e

zero_test : (n : Nest) (ts : List Token) (b : Bool) → begins (opening n ∷ []) ts ≡ b → Stays (nested_at 0 n) (spelled_within 1 n) (deep_at 0 n) ts (nested_at 0 n ts)
zero_test n ts false e = subst (Stays (nested_at 0 n) (spelled_within 1 n) (deep_at 0 n) ts) (sym (ap (λ b. cond b (Err (too_deep ts)) (Err (unexpected ts))) e))
    (stuck (nested_at 0 n) (spelled_within 1 n) (deep_at 0 n) (nested_sample 0 n) ts (λ more p. ap (λ b. cond b (Err (too_deep more)) (Err (unexpected more))) (begins_same (opening n ∷ []) more ts p ∙ e)))
zero_test n [] true e = absurd (cc)
zero_test n (t ∷ ts) true e = subst (Stays (nested_at 0 n) (spelled_within 1 n) (deep_at 0 n) (t ∷ ts)) (sym (ap (λ b. cond b (Err (too_deep (t ∷ ts))) (Err (unexpected (t ∷ ts)))) e)) (record {
  used = [];
  rest = t ∷ ts;
  whole = refl;
  count = refl;
  local = λ more p. ap (λ b. cond b (Err (too_deep more)) (Err (unexpected more))) (begins_same (opening n ∷ []) more (t ∷ ts) p ∙ e);
  goes = record { token = t; after = ts; is = refl; leads = (t, refl, e); goes = nest_opened n t e };
})

pub nested_stays : (levels : ℕ) (n : Nest) (ts : List Token) → Stays (nested_at levels n) (spelled_within (suc levels) n) (deep_at levels n) ts (nested_at levels n ts)
nested_stays zero n ts = zero_test n ts (begins (opening n ∷ []) ts) refl
nested_stays (suc levels) n ts = read_stays (nested_at levels) (spelled_within levels) (spelled_within (suc levels)) (deep_at levels) (nested_shorter levels) (nested_sound levels) (nested_sample levels) (nested_stays levels) (nest n) (plain_nest n) ts
