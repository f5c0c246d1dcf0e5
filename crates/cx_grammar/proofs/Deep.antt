-- Tokens that lead to one that begins a level too many stop reading there, whatever follows.
use Rattle.std.proofs.Common.{◌≡◌, ℕ, zero, suc, ◌<◌, Bool, true, false, ◌&&◌, not, List, [], ◌∷◌, ◌++◌, length, Ok, Err, sym, ap, subst, ◌∙◌, cond, inl, inr, ⊎_elim}
use Rattle.std.proofs.lemmas.Bool.{and_parts}
use Rattle.cx_ast.specs.declared.tokens.Token.{Token}
use Rattle.cx_grammar.specs.declared.terminals.Terminal.{Terminal}
use Rattle.cx_grammar.specs.declared.terminals.Terminal.TheVariants.{Comma}
use Rattle.cx_grammar.specs.Terminals.{begins}
use Rattle.cx_grammar.specs.Grammar.{Nest, Nested, Grammar, Empty, One, Pair, Choice, Several, Commas, Deeper, starts, nullable, opening, goes_on, nest_goes_on, Spelling, Spells, Several_of, Commas_of, IsComma}
use Rattle.cx_grammar.specs.Calyx.{nest, nested_at, spelled_within, file}
use Rattle.cx_grammar.specs.Parsing.{Commas_into, Leads, deep_at, IsTooDeep}
use Rattle.cx_grammar.specs.Reading.{TooDeep, Stop, Reads, then_reads, several_at, commas_at, read, too_deep, unexpected, disjoint, is_plain}
use Rattle.cx_grammar.proofs.Shorter.{Taken, took, nested_shorter}
use Rattle.cx_grammar.proofs.Known.{plain_nest, starts_nest, plain_file}
use Rattle.cx_grammar.proofs.Loops.{several-unroll, commas-unroll}
use Rattle.cx_grammar.proofs.Complete.{apart_back, begins_more, begins_other, first, first_some, first_pair, read_complete, nested_opens, nested_complete}
use Rattle.cx_text.proofs.BoolLaws.{and_false, from_not}

-- texts are spelled so whatever follows
several_more : {A : Type 0} (spelled : Spelling A) (more : List Token) → ((ts : List Token) (x : A) (rest : List Token) → spelled ts x rest → spelled (ts ++ more) x (rest ++ more)) →
    (xs : List A) (ts rest : List Token) → Several_of spelled ts xs rest → Several_of spelled (ts ++ more) xs (rest ++ more)
several_more spelled more grow [] ts rest s = ap (λ us. us ++ more) s
several_more spelled more grow (x ∷ xs) ts rest s = (s.0 ++ more, grow ts x s.0 s.1, several_more spelled more grow xs s.0 rest s.2)

comma_more : (more ts rest : List Token) → IsComma ts rest → IsComma (ts ++ more) (rest ++ more)
comma_more more ts rest k = (k.0, ap (λ us. us ++ more) k.1, k.2)

commas_more : {A : Type 0} (spelled : Spelling A) (more : List Token) → ((ts : List Token) (x : A) (rest : List Token) → spelled ts x rest → spelled (ts ++ more) x (rest ++ more)) →
    (ys : List A) (x : A) (ts rest : List Token) → Commas_of spelled x ys ts rest → Commas_of spelled x ys (ts ++ more) (rest ++ more)
commas_more spelled more grow [] x ts rest s = (s.0 ++ more, grow ts x s.0 s.1, ⊎_elim (λ same. inl (ap (λ us. us ++ more) same)) (λ comma. inr (comma_more more s.0 rest comma)) s.2)
commas_more spelled more grow (y ∷ ys) x ts rest s = (s.0 ++ more, s.1 ++ more, grow ts x s.0 s.2, comma_more more s.0 s.1 s.3, commas_more spelled more grow ys y s.1 rest s.4)

module _ (spelled : (n : Nest) → Spelling (Nested n)) (more : List Token)
    (grow : (n : Nest) (ts : List Token) (x : Nested n) (rest : List Token) → spelled n ts x rest → spelled n (ts ++ more) x (rest ++ more)) where
  pub spells_more : {A : Type 0} (g : Grammar A) (ts : List Token) (x : A) (rest : List Token) → Spells spelled g ts x rest → Spells spelled g (ts ++ more) x (rest ++ more)
  spells_more (Empty v) ts x rest s = (ap (λ us. us ++ more) s.0, s.1)
  spells_more (One set value) ts x rest s = (s.0, ap (λ us. us ++ more) s.1, s.2, s.3)
  spells_more (Pair join g h) ts x rest s = (s.0 ++ more, s.1, s.2, spells_more g ts s.1 s.0 s.3, spells_more h s.0 s.2 rest s.4, s.5)
  spells_more (Choice g h) ts x rest (inl s) = inl (spells_more g ts x rest s)
  spells_more (Choice g h) ts x rest (inr s) = inr (spells_more h ts x rest s)
  spells_more (Several whole g) ts x rest s = (s.0, several_more (Spells spelled g) more (spells_more g) s.0 ts rest s.1, s.2)
  spells_more (Commas whole g) ts x rest s = (s.0, s.1, commas_more (Spells spelled g) more (spells_more g) s.1 s.0 ts rest s.2, s.3)
  spells_more (Deeper n) ts x rest s = grow n ts x rest s

pub nested_more : (levels : ℕ) (more : List Token) (n : Nest) (ts : List Token) (x : Nested n) (rest : List Token) → spelled_within levels n ts x rest → spelled_within levels n (ts ++ more) x (rest ++ more)
nested_more zero more n ts x rest s = absurd s
nested_more (suc levels) more n ts x rest s = spells_more (spelled_within levels) more (nested_more levels more) (nest n) ts x rest s

-- the next token is the same
begins_front : (set : List Terminal) (ts more : List Token) → begins set ts ≡ true → begins set (ts ++ more) ≡ true
begins_front set [] more e = absurd (cc)
begins_front set (t ∷ ts) more e = e

starts_first : (a : Bool) (us vs : List Terminal) (ts : List Token) → begins us ts ≡ true → begins (cond a (us ++ vs) us) ts ≡ true
starts_first true us vs ts e = begins_more us vs ts e
starts_first false us vs ts e = e

-- reading stops at the last token before these
abbrev pub last_stop : List Token → Stop
last_stop more = record { why = TooDeep; left = suc (length more) }

-- one after another, and then to the level too many
module _ {A : Type 0} (set : List Terminal) (spelled : Spelling A) (deep : List Token → Type 0)
    (opens : (ts : List Token) (x : A) (rest : List Token) → spelled ts x rest → begins set ts ≡ true)
    (deep_opens : (ts : List Token) → deep ts → begins set ts ≡ true) where
  several_opens : (xs : List A) (ts mid : List Token) → Several_of spelled ts xs mid → deep mid → begins set ts ≡ true
  several_opens [] ts mid s d = subst (λ us. begins set us ≡ true) (sym s) (deep_opens mid d)
  several_opens (x ∷ xs) ts mid s d = opens ts x s.0 s.1

  into_opens : (xs : List A) (ts : List Token) → Commas_into spelled deep xs ts → begins set ts ≡ true
  into_opens [] ts d = deep_opens ts d
  into_opens (x ∷ xs) ts d = opens ts x d.0 d.2

  module _ (r : List Token → Reads A) (goes : List Terminal) (more : List Token)
      (shorter : (ts : List Token) (x : A × List Token) → r ts ≡ Ok x → length x.1 < length ts)
      (item : (ts : List Token) (x : A) (rest : List Token) → spelled ts x rest → begins goes (rest ++ more) ≡ false → r (ts ++ more) ≡ Ok (x, rest ++ more))
      (stops : (ts : List Token) → deep ts → r (ts ++ more) ≡ Err (last_stop more)) where
    several_stops : disjoint goes set ≡ true → (xs : List A) (ts mid : List Token) → Several_of spelled ts xs mid → deep mid → several_at r set (ts ++ more) ≡ Err (last_stop more)
    several_stops apart [] ts mid s d =
        ap (λ us. several_at r set (us ++ more)) s ∙ several-unroll r set shorter (mid ++ more) (begins_front set mid more (deep_opens mid d))
        ∙ ap (λ a. then_reads a (λ x mid. then_reads (several_at r set mid) (λ xs rest. Ok (x ∷ xs, rest)))) (stops mid d)
    several_stops apart (x ∷ xs) ts mid s d =
        several-unroll r set shorter (ts ++ more) (begins_front set ts more (opens ts x s.0 s.1))
        ∙ ap (λ a. then_reads a (λ x mid. then_reads (several_at r set mid) (λ xs rest. Ok (x ∷ xs, rest))))
        (item ts x s.0 s.1 (apart_back goes set (s.0 ++ more) apart (begins_front set s.0 more (several_opens xs s.0 mid s.2 d))))
        ∙ ap (λ a. then_reads a (λ xs rest. Ok (x ∷ xs, rest))) (several_stops apart xs s.0 mid s.2 d)

    comma_next : (ts after : List Token) → IsComma ts after → begins (Comma ∷ []) (ts ++ more) ≡ true
    comma_next ts after k = subst (λ us. begins (Comma ∷ []) (us ++ more) ≡ true) (sym k.1) k.2

    into_stops : disjoint goes (Comma ∷ []) ≡ true → {C : Type 0} (join : A → List A → C) (xs : List A) (ts : List Token) → Commas_into spelled deep xs ts →
        then_reads (r (ts ++ more)) (λ x mid. then_reads (commas_at r set mid) (λ xs rest. Ok (join x xs, rest))) ≡ Err (last_stop more)
    into_stops apart join [] ts d = ap (λ a. then_reads a (λ x mid. then_reads (commas_at r set mid) (λ xs rest. Ok (join x xs, rest)))) (stops ts d)
    into_stops apart {C = C} join (x ∷ xs) ts d =
        ap (λ a. then_reads a (λ x mid. then_reads (commas_at r set mid) (λ xs rest. Ok (join x xs, rest))))
        (item ts x d.0 d.2 (apart_back goes (Comma ∷ []) (d.0 ++ more) apart (comma_next d.0 d.1 d.3)))
        ∙ ap (λ a. then_reads a (λ xs rest. Ok (join x xs, rest)))
        (ap (λ us. commas_at r set (us ++ more)) d.3.1
        ∙ commas-unroll r set shorter d.3.0 (d.1 ++ more) d.3.2 (begins_front set d.1 more (into_opens xs d.1 d.4))
        ∙ into_stops apart {C = List A} (λ y ys. y ∷ ys) xs d.1 d.4)

module _ (nested : (n : Nest) → List Token → Reads (Nested n)) (shorter : (n : Nest) (ts : List Token) (x : Nested n × List Token) → nested n ts ≡ Ok x → length x.1 < length ts)
    (spelled : (n : Nest) → Spelling (Nested n))
    (opens : (n : Nest) (ts : List Token) (x : Nested n) (rest : List Token) → spelled n ts x rest → begins (opening n ∷ []) ts ≡ true)
    (complete : (n : Nest) (ts : List Token) (x : Nested n) (rest : List Token) → spelled n ts x rest → begins (nest_goes_on n) rest ≡ false → nested n ts ≡ Ok (x, rest))
    (deep : Nest → List Token → Type 0)
    (deep_opens : (n : Nest) (ts : List Token) → deep n ts → begins (opening n ∷ []) ts ≡ true) where
  opens_of : {A : Type 0} (g : Grammar A) → is_plain g ≡ true → nullable g ≡ false → (ts : List Token) (x : A) (rest : List Token) → Spells spelled g ts x rest → begins (starts g) ts ≡ true
  opens_of g p some ts x rest s = first_some (nullable g) (starts g) ts rest some (first nested shorter spelled opens complete g p ts x rest s)

  shorter_of : {A : Type 0} (g : Grammar A) → nullable g ≡ false → (ts : List Token) (x : A × List Token) → read nested g ts ≡ Ok x → length x.1 < length ts
  shorter_of g some ts x e = subst (λ b. Taken b (length x.1) (length ts)) some (took nested shorter g ts x e)

  -- what leads to the level too many begins as the grammar does
  pub leads_opens : {A : Type 0} (g : Grammar A) → is_plain g ≡ true → (ts : List Token) → Leads spelled deep g ts → begins (starts g) ts ≡ true
  leads_opens (Empty v) p ts d = absurd d
  leads_opens (One set value) p ts d = absurd d
  leads_opens (Pair join g h) p ts (inl d) =
      let q = and_parts (is_plain g) (is_plain h && disjoint (goes_on g) (starts h)) p in
      starts_first (nullable g) (starts g) (starts h) ts (leads_opens g q.0 ts d)
  leads_opens (Pair join g h) p ts (inr k) =
      let q = and_parts (is_plain g) (is_plain h && disjoint (goes_on g) (starts h)) p in
      let o = and_parts (is_plain h) (disjoint (goes_on g) (starts h)) q.1 in
      first_some (nullable g && false) (cond (nullable g) (starts g ++ starts h) (starts g)) ts k.0 (and_false (nullable g))
      (first_pair (nullable g) false (starts g) (starts h) ts k.0 k.0 (first nested shorter spelled opens complete g q.0 ts k.1 k.0 k.2) (inl (leads_opens h o.0 k.0 k.3)))
  leads_opens (Choice g h) p ts (inl d) =
      let q = and_parts (is_plain g) (is_plain h && (not (nullable g) && disjoint (starts g) (starts h))) p in
      begins_more (starts g) (starts h) ts (leads_opens g q.0 ts d)
  leads_opens (Choice g h) p ts (inr d) =
      let q = and_parts (is_plain g) (is_plain h && (not (nullable g) && disjoint (starts g) (starts h))) p in
      let o = and_parts (is_plain h) (not (nullable g) && disjoint (starts g) (starts h)) q.1 in
      begins_other (starts g) (starts h) ts (leads_opens h o.0 ts d)
  leads_opens (Several whole g) p ts d =
      let q = and_parts (is_plain g) (not (nullable g) && disjoint (goes_on g) (starts g)) p in
      let o = and_parts (not (nullable g)) (disjoint (goes_on g) (starts g)) q.1 in
      several_opens (starts g) (Spells spelled g) (Leads spelled deep g) (opens_of g q.0 (from_not (nullable g) o.0)) (leads_opens g q.0) d.1 ts d.0 d.2 d.3
  leads_opens (Commas whole g) p ts d =
      let q = and_parts (is_plain g) (not (nullable g) && disjoint (goes_on g) (Comma ∷ [])) p in
      let o = and_parts (not (nullable g)) (disjoint (goes_on g) (Comma ∷ [])) q.1 in
      into_opens (starts g) (Spells spelled g) (Leads spelled deep g) (opens_of g q.0 (from_not (nullable g) o.0)) (leads_opens g q.0) d.0 ts d.1
  leads_opens (Deeper n) p ts d = deep_opens n ts d

  module _ (more : List Token)
      (grow : (n : Nest) (ts : List Token) (x : Nested n) (rest : List Token) → spelled n ts x rest → spelled n (ts ++ more) x (rest ++ more))
      (deep_stops : (n : Nest) (ts : List Token) → deep n ts → nested n (ts ++ more) ≡ Err (last_stop more)) where
    item_of : {A : Type 0} (g : Grammar A) → is_plain g ≡ true → (ts : List Token) (x : A) (rest : List Token) → Spells spelled g ts x rest → begins (goes_on g) (rest ++ more) ≡ false → read nested g (ts ++ more) ≡ Ok (x, rest ++ more)
    item_of g p ts x rest s e = read_complete nested shorter spelled opens complete g p (ts ++ more) x (rest ++ more) (spells_more spelled more grow g ts x rest s) e

    pub leads_stops : {A : Type 0} (g : Grammar A) → is_plain g ≡ true → (ts : List Token) → Leads spelled deep g ts → read nested g (ts ++ more) ≡ Err (last_stop more)
    leads_stops (Empty v) p ts d = absurd d
    leads_stops (One set value) p ts d = absurd d
    leads_stops (Pair join g h) p ts (inl d) =
        let q = and_parts (is_plain g) (is_plain h && disjoint (goes_on g) (starts h)) p in
        ap (λ a. then_reads a (λ x mid. then_reads (read nested h mid) (λ y rest. Ok (join x y, rest)))) (leads_stops g q.0 ts d)
    leads_stops (Pair join g h) p ts (inr k) =
        let q = and_parts (is_plain g) (is_plain h && disjoint (goes_on g) (starts h)) p in
        let o = and_parts (is_plain h) (disjoint (goes_on g) (starts h)) q.1 in
        ap (λ a. then_reads a (λ x mid. then_reads (read nested h mid) (λ y rest. Ok (join x y, rest))))
        (item_of g q.0 ts k.1 k.0 k.2 (apart_back (goes_on g) (starts h) (k.0 ++ more) o.1 (begins_front (starts h) k.0 more (leads_opens h o.0 k.0 k.3))))
        ∙ ap (λ a. then_reads a (λ y rest. Ok (join k.1 y, rest))) (leads_stops h o.0 k.0 k.3)
    leads_stops (Choice g h) p ts (inl d) =
        let q = and_parts (is_plain g) (is_plain h && (not (nullable g) && disjoint (starts g) (starts h))) p in
        ap (λ b. cond b (read nested g (ts ++ more)) (read nested h (ts ++ more))) (begins_front (starts g) ts more (leads_opens g q.0 ts d))
        ∙ leads_stops g q.0 ts d
    leads_stops (Choice g h) p ts (inr d) =
        let q = and_parts (is_plain g) (is_plain h && (not (nullable g) && disjoint (starts g) (starts h))) p in
        let o = and_parts (is_plain h) (not (nullable g) && disjoint (starts g) (starts h)) q.1 in
        let m = and_parts (not (nullable g)) (disjoint (starts g) (starts h)) o.1 in
        ap (λ b. cond b (read nested g (ts ++ more)) (read nested h (ts ++ more))) (apart_back (starts g) (starts h) (ts ++ more) m.1 (begins_front (starts h) ts more (leads_opens h o.0 ts d)))
        ∙ leads_stops h o.0 ts d
    leads_stops (Several whole g) p ts d =
        let q = and_parts (is_plain g) (not (nullable g) && disjoint (goes_on g) (starts g)) p in
        let o = and_parts (not (nullable g)) (disjoint (goes_on g) (starts g)) q.1 in
        let some = from_not (nullable g) o.0 in
        ap (λ a. then_reads a (λ xs rest. Ok (whole xs, rest)))
        (several_stops (starts g) (Spells spelled g) (Leads spelled deep g) (opens_of g q.0 some) (leads_opens g q.0)
        (read nested g) (goes_on g) more (shorter_of g some) (item_of g q.0) (leads_stops g q.0) o.1 d.1 ts d.0 d.2 d.3)
    leads_stops (Commas whole g) p ts d =
        let q = and_parts (is_plain g) (not (nullable g) && disjoint (goes_on g) (Comma ∷ [])) p in
        let o = and_parts (not (nullable g)) (disjoint (goes_on g) (Comma ∷ [])) q.1 in
        let some = from_not (nullable g) o.0 in
        into_stops (starts g) (Spells spelled g) (Leads spelled deep g) (opens_of g q.0 some) (leads_opens g q.0)
        (read nested g) (goes_on g) more (shorter_of g some) (item_of g q.0) (leads_stops g q.0) o.1 (λ x xs. whole (x ∷ xs)) d.0 ts d.1
    leads_stops (Deeper n) p ts d = deep_stops n ts d

deep_at_opens : (levels : ℕ) (n : Nest) (ts : List Token) → deep_at levels n ts → begins (opening n ∷ []) ts ≡ true
deep_at_opens zero n ts d = d.2
deep_at_opens (suc levels) n ts d = subst (λ set. begins set ts ≡ true) (starts_nest n)
    (leads_opens (nested_at levels) (nested_shorter levels) (spelled_within levels) (nested_opens levels) (nested_complete levels) (deep_at levels) (deep_at_opens levels) (nest n) (plain_nest n) ts d)

deep_at_stops : (levels : ℕ) (more : List Token) (n : Nest) (ts : List Token) → deep_at levels n ts → nested_at levels n (ts ++ more) ≡ Err (last_stop more)
deep_at_stops zero more n ts d =
    ap (λ b. cond b (Err (too_deep (ts ++ more))) (Err (unexpected (ts ++ more)))) (begins_front (opening n ∷ []) ts more d.2)
    ∙ ap (λ us. Err (too_deep (us ++ more))) d.1
deep_at_stops (suc levels) more n ts d =
    leads_stops (nested_at levels) (nested_shorter levels) (spelled_within levels) (nested_opens levels) (nested_complete levels) (deep_at levels) (deep_at_opens levels) more (nested_more levels more) (deep_at_stops levels more) (nest n) (plain_nest n) ts d

-- where tokens are too deep, reading a file stops at the last of them
pub too_deep_stops : (ts more : List Token) → IsTooDeep ts → read (nested_at 64) file (ts ++ more) ≡ Err (last_stop more)
unfolding IsTooDeep
too_deep_stops ts more d =
    leads_stops (nested_at 64) (nested_shorter 64) (spelled_within 64) (nested_opens 64) (nested_complete 64) (deep_at 64) (deep_at_opens 64) more (nested_more 64 more) (deep_at_stops 64 more) file plain_file ts d
