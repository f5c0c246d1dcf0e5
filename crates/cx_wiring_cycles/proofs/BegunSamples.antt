-- The samples that a cycle of an island takes hang on the ports of the static ifs that begin in it, and on no others.
use Rattle.std.proofs.Common.{◌≡◌, ℕ, zero, suc, ◌+◌, ◌-◌, ◌%◌, ◌<◌, ◌≤◌, inl, not, nat_lt, nat_eq, Bool, true, false, if◌then◌else◌, List, [], Option, Some, None, option_map, option_and_then, refl, sym, ap, ◌∙◌, subst, arith}
use Rattle.std.proofs.lemmas.Bool.{lt-ltb, le-ltb, eq-eqb, ne_eqb}
use Rattle.cx_text.proofs.MemberLaws.{in_left, in_right}
use Rattle.cx_meaning.specs.declared.ports.PortRef.{PortRef}
use Rattle.cx_meaning.specs.Designs.{PlainComponent, PlainForm, Empty, Enable, Seq, Par, If, While, Repeat, StaticSeq, StaticPar, StaticIf, StaticRepeat, Timed, PlainStatement, Placed, PlainStatements, no_statements, a_statement}
use Rattle.cx_text.specs.Members.{In}
use Rattle.cx_meaning.specs.Islands.{length_of}
use Rattle.cx_laws.specs.Positions.{no_port, port_at}
use Rattle.cx_laws.specs.Samples.{Samples, form_ifs, ifs_of, ifs_in, form_by, statement_by, while_by, parts_by, arms_by, begun_by}
use Rattle.cx_control.specs.Sampling.{within_length, behind_length, where_so, taken, form_now, statement_now, parts_now, arms_now}
use Rattle.cx_text.proofs.OptionLaws.{some_is}

so_some : (b : Bool) (o : Option ℕ) (j : ℕ) → where_so b o ≡ Some j → (b ≡ true) × (o ≡ Some j)
so_some true o j e = (refl, e)
so_some false o j e = absurd cc

within_some : (len : ℕ) (o : Option ℕ) (j : ℕ) → option_and_then (within_length len) o ≡ Some j → (o ≡ Some j) × (nat_lt j len ≡ true)
within_some len None j e = absurd cc
within_some len (Some i) j e = by (nat_lt i len) refl e
  where
    by : (b : Bool) → nat_lt i len ≡ b → (if b then Some i else None) ≡ Some j → (Some i ≡ Some j) × (nat_lt j len ≡ true)
    by true f g = (g, ap (λ k. nat_lt k len) (sym (some_is i j g)) ∙ f)
    by false f g = absurd cc

behind_some : (len : ℕ) (o : Option ℕ) (j : ℕ) → option_and_then (behind_length len) o ≡ Some j → (i : ℕ) × (o ≡ Some i) × (nat_lt i len ≡ false) × (i - len ≡ j)
behind_some len None j e = absurd cc
behind_some len (Some i) j e = by (nat_lt i len) refl e
  where
    by : (b : Bool) → nat_lt i len ≡ b → (if b then None else Some (i - len)) ≡ Some j → (k : ℕ) × (◌≡◌ {A = Option ℕ} (Some i) (Some k)) × (nat_lt k len ≡ false) × (k - len ≡ j)
    by true f g = absurd cc
    by false f g = (i, refl, f, some_is (i - len) j g)

map_some : (p : ℕ) (o : Option ℕ) (j : ℕ) → option_map (λ k. k % p) o ≡ Some j → (i : ℕ) × (o ≡ Some i) × (i % p ≡ j)
map_some p None j e = absurd cc
map_some p (Some i) j e = (i, refl, some_is (i % p) j e)

only_then : {A : Type 0} (b : Bool) (xs ys : List A) (x : A) → In (if b then xs else []) x → In (if b then xs else ys) x
only_then true xs ys x i = i
only_then false xs ys x i = absurd i

pub in_then : {A : Type 0} (b : Bool) (xs : List A) (x : A) → In (if b then xs else []) x → In xs x
in_then true xs x i = i
in_then false xs x i = absurd i

module _ (part : PlainComponent) (kept : Samples) (one other : PortRef → Bool) (K : Samples) where
  -- a port is the same to both
  abbrev Same : PortRef → Type 0
  Same p = one p ≡ other p

  same_taken : (p : PortRef) (n : ℕ) (live : Option ℕ) → (live ≡ Some 0 → one p ≡ other p) → taken (one p) (kept n) live ≡ taken (other p) (kept n) live
  same_taken p n None h = refl
  same_taken p n (Some zero) h = h refl
  same_taken p n (Some (suc j)) h = refl

  while_in : (s : PlainStatement) (n j : ℕ) (p : PortRef) → In (while_by part K no_port port_at s n j) p → In (statement_by part K no_port port_at s n j) p
  while_in (Placed form place) n j p i = in_then (nat_lt j (length_of part (Placed form place))) (form_by part K no_port port_at form n j) p i

  while_first : (s : PlainStatement) (n j : ℕ) (ys : List PortRef) (p : PortRef) → In (while_by part K no_port port_at s n j) p → In (if nat_lt j (length_of part s) then statement_by part K no_port port_at s n j else ys) p
  while_first (Placed form place) n j ys p i = only_then (nat_lt j (length_of part (Placed form place))) (form_by part K no_port port_at form n j) ys p i

  mutual
    form_alike : (form : PlainForm) (n : ℕ) (live : Option ℕ) → ((m : ℕ) → n ≤ m → m < n + form_ifs form → K m ≡ form_now part other kept form n live m)
        → ((j : ℕ) → live ≡ Some j → (p : PortRef) → In (form_by part K no_port port_at form n j) p → one p ≡ other p) → (m : ℕ) → form_now part one kept form n live m ≡ form_now part other kept form n live m
    form_alike Empty n live agree ports m = refl
    form_alike (Enable g) n live agree ports m = refl
    form_alike (Seq parts) n live agree ports m = refl
    form_alike (Par arms) n live agree ports m = refl
    form_alike (If test comb a b) n live agree ports m = refl
    form_alike (While test comb a) n live agree ports m = refl
    form_alike (Repeat count a) n live agree ports m = refl
    form_alike (StaticSeq written parts) n live agree ports m = parts_alike parts n live agree ports m
    form_alike (StaticPar written arms) n live agree ports m = arms_alike arms n live agree ports m
    form_alike (StaticIf written test a b) n live agree ports m =
        ap (λ x. if nat_eq m n then x else (if nat_lt m (suc n + ifs_of a) then statement_now part one kept a (suc n) (where_so x live) m else statement_now part one kept b (suc n + ifs_of a) (where_so (not x) live) m)) same
        ∙ ap (λ z. if nat_eq m n then now_it else (if nat_lt m (suc n + ifs_of a) then z else statement_now part one kept b (suc n + ifs_of a) (where_so (not now_it) live) m)) (statement_alike a (suc n) (where_so now_it live) agree_a ports_a m)
        ∙ ap (λ z. if nat_eq m n then now_it else (if nat_lt m (suc n + ifs_of a) then statement_now part other kept a (suc n) (where_so now_it live) m else z)) (statement_alike b (suc n + ifs_of a) (where_so (not now_it) live) agree_b ports_b m)
      where
        now_it : Bool
        now_it = taken (other test.port) (kept n) live

        same : taken (one test.port) (kept n) live ≡ now_it
        same = same_taken test.port n live (λ e. ports 0 e test.port (inl refl))

        of_a : ℕ → Bool
        of_a k = statement_now part other kept a (suc n) (where_so now_it live) k

        of_b : ℕ → Bool
        of_b k = statement_now part other kept b (suc n + ifs_of a) (where_so (not now_it) live) k

        own : K n ≡ now_it
        own = agree n (omega arith) (omega arith) ∙ ap (λ c. if c then now_it else (if nat_lt n (suc n + ifs_of a) then of_a n else of_b n)) (eq-eqb n n refl)

        later : (k : ℕ) → n < k → k < n + (1 + (ifs_of a + ifs_of b)) → K k ≡ (if nat_lt k (suc n + ifs_of a) then of_a k else of_b k)
        later k low high = agree k (omega arith) high ∙ ap (λ c. if c then now_it else (if nat_lt k (suc n + ifs_of a) then of_a k else of_b k)) (ne_eqb k n (λ e. omega arith))

        agree_a : (k : ℕ) → suc n ≤ k → k < suc n + ifs_of a → K k ≡ of_a k
        agree_a k low high = later k (omega arith) (omega arith) ∙ ap (λ c. if c then of_a k else of_b k) (lt-ltb k (suc n + ifs_of a) high)

        agree_b : (k : ℕ) → suc n + ifs_of a ≤ k → k < suc n + ifs_of a + ifs_of b → K k ≡ of_b k
        agree_b k low high = later k (omega arith) (omega arith) ∙ ap (λ c. if c then of_a k else of_b k) (le-ltb k (suc n + ifs_of a) low)

        branches : ℕ → Bool → List PortRef
        branches j c = if c then while_by part K no_port port_at a (suc n) j else while_by part K no_port port_at b (suc n + ifs_of a) j

        ports_a : (j : ℕ) → where_so now_it live ≡ Some j → (p : PortRef) → In (while_by part K no_port port_at a (suc n) j) p → one p ≡ other p
        ports_a j e p i = let o = so_some now_it live j e in ports j o.1 p (in_right (port_at test.port j) (branches j (K n)) p (subst (λ c. In (branches j c) p) (sym (own ∙ o.0)) i))

        ports_b : (j : ℕ) → where_so (not now_it) live ≡ Some j → (p : PortRef) → In (while_by part K no_port port_at b (suc n + ifs_of a) j) p → one p ≡ other p
        ports_b j e p i = let o = so_some (not now_it) live j e in ports j o.1 p (in_right (port_at test.port j) (branches j (K n)) p (subst (λ c. In (branches j c) p) (sym (own ∙ off now_it o.0)) i))
          where
            off : (c : Bool) → not c ≡ true → c ≡ false
            off true f = absurd cc
            off false f = refl
    form_alike (StaticRepeat written count a) n live agree ports m =
        statement_alike a n (option_map (λ j. j % length_of part a) live) agree
        (λ j e p i. let o = map_some (length_of part a) live j e in ports o.0 o.1 p (subst (λ k. In (statement_by part K no_port port_at a n k) p) (sym o.2) (while_in a n j p i))) m
    form_alike (Timed k) n live agree ports m = refl

    statement_alike : (s : PlainStatement) (n : ℕ) (live : Option ℕ) → ((m : ℕ) → n ≤ m → m < n + ifs_of s → K m ≡ statement_now part other kept s n live m)
        → ((j : ℕ) → live ≡ Some j → (p : PortRef) → In (while_by part K no_port port_at s n j) p → one p ≡ other p) → (m : ℕ) → statement_now part one kept s n live m ≡ statement_now part other kept s n live m
    statement_alike (Placed form place) n live agree ports m =
        form_alike form n (option_and_then (within_length (length_of part (Placed form place))) live) agree
        (λ j e p i. let o = within_some (length_of part (Placed form place)) live j e in ports j o.0 p (subst (λ c. In (if c then form_by part K no_port port_at form n j else []) p) (sym o.1) i)) m

    parts_alike : (ss : PlainStatements) (n : ℕ) (live : Option ℕ) → ((m : ℕ) → n ≤ m → m < n + ifs_in ss → K m ≡ parts_now part other kept ss n live m)
        → ((j : ℕ) → live ≡ Some j → (p : PortRef) → In (parts_by part K no_port port_at ss n j) p → one p ≡ other p) → (m : ℕ) → parts_now part one kept ss n live m ≡ parts_now part other kept ss n live m
    parts_alike no_statements n live agree ports m = refl
    parts_alike (a_statement s ss) n live agree ports m =
        ap (λ z. if nat_lt m (n + ifs_of s) then z else parts_now part one kept ss (n + ifs_of s) (option_and_then (behind_length (length_of part s)) live) m)
        (statement_alike s n live
        (λ k low high. agree k low (omega arith) ∙ ap (λ c. if c then statement_now part other kept s n live k else parts_now part other kept ss (n + ifs_of s) (option_and_then (behind_length (length_of part s)) live) k) (lt-ltb k (n + ifs_of s) high))
        (λ j e p i. ports j e p (while_first s n j (parts_by part K no_port port_at ss (n + ifs_of s) (j - length_of part s)) p i)) m)
        ∙ ap (λ z. if nat_lt m (n + ifs_of s) then statement_now part other kept s n live m else z)
        (parts_alike ss (n + ifs_of s) (option_and_then (behind_length (length_of part s)) live)
        (λ k low high. agree k (omega arith) (omega arith)
        ∙ ap (λ c. if c then statement_now part other kept s n live k else parts_now part other kept ss (n + ifs_of s) (option_and_then (behind_length (length_of part s)) live) k) (le-ltb k (n + ifs_of s) low))
        (λ j e p i. let o = behind_some (length_of part s) live j e in
        ports o.0 o.1 p (subst (λ c. In (if c then statement_by part K no_port port_at s n o.0 else parts_by part K no_port port_at ss (n + ifs_of s) (o.0 - length_of part s)) p) (sym o.2)
        (subst (λ k. In (parts_by part K no_port port_at ss (n + ifs_of s) k) p) (sym o.3) i))) m)

    arms_alike : (ss : PlainStatements) (n : ℕ) (live : Option ℕ) → ((m : ℕ) → n ≤ m → m < n + ifs_in ss → K m ≡ arms_now part other kept ss n live m)
        → ((j : ℕ) → live ≡ Some j → (p : PortRef) → In (arms_by part K no_port port_at ss n j) p → one p ≡ other p) → (m : ℕ) → arms_now part one kept ss n live m ≡ arms_now part other kept ss n live m
    arms_alike no_statements n live agree ports m = refl
    arms_alike (a_statement s ss) n live agree ports m =
        ap (λ z. if nat_lt m (n + ifs_of s) then z else arms_now part one kept ss (n + ifs_of s) live m)
        (statement_alike s n live
        (λ k low high. agree k low (omega arith) ∙ ap (λ c. if c then statement_now part other kept s n live k else arms_now part other kept ss (n + ifs_of s) live k) (lt-ltb k (n + ifs_of s) high))
        (λ j e p i. ports j e p (in_left (while_by part K no_port port_at s n j) (arms_by part K no_port port_at ss (n + ifs_of s) j) p i)) m)
        ∙ ap (λ z. if nat_lt m (n + ifs_of s) then statement_now part other kept s n live m else z)
        (arms_alike ss (n + ifs_of s) live
        (λ k low high. agree k (omega arith) (omega arith) ∙ ap (λ c. if c then statement_now part other kept s n live k else arms_now part other kept ss (n + ifs_of s) live k) (le-ltb k (n + ifs_of s) low))
        (λ j e p i. ports j e p (in_right (while_by part K no_port port_at s n j) (arms_by part K no_port port_at ss (n + ifs_of s) j) p i)) m)

-- WHERE THE PORTS THAT BEGIN are the same to both, so are the samples
pub begun_samples : (part : PlainComponent) (kept : Samples) (one other : PortRef → Bool) (form : PlainForm) (t : ℕ)
    → ((p : PortRef) → In (begun_by part (form_now part other kept form 0 (Some t)) t form) p → one p ≡ other p) → (m : ℕ) → form_now part one kept form 0 (Some t) m ≡ form_now part other kept form 0 (Some t) m
begun_samples part kept one other form t ports m =
    form_alike part kept one other (form_now part other kept form 0 (Some t)) form 0 (Some t) (λ k low high. refl)
    (λ j e p i. ports p (subst (λ k. In (form_by part (form_now part other kept form 0 (Some t)) no_port port_at form 0 k) p) (sym (some_is t j e)) i)) m
