-- Reading a production by reading its parts.
use Rattle.std.specs.Prelude.{MatchOption}
use Rattle.std.proofs.Common.{◌≡◌, ℕ, ◌+◌, Bool, true, false, List, [], ◌∷◌, Option, Some, None, option_map, Ok, Err, refl, sym, ap, ◌∙◌, cond, subst}
use Rattle.cx_ast.specs.declared.tokens.Token.{Token}
use Rattle.cx_grammar.specs.declared.terminals.Terminal.{Terminal}
use Rattle.cx_grammar.specs.Terminals.{terminal_of, is_in}
use Rattle.cx_grammar.specs.Grammar.{Nest, Nested, Grammar, Empty, One, Pair, Choice, Deeper, starts}
use Rattle.cx_grammar.specs.Reading.{Unexpected, TooDeep, Reads, then_reads, one_at, read, unexpected}
use Rattle.cx_grammar.specs.Calyx.{nest, nested_at, mapped}
use Rattle.cx_grammar.proofs.Loops.{nested_at-suc}
use Rattle.cx_parse.specs.declared.stops.Stop.{Stop as Answer}
use Rattle.cx_parse.specs.declared.stops.Stop.TheVariants as stops
use Rattle.cx_parse.specs.Readings.{State, Going, Stopped, Fails, Ends, Leads, Gives, next_is_in, out_of_memory, one_of}
use Rattle.std.proofs.lemmas.Iterator.Adapters.{option_map_id}

-- what is read, seen by f
abbrev pub seen : {A B : Type 0} → (A → B) → Reads A → Reads B
seen f reads = then_reads reads (λ x rest. Ok (f x, rest))

-- where a first part stops, the whole does
pub fails_then : {A B : Type 0} (s : Answer) (r : Reads A) (f : A → List Token → Reads B) → Fails s r → Fails s (then_reads r f)
fails_then (stops.Unexpected left) r f e = ap (λ r. then_reads r f) e
fails_then (stops.TooDeep left) r f e = ap (λ r. then_reads r f) e
fails_then stops.Memory r f e = tt

pub ends_seen : {A B : Type 0} (f : A → B) (r : Reads A) (new : State) (v : Option A) → Ends r new v → Ends (seen f r) new (option_map f v)
ends_seen f r (Going rest) (Some x) e = ap (seen f) e
ends_seen f r (Going rest) None e = e
ends_seen f r (Stopped t) v e = fails_then t r _ e

pub ok_same : {A : Type 0} (u v : A × List Token) → (let r : Reads A = Ok u in r ≡ Ok v) → u ≡ v
ok_same u v e = cc

-- what was seen was read
pub ends_under : {A B : Type 0} (f : A → B) (r : Reads A) (rest : List Token) (y : B) → seen f r ≡ Ok (y, rest) → (x : A) × (r ≡ Ok (x, rest)) × (f x ≡ y)
ends_under f (Ok x) rest y e =
    let k = ok_same (f x.0, x.1) (y, rest) e in
    (x.0, ap (λ u. Ok (x.0, u)) (ap (λ u. u.1) k), ap (λ u. u.0) k)
ends_under f (Err s) rest y e = absurd (cc)

pub fails_under : {A B : Type 0} (f : A → B) (t : Answer) (r : Reads A) → Fails t (seen f r) → Fails t r
fails_under f (stops.Unexpected left) (Ok x) e = absurd (cc)
fails_under f (stops.TooDeep left) (Ok x) e = absurd (cc)
fails_under f (stops.Unexpected left) (Err s) e = let k : s ≡ record { why = Unexpected; left = left } = cc in ap (λ s. Err s) k
fails_under f (stops.TooDeep left) (Err s) e = let k : s ≡ record { why = TooDeep; left = left } = cc in ap (λ s. Err s) k
fails_under f stops.Memory r e = tt

-- one part after the other
pair_leads : {A B C : Type 0} (levels : ℕ) (join : A → B → C) (g : Grammar A) (h : Grammar B) (s0 s1 s2 : State) (a : A) (v : Option B) →
    Leads (read (nested_at levels) g) s0 s1 (Some a) → Leads (read (nested_at levels) h) s1 s2 v → Leads (read (nested_at levels) (Pair join g h)) s0 s2 (option_map (join a) v)
pair_leads levels join g h (Stopped s) (Stopped t) s2 a v e f = f ∙ e
pair_leads levels join g h (Stopped s) (Going mid) s2 a v e f = absurd (cc)
pair_leads levels join g h (Going ts) (Stopped t) s2 a v e f = subst (λ s. Ends (read (nested_at levels) (Pair join g h) ts) s (option_map (join a) v)) (sym f) (fails_then t (read (nested_at levels) g ts) _ e)
pair_leads levels join g h (Going ts) (Going mid) s2 a v e f =
    subst (λ r. Ends r s2 (option_map (join a) v)) (sym (ap (λ r. then_reads r (λ x mid. seen (join x) (read (nested_at levels) h mid))) e))
    (ends_seen (join a) (read (nested_at levels) h mid) s2 v f)

pub pair : {A B C : Type 0} {levels : ℕ} {join : A → B → C} {g : Grammar A} {h : Grammar B} {s0 s1 s2 : State} {a : A} {b : B} →
    Gives levels g s0 s1 (Some a) → Gives levels h s1 s2 (Some b) → Gives levels (Pair join g h) s0 s2 (Some (join a b))
pair {levels = levels} {join = join} {g = g} {h = h} {s0 = s0} {s1 = s1} {s2 = s2} {a = a} {b = b} e f = record { leads = pair_leads levels join g h s0 s1 s2 a (Some b) e.leads f.leads }

pub behind_one : {A B : Type 0} {levels : ℕ} {g : Grammar A} {h : Grammar B} {s0 s1 s2 : State} {a : A} {v : Option B} →
    Gives levels g s0 s1 (Some a) → Gives levels h s1 s2 v → Gives levels (Pair (λ (_ : A) (x : B). x) g h) s0 s2 v
behind_one {levels = levels} {g = g} {h = h} {s0 = s0} {s1 = s1} {s2 = s2} {a = a} {v = v} e f =
    record { leads = subst (Leads (read (nested_at levels) (Pair (λ _ x. x) g h)) s0 s2) (option_map_id v) (pair_leads levels (λ _ x. x) g h s0 s1 s2 a v e.leads f.leads) }

any_leads : {A : Type 0} (levels : ℕ) (g : Grammar A) (s0 s1 : State) (v : Option A) → Leads (read (nested_at levels) g) s0 s1 None → Leads (read (nested_at levels) g) s0 s1 v
any_leads levels g (Stopped s) s1 v e = e
any_leads levels g (Going ts) (Stopped t) v e = e
any_leads levels g (Going ts) (Going mid) v e = absurd e

-- where there is no value, reading has stopped, and any value will do
pub any : {A : Type 0} {levels : ℕ} {g : Grammar A} {s0 s1 : State} {v : Option A} → Gives levels g s0 s1 None → Gives levels g s0 s1 v
any {levels = levels} {g = g} {s0 = s0} {s1 = s1} {v = v} e = record { leads = any_leads levels g s0 s1 v e.leads }

stops_leads : {A B C : Type 0} (levels : ℕ) (join : A → B → C) (g : Grammar A) (h : Grammar B) (s0 s1 : State) (v : Option C) →
    Leads (read (nested_at levels) g) s0 s1 None → Leads (read (nested_at levels) (Pair join g h)) s0 s1 v
stops_leads levels join g h (Stopped s) s1 v e = e
stops_leads levels join g h (Going ts) (Stopped t) v e = fails_then t (read (nested_at levels) g ts) _ e
stops_leads levels join g h (Going ts) (Going mid) v e = absurd e

-- reading stops in the first part, or in the second
pub stops_first : {A B C : Type 0} {levels : ℕ} {join : A → B → C} {g : Grammar A} {h : Grammar B} {s0 s1 : State} {v : Option C} →
    Gives levels g s0 s1 None → Gives levels (Pair join g h) s0 s1 v
stops_first {levels = levels} {join = join} {g = g} {h = h} {s0 = s0} {s1 = s1} {v = v} e = record { leads = stops_leads levels join g h s0 s1 v e.leads }

pub stops_second : {A B C : Type 0} {levels : ℕ} {join : A → B → C} {g : Grammar A} {h : Grammar B} {s0 s1 s2 : State} {a : A} {v : Option C} →
    Gives levels g s0 s1 (Some a) → Gives levels h s1 s2 None → Gives levels (Pair join g h) s0 s2 v
stops_second {levels = levels} {join = join} {g = g} {h = h} {s0 = s0} {s1 = s1} {s2 = s2} {a = a} {v = v} e f =
    record { leads = any_leads levels (Pair join g h) s0 s2 v (pair_leads levels join g h s0 s1 s2 a None e.leads f.leads) }

empty_leads : {A : Type 0} (levels : ℕ) (x : A) (s : State) → Leads (read (nested_at levels) (Empty x)) s s (Some x)
empty_leads levels x (Stopped t) = refl
empty_leads levels x (Going ts) = refl

-- no token
pub empty : {A : Type 0} {levels : ℕ} {x : A} {s : State} → Gives levels (Empty x) s s (Some x)
empty {levels = levels} {x = x} {s = s} = record { leads = empty_leads levels x s }

first_leads : {A : Type 0} (levels : ℕ) (g h : Grammar A) (s0 s1 : State) (v : Option A) → next_is_in (starts g) s0 ≡ true → Leads (read (nested_at levels) g) s0 s1 v → Leads (read (nested_at levels) (Choice g h)) s0 s1 v
first_leads levels g h (Stopped t) s1 v b e = e
first_leads levels g h (Going ts) s1 v b e = rw b e

second_leads : {A : Type 0} (levels : ℕ) (g h : Grammar A) (s0 s1 : State) (v : Option A) → next_is_in (starts g) s0 ≡ false → Leads (read (nested_at levels) h) s0 s1 v → Leads (read (nested_at levels) (Choice g h)) s0 s1 v
second_leads levels g h (Stopped t) s1 v b e = e
second_leads levels g h (Going ts) s1 v b e = rw b e

-- the one, where the next token begins it, or the other
pub first : {A : Type 0} {levels : ℕ} {g h : Grammar A} {s0 s1 : State} {v : Option A} → next_is_in (starts g) s0 ≡ true → Gives levels g s0 s1 v → Gives levels (Choice g h) s0 s1 v
first {levels = levels} {g = g} {h = h} {s0 = s0} {s1 = s1} {v = v} b e = record { leads = first_leads levels g h s0 s1 v b e.leads }

pub second : {A : Type 0} {levels : ℕ} {g h : Grammar A} {s0 s1 : State} {v : Option A} → next_is_in (starts g) s0 ≡ false → Gives levels h s0 s1 v → Gives levels (Choice g h) s0 s1 v
second {levels = levels} {g = g} {h = h} {s0 = s0} {s1 = s1} {v = v} b e = record { leads = second_leads levels g h s0 s1 v b e.leads }

one_cases : {A : Type 0} (b : Bool) (f : Token → A) (t : Token) (ts : List Token) → cond b (Ok (f t, ts)) (Err (unexpected (t ∷ ts))) ≡ seen f (cond b (Ok (t, ts)) (Err (unexpected (t ∷ ts))))
one_cases true f t ts = refl
one_cases false f t ts = refl

one_seen : {A : Type 0} (set : List Terminal) (f : Token → A) (ts : List Token) → one_at set f ts ≡ seen f (one_at set (λ t. t) ts)
one_seen set f [] = refl
one_seen set f (t ∷ ts) = one_cases (is_in (terminal_of t.kind) set) f t ts

one_leads : {A : Type 0} (levels : ℕ) (set : List Terminal) (f : Token → A) (s0 s1 : State) (v : Option Token) → Leads (read (nested_at levels) (one_of set)) s0 s1 v → Leads (read (nested_at levels) (One set f)) s0 s1 (option_map f v)
one_leads levels set f (Stopped t) s1 v e = e
one_leads levels set f (Going ts) s1 v e = subst (λ r. Ends r s1 (option_map f v)) (sym (one_seen set f ts)) (ends_seen f (one_at set (λ t. t) ts) s1 v e)

-- what a token carries
pub one : {A : Type 0} {levels : ℕ} {set : List Terminal} {f : Token → A} {s0 s1 : State} {t : Token} → Gives levels (one_of set) s0 s1 (Some t) → Gives levels (One set f) s0 s1 (Some (f t))
one {levels = levels} {set = set} {f = f} {s0 = s0} {s1 = s1} {t = t} e = record { leads = one_leads levels set f s0 s1 (Some t) e.leads }

pub no_token : {A : Type 0} {levels : ℕ} {set : List Terminal} {f : Token → A} {s0 s1 : State} {v : Option A} → Gives levels (one_of set) s0 s1 None → Gives levels (One set f) s0 s1 v
no_token {levels = levels} {set = set} {f = f} {s0 = s0} {s1 = s1} {v = v} e = record { leads = any_leads levels (One set f) s0 s1 v (one_leads levels set f s0 s1 None e.leads) }

pub lost_leads : {A : Type 0} (r : List Token → Reads A) (s0 s1 : State) (v w : Option A) → Leads r s0 s1 v → Leads r s0 (out_of_memory s1) w
lost_leads r (Stopped s) s1 v w e = ap out_of_memory e
lost_leads r (Going ts) (Stopped t) v w e = e
lost_leads r (Going ts) (Going mid) v w e = tt

-- memory ran out
pub lost : {A : Type 0} {levels : ℕ} {g : Grammar A} {s0 s1 s2 : State} {v w : Option A} → Gives levels g s0 s1 v → s2 ≡ out_of_memory s1 → Gives levels g s0 s2 w
lost {levels = levels} {g = g} {s0 = s0} {s1 = s1} {s2 = s2} {v = v} {w = w} e f =
    record { leads = subst (λ s. Leads (read (nested_at levels) g) s0 s w) (sym f) (lost_leads (read (nested_at levels) g) s0 s1 v w e.leads) }

-- the same, with a state and a value that are equal
pub moved : {A : Type 0} {levels : ℕ} {g : Grammar A} {s0 s1 s2 : State} {v w : Option A} → Gives levels g s0 s1 v → s2 ≡ s1 → w ≡ v → Gives levels g s0 s2 w
moved {levels = levels} {g = g} {s0 = s0} {s1 = s1} {s2 = s2} {v = v} {w = w} e f k = subst (λ w. Gives levels g s0 s2 w) (sym k) (subst (λ s. Gives levels g s0 s v) (sym f) e)

deeper_leads : (n : Nest) (levels less : ℕ) (s0 s1 : State) (v : Option (Nested n)) → levels ≡ less + 1 → Leads (read (nested_at less) (nest n)) s0 s1 v → Leads (read (nested_at levels) (Deeper n)) s0 s1 v
deeper_leads n levels less (Stopped t) s1 v is e = e
deeper_leads n levels less (Going ts) s1 v is e = subst (λ r. Ends r s1 v) (sym (nested_at-suc levels less n ts is)) e

-- a level less
pub deeper : (n : Nest) {levels less : ℕ} {s0 s1 : State} {v : Option (Nested n)} → levels ≡ less + 1 → Gives less (nest n) s0 s1 v → Gives levels (Deeper n) s0 s1 v
deeper n {levels = levels} {less = less} {s0 = s0} {s1 = s1} {v = v} is e = record { leads = deeper_leads n levels less s0 s1 v is e.leads }

joined_leads : {A B C X Y Z : Type 0} (levels : ℕ) (join : A → B → C) (at : C → Z) (p : A → X) (q : B → Y) (g : Grammar A) (h : Grammar B) (s0 s1 s2 : State) (x : X) (y : Y) (z : Z) →
    ((a : A) (b : B) → p a ≡ x → q b ≡ y → at (join a b) ≡ z) → Leads (read (nested_at levels) (mapped p g)) s0 s1 (Some x) → Leads (read (nested_at levels) (mapped q h)) s1 s2 (Some y) →
    Leads (read (nested_at levels) (mapped at (Pair join g h))) s0 s2 (Some z)
joined_leads levels join at p q g h (Stopped s) (Stopped t) s2 x y z k e f = f ∙ e
joined_leads levels join at p q g h (Stopped s) (Going mid) s2 x y z k e f = absurd (cc)
joined_leads levels join at p q g h (Going ts) (Stopped t) s2 x y z k e f =
    subst (λ s. Ends (read (nested_at levels) (mapped at (Pair join g h)) ts) s (Some z)) (sym f)
    (fails_then t (then_reads (read (nested_at levels) g ts) (λ a mid. seen (join a) (read (nested_at levels) h mid))) _
    (fails_then t (read (nested_at levels) g ts) _ (fails_under p t (read (nested_at levels) g ts) e)))
joined_leads levels join at p q g h (Going ts) (Going mid) (Stopped t) x y z k e f =
    let a = ends_under p (read (nested_at levels) g ts) mid x e in
    subst (λ r. Fails t (seen at (then_reads r (λ a mid. seen (join a) (read (nested_at levels) h mid))))) (sym a.1)
    (fails_then t (seen (join a.0) (read (nested_at levels) h mid)) _ (fails_then t (read (nested_at levels) h mid) _ (fails_under q t (read (nested_at levels) h mid) f)))
joined_leads levels join at p q g h (Going ts) (Going mid) (Going rest) x y z k e f =
    let a = ends_under p (read (nested_at levels) g ts) mid x e in
    let b = ends_under q (read (nested_at levels) h mid) rest y f in
    ap (λ r. seen at (then_reads r (λ a mid. seen (join a) (read (nested_at levels) h mid)))) a.1
    ∙ (ap (λ r. seen at (seen (join a.0) r)) b.1 ∙ ap (λ z. Ok (z, rest)) (k a.0 b.0 a.2 b.2))

-- one part after the other, where of both only what is seen of them is known
pub joined : {A B C X Y Z : Type 0} {levels : ℕ} {join : A → B → C} {at : C → Z} {p : A → X} {q : B → Y} {g : Grammar A} {h : Grammar B} {s0 s1 s2 : State} {x : X} {y : Y} {z : Z} →
    ((a : A) (b : B) → p a ≡ x → q b ≡ y → at (join a b) ≡ z) → Gives levels (mapped p g) s0 s1 (Some x) → Gives levels (mapped q h) s1 s2 (Some y) → Gives levels (mapped at (Pair join g h)) s0 s2 (Some z)
joined {levels = levels} {join = join} {at = at} {p = p} {q = q} {g = g} {h = h} {s0 = s0} {s1 = s1} {s2 = s2} {x = x} {y = y} {z = z} k e f =
    record { leads = joined_leads levels join at p q g h s0 s1 s2 x y z k e.leads f.leads }

-- a production and what is seen of it
pub as_seen : {A B : Type 0} (f : A → B) {levels : ℕ} {g : Grammar A} {s0 s1 : State} {x : A} → Gives levels g s0 s1 (Some x) → Gives levels (mapped f g) s0 s1 (Some (f x))
as_seen f e = pair e empty

plain_leads : {A : Type 0} (levels : ℕ) (g : Grammar A) (s0 s1 : State) (x : A) → Leads (read (nested_at levels) (mapped (λ (x : A). x) g)) s0 s1 (Some x) → Leads (read (nested_at levels) g) s0 s1 (Some x)
plain_leads levels g (Stopped t) s1 x e = e
plain_leads levels g (Going ts) (Stopped t) x e = fails_under (λ x. x) t (read (nested_at levels) g ts) e
plain_leads levels g (Going ts) (Going mid) x e =
    let a = ends_under (λ x. x) (read (nested_at levels) g ts) mid x e in a.1 ∙ ap (λ x. Ok (x, mid)) a.2

pub plainly : {A : Type 0} {levels : ℕ} {g : Grammar A} {s0 s1 : State} {x : A} → Gives levels (mapped (λ (x : A). x) g) s0 s1 (Some x) → Gives levels g s0 s1 (Some x)
plainly {levels = levels} {g = g} {s0 = s0} {s1 = s1} {x = x} e = record { leads = plain_leads levels g s0 s1 x e.leads }

-- a list behind its first
pub headed : {A B : Type 0} (k : List A → B) {levels : ℕ} {g : Grammar A} {h : Grammar (List A)} {s0 s1 s2 : State} {x : A} {ys : List A} →
    Gives levels g s0 s1 (Some x) → Gives levels (mapped (λ xs. x ∷ xs) h) s1 s2 (Some ys) → Gives levels (Pair (λ x xs. k (x ∷ xs)) g h) s0 s2 (Some (k ys))
headed k {x = x} e f = plainly (joined (λ a b p q. ap (λ a. k (a ∷ b)) p ∙ ap k q) (as_seen (λ x. x) e) f)

-- what is seen of a part before another
pub seen_before : {A B X : Type 0} {p : A → X} {levels : ℕ} {g : Grammar A} {h : Grammar B} {s0 s1 s2 : State} {x : X} {y : B} →
    Gives levels (mapped p g) s0 s1 (Some x) → Gives levels h s1 s2 (Some y) → Gives levels (mapped p (Pair (λ (x : A) (_ : B). x) g h)) s0 s2 (Some x)
seen_before e f = joined (λ a b p q. p) e (as_seen (λ y. y) f)

-- what a token carries, copied
pub copied_one : {levels : ℕ} {set : List Terminal} {f : Token → List ℕ} {s0 s1 s2 : State} {t : Token} {bytes : List ℕ} (r : Option (List ℕ)) →
    Gives levels (one_of set) s0 s1 (Some t) → MatchOption r (s2 ≡ out_of_memory s1) (λ y. (s2 ≡ s1) × (y ≡ bytes)) → bytes ≡ f t → Gives levels (One set f) s0 s2 r
copied_one {f = f} {t = t} None e k is = lost {v = Some (f t)} (one e) k
copied_one (Some y) e k is = moved (one e) k.0 (ap (λ y. Some y) (k.1 ∙ is))

-- a part that is a function, at the value before it
pub applied : {A B : Type 0} {levels : ℕ} {g : Grammar A} {h : Grammar (A → B)} {s0 s1 s2 : State} {x : A} {y : B} →
    Gives levels g s0 s1 (Some x) → Gives levels (mapped (λ f. f x) h) s1 s2 (Some y) → Gives levels (Pair (λ (a : A) (f : A → B). f a) g h) s0 s2 (Some y)
applied {x = x} e f = plainly (joined (λ a k p q. ap k p ∙ q) (as_seen (λ x. x) e) f)

-- what is seen of one or the other
seen_first_leads : {A B : Type 0} (levels : ℕ) (p : A → B) (g h : Grammar A) (s0 s1 : State) (v : Option B) → next_is_in (starts g) s0 ≡ true → Leads (read (nested_at levels) (mapped p g)) s0 s1 v → Leads (read (nested_at levels) (mapped p (Choice g h))) s0 s1 v
seen_first_leads levels p g h (Stopped t) s1 v b e = e
seen_first_leads levels p g h (Going ts) s1 v b e = rw b e

seen_second_leads : {A B : Type 0} (levels : ℕ) (p : A → B) (g h : Grammar A) (s0 s1 : State) (v : Option B) → next_is_in (starts g) s0 ≡ false → Leads (read (nested_at levels) (mapped p h)) s0 s1 v → Leads (read (nested_at levels) (mapped p (Choice g h))) s0 s1 v
seen_second_leads levels p g h (Stopped t) s1 v b e = e
seen_second_leads levels p g h (Going ts) s1 v b e = rw b e

pub seen_first : {A B : Type 0} {p : A → B} {levels : ℕ} {g h : Grammar A} {s0 s1 : State} {v : Option B} → next_is_in (starts g) s0 ≡ true → Gives levels (mapped p g) s0 s1 v → Gives levels (mapped p (Choice g h)) s0 s1 v
seen_first {p = p} {levels = levels} {g = g} {h = h} {s0 = s0} {s1 = s1} {v = v} b e = record { leads = seen_first_leads levels p g h s0 s1 v b e.leads }

pub seen_second : {A B : Type 0} {p : A → B} {levels : ℕ} {g h : Grammar A} {s0 s1 : State} {v : Option B} → next_is_in (starts g) s0 ≡ false → Gives levels (mapped p h) s0 s1 v → Gives levels (mapped p (Choice g h)) s0 s1 v
seen_second {p = p} {levels = levels} {g = g} {h = h} {s0 = s0} {s1 = s1} {v = v} b e = record { leads = seen_second_leads levels p g h s0 s1 v b e.leads }

-- what is seen of a part behind another, or of what is seen of it
pub seen_behind : {A B X : Type 0} {p : B → X} {levels : ℕ} {g : Grammar A} {h : Grammar B} {s0 s1 s2 : State} {x : A} {y : X} →
    Gives levels g s0 s1 (Some x) → Gives levels (mapped p h) s1 s2 (Some y) → Gives levels (mapped p (Pair (λ (_ : A) (y : B). y) g h)) s0 s2 (Some y)
seen_behind e f = joined (λ a b p q. q) (as_seen (λ x. x) e) f

unseen_leads : {A B : Type 0} (levels : ℕ) (p : A → B) (g : Grammar A) (s0 s1 : State) (v : Option A) → Leads (read (nested_at levels) (mapped p g)) s0 s1 None → Leads (read (nested_at levels) g) s0 s1 v
unseen_leads levels p g (Stopped t) s1 v e = e
unseen_leads levels p g (Going ts) (Stopped t) v e = fails_under p t (read (nested_at levels) g ts) e
unseen_leads levels p g (Going ts) (Going mid) v e = absurd e

-- where nothing is seen, nothing was read
pub unseen : {A B : Type 0} {p : A → B} {levels : ℕ} {g : Grammar A} {s0 s1 : State} {v : Option A} → Gives levels (mapped p g) s0 s1 None → Gives levels g s0 s1 v
unseen {p = p} {levels = levels} {g = g} {s0 = s0} {s1 = s1} {v = v} e = record { leads = unseen_leads levels p g s0 s1 v e.leads }

-- no level is left
pub without_level : (n : Nest) {levels : ℕ} {s0 s1 : State} {v : Option (Nested n)} → levels ≡ 0 → Gives 0 (Deeper n) s0 s1 None → Gives levels (Deeper n) s0 s1 v
without_level n {levels = levels} {s0 = s0} {s1 = s1} {v = v} e k = subst (λ l. Gives l (Deeper n) s0 s1 v) (sym e) (any k)
