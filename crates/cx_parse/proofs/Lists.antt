-- Reading a list, a part at a time.
use Rattle.std.proofs.Common.{◌≡◌, ℕ, ◌+◌, ◌<◌, true, false, List, [], ◌∷◌, ◌++◌, length, map, Option, Some, None, option_map, Ok, Err, refl, sym, ap, ◌∙◌, subst, arith, append_assoc, append-nil, ◌⊎◌, inl, inr}
use Rattle.std.proofs.lemmas.List.{map_push}
use Rattle.cx_ast.specs.declared.tokens.Token.{Token}
use Rattle.cx_grammar.specs.Grammar.{Grammar, starts, nullable}
use Rattle.cx_grammar.specs.Reading.{Reads, several_at, read}
use Rattle.cx_grammar.specs.Calyx.{nested_at, many}
use Rattle.cx_grammar.proofs.Loops.{shorter_at, several-next, several-stop, several-end}
use Rattle.cx_parse.specs.declared.stops.Stop.{Stop as Answer}
use Rattle.cx_parse.specs.declared.stops.Stop.TheVariants as stops
use Rattle.cx_parse.specs.Readings.{State, Going, Stopped, Fails, Ends, Leads, Gives, next_is_in, out_of_memory, listed, Keeps}
use Rattle.cx_parse.proofs.Steps.{seen, ends_seen}

-- how many tokens are left, and one while reading goes on
abbrev pub left : State → ℕ
left (Going ts) = length ts + 1
left (Stopped t) = 0

kept_left : (s s1 s2 : State) → left s1 < left s → ((s2 ≡ s1) ⊎ (s2 ≡ out_of_memory s1)) → left s2 < left s
kept_left s s1 s2 l (inl e) = subst (λ s2. left s2 < left s) (sym e) l
kept_left s (Going ts) s2 l (inr e) = subst (λ s2. left s2 < left s) (sym e) (let l2 : length ts + 1 < left s = l in omega arith)
kept_left s (Stopped t) s2 l (inr e) = subst (λ s2. left s2 < left s) (sym e) l

kept_ways : {X : Type 0} (s1 s2 : State) (before after : List X) (item : Option X) → ((s2 ≡ s1) × (after ≡ before ++ listed item)) ⊎ (s2 ≡ out_of_memory s1) → (s2 ≡ s1) ⊎ (s2 ≡ out_of_memory s1)
kept_ways s1 s2 before after item (inl e) = inl e.0
kept_ways s1 s2 before after item (inr e) = inr e

part_left : {A : Type 0} (levels : ℕ) (g : Grammar A) (s s1 : State) (v : Option A) → nullable g ≡ false → next_is_in (starts g) s ≡ true → Leads (read (nested_at levels) g) s s1 v → left s1 < left s
part_left levels g (Stopped t) s1 v some b e = absurd (cc)
part_left levels g (Going ts) (Stopped t) v some b e = omega arith
part_left levels g (Going ts) (Going mid) (Some x) some b e = let l : length mid < length ts = shorter_at levels g some ts (x, mid) e in omega arith
part_left levels g (Going ts) (Going mid) None some b e = absurd e

-- each part takes a token at least
pub nearer : {A X : Type 0} (levels : ℕ) (g : Grammar A) (some : nullable g ≡ false) {s s1 s2 : State} {v : Option A} {before after : List X} {item : Option X} →
    next_is_in (starts g) s ≡ true → Gives levels g s s1 v → Keeps s1 s2 before after item → left s2 < left s
nearer levels g some {s = s} {s1 = s1} {s2 = s2} {v = v} {before = before} {after = after} {item = item} b e k =
    kept_left s s1 s2 (part_left levels g s s1 v some b e.leads) (kept_ways s1 s2 before after item k.kept)

-- what is kept, seen by view
listed_seen : {X A : Type 0} (view : X → A) (before : List X) (item : Option X) → map view (before ++ listed item) ≡ map view before ++ listed (option_map view item)
listed_seen view before None = ap (map view) (append-nil before) ∙ sym (append-nil (map view before))
listed_seen view before (Some x) = map_push view before x

ways_seen : {X A : Type 0} (view : X → A) (s1 s2 : State) (before after : List X) (item : Option X) → ((s2 ≡ s1) × (after ≡ before ++ listed item)) ⊎ (s2 ≡ out_of_memory s1) →
    ((s2 ≡ s1) × (map view after ≡ map view before ++ listed (option_map view item))) ⊎ (s2 ≡ out_of_memory s1)
ways_seen view s1 s2 before after item (inl e) = inl (e.0, ap (map view) e.1 ∙ listed_seen view before item)
ways_seen view s1 s2 before after item (inr e) = inr e

pub keeps_seen : {X A : Type 0} (view : X → A) {s1 s2 : State} {before after : List X} {item : Option X} → Keeps s1 s2 before after item → Keeps s1 s2 (map view before) (map view after) (option_map view item)
keeps_seen view {s1 = s1} {s2 = s2} {before = before} {after = after} {item = item} k = record { kept = ways_seen view s1 s2 before after item k.kept }

-- What `whole` gives from `from` on: the front so far, and then what `rest` gives from `now` on.
pub record SoFar {A : Type 0} (rest whole : List Token → Reads (List A)) (from now : State) (front : List A) : Type 0 where
  pub so : (new : State) (xs : List A) → Leads rest now new (Some xs) → Leads whole from new (Some (front ++ xs))

module _ {A : Type 0} (rest whole : List Token → Reads (List A)) where
  stopped_any : (from : State) (t : Answer) (v w : Option (List A)) → Leads whole from (Stopped t) v → Leads whole from (Stopped t) w
  stopped_any (Stopped s) t v w e = e
  stopped_any (Going ts) t v w e = e

  memory_leads : (ts : List Token) (xs : List A) → Leads rest (Going ts) (Stopped stops.Memory) (Some xs)
  memory_leads ts xs = tt

  -- once memory ran out, whatever the front is
  without_memory : (from now : State) (front other : List A) → SoFar rest whole from now front → (new : State) (xs : List A) → Leads rest (out_of_memory now) new (Some xs) → Leads whole from new (Some (other ++ xs))
  without_memory from (Going ts) front other so new xs f =
      subst (λ s. Leads whole from s (Some (other ++ xs))) (sym f)
      (stopped_any from stops.Memory (Some (front ++ xs)) (Some (other ++ xs)) (so.so (Stopped stops.Memory) xs (memory_leads ts xs)))
  without_memory from (Stopped t) front other so new xs f =
      subst (λ s. Leads whole from s (Some (other ++ xs))) (sym f)
      (stopped_any from t (Some (front ++ xs)) (Some (other ++ xs)) (so.so (Stopped t) xs refl))

  kept_so : (from s1 s2 : State) (before after : List A) (v : Option A) → SoFar rest whole from s1 (before ++ listed v) →
      ((s2 ≡ s1) × (after ≡ before ++ listed v)) ⊎ (s2 ≡ out_of_memory s1) → SoFar rest whole from s2 after
  kept_so from s1 s2 before after v so (inl k) = subst (λ s. SoFar rest whole from s after) (sym k.0) (subst (SoFar rest whole from s1) (sym k.1) so)
  kept_so from s1 s2 before after v so (inr k) = subst (λ s. SoFar rest whole from s after) (sym k) (record { so = without_memory from s1 (before ++ listed v) after so })

  -- one more part was read and kept
  pub grown : {from s s1 s2 : State} {before after : List A} {v : Option A} → SoFar rest whole from s before →
      ((new : State) (xs : List A) → Leads rest s1 new (Some xs) → Leads rest s new (Some (listed v ++ xs))) → Keeps s1 s2 before after v → SoFar rest whole from s2 after
  grown {from = from} {s1 = s1} {s2 = s2} {before = before} {after = after} {v = v} so more k =
      kept_so from s1 s2 before after v
      (record { so = λ new xs f. subst (λ ys. Leads whole from new (Some ys)) (sym (append_assoc before (listed v) xs)) (so.so new (listed v ++ xs) (more new xs f)) })
      k.kept

  -- the list is over
  pub finished : {from s : State} (s1 : State) {front : List A} → SoFar rest whole from s front → Leads rest s s1 (Some []) → Leads whole from s1 (Some front)
  finished {from = from} s1 {front = front} so e = subst (λ ys. Leads whole from s1 (Some ys)) (append-nil front) (so.so s1 [] e)

module _ {A : Type 0} (rest : List Token → Reads (List A)) where
  first_leads : (x : A) (s new : State) (xs : List A) → Leads rest s new (Some xs) → Leads (λ ts. seen (λ xs. x ∷ xs) (rest ts)) s new (Some (x ∷ xs))
  first_leads x (Stopped t) new xs f = f
  first_leads x (Going ts) new xs f = ends_seen (λ xs. x ∷ xs) (rest ts) new (Some xs) f

  -- the first was kept
  pub begun : {s s1 : State} {before front : List A} {x : A} → before ≡ [] → Keeps s s1 before front (Some x) → SoFar rest (λ ts. seen (λ xs. x ∷ xs) (rest ts)) s s1 front
  begun {s = s} {s1 = s1} {before = before} {front = front} {x = x} none k =
      kept_so rest (λ ts. seen (λ xs. x ∷ xs) (rest ts)) s s s1 [] front (Some x)
      (record { so = λ new xs f. first_leads x s new xs f })
      (subst (λ ys. ((s1 ≡ s) × (front ≡ ys ++ (x ∷ []))) ⊎ (s1 ≡ out_of_memory s)) none k.kept)

  -- nothing was read yet
  pub nothing : {s : State} {front : List A} → front ≡ [] → SoFar rest rest s s front
  nothing {s = s} none = subst (SoFar rest rest s s) (sym none) (record { so = λ new xs f. f })

-- a list of many
abbrev pub reading_many : {A : Type 0} → ℕ → Grammar A → List Token → Reads (List A)
reading_many levels g ts = read (nested_at levels) (many g) ts

module _ {A : Type 0} (levels : ℕ) (g : Grammar A) (some : nullable g ≡ false) where
  twice_seen : (x : A) (r : Reads (List A)) → seen (λ xs. xs) (seen (λ xs. x ∷ xs) r) ≡ seen (λ xs. x ∷ xs) (seen (λ xs. xs) r)
  twice_seen x (Ok y) = refl
  twice_seen x (Err s) = refl

  more_read : (ts : List Token) (x : A) (mid : List Token) → next_is_in (starts g) (Going ts) ≡ true → read (nested_at levels) g ts ≡ Ok (x, mid) →
      reading_many levels g ts ≡ seen (λ xs. x ∷ xs) (reading_many levels g mid)
  more_read ts x mid b e =
      ap (seen (λ xs. xs)) (several-next (read (nested_at levels) g) (starts g) (shorter_at levels g some) ts (x, mid) b e)
      ∙ twice_seen x (several_at (read (nested_at levels) g) (starts g) mid)

  stop_read : (ts : List Token) (t : Answer) → next_is_in (starts g) (Going ts) ≡ true → Fails t (read (nested_at levels) g ts) → Fails t (reading_many levels g ts)
  stop_read ts (stops.Unexpected n) b e = ap (seen (λ xs. xs)) (several-stop (read (nested_at levels) g) (starts g) (shorter_at levels g some) ts _ b e)
  stop_read ts (stops.TooDeep n) b e = ap (seen (λ xs. xs)) (several-stop (read (nested_at levels) g) (starts g) (shorter_at levels g some) ts _ b e)
  stop_read ts stops.Memory b e = tt

  more_leads : (s s1 : State) (v : Option A) → next_is_in (starts g) s ≡ true → Leads (read (nested_at levels) g) s s1 v →
      (new : State) (xs : List A) → Leads (reading_many levels g) s1 new (Some xs) → Leads (reading_many levels g) s new (Some (listed v ++ xs))
  more_leads (Stopped t) s1 v b e new xs f = absurd (cc)
  more_leads (Going ts) (Stopped t) v b e new xs f = subst (λ s. Ends (reading_many levels g ts) s (Some (listed v ++ xs))) (sym f) (stop_read ts t b e)
  more_leads (Going ts) (Going mid) None b e new xs f = absurd e
  more_leads (Going ts) (Going mid) (Some x) b e new xs f =
      subst (λ r. Ends r new (Some (x ∷ xs))) (sym (more_read ts x mid b e)) (ends_seen (λ xs. x ∷ xs) (reading_many levels g mid) new (Some xs) f)

  end_leads : (s : State) → next_is_in (starts g) s ≡ false → Leads (reading_many levels g) s s (Some [])
  end_leads (Stopped t) b = refl
  end_leads (Going ts) b = ap (seen (λ xs. xs)) (several-end (read (nested_at levels) g) (starts g) (shorter_at levels g some) ts b)

  -- one more of many was read and kept
  pub step : (whole : List Token → Reads (List A)) {from s s1 s2 : State} {before after : List A} {v : Option A} → SoFar (reading_many levels g) whole from s before → next_is_in (starts g) s ≡ true →
      Gives levels g s s1 v → Keeps s1 s2 before after v → SoFar (reading_many levels g) whole from s2 after
  step whole {s = s} {s1 = s1} {v = v} so b e k = grown (reading_many levels g) whole so (more_leads s s1 v b e.leads) k

  -- the many are over
  pub over : (whole : List Token → Reads (List A)) {from s : State} {front : List A} → SoFar (reading_many levels g) whole from s front → next_is_in (starts g) s ≡ false → Leads whole from s (Some front)
  over whole {s = s} so b = finished (reading_many levels g) whole s so (end_leads s b)
