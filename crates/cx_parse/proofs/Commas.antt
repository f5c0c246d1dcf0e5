-- Reading a list with commas, a part at a time.
use Rattle.std.proofs.Common.{◌≡◌, ℕ, ◌<◌, true, false, List, [], ◌∷◌, ◌++◌, length, Option, Some, None, Ok, refl, sym, ap, ◌∙◌, subst, arith}
use Rattle.cx_ast.specs.declared.tokens.Token.{Token}
use Rattle.cx_text.specs.declared.places.Place.{Place}
use Rattle.cx_grammar.specs.declared.terminals.Terminal.TheVariants.{Comma}
use Rattle.cx_grammar.specs.Terminals.{terminal_of, is_in, begins}
use Rattle.cx_grammar.specs.Grammar.{Grammar, Commas, starts, nullable}
use Rattle.cx_grammar.specs.Reading.{Reads, then_reads, one_at, commas_at, read}
use Rattle.cx_grammar.specs.Calyx.{nested_at, sign}
use Rattle.cx_grammar.proofs.Loops.{shorter_at, commas-none, commas-last, commas-unroll}
use Rattle.cx_parse.specs.declared.stops.Stop.TheVariants as stops
use Rattle.cx_parse.specs.Readings.{State, Going, Stopped, Fails, Ends, Leads, Gives, GivesCommas, commas_behind, next_is_in, listed, Keeps}
use Rattle.cx_parse.proofs.Steps.{seen, fails_then, ends_seen, ok_same}
use Rattle.cx_parse.proofs.Lists.{left, nearer, SoFar, grown, finished}

picked : (t : Token) (ts : List Token) → is_in (terminal_of t.kind) (Comma ∷ []) ≡ true → one_at (Comma ∷ []) (λ t. t.place) (t ∷ ts) ≡ Ok (t.place, ts)
picked t ts b = rw b refl

-- behind a comma
passed : (t : Token) (ts mid : List Token) (p : Place) → is_in (terminal_of t.kind) (Comma ∷ []) ≡ true → one_at (Comma ∷ []) (λ t. t.place) (t ∷ ts) ≡ Ok (p, mid) → mid ≡ ts
passed t ts mid p b e = sym (ap (λ u. u.1) (ok_same (t.place, ts) (p, mid) (sym (picked t ts b) ∙ e)))

-- what follows a part of a list with commas
abbrev pub reading_commas : {A : Type 0} → ℕ → Grammar A → List Token → Reads (List A)
reading_commas levels g ts = commas_at (read (nested_at levels) g) (starts g) ts

module _ {A : Type 0} (levels : ℕ) (g : Grammar A) (some : nullable g ≡ false) where
  unrolled : (t : Token) (ts : List Token) → is_in (terminal_of t.kind) (Comma ∷ []) ≡ true → begins (starts g) ts ≡ true →
      reading_commas levels g (t ∷ ts) ≡ then_reads (read (nested_at levels) g ts) (λ x mid. seen (λ xs. x ∷ xs) (reading_commas levels g mid))
  unrolled t ts c b = commas-unroll (read (nested_at levels) g) (starts g) (shorter_at levels g some) t ts c b

  more_leads : (s s1 s2 : State) (p : Place) (v : Option A) → next_is_in (Comma ∷ []) s ≡ true → Leads (read (nested_at levels) (sign Comma)) s s1 (Some p) → next_is_in (starts g) s1 ≡ true → Leads (read (nested_at levels) g) s1 s2 v →
      (new : State) (xs : List A) → Leads (reading_commas levels g) s2 new (Some xs) → Leads (reading_commas levels g) s new (Some (listed v ++ xs))
  more_leads (Stopped u) s1 s2 p v c k b e new xs f = absurd (cc)
  more_leads (Going []) s1 s2 p v c k b e new xs f = absurd (cc)
  more_leads (Going (t ∷ ts)) (Stopped u) s2 p v c k b e new xs f = absurd (cc)
  more_leads (Going (t ∷ ts)) (Going mid) (Stopped u) p v c k b e new xs f =
      let m = passed t ts mid p c k in
      subst (λ s. Ends (reading_commas levels g (t ∷ ts)) s (Some (listed v ++ xs))) (sym f)
      (subst (Fails u) (sym (unrolled t ts c (subst (λ us. begins (starts g) us ≡ true) m b))) (fails_then u (read (nested_at levels) g ts) _ (subst (λ us. Fails u (read (nested_at levels) g us)) m e)))
  more_leads (Going (t ∷ ts)) (Going mid) (Going after) p None c k b e new xs f = absurd e
  more_leads (Going (t ∷ ts)) (Going mid) (Going after) p (Some x) c k b e new xs f =
      let m = passed t ts mid p c k in
      subst (λ r. Ends r new (Some (x ∷ xs)))
      (sym (unrolled t ts c (subst (λ us. begins (starts g) us ≡ true) m b) ∙ ap (λ r. then_reads r (λ x mid. seen (λ xs. x ∷ xs) (reading_commas levels g mid))) (subst (λ us. read (nested_at levels) g us ≡ Ok (x, after)) m e)))
      (ends_seen (λ xs. x ∷ xs) (reading_commas levels g after) new (Some xs) f)

  last_leads : (s s1 : State) (p : Place) → next_is_in (Comma ∷ []) s ≡ true → Leads (read (nested_at levels) (sign Comma)) s s1 (Some p) → next_is_in (starts g) s1 ≡ false → Leads (reading_commas levels g) s s1 (Some [])
  last_leads (Stopped u) s1 p c k b = absurd (cc)
  last_leads (Going []) s1 p c k b = absurd (cc)
  last_leads (Going (t ∷ ts)) (Stopped (stops.Unexpected n)) p c k b = let no = sym (picked t ts c) ∙ k in absurd (cc)
  last_leads (Going (t ∷ ts)) (Stopped (stops.TooDeep n)) p c k b = let no = sym (picked t ts c) ∙ k in absurd (cc)
  last_leads (Going (t ∷ ts)) (Stopped stops.Memory) p c k b = tt
  last_leads (Going (t ∷ ts)) (Going mid) p c k b =
      let m = passed t ts mid p c k in
      commas-last (read (nested_at levels) g) (starts g) (shorter_at levels g some) t ts c (subst (λ us. begins (starts g) us ≡ false) m b) ∙ ap (λ us. Ok ([], us)) (sym m)

  end_leads : (s : State) → next_is_in (Comma ∷ []) s ≡ false → Leads (reading_commas levels g) s s (Some [])
  end_leads (Stopped u) c = refl
  end_leads (Going ts) c = commas-none (read (nested_at levels) g) (starts g) (shorter_at levels g some) ts c

  -- one more was read behind a comma and kept
  pub comma_step : (whole : List Token → Reads (List A)) {from s s1 s2 s3 : State} {p : Place} {before after : List A} {v : Option A} → SoFar (reading_commas levels g) whole from s before →
      next_is_in (Comma ∷ []) s ≡ true → Gives levels (sign Comma) s s1 (Some p) → next_is_in (starts g) s1 ≡ true → Gives levels g s1 s2 v → Keeps s2 s3 before after v → SoFar (reading_commas levels g) whole from s3 after
  comma_step whole {s = s} {s1 = s1} {s2 = s2} {p = p} {v = v} so c k b e kept = grown (reading_commas levels g) whole so (more_leads s s1 s2 p v c k.leads b e.leads) kept

  -- the list is over behind a comma, or without one
  pub comma_last : (whole : List Token → Reads (List A)) {from s s1 : State} {p : Place} {front : List A} → SoFar (reading_commas levels g) whole from s front → next_is_in (Comma ∷ []) s ≡ true →
      Gives levels (sign Comma) s s1 (Some p) → next_is_in (starts g) s1 ≡ false → Leads whole from s1 (Some front)
  comma_last whole {s = s} {s1 = s1} {p = p} so c k b = finished (reading_commas levels g) whole s1 so (last_leads s s1 p c k.leads b)

  pub comma_over : (whole : List Token → Reads (List A)) {from s : State} {front : List A} → SoFar (reading_commas levels g) whole from s front → next_is_in (Comma ∷ []) s ≡ false → Leads whole from s (Some front)
  comma_over whole {s = s} so c = finished (reading_commas levels g) whole s so (end_leads s c)

  commas_leads : (s0 s1 s2 : State) (x : A) (xs : List A) → Leads (read (nested_at levels) g) s0 s1 (Some x) → Leads (commas_behind levels g x) s1 s2 (Some xs) → Leads (read (nested_at levels) (Commas (λ ps. ps) g)) s0 s2 (Some xs)
  commas_leads (Stopped t) (Stopped u) s2 x xs e f = f ∙ e
  commas_leads (Stopped t) (Going mid) s2 x xs e f = absurd (cc)
  commas_leads (Going ts) (Stopped u) s2 x xs e f = subst (λ s. Ends (read (nested_at levels) (Commas (λ ps. ps) g) ts) s (Some xs)) (sym f) (fails_then u (read (nested_at levels) g ts) _ e)
  commas_leads (Going ts) (Going mid) s2 x xs e f = subst (λ r. Ends r s2 (Some xs)) (sym (ap (λ r. then_reads r (λ x mid. seen (λ xs. x ∷ xs) (reading_commas levels g mid))) e)) f

  -- the first, and those behind it
  pub commas : {s0 s1 s2 : State} {x : A} {xs : List A} → Gives levels g s0 s1 (Some x) → GivesCommas levels g x s1 s2 xs → Gives levels (Commas (λ ps. ps) g) s0 s2 (Some xs)
  commas {s0 = s0} {s1 = s1} {s2 = s2} {x = x} {xs = xs} e f = record { leads = commas_leads s0 s1 s2 x xs e.leads f.leads }

  no_leads : (s0 s1 : State) (v : Option (List A)) → Leads (read (nested_at levels) g) s0 s1 None → Leads (read (nested_at levels) (Commas (λ ps. ps) g)) s0 s1 v
  no_leads (Stopped t) s1 v e = e
  no_leads (Going ts) (Stopped u) v e = fails_then u (read (nested_at levels) g ts) _ e
  no_leads (Going ts) (Going mid) v e = absurd e

  -- reading stops in the first
  pub no_commas : {s0 s1 : State} {v : Option (List A)} → Gives levels g s0 s1 None → Gives levels (Commas (λ ps. ps) g) s0 s1 v
  no_commas {s0 = s0} {s1 = s1} {v = v} e = record { leads = no_leads s0 s1 v e.leads }

  comma_left : (s s1 : State) (p : Place) → next_is_in (Comma ∷ []) s ≡ true → Leads (read (nested_at levels) (sign Comma)) s s1 (Some p) → left s1 < left s
  comma_left (Stopped u) s1 p c k = absurd (cc)
  comma_left (Going []) s1 p c k = absurd (cc)
  comma_left (Going (t ∷ ts)) (Stopped u) p c k = omega arith
  comma_left (Going (t ∷ ts)) (Going mid) p c k = let m = ap length (passed t ts mid p c k) in omega arith

  -- the comma and the part behind it take tokens
  pub comma_nearer : {X : Type 0} {s s1 s2 s3 : State} {p : Place} {v : Option A} {before after : List X} {item : Option X} → next_is_in (Comma ∷ []) s ≡ true → Gives levels (sign Comma) s s1 (Some p) →
      next_is_in (starts g) s1 ≡ true → Gives levels g s1 s2 v → Keeps s2 s3 before after item → left s3 < left s
  comma_nearer {s = s} {s1 = s1} {s2 = s2} {s3 = s3} {p = p} c k b e kept =
      let near = nearer levels g some b e kept in
      let far = comma_left s s1 p c k.leads in
      omega arith
