-- Ports that are gathered one by one.
use Rattle.std.proofs.Common.{◌≡◌, ℕ, zero, suc, ◌+◌, ◌-◌, ◌<◌, Bool, true, false, List, get_or, [], ◌∷◌, ◌++◌, length, take, set, Option, Some, None, Ok, Err, append_assoc, refl, sym, ap, ◌∙◌, arith}
use Rattle.cx_bits.specs.BitVector.{BitVector}
use Rattle.cx_prim.specs.declared.ports.PortRow.{PortRow}
use Rattle.cx_meaning.specs.declared.sights.Seen.{Seen}
use Rattle.cx_meaning.specs.declared.sights.Seen.TheVariants.{Value, Conflict, Undefined}
use Rattle.cx_meaning.specs.Sights.{Gathered, Given, Lacks, with_entry, gather_port, gather}
use Rattle.cx_prim.specs.Rows.{FitsPorts}
use Rattle.cx_eval_drives.specs.Gathers.{gather_all, entry_of, WantedAreWide}

pub counts : (look : ℕ → Seen) (wanted : ℕ → Bool) (p : ℕ) (ports : List PortRow) → gather look wanted p ports ≡ gather_all look wanted p (length ports)
counts look wanted p [] = refl
counts look wanted p (port ∷ ports) = ap (gather_port (wanted p) p (look p)) (counts look wanted (suc p) ports)

-- entries in front of what is gathered
abbrev pub with_front : List (Option BitVector) → Gathered → Gathered
with_front xs (Given rest) = Given (xs ++ rest)
with_front xs (Lacks p x) = Lacks p x

front_more : (xs : List (Option BitVector)) (e : Option BitVector) (g : Gathered) → with_front (xs ++ e ∷ []) g ≡ with_front xs (with_entry e g)
front_more xs e (Given rest) = ap (λ ys. Given ys) (append_assoc xs (e ∷ []) rest)
front_more xs e (Lacks p x) = refl

front_none : (g : Gathered) → with_front [] g ≡ g
front_none (Given rest) = refl
front_none (Lacks p x) = refl

entry_ok : (w : Bool) (p : ℕ) (x : Seen) (e : Option BitVector) (g : Gathered) → entry_of w x ≡ Ok e → gather_port w p x g ≡ with_entry e g
entry_ok false p x e g is = ap (λ (o : Option BitVector). with_entry o g) (let f : Ok None ≡ Ok e = is in cc)
entry_ok true p (Value b) e g is = ap (λ (o : Option BitVector). with_entry o g) (let f : Ok (Some b) ≡ Ok e = is in cc)
entry_ok true p Conflict e g is = cc
entry_ok true p Undefined e g is = cc

entry_err : (w : Bool) (p : ℕ) (x y : Seen) (g : Gathered) → entry_of w x ≡ Err y → gather_port w p x g ≡ Lacks p y
entry_err false p x y g is = cc
entry_err true p (Value b) y g is = cc
entry_err true p Conflict y g is = ap (λ (s : Seen). Lacks p s) (let f : Err Conflict ≡ Err y = is in cc)
entry_err true p Undefined y g is = ap (λ (s : Seen). Lacks p s) (let f : Err Undefined ≡ Err y = is in cc)

take_set : (xs : List (Option BitVector)) (p : ℕ) (e : Option BitVector) → p < length xs → take (p + 1) (set xs p e) ≡ take p xs ++ e ∷ []
take_set xs p e lt = (let s : p + 1 ≡ suc p = omega arith in ap (λ n. take n (set xs p e)) s) ∙ by xs p lt
  where
    by : (ys : List (Option BitVector)) (n : ℕ) → n < length ys → take (suc n) (set ys n e) ≡ take n ys ++ e ∷ []
    by [] n lt = absurd (omega arith)
    by (y ∷ ys) zero lt = refl
    by (y ∷ ys) (suc n) lt = ap (λ zs. y ∷ zs) (by ys n (let h : suc n < suc (length ys) = lt in omega arith))

module _ (look : ℕ → Seen) (wanted : ℕ → Bool) where
  -- the ports before p are gathered, of so many
  abbrev pub IsSoFar : ℕ → List (Option BitVector) → ℕ → Type 0
  IsSoFar count inputs p = with_front (take p inputs) (gather_all look wanted p (count - p)) ≡ gather_all look wanted 0 count

  pub so_far_begin : (count : ℕ) (inputs : List (Option BitVector)) → IsSoFar count inputs 0
  so_far_begin count inputs = front_none (gather_all look wanted 0 (count - 0)) ∙ (let s : count - 0 ≡ count = omega arith in ap (gather_all look wanted 0) s)

  one_more : (count p : ℕ) → p < count → gather_all look wanted p (count - p) ≡ gather_port (wanted p) p (look p) (gather_all look wanted (p + 1) (count - (p + 1)))
  one_more count p lt =
      let s : count - p ≡ suc (count - (p + 1)) = omega arith in
      let n : suc p ≡ p + 1 = omega arith in
      ap (gather_all look wanted p) s ∙ ap (λ k. gather_port (wanted p) p (look p) (gather_all look wanted k (count - (p + 1)))) n

  pub so_far_next : (count p : ℕ) (inputs : List (Option BitVector)) (e : Option BitVector) → p < count → p < length inputs → IsSoFar count inputs p → entry_of (wanted p) (look p) ≡ Ok e → IsSoFar count (set inputs p e) (p + 1)
  so_far_next count p inputs e lt inside far is =
      ap (λ xs. with_front xs (gather_all look wanted (p + 1) (count - (p + 1)))) (take_set inputs p e inside)
      ∙ front_more (take p inputs) e (gather_all look wanted (p + 1) (count - (p + 1)))
      ∙ ap (with_front (take p inputs)) (sym (entry_ok (wanted p) p (look p) e (gather_all look wanted (p + 1) (count - (p + 1))) is) ∙ sym (one_more count p lt))
      ∙ far

  pub so_far_lacks : (count p : ℕ) (inputs : List (Option BitVector)) (x : Seen) → p < count → IsSoFar count inputs p → entry_of (wanted p) (look p) ≡ Err x → Lacks p x ≡ gather_all look wanted 0 count
  so_far_lacks count p inputs x lt far is =
      ap (with_front (take p inputs)) (sym (entry_err (wanted p) p (look p) x (gather_all look wanted (p + 1) (count - (p + 1))) is) ∙ sym (one_more count p lt)) ∙ far

-- WHAT IS GIVEN is what is seen, an entry for each port
entry_step : (w : Bool) (p : ℕ) (x : Seen) (g : Gathered) (xs : List (Option BitVector)) → gather_port w p x g ≡ Given xs
    → (e : Option BitVector) × (ys : List (Option BitVector)) × (g ≡ Given ys) × (xs ≡ e ∷ ys) × ((b : BitVector) → e ≡ Some b → x ≡ Value b)
entry_step false p x (Given ys) xs is = (None, ys, refl, (let f : Given (None ∷ ys) ≡ Given xs = is in cc), λ b e. cc)
entry_step false p x (Lacks q y) xs is = cc
entry_step true p (Value v) (Given ys) xs is = (Some v, ys, refl, (let f : Given (Some v ∷ ys) ≡ Given xs = is in cc), λ b e. cc)
entry_step true p (Value v) (Lacks q y) xs is = cc
entry_step true p Conflict g xs is = cc
entry_step true p Undefined g xs is = cc

module _ (look : ℕ → Seen) (wanted : ℕ → Bool) where
  given_count : (p n : ℕ) (xs : List (Option BitVector)) → gather_all look wanted p n ≡ Given xs → length xs ≡ n
  given_count p zero xs is = let f : [] ≡ xs = cc in ap length (sym f)
  given_count p (suc n) xs is =
      let s = entry_step (wanted p) p (look p) (gather_all look wanted (suc p) n) xs is in
      ap length s.3 ∙ ap suc (given_count (suc p) n s.1 s.2)

  given_seen : (p n : ℕ) (xs : List (Option BitVector)) → gather_all look wanted p n ≡ Given xs → (k : ℕ) (b : BitVector) → get_or xs k None ≡ Some b → look (p + k) ≡ Value b
  given_seen p zero xs is k b e = let f : [] ≡ xs = cc in absurd (none_is (get_or xs k None) b (sym (ap (λ ys. get_or ys k None) f)) e)
    where
      none_is : (o : Option BitVector) (b : BitVector) → o ≡ None → o ≡ Some b → ⊥
      none_is o b e f = cc
  given_seen p (suc n) xs is zero b e =
      let s = entry_step (wanted p) p (look p) (gather_all look wanted (suc p) n) xs is in
      let z : p + 0 ≡ p = omega arith in
      ap look z ∙ s.4 b (ap (λ ys. get_or ys 0 None) (sym s.3) ∙ e)
  given_seen p (suc n) xs is (suc k) b e =
      let s = entry_step (wanted p) p (look p) (gather_all look wanted (suc p) n) xs is in
      let z : p + suc k ≡ suc p + k = omega arith in
      ap look z ∙ given_seen (suc p) n s.1 s.2 k b (ap (λ ys. get_or ys (suc k) None) (sym s.3) ∙ e)

-- only what is wanted is given
unwanted_none : (p : ℕ) (x : Seen) (g : Gathered) (xs : List (Option BitVector)) → gather_port false p x g ≡ Given xs → get_or xs 0 None ≡ None
unwanted_none p x (Given ys) xs is = let f : None ∷ ys ≡ xs = (let h : Given (None ∷ ys) ≡ Given xs = is in cc) in ap (λ zs. get_or zs 0 None) (sym f)
unwanted_none p x (Lacks q y) xs is = cc

module _ (look : ℕ → Seen) (wanted : ℕ → Bool) where
  given_wanted : (p n : ℕ) (xs : List (Option BitVector)) → gather_all look wanted p n ≡ Given xs → (k : ℕ) (b : BitVector) → get_or xs k None ≡ Some b → wanted (p + k) ≡ true
  given_wanted p zero xs is k b e = let f : [] ≡ xs = cc in absurd (none_is (get_or xs k None) b (sym (ap (λ ys. get_or ys k None) f)) e)
    where
      none_is : (o : Option BitVector) (b : BitVector) → o ≡ None → o ≡ Some b → ⊥
      none_is o b e f = cc
  given_wanted p (suc n) xs is zero b e = choice (wanted p) refl
    where
      none_is : (o : Option BitVector) (b : BitVector) → o ≡ None → o ≡ Some b → ⊥
      none_is o b e f = cc

      choice : (w : Bool) → wanted p ≡ w → wanted (p + 0) ≡ true
      choice true f = (let z : p + 0 ≡ p = omega arith in ap wanted z) ∙ f
      choice false f =
          let rest = gather_all look wanted (suc p) n in
          absurd (none_is (get_or xs 0 None) b (unwanted_none p (look p) rest xs (ap (λ w. gather_port w p (look p) rest) (sym f) ∙ is)) e)
  given_wanted p (suc n) xs is (suc k) b e =
      let s = entry_step (wanted p) p (look p) (gather_all look wanted (suc p) n) xs is in
      let z : p + suc k ≡ suc p + k = omega arith in
      ap wanted z ∙ given_wanted (suc p) n s.1 s.2 k b (ap (λ ys. get_or ys (suc k) None) (sym s.3) ∙ e)

  pub wanted_fits : (ports : List PortRow) (n : ℕ) (xs : List (Option BitVector)) → n ≡ length ports → WantedAreWide wanted look ports → Given xs ≡ gather_all look wanted 0 n → FitsPorts ports xs
  wanted_fits ports n xs same wide is = record {
    count = given_count look wanted 0 n xs (sym is) ∙ same;
    widths =
        λ k port b at e.
        let z : 0 + k ≡ k = omega arith in
        wide k port b at (ap wanted (sym z) ∙ given_wanted 0 n xs (sym is) k b e) (ap look (sym z) ∙ given_seen look wanted 0 n xs (sym is) k b e);
  }
