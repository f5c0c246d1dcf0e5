-- Parts that are read one after another stand one after another.
use Rattle.std.proofs.Common.{◌≡◌, ℕ, ◌≤◌, zero, suc, Bool, true, false, List, [], ◌∷◌, ◌++◌, map, length, inl, inr, ◌⊎◌, ⊎_elim, subst, Some, refl, ◌∙◌, ap, sym, arith, append_assoc, if◌then◌else◌}
use Rattle.std.specs.List.{list_all}
use Rattle.std.proofs.lemmas.Bool.{and_from}
use Rattle.cx_vread_exprs.specs.Places.{Place, Reads, then_reads, many}
use Rattle.cx_vread_exprs.proofs.Found.{ends, then_reads_some}
use Rattle.cx_vread.proofs.ManyAgain.{joined_text}

-- a part stands at a place, and a tree has what is kept of it; all up to there fits
pub record Found {X Y : Type 0} (kept : X → Y) (text : X → List ℕ) (good : X → Bool) (p : Place) (y : Y) (q : Place) : Type 0 where
  pub one : X
  pub text_is : p.rest ≡ text one ++ q.rest
  pub fits_is : p.fits ≡ true
  pub kept_is : kept one ≡ y
  pub good_is : good one ≡ true

abbrev pub FindsBy : {X Y : Type 0} → (X → Y) → (X → List ℕ) → (X → Bool) → (Place → Reads Y) → Type 0
FindsBy {X} {Y} kept text good read = (p : Place) (y : Y) (q : Place) → read p ≡ Some (y, q) → q.fits ≡ true → Found kept text good p y q

pub record FoundMany {X Y : Type 0} (starts : Place → Bool) (kept : X → Y) (text : X → List ℕ) (good : X → Bool) (n : ℕ) (p : Place) (ys : List Y) (q : Place) : Type 0 where
  pub all : List X
  pub text_is : p.rest ≡ joined_text text all ++ q.rest
  pub fits_is : p.fits ≡ true
  pub kept_is : map kept all ≡ ys
  pub good_is : list_all good all ≡ true
  pub few : length all ≤ n
  pub until : (starts q ≡ false) ⊎ (length all ≡ n)

module _ {X Y : Type 0} {kept : X → Y} {text : X → List ℕ} {good : X → Bool} where
  none_found : (starts : Place → Bool) (n : ℕ) (p : Place) (ys : List Y) (q : Place) → (starts p ≡ false) ⊎ (0 ≡ n) → ◌≡◌ {A = Reads (List Y)} (Some ([], p)) (Some (ys, q)) → q.fits ≡ true → FoundMany starts kept text good n p ys q
  none_found starts n p ys q until is ok =
      let both = ends ys q [] p is in
      record { all = []; text_is = ap (λ q. q.rest) both.1; fits_is = ap (λ q. q.fits) both.1 ∙ ok; kept_is = both.0; good_is = refl; few = omega arith; until = subst (λ q. (starts q ≡ false) ⊎ (0 ≡ n)) both.1 until }

  pub many_found : (starts : Place → Bool) (one : Place → Reads Y) → FindsBy kept text good one → (n : ℕ) (p : Place) (ys : List Y) (q : Place) → many starts one n p ≡ Some (ys, q) → q.fits ≡ true → FoundMany starts kept text good n p ys q
  many_found starts one finds zero p ys q is ok = none_found starts zero p ys q (inr refl) is ok
  many_found starts one finds (suc n) p ys q is ok = go (λ r zs s h k. many_found starts one finds n r zs s h k) (starts p) refl is
    where
      go : ((r : Place) (zs : List Y) (s : Place) → many starts one n r ≡ Some (zs, s) → s.fits ≡ true → FoundMany starts kept text good n r zs s) → (t : Bool) → starts p ≡ t → if◌then◌else◌ {A = Reads (List Y)} t (then_reads (one p) (λ x q. then_reads (many starts one n q) (λ xs r. Some (x ∷ xs, r)))) (Some ([], p)) ≡ Some (ys, q) → FoundMany starts kept text good (suc n) p ys q
      go again false none is = none_found starts (suc n) p ys q (inl none) is ok
      go again true some is =
          let s1 = then_reads_some (one p) ys q (λ x q. then_reads (many starts one n q) (λ xs r. Some (x ∷ xs, r))) is in
          let s2 = then_reads_some (many starts one n s1.1) ys q (λ xs r. Some (s1.0 ∷ xs, r)) s1.3 in
          let both = ends ys q (s1.0 ∷ s2.0) s2.1 s2.3 in
          let rest = again s1.1 s2.0 s2.1 s2.2 (ap (λ q. q.fits) both.1 ∙ ok) in
          let first = finds p s1.0 s1.1 s1.2 rest.fits_is in
          let few = rest.few in
          record {
            all = first.one ∷ rest.all;
            text_is = first.text_is ∙ ap (λ t. text first.one ++ t) (rest.text_is ∙ ap (λ q. joined_text text rest.all ++ q.rest) both.1) ∙ sym (append_assoc (text first.one) (joined_text text rest.all) q.rest);
            fits_is = first.fits_is;
            kept_is = ap (λ x. x ∷ map kept rest.all) first.kept_is ∙ ap (λ xs. s1.0 ∷ xs) rest.kept_is ∙ both.0;
            good_is = and_from (good first.one) (list_all good rest.all) first.good_is rest.good_is;
            few = omega arith;
            until = ⊎_elim (λ none. inl (ap starts (sym both.1) ∙ none)) (λ out. let same = out in inr (omega arith)) rest.until;
          }
