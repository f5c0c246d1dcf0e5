-- A whole expression of any depth: what is spelled is read, as what a tree keeps of it, and what is read stands in the text.
use Rattle.std.proofs.Common.{◌≡◌, ◌⊎◌, inl, inr, ⊎_elim, ℕ, ◌-◌, zero, suc, ◌==◌, Bool, true, false, ◌&&◌, ◌||◌, List, ◌++◌, Some, None, refl, ◌∙◌, ap, sym, subst, arith, if◌then◌else◌}
use Rattle.std.specs.Prelude.{codes, is_some}
use Rattle.std.specs.Option.{option_or}
use Rattle.std.proofs.lemmas.Bool.{and_parts, or_parts, ne_eqb}
use Rattle.cx_vtree.specs.declared.operators.Operator.{Operator}
use Rattle.cx_vtree.specs.Layout.{is_name, expr_fits}
use Rattle.cx_vtree.specs.Lines.{op_text, expr_text}
use Rattle.cx_vtree.specs.Plain.{PlainExpr, Named, Number, Part, Word, Applied, Inverted, Chosen, Joined}
use Rattle.cx_vtree.specs.Sound.{Scope, nests_over}
use Rattle.cx_vread_exprs.specs.Deep.{stand_for, deep_at, whole_expr_at}
use Rattle.cx_vread_exprs.specs.Exprs.{part_by, item_by, bracketed_by, named_by, behind_by, applied_by, chosen_by, round_by, inverted_by, brackets_by, expr_at, too_deep_at, most_levels}
use Rattle.cx_vread_exprs.specs.Passing.{shape_at}
use Rattle.cx_vread_exprs.specs.Places as Places
use Rattle.cx_vread_exprs.specs.Places.{Place, Reads, then_reads, then_at, begins}
use Rattle.cx_vscope.specs.Shapes.{shape_of}
use Rattle.cx_vread_exprs.proofs.ExprAgain.{Ends, first_name, bracketed_again, round_again, fewer, closed, no_tilde, no_choice, operator_again, expr-not_part, word_pieces, applied_pieces, inverted_pieces, chosen_pieces, joined_pieces, expr_again}
use Rattle.cx_vread_exprs.proofs.ExprFound.{expr_found}
use Rattle.cx_vread_exprs.proofs.Found.{ends, then_reads_some}
use Rattle.cx_vread_exprs.proofs.Kept.{kept_expr, kept_by}
use Rattle.cx_vread_exprs.proofs.Levels.{levels_are}
use Rattle.cx_vread_exprs.proofs.NumberAgain.{clean}
use Rattle.cx_vread_exprs.proofs.PassAgain.{shape_again}
use Rattle.cx_vread_exprs.proofs.PassFound.{shape_found}

-- Where a part is not read, the whole is not.
item_none : (inner : Place → Reads PlainExpr) (n : List ℕ) (i : PlainExpr) (x : List ℕ) → expr_fits i ≡ true → inner (clean (expr_text i ++ (codes "]" ++ x))) ≡ None
    → bracketed_by inner n (clean (codes "[" ++ (expr_text i ++ (codes "]" ++ x)))) ≡ None
item_none inner n i x fits none =
    let q : Place = clean (expr_text i ++ (codes "]" ++ x)) in
    ap (λ b. if b then part_by n q else then_reads (inner q) (item_by n)) (expr-not_part i (codes "]" ++ x) fits)
    ∙ ap (λ r. then_reads r (item_by n)) none

round_none : (inner : Place → Reads PlainExpr) (a : PlainExpr) (x : List ℕ) → expr_fits a ≡ true → inner (clean (expr_text a ++ (codes " " ++ x))) ≡ None
    → brackets_by inner (clean (codes "(" ++ (expr_text a ++ (codes " " ++ x)))) ≡ None
round_none inner a x fits none =
    let p : Place = clean (codes "(" ++ (expr_text a ++ (codes " " ++ x))) in
    ap (λ o. if is_some o then inverted_by inner p else round_by inner p) (no_tilde a (codes " " ++ x) fits)
    ∙ ap (λ r. then_reads r (λ e r. then_at (Places.after (codes " ") r) (behind_by inner e))) none

applied_none : (inner : Place → Reads PlainExpr) (op : Operator) (a b : PlainExpr) (x : List ℕ) → inner (clean (expr_text b ++ (codes ")" ++ x))) ≡ None
    → behind_by inner a (clean (op_text op ++ (codes " " ++ (expr_text b ++ (codes ")" ++ x))))) ≡ None
applied_none inner op a b x none =
    let p : Place = clean (op_text op ++ (codes " " ++ (expr_text b ++ (codes ")" ++ x)))) in
    ap (λ t. if t then chosen_by inner a p else applied_by inner a p) (no_choice op (expr_text b ++ (codes ")" ++ x)))
    ∙ ap (λ r. then_reads r (λ op q. then_at (Places.after (codes " ") q) (λ r. then_reads (inner r) (λ b s. then_at (Places.after (codes ")") s) (λ t. Some (Applied op a b, t)))))) (operator_again op (expr_text b ++ (codes ")" ++ x)))
    ∙ ap (λ r. then_reads r (λ b s. then_at (Places.after (codes ")") s) (λ t. Some (Applied op a b, t)))) none

inverted_none : (inner : Place → Reads PlainExpr) (a : PlainExpr) (x : List ℕ) → inner (clean (expr_text a ++ (codes ")" ++ x))) ≡ None
    → brackets_by inner (clean (codes "(~" ++ (expr_text a ++ (codes ")" ++ x)))) ≡ None
inverted_none inner a x none = ap (λ r. then_reads r (λ a r. then_at (Places.after (codes ")") r) (λ s. Some (Inverted a, s)))) none

one_none : (inner : Place → Reads PlainExpr) (c a : PlainExpr) (x : List ℕ) → inner (clean (expr_text a ++ (codes " : " ++ x))) ≡ None
    → behind_by inner c (clean (codes "? " ++ (expr_text a ++ (codes " : " ++ x)))) ≡ None
one_none inner c a x none = ap (λ r. then_reads r (λ a r. then_at (Places.after (codes " : ") r) (λ s. then_reads (inner s) (λ b t. then_at (Places.after (codes ")") t) (λ u. Some (Chosen c a b, u)))))) none

other_none : (inner : Place → Reads PlainExpr) (c a b : PlainExpr) (x : List ℕ)
    → inner (clean (expr_text a ++ (codes " : " ++ (expr_text b ++ (codes ")" ++ x))))) ≡ Some (kept_expr a, clean (codes " : " ++ (expr_text b ++ (codes ")" ++ x))))
    → inner (clean (expr_text b ++ (codes ")" ++ x))) ≡ None
    → behind_by inner c (clean (codes "? " ++ (expr_text a ++ (codes " : " ++ (expr_text b ++ (codes ")" ++ x)))))) ≡ None
other_none inner c a b x one none =
    ap (λ r. then_reads r (λ a r. then_at (Places.after (codes " : ") r) (λ s. then_reads (inner s) (λ b t. then_at (Places.after (codes ")") t) (λ u. Some (Chosen c a b, u)))))) one
    ∙ ap (λ r. then_reads r (λ b t. then_at (Places.after (codes ")") t) (λ u. Some (Chosen c (kept_expr a) b, u)))) none

high_none : (inner : Place → Reads PlainExpr) (a : PlainExpr) (x : List ℕ) → inner (clean (expr_text a ++ (codes ", " ++ x))) ≡ None
    → brackets_by inner (clean (codes "{" ++ (expr_text a ++ (codes ", " ++ x)))) ≡ None
high_none inner a x none = ap (λ r. then_reads r (λ a r. then_at (Places.after (codes ", ") r) (λ s. then_reads (inner s) (λ b t. then_at (Places.after (codes "}") t) (λ u. Some (Joined a b, u)))))) none

low_none : (inner : Place → Reads PlainExpr) (a b : PlainExpr) (x : List ℕ)
    → inner (clean (expr_text a ++ (codes ", " ++ (expr_text b ++ (codes "}" ++ x))))) ≡ Some (kept_expr a, clean (codes ", " ++ (expr_text b ++ (codes "}" ++ x))))
    → inner (clean (expr_text b ++ (codes "}" ++ x))) ≡ None
    → brackets_by inner (clean (codes "{" ++ (expr_text a ++ (codes ", " ++ (expr_text b ++ (codes "}" ++ x)))))) ≡ None
low_none inner a b x one none =
    ap (λ r. then_reads r (λ a r. then_at (Places.after (codes ", ") r) (λ s. then_reads (inner s) (λ b t. then_at (Places.after (codes "}") t) (λ u. Some (Joined a b, u)))))) one
    ∙ ap (λ r. then_reads r (λ b t. then_at (Places.after (codes "}") t) (λ u. Some (Joined (kept_expr a) b, u)))) none

-- One level fewer.
same_level : (l : ℕ) (e : PlainExpr) → nests_over (suc l - 1) e ≡ nests_over l e
same_level l e = let n : suc l - 1 ≡ l = omega arith in ap (λ k. nests_over k e) n

one_over : (l : ℕ) (a : PlainExpr) → (suc l == 0 || nests_over (suc l - 1) a) ≡ true → nests_over l a ≡ true
one_over l a h = sym (ap (λ t. t || nests_over (suc l - 1) a) (ne_eqb (suc l) 0 (λ e. omega arith)) ∙ same_level l a) ∙ h

either : (s t : Bool) → (s || t) ≡ true → (s ≡ true) ⊎ ((s ≡ false) × (t ≡ true))
either true t h = inl refl
either false t h = inr (refl, h)

two_over : (l : ℕ) (a b : PlainExpr) → (suc l == 0 || nests_over (suc l - 1) a || nests_over (suc l - 1) b) ≡ true → (nests_over l a ≡ true) ⊎ ((nests_over l a ≡ false) × (nests_over l b ≡ true))
two_over l a b h = ⊎_elim
    (λ one. inl (one_over l a one))
    (λ other. inr (fewer l a (or_parts (suc l == 0) (nests_over (suc l - 1) a) other.0).1, sym (same_level l b) ∙ other.1))
    (either (suc l == 0 || nests_over (suc l - 1) a) (nests_over (suc l - 1) b) h)

none_over : (l : ℕ) (a b : PlainExpr) → (suc l == 0 || nests_over (suc l - 1) a || nests_over (suc l - 1) b) ≡ false → (nests_over l a ≡ false) × (nests_over l b ≡ false)
none_over l a b h =
    let outer = or_parts (suc l == 0 || nests_over (suc l - 1) a) (nests_over (suc l - 1) b) h in
    let inner = or_parts (suc l == 0) (nests_over (suc l - 1) a) outer.0 in
    (fewer l a inner.1, fewer l b outer.1)

-- what nests deeper than there are levels is not read into a tree
expr_deep : (l : ℕ) (e : PlainExpr) (x : List ℕ) → expr_fits e ≡ true → nests_over l e ≡ true → expr_at l (clean (expr_text e ++ x)) ≡ None
expr_deep l (Named n) x f d = absurd (cc)
expr_deep l (Number b) x f d = absurd (cc)
expr_deep l (Part n high low) x f d = absurd (cc)
expr_deep zero (Word n i) x f d =
    let fit = and_parts (is_name n) (expr_fits i) f in
    ap (λ t. expr_at zero (clean t)) (word_pieces n (expr_text i) x)
    ∙ first_name too_deep_at (named_by too_deep_at) n (codes "[" ++ (expr_text i ++ (codes "]" ++ x))) fit.0
    ∙ bracketed_again too_deep_at n (expr_text i ++ (codes "]" ++ x)) None fit.0 (item_none too_deep_at n i x fit.1 refl)
expr_deep (suc l) (Word n i) x f d =
    let fit = and_parts (is_name n) (expr_fits i) f in
    ap (λ t. expr_at (suc l) (clean t)) (word_pieces n (expr_text i) x)
    ∙ first_name (brackets_by (expr_at l)) (named_by (expr_at l)) n (codes "[" ++ (expr_text i ++ (codes "]" ++ x))) fit.0
    ∙ bracketed_again (expr_at l) n (expr_text i ++ (codes "]" ++ x)) None fit.0 (item_none (expr_at l) n i x fit.1 (expr_deep l i (codes "]" ++ x) fit.1 (one_over l i d)))
expr_deep zero (Applied op a b) x f d = refl
expr_deep (suc l) (Applied op a b) x f d =
    let fit = and_parts (expr_fits a) (expr_fits b) f in
    let y : List ℕ = op_text op ++ (codes " " ++ (expr_text b ++ (codes ")" ++ x))) in
    ap (λ t. expr_at (suc l) (clean t)) (applied_pieces (expr_text a) (op_text op) (expr_text b) x)
    ∙ ⊎_elim
    (λ h. round_none (expr_at l) a y fit.0 (expr_deep l a (codes " " ++ y) fit.0 h))
    (λ h. round_again (expr_at l) a y fit.0 (expr_again l a (codes " " ++ y) fit.0 h.0 (closed 32 _ refl refl)) ∙ applied_none (expr_at l) op (kept_expr a) b x (expr_deep l b (codes ")" ++ x) fit.1 h.1))
    (two_over l a b d)
expr_deep zero (Inverted a) x f d = refl
expr_deep (suc l) (Inverted a) x f d =
    ap (λ t. expr_at (suc l) (clean t)) (inverted_pieces (expr_text a) x) ∙ inverted_none (expr_at l) a x (expr_deep l a (codes ")" ++ x) f (one_over l a d))
expr_deep zero (Chosen c a b) x f d = refl
expr_deep (suc l) (Chosen c a b) x f d =
    let fits = and_parts (expr_fits c && expr_fits a) (expr_fits b) f in
    let fit = and_parts (expr_fits c) (expr_fits a) fits.0 in
    let z : List ℕ = expr_text b ++ (codes ")" ++ x) in
    let y : List ℕ = codes "? " ++ (expr_text a ++ (codes " : " ++ z)) in
    let test = λ (h : nests_over l c ≡ false). round_again (expr_at l) c y fit.0 (expr_again l c (codes " " ++ y) fit.0 h (closed 32 _ refl refl)) in
    ap (λ t. expr_at (suc l) (clean t)) (chosen_pieces (expr_text c) (expr_text a) (expr_text b) x)
    ∙ ⊎_elim
    (λ two. ⊎_elim
    (λ h. round_none (expr_at l) c y fit.0 (expr_deep l c (codes " " ++ y) fit.0 h))
    (λ h. test h.0 ∙ one_none (expr_at l) (kept_expr c) a z (expr_deep l a (codes " : " ++ z) fit.1 h.1))
    (two_over l c a two))
    (λ last.
    let none = none_over l c a last.0 in
    test none.0 ∙ other_none (expr_at l) (kept_expr c) a b x (expr_again l a (codes " : " ++ z) fit.1 none.1 (closed 32 _ refl refl)) (expr_deep l b (codes ")" ++ x) fits.1 (sym (same_level l b) ∙ last.1)))
    (either (suc l == 0 || nests_over (suc l - 1) c || nests_over (suc l - 1) a) (nests_over (suc l - 1) b) d)
expr_deep zero (Joined a b) x f d = refl
expr_deep (suc l) (Joined a b) x f d =
    let fit = and_parts (expr_fits a) (expr_fits b) f in
    let z : List ℕ = expr_text b ++ (codes "}" ++ x) in
    ap (λ t. expr_at (suc l) (clean t)) (joined_pieces (expr_text a) (expr_text b) x)
    ∙ ⊎_elim
    (λ h. high_none (expr_at l) a z (expr_deep l a (codes ", " ++ z) fit.0 h))
    (λ h. low_none (expr_at l) a b x (expr_again l a (codes ", " ++ z) fit.0 h.0 (closed 44 _ refl refl)) (expr_deep l b (codes "}" ++ x) fit.1 h.1))
    (two_over l a b d)

-- what is spelled is read, before what does not go on
pub whole_again : (scope : Scope) (e : PlainExpr) (x : List ℕ) → expr_fits e ≡ true → Ends x → whole_expr_at scope (clean (expr_text e ++ x)) ≡ Some (kept_by scope e, clean x)
whole_again scope e x f ends = go (nests_over 128 e) refl
  where
    p : Place
    p = clean (expr_text e ++ x)

    go : (t : Bool) → nests_over 128 e ≡ t → whole_expr_at scope p ≡ Some (kept_by scope e, clean x)
    go false flat =
        ap (λ r. option_or r (deep_at scope p)) (expr_again most_levels e x f (subst (λ n. nests_over n e ≡ false) (sym levels_are) flat) ends)
        ∙ sym (ap (λ t. Some ((if t then stand_for (shape_of scope (kept_expr e)) else kept_expr e), clean x)) flat)
    go true deep =
        ap (λ r. option_or r (deep_at scope p)) (expr_deep most_levels e x f (subst (λ n. nests_over n e ≡ true) (sym levels_are) deep))
        ∙ ap (λ r. then_reads r (λ s q. Some (stand_for s, q))) (shape_again scope e x f ends)
        ∙ sym (ap (λ t. Some ((if t then stand_for (shape_of scope (kept_expr e)) else kept_expr e), clean x)) deep)

-- a whole expression stands at a place, and a tree has what is kept of it; all up to there fits
pub record WholeStands (scope : Scope) (p : Place) (e : PlainExpr) (q : Place) : Type 0 where
  pub one : PlainExpr
  pub text_is : p.rest ≡ expr_text one ++ q.rest
  pub fits_is : p.fits ≡ true
  pub kept_is : kept_by scope one ≡ e
  pub laid : expr_fits one ≡ true

same_place : (p : Place) (t : List ℕ) → p.rest ≡ t → p.fits ≡ true → p ≡ clean t
same_place p t text fits = ap (λ b. record { rest = p.rest; fits = b }) fits ∙ ap clean text

pub whole_found : (scope : Scope) (p : Place) (e : PlainExpr) (q : Place) → whole_expr_at scope p ≡ Some (e, q) → q.fits ≡ true → Ends q.rest → WholeStands scope p e q
whole_found scope p e q is ok behind = go (expr_at most_levels p) refl is
  where
    over : (one : PlainExpr) → expr_at most_levels p ≡ None → p ≡ clean (expr_text one ++ q.rest) → expr_fits one ≡ true → (t : Bool) → nests_over 128 one ≡ t → nests_over 128 one ≡ true
    over one none same laid true deep = deep
    over one none same laid false flat =
        let some = sym (ap (expr_at most_levels) same ∙ expr_again most_levels one q.rest laid (subst (λ n. nests_over n one ≡ false) (sym levels_are) flat) behind) ∙ none in
        absurd (cc)

    go : (o : Reads PlainExpr) → expr_at most_levels p ≡ o → option_or o (deep_at scope p) ≡ Some (e, q) → WholeStands scope p e q
    go (Some y) found is =
        let f = expr_found most_levels p e q (found ∙ is) ok in
        let flat : nests_over 128 f.one ≡ false = subst (λ n. nests_over n f.one ≡ false) levels_are f.flat in
        record {
          one = f.one;
          text_is = f.text_is;
          fits_is = f.fits_is;
          kept_is = ap (λ t. if t then stand_for (shape_of scope (kept_expr f.one)) else kept_expr f.one) flat ∙ f.kept_is;
          laid = f.laid;
        }
    go None none is =
        let s = then_reads_some (shape_at scope p) e q (λ s q. Some (stand_for s, q)) is in
        let both = ends e q (stand_for s.0) s.1 s.3 in
        let f = shape_found scope p s.0 s.1 s.2 in
        let text : p.rest ≡ expr_text f.one ++ q.rest = f.stands.text_is ∙ ap (λ q. expr_text f.one ++ q.rest) both.1 in
        let fits : p.fits ≡ true = f.stands.fits_is ∙ ap (λ q. q.fits) both.1 ∙ ok in
        let deep = over f.one none (same_place p (expr_text f.one ++ q.rest) text fits) f.laid (nests_over 128 f.one) refl in
        record {
          one = f.one;
          text_is = text;
          fits_is = fits;
          kept_is = ap (λ t. if t then stand_for (shape_of scope (kept_expr f.one)) else kept_expr f.one) deep ∙ ap stand_for f.shape_is ∙ both.0;
          laid = f.laid;
        }
