-- An expression that is read stands there: a tree has what is kept of it.
use Rattle.std.proofs.Common.{◌≡◌, ℕ, ◌-◌, inl, inr, zero, suc, ◌==◌, Bool, true, false, ◌&&◌, ◌||◌, List, ◌++◌, Some, refl, ◌∙◌, ap, sym, subst, arith, if◌then◌else◌}
use Rattle.std.specs.Prelude.{codes}
use Rattle.std.specs.Str.Parse.{digits_value}
use Rattle.std.proofs.lemmas.Bool.{and_from, or_parts, ne_eqb, or_from}
use Rattle.cx_vtree.specs.Layout.{is_name, expr_fits}
use Rattle.cx_vtree.specs.Lines.{number_text, decimal_text, op_text, expr_text}
use Rattle.cx_vtree.specs.Plain.{PlainExpr, Named, Number, Part, Word, Applied, Inverted, Chosen, Joined}
use Rattle.cx_vtree.specs.Sound.{nests_over}
use Rattle.cx_vread_exprs.specs.Places.{Place, Reads, then_reads, then_at, after, begins}
use Rattle.cx_vread_exprs.specs.Tokens.{name_at, digits_at, kept_small, kept_literal, small_at, literal_at}
use Rattle.cx_vread_exprs.specs.Exprs.{operator_at, too_deep_at, is_part, part_by, item_by, bracketed_by, named_by, joined_by, inverted_by, chosen_by, applied_by, behind_by, round_by, brackets_by, starts_digit, by_first, expr_at}
use Rattle.cx_vread_exprs.proofs.Kept.{kept_expr}
use Rattle.cx_vread_exprs.proofs.ExprAgain.{number_pieces, part_pieces, word_pieces, applied_pieces, inverted_pieces, chosen_pieces, joined_pieces}
use Rattle.cx_vread_exprs.proofs.Found.{ends, Stands, then_reads_some, step_at, name_found, digits_found, numeral_text}
use Rattle.cx_vread_exprs.proofs.SignsFound.{small_found, operator_found}

-- an expression stands at a place, and a tree has what is kept of it; all up to there fits
pub record ExprStands (levels : ℕ) (p : Place) (e : PlainExpr) (q : Place) : Type 0 where
  pub one : PlainExpr
  pub text_is : p.rest ≡ expr_text one ++ q.rest
  pub fits_is : p.fits ≡ true
  pub kept_is : kept_expr one ≡ e
  pub laid : expr_fits one ≡ true
  pub flat : nests_over levels one ≡ false

-- the same of what stands one level deeper
pub record InnerStands (levels : ℕ) (p : Place) (e : PlainExpr) (q : Place) : Type 0 where
  pub one : PlainExpr
  pub text_is : p.rest ≡ expr_text one ++ q.rest
  pub fits_is : p.fits ≡ true
  pub kept_is : kept_expr one ≡ e
  pub laid : expr_fits one ≡ true
  pub flat : (levels == 0 || nests_over (levels - 1) one) ≡ false

abbrev pub Finds : ℕ → (Place → Reads PlainExpr) → Type 0
Finds levels read = (p : Place) (e : PlainExpr) (q : Place) → read p ≡ Some (e, q) → q.fits ≡ true → ExprStands levels p e q

abbrev FindsInner : ℕ → (Place → Reads PlainExpr) → Type 0
FindsInner levels read = (p : Place) (e : PlainExpr) (q : Place) → read p ≡ Some (e, q) → q.fits ≡ true → InnerStands levels p e q

lower : (l : ℕ) (read : Place → Reads PlainExpr) → Finds l read → FindsInner (suc l) read
lower l read h p e q is ok =
    let x = h p e q is ok in
    let one : l ≡ suc l - 1 = omega arith in
    record { one = x.one; text_is = x.text_is; fits_is = x.fits_is; kept_is = x.kept_is; laid = x.laid; flat = or_from (suc l == 0) (nests_over (suc l - 1) x.one) (ne_eqb (suc l) 0 (λ e. omega arith)) (subst (λ n. nests_over n x.one ≡ false) one x.flat) }

-- nothing is read where no level is left
none_found : {P : Type 0} (p : Place) (e : PlainExpr) (q : Place) → too_deep_at p ≡ Some (e, q) → P
none_found p e q is = absurd (cc)

-- literals
pub record LiteralFound (p : Place) (e : PlainExpr) (q : Place) : Type 0 where
  pub width : ℕ
  pub value : ℕ
  pub stands : Stands (expr_text (Number (record { width = width; value = value }))) p q
  pub kept_is : kept_literal width value ≡ e

pub literal_stands : (p : Place) (e : PlainExpr) (q : Place) → literal_at p ≡ Some (e, q) → LiteralFound p e q
literal_stands p e q is =
    let s1 = then_reads_some (digits_at 10 p) e q (λ ws q. then_at (after (codes "'h") q) (λ r. then_reads (digits_at 16 r) (λ vs s. Some (kept_literal (digits_value 10 ws) (digits_value 16 vs), s)))) is in
    let s2 = step_at (codes "'h") s1.1 e q (λ r. then_reads (digits_at 16 r) (λ vs s. Some (kept_literal (digits_value 10 s1.0) (digits_value 16 vs), s))) s1.3 in
    let s3 = then_reads_some (digits_at 16 s2.0) e q (λ vs s. Some (kept_literal (digits_value 10 s1.0) (digits_value 16 vs), s)) s2.2 in
    let both = ends e q (kept_literal (digits_value 10 s1.0) (digits_value 16 s3.0)) s3.1 s3.3 in
    let w = digits_found 10 p s1.0 s1.1 s1.2 in
    let v = digits_found 16 s2.0 s3.0 s3.1 s3.2 in
    record {
      width = digits_value 10 s1.0;
      value = digits_value 16 s3.0;
      stands = record {
        text_is = w.stands.text_is ∙ ap (λ t. t ++ s1.1.rest) (sym (numeral_text 10 s1.0 (inl refl) w.digits w.numeral))
            ∙ ap (λ t. decimal_text (digits_value 10 s1.0) ++ t) (s2.1.text_is ∙ ap (λ t. codes "'h" ++ t) (v.stands.text_is ∙ ap (λ t. t ++ s3.1.rest) (sym (numeral_text 16 s3.0 (inr refl) v.digits v.numeral)) ∙ ap (λ q. number_text 16 (digits_value 16 s3.0) ++ q.rest) both.1))
            ∙ sym (number_pieces (digits_value 10 s1.0) (digits_value 16 s3.0) q.rest);
        fits_is = w.stands.fits_is ∙ s2.1.fits_is ∙ v.stands.fits_is ∙ ap (λ q. q.fits) both.1;
      };
      kept_is = both.0;
    }

literal_found : (l : ℕ) → Finds l literal_at
literal_found l p e q is ok =
    let f = literal_stands p e q is in
    record { one = Number (record { width = f.width; value = f.value }); text_is = f.stands.text_is; fits_is = f.stands.fits_is ∙ ok; kept_is = f.kept_is; laid = refl; flat = refl }

-- names, and what stands in square brackets after them
pub record PartFound (n : List ℕ) (r : Place) (e : PlainExpr) (q : Place) : Type 0 where
  pub high : ℕ
  pub low : ℕ
  pub text_is : r.rest ≡ decimal_text high ++ (codes ":" ++ (decimal_text low ++ (codes "]" ++ q.rest)))
  pub fits_is : r.fits ≡ q.fits
  pub kept_is : Part n (kept_small high) (kept_small low) ≡ e

pub part_stands : (n : List ℕ) (r : Place) (e : PlainExpr) (q : Place) → part_by n r ≡ Some (e, q) → PartFound n r e q
part_stands n r e q is =
    let s1 = then_reads_some (small_at r) e q (λ h q. then_at (after (codes ":") q) (λ r. then_reads (small_at r) (λ l s. then_at (after (codes "]") s) (λ t. Some (Part n h l, t))))) is in
    let s2 = step_at (codes ":") s1.1 e q (λ r. then_reads (small_at r) (λ l s. then_at (after (codes "]") s) (λ t. Some (Part n s1.0 l, t)))) s1.3 in
    let s3 = then_reads_some (small_at s2.0) e q (λ l s. then_at (after (codes "]") s) (λ t. Some (Part n s1.0 l, t))) s2.2 in
    let s4 = step_at (codes "]") s3.1 e q (λ t. Some (Part n s1.0 s3.0, t)) s3.3 in
    let both = ends e q (Part n s1.0 s3.0) s4.0 s4.2 in
    let high = small_found r s1.0 s1.1 s1.2 in
    let low = small_found s2.0 s3.0 s3.1 s3.2 in
    record {
      high = high.number;
      low = low.number;
      text_is = high.stands.text_is ∙ ap (λ t. decimal_text high.number ++ t) (s2.1.text_is ∙ ap (λ t. codes ":" ++ t) (low.stands.text_is ∙ ap (λ t. decimal_text low.number ++ t) (s4.1.text_is ∙ ap (λ q. codes "]" ++ q.rest) both.1)));
      fits_is = high.stands.fits_is ∙ s2.1.fits_is ∙ low.stands.fits_is ∙ s4.1.fits_is ∙ ap (λ q. q.fits) both.1;
      kept_is = ap (λ k. Part n k (kept_small low.number)) high.value_is ∙ ap (Part n s1.0) low.value_is ∙ both.0;
    }

part_found : (l : ℕ) (n : List ℕ) (h : is_name n ≡ true) (p m : Place) (e : PlainExpr) (q : Place) → Stands n p m → (r : Place) → Stands (codes "[") m r → part_by n r ≡ Some (e, q) → q.fits ≡ true → ExprStands l p e q
part_found l n h p m e q name r bracket is ok =
    let f = part_stands n r e q is in
    record {
      one = Part n f.high f.low;
      text_is = name.text_is ∙ ap (λ t. n ++ t) (bracket.text_is ∙ ap (λ t. codes "[" ++ t) f.text_is) ∙ sym (part_pieces n f.high f.low q.rest);
      fits_is = name.fits_is ∙ bracket.fits_is ∙ f.fits_is ∙ ok;
      kept_is = f.kept_is;
      laid = h;
      flat = refl;
    }

item_found : (l : ℕ) (inner : Place → Reads PlainExpr) → FindsInner l inner → (n : List ℕ) (h : is_name n ≡ true) (p m : Place) (e : PlainExpr) (q : Place) → Stands n p m → (r : Place) → Stands (codes "[") m r
    → then_reads (inner r) (item_by n) ≡ Some (e, q) → q.fits ≡ true → ExprStands l p e q
item_found l inner finds n h p m e q name r bracket is ok =
    let s1 = then_reads_some (inner r) e q (item_by n) is in
    let s2 = step_at (codes "]") s1.1 e q (λ q. Some (Word n s1.0, q)) s1.3 in
    let both = ends e q (Word n s1.0) s2.0 s2.2 in
    let i = finds r s1.0 s1.1 s1.2 (s2.1.fits_is ∙ ap (λ q. q.fits) both.1 ∙ ok) in
    record {
      one = Word n i.one;
      text_is = name.text_is ∙ ap (λ t. n ++ t) (bracket.text_is ∙ ap (λ t. codes "[" ++ t) (i.text_is ∙ ap (λ t. expr_text i.one ++ t) (s2.1.text_is ∙ ap (λ q. codes "]" ++ q.rest) both.1))) ∙ sym (word_pieces n (expr_text i.one) q.rest);
      fits_is = name.fits_is ∙ bracket.fits_is ∙ i.fits_is;
      kept_is = ap (Word n) i.kept_is ∙ both.0;
      laid = and_from (is_name n) (expr_fits i.one) h i.laid;
      flat = i.flat;
    }

named_found : (l : ℕ) (inner : Place → Reads PlainExpr) → FindsInner l inner → Finds l (named_by inner)
named_found l inner finds p e q is ok =
    let s = then_reads_some (name_at p) e q (λ n q. if begins (codes "[") q then bracketed_by inner n q else Some (Named n, q)) is in
    let n = name_found p s.0 s.1 s.2 in
    go s.0 n.passes s.1 n.stands (begins (codes "[") s.1) s.3
  where
    inside : (n : List ℕ) → is_name n ≡ true → (m : Place) → Stands n p m → (r : Place) → Stands (codes "[") m r → (t : Bool) → (if t then part_by n r else then_reads (inner r) (item_by n)) ≡ Some (e, q) → ExprStands l p e q
    inside n h m name r bracket true is = part_found l n h p m e q name r bracket is ok
    inside n h m name r bracket false is = item_found l inner finds n h p m e q name r bracket is ok

    go : (n : List ℕ) → is_name n ≡ true → (m : Place) → Stands n p m → (t : Bool) → (if t then bracketed_by inner n m else Some (Named n, m)) ≡ Some (e, q) → ExprStands l p e q
    go n h m name true is =
        let s = step_at (codes "[") m e q (λ q. if is_part q then part_by n q else then_reads (inner q) (item_by n)) is in
        inside n h m name s.0 s.1 (is_part s.0) s.2
    go n h m name false is =
        let both = ends e q (Named n) m is in
        record { one = Named n; text_is = name.text_is ∙ ap (λ q. n ++ q.rest) both.1; fits_is = name.fits_is ∙ ap (λ q. q.fits) both.1 ∙ ok; kept_is = both.0; laid = h; flat = refl }

-- brackets
joined_found : (l : ℕ) (inner : Place → Reads PlainExpr) → FindsInner l inner → Finds l (joined_by inner)
joined_found l inner finds p e q is ok =
    let s1 = step_at (codes "{") p e q (λ q. then_reads (inner q) (λ a r. then_at (after (codes ", ") r) (λ s. then_reads (inner s) (λ b t. then_at (after (codes "}") t) (λ u. Some (Joined a b, u)))))) is in
    let s2 = then_reads_some (inner s1.0) e q (λ a r. then_at (after (codes ", ") r) (λ s. then_reads (inner s) (λ b t. then_at (after (codes "}") t) (λ u. Some (Joined a b, u))))) s1.2 in
    let s3 = step_at (codes ", ") s2.1 e q (λ s. then_reads (inner s) (λ b t. then_at (after (codes "}") t) (λ u. Some (Joined s2.0 b, u)))) s2.3 in
    let s4 = then_reads_some (inner s3.0) e q (λ b t. then_at (after (codes "}") t) (λ u. Some (Joined s2.0 b, u))) s3.2 in
    let s5 = step_at (codes "}") s4.1 e q (λ u. Some (Joined s2.0 s4.0, u)) s4.3 in
    let both = ends e q (Joined s2.0 s4.0) s5.0 s5.2 in
    let b = finds s3.0 s4.0 s4.1 s4.2 (s5.1.fits_is ∙ ap (λ q. q.fits) both.1 ∙ ok) in
    let a = finds s1.0 s2.0 s2.1 s2.2 (s3.1.fits_is ∙ b.fits_is) in
    record {
      one = Joined a.one b.one;
      text_is = s1.1.text_is ∙ ap (λ t. codes "{" ++ t) (a.text_is ∙ ap (λ t. expr_text a.one ++ t) (s3.1.text_is ∙ ap (λ t. codes ", " ++ t) (b.text_is ∙ ap (λ t. expr_text b.one ++ t) (s5.1.text_is ∙ ap (λ q. codes "}" ++ q.rest) both.1)))) ∙ sym (joined_pieces (expr_text a.one) (expr_text b.one) q.rest);
      fits_is = s1.1.fits_is ∙ a.fits_is;
      kept_is = ap (λ x. Joined x (kept_expr b.one)) a.kept_is ∙ ap (Joined s2.0) b.kept_is ∙ both.0;
      laid = and_from (expr_fits a.one) (expr_fits b.one) a.laid b.laid;
      flat = or_from (l == 0 || nests_over (l - 1) a.one) (nests_over (l - 1) b.one) a.flat (or_parts (l == 0) (nests_over (l - 1) b.one) b.flat).1;
    }

inverted_found : (l : ℕ) (inner : Place → Reads PlainExpr) → FindsInner l inner → Finds l (inverted_by inner)
inverted_found l inner finds p e q is ok =
    let s1 = step_at (codes "(~") p e q (λ q. then_reads (inner q) (λ a r. then_at (after (codes ")") r) (λ s. Some (Inverted a, s)))) is in
    let s2 = then_reads_some (inner s1.0) e q (λ a r. then_at (after (codes ")") r) (λ s. Some (Inverted a, s))) s1.2 in
    let s3 = step_at (codes ")") s2.1 e q (λ s. Some (Inverted s2.0, s)) s2.3 in
    let both = ends e q (Inverted s2.0) s3.0 s3.2 in
    let a = finds s1.0 s2.0 s2.1 s2.2 (s3.1.fits_is ∙ ap (λ q. q.fits) both.1 ∙ ok) in
    record {
      one = Inverted a.one;
      text_is = s1.1.text_is ∙ ap (λ t. codes "(~" ++ t) (a.text_is ∙ ap (λ t. expr_text a.one ++ t) (s3.1.text_is ∙ ap (λ q. codes ")" ++ q.rest) both.1)) ∙ sym (inverted_pieces (expr_text a.one) q.rest);
      fits_is = s1.1.fits_is ∙ a.fits_is;
      kept_is = ap Inverted a.kept_is ∙ both.0;
      laid = a.laid;
      flat = a.flat;
    }

-- what stands in round brackets behind the first expression and a space
record Behind (l : ℕ) (m : Place) (c e : PlainExpr) (q : Place) : Type 0 where
  fits_is : m.fits ≡ true
  whole : (one : PlainExpr) → kept_expr one ≡ c → expr_fits one ≡ true → (l == 0 || nests_over (l - 1) one) ≡ false
      → (p : Place) → p.rest ≡ codes "(" ++ (expr_text one ++ (codes " " ++ m.rest)) → p.fits ≡ true → ExprStands l p e q

chosen_found : (l : ℕ) (inner : Place → Reads PlainExpr) → FindsInner l inner → (m : Place) (c e : PlainExpr) (q : Place) → chosen_by inner c m ≡ Some (e, q) → q.fits ≡ true → Behind l m c e q
chosen_found l inner finds m c e q is ok =
    let s1 = step_at (codes "? ") m e q (λ q. then_reads (inner q) (λ a r. then_at (after (codes " : ") r) (λ s. then_reads (inner s) (λ b t. then_at (after (codes ")") t) (λ u. Some (Chosen c a b, u)))))) is in
    let s2 = then_reads_some (inner s1.0) e q (λ a r. then_at (after (codes " : ") r) (λ s. then_reads (inner s) (λ b t. then_at (after (codes ")") t) (λ u. Some (Chosen c a b, u))))) s1.2 in
    let s3 = step_at (codes " : ") s2.1 e q (λ s. then_reads (inner s) (λ b t. then_at (after (codes ")") t) (λ u. Some (Chosen c s2.0 b, u)))) s2.3 in
    let s4 = then_reads_some (inner s3.0) e q (λ b t. then_at (after (codes ")") t) (λ u. Some (Chosen c s2.0 b, u))) s3.2 in
    let s5 = step_at (codes ")") s4.1 e q (λ u. Some (Chosen c s2.0 s4.0, u)) s4.3 in
    let both = ends e q (Chosen c s2.0 s4.0) s5.0 s5.2 in
    let b = finds s3.0 s4.0 s4.1 s4.2 (s5.1.fits_is ∙ ap (λ q. q.fits) both.1 ∙ ok) in
    let a = finds s1.0 s2.0 s2.1 s2.2 (s3.1.fits_is ∙ b.fits_is) in
    let behind : m.rest ≡ codes "? " ++ (expr_text a.one ++ (codes " : " ++ (expr_text b.one ++ (codes ")" ++ q.rest)))) =
    s1.1.text_is ∙ ap (λ t. codes "? " ++ t) (a.text_is ∙ ap (λ t. expr_text a.one ++ t) (s3.1.text_is ∙ ap (λ t. codes " : " ++ t) (b.text_is ∙ ap (λ t. expr_text b.one ++ t) (s5.1.text_is ∙ ap (λ q. codes ")" ++ q.rest) both.1)))) in
    record {
      fits_is = s1.1.fits_is ∙ a.fits_is;
      whole = λ one kept laid flat p text fits.
          record {
            one = Chosen one a.one b.one;
            text_is = text ∙ ap (λ t. codes "(" ++ (expr_text one ++ (codes " " ++ t))) behind ∙ sym (chosen_pieces (expr_text one) (expr_text a.one) (expr_text b.one) q.rest);
            fits_is = fits;
            kept_is = ap (λ x. Chosen x (kept_expr a.one) (kept_expr b.one)) kept ∙ ap (λ x. Chosen c x (kept_expr b.one)) a.kept_is ∙ ap (Chosen c s2.0) b.kept_is ∙ both.0;
            laid = and_from (expr_fits one && expr_fits a.one) (expr_fits b.one) (and_from (expr_fits one) (expr_fits a.one) laid a.laid) b.laid;
            flat = or_from (l == 0 || nests_over (l - 1) one || nests_over (l - 1) a.one) (nests_over (l - 1) b.one)
                (or_from (l == 0 || nests_over (l - 1) one) (nests_over (l - 1) a.one) flat (or_parts (l == 0) (nests_over (l - 1) a.one) a.flat).1)
                (or_parts (l == 0) (nests_over (l - 1) b.one) b.flat).1;
          };
    }

applied_found : (l : ℕ) (inner : Place → Reads PlainExpr) → FindsInner l inner → (m : Place) (a e : PlainExpr) (q : Place) → applied_by inner a m ≡ Some (e, q) → q.fits ≡ true → Behind l m a e q
applied_found l inner finds m a e q is ok =
    let s1 = then_reads_some (operator_at m) e q (λ op q. then_at (after (codes " ") q) (λ r. then_reads (inner r) (λ b s. then_at (after (codes ")") s) (λ t. Some (Applied op a b, t))))) is in
    let s2 = step_at (codes " ") s1.1 e q (λ r. then_reads (inner r) (λ b s. then_at (after (codes ")") s) (λ t. Some (Applied s1.0 a b, t)))) s1.3 in
    let s3 = then_reads_some (inner s2.0) e q (λ b s. then_at (after (codes ")") s) (λ t. Some (Applied s1.0 a b, t))) s2.2 in
    let s4 = step_at (codes ")") s3.1 e q (λ t. Some (Applied s1.0 a s3.0, t)) s3.3 in
    let both = ends e q (Applied s1.0 a s3.0) s4.0 s4.2 in
    let op = operator_found m s1.0 s1.1 s1.2 in
    let b = finds s2.0 s3.0 s3.1 s3.2 (s4.1.fits_is ∙ ap (λ q. q.fits) both.1 ∙ ok) in
    let behind : m.rest ≡ op_text s1.0 ++ (codes " " ++ (expr_text b.one ++ (codes ")" ++ q.rest))) =
    op.text_is ∙ ap (λ t. op_text s1.0 ++ t) (s2.1.text_is ∙ ap (λ t. codes " " ++ t) (b.text_is ∙ ap (λ t. expr_text b.one ++ t) (s4.1.text_is ∙ ap (λ q. codes ")" ++ q.rest) both.1))) in
    record {
      fits_is = op.fits_is ∙ s2.1.fits_is ∙ b.fits_is;
      whole = λ one kept laid flat p text fits.
          record {
            one = Applied s1.0 one b.one;
            text_is = text ∙ ap (λ t. codes "(" ++ (expr_text one ++ (codes " " ++ t))) behind ∙ sym (applied_pieces (expr_text one) (op_text s1.0) (expr_text b.one) q.rest);
            fits_is = fits;
            kept_is = ap (λ x. Applied s1.0 x (kept_expr b.one)) kept ∙ ap (Applied s1.0 a) b.kept_is ∙ both.0;
            laid = and_from (expr_fits one) (expr_fits b.one) laid b.laid;
            flat = or_from (l == 0 || nests_over (l - 1) one) (nests_over (l - 1) b.one) flat (or_parts (l == 0) (nests_over (l - 1) b.one) b.flat).1;
          };
    }

behind_found : (l : ℕ) (inner : Place → Reads PlainExpr) → FindsInner l inner → (m : Place) (a e : PlainExpr) (q : Place) → behind_by inner a m ≡ Some (e, q) → q.fits ≡ true → Behind l m a e q
behind_found l inner finds m a e q is ok = go (begins (codes "? ") m) is
  where
    go : (t : Bool) → (if t then chosen_by inner a m else applied_by inner a m) ≡ Some (e, q) → Behind l m a e q
    go true is = chosen_found l inner finds m a e q is ok
    go false is = applied_found l inner finds m a e q is ok

round_found : (l : ℕ) (inner : Place → Reads PlainExpr) → FindsInner l inner → Finds l (round_by inner)
round_found l inner finds p e q is ok =
    let s1 = step_at (codes "(") p e q (λ q. then_reads (inner q) (λ e r. then_at (after (codes " ") r) (behind_by inner e))) is in
    let s2 = then_reads_some (inner s1.0) e q (λ e r. then_at (after (codes " ") r) (behind_by inner e)) s1.2 in
    let s3 = step_at (codes " ") s2.1 e q (behind_by inner s2.0) s2.3 in
    let more = behind_found l inner finds s3.0 s2.0 e q s3.2 ok in
    let a = finds s1.0 s2.0 s2.1 s2.2 (s3.1.fits_is ∙ more.fits_is) in
    more.whole a.one a.kept_is a.laid a.flat p (s1.1.text_is ∙ ap (λ t. codes "(" ++ t) (a.text_is ∙ ap (λ t. expr_text a.one ++ t) s3.1.text_is)) (s1.1.fits_is ∙ a.fits_is)

brackets_found : (l : ℕ) (inner : Place → Reads PlainExpr) → FindsInner l inner → Finds l (brackets_by inner)
brackets_found l inner finds p e q is ok = go (begins (codes "{") p) (begins (codes "(~") p) is
  where
    go : (t u : Bool) → (if t then joined_by inner p else (if u then inverted_by inner p else round_by inner p)) ≡ Some (e, q) → ExprStands l p e q
    go true u is = joined_found l inner finds p e q is ok
    go false true is = inverted_found l inner finds p e q is ok
    go false false is = round_found l inner finds p e q is ok

first_found : (l : ℕ) (nested named : Place → Reads PlainExpr) → Finds l nested → Finds l named → Finds l (by_first nested named)
first_found l nested named one other p e q is ok = go (begins (codes "(") p || begins (codes "{") p) (starts_digit p.rest) is
  where
    go : (t u : Bool) → (if t then nested p else (if u then literal_at p else named p)) ≡ Some (e, q) → ExprStands l p e q
    go true u is = one p e q is ok
    go false true is = literal_found l p e q is ok
    go false false is = other p e q is ok

pub expr_found : (l : ℕ) → Finds l (expr_at l)
expr_found zero = first_found zero too_deep_at (named_by too_deep_at) (λ p e q is ok. none_found p e q is) (named_found zero too_deep_at (λ p e q is ok. none_found p e q is))
expr_found (suc l) =
    let inner = lower l (expr_at l) (expr_found l) in
    first_found (suc l) (brackets_by (expr_at l)) (named_by (expr_at l)) (brackets_found (suc l) (expr_at l) inner) (named_found (suc l) (expr_at l) inner)
