-- What is passed is an expression, however deep it nests.
use Rattle.std.proofs.Common.{◌≡◌, ℕ, ◌<◌, ◌≤◌, zero, suc, Bool, true, false, ◌&&◌, List, [], ◌∷◌, ◌++◌, length, Option, Some, None, refl, ◌∙◌, ap, sym, subst, arith, if◌then◌else◌}
use Rattle.std.specs.Prelude.{codes}
use Rattle.std.proofs.lemmas.Bool.{and_from}
use Rattle.std.proofs.lemmas.Option.{same_Some, some_pair_parts}
use Rattle.cx_vtree.specs.Layout.{is_name, expr_fits}
use Rattle.cx_vtree.specs.Lines.{op_text, expr_text}
use Rattle.cx_vtree.specs.Plain.{PlainExpr, Named, Number, Part, Word, Applied, Inverted, Chosen, Joined}
use Rattle.cx_vread_exprs.specs.declared.passing.Await.{Await}
use Rattle.cx_vread_exprs.specs.declared.passing.Await.TheVariants.{Inverse, Index, High, Low, Sign, One, Other, Right}
use Rattle.cx_vread_exprs.specs.declared.passing.Found.{Found}
use Rattle.cx_vread_exprs.specs.declared.passing.Found.TheVariants.{Within, Ended}
use Rattle.cx_vscope.specs.declared.shapes.Shape.{Shape}
use Rattle.cx_vscope.specs.Shapes.{shape_of, array_shape, indexed, applied, chosen, joined}
use Rattle.cx_vscope.specs.Scopes.{nothing_meant}
use Rattle.cx_vtree.specs.Sound.{Scope}
use Rattle.cx_vread_exprs.proofs.Kept.{kept_expr}
use Rattle.cx_vread_exprs.specs.Places.{Place, Reads, then_reads, then_at, after, begins}
use Rattle.cx_vread_exprs.specs.Tokens.{name_at, literal_at}
use Rattle.cx_vread_exprs.specs.Exprs.{operator_at, is_part, part_by, starts_digit}
use Rattle.cx_vread_exprs.specs.Passing.{closed_by, opened_by, ended_by, want_bracketed, want_named, want_literal, want_at, end_at, pass_on, shape_at, passed_at}
use Rattle.cx_vread_exprs.proofs.Found.{Stands, after_found, name_found}
use Rattle.cx_vread_exprs.proofs.SignsFound.{operator_found}
use Rattle.cx_vread_exprs.proofs.ExprFound.{literal_stands, part_stands}
use Rattle.cx_vread_exprs.proofs.ExprAgain.{part_pieces, word_pieces, applied_pieces, inverted_pieces, chosen_pieces, joined_pieces}

-- what reading goes on from
pub then_some : {X Y : Type 0} (r : Reads X) (z : Y) (f : X → Place → Option Y) → then_reads r f ≡ Some z → (x : X) × (q : Place) × (r ≡ Some (x, q)) × (f x q ≡ Some z)
then_some None z f e = absurd (cc)
then_some (Some x) z f e = (x.0, x.1, refl, e)

-- of two readings, one behind the other
within_at : {X Y : Type 0} (want : List ℕ) (p : Place) (z : Y) (g : Place → Reads X) (f : X → Place → Option Y) → then_reads (then_at (after want p) g) f ≡ Some z
    → (q : Place) × Stands want p q × (then_reads (g q) f ≡ Some z)
within_at {X} {Y} want p z g f e = go (after want p) refl e
  where
    go : (o : Option Place) → after want p ≡ o → then_reads (then_at o g) f ≡ Some z → (q : Place) × Stands want p q × (then_reads (g q) f ≡ Some z)
    go None is e = absurd (cc)
    go (Some q) is e = (q, after_found want p q is, e)

within_reads : {W X Y : Type 0} (r : Reads W) (z : Y) (g : W → Place → Reads X) (f : X → Place → Option Y) → then_reads (then_reads r g) f ≡ Some z
    → (w : W) × (q : Place) × (r ≡ Some (w, q)) × (then_reads (g w q) f ≡ Some z)
within_reads None z g f e = absurd (cc)
within_reads (Some x) z g f e = (x.0, x.1, refl, e)

module _ (scope : Scope) where
  -- the steps from a place on
  abbrev goes_on : ℕ → List Await → Reads Found → Reads Shape
  goes_on n awaited r = then_reads r (λ found q. pass_on scope n found awaited q)

  abbrev shaped : PlainExpr → Shape
  shaped e = shape_of scope (kept_expr e)

  -- an expression stands at a place, behind which the steps go on
  record Passed (n : ℕ) (awaited : List Await) (p : Place) (z : Shape × Place) : Type 0 where
    one : PlainExpr
    mid : Place
    left : ℕ
    text_is : p.rest ≡ expr_text one ++ mid.rest
    fits_is : p.fits ≡ mid.fits
    laid : expr_fits one ≡ true
    fewer : left ≤ n
    more : pass_on scope left (Ended (shaped one)) awaited mid ≡ Some z

  abbrev FindsIn : ℕ → Type 0
  FindsIn n = (awaited : List Await) (p : Place) (z : Shape × Place) → goes_on n awaited (want_at scope p) ≡ Some z → Passed n awaited p z

  -- the same with fewer steps
  abbrev FindsBelow : ℕ → Type 0
  FindsBelow n = (m : ℕ) → m < n → FindsIn m

  opens_more : (n : ℕ) (next : Await) (awaited : List Await) (p : Place) (z : Shape × Place) → pass_on scope n (Within next) awaited p ≡ Some z
      → (m : ℕ) × (m < n) × (goes_on m (next ∷ awaited) (want_at scope p) ≡ Some z)
  opens_more zero next awaited p z is = absurd (cc)
  opens_more (suc m) next awaited p z is = (m, omega arith, is)

  closes_more : (n : ℕ) (shape : Shape) (last : Await) (awaited : List Await) (p : Place) (z : Shape × Place) → pass_on scope n (Ended shape) (last ∷ awaited) p ≡ Some z
      → (m : ℕ) × (m < n) × (goes_on m awaited (end_at last shape p) ≡ Some z)
  closes_more zero shape last awaited p z is = absurd (cc)
  closes_more (suc m) shape last awaited p z is = (m, omega arith, is)

  -- an expression that is the last within another, whose shape comes from its own
  record Closed (n : ℕ) (awaited : List Await) (end : List ℕ) (out : Shape → Shape) (p : Place) (z : Shape × Place) : Type 0 where
    one : PlainExpr
    mid : Place
    left : ℕ
    text_is : p.rest ≡ expr_text one ++ (end ++ mid.rest)
    fits_is : p.fits ≡ mid.fits
    laid : expr_fits one ≡ true
    fewer : left < n
    more : pass_on scope left (Ended (out (shaped one))) awaited mid ≡ Some z

  -- the last, behind which this text closes
  last_found : (n : ℕ) → FindsBelow n → (last : Await) (end : List ℕ) (out : Shape → Shape) → ((shape : Shape) (p : Place) → end_at last shape p ≡ closed_by end (out shape) p)
      → (awaited : List Await) (p : Place) (z : Shape × Place) → pass_on scope n (Within last) awaited p ≡ Some z → Closed n awaited end out p z
  last_found n below last end out closing awaited p z is =
      let o = opens_more n last awaited p z is in
      let a = below o.0 o.1 (last ∷ awaited) p z o.2 in
      let c = closes_more a.left (shaped a.one) last awaited a.mid z a.more in
      let s = within_at end a.mid z (λ q. Some (Ended (out (shaped a.one)), q)) (λ found q. pass_on scope c.0 found awaited q) (ap (goes_on c.0 awaited) (sym (closing (shaped a.one) a.mid)) ∙ c.2) in
      let low = o.1 in
      let lower = a.fewer in
      let lowest = c.1 in
      record {
        one = a.one;
        mid = s.0;
        left = c.0;
        text_is = a.text_is ∙ ap (λ t. expr_text a.one ++ t) s.1.text_is;
        fits_is = a.fits_is ∙ s.1.fits_is;
        laid = a.laid;
        fewer = omega arith;
        more = s.2;
      }

  inverted_passed : (n : ℕ) → FindsBelow n → (awaited : List Await) (p r : Place) (z : Shape × Place) → Stands (codes "(~") p r → pass_on scope n (Within Inverse) awaited r ≡ Some z → Passed n awaited p z
  inverted_passed n below awaited p r z head is =
      let a = last_found n below Inverse (codes ")") (λ shape. shape) (λ shape p. refl) awaited r z is in
      let low = a.fewer in
      record {
        one = Inverted a.one;
        mid = a.mid;
        left = a.left;
        text_is = head.text_is ∙ ap (λ t. codes "(~" ++ t) a.text_is ∙ sym (inverted_pieces (expr_text a.one) a.mid.rest);
        fits_is = head.fits_is ∙ a.fits_is;
        laid = a.laid;
        fewer = omega arith;
        more = a.more;
      }

  word_passed : (n : ℕ) → FindsBelow n → (name : List ℕ) → is_name name ≡ true → (awaited : List Await) (p m r : Place) (z : Shape × Place) → Stands name p m → Stands (codes "[") m r
      → pass_on scope n (Within (Index (array_shape scope name))) awaited r ≡ Some z → Passed n awaited p z
  word_passed n below name h awaited p m r z own bracket is =
      let i = last_found n below (Index (array_shape scope name)) (codes "]") (indexed (array_shape scope name)) (λ shape p. refl) awaited r z is in
      let low = i.fewer in
      record {
        one = Word name i.one;
        mid = i.mid;
        left = i.left;
        text_is = own.text_is ∙ ap (λ t. name ++ t) (bracket.text_is ∙ ap (λ t. codes "[" ++ t) i.text_is) ∙ sym (word_pieces name (expr_text i.one) i.mid.rest);
        fits_is = own.fits_is ∙ bracket.fits_is ∙ i.fits_is;
        laid = and_from (is_name name) (expr_fits i.one) h i.laid;
        fewer = omega arith;
        more = i.more;
      }

  joined_passed : (n : ℕ) → FindsBelow n → (awaited : List Await) (p r : Place) (z : Shape × Place) → Stands (codes "{") p r → pass_on scope n (Within High) awaited r ≡ Some z → Passed n awaited p z
  joined_passed n below awaited p r z head is =
      let o = opens_more n High awaited r z is in
      let a = below o.0 o.1 (High ∷ awaited) r z o.2 in
      let c = closes_more a.left (shaped a.one) High awaited a.mid z a.more in
      let s = within_at (codes ", ") a.mid z (λ q. Some (Within (Low (shaped a.one)), q)) (λ found q. pass_on scope c.0 found awaited q) c.2 in
      let low = o.1 in
      let lower = a.fewer in
      let lowest = c.1 in
      let b = last_found c.0 (λ m lt. below m (omega arith)) (Low (shaped a.one)) (codes "}") (joined (shaped a.one)) (λ shape p. refl) awaited s.0 z s.2 in
      let least = b.fewer in
      record {
        one = Joined a.one b.one;
        mid = b.mid;
        left = b.left;
        text_is = head.text_is ∙ ap (λ t. codes "{" ++ t) (a.text_is ∙ ap (λ t. expr_text a.one ++ t) (s.1.text_is ∙ ap (λ t. codes ", " ++ t) b.text_is)) ∙ sym (joined_pieces (expr_text a.one) (expr_text b.one) b.mid.rest);
        fits_is = head.fits_is ∙ a.fits_is ∙ s.1.fits_is ∙ b.fits_is;
        laid = and_from (expr_fits a.one) (expr_fits b.one) a.laid b.laid;
        fewer = omega arith;
        more = b.more;
      }

  -- in round brackets, behind the first expression and a space
  chosen_passed : (n : ℕ) → FindsBelow n → (awaited : List Await) (p r : Place) (c : PlainExpr) (m s : Place) (z : Shape × Place) → Stands (codes "(") p r → r.rest ≡ expr_text c ++ (codes " " ++ m.rest) → r.fits ≡ m.fits → expr_fits c ≡ true
      → Stands (codes "? ") m s → pass_on scope n (Within (One (shaped c))) awaited s ≡ Some z → Passed n awaited p z
  chosen_passed n below awaited p r c m s z head text fits laid mark is =
      let o = opens_more n (One (shaped c)) awaited s z is in
      let a = below o.0 o.1 (One (shaped c) ∷ awaited) s z o.2 in
      let d = closes_more a.left (shaped a.one) (One (shaped c)) awaited a.mid z a.more in
      let t = within_at (codes " : ") a.mid z (λ q. Some (Within (Other (shaped c) (shaped a.one)), q)) (λ found q. pass_on scope d.0 found awaited q) d.2 in
      let low = o.1 in
      let lower = a.fewer in
      let lowest = d.1 in
      let b = last_found d.0 (λ m lt. below m (omega arith)) (Other (shaped c) (shaped a.one)) (codes ")") (chosen (shaped c) (shaped a.one)) (λ shape p. refl) awaited t.0 z t.2 in
      let least = b.fewer in
      record {
        one = Chosen c a.one b.one;
        mid = b.mid;
        left = b.left;
        text_is = head.text_is ∙ ap (λ t. codes "(" ++ t) (text ∙ ap (λ t. expr_text c ++ (codes " " ++ t)) (mark.text_is ∙ ap (λ t. codes "? " ++ t) (a.text_is ∙ ap (λ t. expr_text a.one ++ t) (t.1.text_is ∙ ap (λ t. codes " : " ++ t) b.text_is)))) ∙ sym (chosen_pieces (expr_text c) (expr_text a.one) (expr_text b.one) b.mid.rest);
        fits_is = head.fits_is ∙ fits ∙ mark.fits_is ∙ a.fits_is ∙ t.1.fits_is ∙ b.fits_is;
        laid = and_from (expr_fits c && expr_fits a.one) (expr_fits b.one) (and_from (expr_fits c) (expr_fits a.one) laid a.laid) b.laid;
        fewer = omega arith;
        more = b.more;
      }

  applied_passed : (n : ℕ) → FindsBelow n → (awaited : List Await) (p r : Place) (a : PlainExpr) (m : Place) (z : Shape × Place) → Stands (codes "(") p r → r.rest ≡ expr_text a ++ (codes " " ++ m.rest) → r.fits ≡ m.fits → expr_fits a ≡ true
      → goes_on n awaited (then_reads (operator_at m) (λ op r. opened_by (codes " ") (Right op (shaped a)) r)) ≡ Some z → Passed n awaited p z
  applied_passed n below awaited p r a m z head text fits laid is =
      let o = within_reads (operator_at m) z (λ op r. opened_by (codes " ") (Right op (shaped a)) r) (λ found q. pass_on scope n found awaited q) is in
      let op = operator_found m o.0 o.1 o.2 in
      let t = within_at (codes " ") o.1 z (λ q. Some (Within (Right o.0 (shaped a)), q)) (λ found q. pass_on scope n found awaited q) o.3 in
      let b = last_found n below (Right o.0 (shaped a)) (codes ")") (applied o.0 (shaped a)) (λ shape p. refl) awaited t.0 z t.2 in
      let least = b.fewer in
      record {
        one = Applied o.0 a b.one;
        mid = b.mid;
        left = b.left;
        text_is = head.text_is ∙ ap (λ t. codes "(" ++ t) (text ∙ ap (λ t. expr_text a ++ (codes " " ++ t)) (op.text_is ∙ ap (λ t. op_text o.0 ++ t) (t.1.text_is ∙ ap (λ t. codes " " ++ t) b.text_is))) ∙ sym (applied_pieces (expr_text a) (op_text o.0) (expr_text b.one) b.mid.rest);
        fits_is = head.fits_is ∙ fits ∙ op.fits_is ∙ t.1.fits_is ∙ b.fits_is;
        laid = and_from (expr_fits a) (expr_fits b.one) laid b.laid;
        fewer = omega arith;
        more = b.more;
      }

  -- fewer steps are left within
  widened : (m n : ℕ) (awaited : List Await) (p : Place) (z : Shape × Place) → m ≤ n → Passed m awaited p z → Passed n awaited p z
  widened m n awaited p z le f =
      let low = f.fewer in
      record { one = f.one; mid = f.mid; left = f.left; text_is = f.text_is; fits_is = f.fits_is; laid = f.laid; fewer = omega arith; more = f.more }

  round_passed : (n : ℕ) → FindsBelow n → (awaited : List Await) (p r : Place) (z : Shape × Place) → Stands (codes "(") p r → pass_on scope n (Within Sign) awaited r ≡ Some z → Passed n awaited p z
  round_passed n below awaited p r z head is =
      let o = opens_more n Sign awaited r z is in
      let a = below o.0 o.1 (Sign ∷ awaited) r z o.2 in
      let c = closes_more a.left (shaped a.one) Sign awaited a.mid z a.more in
      let s = within_at (codes " ") a.mid z (λ q. if begins (codes "? ") q then opened_by (codes "? ") (One (shaped a.one)) q else then_reads (operator_at q) (λ op r. opened_by (codes " ") (Right op (shaped a.one)) r)) (λ found q. pass_on scope c.0 found awaited q) c.2 in
      let low = o.1 in
      let lower = a.fewer in
      let lowest = c.1 in
      let text : r.rest ≡ expr_text a.one ++ (codes " " ++ s.0.rest) = a.text_is ∙ ap (λ t. expr_text a.one ++ t) s.1.text_is in
      let fits : r.fits ≡ s.0.fits = a.fits_is ∙ s.1.fits_is in
      let go : (t : Bool) → goes_on c.0 awaited (if t then opened_by (codes "? ") (One (shaped a.one)) s.0 else then_reads (operator_at s.0) (λ op r. opened_by (codes " ") (Right op (shaped a.one)) r)) ≡ Some z → Passed c.0 awaited p z =
      signed c.0 (λ m lt. below m (omega arith)) a.one s.0 text fits a.laid in
      widened c.0 n awaited p z (omega arith) (go (begins (codes "? ") s.0) s.2)
    where
      signed : (k : ℕ) → FindsBelow k → (one : PlainExpr) (m : Place) → r.rest ≡ expr_text one ++ (codes " " ++ m.rest) → r.fits ≡ m.fits → expr_fits one ≡ true → (t : Bool)
          → goes_on k awaited (if t then opened_by (codes "? ") (One (shaped one)) m else then_reads (operator_at m) (λ op r. opened_by (codes " ") (Right op (shaped one)) r)) ≡ Some z → Passed k awaited p z
      signed k under one m text fits laid true is =
          let x = within_at (codes "? ") m z (λ q. Some (Within (One (shaped one)), q)) (λ found q. pass_on scope k found awaited q) is in
          chosen_passed k under awaited p r one m x.0 z head text fits laid x.1 x.2
      signed k under one m text fits laid false is = applied_passed k under awaited p r one m z head text fits laid is

  named_passed : (n : ℕ) → FindsBelow n → (awaited : List Await) (p : Place) (z : Shape × Place) → goes_on n awaited (want_named scope p) ≡ Some z → Passed n awaited p z
  named_passed n below awaited p z is =
      let s = within_reads (name_at p) z (λ n q. if begins (codes "[") q then want_bracketed scope n q else Some (Ended (shape_of scope (Named n)), q)) (λ found q. pass_on scope n found awaited q) is in
      let name = name_found p s.0 s.1 s.2 in
      plain s.0 s.1 name.stands name.passes (begins (codes "[") s.1) s.3
    where
      bracketed : (name : List ℕ) (m r : Place) → Stands name p m → is_name name ≡ true → Stands (codes "[") m r → (t : Bool)
          → goes_on n awaited (if t then ended_by scope (part_by name r) else Some (Within (Index (array_shape scope name)), r)) ≡ Some z → Passed n awaited p z
      bracketed name m r own h bracket true is =
          let s = within_reads (part_by name r) z (λ e q. Some (Ended (shape_of scope e), q)) (λ found q. pass_on scope n found awaited q) is in
          let f = part_stands name r s.0 s.1 s.2 in
          record {
            one = Part name f.high f.low;
            mid = s.1;
            left = n;
            text_is = own.text_is ∙ ap (λ t. name ++ t) (bracket.text_is ∙ ap (λ t. codes "[" ++ t) f.text_is) ∙ sym (part_pieces name f.high f.low s.1.rest);
            fits_is = own.fits_is ∙ bracket.fits_is ∙ f.fits_is;
            laid = h;
            fewer = omega arith;
            more = ap (λ e. pass_on scope n (Ended (shape_of scope e)) awaited s.1) f.kept_is ∙ s.3;
          }
      bracketed name m r own h bracket false is = word_passed n below name h awaited p m r z own bracket is

      plain : (name : List ℕ) (m : Place) → Stands name p m → is_name name ≡ true → (t : Bool) → goes_on n awaited (if t then want_bracketed scope name m else Some (Ended (shape_of scope (Named name)), m)) ≡ Some z → Passed n awaited p z
      plain name m own h true is =
          let s = within_at (codes "[") m z (λ q. if is_part q then ended_by scope (part_by name q) else Some (Within (Index (array_shape scope name)), q)) (λ found q. pass_on scope n found awaited q) is in
          bracketed name m s.0 own h s.1 (is_part s.0) s.2
      plain name m own h false is = record { one = Named name; mid = m; left = n; text_is = own.text_is; fits_is = own.fits_is; laid = h; fewer = omega arith; more = is }

  literal_passed : (n : ℕ) (awaited : List Await) (p : Place) (z : Shape × Place) → goes_on n awaited (want_literal scope p) ≡ Some z → Passed n awaited p z
  literal_passed n awaited p z is =
      let s = within_reads (literal_at p) z (λ e q. Some (Ended (shape_of scope e), q)) (λ found q. pass_on scope n found awaited q) is in
      let f = literal_stands p s.0 s.1 s.2 in
      record {
        one = Number (record { width = f.width; value = f.value });
        mid = s.1;
        left = n;
        text_is = f.stands.text_is;
        fits_is = f.stands.fits_is;
        laid = refl;
        fewer = omega arith;
        more = ap (λ e. pass_on scope n (Ended (shape_of scope e)) awaited s.1) f.kept_is ∙ s.3;
      }

  -- what is passed from where an expression begins, by what is passed in fewer steps
  finds_by : (n : ℕ) → FindsBelow n → FindsIn n
  finds_by n below awaited p z is = go (begins (codes "(~") p) (begins (codes "(") p) (begins (codes "{") p) (starts_digit p.rest) is
    where
      go : (t u v w : Bool) → goes_on n awaited (if t then opened_by (codes "(~") Inverse p else (if u then opened_by (codes "(") Sign p else (if v then opened_by (codes "{") High p else (if w then want_literal scope p else want_named scope p)))) ≡ Some z → Passed n awaited p z
      go true u v w is = let s = within_at (codes "(~") p z (λ q. Some (Within Inverse, q)) (λ found q. pass_on scope n found awaited q) is in inverted_passed n below awaited p s.0 z s.1 s.2
      go false true v w is = let s = within_at (codes "(") p z (λ q. Some (Within Sign, q)) (λ found q. pass_on scope n found awaited q) is in round_passed n below awaited p s.0 z s.1 s.2
      go false false true w is = let s = within_at (codes "{") p z (λ q. Some (Within High, q)) (λ found q. pass_on scope n found awaited q) is in joined_passed n below awaited p s.0 z s.1 s.2
      go false false false true is = literal_passed n awaited p z is
      go false false false false is = named_passed n below awaited p z is

  finds_all : (bound n : ℕ) → n < bound → FindsIn n
  finds_all zero n lt = absurd (omega arith)
  finds_all (suc bound) n lt = finds_by n (λ m below. finds_all bound m (omega arith))

  -- an expression stands where one is passed, and has the shape that is told
  pub record ShapeFound (p : Place) (s : Shape) (q : Place) : Type 0 where
    pub one : PlainExpr
    pub stands : Stands (expr_text one) p q
    pub laid : expr_fits one ≡ true
    pub shape_is : shaped one ≡ s

  pub shape_found : (p : Place) (s : Shape) (q : Place) → shape_at scope p ≡ Some (s, q) → ShapeFound p s q
  shape_found p s q is =
      let f = finds_all (suc (length p.rest)) (length p.rest) (omega arith) [] p (s, q) is in
      let same = none_left f.left (shaped f.one) f.mid f.more in
      record {
        one = f.one;
        stands = record { text_is = f.text_is ∙ ap (λ q. expr_text f.one ++ q.rest) same.1; fits_is = f.fits_is ∙ ap (λ q. q.fits) same.1 };
        laid = f.laid;
        shape_is = same.0;
      }
    where
      none_left : (n : ℕ) (shape : Shape) (m : Place) → pass_on scope n (Ended shape) [] m ≡ Some (s, q) → (shape ≡ s) × (m ≡ q)
      none_left zero shape m is = absurd (cc)
      none_left (suc n) shape m is = some_pair_parts shape s m q is

-- an expression stands where one is passed
pub record PassedOne (p q : Place) : Type 0 where
  pub one : PlainExpr
  pub stands : Stands (expr_text one) p q
  pub laid : expr_fits one ≡ true

pub passed_found : (p q : Place) → passed_at p ≡ Some q → PassedOne p q
passed_found p q is =
    let s = then_some (shape_at nothing_meant p) q (λ shape q. Some q) is in
    let f = shape_found nothing_meant p s.0 s.1 s.2 in
    let same : s.1 ≡ q = same_Some s.1 q s.3 in
    record { one = f.one; stands = subst (λ q. Stands (expr_text f.one) p q) same f.stands; laid = f.laid }
