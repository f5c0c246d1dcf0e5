-- The lines of a text that have been read one by one.
use Rattle.std.proofs.Common.{◌≡◌, ◌⊎◌, inl, inr, ℕ, ◌+◌, ◌<◌, suc, ◌==◌, not, Bool, true, false, ◌&&◌, List, [], ◌∷◌, ◌++◌, length, Some, None, refl, ◌∙◌, ap, sym, subst, arith, append_assoc, length-append, if◌then◌else◌}
use Rattle.std.specs.Prelude.{codes, nat_le, min}
use Rattle.std.specs.List.{list_all}
use Rattle.std.proofs.lemmas.Bool.{and_from, and_parts, eqb-true, not-true, le-leb, lt-leb}
use Rattle.std.proofs.lemmas.List.Folds.{list_all-append}
use Rattle.std.proofs.lemmas.Option.{some_pair_parts}
use Rattle.cx_vtree.specs.Lines.{Line, line_text}
use Rattle.cx_vsound.specs.Search.{last_line}
use Rattle.cx_vread_exprs.specs.Places.{Place}
use Rattle.cx_vread_exprs.proofs.NumberAgain.{clean}
use Rattle.cx_vread.specs.declared.astray.Between.{Between}
use Rattle.cx_vread.specs.declared.astray.Between.TheVariants.{Externals, Modules, Port, PortsDone, Decls, Assigns, Instances, Branches, Sets, Items, EdgeDone, ModuleDone}
use Rattle.cx_vread.specs.Astray.{first_lines, feeds_in, IsText, BeginsText, LinesBeginBy, LinesBegin, IsFirstAstray}
use Rattle.cx_vread.specs.LineSteps.{line_at}
use Rattle.cx_vread.proofs.PlainLines.{no_feed, is_plain, plain_line}
use Rattle.cx_vread.proofs.FollowLines.{Follows, text_follows, text_from, some_follows}
use Rattle.cx_vread.proofs.StepAgain.{Ends, Steps, follows_steps}
use Rattle.cx_vread.proofs.StepFound.{line_found}

-- whole lines, one after another
abbrev pub lines_of : List (List ℕ) → List ℕ
lines_of [] = []
lines_of (l ∷ ls) = l ++ (codes "\n" ++ lines_of ls)

lines_of-append : (ls : List (List ℕ)) (l : List ℕ) → lines_of (ls ++ l ∷ []) ≡ lines_of ls ++ (l ++ codes "\n")
lines_of-append [] l = refl
lines_of-append (k ∷ ls) l = ap (λ t. k ++ (codes "\n" ++ t)) (lines_of-append ls l) ∙ regroup k (lines_of ls) (l ++ codes "\n")
  where
    regroup : (k a b : List ℕ) → k ++ (codes "\n" ++ (a ++ b)) ≡ (k ++ (codes "\n" ++ a)) ++ b
    regroup k a b = simp append_assoc

-- past one line
line_past : (n : ℕ) (l x : List ℕ) → is_plain l ≡ true → first_lines (suc n) (l ++ (codes "\n" ++ x)) ≡ l ++ (codes "\n" ++ first_lines n x)
line_past n [] x h = refl
line_past n (c ∷ cs) x h =
    let parts = and_parts (no_feed c) (is_plain cs) h in
    ap (λ b. c ∷ (if b then first_lines n (cs ++ (codes "\n" ++ x)) else first_lines (suc n) (cs ++ (codes "\n" ++ x)))) (not-true (c == 10) parts.0) ∙ ap (λ t. c ∷ t) (line_past n cs x parts.1)

lines_past : (ls : List (List ℕ)) (x : List ℕ) → list_all is_plain ls ≡ true → first_lines (length ls) (lines_of ls ++ x) ≡ lines_of ls
lines_past [] x h = refl
lines_past (l ∷ ls) x h =
    let parts = and_parts (is_plain l) (list_all is_plain ls) h in
    ap (first_lines (suc (length ls))) (regroup l (lines_of ls) x) ∙ line_past (length ls) l (lines_of ls ++ x) parts.0 ∙ ap (λ t. l ++ (codes "\n" ++ t)) (lines_past ls x parts.1)
  where
    regroup : (l a x : List ℕ) → (l ++ (codes "\n" ++ a)) ++ x ≡ l ++ (codes "\n" ++ (a ++ x))
    regroup l a x = simp append_assoc

feeds_past : (l x : List ℕ) → is_plain l ≡ true → feeds_in (l ++ (codes "\n" ++ x)) ≡ suc (feeds_in x)
feeds_past [] x h = refl
feeds_past (c ∷ cs) x h =
    let parts = and_parts (no_feed c) (is_plain cs) h in
    ap (λ b. if b then suc (feeds_in (cs ++ (codes "\n" ++ x))) else feeds_in (cs ++ (codes "\n" ++ x))) (not-true (c == 10) parts.0) ∙ feeds_past cs x parts.1

feeds_of_lines : (ls : List (List ℕ)) (x : List ℕ) → list_all is_plain ls ≡ true → feeds_in (lines_of ls ++ x) ≡ length ls + feeds_in x
feeds_of_lines [] x h = let e : feeds_in x ≡ 0 + feeds_in x = omega arith in e
feeds_of_lines (l ∷ ls) x h =
    let parts = and_parts (is_plain l) (list_all is_plain ls) h in
    let more = feeds_of_lines ls x parts.1 in
    let own = feeds_past l (lines_of ls ++ x) parts.0 in
    let sum : suc (feeds_in (lines_of ls ++ x)) ≡ length (l ∷ ls) + feeds_in x = omega arith in
    ap feeds_in (regroup l (lines_of ls) x) ∙ own ∙ sum
  where
    regroup : (l a x : List ℕ) → (l ++ (codes "\n" ++ a)) ++ x ≡ l ++ (codes "\n" ++ (a ++ x))
    regroup l a x = simp append_assoc

no_feeds : (x : List ℕ) → is_plain x ≡ true → feeds_in x ≡ 0
no_feeds [] h = refl
no_feeds (c ∷ cs) h =
    let parts = and_parts (no_feed c) (is_plain cs) h in
    ap (λ b. if b then suc (feeds_in cs) else feeds_in cs) (not-true (c == 10) parts.0) ∙ no_feeds cs parts.1

-- the bytes to the next line feed, and those behind it
record Divided (x : List ℕ) : Type 0 where
  own : List ℕ
  more : List ℕ
  plain : is_plain own ≡ true
  text_is : x ≡ own ++ (codes "\n" ++ more)

divided : (x : List ℕ) → (is_plain x ≡ true) ⊎ Divided x
divided [] = inl refl
divided (c ∷ cs) = go (c == 10) refl (divided cs)
  where
    go : (t : Bool) → (c == 10) ≡ t → (is_plain cs ≡ true) ⊎ Divided cs → (is_plain (c ∷ cs) ≡ true) ⊎ Divided (c ∷ cs)
    go true same h = inr (record { own = []; more = cs; plain = refl; text_is = ap (λ c. c ∷ cs) (eqb-true c 10 same) })
    go false other (inl h) = inl (and_from (no_feed c) (is_plain cs) (ap not other) h)
    go false other (inr d) = inr (record { own = c ∷ d.own; more = d.more; plain = and_from (no_feed c) (is_plain d.own) (ap not other) d.plain; text_is = ap (λ t. c ∷ t) d.text_is })

abbrev head_of : List ℕ → ℕ → ℕ
head_of [] other = other
head_of (c ∷ cs) other = c

abbrev tail_of : List ℕ → List ℕ
tail_of [] = []
tail_of (c ∷ cs) = cs

head_same : (c d : ℕ) (cs ds : List ℕ) → c ∷ cs ≡ d ∷ ds → c ≡ d
head_same c d cs ds e = ap (λ t. head_of t c) e

tail_same : (c d : ℕ) (cs ds : List ℕ) → c ∷ cs ≡ d ∷ ds → cs ≡ ds
tail_same c d cs ds e = ap tail_of e

feed_there : (own x : List ℕ) → own ++ (codes "\n" ++ x) ≡ [] → ⊥
feed_there [] x e = absurd (cc)
feed_there (c ∷ cs) x e = absurd (cc)

-- a line that begins like another is that line
same_line : (a b x y : List ℕ) → is_plain a ≡ true → is_plain b ≡ true → a ++ (codes "\n" ++ x) ≡ b ++ (codes "\n" ++ y) → (a ≡ b) × (x ≡ y)
same_line [] [] x y f g e = (refl, tail_same 10 10 x y e)
same_line [] (c ∷ cs) x y f g e =
    let is : 10 ≡ c = head_same 10 c x (cs ++ (codes "\n" ++ y)) e in
    let clash : (10 == 10) ≡ false = subst (λ n. (n == 10) ≡ false) (sym is) (not-true (c == 10) (and_parts (no_feed c) (is_plain cs) g).0) in
    absurd (cc)
same_line (c ∷ cs) [] x y f g e =
    let is : c ≡ 10 = head_same c 10 (cs ++ (codes "\n" ++ x)) y e in
    let clash : (10 == 10) ≡ false = subst (λ n. (n == 10) ≡ false) is (not-true (c == 10) (and_parts (no_feed c) (is_plain cs) f).0) in
    absurd (cc)
same_line (c ∷ cs) (d ∷ ds) x y f g e =
    let is : c ≡ d = head_same c d (cs ++ (codes "\n" ++ x)) (ds ++ (codes "\n" ++ y)) e in
    let rest = same_line cs ds x y (and_parts (no_feed c) (is_plain cs) f).1 (and_parts (no_feed d) (is_plain ds) g).1 (tail_same c d (cs ++ (codes "\n" ++ x)) (ds ++ (codes "\n" ++ y)) e) in
    (ap (λ c. c ∷ cs) is ∙ ap (λ t. d ∷ t) rest.0, rest.1)

-- WHAT HAS BEEN READ: whole lines, behind which stands what they await, and nothing else makes a text of them
pub record SoFar (text : List ℕ) (between : Between) (here : Place) (number : ℕ) : Type 0 where
  pub lines : List (List ℕ)
  pub plain : list_all is_plain lines ≡ true
  pub text_is : text ≡ lines_of lines ++ here.rest
  pub clear : here.fits ≡ true
  pub number_is : number ≡ min (length lines + 1) last_line
  pub whole_by : (y : List ℕ) → Follows between y → IsText (lines_of lines ++ y)
  pub follows_by : (y : List ℕ) → IsText (lines_of lines ++ y) → Follows between y

pub so_far_none : (text : List ℕ) (fits : Bool) → fits ≡ true → SoFar text Externals (record { rest = text; fits = fits }) 1
so_far_none text fits ok = record { lines = []; plain = refl; text_is = refl; clear = ok; number_is = one; whole_by = λ y h. text_from y h; follows_by = λ y h. text_follows y h }
  where
    one : 1 ≡ min (0 + 1) last_line
    one = omega arith

clear_place : (p : Place) → p.fits ≡ true → clean p.rest ≡ p
clear_place p h = ap (λ f. record { rest = p.rest; fits = f }) (sym h)

-- one line more
pub so_far_next : (text : List ℕ) (b next : Between) (p q : Place) (number : ℕ) → SoFar text b p number → line_at b p ≡ Some (next, q) → SoFar text next q (min (number + 1) last_line)
so_far_next text b next p q number s is =
    let f = line_found b p next q is s.clear in
    let own : List ℕ = line_text f.line in
    let last : is_plain own ≡ true = plain_line f.line f.fit in
    let front : lines_of (s.lines ++ own ∷ []) ≡ lines_of s.lines ++ (own ++ codes "\n") = lines_of-append s.lines own in
    let join : (y : List ℕ) → lines_of (s.lines ++ own ∷ []) ++ y ≡ lines_of s.lines ++ ((own ++ codes "\n") ++ y) = λ y. ap (λ t. t ++ y) front ∙ append_assoc (lines_of s.lines) (own ++ codes "\n") y in
    let long : length (s.lines ++ own ∷ []) ≡ length s.lines + 1 = length-append s.lines (own ∷ []) in
    let before = s.number_is in
    record {
      lines = s.lines ++ own ∷ [];
      plain = list_all-append is_plain s.lines (own ∷ []) ∙ and_from (list_all is_plain s.lines) (is_plain own && true) s.plain (and_from (is_plain own) true last refl);
      text_is = s.text_is ∙ ap (λ t. lines_of s.lines ++ t) f.text_is ∙ sym (join q.rest);
      clear = sym f.fits_is ∙ s.clear;
      number_is = omega arith;
      whole_by = λ y h. subst IsText (sym (join y)) (s.whole_by ((own ++ codes "\n") ++ y) (f.follows y h));
      follows_by = λ y h. goes_on f.line y (f.again y) (follows_steps b ((own ++ codes "\n") ++ y) (s.follows_by ((own ++ codes "\n") ++ y) (subst IsText (join y) h)));
    }
  where
    goes_on : (l : Line) (y : List ℕ) → line_at b (clean ((line_text l ++ codes "\n") ++ y)) ≡ Some (next, clean y)
        → Ends b ((line_text l ++ codes "\n") ++ y) ⊎ Steps b ((line_text l ++ codes "\n") ++ y) → Follows next y
    goes_on l y again (inl e) = absurd (feed_there (line_text l) y (sym (append_assoc (line_text l) (codes "\n") y) ∙ e.1))
    goes_on l y again (inr t) =
        let both = some_pair_parts t.next next (clean t.more) (clean y) (sym t.reads ∙ again) in
        subst (λ n. Follows n y) both.0 (subst (λ z. Follows t.next z) (ap (λ p. p.rest) both.1) t.behind)

-- where no text goes on with the line that stands here
not_here : (b : Between) (here : Place) (own more other : List ℕ) → here.fits ≡ true → line_at b here ≡ None → here.rest ≡ own ++ (codes "\n" ++ more) → is_plain own ≡ true → Follows b (own ++ (codes "\n" ++ other)) → ⊥
not_here b here own more other clear none text plain follows = go (follows_steps b (own ++ (codes "\n" ++ other)) follows)
  where
    go : Ends b (own ++ (codes "\n" ++ other)) ⊎ Steps b (own ++ (codes "\n" ++ other)) → ⊥
    go (inl e) = feed_there own other e.1
    go (inr t) =
        let f = line_found b (clean (own ++ (codes "\n" ++ other))) t.next (clean t.more) t.reads refl in
        let same = same_line own (line_text f.line) other t.more plain (plain_line f.line f.fit) (f.text_is ∙ append_assoc (line_text f.line) (codes "\n") t.more) in
        let reads : line_at b here ≡ Some (t.next, clean more) =
        ap (line_at b) (sym (clear_place here clear)) ∙ ap (λ t. line_at b (clean t)) (text ∙ ap (λ l. l ++ (codes "\n" ++ more)) same.0 ∙ sym (append_assoc (line_text f.line) (codes "\n") more)) ∙ f.again more in
        absurd (cc)

-- the line that stands here is the first astray
pub astray_here : (text : List ℕ) (b : Between) (here : Place) (number : ℕ) → SoFar text b here number → line_at b here ≡ None → (b ≡ Modules → here.rest ≡ [] → ⊥) → IsFirstAstray text number
astray_here text b here number s none unended =
    let n : ℕ = length s.lines in
    let feeds : feeds_in text ≡ n + feeds_in here.rest = ap feeds_in s.text_is ∙ feeds_of_lines s.lines here.rest s.plain in
    let some = some_follows b in
    let front : first_lines n text ≡ lines_of s.lines = ap (first_lines n) s.text_is ∙ lines_past s.lines here.rest s.plain in
    let began : BeginsText (first_lines n text) = subst BeginsText (sym front) (record { behind = some.0; whole = s.whole_by some.0 some.1 }) in
    let within : nat_le n (feeds_in text) ≡ true = le-leb n (feeds_in text) (omega arith) in
    record {
      before = n;
      line_is = s.number_is;
      begin = subst (λ t. LinesBeginBy t n text) (sym within) began;
      astray = no_more feeds (divided here.rest);
    }
  where
    regroup : (a l x : List ℕ) → a ++ (l ++ (codes "\n" ++ x)) ≡ (a ++ (l ++ codes "\n")) ++ x
    regroup a l x = simp append_assoc

    whole_none : IsText text → ⊥
    whole_none is_text = go (follows_steps b here.rest (s.follows_by here.rest (subst IsText s.text_is is_text)))
      where
        go : Ends b here.rest ⊎ Steps b here.rest → ⊥
        go (inl e) = unended e.0 e.1
        go (inr t) =
            let reads : line_at b here ≡ Some (t.next, clean t.more) = ap (line_at b) (sym (clear_place here s.clear)) ∙ t.reads in
            absurd (cc)

    no_more : feeds_in text ≡ length s.lines + feeds_in here.rest → (is_plain here.rest ≡ true) ⊎ Divided here.rest → LinesBegin (length s.lines + 1) text → ⊥
    no_more feeds (inl plain) begins =
        let none_left = no_feeds here.rest plain in
        let beyond : nat_le (length s.lines + 1) (feeds_in text) ≡ false = lt-leb (length s.lines + 1) (feeds_in text) (omega arith) in
        whole_none (subst (λ t. LinesBeginBy t (length s.lines + 1) text) beyond begins)
    no_more feeds (inr d) begins =
        let one_left = ap feeds_in d.text_is ∙ feeds_past d.own d.more d.plain in
        let within : nat_le (length s.lines + 1) (feeds_in text) ≡ true = le-leb (length s.lines + 1) (feeds_in text) (omega arith) in
        let more : BeginsText (first_lines (length s.lines + 1) text) = subst (λ t. LinesBeginBy t (length s.lines + 1) text) within begins in
        let plain : list_all is_plain (s.lines ++ d.own ∷ []) ≡ true = list_all-append is_plain s.lines (d.own ∷ []) ∙ and_from (list_all is_plain s.lines) (is_plain d.own && true) s.plain (and_from (is_plain d.own) true d.plain refl) in
        let long : length (s.lines ++ d.own ∷ []) ≡ length s.lines + 1 = length-append s.lines (d.own ∷ []) in
        let parts : text ≡ lines_of (s.lines ++ d.own ∷ []) ++ d.more = s.text_is ∙ ap (λ t. lines_of s.lines ++ t) d.text_is ∙ regroup (lines_of s.lines) d.own d.more ∙ ap (λ t. t ++ d.more) (sym (lines_of-append s.lines d.own)) in
        let front : first_lines (length s.lines + 1) text ≡ lines_of s.lines ++ (d.own ++ codes "\n") =
        ap (λ n. first_lines n text) (sym long) ∙ ap (first_lines (length (s.lines ++ d.own ∷ []))) parts ∙ lines_past (s.lines ++ d.own ∷ []) d.more plain ∙ lines_of-append s.lines d.own in
        let whole : IsText (lines_of s.lines ++ (d.own ++ (codes "\n" ++ more.behind))) =
        subst IsText (ap (λ t. t ++ more.behind) front ∙ sym (regroup (lines_of s.lines) d.own more.behind)) more.whole in
        not_here b here d.own d.more more.behind s.clear none d.text_is d.plain (s.follows_by (d.own ++ (codes "\n" ++ more.behind)) whole)

-- no line is empty
pub none_at_end : (b : Between) (here : Place) → here.rest ≡ [] → line_at b here ≡ None
none_at_end b here none = ap (λ t. line_at b (record { rest = t; fits = here.fits })) none ∙ go b
  where
    go : (b : Between) → line_at b (record { rest = []; fits = here.fits }) ≡ None
    go Externals = refl
    go Modules = refl
    go Port = refl
    go PortsDone = refl
    go Decls = refl
    go Assigns = refl
    go Instances = refl
    go Branches = refl
    go Sets = refl
    go Items = refl
    go EdgeDone = refl
    go ModuleDone = refl

-- each line is some bytes
pub shorter : (b next : Between) (p q : Place) → line_at b p ≡ Some (next, q) → p.fits ≡ true → length q.rest < length p.rest
shorter b next p q is clear =
    let f = line_found b p next q is clear in
    let whole = ap length f.text_is in
    let parts = length-append (line_text f.line ++ codes "\n") q.rest in
    let own : length (line_text f.line ++ codes "\n") ≡ length (line_text f.line) + 1 = length-append (line_text f.line) (codes "\n") in
    omega arith

-- whether bytes are left
pub some_left : (x : List ℕ) → (length x == 0) ≡ false → x ≡ [] → ⊥
some_left [] h e = absurd (cc)
some_left (c ∷ cs) h e = absurd (cc)

pub none_left : (x : List ℕ) → (length x == 0) ≡ true → x ≡ []
none_left [] h = refl
none_left (c ∷ cs) h = let some = eqb-true (length (c ∷ cs)) 0 h in absurd (omega arith)
