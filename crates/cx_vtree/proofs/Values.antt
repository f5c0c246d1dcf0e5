-- A net has one value at most, and more knowledge gives no other values.
use Rattle.std.proofs.Common.{◌≡◌, ℕ, ◌==◌, Bool, true, false, List, Option, Some, None, option_and_then, option_map, refl, ap, ◌∙◌, if◌then◌else◌}
use Rattle.cx_bits.specs.BitVector.{BitVector}
use Rattle.cx_vtree.specs.Plain.{PlainExpr, Named, Number, Part, Word, Applied, Inverted, Chosen, Joined}
use Rattle.cx_vtree.specs.Operators.{operate, inverted, part_of, joined}
use Rattle.cx_vtree.specs.InstanceTree.{Placed, decls_at, Origin, Outside, Tied, Held, Given, origin_of}
use Rattle.cx_vtree.specs.Meaning.{Moment, Look, word_in, expr_in, expr_at, from_origin, step, HasValue, by_step, IsRight, Eval, by_nets}

-- two answers, where both are there, are one
abbrev pub Agree : {A : Type 0} → Option A → Option A → Type 0
Agree {A} a b = (x y : A) → a ≡ Some x → b ≡ Some y → x ≡ y

agree_same : {A : Type 0} (a : Option A) → Agree a a
agree_same a x y e f = cc

agree_bind : {A B : Type 0} (f g : A → Option B) (a b : Option A) → Agree a b → ((x : A) → Agree (f x) (g x)) → Agree (option_and_then f a) (option_and_then g b)
agree_bind f g None b h k x y e e' = cc
agree_bind f g (Some u) None h k x y e e' = cc
agree_bind f g (Some u) (Some v) h k x y e e' = k u x y e (ap g (h u v refl refl) ∙ e')

agree_map : {A B : Type 0} (f : A → B) (a b : Option A) → Agree a b → Agree (option_map f a) (option_map f b)
agree_map f None b h x y e e' = cc
agree_map f (Some u) None h x y e e' = cc
agree_map f (Some u) (Some v) h x y e e' = let same = h u v refl refl in cc

agree_choice : {A : Type 0} (t : Bool) (a b c d : Option A) → Agree a c → Agree b d → Agree (if t then a else b) (if t then c else d)
agree_choice true a b c d h k = h
agree_choice false a b c d h k = k

module _ (nets more : List ℕ → Option BitVector) (words : List ℕ → ℕ → BitVector) (h : (n : List ℕ) → Agree (nets n) (more n)) where
  pub agree_expr : (e : PlainExpr) → Agree (expr_in nets words e) (expr_in more words e)
  agree_expr (Named n) = h n
  agree_expr (Number b) = agree_same _
  agree_expr (Part n high low) = agree_map (part_of high low) (nets n) (more n) (h n)
  agree_expr (Word n i) = agree_map (λ k. words n k.value) (expr_in nets words i) (expr_in more words i) (agree_expr i)
  agree_expr (Applied op a b) = agree_bind _ _ (expr_in nets words a) (expr_in more words a) (agree_expr a) (λ x. agree_map (operate op x) (expr_in nets words b) (expr_in more words b) (agree_expr b))
  agree_expr (Inverted a) = agree_map inverted (expr_in nets words a) (expr_in more words a) (agree_expr a)
  agree_expr (Chosen c a b) = agree_bind _ _ (expr_in nets words c) (expr_in more words c) (agree_expr c) (λ t. agree_choice (t.value == 0) _ _ _ _ (agree_expr b) (agree_expr a))
  agree_expr (Joined a b) = agree_bind _ _ (expr_in nets words a) (expr_in more words a) (agree_expr a) (λ x. agree_map (joined x) (expr_in nets words b) (expr_in more words b) (agree_expr b))

module _ (tree : List Placed) (m : Moment) (look more : Look) (h : (j : ℕ) (n : List ℕ) → Agree (look j n) (more j n)) where
  pub agree_at : (i : ℕ) (e : PlainExpr) → Agree (expr_at tree m look i e) (expr_at tree m more i e)
  agree_at i e = agree_expr (look i) (more i) (word_in (m.state.word i) (decls_at tree i)) (h i) e

  agree_origin : (i : ℕ) (n : List ℕ) (o : Origin) → Agree (from_origin tree m look i n o) (from_origin tree m more i n o)
  agree_origin i n Outside = agree_same _
  agree_origin i n (Tied j net) = h j net
  agree_origin i n (Held w) = agree_same _
  agree_origin i n (Given e) = agree_at i e

  pub agree_step : (i : ℕ) (n : List ℕ) → Agree (step tree m look i n) (step tree m more i n)
  agree_step i n = agree_bind _ _ (origin_of tree i n) (origin_of tree i n) (agree_same _) (agree_origin i n)

pub one_value : {tree : List Placed} {m : Moment} {i : ℕ} {n : List ℕ} {v w : BitVector} → HasValue tree m i n v → HasValue tree m i n w → v ≡ w
one_value {tree} {m} {i} {n} {v} {w} (by_step look right e) (by_step more right' e') =
    agree_step tree m look more (λ j net x y f g. one_value (right j net x f) (right' j net y g)) i n v w e e'

-- two right looks agree
pub right_agree : (tree : List Placed) (m : Moment) (look more : Look) → IsRight tree m look → IsRight tree m more → (j : ℕ) (n : List ℕ) → Agree (look j n) (more j n)
right_agree tree m look more right right' j n x y e f = one_value (right j n x e) (right' j n y f)

pub one_eval : {tree : List Placed} {m : Moment} {i : ℕ} {e : PlainExpr} {v w : BitVector} → Eval tree m i e v → Eval tree m i e w → v ≡ w
one_eval {tree} {m} {i} {e} {v} {w} (by_nets look right f) (by_nets more right' g) =
    agree_at tree m look more (right_agree tree m look more right right') i e v w f g
