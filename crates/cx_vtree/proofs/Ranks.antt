-- Where a rank goes down along what is needed, each net has a value.
use Rattle.std.proofs.Common.{◌≡◌, ℕ, ◌+◌, ◌<◌, zero, suc, ◌==◌, Bool, true, false, List, Option, Some, None, option_and_then, option_map, refl, ap, ◌∙◌, if◌then◌else◌, arith, ⊎_elim}
use Rattle.std.proofs.lemmas.Bool.Decides.{eqb_tells}
use Rattle.std.specs.Prelude.{IsSome}
use Rattle.cx_bits.specs.BitVector.{BitVector}
use Rattle.cx_vtree.specs.Plain.{PlainExpr, Named, Number, Part, Word, Applied, Inverted, Chosen, Joined}
use Rattle.cx_vtree.specs.Operators.{operate, inverted, part_of, joined}
use Rattle.cx_vtree.specs.InstanceTree.{Placed, decls_at, Origin, Outside, Tied, Held, Given, origin_of}
use Rattle.cx_vtree.specs.Meaning.{Moment, Look, word_in, expr_in, expr_at, from_origin, step, HasValue, by_step, IsRight, Eval, by_nets, Asks, by_name, by_part, by_index, by_left, by_right, by_inner, by_test, by_one, by_other, by_high, by_low, when_tied, when_given, GoesDown}
use Rattle.cx_vtree.proofs.Values.{Agree, right_agree}

-- what one of two looks knows
abbrev first_of : {A : Type 0} → Option A → Option A → Option A
first_of None b = b
first_of (Some x) b = Some x

abbrev both_of : Look → Look → Look
both_of a b j n = first_of (a j n) (b j n)

-- the second look knows all that the first one does
abbrev Within : {A : Type 0} → Option A → Option A → Type 0
Within {A} a b = (x : A) → a ≡ Some x → b ≡ Some x

within_first : {A : Type 0} (a b : Option A) → Within a (first_of a b)
within_first None b x e = absurd (cc)
within_first (Some y) b x e = e

within_second : {A : Type 0} (a b : Option A) → Agree a b → Within b (first_of a b)
within_second None b h x e = e
within_second (Some y) b h x e = ap Some (h y x refl e)

within_bind : {A B : Type 0} (f g : A → Option B) (a b : Option A) → Within a b → ((x : A) → Within (f x) (g x)) → Within (option_and_then f a) (option_and_then g b)
within_bind f g None b h k x e = absurd (cc)
within_bind f g (Some u) b h k x e = rw (h u refl) (k u x e)

within_map : {A B : Type 0} (f : A → B) (a b : Option A) → Within a b → Within (option_map f a) (option_map f b)
within_map f None b h x e = absurd (cc)
within_map f (Some u) b h x e = rw (h u refl) e

within_choice : {A : Type 0} (t : Bool) (a b c d : Option A) → Within a c → Within b d → Within (if t then a else b) (if t then c else d)
within_choice true a b c d h k = h
within_choice false a b c d h k = k

module _ (nets more : List ℕ → Option BitVector) (words : List ℕ → ℕ → BitVector) (h : (n : List ℕ) → Within (nets n) (more n)) where
  within_expr : (e : PlainExpr) → Within (expr_in nets words e) (expr_in more words e)
  within_expr (Named n) = h n
  within_expr (Number b) = λ x e. e
  within_expr (Part n high low) = within_map (part_of high low) (nets n) (more n) (h n)
  within_expr (Word n i) = within_map (λ k. words n k.value) (expr_in nets words i) (expr_in more words i) (within_expr i)
  within_expr (Applied op a b) = within_bind _ _ (expr_in nets words a) (expr_in more words a) (within_expr a) (λ x. within_map (operate op x) (expr_in nets words b) (expr_in more words b) (within_expr b))
  within_expr (Inverted a) = within_map inverted (expr_in nets words a) (expr_in more words a) (within_expr a)
  within_expr (Chosen c a b) = within_bind _ _ (expr_in nets words c) (expr_in more words c) (within_expr c) (λ t. within_choice (t.value == 0) _ _ _ _ (within_expr b) (within_expr a))
  within_expr (Joined a b) = within_bind _ _ (expr_in nets words a) (expr_in more words a) (within_expr a) (λ x. within_map (joined x) (expr_in nets words b) (expr_in more words b) (within_expr b))

module _ (tree : List Placed) (m : Moment) where
  right_both : (a b : Look) → IsRight tree m a → IsRight tree m b → IsRight tree m (both_of a b)
  right_both a b ha hb j n w e = go (a j n) refl e where
    go : (o : Option BitVector) → a j n ≡ o → first_of o (b j n) ≡ Some w → HasValue tree m j n w
    go None is e = hb j n w e
    go (Some x) is e = ha j n w (is ∙ e)

  -- what an expression is, where it has a value
  abbrev Known : ℕ → PlainExpr → Type 0
  Known i e = (v : BitVector) × (look : Look) × IsRight tree m look × (expr_at tree m look i e ≡ Some v)

  eval_known : (i : ℕ) (e : PlainExpr) (k : Known i e) → Eval tree m i e k.0
  eval_known i e k = by_nets k.1 k.2 k.3

  -- two expressions by one look
  together : (i : ℕ) (a b : PlainExpr) → (ka : Known i a) → (kb : Known i b)
      → (look : Look) × IsRight tree m look × (expr_at tree m look i a ≡ Some ka.0) × (expr_at tree m look i b ≡ Some kb.0)
  together i a b ka kb =
      let look : Look = both_of ka.1 kb.1 in
      let words : List ℕ → ℕ → BitVector = word_in (m.state.word i) (decls_at tree i) in (
        look,
        right_both ka.1 kb.1 ka.2 kb.2,
        within_expr (ka.1 i) (look i) words (λ n. within_first (ka.1 i n) (kb.1 i n)) a ka.0 ka.3,
        within_expr (kb.1 i) (look i) words (λ n. within_second (ka.1 i n) (kb.1 i n) (right_agree tree m ka.1 kb.1 ka.2 kb.2 i n)) b kb.0 kb.3,
      )

  abbrev nothing : Look
  nothing j n = None

  nothing_right : IsRight tree m nothing
  nothing_right j n w e = absurd (cc)

  known_net : (i : ℕ) (n : List ℕ) → ((v : BitVector) × HasValue tree m i n v) → Known i (Named n)
  known_net i n (v, by_step look right e) = (v, step tree m look, (λ j k w f. by_step look right f), e)

  -- a choice by its test and the side that it takes
  known_choice : (i : ℕ) (c a b : PlainExpr) (kc : Known i c)
      → ((kc.0.value ≡ 0 → ⊥) → Known i a) → (kc.0.value ≡ 0 → Known i b) → Known i (Chosen c a b)
  known_choice i c a b kc ka kb = ⊎_elim
      (λ z.
      let k = kb z.1 in
      let (look, right, ec, eb) = together i c b kc k in (
        k.0,
        look,
        right,
        ap (option_and_then (sides look)) ec ∙ ap (λ t. if t then expr_at tree m look i b else expr_at tree m look i a) z.0 ∙ eb,
      ))
      (λ z.
      let k = ka z.1 in
      let (look, right, ec, ea) = together i c a kc k in (
        k.0,
        look,
        right,
        ap (option_and_then (sides look)) ec ∙ ap (λ t. if t then expr_at tree m look i b else expr_at tree m look i a) z.0 ∙ ea,
      ))
      (eqb_tells kc.0.value 0)
    where
      sides : Look → BitVector → Option BitVector
      sides look t = if t.value == 0 then expr_at tree m look i b else expr_at tree m look i a

  known_expr : (i : ℕ) (e : PlainExpr) → ((n : List ℕ) → Asks tree m i e n → (v : BitVector) × HasValue tree m i n v) → Known i e
  known_expr i (Named n) h = known_net i n (h n by_name)
  known_expr i (Number b) h = (b, nothing, nothing_right, refl)
  known_expr i (Part n high low) h =
      let k = known_net i n (h n by_part) in (part_of high low k.0, k.1, k.2, ap (option_map (part_of high low)) k.3)
  known_expr i (Word a e) h =
      let k = known_expr i e (λ n q. h n (by_index q)) in
      let at : BitVector → BitVector = λ b. word_in (m.state.word i) (decls_at tree i) a b.value in
      (at k.0, k.1, k.2, ap (option_map at) k.3)
  known_expr i (Applied op a b) h =
      let ka = known_expr i a (λ n q. h n (by_left q)) in
      let kb = known_expr i b (λ n q. h n (by_right q)) in
      let (look, right, ea, eb) = together i a b ka kb in (
        operate op ka.0 kb.0,
        look,
        right,
        ap (option_and_then (λ x. option_map (operate op x) (expr_at tree m look i b))) ea ∙ ap (option_map (operate op ka.0)) eb,
      )
  known_expr i (Inverted a) h =
      let k = known_expr i a (λ n q. h n (by_inner q)) in (inverted k.0, k.1, k.2, ap (option_map inverted) k.3)
  known_expr i (Chosen c a b) h =
      let kc = known_expr i c (λ n q. h n (by_test q)) in
      known_choice i c a b kc
      (λ not_zero. known_expr i a (λ n q. h n (by_one (eval_known i c kc) not_zero q)))
      (λ is_zero. known_expr i b (λ n q. h n (by_other (eval_known i c kc) is_zero q)))
  known_expr i (Joined a b) h =
      let ka = known_expr i a (λ n q. h n (by_high q)) in
      let kb = known_expr i b (λ n q. h n (by_low q)) in
      let (look, right, ea, eb) = together i a b ka kb in (
        joined ka.0 kb.0,
        look,
        right,
        ap (option_and_then (λ x. option_map (joined x) (expr_at tree m look i b))) ea ∙ ap (option_map (joined ka.0)) eb,
      )

  -- the step of a net, where it is known what gives the net its value
  by_origin : (i : ℕ) (n : List ℕ) (o : Origin) (look : Look) (v : BitVector) → origin_of tree i n ≡ Some o → IsRight tree m look
      → from_origin tree m look i n o ≡ Some v → (w : BitVector) × HasValue tree m i n w
  by_origin i n o look v is right e = (v, by_step look right (ap (option_and_then (from_origin tree m look i n)) is ∙ e))

  module _ (rank : ℕ → List ℕ → ℕ) (down : GoesDown tree m rank) where
    -- a net has a value where all nets of lower rank have
    from_lower : (i : ℕ) (n : List ℕ) → ((j : ℕ) (net : List ℕ) → rank j net < rank i n → IsSome (origin_of tree j net) → (v : BitVector) × HasValue tree m j net v)
        → (o : Option Origin) → origin_of tree i n ≡ o → IsSome o → (v : BitVector) × HasValue tree m i n v
    from_lower i n lower None is some = absurd (cc)
    from_lower i n lower (Some Outside) is some = by_origin i n Outside nothing _ is nothing_right refl
    from_lower i n lower (Some (Tied j net)) is some =
        let d = down i n j net (when_tied is) in
        let k = known_net j net (lower j net d.0 d.1) in
        by_origin i n (Tied j net) k.1 k.0 is k.2 k.3
    from_lower i n lower (Some (Held w)) is some = by_origin i n (Held w) nothing _ is nothing_right refl
    from_lower i n lower (Some (Given e)) is some =
        let k = known_expr i e (λ net asks. let d = down i n i net (when_given is asks) in lower i net d.0 d.1) in
        by_origin i n (Given e) k.1 k.0 is k.2 k.3

    below_rank : (b i : ℕ) (n : List ℕ) → rank i n < b → IsSome (origin_of tree i n) → (v : BitVector) × HasValue tree m i n v
    below_rank zero i n lt some = absurd (omega arith)
    below_rank (suc b) i n lt some =
        from_lower i n (λ j net less is. let lower : rank j net < b = omega arith in below_rank b j net lower is) (origin_of tree i n) refl some

    pub ranked_value : (i : ℕ) (n : List ℕ) → IsSome (origin_of tree i n) → (v : BitVector) × HasValue tree m i n v
    ranked_value i n some = let lt : rank i n < rank i n + 1 = omega arith in below_rank (rank i n + 1) i n lt some
