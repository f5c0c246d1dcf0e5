-- Tokens have one tree, or one fault at one place.
use Rattle.std.proofs.Common.{◌≡◌, ℕ, suc, ◌+◌, List, [], ◌∷◌, ◌++◌, length, Ok, Err, refl, sym, ap, subst, ◌∙◌, arith, ◌⊎◌, inl, inr, ⊎_elim, append_assoc, append-nil, length-append}
use Rattle.cx_ast.specs.declared.tokens.Token.{Token}
use Rattle.cx_ast.specs.PlainTree.{PlainTree}
use Rattle.cx_grammar.specs.Grammar.{Spells}
use Rattle.cx_grammar.specs.Calyx.{file, nested_at, spelled_within}
use Rattle.cx_grammar.specs.Parsing.{Parse, Begins, IsUnexpected, IsDeep}
use Rattle.cx_grammar.specs.Reading.{Why, Unexpected, TooDeep, Stop, Reads, read}
use Rattle.cx_grammar.proofs.Deep.{last_stop, too_deep_stops}
use Rattle.cx_grammar.proofs.OneTree.{parse_sound, parse_complete}
use Rattle.cx_grammar.proofs.Faults.{unexpected_at, over_at, deep_stop}
use Rattle.cx_grammar.proofs.ReadingLemmas.{ok_not_err}

-- one front of some tokens is longer than another by these
record IsLonger (front back longer behind : List Token) : Type 0 where
  token : Token
  mid : List Token
  fronts : longer ≡ front ++ (token ∷ mid)
  backs : back ≡ token ∷ (mid ++ behind)

abbrev Splits : List Token → List Token → List Token → List Token → Type 0
Splits a b c d = ((a ≡ c) × (b ≡ d)) ⊎ (IsLonger a b c d ⊎ IsLonger c d a b)

heads : (t u : Token) (ts us : List Token) → t ∷ ts ≡ u ∷ us → (t ≡ u) × (ts ≡ us)
heads t u ts us e = (cc, cc)

pushed_longer : (t u : Token) (a b c d : List Token) → t ≡ u → IsLonger a b c d → IsLonger (t ∷ a) b (u ∷ c) d
pushed_longer t u a b c d e l = record { token = l.token; mid = l.mid; fronts = ap (λ x. x ∷ c) (sym e) ∙ ap (λ us. t ∷ us) l.fronts; backs = l.backs }

pushed : (t u : Token) (a b c d : List Token) → t ≡ u → Splits a b c d → Splits (t ∷ a) b (u ∷ c) d
pushed t u a b c d e (inl same) = inl (ap (λ x. x ∷ a) e ∙ ap (λ us. u ∷ us) same.0, same.1)
pushed t u a b c d e (inr (inl l)) = inr (inl (pushed_longer t u a b c d e l))
pushed t u a b c d e (inr (inr l)) = inr (inr (pushed_longer u t c d a b (sym e) l))

splits : (a b c d : List Token) → a ++ b ≡ c ++ d → Splits a b c d
splits [] b [] d e = inl (refl, e)
splits [] b (u ∷ c) d e = inr (inl (record { token = u; mid = c; fronts = refl; backs = e }))
splits (t ∷ a) b [] d e = inr (inr (record { token = t; mid = a; fronts = refl; backs = sym e }))
splits (t ∷ a) b (u ∷ c) d e = let h = heads t u (a ++ b) (c ++ d) e in pushed t u a b c d h.0 (splits a b c d h.1)

-- what begins a file does so with fewer tokens too
begins_less : (front back : List Token) → Begins (front ++ back) → Begins front
begins_less front back b = record {
  levels = b.levels;
  more = back ++ b.more;
  tree = b.tree;
  whole = subst (λ us. Spells (spelled_within b.levels) file us b.tree []) (append_assoc front back b.more) b.whole;
}

parse_begins : (tokens : List Token) (tree : PlainTree) → Parse tokens tree → Begins tokens
unfolding Parse
parse_begins tokens tree p = record { levels = 64; more = []; tree = tree; whole = subst (λ us. Spells (spelled_within 64) file us tree []) (sym (append-nil tokens)) p }

-- no more tokens than those before an unexpected one begin a file
not_longer : (tokens front back longer behind : List Token) → IsUnexpected tokens front back → IsLonger front back longer behind → Begins longer → ⊥
not_longer tokens front back longer behind u l b =
    u.no_more l.token (l.mid ++ behind) l.backs
    (begins_less (front ++ (l.token ∷ [])) l.mid (subst Begins (l.fronts ∙ sym (append_assoc front (l.token ∷ []) l.mid)) b))

pub one_unexpected : (tokens front back other rest : List Token) → IsUnexpected tokens front back → IsUnexpected tokens other rest → (front ≡ other) × (back ≡ rest)
one_unexpected tokens front back other rest u v = ⊎_elim (λ same. same)
    (λ l. ⊎_elim (λ k. absurd (not_longer tokens front back other rest u k v.front_begins)) (λ k. absurd (not_longer tokens other rest front back v k u.front_begins)) l)
    (splits front back other rest (sym u.whole ∙ v.whole))

-- the tokens up to the one that is too deep
deep_whole : (tokens front back : List Token) (d : IsDeep tokens front back) → tokens ≡ (front ++ (d.token ∷ [])) ++ d.after
deep_whole tokens front back d = d.whole ∙ ap (λ us. front ++ us) d.is ∙ sym (append_assoc front (d.token ∷ []) d.after)

pub not_both : (tokens front back other rest : List Token) → IsUnexpected tokens front back → IsDeep tokens other rest → ⊥
not_both tokens front back other rest u d =
    let upto = other ++ (d.token ∷ []) in
    ⊎_elim (λ same. u.not_deep upto [] (same.0 ∙ sym (append-nil upto)) d.too_deep)
    (λ l. ⊎_elim
    (λ k. not_longer tokens front back upto d.after u k d.still_begins)
    (λ k. u.not_deep upto (k.token ∷ k.mid) k.fronts d.too_deep) l)
    (splits front back upto d.after (sym u.whole ∙ deep_whole tokens other rest d))

-- reading stops at the token that is too deep
deep_reads : (tokens front back : List Token) (d : IsDeep tokens front back) → read (nested_at 64) file tokens ≡ Err (last_stop d.after)
deep_reads tokens front back d = ap (read (nested_at 64) file) (deep_whole tokens front back d) ∙ too_deep_stops (front ++ (d.token ∷ [])) d.after d.too_deep

stop_left : (s u : Stop) → (let r : Reads PlainTree = Err s in r ≡ Err u) → s.left ≡ u.left
stop_left s u e = let same : s ≡ u = cc in ap (λ (s : Stop). s.left) same

deep_length : (tokens front back other rest : List Token) → IsDeep tokens front back → IsDeep tokens other rest → length back ≡ length rest
deep_length tokens front back other rest d k =
    let one : length back ≡ length (d.token ∷ d.after) = ap length d.is in
    let two : length rest ≡ length (k.token ∷ k.after) = ap length k.is in
    let same : suc (length d.after) ≡ suc (length k.after) = stop_left (last_stop d.after) (last_stop k.after) (sym (deep_reads tokens front back d) ∙ deep_reads tokens other rest k) in
    omega arith

not_so_long : (front back longer behind : List Token) → IsLonger front back longer behind → length back ≡ length behind → ⊥
not_so_long front back longer behind l e =
    let more : length back ≡ length (l.token ∷ (l.mid ++ behind)) = ap length l.backs in
    let parts : length (l.mid ++ behind) ≡ length l.mid + length behind = length-append l.mid behind in
    omega arith

pub one_deep : (tokens front back other rest : List Token) → IsDeep tokens front back → IsDeep tokens other rest → (front ≡ other) × (back ≡ rest)
one_deep tokens front back other rest d k =
    let same = deep_length tokens front back other rest d k in
    ⊎_elim (λ same. same)
    (λ l. ⊎_elim (λ m. absurd (not_so_long front back other rest m same)) (λ m. absurd (not_so_long other rest front back m (sym same))) l)
    (splits front back other rest (sym d.whole ∙ k.whole))

pub tree_expected : (tokens : List Token) (tree : PlainTree) (front back : List Token) → Parse tokens tree → IsUnexpected tokens front back → ⊥
unfolding Parse
tree_expected tokens tree front [] p u = u.no_file refl (64, tree, p)
tree_expected tokens tree front (t ∷ after) p u =
    u.no_more t after refl (begins_less (front ++ (t ∷ [])) after (subst Begins (u.whole ∙ sym (append_assoc front (t ∷ []) after)) (parse_begins tokens tree p)))

pub tree_within : (tokens : List Token) (tree : PlainTree) (front back : List Token) → Parse tokens tree → IsDeep tokens front back → ⊥
tree_within tokens tree front back p d = ok_not_err (tree, []) (last_stop d.after) (sym (parse_complete tokens tree p) ∙ deep_reads tokens front back d)

-- the tree, the unexpected token or end, or the token that is too deep
abbrev pub Answer : List Token → Type 0
Answer tokens = ((tree : PlainTree) × Parse tokens tree) ⊎ (((front back : List Token) × IsUnexpected tokens front back) ⊎ ((front back : List Token) × IsDeep tokens front back))

answer_of : (tokens : List Token) (r : Reads PlainTree) → read (nested_at 64) file tokens ≡ r → Answer tokens
answer_of tokens (Ok (tree, [])) e = inl (tree, parse_sound tokens tree e)
answer_of tokens (Ok (tree, t ∷ after)) e = let o = over_at tokens tree t after e in inr (inl (o.0, t ∷ after, o.1))
answer_of tokens (Err s) e = stopped s.why s.left e
  where
    stopped : (why : Why) (left : ℕ) → read (nested_at 64) file tokens ≡ Err (record { why = why; left = left }) → Answer tokens
    stopped Unexpected left e = let u = unexpected_at tokens left e in inr (inl (u.0, u.1, u.2))
    stopped TooDeep left e = let d = deep_stop tokens left e in inr (inr (d.0, d.1, d.2))

pub some_answer : (tokens : List Token) → Answer tokens
some_answer tokens = answer_of tokens (read (nested_at 64) file tokens) refl
