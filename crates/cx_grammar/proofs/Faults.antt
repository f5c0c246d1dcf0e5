-- Where reading a file stops, the tokens so far begin a file, and with the next one they begin none, or are too deep.
use Rattle.std.proofs.Common.{◌≡◌, ℕ, suc, List, [], ◌∷◌, ◌++◌, length, drop, Ok, Err, refl, sym, ap, subst, ◌∙◌, append_assoc}
use Rattle.cx_ast.specs.declared.tokens.Token.{Token}
use Rattle.cx_ast.specs.PlainTree.{PlainTree}
use Rattle.cx_grammar.specs.Terminals.{peek_at}
use Rattle.cx_grammar.specs.Grammar.{Spells}
use Rattle.cx_grammar.specs.Calyx.{file, nested_at, spelled_within}
use Rattle.cx_grammar.specs.Parsing.{Parse, Begins, IsTooDeep, Leads, deep_at, IsUnexpected, IsDeep}
use Rattle.cx_grammar.specs.Reading.{Unexpected, TooDeep, Stop, Reads, read}
use Rattle.cx_grammar.proofs.Deep.{last_stop, too_deep_stops}
use Rattle.cx_grammar.proofs.Known.{plain_file}
use Rattle.cx_grammar.proofs.OneTree.{file_complete}
use Rattle.cx_grammar.proofs.Samples.{nested_sample}
use Rattle.cx_grammar.proofs.Shorter.{nested_shorter, ok_same}
use Rattle.cx_grammar.proofs.Sound.{nested_sound}
use Rattle.cx_grammar.proofs.Stays.{Completes, Done, Stopped, Stays}
use Rattle.cx_grammar.proofs.Viable.{read_stays, nested_stays}
use Rattle.cx_grammar.proofs.Wider.{NotDeep, levels_same}
use Rattle.cx_grammar.proofs.ReadingLemmas.{ok_not_err}

file_stays : (levels : ℕ) (ts : List Token) → Stays (read (nested_at levels) file) (Spells (spelled_within (suc levels)) file) (Leads (spelled_within levels) (deep_at levels) file) ts (read (nested_at levels) file ts)
file_stays levels ts = read_stays (nested_at levels) (spelled_within levels) (spelled_within (suc levels)) (deep_at levels) (nested_shorter levels) (nested_sound levels) (nested_sample levels) (nested_stays levels) file plain_file ts

completed : (levels : ℕ) (used : List Token) → Completes (Spells (spelled_within levels) file) used → Begins used
completed levels used c = record { levels = levels; more = c.extra ++ []; tree = c.value; whole = c.free [] }

-- a file that is read with some number of levels is not stopped with another
not_stopped : (m k : ℕ) (ts : List Token) (tree : PlainTree) (left : ℕ) → read (nested_at m) file ts ≡ Ok (tree, []) → read (nested_at k) file ts ≡ Err (record { why = Unexpected; left = left }) → ⊥
not_stopped m k ts tree left e f =
    ok_not_err (tree, []) (record { why = Unexpected; left = left })
    (sym e ∙ levels_same k m ts (subst (λ r. NotDeep r) (sym f) refl) (subst (λ r. NotDeep r) (sym e) tt) ∙ f)

not_nil : (t : Token) (ts : List Token) → (let us : List Token = [] in us ≡ t ∷ ts) → ⊥
not_nil t ts e = cc

some_rest : (tree x : PlainTree) (t : Token) (ts : List Token) → (let r : Reads PlainTree = Ok (tree, []) in r ≡ Ok (x, t ∷ ts)) → ⊥
some_rest tree x t ts e = not_nil t ts (ap (λ (p : PlainTree × List Token). p.1) (ok_same e))

-- nor does it end before its last token
not_over : (m k : ℕ) (ts : List Token) (tree x : PlainTree) (t : Token) (more : List Token) → read (nested_at m) file ts ≡ Ok (tree, []) → read (nested_at k) file ts ≡ Ok (x, t ∷ more) → ⊥
not_over m k ts tree x t more e f =
    some_rest tree x t more (sym e ∙ levels_same k m ts (subst (λ r. NotDeep r) (sym f) tt) (subst (λ r. NotDeep r) (sym e) tt) ∙ f)

one_more : (used : List Token) (t : Token) (more : List Token) → (used ++ (t ∷ [])) ++ more ≡ used ++ (t ∷ more)
one_more used t more = append_assoc used (t ∷ []) more

-- tokens of which some at the front are too deep stop reading there
deep_front : (ts before after rest : List Token) → ts ≡ (before ++ after) ++ rest → IsTooDeep before → read (nested_at 64) file ts ≡ Err (last_stop (after ++ rest))
deep_front ts before after rest whole d = ap (read (nested_at 64) file) (whole ∙ append_assoc before after rest) ∙ too_deep_stops before (after ++ rest) d

stop_same : (s u : Stop) → (let r : Reads PlainTree = Err s in r ≡ Err u) → s ≡ u
stop_same s u e = cc

unlike : (a b : Stop) → a.why ≡ TooDeep → b.why ≡ Unexpected → a ≡ b → ⊥
unlike a b deep plain e = let same : a.why ≡ b.why = ap (λ (s : Stop). s.why) e in cc

not_deep_stopped : (ts before after rest : List Token) (left : ℕ) → ts ≡ (before ++ after) ++ rest → IsTooDeep before → read (nested_at 64) file ts ≡ Err (record { why = Unexpected; left = left }) → ⊥
not_deep_stopped ts before after rest left whole d e = unlike (last_stop (after ++ rest)) (record { why = Unexpected; left = left }) refl refl (stop_same _ _ (sym (deep_front ts before after rest whole d) ∙ e))

not_deep_read : (ts before after rest : List Token) (x : PlainTree) (behind : List Token) → ts ≡ (before ++ after) ++ rest → IsTooDeep before → read (nested_at 64) file ts ≡ Ok (x, behind) → ⊥
not_deep_read ts before after rest x behind whole d e = ok_not_err (x, behind) (last_stop (after ++ rest)) (sym e ∙ deep_front ts before after rest whole d)

-- reading stopped
pub unexpected_at : (ts : List Token) (left : ℕ) → read (nested_at 64) file ts ≡ Err (record { why = Unexpected; left = left }) → (front back : List Token) × IsUnexpected ts front back × (length back ≡ left)
unfolding Parse
unexpected_at ts left e = stopped (subst (Stays (read (nested_at 64) file) (Spells (spelled_within 65) file) (Leads (spelled_within 64) (deep_at 64) file) ts) e (file_stays 64 ts))
  where
    stopped : Stopped (read (nested_at 64) file) (Spells (spelled_within 65) file) (Leads (spelled_within 64) (deep_at 64) file) ts Unexpected left → (front back : List Token) × IsUnexpected ts front back × (length back ≡ left)
    stopped k = (
      k.used,
      k.rest,
      record {
        whole = k.whole;
        front_begins = completed 65 k.used k.goes;
        no_more = λ t after is b.
            not_stopped b.levels 64 (k.used ++ (t ∷ b.more)) b.tree (length (t ∷ b.more))
            (ap (read (nested_at b.levels) file) (sym (one_more k.used t b.more)) ∙ file_complete b.levels ((k.used ++ (t ∷ [])) ++ b.more) b.tree b.whole)
            (k.local (t ∷ b.more) (sym (ap peek_at is)));
        no_file = λ is f. not_stopped f.0 64 ts f.1 left (file_complete f.0 ts f.1 f.2) e;
        not_deep = λ before after is d. not_deep_stopped ts before after k.rest left (k.whole ∙ ap (λ us. us ++ k.rest) is) d e;
      },
      k.count,
    )

-- a file ended before the last token
pub over_at : (ts : List Token) (x : PlainTree) (t : Token) (after : List Token) → read (nested_at 64) file ts ≡ Ok (x, t ∷ after) → (front : List Token) × IsUnexpected ts front (t ∷ after)
unfolding Parse
over_at ts x t after e = ended (subst (Stays (read (nested_at 64) file) (Spells (spelled_within 65) file) (Leads (spelled_within 64) (deep_at 64) file) ts) e (file_stays 64 ts))
  where
    ended : Done (read (nested_at 64) file) (Spells (spelled_within 65) file) ts x (t ∷ after) → (front : List Token) × IsUnexpected ts front (t ∷ after)
    ended d = (
      d.used,
      record {
        whole = d.whole;
        front_begins = record { levels = 65; more = []; tree = x; whole = d.free [] };
        no_more = λ u rest is b.
            not_over b.levels 64 (d.used ++ (u ∷ b.more)) b.tree x u b.more
            (ap (read (nested_at b.levels) file) (sym (one_more d.used u b.more)) ∙ file_complete b.levels ((d.used ++ (u ∷ [])) ++ b.more) b.tree b.whole)
            (d.local (u ∷ b.more) (sym (ap peek_at is)));
        no_file = λ is f. not_over f.0 64 ts f.1 x t after (file_complete f.0 ts f.1 f.2) e;
        not_deep = λ before rest is p. not_deep_read ts before rest (t ∷ after) x (t ∷ after) (d.whole ∙ ap (λ us. us ++ (t ∷ after)) is) p e;
      },
    )

-- reading stopped at a level too deep
pub deep_stop : (ts : List Token) (left : ℕ) → read (nested_at 64) file ts ≡ Err (record { why = TooDeep; left = left }) → (front back : List Token) × IsDeep ts front back × (length back ≡ left)
unfolding IsTooDeep
deep_stop ts left e = stopped (subst (Stays (read (nested_at 64) file) (Spells (spelled_within 65) file) (Leads (spelled_within 64) (deep_at 64) file) ts) e (file_stays 64 ts))
  where
    stopped : Stopped (read (nested_at 64) file) (Spells (spelled_within 65) file) (Leads (spelled_within 64) (deep_at 64) file) ts TooDeep left → (front back : List Token) × IsDeep ts front back × (length back ≡ left)
    stopped k = (
      k.used,
      k.rest,
      record {
        token = k.goes.token;
        after = k.goes.after;
        whole = k.whole;
        is = k.goes.is;
        too_deep = k.goes.leads;
        still_begins = completed 65 (k.used ++ (k.goes.token ∷ [])) k.goes.goes;
      },
      k.count,
    )

-- the tokens that are left
pub drop-front : (front back : List Token) → drop (length front) (front ++ back) ≡ back
drop-front [] back = refl
drop-front (t ∷ front) back = drop-front front back
