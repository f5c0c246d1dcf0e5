-- A text has a tree or one fault, and what is told of it is that fault.
use Rattle.std.proofs.Common.{◌≡◌, ◌⊎◌, inl, inr, ℕ, List, [], Option, Some, None, Result, Ok, Err, IfOk, IfErr, MatchResult, ◌-◌, length, drop, refl, sym, ap, subst, ◌∙◌}
use Rattle.cx_text.specs.declared.diagnostics.Diagnostic.{Diagnostic}
use Rattle.cx_text.specs.declared.places.Place.{Place}
use Rattle.cx_text.specs.declared.rules.Rule.{Rule}
use Rattle.cx_text.specs.declared.rules.Rule.TheVariants as rules
use Rattle.cx_ast.specs.declared.tokens.Token.{Token}
use Rattle.cx_ast.specs.declared.trees.Tree.{Tree}
use Rattle.cx_ast.specs.PlainTree.{PlainTree, plain_tree}
use Rattle.cx_lex.specs.declared.faults.LexFault.{LexFault}
use Rattle.cx_lex.specs.Lex.{Lex, FirstFault}
use Rattle.cx_lex.specs.Reading.{memory_fault}
use Rattle.cx_lex.proofs.WholeLemmas.{one_tokens, no_fault, one_fault}
use Rattle.cx_grammar.specs.Parsing.{Parse}
use Rattle.cx_grammar.proofs.OneReading.{one_unexpected, one_deep, not_both, tree_expected, tree_within}
use Rattle.cx_parse.specs.declared.stops.Stop.{Stop as Unread}
use Rattle.cx_parse.specs.declared.stops.Stop.TheVariants as unread
use Rattle.cx_parse.specs.Whole.{place_at, place_left_of}
use Rattle.cx_parse.specs.Faults.{IsStop}
use Rattle.cx_parse.proofs.Trees.{drop_back}
use Rattle.cx_commands.specs.declared.stops.Stop.{Stop}
use Rattle.cx_commands.specs.declared.stops.Stop.TheVariants as stops
use Rattle.cx_commands.specs.Unread.{rule_of, name_at, TokensFault, unexpected, too_deep, StageOneFault, no_tokens, no_tree, HasTree, IsRead, IsNoToken, IsNoFile, IsNoTree}

tokens_no_fault : {tokens : List Token} {fault : Diagnostic} (tree : PlainTree) → Parse tokens tree → TokensFault tokens fault → ⊥
tokens_no_fault tree p (unexpected tokens front back u) = tree_expected tokens tree front back p u
tokens_no_fault tree p (too_deep tokens front back d) = tree_within tokens tree front back p d

pub read_no_fault : {text : List ℕ} {fault : Diagnostic} → IsRead text → StageOneFault text fault → ⊥
read_no_fault r (no_tokens text kind rule place first is) = no_fault text r.1.0 kind place r.1.1 first
read_no_fault r (no_tree text tokens fault lexed f) = tokens_no_fault r.0 (subst (λ ts. Parse ts r.0) (one_tokens text r.1.0 tokens r.1.1 lexed) r.1.2) f

one_tokens_fault : {tokens : List Token} {a b : Diagnostic} → TokensFault tokens a → TokensFault tokens b → a ≡ b
one_tokens_fault (unexpected tokens front back u) (unexpected _ other rest v) = ap (λ us. record { rule = rules.Unexpected; place = place_at us tokens; name = name_at us }) (one_unexpected tokens front back other rest u v).1
one_tokens_fault (unexpected tokens front back u) (too_deep _ other rest v) = absurd (not_both tokens front back other rest u v)
one_tokens_fault (too_deep tokens front back u) (unexpected _ other rest v) = absurd (not_both tokens other rest front back v u)
one_tokens_fault (too_deep tokens front back u) (too_deep _ other rest v) = ap (λ us. record { rule = rules.TooDeep; place = place_at us tokens; name = [] }) (one_deep tokens front back other rest u v).1

some_same : (r q : Rule) → (let o : Option Rule = Some r in o ≡ Some q) → r ≡ q
some_same r q e = cc

alike : (r q : Rule) (p s : Place) → r ≡ q → p ≡ s → (let d : Diagnostic = record { rule = r; place = p; name = [] } in d ≡ record { rule = q; place = s; name = [] })
alike r q p s er ep = cc

pub one_stage_one : {text : List ℕ} {a b : Diagnostic} → StageOneFault text a → StageOneFault text b → a ≡ b
one_stage_one (no_tokens text kind rule place first is) (no_tokens _ other second elsewhere behind also) =
    let same = one_fault text kind other place elsewhere first behind in
    alike rule second place elsewhere (some_same rule second (sym is ∙ ap rule_of same.0 ∙ also)) same.1
one_stage_one (no_tokens text kind rule place first is) (no_tree _ tokens fault lexed f) = absurd (no_fault text tokens kind place lexed first)
one_stage_one (no_tree text tokens fault lexed f) (no_tokens _ kind rule place first is) = absurd (no_fault text tokens kind place lexed first)
one_stage_one (no_tree text tokens a lexed f) (no_tree _ others b again g) = one_tokens_fault f (subst (λ ts. TokensFault ts b) (one_tokens text others tokens again lexed) g)

-- what is told of a token that cannot be read
pub no_token : (fault : LexFault) (rule : Rule) (bytes : List ℕ) (stop : Stop) → bytes ≡ [] → rule_of fault.kind ≡ Some rule →
    ((stop ≡ stops.Memory) ⊎ (stop ≡ stops.Rule (record { rule = rule; place = fault.place; name = bytes }))) → IsNoToken fault stop
no_token fault rule bytes stop none is (inl e) = inl e
no_token fault rule bytes stop none is (inr e) = inr (record { rule = rule; place = fault.place; name = bytes }, (rule, is, ap (λ b. record { rule = rule; place = fault.place; name = b }) none), e)

pub lexical_fault : (text : List ℕ) (fault : LexFault) (stop : Stop) → ((fault ≡ memory_fault) ⊎ FirstFault text fault.kind fault.place) → IsNoToken fault stop → IsNoTree text stop
lexical_fault text fault stop first (inl memory) = inl memory
lexical_fault text fault stop (inl memory) (inr k) = absurd (let none : rule_of fault.kind ≡ None = ap (λ (f : LexFault). rule_of f.kind) memory in let some = k.1.1 in cc)
lexical_fault text fault stop (inr first) (inr k) = inr (k.0, subst (StageOneFault text) (sym k.1.2) (no_tokens text fault.kind k.1.0 fault.place first k.1.1), k.2)

-- what is told of tokens that are no file
file_fault : (text : List ℕ) (tokens : List Token) (stop : Stop) → Lex text tokens → IsNoFile tokens stop → IsNoTree text stop
file_fault text tokens stop lexed (inl memory) = inl memory
file_fault text tokens stop lexed (inr k) = inr (k.0, no_tree text tokens k.0 lexed k.1, k.2)

pub read_tree_of : (text : List ℕ) (tokens : List Token) (r : Result Tree Stop) → Lex text tokens → IfOk r (λ tree. Parse tokens (plain_tree tree)) → IfOk r (λ tree. HasTree text (plain_tree tree))
read_tree_of text tokens (Ok tree) lexed p = (tokens, lexed, p)
read_tree_of text tokens (Err stop) lexed p = tt

pub read_fault_of : (text : List ℕ) (tokens : List Token) (r : Result Tree Stop) → Lex text tokens → IfErr r (IsNoFile tokens) → IfErr r (IsNoTree text)
read_fault_of text tokens (Ok tree) lexed k = tt
read_fault_of text tokens (Err stop) lexed k = file_fault text tokens stop lexed k

fault_same : (rule : Rule) {place other : Place} {name bytes : List ℕ} → place ≡ other → name ≡ bytes → (let d : Diagnostic = record { rule = rule; place = place; name = name } in d ≡ record { rule = rule; place = other; name = bytes })
fault_same rule there called = cc

-- what is told of tokens without a tree
pub no_file_unexpected : (tokens : List Token) (why : Unread) (left : ℕ) (place : Place) (bytes : List ℕ) (stop : Stop) →
    why ≡ unread.Unexpected left → ((why ≡ unread.Memory) ⊎ IsStop tokens why) →
    place ≡ place_left_of tokens left → bytes ≡ name_at (drop (length tokens - left) tokens) →
    ((stop ≡ stops.Memory) ⊎ (stop ≡ stops.Rule (record { rule = rules.Unexpected; place = place; name = bytes }))) → IsNoFile tokens stop
no_file_unexpected tokens why left place bytes stop why_is s at named (inl e) = inl e
no_file_unexpected tokens why left place bytes stop why_is (inl none) at named (inr e) = absurd (cc)
no_file_unexpected tokens why left place bytes stop why_is (inr l) at named (inr e) =
    let k : IsStop tokens (unread.Unexpected left) = subst (IsStop tokens) why_is l in
    let back : drop (length tokens - left) tokens ≡ k.1 = drop_back tokens k.0 k.1 left k.2.whole k.3 in
    let there : place_at k.1 tokens ≡ place = sym (at ∙ ap (λ us. place_at us tokens) back) in
    let called : name_at k.1 ≡ bytes = sym (named ∙ ap name_at back) in
    inr (record { rule = rules.Unexpected; place = place; name = bytes }, subst (TokensFault tokens) (fault_same rules.Unexpected there called) (unexpected tokens k.0 k.1 k.2), e)

pub no_file_deep : (tokens : List Token) (why : Unread) (left : ℕ) (place : Place) (bytes : List ℕ) (stop : Stop) →
    why ≡ unread.TooDeep left → ((why ≡ unread.Memory) ⊎ IsStop tokens why) →
    place ≡ place_left_of tokens left → bytes ≡ [] →
    ((stop ≡ stops.Memory) ⊎ (stop ≡ stops.Rule (record { rule = rules.TooDeep; place = place; name = bytes }))) → IsNoFile tokens stop
no_file_deep tokens why left place bytes stop why_is s at named (inl e) = inl e
no_file_deep tokens why left place bytes stop why_is (inl none) at named (inr e) = absurd (cc)
no_file_deep tokens why left place bytes stop why_is (inr l) at named (inr e) =
    let k : IsStop tokens (unread.TooDeep left) = subst (IsStop tokens) why_is l in
    let back : drop (length tokens - left) tokens ≡ k.1 = drop_back tokens k.0 k.1 left k.2.whole k.3 in
    let there : place_at k.1 tokens ≡ place = sym (at ∙ ap (λ us. place_at us tokens) back) in
    let called : [] ≡ bytes = sym named in
    inr (record { rule = rules.TooDeep; place = place; name = bytes }, subst (TokensFault tokens) (fault_same rules.TooDeep there called) (too_deep tokens k.0 k.1 k.2), e)
