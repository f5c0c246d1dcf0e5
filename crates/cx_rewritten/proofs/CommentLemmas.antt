-- TOKENS hang on no place, and lines of comments before a text are none.
use Rattle.std.proofs.Common.{◌≡◌, ℕ, List, [], ◌∷◌, ◌++◌, refl, sym, ap, subst, append_assoc}
use Rattle.cx_text.specs.declared.places.Place.{Place}
use Rattle.cx_text.specs.Places.{after_bytes}
use Rattle.cx_text.proofs.PlaceLemmas.{after_bytes-append}
use Rattle.cx_ast.specs.declared.tokens.Token.{Token}
use Rattle.cx_ast.specs.PlainTokens.{kinds_of}
use Rattle.cx_lex.specs.Lex.{blank, line_comment, HasTokens, ended, gap, token}
use Rattle.cx_rewritten.specs.Comments.{AreComments, no_line, a_line}

-- the tokens of the text where its first byte has another place
pub record Shifted (place : Place) (text : List ℕ) (tokens : List Token) : Type 0 where
  pub others : List Token
  pub lexed : HasTokens place text others
  pub same : kinds_of others ≡ kinds_of tokens

pub shifted : {place : Place} {text : List ℕ} {tokens : List Token} → HasTokens place text tokens → (other : Place) → Shifted other text tokens
shifted ended other = record { others = []; lexed = ended; same = refl }
shifted (gap bytes rest g more) other =
    let s = shifted more (after_bytes other bytes) in
    record { others = s.others; lexed = gap bytes rest g s.lexed; same = s.same }
shifted (token bytes rest kind t more) other =
    let s = shifted more (after_bytes other bytes) in
    record { others = record { kind = kind; place = other } ∷ s.others; lexed = token bytes rest kind t s.lexed; same = ap (λ ks. kind ∷ ks) s.same }

pub behind_comments : {comments : List ℕ} → AreComments comments → (place : Place) (text : List ℕ) (tokens : List Token)
    → HasTokens (after_bytes place comments) text tokens → HasTokens place (comments ++ text) tokens
behind_comments no_line place text tokens h = h
behind_comments (a_line body rest e more) place text tokens h =
    let line : List ℕ = 47 ∷ 47 ∷ body in
    let feed : HasTokens (after_bytes place line) (10 ∷ (rest ++ text)) tokens =
    gap (10 ∷ []) (rest ++ text) (blank refl) (behind_comments more (after_bytes (after_bytes place line) (10 ∷ [])) text tokens (subst (λ p. HasTokens p text tokens) (after_bytes-append place line (10 ∷ rest)) h)) in
    subst (λ bytes. HasTokens place bytes tokens) (sym (append_assoc line (10 ∷ rest) text)) (gap line (10 ∷ (rest ++ text)) (line_comment e refl) feed)
