-- Whole texts: one list of tokens or one first fault.
use Rattle.std.proofs.Common.{◌≡◌, ℕ, zero, suc, ◌+◌, ◌-◌, ◌<◌, ◌≤◌, List, [], ◌∷◌, ◌++◌, length, take, drop, Option, Some, None, ◌⊎◌, inl, inr, ⊎_elim, refl, sym, ◌∙◌, ap, subst, arith, length-append, append_assoc}
use Rattle.std.proofs.lemmas.List.{take_at, drop_at, take-append-drop, length-take-le, append-nil, nil_from_length}
use Rattle.std.specs.Prelude.{Result, Ok, Err}
use Rattle.cx_text.specs.declared.places.Place.{Place}
use Rattle.cx_text.specs.Places.{start, after_bytes, place_at, Reading}
use Rattle.cx_text.proofs.PlaceLemmas.{after_bytes-append}
use Rattle.cx_ast.specs.declared.tokens.TokenKind.{TokenKind}
use Rattle.cx_ast.specs.declared.tokens.Token.{Token}
use Rattle.cx_lex.specs.declared.faults.LexKind.{LexKind}
use Rattle.cx_lex.specs.declared.faults.LexFault.{LexFault}
use Rattle.cx_lex.specs.Lex.{IsToken, name, number, literal, string, sign, IsGap, blank, line_comment, block_comment, IsFault, bad_byte, open_comment, open_string, long_string, long_name, bad_literal, HasTokens, ended, gap, token, HasFault, here, behind_gap, behind_token, Lex, FirstFault}
use Rattle.cx_lex.specs.Reading.{Read, item_at}
use Rattle.cx_lex.specs.Views.{added}
use Rattle.cx_lex.proofs.SignLemmas.{short_or_long, IsShort, IsLong}
use Rattle.cx_lex.proofs.AgainLemmas.{front_at, token_again, gap_again}
use Rattle.cx_lex.proofs.TakesLemmas.{IsItem, Taken, Reads, item_reads, fault_again}

-- an item has a byte or more
pub token_some : {bytes rest : List ℕ} {kind : TokenKind} → IsToken bytes rest kind → 0 < length bytes
token_some (name w short) = omega arith
token_some (number numeral fits stop) = numeral.0
token_some (literal width letter base digits wide width_fits eb numeral fits stop) = let some = wide.0 in let whole = length-append width (39 ∷ letter ∷ digits) in omega arith
token_some (string body each short) = omega arith
token_some (sign s longest) = ⊎_elim (λ (h : IsShort s). let n = ap length h.1 in omega arith) (λ (h : IsLong s). let n = ap length h.2 in omega arith) (short_or_long s)

pub gap_some : {bytes rest : List ℕ} → IsGap bytes rest → 0 < length bytes
gap_some (blank h) = omega arith
gap_some (line_comment each stop) = omega arith
gap_some (block_comment body h) = omega arith

pub item_some : (found : Option TokenKind) (bytes rest : List ℕ) → IsItem found bytes rest → 0 < length bytes
item_some None bytes rest h = gap_some h
item_some (Some kind) bytes rest h = token_some h

fault_some : {text : List ℕ} {kind : LexKind} → IsFault text kind → 0 < length text
fault_some (bad_byte h) = omega arith
fault_some (open_comment h) = omega arith
fault_some (open_string body rest each stop) = omega arith
fault_some (long_string body rest each long) = omega arith
fault_some (long_name first more rest w long) = omega arith
fault_some (bad_literal is h) = omega arith

-- the tokens of a text, or its first fault, for as many items as the first number
abbrev Outcome : Type 0
Outcome = Result (List Token) LexFault

abbrev with_token : Option TokenKind → Place → Outcome → Outcome
with_token None place o = o
with_token (Some kind) place (Ok tokens) = Ok (record { kind = kind; place = place } ∷ tokens)
with_token (Some kind) place (Err fault) = Err fault

abbrev go_on : (Place → List ℕ → Outcome) → Place → List ℕ → Read → Outcome
go_on next place text (Err kind) = Err (record { kind = kind; place = place })
go_on next place text (Ok x) = with_token x.0 place (next (after_bytes place (take (length text - length x.1) text)) x.1)

abbrev outcome : ℕ → Place → List ℕ → Outcome
outcome zero place text = Ok []
outcome (suc n) place [] = Ok []
outcome (suc n) place (b ∷ text) = go_on (outcome n) place (b ∷ text) (item_at b text)

-- one item more
outcome_step : (n : ℕ) (place : Place) (bytes rest : List ℕ) (found : Option TokenKind) → front_at (bytes ++ rest) ≡ Ok (found, rest) → outcome (suc n) place (bytes ++ rest) ≡ with_token found place (outcome n (after_bytes place bytes) rest)
outcome_step n place bytes rest found e = within (bytes ++ rest) refl e
  where
    parts : take (length (bytes ++ rest) - length rest) (bytes ++ rest) ≡ bytes
    parts = take_at bytes rest _ (let whole = length-append bytes rest in omega arith)

    within : (text : List ℕ) → text ≡ bytes ++ rest → front_at text ≡ Ok (found, rest) → outcome (suc n) place text ≡ with_token found place (outcome n (after_bytes place bytes) rest)
    within [] whole h = absurd (cc)
    within (b ∷ text) whole h = ap (go_on (outcome n) place (b ∷ text)) h ∙ ap (λ t. with_token found place (outcome n (after_bytes place (take (length t - length rest) t)) rest)) whole ∙ ap (λ bs. with_token found place (outcome n (after_bytes place bs) rest)) parts

pub tokens_outcome : {place : Place} {text : List ℕ} {tokens : List Token} → HasTokens place text tokens → (n : ℕ) → length text ≤ n → outcome n place text ≡ Ok tokens
tokens_outcome ended zero le = refl
tokens_outcome ended (suc n) le = refl
tokens_outcome (gap bytes rest g more) zero le = absurd (let some = gap_some g in let whole = length-append bytes rest in omega arith)
tokens_outcome (gap {place = place} bytes rest g more) (suc n) le = outcome_step n place bytes rest None (gap_again g) ∙ tokens_outcome more n (let some = gap_some g in let whole = length-append bytes rest in omega arith)
tokens_outcome (token bytes rest kind t more) zero le = absurd (let some = token_some t in let whole = length-append bytes rest in omega arith)
tokens_outcome (token {place = place} bytes rest kind t more) (suc n) le = outcome_step n place bytes rest (Some kind) (token_again t) ∙ ap (with_token (Some kind) place) (tokens_outcome more n (let some = token_some t in let whole = length-append bytes rest in omega arith))

stops_here : (n : ℕ) (place : Place) (text : List ℕ) (kind : LexKind) → IsFault text kind → front_at text ≡ Err kind → length text ≤ n → outcome n place text ≡ Err (record { kind = kind; place = place })
stops_here n place [] kind h e le = absurd (let some = fault_some h in omega arith)
stops_here zero place (b ∷ text) kind h e le = absurd (omega arith)
stops_here (suc n) place (b ∷ text) kind h e le = ap (go_on (outcome n) place (b ∷ text)) e

pub fault_outcome : {place fault : Place} {text : List ℕ} {kind : LexKind} → HasFault place text kind fault → (n : ℕ) → length text ≤ n → outcome n place text ≡ Err (record { kind = kind; place = fault })
fault_outcome (here {place = place} {text = text} {kind = kind} h) n le = stops_here n place text kind h (fault_again h) le
fault_outcome (behind_gap bytes rest g more) zero le = absurd (let some = gap_some g in let whole = length-append bytes rest in omega arith)
fault_outcome (behind_gap {place = place} bytes rest g more) (suc n) le = outcome_step n place bytes rest None (gap_again g) ∙ fault_outcome more n (let some = gap_some g in let whole = length-append bytes rest in omega arith)
fault_outcome (behind_token bytes rest found t more) zero le = absurd (let some = token_some t in let whole = length-append bytes rest in omega arith)
fault_outcome (behind_token {place = place} bytes rest found t more) (suc n) le = outcome_step n place bytes rest (Some found) (token_again t) ∙ ap (with_token (Some found) place) (fault_outcome more n (let some = token_some t in let whole = length-append bytes rest in omega arith))

-- the laws
pub one_tokens : (text : List ℕ) (a b : List Token) → Lex text a → Lex text b → a ≡ b
one_tokens text a b ha hb =
    let ea = tokens_outcome ha (length text) (omega arith) in
    let eb = tokens_outcome hb (length text) (omega arith) in
    cc

pub no_fault : (text : List ℕ) (tokens : List Token) (kind : LexKind) (place : Place) → Lex text tokens → ¬ FirstFault text kind place
no_fault text tokens kind place ht hf =
    let et = tokens_outcome ht (length text) (omega arith) in
    let ef = fault_outcome hf (length text) (omega arith) in
    absurd (cc)

pub one_fault : (text : List ℕ) (kind other : LexKind) (place elsewhere : Place) → FirstFault text kind place → FirstFault text other elsewhere → (kind ≡ other) × (place ≡ elsewhere)
one_fault text kind other place elsewhere ha hb =
    let ea = fault_outcome ha (length text) (omega arith) in
    let eb = fault_outcome hb (length text) (omega arith) in
    let same : ◌≡◌ {A = LexFault} (record { kind = kind; place = place }) (record { kind = other; place = elsewhere }) = cc in
    (ap (λ (f : LexFault). f.kind) same, ap (λ (f : LexFault). f.place) same)

-- every text has tokens or a first fault
abbrev pub HasEither : Place → List ℕ → Type 0
HasEither place text = ((tokens : List Token) × HasTokens place text tokens) ⊎ ((kind : LexKind) × (fault : Place) × HasFault place text kind fault)

front_item : (place : Place) (found : Option TokenKind) (bytes rest : List ℕ) → IsItem found bytes rest → HasEither (after_bytes place bytes) rest → HasEither place (bytes ++ rest)
front_item place None bytes rest g more = ⊎_elim (λ (h : (tokens : List Token) × HasTokens (after_bytes place bytes) rest tokens). inl (h.0, gap bytes rest g h.1)) (λ (h : (kind : LexKind) × (fault : Place) × HasFault (after_bytes place bytes) rest kind fault). inr (h.0, h.1, behind_gap bytes rest g h.2)) more
front_item place (Some kind) bytes rest t more = ⊎_elim (λ (h : (tokens : List Token) × HasTokens (after_bytes place bytes) rest tokens). inl (_, token bytes rest kind t h.1)) (λ (h : (kind : LexKind) × (fault : Place) × HasFault (after_bytes place bytes) rest kind fault). inr (h.0, h.1, behind_token bytes rest kind t h.2)) more

either_within : (n : ℕ) (place : Place) (text : List ℕ) → length text ≤ n → HasEither place text
either_within n place [] le = inl ([], ended)
either_within zero place (b ∷ text) le = absurd (omega arith)
either_within (suc n) place (b ∷ text) le = reads (λ behind h. either_within n behind.0 behind.1 h) (item_at b text) (item_reads b text)
  where
    reads : ((behind : Place × List ℕ) → length behind.1 ≤ n → HasEither behind.0 behind.1) → (r : Read) → Reads (b ∷ text) r → HasEither place (b ∷ text)
    reads shorter (Err kind) h = inr (kind, place, here h)
    reads shorter (Ok x) h =
        let some = item_some x.0 h.bytes x.1 h.item in
        let whole = ap length h.whole in
        let parts = length-append h.bytes x.1 in
        subst (HasEither place) (sym h.whole) (front_item place x.0 h.bytes x.1 h.item (shorter (after_bytes place h.bytes, x.1) (omega arith)))

pub tokens_or_fault : (text : List ℕ) → ((tokens : List Token) × Lex text tokens) ⊎ ((kind : LexKind) × (place : Place) × FirstFault text kind place)
tokens_or_fault text = either_within (length text) start text (omega arith)

-- how far a text is lexed: what its rest adds is what the text has
pub record LexedSoFar (text : List ℕ) (read : ℕ) (rest : List ℕ) (done : List Token) : Type 0 where
  pub within : read ≤ length text
  pub behind : drop read text ≡ rest
  pub tokens : (more : List Token) → HasTokens (place_at text read) rest more → Lex text (done ++ more)
  pub fault : (kind : LexKind) (place : Place) → HasFault (place_at text read) rest kind place → FirstFault text kind place

module _ (text : List ℕ) (read : ℕ) (rest : List ℕ) (done : List Token) (so_far : LexedSoFar text read rest done) (bytes behind : List ℕ) (whole : rest ≡ bytes ++ behind) where
  text_parts : text ≡ take read text ++ (bytes ++ behind)
  text_parts = sym (take-append-drop read text) ∙ ap (λ t. take read text ++ t) (so_far.behind ∙ whole)

  text_front : text ≡ (take read text ++ bytes) ++ behind
  text_front = text_parts ∙ sym (append_assoc (take read text) bytes behind)

  front_length : length (take read text ++ bytes) ≡ read + length bytes
  front_length = let parts = length-append (take read text) bytes in let taken = length-take-le read text so_far.within in omega arith

  place_behind : place_at text (read + length bytes) ≡ after_bytes (place_at text read) bytes
  place_behind =
      ap (λ t. after_bytes start (take (read + length bytes) t)) text_front
      ∙ ap (after_bytes start) (take_at (take read text ++ bytes) behind (read + length bytes) front_length)
      ∙ after_bytes-append start (take read text) bytes

  drop_behind : drop (read + length bytes) text ≡ behind
  drop_behind = ap (drop (read + length bytes)) text_front ∙ drop_at (take read text ++ bytes) behind (read + length bytes) front_length

  enough : read + length bytes ≤ length text
  enough = let long = ap length text_front in let parts = length-append (take read text ++ bytes) behind in let front = front_length in omega arith

  added_tokens : (found : Option TokenKind) → IsItem found bytes behind → (more : List Token) → HasTokens (after_bytes (place_at text read) bytes) behind more → HasTokens (place_at text read) rest (added found (place_at text read) ++ more)
  added_tokens None g more h = subst (λ t. HasTokens (place_at text read) t more) (sym whole) (gap bytes behind g h)
  added_tokens (Some kind) t more h = subst (λ w. HasTokens (place_at text read) w (record { kind = kind; place = place_at text read } ∷ more)) (sym whole) (token bytes behind kind t h)

  passed_fault : (found : Option TokenKind) → IsItem found bytes behind → (kind : LexKind) (fault : Place) → HasFault (after_bytes (place_at text read) bytes) behind kind fault → HasFault (place_at text read) rest kind fault
  passed_fault None g kind fault h = subst (λ t. HasFault (place_at text read) t kind fault) (sym whole) (behind_gap bytes behind g h)
  passed_fault (Some found) t kind fault h = subst (λ w. HasFault (place_at text read) w kind fault) (sym whole) (behind_token bytes behind found t h)

  pub LexedSoFar-item : (found : Option TokenKind) → IsItem found bytes behind → LexedSoFar text (read + length bytes) behind (done ++ added found (place_at text read))
  LexedSoFar-item found item = record {
    within = enough;
    behind = drop_behind;
    tokens = λ more h. subst (Lex text) (sym (append_assoc done (added found (place_at text read)) more)) (so_far.tokens (added found (place_at text read) ++ more) (added_tokens found item more (subst (λ p. HasTokens p behind more) place_behind h)));
    fault = λ kind fault h. so_far.fault kind fault (passed_fault found item kind fault (subst (λ p. HasFault p behind kind fault) place_behind h));
  }

-- the front of the rest, as the code reads it: how many bytes it has, and what it adds
pub record StepsTo (text : List ℕ) (read : ℕ) (rest : List ℕ) (done : List Token) (found : Option TokenKind) (behind : List ℕ) : Type 0 where
  pub shorter : length behind < length rest
  pub room : read + (length rest - length behind) ≤ length text
  pub so_far : LexedSoFar text (read + (length rest - length behind)) behind (done ++ added found (place_at text read))

pub LexedSoFar-steps : (text : List ℕ) (read : ℕ) (rest : List ℕ) (done : List Token) (b : ℕ) (after : List ℕ) (found : Option TokenKind) (behind : List ℕ)
    → LexedSoFar text read rest done → rest ≡ b ∷ after → item_at b after ≡ Ok (found, behind) → StepsTo text read rest done found behind
LexedSoFar-steps text read rest done b after found behind so_far e is =
    let taken : Taken (b ∷ after) found behind = subst (Reads (b ∷ after)) is (item_reads b after) in
    let whole : rest ≡ taken.bytes ++ behind = e ∙ taken.whole in
    let some = item_some found taken.bytes behind taken.item in
    let long = ap length whole in
    let parts = length-append taken.bytes behind in
    let count : length taken.bytes ≡ length rest - length behind = omega arith in
    let next = LexedSoFar-item text read rest done so_far taken.bytes behind whole found taken.item in
    let moved : LexedSoFar text (read + (length rest - length behind)) behind (done ++ added found (place_at text read)) = subst (λ n. LexedSoFar text (read + n) behind (done ++ added found (place_at text read))) count next in
    record { shorter = omega arith; room = moved.within; so_far = moved }

-- at a byte that begins a fault, the text's first fault is here
pub LexedSoFar-fault : (text : List ℕ) (read : ℕ) (rest : List ℕ) (done : List Token) (b : ℕ) (after : List ℕ) (kind : LexKind)
    → LexedSoFar text read rest done → rest ≡ b ∷ after → item_at b after ≡ Err kind → FirstFault text kind (place_at text read)
LexedSoFar-fault text read rest done b after kind so_far e is =
    let fault : IsFault (b ∷ after) kind = subst (Reads (b ∷ after)) is (item_reads b after) in
    so_far.fault kind (place_at text read) (here (subst (λ t. IsFault t kind) (sym e) fault))

-- at the end the text has these tokens
pub LexedSoFar-end : (text : List ℕ) (read : ℕ) (rest : List ℕ) (done : List Token) → LexedSoFar text read rest done → rest ≡ [] → Lex text done
LexedSoFar-end text read rest done so_far e = subst (Lex text) (append-nil done) (so_far.tokens [] (subst (λ t. HasTokens (place_at text read) t []) (sym e) ended))

-- the invariant of the reading loop: the cursor stands where the rest begins
pub record Lexing (text : List ℕ) (cursor : Reading) (rest : List ℕ) (done : List Token) : Type 0 where
  pub same : cursor.text ≡ text
  pub so_far : LexedSoFar text cursor.read rest done

pub Lexing-fault : (text : List ℕ) (cursor : Reading) (rest : List ℕ) (done : List Token) (b : ℕ) (after : List ℕ) (kind : LexKind) (place : Place)
    → Lexing text cursor rest done → rest ≡ b ∷ after → Err kind ≡ item_at b after → place ≡ place_at cursor.text cursor.read → FirstFault text kind place
Lexing-fault text cursor rest done b after kind place lexing e is at =
    subst (FirstFault text kind) (sym (at ∙ ap (λ t. place_at t cursor.read) lexing.same)) (LexedSoFar-fault text cursor.read rest done b after kind lexing.so_far e (sym is))

-- an item further: the rest is shorter, the cursor has room, and the invariant holds of what comes next
pub record Advances (text : List ℕ) (cursor : Reading) (rest : List ℕ) (done : List Token) (found : Option TokenKind) (behind : List ℕ) (place : Place) : Type 0 where
  pub shorter : length behind < length rest
  pub room : cursor.read + (length rest - length behind) ≤ length cursor.text
  pub next : (later : Reading) (tokens : List Token) → later ≡ record { text = cursor.text; read = cursor.read + (length rest - length behind) } → tokens ≡ done ++ added found place → Lexing text later behind tokens

pub Lexing-advances : (text : List ℕ) (cursor : Reading) (rest : List ℕ) (done : List Token) (b : ℕ) (after : List ℕ) (found : Option TokenKind) (behind : List ℕ) (place : Place)
    → Lexing text cursor rest done → rest ≡ b ∷ after → Ok (found, behind) ≡ item_at b after → place ≡ place_at cursor.text cursor.read → Advances text cursor rest done found behind place
Lexing-advances text cursor rest done b after found behind place lexing e is at =
    let steps = LexedSoFar-steps text cursor.read rest done b after found behind lexing.so_far e (sym is) in
    let here : place ≡ place_at text cursor.read = at ∙ ap (λ t. place_at t cursor.read) lexing.same in
    record {
      shorter = steps.shorter;
      room = subst (λ t. cursor.read + (length rest - length behind) ≤ length t) (sym lexing.same) steps.room;
      next = λ later tokens moved more. record {
        same = ap (λ (r : Reading). r.text) moved ∙ lexing.same;
        so_far = subst (λ n. LexedSoFar text n behind tokens) (sym (ap (λ (r : Reading). r.read) moved))
            (subst (LexedSoFar text (cursor.read + (length rest - length behind)) behind) (sym (more ∙ ap (λ p. done ++ added found p) here)) steps.so_far);
      };
    }

pub Lexing-end : (text : List ℕ) (cursor : Reading) (rest : List ℕ) (done : List Token) → Lexing text cursor rest done → length rest ≡ 0 → Lex text done
Lexing-end text cursor rest done lexing e = LexedSoFar-end text cursor.read rest done lexing.so_far (nil_from_length rest e)

-- one fault, as the answer tells it
pub same_fault : (text : List ℕ) (kind other : LexKind) (place elsewhere : Place) → FirstFault text kind place → FirstFault text other elsewhere → ◌≡◌ {A = LexFault} (record { kind = kind; place = place }) (record { kind = other; place = elsewhere })
same_fault text kind other place elsewhere ha hb =
    let same = one_fault text kind other place elsewhere ha hb in
    ap (λ k. record { kind = k; place = place }) same.0 ∙ ap (λ p. record { kind = other; place = p }) same.1
