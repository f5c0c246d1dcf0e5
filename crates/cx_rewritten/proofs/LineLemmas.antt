-- LINES before a text: names and numbers end no line, so a line of them behind two slashes is a comment.
use Rattle.std.proofs.Common.{◌≡◌, ◌<◌, ◌^◌, ℕ, true, List, [], ◌∷◌, ◌++◌, flat_map, refl, sym, ap, ◌∙◌, subst, arith, append_assoc}
use Rattle.std.specs.Fmt.{decimal}
use Rattle.std.specs.List.{AllByRecursion, list_all}
use Rattle.std.specs.Char.{digit_value}
use Rattle.std.specs.Str.Parse.{AllDigits}
use Rattle.std.proofs.lemmas.Bool.Decides.{nat_tests}
use Rattle.std.proofs.lemmas.Fmt.{decimal_is_IsNumeral}
use Rattle.std.proofs.lemmas.Str.Parse.{digit_from_value}
use Rattle.cx_text.proofs.BoolLaws.{and_true, and_left, and_right, or_left}
use Rattle.cx_lex.specs.Bytes.{is_name_start, is_digit, is_name_byte, is_in_line}
use Rattle.cx_print.specs.Layout.{IsWritableWord}
use Rattle.cx_rewritten.specs.Comments.{AreComments, no_line, a_line}

in_line : (b : ℕ) → is_name_byte b ≡ true → is_in_line b ≡ true
in_line b h = grind (arith, nat_tests)

all_in_line : (bs : List ℕ) → list_all is_name_byte bs ≡ true → list_all is_in_line bs ≡ true
all_in_line [] h = refl
all_in_line (b ∷ bs) h = and_true (is_in_line b) (list_all is_in_line bs) (in_line b (and_left (is_name_byte b) (list_all is_name_byte bs) h)) (all_in_line bs (and_right (is_name_byte b) (list_all is_name_byte bs) h))

pub word_in_line : (bs : List ℕ) → IsWritableWord bs → list_all is_in_line bs ≡ true
word_in_line [] h = refl
word_in_line (b ∷ bs) h = and_true (is_in_line b) (list_all is_in_line bs) (in_line b (or_left (is_name_start b) (is_digit b) h.0)) (all_in_line bs h.1)

digit_in_line : (b : ℕ) → digit_value b < 10 → is_in_line b ≡ true
digit_in_line b h = let range = digit_from_value b h in grind (arith, nat_tests, range)

digits_in_line : (bs : List ℕ) → AllDigits 10 bs → list_all is_in_line bs ≡ true
digits_in_line [] h = refl
digits_in_line (b ∷ bs) h = and_true (is_in_line b) (list_all is_in_line bs) (digit_in_line b h.0) (digits_in_line bs h.1)

pub number_in_line : (n : ℕ) → n < 2 ^ 64 → list_all is_in_line (decimal n) ≡ true
number_in_line n h = digits_in_line (decimal n) (decimal_is_IsNumeral n h).0.1

pub joined_in_line : (xs ys : List ℕ) → list_all is_in_line xs ≡ true → list_all is_in_line ys ≡ true → list_all is_in_line (xs ++ ys) ≡ true
joined_in_line [] ys h k = k
joined_in_line (x ∷ xs) ys h k = and_true (is_in_line x) (list_all is_in_line (xs ++ ys)) (and_left (is_in_line x) (list_all is_in_line xs) h) (joined_in_line xs ys (and_right (is_in_line x) (list_all is_in_line xs) h) k)

-- two slashes, bytes of the line, and its end
pub record IsComment (line : List ℕ) : Type 0 where
  pub body : List ℕ
  pub in_line : list_all is_in_line body ≡ true
  pub is : 47 ∷ 47 ∷ body ++ 10 ∷ [] ≡ line

-- a line for each row
pub comments_of : {A : Type 0} (line : A → List ℕ) (P : A → Type 0) → ((row : A) → P row → IsComment (line row)) → (rows : List A) → AllByRecursion P rows → AreComments (flat_map line rows)
comments_of line P each [] h = no_line
comments_of line P each (row ∷ rows) h =
    let c = each row h.0 in
    let rest = flat_map line rows in
    subst AreComments (sym (append_assoc (47 ∷ 47 ∷ c.body) (10 ∷ []) rest) ∙ ap (λ bytes. bytes ++ rest) c.is) (a_line c.body rest c.in_line (comments_of line P each rows h.1))

pub all_joined : {A : Type 0} (P : A → Type 0) (xs ys : List A) → AllByRecursion P xs → AllByRecursion P ys → AllByRecursion P (xs ++ ys)
all_joined P [] ys h k = k
all_joined P (x ∷ xs) ys h k = (h.0, all_joined P xs ys h.1 k)

-- a text to which five pieces were added
pub five_added : (t head a b c end one two three four five : List ℕ) → one ≡ t ++ head → two ≡ one ++ a → three ≡ two ++ b → four ≡ three ++ c → five ≡ four ++ end → five ≡ t ++ (head ++ a ++ b ++ c ++ end)
five_added t head a b c end one two three four five h i j k l =
    l ∙ ap (λ x. x ++ end) (k ∙ ap (λ x. x ++ c) (j ∙ ap (λ x. x ++ b) (i ∙ ap (λ x. x ++ a) h))) ∙ simp append_assoc
