-- The kinds of bytes of a design's text.
use Rattle.std.specs.Prelude.{◌≡◌, ℕ, ◌==◌, Bool, false, not, ◌&&◌, ◌||◌, nat_le, nat_lt, Option, Some, None, List, [], ◌∷◌, if◌then◌else◌}
use Rattle.std.specs.Char.{digit_value}

-- space, tab, line feed and carriage return separate tokens
abbrev pub is_blank : ℕ → Bool
is_blank b = b == 32 || b == 9 || b == 10 || b == 13

-- a letter or `_`
abbrev pub is_name_start : ℕ → Bool
is_name_start b = nat_le 97 b && nat_le b 122 || nat_le 65 b && nat_le b 90 || b == 95

abbrev pub is_digit : ℕ → Bool
is_digit b = nat_le 48 b && nat_le b 57

-- a letter, `_` or a digit
abbrev pub is_name_byte : ℕ → Bool
is_name_byte b = is_name_start b || is_digit b

-- no number or literal is directly followed by one of these: a letter, `_`, a digit or `'`
abbrev pub goes_on : ℕ → Bool
goes_on b = is_name_byte b || b == 39

-- all but a line feed
abbrev pub is_in_line : ℕ → Bool
is_in_line b = not (b == 10)

-- all but `"` and a line feed
abbrev pub is_in_string : ℕ → Bool
is_in_string b = not (b == 34 || b == 10)

-- the base that a letter of a literal names: `d`, `b`, `o`, and `x` or `h`
abbrev pub base_of : ℕ → Option ℕ
base_of b =
    if b == 100 then Some 10 else if b == 98 then Some 2 else if b == 111 then Some 8
    else if b == 120 || b == 104 then Some 16 else None

-- a digit of a base; letters of either case are the digits from ten on
abbrev pub is_digit_in : ℕ → ℕ → Bool
is_digit_in base b = nat_lt (digit_value b) base
