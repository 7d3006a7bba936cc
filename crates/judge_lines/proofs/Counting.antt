-- Digits counted up one after the other.
use Rattle.std.proofs.Common.{◌≡◌, ℕ, zero, suc, ◌+◌, ◌-◌, ◌*◌, ◌<◌, min, true, false, List, [], ◌∷◌, ◌++◌, length, get_or, take, Err, sym, refl, arith}
use Rattle.std.proofs.lemmas.Int.Digits.{digits_value_more}
use Rattle.std.proofs.lemmas.List.{take_more}
use Rattle.std.proofs.lemmas.Bool.{and_left, and_right, and_from, and_parts, cond-false}
use Rattle.std.proofs.lemmas.Str.{digit_value_digit}
use Rattle.std.specs.Str.Parse.{digits_value}
use Rattle.std.specs.Char.{is_ascii_digit, IsAsciiDigit}
use Rattle.std.specs.Str.{all_ascii_digits}
use Rattle.judge_lines.specs.Numbers.{number_in}
use Rattle.judge_lines.specs.declared.fault.WordFault.TheVariants.{NotANumber}

pub digits_not : (ds : List ℕ) (i : ℕ) → i < length ds → is_ascii_digit (get_or ds i 0) ≡ false → all_ascii_digits ds ≡ false
digits_not [] i h e = absurd (omega arith)
digits_not (d ∷ ds) zero h e = and_left (is_ascii_digit d) (all_ascii_digits ds) e
digits_not (d ∷ ds) (suc i) h e = and_right (is_ascii_digit d) (all_ascii_digits ds) (digits_not ds i (omega arith) e)

digits_push : (ds : List ℕ) (d : ℕ) → all_ascii_digits ds ≡ true → is_ascii_digit d ≡ true → all_ascii_digits (ds ++ (d ∷ [])) ≡ true
digits_push [] d h e = and_from (is_ascii_digit d) true e refl
digits_push (c ∷ ds) d h e =
    let parts = and_parts (is_ascii_digit c) (all_ascii_digits ds) h in
    and_from (is_ascii_digit c) (all_ascii_digits (ds ++ (d ∷ []))) parts.0 (digits_push ds d parts.1 e)

pub digits_more : (ds : List ℕ) (i : ℕ) → i < length ds → all_ascii_digits (take i ds) ≡ true → is_ascii_digit (get_or ds i 0) ≡ true → all_ascii_digits (take (i + 1) ds) ≡ true
digits_more ds i h so e = rw (take_more ds i 0 h) (digits_push (take i ds) (get_or ds i 0) so e)

-- one digit more, where the count stops at `most`
pub counted_more : (ds : List ℕ) (i n most : ℕ) → i < length ds → n ≡ min (digits_value 10 (take i ds)) most → IsAsciiDigit (get_or ds i 0) → min (n * 10 + (get_or ds i 0 - 48)) most ≡ min (digits_value 10 (take (i + 1) ds)) most
counted_more ds i n most h e digit = omega (arith, digits_value_more 10 ds i h, digit_value_digit (get_or ds i 0) digit)

pub number_not : (largest : ℕ) (ds : List ℕ) (i : ℕ) → i < length ds → is_ascii_digit (get_or ds i 0) ≡ false → Err NotANumber ≡ number_in largest ds
number_not largest ds i h e = sym (cond-false (all_ascii_digits ds) _ (Err NotANumber) (digits_not ds i h e))
