-- Exact fractions of whole numbers. No common factor is taken out, so that a formula keeps the parts that it is written with.
use Rattle.std.specs.Prelude.{◌≡◌, ℕ, ◌+◌, ◌*◌, ◌/◌, ◌%◌, ◌<◌, min, Bool, true, ◌&&◌, List, [], ◌∷◌, nat_le}

pub record Fraction : Type 0 where
  pub top : ℕ
  pub bottom : ℕ

infixl 95 ◌over◌
infixl 90 ◌times◌
infixl 90 ◌per◌
infixl 85 ◌plus◌
infix 80 ◌at_most◌
infix 80 ◌same_as◌
abbrev pub ◌over◌ : ℕ → ℕ → Fraction
a over b = record { top = a; bottom = b }

abbrev pub whole : ℕ → Fraction
whole n = n over 1

abbrev pub ◌times◌ : Fraction → Fraction → Fraction
x times y = (x.top * y.top) over (x.bottom * y.bottom)

abbrev pub ◌per◌ : Fraction → Fraction → Fraction
x per y = (x.top * y.bottom) over (x.bottom * y.top)

abbrev pub ◌plus◌ : Fraction → Fraction → Fraction
x plus y = (x.top * y.bottom + y.top * x.bottom) over (x.bottom * y.bottom)

abbrev pub squared : Fraction → Fraction
squared x = x times x

-- A fraction is a number where its bottom is above 0. Only between such do the comparisons below mean what they say.
abbrev pub Proper : Fraction → Type 0
Proper x = 0 < x.bottom

-- left ≤ right
pub record Comparison : Type 0 where
  pub left : Fraction
  pub right : Fraction

abbrev pub ◌at_most◌ : Fraction → Fraction → Comparison
x at_most y = record { left = x; right = y }

abbrev pub holds : Comparison → Bool
holds p = nat_le (p.left.top * p.right.bottom) (p.right.top * p.left.bottom)

abbrev pub all_hold : List Comparison → Bool
all_hold [] = true
all_hold (p ∷ ps) = holds p && all_hold ps

abbrev pub AllProper : List Comparison → Type 0
AllProper [] = Unit {0}
AllProper (p ∷ ps) = Proper p.left × (Proper p.right × AllProper ps)

-- of several lists
abbrev pub EveryProper : List (List Comparison) → Type 0
EveryProper [] = Unit {0}
EveryProper (x ∷ xs) = AllProper x × EveryProper xs

-- x = y
abbrev pub ◌same_as◌ : Fraction → Fraction → Type 0
x same_as y = x.top * y.bottom ≡ y.top * x.bottom

-- to a whole number: the quotient, and, rounded up, one more where there is a remainder
abbrev pub rounded_down : Fraction → ℕ
rounded_down x = x.top / x.bottom

abbrev pub rounded_up : Fraction → ℕ
rounded_up x = x.top / x.bottom + min 1 (x.top % x.bottom)
