-- The code's comparisons, cleared of fractions, are those of the articles. P is a load in pounds, A the area with the code's at/ab, S the shape
-- factor, AS with the code's st/sb, G the modulus.
use Rattle.std.proofs.Common.{◌≡◌, ℕ, ◌+◌, ◌*◌, ◌<◌, leb, ap, ◌∙◌, mul-pos, arith}
use Rattle.bearings.proofs.Clearing.{cleared}
use Rattle.bearings.specs.Fractions.{Fraction, whole, ◌times◌, ◌per◌, ◌plus◌, ◌at_most◌, squared, holds}
use Rattle.bearings.specs.Units.{halves, sixteenths, sixty_fourths, hundredths, ten_thousandths, thousands}

module _ (A : Fraction) (at ab : ℕ) (at_pos : 0 < at) (A_pos : 0 < A.top) (same : at * A.bottom ≡ A.top * ab) where
  pub steel_total_cleared : (P h s F : ℕ) → leb (3 * (h * P * ab)) (250 * (F * s * at))
      ≡ holds (whole 3 times sixteenths h times (whole P per A) per thousands F at_most sixty_fourths s)
  steel_total_cleared P h s F =
      cleared at (64 * A.top) _ _ _ _ at_pos (omega (arith, A_pos)) (omega (arith, ap (λ z. 192 * h * P * z) same)) (omega arith)

  pub steel_live_cleared : (P h s : ℕ) → leb (h * P * ab) (3000 * (s * at))
      ≡ holds (whole 2 times sixteenths h times (whole P per A) per whole 24000 at_most sixty_fourths s)
  steel_live_cleared P h s =
      cleared at (128 * A.top) _ _ _ _ at_pos (omega (arith, A_pos)) (omega (arith, ap (λ z. 128 * h * P * z) same)) (omega arith)

-- a height of so many sixteenths is that of n layers of h and two covers of c
pub rubber_cleared : (M n h c : ℕ)
    → holds (whole 2 times hundredths M at_most sixteenths (n * h + 2 * c)) ≡ holds (whole 2 times hundredths M at_most whole n times sixteenths h plus whole 2 times sixteenths c)
rubber_cleared M n h c = cleared 1 16 _ _ _ _ (omega arith) (omega arith) (omega arith) (omega arith)

-- The rotation article, in steps with few factors each: D is the tops of A and S, E their bottoms, N is nh², W is θB², R the bottoms of k and v,
-- F those of k and S.
stress_by : (st sb E D Q R F : ℕ) → st * E ≡ D * sb → 8 * st * (E * (40000 * Q * R) * F) ≡ 64 * (R * D * F) * (5000 * (Q * sb))
stress_by st sb E D Q R F same = omega (arith, ap (λ z. 320000 * Q * R * F * z) same)

turn_by : (st V M W D G F R : ℕ) → V * R ≡ M * 8 → 8 * st * (M * (256 * W * D * G) * F) ≡ 64 * (R * D * F) * (4 * (V * (G * st * W)))
turn_by st V M W D G F R same = omega (arith, ap (λ z. 256 * st * W * D * G * F * z) same)

limit_by : (st K kt kb vb G D F N : ℕ) → K * kb ≡ kt * 8 → 8 * st * (kt * (40000 * G * D * F * vb * N)) ≡ 64 * (kb * vb * D * F) * (625 * (K * (G * st * N)))
limit_by st K kt kb vb G D F N same = omega (arith, ap (λ z. 40000 * st * G * D * F * vb * N * z) same)

sum_of : (s f x y K p q : ℕ) → 8 * s * (x * f) ≡ K * p → 8 * s * (y * f) ≡ K * q → 8 * s * ((x + y) * f) ≡ K * (p + q)
sum_of s f x y K p q ex ey = omega arith

rotation_stress : (P n h st sb At Ab St Sb kb vb : ℕ) → st * (Ab * Sb) ≡ At * St * sb
    → 8 * st * (P * Ab * (kb * (1 * Sb) * (vb * (10000 * n * (2 * h * (2 * h))))) * (kb * (1 * Sb)))
    ≡ 64 * (kb * vb * (At * St) * (kb * (1 * Sb))) * (5000 * (n * (h * h) * (P * sb)))
rotation_stress P n h st sb At Ab St Sb kb vb same =
    let inner : P * Ab * (kb * (1 * Sb) * (vb * (10000 * n * (2 * h * (2 * h))))) ≡ Ab * Sb * (40000 * (P * (n * (h * h))) * (kb * vb)) = omega arith in
    let outer : P * (n * (h * h)) * sb ≡ n * (h * h) * (P * sb) = omega arith in
    ap (λ z. 8 * st * (z * (kb * (1 * Sb)))) inner
    ∙ stress_by st sb (Ab * Sb) (At * St) (P * (n * (h * h))) (kb * vb) (kb * (1 * Sb)) same
    ∙ ap (λ z. 64 * (kb * vb * (At * St) * (kb * (1 * Sb))) * (5000 * z)) outer

rotation_turn : (G b θ V st At St Sb kt kb vt vb : ℕ) → V * (kb * vb) ≡ kt * vt * 8
    → 8 * st * (kt * (G * St) * (vt * (θ * 1 * (b * 16 * (b * 16)))) * (1 * At) * (kb * (1 * Sb)))
    ≡ 64 * (kb * vb * (At * St) * (kb * (1 * Sb))) * (4 * (V * (G * st * (θ * (b * b)))))
rotation_turn G b θ V st At St Sb kt kb vt vb same =
    let inner : kt * (G * St) * (vt * (θ * 1 * (b * 16 * (b * 16)))) * (1 * At) ≡ kt * vt * (256 * (θ * (b * b)) * (At * St) * G) = omega arith in
    ap (λ z. 8 * st * (z * (kb * (1 * Sb)))) inner
    ∙ turn_by st V (kt * vt) (θ * (b * b)) (At * St) G (kb * (1 * Sb)) (kb * vb) same

rotation_limit : (G n h K st At St kt kb vb F : ℕ) → K * kb ≡ kt * 8
    → 8 * st * (kt * (G * St) * (1 * At * (F * (vb * (10000 * n * (2 * h * (2 * h)))))))
    ≡ 64 * (kb * vb * (At * St) * F) * (625 * (K * (G * st * (n * (h * h)))))
rotation_limit G n h K st At St kt kb vb F same =
    let inner : kt * (G * St) * (1 * At * (F * (vb * (10000 * n * (2 * h * (2 * h)))))) ≡ kt * (40000 * G * (At * St) * F * vb * (n * (h * h))) = omega arith in
    ap (λ z. 8 * st * z) inner ∙ limit_by st K kt kb vb G (At * St) F (n * (h * h)) same

module _ (A S : Fraction) (st sb : ℕ) (st_pos : 0 < st) (A_pos : 0 < A.top) (S_pos : 0 < S.top) (bottom_pos : 0 < S.bottom)
    (same : st * (A.bottom * S.bottom) ≡ A.top * S.top * sb) where
  pub uplift_cleared : (P G n h b θ U : ℕ) (u : Fraction) → 0 < u.bottom → U * u.bottom ≡ u.top * 4
      → leb (U * (G * st * (θ * (b * b)))) (625 * (n * (h * h) * (P * sb)))
      ≡ holds (u times (whole G times S) times (ten_thousandths θ per whole n times squared (halves b per sixteenths h)) at_most whole P per A)
  uplift_cleared P G n h b θ U u u_pos u_same =
      cleared (4 * st) (256 * (u.bottom * (A.top * S.top))) _ _ _ _ (omega (arith, st_pos)) (omega (arith, mul-pos u_pos (mul-pos A_pos S_pos)))
      (omega (arith, ap (λ z. 256 * G * st * S.top * A.top * θ * b * b * z) u_same))
      (omega (arith, ap (λ z. 160000 * u.bottom * n * h * h * P * z) same))

  pub rotation_cleared : (P G n h b θ K V : ℕ) (k v : Fraction) → 0 < k.bottom → 0 < v.bottom → K * k.bottom ≡ k.top * 8
      → V * (k.bottom * v.bottom) ≡ k.top * v.top * 8
      → leb (5000 * (n * (h * h) * (P * sb)) + 4 * (V * (G * st * (θ * (b * b))))) (625 * (K * (G * st * (n * (h * h)))))
      ≡ holds (whole P per A plus k times (whole G times S) times (v times (ten_thousandths θ per whole n times squared (halves b per sixteenths h))) at_most k times (whole G times S))
  rotation_cleared P G n h b θ K V k v k_pos v_pos k_same kv_same =
      cleared (8 * st) (64 * (k.bottom * v.bottom * (A.top * S.top) * (k.bottom * (1 * S.bottom)))) _ _ _ _
      (omega (arith, st_pos))
      (omega (arith, mul-pos (mul-pos (mul-pos k_pos v_pos) (mul-pos A_pos S_pos)) (mul-pos k_pos bottom_pos)))
      (sum_of st (k.bottom * (1 * S.bottom)) _ _ _ _ _
      (rotation_stress P n h st sb A.top A.bottom S.top S.bottom k.bottom v.bottom same)
      (rotation_turn G b θ V st A.top S.top S.bottom k.top k.bottom v.top v.bottom kv_same))
      (rotation_limit G n h K st A.top S.top k.top k.bottom v.bottom (k.bottom * (1 * S.bottom)) k_same)
