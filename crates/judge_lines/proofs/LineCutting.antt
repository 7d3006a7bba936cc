-- What is left of the lines of an input behind the first.
use Rattle.std.proofs.Common.{◌≡◌, ℕ, suc, ◌+◌, ◌-◌, ◌<◌, true, false, List, [], ◌∷◌, ◌++◌, length, take, drop, sym, refl, ap, ◌∙◌, ⊎_elim, append_assoc, append-nil, add-one, arith}
use Rattle.std.proofs.lemmas.List.{length-append, take_rest, take_all, drop_all}
use Rattle.std.proofs.lemmas.Bool.{cases_Bool, cond-true, cond-false}
use Rattle.std.specs.List.{prefix_len}
use Rattle.judge_lines.specs.Lines.{in_line, last_line, lines_after, lines_of}
use Rattle.judge_lines.proofs.Cutting.{leading_yes, leading_no}

last_is : (part : List ℕ) → 0 < length part → last_line part ≡ part ∷ []
last_is [] h = absurd (omega arith)
last_is (b ∷ bs) h = refl

-- a line goes on to the first newline
part_ends : (part bs : List ℕ) → 0 < length part + length bs → lines_after part bs ≡ (part ++ take (prefix_len in_line bs) bs) ∷ lines_of (drop (suc (prefix_len in_line bs)) bs)
part_ends part [] h = last_is part (omega arith) ∙ ap (λ l. l ∷ []) (sym (append-nil part))
part_ends part (b ∷ bs) h =
    let cut : ℕ → List (List ℕ) = λ n. (part ++ take n (b ∷ bs)) ∷ lines_of (drop (suc n) (b ∷ bs)) in
    let n = prefix_len in_line bs in
    ⊎_elim
    (λ (e : in_line b ≡ true).
    let on : ((part ++ (b ∷ [])) ++ take n bs) ∷ lines_of (drop (suc n) bs) ≡ cut (suc n) = ap (λ l. l ∷ lines_of (drop (suc n) bs)) (append_assoc part (b ∷ []) (take n bs)) in
    let more : 0 < length (part ++ (b ∷ [])) + length bs = simp length-append (omega arith) in
    cond-true (in_line b) (lines_after (part ++ (b ∷ [])) bs) (part ∷ lines_after [] bs) e ∙ part_ends (part ++ (b ∷ [])) bs more ∙ on ∙ ap cut (sym (leading_yes in_line b bs e)))
    (λ (e : in_line b ≡ false).
    let here : part ∷ lines_of bs ≡ cut 0 = ap (λ l. l ∷ lines_of bs) (sym (append-nil part)) in
    cond-false (in_line b) (lines_after (part ++ (b ∷ [])) bs) (part ∷ lines_after [] bs) e ∙ here ∙ ap cut (sym (leading_no in_line b bs e)))
    (cases_Bool (in_line b))

-- the first line as `first_line` answers it, and the lines behind it
pub lines_cut : (bs line rest : List ℕ) → 0 < length bs → line ≡ take (prefix_len in_line bs) bs → rest ≡ drop (prefix_len in_line bs + 1) bs → lines_of bs ≡ line ∷ lines_of rest
lines_cut bs line rest some l r = part_ends [] bs (omega arith) ∙ rw (l, r, add-one)

-- what `first_line` cuts off at the place where the first newline stands
pub cut_at : (bs : List ℕ) (end : ℕ) → prefix_len in_line bs ≡ end → (take end bs ≡ take (prefix_len in_line bs) bs) × (take (length bs - (end + 1)) (drop (end + 1) bs) ≡ drop (prefix_len in_line bs + 1) bs)
cut_at bs end e = (ap (λ n. take n bs) (sym e), take_rest bs (end + 1) ∙ ap (λ n. drop (n + 1) bs) (sym e))

-- or at the end, where there is none
pub whole : (bs : List ℕ) → prefix_len in_line bs ≡ length bs → (bs ≡ take (prefix_len in_line bs) bs) × ([] ≡ drop (prefix_len in_line bs + 1) bs)
whole bs e = (sym (take_all (prefix_len in_line bs) bs (omega arith)), sym (drop_all (prefix_len in_line bs + 1) bs (omega arith)))
