-- What a step of the reader leaves of the words of a line.
use Rattle.std.proofs.Common.{◌≡◌, ℕ, suc, ◌+◌, ◌-◌, ◌<◌, ◌≤◌, Bool, true, false, not, List, [], ◌∷◌, ◌++◌, length, get_or, take, drop, sym, refl, subst, ap, ◌∙◌, ⊎_elim, append_assoc, append-nil, one-add, arith}
use Rattle.std.proofs.lemmas.List.{length-take, length-drop, take_rest, drop_all}
use Rattle.std.proofs.lemmas.List.Sums.{prefix_len-drop_yes, prefix_len-le-length, prefix_len_stops}
use Rattle.std.proofs.lemmas.Bool.{cases_Bool, cond-true, cond-false}
use Rattle.std.specs.List.{prefix_len, position_or_len}
use Rattle.judge_lines.specs.Words.{blank, ended, words_after, words}

-- the clauses of the definitions, at each kind of byte

after_blank : (run : List ℕ) (b : ℕ) (bs : List ℕ) → blank b ≡ true → words_after run (b ∷ bs) ≡ ended run ++ words bs
after_blank run b bs e = cond-true (blank b) (ended run ++ words_after [] bs) (words_after (run ++ (b ∷ [])) bs) e

after_other : (run : List ℕ) (b : ℕ) (bs : List ℕ) → blank b ≡ false → words_after run (b ∷ bs) ≡ words_after (run ++ (b ∷ [])) bs
after_other run b bs e = cond-false (blank b) (ended run ++ words_after [] bs) (words_after (run ++ (b ∷ [])) bs) e

pub leading_yes : {X : Type 0} (p : X → Bool) (b : X) (bs : List X) → p b ≡ true → prefix_len p (b ∷ bs) ≡ suc (prefix_len p bs)
leading_yes p b bs e = cond-true (p b) (1 + prefix_len p bs) 0 e ∙ one-add (prefix_len p bs)

pub leading_no : {X : Type 0} (p : X → Bool) (b : X) (bs : List X) → p b ≡ false → prefix_len p (b ∷ bs) ≡ 0
leading_no p b bs e = cond-false (p b) (1 + prefix_len p bs) 0 e

-- blanks in front make no word
pub words_past_blanks : (bs : List ℕ) → words bs ≡ words (drop (prefix_len blank bs) bs)
words_past_blanks [] = refl
words_past_blanks (b ∷ bs) =
    let past : ℕ → List (List ℕ) = λ n. words (drop n (b ∷ bs)) in
    ⊎_elim (λ e. after_blank [] b bs e ∙ words_past_blanks bs ∙ ap past (sym (leading_yes blank b bs e)))
    (λ e. ap past (sym (leading_no blank b bs e)))
    (cases_Bool (blank b))

-- a run goes on to the first blank, and is then a word
run_ends : (run bs : List ℕ) → words_after run bs ≡ ended (run ++ take (position_or_len blank bs) bs) ++ words (drop (position_or_len blank bs) bs)
run_ends run [] = sym (append-nil (ended (run ++ [])) ∙ ap ended (append-nil run))
run_ends run (b ∷ bs) =
    let cut : ℕ → List (List ℕ) = λ n. ended (run ++ take n (b ∷ bs)) ++ words (drop n (b ∷ bs)) in
    let other : ℕ → Bool = λ b. not (blank b) in
    ⊎_elim
    (λ e. let here : ended run ++ words bs ≡ cut 0 = (rw (append-nil run, after_blank [] b bs e)) in after_blank run b bs e ∙ here ∙ ap cut (sym (leading_no other b bs (ap not e))))
    (λ e. let n = position_or_len blank bs in let on : ended ((run ++ (b ∷ [])) ++ take n bs) ++ words (drop n bs) ≡ cut (suc n) = (rw append_assoc) in after_other run b bs e ∙ run_ends (run ++ (b ∷ [])) bs ∙ on ∙ ap cut (sym (leading_yes other b bs (ap not e))))
    (cases_Bool (blank b))

ended_is : (run : List ℕ) → 0 < length run → ended run ≡ run ∷ []
ended_is [] h = absurd (omega arith)
ended_is (b ∷ bs) h = refl

-- the step of the reader, where nothing but blanks is left
pub no_word : (bs : List ℕ) → prefix_len blank bs ≡ length bs → words bs ≡ []
no_word bs e = words_past_blanks bs ∙ ap words (drop_all (prefix_len blank bs) bs (omega arith))

-- and where a word of `size` bytes follows `before` blanks
pub word_cut : (bs : List ℕ) (before size : ℕ) → prefix_len blank bs ≡ before → before < length bs → let at = take (length bs - before) (drop before bs) in position_or_len blank at ≡ size → (words bs ≡ take size at ∷ words (take (length at - size) (drop size at))) × (length (take (length at - size) (drop size at)) < length bs)
word_cut bs before size b h s =
    let at = take (length bs - before) (drop before bs) in
    let same : at ≡ drop before bs = take_rest bs before in
    let other : ℕ → Bool = λ b. not (blank b) in
    let stops : blank (get_or bs before 0) ≡ false = subst (λ n. blank (get_or bs n 0) ≡ false) b (prefix_len_stops blank bs 0 (omega arith)) in
    let some : 0 < size = omega (arith, sym s ∙ ap (position_or_len blank) same, prefix_len-drop_yes other bs before 0 h (ap not stops)) in
    let within : size ≤ length at = omega (arith, prefix_len-le-length other at) in
    let start : words bs ≡ words at = words_past_blanks bs ∙ ap (λ n. words (drop n bs)) b ∙ ap words (sym same) in
    (start ∙ run_ends [] at ∙ rw (s, ended_is (take size at) (omega (arith, length-take size at)), take_rest at size), omega (arith, length-take {A = ℕ}, length-drop {A = ℕ}))
