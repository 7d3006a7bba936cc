-- The words of a line: its longest runs of bytes that are no blanks.
use Rattle.std.specs.Prelude.{ℕ, Bool, cond, ◌||◌, List, [], ◌∷◌, ◌++◌, ◌==◌}

-- space, tab, carriage return
unfoldable pub blank : ℕ → Bool
blank b = b == 32 || (b == 9 || b == 13)

-- a run that has ended is a word, unless it is empty
abbrev pub ended : List ℕ → List (List ℕ)
ended [] = []
ended (b ∷ bs) = (b ∷ bs) ∷ []

-- the words of `run ++ bytes`, where `run` has no blanks
abbrev pub words_after : (run bytes : List ℕ) → List (List ℕ)
words_after run [] = ended run
words_after run (b ∷ bs) = cond (blank b) (ended run ++ words_after [] bs) (words_after (run ++ (b ∷ [])) bs)

abbrev pub words : List ℕ → List (List ℕ)
words line = words_after [] line
