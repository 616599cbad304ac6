-- Texts that grow: the words that writers' contracts use, and how their steps make a line.
use Rattle.std.specs.Prelude.{◌≡◌, ℕ, true, List, [], ◌∷◌, ◌++◌, refl}
use Rattle.std.proofs.Common.{ap, sym, ◌∙◌, append_assoc, append-nil}
use Rattle.text_model.specs.Lines.{spaced, line_of, begins_line, Adds}
use Rattle.frame_writer.specs.Ending.{begins_line-append}

-- what stood there is a prefix of what stands there
pub record Begins (before after : List ℕ) : Type 0 where
  pub more : List ℕ
  pub is : after ≡ before ++ more

-- nothing was added
pub Adds-nil : (a : List ℕ) → Adds a a []
Adds-nil a = record { is = sym (append-nil a) }

-- a piece and then the rest
pub Adds-then : {a b c piece rest : List ℕ} → Adds a b piece → Adds b c rest → Adds a c (piece ++ rest)
Adds-then {a} {b} {c} {piece} {rest} first second = record { is = second.is ∙ ap (λ (t : List ℕ). t ++ rest) first.is ∙ append_assoc a piece rest }

-- no word was added
pub Adds-no_words : (a : List ℕ) → Adds a a (spaced [])
unfolding spaced
Adds-no_words a = Adds-nil a

-- a word behind a space and then the others
pub Adds-word : {a b c : List ℕ} (word : List ℕ) (words : List (List ℕ)) → Adds a b (32 ∷ word) → Adds b c (spaced words) → Adds a c (spaced (word ∷ words))
unfolding spaced
Adds-word word words first others = Adds-then first others

-- a line's first word, its others and its end
pub Adds-line : {a b c d first : List ℕ} (words : List (List ℕ)) → Adds a b first → Adds b c (spaced words) → Adds c d (10 ∷ []) → Adds a d (line_of first words)
unfolding line_of
Adds-line words first others end = Adds-then first (Adds-then others end)

-- words behind words
pub spaced-append : (these those : List (List ℕ)) → spaced (these ++ those) ≡ spaced these ++ spaced those
unfolding spaced
spaced-append [] those = refl
spaced-append (word ∷ words) those = ap (λ (t : List ℕ). 32 ∷ t) (ap (λ (t : List ℕ). word ++ t) (spaced-append words those) ∙ sym (append_assoc word (spaced words) (spaced those)))

-- some words and then others
pub Adds-words : {a b c : List ℕ} (these those : List (List ℕ)) → Adds a b (spaced these) → Adds b c (spaced those) → Adds a c (spaced (these ++ those))
Adds-words {a} {b} {c} these those first second = record { is = (Adds-then first second).is ∙ ap (λ (t : List ℕ). a ++ t) (sym (spaced-append these those)) }

-- what adds keeps what stood there
pub Adds-begins : {a b piece : List ℕ} → Adds a b piece → Begins a b
Adds-begins {a} {b} {piece} adds = record { more = piece; is = adds.is }

-- what stood there still stands there after more is added
pub Begins-then : {a b c : List ℕ} → Begins a b → Begins b c → Begins a c
Begins-then {a} {b} {c} first second = record { more = first.more ++ second.more; is = second.is ∙ ap (λ (t : List ℕ). t ++ second.more) first.is ∙ append_assoc a first.more second.more }

-- what adds a text that ends its line to one that ended its own begins a new line
pub Adds-ended : {a b piece : List ℕ} → Adds a b piece → begins_line a ≡ true → begins_line piece ≡ true → begins_line b ≡ true
Adds-ended {a} {b} {piece} adds before ends = ap begins_line adds.is ∙ begins_line-append a piece before ends
