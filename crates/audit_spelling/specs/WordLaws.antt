-- Words of a line: splitting a line gives the words that it was put together of.
use Rattle.std.proofs.Common.{◌≡◌, ℕ, ◌==◌, Bool, false, List, [], ◌∷◌, ◌++◌, map, Option, Some, None, refl, sym, ap, subst, ◌∙◌, append_assoc, append-nil}
use Rattle.std.specs.Prelude.{bytes_eq}
use Rattle.std.specs.List.{AllByRecursion, list_any, slice_split, onto_first}
use Rattle.std.specs.Option.{option_and_then}
use Rattle.std.proofs.lemmas.Bool.{cond-true, cond-false, cond_both, eq-eqb, or_parts, or_from}
use Rattle.std.proofs.lemmas.Option.{same_Some}
use Rattle.std.proofs.lemmas.List.Folds.{list_any-append}
use Rattle.std.proofs.lemmas.Slice.Eq.{bytes_eq-Decides}
use Rattle.text_model.specs.Lines.{spaced, line_of}
use Rattle.audit_lines.specs.Places.{has_line_feed, StandsAhead}
use Rattle.audit_spelling.specs.Words.{words_in, spaced_words, line_with, ends_word, IsPlain, AreWords, Spells, SpellsWord, in_front, behind_word, each_in}

-- ---- splitting at a byte

abbrev pub has_byte : ℕ → List ℕ → Bool
has_byte c bytes = list_any (λ b. b == c) bytes

pub split_at : (c : ℕ) (part rest : List ℕ) → has_byte c part ≡ false
    → slice_split (λ b. b == c) (part ++ (c ∷ rest)) ≡ part ∷ slice_split (λ b. b == c) rest
split_at c [] rest none = cond-true (c == c) ([] ∷ slice_split (λ b. b == c) rest)
    (onto_first c (slice_split (λ b. b == c) rest)) (eq-eqb c c refl)
split_at c (d ∷ ds) rest none =
    let parts = or_parts (d == c) (has_byte c ds) none in
    let more = slice_split (λ b. b == c) (ds ++ (c ∷ rest)) in
    cond-false (d == c) ([] ∷ more) (onto_first d more) parts.0 ∙ ap (onto_first d) (split_at c ds rest parts.1)

pub split_none : (c : ℕ) (part : List ℕ) → has_byte c part ≡ false → slice_split (λ b. b == c) part ≡ part ∷ []
split_none c [] none = refl
split_none c (d ∷ ds) none =
    let parts = or_parts (d == c) (has_byte c ds) none in
    let more = slice_split (λ b. b == c) ds in
    cond-false (d == c) ([] ∷ more) (onto_first d more) parts.0 ∙ ap (onto_first d) (split_none c ds parts.1)

-- ---- words

no_space : (word : List ℕ) → IsPlain word → has_byte 32 word ≡ false
no_space [] plain = refl
no_space (c ∷ cs) plain =
    let parts = or_parts (ends_word c) (list_any ends_word cs) plain in
    or_from (c == 32) (has_byte 32 cs) (or_parts (c == 32) (c == 10) parts.0).0 (no_space cs parts.1)

no_feed : (word : List ℕ) → IsPlain word → has_line_feed word ≡ false
no_feed [] plain = refl
no_feed (c ∷ cs) plain =
    let parts = or_parts (ends_word c) (list_any ends_word cs) plain in
    or_from (c == 10) (has_line_feed cs) (or_parts (c == 32) (c == 10) parts.0).1 (no_feed cs parts.1)

words_of : (word : List ℕ) (words : List (List ℕ)) → AllByRecursion IsPlain (word ∷ words)
    → words_in (spaced_words (word ∷ words)) ≡ word ∷ words
words_of word [] plain = split_none 32 word (no_space word plain.0)
words_of word (next ∷ words) plain = split_at 32 word (spaced_words (next ∷ words)) (no_space word plain.0)
    ∙ ap (λ (rest : List (List ℕ)). word ∷ rest) (words_of next words plain.1)

one_line : (word : List ℕ) (words : List (List ℕ)) → AllByRecursion IsPlain (word ∷ words)
    → has_line_feed (spaced_words (word ∷ words)) ≡ false
one_line word [] plain = no_feed word plain.0
one_line word (next ∷ words) plain =
    list_any-append (λ c. c == 10) word (32 ∷ spaced_words (next ∷ words))
    ∙ or_from (has_line_feed word) (has_line_feed (spaced_words (next ∷ words))) (no_feed word plain.0)
    (one_line next words plain.1)

-- the words of a line that was put together of words are these
pub words_of_written : (words : List (List ℕ)) → AreWords words → words_in (spaced_words words) ≡ words
words_of_written [] are = absurd are.first
words_of_written (word ∷ words) are = words_of word words are.plain

-- and it is one line
pub written_is_one_line : (words : List (List ℕ)) → AreWords words → has_line_feed (spaced_words words) ≡ false
written_is_one_line [] are = absurd are.first
written_is_one_line (word ∷ words) are = one_line word words are.plain

-- it is the first line of its text
pub stands_first : (words : List (List ℕ)) → AreWords words → StandsAhead 0 (spaced_words words) (line_with words)
stands_first words are = ([], refl, written_is_one_line words are)

spaced_is : (first : List ℕ) (words : List (List ℕ)) → spaced_words (first ∷ words) ≡ first ++ spaced words
unfolding spaced
spaced_is first [] = sym (append-nil first)
spaced_is first (word ∷ words) = ap (λ (rest : List ℕ). first ++ (32 ∷ rest)) (spaced_is word words)

-- it is the line that is printed of the words
pub line_with_is : (first : List ℕ) (words : List (List ℕ)) → line_with (first ∷ words) ≡ line_of first words
unfolding line_of
line_with_is first words = ap (λ (line : List ℕ). line ++ (10 ∷ [])) (spaced_is first words)
    ∙ append_assoc first (spaced words) (10 ∷ [])

-- ---- what each word spells

pub plain-append : (first last : List ℕ) → IsPlain first → IsPlain last → IsPlain (first ++ last)
plain-append first last a b = list_any-append ends_word first last
    ∙ or_from (list_any ends_word first) (list_any ends_word last) a b

module _ {X : Type 0} (of_word : List ℕ → Option X) (written : X → List ℕ) (Allowed : X → Type 0)
    (spells : SpellsWord of_word written Allowed) where
  -- what was put in front of what
  record WasFront (x : X) (rest : Option (List X)) (xs : List X) : Type 0 where
    others : List X
    are : rest ≡ Some others
    is : xs ≡ x ∷ others

  was_front : (x : X) (rest : Option (List X)) (xs : List X) → in_front rest x ≡ Some xs → WasFront x rest xs
  was_front x None xs is = absurd (cc)
  was_front x (Some others) xs is = record { others = others; are = refl; is = sym (same_Some (x ∷ others) xs is) }

  record WasEach (word : Option X) (rest : Option (List X)) (xs : List X) : Type 0 where
    value : X
    spelt : word ≡ Some value
    front : WasFront value rest xs

  was_each : (word : Option X) (rest : Option (List X)) (xs : List X) → option_and_then (in_front rest) word ≡ Some xs
      → WasEach word rest xs
  was_each None rest xs is = absurd (cc)
  was_each (Some x) rest xs is = record { value = x; spelt = refl; front = was_front x rest xs is }

  pub each_sound : (words : List (List ℕ)) (xs : List X) → each_in of_word words ≡ Some xs
      → (words ≡ map written xs) × AllByRecursion Allowed xs
  each_sound [] xs is = subst (λ (ys : List X). ([] ≡ map written ys) × AllByRecursion Allowed ys) (same_Some [] xs is)
      (refl, tt)
  each_sound (word ∷ words) xs is =
      let was = was_each (of_word word) (each_in of_word words) xs is in
      let first = spells.sound word was.value was.spelt in
      let rest = each_sound words was.front.others was.front.are in
      let P : List X → Type 0 = λ ys. (word ∷ words ≡ map written ys) × AllByRecursion Allowed ys in
      subst P (sym was.front.is) (cc, (first.1, rest.1))

  pub each_complete : (xs : List X) → AllByRecursion Allowed xs → each_in of_word (map written xs) ≡ Some xs
  each_complete [] allowed = refl
  each_complete (x ∷ xs) allowed =
      ap (option_and_then (in_front (each_in of_word (map written xs)))) (spells.complete x allowed.0)
      ∙ ap (λ (rest : Option (List X)). in_front rest x) (each_complete xs allowed.1)

  pub each_plain : (xs : List X) → AllByRecursion Allowed xs → AllByRecursion IsPlain (map written xs)
  each_plain [] allowed = tt
  each_plain (x ∷ xs) allowed = (spells.plain x allowed.0, each_plain xs allowed.1)

  pub each_spells : Spells (each_in of_word) (λ xs. map written xs) (λ xs. AllByRecursion Allowed xs)
  each_spells = record { sound = each_sound; complete = each_complete; plain = each_plain }

-- ---- a word that is due in front

module _ {X : Type 0} (due : List ℕ) (of_words : List (List ℕ) → Option X) (written : X → List (List ℕ))
    (Allowed : X → Type 0) (spells : Spells of_words written Allowed) where
  behind_sound : (words : List (List ℕ)) (x : X) → behind_word due of_words words ≡ Some x
      → (words ≡ due ∷ written x) × Allowed x
  behind_sound [] x is = absurd (cc)
  behind_sound (word ∷ words) x is =
      cond_both (bytes_eq word due) (of_words words) None
      (λ (o : Option X). o ≡ Some x → (word ∷ words ≡ due ∷ written x) × Allowed x)
      (λ same spelt. let first = (bytes_eq-Decides word due).0 same in let rest = spells.sound words x spelt in
      (cc (first, rest.0), rest.1))
      (λ other spelt. absurd (cc))
      is

  behind_complete : (x : X) → Allowed x → behind_word due of_words (due ∷ written x) ≡ Some x
  behind_complete x allowed = cond-true (bytes_eq due due) (of_words (written x)) None
      ((bytes_eq-Decides due due).1 refl) ∙ spells.complete x allowed

  pub behind_spells : IsPlain due → Spells (behind_word due of_words) (λ x. due ∷ written x) Allowed
  behind_spells plain = record
      { sound = behind_sound; complete = behind_complete; plain = λ x allowed. (plain, spells.plain x allowed) }
