-- What each of some words spells, read one after the other.
use Rattle.std.proofs.Common.{◌≡◌, ℕ, suc, ◌+◌, ◌<◌, ◌≤◌, List, [], ◌∷◌, ◌++◌, length, map, Bor, get_or, drop, Option, Some, None, refl, sym, ap, ◌∙◌, add-one, append_assoc, append-nil, arith}
use Rattle.std.specs.Option.{option_map, option_and_then}
use Rattle.std.proofs.Math.Seq.{drop-cons}
use Rattle.std.proofs.lemmas.List.{drop_all, length-map, get_or-map}
use Rattle.audit_spelling.specs.Words.{in_front, each_in}

-- values, and behind them those that are to come, if all of them come
abbrev pub behind : {X : Type 0} → List X → Option (List X) → Option (List X)
behind front rest = option_map (λ others. front ++ others) rest

one_behind : {X : Type 0} (front : List X) (x : X) (rest : Option (List X))
    → behind front (in_front rest x) ≡ behind (front ++ (x ∷ [])) rest
one_behind front x None = refl
one_behind front x (Some others) = ap Some (sym (append_assoc front (x ∷ []) others))

module _ {X : Type 0} (of_word : List ℕ → Option X) (words : List (List ℕ)) (at : ℕ) (front : List X)
    (read : each_in of_word words ≡ behind front (each_in of_word (drop at words))) where
  next_is : (word : Option X) → at < length words → of_word (get_or words at []) ≡ word
      → each_in of_word words ≡ behind front (option_and_then (in_front (each_in of_word (drop (suc at) words))) word)
  next_is word within is =
      read
      ∙ ap (λ (rest : List (List ℕ)). behind front (each_in of_word rest)) (drop-cons words at [] within)
      ∙ ap (λ (o : Option X). behind front (option_and_then (in_front (each_in of_word (drop (suc at) words))) o)) is

  pub one_more : (x : X) → at < length words → of_word (get_or words at []) ≡ Some x
      → each_in of_word words ≡ behind (front ++ (x ∷ [])) (each_in of_word (drop (at + 1) words))
  one_more x within is =
      next_is (Some x) within is
      ∙ one_behind front x (each_in of_word (drop (suc at) words))
      ∙ ap (λ (n : ℕ). behind (front ++ (x ∷ [])) (each_in of_word (drop n words))) (sym (add-one at))

  pub none_there : at < length words → of_word (get_or words at []) ≡ None → each_in of_word words ≡ None
  none_there within is = next_is None within is

  pub all_read : length words ≤ at → each_in of_word words ≡ Some front
  all_read all = read ∙ ap (λ (rest : List (List ℕ)). behind front (each_in of_word rest)) (drop_all at words all)
      ∙ ap Some (append-nil front)

-- ---- the same of words behind references

abbrev pub now_of : List (Bor (List ℕ)) → List (List ℕ)
now_of words = map (λ word. word.now) words

module _ {X : Type 0} (of_word : List ℕ → Option X) (words : List (Bor (List ℕ))) (at : ℕ) (other : Bor (List ℕ))
    (within : at < length words) (front : List X)
    (read : each_in of_word (now_of words) ≡ behind front (each_in of_word (drop at (now_of words)))) where
  within_now : at < length (now_of words)
  within_now = omega (arith, length-map words (λ (word : Bor (List ℕ)). word.now))

  same_word : get_or (now_of words) at [] ≡ (get_or words at other).now
  same_word = get_or-map (λ (word : Bor (List ℕ)). word.now) words at other [] within

  pub one_more_now : (o : Option X) (x : X) (next : List X) → o ≡ of_word (get_or words at other).now → o ≡ Some x
      → next ≡ front ++ (x ∷ []) → each_in of_word (now_of words) ≡ behind next
      (each_in of_word (drop (at + 1) (now_of words)))
  one_more_now o x next read_is is next_is =
      one_more of_word (now_of words) at front read x within_now (ap of_word same_word ∙ sym read_is ∙ is)
      ∙ ap (λ (xs : List X). behind xs (each_in of_word (drop (at + 1) (now_of words)))) (sym next_is)

  pub none_there_now : (o : Option X) → o ≡ of_word (get_or words at other).now → o ≡ None
      → each_in of_word (now_of words) ≡ None
  none_there_now o read_is is = none_there of_word (now_of words) at front read within_now
      (ap of_word same_word ∙ sym read_is ∙ is)
