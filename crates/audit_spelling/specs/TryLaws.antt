-- The answers of a frame, and the head of a journal, have one spelling.
use Rattle.std.proofs.Common.{◌≡◌, ℕ, ◌^◌, ◌<◌, ◌≤◌, List, [], ◌∷◌, ◌++◌, map, Some, refl, sym, ap, subst, ◌∙◌, arith}
use Rattle.std.specs.Prelude.{codes}
use Rattle.std.specs.Fmt.{decimal}
use Rattle.std.specs.List.{join_with_byte}
use Rattle.std.proofs.lemmas.List.Splits.{join_with_byte-slice_split}
use Rattle.file_model.specs.declared.fields.Try.{Try}
use Rattle.number_words.specs.Numbers.{number_in}
use Rattle.text_model.specs.FrameText.{try_text}
use Rattle.audit_spelling.specs.declared.spelt.Head.{Head}
use Rattle.audit_spelling.specs.Words.{IsPlain, each_in, Spells, SpellsWord}
use Rattle.audit_spelling.specs.WordLaws.{split_at, split_none, plain-append, each_spells, behind_spells}
use Rattle.audit_spelling.specs.NumberSpellings.{decimal_plain, decimal_no_colon, number_spells, patch_spells, two_sound, two_complete}
use Rattle.audit_spelling.specs.Spellings.{most_32, most_64, patch_in, try_of, try_in_parts, parts_in, try_in, IsTry, tries_words, tries_in, AreTries, head_of, head_in_numbers, head_words, head_in, IsHead}

module _ (patches : ℕ) (some : 1 ≤ patches) (few : patches ≤ 10 ^ 19) where
  parts_sound : (parts : List (List ℕ)) (t : Try) → try_in_parts patches parts ≡ Some t
      → (join_with_byte 58 parts ≡ try_text t) × IsTry patches t
  unfolding try_text
  parts_sound [] t is = absurd (cc)
  parts_sound (a ∷ []) t is = absurd (cc)
  parts_sound (a ∷ b ∷ c ∷ rest) t is = absurd (cc)
  parts_sound (a ∷ b ∷ []) t is =
      let are = two_sound (patch_in patches) (number_in most_32) (λ p. p < patches) (λ n. n ≤ most_32) try_of
      (patch_spells patches some few) (number_spells most_32 (omega arith)) a b t is in
      let P : Try → Type 0 = λ u. (a ++ (58 ∷ b) ≡ decimal u.patch ++ (58 ∷ decimal u.epoch)) × IsTry patches u in
      let both : a ++ (58 ∷ b) ≡ decimal are.first ++ (58 ∷ decimal are.last) = ap
      (λ (bytes : List ℕ). bytes ++ (58 ∷ b)) are.a_is
      ∙ ap (λ (bytes : List ℕ). decimal are.first ++ (58 ∷ bytes)) are.b_is in
      subst P (sym are.is) (both, record { patch = are.first_in; epoch = are.last_in })

  try_sound : (word : List ℕ) (t : Try) → try_in patches word ≡ Some t → (word ≡ try_text t) × IsTry patches t
  try_sound word t is =
      let spelt = parts_sound (parts_in word) t is in
      (sym (join_with_byte-slice_split 58 word) ∙ spelt.0, spelt.1)

  try_parts : (t : Try) → IsTry patches t → parts_in (try_text t) ≡ decimal t.patch ∷ decimal t.epoch ∷ []
  unfolding try_text
  try_parts t is =
      let patch = is.patch in
      let epoch = is.epoch in
      split_at 58 (decimal t.patch) (decimal t.epoch) (decimal_no_colon t.patch (omega arith))
      ∙ ap (λ (parts : List (List ℕ)). decimal t.patch ∷ parts)
      (split_none 58 (decimal t.epoch) (decimal_no_colon t.epoch (omega arith)))

  try_complete : (t : Try) → IsTry patches t → try_in patches (try_text t) ≡ Some t
  try_complete t is =
      ap (try_in_parts patches) (try_parts t is)
      ∙ two_complete (patch_in patches) (number_in most_32) (λ p. p < patches) (λ n. n ≤ most_32) try_of
      (patch_spells patches some few) (number_spells most_32 (omega arith)) t.patch t.epoch is.patch is.epoch

  try_plain : (t : Try) → IsTry patches t → IsPlain (try_text t)
  unfolding try_text
  try_plain t is =
      let patch = is.patch in
      let epoch = is.epoch in
      plain-append (decimal t.patch) (58 ∷ decimal t.epoch) (decimal_plain t.patch (omega arith))
      (decimal_plain t.epoch (omega arith))

  pub try_spells : SpellsWord (try_in patches) try_text (IsTry patches)
  try_spells = record { sound = try_sound; complete = try_complete; plain = try_plain }

  pub tries_spell : Spells (tries_in patches) tries_words (AreTries patches)
  tries_spell = behind_spells (codes "tries") (each_in (try_in patches)) (λ ts. map try_text ts) (AreTries patches)
      (each_spells (try_in patches) try_text (IsTry patches) try_spells) refl

-- ---- heads

numbers_sound : (words : List (List ℕ)) (head : Head) → head_in_numbers words ≡ Some head
    → (words ≡ decimal head.tier ∷ decimal head.entries ∷ []) × IsHead head
numbers_sound [] head is = absurd (cc)
numbers_sound (a ∷ []) head is = absurd (cc)
numbers_sound (a ∷ b ∷ c ∷ rest) head is = absurd (cc)
numbers_sound (a ∷ b ∷ []) head is =
    let are = two_sound (number_in most_32) (number_in most_64) (λ n. n ≤ most_32) (λ n. n ≤ most_64) head_of
    (number_spells most_32 (omega arith)) (number_spells most_64 (omega arith)) a b head is in
    let P : Head → Type 0 = λ h. (a ∷ b ∷ [] ≡ decimal h.tier ∷ decimal h.entries ∷ []) × IsHead h in
    let both : a ∷ b ∷ [] ≡ decimal are.first ∷ decimal are.last ∷ [] = ap (λ (bytes : List ℕ). bytes ∷ b ∷ []) are.a_is
    ∙ ap (λ (bytes : List ℕ). decimal are.first ∷ bytes ∷ []) are.b_is in
    subst P (sym are.is) (both, record { tier = are.first_in; entries = are.last_in })

numbers_spell : Spells head_in_numbers (λ head. decimal head.tier ∷ decimal head.entries ∷ []) IsHead
numbers_spell = record {
  sound = numbers_sound;
  complete = λ head is. two_complete (number_in most_32) (number_in most_64) (λ n. n ≤ most_32)
      (λ n. n ≤ most_64) head_of (number_spells most_32 (omega arith))
      (number_spells most_64 (omega arith)) head.tier head.entries is.tier is.entries;
  plain = λ head is. let tier = is.tier in let entries = is.entries in
      (decimal_plain head.tier (omega arith), (decimal_plain head.entries (omega arith), tt));
}

pub head_spells : Spells head_in head_words IsHead
head_spells = behind_spells (codes "journal") head_in_numbers
    (λ head. decimal head.tier ∷ decimal head.entries ∷ []) IsHead numbers_spell refl
