-- The entries of a journal and the outcomes of fetches have one spelling.
use Rattle.std.proofs.Common.{◌≡◌, ℕ, ◌^◌, ◌<◌, ◌≤◌, true, List, [], ◌∷◌, Option, Some, None, refl, ap, subst, ◌∙◌, arith}
use Rattle.std.specs.Prelude.{bytes_eq, codes, if◌then◌else◌}
use Rattle.std.specs.Fmt.{decimal}
use Rattle.std.specs.List.{AllByRecursion}
use Rattle.std.specs.Option.{option_map, option_and_then}
use Rattle.std.proofs.lemmas.Bool.{cond_both}
use Rattle.std.proofs.lemmas.Option.{same_Some}
use Rattle.std.proofs.lemmas.Slice.Eq.{bytes_eq-Decides}
use Rattle.file_model.specs.declared.faults.FileFault.{FileFault}
use Rattle.number_words.specs.Numbers.{number_in}
use Rattle.text_model.specs.StatusText.{file_fault_words}
use Rattle.tier_model.specs.declared.turns.Turn.{Turn}
use Rattle.tier_model.specs.declared.turns.Turn.TheVariants.{Reserve, Evict, Kept, Got, Lost, Fault, Changed, Commit, Idle}
use Rattle.run_model.specs.LineTexts.{turn_words}
use Rattle.audit_spelling.specs.declared.spelt.TierTurn.{TierTurn}
use Rattle.audit_spelling.specs.Words.{IsPlain, Spells}
use Rattle.audit_spelling.specs.WordLaws.{behind_spells}
use Rattle.audit_spelling.specs.NumberSpellings.{decimal_plain, number_spells, patch_spells}
use Rattle.audit_spelling.specs.FaultLaws.{fault_spells}
use Rattle.audit_spelling.specs.Spellings.{most_32, patch_in, FitsFault, fault_in, kind_in, outcome_kind_in, plain_in, changed_in, turn_in, entry_in, IsEntry, IsOutcome, turn_at, tier_turn_in, outcome_words, outcome_in, IsTierOutcome}

-- the turn of a kind is written by this word and its patch, and is allowed
abbrev WritesKind : ℕ → (Turn → Type 0) → List ℕ → Option (ℕ → Turn) → Type 0
WritesKind patches Allowed word None = Unit {0}
WritesKind patches Allowed word (Some turn) = (p : ℕ) → p < patches
    → (word ∷ decimal p ∷ [] ≡ turn_words (turn p)) × Allowed (turn p)

-- where the first test holds the word is this one
is_word : (word due : List ℕ) → bytes_eq word due ≡ true → word ≡ due
is_word word due same = (bytes_eq-Decides word due).0 same

-- a chain of tests writes its kinds where each of them does
one_kind : (patches : ℕ) (Allowed : Turn → Type 0) (word due : List ℕ) (turn : ℕ → Turn) (others : Option (ℕ → Turn))
    → ((p : ℕ) → p < patches → (due ∷ decimal p ∷ [] ≡ turn_words (turn p)) × Allowed (turn p))
    → WritesKind patches Allowed word others
    → WritesKind patches Allowed word (if bytes_eq word due then Some turn else others)
one_kind patches Allowed word due turn others here there =
    cond_both (bytes_eq word due) (Some turn) others (WritesKind patches Allowed word)
    (λ same p within. let written = here p within in
    (ap (λ (first : List ℕ). first ∷ decimal p ∷ []) (is_word word due same) ∙ written.0, written.1))
    (λ other. there)

kinds : (patches : ℕ) (word : List ℕ) → WritesKind patches (IsEntry patches) word (kind_in word)
kinds patches word =
    one_kind patches (IsEntry patches) word (codes "reserve") Reserve _ (λ p within. (refl, within))
    (one_kind patches (IsEntry patches) word (codes "evict") Evict _ (λ p within. (refl, within))
    (one_kind patches (IsEntry patches) word (codes "got") Got _ (λ p within. (refl, within))
    (one_kind patches (IsEntry patches) word (codes "lost") Lost _ (λ p within. (refl, within))
    (one_kind patches (IsEntry patches) word (codes "fault") Fault _ (λ p within. (refl, within))
    (one_kind patches (IsEntry patches) word (codes "commit") Commit None (λ p within. (refl, within)) tt)))))

outcome_kinds : (patches : ℕ) (word : List ℕ) → WritesKind patches (IsOutcome patches) word (outcome_kind_in word)
outcome_kinds patches word =
    one_kind patches (IsOutcome patches) word (codes "got") Got _ (λ p within. (refl, within))
    (one_kind patches (IsOutcome patches) word (codes "fault") Fault None (λ p within. (refl, within)) tt)

module _ (patches : ℕ) (some : 1 ≤ patches) (few : patches ≤ 10 ^ 19) where
  patch_is : (word : List ℕ) (p : ℕ) → patch_in patches word ≡ Some p → (word ≡ decimal p) × (p < patches)
  patch_is word p is = (patch_spells patches some few).sound word p is

  patch_written : (p : ℕ) → p < patches → patch_in patches (decimal p) ≡ Some p
  patch_written p within = (patch_spells patches some few).complete p within

  patch_plain : (p : ℕ) → p < patches → IsPlain (decimal p)
  patch_plain p within = decimal_plain p (omega arith)

  module _ (kind : List ℕ → Option (ℕ → Turn)) (Allowed : Turn → Type 0)
      (writes : (word : List ℕ) → WritesKind patches Allowed word (kind word))
      (changes : (p : ℕ) (fault : FileFault) → p < patches → FitsFault fault → Allowed (Changed p fault)) where
    plain_cases : (a b : List ℕ) (turn : Turn) (k : Option (ℕ → Turn)) (n : Option ℕ) → WritesKind patches Allowed a k
        → patch_in patches b ≡ n → option_and_then (λ of_patch. option_map of_patch n) k ≡ Some turn
        → (a ∷ b ∷ [] ≡ turn_words turn) × Allowed turn
    plain_cases a b turn None n writing is spelt = absurd (cc)
    plain_cases a b turn (Some of_patch) None writing is spelt = absurd (cc)
    plain_cases a b turn (Some of_patch) (Some p) writing is spelt =
        let patch = patch_is b p is in
        let written = writing p patch.1 in
        let P : Turn → Type 0 = λ t. (a ∷ b ∷ [] ≡ turn_words t) × Allowed t in
        subst P (same_Some (of_patch p) turn spelt)
        (ap (λ (word : List ℕ). a ∷ word ∷ []) patch.0 ∙ written.0, written.1)

    plain_sound : (words : List (List ℕ)) (turn : Turn) → plain_in patches kind words ≡ Some turn
        → (words ≡ turn_words turn) × Allowed turn
    plain_sound [] turn is = absurd (cc)
    plain_sound (a ∷ []) turn is = absurd (cc)
    plain_sound (a ∷ b ∷ c ∷ rest) turn is = absurd (cc)
    plain_sound (a ∷ b ∷ []) turn is = plain_cases a b turn (kind a) (patch_in patches b) (writes a) refl is

    changed_cases : (a : List ℕ) (rest : List (List ℕ)) (turn : Turn) (n : Option ℕ) (f : Option FileFault)
        → patch_in patches a ≡ n → fault_in rest ≡ f → option_and_then (λ p. option_map (Changed p) f) n ≡ Some turn
        → (codes "changed" ∷ a ∷ rest ≡ turn_words turn) × Allowed turn
    changed_cases a rest turn None f is fault_is spelt = absurd (cc)
    changed_cases a rest turn (Some p) None is fault_is spelt = absurd (cc)
    changed_cases a rest turn (Some p) (Some fault) is fault_is spelt =
        let patch = patch_is a p is in
        let of_fault = fault_spells.sound rest fault fault_is in
        let P : Turn → Type 0 = λ t. (codes "changed" ∷ a ∷ rest ≡ turn_words t) × Allowed t in
        let words : codes "changed" ∷ a ∷ rest ≡ codes "changed" ∷ decimal p ∷ file_fault_words fault =
        ap (λ (word : List ℕ). codes "changed" ∷ word ∷ rest) patch.0
        ∙ ap (λ (others : List (List ℕ)). codes "changed" ∷ decimal p ∷ others) of_fault.0 in
        subst P (same_Some (Changed p fault) turn spelt) (words, changes p fault patch.1 of_fault.1)

    changed_sound : (words : List (List ℕ)) (turn : Turn) → changed_in patches words ≡ Some turn
        → (codes "changed" ∷ words ≡ turn_words turn) × Allowed turn
    changed_sound [] turn is = absurd (cc)
    changed_sound (a ∷ rest) turn is = changed_cases a rest turn (patch_in patches a) (fault_in rest) refl refl is

    pub turn_sound : (words : List (List ℕ)) (turn : Turn) → turn_in patches kind words ≡ Some turn
        → (words ≡ turn_words turn) × Allowed turn
    turn_sound [] turn is = absurd (cc)
    turn_sound (word ∷ words) turn is =
        cond_both (bytes_eq word (codes "changed")) (changed_in patches words) (plain_in patches kind (word ∷ words))
        (λ (o : Option Turn). o ≡ Some turn → (word ∷ words ≡ turn_words turn) × Allowed turn)
        (λ same spelt. let spelt_so = changed_sound words turn spelt in
        (ap (λ (first : List ℕ). first ∷ words) (is_word word (codes "changed") same) ∙ spelt_so.0, spelt_so.1))
        (λ other spelt. plain_sound (word ∷ words) turn spelt)
        is

  changed_written : (kind : List ℕ → Option (ℕ → Turn)) (p : ℕ) (fault : FileFault) → p < patches → FitsFault fault
      → turn_in patches kind (turn_words (Changed p fault)) ≡ Some (Changed p fault)
  changed_written kind p fault within fits =
      ap (option_and_then (λ q. option_map (Changed q) (fault_in (file_fault_words fault)))) (patch_written p within)
      ∙ ap (option_map (Changed p)) (fault_spells.complete fault fits)

  entry_written : (turn : Turn) → IsEntry patches turn → entry_in patches (turn_words turn) ≡ Some turn
  entry_written (Reserve p) within = ap (option_map Reserve) (patch_written p within)
  entry_written (Evict p) within = ap (option_map Evict) (patch_written p within)
  entry_written (Kept p uses) never = absurd never
  entry_written (Got p) within = ap (option_map Got) (patch_written p within)
  entry_written (Lost p) within = ap (option_map Lost) (patch_written p within)
  entry_written (Fault p) within = ap (option_map Fault) (patch_written p within)
  entry_written (Changed p fault) is = changed_written kind_in p fault is.0 is.1
  entry_written (Commit p) within = ap (option_map Commit) (patch_written p within)
  entry_written Idle never = absurd never

  entry_plain : (turn : Turn) → IsEntry patches turn → AllByRecursion IsPlain (turn_words turn)
  entry_plain (Reserve p) within = (refl, (patch_plain p within, tt))
  entry_plain (Evict p) within = (refl, (patch_plain p within, tt))
  entry_plain (Kept p uses) never = absurd never
  entry_plain (Got p) within = (refl, (patch_plain p within, tt))
  entry_plain (Lost p) within = (refl, (patch_plain p within, tt))
  entry_plain (Fault p) within = (refl, (patch_plain p within, tt))
  entry_plain (Changed p fault) is = (refl, (patch_plain p is.0, fault_spells.plain fault is.1))
  entry_plain (Commit p) within = (refl, (patch_plain p within, tt))
  entry_plain Idle never = absurd never

  pub entry_spells : Spells (entry_in patches) turn_words (IsEntry patches)
  entry_spells = record {
    sound = turn_sound kind_in (IsEntry patches) (kinds patches) (λ p fault within fits. (within, fits));
    complete = entry_written;
    plain = entry_plain;
  }

  -- ---- outcomes

  outcome_written : (turn : Turn) → IsOutcome patches turn
      → turn_in patches outcome_kind_in (turn_words turn) ≡ Some turn
  outcome_written (Reserve p) never = absurd never
  outcome_written (Evict p) never = absurd never
  outcome_written (Kept p uses) never = absurd never
  outcome_written (Got p) within = ap (option_map Got) (patch_written p within)
  outcome_written (Lost p) never = absurd never
  outcome_written (Fault p) within = ap (option_map Fault) (patch_written p within)
  outcome_written (Changed p fault) is = changed_written outcome_kind_in p fault is.0 is.1
  outcome_written (Commit p) never = absurd never
  outcome_written Idle never = absurd never

  outcome_plain : (turn : Turn) → IsOutcome patches turn → AllByRecursion IsPlain (turn_words turn)
  outcome_plain (Reserve p) never = absurd never
  outcome_plain (Evict p) never = absurd never
  outcome_plain (Kept p uses) never = absurd never
  outcome_plain (Got p) within = (refl, (patch_plain p within, tt))
  outcome_plain (Lost p) never = absurd never
  outcome_plain (Fault p) within = (refl, (patch_plain p within, tt))
  outcome_plain (Changed p fault) is = (refl, (patch_plain p is.0, fault_spells.plain fault is.1))
  outcome_plain (Commit p) never = absurd never
  outcome_plain Idle never = absurd never

  abbrev tier_words : TierTurn → List (List ℕ)
  tier_words outcome = decimal outcome.tier ∷ turn_words outcome.turn

  tier_cases : (a : List ℕ) (rest : List (List ℕ)) (outcome : TierTurn) (k : Option ℕ) (t : Option Turn)
      → number_in most_32 a ≡ k → turn_in patches outcome_kind_in rest ≡ t
      → option_and_then (λ tier. option_map (turn_at tier) t) k ≡ Some outcome
      → (a ∷ rest ≡ tier_words outcome) × IsTierOutcome patches outcome
  tier_cases a rest outcome None t is turn_is spelt = absurd (cc)
  tier_cases a rest outcome (Some k) None is turn_is spelt = absurd (cc)
  tier_cases a rest outcome (Some k) (Some turn) is turn_is spelt =
      let tier = (number_spells most_32 (omega arith)).sound a k is in
      let of_turn = turn_sound outcome_kind_in (IsOutcome patches) (outcome_kinds patches)
      (λ p fault within fits. (within, fits)) rest turn turn_is in
      let P : TierTurn → Type 0 = λ o. (a ∷ rest ≡ tier_words o) × IsTierOutcome patches o in
      let words : a ∷ rest ≡ decimal k ∷ turn_words turn = ap (λ (word : List ℕ). word ∷ rest) tier.0
      ∙ ap (λ (others : List (List ℕ)). decimal k ∷ others) of_turn.0 in
      subst P (same_Some (turn_at k turn) outcome spelt) (words, record { tier = tier.1; turn = of_turn.1 })

  tier_sound : (words : List (List ℕ)) (outcome : TierTurn) → tier_turn_in patches words ≡ Some outcome
      → (words ≡ tier_words outcome) × IsTierOutcome patches outcome
  tier_sound [] outcome is = absurd (cc)
  tier_sound (a ∷ rest) outcome is = tier_cases a rest outcome (number_in most_32 a)
      (turn_in patches outcome_kind_in rest) refl refl is

  tier_spells : Spells (tier_turn_in patches) tier_words (IsTierOutcome patches)
  tier_spells = record {
    sound = tier_sound;
    complete = λ outcome is. ap
        (option_and_then
        (λ tier. option_map (turn_at tier) (turn_in patches outcome_kind_in (turn_words outcome.turn))))
        ((number_spells most_32 (omega arith)).complete outcome.tier is.tier)
        ∙ ap (option_map (turn_at outcome.tier)) (outcome_written outcome.turn is.turn);
    plain = λ outcome is. let tier = is.tier in
        (decimal_plain outcome.tier (omega arith), outcome_plain outcome.turn is.turn);
  }

  pub outcome_spells : Spells (outcome_in patches) outcome_words (IsTierOutcome patches)
  outcome_spells = behind_spells (codes "turn") (tier_turn_in patches) tier_words
      (IsTierOutcome patches) tier_spells refl
