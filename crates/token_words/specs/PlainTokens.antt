-- What the plain words say of a patch. A patch that has no word has epoch 0 and no uses.
use Rattle.std.specs.Prelude.{◌≡◌, ℕ, Bool, true, false, List, length, Option, Some, None, slice_get, slice_index, vec_len, if◌then◌else◌, nat_eq}
use Rattle.std.specs.List.{list_any}
use Rattle.std.specs.Option.{option_map_or}
use Rattle.token_words.specs.Sessions.{has_session}
use Rattle.token_words.specs.declared.entries.Entry.{Entry}
use Rattle.token_words.specs.declared.entries.Word.{Word}
use Rattle.token_words.specs.declared.plain_words.PlainPass.{PlainPass}
use Rattle.token_words.specs.declared.plain_words.PlainTokens.{PlainTokens}

-- how many patches have a word
abbrev pub patch_count : PlainTokens → ℕ
patch_count tokens = vec_len tokens.entries

-- the words as a list by patch
abbrev pub words_seen : PlainTokens → List Entry
words_seen tokens = tokens.entries.items

-- in such a list: the epoch of a patch
abbrev pub epoch_in : List Entry → ℕ → ℕ
epoch_in words patch = option_map_or (λ entry. entry.word.epoch) (slice_get words patch) 0

-- whether a patch is pinned
abbrev pub is_pinned_in : List Entry → ℕ → Bool
is_pinned_in words patch = option_map_or (λ entry. entry.word.is_pinned) (slice_get words patch) false

-- whether a session uses a patch
abbrev pub is_user_in : List Entry → ℕ → ℕ → Bool
is_user_in words session patch = option_map_or (λ entry. has_session entry.users.mask session) (slice_get words patch) false

-- whether a session has a patch locked
abbrev pub is_locker_in : List Entry → ℕ → ℕ → Bool
is_locker_in words session patch = option_map_or (λ entry. has_session entry.lockers.mask session) (slice_get words patch) false

-- the same of the plain words
abbrev pub epoch_of : PlainTokens → ℕ → ℕ
epoch_of tokens = epoch_in (words_seen tokens)

abbrev pub is_pinned : PlainTokens → ℕ → Bool
is_pinned tokens = is_pinned_in (words_seen tokens)

abbrev pub is_user : PlainTokens → ℕ → ℕ → Bool
is_user tokens = is_user_in (words_seen tokens)

abbrev pub is_locker : PlainTokens → ℕ → ℕ → Bool
is_locker tokens = is_locker_in (words_seen tokens)

-- the session of a pass
abbrev pub session_of : PlainPass → ℕ
session_of pass = pass.session

-- no session uses a patch
pub record IsUnused (tokens : PlainTokens) : Type 0 where
  pub users : (session patch : ℕ) → is_user tokens session patch ≡ false
  pub lockers : (session patch : ℕ) → is_locker tokens session patch ≡ false

-- these base patches are pinned and have epoch 1, all others have epoch 0
pub record IsStart (count : ℕ) (base : List ℕ) (tokens : PlainTokens) : Type 0 where
  pub patches : patch_count tokens ≡ count
  pub epochs : (patch : ℕ) → epoch_of tokens patch ≡ (if list_any (nat_eq patch) base then 1 else 0)
  pub pins : (patch : ℕ) → is_pinned tokens patch ≡ list_any (nat_eq patch) base
  pub unused : IsUnused tokens

-- these words, which no session uses
pub record HasWords (words : List Word) (tokens : PlainTokens) : Type 0 where
  pub patches : patch_count tokens ≡ length words
  pub epochs : (patch : ℕ) → epoch_of tokens patch ≡ option_map_or (λ word. word.epoch) (slice_get words patch) 0
  pub pins : (patch : ℕ) → is_pinned tokens patch ≡ option_map_or (λ word. word.is_pinned) (slice_get words patch) false
  pub unused : IsUnused tokens

-- these epochs, one for each patch, and base patches that are pinned; no session uses a patch
pub record HasEpochs (epochs base : List ℕ) (tokens : PlainTokens) : Type 0 where
  pub patches : patch_count tokens ≡ length epochs
  pub epochs_are : (patch : ℕ) → epoch_of tokens patch ≡ slice_index epochs patch
  pub pins : (patch : ℕ) → is_pinned tokens patch ≡ list_any (nat_eq patch) base
  pub unused : IsUnused tokens

locked_is_used : (entry : Option Entry) (session : ℕ)
    → option_map_or (λ entry. has_session entry.lockers.mask session) entry false ≡ true
    → option_map_or (λ entry. has_session entry.users.mask session) entry false ≡ true
locked_is_used None session locked = locked
locked_is_used (Some entry) session locked = entry.locked_is_used session locked

-- who has a patch locked uses it
pub is_user-of_locker : (tokens : PlainTokens) (session patch : ℕ)
    → is_locker tokens session patch ≡ true → is_user tokens session patch ≡ true
is_user-of_locker tokens session patch = locked_is_used (slice_get tokens.entries.items patch) session
