-- What plain words are after a table.
use Rattle.std.specs.Prelude.{◌≡◌, ℕ, ◌*◌, ◌<◌, false, not, List, length, slice_get, slice_index, nat_eq}
use Rattle.std.specs.Option.{option_map_or}
use Rattle.token_words.specs.declared.entries.Word.{Word}
use Rattle.token_words.specs.declared.plain_words.PlainTokens.{PlainTokens}
use Rattle.token_words.specs.PlainTokens.{patch_count, epoch_of, is_pinned, IsUnused}
use Rattle.token_table.specs.declared.knowledge.Desk.{Desk}
use Rattle.token_table.specs.Seats as seats

-- the epochs and the pins that the keeper knew, which no session uses
pub record HasDesk (desk : Desk) (tokens : PlainTokens) : Type 0 where
  pub patches : patch_count tokens ≡ length desk.epochs
  pub epochs : (p : ℕ) → epoch_of tokens p ≡ slice_index desk.epochs p
  pub pins : (p : ℕ) → is_pinned tokens p ≡ seats.is_pinned desk p
  pub unused : IsUnused tokens

-- plain words with these epochs, in which a patch is pinned whose word is more than its epoch's
pub record AreRead (epochs numbers : List ℕ) (words : List Word) : Type 0 where
  pub many : length words ≡ length epochs
  pub epoch_is : (p : ℕ) → p < length epochs → option_map_or (λ word. word.epoch) (slice_get words p) 0 ≡ slice_index epochs p
  pub pin_is : (p : ℕ) → p < length epochs
      → option_map_or (λ word. word.is_pinned) (slice_get words p) false ≡ not (nat_eq (slice_index numbers p) (slice_index epochs p * 4294967296))
