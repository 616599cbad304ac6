-- The plain words that a table leaves.
use Rattle.std.proofs.Common.{◌≡◌, ℕ, ◌+◌, ◌*◌, ◌<◌, ◌≤◌, true, false, not, List, length, get_or, refl, sym, ap, ◌∙◌, arith, Option, None, Result, Ok, Err, nat_eq, IfOk}
use Rattle.std.specs.List.{slice_get}
use Rattle.std.specs.Option.{option_map_or}
use Rattle.std.proofs.Math.ListN.{get_or-eq_default}
use Rattle.std.proofs.lemmas.Option.{slice_get_past}
use mathlib.Core.Logic.{dite}
use native.Mathlib.Decide.{ℕ_discrete, dec_le}
use Rattle.file_model.specs.Tries.{is_odd}
use Rattle.token_words.specs.declared.entries.Word.{Word}
use Rattle.token_words.specs.declared.plain_words.PlainTokens.{PlainTokens}
use Rattle.token_words.specs.PlainTokens.{HasWords}
use Rattle.token_table.specs.declared.knowledge.Desk.{Desk}
use Rattle.token_table.specs.Known.{IsDesk}
use Rattle.token_table.specs.Closings.{HasDesk, AreRead}
use Rattle.token_table.proofs.Sets.{nat_eq-same, nat_eq-other}

-- a word is more than its epoch's exactly where it has its pin
pinned_word : (epoch pins word : ℕ) → pins ≤ 1 → word ≡ epoch * 4294967296 + pins → not (nat_eq word (epoch * 4294967296)) ≡ nat_eq pins 1
pinned_word epoch pins word most is = dite (ℕ_discrete pins 1)
    (λ pin. rw (nat_eq-other word (epoch * 4294967296) (λ e. omega arith), pin) refl)
    (λ other.
    let here : word ≡ epoch * 4294967296 = omega arith in
    let unpinned : pins ≡ 0 = omega arith in
    rw (here, nat_eq-same (epoch * 4294967296), unpinned) refl)

module _ (desk : Desk) (numbers : List ℕ) (words : List Word) (fits : IsDesk desk) (read : AreRead desk.epochs numbers words)
    (are : (p : ℕ) → p < length desk.epochs → get_or numbers p 0 ≡ get_or desk.epochs p 0 * 4294967296 + get_or desk.pins p 0) where
  past : (p : ℕ) → length desk.epochs ≤ p → slice_get words p ≡ None
  past p beyond = slice_get_past words p (let many = read.many in omega arith)

  no_epoch : (p : ℕ) → length desk.epochs ≤ p → get_or desk.epochs p 0 ≡ 0
  no_epoch p beyond = get_or-eq_default desk.epochs 0 beyond

  no_pin : (p : ℕ) → length desk.epochs ≤ p → nat_eq (get_or desk.pins p 0) 1 ≡ false
  no_pin p beyond = dite (ℕ_discrete (get_or desk.pins p 0) 1)
      (λ pin. absurd (let odd : is_odd 0 ≡ true = ap is_odd (sym (no_epoch p beyond)) ∙ fits.pinned p pin in cc))
      (λ other. nat_eq-other (get_or desk.pins p 0) 1 other)

  plain : (tokens : PlainTokens) → HasWords words tokens → HasDesk desk tokens
  plain tokens has = record {
    patches = has.patches ∙ read.many;
    epochs = λ p. has.epochs p ∙ dite (dec_le (length desk.epochs) p)
        (λ beyond. ap (λ (w : Option Word). option_map_or (λ word. word.epoch) w 0) (past p beyond) ∙ sym (no_epoch p beyond))
        (λ within. read.epoch_is p (omega arith));
    pins = λ p. has.pins p ∙ dite (dec_le (length desk.epochs) p)
        (λ beyond. ap (λ (w : Option Word). option_map_or (λ word. word.is_pinned) w false) (past p beyond) ∙ sym (no_pin p beyond))
        (λ within. read.pin_is p (omega arith) ∙ pinned_word (get_or desk.epochs p 0) (get_or desk.pins p 0) (get_or numbers p 0) (fits.pins p) (are p (omega arith)));
    unused = has.unused;
  }

  pub plain_result : {E : Type 0} (result : Result PlainTokens E) → IfOk result (HasWords words) → IfOk result (HasDesk desk)
  plain_result (Ok tokens) has = plain tokens has
  plain_result (Err e) has = tt
