-- What is read of one entry of a list that changes.
use Rattle.std.proofs.Common.{◌≡◌, ◌∙◌, ℕ, zero, suc, ◌+◌, ◌<◌, ◌≤◌, ◌⊎◌, inl, inr, ◌||◌, Bool, false, nat_lt, List, [], ◌∷◌, ◌++◌, length, map, take, get_or, set, Option, Some, None, refl, sym, ap, arith}
use Rattle.std.specs.Prelude.{slice_get}
use Rattle.std.specs.Option.{option_map_or}
use Rattle.std.proofs.lemmas.List.{take_more, take_all, map-append, length-map}
use Rattle.std.proofs.lemmas.Option.{slice_get_read}
use Rattle.token_words.specs.Sessions.{has_session, session_count, session_count-none}
use Rattle.token_words.specs.declared.entries.Entry.{Entry}
use Rattle.token_words.specs.declared.session_sets.SessionSet.{SessionSet}
use Rattle.token_words.specs.declared.plain_words.PlainTokens.{PlainTokens}
use Rattle.token_words.specs.PlainTokens.{words_seen, is_pinned_in, is_user_in, is_locker_in, HasEpochs}

-- one entry more
read_pushed : {A : Type 0} (f : Entry → A) (d : A) (entries : List Entry) (e : Entry) (p : ℕ)
    → (option_map_or f (slice_get (entries ++ e ∷ []) p) d ≡ option_map_or f (slice_get entries p) d) ⊎ (option_map_or f (slice_get (entries ++ e ∷ []) p) d ≡ f e)
read_pushed f d [] e zero = inr refl
read_pushed f d [] e (suc p) = inl refl
read_pushed f d (x ∷ xs) e zero = inl refl
read_pushed f d (x ∷ xs) e (suc p) = read_pushed f d xs e p

none_pushed : (f : Entry → Bool) (entries : List Entry) (e : Entry) → f e ≡ false → ((p : ℕ) → option_map_or f (slice_get entries p) false ≡ false) → (p : ℕ) → option_map_or f (slice_get (entries ++ e ∷ []) p) false ≡ false
none_pushed f entries e here before p =
    elim (read_pushed f false entries e p) [
      | inl same ↦ same ∙ before p
      | inr is ↦ is ∙ here
    ]

-- an entry in place of one of which the same is read
read_set : {A : Type 0} (f : Entry → A) (d : A) (entries : List Entry) (i : ℕ) (e : Entry) (p : ℕ) → option_map_or f (slice_get entries i) (f e) ≡ f e → option_map_or f (slice_get (set entries i e) p) d ≡ option_map_or f (slice_get entries p) d
read_set f d [] i e p same = refl
read_set f d (x ∷ xs) zero e zero same = sym same
read_set f d (x ∷ xs) zero e (suc p) same = refl
read_set f d (x ∷ xs) (suc i) e zero same = refl
read_set f d (x ∷ xs) (suc i) e (suc p) same = read_set f d xs i e p same

-- the numbers read of all entries
read_map : (f : Entry → ℕ) (entries : List Entry) (p : ℕ) → option_map_or f (slice_get entries p) 0 ≡ get_or (map f entries) p 0
read_map f [] p = refl
read_map f (x ∷ xs) zero = refl
read_map f (x ∷ xs) (suc p) = read_map f xs p

-- words with the first of these epochs, none pinned and none used
pub record AreUnpinned (epochs : List ℕ) (i : ℕ) (entries : List Entry) : Type 0 where
  pub epochs_are : map (λ (entry : Entry). entry.word.epoch) entries ≡ take i epochs
  pub pins : (p : ℕ) → is_pinned_in entries p ≡ false
  pub users : (s p : ℕ) → is_user_in entries s p ≡ false
  pub lockers : (s p : ℕ) → is_locker_in entries s p ≡ false

pub no_entries : (epochs : List ℕ) → AreUnpinned epochs 0 []
no_entries epochs = record { epochs_are = refl; pins = λ p. refl; users = λ s p. refl; lockers = λ s p. refl }

pub unpinned_more : (epochs : List ℕ) (i : ℕ) (entries : List Entry) (e : Entry) (epoch : ℕ) → i < length epochs → epoch ≡ get_or epochs i epoch → e.word.epoch ≡ epoch → e.word.is_pinned ≡ false
    → ((s : ℕ) → has_session e.users.mask s ≡ false) → ((s : ℕ) → has_session e.lockers.mask s ≡ false) → AreUnpinned epochs i entries → AreUnpinned epochs (i + 1) (entries ++ e ∷ [])
unpinned_more epochs i entries e epoch within at is pin users lockers h = record {
  epochs_are =
      map-append (λ (entry : Entry). entry.word.epoch) entries (e ∷ [])
      ∙ ap (λ (front : List ℕ). front ++ e.word.epoch ∷ []) h.epochs_are
      ∙ ap (λ (n : ℕ). take i epochs ++ n ∷ []) (is ∙ at)
      ∙ sym (take_more epochs i epoch within);
  pins = none_pushed (λ (entry : Entry). entry.word.is_pinned) entries e pin h.pins;
  users = λ s. none_pushed (λ (entry : Entry). has_session entry.users.mask s) entries e (users s) (h.users s);
  lockers = λ s. none_pushed (λ (entry : Entry). has_session entry.lockers.mask s) entries e (lockers s) (h.lockers s);
}

pub unpinned_all : (epochs : List ℕ) (i : ℕ) (tokens : PlainTokens) → length epochs ≤ i → AreUnpinned epochs i (words_seen tokens) → HasEpochs epochs [] tokens
unpinned_all epochs i tokens all h =
    let same : map (λ (entry : Entry). entry.word.epoch) (words_seen tokens) ≡ epochs = h.epochs_are ∙ take_all i epochs all in
    record {
      patches = omega (arith, tokens.entries.ok.0, length-map (words_seen tokens) (λ (entry : Entry). entry.word.epoch), ap length same);
      epochs_are = λ p. read_map (λ (entry : Entry). entry.word.epoch) (words_seen tokens) p ∙ ap (λ (ns : List ℕ). get_or ns p 0) same;
      pins = h.pins;
      unused = record { users = h.users; lockers = h.lockers };
    }

-- an entry with the same users and lockers in place of one
pub still_unused : (entries : List Entry) (i : ℕ) (before after : Entry) → i < length entries → before ≡ get_or entries i before → after.users ≡ before.users → after.lockers ≡ before.lockers
    → ((s p : ℕ) → is_user_in entries s p ≡ false) × ((s p : ℕ) → is_locker_in entries s p ≡ false)
    → ((s p : ℕ) → is_user_in (set entries i after) s p ≡ false) × ((s p : ℕ) → is_locker_in (set entries i after) s p ≡ false)
still_unused entries i before after within at users lockers h =
    let here : slice_get entries i ≡ Some before = slice_get_read entries (length entries) i before refl within at in (
      λ s p. read_set (λ (e : Entry). has_session e.users.mask s) false entries i after p
          (ap (λ (o : Option Entry). option_map_or (λ (e : Entry). has_session e.users.mask s) o (has_session after.users.mask s)) here ∙ ap (λ (set : SessionSet). has_session set.mask s) (sym users))
          ∙ h.0 s p,
      λ s p. read_set (λ (e : Entry). has_session e.lockers.mask s) false entries i after p
          (ap (λ (o : Option Entry). option_map_or (λ (e : Entry). has_session e.lockers.mask s) o (has_session after.lockers.mask s)) here ∙ ap (λ (set : SessionSet). has_session set.mask s) (sym lockers))
          ∙ h.1 s p,
    )

-- a patch without a word
pub none_fast : (entries : List Entry) (p : ℕ) → slice_get entries p ≡ None → false ≡ (is_pinned_in entries p || nat_lt 0 (session_count (λ (s : ℕ). is_locker_in entries s p)))
none_fast entries p none =
    let Fast : Option Entry → Bool = λ o. option_map_or (λ (e : Entry). e.word.is_pinned) o false || nat_lt 0 (session_count (λ (s : ℕ). option_map_or (λ (e : Entry). has_session e.lockers.mask s) o false)) in
    let count : session_count (λ (s : ℕ). false) ≡ 0 = session_count-none (λ (s : ℕ). false) (λ s is. refl) in
    sym (ap Fast none ∙ ap (λ (n : ℕ). nat_lt 0 n) count)
