-- Turns of a chain, one after the other, each with what it did to the words and to the store.
use Rattle.std.specs.Prelude.{◌≡◌, ℕ, suc, ◌≤◌, ◌⊎◌, Bool, true, false, List, [], ◌∷◌, ◌++◌, Option, Some, None, slice_get}
use Rattle.file_model.specs.Lists.{IndexLists}
use Rattle.view_outside.specs.Faults.{Rose}
use Rattle.view_outside.specs.Taken.{RisesAtMost}
use Rattle.token_words.specs.Changes.{Stays, SetsStay}
use Rattle.tier_model.specs.declared.turns.Turn.{Turn}
use Rattle.tier_model.specs.Tiers.{TierState, body_at}
use Rattle.tier_model.specs.Answers.{IfGot, IfLost, IfFault, IfChanged, IfEvict, IfKept}
use Rattle.tier_model.specs.Turns.{Board}
use Rattle.tier_model.specs.Chains.{Chain, has_below}
use Rattle.tier_model.specs.Settling.{TurnsAt}
use Rattle.transfer_step.specs.TurnWords.{TurnTakes, misses_in, next_size}
use Rattle.cache_chain.specs.ChainStates.{IsFileBody, FindsChanged}
use Rattle.cache_chain.specs.Turning.{chain_of, AtLowest, GivesBelow, TakesWishes}
use Rattle.cache_chain.specs.WordTurns.{WordsSeen, uses_of}

-- what stays over turns: the wishes, what the keeper tells, the index, and the file's bytes where they are told
pub record Setting : Type 0 where
  pub board : Board
  pub tells_sets : Bool
  pub tells_misses : Bool
  pub index : IndexLists
  pub bytes : Option (List ℕ)

abbrev pub setting_of : Board → Bool → Bool → IndexLists → Option (List ℕ) → Setting
setting_of board tells_sets tells_misses index bytes = record { board = board; tells_sets = tells_sets; tells_misses = tells_misses; index = index; bytes = bytes }

-- the tiers and the words at one moment, how often the store has failed, and how many bytes were taken from it
pub record Moment : Type 0 where
  pub tiers : List TierState
  pub words : WordsSeen
  pub faults : ℕ
  pub taken : ℕ

abbrev pub moment_of : List TierState → WordsSeen → ℕ → ℕ → Moment
moment_of tiers words faults taken = record { tiers = tiers; words = words; faults = faults; taken = taken }

abbrev pub chain_at : Moment → Chain
chain_at m = chain_of m.tiers m.words.epochs

-- sets and pins of the words stay
pub record KeepsSets (u : Setting) (a b : WordsSeen) : Type 0 where
  pub pins : Stays a.pinned b.pinned
  pub users : u.tells_sets ≡ true → SetsStay a.users b.users
  pub lockers : u.tells_sets ≡ true → SetsStay a.lockers b.lockers
  pub patches : b.patches ≡ a.patches

-- a turn of tier k
pub record MakesTurn (u : Setting) (k : ℕ) (answer : Turn) (m n : Moment) : Type 0 where
  pub turn : TurnsAt u.board k answer (chain_at m) (chain_at n)
  pub got : IfGot answer (λ p. (s : TierState) → slice_get n.tiers k ≡ Some s → GivesBelow (IsFileBody u.index u.bytes) m.tiers k p (body_at s p))
  pub lost : IfLost answer (λ p. has_below m.tiers k p ≡ false)
  pub fault : IfFault answer (λ _. AtLowest m.tiers k (Rose m.faults n.faults))
  pub changed : IfChanged answer (λ p fault. AtLowest m.tiers k (FindsChanged u.index u.bytes p fault))
  pub taken : slice_get m.tiers (suc k) ≡ None → (s : TierState) → slice_get m.tiers k ≡ Some s → TurnTakes s.sizes answer m.taken n.taken
  pub upper : (t : TierState) → slice_get m.tiers (suc k) ≡ Some t → n.taken ≡ m.taken
  pub later : m.faults ≤ n.faults
  pub free : k ≡ 0 → u.tells_sets ≡ true → IfEvict answer (λ p. uses_of m.words p ≡ 0)
  pub found : u.tells_sets ≡ true → IfKept answer (λ p uses. uses ≡ uses_of m.words p)
  pub misses : u.tells_misses ≡ true → n.words.misses ≡ m.words.misses ++ misses_in answer
  pub sets : KeepsSets u m.words n.words

-- these turns, in their order, each with the number of its tier
pub data MakesTurns (u : Setting) (m : Moment) : List (ℕ × Turn) → Moment → Type 0 where
  Begins : MakesTurns u m [] m
  Then : {made : List (ℕ × Turn)} {n o : Moment} (k : ℕ) (answer : Turn) → MakesTurns u m made n → MakesTurn u k answer n o → MakesTurns u m (made ++ (k, answer) ∷ []) o

-- a turn of tier k was refused memory: the tier took the wishes at most, the words are as they were, and at most the
-- next body of the lowest tier was taken
pub record RefusesTurn (u : Setting) (k : ℕ) (m n : Moment) : Type 0 where
  pub tiers : (n.tiers ≡ m.tiers) ⊎ TakesWishes u.board k m.tiers n.tiers
  pub epochs : Stays m.words.epochs n.words.epochs
  pub misses : u.tells_misses ≡ true → n.words.misses ≡ m.words.misses
  pub sets : KeepsSets u m.words n.words
  pub taken : slice_get m.tiers (suc k) ≡ None → (s : TierState) → slice_get m.tiers k ≡ Some s → RisesAtMost m.taken n.taken (next_size s)
  pub upper : (t : TierState) → slice_get m.tiers (suc k) ≡ Some t → n.taken ≡ m.taken
  pub later : m.faults ≤ n.faults

-- these turns were made, and the next was refused memory
pub record StopsTurns (u : Setting) (m : Moment) (made : List (ℕ × Turn)) (n : Moment) : Type 0 where
  pub last : Moment
  pub tier : ℕ
  pub turns : MakesTurns u m made last
  pub refused : RefusesTurn u tier last n
