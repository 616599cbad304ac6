-- What a turn keeps of a tier: its set-up, and the wishes that it took of a board.
use Rattle.std.specs.Prelude.{◌≡◌, ℕ, ◌<◌}
use Rattle.tier_model.specs.Tiers.{TierState, count, kept_wish}
use Rattle.tier_model.specs.Turns.{Board}

-- budget, width, version, sizes, wishes, base patches and pins are the same
pub record IsAlike (s t : TierState) : Type 0 where
  pub budget : t.budget ≡ s.budget
  pub width : t.width ≡ s.width
  pub version : t.version ≡ s.version
  pub sizes : t.sizes ≡ s.sizes
  pub wishes : t.wishes ≡ s.wishes
  pub base : t.base ≡ s.base
  pub pinned : t.pinned ≡ s.pinned

-- budget, width, sizes, base patches, pins, bodies, coming patches and journal are the same
pub record HasSamePlaces (s t : TierState) : Type 0 where
  pub budget : t.budget ≡ s.budget
  pub width : t.width ≡ s.width
  pub sizes : t.sizes ≡ s.sizes
  pub base : t.base ≡ s.base
  pub pinned : t.pinned ≡ s.pinned
  pub held : t.held ≡ s.held
  pub came : t.came ≡ s.came
  pub coming : t.coming ≡ s.coming
  pub journal : t.journal ≡ s.journal

-- where the tier keeps the board's version, it keeps the board's wishes
pub record KeepsWishes (board : Board) (s : TierState) : Type 0 where
  pub wishes : board.version ≡ s.version → (p : ℕ) → p < count s → kept_wish s p ≡ board.wish p

-- the turn keeps what the tier was made with
pub record KeepsSetup (s t : TierState) : Type 0 where
  pub budget : t.budget ≡ s.budget
  pub width : t.width ≡ s.width
  pub sizes : t.sizes ≡ s.sizes
  pub base : t.base ≡ s.base
  pub pinned : t.pinned ≡ s.pinned
