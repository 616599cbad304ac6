-- How what is known of each patch, or of each session and patch, changes in a call.
use Rattle.std.specs.Prelude.{◌≡◌, ◌≢◌, ℕ, Bool}

-- one patch gets a value, and each other patch keeps its own
pub record SetAt {A : Type 0} (before : ℕ → A) (patch : ℕ) (value : A) (after : ℕ → A) : Type 0 where
  pub here : after patch ≡ value
  pub others : (p : ℕ) → p ≢ patch → after p ≡ before p

-- each patch keeps its value
abbrev pub Stays : {A : Type 0} → (ℕ → A) → (ℕ → A) → Type 0
Stays before after = (p : ℕ) → after p ≡ before p

-- each session but this one keeps its set of patches
abbrev pub ChangesOnly : ℕ → (ℕ → ℕ → Bool) → (ℕ → ℕ → Bool) → Type 0
ChangesOnly session before after = (s : ℕ) → s ≢ session → (p : ℕ) → after s p ≡ before s p

-- each session keeps its set of patches
abbrev pub SetsStay : (ℕ → ℕ → Bool) → (ℕ → ℕ → Bool) → Type 0
SetsStay before after = (s p : ℕ) → after s p ≡ before s p
