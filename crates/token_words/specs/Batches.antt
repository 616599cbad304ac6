-- What several calls do to the patches that a pass uses or has locked.
use Rattle.std.specs.Prelude.{◌≡◌, ℕ, Bool, not, ◌&&◌, ◌||◌, List, nat_eq}
use Rattle.std.specs.List.{list_any}

-- these patches join a set
abbrev pub Gains : (ℕ → Bool) → List ℕ → (ℕ → Bool) → Type 0
Gains before patches after = (p : ℕ) → after p ≡ (before p || list_any (nat_eq p) patches)

-- these patches leave a set
abbrev pub Loses : (ℕ → Bool) → List ℕ → (ℕ → Bool) → Type 0
Loses before patches after = (p : ℕ) → after p ≡ (before p && not (list_any (nat_eq p) patches))
