-- How the words follow a turn.
use Rattle.std.proofs.Common.{◌≡◌, ℕ, ◌+◌, Bool, true, false, refl, sym, subst, ◌∙◌, inl, inr}
use Rattle.std.proofs.lemmas.Bool.{cases_eq}
use Rattle.token_words.specs.Changes.{SetAt, Stays}
use Rattle.file_model.specs.Tries.{is_odd}
use Rattle.tier_model.specs.declared.turns.Turn.TheVariants.{Reserve, Evict, Kept, Commit, Idle}
use Rattle.tier_model.specs.Places.{is_coming}
use Rattle.tier_model.specs.Tiers.{TierState, IsTier}
use Rattle.tier_model.specs.Ties.{risen, epochs_after, IsTied}
use Rattle.tier_laws.specs.TieLaws.{risen_here, risen_other}
use Rattle.tier_laws.specs.BodyLaws.{away_not_there}
use Rattle.tier_laws.specs.TierLaws.{comes_within}
use Rattle.transfer_step.specs.TurnWords.{TurnsEpochs}

risen_is : (v : ℕ) (before after : ℕ → ℕ) → SetAt before v (before v + 1) after → (p : ℕ) → after p ≡ risen v before p
risen_is v before after set p =
    elim (cases_eq p v) [
      | inl same ↦ subst (λ (n : ℕ). after n ≡ risen v before n) (sym same) (set.here ∙ sym (risen_here v before))
      | inr ne ↦ set.others p ne ∙ sym (risen_other v before p ne)
    ]

-- a value that is set to itself stays
stays_is : (v : ℕ) (before after : ℕ → ℕ) → SetAt before v (before v) after → (p : ℕ) → after p ≡ before p
stays_is v before after set p =
    elim (cases_eq p v) [
      | inl same ↦ subst (λ (n : ℕ). after n ≡ before n) (sym same) set.here
      | inr ne ↦ set.others p ne
    ]

pub gone_epochs : (has : Bool) (v : ℕ) (before after : ℕ → ℕ) → (has ≡ true → SetAt before v (before v + 1) after) → (has ≡ false → Stays before after) → TurnsEpochs has (Evict v) before after
unfolding epochs_after
gone_epochs true v before after set stays = risen_is v before after (set refl)
gone_epochs false v before after set stays = stays refl

pub kept_epochs : (has : Bool) (v uses : ℕ) (before after : ℕ → ℕ) → (has ≡ true → SetAt before v (before v) after) → (has ≡ false → Stays before after) → TurnsEpochs has (Kept v uses) before after
unfolding epochs_after
kept_epochs true v uses before after set stays = stays_is v before after (set refl)
kept_epochs false v uses before after set stays = stays refl

pub come_epochs : (has : Bool) (v : ℕ) (before after : ℕ → ℕ) → (has ≡ true → SetAt before v (before v + 1) after) → (has ≡ false → Stays before after) → TurnsEpochs has (Commit v) before after
unfolding epochs_after
come_epochs true v before after set stays = risen_is v before after (set refl)
come_epochs false v before after set stays = stays refl

pub reserve_epochs : (has : Bool) (p : ℕ) (epochs : ℕ → ℕ) → TurnsEpochs has (Reserve p) epochs epochs
unfolding epochs_after
reserve_epochs true p epochs = λ q. refl
reserve_epochs false p epochs = λ q. refl

pub idle_epochs : (has : Bool) (epochs : ℕ → ℕ) → TurnsEpochs has Idle epochs epochs
unfolding epochs_after
idle_epochs true epochs = λ p. refl
idle_epochs false epochs = λ p. refl

-- the epoch of a patch that comes is even
pub coming_is_even : (s : TierState) (epochs : ℕ → ℕ) (pinned : ℕ → Bool) (p : ℕ) → IsTier s → IsTied s epochs pinned → is_coming s.coming p ≡ true → is_odd (epochs p) ≡ false
coming_is_even s epochs pinned p tier tied comes =
    tied.held p (comes_within s p tier comes) ∙ away_not_there s.held p (tier.coming.away p comes)
