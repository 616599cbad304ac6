-- From tiers at rest a run goes on.
use Rattle.std.proofs.Common.{ℕ, List, refl, arith}
use Rattle.tier_model.specs.Tiers.{TierState}
use Rattle.run_model.specs.Worlds.{World, IsWorld}
use Rattle.run_model.specs.Kept.{TakeWishes, ArePosted}
use Rattle.run_laws.specs.Sound.{IsSound, sound_safe}
use Rattle.resumed_model.specs.Resting.{resting, AreResting, GoesOn}

module _ (w : World) (tiers : List TierState) (epochs : ℕ → ℕ) (are : AreResting w tiers epochs) where
  pub resting_sound : IsSound w (resting tiers epochs)
  unfolding resting
  resting_sound = record {
    many = are.many;
    tiers = are.each;
    tied = are.tied;
    no_pins = are.no_pins;
    base_odd = are.base_odd;
    seats = λ i s at. absurd (cc);
    sets = λ i p. refl;
  }

  resting_takes : TakeWishes w (resting tiers epochs)
  unfolding resting
  resting_takes = record {
    versions = λ k t at. let is = are.versions k t at in omega arith;
    wishes = are.wishes;
  }

  resting_posted : ArePosted w (resting tiers epochs)
  unfolding resting
  resting_posted = record { each = λ i. refl }

  pub resting_goes_on : IsWorld w → GoesOn w (resting tiers epochs)
  resting_goes_on world = record {
    safe = sound_safe w (resting tiers epochs) world resting_sound;
    kept = record { wishes = resting_takes; posted = resting_posted };
  }
