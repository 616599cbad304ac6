-- What holds of a round as it goes on.
use Rattle.std.specs.Prelude.{◌≡◌, ℕ, true, false}
use Rattle.mesh_model.specs.Meshes.{IsMesh}
use Rattle.round_model.specs.Refiners.{Refining, round_state}
use Rattle.round_laws.specs.Among.{is_among}
use Rattle.session_model.specs.Locks.{was_granted, leads_from_held}
use Rattle.round_laws.specs.Arcs.{AreApart}

-- the patch was granted, and its node missed
pub record IsOwed (r : Refining) (p : ℕ) : Type 0 where
  pub granted : was_granted r.tries p ≡ true
  pub outside : leads_from_held r.rules.mesh.index.fields (round_state r) p ≡ false

-- a round over an accepted mesh in which each answer was to a try that it asked for
pub record IsRefining (r : Refining) : Type 0 where
  pub mesh : IsMesh r.rules.mesh
  pub tries : (round_state r).tries ≡ r.tries
  pub apart : AreApart r.owed
  pub owed : (p : ℕ) → is_among r.owed p ≡ true → IsOwed r p
