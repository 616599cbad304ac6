-- The rules of a round as they are kept.
use Rattle.std.proofs.Common.{◌≡◌, ℕ, List, length, ◌∙◌, ap, subst, sym}
use Rattle.mesh_model.specs.Meshes.{MeshLists, IsMesh}
use Rattle.round_model.specs.Order.{Rules}
use Rattle.round_laws.specs.Parents.{FallsAlong}
use Rattle.round_model.specs.Views.{rules_of}
use Rattle.cut_refiner.specs.RoundRules.{AreRules}

abbrev kept_rules : MeshLists → List ℕ → ℕ → ℕ → Rules
kept_rules mesh scores threshold limit = record { mesh = mesh; scores = scores; threshold = threshold; limit = limit }

pub rules_are : (mesh : MeshLists) (kept scores : List ℕ) (at least limit : ℕ) → kept ≡ scores → at ≡ least → kept_rules mesh kept at limit ≡ rules_of mesh scores least limit
unfolding rules_of
rules_are mesh kept scores at least limit same same' = λ i. record { mesh = mesh; scores = same i; threshold = same' i; limit = limit }

pub are_rules : (mesh : MeshLists) (kept scores : List ℕ) (at least limit : ℕ) → IsMesh mesh → kept ≡ scores → at ≡ least → length scores ≡ length mesh.index.nodes → FallsAlong (rules_of mesh scores least limit) → AreRules (kept_rules mesh kept at limit)
are_rules mesh kept scores at least limit is same same' many falls = record {
  mesh = is;
  falls = subst FallsAlong (sym (rules_are mesh kept scores at least limit same same')) falls;
  as_many = ap length same ∙ many;
}
