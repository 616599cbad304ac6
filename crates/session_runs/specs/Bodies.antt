-- Bodies of a run's file, as a session collects them from the top tier.
use Rattle.std.proofs.Common.{◌≡◌, ◌⊎◌, ℕ, ◌+◌, ◌<◌, true, List, [], ◌∷◌, ◌++◌, length, take, get_or, refl, sym, ap, subst, ◌∙◌, arith}
use Rattle.std.specs.List.{AllZip}
use Rattle.std.proofs.lemmas.List.{take_more, append_assoc, append-nil}
use Rattle.std.proofs.lemmas.Slice.Zip.{all_zipped_more}
use Rattle.file_model.specs.Lists.{SeenBody}
use Rattle.tier_model.specs.Places.{is_marked}
use Rattle.tier_model.specs.Tiers.{TierState, is_held, base_marks}
use Rattle.cache_chain.specs.ChainStates.{IsFileBody}
use Rattle.token_table.specs.declared.knowledge.Own.{Own}
use Rattle.token_table.specs.Known.{has}
use Rattle.token_table.specs.Setups.{Setup}

-- a list of bodies, and for how many more there is room
pub record BodiesSeen : Type 0 where
  pub bodies : List SeenBody
  pub spare : ℕ

-- the body is the patch's in the file that the run began with
abbrev pub IsSetupBody : Setup → ℕ → SeenBody → Type 0
IsSetupBody setup p body = IsFileBody setup.mesh setup.bytes p body

-- the patch may be collected: it is a base patch, or the session has it locked
pub record IsShared (setup : Setup) (own : Own) (p : ℕ) : Type 0 where
  pub within : p < length setup.mesh.fields
  pub there : (is_marked (base_marks setup.mesh.fields) p ≡ true) ⊎ (has own.locks p ≡ true)

-- the tier holds the patch
pub record IsAtHand (setup : Setup) (s : TierState) (p : ℕ) : Type 0 where
  pub within : p < length setup.mesh.fields
  pub held : is_held s p ≡ true

-- one body more
pub record AddsOne (body : SeenBody) (before after : BodiesSeen) : Type 0 where
  pub bodies : after.bodies ≡ before.bodies ++ body ∷ []
  pub spare : after.spare + 1 ≡ before.spare

-- the bodies of these patches more, one for each
pub record AddsBodies (setup : Setup) (patches : List ℕ) (before after : BodiesSeen) : Type 0 where
  pub more : List SeenBody
  pub are : AllZip (IsSetupBody setup) patches more
  pub bodies : after.bodies ≡ before.bodies ++ more
  pub spare : after.spare + length patches ≡ before.spare

-- those of the first of the patches
pub record AddsSome (setup : Setup) (patches : List ℕ) (before after : BodiesSeen) : Type 0 where
  pub count : ℕ
  pub adds : AddsBodies setup (take count patches) before after

pub none_added : (setup : Setup) (before : BodiesSeen) → AddsBodies setup [] before before
none_added setup before = record { more = []; are = tt; bodies = sym (append-nil before.bodies); spare = omega arith }

pub one_added : (setup : Setup) (patches : List ℕ) (i d : ℕ) (body : SeenBody) (before mid after : BodiesSeen) → i < length patches → AddsBodies setup (take i patches) before mid → IsSetupBody setup (get_or patches i d) body → AddsOne body mid after
    → AddsBodies setup (take (i + 1) patches) before after
one_added setup patches i d body before mid after within adds is one =
    let taken : take (i + 1) patches ≡ take i patches ++ get_or patches i d ∷ [] = take_more patches i d within in
    let long = length-more (take i patches) (get_or patches i d) in
    let front = adds.spare in
    let last = one.spare in
    subst (λ (ps : List ℕ). AddsBodies setup ps before after) (sym taken) (record {
      more = adds.more ++ body ∷ [];
      are = all_zipped_more (IsSetupBody setup) (take i patches) adds.more (get_or patches i d) body adds.are is;
      bodies = one.bodies ∙ ap (λ (bs : List SeenBody). bs ++ body ∷ []) adds.bodies ∙ append_assoc before.bodies adds.more (body ∷ []);
      spare = omega (arith, long, front, last);
    })
  where
    length-more : (ps : List ℕ) (p : ℕ) → length (ps ++ p ∷ []) ≡ length ps + 1
    length-more [] p = refl
    length-more (q ∷ ps) p = let rest = length-more ps p in omega (arith, rest)
