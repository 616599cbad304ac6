-- A settling that was broken off: what was logged so far, and that it goes on from here.
use Rattle.std.proofs.Common.{◌≡◌, ◌≢◌, ℕ, suc, ◌*◌, ◌≤◌, List, [], ◌∷◌, ◌++◌, length, Some, refl, sym, ap, subst, ◌∙◌, arith, append_assoc, append-nil}
use Rattle.std.specs.Prelude.{slice_get}
use Rattle.std.proofs.lemmas.List.{length_push}
use Rattle.std.proofs.lemmas.Option.{same_Some}
use Rattle.tier_model.specs.declared.turns.Turn.{Turn}
use Rattle.tier_model.specs.declared.turns.Turn.TheVariants.{Idle}
use Rattle.tier_model.specs.Tiers.{TierState, count, IsTier}
use Rattle.tier_model.specs.Turns.{Board, begun}
use Rattle.tier_model.specs.Chains.{Chain, told_at}
use Rattle.tier_model.specs.Settling.{TurnsAt, TurnsToIdle, Last, More, Settles, Settled, Tier}
use Rattle.tier_laws.specs.TurnLaws.{setup-turned, begun_places, IsTier-turned}
use Rattle.tier_laws.specs.ChainLaws.{tier_here}
use Rattle.settling_laws.specs.Underway.{IsUnderway}
use Rattle.settling_laws.specs.FewTurns.{underway-begins, underway-at}

-- tier k of P patches, turn by turn from chain a on: these turns led to chain b, they are at most 6 a patch, and
-- what leads on from b to an idle turn leads there from a
pub record IsMidway (board : Board) (k patches : ℕ) (a b : Chain) (made : List (ℕ × Turn)) : Type 0 where
  pub tier : TierState
  pub at : slice_get b.tiers k ≡ Some tier
  pub is_tier : IsTier tier
  pub many : count tier ≡ patches
  pub underway : IsUnderway (told_at b k) (begun board tier) (length made)
  pub on : (rest : List (ℕ × Turn)) (c : Chain) → TurnsToIdle board k b rest c → TurnsToIdle board k a (made ++ rest) c

pub midway-begins : (board : Board) (k : ℕ) (a : Chain) (s : TierState) → slice_get a.tiers k ≡ Some s → IsTier s → IsMidway board k (count s) a a []
midway-begins board k a s at is_tier = record {
  tier = s;
  at = at;
  is_tier = is_tier;
  many = refl;
  underway = underway-begins (told_at a k) (begun board s);
  on = λ rest c turns. turns;
}

pub midway-few : (board : Board) (k patches : ℕ) (a b : Chain) (made : List (ℕ × Turn)) → IsMidway board k patches a b made → length made ≤ 6 * patches
midway-few board k patches a b made midway =
    let bound = midway.underway.bound in
    let many = midway.many in
    let same = ap (λ (sizes : List ℕ). length sizes) (begun_places board midway.tier).sizes in
    omega arith

pub midway-turned : (board : Board) (k patches : ℕ) (answer : Turn) (a b c : Chain) (made : List (ℕ × Turn)) → IsMidway board k patches a b made → TurnsAt board k answer b c → answer ≢ Idle → IsMidway board k patches a c (made ++ (k, answer) ∷ [])
midway-turned board k patches answer a b c made midway turn not_idle =
    let same = same_Some midway.tier turn.before (sym midway.at ∙ turn.was) in
    let before = subst IsTier same midway.is_tier in
    record {
      tier = turn.after;
      at = tier_here board k answer b c turn;
      is_tier = IsTier-turned board (told_at b k) turn.before answer turn.after before turn.turns turn.body;
      many = ap (λ (sizes : List ℕ). length sizes) (setup-turned board (told_at b k) turn.before answer turn.after turn.turns).sizes ∙ sym (ap (λ (t : TierState). count t) same) ∙ midway.many;
      underway = subst (IsUnderway (told_at c k) (begun board turn.after)) (sym (length_push made (k, answer)))
          (underway-at board k answer b c (length made) turn before not_idle (subst (λ (t : TierState). IsUnderway (told_at b k) (begun board t) (length made)) same midway.underway));
      on = λ rest d turns. subst (λ (log : List (ℕ × Turn)). TurnsToIdle board k a log d) (sym (append_assoc made ((k, answer) ∷ []) rest)) (midway.on ((k, answer) ∷ rest) d (More answer not_idle turn turns));
    }

pub midway-idles : (board : Board) (k patches : ℕ) (a b c : Chain) (made : List (ℕ × Turn)) → IsMidway board k patches a b made → TurnsAt board k Idle b c → TurnsToIdle board k a (made ++ (k, Idle) ∷ []) c
midway-idles board k patches a b c made midway turn = midway.on ((k, Idle) ∷ []) c (Last turn)

-- the first n tiers, from the lowest of them up: this log led from chain a to b, and what settles the first `left`
-- from b on settles them all from a on
pub record IsHalfSettled (board : Board) (n left : ℕ) (a b : Chain) (log : List (ℕ × Turn)) : Type 0 where
  pub within : left ≤ n
  pub on : (rest : List (ℕ × Turn)) (c : Chain) → Settles board left b rest c → Settles board n a (log ++ rest) c

pub half-begins : (board : Board) (n : ℕ) (a : Chain) → IsHalfSettled board n n a a []
half-begins board n a = record { within = omega arith; on = λ rest c settles. settles }

pub half-settled : (board : Board) (n left : ℕ) (a b c : Chain) (log more : List (ℕ × Turn)) → IsHalfSettled board n (suc left) a b log → TurnsToIdle board left b more c → IsHalfSettled board n left a c (log ++ more)
half-settled board n left a b c log more half turns = record {
  within = let within = half.within in omega arith;
  on = λ rest d settles. subst (λ (whole : List (ℕ × Turn)). Settles board n a whole d) (sym (append_assoc log more rest)) (half.on (more ++ rest) d (Tier turns settles));
}

pub half-ends : (board : Board) (n : ℕ) (a b : Chain) (log : List (ℕ × Turn)) → IsHalfSettled board n 0 a b log → Settles board n a log b
half-ends board n a b log half = subst (λ (whole : List (ℕ × Turn)). Settles board n a whole b) (append-nil log) (half.on [] b Settled)
