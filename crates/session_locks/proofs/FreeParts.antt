-- Steps towards no use that are under way.
use Rattle.std.proofs.Common.{◌≡◌, ℕ, zero, suc, ◌+◌, ◌^◌, ◌<◌, ◌≤◌, Bool, true, false, length, Some, None, refl, sym, ap, subst, ◌∙◌, arith}
use Rattle.std.specs.Prelude.{if◌then◌else◌}
use Rattle.std.proofs.Math.Dec.{leb}
use Rattle.std.proofs.lemmas.Bool.{leb-true, and_parts}
use Rattle.file_model.specs.declared.limits.TheConstants.{MOST_PATCHES}
use Rattle.session_model.specs.declared.steps.Stepped.{Stepped}
use Rattle.session_model.specs.declared.steps.Stepped.TheVariants.{Unlocked, Tried, Withdrew, GaveBack, Done}
use Rattle.session_model.specs.Sessions.{SessionState, uses}
use Rattle.session_model.specs.Steps.{FreeStep, freed, free_step}
use Rattle.session_model.specs.Counts.{count_below}
use Rattle.session_model.specs.Freeing.{uses_left, Frees, unlocks_in, FreesAll, NoUse, MoreUse}
use Rattle.session_laws.specs.FreeLaws.{freed_has_no_use, freed_has_no_round}
use Rattle.session_model.specs.Told.{SessionTold}
use Rattle.session_laws.specs.ToldLaws.{told_frees}
use Rattle.session_locks.specs.Sessions.{SessionSeen, IsSession}
use Rattle.session_locks.specs.Taken.{TakesFreeStep, TakesFreeSteps}

count_most : (n : ℕ) (test : ℕ → Bool) → count_below n test ≤ n
unfolding count_below
count_most zero test = omega arith
count_most (suc n) test = let rest = count_most n test in one_more n (count_below n test) (test n) rest
  where
    one_more : (n a : ℕ) (t : Bool) → a ≤ n → a + (if t then 1 else 0) ≤ suc n
    one_more n a true few = omega arith
    one_more n a false few = omega arith

uses_few : (s : SessionState) → uses_left s ≤ length s.leftover
unfolding uses_left
uses_few s = count_most (length s.leftover) (uses s)

-- so many old locks were given back, what follows is as from the first, and each step ended a use
pub record HasFreed (first : SessionState) (unlocks : ℕ) (now : SessionState) : Type 0 where
  pub on : (n : ℕ) (last : SessionState) → FreesAll now n last → FreesAll first (unlocks + n) last
  pub few : unlocks + uses_left now ≤ uses_left first

none_freed : (s : SessionState) → HasFreed s 0 s
none_freed s = record {
  on = λ n last rest. subst (λ (k : ℕ). FreesAll s k last) (omega arith) rest;
  few = omega arith;
}

one_at_most : (did : Stepped) → unlocks_in did ≤ 1
one_at_most (Unlocked p) = omega arith
one_at_most (Tried p epoch) = omega arith
one_at_most (Withdrew p) = omega arith
one_at_most (GaveBack p) = omega arith
one_at_most Done = omega arith

-- one step more
more_freed : (first s t : SessionState) (unlocks : ℕ) (did : Stepped) → HasFreed first unlocks s → freed (Some did) t ≡ free_step s → Frees s (Some did) t → HasFreed first (unlocks + unlocks_in did) t
more_freed first s t unlocks did before is frees =
    let made : (free_step s).did ≡ Some did = ap (λ (x : FreeStep). x.did) (sym is) in
    let state : t ≡ (free_step s).state = ap (λ (x : FreeStep). x.state) is in
    record {
      on = λ n last rest. subst (λ (k : ℕ). FreesAll first k last) (omega arith)
          (before.on (unlocks_in did + n) last (MoreUse did made (subst (λ (x : SessionState). FreesAll x n last) state rest)));
      few = let less = frees.0 in let one = one_at_most did in let few = before.few in omega arith;
    }

-- the last one finds no use
all_freed : (first s t : SessionState) (unlocks : ℕ) → HasFreed first unlocks s → freed None t ≡ free_step s → FreesAll first unlocks t
all_freed first s t unlocks before is =
    let made : (free_step s).did ≡ None = ap (λ (x : FreeStep). x.did) (sym is) in
    let state : (free_step s).state ≡ t = ap (λ (x : FreeStep). x.state) (sym is) in
    subst (λ (k : ℕ). FreesAll first k t) (omega arith)
    (before.on 0 t (subst (λ (x : SessionState). FreesAll s 0 x) state (NoUse made)))

-- ---- of a session

-- steps towards no use were made, by which so many old locks were given back
pub record AreFreeing (old : SessionSeen) (unlocks : ℕ) (now : SessionSeen) : Type 0 where
  pub session : IsSession old
  pub mesh : now.mesh ≡ old.mesh
  pub number : now.number ≡ old.number
  pub freed : HasFreed old.state unlocks now.state

pub freeing_first : (old : SessionSeen) → IsSession old → AreFreeing old 0 old
freeing_first old session = record { session = session; mesh = refl; number = refl; freed = none_freed old.state }

module _ (old mid new : SessionSeen) (unlocks : ℕ) (way : AreFreeing old unlocks mid) where
  pub freeing_more : (did : Stepped) → TakesFreeStep mid (Some did) new → AreFreeing old (unlocks + unlocks_in did) new
  freeing_more did takes = record {
    session = way.session;
    mesh = takes.mesh ∙ way.mesh;
    number = takes.number ∙ way.number;
    freed = more_freed old.state mid.state new.state unlocks did way.freed takes.is takes.frees;
  }

  -- the number of old locks that were given back is small
  pub freeing_fits : (did : Stepped) → TakesFreeStep mid (Some did) new → unlocks + unlocks_in did < 2 ^ 64
  freeing_fits did takes =
      let few = (freeing_more did takes).freed.few in
      let most = uses_few old.state in
      let many = way.session.is.many in
      let patches = length old.mesh.index.fields in
      let bound = leb-true patches MOST_PATCHES (and_parts (leb 1 patches) (leb patches MOST_PATCHES) way.session.accepted.rules.patch_count).1 in
      omega arith

  pub freeing_done : TakesFreeStep mid None new → TakesFreeSteps old unlocks new
  freeing_done takes =
      let frees = all_freed old.state mid.state new.state unlocks way.freed takes.is in
      let told = told_frees old.state new.state unlocks frees in
      record {
        mesh = takes.mesh ∙ way.mesh;
        number = takes.number ∙ way.number;
        frees = frees;
        view = ap (λ (t : SessionTold). t.view) told;
        frames = ap (λ (t : SessionTold). t.frames) told;
        free = freed_has_no_use old.state new.state unlocks frees;
        no_round = freed_has_no_round old.state new.state unlocks frees;
      }
