-- The tries of one node's patches: what more answers change, and what the tries tell.
use Rattle.std.proofs.Common.{◌≡◌, ℕ, Bool, true, false, cond, List, [], ◌∷◌, ◌++◌, refl, ap, ◌∙◌}
use Rattle.std.specs.List.{AllByRecursion}
use Rattle.std.proofs.lemmas.Bool.{cond_both, cond-true}
use Rattle.file_model.specs.declared.fields.Try.{Try}
use Rattle.file_model.specs.Tries.{is_odd}
use Rattle.round_model.specs.Tries.{Verdict, Granted, Refused, OpenAt, Tried, with_try, tried_patches}
use Rattle.round_model.specs.Rounds.{epochs_of, patches_of}

-- all were answered that had to be
abbrev pub IsAnswered : Verdict → Type 0
IsAnswered Granted = Unit {0}
IsAnswered Refused = Unit {0}
IsAnswered (OpenAt p) = ⊥

-- with further epochs that nothing used
abbrev pub with_unused : List ℕ → Tried → Tried
with_unused epochs tried = record { tries = tried.tries; verdict = tried.verdict; unused = tried.unused ++ epochs }

-- after tries that were granted before
abbrev pub with_granted : List Try → Tried → Tried
with_granted granted tried = record { tries = granted ++ tried.tries; verdict = tried.verdict; unused = tried.unused }

-- the answer to a try of a patch
abbrev pub try_of : ℕ → ℕ → Try
try_of patch epoch = record { patch = patch; epoch = epoch }

-- refused at once, with the epochs that are left
abbrev pub refused_at : ℕ → ℕ → List ℕ → Tried
refused_at patch epoch epochs = record { tries = try_of patch epoch ∷ []; verdict = Refused; unused = epochs }

-- ---- the epochs are those of the tries, and those that are left

pub tried_epochs : (ps epochs : List ℕ) → epochs_of (tried_patches ps epochs).tries ++ (tried_patches ps epochs).unused ≡ epochs
unfolding tried_patches
tried_epochs [] epochs = refl
tried_epochs (p ∷ ps) [] = refl
tried_epochs (p ∷ ps) (e ∷ es) =
    cond_both (is_odd e) (with_try (try_of p e) (tried_patches ps es)) (refused_at p e es) (λ (t : Tried). epochs_of t.tries ++ t.unused ≡ e ∷ es)
    (λ odd. ap (λ (xs : List ℕ). e ∷ xs) (tried_epochs ps es)) (λ even. refl)

-- ---- more epochs after the last answer

answered_step : (odd : Bool) (epochs : List ℕ) (x x' y y' : Tried) → (IsAnswered x.verdict → x' ≡ with_unused epochs x) → y' ≡ with_unused epochs y → IsAnswered (cond odd x y).verdict → cond odd x' y' ≡ with_unused epochs (cond odd x y)
answered_step true epochs x x' y y' h e answered = h answered
answered_step false epochs x x' y y' h e answered = e

pub tried_more : (ps epochs more : List ℕ) → IsAnswered (tried_patches ps epochs).verdict → tried_patches ps (epochs ++ more) ≡ with_unused more (tried_patches ps epochs)
unfolding tried_patches
tried_more [] epochs more h = refl
tried_more (p ∷ ps) [] more h = absurd h
tried_more (p ∷ ps) (e ∷ es) more h =
    answered_step (is_odd e) more (with_try (try_of p e) (tried_patches ps es)) (with_try (try_of p e) (tried_patches ps (es ++ more)))
    (refused_at p e es) (refused_at p e (es ++ more))
    (λ answered. ap (with_try (try_of p e)) (tried_more ps es more answered)) refl h

-- ---- more epochs at a patch that is open

-- the tries stand before a patch that has no answer yet, and go on there
pub record IsOpenAt (ps epochs : List ℕ) (tried : Tried) (patch : ℕ) : Type 0 where
  pub later : List ℕ
  pub patches : ps ≡ patches_of tried.tries ++ patch ∷ later
  pub granted : AllByRecursion (λ (t : Try). is_odd t.epoch ≡ true) tried.tries
  pub used : tried.unused ≡ []
  pub on : (more : List ℕ) → tried_patches ps (epochs ++ more) ≡ with_granted tried.tries (tried_patches (patch ∷ later) more)

open_is : (p q : ℕ) → OpenAt p ≡ OpenAt q → p ≡ q
open_is p q e = cc

pub tried_open : (ps epochs : List ℕ) (patch : ℕ) → (tried_patches ps epochs).verdict ≡ OpenAt patch → IsOpenAt ps epochs (tried_patches ps epochs) patch
unfolding tried_patches
tried_open [] epochs patch h = absurd (cc)
tried_open (p ∷ ps) [] patch h =
    let same = open_is p patch h in
    record {
      later = ps;
      patches = ap (λ (x : ℕ). x ∷ ps) same;
      granted = tt;
      used = refl;
      on = λ more. ap (λ (x : ℕ). tried_patches (x ∷ ps) more) same;
    }
tried_open (p ∷ ps) (e ∷ es) patch h =
    cond_both (is_odd e) (with_try (try_of p e) (tried_patches ps es)) (refused_at p e es) (λ (t : Tried). t.verdict ≡ OpenAt patch → IsOpenAt (p ∷ ps) (e ∷ es) t patch)
    (λ odd is. let rest = tried_open ps es patch is in record {
      later = rest.later;
      patches = ap (λ (xs : List ℕ). p ∷ xs) rest.patches;
      granted = (odd, rest.granted);
      used = rest.used;
      on = λ more. cond-true (is_odd e) (with_try (try_of p e) (tried_patches ps (es ++ more))) (refused_at p e (es ++ more)) odd ∙ ap (with_try (try_of p e)) (rest.on more);
    })
    (λ even is. absurd (cc)) h
