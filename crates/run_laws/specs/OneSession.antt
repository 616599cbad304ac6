-- What a session does until its round is done, or until it has no use, is one.
use Rattle.std.proofs.Common.{◌≡◌, ℕ, ◌+◌, true, List, refl, sym, ap, subst, ◌∙◌}
use Rattle.std.proofs.lemmas.Option.{same_Some}
use Rattle.mesh_model.specs.Meshes.{MeshLists}
use Rattle.session_model.specs.declared.steps.Stepped.{Stepped}
use Rattle.session_model.specs.declared.steps.Stepped.TheVariants.{Done}
use Rattle.session_model.specs.Sessions.{SessionState}
use Rattle.session_model.specs.Steps.{SessionStep, step_by, free_step}
use Rattle.session_model.specs.Finishes.{Steps, NoStep, OneMore, Finishes}
use Rattle.session_model.specs.Freeing.{FreesAll, NoUse, MoreUse, unlocks_in}
use Rattle.run_laws.specs.SessionReach.{made_by}

-- ---- until it is done

-- steps lead on, none of them done
data LeadsTo (mesh : MeshLists) (epochs : ℕ → ℕ) : SessionState → SessionState → Type 0 where
  Here : {s : SessionState} → LeadsTo mesh epochs s s
  Ahead : {s t : SessionState} → ((step_by mesh epochs s).did ≡ Done → ⊥) → LeadsTo mesh epochs (step_by mesh epochs s).state t → LeadsTo mesh epochs s t

leads_one_more : (mesh : MeshLists) (epochs : ℕ → ℕ) (s t : SessionState) → LeadsTo mesh epochs s t → ((step_by mesh epochs t).did ≡ Done → ⊥) → LeadsTo mesh epochs s (step_by mesh epochs t).state
leads_one_more mesh epochs s _ Here going = Ahead going Here
leads_one_more mesh epochs s t (Ahead first rest) going = Ahead first (leads_one_more mesh epochs (step_by mesh epochs s).state t rest going)

steps_lead : (mesh : MeshLists) (epochs : ℕ → ℕ) (s : SessionState) (tries : List (ℕ × ℕ)) (t : SessionState) → Steps mesh true epochs s tries t → LeadsTo mesh epochs s t
steps_lead mesh epochs s _ _ NoStep = Here
steps_lead mesh epochs s _ _ (OneMore tries t did epoch u steps same going of_epochs) =
    let is = made_by mesh epochs t u did epoch same (of_epochs refl) in
    subst (LeadsTo mesh epochs s) (sym (ap (λ (x : SessionStep). x.state) is))
    (leads_one_more mesh epochs s t (steps_lead mesh epochs s tries t steps) (λ done. going (ap (λ (x : SessionStep). x.did) is ∙ done)))

leads_one : (mesh : MeshLists) (epochs : ℕ → ℕ) (s t u : SessionState) → LeadsTo mesh epochs s t → LeadsTo mesh epochs s u → (step_by mesh epochs t).did ≡ Done → (step_by mesh epochs u).did ≡ Done → t ≡ u
leads_one mesh epochs s _ _ Here Here t_done u_done = refl
leads_one mesh epochs s _ u Here (Ahead going rest) t_done u_done = absurd (going t_done)
leads_one mesh epochs s t _ (Ahead going rest) Here t_done u_done = absurd (going u_done)
leads_one mesh epochs s t u (Ahead going rest) (Ahead more other) t_done u_done = leads_one mesh epochs (step_by mesh epochs s).state t u rest other t_done u_done

pub finishes_one : (mesh : MeshLists) (epochs : ℕ → ℕ) (s : SessionState) (tries more : List (ℕ × ℕ)) (t u : SessionState) → Finishes mesh true epochs s tries t → Finishes mesh true epochs s more u → t ≡ u
finishes_one mesh epochs s tries more t u first second =
    let done = made_by mesh epochs first.last t Done first.epoch first.done tt in
    let also = made_by mesh epochs second.last u Done second.epoch second.done tt in
    let same = leads_one mesh epochs s first.last second.last (steps_lead mesh epochs s tries first.last first.steps) (steps_lead mesh epochs s more second.last second.steps)
    (sym (ap (λ (x : SessionStep). x.did) done)) (sym (ap (λ (x : SessionStep). x.did) also)) in
    ap (λ (x : SessionStep). x.state) (done ∙ ap (step_by mesh epochs) same ∙ sym also)

-- ---- until it has no use

-- two ends are one
pub record IsOneEnd (n m : ℕ) (t u : SessionState) : Type 0 where
  pub unlocks : n ≡ m
  pub state : t ≡ u

pub frees_one : (s t u : SessionState) (n m : ℕ) → FreesAll s n t → FreesAll s m u → IsOneEnd n m t u
frees_one s _ _ _ _ (NoUse none) (NoUse also) = record { unlocks = refl; state = refl }
frees_one s _ u _ _ (NoUse none) (MoreUse did is rest) = absurd (let never = sym none ∙ is in cc)
frees_one s t _ _ _ (MoreUse did is rest) (NoUse none) = absurd (let never = sym none ∙ is in cc)
frees_one s t u _ _ (MoreUse {n = n} did is rest) (MoreUse {n = m} also there other) =
    let end = frees_one (free_step s).state t u n m rest other in
    let same = same_Some did also (sym is ∙ there) in
    record { unlocks = ap (λ (k : ℕ). unlocks_in did + k) end.unlocks ∙ ap (λ (d : Stepped). unlocks_in d + m) same; state = end.state }
