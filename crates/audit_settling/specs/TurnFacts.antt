-- What is known of a turn's answer by what the turn fetches.
use Rattle.std.proofs.Common.{◌≡◌, ℕ, zero, suc, Bool, true, false, Option, Some, None, refl, sym, ap, subst, ◌∙◌}
use Rattle.std.proofs.lemmas.Option.{same_Some}
use Rattle.tier_model.specs.declared.turns.Turn.{Turn}
use Rattle.tier_model.specs.declared.turns.Turn.TheVariants.{Reserve, Evict, Kept, Lost, Commit, Idle}
use Rattle.tier_model.specs.Places.{first_coming, first_bare}
use Rattle.tier_model.specs.Tiers.{TierState}
use Rattle.tier_model.specs.Choices.{Told}
use Rattle.tier_model.specs.Turns.{Outcome, entering, leaving, fetching, evicting, leave_or_idle, commit_or, fetch_or, reserve_or, ranked_turn_of}
use Rattle.audit_settling.specs.Settlings.{fetch_unless}

-- what holds of each answer of a turn that fetches nothing from below
pub record Others (Q : Turn → Type 0) : Type 0 where
  pub reserve : (p : ℕ) → Q (Reserve p)
  pub evict : (p : ℕ) → Q (Evict p)
  pub kept : (p uses : ℕ) → Q (Kept p uses)
  pub lost : (p : ℕ) → Q (Lost p)
  pub commit : (p : ℕ) → Q (Commit p)
  pub idle : Q Idle

module _ (told : Told) (s : TierState) (o : Outcome) where
  pub fetch_turn : (p : ℕ) → fetch_unless (entering told s) (first_bare s.coming) ≡ Some p
      → ranked_turn_of told s o ≡ fetching (told.has p) s p o.fetched
  unfolding ranked_turn_of reserve_or fetch_or
  fetch_turn p is = by_cases (entering told s) (first_bare s.coming) refl refl is
    where
      by_cases : (c b : Option ℕ) → entering told s ≡ c → first_bare s.coming ≡ b → fetch_unless c b ≡ Some p
          → ranked_turn_of told s o ≡ fetching (told.has p) s p o.fetched
      by_cases (Some c) b c_is b_is is = absurd (cc)
      by_cases None None c_is b_is is = absurd (cc)
      by_cases None (Some q) c_is b_is is =
          ap (reserve_or told s o) c_is ∙ ap (fetch_or told s o) b_is
          ∙ ap (λ (n : ℕ). fetching (told.has n) s n o.fetched) (same_Some q p is)

  module _ (Q : Turn → Type 0) (others : Others Q) where
    by_evicting : (top : Bool) (v uses : ℕ) → Q (evicting top s v uses).0
    unfolding evicting
    by_evicting false v uses = others.evict v
    by_evicting true v zero = others.evict v
    by_evicting true v (suc uses) = others.kept v (suc uses)

    by_leaving : (found : Option ℕ) → Q (leave_or_idle told s o found).0
    unfolding leave_or_idle
    by_leaving (Some v) = by_evicting told.top v o.uses
    by_leaving None = others.idle

    by_commit : (found : Option ℕ) → Q (commit_or told s o found).0
    unfolding commit_or
    by_commit (Some p) = others.commit p
    by_commit None = by_leaving (leaving told s)

    by_has : (p : ℕ) (has : Bool) → Q (fetching true s p o.fetched).0 → Q (fetching has s p o.fetched).0
    unfolding fetching
    by_has p false fetched = others.lost p
    by_has p true fetched = fetched

    -- what holds of the answer of any turn
    pub answer_by :
        ((p : ℕ) → fetch_unless (entering told s) (first_bare s.coming) ≡ Some p → Q (fetching true s p o.fetched).0)
        → Q (ranked_turn_of told s o).0
    unfolding ranked_turn_of reserve_or fetch_or
    answer_by fetched = by_entering (entering told s) (first_bare s.coming) refl refl
      where
        by_entering : (c b : Option ℕ) → entering told s ≡ c → first_bare s.coming ≡ b
            → Q (reserve_or told s o (entering told s)).0
        by_entering (Some c) b c_is b_is = subst (λ (e : Option ℕ). Q (reserve_or told s o e).0) (sym c_is)
            (others.reserve c)
        by_entering None (Some p) c_is b_is =
            subst (λ (e : Option ℕ). Q (reserve_or told s o e).0) (sym c_is)
            (subst (λ (e : Option ℕ). Q (fetch_or told s o e).0) (sym b_is)
            (by_has p (told.has p)
            (fetched p (ap (λ (e : Option ℕ). fetch_unless e (first_bare s.coming)) c_is ∙ b_is))))
        by_entering None None c_is b_is =
            subst (λ (e : Option ℕ). Q (reserve_or told s o e).0) (sym c_is)
            (subst (λ (e : Option ℕ). Q (fetch_or told s o e).0) (sym b_is) (by_commit (first_coming s.coming)))
