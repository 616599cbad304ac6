-- The test of a whole round tells exactly whether answers make one.
use Rattle.std.proofs.Common.{◌≡◌, ℕ, ◌==◌, true, ◌&&◌, List, [], ◌∷◌, Option, Some, None, refl, ap, ◌∙◌}
use Rattle.std.proofs.lemmas.Bool.{and_parts, and_from, eqb-true, eq-eqb}
use Rattle.file_model.specs.declared.fields.Try.{Try}
use Rattle.round_model.specs.Order.{Rules}
use Rattle.round_model.specs.Rounds.{NodeInProgress, RoundState, round_of, epochs_of}
use Rattle.session_model.specs.DoneRounds.{AreWhole}
use Rattle.audit_frames.specs.Answers.{is_same_try, are_same_tries, is_nowhere, none_unused, is_whole}

same_try : (t u : Try) → is_same_try t u ≡ true → t ≡ u
same_try t u same =
    let parts = and_parts (t.patch == u.patch) (t.epoch == u.epoch) same in
    let patch : t.patch ≡ u.patch = eqb-true t.patch u.patch parts.0 in
    let epoch : t.epoch ≡ u.epoch = eqb-true t.epoch u.epoch parts.1 in
    λ i. record { patch = patch i; epoch = epoch i }

same_tries : (ts us : List Try) → are_same_tries ts us ≡ true → ts ≡ us
same_tries [] [] same = refl
same_tries [] (u ∷ us) same = absurd (cc)
same_tries (t ∷ ts) [] same = absurd (cc)
same_tries (t ∷ ts) (u ∷ us) same =
    let parts = and_parts (is_same_try t u) (are_same_tries ts us) same in
    let first = same_try t u parts.0 in
    let rest = same_tries ts us parts.1 in
    cc

tries_themselves : (ts : List Try) → are_same_tries ts ts ≡ true
tries_themselves [] = refl
tries_themselves (t ∷ ts) =
    and_from (is_same_try t t) (are_same_tries ts ts)
    (and_from (t.patch == t.patch) (t.epoch == t.epoch) (eq-eqb t.patch t.patch refl) (eq-eqb t.epoch t.epoch refl))
    (tries_themselves ts)

nowhere_is : (at : Option NodeInProgress) → is_nowhere at ≡ true → at ≡ None
nowhere_is None is = refl
nowhere_is (Some hand) is = absurd (cc)

unused_is : (epochs : List ℕ) → none_unused epochs ≡ true → epochs ≡ []
unused_is [] is = refl
unused_is (epoch ∷ epochs) is = absurd (cc)

module _ (rules : Rules) (tries : List Try) where
  stand : RoundState
  stand = round_of rules (epochs_of tries)

  pub whole_is : is_whole rules tries ≡ true → AreWhole rules tries
  unfolding stand
  whole_is is =
      let parts = and_parts (is_nowhere stand.at) (none_unused stand.unused && are_same_tries stand.tries tries) is in
      let rest = and_parts (none_unused stand.unused) (are_same_tries stand.tries tries) parts.1 in
      record {
        whole = record
            { through = nowhere_is stand.at parts.0; used = unused_is stand.unused rest.0 };
        tries_are =
            same_tries stand.tries tries rest.1;
      }

  pub whole_from : AreWhole rules tries → is_whole rules tries ≡ true
  unfolding stand
  whole_from are =
      and_from (is_nowhere stand.at) (none_unused stand.unused && are_same_tries stand.tries tries)
      (ap is_nowhere are.whole.through)
      (and_from (none_unused stand.unused) (are_same_tries stand.tries tries) (ap none_unused are.whole.used)
      (ap (λ (ts : List Try). are_same_tries ts tries) are.tries_are ∙ tries_themselves tries))
