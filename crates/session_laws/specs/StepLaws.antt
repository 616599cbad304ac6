-- Each step of a session over an accepted mesh does what its answer says.
use Rattle.std.proofs.Common.{◌≡◌, ℕ, Bool, true, false, ◌||◌, cond, eqb, [], Option, Some, None, refl, sym, ap, subst, ◌∙◌, append-nil, arith, inl, inr}
use Rattle.std.specs.Option.{option_map_or, option_or, option_map}
use Rattle.std.proofs.lemmas.Bool.{or_left, or_right, eq-eqb, ne_eqb}
use Rattle.std.proofs.lemmas.List.{get_or-set_same, get_or-set_other, length-set}
use Rattle.mesh_model.specs.Meshes.{MeshLists, IsMesh}
use Rattle.round_model.specs.declared.asks.Ask.{Ask}
use Rattle.round_model.specs.declared.asks.Ask.TheVariants.{Lock, GiveBack, Done as NothingAsked}
use Rattle.round_model.specs.Views.{ViewSeen, view_rules}
use Rattle.round_model.specs.Refiners.{Refining, pending_ask}
use Rattle.token_words.specs.Changes.{SetAt}
use Rattle.session_model.specs.declared.steps.Stepped.TheVariants.{Unlocked, Withdrew, Done}
use Rattle.session_model.specs.Locks.{round_locks}
use Rattle.session_laws.specs.Refinings.{begun_refining, begun_locks}
use Rattle.session_model.specs.Sessions.{SessionState, is_left_over, locks, is_in_flight, uses, least_old, settled, without_flight, without_old}
use Rattle.session_model.specs.Steps.{stepped, begun_round, with_round, after_try, answer_ask, go_on, unlock_or, withdraw_or, step}
use Rattle.session_model.specs.SessionStates.{IsRunning, IsRefused, IsSessionState, tries_of, IsLike}
use Rattle.session_laws.specs.StateLaws.{rules_mesh, settled_is, settled_like, settled_tries, settled_going}
use Rattle.session_model.specs.Does.{less_by_use, IsStep, step_like}
use Rattle.session_laws.specs.RoundSteps.{or_false, IsLeast, none_old_in, some_old_in, round_is, asked_step}

-- ---- a round begins, if there is none

pub same_ask : (s : SessionState) (r : Refining) (epoch : ℕ) (ask : Ask) → answer_ask (with_round s r) r epoch ask ≡ answer_ask s r epoch ask
unfolding after_try
same_ask s r epoch (Lock p) = refl
same_ask s r epoch (GiveBack p) = refl
same_ask s r epoch NothingAsked = refl

module _ (mesh : MeshLists) (accepted : IsMesh mesh) (s : SessionState) (is : IsSessionState mesh s) (no_flight : s.flight ≡ None) (going : s.printed ≡ false) where
  module _ (view : ViewSeen) (no_round : s.round ≡ None) (viewed : s.view ≡ Some view) (no_old : (p : ℕ) → is_left_over s p ≡ false) where
    abbrev begun : SessionState
    begun = with_round s (begun_round mesh view)

    pub begun_is : IsSessionState mesh begun
    begun_is = record {
      many = is.many;
      running = λ t e. subst (IsRunning mesh begun) (round_is (begun_round mesh view) t e) (record {
        refining = begun_refining (view_rules view mesh) (subst IsMesh (sym (rules_mesh view mesh)) accepted);
        view = view;
        viewed = viewed;
        rules = refl;
        no_old = no_old;
      });
      flight = λ q e. absurd (cc);
    }

    pub begun_like : IsLike s begun
    begun_like = record {
      view = refl;
      many = refl;
      locks_are = λ q. ap (λ (t : Bool). is_left_over s q || t) (begun_locks (view_rules view mesh) q) ∙ ap (λ (o : Option Refining). is_left_over s q || option_map_or (λ (t : Refining). round_locks t q) o false) (sym no_round);
      flight = refl;
    }

    begun_tries : tries_of begun ≡ tries_of s
    begun_tries =
        ap (λ (printed : Bool). option_map_or (λ (t : Refining). t.tries) (cond printed None (Some (begun_round mesh view))) []) going
        ∙ sym (ap (λ (printed : Bool). option_map_or (λ (t : Refining). t.tries) (cond printed None s.round) []) going ∙ ap (λ (o : Option Refining). option_map_or (λ (t : Refining). t.tries) o []) no_round)

    pub begun_step : (epoch : ℕ) → IsStep mesh s (go_on s epoch (Some (begun_round mesh view)))
    begun_step epoch =
        subst (IsStep mesh s) (same_ask s (begun_round mesh view) epoch (pending_ask (begun_round mesh view)))
        (step_like mesh s begun (go_on begun epoch (Some (begun_round mesh view))) begun_like begun_tries
        (asked_step mesh begun begun_is (begun_round mesh view) refl no_flight going epoch))

  idle : IsStep mesh s (stepped Done s)
  idle = record { does = record { locked = λ q. refl; used = λ q. refl }; keeps = is; view = refl; tries = sym (append-nil (tries_of s)); lowers = inl refl }

  by_round : (epoch : ℕ) (round : Option Refining) (view : Option ViewSeen) → s.round ≡ round → s.view ≡ view → ((p : ℕ) → is_left_over s p ≡ false) → IsStep mesh s (go_on s epoch (option_or round (option_map (begun_round mesh) view)))
  by_round epoch (Some r) view there viewed no_old = asked_step mesh s is r there no_flight going epoch
  by_round epoch None (Some view) none viewed no_old = begun_step view none viewed no_old epoch
  by_round epoch None None none viewed no_old = idle

  -- ---- an old lock is given back

  no_round_with_old : (p : ℕ) → is_left_over s p ≡ true → (round : Option Refining) → s.round ≡ round → s.round ≡ None
  no_round_with_old p old None e = e
  no_round_with_old p old (Some r) e = absurd (let none = (is.running r e).no_old p in cc)

  module _ (p : ℕ) (old : IsLeast s.leftover p) where
    abbrev unlocked : SessionState
    unlocked = without_old s p

    pub no_round : s.round ≡ None
    no_round = no_round_with_old p old.there s.round refl

    locks_of_old : (q : ℕ) → locks s q ≡ is_left_over s q
    locks_of_old q = ap (λ (o : Option Refining). is_left_over s q || option_map_or (λ (t : Refining). round_locks t q) o false) no_round ∙ or_false (is_left_over s q)

    locks_left : (q : ℕ) → locks unlocked q ≡ is_left_over unlocked q
    locks_left q = ap (λ (o : Option Refining). is_left_over unlocked q || option_map_or (λ (t : Refining). round_locks t q) o false) no_round ∙ or_false (is_left_over unlocked q)

    unlocked_locks : SetAt (locks s) p false (locks unlocked)
    unlocked_locks = record {
      here = locks_left p ∙ get_or-set_same s.leftover p false false old.within;
      others = λ q apart. locks_left q ∙ get_or-set_other s.leftover p q false false apart ∙ sym (locks_of_old q);
    }

    unlocked_uses : SetAt (uses s) p false (uses unlocked)
    unlocked_uses =
        let flight : (t : SessionState) → t.flight ≡ None → (q : ℕ) → uses t q ≡ locks t q = λ t e q. ap (λ (o : Option ℕ). locks t q || is_in_flight o q) e ∙ or_false (locks t q) in
        record { here = flight unlocked no_flight p ∙ unlocked_locks.here; others = λ q apart. flight unlocked no_flight q ∙ unlocked_locks.others q apart ∙ sym (flight s no_flight q) }

    old_is_held : locks s p ≡ true
    old_is_held = locks_of_old p ∙ old.there

    pub unlocked_step : IsStep mesh s (stepped (Unlocked p) unlocked)
    unlocked_step = record {
      does = record { within = old.within; held = old_is_held; locked = unlocked_locks; used = unlocked_uses };
      keeps = record {
        many = length-set s.leftover p false ∙ is.many;
        running = λ t e. absurd (let none = no_round in cc);
        flight = λ q e. absurd (cc);
      };
      view = refl;
      tries = sym (append-nil (tries_of s));
      lowers = inr (less_by_use s unlocked p (length-set s.leftover p false) refl old.within (or_left (locks s p) (is_in_flight s.flight p) old_is_held) unlocked_uses);
    }

  by_old : (epoch : ℕ) (old : Option ℕ) → least_old s ≡ old → IsStep mesh s (unlock_or mesh s epoch old)
  by_old epoch (Some p) e = unlocked_step p (some_old_in s p e)
  by_old epoch None e = by_round epoch s.round s.view refl refl (none_old_in s e)

  pub unlock_step : (epoch : ℕ) → IsStep mesh s (unlock_or mesh s epoch (least_old s))
  unlock_step epoch = by_old epoch (least_old s) refl

-- ---- a refused try is withdrawn

module _ (mesh : MeshLists) (s : SessionState) (is : IsSessionState mesh s) (p : ℕ) (there : s.flight ≡ Some p) where
  refused : IsRefused s p
  refused = is.flight p there

  flight_use : (q : ℕ) → uses s q ≡ (locks s q || eqb p q)
  flight_use q = ap (λ (o : Option ℕ). locks s q || is_in_flight o q) there

  withdrawn_uses : SetAt (uses s) p false (uses (without_flight s))
  withdrawn_uses = record {
    here = or_false (locks s p) ∙ refused.free;
    others = λ q apart. ap (λ (t : Bool). locks s q || t) (sym (ne_eqb p q (λ same. apart (sym same)))) ∙ sym (flight_use q);
  }

  in_use : uses s p ≡ true
  in_use = flight_use p ∙ or_right (locks s p) (eqb p p) (eq-eqb p p refl)

  pub withdraw_step : IsStep mesh s (stepped (Withdrew p) (without_flight s))
  withdraw_step = record {
    does = record { within = refused.within; tried = in_use; free = refused.free; locked = λ q. refl; used = withdrawn_uses };
    keeps = record {
      many = is.many;
      running = λ t e. let running = is.running t e in record { refining = running.refining; view = running.view; viewed = running.viewed; rules = running.rules; no_old = running.no_old };
      flight = λ q e. absurd (cc);
    };
    view = refl;
    tries = sym (append-nil (tries_of s));
    lowers = inr (less_by_use s (without_flight s) p refl refl refused.within in_use withdrawn_uses);
  }

by_flight : (mesh : MeshLists) → IsMesh mesh → (s : SessionState) → IsSessionState mesh s → (epoch : ℕ) (flight : Option ℕ) → s.flight ≡ flight → IsStep mesh s (withdraw_or mesh s epoch flight)
by_flight mesh accepted s is epoch (Some p) there = withdraw_step mesh s is p there
by_flight mesh accepted s is epoch None none =
    let like = settled_like mesh s is in
    step_like mesh s (settled s) (withdraw_or mesh s epoch None) like (settled_tries s) (unlock_step mesh accepted (settled s) (settled_is mesh s is) (like.flight ∙ none) (settled_going s) epoch)

pub step_is : (mesh : MeshLists) → IsMesh mesh → (s : SessionState) → IsSessionState mesh s → (epoch : ℕ) → IsStep mesh s (step mesh s epoch)
unfolding step
step_is mesh accepted s is epoch = by_flight mesh accepted s is epoch s.flight refl
