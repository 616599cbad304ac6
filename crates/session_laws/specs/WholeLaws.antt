-- A round that is done is whole, and one list of answers makes one whole round.
use Rattle.std.proofs.Common.{◌≡◌, ℕ, List, [], ◌∷◌, ◌++◌, length, Option, Some, None, refl, sym, ap, subst, ◌∙◌, arith, length-append}
use Rattle.std.proofs.lemmas.Option.{same_Some}
use Rattle.file_model.specs.declared.fields.Try.{Try}
use Rattle.mesh_model.specs.Meshes.{MeshLists}
use Rattle.round_model.specs.declared.asks.Ask.TheVariants.{Done as NothingAsked}
use Rattle.round_model.specs.Order.{Rules}
use Rattle.round_model.specs.Rounds.{NodeInProgress, RoundState, round_of, epochs_of, IsWhole}
use Rattle.round_model.specs.Refiners.{Refining, round_state, next_ask, pending_ask}
use Rattle.round_model.specs.Views.{ViewSeen, view_rules}
use Rattle.round_laws.specs.Epochs.{round_epochs, round_through}
use Rattle.session_model.specs.GoingRounds.{IsRefining}
use Rattle.session_model.specs.Sessions.{SessionState}
use Rattle.session_model.specs.SessionStates.{IsSessionState}
use Rattle.session_model.specs.DoneRounds.{HasDone, AreWhole}
use Rattle.session_model.specs.Finishes.{AreGiven, FirstOf, GoPast}

pub nothing_left : (owed : List ℕ) (at : Option NodeInProgress) → next_ask owed at ≡ NothingAsked → at ≡ None
nothing_left [] None is = refl
nothing_left [] (Some hand) is = absurd (cc)
nothing_left (p ∷ ps) at is = absurd (cc)

pub nothing_behind : (front rest : List ℕ) → front ++ rest ≡ front → rest ≡ []
nothing_behind front [] is = refl
nothing_behind front (x ∷ xs) is =
    absurd (let longer = length-append front (x ∷ xs) in let same = ap length is in omega arith)

pub round_is_whole : (r : Refining) → IsRefining r → pending_ask r ≡ NothingAsked → IsWhole (round_state r)
unfolding pending_ask
round_is_whole r refining done = record {
  through = nothing_left r.owed (round_state r).at done;
  used =
      let P : List Try → Type 0 = λ tries. epochs_of tries ++ (round_state r).unused ≡ epochs_of r.tries in
      nothing_behind (epochs_of r.tries) (round_state r).unused
      (subst P refining.tries (round_epochs r.rules (epochs_of r.tries)));
}

-- so are the tries of a session's round that is done, by the rules of the session's view
pub done_is_whole : (mesh : MeshLists) (t : SessionState) → IsSessionState mesh t → (view : ViewSeen)
    → t.view ≡ Some view → (has : HasDone t) → AreWhole (view_rules view mesh) has.round.tries
done_is_whole mesh t is view viewed has =
    let r = has.round in
    let running = is.running r has.there in
    let same : running.view ≡ view = same_Some running.view view (sym running.viewed ∙ viewed) in
    let rules : r.rules ≡ view_rules view mesh = running.rules ∙ ap (λ (v : ViewSeen). view_rules v mesh) same in
    subst (λ (rs : Rules). AreWhole rs r.tries) rules
    (record { whole = round_is_whole r running.refining has.done; tries_are = running.refining.tries })

-- a whole round isn't the beginning of another one
none_longer : (rules : Rules) (tries more : List Try) (rest : List ℕ) → AreWhole rules tries → AreWhole rules more
    → epochs_of tries ++ rest ≡ epochs_of more → more ≡ tries
none_longer rules tries more rest first second longer =
    sym second.tries_are
    ∙ ap (λ (epochs : List ℕ). (round_of rules epochs).tries) (sym longer)
    ∙ ap (λ (stand : RoundState). stand.tries) (round_through rules (epochs_of tries) rest first.whole.through)
    ∙ first.tries_are

pub whole_is_one : (rules : Rules) (tries more : List Try) → AreWhole rules tries → AreWhole rules more
    → AreGiven (epochs_of tries) (epochs_of more) → more ≡ tries
whole_is_one rules tries more first second (FirstOf rest is) = sym (none_longer rules more tries rest second first is)
whole_is_one rules tries more first second (GoPast rest is) = none_longer rules tries more rest first second is
