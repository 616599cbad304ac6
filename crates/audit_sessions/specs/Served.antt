-- What is kept of a session as it opens, gets a view and prints a frame.
use Rattle.std.proofs.Common.{◌≡◌, ℕ, ◌+◌, Bool, false, ◌||◌, List, [], ◌∷◌, length, map, Option, Some, refl, sym, ap, ◌∙◌}
use Rattle.std.specs.Option.{option_map_or}
use Rattle.std.proofs.Math.Bool.{or-false}
use Rattle.std.proofs.lemmas.Option.{same_Some}
use Rattle.file_model.specs.declared.fields.Try.{Try}
use Rattle.mesh_model.specs.Meshes.{MeshLists, IsMesh}
use Rattle.round_model.specs.declared.asks.Ask.TheVariants.{Done as NothingAsked}
use Rattle.round_model.specs.Rounds.{NodeInProgress}
use Rattle.round_model.specs.Refiners.{Refining, round_state, next_ask, pending_ask}
use Rattle.round_model.specs.Views.{ViewSeen, view_rules}
use Rattle.session_model.specs.Counts.{count_below, same_count}
use Rattle.session_model.specs.Locks.{round_locks}
use Rattle.session_model.specs.Sessions.{SessionState, is_left_over, is_in_flight, uses, opened, round_ended, with_view, printed_once}
use Rattle.session_model.specs.SessionStates.{IsSessionState}
use Rattle.session_model.specs.DoneRounds.{HasDone, AreWhole}
use Rattle.session_model.specs.Freeing.{uses_left}
use Rattle.session_model.specs.Finishes.{Finishes, pairs_of}
use Rattle.session_model.specs.Told.{SessionTold}
use Rattle.session_laws.specs.StateLaws.{opened_is, opened_uses, ended_many, viewed_is, viewed_locks, printed_is}
use Rattle.session_laws.specs.FinishLaws.{finished, finished_tries}
use Rattle.session_laws.specs.GivenAnswers.{whole_finishes}
use Rattle.session_laws.specs.ToldLaws.{told_finishes}
use Rattle.audit_frames.specs.Answers.{answered}
use Rattle.audit_sessions.specs.Summaries.{Summary, fresh, summary_with_view, summary_printed, Stands, CanPrint}
use Rattle.audit_sessions.specs.Freed.{count_none}

-- ---- open and view

pub stands_opened : (mesh : MeshLists) → Stands mesh (opened (length mesh.index.fields)) fresh
unfolding opened uses_left
stands_opened mesh = record {
  is = opened_is mesh;
  view = refl;
  frames = refl;
  locks = count_none (length (opened (length mesh.index.fields)).leftover) (uses (opened (length mesh.index.fields)))
      (opened_uses (length mesh.index.fields));
  no_flight = refl;
  none_going = refl;
}

viewed_uses : (mesh : MeshLists) (s : SessionState) (view : ViewSeen) → IsSessionState mesh s
    → uses_left (with_view view s) ≡ uses_left s
unfolding uses_left with_view round_ended
viewed_uses mesh s view is =
    let same = same_count (length s.leftover) (uses s) (uses (with_view view s))
    (λ p. ap (λ (b : Bool). b || is_in_flight s.flight p) (viewed_locks mesh s view is p)) in
    ap (λ (n : ℕ). count_below n (uses (with_view view s))) (ended_many s) ∙ same

pub stands_viewed : (mesh : MeshLists) (s : SessionState) (view : ViewSeen) (m : Summary) → Stands mesh s m
    → Stands mesh (with_view view s) (summary_with_view view m)
unfolding with_view round_ended
stands_viewed mesh s view m stands = record {
  is = viewed_is mesh s view stands.is;
  view = refl;
  frames = stands.frames;
  locks = viewed_uses mesh s view stands.is ∙ stands.locks;
  no_flight = stands.no_flight;
  none_going = refl;
}

-- ---- a round that is done

none_owed : (owed : List ℕ) (at : Option NodeInProgress) → next_ask owed at ≡ NothingAsked → owed ≡ []
none_owed [] at is = refl
none_owed (p ∷ ps) at is = absurd (cc)

-- the round of a session that has finished is the one that its answers determine
pub done_is_answered : (mesh : MeshLists) (t : SessionState) → IsSessionState mesh t → (view : ViewSeen)
    → t.view ≡ Some view → (done : HasDone t) → done.round ≡ answered (view_rules view mesh) done.round.tries
unfolding pending_ask
done_is_answered mesh t is view viewed done =
    let r = done.round in
    let running = is.running r done.there in
    let same : running.view ≡ view = same_Some running.view view (sym running.viewed ∙ viewed) in
    let rules : r.rules ≡ view_rules view mesh = running.rules ∙ ap (λ (v : ViewSeen). view_rules v mesh) same in
    let owed : r.owed ≡ [] = none_owed r.owed (round_state r).at done.done in
    λ i. record { rules = rules i; tries = r.tries; owed = owed i }

done_uses : (mesh : MeshLists) (t : SessionState) → IsSessionState mesh t → (done : HasDone t)
    → uses_left (printed_once t) ≡ count_below (length mesh.index.fields) (round_locks done.round)
unfolding uses_left printed_once
done_uses mesh t is done =
    let r = done.round in
    let running = is.running r done.there in
    let each : (p : ℕ) → uses (printed_once t) p ≡ round_locks r p = λ p.
    ap (λ (o : Option ℕ).
    (is_left_over t p || option_map_or
    (λ (q : Refining). round_locks q p) t.round false) || is_in_flight o p) done.no_flight
    ∙ ap (λ (o : Option Refining).
    (is_left_over t p || option_map_or (λ (q : Refining). round_locks q p) o false) || false) done.there
    ∙ ap (λ (b : Bool). (b || round_locks r p) || false) (running.no_old p)
    ∙ or-false (round_locks r p) in
    ap (λ (n : ℕ). count_below n (uses (printed_once t))) is.many
    ∙ same_count (length mesh.index.fields) (round_locks r) (uses (printed_once t)) each

-- what is kept of a session that has finished a round and printed it
pub stands_printed : (mesh : MeshLists) → IsMesh mesh
    → (told : Bool) (epochs : ℕ → ℕ) (s t : SessionState) (m : Summary) (view : ViewSeen) (tries : List (ℕ × ℕ))
    → Stands mesh s m → s.view ≡ Some view → Finishes mesh told epochs s tries t → (done : HasDone t)
    → Stands mesh (printed_once t) (summary_printed mesh view done.round.tries m)
unfolding printed_once
stands_printed mesh accepted told epochs s t m view tries stands viewed finishes done =
    let after = finished mesh accepted told epochs s stands.is view viewed tries t finishes in
    let kept = told_finishes mesh told epochs s tries t finishes in
    let t_view : t.view ≡ s.view = ap (λ (x : SessionTold). x.view) kept in
    record {
      is = printed_is mesh t after.is;
      view = t_view ∙ stands.view;
      frames = ap (λ (x : SessionTold). x.frames + 1) kept ∙ ap (λ (n : ℕ). n + 1) stands.frames;
      locks = done_uses mesh t after.is done ∙ ap
          (λ (r : Refining). count_below (length mesh.index.fields) (round_locks r))
          (done_is_answered mesh t after.is view (t_view ∙ viewed) done);
      no_flight = done.no_flight;
      none_going = refl;
    }

-- ---- answers that make a whole round

try_of_pair : ℕ × ℕ → Try
try_of_pair pair = record { patch = pair.0; epoch = pair.1 }

tries_back : (tries : List Try) → map try_of_pair (pairs_of tries) ≡ tries
unfolding try_of_pair
tries_back [] = refl
tries_back (t ∷ ts) = ap (λ (rest : List Try). t ∷ rest) (tries_back ts)

-- a session of which nothing goes on finishes a round with any whole answers
pub prints_whole : (mesh : MeshLists) → IsMesh mesh
    → (epochs : ℕ → ℕ) (s : SessionState) (m : Summary) (view : ViewSeen) (tries : List Try) → Stands mesh s m
    → s.view ≡ Some view → AreWhole (view_rules view mesh) tries → CanPrint mesh epochs s view tries
prints_whole mesh accepted epochs s m view tries stands viewed whole =
    let printing = whole_finishes mesh accepted epochs s stands.is stands.none_going view viewed tries whole in
    let has = finished_tries mesh accepted false epochs s stands.is stands.none_going view viewed
    (pairs_of tries) printing.last printing.finishes in
    let after = finished mesh accepted false epochs s stands.is view viewed
    (pairs_of tries) printing.last printing.finishes in
    let kept = told_finishes mesh false epochs s (pairs_of tries) printing.last printing.finishes in
    let same : has.0.round.tries ≡ tries = sym (tries_back has.0.round.tries)
    ∙ ap (λ (pairs : List (ℕ × ℕ)). map try_of_pair pairs) has.1 ∙ tries_back tries in
    record {
      last = printing.last;
      finishes = printing.finishes;
      done = has.0;
      round_is =
          done_is_answered mesh printing.last after.is view (ap (λ (x : SessionTold). x.view) kept ∙ viewed) has.0
          ∙ ap (λ (ts : List Try). answered (view_rules view mesh) ts) same;
    }
