-- Each frame that is printed shows a whole round of its session's view.
use Rattle.std.proofs.Common.{◌≡◌, ℕ, suc, ◌+◌, Bool, true, false, ◌||◌, cond, List, [], ◌∷◌, ◌++◌, map, Option, Some, None, refl, sym, ap, subst, ◌∙◌, arith, inl, inr}
use Rattle.std.specs.Prelude.{slice_get, slice_index_or, IfSome}
use Rattle.std.specs.List.{flat_map}
use Rattle.std.specs.Option.{option_map_or, unwrap_or}
use Rattle.std.proofs.lemmas.Bool.{cond_both, or_right}
use Rattle.std.proofs.lemmas.Option.{same_Some}
use Rattle.grid_vertex.specs.declared.triangles.Triangle.{Triangle}
use Rattle.file_model.specs.declared.fields.PatchField.{PatchField}
use Rattle.file_model.specs.declared.fields.Try.{Try}
use Rattle.file_model.specs.Lists.{BodyLists, SeenBody, FileLists, no_body, triangles_of}
use Rattle.mesh_model.specs.Graph.{patches_from}
use Rattle.mesh_model.specs.Frames.{triangles_where, leads_out}
use Rattle.mesh_model.specs.Meshes.{MeshLists}
use Rattle.mesh_model.specs.Nets.{net}
use Rattle.mesh_model.specs.Accepted.{IsAccepted}
use Rattle.round_model.specs.declared.asks.Ask.TheVariants.{Done as NothingAsked}
use Rattle.round_model.specs.Order.{Rules}
use Rattle.round_model.specs.Rounds.{has, round_of, epochs_of, IsWhole}
use Rattle.round_model.specs.Refiners.{Refining, round_state, pending_ask, cut_of, cut_patches}
use Rattle.round_model.specs.Views.{ViewSeen, rules_of, view_rules}
use Rattle.round_laws.specs.Among.{is_among}
use Rattle.round_laws.specs.Cuts.{round_is_cut, round_boundary}
use Rattle.round_laws.specs.Arcs.{is_from, among_passing}
use Rattle.script_model.specs.declared.orders.Order.{Order}
use Rattle.session_model.specs.Locks.{round_locks}
use Rattle.session_model.specs.Sessions.{SessionState, is_left_over}
use Rattle.session_laws.specs.StateLaws.{running_mesh}
use Rattle.session_laws.specs.WholeLaws.{round_is_whole}
use Rattle.session_model.specs.DoneRounds.{HasDone}
use Rattle.session_laws.specs.FrameLocks.{frame_is_base_or_locked}
use Rattle.session_model.specs.Finishes.{Finishes}
use Rattle.text_model.specs.FrameText.{Frame}
use Rattle.text_model.specs.ShownCuts.{ShowsCut}
use Rattle.tier_model.specs.Tiers.{TierState}
use Rattle.tier_laws.specs.BodyLaws.{body_is_there}
use Rattle.tier_model.specs.Chains.{Chain}
use Rattle.run_model.specs.Worlds.{World, IsWorld}
use Rattle.run_model.specs.States.{State}
use Rattle.run_model.specs.Safe.{IsHeldAtTop, IsSafe}
use Rattle.run_laws.specs.SafeLaws.{events_keep_safe}
use Rattle.run_model.specs.Lines.{Did, DidOpen, DidView, DidStep, DidFrame, DidFree, DidClose, DidTurns, DidTell, top_body, frame_of, frame_with, Does, DoesOpen, DoesView, DoesStep, DoesFrame, DoesFree, DoesClose, DoesTurn, DoesSettle, DoesStatus, Runs, NoLine, OneLine}
use Rattle.run_laws.specs.RunLaws.{does_keeps_safe}
use Rattle.run_laws.specs.SessionReach.{finishes_go, finishes_view}

-- ---- the file and its frames

-- the file that the world tells, with these bodies
abbrev pub told_file : World → List BodyLists → FileLists
told_file w bodies = record { index = w.mesh.index; bodies = bodies }

-- the bodies are told, and are those of an accepted file
pub record IsTold (w : World) (bodies : List BodyLists) : Type 0 where
  pub told : w.bodies ≡ Some bodies
  pub accepted : IsAccepted (told_file w bodies) w.mesh.root

-- the frame is that of a whole round: its tries are the round's, and it shows the round's cut of the file
pub record ShowsRound (file : FileLists) (rules : Rules) (frame : Frame) : Type 0 where
  pub epochs : List ℕ
  pub whole : IsWhole (round_of rules epochs)
  pub tries : frame.tries ≡ (round_of rules epochs).tries
  pub shows : ShowsCut file rules.mesh.root (has (round_of rules epochs).set) frame

-- ---- the triangles of bodies that are the file's

pub none_left : (test : PatchField → Bool) (fields : List PatchField) → triangles_where test fields [] ≡ []
unfolding triangles_where
none_left test [] = refl
none_left test (f ∷ fs) = refl

abbrev body_triangles : SeenBody → List Triangle
body_triangles body = triangles_of body.lists

-- what is at each patch that passes is the body of the list
abbrev AreAt : (PatchField → Bool) → ℕ → (ℕ → SeenBody) → List PatchField → List BodyLists → Type 0
AreAt test first at fields bodies = (k : ℕ) (f : PatchField) → slice_get fields k ≡ Some f → test f ≡ true → slice_get bodies k ≡ Some (at (first + k)).lists

later_at : (test : PatchField → Bool) (first : ℕ) (at : ℕ → SeenBody) (f : PatchField) (fields : List PatchField) (bodies : List BodyLists) → ((k : ℕ) (g : PatchField) → slice_get (f ∷ fields) (suc k) ≡ Some g → test g ≡ true → slice_get bodies k ≡ Some (at (first + suc k)).lists) → AreAt test (first + 1) at fields bodies
later_at test first at f fields bodies are k g there passes =
    let number : first + suc k ≡ first + 1 + k = omega arith in
    are k g there passes ∙ ap (λ (n : ℕ). Some (at n).lists) number

chosen_triangles : (test : PatchField → Bool) (first : ℕ) (at : ℕ → SeenBody) (fields : List PatchField) (bodies : List BodyLists) → AreAt test first at fields bodies → flat_map body_triangles (map at (patches_from first test fields)) ≡ triangles_where test fields bodies
unfolding patches_from triangles_where
chosen_triangles test first at [] bodies are = refl
chosen_triangles test first at (f ∷ fs) [] are =
    cond_both (test f) (first ∷ patches_from (first + 1) test fs) (patches_from (first + 1) test fs) (λ (ps : List ℕ). flat_map body_triangles (map at ps) ≡ [])
    (λ passes. absurd (let there = are 0 f refl passes in cc))
    (λ fails. chosen_triangles test (first + 1) at fs [] (later_at test first at f fs [] (λ k g there passes. absurd (let none = are (suc k) g there passes in cc))) ∙ none_left test fs)
chosen_triangles test first at (f ∷ fs) (b ∷ bs) are =
    let rest = chosen_triangles test (first + 1) at fs bs (later_at test first at f fs bs (λ k. are (suc k))) in
    chosen (test f) refl rest
  where
    chosen : (passes : Bool) → test f ≡ passes → flat_map body_triangles (map at (patches_from (first + 1) test fs)) ≡ triangles_where test fs bs
        → flat_map body_triangles (map at (cond passes (first ∷ patches_from (first + 1) test fs) (patches_from (first + 1) test fs))) ≡ cond passes (triangles_of b ++ triangles_where test fs bs) (triangles_where test fs bs)
    chosen true passes rest =
        let here = are 0 f refl passes in
        let number : first + 0 ≡ first = omega arith in
        let same : b ≡ (at first).lists = same_Some b (at first).lists (here ∙ ap (λ (n : ℕ). Some (at n).lists) number) in
        ap (λ (ts : List Triangle). body_triangles (at first) ++ ts) rest ∙ ap (λ (lists : BodyLists). triangles_of lists ++ triangles_where test fs bs) (sym same)
    chosen false fails rest = rest

-- ---- what is held in a safe state

-- the body of a patch that is held at the top
pub held_body : (w : World) (c : State) (p : ℕ) (held : IsHeldAtTop w c p) → top_body c.chain.tiers p ≡ held.body
held_body w c p held =
    ap (λ (o : Option TierState). option_map_or (λ (top : TierState). unwrap_or (slice_index_or top.held p None) no_body) o no_body) held.is_top
    ∙ ap (λ (o : Option SeenBody). unwrap_or o no_body) (body_is_there held.top.held p held.body held.holds)

-- each patch of the frame of a session's round is held
pub frame_held : (w : World) (c : State) → IsSafe w c → (i : ℕ) (t : SessionState) → c.sessions i ≡ Some t → (r : Refining) → t.round ≡ Some r → (p : ℕ) → is_among (cut_patches r) p ≡ true → IsHeldAtTop w c p
frame_held w c safe i t at r there p among =
    let running = (safe.seats i t at).running r there in
    elim (frame_is_base_or_locked r running.refining p among) [
      | inl base ↦ safe.base_is_held p (subst (λ (m : MeshLists). is_from m.index.fields m.root p ≡ true) (running_mesh w.mesh t r running) base)
      | inr held ↦ safe.locked_are_held i t p at (ap (λ (o : Option Refining). is_left_over t p || option_map_or (λ (q : Refining). round_locks q p) o false) there ∙ or_right (is_left_over t p) (round_locks r p) held)
    ]

module _ (w : World) (bodies : List BodyLists) (is_told : IsTold w bodies) where
  held_lists : (c : State) (p : ℕ) → IsHeldAtTop w c p → slice_get bodies p ≡ Some (top_body c.chain.tiers p).lists
  held_lists c p held =
      subst (λ (o : Option (List BodyLists)). IfSome o (λ bs. slice_get bs p ≡ Some held.body.lists)) is_told.told held.of_file.told
      ∙ ap (λ (b : SeenBody). Some b.lists) (sym (held_body w c p held))

  module _ (view : ViewSeen) (tries : List Try) (owed : List ℕ) where
    abbrev round : Refining
    round = record { rules = view_rules view w.mesh; tries = tries; owed = owed }

    abbrev in_cut : ℕ → Bool
    in_cut = has (round_state round).set

    bodies_at : (c : State) → IsSafe w c → (i : ℕ) (t : SessionState) → c.sessions i ≡ Some t → t.round ≡ Some round → AreAt (leads_out in_cut) 0 (top_body c.chain.tiers) w.mesh.index.fields bodies
    unfolding rules_of cut_patches
    bodies_at c safe i t at there k f here passes =
        let number : k ≡ 0 + k = omega arith in
        let among : is_among (cut_patches round) k ≡ true = among_passing (leads_out in_cut) w.mesh.index.fields k ∙ ap (λ (o : Option PatchField). option_map_or (leads_out in_cut) o false) here ∙ passes in
        held_lists c k (frame_held w c safe i t at round there k among) ∙ ap (λ (n : ℕ). Some (top_body c.chain.tiers n).lists) number

    shows_round : (c : State) → IsSafe w c → (i : ℕ) (t : SessionState) → c.sessions i ≡ Some t → t.round ≡ Some round → pending_ask round ≡ NothingAsked → ShowsRound (told_file w bodies) (view_rules view w.mesh) (frame_of c.chain.tiers i t round)
    unfolding rules_of frame_of frame_with cut_of cut_patches
    shows_round c safe i t at there done =
        let refining = ((safe.seats i t at).running round there).refining in
        let triangles = chosen_triangles (leads_out in_cut) 0 (top_body c.chain.tiers) w.mesh.index.fields bodies (bodies_at c safe i t at there) in
        record {
          epochs = epochs_of tries;
          whole = round_is_whole round refining done;
          tries = sym refining.tries;
          shows = record {
            cut = round_is_cut (view_rules view w.mesh) refining.mesh (epochs_of tries);
            nodes = refl;
            patches = refl;
            triangles = triangles;
            boundary = λ a b. ap (λ (ts : List Triangle). net ts a b) triangles ∙ round_boundary (view_rules view w.mesh) (told_file w bodies) (epochs_of tries) refining.mesh is_told.accepted refl a b;
          };
        }

  -- ---- the frame of a line

  of_view : (c : State) → IsSafe w c → (i : ℕ) (t : SessionState) (view : ViewSeen) → c.sessions i ≡ Some t → t.view ≡ Some view → (done : HasDone t) → ShowsRound (told_file w bodies) (view_rules view w.mesh) (frame_of c.chain.tiers i t done.round)
  of_view c safe i t view at viewed done =
      let r = done.round in
      let running = (safe.seats i t at).running r done.there in
      let same : running.view ≡ view = same_Some running.view view (sym running.viewed ∙ viewed) in
      let rules : r.rules ≡ view_rules view w.mesh = running.rules ∙ ap (λ (v : ViewSeen). view_rules v w.mesh) same in
      let is : r ≡ round view r.tries r.owed = ap (λ (rs : Rules). record r { rules = rs }) rules in
      subst (λ (q : Refining). ShowsRound (told_file w bodies) (view_rules view w.mesh) (frame_of c.chain.tiers i t q)) (sym is)
      (shows_round view r.tries r.owed c safe i t at (done.there ∙ ap (λ (q : Refining). Some q) is) (subst (λ (q : Refining). pending_ask q ≡ NothingAsked) is done.done))

  pub frame_shows : (a : State) → IsWorld w → IsSafe w a → (i : ℕ) (s t : SessionState) (view : ViewSeen) (tries : List (ℕ × ℕ)) → a.sessions i ≡ Some s → s.view ≡ Some view → Finishes w.mesh true a.chain.epochs s tries t → (done : HasDone t)
      → ShowsRound (told_file w bodies) (view_rules view w.mesh) (frame_of a.chain.tiers i t done.round)
  frame_shows a world safe i s t view tries at viewed finishes done =
      let goes = finishes_go w a i s view at viewed tries t finishes in
      subst (λ (chain : Chain). ShowsRound (told_file w bodies) (view_rules view w.mesh) (frame_of chain.tiers i t done.round)) goes.1.chain
      (of_view goes.0 (events_keep_safe w a goes.0 world safe goes.1.reaches) i t view goes.1.at (finishes_view w.mesh a.chain.epochs s tries t finishes ∙ viewed) done)

-- the frame is the next of a session that has a view in this state: the session's own tries, each answered by its patch's
-- epoch in this state, end its round, and the frame is of that round, which is a whole one of the view
pub record IsPrinted (w : World) (bodies : List BodyLists) (a : State) (frame : Frame) : Type 0 where
  pub s : SessionState
  pub at : a.sessions frame.session ≡ Some s
  pub view : ViewSeen
  pub viewed : s.view ≡ Some view
  pub tries : List (ℕ × ℕ)
  pub t : SessionState
  pub finishes : Finishes w.mesh true a.chain.epochs s tries t
  pub done : HasDone t
  pub is : frame ≡ frame_of a.chain.tiers frame.session t done.round
  pub shows : ShowsRound (told_file w bodies) (view_rules view w.mesh) frame

-- of the frame that a line printed
abbrev pub IfFrame : Did → (Frame → Type 0) → Type 0
IfFrame (DidFrame frame) P = P frame
IfFrame (DidOpen i) P = Unit {0}
IfFrame (DidView i) P = Unit {0}
IfFrame (DidStep i did) P = Unit {0}
IfFrame (DidFree i unlocks) P = Unit {0}
IfFrame (DidClose i unlocks) P = Unit {0}
IfFrame (DidTurns log) P = Unit {0}
IfFrame (DidTell tiers) P = Unit {0}

pub prints_frame : (w : World) (bodies : List BodyLists) (a b : State) (order : Order) (did : Did) → IsTold w bodies → IsWorld w → IsSafe w a → Does w a order did b → IfFrame did (IsPrinted w bodies a)
unfolding frame_of frame_with
prints_frame w bodies a b order did is_told world safe (DoesFrame i s t view tries done at viewed finishes) = record {
  s = s;
  at = at;
  view = view;
  viewed = viewed;
  tries = tries;
  t = t;
  finishes = finishes;
  done = done;
  is = refl;
  shows = frame_shows w bodies is_told a world safe i s t view tries at viewed finishes done;
}
prints_frame w bodies a b order did is_told world safe (DoesOpen i number closed) = tt
prints_frame w bodies a b order did is_told world safe (DoesView i s view at) = tt
prints_frame w bodies a b order did is_told world safe (DoesStep i s view at viewed) = tt
prints_frame w bodies a b order did is_told world safe (DoesFree i unlocks s t at frees) = tt
prints_frame w bodies a b order did is_told world safe (DoesClose i unlocks s t at frees) = tt
prints_frame w bodies a b order did is_told world safe (DoesTurn k answer turn) = tt
prints_frame w bodies a b order did is_told world safe (DoesSettle settles) = tt
prints_frame w bodies a b order did is_told world safe DoesStatus = tt

-- each frame of a run is printed so in the state in which its line begins
abbrev pub PrintsAlong : (w : World) (bodies : List BodyLists) (a b : State) (orders : List Order) (dids : List Did) → Runs w a orders dids b → Type 0
PrintsAlong w bodies a b _ _ NoLine = Unit {0}
PrintsAlong w bodies a c _ _ (OneLine {b = b} {orders = orders} {did = did} {dids = dids} does rest) = IfFrame did (IsPrinted w bodies a) × PrintsAlong w bodies b c orders dids rest

pub prints_along : (w : World) (bodies : List BodyLists) (a b : State) (orders : List Order) (dids : List Did) → IsTold w bodies → IsWorld w → IsSafe w a → (runs : Runs w a orders dids b) → PrintsAlong w bodies a b orders dids runs
prints_along w bodies a b _ _ is_told world safe NoLine = tt
prints_along w bodies a c _ _ is_told world safe (OneLine {b = b} {order = order} {orders = orders} {did = did} {dids = dids} does rest) =
    (prints_frame w bodies a b order did is_told world safe does, prints_along w bodies b c orders dids is_told world (does_keeps_safe w a b order did world safe does) rest)
