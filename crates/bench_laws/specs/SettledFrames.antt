-- Behind a settling that had room for all that is wished, a frame shows the detail that its view wants.
use Rattle.std.proofs.Common.{◌≡◌, ℕ, zero, suc, ◌+◌, ◌-◌, ◌<◌, ◌≤◌, Bool, true, false, eqb, List, [], ◌∷◌, length, map, Option, Some, refl, sym, ap, subst, ◌∙◌, arith, inl, inr}
use Rattle.std.specs.Prelude.{slice_get}
use Rattle.std.specs.List.{range_with_len}
use Rattle.std.specs.Option.{option_map, option_map_or}
use Rattle.std.proofs.lemmas.Bool.{cond_both, cond-true, cases_eq, eq-eqb, eqb-true, or_cases, or_left, or_right, lt-ltb}
use Rattle.std.proofs.lemmas.List.{length-map}
use Rattle.std.proofs.lemmas.Option.{same_Some}
use Rattle.file_model.specs.declared.fields.PatchField.{PatchField}
use Rattle.file_model.specs.Lists.{BodyLists}
use Rattle.mesh_model.specs.Graph.{is_root, numbers_from}
use Rattle.mesh_model.specs.Meshes.{IsMesh}
use Rattle.round_model.specs.Order.{Rules}
use Rattle.round_model.specs.Rounds.{has, round_of}
use Rattle.round_model.specs.Views.{ViewSeen, rules_of, view_rules}
use Rattle.round_laws.specs.Among.{is_among}
use Rattle.round_laws.specs.Cuts.{round_as_many}
use Rattle.round_laws.specs.Parents.{FallsAlong, falls_from_eye}
use Rattle.script_model.specs.declared.orders.Order.TheVariants as orders
use Rattle.session_model.specs.Sessions.{SessionState}
use Rattle.session_model.specs.DoneRounds.{HasDone}
use Rattle.session_model.specs.Finishes.{Finishes}
use Rattle.text_model.specs.FrameText.{Frame}
use Rattle.token_words.specs.declared.session_sets.TheConstants.{SESSIONS}
use Rattle.token_words.specs.Sessions.{IsSession, session_count}
use Rattle.tier_model.specs.declared.turns.Turn.{Turn}
use Rattle.tier_model.specs.Places.{is_marked}
use Rattle.tier_model.specs.Tiers.{TierState, base_marks}
use Rattle.tier_model.specs.Ranks.{Posted}
use Rattle.tier_model.specs.Chains.{is_top}
use Rattle.tier_model.specs.Settling.{Settles}
use Rattle.detail_laws.specs.Needs.{IsTierReady, AreReady}
use Rattle.detail_laws.specs.Wanted.{AreAnsweredBy, IsPosted, SettlesWell, IsRoundOf}
use Rattle.detail_laws.specs.Reached.{reached_detail}
use Rattle.run_model.specs.Worlds.{World, is_base, IsWorld}
use Rattle.run_model.specs.States.{State, board_of, posted_views, posted_by}
use Rattle.run_model.specs.Safe.{IsSafe}
use Rattle.run_laws.specs.Sound.{sound_safe, safe_sound}
use Rattle.run_model.specs.Kept.{seat_view, IsKept}
use Rattle.run_model.specs.Lines.{DidFrame, DidTurns, frame_of, frame_with, SettlesTo, Does, DoesFrame, DoesSettle}
use Rattle.run_model.specs.RunTexts.{turn_outcomes}
use Rattle.run_laws.specs.PrintedFrames.{IsTold, frame_shows}
use Rattle.bench_laws.specs.Settlings.{NeverFails, in_use, was_passed, passed_or_used, KeepsBases, IsReadyToSettle, IsReadyToShow, ShowsWanted}
use Rattle.bench_laws.specs.SettlingRuns.{HasSettled, has_settled}
use Rattle.bench_laws.specs.FinishedTries.{finished_answered}

-- ---- what a line did

-- the session finished a round, and this is its frame
pub record IsFrameLine (w : World) (b : State) (i : ℕ) (frame : Frame) : Type 0 where
  pub s : SessionState
  pub at : b.sessions i ≡ Some s
  pub view : ViewSeen
  pub viewed : s.view ≡ Some view
  pub t : SessionState
  pub tries : List (ℕ × ℕ)
  pub finishes : Finishes w.mesh true b.chain.epochs s tries t
  pub done : HasDone t
  pub is : frame_of b.chain.tiers i t done.round ≡ frame

pub frame_line : (w : World) (b : State) (i : ℕ) (frame : Frame) (c : State) → Does w b (orders.Frame i) (DidFrame frame) c → IsFrameLine w b i frame
frame_line w b i frame c (DoesFrame _ s t view tries done at viewed finishes) = record {
  s = s;
  at = at;
  view = view;
  viewed = viewed;
  t = t;
  tries = tries;
  finishes = finishes;
  done = done;
  is = refl;
}

pub settle_line : (w : World) (a b : State) (log : List (ℕ × Turn)) → Does w a orders.Settle (DidTurns log) b → SettlesTo w (length w.budgets) a log b
settle_line w a b log (DoesSettle settles) = settles

-- ---- what is posted

mapped_at : {A : Type 0} (f : ℕ → A) (n first k : ℕ) → k < n → slice_get (map f (range_with_len first n)) k ≡ Some (f (first + k))
mapped_at f zero first k within = absurd (omega arith)
mapped_at f (suc n) first zero within = let same : first ≡ first + 0 = omega arith in ap (λ (j : ℕ). Some (f j)) same
mapped_at f (suc n) first (suc k) within = let same : first + 1 + k ≡ first + suc k = omega arith in mapped_at f n (first + 1) k (omega arith) ∙ ap (λ (j : ℕ). Some (f j)) same

view_at : (posted : ℕ → Option Posted) (i : ℕ) → IsSession i → slice_get (posted_views posted) (i - 1) ≡ Some (posted i)
view_at posted i number =
    let first = number.0 in
    let last = number.1 in
    let same : 1 + (i - 1) ≡ i = omega arith in
    mapped_at posted SESSIONS 1 (i - 1) (omega arith) ∙ ap (λ (j : ℕ). Some (posted j)) same

-- ---- the nodes of a cut

listed_passes : (test : ℕ → Bool) (n first v : ℕ) → is_among (numbers_from first n test) v ≡ true → test v ≡ true
unfolding numbers_from
listed_passes test zero first v there = absurd (cc)
listed_passes test (suc n) first v there =
    cond_both (test first) (first ∷ numbers_from (first + 1) n test) (numbers_from (first + 1) n test) (λ (ks : List ℕ). is_among ks v ≡ true → test v ≡ true)
    (λ passes among. elim (or_cases (eqb first v) (is_among (numbers_from (first + 1) n test) v) among) [
      | inl here ↦ subst (λ (k : ℕ). test k ≡ true) (eqb-true first v here) passes
      | inr later ↦ listed_passes test n (first + 1) v later
    ])
    (λ fails among. listed_passes test n (first + 1) v among) there

passes_listed : (test : ℕ → Bool) (n first v : ℕ) → first ≤ v → v < first + n → test v ≡ true → is_among (numbers_from first n test) v ≡ true
unfolding numbers_from
passes_listed test zero first v from below passes = absurd (omega arith)
passes_listed test (suc n) first v from below passes =
    elim (cases_eq first v) [
      | inl here ↦
          let first_passes : test first ≡ true = ap test here ∙ passes in
          subst (λ (ks : List ℕ). is_among ks v ≡ true) (sym (cond-true (test first) (first ∷ numbers_from (first + 1) n test) (numbers_from (first + 1) n test) first_passes))
          (or_left (eqb first v) (is_among (numbers_from (first + 1) n test) v) (eq-eqb first v here))
      | inr apart ↦
          let rest = passes_listed test n (first + 1) v (omega arith) (omega arith) passes in
          cond_both (test first) (first ∷ numbers_from (first + 1) n test) (numbers_from (first + 1) n test) (λ (ks : List ℕ). is_among ks v ≡ true)
          (λ listed. or_right (eqb first v) (is_among (numbers_from (first + 1) n test) v) rest) (λ left_out. rest)
    ]

has_within : (set : List Bool) (v : ℕ) → has set v ≡ true → v < 0 + length set
has_within [] v had = absurd (cc)
has_within (b ∷ set) zero had = omega arith
has_within (b ∷ set) (suc v) had = let rest = has_within set v had in omega arith

-- ---- a settling that had room

module _ (w : World) (world : IsWorld w) (a : State) (safe : IsSafe w a) (kept : IsKept w a) (bases : KeepsBases a) (ready : IsReadyToSettle w a) where
  tier_ready : (k : ℕ) (t : TierState) → slice_get a.chain.tiers k ≡ Some t → IsTierReady (board_of w a) (passed_or_used a k) t
  tier_ready k t at = record {
    is_tier = safe.tiers k t at;
    keeps_base = bases k t at;
    keeps_wishes = kept.wishes.wishes k t at;
    room = ready.room k t at;
    calm = record {
      none_aside = ready.none_aside k t at;
      passed = λ p passed.
          or_left (was_passed a k p) (in_use a k p)
          (ap (λ (o : Option TierState). option_map_or (λ (u : TierState). is_marked u.passed p) o false) at ∙ passed);
    };
  }

  used_are : (p : ℕ) → 1 ≤ session_count (λ i. a.users i p) → passed_or_used a 0 p ≡ true
  unfolding is_top
  used_are p some = or_right (was_passed a 0 p) (in_use a 0 p) (lt-ltb 0 (session_count (λ i. a.users i p)) (omega arith))

  pub are_ready : AreReady (board_of w a) (passed_or_used a) (base_marks w.mesh.index.fields) (length a.chain.tiers) a.chain
  are_ready = record {
    each = λ k t within at. tier_ready k t at;
    same_base = λ k t within at. (safe.set_up k t at).made.base;
    low = λ p within. ready.low p (subst (λ (n : ℕ). p < n) (length-map w.mesh.index.fields (λ (f : PatchField). is_root w.mesh.index.fields f.tail)) within);
  }

  pub settled : (b : State) (log : List (ℕ × Turn)) → SettlesTo w (length w.budgets) a log b → NeverFails (turn_outcomes w log) → HasSettled w (passed_or_used a) (length w.budgets) a b log
  settled b log settles never = has_settled w (passed_or_used a) (length w.budgets) a b log (safe_sound w a safe) used_are settles never

  pub settled_chain : (b : State) (log : List (ℕ × Turn)) → SettlesTo w (length w.budgets) a log b → NeverFails (turn_outcomes w log) → Settles (board_of w a) (length a.chain.tiers) a.chain log b.chain
  settled_chain b log settles never = subst (λ (n : ℕ). Settles (board_of w a) n a.chain log b.chain) (sym safe.many) (settled b log settles never).chain

  module _ (i : ℕ) (view : ViewSeen) (show : IsReadyToShow w a i view) where
    abbrev rules : Rules
    rules = view_rules view w.mesh

    settles_well : (b : State) (log : List (ℕ × Turn)) → SettlesTo w (length w.budgets) a log b → NeverFails (turn_outcomes w log) → SettlesWell rules (board_of w a) (passed_or_used a) a.chain b.chain log
    unfolding rules_of
    settles_well b log settles never = record {
      some_tier = subst (λ (n : ℕ). 1 ≤ n) (sym safe.many) world.some_tier;
      settles = settled_chain b log settles never;
      ready = are_ready;
      well = (settled b log settles never).well;
      pinned = is_base w;
      tied = (safe_sound w a safe).tied;
    }

    pub is_posted : IsPosted rules (board_of w a)
    unfolding board_of rules_of
    is_posted = record {
      views = posted_views a.posted;
      wishes = λ p. refl;
      place = i - 1;
      posted =
          view_at a.posted i (safe.numbers i show.session show.at)
          ∙ ap (λ (o : Option Posted). Some o) (kept.posted.each i ∙ ap (λ (o : Option SessionState). option_map (posted_by w) (seat_view o)) show.at ∙ ap (λ (o : Option ViewSeen). option_map (posted_by w) o) show.viewed);
    }

    falls : FallsAlong rules
    unfolding rules_of
    falls = falls_from_eye view.eye view.focal rules world.mesh (record { scores = refl })

    rules_accepted : IsMesh rules.mesh
    unfolding rules_of
    rules_accepted = world.mesh

    node_within : (epochs : List ℕ) (v : ℕ) → has (round_of rules epochs).set v ≡ true → v < 0 + length w.mesh.index.nodes
    unfolding rules_of
    node_within epochs v had = subst (λ (n : ℕ). v < 0 + n) (round_as_many rules epochs) (has_within (round_of rules epochs).set v had)

    module _ (bodies : List BodyLists) (is_told : IsTold w bodies) (b : State) (log : List (ℕ × Turn)) (settles : SettlesTo w (length w.budgets) a log b) (never : NeverFails (turn_outcomes w log)) where
      after : HasSettled w (passed_or_used a) (length w.budgets) a b log
      after = settled b log settles never

      frame_wanted : (t : SessionState) (tries : List (ℕ × ℕ)) (done : HasDone t) → Finishes w.mesh true b.chain.epochs show.session tries t → ShowsWanted w bodies view (frame_of b.chain.tiers i t done.round)
      unfolding frame_of frame_with
      frame_wanted t tries done finishes =
          let at = ap (λ (sessions : ℕ → Option SessionState). sessions i) after.sessions ∙ show.at in
          let shows = frame_shows w bodies is_told b world (sound_safe w b world after.sound) i show.session t view tries at show.viewed finishes done in
          let answered = finished_answered w.mesh world.mesh b.chain.epochs show.session (safe.seats i show.session show.at) show.fresh view show.viewed tries t finishes done in
          let round : IsRoundOf rules (board_of w a) b.chain.epochs shows.epochs = record {
            mesh = rules_accepted;
            falls = falls;
            posted = is_posted;
            fits = show.fits;
            through = shows.whole.through;
            answered = subst (AreAnsweredBy b.chain.epochs) shows.tries answered;
          } in
          let reached = reached_detail rules (board_of w a) (passed_or_used a) a.chain b.chain log shows.epochs (settles_well b log settles never) round in
          let nodes = length w.mesh.index.nodes in
          let set = (round_of rules shows.epochs).set in
          record {
            shows = shows;
            joined = λ v. (reached v).0;
            all_joined = λ v. (reached v).1;
            listed = λ v there. (reached v).0 (listed_passes (has set) nodes 0 v (subst (λ (ns : List ℕ). is_among ns v ≡ true) shows.shows.nodes there));
            all_listed = λ v wanted.
                let had = (reached v).1 wanted in
                subst (λ (ns : List ℕ). is_among ns v ≡ true) (sym shows.shows.nodes)
                (passes_listed (has set) nodes 0 v (omega arith) (node_within shows.epochs v had) had);
          }

      pub shows_wanted : (frame : Frame) → IsFrameLine w b i frame → ShowsWanted w bodies view frame
      shows_wanted frame line =
          let same : line.s ≡ show.session = same_Some line.s show.session (sym line.at ∙ ap (λ (sessions : ℕ → Option SessionState). sessions i) after.sessions ∙ show.at) in
          subst (ShowsWanted w bodies view) line.is
          (frame_wanted line.t line.tries line.done (subst (λ (s : SessionState). Finishes w.mesh true b.chain.epochs s line.tries line.t) same line.finishes))
