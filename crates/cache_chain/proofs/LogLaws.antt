-- The log grows by the turns that are made.
use Rattle.std.proofs.Common.{◌≡◌, ◌≢◌, ℕ, zero, suc, ◌+◌, ◌*◌, ◌<◌, ◌≤◌, List, [], ◌∷◌, ◌++◌, length, Some, Result, Ok, Err, OnErr, refl, sym, ap, subst, ◌∙◌, arith, append_assoc, append-nil}
use Rattle.std.specs.Prelude.{slice_get}
use Rattle.std.proofs.lemmas.List.{length_push, length-map, map-append}
use Rattle.file_model.specs.Lists.{body_size}
use Rattle.tier_model.specs.declared.turns.Turn.{Turn}
use Rattle.tier_model.specs.declared.turns.Turn.TheVariants.{Idle}
use Rattle.tier_model.specs.Tiers.{TierState, count}
use Rattle.settling_laws.specs.Midway.{midway-begins, midway-turned, midway-idles, midway-few, half-begins, half-settled, half-ends, IsMidway}
use Rattle.cache_chain.specs.declared.parts.TurnLine.{TurnLine}
use Rattle.cache_chain.specs.TurnRuns.{Setting, Moment, chain_at, MakesTurn, Begins, Then, RefusesTurn}
use Rattle.cache_chain.specs.RunLaws.{makes_more}
use Rattle.cache_chain.specs.SettleOrder.{IdlesLast, IdleLast, IdleLater, SettleLog, OneTier, ComesNext, idles_last, idle_log, idle_settles}
use Rattle.cache_chain.specs.SettleRuns.{line_of, lines_of, MayTurn, LogsSettling, LogsStop, LogsTier, LogsMidway, LogsHalf}

lines_both : (first second : List (ℕ × Turn)) → lines_of (first ++ second) ≡ lines_of first ++ lines_of second
lines_both first second = map-append line_of first second

-- lines behind lines
log_more : (old mid new : List TurnLine) (first second : List (ℕ × Turn)) → mid ≡ old ++ lines_of first → new ≡ mid ++ lines_of second → new ≡ old ++ lines_of (first ++ second)
log_more old mid new first second earlier later =
    later ∙ ap (λ (lines : List TurnLine). lines ++ lines_of second) earlier
    ∙ append_assoc old (lines_of first) (lines_of second)
    ∙ ap (λ (lines : List TurnLine). old ++ lines) (sym (lines_both first second))

-- ---- one tier

pub midway_begins : (u : Setting) (k : ℕ) (m : Moment) (s : TierState) (log : List TurnLine) → MayTurn u m → slice_get m.tiers k ≡ Some s → LogsMidway u k 0 m m log log
midway_begins u k m s log may at =
    let own = may.are.each k s at in
    let many : count s ≡ length u.index.fields = ap length own.made.sizes ∙ length-map u.index.fields (body_size u.index.version) in
    record {
      made = [];
      log = sym (append-nil log);
      midway = subst (λ (n : ℕ). IsMidway u.board k n (chain_at m) (chain_at m) []) many (midway-begins u.board k (chain_at m) s at own.tier);
      turns = Begins;
      many = refl;
      order = λ rest idles. idles;
    }

pub midway_more : (u : Setting) (k i : ℕ) (l m n : Moment) (answer : Turn) (old mid new : List TurnLine) → LogsMidway u k i l m old mid → MakesTurn u k answer m n → answer ≢ Idle → new ≡ mid ++ line_of (k, answer) ∷ [] → LogsMidway u k (i + 1) l n old new
midway_more u k i l m n answer old mid new so_far turn on log = record {
  made = so_far.made ++ (k, answer) ∷ [];
  log = log_more old mid new so_far.made ((k, answer) ∷ []) so_far.log log;
  midway = midway-turned u.board k (length u.index.fields) answer (chain_at l) (chain_at m) (chain_at n) so_far.made so_far.midway turn.turn on;
  turns = Then k answer so_far.turns turn;
  many = length_push so_far.made (k, answer) ∙ ap (λ (j : ℕ). j + 1) so_far.many;
  order = λ rest idles. subst (IdlesLast k) (sym (append_assoc so_far.made ((k, answer) ∷ []) rest)) (so_far.order ((k, answer) ∷ rest) (IdleLater answer on idles));
}

pub midway_ends : (u : Setting) (k i : ℕ) (l m n : Moment) (answer : Turn) (old mid new : List TurnLine) → LogsMidway u k i l m old mid → MakesTurn u k answer m n → answer ≡ Idle → new ≡ mid ++ line_of (k, answer) ∷ [] → LogsTier u k l n old new
midway_ends u k i l m n answer old mid new so_far turn idle log =
    let idles = subst (λ (a : Turn). MakesTurn u k a m n) idle turn in
    record {
      made = so_far.made ++ (k, Idle) ∷ [];
      log = log_more old mid new so_far.made ((k, Idle) ∷ []) so_far.log (subst (λ (a : Turn). new ≡ mid ++ line_of (k, a) ∷ []) idle log);
      idles = midway-idles u.board k (length u.index.fields) (chain_at l) (chain_at m) (chain_at n) so_far.made so_far.midway idles.turn;
      turns = Then k Idle so_far.turns idles;
    }

-- tier k is turned further, and then each tier above it
comes_next : (k : ℕ) (made : List (ℕ × Turn)) → ((rest : List (ℕ × Turn)) → IdlesLast k rest → IdlesLast k (made ++ rest)) → ComesNext (suc k) k made
comes_next k made order = record {
  rest = idle_log k;
  whole = subst (SettleLog (suc k)) (append_assoc made ((k, Idle) ∷ []) (idle_log k)) (OneTier (order ((k, Idle) ∷ []) IdleLast) (idle_settles k));
}

pub midway_stops : (u : Setting) (k i : ℕ) (l m n : Moment) (old mid new : List TurnLine) → LogsMidway u k i l m old mid → RefusesTurn u k m n → new ≡ mid → LogsStop u (suc k) l n old new
midway_stops u k i l m n old mid new so_far refused log = record {
  made = so_far.made;
  log = log ∙ so_far.log;
  stops = record { last = m; tier = k; turns = so_far.turns; refused = refused };
  next = comes_next k so_far.made so_far.order;
}

pub midway_few : (u : Setting) (k i : ℕ) (l m : Moment) (old new : List TurnLine) → LogsMidway u k i l m old new → i ≤ 6 * length u.index.fields
midway_few u k i l m old new so_far = subst (λ (j : ℕ). j ≤ 6 * length u.index.fields) so_far.many (midway-few u.board k (length u.index.fields) (chain_at l) (chain_at m) so_far.made so_far.midway)

-- ---- all tiers

pub half_begins : (u : Setting) (n : ℕ) (m : Moment) (log : List TurnLine) → LogsHalf u n n m m log log
half_begins u n m log = record { made = []; log = sym (append-nil log); half = half-begins u.board n (chain_at m); turns = Begins; order = λ rest settles. settles }

pub half_more : (u : Setting) (total left : ℕ) (l m n : Moment) (old mid new : List TurnLine) → LogsHalf u total (suc left) l m old mid → LogsTier u left m n mid new → LogsHalf u total left l n old new
half_more u total left l m n old mid new so_far tier = record {
  made = so_far.made ++ tier.made;
  log = log_more old mid new so_far.made tier.made so_far.log tier.log;
  half = half-settled u.board total left (chain_at l) (chain_at m) (chain_at n) so_far.made tier.made so_far.half tier.idles;
  turns = makes_more u l m n so_far.made tier.made so_far.turns tier.turns;
  order = λ rest settles.
      subst (SettleLog total) (sym (append_assoc so_far.made tier.made rest))
      (so_far.order (tier.made ++ rest) (OneTier (idles_last u.board left (chain_at m) (chain_at n) tier.made tier.idles) settles));
}

pub half_stops : (u : Setting) (total left : ℕ) (l m n : Moment) (old mid new : List TurnLine) → LogsHalf u total left l m old mid → LogsStop u left m n mid new → LogsStop u total l n old new
half_stops u total left l m n old mid new so_far stop = record {
  made = so_far.made ++ stop.made;
  log = log_more old mid new so_far.made stop.made so_far.log stop.log;
  stops = record {
    last = stop.stops.last;
    tier = stop.stops.tier;
    turns = makes_more u l m stop.stops.last so_far.made stop.made so_far.turns stop.stops.turns;
    refused = stop.stops.refused;
  };
  next = record {
    rest = stop.next.rest;
    whole = subst (SettleLog total) (sym (append_assoc so_far.made stop.made ((stop.stops.tier, Idle) ∷ stop.next.rest)))
        (so_far.order (stop.made ++ (stop.stops.tier, Idle) ∷ stop.next.rest) stop.next.whole);
  };
}

pub half_ends : (u : Setting) (total : ℕ) (l m : Moment) (old new : List TurnLine) → LogsHalf u total 0 l m old new → LogsSettling u total l m old new
half_ends u total l m old new so_far = record {
  made = so_far.made;
  log = so_far.log;
  settles = half-ends u.board total (chain_at l) (chain_at m) so_far.made so_far.half;
  turns = so_far.turns;
}

-- ---- where it begins, and what a refusal says whatever it is

tier_there : (tiers : List TierState) (k : ℕ) → k < length tiers → (s : TierState) × (slice_get tiers k ≡ Some s)
tier_there [] k within = absurd (omega arith)
tier_there (t ∷ tiers) zero within = (t, refl)
tier_there (t ∷ tiers) (suc k) within = tier_there tiers k (omega arith)

pub midway_starts : (u : Setting) (k : ℕ) (m : Moment) (log : List TurnLine) → MayTurn u m → k < length m.tiers → LogsMidway u k 0 m m log log
midway_starts u k m log may within = let there = tier_there m.tiers k within in midway_begins u k m there.0 log may there.1

pub at_error : {T E : Type 0} (P : Type 0) (result : Result T E) → P → OnErr result P
at_error P (Ok x) holds = tt
at_error P (Err e) holds = holds
