-- A turn doesn't depend on the bytes of bodies.
use Rattle.std.proofs.Common.{◌≡◌, ℕ, zero, suc, ◌+◌, Bool, true, false, not, ◌&&◌, eqb, leb, ltb, cond, List, [], ◌∷◌, length, map, replicate, Option, Some, None, is_some, refl, sym, ap, ap₂, ◌∙◌}
use Rattle.std.proofs.Math.Path.{fun_ext}
use Rattle.std.specs.Prelude.{slice_index_or, slice_set, nat_lt}
use Rattle.std.specs.List.{count_by}
use Rattle.std.specs.Option.{option_map, option_and_then}
use Rattle.std.proofs.lemmas.Bool.{cond_both, cond-true, cond-false}
use Rattle.std.proofs.lemmas.List.{map-set, length-replicate}
use Rattle.std.proofs.lemmas.List.Sums.{sum_by-cons}
use Rattle.file_model.specs.Lists.{SeenBody}
use Rattle.tier_model.specs.declared.turns.Abort.{Abort}
use Rattle.tier_model.specs.declared.turns.Abort.TheVariants as reasons
use Rattle.tier_model.specs.declared.turns.Turn.{Turn}
use Rattle.tier_model.specs.declared.turns.Turn.TheVariants.{Reserve, Evict, Kept, Got, Lost, Fault, Changed, Commit, Idle}
use Rattle.tier_model.specs.Places.{is_marked, is_coming, first_coming, first_bare, load_of}
use Rattle.tier_model.specs.Tiers.{TierState, count, size, kept_wish, is_held, load}
use Rattle.tier_model.specs.Changes.{reserved, arrived, aborted, committed, dropped, passed_over, calmed, renewed, ranked}
use Rattle.tier_model.specs.Ranks.{outranks}
use Rattle.tier_model.specs.Choices.{Told, topmost, is_admissible, candidate, victim}
use Rattle.tier_model.specs.Turns.{Fetched, Came, Failed, Broken, Outcome, Board, paired, fitting, entering, leaving, fetching, evicting, leave_or_idle, commit_or, fetch_or, reserve_or, ranked_turn_of, begun, turn_of}

-- ---- bodies without their bytes

-- the body with as many bytes, all 0
abbrev pub blank_body : SeenBody → SeenBody
blank_body body = record body { bytes = replicate (length body.bytes) 0 }

abbrev pub blank_bodies : List (Option SeenBody) → List (Option SeenBody)
blank_bodies bodies = map (λ (o : Option SeenBody). option_map blank_body o) bodies

-- the tier with such bodies
unfoldable pub blank : TierState → TierState
blank t = record t { held = blank_bodies t.held; came = blank_bodies t.came }

abbrev pub blank_fetched : Fetched → Fetched
blank_fetched (Came body) = Came (blank_body body)
blank_fetched Failed = Failed
blank_fetched (Broken fault) = Broken fault

abbrev blank_outcome : Outcome → Outcome
blank_outcome o = record { fetched = blank_fetched o.fetched; uses = o.uses }

abbrev blank_turn : Turn × TierState → Turn × TierState
blank_turn x = paired x.0 (blank x.1)

-- ---- what is held

pub blank_at : (bodies : List (Option SeenBody)) (p : ℕ) → slice_index_or (blank_bodies bodies) p None ≡ option_map blank_body (slice_index_or bodies p None)
blank_at [] p = refl
blank_at (o ∷ os) zero = refl
blank_at (o ∷ os) (suc p) = blank_at os p

still_there : (o : Option SeenBody) → is_some (option_map blank_body o) ≡ is_some o
still_there None = refl
still_there (Some body) = refl

pub blank_held : (t : TierState) (p : ℕ) → is_held (blank t) p ≡ is_held t p
unfolding blank
blank_held t p = ap (λ (o : Option SeenBody). is_some o) (blank_at t.held p) ∙ still_there (slice_index_or t.held p None)

blank_marks : (bodies : List (Option SeenBody)) → map (λ o. is_some o) (blank_bodies bodies) ≡ map (λ o. is_some o) bodies
blank_marks [] = refl
blank_marks (o ∷ os) = ap₂ (λ (m : Bool) (ms : List Bool). m ∷ ms) (still_there o) (blank_marks os)

pub blank_load : (t : TierState) → load (blank t) ≡ load t
unfolding blank
blank_load t = ap (λ (marks : List Bool). load_of t.sizes (record { held = marks; coming = t.coming })) (blank_marks t.held)

abbrev one_there : Option SeenBody → ℕ
one_there o = cond (is_some o) 1 0

pub blank_count : (bodies : List (Option SeenBody)) → count_by (λ o. is_some o) (blank_bodies bodies) ≡ count_by (λ o. is_some o) bodies
blank_count [] = refl
blank_count (o ∷ os) =
    sum_by-cons one_there (option_map blank_body o) (blank_bodies os)
    ∙ ap₂ (λ (there : Bool) (n : ℕ). cond there 1 0 + n) (still_there o) (blank_count os)
    ∙ sym (sum_by-cons one_there o os)

-- ---- candidate and victim

blank_candidate : (told : Told) (t : TierState) → candidate told (blank t) ≡ candidate told t
unfolding candidate blank
blank_candidate told t =
    ap (λ (fits : ℕ → Bool). topmost (count t) fits (outranks (kept_wish t)))
    (fun_ext (λ p. ap (λ (held : Bool). (nat_lt 0 (kept_wish t p) && (not (is_marked t.base p) && (not held && (not (is_coming t.coming p) && not (is_marked t.aside p))))) && is_admissible told t p) (blank_held t p)))

blank_victim : (t : TierState) (c : ℕ) → victim (blank t) c ≡ victim t c
unfolding victim blank
blank_victim t c =
    ap (λ (may : ℕ → Bool). topmost (count t) may (λ p q. outranks (kept_wish t) q p))
    (fun_ext (λ p. ap (λ (held : Bool). held && (not (is_marked t.pinned p) && (not (is_marked t.passed p) && outranks (kept_wish t) c p))) (blank_held t p)))

blank_fitting : (t : TierState) (o : Option ℕ) → fitting (blank t) o ≡ fitting t o
unfolding fitting blank
blank_fitting t None = refl
blank_fitting t (Some c) = ap (λ (n : ℕ). cond (leb (n + size t c) t.budget) (Some c) None) (blank_load t)

blank_entering : (told : Told) (t : TierState) → entering told (blank t) ≡ entering told t
unfolding entering blank
blank_entering told t = ap (λ (o : Option ℕ). cond (ltb (length t.coming) t.width) o None) (blank_fitting t (candidate told (blank t)) ∙ ap (fitting t) (blank_candidate told t))

victim_of : (t : TierState) (o : Option ℕ) → option_and_then (victim (blank t)) o ≡ option_and_then (victim t) o
victim_of t None = refl
victim_of t (Some c) = blank_victim t c

pub blank_leaving : (told : Told) (t : TierState) → leaving told (blank t) ≡ leaving told t
unfolding leaving
blank_leaving told t = ap (option_and_then (victim (blank t))) (blank_candidate told t) ∙ victim_of t (candidate told t)

-- ---- changes

blank_reserved : (t : TierState) (p : ℕ) → reserved (blank t) p ≡ blank (reserved t p)
unfolding reserved blank
blank_reserved t p = refl

pub blank_arrived : (t : TierState) (p : ℕ) (body : SeenBody) → arrived (blank t) p (blank_body body) ≡ blank (arrived t p body)
unfolding arrived blank
blank_arrived t p body = ap (λ (bodies : List (Option SeenBody)). record (arrived (blank t) p (blank_body body)) { came = bodies }) (sym (map-set (λ (o : Option SeenBody). option_map blank_body o) t.came p (Some body)))

pub blank_aborted : (t : TierState) (p : ℕ) (why : Abort) → aborted (blank t) p why ≡ blank (aborted t p why)
unfolding aborted blank
blank_aborted t p why = refl

blank_committed : (t : TierState) (p : ℕ) → committed (blank t) p ≡ blank (committed t p)
unfolding committed blank
blank_committed t p =
    ap₂ (λ (held came : List (Option SeenBody)). record (committed (blank t) p) { held = held; came = came })
    (ap (slice_set (blank_bodies t.held) p) (blank_at t.came p) ∙ sym (map-set (λ (o : Option SeenBody). option_map blank_body o) t.held p (slice_index_or t.came p None)))
    (sym (map-set (λ (o : Option SeenBody). option_map blank_body o) t.came p None))

blank_dropped : (t : TierState) (p : ℕ) → dropped (blank t) p ≡ blank (dropped t p)
unfolding dropped blank
blank_dropped t p = ap (λ (bodies : List (Option SeenBody)). record (dropped (blank t) p) { held = bodies }) (sym (map-set (λ (o : Option SeenBody). option_map blank_body o) t.held p None))

blank_passed : (t : TierState) (p : ℕ) → passed_over (blank t) p ≡ blank (passed_over t p)
unfolding passed_over blank
blank_passed t p = refl

blank_calmed : (t : TierState) → calmed (blank t) ≡ blank (calmed t)
unfolding calmed blank
blank_calmed t = refl

pub blank_begun : (board : Board) (t : TierState) → begun board (blank t) ≡ blank (begun board t)
unfolding begun ranked renewed blank
blank_begun board t =
    cond_both (eqb board.version t.version) t (renewed (ranked t board.wish) board.version) (λ (u : TierState). cond (eqb board.version t.version) (blank t) (renewed (ranked (blank t) board.wish) board.version) ≡ blank u)
    (λ same. cond-true (eqb board.version t.version) (blank t) (renewed (ranked (blank t) board.wish) board.version) same)
    (λ differs. cond-false (eqb board.version t.version) (blank t) (renewed (ranked (blank t) board.wish) board.version) differs)

-- ---- the turn

blank_fetching : (has : Bool) (t : TierState) (p : ℕ) (fetched : Fetched) → fetching has (blank t) p (blank_fetched fetched) ≡ blank_turn (fetching has t p fetched)
unfolding fetching
blank_fetching false t p fetched = ap (paired (Lost p)) (blank_aborted t p reasons.Lost)
blank_fetching true t p (Came body) = ap (paired (Got p)) (blank_arrived t p body)
blank_fetching true t p Failed = ap (paired (Fault p)) (blank_aborted t p reasons.Fault)
blank_fetching true t p (Broken fault) = ap (paired (Changed p fault)) (blank_aborted t p (reasons.Changed fault))

blank_evicting : (top : Bool) (t : TierState) (v uses : ℕ) → evicting top (blank t) v uses ≡ blank_turn (evicting top t v uses)
unfolding evicting
blank_evicting false t v uses = ap (paired (Evict v)) (blank_dropped t v)
blank_evicting true t v zero = ap (paired (Evict v)) (blank_dropped t v)
blank_evicting true t v (suc uses) = ap (paired (Kept v (suc uses))) (blank_passed t v)

blank_leave : (told : Told) (t : TierState) (o : Outcome) (found : Option ℕ) → leave_or_idle told (blank t) (blank_outcome o) found ≡ blank_turn (leave_or_idle told t o found)
unfolding leave_or_idle
blank_leave told t o (Some v) = blank_evicting told.top t v o.uses
blank_leave told t o None = ap (paired Idle) (blank_calmed t)

blank_commit : (told : Told) (t : TierState) (o : Outcome) (found : Option ℕ) → commit_or told (blank t) (blank_outcome o) found ≡ blank_turn (commit_or told t o found)
unfolding commit_or
blank_commit told t o (Some p) = ap (paired (Commit p)) (blank_committed t p)
blank_commit told t o None = ap (leave_or_idle told (blank t) (blank_outcome o)) (blank_leaving told t) ∙ blank_leave told t o (leaving told t)

blank_coming : (t : TierState) → first_coming (blank t).coming ≡ first_coming t.coming
unfolding blank
blank_coming t = refl

pub blank_bare : (t : TierState) → first_bare (blank t).coming ≡ first_bare t.coming
unfolding blank
blank_bare t = refl

blank_fetch : (told : Told) (t : TierState) (o : Outcome) (found : Option ℕ) → fetch_or told (blank t) (blank_outcome o) found ≡ blank_turn (fetch_or told t o found)
unfolding fetch_or
blank_fetch told t o (Some p) = blank_fetching (told.has p) t p o.fetched
blank_fetch told t o None = ap (commit_or told (blank t) (blank_outcome o)) (blank_coming t) ∙ blank_commit told t o (first_coming t.coming)

blank_reserve : (told : Told) (t : TierState) (o : Outcome) (found : Option ℕ) → reserve_or told (blank t) (blank_outcome o) found ≡ blank_turn (reserve_or told t o found)
unfolding reserve_or
blank_reserve told t o (Some c) = ap (paired (Reserve c)) (blank_reserved t c)
blank_reserve told t o None = ap (fetch_or told (blank t) (blank_outcome o)) (blank_bare t) ∙ blank_fetch told t o (first_bare t.coming)

blank_ranked : (told : Told) (t : TierState) (o : Outcome) → ranked_turn_of told (blank t) (blank_outcome o) ≡ blank_turn (ranked_turn_of told t o)
unfolding ranked_turn_of
blank_ranked told t o = ap (reserve_or told (blank t) (blank_outcome o)) (blank_entering told t) ∙ blank_reserve told t o (entering told t)

-- the turn of the blank tier is the blank turn
pub blank_turns : (board : Board) (told : Told) (t : TierState) (fetched : Fetched) (uses : ℕ) (answer : Turn) (after : TierState) → paired answer after ≡ turn_of board told t (record { fetched = fetched; uses = uses }) → paired answer (blank after) ≡ turn_of board told (blank t) (record { fetched = blank_fetched fetched; uses = uses })
unfolding turn_of
blank_turns board told t fetched uses answer after is =
    let o : Outcome = record { fetched = fetched; uses = uses } in
    ap blank_turn is ∙ sym (ap (λ (u : TierState). ranked_turn_of told u (blank_outcome o)) (blank_begun board t) ∙ blank_ranked told (begun board t) o)

-- ---- twice is once

blank_body_twice : (body : SeenBody) → blank_body (blank_body body) ≡ blank_body body
blank_body_twice body = ap (λ (n : ℕ). record body { bytes = replicate n 0 }) (length-replicate (length body.bytes) 0)

blank_option_twice : (o : Option SeenBody) → option_map blank_body (option_map blank_body o) ≡ option_map blank_body o
blank_option_twice None = refl
blank_option_twice (Some body) = ap (λ (b : SeenBody). Some b) (blank_body_twice body)

blank_bodies_twice : (bodies : List (Option SeenBody)) → blank_bodies (blank_bodies bodies) ≡ blank_bodies bodies
blank_bodies_twice [] = refl
blank_bodies_twice (o ∷ os) = ap₂ (λ (b : Option SeenBody) (bs : List (Option SeenBody)). b ∷ bs) (blank_option_twice o) (blank_bodies_twice os)

blank_twice : (t : TierState) → blank (blank t) ≡ blank t
unfolding blank
blank_twice t = ap₂ (λ (held came : List (Option SeenBody)). record t { held = held; came = came }) (blank_bodies_twice t.held) (blank_bodies_twice t.came)

pub blank_tiers_twice : (tiers : List TierState) → map blank (map blank tiers) ≡ map blank tiers
blank_tiers_twice [] = refl
blank_tiers_twice (t ∷ ts) = ap₂ (λ (u : TierState) (us : List TierState). u ∷ us) (blank_twice t) (blank_tiers_twice ts)
