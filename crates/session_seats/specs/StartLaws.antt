-- At the start no session is open, and the words say so.
use Rattle.std.proofs.Common.{◌≡◌, ℕ, zero, suc, ◌+◌, ◌<◌, ◌≤◌, Bool, false, List, [], ◌∷◌, length, map, get_or, replicate, Option, Some, None, refl, sym, ap, ◌∙◌, arith, inl, inr}
use Rattle.std.specs.List.{range_with_len}
use Rattle.std.proofs.lemmas.Bool.{cases_lt}
use Rattle.std.proofs.lemmas.List.{get_or_past, get_or-replicate, length-replicate}
use Rattle.mesh_model.specs.Meshes.{MeshLists}
use Rattle.session_model.specs.Sessions.{SessionState}
use Rattle.tier_model.specs.Ranks.{Posted}
use Rattle.token_words.specs.PlainTokens.{patch_count, words_seen, is_user_in, IsUnused}
use Rattle.token_words.specs.declared.entries.Entry.{Entry}
use Rattle.token_words.specs.declared.plain_words.PlainTokens.{PlainTokens}
use Rattle.token_words.specs.declared.session_sets.TheConstants.{SESSIONS}
use Rattle.run_model.specs.States.{seat_uses, posted_views}
use Rattle.session_seats.specs.Seats.{at_seat, no_sessions, AreSeated}

abbrev nobody : Option SessionState
nobody = None

none_at : (n i : ℕ) → at_seat (replicate n nobody) i ≡ nobody
none_at n zero = refl
none_at n (suc i) =
    elim (cases_lt i n) [
      | inl less ↦ get_or-replicate n i nobody nobody less
      | inr more ↦ get_or_past (replicate n nobody) i nobody (let many = length-replicate n nobody in omega (arith, many))
    ]

-- words that no session uses are those of seats where no session is open
pub none_seated : (mesh : MeshLists) (words : PlainTokens) → patch_count words ≡ length mesh.index.fields → IsUnused words → AreSeated mesh (words_seen words) no_sessions
none_seated mesh words many unused = record {
  many = sym words.entries.ok.0 ∙ many;
  are = λ i s at. absurd (let none = none_at SESSIONS i in cc);
  uses_are = λ i p. unused.users i p ∙ sym (ap (λ (o : Option SessionState). seat_uses o p) (none_at SESSIONS i));
  locks_are = λ i s at p. absurd (let none = none_at SESSIONS i in cc);
}

-- ---- the posted views, by the number of their session

views_from : (views : List (Option Posted)) (a : ℕ) (f : ℕ → Option Posted) → ((k : ℕ) → k < length views → f (a + k) ≡ get_or views k None) → map f (range_with_len a (length views)) ≡ views
views_from [] a f same = refl
views_from (v ∷ vs) a f same =
    let first : f a ≡ v = ap f (omega arith) ∙ same 0 (omega arith) in
    let rest = views_from vs (a + 1) f (λ k less. ap f (omega arith) ∙ same (suc k) (omega arith)) in
    cc

-- the board's list is that of the views by number
pub views_are : (views : List (Option Posted)) → length views ≡ SESSIONS → posted_views (at_seat views) ≡ views
views_are views many =
    sym (ap (λ (n : ℕ). map (at_seat views) (range_with_len 1 n)) many)
    ∙ views_from views 1 (at_seat views) (λ k less. let next : 1 + k ≡ suc k = omega arith in ap (at_seat views) next)
