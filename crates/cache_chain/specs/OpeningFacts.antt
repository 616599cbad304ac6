-- A chain that opens may be turned: it keeps the wishes of a board that has none yet, and its top is tied to words
-- that begin.
use Rattle.std.proofs.Common.{◌≡◌, ℕ, zero, suc, ◌≤◌, Bool, List, [], ◌∷◌, length, replicate, Option, refl, sym, ap, subst, ◌∙◌, arith}
use Rattle.std.specs.Prelude.{slice_get, slice_index, if◌then◌else◌}
use Rattle.std.proofs.lemmas.Option.{same_Some}
use Rattle.file_model.specs.Lists.{IndexLists, SeenBody}
use Rattle.mesh_model.specs.Graph.{outgoing}
use Rattle.mesh_model.specs.Meshes.{MeshLists, IsMesh}
use Rattle.token_words.specs.declared.plain_words.PlainTokens.{PlainTokens}
use Rattle.token_words.specs.PlainTokens.{epoch_of, is_pinned, IsStart}
use Rattle.tier_model.specs.Places.{is_marked}
use Rattle.tier_model.specs.Tiers.{TierState, base_marks}
use Rattle.tier_model.specs.Changes.{fresh}
use Rattle.tier_model.specs.Turns.{Board}
use Rattle.tier_model.specs.Keeping.{KeepsWishes}
use Rattle.tier_model.specs.Ties.{IsTied}
use Rattle.tier_laws.specs.TieLaws.{tied-again}
use Rattle.tier_model.specs.Chains.{opened_top, opened_tiers, opened}
use Rattle.tier_laws.specs.ChainLaws.{IsTopTied}
use Rattle.tier_laws.specs.OpeningLaws.{each-opened, tied-opened}
use Rattle.cache_chain.specs.BaseLaws.{base_listed}
use Rattle.cache_chain.specs.Opening.{IsOpened}
use Rattle.cache_chain.specs.Turning.{chain_of, AllKeepWishes}

no_wish : (n p : ℕ) → slice_index (replicate n 0) p ≡ 0
no_wish zero p = refl
no_wish (suc n) zero = refl
no_wish (suc n) (suc p) = no_wish n p

fresh_keeps : (index : IndexLists) (budget width : ℕ) (board : Board) → (board.version ≡ 0 → (p : ℕ) → board.wish p ≡ 0) → KeepsWishes board (fresh index budget width)
unfolding fresh
fresh_keeps index budget width board none = record { wishes = λ same p within. no_wish (length index.fields) p ∙ sym (none same p) }

top_keeps : (index : IndexLists) (body : ℕ → SeenBody) (budget width : ℕ) (board : Board) → (board.version ≡ 0 → (p : ℕ) → board.wish p ≡ 0) → KeepsWishes board (opened_top index body budget width)
unfolding opened_top fresh
top_keeps index body budget width board none = record { wishes = λ same p within. no_wish (length index.fields) p ∙ sym (none same p) }

-- where the board wishes nothing at version 0
pub opened_wishes : (index : IndexLists) (bytes : Option (List ℕ)) (budgets : List ℕ) (width : ℕ) (tiers : List TierState) (board : Board) → 1 ≤ length budgets → (board.version ≡ 0 → (p : ℕ) → board.wish p ≡ 0) → IsOpened index bytes budgets width tiers → AllKeepWishes board tiers
opened_wishes index bytes [] width tiers board some_budget none opens = absurd (omega arith)
opened_wishes index bytes (budget ∷ budgets) width tiers board some_budget none opens =
    subst (AllKeepWishes board) (sym opens.is) (record {
      each = each-opened index opens.body (KeepsWishes board) budget budgets width (top_keeps index opens.body budget width board none) (λ b. fresh_keeps index b width board none);
    })

-- where each base patch has epoch 1 and a pin, and each other patch epoch 0 and none
opened_tied : (index : IndexLists) (bytes : Option (List ℕ)) (budget : ℕ) (budgets : List ℕ) (width : ℕ) (tiers : List TierState) (epochs : ℕ → ℕ) (pinned : ℕ → Bool) → ((p : ℕ) → epochs p ≡ (if is_marked (base_marks index.fields) p then 1 else 0)) → ((p : ℕ) → pinned p ≡ is_marked (base_marks index.fields) p)
    → IsOpened index bytes (budget ∷ budgets) width tiers → IsTopTied (chain_of tiers epochs) pinned
unfolding opened opened_tiers
opened_tied index bytes budget budgets width tiers epochs pinned first pins opens =
    let top = opened_top index opens.body budget width in
    record {
      top = λ s at. subst (λ (t : TierState). IsTied t epochs pinned) (same_Some top s (sym (ap (λ (ts : List TierState). slice_get ts 0) opens.is) ∙ at))
          (tied-again top (opened index opens.body budgets width).epochs epochs (is_marked (base_marks index.fields)) pinned first pins (tied-opened index opens.body budgets budget width));
    }

-- the words that begin with the base patches
pub starts_tied : (mesh : MeshLists) (bytes : Option (List ℕ)) (budgets : List ℕ) (width count : ℕ) (tiers : List TierState) (tokens : PlainTokens) → 1 ≤ length budgets → IsMesh mesh → IsStart count (outgoing mesh.index.fields mesh.root) tokens → IsOpened mesh.index bytes budgets width tiers → IsTopTied (chain_of tiers (epoch_of tokens)) (is_pinned tokens)
starts_tied mesh bytes [] width count tiers tokens some_budget facts start opens = absurd (omega arith)
starts_tied mesh bytes (budget ∷ budgets) width count tiers tokens some_budget facts start opens =
    opened_tied mesh.index bytes budget budgets width tiers (epoch_of tokens) (is_pinned tokens)
    (λ p. start.epochs p ∙ ap (λ (b : Bool). if b then 1 else 0) (base_listed mesh facts p))
    (λ p. start.pins p ∙ base_listed mesh facts p) opens
