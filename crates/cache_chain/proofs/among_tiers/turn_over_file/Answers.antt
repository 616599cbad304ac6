-- The turn's clauses, put together. What lies below is the file; the store that is left behind is the supply's, since
-- the supply kept its lender.
use Rattle.std.proofs.Common.{refl, sym, ap, subst, ◌∙◌}
use Rattle.view_outside.specs.Files.{file_bytes}
use Rattle.tier_model.specs.Tiers.{body_at}
use Rattle.transfer_step.specs.Supplies.{StorePlace, GivesFile, FindsInFile}
use Rattle.cache_chain.specs.ChainStates.{IsFileBody, FindsChanged}
use Rattle.cache_chain.specs.WordTurns.{TurnsStore}
use Rattle.cache_chain.specs.AnswerMaps.{result_got_more, result_changed_more}
use Rattle.cache_chain.proofs.among_tiers.turn_over_file.Goals as goal

pub returns-clause-turns : goal.returns-clause-turns
returns-clause-turns g c =
    let place : StorePlace = record { index = c.args.index.now; file = c.args.file; files = g.S.Store.files c.args.store.now; lender = c.supply-1.given } in
    record {
      answer = c.turn-answer.ensures.answer;
      none = c.turn-answer.ensures.none;
      tier = c.turn-answer.ensures.kept;
      same = c.turn-answer.ensures.same;
      keeps = c.turn-answer.ensures.wishes;
      brings = c.turn-answer.ensures.brings;
      got = result_got_more (λ p. GivesFile place p (body_at c.turn-answer.new.tier.state p)) (λ p. IsFileBody c.args.index.now (file_bytes (g.S.Store.files c.args.store.now) c.args.file) p (body_at c.turn-answer.new.tier.state p)) (λ p gives. record { right = gives.right; told = gives.told }) c.turn-answer.result c.turn-answer.ensures.got;
      lost = c.turn-answer.ensures.lost;
    }

pub returns-clause-files : goal.returns-clause-files
returns-clause-files g c =
    let left = c.store-1.given.1 (sym (ap (λ (a : StorePlace). a.lender) c.turn-answer.ensures.supply)) in
    ap g.S.Store.files left ∙ ap (λ (a : StorePlace). a.files) c.turn-answer.ensures.supply

pub returns-clause-store : goal.returns-clause-store
returns-clause-store g c =
    let finds = FindsChanged c.args.index.now (file_bytes (g.S.Store.files c.args.store.now) c.args.file) in
    let place : StorePlace = record { index = c.args.index.now; file = c.args.file; files = g.S.Store.files c.args.store.now; lender = c.supply-1.given } in
    let left = c.store-1.given.1 (sym (ap (λ (a : StorePlace). a.lender) c.turn-answer.ensures.supply)) in
    let says : TurnsStore finds c.args.tier.now.state c.turn-answer.result (g.S.Store.faults c.args.store.now) (g.S.Store.faults c.turn-answer.new.below.store.now) (g.S.Store.taken c.args.store.now) (g.S.Store.taken c.turn-answer.new.below.store.now) = record {
      later = c.turn-answer.ensures.later;
      fault = c.turn-answer.ensures.fault;
      changed = result_changed_more (FindsInFile place) finds (λ p fault found. found.told) c.turn-answer.result c.turn-answer.ensures.changed;
      taken = c.turn-answer.ensures.taken refl;
    } in
    subst (λ v. TurnsStore finds c.args.tier.now.state c.turn-answer.result (g.S.Store.faults c.args.store.now) (g.S.Store.faults v) (g.S.Store.taken c.args.store.now) (g.S.Store.taken v)) (sym left) says

pub returns-clause-words : goal.returns-clause-words
returns-clause-words g c = record {
  epochs = c.turn-answer.ensures.epochs;
  free = c.turn-answer.ensures.free;
  found = c.turn-answer.ensures.found;
  misses = c.turn-answer.ensures.misses;
  pins = c.turn-answer.ensures.pins;
  users = c.turn-answer.ensures.use_sets;
  lockers = c.turn-answer.ensures.lock_sets;
  patches = c.turn-answer.ensures.keeper.1;
}
