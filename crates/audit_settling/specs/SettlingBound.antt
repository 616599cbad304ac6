-- A tier of a sound state makes few turns until one is idle.
use Rattle.std.proofs.Common.{◌≡◌, ℕ, ◌≤◌, List, length, Some, sym, ap, subst, arith}
use Rattle.std.specs.Prelude.{slice_get}
use Rattle.tier_model.specs.declared.turns.Turn.{Turn}
use Rattle.tier_model.specs.declared.turns.Turn.TheVariants.{Reserve, Evict, Kept, Got, Lost, Fault, Changed, Commit, Idle}
use Rattle.tier_model.specs.Answers.{IfGot}
use Rattle.tier_model.specs.Tiers.{TierState, body_at, IsBodyFor, sizes_of}
use Rattle.tier_model.specs.Turns.{Board, BringsBody}
use Rattle.tier_model.specs.Settling.{TurnsAt, TurnsToIdle, Last, More}
use Rattle.settling_laws.specs.FewTurns.{few_turns}
use Rattle.run_model.specs.Worlds.{World, IsFileBody}
use Rattle.run_model.specs.States.{State, board_of, moved}
use Rattle.run_model.specs.Turning.{TurnsTo}
use Rattle.run_model.specs.Lines.{IdlesTo, LastTurn, MoreTurns}
use Rattle.run_laws.specs.Sound.{IsSound, many_patches}
use Rattle.run_laws.specs.TurnLaws.{got_file_body, is_turn, turned_sound}
use Rattle.audit_settling.specs.Settlings.{most_turns}

got_for : (w : World) (sizes : List ℕ) (after : TierState) (answer : Turn) → sizes ≡ sizes_of w.mesh.index
    → IfGot answer (λ p. IsFileBody w p (body_at after p)) → BringsBody sizes answer after
got_for w sizes after (Got p) same got = subst (λ (ns : List ℕ). IsBodyFor ns p (body_at after p))
    (sym same) got.of_patch
got_for w sizes after (Reserve p) same got = tt
got_for w sizes after (Evict p) same got = tt
got_for w sizes after (Kept p uses) same got = tt
got_for w sizes after (Lost p) same got = tt
got_for w sizes after (Fault p) same got = tt
got_for w sizes after (Changed p fault) same got = tt
got_for w sizes after (Commit p) same got = tt
got_for w sizes after Idle same got = tt

chain_turn : (w : World) (k : ℕ) (a b : State) (answer : Turn) → IsSound w a → TurnsTo w k a answer b
    → TurnsAt (board_of w a) k answer a.chain b.chain
unfolding moved
chain_turn w k a b answer sound turn = record {
  before = turn.before;
  after = turn.after;
  was = turn.was;
  is = ap (λ (s : State). s.chain.tiers) turn.is;
  turns = is_turn w a b k answer sound turn;
  body = got_for w turn.before.sizes turn.after answer (sound.tiers k turn.before turn.was).set_up.made.sizes
      (got_file_body w a b k answer sound turn);
  epochs = λ p. ap (λ (s : State). s.chain.epochs p) turn.is;
}

same_board : (w : World) (k : ℕ) (a b : State) (answer : Turn) → TurnsTo w k a answer b → board_of w b ≡ board_of w a
unfolding moved board_of
same_board w k a b answer turn = ap (board_of w) turn.is

idles_chain : (w : World) (k : ℕ) (a c : State) (log : List (ℕ × Turn)) → IsSound w a → IdlesTo w k a log c
    → TurnsToIdle (board_of w a) k a.chain log c.chain
idles_chain w k a c _ sound (LastTurn turn) = Last (chain_turn w k a c Idle sound turn)
idles_chain w k a c _ sound (MoreTurns {b = b} {log = log} answer on turn rest) =
    More answer on (chain_turn w k a b answer sound turn)
    (subst (λ (board : Board). TurnsToIdle board k b.chain log c.chain) (same_board w k a b answer turn)
    (idles_chain w k b c log (turned_sound w a b k answer sound turn) rest))

pub idles_sound : (w : World) (k : ℕ) (a c : State) (log : List (ℕ × Turn)) → IsSound w a → IdlesTo w k a log c
    → IsSound w c
idles_sound w k a c _ sound (LastTurn turn) = turned_sound w a c k Idle sound turn
idles_sound w k a c _ sound (MoreTurns {b = b} {log = log} answer on turn rest) = idles_sound w k b c log
    (turned_sound w a b k answer sound turn) rest

-- the tier that turns
record IsThere (a : State) (k : ℕ) : Type 0 where
  tier : TierState
  is : slice_get a.chain.tiers k ≡ Some tier

first_there : (w : World) (k : ℕ) (a c : State) (log : List (ℕ × Turn)) → IdlesTo w k a log c → IsThere a k
first_there w k a c _ (LastTurn turn) = record { tier = turn.before; is = turn.was }
first_there w k a c _ (MoreTurns answer on turn rest) = record { tier = turn.before; is = turn.was }

pub few_idles : (w : World) (k : ℕ) (a c : State) (log : List (ℕ × Turn)) → IsSound w a → IdlesTo w k a log c
    → length log ≤ most_turns w
few_idles w k a c log sound idles =
    let there = first_there w k a c log idles in
    let of_tier = sound.tiers k there.tier there.is in
    let few = few_turns (board_of w a) k a.chain c.chain log there.tier
    (idles_chain w k a c log sound idles) there.is of_tier.tier in
    let many = many_patches w k there.tier of_tier.set_up in
    omega arith
