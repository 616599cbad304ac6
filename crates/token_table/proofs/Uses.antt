-- What a session uses after a step.
use Rattle.std.proofs.Common.{◌≡◌, ℕ, Bool, true, false, ◌∷◌, refl, ap, ◌∙◌}
use Rattle.std.proofs.Common.{◌+◌, length, get_or, nat_eq}
use Rattle.std.proofs.lemmas.List.{length-set}
use Rattle.token_table.specs.declared.knowledge.Desk.{Desk}
use mathlib.Core.Logic.{dite}
use native.Mathlib.Decide.{ℕ_discrete}
use Rattle.token_table.specs.declared.knowledge.Own.{Own}
use Rattle.token_table.specs.Known.{has, without}
use Rattle.token_table.specs.Changes.{after_try, after_leave, after_eviction}
use Rattle.atomic_table.specs.Seated.{TableId}
use Rattle.token_table.specs.Seats.{SessionSeen, IsSeatOf, IsIdle}
use Rattle.token_table.proofs.Sets.{has-with_other, has-without, has-without_other}

-- a use that begins and ends leaves no use
unused_again : (own : Own) (p epoch : ℕ) → ((q : ℕ) → has own.uses q ≡ false) → (q : ℕ) → has (after_leave p (after_try p epoch own)).uses q ≡ false
unused_again own p epoch unused q = dite (ℕ_discrete q p)
    (λ same. ap (λ (r : ℕ). has (without (p ∷ own.uses) p) r) same ∙ has-without (p ∷ own.uses) p)
    (λ apart. has-without_other (p ∷ own.uses) p q apart ∙ (has-with_other own.uses p q apart ∙ unused q))

-- an eviction leaves as many epochs
pub epochs_kept : (p uses : ℕ) (desk : Desk) → length (after_eviction p uses desk).epochs ≡ length desk.epochs
epochs_kept p uses desk = go (nat_eq uses 0) refl
  where
    go : (b : Bool) → nat_eq uses 0 ≡ b → length (after_eviction p uses desk).epochs ≡ length desk.epochs
    go true is = rw is (length-set desk.epochs p (get_or desk.epochs p 0 + 1))
    go false is = rw is refl

-- a seat that begins and ends a use is idle again
pub idle_again : (table : TableId) (seat tried left : SessionSeen) (p epoch : ℕ) → IsIdle table seat → IsSeatOf table left
    → tried ≡ record seat { own = after_try p epoch seat.own } → left ≡ record tried { own = after_leave p tried.own } → IsIdle table left
idle_again table seat tried left p epoch idle of try leave = record {
  of = of;
  unused = λ q.
      ap (λ (s : SessionSeen). has s.own.uses q) leave
      ∙ (ap (λ (s : SessionSeen). has (after_leave p s.own).uses q) try ∙ unused_again seat.own p epoch idle.unused q);
}
