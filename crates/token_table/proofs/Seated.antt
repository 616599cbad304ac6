-- What each step asks of a seat, and what the seat is afterwards.
use Rattle.std.proofs.Common.{◌≡◌, ◌≢◌, ℕ, ◌+◌, ◌*◌, ◌%◌, ◌<◌, Bool, true, false, List, [], ◌∷◌, ◌++◌, length, get_or, refl, sym, ap, subst, ◌∙◌, arith, Option, Some, None}
use Rattle.std.specs.Prelude.{◌==◌}
use mathlib.Core.Logic.{dite}
use mathlib.Core.Option.{none}
use native.Mathlib.Decide.{ℕ_discrete}
use prog.Atomic.{either}
use Rattle.atomic_table.specs.Seated.{TableId}
use Rattle.atomic_table.specs.Table.{Me, step, Allows, Splits, Joins}
use Rattle.file_model.specs.Tries.{is_odd}
use Rattle.token_table.specs.declared.knowledge.Own.{Own}
use Rattle.token_table.specs.declared.knowledge.Ended.{Ended}
use Rattle.token_table.specs.declared.knowledge.Desk.{Desk}
use Rattle.token_table.specs.declared.knowledge.View.{View}
use Rattle.token_table.specs.declared.knowledge.View.TheVariants.{Spent, Session, Keeper}
use Rattle.token_words.specs.Tries.{AreTries}
use Rattle.token_table.specs.Known.{has, without, IsDesk}
use Rattle.token_table.specs.WordRule.{Holds}
use Rattle.token_table.specs.Changes.{seated, after_try, after_leave, with_guest, with_ended, Tries, Leaves, Admits, Evicts, Watches, welcoming, ending, alone, leaving, making, made_next}
use Rattle.token_table.specs.Seats.{SessionSeen, own_in, desk_in, IsSeatOf, IsAtDesk}
use Rattle.token_table.specs.Tables.{IsTable}
use Rattle.token_table.proofs.Sets.{has-with, has-with_other, has-without, has-without_other}
use Rattle.token_table.proofs.SessionSteps as session
use Rattle.token_table.proofs.KeeperSteps as keeper
use Rattle.token_table.proofs.Passages as passages
use Rattle.std.proofs.lemmas.List.{length-append, get_or_push}

-- a seat that knows what a session knows
pub at_session : {S : Type 0} (me : Me S View) (own : Own) → me ≡ seated (Session own) → me ≡ seated (Session (own_in me.0))
at_session me own is = is ∙ ap (λ m. seated (Session (own_in m.0))) (sym is)

-- the seat is of the table with what its session knows now
pub seat_after : (S : Type 0) (table place : TableId) (seat : SessionSeen) (me : Me S View) (own : Own) → IsSeatOf table (record seat { own = own }) → place ≡ seat.table
    → me ≡ seated (Session own) → IsSeatOf table (record { table = place; own = own_in me.0 })
seat_after S table place seat me own of here knows =
    let whole : (record { table = place; own = own_in me.0 }) ≡ (record seat { own = own }) = cc (here, ap (λ m. own_in m.0) knows) in
    subst (IsSeatOf table) (sym whole) of

-- locks are uses after a try
locks_used : (own : Own) (p epoch : ℕ) → ((q : ℕ) → has own.locks q ≡ true → has own.uses q ≡ true)
    → (q : ℕ) → has (after_try p epoch own).locks q ≡ true → has (after_try p epoch own).uses q ≡ true
locks_used own p epoch used q locked = dite (ℕ_discrete q p)
    (λ same. subst (λ (r : ℕ). has (p ∷ own.uses) r ≡ true) (sym same) (has-with own.uses p))
    (λ apart. has-with_other own.uses p q apart ∙ used q (go (is_odd epoch) refl apart locked))
  where
    go : (odd : Bool) → is_odd epoch ≡ odd → q ≢ p → has (after_try p epoch own).locks q ≡ true → has own.locks q ≡ true
    go true is apart locked = sym (has-with_other own.locks p q apart) ∙ (rw is at locked)
    go false is apart locked = rw is at locked

pub seat-after_try : (table : TableId) (seat : SessionSeen) (p epoch : ℕ) → IsSeatOf table seat → IsSeatOf table (record seat { own = after_try p epoch seat.own })
seat-after_try table seat p epoch of = record { here = of.here; used = locks_used seat.own p epoch of.used }

pub seat-after_leave : (table : TableId) (seat : SessionSeen) (p : ℕ) → IsSeatOf table seat → IsSeatOf table (record seat { own = after_leave p seat.own })
seat-after_leave table seat p of = record {
  here = of.here;
  used = λ q locked. dite (ℕ_discrete q p)
      (λ same. absurd (let e : true ≡ false = sym locked ∙ (ap (λ (r : ℕ). has (without seat.own.locks p) r) same ∙ has-without seat.own.locks p) in cc))
      (λ apart. has-without_other seat.own.uses p q apart ∙ of.used q (sym (has-without_other seat.own.locks p q apart) ∙ locked));
}

module _ (S : Type 0) (count id p : ℕ) (place table : TableId) (me : Me S View) (is : IsTable table count) (here : place ≡ table) (within : p < table.words) where
  module _ (own : Own) (knows : me ≡ seated (Session own)) where
    pub try_asks : has own.uses p ≡ false
        → (place ≡ table) × (p < table.words) × Allows (Holds {S = S} count) table.slots id me p (λ n. (n + 1) % 18446744073709551616) (Tries (step table.slots p 1 0 none) me)
    try_asks free = (
      here,
      within,
      subst (λ m. Allows (Holds {S = S} count) table.slots id m p (λ n. (n + 1) % 18446744073709551616) (Tries (step table.slots p 1 0 none) m)) (sym knows)
          (session.try_allowed S count table.slots id p own (let same = is.same in omega arith) free),
    )

    pub leave_asks : has own.uses p ≡ true
        → (place ≡ table) × (p < table.words) × Allows (Holds {S = S} count) table.slots id me p (λ n. (n + 18446744073709551615) % 18446744073709551616) (Leaves (step table.slots p 1 0 none) me)
    leave_asks used = (
      here,
      within,
      subst (λ m. Allows (Holds {S = S} count) table.slots id m p (λ n. (n + 18446744073709551615) % 18446744073709551616) (Leaves (step table.slots p 1 0 none) m)) (sym knows)
          (session.leave_allowed S count table.slots id p own (let same = is.same in omega arith) used),
    )

  module _ (desk : Desk) (knows : me ≡ seated (Keeper desk)) where
    pub admit_asks : is_odd (get_or desk.epochs p 0) ≡ false → get_or desk.epochs p 0 < 4294967294
        → (place ≡ table) × (p < table.words) × Allows (Holds {S = S} count) table.slots id me p (λ n. (n + 4294967296) % 18446744073709551616) (Admits (step table.slots p 4294967296 0 none) me)
    admit_asks even low = (
      here,
      within,
      subst (λ m. Allows (Holds {S = S} count) table.slots id m p (λ n. (n + 4294967296) % 18446744073709551616) (Admits (step table.slots p 4294967296 0 none) m)) (sym knows)
          (keeper.admit_allowed S count table.slots id p desk (let same = is.same in omega arith) even low),
    )

    pub evict_asks : (old new : ℕ) → old ≡ get_or desk.epochs p 0 * 4294967296 → new ≡ old + 4294967296 → is_odd (get_or desk.epochs p 0) ≡ true
        → (place ≡ table) × (p < table.words) × Allows (Holds {S = S} count) table.slots id me p (λ n. either (n == old) new n) (Evicts (step table.slots p old new none) me)
    evict_asks old new expects turns odd = (
      here,
      within,
      subst (λ m. Allows (Holds {S = S} count) table.slots id m p (λ n. either (n == old) new n) (Evicts (step table.slots p old new none) m)) (sym knows)
          (keeper.evict_allowed S count table.slots id p desk (let same = is.same in omega arith) old new expects turns odd),
    )

    pub watch_asks : (place ≡ table) × (p < table.words) × Allows (Holds {S = S} count) table.slots id me p (λ n. n) (Watches (step table.slots p 0 0 none) me)
    watch_asks = (
      here,
      within,
      subst (λ m. Allows (Holds {S = S} count) table.slots id m p (λ n. n) (Watches (step table.slots p 0 0 none) m)) (sym knows)
          (keeper.watch_allowed S count table.slots id p desk (let same = is.same in omega arith)),
    )

-- a patch that the keeper knows has a word
pub word_there : (S : Type 0) (place table : TableId) (me : Me S View) (epochs : List ℕ) (p : ℕ) → IsAtDesk place me epochs → place ≡ table → p < length (desk_in me.0).epochs → p < table.words
word_there S place table me epochs p at here within =
    let same : length (desk_in me.0).epochs ≡ length epochs = ap length at.epochs_are in
    let words : place.words ≡ table.words = ap (λ (t : TableId). t.words) here in
    let many = at.many in
    omega arith

no_guest : (desk : Desk) → desk.guest ≡ None → with_guest None desk ≡ desk
no_guest desk alone = ap (λ (g : Option Own). with_guest g desk) (sym alone)

module _ (S : Type 0) (count id : ℕ) (place table : TableId) (me : Me S View) (is : IsTable table count) (here : place ≡ table) where
  pub visit_asks : (other : ℕ) (from : TableId) (you : Me S View) (desk : Desk) (own : Own) → from ≡ table → me ≡ seated (Keeper desk) → desk.guest ≡ None → you ≡ seated (Session own)
      → (place ≡ table) × (from ≡ table) × (you.1 ≡ []) × (0 < table.words) × Joins (Holds {S = S} count) id me.0 other you.0 (welcoming me.0 you.0) Spent
  visit_asks other from you desk own there knows free yours =
      let same : with_guest None desk ≡ desk = no_guest desk free in
      let joins : Joins (Holds {S = S} count) id (Keeper desk) other (Session own) (welcoming (Keeper desk) (Session own)) Spent =
      subst (λ d. Joins (Holds {S = S} count) id (Keeper d) other (Session own) (welcoming (Keeper d) (Session own)) Spent) same (passages.visit_allowed S count id desk other own) in (
        here,
        there,
        ap (λ m. m.1) yours,
        is.some_words,
        subst (λ v. Joins (Holds {S = S} count) id v other you.0 (welcoming v you.0) Spent) (sym (ap (λ m. m.0) knows))
            (subst (λ y. Joins (Holds {S = S} count) id (Keeper desk) other y (welcoming (Keeper desk) y) Spent) (sym (ap (λ m. m.0) yours)) joins),
      )

  pub end_asks : (other : ℕ) (from : TableId) (you : Me S View) (desk : Desk) (own : Own) → from ≡ table → me ≡ seated (Keeper desk) → ((p : ℕ) → has own.uses p ≡ false) → you ≡ seated (Session own)
      → (place ≡ table) × (from ≡ table) × (you.1 ≡ []) × (0 < table.words) × Joins (Holds {S = S} count) id me.0 other you.0 (ending me.0 you.0) Spent
  end_asks other from you desk own there knows unused yours = (
    here,
    there,
    ap (λ m. m.1) yours,
    is.some_words,
    subst (λ v. Joins (Holds {S = S} count) id v other you.0 (ending v you.0) Spent) (sym (ap (λ m. m.0) knows))
        (subst (λ y. Joins (Holds {S = S} count) id (Keeper desk) other y (ending (Keeper desk) y) Spent) (sym (ap (λ m. m.0) yours)) (passages.end_allowed S count id desk other own unused)),
  )

  pub leaving_asks : (desk : Desk) (own : Own) → me ≡ seated (Keeper (with_guest (Some own) desk))
      → (place ≡ table) × (0 < table.words) × Splits (Holds {S = S} count) id me.0 (alone me.0) (leaving me.0)
  leaving_asks desk own knows = (
    here,
    is.some_words,
    subst (λ v. Splits (Holds {S = S} count) id v (alone v) (leaving v)) (sym (ap (λ m. m.0) knows)) (passages.leave_allowed S count id desk own),
  )

  pub making_asks : (desk : Desk) → me ≡ seated (Keeper desk) → desk.made < 64
      → (place ≡ table) × (0 < table.words) × Splits (Holds {S = S} count) id me.0 (making me.0) (made_next me.0)
  making_asks desk knows room = (
    here,
    is.some_words,
    subst (λ v. Splits (Holds {S = S} count) id v (making v) (made_next v)) (sym (ap (λ m. m.0) knows)) (passages.make_allowed S count id desk room),
  )

-- the keeper's seat after a join
pub welcomed : (S : Type 0) (me you : Me S View) (desk : Desk) (own : Own) → me ≡ seated (Keeper desk) → you ≡ seated (Session own)
    → (λ (m : Me S View). m ≡ seated (Keeper (with_guest (Some own) desk))) (welcoming me.0 you.0, me.1)
welcomed S me you desk own knows yours =
    ap (λ (m : Me S View). let r : Me S View = (welcoming m.0 you.0, m.1) in r) knows ∙ ap (λ (y : Me S View). seated {S = S} (welcoming (Keeper desk) y.0)) yours

pub ended : (S : Type 0) (me you : Me S View) (desk : Desk) (own : Own) → me ≡ seated (Keeper desk) → you ≡ seated (Session own)
    → (λ (m : Me S View). m ≡ seated (Keeper (with_ended own desk))) (ending me.0 you.0, me.1)
ended S me you desk own knows yours =
    ap (λ (m : Me S View). let r : Me S View = (ending m.0 you.0, m.1) in r) knows ∙ ap (λ (y : Me S View). seated {S = S} (ending (Keeper desk) y.0)) yours

-- the last of the ended sessions
pub last_ended : (desk : Desk) (own : Own) → IsDesk (with_ended own desk) → AreTries desk.epochs own.tries
last_ended desk own fits =
    let last : Ended = record { number = own.number; tries = own.tries } in
    let at : AreTries desk.epochs (get_or (desk.ended ++ last ∷ []) (length desk.ended) last).tries = fits.ended (length desk.ended) last (omega (arith, length-append desk.ended (last ∷ []))) in
    subst (λ (e : Ended). AreTries desk.epochs e.tries) (get_or_push desk.ended last last (length desk.ended) refl) at
