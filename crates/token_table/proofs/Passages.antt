-- How seats are made, visit, end and are gathered.
use Rattle.std.proofs.Common.{◌≡◌, ℕ, zero, suc, ◌+◌, ◌*◌, ◌%◌, ◌<◌, ◌≤◌, true, false, List, [], ◌∷◌, length, get_or, set, refl, sym, ap, ◌∙◌, inl, inr, arith, Some, None, length-append}
use Rattle.std.specs.Prelude.{nat_eq}
use Rattle.std.proofs.lemmas.List.Elements.{All-nil, All-push}
use Rattle.std.proofs.lemmas.Bool.Decides.{eqb_tells, leb_tells}
use Rattle.std.proofs.Math.ListN.{get_or-map}
use mathlib.Core.Option.{some}
use lib.ListN.{get_elem?}
use Rattle.atomic_table.proofs.Lists.{at_set}
use Rattle.atomic_table.specs.Table.{State, Splits, Joins, opening, Final, Seen}
use Rattle.token_table.specs.declared.knowledge.Own.{Own}
use Rattle.token_table.specs.declared.knowledge.Ended.{Ended}
use Rattle.token_table.specs.declared.knowledge.Desk.{Desk}
use Rattle.token_table.specs.declared.knowledge.View.{View}
use Rattle.token_table.specs.declared.knowledge.View.TheVariants.{Spent, Session, Keeper}
use Rattle.token_words.specs.Tries.{AreTries}
use Rattle.token_table.specs.Known.{has, IsHolder, IsDesk, total, own_uses, one_if, desk_allowance, is_made, of_guest}
use Rattle.token_table.specs.WordRule.{IsKept, Holds, opened_at}
use Rattle.token_table.specs.Changes.{newcomer, with_made, with_guest, with_ended, making, made_next, welcoming, ending, alone, leaving}
use Rattle.token_table.proofs.Totals.{total-push}
use Rattle.token_table.proofs.Orders.{no_tries}
use Rattle.token_table.proofs.Keeping.{desk_splits, desk_joins}
use Rattle.token_table.proofs.Facts.{as_keeper, uses-keepers}

-- one more session has the next number
made_more : (made n : ℕ) → one_if (nat_eq n (made + 1)) + one_if (is_made made n) ≡ one_if (is_made (made + 1) n)
made_more made n =
    elim (eqb_tells n (made + 1)) [
      | inl e ↦ elim (leb_tells 1 n) [
        | inl a ↦ elim (leb_tells n made) [
          | inl b ↦ absurd (omega (arith, e.1, b.1))
          | inr b ↦ elim (leb_tells n (made + 1)) [ inl c ↦ rw (e.0, a.0, b.0, c.0) refl | inr c ↦ absurd (omega (arith, e.1, c.1)) ]
        ]
        | inr a ↦ absurd (omega (arith, e.1, a.1))
      ]
      | inr e ↦ elim (leb_tells 1 n) [
        | inl a ↦ elim (leb_tells n made) [
          | inl b ↦ elim (leb_tells n (made + 1)) [ inl c ↦ rw (e.0, a.0, b.0, c.0) refl | inr c ↦ absurd (omega (arith, b.1, c.1)) ]
          | inr b ↦ elim (leb_tells n (made + 1)) [ inl c ↦ absurd (e.1 (omega (arith, b.1, c.1))) | inr c ↦ rw (e.0, a.0, b.0, c.0) refl ]
        ]
        | inr a ↦ rw (e.0, a.0) refl
      ]
    ]

none_made : (n : ℕ) → one_if (is_made 0 n) ≡ 0
none_made n = elim (leb_tells 1 n) [
  | inl a ↦ elim (leb_tells n 0) [ inl b ↦ absurd (omega (arith, a.1, b.1)) | inr b ↦ rw (a.0, b.0) refl ]
  | inr a ↦ rw a.0 refl
]

holder-newcomer : (epochs : List ℕ) (number : ℕ) → IsHolder epochs (newcomer number)
holder-newcomer epochs number = record {
  used = λ p locked. absurd (let e : true ≡ false = sym locked in cc);
  there = λ p locked. absurd (let e : true ≡ false = sym locked in cc);
  tries = no_tries epochs;
}

module _ (S : Type 0) (count id : ℕ) (desk : Desk) where
  -- the next session
  pub make_allowed : desk.made < 64 → Splits (Holds {S = S} count) id (Keeper desk) (making (Keeper desk)) (made_next (Keeper desk))
  make_allowed room s holds at =
      let kept = as_keeper count s id desk holds at in
      let f = kept.fits in
      let fits : IsDesk (with_made desk) = record {
        last = f.last;
        pins = f.pins;
        pinned = f.pinned;
        made = (omega arith);
        guest = f.guest;
        ended = f.ended;
        misses = f.misses;
      } in (
        id,
        with_made desk,
        desk_splits count id desk s.words s.views kept (with_made desk) (newcomer (desk.made + 1)) fits refl (holder-newcomer desk.epochs (desk.made + 1))
            (omega arith) (λ n. let more = made_more desk.made n in omega arith) (λ p. omega arith),
      )

  -- a visiting session leaves
  pub leave_allowed : (own : Own) → Splits (Holds {S = S} count) id (Keeper (with_guest (Some own) desk)) (alone (Keeper (with_guest (Some own) desk))) (leaving (Keeper (with_guest (Some own) desk)))
  leave_allowed own s holds at =
      let kept = as_keeper count s id (with_guest (Some own) desk) holds at in
      let f = kept.fits in
      let fits : IsDesk (with_guest None desk) = record {
        last = f.last;
        pins = f.pins;
        pinned = f.pinned;
        made = f.made;
        guest = tt;
        ended = f.ended;
        misses = f.misses;
      } in (
        id,
        with_guest None desk,
        desk_splits count id (with_guest (Some own) desk) s.words s.views kept (with_guest None desk) own fits refl f.guest
            (omega arith) (λ n. omega arith) (λ p. omega arith),
      )

  guest_of : (s : State S View) (other : ℕ) (own : Own) (view : View) → IsKept count id desk s.words s.views → (other ≡ id → ⊥)
      → get_elem? (set s.views id view) other ≡ some (Session own) → IsHolder desk.epochs own
  guest_of s other own view kept apart there = elim (at_set s.views id other view (Session own) there) [
    | inl it ↦ absurd (apart it.0)
    | inr before ↦ kept.holders other own before.1
  ]

  -- a session visits
  pub visit_allowed : (other : ℕ) (own : Own) → Joins (Holds {S = S} count) id (Keeper (with_guest None desk)) other (Session own) (welcoming (Keeper (with_guest None desk)) (Session own)) Spent
  visit_allowed other own s holds at apart there =
      let before : Desk = with_guest None desk in
      let kept : IsKept count id before s.words s.views = as_keeper count s id before holds at in
      let f = kept.fits in
      let holds' : IsHolder desk.epochs own = elim (at_set s.views id other (Keeper (with_guest (Some own) desk)) (Session own) there) [
        | inl it ↦ absurd (apart it.0)
        | inr earlier ↦ kept.holders other own earlier.1
      ] in
      let fits : IsDesk (with_guest (Some own) desk) = record {
        last = f.last;
        pins = f.pins;
        pinned = f.pinned;
        made = f.made;
        guest = holds';
        ended = f.ended;
        misses = f.misses;
      } in (
        id,
        with_guest (Some own) desk,
        desk_joins count id before s.words s.views kept (with_guest (Some own) desk) own other apart there fits refl refl
            (omega arith) (λ n. omega arith) (λ p. omega arith),
      )

  -- a session ends
  pub end_allowed : (other : ℕ) (own : Own) → ((p : ℕ) → has own.uses p ≡ false) → Joins (Holds {S = S} count) id (Keeper desk) other (Session own) (ending (Keeper desk) (Session own)) Spent
  end_allowed other own unused s holds at apart there =
      let kept = as_keeper count s id desk holds at in
      let f = kept.fits in
      let holds' = guest_of s other own (Keeper (with_ended own desk)) kept apart there in
      let last : Ended = record { number = own.number; tries = own.tries } in
      let fits : IsDesk (with_ended own desk) = record {
        last = f.last;
        pins = f.pins;
        pinned = f.pinned;
        made = f.made;
        guest = f.guest;
        ended = All-push (λ (session : Ended). AreTries desk.epochs session.tries) desk.ended last f.ended holds'.tries;
        misses = f.misses;
      } in (
        id,
        with_ended own desk,
        desk_joins count id desk s.words s.views kept (with_ended own desk) own other apart there fits refl refl
            (omega (arith, length-append desk.ended (last ∷ [])))
            (λ n. let pushed = total-push (λ (session : Ended). one_if (nat_eq n session.number)) desk.ended last in omega arith)
            (λ p. let none : own_uses p own ≡ 0 = ap one_if (unused p) in omega arith),
      )

-- the words at the making: each patch that is there is pinned
abbrev pub AreOpened : List ℕ → List ℕ → Type 0
AreOpened epochs words = (p : ℕ) → p < length epochs → get_or words p 0 ≡ get_or epochs p 0 * 4294967296 + get_or epochs p 0 % 2

-- the pin of a patch at the making
pin-opened : (epochs : List ℕ) (p : ℕ) → get_or (opened_at epochs).pins p 0 ≡ get_or epochs p 0 % 2
pin-opened epochs p = get_or-map (λ (epoch : ℕ). epoch % 2) epochs p 0

pub opened_fits : (epochs : List ℕ) → ((p : ℕ) → get_or epochs p 0 ≤ 4294967294) → IsDesk (opened_at epochs)
opened_fits epochs small = record {
  last = small;
  pins = λ p. let pin = pin-opened epochs p in omega arith;
  pinned = λ p pin. let odd : get_or epochs p 0 % 2 ≡ 1 = sym (pin-opened epochs p) ∙ pin in rw odd refl;
  made = omega arith;
  guest = tt;
  ended = All-nil (λ (session : Ended). AreTries epochs session.tries);
  misses = All-nil (λ (miss : ℕ × ℕ). 1 ≤ miss.1);
}

pub starts : (S : Type 0) (epochs words : List ℕ) → ((p : ℕ) → get_or epochs p 0 ≤ 4294967294) → length words ≡ length epochs → AreOpened epochs words
    → Holds {S = S} (length epochs) (opening words [] (Keeper (opened_at epochs)))
unfolding total
starts S epochs words small many are = (
  0,
  opened_at epochs,
  record {
    sits = refl;
    only = λ seat other there. first seat other there;
    fits = opened_fits epochs small;
    holders = λ seat own there. nobody seat own there;
    many = many;
    known = refl;
    word_is = λ p below. let is = are p below in let pin = pin-opened epochs p in omega arith;
    allowances = refl;
    numbers = λ n. let none = none_made n in omega arith;
  },
)
  where
    first : (seat : ℕ) (other : Desk) → get_elem? (Keeper (opened_at epochs) ∷ []) seat ≡ some (Keeper other) → seat ≡ 0
    first zero other there = refl
    first (suc seat) other there = absurd (cc)

    nobody : (seat : ℕ) (own : Own) → get_elem? (Keeper (opened_at epochs) ∷ []) seat ≡ some (Session own) → IsHolder epochs own
    nobody zero own there = absurd (cc)
    nobody (suc seat) own there = absurd (cc)

-- where the keeper has all allowances, a word has its pins alone
pub closes : (S : Type 0) (count id : ℕ) (desk : Desk) (words : List ℕ) (slots : List S) → desk.guest ≡ None → desk_allowance desk ≡ 65
    → Final (Seen (Holds {S = S} count) id (Keeper desk)) words slots
    → (length words ≡ count) × ((p : ℕ) → p < count → get_or words p 0 ≡ get_or desk.epochs p 0 * 4294967296 + get_or desk.pins p 0)
closes S count id desk words slots alone all (s, holds, same, sized, homes) =
    let kept : IsKept count id desk s.words s.views = as_keeper count s id desk holds.0 holds.1 in
    let guest : (p : ℕ) → of_guest (own_uses p) desk.guest ≡ 0 = λ p. ap (of_guest (own_uses p)) alone in (
      sym (ap length same) ∙ kept.many,
      λ p below.
          let is = kept.word_is p below in
          let own = uses-keepers count id desk s.words s.views kept p all in
          let none = guest p in
          let read : get_or s.words p 0 ≡ get_or words p 0 = ap (λ (ws : List ℕ). get_or ws p 0) same in
          omega arith,
    )
