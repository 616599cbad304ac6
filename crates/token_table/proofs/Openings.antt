-- The rule holds when a table is made.
use Rattle.std.proofs.Common.{◌≡◌, ℕ, zero, suc, ◌+◌, ◌*◌, ◌%◌, ◌<◌, ◌≤◌, false, List, [], ◌∷◌, length, map, get_or, All, refl, sym, ap, subst, ◌∙◌, arith, Result, Ok, Err, IfOk}
use Rattle.std.proofs.lemmas.List.{length-map, get_or-map}
use Rattle.std.proofs.lemmas.List.Elements.{All-head, All-tail}
use Rattle.std.proofs.Math.ListN.{get_or-eq_default}
use mathlib.Core.Logic.{dite}
use native.Mathlib.Decide.{dec_le}
use Rattle.atomic_table.specs.Table.{Me, opening}
use Rattle.atomic_table.specs.Seated.{TableId}
use Rattle.token_table.specs.declared.knowledge.View.{View}
use Rattle.token_table.specs.declared.knowledge.View.TheVariants.{Keeper}
use Rattle.token_table.specs.declared.making.Made.{Made}
use Rattle.token_table.specs.Known.{has, one_if}
use Rattle.token_table.specs.WordRule.{Holds, opened_at}
use Rattle.token_table.specs.Changes.{seated}
use Rattle.token_table.specs.Seats.{IsAtDesk}
use Rattle.token_table.specs.Makings.{AreStarts, IsMade, IsMadeAt}
use Rattle.token_table.proofs.Sets.{nat_eq-other, one_if-le}
use Rattle.token_table.proofs.Passages.{opened_fits, starts}

-- the epochs at the making are below the last
pub starts_small : (start patches : ℕ) (base epochs : List ℕ) → AreStarts start patches base epochs → start < 4294967294 → (p : ℕ) → get_or epochs p 0 ≤ 4294967294
starts_small start patches base epochs are below p = dite (dec_le (length epochs) p)
    (λ past. let none : get_or epochs p 0 ≡ 0 = get_or-eq_default epochs 0 past in omega arith)
    (λ within.
    let least : p < patches = (let many = are.many in omega arith) in
    let is = are.each p least in
    let one = one_if-le (has base p) in
    omega arith)

module _ (S : Type 0) (start patches : ℕ) (base epochs words : List ℕ) (are : AreStarts start patches base epochs) (below : start < 4294967294)
    (whole : words ≡ map (λ epoch. epoch * 4294967296 + epoch % 2) epochs) where
  many : length words ≡ length epochs
  many = ap length whole ∙ length-map epochs (λ (epoch : ℕ). epoch * 4294967296 + epoch % 2)

  -- the table is made with a use for each patch that is there
  pub starts_pinned : Holds {S = S} (length epochs) (opening words [] (Keeper (opened_at epochs)))
  starts_pinned =
      starts S epochs words (starts_small start patches base epochs are below) many
      (λ p within. ap (λ (ws : List ℕ). get_or ws p 0) whole ∙ get_or-map (λ (epoch : ℕ). epoch * 4294967296 + epoch % 2) epochs p 0 0 within)

  -- the keeper's seat at that table
  pub starts_seated : (table home : TableId) (me : Me S View) → table.words ≡ length words → home ≡ table → me ≡ seated (Keeper (opened_at epochs)) → IsAtDesk home me epochs
  starts_seated table home me counted here knows = subst (λ (m : Me S View). IsAtDesk home m epochs) (sym knows) (record {
    knows = refl;
    fits = opened_fits epochs (starts_small start patches base epochs are below);
    alone = refl;
    epochs_are = refl;
    many = sym (ap (λ (t : TableId). t.words) here ∙ (counted ∙ many));
  })

-- where no epoch is over 1, the pins are the epochs
few_pins : (epochs : List ℕ) → ((p : ℕ) → get_or epochs p 0 ≤ 1) → map (λ epoch. epoch % 2) epochs ≡ epochs
few_pins [] few = refl
few_pins (epoch ∷ epochs) few =
    let here : epoch ≤ 1 = few zero in
    let same : epoch % 2 ≡ epoch = omega arith in
    let rest : map (λ epoch. epoch % 2) epochs ≡ epochs = few_pins epochs (λ p. few (suc p)) in
    ap (λ (e : ℕ). e ∷ map (λ epoch. epoch % 2) epochs) same ∙ ap (λ (es : List ℕ). epoch ∷ es) rest

has-past : (base : List ℕ) (patches p : ℕ) → All (λ patch. patch < patches) base → patches ≤ p → has base p ≡ false
has-past [] patches p below past = refl
has-past (patch ∷ base) patches p below past =
    let here : patch < patches = All-head (λ patch. patch < patches) patch base below in
    rw (nat_eq-other p patch (λ same. omega arith)) (has-past base patches p (All-tail (λ patch. patch < patches) patch base below) past)

-- epochs that begin at 0 are the pins
zero_pins : (patches : ℕ) (base epochs : List ℕ) → All (λ patch. patch < patches) base → AreStarts 0 patches base epochs → (p : ℕ) → get_or epochs p 0 ≡ one_if (has base p)
zero_pins patches base epochs below are p = dite (dec_le patches p)
    (λ past.
    let none : get_or epochs p 0 ≡ 0 = get_or-eq_default epochs 0 (let many = are.many in omega arith) in
    none ∙ sym (ap one_if (has-past base patches p below past)))
    (λ within. let is = are.each p (omega arith) in omega arith)

pub made_at_zero : (patches : ℕ) (base : List ℕ) (sessions : ℕ) (made : Made) → All (λ patch. patch < patches) base → IsMadeAt 0 patches base sessions made → IsMade patches base sessions made
made_at_zero patches base sessions made below is =
    let epochs : List ℕ = made.keeper.desk.epochs in
    let each = zero_pins patches base epochs below is.epochs in
    let few : (p : ℕ) → get_or epochs p 0 ≤ 1 = λ p. rw (each p) (one_if-le (has base p)) in
    let pins : made.keeper.desk.pins ≡ epochs = ap (λ desk. desk.pins) is.desk ∙ few_pins epochs few in
    record {
      words = is.words;
      keeper = is.keeper;
      pins = record {
        many = ap length pins ∙ is.epochs.many;
        each = λ p. ap (λ (ps : List ℕ). get_or ps p 0) pins ∙ each p;
      };
      desk = (let same = few_pins epochs few in let told = is.desk in cc);
      seats = is.seats;
    }

pub result_at_zero : {E : Type 0} (patches : ℕ) (base : List ℕ) (sessions : ℕ) (result : Result Made E) → All (λ patch. patch < patches) base
    → IfOk result (IsMadeAt 0 patches base sessions) → IfOk result (IsMade patches base sessions)
result_at_zero patches base sessions (Ok made) below is = made_at_zero patches base sessions made below is
result_at_zero patches base sessions (Err e) below is = tt
